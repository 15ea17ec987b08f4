-- What a simple command that takes no words makes of words.
use Rattle.std.proofs.Common.{◌≡◌, ◌≢◌, ◌⊎◌, inl, inr, true, false, List, [], ◌∷◌, None, refl, sym, ◌∙◌, ap, true≢false}
use Rattle.std.specs.List.{list_all}
use Rattle.clap.specs.Walk.{Text, nothing_held, walk, walked}
use Rattle.clap.specs.Simple.{Shape, built}
use Rattle.clap.specs.Faults.{fault_of, walk_fault}
use Rattle.clap.specs.Kinds.{Kinds, or_else}
use Rattle.clap.specs.declared.error.kind.ErrorKind.TheVariants as kind
use Rattle.clap.proofs.OnLiterals.{clap_on_literals}
use Rattle.adb_words.specs.Words.{is_operand, bare_of}
use Rattle.adb_words.specs.declared.command.Command.{Command}
use Rattle.adb_words.specs.Apps.{app_named}
use Rattle.adb_words.proofs.Plain.{IsPlain, plain, at_place, fault_plain, behind, fault_is, filled, split}

module _ (name : Text) where
  abbrev shape : Shape
  shape = (built (app_named name)).top

  none_pass : fault_of (app_named name) [] ≡ []
  unfolding clap_on_literals
  none_pass = refl

  word_fails : (a : Text) (words : List Text) → IsPlain a → fault_of (app_named name) (a ∷ words) ≡ kind.UnknownArgument ∷ []
  unfolding clap_on_literals
  word_fails a words p = fault_is (app_named name) (a ∷ words) refl refl
      ∙ ap (λ kinds. behind shape kinds (walk shape.rules [] nothing_held (a ∷ words)).held)
      (ap (λ (kinds : Kinds). or_else kinds (walk_fault shape [] (walked shape.rules [] (at_place nothing_held 1) a) words))
      (fault_plain shape 1 a nothing_held p))

  pub bare_taken : (words : List Text) → list_all is_operand words ≡ true → fault_of (app_named name) words ≡ [] → words ≡ []
  bare_taken [] all none = refl
  bare_taken (a ∷ words) all none =
      absurd (filled kind.UnknownArgument (sym (word_fails a words (plain a (split _ _ all).0)) ∙ none))

  pub bare_refused : (command : Command) (words : List Text) → (list_all is_operand words ≡ false) ⊎ (fault_of (app_named name) words ≢ [])
      → bare_of command words ≡ None
  bare_refused command [] (inl e) = absurd (true≢false e)
  bare_refused command [] (inr some) = absurd (some none_pass)
  bare_refused command (a ∷ words) h = refl
