-- What a hub that was asked for a hand-out says of it.
use Rattle.std.proofs.Common.{ℕ, ◌≡◌, true, false, Bool, if◌then◌else◌, List, [], ◌∷◌, ◌++◌, length, take, Option, Some, None, Result, Ok}
use Rattle.std.proofs.Common.{Err}
use Rattle.std.proofs.Common.{refl, sym, ◌∙◌, ap, subst, arith}
use Rattle.std.specs.Prelude.{IfOk, OnErr, bytes_eq, max}
use Rattle.std.proofs.lemmas.List.{take_at}
use Rattle.std.proofs.lemmas.Slice.Eq.{bytes_eq-Decides}
use Rattle.adb_capture.specs.declared.entry.Entry.{Entry}
use Rattle.adb_capture.specs.declared.entry.Entry.TheVariants.{Put, Send}
use Rattle.adb_history.specs.Rows.{Client, Link, State}
use Rattle.adb_history.specs.Machine.{History, state, IsSomeOf, MayPut, MaySend}
use Rattle.adb_history.specs.Accepted.{is_drawn}
use Rattle.adb_history.specs.Kept.{Kept, IsLawful}
use Rattle.adb_hub.specs.declared.answers.Handed.{Handed}
use Rattle.adb_hub.specs.declared.answers.Handed.TheVariants.{Bytes, Nothing, Done}
use Rattle.adb_hub.specs.declared.error.HubError.{HubError}
use Rattle.adb_hub.specs.declared.error.HubError.TheVariants.{Stopped, NoClient, NoLink, Numbers, Full, BadSerial, OutOfMemory}
use Rattle.adb_hub.specs.Refusal.{unless_drawn}
use Rattle.adb_hub.specs.Answers.{HandsOut, Hands, offered_to, due_on}
use Rattle.adb_check.specs.declared.verdict.Rule.TheVariants.{NotDrawn, NotDue}
use Rattle.adb_check.specs.Rules.{IsNotDue, KeepsBefore}
use Rattle.adb_check.specs.Judging.{Takes, handed_rule, broken_by}
use Rattle.adb_check.proofs.Breaking.{drawn_tested, drawn_is}

-- as many bytes as were handed out, and at least one
abbrev pub asked_for : List ℕ → ℕ
asked_for bytes = max (length bytes) 1

all_of_it : (bytes all : List ℕ) → IsSomeOf bytes all → take (asked_for bytes) all ≡ bytes
all_of_it [] all of_it = absurd (of_it.some refl)
all_of_it (b ∷ bytes) all of_it =
    ap (take (asked_for (b ∷ bytes))) (sym of_it.front.1) ∙ take_at (b ∷ bytes) of_it.front.0 (asked_for (b ∷ bytes)) (grind (arith))

none_of_it : (bytes : List ℕ) → ¬ IsSomeOf bytes []
none_of_it [] of_it = of_it.some refl
none_of_it (b ∷ bytes) of_it = let apart : b ∷ (bytes ++ of_it.front.0) ≡ [] = of_it.front.1 in cc

-- some of the first bytes of who lives
abbrev pub MayHand : Option (List ℕ) → List ℕ → Type 0
MayHand None bytes = ⊥
MayHand (Some all) bytes = IsSomeOf bytes all

-- A hub was asked for so many bytes of one that was drawn.
module _ (h : History) (old new : Kept) (e : List ℕ → Entry) (bytes : List ℕ) (before : KeepsBefore NotDue (state h) (e bytes)) where
  module _ (all : Option (List ℕ)) (other : ¬ MayHand all bytes → IsNotDue (state h) (e bytes)) where
    compared : (due : List ℕ) (same : Bool) → bytes_eq due bytes ≡ same → HandsOut e (asked_for bytes) all (Bytes due) h old new
        → Takes (if same then None else Some NotDue) (e bytes) h new
    compared due true is out = lawful all out
      where
        same : due ≡ bytes
        same = (bytes_eq-Decides due bytes).0 is

        lawful : (all : Option (List ℕ)) → HandsOut e (asked_for bytes) all (Bytes due) h old new → IsLawful new (e bytes ∷ h)
        lawful None out = absurd out
        lawful (Some bytes) out = subst (λ (b : List ℕ). IsLawful new (e b ∷ h)) same out.2
    compared due false is out = record { breaks = other (apart all out); before = before }
      where
        apart : (all : Option (List ℕ)) → HandsOut e (asked_for bytes) all (Bytes due) h old new → ¬ MayHand all bytes
        apart None out may = may
        apart (Some all) out may =
            let same : due ≡ bytes = out.0 ∙ all_of_it bytes all may in
            let clash : false ≡ true = sym is ∙ (bytes_eq-Decides due bytes).1 same in
            cc

    nothing : HandsOut e (asked_for bytes) all Nothing h old new → ¬ MayHand all bytes
    nothing out = go all out
      where
        go : (all : Option (List ℕ)) → HandsOut e (asked_for bytes) all Nothing h old new → ¬ MayHand all bytes
        go None out may = may
        go (Some all) out may = none_of_it bytes (subst (IsSomeOf bytes) out.0 may)

    gone : HandsOut e (asked_for bytes) all Done h old new → ¬ MayHand all bytes
    gone out = go all out
      where
        go : (all : Option (List ℕ)) → HandsOut e (asked_for bytes) all Done h old new → ¬ MayHand all bytes
        go None out may = may
        go (Some all) out may = out

    pub handed_takes : (given : Handed) → HandsOut e (asked_for bytes) all given h old new → Takes (handed_rule given bytes) (e bytes) h new
    handed_takes (Bytes due) out = compared due (bytes_eq due bytes) refl out
    handed_takes Nothing out = record { breaks = other (nothing out); before = before }
    handed_takes Done out = record { breaks = other (gone out); before = before }

-- ---- whether its number was drawn
tested : (test : Bool) (why : HubError) → unless_drawn test why ≡ None → test ≡ true
tested true why e = refl
tested false why e = absurd (let apart : Some why ≡ None = e in cc)

untested : (test : Bool) (why told : HubError) → unless_drawn test why ≡ Some told → test ≡ false
untested true why told e = absurd (let apart : None ≡ Some told = e in cc)
untested false why told e = refl

no_kill : {A : Type 0} → false ≡ true → A
no_kill e = absurd (let apart : false ≡ true = e in cc)

-- ---- a client
module _ (h : History) (old new : Kept) (c : ℕ) (bytes : List ℕ) where
  client_before : is_drawn (state h).joined c ≡ true → KeepsBefore NotDue (state h) (Put c bytes)
  client_before drawn = (λ k. no_kill k.0, λ other. other (drawn_is (state h).joined c drawn), λ x. x, λ x. x)

  client_may : (row : Option Client) → ¬ MayHand (offered_to (state h).devices row) bytes → ¬ MayPut (state h) row bytes
  client_may None other may = may
  client_may (Some client) other may = other may

  no_client : (told : HubError) → unless_drawn (is_drawn (state h).joined c) (NoClient c) ≡ Some told
      → Takes (Some NotDrawn) (Put c bytes) h new
  no_client told is = record {
    breaks = λ drawn. no_kill (sym (untested (is_drawn (state h).joined c) (NoClient c) told is) ∙ drawn_tested (state h).joined c drawn);
    before = λ k. no_kill k.0;
  }

  pub put_taken : (answer : Result Handed HubError)
      → Hands (Put c) (asked_for bytes) (λ (s : State). offered_to s.devices (s.clients c)) answer h old new
      → IfOk (broken_by answer bytes) (λ broken. Takes broken (Put c bytes) h new)
  put_taken (Ok given) hands =
      handed_takes h old new (Put c) bytes (client_before (tested (is_drawn (state h).joined c) (NoClient c) hands.0))
      (offered_to (state h).devices ((state h).clients c)) (client_may ((state h).clients c)) given hands.1
  put_taken (Err OutOfMemory) hands = tt
  put_taken (Err Stopped) hands = no_client Stopped hands
  put_taken (Err (NoClient n)) hands = no_client (NoClient n) hands
  put_taken (Err (NoLink n)) hands = no_client (NoLink n) hands
  put_taken (Err Numbers) hands = no_client Numbers hands
  put_taken (Err Full) hands = no_client Full hands
  put_taken (Err BadSerial) hands = no_client BadSerial hands

-- ---- a link
module _ (h : History) (old new : Kept) (t : ℕ) (bytes : List ℕ) where
  link_before : is_drawn (state h).devices.drawn t ≡ true → KeepsBefore NotDue (state h) (Send t bytes)
  link_before drawn = (λ k. no_kill k.0, λ other. other (drawn_is (state h).devices.drawn t drawn), λ x. x, λ x. x)

  link_may : (row : Option Link) → ¬ MayHand (due_on row) bytes → ¬ MaySend row bytes
  link_may None other may = may
  link_may (Some link) other may = other may

  no_link : (told : HubError) → unless_drawn (is_drawn (state h).devices.drawn t) (NoLink t) ≡ Some told
      → Takes (Some NotDrawn) (Send t bytes) h new
  no_link told is = record {
    breaks = λ drawn. no_kill
        (sym (untested (is_drawn (state h).devices.drawn t) (NoLink t) told is)
        ∙ drawn_tested (state h).devices.drawn t drawn);
    before = λ k. no_kill k.0;
  }

  pub sent_taken : (answer : Result Handed HubError) → Hands (Send t) (asked_for bytes) (λ (s : State). due_on (s.links t)) answer h old new
      → IfOk (broken_by answer bytes) (λ broken. Takes broken (Send t bytes) h new)
  sent_taken (Ok given) hands =
      handed_takes h old new (Send t) bytes (link_before (tested (is_drawn (state h).devices.drawn t) (NoLink t) hands.0))
      (due_on ((state h).links t)) (link_may ((state h).links t)) given hands.1
  sent_taken (Err OutOfMemory) hands = tt
  sent_taken (Err Stopped) hands = no_link Stopped hands
  sent_taken (Err (NoClient n)) hands = no_link (NoClient n) hands
  sent_taken (Err (NoLink n)) hands = no_link (NoLink n) hands
  sent_taken (Err Numbers) hands = no_link Numbers hands
  sent_taken (Err Full) hands = no_link Full hands
  sent_taken (Err BadSerial) hands = no_link BadSerial hands

-- ---- as before
-- a hub that is as before where it answers an error is so where want of memory is told
pub err_same : (old new : Kept) (answer : Result Handed HubError) (bytes : List ℕ) → OnErr answer (new ≡ old)
    → OnErr (broken_by answer bytes) (new ≡ old)
err_same old new (Ok given) bytes same = tt
err_same old new (Err OutOfMemory) bytes same = same
err_same old new (Err Stopped) bytes same = tt
err_same old new (Err (NoClient n)) bytes same = tt
err_same old new (Err (NoLink n)) bytes same = tt
err_same old new (Err Numbers) bytes same = tt
err_same old new (Err Full) bytes same = tt
err_same old new (Err BadSerial) bytes same = tt
