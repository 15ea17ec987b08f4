-- Who is gone stays so.
use Rattle.std.specs.Prelude.{ℕ, ◌≡◌, ◌≢◌, Bool, true, false, cond, nat_eq, List, [], ◌∷◌, Option, Some, None, option_map, option_and_then}
use Rattle.std.proofs.Common.{refl, ◌∙◌, ap, inl, inr}
use Rattle.std.proofs.lemmas.Bool.{ne_eqb}
use Rattle.adb_outside.specs.Tables.{Rows, change_row}
use Rattle.adb_outside.specs.declared.kinds.Cause.{Cause}
use Rattle.adb_capture.specs.declared.entry.Entry.{Entry}
use Rattle.adb_capture.specs.declared.entry.Entry.TheVariants.{Join, Read, End, Recv, Put, Send}
use Rattle.adb_history.specs.Asking.{asks_with}
use Rattle.adb_history.specs.Bytes.{has_ended}
use Rattle.adb_history.specs.Events.{Event}
use Rattle.adb_history.specs.Machine.{History, state}
use Rattle.adb_history.specs.Reading.{asked_before, has_asked}
use Rattle.adb_history.specs.Rows.{Client, State, new_client}
use Rattle.adb_history.specs.Tracking.{marked}
use Rattle.adb_history.proofs.PlainMoves.{Plain, plain_moves}
use Rattle.adb_history.proofs.RuleMoves.{Begins, step_kept}
use Rattle.adb_world.specs.Parts.{IsKeptAt}

gone_change : {A : Type 0} (rows : Rows (Option A)) (n c : ℕ) (f : A → Option A) → rows n ≡ None
    → change_row c (option_and_then f) rows n ≡ None
gone_change rows n c f none = go (nat_eq c n)
  where
    go : (b : Bool) → cond b (option_and_then f (rows n)) (rows n) ≡ None
    go true = ap (option_and_then f) none
    go false = none

-- nobody is there
abbrev NoneThere : ℕ → State → List Event → Type 0
NoneThere n s w = s.clients n ≡ None

gone_plain : (n : ℕ) → Plain (NoneThere n)
gone_plain n = record {
  tells_link = λ t p check s w of h. h;
  tells_client = λ c bytes s w h. h;
  tells_end = λ l ending s w h. h;
  client = λ c f s w h. gone_change s.clients n c f h;
  link = λ t f s w h. h;
  stream = λ l f s w h. h;
  draws = λ credit c t s w h. h;
  marks = λ s w h. ap (option_map marked) h;
  devices = λ rows s w h. h;
  forwards = λ forwards s w h. h;
  kills = λ c s w h. only (nat_eq c n) (s.clients n) h;
}
  where
    only : (b : Bool) (o : Option Client) → o ≡ None → cond b o None ≡ None
    only true o h = h
    only false o h = refl

module _ (h : History) (n : ℕ) (gone : (state h).clients n ≡ None) where
  behind : (e : Entry) → Begins (plain_moves (gone_plain n)) e (state h) [] → (state (e ∷ h)).clients n ≡ None
  behind e begins = step_kept (plain_moves (gone_plain n)) e (state h) [] begins

  pub gone_put : (c : ℕ) (bytes : List ℕ) → (state (Put c bytes ∷ h)).clients n ≡ None
  gone_put c bytes = behind (Put c bytes) gone

  pub gone_send : (t : ℕ) (bytes : List ℕ) → (state (Send t bytes ∷ h)).clients n ≡ None
  gone_send t bytes = behind (Send t bytes) gone

  pub gone_recv : (t : ℕ) (bytes : List ℕ) → (state (Recv t bytes ∷ h)).clients n ≡ None
  gone_recv t bytes = behind (Recv t bytes) gone

  pub gone_end : (c : ℕ) (cause : Cause) → (state (End c cause ∷ h)).clients n ≡ None
  gone_end c cause = behind (End c cause) gone

  pub gone_read : (c : ℕ) (bytes : List ℕ) → (state (Read c bytes ∷ h)).clients n ≡ None
  gone_read c bytes =
      behind (Read c bytes) (
        gone,
        λ client is asking.
            gone_change (state h).clients n c (has_asked (asks_with (state h).devices (state h).forwards bytes (asked_before client))) gone,
      )

  pub gone_join : (c : ℕ) → c ≢ n → (state (Join c ∷ h)).clients n ≡ None
  gone_join c other =
      behind (Join c)
      (ap (λ (b : Bool). cond b (Some (new_client false c)) ((state h).clients n)) (ne_eqb c n other) ∙ gone)

-- A number under which no session is kept, behind an entry.
pub none_stays : (given c : ℕ) (e : Entry) (h : History) → (has_ended c h ≡ true → has_ended c (e ∷ h) ≡ true)
    → ((state h).clients c ≡ None → (state (e ∷ h)).clients c ≡ None) → IsKeptAt given h c None → IsKeptAt given (e ∷ h) c None
none_stays given c e h ended gone (inl never) = inl never
none_stays given c e h ended gone (inr over) = inr (record { drawn = over.drawn; ended = ended over.ended; gone = gone over.gone })
