-- How streams end in what was told, and all streams of a link for one cause.
use Rattle.std.proofs.Common.{◌≡◌, ℕ, zero, suc, Bool, true, false, cond, List, [], ◌∷◌, ◌++◌, Option, Some, None, refl, ap, ◌∙◌, eqb}
use Rattle.std.specs.Prelude.{codes, nat_eq}
use Rattle.std.proofs.lemmas.Bool.{eqb-true}
use Rattle.adb_outside.specs.Tables.{Rows}
use Rattle.adb_stream.specs.declared.row.Stream.{Stream}
use Rattle.adb_client.specs.declared.phase.Phase.{Phase}
use Rattle.adb_client.specs.declared.phase.Phase.TheVariants.{Streaming}
use Rattle.adb_history.specs.Rows.{Client, State}
use Rattle.adb_history.specs.Events.{Event, quietly, due_to_client, due_to_link, ended, ending_in}
use Rattle.adb_history.specs.declared.ending.Ending.{Ending}
use Rattle.adb_history.specs.declared.ending.Ending.TheVariants.{Stopped}
use Rattle.adb_history.specs.Clients.{owe_client}
use Rattle.adb_history.specs.Streams.{loses, client_loses, ends_row, ends_if_of, ends_of, all_end}
use Rattle.adb_history.specs.Losing.{tells_stop, all_stop}
use Rattle.adb_history.specs.Packets.{hears_okay}
use Rattle.adb_history.specs.Answered.{tells_closed}
use Rattle.adb_history.specs.Moves.{After}
use Rattle.adb_history.proofs.Following.{after_quietly, after_then, after_if}

-- ---- the first ending
abbrev pub first_of : Option Ending → Option Ending → Option Ending
first_of None later = later
first_of (Some ending) later = Some ending

pub ending_append : (l : ℕ) (es fs : List Event) → ending_in l (es ++ fs) ≡ first_of (ending_in l es) (ending_in l fs)
ending_append l [] fs = refl
ending_append l (due_to_client client bytes ∷ es) fs = ending_append l es fs
ending_append l (due_to_link link packet check ∷ es) fs = ending_append l es fs
ending_append l (ended stream ending ∷ es) fs = go (eqb stream l) (ending_append l es fs)
  where
    go : (b : Bool) → ending_in l (es ++ fs) ≡ first_of (ending_in l es) (ending_in l fs)
        → cond b (Some ending) (ending_in l (es ++ fs)) ≡ first_of (cond b (Some ending) (ending_in l es)) (ending_in l fs)
    go true e = refl
    go false e = e

-- an ending of which the client is told nothing changes nothing of what it is told
pub quiet_ending : (before later : Option Ending) → tells_closed later ≡ false → tells_closed (first_of before later) ≡ tells_closed before
quiet_ending None later quiet = quiet
quiet_ending (Some ending) later quiet = refl

pub none_first : (before later : Option Ending) → before ≡ None → later ≡ None → first_of before later ≡ None
none_first before later e f = ap (λ o. first_of o later) e ∙ f

-- ---- rules that tell of no ending
module _ (l : ℕ) where
  loses_ending : (forwarded : Bool) (p : Phase) (n : ℕ) (s : State) → ending_in l (loses forwarded p n s).told ≡ None
  loses_ending true (Streaming k) n s = refl
  loses_ending false (Streaming k) n s = refl
  loses_ending true _ n s = refl
  loses_ending false _ n s = refl

  pub client_loses_ending : (o : Option Client) (n : ℕ) (s : State) → ending_in l (client_loses o n s).told ≡ None
  client_loses_ending None n s = refl
  client_loses_ending (Some x) n s = loses_ending x.about.forwarded x.about.phase n s

  pub hears_ending : (o : Option Client) (n : ℕ) (s : State) → ending_in l (hears_okay o n s).told ≡ None
  hears_ending None n s = refl
  hears_ending (Some x) n s = go x.about.forwarded
    where
      go : (b : Bool) → ending_in l (cond b (quietly s) (owe_client n (codes "OKAY") s)).told ≡ None
      go true = refl
      go false = refl

  -- when the server stops, its clients are not told why
  pub all_stop_ending : (n : ℕ) (streams : Rows (Option Stream)) → tells_closed (ending_in l (all_stop n streams)) ≡ false
  all_stop_ending zero streams = refl
  all_stop_ending (suc n) streams =
      ap tells_closed (ending_append l (all_stop n streams) (tells_stop (suc n) (streams (suc n))))
      ∙ (quiet_ending (ending_in l (all_stop n streams)) (ending_in l (tells_stop (suc n) (streams (suc n)))) (one (streams (suc n)))
      ∙ all_stop_ending n streams)
    where
      at : (b : Bool) → tells_closed (cond b (Some Stopped) None) ≡ false
      at true = refl
      at false = refl

      told : (b : Bool) → tells_closed (ending_in l (cond b [] (ended (suc n) Stopped ∷ []))) ≡ false
      told true = refl
      told false = at (eqb (suc n) l)

      one : (o : Option Stream) → tells_closed (ending_in l (tells_stop (suc n) o)) ≡ false
      one None = refl
      one (Some stream) = told stream.part.orphan

-- ---- all streams of a link
module _ {P : State → List Event → Type 0} (t : ℕ) (ending : Ending)
    (ends : (l : ℕ) (stream : Stream) (s : State) (w : List Event) → (s.streams l ≡ Some stream) × (stream.link ≡ t) → P s w
    → After P w (ends_row l ending stream s)) where
  ends_of_by : (n : ℕ) (s : State) (w : List Event) → P s w → After P w (ends_of t n ending s)
  ends_of_by zero s w h = after_quietly P w s h
  ends_of_by (suc n) s w h =
      after_then P w (ends_of t n ending s) (λ s. ends_if_of t (suc n) ending (s.streams (suc n)) s) (ends_of_by n s w h)
      (λ v now. go (ends_of t n ending s).state v ((ends_of t n ending s).state.streams (suc n)) refl now)
    where
      go : (s : State) (v : List Event) (o : Option Stream) → s.streams (suc n) ≡ o → P s v → After P v (ends_if_of t (suc n) ending o s)
      go s v None is h = after_quietly P v s h
      go s v (Some stream) is h =
          after_if P v (nat_eq stream.link t) (ends_row (suc n) ending stream s) (quietly s)
          (λ e. ends (suc n) stream s v (is, eqb-true stream.link t e) h) (λ e. after_quietly P v s h)

  -- What the end of a stream of a link keeps for one cause, the end of all streams of the link keeps for that cause.
  pub all_end_by : (s : State) (w : List Event) → P s w → After P w (all_end t ending s)
  all_end_by s w h = ends_of_by s.drawn s w h
