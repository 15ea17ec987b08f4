-- On links that live check words are looked at as before.
use Rattle.std.proofs.Common.{ℕ, Bool, true, false, cond, eqb, length, drop, Option, Some, None, refl}
use Rattle.std.specs.Prelude.{option_and_then}
use Rattle.adb_outside.specs.declared.kinds.Cause.{Cause}
use Rattle.adb_capture.specs.declared.entry.Entry.TheVariants.{End}
use Rattle.adb_history.specs.Rows.{Client, Link, State, to_client}
use Rattle.adb_history.specs.declared.ending.Ending.{Ending}
use Rattle.adb_history.specs.Losing.{client_ends, link_ends}
use Rattle.adb_history.specs.Handing.{link_hands, sends, hands, client_left, takes_of}
use Rattle.adb_history.specs.Machine.{step, ups}
use Rattle.adb_history.proofs.Growing.{keeps_then}
use Rattle.adb_history.proofs.GrowingRules.{keeps_client_ends, keeps_up_all}
use Rattle.adb_history.proofs.GrowingPackets.{keeps_client_left}
use Rattle.adb_history.proofs.LinkChanges.{changes_link_ends}
use Rattle.adb_laws_resting.proofs.Reached.{IsWithin}
use Rattle.adb_laws_resting.proofs.Fitting.{SumsStay, same_sums, step_sums}

-- some of what is due to a link is handed out
pub sums_sends : (t n : ℕ) (s : State) (k : ℕ) → SumsStay (s.links k) ((sends t n s).links k)
sums_sends t n s k = go (eqb t k) (s.links k)
  where
    go : (here : Bool) (row : Option Link) → SumsStay row (cond here (option_and_then (link_hands n) row) row)
    go true None = tt
    go true (Some link) = refl
    go false row = same_sums row

module _ (s : State) (w : IsWithin s) where
  -- a client's input ends
  pub sums_end : (c : ℕ) (cause : Cause) (k : ℕ) → SumsStay (s.links k) ((step s (End c cause)).state.links k)
  sums_end c cause k =
      let m = client_ends c cause (s.clients c) s in
      let ruled = keeps_client_ends w.came w.plugged c cause (s.clients c) s w.all in
      let stepped = keeps_then w.came w.plugged s m ups ruled (keeps_up_all w.came w.plugged m.state.drawn m.state (ruled.streams w.all)) in
      step_sums (s.links k) ((step s (End c cause)).state.links k) _ (stepped.links k)

  -- a link ends
  pub sums_link_ends : (t : ℕ) (ending : Ending) (k : ℕ) → SumsStay (s.links k) ((link_ends t ending s).state.links k)
  sums_link_ends t ending k =
      step_sums (s.links k) ((link_ends t ending s).state.links k) _ ((changes_link_ends w.came w.plugged t ending s w.all).links k)

  -- some of what is due to a client is handed out
  pub sums_takes : (c n : ℕ) (row : Option Client) (k : ℕ) → SumsStay (s.links k) ((takes_of c n row s).state.links k)
  sums_takes c n None k = same_sums (s.links k)
  sums_takes c n (Some client) k =
      let next = to_client c (hands n) s in
      let m = client_left client.about.phase (length (drop n client.due)) next in
      let keeps = keeps_client_left w.came w.plugged client.about.phase (length (drop n client.due)) next w.all in
      step_sums (s.links k) (m.state.links k) _ (keeps.links k)
