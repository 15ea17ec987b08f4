-- By all entries but those of a client that has its stream open, and those that bring packets, nothing goes up.
use Rattle.std.proofs.Common.{ℕ, ◌≡◌, false, List, length, ap, None, Option, subst, sym}
use Rattle.adb_outside.specs.Tables.{at}
use Rattle.adb_outside.specs.declared.kinds.Cause.{Cause}
use Rattle.adb_outside.specs.declared.kinds.Cause.TheVariants.{Eof, Fault, Starved, NoThread}
use Rattle.adb_capture.specs.declared.entry.Entry.{Entry}
use Rattle.adb_capture.specs.declared.entry.Entry.TheVariants.{Join, Enter, Read, End, Bound, Attach, Recv, Detach, Put, Send}
use Rattle.adb_history.specs.Rows.{Link, State}
use Rattle.adb_history.specs.Events.{Made}
use Rattle.adb_history.specs.Losing.{client_ends}
use Rattle.adb_history.specs.Packets.{receives_on}
use Rattle.adb_history.specs.Machine.{History, state, rule, IsLegal}
use Rattle.adb_history.specs.Orderly.{IsOrderly}
use Rattle.adb_history.proofs.OrderlyStates.{orderly}
use Rattle.adb_history.proofs.Calm.{calm_puts}
use Rattle.adb_history.proofs.Quiet.{all_still}
use Rattle.adb_laws_resting.specs.Resting.{StepIsRule, has_open_stream, SendsNothingBy}
use Rattle.adb_laws_resting.proofs.RestingRows.{AllCalm, calm_is, comes_calm, all_calm}
use Rattle.adb_laws_resting.proofs.RestingClients.{enters_calm, bound_calm, reads_calm, eof_calm, fails_calm}
use Rattle.adb_laws_resting.proofs.RestingLinks.{plugs_calm, unplugs_calm, part_calm}

-- Where its rule leaves no stream that may send, the step of an entry is its rule.
step_is_rule : (e : Entry) (s : State) → AllCalm (rule e s).state → StepIsRule e s
step_is_rule e s h =
    let ruled : State = (rule e s).state in
    ap (λ (m : Made). m.state) (all_still ruled.drawn ruled (λ m some. calm_is m ruled (h m)))

module _ (s : State) (h : AllCalm s) where
  ended_calm : (c : ℕ) (cause : Cause) → has_open_stream (s.clients c) ≡ false → AllCalm (client_ends c cause (s.clients c) s).state
  ended_calm c Eof unopened = eof_calm c s unopened h
  ended_calm c Fault unopened = fails_calm c Fault (s.clients c) s (λ e. cc) h
  ended_calm c Starved unopened = fails_calm c Starved (s.clients c) s (λ e. cc) h
  ended_calm c NoThread unopened = fails_calm c NoThread (s.clients c) s (λ e. cc) h

  received_gone : (t : ℕ) (bytes : List ℕ) → s.links t ≡ None → AllCalm (receives_on (s.links t) t bytes s).state
  received_gone t bytes is = subst (λ (o : Option Link). AllCalm (receives_on o t bytes s).state) (sym is) h

  sends_nothing : IsOrderly s → SendsNothingBy s
  sends_nothing fits = record {
    join = λ c. step_is_rule (Join c) s (comes_calm false c s h);
    enter = λ c port. step_is_rule (Enter c port) s (enters_calm (at port s.forwards) c s h);
    bound = λ c port. step_is_rule (Bound c port) s (bound_calm (s.clients c) c port s h);
    read = λ c bytes unopened. step_is_rule (Read c bytes) s (reads_calm c s unopened h bytes);
    ended = λ c cause unopened. step_is_rule (End c cause) s (ended_calm c cause unopened);
    failed = λ c cause other. step_is_rule (End c cause) s (fails_calm c cause (s.clients c) s other h);
    attach = λ t kind serial. step_is_rule (Attach t kind serial) s (plugs_calm t kind serial s h);
    detach = λ t cause. step_is_rule (Detach t cause) s (unplugs_calm (s.links t) t s fits.rises h);
    gone = λ t bytes is. step_is_rule (Recv t bytes) s (received_gone t bytes is);
    part = λ t bytes link is none. step_is_rule (Recv t bytes) s (part_calm s h t bytes link is none);
    put = λ c bytes. step_is_rule (Put c bytes) s (calm_puts c (length bytes) s h);
    send = λ t bytes. step_is_rule (Send t bytes) s h;
  }

pub all_send_nothing : (h : History) → IsLegal h → SendsNothingBy (state h)
all_send_nothing h legal = sends_nothing (state h) (all_calm h legal) (orderly h legal)
