use Rattle.std.proofs.Common.{ℕ, true, Option, ◌∙◌, ap, sym, arith}
use Rattle.adb_outside.specs.Tables.{at}
use Rattle.adb_history.specs.Events.{Made}
use Rattle.adb_history.specs.Links.{credit_word}
use Rattle.adb_history.specs.Packets.{takes_okay}
use Rattle.adb_hub_tables.specs.Tables.{state_of}
use Rattle.adb_hub_rules.specs.Came.{slices_of}
use Rattle.adb_hub_rules.proofs.Taking.{IsFoundOn, found_on, at_found, takes_from, one_slice}
use Rattle.adb_hub_rules.proofs.treating.treat_okay.Goals as goal

found : (c : goal.After-take_okay) → IsFoundOn c.args.link (at c.args.head.now.arg1 c.args.tables.now.streams.streams) c.in-Some.stream
found c = found_on c.args.link (at c.args.head.now.arg1 c.args.tables.now.streams.streams) c.in-Some.stream
    (sym c.stream_on.ensures ∙ c.in-Some.is)

pub returns-in-Some-clause-state : goal.returns-in-Some-clause-state
returns-in-Some-clause-state c =
    let s = state_of c.args.tables.now in
    let head = c.args.head.now in
    let row = at head.arg1 c.args.tables.now.streams.streams in
    c.take_okay.ensures.state
    ∙ (ap (λ (word : Option ℕ). (takes_okay head.arg1 head.arg0 word c.in-Some.stream s).state) c.credit_word.ensures
    ∙ ap (λ (m : Made). m.state)
    (at_found c.args.link row c.in-Some.stream (takes_okay head.arg1 head.arg0 (credit_word c.args.payload.now)) s
    (found c)))

pub returns-in-Some-clause-takes : goal.returns-in-Some-clause-takes
returns-in-Some-clause-takes c =
    let row = at c.args.head.now.arg1 c.args.tables.now.streams.streams in
    takes_from (c.take_okay.ensures.uses c.args.link) (slices_of true row) (omega arith) (one_slice c.in-Some.stream row (found c).is)
