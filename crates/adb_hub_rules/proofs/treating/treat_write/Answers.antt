use Rattle.std.proofs.Common.{ℕ, true, ◌∙◌, ap, sym, subst, arith}
use Rattle.adb_outside.specs.Tables.{at}
use Rattle.adb_history.specs.Events.{Made}
use Rattle.adb_history.specs.Packets.{takes_write}
use Rattle.adb_hub_tables.specs.Tables.{state_of}
use Rattle.adb_hub_tables.specs.Places.{Uses}
use Rattle.adb_hub_rules.specs.Came.{slices_of}
use Rattle.adb_hub_rules.proofs.Taking.{IsFoundOn, found_on, at_found, takes_from, one_slice}
use Rattle.adb_hub_rules.proofs.treating.treat_write.Goals as goal

found : (c : goal.After-take_write) → IsFoundOn c.args.link (at c.args.head.now.arg1 c.args.tables.now.streams.streams) c.in-Some.stream
found c = found_on c.args.link (at c.args.head.now.arg1 c.args.tables.now.streams.streams) c.in-Some.stream
    (sym c.stream_on.ensures ∙ c.in-Some.is)

pub returns-in-Some-clause-state : goal.returns-in-Some-clause-state
returns-in-Some-clause-state c =
    let s = state_of c.args.tables.now in
    let head = c.args.head.now in
    let row = at head.arg1 c.args.tables.now.streams.streams in
    c.take_write.ensures.state
    ∙ ap (λ (m : Made). m.state) (at_found c.args.link row c.in-Some.stream (takes_write head.arg1 head.arg0 c.args.payload) s (found c))

pub returns-in-Some-clause-takes : goal.returns-in-Some-clause-takes
returns-in-Some-clause-takes c =
    let row = at c.args.head.now.arg1 c.args.tables.now.streams.streams in
    let stream = c.in-Some.stream in
    let uses = subst (λ (t : ℕ). Uses t 1 stream.client 1 c.args.tables.now c.take_write.new.tables) (found c).on
    c.take_write.ensures.uses in
    takes_from uses (slices_of true row) (omega arith) (one_slice stream row (found c).is)
