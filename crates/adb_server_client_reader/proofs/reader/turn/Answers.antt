use Rattle.std.proofs.Common.{reverse, arith}
use Rattle.std.proofs.lemmas.List.{length-take}
use Rattle.adb_history.specs.Machine.{state}
use Rattle.adb_server_client_reader.proofs.Steps.{fits_less}
use Rattle.adb_server_client_reader.proofs.reader.turn.Goals as goal

pub returns-in-Some-clause-told : goal.returns-in-Some-clause-told
returns-in-Some-clause-told g c a es l t told left knows =
    c.feed.ensures.told a es l t told left
    (fits_less c.args.pass.now.pass.number _ c.in-Some.n (state (reverse es)) (rw c.in-Some.is at knows)
    (omega (arith, length-take c.min-most.result c.args.buffer.now)))

pub returns-in-None-clause-told : goal.returns-in-None-clause-told
returns-in-None-clause-told g c a es l t told left knows = c.ask.ensures.told a es l t told left tt
