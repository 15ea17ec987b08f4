use Rattle.std.proofs.Common.{subst, sym, ◌∙◌}
use Rattle.adb_sync_client.specs.Reading.{Read, Continues}
use Rattle.adb_sync_client.proofs.Readings.{continues}
use Rattle.adb_sync_client.proofs.reading.Reading.continue_with.Goals as goal

pub returns-clause-ok : goal.returns-clause-ok
returns-clause-ok c =
    let told = c.in_ok-fault.ensures.ok in
    let old : Read =
    record {
      cut = c.self.inside.framer;
      said = c.self.inside.told;
      next = c.self.inside.next;
      spent =
          c.self.inside.spent;
    } in
    subst (λ (r : Read). Continues r c.args.piece.now c.in_ok-fault.fault c.gather.new.self) c.self.view_is
    (continues old c.args.piece.now c.in_ok-fault.fault c.feed.new.self c.gather.new.self (c.feed.ensures.taken told.0).held
    (sym told.1 ∙ c.feed.ensures.answer told.0) c.in_ok-gather.ensures.ok c.gather.ensures.fault)
