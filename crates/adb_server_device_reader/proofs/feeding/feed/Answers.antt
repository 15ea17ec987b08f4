use Rattle.std.proofs.Common.{◌∙◌, ◌++◌, drop, sym}
use Rattle.std.proofs.lemmas.List.{take_rest}
use Rattle.adb_server_device_reader.proofs.Readings.{so_far_taken, so_far_as, cut_more}
use Rattle.adb_server_device_reader.proofs.feeding.feed.Goals as goal

pub returns-then-not-hand_in_whole-clause-told : goal.returns-then-not-hand_in_whole-clause-told
returns-then-not-hand_in_whole-clause-told g c start coming x =
    let inv = c.loop-rest.invariant in
    let rest = c.loop-rest.rest.now in
    let n = c.take-taken.result in
    let taken =
    so_far_taken c.args.pass.now.pass.number start c.loop-rest.packets c.take-taken.new.self rest coming n _ _ c.take-taken.ensures.stands
    (inv.3 start coming x) in
    cut_more _ start (drop n rest) coming _ _
    (rw inv.0 at (c.if-not-hand_in_whole.ensures.told start (drop n rest ++ coming) (rw inv.0 taken)))

pub loop-rest-preserved : goal.loop-rest-preserved
loop-rest-preserved g c =
    let inv = c.loop-rest.invariant in
    let rest = c.loop-rest.rest.now in
    let n = c.take-taken.result in (
      c.hand_in_whole.ensures.number ∙ inv.0,
      c.hand_in_whole.ensures.open,
      c.hand_in_whole.ensures.mark ∙ inv.2,
      λ start coming x.
          let taken =
          so_far_taken c.args.pass.now.pass.number start c.loop-rest.packets c.take-taken.new.self rest coming n _ _
          c.take-taken.ensures.stands
          (inv.3 start coming x) in
          so_far_as _ start _ (drop n rest) _ coming _ _ (sym (take_rest rest n))
          (rw inv.0 at (c.if-not-hand_in_whole.ensures.told start (drop n rest ++ coming) (rw inv.0 taken))),
    )
