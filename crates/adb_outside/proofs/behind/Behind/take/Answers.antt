use Rattle.std.proofs.Common.{◌+◌, ◌-◌, ◌<◌, length, take, drop, sym, ◌∙◌, ap, arith}
use Rattle.std.proofs.lemmas.List.{length-take, length-drop}
use Rattle.adb_outside.specs.Further.{cut_of, further}
use Rattle.adb_outside.proofs.FurtherLaws.{further_part, part_then, none_behind, fronts_then}
use Rattle.adb_outside.proofs.behind.Behind.take.Goals as goal

pub loop-from-preserved : goal.loop-from-preserved
loop-from-preserved g c =
    let piece = c.args.piece.now in
    let from = c.loop-from.from in
    let n = c.part_len-n.result in
    let before = cut_of c.loop-from.ready.items c.loop-from.behind in
    let part = take ((from + n) - from) (drop from piece) in
    let some : 0 < length part =
    omega (arith, c.part_len-n.ensures, length-take ((from + n) - from) (drop from piece), length-drop from piece) in
    let taken = further_part g.S.Format.find g.S.Format.item g.S.Format.after g.met.S.Format.framing before part
    (drop (from + n) piece) some in (
      omega (arith, c.part_len-n.ensures, c.loop-from.invariant.0),
      ap (λ k. further g.S.Format.find g.S.Format.item g.S.Format.after k (drop (from + n) piece)) c.in_ok-behind.ensures.cut
          ∙ (taken
          ∙ (ap (further g.S.Format.find g.S.Format.item g.S.Format.after before) (part_then from n piece) ∙ c.loop-from.invariant.1)),
      fronts_then c.args.ready.now.items c.loop-from.ready.items c.take_part.new.ready.items c.loop-from.invariant.2
          c.in_ok-behind.ensures.ready,
    )

pub returns-clause-cut : goal.returns-clause-cut
returns-clause-cut g c =
    let now = cut_of c.loop-from.ready.items c.loop-from.behind in
    let last = none_behind c.loop-from.from c.args.piece.now c.loop-from-test.false in
    ap (further g.S.Format.find g.S.Format.item g.S.Format.after now) (sym last) ∙ c.loop-from.invariant.1
