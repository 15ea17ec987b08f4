use Rattle.std.proofs.Common.{◌≡◌, ◌++◌, ◌-◌, length, take, drop, ◌∙◌, ap, subst}
use Rattle.std.specs.Prelude.{IfOk}
use Rattle.std.proofs.lemmas.List.{take-append-drop}
use Rattle.adb_outside.specs.Framing.{cut, joined}
use Rattle.adb_outside.specs.Further.{cut_of, further}
use Rattle.adb_outside.proofs.Framers.{from_place}
use Rattle.adb_outside.proofs.FurtherLaws.{gathered_then}
use Rattle.adb_outside.proofs.behind.advance.Goals as goal

pub returns-clause-cut : goal.returns-clause-cut
returns-clause-cut g c =
    let old = c.args.ready.now.items in
    let format = c.args.format in
    let piece = c.args.piece.now in
    let n = c.min-n.result in
    let left = take (length piece - n) (drop n piece) in
    let cut_here = cut g.S.Format.find g.S.Format.item g.S.Format.after in
    let all = ap (λ d. take n piece ++ d) (from_place n piece) ∙ take-append-drop n piece in
    let gathered = c.in_ok-behind.ensures.cut ∙ ap (λ b. joined old (cut_here format b)) c.in_ok-all.ensures.all in
    let whole =
    ap (λ k. further g.S.Format.find g.S.Format.item g.S.Format.after k left) gathered
    ∙ gathered_then g.S.Format.find g.S.Format.item g.S.Format.after g.met.S.Format.framing old format c.args.held.now
    (take n piece) left piece all in
    subst (λ k. IfOk c.take.result (λ behind. cut_of c.take.new.ready.items behind ≡ k)) whole c.take.ensures.cut
