use Rattle.std.proofs.Common.{◌≡◌, ◌+◌, ◌-◌, ◌++◌, min, length, take, arith, sym, ap, subst}
use Rattle.std.proofs.lemmas.Bool.Decides.{nat_tests}
use Rattle.adb_remote_words.specs.declared.reading.TheConstants.{MAX_ANSWER}
use Rattle.adb_remote_words.specs.Reading.{Follows, HeldAnswer}
use Rattle.adb_remote_words.proofs.Readings.{reads_piece}
use Rattle.adb_remote_words.proofs.reading.Reading.feed.Goals as goal

pub returns : goal.returns
returns c = λ fed h.
    let n = c.min-n.result in
    let piece = c.args.piece.now in
    let count_is = ap (λ (r : HeldAnswer). r.count) c.self.view_is in
    let later_is = ap (λ (r : HeldAnswer). r.count) c.self-2.view_is in
    let is : n ≡ min (MAX_ANSWER - c.args.self.now.count) (length piece) =
    grind (arith, nat_tests, c.min-n.ensures, c.saturating_sub-room.ensures, count_is) in
    let counted : c.saturating_add-self-inside.result ≡ c.args.self.now.count + n =
    grind (arith, nat_tests, c.saturating_add-self-inside.ensures, later_is, c.in_ok-step.ensures.count, is, h.count, h.within) in
    let f = subst
    (λ (r : HeldAnswer). Follows c.args.job.now (fed ++ take n piece) c.in_ok-step.step r.opening r.body)
    (sym c.self-2.view_is)
    (c.in_ok-step.ensures.read fed h.means) in
    rw c.limited.ensures
    (reads_piece c.args.job.now fed piece c.args.self.now n c.in_ok-step.step c.self-2.inside.opening
    c.self-2.inside.body
    c.saturating_add-self-inside.result h is counted f)
