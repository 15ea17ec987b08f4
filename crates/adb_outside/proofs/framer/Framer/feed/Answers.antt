use Rattle.std.proofs.Common.{◌≡◌, ◌++◌, None, Ok, sym, ◌∙◌, ap}
use Rattle.adb_outside.specs.declared.framer.Front.TheVariants.{More}
use Rattle.adb_outside.specs.Framing.{cut, joined}
use Rattle.adb_outside.proofs.FramingLaws.{takes_nothing, takes_piece}
use Rattle.adb_outside.proofs.FurtherLaws.{stands_behind}
use Rattle.adb_outside.proofs.framer.Framer.feed.Goals as goal

pub returns-in-Some-clause-taken : goal.returns-in-Some-clause-taken
returns-in-Some-clause-taken g c = λ apart.
    takes_nothing g.S.Format.find g.S.Format.item g.S.Format.after g.met.S.Format.framing c.args.self.now c.args.piece.now c.in-Some.fault
    (ap (λ k. k.fault) (sym c.self.view_is) ∙ c.in-Some.is)

pub returns-in-Ok-true-clause-taken : goal.returns-in-Ok-true-clause-taken
returns-in-Ok-true-clause-taken g c = λ apart.
    let old = c.args.self.now in
    let piece = c.args.piece.now in
    let none : old.fault ≡ None = ap (λ k. k.fault) (sym c.self.view_is) ∙ c.in_default.is in
    let waits = c.in-Ok-true.ensures.waits (ap Ok c.in-Ok-true.field-0-test) in
    let stands = stands_behind g.S.Format.find g.S.Format.item g.S.Format.after g.met.S.Format.framing old.given
    old.reading (old.rest ++ piece) More waits.1
    (λ n e. cc) in
    takes_piece g.S.Format.find g.S.Format.item g.S.Format.after g.met.S.Format.framing old piece c.wait.new.self none
    (waits.0 ∙ (ap (λ f. record { given = old.given; reading = old.reading; rest = old.rest ++ piece; fault = f }) none ∙ stands))

pub returns-clause-taken : goal.returns-clause-taken
returns-clause-taken g c = λ apart.
    let old = c.args.self.now in
    let piece = c.args.piece.now in
    let none : old.fault ≡ None = ap (λ k. k.fault) (sym c.self.view_is) ∙ c.in_default.is in
    let same = c.self-2.view_is ∙ c.in-Ok-false.ensures.stays (λ e. cc) in
    let cut_here = cut g.S.Format.find g.S.Format.item g.S.Format.after in
    takes_piece g.S.Format.find g.S.Format.item g.S.Format.after g.met.S.Format.framing old piece c.go_on.new.self none
    (c.go_on.ensures ∙ (c.in-Ok.ensures.cut ∙ ap (λ k. joined k.given (cut_here k.reading (k.rest ++ piece))) same))
