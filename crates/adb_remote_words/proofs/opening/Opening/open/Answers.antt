use Rattle.std.proofs.Common.{◌≡◌, ◌+◌, ◌*◌, true, false, arith, sym, ◌∙◌, ap}
use Rattle.std.proofs.lemmas.Bool.Decides.{nat_tests}
use Rattle.adb_remote_words.specs.Words.{begins_okay}
use Rattle.adb_remote_words.proofs.Openings.{opens_next, refusal_opens}
use Rattle.adb_remote_words.proofs.opening.Opening.open.Goals as goal

pub returns-then-not-begins_okay : goal.returns-then-not-begins_okay
returns-then-not-begins_okay c =
    let held = c.loop-self.self-inside.held.bytes in
    let okays = c.loop-self.self-inside.okays in
    let lacks : begins_okay held ≡ false = ap begins_okay (sym c.as_slice.ensures)
    ∙ (sym c.begins_okay.ensures ∙ c.if-not-begins_okay.true) in
    refusal_opens c.args.self.now held okays c.loop-self.self-inside.left _ _ c.refusal.result lacks (omega (arith, c.loop-self-test.true))
    c.loop-self.invariant (ap (λ n. 4 * n) c.from.ensures) c.as_slice-then-not-begins_okay.ensures c.refusal.ensures

pub loop-self-preserved : goal.loop-self-preserved
loop-self-preserved c = λ few.
    let held = c.loop-self.self-inside.held.bytes in
    let okays = c.loop-self.self-inside.okays in
    let is : begins_okay held ≡ true = ap begins_okay (sym c.as_slice.ensures) ∙ (sym c.begins_okay.ensures ∙ c.if-not-begins_okay.false) in
    let on = c.loop-self.invariant few in
    let counted : c.saturating_add-self-inside.result ≡ okays + 1 =
    first_of (
      omega (arith, c.saturating_add-self-inside.ensures, on.sum, few),
      grind
          (arith, nat_tests, c.saturating_add-self-inside.ensures, on.sum, few),
    ) in
    opens_next c.args.self.now held _ okays _ c.loop-self.self-inside.left _ is c.take.ensures.bytes counted
    (omega (arith, c.loop-self-test.true)) on
