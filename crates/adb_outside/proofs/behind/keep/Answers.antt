use Rattle.std.proofs.Common.{[], ◌∷◌, ◌++◌, None, sym, ◌∙◌, ap}
use Rattle.adb_outside.specs.Framing.{joined}
use Rattle.adb_outside.proofs.FurtherLaws.{cut_alone}
use Rattle.adb_outside.proofs.behind.keep.Goals as goal

pub returns-clause-cut : goal.returns-clause-cut
returns-clause-cut g c =
    let old = c.args.ready.now.items in
    let format = c.args.format in
    let frame = c.args.frame in
    let alone = cut_alone g.S.Format.find g.S.Format.item g.S.Format.after g.met.S.Format.framing format frame c.requires in
    let given = c.in_ok-push_back.ensures.items ∙ ap (λ v. old ++ v ∷ []) c.in_ok-item.ensures in
    let reading = c.past-past.ensures ∙ ap (g.S.Format.after format) c.as_slice.ensures in
    let given_now = old ++ g.S.Format.item format frame ∷ [] in
    ap (λ vs. record { given = vs; reading = c.past-past.result; rest = c.new.result; fault = None }) given
    ∙ (ap (λ s. record { given = given_now; reading = s; rest = c.new.result; fault = None }) reading
    ∙ (ap (λ b. record { given = given_now; reading = g.S.Format.after format frame; rest = b; fault = None }) c.new.ensures
    ∙ ap (joined old) (sym alone)))
