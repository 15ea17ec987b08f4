use Rattle.std.proofs.Common.{sym, ◌∙◌, ap}
use Rattle.std.proofs.Math.Seq.{take-length}
use Rattle.adb_outside.proofs.FurtherLaws.{stands_behind}
use Rattle.adb_outside.proofs.behind.cut_gathered.Goals as goal

pub returns-in_default : goal.returns-in_default
returns-in_default g c =
    let old = c.args.ready.now.items in
    let format = c.args.format in
    let front = sym (c.front.ensures ∙ ap (g.S.Format.find format) c.as_slice.ensures) in
    let stands = stands_behind g.S.Format.find g.S.Format.item g.S.Format.after g.met.S.Format.framing old format
    c.args.all c.front.result front
    (λ n. c.in_default.not-Whole n) in
    record {
      cut = ap (λ b. record { given = old; reading = format; rest = b; fault = c.fault.result }) c.of.ensures
          ∙ (ap (λ f. record { given = old; reading = format; rest = c.args.all; fault = f }) c.fault.ensures ∙ stands);
      ready = take-length old;
    }
