use Rattle.std.proofs.Common.{◌≡◌, ◌++◌, subst}
use Rattle.std.specs.Prelude.{OnOk}
use Rattle.adb_hub.specs.declared.answers.Summary.{Summary}
use Rattle.adb_explain.specs.Lines.{count_fields, over}
use Rattle.adb_explain.proofs.line.push_kept.Goals as goal

pub returns : goal.returns
returns c =
    let new = c.push.new.text in
    subst (λ (s : Summary). OnOk c.push.result (new ≡ c.args.text.now ++ (count_fields s.clients s.links s.streams ++ over)))
    c.summary-summary.ensures c.push.ensures
