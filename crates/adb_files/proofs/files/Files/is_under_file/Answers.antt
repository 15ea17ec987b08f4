use Rattle.std.proofs.Common.{arith, sym, ◌∙◌, ap, is_some}
use Rattle.adb_files.proofs.Lookups.{is_some_copied}
use Rattle.adb_files.proofs.Below.{under_file, under_no_file}
use Rattle.adb_files.proofs.files.Files.is_under_file.Goals as goal

pub returns-then-is_some : goal.returns-then-is_some
returns-then-is_some c =
    sym (under_file c.args.path.now c.args.self.now c.loop-i.i (omega arith) c.if-byte-eq47.true
    (ap is_some (sym c.get.ensures.file) ∙ (is_some_copied c.get.result ∙ (sym c.is_some.ensures ∙ c.if-is_some.true))))

pub returns : goal.returns
returns c = sym (under_no_file c.args.path.now c.args.self.now (λ k h slash. c.loop-i.invariant k (omega arith) slash))
