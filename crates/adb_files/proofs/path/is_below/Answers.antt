use Rattle.std.proofs.Common.{◌∙◌, ap, sym, nat_eq, drop, length}
use Rattle.std.specs.List.{starts_with}
use Rattle.std.proofs.lemmas.List.{take_rest}
use Rattle.adb_files.specs.Paths.{slash_behind}
use Rattle.adb_files.proofs.Order.{starts_with-both, starts_with-neither}
use Rattle.adb_files.proofs.path.is_below.Goals as goal

pub returns-then-starts_with : goal.returns-then-starts_with
returns-then-starts_with c =
    let path = c.args.path.now in
    let directory = c.args.directory.now in
    c.starts_with-then-starts_with.ensures.value
    ∙ (ap (λ rest. starts_with nat_eq rest c.slash_behind.result.now) (take_rest path (length directory))
    ∙ (ap (λ s. starts_with nat_eq (drop (length directory) path) s) c.slash_behind.ensures
    ∙ sym (starts_with-both path directory (slash_behind directory) (sym c.starts_with.ensures.value ∙ c.if-starts_with.true))))

pub returns-else-starts_with : goal.returns-else-starts_with
returns-else-starts_with c =
    let whole = starts_with-neither c.args.path.now c.args.directory.now (slash_behind c.args.directory.now) cc in cc
