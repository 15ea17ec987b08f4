use Rattle.std.proofs.Common.{◌∙◌, ap, sym, subst, List}
use Rattle.std.specs.List.{list_any}
use Rattle.std.proofs.lemmas.Bool.{le-ltb}
use Rattle.adb_files.specs.Entries.{Entry}
use Rattle.adb_files.specs.Paths.{is_below}
use Rattle.adb_files.specs.Files.{IsRising}
use Rattle.adb_files.proofs.Below.{below_tells, none_left_below}
use Rattle.adb_files.proofs.files.Files.has_below.Goals as goal

pub returns-then-first-slots : goal.returns-then-first-slots
returns-then-first-slots c =
    let path = c.args.path.now in
    let files = c.as_slice-slots.result.now in
    let rising = subst IsRising (sym c.as_slice-slots.ensures.value) c.self.invariant.0.rising in
    let entry = c.index-slots-first.result in
    c.is_below.ensures
    ∙ (ap (is_below path) c.path.ensures
    ∙ (below_tells path c.slash_behind.result.now files c.first_from-first.result entry c.slash_behind.ensures rising
    c.first_from-first.ensures
    c.if-first-slots.true c.index-slots-first.is
    ∙ ap (λ (xs : List Entry). list_any (λ (e : Entry). is_below path e.path) xs) (c.as_slice-slots.ensures.value ∙ c.self.view_is)))

pub returns-else-first-slots : goal.returns-else-first-slots
returns-else-first-slots c =
    let path = c.args.path.now in
    let files = c.as_slice-slots.result.now in
    let rising = subst IsRising (sym c.as_slice-slots.ensures.value) c.self.invariant.0.rising in
    le-ltb _ _ c.if-first-slots.false
    ∙ (sym (none_left_below path c.slash_behind.result.now files c.first_from-first.result c.slash_behind.ensures
    rising c.first_from-first.ensures
    c.if-first-slots.false)
    ∙ ap (λ (xs : List Entry). list_any (λ (e : Entry). is_below path e.path) xs) (c.as_slice-slots.ensures.value ∙ c.self.view_is))
