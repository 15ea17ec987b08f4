use Rattle.std.proofs.Common.{subst, sym, ap, ◌∙◌, ◌≡◌, ℕ, Option, rules}
use Rattle.adb_outside.specs.Tables.{IsRising}
use Rattle.adb_hub_tables.specs.Marked.{AreBlocks, Holds, LacksBut, first_mark, mark}
use Rattle.adb_hub_tables.specs.declared.marks.Seen.TheVariants.{Alone}
use Rattle.adb_hub_tables.proofs.FirstMark.{IsLeast, first_is_least, somebody, none_marked, only_marked}
use Rattle.adb_hub_tables.proofs.Grouping.{ungrouped, first_found, none_found, none_of_groups, lacks_all}
use Rattle.adb_hub_tables.proofs.marks.Marks.first.Goals as goal

pub returns-in-Lack-clause-first : goal.returns-in-Lack-clause-first
returns-in-Lack-clause-first c =
    let blocks = c.self.inside.blocks.entries in
    let is = ap (λ (t : _). t.entries) c.self.view_is in
    let kind : c.in-Lack.kind ≡ c.args.which = search rules in
    let lacks : (n : ℕ) → mark c.in-Lack.kind blocks n ≡ 0 = subst (λ (seen : _). Holds seen blocks) c.in-Lack.is c.self.invariant.1 in
    none_marked c.args.which blocks c.len.ensures.ordered (subst AreBlocks (sym is) c.requires)
    (subst (λ (which : _). (n : ℕ) → mark which blocks n ≡ 0) kind lacks) ∙ ap (first_mark c.args.which) is

pub returns-in-Alone-clause-first : goal.returns-in-Alone-clause-first
returns-in-Alone-clause-first c =
    let blocks = c.self.inside.blocks.entries in
    let is = ap (λ (t : _). t.entries) c.self.view_is in
    let kind : c.in-Alone.kind ≡ c.args.which = search rules in
    let holds : Holds (Alone c.in-Alone.kind c.in-Alone.number) blocks =
    subst (λ (seen : _). Holds seen blocks) c.in-Alone.is c.self.invariant.1 in
    only_marked c.args.which blocks c.len.ensures.ordered (subst AreBlocks (sym is) c.requires) c.in-Alone.number (holds.0 c.args.which)
    (subst (λ (which : _). LacksBut which c.in-Alone.number blocks) kind holds.1) ∙ ap (first_mark c.args.which) is

pub first-requires : goal.first-requires
first-requires c = (c.loop-high.invariant.2 c.args.which).blocked

pub first_in-requires : goal.first_in-requires
first_in-requires c =
    subst AreBlocks (sym (ap (λ (m : _). m.entries) c.loop-high.invariant.0 ∙ ap (λ (t : _). t.entries) c.self.view_is)) c.requires

pub returns-in-Some-first_in-clause-first : goal.returns-in-Some-first_in-clause-first
returns-in-Some-first_in-clause-first c =
    let which = c.args.which in
    let groups = c.loop-high.self-inside.groups.entries in
    let blocks = c.loop-high.self-inside.blocks.entries in
    let grouped = c.loop-high.invariant.2 which in
    let least = subst (λ (first : Option ℕ). IsLeast which groups first) (sym c.in-Some.ensures.first)
    (first_is_least which groups c.in-Some.ensures.rises grouped.blocked) in
    let rises = subst (λ (m : _). IsRising m.entries) (sym c.loop-high.invariant.0) c.len.ensures.ordered in
    first_found which blocks c.in-Some.high c.in-Some-first_in.number rises (λ due. somebody grouped rises c.in-Some.high least due)
    c.in-Some-first_in.ensures ∙ ap (λ (m : _). first_mark which m.entries) c.loop-high.invariant.0
    ∙ ap (λ (t : _). first_mark which t.entries) c.self.view_is

pub loop-high-smaller : goal.loop-high-smaller
loop-high-smaller c =
    let which = c.args.which in
    let groups = c.loop-high.self-inside.groups.entries in
    let least = subst (λ (first : Option ℕ). IsLeast which groups first) (sym c.in-Some.ensures.first)
    (first_is_least which groups c.in-Some.ensures.rises (c.loop-high.invariant.2 which).blocked) in
    c.unmark.ensures.falls least.0

pub loop-high-preserved : goal.loop-high-preserved
loop-high-preserved c =
    let nothing = none_found c.args.which c.loop-high.self-inside.blocks.entries c.in-Some.high (sym c.in_default-first_in.ensures) in (
      c.loop-high.invariant.0,
      c.loop-high.invariant.1,
      λ which. ungrouped c.args.which which c.in-Some.high c.unmark.ensures.fits (c.loop-high.invariant.2 which)
          c.unmark.ensures.block nothing,
    )

pub invariant_of-self-2 : goal.invariant_of-self-2
invariant_of-self-2 c =
    let which = c.args.which in
    let rises = subst (λ (m : _). IsRising m.entries) (sym c.loop-high.invariant.0) c.len.ensures.ordered in
    let all = subst AreBlocks
    (sym (ap (λ (m : _). m.entries) c.loop-high.invariant.0 ∙ ap (λ (t : _). t.entries) c.self.view_is))
    c.requires in (
      c.loop-high.invariant.2,
      lacks_all which c.loop-high.self-inside.blocks.entries rises all
          (none_of_groups which (c.loop-high.invariant.2 which) c.in_default-first.ensures.rises rises c.in_default-first.ensures.first),
    )

pub returns-clause-first : goal.returns-clause-first
returns-clause-first c =
    let which = c.args.which in
    let rises = subst (λ (m : _). IsRising m.entries) (sym c.loop-high.invariant.0) c.len.ensures.ordered in
    none_of_groups which (c.loop-high.invariant.2 which) c.in_default-first.ensures.rises rises c.in_default-first.ensures.first
    ∙ ap (λ (m : _). first_mark which m.entries) c.loop-high.invariant.0 ∙ ap (λ (t : _). first_mark which t.entries) c.self.view_is
