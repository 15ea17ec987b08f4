use Rattle.std.proofs.Common.{subst, sym, ap, ◌∙◌, ◌≡◌, ◌<◌, ℕ, Option}
use Rattle.adb_outside.specs.Tables.{IsRising}
use Rattle.adb_hub_tables.specs.First.{first_number}
use Rattle.adb_hub_tables.specs.declared.words.Kind.TheVariants.{Due}
use Rattle.adb_hub_tables.specs.Marked.{mark, weight, IsMarked}
use Rattle.adb_hub_tables.proofs.FirstMark.{IsLeast, first_is_least, nobody, somebody, seen}
use Rattle.adb_hub_tables.proofs.MarkedRows.{cleared}
use Rattle.adb_hub_tables.proofs.touched_map.TouchedMap.first_owed.Goals as goal

pub returns-then-is_owed-clause-first : goal.returns-then-is_owed-clause-first
returns-then-is_owed-clause-first g c =
    let blocks = c.loop-id.self-inside.marks.entries in
    let rows = c.loop-id.self-inside.rows.entries in
    let owed = g.V.Owes.owed in
    let least = subst (λ (first : Option ℕ). IsLeast Due blocks first) (sym c.in-Some.ensures.first)
    (first_is_least Due blocks c.in-Some.ensures.rises c.loop-id.invariant.1.blocked) in
    let same : rows ≡ c.args.self.now.entries = ap (λ (m : _). m.entries) c.loop-id.invariant.0
    ∙ ap (λ (t : _). t.entries) c.self.view_is in
    let rises = subst (λ (m : _). IsRising m.entries) (sym c.loop-id.invariant.0) c.len.ensures.ordered in
    somebody c.loop-id.invariant.1 rises c.in-Some.id least (sym c.is_owed.ensures ∙ c.if-is_owed.true) ∙ ap (first_number owed) same

pub loop-id-smaller : goal.loop-id-smaller
loop-id-smaller g c =
    let blocks = c.loop-id.self-inside.marks.entries in
    let least = subst (λ (first : Option ℕ). IsLeast Due blocks first) (sym c.in-Some.ensures.first)
    (first_is_least Due blocks c.in-Some.ensures.rises c.loop-id.invariant.1.blocked) in
    let falls = subst (λ (m : _). mark Due m.entries c.in-Some.id ≡ 1 → weight Due c.unmark.new.self.entries < weight Due m.entries)
    c.first.ensures.same c.unmark.ensures.falls in
    falls least.0

pub loop-id-preserved : goal.loop-id-preserved
loop-id-preserved g c =
    let nothing = sym c.is_owed.ensures ∙ c.if-is_owed.false in (
      c.loop-id.invariant.0,
      cleared c.in-Some.id c.unmark.ensures.fits (subst (λ (m : _). IsMarked Due g.V.Owes.owed m.entries c.loop-id.self-inside.rows.entries)
          (sym c.first.ensures.same) c.loop-id.invariant.1) Due c.unmark.ensures.block
          (seen g.V.Owes.owed c.in-Some.id c.loop-id.self-inside.rows.entries nothing),
    )

pub returns-clause-first : goal.returns-clause-first
returns-clause-first g c =
    let blocks = c.loop-id.self-inside.marks.entries in
    let rows = c.loop-id.self-inside.rows.entries in
    let least = subst (λ (first : Option ℕ). IsLeast Due blocks first) (sym c.in_default.ensures.first)
    (first_is_least Due blocks c.in_default.ensures.rises c.loop-id.invariant.1.blocked) in
    let same : rows ≡ c.args.self.now.entries = ap (λ (m : _). m.entries) c.loop-id.invariant.0
    ∙ ap (λ (t : _). t.entries) c.self.view_is in
    let rises = subst (λ (m : _). IsRising m.entries) (sym c.loop-id.invariant.0) c.len.ensures.ordered in
    nobody c.loop-id.invariant.1 rises least ∙ ap (first_number g.V.Owes.owed) same
