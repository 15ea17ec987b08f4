use Rattle.std.proofs.Common.{◌∙◌, ap, refl, subst, sym}
use Rattle.std.specs.BTreeMap.{is_at}
use Rattle.std.specs.Map.{set_value}
use Rattle.std.specs.Ordering.{nat_cmp}
use Rattle.adb_outside.specs.Tables.{IsRising, at}
use Rattle.adb_rows.specs.Slots.{rows_of}
use Rattle.adb_rows.specs.Table.{table}
use Rattle.adb_rows.proofs.Lent.{lent_rows, lent_sound, still, still_has, unlent_rows, unlent_sound}
use Rattle.adb_rows.proofs.Places.{rows_rise, stands_row, stands_within}
use Rattle.adb_rows.proofs.Writes.{write_none, writes_through}
use Rattle.adb_rows.proofs.row_map.RowMap.get_mut.Goals as goal

pub returns-in_default : goal.returns-in_default
returns-in_default g c =
    let shown = ap (λ (s : _). rows_of s.items) c.in_default.ensures.slots in
    let same = ap (λ (t : _). t.entries) c.self.view_is in
    let rises = subst IsRising same (rows_rise 0 c.self.inside.shelf.slots.items c.self.invariant.rises) in
    let none = ap (at c.args.id.now) (sym same) ∙ c.in_default.ensures.place in (
      (
        refl,
        λ w. writes_through c.args.id.now w c.args.self.now.entries (rows_of c.seek.new.self.slots.items) rises
            (shown ∙ (same ∙ write_none c.args.id.now w c.args.self.now.entries none)),
        ap table shown ∙ c.self.view_is,
      ),
      record { writes_back = tt; value = sym none; ordered = rises },
    )

pub lend-requires : goal.lend-requires
lend-requires g c =
    let shelf = c.seek.new.self in
    let has = still_has c.args.id.now c.in-Some.place c.self.inside.shelf shelf c.in-Some.ensures.slots c.in-Some.ensures.place in
    stands_within c.args.id.now shelf.slots.items c.in-Some.place has.0

pub invariant_of-self-lent : goal.invariant_of-self-lent
invariant_of-self-lent g c = λ found.
    let shelf = c.seek.new.self in
    let id = c.args.id.now in
    let place = c.in-Some.place in
    let sound = still c.self.inside.shelf shelf c.in-Some.ensures.slots c.in-Some.ensures.live c.self.invariant in
    let has = still_has id place c.self.inside.shelf shelf c.in-Some.ensures.slots c.in-Some.ensures.place in
    (λ w. lent_sound id place shelf has w sound, unlent_sound id place shelf has sound)

pub returns : goal.returns
returns g c =
    let shelf = c.seek.new.self in
    let id = c.args.id.now in
    let place = c.in-Some.place in
    let entries = c.args.self.now.entries in
    let sound = still c.self.inside.shelf shelf c.in-Some.ensures.slots c.in-Some.ensures.live c.self.invariant in
    let has = still_has id place c.self.inside.shelf shelf c.in-Some.ensures.slots c.in-Some.ensures.place in
    let shown = ap (λ (s : _). rows_of s.items) c.in-Some.ensures.slots in
    let same = shown ∙ ap (λ (t : _). t.entries) c.self.view_is in
    let rises = subst IsRising same (rows_rise 0 shelf.slots.items sound.rises) in (
      (
        refl,
        λ w. writes_through id w entries _ rises
            (lent_rows id place shelf has w sound ∙ ap (λ (es : _). set_value (is_at (nat_cmp id)) es w) same),
        ap table (unlent_rows id place shelf has ∙ shown) ∙ c.self.view_is,
      ),
      record {
        writes_back = tt;
        value = c.lend.ensures.value ∙ (stands_row 0 id shelf.slots.items place sound.rises has.0 ∙ ap (at id) same);
        ordered = rises;
      },
    )
