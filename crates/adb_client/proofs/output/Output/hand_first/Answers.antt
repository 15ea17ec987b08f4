use Rattle.std.proofs.Common.{◌≡◌, ◌≤◌, ◌+◌, ◌-◌, ◌∷◌, ◌∙◌, List, ap, sym, subst, length, drop, rules, arith}
use Rattle.std.proofs.lemmas.List.{length-drop}
use Rattle.adb_client.specs.Output.{Outgoing}
use Rattle.adb_client.specs.Slices.{woven, IsCounted}
use Rattle.adb_client.specs.declared.slices.Slice.{Slice}
use Rattle.adb_client.proofs.Weaving.{before_more, shared_more, cut_own, count_own, count_rest}
use Rattle.adb_client.proofs.output.Output.hand_first.Goals as goal

pub invariant_of-self-then-slice-gt0 : goal.invariant_of-self-then-slice-gt0
invariant_of-self-then-slice-gt0 c =
    let rest = c.pop_front.new.self.items in
    let slice = c.in-Some.slice in
    let n = c.min-taken.result in
    let few : n ≤ slice.before = omega (arith, c.min-taken.ensures) in
    let was : IsCounted (slice ∷ rest) c.self.inside.before c.self.inside.shared =
    subst (λ (slices : List Slice). IsCounted slices c.self.inside.before c.self.inside.shared)
    c.in-Some.ensures.items c.self.invariant.counted
    in
    let less = count_own n slice rest c.self.inside.before c.self.inside.shared was few in
    record {
      counted = rw c.push_front_reserved.ensures.items less;
      within = omega (
        arith,
        c.self.invariant.within,
        ap length c.advance-then-slice-gt0.ensures.items,
        length-drop n
            c.self.inside.own.items,
      );
      fits = c.self.invariant.fits;
      spare = omega (arith, c.self.invariant.spare, c.advance-then-slice-gt0.ensures.spare);
      room = omega (
        arith,
        c.self.invariant.room,
        c.in-Some.ensures.cases,
        c.in-Some.ensures.capacity,
        c.push_front_reserved.ensures.len,
        c.push_front_reserved.ensures.capacity,
      );
    }

pub returns-then-slice-gt0-clause-due : goal.returns-then-slice-gt0-clause-due
returns-then-slice-gt0-clause-due c =
    let rest = c.pop_front.new.self.items in
    let slice = c.in-Some.slice in
    let own = c.self.inside.own.items in
    let n = c.min-taken.result in
    let few : n ≤ slice.before = omega (arith, c.min-taken.ensures) in
    let was : IsCounted (slice ∷ rest) c.self.inside.before c.self.inside.shared =
    subst (λ (slices : List Slice). IsCounted slices c.self.inside.before c.self.inside.shared)
    c.in-Some.ensures.items c.self.invariant.counted
    in
    let within : slice.before ≤ length own = omega (arith, was.own, before_more slice rest, c.self.invariant.within) in
    let due : woven c.push_front_reserved.new.self.items c.advance-then-slice-gt0.new.self.items
    ≡ drop n (woven c.self.inside.slices.items own) =
    ap (λ (slices : List Slice). woven slices c.advance-then-slice-gt0.new.self.items) c.push_front_reserved.ensures.items
    ∙ (ap (woven (record { before = slice.before - n; bytes = slice.bytes } ∷ rest)) c.advance-then-slice-gt0.ensures.items
    ∙ (cut_own n slice rest own few within ∙ ap (λ (slices : List Slice). drop n (woven slices own)) (sym c.in-Some.ensures.items)))
    in
    (λ i. record { due = due i; spare = c.self.inside.spare; places = c.self.inside.places })
    ∙ ap (λ (o : Outgoing). record o { due = drop n o.due }) c.self.view_is

pub invariant_of-self-2 : goal.invariant_of-self-2
invariant_of-self-2 c =
    let rest = c.pop_front.new.self.items in
    let slice = c.in-Some.slice in
    let n = c.min-taken-2.result in
    let before = c.self.inside.before in
    let shared = c.self.inside.shared in
    let was : IsCounted (slice ∷ rest) before shared =
    subst (λ (slices : List Slice). IsCounted slices before shared) c.in-Some.ensures.items c.self.invariant.counted
    in
    let none : slice.before ≡ 0 = search rules in
    let left = ap length c.advance-2.ensures ∙ length-drop n slice.bytes in
    let few : n ≤ length slice.bytes = omega (arith, c.min-taken-2.ensures, c.len.ensures.value) in
    let own_same : before - slice.before ≡ before = omega (arith, none) in
    let shared_same : length c.advance-2.new.self + (shared - length slice.bytes) ≡ shared - n =
    omega (arith, few, left, was.bytes, shared_more slice rest) in
    let now = c.put_back.ensures.count (before - slice.before) (shared - length slice.bytes) (count_rest slice rest before shared was) in
    record {
      counted = subst (λ m. IsCounted c.put_back.new.slices.items m (shared - n)) own_same
          (subst (λ m. IsCounted c.put_back.new.slices.items (before - slice.before) m) shared_same now);
      within = c.self.invariant.within;
      fits = omega (arith, c.self.invariant.fits);
      spare = c.self.invariant.spare;
      room = omega (
        arith,
        c.self.invariant.room,
        c.in-Some.ensures.cases,
        c.in-Some.ensures.capacity,
        c.put_back.ensures.len,
        c.put_back.ensures.capacity,
      );
    }
