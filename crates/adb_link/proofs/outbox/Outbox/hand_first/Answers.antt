use Rattle.std.proofs.Common.{ℕ, ◌≡◌, ◌+◌, ◌-◌, length, sym, subst, arith, deque_len, deque_capacity}
use Rattle.adb_link.specs.Outbox.{IsBox}
use Rattle.adb_link.proofs.Packets.{box_popped}
use Rattle.adb_link.proofs.outbox.Outbox.hand_first.Goals as goal

pub invariant_of-self-else-taken-len : goal.invariant_of-self-else-taken-len
invariant_of-self-else-taken-len c =
    let i = c.self.inside in
    let rest = c.pop_front.new.self in
    let left : ℕ = i.owed - c.min-taken.result in
    let gone : left ≡ i.owed - length c.in-Some.packet = omega (arith, c.min-taken.ensures, c.if-taken-len.false, c.len-len.ensures) in
    let fewer : deque_len rest + 1 ≡ deque_len i.packets = omega (arith, c.in-Some.ensures.cases) in
    subst (λ places. IsBox rest.items left i.spare (deque_len rest) places) (sym c.in-Some.ensures.capacity)
    (box_popped i.packets.items i.owed i.spare (deque_len i.packets) (deque_capacity i.packets) c.self.invariant
    (record { packet = _; rest = _; is = c.in-Some.ensures.items; left = left; gone = gone; less = _; fewer = fewer }))

pub invariant_of-self-else-taken-len-2 : goal.invariant_of-self-else-taken-len-2
invariant_of-self-else-taken-len-2 c =
    let i = c.self.inside in
    let rest = c.pop_front.new.self in
    let left : ℕ = i.owed - c.min-taken.result in
    let gone : left ≡ i.owed - length c.in-Some.packet = omega (arith, c.min-taken.ensures, c.if-taken-len.false, c.len-len.ensures) in
    let fewer : deque_len rest + 1 ≡ deque_len i.packets = omega (arith, c.in-Some.ensures.cases) in
    subst (λ places. IsBox rest.items left i.spare (deque_len rest) places) (sym c.in-Some.ensures.capacity)
    (box_popped i.packets.items i.owed i.spare (deque_len i.packets) (deque_capacity i.packets) c.self.invariant
    (record { packet = _; rest = _; is = c.in-Some.ensures.items; left = left; gone = gone; less = _; fewer = fewer }))
