use Rattle.std.proofs.Common.{ℕ, ◌<◌, List, ap, ◌∙◌, ◌-◌, ◌++◌, arith, deque_len, deque_capacity}
use Rattle.std.specs.List.{concat}
use Rattle.adb_link.specs.Outbox.{Queue}
use Rattle.adb_link.proofs.Packets.{box_push, concat_push}
use Rattle.adb_link.proofs.outbox.Outbox.push_spare.Goals as goal

pub invariant_of-self : goal.invariant_of-self
invariant_of-self c =
    let i = c.self.inside in
    let place : 0 < i.spare = omega (arith, ap (λ (q : Queue). q.spare) c.self.view_is, c.requires.place) in
    rw (c.push_back_reserved.ensures.items, c.len.ensures, c.push_back_reserved.ensures.len, c.push_back_reserved.ensures.capacity)
    (box_push i.packets.items i.owed i.spare (deque_len i.packets) (deque_capacity i.packets) c.args.packet c.self.invariant place
    c.requires.some c.requires.fits)

pub returns : goal.returns
returns c =
    let i = c.self.inside in
    let made : List ℕ → Queue = λ due. record { due = due; spare = i.spare - 1 } in
    ap (λ packets. made (concat packets)) c.push_back_reserved.ensures.items
    ∙ (ap made (concat_push i.packets.items c.args.packet) ∙ ap
    (λ (q : Queue). record { due = q.due ++ c.args.packet; spare = q.spare - 1 }) c.self.view_is)
