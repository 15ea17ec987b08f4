use Rattle.std.proofs.Common.{rules, ◌≡◌, [], Option, Some, List, ℕ, ap, sym, subst, ◌∙◌}
use Rattle.adb_wire.specs.Slicing.{need_of}
use Rattle.adb_server_device_reader.specs.Packets.{IsAlone, held_of, Shares}
use Rattle.adb_server_device_reader.proofs.Fronts.{shares}
use Rattle.adb_server_device_reader.proofs.packets.Packets.share.Goals as goal

pub returns-in-Ok-clause-some : goal.returns-in-Ok-clause-some
returns-in-Ok-clause-some c =
    let front : List ℕ = c.in_ok-front.front in
    let held : List ℕ = c.self.inside.slicer in
    let own : c.self.inside.own ≡ Some front = search rules in
    let alone : IsAlone (Some front) held = subst (λ (o : Option (List ℕ)). IsAlone o held) own c.self.invariant in
    let none : need_of front ≡ 0 = search rules in
    let was : c.args.self.now ≡ front = sym c.self.view_is ∙ ap (λ (o : Option (List ℕ)). held_of o held) own in
    let left : held_of c.take.new.self held ≡ [] = ap (λ (o : Option (List ℕ)). held_of o held) c.take.ensures.after ∙ alone.0 in
    rw was (rw c.in-Ok.ensures (subst (λ (new : List ℕ). Shares front new front) (sym left) (shares front alone.1 none)))
