use Rattle.std.proofs.Common.{◌≡◌, ◌≤◌, ◌++◌, length, take, min, Option, Some, List, ℕ, sym, ap, subst, ◌∙◌, arith}
use Rattle.std.proofs.Math.Nat.{min-le_right}
use Rattle.std.proofs.lemmas.List.{length-take}
use Rattle.adb_wire.specs.Slicing.{slice_len, need_of, HasSliced}
use Rattle.adb_wire.proofs.Slices.{slice_grows, takes_more}
use Rattle.adb_server_device_reader.specs.Packets.{IsAlone, held_of}
use Rattle.adb_server_device_reader.proofs.packets.Packets.take.Goals as goal

pub invariant_of-self : goal.invariant_of-self
invariant_of-self c =
    let front : List ℕ = c.in-Some.front in
    let held : List ℕ = c.self.inside.slicer in
    let more : List ℕ = take c.take.result c.args.piece.now in
    let alone : IsAlone (Some front) held = subst (λ (o : Option (List ℕ)). IsAlone o held) c.in-Some.is c.self.invariant in
    let fits : length more ≤ need_of front =
    omega (
      arith,
      length-take c.take.result c.args.piece.now,
      c.take.ensures.taken,
      min-le_right
          (length c.args.piece.now) (need_of front),
    ) in
    (alone.0, subst (λ (bs : List ℕ). length bs ≤ slice_len bs) (sym c.take.ensures.held) (slice_grows front more alone.1 fits))

pub returns-in-Some-clause-stands : goal.returns-in-Some-clause-stands
returns-in-Some-clause-stands c = λ fed gave h.
    let front : List ℕ = c.in-Some.front in
    let held : List ℕ = c.self.inside.slicer in
    let more : List ℕ = take c.take.result c.args.piece.now in
    let alone : IsAlone (Some front) held = subst (λ (o : Option (List ℕ)). IsAlone o held) c.in-Some.is c.self.invariant in
    let was : c.args.self.now ≡ front = sym c.self.view_is ∙ ap (λ (o : Option (List ℕ)). held_of o held) c.in-Some.is in
    let fits : length more ≤ need_of front =
    omega (
      arith,
      length-take c.take.result c.args.piece.now,
      c.take.ensures.taken,
      min-le_right
          (length c.args.piece.now) (need_of front),
    ) in
    subst (HasSliced (fed ++ more) gave) (sym c.take.ensures.held)
    (takes_more front more alone.1 fits fed gave (subst (HasSliced fed gave) was h))
