-- The ids of the streams that packets name, gathered packet by packet.
use Rattle.std.proofs.Common.{ℕ, ◌≡◌, ◌⊎◌, inl, inr, List, [], ◌∷◌, ◌++◌, refl, ◌∙◌, ap}
use Rattle.adb_wire.specs.declared.command.Command.{Command}
use Rattle.adb_wire.specs.declared.command.Command.TheVariants.{Okay}
use Rattle.adb_wire.specs.declared.packets.Packet.{Packet}
use Rattle.adb_hub_tables.specs.Tracked.{IsAmong}
use Rattle.adb_laws_resting.specs.Named.{named_also, named_by}

pub named_then : (first second : List Packet) → named_by (first ++ second) ≡ named_by first ++ named_by second
named_then [] second = refl
named_then (p ∷ first) second = go p.command (named_then first second)
  where
    go : (command : Command) → named_by (first ++ second) ≡ named_by first ++ named_by second
        → named_also command p.arg1 (named_by (first ++ second)) ≡ named_also command p.arg1 (named_by first) ++ named_by second
    go Okay e = ap (λ named. p.arg1 ∷ named) e
    go _ e = e

pub among_either : (l : ℕ) (first second : List ℕ) → IsAmong l (first ++ second) → IsAmong l first ⊎ IsAmong l second
among_either l [] second among = inr among
among_either l (x ∷ first) second (inl is) = inl (inl is)
among_either l (x ∷ first) second (inr among) = go (among_either l first second among)
  where
    go : IsAmong l first ⊎ IsAmong l second → IsAmong l (x ∷ first) ⊎ IsAmong l second
    go (inl among) = inl (inr among)
    go (inr among) = inr among
