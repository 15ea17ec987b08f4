-- The answers of a yard.
use Rattle.std.specs.Prelude.{ℕ, ◌≡◌, ◌≢◌, ⊤, Bool, true, false, [], Option, Some}
use Rattle.adb_server_yard.specs.declared.yard.Dialled.{Dialled}
use Rattle.adb_server_yard.specs.declared.yard.Dialled.TheVariants as dialled
use Rattle.adb_server_yard.specs.declared.yard.Listening.{Listening}
use Rattle.adb_server_yard.specs.declared.yard.Listening.TheVariants.{Here, Failed}
use Rattle.adb_server_yard.specs.declared.yard.PoolKind.{PoolKind}
use Rattle.adb_server_yard.specs.declared.yard.PoolKind.TheVariants.{Threads, Inline}

-- The port that is listened on is not 0, and is the one that was asked for, if one was.
abbrev pub FitsPort : {D B : Type 0} → ℕ → Listening D B → Type 0
FitsPort asked (Here door bell port) = (port ≢ 0) × (asked ≢ 0 → port ≡ asked)
FitsPort asked Failed = ⊤

-- The port that is listened on is the one that the yard shows, if it shows one.
abbrev pub IsHere : {D B : Type 0} → Option ℕ → Listening D B → Type 0
IsHere shown (Here door bell port) = (here : ℕ) → shown ≡ Some here → port ≡ here
IsHere shown Failed = ⊤

-- whether nothing could be listened on
abbrev pub is_deaf : {D B : Type 0} → Listening D B → Bool
is_deaf (Here door bell port) = false
is_deaf Failed = true

-- This is so of the door, if there is one.
abbrev pub HasDoor : {D B : Type 0} → (D → Type 0) → Listening D B → Type 0
HasDoor P (Here door bell port) = P door
HasDoor P Failed = ⊤

-- It returns no job unrun.
abbrev pub IsSteadyKind : PoolKind → Type 0
IsSteadyKind Threads = ⊥
IsSteadyKind (Inline failing) = failing.items ≡ []

-- whether the connection failed
abbrev pub is_unreached : {I O : Type 0} → Dialled I O → Bool
is_unreached (dialled.Here input output) = false
is_unreached dialled.Failed = true

-- This is so of both halves of the connection, if there is one.
abbrev pub HasDialled : {I O : Type 0} → (I → Type 0) → (O → Type 0) → Dialled I O → Type 0
HasDialled P Q (dialled.Here input output) = P input × Q output
HasDialled P Q dialled.Failed = ⊤
