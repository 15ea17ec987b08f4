-- What the bytes that go up depend on: of a client that asks or has a stream, its phase and what it holds.
use Rattle.std.specs.Prelude.{ℕ, ◌≡◌, List, Option, Some, None}
use Rattle.adb_client.specs.declared.phase.Phase.{Phase}
use Rattle.adb_client.specs.declared.phase.Phase.TheVariants.{Asking, Opening, Streaming, Binding, Tracking, Closing, Gone}
use Rattle.adb_history.specs.Rows.{Client}

pub record Seen : Type 0 where
  pub phase : Phase
  pub held : List ℕ

abbrev pub seen_in : Phase → List ℕ → Option Seen
seen_in Asking held = Some (record { phase = Asking; held = held })
seen_in (Opening l) held = Some (record { phase = Opening l; held = held })
seen_in (Streaming l) held = Some (record { phase = Streaming l; held = held })
seen_in Binding held = None
seen_in Tracking held = None
seen_in Closing held = None
seen_in Gone held = None

abbrev pub seen : Option Client → Option Seen
seen None = None
seen (Some x) = seen_in x.about.phase x.held

-- a client sees so much of itself
abbrev pub Sees : Option Client → Seen → Type 0
Sees o v = seen o ≡ Some v

-- the phase of a client that has this stream
abbrev pub IsOf : ℕ → Phase → Type 0
IsOf l (Opening k) = k ≡ l
IsOf l (Streaming k) = k ≡ l
IsOf l _ = ⊥
