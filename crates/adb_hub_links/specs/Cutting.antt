-- What comes in on a link, cut to packets.
use Rattle.std.specs.Prelude.{ℕ, ◌≡◌, [], ◌∷◌, ◌++◌, List, All, Option, Some, None, is_some}
use Rattle.adb_wire.specs.Cutting.{cut_packets}
use Rattle.adb_wire.specs.Deframing.{Deframing}
use Rattle.adb_hub_rules.specs.declared.came.Came.{Came}
use Rattle.adb_hub_rules.specs.Came.{IsCame, packet_of, packets_of}
use Rattle.adb_hub_links.specs.declared.cutting.Cutting.{Cutting}

-- No packet waits to be taken, and no byte was wrong.
pub record IsClear (held : Deframing) : Type 0 where
  pub given : held.given ≡ []
  pub sound : held.fault ≡ None

-- what a further piece is cut to, behind what is held
abbrev pub cut_of : Deframing → List ℕ → Deframing
cut_of held piece = cut_packets held.reading (held.rest ++ piece)

-- The packets of a cut were taken, and what is behind them is held.
pub record IsCutTo (c : Deframing) (cutting : Cutting) : Type 0 where
  pub came : All IsCame cutting.packets.items
  pub packets : packets_of cutting.packets.items ≡ c.given
  pub incoming : cutting.incoming ≡ record c { given = [] }
  pub broken : cutting.broken ≡ is_some c.fault

-- The packet was the first of those that are held.
pub record IsTaken (old new : Deframing) (taken : Came) : Type 0 where
  pub came : IsCame taken
  pub was : old ≡ record new { given = packet_of taken ∷ new.given }

-- The next packet was taken, or there is none.
abbrev pub TakesNext : (old new : Deframing) → Option Came → Type 0
TakesNext old new None = (old.given ≡ []) × (new ≡ old)
TakesNext old new (Some taken) = IsTaken old new taken

-- Some of the packets that were held were taken.
pub record HasTaken (old : Deframing) (packets : List Came) (now : Deframing) : Type 0 where
  pub came : All IsCame packets
  pub given : packets_of packets ++ now.given ≡ old.given
  pub rest : now ≡ record old { given = now.given }

-- What was cut off was taken, and it is known whether a byte behind it was wrong.
pub record IsCutting (cutting : Cutting) : Type 0 where
  pub came : All IsCame cutting.packets.items
  pub broken : cutting.broken ≡ is_some cutting.incoming.fault

-- packets that came, and what is held behind them
abbrev pub cut_with : Deframing → List Came → Deframing
cut_with incoming came = record incoming { given = packets_of came }

-- what a piece was cut to
abbrev pub cut_in : Cutting → Deframing
cut_in cutting = cut_with cutting.incoming cutting.packets.items
