-- The machine: what each entry of a history makes, and which histories are legal.
use Rattle.std.specs.Prelude.{ℕ, ◌+◌, ◌^◌, ◌≡◌, ◌≢◌, ◌≤◌, ◌<◌, false, List, [], ◌∷◌, ◌++◌, length, All, Option, Some, None}
use Rattle.adb_outside.specs.Bytes.{IsPrefixOf}
use Rattle.adb_registry.specs.Registry.{attach_refusal}
use Rattle.adb_capture.specs.Records.{number_of, data_of}
use Rattle.adb_capture.specs.declared.entry.Entry.{Entry}
use Rattle.adb_capture.specs.declared.entry.Entry.TheVariants.{Join, Enter, Read, End, Bound, Attach, Recv, Detach, Put, Send}
use Rattle.adb_history.specs.Rows.{Client, Link, State, start}
use Rattle.adb_history.specs.Events.{Made, Event, quietly, then_also}
use Rattle.adb_history.specs.declared.ending.Ending.TheVariants.{Lost}
use Rattle.adb_history.specs.Flow.{up_all}
use Rattle.adb_history.specs.Tracking.{offered}
use Rattle.adb_history.specs.Losing.{link_ends, client_ends}
use Rattle.adb_history.specs.Packets.{receives}
use Rattle.adb_history.specs.Reading.{comes, enters, plugs_in, reads, bound}
use Rattle.adb_history.specs.Handing.{puts, sends}

-- detach: a link that is gone stays so
abbrev pub unplugs_on : Option Link → ℕ → State → Made
unplugs_on None t s = quietly s
unplugs_on (Some link) t s = link_ends t Lost s

abbrev pub unplugs : ℕ → State → Made
unplugs t s = unplugs_on (s.links t) t s

-- the rule of an entry
abbrev pub rule : Entry → State → Made
rule (Join c) s = quietly (comes false c s)
rule (Enter c port) s = enters c port s
rule (Read c bytes) s = reads c bytes s
rule (End c cause) s = client_ends c cause (s.clients c) s
rule (Bound c port) s = bound c port s
rule (Attach t kind serial) s = plugs_in t kind serial s
rule (Recv t bytes) s = receives t bytes s
rule (Detach t cause) s = unplugs t s
rule (Put c bytes) s = puts c (length bytes) s
rule (Send t bytes) s = quietly (sends t (length bytes) s)

-- the up rule for every stream
abbrev pub ups : State → Made
ups s = up_all s.drawn s

-- what an entry makes: its rule, and then the up rule
abbrev pub step : State → Entry → Made
step s e = then_also (rule e s) ups

-- a history, the newest entry first
abbrev pub History : Type 0
History = List Entry

-- what a history leaves
abbrev pub state : History → State
state [] = start
state (e ∷ older) = (step (state older) e).state

-- what an entry told, behind those before it
abbrev pub told_at : Entry → History → List Event
told_at e older = (step (state older) e).told

-- all that was told, the first event first
abbrev pub told : History → List Event
told [] = []
told (e ∷ older) = told older ++ told_at e older

-- ---- legal histories
-- a number that was drawn
abbrev pub IsDrawn : ℕ → ℕ → Type 0
IsDrawn drawn n = (0 < n) × (n ≤ drawn)

-- a port, where an entry has one, is a number of 16 bits
abbrev pub IsPort : Entry → Type 0
IsPort (Enter client port) = port < 2 ^ 16
IsPort (Bound client port) = port < 2 ^ 16
IsPort _ = Unit {0}

-- an entry whose number, port and bytes are in their types' ranges
pub record IsInRange (e : Entry) : Type 0 where
  pub owner : number_of e < 2 ^ 32
  pub port : IsPort e
  pub bytes : All (λ b. b < 256) (data_of e)

-- some of the first of these bytes
pub record IsSomeOf (bytes all : List ℕ) : Type 0 where
  pub some : bytes ≢ []
  pub front : IsPrefixOf bytes all

-- what may be put to a client: some of the first bytes that are due to it, while it lives, or of the list that it is owed
abbrev pub MayPut : State → Option Client → List ℕ → Type 0
MayPut s None bytes = ⊥
MayPut s (Some client) bytes = IsSomeOf bytes (offered s.devices client)

-- what may be sent to a link: some of the first bytes that are due to it, while it lives
abbrev pub MaySend : Option Link → List ℕ → Type 0
MaySend None bytes = ⊥
MaySend (Some link) bytes = IsSomeOf bytes link.due

-- which entry may come next; after a kill nothing comes any more
abbrev pub May : State → Entry → Type 0
May s (Join c) = (s.stopped ≡ false) × (c ≡ s.joined + 1)
May s (Enter c port) = (s.stopped ≡ false) × (c ≡ s.joined + 1)
May s (Read c bytes) = (s.stopped ≡ false) × IsDrawn s.joined c
May s (End c cause) = (s.stopped ≡ false) × IsDrawn s.joined c
May s (Bound c port) = (s.stopped ≡ false) × IsDrawn s.joined c
May s (Attach t kind serial) = (s.stopped ≡ false) × (t ≡ s.devices.drawn + 1) × (attach_refusal s.devices serial ≡ None)
May s (Recv t bytes) = (s.stopped ≡ false) × IsDrawn s.devices.drawn t
May s (Detach t cause) = (s.stopped ≡ false) × IsDrawn s.devices.drawn t
May s (Put c bytes) = MayPut s (s.clients c) bytes
May s (Send t bytes) = MaySend (s.links t) bytes

-- each entry is in its range, and may come after those before it
abbrev pub IsLegal : History → Type 0
IsLegal [] = Unit {0}
IsLegal (e ∷ older) = IsLegal older × IsInRange e × May (state older) e
