-- Each entry of a load may come behind those before it.
use Rattle.std.proofs.Common.{ℕ, ◌+◌, ◌≡◌, ◌<◌, ◌≤◌, Bool, true, false, List, [], ◌∷◌, ◌++◌, refl, sym, ◌∙◌, ap, subst, arith}
use Rattle.std.proofs.Common.{if◌then◌else◌}
use Rattle.std.specs.Prelude.{Option, None, ◌-◌, ◌*◌, is_none}
use Rattle.std.specs.Fmt.{digits}
use Rattle.std.proofs.Math.Nat.{mod-lt}
use Rattle.std.proofs.lemmas.List.{map-append}
use Rattle.adb_outside.specs.Serial.{is_serial}
use Rattle.adb_outside.specs.declared.kinds.Kind.TheVariants.{Usb}
use Rattle.adb_outside.specs.declared.kinds.Cause.TheVariants.{Eof}
use Rattle.adb_wire.specs.declared.command.Command.TheVariants.{Okay, Wrte, Clse}
use Rattle.adb_capture.specs.declared.entry.Entry.{Entry}
use Rattle.adb_capture.specs.declared.entry.Entry.TheVariants.{Join, Read, End, Attach, Recv}
use Rattle.adb_history.specs.Machine.{History, IsDrawn, IsLegal}
use Rattle.adb_history.specs.Book.{asked}
use Rattle.adb_wire.specs.declared.command.Command.{Command}
use Rattle.adb_history.specs.Drained.{drained_from}
use Rattle.adb_history.specs.Tied.{came_count}
use Rattle.adb_load.specs.declared.act.Act.{Act}
use Rattle.adb_load.specs.declared.act.Act.TheVariants.{Answer, Leave, Close}
use Rattle.adb_load.specs.declared.act.Piece.TheVariants.{Whole, Head, Tail}
use Rattle.adb_load.specs.declared.live.Live.{Live}
use Rattle.adb_load.specs.Acts.{IsShort, entry_of, acts_from, acts_due, asked_of, client_of, link_of, serial_of, greeting, device_packet}
use Rattle.adb_load.specs.Acts.{up_bytes, down_bytes}
use Rattle.adb_load.specs.Acts.{up_size, down_size, piece_of, remote_of}
use Rattle.adb_load.specs.Streams.{is_set, moved}
use Rattle.adb_load.specs.Course.{Progress, turn, start, turns_left}
use Rattle.adb_load.specs.Load.{acts_of_turns, acts_ahead, entries_of, load}
use Rattle.adb_laws_loads.specs.Taken.{IsTaken}
use Rattle.adb_laws_loads.proofs.Turns.{all_devices, turns_keep, after_turns, by_turn, by_moved}
use Rattle.adb_laws_loads.proofs.Turns.{IsUnderWay, turn_under_way, under_way_at_first, live_begun, IsBegun}
use Rattle.adb_laws_loads.proofs.Inputs.{came_onto, came, came_more, drained_same}
use Rattle.adb_laws_loads.proofs.Asking.{by_link}
use Rattle.adb_load.proofs.Cycles.{cycle_length}
use Rattle.adb_load.proofs.Records.{literal_bytes, cycle_bytes, cycle_short, packet_short, piece_short, serial_short, asked_short}
use Rattle.adb_load.proofs.Records.{greeting_short}
use Rattle.adb_laws_loads.proofs.Texts.{no_bytes}
use Rattle.adb_load.proofs.Records.{joined_bytes as both_bytes}
use Rattle.adb_laws_loads.proofs.AskTexts.{asked_texts}
use Rattle.adb_laws_loads.proofs.Taking.{MayCome, AsksFirst, AllMayCome, all_more, each_may, taken}
use Rattle.adb_laws_loads.proofs.Standing as stand
use Rattle.adb_laws_loads.proofs.Standing.{Stands}

-- the serial of each device is one
serials : (n : ℕ) → n < 8 → is_serial (serial_of (n + 1)) ≡ true
unfolding digits
serials = by_link (λ t. is_serial (serial_of t) ≡ true) refl refl refl refl refl refl refl refl

-- ---- entries, one behind the other
-- Some entries may come, and this stands behind them.
pub record Arrives (begun plugged : ℕ) (inputs : List Entry) (g : History) : Type 0 where
  pub may : AllMayCome inputs g
  pub stands : Stands begun plugged (came_onto inputs g)

-- with one more in front
and_before : (begun plugged : ℕ) (e : Entry) (inputs : List Entry) (g : History) → MayCome g e → Arrives begun plugged inputs (e ∷ g)
    → Arrives begun plugged (e ∷ inputs) g
and_before begun plugged e inputs g may others = record { may = (may, others.may); stands = others.stands }

nothing : (begun plugged : ℕ) (g : History) → Stands begun plugged g → Arrives begun plugged [] g
nothing begun plugged g at = record { may = tt; stands = at }

-- what the device of a stream says on it
bare_short : (command : Command) (stream : ℕ) → IsShort (device_packet command stream [])
bare_short command stream = packet_short command (remote_of stream) (client_of stream) [] no_bytes (omega arith)

answer_short : (stream from count : ℕ) → count ≤ down_size stream → IsShort (device_packet Wrte stream (down_bytes stream from count))
answer_short stream from count small = packet_short Wrte (remote_of stream) (client_of stream) (down_bytes stream from count)
    (cycle_bytes (2 * stream) from count)
    (omega (arith, cycle_length (2 * stream) from count, small, mod-lt stream {m = 100} (omega arith)))

up_short : (stream from count : ℕ) → count ≤ up_size stream → IsShort (up_bytes stream from count)
up_short stream from count small = cycle_short stream from count (omega (arith, small, mod-lt stream {m = 100} (omega arith)))

module _ (begun : ℕ) where
  -- what the device of any stream says
  says_may : (g : History) → Stands begun all_devices g → (stream : ℕ) (bytes : List ℕ) → IsShort bytes
      → MayCome g (Recv (link_of stream) bytes)
  says_may g at stream bytes short = record {
    wants = (omega arith, omega (arith, mod-lt stream {m = 8} (omega arith), at.links));
    reads = tt;
    bytes = short.bytes;
    size = omega (arith, short.size);
    killed = at.killed;
  }

  says_last : (g : History) → Stands begun all_devices g → (stream : ℕ) (bytes : List ℕ) → IsShort bytes
      → Arrives begun all_devices (Recv (link_of stream) bytes ∷ []) g
  says_last g at stream bytes are = and_before begun all_devices (Recv (link_of stream) bytes) [] g (says_may g at stream bytes are)
      (nothing begun all_devices (Recv (link_of stream) bytes ∷ g) (stand.received begun all_devices g at (link_of stream) bytes))

  says_twice : (g : History) → Stands begun all_devices g → (stream : ℕ) (bytes more : List ℕ) → IsShort bytes → IsShort more
      → Arrives begun all_devices (Recv (link_of stream) bytes ∷ Recv (link_of stream) more ∷ []) g
  says_twice g at stream bytes more are others =
      and_before begun all_devices (Recv (link_of stream) bytes) (Recv (link_of stream) more ∷ []) g (says_may g at stream bytes are)
      (says_last (Recv (link_of stream) bytes ∷ g) (stand.received begun all_devices g at (link_of stream) bytes) stream more others)

  -- the client of a stream that has begun asks no more
  client_drawn : (g : History) → Stands begun all_devices g → (stream : ℕ) → stream < begun → IsDrawn (came_count g) (client_of stream)
  client_drawn g at stream own = (omega arith, omega (arith, own, at.came))

  no_more : (g : History) → Stands begun all_devices g → (stream : ℕ) → stream < begun → (bytes : List ℕ)
      → (asked (client_of stream) g).next ≡ None → AsksFirst (client_of stream) bytes g
  no_more g at stream own bytes none =
      absurd (let clash : true ≡ false = sym (ap is_none none) ∙ at.over (client_of stream) (omega arith) (omega (arith, own)) in cc)

  writes : (g : History) → Stands begun all_devices g → (stream : ℕ) → stream < begun → (bytes answer : List ℕ)
      → IsShort bytes → IsShort answer
      → Arrives begun all_devices (Read (client_of stream) bytes ∷ Recv (link_of stream) answer ∷ []) g
  writes g at stream own bytes answer are others =
      and_before begun all_devices (Read (client_of stream) bytes) (Recv (link_of stream) answer ∷ []) g
      (record {
        wants = client_drawn g at stream own;
        reads = no_more g at stream own bytes;
        bytes = are.bytes;
        size = omega (arith, are.size);
        killed = at.killed;
      })
      (says_last (Read (client_of stream) bytes ∷ g)
      (stand.written begun all_devices g at (client_of stream) bytes (omega arith) (omega (arith, own))) stream answer others)

  leaves : (g : History) → Stands begun all_devices g → (stream : ℕ) → stream < begun
      → Arrives begun all_devices (End (client_of stream) Eof ∷ []) g
  leaves g at stream own =
      and_before begun all_devices (End (client_of stream) Eof) [] g
      (record {
        wants = client_drawn g at stream own;
        reads = tt;
        bytes = literal_bytes (0 ∷ []) refl;
        size =
            omega arith;
        killed = at.killed;
      })
      (nothing begun all_devices (End (client_of stream) Eof ∷ g)
      (stand.ended begun all_devices g at (client_of stream) Eof (omega (arith, own))))

  -- a stream begins
  asks_first : (g : History) → Stands begun all_devices g → AsksFirst (client_of begun) (asked_of begun) (Join (client_of begun) ∷ g)
  asks_first g at = record { nothing = at.fresh (client_of begun) (omega arith); texts = asked_texts begun }

  comes : (g : History) → Stands begun all_devices g
      → Arrives (begun + 1) all_devices (Join (client_of begun) ∷ Read (client_of begun) (asked_of begun)
      ∷ Recv (link_of begun) (device_packet Okay begun []) ∷ []) g
  comes g at = record {
    may = (
      record { wants = ap (λ n. n + 1) (sym at.came); reads = tt; bytes = no_bytes; size = omega arith; killed = at.killed },
      (
        record {
          wants = (omega arith, omega (arith, at.came));
          reads = λ none. asks_first g at;
          bytes = (asked_short begun).bytes;
          size = omega (arith, (asked_short begun).size);
          killed = at.killed;
        },
        (
          record {
            wants = (omega arith, omega (arith, mod-lt begun {m = 8} (omega arith), at.links));
            reads = tt;
            bytes = (bare_short Okay begun).bytes;
            size = omega (arith, (bare_short Okay begun).size);
            killed = after.killed;
          },
          tt,
        ),
      ),
    );
    stands = stand.received (begun + 1) all_devices _ after (link_of begun) (device_packet Okay begun []);
  }
    where
      after : Stands (begun + 1) all_devices (Read (client_of begun) (asked_of begun) ∷ Join (client_of begun) ∷ g)
      after = stand.begins begun all_devices g at

-- a device is plugged in
plugs : (begun plugged : ℕ) (g : History) → Stands begun plugged g → plugged < all_devices
    → Arrives begun (plugged + 1) (Attach (plugged + 1) Usb (serial_of (plugged + 1)) ∷ Recv (plugged + 1) greeting ∷ []) g
plugs begun plugged g at few = record {
  may = (
    record {
      wants = record { next = ap (λ n. n + 1) (sym at.links); few = omega (arith, at.links, few); spelled = serials plugged few };
      reads = tt;
      bytes = both_bytes (117 ∷ []) (serial_of (plugged + 1)) (literal_bytes (117 ∷ []) refl)
          (serial_short (plugged + 1) (omega (arith, few))).bytes;
      size = omega (arith, (serial_short (plugged + 1) (omega (arith, few))).size);
      killed = at.killed;
    },
    (
      record {
        wants = (omega arith, omega (arith, at.links));
        reads = tt;
        bytes = greeting_short.bytes;
        size = omega (arith, greeting_short.size);
        killed = at.killed;
      },
      tt,
    ),
  );
  stands = stand.received begun (plugged + 1) _
      (stand.attached begun plugged g at (plugged + 1) Usb (serial_of (plugged + 1))) (plugged + 1) greeting;
}

-- ---- turns
-- what comes with a turn, if anything
abbrev pub ArriveBy : Progress → Option Act → History → Type 0
ArriveBy p act g = Arrives p.begun p.plugged (entries_of (acts_due act)) g

module _ (g : History) (p : Progress) (way : IsUnderWay p) (at : Stands p.begun p.plugged g) where
  -- all devices are plugged in
  all_plugged : all_devices ≤ p.plugged → all_devices ≡ p.plugged
  all_plugged few = omega (arith, few, way.plugged)

  all_at : all_devices ≤ p.plugged → Stands p.begun all_devices g
  all_at few = subst (λ n. Stands p.begun n g) (sym (all_plugged few)) at

  from_all : all_devices ≤ p.plugged → (begun : ℕ) (inputs : List Entry) → Arrives begun all_devices inputs g
      → Arrives begun p.plugged inputs g
  from_all few begun inputs come = subst (λ n. Arrives begun n inputs g) (all_plugged few) come

  moves : (live : Live) → IsBegun p.begun live → all_devices ≤ p.plugged → (word : ℕ)
      → Arrives p.begun p.plugged (entries_of (acts_from (moved word live).act)) g
  moves live own few word = from_all few p.begun (entries_of (acts_from (moved word live).act))
      (by_moved (λ act after. Arrives p.begun all_devices (entries_of (acts_from act)) g) word live (record {
        up = λ count some most. writes p.begun g (all_at few) live.number own.number
            (up_bytes live.number (up_size live.number - live.up) count)
            (device_packet Okay live.number []) (up_short live.number (up_size live.number - live.up) count (omega (arith, most, own.up)))
            (bare_short Okay live.number);
        down = λ count some most. down (is_set word 5) (down_size live.number - live.down) count (omega (arith, most, own.down));
        ends = λ up down. ends (is_set word 4);
      }))
    where
      packet : (from count : ℕ) → List ℕ
      packet from count = device_packet Wrte live.number (down_bytes live.number from count)

      down : (split : Bool) (from count : ℕ) → count ≤ down_size live.number
          → Arrives p.begun all_devices (entries_of (acts_from (Answer live.number from count (if split then Head else Whole)))) g
      down true from count small = let short = answer_short live.number from count small in
          says_twice p.begun g (all_at few) live.number (piece_of Head (packet from count)) (piece_of Tail (packet from count))
          (piece_short Head (packet from count) short) (piece_short Tail (packet from count) short)
      down false from count small = says_last p.begun g (all_at few) live.number (packet from count)
          (answer_short live.number from count small)

      ends : (closes : Bool)
          → Arrives p.begun all_devices
          (entries_of (acts_from (if closes then Close live.number else Leave live.number))) g
      ends true = says_last p.begun g (all_at few) live.number (device_packet Clse live.number []) (bare_short Clse live.number)
      ends false = leaves p.begun g (all_at few) live.number own.number

  turn_arrives : ArriveBy (turn p).after (turn p).act g
  turn_arrives = by_turn (λ t. ArriveBy t.after t.act g) p (record {
    plugs = λ some. plugs p.begun p.plugged g at some;
    begins = λ few room left. from_all few (p.begun + 1) _ (comes p.begun g (all_at few));
    over = λ few empty left. nothing p.begun p.plugged g at;
    moves = λ few words word place live is. moves live (live_begun p way place live is) few word;
  })

-- What was done so far may have come, and this stands now.
pub record Follows (done : List Act) (p : Progress) : Type 0 where
  pub may : AllMayCome (entries_of done) []
  pub way : IsUnderWay p
  pub stands : Stands p.begun p.plugged (came done)

pub turn_follows : (done : List Act) (p : Progress) → Follows done p → Follows (done ++ acts_due (turn p).act) (turn p).after
turn_follows done p so_far = record {
  may = subst (λ inputs. AllMayCome inputs []) (sym (map-append entry_of done acts))
      (all_more (entries_of done) (entries_of acts) [] so_far.may next.may);
  way = turn_under_way p so_far.way;
  stands = subst (Stands (turn p).after.begun (turn p).after.plugged) (sym (came_more done acts)) next.stands;
}
  where
    acts : List Act
    acts = acts_due (turn p).act

    next : ArriveBy (turn p).after (turn p).act (came done)
    next = turn_arrives (came done) p so_far.way so_far.stands

pub turns_follow : (seed streams turns : ℕ) → Follows (acts_of_turns turns (start seed streams)) (after_turns turns (start seed streams))
turns_follow seed streams turns = turns_keep Follows turn_follows turns [] (start seed streams) (record {
  may = tt;
  way = under_way_at_first seed streams;
  stands = stand.at_first;
})

-- ---- a load
pub load_follows : (seed streams : ℕ) → AllMayCome (load seed streams) []
unfolding acts_ahead
load_follows seed streams = (turns_follow seed streams (turns_left (start seed streams))).may

-- Each entry of a load is taken in by the server that has all those before it.
pub load_taken : (seed streams : ℕ) (front rest : List Entry) (e : Entry) → load seed streams ≡ front ++ e ∷ rest
    → IsLegal (drained_from [] front) → IsTaken (drained_from [] front) e
load_taken seed streams front rest e is legal = taken (drained_from [] front) (came_onto front []) e legal (drained_same front)
    (each_may front rest e [] (subst (λ inputs. AllMayCome inputs []) is (load_follows seed streams)))
