-- The bytes that a model device owes are framed to the packets that it owes.
use Rattle.std.specs.Prelude.{ℕ, ◌+◌, ◌-◌, ◌^◌, ◌≡◌, ◌≤◌, ◌<◌, ◌==◌, ◌||◌, if◌then◌else◌, Bool, true}
use Rattle.std.specs.Prelude.{false, All, List, [], ◌∷◌, ◌++◌, length, map, fold, sum, Option, Some, None}
use Rattle.std.proofs.Common.{zero, suc, refl, sym, ◌∙◌, ap, arith}
use Rattle.std.proofs.Math.Nat.{mod-lt}
use Rattle.std.proofs.lemmas.Bool.{eq-eqb, eqb-true}
use Rattle.std.proofs.lemmas.Bool.Decides.{nat_tests}
use Rattle.std.proofs.lemmas.List.{length-take}
use Rattle.std.proofs.lemmas.List.Elements.{All-nil, All-cons, All-append, All-head, All-tail}
use Rattle.byteorder.specs.Endian.{little_bytes}
use Rattle.adb_outside.specs.Tables.{at}
use Rattle.adb_wire.specs.declared.headers.TheConstants.{MAX_PAYLOAD}
use Rattle.adb_wire.specs.Format.{is_cnxn}
use Rattle.adb_wire.specs.Cutting.{framed}
use Rattle.adb_wire.specs.Packet.{check_of, spelling}
use Rattle.adb_wire.specs.declared.command.Command.{Command}
use Rattle.adb_wire.specs.declared.command.Command.TheVariants as commands
use Rattle.adb_wire.specs.declared.packets.Packet.{Packet}
use Rattle.adb_stream.specs.declared.flow.Flow.{Flow}
use Rattle.adb_stream.specs.declared.flow.Flow.TheVariants as flows
use Rattle.adb_history.specs.Events.{Event, due_to_link, packets_to, spelled_to}
use Rattle.adb_laws_births.specs.Brought.{HasWords}
use Rattle.adb_laws_births.proofs.Framed.{IsReadPlainly, IsReadEvent, spelled_cut}
use Rattle.adb_device_streams.specs.Asked.{Kind, service_of, name_of}
use Rattle.adb_device_streams.specs.Service.{came_over, files_fed, files_opened}
use Rattle.adb_device_streams.specs.Stream.{Row, opened, row_took, row_acked, row_past, row_written, next_payload, writes_at}
use Rattle.adb_device_streams.specs.Stream.{unsent, is_done, room_of, okay, clse, wrte, opening_word}
use Rattle.adb_device_streams.specs.Link.{credit_word_in, link_of}
use Rattle.adb_device_streams.specs.declared.link.Link.{Link}
use Rattle.adb_daemon.specs.Serving.{Serving, Sent, with_sum, owing, granted, sent_bytes, sent_ack}
use Rattle.adb_daemon.specs.Serving.{sent_writes, sent_close, settled_as, settled, named, closable, is_taken}
use Rattle.adb_daemon.specs.Serving.{kind_for, credit_of, open_as, on_open, written_to, on_write, acked_to, on_okay, closed_to, on_close}
use Rattle.adb_daemon.specs.Serving.{served}
use Rattle.adb_daemon.specs.Device.{Device, Setting, step, treated, linked_to, served_on, identity_text, first_device, device_behind}
use Rattle.adb_daemon.specs.Device.{own_cnxn}
use Rattle.adb_wire.specs.Header.{byte_sum_of}
use Rattle.adb_daemon.proofs.Owed.{written_host}
use Rattle.adb_laws_model_device.specs.Owed.{packets_of_sent, packets_owed}
use Rattle.adb_laws_model_device.proofs.Links.{IsShort, link_short}

-- ---- packets that are read as they were meant
-- a packet that became due is read as it was meant, with its sum
abbrev Fits : Sent → Type 0
Fits one = IsReadPlainly one.packet (check_of one.sums one.packet)

-- a sum is a word
check_word : (sums : Bool) (p : Packet) → check_of sums p < 2 ^ 32
check_word true p = mod-lt (sum p.payload) (omega arith)
check_word false p = omega arith

-- the packets that a device sends
module _ (sums : Bool) (own host : ℕ) (small : own < 2 ^ 32) (word : host < 2 ^ 32) where
  okay_fits : (payload : List ℕ) → length payload ≤ 4 → Fits (with_sum sums (okay own host payload))
  okay_fits payload four = record {
    head = record { arg0 = small; arg1 = word; size = omega (arith, four); check = check_word sums (okay own host payload) };
    carries = refl;
    after = refl;
  }

  wrte_fits : (payload : List ℕ) → length payload ≤ MAX_PAYLOAD → Fits (with_sum sums (wrte own host payload))
  wrte_fits payload size = record {
    head = record { arg0 = small; arg1 = word; size = size; check = check_word sums (wrte own host payload) };
    carries = refl;
    after = refl;
  }

  clse_fits : Fits (with_sum sums (clse own host))
  clse_fits = record {
    head = record { arg0 = small; arg1 = word; size = omega arith; check = check_word sums (clse own host) };
    carries = refl;
    after = refl;
  }

-- ---- what is written is short
-- a window lets go no more than a packet may have
room_short : (flow : Flow) (most : ℕ) → room_of flow most ≤ most
room_short flow most = omega arith

-- so the writes of a stream fit
written_fit : (k most : ℕ) (row : Row) (sums : Bool) (own : ℕ) → most ≤ MAX_PAYLOAD → own < 2 ^ 32 → (host : ℕ) → host < 2 ^ 32
    → All Fits (map (λ payload. with_sum sums (wrte own host payload)) (writes_at k most row))
written_fit zero most row sums own fits small host word = All-nil Fits
written_fit (suc k) most row sums own fits small host word =
    go (length (next_payload most row) == 0)
    (written_fit k most (row_past (next_payload most row) row) sums own fits small host word)
  where
    short : length (next_payload most row) ≤ MAX_PAYLOAD
    short = (let room = room_short row.flow most in let took =
        length-take (room_of row.flow most) (unsent row) in omega (arith, fits, room, took))

    next : List (List ℕ)
    next = writes_at k most (row_past (next_payload most row) row)

    go : (b : Bool)
        → All Fits (map (λ payload. with_sum sums (wrte own host payload))
        (writes_at k most (row_past (next_payload most row) row)))
        → All Fits (map (λ payload. with_sum sums (wrte own host payload))
        (if b then [] else next_payload most row ∷ writes_at k most (row_past (next_payload most row) row)))
    go true later = All-nil Fits
    go false later =
        All-cons Fits (with_sum sums (wrte own host (next_payload most row)))
        (map (λ payload. with_sum sums (wrte own host payload)) (writes_at k most (row_past (next_payload most row) row)))
        (wrte_fits sums own host small word (next_payload most row) short) later

-- ---- the device
-- all ids are words, and all that became due fits
record AreFine (s : Serving) : Type 0 where
  drawn : s.drawn < 2 ^ 32
  all : All Fits s.made

-- one packet that fits
all_one : (one : Sent) → Fits one → All Fits (one ∷ [])
all_one one fits = All-cons Fits one [] fits (All-nil Fits)

-- a stream settled
fine_settled : (link : Link) (own : ℕ) (row : Row) (s : Serving) → link.most ≤ MAX_PAYLOAD → own < 2 ^ 32 → row.host < 2 ^ 32 → AreFine s
    → AreFine (settled link own row s)
fine_settled link own row s short small word fine = go (is_done (row_written link.most row))
  where
    wrote : All Fits (s.made ++ sent_writes link own row)
    wrote = All-append Fits s.made (sent_writes link own row) fine.all
        (written_fit (length (unsent row)) link.most row link.sums own short small row.host word)

    last_word : (row_written link.most row).host < 2 ^ 32
    last_word = (let same = written_host link.most row in omega (arith, same, word))

    go : (b : Bool) → AreFine (settled_as b link own (row_written link.most row) (owing (sent_writes link own row) s))
    go false = record { drawn = fine.drawn; all = wrote }
    go true = record {
      drawn = fine.drawn;
      all = All-append Fits (s.made ++ sent_writes link own row) (sent_close true link own (row_written link.most row).host) wrote
          (all_one (with_sum link.sums (clse own (row_written link.most row).host))
          (clse_fits link.sums own (row_written link.most row).host small last_word));
    }

-- the opening OKAY has one word at most
opening_short : (credit : Option ℕ) → length (opening_word credit) ≤ 4
opening_short None = omega arith
opening_short (Some n) = omega arith

-- one packet on the link
module _ (link : Link) (short : link.most ≤ MAX_PAYLOAD) (p : Packet) (words : HasWords p) (s : Serving) (fine : AreFine s) where
  fine_open : AreFine (on_open link p s)
  fine_open = go (p.arg0 == 0 || is_taken p.arg0 s.rows)
    where
      some : (kind : Kind) → s.drawn + 1 < 2 ^ 32 → AreFine (open_as link p (Some kind) s)
      some kind small =
          fine_settled link (s.drawn + 1) (opened p.arg0 kind s.files (credit_of link p))
          (record (granted (s.drawn + 1) (credit_of link p)
          (owing (with_sum link.sums (okay (s.drawn + 1) p.arg0 (opening_word (credit_of link p))) ∷ []) s)) {
            drawn = s.drawn + 1;
            files = files_opened kind s.files;
          })
          short small words.arg0
          (record {
            drawn = small;
            all = All-append Fits s.made (with_sum link.sums (okay (s.drawn + 1) p.arg0 (opening_word (credit_of link p))) ∷ []) fine.all
                (all_one (with_sum link.sums (okay (s.drawn + 1) p.arg0 (opening_word (credit_of link p))))
                (okay_fits link.sums (s.drawn + 1) p.arg0 small words.arg0 (opening_word (credit_of link p))
                (opening_short (credit_of link p))));
          })

      none : AreFine (open_as link p None s)
      none = record {
        drawn = fine.drawn;
        all = All-append Fits s.made (with_sum link.sums (clse 0 p.arg0) ∷ []) fine.all
            (all_one (with_sum link.sums (clse 0 p.arg0)) (clse_fits link.sums 0 p.arg0 (omega arith) words.arg0));
      }

      kinds : (kind : Option Kind) → s.drawn + 1 < 2 ^ 32 → AreFine (open_as link p kind s)
      kinds None small = none
      kinds (Some kind) small = some kind small

      by : (b : Bool) → (s.drawn == 2 ^ 32 - 1) ≡ b → AreFine (open_as link p (if b then None else service_of (name_of p.payload)) s)
      by true e = none
      by false e = kinds (service_of (name_of p.payload)) (below (s.drawn == 2 ^ 32 - 1) e)
        where
          below : (b : Bool) → (s.drawn == 2 ^ 32 - 1) ≡ false → s.drawn + 1 < 2 ^ 32
          below b not = (let old = fine.drawn in grind (arith, nat_tests, old, not))

      go : (b : Bool) → AreFine (if b then s else open_as link p (kind_for s.drawn p) s)
      go true = fine
      go false = by (s.drawn == 2 ^ 32 - 1) refl

  fine_write : AreFine (on_write link p s)
  fine_write = go (at p.arg1 s.rows)
    where
      acked : (flow : Flow) (host n : ℕ) → host < 2 ^ 32 → All Fits (sent_ack link p.arg1 host flow n)
      acked (flows.One window) host n word =
          all_one (with_sum link.sums (okay p.arg1 host [])) (okay_fits link.sums p.arg1 host words.arg1 word [] (omega arith))
      acked (flows.Credit credit) host n word = by (n == 0)
        where
          by : (b : Bool) → All Fits (if b then [] else with_sum link.sums (okay p.arg1 host (little_bytes 4 n)) ∷ [])
          by true = All-nil Fits
          by false =
              all_one (with_sum link.sums (okay p.arg1 host (little_bytes 4 n)))
              (okay_fits link.sums p.arg1 host words.arg1 word (little_bytes 4 n) (omega arith))

      took : (row : Row) → row.host < 2 ^ 32 → AreFine (written_to link p (Some row) s)
      took row word =
          fine_settled link p.arg1 (row_took (came_over p.payload s.files) row)
          (record (owing (sent_ack link p.arg1 row.host row.flow (length p.payload)) s) {
            files = files_fed row.kind row.past (came_over p.payload s.files);
          })
          short words.arg1 word
          (record {
            drawn = fine.drawn;
            all = All-append Fits s.made (sent_ack link p.arg1 row.host row.flow (length p.payload)) fine.all
                (acked row.flow row.host (length p.payload) word);
          })

      at_row : (row : Row) (b : Bool) → (row.host == p.arg0) ≡ b → AreFine (written_to link p (if b then Some row else None) s)
      at_row row true e = took row (let same = eqb-true row.host p.arg0 e in let word = words.arg0 in omega (arith, same, word))
      at_row row false e = fine

      go : (found : Option Row) → AreFine (written_to link p (named p.arg0 found) s)
      go None = fine
      go (Some row) = at_row row (row.host == p.arg0) refl

  fine_okay : AreFine (on_okay link p s)
  fine_okay = go (at p.arg1 s.rows)
    where
      at_row : (row : Row) (b : Bool) → (row.host == p.arg0) ≡ b → AreFine (acked_to link p (if b then Some row else None) s)
      at_row row true e =
          fine_settled link p.arg1 (row_acked (credit_word_in p.payload) row) (granted p.arg1 (credit_word_in p.payload) s) short words.arg1
          (let same = eqb-true row.host p.arg0 e in let word = words.arg0 in omega (arith, same, word))
          (record { drawn = fine.drawn; all = fine.all })
      at_row row false e = fine

      go : (found : Option Row) → AreFine (acked_to link p (named p.arg0 found) s)
      go None = fine
      go (Some row) = at_row row (row.host == p.arg0) refl

  fine_close : AreFine (on_close p s)
  fine_close = go (closable p.arg0 (at p.arg1 s.rows))
    where
      go : (found : Option Row) → AreFine (closed_to p.arg1 found s)
      go None = fine
      go (Some row) = record { drawn = fine.drawn; all = fine.all }

  fine_served : (command : Command) → AreFine (served command link p s)
  fine_served commands.Open = fine_open
  fine_served commands.Wrte = fine_write
  fine_served commands.Okay = fine_okay
  fine_served commands.Clse = fine_close
  fine_served _ = fine

-- the link is short, and what is due is fine
record IsFine (d : Device) : Type 0 where
  link : IsShort d.link
  serving : AreFine d.serving

-- a packet
fine_step : (setting : Setting) (d : Device) (p : Packet) → HasWords p → IsFine d → IsFine (step setting d p)
unfolding step
fine_step setting d p words fine = go d.refused
  where
    linked : (link : Option Link) → IsShort link → IsFine (linked_to link d)
    linked None short = record { link = fine.link; serving = fine.serving }
    linked (Some link) short = record { link = short; serving = record { drawn = fine.serving.drawn; all = fine.serving.all } }

    on : (link : Option Link) → IsShort link → IsFine (served_on link p d)
    on None short = fine
    on (Some link) short = record { link = fine.link; serving = fine_served link short p words d.serving fine.serving p.command }

    by : (b : Bool) → IsFine (if b then linked_to (link_of setting.most setting.credit p) d else served_on d.link p d)
    by true = linked (link_of setting.most setting.credit p) (link_short setting.most setting.credit p)
    by false = on d.link fine.link

    go : (b : Bool) → IsFine (if b then d else treated setting p d)
    go true = fine
    go false = by (is_cnxn p.command)

-- all packets
fine_all : (setting : Setting) (packets : List Packet) → All HasWords packets → (d : Device) → IsFine d
    → IsFine (fold (step setting) d packets)
fine_all setting [] all d fine = fine
fine_all setting (p ∷ packets) all d fine =
    fine_all setting packets (All-tail HasWords p packets all) (step setting d p)
    (fine_step setting d p (All-head HasWords p packets all) fine)

-- its own CNXN
cnxn_fits : (setting : Setting) → setting.most < 2 ^ 32 → Fits (own_cnxn setting)
cnxn_fits setting word = record {
  head = record {
    arg0 = omega arith;
    arg1 = word;
    size = text_short setting.credit;
    check = mod-lt (sum (identity_text setting.credit)) (omega arith);
  };
  carries = own_sum (byte_sum_of (identity_text setting.credit));
  after = refl;
}
  where
    text_short : (credit : Bool) → length (identity_text credit) ≤ MAX_PAYLOAD
    text_short true = omega arith
    text_short false = omega arith

    or_true : (b : Bool) → (b || true) ≡ true
    or_true true = refl
    or_true false = refl

    own_sum : (total : ℕ) → (total == 0 || total == total) ≡ true
    own_sum total = ap (λ (b : Bool). (total == 0) || b) (eq-eqb total total refl) ∙ or_true (total == 0)

-- the device before any packet
fine_first : (setting : Setting) → setting.most < 2 ^ 32 → IsFine (first_device setting)
fine_first setting word = record {
  link = tt;
  serving = record { drawn = omega arith; all = all_one (own_cnxn setting) (cnxn_fits setting word) };
}

-- ---- framed
-- what became due, as what becomes due on a link of a server
abbrev events_of : List Sent → List Event
events_of [] = []
events_of (one ∷ made) = due_to_link 1 one.packet (check_of one.sums one.packet) ∷ events_of made

-- it has the same bytes, and the same packets
spelled_made : (made : List Sent) → spelled_to 1 (events_of made) ≡ sent_bytes made
spelled_made [] = refl
spelled_made (one ∷ made) =
    ap (λ x. spelling one.packet (check_of one.sums one.packet) ++ x) (spelled_made made)

packets_made : (made : List Sent) → packets_to 1 (events_of made) ≡ packets_of_sent made
packets_made [] = refl
packets_made (one ∷ made) = ap (λ (ps : List Packet). one.packet ∷ ps) (packets_made made)

-- and all of it is read as it was meant
all_events : (made : List Sent) → All Fits made → All IsReadEvent (events_of made)
all_events [] all = All-nil IsReadEvent
all_events (one ∷ made) all =
    All-cons IsReadEvent (due_to_link 1 one.packet (check_of one.sums one.packet)) (events_of made) (All-head Fits one made all)
    (all_events made (All-tail Fits one made all))

-- so the bytes that a device owes are framed to its packets
pub framed_owed : (setting : Setting) → setting.most < 2 ^ 32 → (packets : List Packet) → All HasWords packets
    → (framed (sent_bytes (device_behind setting packets).serving.made)).given ≡ packets_owed setting packets
framed_owed setting word packets words =
    let made : List Sent = (device_behind setting packets).serving.made in
    let fine = fine_all setting packets words (first_device setting) (fine_first setting word) in
    ap (λ bytes. (framed bytes).given) (sym (spelled_made made))
    ∙ (ap (λ c. c.given) (spelled_cut 1 (events_of made) (all_events made fine.serving.all)) ∙ packets_made made)

-- and have no fault
pub sound_owed : (setting : Setting) → setting.most < 2 ^ 32 → (packets : List Packet) → All HasWords packets
    → (framed (sent_bytes (device_behind setting packets).serving.made)).fault ≡ None
sound_owed setting word packets words =
    let made : List Sent = (device_behind setting packets).serving.made in
    let fine = fine_all setting packets words (first_device setting) (fine_first setting word) in
    ap (λ bytes. (framed bytes).fault) (sym (spelled_made made))
    ∙ ap (λ c. c.fault) (spelled_cut 1 (events_of made) (all_events made fine.serving.all))
