-- What is due, and what streams may still write, is no more than what the packets of the host let out.
use Rattle.std.specs.Prelude.{ℕ, ◌≡◌, ◌≢◌, ◌≤◌, ◌+◌, ◌*◌, ◌==◌, ◌||◌, min, nat_lt, cond, if◌then◌else◌, Bool, true, false}
use Rattle.std.specs.Prelude.{List, [], ◌∷◌, ◌++◌, length, take, map, fold, zero, suc, Option, Some, None, unwrap_or}
use Rattle.std.proofs.Common.{Ordering, refl, sym, ◌∙◌, ap, subst, arith}
use Rattle.std.specs.List.Sorted.{IsStrictlySortedBy}
use Rattle.std.specs.Ordering.{nat_cmp, is_eq, match_ordering}
use Rattle.std.specs.declared.cmp.Ordering.TheVariants.{Less, Equal, Greater}
use Rattle.std.specs.BTreeMap.{is_at}
use Rattle.std.proofs.lemmas.Cmp.{nat_cmp_total}
use Rattle.std.proofs.lemmas.List.{length-append, length-take}
use Rattle.std.proofs.lemmas.Map.{lookup-none}
use Rattle.std.proofs.lemmas.Map.Entries.{none_below_head}
use borrow.Author.Tests.{false-eqb}
use Rattle.byteorder.specs.Endian.{little_bytes}
use Rattle.adb_outside.specs.Tables.{at, IsRising, put_at, without}
use Rattle.adb_outside.proofs.TableLaws.{put_at_rises, without_rises}
use Rattle.adb_wire.specs.Format.{is_cnxn}
use Rattle.adb_wire.specs.Packet.{check_of, head_for}
use Rattle.adb_wire.specs.Header.{header_bytes}
use Rattle.adb_wire.specs.Cutting.{parts_of}
use Rattle.adb_wire.specs.declared.command.Command.{Command}
use Rattle.adb_wire.specs.declared.command.Command.TheVariants as commands
use Rattle.adb_wire.specs.declared.headers.TheConstants.{HEADER_LEN}
use Rattle.adb_wire.specs.declared.packets.Packet.{Packet}
use Rattle.adb_stream.specs.Flow.{wrote, acknowledged}
use Rattle.adb_stream.specs.declared.flow.Flow.{Flow}
use Rattle.adb_stream.specs.declared.flow.Flow.TheVariants as flows
use Rattle.adb_outside.specs.declared.identity.Identity.{Identity}
use Rattle.adb_banner.specs.Banner.{identity_of}
use Rattle.adb_device_streams.specs.Asked.{Kind}
use Rattle.adb_device_streams.specs.Service.{came_over, files_fed, files_opened}
use Rattle.adb_device_streams.specs.Stream.{Row, unsent, next_payload, row_past, row_past_all, row_written}
use Rattle.adb_device_streams.specs.Stream.{writes_at, writes, room_of, first_flow}
use Rattle.adb_device_streams.specs.Stream.{row_took, row_acked, opened, is_done, wrte, okay, clse, opening_word}
use Rattle.adb_device_streams.specs.Link.{credit_word_in, link_of, link_to}
use Rattle.adb_device_streams.specs.declared.link.Link.{Link}
use Rattle.adb_wire.specs.declared.limits.TheConstants.{MIN_VERSION, MIN_MAXDATA}
use Rattle.adb_daemon.specs.Serving.{Serving, Sent, with_sum, bytes_of, sent_bytes, owing, granted, sent_writes, sent_ack, sent_close}
use Rattle.adb_daemon.specs.Serving.{settled_as, settled}
use Rattle.adb_daemon.specs.Serving.{named, closable, is_taken, kind_for, credit_of, open_as, written_to, acked_to, closed_to, served}
use Rattle.adb_daemon.specs.Device.{Device, Setting, step, treated, linked_to, served_on, first_device, device_behind, own_cnxn}
use Rattle.adb_daemon.specs.Daemon.{HasDone, HasDoneFront, owed}
use Rattle.adb_daemon.specs.declared.daemon.Daemon.{Daemon}
use Rattle.adb_daemon.specs.Allowed.{okay_most, close_most, writes_most, lets_out, let_out_by, let_out}
use Rattle.adb_daemon.proofs.Rules.{named_is}

-- the bytes of packets that became due
abbrev size_of : List Sent → ℕ
size_of [] = 0
size_of (one ∷ more) = (HEADER_LEN + length one.packet.payload) + size_of more

size_is : (made : List Sent) → length (sent_bytes made) ≡ size_of made
size_is [] = refl
size_is (one ∷ more) =
    let head = header_bytes (head_for one.packet (check_of one.sums one.packet)) in
    omega (arith, length-append (bytes_of one) (sent_bytes more), length-append head one.packet.payload, size_is more)

size_more : (made more : List Sent) → size_of (made ++ more) ≡ size_of made + size_of more
size_more [] more = omega arith
size_more (one ∷ others) more = omega (arith, size_more others more)

-- the bytes of writes with these payloads
abbrev writes_size : List (List ℕ) → ℕ
writes_size [] = 0
writes_size (payload ∷ more) = (HEADER_LEN + length payload) + writes_size more

sent_size : (sums : Bool) (own host : ℕ) (payloads : List (List ℕ))
    → size_of (map (λ payload. with_sum sums (wrte own host payload)) payloads) ≡ writes_size payloads
sent_size sums own host [] = refl
sent_size sums own host (payload ∷ more) = omega (arith, sent_size sums own host more)

-- a table after a row is put, by how its number stands to the first
abbrev put_by : {X : Type 0} → ℕ → X → Ordering → ℕ × X → List (ℕ × X) → List (ℕ × X)
put_by n row o e es = match_ordering o ((n, row) ∷ e ∷ es) ((e.0, row) ∷ es) (e ∷ put_at n row es)

-- What a window lets a stream write still, where a write has at most so many bytes.
module _ (most : ℕ) where
  abbrev may_write : Flow → ℕ
  may_write (flows.One window) = if window.outstanding then 0 else HEADER_LEN + most
  may_write (flows.Credit credit) = (HEADER_LEN + 1) * credit.to_send

  past_one : (flow : Flow) (limit n : ℕ) (rest : List ℕ) → limit ≤ most → n ≡ length (take (room_of flow limit) rest) → n ≢ 0
      → (HEADER_LEN + n) + may_write (wrote n flow) ≤ may_write flow
  past_one flow limit n rest fits is some = by flow is
    where
      go : (t : Bool) → n ≡ length (take (min limit (if t then 0 else limit)) rest)
          → (HEADER_LEN + n) + 0 ≤ (if t then 0 else HEADER_LEN + most)
      go true none = absurd (some (omega (arith, none, length-take (min limit 0) rest)))
      go false next = omega (arith, fits, next, length-take (min limit limit) rest)

      by : (f : Flow) → n ≡ length (take (room_of f limit) rest) → (HEADER_LEN + n) + may_write (wrote n f) ≤ may_write f
      by (flows.One window) next = go window.outstanding next
      by (flows.Credit credit) next = omega (arith, some, next, length-take (min limit credit.to_send) rest)

  writes_within : (k limit : ℕ) (row : Row) → limit ≤ most
      → writes_size (writes_at k limit row) + may_write (row_past_all (writes_at k limit row) row).flow ≤ may_write row.flow
  writes_within zero limit row fits = omega arith
  writes_within (suc k) limit row fits =
      go (length (next_payload limit row) == 0) refl (writes_within k limit (row_past (next_payload limit row) row) fits)
    where
      next : Row
      next = row_past (next_payload limit row) row

      go : (t : Bool) → (length (next_payload limit row) == 0) ≡ t
          → writes_size (writes_at k limit next) + may_write (row_past_all (writes_at k limit next) next).flow ≤ may_write next.flow
          → writes_size (if t then [] else next_payload limit row ∷ writes_at k limit next)
          + may_write (row_past_all (if t then [] else next_payload limit row ∷ writes_at k limit next) row).flow ≤ may_write row.flow
      go true is later = omega arith
      go false is later =
          omega (
            arith,
            later,
            past_one row.flow limit (length (next_payload limit row)) (unsent row) fits refl
                (false-eqb (length (next_payload limit row)) 0 (sym is)),
          )

  first_within : (given : Option ℕ) → may_write (first_flow given) ≤ writes_most most (unwrap_or given 0)
  first_within None = omega arith
  first_within (Some given) = omega arith

  acked_within : (flow : Flow) (word : Option ℕ) → may_write (acknowledged word flow) ≤ may_write flow + writes_most most (unwrap_or word 0)
  acked_within (flows.One window) word = omega arith
  acked_within (flows.Credit credit) None = omega arith
  acked_within (flows.Credit credit) (Some more) = omega arith

  -- all streams of a table
  abbrev may_write_at : Option Row → ℕ
  may_write_at None = 0
  may_write_at (Some row) = may_write row.flow

  abbrev all_may_write : List (ℕ × Row) → ℕ
  all_may_write [] = 0
  all_may_write (e ∷ es) = may_write e.1.flow + all_may_write es

  put_within : (n : ℕ) (row : Row) (rows : List (ℕ × Row)) → IsRising rows
      → all_may_write (put_at n row rows) + may_write_at (at n rows) ≤ all_may_write rows + may_write row.flow
  unfolding IsStrictlySortedBy
  put_within n row [] rises = omega arith
  put_within n row (e ∷ es) rises = go (nat_cmp n e.0) refl (put_within n row es rises.1)
    where
      go : (o : Ordering) → nat_cmp n e.0 ≡ o
          → all_may_write (put_at n row es) + may_write_at (at n es) ≤ all_may_write es + may_write row.flow
          → all_may_write (put_by n row o e es) + may_write_at (cond (is_eq o) (Some e.1) (at n es))
          ≤ all_may_write (e ∷ es) + may_write row.flow
      go Less is later =
          let none : at n (e ∷ es) ≡ None = lookup-none (is_at (nat_cmp n)) (e ∷ es) (none_below_head nat_cmp_total n e es rises is) in
          let here : at n es ≡ None = sym (ap (λ (o : Ordering). cond (is_eq o) (Some e.1) (at n es)) is) ∙ none in
          omega (arith, ap may_write_at here)
      go Equal is later = omega arith
      go Greater is later = omega (arith, later)

  without_within : (n : ℕ) (rows : List (ℕ × Row)) → all_may_write (without n rows) + may_write_at (at n rows) ≤ all_may_write rows
  without_within n [] = omega arith
  without_within n (e ∷ es) = go (is_eq (nat_cmp n e.0)) (without_within n es)
    where
      go : (b : Bool) → all_may_write (without n es) + may_write_at (at n es) ≤ all_may_write es
          → all_may_write (cond b es (e ∷ without n es)) + may_write_at (cond b (Some e.1) (at n es)) ≤ all_may_write (e ∷ es)
      go true later = omega arith
      go false later = omega (arith, later)

-- What is due and may still be written is at most so much.
record IsWithin (most bound : ℕ) (s : Serving) : Type 0 where
  pub rises : IsRising s.rows
  pub within : size_of s.made + all_may_write most s.rows ≤ bound

within_more : (most bound more : ℕ) (s : Serving) → IsWithin most bound s → IsWithin most (bound + more) s
within_more most bound more s w = record { rises = w.rises; within = omega (arith, w.within) }

module _ (most : ℕ) (link : Link) (fits : link.most ≤ most) where
  -- a stream settles, which may write more than it might before
  settles : (bound own : ℕ) (row : Row) (s : Serving) → IsRising s.rows
      → (size_of s.made + all_may_write most s.rows) + may_write most row.flow ≤ bound + may_write_at most (at own s.rows)
      → IsWithin most (bound + close_most) (settled link own row s)
  settles bound own row s rises held = go (is_done (row_written link.most row))
    where
      last : Row
      last = row_written link.most row

      grown : size_of (s.made ++ sent_writes link own row) + may_write most last.flow ≤ size_of s.made + may_write most row.flow
      grown =
          omega (
            arith,
            size_more s.made (sent_writes link own row),
            sent_size link.sums own row.host (writes link.most row),
            writes_within most (length (unsent row)) link.most row fits,
          )

      go : (t : Bool) → IsWithin most (bound + close_most) (settled_as t link own last (owing (sent_writes link own row) s))
      go false = record {
        rises = put_at_rises own last s.rows rises;
        within = omega (arith, held, grown, put_within most own last s.rows rises);
      }
      go true = record {
        rises = without_rises own s.rows rises;
        within = omega (
          arith,
          held,
          grown,
          without_within most own s.rows,
          size_more (s.made ++ sent_writes link own row) (sent_close true link own last.host),
        );
      }

  module _ (p : Packet) (s : Serving) (bound : ℕ) (w : IsWithin most bound s) where
    opens : (kind : Option Kind) → IsWithin most (bound + lets_out most commands.Open p) (open_as link p kind s)
    opens None = record { rises = w.rises; within = omega (arith, w.within, size_more s.made (with_sum link.sums (clse 0 p.arg0) ∷ [])) }
    opens (Some kind) = go (credit_of link p) (credit link.credit)
      where
        credit : (t : Bool) → unwrap_or (if t then Some p.arg1 else None) 0 ≤ p.arg1
        credit true = omega arith
        credit false = omega arith

        word : (given : Option ℕ) → length (opening_word given) ≤ 4
        word None = omega arith
        word (Some n) = omega arith

        go : (given : Option ℕ) → unwrap_or given 0 ≤ p.arg1
            → IsWithin most (bound + lets_out most commands.Open p) (settled link (s.drawn + 1) (opened p.arg0 kind s.files given)
            (record (granted (s.drawn + 1) given (owing (with_sum link.sums (okay (s.drawn + 1) p.arg0 (opening_word given)) ∷ []) s)) {
              drawn = s.drawn + 1;
              files = files_opened kind s.files;
            }))
        go given few =
            let hello = with_sum link.sums (okay (s.drawn + 1) p.arg0 (opening_word given)) ∷ [] in
            let begun : Serving = record (granted (s.drawn + 1) given (owing hello s))
            { drawn = s.drawn + 1; files = files_opened kind s.files } in
            let all = settles ((bound + okay_most) + writes_most most p.arg1) (s.drawn + 1) (opened p.arg0 kind s.files given) begun w.rises
            (omega (arith, w.within, few, size_more s.made hello, word given, first_within most given)) in
            record { rises = all.rises; within = omega (arith, all.within) }

    opens_or_not : (t : Bool) → IsWithin most (bound + lets_out most commands.Open p)
        (if t then s else open_as link p (kind_for s.drawn p) s)
    opens_or_not true = within_more most bound (lets_out most commands.Open p) s w
    opens_or_not false = opens (kind_for s.drawn p)

    ack_within : (own host : ℕ) (flow : Flow) (n : ℕ) → size_of (sent_ack link own host flow n) ≤ okay_most
    ack_within own host (flows.One window) n = omega arith
    ack_within own host (flows.Credit credit) n = go (n == 0)
      where
        go : (t : Bool) → size_of (if t then [] else with_sum link.sums (okay own host (little_bytes 4 n)) ∷ []) ≤ okay_most
        go true = omega arith
        go false = omega arith

    writes_to : (found : Option Row) → named p.arg0 (at p.arg1 s.rows) ≡ found → IsWithin most (bound + lets_out most commands.Wrte p)
        (written_to link p found s)
    writes_to None is = within_more most bound (lets_out most commands.Wrte p) s w
    writes_to (Some row) is =
        let came = came_over p.payload s.files in
        let ack = sent_ack link p.arg1 row.host row.flow (length p.payload) in
        let here = ap (may_write_at most) (named_is p.arg0 (at p.arg1 s.rows) row is) in
        let all = settles (bound + okay_most) p.arg1 (row_took came row)
        (record (owing ack s) { files = files_fed row.kind row.past came }) w.rises
        (omega (arith, w.within, here, size_more s.made ack, ack_within p.arg1 row.host row.flow (length p.payload))) in
        record { rises = all.rises; within = omega (arith, all.within) }

    acks_to : (found : Option Row) → named p.arg0 (at p.arg1 s.rows) ≡ found
        → IsWithin most (bound + lets_out most commands.Okay p) (acked_to link p found s)
    acks_to None is = within_more most bound (lets_out most commands.Okay p) s w
    acks_to (Some row) is =
        let word = credit_word_in p.payload in
        let here = ap (may_write_at most) (named_is p.arg0 (at p.arg1 s.rows) row is) in
        let all = settles (bound + writes_most most (unwrap_or word 0)) p.arg1 (row_acked word row) (granted p.arg1 word s) w.rises
        (omega (arith, w.within, here, acked_within most row.flow word)) in
        record { rises = all.rises; within = omega (arith, all.within) }

    closes_to : (found : Option Row) → IsWithin most (bound + lets_out most commands.Clse p) (closed_to p.arg1 found s)
    closes_to None = within_more most bound 0 s w
    closes_to (Some row) =
        record { rises = without_rises p.arg1 s.rows w.rises; within = omega (arith, w.within, without_within most p.arg1 s.rows) }

    serves : (command : Command) → IsWithin most (bound + lets_out most command p) (served command link p s)
    serves commands.Open = opens_or_not (p.arg0 == 0 || is_taken p.arg0 s.rows)
    serves commands.Wrte = writes_to (named p.arg0 (at p.arg1 s.rows)) refl
    serves commands.Okay = acks_to (named p.arg0 (at p.arg1 s.rows)) refl
    serves commands.Clse = closes_to (closable p.arg0 (at p.arg1 s.rows))
    serves commands.Cnxn = within_more most bound 0 s w
    serves commands.Auth = within_more most bound 0 s w
    serves commands.Stls = within_more most bound 0 s w

-- A link takes no longer writes than the device.
abbrev IsShort : ℕ → Option Link → Type 0
IsShort most None = Unit {0}
IsShort most (Some link) = link.most ≤ most

link_short : (most : ℕ) (credit : Bool) (p : Packet) → IsShort most (link_of most credit p)
link_short most credit p = go (nat_lt p.arg0 MIN_VERSION || nat_lt p.arg1 MIN_MAXDATA)
  where
    by : (identity : Option Identity) → IsShort most (link_to most credit p identity)
    by None = tt
    by (Some identity) = omega arith

    go : (t : Bool) → IsShort most (if t then None else link_to most credit p (identity_of p.payload))
    go true = tt
    go false = by (identity_of p.payload)

record IsBounded (setting : Setting) (bound : ℕ) (d : Device) : Type 0 where
  pub short : IsShort setting.most d.link
  pub serving : IsWithin setting.most bound d.serving

bounded_more : (setting : Setting) (bound more : ℕ) (d : Device) → IsBounded setting bound d → IsBounded setting (bound + more) d
bounded_more setting bound more d b = record { short = b.short; serving = within_more setting.most bound more d.serving b.serving }

step_bounded : (setting : Setting) (d : Device) (p : Packet) (bound : ℕ) → IsBounded setting bound d
    → IsBounded setting (bound + lets_out setting.most p.command p) (step setting d p)
unfolding step IsStrictlySortedBy
step_bounded setting d p bound b = go d.refused
  where
    more : ℕ
    more = lets_out setting.most p.command p

    linked : (o : Option Link) → IsShort setting.most o → IsBounded setting (bound + more) (linked_to o d)
    linked None short = record { short = b.short; serving = within_more setting.most bound more d.serving b.serving }
    linked (Some link) short = record { short = short; serving = record { rises = tt; within = omega (arith, b.serving.within) } }

    on : (o : Option Link) → d.link ≡ o → IsBounded setting (bound + more) (served_on o p d)
    on None is = bounded_more setting bound more d b
    on (Some link) is =
        record {
          short = b.short;
          serving = serves setting.most link (subst (IsShort setting.most) is b.short) p
              d.serving bound b.serving p.command;
        }

    by : (t : Bool)
        → IsBounded setting (bound + more)
        (if t then linked_to (link_of setting.most setting.credit p) d else served_on d.link p d)
    by true = linked (link_of setting.most setting.credit p) (link_short setting.most setting.credit p)
    by false = on d.link refl

    go : (t : Bool) → IsBounded setting (bound + more) (if t then d else treated setting p d)
    go true = bounded_more setting bound more d b
    go false = by (is_cnxn p.command)

all_bounded : (setting : Setting) (packets : List Packet) (d : Device) (bound : ℕ) → IsBounded setting bound d
    → size_of (fold (step setting) d packets).serving.made ≤ bound + let_out_by setting.most packets
all_bounded setting [] d bound b = omega (arith, b.serving.within)
all_bounded setting (p ∷ more) d bound b =
    let later = all_bounded setting more (step setting d p) (bound + lets_out setting.most p.command p)
    (step_bounded setting d p bound b) in
    omega (arith, later)

-- behind any packets
pub due_was_let_out : (setting : Setting) (packets : List Packet)
    → length (sent_bytes (device_behind setting packets).serving.made) ≤ let_out setting packets
unfolding IsStrictlySortedBy
due_was_let_out setting packets =
    let own = size_is (own_cnxn setting ∷ []) in
    let first : IsBounded setting (length (bytes_of (own_cnxn setting))) (first_device setting) = record {
      short = tt;
      serving = record { rises = tt; within = omega (arith, own, length-append (bytes_of (own_cnxn setting)) []) };
    } in
    omega (
      arith,
      size_is (device_behind setting packets).serving.made,
      all_bounded setting packets (first_device setting) (length (bytes_of (own_cnxn setting))) first,
    )

-- and in a device that was fed bytes
pub owed_was_let_out : (setting : Setting) (fed taken : List ℕ) (daemon : Daemon) → HasDone setting fed taken daemon
    → length taken + length (owed daemon) ≤ let_out setting (parts_of fed).packets
owed_was_let_out setting fed taken daemon done =
    omega (
      arith,
      ap (length {A = ℕ}) done.stands.holds.due,
      length-append taken (owed daemon),
      due_was_let_out
          setting (parts_of fed).packets,
    )

let_out_front : (most : ℕ) (front rest : List Packet) → let_out_by most front ≤ let_out_by most (front ++ rest)
let_out_front most [] rest = omega arith
let_out_front most (p ∷ more) rest = omega (arith, let_out_front most more rest)

-- and in one that ran out of memory
pub front_was_let_out : (setting : Setting) (fed taken : List ℕ) (daemon : Daemon) → HasDoneFront setting fed taken daemon
    → length taken + length (owed daemon) ≤ let_out setting (parts_of fed).packets
front_was_let_out setting fed taken daemon done =
    omega (
      arith,
      ap (length {A = ℕ}) done.given_out,
      length-append taken (owed daemon),
      due_was_let_out setting done.front,
      let_out_front setting.most done.front done.rest,
      ap (let_out_by setting.most) done.is,
    )
