-- Nothing of a stream becomes due behind its CLSE.
use Rattle.std.specs.Prelude.{ℕ, ◌+◌, ◌≡◌, ◌<◌, ◌==◌, ◌||◌, if◌then◌else◌, Bool, true, false, List, [], ◌∷◌, ◌++◌, length, map, fold}
use Rattle.std.specs.Prelude.{Option, Some, None}
use Rattle.std.specs.List.{list_any}
use Rattle.std.proofs.Common.{refl, sym, ◌∙◌, ap, subst, arith, ◌⊎◌, inl, inr}
use Rattle.std.specs.List.Sorted.{IsStrictlySortedBy}
use Rattle.std.proofs.lemmas.Bool.{cases_eq, ne_eqb, true≢false}
use Rattle.std.proofs.lemmas.List.Folds.{list_any-append}
use Rattle.byteorder.specs.Endian.{little_bytes}
use Rattle.adb_outside.specs.Tables.{at}
use Rattle.adb_wire.specs.Format.{is_cnxn}
use Rattle.adb_wire.specs.declared.command.Command.{Command}
use Rattle.adb_wire.specs.declared.command.Command.TheVariants as commands
use Rattle.adb_wire.specs.declared.packets.Packet.{Packet}
use Rattle.adb_stream.specs.declared.flow.Flow.{Flow}
use Rattle.adb_stream.specs.declared.flow.Flow.TheVariants as flows
use Rattle.adb_device_streams.specs.Asked.{Kind}
use Rattle.adb_device_streams.specs.Service.{came_over, files_fed, files_opened}
use Rattle.adb_device_streams.specs.Stream.{Row, opened, row_took, row_acked, row_written, writes, is_done, wrte, okay, clse, opening_word}
use Rattle.adb_device_streams.specs.Link.{credit_word_in, link_of}
use Rattle.adb_device_streams.specs.declared.link.Link.{Link}
use Rattle.adb_daemon.specs.Serving.{Serving, Sent, Ended, with_sum, owing, granted, sent_ack, sent_writes, sent_close, settled_as, settled}
use Rattle.adb_daemon.specs.Serving.{named, closable}
use Rattle.adb_daemon.specs.Serving.{is_taken, kind_for, credit_of, open_as, on_open, written_to, on_write, acked_to, on_okay, closed_to}
use Rattle.adb_daemon.specs.Serving.{on_close, served}
use Rattle.adb_daemon.specs.Device.{Device, Setting, step, treated, linked_to, served_on, first_device, device_behind}
use Rattle.adb_daemon.specs.Streams.{closes, is_closed, is_of, EndsAtClose, over_at, Writes}
use Rattle.adb_daemon.proofs.Standing.{IsOrderly, writes_open, closed_more}
use Rattle.adb_daemon.proofs.Rules.{named_is, silent_ack, ready, step_orderly}

-- ---- what becomes due
or_parts : (a b : Bool) → (a || b) ≡ false → (a ≡ false) × (b ≡ false)
or_parts true b h = absurd (true≢false h)
or_parts false b h = (refl, h)

or_none : (a b : Bool) → a ≡ false → b ≡ false → (a || b) ≡ false
or_none a b h k = ap (λ t. t || b) h ∙ k

module _ (own : ℕ) where
  -- packets none of which is of the stream
  ends_without : (more : List Sent) → list_any (is_of own) more ≡ false → EndsAtClose own more
  ends_without [] none = tt
  ends_without (one ∷ more) none =
      let parts = or_parts (is_of own one) (list_any (is_of own) more) none in
      (λ closing. parts.1, ends_without more parts.1)

  -- packets none of which closes it
  ends_open : (more : List Sent) → is_closed own more ≡ false → EndsAtClose own more
  ends_open [] none = tt
  ends_open (one ∷ more) none =
      let parts = or_parts (closes own one) (is_closed own more) none in
      (λ closing. absurd (true≢false (sym closing ∙ parts.0)), ends_open more parts.1)

  -- packets behind others: they are not of the stream, or it was not closed
  behind_others : (made more : List Sent) → EndsAtClose own made → list_any (is_of own) more ≡ false → EndsAtClose own (made ++ more)
  behind_others [] more ends none = ends_without more none
  behind_others (one ∷ made) more ends none = (
    λ closing. list_any-append (is_of own) made more ∙ or_none (list_any (is_of own) made) (list_any (is_of own) more)
        (ends.0 closing) none,
    behind_others made more ends.1 none,
  )

  behind_open : (made more : List Sent) → is_closed own made ≡ false → EndsAtClose own more → EndsAtClose own (made ++ more)
  behind_open [] more unclosed ends = ends
  behind_open (one ∷ made) more unclosed ends =
      let parts = or_parts (closes own one) (is_closed own made) unclosed in
      (λ closing. absurd (true≢false (sym closing ∙ parts.0)), behind_open made more parts.1 ends)

  -- What is kept of a stream while one of an id is served: it ends at its CLSE, and the stream that is served is not closed.
  record IsLast (q : ℕ) (made : List Sent) : Type 0 where
    ends : EndsAtClose own made
    unclosed : q ≡ own → is_closed own made ≡ false

  -- packets of the stream that is served, none of which closes it
  last_more : (q : ℕ) (made more : List Sent) → IsLast q made → ((q ≡ own → ⊥) → list_any (is_of own) more ≡ false)
      → is_closed own more ≡ false
      → IsLast q (made ++ more)
  last_more q made more h others none = record { ends = go (cases_eq q own); unclosed = λ here. still (h.unclosed here) }
    where
      still : is_closed own made ≡ false → is_closed own (made ++ more) ≡ false
      still open_yet = closed_more own made more ∙ or_none (is_closed own made) (is_closed own more) open_yet none

      go : (q ≡ own) ⊎ (q ≡ own → ⊥) → EndsAtClose own (made ++ more)
      go (inl here) = behind_open made more (h.unclosed here) (ends_open more none)
      go (inr apart) = behind_others made more h.ends (others apart)

  others_write : (sums : Bool) (q host : ℕ) → (q ≡ own → ⊥) → (payloads : List (List ℕ))
      → list_any (is_of own) (map (λ payload. with_sum sums (wrte q host payload)) payloads) ≡ false
  others_write sums q host apart [] = refl
  others_write sums q host apart (payload ∷ more) =
      or_none (q == own) (list_any (is_of own) (map (λ p. with_sum sums (wrte q host p)) more)) (ne_eqb q own apart)
      (others_write sums q host apart more)

  others_ack : (link : Link) (q host : ℕ) (flow : Flow) (n : ℕ) → (q ≡ own → ⊥) → list_any (is_of own) (sent_ack link q host flow n) ≡ false
  others_ack link q host (flows.One window) n apart = ap (λ t. t || false) (ne_eqb q own apart)
  others_ack link q host (flows.Credit credit) n apart = go (n == 0)
    where
      go : (t : Bool) → list_any (is_of own) (if t then [] else with_sum link.sums (okay q host (little_bytes 4 n)) ∷ []) ≡ false
      go true = refl
      go false = ap (λ t. t || false) (ne_eqb q own apart)

  -- a stream settles
  settles : (link : Link) (q : ℕ) (row : Row) (s : Serving) → IsLast q s.made → EndsAtClose own (settled link q row s).made
  settles link q row s h = go (is_done (row_written link.most row)) (cases_eq q own)
    where
      close : List Sent
      close = sent_close true link q (row_written link.most row).host

      wrote : IsLast q (s.made ++ sent_writes link q row)
      wrote = last_more q s.made (sent_writes link q row) h (λ apart. others_write link.sums q row.host apart (writes link.most row))
          (writes_open own link.sums q row.host (writes link.most row))

      go : (t : Bool) → (q ≡ own) ⊎ (q ≡ own → ⊥)
          → EndsAtClose own (settled_as t link q (row_written link.most row) (owing (sent_writes link q row) s)).made
      go false place = wrote.ends
      go true (inl here) = behind_open (s.made ++ sent_writes link q row) close (wrote.unclosed here) (λ closing. refl, tt)
      go true (inr apart) = behind_others (s.made ++ sent_writes link q row) close wrote.ends (ap (λ t. t || false) (ne_eqb q own apart))

-- ---- packets
module _ (own : ℕ) (s : Serving) (o : IsOrderly own s) (ends : EndsAtClose own s.made) (link : Link) (p : Packet) where
  -- a live stream is not closed, and neither is one whose id was not drawn
  live : (q : ℕ) (row : Row) → at q s.rows ≡ Some row → IsLast own q s.made
  live q row is = record { ends = ends; unclosed = λ here. (ready own s o row (ap (λ (k : ℕ). at k s.rows) (sym here) ∙ is)).unclosed }

  fresh : (q : ℕ) → s.drawn < q → IsLast own q s.made
  fresh q above = record { ends = ends; unclosed = λ here. undrawn (omega (arith, above, here)) }
    where
      undrawn : s.drawn < own → is_closed own s.made ≡ false
      undrawn past =
          let none = o.fresh past in
          (subst (λ (e : Option Ended). Writes own s.made s.acks None e) none.1
          (subst (λ (r : Option Row). Writes own s.made s.acks r (over_at own s.ended)) none.0 o.writes)).1

  okay_last : EndsAtClose own (on_okay link p s).made
  okay_last = go (named p.arg0 (at p.arg1 s.rows)) refl
    where
      go : (found : Option Row) → named p.arg0 (at p.arg1 s.rows) ≡ found → EndsAtClose own (acked_to link p found s).made
      go None is = ends
      go (Some row) is =
          settles own link p.arg1 (row_acked (credit_word_in p.payload) row) (granted p.arg1 (credit_word_in p.payload) s)
          (live p.arg1 row (named_is p.arg0 (at p.arg1 s.rows) row is))

  write_last : EndsAtClose own (on_write link p s).made
  write_last = go (named p.arg0 (at p.arg1 s.rows)) refl
    where
      go : (found : Option Row) → named p.arg0 (at p.arg1 s.rows) ≡ found → EndsAtClose own (written_to link p found s).made
      go None is = ends
      go (Some row) is =
          let came = came_over p.payload s.files in
          let n = length p.payload in
          let ack = sent_ack link p.arg1 row.host row.flow n in
          settles own link p.arg1 (row_took came row) (record (owing ack s) { files = files_fed row.kind row.past came })
          (last_more own p.arg1 s.made ack (live p.arg1 row (named_is p.arg0 (at p.arg1 s.rows) row is))
          (λ apart. others_ack own link p.arg1 row.host row.flow n apart) (silent_ack own link p.arg1 row.host row.flow n).closes)

  close_last : EndsAtClose own (on_close p s).made
  close_last = go (closable p.arg0 (at p.arg1 s.rows))
    where
      go : (found : Option Row) → EndsAtClose own (closed_to p.arg1 found s).made
      go None = ends
      go (Some row) = ends

  open_last : 0 < own → EndsAtClose own (on_open link p s).made
  open_last some = go (p.arg0 == 0 || is_taken p.arg0 s.rows)
    where
      by : (kind : Option Kind) → EndsAtClose own (open_as link p kind s).made
      by None =
          behind_others own s.made (with_sum link.sums (clse 0 p.arg0) ∷ []) ends
          (ap (λ t. t || false) (ne_eqb 0 own (λ same. absurd (omega (arith, some, same)))))
      by (Some kind) =
          let q = s.drawn + 1 in
          let credit = credit_of link p in
          let hello = with_sum link.sums (okay q p.arg0 (opening_word credit)) ∷ [] in
          settles own link q (opened p.arg0 kind s.files credit)
          (record (granted q credit (owing hello s)) { drawn = q; files = files_opened kind s.files })
          (last_more own q s.made hello (fresh q (omega arith)) (λ apart. ap (λ t. t || false) (ne_eqb q own apart)) refl)

      go : (t : Bool) → EndsAtClose own (if t then s else open_as link p (kind_for s.drawn p) s).made
      go true = ends
      go false = by (kind_for s.drawn p)

module _ (own : ℕ) (some : 0 < own) where
  served_last : (command : Command) (link : Link) (p : Packet) (s : Serving) → IsOrderly own s → EndsAtClose own s.made
      → EndsAtClose own (served command link p s).made
  served_last commands.Open link p s o ends = open_last own s o ends link p some
  served_last commands.Wrte link p s o ends = write_last own s o ends link p
  served_last commands.Okay link p s o ends = okay_last own s o ends link p
  served_last commands.Clse link p s o ends = close_last own s o ends link p
  served_last commands.Cnxn link p s o ends = ends
  served_last commands.Auth link p s o ends = ends
  served_last commands.Stls link p s o ends = ends

  step_last : (setting : Setting) (d : Device) (p : Packet) → IsOrderly own d.serving → EndsAtClose own d.serving.made
      → EndsAtClose own (step setting d p).serving.made
  unfolding step
  step_last setting d p o ends = go d.refused
    where
      linked : (link : Option Link) → EndsAtClose own (linked_to link d).serving.made
      linked None = ends
      linked (Some link) = ends

      on : (link : Option Link) → EndsAtClose own (served_on link p d).serving.made
      on None = ends
      on (Some link) = served_last p.command link p d.serving o ends

      by : (t : Bool)
          → EndsAtClose own
          (if t then linked_to (link_of setting.most setting.credit p) d else served_on d.link p d).serving.made
      by true = linked (link_of setting.most setting.credit p)
      by false = on d.link

      go : (t : Bool) → EndsAtClose own (if t then d else treated setting p d).serving.made
      go true = ends
      go false = by (is_cnxn p.command)

  all_last : (setting : Setting) (packets : List Packet) (d : Device) → IsOrderly own d.serving → EndsAtClose own d.serving.made
      → EndsAtClose own (fold (step setting) d packets).serving.made
  all_last setting [] d o ends = ends
  all_last setting (p ∷ more) d o ends =
      all_last setting more (step setting d p) (step_orderly own some setting d p o) (step_last setting d p o ends)

-- behind any packets
pub closes_last : (setting : Setting) (packets : List Packet) (own : ℕ) → 0 < own
    → EndsAtClose own (device_behind setting packets).serving.made
unfolding IsStrictlySortedBy
closes_last setting packets own some =
    all_last own some setting packets (first_device setting)
    (record { rises = tt; fresh = λ above. (refl, refl); writes = (refl, refl, refl) })
    (λ closing. refl, tt)
