-- What one stream wrote, by each packet of the host.
use Rattle.std.specs.Prelude.{ℕ, ◌≡◌, ◌<◌, ◌≤◌, ◌+◌, ◌==◌, ◌||◌, if◌then◌else◌, Bool, true, false}
use Rattle.std.specs.Prelude.{cond, List, [], ◌∷◌, ◌++◌, length, map, fold, Option, Some, None, unwrap_or}
use Rattle.std.proofs.Common.{refl, sym, ◌∙◌, ap, subst, arith, ◌⊎◌, inl, inr}
use Rattle.std.specs.Ordering.{nat_cmp, is_eq}
use Rattle.std.proofs.lemmas.Bool.{cases_eq, cases_lt, eq-eqb, ne_eqb, true≢false}
use Rattle.std.proofs.lemmas.Bool.Decides.{nat_tests}
use Rattle.std.proofs.lemmas.List.{append-nil}
use Rattle.std.specs.List.Sorted.{IsStrictlySortedBy}
use Rattle.adb_outside.specs.Tables.{at}
use Rattle.byteorder.specs.Endian.{little_bytes}
use Rattle.adb_wire.specs.Format.{is_cnxn}
use Rattle.adb_wire.specs.declared.command.Command.{Command}
use Rattle.adb_wire.specs.declared.command.Command.TheVariants as commands
use Rattle.adb_wire.specs.declared.packets.Packet.{Packet}
use Rattle.adb_stream.specs.Flow.{acknowledged}
use Rattle.adb_stream.specs.declared.flow.Flow.{Flow}
use Rattle.adb_stream.specs.declared.flow.Flow.TheVariants as flows
use Rattle.adb_files.specs.Entries.{Entry}
use Rattle.adb_device_streams.specs.Asked.{Kind}
use Rattle.adb_device_streams.specs.Service.{Came, came_over, files_fed, files_opened}
use Rattle.adb_device_streams.specs.Stream.{Row, opened, row_took, row_acked, first_flow, okay, clse, opening_word}
use Rattle.adb_device_streams.specs.Link.{credit_word_in, link_of}
use Rattle.adb_device_streams.specs.declared.link.Link.{Link}
use Rattle.adb_daemon.specs.Serving.{Serving, Sent, Ack, Ended, with_sum, owing, granted}
use Rattle.adb_daemon.specs.Serving.{ended_at, sent_ack, settled, named, closable, is_taken, kind_for, credit_of}
use Rattle.adb_daemon.specs.Serving.{open_as, on_open, written_to, on_write, acked_to, on_okay, closed_to, on_close, all_gone, served}
use Rattle.adb_daemon.specs.Device.{Device, Setting, step, treated, linked_to, served_on, first_device, device_behind}
use Rattle.adb_daemon.specs.Streams.{over_at, written, writes_of, acks_of, words_of, IsWithin, Writes}
use Rattle.adb_daemon.proofs.Windows.{within_acked, within_first}
use Rattle.adb_daemon.proofs.Fronts.{front_took}
use Rattle.adb_daemon.proofs.Standing.{IsSilent, IsOrderly, IsReady, silent_close, writes_stay, other_settles}
use Rattle.adb_daemon.proofs.Standing.{own_settles, other_gone, own_gone, silent_none, same_written, same_closed, same_window}
use Rattle.adb_daemon.proofs.Standing.{writes_ack, writes_more}

-- the row of both ids is the one that stands there
pub named_is : (host : ℕ) (found : Option Row) (row : Row) → named host found ≡ Some row → found ≡ Some row
named_is host None row is = cc
named_is host (Some other) row is = go (other.host == host) is
  where
    go : (t : Bool) → (if t then Some other else None) ≡ Some row → Some other ≡ Some row
    go true e = e
    go false e = cc

pub closable_is : (host : ℕ) (found : Option Row) (row : Row) → closable host found ≡ Some row → found ≡ Some row
closable_is host found row is = go (host == 0) is
  where
    go : (t : Bool) → (if t then found else named host found) ≡ Some row → found ≡ Some row
    go true e = e
    go false e = named_is host found row e

pub silent_ack : (own : ℕ) (link : Link) (q host : ℕ) (flow : Flow) (n : ℕ) → IsSilent own (sent_ack link q host flow n)
silent_ack own link q host (flows.One window) n = record { writes = refl; count = refl; closes = refl }
silent_ack own link q host (flows.Credit credit) n = go (n == 0)
  where
    go : (t : Bool) → IsSilent own (if t then [] else with_sum link.sums (okay q host (little_bytes 4 n)) ∷ [])
    go true = silent_none own
    go false = record { writes = refl; count = refl; closes = refl }

-- more became due that is nothing to this stream, and the files changed
owing_orderly : (own : ℕ) (s : Serving) (more : List Sent) (files : List Entry) → IsSilent own more → IsOrderly own s
    → IsOrderly own (record (owing more s) { files = files })
owing_orderly own s more files silent o =
    record {
      rises = o.rises;
      fresh = o.fresh;
      writes = writes_stay own s.made more silent s.acks (at own s.rows)
          (over_at own s.ended) o.writes;
    }

-- a stream took an OKAY
granted_orderly : (own q : ℕ) (word : Option ℕ) (s : Serving) → IsOrderly own s → IsOrderly own (granted q word s)
granted_orderly own q word s o = record {
  rises = o.rises;
  fresh = o.fresh;
  writes = writes_ack own s.made (record { own = q; word = word }) s.acks (at own s.rows) (over_at own s.ended) o.writes;
}

-- what this stream took
module _ (own q count bytes : ℕ) where
  own_ack : (word : Option ℕ) (acks : List Ack) (flow : Flow) → q ≡ own
      → IsWithin count bytes (1 + acks_of own acks) (unwrap_or word 0 + words_of own acks) flow
      → IsWithin count bytes (acks_of own (record { own = q; word = word } ∷ acks))
      (words_of own (record { own = q; word = word } ∷ acks)) flow
  own_ack word acks flow here within =
      subst (λ (t : Bool). IsWithin count bytes ((if t then 1 else 0) + acks_of own acks)
      ((if t then unwrap_or word 0 else 0) + words_of own acks) flow)
      (sym (eq-eqb q own here)) within

module _ (own : ℕ) (s : Serving) (o : IsOrderly own s) where
  -- an id that has a row was drawn
  pub drawn : (row : Row) → at own s.rows ≡ Some row → own ≤ s.drawn
  drawn row is = go (cases_lt s.drawn own)
    where
      go : (s.drawn < own) ⊎ (own ≤ s.drawn) → own ≤ s.drawn
      go (inl above) = let clash : None ≡ Some row = sym (o.fresh above).0 ∙ is in cc
      go (inr within) = within

  -- this stream, where it lives
  pub ready : (row : Row) → at own s.rows ≡ Some row → IsReady own row s
  ready row is =
      let w = subst (λ (r : Option Row). Writes own s.made s.acks r (over_at own s.ended)) is o.writes in
      record { rises = o.rises; drawn = drawn row is; writes = w.0; unclosed = w.1; window = w.2 }

  pub okay_orderly : (link : Link) (p : Packet) → IsOrderly own (on_okay link p s)
  okay_orderly link p = go (named p.arg0 (at p.arg1 s.rows)) refl
    where
      at_row : (row : Row) (word : Option ℕ) → at p.arg1 s.rows ≡ Some row → (p.arg1 ≡ own) ⊎ (p.arg1 ≡ own → ⊥)
          → IsOrderly own (settled link p.arg1 (row_acked word row) (granted p.arg1 word s))
      at_row row word is (inl here) =
          let r = ready row (ap (λ (k : ℕ). at k s.rows) (sym here) ∙ is) in
          subst (λ (k : ℕ). IsOrderly own (settled link k (row_acked word row) (granted k word s))) (sym here)
          (own_settles own link (row_acked word row) (granted own word s) (record {
            rises = r.rises;
            drawn = r.drawn;
            writes = record { written = r.writes.written; front = r.writes.front };
            unclosed = r.unclosed;
            window = own_ack own own (writes_of own s.made) (length (written own s.made)) word s.acks (acknowledged word row.flow) refl
                (within_acked row.flow word (writes_of own s.made) (length (written own s.made)) (acks_of own s.acks)
                (words_of own s.acks) r.window);
          }))
      at_row row word is (inr apart) =
          other_settles own p.arg1 apart link (row_acked word row) (granted p.arg1 word s) (granted_orderly own p.arg1 word s o)

      go : (found : Option Row) → named p.arg0 (at p.arg1 s.rows) ≡ found → IsOrderly own (acked_to link p found s)
      go None is = o
      go (Some row) is = at_row row (credit_word_in p.payload) (named_is p.arg0 (at p.arg1 s.rows) row is) (cases_eq p.arg1 own)

  -- a WRTE to a live stream: it is acknowledged
  module _ (link : Link) (p : Packet) (row : Row) (is : at p.arg1 s.rows ≡ Some row) where
    abbrev more : List Sent
    more = sent_ack link p.arg1 row.host row.flow (length p.payload)

    abbrev came : Came
    came = came_over p.payload s.files

    abbrev mid : Serving
    mid = record (owing more s) { files = files_fed row.kind row.past came }

    silent : IsSilent own more
    silent = silent_ack own link p.arg1 row.host row.flow (length p.payload)

    written_row : (p.arg1 ≡ own) ⊎ (p.arg1 ≡ own → ⊥) → IsOrderly own (settled link p.arg1 (row_took came row) mid)
    written_row (inr apart) =
        other_settles own p.arg1 apart link (row_took came row) mid (owing_orderly own s more (files_fed row.kind row.past came) silent o)
    written_row (inl here) =
        let r = ready row (ap (λ (k : ℕ). at k s.rows) (sym here) ∙ is) in
        subst (λ (k : ℕ). IsOrderly own (settled link k (row_took came row) mid)) (sym here)
        (own_settles own link (row_took came row) mid (record {
          rises = r.rises;
          drawn = r.drawn;
          writes = record {
            written = same_written own s.made more silent ∙ r.writes.written;
            front = front_took came row r.writes.front;
          };
          unclosed = same_closed own s.made more silent ∙ r.unclosed;
          window = same_window own s.made more silent s.acks row.flow r.window;
        }))

  pub write_orderly : (link : Link) (p : Packet) → IsOrderly own (on_write link p s)
  write_orderly link p = go (named p.arg0 (at p.arg1 s.rows)) refl
    where
      go : (found : Option Row) → named p.arg0 (at p.arg1 s.rows) ≡ found → IsOrderly own (written_to link p found s)
      go None is = o
      go (Some row) is = written_row link p row (named_is p.arg0 (at p.arg1 s.rows) row is) (cases_eq p.arg1 own)

  pub close_orderly : (p : Packet) → IsOrderly own (on_close p s)
  close_orderly p = go (closable p.arg0 (at p.arg1 s.rows)) refl
    where
      at_row : (row : Row) → at p.arg1 s.rows ≡ Some row → (p.arg1 ≡ own) ⊎ (p.arg1 ≡ own → ⊥)
          → IsOrderly own (closed_to p.arg1 (Some row) s)
      at_row row is (inl here) =
          subst (λ (k : ℕ). IsOrderly own (closed_to k (Some row) s)) (sym here)
          (own_gone own row s (ready row (ap (λ (k : ℕ). at k s.rows) (sym here) ∙ is)))
      at_row row is (inr apart) =
          subst (λ (made : List Sent). IsOrderly own (record (closed_to p.arg1 (Some row) s) { made = made })) (append-nil s.made)
          (other_gone own p.arg1 apart row false s [] o (silent_none own))

      go : (found : Option Row) → closable p.arg0 (at p.arg1 s.rows) ≡ found → IsOrderly own (closed_to p.arg1 found s)
      go None is = o
      go (Some row) is = at_row row (closable_is p.arg0 (at p.arg1 s.rows) row is) (cases_eq p.arg1 own)

-- An OPEN: of a service that is known, and else.
module _ (own : ℕ) (s : Serving) (o : IsOrderly own s) (some : 0 < own) (link : Link) (p : Packet) where
  module _ (kind : Kind) where
    abbrev fresh_row : Row
    fresh_row = opened p.arg0 kind s.files (credit_of link p)

    abbrev hello : List Sent
    hello = with_sum link.sums (okay (s.drawn + 1) p.arg0 (opening_word (credit_of link p))) ∷ []

    abbrev begun : Serving
    begun = record (granted (s.drawn + 1) (credit_of link p) (owing hello s)) { drawn = s.drawn + 1; files = files_opened kind s.files }

    unheard : IsSilent own hello
    unheard = record { writes = refl; count = refl; closes = refl }

    greeted : IsOrderly own begun
    greeted = record {
      rises = o.rises;
      fresh = λ above. o.fresh (omega (arith, above));
      writes = writes_ack own (s.made ++ hello) (record { own = s.drawn + 1; word = credit_of link p }) s.acks
          (at own s.rows) (over_at own s.ended)
          (writes_stay own s.made hello unheard s.acks (at own s.rows) (over_at own s.ended) o.writes);
    }

    new_row : (s.drawn + 1 ≡ own) ⊎ (s.drawn + 1 ≡ own → ⊥) → IsOrderly own (settled link (s.drawn + 1) fresh_row begun)
    new_row (inr apart) = other_settles own (s.drawn + 1) apart link fresh_row begun greeted
    new_row (inl here) =
        let free = o.fresh (omega (arith, here)) in
        let none = subst (λ (r : Option Row). Writes own s.made s.acks r None) free.0
        (subst (λ (e : Option Ended). Writes own s.made s.acks (at own s.rows) e) free.1 o.writes) in
        let text : written own (s.made ++ hello) ≡ [] = same_written own s.made hello unheard ∙ none.0 in
        let count : writes_of own (s.made ++ hello) ≡ 0 = omega (arith, writes_more own s.made hello, none.2) in
        subst (λ (k : ℕ). IsOrderly own (settled link k fresh_row begun)) (sym here) (own_settles own link fresh_row begun (record {
          rises = o.rises;
          drawn = omega (arith, here);
          writes = record { written = same_written own s.made hello unheard ∙ none.0; front = refl };
          unclosed = same_closed own s.made hello unheard ∙ none.1;
          window = own_ack own (s.drawn + 1) (writes_of own (s.made ++ hello))
              (length (written own (s.made ++ hello))) (credit_of link p) s.acks
              (first_flow (credit_of link p)) here
              (subst (λ n. IsWithin n (length (written own (s.made ++ hello))) (1 + acks_of own s.acks)
              (unwrap_or (credit_of link p) 0 + words_of own s.acks)
              (first_flow (credit_of link p))) (sym count)
              (subst (λ (l : List ℕ). IsWithin 0 (length l) (1 + acks_of own s.acks) (unwrap_or (credit_of link p) 0 + words_of own s.acks)
              (first_flow (credit_of link p))) (sym text) (within_first (credit_of link p) (acks_of own s.acks) (words_of own s.acks))));
        }))

  opened_as : (kind : Option Kind) → IsOrderly own (open_as link p kind s)
  opened_as None =
      owing_orderly own s (with_sum link.sums (clse 0 p.arg0) ∷ []) s.files
      (silent_close own link 0 p.arg0 (λ zeroth. omega (arith, zeroth, some))) o
  opened_as (Some kind) = new_row kind (cases_eq (s.drawn + 1) own)

  pub open_orderly : IsOrderly own (on_open link p s)
  open_orderly = go (p.arg0 == 0 || is_taken p.arg0 s.rows)
    where
      go : (t : Bool) → IsOrderly own (if t then s else open_as link p (kind_for s.drawn p) s)
      go true = o
      go false = opened_as (kind_for s.drawn p)

-- all streams end
abbrev pub or_over : ℕ → Option Row → Option Ended → Option Ended
or_over own None over = over
or_over own (Some row) over = Some (ended_at false (own, row))

at_same : (q n : ℕ) → q ≡ n → is_eq (nat_cmp q n) ≡ true
at_same q n h = grind (arith, nat_tests)

at_other : (q n : ℕ) → (q ≡ n → ⊥) → is_eq (nat_cmp q n) ≡ false
at_other q n h = grind (arith, nat_tests)

pub all_over : (own : ℕ) (rows : List (ℕ × Row)) (ended : List Ended)
    → over_at own (map (ended_at false) rows ++ ended) ≡ or_over own (at own rows) (over_at own ended)
all_over own [] ended = refl
all_over own (e ∷ es) ended = go (cases_eq e.0 own) (all_over own es ended)
  where
    go : (e.0 ≡ own) ⊎ (e.0 ≡ own → ⊥) → over_at own (map (ended_at false) es ++ ended) ≡ or_over own (at own es) (over_at own ended)
        → cond (e.0 == own) (Some (ended_at false e)) (over_at own (map (ended_at false) es ++ ended))
        ≡ or_over own (cond (is_eq (nat_cmp own e.0)) (Some e.1) (at own es)) (over_at own ended)
    go (inl here) later =
        ap (λ (b : Bool). cond b (Some (ended_at false e)) (over_at own (map (ended_at false) es ++ ended))) (eq-eqb e.0 own here)
        ∙ (ap (λ (n : ℕ). Some (ended_at false (n, e.1))) here
        ∙ sym (ap (λ (b : Bool). or_over own (cond b (Some e.1) (at own es)) (over_at own ended)) (at_same own e.0 (sym here))))
    go (inr apart) later =
        ap (λ (b : Bool). cond b (Some (ended_at false e)) (over_at own (map (ended_at false) es ++ ended))) (ne_eqb e.0 own apart)
        ∙ (later ∙ sym
        (ap (λ (b : Bool). or_over own (cond b (Some e.1) (at own es)) (over_at own ended))
        (at_other own e.0 (λ same. apart (sym same)))))

pub gone_orderly : (own : ℕ) (s : Serving) → IsOrderly own s → IsOrderly own (all_gone s)
unfolding IsStrictlySortedBy
gone_orderly own s o = record {
  rises = tt;
  fresh = λ above.
      let f = o.fresh above in
      (refl, all_over own s.rows s.ended ∙ (ap (λ (r : Option Row). or_over own r (over_at own s.ended)) f.0 ∙ f.1));
  writes = subst (λ (e : Option Ended). Writes own s.made s.acks None e) (sym (all_over own s.rows s.ended)) (go (at own s.rows) o.writes);
}
  where
    go : (r : Option Row) → Writes own s.made s.acks r (over_at own s.ended)
        → Writes own s.made s.acks None (or_over own r (over_at own s.ended))
    go None w = w
    go (Some row) w = (refl, record { writes = w.0; closed = w.1; whole = λ closed. absurd (true≢false (sym closed)) }, w.2)

-- Each packet.
module _ (own : ℕ) (some : 0 < own) where
  served_orderly : (command : Command) (link : Link) (p : Packet) (s : Serving) → IsOrderly own s → IsOrderly own (served command link p s)
  served_orderly commands.Open link p s o = open_orderly own s o some link p
  served_orderly commands.Wrte link p s o = write_orderly own s o link p
  served_orderly commands.Okay link p s o = okay_orderly own s o link p
  served_orderly commands.Clse link p s o = close_orderly own s o p
  served_orderly commands.Cnxn link p s o = o
  served_orderly commands.Auth link p s o = o
  served_orderly commands.Stls link p s o = o

  pub step_orderly : (setting : Setting) (d : Device) (p : Packet) → IsOrderly own d.serving → IsOrderly own (step setting d p).serving
  unfolding step
  step_orderly setting d p o = go d.refused
    where
      linked : (link : Option Link) → IsOrderly own (linked_to link d).serving
      linked None = o
      linked (Some link) = gone_orderly own d.serving o

      on : (link : Option Link) → IsOrderly own (served_on link p d).serving
      on None = o
      on (Some link) = served_orderly p.command link p d.serving o

      by : (t : Bool) → IsOrderly own (if t then linked_to (link_of setting.most setting.credit p) d else served_on d.link p d).serving
      by true = linked (link_of setting.most setting.credit p)
      by false = on d.link

      go : (t : Bool) → IsOrderly own (if t then d else treated setting p d).serving
      go true = o
      go false = by (is_cnxn p.command)

  all_orderly : (setting : Setting) (packets : List Packet) (d : Device) → IsOrderly own d.serving
      → IsOrderly own (fold (step setting) d packets).serving
  all_orderly setting [] d o = o
  all_orderly setting (p ∷ more) d o = all_orderly setting more (step setting d p) (step_orderly setting d p o)

  -- behind any packets
  pub streams_write : (setting : Setting) (packets : List Packet)
      → Writes own (device_behind setting packets).serving.made (device_behind setting packets).serving.acks (at own
      (device_behind setting packets).serving.rows)
      (over_at own (device_behind setting packets).serving.ended)
  unfolding IsStrictlySortedBy
  streams_write setting packets =
      (all_orderly setting packets (first_device setting)
      (record { rises = tt; fresh = λ above. (refl, refl); writes = (refl, refl, refl) })).writes
