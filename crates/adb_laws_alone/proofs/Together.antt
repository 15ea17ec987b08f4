-- Streams that run over one set of files, by each packet of their host.
use Rattle.std.specs.Prelude.{ℕ, ◌+◌, ◌≡◌, ◌≢◌, ◌==◌, ◌||◌, ◌⊎◌, ◌≤◌, ◌<◌, nat_eq, Bool, true, false, cond, List, [], ◌∷◌, ◌++◌, length}
use Rattle.std.specs.Prelude.{fold}
use Rattle.std.specs.Prelude.{Option, Some, None}
use Rattle.std.proofs.Common.{refl, sym, ◌∙◌, ap, subst, arith, inl, inr, append_assoc}
use Rattle.std.specs.List.{AllByRecursion}
use Rattle.std.specs.List.Sorted.{IsStrictlySortedBy}
use Rattle.std.proofs.lemmas.Bool.{cases_lt, eq-eqb, ne_eqb}
use Rattle.std.proofs.lemmas.List.{append-nil}
use Rattle.adb_outside.specs.Tables.{at}
use Rattle.adb_wire.specs.Format.{is_cnxn}
use Rattle.adb_wire.specs.declared.command.Command.{Command}
use Rattle.adb_wire.specs.declared.command.Command.TheVariants as commands
use Rattle.adb_wire.specs.declared.packets.Packet.{Packet}
use Rattle.adb_files.specs.Entries.{Entry}
use Rattle.adb_history.specs.Births.{count_from, is_open}
use Rattle.adb_device_streams.specs.Asked.{Kind, name_of, service_of}
use Rattle.adb_device_streams.specs.Link.{credit_word_in, link_of}
use Rattle.adb_device_streams.specs.Service.{bytes_in, came_over, files_fed, files_opened}
use Rattle.adb_device_streams.specs.Stream.{Row, is_done, okay, opened, opening_word, row_acked, row_took, row_written, writes}
use Rattle.adb_device_streams.specs.declared.link.Link.{Link}
use Rattle.adb_daemon.specs.Device.{Device, Setting, device_behind, first_device, linked_to, served_on, step, treated}
use Rattle.adb_daemon.specs.Serving.{Ended, Serving, acked_to, closable, closed_to, credit_of, all_gone, granted, is_taken, kind_for, named}
use Rattle.adb_daemon.specs.Serving.{on_close, on_okay, on_open, on_write, open_as, owing, sent_ack, sent_writes, served, settled}
use Rattle.adb_daemon.specs.Serving.{settled_as}
use Rattle.adb_daemon.specs.Serving.{with_sum, written_to}
use Rattle.adb_daemon.specs.Streams.{over_at}
use Rattle.adb_daemon.proofs.Machines.{step_more}
use Rattle.adb_daemon.proofs.Rules.{named_is, closable_is}
use Rattle.adb_laws_alone.specs.Alone.{AsksNone, Every}
use Rattle.adb_laws_alone.specs.Calls.{Ask, Call, asks_of, files_after}
use Rattle.adb_laws_alone.specs.Together.{HasAsked, IsAskedIn, IsOfLater, IsOpenedFor, RanThrough, RunTogether, rows_after}
use Rattle.adb_laws_alone.proofs.Asked.{asked_both, asked_more, asked_own, asks_mine, asks_more, asks_with, count_last, count_more}
use Rattle.adb_laws_alone.proofs.Asked.{fresh_by, none_of}
use Rattle.adb_laws_alone.proofs.Asked.{opened_last, opened_more}
use Rattle.adb_laws_alone.proofs.Alone.{none_unasked}
use Rattle.adb_laws_alone.proofs.Quiet.{fed_none}
use Rattle.adb_laws_alone.proofs.Through.{asks_fed, asks_opened, asks_other, at_first, calls_of, feeds_through, files_fed_through}
use Rattle.adb_laws_alone.proofs.Through.{files_opened_through, opens_through, stays_through}
use Rattle.adb_laws_alone.proofs.Watching.{acked_same, host_of, known_by}
use Rattle.adb_laws_alone.proofs.Rows.{Here, Holding, Keeps, Others, all_keep, but, same_here, settles, stands, taken}

-- ---- a device behind packets
-- All of it is kept, through some calls, each of which is one of a stream that was asked for.
pub record Runs (rows : List Packet → List (ℕ × Row)) (d : ℕ) (first : List Entry) (done : List Packet) (s : Serving) : Type 0 where
  pub calls : List Call
  pub place : ℕ → ℕ
  pub left : s.files ≡ files_after first calls
  pub keeps : Keeps d first calls place s.drawn done s.rows s.ended
  pub asked : AllByRecursion (IsAskedIn d done) calls
  pub asks : (l : ℕ) → d < l → (asks_of l calls ≡ []) ⊎ HasAsked rows l done (asks_of l calls)

settled_same : (link : Link) (q : ℕ) (row : Row) (s : Serving)
    → ((settled link q row s).files ≡ s.files) × ((settled link q row s).drawn ≡ s.drawn)
settled_same link q row s = go (is_done (row_written link.most row))
  where
    before : Serving
    before = owing (sent_writes link q row) s

    go : (b : Bool) → ((settled_as b link q (row_written link.most row) before).files ≡ s.files)
        × ((settled_as b link q (row_written link.most row) before).drawn ≡ s.drawn)
    go true = (refl, refl)
    go false = (refl, refl)

-- the same row behind a packet that changes no call
module _ (rows : List Packet → List (ℕ × Row)) (d : ℕ) (first : List Entry) (done : List Packet) (p : Packet)
    (s : Serving) (r : Runs rows d first done s) where
  abbrev next : List Packet
  next = done ++ p ∷ []

  later : (own : ℕ) (row : Row) → Holding first r.calls r.place s.drawn done own row → Holding first r.calls r.place s.drawn next own row
  later own row h = record {
    ran = h.ran;
    here = h.here;
    within = h.within;
    asked = (let more = count_more row.host done p in let once = h.asked in omega (arith, more, once));
    known = opened_more row.host row.kind done p h.known;
  }

  kept : Keeps d first r.calls r.place s.drawn next s.rows s.ended
  kept = record {
    rises = r.keeps.rises;
    live = λ own row is past. later own row (r.keeps.live own row is past);
    over = λ own e is past. later own e.row (r.keeps.over own e is past);
    apart = r.keeps.apart;
  }

  -- the same calls
  same_calls : (new : Serving) → new.files ≡ s.files → new.drawn ≡ s.drawn → Keeps d first r.calls r.place s.drawn next new.rows new.ended
      → Runs rows d first next new
  same_calls new files drawn keeps = record {
    calls = r.calls;
    place = r.place;
    left = files ∙ r.left;
    keeps = subst (λ (n : ℕ). Keeps d first r.calls r.place n next new.rows new.ended) (sym drawn) keeps;
    asked = asked_more d done p r.calls r.asked;
    asks = λ l late. asks_more rows l done (asks_of l r.calls) p (r.asks l late);
  }

  unchanged : Runs rows d first next s
  unchanged = same_calls s refl refl kept

  -- ---- an OKAY, a CLSE, and the end of all
  okay_runs : (link : Link) → Runs rows d first next (on_okay link p s)
  okay_runs link = go (named p.arg0 (at p.arg1 s.rows)) refl
    where
      go : (found : Option Row) → named p.arg0 (at p.arg1 s.rows) ≡ found → Runs rows d first next (acked_to link p found s)
      go None is = unchanged
      go (Some row) is =
          let there = named_is p.arg0 (at p.arg1 s.rows) row is in
          let acked = row_acked (credit_word_in p.payload) row in
          let before : Serving = granted p.arg1 (credit_word_in p.payload) s in
          let same = settled_same link p.arg1 acked before in
          same_calls (settled link p.arg1 acked before) same.0 same.1
          (settles d first r.calls r.place s.drawn next link p.arg1 acked before
          (but d first r.calls r.place s.drawn next p.arg1 s.rows s.ended kept)
          (same_here d first r.calls r.place s.drawn next p.arg1 row acked s.ended (acked_same (credit_word_in p.payload) row)
          (stands d first r.calls r.place s.drawn next p.arg1 row s.rows s.ended kept there)))

  close_runs : Runs rows d first next (on_close p s)
  close_runs = go (closable p.arg0 (at p.arg1 s.rows)) refl
    where
      go : (found : Option Row) → closable p.arg0 (at p.arg1 s.rows) ≡ found → Runs rows d first next (closed_to p.arg1 found s)
      go None is = unchanged
      go (Some row) is =
          let there = closable_is p.arg0 (at p.arg1 s.rows) row is in
          same_calls (closed_to p.arg1 (Some row) s) refl refl
          (taken d first r.calls r.place s.drawn next p.arg1 row s.rows s.ended
          (but d first r.calls r.place s.drawn next p.arg1 s.rows s.ended kept)
          (stands d first r.calls r.place s.drawn next p.arg1 row s.rows s.ended kept there) false)

  gone_runs : Runs rows d first next (all_gone s)
  gone_runs = same_calls (all_gone s) refl refl (all_keep d first r.calls r.place s.drawn next s.rows s.ended kept)

  -- ---- what its stream asked for with an OPEN, and with a prefix of what a write asks for
  pub open_asks : (kind : Kind) → p.command ≡ commands.Open → count_from is_open p.arg0 done ≡ 0
      → service_of (name_of p.payload) ≡ Some kind
      → HasAsked rows p.arg0 next (asks_of p.arg0 r.calls ++ asks_opened kind)
  open_asks kind asks fresh known = record {
    kind = kind;
    opened = opened_last p.arg0 kind done p (asks, (refl, known));
    came = [];
    from = inl refl;
    first = (
      [],
      append-nil (asks_of p.arg0 r.calls ++ asks_opened kind)
          ∙ (ap (λ (before : List Ask). before ++ asks_opened kind) (none_of d p.arg0 done r.calls r.asked fresh) ∙ at_first kind),
    );
  }

  pub write_asks : (row : Row) → at p.arg1 s.rows ≡ Some row → p.arg0 ≡ row.host → d < row.host
      → p.command ≡ commands.Wrte → rows done ≡ s.rows
      → (asks more : List Ask) → asks ++ more ≡ asks_fed row.kind row.past p.payload
      → HasAsked rows row.host next (asks_of row.host r.calls ++ asks)
  write_asks row there host past writes at_rows asks more is =
      let held = r.keeps.live p.arg1 row there past in
      let fed = asks_fed row.kind row.past p.payload in
      let before = asks_of row.host r.calls in
      record {
        kind = row.kind;
        opened = (later p.arg1 row held).known;
        came = bytes_in row.past ++ p.payload;
        from = inr (record {
          front = done;
          packet = p;
          rest = [];
          is = refl;
          writes = writes;
          of = host;
          row = row;
          live = ap (at p.arg1) at_rows ∙ there;
          host = refl;
          came_is = refl;
        });
        first = (
          more,
          append_assoc before asks more
              ∙ (ap (λ (x : List Ask). before ++ x) is
              ∙ (sym (asks_mine row.host r.calls fed)
              ∙ (feeds_through first r.calls row.host row.kind row.first row.past p.payload held.ran).asks)),
        );
      }

  -- ---- a write
  write_runs : (link : Link) → p.command ≡ commands.Wrte → rows done ≡ s.rows → IsOfLater d commands.Wrte p
      → Runs rows d first next (on_write link p s)
  write_runs link writes at_rows of = go (named p.arg0 (at p.arg1 s.rows)) refl
    where
      took : (row : Row) → at p.arg1 s.rows ≡ Some row → row.host ≡ p.arg0 → (d < row.host) ⊎ (row.host ≤ d)
          → Runs rows d first next (written_to link p (Some row) s)
      took row there host (inl past) = record {
        calls = calls;
        place = r.place;
        left = same.0 ∙ (ap (λ (fs : List Entry). files_fed row.kind row.past (came_over p.payload fs)) r.left
            ∙ files_fed_through first r.calls row.host row.kind row.past p.payload);
        keeps = subst
            (λ (n : ℕ). Keeps d first calls r.place n next (settled link p.arg1 now before).rows
            (settled link p.arg1 now before).ended) (sym same.1)
            (settles d first calls r.place s.drawn next link p.arg1 now before others here);
        asked = asked_both d next r.calls (calls_of row.host asks) (asked_more d done p r.calls r.asked)
            (asked_own d next row.host asks past (later p.arg1 row held).asked);
        asks = asks_with rows d row.host done p r.calls asks r.asks mine;
      }
        where
          held : Holding first r.calls r.place s.drawn done p.arg1 row
          held = r.keeps.live p.arg1 row there past

          asks : List Ask
          asks = asks_fed row.kind row.past p.payload

          mine : HasAsked rows row.host next (asks_of row.host r.calls ++ asks_fed row.kind row.past p.payload)
          mine =
              write_asks row there (sym host) past writes at_rows (asks_fed row.kind row.past p.payload) []
              (append-nil (asks_fed row.kind row.past p.payload))

          calls : List Call
          calls = r.calls ++ calls_of row.host (asks_fed row.kind row.past p.payload)

          now : Row
          now = row_took (came_over p.payload s.files) row

          before : Serving
          before = record (owing (sent_ack link p.arg1 row.host row.flow (length p.payload)) s) {
            files = files_fed row.kind row.past (came_over p.payload s.files);
          }

          same : ((settled link p.arg1 now before).files ≡ files_fed row.kind row.past (came_over p.payload s.files))
              × ((settled link p.arg1 now before).drawn ≡ s.drawn)
          same = settled_same link p.arg1 now before

          -- a row of another id of the device is of another stream
          other_stream : (own : ℕ) (x : Row) → own ≢ p.arg1 → Holding first r.calls r.place s.drawn next own x → row.host ≢ x.host
          other_stream own x other h = λ is. other (sym h.here ∙ (ap r.place (sym is) ∙ held.here))

          more : (own : ℕ) (x : Row) → row.host ≢ x.host → Holding first r.calls r.place s.drawn next own x
              → Holding first calls r.place s.drawn next own x
          more own x apart h = record {
            ran = stays_through first r.calls (calls_of row.host asks) x.host x.kind x.first x.past
                (asks_other row.host x.host asks apart) h.ran;
            here = h.here;
            within = h.within;
            asked = h.asked;
            known = h.known;
          }

          -- one that has ended too
          over_other : (own : ℕ) (e : Ended) → over_at own s.ended ≡ Some e → d < e.row.host
              → Holding first r.calls r.place s.drawn next own e.row
              → row.host ≢ e.row.host
          over_other own e found late h = λ is.
              let mine : own ≡ p.arg1 = sym h.here ∙ (ap r.place (sym is) ∙ held.here) in
              r.keeps.apart p.arg1 row there past e (subst (λ (n : ℕ). over_at n s.ended ≡ Some e) mine found) late

          others : Others d first calls r.place s.drawn next p.arg1 s.rows s.ended
          others = record {
            rises = kept.rises;
            live = λ own x other is late. let h = kept.live own x is late in more own x (other_stream own x other h) h;
            over = λ own e found late. let h = kept.over own e found late in more own e.row (over_other own e found late h) h;
            apart = λ own x other is late. kept.apart own x is late;
          }

          here : Here d first calls r.place s.drawn next p.arg1 (row_took (came_over p.payload s.files) row) s.ended
          here = record {
            live = λ late. record {
              ran = subst (λ (fs : List Entry). RanThrough first (r.calls ++ calls_of row.host (asks_fed row.kind row.past p.payload))
                  row.host row.kind row.first
                  (came_over p.payload fs ∷ row.past)) (sym r.left)
                  (feeds_through first r.calls row.host row.kind row.first row.past p.payload held.ran);
              here = held.here;
              within = held.within;
              asked = (later p.arg1 row held).asked;
              known = (later p.arg1 row held).known;
            };
            apart = λ late. r.keeps.apart p.arg1 row there past;
          }
      took row there host (inr early) = by of
        where
          by : (p.payload ≡ []) ⊎ (d < p.arg0) → Runs rows d first next (written_to link p (Some row) s)
          by (inr past) = absurd (omega (arith, past, host, early))
          by (inl none) =
              let now : Row = row_took (came_over p.payload s.files) row in
              let before : Serving = record (owing (sent_ack link p.arg1 row.host row.flow (length p.payload)) s) {
                files = files_fed row.kind row.past (came_over p.payload s.files);
              } in
              let same = settled_same link p.arg1 now before in
              same_calls (settled link p.arg1 now before) (same.0 ∙ fed_none row.kind row.past p.payload s.files none) same.1
              (settles d first r.calls r.place s.drawn next link p.arg1 now before
              (but d first r.calls r.place s.drawn next p.arg1 s.rows s.ended kept)
              (record { live = λ late. absurd (omega (arith, late, early)); apart = λ late. absurd (omega (arith, late, early)) }))

      go : (found : Option Row) → named p.arg0 (at p.arg1 s.rows) ≡ found → Runs rows d first next (written_to link p found s)
      go None is = unchanged
      go (Some row) is = took row (named_is p.arg0 (at p.arg1 s.rows) row is)
          (host_of p.arg0 row (at p.arg1 s.rows) is) (cases_lt d row.host)

  -- ---- an OPEN
  open_runs : (link : Link) → p.command ≡ commands.Open → d < p.arg0 → count_from is_open p.arg0 done ≡ 0
      → Runs rows d first next (on_open link p s)
  open_runs link asks past fresh = go (p.arg0 == 0 || is_taken p.arg0 s.rows)
    where
      some : (kind : Kind) → service_of (name_of p.payload) ≡ Some kind → Runs rows d first next (open_as link p (Some kind) s)
      some kind known = record {
        calls = calls;
        place = place;
        left = same.0 ∙ (ap (files_opened kind) r.left ∙ files_opened_through first r.calls p.arg0 kind);
        keeps = subst
            (λ (n : ℕ). Keeps d first calls place n next (settled link (s.drawn + 1) row begun).rows
            (settled link (s.drawn + 1) row begun).ended)
            (sym same.1) (settles d first calls place (s.drawn + 1) next link (s.drawn + 1) row begun others here);
        asked = asked_both d next r.calls (calls_of p.arg0 (asks_opened kind)) (asked_more d done p r.calls r.asked)
            (asked_own d next p.arg0 (asks_opened kind) past (count_last done p asks));
        asks = asks_with rows d p.arg0 done p r.calls (asks_opened kind) r.asks (open_asks kind asks fresh known);
      }
        where
          calls : List Call
          calls = r.calls ++ calls_of p.arg0 (asks_opened kind)

          for_kind : IsOpenedFor p.arg0 kind next
          for_kind = opened_last p.arg0 kind done p (asks, (refl, known))

          place : ℕ → ℕ
          place l = cond (nat_eq p.arg0 l) (s.drawn + 1) (r.place l)

          row : Row
          row = opened p.arg0 kind s.files (credit_of link p)

          begun : Serving
          begun =
              record (granted (s.drawn + 1) (credit_of link p)
              (owing (with_sum link.sums (okay (s.drawn + 1) p.arg0 (opening_word (credit_of link p))) ∷ []) s)) {
                drawn = s.drawn + 1;
                files = files_opened kind s.files;
              }

          same : ((settled link (s.drawn + 1) row begun).files ≡ files_opened kind s.files)
              × ((settled link (s.drawn + 1) row begun).drawn ≡ s.drawn + 1)
          same = settled_same link (s.drawn + 1) row begun

          -- a stream that was asked for before is another one
          another : (own : ℕ) (x : Row) → Holding first r.calls r.place s.drawn done own x → p.arg0 ≢ x.host
          another own x h = λ is.
              let once = h.asked in
              let none : count_from is_open x.host done ≡ 0 = ap (λ (l : ℕ). count_from is_open l done) (sym is) ∙ fresh in
              omega (arith, once, none)

          more : (own : ℕ) (x : Row) → Holding first r.calls r.place s.drawn done own x → Holding first calls place (s.drawn + 1) next own x
          more own x h = record {
            ran = stays_through first r.calls (calls_of p.arg0 (asks_opened kind)) x.host x.kind x.first x.past
                (asks_other p.arg0 x.host (asks_opened kind) (another own x h)) h.ran;
            here = ap (λ (b : Bool). cond b (s.drawn + 1) (r.place x.host)) (ne_eqb p.arg0 x.host (another own x h)) ∙ h.here;
            within = (let within = h.within in omega (arith, within));
            asked = (later own x h).asked;
            known = (later own x h).known;
          }

          others : Others d first calls place (s.drawn + 1) next (s.drawn + 1) s.rows s.ended
          others = record {
            rises = r.keeps.rises;
            live = λ own x other is late. more own x (r.keeps.live own x is late);
            over = λ own e found late. more own e.row (r.keeps.over own e found late);
            apart = λ own x other is late. r.keeps.apart own x is late;
          }

          here : Here d first calls place (s.drawn + 1) next (s.drawn + 1) (opened p.arg0 kind s.files (credit_of link p)) s.ended
          here = record {
            live = λ late. record {
              ran = subst (λ (fs : List Entry). RanThrough first (r.calls ++ calls_of p.arg0 (asks_opened kind))
                  p.arg0 kind fs []) (sym r.left)
                  (opens_through first r.calls p.arg0 kind (none_of d p.arg0 done r.calls r.asked fresh));
              here = ap (λ (b : Bool). cond b (s.drawn + 1) (r.place p.arg0)) (eq-eqb p.arg0 p.arg0 refl);
              within = omega arith;
              asked = count_last done p asks;
              known = for_kind;
            };
            apart = λ late e found too. (let within = (r.keeps.over (s.drawn + 1) e found too).within in omega (arith, within));
          }

      by : (kind : Option Kind) → kind_for s.drawn p ≡ kind → Runs rows d first next (open_as link p kind s)
      by None is = same_calls (open_as link p None s) refl refl kept
      by (Some kind) is = some kind (known_by s.drawn p kind is)

      go : (b : Bool) → Runs rows d first next (cond b s (open_as link p (kind_for s.drawn p) s))
      go true = unchanged
      go false = by (kind_for s.drawn p) refl

  -- ---- each packet
  served_runs : (link : Link) (command : Command) → p.command ≡ command → rows done ≡ s.rows → IsOfLater d command p
      → (p.command ≡ commands.Open → count_from is_open p.arg0 done ≡ 0) → Runs rows d first next (served command link p s)
  served_runs link commands.Open is at_rows of fresh = open_runs link is of (fresh is)
  served_runs link commands.Wrte is at_rows of fresh = write_runs link is at_rows of
  served_runs link commands.Okay is at_rows of fresh = okay_runs link
  served_runs link commands.Clse is at_rows of fresh = close_runs
  served_runs link commands.Cnxn is at_rows of fresh = unchanged
  served_runs link commands.Auth is at_rows of fresh = unchanged
  served_runs link commands.Stls is at_rows of fresh = unchanged

module _ (rows : List Packet → List (ℕ × Row)) (setting : Setting) (d : ℕ) (first : List Entry) where
  step_runs : (done : List Packet) (dev : Device) (p : Packet) → rows done ≡ dev.serving.rows → IsOfLater d p.command p
      → (p.command ≡ commands.Open → count_from is_open p.arg0 done ≡ 0) → Runs rows d first done dev.serving
      → Runs rows d first (done ++ p ∷ []) (step setting dev p).serving
  unfolding step
  step_runs done dev p at_rows of fresh r = refused dev.refused
    where
      same : Runs rows d first (done ++ p ∷ []) dev.serving
      same = unchanged rows d first done p dev.serving r

      linked : (o : Option Link) → Runs rows d first (done ++ p ∷ []) (linked_to o dev).serving
      linked None = same
      linked (Some link) = gone_runs rows d first done p dev.serving r

      on : (o : Option Link) → Runs rows d first (done ++ p ∷ []) (served_on o p dev).serving
      on None = same
      on (Some link) = served_runs rows d first done p dev.serving r link p.command refl at_rows of fresh

      treats : (b : Bool) → Runs rows d first (done ++ p ∷ []) (cond b (linked_to (link_of setting.most setting.credit p) dev)
          (served_on dev.link p dev)).serving
      treats true = linked (link_of setting.most setting.credit p)
      treats false = on dev.link

      refused : (b : Bool) → Runs rows d first (done ++ p ∷ []) (cond b dev (treated setting p dev)).serving
      refused true = same
      refused false = treats (is_cnxn p.command)

  pub all_run : (ps done : List Packet) (dev : Device)
      → ((qs : List Packet) → rows (done ++ qs) ≡ (fold (step setting) dev qs).serving.rows) → Every (IsOfLater d) ps
      → ((l : ℕ) → d < l → count_from is_open l (done ++ ps) ≤ 1) → Runs rows d first done dev.serving
      → Runs rows d first (done ++ ps) (fold (step setting) dev ps).serving
  all_run [] done dev at_rows every once r = subst (λ (ps : List Packet). Runs rows d first ps dev.serving) (sym (append-nil done)) r
  all_run (p ∷ ps) done dev at_rows every once r =
      subst (λ (qs : List Packet). Runs rows d first qs (fold (step setting) (step setting dev p) ps).serving) whole
      (all_run ps (done ++ p ∷ []) (step setting dev p) (λ qs. ap rows (append_assoc done (p ∷ []) qs) ∙ at_rows (p ∷ qs)) every.1
      (λ l past. subst (λ (qs : List Packet). count_from is_open l qs ≤ 1) (sym whole) (once l past))
      (step_runs done dev p (ap rows (sym (append-nil done)) ∙ at_rows []) every.0 (fresh_by d p ps done every.0 once) r))
    where
      whole : (done ++ p ∷ []) ++ ps ≡ done ++ p ∷ ps
      whole = append_assoc done (p ∷ []) ps

-- what holds of a device after packets
pub runs_after : (setting : Setting) (d : ℕ) (before ps : List Packet)
    → Every (AsksNone (λ (host : ℕ). d < host)) before → Every (IsOfLater d) ps
    → ((l : ℕ) → d < l → count_from is_open l ps ≤ 1)
    → Runs (rows_after setting before) d (device_behind setting before).serving.files ps (device_behind setting (before ++ ps)).serving
unfolding IsStrictlySortedBy
runs_after setting d before ps none every once =
    subst (λ (x : Device). Runs (rows_after setting before) d (device_behind setting before).serving.files ps x.serving)
    (sym (step_more setting (first_device setting) before ps))
    (all_run (rows_after setting before) setting d (device_behind setting before).serving.files ps [] (device_behind setting before)
    (λ qs. ap (λ (x : Device). x.serving.rows) (step_more setting (first_device setting) before qs)) every once begun)
  where
    begun : Runs (rows_after setting before) d (device_behind setting before).serving.files [] (device_behind setting before).serving
    begun =
        let k = none_unasked setting (λ (host : ℕ). d < host) before none in
        record {
          calls = [];
          place = λ l. 0;
          left = refl;
          keeps = record {
            rises = k.rises;
            live = λ own row is past. absurd (k.live own row is past).1;
            over = λ own e is past. absurd (k.over own e is past);
            apart = λ own row is past e found too. k.over own e found too;
          };
          asked = tt;
          asks = λ l late. inl refl;
        }

pub run_together : (setting : Setting) → RunTogether setting
run_together setting d before ps none every once =
    let runs = runs_after setting d before ps none every once in
    record {
      calls = runs.calls;
      left = runs.left;
      live = λ own row is past. (runs.keeps.live own row is past).ran;
      over = λ own e is past. (runs.keeps.over own e is past).ran;
      asked = runs.asked;
    }
