-- What each packet of the host leaves of what is served.
use Rattle.std.specs.Prelude.{ℕ, ◌≡◌, ◌==◌, ◌++◌, Bool, true, false, if◌then◌else◌, List, [], ◌∷◌, length, Option, Some, None, option_map}
use Rattle.std.proofs.Common.{refl, sym, ◌∙◌, ap, subst, inr}
use Rattle.std.proofs.lemmas.Bool.{true≢false}
use Rattle.std.proofs.lemmas.List.{append-nil}
use borrow.Author.Tests.{true-eqb}
use Rattle.adb_outside.specs.Tables.{at, Puts}
use Rattle.adb_wire.specs.declared.packets.Packet.{Packet}
use Rattle.byteorder.specs.Endian.{little_bytes}
use Rattle.adb_stream.specs.declared.flow.Flow.{Flow}
use Rattle.adb_stream.specs.declared.flow.Flow.TheVariants as flows
use Rattle.adb_files.specs.Entries.{Entry}
use Rattle.adb_device_streams.specs.Service.{Came, came_over, files_fed, HasFrontOfFiles}
use Rattle.adb_device_streams.specs.Stream.{Row, row_took, row_acked, ack_bytes, packet_bytes, okay}
use Rattle.adb_device_streams.specs.Link.{credit_word_in}
use Rattle.adb_device_streams.specs.declared.link.Link.{Link}
use Rattle.adb_device_streams.specs.declared.stream.Stream.{Stream}
use Rattle.adb_daemon.specs.Serving.{Serving, Sent, sent_bytes, sent_ack, named, written_to, on_write, acked_to, on_okay, owing, granted}
use Rattle.adb_daemon.specs.Serving.{settled}
use Rattle.adb_daemon.specs.Held.{host_at, is_named, StandsAt, View, Holds, SettlesAt, CutWrite}
use Rattle.adb_daemon.proofs.Settling.{owes_more, grants, live_settles, live_ends}

-- a live stream of both ids
pub record Live (host : ℕ) (found : Option Row) (held : Option Stream) : Type 0 where
  pub row : Row
  pub is : found ≡ Some row
  pub same : row.host ≡ host
  pub both : named host found ≡ Some row
  pub stands : StandsAt (Some row) held

named_if : (host : ℕ) (row : Row) (t : Bool) → (row.host == host) ≡ t → named host (Some row) ≡ (if t then Some row else None)
named_if host row t is = ap (λ (b : Bool). if b then Some row else None) is

pub is_live : (host : ℕ) (found : Option Row) (held : Option Stream) → StandsAt found held
    → is_named host (option_map (λ (stream : Stream). stream.host) held) ≡ true → Live host found held
is_live host None None stands is = absurd (true≢false (sym is))
is_live host None (Some stream) stands is = absurd stands
is_live host (Some row) None stands is = absurd stands
is_live host (Some row) (Some stream) stands is =
    let same : (row.host == host) ≡ true = ap (λ (n : ℕ). n == host) (sym stands.host) ∙ is in
    record { row = row; is = refl; same = true-eqb row.host host (sym same); both = named_if host row true same; stands = stands }

-- the acknowledgement of a write
acks_are : (link : Link) (own host : ℕ) (flow : Flow) (n : ℕ)
    → ack_bytes link.sums own host flow n ≡ sent_bytes (sent_ack link own host flow n)
acks_are link own host (flows.One window) n = sym (append-nil (packet_bytes link.sums (okay own host [])))
acks_are link own host (flows.Credit credit) n = go (n == 0)
  where
    word : List ℕ
    word = packet_bytes link.sums (okay own host (little_bytes 4 n))

    go : (t : Bool) → (if t then [] else packet_bytes link.sums (okay own host (little_bytes 4 n)))
        ≡ sent_bytes (if t then [] else record { sums = link.sums; packet = okay own host (little_bytes 4 n) } ∷ [])
    go true = refl
    go false = sym (append-nil (packet_bytes link.sums (okay own host (little_bytes 4 n))))

module _ (link : Link) (p : Packet) (s : Serving) (taken : List ℕ) (view : View) (h : Holds s taken view) where
  pub live : is_named p.arg0 (host_at p.arg1 view.streams) ≡ true → Live p.arg0 (at p.arg1 s.rows) (at p.arg1 view.streams)
  live is = is_live p.arg0 (at p.arg1 s.rows) (at p.arg1 view.streams) (h.table.stands p.arg1) is

  -- memory ran out at a WRTE
  pub cut_write : is_named p.arg0 (host_at p.arg1 view.streams) ≡ true → (files : List Entry)
      → ((row : Row) → StandsAt (Some row) (at p.arg1 view.streams)
      → HasFrontOfFiles row.kind row.past (came_over p.payload view.files) files)
      → CutWrite p s files
  cut_write is files front =
      let l = live is in
      inr (record {
        row = l.row;
        live = l.both;
        left = subst (λ (f : List Entry). HasFrontOfFiles l.row.kind l.row.past (came_over p.payload f) files) h.files
            (front l.row l.stands);
      })

  module _ (is : is_named p.arg0 (host_at p.arg1 view.streams) ≡ true) (streams : List (ℕ × Stream)) (due : List ℕ) where
    abbrev word : Option ℕ
    word = credit_word_in p.payload

    -- an OKAY for a stream that goes on, and for one that is done then
    pub okay_goes : (done : Bool) → done ≡ false → ((row : Row) → StandsAt (Some row) (at p.arg1 view.streams)
        → SettlesAt link p.arg1 (row_acked (credit_word_in p.payload) row) view.streams streams view.due due done)
        → Holds (on_okay link p s) taken (record view { streams = streams; due = due })
    okay_goes done on settles =
        let l = live is in
        let v = record view { streams = streams; due = due } in
        subst (λ (r : Option Row). Holds (acked_to link p r s) taken v) (sym l.both)
        (live_settles link p.arg1 (row_acked (credit_word_in p.payload) l.row) (granted p.arg1 word s) taken view
        (grants s taken view p.arg1 word h) due l.row streams l.is refl
        (subst (SettlesAt link p.arg1 (row_acked (credit_word_in p.payload) l.row) view.streams streams view.due due)
        on (settles l.row l.stands)))

    pub okay_ends : (streams' : List (ℕ × Stream)) (hosts : List (ℕ × ℕ)) (done : Bool) → done ≡ true → ((row : Row)
        → StandsAt (Some row) (at p.arg1 view.streams)
        → SettlesAt link p.arg1 (row_acked (credit_word_in p.payload) row) view.streams streams view.due due done)
        → Puts p.arg1 None streams streams' → Puts p.arg0 None view.hosts hosts
        → Holds (on_okay link p s) taken (record view { streams = streams'; hosts = hosts; due = due })
    okay_ends streams' hosts done over settles puts host_puts =
        let l = live is in
        let v = record view { streams = streams'; hosts = hosts; due = due } in
        subst (λ (r : Option Row). Holds (acked_to link p r s) taken v) (sym l.both)
        (live_ends link p.arg1 (row_acked (credit_word_in p.payload) l.row) (granted p.arg1 word s) taken view
        (grants s taken view p.arg1 word h) due l.row streams streams' hosts l.is
        (subst (SettlesAt link p.arg1 (row_acked (credit_word_in p.payload) l.row) view.streams streams view.due due)
        over (settles l.row l.stands))
        puts (subst (λ (n : ℕ). Puts n None view.hosts hosts) (sym l.same) host_puts))

    -- what a call that takes a write says
    pub record Writes (files : List Entry) (done : Bool) : Type 0 where
      pub settles : (row : Row) → StandsAt (Some row) (at p.arg1 view.streams)
          → SettlesAt link p.arg1 (row_took (came_over p.payload view.files) row) view.streams streams
          (view.due ++ ack_bytes link.sums p.arg1 row.host row.flow (length p.payload)) due done
      pub fed : (row : Row) → StandsAt (Some row) (at p.arg1 view.streams)
          → files ≡ files_fed row.kind row.past (came_over p.payload view.files)

    module _ (files : List Entry) (done : Bool) (w : Writes files done) where
      abbrev row : Row
      row = (live is).row

      abbrev came : Came
      came = came_over p.payload s.files

      abbrev more : List Sent
      more = sent_ack link p.arg1 row.host row.flow (length p.payload)

      over : files ≡ files_fed row.kind row.past came
      over = w.fed row (live is).stands ∙ ap (λ (f : List Entry). files_fed row.kind row.past (came_over p.payload f)) h.files

      owes : Holds (record (owing more s) { files = files }) taken (record view { files = files; due = view.due ++ sent_bytes more })
      owes = owes_more s taken view more files h

      settled_then : SettlesAt link p.arg1 (row_took came row) view.streams streams (view.due ++ sent_bytes more) due done
      settled_then =
          subst (λ (f : List Entry). SettlesAt link p.arg1 (row_took (came_over p.payload f) row) view.streams streams
          (view.due ++ sent_bytes more) due done)
          h.files (subst
          (λ (b : List ℕ). SettlesAt link p.arg1 (row_took (came_over p.payload view.files) row) view.streams
          streams (view.due ++ b) due done)
          (acks_are link p.arg1 row.host row.flow (length p.payload)) (w.settles row (live is).stands))

      to_rule : (v : View) → Holds (settled link p.arg1 (row_took came row) (record (owing more s) { files = files })) taken v
          → Holds (on_write link p s) taken v
      to_rule v held =
          subst (λ (r : Option Row). Holds (written_to link p r s) taken v) (sym (live is).both)
          (subst (λ (f : List Entry). Holds
          (settled link p.arg1 (row_took came row) (record (owing more s) { files = f })) taken v) over held)

    as_told : (files : List Entry) (done told : Bool) → done ≡ told → Writes files done → Writes files told
    as_told files done told same w = subst (Writes files) same w

    -- a WRTE for a stream that goes on, and for one that is done then
    pub write_goes : (files : List Entry) (done : Bool) → done ≡ false → Writes files done
        → Holds (on_write link p s) taken (record view { streams = streams; files = files; due = due })
    write_goes files done on told =
        let w = as_told files done false on told in
        to_rule files false w (record view { streams = streams; files = files; due = due })
        (live_settles link p.arg1 (row_took (came files false w) (row files false w))
        (record (owing (more files false w) s) { files = files }) taken
        (record view { files = files; due = view.due ++ sent_bytes (more files false w) }) (owes files false w) due
        (row files false w) streams
        (live is).is refl
        (settled_then files false w))

    pub write_ends : (files : List Entry) (streams' : List (ℕ × Stream)) (hosts : List (ℕ × ℕ)) (done : Bool)
        → done ≡ true → Writes files done
        → Puts p.arg1 None streams streams' → Puts p.arg0 None view.hosts hosts
        → Holds (on_write link p s) taken (record view { streams = streams'; hosts = hosts; files = files; due = due })
    write_ends files streams' hosts done over told puts host_puts =
        let w = as_told files done true over told in
        to_rule files true w (record view { streams = streams'; hosts = hosts; files = files; due = due })
        (live_ends link p.arg1 (row_took (came files true w) (row files true w))
        (record (owing (more files true w) s) { files = files }) taken
        (record view { files = files; due = view.due ++ sent_bytes (more files true w) }) (owes files true w) due
        (row files true w) streams streams' hosts
        (live is).is (settled_then files true w) puts (subst (λ (n : ℕ). Puts n None view.hosts hosts) (sym (live is).same) host_puts))
