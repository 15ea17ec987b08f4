-- What the up rule leaves fit.
use Rattle.std.proofs.Common.{ℕ, ◌+◌, ◌-◌, ◌≡◌, ◌≢◌, ◌≤◌, ◌==◌, Bool, true, false, cond, List}
use Rattle.std.proofs.Common.{[], Option, Some, None, refl, sym, ◌∙◌, ap, subst, arith, length, ◌⊎◌, inl}
use Rattle.std.proofs.Common.{inr, zero, suc, drop}
use Rattle.std.specs.Prelude.{option_map, not, Result, Ok, Err, IfOk, OnOk}
use Rattle.std.proofs.lemmas.Bool.{cases_eq}
use Rattle.std.proofs.lemmas.Bool.Decides.{nat_tests}
use Rattle.adb_outside.specs.Tables.{at}
use Rattle.adb_wire.specs.declared.limits.TheConstants.{MIN_VERSION}
use Rattle.adb_client.specs.Client.{SeenClient}
use Rattle.adb_stream.specs.Flow.{can_send}
use Rattle.adb_stream.specs.declared.flow.Flow.{Flow}
use Rattle.adb_stream.specs.declared.flow.Flow.TheVariants.{One, Credit}
use Rattle.adb_stream.specs.declared.row.Stream.{Stream}
use Rattle.adb_history.specs.Rows.{Client}
use Rattle.adb_history.specs.Links.{maxdata_of}
use Rattle.adb_history.specs.Flow.{up, payloads, writes, write_len, write_before}
use Rattle.adb_hub_tables.specs.declared.ports.Port.{Port}
use Rattle.adb_hub_tables.specs.declared.tables.Tables.{Tables}
use Rattle.adb_hub_tables.specs.Tables.{state_of, link_row}
use Rattle.adb_hub_tables.specs.Places.{HasPlaces, LinkRoom, StaysRead, IsProvided, Uses}
use Rattle.adb_hub_rules.specs.Handing.{HasRoom, UsesOf}
use Rattle.adb_hub_tables.specs.Ready.{up_writes, IsCutBehind, writes_behind}
use Rattle.adb_hub_tables.specs.Widening.{WidensClient, WidensRow}
use Rattle.adb_hub_rules.specs.Up.{is_for, IsCutFor, IsCutOf, writes_for, writes_of, writes_up, IsReadyUp, all_unsent, held_at}
use Rattle.adb_hub_tables.specs.Fit.{IsFit, IsReadOutAt}
use Rattle.adb_hub_tables.proofs.Using.{provided_by, more_room}
use Rattle.adb_hub_clients.specs.Sending.{IsPreparedAt, can_send_at}
use Rattle.adb_hub_clients.proofs.Sums.{up_sums, sums_at}

-- ---- what was read of a link
read_out : (old new : Option Port) → StaysRead old new
    → option_map (λ link. link.sums) (option_map link_row new) ≡ option_map (λ link. link.sums) (option_map link_row old)
    → IsReadOutAt old → IsReadOutAt new
read_out old None stays sums out = tt
read_out None (Some new) stays sums out = absurd stays
read_out (Some old) (Some new) stays sums out =
    let same : (new.link.version == MIN_VERSION) ≡ (old.link.version == MIN_VERSION) = some_same _ _ sums in
    record {
      given = ap (λ (i : _). i.given) stays ∙ out.given;
      sound = ap (λ (i : _). i.fault) stays ∙ out.sound;
      sums = ap (λ (i : _). i.reading.sums) stays ∙ (out.sums ∙ sym same);
    }
  where
    or_true : Option Bool → Bool
    or_true None = true
    or_true (Some b) = b

    some_same : (a b : Bool) → Some a ≡ Some b → a ≡ b
    some_same a b is = ap or_true is

-- ---- places
-- what a rule leaves for the stream of an id, of which the link has places for what it takes
module _ (packets : ℕ) (old new : Tables) (provided : IsProvided old) where
  provided_of : (row : Option Stream) → HasRoom packets row old → ((c : ℕ) → UsesOf row packets c 0 old new) → IsProvided new
  provided_of None room uses = provided_by old new (λ t c. uses c t) provided
  provided_of (Some stream) room uses = record {
    links = λ k. by_place k (cases_eq k stream.link);
    clients = λ c. (uses c).of_client 0 (provided.clients c);
    counted = (uses 0).counted provided.counted;
    tracked = (uses 0).tracked provided.tracked;
  }
    where
      by_place : (k : ℕ) → ◌⊎◌ (k ≡ stream.link) (k ≢ stream.link) → LinkRoom 0 (at k new.links.entries)
      by_place k (inl is) =
          let here = (uses 0).on_link 0 (more_room packets (0 + packets) (at stream.link old.links.entries) (omega arith) room) in
          subst (λ (q : ℕ). LinkRoom 0 (at q new.links.entries)) (sym is) here
      by_place k (inr other) = (uses 0).on_links 0 k other (provided.links k)

stays_read : (packets : ℕ) (old new : Tables) (row : Option Stream) → ((c : ℕ) → UsesOf row packets c 0 old new)
    → (k : ℕ) → StaysRead (at k old.links.entries) (at k new.links.entries)
stays_read packets old new None uses k = (uses 0 0).read k
stays_read packets old new (Some stream) uses k = (uses 0).read k

pub raised_fit : (id : ℕ) (old new : Tables) → IsFit old → HasRoom (writes_up id old) (at id old.streams.streams) old
    → ((c : ℕ) → UsesOf (at id old.streams.streams) (writes_up id old) c 0 old new)
    → state_of new ≡ (up id (state_of old)).state → IsFit new
raised_fit id old new fit room uses is = record {
  provided = provided_of (writes_up id old) old new fit.provided (at id old.streams.streams) room uses;
  read_out = λ k. read_out (at k old.links.entries) (at k new.links.entries)
      (stays_read (writes_up id old) old new (at id old.streams.streams) uses k)
      (ap (sums_at k) is ∙ up_sums id (state_of old) k) (fit.read_out k);
}

-- a stream of which nothing can be sent
pub idle_fit : (id : ℕ) (old new : Tables) → IsFit old → ((t c : ℕ) → Uses t 0 c 0 old new)
    → state_of new ≡ (up id (state_of old)).state → IsFit new
idle_fit id old new fit uses is = record {
  provided = provided_by old new uses fit.provided;
  read_out = λ k. read_out (at k old.links.entries) (at k new.links.entries) ((uses 0 0).read k)
      (ap (sums_at k) is ∙ up_sums id (state_of old) k) (fit.read_out k);
}

-- where a flow lets nothing go, no writes are made
no_writes : (k maxdata : ℕ) (held : List ℕ) → writes k maxdata 0 held ≡ []
no_writes zero maxdata held = refl
no_writes (suc k) maxdata held =
    let none : write_len maxdata 0 held ≡ 0 = omega arith in
    ap (λ n. write_before n held (writes k maxdata (0 - write_len maxdata 0 held) (drop (write_len maxdata 0 held) held))) none

none_of : (flow : Flow) (maxdata : ℕ) (held : List ℕ) → can_send flow ≡ false → payloads flow maxdata held ≡ []
none_of (One window) maxdata held is = by_test window.outstanding is
  where
    by_test : (b : Bool) → not b ≡ false → cond b [] (writes 1 maxdata maxdata held) ≡ []
    by_test true is = refl
    by_test false is = absurd (let clash : true ≡ false = is in cc)
none_of (Credit credit) maxdata held is =
    let none : credit.to_send ≡ 0 = grind (arith, nat_tests) in
    ap (λ n. writes (length held) maxdata n held) none ∙ no_writes (length held) maxdata held

pub idle : (id : ℕ) (t : Tables) → can_send_at (at id t.streams.streams) ≡ false
    → (stream : Stream) → at id t.streams.streams ≡ Some stream → all_unsent stream t ≡ []
idle id t is stream here =
    none_of stream.part.flow (maxdata_of stream.link t.devices) (held_at (at stream.client t.clients.entries))
    (ap can_send_at (sym here) ∙ is)

-- ---- what is ready
few_writes : (id : ℕ) (flow : Flow) (maxdata writes : ℕ) (row : Option SeenClient) → IsPreparedAt writes flow maxdata row
    → writes_for id flow maxdata row ≤ writes
few_writes id flow maxdata writes None is = omega arith
few_writes id flow maxdata writes (Some client) is = by_test (is_for id client.about.phase)
  where
    by_test : (b : Bool) → cond b (up_writes flow 0 maxdata (length client.held)) 0 ≤ writes
    by_test true = is.within
    by_test false = omega arith

cut_for : (id : ℕ) (flow : Flow) (maxdata writes : ℕ) (row : Option SeenClient) → IsPreparedAt writes flow maxdata row
    → IsCutFor id flow maxdata row
cut_for id flow maxdata writes None is = tt
cut_for id flow maxdata writes (Some client) is = λ yes. is.cut

room_for : (writes : ℕ) (port : Option Port) → HasPlaces writes port → LinkRoom writes port
room_for writes None has = tt
room_for writes (Some port) has = has.0

-- what was made ready of a client, in so many writes
pub prepared : {E : Type 0} (flow : Flow) (maxdata : ℕ) (made : Result ℕ E) (old new : Option SeenClient) → WidensRow WidensClient old new
    → OnOk made (IsCutBehind flow 0 maxdata new) → IfOk made (λ most. most ≡ writes_behind flow 0 maxdata old)
    → IfOk made (λ most. IsPreparedAt most flow maxdata new)
prepared flow maxdata (Err error) old new h cut is = tt
prepared flow maxdata (Ok most) None None h cut is = tt
prepared flow maxdata (Ok most) None (Some new) h cut is = absurd h
prepared flow maxdata (Ok most) (Some old) None h cut is = absurd h
prepared flow maxdata (Ok most) (Some old) (Some new) h cut is =
    let held : length new.held ≡ length old.held = ap (λ (c : Client). length c.held) h.row in
    record { cut = cut; within = omega (arith, is, ap (up_writes flow 0 maxdata) held) }

pub ready_up : (id writes : ℕ) (t : Tables) (stream : Stream) → at id t.streams.streams ≡ Some stream
    → IsPreparedAt writes stream.part.flow (maxdata_of stream.link t.devices) (at stream.client t.clients.entries)
    → HasPlaces writes (at stream.link t.links.entries) → IsReadyUp id t
ready_up id writes t stream here prepared has = record {
  cut = subst (λ (row : Option Stream). IsCutOf id row t) (sym here) (cut_for id stream.part.flow maxdata writes client prepared);
  room = subst (λ (row : Option Stream). HasRoom (writes_of id row t) row t) (sym here)
      (more_room writes (writes_for id stream.part.flow maxdata client) (at stream.link t.links.entries)
      (few_writes id stream.part.flow maxdata writes client prepared) (room_for writes (at stream.link t.links.entries) has));
}
  where
    maxdata : ℕ
    maxdata = maxdata_of stream.link t.devices

    client : Option SeenClient
    client = at stream.client t.clients.entries
