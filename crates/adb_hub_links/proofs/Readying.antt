-- What was made ready before packets is ready behind them.
use Rattle.std.proofs.Common.{ℕ, zero, suc, min, ◌+◌, ◌/◌, ◌≡◌, ◌≢◌, ◌≤◌, cond, Bool, true, false, List, [], ◌∷◌, length, Option, Some}
use Rattle.std.proofs.Common.{None, eqb}
use Rattle.std.proofs.Common.{◌⊎◌, inl, inr, refl, sym, ◌∙◌, ap, subst, arith}
use Rattle.std.specs.Prelude.{option_map, is_some}
use Rattle.std.proofs.lemmas.Bool.{cases_eq, ne_eqb}
use Rattle.std.proofs.lemmas.Nat.{le-div}
use Rattle.std.proofs.Math.Nat.{div-zero, div-mul-le_self}
use Rattle.adb_outside.specs.Tables.{at}
use Rattle.adb_stream.specs.Flow.{has_credit}
use Rattle.adb_client.specs.Client.{SeenClient}
use Rattle.adb_stream.specs.Stream.{of_link}
use Rattle.adb_stream.specs.declared.flow.Flow.{Flow}
use Rattle.adb_stream.specs.declared.flow.Flow.TheVariants.{One, Credit}
use Rattle.adb_stream.specs.declared.row.Stream.{Stream}
use Rattle.adb_history.specs.Rows.{Client}
use Rattle.adb_history.specs.Links.{maxdata_of}
use Rattle.adb_hub_rules.specs.declared.came.Came.{Came}
use Rattle.adb_hub_tables.specs.declared.tables.Tables.{Tables}
use Rattle.adb_hub_rules.specs.Came.{packets_of}
use Rattle.adb_hub_tables.specs.Tables.{client_row, state_of}
use Rattle.adb_hub_tables.specs.Tracked.{IsAmong}
use Rattle.adb_hub_tables.specs.Places.{LinkRoom, HoldsAsReady, StaysHeld}
use Rattle.adb_hub_rules.specs.Up.{is_for, IsCutFor as IsCutIn, IsCutOf, writes_for, writes_of as writes_in, writes_up}
use Rattle.adb_hub_tables.specs.Ready.{up_bytes, up_writes, IsCut}
use Rattle.adb_hub_rules.specs.Sweep.{writes_if_on, writes_on, IsReadyEach}
use Rattle.adb_hub_tables.proofs.Using.{more_room}
use Rattle.adb_laws_resting.specs.Named.{credit_to_send, granted, HoldsAs, StaysAs, AllStay}
use Rattle.adb_hub_tables.specs.Ready.{IsCutBehind, writes_behind}
use Rattle.adb_hub_links.specs.Reserving.{IsCutAt, writes_at, all_writes, IsReserved}

-- ---- a flow that was given no more credit than was counted writes no more
-- A flow is of one kind with another, and has at most so much credit more.
record IsWithin (more : ℕ) (before flow : Flow) : Type 0 where
  kind : has_credit flow ≡ has_credit before
  most : credit_to_send flow ≤ credit_to_send before + more

fewer_bytes : (more maxdata held : ℕ) (before flow : Flow) → IsWithin more before flow
    → up_bytes flow 0 maxdata held ≤ up_bytes before more maxdata held
fewer_bytes more maxdata held (One v) (One w) h = omega arith
fewer_bytes more maxdata held (Credit v) (Credit w) h = omega (arith, h.most)
fewer_bytes more maxdata held (Credit v) (One w) h = absurd (let clash : false ≡ true = h.kind in cc)
fewer_bytes more maxdata held (One v) (Credit w) h = absurd (let clash : true ≡ false = h.kind in cc)

div_fewer : (m a b : ℕ) → a ≤ b → a / m ≤ b / m
div_fewer zero a b le = omega (arith, div-zero a)
div_fewer (suc k) a b le = le-div (a / suc k) b (suc k) (omega arith) (omega (arith, div-mul-le_self a (suc k), le))

fewer_writes : (more maxdata held : ℕ) (before flow : Flow) → IsWithin more before flow
    → up_writes flow 0 maxdata held ≤ up_writes before more maxdata held
fewer_writes more maxdata held (One v) (One w) h = omega arith
fewer_writes more maxdata held (Credit v) (Credit w) h =
    let fewer = div_fewer maxdata (min (w.to_send + 0) held) (min (v.to_send + more) held) (omega (arith, h.most)) in
    omega (arith, fewer)
fewer_writes more maxdata held (Credit v) (One w) h = absurd (let clash : false ≡ true = h.kind in cc)
fewer_writes more maxdata held (One v) (Credit w) h = absurd (let clash : true ≡ false = h.kind in cc)

on_link : (link : ℕ) (stream : Stream) → is_some (of_link link (Some stream)) ≡ true → stream.link ≡ link
on_link link stream e = by_place (cases_eq stream.link link)
  where
    by_place : (stream.link ≡ link) ⊎ (stream.link ≢ link) → stream.link ≡ link
    by_place (inl is) = is
    by_place (inr other) =
        let clash : false ≡ true = ap (λ (b : Bool). is_some (cond b (Some stream) None)) (sym (ne_eqb stream.link link other)) ∙ e in cc

-- A client was there before, and holds what it held where it has the stream of an id; as much of it is ready.
record WasHeld (l : ℕ) (before : Option SeenClient) (now : SeenClient) : Type 0 where
  old : SeenClient
  is : before ≡ Some old
  held : is_for l now.about.phase ≡ true → now.held ≡ old.held
  ready : HoldsAsReady old now

was_held : (l : ℕ) (before : Option SeenClient) (now : SeenClient)
    → HoldsAs l (option_map client_row before) (client_row now) → StaysHeld before (Some now)
    → WasHeld l before now
was_held l None now h ready = absurd ready
was_held l (Some old) now h ready = record {
  old = old;
  is = refl;
  held = λ has. let row : client_row old ≡ h.old = cc in h.held has ∙ sym (ap (λ (c : Client). c.held) row);
  ready = ready;
}

-- by a stream of one kind before and now
module _ (flow before : Flow) (more maxdata : ℕ) (growth : IsWithin more before flow)
    {l : ℕ} {row : Option SeenClient} {now : SeenClient} (was : WasHeld l row now) where
  -- what a client has ready is as much as the stream may write
  ready_for : IsCutBehind before more maxdata row → is_for l now.about.phase ≡ true → IsCut flow 0 maxdata now
  ready_for cut has =
      let old = was.old in
      let full : IsCut before more maxdata old = subst (IsCutBehind before more maxdata) was.is cut in
      let same : length now.held ≡ length old.held = ap length (was.held has) in
      let bytes = ap (up_bytes flow 0 maxdata) same in
      let pieces = ap (up_writes flow 0 maxdata) same in
      record {
        bytes = omega (arith, bytes, fewer_bytes more maxdata (length old.held) before flow growth, full.bytes, was.ready.ready same);
        pieces = omega (arith, pieces, fewer_writes more maxdata (length old.held) before flow growth, full.pieces, was.ready.cuts same);
      }

  -- and it writes no more often
  fewer_for : writes_for l flow maxdata (Some now) ≤ writes_behind before more maxdata row
  fewer_for = by_case (is_for l now.about.phase) refl
    where
      by_case : (b : Bool) → is_for l now.about.phase ≡ b → cond b (up_writes flow 0 maxdata (length now.held)) 0
          ≤ writes_behind before more maxdata row
      by_case false e = omega arith
      by_case true e =
          let same : length now.held ≡ length was.old.held = ap length (was.held e) in
          let pieces = ap (up_writes flow 0 maxdata) same in
          let fewer = fewer_writes more maxdata (length was.old.held) before flow growth in
          let at_row = ap (writes_behind before more maxdata) was.is in
          omega (arith, pieces, fewer, at_row)

within : (b : Bool) (n : ℕ) → cond b n 0 ≤ n
within true n = omega arith
within false n = omega arith

-- What tables behind packets kept of those before, with so much credit more at most.
pub record Behind (credit : ℕ → ℕ) (old new : Tables) : Type 0 where
  pub stays : AllStay credit (state_of old) (state_of new)
  pub held : (c : ℕ) → StaysHeld (at c old.clients.entries) (at c new.clients.entries)

module _ {link : ℕ} {packets : List Came} {ids : List ℕ} {old new : Tables} (reserved : IsReserved link packets ids old)
    (h : Behind (granted (packets_of packets)) old new) where
  abbrev credit : ℕ → ℕ
  credit = granted (packets_of packets)

  module _ (l : ℕ) (there : IsAmong l ids) (now : Stream) (is : at l new.streams.streams ≡ Some now) where
    was : StaysAs l (credit l) (state_of old) (state_of new) now
    was = h.stays l now is

    on : now.link ≡ link
    on = was.link
        ∙ on_link link was.old
        (ap (λ (row : Option Stream). is_some (of_link link row)) (sym was.is) ∙ reserved.named.live l there)

    maxdata_was : maxdata_of now.link new.devices ≡ maxdata_of link old.devices
    maxdata_was = was.maxdata ∙ ap (λ (k : ℕ). maxdata_of k old.devices) on

    client_was : (client : SeenClient) → at now.client new.clients.entries ≡ Some client
        → WasHeld l (at now.client old.clients.entries) client
    client_was client here =
        was_held l (at now.client old.clients.entries) client (was.owner (client_row client) (ap (option_map client_row) here))
        (subst (StaysHeld (at now.client old.clients.entries)) here (h.held now.client))

    growth : IsWithin (credit l) was.old.part.flow now.part.flow
    growth = record { kind = was.credit; most = was.most }

    cut_was : IsCutBehind was.old.part.flow (credit l) (maxdata_of link old.devices) (at now.client old.clients.entries)
    cut_was =
        subst (λ (c : ℕ). IsCutBehind was.old.part.flow (credit l) (maxdata_of link old.devices)
        (at c old.clients.entries)) (sym was.client)
        (subst (λ (row : Option Stream). IsCutAt (credit l) (maxdata_of link old.devices) row old.clients.entries)
        was.is (reserved.cut l there))

    cut_now : (row : Option SeenClient) → at now.client new.clients.entries ≡ row
        → IsCutIn l now.part.flow (maxdata_of now.link new.devices) row
    cut_now None here = tt
    cut_now (Some client) here = λ has.
        subst (λ (n : ℕ). IsCut now.part.flow 0 n client) (sym maxdata_was)
        (ready_for now.part.flow was.old.part.flow (credit l) (maxdata_of link old.devices) growth (client_was client here) cut_was has)

    fewer_now : (row : Option SeenClient) → at now.client new.clients.entries ≡ row
        → writes_for l now.part.flow (maxdata_of now.link new.devices) row
        ≤ writes_behind was.old.part.flow (credit l) (maxdata_of link old.devices) (at now.client old.clients.entries)
    fewer_now None here = omega arith
    fewer_now (Some client) here =
        let same = ap (λ (n : ℕ). writes_for l now.part.flow n (Some client)) maxdata_was in
        let fewer = fewer_for now.part.flow was.old.part.flow (credit l) (maxdata_of link old.devices) growth (client_was client here) in
        omega (arith, same, fewer)

    at_was : writes_behind was.old.part.flow (credit l) (maxdata_of link old.devices) (at now.client old.clients.entries)
        ≡ writes_at (credit l) (maxdata_of link old.devices) (at l old.streams.streams) old.clients.entries
    at_was =
        ap (λ (c : ℕ). writes_behind was.old.part.flow (credit l) (maxdata_of link old.devices) (at c old.clients.entries)) was.client
        ∙ ap (λ (row : Option Stream). writes_at (credit l) (maxdata_of link old.devices) row old.clients.entries) (sym was.is)

    one_fewer : writes_up l new ≤ writes_at (credit l) (maxdata_of link old.devices) (at l old.streams.streams) old.clients.entries
    one_fewer =
        let at_now = ap (λ (row : Option Stream). writes_in l row new) is in
        let fewer = fewer_now (at now.client new.clients.entries) refl in
        omega (arith, at_now, fewer, at_was)

    none_on : (k : ℕ) → k ≢ link → writes_if_on k l (Some now) new ≡ 0
    none_on k other = ap (λ (b : Bool). cond b (writes_up l new) 0) (ne_eqb now.link k (λ e. other (sym e ∙ on)))

  cut_up : (l : ℕ) → IsAmong l ids → IsCutOf l (at l new.streams.streams) new
  cut_up l there = by_row (at l new.streams.streams) refl
    where
      by_row : (row : Option Stream) → at l new.streams.streams ≡ row → IsCutOf l row new
      by_row None is = tt
      by_row (Some now) is = cut_now l there now is (at now.client new.clients.entries) refl

  fewer_on : (l : ℕ) → IsAmong l ids → writes_if_on link l (at l new.streams.streams) new
      ≤ writes_at (credit l) (maxdata_of link old.devices) (at l old.streams.streams) old.clients.entries
  fewer_on l there = by_row (at l new.streams.streams) refl
    where
      by_row : (row : Option Stream) → at l new.streams.streams ≡ row
          → writes_if_on link l row new ≤ writes_at (credit l) (maxdata_of link old.devices) (at l old.streams.streams) old.clients.entries
      by_row None is = omega arith
      by_row (Some now) is = omega (arith, within (eqb now.link link) (writes_up l new), one_fewer l there now is)

  none_if_on : (k l : ℕ) → k ≢ link → IsAmong l ids → writes_if_on k l (at l new.streams.streams) new ≡ 0
  none_if_on k l other there = by_row (at l new.streams.streams) refl
    where
      by_row : (row : Option Stream) → at l new.streams.streams ≡ row → writes_if_on k l row new ≡ 0
      by_row None is = refl
      by_row (Some now) is = none_on l there now is k other

  all_fewer : (rest : List ℕ) → ((l : ℕ) → IsAmong l rest → IsAmong l ids)
      → writes_on link rest new ≤ all_writes credit (maxdata_of link old.devices) rest old.streams.streams old.clients.entries
  all_fewer [] among = omega arith
  all_fewer (l ∷ rest) among =
      let first = fewer_on l (among l (inl refl)) in
      let others = all_fewer rest (λ k there. among k (inr there)) in
      omega (arith, first, others)

  none_others : (k : ℕ) → k ≢ link → (rest : List ℕ) → ((l : ℕ) → IsAmong l rest → IsAmong l ids) → writes_on k rest new ≡ 0
  none_others k other [] among = refl
  none_others k other (l ∷ rest) among =
      let first = none_if_on k l other (among l (inl refl)) in
      let others = none_others k other rest (λ q there. among q (inr there)) in
      omega (arith, first, others)

  -- what the up rule needs for the streams of these ids
  pub ready_behind : LinkRoom
      (all_writes credit (maxdata_of link old.devices) ids old.streams.streams old.clients.entries)
      (at link new.links.entries)
      → ((k : ℕ) → LinkRoom 0 (at k new.links.entries)) → IsReadyEach ids new
  ready_behind room rooms = record { cut = cut_up; room = λ k. by_place k (cases_eq k link) }
    where
      by_place : (k : ℕ) → (k ≡ link) ⊎ (k ≢ link) → LinkRoom (writes_on k ids new) (at k new.links.entries)
      by_place k (inl is) =
          subst (λ (q : ℕ). LinkRoom (writes_on q ids new) (at q new.links.entries)) (sym is)
          (more_room (all_writes credit (maxdata_of link old.devices) ids old.streams.streams old.clients.entries) (writes_on link ids new)
          (at link new.links.entries) (all_fewer ids (λ l there. there)) room)
      by_place k (inr other) =
          subst (λ (n : ℕ). LinkRoom n (at k new.links.entries)) (sym (none_others k other ids (λ l there. there))) (rooms k)
