-- The up rule for several streams: what one leaves to those behind it.
use Rattle.std.proofs.Common.{ℕ, ◌+◌, ◌≡◌, ◌≢◌, ◌≤◌, List, [], ◌∷◌, Bool, true, false, Option, Some, None, refl, sym, ◌∙◌, ap, subst, cond}
use Rattle.std.proofs.Common.{arith, ◌⊎◌, inl, inr}
use Rattle.std.specs.Prelude.{nat_eq}
use Rattle.std.proofs.lemmas.Bool.{ne_eqb, eq-eqb, cases_eq}
use Rattle.std.specs.Ordering.{nat_cmp}
use Rattle.std.specs.List.Sorted.{IsStrictlySortedBy}
use Rattle.adb_outside.specs.Tables.{at}
use Rattle.adb_wire.specs.declared.headers.TheConstants.{MAX_PAYLOAD}
use Rattle.adb_stream.specs.declared.row.Stream.{Stream}
use Rattle.adb_history.specs.Rows.{State}
use Rattle.adb_history.specs.Links.{maxdata_of}
use Rattle.adb_history.specs.Flow.{up}
use Rattle.adb_hub_tables.specs.declared.tables.Tables.{Tables}
use Rattle.adb_hub_tables.specs.Tables.{state_of}
use Rattle.adb_hub_tables.specs.Tracked.{IsAmong, IsTracked}
use Rattle.adb_hub_tables.specs.Places.{LinkRoom, ClientRoom, IsCounted, StaysOwned, StaysRead}
use Rattle.adb_hub_rules.specs.Handing.{UsesOf, HasRoom}
use Rattle.adb_hub_rules.specs.Up.{IsSized, IsReadyUp, StaysReady, writes_up}
use Rattle.adb_hub_rules.specs.Sweep.{up_each, writes_if_on, writes_on, IsReadyEach, UsesEach}
use Rattle.adb_hub_rules.proofs.RisingIds.{above, rises_behind}
use Rattle.adb_hub_tables.proofs.Staying.{owned_then, read_then}
use Rattle.adb_hub_tables.proofs.Using.{more_room}

-- What the up rule for one id leaves.
pub record LeavesOne (id : ℕ) (old new : Tables) : Type 0 where
  pub state : state_of new ≡ (up id (state_of old)).state
  pub uses : (c : ℕ) → UsesOf (at id old.streams.streams) (writes_up id old) c 0 old new
  pub others : (l : ℕ) → l ≢ id → StaysReady l old new
  pub devices : new.devices ≡ old.devices

-- What it leaves of all but the links.
record LeavesRest (old new : Tables) : Type 0 where
  pub clients : (n c : ℕ) → ClientRoom n (at c old.clients.entries) → ClientRoom n (at c new.clients.entries)
  pub counted : IsCounted old → IsCounted new
  pub tracked : IsTracked old → IsTracked new
  pub owned : (l : ℕ) → StaysOwned (at l old.streams.streams) (at l new.streams.streams)
  pub read : (k : ℕ) → StaysRead (at k old.links.entries) (at k new.links.entries)

no_more : (n : ℕ) → n + 0 ≡ n
no_more n = omega arith

leaves_rest : (row : Option Stream) (k : ℕ) (old new : Tables) → ((c : ℕ) → UsesOf row k c 0 old new) → LeavesRest old new
leaves_rest None k old new uses = record {
  clients = λ n c room. (uses c 0).of_client n (subst (λ (q : ℕ). ClientRoom q (at c old.clients.entries)) (sym (no_more n)) room);
  counted = (uses 0 0).counted;
  tracked = (uses 0 0).tracked;
  owned = (uses 0 0).owned;
  read = (uses 0 0).read;
}
leaves_rest (Some stream) k old new uses = record {
  clients = λ n c room. (uses c).of_client n (subst (λ (q : ℕ). ClientRoom q (at c old.clients.entries)) (sym (no_more n)) room);
  counted = (uses 0).counted;
  tracked = (uses 0).tracked;
  owned = (uses 0).owned;
  read = (uses 0).read;
}

-- ids behind the first are others
apart : (l q : ℕ) (ids : List ℕ) → IsStrictlySortedBy nat_cmp (l ∷ ids) → IsAmong q ids → q ≢ l
apart l q ids rises among e = let more = above l q ids rises among in omega (arith, more, e)

module _ (id : ℕ) (old new : Tables) (h : LeavesOne id old new) where
  -- the places of one link
  room_left : (link m : ℕ) (row : Option Stream) → UsesOf row (writes_up id old) 0 0 old new
      → LinkRoom (m + writes_if_on link id row old) (at link old.links.entries) → LinkRoom m (at link new.links.entries)
  room_left link m None uses room = (uses link).on_link m room
  room_left link m (Some stream) uses room = by_link (cases_eq stream.link link)
    where
      by_link : ◌⊎◌ (stream.link ≡ link) (stream.link ≢ link) → LinkRoom m (at link new.links.entries)
      by_link (inl is) =
          let here = subst (λ b. LinkRoom (m + cond b (writes_up id old) 0) (at link old.links.entries))
          (eq-eqb stream.link link is) room in
          subst (λ (k : ℕ). LinkRoom m (at k new.links.entries)) is
          (uses.on_link m (subst (λ (k : ℕ). LinkRoom (m + writes_up id old) (at k old.links.entries)) (sym is) here))
      by_link (inr other) =
          let here = subst (λ b. LinkRoom (m + cond b (writes_up id old) 0) (at link old.links.entries))
          (ne_eqb stream.link link other) room in
          uses.on_links m link (λ e. other (sym e)) (subst (λ (k : ℕ). LinkRoom k (at link old.links.entries)) (no_more m) here)

  rest : LeavesRest old new
  rest = leaves_rest (at id old.streams.streams) (writes_up id old) old new h.uses

  -- another stream makes no more writes than it would have
  fewer_if : (link l : ℕ) (was now : Option Stream) → StaysOwned was now → writes_up l new ≤ writes_up l old
      → writes_if_on link l now new ≤ writes_if_on link l was old
  fewer_if link l was None owned fewer = omega arith
  fewer_if link l None (Some stream) owned fewer = absurd owned
  fewer_if link l (Some was) (Some stream) (client, same) fewer =
      subst (λ (k : ℕ). writes_if_on link l (Some stream) new ≤ cond (nat_eq k link) (writes_up l old) 0) same
      (by_test (nat_eq stream.link link))
    where
      by_test : (b : Bool) → cond b (writes_up l new) 0 ≤ cond b (writes_up l old) 0
      by_test true = fewer
      by_test false = omega arith

  fewer_on : (link : ℕ) (ids : List ℕ) → ((l : ℕ) → IsAmong l ids → l ≢ id) → writes_on link ids new ≤ writes_on link ids old
  fewer_on link [] others = omega arith
  fewer_on link (l ∷ ids) others =
      let first = fewer_if link l (at l old.streams.streams) (at l new.streams.streams) (rest.owned l)
      (h.others l (others l (inl refl))).writes in
      omega (arith, first, fewer_on link ids (λ q among. others q (inr among)))

  -- the places that are left to those behind it
  pub rooms_left : (n link : ℕ) (ids : List ℕ) → IsStrictlySortedBy nat_cmp (id ∷ ids)
      → LinkRoom (n + writes_on link (id ∷ ids) old) (at link old.links.entries)
      → LinkRoom (n + writes_on link ids new) (at link new.links.entries)
  rooms_left n link ids rises room =
      let fewer = fewer_on link ids (λ q among. apart id q ids rises among) in
      room_left link (n + writes_on link ids new) (at id old.streams.streams) (h.uses 0)
      (more_room (n + writes_on link (id ∷ ids) old) _ (at link old.links.entries) (omega (arith, fewer)) room)

  pub ready_rest : (ids : List ℕ) → IsStrictlySortedBy nat_cmp (id ∷ ids) → IsReadyEach (id ∷ ids) old → IsReadyEach ids new
  ready_rest ids rises ready = record {
    cut = λ l among. (h.others l (apart id l ids rises among)).cut (ready.cut l (inr among));
    room = λ link. more_room (0 + writes_on link ids new) _ (at link new.links.entries) (omega arith)
        (rooms_left 0 link ids rises
        (more_room (writes_on link (id ∷ ids) old) _ (at link old.links.entries) (omega arith)
        (ready.room link)));
  }

  pub sized_still : IsSized old → IsSized new
  sized_still sized = λ link. subst (λ devices. maxdata_of link devices ≤ MAX_PAYLOAD) (sym h.devices) (sized link)

-- the first of several is ready
pub ready_first : (id : ℕ) (ids : List ℕ) (t : Tables) → IsReadyEach (id ∷ ids) t → IsReadyUp id t
ready_first id ids t ready = record {
  cut = ready.cut id (inl refl);
  room = at_row (at id t.streams.streams)
      (λ link. more_room (writes_on link (id ∷ ids) t) _ (at link t.links.entries) (omega arith) (ready.room link));
}
  where
    at_row : (row : Option Stream) → ((link : ℕ) → LinkRoom (writes_if_on link id row t) (at link t.links.entries))
        → HasRoom (writes_up id t) row t
    at_row None room = tt
    at_row (Some stream) room =
        subst (λ b. LinkRoom (cond b (writes_up id t) 0) (at stream.link t.links.entries))
        (eq-eqb stream.link stream.link refl) (room stream.link)

-- Of these streams some went up, and with the rest it is as it was with all.
pub record Swept (ids rest : List ℕ) (old now : Tables) : Type 0 where
  pub rises : IsStrictlySortedBy nat_cmp rest
  pub state : (up_each rest (state_of now)).state ≡ (up_each ids (state_of old)).state
  pub ready : IsReadyEach rest now
  pub sized : IsSized now
  pub devices : now.devices ≡ old.devices
  pub links : (n link : ℕ) → LinkRoom (n + writes_on link ids old) (at link old.links.entries)
      → LinkRoom (n + writes_on link rest now) (at link now.links.entries)
  pub clients : (n c : ℕ) → ClientRoom n (at c old.clients.entries) → ClientRoom n (at c now.clients.entries)
  pub counted : IsCounted old → IsCounted now
  pub tracked : IsTracked old → IsTracked now
  pub owned : (l : ℕ) → StaysOwned (at l old.streams.streams) (at l now.streams.streams)
  pub read : (k : ℕ) → StaysRead (at k old.links.entries) (at k now.links.entries)

pub swept_one : (ids behind : List ℕ) (id : ℕ) {old now new : Tables} → Swept ids (id ∷ behind) old now
    → LeavesOne id now new → Swept ids behind old new
swept_one ids behind id {old} {now} {new} h one =
    let others = leaves_rest (at id now.streams.streams) (writes_up id now) now new one.uses in
    record {
      rises = rises_behind id behind h.rises;
      state = ap (λ (s : State). (up_each behind s).state) one.state ∙ h.state;
      ready = ready_rest id now new one behind h.rises h.ready;
      sized = sized_still id now new one h.sized;
      devices = one.devices ∙ h.devices;
      links = λ n link room. rooms_left id now new one n link behind h.rises (h.links n link room);
      clients = λ n c room. others.clients n c (h.clients n c room);
      counted = λ counted. others.counted (h.counted counted);
      tracked = λ tracked. others.tracked (h.tracked tracked);
      owned = λ l. owned_then (at l old.streams.streams) (at l now.streams.streams) (at l new.streams.streams) (h.owned l) (others.owned l);
      read = λ k. read_then (at k old.links.entries) (at k now.links.entries) (at k new.links.entries) (h.read k) (others.read k);
    }

pub swept_uses : (ids : List ℕ) (old new : Tables) → Swept ids [] old new → UsesEach ids old new
swept_uses ids old new h = record {
  links = λ n link room. subst (λ (k : ℕ). LinkRoom k (at link new.links.entries)) (no_more n) (h.links n link room);
  clients = h.clients;
  counted = h.counted;
  tracked = h.tracked;
  owned = h.owned;
  read = h.read;
}
