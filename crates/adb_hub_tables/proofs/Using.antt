-- What changes of streams leave of the places.
use Rattle.std.proofs.Common.{ℕ, ◌+◌, ◌≡◌, ◌≢◌, ◌≤◌, List, Option, Some, None, refl, sym, ◌∙◌, ap, subst, [], ◌∷◌, Bool, true, false, cond}
use Rattle.std.proofs.Common.{eqb, arith, ◌⊎◌, inl, inr}
use Rattle.std.specs.Prelude.{option_map, option_and_then}
use Rattle.std.proofs.lemmas.Bool.{ne_eqb, eq-eqb, cases_eq}
use Rattle.std.specs.BTreeMap.{is_at}
use Rattle.std.specs.Ordering.{nat_cmp, is_eq}
use Rattle.std.specs.Set.{remove_key}
use Rattle.std.proofs.lemmas.Bool.Decides.{nat_tests}
use Rattle.adb_outside.specs.Tables.{at, without, Puts}
use Rattle.adb_client.specs.Client.{SeenClient}
use Rattle.adb_client.specs.declared.phase.Phase.{Phase}
use Rattle.adb_client.specs.declared.phase.Phase.TheVariants.{Asking, Opening, Streaming, Binding, Tracking, Closing, Gone}
use Rattle.adb_stream.specs.Stream.{with_part}
use Rattle.adb_stream.specs.Streams.{put_part_at, found, IsSound, with_part_in}
use Rattle.adb_stream.specs.declared.row.Part.{Part}
use Rattle.adb_stream.specs.declared.row.Stream.{Stream}
use Rattle.adb_history.specs.Rows.{none_kept, with_stream_part}
use Rattle.adb_hub_tables.specs.declared.ports.Port.{Port}
use Rattle.adb_hub_tables.specs.declared.tables.Tables.{Tables}
use Rattle.adb_hub_tables.specs.Tracked.{IsTracked, IsAmong, IsListedIn, IsListedAt}
use Rattle.adb_hub_tables.specs.Places.{LinkRoom, ClientRoom, is_on, IsCountedAt, IsCounted, StaysOwned, StaysHeld, StaysRead, IsProvided}
use Rattle.adb_hub_tables.specs.Places.{Uses, freed}
use Rattle.adb_hub_tables.proofs.StreamRows.{part_rows, part_counts, gone_rows, gone_counts}
use Rattle.adb_hub_tables.proofs.Staying.{stays, owned_then, held_stays, held_then, read_stays, read_then}

-- what a rule leaves that takes no places at all
pub record Spares (old new : Tables) : Type 0 where
  pub links : (n k : ℕ) → LinkRoom n (at k old.links.entries) → LinkRoom n (at k new.links.entries)
  pub clients : (n c : ℕ) → ClientRoom n (at c old.clients.entries) → ClientRoom n (at c new.clients.entries)
  pub counted : IsCounted old → IsCounted new
  pub tracked : IsTracked old → IsTracked new
  pub owned : (l : ℕ) → StaysOwned (at l old.streams.streams) (at l new.streams.streams)
  pub held : (c : ℕ) → StaysHeld (at c old.clients.entries) (at c new.clients.entries)
  pub read : (k : ℕ) → StaysRead (at k old.links.entries) (at k new.links.entries)

no_more : (n : ℕ) → n + 0 ≡ n
no_more n = omega arith

pub spares_uses : (old new : Tables) → Spares old new → (t c : ℕ) → Uses t 0 c 0 old new
spares_uses old new h t c = record {
  on_link = λ n room. h.links n t (subst (λ (q : ℕ). LinkRoom q (at t old.links.entries)) (no_more n) room);
  on_links = λ n k _. h.links n k;
  of_client = λ n room. h.clients n c (subst (λ (q : ℕ). ClientRoom q (at c old.clients.entries)) (no_more n) room);
  of_clients = λ n k _. h.clients n k;
  counted = h.counted;
  tracked = h.tracked;
  owned = h.owned;
  held = h.held;
  read = h.read;
}

-- of a row that is not kept nothing is left
none_left : (row : Option Stream) → option_and_then (none_kept {A = Stream}) row ≡ None
none_left None = refl
none_left (Some stream) = refl

-- a row that is kept or not
abbrev gone_if : Bool → Option Stream → Option Stream
gone_if b row = cond b (option_and_then (none_kept {A = Stream}) row) row

-- a row put in another's place keeps its owners
owned_part : (streams : List (ℕ × Stream)) (id : ℕ) (stream : Stream) → at id streams ≡ Some stream → (part : Part) (l : ℕ)
    → StaysOwned (at l streams) (at l (put_part_at id part (found stream.link id streams) streams))
owned_part streams id stream here part l = by_place (cases_eq id l)
  where
    now : at l (put_part_at id part (found stream.link id streams) streams)
        ≡ cond (eqb id l) (option_and_then (with_stream_part part) (at l streams)) (at l streams)
    now = λ i. part_rows streams id stream here part i l

    by_place : ◌⊎◌ (id ≡ l) (id ≢ l) → StaysOwned (at l streams) (at l (put_part_at id part (found stream.link id streams) streams))
    by_place (inl is) =
        let there : at l streams ≡ Some stream = ap (λ k. at k streams) (sym is) ∙ here in
        let then : at l (put_part_at id part (found stream.link id streams) streams) ≡ Some (with_part part stream) =
        now ∙ (ap (λ b. cond b (option_and_then (with_stream_part part) (at l streams)) (at l streams)) (eq-eqb id l is)
        ∙ ap (option_and_then (with_stream_part part)) there) in
        subst (λ row. StaysOwned row (at l (put_part_at id part (found stream.link id streams) streams))) (sym there)
        (subst (StaysOwned (Some stream)) (sym then) (refl, refl))
    by_place (inr other) =
        subst (StaysOwned (at l streams))
        (sym (now ∙ ap (λ b. cond b (option_and_then (with_stream_part part) (at l streams)) (at l streams)) (ne_eqb id l other)))
        (stays (at l streams))

pub part_spares : (old : Tables) (id : ℕ) (stream : Stream) → at id old.streams.streams ≡ Some stream → IsSound old.streams → (part : Part)
    → Spares old (record old { streams = with_part_in stream.link id old.streams part })
part_spares old id stream here sound part = record {
  links = λ n k room. room;
  clients = λ n c room. room;
  counted = λ counted k. fewer k (at k old.links.entries) (counted k);
  tracked = λ tracked. tracked;
  owned = owned_part old.streams.streams id stream here part;
  held = λ c. held_stays (at c old.clients.entries);
  read = λ k. read_stays (at k old.links.entries);
}
  where
    fewer : (k : ℕ) (port : Option Port) → IsCountedAt k old.streams.streams port
        → IsCountedAt k (put_part_at id part (found stream.link id old.streams.streams) old.streams.streams) port
    fewer k None counted = tt
    fewer k (Some port) counted = subst (λ n. n ≤ port.kept)
        (sym (part_counts old.streams.streams id stream here sound.rises k part)) counted

-- a stream went, and a place on its link is free
pub record Frees (link id : ℕ) (old new : Tables) : Type 0 where
  pub clients : new.clients ≡ old.clients
  pub trackers : new.trackers.keys ≡ old.trackers.keys
  pub streams : new.streams ≡ record old.streams { streams = without id old.streams.streams }
  pub here : at link new.links.entries ≡ option_map freed (at link old.links.entries)
  pub others : (k : ℕ) → k ≢ link → at k new.links.entries ≡ at k old.links.entries

freed_room : (n : ℕ) (port : Option Port) → LinkRoom n port → LinkRoom n (option_map freed port)
freed_room n None room = tt
freed_room n (Some port) room = omega (arith, room)

freed_read : (port : Option Port) → StaysRead port (option_map freed port)
freed_read None = tt
freed_read (Some port) = refl

-- where a stream stood on a link, its place is free now
freed_place : (link : ℕ) (streams : List (ℕ × Stream)) (id : ℕ) (stream : Stream) → at id streams ≡ Some stream
    → stream.link ≡ link → (port : Option Port)
    → IsCountedAt link streams port → (n : ℕ) → LinkRoom n port → LinkRoom (n + 1) (option_map freed port)
freed_place link streams id stream here on None counted n room = tt
freed_place link streams id stream here on (Some port) counted n room =
    let one : is_on link stream ≡ 1 = ap (λ b. cond b 1 0) (eq-eqb stream.link link on) in
    omega (arith, counted, room, one, gone_counts streams id stream here link)

freed_count : (link : ℕ) (streams : List (ℕ × Stream)) (id : ℕ) (stream : Stream) → at id streams ≡ Some stream
    → stream.link ≡ link → (port : Option Port)
    → IsCountedAt link streams port → IsCountedAt link (without id streams) (option_map freed port)
freed_count link streams id stream here on None counted = tt
freed_count link streams id stream here on (Some port) counted =
    let one : is_on link stream ≡ 1 = ap (λ b. cond b 1 0) (eq-eqb stream.link link on) in
    omega (arith, counted, one, gone_counts streams id stream here link)

other_count : (k : ℕ) (streams : List (ℕ × Stream)) (id : ℕ) (stream : Stream) → at id streams ≡ Some stream → (port : Option Port)
    → IsCountedAt k streams port → IsCountedAt k (without id streams) port
other_count k streams id stream here None counted = tt
other_count k streams id stream here (Some port) counted = omega (arith, counted, gone_counts streams id stream here k)

module _ (old new : Tables) (id : ℕ) (stream : Stream) (here : at id old.streams.streams ≡ Some stream)
    (h : Frees stream.link id old new) where
  pub gone_place : IsCounted old → (n : ℕ) → LinkRoom n (at stream.link old.links.entries)
      → LinkRoom (n + 1) (at stream.link new.links.entries)
  gone_place counted n room =
      subst (LinkRoom (n + 1)) (sym h.here)
      (freed_place stream.link old.streams.streams id stream here refl (at stream.link old.links.entries) (counted stream.link) n room)

  pub gone_spares : IsSound old.streams → Spares old new
  gone_spares sound = record {
    links = λ n k room. keeps n k (cases_eq k stream.link) room;
    clients = λ n c room. subst (λ (table : _). ClientRoom n (at c table.entries)) (sym h.clients) room;
    counted = λ counted k. subst (λ (table : _). IsCountedAt k table.streams (at k new.links.entries)) (sym h.streams)
        (counts k (cases_eq k stream.link) (counted k));
    tracked = λ tracked c. subst (λ (table : _). IsListedAt c new.trackers.keys (at c table.entries)) (sym h.clients)
        (subst (λ keys. IsListedAt c keys (at c old.clients.entries)) (sym h.trackers) (tracked c));
    owned = λ l. subst (λ (table : _). StaysOwned (at l old.streams.streams) (at l table.streams)) (sym h.streams)
        (owned l (cases_eq id l));
    held = λ c. subst (λ (table : _). StaysHeld (at c old.clients.entries) (at c table.entries)) (sym h.clients)
        (held_stays (at c old.clients.entries));
    read = λ k. reads k (cases_eq k stream.link);
  }
    where
      keeps : (n k : ℕ) → ◌⊎◌ (k ≡ stream.link) (k ≢ stream.link) → LinkRoom n (at k old.links.entries)
          → LinkRoom n (at k new.links.entries)
      keeps n k (inl is) room =
          let at_link = subst (λ (q : ℕ). LinkRoom n (at q old.links.entries)) is room in
          subst (λ (q : ℕ). LinkRoom n (at q new.links.entries)) (sym is)
          (subst (LinkRoom n) (sym h.here) (freed_room n (at stream.link old.links.entries) at_link))
      keeps n k (inr other) room = subst (LinkRoom n) (sym (h.others k other)) room

      reads : (k : ℕ) → ◌⊎◌ (k ≡ stream.link) (k ≢ stream.link) → StaysRead (at k old.links.entries) (at k new.links.entries)
      reads k (inl is) =
          subst (λ (q : ℕ). StaysRead (at q old.links.entries) (at q new.links.entries)) (sym is)
          (subst (StaysRead (at stream.link old.links.entries)) (sym h.here) (freed_read (at stream.link old.links.entries)))
      reads k (inr other) = subst (StaysRead (at k old.links.entries)) (sym (h.others k other)) (read_stays (at k old.links.entries))

      counts : (k : ℕ) → ◌⊎◌ (k ≡ stream.link) (k ≢ stream.link) → IsCountedAt k old.streams.streams (at k old.links.entries)
          → IsCountedAt k (without id old.streams.streams) (at k new.links.entries)
      counts k (inl is) counted =
          let at_link = subst (λ (q : ℕ). IsCountedAt q old.streams.streams (at q old.links.entries)) is counted in
          subst (λ (q : ℕ). IsCountedAt q (without id old.streams.streams) (at q new.links.entries)) (sym is)
          (subst (IsCountedAt stream.link (without id old.streams.streams)) (sym h.here)
          (freed_count stream.link old.streams.streams id stream here refl (at stream.link old.links.entries) at_link))
      counts k (inr other) counted =
          subst (IsCountedAt k (without id old.streams.streams)) (sym (h.others k other))
          (other_count k old.streams.streams id stream here (at k old.links.entries) counted)

      owned : (l : ℕ) → ◌⊎◌ (id ≡ l) (id ≢ l) → StaysOwned (at l old.streams.streams) (at l (without id old.streams.streams))
      owned l place = by_row (λ i. gone_rows old.streams.streams id stream here sound.rises i l) place
        where
          by_row : at l (without id old.streams.streams) ≡ gone_if (eqb id l) (at l old.streams.streams)
              → ◌⊎◌ (id ≡ l) (id ≢ l) → StaysOwned (at l old.streams.streams) (at l (without id old.streams.streams))
          by_row now (inl is) =
              let row = at l old.streams.streams in
              subst (StaysOwned row) (sym (now ∙ (ap (λ b. gone_if b row) (eq-eqb id l is) ∙ none_left row))) tt
          by_row now (inr other) =
              let row = at l old.streams.streams in
              subst (StaysOwned row) (sym (now ∙ ap (λ b. gone_if b row) (ne_eqb id l other))) (stays row)

-- ---- one rule after another
pub more_room : (m n : ℕ) (port : Option Port) → n ≤ m → LinkRoom m port → LinkRoom n port
more_room m n None le room = tt
more_room m n (Some port) le room = omega (arith, le, room)

pub more_places : (m n : ℕ) (client : Option SeenClient) → n ≤ m → ClientRoom m client → ClientRoom n client
more_places m n None le room = tt
more_places m n (Some client) le room = omega (arith, le, room)

module _ {link client : ℕ} {old middle new : Tables} where
  -- two rules, with what both take
  pub uses_then : {a b p q : ℕ} → Uses link a client p old middle → Uses link b client q middle new
      → Uses link (a + b) client (p + q) old new
  uses_then {a} {b} {p} {q} h k = record {
    on_link = λ n room. k.on_link n
        (h.on_link (n + b) (more_room (n + (a + b)) (n + b + a) (at link old.links.entries) (omega arith) room));
    on_links = λ n l other room. k.on_links n l other (h.on_links n l other room);
    of_client = λ n room. k.of_client n
        (h.of_client (n + q)
        (more_places (n + (p + q)) (n + q + p) (at client old.clients.entries) (omega arith) room));
    of_clients = λ n c other room. k.of_clients n c other (h.of_clients n c other room);
    counted = λ counted. k.counted (h.counted counted);
    tracked = λ tracked. k.tracked (h.tracked tracked);
    owned = λ l. owned_then (at l old.streams.streams) (at l middle.streams.streams) (at l new.streams.streams) (h.owned l) (k.owned l);
    held = λ c. held_then (at c old.clients.entries) (at c middle.clients.entries) (at c new.clients.entries) (h.held c) (k.held c);
    read = λ l. read_then (at l old.links.entries) (at l middle.links.entries) (at l new.links.entries) (h.read l) (k.read l);
  }

-- ---- a client that goes
among_without : (k c : ℕ) (keys : List ℕ) → k ≢ c → IsAmong c keys → IsAmong c (remove_key (is_at (nat_cmp k)) keys)
among_without k c [] other among = absurd among
among_without k c (q ∷ keys) other among = by_test (is_eq (nat_cmp k q)) refl (among_without k c keys other) among
  where
    by_test : (b : Bool) → is_eq (nat_cmp k q) ≡ b
        → (IsAmong c keys → IsAmong c (remove_key (is_at (nat_cmp k)) keys)) → ◌⊎◌ (q ≡ c) (IsAmong c keys)
        → IsAmong c (cond b keys (q ∷ remove_key (is_at (nat_cmp k)) keys))
    by_test true same before (inl is) = absurd (other (grind (arith, nat_tests)))
    by_test true same before (inr later) = later
    by_test false apart before (inl is) = inl is
    by_test false apart before (inr later) = inr (before later)

listed_in_without : (k c : ℕ) (keys : List ℕ) → k ≢ c → (phase : Phase) → IsListedIn phase c keys
    → IsListedIn phase c (remove_key (is_at (nat_cmp k)) keys)
listed_in_without k c keys other Asking listed = tt
listed_in_without k c keys other (Opening l) listed = tt
listed_in_without k c keys other (Streaming l) listed = tt
listed_in_without k c keys other Binding listed = tt
listed_in_without k c keys other Tracking listed = among_without k c keys other listed
listed_in_without k c keys other Closing listed = tt
listed_in_without k c keys other Gone listed = tt

listed_without : (k c : ℕ) (keys : List ℕ) → k ≢ c → (row : Option SeenClient) → IsListedAt c keys row
    → IsListedAt c (remove_key (is_at (nat_cmp k)) keys) row
listed_without k c keys other None listed = tt
listed_without k c keys other (Some client) listed = listed_in_without k c keys other client.about.phase listed

-- Of a client nothing is kept.
pub record LosesClient (client : ℕ) (old new : Tables) : Type 0 where
  pub row : Puts client None old.clients.entries new.clients.entries
  pub trackers : new.trackers.keys ≡ remove_key (is_at (nat_cmp client)) old.trackers.keys
  pub links : new.links ≡ old.links
  pub streams : new.streams ≡ old.streams

pub lost_spares : (client : ℕ) (old new : Tables) → LosesClient client old new → Spares old new
lost_spares client old new h = record {
  links = λ n k room. subst (λ (table : _). LinkRoom n (at k table.entries)) (sym h.links) room;
  clients = λ n c room. keeps n c (cases_eq c client) room;
  counted = λ counted k. subst (λ (table : _). IsCountedAt k new.streams.streams (at k table.entries)) (sym h.links)
      (subst (λ (table : _). IsCountedAt k table.streams (at k old.links.entries)) (sym h.streams) (counted k));
  tracked = λ tracked c. lists c (cases_eq c client) (tracked c);
  owned = λ l. subst (λ (table : _). StaysOwned (at l old.streams.streams) (at l table.streams)) (sym h.streams)
      (stays (at l old.streams.streams));
  held = λ c. holds c (cases_eq c client);
  read = λ k. subst (λ (table : _). StaysRead (at k old.links.entries) (at k table.entries)) (sym h.links)
      (read_stays (at k old.links.entries));
}
  where
    keeps : (n c : ℕ) → ◌⊎◌ (c ≡ client) (c ≢ client) → ClientRoom n (at c old.clients.entries) → ClientRoom n (at c new.clients.entries)
    keeps n c (inl is) room = subst (ClientRoom n) (sym (ap (λ q. at q new.clients.entries) is ∙ h.row.here)) tt
    keeps n c (inr other) room = subst (ClientRoom n) (sym (h.row.others c other)) room

    holds : (c : ℕ) → ◌⊎◌ (c ≡ client) (c ≢ client) → StaysHeld (at c old.clients.entries) (at c new.clients.entries)
    holds c (inl is) = subst (StaysHeld (at c old.clients.entries)) (sym (ap (λ q. at q new.clients.entries) is ∙ h.row.here)) tt
    holds c (inr other) = subst (StaysHeld (at c old.clients.entries)) (sym (h.row.others c other)) (held_stays (at c old.clients.entries))

    lists : (c : ℕ) → ◌⊎◌ (c ≡ client) (c ≢ client) → IsListedAt c old.trackers.keys (at c old.clients.entries)
        → IsListedAt c new.trackers.keys (at c new.clients.entries)
    lists c (inl is) listed = subst (IsListedAt c new.trackers.keys) (sym (ap (λ q. at q new.clients.entries) is ∙ h.row.here)) tt
    lists c (inr other) listed =
        subst (IsListedAt c new.trackers.keys) (sym (h.row.others c other))
        (subst (λ keys. IsListedAt c keys (at c old.clients.entries)) (sym h.trackers)
        (listed_without client c old.trackers.keys (λ e. other (sym e)) (at c old.clients.entries) listed))

-- Of the tables those of the clients alone changed, and these in no place and in no phase that counts.
pub record ChangesClients (old new : Tables) : Type 0 where
  pub links : new.links ≡ old.links
  pub streams : new.streams ≡ old.streams
  pub trackers : new.trackers ≡ old.trackers
  pub room : (n c : ℕ) → ClientRoom n (at c old.clients.entries) → ClientRoom n (at c new.clients.entries)
  pub listed : (c : ℕ) (trackers : List ℕ) → IsListedAt c trackers (at c old.clients.entries)
      → IsListedAt c trackers (at c new.clients.entries)
  pub held : (c : ℕ) → StaysHeld (at c old.clients.entries) (at c new.clients.entries)

pub clients_spares : (old new : Tables) → ChangesClients old new → Spares old new
clients_spares old new h = record {
  links = λ n k room. subst (λ (table : _). LinkRoom n (at k table.entries)) (sym h.links) room;
  clients = h.room;
  counted = λ counted k. subst (λ (table : _). IsCountedAt k new.streams.streams (at k table.entries)) (sym h.links)
      (subst (λ (table : _). IsCountedAt k table.streams (at k old.links.entries)) (sym h.streams) (counted k));
  tracked = λ tracked c. subst (λ (table : _). IsListedAt c table.keys (at c new.clients.entries)) (sym h.trackers)
      (h.listed c old.trackers.keys (tracked c));
  owned = λ l. subst (λ (table : _). StaysOwned (at l old.streams.streams) (at l table.streams)) (sym h.streams)
      (stays (at l old.streams.streams));
  held = h.held;
  read = λ k. subst (λ (table : _). StaysRead (at k old.links.entries) (at k table.entries)) (sym h.links)
      (read_stays (at k old.links.entries));
}

-- a place that became free is taken again
pub uses_freed : (link client : ℕ) (old middle new : Tables)
    → ((n : ℕ) → LinkRoom n (at link old.links.entries) → LinkRoom (n + 1) (at link middle.links.entries))
    → Uses link 0 client 0 old middle × Uses link 1 client 0 middle new → Uses link 0 client 0 old new
uses_freed link client old middle new freed (h, k) = record {
  on_link = λ n room. k.on_link n (freed n (subst (λ (q : ℕ). LinkRoom q (at link old.links.entries)) (no_more n) room));
  on_links = λ n l other room. k.on_links n l other (h.on_links n l other room);
  of_client = λ n room. k.of_client n
      (subst (λ (q : ℕ). ClientRoom q (at client middle.clients.entries)) (sym (no_more n)) (h.of_client n room));
  of_clients = λ n c other room. k.of_clients n c other (h.of_clients n c other room);
  counted = λ counted. k.counted (h.counted counted);
  tracked = λ tracked. k.tracked (h.tracked tracked);
  owned = λ l. owned_then (at l old.streams.streams) (at l middle.streams.streams) (at l new.streams.streams) (h.owned l) (k.owned l);
  held = λ c. held_then (at c old.clients.entries) (at c middle.clients.entries) (at c new.clients.entries) (h.held c) (k.held c);
  read = λ l. read_then (at l old.links.entries) (at l middle.links.entries) (at l new.links.entries) (h.read l) (k.read l);
}

-- what is provided stays so by rules that take no places
pub provided_by : (old new : Tables) → ((t c : ℕ) → Uses t 0 c 0 old new) → IsProvided old → IsProvided new
provided_by old new uses h = record {
  links = λ k. (uses k 0).on_link 0 (h.links k);
  clients = λ c. (uses 0 c).of_client 0 (h.clients c);
  counted = (uses 0 0).counted h.counted;
  tracked = (uses 0 0).tracked h.tracked;
}

-- what takes no place of one link and one client takes none
pub spares_of : (link client : ℕ) (old new : Tables) → Uses link 0 client 0 old new → Spares old new
spares_of link client old new h = record {
  links = λ n k room. on_link n k (cases_eq k link) room;
  clients = λ n c room. of_client n c (cases_eq c client) room;
  counted = h.counted;
  tracked = h.tracked;
  owned = h.owned;
  held = h.held;
  read = h.read;
}
  where
    on_link : (n k : ℕ) → ◌⊎◌ (k ≡ link) (k ≢ link) → LinkRoom n (at k old.links.entries) → LinkRoom n (at k new.links.entries)
    on_link n k (inl is) room =
        let on = subst (λ (q : ℕ). LinkRoom n (at q old.links.entries)) is room in
        let here = subst (λ (q : ℕ). LinkRoom q (at link old.links.entries)) (sym (no_more n)) on in
        subst (λ (q : ℕ). LinkRoom n (at q new.links.entries)) (sym is) (h.on_link n here)
    on_link n k (inr other) room = h.on_links n k other room

    of_client : (n c : ℕ) → ◌⊎◌ (c ≡ client) (c ≢ client) → ClientRoom n (at c old.clients.entries)
        → ClientRoom n (at c new.clients.entries)
    of_client n c (inl is) room =
        let of_it = subst (λ (q : ℕ). ClientRoom n (at q old.clients.entries)) is room in
        let here = subst (λ (q : ℕ). ClientRoom q (at client old.clients.entries)) (sym (no_more n)) of_it in
        subst (λ (q : ℕ). ClientRoom n (at q new.clients.entries)) (sym is) (h.of_client n here)
    of_client n c (inr other) room = h.of_clients n c other room

-- what takes no more than so much takes so much at most
module _ {link client a p : ℕ} {old new : Tables} (h : Uses link a client p old new) where
  pub uses_within : (b q : ℕ) → a ≤ b → p ≤ q → Uses link b client q old new
  uses_within b q le lq = record {
    on_link = λ n room. h.on_link n (more_room (n + b) (n + a) (at link old.links.entries) (omega (arith, le)) room);
    on_links = h.on_links;
    of_client = λ n room. h.of_client n (more_places (n + q) (n + p) (at client old.clients.entries) (omega (arith, lq)) room);
    of_clients = h.of_clients;
    counted = h.counted;
    tracked = h.tracked;
    owned = h.owned;
    held = h.held;
    read = h.read;
  }
