-- Streams that are drawn.
use Rattle.std.proofs.Common.{ℕ, ◌+◌, ◌≡◌, ◌≢◌, ◌≤◌, List, [], ◌∷◌, Bool, true, false, Option, Some, None, Ordering, refl, sym, ◌∙◌, ap}
use Rattle.std.proofs.Common.{subst, cond}
use Rattle.std.proofs.Common.{arith, ◌⊎◌, inl, inr}
use Rattle.std.specs.Prelude.{option_map, nat_eq}
use Rattle.std.specs.List.{sum_by}
use Rattle.std.specs.Map.{values_of}
use Rattle.std.specs.Ordering.{nat_cmp, match_ordering}
use Rattle.std.specs.declared.cmp.Ordering.TheVariants.{Less, Equal, Greater}
use Rattle.std.proofs.lemmas.List.Sums.{sum_by-cons}
use Rattle.std.proofs.lemmas.Bool.{cases_eq, eq-eqb, ne_eqb}
use Rattle.adb_outside.specs.Tables.{at, put_at, put_row, Rows}
use Rattle.adb_outside.proofs.TableLaws.{puts_put_at}
use Rattle.adb_stream.specs.Flow.{new_flow}
use Rattle.adb_stream.specs.Stream.{new_stream}
use Rattle.adb_stream.specs.declared.row.Stream.{Stream}
use Rattle.adb_history.specs.Rows.{State, to_client, in_phase}
use Rattle.adb_history.specs.Events.{Made}
use Rattle.adb_history.specs.Streams.{draw, asks_for, no_ids_left, opens, stream_ids}
use Rattle.adb_hub_tables.specs.declared.ports.Port.{Port}
use Rattle.adb_hub_tables.specs.declared.tables.Tables.{Tables}
use Rattle.adb_hub_tables.specs.Tables.{state_of}
use Rattle.adb_hub_tables.specs.Places.{HasPlaces, LinkRoom, ClientRoom, IsCountedAt, is_on}
use Rattle.adb_hub_tables.specs.Tracked.{IsListedAt}
use Rattle.adb_hub_tables.specs.Fit.{IsFit, IsReadOutAt}
use Rattle.adb_hub_tables.proofs.Rows.{rows_put}
use Rattle.adb_hub_clients.specs.Leaving.{counting}
use Rattle.adb_hub_clients.specs.Asking.{hears, CanHearAt}
use Rattle.adb_hub_clients.specs.Opening.{IsNextId, drawn_for, asked_for}
use Rattle.adb_hub_clients.specs.declared.hearing.Heard.{Heard}
use Rattle.adb_hub_clients.specs.declared.opening.Asker.{Asker}
use Rattle.adb_client.specs.declared.phase.Phase.TheVariants.{Opening}
use Rattle.adb_history.specs.Links.{open_packet, owe_link, is_credit}

-- ---- how many streams a link has then
put_adds : {X : Type 0} (f : X → ℕ) (n : ℕ) (row : X) (es : List (ℕ × X))
    → sum_by f (values_of (put_at n row es)) ≤ sum_by f (values_of es) + f row
put_adds f n row [] = omega (arith, sum_by-cons f row [])
put_adds {X} f n row (e ∷ es) = go (nat_cmp n e.0) (put_adds f n row es)
  where
    go : (o : Ordering) → sum_by f (values_of (put_at n row es)) ≤ sum_by f (values_of es) + f row
        → sum_by f (values_of (match_ordering o ((n, row) ∷ e ∷ es) ((e.0, row) ∷ es) (e ∷ put_at n row es)))
        ≤ sum_by f (e.1 ∷ values_of es) + f row
    go Less later = omega (arith, sum_by-cons f row (e.1 ∷ values_of es))
    go Equal later = omega (arith, sum_by-cons f row (values_of es), sum_by-cons f e.1 (values_of es))
    go Greater later = omega (arith, later, sum_by-cons f e.1 (values_of (put_at n row es)), sum_by-cons f e.1 (values_of es))

-- A stream was drawn, and its link counts it.
pub record Draws (stream : Stream) (old new : Tables) : Type 0 where
  pub clients : new.clients ≡ old.clients
  pub trackers : new.trackers ≡ old.trackers
  pub streams : new.streams.streams ≡ put_at stream.id stream old.streams.streams
  pub here : at stream.link new.links.entries ≡ option_map counting (at stream.link old.links.entries)
  pub others : (k : ℕ) → k ≢ stream.link → at k new.links.entries ≡ at k old.links.entries

counted_room : (port : Option Port) → HasPlaces 2 port → LinkRoom 1 (option_map counting port)
counted_room None has = tt
counted_room (Some port) has = omega (arith, has.0)

less_room : (port : Option Port) → LinkRoom 1 port → LinkRoom 0 port
less_room None room = tt
less_room (Some port) room = omega (arith, room)

counted_read : (port : Option Port) → IsReadOutAt port → IsReadOutAt (option_map counting port)
counted_read None out = tt
counted_read (Some port) out = record { given = out.given; sound = out.sound; sums = out.sums }

one_on : (k : ℕ) (stream : Stream) → is_on k stream ≤ 1
one_on k stream = by_test (nat_eq stream.link k)
  where
    by_test : (b : Bool) → cond b 1 0 ≤ 1
    by_test true = omega arith
    by_test false = omega arith

counted_more : (k : ℕ) (streams : List (ℕ × Stream)) (stream : Stream) (port : Option Port) → IsCountedAt k streams port
    → IsCountedAt k (put_at stream.id stream streams) (option_map counting port)
counted_more k streams stream None counted = tt
counted_more k streams stream (Some port) counted = omega (arith, counted, put_adds (is_on k) stream.id stream streams, one_on k stream)

counted_else : (k : ℕ) (streams : List (ℕ × Stream)) (stream : Stream) → k ≢ stream.link → (port : Option Port) → IsCountedAt k streams port
    → IsCountedAt k (put_at stream.id stream streams) port
counted_else k streams stream other None counted = tt
counted_else k streams stream other (Some port) counted =
    let none : is_on k stream ≡ 0 = ap (λ b. cond b 1 0) (ne_eqb stream.link k (λ e. other (sym e))) in
    omega (arith, counted, put_adds (is_on k) stream.id stream streams, none)

module _ {stream : Stream} {old new : Tables} (h : Draws stream old new) (fit : IsFit old)
    (has : HasPlaces 2 (at stream.link old.links.entries)) where
  -- what holds of each link, by whether it is that of the stream
  at_link : (P : ℕ → Option Port → Type 0) → P stream.link (option_map counting (at stream.link old.links.entries))
      → ((k : ℕ) → k ≢ stream.link → P k (at k old.links.entries)) → (k : ℕ) → P k (at k new.links.entries)
  at_link P here others k = by_place (cases_eq k stream.link)
    where
      by_place : ◌⊎◌ (k ≡ stream.link) (k ≢ stream.link) → P k (at k new.links.entries)
      by_place (inl is) = subst (λ (q : ℕ). P q (at q new.links.entries)) (sym is) (subst (P stream.link) (sym h.here) here)
      by_place (inr other) = subst (P k) (sym (h.others k other)) (others k other)

  pub drawn_fit : IsFit new
  drawn_fit = record {
    provided = record {
      links = at_link (λ k. LinkRoom 0) (less_room _ (counted_room (at stream.link old.links.entries) has))
          (λ k other. fit.provided.links k);
      clients = λ c. subst (λ (table : _). ClientRoom 0 (at c table.entries)) (sym h.clients) (fit.provided.clients c);
      counted = at_link (λ k port. IsCountedAt k new.streams.streams port)
          (subst (λ streams. IsCountedAt stream.link streams (option_map counting (at stream.link old.links.entries))) (sym h.streams)
          (counted_more stream.link old.streams.streams stream (at stream.link old.links.entries) (fit.provided.counted stream.link)))
          (λ k other. subst (λ streams. IsCountedAt k streams (at k old.links.entries)) (sym h.streams)
          (counted_else k old.streams.streams stream other (at k old.links.entries) (fit.provided.counted k)));
      tracked = λ c. subst (λ (table : _). IsListedAt c table.keys (at c new.clients.entries)) (sym h.trackers)
          (subst (λ (table : _). IsListedAt c old.trackers.keys (at c table.entries)) (sym h.clients) (fit.provided.tracked c));
    };
    read_out = at_link (λ k. IsReadOutAt) (counted_read (at stream.link old.links.entries) (fit.read_out stream.link))
        (λ k other. fit.read_out k);
  }

-- ---- the state then
pub drawn_state : (old : Tables) (id c t : ℕ) (credit : Bool) → id ≡ old.streams.drawn + 1
    → state_of (record old {
      streams = record {
        drawn = id;
        streams = put_at id (new_stream id c t (new_flow credit))
            old.streams.streams;
      };
    })
    ≡ draw credit c t (state_of old)
drawn_state old id c t credit is =
    let s = state_of old in
    let row = new_stream id c t (new_flow credit) in
    let rows = rows_put id (Some row) old.streams.streams (put_at id row old.streams.streams) (puts_put_at id row old.streams.streams) in
    ap (λ (streams : Rows (Option Stream)). record s { drawn = id; streams = streams }) rows
    ∙ ap (λ (n : ℕ). record s { drawn = n; streams = put_row n (Some (new_stream n c t (new_flow credit))) s.streams }) is

-- what follows a draw, by whether an id is left
pub asks_then : (forwarded : Bool) (c t : ℕ) (service : List ℕ) (s : State) → s.drawn ≢ stream_ids
    → asks_for (s.drawn + 1) c t service s ≡ opens forwarded c t service s
asks_then forwarded c t service s left =
    ap (λ b. cond b (no_ids_left forwarded c s) (asks_for (s.drawn + 1) c t service s)) (sym (ne_eqb s.drawn stream_ids left))

pub none_then : (forwarded : Bool) (c t : ℕ) (service : List ℕ) (s : State) → s.drawn ≡ stream_ids
    → no_ids_left forwarded c s ≡ opens forwarded c t service s
none_then forwarded c t service s none =
    ap (λ b. cond b (no_ids_left forwarded c s) (asks_for (s.drawn + 1) c t service s)) (sym (eq-eqb s.drawn stream_ids none))

-- this is the next id of a state that is the same
pub next_id : (id : ℕ) (s now : State) → now ≡ s → now.drawn ≢ stream_ids → id ≡ now.drawn + 1 → IsNextId (Some id) s
next_id id s now same left is = subst (IsNextId (Some id)) same (left, is)

-- a stream is asked for, or its client is told that none is left
pub opened : (id : Option ℕ) (asker : Asker) (service : List ℕ) (s : State) → IsNextId id s
    → asked_for id asker service (drawn_for id asker s) ≡ (opens asker.forwarded asker.client asker.link service s).state
opened None asker service s none = ap (λ (m : Made). m.state) (none_then asker.forwarded asker.client asker.link service s none)
opened (Some id) asker service s next =
    ap (λ (n : ℕ). (owe_link asker.link (open_packet (is_credit asker.link s.devices) n service)
    (to_client asker.client (in_phase (Opening n)) (draw (is_credit asker.link s.devices) asker.client asker.link s))).state) next.1
    ∙ ap (λ (m : Made). m.state) (asks_then asker.forwarded asker.client asker.link service s next.0)

-- what is heard of a client before its stream is drawn, or behind that
pub drawn_behind : (id : Option ℕ) (asker : Asker) (heard : Heard) (s : State)
    → hears heard asker.client (drawn_for id asker s) ≡ drawn_for id asker (hears heard asker.client s)
drawn_behind None asker heard s = refl
drawn_behind (Some id) asker heard s = refl

-- no id is drawn by what is heard
pub next_heard : (id : Option ℕ) (c : ℕ) (heard : Heard) (s : State) → IsNextId id s → IsNextId id (hears heard c s)
next_heard None c heard s next = next
next_heard (Some id) c heard s next = next

-- places that were made for other things are no matter of what can be heard
pub still_ready : (client : ℕ) (heard : Heard) (old first last new : Tables) → (first.clients ≡ old.clients) × (new.clients ≡ last.clients)
    → (CanHearAt heard (at client first.clients.entries) → CanHearAt heard (at client last.clients.entries))
    → CanHearAt heard (at client old.clients.entries) → CanHearAt heard (at client new.clients.entries)
still_ready client heard old first last new same ready has =
    subst (λ (table : _). CanHearAt heard (at client table.entries)) (sym same.1)
    (ready (subst (λ (table : _). CanHearAt heard (at client table.entries)) (sym same.0) has))
