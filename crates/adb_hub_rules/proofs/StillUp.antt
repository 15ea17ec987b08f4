-- The up rule for all streams, where nothing goes up most of them.
use Rattle.std.proofs.Common.{ℕ, ◌+◌, ◌≡◌, ◌≢◌, ◌≤◌, ◌<◌, List, [], ◌∷◌, Bool, true, false, Option, Some, None, refl, sym, ◌∙◌, ap, subst}
use Rattle.std.proofs.Common.{cond, arith, ◌⊎◌, inl, inr, drop, zero, suc}
use Rattle.std.specs.Prelude.{option_and_then}
use Rattle.std.proofs.lemmas.Bool.{cases_eq}
use Rattle.std.specs.Ordering.{nat_cmp}
use Rattle.std.specs.List.Sorted.{IsStrictlySortedBy}
use Rattle.adb_outside.specs.Tables.{Rows}
use Rattle.adb_registry.specs.Registry.{DeviceTable}
use Rattle.adb_stream.specs.declared.row.Stream.{Stream}
use Rattle.adb_history.specs.Rows.{Client, State, to_stream, with_held, with_stream_part}
use Rattle.adb_history.specs.Events.{Made, quietly, then_also}
use Rattle.adb_history.specs.Links.{maxdata_of}
use Rattle.adb_history.specs.Flow.{payloads, with_flow, noted, is_over, closes_if, sends_up, is_streaming, up_client, up_stream, up, up_all}
use Rattle.adb_hub_tables.specs.Tracked.{IsAmong}
use Rattle.adb_hub_rules.specs.Sweep.{up_each, HasNothingUp, IsStillFor, IsStillOf, IsStill, CoversUp}
use Rattle.adb_hub_rules.proofs.Making.{made_then_none, made_assoc}
use Rattle.adb_hub_rules.proofs.RisingIds.{above, rises_behind}
use Rattle.adb_hub_rules.proofs.GoingUp.{IsNot, same_rows}
use Rattle.adb_hub_rules.proofs.Sweeping.{KeepsBeside, for_it, stream_of_row, sends_beside}

-- ---- a stream that is still
pub not_closed : (l : ℕ) (row : Option Stream) (s : State) → closes_if false l row s ≡ quietly s
not_closed l None s = refl
not_closed l (Some stream) s = refl

module _ (l : ℕ) (stream : Stream) (s : State) (here : s.streams l ≡ Some stream) where
  noted_none : (client : Client) → s.clients stream.client ≡ Some client → noted l stream client.held [] s ≡ s
  noted_none client owner =
      ap (λ (rows : Rows (Option Client)).
      record (to_stream l (with_stream_part (with_flow stream.part.flow stream.part)) s) { clients = rows })
      (same_rows stream.client (with_held (drop 0 client.held)) s.clients
      (ap (option_and_then (with_held (drop 0 client.held))) owner ∙ sym owner))
      ∙ ap (λ (rows : Rows (Option Stream)). record s { streams = rows })
      (same_rows l (with_stream_part (with_flow stream.part.flow stream.part)) s.streams
      (ap (option_and_then (with_stream_part (with_flow stream.part.flow stream.part))) here ∙ sym here))

  nothing_sent : (client : Client) → s.clients stream.client ≡ Some client → HasNothingUp s.devices client stream
      → sends_up l stream client (payloads stream.part.flow (maxdata_of stream.link s.devices) client.held) s ≡ quietly s
  nothing_sent client owner h =
      ap (λ ps. sends_up l stream client ps s) h.nothing
      ∙ (ap (λ b. closes_if b l ((noted l stream client.held [] s).streams l) (noted l stream client.held [] s)) h.goes_on
      ∙ (not_closed l ((noted l stream client.held [] s).streams l) (noted l stream client.held [] s)
      ∙ ap quietly (noted_none client owner)))

  -- where nothing is sent, what is left of the rule is the end
  pub end_alone : (client : Client) (ps : List (List ℕ)) → s.clients stream.client ≡ Some client → ps ≡ []
      → closes_if (is_over client.about.ended client.held stream.part.flow) l (Some stream) s ≡ sends_up l stream client ps s
  end_alone client ps owner none =
      let over = is_over client.about.ended client.held stream.part.flow in
      ap (λ (row : Option Stream). closes_if over l row s) (sym here)
      ∙ (ap (λ (now : State). closes_if over l (now.streams l) now) (sym (noted_none client owner))
      ∙ ap (λ ps. sends_up l stream client ps s) (sym none))

  client_still : (row : Option Client) → s.clients stream.client ≡ row → IsStillFor l s.devices stream row
      → up_client l stream row s ≡ quietly s
  client_still None owner still = refl
  client_still (Some client) owner still = by_test (is_streaming l client.about.phase) refl
    where
      by_test : (b : Bool) → is_streaming l client.about.phase ≡ b
          → cond b (sends_up l stream client
          (payloads stream.part.flow (maxdata_of stream.link s.devices) client.held) s) (quietly s) ≡ quietly s
      by_test true streaming = nothing_sent client owner (still streaming)
      by_test false streaming = refl

still_is : (l : ℕ) (s : State) → IsStill l s → up l s ≡ quietly s
still_is l s still = at_row (s.streams l) refl still
  where
    at_row : (row : Option Stream) → s.streams l ≡ row → IsStillOf l row s → up_stream l row s ≡ quietly s
    at_row None here still = refl
    at_row (Some stream) here still = client_still l stream s here (s.clients stream.client) refl still

-- ---- and stays so
closed_still : (l : ℕ) (devices : DeviceTable) (stream : Stream) (row : Option Client) → stream_of_row l row ≡ false
    → IsStillFor l devices stream row
closed_still l devices stream None is = tt
closed_still l devices stream (Some client) is = λ streaming. absurd (subst IsNot (sym is ∙ for_it l client.about.phase streaming) tt)

still_beside : (l id client : ℕ) (old new : State) → l ≢ id × KeepsBeside id client old new → IsStill l old → IsStill l new
still_beside l id client old new (other, h) still = subst (λ row. IsStillOf l row new) (sym (h.streams l other))
    (at_row (old.streams l) still)
  where
    at_row : (row : Option Stream) → IsStillOf l row old → IsStillOf l row new
    at_row None still = tt
    at_row (Some stream) still = by_client (cases_eq stream.client client)
      where
        by_client : ◌⊎◌ (stream.client ≡ client) (stream.client ≢ client) → IsStillFor l new.devices stream (new.clients stream.client)
        by_client (inl is) = closed_still l new.devices stream (new.clients stream.client)
            (ap (λ (c : ℕ). stream_of_row l (new.clients c)) is ∙ h.closed l other)
        by_client (inr apart) =
            subst (λ devices. IsStillFor l devices stream (new.clients stream.client)) (sym h.devices)
            (subst (IsStillFor l old.devices stream) (sym (h.clients stream.client apart)) still)

still_stays : (l id : ℕ) (s : State) → l ≢ id → IsStill l s → IsStill l (up id s).state
still_stays l id s other still = at_row (s.streams id) refl
  where
    at_client : (stream : Stream) → s.streams id ≡ Some stream → (row : Option Client) → s.clients stream.client ≡ row
        → IsStill l (up_client id stream row s).state
    at_client stream here None owner = still
    at_client stream here (Some client) owner = by_test (is_streaming id client.about.phase) refl
      where
        by_test : (b : Bool) → is_streaming id client.about.phase ≡ b
            → IsStill l (cond b
            (sends_up id stream client
            (payloads stream.part.flow (maxdata_of stream.link s.devices) client.held) s) (quietly s)).state
        by_test true streaming = still_beside l id stream.client s _ (
          other,
          sends_beside id stream client s streaming here owner
              (payloads stream.part.flow (maxdata_of stream.link s.devices) client.held),
        ) still
        by_test false streaming = still

    at_row : (row : Option Stream) → s.streams id ≡ row → IsStill l (up_stream id row s).state
    at_row None here = still
    at_row (Some stream) here = at_client stream here (s.clients stream.client) refl

-- ---- all streams, from the first on
up_range : ℕ → ℕ → State → Made
up_range first zero s = quietly s
up_range first (suc n) s = then_also (up first s) (up_range (suc first) n)

range_last : (n first : ℕ) (s : State) → up_range first (suc n) s ≡ then_also (up_range first n s) (up (first + n))
unfolding up_range
range_last zero first s = made_then_none (up first s) ∙ ap (λ (l : ℕ). up l s) (omega arith)
range_last (suc n) first s =
    ap (λ (rest : Made). then_also (up first s) (λ _. rest)) (range_last n (suc first) (up first s).state)
    ∙ (sym (made_assoc (up first s) (up_range (suc first) n) (up (suc first + n)))
    ∙ ap (λ (l : ℕ). then_also (then_also (up first s) (up_range (suc first) n)) (up l)) (omega arith))

all_is_range : (k : ℕ) (s : State) → up_all k s ≡ up_range 1 k s
unfolding up_range
all_is_range zero s = refl
all_is_range (suc k) s =
    ap (λ (before : Made). then_also before (up (suc k))) (all_is_range k s)
    ∙ (ap (λ (l : ℕ). then_also (up_range 1 k s) (up l)) (omega arith) ∙ sym (range_last k 1 s))

-- These ids are among n numbers from the first on, and nothing goes up any other of these streams.
record CoversRange (ids : List ℕ) (first n : ℕ) (s : State) : Type 0 where
  pub rises : IsStrictlySortedBy nat_cmp ids
  pub within : (l : ℕ) → IsAmong l ids → (first ≤ l) × (l < first + n)
  pub still : (l : ℕ) → first ≤ l → (IsAmong l ids → ⊥) → IsStill l s

-- the first stream is not one of them
range_still : (first n : ℕ) (ids : List ℕ) (s : State) → CoversRange ids first (suc n) s → (IsAmong first ids → ⊥)
    → CoversRange ids (suc first) n s
range_still first n ids s h none = record {
  rises = h.rises;
  within = λ l among. (apart l among, omega (arith, (h.within l among).1));
  still = λ l le. h.still l (omega (arith, le));
}
  where
    apart : (l : ℕ) → IsAmong l ids → suc first ≤ l
    apart l among = by_place (cases_eq first l)
      where
        by_place : ◌⊎◌ (first ≡ l) (first ≢ l) → suc first ≤ l
        by_place (inl e) = absurd (none (subst (λ (q : ℕ). IsAmong q ids) (sym e) among))
        by_place (inr other) = omega (arith, other, (h.within l among).0)

-- or it is the first of them
range_behind : (first n : ℕ) (ids : List ℕ) (s : State) → CoversRange (first ∷ ids) first (suc n) s
    → CoversRange ids (suc first) n (up first s).state
range_behind first n ids s h = record {
  rises = rises_behind first ids h.rises;
  within = λ l among. (above first l ids h.rises among, omega (arith, (h.within l (inr among)).1));
  still = λ l le none. still_stays l first s (λ e. omega (arith, le, e)) (h.still l (omega (arith, le)) (not_first l le none));
}
  where
    not_first : (l : ℕ) → suc first ≤ l → (IsAmong l ids → ⊥) → IsAmong l (first ∷ ids) → ⊥
    not_first l le none (inl e) = omega (arith, le, e)
    not_first l le none (inr among) = none among

not_among : (first x : ℕ) (ids : List ℕ) → IsStrictlySortedBy nat_cmp (x ∷ ids) → first < x → IsAmong first (x ∷ ids) → ⊥
not_among first x ids rises less (inl e) = omega (arith, less, e)
not_among first x ids rises less (inr among) = let more = above x first ids rises among in omega (arith, less, more)

range_is : (n first : ℕ) (ids : List ℕ) (s : State) → CoversRange ids first n s → up_range first n s ≡ up_each ids s
unfolding up_range
range_is zero first [] s h = refl
range_is zero first (x ∷ ids) s h = let bounds = h.within x (inl refl) in absurd (omega (arith, bounds.0, bounds.1))
range_is (suc n) first [] s h =
    ap (λ (one : Made). then_also one (up_range (suc first) n)) (still_is first s (h.still first (omega arith) (λ among. among)))
    ∙ range_is n (suc first) [] s (range_still first n [] s h (λ among. among))
range_is (suc n) first (x ∷ ids) s h = by_place (cases_eq first x) (λ covers. range_is n (suc first) ids (up first s).state covers)
    (λ covers. range_is n (suc first) (x ∷ ids) s covers)
  where
    by_place : ◌⊎◌ (first ≡ x) (first ≢ x)
        → (CoversRange ids (suc first) n (up first s).state → up_range (suc first) n (up first s).state ≡ up_each ids (up first s).state)
        → (CoversRange (x ∷ ids) (suc first) n s → up_range (suc first) n s ≡ up_each (x ∷ ids) s)
        → then_also (up first s) (up_range (suc first) n) ≡ up_each (x ∷ ids) s
    by_place (inl e) goes stays =
        ap (λ (rest : Made). then_also (up first s) (λ _. rest))
        (goes (range_behind first n ids s (subst (λ (q : ℕ). CoversRange (q ∷ ids) first (suc n) s) (sym e) h)))
        ∙ ap (λ (q : ℕ). up_each (q ∷ ids) s) e
    by_place (inr other) goes stays =
        let none = not_among first x ids h.rises (omega (arith, other, (h.within x (inl refl)).0)) in
        ap (λ (one : Made). then_also one (up_range (suc first) n)) (still_is first s (h.still first (omega arith) none))
        ∙ stays (range_still first n (x ∷ ids) s h none)

-- the up rule for all streams is that for these
pub all_is_each : (ids : List ℕ) (k : ℕ) (s : State) → IsStrictlySortedBy nat_cmp ids → CoversUp ids k s → up_all k s ≡ up_each ids s
all_is_each ids k s rises h = all_is_range k s ∙ range_is k 1 ids s (record {
  rises = rises;
  within = λ l among. let bounds = h.within l among in (omega (arith, bounds.0), omega (arith, bounds.1));
  still = λ l le. h.still l;
})
