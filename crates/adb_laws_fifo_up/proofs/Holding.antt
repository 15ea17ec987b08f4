-- Of a client no more is held than what was held of it and what was read, through each move.
use Rattle.std.proofs.Common.{◌≡◌, ℕ, ◌+◌, ◌≤◌, Bool, true, false, cond, List, [], ◌∷◌, ◌++◌, length, Option, Some, None, refl, sym, ap}
use Rattle.std.proofs.Common.{subst, ◌∙◌}
use Rattle.std.proofs.Common.{arith, ◌⊎◌, inl, inr, eqb}
use Rattle.std.proofs.lemmas.Bool.{eq-eqb, cases_eq}
use Rattle.std.proofs.lemmas.List.{length-append, length-drop}
use Rattle.adb_stream.specs.declared.row.Stream.{Stream}
use Rattle.adb_client.specs.declared.phase.Phase.{Phase}
use Rattle.adb_client.specs.declared.phase.Phase.TheVariants.{Asking, Opening, Streaming, Binding, Tracking, Closing, Gone}
use Rattle.adb_capture.specs.declared.entry.Entry.{Entry}
use Rattle.adb_capture.specs.declared.entry.Entry.TheVariants.{Join, Enter, Read, Recv}
use Rattle.adb_history.specs.Rows.{Client, State, new_client, to_client, with_held}
use Rattle.adb_history.specs.Events.{Made, Event}
use Rattle.adb_history.specs.Flow.{total}
use Rattle.adb_history.specs.Asking.{Asked, asks_with}
use Rattle.adb_history.specs.Reading.{comes, asked_before, has_asked}
use Rattle.adb_history.specs.Machine.{History, state, told, IsLegal}
use Rattle.adb_history.specs.Owned.{IsOwned}
use Rattle.adb_history.specs.Orderly.{IsResting, IsOrderly}
use Rattle.adb_history.proofs.Asked.{Unused, asks_unused}
use Rattle.adb_history.proofs.Following.{changed_here, changed_other}
use Rattle.adb_history.proofs.OwnedStep.{all_owned}
use Rattle.adb_history.proofs.OrderlyStates.{orderly}
use Rattle.adb_history.proofs.Sweep.{Sending, sent}
use Rattle.adb_laws_fifo_up.specs.Seen.{Seen, seen, seen_in, Sees, IsOf}
use Rattle.adb_laws_fifo_up.specs.Climbing.{Climbs}
use Rattle.adb_history.specs.Held.{held_of, read_by, HoldsWhatIsRead}
use Rattle.adb_laws_fifo_up.proofs.Seeing.{seen_phase, none_unseen}
use Rattle.adb_laws_fifo_up.proofs.Opened.{NowIn, phase_seen, opens_made}
use Rattle.adb_laws_fifo_up.proofs.SendsUp.{streaming_is, IsLeft, Sends, sends_made}
use Rattle.adb_laws_fifo_up.proofs.Stops.{stops_unseen}
use Rattle.adb_laws_fifo_up.proofs.RuleClimbs.{Begins, ReadsOf, ReadsIn, step_climbs}
use Rattle.adb_laws_fifo_up.proofs.Rises.{Waits, owned_waits}

-- of a client that asks or has a stream at most so many bytes are held
abbrev HoldsUpTo : (c n : ℕ) → State → List Event → Type 0
HoldsUpTo c n s w = (v : Seen) → Sees (s.clients c) v → length v.held ≤ n

module _ (c n : ℕ) where
  -- what a client saw that is in another phase now
  was_seen : (s : State) (k : ℕ) (phase before : Phase) (x : Client) (w : List Event) → s.clients k ≡ Some x → x.about.phase ≡ before
      → ((held : List ℕ) → seen_in before held ≡ Some (record { phase = before; held = held })) → HoldsUpTo c n s w
      → (v : Seen) → Sees (s.clients c) v ⊎ ((c ≡ k) × NowIn s.clients k phase v) → length v.held ≤ n
  was_seen s k phase before x w here was sees h v (inl see) = h v see
  was_seen s k phase before x w here was sees h v (inr now) =
      let same : now.1.client ≡ x = (let both : Some now.1.client ≡ Some x = sym now.1.was ∙ here in cc) in
      let u : Seen = record { phase = before; held = now.1.client.held } in
      let see : Sees (s.clients c) u =
      ap (λ (i : ℕ). seen (s.clients i)) now.0
      ∙ (ap seen now.1.was
      ∙ (ap (λ (p : Phase). seen_in p now.1.client.held) (ap (λ (y : Client). y.about.phase) same ∙ was)
      ∙ sees now.1.client.held)) in
      let le = h u see in omega (arith, le, ap length now.1.held)

  -- what a stream sends is held no more
  sends_holds : (k : ℕ) (s : State) (x : Sending k s) (m : Made) (w : List Event) → Sends k s x m → HoldsUpTo c n s w
      → (v : Seen) → Sees (m.state.clients c) v → length v.held ≤ n
  sends_holds k s x m w o h v see = go (o.clients c v see)
    where
      go : Sees (s.clients c) v ⊎ ((c ≡ x.stream.client) × (v.phase ≡ Streaming k)) → length v.held ≤ n
      go (inl was) = h v was
      go (inr now) = left o.fate
        where
          before : length x.client.held ≤ n
          before = h (record { phase = Streaming k; held = x.client.held })
              (ap (λ (i : ℕ). seen (s.clients i)) now.0
              ∙ (ap seen x.here ∙ ap (λ (p : Phase). seen_in p x.client.held) (streaming_is k x.client.about.phase x.streaming)))

          at_client : Sees (m.state.clients x.stream.client) v
          at_client = subst (λ (i : ℕ). Sees (m.state.clients i) v) now.0 see

          left : IsLeft k s x m → length v.held ≤ n
          left (inl goes_on) =
              omega (arith, before, ap length (goes_on.1 v at_client), length-drop (total (sent k s x)) x.client.held)
          left (inr over) = absurd (over.1 v at_client (subst (IsOf k) (sym now.1) refl))

  holds_climbs : Climbs Waits (HoldsUpTo c n)
  holds_climbs = record {
    aside = λ s m w off h v see. h v (off.clients c v see);
    draws = λ k t x s w here asks h v see. was_seen s k (Opening (s.drawn + 1)) Asking x w here asks (λ held. refl) h v
        (phase_seen s.clients k (Opening (s.drawn + 1)) c v see);
    parts = λ k stream part s w is level h. h;
    acks = λ k word stream s w is hears h. h;
    opens = λ k remote word stream s w is new hears h v see. opens k stream s w h v (hears stream is (new.0, new.1))
        ((opens_made k remote word stream s is).clients c v see);
    goes = λ k s m w g h v see. h v (g.clients c v see);
    stops = λ k s w h v see. absurd (stops_unseen k s c v see);
    sends = λ k s w x h. sends_holds k s x _ w (sends_made k s x) h;
  }
    where
      opens : (k : ℕ) (stream : Stream) (s : State) (w : List Event) → HoldsUpTo c n s w → (v : Seen)
          → ((x : Client) → s.clients stream.client ≡ Some x → x.about.phase ≡ Opening k)
          → Sees (s.clients c) v ⊎ ((c ≡ stream.client) × NowIn s.clients stream.client (Streaming k) v) → length v.held ≤ n
      opens k stream s w h v waits (inl see) = h v see
      opens k stream s w h v waits (inr now) =
          was_seen s stream.client (Streaming k) (Opening k) now.1.client w now.1.was (waits now.1.client now.1.was)
          (λ held. refl) h v (inr now)

module _ (c n : ℕ) (s : State) (w : List Event) (h : HoldsUpTo c n s w) where
  -- who comes holds nothing
  comes_holds : (forwarded : Bool) (k : ℕ) → HoldsUpTo c n (comes forwarded k s) w
  comes_holds forwarded k v see = go (eqb k c) see
    where
      go : (b : Bool) → Sees (cond b (Some (new_client forwarded k)) (s.clients c)) v → length v.held ≤ n
      go true see = omega (arith, ap length (seen_phase Asking [] v see).1)
      go false see = h v see

  -- a client of whom so much is held then
  row_holds : (k : ℕ) (f : Client → Option Client) (x y : Client) → s.clients k ≡ Some x → f x ≡ Some y → (k ≡ c → length y.held ≤ n)
      → HoldsUpTo c n (to_client k f s) w
  row_holds k f x y here now fits v see = go (cases_eq k c)
    where
      go : (k ≡ c) ⊎ (k ≡ c → ⊥) → length v.held ≤ n
      go (inl same) =
          let row : (to_client k f s).clients k ≡ Some y = changed_here k f s.clients x here ∙ now in
          let see_here : Sees ((to_client k f s).clients k) v = subst (λ (i : ℕ). Sees ((to_client k f s).clients i) v) (sym same) see in
          let held = (seen_phase y.about.phase y.held v (subst (λ (o : Option Client). Sees o v) row see_here)).1 in
          let le = fits same in omega (arith, le, ap length held)
      go (inr apart) = h v (subst (λ (o : Option Client). Sees o v) (changed_other k c f s.clients apart) see)

  -- a client reads: what is unread of its requests, or all, is held
  module _ (k : ℕ) (bytes : List ℕ) (x : Client) (here : s.clients k ≡ Some x) (fits : k ≡ c → length x.held + length bytes ≤ n) where
    abbrev unread : Asked
    unread = asks_with s.devices s.forwards bytes (asked_before x)

    unread_fits : k ≡ c → length unread.rest ≤ n
    unread_fits same =
        let u : Unused (x.held ++ bytes) unread =
        asks_unused s.devices s.forwards x.held bytes (asked_before x) (record { within = omega arith; rest = refl }) in
        let le = fits same in
        omega (arith, le, ap length u.rest, length-drop unread.used (x.held ++ bytes), length-append x.held bytes)

    more_fits : k ≡ c → length (x.held ++ bytes) ≤ n
    more_fits same = let le = fits same in omega (arith, le, length-append x.held bytes)

    reads_in_holds : (phase : Phase) → ReadsIn (holds_climbs c n) s w phase k bytes x
    reads_in_holds Asking = row_holds k (has_asked unread) x _ here refl unread_fits
    reads_in_holds (Opening l) = row_holds k (with_held (x.held ++ bytes)) x _ here refl more_fits
    reads_in_holds (Streaming l) = row_holds k (with_held (x.held ++ bytes)) x _ here refl more_fits
    reads_in_holds _ = h

  reads_holds : (k : ℕ) (bytes : List ℕ) → ((x : Client) → s.clients k ≡ Some x → k ≡ c → length x.held + length bytes ≤ n)
      → ReadsOf (holds_climbs c n) s w (s.clients k) k bytes
  reads_holds k bytes fits = go (s.clients k) refl
    where
      go : (o : Option Client) → s.clients k ≡ o → ReadsOf (holds_climbs c n) s w o k bytes
      go None is = h
      go (Some x) is = reads_in_holds k bytes x is (fits x is) x.about.phase

  begins_holds : (e : Entry) → IsOwned s → held_of (s.clients c) + read_by c e ≤ n → Begins (holds_climbs c n) e s w
  begins_holds (Join k) owned fits = comes_holds false k
  begins_holds (Enter k port) owned fits = (comes_holds true k, h)
  begins_holds (Read k bytes) owned fits = reads_holds k bytes (λ x here same. at x here same)
    where
      at : (x : Client) → s.clients k ≡ Some x → k ≡ c → length x.held + length bytes ≤ n
      at x here same = omega
          (arith, fits, ap held_of (ap s.clients (sym same) ∙ here), ap (λ (b : Bool). cond b (length bytes) 0) (eq-eqb k c same))
  begins_holds (Recv t bytes) owned fits = (h, owned, owned_waits)
  begins_holds _ owned fits = h

-- what is held of a client, by what is seen of it
held_seen : (c n : ℕ) (s : State) → ((v : Seen) → Sees (s.clients c) v → length v.held ≤ n) → IsOrderly s → held_of (s.clients c) ≤ n
held_seen c n s h o = go (s.clients c) refl
  where
    nothing : (held : List ℕ) → held ≡ [] → length held ≤ n
    nothing held none = omega (arith, ap length none)

    by : (x : Client) → s.clients c ≡ Some x → (phase : Phase) → x.about.phase ≡ phase → IsResting phase s c x → length x.held ≤ n
    by x is Asking e rests = h (record { phase = Asking; held = x.held }) (ap seen is ∙ ap (λ (p : Phase). seen_in p x.held) e)
    by x is (Opening l) e rests = h (record { phase = Opening l; held = x.held }) (ap seen is ∙ ap (λ (p : Phase). seen_in p x.held) e)
    by x is (Streaming l) e rests = h (record { phase = Streaming l; held = x.held }) (ap seen is ∙ ap (λ (p : Phase). seen_in p x.held) e)
    by x is Binding e rests = nothing x.held rests.0
    by x is Tracking e rests = nothing x.held rests
    by x is Closing e rests = nothing x.held rests.0
    by x is Gone e rests = absurd rests

    go : (row : Option Client) → s.clients c ≡ row → held_of row ≤ n
    go None is = omega arith
    go (Some x) is = by x is x.about.phase refl (o.client c x is).rests

seen_held : (c n : ℕ) (s : State) → held_of (s.clients c) ≤ n → (v : Seen) → Sees (s.clients c) v → length v.held ≤ n
seen_held c n s le v see = go (s.clients c) le see
  where
    go : (row : Option Client) → held_of row ≤ n → Sees row v → length v.held ≤ n
    go None le see = absurd (none_unseen v see)
    go (Some x) le see = omega (arith, le, ap length (seen_phase x.about.phase x.held v see).1)

holds_within : (e : Entry) (older : History) → IsLegal (e ∷ older) → (c n : ℕ) → held_of ((state older).clients c) + read_by c e ≡ n
    → held_of ((state (e ∷ older)).clients c) ≤ n
holds_within e older legal c n is = held_seen c n (state (e ∷ older))
    (step_climbs (holds_climbs c n) e (state older) (told older)
    (begins_holds c n (state older) (told older) (seen_held c n (state older) (omega (arith, is))) e
    (all_owned older legal.0) (omega (arith, is))))
    (orderly (e ∷ older) legal)

-- Of a client no more is held after an entry than before it, but for what is read of it.
pub holds_read : (e : Entry) (older : History) → IsLegal (e ∷ older) → HoldsWhatIsRead e older
holds_read e older legal c = holds_within e older legal c (held_of ((state older).clients c) + read_by c e) refl
