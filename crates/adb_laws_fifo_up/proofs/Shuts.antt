-- When a stream is closed towards its device, its row is gone, and nothing goes up any more.
use Rattle.std.proofs.Common.{◌≡◌, ◌≢◌, ℕ, ◌<◌, ◌≤◌, true, false, List, [], ◌∷◌, ◌++◌, Option, Some, None, refl, sym, ap, subst, ◌∙◌}
use Rattle.std.proofs.Common.{arith, ◌⊎◌, inl, inr}
use Rattle.std.proofs.lemmas.Bool.{cases_eq}
use Rattle.adb_stream.specs.declared.row.Part.{Part}
use Rattle.adb_stream.specs.declared.row.Stream.{Stream}
use Rattle.adb_client.specs.declared.phase.Phase.{Phase}
use Rattle.adb_client.specs.declared.phase.Phase.TheVariants.{Asking, Opening, Streaming}
use Rattle.adb_capture.specs.declared.entry.Entry.{Entry}
use Rattle.adb_capture.specs.declared.entry.Entry.TheVariants.{Join, Enter, Read, Recv}
use Rattle.adb_history.specs.Rows.{Client, State, to_stream, with_stream_part}
use Rattle.adb_history.specs.Events.{Made, Event, packets_to}
use Rattle.adb_history.specs.Flow.{sends_up}
use Rattle.adb_history.specs.Losing.{stops}
use Rattle.adb_history.specs.Machine.{History, state, told, IsLegal}
use Rattle.adb_history.specs.Moves.{After}
use Rattle.adb_history.specs.Owned.{IsOwned}
use Rattle.adb_history.proofs.Following.{changed_other}
use Rattle.adb_history.proofs.OwnedStep.{all_owned}
use Rattle.adb_history.proofs.Sweep.{Sending, sent}
use Rattle.adb_laws_fifo_up.specs.Climbing.{Are, IsAside, IsEndOf, IsUpOf, IsOther, is_shut, Goes, Climbs}
use Rattle.adb_laws_fifo_up.proofs.Seeing.{are_weaker, aside_apart, up_apart, packets_append}
use Rattle.adb_laws_fifo_up.proofs.Shutting.{IsLast, IsDry, last_append, apart_dry, end_dry, close_shut, shut_cases, aside_not_shut}
use Rattle.adb_laws_fifo_up.proofs.Shutting.{end_not_shut}
use Rattle.adb_laws_fifo_up.proofs.Shutting.{up_not_shut, last_dry}
use Rattle.adb_laws_fifo_up.proofs.Opened.{draws_other, Opens, opens_made}
use Rattle.adb_laws_fifo_up.proofs.SendsUp.{Sends, sends_made}
use Rattle.adb_laws_fifo_up.proofs.Stops.{stops_dry, stops_not_shut}
use Rattle.adb_laws_fifo_up.proofs.Unborn.{Heard}
use Rattle.adb_laws_fifo_up.proofs.RuleClimbs.{ReadsIn, ReadsOf, Begins, step_climbs}

pub record Shuts (l : ℕ) (s : State) (w : List Event) : Type 0 where
  pub none : s.drawn < l → s.streams l ≡ None
  pub born : is_shut l w ≡ true → l ≤ s.drawn
  pub gone : is_shut l w ≡ true → s.streams l ≡ None
  pub last : (t : ℕ) → IsLast l (packets_to t w)

-- no row comes where none was
none_now : (o p : Option Stream) → ((y : Stream) → p ≡ Some y → (x : Stream) × (o ≡ Some x)) → o ≡ None → p ≡ None
none_now o None before none = refl
none_now o (Some y) before none = (let x = before y refl in let clash : None ≡ Some x.0 = sym none ∙ x.1 in cc)

module _ (l : ℕ) (some : 0 < l) where
  -- nothing is told of it, and no row of it comes
  still : (s next : State) (w u : List Event) → s.drawn ≤ next.drawn → (s.streams l ≡ None → l ≤ s.drawn → next.streams l ≡ None)
      → (next.drawn < l → next.streams l ≡ None) → Are (IsDry l) u × (is_shut l u ≡ false) → Shuts l s w → Shuts l next (w ++ u)
  still s next w u drawn stays none silent h = record {
    none = none;
    born = λ e. omega (arith, h.born (before e), drawn);
    gone = λ e. stays (h.gone (before e)) (h.born (before e));
    last = λ t. last_dry t l w u (h.last t) silent.0;
  }
    where
      before : is_shut l (w ++ u) ≡ true → is_shut l w ≡ true
      before e = go (shut_cases l w u e)
        where
          go : (is_shut l w ≡ true) ⊎ (is_shut l u ≡ true) → is_shut l w ≡ true
          go (inl f) = f
          go (inr f) = absurd (let clash : false ≡ true = sym silent.1 ∙ f in cc)

  -- nothing is told at all
  quiet : (s next : State) (w : List Event) → next.drawn ≡ s.drawn → (s.streams l ≡ None → next.streams l ≡ None)
      → Shuts l s w → Shuts l next w
  quiet s next w drawn stays h = record {
    none = λ above. stays (h.none (omega (arith, above, drawn)));
    born = λ e. omega (arith, h.born e, drawn);
    gone = λ e. stays (h.gone e);
    last = h.last;
  }

  part_shuts : (k : ℕ) (stream : Stream) (part : Part) (s : State) (w : List Event) → s.streams k ≡ Some stream → Shuts l s w
      → Shuts l (to_stream k (with_stream_part part) s) w
  part_shuts k stream part s w is h = quiet s (to_stream k (with_stream_part part) s) w refl (λ none. go none (cases_eq k l)) h
    where
      go : s.streams l ≡ None → (k ≡ l) ⊎ (k ≡ l → ⊥) → (to_stream k (with_stream_part part) s).streams l ≡ None
      go none (inl same) = absurd (let clash : None ≡ Some stream = sym none ∙ (ap s.streams (sym same) ∙ is) in cc)
      go none (inr apart) = changed_other k l (with_stream_part part) s.streams apart ∙ none

  opens_shuts : (k : ℕ) (stream : Stream) (s : State) (m : Made) (w : List Event) → Opens k stream s m → Shuts l s w
      → Shuts l m.state (w ++ m.told)
  opens_shuts k stream s m w o h =
      still s m.state w m.told (omega (arith, o.drawn)) (λ none within. rows none) (λ above. rows (h.none (omega (arith, above, o.drawn))))
      (are_weaker IsAside (IsDry l) (λ e a. apart_dry l e (aside_apart l e a)) m.told o.told, aside_not_shut l some m.told o.told) h
    where
      rows : s.streams l ≡ None → m.state.streams l ≡ None
      rows none = none_now (s.streams l) (m.state.streams l) (λ y e. (let x = o.row l y e in (x.0, x.1))) none

  gone_shuts : (s : State) (m : Made) (w : List Event) → Goes IsOther l s m → Shuts l s w → Shuts l m.state (w ++ m.told)
  gone_shuts s m w g h = record {
    none = λ above. absurd (let clash : None ≡ Some g.stream = sym (h.none (omega (arith, above, g.drawn))) ∙ g.is in cc);
    born = λ e. within;
    gone = λ e. now (shut_cases l w m.told e);
    last = λ t. last_dry t l w m.told (h.last t) (are_weaker (IsEndOf IsOther l) (IsDry l) (end_dry IsOther l l) m.told g.told);
  }
    where
      order : (a b : ℕ) → (a ≤ b) ⊎ (b < a)
      order a b = grind arith

      at : (l ≤ s.drawn) ⊎ (s.drawn < l) → l ≤ m.state.drawn
      at (inl le) = omega (arith, le, g.drawn)
      at (inr above) = absurd (let clash : None ≡ Some g.stream = sym (h.none above) ∙ g.is in cc)

      within : l ≤ m.state.drawn
      within = at (order l s.drawn)

      now : (is_shut l w ≡ true) ⊎ (is_shut l m.told ≡ true) → m.state.streams l ≡ None
      now (inl e) = absurd (let clash : None ≡ Some g.stream = sym (h.gone e) ∙ g.is in cc)
      now (inr e) = g.shut e

  other_shuts : (k : ℕ) (s : State) (m : Made) (w : List Event) → l ≢ k → Goes IsOther k s m → Shuts l s w → Shuts l m.state (w ++ m.told)
  other_shuts k s m w apart g h =
      still s m.state w m.told (omega (arith, g.drawn)) (λ none within. g.others l apart ∙ none)
      (λ above. g.others l apart ∙ h.none (omega (arith, above, g.drawn)))
      (are_weaker (IsEndOf IsOther k) (IsDry l) (end_dry IsOther k l) m.told g.told, end_not_shut l some k apart IsOther m.told g.told) h

  sent_shuts : (s : State) (x : Sending l s) (m : Made) (w : List Event) → Sends l s x m → Shuts l s w → Shuts l m.state (w ++ m.told)
  sent_shuts s x m w o h = record {
    none = λ above. absurd (open_row (h.none (omega (arith, above, o.drawn))));
    born = λ e. within;
    gone = λ e. now (shut_cases l w m.told e);
    last = λ t. subst (IsLast l) (sym (packets_append t w m.told))
        (last_append l (packets_to t w) (packets_to t m.told) (h.last t) (o.last t)
        (λ e. absurd (open_row (h.gone (close_shut t l w e)))));
  }
    where
      open_row : s.streams l ≡ None → ⊥
      open_row none = let clash : None ≡ Some x.stream = sym none ∙ x.there in cc

      order : (a b : ℕ) → (a ≤ b) ⊎ (b < a)
      order a b = grind arith

      at : (l ≤ s.drawn) ⊎ (s.drawn < l) → l ≤ m.state.drawn
      at (inl le) = omega (arith, le, o.drawn)
      at (inr above) = absurd (open_row (h.none above))

      within : l ≤ m.state.drawn
      within = at (order l s.drawn)

      now : (is_shut l w ≡ true) ⊎ (is_shut l m.told ≡ true) → m.state.streams l ≡ None
      now (inl e) = absurd (open_row (h.gone e))
      now (inr e) = o.shut e

  unsent_shuts : (k : ℕ) (s : State) (x : Sending k s) (m : Made) (w : List Event) → l ≢ k → Sends k s x m
      → Shuts l s w → Shuts l m.state (w ++ m.told)
  unsent_shuts k s x m w apart o h =
      still s m.state w m.told (omega (arith, o.drawn)) (λ none within. o.others l apart ∙ none)
      (λ above. o.others l apart ∙ h.none (omega (arith, above, o.drawn))) (
        are_weaker (IsUpOf k) (IsDry l) (λ e a. apart_dry l e (up_apart k l apart e a)) m.told o.told,
        up_not_shut l
            some k apart m.told o.told,
      ) h

  pub shuts_climbs : Climbs Heard (Shuts l)
  shuts_climbs = record {
    aside = λ s m w off h. still s m.state w m.told (omega (arith, off.drawn)) (λ none within. off.streams l ∙ none)
        (λ above. off.streams l ∙ h.none (omega (arith, above, off.drawn)))
        (are_weaker IsAside (IsDry l) (λ e a. apart_dry l e (aside_apart l e a)) m.told off.told, aside_not_shut l some m.told off.told) h;
    draws = λ c t x s w here asks h. record {
      none = λ above. draws_other l c t s (λ e. omega (arith, e, above)) ∙ h.none (omega (arith, above));
      born = λ e. omega (arith, h.born e);
      gone = λ e. draws_other l c t s (λ f. omega (arith, f, h.born e)) ∙ h.gone e;
      last = h.last;
    };
    parts = λ k stream part s w is level h. part_shuts k stream part s w is h;
    acks = λ k word stream s w is hears h. part_shuts k stream _ s w is h;
    opens = λ k remote word stream s w is new hears h. opens_shuts k stream s _ w (opens_made k remote word stream s is) h;
    goes = λ k s m w g h. goes k s m w g h (cases_eq k l);
    stops = λ c s w h. still s (stops c s).state w (stops c s).told (omega arith) (λ none within. refl) (λ above. refl)
        (stops_dry c s l, stops_not_shut c s l) h;
    sends = λ k s w x h. sends k s x w h (cases_eq k l);
  }
    where
      goes : (k : ℕ) (s : State) (m : Made) (w : List Event) → Goes IsOther k s m → Shuts l s w
          → (k ≡ l) ⊎ (k ≡ l → ⊥) → Shuts l m.state (w ++ m.told)
      goes k s m w g h (inl same) = gone_shuts s m w (subst (λ (n : ℕ). Goes IsOther n s m) same g) h
      goes k s m w g h (inr apart) = other_shuts k s m w (λ e. apart (sym e)) g h

      sends : (k : ℕ) (s : State) (x : Sending k s) (w : List Event) → Shuts l s w → (k ≡ l) ⊎ (k ≡ l → ⊥)
          → After (Shuts l) w (sends_up k x.stream x.client (sent k s x) s)
      sends k s x w h (inr apart) = unsent_shuts k s x _ w (λ e. apart (sym e)) (sends_made k s x) h
      sends k s x w h (inl same) =
          subst (λ (i : ℕ). (z : Sending i s) → After (Shuts l) w (sends_up i z.stream z.client (sent i s z) s))
          (sym same)
          (λ z. sent_shuts s z _ w (sends_made l s z) h) x

  -- ---- all entries
  module _ (s : State) (w : List Event) (h : Shuts l s w) where
    same_rows : (next : State) → next.drawn ≡ s.drawn → next.streams ≡ s.streams → Shuts l next w
    same_rows next drawn rows = quiet s next w drawn (λ none. ap (λ r. r l) rows ∙ none) h

    reads_in : (phase : Phase) (c : ℕ) (bytes : List ℕ) (x : Client) → ReadsIn shuts_climbs s w phase c bytes x
    reads_in Asking c bytes x = same_rows _ refl refl
    reads_in (Opening k) c bytes x = same_rows _ refl refl
    reads_in (Streaming k) c bytes x = same_rows _ refl refl
    reads_in _ c bytes x = h

    reads_of : (o : Option Client) (c : ℕ) (bytes : List ℕ) → ReadsOf shuts_climbs s w o c bytes
    reads_of None c bytes = h
    reads_of (Some x) c bytes = reads_in x.about.phase c bytes x

    begins : (e : Entry) → IsOwned s → Begins shuts_climbs e s w
    begins (Join c) owned = same_rows _ refl refl
    begins (Enter c port) owned = (same_rows _ refl refl, same_rows _ refl refl)
    begins (Read c bytes) owned = reads_of (s.clients c) c bytes
    begins (Recv t bytes) owned = (h, owned, λ s owned k. tt)
    begins _ owned = h

  pub all_shut : (h : History) → IsLegal h → Shuts l (state h) (told h)
  all_shut [] legal = record {
    none = λ above. refl;
    born = λ e. absurd (let clash : false ≡ true = e in cc);
    gone = λ e. refl;
    last = λ t. tt;
  }
  all_shut (e ∷ older) legal =
      step_climbs shuts_climbs e (state older) (told older)
      (begins (state older) (told older) (all_shut older legal.0) e (all_owned older legal.0))
