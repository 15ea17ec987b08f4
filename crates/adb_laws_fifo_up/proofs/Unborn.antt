-- Of a stream that was not born nothing is kept, nothing goes up, and it does not end.
use Rattle.std.proofs.Common.{◌≡◌, ◌≢◌, ℕ, ◌<◌, List, [], ◌∷◌, ◌++◌, Option, Some, None, refl, sym, ap, ◌∙◌, arith}
use Rattle.adb_stream.specs.declared.row.Part.{Part}
use Rattle.adb_stream.specs.declared.row.Stream.{Stream}
use Rattle.adb_client.specs.declared.phase.Phase.{Phase}
use Rattle.adb_client.specs.declared.phase.Phase.TheVariants.{Asking, Opening, Streaming}
use Rattle.adb_capture.specs.declared.entry.Entry.{Entry}
use Rattle.adb_capture.specs.declared.entry.Entry.TheVariants.{Join, Enter, Read, Recv}
use Rattle.adb_history.specs.Rows.{Client, State, to_stream, with_stream_part}
use Rattle.adb_history.specs.Events.{Event, ending_in}
use Rattle.adb_history.specs.Machine.{History, state, told, IsLegal}
use Rattle.adb_history.specs.Owned.{IsOwned}
use Rattle.adb_history.proofs.Following.{changed_other}
use Rattle.adb_history.proofs.OwnedStep.{all_owned}
use Rattle.adb_laws_fifo_up.specs.Climbing.{carried, Are, Silent, Climbs}
use Rattle.adb_laws_fifo_up.proofs.Seeing.{are_append, carried_append, ending_or, ending_append, silent_aside, silent_end, silent_up}
use Rattle.adb_laws_fifo_up.proofs.Shutting.{IsDry, aside_are_dry, end_are_dry, up_are_dry}
use Rattle.adb_laws_fifo_up.proofs.Opened.{draws_other, opens_made}
use Rattle.adb_laws_fifo_up.proofs.SendsUp.{sends_made}
use Rattle.adb_laws_fifo_up.proofs.Stops.{stops_carries, stops_above, stops_dry}
use Rattle.adb_laws_fifo_up.proofs.RuleClimbs.{ReadsIn, ReadsOf, Begins, step_climbs}

pub record Unborn (l : ℕ) (s : State) (w : List Event) : Type 0 where
  pub none : s.drawn < l → s.streams l ≡ None
  pub silent : s.drawn < l → Silent l w
  pub dry : s.drawn < l → Are (IsDry l) w

pub silent_then : (l : ℕ) (u w : List Event) → Silent l u → Silent l w → Silent l (u ++ w)
silent_then l u w h i = record {
  carries = λ t. carried_append t l u w ∙ (ap (λ x. x ++ carried t l w) (h.carries t) ∙ i.carries t);
  lives = ending_append l u w ∙ (ap (λ e. ending_or e (ending_in l w)) h.lives ∙ i.lives);
}

abbrev pub Heard : State → ℕ → Type 0
Heard s k = Unit {0}

-- a stream that lives is not this one
apart_row : (k l : ℕ) (stream : Stream) (streams : ℕ → Option Stream) → streams l ≡ None → streams k ≡ Some stream → l ≢ k
apart_row k l stream streams none is same = let clash : None ≡ Some stream = sym none ∙ (ap streams same ∙ is) in cc

row_unborn : (l k : ℕ) (stream : Stream) (part : Part) (s : State) (w : List Event) → s.streams k ≡ Some stream → Unborn l s w
    → Unborn l (to_stream k (with_stream_part part) s) w
row_unborn l k stream part s w is h = record {
  none = λ above. changed_other k l (with_stream_part part) s.streams
      (λ e. apart_row k l stream s.streams (h.none above) is (sym e)) ∙ h.none above;
  silent = h.silent;
  dry = h.dry;
}

unborn_climbs : (l : ℕ) → Climbs Heard (Unborn l)
unborn_climbs l = record {
  aside = λ s m w off h. record {
    none = λ above. off.streams l ∙ h.none (omega (arith, above, off.drawn));
    silent = λ above. silent_then l w m.told (h.silent (omega (arith, above, off.drawn))) (silent_aside l m.told off.told);
    dry = λ above. are_append (IsDry l) w m.told (h.dry (omega (arith, above, off.drawn))) (aside_are_dry l m.told off.told);
  };
  draws = λ c t x s w here asks h. record {
    none = λ above. draws_other l c t s (λ e. omega (arith, above, e)) ∙ h.none (omega (arith, above));
    silent = λ above. h.silent (omega (arith, above));
    dry = λ above. h.dry (omega (arith, above));
  };
  parts = λ k stream part s w is level h. row_unborn l k stream part s w is h;
  acks = λ k word stream s w is hears h. row_unborn l k stream _ s w is h;
  opens = λ k remote word stream s w is new hears h.
      let m = opens_made k remote word stream s is in
      record {
        none = λ above. m.others l (apart_row k l stream s.streams (h.none (omega (arith, above, m.drawn))) is)
            ∙ h.none (omega (arith, above, m.drawn));
        silent = λ above. silent_then l w _ (h.silent (omega (arith, above, m.drawn))) (silent_aside l _ m.told);
        dry = λ above. are_append (IsDry l) w _ (h.dry (omega (arith, above, m.drawn))) (aside_are_dry l _ m.told);
      };
  goes = λ k s m w g h. record {
    none = λ above.
        g.others l (apart_row k l g.stream s.streams (h.none (omega (arith, above, g.drawn))) g.is)
        ∙ h.none (omega (arith, above, g.drawn));
    silent = λ above. silent_then l w m.told (h.silent (omega (arith, above, g.drawn)))
        (silent_end _ k l (apart_row k l g.stream s.streams (h.none (omega (arith, above, g.drawn))) g.is) m.told g.told);
    dry = λ above. are_append (IsDry l) w m.told (h.dry (omega (arith, above, g.drawn))) (end_are_dry _ k l m.told g.told);
  };
  stops = λ c s w h. record {
    none = λ above. refl;
    silent = λ above. silent_then l w _ (h.silent above) (record { carries = λ t. stops_carries c s t l; lives = stops_above c s l above });
    dry = λ above. are_append (IsDry l) w _ (h.dry above) (stops_dry c s l);
  };
  sends = λ k s w x h.
      let m = sends_made k s x in
      record {
        none = λ above. m.others l (apart_row k l x.stream s.streams (h.none (omega (arith, above, m.drawn))) x.there)
            ∙ h.none (omega (arith, above, m.drawn));
        silent = λ above. silent_then l w _ (h.silent (omega (arith, above, m.drawn)))
            (silent_up k l (apart_row k l x.stream s.streams (h.none (omega (arith, above, m.drawn))) x.there) _ m.told);
        dry = λ above. are_append (IsDry l) w _ (h.dry (omega (arith, above, m.drawn)))
            (up_are_dry k l (apart_row k l x.stream s.streams (h.none (omega (arith, above, m.drawn))) x.there) _ m.told);
      };
}

module _ (l : ℕ) (s : State) (w : List Event) (h : Unborn l s w) where
  reads_in : (phase : Phase) (c : ℕ) (bytes : List ℕ) (x : Client) → ReadsIn (unborn_climbs l) s w phase c bytes x
  reads_in Asking c bytes x = record { none = h.none; silent = h.silent; dry = h.dry }
  reads_in (Opening k) c bytes x = record { none = h.none; silent = h.silent; dry = h.dry }
  reads_in (Streaming k) c bytes x = record { none = h.none; silent = h.silent; dry = h.dry }
  reads_in _ c bytes x = h

  reads_of : (o : Option Client) (c : ℕ) (bytes : List ℕ) → ReadsOf (unborn_climbs l) s w o c bytes
  reads_of None c bytes = h
  reads_of (Some x) c bytes = reads_in x.about.phase c bytes x

  begins : (e : Entry) → IsOwned s → Begins (unborn_climbs l) e s w
  begins (Join c) owned = record { none = h.none; silent = h.silent; dry = h.dry }
  begins (Enter c port) owned = (
    record { none = h.none; silent = h.silent; dry = h.dry },
    record { none = h.none; silent = h.silent; dry = h.dry },
  )
  begins (Read c bytes) owned = reads_of (s.clients c) c bytes
  begins (Recv t bytes) owned = (h, owned, λ s owned k. tt)
  begins _ owned = h

pub all_unborn : (h : History) → IsLegal h → (l : ℕ) → Unborn l (state h) (told h)
all_unborn [] legal l = record { none = λ above. refl; silent = λ above. record { carries = λ t. refl; lives = refl }; dry = λ above. tt }
all_unborn (e ∷ older) legal l =
    step_climbs (unborn_climbs l) e (state older) (told older)
    (begins l (state older) (told older) (all_unborn older legal.0 l) e (all_owned older legal.0))
