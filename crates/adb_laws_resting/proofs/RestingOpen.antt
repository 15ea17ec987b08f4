-- What comes from a client that has its stream open goes up that stream alone.
use Rattle.std.proofs.Common.{ℕ, ◌≡◌, ◌≢◌, ◌≤◌, ◌<◌, zero, suc, true, List, [], ◌++◌, Option, Some, None, refl, sym, ◌∙◌, ap, subst, arith}
use Rattle.std.proofs.Common.{◌⊎◌, inl, inr}
use Rattle.std.proofs.lemmas.Bool.{eqb-true}
use Rattle.adb_outside.specs.Tables.{Rows}
use Rattle.adb_outside.specs.declared.kinds.Cause.TheVariants.{Eof}
use Rattle.adb_stream.specs.declared.row.Stream.{Stream}
use Rattle.adb_client.specs.declared.phase.Phase.{Phase}
use Rattle.adb_client.specs.declared.phase.Phase.TheVariants.{Streaming}
use Rattle.adb_capture.specs.declared.entry.Entry.TheVariants.{Read, End}
use Rattle.adb_history.specs.Rows.{Client, State, to_client, with_held}
use Rattle.adb_history.specs.Links.{maxdata_of}
use Rattle.adb_history.specs.Losing.{input_ended, input_ends, client_ends}
use Rattle.adb_history.specs.Reading.{reads_in, reads_from}
use Rattle.adb_history.specs.Flow.{payloads, is_streaming, up, up_all}
use Rattle.adb_history.specs.Events.{Made}
use Rattle.adb_history.specs.Machine.{History, state, rule, ups, IsLegal}
use Rattle.adb_history.specs.Moves.{IsClientIn}
use Rattle.adb_history.specs.Orderly.{IsResting, IsDrawnOnly, IsOrderly}
use Rattle.adb_history.proofs.OrderlyStates.{orderly}
use Rattle.adb_history.proofs.Quiet.{IsCalmAt}
use Rattle.adb_laws_resting.specs.Resting.{GoesUpBy, GoesUpAlone}
use Rattle.adb_laws_resting.proofs.RestingUp.{one_up}
use Rattle.adb_laws_resting.proofs.RestingRows.{AllCalm, calm_is, client_calm, all_calm}

order : (a b : ℕ) → (a ≤ b) ⊎ (b < a)
order a b = grind arith

-- a number under which something is kept was drawn
kept_drawn : {A : Type 0} (drawn l : ℕ) (rows : Rows (Option A)) (row : A) → IsDrawnOnly drawn rows
    → rows l ≡ Some row → (0 < l) × (l ≤ drawn)
kept_drawn drawn zero rows row h is = absurd (let clash : None ≡ Some row = sym h.zero ∙ is in cc)
kept_drawn drawn (suc l) rows row h is = (omega arith, by_order (order (suc l) drawn))
  where
    by_order : (suc l ≤ drawn) ⊎ (drawn < suc l) → suc l ≤ drawn
    by_order (inl le) = le
    by_order (inr above) = absurd (let clash : None ≡ Some row = sym (h.above (suc l) above) ∙ is in cc)

module _ (s : State) (calm : AllCalm s) (h : IsOrderly s) where
  module _ (c l : ℕ) (x : IsClientIn s c (Streaming l)) where
    rests : IsResting (Streaming l) s c x.client
    rests = subst (λ (p : Phase). IsResting p s c x.client) x.in_phase (h.client c x.client x.here).rests

    -- a change of its client leaves each other stream calm
    others_calm : (f : Client → Client) → ((y : Client) → (f y).about.phase ≡ y.about.phase)
        → (m : ℕ) → 0 < m → m ≢ l → IsCalmAt m (to_client c (λ y. Some (f y)) s)
    others_calm f same m some apart = calm_is m (to_client c (λ y. Some (f y)) s)
        (client_calm m c (λ y. Some (f y)) s (λ old new is to streaming. absurd (none old new is to streaming)) (calm m))
      where
        none : (old new : Client) → s.clients c ≡ Some old → Some (f old) ≡ Some new → is_streaming m new.about.phase ≡ true → ⊥
        none old new is to streaming =
            let row : x.client ≡ old = (let both : Some x.client ≡ Some old = sym x.here ∙ is in cc) in
            let made : f old ≡ new = cc in
            let phase : new.about.phase ≡ Streaming l =
            ap (λ (y : Client). y.about.phase) (sym made) ∙ (same old ∙ (ap (λ (y : Client). y.about.phase) (sym row) ∙ x.in_phase)) in
            apart (sym (eqb-true l m (ap (is_streaming m) (sym phase) ∙ streaming)))

    goes_up : (f : Client → Client) → ((y : Client) → (f y).about.phase ≡ y.about.phase)
        → up_all s.drawn (to_client c (λ y. Some (f y)) s) ≡ up l (to_client c (λ y. Some (f y)) s)
    goes_up f same =
        let own = rests.0 in
        let drawn = kept_drawn s.drawn l s.streams own.stream h.streams own.is in
        one_up l (to_client c (λ y. Some (f y)) s) (others_calm f same) s.drawn drawn.0 drawn.1

    read_state : (bytes : List ℕ) → (rule (Read c bytes) s).state ≡ to_client c (with_held (x.client.held ++ bytes)) s
    read_state bytes =
        ap (λ (o : Option Client). (reads_from o c bytes s).state) x.here
        ∙ ap (λ (p : Phase). (reads_in p c bytes x.client s).state) x.in_phase

    ends_state : (rule (End c Eof) s).state ≡ to_client c input_ended s
    ends_state = ap (λ (o : Option Client). (client_ends c Eof o s).state) x.here ∙ ap (λ (p : Phase). input_ends p c s) x.in_phase

    read_goes_up : (bytes : List ℕ) → GoesUpBy l (Read c bytes) s
    read_goes_up bytes =
        ap ups (read_state bytes)
        ∙ (goes_up (λ y. record y { held = x.client.held ++ bytes }) (λ y. refl)
        ∙ sym (ap (up l) (read_state bytes)))

    end_goes_up : GoesUpBy l (End c Eof) s
    end_goes_up =
        ap ups ends_state
        ∙ (goes_up (λ y. record y { about = record y.about { ended = true } }) (λ y. refl) ∙ sym (ap (up l) ends_state))

    end_is_quiet : (stream : Stream) → (rule (End c Eof) s).state.streams l ≡ Some stream
        → payloads stream.part.flow (maxdata_of stream.link s.devices) x.client.held ≡ []
    end_is_quiet stream is = (rests.1 stream (sym (ap (λ (t : State). t.streams l) ends_state) ∙ is)).nothing

  alone : GoesUpAlone s
  alone = record {
    read = λ c l bytes x. ap (λ (m : Made). m.state) (read_goes_up c l x bytes);
    read_by = λ c l bytes x. read_goes_up c l x bytes;
    ended = λ c l x. ap (λ (m : Made). m.state) (end_goes_up c l x);
    ended_by = λ c l x. end_goes_up c l x;
    quiet = λ c l x stream is. end_is_quiet c l x stream is;
  }

pub goes_up_alone : (h : History) → IsLegal h → GoesUpAlone (state h)
goes_up_alone h legal = alone (state h) (all_calm h legal) (orderly h legal)
