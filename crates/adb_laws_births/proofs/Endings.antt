-- In every legal history a stream that is kept no more has ended, and one that is kept has not.
use Rattle.std.proofs.Common.{◌≡◌, ◌≢◌, ℕ, ◌+◌, ◌<◌, ◌≤◌, zero, suc, Bool, true, false, cond, List, [], ◌∷◌, ◌++◌, length, Option, Some}
use Rattle.std.proofs.Common.{None, refl, sym, ap, subst, ◌∙◌}
use Rattle.std.proofs.Common.{◌⊎◌, inl, inr, arith, append_assoc}
use Rattle.std.specs.Prelude.{codes, is_some}
use Rattle.std.specs.Option.{option_or}
use Rattle.std.proofs.lemmas.Bool.{cases_eq}
use Rattle.adb_outside.specs.declared.kinds.Cause.{Cause}
use Rattle.adb_stream.specs.declared.row.Stream.{Stream}
use Rattle.adb_stream.specs.Flow.{new_flow, first_credit, accepted}
use Rattle.adb_stream.specs.Stream.{new_stream}
use Rattle.adb_client.specs.declared.phase.Phase.{Phase}
use Rattle.adb_client.specs.declared.phase.Phase.TheVariants.{Opening, Streaming}
use Rattle.adb_capture.specs.declared.entry.Entry.{Entry}
use Rattle.adb_capture.specs.declared.entry.Entry.TheVariants.{Enter, Read}
use Rattle.adb_reply.specs.Strings.{failed}
use Rattle.adb_history.specs.Rows.{Client, State, to_stream, none_kept}
use Rattle.adb_history.specs.Events.{Made, Event, quietly, due_to_client, due_to_link, ended, ending_in}
use Rattle.adb_history.specs.declared.ending.Ending.{Ending}
use Rattle.adb_history.specs.declared.ending.Ending.TheVariants.{ClientFailed, Lost, Stopped}
use Rattle.adb_history.specs.Links.{is_connected, is_credit}
use Rattle.adb_history.specs.Clients.{closes}
use Rattle.adb_history.specs.Streams.{loses, client_loses, tells_end, all_end}
use Rattle.adb_history.specs.Flow.{with_flow}
use Rattle.adb_history.specs.Tracking.{mark_all}
use Rattle.adb_history.specs.Losing.{forgets, orphaned, tells_stop, all_stop}
use Rattle.adb_history.specs.Packets.{streams_end_first, goes_online, with_remote}
use Rattle.adb_history.specs.Machine.{History, state, told, IsLegal}
use Rattle.adb_history.specs.Moves.{After, Moves}
use Rattle.adb_history.proofs.Following.{after_quietly, after_then}
use Rattle.adb_history.proofs.StreamMoves.{EndsKept, all_end_kept}
use Rattle.adb_history.proofs.RuleMoves.{Begins, step_kept}
use Rattle.adb_history.proofs.Numbers.{none_drawn}
use Rattle.adb_laws_births.specs.Ending.{EndsAs, EndingsAreRows}
use Rattle.adb_laws_births.proofs.Ending.{told_none, told_other, told_end, some_told, orphan_told, Ends, ends_quiet, part_changes, row_goes}
use Rattle.adb_laws_births.proofs.Ending.{row_comes}

-- what was told until then ends the streams that are gone
abbrev P : State → List Event → Type 0
P s w = Ends s.drawn s.streams w

-- ---- a stream ends
loses_kept : (forwarded : Bool) (phase : Phase) (c : ℕ) (s : State) (w : List Event) → P s w → After P w (loses forwarded phase c s)
loses_kept forwarded (Streaming l) c s w h = after_quietly P w (closes c s) h
loses_kept true (Opening l) c s w h = after_quietly P w (closes c s) h
loses_kept false (Opening l) c s w h = ends_quiet h (due_to_client c (failed (codes "closed")).bytes ∷ []) (λ l. refl)
loses_kept forwarded _ c s w h = after_quietly P w s h

client_loses_kept : (o : Option Client) (c : ℕ) (s : State) (w : List Event) → P s w → After P w (client_loses o c s)
client_loses_kept None c s w h = after_quietly P w s h
client_loses_kept (Some client) c s w h = loses_kept client.about.forwarded client.about.phase c s w h

ends_kept : EndsKept P
ends_kept l ending stream s w is h =
    let made : Made = tells_end stream.part.orphan l ending (to_stream l none_kept s) in
    after_then P w made (λ s. client_loses (s.clients stream.client) stream.client s) (tells stream.part.orphan refl)
    (λ v now. client_loses_kept (made.state.clients stream.client) stream.client made.state v now)
  where
    tells : (orphan : Bool) → stream.part.orphan ≡ orphan → After P w (tells_end orphan l ending (to_stream l none_kept s))
    tells true e =
        after_quietly P w (to_stream l none_kept s)
        (row_goes h l stream w is (λ k apart. refl) (orphan_told stream.part.orphan (ending_in l w) ((h.has l).kept stream is) e))
    tells false e = row_goes h l stream (w ++ ended l ending ∷ []) is (λ k apart. told_other l k w ending apart) (some_told l w ending)

link_ends_first : (b : Bool) (t : ℕ) (s : State) (w : List Event) → P s w → After P w (streams_end_first b t s)
link_ends_first true t s w h = all_end_kept ends_kept t Lost s w h
link_ends_first false t s w h = after_quietly P w s h

-- a client fails whose stream is not opened: it is an orphan from then on
asked_told : (orphan : Bool) (e : Option Ending) (cause : Cause) → EndsAs orphan e → EndsAs true (option_or e (Some (ClientFailed cause)))
asked_told true e cause (first, is) = (first, ap (λ (o : Option Ending). option_or o (Some (ClientFailed cause))) is)
asked_told false e cause none = (cause, ap (λ (o : Option Ending). option_or o (Some (ClientFailed cause))) none)

-- ---- the server stops
module _ (s : State) (w : List Event) (h : P s w) where
  -- the streams 1 to k have ended, and of the others nothing is told
  record IsStopped (k l : ℕ) : Type 0 where
    within : 0 < l → l ≤ k → is_some (ending_in l (w ++ all_stop k s.streams)) ≡ true
    past : (l ≡ 0) ⊎ (k < l) → ending_in l (w ++ all_stop k s.streams) ≡ ending_in l w

  stops_at : (l : ℕ) (v : List Event) (o : Option Stream) → s.streams l ≡ o → 0 < l → l ≤ s.drawn → ending_in l v ≡ ending_in l w
      → is_some (ending_in l (v ++ tells_stop l o)) ≡ true
  stops_at l v None is some drawn same = ap is_some (told_none l v [] refl ∙ same) ∙ (h.has l).gone is some drawn
  stops_at l v (Some stream) is some drawn same = go stream.part.orphan refl
    where
      go : (orphan : Bool) → stream.part.orphan ≡ orphan → is_some (ending_in l (v ++ cond orphan [] (ended l Stopped ∷ []))) ≡ true
      go true e = ap is_some (told_none l v [] refl ∙ same) ∙ orphan_told stream.part.orphan (ending_in l w) ((h.has l).kept stream is) e
      go false e = some_told l v Stopped

  stops_other : (n l : ℕ) (o : Option Stream) → n ≢ l → (v : List Event) → ending_in l (v ++ tells_stop n o) ≡ ending_in l v
  stops_other n l None apart v = told_none l v [] refl
  stops_other n l (Some stream) apart v = go stream.part.orphan
    where
      go : (orphan : Bool) → ending_in l (v ++ cond orphan [] (ended n Stopped ∷ [])) ≡ ending_in l v
      go true = told_none l v [] refl
      go false = told_other n l v Stopped apart

  all_stopped : (k l : ℕ) → k ≤ s.drawn → IsStopped k l
  all_stopped zero l le = record { within = λ some none. absurd (omega (arith, some, none)); past = λ out. told_none l w [] refl }
  all_stopped (suc k) l le = go (all_stopped k l (omega (arith, le))) (cases_eq l (suc k))
    where
      v : List Event
      v = w ++ all_stop k s.streams

      now : ending_in l (w ++ all_stop (suc k) s.streams) ≡ ending_in l (v ++ tells_stop (suc k) (s.streams (suc k)))
      now = ap (ending_in l) (sym (append_assoc w (all_stop k s.streams) (tells_stop (suc k) (s.streams (suc k)))))

      below : (l ≡ 0) ⊎ (suc k < l) → (l ≡ 0) ⊎ (k < l)
      below (inl zeroth) = inl zeroth
      below (inr above) = inr (omega (arith, above))

      not_last : (l ≡ 0) ⊎ (suc k < l) → l ≡ suc k → ⊥
      not_last (inl zeroth) same = omega (arith, zeroth, same)
      not_last (inr above) same = omega (arith, above, same)

      go : IsStopped k l → (l ≡ suc k) ⊎ (l ≡ suc k → ⊥) → IsStopped (suc k) l
      go earlier (inl same) = record {
        within = λ some in_. ap is_some now ∙ subst (λ (n : ℕ). is_some (ending_in l (v ++ tells_stop n (s.streams n))) ≡ true) same
            (stops_at l v (s.streams l) refl some (omega (arith, in_, le)) (earlier.past (inr (omega (arith, same)))));
        past = λ out. absurd (not_last out same);
      }
      go earlier (inr apart) =
          let same = now ∙ stops_other (suc k) l (s.streams (suc k)) (λ e. apart (sym e)) v in
          record {
            within = λ some in_. ap is_some same ∙ earlier.within some (omega (arith, in_, apart));
            past = λ out. same ∙ earlier.past (below out);
          }

  stops_kept : Ends s.drawn (λ l. None) (w ++ all_stop s.drawn s.streams)
  stops_kept = record {
    rows = none_drawn s.drawn;
    has = λ l. record {
      kept = λ stream e. absurd (let clash : None ≡ Some stream = e in cc);
      gone = λ none some within. (all_stopped s.drawn l (omega arith)).within some within;
      undrawn = λ out. (all_stopped s.drawn l (omega arith)).past out ∙ (h.has l).undrawn out;
    };
  }

-- ---- all moves
end_moves : Moves P
end_moves = record {
  owes = λ t p check s w of h. ends_quiet h (due_to_link t p check ∷ []) (λ l. refl);
  due = λ c bytes s w h. ends_quiet h (due_to_client c bytes ∷ []) (λ l. refl);
  closes = λ c client s w is free h. h;
  tracks = λ c client long s w is asking h. h;
  awaits = λ c client want s w is asking h. h;
  drops = λ c client s w is none h. h;
  holds = λ c client bytes s w is has h. h;
  unmarks = λ c s w h. h;
  input_ended = λ c s w h. h;
  hands = λ c n client s w is fits h. h;
  draws = λ c t client s w is asking ready h. row_comes h (new_stream (s.drawn + 1) c t (new_flow (is_credit t s.devices))) refl;
  flows = λ l stream flow s w is like h. part_changes h l stream w is (λ k apart. refl) (with_flow flow stream.part)
      ((h.has l).kept stream is);
  accepts = λ l payload stream s w is known turn h.
      let part = with_flow (accepted (length payload) stream.part.flow) stream.part in
      ends_quiet (part_changes h l stream w is (λ k apart. refl) part ((h.has l).kept stream is))
      (due_to_client stream.client payload ∷ []) (λ l. refl);
  opens = λ l remote word stream s w is new h.
      let part = with_remote remote (with_flow (first_credit word stream.part.flow) stream.part) in
      part_changes h l stream w is (λ k apart. refl) part ((h.has l).kept stream is);
  orphan_goes = λ l stream s w is orphan h.
      row_goes h l stream w is (λ k apart. refl) (orphan_told stream.part.orphan (ending_in l w) ((h.has l).kept stream is) orphan);
  ends = ends_kept;
  fails_open = λ c l failing s w at h.
      row_goes h l failing.stream (w ++ ended l (ClientFailed failing.cause) ∷ []) at.2
      (λ k apart. told_other l k w (ClientFailed failing.cause) apart) (some_told l w (ClientFailed failing.cause));
  fails_asked = λ c l failing s w at h.
      part_changes h l failing.stream (w ++ ended l (ClientFailed failing.cause) ∷ []) at.2
      (λ k apart. told_other l k w (ClientFailed failing.cause) apart) (orphaned failing.stream.part)
      (subst (EndsAs true) (sym (told_end l w (ClientFailed failing.cause)))
      (asked_told failing.stream.part.orphan (ending_in l w) failing.cause ((h.has l).kept failing.stream at.2)));
  links = λ t f s w h. h;
  link_ends = λ t ending s w h.
      after_then P w (all_end t ending (forgets t s)) (λ s. quietly (mark_all s)) (all_end_kept ends_kept t ending (forgets t s) w h)
      (λ v now. after_quietly P v (mark_all (all_end t ending (forgets t s)).state) now);
  online = λ t version maxdata identity s w h.
      let first : Made = streams_end_first (is_connected t s.devices) t s in
      after_then P w first (λ s. quietly (goes_online t version maxdata identity s)) (link_ends_first (is_connected t s.devices) t s w h)
      (λ v now. after_quietly P v (goes_online t version maxdata identity first.state) now);
  unauthorized = λ t row s w is offline h. h;
  forwards = λ forwards s w led h. h;
  stops = λ c client s w is asking h. stops_kept s w h;
}

begins_ends : (e : Entry) (s : State) (w : List Event) → P s w → Begins end_moves e s w
begins_ends (Enter c port) s w h = (h, h)
begins_ends (Read c bytes) s w h = (h, λ client is asking. h)
begins_ends _ s w h = h

all_end_so : (h : History) → P (state h) (told h)
all_end_so [] = record {
  rows = none_drawn 0;
  has = λ l. record {
    kept = λ stream e. absurd (let clash : None ≡ Some stream = e in cc);
    gone = λ none some within. absurd (omega (arith, some, within));
    undrawn = λ past. refl;
  };
}
all_end_so (e ∷ older) = step_kept end_moves e (state older) (told older) (begins_ends e (state older) (told older) (all_end_so older))

-- In every legal history a stream that was drawn and is kept no more has ended, and one that is kept has not, unless it is an orphan.
pub all_endings : (h : History) → IsLegal h → EndingsAreRows h
all_endings h legal l = (all_end_so h).has l
