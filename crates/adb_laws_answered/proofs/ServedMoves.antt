-- What a client is handed that asked for a stream, through each move of another client, of a stream and of a link.
use Rattle.std.proofs.Common.{◌≡◌, ◌≢◌, ℕ, ◌≤◌, zero, suc, Bool, true, false, cond, List, [], ◌∷◌, ◌++◌, Option, Some, None, refl, sym, ap}
use Rattle.std.proofs.Common.{subst, ◌∙◌, eqb}
use Rattle.std.proofs.Common.{append_assoc, inl, inr}
use Rattle.std.proofs.lemmas.Bool.{ne_eqb, eqb-true, eqb-false, eq-eqb}
use Rattle.std.proofs.lemmas.List.{append-nil}
use Rattle.std.specs.Prelude.{codes, option_and_then}
use Rattle.adb_outside.specs.Tables.{Rows, change_row}
use Rattle.adb_stream.specs.declared.row.Part.{Part}
use Rattle.adb_stream.specs.declared.row.Stream.{Stream}
use Rattle.adb_client.specs.declared.phase.Phase.{Phase}
use Rattle.adb_client.specs.declared.phase.Phase.TheVariants.{Opening, Streaming}
use Rattle.adb_reply.specs.Strings.{okay, failed}
use Rattle.adb_history.specs.Rows.{Client, State, to_stream, none_kept, with_stream_part}
use Rattle.adb_history.specs.Events.{Made, Event, then_also, ended, owed_to, ending_in}
use Rattle.adb_history.specs.declared.ending.Ending.{Ending}
use Rattle.adb_history.specs.Streams.{loses, client_loses, tells_end, ends_row}
use Rattle.adb_history.specs.Orderly.{phase_for}
use Rattle.adb_history.specs.Answered.{tells_closed, closed_reply}
use Rattle.adb_history.specs.Owned.{OwnerIn}
use Rattle.adb_history.proofs.Growing.{owed_append}
use Rattle.adb_history.proofs.OwnedMoves.{client_of}
use Rattle.adb_history.proofs.OwnedStep.{owned_moves, ends_state, client_loses_frame}
use Rattle.adb_history.specs.Turns.{EndsSo}
use Rattle.adb_laws_answered.specs.Served.{PhaseFor, RowServed, OutBy, IsItsOwn, IsServed}
use Rattle.adb_laws_answered.proofs.ToldOthers.{client_loses_owed}
use Rattle.adb_laws_answered.proofs.SteadyRows.{IsSteady, at_client_loses}
use Rattle.adb_laws_answered.proofs.Endings.{first_of, ending_append, quiet_ending, none_first, client_loses_ending}

pub steady : (l : ℕ) (heard : Bool) → IsSteady (RowServed l heard)
steady l heard = record {
  closing = λ x y phase forwarded h.
      record { alone = forwarded ∙ h.alone; phase = subst (λ (p : Phase). PhaseFor p l heard) (sym phase) tt };
  like = λ x y phase forwarded h.
      record { alone = forwarded ∙ h.alone; phase = subst (λ (p : Phase). PhaseFor p l heard) (sym phase) h.phase };
}

-- ---- the row of its stream
module _ (l : ℕ) (R : Stream → Type 0) where
  pub own_change : (n : ℕ) (f : Stream → Option Stream) (streams : Rows (Option Stream))
      → ((x y : Stream) → streams l ≡ Some x → n ≡ l → f x ≡ Some y → R x
      → R y)
      → ((x : Stream) → streams l ≡ Some x → R x) → (y : Stream) → change_row n (option_and_then f) streams l ≡ Some y → R y
  own_change n f streams keeps h y is = go (eqb n l) refl (streams l) refl is
    where
      go : (b : Bool) → eqb n l ≡ b → (o : Option Stream) → streams l ≡ o → cond b (option_and_then f o) o ≡ Some y → R y
      go false e o here is = h y (here ∙ is)
      go true e None here is = absurd (let clash : None ≡ Some y = is in cc)
      go true e (Some x) here is = keeps x y here (eqb-true n l e) is (h x here)

  pub own_none : (n : ℕ) (streams : Rows (Option Stream)) → ((x : Stream) → streams l ≡ Some x → R x)
      → (y : Stream) → change_row n (option_and_then none_kept) streams l ≡ Some y → R y
  own_none n streams h = own_change n none_kept streams (λ x y here same e was. absurd (let clash : None ≡ Some y = e in cc)) h

module _ (l c : ℕ) (Live : Type 0) where
  -- a part changes that stays as much an orphan
  pub own_part : (n : ℕ) (stream : Stream) (part : Part) (streams : Rows (Option Stream)) → streams n ≡ Some stream
      → part.orphan ≡ stream.part.orphan
      → ((x : Stream) → streams l ≡ Some x → IsItsOwn c Live x)
      → (y : Stream) → change_row n (option_and_then (with_stream_part part)) streams l ≡ Some y → IsItsOwn c Live y
  own_part n stream part streams is orphan h =
      own_change l (IsItsOwn c Live) n (with_stream_part part) streams (λ x y here same e was. keeps x y here same e was) h
    where
      keeps : (x y : Stream) → streams l ≡ Some x → n ≡ l → with_stream_part part x ≡ Some y → IsItsOwn c Live x → IsItsOwn c Live y
      keeps x y here same e was =
          let row : record x { part = part } ≡ y = cc in
          let both : Some stream ≡ Some x = sym is ∙ (ap streams same ∙ here) in
          let it : stream ≡ x = cc in
          subst (IsItsOwn c Live) row (record {
            client = was.client;
            live = λ e. was.live (ap (λ (z : Stream). z.part.orphan) (sym it) ∙ (sym orphan ∙ e));
          })

-- ---- what became due
module _ (c l : ℕ) (replies : List ℕ) where
  -- nothing becomes due, and no end is told of that its client hears
  pub out_quiet : (heard : Bool) (w es : List Event) → owed_to c es ≡ [] → tells_closed (ending_in l es) ≡ false
      → OutBy heard replies (owed_to c w) (ending_in l w) → OutBy heard replies (owed_to c (w ++ es)) (ending_in l (w ++ es))
  out_quiet true w es none quiet (bytes, is) =
      (bytes, owed_append c w es ∙ (ap (λ x. owed_to c w ++ x) none ∙ (append-nil (owed_to c w) ∙ is)))
  out_quiet false w es none quiet is =
      owed_append c w es ∙ (ap (λ x. owed_to c w ++ x) none ∙ (append-nil (owed_to c w) ∙ (is
      ∙ ap (λ (b : Bool). replies ++ closed_reply b)
      (sym (ap tells_closed (ending_append l w es) ∙ quiet_ending (ending_in l w) (ending_in l es) quiet)))))

  -- whatever becomes due to a client that heard that its stream is open
  pub out_heard : (w es : List Event) → OutBy true replies (owed_to c w) (ending_in l w)
      → OutBy true replies (owed_to c (w ++ es)) (ending_in l (w ++ es))
  out_heard w es (bytes, is) = (
    bytes ++ owed_to c es,
    owed_append c w es ∙ (ap (λ x. x ++ owed_to c es) is
        ∙ (append_assoc replies (okay ++ bytes) (owed_to c es) ∙ ap (λ x. replies ++ x) (append_assoc okay bytes (owed_to c es)))),
  )

  pub still_alive : (heard : Bool) (w es : List Event) → ending_in l es ≡ None → (heard ≡ false → ending_in l w ≡ None)
      → heard ≡ false → ending_in l (w ++ es) ≡ None
  still_alive heard w es none alive e = ending_append l w es ∙ none_first (ending_in l w) (ending_in l es) (alive e) none

-- ---- the phase of its client
pub phase_of_own : (k l remote : ℕ) (heard : Bool) → PhaseFor (phase_for k remote) l heard → k ≡ l
phase_of_own k l zero heard h = h.0
phase_of_own k l (suc remote) heard h = h.0

pub phase_waiting : (k l remote : ℕ) → PhaseFor (phase_for k remote) l false → remote ≡ 0
phase_waiting k l zero h = refl
phase_waiting k l (suc remote) h = absurd (let clash : false ≡ true = h.1 in cc)

pub phase_open : (k l remote : ℕ) → PhaseFor (phase_for k remote) l true → remote ≢ 0
phase_open k l zero h e = let clash : true ≡ false = h.1 in cc
phase_open k l (suc remote) h e = cc

-- what a client that waits hears when its stream ends for a cause that it is told
pub closed_told : (c l : ℕ) (client : Client) (s : State) → client.about.forwarded ≡ false → client.about.phase ≡ Opening l
    → owed_to c (client_loses (Some client) c s).told ≡ (failed (codes "closed")).bytes
closed_told c l client s alone waits =
    ap (λ (b : Bool). owed_to c (loses b client.about.phase c s).told) alone
    ∙ (ap (λ (p : Phase). owed_to c (loses false p c s).told) waits
    ∙ (ap (λ (b : Bool). cond b (failed (codes "closed")).bytes [] ++ []) (eq-eqb c c refl) ∙ append-nil (failed (codes "closed")).bytes))

module _ (c l : ℕ) (replies : List ℕ) where
  -- its stream ends
  end_out : (heard : Bool) (ending : Ending) (remote : ℕ) (client : Client) (s : State) (w : List Event) → RowServed l heard client
      → client.about.phase ≡ phase_for l remote → (remote ≡ 0 → tells_closed (Some ending) ≡ true) → (heard ≡ false → ending_in l w ≡ None)
      → OutBy heard replies (owed_to c w) (ending_in l w)
      → OutBy heard replies (owed_to c (w ++ ended l ending ∷ (client_loses (Some client) c s).told))
      (ending_in l (w ++ ended l ending ∷ (client_loses (Some client) c s).told))
  end_out true ending remote client s w row phase so alive out =
      out_heard c l replies w (ended l ending ∷ (client_loses (Some client) c s).told) out
  end_out false ending remote client s w row phase so alive out =
      owed_append c w (ended l ending ∷ told)
      ∙ (ap (λ x. x ++ owed_to c told)
      (out ∙ (ap (λ (o : Option Ending). replies ++ closed_reply (tells_closed o)) (alive refl)
      ∙ append-nil replies))
      ∙ (ap (λ x. replies ++ x) (closed_told c l client s row.alone (phase ∙ ap (phase_for l) waits))
      ∙ ap (λ (b : Bool). replies ++ closed_reply b) (sym tells)))
    where
      told : List Event
      told = (client_loses (Some client) c s).told

      waits : remote ≡ 0
      waits = phase_waiting l l remote (subst (λ (p : Phase). PhaseFor p l false) phase row.phase)

      tells : tells_closed (ending_in l (w ++ ended l ending ∷ (client_loses (Some client) c s).told)) ≡ true
      tells = ap tells_closed (ending_append l w (ended l ending ∷ (client_loses (Some client) c s).told))
          ∙ (ap (λ (o : Option Ending). tells_closed
          (first_of o (ending_in l (ended l ending ∷ (client_loses (Some client) c s).told)))) (alive refl)
          ∙ (ap (λ (b : Bool). tells_closed
          (cond b (Some ending) (ending_in l (client_loses (Some client) c s).told))) (eq-eqb l l refl)
          ∙ so waits))

module _ (heard : Bool) (c l : ℕ) (replies : List ℕ) where
  abbrev pub S : State → List Event → Type 0
  S s w = IsServed heard c l replies s w

  -- a stream of the client is this one
  pub its_client : (k : ℕ) (stream : Stream) (s : State) (w : List Event) → s.streams k ≡ Some stream
      → stream.part.orphan ≡ false → stream.client ≡ c → S s w
      → PhaseFor (phase_for k stream.part.remote) l heard
  its_client k stream s w is owned same h =
      let of = client_of s k stream is owned h.owned in
      subst (λ (p : Phase). PhaseFor p l heard) of.phase
      (h.row of.client (subst (λ (n : ℕ). s.clients n ≡ Some of.client) same of.is)).phase

  -- ---- stream end
  module _ (k : ℕ) (ending : Ending) (stream : Stream) (s : State) (w : List Event) (is : s.streams k ≡ Some stream) (h : S s w) where
    gone : State
    gone = to_stream k none_kept s

    ends_made : Bool → Made
    ends_made b = then_also (tells_end b k ending gone) (λ s. client_loses (s.clients stream.client) stream.client s)

    told_ending : (b : Bool) → eqb k l ≡ false → ending_in l (ends_made b).told ≡ None
    unfolding gone ends_made
    told_ending true e = client_loses_ending l (s.clients stream.client) stream.client (to_stream k none_kept s)
    told_ending false e =
        ap (λ (b : Bool). cond b (Some ending)
        (ending_in l (client_loses (s.clients stream.client) stream.client (to_stream k none_kept s)).told)) e
        ∙ client_loses_ending l (s.clients stream.client) stream.client (to_stream k none_kept s)

    apart_stream : eqb stream.client c ≡ false → eqb k l ≡ false
    apart_stream e = ne_eqb k l (λ same. eqb-false stream.client c e (h.own stream (ap s.streams (sym same) ∙ is)).client)

    ends_own : (b : Bool) → (y : Stream) → change_row k (option_and_then none_kept) s.streams l ≡ Some y
        → IsItsOwn c (heard ≡ false → ending_in l (w ++ (ends_made b).told) ≡ None) y
    ends_own b y at_l = go (eqb k l) refl at_l
      where
        nothing : (o : Option Stream) → option_and_then none_kept o ≡ Some y → ⊥
        nothing None e = let clash : None ≡ Some y = e in cc
        nothing (Some x) e = let clash : None ≡ Some y = e in cc

        go : (here : Bool) → eqb k l ≡ here → cond here (option_and_then none_kept (s.streams l)) (s.streams l) ≡ Some y
            → IsItsOwn c (heard ≡ false → ending_in l (w ++ (ends_made b).told) ≡ None) y
        go true e at = absurd (nothing (s.streams l) at)
        go false e at =
            let was = h.own y at in
            record { client = was.client; live = λ o. still_alive c l replies heard w (ends_made b).told (told_ending b e) (was.live o) }

    closes_so : EndsSo (λ l. Unit {0}) s.clients k ending stream → stream.client ≡ c → k ≡ l → stream.part.remote ≡ 0
        → stream.part.orphan ≡ false
        → tells_closed (Some ending) ≡ true
    closes_so (inl (told, may)) same here none owned = told
    closes_so (inr (inl some)) same here none owned = absurd (some none)
    closes_so (inr (inr (client, there, streaming))) same here none owned =
        let of = client_of s k stream is owned h.owned in
        let both : Some of.client ≡ Some client = sym of.is ∙ there in
        let row : of.client ≡ client = cc in
        let clash : Opening k ≡ Streaming k = sym (of.phase ∙ ap (phase_for k) none)
        ∙ (ap (λ (x : Client). x.about.phase) row ∙ streaming) in
        absurd (cc)

    ends_out : (b : Bool) → stream.part.orphan ≡ b → (same : Bool) → eqb stream.client c ≡ same
        → EndsSo (λ l. Unit {0}) s.clients k ending stream
        → OutBy heard replies (owed_to c (w ++ (ends_made b).told)) (ending_in l (w ++ (ends_made b).told))
    unfolding gone ends_made
    ends_out true e same f so =
        let owner : OwnerIn true s.clients k stream = subst (λ (b : Bool). OwnerIn b s.clients k stream) e
        (h.owned.owned.stream k stream is).owner in
        out_quiet c l replies heard w (ends_made true).told
        (ap (λ (o : Option Client). owed_to c (client_loses o stream.client (to_stream k none_kept s)).told) owner.1)
        (ap tells_closed (client_loses_ending l (s.clients stream.client) stream.client (to_stream k none_kept s))) h.out
    ends_out false e false f so =
        out_quiet c l replies heard w (ends_made false).told
        (client_loses_owed c (s.clients stream.client) stream.client (to_stream k none_kept s) f)
        (ap tells_closed (told_ending false (apart_stream f))) h.out
    ends_out false e true f so =
        let same : stream.client ≡ c = eqb-true stream.client c f in
        let of = client_of s k stream is e h.owned in
        let at_c : s.clients c ≡ Some of.client = subst (λ (n : ℕ). s.clients n ≡ Some of.client) same of.is in
        let here : k ≡ l = phase_of_own k l stream.part.remote heard (its_client k stream s w is e same h) in
        let at_l : s.streams l ≡ Some stream = ap s.streams (sym here) ∙ is in
        let out = end_out c l replies heard ending stream.part.remote of.client (to_stream k none_kept s) w (h.row of.client at_c)
        (of.phase ∙ ap (λ (n : ℕ). phase_for n stream.part.remote) here) (λ none. closes_so so same here none e)
        ((h.own stream at_l).live e) h.out in
        subst (λ (t : List Event). OutBy heard replies (owed_to c (w ++ t)) (ending_in l (w ++ t)))
        (ap (λ (n : ℕ). ended n ending ∷ (client_loses (Some of.client) c (to_stream k none_kept s)).told) (sym here)
        ∙ (ap (λ (n : ℕ). ended k ending ∷ (client_loses (Some of.client) n (to_stream k none_kept s)).told) (sym same)
        ∙ ap (λ (o : Option Client). ended k ending ∷ (client_loses o stream.client (to_stream k none_kept s)).told) (sym of.is))) out

    left_state : (ends_row k ending stream s).state
        ≡ record (to_stream k none_kept s) {
          clients = (client_loses (s.clients stream.client) stream.client (to_stream k none_kept s)).state.clients;
        }
    left_state = ends_state k ending stream s ∙ client_loses_frame (s.clients stream.client) stream.client (to_stream k none_kept s)

    pub ends_served : EndsSo (λ l. Unit {0}) s.clients k ending stream
        → S (ends_row k ending stream s).state (w ++ (ends_row k ending stream s).told)
    unfolding gone ends_made
    ends_served so = record {
      owned = owned_moves.ends k ending stream s w is h.owned;
      row = subst (λ (x : State). (client : Client) → x.clients c ≡ Some client → RowServed l heard client)
          (sym (ends_state k ending stream s))
          (at_client_loses (steady l heard) c (s.clients stream.client) stream.client (to_stream k none_kept s) h.row);
      own = subst (λ (x : State). (y : Stream) → x.streams l ≡ Some y
          → IsItsOwn c (heard ≡ false → ending_in l (w ++ (ends_row k ending stream s).told) ≡ None) y) (sym left_state)
          (ends_own stream.part.orphan);
      drawn = subst (λ (x : State). l ≤ x.drawn) (sym left_state) h.drawn;
      out = ends_out stream.part.orphan refl (eqb stream.client c) refl so;
    }
