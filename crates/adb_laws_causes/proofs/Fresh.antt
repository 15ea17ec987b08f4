-- A stream that an entry draws does not end by it.
use Rattle.std.proofs.Common.{◌≡◌, ◌≤◌, ◌<◌, ◌+◌, ℕ, Bool, true, false, cond, List, Option, Some, None, refl, sym, ap, ◌∙◌, eqb}
use Rattle.std.proofs.Common.{arith}
use Rattle.std.specs.Prelude.{option_and_then}
use Rattle.std.proofs.lemmas.Bool.{eq-eqb}
use Rattle.adb_outside.specs.Tables.{at}
use Rattle.adb_forward.specs.declared.row.ForwardRow.{ForwardRow}
use Rattle.adb_stream.specs.Stream.{new_stream}
use Rattle.adb_stream.specs.Flow.{new_flow}
use Rattle.adb_stream.specs.declared.row.Stream.{Stream}
use Rattle.adb_client.specs.declared.phase.Phase.{Phase}
use Rattle.adb_client.specs.declared.phase.Phase.TheVariants.{Asking, Opening, Streaming}
use Rattle.adb_reply.specs.declared.answer.Next.{Next}
use Rattle.adb_reply.specs.declared.answer.Next.TheVariants.{Close, Select, Track, Open, Bind, Rebind, Unbind, UnbindAll, Stop}
use Rattle.adb_capture.specs.declared.entry.Entry.{Entry}
use Rattle.adb_capture.specs.declared.entry.Entry.TheVariants.{Enter, Read}
use Rattle.adb_history.specs.Rows.{Client, State, to_client, in_phase}
use Rattle.adb_history.specs.Events.{Made, quietly, ending_in}
use Rattle.adb_history.specs.declared.ending.Ending.{Ending}
use Rattle.adb_history.specs.Links.{is_connected, is_credit}
use Rattle.adb_history.specs.Clients.{owe_client}
use Rattle.adb_history.specs.Streams.{stream_ids, asks_for, no_ids_left, opens}
use Rattle.adb_history.specs.Flow.{is_streaming}
use Rattle.adb_history.specs.Asking.{Asked, asks_with}
use Rattle.adb_history.specs.Losing.{all_stop, stops}
use Rattle.adb_history.specs.Reading.{comes, comes_in_vain, enters_by, goes_on, asked_before, has_asked, asks, reads_in, reads_from}
use Rattle.adb_history.specs.Machine.{rule}
use Rattle.adb_history.specs.Moves.{draws_now}
use Rattle.adb_history.proofs.Sweep.{Sending}
use Rattle.adb_laws_causes.proofs.Fates.{lives}
use Rattle.adb_laws_causes.proofs.RuleFates.{draws, stops_some}
use Rattle.adb_laws_causes.proofs.Goings.{GoesOn, no_stream_goes}

-- what a rule makes of a stream that was not drawn before
pub record Fresh (l : ℕ) (m : Made) : Type 0 where
  pub told : ending_in l m.told ≡ None
  pub goes : GoesOn l m.state
  pub alive : l ≤ m.state.drawn → lives (m.state.streams l) ≡ true

module _ (l : ℕ) where
  undrawn : (m : Made) → ending_in l m.told ≡ None → m.state.streams l ≡ None → m.state.drawn < l → Fresh l m
  undrawn m told none above = record {
    told = told;
    goes = no_stream_goes l m.state none;
    alive = λ within. absurd (omega (arith, above, within));
  }

  fresh_if : (b : Bool) (m n : Made) → Fresh l m → Fresh l n → Fresh l (cond b m n)
  fresh_if true m n one other = one
  fresh_if false m n one other = other

  -- a stream is drawn
  asked_fresh : (c t : ℕ) (service : List ℕ) (s : State) → l ≡ s.drawn + 1 → Fresh l (asks_for (s.drawn + 1) c t service s)
  asked_fresh c t service s next = record {
    told = refl;
    goes = record { goes = λ x. absurd (waits x) };
    alive = λ within. ap lives there;
  }
    where
      new : Stream
      new = new_stream (s.drawn + 1) c t (new_flow (is_credit t s.devices))

      there : (asks_for (s.drawn + 1) c t service s).state.streams l
          ≡ Some (new_stream (s.drawn + 1) c t (new_flow (is_credit t s.devices)))
      there = ap (λ b. cond b (Some (new_stream (s.drawn + 1) c t (new_flow (is_credit t s.devices)))) (s.streams l))
          (eq-eqb (s.drawn + 1) l (sym next))

      row : (o : Option Client) (x : Client) → option_and_then (in_phase (Opening (s.drawn + 1))) o ≡ Some x
          → is_streaming l x.about.phase ≡ true → ⊥
      row None x e f = let clash : None ≡ Some x = e in cc
      row (Some y) x e f =
          let same : record y { about = record y.about { phase = Opening (s.drawn + 1) } } ≡ x = cc in
          let clash : false ≡ true = ap (λ (z : Client). is_streaming l z.about.phase) same ∙ f in
          cc

      waits : Sending l (asks_for (s.drawn + 1) c t service s).state → ⊥
      waits x =
          let same : new ≡ x.stream = (let both : Some new ≡ Some x.stream = sym there ∙ x.there in cc) in
          let here : (draws_now c t s).clients c ≡ Some x.client = ap (λ (y : Stream). (draws_now c t s).clients y.client) same ∙ x.here in
          row (s.clients c) x.client (sym (ap (λ b. cond b (option_and_then (in_phase (Opening (s.drawn + 1))) (s.clients c)) (s.clients c))
          (eq-eqb c c refl)) ∙ here)
          x.streaming

  module _ (s : State) (next : l ≡ s.drawn + 1) (none : s.streams l ≡ None) where
    same_fresh : (m : Made) → ending_in l m.told ≡ None → m.state.streams l ≡ s.streams l → m.state.drawn ≡ s.drawn → Fresh l m
    same_fresh m told rows drawn = undrawn m told (rows ∙ none) (omega (arith, next, drawn))

    opens_fresh : (forwarded : Bool) (c t : ℕ) (service : List ℕ) → Fresh l (opens forwarded c t service s)
    opens_fresh forwarded c t service =
        fresh_if (eqb s.drawn stream_ids) (no_ids_left forwarded c s) (asks_for (s.drawn + 1) c t service s)
        (ids forwarded) (asked_fresh c t service s next)
      where
        ids : (b : Bool) → Fresh l (no_ids_left b c s)
        ids true = same_fresh (no_ids_left true c s) refl refl refl
        ids false = same_fresh (no_ids_left false c s) refl refl refl

    stops_fresh : (c : ℕ) → Fresh l (stops c s)
    stops_fresh c = undrawn (stops c s) (told (ending_in l (all_stop s.drawn s.streams)) refl) refl (omega (arith, next))
      where
        told : (o : Option Ending) → ending_in l (all_stop s.drawn s.streams) ≡ o → ending_in l (all_stop s.drawn s.streams) ≡ None
        told None e = e
        told (Some y) e = absurd (let clash : false ≡ true = sym (ap lives none) ∙ (stops_some l s.streams s.drawn y e).1 in cc)

    goes_on_fresh : (next_is : Option Next) (c : ℕ) → Fresh l (goes_on next_is c s)
    goes_on_fresh None c = same_fresh (quietly s) refl refl refl
    goes_on_fresh (Some Close) c = same_fresh (goes_on (Some Close) c s) refl refl refl
    goes_on_fresh (Some (Select id)) c = same_fresh (quietly s) refl refl refl
    goes_on_fresh (Some (Track long)) c = same_fresh (goes_on (Some (Track long)) c s) refl refl refl
    goes_on_fresh (Some (Open t service)) c = opens_fresh false c t service
    goes_on_fresh (Some (Bind transport local remote chosen)) c =
        same_fresh (goes_on (Some (Bind transport local remote chosen)) c s) refl refl refl
    goes_on_fresh (Some (Rebind transport local remote)) c = same_fresh (goes_on (Some (Rebind transport local remote)) c s) refl refl refl
    goes_on_fresh (Some (Unbind local)) c = same_fresh (goes_on (Some (Unbind local)) c s) refl refl refl
    goes_on_fresh (Some UnbindAll) c = same_fresh (goes_on (Some UnbindAll) c s) refl refl refl
    goes_on_fresh (Some Stop) c = stops_fresh c

  module _ (s : State) (next : l ≡ s.drawn + 1) (none : s.streams l ≡ None) where
    asks_fresh : (q : Asked) (c : ℕ) → Fresh l (asks q c s)
    asks_fresh q c =
        let h = goes_on_fresh (owe_client c q.replies (to_client c (has_asked q) s)).state next none q.next c in
        record { told = h.told; goes = h.goes; alive = h.alive }

    reads_in_fresh : (phase : Phase) (c : ℕ) (bytes : List ℕ) (client : Client) → Fresh l (reads_in phase c bytes client s)
    reads_in_fresh Asking c bytes client = asks_fresh (asks_with s.devices s.forwards bytes (asked_before client)) c
    reads_in_fresh (Opening k) c bytes client = same_fresh s next none (reads_in (Opening k) c bytes client s) refl refl refl
    reads_in_fresh (Streaming k) c bytes client = same_fresh s next none (reads_in (Streaming k) c bytes client s) refl refl refl
    reads_in_fresh _ c bytes client = same_fresh s next none (quietly s) refl refl refl

    reads_fresh : (o : Option Client) (c : ℕ) (bytes : List ℕ) → Fresh l (reads_from o c bytes s)
    reads_fresh None c bytes = same_fresh s next none (quietly s) refl refl refl
    reads_fresh (Some client) c bytes = reads_in_fresh client.about.phase c bytes client

    enters_fresh : (c : ℕ) (o : Option ForwardRow) → Fresh l (enters_by c o s)
    enters_fresh c None = same_fresh s next none (quietly (comes_in_vain s)) refl refl refl
    enters_fresh c (Some row) =
        fresh_if (is_connected row.transport s.devices) (opens true c row.transport row.remote (comes true c s)) (quietly (comes_in_vain s))
        (opens_fresh (comes true c s) next none true c row.transport row.remote)
        (same_fresh s next none (quietly (comes_in_vain s)) refl refl refl)

    pub rule_fresh : (e : Entry) → draws e ≡ true → Fresh l (rule e s)
    rule_fresh (Enter c port) yes_draws = enters_fresh c (at port s.forwards)
    rule_fresh (Read c bytes) yes_draws = reads_fresh (s.clients c) c bytes
    rule_fresh _ e = absurd (let clash : false ≡ true = e in cc)
