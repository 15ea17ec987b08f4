-- A stream that goes on, or was drawn just now, is not ended by the up rule.
use Rattle.std.proofs.Common.{◌≡◌, ◌≢◌, ℕ, zero, suc, true, false, List, [], ◌∷◌, drop, Option, Some, None, sym, ap, subst, ◌∙◌}
use Rattle.std.proofs.Common.{◌⊎◌, inl, inr}
use Rattle.std.proofs.lemmas.Bool.{cases_eq}
use Rattle.adb_outside.specs.Tables.{Rows}
use Rattle.adb_stream.specs.declared.row.Part.{Part}
use Rattle.adb_history.specs.Rows.{Client, Link, State, to_stream, none_kept, with_held, with_stream_part}
use Rattle.adb_history.specs.Clients.{closing, closes}
use Rattle.adb_history.specs.Flow.{total, flow_after, with_flow, is_over, is_streaming, up, up_all}
use Rattle.adb_history.proofs.Following.{changed_here, changed_other}
use Rattle.adb_history.proofs.Sweep.{Sending, sent, left, over, up_to}
use Rattle.adb_history.proofs.Quiet.{IsCalmAt, up_calms, closing_idle, other_phase}
use Rattle.adb_laws_causes.proofs.Fates.{FateOf, then_fate}
use Rattle.adb_laws_causes.proofs.StreamFates.{quiet, up_fate}

-- a stream that is not over when it has sent what it may
pub record GoesOn (l : ℕ) (s : State) : Type 0 where
  pub goes : (x : Sending l s) → over l s x ≡ false

-- none that is not there
pub no_stream_goes : (l : ℕ) (s : State) → s.streams l ≡ None → GoesOn l s
no_stream_goes l s none = record { goes = λ x. absurd (let clash : None ≡ Some x.stream = sym none ∙ x.there in cc) }

pub calm_goes : (l : ℕ) (s : State) → IsCalmAt l s → GoesOn l s
calm_goes l s h = record {
  goes = λ x.
      let c = h.calm x in
      ap (λ (ps : List (List ℕ)). is_over x.client.about.ended (drop (total ps) x.client.held)
      (flow_after ps x.stream.part.flow)) c.nothing ∙ c.goes_on;
}

-- ---- another stream sends
module _ (l m : ℕ) (s : State) (apart : l ≢ m) (h : GoesOn m s) where
  sends_other : (x : Sending l s) (links : Rows (Option Link)) → GoesOn m (record (left l s x) { links = links })
  sends_other x links = record { goes = λ y. go y (cases_eq x.stream.client y.stream.client) }
    where
      part : Part
      part = with_flow (flow_after (sent l s x) x.stream.part.flow) x.stream.part

      held : List ℕ
      held = drop (total (sent l s x)) x.client.held

      here : (left l s x).clients x.stream.client ≡ Some (record x.client { held = drop (total (sent l s x)) x.client.held })
      here = changed_here x.stream.client (with_held (drop (total (sent l s x)) x.client.held)) s.clients x.client x.here

      go : (y : Sending m (record (left l s x) { links = links }))
          → (x.stream.client ≡ y.stream.client) ⊎ (x.stream.client ≡ y.stream.client → ⊥)
          → over m (record (left l s x) { links = links }) y ≡ false
      go y (inl same) =
          let row : record x.client { held = drop (total (sent l s x)) x.client.held } ≡ y.client =
          (let both : Some (record x.client { held = drop (total (sent l s x)) x.client.held }) ≡ Some y.client = sym here ∙
          (ap (left l s x).clients same ∙ y.here) in cc) in
          absurd (other_phase l m x.client.about.phase apart x.streaming
          (ap (λ (k : Client). is_streaming m k.about.phase) row ∙ y.streaming))
      go y (inr other) = h.goes (record {
        stream = y.stream;
        client = y.client;
        there = sym (changed_other l m (with_stream_part part) s.streams apart) ∙ y.there;
        here = sym (changed_other x.stream.client y.stream.client (with_held held) s.clients other) ∙ y.here;
        streaming = y.streaming;
      })

  ends_other : (x : Sending l s) (links : Rows (Option Link))
      → GoesOn m (record (closes x.stream.client (to_stream l none_kept (left l s x))) { links = links })
  ends_other x links = record { goes = λ y. go y (cases_eq x.stream.client y.stream.client) }
    where
      part : Part
      part = with_flow (flow_after (sent l s x) x.stream.part.flow) x.stream.part

      held : List ℕ
      held = drop (total (sent l s x)) x.client.held

      client : Client
      client = record x.client { held = drop (total (sent l s x)) x.client.held }

      here : (left l s x).clients x.stream.client ≡ Some client
      here = changed_here x.stream.client (with_held (drop (total (sent l s x)) x.client.held)) s.clients x.client x.here

      closed : (closes x.stream.client (to_stream l none_kept (left l s x))).clients x.stream.client ≡ closing client
      closed = changed_here x.stream.client closing (left l s x).clients client here

      go : (y : Sending m (record (closes x.stream.client (to_stream l none_kept (left l s x))) { links = links }))
          → (x.stream.client ≡ y.stream.client) ⊎ (x.stream.client ≡ y.stream.client → ⊥)
          → over m (record (closes x.stream.client (to_stream l none_kept (left l s x))) { links = links }) y ≡ false
      go y (inl same) =
          absurd (closing_idle client.due client y.client m
          (sym closed ∙ (ap (closes x.stream.client (to_stream l none_kept (left l s x))).clients same ∙ y.here)) y.streaming)
      go y (inr other) = h.goes (record {
        stream = y.stream;
        client = y.client;
        there = sym (changed_other l m (with_stream_part part) s.streams apart)
            ∙ (sym (changed_other l m none_kept (left l s x).streams apart) ∙ y.there);
        here = sym (changed_other x.stream.client y.stream.client (with_held held) s.clients other)
            ∙ (sym (changed_other x.stream.client y.stream.client closing (left l s x).clients other) ∙ y.here);
        streaming = y.streaming;
      })

  pub goes_past : GoesOn m (up l s).state
  goes_past = up_to (GoesOn m) l s (record {
    stays = λ idle. h;
    sends = λ x links e. sends_other x links;
    ends = λ x links e. ends_other x links;
  })

module _ (l : ℕ) (s : State) (h : GoesOn l s) where
  pub goes_all : (k : ℕ) → GoesOn l (up_all k s).state
  goes_all zero = h
  goes_all (suc k) = go (cases_eq (suc k) l) (goes_all k)
    where
      go : (suc k ≡ l) ⊎ (suc k ≡ l → ⊥) → GoesOn l (up_all k s).state → GoesOn l (up (suc k) (up_all k s).state).state
      go (inl same) before = subst (λ (n : ℕ). GoesOn n (up (suc k) (up_all k s).state).state) same
          (calm_goes (suc k) (up (suc k) (up_all k s).state).state (up_calms (suc k) (up_all k s).state))
      go (inr apart) before = goes_past (suc k) l (up_all k s).state apart before

  -- the up rule does not end it
  pub goes_fate : (k : ℕ) → FateOf l (λ c t y. ⊥) s (up_all k s)
  goes_fate zero = quiet l (λ c t y. ⊥) s
  goes_fate (suc k) =
      let m = up_all k s in
      then_fate l (λ c t y. ⊥) s m (up (suc k)) (goes_fate k)
      (up_fate l (λ c t y. ⊥) (suc k) m.state (λ y e same c t. never y e same (goes_all k)))
    where
      never : (y : Sending (suc k) (up_all k s).state) → over (suc k) (up_all k s).state y ≡ true → suc k ≡ l
          → GoesOn l (up_all k s).state → ⊥
      never y e same goes =
          let h = subst (λ (n : ℕ). GoesOn n (up_all k s).state) (sym same) goes in
          let clash : false ≡ true = sym (h.goes y) ∙ e in
          cc
