-- A stream and its client are as the packets of its link say, through each change that does not concern them.
use Rattle.std.proofs.Common.{◌≡◌, ◌≢◌, ℕ, ◌≤◌, Bool, true, false, cond, List, [], ◌++◌, Option, Some, None, refl, sym, ap, subst, ◌∙◌, eqb}
use Rattle.std.proofs.Common.{append_assoc, arith, inl, inr}
use Rattle.std.proofs.lemmas.Bool.{ne_eqb, eqb-true}
use Rattle.std.proofs.lemmas.List.{append-nil}
use Rattle.std.specs.Prelude.{option_and_then}
use Rattle.adb_outside.specs.Tables.{Rows, change_row}
use Rattle.adb_stream.specs.declared.row.Part.{Part}
use Rattle.adb_stream.specs.declared.row.Stream.{Stream}
use Rattle.adb_client.specs.declared.phase.Phase.{Phase}
use Rattle.adb_reply.specs.Strings.{okay}
use Rattle.adb_history.specs.Rows.{Client, State, with_stream_part}
use Rattle.adb_history.specs.Events.{Event, owed_to}
use Rattle.adb_history.specs.Orderly.{phase_for}
use Rattle.adb_history.specs.Owned.{IsOwned}
use Rattle.adb_history.proofs.Growing.{owed_append}
use Rattle.adb_history.proofs.OwnedMoves.{client_of}
use Rattle.adb_laws_answered.specs.Served.{PhaseFor, RowServed}
use Rattle.adb_laws_answered.specs.Shown.{Seen, Subject, IsShownRow, IsGone, WillNotOpen, ShownOut, IsShown}
use Rattle.adb_laws_answered.proofs.ServedMoves.{phase_of_own}

-- ---- the row of the stream
-- a row that is as it was, but for its flow
pub record IsAlike (before after : Stream) : Type 0 where
  pub client : after.client ≡ before.client
  pub link : after.link ≡ before.link
  pub remote : after.part.remote ≡ before.part.remote
  pub orphan : after.part.orphan ≡ before.part.orphan

-- a row that was there, alike
pub record WasAt (streams : Rows (Option Stream)) (l : ℕ) (now : Stream) : Type 0 where
  pub before : Stream
  pub is : streams l ≡ Some before
  pub alike : IsAlike before now

-- a row that stays
pub record StaysAt (streams : Rows (Option Stream)) (l : ℕ) : Type 0 where
  pub after : Stream
  pub is : streams l ≡ Some after
  pub owned : after.part.orphan ≡ false

-- The row of a stream is as it was, and a link that is gone stays so.
pub record Steps (x : Subject) (s next : State) : Type 0 where
  pub was : (y : Stream) → next.streams x.stream ≡ Some y → WasAt s.streams x.stream y
  pub stays : (y : Stream) → s.streams x.stream ≡ Some y → y.part.orphan ≡ false → StaysAt next.streams x.stream
  pub links : s.links x.link ≡ None → next.links x.link ≡ None

alike_same : (y : Stream) → IsAlike y y
alike_same y = record { client = refl; link = refl; remote = refl; orphan = refl }

module _ (x : Subject) (s next : State) where
  -- the same row
  pub steps_same : next.streams x.stream ≡ s.streams x.stream → (s.links x.link ≡ None → next.links x.link ≡ None) → Steps x s next
  steps_same same links = record {
    was = λ y is. record { before = y; is = sym same ∙ is; alike = alike_same y };
    stays = λ y is owned. record { after = y; is = same ∙ is; owned = owned };
    links = links;
  }

  -- the flow of a stream changes
  pub steps_part : (k : ℕ) (stream : Stream) (part : Part) → s.streams k ≡ Some stream
      → (part.remote ≡ stream.part.remote) × (part.orphan ≡ stream.part.orphan)
      → next.streams x.stream ≡ change_row k (option_and_then (with_stream_part part)) s.streams x.stream
      → (s.links x.link ≡ None → next.links x.link ≡ None) → Steps x s next
  steps_part k stream part is same rows links = record {
    was = λ y at. was y (eqb k x.stream) refl (s.streams x.stream) refl (sym rows ∙ at);
    stays = λ y at owned. stays y owned (eqb k x.stream) refl at;
    links = links;
  }
    where
      it : eqb k x.stream ≡ true → (y : Stream) → s.streams x.stream ≡ Some y → stream ≡ y
      it e y at = let both : Some stream ≡ Some y = sym is ∙ (ap s.streams (eqb-true k x.stream e) ∙ at) in cc

      was : (y : Stream) (b : Bool) → eqb k x.stream ≡ b → (o : Option Stream) → s.streams x.stream ≡ o
          → cond b (option_and_then (with_stream_part part) o) o ≡ Some y → WasAt s.streams x.stream y
      was y true e None at h = absurd (let clash : None ≡ Some y = h in cc)
      was y true e (Some z) at h =
          let row : record z { part = part } ≡ y = cc in
          let old : stream ≡ z = it e z at in
          record {
            before = z;
            is = at;
            alike = record {
              client = ap (λ (v : Stream). v.client) (sym row);
              link = ap (λ (v : Stream). v.link) (sym row);
              remote = ap (λ (v : Stream). v.part.remote) (sym row) ∙ (same.0 ∙ ap (λ (v : Stream). v.part.remote) old);
              orphan = ap (λ (v : Stream). v.part.orphan) (sym row) ∙ (same.1 ∙ ap (λ (v : Stream). v.part.orphan) old);
            };
          }
      was y false e o at h = record { before = y; is = at ∙ h; alike = alike_same y }

      stays : (y : Stream) → y.part.orphan ≡ false → (b : Bool) → eqb k x.stream ≡ b → s.streams x.stream ≡ Some y
          → StaysAt next.streams x.stream
      stays y owned true e at = record {
        after = record y { part = part };
        is = rows ∙ (ap (λ (b : Bool). cond b (option_and_then (with_stream_part part) (s.streams x.stream)) (s.streams x.stream)) e
            ∙ ap (option_and_then (with_stream_part part)) at);
        owned = same.1 ∙ (ap (λ (v : Stream). v.part.orphan) (it e y at) ∙ owned);
      }
      stays y owned false e at = record {
        after = y;
        is = rows ∙ (ap (λ (b : Bool). cond b (option_and_then (with_stream_part part) (s.streams x.stream)) (s.streams x.stream)) e ∙ at);
        owned = owned;
      }

-- ---- what became due
module _ (x : Subject) (seen : Seen) where
  will_not : (s next : State) → (s.links x.link ≡ None → next.links x.link ≡ None) → WillNotOpen x seen.sealed s
      → WillNotOpen x seen.sealed next
  will_not s next links (inl sealed) = inl sealed
  will_not s next links (inr (inl gone)) = inr (inl (gone.0, links gone.1))
  will_not s next links (inr (inr failed)) = inr (inr failed)

  gone_before : (s next : State) → Steps x s next → IsGone next.streams x.stream → IsGone s.streams x.stream
  gone_before s next steps gone y is = go y.part.orphan refl
    where
      go : (b : Bool) → y.part.orphan ≡ b → y.part.orphan ≡ true
      go true e = e
      go false e =
          let there = steps.stays y is e in
          absurd (let clash : true ≡ false = sym (gone there.after there.is) ∙ there.owned in cc)

  pub own_steps : (s next : State) → Steps x s next → ((y : Stream) → s.streams x.stream ≡ Some y → IsShownRow x seen y)
      → (y : Stream) → next.streams x.stream ≡ Some y → IsShownRow x seen y
  own_steps s next steps own y is =
      let was = steps.was y is in
      let row = own was.before was.is in
      record {
        client = was.alike.client ∙ row.client;
        link = was.alike.link ∙ row.link;
        remote = was.alike.remote ∙ row.remote;
        pending = row.pending;
        may = λ owned. row.may (sym was.alike.orphan ∙ owned);
        orphan = λ orphan. row.orphan (sym was.alike.orphan ∙ orphan);
      }

  pub out_steps : (heard : Bool) (s next : State) (out new : List ℕ) → Steps x s next → new ≡ out
      → ShownOut heard x seen s out → ShownOut heard x seen next new
  out_steps true s next out new steps same h = record { bytes = h.bytes; out_is = same ∙ h.out_is; may = h.may; told = h.told }
  out_steps false s next out new steps same h = record {
    closed = h.closed;
    out_is = same ∙ h.out_is;
    waits = λ y is owned. (let was = steps.was y is in h.waits was.before was.is (sym was.alike.orphan ∙ owned));
    gone = λ gone. will_not s next steps.links (h.gone (gone_before s next steps gone));
    none = h.none;
  }

  -- more becomes due to a client that heard
  pub out_more : (s : State) (out more : List ℕ) → ShownOut true x seen s out → ShownOut true x seen s (out ++ more)
  out_more s out more h = record {
    bytes = h.bytes ++ more;
    out_is = ap (λ v. v ++ more) h.out_is
        ∙ (append_assoc x.replies (okay ++ h.bytes) more ∙ ap (λ v. x.replies ++ v) (append_assoc okay h.bytes more));
    may = h.may;
    told = h.told;
  }

module _ (heard : Bool) (x : Subject) (seen : Seen) where
  abbrev V : State → List Event → Type 0
  V s w = IsShown heard x seen s w

  pub none_more : (w es : List Event) → owed_to x.client es ≡ [] → owed_to x.client (w ++ es) ≡ owed_to x.client w
  none_more w es none = owed_append x.client w es ∙ (ap (λ v. owed_to x.client w ++ v) none ∙ append-nil (owed_to x.client w))

  -- a stream of the client is this one
  pub shown_client : (k : ℕ) (stream : Stream) (s : State) (w : List Event) → s.streams k ≡ Some stream → stream.part.orphan ≡ false
      → stream.client ≡ x.client → V s w → PhaseFor (phase_for k stream.part.remote) x.stream heard
  shown_client k stream s w is owned same h =
      let of = client_of s k stream is owned h.owned in
      subst (λ (p : Phase). PhaseFor p x.stream heard) of.phase
      (h.row of.client (subst (λ (n : ℕ). s.clients n ≡ Some of.client) same of.is)).phase

  pub other_client : (k : ℕ) (stream : Stream) (s : State) (w : List Event) → s.streams k ≡ Some stream
      → stream.part.orphan ≡ false → k ≢ x.stream
      → V s w → eqb stream.client x.client ≡ false
  other_client k stream s w is owned apart h = ne_eqb stream.client x.client (λ same.
      apart (phase_of_own k x.stream stream.part.remote heard (shown_client k stream s w is owned same h)))

  -- A change that does not concern the stream, by which nothing becomes due to its client.
  pub shown_steps : (s next : State) (w es : List Event) → Steps x s next → IsOwned next
      → ((client : Client) → next.clients x.client ≡ Some client → RowServed x.stream heard client)
      → (s.drawn ≤ next.drawn) × (owed_to x.client es ≡ [])
      → V s w → V next (w ++ es)
  shown_steps s next w es steps owned row less h = record {
    owned = owned;
    row = row;
    own = own_steps x seen s next steps h.own;
    drawn = omega (arith, h.drawn, less.0);
    out = out_steps x seen heard s next (owed_to x.client w) (owed_to x.client (w ++ es)) steps (none_more w es less.1) h.out;
  }

  -- and where nothing is told
  pub shown_quietly : (s next : State) (w : List Event) → Steps x s next → IsOwned next
      → ((client : Client) → next.clients x.client ≡ Some client → RowServed x.stream heard client)
      → s.drawn ≤ next.drawn → V s w → V next w
  shown_quietly s next w steps owned row less h = record {
    owned = owned;
    row = row;
    own = own_steps x seen s next steps h.own;
    drawn = omega (arith, h.drawn, less);
    out = out_steps x seen heard s next (owed_to x.client w) (owed_to x.client w) steps refl h.out;
  }

  -- its row goes
  pub shown_gone : (s next : State) (w es : List Event) → IsOwned next
      → ((client : Client) → next.clients x.client ≡ Some client → RowServed x.stream heard client) → next.streams x.stream ≡ None
      → (heard ≡ false → WillNotOpen x seen.sealed next) → (s.drawn ≤ next.drawn) × (owed_to x.client es ≡ []) → V s w → V next (w ++ es)
  shown_gone s next w es owned row none reason less h = record {
    owned = owned;
    row = row;
    own = λ y is. absurd (nothing y is);
    drawn = omega (arith, h.drawn, less.0);
    out = out heard reason h.out;
  }
    where
      nothing : (y : Stream) → next.streams x.stream ≡ Some y → ⊥
      nothing y is = let clash : None ≡ Some y = sym none ∙ is in cc

      out : (b : Bool) → (b ≡ false → WillNotOpen x seen.sealed next) → ShownOut b x seen s (owed_to x.client w)
          → ShownOut b x seen next (owed_to x.client (w ++ es))
      out true reason h = record { bytes = h.bytes; out_is = none_more w es less.1 ∙ h.out_is; may = h.may; told = h.told }
      out false reason h = record {
        closed = h.closed;
        out_is = none_more w es less.1 ∙ h.out_is;
        waits = λ y is owned. absurd (nothing y is);
        gone = λ gone. reason refl;
        none = h.none;
      }
