-- A stream and its client are as the packets of its link say, when a stream ends, a link is gone, or a device says anew who it is.
use Rattle.std.proofs.Common.{◌≡◌, ◌≢◌, ℕ, Bool, true, false, cond, List, [], ◌++◌, Option, Some, None, refl, sym, ap, subst, ◌∙◌, eqb}
use Rattle.std.proofs.Common.{arith, inl, inr, ◌⊎◌}
use Rattle.std.proofs.lemmas.Bool.{ne_eqb, eqb-true, eqb-false, eq-eqb}
use Rattle.std.proofs.lemmas.List.{append-nil}
use Rattle.std.specs.Prelude.{codes, option_and_then}
use Rattle.adb_outside.specs.Tables.{Rows, change_row}
use Rattle.adb_outside.specs.declared.identity.Identity.{Identity}
use Rattle.adb_stream.specs.declared.row.Stream.{Stream}
use Rattle.adb_client.specs.declared.phase.Phase.{Phase}
use Rattle.adb_client.specs.declared.phase.Phase.TheVariants.{Opening, Streaming}
use Rattle.adb_reply.specs.Strings.{failed}
use Rattle.adb_history.specs.Rows.{Client, Link, State, to_stream, none_kept}
use Rattle.adb_history.specs.Events.{Made, Event, then_also, owed_to}
use Rattle.adb_history.specs.declared.ending.Ending.{Ending}
use Rattle.adb_history.specs.declared.ending.Ending.TheVariants.{Lost}
use Rattle.adb_history.specs.Links.{is_connected}
use Rattle.adb_history.specs.Streams.{client_loses, tells_end, ends_row, all_end}
use Rattle.adb_history.specs.Tracking.{mark_all}
use Rattle.adb_history.specs.Losing.{forgets, link_ends}
use Rattle.adb_wire.specs.Format.{has_sums}
use Rattle.adb_history.specs.Packets.{with_sums, streams_end_first}
use Rattle.adb_history.specs.Orderly.{phase_for}
use Rattle.adb_history.specs.Answered.{closed_reply}
use Rattle.adb_history.specs.Moves.{After, connects_now}
use Rattle.adb_history.specs.Owned.{OwnerIn, IsOwned}
use Rattle.adb_history.proofs.Following.{after_quietly}
use Rattle.adb_history.proofs.Growing.{owed_append}
use Rattle.adb_history.proofs.OwnedMoves.{client_of}
use Rattle.adb_history.proofs.OwnedStep.{owned_moves, ends_state, client_loses_frame}
use Rattle.adb_history.specs.Turns.{EndsSo}
use Rattle.adb_laws_answered.specs.Served.{PhaseFor, RowServed}
use Rattle.adb_laws_answered.specs.Shown.{Seen, Subject, WillNotOpen, ShownOut, IsShown}
use Rattle.adb_laws_answered.proofs.ToldOthers.{quiet_after, client_loses_owed, forgets_owned}
use Rattle.adb_laws_answered.proofs.SteadyRows.{at_client_loses, at_marked}
use Rattle.adb_laws_answered.proofs.Clearing.{ends_links, link_stays}
use Rattle.adb_laws_answered.proofs.Endings.{all_end_by}
use Rattle.adb_laws_answered.proofs.ServedMoves.{steady, closed_told, phase_waiting}
use Rattle.adb_laws_answered.proofs.ShownMoves.{Steps, steps_same, shown_quietly, own_steps, out_steps, out_more, shown_client}
use Rattle.adb_laws_answered.proofs.ShownMoves.{other_client, none_more}

module _ (heard : Bool) (x : Subject) (seen : Seen) where
  abbrev V : State → List Event → Type 0
  V s w = IsShown heard x seen s w

  -- ---- stream end
  module _ (k : ℕ) (ending : Ending) (stream : Stream) (s : State) (w : List Event) (is : s.streams k ≡ Some stream) (h : V s w) where
    gone : State
    gone = to_stream k none_kept s

    ends_made : Bool → Made
    ends_made b = then_also (tells_end b k ending gone) (λ s. client_loses (s.clients stream.client) stream.client s)

    left : State
    left = record gone { clients = (client_loses (s.clients stream.client) stream.client gone).state.clients }

    left_is : (ends_row k ending stream s).state ≡ left
    unfolding left gone
    left_is = ends_state k ending stream s ∙ client_loses_frame (s.clients stream.client) stream.client (to_stream k none_kept s)

    left_owned : IsOwned left
    left_owned = subst IsOwned left_is (owned_moves.ends k ending stream s w is h.owned)

    left_row : (client : Client) → left.clients x.client ≡ Some client → RowServed x.stream heard client
    unfolding left gone
    left_row = at_client_loses (steady x.stream heard) x.client (s.clients stream.client) stream.client (to_stream k none_kept s) h.row

    -- nothing becomes due to a client that is not the stream's
    orphan_told : stream.part.orphan ≡ true → owed_to x.client (ends_made true).told ≡ []
    unfolding ends_made gone
    orphan_told e =
        let owner : OwnerIn true s.clients k stream =
        subst (λ (b : Bool). OwnerIn b s.clients k stream) e (h.owned.owned.stream k stream is).owner in
        ap (λ (o : Option Client). owed_to x.client (client_loses o stream.client (to_stream k none_kept s)).told) owner.1

    other_told : eqb stream.client x.client ≡ false → owed_to x.client (ends_made false).told ≡ []
    unfolding ends_made gone
    other_told e = client_loses_owed x.client (s.clients stream.client) stream.client (to_stream k none_kept s) e

    -- ---- another stream
    left_steps : k ≢ x.stream → Steps x s left
    unfolding left gone
    left_steps apart = steps_same x s left
        (ap (λ (b : Bool). cond b (option_and_then none_kept (s.streams x.stream)) (s.streams x.stream)) (ne_eqb k x.stream apart)) (λ e. e)

    apart_told : k ≢ x.stream → (b : Bool) → stream.part.orphan ≡ b → owed_to x.client (ends_made b).told ≡ []
    apart_told apart true e = orphan_told e
    apart_told apart false e = other_told (other_client heard x seen k stream s w is e apart h)

    ends_apart : k ≢ x.stream → (b : Bool) → stream.part.orphan ≡ b → V left (w ++ (ends_made b).told)
    unfolding left gone
    ends_apart apart b e =
        let steps = left_steps apart in
        record {
          owned = left_owned;
          row = left_row;
          own = own_steps x seen s left steps h.own;
          drawn = h.drawn;
          out = out_steps x seen heard s left (owed_to x.client w) (owed_to x.client (w ++ (ends_made b).told)) steps
              (none_more heard x seen w (ends_made b).told (apart_told apart b e)) h.out;
        }

    -- ---- this stream
    module _ (here : k ≡ x.stream) where
      there : s.streams x.stream ≡ Some stream
      there = ap s.streams (sym here) ∙ is

      row_gone : (y : Stream) → left.streams x.stream ≡ Some y → ⊥
      unfolding left gone
      row_gone y e = go (s.streams x.stream)
          (sym (ap (λ (b : Bool). cond b (option_and_then none_kept (s.streams x.stream)) (s.streams x.stream))
          (eq-eqb k x.stream here)) ∙ e)
        where
          go : (o : Option Stream) → option_and_then none_kept o ≡ Some y → ⊥
          go None e = let clash : None ≡ Some y = e in cc
          go (Some z) e = let clash : None ≡ Some y = e in cc

      -- what becomes due to its client that did not hear that it is open
      waiting_told : stream.part.orphan ≡ false → heard ≡ false → owed_to x.client (ends_made false).told ≡ (failed (codes "closed")).bytes
      unfolding ends_made gone
      waiting_told e quiet =
          let same : stream.client ≡ x.client = (h.own stream there).client in
          let of = client_of s k stream is e h.owned in
          let at_c : s.clients x.client ≡ Some of.client = subst (λ (n : ℕ). s.clients n ≡ Some of.client) same of.is in
          let phase = shown_client heard x seen k stream s w is e same h in
          let none : stream.part.remote ≡ 0 =
          phase_waiting k x.stream stream.part.remote
          (subst (λ (b : Bool). PhaseFor (phase_for k stream.part.remote) x.stream b) quiet phase) in
          let opening : of.client.about.phase ≡ Opening x.stream =
          of.phase ∙ (ap (phase_for k) none ∙ ap (λ (n : ℕ). Opening n) here) in
          ap (λ (o : Option Client). owed_to x.client (client_loses o stream.client (to_stream k none_kept s)).told) of.is
          ∙ (ap (λ (n : ℕ). owed_to x.client (client_loses (Some of.client) n (to_stream k none_kept s)).told) same
          ∙ closed_told x.client x.stream of.client (to_stream k none_kept s) (h.row of.client at_c).alone opening)

      out_left : (b : Bool) → stream.part.orphan ≡ b → (hears : Bool) → heard ≡ hears
          → (hears ≡ false → b ≡ false → WillNotOpen x seen.sealed s)
          → ShownOut hears x seen s (owed_to x.client w) → ShownOut hears x seen left (owed_to x.client (w ++ (ends_made b).told))
      unfolding left gone
      out_left b e true f reason out =
          let more = out_more x seen s (owed_to x.client w) (owed_to x.client (ends_made b).told) out in
          let append = owed_append x.client w (ends_made b).told in
          record { bytes = more.bytes; out_is = append ∙ more.out_is; may = more.may; told = more.told }
      out_left true e false f reason out = record {
        closed = out.closed;
        out_is = none_more heard x seen w (ends_made true).told (orphan_told e) ∙ out.out_is;
        waits = λ y is owned. absurd (row_gone y is);
        gone = λ gone. inr (inr ((h.own stream there).orphan e));
        none = out.none;
      }
      out_left false e false f reason out = record {
        closed = true;
        out_is = owed_append x.client w (ends_made false).told
            ∙ (ap (λ v. owed_to x.client w ++ v) (waiting_told e f)
            ∙ ap (λ v. v ++ (failed (codes "closed")).bytes)
            (out.out_is ∙ (ap (λ (b : Bool). x.replies ++ closed_reply b) (out.waits stream there e) ∙ append-nil x.replies)));
        waits = λ y is owned. absurd (row_gone y is);
        gone = λ gone. reason refl refl;
        none = out.none;
      }

      ends_here : (b : Bool) → stream.part.orphan ≡ b → (heard ≡ false → b ≡ false → WillNotOpen x seen.sealed s)
          → V left (w ++ (ends_made b).told)
      unfolding left gone
      ends_here b e reason = record {
        owned = left_owned;
        row = left_row;
        own = λ y e. absurd (row_gone y e);
        drawn = h.drawn;
        out = out_left b e heard refl reason h.out;
      }

    -- A stream ends: another one, or this one for a cause by which it will not be opened.
    pub ends_shown : (k ≡ x.stream → heard ≡ false → stream.part.orphan ≡ false → WillNotOpen x seen.sealed s)
        → V (ends_row k ending stream s).state (w ++ (ends_row k ending stream s).told)
    unfolding ends_made gone
    ends_shown reason = subst (λ (y : State). V y (w ++ (ends_row k ending stream s).told)) (sym left_is) (go (eqb k x.stream) refl)
      where
        go : (b : Bool) → eqb k x.stream ≡ b → V left (w ++ (ends_row k ending stream s).told)
        go false e = ends_apart (eqb-false k x.stream e) stream.part.orphan refl
        go true e = let here = eqb-true k x.stream e in ends_here here stream.part.orphan refl (reason here)

  -- a stream that is open does not wait
  open_heard : (k : ℕ) (ending : Ending) (stream : Stream) (s : State) (w : List Event) → s.streams k ≡ Some stream
      → EndsSo (λ l. l ≢ x.stream) s.clients k ending stream → V s w → k ≡ x.stream → heard ≡ false
      → stream.part.orphan ≡ false → WillNotOpen x seen.sealed s
  open_heard k ending stream s w is (inl (told, apart)) h here quiet owned = absurd (apart here)
  open_heard k ending stream s w is (inr (inl some)) h here quiet owned =
      let phase = shown_client heard x seen k stream s w is owned (h.own stream (ap s.streams (sym here) ∙ is)).client h in
      absurd (some (phase_waiting k x.stream stream.part.remote
      (subst (λ (b : Bool). PhaseFor (phase_for k stream.part.remote) x.stream b) quiet phase)))
  open_heard k ending stream s w is (inr (inr (client, at_c, streaming))) h here quiet owned =
      let same = (h.own stream (ap s.streams (sym here) ∙ is)).client in
      let row = h.row client (subst (λ (n : ℕ). s.clients n ≡ Some client) same at_c) in
      let phase : PhaseFor (Streaming k) x.stream heard = subst (λ (p : Phase). PhaseFor p x.stream heard) streaming row.phase in
      absurd (let clash : false ≡ true = sym quiet ∙ phase.1 in cc)

  pub ends_so_shown : (k : ℕ) (ending : Ending) (stream : Stream) (s : State) (w : List Event) → s.streams k ≡ Some stream
      → EndsSo (λ l. l ≢ x.stream) s.clients k ending stream → V s w
      → V (ends_row k ending stream s).state (w ++ (ends_row k ending stream s).told)
  ends_so_shown k ending stream s w is so h = ends_shown k ending stream s w is h (open_heard k ending stream s w is so h)

-- ---- links
-- of a link nothing is kept
link_gone : (n t : ℕ) (links : Rows (Option Link)) → n ≡ t → change_row n (option_and_then none_kept) links t ≡ None
link_gone n t links same = ap (λ (b : Bool). cond b (option_and_then none_kept (links t)) (links t)) (eq-eqb n t same) ∙ go (links t)
  where
    go : (o : Option Link) → option_and_then none_kept o ≡ None
    go None = refl
    go (Some link) = refl

module _ (heard : Bool) (x : Subject) (seen : Seen) where
  abbrev W : State → List Event → Type 0
  W s w = IsShown heard x seen s w

  marked_shown : (s next : State) (w : List Event) → IsOwned (mark_all next) → next.clients ≡ s.clients
      → next.streams ≡ s.streams → next.drawn ≡ s.drawn
      → (s.links x.link ≡ None → next.links x.link ≡ None) → W s w → W (mark_all next) w
  marked_shown s next w owned clients streams drawn links h =
      shown_quietly heard x seen s (mark_all next) w
      (steps_same x s (mark_all next) (ap (λ (f : ℕ → Option Stream). f x.stream) streams) links) owned
      (at_marked (steady x.stream heard) x.client next.clients
      (subst (λ (f : ℕ → Option Client). (client : Client) → f x.client ≡ Some client
      → RowServed x.stream heard client) (sym clients) h.row))
      (omega (arith, drawn)) h

  -- a link is gone: its streams will not open
  abbrev pub Cut : ℕ → State → List Event → Type 0
  Cut t s w = IsShown heard x seen s w × (t ≡ x.link → s.links x.link ≡ None)

  -- why a stream of it will not
  abbrev pub CutReason : ℕ → Type 0
  CutReason t = t ≡ x.link → (x.cut ≡ true) ⊎ (x.failed ≡ true)

  cut_reason : (t : ℕ) (s : State) → CutReason t → t ≡ x.link → s.links x.link ≡ None → WillNotOpen x seen.sealed s
  cut_reason t s reason same none = go (reason same)
    where
      go : (x.cut ≡ true) ⊎ (x.failed ≡ true) → WillNotOpen x seen.sealed s
      go (inl cut) = inr (inl (cut, none))
      go (inr failed) = inr (inr failed)

  all_end_cut : (t : ℕ) (ending : Ending) (s : State) (w : List Event) → CutReason t → Cut t s w
      → After (λ s w. IsShown heard x seen s w × (t ≡ x.link
      → s.links x.link ≡ None)) w
      (all_end t ending s)
  all_end_cut t ending s w reason h = all_end_by {P = λ s w. IsShown heard x seen s w × (t ≡ x.link → s.links x.link ≡ None)} t ending
      (λ k stream s w at (h, cut). (
        ends_shown heard x seen k ending stream s w at.0 h
            (λ here quiet owned. (let same = sym at.1 ∙ (h.own stream (ap s.streams (sym here) ∙ at.0)).link in
            cut_reason t s reason same (cut same))),
        λ same. ap (λ (f : ℕ → Option Link). f x.link) (ends_links k ending stream s) ∙ cut same,
      )) s w h

  pub link_ends_cut : (t : ℕ) (ending : Ending) (s : State) (w : List Event) → CutReason t → W s w
      → W (link_ends t ending s).state (w ++ (link_ends t ending s).told) × (t ≡ x.link → (link_ends t ending s).state.links x.link ≡ None)
  link_ends_cut t ending s w reason h =
      let forgot : State = forgets t s in
      let all : Made = all_end t ending forgot in
      let owned : IsOwned forgot = forgets_owned t s h.owned in
      let kept = all_end_cut t ending forgot w reason (
        shown_quietly heard x seen s forgot w
            (steps_same x s forgot refl (λ e. link_stays t x.link none_kept s.links e)) owned h.row (omega arith) h,
        λ same. link_gone t x.link s.links same,
      ) in (
        quiet_after (λ s w. IsShown heard x seen s w) w all.told (mark_all all.state)
            (marked_shown all.state all.state (w ++ all.told) (owned_moves.link_ends t ending s w h.owned) refl refl refl (λ e. e) kept.0),
        kept.1,
      )

  -- a device says anew who it is: its streams end
  pub online_shown : (t version maxdata : ℕ) (identity : Identity) (s : State) (w : List Event) → (t ≡ x.link → x.failed ≡ true) → W s w
      → W (connects_now t version maxdata identity s).state (w ++ (connects_now t version maxdata identity s).told)
  online_shown t version maxdata identity s w reason h =
      let first : Made = streams_end_first (is_connected t s.devices) t s in
      let whole : Made = connects_now t version maxdata identity s in
      let kept = ends_first (is_connected t s.devices) in
      quiet_after (λ s w. IsShown heard x seen s w) w first.told whole.state
      (shown_quietly heard x seen first.state whole.state (w ++ first.told)
      (steps_same x first.state whole.state refl (λ e. link_stays t x.link (with_sums (has_sums version)) first.state.links e))
      (owned_moves.online t version maxdata identity s w h.owned)
      (at_marked (steady x.stream heard) x.client first.state.clients kept.row) (omega arith) kept)
    where
      ends_first : (b : Bool) → W (streams_end_first b t s).state (w ++ (streams_end_first b t s).told)
      ends_first false = after_quietly (λ s w. IsShown heard x seen s w) w s h
      ends_first true = all_end_by {P = λ s w. IsShown heard x seen s w} t Lost
          (λ k stream s w at h. ends_shown heard x seen k Lost stream s w at.0 h
          (λ here quiet owned. inr (inr (reason (sym at.1 ∙ (h.own stream (ap s.streams (sym here) ∙ at.0)).link))))) s w h
