-- What the rules of streams make of the stream of a number: how it ends, with its link too, and the up rule.
use Rattle.std.proofs.Common.{◌≡◌, ◌≢◌, ◌≤◌, ◌<◌, ℕ, zero, suc, Bool, true, false, cond, List, [], ◌∷◌, drop, Option, Some, None, refl, sym}
use Rattle.std.proofs.Common.{ap, subst, ◌∙◌}
use Rattle.std.proofs.Common.{arith, ◌⊎◌, inl, inr}
use Rattle.std.specs.Prelude.{nat_eq}
use Rattle.std.proofs.lemmas.Bool.{eqb-true, eqb-false, cases_eq}
use Rattle.adb_stream.specs.declared.row.Stream.{Stream}
use Rattle.adb_client.specs.declared.phase.Phase.{Phase}
use Rattle.adb_client.specs.declared.phase.Phase.TheVariants.{Streaming}
use Rattle.adb_history.specs.Rows.{Client, State, to_stream, none_kept}
use Rattle.adb_history.specs.Events.{Made, quietly, then_also, ending_in}
use Rattle.adb_history.specs.declared.ending.Ending.{Ending}
use Rattle.adb_history.specs.declared.ending.Ending.TheVariants.{ClientClosed}
use Rattle.adb_history.specs.Links.{owe_link, close_packet, maxdata_of}
use Rattle.adb_history.specs.Streams.{tells_end, loses, client_loses, ends_row, ends_telling, ends_if_of, ends_of, all_end}
use Rattle.adb_history.specs.Tracking.{mark_all}
use Rattle.adb_history.specs.Losing.{forgets, link_ends}
use Rattle.adb_history.specs.Flow.{with_flow, flow_after, payloads, total, noted, goes_up, all_go_up, is_over, closes_if, sends_up}
use Rattle.adb_history.specs.Flow.{is_streaming, up_client, up_stream, up, up_all}
use Rattle.adb_history.proofs.Following.{changed_here}
use Rattle.adb_history.proofs.OwnedStep.{ends_state, client_loses_frame}
use Rattle.adb_history.proofs.Sweep.{Sending, over}
use Rattle.adb_laws_causes.proofs.Fates.{live_row, row_lives, Reason, FateOf, fate_same, fate_then, then_fate, fate_part, fate_orphan}
use Rattle.adb_laws_causes.proofs.Fates.{fate_goes}

module _ (l : ℕ) (Why : Reason) where
  pub quiet : (s : State) → FateOf l Why s (quietly s)
  quiet s = fate_same l Why (s.streams l) [] refl

  pub if_fate : (s : State) (b : Bool) (m n : Made) → (b ≡ true → FateOf l Why s m) → (b ≡ false → FateOf l Why s n)
      → FateOf l Why s (cond b m n)
  if_fate s true m n one other = one refl
  if_fate s false m n one other = other refl

  -- ---- the end of a stream
  loses_fate : (forwarded : Bool) (phase : Phase) (c : ℕ) (s : State) → FateOf l Why s (loses forwarded phase c s)
  loses_fate true (Streaming k) c s = fate_same l Why (s.streams l) _ refl
  loses_fate false (Streaming k) c s = fate_same l Why (s.streams l) _ refl
  loses_fate true _ c s = fate_same l Why (s.streams l) _ refl
  loses_fate false _ c s = fate_same l Why (s.streams l) _ refl

  client_fate : (o : Option Client) (c : ℕ) (s : State) → FateOf l Why s (client_loses o c s)
  client_fate None c s = quiet s
  client_fate (Some client) c s = loses_fate client.about.forwarded client.about.phase c s

  pub ends_fate : (n : ℕ) (ending : Ending) (x : Stream) (s : State) → s.streams n ≡ Some x → (n ≡ l → Why x.client x.link ending)
      → FateOf l Why s (ends_row n ending x s)
  ends_fate n ending x s is why = go x.part.orphan refl
    where
      gone : State
      gone = to_stream n none_kept s

      after : Made
      after = client_loses ((to_stream n none_kept s).clients x.client) x.client (to_stream n none_kept s)

      go : (b : Bool) → x.part.orphan ≡ b
          → FateOf l Why s (then_also (tells_end b n ending (to_stream n none_kept s)) (λ s. client_loses (s.clients x.client) x.client s))
      go true e =
          fate_then l Why (s.streams l) (gone.streams l) (after.state.streams l) [] after.told
          (fate_orphan l Why n x s is e) (client_fate (gone.clients x.client) x.client gone)
      go false e =
          fate_then l Why (s.streams l) (gone.streams l) (after.state.streams l) (tells_end false n ending gone).told after.told
          (fate_goes l Why n ending x s (is, e) why) (client_fate (gone.clients x.client) x.client gone)

  pub telling_fate : (n : ℕ) (ending : Ending) (x : Stream) (s : State) → s.streams n ≡ Some x → (n ≡ l → Why x.client x.link ending)
      → FateOf l Why s (ends_telling n ending x s)
  telling_fate n ending x s is why =
      let p = close_packet n x.part.remote in
      then_fate l Why s (owe_link x.link p s) (ends_row n ending x) (fate_same l Why (s.streams l) _ refl)
      (ends_fate n ending x (owe_link x.link p s).state is why)

  -- ---- all streams of a link end
  if_of_fate : (t n : ℕ) (ending : Ending) (o : Option Stream) (s : State) → s.streams n ≡ o → ((c : ℕ) → Why c t ending)
      → FateOf l Why s (ends_if_of t n ending o s)
  if_of_fate t n ending None s is why = quiet s
  if_of_fate t n ending (Some x) s is why =
      if_fate s (nat_eq x.link t) (ends_row n ending x s) (quietly s)
      (λ e. ends_fate n ending x s is
      (λ same. subst (λ (k : ℕ). Why x.client k ending) (sym (eqb-true x.link t e)) (why x.client)))
      (λ e. quiet s)

  pub ends_of_fate : (t k : ℕ) (ending : Ending) (s : State) → ((c : ℕ) → Why c t ending) → FateOf l Why s (ends_of t k ending s)
  ends_of_fate t zero ending s why = quiet s
  ends_of_fate t (suc k) ending s why =
      let m = ends_of t k ending s in
      then_fate l Why s m (λ s. ends_if_of t (suc k) ending (s.streams (suc k)) s) (ends_of_fate t k ending s why)
      (if_of_fate t (suc k) ending (m.state.streams (suc k)) m.state refl why)

  pub all_end_fate : (t : ℕ) (ending : Ending) (s : State) → ((c : ℕ) → Why c t ending) → FateOf l Why s (all_end t ending s)
  all_end_fate t ending s why = ends_of_fate t s.drawn ending s why

-- the row of a stream that ended
pub gone_here : (l n : ℕ) (ending : Ending) (x : Stream) (s : State) → s.streams n ≡ Some x → n ≡ l
    → (ends_row n ending x s).state.streams l ≡ None
gone_here l n ending x s is same =
    let gone = to_stream n none_kept s in
    ap (λ (r : State). r.streams l) (ends_state n ending x s ∙ client_loses_frame (s.clients x.client) x.client gone)
    ∙ (ap gone.streams (sym same) ∙ changed_here n none_kept s.streams x is)

abbrev pub Any : Reason
Any = λ c k y. Unit {0}

module _ (l : ℕ) where
  -- the streams that are left are of other links
  if_of_clear : (t n : ℕ) (ending : Ending) (o : Option Stream) (s : State) → s.streams n ≡ o → n ≡ l
      → (y : Stream) → (ends_if_of t n ending o s).state.streams l ≡ Some y → y.link ≢ t
  if_of_clear t n ending None s is same y there = absurd (let clash : None ≡ Some y = sym is ∙ (ap s.streams same ∙ there) in cc)
  if_of_clear t n ending (Some x) s is same y there = go (nat_eq x.link t) refl there
    where
      go : (b : Bool) → nat_eq x.link t ≡ b → (cond b (ends_row n ending x s) (quietly s)).state.streams l ≡ Some y → y.link ≢ t
      go true e f = absurd (let clash : None ≡ Some y = sym (gone_here l n ending x s is same) ∙ f in cc)
      go false e f =
          let row : x ≡ y = (let both : Some x ≡ Some y = sym is ∙ (ap s.streams same ∙ f) in cc) in
          λ g. eqb-false x.link t e (ap (λ (z : Stream). z.link) row ∙ g)

  ends_of_clear : (t k : ℕ) (ending : Ending) (s : State) → (0 < l) × (l ≤ k) → (y : Stream)
      → (ends_of t k ending s).state.streams l ≡ Some y → y.link ≢ t
  ends_of_clear t zero ending s within y there = absurd (omega (arith, within.0, within.1))
  ends_of_clear t (suc k) ending s within y there = go (cases_eq (suc k) l) (λ less z. ends_of_clear t k ending s (within.0, less) z)
    where
      m : Made
      m = ends_of t k ending s

      go : (suc k ≡ l) ⊎ (suc k ≡ l → ⊥) → (l ≤ k → (z : Stream) → m.state.streams l ≡ Some z → z.link ≢ t) → y.link ≢ t
      go (inl same) ih = if_of_clear t (suc k) ending (m.state.streams (suc k)) m.state refl same y there
      go (inr apart) ih =
          let fate = if_of_fate l Any t (suc k) ending (m.state.streams (suc k)) m.state refl (λ c. tt) in
          let w = fate.was y there in
          λ e. ih (omega (arith, within.1, apart)) w.old w.is (sym w.link ∙ e)

  -- a stream of the link that lives ends
  pub all_end_ends : (t : ℕ) (ending : Ending) (s : State) (x : Stream) → (s.streams l ≡ Some x) × (x.part.orphan ≡ false) × (x.link ≡ t)
      → (0 < l) × (l ≤ s.drawn) → ending_in l (all_end t ending s).told ≡ Some ending
  all_end_ends t ending s x is within = go (ending_in l (all_end t ending s).told) refl
    where
      fate : FateOf l (λ c k y. y ≡ ending) s (all_end t ending s)
      fate = all_end_fate l (λ c k y. y ≡ ending) t ending s (λ c. refl)

      go : (o : Option Ending) → ending_in l (all_end t ending s).told ≡ o → o ≡ Some ending
      go (Some z) e = ap Some (fate.ends z e).why
      go None e = absurd (
          let left = live_row ((all_end t ending s).state.streams l) (fate.stays e ∙ row_lives (s.streams l) x is.0 is.1) in
          let w = fate.was left.row left.is in
          let same : w.old ≡ x = (let both : Some w.old ≡ Some x = sym w.is ∙ is.0 in cc) in
          ends_of_clear t s.drawn ending s within left.row left.is (w.link ∙ (ap (λ (z : Stream). z.link) same ∙ is.2)))

module _ (l : ℕ) (Why : Reason) where
  pub link_ends_fate : (t : ℕ) (ending : Ending) (s : State) → ((c : ℕ) → Why c t ending) → FateOf l Why s (link_ends t ending s)
  link_ends_fate t ending s why =
      let m = all_end t ending (forgets t s) in
      then_fate l Why s m (λ s. quietly (mark_all s)) (all_end_fate l Why t ending (forgets t s) why)
      (fate_same l Why (m.state.streams l) [] refl)

  -- ---- the up rule
  go_up_fate : (n : ℕ) (x : Stream) (ps : List (List ℕ)) (s : State) → FateOf l Why s (all_go_up n x ps s)
  go_up_fate n x [] s = quiet l Why s
  go_up_fate n x (p ∷ ps) s =
      then_fate l Why s (goes_up n x p s) (all_go_up n x ps) (fate_same l Why (s.streams l) _ refl)
      (go_up_fate n x ps (goes_up n x p s).state)

  closes_if_fate : (over : Bool) (n : ℕ) (o : Option Stream) (s : State) → s.streams n ≡ o
      → (over ≡ true → n ≡ l → (c t : ℕ) → Why c t ClientClosed)
      → FateOf l Why s (closes_if over n o s)
  closes_if_fate over n None s is why = quiet l Why s
  closes_if_fate false n (Some x) s is why = quiet l Why s
  closes_if_fate true n (Some x) s is why = telling_fate l Why n ClientClosed x s is (λ same. why refl same x.client x.link)

  sends_fate : (n : ℕ) (x : Stream) (client : Client) (ps : List (List ℕ)) (s : State) → s.streams n ≡ Some x
      → (is_over client.about.ended (drop (total ps) client.held) (flow_after ps x.part.flow) ≡ true → n ≡ l
      → (c t : ℕ) → Why c t ClientClosed)
      → FateOf l Why s (sends_up n x client ps s)
  sends_fate n x client ps s is why =
      let left = noted n x client.held ps s in
      let sent = all_go_up n x ps left in
      let over = is_over client.about.ended (drop (total ps) client.held) (flow_after ps x.part.flow) in
      let m = closes_if over n (sent.state.streams n) sent.state in
      fate_then l Why (s.streams l) (sent.state.streams l) (m.state.streams l) sent.told m.told
      (fate_then l Why (s.streams l) (left.streams l) (sent.state.streams l) [] sent.told
      (fate_part l Why n x (with_flow (flow_after ps x.part.flow) x.part) s is refl) (go_up_fate n x ps left))
      (closes_if_fate over n (sent.state.streams n) sent.state refl why)

  up_client_fate : (n : ℕ) (x : Stream) (o : Option Client) (s : State) → (s.streams n ≡ Some x) × (s.clients x.client ≡ o)
      → ((y : Sending n s) → over n s y ≡ true → n ≡ l → (c t : ℕ) → Why c t ClientClosed) → FateOf l Why s (up_client n x o s)
  up_client_fate n x None s is why = quiet l Why s
  up_client_fate n x (Some client) s is why =
      let ps = payloads x.part.flow (maxdata_of x.link s.devices) client.held in
      if_fate l Why s (is_streaming n client.about.phase) (sends_up n x client ps s) (quietly s)
      (λ e. sends_fate n x client ps s is.0
      (why (record { stream = x; client = client; there = is.0; here = is.1; streaming = e })))
      (λ e. quiet l Why s)

  -- of the stream that it sends up
  pub up_fate : (n : ℕ) (s : State)
      → ((y : Sending n s) → over n s y ≡ true → n ≡ l → (c t : ℕ) → Why c t ClientClosed) → FateOf l Why s (up n s)
  up_fate n s why = go (s.streams n) refl
    where
      go : (o : Option Stream) → s.streams n ≡ o → FateOf l Why s (up_stream n o s)
      go None is = quiet l Why s
      go (Some x) is = up_client_fate n x (s.clients x.client) s (is, refl) why

  pub up_all_fate : (k : ℕ) (s : State) → ((c t : ℕ) → Why c t ClientClosed) → FateOf l Why s (up_all k s)
  up_all_fate zero s why = quiet l Why s
  up_all_fate (suc k) s why =
      let m = up_all k s in
      then_fate l Why s m (up (suc k)) (up_all_fate k s why) (up_fate (suc k) m.state (λ y e same. why))
