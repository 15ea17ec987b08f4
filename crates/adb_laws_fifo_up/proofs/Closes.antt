-- A stream that its client closed was closed towards its device: its CLSE became due by the step that ended it, and
-- was sent where nothing is due.
use Rattle.std.proofs.Common.{◌≡◌, ℕ, Bool, true, false, List, [], ◌∷◌, ◌++◌, Option, Some, None, refl, sym, ap, subst, ◌∙◌, ◌⊎◌, inl, inr}
use Rattle.std.proofs.Common.{arith}
use Rattle.std.specs.Prelude.{Contains}
use Rattle.std.proofs.lemmas.Bool.{eq-eqb, cases_eq}
use Rattle.std.proofs.lemmas.List.{append-nil}
use Rattle.std.proofs.lemmas.List.Elements.{All-contains, Contains-append_left, Contains-append_right}
use Rattle.adb_wire.specs.Cutting.{framed}
use Rattle.adb_wire.specs.declared.command.Command.TheVariants.{Clse}
use Rattle.adb_wire.specs.declared.packets.Packet.{Packet}
use Rattle.adb_stream.specs.declared.row.Stream.{Stream}
use Rattle.adb_client.specs.declared.phase.Phase.{Phase}
use Rattle.adb_client.specs.declared.phase.Phase.TheVariants.{Asking}
use Rattle.adb_capture.specs.declared.entry.Entry.{Entry}
use Rattle.adb_capture.specs.declared.entry.Entry.TheVariants.{Enter, Read, Recv}
use Rattle.adb_history.specs.Rows.{Client, Link, State}
use Rattle.adb_history.specs.Events.{Made, Event, packets_to, spelled_to, ending_in}
use Rattle.adb_history.specs.declared.ending.Ending.TheVariants.{ClientClosed}
use Rattle.adb_history.specs.Links.{close_packet}
use Rattle.adb_history.specs.Flow.{all_go_up, closes_if, sends_up}
use Rattle.adb_history.specs.Losing.{stops}
use Rattle.adb_history.specs.Machine.{History, state, told, IsLegal}
use Rattle.adb_history.specs.Bytes.{bytes_sent, sent}
use Rattle.adb_history.specs.Births.{Birth, born, remote_of}
use Rattle.adb_history.specs.Fifo.{IsOwn, HasSentAll, TellsClose}
use Rattle.adb_history.specs.Lives.{packets_of}
use Rattle.adb_history.specs.Owned.{IsOwned}
use Rattle.adb_history.proofs.OutputEntries.{all_due_past_sent}
use Rattle.adb_history.proofs.OwnedStep.{all_owned}
use Rattle.adb_history.proofs.Sweep.{Sending, left, over, sent as writes}
use Rattle.adb_laws_births.proofs.Crossing.{owes_own}
use Rattle.adb_laws_births.proofs.Laws.{sends_first}
use Rattle.adb_laws_fifo_up.specs.Climbing.{Silent, IsOther, Goes, Climbs}
use Rattle.adb_laws_fifo_up.proofs.Seeing.{packets_append, silent_aside, silent_end, silent_up, silent_open, end_such, ending_split}
use Rattle.adb_laws_fifo_up.proofs.Opened.{opens_made}
use Rattle.adb_laws_fifo_up.proofs.SendsUp.{go_up_lives, sends_made}
use Rattle.adb_laws_fifo_up.proofs.Stops.{stops_other}
use Rattle.adb_laws_fifo_up.proofs.Unborn.{Heard}
use Rattle.adb_laws_fifo_up.proofs.RuleClimbs.{ReadsIn, ReadsOf, Begins, step_climbs}

-- a packet that closes a stream became due to a link
pub record HasClose (l : ℕ) (w : List Event) : Type 0 where
  pub link : ℕ
  pub remote : ℕ
  pub due : Contains (packets_to link w) (close_packet l remote)

-- where a stream was told to end by its client's close, so was its device
abbrev pub IsClosed : ℕ → List Event → Type 0
IsClosed l w = ending_in l w ≡ Some ClientClosed → HasClose l w

has_first : (l : ℕ) (u w : List Event) → HasClose l u → HasClose l (u ++ w)
has_first l u w h = record {
  link = h.link;
  remote = h.remote;
  due = subst (λ (ps : List Packet). Contains ps (close_packet l h.remote)) (sym (packets_append h.link u w))
      (Contains-append_left (packets_to h.link u) (packets_to h.link w) (close_packet l h.remote) h.due);
}

has_last : (l : ℕ) (u w : List Event) → HasClose l w → HasClose l (u ++ w)
has_last l u w h = record {
  link = h.link;
  remote = h.remote;
  due = subst (λ (ps : List Packet). Contains ps (close_packet l h.remote)) (sym (packets_append h.link u w))
      (Contains-append_right (packets_to h.link u) (packets_to h.link w) (close_packet l h.remote) h.due);
}

closed_then : (l : ℕ) (u w : List Event) → IsClosed l u → IsClosed l w → IsClosed l (u ++ w)
closed_then l u w first second e = go (ending_split l u w ClientClosed e)
  where
    go : (ending_in l u ≡ Some ClientClosed) ⊎ (ending_in l w ≡ Some ClientClosed) → HasClose l (u ++ w)
    go (inl f) = has_first l u w (first f)
    go (inr f) = has_last l u w (second f)

silent_closed : (l : ℕ) (u : List Event) → Silent l u → IsClosed l u
silent_closed l u silent e = absurd (silent_open l u silent e)

-- ---- what a stream sends
closes_closed : (b : Bool) (l : ℕ) (o : Option Stream) (s : State) → IsClosed l (closes_if b l o s).told
closes_closed b l None s e = absurd (let clash : None ≡ Some ClientClosed = e in cc)
closes_closed false l (Some stream) s e = absurd (let clash : None ≡ Some ClientClosed = e in cc)
closes_closed true l (Some stream) s e = record {
  link = stream.link;
  remote = stream.part.remote;
  due = rw (eq-eqb stream.link stream.link refl) (0, omega arith, refl);
}

sends_closed : (l : ℕ) (s : State) (x : Sending l s) → IsClosed l (sends_up l x.stream x.client (writes l s x) s).told
sends_closed l s x =
    let up : Made = all_go_up l x.stream (writes l s x) (left l s x) in
    closed_then l up.told (closes_if (over l s x) l (up.state.streams l) up.state).told
    (λ e. absurd (let clash : None ≡ Some ClientClosed = sym (go_up_lives l x.stream l (writes l s x) (left l s x)) ∙ e in cc))
    (closes_closed (over l s x) l (up.state.streams l) up.state)

-- ---- all moves
module _ (l : ℕ) where
  abbrev Closed : State → List Event → Type 0
  Closed s w = IsClosed l w

  goes_closed : (k : ℕ) (s : State) (m : Made) → Goes IsOther k s m → (k ≡ l) ⊎ (k ≡ l → ⊥) → IsClosed l m.told
  goes_closed k s m g (inl same) e =
      absurd (end_such IsOther l m.told ClientClosed (subst (λ (n : ℕ). Goes IsOther n s m) same g).told e refl)
  goes_closed k s m g (inr apart) e = silent_closed l m.told (silent_end IsOther k l (λ f. apart (sym f)) m.told g.told) e

  sent_closed : (k : ℕ) (s : State) (x : Sending k s) → (k ≡ l) ⊎ (k ≡ l → ⊥)
      → IsClosed l (sends_up k x.stream x.client (writes k s x) s).told
  sent_closed k s x (inl same) =
      subst (λ (i : ℕ). (z : Sending i s) → IsClosed l (sends_up i z.stream z.client (writes i s z) s).told) (sym same) (sends_closed l s) x
  sent_closed k s x (inr apart) = silent_closed l _ (silent_up k l (λ f. apart (sym f)) _ (sends_made k s x).told)

  closed_climbs : Climbs Heard Closed
  closed_climbs = record {
    aside = λ s m w off h. closed_then l w m.told h (silent_closed l m.told (silent_aside l m.told off.told));
    draws = λ c t x s w here asks h. h;
    parts = λ k stream part s w is level h. h;
    acks = λ k word stream s w is hears h. h;
    opens = λ k remote word stream s w is new hears h.
        closed_then l w _ h (silent_closed l _ (silent_aside l _ (opens_made k remote word stream s is).told));
    goes = λ k s m w g h. closed_then l w m.told h (goes_closed k s m g (cases_eq k l));
    stops = λ c s w h. closed_then l w (stops c s).told h (λ e. absurd (stops_other c s l e));
    sends = λ k s w x h. closed_then l w _ h (sent_closed k s x (cases_eq k l));
  }

  module _ (s : State) (w : List Event) (h : IsClosed l w) where
    reads_in : (phase : Phase) (c : ℕ) (bytes : List ℕ) (x : Client) → ReadsIn closed_climbs s w phase c bytes x
    reads_in Asking c bytes x = h
    reads_in _ c bytes x = h

    reads_of : (o : Option Client) (c : ℕ) (bytes : List ℕ) → ReadsOf closed_climbs s w o c bytes
    reads_of None c bytes = h
    reads_of (Some x) c bytes = reads_in x.about.phase c bytes x

    begins : (e : Entry) → IsOwned s → Begins closed_climbs e s w
    begins (Enter c port) owned = (h, h)
    begins (Read c bytes) owned = reads_of (s.clients c) c bytes
    begins (Recv t bytes) owned = (h, owned, λ s owned k. tt)
    begins _ owned = h

  -- In every legal history the CLSE of a stream that its client closed became due.
  pub all_closed : (h : History) → IsLegal h → IsClosed l (told h)
  all_closed [] legal = λ e. absurd (let clash : None ≡ Some ClientClosed = e in cc)
  all_closed (e ∷ older) legal =
      step_climbs closed_climbs e (state older) (told older)
      (begins (state older) (told older) (all_closed older legal.0) e (all_owned older legal.0))

-- ---- it was sent
-- where nothing is due to a link, all its packets were sent
all_sent : (h : History) → IsLegal h → (t : ℕ) → HasSentAll ((state h).links t) → packets_of t h ≡ sent t h
all_sent h legal t = go ((state h).links t) refl
  where
    go : (o : Option Link) → (state h).links t ≡ o → HasSentAll o → packets_of t h ≡ sent t h
    go None is none = absurd none
    go (Some link) is none =
        let whole : spelled_to t (told h) ≡ bytes_sent t h =
        all_due_past_sent h legal t link is ∙ (ap (λ (x : List ℕ). bytes_sent t h ++ x) none ∙ append-nil (bytes_sent t h)) in
        sym (sends_first h legal t).packets ∙ ap (λ (x : List ℕ). (framed x).given) whole

module _ (h : History) (l : ℕ) (b : Birth) (is : born l h ≡ Some b) (t remote : ℕ) where
  -- a packet that closes a stream is on its link, to the id that its device told
  own_close : IsOwn h t Clse (close_packet l remote) → (b.link ≡ t) × (remote ≡ remote_of l b h)
  own_close (inl of) =
      let same : of.birth ≡ b = (let both : Some of.birth ≡ Some b = sym of.is ∙ is in cc) in
      (sym (ap (λ (x : Birth). x.link) same) ∙ of.link, of.remote ∙ ap (λ (x : Birth). remote_of l x h) same)
  own_close (inr refusal) =
      let none : l ≡ 0 = ap (λ (p : Packet). p.arg0) refusal.packet in
      absurd (let clash : None ≡ Some b = sym (ap (λ (n : ℕ). born n h) none) ∙ is in cc)

-- In every legal history a device is told that the client closed, where that ended the stream and nothing is due to its link.
pub tells_close : (h : History) → IsLegal h → TellsClose h
tells_close h legal l b is ends sent_all =
    let close = all_closed l h legal ends in
    let p : Packet = close_packet l close.remote in
    let own = own_close h l b is close.link close.remote
    (All-contains (λ p. IsOwn h close.link p.command p) (packets_of close.link h) p ((owes_own h legal).own close.link) close.due) in
    let due : Contains (packets_of b.link h) (close_packet l (remote_of l b h)) =
    subst (λ (n : ℕ). Contains (packets_of b.link h) (close_packet l n)) own.1
    (subst (λ (n : ℕ). Contains (packets_of n h) (close_packet l close.remote)) (sym own.0) close.due) in
    subst (λ (ps : List Packet). Contains ps (close_packet l (remote_of l b h))) (all_sent h legal b.link sent_all) due
