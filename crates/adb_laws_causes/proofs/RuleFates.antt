-- What the rule of each entry makes of the stream of a number that was drawn before.
use Rattle.std.proofs.Common.{◌≡◌, ◌≢◌, ◌≤◌, ◌<◌, ◌+◌, ℕ, zero, suc, Bool, true, false, cond, not, List, [], ◌∷◌, length, drop, min, Option}
use Rattle.std.proofs.Common.{Some}
use Rattle.std.proofs.Common.{None, refl, sym, ap, subst, ◌∙◌, eqb}
use Rattle.std.proofs.Common.{arith, ◌⊎◌, inl, inr}
use Rattle.std.specs.Prelude.{nat_eq}
use Rattle.std.specs.Option.{option_or}
use Rattle.std.proofs.lemmas.Bool.{eqb-true, eq-eqb, ne_eqb, cases_eq}
use Rattle.adb_outside.specs.Tables.{at, Rows}
use Rattle.adb_outside.specs.declared.kinds.Cause.{Cause}
use Rattle.adb_outside.specs.declared.kinds.Cause.TheVariants.{Eof, Fault, Starved, NoThread}
use Rattle.adb_forward.specs.declared.row.ForwardRow.{ForwardRow}
use Rattle.adb_stream.specs.Stream.{new_stream}
use Rattle.adb_stream.specs.Flow.{new_flow, to_hand, credit_back, handed_to}
use Rattle.adb_stream.specs.declared.flow.Flow.{Flow}
use Rattle.adb_stream.specs.declared.flow.Flow.TheVariants.{One, Credit}
use Rattle.adb_stream.specs.declared.row.Stream.{Stream}
use Rattle.adb_client.specs.declared.phase.Phase.{Phase}
use Rattle.adb_client.specs.declared.phase.Phase.TheVariants.{Asking, Opening, Streaming, Binding, Closing, Gone}
use Rattle.adb_client.specs.declared.about.Want.{Want}
use Rattle.adb_reply.specs.declared.answer.Next.{Next}
use Rattle.adb_reply.specs.declared.answer.Next.TheVariants.{Select, Open, Stop}
use Rattle.adb_capture.specs.declared.entry.Entry.{Entry}
use Rattle.adb_capture.specs.declared.entry.Entry.TheVariants.{Enter, Read, End, Bound, Recv, Detach, Put}
use Rattle.adb_history.specs.Rows.{Client, Link, State, to_client, to_stream, none_kept, with_stream_part}
use Rattle.adb_history.specs.Events.{Event, ended, quietly, ending_in}
use Rattle.adb_history.specs.declared.ending.Ending.{Ending}
use Rattle.adb_history.specs.declared.ending.Ending.TheVariants.{Lost, ClientFailed, Stopped}
use Rattle.adb_history.specs.Links.{is_connected, is_credit}
use Rattle.adb_history.specs.Clients.{owe_client}
use Rattle.adb_history.specs.Streams.{stream_ids, draw, asks_for, no_ids_left, opens}
use Rattle.adb_history.specs.Flow.{with_flow}
use Rattle.adb_history.specs.Asking.{Asked, asks_with}
use Rattle.adb_history.specs.Losing.{stream_fails, stream_of, client_fails, input_ends, client_ends, tells_stop, all_stop, stops}
use Rattle.adb_history.specs.Reading.{comes, comes_in_vain, enters_by, goes_on, asked_before, has_asked, asks, reads_in, reads_from}
use Rattle.adb_history.specs.Reading.{bound_for, bound_in, bound_at}
use Rattle.adb_history.specs.Handing.{lists_first, hands, tells_credit, tells_handed, stream_hands, stream_left, client_left}
use Rattle.adb_history.specs.Handing.{takes_of, puts_to}
use Rattle.adb_history.specs.Machine.{unplugs_on, rule}
use Rattle.adb_history.specs.Bytes.{is_orderly}
use Rattle.adb_history.specs.Orderly.{IsDrawnOnly}
use Rattle.adb_history.specs.Owned.{HoldsIn, IsOwned}
use Rattle.adb_laws_causes.proofs.Fates.{lives, Reason, Fate, FateOf, fate_same, fate_retold, fate_then, then_fate, fate_part, fate_goes}
use Rattle.adb_laws_causes.proofs.Fates.{fate_left, ending_append, or_none, none_some, live_row}
use Rattle.adb_laws_causes.proofs.StreamFates.{quiet, if_fate, link_ends_fate}
use Rattle.adb_laws_causes.proofs.PacketFates.{OfLink, receives_fate}

-- what each entry may end, and why; kill says that the rule made one
abbrev pub WhyBy : Entry → Type 0 → Reason
WhyBy (Recv t bytes) kill = OfLink t
WhyBy (Detach t cause) kill = λ client link ending. (ending ≡ Lost) × (link ≡ t)
WhyBy (End c cause) kill = λ client link ending. (ending ≡ ClientFailed cause) × (client ≡ c) × (is_orderly cause ≡ false)
WhyBy (Read c bytes) kill = λ client link ending. (ending ≡ Stopped) × kill
WhyBy _ kill = λ client link ending. ⊥

-- an entry that may draw a stream
abbrev pub draws : Entry → Bool
draws (Enter c port) = true
draws (Read c bytes) = true
draws _ = false

-- a stream that is there was drawn
pub drawn_row : (drawn l : ℕ) (streams : Rows (Option Stream)) → IsDrawnOnly drawn streams → (x : Stream)
    → streams l ≡ Some x → (0 < l) × (l ≤ drawn)
drawn_row drawn l streams rows x is = (some (cases_eq 0 l), below (order l drawn))
  where
    order : (a b : ℕ) → (a ≤ b) ⊎ (b < a)
    order a b = grind arith

    some : (0 ≡ l) ⊎ (0 ≡ l → ⊥) → 0 < l
    some (inl same) = absurd (let clash : None ≡ Some x = sym rows.zero ∙ (ap streams same ∙ is) in cc)
    some (inr apart) = omega (arith, apart)

    below : (l ≤ drawn) ⊎ (drawn < l) → l ≤ drawn
    below (inl in_) = in_
    below (inr above) = absurd (let clash : None ≡ Some x = sym (rows.above l above) ∙ is in cc)

-- ---- kill
-- the streams that live are told to stop
module _ (l : ℕ) (streams : Rows (Option Stream)) where
  tells_one : (k : ℕ) (o : Option Stream) → ending_in l (tells_stop k o) ≡ cond (eqb k l) (cond (lives o) (Some Stopped) None) None
  tells_one k None = go (eqb k l)
    where
      go : (b : Bool) → ending_in l [] ≡ cond b None None
      go true = refl
      go false = refl
  tells_one k (Some x) = go x.part.orphan
    where
      both : (b : Bool) → ending_in l [] ≡ cond b None None
      both true = refl
      both false = refl

      go : (orphan : Bool) → ending_in l (cond orphan [] (ended k Stopped ∷ []))
          ≡ cond (eqb k l) (cond (not orphan) (Some Stopped) None) None
      go true = both (eqb k l)
      go false = refl

  pub stops_some : (k : ℕ) (y : Ending) → ending_in l (all_stop k streams) ≡ Some y → (y ≡ Stopped) × (lives (streams l) ≡ true)
  stops_some zero y e = absurd (none_some y e)
  stops_some (suc k) y e =
      go (ending_in l (all_stop k streams)) refl (stops_some k y)
      (sym (ending_append l (all_stop k streams) (tells_stop (suc k) (streams (suc k)))) ∙ e)
    where
      here : (same live : Bool) → eqb (suc k) l ≡ same → lives (streams (suc k)) ≡ live
          → cond same (cond live (Some Stopped) None) None ≡ Some y
          → (y ≡ Stopped) × (lives (streams l) ≡ true)
      here true true e f g = (let both : Some Stopped ≡ Some y = g in cc, ap (λ n. lives (streams n)) (sym (eqb-true (suc k) l e)) ∙ f)
      here true false e f g = absurd (none_some y g)
      here false live e f g = absurd (none_some y g)

      go : (o : Option Ending) → ending_in l (all_stop k streams) ≡ o
          → (ending_in l (all_stop k streams) ≡ Some y → (y ≡ Stopped) × (lives (streams l) ≡ true))
          → option_or o (ending_in l (tells_stop (suc k) (streams (suc k)))) ≡ Some y → (y ≡ Stopped) × (lives (streams l) ≡ true)
      go (Some z) is ih e = ih (is ∙ e)
      go None is ih e = here (eqb (suc k) l) (lives (streams (suc k))) refl refl (sym (tells_one (suc k) (streams (suc k))) ∙ e)

  stops_none : (k : ℕ) → (0 < l) × (l ≤ k) → ending_in l (all_stop k streams) ≡ None → lives (streams l) ≡ false
  stops_none zero within e = absurd (omega (arith, within.0, within.1))
  stops_none (suc k) within e = go (cases_eq (suc k) l) (λ less. stops_none k (within.0, less))
      (or_none (ending_in l (all_stop k streams)) (ending_in l (tells_stop (suc k) (streams (suc k))))
      (sym (ending_append l (all_stop k streams) (tells_stop (suc k) (streams (suc k)))) ∙ e))
    where
      here : (same live : Bool) → same ≡ true → lives (streams (suc k)) ≡ live → cond same (cond live (Some Stopped) None) None ≡ None
          → lives (streams (suc k)) ≡ false
      here true true e f g = absurd (none_some Stopped (sym g))
      here true false e f g = f
      here false live e f g = absurd (let clash : false ≡ true = e in cc)

      go : (suc k ≡ l) ⊎ (suc k ≡ l → ⊥) → (l ≤ k → ending_in l (all_stop k streams) ≡ None → lives (streams l) ≡ false)
          → (ending_in l (all_stop k streams) ≡ None) × (ending_in l (tells_stop (suc k) (streams (suc k))) ≡ None)
          → lives (streams l) ≡ false
      go (inl same) ih none =
          ap (λ n. lives (streams n)) (sym same)
          ∙ here (eqb (suc k) l) (lives (streams (suc k))) (eq-eqb (suc k) l same) refl (sym (tells_one (suc k) (streams (suc k))) ∙ none.1)
      go (inr apart) ih none = ih (omega (arith, within.1, apart)) none.0

module _ (l : ℕ) (Why : Reason) where
  stops_fate : (c : ℕ) (s : State) → IsDrawnOnly s.drawn s.streams → ((n t : ℕ) → Why n t Stopped) → FateOf l Why s (stops c s)
  stops_fate c s rows why = record {
    was = λ y is. absurd (let clash : None ≡ Some y = is in cc);
    stays = λ e. sym (dead e (lives (s.streams l)) refl);
    ends = λ y e.
        let h = stops_some l s.streams s.drawn y e in
        let x = live_row (s.streams l) h.1 in
        record {
          row = x.row;
          is = x.is;
          alive = x.alive;
          over = refl;
          why =
              subst (Why x.row.client x.row.link) (sym h.0) (why x.row.client x.row.link);
        };
  }
    where
      dead : ending_in l (all_stop s.drawn s.streams) ≡ None → (b : Bool) → lives (s.streams l) ≡ b → lives (s.streams l) ≡ false
      dead e false f = f
      dead e true f =
          let x = live_row (s.streams l) f in
          stops_none l s.streams s.drawn (drawn_row s.drawn l s.streams rows x.row x.is) e

  -- ---- service
  drawn_fate : (c t : ℕ) (service : List ℕ) (s : State) → l ≢ s.drawn + 1 → FateOf l Why s (asks_for (s.drawn + 1) c t service s)
  drawn_fate c t service s other = go (eqb (s.drawn + 1) l) (ne_eqb (s.drawn + 1) l (λ e. other (sym e)))
    where
      told : List Event
      told = (asks_for (s.drawn + 1) c t service s).told

      new : Option Stream
      new = (draw (is_credit t s.devices) c t s).streams (s.drawn + 1)

      go : (b : Bool) → b ≡ false → Fate l Why (s.streams l)
          (cond b (Some (new_stream (s.drawn + 1) c t (new_flow (is_credit t s.devices))))
          (s.streams l)) told
      go false e = fate_same l Why (s.streams l) told refl
      go true e = absurd (let clash : true ≡ false = e in cc)

  no_ids_fate : (forwarded : Bool) (c : ℕ) (s : State) → FateOf l Why s (no_ids_left forwarded c s)
  no_ids_fate true c s = fate_same l Why (s.streams l) [] refl
  no_ids_fate false c s = fate_same l Why (s.streams l) _ refl

  opens_fate : (forwarded : Bool) (c t : ℕ) (service : List ℕ) (s : State) → l ≢ s.drawn + 1
      → FateOf l Why s (opens forwarded c t service s)
  opens_fate forwarded c t service s other =
      if_fate l Why s (eqb s.drawn stream_ids) (no_ids_left forwarded c s) (asks_for (s.drawn + 1) c t service s)
      (λ e. no_ids_fate forwarded c s) (λ e. drawn_fate c t service s other)

  enters_fate : (c : ℕ) (o : Option ForwardRow) (s : State) → l ≢ s.drawn + 1 → FateOf l Why s (enters_by c o s)
  enters_fate c None s other = fate_same l Why (s.streams l) [] refl
  enters_fate c (Some row) s other =
      if_fate l Why s (is_connected row.transport s.devices) (opens true c row.transport row.remote (comes true c s))
      (quietly (comes_in_vain s))
      (λ e. opens_fate true c row.transport row.remote (comes true c s) other) (λ e. fate_same l Why (s.streams l) [] refl)

  -- ---- read
  goes_on_fate : (next : Option Next) (c : ℕ) (s : State) → l ≢ s.drawn + 1 → IsDrawnOnly s.drawn s.streams
      → ((goes_on next c s).state.stopped ≡ true → (n t : ℕ) → Why n t Stopped) → FateOf l Why s (goes_on next c s)
  goes_on_fate None c s other rows why = quiet l Why s
  goes_on_fate (Some (Select id)) c s other rows why = quiet l Why s
  goes_on_fate (Some (Open t service)) c s other rows why = opens_fate false c t service s other
  goes_on_fate (Some Stop) c s other rows why = stops_fate c s rows (why refl)
  goes_on_fate _ c s other rows why = fate_same l Why (s.streams l) [] refl

  asks_fate : (q : Asked) (c : ℕ) (s : State) → l ≢ s.drawn + 1 → IsDrawnOnly s.drawn s.streams
      → ((asks q c s).state.stopped ≡ true → (n t : ℕ) → Why n t Stopped) → FateOf l Why s (asks q c s)
  asks_fate q c s other rows why =
      let owed = owe_client c q.replies (to_client c (has_asked q) s) in
      then_fate l Why s owed (goes_on q.next c) (fate_same l Why (s.streams l) _ refl) (goes_on_fate q.next c owed.state other rows why)

  reads_in_fate : (phase : Phase) (c : ℕ) (bytes : List ℕ) (client : Client) (s : State) → l ≢ s.drawn + 1 → IsDrawnOnly s.drawn s.streams
      → ((reads_in phase c bytes client s).state.stopped ≡ true → (n t : ℕ) → Why n t Stopped)
      → FateOf l Why s (reads_in phase c bytes client s)
  reads_in_fate Asking c bytes client s other rows why = asks_fate
      (asks_with s.devices s.forwards bytes (asked_before client)) c s other rows why
  reads_in_fate (Opening k) c bytes client s other rows why = fate_same l Why (s.streams l) [] refl
  reads_in_fate (Streaming k) c bytes client s other rows why = fate_same l Why (s.streams l) [] refl
  reads_in_fate _ c bytes client s other rows why = quiet l Why s

  reads_fate : (o : Option Client) (c : ℕ) (bytes : List ℕ) (s : State) → l ≢ s.drawn + 1 → IsDrawnOnly s.drawn s.streams
      → ((reads_from o c bytes s).state.stopped ≡ true → (n t : ℕ) → Why n t Stopped) → FateOf l Why s (reads_from o c bytes s)
  reads_fate None c bytes s other rows why = quiet l Why s
  reads_fate (Some client) c bytes s other rows why = reads_in_fate client.about.phase c bytes client s other rows why

  -- ---- bound
  bound_for_fate : (want : Option Want) (c port : ℕ) (s : State) → FateOf l Why s (bound_for want c port s)
  bound_for_fate None c port s = quiet l Why s
  bound_for_fate (Some want) c port s = fate_same l Why (s.streams l) _ refl

  bound_in_fate : (phase : Phase) (want : Option Want) (c port : ℕ) (s : State) → FateOf l Why s (bound_in phase want c port s)
  bound_in_fate Binding want c port s = bound_for_fate want c port s
  bound_in_fate _ want c port s = quiet l Why s

  bound_fate : (o : Option Client) (c port : ℕ) (s : State) → FateOf l Why s (bound_at o c port s)
  bound_fate None c port s = quiet l Why s
  bound_fate (Some client) c port s = bound_in_fate client.about.phase client.about.want c port s

  -- ---- client end
  -- the stream of a client fails
  stream_fails_fate : (phase : Phase) (c : ℕ) (cause : Cause) (s : State)
      → ((n : ℕ) (x : Stream) → s.streams n ≡ Some x → stream_of phase s.streams ≡ Some x
      → (x.part.orphan ≡ false) × Why x.client x.link (ClientFailed cause))
      → FateOf l Why s (stream_fails phase cause (stream_of phase s.streams) (to_client c none_kept s))
  stream_fails_fate (Streaming k) c cause s why = go (s.streams k) refl
    where
      go : (o : Option Stream) → s.streams k ≡ o → FateOf l Why s (stream_fails (Streaming k) cause o (to_client c none_kept s))
      go None is = quiet l Why s
      go (Some x) is =
          let h = why k x is is in
          let gone = to_stream k none_kept s in
          fate_retold l Why (s.streams l) (gone.streams l) (ended k (ClientFailed cause) ∷ []) _ refl
          (fate_goes l Why k (ClientFailed cause) x s (is, h.0) (λ same. h.1))
  stream_fails_fate (Opening k) c cause s why = go (s.streams k) refl
    where
      go : (o : Option Stream) → s.streams k ≡ o → FateOf l Why s (stream_fails (Opening k) cause o (to_client c none_kept s))
      go None is = quiet l Why s
      go (Some x) is = (let h = why k x is is in fate_left l Why k (ClientFailed cause) x s (is, h.0) h.1)
  stream_fails_fate _ c cause s why = quiet l Why s

  input_fate : (phase : Phase) (c : ℕ) (s : State) → FateOf l Why s (quietly (input_ends phase c s))
  input_fate Closing c s = quiet l Why s
  input_fate Gone c s = quiet l Why s
  input_fate _ c s = fate_same l Why (s.streams l) [] refl

  -- ---- put
  lists_fate : (c : ℕ) (due : List ℕ) (client : Client) (s : State) → FateOf l Why s (lists_first c due client s)
  lists_fate c [] client s = fate_same l Why (s.streams l) _ refl
  lists_fate c (b ∷ due) client s = quiet l Why s

  credit_fate : (n k : ℕ) (x : Stream) (s : State) → FateOf l Why s (tells_credit n k x s)
  credit_fate zero k x s = quiet l Why s
  credit_fate (suc n) k x s = fate_same l Why (s.streams l) _ refl

  handed_fate : (flow : Flow) (left k : ℕ) (x : Stream) (s : State) → FateOf l Why s (tells_handed flow left k x s)
  handed_fate (One window) zero k x s = fate_same l Why (s.streams l) _ refl
  handed_fate (One window) (suc left) k x s = quiet l Why s
  handed_fate (Credit credit) left k x s = credit_fate (credit_back left credit) k x s

  hands_fate : (left k : ℕ) (x : Stream) (s : State) → s.streams k ≡ Some x → FateOf l Why s (stream_hands left k x s)
  hands_fate left k x s is =
      let part = with_flow (handed_to left x.part.flow) x.part in
      let less = to_stream k (with_stream_part part) s in
      let m = tells_handed x.part.flow left k x less in
      if_fate l Why s (nat_eq left (to_hand x.part.flow)) (quietly s) m (λ e. quiet l Why s)
      (λ e. fate_then l Why (s.streams l) (less.streams l) (m.state.streams l) [] m.told (fate_part l Why k x part s is refl)
      (handed_fate x.part.flow left k x less))

  left_fate : (due k : ℕ) (o : Option Stream) (s : State) → s.streams k ≡ o → FateOf l Why s (stream_left due k o s)
  left_fate due k None s is = quiet l Why s
  left_fate due k (Some x) s is = hands_fate (min (to_hand x.part.flow) due) k x s is

  client_left_fate : (phase : Phase) (due : ℕ) (s : State) → FateOf l Why s (client_left phase due s)
  client_left_fate (Streaming k) due s = left_fate due k (s.streams k) s refl
  client_left_fate _ due s = quiet l Why s

  takes_fate : (c n : ℕ) (o : Option Client) (s : State) → FateOf l Why s (takes_of c n o s)
  takes_fate c n None s = quiet l Why s
  takes_fate c n (Some client) s =
      let now = to_client c (hands n) s in
      let m = client_left client.about.phase (length (drop n client.due)) now in
      client_left_fate client.about.phase (length (drop n client.due)) now

  puts_fate : (o : Option Client) (c n : ℕ) (s : State) → FateOf l Why s (puts_to o c n s)
  puts_fate None c n s = quiet l Why s
  puts_fate (Some client) c n s =
      let listed = lists_first c client.due client s in
      then_fate l Why s listed (λ s. takes_of c n (s.clients c) s) (lists_fate c client.due client s)
      (takes_fate c n (listed.state.clients c) listed.state)

-- ---- entries
-- the stream of a client is its own
own_stream : (phase : Phase) (c : ℕ) (s : State) (client : Client) → HoldsIn phase s.streams c client → (x : Stream)
    → stream_of phase s.streams ≡ Some x
    → (x.part.orphan ≡ false) × (x.client ≡ c)
own_stream (Streaming k) c s client holds x is =
    let same : holds.stream ≡ x = (let both : Some holds.stream ≡ Some x = sym holds.is ∙ is in cc) in
    subst (λ (y : Stream). (y.part.orphan ≡ false) × (y.client ≡ c)) same (holds.owned, holds.client)
own_stream (Opening k) c s client holds x is =
    let same : holds.stream ≡ x = (let both : Some holds.stream ≡ Some x = sym holds.is ∙ is in cc) in
    subst (λ (y : Stream). (y.part.orphan ≡ false) × (y.client ≡ c)) same (holds.owned, holds.client)
own_stream _ c s client holds x is = absurd (let clash : None ≡ Some x = is in cc)

module _ (l : ℕ) (s : State) (h : IsOwned s) where
  fails_fate : (c : ℕ) (cause : Cause) (client : Client) → s.clients c ≡ Some client → is_orderly cause ≡ false
      → FateOf l (WhyBy (End c cause) ⊥) s (client_fails c cause client s)
  fails_fate c cause client is bad =
      stream_fails_fate l (WhyBy (End c cause) ⊥) client.about.phase c cause s
      (λ n x at_n of.
      (let own = own_stream client.about.phase c s client (h.owned.client c client is).holds x of
      in (own.0, (refl, own.1, bad))))

  ends_client_fate : (c : ℕ) (cause : Cause) (o : Option Client) → s.clients c ≡ o
      → FateOf l (WhyBy (End c cause) ⊥) s (client_ends c cause o s)
  ends_client_fate c cause None is = quiet l (WhyBy (End c cause) ⊥) s
  ends_client_fate c Eof (Some client) is = input_fate l (WhyBy (End c Eof) ⊥) client.about.phase c s
  ends_client_fate c Fault (Some client) is = fails_fate c Fault client is refl
  ends_client_fate c Starved (Some client) is = fails_fate c Starved client is refl
  ends_client_fate c NoThread (Some client) is = fails_fate c NoThread client is refl

  detach_fate : (t : ℕ) (cause : Cause) (o : Option Link) → FateOf l (WhyBy (Detach t cause) ⊥) s (unplugs_on o t s)
  detach_fate t cause None = quiet l (WhyBy (Detach t cause) ⊥) s
  detach_fate t cause (Some link) = link_ends_fate l (WhyBy (Detach t cause) ⊥) t Lost s (λ c. (refl, refl))

  -- the rule of an entry, and a stream that it does not draw
  pub rule_fate : (e : Entry) → (draws e ≡ true → l ≢ s.drawn + 1) → FateOf l (WhyBy e ((rule e s).state.stopped ≡ true)) s (rule e s)
  rule_fate (Enter c port) other = enters_fate l _ c (at port s.forwards) s (other refl)
  rule_fate (Read c bytes) other = reads_fate l _ (s.clients c) c bytes s (other refl) h.rows.streams (λ kill n t. (refl, kill))
  rule_fate (End c cause) other = ends_client_fate c cause (s.clients c) refl
  rule_fate (Bound c port) other = bound_fate l _ (s.clients c) c port s
  rule_fate (Recv t bytes) other = receives_fate l t bytes s
  rule_fate (Detach t cause) other = detach_fate t cause (s.links t)
  rule_fate (Put c bytes) other = puts_fate l _ (s.clients c) c (length bytes) s
  rule_fate _ other = fate_same l _ (s.streams l) _ refl
