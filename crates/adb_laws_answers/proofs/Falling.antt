-- What the close of its device makes of the client of a stream: it is gone where nothing is due to it, and else it is
-- closing; and it is told no more.
use Rattle.std.proofs.Common.{◌≡◌, ◌≢◌, ◌≤◌, ◌+◌, ℕ, Bool, true, false, cond, ◌||◌, ◌&&◌, List, [], ◌∷◌, ◌++◌, Option, Some, None, refl}
use Rattle.std.proofs.Common.{sym, ap, subst, ◌∙◌, eqb, arith, append_assoc, ◌⊎◌, inl, inr}
use Rattle.std.specs.Prelude.{codes, nat_eq, is_some}
use Rattle.std.specs.Option.{option_or}
use Rattle.std.proofs.lemmas.Bool.{eq-eqb, eqb-true}
use Rattle.std.proofs.lemmas.List.{append-nil}
use Rattle.adb_wire.specs.declared.command.Command.{Command}
use Rattle.adb_wire.specs.declared.command.Command.TheVariants.{Cnxn, Open, Okay, Wrte, Clse, Auth, Stls}
use Rattle.adb_wire.specs.declared.packets.Packet.{Packet}
use Rattle.adb_stream.specs.declared.row.Stream.{Stream}
use Rattle.adb_client.specs.declared.phase.Phase.{Phase}
use Rattle.adb_client.specs.declared.phase.Phase.TheVariants.{Opening, Streaming, Closing}
use Rattle.adb_reply.specs.Strings.{failed}
use Rattle.adb_history.specs.Births.{is_close_of, is_clse}
use Rattle.adb_history.specs.Clients.{closing, closing_with, closes, owe_client}
use Rattle.adb_history.specs.Events.{Made, Event, ended, quietly, then_also, owed_to, ending_in}
use Rattle.adb_history.specs.declared.ending.Ending.{Ending}
use Rattle.adb_history.specs.declared.ending.Ending.TheVariants.{PeerClosed}
use Rattle.adb_history.specs.Moves.{After, HasOne, serves}
use Rattle.adb_history.specs.Turns.{serving}
use Rattle.adb_history.specs.Owned.{IsOwned}
use Rattle.adb_history.specs.Orderly.{phase_for}
use Rattle.adb_history.specs.Packets.{at_stream, takes_close, treat_open, treat_any, treat_on, treat, treat_all}
use Rattle.adb_history.specs.Rows.{Client, Link, State, to_stream, none_kept, with_due}
use Rattle.adb_history.specs.Streams.{tells_end, loses, client_loses, ends_row}
use Rattle.adb_history.proofs.Changes.{Changes, Stay}
use Rattle.adb_history.proofs.Following.{after_quietly, after_then, changed_here}
use Rattle.adb_history.proofs.Growing.{RowStep, ClientStays, AreWithin, owed_append}
use Rattle.adb_history.proofs.LinkChanges.{HearsOn, hears_on}
use Rattle.adb_history.proofs.OwnedStep.{owned_moves}
use Rattle.adb_history.proofs.PacketMoves as moves
use Rattle.adb_laws_causes.proofs.Effects.{Effect, EffectOr}
use Rattle.adb_laws_causes.proofs.Fates.{ending_append}
use Rattle.adb_laws_causes.proofs.PacketEffects.{treat_effect}
use Rattle.adb_laws_causes.proofs.PacketFates.{OfLink, treat_fate}
use Rattle.adb_laws_causes.proofs.Runs.{alive_told}
use Rattle.adb_laws_causes.proofs.Turning.{Here, Turn}
use Rattle.adb_laws_causes.proofs.Turns.{Passes, Strikes}
use Rattle.adb_laws_causes.proofs.TurnsOfPackets.{treat_turn}
use Rattle.adb_laws_causes.proofs.UntouchedEntries.{Pair, pair_of, pair_apart, has_stream}
use Rattle.adb_laws_answered.specs.Served.{IsDone}
use Rattle.adb_laws_answered.proofs.DoneMoves.{done_turns}
use Rattle.adb_laws_answers.proofs.Staying.{stays_treated}

-- ---- it is told no more
module _ (c : ℕ) (out : List ℕ) where
  apart : c + 1 ≢ c
  apart e = omega (arith, e)

  pub done_all : (t : ℕ) (packets : List Packet) (s : State) (w : List Event) → IsDone c out s w
      → After (IsDone c out) w (treat_all t packets s)
  done_all t [] s w h = after_quietly (IsDone c out) w s h
  done_all t (p ∷ packets) s w h =
      after_then (IsDone c out) w (treat t p s) (treat_all t packets)
      (moves.treat_on_turns (serving (done_turns c out (c + 1) apart)) s w h (s.links t) t p
      (record { reaches = λ e. tt; renews = λ e. tt; cuts = λ e. tt }))
      (λ v now. done_all t packets (treat t p s).state v now)

-- a client that is there, and closing
pub record IsClosing (c : ℕ) (s : State) : Type 0 where
  pub row : Client
  pub is : s.clients c ≡ Some row
  pub phase : row.about.phase ≡ Closing

-- ---- the close itself
-- the row that is left of a client to which so much is due
record IsLeft (c : ℕ) (due : List ℕ) (m : Made) : Type 0 where
  from : Client
  is : m.state.clients c ≡ closing_with due from

module _ (c : ℕ) (a : Client) (g : State) (here : g.clients c ≡ Some a) where
  closed_row : IsLeft c (a.due ++ []) (quietly (closes c g))
  closed_row = record {
    from = a;
    is = changed_here c closing g.clients a here ∙ ap (λ (due : List ℕ). closing_with due a) (sym (append-nil a.due));
  }

  told_row : IsLeft c (a.due ++ owed_to c (loses false (Opening 0) c g).told) (loses false (Opening 0) c g)
  told_row =
      let why = (failed (codes "closed")).bytes in
      let more : Client = record a { due = a.due ++ why } in
      let owed : owed_to c (loses false (Opening 0) c g).told ≡ why =
      ap (λ (b : Bool). cond b why [] ++ []) (eq-eqb c c refl) ∙ append-nil why in
      record {
        from = more;
        is = changed_here c closing (owe_client c why g).state.clients more (changed_here c (with_due why) g.clients a here)
            ∙ ap (λ (due : List ℕ). closing_with (a.due ++ due) more) (sym owed);
      }

  loses_row : (forwarded : Bool) (phase : Phase) → HasOne phase
      → IsLeft c (a.due ++ owed_to c (loses forwarded phase c g).told) (loses forwarded phase c g)
  loses_row true (Streaming l) has = closed_row
  loses_row false (Streaming l) has = closed_row
  loses_row true (Opening l) has = closed_row
  loses_row false (Opening l) has = told_row
  loses_row forwarded _ has = absurd has

-- what its stream's end leaves of it
module _ (l : ℕ) (x : Stream) (a : Client) (s : State) (owned : x.part.orphan ≡ false) (here : s.clients x.client ≡ Some a)
    (phase : a.about.phase ≡ phase_for l x.part.remote) where
  ends_left : (ending : Ending) → IsLeft x.client (a.due ++ owed_to x.client (ends_row l ending x s).told) (ends_row l ending x s)
  ends_left ending =
      subst (λ (m : Made). IsLeft x.client (a.due ++ owed_to x.client m.told) m) (sym made)
      (record { from = row.from; is = row.is })
    where
      row : IsLeft x.client (a.due ++ owed_to x.client (loses a.about.forwarded a.about.phase x.client (to_stream l none_kept s)).told)
          (loses a.about.forwarded a.about.phase x.client (to_stream l none_kept s))
      row = loses_row x.client a (to_stream l none_kept s) here a.about.forwarded a.about.phase
          (has_stream a.about.phase l x.part.remote phase)

      made : ends_row l ending x s ≡ record {
        state = (loses a.about.forwarded a.about.phase x.client (to_stream l none_kept s)).state;
        told = ended l ending ∷ (loses a.about.forwarded a.about.phase x.client (to_stream l none_kept s)).told;
      }
      made =
          ap (λ (b : Bool). then_also
          (tells_end b l ending (to_stream l none_kept s)) (λ s. client_loses (s.clients x.client) x.client s)) owned
          ∙ ap (λ (o : Option Client). record {
            state = (client_loses o x.client (to_stream l none_kept s)).state;
            told = ended l ending ∷ (client_loses o x.client (to_stream l none_kept s)).told;
          }) here

-- a row that is closing is
closing_phase : (due : List ℕ) (from y : Client) → closing_with due from ≡ Some y → y.about.phase ≡ Closing
closing_phase [] from y e = absurd (let clash : None ≡ Some y = e in cc)
closing_phase (b ∷ due) from y e = ap phase_of (sym e)
  where
    phase_of : Option Client → Phase
    phase_of None = Closing
    phase_of (Some z) = z.about.phase

-- nothing was left to it, or it is closing
left_or_closing : (c : ℕ) (due : List ℕ) (m : Made) → IsLeft c due m → (due ≡ []) ⊎ IsClosing c m.state
left_or_closing c [] m left = inl refl
left_or_closing c (b ∷ due) m left = inr (record {
  row = _;
  is = left.is;
  phase = refl;
})

left_closing : (c : ℕ) (due : List ℕ) (m : Made) → IsLeft c due m → (y : Client) → m.state.clients c ≡ Some y → y.about.phase ≡ Closing
left_closing c due m left y is = closing_phase due left.from y (sym left.is ∙ is)

-- ---- the packet that closes it
module _ (t l : ℕ) (x : Stream) (p : Packet) (s : State) (here : Here t l x s) (close : is_close_of x.part.remote l p ≡ true) where
  -- its command, its stream, and that it comes from the stream's id or 0
  record IsCloseOf : Type 0 where
    command : p.command ≡ Clse
    to : p.arg1 ≡ l
    from : (eqb p.arg0 0 || eqb p.arg0 x.part.remote) ≡ true

  is_close : IsCloseOf
  is_close = by p.command refl (nat_eq p.arg0 0) refl (nat_eq p.arg0 x.part.remote) refl (nat_eq p.arg1 l) refl close
    where
      no : false ≡ true → ⊥
      no e = let clash : false ≡ true = e in cc

      by : (k : Command) → p.command ≡ k → (z : Bool) → nat_eq p.arg0 0 ≡ z → (n : Bool) → nat_eq p.arg0 x.part.remote ≡ n → (b : Bool)
          → nat_eq p.arg1 l ≡ b → (is_clse k && ((z && b) || (n && b))) ≡ true → IsCloseOf
      by Clse k true z n m true e f =
          record { command = k; to = eqb-true p.arg1 l e; from = ap (λ (b : Bool). b || eqb p.arg0 x.part.remote) z }
      by Clse k false z true m true e f = record {
        command = k;
        to = eqb-true p.arg1 l e;
        from = ap (λ (b : Bool). b || eqb p.arg0 x.part.remote) z ∙ m;
      }
      by Clse k false z false m true e f = absurd (no f)
      by Clse k true z true m false e f = absurd (no f)
      by Clse k true z false m false e f = absurd (no f)
      by Clse k false z true m false e f = absurd (no f)
      by Clse k false z false m false e f = absurd (no f)
      by Open k z f n m b e g = absurd (no g)
      by Okay k z f n m b e g = absurd (no g)
      by Wrte k z f n m b e g = absurd (no g)
      by Cnxn k z f n m b e g = absurd (no g)
      by Auth k z f n m b e g = absurd (no g)
      by Stls k z f n m b e g = absurd (no g)

  -- it ends the row
  pub close_ends : treat t p s ≡ ends_row l PeerClosed x s
  close_ends = go (s.links t) here.live.link
    where
      at_row : (n : ℕ) → n ≡ l → at_stream t (s.streams n) (takes_close n p.arg0) s ≡ ends_row l PeerClosed x s
      at_row n same =
          ap (λ (k : ℕ). at_stream t (s.streams k) (takes_close k p.arg0) s) same
          ∙ (ap (λ (o : Option Stream). at_stream t o (takes_close l p.arg0) s) here.is
          ∙ (ap (λ (b : Bool). cond b (takes_close l p.arg0 x s) (quietly s)) (eq-eqb x.link t here.on)
          ∙ ap (λ (b : Bool). cond b (ends_row l PeerClosed x s) (quietly s)) is_close.from))

      go : (o : Option Link) → is_some o ≡ true → treat_on o t p s ≡ ends_row l PeerClosed x s
      go None e = absurd (let clash : false ≡ true = e in cc)
      go (Some link) e =
          ap (λ (k : Command). treat_any t k p s) is_close.command
          ∙ (ap (λ (b : Bool). cond b (treat_open t Clse p s) (quietly s)) here.live.connected ∙ at_row p.arg1 is_close.to)

-- ---- the packets that a link brings
-- The stream of a client fell by its device's close: so much was told to the client since, and no more will; that and
-- what was due to it is nothing, or it is
-- closing.
pub record Fallen (c : ℕ) (a : Client) (w : List Event) (m : Made) : Type 0 where
  pub out : List ℕ
  pub done : IsDone c (owed_to c w ++ out) m.state (w ++ m.told)
  pub left : (a.due ++ out ≡ []) ⊎ IsClosing c m.state

-- what is due to a client that is there before and behind a rule
grown : (o q : Option Client) (a b : Client) (told : List ℕ) → o ≡ Some a → q ≡ Some b → RowStep ClientStays o q told
    → b.due ≡ a.due ++ told
grown o q a b told is now step =
    (subst (λ (r : Option Client). RowStep ClientStays (Some a) r told) now
    (subst (λ (r : Option Client). RowStep ClientStays r q told) is step)).due

or_first : (o : Option Ending) (y z : Ending) → option_or (Some y) o ≡ Some z → y ≡ z
or_first o y z e = (let both : Some y ≡ Some z = e in cc)

module _ (came plugged t l : ℕ) (le : t ≤ plugged) where
  pub falls : (packets : List Packet) (x : Stream) (s : State) (w : List Event) (a : Client) → Here t l x s
      → IsOwned s → AreWithin came plugged s.streams
      → s.clients x.client ≡ Some a → ending_in l (treat_all t packets s).told ≡ Some PeerClosed
      → Fallen x.client a w (treat_all t packets s)
  falls [] x s w a at owned within here closed = absurd (let clash : None ≡ Some PeerClosed = closed in cc)
  falls (p ∷ packets) x s w a at owned within here closed =
      go (treat_turn t l x p s at)
      (λ y b v was mine streams row told. falls packets y (treat t p s).state v b was mine streams row told)
    where
      m : Made
      m = treat t p s

      rest : Made
      rest = treat_all t packets m.state

      split : ending_in l (treat_all t (p ∷ packets) s).told ≡ option_or (ending_in l m.told) (ending_in l rest.told)
      split = ending_append l m.told rest.told

      owned_now : IsOwned (treat t p s).state
      owned_now = moves.treat_on_kept (serves owned_moves) s w owned (s.links t) t p

      pair : Pair l x s
      pair = pair_of l x s owned at.is at.alive

      changes : Changes came plugged Stay (HearsOn t p.command p.arg0) s (treat t p s)
      changes = hears_on came plugged (s.links t) t p s refl le within

      Later : Type 0
      Later = (y : Stream) (b : Client) (v : List Event) → Here t l y (treat t p s).state → IsOwned (treat t p s).state
          → AreWithin came plugged (treat t p s).state.streams → (treat t p s).state.clients y.client ≡ Some b
          → ending_in l (treat_all t packets (treat t p s).state).told ≡ Some PeerClosed
          → Fallen y.client b v (treat_all t packets (treat t p s).state)

      -- it goes on
      passes : Passes t l x p (treat t p s) → Effect l x p pair.client (treat t p s) → Later
          → Fallen x.client a w (treat_all t (p ∷ packets) s)
      passes a' e later =
          let same : a'.row ≡ e.row = (let both : Some a'.row ≡ Some e.row = sym a'.is ∙ e.is in cc) in
          let there : Here t l e.row (treat t p s).state = record {
            is = e.is;
            alive = e.alive;
            on = ap (λ (z : Stream). z.link) (sym same) ∙ (a'.next.link ∙ at.on);
            live = a'.live;
          } in
          let none : ending_in l (treat t p s).told ≡ None =
          alive_told l (OfLink t) s (treat t p s) a'.row (treat_fate l t p s) (a'.is, a'.next.alive) in
          let told : ending_in l (treat_all t packets (treat t p s).state).told ≡ Some PeerClosed =
          sym (ap (λ (o : Option Ending). option_or o (ending_in l (treat_all t packets (treat t p s).state).told))
          none) ∙ (sym split ∙ closed) in
          let f = subst (λ (c : ℕ). Fallen c e.client (w ++ (treat t p s).told) (treat_all t packets (treat t p s).state)) e.of
          (later e.row e.client (w ++ (treat t p s).told) there owned_now (changes.streams within)
          (ap (treat t p s).state.clients e.of ∙ e.here) told) in
          let more : e.client.due ≡ a.due ++ owed_to x.client (treat t p s).told =
          grown (s.clients x.client) ((treat t p s).state.clients x.client) a e.client (owed_to x.client (treat t p s).told) here e.here
          (changes.clients x.client) in
          record {
            out = owed_to x.client (treat t p s).told ++ f.out;
            done = subst (λ (v : List Event). IsDone x.client (owed_to x.client w ++ (owed_to x.client (treat t p s).told ++ f.out))
                (treat_all t packets (treat t p s).state).state v)
                (append_assoc w (treat t p s).told (treat_all t packets (treat t p s).state).told)
                (subst (λ (out : List ℕ). IsDone x.client out (treat_all t packets (treat t p s).state).state
                ((w ++ (treat t p s).told) ++ (treat_all t packets (treat t p s).state).told))
                (ap (λ (z : List ℕ). z ++ f.out) (owed_append x.client w (treat t p s).told)
                ∙ append_assoc (owed_to x.client w) (owed_to x.client (treat t p s).told) f.out) f.done);
            left = by (treat_all t packets (treat t p s).state).state e.client f.out f.left more;
          }
        where
          by : (r : State) (b : Client) (out : List ℕ) → (b.due ++ out ≡ []) ⊎ IsClosing x.client r
              → b.due ≡ a.due ++ owed_to x.client (treat t p s).told
              → (a.due ++ (owed_to x.client (treat t p s).told ++ out) ≡ []) ⊎ IsClosing x.client r
          by r b out (inl none) more = inl (
              sym (append_assoc a.due (owed_to x.client (treat t p s).told) out) ∙ (ap (λ (z : List ℕ). z ++ out) (sym more) ∙ none))
          by r b out (inr left) more = inr left

      -- it falls
      struck : treat t p s ≡ ends_row l PeerClosed x s → Fallen x.client a w (treat_all t (p ∷ packets) s)
      struck is =
          let row : pair.client ≡ a = (let both : Some pair.client ≡ Some a = sym pair.here ∙ here in cc) in
          let left : IsLeft x.client (a.due ++ owed_to x.client (treat t p s).told) (treat t p s) =
          subst (λ (m : Made). IsLeft x.client (a.due ++ owed_to x.client m.told) m) (sym is)
          (ends_left l x a s at.alive here (ap (λ (k : Client). k.about.phase) (sym row) ∙ pair.phase) PeerClosed) in
          let first : IsDone x.client (owed_to x.client w ++ owed_to x.client (treat t p s).told) (treat t p s).state
          (w ++ (treat t p s).told) = record {
            owned = owned_now;
            row = left_closing x.client (a.due ++ owed_to x.client (treat t p s).told) (treat t p s) left;
            told = owed_append x.client w (treat t p s).told;
          } in
          record {
            out = owed_to x.client (treat t p s).told;
            done = after_then (IsDone x.client (owed_to x.client w ++ owed_to x.client (treat t p s).told)) w
                (treat t p s) (treat_all t packets) first
                (λ v now. done_all x.client (owed_to x.client w ++ owed_to x.client (treat t p s).told) t packets
                (treat t p s).state v now);
            left = by (left_or_closing x.client (a.due ++ owed_to x.client (treat t p s).told) (treat t p s) left);
          }
        where
          by : (a.due ++ owed_to x.client (treat t p s).told ≡ []) ⊎ IsClosing x.client (treat t p s).state
              → (a.due ++ owed_to x.client (treat t p s).told ≡ []) ⊎ IsClosing x.client (treat_all t packets (treat t p s).state).state
          by (inl none) = inl none
          by (inr k) = inr (record {
            row = k.row;
            is = stays_treated x.client k.row (treat t p s).state owned_now k.is k.phase t packets;
            phase = k.phase;
          })

      effect : Passes t l x p (treat t p s) → EffectOr l x p pair.client (treat t p s) → Effect l x p pair.client (treat t p s)
      effect a' (inl e) = e
      effect a' (inr none) = absurd (let clash : None ≡ Some a'.row = sym none ∙ a'.is in cc)

      go : Turn t l x p (treat t p s) → Later → Fallen x.client a w (treat_all t (p ∷ packets) s)
      go (inl a') later =
          passes a' (effect a' (treat_effect t l x p s pair at (pair_apart l x s owned pair) a'.not_cnxn)) later
      go (inr f) later =
          let all : option_or (Some f.ending) (ending_in l rest.told) ≡ Some PeerClosed =
          sym (ap (λ (o : Option Ending). option_or o (ending_in l rest.told)) f.told) ∙ (sym split ∙ closed) in
          let same : f.ending ≡ PeerClosed = or_first (ending_in l rest.told) f.ending PeerClosed all in
          struck (close_ends t l x p s at (subst (Strikes l x p) same f.why))
