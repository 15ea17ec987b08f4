-- What rules of other clients, streams and links leave of a stream and its client.
use Rattle.std.proofs.Common.{◌≡◌, ◌≢◌, ℕ, zero, suc, Bool, true, false, cond, not, ◌||◌, List, [], ◌∷◌, ◌++◌, length, Option, Some, None}
use Rattle.std.proofs.Common.{refl, sym}
use Rattle.std.proofs.Common.{ap, ◌∙◌, eqb}
use Rattle.std.specs.Prelude.{option_map, nat_eq, codes}
use Rattle.std.proofs.lemmas.Bool.{eqb-true, ne_eqb}
use Rattle.adb_wire.specs.declared.packets.Packet.{Packet}
use Rattle.adb_stream.specs.declared.flow.Flow.{Flow}
use Rattle.adb_stream.specs.declared.flow.Flow.TheVariants.{One, Credit}
use Rattle.adb_stream.specs.declared.row.Stream.{Stream}
use Rattle.adb_stream.specs.Flow.{first_credit, acknowledged, is_out_of_turn, accepted}
use Rattle.adb_client.specs.declared.phase.Phase.{Phase}
use Rattle.adb_client.specs.declared.phase.Phase.TheVariants.{Asking, Opening, Streaming, Closing}
use Rattle.adb_reply.specs.Strings.{failed}
use Rattle.adb_history.specs.Rows.{Client, State, to_client, to_stream, none_kept, with_due, in_phase, with_stream_part}
use Rattle.adb_history.specs.Events.{Made, quietly, then_also, owed_to}
use Rattle.adb_history.specs.declared.ending.Ending.{Ending}
use Rattle.adb_history.specs.declared.ending.Ending.TheVariants.{PeerClosed, OutOfTurn}
use Rattle.adb_history.specs.Links.{close_packet, okay_packet, owe_link}
use Rattle.adb_history.specs.Clients.{owe_client, closing, closes, closes_with}
use Rattle.adb_history.specs.Streams.{tells_end, loses, client_loses, ends_row, ends_telling, ends_if_of, ends_of, all_end}
use Rattle.adb_history.specs.Tracking.{marked_in, marked, mark_all}
use Rattle.adb_history.specs.Losing.{forgets, link_ends}
use Rattle.adb_history.specs.Flow.{with_flow}
use Rattle.adb_history.specs.Packets.{with_remote, hears_okay, opened, orphan_opened, okay_open, okay_first, takes_okay}
use Rattle.adb_history.specs.Packets.{accepts_none, accepts, takes_write, takes_close}
use Rattle.adb_history.specs.Moves.{open_now}
use Rattle.adb_history.proofs.Following.{changed_other}
use Rattle.adb_history.proofs.Growing.{owed_append}
use Rattle.adb_laws_causes.proofs.Fates.{Reason, FateOf}
use Rattle.adb_laws_causes.proofs.StreamFates.{Any, ends_of_fate}
use Rattle.adb_laws_causes.proofs.Silent.{IsSilent, AreSilent, silent_append, okay_silent}

-- a client that neither tracks nor waits for a listener
abbrev pub Still : Phase → Type 0
Still Asking = Unit {0}
Still (Opening l) = Unit {0}
Still (Streaming l) = Unit {0}
Still Closing = Unit {0}
Still _ = ⊥

-- what a rule leaves of a stream and of its client
pub record Untouched (l c : ℕ) (s : State) (m : Made) : Type 0 where
  pub row : m.state.streams l ≡ s.streams l
  pub client : (k : Client) → s.clients c ≡ Some k → Still k.about.phase → m.state.clients c ≡ Some k
  pub owed : owed_to c m.told ≡ []
  pub silent : AreSilent l m.told

-- no other stream is of the client
pub record Apart (l c : ℕ) (s : State) : Type 0 where
  pub alone : (n : ℕ) (z : Stream) → s.streams n ≡ Some z → n ≢ l → z.client ≢ c

-- streams that come from streams are of the same clients
pub apart_fate : (l c : ℕ) (Why : Reason) (s : State) (m : Made) → ((n : ℕ) → FateOf n Why s m) → Apart l c s → Apart l c m.state
apart_fate l c Why s m fate h = record {
  alone = λ n z is other. (let w = (fate n).was z is in λ same. h.alone n w.old w.is other (sym w.client ∙ same));
}

module _ (l c : ℕ) where
  pub u_then : (s : State) (m : Made) (rule : State → Made) → Untouched l c s m → Untouched l c m.state (rule m.state)
      → Untouched l c s (then_also m rule)
  u_then s m rule h k = record {
    row = k.row ∙ h.row;
    client = λ x is has. k.client x (h.client x is has) has;
    owed = owed_append c m.told (rule m.state).told ∙ (ap (λ w. w ++ owed_to c (rule m.state).told) h.owed ∙ k.owed);
    silent = silent_append l m.told (rule m.state).told h.silent k.silent;
  }

  pub u_if : (s : State) (b : Bool) (m n : Made) → (b ≡ true → Untouched l c s m) → (b ≡ false → Untouched l c s n)
      → Untouched l c s (cond b m n)
  u_if s true m n one other = one refl
  u_if s false m n one other = other refl

  pub u_quiet : (s : State) → Untouched l c s (quietly s)
  u_quiet s = record { row = refl; client = λ k is has. is; owed = refl; silent = tt }

  -- ---- something becomes due
  pub u_owe : (t : ℕ) (p : Packet) (s : State) → IsSilent l p → Untouched l c s (owe_link t p s)
  u_owe t p s silent = record { row = refl; client = λ k is has. is; owed = refl; silent = (silent, tt) }

  -- another client
  pub u_client : (n : ℕ) (f : Client → Option Client) (s : State) → n ≢ c → Untouched l c s (quietly (to_client n f s))
  u_client n f s apart = record { row = refl; client = λ k is has. changed_other n c f s.clients apart ∙ is; owed = refl; silent = tt }

  pub u_owe_client : (n : ℕ) (bytes : List ℕ) (s : State) → n ≢ c → Untouched l c s (owe_client n bytes s)
  u_owe_client n bytes s apart = record {
    row = refl;
    client = λ k is has. changed_other n c (with_due bytes) s.clients apart ∙ is;
    owed = ap (λ b. cond b bytes [] ++ []) (ne_eqb n c apart);
    silent = tt;
  }

  pub u_closes_with : (n : ℕ) (bytes : List ℕ) (s : State) → n ≢ c → Untouched l c s (closes_with n bytes s)
  u_closes_with n bytes s apart =
      let owed = owe_client n bytes s in
      u_then s owed (λ s. quietly (closes n s)) (u_owe_client n bytes s apart) (u_client n closing owed.state apart)

  -- another stream
  pub u_stream : (n : ℕ) (f : Stream → Option Stream) (s : State) → n ≢ l → Untouched l c s (quietly (to_stream n f s))
  u_stream n f s apart = record { row = changed_other n l f s.streams apart; client = λ k is has. is; owed = refl; silent = tt }

  -- marks of trackers
  pub u_marks : (s : State) → Untouched l c s (quietly (mark_all s))
  u_marks s = record {
    row = refl;
    client = λ k is has. ap (option_map marked) is ∙ ap Some (same k k.about.phase refl has);
    owed = refl;
    silent = tt;
  }
    where
      same : (k : Client) (phase : Phase) → k.about.phase ≡ phase → Still phase → marked k ≡ k
      same k (Opening n) e has = ap (λ p. marked_in p k) e
      same k (Streaming n) e has = ap (λ p. marked_in p k) e
      same k Asking e has = ap (λ p. marked_in p k) e
      same k Closing e has = ap (λ p. marked_in p k) e
      same k _ e has = absurd has

  -- ---- the end of another stream
  u_loses : (forwarded : Bool) (phase : Phase) (n : ℕ) (s : State) → n ≢ c → Untouched l c s (loses forwarded phase n s)
  u_loses true (Streaming k) n s apart = u_client n closing s apart
  u_loses false (Streaming k) n s apart = u_client n closing s apart
  u_loses true (Opening k) n s apart = u_client n closing s apart
  u_loses false (Opening k) n s apart = u_closes_with n (failed (codes "closed")).bytes s apart
  u_loses _ _ n s apart = u_quiet s

  u_client_loses : (o : Option Client) (n : ℕ) (s : State) → n ≢ c → Untouched l c s (client_loses o n s)
  u_client_loses None n s apart = u_quiet s
  u_client_loses (Some client) n s apart = u_loses client.about.forwarded client.about.phase n s apart

  pub u_ends : (n : ℕ) (ending : Ending) (z : Stream) (s : State) → (n ≢ l) × (z.client ≢ c) → Untouched l c s (ends_row n ending z s)
  u_ends n ending z s apart = go z.part.orphan
    where
      gone : State
      gone = to_stream n none_kept s

      told : (b : Bool) → Untouched l c s (tells_end b n ending (to_stream n none_kept s))
      told true = u_stream n none_kept s apart.0
      told false = record { row = changed_other n l none_kept s.streams apart.0; client = λ k is has. is; owed = refl; silent = tt }

      go : (b : Bool)
          → Untouched l c s
          (then_also (tells_end b n ending (to_stream n none_kept s))
          (λ s. client_loses (s.clients z.client) z.client s))
      go b =
          let m = tells_end b n ending (to_stream n none_kept s) in
          u_then s m (λ s. client_loses (s.clients z.client) z.client s) (told b)
          (u_client_loses (m.state.clients z.client) z.client m.state apart.1)

  pub u_telling : (n : ℕ) (ending : Ending) (z : Stream) (s : State) → (n ≢ l) × (z.client ≢ c)
      → Untouched l c s (ends_telling n ending z s)
  u_telling n ending z s apart =
      let p = close_packet n z.part.remote in
      u_then s (owe_link z.link p s) (ends_row n ending z) (u_owe z.link p s (record { write = refl; credit = refl }))
      (u_ends n ending z (owe_link z.link p s).state apart)

  -- the end of the streams of another link
  module _ (t : ℕ) (ending : Ending) where
    u_if_of : (n : ℕ) (o : Option Stream) (s : State) → s.streams n ≡ o → Apart l c s × ((y : Stream) → s.streams l ≡ Some y → y.link ≢ t)
        → Untouched l c s (ends_if_of t n ending o s)
    u_if_of n None s is h = u_quiet s
    u_if_of n (Some z) s is h =
        u_if s (nat_eq z.link t) (ends_row n ending z s) (quietly s)
        (λ e. (let other : n ≢ l = (λ same. h.1 z (ap s.streams (sym same) ∙ is) (eqb-true z.link t e)) in
        u_ends n ending z s (other, h.0.alone n z is other))) (λ e. u_quiet s)

    u_ends_of : (k : ℕ) (s : State) → Apart l c s × ((y : Stream) → s.streams l ≡ Some y → y.link ≢ t)
        → Untouched l c s (ends_of t k ending s)
    u_ends_of zero s h = u_quiet s
    u_ends_of (suc k) s h =
        let m = ends_of t k ending s in
        let before = u_ends_of k s h in
        u_then s m (λ s. ends_if_of t (suc k) ending (s.streams (suc k)) s) before
        (u_if_of (suc k) (m.state.streams (suc k)) m.state refl
        (apart_fate l c Any s m (λ n. ends_of_fate n Any t k ending s (λ i. tt)) h.0, λ y is. h.1 y (sym before.row ∙ is)))

    pub u_all_end : (s : State) → Apart l c s × ((y : Stream) → s.streams l ≡ Some y → y.link ≢ t) → Untouched l c s (all_end t ending s)
    u_all_end s h = u_ends_of s.drawn s h

    pub u_link_ends : (s : State) → Apart l c s × ((y : Stream) → s.streams l ≡ Some y → y.link ≢ t)
        → Untouched l c s (link_ends t ending s)
    u_link_ends s h =
        let m = all_end t ending (forgets t s) in
        let all = u_all_end (forgets t s) (record { alone = h.0.alone }, h.1) in
        u_then s m (λ s. quietly (mark_all s))
        (record { row = all.row; client = all.client; owed = all.owed; silent = all.silent }) (u_marks m.state)

  -- ---- packets to another stream
  module _ (n : ℕ) (z : Stream) (apart : (n ≢ l) × (z.client ≢ c)) where
    u_hears : (o : Option Client) (s : State) → Untouched l c s (hears_okay o z.client s)
    u_hears None s = u_quiet s
    u_hears (Some client) s =
        u_if s client.about.forwarded (quietly s) (owe_client z.client (codes "OKAY") s) (λ e. u_quiet s)
        (λ e. u_owe_client z.client (codes "OKAY") s apart.1)

    u_opened : (remote : ℕ) (word : Option ℕ) (s : State) → Untouched l c s (opened n remote word z s)
    u_opened remote word s =
        let heard = hears_okay (s.clients z.client) z.client s in
        let row = u_stream n
        (with_stream_part (with_remote remote (with_flow (first_credit word z.part.flow) z.part))) heard.state
        apart.0 in
        u_then s heard (λ s. quietly (open_now n remote word z s)) (u_hears (s.clients z.client) s) (record {
          row = row.row;
          client = λ k is has. changed_other z.client c (in_phase (Streaming n)) heard.state.clients apart.1 ∙ is;
          owed = refl;
          silent = tt;
        })

    u_orphan : (remote : ℕ) (s : State) → Untouched l c s (orphan_opened n remote z s)
    u_orphan remote s = record {
      row = changed_other n l none_kept s.streams apart.0;
      client = λ k is has. is;
      owed = refl;
      silent = (record { write = refl; credit = refl }, tt);
    }

    u_first : (orphan : Bool) (remote : ℕ) (word : Option ℕ) (s : State) → Untouched l c s (okay_first orphan n remote word z s)
    u_first true remote word s = u_orphan remote s
    u_first false remote word s = u_opened remote word s

    pub u_okay : (remote : ℕ) (word : Option ℕ) (s : State) → Untouched l c s (takes_okay n remote word z s)
    u_okay remote word s =
        let again = okay_open n word z s in
        let later = cond (eqb remote z.part.remote) again (quietly s) in
        let first = okay_first z.part.orphan n remote word z s in
        u_if s (eqb remote 0) (quietly s) (cond (eqb z.part.remote 0) first later) (λ e. u_quiet s)
        (λ e. u_if s (eqb z.part.remote 0) first later (λ e. u_first z.part.orphan remote word s)
        (λ e. u_if s (eqb remote z.part.remote) again (quietly s)
        (λ e. u_stream n (with_stream_part (with_flow (acknowledged word z.part.flow) z.part)) s apart.0) (λ e. u_quiet s)))

    u_none : (flow : Flow) (s : State) → Untouched l c s (accepts_none flow n z s)
    u_none (One window) s = u_owe z.link (okay_packet n z.part.remote) s (okay_silent l n z.part.remote)
    u_none (Credit credit) s = u_quiet s

    u_accepts : (payload : List ℕ) (s : State) → Untouched l c s (accepts n payload z s)
    u_accepts [] s = u_none z.part.flow s
    u_accepts (b ∷ payload) s =
        let now = to_stream n (with_stream_part (with_flow (accepted (length (b ∷ payload)) z.part.flow) z.part)) s in
        let owed = u_owe_client z.client (b ∷ payload) now apart.1 in
        record {
          row = changed_other n l (with_stream_part (with_flow (accepted (length (b ∷ payload)) z.part.flow) z.part)) s.streams apart.0;
          client = owed.client;
          owed = owed.owed;
          silent = tt;
        }

    pub u_write : (remote : ℕ) (payload : List ℕ) (s : State) → Untouched l c s (takes_write n remote payload z s)
    u_write remote payload s =
        let late = ends_telling n OutOfTurn z s in
        let taken = accepts n payload z s in
        let out = is_out_of_turn z.part.flow (length payload) in
        u_if s (eqb remote 0 || not (eqb remote z.part.remote)) (quietly s) (cond out late taken) (λ e. u_quiet s)
        (λ e. u_if s out late taken (λ e. u_telling n OutOfTurn z s apart) (λ e. u_accepts payload s))

    pub u_close : (remote : ℕ) (s : State) → Untouched l c s (takes_close n remote z s)
    u_close remote s =
        u_if s (eqb remote 0 || eqb remote z.part.remote) (ends_row n PeerClosed z s) (quietly s)
        (λ e. u_ends n PeerClosed z s apart) (λ e. u_quiet s)
