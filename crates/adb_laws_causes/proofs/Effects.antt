-- What a packet to a stream makes of it and of its client, where it goes on.
use Rattle.std.proofs.Common.{◌≡◌, ◌≤◌, ◌+◌, ℕ, zero, suc, Bool, true, false, cond, not, ◌&&◌, List, [], ◌∷◌, ◌++◌, length, Option, Some}
use Rattle.std.proofs.Common.{None, refl}
use Rattle.std.proofs.Common.{sym, ap, subst, ◌∙◌, eqb}
use Rattle.std.proofs.Common.{arith, ◌⊎◌}
use Rattle.std.specs.Prelude.{nat_eq, codes}
use Rattle.std.proofs.lemmas.Bool.{eqb-true, eqb-false, eq-eqb}
use Rattle.std.proofs.lemmas.List.{append-nil}
use Rattle.adb_outside.specs.Tables.{at}
use Rattle.adb_wire.specs.declared.packets.Packet.{Packet}
use Rattle.adb_stream.specs.declared.flow.Flow.{Flow}
use Rattle.adb_stream.specs.declared.flow.Flow.TheVariants.{One, Credit}
use Rattle.adb_stream.specs.declared.row.Stream.{Stream}
use Rattle.adb_stream.specs.Flow.{first_credit, acknowledged, accepted}
use Rattle.adb_client.specs.declared.phase.Phase.TheVariants.{Streaming}
use Rattle.adb_history.specs.Rows.{Client, State, with_due, in_phase, with_stream_part}
use Rattle.adb_history.specs.Events.{Made, quietly, owed_to}
use Rattle.adb_history.specs.Links.{okay_packet}
use Rattle.adb_history.specs.Clients.{owe_client}
use Rattle.adb_history.specs.Flow.{with_flow}
use Rattle.adb_history.specs.Packets.{with_remote, hears_okay, opened, okay_open}
use Rattle.adb_history.specs.Packets.{accepts_none, accepts}
use Rattle.adb_history.specs.Orderly.{phase_for}
use Rattle.adb_history.specs.Births.{is_between, is_okay}
use Rattle.adb_history.proofs.Following.{changed_here}
use Rattle.adb_laws_causes.specs.Flows.{waiting, hears}
use Rattle.adb_history.proofs.PacketMoves.{hears_streams}
use Rattle.adb_laws_causes.proofs.Turns.{counts, written_after}
use Rattle.adb_laws_causes.proofs.Silent.{AreSilent, silent_append, okay_silent}
use Rattle.adb_history.proofs.Growing.{owed_append}
use Rattle.adb_laws_causes.proofs.Untouched.{Untouched, u_owe, u_quiet}
use Rattle.adb_laws_causes.proofs.UntouchedEntries.{Pair, has_still}

-- whether a packet is an OKAY of an open stream
abbrev pub is_again : (remote l : ℕ) → Packet → Bool
is_again remote l p = is_okay p.command && not (nat_eq remote 0) && is_between remote l p

abbrev pub okays_after_one : (remote l : ℕ) → Packet → ℕ → ℕ
okays_after_one remote l p n = cond (is_again remote l p) (1 + n) n

-- a client as before, but for its phase and what is due to it
pub record SameClient (k k' : Client) : Type 0 where
  pub forwarded : k'.about.forwarded ≡ k.about.forwarded
  pub ended : k'.about.ended ≡ k.about.ended
  pub held : k'.held ≡ k.held

pub same_client : (k : Client) → SameClient k k
same_client k = record { forwarded = refl; ended = refl; held = refl }

-- no write waits that was answered: where an OKAY more is one for a write that had become due, as many wait as were not answered
abbrev pub Answers : Flow → (ℕ → ℕ) → Flow → Type 0
Answers before more after = (n m : ℕ) → n + waiting before ≤ m → more n ≤ m → more n + waiting after ≤ m

-- what a packet makes of a stream and its client
pub record Effect (l : ℕ) (x : Stream) (p : Packet) (k : Client) (m : Made) : Type 0 where
  pub row : Stream
  pub is : m.state.streams l ≡ Some row
  pub alive : row.part.orphan ≡ false
  pub of : row.client ≡ x.client
  pub client : Client
  pub here : m.state.clients x.client ≡ Some client
  pub phase : client.about.phase ≡ phase_for l row.part.remote
  pub same : SameClient k client
  pub owed : (written : ℕ) → (x.part.remote ≡ 0 → written ≡ 0)
      → length (owed_to x.client m.told) + hears x.part.remote k.about.forwarded written
      ≡ hears row.part.remote k.about.forwarded (written_after x.part.remote l p written)
  pub silent : AreSilent l m.told
  pub okays : (n : ℕ) → n + waiting x.part.flow ≤ okays_after_one x.part.remote l p n + waiting row.part.flow
  pub answers : Answers x.part.flow (okays_after_one x.part.remote l p) row.part.flow

abbrev pub EffectOr : (l : ℕ) → Stream → Packet → Client → Made → Type 0
EffectOr l x p k m = Effect l x p k m ⊎ (m.state.streams l ≡ None)

pub no_middle : (a b : Bool) → (a && false && b) ≡ false
no_middle true b = refl
no_middle false b = refl

-- ---- a packet that changes nothing of them
pub nothing_done : (l : ℕ) (x : Stream) (p : Packet) (s : State) (h : Pair l x s) (m : Made)
    → Untouched l x.client s m → counts x.part.remote l p ≡ false
    → is_again x.part.remote l p ≡ false
    → Effect l x p h.client m
nothing_done l x p s h m u none never = record {
  row = x;
  is = u.row ∙ h.is;
  alive = h.alive;
  of = refl;
  client = h.client;
  here = u.client h.client h.here (has_still h.client.about.phase l x.part.remote h.phase);
  phase = h.phase;
  same = same_client h.client;
  owed = λ written nil.
      let none_owed : length (owed_to x.client m.told) ≡ 0 = ap length u.owed in
      let same : hears x.part.remote h.client.about.forwarded (written_after x.part.remote l p written)
      ≡ hears x.part.remote h.client.about.forwarded written =
      ap (λ b. hears x.part.remote h.client.about.forwarded (cond b (written + length p.payload) written)) none in
      omega (arith, none_owed, same);
  silent = u.silent;
  okays = λ n. more (is_again x.part.remote l p) n;
  answers = λ n o was late.
      (let same : okays_after_one x.part.remote l p n ≡ n = ap (λ b. cond b (1 + n) n) never
      in omega (arith, was, same));
}
  where
    more : (b : Bool) (n : ℕ) → n + waiting x.part.flow ≤ cond b (1 + n) n + waiting x.part.flow
    more true n = omega arith
    more false n = omega arith

hears_nil : (remote : ℕ) (forwarded : Bool) (written : ℕ) → eqb remote 0 ≡ true → hears remote forwarded written ≡ 0
hears_nil zero forwarded written e = refl
hears_nil (suc n) forwarded written e = absurd (let nil : suc n ≡ 0 = eqb-true (suc n) 0 e in omega (arith, nil))

hears_some : (remote : ℕ) (forwarded : Bool) (written : ℕ) → eqb remote 0 ≡ false
    → hears remote forwarded written ≡ cond forwarded 0 4 + written
hears_some zero forwarded written e = absurd (eqb-false zero 0 e refl)
hears_some (suc n) forwarded written e = refl

-- ---- OKAY
-- what the client hears when its stream is opened
heard_owed : (b : Bool) (c : ℕ) (s : State) → length (owed_to c (cond b (quietly s) (owe_client c (codes "OKAY") s)).told) ≡ cond b 0 4
heard_owed true c s = refl
heard_owed false c s = ap (λ b. length (cond b (codes "OKAY") [] ++ [])) (eq-eqb c c refl)

heard_client : (b : Bool) (c : ℕ) (s : State) (k : Client) → s.clients c ≡ Some k
    → (k' : Client) × ((cond b (quietly s) (owe_client c (codes "OKAY") s)).state.clients c ≡ Some k') × SameClient k k'
heard_client true c s k is = (k, is, same_client k)
heard_client false c s k is = (
  record k { due = k.due ++ codes "OKAY" },
  changed_here c (with_due (codes "OKAY")) s.clients k is,
  record { forwarded = refl; ended = refl; held = refl },
)

heard_silent : (l : ℕ) (b : Bool) (c : ℕ) (s : State) → AreSilent l (cond b (quietly s) (owe_client c (codes "OKAY") s)).told
heard_silent l true c s = tt
heard_silent l false c s = tt

phase_open : (l remote : ℕ) → eqb remote 0 ≡ false → Streaming l ≡ phase_for l remote
phase_open l zero e = absurd (eqb-false zero 0 e refl)
phase_open l (suc n) e = refl

module _ (l : ℕ) (x : Stream) (p : Packet) (s : State) (h : Pair l x s) where
  pub opened_effect : (word : Option ℕ) → (counts x.part.remote l p ≡ false) × (eqb p.arg0 0 ≡ false) × (eqb x.part.remote 0 ≡ true)
      → Effect l x p h.client (opened l p.arg0 word x s)
  opened_effect word at =
      let part = with_remote p.arg0 (with_flow (first_credit word x.part.flow) x.part) in
      let heard = hears_okay (s.clients x.client) x.client s in
      let told = subst
      (λ (o : Option Client). length (owed_to x.client (hears_okay o x.client s).told)
      ≡ cond h.client.about.forwarded 0 4) (sym h.here)
      (heard_owed h.client.about.forwarded x.client s) in
      let k = subst
      (λ (o : Option Client). (k' : Client) × ((hears_okay o x.client s).state.clients x.client ≡ Some k')
      × SameClient h.client k') (sym h.here)
      (heard_client h.client.about.forwarded x.client s h.client h.here) in
      let before : heard.state.streams l ≡ Some x = ap (λ streams. streams l) (hears_streams (s.clients x.client) x.client s) ∙ h.is in
      record {
        row = record x { part = part };
        is = changed_here l (with_stream_part part) heard.state.streams x before;
        alive = h.alive;
        of = refl;
        client = record k.0 { about = record k.0.about { phase = Streaming l } };
        here = changed_here x.client (in_phase (Streaming l)) heard.state.clients k.0 k.1;
        phase = phase_open l p.arg0 at.1;
        same = record { forwarded = k.2.forwarded; ended = k.2.ended; held = k.2.held };
        owed = λ written nil. owed written nil told (owed_append x.client heard.told []);
        silent = silent_append l heard.told [] (subst (λ (o : Option Client). AreSilent l (hears_okay o x.client s).told) (sym h.here)
            (heard_silent l h.client.about.forwarded x.client s)) tt;
        okays = λ n. okays n (is_again x.part.remote l p) x.part.flow;
        answers = λ n o was late. (let same : okays_after_one x.part.remote l p n ≡ n = ap (λ b. cond b (1 + n) n) never in
            let first = waits x.part.flow in omega (arith, was, same, first));
      }
    where
      never : is_again x.part.remote l p ≡ false
      never = ap (λ b. is_okay p.command && not b && is_between x.part.remote l p) at.2
          ∙ no_middle (is_okay p.command) (is_between x.part.remote l p)

      waits : (flow : Flow) → waiting (first_credit word flow) ≡ waiting flow
      waits (One window) = refl
      waits (Credit credit) = refl

      okays : (n : ℕ) (b : Bool) (flow : Flow) → n + waiting flow ≤ cond b (1 + n) n + waiting (first_credit word flow)
      okays n true (One window) = omega arith
      okays n false (One window) = omega arith
      okays n true (Credit credit) = omega arith
      okays n false (Credit credit) = omega arith

      owed : (written : ℕ) → (x.part.remote ≡ 0 → written ≡ 0)
          → length (owed_to x.client (hears_okay (s.clients x.client) x.client s).told) ≡ cond h.client.about.forwarded 0 4
          → owed_to x.client ((hears_okay (s.clients x.client) x.client s).told ++ [])
          ≡ owed_to x.client (hears_okay (s.clients x.client) x.client s).told ++ []
          → length (owed_to x.client ((hears_okay (s.clients x.client) x.client s).told ++ []))
          + hears x.part.remote h.client.about.forwarded written
          ≡ hears p.arg0 h.client.about.forwarded (written_after x.part.remote l p written)
      owed written nil told all =
          let none : written ≡ 0 = nil (eqb-true x.part.remote 0 at.2) in
          let was : hears x.part.remote h.client.about.forwarded written ≡ 0 =
          hears_nil x.part.remote h.client.about.forwarded written at.2 in
          let after : written_after x.part.remote l p written ≡ written = ap (λ b. cond b (written + length p.payload) written) at.0 in
          let now : hears p.arg0 h.client.about.forwarded (written_after x.part.remote l p written) ≡ cond h.client.about.forwarded 0 4
          + written_after x.part.remote l p written =
          hears_some p.arg0 h.client.about.forwarded (written_after x.part.remote l p written) at.1 in
          let len : length (owed_to x.client ((hears_okay (s.clients x.client) x.client s).told ++ []))
          ≡ length (owed_to x.client (hears_okay (s.clients x.client) x.client s).told) =
          ap length (all ∙ append-nil (owed_to x.client (hears_okay (s.clients x.client) x.client s).told)) in
          omega (arith, none, was, after, now, len, told)

  pub again_effect : (word : Option ℕ) → (counts x.part.remote l p ≡ false) × (is_again x.part.remote l p ≡ true)
      → Effect l x p h.client (okay_open l word x s)
  again_effect word at =
      let part = with_flow (acknowledged word x.part.flow) x.part in
      record {
        row = record x { part = part };
        is = changed_here l (with_stream_part part) s.streams x h.is;
        alive = h.alive;
        of = refl;
        client = h.client;
        here = h.here;
        phase = h.phase;
        same = same_client h.client;
        owed = λ written nil.
            let after : written_after x.part.remote l p written ≡ written = ap (λ b. cond b (written + length p.payload) written) at.0 in
            let same : hears x.part.remote h.client.about.forwarded (written_after x.part.remote l p written)
            ≡ hears x.part.remote h.client.about.forwarded written =
            ap (hears x.part.remote h.client.about.forwarded) after in
            omega (arith, same);
        silent = tt;
        okays = λ n. subst (λ (b : Bool). n + waiting x.part.flow ≤ cond b (1 + n) n + waiting (acknowledged word x.part.flow)) (sym at.1)
            (okays n word x.part.flow);
        answers = λ n o was late. (let same : okays_after_one x.part.remote l p n ≡ 1 + n = ap (λ b. cond b (1 + n) n) at.1 in
            let none = answered word x.part.flow in omega (arith, late, same, none));
      }
    where
      answered : (word : Option ℕ) (flow : Flow) → waiting (acknowledged word flow) ≡ 0
      answered word (One window) = refl
      answered None (Credit credit) = refl
      answered (Some m) (Credit credit) = refl

      okays : (n : ℕ) (word : Option ℕ) (flow : Flow) → n + waiting flow ≤ 1 + n + waiting (acknowledged word flow)
      okays n word (One window) = go window.outstanding
        where
          go : (b : Bool) → n + cond b 1 0 ≤ 1 + n + 0
          go true = omega arith
          go false = omega arith
      okays n None (Credit credit) = omega arith
      okays n (Some m) (Credit credit) = omega arith

  -- ---- WRTE
  none_effect : (flow : Flow) → Untouched l x.client s (accepts_none flow l x s)
  none_effect (One window) = u_owe l x.client x.link (okay_packet l x.part.remote) s (okay_silent l l x.part.remote)
  none_effect (Credit credit) = u_quiet l x.client s

  pub takes_effect : (payload : List ℕ) → p.payload ≡ payload
      → (counts x.part.remote l p ≡ true) × (eqb x.part.remote 0 ≡ false) × (is_again x.part.remote l p ≡ false)
      → Effect l x p h.client (accepts l payload x s)
  takes_effect [] is at =
      let u = none_effect x.part.flow in
      record {
        row = x;
        is = u.row ∙ h.is;
        alive = h.alive;
        of = refl;
        client = h.client;
        here = u.client h.client h.here (has_still h.client.about.phase l x.part.remote h.phase);
        phase = h.phase;
        same = same_client h.client;
        owed = λ written nil.
            let none_owed : length (owed_to x.client (accepts_none x.part.flow l x s).told) ≡ 0 = ap length u.owed in
            let after : written_after x.part.remote l p written ≡ written + length p.payload =
            ap (λ b. cond b (written + length p.payload) written) at.0 in
            let size : length p.payload ≡ 0 = ap length is in
            let same : hears x.part.remote h.client.about.forwarded (written_after x.part.remote l p written)
            ≡ hears x.part.remote h.client.about.forwarded written =
            ap (hears x.part.remote h.client.about.forwarded) (omega (arith, after, size)) in
            omega (arith, none_owed, same);
        silent = u.silent;
        okays = λ n. more (is_again x.part.remote l p) n;
        answers = λ n o was late.
            (let same : okays_after_one x.part.remote l p n ≡ n =
            ap (λ b. cond b (1 + n) n) at.2 in omega (arith, was, same));
      }
    where
      more : (b : Bool) (n : ℕ) → n + waiting x.part.flow ≤ cond b (1 + n) n + waiting x.part.flow
      more true n = omega arith
      more false n = omega arith
  takes_effect (b ∷ payload) is at =
      let part = with_flow (accepted (length (b ∷ payload)) x.part.flow) x.part in
      record {
        row = record x { part = part };
        is = changed_here l (with_stream_part part) s.streams x h.is;
        alive = h.alive;
        of = refl;
        client = record h.client { due = h.client.due ++ (b ∷ payload) };
        here = changed_here x.client (with_due (b ∷ payload)) s.clients h.client h.here;
        phase = h.phase;
        same = record { forwarded = refl; ended = refl; held = refl };
        owed = λ written nil.
            let told : length (owed_to x.client (accepts l (b ∷ payload) x s).told) ≡ length (b ∷ payload) =
            ap (λ e. length (cond e (b ∷ payload) [] ++ [])) (eq-eqb x.client x.client refl) ∙ ap length (append-nil (b ∷ payload)) in
            let after : written_after x.part.remote l p written ≡ written + length p.payload =
            ap (λ e. cond e (written + length p.payload) written) at.0 in
            let size : length p.payload ≡ length (b ∷ payload) = ap length is in
            let was : hears x.part.remote h.client.about.forwarded written ≡ cond h.client.about.forwarded 0 4 + written =
            hears_some x.part.remote h.client.about.forwarded written at.1 in
            let now : hears x.part.remote h.client.about.forwarded (written_after x.part.remote l p written)
            ≡ cond h.client.about.forwarded 0 4 + written_after x.part.remote l p written =
            hears_some x.part.remote h.client.about.forwarded (written_after x.part.remote l p written) at.1 in
            omega (arith, told, after, size, was, now);
        silent = tt;
        okays = λ n. okays n (is_again x.part.remote l p) x.part.flow;
        answers = λ n o was late. (let same : okays_after_one x.part.remote l p n ≡ n = ap (λ b. cond b (1 + n) n) at.2 in
            let as_before = waits x.part.flow in omega (arith, was, same, as_before));
      }
    where
      waits : (flow : Flow) → waiting (accepted (length (b ∷ payload)) flow) ≡ waiting flow
      waits (One window) = refl
      waits (Credit credit) = refl

      okays : (n : ℕ) (e : Bool) (flow : Flow) → n + waiting flow ≤ cond e (1 + n) n + waiting (accepted (length (b ∷ payload)) flow)
      okays n true (One window) = omega arith
      okays n false (One window) = omega arith
      okays n true (Credit credit) = omega arith
      okays n false (Credit credit) = omega arith
