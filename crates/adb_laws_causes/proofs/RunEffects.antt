-- What the packets of its link make of a stream and its client, one after another, where the stream goes on.
use Rattle.std.proofs.Common.{◌≡◌, ◌≤◌, ◌+◌, ℕ, Bool, true, false, cond, not, ◌&&◌, List, [], ◌∷◌, ◌++◌, length, Some, None, refl, sym, ap}
use Rattle.std.proofs.Common.{subst, ◌∙◌}
use Rattle.std.proofs.Common.{arith, inl, inr, length-append}
use Rattle.std.specs.Prelude.{nat_eq}
use Rattle.std.proofs.lemmas.Bool.{eqb-true, eqb-false}
use Rattle.adb_wire.specs.declared.packets.Packet.{Packet}
use Rattle.adb_stream.specs.declared.row.Stream.{Stream}
use Rattle.adb_history.specs.Rows.{Client, State}
use Rattle.adb_history.specs.Events.{Made, owed_to}
use Rattle.adb_history.specs.Packets.{treat}
use Rattle.adb_history.specs.Orderly.{phase_for}
use Rattle.adb_history.specs.Births.{is_between, is_okay, is_wrte}
use Rattle.adb_history.specs.Causes.{remote_after}
use Rattle.adb_laws_causes.proofs.Turns.{written_after, no_and}
use Rattle.adb_laws_causes.proofs.Silent.{AreSilent, silent_append}
use Rattle.adb_history.proofs.Growing.{owed_append}
use Rattle.adb_laws_causes.proofs.Untouched.{Apart}
use Rattle.adb_laws_causes.proofs.UntouchedEntries.{Pair}
use Rattle.adb_laws_causes.proofs.Turning.{Here}
use Rattle.adb_laws_causes.specs.Flows.{waiting, hears}
use Rattle.adb_laws_causes.proofs.Effects.{Answers, is_again, SameClient, Effect, EffectOr}
use Rattle.std.specs.Option.{option_or}
use Rattle.adb_history.specs.Events.{ending_in}
use Rattle.adb_history.specs.Packets.{treat_all}
use Rattle.adb_laws_causes.specs.Flows.{FlowIs}
use Rattle.adb_laws_causes.proofs.Fates.{ending_append, lives}
use Rattle.adb_laws_causes.proofs.PacketFates.{OfLink, treat_fate, treat_all_fate}
use Rattle.adb_laws_causes.proofs.Turns.{Next, Passes}
use Rattle.adb_laws_causes.proofs.Turning.{Turn}
use Rattle.adb_laws_causes.proofs.TurnsOfPackets.{treat_turn}
use Rattle.adb_laws_causes.proofs.Untouched.{apart_fate}
use Rattle.adb_laws_causes.proofs.Effects.{okays_after_one, same_client}
use Rattle.adb_laws_causes.proofs.PacketEffects.{treat_effect}

-- ---- what packets say to a stream, one after another
abbrev pub remote_all : (remote l : ℕ) → List Packet → ℕ
remote_all remote l [] = remote
remote_all remote l (p ∷ packets) = remote_all (remote_after remote l p) l packets

abbrev pub written_all : (remote l : ℕ) → List Packet → ℕ → ℕ
written_all remote l [] written = written
written_all remote l (p ∷ packets) written = written_all (remote_after remote l p) l packets (written_after remote l p written)

abbrev pub okays_all : (remote l : ℕ) → List Packet → ℕ → ℕ
okays_all remote l [] n = n
okays_all remote l (p ∷ packets) n = okays_all (remote_after remote l p) l packets (okays_after_one remote l p n)

-- OKAYs only become more
okays_grow : (remote l : ℕ) (packets : List Packet) (n : ℕ) → n ≤ okays_all remote l packets n
okays_grow remote l [] n = omega arith
okays_grow remote l (p ∷ packets) n =
    let later = okays_grow (remote_after remote l p) l packets (okays_after_one remote l p n) in
    let one = go (is_again remote l p) in
    omega (arith, later, one)
  where
    go : (b : Bool) → n ≤ cond b (1 + n) n
    go true = omega arith
    go false = omega arith

-- nothing was written to a stream that is not open
after_nil : (remote l : ℕ) (p : Packet) (written : ℕ) → (remote ≡ 0 → written ≡ 0) → remote_after remote l p ≡ 0
    → written_after remote l p written ≡ 0
after_nil remote l p written nil e = go (nat_eq remote 0) refl e
  where
    none : (b : Bool) → written ≡ 0 → (is_wrte p.command && not b && is_between remote l p) ≡ false
        → cond (is_wrte p.command && not b && is_between remote l p)
        (written + length p.payload) written ≡ 0
    none b is e = ap (λ c. cond c (written + length p.payload) written) e ∙ is

    go : (b : Bool) → nat_eq remote 0 ≡ b → cond (b && is_okay p.command && nat_eq p.arg1 l) p.arg0 remote ≡ 0
        → cond (is_wrte p.command && not b && is_between remote l p) (written + length p.payload) written ≡ 0
    go true f g = none true (nil (eqb-true remote 0 f)) (no_and (is_wrte p.command) (is_between remote l p))
    go false f g = absurd (eqb-false remote 0 f g)

-- what packets make of a stream and its client
pub record RunEffect (l : ℕ) (x : Stream) (packets : List Packet) (k : Client) (m : Made) : Type 0 where
  pub row : Stream
  pub is : m.state.streams l ≡ Some row
  pub alive : row.part.orphan ≡ false
  pub of : row.client ≡ x.client
  pub link : row.link ≡ x.link
  pub remote : row.part.remote ≡ remote_all x.part.remote l packets
  pub flow : (credit : Bool) (written handed given : ℕ) → FlowIs x.part.flow credit written handed given
      → FlowIs row.part.flow credit (written_all x.part.remote l packets written) handed given
  pub client : Client
  pub here : m.state.clients x.client ≡ Some client
  pub phase : client.about.phase ≡ phase_for l row.part.remote
  pub same : SameClient k client
  pub owed : (written : ℕ) → (x.part.remote ≡ 0 → written ≡ 0)
      → length (owed_to x.client m.told) + hears x.part.remote k.about.forwarded written
      ≡ hears row.part.remote k.about.forwarded (written_all x.part.remote l packets written)
  pub silent : AreSilent l m.told
  pub okays : (n : ℕ) → n + waiting x.part.flow ≤ okays_all x.part.remote l packets n + waiting row.part.flow
  pub answers : Answers x.part.flow (okays_all x.part.remote l packets) row.part.flow

-- the stream is alive when all packets are treated
abbrev pub LivesOn : ℕ → Made → Type 0
LivesOn l m = lives (m.state.streams l) ≡ true

module _ (t l : ℕ) (x : Stream) (p : Packet) (packets : List Packet) (s : State) where
  -- a packet of a run that goes on does not end the stream
  first_passes : LivesOn l (treat_all t (p ∷ packets) s) → Turn t l x p (treat t p s) → Passes t l x p (treat t p s)
  first_passes on (inl a) = a
  first_passes on (inr f) =
      let all = treat_all t (p ∷ packets) s in
      let told : ending_in l all.told ≡ Some f.ending =
      ending_append l (treat t p s).told (treat_all t packets (treat t p s).state).told
      ∙ ap (λ o. option_or o (ending_in l (treat_all t packets (treat t p s).state).told)) f.told in
      absurd (let clash : true ≡ false = sym on ∙ ((treat_all_fate l t (p ∷ packets) s).ends f.ending told).over in cc)

  first_effect : (h : Pair l x s) → Passes t l x p (treat t p s) → EffectOr l x p h.client (treat t p s)
      → Effect l x p h.client (treat t p s)
  first_effect h a (inl e) = e
  first_effect h a (inr none) = absurd (let clash : None ≡ Some a.row = sym none ∙ a.is in cc)

  -- one packet, and those behind it
  effects_join : (h : Pair l x s) (a : Passes t l x p (treat t p s)) (e : Effect l x p h.client (treat t p s))
      → RunEffect l e.row packets e.client (treat_all t packets (treat t p s).state)
      → RunEffect l x (p ∷ packets) h.client (treat_all t (p ∷ packets) s)
  effects_join h a e r =
      let rest = treat_all t packets (treat t p s).state in
      let next = next_row in
      record {
        row = r.row;
        is = r.is;
        alive = r.alive;
        of = r.of ∙ e.of;
        link = r.link ∙ next.link;
        remote = r.remote ∙ ap (λ n. remote_all n l packets) next.remote;
        flow = λ credit written handed given f.
            subst (λ (n : ℕ). FlowIs r.row.part.flow credit
            (written_all n l packets (written_after x.part.remote l p written)) handed given) next.remote
            (r.flow credit (written_after x.part.remote l p written) handed given (next.flow credit written handed given f));
        client = r.client;
        here = ap rest.state.clients (sym e.of) ∙ r.here;
        phase = r.phase;
        same = record {
          forwarded = r.same.forwarded ∙ e.same.forwarded;
          ended = r.same.ended ∙ e.same.ended;
          held = r.same.held ∙ e.same.held;
        };
        owed = λ written nil. owed written nil;
        silent = silent_append l (treat t p s).told rest.told e.silent r.silent;
        okays = λ n. (let one = e.okays n in let more = r.okays (okays_after_one x.part.remote l p n) in
            let same : okays_all e.row.part.remote l packets (okays_after_one x.part.remote l p n)
            ≡ okays_all (remote_after x.part.remote l p) l packets (okays_after_one x.part.remote l p n) =
            ap (λ i. okays_all i l packets (okays_after_one x.part.remote l p n)) next.remote in
            omega (arith, one, more, same));
        answers = λ n o was late.
            let same : okays_all e.row.part.remote l packets (okays_after_one x.part.remote l p n)
            ≡ okays_all (remote_after x.part.remote l p) l packets (okays_after_one x.part.remote l p n) =
            ap (λ i. okays_all i l packets (okays_after_one x.part.remote l p n)) next.remote in
            let first = okays_grow e.row.part.remote l packets (okays_after_one x.part.remote l p n) in
            let one = e.answers n o was (omega (arith, late, same, first)) in
            let more = r.answers (okays_after_one x.part.remote l p n) o one (omega (arith, late, same)) in
            omega (arith, more, same);
      }
    where
      next_row : Next l x p e.row
      next_row =
          let same : a.row ≡ e.row = (let both : Some a.row ≡ Some e.row = sym a.is ∙ e.is in cc) in
          subst (Next l x p) same a.next

      owed : (written : ℕ) → (x.part.remote ≡ 0 → written ≡ 0)
          → length (owed_to x.client ((treat t p s).told ++ (treat_all t packets
          (treat t p s).state).told)) + hears x.part.remote h.client.about.forwarded written
          ≡ hears r.row.part.remote h.client.about.forwarded
          (written_all (remote_after x.part.remote l p) l packets (written_after x.part.remote l p written))
      owed written nil =
          let after = written_after x.part.remote l p written in
          let rest = (treat_all t packets (treat t p s).state).told in
          let one = e.owed written nil in
          let more = r.owed after (λ z. after_nil x.part.remote l p written nil (sym next_row.remote ∙ z)) in
          let mine : length (owed_to e.row.client rest) ≡ length (owed_to x.client rest) = ap (λ c. length (owed_to c rest)) e.of in
          let own : hears e.row.part.remote e.client.about.forwarded after ≡ hears e.row.part.remote h.client.about.forwarded after =
          ap (λ f. hears e.row.part.remote f after) e.same.forwarded in
          let end : hears r.row.part.remote e.client.about.forwarded (written_all e.row.part.remote l packets after)
          ≡ hears r.row.part.remote h.client.about.forwarded (written_all (remote_after x.part.remote l p) l packets after) =
          ap (λ f. hears r.row.part.remote f (written_all e.row.part.remote l packets after)) e.same.forwarded
          ∙ ap (λ n. hears r.row.part.remote h.client.about.forwarded (written_all n l packets after)) next_row.remote in
          let all : length (owed_to x.client ((treat t p s).told ++ rest))
          ≡ length (owed_to x.client (treat t p s).told) + length (owed_to x.client rest) =
          ap length (owed_append x.client (treat t p s).told rest)
          ∙ length-append (owed_to x.client (treat t p s).told) (owed_to x.client rest) in
          omega (arith, one, more, mine, own, end, all)

pub run_effect : (t l : ℕ) (packets : List Packet) (x : Stream) (s : State) (h : Pair l x s) → Here t l x s × Apart l x.client s
    → LivesOn l (treat_all t packets s) → RunEffect l x packets h.client (treat_all t packets s)
run_effect t l [] x s h at on = record {
  row = x;
  is = h.is;
  alive = h.alive;
  of = refl;
  link = refl;
  remote = refl;
  flow = λ credit written handed given f. f;
  client = h.client;
  here = h.here;
  phase = h.phase;
  same = same_client h.client;
  owed = λ written nil. omega arith;
  silent = tt;
  okays = λ n. omega arith;
  answers = λ n o was late. was;
}
run_effect t l (p ∷ packets) x s h at on =
    go (first_passes t l x p packets s on (treat_turn t l x p s at.0)) (λ y k i j. run_effect t l packets y (treat t p s).state k i j)
  where
    go : Passes t l x p (treat t p s)
        → ((y : Stream) (k : Pair l y (treat t p s).state) → Here t l y (treat t p s).state × Apart l y.client (treat t p s).state
        → LivesOn l (treat_all t packets (treat t p s).state) → RunEffect l y packets k.client (treat_all t packets (treat t p s).state))
        → RunEffect l x (p ∷ packets) h.client (treat_all t (p ∷ packets) s)
    go a later =
        let e = first_effect t l x p packets s h a (treat_effect t l x p s h at.0 at.1 a.not_cnxn) in
        let same : a.row ≡ e.row = (let both : Some a.row ≡ Some e.row = sym a.is ∙ e.is in cc) in
        let apart = apart_fate l x.client (OfLink t) s (treat t p s) (λ n. treat_fate n t p s) at.1 in
        let pair : Pair l e.row (treat t p s).state = record {
          is = e.is;
          alive = e.alive;
          client = e.client;
          here = ap (treat t p s).state.clients e.of ∙ e.here;
          phase = e.phase;
        } in
        let here : Here t l e.row (treat t p s).state = record {
          is = e.is;
          alive = e.alive;
          on = ap (λ (z : Stream). z.link) (sym same) ∙ (a.next.link ∙ at.0.on);
          live = a.live;
        } in
        effects_join t l x p packets s h a e (later e.row pair (here, subst (λ (c : ℕ). Apart l c (treat t p s).state) (sym e.of) apart) on)
