-- What each packet of its link makes of a stream and its client, where the stream goes on.
use Rattle.std.proofs.Common.{◌≡◌, ◌≢◌, ℕ, Bool, true, false, cond, not, ◌||◌, ◌&&◌, length, Option, Some, None, refl, sym, ap, subst, ◌∙◌}
use Rattle.std.proofs.Common.{eqb}
use Rattle.std.proofs.Common.{◌⊎◌, inl, inr}
use Rattle.std.specs.Prelude.{nat_eq, is_some}
use Rattle.std.proofs.lemmas.Bool.{eq-eqb, ne_eqb, eqb-true, eqb-false, cases_eq}
use Rattle.adb_outside.specs.Tables.{at}
use Rattle.adb_wire.specs.Format.{is_cnxn}
use Rattle.adb_wire.specs.declared.command.Command.{Command}
use Rattle.adb_wire.specs.declared.command.Command.TheVariants.{Cnxn, Open, Okay, Wrte, Clse, Auth, Stls}
use Rattle.adb_wire.specs.declared.packets.Packet.{Packet}
use Rattle.adb_stream.specs.declared.row.Stream.{Stream}
use Rattle.adb_stream.specs.Flow.{is_out_of_turn}
use Rattle.adb_history.specs.Rows.{Link, State}
use Rattle.adb_history.specs.Events.{Made, quietly}
use Rattle.adb_history.specs.declared.ending.Ending.TheVariants.{PeerClosed, OutOfTurn}
use Rattle.adb_history.specs.Links.{credit_word, owe_link, is_connected}
use Rattle.adb_history.specs.Streams.{ends_row, ends_telling}
use Rattle.adb_history.specs.Packets.{at_stream, okay_open, okay_first, takes_okay}
use Rattle.adb_history.specs.Packets.{accepts, takes_write, takes_close, treat_open, treat_any, treat_on, treat}
use Rattle.adb_history.specs.Orderly.{phase_for}
use Rattle.adb_history.specs.Births.{is_between, is_okay, is_wrte}
use Rattle.adb_laws_causes.proofs.StreamFates.{gone_here}
use Rattle.adb_laws_causes.proofs.Turns.{counts}
use Rattle.adb_laws_causes.proofs.Untouched.{Untouched, Apart, u_quiet}
use Rattle.adb_laws_causes.proofs.UntouchedEntries.{Pair}
use Rattle.adb_history.specs.Links.{close_packet}
use Rattle.adb_history.specs.Packets.{unauthorized, refuses_open}
use Rattle.adb_laws_causes.proofs.Turns.{other_stream}
use Rattle.adb_laws_causes.proofs.Turning.{no_write, a_write, Here}
use Rattle.adb_laws_causes.proofs.Untouched.{u_okay, u_write, u_close}
use Rattle.adb_laws_causes.proofs.UntouchedRules.{far_unauthorized, far_refuses}
use Rattle.adb_laws_causes.proofs.Effects.{Effect, EffectOr, is_again, no_middle, nothing_done, opened_effect, again_effect, takes_effect}

-- a write that counts is of a stream that is open
counts_open : (own remote : ℕ) → (true && not (nat_eq own 0) && (nat_eq remote own && true)) ≡ true → eqb own 0 ≡ false
counts_open own remote e = go (nat_eq own 0) e
  where
    go : (b : Bool) → (true && not b && (nat_eq remote own && true)) ≡ true → b ≡ false
    go false f = refl
    go true f = absurd (let clash : false ≡ true = f in cc)

no_last : (a b : Bool) → (a && (false && b)) ≡ false
no_last true b = refl
no_last false b = refl

no_end : (a b : Bool) → (a && (b && false)) ≡ false
no_end true true = refl
no_end true false = refl
no_end false b = refl

module _ (t : ℕ) (x : Stream) (p : Packet) (s : State) (h : Pair p.arg1 x s) where
  -- a rule of the stream of the packet
  own_effect : (rule : Stream → State → Made) → (nat_eq x.link t ≡ true)
      → EffectOr p.arg1 x p h.client (rule x s) → EffectOr p.arg1 x p h.client (at_stream t (s.streams p.arg1) rule s)
  own_effect rule here effect =
      subst (λ (o : Option Stream). EffectOr p.arg1 x p h.client (at_stream t o rule s)) (sym h.is) (go (nat_eq x.link t) refl here)
    where
      go : (b : Bool) → nat_eq x.link t ≡ b → nat_eq x.link t ≡ true → EffectOr p.arg1 x p h.client (cond b (rule x s) (quietly s))
      go true e on = effect
      go false e on = absurd (let clash : true ≡ false = sym on ∙ e in cc)

  counts_is : p.command ≡ Wrte → counts x.part.remote p.arg1 p
      ≡ (true && not (nat_eq x.part.remote 0) && (nat_eq p.arg0 x.part.remote && true))
  counts_is c =
      ap (λ k. is_wrte k && not (nat_eq x.part.remote 0) && (nat_eq p.arg0 x.part.remote && nat_eq p.arg1 p.arg1)) c
      ∙ ap (λ b. true && not (nat_eq x.part.remote 0) && (nat_eq p.arg0 x.part.remote && b)) (eq-eqb p.arg1 p.arg1 refl)

  okay_none : p.command ≡ Okay → counts x.part.remote p.arg1 p ≡ false
  okay_none c = ap (λ k. is_wrte k && not (nat_eq x.part.remote 0) && is_between x.part.remote p.arg1 p) c

  okay_effect : (word : Option ℕ) → p.command ≡ Okay → Effect p.arg1 x p h.client (takes_okay p.arg1 p.arg0 word x s)
  okay_effect word c = at_zero (eqb p.arg0 0) refl
    where
      still : is_again x.part.remote p.arg1 p ≡ false → Effect p.arg1 x p h.client (quietly s)
      still never = nothing_done p.arg1 x p s h (quietly s) (u_quiet p.arg1 x.client s) (okay_none c) never

      from_other : eqb p.arg0 x.part.remote ≡ false → is_again x.part.remote p.arg1 p ≡ false
      from_other e = ap (λ b. is_okay p.command && not (nat_eq x.part.remote 0) && (b && nat_eq p.arg1 p.arg1)) e
          ∙ no_last (is_okay p.command && not (nat_eq x.part.remote 0)) (nat_eq p.arg1 p.arg1)

      from_nobody : eqb p.arg0 0 ≡ true → is_again x.part.remote p.arg1 p ≡ false
      from_nobody e = by (eqb x.part.remote 0) refl
        where
          by : (b : Bool) → eqb x.part.remote 0 ≡ b → is_again x.part.remote p.arg1 p ≡ false
          by true f = ap (λ b. is_okay p.command && not b && is_between x.part.remote p.arg1 p) f
              ∙ no_middle (is_okay p.command) (is_between x.part.remote p.arg1 p)
          by false f = from_other (ne_eqb p.arg0 x.part.remote (λ same. eqb-false x.part.remote 0 f (sym same ∙ eqb-true p.arg0 0 e)))

      later : Made
      later = cond (eqb p.arg0 x.part.remote) (okay_open p.arg1 word x s) (quietly s)

      known : (b : Bool) → eqb p.arg0 x.part.remote ≡ b → eqb x.part.remote 0 ≡ false
          → Effect p.arg1 x p h.client (cond b (okay_open p.arg1 word x s) (quietly s))
      known false e f = still (from_other e)
      known true e f = again_effect p.arg1 x p s h word (
        okay_none c,
        ap (λ k. is_okay k && not (nat_eq x.part.remote 0) && (nat_eq p.arg0 x.part.remote && nat_eq p.arg1 p.arg1)) c
            ∙ (ap (λ b. true && not b && (nat_eq p.arg0 x.part.remote && nat_eq p.arg1 p.arg1)) f
            ∙ (ap (λ b. b && nat_eq p.arg1 p.arg1) e ∙ eq-eqb p.arg1 p.arg1 refl)),
      )

      at_first : (b : Bool) → eqb x.part.remote 0 ≡ b → eqb p.arg0 0 ≡ false
          → Effect p.arg1 x p h.client (cond b (okay_first x.part.orphan p.arg1 p.arg0 word x s) later)
      at_first true e some = subst (λ (orphan : Bool). Effect p.arg1 x p h.client (okay_first orphan p.arg1 p.arg0 word x s)) (sym h.alive)
          (opened_effect p.arg1 x p s h word (okay_none c, some, e))
      at_first false e some = known (eqb p.arg0 x.part.remote) refl e

      at_zero : (b : Bool) → eqb p.arg0 0 ≡ b
          → Effect p.arg1 x p h.client
          (cond b (quietly s)
          (cond (eqb x.part.remote 0) (okay_first x.part.orphan p.arg1 p.arg0 word x s) later))
      at_zero true e = still (from_nobody e)
      at_zero false e = at_first (eqb x.part.remote 0) refl e

  write_effect : p.command ≡ Wrte → EffectOr p.arg1 x p h.client (takes_write p.arg1 p.arg0 p.payload x s)
  write_effect c = go (eqb p.arg0 0 || not (eqb p.arg0 x.part.remote)) refl
    where
      never : is_again x.part.remote p.arg1 p ≡ false
      never = ap (λ k. is_okay k && not (nat_eq x.part.remote 0) && is_between x.part.remote p.arg1 p) c

      some : (eqb p.arg0 0 || not (eqb p.arg0 x.part.remote)) ≡ false
          → (counts x.part.remote p.arg1 p ≡ true) × (eqb x.part.remote 0 ≡ false) × (is_again x.part.remote p.arg1 p ≡ false)
      some e = ((counts_is c) ∙ a_write p.arg0 x.part.remote e, counts_open x.part.remote p.arg0 (a_write p.arg0 x.part.remote e), never)

      taken : (b : Bool) → (counts x.part.remote p.arg1 p ≡ true) × (eqb x.part.remote 0 ≡ false)
          × (is_again x.part.remote p.arg1 p ≡ false)
          → EffectOr p.arg1 x p h.client (cond b (ends_telling p.arg1 OutOfTurn x s) (accepts p.arg1 p.payload x s))
      taken true e = inr (gone_here p.arg1 p.arg1 OutOfTurn x (owe_link x.link (close_packet p.arg1 x.part.remote) s).state h.is refl)
      taken false e = inl (takes_effect p.arg1 x p s h p.payload refl e)

      go : (b : Bool) → (eqb p.arg0 0 || not (eqb p.arg0 x.part.remote)) ≡ b → EffectOr p.arg1 x p h.client (cond b (quietly s)
          (cond (is_out_of_turn x.part.flow (length p.payload)) (ends_telling p.arg1 OutOfTurn x s) (accepts p.arg1 p.payload x s)))
      go true e = inl
          (nothing_done p.arg1 x p s h (quietly s) (u_quiet p.arg1 x.client s)
          ((counts_is c) ∙ no_write p.arg0 x.part.remote e) never)
      go false e = taken (is_out_of_turn x.part.flow (length p.payload)) (some e)

  close_effect : p.command ≡ Clse → EffectOr p.arg1 x p h.client (takes_close p.arg1 p.arg0 x s)
  close_effect c = go (eqb p.arg0 0 || eqb p.arg0 x.part.remote)
    where
      go : (b : Bool) → EffectOr p.arg1 x p h.client (cond b (ends_row p.arg1 PeerClosed x s) (quietly s))
      go true = inr (gone_here p.arg1 p.arg1 PeerClosed x s h.is refl)
      go false = inl (nothing_done p.arg1 x p s h (quietly s) (u_quiet p.arg1 x.client s)
          (ap (λ k. is_wrte k && not (nat_eq x.part.remote 0) && is_between x.part.remote p.arg1 p) c)
          (ap (λ k. is_okay k && not (nat_eq x.part.remote 0) && is_between x.part.remote p.arg1 p) c))

module _ (t l : ℕ) (x : Stream) (p : Packet) (s : State) (h : Pair l x s) where
  -- a packet of another kind
  kind_effect : (m : Made) → Untouched l x.client s m → is_wrte p.command ≡ false → is_okay p.command ≡ false → EffectOr l x p h.client m
  kind_effect m u none never =
      inl (nothing_done l x p s h m u
      (ap (λ b. b && not (nat_eq x.part.remote 0) && is_between x.part.remote l p) none)
      (ap (λ b. b && not (nat_eq x.part.remote 0) && is_between x.part.remote l p) never))

  -- to another stream
  else_effect : (rule : Stream → State → Made) → p.arg1 ≢ l → is_cnxn p.command ≡ false → Apart l x.client s
      → ((z : Stream) → (p.arg1 ≢ l) × (z.client ≢ x.client) → Untouched l x.client s (rule z s))
      → EffectOr l x p h.client (at_stream t (s.streams p.arg1) rule s)
  else_effect rule other not_cnxn apart u =
      inl (nothing_done l x p s h (at_stream t (s.streams p.arg1) rule s) (look (s.streams p.arg1) refl)
      (other_stream l x p other not_cnxn).counts never)
    where
      never : is_again x.part.remote l p ≡ false
      never = ap (λ b. is_okay p.command && not (nat_eq x.part.remote 0) && (nat_eq p.arg0 x.part.remote && b)) (ne_eqb p.arg1 l other)
          ∙ no_end (is_okay p.command && not (nat_eq x.part.remote 0)) (nat_eq p.arg0 x.part.remote)

      look : (o : Option Stream) → s.streams p.arg1 ≡ o → Untouched l x.client s (at_stream t o rule s)
      look None is = u_quiet l x.client s
      look (Some z) is = go (nat_eq z.link t)
        where
          go : (b : Bool) → Untouched l x.client s (cond b (rule z s) (quietly s))
          go true = u z (other, apart.alone p.arg1 z is other)
          go false = u_quiet l x.client s

  -- to this one or to another
  this_or : (m : Made) → ((k : Pair p.arg1 x s) → k.client ≡ h.client → EffectOr p.arg1 x p k.client m)
      → (p.arg1 ≢ l → EffectOr l x p h.client m)
      → EffectOr l x p h.client m
  this_or m own other = go (cases_eq p.arg1 l)
    where
      go : (p.arg1 ≡ l) ⊎ (p.arg1 ≡ l → ⊥) → EffectOr l x p h.client m
      go (inl same) =
          subst (λ (n : ℕ). EffectOr n x p h.client m) same
          (own (record {
            is = ap s.streams same ∙ h.is;
            alive = h.alive;
            client = h.client;
            here = h.here;
            phase = h.phase ∙ ap (λ n. phase_for n x.part.remote) (sym same);
          }) refl)
      go (inr apart) = other apart

  command_effect : (command : Command) → p.command ≡ command → is_cnxn command ≡ false → (x.link ≡ t) × Apart l x.client s
      → EffectOr l x p h.client (treat_open t command p s)
  command_effect Open c e on_t = kind_effect (refuses_open t p.arg0 s) (far_refuses l x.client t p.arg0 s) (ap is_wrte c) (ap is_okay c)
  command_effect Okay c e on_t =
      this_or (at_stream t (s.streams p.arg1) (takes_okay p.arg1 p.arg0 (credit_word p.payload)) s)
      (λ k same. own_effect t x p s k (takes_okay p.arg1 p.arg0 (credit_word p.payload)) (eq-eqb x.link t on_t.0)
      (inl (okay_effect t x p s k (credit_word p.payload) c)))
      (λ other. else_effect (takes_okay p.arg1 p.arg0 (credit_word p.payload)) other (ap is_cnxn c) on_t.1
      (λ z apart. u_okay l x.client p.arg1 z apart p.arg0 (credit_word p.payload) s))
  command_effect Wrte c e on_t =
      this_or (at_stream t (s.streams p.arg1) (takes_write p.arg1 p.arg0 p.payload) s)
      (λ k same. own_effect t x p s k (takes_write p.arg1 p.arg0 p.payload) (eq-eqb x.link t on_t.0) (write_effect t x p s k c))
      (λ other. else_effect (takes_write p.arg1 p.arg0 p.payload) other (ap is_cnxn c) on_t.1
      (λ z apart. u_write l x.client p.arg1 z apart p.arg0 p.payload s))
  command_effect Clse c e on_t =
      this_or (at_stream t (s.streams p.arg1) (takes_close p.arg1 p.arg0) s)
      (λ k same. own_effect t x p s k (takes_close p.arg1 p.arg0) (eq-eqb x.link t on_t.0) (close_effect t x p s k c))
      (λ other. else_effect (takes_close p.arg1 p.arg0) other (ap is_cnxn c) on_t.1 (λ z apart. u_close l x.client p.arg1 z apart p.arg0 s))
  command_effect Cnxn c e on_t = absurd (let clash : true ≡ false = e in cc)
  command_effect Auth c e on_t = kind_effect (quietly s) (u_quiet l x.client s) (ap is_wrte c) (ap is_okay c)
  command_effect Stls c e on_t = kind_effect (quietly s) (u_quiet l x.client s) (ap is_wrte c) (ap is_okay c)

  if_effect : (command : Command) → p.command ≡ command → is_cnxn command ≡ false → (x.link ≡ t) × Apart l x.client s
      → (is_connected t s.devices ≡ true) → EffectOr l x p h.client (cond (is_connected t s.devices) (treat_open t command p s) (quietly s))
  if_effect command c e on_t on =
      subst (λ (b : Bool). EffectOr l x p h.client (cond b (treat_open t command p s) (quietly s))) (sym on)
      (command_effect command c e on_t)

  any_effect : (command : Command) → p.command ≡ command → is_cnxn command ≡ false → (x.link ≡ t) × Apart l x.client s
      → (is_connected t s.devices ≡ true) → EffectOr l x p h.client (treat_any t command p s)
  any_effect Cnxn c e on_t on = absurd (let clash : true ≡ false = e in cc)
  any_effect Auth c e on_t on = kind_effect (unauthorized t (at t s.devices.rows) s) (far_unauthorized l x.client t (at t s.devices.rows) s)
      (ap is_wrte c) (ap is_okay c)
  any_effect Stls c e on_t on = kind_effect (unauthorized t (at t s.devices.rows) s) (far_unauthorized l x.client t (at t s.devices.rows) s)
      (ap is_wrte c) (ap is_okay c)
  any_effect Open c e on_t on = if_effect Open c refl on_t on
  any_effect Okay c e on_t on = if_effect Okay c refl on_t on
  any_effect Wrte c e on_t on = if_effect Wrte c refl on_t on
  any_effect Clse c e on_t on = if_effect Clse c refl on_t on

  pub treat_effect : Here t l x s → Apart l x.client s → is_cnxn p.command ≡ false → EffectOr l x p h.client (treat t p s)
  treat_effect here apart not_cnxn = go (s.links t) here.live.link
    where
      go : (o : Option Link) → is_some o ≡ true → EffectOr l x p h.client (treat_on o t p s)
      go None e = absurd (let clash : false ≡ true = e in cc)
      go (Some link) e = any_effect p.command refl not_cnxn (here.on, apart) here.live.connected
