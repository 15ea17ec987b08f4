-- Each packet of its link, and a stream that lives: the stream goes on, or it ends for what the packet says.
use Rattle.std.proofs.Common.{◌≡◌, ◌≢◌, ℕ, Bool, true, false, cond, not, ◌||◌, ◌&&◌, [], ◌++◌, Option, Some, None, refl, sym, ap, subst}
use Rattle.std.proofs.Common.{◌∙◌, eqb}
use Rattle.std.proofs.Common.{arith, ◌⊎◌, inl, inr}
use Rattle.std.specs.Prelude.{nat_eq, nat_lt, is_some, is_none}
use Rattle.std.specs.Option.{option_or}
use Rattle.std.proofs.lemmas.Bool.{cases_eq}
use Rattle.adb_outside.specs.Tables.{at}
use Rattle.adb_outside.specs.declared.identity.Identity.{Identity}
use Rattle.adb_outside.specs.declared.identity.State.{State as DeviceState}
use Rattle.adb_outside.specs.declared.identity.State.TheVariants.{Offline}
use Rattle.adb_banner.specs.Banner.{identity_of}
use Rattle.adb_registry.specs.declared.row.Row.{Row}
use Rattle.adb_wire.specs.Format.{is_cnxn}
use Rattle.adb_wire.specs.declared.command.Command.{Command}
use Rattle.adb_wire.specs.declared.command.Command.TheVariants.{Cnxn, Open, Okay, Wrte, Clse, Auth, Stls}
use Rattle.adb_wire.specs.declared.packets.Packet.{Packet}
use Rattle.adb_stream.specs.declared.row.Stream.{Stream}
use Rattle.adb_history.specs.Rows.{Link, State}
use Rattle.adb_history.specs.Events.{Made, quietly, ending_in}
use Rattle.adb_history.specs.declared.ending.Ending.{Ending}
use Rattle.adb_history.specs.declared.ending.Ending.TheVariants.{Lost, Broken}
use Rattle.adb_history.specs.Links.{close_packet, credit_word, owe_link, is_connected, is_connected_row, is_connected_state}
use Rattle.adb_history.specs.Streams.{all_end}
use Rattle.adb_history.specs.Losing.{forgets, link_ends}
use Rattle.adb_history.specs.Packets.{least_version, least_maxdata, streams_end_first, connects, cnxn, unauthorized_from, unauthorized}
use Rattle.adb_history.specs.Packets.{refuses_open}
use Rattle.adb_history.specs.Packets.{at_stream, takes_okay}
use Rattle.adb_history.specs.Packets.{takes_write, takes_close, treat_open, treat_any, treat_on, treat}
use Rattle.adb_history.specs.Book.{is_refused}
use Rattle.adb_history.specs.Births.{is_okay, is_wrte, is_clse}
use Rattle.adb_laws_causes.proofs.Fates.{ending_append}
use Rattle.adb_laws_causes.proofs.StreamFates.{all_end_ends}
use Rattle.adb_laws_causes.proofs.Frames.{Frame, frame_owe, frame_okay, frame_write, frame_close}
use Rattle.adb_laws_causes.proofs.Turns.{Ignores, other_kind, other_stream}
use Rattle.adb_laws_causes.proofs.Frames.{frame_quiet}
use Rattle.adb_laws_causes.proofs.Turning.{Here, Turn, live_frame, ignored, own_rule, okay_turn, write_turn, close_turn}

-- ---- the link ends, or its device says anew who it is
module _ (t l : ℕ) (x : Stream) (s : State) (h : Here t l x s) where
  all_end_told : (ending : Ending) (r : State) → r.streams ≡ s.streams → r.drawn ≡ s.drawn
      → ending_in l (all_end t ending r).told ≡ Some ending
  all_end_told ending r same drawn =
      all_end_ends l t ending r x (ap (λ streams. streams l) same ∙ h.is, h.alive, h.on)
      (h.live.within.0, omega (arith, h.live.within.1, drawn))

  pub link_ends_told : (ending : Ending) → ending_in l (link_ends t ending s).told ≡ Some ending
  link_ends_told ending =
      let r = forgets t s in
      ending_append l (all_end t ending r).told [] ∙ ap (λ o. option_or o None) (all_end_told ending r refl refl)

module _ (t l : ℕ) (x : Stream) (p : Packet) (s : State) (h : Here t l x s) where
  breaks : is_refused p ≡ true → Turn t l x p (link_ends t Broken s)
  breaks refused = inr (record { ending = Broken; told = link_ends_told t l x s h Broken; why = refused })

  connects_turn : (who : Option Identity) → p.command ≡ Cnxn → identity_of p.payload ≡ who
      → (nat_lt p.arg0 least_version || nat_lt p.arg1 least_maxdata) ≡ false → Turn t l x p (connects t p.arg0 p.arg1 who s)
  connects_turn None c is fits =
      breaks (ap (λ k. is_cnxn k && (nat_lt p.arg0 least_version || nat_lt p.arg1 least_maxdata || is_none (identity_of p.payload))) c
      ∙ (ap (λ b. b || is_none (identity_of p.payload)) fits ∙ ap is_none is))
  connects_turn (Some identity) c is fits =
      let accepted_now : is_refused p ≡ false =
      ap (λ k. is_cnxn k && (nat_lt p.arg0 least_version || nat_lt p.arg1 least_maxdata || is_none (identity_of p.payload))) c
      ∙ (ap (λ b. b || is_none (identity_of p.payload)) fits ∙ ap is_none is) in
      inr (record {
        ending = Lost;
        told = subst (λ (b : Bool). ending_in l ((streams_end_first b t s).told ++ []) ≡ Some Lost) (sym h.live.connected)
            (ending_append l (all_end t Lost s).told [] ∙ ap (λ o. option_or o None) (all_end_told t l x s h Lost s refl refl));
        why = ap (λ k. is_cnxn k && not (is_refused p)) c ∙ ap not accepted_now;
      })

  cnxn_turn : p.command ≡ Cnxn → Turn t l x p (cnxn t p.arg0 p.arg1 p.payload s)
  cnxn_turn c = go (nat_lt p.arg0 least_version || nat_lt p.arg1 least_maxdata) refl
    where
      go : (b : Bool) → (nat_lt p.arg0 least_version || nat_lt p.arg1 least_maxdata) ≡ b
          → Turn t l x p (cond b (link_ends t Broken s) (connects t p.arg0 p.arg1 (identity_of p.payload) s))
      go true e = breaks
          (ap (λ k. is_cnxn k
          && (nat_lt p.arg0 least_version || nat_lt p.arg1 least_maxdata || is_none (identity_of p.payload))) c
          ∙ ap (λ b. b || is_none (identity_of p.payload)) e)
      go false e = connects_turn (identity_of p.payload) c refl e

  -- ---- AUTH, STLS and OPEN
  -- a packet that leaves all as it is
  still : is_okay p.command ≡ false → is_wrte p.command ≡ false → is_clse p.command ≡ false
      → is_cnxn p.command ≡ false → Turn t l x p (quietly s)
  still okay wrte clse not_cnxn = inl (ignored t l x p s (quietly s) h (other_kind l x p okay wrte clse not_cnxn) h.is h.live)

  unauthorized_turn : (o : Option Row) → is_connected_row o ≡ true → Turn t l x p (quietly s) → Turn t l x p (unauthorized t o s)
  unauthorized_turn None on turn = turn
  unauthorized_turn (Some row) on turn = go row.state on
    where
      go : (state : DeviceState) → is_connected_state state ≡ true → Turn t l x p (quietly (unauthorized_from t state s))
      go Offline e = absurd (let clash : false ≡ true = e in cc)
      go _ e = turn

  open_turn : p.command ≡ Open → Turn t l x p (refuses_open t p.arg0 s)
  open_turn c = go (eqb p.arg0 0)
    where
      ignores : Ignores l x p
      ignores = other_kind l x p (ap is_okay c) (ap is_wrte c) (ap is_clse c) (ap is_cnxn c)

      go : (b : Bool) → Turn t l x p (cond b (quietly s) (owe_link t (close_packet 0 p.arg0) s))
      go true = inl (ignored t l x p s (quietly s) h ignores h.is h.live)
      go false =
          let m = owe_link t (close_packet 0 p.arg0) s in
          inl (ignored t l x p s m h ignores h.is (live_frame l t l s m (frame_owe l l t t (close_packet 0 p.arg0) s) h.live))

  -- ---- a packet to another stream
  frame_at : (o : Option Stream) (rule : Stream → State → Made) → ((z : Stream) → Frame p.arg1 l t s (rule z s))
      → Frame p.arg1 l t s (at_stream t o rule s)
  frame_at None rule frame = frame_quiet p.arg1 l t s
  frame_at (Some z) rule frame = go (nat_eq z.link t)
    where
      go : (b : Bool) → Frame p.arg1 l t s (cond b (rule z s) (quietly s))
      go true = frame z
      go false = frame_quiet p.arg1 l t s

  elsewhere : (rule : Stream → State → Made) → p.arg1 ≢ l → is_cnxn p.command ≡ false → ((z : Stream) → Frame p.arg1 l t s (rule z s))
      → Turn t l x p (at_stream t (s.streams p.arg1) rule s)
  elsewhere rule apart not_cnxn frame =
      let m = at_stream t (s.streams p.arg1) rule s in
      let f = frame_at (s.streams p.arg1) rule frame in
      inl (ignored t l x p s m h (other_stream l x p apart not_cnxn) (f.row apart ∙ h.is) (live_frame p.arg1 t l s m f h.live))

module _ (t l : ℕ) (x : Stream) (p : Packet) (s : State) where
  -- a packet to this stream or to another
  here_or : (m : Made) → (Here t p.arg1 x s → Turn t p.arg1 x p m) → (p.arg1 ≢ l → Turn t l x p m) → Here t l x s → Turn t l x p m
  here_or m own other h = go (cases_eq p.arg1 l)
    where
      go : (p.arg1 ≡ l) ⊎ (p.arg1 ≡ l → ⊥) → Turn t l x p m
      go (inl same) = subst (λ (n : ℕ). Turn t n x p m) same (own (subst (λ (n : ℕ). Here t n x s) (sym same) h))
      go (inr apart) = other apart

  open_command : (command : Command) → p.command ≡ command → is_cnxn command ≡ false → Here t l x s
      → Turn t l x p (treat_open t command p s)
  open_command Open c e h = open_turn t l x p s h c
  open_command Okay c e h =
      here_or (at_stream t (s.streams p.arg1) (takes_okay p.arg1 p.arg0 (credit_word p.payload)) s)
      (λ k. own_rule t x p s k (takes_okay p.arg1 p.arg0 (credit_word p.payload)) (inl (okay_turn t x p s k (credit_word p.payload) c)))
      (λ apart. elsewhere t l x p s h (takes_okay p.arg1 p.arg0 (credit_word p.payload)) apart (ap is_cnxn c)
      (λ z. frame_okay p.arg1 l t p.arg0 (credit_word p.payload) z s)) h
  open_command Wrte c e h =
      here_or (at_stream t (s.streams p.arg1) (takes_write p.arg1 p.arg0 p.payload) s)
      (λ k. own_rule t x p s k (takes_write p.arg1 p.arg0 p.payload) (write_turn t x p s k c))
      (λ apart. elsewhere t l x p s h (takes_write p.arg1 p.arg0 p.payload) apart (ap is_cnxn c)
      (λ z. frame_write p.arg1 l t p.arg0 p.payload z s)) h
  open_command Clse c e h =
      here_or (at_stream t (s.streams p.arg1) (takes_close p.arg1 p.arg0) s)
      (λ k. own_rule t x p s k (takes_close p.arg1 p.arg0) (close_turn t x p s k c))
      (λ apart. elsewhere t l x p s h (takes_close p.arg1 p.arg0) apart (ap is_cnxn c) (λ z. frame_close p.arg1 l t p.arg0 z s)) h
  open_command Cnxn c e h = absurd (let clash : true ≡ false = e in cc)
  open_command Auth c e h = still t l x p s h (ap is_okay c) (ap is_wrte c) (ap is_clse c) (ap is_cnxn c)
  open_command Stls c e h = still t l x p s h (ap is_okay c) (ap is_wrte c) (ap is_clse c) (ap is_cnxn c)

  if_on : (command : Command) → p.command ≡ command → is_cnxn command ≡ false → Here t l x s
      → Turn t l x p (cond (is_connected t s.devices) (treat_open t command p s) (quietly s))
  if_on command c e h =
      subst (λ (b : Bool). Turn t l x p (cond b (treat_open t command p s) (quietly s))) (sym h.live.connected) (open_command command c e h)

  any_command : (command : Command) → p.command ≡ command → Here t l x s → Turn t l x p (treat_any t command p s)
  any_command Cnxn c h = cnxn_turn t l x p s h c
  any_command Auth c h =
      unauthorized_turn t l x p s h (at t s.devices.rows) h.live.connected
      (still t l x p s h (ap is_okay c) (ap is_wrte c) (ap is_clse c) (ap is_cnxn c))
  any_command Stls c h =
      unauthorized_turn t l x p s h (at t s.devices.rows) h.live.connected
      (still t l x p s h (ap is_okay c) (ap is_wrte c) (ap is_clse c) (ap is_cnxn c))
  any_command Open c h = if_on Open c refl h
  any_command Okay c h = if_on Okay c refl h
  any_command Wrte c h = if_on Wrte c refl h
  any_command Clse c h = if_on Clse c refl h

  pub treat_turn : Here t l x s → Turn t l x p (treat t p s)
  treat_turn h = go (s.links t) h.live.link
    where
      go : (o : Option Link) → is_some o ≡ true → Turn t l x p (treat_on o t p s)
      go None e = absurd (let clash : false ≡ true = e in cc)
      go (Some link) e = any_command p.command refl h
