-- The packets of its link one after another, and a stream that lives.
use Rattle.std.proofs.Common.{◌≡◌, ◌+◌, ℕ, Bool, true, false, cond, not, ◌||◌, ◌&&◌, List, [], ◌∷◌, length, Option, Some, None, refl, sym}
use Rattle.std.proofs.Common.{ap, ◌∙◌, eqb}
use Rattle.std.proofs.Common.{◌⊎◌, inl, inr}
use Rattle.std.specs.Prelude.{nat_eq, nat_lt, is_some, is_none, option_and_then}
use Rattle.std.specs.Option.{option_or}
use Rattle.adb_banner.specs.Banner.{identity_of}
use Rattle.adb_wire.specs.Format.{is_cnxn}
use Rattle.adb_wire.specs.declared.packets.Packet.{Packet}
use Rattle.adb_stream.specs.declared.row.Stream.{Stream}
use Rattle.adb_history.specs.Rows.{Link, State}
use Rattle.adb_history.specs.Events.{Made, then_also, ending_in}
use Rattle.adb_history.specs.declared.ending.Ending.{Ending}
use Rattle.adb_history.specs.declared.ending.Ending.TheVariants.{ClientClosed, PeerClosed, OutOfTurn, Lost, Broken, ClientFailed, Stopped}
use Rattle.adb_history.specs.Losing.{link_ends}
use Rattle.adb_history.specs.Packets.{least_version, least_maxdata}
use Rattle.adb_history.specs.Packets.{treat}
use Rattle.adb_history.specs.Book.{is_refused}
use Rattle.adb_history.specs.Births.{is_between, is_okay, is_wrte}
use Rattle.adb_history.specs.Causes.{remote_after, is_early}
use Rattle.adb_laws_causes.specs.Flows.{FlowIs}
use Rattle.adb_laws_causes.proofs.Fates.{Reason, FateOf, ending_append, row_lives}
use Rattle.adb_laws_causes.proofs.PacketFates.{OfLink, treat_fate, treat_all_fate}
use Rattle.adb_laws_causes.proofs.Turns.{counts, written_after, OnLive, Passes, Strikes}
use Rattle.adb_laws_causes.proofs.Turns.{turn_is}
use Rattle.adb_laws_causes.proofs.Turning.{Here, Turn}
use Rattle.std.specs.List.{list_any}
use Rattle.adb_outside.specs.Framing.{Cut}
use Rattle.adb_wire.specs.declared.format.PacketFault.{PacketFault}
use Rattle.adb_wire.specs.declared.format.PacketFormat.{PacketFormat}
use Rattle.adb_history.specs.Rows.{to_link}
use Rattle.adb_history.specs.Packets.{treat_all, faulty_on, faulty, with_rest, receives_cut}
use Rattle.adb_history.specs.Births.{Birth}
use Rattle.adb_history.specs.Causes.{closes_in, writes_early_in}
use Rattle.adb_laws_causes.proofs.TurnsOfPackets.{link_ends_told, treat_turn}

-- whether a packet says anew who the device is
abbrev pub says_anew : Packet → Bool
says_anew p = is_cnxn p.command && not (is_refused p)

-- no packet ends the stream
pub record RunsOn (t l : ℕ) (x : Stream) (packets : List Packet) (m : Made) : Type 0 where
  pub row : Stream
  pub is : m.state.streams l ≡ Some row
  pub alive : row.part.orphan ≡ false
  pub link : row.link ≡ x.link
  pub live : OnLive t l m.state
  pub not_close : closes_in x.part.remote l packets ≡ false
  pub not_lost : list_any says_anew packets ≡ false
  pub not_broken : list_any is_refused packets ≡ false
  pub in_turn : (b : Birth) (written handed given : ℕ) → FlowIs x.part.flow b.credit written handed given
      → writes_early_in b x.part.remote l written handed given packets ≡ false

-- a packet ends it, for what it says
abbrev pub Struck : ℕ → Stream → List Packet → Ending → Type 0
Struck l x packets PeerClosed = closes_in x.part.remote l packets ≡ true
Struck l x packets OutOfTurn = (b : Birth) (written handed given : ℕ) → FlowIs x.part.flow b.credit written handed given
    → writes_early_in b x.part.remote l written handed given packets ≡ true
Struck l x packets Lost = list_any says_anew packets ≡ true
Struck l x packets Broken = list_any is_refused packets ≡ true
Struck l x packets _ = ⊥

pub record Fell (l : ℕ) (x : Stream) (packets : List Packet) (m : Made) : Type 0 where
  pub ending : Ending
  pub told : ending_in l m.told ≡ Some ending
  pub why : Struck l x packets ending

abbrev pub Run : (t l : ℕ) → Stream → List Packet → Made → Type 0
Run t l x packets m = RunsOn t l x packets m ⊎ Fell l x packets m

-- no end of a stream that lives on was told
pub alive_told : (l : ℕ) (Why : Reason) (s : State) (m : Made) (y : Stream) → FateOf l Why s m
    → (m.state.streams l ≡ Some y) × (y.part.orphan ≡ false)
    → ending_in l m.told ≡ None
alive_told l Why s m y fate is = go (ending_in l m.told) refl
  where
    go : (o : Option Ending) → ending_in l m.told ≡ o → ending_in l m.told ≡ None
    go None e = e
    go (Some z) e = absurd (let clash : true ≡ false = sym (row_lives (m.state.streams l) y is.0 is.1) ∙ (fate.ends z e).over in cc)

-- a write that counts tells no id
counts_known : (remote l : ℕ) (p : Packet) → counts remote l p ≡ true → remote_after remote l p ≡ remote
counts_known remote l p e = go (nat_eq remote 0) (is_wrte p.command) e
  where
    go : (nil write : Bool) → (write && not nil && is_between remote l p) ≡ true
        → cond (nil && is_okay p.command && nat_eq p.arg1 l) p.arg0 remote ≡ remote
    go false write e = refl
    go true true e = absurd (let clash : false ≡ true = e in cc)
    go true false e = absurd (let clash : false ≡ true = e in cc)

module _ (t l : ℕ) (x : Stream) (p : Packet) (packets : List Packet) (s : State) where
  -- what one packet strikes, it and those behind it do
  struck_first : (y : Ending) → Strikes l x p y → Struck l x (p ∷ packets) y
  struck_first PeerClosed e = ap (λ b. b || closes_in (remote_after x.part.remote l p) l packets) e
  struck_first OutOfTurn e = λ b written handed given f.
      ap (λ c. cond c (is_early b.credit written handed given (length p.payload)
      || writes_early_in b x.part.remote l (written + length p.payload) handed given packets)
      (writes_early_in b (remote_after x.part.remote l p) l written handed given packets)) e.0
      ∙ ap (λ c. c || writes_early_in b x.part.remote l (written + length p.payload) handed given packets)
      (sym (turn_is x.part.flow b.credit written handed given (length p.payload) f) ∙ e.1)
  struck_first Lost e = ap (λ b. b || list_any says_anew packets) e
  struck_first Broken e = ap (λ b. b || list_any is_refused packets) e
  struck_first ClientClosed e = absurd e
  struck_first (ClientFailed cause) e = absurd e
  struck_first Stopped e = absurd e

  -- behind a packet with which the stream goes on
  module _ (a : Passes t l x p (treat t p s)) where
    -- the writes behind it
    early_behind : (b : Birth) (written handed given : ℕ) → FlowIs x.part.flow b.credit written handed given
        → writes_early_in b x.part.remote l written handed given (p ∷ packets)
        ≡ writes_early_in b a.row.part.remote l (written_after x.part.remote l p written) handed given packets
    early_behind b written handed given f = go (counts x.part.remote l p) refl
      where
        go : (c : Bool) → counts x.part.remote l p ≡ c
            → cond c (is_early b.credit written handed given (length p.payload)
            || writes_early_in b x.part.remote l (written + length p.payload) handed given packets)
            (writes_early_in b (remote_after x.part.remote l p) l written handed given packets)
            ≡ writes_early_in b a.row.part.remote l (cond c (written + length p.payload) written) handed given packets
        go true e =
            ap (λ c. c || writes_early_in b x.part.remote l (written + length p.payload) handed given packets)
            (sym (turn_is x.part.flow b.credit written handed given (length p.payload) f) ∙ a.in_turn e)
            ∙ ap (λ (n : ℕ). writes_early_in b n l (written + length p.payload) handed given packets)
            (sym (a.next.remote ∙ counts_known x.part.remote l p e))
        go false e = ap (λ (n : ℕ). writes_early_in b n l written handed given packets) (sym a.next.remote)

    struck_behind : (y : Ending) → Struck l a.row packets y → Struck l x (p ∷ packets) y
    struck_behind PeerClosed e =
        ap (λ b. b || closes_in (remote_after x.part.remote l p) l packets) a.not_close
        ∙ (ap (λ (n : ℕ). closes_in n l packets) (sym a.next.remote) ∙ e)
    struck_behind OutOfTurn e = λ b written handed given f.
        early_behind b written handed given f
        ∙ e b (written_after x.part.remote l p written) handed given (a.next.flow b.credit written handed given f)
    struck_behind Lost e = ap (λ b. (b && not (is_refused p)) || list_any says_anew packets) a.not_cnxn ∙ e
    struck_behind Broken e =
        ap (λ b. (b && (nat_lt p.arg0 least_version || nat_lt p.arg1 least_maxdata || is_none
        (identity_of p.payload))) || list_any is_refused packets) a.not_cnxn
        ∙ e
    struck_behind ClientClosed e = absurd e
    struck_behind (ClientFailed cause) e = absurd e
    struck_behind Stopped e = absurd e

    runs_behind : RunsOn t l a.row packets (treat_all t packets (treat t p s).state)
        → RunsOn t l x (p ∷ packets) (treat_all t (p ∷ packets) s)
    runs_behind r = record {
      row = r.row;
      is = r.is;
      alive = r.alive;
      link = r.link ∙ a.next.link;
      live = r.live;
      not_close = ap (λ b. b || closes_in (remote_after x.part.remote l p) l packets) a.not_close
          ∙ (ap (λ (n : ℕ). closes_in n l packets) (sym a.next.remote) ∙ r.not_close);
      not_lost = ap (λ b. (b && not (is_refused p)) || list_any says_anew packets) a.not_cnxn ∙ r.not_lost;
      not_broken = ap (λ b. (b && (nat_lt p.arg0 least_version || nat_lt p.arg1 least_maxdata || is_none (identity_of p.payload)))
          || list_any is_refused packets) a.not_cnxn ∙ r.not_broken;
      in_turn = λ b written handed given f. early_behind b written handed given f
          ∙ r.in_turn b (written_after x.part.remote l p written) handed given (a.next.flow b.credit written handed given f);
    }

pub run : (t l : ℕ) (packets : List Packet) (x : Stream) (s : State) → Here t l x s → Run t l x packets (treat_all t packets s)
run t l [] x s h = inl (record {
  row = x;
  is = h.is;
  alive = h.alive;
  link = refl;
  live = h.live;
  not_close = refl;
  not_lost = refl;
  not_broken = refl;
  in_turn = λ b written handed given f. refl;
})
run t l (p ∷ packets) x s h = go (treat_turn t l x p s h) (λ y k. run t l packets y (treat t p s).state k)
  where
    behind : (a : Passes t l x p (treat t p s)) → Run t l a.row packets (treat_all t packets (treat t p s).state)
        → Run t l x (p ∷ packets) (treat_all t (p ∷ packets) s)
    behind a (inl r) = inl (runs_behind t l x p packets s a r)
    behind a (inr f) = inr (record {
      ending = f.ending;
      told = ending_append l (treat t p s).told (treat_all t packets (treat t p s).state).told
          ∙ (ap (λ o. option_or o (ending_in l (treat_all t packets (treat t p s).state).told))
          (alive_told l (OfLink t) s (treat t p s) a.row (treat_fate l t p s) (a.is, a.next.alive)) ∙ f.told);
      why = struck_behind t l x p packets s a f.ending f.why;
    })

    go : Turn t l x p (treat t p s)
        → ((y : Stream) → Here t l y (treat t p s).state → Run t l y packets
        (treat_all t packets (treat t p s).state))
        → Run t l x (p ∷ packets) (treat_all t (p ∷ packets) s)
    go (inl a) later = behind a (later a.row (record { is = a.is; alive = a.next.alive; on = a.next.link ∙ h.on; live = a.live }))
    go (inr f) later = inr (record {
      ending = f.ending;
      told = ending_append l (treat t p s).told (treat_all t packets (treat t p s).state).told
          ∙ ap (λ o. option_or o (ending_in l (treat_all t packets (treat t p s).state).told)) f.told;
      why = struck_first t l x p packets s f.ending f.why;
    })

-- ---- and the fault of the bytes behind them
abbrev pub Cutting : Type 0
Cutting = Cut PacketFormat Packet PacketFault

-- what the bytes that a link brings end
abbrev pub StruckBy : ℕ → Stream → Cutting → Ending → Type 0
StruckBy l x c ending = Struck l x c.given ending ⊎ ((ending ≡ Broken) × (is_some c.fault ≡ true))

pub record CutFell (l : ℕ) (x : Stream) (c : Cutting) (m : Made) : Type 0 where
  pub ending : Ending
  pub told : ending_in l m.told ≡ Some ending
  pub why : StruckBy l x c ending

abbrev pub CutRun : (t l : ℕ) → Stream → Cutting → Made → Type 0
CutRun t l x c m = (RunsOn t l x c.given m × (c.fault ≡ None)) ⊎ CutFell l x c m

module _ (t l : ℕ) (x : Stream) (s : State) (h : Here t l x s) (c : Cutting) where
  pub rested_here : Here t l x (to_link t (with_rest c.rest) s)
  rested_here = record {
    is = h.is;
    alive = h.alive;
    on = h.on;
    live = record { connected = h.live.connected; link = link (eqb t t) (s.links t) h.live.link; within = h.live.within };
  }
    where
      link : (b : Bool) (o : Option Link) → is_some o ≡ true → is_some (cond b (option_and_then (with_rest c.rest) o) o) ≡ true
      link b None e = absurd (let clash : false ≡ true = e in cc)
      link true (Some lk) e = refl
      link false (Some lk) e = refl

  pub cut_run : CutRun t l x c (receives_cut t c s)
  cut_run = go (run t l c.given x (to_link t (with_rest c.rest) s) rested_here)
    where
      m : Made
      m = treat_all t c.given (to_link t (with_rest c.rest) s)

      last : (r : RunsOn t l x c.given (treat_all t c.given (to_link t (with_rest c.rest) s))) (o : Option Link)
          (fault : Option PacketFault) → c.fault ≡ fault
          → is_some o ≡ true → CutRun t l x c (then_also m (λ s. faulty_on o t fault s))
      last r None fault is e = absurd (let clash : false ≡ true = e in cc)
      last r (Some lk) None is e = inl (
        record {
          row = r.row;
          is = r.is;
          alive = r.alive;
          link = r.link;
          live = r.live;
          not_close = r.not_close;
          not_lost = r.not_lost;
          not_broken = r.not_broken;
          in_turn = r.in_turn;
        },
        is,
      )
      last r (Some lk) (Some fault) is e =
          let quiet : ending_in l m.told ≡ None =
          alive_told l (OfLink t) (to_link t (with_rest c.rest) s) m r.row
          (treat_all_fate l t c.given (to_link t (with_rest c.rest) s)) (r.is, r.alive) in
          let here : Here t l r.row m.state = record { is = r.is; alive = r.alive; on = r.link ∙ h.on; live = r.live } in
          inr (record {
            ending = Broken;
            told = ending_append l m.told (link_ends t Broken m.state).told
                ∙ (ap (λ o. option_or o (ending_in l (link_ends t Broken m.state).told)) quiet
                ∙ link_ends_told t l r.row m.state here Broken);
            why = inr (refl, ap is_some is);
          })

      go : Run t l x c.given (treat_all t c.given (to_link t (with_rest c.rest) s)) → CutRun t l x c (receives_cut t c s)
      go (inl r) = last r (m.state.links t) c.fault refl r.live.link
      go (inr f) = inr (record {
        ending = f.ending;
        told = ending_append l m.told (faulty t c.fault m.state).told
            ∙ ap (λ o. option_or o (ending_in l (faulty t c.fault m.state).told)) f.told;
        why = inl f.why;
      })
