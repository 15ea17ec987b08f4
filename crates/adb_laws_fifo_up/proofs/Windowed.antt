-- In every legal history what went up a stream fits within what its device allowed.
use Rattle.std.proofs.Common.{◌≡◌, ◌≢◌, ℕ, ◌<◌, ◌≤◌, Bool, true, false, cond, not, List, [], ◌∷◌, ◌++◌, length, drop, Option, Some, None}
use Rattle.std.proofs.Common.{refl}
use Rattle.std.proofs.Common.{sym, ap, subst, ◌∙◌, arith, ◌⊎◌, inl, inr, eqb}
use Rattle.std.specs.Prelude.{◌&&◌}
use Rattle.std.proofs.lemmas.Bool.{eq-eqb, ne_eqb, cases_eq}
use Rattle.std.proofs.lemmas.List.{append-nil, length-append, drop-append-le}
use Rattle.adb_outside.specs.Framing.{Cut}
use Rattle.adb_outside.proofs.FramingLaws.{cut_piece, fault_stays}
use Rattle.adb_stream.specs.declared.row.Stream.{Stream}
use Rattle.adb_wire.specs.Cutting.{cut_packets, framed}
use Rattle.adb_wire.specs.Format.{front_of, packet_of, format_after}
use Rattle.adb_wire.specs.FormatLaws.{packets_are_framed}
use Rattle.adb_wire.specs.declared.packets.Packet.{Packet}
use Rattle.adb_wire.specs.declared.format.PacketFault.{PacketFault}
use Rattle.adb_wire.specs.declared.format.PacketFormat.{PacketFormat}
use Rattle.adb_client.specs.declared.phase.Phase.{Phase}
use Rattle.adb_client.specs.declared.phase.Phase.TheVariants.{Asking, Opening, Streaming}
use Rattle.adb_capture.specs.declared.entry.Entry.{Entry}
use Rattle.adb_capture.specs.declared.entry.Entry.TheVariants.{Join, Enter, Read, Recv}
use Rattle.adb_history.specs.Rows.{Client, Link, State, new_client, to_client}
use Rattle.adb_history.specs.Events.{Made, Event}
use Rattle.adb_history.specs.Packets.{receives_on}
use Rattle.adb_history.specs.Reading.{comes, comes_in_vain}
use Rattle.adb_history.specs.Machine.{rule, ups, History, state, told, IsLegal}
use Rattle.adb_history.specs.Bytes.{is_lost, bytes_received, brought}
use Rattle.adb_history.specs.Births.{Birth, born, since, remote_of, remote_in, opening_in}
use Rattle.adb_history.specs.Fifo.{HasBirths}
use Rattle.adb_history.specs.Moves.{After}
use Rattle.adb_history.proofs.Following.{after_quietly, after_then, changed_here, changed_other}
use Rattle.adb_history.proofs.LinkMoves.{all_linked}
use Rattle.adb_history.proofs.Received.{ReadTie, ReadsAs, received, framed_piece}
use Rattle.adb_laws_fifo_up.specs.Seen.{Seen, seen, seen_in, Sees, IsOf}
use Rattle.adb_laws_fifo_up.specs.Climbing.{may_send}
use Rattle.adb_laws_births.proofs.Born.{all_births}
use Rattle.adb_laws_fifo_up.proofs.Seeing.{seen_phase}
use Rattle.adb_laws_fifo_up.proofs.BirthSteps.{IsNew, born_before, born_by, born_drawn, new_above}
use Rattle.adb_laws_fifo_up.proofs.Shutting.{no_writes}
use Rattle.adb_laws_fifo_up.proofs.StreamClimbs.{up_all_climbs}
use Rattle.adb_laws_fifo_up.proofs.RuleClimbs.{ReadsIn, ReadsOf, Begins, step_climbs}
use Rattle.adb_laws_fifo_up.proofs.Starts.{Starts, starts_climbs}
use Rattle.adb_laws_fifo_up.proofs.Born.{begins_enter, begins_read, rest_read}
use Rattle.adb_laws_fifo_up.proofs.Fits.{used, RoomAt, IsRoom, Fits, rows_fit, fits_climbs}
use Rattle.adb_laws_fifo_up.proofs.FitsPackets.{cut_fits, cut_other, gone_link}

-- ---- what a link brought grows
abbrev Cutting : Type 0
Cutting = Cut PacketFormat Packet PacketFault

given_more : (x y : List ℕ) → (others : List Packet) × ((framed (x ++ y)).given ≡ (framed x).given ++ others)
given_more x y = go (framed x).fault refl
  where
    item : PacketFormat → List ℕ → Packet
    item format frame = packet_of frame

    after : PacketFormat → List ℕ → PacketFormat
    after format frame = format_after format (packet_of frame)

    go : (fault : Option PacketFault) → (framed x).fault ≡ fault
        → (others : List Packet) × ((framed (x ++ y)).given ≡ (framed x).given ++ others)
    go None e = (
      (cut_packets (framed x).reading ((framed x).rest ++ y)).given,
      ap (λ (c : Cutting). c.given)
          (cut_piece front_of (λ _ frame. packet_of frame) (λ format frame. format_after format (packet_of frame))
          packets_are_framed
          (length x) (record { sums = false }) x y (omega arith) e),
    )
    go (Some fault) e = (
      [],
      (fault_stays front_of (λ _ frame. packet_of frame) (λ format frame. format_after format (packet_of frame)) packets_are_framed
          (length x) (record { sums = false }) x y fault (omega arith) e).0 ∙ sym (append-nil (framed x).given),
    )

-- an entry by which a link brings nothing
abbrev BringsNone : ℕ → Entry → Type 0
BringsNone t (Recv n bytes) = n ≢ t
BringsNone t _ = Unit {0}

brings_none : (t : ℕ) (e : Entry) (older : History) → BringsNone t e → bytes_received t (e ∷ older) ≡ bytes_received t older
brings_none t (Recv n bytes) older apart =
    ap (λ (b : Bool). cond (b && not (is_lost t older)) (bytes_received t older ++ bytes) (bytes_received t older)) (ne_eqb n t apart)
brings_none t _ older h = refl

received_here : (t : ℕ) (bytes : List ℕ) (older : History)
    → bytes_received t (Recv t bytes ∷ older) ≡ cond (not (is_lost t older)) (bytes_received t older ++ bytes) (bytes_received t older)
received_here t bytes older =
    ap (λ (b : Bool). cond (b && not (is_lost t older)) (bytes_received t older ++ bytes) (bytes_received t older)) (eq-eqb t t refl)

brings_some : (t : ℕ) (bytes : List ℕ) (older : History) → (others : List Packet)
    × (brought t (Recv t bytes ∷ older) ≡ brought t older ++ others)
brings_some t bytes older = go (not (is_lost t older)) (ap (λ x. (framed x).given) (received_here t bytes older))
  where
    go : (b : Bool) → brought t (Recv t bytes ∷ older) ≡ (framed (cond b (bytes_received t older ++ bytes) (bytes_received t older))).given
        → (others : List Packet) × (brought t (Recv t bytes ∷ older) ≡ brought t older ++ others)
    go true e = (let more = given_more (bytes_received t older) bytes in (more.0, e ∙ more.1))
    go false e = ([], e ∙ sym (append-nil (brought t older)))

-- a link that lives brings what its bytes are cut to
brings_cut : (t : ℕ) (bytes : List ℕ) (older : History) (legal : IsLegal older) (link : Link) → (state older).links t ≡ Some link
    → brought t (Recv t bytes ∷ older) ≡ brought t older ++ (cut_packets (record { sums = link.sums }) (link.rest ++ bytes)).given
brings_cut t bytes older legal link is =
    ap (λ x. (framed x).given)
    (received_here t bytes older
    ∙ ap (λ (b : Bool). cond (not b) (bytes_received t older ++ bytes) (bytes_received t older)) tie.1)
    ∙ ap (λ (c : Cutting). c.given) (framed_piece (bytes_received t older) bytes link tie.0)
  where
    tie : ReadsAs (bytes_received t older) link × (is_lost t older ≡ false)
    tie = subst (λ (o : Option Link). ReadTie (is_lost t older) o (bytes_received t older)) is ((received older legal).links t)

-- ---- what is to be shown before a rule
module _ (l t : ℕ) (credit : Bool) (ps : List Packet) (s : State) (w : List Event) (h : Fits l t credit ps s w) where
  asking_new : (forwarded : Bool) (c : ℕ) (n : ℕ) (v : Seen) → Sees ((comes forwarded c s).clients n) v → v.phase ≡ Streaming l
      → (u : Seen) × Sees (s.clients n) u × (u.phase ≡ Streaming l)
  asking_new forwarded c n v see phase = go (eqb c n) see
    where
      not_asking : Asking ≡ Streaming l → ⊥
      not_asking e = cc

      go : (b : Bool) → Sees (cond b (Some (new_client forwarded c)) (s.clients n)) v
          → (u : Seen) × Sees (s.clients n) u × (u.phase ≡ Streaming l)
      go true f = absurd (not_asking (sym (seen_phase Asking [] v f).0 ∙ phase))
      go false f = (v, f, phase)

  -- a client that keeps its phase
  kept_phase : (c : ℕ) (f : Client → Option Client) (x y : Client) → s.clients c ≡ Some x → f x ≡ Some y → y.about.phase ≡ x.about.phase
      → Fits l t credit ps (to_client c f s) w
  kept_phase c f x y here now same = rows_fit l t credit ps s (to_client c f s) w refl refl
      (λ n v see phase. before n v see phase (cases_eq c n)) h
    where
      open_seen : (phase : Phase) → phase ≡ Streaming l → seen_in phase x.held ≡ Some (record { phase = Streaming l; held = x.held })
      open_seen phase e = ap (λ (p : Phase). seen_in p x.held) e

      before : (n : ℕ) (v : Seen) → Sees ((to_client c f s).clients n) v → v.phase ≡ Streaming l → (c ≡ n) ⊎ (c ≡ n → ⊥)
          → (u : Seen) × Sees (s.clients n) u × (u.phase ≡ Streaming l)
      before n v see phase (inl is) =
          let row : (to_client c f s).clients n ≡ Some y = ap (to_client c f s).clients (sym is)
          ∙ (changed_here c f s.clients x here ∙ now) in
          let own = (seen_phase y.about.phase y.held v (subst (λ (o : Option Client). Sees o v) row see)).0 in (
            record { phase = Streaming l; held = x.held },
            ap (λ (k : ℕ). seen (s.clients k)) (sym is) ∙ (ap seen here ∙ open_seen x.about.phase (sym same ∙ (sym own ∙ phase))),
            refl,
          )
      before n v see phase (inr apart) = (v, subst (λ (o : Option Client). Sees o v) (changed_other c n f s.clients apart) see, phase)

  reads_in : (phase : Phase) (c : ℕ) (bytes : List ℕ) (x : Client) → s.clients c ≡ Some x
      → ReadsIn (fits_climbs l t credit ps) s w phase c bytes x
  reads_in Asking c bytes x here = kept_phase c _ x _ here refl refl
  reads_in (Opening k) c bytes x here = kept_phase c _ x _ here refl refl
  reads_in (Streaming k) c bytes x here = kept_phase c _ x _ here refl refl
  reads_in _ c bytes x here = h

  reads_of : (o : Option Client) (c : ℕ) (bytes : List ℕ) → s.clients c ≡ o → ReadsOf (fits_climbs l t credit ps) s w o c bytes
  reads_of None c bytes is = h
  reads_of (Some x) c bytes is = reads_in x.about.phase c bytes x is

-- an entry by which no link brings anything
abbrev IsNoRecv : Entry → Type 0
IsNoRecv (Recv n bytes) = ⊥
IsNoRecv _ = Unit {0}

module _ (l t : ℕ) (credit : Bool) (ps : List Packet) (s : State) (w : List Event) (h : Fits l t credit ps s w) where
  begins : (e : Entry) → IsNoRecv e → Begins (fits_climbs l t credit ps) e s w
  begins (Join c) none = rows_fit l t credit ps s (comes false c s) w refl refl (asking_new l t credit ps s w h false c) h
  begins (Enter c port) none = (
    rows_fit l t credit ps s (comes true c s) w refl refl (asking_new l t credit ps s w h true c) h,
    rows_fit l t credit ps s (comes_in_vain s) w refl refl (λ n v see phase. (v, see, phase)) h,
  )
  begins (Read c bytes) none = reads_of l t credit ps s w h (s.clients c) c bytes refl
  begins (Recv n bytes) none = absurd none
  begins _ none = h

-- ---- all histories
pub record IsFit (l : ℕ) (b : Birth) (h : History) : Type 0 where
  pub before : b.packets_before ≤ length (brought b.link h)
  pub fits : Fits l b.link b.credit (since b h) (state h) (told h)

module _ (l : ℕ) (b : Birth) (older : History) (h : IsFit l b older) (some : 0 < l) where
  -- the packets since the birth
  since_more : (e : Entry) (qs : List Packet) → brought b.link (e ∷ older) ≡ brought b.link older ++ qs
      → since b (e ∷ older) ≡ since b older ++ qs
  since_more e qs is = ap (drop b.packets_before) is ∙ drop-append-le b.packets_before (brought b.link older) qs h.before

  fit_with : (e : Entry) (qs : List Packet) → brought b.link (e ∷ older) ≡ brought b.link older ++ qs
      → Fits l b.link b.credit (since b older ++ qs) (state (e ∷ older)) (told (e ∷ older)) → IsFit l b (e ∷ older)
  fit_with e qs is fits = record {
    before = omega (arith, h.before, ap length is, length-append (brought b.link older) qs);
    fits = subst (λ (ps : List Packet). Fits l b.link b.credit ps (state (e ∷ older)) (told (e ∷ older))) (sym (since_more e qs is)) fits;
  }

  -- nothing is brought
  fit_same : (e : Entry) → BringsNone b.link e → Fits l b.link b.credit (since b older) (state (e ∷ older))
      (told (e ∷ older)) → IsFit l b (e ∷ older)
  fit_same e none fits =
      fit_with e [] (ap (λ x. (framed x).given) (brings_none b.link e older none) ∙ sym (append-nil (brought b.link older)))
      (subst (λ (ps : List Packet). Fits l b.link b.credit ps (state (e ∷ older)) (told (e ∷ older)))
      (sym (append-nil (since b older))) fits)

  -- behind the rule comes the up rule
  with_ups : (e : Entry) (ps : List Packet) → After (Fits l b.link b.credit ps) (told older) (rule e (state older))
      → Fits l b.link b.credit ps (state (e ∷ older)) (told (e ∷ older))
  with_ups e ps ruled =
      let m : Made = rule e (state older) in
      after_then (Fits l b.link b.credit ps) (told older) m ups ruled
      (λ v now. up_all_climbs (fits_climbs l b.link b.credit ps) m.state v now m.state.drawn)

  recv_other : (n : ℕ) (bytes : List ℕ) → n ≢ b.link → IsFit l b (Recv n bytes ∷ older)
  recv_other n bytes apart = fit_same (Recv n bytes) apart (with_ups (Recv n bytes) (since b older) (go ((state older).links n)))
    where
      go : (o : Option Link) → After (Fits l b.link b.credit (since b older)) (told older) (receives_on o n bytes (state older))
      go None = after_quietly (Fits l b.link b.credit (since b older)) (told older) (state older) h.fits
      go (Some link) = cut_other l b.link b.credit some n (cut_packets (record { sums = link.sums }) (link.rest ++ bytes)) (since b older)
          (state older) (told older) apart h.fits

  recv_own : (bytes : List ℕ) → IsLegal older → IsFit l b (Recv b.link bytes ∷ older)
  recv_own bytes legal = go ((state older).links b.link) refl
    where
      to_rule : (o : Option Link) → (state older).links b.link ≡ o → (ps : List Packet)
          → After (Fits l b.link b.credit ps) (told older) (receives_on o b.link bytes (state older))
          → After (Fits l b.link b.credit ps) (told older) (rule (Recv b.link bytes) (state older))
      to_rule o is ps now =
          subst (λ (x : Option Link). After (Fits l b.link b.credit ps) (told older)
          (receives_on x b.link bytes (state older))) (sym is) now

      go : (o : Option Link) → (state older).links b.link ≡ o → IsFit l b (Recv b.link bytes ∷ older)
      go None is =
          let more = brings_some b.link bytes older in
          let ps : List Packet = since b older ++ more.0 in
          fit_with (Recv b.link bytes) more.0 more.1 (with_ups (Recv b.link bytes) ps (to_rule None is ps
          (after_quietly (Fits l b.link b.credit ps) (told older) (state older)
          (gone_link l b.link b.credit some more.0 (since b older) (state older) (told older) (all_linked older legal) is h.fits))))
      go (Some link) is =
          let c : Cutting = cut_packets (record { sums = link.sums }) (link.rest ++ bytes) in
          let ps : List Packet = since b older ++ c.given in
          fit_with (Recv b.link bytes) c.given (brings_cut b.link bytes older legal link is)
          (with_ups (Recv b.link bytes) ps (to_rule (Some link) is ps
          (cut_fits l b.link b.credit some c (since b older) (state older) (told older) (all_linked older legal) h.fits)))

  recv_fits : (n : ℕ) (bytes : List ℕ) → IsLegal older → IsFit l b (Recv n bytes ∷ older)
  recv_fits n bytes legal = go (cases_eq n b.link)
    where
      go : (n ≡ b.link) ⊎ (n ≡ b.link → ⊥) → IsFit l b (Recv n bytes ∷ older)
      go (inl same) = subst (λ (k : ℕ). IsFit l b (Recv k bytes ∷ older)) (sym same) (recv_own bytes legal)
      go (inr apart) = recv_other n bytes apart

  stepped : (e : Entry) → IsNoRecv e → Fits l b.link b.credit (since b older) (state (e ∷ older)) (told (e ∷ older))
  stepped e none = step_climbs (fits_climbs l b.link b.credit (since b older)) e (state older) (told older)
      (begins l b.link b.credit (since b older) (state older) (told older) h.fits e none)

  old_fits : (e : Entry) → IsLegal older → IsFit l b (e ∷ older)
  old_fits (Recv n bytes) legal = recv_fits n bytes legal
  old_fits e legal = fit_same e tt (stepped e tt)

-- ---- a stream that is born
drop_all : (xs : List Packet) → drop (length xs) xs ≡ []
drop_all [] = refl
drop_all (x ∷ xs) = drop_all xs

module _ (l : ℕ) (b : Birth) (e : Entry) (older : History) (has : HasBirths (e ∷ older)) (is : born l (e ∷ older) ≡ Some b) where
  -- no packet came since its birth
  born_fits : BringsNone b.link e → b.packets_before ≡ length (brought b.link older) → (c : ℕ) (rest : List ℕ)
      → Starts l c rest (state (e ∷ older)) (told (e ∷ older)) → IsFit l b (e ∷ older)
  born_fits none before c rest h = record {
    before = omega (arith, before, ap length same);
    fits = subst (λ (ps : List Packet). Fits l b.link b.credit ps (state (e ∷ older)) (told (e ∷ older))) (sym nothing) (record {
      born = (born_drawn l b (e ∷ older) has is).1;
      within = omega (arith, unused b.credit);
      row = row;
      open_row = λ n v see phase y f. absurd (waits v phase (h.waits n v see (subst (IsOf l) (sym phase) refl)).0);
      done = λ f. absurd (h.not_closed f);
    });
  }
    where
      same : brought b.link (e ∷ older) ≡ brought b.link older
      same = ap (λ x. (framed x).given) (brings_none b.link e older none)

      nothing : since b (e ∷ older) ≡ []
      nothing = ap (drop b.packets_before) same ∙ (ap (λ n. drop n (brought b.link older)) before ∙ drop_all (brought b.link older))

      unused : (credit : Bool) → used credit b.link l (told (e ∷ older)) ≡ 0
      unused false = (no_writes b.link l (told (e ∷ older)) h.dry).0
      unused true = ap length (no_writes b.link l (told (e ∷ older)) h.dry).1

      waits : (v : Seen) → v.phase ≡ Streaming l → v.phase ≡ Opening l → ⊥
      waits v open_now asked = (let clash : Streaming l ≡ Opening l = sym open_now ∙ asked in cc)

      row : (y : Stream) → (state (e ∷ older)).streams l ≡ Some y
          → IsRoom b.link l b.credit [] (used b.credit b.link l (told (e ∷ older))) y
      row y there =
          let kept = has.kept l y there in
          let own : kept.birth ≡ b = (let both : Some kept.birth ≡ Some b = sym kept.is ∙ is in cc) in
          let remote : y.part.remote ≡ 0 = kept.remote
          ∙ (ap (λ (x : Birth). remote_of l x (e ∷ older)) own
          ∙ ap (λ (ps : List Packet). remote_in (opening_in l ps)) nothing) in
          record {
            link = kept.link ∙ ap (λ (x : Birth). x.link) own;
            flow = kept.credit ∙ ap (λ (x : Birth). x.credit) own;
            room = subst (λ (n : ℕ). RoomAt b.credit l [] (used b.credit b.link l (told (e ∷ older))) (may_send y.part.flow) n)
                (sym remote) (λ qs. refl, unused b.credit);
          }

new_fits : (l : ℕ) (b : Birth) (e : Entry) (older : History) → IsLegal (e ∷ older)
    → HasBirths older × HasBirths (e ∷ older) → born l (e ∷ older) ≡ Some b
    → IsNew l b e older → IsFit l b (e ∷ older)
new_fits l b (Enter c port) older legal has is new =
    let by = born_by (Enter c port) older b new.now in
    let above = new_above l b (Enter c port) older has.0 new in
    born_fits l b (Enter c port) older has.1 is tt by.2 c []
    (step_climbs (starts_climbs l c []) (Enter c port) (state older) (told older) (begins_enter l c port older legal.0 above legal.2))
new_fits l b (Read c bytes) older legal has is new =
    let by = born_by (Read c bytes) older b new.now in
    let above = new_above l b (Read c bytes) older has.0 new in
    let rest = rest_read c bytes older legal.0 legal.2.0 b new.now in
    born_fits l b (Read c bytes) older has.1 is tt by.2 c rest
    (step_climbs (starts_climbs l c rest) (Read c bytes) (state older) (told older)
    (begins_read c bytes older legal.0 legal.2.0 b new.now l above))
new_fits l b e older legal has is new = absurd (born_by e older b new.now)

pub all_fit : (h : History) → IsLegal h → (l : ℕ) (b : Birth) → born l h ≡ Some b → IsFit l b h
all_fit [] legal l b is = absurd (let drawn = born_drawn l b [] (all_births [] legal) is in omega (arith, drawn.0, drawn.1))
all_fit (e ∷ older) legal l b is = go (born_before l b e older is) (λ was. all_fit older legal.0 l b was)
  where
    go : (born l older ≡ Some b) ⊎ IsNew l b e older → (born l older ≡ Some b → IsFit l b older) → IsFit l b (e ∷ older)
    go (inl was) before = old_fits l b older (before was) (born_drawn l b older (all_births older legal.0) was).0 e legal.0
    go (inr new) before = new_fits l b e older legal (all_births older legal.0, all_births (e ∷ older) legal) is new
