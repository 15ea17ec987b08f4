-- Bytes are received: a stream and its client are as the packets of its link say.
use Rattle.std.proofs.Common.{◌≡◌, ◌≢◌, ℕ, ◌+◌, Bool, true, false, List, [], ◌∷◌, ◌++◌, Option, Some, None, is_some, refl, sym, ap, subst}
use Rattle.std.proofs.Common.{◌∙◌, append_assoc}
use Rattle.std.proofs.Common.{inl, inr, ◌⊎◌}
use Rattle.std.proofs.lemmas.Bool.{cases_eq}
use Rattle.std.proofs.lemmas.List.{append-nil}
use Rattle.adb_outside.specs.Framing.{Cut}
use Rattle.adb_wire.specs.Cutting.{cut_packets}
use Rattle.adb_wire.specs.declared.command.Command.{Command}
use Rattle.adb_wire.specs.declared.command.Command.TheVariants.{Cnxn, Open, Okay, Wrte, Clse, Auth, Stls}
use Rattle.adb_wire.specs.declared.packets.Packet.{Packet}
use Rattle.adb_wire.specs.declared.format.PacketFault.{PacketFault}
use Rattle.adb_wire.specs.declared.format.PacketFormat.{PacketFormat}
use Rattle.adb_stream.specs.declared.row.Stream.{Stream}
use Rattle.adb_history.specs.Rows.{Link, State, to_link}
use Rattle.adb_history.specs.Events.{Made, Event, quietly, owed_to}
use Rattle.adb_history.specs.Packets.{treat, treat_all, faulty, with_rest, receives_cut, receives_on, receives}
use Rattle.adb_history.specs.Births.{opening_in, remote_in}
use Rattle.adb_history.specs.Moves.{After, serves}
use Rattle.adb_history.specs.Linked.{IsLinked}
use Rattle.adb_history.proofs.Following.{after_quietly, after_then}
use Rattle.adb_history.proofs.LinkMoves.{linked_moves}
use Rattle.adb_history.specs.Turns.{Allows, serving}
use Rattle.adb_laws_answered.specs.Shown.{aside, Seen, seen, sealed_in, SaysNothing, Subject, WillNotOpen, ShownOut, IsShown}
use Rattle.adb_history.proofs.PacketMoves.{treat_on_kept, faulty_kept}
use Rattle.adb_laws_answered.proofs.Openings.{remote_sealed, seen_nothing}
use Rattle.adb_laws_answered.proofs.ShownRules.{shown_turns}
use Rattle.adb_laws_answered.proofs.ShownPackets.{seen_on, gone_reason, allows_by, other, allowed_kept, okay_here, okay_none, okay_apart}
use Rattle.adb_laws_answered.proofs.ShownCloses.{waiting_none, close_none, close_apart, close_here, cnxn_here}

-- links and streams fit together, packet after packet
linked_packet : (t : ℕ) (p : Packet) (s : State) → IsLinked s → IsLinked (treat t p s).state
linked_packet t p s h =
    treat_on_kept (serves linked_moves) s [] h (s.links t) t p

module _ (x : Subject) where
  -- by whether its client heard that it is open
  abbrev pub ShownSo : List Packet → State → List Event → Type 0
  ShownSo ps s w = (heard : Bool) × IsShown heard x (seen x.stream ps) s w

  -- ---- packets of its link
  module _ (ps : List Packet) (p : Packet) (s : State) (w : List Event) (linked : IsLinked s) (heard : Bool)
      (h : IsShown heard x (seen x.stream ps) s w) where
    abbrev Next : Type 0
    Next = ShownSo (ps ++ p ∷ []) (treat x.link p s).state (w ++ (treat x.link p s).told)

    nothing_here : SaysNothing p.command x.stream p → Next
    nothing_here says = (
      heard,
      seen_on x heard (seen x.stream ps) (seen x.stream (ps ++ p ∷ [])) (treat x.link p s).state (w ++ (treat x.link p s).told)
          (seen_nothing x.stream ps p says) (allowed_kept x heard (seen x.stream ps) x.link p s w (allows_by x x.link p.command p says) h),
    )

    by_command : (c : Command) → p.command ≡ c → Next
    by_command Okay e = go (cases_eq p.arg1 x.stream)
      where
        go : (p.arg1 ≡ x.stream) ⊎ (p.arg1 ≡ x.stream → ⊥) → Next
        go (inl same) = okay_here x p e same ps s w linked heard h
        go (inr apart) = nothing_here (subst (λ (c : Command). SaysNothing c x.stream p) (sym e) apart)
    by_command Clse e = go (cases_eq p.arg1 x.stream)
      where
        go : (p.arg1 ≡ x.stream) ⊎ (p.arg1 ≡ x.stream → ⊥) → Next
        go (inl same) = (heard, close_here x p e same ps s w linked heard h)
        go (inr apart) = nothing_here (subst (λ (c : Command). SaysNothing c x.stream p) (sym e) apart)
    by_command Cnxn e = (heard, cnxn_here x p e ps s w linked heard h)
    by_command _ e = nothing_here (subst (λ (c : Command). SaysNothing c x.stream p) (sym e) tt)

    packet_here : Next
    packet_here = by_command p.command refl

  pub all_here : (packets ps : List Packet) (s : State) (w : List Event) → IsLinked s → ShownSo ps s w
      → ShownSo (ps ++ packets) (treat_all x.link packets s).state (w ++ (treat_all x.link packets s).told)
  all_here [] ps s w linked (heard, h) = (
    heard,
    subst (λ (qs : List Packet). IsShown heard x (seen x.stream qs) s (w ++ [])) (sym (append-nil ps))
        (after_quietly (λ s w. IsShown heard x (seen x.stream ps) s w) w s h),
  )
  all_here (p ∷ packets) ps s w linked (heard, h) =
      let m : Made = treat x.link p s in
      let first = packet_here ps p s w linked heard h in
      let rest = all_here packets (ps ++ p ∷ []) m.state (w ++ m.told) (linked_packet x.link p s linked) first in
      let later : Made = treat_all x.link packets m.state in (
        rest.0,
        subst (λ (qs : List Packet). IsShown rest.0 x (seen x.stream qs) later.state (w ++ (m.told ++ later.told)))
            (append_assoc ps (p ∷ []) packets)
            (subst (λ (v : List Event). IsShown rest.0 x (seen x.stream ((ps ++ p ∷ []) ++ packets)) later.state v)
            (append_assoc w m.told later.told) rest.1),
      )

  -- ---- packets of another link
  module _ (a : Seen) (t : ℕ) (apart : t ≢ x.link) (heard : Bool) where
    abbrev V : State → List Event → Type 0
    V s w = IsShown heard x a s w

    quiet_packet : (p : Packet) (s : State) (w : List Event) → treat t p s ≡ quietly s → V s w
        → V (treat t p s).state (w ++ (treat t p s).told)
    quiet_packet p s w is h = subst (λ (m : Made). V m.state (w ++ m.told)) (sym is) (after_quietly (λ s w. IsShown heard x a s w) w s h)

    named_apart : (p : Packet) (s : State) (w : List Event) → V s w → (s.streams x.stream ≡ None → treat t p s ≡ quietly s)
        → ((y : Stream) → s.streams x.stream ≡ Some y → y.link ≢ t → treat t p s ≡ quietly s)
        → V (treat t p s).state (w ++ (treat t p s).told)
    named_apart p s w h none some = go (s.streams x.stream) refl
      where
        go : (o : Option Stream) → s.streams x.stream ≡ o → V (treat t p s).state (w ++ (treat t p s).told)
        go None is = quiet_packet p s w (none is) h
        go (Some y) is = quiet_packet p s w (some y is (λ same. apart (sym same ∙ (h.own y is).link))) h

    by_apart : (p : Packet) (s : State) (w : List Event) → V s w → (c : Command) → p.command ≡ c
        → V (treat t p s).state (w ++ (treat t p s).told)
    by_apart p s w h Okay e = go (cases_eq p.arg1 x.stream)
      where
        go : (p.arg1 ≡ x.stream) ⊎ (p.arg1 ≡ x.stream → ⊥) → V (treat t p s).state (w ++ (treat t p s).told)
        go (inl same) = named_apart p s w h (okay_none x p e same (s.links t) t s) (okay_apart x p e same (s.links t) t s)
        go (inr off) = allowed_kept x heard a t p s w (subst (λ (c : Command). Allows (aside x) t c p) (sym e) (allows_by x t Okay p off)) h
    by_apart p s w h Clse e = go (cases_eq p.arg1 x.stream)
      where
        go : (p.arg1 ≡ x.stream) ⊎ (p.arg1 ≡ x.stream → ⊥) → V (treat t p s).state (w ++ (treat t p s).told)
        go (inl same) = named_apart p s w h (close_none x p e same (s.links t) t s) (close_apart x p e same (s.links t) t s)
        go (inr off) = allowed_kept x heard a t p s w (subst (λ (c : Command). Allows (aside x) t c p) (sym e) (allows_by x t Clse p off)) h
    by_apart p s w h Cnxn e = allowed_kept x heard a t p s w (subst (λ (c : Command). Allows (aside x) t c p) (sym e) (record {
      reaches = λ f. absurd (let clash : false ≡ true = f in cc);
      renews = λ f. apart;
      cuts = λ f same. absurd (apart same);
    })) h
    by_apart p s w h Open e = allowed_kept x heard a t p s w
        (subst (λ (c : Command). Allows (aside x) t c p) (sym e) (allows_by x t Open p tt)) h
    by_apart p s w h Wrte e = allowed_kept x heard a t p s w
        (subst (λ (c : Command). Allows (aside x) t c p) (sym e) (allows_by x t Wrte p tt)) h
    by_apart p s w h Auth e = allowed_kept x heard a t p s w
        (subst (λ (c : Command). Allows (aside x) t c p) (sym e) (allows_by x t Auth p tt)) h
    by_apart p s w h Stls e = allowed_kept x heard a t p s w
        (subst (λ (c : Command). Allows (aside x) t c p) (sym e) (allows_by x t Stls p tt)) h

    all_apart : (packets : List Packet) (s : State) (w : List Event) → V s w
        → After (λ s w. IsShown heard x a s w) w (treat_all t packets s)
    all_apart [] s w h = after_quietly (λ s w. IsShown heard x a s w) w s h
    all_apart (p ∷ packets) s w h = after_then (λ s w. IsShown heard x a s w) w (treat t p s) (treat_all t packets)
        (by_apart p s w h p.command refl)
        (λ v now. all_apart packets (treat t p s).state v now)

    cut_apart : (c : Cut PacketFormat Packet PacketFault) (s : State) (w : List Event) → V s w
        → After (λ s w. IsShown heard x a s w) w (receives_cut t c s)
    cut_apart c s w h =
        let taken : State = to_link t (with_rest c.rest) s in
        let turns = shown_turns heard x a (x.client + 1) (other x) in
        let m : Made = treat_all t c.given taken in
        after_then (λ s w. IsShown heard x a s w) w m (faulty t c.fault) (all_apart c.given taken w (turns.links t
        (λ link. record link { rest = c.rest }) s w h))
        (λ v now. faulty_kept (serving turns) m.state v now (m.state.links t) t c.fault (λ same. absurd (apart same)))

    pub receives_apart : (bytes : List ℕ) (s : State) (w : List Event) → V s w → After (λ s w. IsShown heard x a s w) w (receives t bytes s)
    receives_apart bytes s w h = go (s.links t)
      where
        go : (o : Option Link) → After (λ s w. IsShown heard x a s w) w (receives_on o t bytes s)
        go None = after_quietly (λ s w. IsShown heard x a s w) w s h
        go (Some link) = cut_apart (cut_packets (record { sums = link.sums }) (link.rest ++ bytes)) s w h

-- ---- a link that may be gone
pub allow_cut : (x : Subject) (heard : Bool) (a : Seen) (s : State) (w : List Event) → IsShown heard x a s w
    → IsShown heard (record x { cut = true }) a s w
allow_cut x heard a s w h = record {
  owned = h.owned;
  row = h.row;
  own = λ y is. (let was = h.own y is in
      record { client = was.client; link = was.link; remote = was.remote; pending = was.pending; may = was.may; orphan = was.orphan });
  drawn = h.drawn;
  out = out heard h.out;
}
  where
    by : WillNotOpen x a.sealed s → WillNotOpen (record x { cut = true }) a.sealed s
    by (inl sealed) = inl sealed
    by (inr (inl gone)) = inr (inl (refl, gone.1))
    by (inr (inr failed)) = inr (inr failed)

    out : (c : Bool) → ShownOut c x a s (owed_to x.client w) → ShownOut c (record x { cut = true }) a s (owed_to x.client w)
    out true o = record { bytes = o.bytes; out_is = o.out_is; may = o.may; told = o.told }
    out false o = record {
      closed = o.closed;
      out_is = o.out_is;
      waits = o.waits;
      gone = λ g. by (o.gone g);
      none = λ e. absurd (let clash : true ≡ false = e in cc);
    }

-- a link that lives is not gone
pub deny_cut : (x : Subject) (heard : Bool) (ps : List Packet) (s : State) (w : List Event) → is_some (s.links x.link) ≡ true
    → IsShown heard (record x { cut = true }) (seen x.stream ps) s w → IsShown heard (record x { cut = false }) (seen x.stream ps) s w
deny_cut x heard ps s w there h = record {
  owned = h.owned;
  row = h.row;
  own = λ y is. (let was = h.own y is in
      record { client = was.client; link = was.link; remote = was.remote; pending = was.pending; may = was.may; orphan = was.orphan });
  drawn = h.drawn;
  out = out heard h;
}
  where
    gone : s.links x.link ≡ None → ⊥
    gone none = let clash : true ≡ false = sym there ∙ ap is_some none in cc

    by : WillNotOpen (record x { cut = true }) (sealed_in x.stream ps) s → WillNotOpen (record x { cut = false }) (sealed_in x.stream ps) s
    by (inl sealed) = inl sealed
    by (inr (inl none)) = absurd (gone none.1)
    by (inr (inr failed)) = inr (inr failed)

    why : WillNotOpen (record x { cut = true }) (sealed_in x.stream ps) s → (remote_in (opening_in x.stream ps) ≡ 0) ⊎ (x.failed ≡ true)
    why (inl sealed) =
        inl (ap (λ (qs : List Packet). remote_in (opening_in x.stream qs)) (sym (append-nil ps)) ∙ remote_sealed x.stream ps [] sealed)
    why (inr (inl none)) = absurd (gone none.1)
    why (inr (inr failed)) = inr failed

    still : IsShown false (record x { cut = true }) (seen x.stream ps) s w → (o : Option Stream) → s.streams x.stream ≡ o
        → (remote_in (opening_in x.stream ps) ≡ 0) ⊎ (x.failed ≡ true)
    still h None is = why (gone_reason (record x { cut = true }) false (seen x.stream ps) s w is h refl)
    still h (Some y) is = inl (waiting_none (record x { cut = true }) ps s w y is h)

    out : (c : Bool) → IsShown c (record x { cut = true }) (seen x.stream ps) s w
        → ShownOut c (record x { cut = false }) (seen x.stream ps) s (owed_to x.client w)
    out true h = record { bytes = h.out.bytes; out_is = h.out.out_is; may = h.out.may; told = h.out.told }
    out false h = record {
      closed = h.out.closed;
      out_is = h.out.out_is;
      waits = h.out.waits;
      gone = λ g. by (h.out.gone g);
      none = λ e. still h (s.streams x.stream) refl;
    }

-- What a stream and its client are after bytes of its link: as the packets say; and who did not hear that it is open
-- was told no id, or failed.
pub record IsTreated (x : Subject) (ps : List Packet) (s : State) (w : List Event) : Type 0 where
  pub heard : Bool
  pub shown : IsShown heard (record x { cut = true }) (seen x.stream ps) s w
  pub none : heard ≡ false → (remote_in (opening_in x.stream ps) ≡ 0) ⊎ (x.failed ≡ true)

module _ (x : Subject) where
  none_of_shown : (heard : Bool) (a : Seen) (s : State) (w : List Event) → IsShown heard (record x { cut = false }) a s w → heard ≡ false
      → (a.remote ≡ 0) ⊎ (x.failed ≡ true)
  none_of_shown false a s w h e = h.out.none refl
  none_of_shown true a s w h e = absurd (let clash : true ≡ false = e in cc)

  pub receives_here : (bytes : List ℕ) (ps : List Packet) (link : Link) (s : State) (w : List Event) → IsLinked s
      → s.links x.link ≡ Some link
      → (heard : Bool) → IsShown heard (record x { cut = true }) (seen x.stream ps) s w
      → IsTreated x (ps ++ (cut_packets (record { sums = link.sums }) (link.rest ++ bytes)).given) (receives x.link bytes s).state
      (w ++ (receives x.link bytes s).told)
  receives_here bytes ps link s w linked is heard h =
      let c = cut_packets (record { sums = link.sums }) (link.rest ++ bytes) in
      let taken : State = to_link x.link (with_rest c.rest) s in
      let denied = deny_cut x heard ps s w (ap is_some is) h in
      let begun = (shown_turns heard (record x { cut = false }) (seen x.stream ps) (x.client + 1) (other x)).links x.link
      (λ l. record l { rest = c.rest }) s w denied in
      let m : Made = treat_all x.link c.given taken in
      let run = all_here (record x { cut = false }) c.given ps taken w
      (linked_moves.links x.link (λ l. record l { rest = c.rest }) s w linked)
      (heard, begun) in
      let allowed = allow_cut (record x { cut = false }) run.0 (seen x.stream (ps ++ c.given)) m.state (w ++ m.told) run.1 in
      let done = after_then (λ s w. IsShown run.0 (record x { cut = true }) (seen x.stream (ps ++ c.given)) s w) w m
      (faulty x.link c.fault) allowed
      (λ v now. faulty_kept
      (serving (shown_turns run.0 (record x { cut = true }) (seen x.stream (ps ++ c.given)) (x.client + 1)
      (other x))) m.state v now
      (m.state.links x.link) x.link c.fault (λ same. refl)) in
      record {
        heard = run.0;
        shown = subst (λ (m : Made). IsShown run.0 (record x { cut = true }) (seen x.stream (ps ++ c.given)) m.state (w ++ m.told))
            (sym (ap (λ (o : Option Link). receives_on o x.link bytes s) is)) done;
        none = none_of_shown run.0 (seen x.stream (ps ++ c.given)) m.state (w ++ m.told) run.1;
      }
