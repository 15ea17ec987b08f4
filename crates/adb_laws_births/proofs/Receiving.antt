-- Bytes of a link: what the streams hear by them.
use Rattle.std.proofs.Common.{◌≡◌, ◌≢◌, ℕ, Bool, true, false, cond, List, [], ◌∷◌, ◌++◌, Option, Some, None, refl, sym, ap, subst, ◌∙◌}
use Rattle.std.specs.Prelude.{not, ◌&&◌, is_some}
use Rattle.std.proofs.lemmas.Bool.{eq-eqb, ne_eqb}
use Rattle.std.proofs.lemmas.List.{append-nil}
use Rattle.adb_outside.specs.Tables.{Rows, at}
use Rattle.adb_outside.specs.Framing.{Cut}
use Rattle.adb_wire.specs.Cutting.{cut_packets, framed}
use Rattle.adb_wire.specs.declared.packets.Packet.{Packet}
use Rattle.adb_wire.specs.declared.format.PacketFault.{PacketFault}
use Rattle.adb_wire.specs.declared.format.PacketFormat.{PacketFormat}
use Rattle.adb_stream.specs.declared.row.Stream.{Stream}
use Rattle.adb_capture.specs.declared.entry.Entry.TheVariants.{Recv}
use Rattle.adb_history.specs.Rows.{Link, State, to_link}
use Rattle.adb_history.specs.Events.{Made}
use Rattle.adb_history.specs.Links.{is_connected}
use Rattle.adb_history.specs.Packets.{treat, treat_all, faulty, with_rest, receives_cut}
use Rattle.adb_history.specs.Machine.{History, state, IsLegal}
use Rattle.adb_history.specs.Bytes.{is_lost, bytes_received, brought}
use Rattle.adb_history.specs.Linked.{IsLinked}
use Rattle.adb_history.specs.Moves.{serves}
use Rattle.adb_history.proofs.PacketMoves.{treat_on_kept}
use Rattle.adb_history.proofs.LinkMoves.{linked_moves, all_linked}
use Rattle.adb_history.proofs.OutputEntries.{connected_is}
use Rattle.adb_history.proofs.Received.{ReadTie, framed_piece, received}
use Rattle.adb_laws_births.specs.Going.{GoOn}
use Rattle.adb_laws_births.specs.Hearing.{AllHear}
use Rattle.adb_laws_births.proofs.Going.{go_on_same}
use Rattle.adb_laws_births.proofs.GoingRules.{goes_faulty}
use Rattle.adb_laws_births.proofs.Treating.{hear_going, hear_then, treats}

abbrev Cutting : Type 0
Cutting = Cut PacketFormat Packet PacketFault

-- what was heard, and then a rule by which nothing is
pub hear_on : (t : ℕ) (ps : List Packet) (x y z : Rows (Option Stream)) → AllHear t ps x y → GoOn y z → AllHear t ps x z
hear_on t ps x y z h go =
    subst (λ (qs : List Packet). AllHear t qs x z) (append-nil ps) (hear_then t ps [] x y z h (hear_going t y z go))

-- ---- the packets of a link
pub treated_linked : (t : ℕ) (p : Packet) (s : State) → IsLinked s → IsLinked (treat t p s).state
treated_linked t p s h = treat_on_kept (serves linked_moves) s [] h (s.links t) t p

pub all_treated : (t : ℕ) (ps : List Packet) (s : State) → IsLinked s → AllHear t ps s.streams (treat_all t ps s).state.streams
all_treated t [] s h = hear_going t s.streams s.streams (go_on_same s.streams)
all_treated t (p ∷ ps) s h =
    let first : Made = treat t p s in
    hear_then t (p ∷ []) ps s.streams first.state.streams (treat_all t ps first.state).state.streams (treats t p s h).hear
    (all_treated t ps first.state (treated_linked t p s h))

pub all_treated_drawn : (t : ℕ) (ps : List Packet) (s : State) → IsLinked s → (treat_all t ps s).state.drawn ≡ s.drawn
all_treated_drawn t [] s h = refl
all_treated_drawn t (p ∷ ps) s h =
    all_treated_drawn t ps (treat t p s).state (treated_linked t p s h) ∙ (treats t p s h).drawn_is

-- ---- what a link brought
module _ (older : History) (legal : IsLegal older) (t : ℕ) (bytes : List ℕ) where
  abbrev s : State
  s = state older

  pub brought_other : (k : ℕ) → t ≢ k → brought k (Recv t bytes ∷ older) ≡ brought k older
  brought_other k apart =
      ap (λ (b : Bool).
      (framed (cond (b && not (is_lost k older)) (bytes_received k older ++ bytes) (bytes_received k older))).given)
      (ne_eqb t k apart)

  -- what the bytes of a link that lives are cut to
  abbrev pub cut_now : Link → Cutting
  cut_now link = cut_packets (record { sums = link.sums }) (link.rest ++ bytes)

  pub brought_more : (link : Link) → s.links t ≡ Some link → brought t (Recv t bytes ∷ older) ≡ brought t older ++ (cut_now link).given
  brought_more link is =
      let tie : ReadTie (is_lost t older) (Some link) (bytes_received t older) =
      subst (λ (o : Option Link). ReadTie (is_lost t older) o (bytes_received t older)) is ((received older legal).links t) in
      ap (λ (b : Bool).
      (framed (cond (b && not (is_lost t older)) (bytes_received t older ++ bytes)
      (bytes_received t older))).given) (eq-eqb t t refl)
      ∙ (ap (λ (b : Bool). (framed (cond (not b) (bytes_received t older ++ bytes) (bytes_received t older))).given) tie.1
      ∙ ap (λ (c : Cutting). c.given) (framed_piece (bytes_received t older) bytes link tie.0))

  linked : IsLinked s
  linked = all_linked older legal

  -- a link of a stream lives
  pub none_on : s.links t ≡ None → (l : ℕ) (stream : Stream) → s.streams l ≡ Some stream → stream.link ≢ t
  none_on none l stream is on =
      let connected : is_connected t s.devices ≡ true = ap (λ (n : ℕ). is_connected n s.devices) (sym on)
      ∙ (linked.on l stream is).connected in
      let some : is_some (s.links t) ≡ true = linked.rows.linked t ∙ connected_is (at t s.devices.rows) connected in
      let clash : true ≡ false = sym some ∙ ap is_some none in
      cc

  -- the state in which the packets of the bytes are treated
  abbrev pub rested : Link → State
  rested link = to_link t (with_rest (cut_now link).rest) s

  pub rested_linked : (link : Link) → IsLinked (rested link)
  rested_linked link = linked_moves.links t (λ x. record x { rest = (cut_now link).rest }) s [] linked

  pub hears_cut : (link : Link) → AllHear t (cut_now link).given s.streams (receives_cut t (cut_now link) s).state.streams
  hears_cut link =
      let c : Cutting = cut_now link in
      let treated : Made = treat_all t c.given (rested link) in
      hear_on t c.given s.streams treated.state.streams (faulty t c.fault treated.state).state.streams
      (all_treated t c.given (rested link) (rested_linked link))
      (goes_faulty (treated.state.links t) t c.fault treated.state).rows

  pub cut_drawn : (link : Link) → (receives_cut t (cut_now link) s).state.drawn ≡ s.drawn
  cut_drawn link =
      let c : Cutting = cut_now link in
      let treated : Made = treat_all t c.given (rested link) in
      (goes_faulty (treated.state.links t) t c.fault treated.state).drawn_is
      ∙ all_treated_drawn t c.given (rested link) (rested_linked link)
