-- What is seen of a stream stays through the entries of other links.
use Rattle.std.proofs.Common.{ℕ, List, [], ◌∷◌, ◌++◌, Option, Some, None}
use Rattle.adb_outside.specs.Framing.{Cut}
use Rattle.adb_wire.specs.Cutting.{cut_packets}
use Rattle.adb_wire.specs.declared.packets.Packet.{Packet}
use Rattle.adb_wire.specs.declared.format.PacketFault.{PacketFault}
use Rattle.adb_wire.specs.declared.format.PacketFormat.{PacketFormat}
use Rattle.adb_history.specs.Rows.{Link, State, to_link}
use Rattle.adb_history.specs.Events.{Made, Event}
use Rattle.adb_history.specs.declared.ending.Ending.TheVariants.{Lost}
use Rattle.adb_history.specs.Packets.{treat, treat_all, faulty, with_rest, receives_cut, receives_on}
use Rattle.adb_history.specs.Machine.{unplugs_on}
use Rattle.adb_history.specs.Moves.{After}
use Rattle.adb_history.proofs.Following.{after_quietly, after_then}
use Rattle.adb_laws_fifo_down.specs.Line.{Line, View, Shows}
use Rattle.adb_laws_fifo_down.proofs.Others.{IsElsewhere, shows_link_ends}
use Rattle.adb_laws_fifo_down.proofs.OtherPackets.{shows_treat_on, shows_faulty}

module _ (b : Line) (v : View) (t : ℕ) (apart : IsElsewhere b v t) where
  shows_treat_all : (packets : List Packet) (s : State) (w : List Event) → Shows b v s w → After (Shows b v) w (treat_all t packets s)
  shows_treat_all [] s w h = after_quietly (Shows b v) w s h
  shows_treat_all (p ∷ packets) s w h =
      after_then (Shows b v) w (treat t p s) (treat_all t packets) (shows_treat_on b v t apart s w h (s.links t) p)
      (λ u now. shows_treat_all packets (treat t p s).state u now)

  shows_cut : (c : Cut PacketFormat Packet PacketFault) (s : State) (w : List Event) → Shows b v s w
      → After (Shows b v) w (receives_cut t c s)
  shows_cut c s w h =
      let treated : Made = treat_all t c.given (to_link t (with_rest c.rest) s) in
      after_then (Shows b v) w treated (faulty t c.fault) (shows_treat_all c.given (to_link t (with_rest c.rest) s) w h)
      (λ u now. shows_faulty b v t apart treated.state u now (treated.state.links t) c.fault)

  pub shows_receives : (o : Option Link) (bytes : List ℕ) (s : State) (w : List Event) → Shows b v s w
      → After (Shows b v) w (receives_on o t bytes s)
  shows_receives None bytes s w h = after_quietly (Shows b v) w s h
  shows_receives (Some link) bytes s w h = shows_cut (cut_packets (record { sums = link.sums }) (link.rest ++ bytes)) s w h

  pub shows_unplugs : (o : Option Link) (s : State) (w : List Event) → Shows b v s w → After (Shows b v) w (unplugs_on o t s)
  shows_unplugs None s w h = after_quietly (Shows b v) w s h
  shows_unplugs (Some link) s w h = shows_link_ends b v t apart Lost s w h
