-- What the packets of a piece, and its fault, make of the rows and of the devices of the streams that are still there.
use Rattle.std.proofs.Common.{ℕ, ◌≡◌, ◌≤◌, arith, ap, Bool, cond, List, [], ◌∷◌, Option, Some, None, refl, subst, sym, ◌∙◌, inl, inr}
use Rattle.std.proofs.lemmas.Bool.{eq-eqb}
use Rattle.std.specs.Prelude.{unwrap_or}
use Rattle.adb_outside.specs.Tables.{at}
use Rattle.adb_outside.specs.Framing.{Cut}
use Rattle.adb_wire.specs.declared.command.Command.{Command}
use Rattle.adb_wire.specs.declared.command.Command.TheVariants.{Cnxn, Open, Okay, Wrte, Clse, Auth, Stls}
use Rattle.adb_wire.specs.declared.packets.Packet.{Packet}
use Rattle.adb_wire.specs.declared.format.PacketFault.{PacketFault}
use Rattle.adb_wire.specs.declared.format.PacketFormat.{PacketFormat}
use Rattle.adb_stream.specs.declared.row.Stream.{Stream}
use Rattle.adb_history.specs.Rows.{Link, State, to_link}
use Rattle.adb_history.specs.Events.{quietly}
use Rattle.adb_history.specs.declared.ending.Ending.TheVariants.{Broken}
use Rattle.adb_history.specs.Links.{credit_word, is_connected}
use Rattle.adb_history.specs.Packets.{takes_okay, takes_write, takes_close, treat_open, treat_any, treat_on, treat, treat_all, faulty_on}
use Rattle.adb_history.specs.Packets.{with_rest}
use Rattle.adb_history.specs.Packets.{receives_cut, receives_on, receives}
use Rattle.adb_history.specs.Linked.{IsLinked}
use Rattle.adb_history.specs.Moves.{serves}
use Rattle.adb_history.proofs.LinkMoves.{linked_moves}
use Rattle.adb_history.proofs.PacketMoves.{treat_on_kept}
use Rattle.adb_hub_tables.specs.Tracked.{IsAmong}
use Rattle.adb_laws_resting.specs.Named.{named_also, named_by, granted_by, granted, cut_behind}
use Rattle.adb_laws_resting.proofs.NamedRows.{kept_of, all_same}
use Rattle.adb_laws_resting.proofs.NamedRules.{PassesWith, Passes, passes_plain, passes_same, more_passes, passes_before, passes_behind}
use Rattle.adb_laws_resting.proofs.NamedRules.{passes_if}
use Rattle.adb_laws_resting.proofs.NamedRules.{cnxn_passes, unauthorized_passes, refuses_passes}
use Rattle.adb_laws_resting.proofs.NamedRules.{at_stream_passes, okay_passes, write_passes, close_passes, link_ends_passes}

treated_linked : (t : ℕ) (p : Packet) (s : State) → IsLinked s → IsLinked (treat t p s).state
treated_linked t p s h = treat_on_kept (serves linked_moves) s [] h (s.links t) t p

module _ (ids : List ℕ) (t : ℕ) where
  -- the stream of an id is one of these, where it is one of the link
  abbrev MayName : State → ℕ → Type 0
  MayName s l = (stream : Stream) → s.streams l ≡ Some stream → stream.link ≡ t → IsAmong l ids

  -- of an OKAY
  abbrev IsNamed : State → Command → ℕ → Type 0
  IsNamed s Okay l = MayName s l
  IsNamed s _ l = Unit {0}

  -- All streams of the link that packets name are among these.
  abbrev pub AllNamed : State → List ℕ → Type 0
  AllNamed s named = (l : ℕ) → IsAmong l named → MayName s l

  named_first : (s : State) (command : Command) (l : ℕ) (others : List ℕ) → AllNamed s (named_also command l others) → IsNamed s command l
  named_first s Okay l others all = all l (inl refl)
  named_first s _ l others all = tt

  named_behind : (s : State) (command : Command) (l : ℕ) (others : List ℕ) → AllNamed s (named_also command l others) → AllNamed s others
  named_behind s Okay l others all = λ k among. all k (inr among)
  named_behind s _ l others all = all

  -- a stream stays one of its link
  named_after : {more : ℕ → ℕ} (s now : State) (named : List ℕ) → PassesWith ids more s now → AllNamed s named → AllNamed now named
  named_after s now named h all l among stream is of =
      let was = h.rows.streams l stream is in
      all l among was.old was.is (sym was.link ∙ of)

  -- ---- one packet
  grants : (p : Packet) → unwrap_or (credit_word p.payload) 0 ≤ granted_by Okay p p.arg1
  grants p =
      let given : granted_by Okay p p.arg1 ≡ unwrap_or (credit_word p.payload) 0 =
      ap (λ (b : Bool). cond b (unwrap_or (credit_word p.payload) 0) 0) (eq-eqb p.arg1 p.arg1 refl) in
      omega (arith, given)

  module _ (s : State) (h : IsLinked s) where
    treat_open_passes : (command : Command) (p : Packet) → IsNamed s command p.arg1
        → PassesWith ids (granted_by command p) s (treat_open t command p s).state
    treat_open_passes Open p named = refuses_passes ids s h t p.arg0
    treat_open_passes Okay p named =
        at_stream_passes ids s h t p.arg1 (s.streams p.arg1) (takes_okay p.arg1 p.arg0 (credit_word p.payload)) refl
        (λ stream is of. okay_passes ids s h p.arg1 p.arg0 (credit_word p.payload) stream is (named stream is of)
        (granted_by Okay p) (grants p))
    treat_open_passes Wrte p named =
        at_stream_passes ids s h t p.arg1 (s.streams p.arg1) (takes_write p.arg1 p.arg0 p.payload) refl
        (λ stream is of. write_passes ids s h p.arg1 p.arg0 p.payload stream is)
    treat_open_passes Clse p named =
        at_stream_passes ids s h t p.arg1 (s.streams p.arg1) (takes_close p.arg1 p.arg0) refl
        (λ stream is of. close_passes ids s h p.arg1 p.arg0 stream)
    treat_open_passes _ p named = passes_same ids s

    if_connected_passes : (command : Command) (p : Packet) → IsNamed s command p.arg1
        → PassesWith ids (granted_by command p) s (cond (is_connected t s.devices) (treat_open t command p s) (quietly s)).state
    if_connected_passes command p named =
        passes_if ids s (is_connected t s.devices) (treat_open t command p s) (quietly s)
        (λ e. treat_open_passes command p named) (λ e. passes_same ids s)

    treat_any_passes : (command : Command) (p : Packet) → IsNamed s command p.arg1
        → PassesWith ids (granted_by command p) s (treat_any t command p s).state
    treat_any_passes Cnxn p named = cnxn_passes ids s h t p.arg0 p.arg1 p.payload
    treat_any_passes Auth p named = unauthorized_passes ids s h t (at t s.devices.rows) refl
    treat_any_passes Stls p named = unauthorized_passes ids s h t (at t s.devices.rows) refl
    treat_any_passes Open p named = if_connected_passes Open p named
    treat_any_passes Okay p named = if_connected_passes Okay p named
    treat_any_passes Wrte p named = if_connected_passes Wrte p named
    treat_any_passes Clse p named = if_connected_passes Clse p named

    treat_on_passes : (o : Option Link) (p : Packet) → IsNamed s p.command p.arg1
        → PassesWith ids (granted_by p.command p) s (treat_on o t p s).state
    treat_on_passes None p named = passes_same ids s
    treat_on_passes (Some link) p named = treat_any_passes p.command p named

  -- ---- all packets
  -- What packets leave, of which more may come, with so much credit more at most.
  pub record Treats (more : ℕ → ℕ) (s now : State) : Type 0 where
    pub passes : PassesWith ids more s now
    pub linked : IsLinked now

  pub treats_all : (packets : List Packet) (s : State) → IsLinked s → AllNamed s (named_by packets)
      → Treats (granted packets) s (treat_all t packets s).state
  treats_all [] s h all = record { passes = passes_same ids s; linked = h }
  treats_all (p ∷ packets) s h all =
      let next : State = (treat t p s).state in
      let others : List ℕ = named_by packets in
      let first : PassesWith ids (granted_by p.command p) s next =
      treat_on_passes s h (s.links t) p (named_first s p.command p.arg1 others all) in
      let rest : Treats (granted packets) next (treat_all t packets next).state =
      treats_all packets next (treated_linked t p s h) (named_after s next others first (named_behind s p.command p.arg1 others all)) in
      record { passes = more_passes ids s next (treat_all t packets next).state first rest.passes; linked = rest.linked }

  -- a link's rest is no part of it
  pub rests_treat : (rest : List ℕ) (packets : List Packet) (s : State) → IsLinked s → AllNamed s (named_by packets)
      → Treats (granted packets) s (treat_all t packets (to_link t (with_rest rest) s)).state
  rests_treat rest packets s h all =
      let rested : State = to_link t (with_rest rest) s in
      let now : State = (treat_all t packets rested).state in
      let fits : IsLinked rested = linked_moves.links t (λ link. record link { rest = rest }) s [] h in
      let treated : Treats (granted packets) rested now = treats_all packets rested fits all in
      record {
        passes = passes_before ids s rested now (passes_plain ids s rested refl (all_same ids (kept_of s))) treated.passes;
        linked = treated.linked;
      }

  -- ---- and the fault
  faulty_passes : (o : Option Link) (fault : Option PacketFault) (s : State) → IsLinked s → Passes ids s (faulty_on o t fault s).state
  faulty_passes None fault s h = passes_same ids s
  faulty_passes (Some link) None s h = passes_same ids s
  faulty_passes (Some link) (Some fault) s h = link_ends_passes ids s h t Broken

  cut_passes : (c : Cut PacketFormat Packet PacketFault) (s : State) → IsLinked s → AllNamed s (named_by c.given)
      → PassesWith ids (granted c.given) s (receives_cut t c s).state
  cut_passes c s h all =
      let treated : State = (treat_all t c.given (to_link t (with_rest c.rest) s)).state in
      let packets : Treats (granted c.given) s treated = rests_treat c.rest c.given s h all in
      passes_behind ids s treated (receives_cut t c s).state packets.passes (faulty_passes (treated.links t) c.fault treated packets.linked)

  pub receives_passes : (bytes : List ℕ) (link : Link) (s : State) → IsLinked s → s.links t ≡ Some link
      → AllNamed s (named_by (cut_behind link bytes).given) → PassesWith ids (granted (cut_behind link bytes).given) s
      (receives t bytes s).state
  receives_passes bytes link s h is all =
      subst (λ (o : Option Link). PassesWith ids (granted (cut_behind link bytes).given) s (receives_on o t bytes s).state) (sym is)
      (cut_passes (cut_behind link bytes) s h all)
