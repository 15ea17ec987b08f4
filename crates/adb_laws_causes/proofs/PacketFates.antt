-- What the packets of a device make of the stream of a number: it may end, where it is one of their link.
use Rattle.std.proofs.Common.{◌≡◌, ℕ, Bool, true, false, cond, not, ◌||◌, List, [], ◌∷◌, ◌++◌, length, Option, Some, None, refl, ap, ◌∙◌}
use Rattle.std.proofs.Common.{eqb}
use Rattle.std.specs.Prelude.{codes, nat_eq, nat_lt}
use Rattle.std.proofs.lemmas.Bool.{eqb-true}
use Rattle.adb_outside.specs.Tables.{at}
use Rattle.adb_outside.specs.Framing.{Cut}
use Rattle.adb_outside.specs.declared.identity.Identity.{Identity}
use Rattle.adb_outside.specs.declared.identity.State.{State as DeviceState}
use Rattle.adb_outside.specs.declared.identity.State.TheVariants.{Offline}
use Rattle.adb_banner.specs.Banner.{identity_of}
use Rattle.adb_registry.specs.declared.row.Row.{Row}
use Rattle.adb_wire.specs.Cutting.{cut_packets}
use Rattle.adb_wire.specs.declared.command.Command.{Command}
use Rattle.adb_wire.specs.declared.command.Command.TheVariants.{Cnxn, Open, Okay, Wrte, Clse, Auth, Stls}
use Rattle.adb_wire.specs.declared.packets.Packet.{Packet}
use Rattle.adb_wire.specs.declared.format.PacketFault.{PacketFault}
use Rattle.adb_wire.specs.declared.format.PacketFormat.{PacketFormat}
use Rattle.adb_stream.specs.declared.flow.Flow.{Flow}
use Rattle.adb_stream.specs.declared.flow.Flow.TheVariants.{One, Credit}
use Rattle.adb_stream.specs.declared.row.Stream.{Stream}
use Rattle.adb_stream.specs.Flow.{first_credit, acknowledged, is_out_of_turn, accepted}
use Rattle.adb_history.specs.Rows.{Client, Link, State, to_link, to_stream, none_kept, with_stream_part}
use Rattle.adb_history.specs.Events.{Made, quietly}
use Rattle.adb_history.specs.declared.ending.Ending.{Ending}
use Rattle.adb_history.specs.declared.ending.Ending.TheVariants.{ClientClosed, PeerClosed, OutOfTurn, Lost, Broken, ClientFailed, Stopped}
use Rattle.adb_history.specs.Links.{close_packet, credit_word, owe_link, is_connected}
use Rattle.adb_history.specs.Clients.{owe_client}
use Rattle.adb_history.specs.Streams.{ends_row, ends_telling}
use Rattle.adb_history.specs.Flow.{with_flow}
use Rattle.adb_history.specs.Losing.{link_ends}
use Rattle.adb_history.specs.Packets.{least_version, least_maxdata, goes_online, streams_end_first, connects, cnxn, unauthorized_from}
use Rattle.adb_history.specs.Packets.{unauthorized}
use Rattle.adb_history.specs.Packets.{refuses_open, at_stream, with_remote, hears_okay, okay_open}
use Rattle.adb_history.specs.Packets.{okay_first, takes_okay, accepts_none, accepts, takes_write, takes_close, treat_open, treat_any}
use Rattle.adb_history.specs.Packets.{treat_on, treat, treat_all, faulty_on, faulty, with_rest, receives_cut, receives_on, receives}
use Rattle.adb_history.specs.Moves.{open_now}
use Rattle.adb_laws_causes.proofs.Fates.{Reason, FateOf, fate_same, fate_retold, then_fate, fate_part, fate_orphan}
use Rattle.adb_laws_causes.proofs.StreamFates.{quiet, if_fate, ends_fate, telling_fate, all_end_fate, link_ends_fate}
use Rattle.adb_history.proofs.PacketMoves.{hears_streams}

-- what the packets of a link and their fault may end: its streams
abbrev pub ByLink : (t link : ℕ) → Ending → Type 0
ByLink t link ClientClosed = ⊥
ByLink t link (ClientFailed cause) = ⊥
ByLink t link Stopped = ⊥
ByLink t link _ = link ≡ t

abbrev pub OfLink : ℕ → Reason
OfLink t = λ client link ending. ByLink t link ending

module _ (l t : ℕ) where
  -- ---- CNXN, AUTH and STLS
  connects_fate : (version maxdata : ℕ) (who : Option Identity) (s : State) → FateOf l (OfLink t) s (connects t version maxdata who s)
  connects_fate version maxdata None s = link_ends_fate l (OfLink t) t Broken s (λ c. refl)
  connects_fate version maxdata (Some identity) s =
      let m = streams_end_first (is_connected t s.devices) t s in
      then_fate l (OfLink t) s m (λ s. quietly (goes_online t version maxdata identity s)) (first (is_connected t s.devices))
      (fate_same l (OfLink t) (m.state.streams l) [] refl)
    where
      first : (b : Bool) → FateOf l (OfLink t) s (streams_end_first b t s)
      first true = all_end_fate l (OfLink t) t Lost s (λ c. refl)
      first false = quiet l (OfLink t) s

  cnxn_fate : (version maxdata : ℕ) (banner : List ℕ) (s : State) → FateOf l (OfLink t) s (cnxn t version maxdata banner s)
  cnxn_fate version maxdata banner s =
      if_fate l (OfLink t) s (nat_lt version least_version || nat_lt maxdata least_maxdata) (link_ends t Broken s)
      (connects t version maxdata (identity_of banner) s) (λ e. link_ends_fate l (OfLink t) t Broken s (λ c. refl))
      (λ e. connects_fate version maxdata (identity_of banner) s)

  unauthorized_fate : (o : Option Row) (s : State) → FateOf l (OfLink t) s (unauthorized t o s)
  unauthorized_fate None s = quiet l (OfLink t) s
  unauthorized_fate (Some row) s = go row.state
    where
      go : (state : DeviceState) → FateOf l (OfLink t) s (quietly (unauthorized_from t state s))
      go Offline = fate_same l (OfLink t) (s.streams l) [] refl
      go _ = quiet l (OfLink t) s

  refuses_fate : (id : ℕ) (s : State) → FateOf l (OfLink t) s (refuses_open t id s)
  refuses_fate id s = if_fate l (OfLink t) s (eqb id 0) (quietly s) (owe_link t (close_packet 0 id) s) (λ e. quiet l (OfLink t) s)
      (λ e. fate_same l (OfLink t) (s.streams l) _ refl)

  at_stream_fate : (n : ℕ) (o : Option Stream) (rule : Stream → State → Made) (s : State) → s.streams n ≡ o
      → ((x : Stream) → s.streams n ≡ Some x → x.link ≡ t → FateOf l (OfLink t) s (rule x s)) → FateOf l (OfLink t) s (at_stream t o rule s)
  at_stream_fate n None rule s is fate = quiet l (OfLink t) s
  at_stream_fate n (Some x) rule s is fate =
      if_fate l (OfLink t) s (nat_eq x.link t) (rule x s) (quietly s) (λ e. fate x is (eqb-true x.link t e)) (λ e. quiet l (OfLink t) s)

  -- ---- OKAY
  hears_fate : (o : Option Client) (c : ℕ) (s : State) → FateOf l (OfLink t) s (hears_okay o c s)
  hears_fate None c s = quiet l (OfLink t) s
  hears_fate (Some client) c s =
      if_fate l (OfLink t) s client.about.forwarded (quietly s) (owe_client c (codes "OKAY") s) (λ e. quiet l (OfLink t) s)
      (λ e. fate_same l (OfLink t) (s.streams l) _ refl)

  first_fate : (orphan : Bool) (n remote : ℕ) (word : Option ℕ) (x : Stream) (s : State) → s.streams n ≡ Some x → x.part.orphan ≡ orphan
      → FateOf l (OfLink t) s (okay_first orphan n remote word x s)
  first_fate true n remote word x s is orphan =
      let gone = to_stream n none_kept s in
      fate_retold l (OfLink t) (s.streams l) (gone.streams l) [] (owe_link x.link (close_packet n remote) gone).told refl
      (fate_orphan l (OfLink t) n x s is orphan)
  first_fate false n remote word x s is orphan =
      let heard = hears_okay (s.clients x.client) x.client s in
      then_fate l (OfLink t) s heard (λ s. quietly (open_now n remote word x s)) (hears_fate (s.clients x.client) x.client s)
      (fate_part l (OfLink t) n x (with_remote remote (with_flow (first_credit word x.part.flow) x.part)) heard.state
      (ap (λ streams. streams n) (hears_streams (s.clients x.client) x.client s) ∙ is) refl)

  okay_fate : (n remote : ℕ) (word : Option ℕ) (x : Stream) (s : State) → s.streams n ≡ Some x
      → FateOf l (OfLink t) s (takes_okay n remote word x s)
  okay_fate n remote word x s is =
      let again = okay_open n word x s in
      let later = cond (eqb remote x.part.remote) again (quietly s) in
      let first = okay_first x.part.orphan n remote word x s in
      if_fate l (OfLink t) s (eqb remote 0) (quietly s) (cond (eqb x.part.remote 0) first later) (λ e. quiet l (OfLink t) s)
      (λ some. if_fate l (OfLink t) s (eqb x.part.remote 0) first later (λ e. first_fate x.part.orphan n remote word x s is refl)
      (λ e. if_fate l (OfLink t) s (eqb remote x.part.remote) again (quietly s)
      (λ e. fate_part l (OfLink t) n x (with_flow (acknowledged word x.part.flow) x.part) s is refl) (λ e. quiet l (OfLink t) s)))

  -- ---- WRTE
  none_fate : (flow : Flow) (n : ℕ) (x : Stream) (s : State) → FateOf l (OfLink t) s (accepts_none flow n x s)
  none_fate (One window) n x s = fate_same l (OfLink t) (s.streams l) _ refl
  none_fate (Credit credit) n x s = quiet l (OfLink t) s

  accepts_fate : (n : ℕ) (payload : List ℕ) (x : Stream) (s : State) → s.streams n ≡ Some x → FateOf l (OfLink t) s (accepts n payload x s)
  accepts_fate n [] x s is = none_fate x.part.flow n x s
  accepts_fate n (b ∷ payload) x s is =
      let part = with_flow (accepted (length (b ∷ payload)) x.part.flow) x.part in
      fate_retold l (OfLink t) (s.streams l) ((to_stream n (with_stream_part part) s).streams l) [] _ refl
      (fate_part l (OfLink t) n x part s is refl)

  write_fate : (n remote : ℕ) (payload : List ℕ) (x : Stream) (s : State) → s.streams n ≡ Some x → x.link ≡ t
      → FateOf l (OfLink t) s (takes_write n remote payload x s)
  write_fate n remote payload x s is here =
      let late = ends_telling n OutOfTurn x s in
      let taken = accepts n payload x s in
      let out = is_out_of_turn x.part.flow (length payload) in
      if_fate l (OfLink t) s (eqb remote 0 || not (eqb remote x.part.remote)) (quietly s) (cond out late taken) (λ e. quiet l (OfLink t) s)
      (λ known. if_fate l (OfLink t) s out late taken (λ e. telling_fate l (OfLink t) n OutOfTurn x s is (λ same. here))
      (λ turn. accepts_fate n payload x s is))

  -- ---- CLSE
  close_fate : (n remote : ℕ) (x : Stream) (s : State) → s.streams n ≡ Some x → x.link ≡ t
      → FateOf l (OfLink t) s (takes_close n remote x s)
  close_fate n remote x s is here =
      if_fate l (OfLink t) s (eqb remote 0 || eqb remote x.part.remote) (ends_row n PeerClosed x s) (quietly s)
      (λ e. ends_fate l (OfLink t) n PeerClosed x s is (λ same. here)) (λ e. quiet l (OfLink t) s)

  -- ---- one packet
  open_fate : (command : Command) (p : Packet) (s : State) → FateOf l (OfLink t) s (treat_open t command p s)
  open_fate Open p s = refuses_fate p.arg0 s
  open_fate Okay p s =
      at_stream_fate p.arg1 (s.streams p.arg1) (takes_okay p.arg1 p.arg0 (credit_word p.payload)) s refl
      (λ x is here. okay_fate p.arg1 p.arg0 (credit_word p.payload) x s is)
  open_fate Wrte p s =
      at_stream_fate p.arg1 (s.streams p.arg1) (takes_write p.arg1 p.arg0 p.payload) s refl
      (λ x is here. write_fate p.arg1 p.arg0 p.payload x s is here)
  open_fate Clse p s = at_stream_fate p.arg1 (s.streams p.arg1) (takes_close p.arg1 p.arg0) s refl
      (λ x is here. close_fate p.arg1 p.arg0 x s is here)
  open_fate _ p s = quiet l (OfLink t) s

  if_connected_fate : (command : Command) (p : Packet) (s : State)
      → FateOf l (OfLink t) s (cond (is_connected t s.devices) (treat_open t command p s) (quietly s))
  if_connected_fate command p s =
      if_fate l (OfLink t) s (is_connected t s.devices) (treat_open t command p s) (quietly s)
      (λ e. open_fate command p s) (λ e. quiet l (OfLink t) s)

  any_fate : (command : Command) (p : Packet) (s : State) → FateOf l (OfLink t) s (treat_any t command p s)
  any_fate Cnxn p s = cnxn_fate p.arg0 p.arg1 p.payload s
  any_fate Auth p s = unauthorized_fate (at t s.devices.rows) s
  any_fate Stls p s = unauthorized_fate (at t s.devices.rows) s
  any_fate Open p s = if_connected_fate Open p s
  any_fate Okay p s = if_connected_fate Okay p s
  any_fate Wrte p s = if_connected_fate Wrte p s
  any_fate Clse p s = if_connected_fate Clse p s

  treat_on_fate : (o : Option Link) (p : Packet) (s : State) → FateOf l (OfLink t) s (treat_on o t p s)
  treat_on_fate None p s = quiet l (OfLink t) s
  treat_on_fate (Some link) p s = any_fate p.command p s

  pub treat_fate : (p : Packet) (s : State) → FateOf l (OfLink t) s (treat t p s)
  treat_fate p s = treat_on_fate (s.links t) p s

  pub treat_all_fate : (packets : List Packet) (s : State) → FateOf l (OfLink t) s (treat_all t packets s)
  treat_all_fate [] s = quiet l (OfLink t) s
  treat_all_fate (p ∷ packets) s =
      then_fate l (OfLink t) s (treat t p s) (treat_all t packets) (treat_fate p s) (treat_all_fate packets (treat t p s).state)

  -- ---- receive
  faulty_on_fate : (o : Option Link) (fault : Option PacketFault) (s : State) → FateOf l (OfLink t) s (faulty_on o t fault s)
  faulty_on_fate None fault s = quiet l (OfLink t) s
  faulty_on_fate (Some link) None s = quiet l (OfLink t) s
  faulty_on_fate (Some link) (Some fault) s = link_ends_fate l (OfLink t) t Broken s (λ c. refl)

  pub faulty_fate : (fault : Option PacketFault) (s : State) → FateOf l (OfLink t) s (faulty t fault s)
  faulty_fate fault s = faulty_on_fate (s.links t) fault s

  pub cut_fate : (c : Cut PacketFormat Packet PacketFault) (s : State) → FateOf l (OfLink t) s (receives_cut t c s)
  cut_fate c s =
      let rested = to_link t (with_rest c.rest) s in
      let m = treat_all t c.given rested in
      then_fate l (OfLink t) s m (faulty t c.fault) (treat_all_fate c.given rested) (faulty_fate c.fault m.state)

  pub receives_fate : (bytes : List ℕ) (s : State) → FateOf l (OfLink t) s (receives t bytes s)
  receives_fate bytes s = go (s.links t)
    where
      go : (o : Option Link) → FateOf l (OfLink t) s (receives_on o t bytes s)
      go None = quiet l (OfLink t) s
      go (Some link) = cut_fate (cut_packets (record { sums = link.sums }) (link.rest ++ bytes)) s
