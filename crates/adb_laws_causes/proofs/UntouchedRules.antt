-- What the rule of an entry leaves of a stream and its client, where it is of other clients and links.
use Rattle.std.proofs.Common.{◌≡◌, ◌≢◌, ℕ, zero, suc, Bool, true, false, cond, ◌||◌, List, [], ◌∷◌, ◌++◌, length, drop, min, Option, Some}
use Rattle.std.proofs.Common.{None, refl}
use Rattle.std.proofs.Common.{sym, ap, subst, ◌∙◌, eqb}
use Rattle.std.specs.Prelude.{nat_eq, nat_lt}
use Rattle.std.proofs.lemmas.Bool.{eqb-true}
use Rattle.adb_outside.specs.Tables.{at}
use Rattle.adb_outside.specs.Framing.{Cut}
use Rattle.adb_outside.specs.declared.identity.Identity.{Identity}
use Rattle.adb_outside.specs.declared.identity.State.{State as DeviceState}
use Rattle.adb_outside.specs.declared.identity.State.TheVariants.{Offline}
use Rattle.adb_banner.specs.Banner.{identity_of}
use Rattle.adb_registry.specs.declared.row.Row.{Row}
use Rattle.adb_wire.specs.Cutting.{cut_packets}
use Rattle.adb_wire.specs.declared.command.Command.{Command}
use Rattle.adb_wire.specs.declared.command.Command.TheVariants.{Cnxn, Open, Okay, Wrte, Clse, Auth, Stls}
use Rattle.adb_wire.specs.declared.packets.Packet.{Packet}
use Rattle.adb_wire.specs.declared.format.PacketFault.{PacketFault}
use Rattle.adb_wire.specs.declared.format.PacketFormat.{PacketFormat}
use Rattle.adb_stream.specs.declared.flow.Flow.{Flow}
use Rattle.adb_stream.specs.declared.flow.Flow.TheVariants.{One, Credit}
use Rattle.adb_stream.specs.declared.row.Stream.{Stream}
use Rattle.adb_stream.specs.Flow.{to_hand, credit_back, handed_to}
use Rattle.adb_client.specs.declared.phase.Phase.{Phase}
use Rattle.adb_client.specs.declared.phase.Phase.TheVariants.{Opening, Streaming}
use Rattle.adb_history.specs.Rows.{Client, Link, State, to_client, to_link, to_stream, with_due, with_stream_part}
use Rattle.adb_history.specs.Events.{Made, quietly}
use Rattle.adb_history.specs.declared.ending.Ending.TheVariants.{Lost, Broken}
use Rattle.adb_history.specs.Links.{close_packet, okay_packet, credit_packet, credit_word, owe_link, is_connected}
use Rattle.adb_history.specs.Tracking.{offered}
use Rattle.adb_history.specs.Losing.{link_ends}
use Rattle.adb_history.specs.Flow.{with_flow}
use Rattle.adb_history.specs.Packets.{least_version, least_maxdata, goes_online, streams_end_first, connects, cnxn, unauthorized_from}
use Rattle.adb_history.specs.Packets.{unauthorized}
use Rattle.adb_history.specs.Packets.{refuses_open, at_stream, takes_okay, takes_write, takes_close, treat_open, treat_any, treat_on, treat}
use Rattle.adb_history.specs.Packets.{treat_all, faulty_on}
use Rattle.adb_history.specs.Packets.{faulty, with_rest, receives_cut, receives_on, receives}
use Rattle.adb_history.specs.Handing.{unmarked, lists_first, hands, tells_credit, tells_handed, stream_left}
use Rattle.adb_history.specs.Handing.{client_left, takes_of, puts_to}
use Rattle.adb_history.specs.Machine.{unplugs_on}
use Rattle.adb_history.proofs.Following.{changed_here}
use Rattle.adb_laws_causes.proofs.Fates.{FateOf}
use Rattle.adb_laws_causes.proofs.PacketFates.{OfLink, treat_fate, treat_all_fate}
use Rattle.adb_laws_causes.proofs.Silent.{okay_silent, credit_silent}
use Rattle.adb_laws_causes.proofs.Untouched.{Untouched, Apart, apart_fate, u_then, u_if, u_quiet, u_owe, u_client, u_owe_client, u_stream}
use Rattle.adb_laws_causes.proofs.Untouched.{u_marks}
use Rattle.adb_laws_causes.proofs.Untouched.{u_all_end, u_link_ends, u_okay, u_write, u_close}

-- a stream of another link than this one, and no other stream is of its client
pub record Away (l c t : ℕ) (s : State) : Type 0 where
  pub apart : Apart l c s
  pub link : (y : Stream) → s.streams l ≡ Some y → y.link ≢ t

away_row : (l c t : ℕ) (s : State) (m : Made) → ((n : ℕ) → FateOf n (OfLink t) s m) → Untouched l c s m → Away l c t s → Away l c t m.state
away_row l c t s m fate u h = record { apart = apart_fate l c (OfLink t) s m fate h.apart; link = λ y is. h.link y (sym u.row ∙ is) }

-- ---- what comes on another link
module _ (l c t : ℕ) where
  far_connects : (version maxdata : ℕ) (who : Option Identity) (s : State) → Away l c t s
      → Untouched l c s (connects t version maxdata who s)
  far_connects version maxdata None s h = u_link_ends l c t Broken s (h.apart, h.link)
  far_connects version maxdata (Some identity) s h =
      let m = streams_end_first (is_connected t s.devices) t s in
      u_then l c s m (λ s. quietly (goes_online t version maxdata identity s)) (first (is_connected t s.devices))
      (let marks = u_marks l c m.state in record { row = marks.row; client = marks.client; owed = refl; silent = tt })
    where
      first : (b : Bool) → Untouched l c s (streams_end_first b t s)
      first true = u_all_end l c t Lost s (h.apart, h.link)
      first false = u_quiet l c s

  far_cnxn : (version maxdata : ℕ) (banner : List ℕ) (s : State) → Away l c t s → Untouched l c s (cnxn t version maxdata banner s)
  far_cnxn version maxdata banner s h =
      u_if l c s (nat_lt version least_version || nat_lt maxdata least_maxdata) (link_ends t Broken s)
      (connects t version maxdata (identity_of banner) s)
      (λ e. u_link_ends l c t Broken s (h.apart, h.link)) (λ e. far_connects version maxdata (identity_of banner) s h)

  pub far_unauthorized : (o : Option Row) (s : State) → Untouched l c s (unauthorized t o s)
  far_unauthorized None s = u_quiet l c s
  far_unauthorized (Some row) s = go row.state
    where
      go : (state : DeviceState) → Untouched l c s (quietly (unauthorized_from t state s))
      go Offline = (let marks = u_marks l c s in record { row = marks.row; client = marks.client; owed = refl; silent = tt })
      go _ = u_quiet l c s

  pub far_refuses : (id : ℕ) (s : State) → Untouched l c s (refuses_open t id s)
  far_refuses id s = u_if l c s (eqb id 0) (quietly s) (owe_link t (close_packet 0 id) s) (λ e. u_quiet l c s)
      (λ e. u_owe l c t (close_packet 0 id) s (record { write = refl; credit = refl }))

  far_at : (n : ℕ) (o : Option Stream) (rule : Stream → State → Made) (s : State) → s.streams n ≡ o → Away l c t s
      → ((z : Stream) → (n ≢ l) × (z.client ≢ c) → Untouched l c s (rule z s)) → Untouched l c s (at_stream t o rule s)
  far_at n None rule s is h u = u_quiet l c s
  far_at n (Some z) rule s is h u =
      u_if l c s (nat_eq z.link t) (rule z s) (quietly s)
      (λ e. (let other : n ≢ l = (λ same. h.link z (ap s.streams (sym same) ∙ is) (eqb-true z.link t e))
      in u z (other, h.apart.alone n z is other)))
      (λ e. u_quiet l c s)

  far_open : (command : Command) (p : Packet) (s : State) → Away l c t s → Untouched l c s (treat_open t command p s)
  far_open Open p s h = far_refuses p.arg0 s
  far_open Okay p s h = far_at p.arg1 (s.streams p.arg1) (takes_okay p.arg1 p.arg0 (credit_word p.payload)) s refl h
      (λ z apart. u_okay l c p.arg1 z apart p.arg0 (credit_word p.payload) s)
  far_open Wrte p s h = far_at p.arg1 (s.streams p.arg1) (takes_write p.arg1 p.arg0 p.payload) s refl h
      (λ z apart. u_write l c p.arg1 z apart p.arg0 p.payload s)
  far_open Clse p s h = far_at p.arg1 (s.streams p.arg1) (takes_close p.arg1 p.arg0) s refl h
      (λ z apart. u_close l c p.arg1 z apart p.arg0 s)
  far_open _ p s h = u_quiet l c s

  far_if : (command : Command) (p : Packet) (s : State) → Away l c t s
      → Untouched l c s (cond (is_connected t s.devices) (treat_open t command p s)
      (quietly s))
  far_if command p s h =
      u_if l c s (is_connected t s.devices) (treat_open t command p s) (quietly s) (λ e. far_open command p s h) (λ e. u_quiet l c s)

  far_any : (command : Command) (p : Packet) (s : State) → Away l c t s → Untouched l c s (treat_any t command p s)
  far_any Cnxn p s h = far_cnxn p.arg0 p.arg1 p.payload s h
  far_any Auth p s h = far_unauthorized (at t s.devices.rows) s
  far_any Stls p s h = far_unauthorized (at t s.devices.rows) s
  far_any Open p s h = far_if Open p s h
  far_any Okay p s h = far_if Okay p s h
  far_any Wrte p s h = far_if Wrte p s h
  far_any Clse p s h = far_if Clse p s h

  far_treat : (p : Packet) (s : State) → Away l c t s → Untouched l c s (treat t p s)
  far_treat p s h = go (s.links t)
    where
      go : (o : Option Link) → Untouched l c s (treat_on o t p s)
      go None = u_quiet l c s
      go (Some link) = far_any p.command p s h

  pub far_all : (packets : List Packet) (s : State) → Away l c t s → Untouched l c s (treat_all t packets s)
  far_all [] s h = u_quiet l c s
  far_all (p ∷ packets) s h =
      let one = far_treat p s h in
      u_then l c s (treat t p s) (treat_all t packets) one
      (far_all packets (treat t p s).state (away_row l c t s (treat t p s) (λ n. treat_fate n t p s) one h))

  pub far_faulty : (o : Option Link) (fault : Option PacketFault) (s : State) → Away l c t s → Untouched l c s (faulty_on o t fault s)
  far_faulty None fault s h = u_quiet l c s
  far_faulty (Some link) None s h = u_quiet l c s
  far_faulty (Some link) (Some fault) s h = u_link_ends l c t Broken s (h.apart, h.link)

  far_cut : (cut : Cut PacketFormat Packet PacketFault) (s : State) → Away l c t s → Untouched l c s (receives_cut t cut s)
  far_cut cut s h =
      let rested = to_link t (with_rest cut.rest) s in
      let m = treat_all t cut.given rested in
      let all = far_all cut.given rested (record { apart = record { alone = h.apart.alone }; link = h.link }) in
      let left = away_row l c t rested m (λ n. treat_all_fate n t cut.given rested) all
      (record { apart = record { alone = h.apart.alone }; link = h.link }) in
      u_then l c s m (faulty t cut.fault) (record { row = all.row; client = all.client; owed = all.owed; silent = all.silent })
      (far_faulty (m.state.links t) cut.fault m.state left)

  pub far_receives : (bytes : List ℕ) (s : State) → Away l c t s → Untouched l c s (receives t bytes s)
  far_receives bytes s h = go (s.links t)
    where
      go : (o : Option Link) → Untouched l c s (receives_on o t bytes s)
      go None = u_quiet l c s
      go (Some link) = far_cut (cut_packets (record { sums = link.sums }) (link.rest ++ bytes)) s h

  pub far_unplugs : (s : State) → Away l c t s → (o : Option Link) → Untouched l c s (unplugs_on o t s)
  far_unplugs s h None = u_quiet l c s
  far_unplugs s h (Some link) = u_link_ends l c t Lost s (h.apart, h.link)

-- ---- what another client is handed
-- the stream of a phase is another one
abbrev pub OtherIn : ℕ → Phase → Type 0
OtherIn l (Opening n) = n ≢ l
OtherIn l (Streaming n) = n ≢ l
OtherIn l _ = Unit {0}

module _ (l c n : ℕ) (other : n ≢ c) where
  far_lists : (due : List ℕ) (client : Client) (s : State) → Untouched l c s (lists_first n due client s)
  far_lists [] client s =
      let first = u_client l c n unmarked s other in
      let owed = u_owe_client l c n (offered s.devices client) (to_client n unmarked s) other in
      record { row = refl; client = λ k is has. owed.client k (first.client k is has) has; owed = owed.owed; silent = tt }
  far_lists (b ∷ due) client s = u_quiet l c s

  far_credit : (back k : ℕ) (z : Stream) (s : State) → k ≢ l → Untouched l c s (tells_credit back k z s)
  far_credit zero k z s apart = u_quiet l c s
  far_credit (suc m) k z s apart = u_owe l c z.link (credit_packet k z.part.remote (suc m)) s
      (credit_silent l k z.part.remote (suc m) apart)

  far_handed : (flow : Flow) (left k : ℕ) (z : Stream) (s : State) → k ≢ l → Untouched l c s (tells_handed flow left k z s)
  far_handed (One window) zero k z s apart = u_owe l c z.link (okay_packet k z.part.remote) s (okay_silent l k z.part.remote)
  far_handed (One window) (suc left) k z s apart = u_quiet l c s
  far_handed (Credit credit) left k z s apart = far_credit (credit_back left credit) k z s apart

  far_stream_left : (due k : ℕ) (o : Option Stream) (s : State) → k ≢ l → Untouched l c s (stream_left due k o s)
  far_stream_left due k None s apart = u_quiet l c s
  far_stream_left due k (Some z) s apart =
      let left = min (to_hand z.part.flow) due in
      let f = with_stream_part (with_flow (handed_to left z.part.flow) z.part) in
      let less = to_stream k f s in
      let m = tells_handed z.part.flow left k z less in
      u_if l c s (nat_eq left (to_hand z.part.flow)) (quietly s) m (λ e. u_quiet l c s)
      (λ e. (let first = u_stream l c k f s apart in let told = far_handed z.part.flow left k z less apart in
      record { row = told.row ∙ first.row; client = told.client; owed = told.owed; silent = told.silent }))

  far_left : (phase : Phase) (due : ℕ) (s : State) → OtherIn l phase → Untouched l c s (client_left phase due s)
  far_left (Streaming k) due s apart = far_stream_left due k (s.streams k) s apart
  far_left _ due s apart = u_quiet l c s

  far_takes : (count : ℕ) (o : Option Client) (s : State) → ((k : Client) → o ≡ Some k → OtherIn l k.about.phase)
      → Untouched l c s (takes_of n count o s)
  far_takes count None s apart = u_quiet l c s
  far_takes count (Some k) s apart =
      let first = u_client l c n (hands count) s other in
      let next = far_left k.about.phase (length (drop count k.due)) (to_client n (hands count) s) (apart k refl) in
      record { row = next.row; client = λ x is has. next.client x (first.client x is has) has; owed = next.owed; silent = next.silent }

  pub far_puts : (o : Option Client) (count : ℕ) (s : State) → s.clients n ≡ o → ((k : Client) → o ≡ Some k → OtherIn l k.about.phase)
      → Untouched l c s (puts_to o n count s)
  far_puts None count s is apart = u_quiet l c s
  far_puts (Some client) count s is apart =
      let listed = lists_first n client.due client s in
      u_then l c s listed (λ s. takes_of n count (s.clients n) s) (far_lists client.due client s)
      (far_takes count (listed.state.clients n) listed.state (λ k e. same client.due k e))
    where
      same : (due : List ℕ) (k : Client) → (lists_first n due client s).state.clients n ≡ Some k → OtherIn l k.about.phase
      same (b ∷ due) k e =
          let row : client ≡ k = (let both : Some client ≡ Some k = sym is ∙ e in cc) in
          subst (λ (x : Client). OtherIn l x.about.phase) row (apart client refl)
      same [] k e =
          let bytes = offered s.devices client in
          let less = record client { about = record client.about { mark = false } } in
          let here : (to_client n (with_due bytes) (to_client n unmarked s)).clients n ≡ with_due bytes less =
          changed_here n (with_due bytes) (to_client n unmarked s).clients less (changed_here n unmarked s.clients client is) in
          let row : record less { due = less.due ++ bytes } ≡ k =
          (let both : Some (record less { due = less.due ++ bytes }) ≡ Some k = sym here ∙ e in cc) in
          subst (λ (x : Client). OtherIn l x.about.phase) row (apart client refl)
