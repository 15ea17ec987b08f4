-- Of a piece that completes no packet, and of one on a link that is gone.
use Rattle.std.proofs.Common.{ℕ, ◌≡◌, ◌≢◌, ◌⊎◌, inl, inr, List, [], ◌++◌, Option, None, refl, sym, ◌∙◌, ap, subst}
use Rattle.std.specs.Prelude.{option_map}
use Rattle.std.proofs.lemmas.Bool.{cases_eq}
use Rattle.adb_outside.specs.Tables.{at}
use Rattle.adb_wire.specs.Deframing.{Deframing, Waits}
use Rattle.adb_wire.specs.declared.packets.Packet.{Packet}
use Rattle.adb_wire.specs.declared.format.PacketFault.{PacketFault}
use Rattle.adb_capture.specs.declared.entry.Entry.TheVariants.{Recv}
use Rattle.adb_history.specs.Rows.{Link, State, to_link}
use Rattle.adb_history.specs.Events.{Made, then_also}
use Rattle.adb_history.specs.Packets.{faulty, treat_all, receives_on, receives_cut, with_rest}
use Rattle.adb_history.specs.Machine.{state, rule, step}
use Rattle.adb_hub_tables.specs.declared.ports.Port.{Port}
use Rattle.adb_hub_tables.specs.declared.tables.Tables.{Tables}
use Rattle.adb_hub_tables.specs.Tables.{link_row, state_of}
use Rattle.adb_hub_tables.specs.Endings.{Log, Records, Tells}
use Rattle.adb_hub_tables.specs.Fit.{IsReadOutAt, IsFit, IsReached, Keeps, Makes}
use Rattle.adb_hub_tables.specs.Widening.{WidensClient, WidensRow}
use Rattle.adb_hub_tables.proofs.Widening.{widened, same_client, like_ports}
use Rattle.adb_hub_tables.proofs.Reporting.{TellsSame}
use Rattle.adb_hub_rules.proofs.Rests.{rule_tells}
use Rattle.adb_laws_resting.specs.Named.{cut_behind}
use Rattle.adb_laws_resting.proofs.RestingSteps.{all_send_nothing}
use Rattle.adb_hub_links.specs.Cutting.{cut_of}
use Rattle.adb_hub_links.specs.Settling.{PutsIncoming, reading, waiting, behind}
use Rattle.adb_hub_links.proofs.Lawful.{behind_piece, receives_piece}
use Rattle.adb_hub_links.proofs.Putting.{put_state, put_provided}
use Rattle.adb_hub_links.proofs.Settled.{no_fault, no_fault_told}
use Rattle.adb_hub_links.proofs.Received.{Comes, is_past, shown_past, read_out, cut_same}

-- ---- on a link that is gone
pub gone_made : (link : ℕ) (piece : List ℕ) (old : Tables) → IsFit old → IsReached (state_of old) → at link old.links.entries ≡ None
    → Makes (Recv link piece) old old
gone_made link piece old fit reached none =
    let gone : (state_of old).links link ≡ None = ap (option_map link_row) none in
    let rests = subst
    (λ (s : State). s.links link ≡ None → (step s (Recv link piece)).state
    ≡ (receives_on (s.links link) link piece s).state) (sym reached.is)
    ((all_send_nothing reached.history reached.legal).gone link piece) in
    record {
      state = sym (rests gone ∙ ap (λ (o : Option Link). (receives_on o link piece (state_of old)).state) gone);
      fit = fit;
    }

pub gone_told : (link : ℕ) (piece : List ℕ) (old : Tables) (log : Log) → IsReached (state_of old) → at link old.links.entries ≡ None
    → Tells (Recv link piece) log old log
gone_told link piece old log reached none =
    let s = state_of old in
    let gone : s.links link ≡ None = ap (option_map link_row) none in
    let rests = subst
    (λ (s : State). s.links link ≡ None → (step s (Recv link piece)).state ≡ (rule (Recv link piece) s).state)
    (sym reached.is)
    ((all_send_nothing reached.history reached.legal).gone link piece) in
    let quiet : TellsSame [] (receives_on (s.links link) link piece s).told =
    subst (λ (o : Option Link). TellsSame [] (receives_on o link piece s).told) (sym gone) (λ rows log. refl) in
    record { is = λ rows watches. quiet rows log ∙ rule_tells (Recv link piece) s (rests gone) rows log }

-- ---- where nothing is completed
nothing_told : (link : ℕ) (c : Deframing) (s : State) → c.given ≡ [] → c.fault ≡ None → TellsSame [] (receives_cut link c s).told
nothing_told link c s given sound =
    subst (λ (ps : List Packet). TellsSame []
    (then_also (treat_all link ps (to_link link (with_rest c.rest) s)) (faulty link c.fault)).told) (sym given)
    (subst (λ (fault : Option PacketFault). TellsSame [] (faulty link fault (to_link link (with_rest c.rest) s)).told) (sym sound)
    (no_fault_told ((to_link link (with_rest c.rest) s).links link) link (to_link link (with_rest c.rest) s)))

nothing_behind : (link : ℕ) (c : Deframing) (s : State) → c.given ≡ [] → c.fault ≡ None
    → behind link c s ≡ to_link link (with_rest c.rest) s
nothing_behind link c s given sound =
    ap (λ (ps : List Packet). (then_also (treat_all link ps (to_link link (with_rest c.rest) s)) (faulty link c.fault)).state) given
    ∙ (ap (λ (fault : Option PacketFault). (faulty link fault (to_link link (with_rest c.rest) s)).state) sound
    ∙ no_fault ((to_link link (with_rest c.rest) s).links link) link (to_link link (with_rest c.rest) s))

module _ {link : ℕ} {piece : List ℕ} {old : Tables} {port : Port} (h : Comes link piece old port)
    (waits : Waits port.link.incoming piece) where
  given_none : (cut_behind (link_row port) piece).given ≡ []
  given_none =
      ap (λ (c : Deframing). c.given) (sym (cut_same h))
      ∙ (ap (λ (ps : List Packet). ps ++ (cut_of port.link.incoming piece).given) (sym (read_out h).given)
      ∙ (ap (λ (c : Deframing). c.given) waits ∙ (read_out h).given))

  fault_none : (cut_behind (link_row port) piece).fault ≡ None
  fault_none = ap (λ (c : Deframing). c.fault) (sym (cut_same h)) ∙ (ap (λ (c : Deframing). c.fault) waits ∙ (read_out h).sound)

  rest_is : (cut_behind (link_row port) piece).rest ≡ port.link.incoming.rest ++ piece
  rest_is = ap (λ (c : Deframing). c.rest) (sym (cut_same h)) ∙ ap (λ (c : Deframing). c.rest) waits

  pub waited_told : (log : Log) → Tells (Recv link piece) log old log
  waited_told log =
      let past = state h.reached.history in
      let cut = cut_behind (link_row port) piece in
      let quiet : TellsSame [] (rule (Recv link piece) past).told =
      subst (λ (m : Made). TellsSame [] m.told) (sym (receives_piece h.reached.history link piece (link_row port) (shown_past h)))
      (nothing_told link cut past given_none fault_none) in
      let rests = (all_send_nothing h.reached.history h.reached.legal).part link piece (link_row port) (shown_past h)
      (record { given = given_none; sound = fault_none }) in
      subst (λ (s : State). Records (step s (Recv link piece)).told log old log) (sym (is_past h))
      (record { is = λ rows watches. quiet rows log ∙ rule_tells (Recv link piece) past rests rows log })

  module _ (new : Tables) (others : new ≡ record old { links = new.links })
      (here : at link new.links.entries ≡ option_map (waiting piece) (at link old.links.entries))
      (apart : (k : ℕ) → k ≢ link → at k new.links.entries ≡ at k old.links.entries) where
    puts : PutsIncoming link (record port.link.incoming { rest = port.link.incoming.rest ++ piece }) old new
    puts = record {
      others = others;
      here = here ∙ (ap (option_map (waiting piece)) h.here
          ∙ sym (ap (option_map (reading (record port.link.incoming { rest = port.link.incoming.rest ++ piece }))) h.here));
      apart = apart;
    }

    step_waited : state_of new ≡ (step (state_of old) (Recv link piece)).state
    step_waited =
        put_state link (record port.link.incoming { rest = port.link.incoming.rest ++ piece }) old new puts
        ∙ (ap (λ (rest : List ℕ). to_link link (with_rest rest) (state_of old)) (sym rest_is)
        ∙ (sym (nothing_behind link (cut_behind (link_row port) piece) (state_of old) given_none fault_none)
        ∙ (ap (behind link (cut_behind (link_row port) piece)) (is_past h)
        ∙ (sym (behind_piece h.reached.history link piece (link_row port) (shown_past h))
        ∙ (sym ((all_send_nothing h.reached.history h.reached.legal).part link piece (link_row port) (shown_past h)
        (record { given = given_none; sound = fault_none }))
        ∙ ap (λ (s : State). (step s (Recv link piece)).state) (sym (is_past h)))))))

    out_at : (k : ℕ) → (k ≡ link) ⊎ (k ≢ link) → IsReadOutAt (at k new.links.entries)
    out_at k (inl same) =
        subst (λ (q : ℕ). IsReadOutAt (at q new.links.entries)) (sym same)
        (subst IsReadOutAt (sym (here ∙ ap (option_map (waiting piece)) h.here))
        (record { given = (read_out h).given; sound = (read_out h).sound; sums = (read_out h).sums }))
    out_at k (inr other) = subst IsReadOutAt (sym (apart k other)) (h.fit.read_out k)

    pub waited_made : Makes (Recv link piece) old new
    waited_made = record {
      state = step_waited;
      fit = record {
        provided = put_provided link (record port.link.incoming { rest = port.link.incoming.rest ++ piece }) old new puts h.fit.provided;
        read_out = λ k. out_at k (cases_eq k link);
      };
    }

-- ---- where there was no memory
pub same_kept : (old new : Tables) → IsFit old → new ≡ record old { links = new.links }
    → ((k : ℕ) → at k new.links.entries ≡ at k old.links.entries)
    → Keeps old new
same_kept old new fit others same = widened old new fit (record {
  others = others ∙ sym (ap (λ (t : Tables). record old { clients = t.clients; links = new.links }) others);
  clients = λ c.
      subst (λ (t : Tables). WidensRow WidensClient (at c old.clients.entries) (at c t.clients.entries)) (sym others)
      (same_client (at c old.clients.entries));
  links = like_ports old.links.entries new.links.entries same;
})
