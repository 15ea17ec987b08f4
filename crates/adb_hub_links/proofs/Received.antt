-- A piece that came on a link makes the step of its entry.
use Rattle.std.proofs.Common.{ℕ, ◌^◌, ◌<◌, ◌≡◌, ◌≢◌, ◌⊎◌, inl, inr, Bool, List, [], ◌∷◌, ◌++◌, get_or, Option, Some, None, refl, sym, ◌∙◌}
use Rattle.std.proofs.Common.{ap, subst}
use Rattle.std.proofs.lemmas.List.Elements.{All-from_get_or}
use Rattle.std.specs.Prelude.{option_map}
use Rattle.std.proofs.lemmas.Bool.{cases_eq}
use Rattle.adb_outside.specs.Tables.{at}
use Rattle.adb_outside.specs.Framing.{joined}
use Rattle.adb_wire.specs.Cutting.{framed, cut_packets}
use Rattle.adb_wire.specs.declared.packets.Packet.{Packet}
use Rattle.adb_wire.specs.Deframing.{Deframing}
use Rattle.adb_capture.specs.declared.entry.Entry.TheVariants.{Recv}
use Rattle.adb_history.specs.Rows.{State}
use Rattle.adb_history.specs.Events.{Made, then_also}
use Rattle.adb_history.specs.Machine.{History, IsLegal, IsInRange, May, state, step, ups}
use Rattle.adb_history.specs.Bytes.{bytes_received}
use Rattle.adb_history.specs.Tied.{IsReadAs}
use Rattle.adb_history.proofs.Received.{all_rest_past_packets}
use Rattle.adb_hub_tables.specs.declared.ports.Port.{Port}
use Rattle.adb_hub_tables.specs.declared.tables.Tables.{Tables}
use Rattle.adb_hub_rules.specs.Came.{packets_of}
use Rattle.adb_hub_tables.specs.Tables.{link_row, state_of}
use Rattle.adb_hub_tables.specs.Places.{StaysRead}
use Rattle.adb_hub_tables.specs.Endings.{Log, Records, Tells}
use Rattle.adb_hub_tables.specs.Fit.{IsReadOut, IsReadOutAt, IsFit, IsReached, Keeps, Makes}
use Rattle.adb_laws_resting.specs.Named.{cut_behind}
use Rattle.adb_hub_links.specs.declared.cutting.Cutting.{Cutting}
use Rattle.adb_hub_links.specs.Cutting.{IsCutTo, cut_of, cut_in}
use Rattle.adb_hub_links.specs.Settling.{LeavesNamed, HasSettled, settles}
use Rattle.adb_hub_links.proofs.Lawful.{receives_piece, leaves_named, whole, received_apart}

-- numbers and bytes of the code are in their ranges
pub in_range : (link : ℕ) (piece : List ℕ) → link < 2 ^ 32 → ((i : ℕ) → get_or piece i 0 < 256) → IsInRange (Recv link piece)
in_range link piece number bytes = record { owner = number; port = tt; bytes = All-from_get_or (λ b. b < 256) piece 0 (λ i _. bytes i) }

-- what was cut off is what there was to cut
pub all_cut : {c : Deframing} {cutting : Cutting} → IsCutTo c cutting → cut_in cutting ≡ c
all_cut {c} {cutting} cut =
    ap (λ (d : Deframing). record d { given = packets_of cutting.packets.items }) cut.incoming
    ∙ ap (λ (ps : List Packet). record c { given = ps }) cut.packets

pub rest_cut : {c : Deframing} {cutting : Cutting} → IsCutTo c cutting → cutting.incoming ≡ record (cut_in cutting) { given = [] }
rest_cut cut = cut.incoming ∙ ap (λ (d : Deframing). record d { given = [] }) (sym (all_cut cut))

-- A piece came on a link that lives, of tables between two entries.
pub record Comes (link : ℕ) (piece : List ℕ) (old : Tables) (port : Port) : Type 0 where
  pub fit : IsFit old
  pub reached : IsReached (state_of old)
  pub may : May (state_of old) (Recv link piece)
  pub range : IsInRange (Recv link piece)
  pub here : at link old.links.entries ≡ Some port

-- it does, of tables that were kept
pub comes_kept : {link : ℕ} {piece : List ℕ} {old now : Tables} {port : Port} → Comes link piece old port → Keeps old now
    → at link now.links.entries ≡ Some port → Comes link piece now port
comes_kept {link} {piece} h kept here = record {
  fit = kept.fit;
  reached = subst IsReached (sym kept.state) h.reached;
  may = subst (λ (s : State). May s (Recv link piece)) (sym kept.state) h.may;
  range = h.range;
  here = here;
}

module _ {link : ℕ} {piece : List ℕ} {old : Tables} {port : Port} (h : Comes link piece old port) where
  past : History
  past = h.reached.history

  pub is_past : state_of old ≡ state h.reached.history
  is_past = h.reached.is

  pub legal_now : IsLegal (Recv link piece ∷ h.reached.history)
  legal_now = (h.reached.legal, h.range, subst (λ (s : State). May s (Recv link piece)) is_past h.may)

  shown : (state_of old).links link ≡ Some (link_row port)
  shown = ap (option_map link_row) h.here

  pub shown_past : (state h.reached.history).links link ≡ Some (link_row port)
  shown_past = subst (λ (s : State). s.links link ≡ Some (link_row port)) is_past shown

  pub read_out : IsReadOut port
  read_out = subst IsReadOutAt h.here (h.fit.read_out link)

  -- the link's deframer cuts as the machine does
  pub cut_same : cut_of port.link.incoming piece ≡ cut_behind (link_row port) piece
  cut_same = ap (λ (sums : Bool). cut_packets (record { sums = sums }) (port.link.incoming.rest ++ piece)) read_out.sums

  module _ {c : Deframing} (cut : c ≡ cut_of port.link.incoming piece) where
    cut_is : c ≡ cut_behind (link_row port) piece
    cut_is = cut ∙ cut_same

    pub piece_leaves : LeavesNamed link c (state_of old)
    piece_leaves =
        subst (λ (d : Deframing). LeavesNamed link d (state_of old)) (sym cut_is)
        (subst (LeavesNamed link (cut_behind (link_row port) piece)) (sym is_past)
        (leaves_named h.reached.history link piece (link_row port) shown_past h.reached.legal))

    -- what the packets and the up rule make is the step
    step_is : settles link c (state_of old) ≡ step (state_of old) (Recv link piece)
    step_is =
        ap (λ (d : Deframing). settles link d (state_of old)) cut_is
        ∙ (ap (settles link (cut_behind (link_row port) piece)) is_past
        ∙ (ap (λ (m : Made). then_also m ups) (sym (receives_piece h.reached.history link piece (link_row port) shown_past))
        ∙ ap (λ (s : State). step s (Recv link piece)) (sym is_past)))

    pub piece_told : {before after : Log} → Records (settles link c (state_of old)).told before old after
        → Tells (Recv link piece) before old after
    piece_told {before} {after} records = subst (λ (m : Made). Records m.told before old after) step_is records

    module _ {incoming : Deframing} (rest : incoming ≡ record c { given = [] }) (new : Tables)
        (settled : HasSettled link c incoming old new) where
      step_made : state_of new ≡ (step (state_of old) (Recv link piece)).state
      step_made = settled.state ∙ ap (λ (m : Made). m.state) step_is

      now_is : state_of new ≡ state (Recv link piece ∷ h.reached.history)
      now_is = step_made ∙ ap (λ (s : State). (step s (Recv link piece)).state) is_past

      module _ (k : ℕ) (now : Port) (is : at k new.links.entries ≡ Some now) where
        read_as : IsReadAs (Recv link piece ∷ h.reached.history) k (link_row now)
        read_as =
            all_rest_past_packets (Recv link piece ∷ h.reached.history) legal_now k (link_row now)
            (subst (λ (s : State). s.links k ≡ Some (link_row now)) now_is (ap (option_map link_row) is))

        out_here : k ≡ link → IsReadOut now
        out_here same =
            let held : now.link.incoming ≡ record (cut_behind (link_row port) piece) { given = [] } =
            settled.here now (subst (λ (q : ℕ). at q new.links.entries ≡ Some now) same is)
            ∙ (rest ∙ ap (λ (d : Deframing). record d { given = [] }) cut_is) in
            let bytes = subst (λ (q : ℕ). framed (bytes_received q (Recv link piece ∷ h.reached.history))
            ≡ joined (framed (bytes_received link h.reached.history)).given (cut_behind (link_row port) piece)) (sym same)
            (whole h.reached.history link piece (link_row port) shown_past h.reached.legal) in
            record {
              given = ap (λ (d : Deframing). d.given) held;
              sound = ap (λ (d : Deframing). d.fault) held ∙ (sym (ap (λ (d : Deframing). d.fault) bytes) ∙ read_as.sound);
              sums = ap (λ (d : Deframing). d.reading.sums) held ∙ (sym (ap (λ (d : Deframing). d.reading.sums) bytes) ∙ read_as.sums);
            }

        out_apart : k ≢ link → (row : Option Port) → at k old.links.entries ≡ row → StaysRead row (Some now) → IsReadOut now
        out_apart other None was read = absurd read
        out_apart other (Some before) was read =
            let out : IsReadOut before = subst IsReadOutAt was (h.fit.read_out k) in
            let read_before : IsReadAs h.reached.history k (link_row before) =
            all_rest_past_packets h.reached.history h.reached.legal k (link_row before)
            (subst (λ (s : State). s.links k ≡ Some (link_row before)) is_past (ap (option_map link_row) was)) in
            let bytes = ap (λ (received : List ℕ). (framed received).reading.sums) (received_apart h.reached.history link k piece other) in
            record {
              given = ap (λ (d : Deframing). d.given) read ∙ out.given;
              sound = ap (λ (d : Deframing). d.fault) read ∙ out.sound;
              sums = ap (λ (d : Deframing). d.reading.sums) read ∙ (out.sums ∙ (sym read_before.sums ∙ (sym bytes ∙ read_as.sums)));
            }

      out_at : (k : ℕ) → IsReadOutAt (at k new.links.entries)
      out_at k = by_row (at k new.links.entries) refl (cases_eq k link)
        where
          by_row : (row : Option Port) → at k new.links.entries ≡ row → (k ≡ link) ⊎ (k ≢ link) → IsReadOutAt row
          by_row None is place = tt
          by_row (Some now) is (inl same) = out_here k now is same
          by_row (Some now) is (inr other) =
              out_apart k now is other (at k old.links.entries) refl (subst (StaysRead (at k old.links.entries)) is (settled.apart k other))

      pub piece_made : Makes (Recv link piece) old new
      piece_made = record { state = step_made; fit = record { provided = settled.provided; read_out = out_at } }
