-- What laws on histories say of a piece that comes on a link.
use Rattle.std.proofs.Common.{ℕ, ◌≡◌, ◌≢◌, ◌≤◌, Bool, List, ◌∷◌, ◌++◌, cond, zero, suc, Option, Some, refl, sym, ◌∙◌, ap, subst}
use Rattle.std.specs.Prelude.{◌&&◌, not}
use Rattle.std.proofs.lemmas.Bool.{eq-eqb, ne_eqb}
use Rattle.adb_outside.specs.Framing.{joined}
use Rattle.adb_wire.specs.Cutting.{framed}
use Rattle.adb_wire.specs.declared.headers.TheConstants.{MAX_PAYLOAD}
use Rattle.adb_capture.specs.declared.entry.Entry.TheVariants.{Recv}
use Rattle.adb_history.specs.Rows.{Link, State}
use Rattle.adb_history.specs.Links.{maxdata_of}
use Rattle.adb_history.specs.Flow.{up, up_all}
use Rattle.adb_history.specs.Machine.{History, IsLegal, state, rule}
use Rattle.adb_history.specs.Bytes.{is_lost, bytes_received}
use Rattle.adb_history.specs.Events.{Made}
use Rattle.adb_history.specs.Packets.{receives_on, receives_cut}
use Rattle.adb_history.proofs.Received.{ReadTie, framed_piece, received}
use Rattle.adb_history.proofs.Sweep.{up_to}
use Rattle.adb_hub_rules.specs.Sweep.{CoversUp}
use Rattle.adb_laws_resting.specs.Named.{granted, AllStay, cut_behind}
use Rattle.adb_laws_resting.specs.Resting.{AllSized}
use Rattle.adb_laws_resting.proofs.NamedStreams.{all_leave_still}
use Rattle.adb_laws_resting.proofs.RestingDevices.{sized}
use Rattle.adb_hub_links.specs.Settling.{behind, LeavesNamed}

-- the up rule leaves the devices
up_devices : (l : ℕ) (s : State) → (up l s).state.devices ≡ s.devices
up_devices l s =
    up_to (λ t. t.devices ≡ s.devices) l s
    (record { stays = λ idle. refl; sends = λ x links e. refl; ends = λ x links e. refl })

up_all_devices : (k : ℕ) (s : State) → (up_all k s).state.devices ≡ s.devices
up_all_devices zero s = refl
up_all_devices (suc k) s = up_devices (suc k) (up_all k s).state ∙ up_all_devices k s

module _ (h : History) (link : ℕ) (piece : List ℕ) (row : Link) (here : (state h).links link ≡ Some row) where
  -- the rule cuts what the link keeps, and the piece
  pub receives_piece : rule (Recv link piece) (state h) ≡ receives_cut link (cut_behind row piece) (state h)
  receives_piece = ap (λ (o : Option Link). receives_on o link piece (state h)) here

  pub behind_piece : (rule (Recv link piece) (state h)).state ≡ behind link (cut_behind row piece) (state h)
  behind_piece = ap (λ (m : Made). m.state) receives_piece

  pub leaves_named : IsLegal h → LeavesNamed link (cut_behind row piece) (state h)
  leaves_named legal =
      let still = all_leave_still h legal link row here piece in
      let ruled = (rule (Recv link piece) (state h)).state in
      record {
        stays = subst (AllStay (granted (cut_behind row piece).given) (state h)) behind_piece still.stays;
        sized = subst AllSized behind_piece
            (λ t. subst (λ devices. maxdata_of t devices ≤ MAX_PAYLOAD) (up_all_devices ruled.drawn ruled) (sized (Recv link piece ∷ h) t));
        covers = λ ids named. subst (λ (s : State). CoversUp ids s.drawn s) behind_piece (still.covers ids named);
      }

  -- the bytes of the link are cut as the piece is
  module _ (legal : IsLegal h) where
    before : ReadTie (is_lost link h) (Some row) (bytes_received link h)
    before = subst (λ (o : Option Link). ReadTie (is_lost link h) o (bytes_received link h)) here ((received h legal).links link)

    more : bytes_received link (Recv link piece ∷ h) ≡ bytes_received link h ++ piece
    more = ap (λ (b : Bool). cond (b && not (is_lost link h)) (bytes_received link h ++ piece)
        (bytes_received link h)) (eq-eqb link link refl)
        ∙ ap (λ (b : Bool). cond (not b) (bytes_received link h ++ piece) (bytes_received link h)) before.1

    pub whole : framed (bytes_received link (Recv link piece ∷ h)) ≡ joined (framed (bytes_received link h)).given (cut_behind row piece)
    whole = ap framed more ∙ framed_piece (bytes_received link h) piece row before.0

-- what was received of another link stays
pub received_apart : (h : History) (link k : ℕ) (piece : List ℕ) → k ≢ link → bytes_received k (Recv link piece ∷ h) ≡ bytes_received k h
received_apart h link k piece other =
    ap (λ (b : Bool). cond (b && not (is_lost k h)) (bytes_received k h ++ piece) (bytes_received k h)) (ne_eqb link k (λ e. other (sym e)))
