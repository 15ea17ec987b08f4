-- The device of a link of a load is there, as it said who it is.
use Rattle.std.proofs.Common.{ℕ, ◌+◌, ◌≡◌, ◌<◌, ◌≤◌, ◌⊎◌, inl, inr, Bool, true, false, cond, List, [], ◌∷◌, ◌++◌, find, Option, Some, None}
use Rattle.std.proofs.Common.{is_some}
use Rattle.std.proofs.Common.{refl, sym, ◌∙◌, ap, subst, arith}
use Rattle.std.specs.Prelude.{nat_eq, ◌||◌, codes, option_map, unwrap_or}
use Rattle.std.specs.List.{list_any}
use Rattle.std.proofs.lemmas.Bool.{eq-eqb, ne_eqb, cases_eq}
use Rattle.std.proofs.lemmas.List.{append-nil, append_assoc, reverse-append}
use Rattle.std.proofs.lemmas.List.Folds.{list_any-append}
use Rattle.adb_outside.specs.Tables.{at}
use Rattle.adb_outside.proofs.TableLaws.{shows}
use Rattle.adb_outside.specs.declared.kinds.Kind.TheVariants.{Usb}
use Rattle.adb_outside.specs.declared.identity.Identity.{Identity}
use Rattle.adb_outside.specs.declared.identity.State.TheVariants.{Device}
use Rattle.adb_banner.specs.Banner.{identity_of, last_value}
use Rattle.adb_registry.specs.Row.{new_row}
use Rattle.adb_registry.specs.declared.row.Row.{Row}
use Rattle.adb_wire.specs.declared.packets.Packet.{Packet}
use Rattle.adb_wire.specs.declared.command.Command.TheVariants.{Okay, Wrte, Clse}
use Rattle.adb_wire.specs.Format.{is_cnxn}
use Rattle.adb_wire.specs.Cutting.{framed}
use Rattle.adb_history.specs.Links.{is_connected, is_connected_row, is_credit, is_credit_row, maxdata_of}
use Rattle.adb_history.specs.Machine.{History}
use Rattle.adb_history.specs.Bytes.{is_lost, bytes_received}
use Rattle.adb_history.specs.Book.{plugged, plugged_count, is_refused, last_cnxn, row_by, row_with, device_of, devices_if}
use Rattle.adb_load.specs.declared.act.Act.{Act}
use Rattle.adb_load.specs.declared.act.Act.TheVariants.{Plug, Greet, Come, Ask, Accept, Write, Acknowledge, Answer, Leave, Close}
use Rattle.adb_load.specs.declared.act.Piece.TheVariants.{Whole, Head, Tail}
use Rattle.adb_load.specs.Acts.{serial_of, link_of, down_bytes, acts_from}
use Rattle.adb_laws_loads.proofs.Links.{Cutting, past_of, past_then, greeting_packet, packet_to, on_link, packets_by, packets_on}
use Rattle.adb_laws_loads.proofs.Links.{packets_then, BringsOn}

-- ---- who a device says that it is
abbrev pub identity : Identity
identity = record { system = codes "device"; serial = []; product = []; model = []; device = []; features = codes "shell_v2" }

pub says_who : identity_of greeting_packet.payload ≡ Some identity
unfolding identity_of last_value
says_who = refl

-- the device of a link that said so
abbrev pub device_row : ℕ → Row
device_row t = record {
  id = t;
  kind = Usb;
  serial = serial_of t;
  state = Device;
  identity = Some identity;
  version = 0x01000001;
  maxdata = 65536;
}

-- ---- its packets
-- no packet breaks its link
greeting_taken : is_refused greeting_packet ≡ false
unfolding identity_of last_value
greeting_taken = refl

link_taken : (t link : ℕ) (p : Packet) → is_refused p ≡ false → list_any is_refused (on_link t link p) ≡ false
link_taken t link p taken = go (nat_eq link t)
  where
    go : (here : Bool) → list_any is_refused (cond here (p ∷ []) []) ≡ false
    go true = ap (λ (b : Bool). b || false) taken
    go false = refl

act_taken : (t : ℕ) (act : Act) → list_any is_refused (packets_by t act) ≡ false
act_taken t (Greet link) = link_taken t link greeting_packet greeting_taken
act_taken t (Accept stream) = link_taken t (link_of stream) (packet_to Okay stream []) refl
act_taken t (Acknowledge stream) = link_taken t (link_of stream) (packet_to Okay stream []) refl
act_taken t (Answer stream from count Whole) = link_taken t (link_of stream) (packet_to Wrte stream (down_bytes stream from count)) refl
act_taken t (Answer stream from count Tail) = link_taken t (link_of stream) (packet_to Wrte stream (down_bytes stream from count)) refl
act_taken t (Close stream) = link_taken t (link_of stream) (packet_to Clse stream []) refl
act_taken t _ = refl

pub all_taken : (t : ℕ) (acts : List Act) → list_any is_refused (packets_on t acts) ≡ false
all_taken t [] = refl
all_taken t (act ∷ acts) =
    list_any-append is_refused (packets_by t act) (packets_on t acts)
    ∙ (ap (λ (b : Bool). b || list_any is_refused (packets_on t acts)) (act_taken t act) ∙ all_taken t acts)

-- The last CNXN of some packets, with one more packet.
last_more : (packets : List Packet) (p : Packet) → last_cnxn (packets ++ p ∷ []) ≡ cond (is_cnxn p.command) (Some p) (last_cnxn packets)
last_more packets p = ap (find (λ q. is_cnxn q.command)) (reverse-append packets (p ∷ []))

abbrev IsGreeted : List Packet → Type 0
IsGreeted packets = last_cnxn packets ≡ Some greeting_packet

-- a device that said who it is goes on so
link_greeted : (packets : List Packet) (t link : ℕ) (p : Packet) → (is_cnxn p.command ≡ false) ⊎ (p ≡ greeting_packet) → IsGreeted packets
    → IsGreeted (packets ++ on_link t link p)
link_greeted packets t link p other greeted = go (nat_eq link t) other
  where
    go : (here : Bool) → (is_cnxn p.command ≡ false) ⊎ (p ≡ greeting_packet)
        → last_cnxn (packets ++ cond here (p ∷ []) []) ≡ Some greeting_packet
    go true (inl no_cnxn) = last_more packets p ∙ (ap (λ (b : Bool). cond b (Some p) (last_cnxn packets)) no_cnxn ∙ greeted)
    go true (inr is) = ap (λ (q : Packet). last_cnxn (packets ++ q ∷ [])) is ∙ last_more packets greeting_packet
    go false either = ap last_cnxn (append-nil packets) ∙ greeted

none_greeted : (packets : List Packet) → IsGreeted packets → IsGreeted (packets ++ [])
none_greeted packets greeted = ap last_cnxn (append-nil packets) ∙ greeted

act_greeted : (t : ℕ) (packets : List Packet) (act : Act) → IsGreeted packets → IsGreeted (packets ++ packets_by t act)
act_greeted t packets (Greet link) greeted = link_greeted packets t link greeting_packet (inr refl) greeted
act_greeted t packets (Accept stream) greeted = link_greeted packets t (link_of stream) (packet_to Okay stream []) (inl refl) greeted
act_greeted t packets (Acknowledge stream) greeted = link_greeted packets t (link_of stream) (packet_to Okay stream []) (inl refl) greeted
act_greeted t packets (Answer stream from count Whole) greeted =
    link_greeted packets t (link_of stream) (packet_to Wrte stream (down_bytes stream from count)) (inl refl) greeted
act_greeted t packets (Answer stream from count Tail) greeted =
    link_greeted packets t (link_of stream) (packet_to Wrte stream (down_bytes stream from count)) (inl refl) greeted
act_greeted t packets (Close stream) greeted = link_greeted packets t (link_of stream) (packet_to Clse stream []) (inl refl) greeted
act_greeted t packets _ greeted = none_greeted packets greeted

acts_greeted : (t : ℕ) (packets : List Packet) (acts : List Act) → IsGreeted packets → IsGreeted (packets ++ packets_on t acts)
acts_greeted t packets [] greeted = none_greeted packets greeted
acts_greeted t packets (act ∷ acts) greeted =
    subst IsGreeted (append_assoc packets (packets_by t act) (packets_on t acts))
    (acts_greeted t (packets ++ packets_by t act) acts (act_greeted t packets act greeted))

-- a device says who it is
greets_now : (packets : List Packet) (t link : ℕ) → link ≡ t → IsGreeted (packets ++ on_link t link greeting_packet)
greets_now packets t link is =
    ap (λ (b : Bool). last_cnxn (packets ++ cond b (greeting_packet ∷ []) [])) (eq-eqb link t is) ∙ last_more packets greeting_packet

-- ---- the links that are there
-- A link was plugged in, and its device said who it is.
pub record IsThere (t : ℕ) (done : List Act) : Type 0 where
  pub plugged_in : plugged t (past_of done) ≡ Some (new_row t Usb (serial_of t))
  pub greeted : last_cnxn (packets_on t done) ≡ Some greeting_packet

-- So many links are there, from 1 on, and no other.
pub record AreOnline (count : ℕ) (done : List Act) : Type 0 where
  pub counted : plugged_count (past_of done) ≡ count
  pub there : (t : ℕ) → 0 < t → t ≤ count → IsThere t done
  pub others : (t : ℕ) → (t ≡ 0) ⊎ (count < t) → plugged t (past_of done) ≡ None

pub online_at_first : AreOnline 0 []
online_at_first = record { counted = refl; there = λ t some le. absurd (omega (arith, some, le)); others = λ t past. refl }

-- the next link is plugged in, if an act plugs one in
abbrev pub PlugsNext : (count : ℕ) → Act → Type 0
PlugsNext count (Plug link) = link ≡ count + 1
PlugsNext count _ = Unit {0}

abbrev pub plugged_after : (count : ℕ) → Act → ℕ
plugged_after count (Plug link) = count + 1
plugged_after count _ = count

module _ (count : ℕ) (done : List Act) (online : AreOnline count done) where
  -- nothing is plugged in
  quiet_online : (acts : List Act) → ((t : ℕ) → plugged t (past_of acts ++ past_of done) ≡ plugged t (past_of done))
      → plugged_count (past_of acts ++ past_of done) ≡ plugged_count (past_of done) → AreOnline count (done ++ acts)
  quiet_online acts same counts = record {
    counted = ap plugged_count (past_then done acts) ∙ (counts ∙ online.counted);
    there = λ t some le. record {
      plugged_in = ap (plugged t) (past_then done acts) ∙ (same t ∙ (online.there t some le).plugged_in);
      greeted = ap last_cnxn (packets_then t done acts) ∙ acts_greeted t (packets_on t done) acts (online.there t some le).greeted;
    };
    others = λ t past. ap (plugged t) (past_then done acts) ∙ (same t ∙ online.others t past);
  }

  plug_online : (link : ℕ) → link ≡ count + 1 → AreOnline (count + 1) (done ++ acts_from (Plug link))
  plug_online link next = record {
    counted = ap plugged_count (past_then done acts) ∙ ap (λ (n : ℕ). n + 1) online.counted;
    there = λ t some le. go t some le (cases_eq t link);
    others = λ t past. ap (plugged t) (past_then done acts) ∙ (elsewhere t (λ is. not_link t is past) ∙ online.others t (weaker t past));
  }
    where
      acts : List Act
      acts = Plug link ∷ Greet link ∷ []

      not_link : (t : ℕ) → link ≡ t → (t ≡ 0) ⊎ (count + 1 < t) → ⊥
      not_link t is (inl zeroth) = omega (arith, is, next, zeroth)
      not_link t is (inr past) = omega (arith, is, next, past)

      weaker : (t : ℕ) → (t ≡ 0) ⊎ (count + 1 < t) → (t ≡ 0) ⊎ (count < t)
      weaker t (inl zeroth) = inl zeroth
      weaker t (inr past) = inr (omega (arith, past))

      elsewhere : (t : ℕ) → (link ≡ t → ⊥) → plugged t (past_of acts ++ past_of done) ≡ plugged t (past_of done)
      elsewhere t apart = ap (λ (b : Bool). cond b (Some (new_row t Usb (serial_of link))) (plugged t (past_of done))) (ne_eqb link t apart)

      go : (t : ℕ) → 0 < t → t ≤ count + 1 → (t ≡ link) ⊎ (t ≡ link → ⊥) → IsThere t (done ++ acts)
      go t some le (inl is) = record {
        plugged_in = ap (plugged t) (past_then done acts)
            ∙ (ap (λ (b : Bool). cond b (Some (new_row t Usb (serial_of link))) (plugged t (past_of done))) (eq-eqb link t (sym is))
            ∙ ap (λ (n : ℕ). Some (new_row t Usb (serial_of n))) (sym is));
        greeted = ap last_cnxn (packets_then t done acts)
            ∙ (ap (λ (ps : List Packet). last_cnxn (packets_on t done ++ ps)) (append-nil (on_link t link greeting_packet))
            ∙ greets_now (packets_on t done) t link (sym is));
      }
      go t some le (inr apart) =
          let before = online.there t some (omega (arith, le, next, apart)) in
          record {
            plugged_in = ap (plugged t) (past_then done acts) ∙ (elsewhere t (λ is. apart (sym is)) ∙ before.plugged_in);
            greeted = ap last_cnxn (packets_then t done acts) ∙ acts_greeted t (packets_on t done) acts before.greeted;
          }

  -- after the acts of one more turn
  pub turn_online : (a : Act) → PlugsNext count a → AreOnline (plugged_after count a) (done ++ acts_from a)
  turn_online (Plug link) next = plug_online link next
  turn_online (Greet link) next = quiet_online (acts_from (Greet link)) (λ t. refl) refl
  turn_online (Come stream) next = quiet_online (acts_from (Come stream)) (λ t. refl) refl
  turn_online (Ask stream) next = quiet_online (acts_from (Ask stream)) (λ t. refl) refl
  turn_online (Accept stream) next = quiet_online (acts_from (Accept stream)) (λ t. refl) refl
  turn_online (Write stream from size) next = quiet_online (acts_from (Write stream from size)) (λ t. refl) refl
  turn_online (Acknowledge stream) next = quiet_online (acts_from (Acknowledge stream)) (λ t. refl) refl
  turn_online (Answer stream from size Whole) next = quiet_online (acts_from (Answer stream from size Whole)) (λ t. refl) refl
  turn_online (Answer stream from size Head) next = quiet_online (acts_from (Answer stream from size Head)) (λ t. refl) refl
  turn_online (Answer stream from size Tail) next = quiet_online (acts_from (Answer stream from size Tail)) (λ t. refl) refl
  turn_online (Leave stream) next = quiet_online (acts_from (Leave stream)) (λ t. refl) refl
  turn_online (Close stream) next = quiet_online (acts_from (Close stream)) (λ t. refl) refl

-- ---- its row
abbrev row_from : Bool → Cutting → Option Row → Option Row
row_from lost c o = cond (lost || (is_some c.fault || list_any is_refused c.given)) None (option_map (row_by (last_cnxn c.given) c.given) o)

device_is : (t : ℕ) (done : List Act) → BringsOn t done
    → device_of t (past_of done) ≡ option_map (row_by (last_cnxn (packets_on t done)) (packets_on t done)) (plugged t (past_of done))
device_is t done brings =
    ap (λ (lost : Bool). row_from lost (framed (bytes_received t (past_of done))) (plugged t (past_of done))) brings.kept
    ∙ (ap (λ (c : Cutting). row_from false c (plugged t (past_of done))) brings.cut
    ∙ ap (λ (refused : Bool). cond refused None
    (option_map (row_by (last_cnxn (packets_on t done)) (packets_on t done)) (plugged t (past_of done))))
    (all_taken t done))

-- The device of a link that is there.
pub device_there : (t : ℕ) (done : List Act) → BringsOn t done → IsThere t done → device_of t (past_of done) ≡ Some (device_row t)
device_there t done brings there =
    device_is t done brings
    ∙ (ap (λ (o : Option Row). option_map (row_by (last_cnxn (packets_on t done)) (packets_on t done)) o) there.plugged_in
    ∙ (ap (λ (p : Option Packet). Some (row_by p (packets_on t done) (new_row t Usb (serial_of t)))) there.greeted
    ∙ ap (λ (who : Option Identity). Some (row_with who greeting_packet (new_row t Usb (serial_of t)))) says_who))

device_none : (t : ℕ) (h : History) → plugged t h ≡ None → device_of t h ≡ None
device_none t h none =
    ap (row_from (is_lost t h) (framed (bytes_received t h))) none
    ∙ go (is_lost t h || (is_some (framed (bytes_received t h)).fault || list_any is_refused (framed (bytes_received t h)).given))
  where
    go : (gone : Bool) → cond {A = Option Row} gone None None ≡ None
    go true = refl
    go false = refl

-- The devices are those of the links that are there.
module _ (count : ℕ) (done : List Act) (online : AreOnline count done) where
  pub at_device : (t : ℕ) → at t (devices_if false (past_of done)).rows ≡ device_of t (past_of done)
  at_device t = shows (λ n. device_of n (past_of done)) (plugged_count (past_of done))
      (device_none 0 (past_of done) (online.others 0 (inl refl)))
      (λ n above. device_none n (past_of done) (online.others n (inr (omega (arith, above, online.counted))))) t

  module _ (t : ℕ) (brings : BringsOn t done) (some : 0 < t) (le : t ≤ count) where
    pub at_online : at t (devices_if false (past_of done)).rows ≡ Some (device_row t)
    at_online = at_device t ∙ device_there t done brings (online.there t some le)

    pub connected_online : is_connected t (devices_if false (past_of done)) ≡ true
    connected_online = ap is_connected_row at_online

    pub plain_online : is_credit t (devices_if false (past_of done)) ≡ false
    plain_online = ap is_credit_row at_online

    pub maxdata_online : maxdata_of t (devices_if false (past_of done)) ≡ 65536
    maxdata_online = ap (λ (o : Option Row). unwrap_or (option_map (λ row. row.maxdata) o) 0) at_online
