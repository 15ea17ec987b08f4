-- The slices of a stream begin with its packets.
use Rattle.std.proofs.Common.{ℕ, ◌≡◌, ◌≤◌, ◌<◌, map, List, [], ◌∷◌, ◌++◌, length, take, drop, Some, None, Ok, zero, suc, refl, sym, ◌∙◌, ap}
use Rattle.std.proofs.Common.{subst, arith, inl, inr}
use Rattle.std.proofs.lemmas.Bool.{cases_lt}
use Rattle.std.proofs.lemmas.List.{length-drop, take-append-drop, append_assoc}
use Rattle.std.proofs.lemmas.List.Elements.{All-nil, All-cons}
use Rattle.std.specs.List.{All, concat}
use Rattle.adb_outside.specs.declared.framer.Front.TheVariants.{More, Whole}
use Rattle.adb_outside.specs.Framing.{Cut}
use Rattle.adb_wire.specs.declared.headers.Head.{Head}
use Rattle.adb_wire.specs.declared.headers.HeadFault.{HeadFault}
use Rattle.adb_wire.specs.declared.headers.TheConstants.{HEADER_LEN}
use Rattle.adb_wire.specs.declared.packets.Packet.{Packet}
use Rattle.adb_wire.specs.declared.format.PacketFault.TheVariants.{Broken, BadSum}
use Rattle.adb_wire.specs.Header.{head_at}
use Rattle.adb_wire.specs.Format.{packet_len, packet_of}
use Rattle.adb_wire.specs.FormatLaws.{is_whole}
use Rattle.adb_wire.specs.Cutting.{Spells, Stops, Parts, Cuts}
use Rattle.adb_wire.specs.Slicing.{headed_len, slice_len, cut_slices, whole_of, open_of, IsSlice, AreSlices, HasSliced, Follow}
use Rattle.adb_wire.proofs.CuttingLaws.{behind, size_of, found}
use Rattle.adb_wire.proofs.Slices.{slice_short, slice_headed, slice_bounds, first_is_slice, front_more, front_whole, cut_step}

abbrev Slices : Type 0
Slices = Cut (Unit {0}) (List ℕ) ⊥

-- what is cut of bytes whose first slice is whole
first_slice : (bytes : List ℕ) (n : ℕ) → slice_len bytes ≡ n → n ≤ length bytes
    → ((cut_slices bytes).given ≡ take n bytes ∷ (cut_slices (drop n bytes)).given)
    × ((cut_slices bytes).rest ≡ (cut_slices (drop n bytes)).rest)
first_slice bytes n size fits =
    let c = cut_step bytes (Whole n) (front_whole bytes (omega (arith, size, fits)) ∙ ap Whole size) in
    (ap (λ (k : Slices). k.given) c, ap (λ (k : Slices). k.rest) c)

no_slice : (bytes : List ℕ) → length bytes < slice_len bytes → ((cut_slices bytes).given ≡ []) × ((cut_slices bytes).rest ≡ bytes)
no_slice bytes lt =
    let c = cut_step bytes More (front_more bytes lt) in
    (ap (λ (k : Slices). k.given) c, ap (λ (k : Slices). k.rest) c)

-- Of the slices of the bytes these packets come first, and then those of the rest.
record Lead (bytes : List ℕ) (packets : List Packet) (rest : List ℕ) : Type 0 where
  pub spelled : List (List ℕ)
  pub packets_are : map packet_of spelled ≡ packets
  pub slices : (cut_slices bytes).given ≡ spelled ++ (cut_slices rest).given
  pub same_rest : (cut_slices bytes).rest ≡ (cut_slices rest).rest

lead : (before : List Packet) (bytes : List ℕ) (packets : List Packet) (rest : List ℕ)
    → Spells before bytes packets rest → Lead bytes packets rest
lead before bytes [] rest h = record {
  spelled = [];
  packets_are = refl;
  slices = ap (λ b. (cut_slices b).given) h;
  same_rest = ap (λ b. (cut_slices b).rest) h;
}
lead before bytes (p ∷ packets) rest h =
    let more : List ℕ = h.0 in
    let f = found before p bytes more h.1 in
    let w = is_whole (behind before) bytes (size_of p) f.front in
    let size : slice_len bytes ≡ size_of p = slice_headed bytes (omega (arith, w.fits)) ∙ (ap headed_len w.read ∙ sym w.size) in
    let first = first_slice bytes (size_of p) size (omega (arith, w.size, w.fits)) in
    let others = lead (before ++ p ∷ []) more packets rest h.2 in
    let slice : List ℕ = take (size_of p) bytes in
    record {
      spelled = slice ∷ others.spelled;
      packets_are = ap (λ q. q ∷ map packet_of others.spelled) f.packet ∙ ap (λ qs. p ∷ qs) others.packets_are;
      slices = first.0 ∙ (ap (λ b. slice ∷ (cut_slices b).given) f.rest ∙ ap (λ s. slice ∷ s) others.slices);
      same_rest = first.1 ∙ (ap (λ b. (cut_slices b).rest) f.rest ∙ others.same_rest);
    }

-- where a stream has no fault, its rest is no whole slice
rest_short : (before : List Packet) (rest : List ℕ) → Stops before rest None → length rest < slice_len rest
rest_short before rest (inl lt) = omega (arith, lt, slice_short rest lt)
rest_short before rest (inr h) = elim (cases_lt (length rest) HEADER_LEN) [
  | inl lt ↦ omega (arith, lt, slice_short rest lt)
  | inr le ↦ omega (arith, h.2, slice_headed rest le ∙ ap headed_len h.1)
]

-- bytes in which no slice is whole are slices: none
no_slices : (bytes : List ℕ) → length bytes < slice_len bytes → AreSlices bytes (cut_slices bytes).given (cut_slices bytes).rest
no_slices bytes lt =
    let n = no_slice bytes lt in
    record {
      each = subst (All IsSlice) (sym n.0) (All-nil IsSlice);
      spelled = ap (λ slices. concat slices ++ (cut_slices bytes).rest) n.0 ∙ n.1;
      short = subst (λ (rest : List ℕ). length rest < slice_len rest) (sym n.1) lt;
    }

-- bytes that begin with a whole slice are that one and those of the others
one_slice : (bytes : List ℕ) (others : List (List ℕ)) (rest : List ℕ) → slice_len bytes ≤ length bytes
    → AreSlices (drop (slice_len bytes) bytes) others rest → AreSlices bytes (take (slice_len bytes) bytes ∷ others) rest
one_slice bytes others rest le h = record {
  each = All-cons IsSlice (take (slice_len bytes) bytes) others (first_is_slice bytes le) h.each;
  spelled = append_assoc (take (slice_len bytes) bytes) (concat others) rest
      ∙ (ap (λ b. take (slice_len bytes) bytes ++ b) h.spelled ∙ take-append-drop (slice_len bytes) bytes);
  short = h.short;
}

-- what is cut of bytes are their slices
are_slices : (fuel : ℕ) (bytes : List ℕ) → length bytes ≤ fuel → AreSlices bytes (cut_slices bytes).given (cut_slices bytes).rest
are_slices zero bytes most = no_slices bytes (omega (arith, most, slice_bounds bytes))
are_slices (suc fuel) bytes most = elim (cases_lt (length bytes) (slice_len bytes)) [
  | inl lt ↦ no_slices bytes lt
  | inr le ↦
      let first = first_slice bytes (slice_len bytes) refl le in
      let behind : List ℕ = drop (slice_len bytes) bytes in
      let others = are_slices fuel behind (omega (arith, most, le, length-drop (slice_len bytes) bytes, slice_bounds bytes)) in
      let all = one_slice bytes (cut_slices behind).given (cut_slices behind).rest le others in
      subst (λ slices. AreSlices bytes slices (cut_slices bytes).rest) (sym first.0)
      (subst (AreSlices bytes (take (slice_len bytes) bytes ∷ (cut_slices behind).given)) (sym first.1) all)
]

-- where it has a header with a fault, that header is the next slice
rest_broken : (before : List Packet) (rest : List ℕ) (fault : HeadFault) → Stops before rest (Some (Broken fault))
    → (more : List (List ℕ)) × ((cut_slices rest).given ≡ take HEADER_LEN rest ∷ more)
rest_broken before rest fault h =
    let size : slice_len rest ≡ HEADER_LEN = slice_headed rest h.0 ∙ ap headed_len h.1 in
    ((cut_slices (drop HEADER_LEN rest)).given, (first_slice rest HEADER_LEN size h.0).0)

-- where it has a packet with a wrong check word, that packet is the next slice
rest_bad_sum : (before : List Packet) (rest : List ℕ) (said is : ℕ) → Stops before rest (Some (BadSum said is))
    → (head : Head) × (more : List (List ℕ)) × (head_at rest ≡ Ok head) × ((cut_slices rest).given ≡ take (packet_len head) rest ∷ more)
rest_bad_sum before rest said is h =
    let head : Head = h.0 in
    let size : slice_len rest ≡ packet_len head = slice_headed rest (omega (arith, h.2)) ∙ ap headed_len h.1 in
    (head, (cut_slices (drop (packet_len head) rest)).given, h.1, (first_slice rest (packet_len head) size h.2).0)

pub follow : (fed : List ℕ) (gave : List (List ℕ)) (held : List ℕ) (parts : Parts) → HasSliced fed gave held → Cuts fed parts
    → Follow (gave ++ whole_of held) (open_of held) parts
follow fed gave held parts h c =
    let l = lead [] fed parts.packets parts.rest c.spelled in
    record {
      spelled = l.spelled;
      others = (cut_slices parts.rest).given;
      begins = sym h.slices ∙ l.slices;
      packets = l.packets_are;
      behind = subst (AreSlices parts.rest (cut_slices parts.rest).given) (sym l.same_rest ∙ h.rest)
          (are_slices (length parts.rest) parts.rest (omega arith));
      sound = λ none.
          let r = no_slice parts.rest (rest_short parts.packets parts.rest (subst (Stops parts.packets parts.rest) none c.stops)) in
          (r.0, sym h.rest ∙ (l.same_rest ∙ r.1));
      broken = λ fault some. rest_broken parts.packets parts.rest fault (subst (Stops parts.packets parts.rest) some c.stops);
      bad_sum = λ said is some. rest_bad_sum parts.packets parts.rest said is (subst (Stops parts.packets parts.rest) some c.stops);
    }
