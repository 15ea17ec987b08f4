-- The cutting in the protocol's words is what the framing computes.
use Rattle.std.proofs.Common.{ℕ, zero, suc, sum, ◌+◌, ◌^◌, ◌≡◌, ◌≤◌, ◌<◌, Bool, true, false, cond, List, [], ◌∷◌, ◌++◌, length, take, drop}
use Rattle.std.proofs.Common.{reverse, find}
use Rattle.std.proofs.Common.{Option, Some, None, IfSome, IfNone, option_to_list, Result, Ok, Err, refl, sym, ◌∙◌, ap, subst, arith, inl}
use Rattle.std.proofs.Common.{inr}
use Rattle.std.specs.Result.{OnOk}
use Rattle.std.proofs.Math.Nat.{mod-lt}
use Rattle.std.proofs.lemmas.Bool.{cases_lt}
use Rattle.std.proofs.lemmas.List.{length-append, length-drop, length-take, append-nil, append_assoc, reverse-append, take_at, drop_at}
use Rattle.std.proofs.lemmas.List.{drop-drop, drop-take, take-append-drop}
use Rattle.std.proofs.lemmas.List.Elements.{All-take, All-drop, All-append}
use Rattle.adb_outside.specs.declared.framer.Front.{Front}
use Rattle.adb_outside.specs.declared.framer.Front.TheVariants.{More, Bad, Whole}
use Rattle.adb_outside.specs.Framing.{uncut, joined, cut_by, Stands}
use Rattle.adb_outside.specs.Framing as framing
use Rattle.adb_outside.proofs.FramingLaws.{cut_first, cut_piece, fault_stays}
use Rattle.adb_wire.specs.declared.headers.Head.{Head}
use Rattle.adb_wire.specs.declared.headers.TheConstants.{HEADER_LEN}
use Rattle.adb_wire.specs.declared.packets.Packet.{Packet}
use Rattle.adb_wire.specs.declared.format.PacketFault.{PacketFault}
use Rattle.adb_wire.specs.declared.format.PacketFault.TheVariants.{Broken, BadSum}
use Rattle.adb_wire.specs.declared.format.PacketFormat.{PacketFormat}
use Rattle.adb_wire.specs.Header.{IsBytes, IsHead, byte_sum_of, header_bytes, head_at}
use Rattle.adb_wire.specs.Packet.{IsPacket, head_for, spelling, check_of}
use Rattle.adb_wire.specs.Format.{is_cnxn, may_carry, has_sums, payload_at, sum_fault, whole_front, packet_len, front_under, front_of}
use Rattle.adb_wire.specs.Format.{packet_under, packet_with, packet_of, format_after}
use Rattle.adb_wire.specs.FormatLaws.{head_same, front_short, front_headed, front_partial, front_full, Shows, short, broken, partial, full}
use Rattle.adb_wire.specs.FormatLaws.{shows, packets_are_framed}
use Rattle.adb_wire.specs.Cutting.{wants_behind, wants_sums, Begins, Spells, Stops, Parts, whole_packets, Cuts, cut_packets, framed}
use Rattle.adb_wire.specs.Cutting.{parts_of, Adds, IsNextOf, Continues}
use Rattle.adb_wire.specs.Deframing.{Deframing, StandsFor, held_after, Takes, Gives}
use Rattle.adb_wire.proofs.HeaderLaws.{head_again, head_spelled}

abbrev pub item : PacketFormat → List ℕ → Packet
item _ frame = packet_of frame

abbrev pub after : PacketFormat → List ℕ → PacketFormat
after format frame = format_after format (packet_of frame)

-- how the bytes behind these packets are read
abbrev pub behind : List Packet → PacketFormat
behind before = record { sums = wants_sums before }

-- ---- the last CNXN
last_of : (b : Bool) (p : Packet) (earlier : Option Packet) → wants_behind (cond b (Some p) earlier)
    ≡ cond b (has_sums p.arg0) (wants_behind earlier)
last_of true p earlier = refl
last_of false p earlier = refl

wants_push : (before : List Packet) (p : Packet) → wants_sums (before ++ p ∷ [])
    ≡ cond (is_cnxn p.command) (has_sums p.arg0) (wants_sums before)
wants_push before p =
    ap (λ ps. wants_behind (find (λ q. is_cnxn q.command) ps)) (reverse-append before (p ∷ []))
    ∙ last_of (is_cnxn p.command) p (find (λ q. is_cnxn q.command) (reverse before))

format_cases : (b : Bool) (x y : Bool) → ◌≡◌ {A = PacketFormat} (cond b (record { sums = x }) (record { sums = y }))
    (record { sums = cond b x y })
format_cases true x y = refl
format_cases false x y = refl

pub behind_push : (before : List Packet) (p : Packet) → format_after (behind before) p ≡ behind (before ++ p ∷ [])
behind_push before p =
    format_cases (is_cnxn p.command) (has_sums p.arg0) (wants_sums before) ∙ ap (λ b. record { sums = b }) (sym (wants_push before p))

-- ---- one packet that was spelled
abbrev pub size_of : Packet → ℕ
size_of p = HEADER_LEN + length p.payload

-- The bytes begin with that packet, and more follows.
pub record Found (before : List Packet) (p : Packet) (bytes more : List ℕ) : Type 0 where
  pub front : front_of (behind before) bytes ≡ Whole (size_of p)
  pub packet : packet_of (take (size_of p) bytes) ≡ p
  pub rest : drop (size_of p) bytes ≡ more

length_header : (head : Head) → length (header_bytes head) ≡ HEADER_LEN
length_header head = refl

pub found : (before : List Packet) (p : Packet) (bytes more : List ℕ) → Begins before p bytes more → Found before p bytes more
found before p bytes more b =
    let head : Head = head_for p b.check in
    let fits : IsHead head = record { arg0 = b.packet.arg0; arg1 = b.packet.arg1; size = b.packet.size; check = b.word } in
    let parts : bytes ≡ header_bytes head ++ (p.payload ++ more) = b.spelled ∙ append_assoc (header_bytes head) p.payload more in
    let whole : length (spelling p b.check) ≡ size_of p = length-append (header_bytes head) p.payload in
    let size : length bytes ≡ size_of p + length more = omega
    (arith, ap (length {A = ℕ}) b.spelled, length-append (spelling p b.check) more, whole) in
    let read : head_at bytes ≡ Ok head = ap head_at parts ∙ head_again head (p.payload ++ more) fits in
    let behind_head = drop_at (header_bytes head) (p.payload ++ more) HEADER_LEN refl in
    let payload : payload_at head bytes ≡ p.payload =
    ap (payload_at head) parts ∙ (ap (take (length p.payload)) behind_head ∙ take_at p.payload more (length p.payload) refl) in
    let sums : sum_fault (behind before) head (payload_at head bytes) ≡ None =
    ap (sum_fault (behind before) head) payload
    ∙ ap (λ (t : Bool). cond t None (Some (BadSum b.check (byte_sum_of p.payload)))) b.allowed in
    record {
      front = front_full (behind before) bytes head read (omega (arith, size)) ∙ ap (whole_front (size_of p)) sums;
      packet =
          ap packet_of (ap (take (size_of p)) b.spelled ∙ take_at (spelling p b.check) more (size_of p) whole)
          ∙ (ap (λ r. packet_with r (drop HEADER_LEN (spelling p b.check))) (head_again head p.payload fits)
          ∙ ap (packet_under head) (drop_at (header_bytes head) p.payload HEADER_LEN refl));
      rest = ap (drop (size_of p)) b.spelled ∙ drop_at (spelling p b.check) more (size_of p) whole;
    }

-- ---- where it stops
abbrev front_fault : Option PacketFault → Front PacketFault
front_fault None = More
front_fault (Some fault) = Bad fault

-- the fault of a check word that may not stand
abbrev sum_wrong : Head → List ℕ → PacketFault
sum_wrong head payload = BadSum head.check (byte_sum_of payload)

wrong_sum : (format : PacketFormat) (head : Head) (payload : List ℕ)
    → may_carry format.sums head.command head.check (byte_sum_of payload) ≡ false
    → sum_fault format head payload ≡ Some (sum_wrong head payload)
wrong_sum format head payload wrong = rw wrong refl

stop_front : (before : List Packet) (rest : List ℕ) (fault : Option PacketFault) → Stops before rest fault
    → front_of (behind before) rest ≡ front_fault fault
stop_front before rest None (inl lt) = front_short (behind before) rest lt
stop_front before rest None (inr h) = elim (cases_lt (length rest) HEADER_LEN) [
  | inl lt ↦ front_short (behind before) rest lt
  | inr le ↦ front_partial (behind before) rest h.0 le h.1 h.2
]
stop_front before rest (Some (Broken fault)) h = front_headed (behind before) rest (Err fault) h.0 h.1
stop_front before rest (Some (BadSum said is)) h =
    let payload = payload_at h.0 rest in
    let carries : ℕ → ℕ → Bool = λ said total. may_carry (wants_sums before) h.0.command said total in
    let wrong : carries h.0.check (byte_sum_of payload) ≡ false =
    ap (λ n. carries n (byte_sum_of payload)) (sym h.3) ∙ (ap (carries said) (sym h.4) ∙ h.5) in
    let same : sum_wrong h.0 payload ≡ BadSum said is = ap (λ n. BadSum n (byte_sum_of payload)) (sym h.3) ∙ ap (BadSum said) (sym h.4) in
    front_full (behind before) rest h.0 h.1 h.2
    ∙ (ap (whole_front (packet_len h.0)) (wrong_sum (behind before) h.0 payload wrong) ∙ ap Bad same)

-- what is cut of bytes whose front is that
abbrev cut_at_front : PacketFormat → List ℕ → Front PacketFault → Deframing
cut_at_front format bytes front = cut_by front_of item after format bytes front cut_packets

stop_cut : (before : List Packet) (rest : List ℕ) (fault : Option PacketFault)
    → cut_at_front (behind before) rest (front_fault fault) ≡ uncut (behind before) rest fault
stop_cut before rest None = refl
stop_cut before rest (Some fault) = refl

pub cut_step : (format : PacketFormat) (bytes : List ℕ) (front : Front PacketFault) → front_of format bytes ≡ front
    → cut_packets format bytes ≡ cut_at_front format bytes front
cut_step format bytes front e = cut_first front_of item after packets_are_framed format bytes ∙ ap (cut_at_front format bytes) e

-- what is held of bytes behind these packets that are cut so
abbrev cut_behind : List Packet → Parts → Deframing
cut_behind before parts =
    record {
      given = parts.packets;
      reading = behind (before ++ parts.packets);
      rest = parts.rest;
      fault =
          parts.fault;
    }

-- What is spelled and stops is what the framing computes.
pub spells_cut : (before : List Packet) (bytes : List ℕ) (packets : List Packet) (rest : List ℕ) (fault : Option PacketFault)
    → Spells before bytes packets rest × Stops (before ++ packets) rest fault
    → cut_packets (behind before) bytes ≡ cut_behind before (record { packets = packets; rest = rest; fault = fault })
spells_cut before bytes [] rest fault h =
    let here : Stops before rest fault = subst (λ ps. Stops ps rest fault) (append-nil before) h.1 in
    ap (cut_packets (behind before)) h.0 ∙ (cut_step (behind before) rest (front_fault fault) (stop_front before rest fault here)
    ∙ (stop_cut before rest fault ∙ ap (λ ps. uncut (behind ps) rest fault) (sym (append-nil before))))
spells_cut before bytes (p ∷ packets) rest fault h =
    let more : List ℕ = h.0.0 in
    let f = found before p bytes more h.0.1 in
    let n : ℕ = size_of p in
    let regrouped : (before ++ p ∷ []) ++ packets ≡ before ++ p ∷ packets = append_assoc before (p ∷ []) packets in
    let stops = subst (λ ps. Stops ps rest fault) (sym regrouped) h.1 in
    let held : List Packet → Deframing = λ ps. record { given = packets; reading = behind ps; rest = rest; fault = fault } in
    let others : cut_packets (behind (before ++ p ∷ [])) more ≡ held (before ++ p ∷ packets) =
    spells_cut (before ++ p ∷ []) more packets rest fault (h.0.2, stops)
    ∙ ap held regrouped in
    cut_step (behind before) bytes (Whole n) f.front
    ∙ (ap (λ q. joined (q ∷ []) (cut_packets (format_after (behind before) q) (drop n bytes))) f.packet
    ∙ (ap (λ s. joined (p ∷ []) (cut_packets s (drop n bytes))) (behind_push before p)
    ∙ (ap (λ b. joined (p ∷ []) (cut_packets (behind (before ++ p ∷ [])) b)) f.rest
    ∙ ap (joined (p ∷ [])) others)))

-- ---- what the framing computes is spelled and stops
pub record Sound (before : List Packet) (bytes : List ℕ) (c : Deframing) : Type 0 where
  pub spelled : Spells before bytes c.given c.rest
  pub stops : Stops (before ++ c.given) c.rest c.fault
  pub reading : c.reading ≡ behind (before ++ c.given)

sound_stop : (before : List Packet) (bytes : List ℕ) (fault : Option PacketFault) → Stops before bytes fault
    → Sound before bytes (uncut (behind before) bytes fault)
sound_stop before bytes fault h = record {
  spelled = refl;
  stops = subst (λ ps. Stops ps bytes fault) (sym (append-nil before)) h;
  reading = ap behind (sym (append-nil before));
}

-- The bytes begin with a packet of that header, all of which is there.
record IsUnder (bytes : List ℕ) (head : Head) : Type 0 where
  pub are : IsBytes bytes
  pub read : head_at bytes ≡ Ok head
  pub long : packet_len head ≤ length bytes

-- the payload of a packet that is there, the header of it, and the parts of the bytes
payload_there : (bytes : List ℕ) (head : Head) → IsUnder bytes head → length (payload_at head bytes) ≡ head.length
payload_there bytes head u = omega (arith, u.long, length-take head.length (drop HEADER_LEN bytes), length-drop HEADER_LEN bytes)

head_there : (bytes : List ℕ) (head : Head) → IsUnder bytes head → head_for (packet_under head (payload_at head bytes)) head.check ≡ head
head_there bytes head u =
    ap (λ (n : ℕ).
    record { command = head.command; arg0 = head.arg0; arg1 = head.arg1; length = n; check = head.check })
    (payload_there bytes head u)

packet_there : (bytes : List ℕ) (head : Head) → IsUnder bytes head
    → packet_of (take (packet_len head) bytes) ≡ packet_under head (payload_at head bytes)
packet_there bytes head u =
    let n : ℕ = packet_len head in
    let same = head_same (take n bytes) (drop n bytes) (omega (arith, u.long, length-take n bytes)) in
    let read : head_at (take n bytes) ≡ Ok head = sym same ∙ (ap head_at (take-append-drop n bytes) ∙ u.read) in
    ap (λ r. packet_with r (drop HEADER_LEN (take n bytes))) read ∙ ap (packet_under head) (drop-take HEADER_LEN head.length bytes)

bytes_there : (bytes : List ℕ) (head : Head) → IsUnder bytes head
    → bytes ≡ spelling (packet_under head (payload_at head bytes)) head.check ++ drop (packet_len head) bytes
bytes_there bytes head u =
    let n : ℕ = packet_len head in
    let payload : List ℕ = payload_at head bytes in
    let s = head_spelled bytes head (omega (arith, u.long)) u.are u.read in
    let parts : payload ++ drop head.length (drop HEADER_LEN bytes) ≡ drop HEADER_LEN bytes =
    take-append-drop head.length (drop HEADER_LEN bytes) in
    let behind_head : drop HEADER_LEN bytes ≡ payload ++ drop n bytes =
    sym parts ∙ ap (λ rest. payload ++ rest) (drop-drop head.length HEADER_LEN bytes) in
    s.1 ∙ (ap (λ rest. header_bytes head ++ rest) behind_head
    ∙ (sym (append_assoc (header_bytes head) payload (drop n bytes))
    ∙ ap (λ h. (header_bytes h ++ payload) ++ drop n bytes) (sym (head_there bytes head u))))

-- a whole packet whose check word may stand
good : (before : List Packet) (bytes : List ℕ) (head : Head) → IsUnder bytes head
    → sum_fault (behind before) head (payload_at head bytes) ≡ None
    → Begins before (packet_of (take (packet_len head) bytes)) bytes (drop (packet_len head) bytes)
good before bytes head u sums =
    let payload : List ℕ = payload_at head bytes in
    let s = head_spelled bytes head (omega (arith, u.long)) u.are u.read in
    let payload_bytes = All-take (λ b. b < 256) head.length (drop HEADER_LEN bytes) (All-drop (λ b. b < 256) HEADER_LEN bytes u.are) in
    subst (λ q. Begins before q bytes (drop (packet_len head) bytes)) (sym (packet_there bytes head u)) (record {
      check = head.check;
      packet = record {
        arg0 = s.0.arg0;
        arg1 = s.0.arg1;
        size =
            omega (arith, payload_there bytes head u, s.0.size);
        bytes = payload_bytes;
      };
      word = s.0.check;
      allowed = no_fault (may_carry (wants_sums before) head.command head.check (byte_sum_of payload)) (sum_wrong head payload) sums;
      spelled = bytes_there bytes head u;
    })
  where
    no_fault : (b : Bool) (fault : PacketFault) → cond b None (Some fault) ≡ None → b ≡ true
    no_fault true fault e = refl
    no_fault false fault e = absurd cc

bad_sum : (before : List Packet) (bytes : List ℕ) (head : Head) (fault : PacketFault) → IsUnder bytes head
    → sum_fault (behind before) head (payload_at head bytes) ≡ Some fault → Stops before bytes (Some fault)
bad_sum before bytes head fault u e =
    let payload : List ℕ = payload_at head bytes in
    let t = by_test (may_carry (wants_sums before) head.command head.check (byte_sum_of payload)) (sum_wrong head payload) e in
    subst (λ f. Stops before bytes (Some f)) t.1 (head, u.read, u.long, refl, refl, t.0)
  where
    by_test : (b : Bool) (f : PacketFault) → cond b None (Some f) ≡ Some fault → (b ≡ false) × (f ≡ fault)
    by_test true f e = absurd cc
    by_test false f e = (refl, cc)

-- What is cut behind a first packet is right.
abbrev RightBehind : List Packet → List ℕ → Type 0
RightBehind before bytes = (p : Packet) (more : List ℕ) → Begins before p bytes more
    → Sound (before ++ p ∷ []) more (cut_packets (behind (before ++ p ∷ [])) more)

sound_packet : (before : List Packet) (bytes : List ℕ) (head : Head) → IsUnder bytes head → RightBehind before bytes
    → Sound before bytes (cut_at_front (behind before) bytes (front_under (behind before) bytes head))
sound_packet before bytes head u others = by_sum (sum_fault (behind before) head (payload_at head bytes)) refl
  where
    by_sum : (fault : Option PacketFault) → sum_fault (behind before) head (payload_at head bytes) ≡ fault
        → Sound before bytes (cut_at_front (behind before) bytes (whole_front (packet_len head) fault))
    by_sum (Some fault) sums = sound_stop before bytes (Some fault) (bad_sum before bytes head fault u sums)
    by_sum None sums =
        let n : ℕ = packet_len head in
        let p : Packet = packet_of (take n bytes) in
        let begins : Begins before p bytes (drop n bytes) = good before bytes head u sums in
        let rest = others p (drop n bytes) begins in
        let c : Deframing = cut_packets (behind (before ++ p ∷ [])) (drop n bytes) in
        let regrouped : (before ++ p ∷ []) ++ c.given ≡ before ++ p ∷ c.given = append_assoc before (p ∷ []) c.given in
        subst (λ s. Sound before bytes (joined (p ∷ []) (cut_packets s (drop n bytes)))) (sym (behind_push before p)) (record {
          spelled = (drop n bytes, begins, rest.spelled);
          stops = subst (λ ps. Stops ps c.rest c.fault) regrouped rest.stops;
          reading = rest.reading ∙ ap behind regrouped;
        })

sound_step : (before : List Packet) (bytes : List ℕ) → IsBytes bytes → RightBehind before bytes
    → (front : Front PacketFault) → Shows (behind before) bytes front → Sound before bytes (cut_at_front (behind before) bytes front)
sound_step before bytes fits others front shown = elim shown [
  | short lt is ↦ at front More is (sound_stop before bytes None (inl lt))
  | broken fault h e is ↦ at front (Bad (Broken fault)) is (sound_stop before bytes (Some (Broken fault)) (h, e))
  | partial head h e lt is ↦ at front More is (sound_stop before bytes None (inr (head, e, lt)))
  | full head e long is ↦ at front (front_under (behind before) bytes head) is
      (sound_packet before bytes head (record { are = fits; read = e; long = long }) others)
]
  where
    at : (f g : Front PacketFault) → f ≡ g → Sound before bytes (cut_at_front (behind before) bytes g)
        → Sound before bytes (cut_at_front (behind before) bytes f)
    at f g is sound = subst (λ f. Sound before bytes (cut_at_front (behind before) bytes f)) (sym is) sound

-- a packet has a byte at least, and what follows it is bytes
more_fits : (before : List Packet) (p : Packet) (bytes more : List ℕ) → IsBytes bytes → Begins before p bytes more
    → IsBytes more × (length more < length bytes)
more_fits before p bytes more fits b =
    let f = found before p bytes more b in
    let packet = length-append (header_bytes (head_for p b.check)) p.payload in (
      subst IsBytes f.rest (All-drop (λ x. x < 256) (size_of p) bytes fits),
      omega (arith, ap (length {A = ℕ}) b.spelled, length-append (spelling p b.check) more, packet, length_header (head_for p b.check)),
    )

sound : (k : ℕ) (before : List Packet) (bytes : List ℕ) → length bytes < k → IsBytes bytes
    → Sound before bytes (cut_packets (behind before) bytes)
sound zero before bytes h fits = absurd (omega (arith, h))
sound (suc k) before bytes h fits =
    subst (Sound before bytes) (sym (cut_first front_of item after packets_are_framed (behind before) bytes))
    (sound_step before bytes fits (further (sound k)) _ (shows (behind before) bytes))
  where
    further : ((earlier : List Packet) (more : List ℕ) → length more < k → IsBytes more
        → Sound earlier more (cut_packets (behind earlier) more))
        → RightBehind before bytes
    further right p more b =
        let m = more_fits before p bytes more fits b in right (before ++ p ∷ []) more (omega (arith, h, m.1)) m.0

-- ---- whole streams
pub parts_cut : (bytes : List ℕ) → IsBytes bytes → Cuts bytes (parts_of bytes)
parts_cut bytes fits =
    let s = sound (length bytes + 1) [] bytes (omega arith) fits in record { in_range = fits; spelled = s.spelled; stops = s.stops }

pub cuts_is : (bytes : List ℕ) (parts : Parts) → Cuts bytes parts → framed bytes ≡ cut_behind [] parts
cuts_is bytes parts h = spells_cut [] bytes parts.packets parts.rest parts.fault (h.spelled, h.stops)

pub cuts_same : (bytes : List ℕ) (parts others : Parts) → Cuts bytes parts → Cuts bytes others → parts ≡ others
cuts_same bytes parts others h i =
    let same : cut_behind [] parts ≡ cut_behind [] others = sym (cuts_is bytes parts h) ∙ cuts_is bytes others i in
    ap (λ (c : Deframing). record { packets = c.given; rest = c.rest; fault = c.fault }) same

-- ---- a deframer
abbrev pub start : PacketFormat
start = record { sums = false }

pub stands_for : (fed : List ℕ) (given : List Packet) (now : Deframing) → IsBytes fed
    → Stands front_of item after start fed given now → StandsFor fed given now
stands_for fed given now fits h =
    let s = sound (length fed + 1) [] fed (omega arith) fits in
    let c : Deframing = framed fed in
    let packets = subst (λ ps. Cuts fed (record { packets = ps; rest = c.rest; fault = c.fault })) h.frames (parts_cut fed fits) in
    record {
      rest = c.rest;
      cuts = subst (λ f. Cuts fed (record { packets = given ++ now.given; rest = c.rest; fault = f })) h.fault packets;
      open_rest = λ none. sym (h.open_rest none).0;
      open_reading = λ none. ap (λ (r : PacketFormat). r.sums) (sym (h.open_rest none).1 ∙ s.reading) ∙ ap wants_sums h.frames;
    }

pub for_stands : (fed : List ℕ) (given : List Packet) (now : Deframing) → StandsFor fed given now
    → Stands front_of item after start fed given now
for_stands fed given now h =
    let is = cuts_is fed (record { packets = given ++ now.given; rest = h.rest; fault = now.fault }) h.cuts in
    let same_rest = ap (λ (c : Deframing). c.rest) is in
    let same_reading = ap (λ (c : Deframing). c.reading) is in
    record {
      frames = ap (λ (c : Deframing). c.given) is;
      fault = ap (λ (c : Deframing). c.fault) is;
      open_rest = λ none. (
        same_rest ∙ sym (h.open_rest none),
        same_reading ∙ ap (λ (b : Bool). record { sums = b })
            (sym (h.open_reading none)),
      );
    }

-- ---- fronts
pub no_packet : (bytes : List ℕ) (parts : Parts) → Cuts bytes parts → (p : Packet) (more : List ℕ)
    → Begins parts.packets p parts.rest more → ⊥
no_packet bytes parts h p more b =
    clash parts.fault (sym (stop_front parts.packets parts.rest parts.fault h.stops) ∙ (found parts.packets p parts.rest more b).front)
  where
    clash : (f : Option PacketFault) → front_fault f ≡ Whole (size_of p) → ⊥
    clash None e = cc
    clash (Some fault) e = cc

pub continues : (front more : List ℕ) (parts all : Parts) → Cuts front parts → Cuts (front ++ more) all → Continues parts all
continues front more parts all h i = go parts.fault refl
  where
    a : framed front ≡ cut_behind [] parts
    a = cuts_is front parts h

    b : framed (front ++ more) ≡ cut_behind [] all
    b = cuts_is (front ++ more) all i

    other : Deframing
    other = cut_packets (framed front).reading ((framed front).rest ++ more)

    stays_at : (fault : PacketFault) → parts.fault ≡ Some fault → (all.packets ≡ parts.packets) × (all.fault ≡ Some fault)
    stays_at fault e =
        let first = ap (λ (c : Deframing). c.fault) a ∙ e in
        let stays = fault_stays front_of item after packets_are_framed (length front) start front more fault (omega arith) first in (
          sym (ap (λ (c : Deframing). c.given) b) ∙ (stays.0 ∙ ap (λ (c : Deframing). c.given) a),
          sym (ap (λ (c : Deframing). c.fault) b) ∙ stays.1,
        )

    go : (fault : Option PacketFault) → parts.fault ≡ fault → Continues parts all
    go None none =
        let piece = cut_piece front_of item after packets_are_framed (length front) start front more (omega arith)
        (ap (λ (c : Deframing). c.fault) a ∙ none) in
        let given = ap (λ (c : Deframing). c.given) piece ∙ ap (λ ps. ps ++ other.given) (ap (λ (c : Deframing). c.given) a) in
        record { others = other.given; begins = sym (ap (λ (c : Deframing). c.given) b) ∙ given; stays = stays_at }
    go (Some fault) some = record { others = []; begins = (stays_at fault some).0 ∙ sym (append-nil parts.packets); stays = stays_at }

pub spelled_is_next : (front : List ℕ) (p : Packet) (check : ℕ) → IsPacket p → check < 2 ^ 32
    → Adds front (front ++ spelling p check) p check
spelled_is_next front p check packet word before more all h allowed i =
    let a = cuts_is front (whole_packets before) h in
    let b = cuts_is ((front ++ spelling p check) ++ more) all i in
    let tail : List ℕ = spelling p check ++ more in
    let n : ℕ = size_of p in
    let f = found before p tail more (record { check = check; packet = packet; word = word; allowed = allowed; spelled = refl }) in
    let others : Deframing = cut_packets (after (behind before) (take n tail)) (drop n tail) in
    let piece : framed (front ++ tail) ≡ joined before (cut_packets (behind before) tail) =
    cut_piece front_of item after packets_are_framed (length front) start front tail (omega arith) (ap (λ (c : Deframing). c.fault) a)
    ∙ ap (λ (c : Deframing). joined c.given (cut_packets c.reading (c.rest ++ tail))) a in
    let step : (cut_packets (behind before) tail).given ≡ p ∷ others.given =
    ap (λ (c : Deframing). c.given) (cut_step (behind before) tail (Whole n) f.front) ∙ ap (λ q. q ∷ others.given) f.packet in
    let regrouped = ap (λ bs. (framed bs).given) (append_assoc front (spelling p check) more) in (
      others.given,
      sym (ap (λ (c : Deframing). c.given) b) ∙ (regrouped ∙ (ap (λ (c : Deframing). c.given) piece ∙ ap (λ ps. before ++ ps) step)),
    )

-- ---- the deframer's answers
pub first_fault : (fed : List ℕ) (given : List Packet) (now : Deframing) (parts : Parts) → StandsFor fed given now
    → Cuts fed parts → now.fault ≡ parts.fault
first_fault fed given now parts h i =
    ap (λ (p : Parts). p.fault) (cuts_same fed (record { packets = given ++ now.given; rest = h.rest; fault = now.fault }) parts h.cuts i)

-- the packets of a stream are those that were given and those that are held
pub all_packets : (fed : List ℕ) (given : List Packet) (now : Deframing) (parts : Parts) → StandsFor fed given now → Cuts fed parts
    → parts.packets ≡ given ++ now.given
all_packets fed given now parts h i =
    ap (λ (p : Parts). p.packets) (cuts_same fed parts (record { packets = given ++ now.given; rest = h.rest; fault = now.fault }) i h.cuts)

pub same_held : (old : Deframing) (piece : List ℕ) (fault : Option PacketFault)
    → framing.held_after front_of item after old piece fault ≡ held_after old piece fault
same_held old piece None = refl
same_held old piece (Some fault) = refl

pub takes : (old : Deframing) (piece : List ℕ) (new : Deframing) → IsBytes piece
    → framing.Takes front_of item after old piece new → Takes old piece new
takes old piece new fits t = record {
  held = t.held ∙ same_held old piece old.fault;
  stands = stands;
  first_fault = λ fed given parts h i. first_fault (fed ++ piece) given new parts (stands fed given h) i;
}
  where
    stands : (fed : List ℕ) (given : List Packet) → StandsFor fed given old → StandsFor (fed ++ piece) given new
    stands fed given h =
        let all = All-append (λ b. b < 256) fed piece h.cuts.in_range fits in
        stands_for (fed ++ piece) given new all (t.stands start fed given (for_stands fed given old h))

pub gives : (old new : Deframing) (result : Option Packet) → framing.Gives front_of item after old new result → Gives old new result
gives old new result g = record {
  some = g.some;
  none = g.none;
  stands = λ fed before h. stands_for fed (before ++ option_to_list result) new h.cuts.in_range
      (g.stands start fed before (for_stands fed before old h));
  next = λ fed before parts h i. next_is before parts.packets result (all_packets fed before old parts h i) g.some g.none;
}
  where
    next_is : (before all : List Packet) (next : Option Packet) → all ≡ before ++ old.given
        → IfSome next (λ p. old ≡ record new { given = p ∷ new.given })
        → IfNone next ((old.given ≡ []) × (new ≡ old)) → IsNextOf all before next
    next_is before all None e some none = e ∙ (ap (λ ps. before ++ ps) none.0 ∙ append-nil before)
    next_is before all (Some p) e some none = (new.given, e ∙ ap (λ (d : Deframing). before ++ d.given) some)

-- ---- what is framed
check_fits : (sums : Bool) (p : Packet) → check_of sums p < 2 ^ 32
check_fits true p = mod-lt (sum p.payload) (omega arith)
check_fits false p = omega arith

pub framed_adds : (old new : List ℕ) (p : Packet) (sums : Bool) → IsPacket p → new ≡ old ++ spelling p (check_of sums p)
    → Adds old new p (check_of sums p)
framed_adds old new p sums packet is =
    subst (λ bytes. Adds old bytes p (check_of sums p)) (sym is) (spelled_is_next old p (check_of sums p) packet (check_fits sums p))

-- what follows from a fact of Ok holds at Ok
pub on_ok : {E P Q : Type 0} (result : Result (Unit {0}) E) → (P → Q) → OnOk result P → OnOk result Q
on_ok (Err e) follows ok = tt
on_ok (Ok _) follows ok = follows ok
