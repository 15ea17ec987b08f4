-- What is spelled is read back, and what is read is spelled so.
use Rattle.std.proofs.Common.{ℕ, ◌+◌, ◌-◌, ◌/◌, ◌%◌, ◌^◌, ◌≡◌, ◌≤◌, ◌<◌, Bool, true, false, if◌then◌else◌, List, [], ◌∷◌, ◌++◌, length}
use Rattle.std.proofs.Common.{take, drop}
use Rattle.std.proofs.Common.{Option, Some, None, refl, sym, ◌∙◌, ap, subst, arith, suc}
use Rattle.std.specs.Prelude.{nat_eq, All}
use Rattle.std.proofs.lemmas.Bool.{eqb-true, eqb-false, ne_eqb}
use Rattle.std.proofs.lemmas.List.{append_assoc, length-append, length-drop, length-take-le, drop-drop, take_at, take_all, append-nil}
use Rattle.std.proofs.lemmas.List.Elements.{All-take, All-drop}
use Rattle.byteorder.specs.Endian.{little_number, little_bytes}
use Rattle.byteorder.specs.Numbers.{little_number-reads_back, little_from-lt}
use Rattle.adb_outside.specs.Bytes.{AreBytes}
use Rattle.adb_outside.proofs.ByteLaws.{byte_at}
use Rattle.adb_outside.proofs.Numbers.{number_again}
use Rattle.adb_outside.specs.declared.framer.Front.TheVariants.{Whole}
use Rattle.adb_outside.specs.declared.kinds.Kind.{Kind}
use Rattle.adb_outside.specs.declared.kinds.Kind.TheVariants.{Usb, Local}
use Rattle.adb_outside.specs.declared.kinds.Cause.{Cause}
use Rattle.adb_outside.specs.declared.kinds.Cause.TheVariants.{Eof, Fault, Starved, NoThread}
use Rattle.adb_capture.specs.declared.entry.Entry.{Entry}
use Rattle.adb_capture.specs.declared.entry.Entry.TheVariants.{Join, Enter, Read, End, Bound, Attach, Recv, Detach, Put, Send}
use Rattle.adb_capture.specs.declared.limits.TheConstants.{RECORD_HEADER_LEN, MAX_CAPTURE}
use Rattle.adb_capture.specs.Records.{record_at, is_kind, kind_in, owner_in, size_in, data_in, entry_at, entry_in, or_join, kind_of}
use Rattle.adb_capture.specs.Records.{number_of}
use Rattle.adb_capture.specs.Records.{data_of, record_of, cause_byte, plug_letter, HasRecord, HasPort, cause_at, port_at, plug_at, join_at}
use Rattle.adb_capture.specs.Records.{enter_at}
use Rattle.adb_capture.specs.Records.{bound_at, end_at, detach_at, attach_by, attach_at}
use Rattle.adb_capture.proofs.Fronts.{IsWhole, entry_of, whole_tells, whole_told, whole_alone}

kind_known : (e : Entry) → is_kind (kind_of e) ≡ true
kind_known (Join client) = refl
kind_known (Enter client port) = refl
kind_known (Read client bytes) = refl
kind_known (End client cause) = refl
kind_known (Bound client port) = refl
kind_known (Attach link kind serial) = refl
kind_known (Recv link bytes) = refl
kind_known (Detach link cause) = refl
kind_known (Put client bytes) = refl
kind_known (Send link bytes) = refl

-- a port's two bytes are read back
port_again : (port : ℕ) → port < 2 ^ 16 → port_at (little_bytes 2 port) ≡ Some port
port_again port h = ap Some (little_number-reads_back 2 port [] h)

end_again : (n : ℕ) (cause : Cause) → end_at n (cause_at (cause_byte cause ∷ [])) ≡ Some (End n cause)
end_again n Eof = refl
end_again n Fault = refl
end_again n Starved = refl
end_again n NoThread = refl

detach_again : (n : ℕ) (cause : Cause) → detach_at n (cause_at (cause_byte cause ∷ [])) ≡ Some (Detach n cause)
detach_again n Eof = refl
detach_again n Fault = refl
detach_again n Starved = refl
detach_again n NoThread = refl

attach_again : (n : ℕ) (kind : Kind) (serial : List ℕ) → attach_at n (plug_letter kind ∷ serial) ≡ Some (Attach n kind serial)
attach_again n Usb serial = refl
attach_again n Local serial = refl

-- an entry's kind, number and data are read as the entry
pub entry_again : (e : Entry) → HasPort e → entry_at (kind_of e) (number_of e) (data_of e) ≡ Some e
entry_again (Join client) h = refl
entry_again (Enter client port) h = ap (enter_at client) (port_again port h.1)
    ∙ ap (λ (b : Bool). if b then None else Some (Enter client port)) (ne_eqb port 0 (λ e. omega (arith, h.0)))
entry_again (Read client bytes) h = refl
entry_again (End client cause) h = end_again client cause
entry_again (Bound client port) h = ap (bound_at client) (port_again port h)
entry_again (Attach link kind serial) h = attach_again link kind serial
entry_again (Recv link bytes) h = refl
entry_again (Detach link cause) h = detach_again link cause
entry_again (Put client bytes) h = refl
entry_again (Send link bytes) h = refl

size_again : (e : Entry) (rest : List ℕ) → HasRecord e → size_in (record_of e ++ rest) ≡ length (data_of e)
size_again e rest h = little_number-reads_back 4 (length (data_of e)) (data_of e ++ rest) (omega (arith, h.size))

owner_again : (e : Entry) (rest : List ℕ) → HasRecord e → owner_in (record_of e ++ rest) ≡ number_of e
owner_again e rest h = little_number-reads_back 4 (number_of e) (little_bytes 4 (length (data_of e)) ++ data_of e ++ rest) h.owner

data_again : (e : Entry) (rest : List ℕ) → HasRecord e → data_in (record_of e ++ rest) ≡ data_of e
data_again e rest h = ap (λ n. take n (data_of e ++ rest)) (size_again e rest h) ∙ take_at (data_of e) rest (length (data_of e)) refl

all_again : (e : Entry) (rest : List ℕ) → HasRecord e → entry_of (record_of e ++ rest) ≡ Some e
all_again e rest h =
    ap (λ n. entry_at (kind_of e) n (data_in (record_of e ++ rest))) (owner_again e rest h)
    ∙ (ap (λ bytes. entry_at (kind_of e) (number_of e) bytes) (data_again e rest h) ∙ entry_again e h.port)

pub length_record : (e : Entry) → length (record_of e) ≡ RECORD_HEADER_LEN + length (data_of e)
length_record e = omega arith

-- An entry's record is read as a whole one, whatever follows.
pub spelled_whole : (offset : ℕ) (e : Entry) (rest : List ℕ) → HasRecord e → offset + length (record_of e) ≤ MAX_CAPTURE
    → record_at offset (record_of e ++ rest) ≡ Whole (length (record_of e))
spelled_whole offset e rest h near =
    let s = size_again e rest h in
    whole_told offset (record_of e ++ rest) (length (record_of e)) (record {
      size = omega (arith, s, length_record e);
      fits = omega (arith, s, length_record e, length-append (record_of e) rest);
      small = omega (arith, s, h.size);
      near = omega (arith, s, near, length_record e);
      known = kind_known e;
      entry = e;
      formed = all_again e rest h;
    })

-- And holds the entry.
pub spelled_again : (offset : ℕ) (e : Entry) → HasRecord e → entry_in offset (record_of e) ≡ (offset, e)
spelled_again offset e h = ap (λ o. (offset, or_join o)) (ap entry_of (sym (append-nil (record_of e))) ∙ all_again e [] h)

two_cells : (n a b : ℕ) → n % 256 ≡ a → n / 256 % 256 ≡ b → little_bytes 2 n ≡ a ∷ b ∷ []
two_cells n a b e0 e1 = cc

two_bytes : (a b : ℕ) → a < 256 → b < 256 → little_bytes 2 (little_number 2 (a ∷ b ∷ [])) ≡ a ∷ b ∷ []
two_bytes a b ha hb = two_cells (little_number 2 (a ∷ b ∷ [])) a b (omega arith) (omega arith)

-- an entry that was read has that kind, that number and those data
pub record Spells (kind n : ℕ) (bytes : List ℕ) (e : Entry) : Type 0 where
  pub kind_is : kind ≡ kind_of e
  pub owner_is : n ≡ number_of e
  pub data_is : bytes ≡ data_of e
  pub port : HasPort e

abbrev AreSpelled : ℕ → ℕ → List ℕ → Option Entry → Type 0
AreSpelled kind n bytes o = (e : Entry) → o ≡ Some e → Spells kind n bytes e

abbrev IsByte : ℕ → Type 0
IsByte b = b < 256

by_kind : (kind k n : ℕ) (bytes : List ℕ) (o others : Option Entry) → AreSpelled k n bytes o → AreSpelled kind n bytes others
    → AreSpelled kind n bytes (if nat_eq kind k then o else others)
by_kind kind k n bytes o others h i = go (nat_eq kind k) refl
  where
    go : (b : Bool) → nat_eq kind k ≡ b → AreSpelled kind n bytes (if b then o else others)
    go true t = λ e is. let s =
        h e is in record {
          kind_is = eqb-true kind k t ∙ s.kind_is;
          owner_is = s.owner_is;
          data_is = s.data_is;
          port =
              s.port;
        }
    go false t = i

this_entry : (e : Entry) → HasPort e → AreSpelled (kind_of e) (number_of e) (data_of e) (Some e)
this_entry e port other is = let same : e ≡ other = cc in
    subst (λ (x : Entry). Spells (kind_of e) (number_of e) (data_of e) x) same
    (record { kind_is = refl; owner_is = refl; data_is = refl; port = port })

no_entry : (kind n : ℕ) (bytes : List ℕ) → AreSpelled kind n bytes None
no_entry kind n bytes e is = cc

join_spells : (n : ℕ) (bytes : List ℕ) → AreSpelled 74 n bytes (join_at n bytes)
join_spells n [] = this_entry (Join n) tt
join_spells n (b ∷ bytes) = no_entry 74 n (b ∷ bytes)

port_fits : (a b : ℕ) → a < 256 → b < 256 → little_number 2 (a ∷ b ∷ []) < 65536
port_fits a b ha hb = omega arith

enter_spells : (n : ℕ) (bytes : List ℕ) → All IsByte bytes → AreSpelled 78 n bytes (enter_at n (port_at bytes))
enter_spells n [] h = no_entry 78 n []
enter_spells n (a ∷ []) h = no_entry 78 n (a ∷ [])
enter_spells n (a ∷ b ∷ []) h = go (nat_eq port 0) refl
  where
    port : ℕ
    port = little_number 2 (a ∷ b ∷ [])

    ha : a < 256
    ha = h 0 0 (omega arith)

    hb : b < 256
    hb = h 1 0 (omega arith)

    go : (t : Bool) → nat_eq (little_number 2 (a ∷ b ∷ [])) 0 ≡ t
        → AreSpelled 78 n (a ∷ b ∷ []) (if t then None else Some (Enter n (little_number 2 (a ∷ b ∷ []))))
    go true t = no_entry 78 n (a ∷ b ∷ [])
    go false t = subst (λ bytes. AreSpelled 78 n bytes (Some (Enter n (little_number 2 (a ∷ b ∷ []))))) (two_bytes a b ha hb)
        (this_entry (Enter n (little_number 2 (a ∷ b ∷ [])))
        (let ne = eqb-false (little_number 2 (a ∷ b ∷ [])) 0 t in omega (arith, ne), port_fits a b ha hb))
enter_spells n (a ∷ b ∷ c ∷ bytes) h = no_entry 78 n (a ∷ b ∷ c ∷ bytes)

bound_spells : (n : ℕ) (bytes : List ℕ) → All IsByte bytes → AreSpelled 66 n bytes (bound_at n (port_at bytes))
bound_spells n [] h = no_entry 66 n []
bound_spells n (a ∷ []) h = no_entry 66 n (a ∷ [])
bound_spells n (a ∷ b ∷ []) h =
    subst (λ bytes. AreSpelled 66 n bytes (Some (Bound n (little_number 2 (a ∷ b ∷ [])))))
    (two_bytes a b (h 0 0 (omega arith)) (h 1 0 (omega arith)))
    (this_entry (Bound n (little_number 2 (a ∷ b ∷ []))) (port_fits a b (h 0 0 (omega arith)) (h 1 0 (omega arith))))
bound_spells n (a ∷ b ∷ c ∷ bytes) h = no_entry 66 n (a ∷ b ∷ c ∷ bytes)

-- the byte of a cause that was read
cause_spells : (bytes : List ℕ) (cause : Cause) → cause_at bytes ≡ Some cause → bytes ≡ cause_byte cause ∷ []
cause_spells [] cause h = cc
cause_spells (b ∷ c ∷ bytes) cause h = cc
cause_spells (b ∷ []) cause h = zeroth (nat_eq b 0) refl h
  where
    third : (t : Bool) → nat_eq b 3 ≡ t → (if t then Some NoThread else None) ≡ Some cause → b ∷ [] ≡ cause_byte cause ∷ []
    third true t h = let e : NoThread ≡ cause = cc in ap (λ k. k ∷ []) (eqb-true b 3 t) ∙ ap (λ (k : Cause). cause_byte k ∷ []) e
    third false t h = cc

    second : (t : Bool) → nat_eq b 2 ≡ t → (if t then Some Starved else (if nat_eq b 3 then Some NoThread else None)) ≡ Some cause
        → b ∷ [] ≡ cause_byte cause ∷ []
    second true t h = let e : Starved ≡ cause = cc in ap (λ k. k ∷ []) (eqb-true b 2 t) ∙ ap (λ (k : Cause). cause_byte k ∷ []) e
    second false t h = third (nat_eq b 3) refl h

    first : (t : Bool) → nat_eq b 1 ≡ t
        → (if t then Some Fault else
        (if nat_eq b 2 then Some Starved else (if nat_eq b 3 then Some NoThread else None))) ≡
        Some cause → b ∷ [] ≡ cause_byte cause ∷ []
    first true t h = let e : Fault ≡ cause = cc in ap (λ k. k ∷ []) (eqb-true b 1 t) ∙ ap (λ (k : Cause). cause_byte k ∷ []) e
    first false t h = second (nat_eq b 2) refl h

    zeroth : (t : Bool) → nat_eq b 0 ≡ t → (if t then Some Eof else
        (if nat_eq b 1 then Some Fault else
        (if nat_eq b 2 then Some Starved else (if nat_eq b 3 then Some NoThread else None)))) ≡ Some cause
        → b ∷ [] ≡ cause_byte cause ∷ []
    zeroth true t h = let e : Eof ≡ cause = cc in ap (λ k. k ∷ []) (eqb-true b 0 t) ∙ ap (λ (k : Cause). cause_byte k ∷ []) e
    zeroth false t h = first (nat_eq b 1) refl h

end_spells : (n : ℕ) (bytes : List ℕ) → AreSpelled 69 n bytes (end_at n (cause_at bytes))
end_spells n bytes = go (cause_at bytes) refl
  where
    go : (o : Option Cause) → cause_at bytes ≡ o → AreSpelled 69 n bytes (end_at n o)
    go None is = no_entry 69 n bytes
    go (Some cause) is = subst (λ x. AreSpelled 69 n x (Some (End n cause))) (sym (cause_spells bytes cause is))
        (this_entry (End n cause) tt)

detach_spells : (n : ℕ) (bytes : List ℕ) → AreSpelled 68 n bytes (detach_at n (cause_at bytes))
detach_spells n bytes = go (cause_at bytes) refl
  where
    go : (o : Option Cause) → cause_at bytes ≡ o → AreSpelled 68 n bytes (detach_at n o)
    go None is = no_entry 68 n bytes
    go (Some cause) is = subst (λ x. AreSpelled 68 n x (Some (Detach n cause))) (sym (cause_spells bytes cause is))
        (this_entry (Detach n cause) tt)

plug_spells : (b : ℕ) (kind : Kind) → plug_at b ≡ Some kind → b ≡ plug_letter kind
plug_spells b kind h = first (nat_eq b 117) refl h
  where
    second : (t : Bool) → nat_eq b 108 ≡ t → (if t then Some Local else None) ≡ Some kind → b ≡ plug_letter kind
    second true t h = let e : Local ≡ kind = cc in eqb-true b 108 t ∙ ap plug_letter e
    second false t h = cc

    first : (t : Bool) → nat_eq b 117 ≡ t → (if t then Some Usb else (if nat_eq b 108 then Some Local else None))
        ≡ Some kind → b ≡ plug_letter kind
    first true t h = let e : Usb ≡ kind = cc in eqb-true b 117 t ∙ ap plug_letter e
    first false t h = second (nat_eq b 108) refl h

attach_spells : (n : ℕ) (bytes : List ℕ) → AreSpelled 65 n bytes (attach_at n bytes)
attach_spells n [] = no_entry 65 n []
attach_spells n (b ∷ serial) = go (plug_at b) refl
  where
    go : (o : Option Kind) → plug_at b ≡ o → AreSpelled 65 n (b ∷ serial) (attach_by n o serial)
    go None is = no_entry 65 n (b ∷ serial)
    go (Some kind) is = subst (λ k. AreSpelled 65 n (k ∷ serial) (Some (Attach n kind serial))) (sym (plug_spells b kind is))
        (this_entry (Attach n kind serial) tt)

-- What is read as an entry is its kind, its number and its data.
pub entry_spells : (kind n : ℕ) (bytes : List ℕ) → All IsByte bytes → AreSpelled kind n bytes (entry_at kind n bytes)
entry_spells kind n bytes h =
    by_kind kind 74 n bytes _ _ (join_spells n bytes)
    (by_kind kind 78 n bytes _ _ (enter_spells n bytes h)
    (by_kind kind 82 n bytes _ _ (this_entry (Read n bytes) tt)
    (by_kind kind 69 n bytes _ _ (end_spells n bytes)
    (by_kind kind 66 n bytes _ _ (bound_spells n bytes h)
    (by_kind kind 65 n bytes _ _ (attach_spells n bytes)
    (by_kind kind 86 n bytes _ _ (this_entry (Recv n bytes) tt)
    (by_kind kind 68 n bytes _ _ (detach_spells n bytes)
    (by_kind kind 80 n bytes _ _ (this_entry (Put n bytes) tt)
    (by_kind kind 83 n bytes _ _ (this_entry (Send n bytes) tt)
    (no_entry kind n bytes))))))))))

-- The bytes of a whole record are the record of its entry, which has one.
pub record IsSpelled (offset : ℕ) (bytes : List ℕ) : Type 0 where
  pub spelled : bytes ≡ record_of (entry_in offset bytes).1
  pub form : HasRecord (entry_in offset bytes).1

-- the bytes of a whole record: its kind, its number, its length and its data
parts_again : (k : ℕ) (tail : List ℕ) → AreBytes tail → 8 ≤ length tail
    → k ∷ little_bytes 4 (little_number 4 tail) ++ little_bytes 4 (little_number 4 (drop 4 tail)) ++ drop 8 tail ≡ k ∷ tail
parts_again k tail are long =
    let owner = number_again tail are (omega (arith, long)) in
    let size = number_again (drop 4 tail) (All-drop IsByte 4 tail are) (omega (arith, long, length-drop 4 tail)) in
    append_assoc (k ∷ little_bytes 4 (little_number 4 tail)) (little_bytes 4 (little_number 4 (drop 4 tail))) (drop 8 tail)
    ∙ (ap (λ bytes. k ∷ little_bytes 4 (little_number 4 tail) ++ bytes)
    (ap (λ bytes. little_bytes 4 (little_number 4 (drop 4 tail)) ++ bytes) (sym (drop-drop 4 4 tail)) ∙ size)
    ∙ ap (λ bytes. k ∷ bytes) owner)

-- a record of an entry that was read, by the parts of the bytes
record_by : (kind n size : ℕ) (bytes : List ℕ) (e : Entry) → Spells kind n bytes e → size ≡ length bytes
    → kind ∷ little_bytes 4 n ++ little_bytes 4 size ++ bytes ≡ record_of e
record_by kind n size bytes e s len =
    ap (λ z. kind ∷ little_bytes 4 n ++ little_bytes 4 z ++ bytes) len
    ∙ (ap (λ x. kind ∷ little_bytes 4 n ++ little_bytes 4 (length x) ++ x) s.data_is
    ∙ (ap (λ x. x ∷ little_bytes 4 n ++ little_bytes 4 (length (data_of e)) ++ data_of e) s.kind_is
    ∙ ap (λ x. kind_of e ∷ little_bytes 4 x ++ little_bytes 4 (length (data_of e)) ++ data_of e) s.owner_is))

pub read_spelled : (offset : ℕ) (bytes : List ℕ) → All IsByte bytes → record_at offset bytes ≡ Whole (length bytes) → IsSpelled offset bytes
read_spelled offset [] all w = let t = whole_tells offset [] 0 w in absurd (omega (arith, t.size))
read_spelled offset (k ∷ tail) all w = record {
  spelled = spelled ∙ ap record_of same;
  form = subst HasRecord same (record {
    owner = omega (arith, s.owner_is, little_from-lt 0 4 tail (byte_at tail are));
    port = s.port;
    bytes = subst (λ x. All IsByte x) s.data_is content_are;
    size = omega (arith, ap length s.data_is, t.small, size);
  });
}
  where
    t : IsWhole offset (k ∷ tail) (length (k ∷ tail))
    t = whole_tells offset (k ∷ tail) (length (k ∷ tail)) w

    are : AreBytes tail
    are = λ i z l. all (suc i) z (omega arith)

    content_are : AreBytes (drop 8 tail)
    content_are = All-drop IsByte 8 tail are

    size : size_in (k ∷ tail) ≡ length (drop 8 tail)
    size = omega (arith, t.size, length-drop 8 tail)

    part : data_in (k ∷ tail) ≡ drop 8 tail
    part = take_all (size_in (k ∷ tail)) (drop 8 tail) (omega (arith, size))

    s : Spells k (little_number 4 tail) (drop 8 tail) t.entry
    s = entry_spells k (little_number 4 tail) (drop 8 tail) content_are t.entry
        (ap (λ x. entry_at k (little_number 4 tail) x) (sym part) ∙ t.formed)

    same : t.entry ≡ (entry_in offset (k ∷ tail)).1
    same = ap or_join (sym t.formed)

    spelled : k ∷ tail ≡ record_of t.entry
    spelled = sym (parts_again k tail are (omega (arith, t.size)))
        ∙ record_by k (little_number 4 tail) (little_number 4 (drop 4 tail)) (drop 8 tail) t.entry s size

-- The same of the record at the front of some bytes.
pub front_spelled : (offset n : ℕ) (bytes : List ℕ) → All IsByte bytes → record_at offset bytes ≡ Whole n → IsSpelled offset (take n bytes)
front_spelled offset n bytes all w =
    let t = whole_tells offset bytes n w in
    let len : n ≡ length (take n bytes) = sym (length-take-le n bytes (omega (arith, t.size, t.fits))) in
    read_spelled offset (take n bytes) (All-take IsByte n bytes all) (whole_alone offset bytes n w ∙ ap Whole len)

-- a whole record, alone: its data are all that follows the header
pub whole_header : (offset : ℕ) (x : List ℕ) → record_at offset x ≡ Whole (length x) → RECORD_HEADER_LEN ≤ length x
whole_header offset x w = let t = whole_tells offset x (length x) w in omega (arith, t.size)

whole_data : (offset : ℕ) (x : List ℕ) → record_at offset x ≡ Whole (length x)
    → data_in x ≡ take (length x - RECORD_HEADER_LEN) (drop RECORD_HEADER_LEN x)
whole_data offset x w = let t = whole_tells offset x (length x) w in let e : size_in x
    ≡ length x - RECORD_HEADER_LEN = omega (arith, t.size) in ap (λ n. take n (drop RECORD_HEADER_LEN x)) e

-- it has an entry
pub whole_read : (offset : ℕ) (x : List ℕ) → record_at offset x ≡ Whole (length x)
    → None ≡ entry_at (kind_in x) (owner_in x) (take (length x - RECORD_HEADER_LEN) (drop RECORD_HEADER_LEN x))
    → ⊥
whole_read offset x w none =
    let t = whole_tells offset x (length x) w in
    let e : None ≡ Some t.entry = none ∙ (ap (λ b. entry_at (kind_in x) (owner_in x) b) (sym (whole_data offset x w)) ∙ t.formed) in
    cc

-- and this one
pub entry_read : (offset : ℕ) (x : List ℕ) (e : Entry) → record_at offset x ≡ Whole (length x)
    → Some e ≡ entry_at (kind_in x) (owner_in x) (take (length x - RECORD_HEADER_LEN) (drop RECORD_HEADER_LEN x))
    → (offset, e) ≡ entry_in offset x
entry_read offset x e w is =
    ap (λ o. (offset, or_join o)) (is ∙ ap (λ b. entry_at (kind_in x) (owner_in x) b) (sym (whole_data offset x w)))
