-- The identity `<system>:<serial>:<banner>` of a device, whose banner is parts `<key>=<value>` between `;`
-- (protocol.txt, "The CONNECT message").
use Rattle.std.specs.Prelude.{ℕ, Bool, ◌==◌, ◌&&◌, ◌-◌, nat_le, if◌then◌else◌, List, [], length, take, count_by, Option, Some, None}
use Rattle.std.specs.Prelude.{unwrap_or, codes, bytes_eq}
use Rattle.std.specs.List.{suffix_len, before_first, after_first, slice_split, filter_map, last_or, list_any}
use Rattle.adb_outside.specs.declared.identity.Identity.{Identity}
use Rattle.adb_banner.specs.declared.identity.TheConstants.{MAX_IDENTITY}

-- the byte that ends a text in C, and may stand after an identity
abbrev pub is_nul : ℕ → Bool
is_nul byte = byte == 0

-- `,`, between features
abbrev pub is_comma : ℕ → Bool
is_comma byte = byte == 44

-- `:`, after the system and after the serial
abbrev pub is_colon : ℕ → Bool
is_colon byte = byte == 58

-- `;`, between the parts of a banner
abbrev pub is_semicolon : ℕ → Bool
is_semicolon byte = byte == 59

-- `=`, between a key and its value
abbrev pub is_equals : ℕ → Bool
is_equals byte = byte == 61

-- the bytes without the NULs at their end
abbrev pub without_nuls : List ℕ → List ℕ
without_nuls bytes = take (length bytes - suffix_len is_nul bytes) bytes

-- the value of a part, cut at its first `=`, if the part has the key
abbrev pub part_value : List ℕ → List ℕ → Option (List ℕ)
part_value key part =
    if list_any is_equals part && bytes_eq (before_first is_equals part) key then Some (after_first is_equals part)
    else None

-- the value of the last part that has the key, and nothing where no part has it
unfoldable pub last_value : List ℕ → List (List ℕ) → List ℕ
last_value key parts = unwrap_or (last_or None (filter_map (part_value key) parts)) []

-- whether a text has two colons at least, and is not too long
abbrev pub is_identity : List ℕ → Bool
is_identity text = nat_le 2 (count_by is_colon text) && nat_le (length text) MAX_IDENTITY

-- what a text says that is cut at its first two colons
abbrev pub identity_in : List ℕ → Identity
identity_in text =
    let rest = after_first is_colon text in
    let parts = slice_split is_semicolon (after_first is_colon rest) in
    record {
      system = before_first is_colon text;
      serial = before_first is_colon rest;
      product = last_value (codes "ro.product.name") parts;
      model = last_value (codes "ro.product.model") parts;
      device = last_value (codes "ro.product.device") parts;
      features = last_value (codes "features") parts;
    }

-- the identity that the payload of a CNXN holds, if it holds one
unfoldable pub identity_of : List ℕ → Option Identity
identity_of bytes =
    let text = without_nuls bytes in
    if is_identity text then Some (identity_in text) else None

-- whether a name is one of the comma-separated parts of the features
abbrev pub is_feature : List ℕ → List ℕ → Bool
is_feature features name = list_any (λ part. bytes_eq part name) (slice_split is_comma features)
