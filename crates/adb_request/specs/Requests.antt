-- Requests (OVERVIEW.TXT, "Protocol details"): four hexadecimal digits of length, and that many bytes of text.
use Rattle.std.specs.Prelude.{ℕ, ◌+◌, ◌-◌, ◌*◌, ◌/◌, ◌%◌, if◌then◌else◌, ◌&&◌, nat_lt, nat_le, List, [], ◌∷◌, length, Option, Some, None}
use Rattle.std.specs.Prelude.{zero, suc}
use Rattle.adb_request.specs.declared.cutting.Found.{Found}
use Rattle.adb_request.specs.declared.cutting.Found.TheVariants.{More, Malformed, Whole}

-- the lower-case digit of a value below 16
abbrev pub hex_digit : ℕ → ℕ
hex_digit n = if nat_lt n 10 then 48 + n else 87 + n

-- a number below 65,536 as four lower-case hexadecimal digits
abbrev pub hex_digits : ℕ → List ℕ
hex_digits n = hex_digit (n / 4096 % 16) ∷ hex_digit (n / 256 % 16) ∷ hex_digit (n / 16 % 16) ∷ hex_digit (n % 16) ∷ []

-- the value of a hexadecimal digit, of either case
abbrev pub digit_value : ℕ → Option ℕ
digit_value b =
    if nat_le 48 b && nat_le b 57 then Some (b - 48)
    else (if nat_le 97 b && nat_le b 102 then Some (b - 87)
    else (if nat_le 65 b && nat_le b 70 then Some (b - 55)
    else None))

-- one more digit behind a number
abbrev pub then_digit : Option ℕ → Option ℕ → Option ℕ
then_digit None digit = None
then_digit (Some n) None = None
then_digit (Some n) (Some digit) = Some (16 * n + digit)

-- the number that four bytes spell
abbrev pub hex_value : ℕ → ℕ → ℕ → ℕ → Option ℕ
hex_value a b c d = then_digit (then_digit (then_digit (digit_value a) (digit_value b)) (digit_value c)) (digit_value d)

-- the number that a text spells, where it is four hexadecimal digits
abbrev pub hex_number : List ℕ → Option ℕ
hex_number (a ∷ b ∷ c ∷ d ∷ []) = hex_value a b c d
hex_number _ = None

-- what a length says of the bytes behind it
abbrev pub found_behind : Option ℕ → ℕ → Found
found_behind None have = Malformed
found_behind (Some zero) have = Malformed
found_behind (Some (suc n)) have = if nat_lt have (suc n) then More else Whole (suc n)

-- what some bytes begin with
abbrev pub request_at : List ℕ → Found
request_at (a ∷ b ∷ c ∷ d ∷ rest) = found_behind (hex_value a b c d) (length rest)
request_at _ = More
