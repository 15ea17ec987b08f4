-- The parts of replies (OVERVIEW.TXT, "Protocol details").
use Rattle.std.specs.Prelude.{ℕ, List, ◌++◌, length, codes}
use Rattle.adb_request.specs.Requests.{hex_digits}
use Rattle.adb_reply.specs.declared.answer.Answer.{Answer}
use Rattle.adb_reply.specs.declared.answer.Next.{Next}
use Rattle.adb_reply.specs.declared.answer.Next.TheVariants.{Close}

-- four digits of a text's length, and the text
abbrev pub string : List ℕ → List ℕ
string text = hex_digits (length text) ++ text

abbrev pub okay : List ℕ
okay = codes "OKAY"

-- a text that was asked for
abbrev pub told : List ℕ → Next → Answer
told text next = record { bytes = okay ++ string text; next = next }

-- why a request is refused
abbrev pub failed : List ℕ → Answer
failed why = record { bytes = codes "FAIL" ++ string why; next = Close }
