-- What follows a request names a service or a remote end that is short: it fits with a NUL into so many bytes.
use Rattle.std.proofs.Common.{ℕ, ◌≡◌, ◌+◌, ◌≤◌, Bool, true, false, List, length, Option, Some, refl, arith, nat_lt, nat_le, ◌&&◌}
use Rattle.std.proofs.lemmas.Bool.Decides.{nat_tests}
use Rattle.adb_outside.specs.Tables.{at}
use Rattle.adb_outside.specs.Bytes.{is_graphic}
use Rattle.adb_registry.specs.declared.row.Row.{Row}
use Rattle.adb_forward.specs.declared.row.ForwardRow.{ForwardRow}
use Rattle.adb_request.specs.declared.request.Request.{Request}
use Rattle.adb_request.specs.declared.request.Request.TheVariants as asks
use Rattle.adb_request.specs.Forms.{is_remote}
use Rattle.adb_request.specs.Meaning.{meaning}
use Rattle.adb_request.proofs.Asked.{IsAskedBy, meaning_asked}
use Rattle.adb_reply.specs.Answer.{answer}
use Rattle.adb_reply.specs.declared.answer.Next.{Next}
use Rattle.adb_reply.specs.declared.answer.Next.TheVariants.{Open, Bind, Rebind}
use Rattle.adb_reply.proofs.AllAnswers.{Answers, answer_all}

-- a text that fits with a NUL behind it
abbrev pub IsShortText : ℕ → List ℕ → Type 0
IsShortText most text = length text + 1 ≤ most

-- ---- requests
-- the remote end of a forward that is asked for is short
abbrev pub IsShortRequest : Request → Type 0
IsShortRequest (asks.Forward on norebind local remote) = IsShortText 513 remote
IsShortRequest _ = Unit {0}

remote_short : (text : List ℕ) → is_remote text ≡ true → IsShortText 513 text
remote_short text e = below (length text) (middle (nat_lt 0 (length text)) (nat_le (length text) 512) (is_graphic text) e)
  where
    middle : (a b c : Bool) → (a && b && c) ≡ true → b ≡ true
    middle true true c e = refl
    middle true false c e = let clash : false ≡ true = e in cc
    middle false b c e = let clash : false ≡ true = e in cc

    below : (n : ℕ) → nat_le n 512 ≡ true → n + 1 ≤ 513
    below n e = grind (arith, nat_tests)

asked_short : (text : List ℕ) (request : Request) → IsAskedBy text request → IsShortRequest request
asked_short text (asks.Forward on norebind local remote) asked = remote_short remote asked
asked_short text _ asked = tt

-- What is asked of forwards is short.
pub meaning_short : (text : List ℕ) → IsShortRequest (meaning text)
meaning_short text = asked_short text (meaning text) (meaning_asked text)

-- ---- answers
-- what follows a request is short
abbrev pub IsShortNext : ℕ → Next → Type 0
IsShortNext most (Open transport service) = IsShortText most service
IsShortNext most (Bind transport local remote chosen) = IsShortText most remote
IsShortNext most (Rebind transport local remote) = IsShortText most remote
IsShortNext most _ = Unit {0}

-- no device takes more bytes
abbrev pub AreSmall : ℕ → List (ℕ × Row) → Type 0
AreSmall most rows = (id : ℕ) (row : Row) → at id rows ≡ Some row → row.maxdata ≤ most

within_row : (most maxdata n : ℕ) → maxdata ≤ most → nat_lt maxdata (n + 1) ≡ false → n + 1 ≤ most
within_row most maxdata n small e = grind (arith, nat_tests)

module _ (most : ℕ) (room : 513 ≤ most) (rows : List (ℕ × Row)) (small : AreSmall most rows) where
  -- What follows each reply is short.
  shortly : (forwards : List (ℕ × ForwardRow)) → Answers rows forwards IsShortRequest (λ a. IsShortNext most a.next)
  shortly forwards = record {
    fails = λ why. tt;
    tells = λ rest. tt;
    tracks = λ rest long. tt;
    stops = tt;
    selects = λ tell_id id. tt;
    rebinds = λ on norebind transport local remote short is. let fits : length remote + 1 ≤ most = omega (arith, short, room) in fits;
    binds = λ on norebind transport local remote short. let fits : length remote + 1 ≤ most = omega (arith, short, room) in fits;
    unbinds = λ port. tt;
    unbinds_all = tt;
    opens = λ id text row short is fits. within_row most row.maxdata (length text) (small id row is) fits;
  }

  -- What follows a request is short.
  pub answer_short : (forwards : List (ℕ × ForwardRow)) (selected : Option ℕ) (request : Request) → IsShortRequest request
      → IsShortNext most (answer rows forwards selected request).next
  answer_short forwards = answer_all (shortly forwards)
