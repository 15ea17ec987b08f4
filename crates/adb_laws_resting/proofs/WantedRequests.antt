-- What a request asks can be done: a forward that it names has a remote end that can be one, and a service is no longer than its text.
use Rattle.std.proofs.Common.{ℕ, ◌≡◌, ◌≤◌, ◌<◌, true, List, length, subst, sym, arith}
use Rattle.std.proofs.Common.{nat_lt, nat_le, ◌&&◌}
use Rattle.std.proofs.lemmas.Bool.Decides.{nat_tests}
use Rattle.adb_outside.specs.Bytes.{is_graphic}
use Rattle.adb_request.specs.declared.request.Request.{Request}
use Rattle.adb_request.specs.declared.request.Request.TheVariants as asks
use Rattle.adb_request.specs.Forms.{is_remote}
use Rattle.adb_request.specs.Meaning.{meaning}
use Rattle.adb_request.proofs.Asked.{IsAskedBy, meaning_asked}
use Rattle.adb_laws_resting.specs.Wanted.{IsRemote, IsService}
use Rattle.adb_request.proofs.RowLaws.{both_true}

-- what is asked can be done
abbrev pub IsSoundRequest : Request → Type 0
IsSoundRequest (asks.Forward on norebind local remote) = IsRemote remote
IsSoundRequest (asks.Service text) = IsService text
IsSoundRequest _ = Unit {0}

within : (n : ℕ) → nat_lt 0 n ≡ true → nat_le n 512 ≡ true → (0 < n) × (n ≤ 512)
within n some short = (grind (arith, nat_tests), grind (arith, nat_tests))

remote_sound : (text : List ℕ) → is_remote text ≡ true → IsRemote text
remote_sound text e =
    let all = both_true (nat_lt 0 (length text) && nat_le (length text) 512) (is_graphic text) e in
    let sizes = both_true (nat_lt 0 (length text)) (nat_le (length text) 512) all.0 in
    let size = within (length text) sizes.0 sizes.1 in
    record { some = size.0; short = size.1; graphic = all.1 }

asked_sound : (text : List ℕ) (request : Request) → IsService text → IsAskedBy text request → IsSoundRequest request
asked_sound text (asks.Forward on norebind local remote) short asked = remote_sound remote asked
asked_sound text (asks.Service service) short asked = subst IsService (sym asked) short
asked_sound text _ short asked = tt

-- What a text means can be done.
pub meaning_sound : (text : List ℕ) → IsService text → IsSoundRequest (meaning text)
meaning_sound text short = asked_sound text (meaning text) short (meaning_asked text)
