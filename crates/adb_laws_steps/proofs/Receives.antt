-- The bytes of what a model device owes.
use Rattle.std.specs.Prelude.{ℕ, ◌+◌, ◌*◌, ◌≡◌, ◌≤◌, cond, All, List, [], ◌∷◌, ◌++◌, length}
use Rattle.std.proofs.Common.{refl, arith}
use Rattle.std.proofs.lemmas.List.{length-append}
use Rattle.std.proofs.lemmas.List.Elements.{All-head, All-tail}
use Rattle.adb_wire.specs.Packet.{check_of}
use Rattle.adb_wire.specs.declared.command.Command.{Command}
use Rattle.adb_wire.specs.declared.command.Command.TheVariants.{Open, Wrte}
use Rattle.adb_history.specs.Births.{is_wrte}
use Rattle.adb_daemon.specs.Serving.{Sent, bytes_of, sent_bytes}
use Rattle.adb_laws_model_device.specs.Owed.{packets_of_sent}
use Rattle.adb_laws_steps.specs.Tolls.{toll, IsWorth}
use Rattle.adb_laws_steps.specs.Owed.{sent_tolls, IsFine}
use Rattle.adb_laws_steps.specs.Receives.{write_bytes}
use Rattle.adb_laws_steps.proofs.Sizes.{length_spelling}

-- ---- what a device owes, in bytes
one_size : (c : Command) (payload : List ℕ) → IsWorth c payload
    → 24 + length payload ≤ toll c payload + 25 * cond (is_wrte c) (length payload) 0
one_size Open payload worth = absurd worth
one_size Wrte [] worth = absurd (worth refl)
one_size _ _ worth = omega arith

pub made_size : (P : ℕ → Type 0) (made : List Sent) → All (IsFine P) made
    → length (sent_bytes made) ≤ sent_tolls made + 25 * write_bytes (packets_of_sent made)
made_size P [] fine = omega arith
made_size P (one ∷ more) fine =
    let here = one_size one.packet.command one.packet.payload (All-head (IsFine P) one more fine).worth in
    let later = made_size P more (All-tail (IsFine P) one more fine) in
    let both = length-append (bytes_of one) (sent_bytes more) in
    let size = length_spelling one.packet (check_of one.sums one.packet) in
    omega (arith, here, later, both, size)

pub bytes_append : (a b : List Sent) → length (sent_bytes (a ++ b)) ≡ length (sent_bytes a) + length (sent_bytes b)
bytes_append [] b = omega arith
bytes_append (one ∷ a) b =
    let later = bytes_append a b in
    let left = length-append (bytes_of one) (sent_bytes (a ++ b)) in
    let right = length-append (bytes_of one) (sent_bytes a) in
    omega (arith, later, left, right)
