-- The bytes of a packet with the check word that it goes out with.
use Rattle.std.proofs.Common.{ℕ, ◌≡◌, ◌∙◌, ◌++◌, List, ap}
use Rattle.adb_wire.specs.declared.headers.Head.{Head}
use Rattle.adb_wire.specs.declared.packets.Packet.{Packet}
use Rattle.adb_wire.specs.Header.{header_bytes}
use Rattle.adb_wire.specs.Packet.{head_for, check_of, spelling}
use Rattle.adb_wire.specs.Format.{packet_under}
use Rattle.adb_wire.specs.Cutting.{goes_with_sum}

-- the header that a packet of that header and payload goes out with on a link of that version
abbrev pub sent : ℕ → Head → List ℕ → Head
sent version head payload =
    let p = packet_under head payload in
    head_for p (check_of (goes_with_sum version p) p)

-- where the payload lay in two parts, and goes out as it is
pub sent_as : (version : ℕ) (head : Head) (payload : List ℕ) (with_check : Head) (body parts : List ℕ) → body ≡ payload → parts ≡ payload
    → with_check ≡ sent version head parts
    → header_bytes with_check ++ body ≡ (let p = packet_under head payload in spelling p (check_of (goes_with_sum version p) p))
sent_as version head payload with_check body parts is both out =
    ap (λ (h : Head). header_bytes h ++ body) (out ∙ ap (sent version head) both)
    ∙ ap (λ (l : List ℕ). header_bytes (sent version head payload) ++ l) is
