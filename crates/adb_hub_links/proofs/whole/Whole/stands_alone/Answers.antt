use Rattle.std.proofs.Common.{ℕ, List, ◌-◌, ◌≡◌, ◌∙◌, take, drop, length, ap, sym, subst, arith}
use Rattle.std.proofs.lemmas.List.{take_all, length-drop}
use Rattle.adb_wire.specs.declared.headers.TheConstants.{HEADER_LEN}
use Rattle.adb_wire.specs.Format.{packet_of}
use Rattle.adb_hub_links.specs.Whole.{StandsAlone, is_plain}
use Rattle.adb_hub_links.proofs.Wholes.{stands_alone}
use Rattle.adb_hub_links.proofs.whole.Whole.stands_alone.Goals as goal

pub returns-clause-alone : goal.returns-clause-alone
returns-clause-alone c plain =
    let slice = c.as_slice-bytes.result.now in
    let rest : take (length slice - HEADER_LEN) (drop HEADER_LEN slice) ≡ drop HEADER_LEN c.self.inside.bytes =
    take_all (length slice - HEADER_LEN) (drop HEADER_LEN slice) (omega (arith, length-drop HEADER_LEN slice))
    ∙ ap (drop HEADER_LEN) c.as_slice-bytes.ensures in
    subst (λ (bytes : List ℕ). StandsAlone bytes (packet_of bytes)) c.self.view_is
    (stands_alone c.self.inside.head c.self.inside.bytes (rw c.as_slice-bytes.ensures at c.are_bytes.ensures) c.self.invariant
    (sym (ap (is_plain c.self.inside.head) rest) ∙ (sym c.is_plain.ensures ∙ plain)))
