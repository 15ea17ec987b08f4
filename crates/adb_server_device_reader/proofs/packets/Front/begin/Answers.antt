use Rattle.std.proofs.Common.{rules, arith, ◌≡◌, ◌≤◌, ◌++◌, [], length, List, ℕ, Ok, ap, ◌∙◌}
use Rattle.adb_wire.specs.declared.headers.TheConstants.{HEADER_LEN}
use Rattle.adb_wire.specs.Header.{head_at}
use Rattle.adb_wire.specs.Format.{packet_len}
use Rattle.adb_wire.proofs.Slices.{slice_bounds}
use Rattle.adb_server_device_reader.proofs.Fronts.{front_begins}
use Rattle.adb_server_device_reader.proofs.packets.Front.begin.Goals as goal

pub invariant_of-result : goal.invariant_of-result
invariant_of-result c =
    let size : HEADER_LEN ≡ length c.args.held.now = search rules in
    let read : head_at c.args.held.now ≡ Ok c.in_ok-head.head = search rules in
    let none : c.in_ok-bytes.bytes.items ≡ [] = search rules in
    let room : packet_len c.in_ok-head.head ≤ c.in_ok-bytes.bytes.spare = search rules in
    front_begins c.in_ok-head.head c.args.held.now c.in_ok-bytes.bytes c.extend_reserved.new.self size read none room
    c.extend_reserved.ensures.items
    c.extend_reserved.ensures.spare

pub returns-clause-within : goal.returns-clause-within
returns-clause-within c =
    let size : HEADER_LEN ≡ length c.args.held.now = search rules in
    let none : c.in_ok-bytes.bytes.items ≡ [] = search rules in
    let items = c.extend_reserved.ensures.items ∙ ap (λ (bs : List ℕ). bs ++ c.args.held.now) none in
    omega (arith, size, ap length items, slice_bounds c.extend_reserved.new.self.items)
