use Rattle.std.proofs.Common.{rules, ◌≡◌, ◌+◌, length, take, drop, Ok, sym, ◌∙◌, ap, arith}
use Rattle.adb_wire.specs.declared.headers.TheConstants.{HEADER_LEN}
use Rattle.adb_wire.specs.Header.{head_at}
use Rattle.adb_hub_links.specs.Whole.{is_plain}
use Rattle.adb_hub_links.proofs.Wholes.{head_whole}
use Rattle.adb_hub_links.proofs.whole.head_alone.Goals as goal

pub returns-then-is_plain : goal.returns-then-is_plain
returns-then-is_plain c =
    let head = c.in_ok-head.head in
    let piece = c.args.piece.now in
    let words = c.in_ok-words.words.now in
    let payload = c.in_ok-words.payload.now in
    let first : words ≡ take HEADER_LEN piece = search rules in
    let behind : payload ≡ drop HEADER_LEN piece = search rules in
    let parts : length payload + HEADER_LEN ≡ length piece = search rules in
    let read : head_at words ≡ Ok head = search rules in
    let size : length payload ≡ head.length = search rules in
    record {
      whole = head_whole head piece (ap head_at (sym first) ∙ read) (omega (arith, parts, size));
      plain = ap (is_plain head) (sym behind) ∙ (sym c.is_plain.ensures ∙ c.if-is_plain.true);
    }
