use Rattle.std.proofs.Common.{rules, ◌-◌, length, take, drop, Some, ◌∙◌, ap}
use Rattle.adb_capture.specs.declared.limits.TheConstants.{RECORD_HEADER_LEN}
use Rattle.adb_capture_reader.specs.Forms.{entry_by}
use Rattle.adb_capture.specs.Records.{owner_in}
use Rattle.adb_capture.proofs.Spellings.{whole_header, whole_read, entry_read}
use Rattle.adb_capture_reader.proofs.record.read.Goals as goal

pub slice_bounds-content-count : goal.slice_bounds-content-count
slice_bounds-content-count c = whole_header _ _ c.requires

pub slice_bounds-content-start : goal.slice_bounds-content-start
slice_bounds-content-start c = let h = whole_header _ _ c.requires in search rules

pub bounds-bytes-0 : goal.bounds-bytes-0
bounds-bytes-0 c = let h = whole_header _ _ c.requires in search rules

pub owner-requires : goal.owner-requires
owner-requires c = whole_header _ _ c.requires

pub unreachable-requires : goal.unreachable-requires
unreachable-requires c = whole_read c.args.offset c.args.bytes.now c.requires (c.in-None.ensures (owner_in c.args.bytes.now))

pub returns : goal.returns
returns c =
    let content = take (length c.args.bytes.now - RECORD_HEADER_LEN) (drop RECORD_HEADER_LEN c.args.bytes.now) in
    entry_read c.args.offset c.args.bytes.now _ c.requires
    (ap (λ n. Some (entry_by c.in-Some.form n content)) c.owner.ensures ∙ c.in-Some.ensures (owner_in c.args.bytes.now))
