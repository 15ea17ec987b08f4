use Rattle.std.proofs.Common.{rules, ℕ, Option, ap, sym, ◌∙◌, arith}
use Rattle.adb_capture.specs.Records.{record_at}
use Rattle.adb_capture.proofs.Fronts.{more_is_short, more_is_part}
use Rattle.adb_capture_reader.proofs.Awaited.{bad_awaited, bad_no_fault}
use Rattle.adb_capture_reader.proofs.awaiting.await_record.Goals as goal

pub loop-found-smaller : goal.loop-found-smaller
loop-found-smaller g c =
    let short = more_is_short c.args.offset c.loop-found.held (sym c.loop-found.invariant.found ∙ c.in-More.is) in
    let more = rw c.in-Ok-Bytes.field-0-is at c.in-Ok-Bytes.ensures.more in
    omega (arith, more.0, more.2, short)

pub loop-found-preserved : goal.loop-found-preserved
loop-found-preserved g c =
    let short = more_is_short c.args.offset c.loop-found.held (sym c.loop-found.invariant.found ∙ c.in-More.is) in
    let more = rw c.in-Ok-Bytes.field-0-is at c.in-Ok-Bytes.ensures.more in
    record {
      found = c.front-found-in-More.ensures ∙ ap (record_at c.args.offset) c.as_slice-in-More.ensures;
      few = omega (arith, short, more.1, more.2);
      little = λ small size whole.
          let part = more_is_part c.args.offset c.loop-found.held more.3.0 size (sym c.loop-found.invariant.found ∙ c.in-More.is)
          (ap (record_at c.args.offset) more.3.1 ∙ whole) in
          omega (arith, part, more.1, more.2);
      bytes =
          search rules;
      counts = search rules;
    }

pub returns-in-Bad : goal.returns-in-Bad
returns-in-Bad g c =
    let bad = bad_awaited c.args.offset c.args.held.now (g.S.Source.left c.args.source.now) c.loop-found.held c.in-Bad.fault
    (sym c.loop-found.invariant.found ∙ c.in-Bad.is) in
    record {
      few = c.loop-found.invariant.few;
      little = λ small. tt;
      bytes = c.loop-found.invariant.bytes;
      is = rw c.from.ensures bad;
      counts = rw (c.from.ensures, bad_no_fault (Option ℕ) c.in-Bad.fault) c.loop-found.invariant.counts;
    }
