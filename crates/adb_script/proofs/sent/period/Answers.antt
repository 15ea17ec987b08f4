use Rattle.std.proofs.Common.{rules, ℕ, ◌+◌, ◌%◌, arith}
use Rattle.std.proofs.lemmas.List.Edits.{fill_by_more}
use Rattle.std.proofs.lemmas.List.FromFn.{fill_by_all}
use Rattle.adb_script.proofs.sent.period.Goals as goal

pub loop-place-preserved : goal.loop-place-preserved
loop-place-preserved c = record {
  size = search (rules);
  front = fill_by_more (λ (k : ℕ). (k + c.args.shift) % 251) c.loop-place.bytes c.loop-place.place 0
      (omega (arith, c.loop-place.invariant.size, c.loop-place-test.true)) c.loop-place.invariant.front;
}

pub returns : goal.returns
returns c =
    fill_by_all (λ (k : ℕ). (k + c.args.shift) % 251) c.loop-place.bytes 251 0 c.loop-place.invariant.size
    (search (rules, c.loop-place.invariant.front))
