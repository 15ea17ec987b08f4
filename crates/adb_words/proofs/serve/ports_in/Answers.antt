use Rattle.std.proofs.Common.{rules, ◌≡◌, ◌++◌, ◌∷◌, [], Some, sym, ◌∙◌}
use native.Mathlib.Omega.{arith}
use Rattle.std.specs.Prelude.{slice_index_or}
use Rattle.adb_words.specs.Words.{number_within}
use Rattle.adb_words.proofs.Each.{each_begins, each_goes, each_stops, each_ends}
use Rattle.adb_words.proofs.serve.ports_in.Goals as goal

pub loop-text-init : goal.loop-text-init
loop-text-init c = each_begins (number_within 1 65535) c.args.texts.now c.new-ports.result.items c.new-ports.ensures.items

pub returns-in_default-clause-usage : goal.returns-in_default-clause-usage
returns-in_default-clause-usage c = λ _.
    each_stops (number_within 1 65535) c.args.texts.now c.loop-text.text-index c.loop-text-test.true
    (sym c.port_within.ensures ∙ c.in_default.is)

pub loop-text-preserved : goal.loop-text-preserved
loop-text-preserved c =
    let read : (number_within 1 65535) (slice_index_or c.args.texts.now c.loop-text.text-index (record { ref_ptr = (0, 0); now = [] })).now
    ≡ Some c.in-Some.port = search rules in
    let added : c.push.new.self.items ≡ c.loop-text.ports.items ++ c.in-Some.port ∷ [] = search rules in
    each_goes (number_within 1 65535) c.args.texts.now c.loop-text.text-index c.in-Some.port c.loop-text.ports.items c.push.new.self.items
    c.loop-text-test.true c.loop-text.invariant read added

pub returns-clause-ok : goal.returns-clause-ok
returns-clause-ok c = each_ends (number_within 1 65535) c.args.texts.now c.loop-text.text-index c.loop-text.ports.items
    (omega (arith, c.loop-text-test.false)) c.loop-text.invariant
