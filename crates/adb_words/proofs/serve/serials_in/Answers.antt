use Rattle.std.proofs.Common.{rules, ◌≡◌, ◌++◌, ◌∷◌, [], Some, sym, ◌∙◌, ap, option_map}
use native.Mathlib.Omega.{arith}
use Rattle.std.specs.Prelude.{slice_index_or}
use Rattle.adb_words.specs.Serve.{serial_of}
use Rattle.adb_words.proofs.Each.{each_begins, each_goes, each_stops, each_ends}
use Rattle.adb_words.proofs.serve.serials_in.Goals as goal

pub loop-text-init : goal.loop-text-init
loop-text-init c = each_begins serial_of c.args.texts.now c.new-serials.result.items c.new-serials.ensures.items

pub returns-in_default-clause-usage : goal.returns-in_default-clause-usage
returns-in_default-clause-usage c = λ _.
    each_stops serial_of c.args.texts.now c.loop-text.text-index c.loop-text-test.true
    (sym c.serial_word.ensures ∙ ap (option_map (λ text. text.now)) c.in_default.is)

pub loop-text-preserved : goal.loop-text-preserved
loop-text-preserved c =
    let read : serial_of (slice_index_or c.args.texts.now c.loop-text.text-index (record { ref_ptr = (0, 0); now = [] })).now
    ≡ Some c.in_ok-serial.serial = search rules in
    let added : c.push.new.self.items ≡ c.loop-text.serials.items ++ c.in_ok-serial.serial ∷ [] = search rules in
    each_goes serial_of c.args.texts.now c.loop-text.text-index c.in_ok-serial.serial c.loop-text.serials.items c.push.new.self.items
    c.loop-text-test.true c.loop-text.invariant read added

pub returns-clause-ok : goal.returns-clause-ok
returns-clause-ok c = each_ends serial_of c.args.texts.now c.loop-text.text-index c.loop-text.serials.items
    (omega (arith, c.loop-text-test.false)) c.loop-text.invariant
