use Rattle.adb_script.proofs.Cutting.{four_words}
use Rattle.adb_script.proofs.reading.read_words.Goals as goal

pub returns-in-Some-split_once : goal.returns-in-Some-split_once
returns-in-Some-split_once c =
    four_words c.args.text.now c.in_ok-name.name.now c.in_ok-name.rest.now c.in-Some.word.now c.in-Some.count.now
    c.in-Some-split_once.field-0.0.now c.in-Some-split_once.field-0.1.now
    (c.in_ok-name.ensures) (c.in-Some.ensures) (c.in-Some-split_once.ensures)
