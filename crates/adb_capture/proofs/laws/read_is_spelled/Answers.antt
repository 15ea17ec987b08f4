use Rattle.adb_capture.proofs.Spellings.{front_spelled}
use Rattle.adb_capture.proofs.laws.read_is_spelled.Goals as goal

pub returns : goal.returns
returns c = record {
  spelled = λ offset n bytes all w. (front_spelled offset n bytes all w).spelled;
  form = λ offset n bytes all w. (front_spelled offset n bytes all w).form;
}
