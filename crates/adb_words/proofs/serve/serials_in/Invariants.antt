use Rattle.adb_words.specs.Serve.{serial_of}
use Rattle.adb_words.proofs.Each.{EachFrom}
use Rattle.adb_words.proofs.serve.serials_in.Given as goal

abbrev pub invariant-loop-text : goal.invariant-loop-text
invariant-loop-text l = EachFrom serial_of l.texts l.text-index l.serials.items
