use Rattle.adb_words.specs.Words.{number_within}
use Rattle.adb_words.proofs.Each.{EachFrom}
use Rattle.adb_words.proofs.serve.ports_in.Given as goal

abbrev pub invariant-loop-text : goal.invariant-loop-text
invariant-loop-text l = EachFrom (number_within 1 65535) l.texts l.text-index l.ports.items
