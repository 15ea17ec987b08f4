use Rattle.std.proofs.Common.{arith, Bor, List, ℕ}
use Rattle.std.proofs.lemmas.List.{length-take, length-drop}
use Rattle.adb_shell_service.proofs.Joining.{joined_words}
use Rattle.adb_shell_service.proofs.commands.joined.Goals as goal

pub returns : goal.returns
returns c =
    joined_words c.args.words.now _ c.loop-word.word-index c.in_ok-text.text c.loop-word.text c.in-len1-up.len_at_least
    (omega (arith, c.loop-word-test.false, length-take {A = Bor (List ℕ)}, length-drop {A = Bor (List ℕ)}))
    c.in_ok-text.ensures c.loop-word.invariant
