use Rattle.std.proofs.Common.{rules, ℕ, ◌+◌, ◌-◌, ◌≡◌, ◌∷◌, sym, subst, arith, length, take, drop, List}
use Rattle.std.proofs.lemmas.List.{length-drop, take_all}
use Rattle.adb_script.specs.Lines.{is_space, words_of}
use Rattle.adb_script.proofs.Cutting.{cut_there, cut_nowhere}
use Rattle.adb_script.proofs.reading.split_once.Goals as goal

pub returns-in_err-space : goal.returns-in_err-space
returns-in_err-space c = search (rules, cut_nowhere)

pub returns : goal.returns
returns c =
    let text : List ℕ = c.args.text.now in
    let space : ℕ = c.in_ok-space.space in
    let all : take (length text - (space + 1)) (drop (space + 1) text) ≡ drop (space + 1) text =
    take_all (length text - (space + 1)) (drop (space + 1) text) (omega (arith, length-drop (space + 1) text)) in
    subst (λ (more : List ℕ). words_of text ≡ take space text ∷ words_of more) (sym all)
    (cut_there is_space text space (search (rules)))
