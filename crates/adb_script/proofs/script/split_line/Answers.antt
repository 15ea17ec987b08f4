use Rattle.std.proofs.Common.{ℕ, ◌+◌, ◌-◌, ◌≡◌, sym, subst, arith, length, take, drop, List}
use Rattle.std.proofs.lemmas.List.{length-drop, take_all}
use Rattle.adb_script.specs.Script.{CutsLine}
use Rattle.adb_script.proofs.Cutting.{cuts_line, cuts_last}
use Rattle.adb_script.proofs.script.split_line.Goals as goal

pub returns-in-Some : goal.returns-in-Some
returns-in-Some c =
    let text : List ℕ = c.args.text.now in
    let end : ℕ = c.in-Some.end in
    let all : take (length text - (end + 1)) (drop (end + 1) text) ≡ drop (end + 1) text =
    take_all (length text - (end + 1)) (drop (end + 1) text) (omega (arith, length-drop (end + 1) text)) in
    subst (λ (more : List ℕ). CutsLine text (take end text) more) (sym all) (cuts_line text end (cc (c.newline_in.ensures, c.in-Some.is)))

pub returns-in-None : goal.returns-in-None
returns-in-None c = cuts_last c.args.text.now c.requires (cc (c.newline_in.ensures, c.in-None.is))
