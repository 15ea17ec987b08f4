use Rattle.std.proofs.Common.{rules, ℕ, ◌+◌, ◌≡◌, ◌≤◌, ◌∷◌, ◌++◌, [], List, map, length, Some, sym, ap, ◌∙◌, subst, arith}
use Rattle.std.proofs.lemmas.List.{length-map, map-append}
use Rattle.adb_script.specs.Lines.{Line, line_of, seen}
use Rattle.adb_script.specs.Script.{Reads}
use Rattle.adb_script.proofs.FirstBad.{reads_line}
use Rattle.adb_script.proofs.script.add_line.Goals as goal

pub returns-in-Ok-clause-ok : goal.returns-in-Ok-clause-ok
returns-in-Ok-clause-ok c =
    let script : List ℕ = c.args.script.now in
    let more : List ℕ = c.split_line.result.1.now in
    let items = c.args.lines.now.items in
    let old : List Line = map seen items in
    let line : Line = seen c.in-Some.read in
    let is : line_of c.split_line.result.0.now ≡ Some line = sym c.in-Some.ensures in
    let all : map seen c.push.new.self.items ≡ old ++ line ∷ [] =
    ap (map seen) c.in-Ok.ensures.items ∙ map-append seen items (c.in-Some.read ∷ []) in
    let few : length old + 1 ≤ 1024 = omega (arith, length-map items seen, c.if-line-gt-MAX_LINES.false, c.len.ensures) in
    subst (λ (ls : List Line). Reads script more ls) (sym all)
    (reads_line script c.args.rest.now c.split_line.result.0.now more old c.split_line.ensures c.requires.reads line
    is few (search (rules)))
