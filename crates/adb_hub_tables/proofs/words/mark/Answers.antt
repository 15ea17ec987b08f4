use Rattle.std.proofs.Common.{◌≡◌, ◌/◌, ◌%◌, ◌∙◌, ap, sym, Some}
use Rattle.std.proofs.lemmas.Option.{IfSome_then}
use Rattle.adb_outside.specs.Tables.{at}
use Rattle.adb_hub_tables.specs.Marked.{place_in}
use Rattle.adb_hub_tables.proofs.Marking.{low, known_place}
use Rattle.adb_hub_tables.proofs.words.mark.Goals as goal

pub returns-in-Some-clause-known : goal.returns-in-Some-clause-known
returns-in-Some-clause-known c =
    let i = c.args.number % 64 in
    let here : at (c.args.number / 64) c.args.marks.now.entries ≡ Some c.in-Some.block.now = sym c.in-Some.ensures.value in
    IfSome_then c.mark.result c.mark.ensures.known
    (λ lacked some. ap (λ o. place_in o i) here ∙ known_place i (low c.args.number) c.in-Some.block.now some)
