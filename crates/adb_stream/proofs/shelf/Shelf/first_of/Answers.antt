use Rattle.std.proofs.Common.{rules, ap}
use Rattle.adb_stream.proofs.Places.{place_in, first_le}
use Rattle.adb_stream.proofs.shelf.Shelf.first_of.Goals as goal

pub returns-in_err-place-clause-here : goal.returns-in_err-place-clause-here
returns-in_err-place-clause-here c =
    let inside = c.range.ensures.in_range (search rules) in
    rw c.from_residual.ensures (λ id fits. inside.5 c.in_err-place.ensures.steps.0 (c.args.link, id)
    (place_in c.args.link id _ _ c.new.ensures.start c.new.ensures.end fits))

pub returns-clause-least : goal.returns-clause-least
returns-clause-least c = λ id fits some.
    let inside = c.range.ensures.in_range (search rules) in
    let low = c.new.ensures.start in
    let high = c.new.ensures.end in
    first_le c.args.link id _ _ c.in_ok-place.place.now (ap (λ p. p.0) low) (ap (λ p. p.0) high)
    (rw c.in_ok-place.ensures.steps at inside.1).0
    (rw c.in_ok-place.ensures.steps at (inside.2 (c.args.link, id) (place_in c.args.link id _ _ low high fits) some))
