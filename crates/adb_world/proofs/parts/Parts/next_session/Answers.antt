use Rattle.std.proofs.Common.{rules}
use Rattle.adb_world.proofs.Numbers.{next_is}
use Rattle.adb_world.proofs.parts.Parts.next_session.Goals as goal

pub returns : goal.returns
returns c =
    let inside = c.range.ensures.in_range (search rules) in
    let here = rw c.in_ok-number.ensures.steps at inside.1 in
    next_is c.args.after c.new.result.start c.new.result.end c.in_ok-number.number.now
    c.args.self.now.sessions.entries c.in_ok-number._session.now
    c.new.ensures.start c.new.ensures.end here.0 here.1 (λ q within some. rw c.in_ok-number.ensures.steps at (inside.2 q within some))
