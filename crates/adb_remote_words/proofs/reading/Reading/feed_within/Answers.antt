use Rattle.std.proofs.Common.{sym, ◌∙◌}
use Rattle.adb_remote_words.proofs.Readings.{follows_bad, follows_more, follows_refused, means_in, none_open, some_open, within_body}
use Rattle.adb_remote_words.proofs.Readings.{within_done}
use Rattle.adb_remote_words.proofs.reading.Reading.feed_within.Goals as goal

pub returns-then-not-is_open-clause-read : goal.returns-then-not-is_open-clause-read
returns-then-not-is_open-clause-read c =
    let o = c.self.inside.opening in
    within_body c.args.job.now c.args.piece.now o c.self.inside.body c.self.inside.count c.args.self.now
    c.self.view_is c.feed.new.self c.feed.result
    (none_open o.left (sym c.is_open.ensures ∙ c.if-not-is_open.true)) c.feed.ensures

pub returns-in-More-clause-read : goal.returns-in-More-clause-read
returns-in-More-clause-read c = λ fed h.
    let o = c.self.inside.opening in
    let body = c.self.inside.body in
    let some = some_open o.left (sym c.is_open.ensures ∙ c.if-not-is_open.false) in
    follows_more c.args.job.now fed c.args.piece.now o c.feed-2.new.self body c.in_ok-feed.field-0
    (means_in c.args.job.now fed o body c.self.inside.count c.args.self.now c.self.view_is h) some c.in_ok-feed.ensures c.in-More.is

pub returns-in-Done-clause-read : goal.returns-in-Done-clause-read
returns-in-Done-clause-read c =
    let o = c.self.inside.opening in
    let some = some_open o.left (sym c.is_open.ensures ∙ c.if-not-is_open.false) in
    within_done c.args.job.now c.args.piece.now o c.self.inside.body c.self.inside.count c.args.self.now c.self.view_is c.feed-2.new.self
    c.feed-in-Done.new.self c.in_ok-feed.field-0 c.in-Done.field-0 c.held.result.now c.feed-in-Done.result some
    c.in_ok-feed.ensures c.in-Done.is
    c.held.ensures c.feed-in-Done.ensures

pub returns-in-Refused-clause-read : goal.returns-in-Refused-clause-read
returns-in-Refused-clause-read c = λ fed h.
    let o = c.self.inside.opening in
    let body = c.self.inside.body in
    let some = some_open o.left (sym c.is_open.ensures ∙ c.if-not-is_open.false) in
    follows_refused c.args.job.now fed c.args.piece.now o c.feed-2.new.self body c.in_ok-feed.field-0
    (means_in c.args.job.now fed o body c.self.inside.count c.args.self.now c.self.view_is h) some
    c.in_ok-feed.ensures c.in-Refused.text c.in-Refused.is

pub returns-in-BadAnswer-clause-read : goal.returns-in-BadAnswer-clause-read
returns-in-BadAnswer-clause-read c = λ fed h.
    let o = c.self.inside.opening in
    let body = c.self.inside.body in
    let some = some_open o.left (sym c.is_open.ensures ∙ c.if-not-is_open.false) in
    follows_bad c.args.job.now fed c.args.piece.now o c.feed-2.new.self body c.in_ok-feed.field-0
    (means_in c.args.job.now fed o body c.self.inside.count c.args.self.now c.self.view_is h) some
    c.in_ok-feed.ensures c.in-BadAnswer.offset
    c.in-BadAnswer.is
