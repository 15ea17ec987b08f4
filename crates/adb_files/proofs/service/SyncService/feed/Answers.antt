use Rattle.std.proofs.Common.{◌≡◌, refl, true}
use Rattle.std.proofs.lemmas.Result.{on_ok_weaker, on_err_weaker}
use Rattle.adb_files.specs.Service.{Service, held}
use Rattle.adb_files.proofs.Whole.{served_dropped, front_same, feeds_none, call_served, call_front}
use Rattle.adb_files.proofs.service.SyncService.feed.Goals as goal

pub returns-then-self-clause-front : goal.returns-then-self-clause-front
returns-then-self-clause-front c = λ on fed stood. feeds_none fed c.args.piece.now c.args.self.now c.args.self.now c.args.files.now refl

pub returns-then-self-clause-whole_front : goal.returns-then-self-clause-whole_front
returns-then-self-clause-whole_front c = λ first fed taken has. front_same first fed taken c.args.piece.now
    c.args.self.now c.args.files.now has

pub returns-then-self-2-clause-whole : goal.returns-then-self-2-clause-whole
returns-then-self-2-clause-whole c = λ first fed taken has.
    let stop : c.args.self.now.ended ≡ true = cc in
    served_dropped first fed taken c.args.piece.now c.args.self.now c.args.files.now stop has

pub returns-then-is_err-clause-whole_front : goal.returns-then-is_err-clause-whole_front
returns-then-is_err-clause-whole_front c =
    let view : Service = record (held c.self.inside.reader c.self.inside.session) { spent = c.self.inside.spent } in
    let new : Service = held c.feed_open-result.new.reader c.feed_open-result.new.session in
    on_err_weaker c.feed_open-result.result
    (λ call. call_front c.args.self.now view new c.args.files.now c.feed_open-result.new.files c.args.piece.now
    c.self.view_is c.if-self-2.false call) c.feed_open-result.ensures.err

pub returns-else-is_err-clause-whole : goal.returns-else-is_err-clause-whole
returns-else-is_err-clause-whole c =
    let view : Service = record (held c.self.inside.reader c.self.inside.session) { spent = c.self.inside.spent } in
    let new : Service = held c.feed_open-result.new.reader c.feed_open-result.new.session in
    on_ok_weaker c.feed_open-result.result
    (λ call. call_served c.args.self.now view new c.args.files.now c.feed_open-result.new.files c.args.piece.now
    c.self.view_is c.if-self-2.false call c.self.inside.spent)
    c.feed_open-result.ensures.ok
