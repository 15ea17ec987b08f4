use Rattle.std.proofs.Common.{◌∙◌, refl, sym, subst}
use Rattle.std.specs.List.{AllByRecursion}
use Rattle.std.proofs.lemmas.Result.{err_from_is_err_and, on_ok_weaker, on_err_weaker}
use Rattle.adb_sync.specs.Asks.{asks_start}
use Rattle.adb_files.specs.Service.{HasShortPath, run}
use Rattle.adb_files.proofs.SendPaths.{short_after}
use Rattle.adb_files.proofs.Feeding.{feeds_ended, feeds_fault, feeds_on, feeds_front, feeds_unsaid, same_fault}
use Rattle.adb_files.proofs.Whole.{feeds_none}
use Rattle.adb_files.proofs.Serving.{on_err_always}
use Rattle.adb_files.proofs.service.feed_open.Goals as goal

pub serve_given-requires-clause-short : goal.serve_given-requires-clause-short
serve_given-requires-clause-short c =
    subst (λ r. AllByRecursion HasShortPath r.given) (sym (c.feed.ensures.taken c.in_ok-fault.ensures.ok.0).held)
    (short_after c.args.reader.now c.args.piece.now c.args.reader.now.fault c.requires.short)

pub returns-then-session-clause-ok : goal.returns-then-session-clause-ok
returns-then-session-clause-ok c = λ fed stood.
    feeds_ended fed c.args.piece.now (run c.args.reader.now c.args.session.now c.args.files.now) c.feed.new.self
    (run c.serve_given.new.reader c.serve_given.new.session c.serve_given.new.files)
    c.requires.goes_on stood
    (λ taken r. (c.feed.ensures.taken c.in_ok-fault.ensures.ok.0).stands asks_start fed taken r)
    c.in_ok-serve_given.ensures.ok
    c.if-session.true

pub returns-in-None-clause-ok : goal.returns-in-None-clause-ok
returns-in-None-clause-ok c = λ fed stood.
    feeds_on fed c.args.piece.now (run c.args.reader.now c.args.session.now c.args.files.now) c.feed.new.self
    (run c.serve_given.new.reader c.serve_given.new.session c.serve_given.new.files)
    c.requires.goes_on stood (λ taken r. (c.feed.ensures.taken c.in_ok-fault.ensures.ok.0).stands asks_start fed taken r)
    (same_fault c.feed.new.self.fault c.in_ok-fault.fault
    (sym (c.feed.ensures.answer c.in_ok-fault.ensures.ok.0) ∙ c.in_ok-fault.ensures.ok.1) ∙ c.in-None.is)
    c.in_ok-serve_given.ensures.ok

pub returns-in-Some-clause-ok : goal.returns-in-Some-clause-ok
returns-in-Some-clause-ok c =
    on_ok_weaker c.take_fault.result (λ h fed stood.
    feeds_fault fed c.args.piece.now (run c.args.reader.now c.args.session.now c.args.files.now) c.feed.new.self
    (run c.serve_given.new.reader c.serve_given.new.session c.serve_given.new.files)
    c.requires.goes_on stood
    (λ taken r. (c.feed.ensures.taken c.in_ok-fault.ensures.ok.0).stands asks_start fed taken r) c.in-Some.fault
    c.take_fault.new.self
    (same_fault c.feed.new.self.fault c.in_ok-fault.fault
    (sym (c.feed.ensures.answer c.in_ok-fault.ensures.ok.0) ∙ c.in_ok-fault.ensures.ok.1) ∙ c.in-Some.is)
    c.in_ok-serve_given.ensures.ok c.if-session.false h.0 h.1) c.take_fault.ensures.ok

pub returns-in_err-fault-clause-short : goal.returns-in_err-fault-clause-short
returns-in_err-fault-clause-short c =
    subst (λ r. AllByRecursion HasShortPath r.given) (sym (c.feed.ensures.memory c.in_err-fault.ensures.err)) c.requires.short

pub returns-in_err-fault-clause-err : goal.returns-in_err-fault-clause-err
returns-in_err-fault-clause-err c = on_err_always c.from_residual.result
    (λ fed stood. feeds_none fed c.args.piece.now _ _ c.args.files.now refl)

pub returns-in_err-serve_given-clause-err : goal.returns-in_err-serve_given-clause-err
returns-in_err-serve_given-clause-err c =
    let p = err_from_is_err_and c.from_residual-in_err-serve_given.result c.from_residual-in_err-serve_given.ensures.1 in
    rw p.1 (λ fed stood. feeds_front fed c.args.piece.now (run c.args.reader.now c.args.session.now c.args.files.now) c.feed.new.self
    (run c.serve_given.new.reader c.serve_given.new.session c.serve_given.new.files) c.requires.goes_on stood
    (λ taken r. (c.feed.ensures.taken c.in_ok-fault.ensures.ok.0).stands asks_start fed taken r)
    c.in_err-serve_given.ensures.err)

pub returns-in-Some-clause-err : goal.returns-in-Some-clause-err
returns-in-Some-clause-err c =
    on_err_weaker c.take_fault.result (λ same fed stood.
    feeds_unsaid fed c.args.piece.now (run c.args.reader.now c.args.session.now c.args.files.now) c.feed.new.self
    (run c.serve_given.new.reader c.serve_given.new.session c.serve_given.new.files)
    c.requires.goes_on stood
    (λ taken r. (c.feed.ensures.taken c.in_ok-fault.ensures.ok.0).stands asks_start fed taken r)
    c.take_fault.new.self
    c.in_ok-serve_given.ensures.ok
    c.if-session.false same) c.take_fault.ensures.err
