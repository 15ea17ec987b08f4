use Rattle.std.specs.Prelude.{Some, is_some, ◌++◌, ◌||◌}
use Rattle.std.proofs.Common.{◌∙◌, ap, sym, subst}
use Rattle.std.specs.Io.{StartsWith}
use Rattle.adb_shell_service.proofs.Answering.{answer_grows, piece_answered, piece_front}
use Rattle.adb_files.proofs.Serving.{on_err_always}
use Rattle.adb_shell_service.specs.Service.{Answers, shell_answer}
use Rattle.adb_shell_service.proofs.service.answer_piece.Goals as goal

pub returns-in_err-faulty-clause-front : goal.returns-in_err-faulty-clause-front
returns-in_err-faulty-clause-front c = on_err_always c.from_residual.result (λ opening fed taken is told.
    subst (StartsWith (shell_answer opening (fed ++ c.args.piece.now)).bytes) (sym told)
    (answer_grows opening fed c.args.piece.now (Some c.args.reader.now) is))

pub returns-in_err-closed-clause-front : goal.returns-in_err-closed-clause-front
returns-in_err-closed-clause-front c = on_err_always c.from_residual-in_err-closed.result (λ opening fed taken is told.
    let sound = c.in_ok-faulty.ensures.ok.0 in
    piece_front
    (record {
      opening = _;
      fed = _;
      piece = _;
      taken = _;
      out = _;
      old = _;
      read = _;
      is = is;
      takes =
          c.feed.ensures.taken sound;
      told = told;
    })
    c.in_err-closed.ensures.err)

pub returns-then-closed-clause-whole : goal.returns-then-closed-clause-whole
returns-then-closed-clause-whole c = λ opening fed taken is told.
    let sound = c.in_ok-faulty.ensures.ok.0 in
    let all = piece_answered
    (record {
      opening = _;
      fed = _;
      piece = _;
      taken = _;
      out = _;
      old = _;
      read = _;
      is = is;
      takes =
          c.feed.ensures.taken sound;
      told = told;
    })
    c.in_ok-closed.ensures.ok in
    let ends = ap (λ t. t || is_some c.feed.new.self.fault) c.if-closed.true ∙ sym c.if-closed.true in
    subst (Answers opening (fed ++ c.args.piece.now) taken c.answer_given.new.reader c.answer_given.new.out.bytes) ends all

pub returns-else-closed-clause-whole : goal.returns-else-closed-clause-whole
returns-else-closed-clause-whole c = λ opening fed taken is told.
    let sound = c.in_ok-faulty.ensures.ok.0 in
    let all = piece_answered
    (record {
      opening = _;
      fed = _;
      piece = _;
      taken = _;
      out = _;
      old = _;
      read = _;
      is = is;
      takes =
          c.feed.ensures.taken sound;
      told = told;
    })
    c.in_ok-closed.ensures.ok in
    let ends = ap (λ t. t || is_some c.feed.new.self.fault) c.if-closed.false
    ∙ sym (c.in_ok-faulty.ensures.ok.1 c.feed.new.self.fault (c.feed.ensures.answer sound)) in
    subst (Answers opening (fed ++ c.args.piece.now) taken c.answer_given.new.reader c.answer_given.new.out.bytes) ends all
