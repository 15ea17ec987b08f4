use Rattle.std.proofs.Common.{ℕ, List, ◌++◌, Option}
use Rattle.std.proofs.lemmas.Result.{err_from_is_err_and}
use Rattle.adb_replay.proofs.Outputs.{front, front_kept, front_cut, end_kept, kept_or_cut, write_fault_of}
use Rattle.adb_replay.proofs.output.Output.keep_end.Goals as goal

pub returns-in_err-write_out-clause-kept : goal.returns-in_err-write_out-clause-kept
returns-in_err-write_out-clause-kept g c =
    let passed = err_from_is_err_and c.from_residual.result c.from_residual.ensures.1 in
    let before : Option (List ℕ) = g.K.Sink.written c.args.sink.now in
    let gathered : List ℕ = c.args.self.now in
    let end : List ℕ = c.args.end.now in
    rw (passed.1, passed.2, write_fault_of c.in_err-write_out.field-0.0 c.in_err-write_out.ensures.fault)
    (λ had text piece k. (
      front_cut had (text ++ piece) gathered end before k (g.K.Sink.written c.write_out.new.sink)
          (c.in_err-write_out.ensures.out had (front had (text ++ piece) gathered end before k)
          (front_kept had (text ++ piece) gathered end before k)),
      c.write_out.ensures.empty,
    ))

pub returns-clause-kept : goal.returns-clause-kept
returns-clause-kept g c = λ had text piece k.
    let before : Option (List ℕ) = g.K.Sink.written c.args.sink.now in
    let gathered : List ℕ = c.args.self.now in
    let end : List ℕ = c.args.end.now in
    let out = c.in_ok-write_out.ensures.out had (front had (text ++ piece) gathered end before k)
    (front_kept had (text ++ piece) gathered end before k) in
    kept_or_cut had text piece (g.K.Sink.written c.write_piece.new.sink, c.write_out.new.self) c.write_piece.result
    c.write_piece.ensures.fault
    (c.write_piece.ensures.out had (text ++ piece)
    (end_kept had (text ++ piece) gathered end before k (g.K.Sink.written c.write_out.new.sink) out))
    c.write_out.ensures.empty
