use Rattle.std.proofs.Common.{◌≡◌, ◌++◌, false, sym, ◌∙◌, ap}
use Rattle.adb_capture.specs.Records.{magic}
use Rattle.adb_recorder.proofs.Recorded.{magic_in_part, first_whole, first_in_part}
use Rattle.adb_recorder.proofs.sink_recorder.SinkRecorder.write.Goals as goal
use Rattle.adb_recorder.proofs.sink_recorder.SinkRecorder.write.Goals.{in-All-write_both, in-Failed-write_both}

pub returns-in-Failed-clause-told : goal.returns-in-Failed-clause-told
returns-in-Failed-clause-told g c = λ out told.
    let first : c.args.self.now.opened ≡ false = ap (λ r. r.opened) (sym c.self.view_is) ∙ c.if-self.false in
    magic_in_part _ (c.args.head.now ++ c.args.text.now) out c.in-Failed.taken _ first c.in-Failed.ensures.fits
    (c.in-Failed.ensures.told out (ap (λ r. g.K.Sink.written r.sink) c.self.view_is ∙ told))

pub returns-after-write_both-clause-told : goal.returns-after-write_both-clause-told
returns-after-write_both-clause-told g c = λ out told.
    let first : c.args.self.now.opened ≡ false = ap (λ r. r.opened) (sym c.self.view_is) ∙ c.if-self.false in
    let opened = c.in-All.ensures.told out (ap (λ r. g.K.Sink.written r.sink) c.self.view_is ∙ told) in
    elim c.match-write_both.branch [
      | in-All-write_both w ↦ rw w.result-is
          (first_whole _ (c.args.head.now ++ c.args.text.now) out _ first (w.in-All-write_both.ensures.told (out ++ magic) opened))
      | in-Failed-write_both w ↦ rw w.result-is
          (first_in_part _ (c.args.head.now ++ c.args.text.now) out w.in-Failed-write_both.taken _ first
          (w.in-Failed-write_both.ensures.told (out ++ magic) opened))
    ]
