use Rattle.std.proofs.Common.{◌≡◌, true, false, Ok, Err, sym, ◌∙◌, ap, subst}
use Rattle.std.specs.Prelude.{not}
use Rattle.std.proofs.lemmas.Result.{err_from_is_err_and}
use Rattle.adb_capture.specs.declared.entry.Entry.{Entry}
use Rattle.adb_history.specs.Accepted.{is_input}
use Rattle.adb_entries.specs.Machine.{Applies}
use Rattle.adb_replay.specs.Keeping.{Out}
use Rattle.adb_replay.proofs.Entries.{made, passed_over, not_made, not_kept, kept_and_drained}
use Rattle.adb_replay.proofs.replaying.replay_record.Goals as goal

pub returns-then-is_hand_out-clause-replays : goal.returns-then-is_hand_out-clause-replays
returns-then-is_hand_out-clause-replays g c =
    let e : Entry = c.args.read.now.1 in
    let hand : not (is_input e) ≡ true =
    ap (λ (e : Entry). not (is_input e)) (sym c.entry-entry.ensures.is) ∙ (sym c.is_hand_out.ensures ∙ c.if-is_hand_out.true) in
    λ h drained. passed_over c.args.read.now.0 e h c.args.hub.now _ hand drained

pub returns-in-Err-clause-replays : goal.returns-in-Err-clause-replays
returns-in-Err-clause-replays g c = λ h drained.
    let applied = subst (λ (e : Entry). Applies h e (Err c.in-Err.why) c.apply.new.hub) c.entry-entry.ensures.is
    (c.in-Err.ensures.applied h drained.lawful) in
    rw (c.at.ensures, c.offset.ensures)
    (not_made c.args.read.now.0 c.args.read.now.1 h c.apply.new.hub _ c.in-Err.why drained.lawful.legal applied)

pub returns-in_err-keep_record-in-Ok-clause-replays : goal.returns-in_err-keep_record-in-Ok-clause-replays
returns-in_err-keep_record-in-Ok-clause-replays g c =
    let passed = err_from_is_err_and c.from_residual.result c.from_residual.ensures.1 in
    let e : Entry = c.args.read.now.1 in
    let input : not (is_input e) ≡ false =
    ap (λ (e : Entry). not (is_input e)) (sym c.entry-entry.ensures.is) ∙ (sym c.is_hand_out.ensures ∙ c.if-is_hand_out.false) in
    let before : Out = (g.K.Sink.written c.args.sink.now, c.args.output.now) in
    let after : Out = (g.K.Sink.written c.keep_record.new.sink, c.keep_record.new.self) in
    rw (passed.1, passed.2)
    (λ h drained.
    let applied = subst (λ (e : Entry). Applies h e (Ok tt) c.apply.new.hub) c.entry-entry.ensures.is
    (c.in-Ok.ensures.applied h drained.lawful) in
    not_kept c.args.read.now.0 e h c.apply.new.hub before after c.in_err-keep_record-in-Ok.field-0.0
    (made c.args.read.now.0 e h c.apply.new.hub input applied)
    c.in_err-keep_record-in-Ok.ensures.loss c.in_err-keep_record-in-Ok.ensures.kept)

pub drain-requires : goal.drain-requires
drain-requires g c =
    let held = c.requires.held in
    let e : Entry = c.args.read.now.1 in
    let input : not (is_input e) ≡ false =
    ap (λ (e : Entry). not (is_input e)) (sym c.entry-entry.ensures.is) ∙ (sym c.is_hand_out.ensures ∙ c.if-is_hand_out.false) in
    let applied = subst (λ (e : Entry). Applies held.0 e (Ok tt) c.apply.new.hub) c.entry-entry.ensures.is
    (c.in-Ok.ensures.applied held.0 held.1) in
    record { held = (_, (made c.args.read.now.0 e held.0 c.apply.new.hub input applied).lawful) }

pub returns-in_ok-keep_record-in-Ok-clause-replays : goal.returns-in_ok-keep_record-in-Ok-clause-replays
returns-in_ok-keep_record-in-Ok-clause-replays g c =
    let e : Entry = c.args.read.now.1 in
    let input : not (is_input e) ≡ false =
    ap (λ (e : Entry). not (is_input e)) (sym c.entry-entry.ensures.is) ∙ (sym c.is_hand_out.ensures ∙ c.if-is_hand_out.false) in
    let mid : Out = (g.K.Sink.written c.keep_record.new.sink, c.keep_record.new.self) in
    λ h drained.
    let applied = subst (λ (e : Entry). Applies h e (Ok tt) c.apply.new.hub) c.entry-entry.ensures.is
    (c.in-Ok.ensures.applied h drained.lawful) in
    let m = made c.args.read.now.0 e h c.apply.new.hub input applied in
    kept_and_drained c.args.read.now.0 e h c.apply.new.hub c.drain.new.hub mid c.drain.result m
    c.in_ok-keep_record-in-Ok.ensures.kept c.drain.ensures.loss (c.drain.ensures.drains _ m.lawful)
