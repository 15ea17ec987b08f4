use Rattle.std.specs.Prelude.{ℕ, ◌+◌, codes, false, true, is_some, Some, option_map}
use Rattle.std.proofs.Common.{◌≡◌, ◌∙◌, refl, sym, ap, subst}
use Rattle.adb_outside.specs.Tables.{at}
use Rattle.adb_daemon.specs.Daemon.{files_of}
use Rattle.adb_daemon.specs.declared.daemon.Daemon.{Daemon}
use Rattle.adb_world.specs.Answered.{IsAnsweredAlone, answer_of}
use Rattle.adb_world.specs.Parts.{AreSameBut}
use Rattle.adb_world.specs.Together.{AreAskedInPart}
use Rattle.adb_world.proofs.Stays.{same_sessions}
use Rattle.adb_device_streams.proofs.Syncing.{at_err}
use Rattle.adb_world.proofs.Finishing.{whole_of, whole_with}
use Rattle.adb_world.proofs.Synced.{sync_known, there_after, new_alone, is_answer, is_left, all_same, in_part, all_served}
use Rattle.adb_world.proofs.Written.{added_have}
use Rattle.adb_world.proofs.asking.sync_parts.Goals as goal

pub begin-requires-clause-known : goal.begin-requires-clause-known
begin-requires-clause-known c = sync_known

pub settle_parts-requires-clause-wrote : goal.settle_parts-requires-clause-wrote
settle_parts-requires-clause-wrote c =
    added_have c.args.ask (codes "sync:") c.args.parts.now c.begin.new.parts c.requires.done.words c.in_ok-number.ensures.added

pub finish_one-requires-clause-there : goal.finish_one-requires-clause-there
finish_one-requires-clause-there c =
    subst (λ (n : ℕ). is_some (at n c.settle_parts.new.parts.sessions.entries) ≡ true) (sym c.in_ok-number.ensures.number)
    (there_after (c.args.parts.now.given + 1) c.args.ask c.args.parts.now c.begin.new.parts c.settle_parts.new.parts
    c.in_ok-number.ensures.added
    c.in_ok-settle_parts.ensures.goes.same)

pub returns-clause-answer : goal.returns-clause-answer
returns-clause-answer c =
    let adds = c.in_ok-number.ensures.added in
    let same = c.in_ok-settle_parts.ensures.goes.same in
    let number : ℕ = c.args.parts.now.given + 1 in
    let fresh = new_alone number c.args.ask c.args.parts.now c.begin.new.parts c.settle_parts.new.parts adds same c.requires.done.words in
    is_answer number c.args.ask c.args.parts.now c.begin.new.parts c.settle_parts.new.parts adds same
    (files_of c.settle_parts.new.parts.device)
    (files_of c.args.parts.now.device)
    (λ session is.
    subst (λ (d : Daemon). IsAnsweredAlone session (files_of d) (files_of c.settle_parts.new.parts.device)) adds.device
    (c.in_ok-settle_parts.ensures.alone c.in_ok-number.ensures.ease number session fresh is)) c.into_answer.result
    (ap Some c.into_answer.ensures
    ∙ (ap (option_map answer_of) c.in_ok-session.ensures.session
    ∙ ap (λ (n : ℕ). option_map answer_of (at n c.settle_parts.new.parts.sessions.entries)) c.in_ok-number.ensures.number))

pub returns-clause-files : goal.returns-clause-files
returns-clause-files c =
    let adds = c.in_ok-number.ensures.added in
    let same = c.in_ok-settle_parts.ensures.goes.same in
    let number : ℕ = c.args.parts.now.given + 1 in
    let fresh = new_alone number c.args.ask c.args.parts.now c.begin.new.parts c.settle_parts.new.parts adds same c.requires.done.words in
    c.in_ok-session.ensures.files
    ∙ is_left number c.args.ask c.args.parts.now c.begin.new.parts c.settle_parts.new.parts adds same
    (files_of c.settle_parts.new.parts.device)
    (files_of c.args.parts.now.device)
    (λ session is.
    subst (λ (d : Daemon). IsAnsweredAlone session (files_of d) (files_of c.settle_parts.new.parts.device)) adds.device
    (c.in_ok-settle_parts.ensures.alone c.in_ok-number.ensures.ease number session fresh is))

pub returns-clause-same : goal.returns-clause-same
returns-clause-same c =
    all_same (c.args.parts.now.given + 1) c.args.ask c.args.parts.now c.begin.new.parts c.settle_parts.new.parts
    c.in_ok-number.ensures.added
    c.in_ok-settle_parts.ensures.goes.same c.requires.done.ease refl c.finish_one.new.parts
    (subst (λ (n : ℕ). AreSameBut n c.settle_parts.new.parts.sessions.entries c.finish_one.new.parts.sessions.entries)
    c.in_ok-number.ensures.number
    c.in_ok-session.ensures.same)

pub returns-in_err-number-clause-in_part : goal.returns-in_err-number-clause-in_part
returns-in_err-number-clause-in_part c = at_err _ c.from_residual.result (0, ap (λ (d : Daemon). files_of d) c.in_err-number.ensures.kept)

pub returns-in_err-settle_parts-clause-in_part : goal.returns-in_err-settle_parts-clause-in_part
returns-in_err-settle_parts-clause-in_part c =
    let adds = c.in_ok-number.ensures.added in
    let number : ℕ = c.args.parts.now.given + 1 in
    let whole = whole_with number (codes "sync:") c.args.ask c.args.parts.now c.begin.new.parts
    (whole_of false true c.args.parts.now refl c.requires.done) adds in
    at_err _ c.from_residual-in_err-settle_parts.result
    (in_part number c.args.ask c.args.parts.now c.begin.new.parts c.begin.new.parts adds
    (same_sessions c.begin.new.parts.sessions.entries) c.requires.done
    (files_of c.args.parts.now.device) (files_of c.settle_parts.new.parts.device)
    (subst (λ (d : Daemon). AreAskedInPart (files_of d) (files_of c.settle_parts.new.parts.device)
    c.begin.new.parts.sessions.entries) adds.device
    (c.in_err-settle_parts.ensures.in_part c.in_ok-number.ensures.ease whole)))

pub returns-in_err-session-clause-in_part : goal.returns-in_err-session-clause-in_part
returns-in_err-session-clause-in_part c =
    let adds = c.in_ok-number.ensures.added in
    let same = c.in_ok-settle_parts.ensures.goes.same in
    let number : ℕ = c.args.parts.now.given + 1 in
    let fresh = new_alone number c.args.ask c.args.parts.now c.begin.new.parts c.settle_parts.new.parts adds same c.requires.done.words in
    at_err _ c.from_residual-in_err-session.result
    (all_served (files_of c.args.parts.now.device) (files_of c.finish_one.new.parts.device) c.args.ask
    (c.in_err-session.ensures.files
    ∙ is_left number c.args.ask c.args.parts.now c.begin.new.parts c.settle_parts.new.parts adds same
    (files_of c.settle_parts.new.parts.device)
    (files_of c.args.parts.now.device)
    (λ session is.
    subst (λ (d : Daemon). IsAnsweredAlone session (files_of d) (files_of c.settle_parts.new.parts.device)) adds.device
    (c.in_ok-settle_parts.ensures.alone c.in_ok-number.ensures.ease number session fresh is))))
