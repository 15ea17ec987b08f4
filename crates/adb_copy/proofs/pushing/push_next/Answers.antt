use Rattle.std.proofs.Common.{◌≡◌, List, [], ◌∷◌, ℕ, true, false, refl, sym, ◌∙◌, ap, subst}
use Rattle.std.proofs.lemmas.Result.{err_from_is_err_and}
use Rattle.adb_files.specs.Served.{served}
use Rattle.adb_world.specs.Stopped.{IsServedInPart}
use Rattle.adb_sync_client.specs.Values.{push_value}
use Rattle.adb_copy.specs.Trees.{HasAnswered, entry_of}
use Rattle.adb_copy.proofs.Exchanged.{heard_is, is_answered, pushes_one}
use Rattle.adb_copy.proofs.Finds.{finds, found_timed, there_short}
use Rattle.adb_copy.proofs.Sent.{sent, sent_in_part}
use Rattle.adb_copy.proofs.Steps.{found_copied, pushes_spent}
use Rattle.adb_copy.proofs.pushing.push_next.Goals as goal

pub text-requires-clause-short : goal.text-requires-clause-short
text-requires-clause-short g c = there_short (g.T.PushedTree.files c.args.tree.now) c.args.path.now c.requires.tree c.requires.there

pub read_answer-requires-clause-short : goal.read_answer-requires-clause-short
read_answer-requires-clause-short g c = there_short (g.T.PushedTree.files c.args.tree.now) c.args.path.now c.requires.tree c.requires.there

pub read_answer-requires-clause-whole : goal.read_answer-requires-clause-whole
read_answer-requires-clause-whole g c =
    let tree = g.T.PushedTree.files c.args.tree.now in
    let found = finds tree c.args.path.now c.requires.there in
    let entry = entry_of c.args.path.now found.file in
    let copied = found_copied tree c.args.path.now found.file c.requires.tree found.is in
    let timed = found_timed tree c.args.path.now found.file c.requires.map found.is in
    let heard = heard_is c.args.world.now c.args.world.now entry copied timed c.in_ok-ask.ask c.in_ok-ask.ask
    c.in_ok-answer.answer c.as_slice.result.now
    (c.in_ok-ask.ensures found.file found.is) refl c.in_ok-answer.ensures.answer c.as_slice.ensures in
    subst (λ (bytes : List ℕ). HasAnswered (push_value bytes)) (sym heard)
    (is_answered c.args.world.now c.args.world.now entry copied timed)

pub returns-in_err-answer : goal.returns-in_err-answer
returns-in_err-answer g c file is =
    let tree = g.T.PushedTree.files c.args.tree.now in
    let entry = entry_of c.args.path.now file in
    let copied = found_copied tree c.args.path.now file c.requires.tree is in
    let timed = found_timed tree c.args.path.now file c.requires.map is in
    let passed = err_from_is_err_and c.from_residual-in_err-answer.result c.from_residual-in_err-answer.ensures.1 in
    let stopped = c.in_err-answer.ensures in
    let part = subst (λ (text : List ℕ). IsServedInPart c.args.world.now.files c.sync_text.new.self.files text)
    (c.in_ok-ask.ensures file is)
    stopped.in_part in
    rw (passed.1, passed.2)
    (pushes_spent (entry ∷ []) c.args.world.now c.sync_text.new.self stopped.spent (λ spent. (stopped.stays spent).1)
    (sent_in_part c.args.world.now.files entry copied timed c.sync_text.new.self.files part))

pub returns : goal.returns
returns g c file is =
    let tree = g.T.PushedTree.files c.args.tree.now in
    let entry = entry_of c.args.path.now file in
    let new = c.sync_text.new.self in
    let copied = found_copied tree c.args.path.now file c.requires.tree is in
    let timed = found_timed tree c.args.path.now file c.requires.map is in
    let heard = heard_is c.args.world.now new entry copied timed c.in_ok-ask.ask c.in_ok-ask.ask c.in_ok-answer.answer c.as_slice.result.now
    (c.in_ok-ask.ensures file is) refl c.in_ok-answer.ensures.answer c.as_slice.ensures in
    let answered = c.in_ok-answer.ensures in
    let files : new.files ≡ (sent c.args.world.now.files entry copied timed).files =
    answered.files ∙ ap (λ (bytes : List ℕ). (served c.args.world.now.files bytes).files) (c.in_ok-ask.ensures file is) in
    pushes_one c.args.world.now new entry copied timed c.as_slice.result.now c.read_answer.result
    (record {
      answer_is = heard;
      files = files;
      syncs = record {
        given = answered.given;
        same = answered.same;
        rests = answered.settled;
        whole = λ is. answered.whole;
        calm = λ is. answered.calm;
        counted = λ is. answered.counted;
      };
      unspent = λ is. let clash : false ≡ true = (answered.stays is).0 in absurd (cc);
    })
    (record { ok = c.read_answer.ensures.ok; refused = c.read_answer.ensures.refused })
