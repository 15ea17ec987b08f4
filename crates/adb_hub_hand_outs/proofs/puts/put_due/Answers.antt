use Rattle.std.proofs.Common.{rules, ◌≡◌, ◌≢◌, ◌∙◌, ap, sym, subst, [], take}
use Rattle.std.proofs.Math.Seq.{take-nil}
use Rattle.adb_outside.specs.Tables.{at}
use Rattle.adb_capture.specs.declared.entry.Entry.TheVariants.{Put}
use Rattle.adb_history.specs.Rows.{State}
use Rattle.adb_history.specs.Handing.{takes_of}
use Rattle.adb_hub_tables.specs.Tables.{state_of}
use Rattle.adb_hub_rules.specs.Handing.{open_stream}
use Rattle.adb_hub_hand_outs.specs.Handed.{due_to}
use Rattle.adb_hub_tables.proofs.Widening.{widened, kept_then, still_reached}
use Rattle.adb_hub_hand_outs.proofs.Putting.{put_of_due}
use Rattle.adb_hub_hand_outs.proofs.puts.put_due.Goals as goal

pub returns-in_err-keep_answer-clause-kept : goal.returns-in_err-keep_answer-clause-kept
returns-in_err-keep_answer-clause-kept c =
    let kept = widened c.args.tables.now c.keep_answer.new.tables c.requires.fit c.keep_answer.ensures.widens in
    search (rules, kept)

pub returns-clause-made : goal.returns-clause-made
returns-clause-made c =
    let old = c.args.tables.now in
    let mid = c.keep_answer.new.tables in
    let bytes = c.in_ok-bytes.bytes in
    let kept = widened old mid c.requires.fit c.keep_answer.ensures.widens in
    let front : bytes ≡ take c.args.max (due_to ((state_of old).clients c.args.client)) = search rules in
    let filled : bytes ≢ [] = search rules in
    let some : due_to ((state_of old).clients c.args.client) ≢ [] =
    λ none. filled (front ∙ (ap (take c.args.max) none ∙ take-nil c.args.max)) in
    kept_then (Put c.args.client bytes) old mid c.hand_client.new.tables kept
    (put_of_due mid c.hand_client.new.tables kept.fit (still_reached old mid kept c.requires.reached) c.args.client bytes
    (open_stream (at c.args.client mid.clients.entries) mid) (record {
      some = subst (λ (s : State). due_to (s.clients c.args.client) ≢ []) (sym kept.state) some;
      room = c.in_ok-keep_answer.ensures.room;
      uses = c.hand_client.ensures.uses;
      state = c.hand_client.ensures.state
          ∙ ap (λ n. (takes_of c.args.client n ((state_of mid).clients c.args.client) (state_of mid)).state) c.len.ensures;
    }))
