use Rattle.std.proofs.Common.{◌∙◌, sym, subst, List}
use Rattle.adb_sync.specs.declared.answer.Dirent.{Dirent}
use Rattle.adb_sync_client.specs.declared.step.Step.{Step}
use Rattle.adb_copy.specs.Waiting.{IsDone}
use Rattle.adb_copy.proofs.PullAnswers.{done_is, list_in_part, listing_read}
use Rattle.adb_copy.proofs.PullWalk.{listing_words}
use Rattle.adb_copy.proofs.asking.list.Goals as goal

pub value_of-entries-requires : goal.value_of-entries-requires
value_of-entries-requires c =
    let files = c.args.world.now.files in
    let path = c.args.directory.now in
    let read = listing_read files path c.requires.short (listing_words files c.requires.map c.requires.files path) in
    subst (λ (s : Step (List Dirent)). IsDone s) (sym (c.in_ok-step.ensures.step ∙ read)) tt

pub returns-clause-entries : goal.returns-clause-entries
returns-clause-entries c =
    let files = c.args.world.now.files in
    let path = c.args.directory.now in
    let read = listing_read files path c.requires.short (listing_words files c.requires.map c.requires.files path) in
    c.into_vec.ensures ∙ done_is (sym c.value_of-entries.ensures ∙ (c.in_ok-step.ensures.step ∙ read))

pub ask-requires-clause-in_part : goal.ask-requires-clause-in_part
ask-requires-clause-in_part c = list_in_part c.args.world.now.files c.args.directory.now c.requires.short
