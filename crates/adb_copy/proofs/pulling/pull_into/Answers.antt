use Rattle.std.proofs.Common.{◌∙◌, ap, refl, sym, subst, List, [], ◌∷◌, ◌++◌}
use Rattle.adb_files.specs.Entries.{Entry}
use Rattle.adb_files.specs.Files.{IsFileMap}
use Rattle.adb_copy.specs.declared.found.Found.{Found}
use Rattle.adb_copy.specs.Trees.{AreCopied}
use Rattle.adb_copy.proofs.PullWorlds.{next_pulling, next_room, next_walks, none_left, pulled, pulling_begins, stopped}
use Rattle.adb_copy.proofs.pulling.pull_into.Goals as goal

pub loop-found-init : goal.loop-found-init
loop-found-init g c =
    let root_alone = c.in_ok-push.ensures.items
    ∙ (ap (λ (fs : List Found). fs ++ c.in_ok-root.root ∷ []) c.new-pending.ensures.items
    ∙ ap (λ (f : Found). f ∷ []) c.in_ok-root.ensures) in
    record {
      collected = [];
      holds = c.requires.none;
      pulling = pulling_begins c.args.world.now c.push.new.self.items [] c.requires.settled c.look_at_files.ensures root_alone refl;
    }

pub visit-requires-clause-map : goal.visit-requires-clause-map
visit-requires-clause-map g c = subst IsFileMap (sym c.loop-found.invariant.pulling.pulls.files) c.look_at_files.ensures

pub visit-requires-clause-files : goal.visit-requires-clause-files
visit-requires-clause-files g c = subst (λ (es : List Entry). AreCopied es)
    (sym c.loop-found.invariant.pulling.pulls.files) c.requires.files

pub visit-requires-clause-walks : goal.visit-requires-clause-walks
visit-requires-clause-walks g c =
    let into = c.loop-found.invariant in
    record {
      collected = into.collected;
      holds = into.holds;
      walks = next_walks c.args.world.now c.loop-found.world c.loop-found.pending.items c.pop.new.self.items
          c.in-Some.found into.collected into.pulling
          c.in-Some.ensures.items;
    }

pub visit-requires-clause-room : goal.visit-requires-clause-room
visit-requires-clause-room g c =
    let into = c.loop-found.invariant in
    next_room c.args.world.now c.loop-found.world c.loop-found.pending.items c.pop.new.self.items c.in-Some.found
    into.collected into.pulling
    c.in-Some.ensures.items c.requires.room

pub loop-found-preserved : goal.loop-found-preserved
loop-found-preserved g c =
    let into = c.loop-found.invariant in
    let done = c.in_ok-visit.ensures in
    record {
      collected = done.walks.collected;
      holds = done.walks.holds;
      pulling = next_pulling c.args.world.now c.loop-found.world c.visit.new.world c.loop-found.pending.items
          c.pop.new.self.items c.visit.new.pending.items
          c.in-Some.found into.collected done.walks.collected into.pulling c.in-Some.ensures.items done.pulls done.walks.walks done.owed
          (λ spent. let clash = (done.stays spent).0 in cc);
    }

pub returns-in_err-visit-clause-left : goal.returns-in_err-visit-clause-left
returns-in_err-visit-clause-left g c whole =
    let into = c.loop-found.invariant in
    stopped c.args.world.now c.loop-found.world c.visit.new.world c.loop-found.pending.items c.pop.new.self.items
    c.in-Some.found into.collected
    c.look_at_files.ensures into.pulling c.in-Some.ensures.items (c.in_err-visit.ensures.left whole)

pub returns-clause-tree : goal.returns-clause-tree
returns-clause-tree g c =
    let into = c.loop-found.invariant in
    let none = none_left c.loop-found.pending.items c.pop.new.self.items c.loop-found.pending.len
    c.in_default.ensures.items c.in_default.ensures.rest
    c.in_default.ensures.cases.0 in
    subst (λ (es : List Entry). g.T.PulledTree.Holds c.loop-found.tree es)
    (pulled c.args.world.now c.loop-found.world c.loop-found.pending.items into.collected into.pulling none).1 into.holds

pub returns-clause-syncs : goal.returns-clause-syncs
returns-clause-syncs g c =
    let into = c.loop-found.invariant in
    let none = none_left c.loop-found.pending.items c.pop.new.self.items c.loop-found.pending.len
    c.in_default.ensures.items c.in_default.ensures.rest
    c.in_default.ensures.cases.0 in
    (pulled c.args.world.now c.loop-found.world c.loop-found.pending.items into.collected into.pulling none).0.syncs

pub returns-in_err-visit-clause-files : goal.returns-in_err-visit-clause-files
returns-in_err-visit-clause-files g c = c.in_err-visit.ensures.kept ∙ c.loop-found.invariant.pulling.pulls.files
