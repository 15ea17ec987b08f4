use Rattle.std.proofs.Common.{◌/◌, ◌≡◌, ◌∙◌, sym}
use Rattle.std.proofs.lemmas.Bool.{eqb-true, eq-eqb}
use Rattle.adb_files.specs.Files.{with_file}
use Rattle.adb_world.specs.Parts.{most_sessions}
use Rattle.adb_copy.proofs.PullVisit.{visit_file, visit_granted, visit_listed, visit_pulled, visit_room, visit_short}
use Rattle.adb_copy.proofs.pulling.visit.Goals as goal

pub list_found-requires-clause-room : goal.list_found-requires-clause-room
list_found-requires-clause-room g c =
    visit_room c.args.world.now.files c.requires.map c.requires.files c.args.pending.now.items c.args.found
    c.requires.walks.collected c.requires.walks.walks
    c.args.world.now.given most_sessions c.requires.room

pub list_found-requires-clause-short : goal.list_found-requires-clause-short
list_found-requires-clause-short g c =
    visit_short c.args.world.now.files c.requires.map c.requires.files c.args.pending.now.items c.args.found
    c.requires.walks.collected c.requires.walks.walks

pub returns-then-is_directory-clause-walks : goal.returns-then-is_directory-clause-walks
returns-then-is_directory-clause-walks g c =
    let mode : c.args.found.mode / 4096 ≡ 4 = eqb-true (c.args.found.mode / 4096) 4 (sym c.is_directory.ensures ∙ c.if-is_directory.true) in
    record {
      collected = c.requires.walks.collected;
      holds = c.requires.walks.holds;
      walks = (visit_listed c.args.world.now.files c.requires.map c.requires.files c.args.pending.now.items
          c.args.found c.requires.walks.collected
          c.requires.walks.walks c.list_found.new.pending.items mode c.in_ok-list_found.ensures.entries).0;
    }

pub returns-then-is_directory-clause-owed : goal.returns-then-is_directory-clause-owed
returns-then-is_directory-clause-owed g c =
    let mode : c.args.found.mode / 4096 ≡ 4 = eqb-true (c.args.found.mode / 4096) 4 (sym c.is_directory.ensures ∙ c.if-is_directory.true) in
    (visit_listed c.args.world.now.files c.requires.map c.requires.files c.args.pending.now.items c.args.found
    c.requires.walks.collected c.requires.walks.walks
    c.list_found.new.pending.items mode c.in_ok-list_found.ensures.entries).1

pub pull_found-requires-clause-room : goal.pull_found-requires-clause-room
pull_found-requires-clause-room g c =
    visit_room c.args.world.now.files c.requires.map c.requires.files c.args.pending.now.items c.args.found
    c.requires.walks.collected c.requires.walks.walks
    c.args.world.now.given most_sessions c.requires.room

pub pull_found-requires-clause-short : goal.pull_found-requires-clause-short
pull_found-requires-clause-short g c =
    visit_short c.args.world.now.files c.requires.map c.requires.files c.args.pending.now.items c.args.found
    c.requires.walks.collected c.requires.walks.walks

pub pull_found-requires-clause-there : goal.pull_found-requires-clause-there
pull_found-requires-clause-there g c =
    visit_file c.args.world.now.files c.requires.map c.requires.files c.args.pending.now.items c.args.found
    c.requires.walks.collected c.requires.walks.walks
    (λ mode. let clash = sym c.if-is_directory.false ∙ (c.is_directory.ensures ∙ eq-eqb (c.args.found.mode / 4096) 4 mode) in cc)

pub pull_found-requires-clause-fits : goal.pull_found-requires-clause-fits
pull_found-requires-clause-fits g c is = record {
  files = c.requires.walks.collected;
  holds = c.requires.walks.holds;
  granted = visit_granted c.args.world.now.files c.requires.map c.requires.files c.args.pending.now.items c.args.found
      c.requires.walks.collected
      c.requires.walks.walks is;
}

pub returns-clause-walks : goal.returns-clause-walks
returns-clause-walks g c =
    let walks = c.requires.walks in
    let is = visit_file c.args.world.now.files c.requires.map c.requires.files c.args.pending.now.items c.args.found
    walks.collected walks.walks
    (λ mode. let clash = sym c.if-is_directory.false ∙ (c.is_directory.ensures ∙ eq-eqb (c.args.found.mode / 4096) 4 mode) in cc) in
    record {
      collected = with_file c.args.found.path is.file walks.collected;
      holds = c.in_ok-pull_found.ensures.put is walks.collected walks.holds
          (visit_granted c.args.world.now.files c.requires.map c.requires.files c.args.pending.now.items c.args.found
          walks.collected walks.walks is);
      walks = (visit_pulled c.args.world.now.files c.requires.map c.requires.files c.args.pending.now.items
          c.args.found walks.collected walks.walks
          is).0;
    }

pub returns-clause-owed : goal.returns-clause-owed
returns-clause-owed g c =
    let walks = c.requires.walks in
    let is = visit_file c.args.world.now.files c.requires.map c.requires.files c.args.pending.now.items c.args.found
    walks.collected walks.walks
    (λ mode. let clash = sym c.if-is_directory.false ∙ (c.is_directory.ensures ∙ eq-eqb (c.args.found.mode / 4096) 4 mode) in cc) in
    (visit_pulled c.args.world.now.files c.requires.map c.requires.files c.args.pending.now.items c.args.found
    walks.collected walks.walks is).1
