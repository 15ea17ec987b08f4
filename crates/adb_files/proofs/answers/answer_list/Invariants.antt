use Rattle.std.proofs.Common.{◌<◌, ◌^◌, length, All}
use Rattle.std.specs.Vec.Iter.{into_iter_items}
use Rattle.adb_sync.specs.declared.answer.Dirent.{Dirent}
use Rattle.adb_files.specs.Listing.{listing}
use Rattle.adb_files.specs.Served.{list_bytes}
use Rattle.adb_files.specs.Service.{TellsUpTo}
use Rattle.adb_files.proofs.answers.answer_list.Given as goal

abbrev pub invariant-loop-entry : goal.invariant-loop-entry
invariant-loop-entry l = record {
  ready : (goal.iterator-loop-entry).can_next l.entry-iterator;
  finite : (goal.iterator-loop-entry).is_finite l.entry-iterator;
  names : All (λ (d : Dirent). length d.name < 2 ^ 32) (into_iter_items l.entry-iterator);
  told : TellsUpTo (list_bytes (listing l.path l.files)) (list_bytes (into_iter_items l.entry-iterator)) l.initial.out l.out;
}
