use Rattle.std.proofs.Common.{◌<◌, ◌^◌, length, refl}
use Rattle.std.proofs.lemmas.List.Elements.{All-rest}
use Rattle.std.specs.Vec.Iter.{into_iter_items}
use Rattle.adb_sync.specs.declared.answer.Dirent.{Dirent}
use Rattle.adb_files.proofs.Chunks.{list_none, list_step, list_same}
use Rattle.adb_files.proofs.Serving.{on_err_always}
use Rattle.adb_files.specs.Listing.{listing}
use Rattle.adb_files.specs.Served.{list_bytes}
use Rattle.adb_files.proofs.answers.answer_list.Goals as goal

pub loop-entry-preserved-in_ok-push : goal.loop-entry-preserved-in_ok-push
loop-entry-preserved-in_ok-push c = record {
  ready = tt;
  finite = tt;
  names = All-rest (λ (d : Dirent). length d.name < 2 ^ 32) c.in-Some.entry (into_iter_items c.next.new.self)
      (into_iter_items c.loop-entry.entry-iterator) c.in-Some.ensures.steps.0 c.loop-entry.invariant.names;
  told = list_step (record {
    entry = c.in-Some.entry;
    rest = into_iter_items c.loop-entry.entry-iterator;
    left = into_iter_items c.next.new.self;
    all = c.in-Some.ensures.steps.0;
    before = _;
    now = _;
    is = c.in_ok-push.ensures.ok;
  }) c.loop-entry.invariant.told;
}

pub returns-in_err-entry-items-clause-err : goal.returns-in_err-entry-items-clause-err
returns-in_err-entry-items-clause-err c =
    on_err_always c.from_residual.result (list_same (list_none (list_bytes (listing c.args.path.now c.args.files.now)) c.args.out.now) refl)

pub returns-in_err-push-clause-err : goal.returns-in_err-push-clause-err
returns-in_err-push-clause-err c =
    on_err_always c.from_residual-in_err-push.result (list_same c.loop-entry.invariant.told c.in_err-push.ensures.err)
