-- What a log of endings has behind an entry that was applied.
use Rattle.std.proofs.Common.{◌≡◌, ◌++◌, [], List, Bool, true, false, cond, sym, ◌∙◌, ap, subst}
use Rattle.std.specs.Prelude.{Result, Ok, Err, OnOk}
use Rattle.std.proofs.lemmas.List.{append-nil}
use Rattle.adb_capture.specs.declared.entry.Entry.{Entry}
use Rattle.adb_history.specs.Machine.{History}
use Rattle.adb_history.specs.Accepted.{is_input}
use Rattle.adb_hub_tables.specs.declared.endings.Ended.{Ended}
use Rattle.adb_hub_tables.specs.Endings.{Log, endings_at}
use Rattle.adb_hub.specs.declared.error.HubError.{HubError}
use Rattle.adb_entries.specs.declared.refused.Refused.{Refused}
use Rattle.adb_entries.specs.Machine.{ReportsApplied}
use Rattle.adb_entries.specs.Refused.{applied_as}

-- where no stream ends it has what it had
pub none_applied : (e : Entry) (h : History) (log : Log) → endings_at e h ≡ [] → ReportsApplied e h log log
none_applied e h log none = by_test (is_input e)
  where
    by_test : (b : Bool) → log.list ≡ log.list ++ cond b (endings_at e h) []
    by_test true = sym (append-nil log.list) ∙ ap (λ (more : List Ended). log.list ++ more) (sym none)
    by_test false = sym (append-nil log.list)

pub on_ok : {T E : Type 0} (r : Result T E) (P : Type 0) → P → OnOk r P
on_ok (Ok x) P p = p
on_ok (Err e) P p = tt

-- what holds where the hub's call made its entry holds where the entry was applied
pub on_applied : {A : Type 0} (r : Result A HubError) (done : Result (Unit {0}) Refused) (P : Type 0)
    → done ≡ applied_as r → OnOk r P → OnOk done P
on_applied (Ok x) done P is p = subst (λ (done : Result (Unit {0}) Refused). OnOk done P) (sym is) p
on_applied (Err e) done P is p = subst (λ (done : Result (Unit {0}) Refused). OnOk done P) (sym is) tt
