use Rattle.std.proofs.Common.{ℕ, List, ◌∷◌, ◌++◌, take, drop, sym, ◌∙◌, ◌≡◌, ap, subst, set, Some}
use Rattle.std.proofs.lemmas.List.{set_split}
use Rattle.adb_files.specs.Entries.{Entry}
use Rattle.adb_files.specs.Files.{ChangesAt, with_file}
use Rattle.adb_files.specs.Places.{StandsAt, FitsAt}
use Rattle.adb_files.proofs.Rising.{entry_of}
use Rattle.adb_files.proofs.Lookups.{entry_written, entry_put, changes-with, parts_where_stands, parts_where_fits}
use Rattle.adb_files.proofs.place.store.Goals as goal

-- where the path stands, or would stand
stands : (c : goal.After-slots-1) → StandsAt c.args.path.now c.args.slots.now.items c.in-Ok.i
stands c = subst (λ (xs : List Entry). StandsAt c.args.path.now xs c.in-Ok.i) c.as_slice.ensures.value c.in-Ok.ensures

fits : (c : goal.In_ok-insert-in-Err) → FitsAt c.args.path.now c.args.slots.now.items c.in-Err.i
fits c = subst (λ (xs : List Entry). FitsAt c.args.path.now xs c.in-Err.i) c.as_slice.ensures.value c.in-Err.ensures

-- the slot of the path, with the new file
written : (c : goal.After-slots-1) → set c.args.slots.now.items c.in-Ok.i c.replace.new.self
    ≡ with_file c.args.path.now c.args.file c.args.slots.now.items
written c =
    let entry : Entry = c.index_mut.result.now in
    let new : c.replace.new.self ≡ entry_of entry.path c.args.file = c.replace.ensures ∙ ap (entry_of entry.path) c.in_ok-file.ensures.ok in
    ap (set c.args.slots.now.items c.in-Ok.i) new
    ∙ (set_split c.args.slots.now.items c.in-Ok.i (entry_of entry.path c.args.file) (stands c).within
    ∙ entry_written c.args.file entry (stands c) (ap (λ (e : Entry). e.path) c.index_mut.ensures.value ∙ (stands c).here entry))

pub returns-in-Ok-clause-list : goal.returns-in-Ok-clause-list
returns-in-Ok-clause-list c = written c

pub returns-in-Ok-clause-changes : goal.returns-in-Ok-clause-changes
returns-in-Ok-clause-changes c =
    subst (ChangesAt c.args.path.now (Some c.args.file) c.args.slots.now.items) (sym (written c))
    (changes-with c.args.path.now c.args.file c.args.slots.now.items _ (parts_where_stands (stands c)))

-- a new slot
put : (c : goal.In_ok-insert-in-Err) → c.insert.new.self.items ≡ with_file c.args.path.now c.args.file c.args.slots.now.items
put c =
    let new : c.new-in-Err.result ≡ entry_of c.args.path.now c.args.file =
    c.new-in-Err.ensures
    ∙ (ap (entry_of c.in_ok-path-in-Err.path) c.in_ok-file.ensures.ok
    ∙ ap (λ (p : List ℕ). entry_of p c.args.file) c.in_ok-path-in-Err.ensures)
    in
    c.in_ok-insert-in-Err.ensures.items
    ∙ (ap (λ (e : Entry). take c.in-Err.i c.args.slots.now.items ++ e ∷ drop c.in-Err.i c.args.slots.now.items) new
    ∙ entry_put c.args.file (fits c))

pub returns-in_ok-insert-in-Err-clause-list : goal.returns-in_ok-insert-in-Err-clause-list
returns-in_ok-insert-in-Err-clause-list c = put c

pub returns-in_ok-insert-in-Err-clause-changes : goal.returns-in_ok-insert-in-Err-clause-changes
returns-in_ok-insert-in-Err-clause-changes c =
    subst (ChangesAt c.args.path.now (Some c.args.file) c.args.slots.now.items) (sym (put c))
    (changes-with c.args.path.now c.args.file c.args.slots.now.items _ (parts_where_fits (fits c)))
