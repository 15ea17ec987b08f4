use Rattle.std.proofs.Common.{rules, tests, ◌≡◌, ◌==◌, ◌∙◌, sym, nat_eq, ap, drop, Bool, true, false, ◌&&◌, ◌||◌, bytes_eq, codes}
use Rattle.std.specs.List.{list_all, starts_with}
use Rattle.std.proofs.lemmas.Iterator.Splits.{YieldsList-from_slice_split}
use Rattle.std.proofs.lemmas.Iterator.Search.{all_from_yields_List}
use Rattle.std.proofs.lemmas.List.{take_rest}
use Rattle.adb_files.specs.Paths.{is_name, parts_of}
use Rattle.adb_files.proofs.path.is_path.Goals as goal

-- a path past the tests of its root and its first slash
past_tests : (root slash names : Bool) → root ≡ false → slash ≡ true → names ≡ (root || (slash && names))
past_tests root slash names r s = sym (ap (λ t. t || (slash && names)) r ∙ ap (λ t. t && names) s)

pub returns-then-starts_with : goal.returns-then-starts_with
returns-then-starts_with c =
    let path = c.args.path.now in
    all_from_yields_List is_name _ _ c.all.result c.all.ensures.ran
    (YieldsList-from_slice_split _ (λ byte. byte == 47) (drop 1 path) (c.split.ensures.rest ∙ take_rest path 1) (cc) (cc)
    (λ x b q k. search (rules, tests))) (λ x b q k. search (rules, tests))
    ∙ past_tests (bytes_eq path (codes "/")) (starts_with nat_eq path (codes "/")) (list_all is_name (parts_of path))
    (sym c.eq.ensures ∙ c.if-eq.false)
    (sym c.starts_with.ensures.value ∙ c.if-starts_with.true)
