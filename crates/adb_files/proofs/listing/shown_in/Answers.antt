use Rattle.std.proofs.Common.{ℕ, ◌∙◌, ◌++◌, ap, sym, subst, arith, List}
use Rattle.std.proofs.lemmas.List.{get_or_read}
use Rattle.adb_files.specs.Entries.{Entry}
use Rattle.adb_files.specs.Paths.{is_below, inside}
use Rattle.adb_files.specs.Places.{BeginsAt}
use Rattle.adb_files.specs.Listing.{named}
use Rattle.adb_files.proofs.Shown.{shown_none, shown_all}
use Rattle.adb_files.proofs.listing.shown_in.Goals as goal
use Rattle.adb_files.proofs.listing.shown_in.Goals.{then-loop-at-test+else-is_below, else-loop-at-test}

pub loop-at-init : goal.loop-at-init
loop-at-init c =
    let begins : BeginsAt (inside c.args.directory.now) c.args.slots.now c.first_from-at.result = subst
    (λ (slash : List ℕ). BeginsAt (c.args.directory.now ++ slash) c.args.slots.now c.first_from-at.result)
    c.slash_behind.ensures c.first_from-at.ensures in
    record {
      within = begins.within;
      others = begins.others;
      found = ap named c.new-found.ensures.empty
          ∙ sym (shown_none c.args.directory.now c.args.slots.now c.first_from-at.result begins.within begins.less);
    }

pub returns : goal.returns
returns c =
    elim c.loop-at-test.branch [
      | then-loop-at-test+else-is_below w ↦ c.loop-at.invariant.found
          ∙ shown_all c.args.directory.now c.args.slots.now c.loop-at.at c.requires.rising c.loop-at.invariant.within
          c.loop-at.invariant.others (λ d h.
          let entry = w.index-slots-at.result in
          ap (λ (e : Entry). is_below c.args.directory.now e.path)
          (sym (get_or_read c.args.slots.now c.loop-at.at entry h w.index-slots-at.is d))
          ∙ (ap (is_below c.args.directory.now) (sym w.path.ensures) ∙ (sym w.is_below.ensures ∙ w.if-is_below.false)))
      | else-loop-at-test w ↦ c.loop-at.invariant.found ∙ shown_all c.args.directory.now c.args.slots.now c.loop-at.at c.requires.rising
          c.loop-at.invariant.within c.loop-at.invariant.others (λ d h. absurd (omega (arith, h, w.loop-at-test.false)))
    ]
