-- A tree that went to a device without files and came back.
use Rattle.std.proofs.Common.{ℕ, ◌+◌, ◌*◌, ◌≡◌, ◌≢◌, ◌≤◌, List, [], ◌∷◌, length, Option, Some, Result, Ok, Err, refl, sym, ◌∙◌, ap, subst}
use Rattle.std.proofs.Common.{arith}
use Rattle.std.specs.Prelude.{All, ⊤}
use Rattle.std.proofs.lemmas.List.Elements.{All-cons, All-head, All-nil, All-tail}
use Rattle.adb_files.specs.Entries.{Entry}
use Rattle.adb_world.specs.Parts.{most_sessions}
use Rattle.adb_copy.specs.Pulling.{directories}
use Rattle.adb_copy.specs.Pushing.{FilesPushed}
use Rattle.adb_copy.specs.Trees.{AreCopied, IsCopied}
use Rattle.adb_copy.specs.declared.error.CopyError.{CopyError}
use Rattle.adb_copy.specs.declared.error.CopyError.TheVariants as errors
use Rattle.adb_trees.specs.Trees.{AreNamed, IsNamed}

-- what a push onto a device without files says: where memory suffices, no file was refused, and the tree is there
abbrev TakesAll : Result ⊤ CopyError → (new tree : List Entry) → Type 0
TakesAll result new tree = result ≢ Err errors.OutOfMemory → (result ≡ Ok tt) × (new ≡ tree)

pub whole_there : (result : Result ⊤ CopyError) (new tree : List Entry) → TakesAll result new tree → result ≡ Ok tt → new ≡ tree
whole_there result new tree takes is = (takes (λ memory. (cc))).1

pub only_memory : (error : CopyError) (result : Result ⊤ CopyError) (new tree : List Entry) → TakesAll result new tree → result ≡ Err error
    → error ≡ errors.OutOfMemory
only_memory errors.OutOfMemory result new tree takes is = refl
only_memory (errors.Refused path text) result new tree takes is = let pushed = (takes (λ memory. (cc))).0 in absurd (cc)

-- files that a script names are such as can be copied
is_copied : (entry : Entry) → IsNamed entry → IsCopied entry
is_copied entry is = (is.path, is.least, is.most)

all_copied : (files : List Entry) → All IsNamed files → AreCopied files
all_copied [] all = All-nil IsCopied
all_copied (entry ∷ files) all =
    All-cons IsCopied entry files (is_copied entry (All-head IsNamed entry files all)) (all_copied files (All-tail IsNamed entry files all))

pub are_copied : (tree : List Entry) → AreNamed tree → AreCopied tree
are_copied tree named = all_copied tree named.each

pub left_copied : (files tree : List Entry) → files ≡ tree → AreNamed tree → AreCopied files
left_copied files tree same named = subst AreCopied (sym same) (are_copied tree named)

pub push_room : (given : ℕ) (tree : List Entry) → given ≡ 0 → AreNamed tree → given + length tree ≤ most_sessions
push_room given tree new named = let few = named.few in omega (arith, new, few)

pub pull_room : (given : ℕ) (files tree : List Entry) → given ≡ length tree → files ≡ tree → AreNamed tree
    → length (directories tree) ≤ 1 + 500 * length tree → given + (length files + length (directories files)) ≤ most_sessions
pull_room given files tree is same named listed =
    let few = named.few in
    let size = ap (λ (fs : List Entry). length fs) same in
    let all = ap (λ (fs : List Entry). length (directories fs)) same in
    omega (arith, is, size, all, few, listed)

pub given_is : (old new size : ℕ) → old ≡ 0 → new ≡ old + size → new ≡ size
given_is old new size none is = omega (arith, none, is)

-- ---- an allocation failure
-- a prefix of the tree is there
pub pushed_onto : (tree old new : List Entry) → old ≡ [] → FilesPushed tree old new → FilesPushed tree [] new
pushed_onto tree old new none part = subst (λ (files : List Entry). FilesPushed tree files new) none part

-- and stays there
pub pushed_still : (tree now new : List Entry) → new ≡ now → FilesPushed tree [] now → FilesPushed tree [] new
pushed_still tree now new same part = subst (FilesPushed tree []) (sym same) part

-- nothing was pushed yet
pub none_pushed : (tree new : List Entry) → new ≡ [] → FilesPushed tree [] new
none_pushed tree new none = pushed_still tree [] new none (record { done = []; left = tree; split = refl; stored = refl })

pub pushed_of : (o : Option (List Entry)) (named tree new : List Entry) → o ≡ Some named → o ≡ Some tree → FilesPushed named [] new
    → FilesPushed tree [] new
pushed_of o named tree new is other part =
    let both : Some named ≡ Some tree = sym is ∙ other in
    let same : named ≡ tree = cc in
    subst (λ (t : List Entry). FilesPushed t [] new) same part
