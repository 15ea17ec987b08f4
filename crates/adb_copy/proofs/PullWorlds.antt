-- What a pull leaves of a world, step by step.
use Rattle.std.proofs.Common.{ℕ, ◌+◌, ◌-◌, ◌≡◌, ◌≤◌, true, false, List, [], ◌∷◌, ◌++◌, length, take, inl, inr}
use Rattle.std.proofs.Common.{refl, ◌∙◌, ap, sym, subst, arith}
use Rattle.std.proofs.lemmas.List.{append-nil}
use Rattle.adb_files.specs.Entries.{Entry}
use Rattle.adb_files.specs.Files.{IsFileMap}
use Rattle.adb_copy.specs.declared.found.Found.{Found}
use Rattle.adb_copy.specs.Pulled.{Pulls, PullsAtMost}
use Rattle.adb_copy.specs.Pulling.{directories}
use Rattle.adb_copy.specs.Waiting.{IsThere, Walks, owed, root}
use Rattle.adb_world.specs.Parts.{AreSame, most_sessions}
use Rattle.adb_world.specs.World.{View}
use Rattle.adb_world.specs.Settled.{IsCounted, IsSettled}
use Rattle.adb_copy.proofs.Steps.{syncs_more, syncs_none}
use Rattle.adb_copy.proofs.PullCounts.{all_back}
use Rattle.adb_copy.proofs.PullDirectory.{directory_owed}
use Rattle.adb_copy.proofs.PullFile.{file_owed}
use Rattle.adb_copy.proofs.PullWalk.{begins, ends, owed_first, owed_last}

-- ---- sessions of a pull
pub pulls_none : (world : View) → world.settled ≡ true → Pulls 0 world world
pulls_none world settled = record { files = refl; syncs = syncs_none world settled }

pub pulls_on : (n m : ℕ) (a b c : View) → Pulls n a b → Pulls m b c → Pulls (n + m) a c
pulls_on n m a b c first second = record {
  files = second.files ∙ first.files;
  syncs = syncs_more {n = n} {m = m} {old = a} {mid = b} {new = c} first.syncs second.syncs;
}

pub none_at_most : (most : ℕ) (world : View) → world.settled ≡ true → PullsAtMost most world world
none_at_most most world settled = record { sessions = 0; few = omega arith; pulls = pulls_none world settled }

pub one_at_most : (a b : View) → Pulls 1 a b → PullsAtMost 1 a b
one_at_most a b pulls = record { sessions = 1; few = omega arith; pulls = pulls }

-- ---- the loop
-- so many sessions were given, and with those that the walk still owes they are all
pub record Pulling (first now : View) (pending : List Found) (tree : List Entry) : Type 0 where
  pub done : ℕ
  pub pulls : Pulls done first now
  pub walks : Walks first.files pending tree
  pub all : done + owed first.files pending ≡ length first.files + length (directories first.files)
  pub fresh : first.spent ≡ true → (now ≡ first) × (pending ≡ root ∷ [])

pub pulling_begins : (first : View) (pending : List Found) (tree : List Entry) → first.settled ≡ true
    → IsFileMap first.files → pending ≡ root ∷ [] → tree ≡ []
    → Pulling first first pending tree
pulling_begins first pending tree settled ok only none =
    subst (λ (fs : List Found). Pulling first first fs tree) (sym only)
    (subst (λ (es : List Entry). Pulling first first (root ∷ []) es) (sym none)
    (record {
      done = 0;
      pulls = pulls_none first settled;
      walks = begins first.files ok;
      all = let first_owed = owed_first first.files ok in omega (arith, first_owed);
      fresh = λ _. (refl, refl);
    }))

pub next_walks : (first now : View) (items pending : List Found) (found : Found) (tree : List Entry) → Pulling first now items tree
    → items ≡ pending ++ found ∷ [] → Walks now.files (pending ++ found ∷ []) tree
next_walks first now items pending found tree p is =
    subst (λ (es : List Entry). Walks es (pending ++ found ∷ []) tree) (sym p.pulls.files)
    (subst (λ (fs : List Found). Walks first.files fs tree) is p.walks)

pub next_room : (first now : View) (items pending : List Found) (found : Found) (tree : List Entry) → Pulling first now items tree
    → items ≡ pending ++ found ∷ [] → first.given + (length first.files + length (directories first.files)) ≤ most_sessions
    → now.given + owed now.files (pending ++ found ∷ []) ≤ most_sessions
next_room first now items pending found tree p is room =
    let same : owed now.files (pending ++ found ∷ []) ≡ owed first.files items =
    ap (λ (es : List Entry). owed es (pending ++ found ∷ [])) p.pulls.files ∙ ap (owed first.files) (sym is) in
    let all = p.all in
    let given = p.pulls.syncs.given in
    omega (arith, room, same, all, given)

pub next_pulling : (first now next : View) (items pending left : List Found) (found : Found) (tree grown : List Entry)
    → Pulling first now items tree
    → items ≡ pending ++ found ∷ [] → Pulls 1 now next → Walks now.files left grown
    → owed now.files (pending ++ found ∷ []) ≡ owed now.files left + 1 → (now.spent ≡ true → ⊥) → Pulling first next left grown
next_pulling first now next items pending left found tree grown p is pulls walks owed_less whole = record {
  done = p.done + 1;
  pulls = pulls_on p.done 1 first now next p.pulls pulls;
  walks = subst (λ (es : List Entry). Walks es left grown) p.pulls.files walks;
  all =
      let before : owed now.files (pending ++ found ∷ []) ≡ owed first.files items =
      ap (λ (es : List Entry). owed es (pending ++ found ∷ [])) p.pulls.files ∙ ap (owed first.files) (sym is) in
      let after : owed now.files left ≡ owed first.files left = ap (λ (es : List Entry). owed es left) p.pulls.files in
      let all = p.all in
      omega (arith, before, after, all, owed_less);
  fresh = λ spent. absurd (whole (ap (λ (v : View). v.spent) (p.fresh spent).0 ∙ spent));
}

-- what is pending is owed
pub some_owed : (files : List Entry) (pending : List Found) (found : Found) (tree : List Entry) → IsFileMap files
    → Walks files (pending ++ found ∷ []) tree
    → 1 ≤ owed files (pending ++ found ∷ [])
some_owed files pending found tree ok w = go (all_back (IsThere files) pending (found ∷ []) w.known).0
  where
    go : IsThere files found → 1 ≤ owed files (pending ++ found ∷ [])
    go (inl is) = omega (arith, directory_owed files ok pending found tree w is.there)
    go (inr is) = omega (arith, file_owed files ok pending found tree w is)

pub stopped : (first now next : View) (items pending : List Found) (found : Found) (tree : List Entry)
    → IsFileMap first.files → Pulling first now items tree
    → items ≡ pending ++ found ∷ [] → PullsAtMost 1 now next
    → PullsAtMost (length first.files + length (directories first.files)) first next
stopped first now next items pending found tree ok p is more =
    let w = subst (λ (fs : List Found). Walks first.files fs tree) is p.walks in
    let some = some_owed first.files pending found tree ok w in
    let all = p.all in
    let few = more.few in
    let same : owed first.files items ≡ owed first.files (pending ++ found ∷ []) = ap (owed first.files) is in
    record {
      sessions = p.done + more.sessions;
      few = omega (arith, some, all, few, same);
      pulls = pulls_on p.done more.sessions first now next p.pulls more.pulls;
    }

-- the last one was popped
pub none_left : (items rest : List Found) (len : ℕ) → items ≡ rest ++ [] → rest ≡ take (len - 1) items → len ≡ 0 → items ≡ []
none_left items rest len is cut none = is ∙ (append-nil rest ∙ (cut ∙ ap (λ (n : ℕ). take (n - 1) items) none))

pub pulled : (first now : View) (items : List Found) (tree : List Entry) → Pulling first now items tree → items ≡ []
    → Pulls (length first.files + length (directories first.files)) first now × (tree ≡ first.files) × (first.spent ≡ true → ⊥)
pulled first now items tree p none =
    let left = ap (owed first.files) none ∙ owed_last first.files in
    let all = p.all in
    let sum : p.done ≡ length first.files + length (directories first.files) = omega (arith, left, all) in (
      subst (λ (n : ℕ). Pulls n first now) sum p.pulls,
      ends first.files tree (subst (λ (fs : List Found). Walks first.files fs tree) none p.walks),
      λ spent. let only = (p.fresh spent).1 in let clash = sym none ∙ only in cc,
    )

-- ---- one session
pub synced : (old new : View) → new.files ≡ old.files → new.given ≡ old.given + 1 → AreSame old.sessions new.sessions
    → IsSettled new → IsCounted new
    → new.settled ≡ true → new.spent ≡ false → Pulls 1 old new
synced old new files given same calm counted settled whole = record {
  files = files;
  syncs = record {
    given = given;
    same = same;
    rests = settled;
    whole = λ _. whole;
    calm = λ _. calm;
    counted = λ _. counted;
  };
}
