-- Pushes one behind the other, up to one that is refused or the end of the tree.
use Rattle.std.proofs.Common.{ℕ, ◌+◌, ◌≡◌, ◌≢◌, ◌<◌, ◌≤◌, Bool, true, false, cond, List, [], ◌∷◌, ◌++◌, length, Option, Some, None, Result}
use Rattle.std.proofs.Common.{Ok, Err}
use Rattle.std.proofs.Common.{refl, sym, ◌∙◌, ap, subst, append_assoc, arith}
use Rattle.std.specs.Prelude.{IsErr, OnOk, bytes_eq, is_some, option_map, slice_get, ⊤}
use Rattle.std.specs.List.{find}
use Rattle.std.proofs.lemmas.List.{append-nil, length-append}
use Rattle.std.proofs.lemmas.List.Elements.{All-head, All-tail}
use Rattle.std.proofs.lemmas.Slice.Eq.{bytes_eq-Decides}
use Rattle.adb_outside.specs.Tables.{at}
use Rattle.adb_files.specs.declared.file.File.{File}
use Rattle.adb_files.specs.declared.file.FileError.{FileError}
use Rattle.adb_files.specs.Entries.{Entry}
use Rattle.adb_files.specs.Files.{IsFileMap, behind, file_at, next_path, put_refusal, with_file}
use Rattle.adb_world.specs.Parts.{IsSame, most_sessions}
use Rattle.adb_world.specs.World.{View}
use Rattle.adb_world.specs.declared.session.Session.{Session}
use Rattle.adb_copy.specs.declared.error.CopyError.{CopyError}
use Rattle.adb_copy.specs.declared.error.CopyError.TheVariants as errors
use Rattle.adb_copy.specs.Pushing.{FilesPushed, Pushes}
use Rattle.adb_copy.specs.Trees.{AreCopied, IsCopied, Pushed, Refusal, all_pushed, entry_of, pushed, pushed_by, refused_at}
use Rattle.adb_copy.specs.Worlds.{Syncs, SyncsAtMost}
use Rattle.adb_copy.proofs.Splits.{are_before, behind_middle, behind_nothing, found_middle}

-- ---- files behind files
pub pushed_behind : (done more files mid : List Entry) → pushed files done ≡ all_pushed mid → pushed files (done ++ more) ≡ pushed mid more
pushed_behind [] more files mid is = ap (λ (p : Pushed). pushed p.files more) is
pushed_behind (e ∷ done) more files mid is =
    go (put_refusal files e.path (length e.file.bytes)) is (pushed_behind done more (with_file e.path e.file files) mid)
  where
    go : (o : Option FileError) → pushed_by o files e (λ stored. pushed stored done) ≡ all_pushed mid
        → (pushed (with_file e.path e.file files) done ≡ all_pushed mid
        → pushed (with_file e.path e.file files) (done ++ more) ≡ pushed mid more)
        → pushed_by o files e (λ stored. pushed stored (done ++ more)) ≡ pushed mid more
    go None is rest = rest is
    go (Some refusal) is rest = let clash = ap (λ (p : Pushed). p.refused) is in absurd (cc)

refused_behind : (done more files left : List Entry) (path text : List ℕ) → pushed files done ≡ refused_at left path text
    → pushed files (done ++ more) ≡ refused_at left path text
refused_behind [] more files left path text is = let clash = ap (λ (p : Pushed). p.refused) is in absurd (cc)
refused_behind (e ∷ done) more files left path text is =
    go (put_refusal files e.path (length e.file.bytes)) is (refused_behind done more (with_file e.path e.file files) left path text)
  where
    go : (o : Option FileError) → pushed_by o files e (λ stored. pushed stored done) ≡ refused_at left path text
        → (pushed (with_file e.path e.file files) done ≡ refused_at left path text
        → pushed (with_file e.path e.file files) (done ++ more) ≡ refused_at left path text)
        → pushed_by o files e (λ stored. pushed stored (done ++ more)) ≡ refused_at left path text
    go None is rest = rest is
    go (Some refusal) is rest = is

-- ---- sessions behind sessions
same_self : (session : Option Session) → IsSame session session
same_self None = tt
same_self (Some session) = (refl, refl)

same_again : (a b c : Option Session) → IsSame a b → IsSame b c → IsSame a c
same_again None None None p q = tt
same_again (Some a) (Some b) (Some c) p q = (q.0 ∙ p.0, q.1 ∙ p.1)
same_again None (Some b) c p q = absurd p
same_again (Some a) None c p q = absurd p
same_again None None (Some c) p q = absurd q
same_again (Some a) (Some b) None p q = absurd q

pub syncs_none : (old : View) → old.settled ≡ true → Syncs 0 old old
syncs_none old rests = record {
  given = omega arith;
  same = λ c. same_self (at c old.sessions);
  rests = rests;
  whole = λ is. is;
  calm = λ is. is;
  counted = λ is. is;
}

pub syncs_more : {n m : ℕ} {old mid new : View} → Syncs n old mid → Syncs m mid new → Syncs (n + m) old new
syncs_more {n} {m} {old} {mid} {new} p q = record {
  given = (let first = p.given in let second = q.given in omega (arith, first, second));
  same = λ c. same_again (at c old.sessions) (at c mid.sessions) (at c new.sessions) (p.same c) (q.same c);
  rests = q.rests;
  whole = λ is. q.whole (p.whole is);
  calm = λ is. q.calm (p.calm is);
  counted = λ is. q.counted (p.counted is);
}

-- ---- pushes behind pushes
pub on_ok : {A B : Type 0} (result : Result ⊤ CopyError) → (A → B) → OnOk result A → OnOk result B
on_ok (Ok done) more is = more is
on_ok (Err error) more is = is

module _ (done more : List Entry) (old mid new : View) (result : Result ⊤ CopyError) (p : Pushes done (Ok tt) old mid)
    (q : Pushes more result mid new) where
  pub pushes_more : Pushes (done ++ more) result old new
  pushes_more = record {
    ok = on_ok result (λ is. pushed_behind done more old.files mid.files p.ok ∙ is) q.ok;
    syncs = on_ok result (λ (is : Syncs (length more) mid new).
        subst (λ (n : ℕ). Syncs n old new) (sym (length-append done more)) (syncs_more p.syncs is)) q.syncs;
    refused = λ path text is. pushed_behind done more old.files mid.files p.ok ∙ q.refused path text is;
    part = λ whole left. both (q.part (p.syncs.whole whole) left);
    stays = λ spent. stay done p.stays spent;
    files = more_files q.files;
  }
    where
      more_files : FilesPushed more mid.files new.files → FilesPushed (done ++ more) old.files new.files
      more_files part = record {
        done = done ++ part.done;
        left = part.left;
        split = append_assoc done part.done part.left ∙ ap (λ (files : List Entry). done ++ files) part.split;
        stored = pushed_behind done part.done old.files mid.files p.ok ∙ part.stored;
      }

      both : FilesPushed more mid.files new.files × SyncsAtMost (length more) mid new
          → FilesPushed (done ++ more) old.files new.files × SyncsAtMost (length (done ++ more)) old new
      both part = (
        more_files part.0,
        record {
          sessions = length done + part.1.sessions;
          few = (let size = length-append done more in let few = part.1.few in omega (arith, size, few));
          syncs = syncs_more p.syncs part.1.syncs;
        },
      )

      stay : (done : List Entry) → (old.spent ≡ true → (done ≢ [] → IsErr {T = ⊤} {E = CopyError} (Ok tt)) × (mid ≡ old)) → old.spent ≡ true
          → (done ++ more ≢ [] → IsErr result) × (new ≡ old)
      stay [] first spent =
          let same = (first spent).1 in
          let rest = q.stays (ap (λ (w : View). w.spent) same ∙ spent) in
          (rest.0, rest.1 ∙ same)
      stay (e ∷ done) first spent = let clash : false ≡ true = (first spent).0 (λ none. cc) in absurd (cc)

module _ (done more : List Entry) (old new : View) (result : Result ⊤ CopyError) (stopped : IsErr result)
    (p : Pushes done result old new) where
  pub pushes_stop : Pushes (done ++ more) result old new
  pushes_stop = record {
    ok = never _ result stopped;
    syncs = never _ result stopped;
    refused = λ path text is. refused_behind done more old.files new.files path text (p.refused path text is);
    part = λ whole left. both (p.part whole left);
    stays = λ spent. ((λ some. stopped), (p.stays spent).1);
    files = all_files p.files;
  }
    where
      all_files : FilesPushed done old.files new.files → FilesPushed (done ++ more) old.files new.files
      all_files part = record {
        done = part.done;
        left = part.left ++ more;
        split = sym (append_assoc part.done part.left more) ∙ ap (λ (files : List Entry). files ++ more) part.split;
        stored = part.stored;
      }

      never : (A : Type 0) (result : Result ⊤ CopyError) → IsErr result → OnOk result A
      never A (Ok done) is = let clash : false ≡ true = is in absurd (cc)
      never A (Err error) is = tt

      both : FilesPushed done old.files new.files × SyncsAtMost (length done) old new
          → FilesPushed (done ++ more) old.files new.files × SyncsAtMost (length (done ++ more)) old new
      both part = (
        all_files part.0,
        record {
          sessions = part.1.sessions;
          few = (let size = length-append done more in let few = part.1.few in omega (arith, size, few));
          syncs = part.1.syncs;
        },
      )

-- no file was pushed yet
pub pushes_none : (old : View) → old.settled ≡ true → Pushes [] (Ok tt) old old
pushes_none old rests = record {
  ok = refl;
  syncs = syncs_none old rests;
  refused = λ path text is. absurd (cc);
  part = λ whole left. (
    record { done = []; left = []; split = refl; stored = refl },
    record { sessions = 0; few = omega arith; syncs = syncs_none old rests },
  );
  stays = λ spent. ((λ some. absurd (some refl)), refl);
  files = record { done = []; left = []; split = refl; stored = refl };
}

-- memory ran out before a file was sent
pub pushes_nothing : (tree : List Entry) (old : View) → old.settled ≡ true → Pushes tree (Err errors.OutOfMemory) old old
pushes_nothing tree old rests = record {
  ok = tt;
  syncs = tt;
  refused = λ path text is. absurd (cc);
  part = λ whole left. (
    record { done = []; left = tree; split = refl; stored = refl },
    record { sessions = 0; few = omega arith; syncs = syncs_none old rests },
  );
  stays = λ spent. ((λ some. refl), refl);
  files = record { done = []; left = tree; split = refl; stored = refl };
}

-- memory ran out in the world
pub pushes_spent : (tree : List Entry) (old new : View) → new.spent ≡ true → (old.spent ≡ true → new ≡ old)
    → FilesPushed tree old.files new.files
    → Pushes tree (Err errors.OutOfMemory) old new
pushes_spent tree old new spent stays files = record {
  ok = tt;
  syncs = tt;
  refused = λ path text is. absurd (cc);
  part = λ whole left. let clash = sym spent ∙ left in absurd (cc);
  stays = λ is. ((λ some. refl), stays is);
  files = files;
}

-- a refusal is told
error_of : Option Refusal → Result ⊤ CopyError
error_of None = Ok tt
error_of (Some refusal) = Err (errors.Refused refusal.path refusal.text)

pub is_told : (tree : List Entry) (old new : View) (result : Result ⊤ CopyError) → Pushes tree result old new → (refusal : Refusal)
    → (pushed old.files tree).refused ≡ Some refusal → result ≢ Err errors.OutOfMemory
    → result ≡ Err (errors.Refused refusal.path refusal.text)
unfolding error_of
is_told tree old new (Ok done) p refusal is memory = let clash = sym is ∙ ap (λ (q : Pushed). q.refused) p.ok in absurd (cc)
is_told tree old new (Err errors.OutOfMemory) p refusal is memory = absurd (memory refl)
is_told tree old new (Err (errors.Refused from why)) p refusal is memory =
    ap error_of (sym (ap (λ (q : Pushed). q.refused) (p.refused from why refl)) ∙ is)

-- ---- along a tree
-- The files of a tree up to a path were pushed, and those behind it are left.
pub record Walks (after : List ℕ) (tree : List Entry) (old now : View) : Type 0 where
  pub done : List Entry
  pub split : done ++ behind after tree ≡ tree
  pub fits : IsFileMap tree
  pub pushes : Pushes done (Ok tt) old now

pub walks_none : (tree : List Entry) (old : View) → IsFileMap tree → old.settled ≡ true → Walks [] tree old old
walks_none tree old fits rests = record { done = []; split = behind_nothing tree fits.paths; fits = fits; pushes = pushes_none old rests }

-- none is left behind a path
pub walks_all : (after : List ℕ) (tree : List Entry) (old now : View) → Walks after tree old now
    → next_path after tree ≡ None → Pushes tree (Ok tt) old now
walks_all after tree old now walk none = go (behind after tree) walk.split none
  where
    go : (left : List Entry) → walk.done ++ left ≡ tree → option_map (λ (e : Entry). e.path) (slice_get left 0) ≡ None
        → Pushes tree (Ok tt) old now
    go [] split none = subst (λ (files : List Entry). Pushes files (Ok tt) old now) (sym (append-nil walk.done) ∙ split) walk.pushes
    go (e ∷ left) split none = absurd (cc)

-- the next file
pub record Next (tree done : List Entry) (path : List ℕ) : Type 0 where
  pub entry : Entry
  pub left : List Entry
  pub split : done ++ entry ∷ left ≡ tree
  pub here : entry.path ≡ path

module _ (after : List ℕ) (tree : List Entry) (old now : View) (walk : Walks after tree old now) (path : List ℕ)
    (next : next_path after tree ≡ Some path) where
  pub next_is : Next tree walk.done path
  next_is = go (behind after tree) walk.split next
    where
      go : (left : List Entry) → walk.done ++ left ≡ tree → option_map (λ (e : Entry). e.path) (slice_get left 0)
          ≡ Some path → Next tree walk.done path
      go [] split is = absurd (cc)
      go (e ∷ left) split is = record { entry = e; left = left; split = split; here = cc }

  pub next_file : file_at path tree ≡ Some next_is.entry.file
  next_file =
      let rising = subst IsFileMap (sym next_is.split) walk.fits in
      let found = found_middle walk.done next_is.entry next_is.left (are_before walk.done next_is.entry next_is.left rising.rising) in
      ap (λ (files : List Entry). file_at path files) (sym next_is.split)
      ∙ (ap (λ (p : List ℕ). file_at p (walk.done ++ next_is.entry ∷ next_is.left)) (sym next_is.here) ∙ found)

  pub next_there : is_some (file_at path tree) ≡ true
  next_there = ap is_some next_file

  size : length walk.done + (1 + length next_is.left) ≡ length tree
  size =
      let whole = ap (λ (files : List Entry). length files) next_is.split in
      let parts = length-append walk.done (next_is.entry ∷ next_is.left) in
      omega (arith, whole, parts)

  -- there is room for its session
  pub next_room : old.given + length tree ≤ most_sessions → now.given < most_sessions
  next_room room =
      let given = walk.pushes.syncs.given in
      let all = size in
      omega (arith, room, given, all)

  -- fewer are left behind it
  rest_is : behind path tree ≡ next_is.left
  rest_is =
      let rising = subst IsFileMap (sym next_is.split) walk.fits in
      ap (behind path) (sym next_is.split)
      ∙ (ap (λ (p : List ℕ). behind p (walk.done ++ next_is.entry ∷ next_is.left)) (sym next_is.here)
      ∙ behind_middle walk.done next_is.entry next_is.left rising.rising)

  pub next_less : length (behind path tree) < length (behind after tree)
  next_less =
      let rest = ap (λ (files : List Entry). length files) rest_is in
      let all = size in
      let whole = ap (λ (files : List Entry). length files) walk.split in
      let parts = length-append walk.done (behind after tree) in
      omega (arith, rest, all, whole, parts)

  module _ (new : View) (result : Result ⊤ CopyError)
      (one : (file : File) → file_at path tree ≡ Some file → Pushes (entry_of path file ∷ []) result now new) where
    pub next_pushed : Pushes (next_is.entry ∷ []) result now new
    next_pushed =
        subst (λ (p : List ℕ). Pushes (entry_of p next_is.entry.file ∷ []) result now new) (sym next_is.here)
        (one next_is.entry.file next_file)

    split_again : (walk.done ++ next_is.entry ∷ []) ++ next_is.left ≡ tree
    split_again = append_assoc walk.done (next_is.entry ∷ []) next_is.left ∙ next_is.split

    both : Pushes (walk.done ++ next_is.entry ∷ []) result old new
    both = pushes_more walk.done (next_is.entry ∷ []) old now new result walk.pushes next_pushed

    -- the walk goes on behind a file that is stored, or ends at it
    pub walks_on : result ≡ Ok tt → Walks path tree old new
    walks_on is = record {
      done = walk.done ++ next_is.entry ∷ [];
      split = ap (λ (files : List Entry). (walk.done ++ next_is.entry ∷ []) ++ files) rest_is ∙ split_again;
      fits = walk.fits;
      pushes = subst (λ (r : Result ⊤ CopyError). Pushes (walk.done ++ next_is.entry ∷ []) r old new) is both;
    }

    pub walks_stop : IsErr result → Pushes tree result old new
    walks_stop stopped =
        subst (λ (files : List Entry). Pushes files result old new) split_again
        (pushes_stop (walk.done ++ next_is.entry ∷ []) next_is.left old new result stopped both)

-- a file that is found in a tree that can be copied can be copied
pub found_copied : (tree : List Entry) (path : List ℕ) (file : File) → AreCopied tree → file_at path tree ≡ Some file
    → IsCopied (entry_of path file)
found_copied [] path file are is = absurd (cc)
found_copied (e ∷ tree) path file are is =
    go (bytes_eq e.path path) refl is (λ more. found_copied tree path file (All-tail IsCopied e tree are) more)
  where
    go : (t : Bool) → bytes_eq e.path path ≡ t
        → option_map (λ (x : Entry). x.file) (cond t (Some e) (find (λ (x : Entry). bytes_eq x.path path) tree)) ≡ Some file
        → (file_at path tree ≡ Some file → IsCopied (entry_of path file)) → IsCopied (entry_of path file)
    go true same found more =
        let here : e.path ≡ path = (bytes_eq-Decides e.path path).0 same in
        let own : e.file ≡ file = cc in
        subst (λ (f : File). IsCopied (entry_of path f)) own
        (subst (λ (p : List ℕ). IsCopied (entry_of p e.file)) here (All-head IsCopied e tree are))
    go false same found more = more found
