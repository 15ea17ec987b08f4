-- Ids that packets name, one more at a time.
use Rattle.std.proofs.Common.{ℕ, ◌≡◌, Bool, true, false, List, [], ◌∷◌, Option, Some, Ordering, ◌⊎◌, inl, inr, refl, sym, ◌∙◌, ap, subst}
use Rattle.std.specs.Prelude.{is_some}
use Rattle.std.specs.Ordering.{nat_cmp, match_ordering}
use Rattle.std.specs.declared.cmp.Ordering.TheVariants.{Less, Equal, Greater}
use Rattle.std.specs.BTreeSet.{insert_key}
use Rattle.std.proofs.lemmas.Map.Lookups.{exact_unsigned}
use Rattle.adb_stream.specs.declared.row.Stream.{Stream}
use Rattle.adb_stream.specs.Streams.{found}
use Rattle.adb_wire.specs.declared.command.Command.{Command}
use Rattle.adb_wire.specs.declared.command.Command.TheVariants.{Cnxn, Open, Okay, Wrte, Clse, Auth, Stls}
use Rattle.adb_wire.specs.declared.packets.Packet.{Packet}
use Rattle.adb_hub_tables.specs.Tracked.{IsAmong}
use Rattle.adb_laws_resting.specs.Named.{named_also, named_by}
use Rattle.adb_hub_links.specs.Naming.{named_if, named_on, NamesAlso, AreNamedBefore}

-- ---- an id is put among others
module _ (k : ℕ) where
  kept : (l : ℕ) (keys : List ℕ) → IsAmong l keys → IsAmong l (insert_key nat_cmp keys k)
  kept l [] there = absurd there
  kept l (x ∷ xs) there = by_order (nat_cmp k x) there (kept l xs)
    where
      by_order : (o : Ordering) → IsAmong l (x ∷ xs) → (IsAmong l xs → IsAmong l (insert_key nat_cmp xs k))
          → IsAmong l (match_ordering o (k ∷ x ∷ xs) (x ∷ xs) (x ∷ insert_key nat_cmp xs k))
      by_order Less there behind = inr there
      by_order Equal there behind = there
      by_order Greater (inl is) behind = inl is
      by_order Greater (inr later) behind = inr (behind later)

  added : (keys : List ℕ) → IsAmong k (insert_key nat_cmp keys k)
  added [] = inl refl
  added (x ∷ xs) = by_order (nat_cmp k x) refl (added xs)
    where
      by_order : (o : Ordering) → nat_cmp k x ≡ o → IsAmong k (insert_key nat_cmp xs k)
          → IsAmong k (match_ordering o (k ∷ x ∷ xs) (x ∷ xs) (x ∷ insert_key nat_cmp xs k))
      by_order Less is behind = inl refl
      by_order Equal is behind = inl (sym (exact_unsigned k x is))
      by_order Greater is behind = inr behind

  only : (l : ℕ) (keys : List ℕ) → IsAmong l (insert_key nat_cmp keys k) → IsAmong l keys ⊎ (Some k ≡ Some l)
  only l [] (inl is) = inr (ap Some is)
  only l [] (inr none) = absurd none
  only l (x ∷ xs) there = by_order (nat_cmp k x) there (only l xs)
    where
      by_order : (o : Ordering) → IsAmong l (match_ordering o (k ∷ x ∷ xs) (x ∷ xs) (x ∷ insert_key nat_cmp xs k))
          → (IsAmong l (insert_key nat_cmp xs k) → IsAmong l xs ⊎ (Some k ≡ Some l)) → IsAmong l (x ∷ xs) ⊎ (Some k ≡ Some l)
      by_order Less (inl is) behind = inr (ap Some is)
      by_order Less (inr there) behind = inl there
      by_order Equal there behind = inl there
      by_order Greater (inl is) behind = inl (inl is)
      by_order Greater (inr later) behind = elim (behind later) as (λ _. IsAmong l (x ∷ xs) ⊎ (Some k ≡ Some l)) [
        | inl there ↦ inl (inr there)
        | inr is ↦ inr is
      ]

pub same_id : (k l : ℕ) → Some k ≡ Some l → k ≡ l
same_id k l e = cc

pub names_one : (named : Option ℕ) (k : ℕ) (old new : List ℕ) → named ≡ Some k → new ≡ insert_key nat_cmp old k → NamesAlso named old new
names_one named k old new is more =
    subst (λ (ids : List ℕ). NamesAlso named old ids) (sym more)
    (subst (λ (n : Option ℕ). NamesAlso n old (insert_key nat_cmp old k)) (sym is) (record {
      kept = λ l. kept k l old;
      added = λ l e. subst (λ (q : ℕ). IsAmong q (insert_key nat_cmp old k)) (same_id k l e) (added k old);
      only = λ l. only k l old;
    }))

-- ---- the ids that packets name
module _ (link : ℕ) (streams : List (ℕ × Stream)) where
  lives_named : (command : Command) (q l : ℕ) → named_if command q (is_some (found link q streams)) ≡ Some l
      → is_some (found link l streams) ≡ true
  lives_named Okay q l e = by_row (is_some (found link q streams)) refl e
    where
      by_row : (b : Bool) → is_some (found link q streams) ≡ b → named_if Okay q b ≡ Some l → is_some (found link l streams) ≡ true
      by_row true is e = subst (λ (k : ℕ). is_some (found link k streams) ≡ true) (same_id q l e) is
      by_row false is e = absurd cc
  lives_named Cnxn q l e = absurd cc
  lives_named Open q l e = absurd cc
  lives_named Wrte q l e = absurd cc
  lives_named Clse q l e = absurd cc
  lives_named Auth q l e = absurd cc
  lives_named Stls q l e = absurd cc

  named_first : (command : Command) (q l : ℕ) (others : List ℕ) → is_some (found link l streams) ≡ true
      → IsAmong l (named_also command q others)
      → (named_if command q (is_some (found link q streams)) ≡ Some l) ⊎ IsAmong l others
  named_first Okay q l others live (inl is) =
      inl (ap (named_if Okay q) (ap (λ (k : ℕ). is_some (found link k streams)) is ∙ live) ∙ ap Some is)
  named_first Okay q l others live (inr later) = inr later
  named_first Cnxn q l others live there = inr there
  named_first Open q l others live there = inr there
  named_first Wrte q l others live there = inr there
  named_first Clse q l others live there = inr there
  named_first Auth q l others live there = inr there
  named_first Stls q l others live there = inr there

  -- one packet more was looked at
  pub names_more : {packets rest : List Packet} {p : Packet} {old new : List ℕ} → AreNamedBefore link packets (p ∷ rest) streams old
      → NamesAlso (named_on link p streams) old new → AreNamedBefore link packets rest streams new
  names_more {packets} {rest} {p} {old} {new} h also = record {
    live = λ l there. elim (also.only l there) as (λ _. is_some (found link l streams) ≡ true) [
      | inl before ↦ h.live l before
      | inr is ↦ lives_named p.command p.arg1 l is
    ];
    all = λ l there live. elim (h.all l there live) as (λ _. IsAmong l new ⊎ IsAmong l (named_by rest)) [
      | inl before ↦ inl (also.kept l before)
      | inr left ↦ elim (named_first p.command p.arg1 l (named_by rest) live left) as (λ _. IsAmong l new ⊎ IsAmong l (named_by rest)) [
        | inl is ↦ inl (also.added l is)
        | inr later ↦ inr later
      ]
    ];
  }
