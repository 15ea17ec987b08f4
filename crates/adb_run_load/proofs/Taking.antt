-- The packets of a deframer are taken, one after another.
use Rattle.std.proofs.Common.{ℕ, ◌+◌, ◌≡◌, Bool, true, false, cond, List, [], ◌∷◌, ◌++◌, length, Some, refl, sym, ◌∙◌, ap, subst, arith}
use Rattle.std.proofs.lemmas.List.{append_assoc}
use Rattle.adb_wire.specs.Deframing.{Deframing, StandsFor, Gives}
use Rattle.adb_wire.specs.declared.packets.Packet.{Packet}
use Rattle.adb_history.specs.Births.{is_wrte}
use Rattle.adb_laws_loads.specs.Totals.{wrote_in}
use Rattle.adb_run_load.specs.Totals.{told}
use Rattle.adb_run_load.proofs.Sums.{told_more, wrote_append}

-- These were taken so far.
pub record Taking (old now : Deframing) (total : ℕ) : Type 0 where
  pub taken : List Packet
  pub are : old.given ≡ taken ++ now.given
  pub counted : total ≡ told (wrote_in taken)
  pub stands : (fed : List ℕ) (before : List Packet) → StandsFor fed before old → StandsFor fed (before ++ taken) now

wrote_one : (p : Packet) → wrote_in (p ∷ []) ≡ cond (is_wrte p.command) (length p.payload) 0
wrote_one p = go (is_wrte p.command)
  where
    go : (b : Bool) → cond b (length p.payload + 0) 0 ≡ cond b (length p.payload) 0
    go true = omega arith
    go false = refl

module _ {old now : Deframing} {total : ℕ} (t : Taking old now total) where
  pub taking_on : (new : Deframing) (p : Packet) (next : ℕ) → Gives now new (Some p)
      → next ≡ told (total + cond (is_wrte p.command) (length p.payload) 0)
      → Taking old new next
  taking_on new p next g is =
      let first : now.given ≡ p ∷ new.given = ap (λ (d : Deframing). d.given) g.some in
      let size = cond (is_wrte p.command) (length p.payload) 0 in
      let whole : wrote_in (t.taken ++ p ∷ []) ≡ wrote_in t.taken + size =
      wrote_append t.taken (p ∷ []) ∙ ap (λ n. wrote_in t.taken + n) (wrote_one p) in
      record {
        taken = t.taken ++ p ∷ [];
        are = t.are ∙ (ap (λ (ps : List Packet). t.taken ++ ps) first ∙ sym (append_assoc t.taken (p ∷ []) new.given));
        counted = is ∙ (ap (λ n. told (n + size)) t.counted ∙ (told_more (wrote_in t.taken) size ∙ ap told (sym whole)));
        stands = λ fed before s.
            subst (λ (ps : List Packet). StandsFor fed ps new) (append_assoc before t.taken (p ∷ []))
            (g.stands fed (before ++ t.taken) (t.stands fed before s));
      }
