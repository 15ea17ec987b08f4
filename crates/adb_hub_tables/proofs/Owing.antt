-- A packet that becomes due, by the row of its link.
use Rattle.std.proofs.Common.{ℕ, ◌≡◌, ◌≢◌, Option, Some, None, refl, sym, ◌∙◌, ap, cond, ◌⊎◌, inl, inr}
use Rattle.std.specs.Prelude.{option_and_then}
use Rattle.std.proofs.lemmas.Bool.{ne_eqb, eq-eqb, cases_eq}
use Rattle.adb_outside.specs.Tables.{Rows, change_row}
use Rattle.adb_wire.specs.declared.packets.Packet.{Packet}
use Rattle.adb_wire.specs.Packet.{spelling}
use Rattle.adb_history.specs.Rows.{Link, State, to_link, with_link_due}
use Rattle.adb_history.specs.Links.{check_on, wants_sums, owe_link}
use Rattle.adb_hub_tables.specs.Tables.{owes_packet}

-- a row that becomes due a packet looks at itself alone
same_owed : (p : Packet) (row : Option Link)
    → option_and_then (owes_packet p) row ≡ option_and_then (with_link_due (spelling p (check_on (wants_sums row) p))) row
same_owed p None = refl
same_owed p (Some link) = refl

pub owes_is : (t : ℕ) (p : Packet) (s : State) → to_link t (owes_packet p) s ≡ (owe_link t p s).state
owes_is t p s = ap (λ (rows : Rows (Option Link)). record s { links = rows }) (λ i k. at_place k i)
  where
    at_place : (k : ℕ) → change_row t (option_and_then (owes_packet p)) s.links k
        ≡ change_row t (option_and_then (with_link_due (spelling p (check_on (wants_sums (s.links t)) p)))) s.links k
    at_place k = by_place (cases_eq t k)
      where
        by_place : ◌⊎◌ (t ≡ k) (t ≢ k) → change_row t (option_and_then (owes_packet p)) s.links k
            ≡ change_row t (option_and_then (with_link_due (spelling p (check_on (wants_sums (s.links t)) p)))) s.links k
        by_place (inl here) =
            ap (λ b. cond b (option_and_then (owes_packet p) (s.links k)) (s.links k)) (eq-eqb t k here)
            ∙ (same_owed p (s.links k)
            ∙ (ap (λ q. option_and_then (with_link_due (spelling p (check_on (wants_sums (s.links q)) p))) (s.links k)) (sym here)
            ∙ ap (λ b. cond b (option_and_then (with_link_due (spelling p (check_on (wants_sums (s.links t)) p))) (s.links k)) (s.links k))
            (sym (eq-eqb t k here))))
        by_place (inr other) = ap (λ b. cond b (option_and_then (owes_packet p) (s.links k)) (s.links k)) (ne_eqb t k other)
            ∙ ap (λ b. cond b (option_and_then (with_link_due (spelling p (check_on (wants_sums (s.links t)) p))) (s.links k)) (s.links k))
            (sym (ne_eqb t k other))
