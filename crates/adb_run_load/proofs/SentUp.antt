-- What went up is counted, entry by entry.
use Rattle.std.proofs.Common.{ℕ, ◌+◌, ◌-◌, ◌≡◌, ◌≢◌, ◌≤◌, ◌<◌, ◌⊎◌, inl, inr, true, false, cond, eqb, List, [], ◌∷◌, ◌++◌}
use Rattle.std.proofs.Common.{Option, Some, None, refl, sym, ◌∙◌, ap, subst, arith}
use Rattle.std.proofs.lemmas.Bool.{eq-eqb, ne_eqb}
use Rattle.std.proofs.lemmas.Bool.Decides.{eqb_tells}
use Rattle.adb_outside.specs.Tables.{at}
use Rattle.adb_wire.specs.Cutting.{framed}
use Rattle.adb_wire.specs.Deframing.{Deframing, StandsFor}
use Rattle.adb_wire.specs.declared.packets.Packet.{Packet}
use Rattle.adb_wire.proofs.CuttingLaws.{for_stands}
use Rattle.adb_capture.specs.declared.entry.Entry.{Entry}
use Rattle.adb_capture.specs.declared.entry.Entry.TheVariants.{Attach, Send}
use Rattle.adb_history.specs.Machine.{History, IsLegal}
use Rattle.adb_history.specs.Bytes.{bytes_sent, sent}
use Rattle.adb_history.specs.Book.{plugged_count}
use Rattle.adb_laws_loads.specs.Totals.{sum_to, up_of, wrote_in}
use Rattle.adb_run_load.specs.Totals.{told}
use Rattle.adb_run_load.specs.Counted.{IsUp, AddsUp, HasRead, HasReadAt, HasBegun, Writes, WritesAt, Wrote, WroteOn}
use Rattle.adb_run_load.specs.declared.up.Up.{Up}
use Rattle.adb_run_load.proofs.Sums.{told_both, sum_grown, sum_longer, wrote_append}
use Rattle.adb_run_load.proofs.Drawn.{link_came}

-- ---- a piece of a link
-- a piece was fed, and the packets that became whole were taken
pub wrote_piece : (fed piece : List ℕ) (old mid new : Deframing) (written : ℕ) → HasRead fed old
    → ((fed : List ℕ) (given : List Packet) → StandsFor fed given old → StandsFor (fed ++ piece) given mid)
    → written ≡ told (wrote_in mid.given) → new.given ≡ []
    → ((fed : List ℕ) (before : List Packet) → StandsFor fed before mid → StandsFor fed (before ++ mid.given) new)
    → Wrote fed piece written new
wrote_piece fed piece old mid new written read takes counted none stands =
    let fed_mid = takes fed (framed fed).given read.stands in
    let are : (framed (fed ++ piece)).given ≡ (framed fed).given ++ mid.given =
    (for_stands (fed ++ piece) (framed fed).given mid fed_mid).frames in
    record {
      more = mid.given;
      are = are;
      counted = counted;
      read = record {
        stands = subst (λ (ps : List Packet). StandsFor (fed ++ piece) ps new) (sym are) (stands (fed ++ piece) (framed fed).given fed_mid);
        given = none;
      };
    }

-- the same on a link that has a deframer
pub wrote_on : (fed piece : List ℕ) (t written : ℕ) (old new : Up) (begun now : Option Deframing) → HasBegun fed begun
    → WritesAt piece written begun now
    → at t new.links.entries ≡ now → new.total ≡ told (old.total + written) → WroteOn fed piece t old new
wrote_on fed piece t written old new None now has writes is total = absurd has
wrote_on fed piece t written old new (Some cutter) None has writes is total = absurd writes
wrote_on fed piece t written old new (Some cutter) (Some after) has writes is total =
    let w = writes fed has in
    record {
      more = w.more;
      are = w.are;
      counted = total ∙ ap (λ n. told (old.total + n)) w.counted;
      read = subst (λ (row : Option Deframing). HasReadAt (fed ++ piece) row) (sym is) w.read;
    }

-- ---- an entry
-- a device was plugged in
module _ (h : History) (up : Up) (u : IsUp h up) where
  plugged_up : (t : ℕ) (kind : _) (serial : List ℕ) → IsUp (Attach t kind serial ∷ h) up
  plugged_up t kind serial = record { total = total; links = u.links; later = λ q past. u.later q (omega (arith, past)) }
    where
      none : bytes_sent (plugged_count h + 1) h ≡ []
      none = u.later (plugged_count h + 1) (omega arith)

      nothing : wrote_in (sent (plugged_count h + 1) h) ≡ 0
      nothing = ap (λ (bytes : List ℕ). wrote_in (framed bytes).given) none

      total : up.total ≡ told (sum_to (λ t. wrote_in (sent t h)) (plugged_count h + 1))
      total = u.total ∙ ap told (sym (sum_longer (λ t. wrote_in (sent t h)) (plugged_count h) nothing))

-- bytes were sent to a link
module _ (h : History) (t : ℕ) (bytes : List ℕ) (old new : Up) (u : IsUp h old)
    (came : (0 < t) × (t ≤ plugged_count h)) (w : Writes t bytes old new) where
  sent_here : (q : ℕ) → q ≡ t → bytes_sent q (Send t bytes ∷ h) ≡ bytes_sent q h ++ bytes
  sent_here q same = ap (λ b. cond b (bytes_sent q h ++ bytes) (bytes_sent q h)) (eq-eqb t q (sym same))

  sent_other : (q : ℕ) → q ≢ t → bytes_sent q (Send t bytes ∷ h) ≡ bytes_sent q h
  sent_other q other = ap (λ b. cond b (bytes_sent q h ++ bytes) (bytes_sent q h)) (ne_eqb t q (λ same. other (sym same)))

  on : WroteOn (bytes_sent t h) bytes t old new
  on = w.here (bytes_sent t h) (u.links t)

  sent_total : new.total ≡ told (up_of (Send t bytes ∷ h))
  sent_total =
      let here : wrote_in (sent t (Send t bytes ∷ h)) ≡ wrote_in (sent t h) + wrote_in on.more =
      ap (λ (b : List ℕ). wrote_in (framed b).given) (sent_here t refl) ∙ (ap wrote_in on.are ∙ wrote_append (sent t h) on.more) in
      let grown = sum_grown (λ q. wrote_in (sent q h)) (λ q. wrote_in (sent q (Send t bytes ∷ h))) t
      (wrote_in on.more) (plugged_count h) came.0 came.1
      (λ q other. ap (λ (b : List ℕ). wrote_in (framed b).given) (sent_other q other)) here in
      on.counted ∙ (ap (λ n. told (n + told (wrote_in on.more))) u.total ∙ (told_both (up_of h) (wrote_in on.more) ∙ ap told (sym grown)))

  sent_links : (q : ℕ) → HasReadAt (bytes_sent q (Send t bytes ∷ h)) (at q new.links.entries)
  sent_links q = go (eqb_tells q t)
    where
      at_t : HasReadAt (bytes_sent t (Send t bytes ∷ h)) (at t new.links.entries)
      at_t = subst (λ (b : List ℕ). HasReadAt b (at t new.links.entries)) (sym (sent_here t refl)) on.read

      go : ((eqb q t ≡ true) × (q ≡ t)) ⊎ ((eqb q t ≡ false) × (q ≢ t))
          → HasReadAt (bytes_sent q (Send t bytes ∷ h)) (at q new.links.entries)
      go (inl same) = subst (λ (n : ℕ). HasReadAt (bytes_sent n (Send t bytes ∷ h)) (at n new.links.entries)) (sym same.1) at_t
      go (inr other) =
          subst (λ (b : List ℕ). HasReadAt b (at q new.links.entries)) (sym (sent_other q other.1))
          (subst (λ (row : Option Deframing). HasReadAt (bytes_sent q h) row) (sym (w.others q other.1)) (u.links q))

  sent_up : IsUp (Send t bytes ∷ h) new
  sent_up = record {
    total = sent_total;
    links = sent_links;
    later = λ q past. sent_other q (λ same. omega (arith, past, came.1, same)) ∙ u.later q past;
  }

-- any entry
pub up_added : (e : Entry) (h : History) (old new : Up) → IsLegal (e ∷ h) → IsUp h old → AddsUp e old new → IsUp (e ∷ h) new
up_added (Send t bytes) h old new legal u adds = sent_up h t bytes old new u (link_came t bytes h legal) adds
up_added (Attach t kind serial) h old new legal u adds =
    subst (λ (x : Up). IsUp (Attach t kind serial ∷ h) x) (sym adds) (plugged_up h old u t kind serial)
up_added e h old new legal u adds =
    subst (λ (x : Up). IsUp (e ∷ h) x) (sym adds) (record { total = u.total; links = u.links; later = u.later })
