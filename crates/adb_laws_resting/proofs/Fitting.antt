-- Tables stay fit by rules that take no places.
use Rattle.std.proofs.Common.{ℕ, ◌≡◌, List, Option, Some, None, refl, sym, ◌∙◌, ap, subst}
use Rattle.std.specs.Prelude.{option_map}
use Rattle.adb_outside.specs.Tables.{at}
use Rattle.adb_wire.specs.Deframing.{Deframing}
use Rattle.adb_capture.specs.declared.entry.Entry.{Entry}
use Rattle.adb_history.specs.Rows.{Link, State}
use Rattle.adb_history.specs.Machine.{step}
use Rattle.adb_history.proofs.Growing.{RowStep, LinkStays}
use Rattle.adb_hub_tables.specs.declared.ports.Port.{Port}
use Rattle.adb_hub_tables.specs.declared.tables.Tables.{Tables}
use Rattle.adb_hub_tables.specs.Tables.{link_row, state_of}
use Rattle.adb_hub_tables.specs.Places.{IsProvided, StaysRead}
use Rattle.adb_hub_tables.specs.Fit.{IsReadOutAt, IsFit, Makes}

-- ---- what came in
-- of a link that lives check words are looked at as before
abbrev pub SumsStay : Option Link → Option Link → Type 0
SumsStay None new = Unit {0}
SumsStay (Some old) None = Unit {0}
SumsStay (Some old) (Some new) = new.sums ≡ old.sums

pub same_sums : (row : Option Link) → SumsStay row row
same_sums None = tt
same_sums (Some link) = refl

pub step_sums : (old new : Option Link) (told : List ℕ) → RowStep LinkStays old new told → SumsStay old new
step_sums None new told h = tt
step_sums (Some old) None told h = tt
step_sums (Some old) (Some new) told h = h.sums

read_out_at : (old new : Option Port) → StaysRead old new → SumsStay (option_map link_row old)
    (option_map link_row new) → IsReadOutAt old → IsReadOutAt new
read_out_at None None read sums h = tt
read_out_at (Some old) None read sums h = tt
read_out_at None (Some port) read sums h = absurd read
read_out_at (Some old) (Some port) read sums h = record {
  given = ap (λ (i : Deframing). i.given) read ∙ h.given;
  sound = ap (λ (i : Deframing). i.fault) read ∙ h.sound;
  sums = ap (λ (i : Deframing). i.reading.sums) read ∙ (h.sums ∙ sym sums);
}

-- ---- what is made
-- The step of an entry was made, and what came in on links stays.
pub record Leaves (e : Entry) (old new : Tables) : Type 0 where
  pub provided : IsProvided new
  pub read : (k : ℕ) → StaysRead (at k old.links.entries) (at k new.links.entries)
  pub state : state_of new ≡ (step (state_of old) e).state
  pub sums : (k : ℕ) → SumsStay ((state_of old).links k) ((step (state_of old) e).state.links k)

pub made_by : (e : Entry) (old new : Tables) → IsFit old → Leaves e old new → Makes e old new
made_by e old new fit h = record {
  state = h.state;
  fit = record {
    provided = h.provided;
    read_out = λ k. read_out_at (at k old.links.entries) (at k new.links.entries) (h.read k) (sums k) (fit.read_out k);
  };
}
  where
    sums : (k : ℕ) → SumsStay ((state_of old).links k) ((state_of new).links k)
    sums k = subst (λ (s : State). SumsStay ((state_of old).links k) (s.links k)) (sym h.state) (h.sums k)
