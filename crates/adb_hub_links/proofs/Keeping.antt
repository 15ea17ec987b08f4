-- What is reserved changes nothing that the machine sees.
use Rattle.std.proofs.Common.{ℕ, Option, Some, None, ◌∙◌, ap, subst}
use Rattle.std.specs.Prelude.{Result, Ok, Err, OnErr, OnOk}
use Rattle.adb_outside.specs.Tables.{at}
use Rattle.adb_link.specs.Linked.{Linked}
use Rattle.adb_wire.specs.Deframing.{Deframing}
use Rattle.adb_history.specs.Rows.{State}
use Rattle.adb_capture.specs.declared.entry.Entry.{Entry}
use Rattle.adb_history.specs.Machine.{step, ups}
use Rattle.adb_hub_tables.specs.declared.ports.Port.{Port}
use Rattle.adb_hub_tables.specs.declared.tables.Tables.{Tables}
use Rattle.adb_hub_tables.specs.Places.{StaysRead}
use Rattle.adb_hub_tables.specs.Tables.{state_of}
use Rattle.adb_hub_tables.specs.Endings.{Log, Records, Tells}
use Rattle.adb_hub_tables.specs.Fit.{Keeps, Makes}
use Rattle.adb_hub_tables.specs.Widening.{WidensPort, WidensRow, Widens}
use Rattle.adb_hub_tables.proofs.Reporting.{records_same}
use Rattle.adb_hub_tables.proofs.Widening.{widened_state}
use Rattle.adb_hub_links.specs.Settling.{behind, HasSettled, settles}

-- ---- one after another
pub keeps_then : {old middle new : Tables} → Keeps old middle → Keeps middle new → Keeps old new
keeps_then h k = record { state = k.state ∙ h.state; fit = k.fit }

pub makes_then : {e : Entry} {old middle new : Tables} → Keeps old middle → Makes e middle new → Makes e old new
makes_then {e} h made = record { state = made.state ∙ ap (λ (s : State). (step s e).state) h.state; fit = made.fit }

pub tells_then : (e : Entry) {old middle : Tables} {before after : Log} → Keeps old middle
    → Tells e before middle after → Tells e before old after
tells_then e {old} {middle} {before} {after} h told =
    records_same {old = old} {new = middle} (λ l. ap (λ (s : State). s.streams l) h.state)
    (subst (λ (s : State). Records (step s e).told before middle after) h.state told)

-- where places were reserved before
pub settled_told : (link : ℕ) (c : Deframing) {before after : Log} (old middle : Tables) → Widens old middle
    → Records (settles link c (state_of middle)).told before middle after → Records (settles link c (state_of old)).told before old after
settled_told link c {before} {after} old middle h told =
    records_same {old = old} {new = middle} (λ l. ap (λ (s : State). s.streams l) (widened_state old middle h))
    (subst (λ (s : State). Records (settles link c s).told before middle after) (widened_state old middle h) told)

-- what came in stays as it was, also behind places that were reserved
read_reserved : (old middle new : Option Port) → WidensRow WidensPort old middle → StaysRead middle new → StaysRead old new
read_reserved old middle None h read = tt
read_reserved old None (Some new) h read = absurd read
read_reserved None (Some middle) (Some new) h read = absurd h
read_reserved (Some old) (Some middle) (Some new) h read = read ∙ ap (λ (link : Linked). link.incoming) h.link

pub settled_reserved : {link : ℕ} {c incoming : Deframing} (old middle new : Tables) → Widens old middle
    → HasSettled link c incoming middle new
    → HasSettled link c incoming old new
settled_reserved {link} {c} {incoming} old middle new h settled = record {
  state = settled.state ∙ ap (λ (s : State). (ups (behind link c s)).state) (widened_state old middle h);
  provided = settled.provided;
  here = settled.here;
  apart = λ k other.
      read_reserved (at k old.links.entries) (at k middle.links.entries) (at k new.links.entries) (h.links k) (settled.apart k other);
}

-- what holds, holds at Ok
pub on_ok : {T E : Type 0} (r : Result T E) (P : Type 0) → P → OnOk r P
on_ok (Ok x) P p = p
on_ok (Err e) P p = tt

-- what holds, holds at an error
pub on_err : {T E : Type 0} (r : Result T E) (P : Type 0) → P → OnErr r P
on_err (Ok x) P p = tt
on_err (Err e) P p = p
