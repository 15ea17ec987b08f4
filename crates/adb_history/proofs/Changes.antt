-- What a rule that changes tables does to the rows of clients and links.
use Rattle.std.proofs.Common.{ℕ, ◌≡◌, ◌<◌, Bool, List, Option, None, refl, sym, ◌∙◌, ap, subst, arith, ◌⊎◌, inl, inr}
use Rattle.std.specs.Prelude.{option_map}
use Rattle.std.proofs.lemmas.Bool.{cases_eq}
use Rattle.adb_outside.specs.Tables.{at, IsRising, Puts, set_at}
use Rattle.adb_outside.proofs.TableLaws.{puts_set_at, set_at_rises}
use Rattle.adb_registry.specs.Registry.{DeviceTable, changed, detached}
use Rattle.adb_registry.specs.declared.row.Row.{Row}
use Rattle.adb_forward.specs.declared.row.ForwardRow.{ForwardRow}
use Rattle.adb_history.specs.Rows.{Client, Link, State}
use Rattle.adb_history.specs.Events.{Made, quietly, then_also, owed_to, spelled_to}
use Rattle.adb_history.proofs.Growing.{RowStep, Chain, row_then, row_same, row_weaker, ClientStays, client_same, LinkStays, link_same}
use Rattle.adb_history.proofs.Growing.{client_stays, link_stays}
use Rattle.adb_history.proofs.Growing.{owed_append, spelled_append, IsToldWithin, told_then, AreWithin, Keeps}

-- ---- the devices
-- no device has a number that was not drawn
pub record HasRowsWithin (plugged : ℕ) (devices : DeviceTable) : Type 0 where
  pub rises : IsRising devices.rows
  pub above : (t : ℕ) → plugged < t → at t devices.rows ≡ None

within_set : (plugged t drawn : ℕ) (row : Option Row) (devices : DeviceTable) → (plugged < t → row ≡ None) → HasRowsWithin plugged devices
    → HasRowsWithin plugged (record { drawn = drawn; rows = set_at t row devices.rows })
within_set plugged t drawn row devices none h =
    record { rises = set_at_rises t row devices.rows h.rises; above = λ q lt. go q lt (cases_eq q t) }
  where
    puts : Puts t row devices.rows (set_at t row devices.rows)
    puts = puts_set_at t row devices.rows h.rises

    go : (q : ℕ) → plugged < q → (q ≡ t) ⊎ (q ≡ t → ⊥) → at q (set_at t row devices.rows) ≡ None
    go q lt (inl same) = ap (λ (k : ℕ). at k (set_at t row devices.rows)) same ∙ (puts.here ∙ none (omega (arith, lt, same)))
    go q lt (inr apart) = puts.others q apart ∙ h.above q lt

pub within_changed : (plugged t : ℕ) (f : Row → Row) (devices : DeviceTable) → HasRowsWithin plugged devices
    → HasRowsWithin plugged (changed t f devices)
within_changed plugged t f devices h = within_set plugged t devices.drawn (option_map f (at t devices.rows)) devices
    (λ lt. ap (option_map f) (h.above t lt)) h

pub within_detached : (plugged t : ℕ) (devices : DeviceTable) → HasRowsWithin plugged devices → HasRowsWithin plugged (detached t devices)
within_detached plugged t devices h = within_set plugged t devices.drawn None devices (λ lt. refl) h

-- ---- rows by their numbers
-- what becomes of a client or a link
abbrev pub Fate : Type 0 → Type 1
Fate X = ℕ → X → X → List ℕ → Type 0

abbrev pub Weaker : {X : Type 0} → Fate X → Fate X → Type 0
Weaker {X} P Q = (n : ℕ) (a b : X) (t : List ℕ) → P n a b t → Q n a b t

abbrev pub Stay : Fate Client
Stay c a b told = ClientStays a b told

abbrev pub LinkStay : Fate Link
LinkStay t a b told = LinkStays a b told

abbrev pub stay_on : ℕ → Chain Client
stay_on c = client_stays

abbrev pub link_stay_on : ℕ → Chain Link
link_stay_on t = link_stays

module _ (came plugged : ℕ) where
  pub record Changes (C : Fate Client) (L : Fate Link) (s : State) (m : Made) : Type 0 where
    pub clients : (c : ℕ) → RowStep (C c) (s.clients c) (m.state.clients c) (owed_to c m.told)
    pub links : (t : ℕ) → RowStep (L t) (s.links t) (m.state.links t) (spelled_to t m.told)
    pub told : IsToldWithin came plugged m.told
    pub streams : AreWithin came plugged s.streams → AreWithin came plugged m.state.streams
    pub rows : HasRowsWithin plugged s.devices → HasRowsWithin plugged m.state.devices
    pub joined : m.state.joined ≡ s.joined
    pub drawn : m.state.devices.drawn ≡ s.devices.drawn

  -- a rule after another
  pub changes_then : (clients : ℕ → Chain Client) (links : ℕ → Chain Link) (s : State) (m : Made) (rule : State → Made)
      → Changes (λ c. (clients c).first) (λ t. (links t).first) s m
      → Changes (λ c. (clients c).next) (λ t. (links t).next) m.state (rule m.state)
      → Changes (λ c. (clients c).both) (λ t. (links t).both) s (then_also m rule)
  changes_then clients links s m rule h i = record {
    clients = λ c. subst (λ (x : List ℕ). RowStep (clients c).both (s.clients c) ((rule m.state).state.clients c) x)
        (sym (owed_append c m.told (rule m.state).told))
        (row_then (clients c) (s.clients c) (m.state.clients c) ((rule m.state).state.clients c) (owed_to c m.told)
        (owed_to c (rule m.state).told) (h.clients c) (i.clients c));
    links = λ t. subst (λ (x : List ℕ). RowStep (links t).both (s.links t) ((rule m.state).state.links t) x)
        (sym (spelled_append t m.told (rule m.state).told))
        (row_then (links t) (s.links t) (m.state.links t) ((rule m.state).state.links t) (spelled_to t m.told)
        (spelled_to t (rule m.state).told) (h.links t) (i.links t));
    told = told_then came plugged m.told (rule m.state).told h.told i.told;
    streams = λ within. i.streams (h.streams within);
    rows = λ within. i.rows (h.rows within);
    joined = i.joined ∙ h.joined;
    drawn = i.drawn ∙ h.drawn;
  }

  pub changes_weaker : (B C : Fate Client) (K L : Fate Link) → Weaker B C → Weaker K L → (s : State) (m : Made)
      → Changes B K s m → Changes C L s m
  changes_weaker B C K L weaker links_weaker s m h = record {
    clients = λ c. row_weaker (B c) (C c) (weaker c) (s.clients c) (m.state.clients c) (owed_to c m.told) (h.clients c);
    links = λ t. row_weaker (K t) (L t) (links_weaker t) (s.links t) (m.state.links t) (spelled_to t m.told) (h.links t);
    told = h.told;
    streams = h.streams;
    rows = h.rows;
    joined = h.joined;
    drawn = h.drawn;
  }

  -- a quiet rule
  pub changes_keeps : (s : State) (m : Made) → Keeps came plugged s m → Changes Stay LinkStay s m
  changes_keeps s m h = record {
    clients = h.clients;
    links = h.links;
    told = h.told;
    streams = h.streams;
    rows = λ within. subst (λ (d : DeviceTable). HasRowsWithin plugged d) (sym h.devices) within;
    joined = h.joined;
    drawn = ap (λ (d : DeviceTable). d.drawn) h.devices;
  }

  -- a rule after another, where each lets the rows stay
  pub stays_then : (s : State) (m : Made) (rule : State → Made) → Changes Stay LinkStay s m → Changes Stay LinkStay m.state (rule m.state)
      → Changes Stay LinkStay s (then_also m rule)
  stays_then s m rule h i = changes_then stay_on link_stay_on s m rule h i

  -- the tables are others
  pub changes_tables : (devices : DeviceTable) (forwards : List (ℕ × ForwardRow)) (stopped : Bool) (s : State)
      → devices.drawn ≡ s.devices.drawn
      → (HasRowsWithin plugged s.devices → HasRowsWithin plugged devices)
      → Changes Stay LinkStay s (quietly (record s { devices = devices; forwards = forwards; stopped = stopped }))
  changes_tables devices forwards stopped s drawn rows = record {
    clients = λ c. row_same ClientStays client_same (s.clients c);
    links = λ t. row_same LinkStays link_same (s.links t);
    told = record { clients = λ c lt. refl; links = λ t lt. refl };
    streams = λ h. h;
    rows = rows;
    joined = refl;
    drawn = drawn;
  }
