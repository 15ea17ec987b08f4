-- What the packets of a link make of the forwards: they stay, or those that led to the link go with it.
use Rattle.std.proofs.Common.{ℕ, ◌≡◌, ◌≢◌, ◌≤◌, Bool, true, false, cond, List, [], ◌∷◌, All, Option, Some, None, is_some, refl, sym, ◌∙◌}
use Rattle.std.proofs.Common.{ap, eqb}
use Rattle.std.proofs.Common.{inl, inr, ◌⊎◌}
use Rattle.std.proofs.lemmas.Bool.{eq-eqb, ne_eqb, cases_eq}
use Rattle.std.proofs.lemmas.List.Elements.{All-head, All-tail, All-weaker, filter_passes}
use Rattle.std.specs.Prelude.{nat_lt, ◌||◌, ◌==◌, not, option_and_then, filter}
use Rattle.adb_outside.specs.Tables.{at}
use Rattle.adb_outside.specs.Framing.{Cut}
use Rattle.adb_outside.specs.declared.identity.Identity.{Identity}
use Rattle.adb_outside.specs.declared.identity.State.{State as DeviceState}
use Rattle.adb_outside.specs.declared.identity.State.TheVariants as device
use Rattle.adb_banner.specs.Banner.{identity_of}
use Rattle.adb_registry.specs.Registry.{DeviceTable}
use Rattle.adb_registry.specs.declared.row.Row.{Row}
use Rattle.adb_forward.specs.declared.row.ForwardRow.{ForwardRow}
use Rattle.adb_wire.specs.Format.{has_sums}
use Rattle.adb_wire.specs.declared.command.Command.{Command}
use Rattle.adb_wire.specs.declared.command.Command.TheVariants.{Cnxn, Open, Okay, Wrte, Clse, Auth, Stls}
use Rattle.adb_wire.specs.declared.packets.Packet.{Packet}
use Rattle.adb_wire.specs.declared.format.PacketFault.{PacketFault}
use Rattle.adb_wire.specs.declared.format.PacketFormat.{PacketFormat}
use Rattle.adb_history.specs.Rows.{Link, State, to_link}
use Rattle.adb_history.specs.Events.{Made, quietly, then_also}
use Rattle.adb_history.specs.declared.ending.Ending.{Ending}
use Rattle.adb_history.specs.declared.ending.Ending.TheVariants.{Lost, Broken}
use Rattle.adb_history.specs.Links.{is_connected}
use Rattle.adb_history.specs.Streams.{all_end}
use Rattle.adb_history.specs.Forwarding.{forwards_without}
use Rattle.adb_history.specs.Losing.{forgets, link_ends}
use Rattle.adb_history.specs.Packets.{least_version, least_maxdata, with_sums, goes_online, streams_end_first, connects, cnxn}
use Rattle.adb_history.specs.Packets.{unauthorized_from, unauthorized}
use Rattle.adb_history.specs.Packets.{treat_open, treat_any, treat_on, treat, treat_all, faulty_on, faulty, with_rest, receives_cut}
use Rattle.adb_history.specs.Book.{led_by}
use Rattle.adb_history.proofs.Growing.{AreWithin, Keeps}
use Rattle.adb_history.proofs.GrowingRules.{keeps_all_end}
use Rattle.adb_history.proofs.GrowingPackets.{keeps_treat_open}
use Rattle.adb_history.proofs.LinkChanges.{hears_on, hears_all, link_ends_gone}
use Rattle.adb_history.proofs.DeviceTurns.{AreLinked}

-- ---- lists
filter_all : {X : Type 0} (p : X → Bool) (xs : List X) → All (λ x. p x ≡ true) xs → filter p xs ≡ xs
filter_all p [] all = refl
filter_all p (x ∷ xs) all =
    ap (λ (b : Bool). cond b (x ∷ filter p xs) (filter p xs)) (All-head (λ x. p x ≡ true) x xs all)
    ∙ ap (λ ys. x ∷ ys) (filter_all p xs (All-tail (λ x. p x ≡ true) x xs all))

filter_same : {X : Type 0} (p q : X → Bool) (xs : List X) → All (λ x. p x ≡ q x) xs → filter p xs ≡ filter q xs
filter_same p q [] all = refl
filter_same p q (x ∷ xs) all =
    ap (λ (b : Bool). cond b (x ∷ filter p xs) (filter p xs)) (All-head (λ x. p x ≡ q x) x xs all)
    ∙ ap (λ ys. cond (q x) (x ∷ ys) ys) (filter_same p q xs (All-tail (λ x. p x ≡ q x) x xs all))

filter_twice : {X : Type 0} (p : X → Bool) (xs : List X) → filter p (filter p xs) ≡ filter p xs
filter_twice p xs = filter_all p (filter p xs) (filter_passes p xs)

-- ---- one link
-- the forwards stay, and the link lives where it lived; or those that led to it are gone, and it is
abbrev pub Leads : ℕ → State → Made → Type 0
Leads t s m =
    ((m.state.forwards ≡ s.forwards) × (is_some (m.state.links t) ≡ is_some (s.links t)))
    ⊎ ((m.state.forwards ≡ forwards_without t s.forwards) × (m.state.links t ≡ None))

none_link : (o : Option Link) → is_some o ≡ false → o ≡ None
none_link None e = refl
none_link (Some link) e = let clash : true ≡ false = e in cc

module _ (came plugged t : ℕ) where
  leads_then : (s : State) (m : Made) (rule : State → Made) → Leads t s m → Leads t m.state (rule m.state) → Leads t s (then_also m rule)
  leads_then s m rule (inl h) (inl i) = inl (i.0 ∙ h.0, i.1 ∙ h.1)
  leads_then s m rule (inl h) (inr i) = inr (i.0 ∙ ap (forwards_without t) h.0, i.1)
  leads_then s m rule (inr h) (inl i) = inr (i.0 ∙ h.0, none_link ((rule m.state).state.links t) (i.1 ∙ ap is_some h.1))
  leads_then s m rule (inr h) (inr i) =
      inr (i.0 ∙ (ap (forwards_without t) h.0 ∙ filter_twice (λ (entry : ℕ × ForwardRow). not (entry.1.transport == t)) s.forwards), i.1)

  leads_keeps : (s : State) (m : Made) → Keeps came plugged s m → Leads t s m
  leads_keeps s m h = inl (h.forwards, h.linked t)

  pub leads_link_ends : (ending : Ending) (s : State) → AreWithin came plugged s.streams → Leads t s (link_ends t ending s)
  leads_link_ends ending s all =
      inr ((keeps_all_end came plugged t ending (forgets t s) all).forwards, link_ends_gone came plugged t ending s all)

  leads_online : (version maxdata : ℕ) (identity : Identity) (s : State) → Leads t s (quietly (goes_online t version maxdata identity s))
  leads_online version maxdata identity s = inl (refl, there (eqb t t) (s.links t))
    where
      there : (here : Bool) (o : Option Link) → is_some (cond here (option_and_then (with_sums (has_sums version)) o) o) ≡ is_some o
      there true None = refl
      there true (Some link) = refl
      there false o = refl

  leads_connects : (version maxdata : ℕ) (o : Option Identity) (s : State) → AreWithin came plugged s.streams
      → Leads t s (connects t version maxdata o s)
  leads_connects version maxdata None s all = leads_link_ends Broken s all
  leads_connects version maxdata (Some identity) s all =
      let m = streams_end_first (is_connected t s.devices) t s in
      leads_then s m (λ x. quietly (goes_online t version maxdata identity x)) (first (is_connected t s.devices))
      (leads_online version maxdata identity m.state)
    where
      first : (connected : Bool) → Leads t s (streams_end_first connected t s)
      first true = leads_keeps s (all_end t Lost s) (keeps_all_end came plugged t Lost s all)
      first false = inl (refl, refl)

  leads_cnxn : (version maxdata : ℕ) (banner : List ℕ) (s : State) → AreWithin came plugged s.streams
      → Leads t s (cnxn t version maxdata banner s)
  leads_cnxn version maxdata banner s all = go (nat_lt version least_version || nat_lt maxdata least_maxdata)
    where
      go : (refused : Bool) → Leads t s (cond refused (link_ends t Broken s) (connects t version maxdata (identity_of banner) s))
      go true = leads_link_ends Broken s all
      go false = leads_connects version maxdata (identity_of banner) s all

  leads_unauthorized : (o : Option Row) (s : State) → Leads t s (unauthorized t o s)
  leads_unauthorized None s = inl (refl, refl)
  leads_unauthorized (Some row) s = go row.state
    where
      go : (state : DeviceState) → Leads t s (quietly (unauthorized_from t state s))
      go device.Offline = inl (refl, refl)
      go _ = inl (refl, refl)

  leads_open : (command : Command) (p : Packet) (s : State) → t ≤ plugged → AreWithin came plugged s.streams
      → Leads t s (cond (is_connected t s.devices) (treat_open t command p s) (quietly s))
  leads_open command p s le all = go (is_connected t s.devices)
    where
      go : (connected : Bool) → Leads t s (cond connected (treat_open t command p s) (quietly s))
      go true = leads_keeps s (treat_open t command p s) (keeps_treat_open came plugged t command p s le all)
      go false = inl (refl, refl)

  leads_any : (command : Command) (p : Packet) (s : State) → t ≤ plugged → AreWithin came plugged s.streams
      → Leads t s (treat_any t command p s)
  leads_any Cnxn p s le all = leads_cnxn p.arg0 p.arg1 p.payload s all
  leads_any Auth p s le all = leads_unauthorized (at t s.devices.rows) s
  leads_any Stls p s le all = leads_unauthorized (at t s.devices.rows) s
  leads_any Open p s le all = leads_open Open p s le all
  leads_any Okay p s le all = leads_open Okay p s le all
  leads_any Wrte p s le all = leads_open Wrte p s le all
  leads_any Clse p s le all = leads_open Clse p s le all

  leads_on : (o : Option Link) (p : Packet) (s : State) → t ≤ plugged → AreWithin came plugged s.streams → Leads t s (treat_on o t p s)
  leads_on None p s le all = inl (refl, refl)
  leads_on (Some link) p s le all = leads_any p.command p s le all

  leads_all : (packets : List Packet) (s : State) → t ≤ plugged → AreWithin came plugged s.streams → Leads t s (treat_all t packets s)
  leads_all [] s le all = inl (refl, refl)
  leads_all (p ∷ packets) s le all =
      let m = treat t p s in
      leads_then s m (treat_all t packets) (leads_on (s.links t) p s le all)
      (leads_all packets m.state le ((hears_on came plugged (s.links t) t p s refl le all).streams all))

  leads_faulty : (o : Option Link) (fault : Option PacketFault) (s : State) → AreWithin came plugged s.streams
      → Leads t s (faulty_on o t fault s)
  leads_faulty None fault s all = inl (refl, refl)
  leads_faulty (Some link) None s all = inl (refl, refl)
  leads_faulty (Some link) (Some fault) s all = leads_link_ends Broken s all

  pub leads_cut : (c : Cut PacketFormat Packet PacketFault) (s : State) → t ≤ plugged
      → AreWithin came plugged s.streams → Leads t s (receives_cut t c s)
  leads_cut c s le all =
      let rested = to_link t (with_rest c.rest) s in
      let m = treat_all t c.given rested in
      let changes = hears_all came plugged t c.given rested le all in
      leads_then s m (faulty t c.fault)
      (leads_then s (quietly rested) (λ _. m) (inl (refl, there (eqb t t) (s.links t))) (leads_all c.given rested le all))
      (leads_faulty (m.state.links t) c.fault m.state (changes.streams all))
    where
      there : (here : Bool) (o : Option Link) → is_some (cond here (option_and_then (with_rest c.rest) o) o) ≡ is_some o
      there true None = refl
      there true (Some link) = refl
      there false o = refl

-- ---- all forwards
-- each forward leads to a device that is there
abbrev pub AreLed : DeviceTable → List (ℕ × ForwardRow) → Type 0
AreLed devices forwards = All (λ (entry : ℕ × ForwardRow). is_some (at entry.1.transport devices.rows) ≡ true) forwards

-- those that stay are those that lead to a device
pub led_after : (t : ℕ) (s : State) (m : Made) → AreLinked s → AreLinked m.state
    → ((k : ℕ) → k ≢ t → at k m.state.devices.rows ≡ at k s.devices.rows)
    → AreLed s.devices s.forwards → Leads t s m → m.state.forwards ≡ led_by m.state.devices s.forwards
led_after t s m linked after others led (inl h) =
    h.0 ∙ sym (filter_all (λ (entry : ℕ × ForwardRow). is_some (at entry.1.transport m.state.devices.rows)) s.forwards
    (All-weaker (λ (entry : ℕ × ForwardRow). is_some (at entry.1.transport s.devices.rows) ≡ true)
    (λ (entry : ℕ × ForwardRow). is_some (at entry.1.transport m.state.devices.rows) ≡ true)
    (λ entry e. same entry.1.transport (cases_eq entry.1.transport t) ∙ e) s.forwards led))
  where
    same : (k : ℕ) → (k ≡ t) ⊎ (k ≡ t → ⊥) → is_some (at k m.state.devices.rows) ≡ is_some (at k s.devices.rows)
    same k (inl is) =
        ap (λ (n : ℕ). is_some (at n m.state.devices.rows)) is
        ∙ (sym (after t) ∙ (h.1 ∙ (linked t ∙ sym (ap (λ (n : ℕ). is_some (at n s.devices.rows)) is))))
    same k (inr apart) = ap is_some (others k apart)
led_after t s m linked after others led (inr h) =
    h.0 ∙ filter_same (λ (entry : ℕ × ForwardRow). not (entry.1.transport == t))
    (λ (entry : ℕ × ForwardRow). is_some (at entry.1.transport m.state.devices.rows))
    s.forwards (All-weaker (λ (entry : ℕ × ForwardRow). is_some (at entry.1.transport s.devices.rows) ≡ true)
    (λ (entry : ℕ × ForwardRow). not (entry.1.transport == t) ≡ is_some (at entry.1.transport m.state.devices.rows))
    (λ entry e. same entry.1.transport e (cases_eq entry.1.transport t)) s.forwards led)
  where
    same : (k : ℕ) → is_some (at k s.devices.rows) ≡ true → (k ≡ t) ⊎ (k ≡ t → ⊥) → not (k == t) ≡ is_some (at k m.state.devices.rows)
    same k e (inl is) =
        ap not (eq-eqb k t is)
        ∙ sym (ap (λ (n : ℕ). is_some (at n m.state.devices.rows)) is ∙ (sym (after t) ∙ ap is_some h.1))
    same k e (inr apart) = ap not (ne_eqb k t apart) ∙ sym (ap is_some (others k apart) ∙ e)

pub led_filter : (devices : DeviceTable) (forwards : List (ℕ × ForwardRow)) → AreLed devices (led_by devices forwards)
led_filter devices forwards = filter_passes (λ (entry : ℕ × ForwardRow). is_some (at entry.1.transport devices.rows)) forwards
