-- What is due is what ever became due, past what was handed out.
use Rattle.std.proofs.Common.{ℕ, ◌≡◌, ◌≤◌, ◌<◌, Bool, true, false, cond, List, [], ◌++◌, length, drop, Option, Some, None, refl, sym, ◌∙◌}
use Rattle.std.proofs.Common.{ap, subst}
use Rattle.std.proofs.Common.{arith, append_assoc, eqb}
use Rattle.std.proofs.Math.Seq.{drop-append_seam}
use Rattle.std.proofs.lemmas.List.{append-nil}
use Rattle.std.specs.Prelude.{option_and_then}
use Rattle.adb_outside.specs.Bytes.{IsPrefixOf}
use Rattle.adb_capture.specs.declared.entry.Entry.{Entry}
use Rattle.adb_capture.specs.declared.entry.Entry.TheVariants.{Read, End, Bound, Recv, Detach}
use Rattle.adb_outside.specs.Framing.{Cut}
use Rattle.adb_wire.specs.Cutting.{cut_packets}
use Rattle.adb_wire.specs.declared.packets.Packet.{Packet}
use Rattle.adb_wire.specs.declared.format.PacketFault.{PacketFault}
use Rattle.adb_wire.specs.declared.format.PacketFormat.{PacketFormat}
use Rattle.adb_history.specs.Rows.{Client, Link, State, to_link}
use Rattle.adb_history.specs.Events.{Made, Event, quietly, then_also, owed_to, spelled_to}
use Rattle.adb_history.specs.declared.ending.Ending.TheVariants.{Lost}
use Rattle.adb_history.specs.Losing.{link_ends, client_ends}
use Rattle.adb_history.specs.Packets.{treat_all, faulty, with_rest, receives_cut, receives_on, receives}
use Rattle.adb_history.specs.Reading.{reads, bound}
use Rattle.adb_history.specs.Machine.{unplugs_on, unplugs, rule, ups, step, told, May}
use Rattle.adb_history.proofs.Growing.{RowStep, row_none, ClientOwes, LinkOwes, IsToldWithin, AreWithin, owed_append, spelled_append}
use Rattle.adb_history.proofs.Growing.{told_then}
use Rattle.adb_history.proofs.Growing.{client_owes_then, link_owes_then, Keeps, keeps_all}
use Rattle.adb_history.proofs.GrowingRules.{keeps_up_all, keeps_client_ends}
use Rattle.adb_history.proofs.Changes.{HasRowsWithin, Fate, Stay, LinkStay, Changes, changes_then, changes_weaker, changes_keeps}
use Rattle.adb_history.proofs.LinkChanges.{HearsAllOn, hears_all, changes_faulty, changes_link_ends}
use Rattle.adb_history.proofs.ReadChanges.{ReadOn, read_from, changes_bound}

-- ---- one row
-- What was ever due to who is still there is what was handed out, and what is due.
abbrev pub ClientTie : Option Client → (output out : List ℕ) → Type 0
ClientTie None output out = Unit {0}
ClientTie (Some client) output out = output ≡ out ++ client.due

abbrev pub LinkTie : Option Link → (output out : List ℕ) → Type 0
LinkTie None output out = Unit {0}
LinkTie (Some link) output out = output ≡ out ++ link.due

more_due : (output out due next told : List ℕ) → output ≡ out ++ due → next ≡ due ++ told → output ++ told ≡ out ++ next
more_due output out due next told e f = ap (λ x. x ++ told) e ∙ (append_assoc out due told ∙ ap (λ x. out ++ x) (sym f))

client_grows : (a b : Option Client) (output out told : List ℕ) → ClientTie a output out → RowStep ClientOwes a b told
    → ClientTie b (output ++ told) out
client_grows None None output out told e h = tt
client_grows None (Some b) output out told e h = absurd h
client_grows (Some a) None output out told e h = tt
client_grows (Some a) (Some b) output out told e h = more_due output out a.due b.due told e h

link_grows : (a b : Option Link) (output out told : List ℕ) → LinkTie a output out → RowStep LinkOwes a b told
    → LinkTie b (output ++ told) out
link_grows None None output out told e h = tt
link_grows None (Some b) output out told e h = absurd h
link_grows (Some a) None output out told e h = tt
link_grows (Some a) (Some b) output out told e h = more_due output out a.due b.due told e h

-- what is handed out comes off the front of what is due
pub handed_off : (output out due bytes : List ℕ) → output ≡ out ++ due → IsPrefixOf bytes due
    → output ≡ (out ++ bytes) ++ drop (length bytes) due
handed_off output out due bytes e (rest, is) =
    let left : drop (length bytes) due ≡ rest = ap (drop (length bytes)) (sym is) ∙ drop-append_seam bytes rest in
    e ∙ (ap (λ x. out ++ x) (sym is) ∙ (sym (append_assoc out bytes rest) ∙ ap (λ x. (out ++ bytes) ++ x) (sym left)))

-- ---- all rows of a state
abbrev pub Owed : Fate Client
Owed c a b told = ClientOwes a b told

abbrev pub LinkOwed : Fate Link
LinkOwed t a b told = LinkOwes a b told

-- Who is there is tied to what was told and handed out; who did not come yet was told nothing, and nothing was handed out to it.
pub record Tie (came plugged : ℕ) (s : State) (events : List Event) (put sent : ℕ → List ℕ) : Type 0 where
  pub clients : (c : ℕ) → ClientTie (s.clients c) (owed_to c events) (put c)
  pub links : (t : ℕ) → LinkTie (s.links t) (spelled_to t events) (sent t)
  pub told : IsToldWithin came plugged events
  pub unborn : (c : ℕ) → came < c → s.clients c ≡ None
  pub unplugged : (t : ℕ) → plugged < t → s.links t ≡ None
  pub unput : (c : ℕ) → came < c → put c ≡ []
  pub unsent : (t : ℕ) → plugged < t → sent t ≡ []
  pub streams : AreWithin came plugged s.streams
  pub rows : HasRowsWithin plugged s.devices
  pub joined : s.joined ≡ came
  pub drawn : s.devices.drawn ≡ plugged

-- an entry that brings nobody, and hands nothing out
abbrev pub IsInner : Entry → Type 0
IsInner (Read c bytes) = Unit {0}
IsInner (End c cause) = Unit {0}
IsInner (Bound c port) = Unit {0}
IsInner (Recv t bytes) = Unit {0}
IsInner (Detach t cause) = Unit {0}
IsInner _ = ⊥

module _ (came plugged : ℕ) (put sent : ℕ → List ℕ) where
  -- a rule that hands nothing out keeps it
  pub tie_changes : (s : State) (events : List Event) (m : Made) → Tie came plugged s events put sent
      → Changes came plugged Owed LinkOwed s m → Tie came plugged m.state (events ++ m.told) put sent
  tie_changes s events m h i = record {
    clients = λ c. subst (λ (x : List ℕ). ClientTie (m.state.clients c) x (put c)) (sym (owed_append c events m.told))
        (client_grows (s.clients c) (m.state.clients c) (owed_to c events) (put c) (owed_to c m.told) (h.clients c) (i.clients c));
    links = λ t. subst (λ (x : List ℕ). LinkTie (m.state.links t) x (sent t)) (sym (spelled_append t events m.told))
        (link_grows (s.links t) (m.state.links t) (spelled_to t events) (sent t) (spelled_to t m.told) (h.links t) (i.links t));
    told = told_then came plugged events m.told h.told i.told;
    unborn = λ c lt. row_none (Owed c) (s.clients c) (m.state.clients c) (owed_to c m.told) (h.unborn c lt) (i.clients c);
    unplugged = λ t lt. row_none (LinkOwed t) (s.links t) (m.state.links t) (spelled_to t m.told) (h.unplugged t lt) (i.links t);
    unput = h.unput;
    unsent = h.unsent;
    streams = i.streams h.streams;
    rows = i.rows h.rows;
    joined = i.joined ∙ h.joined;
    drawn = i.drawn ∙ h.drawn;
  }

  pub owed_stays : (s : State) (m : Made) → Changes came plugged Stay LinkStay s m → Changes came plugged Owed LinkOwed s m
  owed_stays s m h = changes_weaker came plugged Stay Owed LinkStay LinkOwed (λ n a b t i. i.due) (λ n a b t i. i.due) s m h

  pub tie_keeps : (s : State) (events : List Event) (m : Made) → Tie came plugged s events put sent → Keeps came plugged s m
      → Tie came plugged m.state (events ++ m.told) put sent
  tie_keeps s events m h i = tie_changes s events m h (owed_stays s m (changes_keeps came plugged s m i))

  -- and so does the up rule after it
  pub tie_step : (s : State) (events : List Event) (e : Entry) → Tie came plugged (rule e s).state (events ++ (rule e s).told) put sent
      → Tie came plugged (step s e).state (events ++ (step s e).told) put sent
  tie_step s events e h =
      let m = rule e s in
      subst (λ (x : List Event). Tie came plugged (step s e).state x put sent) (append_assoc events m.told (ups m.state).told)
      (tie_keeps m.state (events ++ m.told) (ups m.state) h (keeps_up_all came plugged m.state.drawn m.state h.streams))

  -- ---- receive
  owed_then : (s : State) (m : Made) (next : State → Made) → Changes came plugged Owed LinkOwed s m
      → Changes came plugged Owed LinkOwed m.state (next m.state)
      → Changes came plugged Owed LinkOwed s (then_also m next)
  owed_then s m next h i = changes_then came plugged
      (λ n. record { first = ClientOwes; next = ClientOwes; both = ClientOwes; follows = client_owes_then })
      (λ n. record { first = LinkOwes; next = LinkOwes; both = LinkOwes; follows = link_owes_then }) s m next h i

  owes_rest : (t : ℕ) (rest : List ℕ) (s : State) → Changes came plugged Owed LinkOwed s (quietly (to_link t (with_rest rest) s))
  owes_rest t rest s = record {
    clients = λ c. client (s.clients c);
    links = λ k. go (eqb t k) (s.links k);
    told = record { clients = λ c lt. refl; links = λ t lt. refl };
    streams = λ h. h;
    rows = λ h. h;
    joined = refl;
    drawn = refl;
  }
    where
      client : (o : Option Client) → RowStep ClientOwes o o []
      client None = tt
      client (Some a) = sym (append-nil a.due)

      go : (here : Bool) (o : Option Link) → RowStep LinkOwes o (cond here (option_and_then (with_rest rest) o) o) []
      go true None = tt
      go false None = tt
      go true (Some a) = sym (append-nil a.due)
      go false (Some a) = sym (append-nil a.due)

  owes_cut : (t : ℕ) (c : Cut PacketFormat Packet PacketFault) (s : State) → t ≤ plugged → AreWithin came plugged s.streams
      → Changes came plugged Owed LinkOwed s (receives_cut t c s)
  owes_cut t c s le all =
      let rested = to_link t (with_rest c.rest) s in
      let treated = treat_all t c.given rested in
      let hears = hears_all came plugged t c.given rested le all in
      owed_then s treated (faulty t c.fault)
      (owed_then s (quietly rested) (λ _. treated) (owes_rest t c.rest s)
      (changes_weaker came plugged Stay Owed (HearsAllOn t c.given) LinkOwed (λ n a b t i. i.due) (λ n a b t i. i.due)
      rested treated hears))
      (owed_stays treated.state (faulty t c.fault treated.state)
      (changes_faulty came plugged (treated.state.links t) t c.fault treated.state (hears.streams all)))

  owes_receives : (o : Option Link) (t : ℕ) (bytes : List ℕ) (s : State) → t ≤ plugged → AreWithin came plugged s.streams
      → Changes came plugged Owed LinkOwed s (receives_on o t bytes s)
  owes_receives None t bytes s le all = owed_stays s (quietly s) (changes_keeps came plugged s (quietly s) (keeps_all came plugged s))
  owes_receives (Some link) t bytes s le all = owes_cut t (cut_packets (record { sums = link.sums }) (link.rest ++ bytes)) s le all

  owes_unplugs : (o : Option Link) (t : ℕ) (s : State) → AreWithin came plugged s.streams
      → Changes came plugged Owed LinkOwed s (unplugs_on o t s)
  owes_unplugs None t s all = owed_stays s (quietly s) (changes_keeps came plugged s (quietly s) (keeps_all came plugged s))
  owes_unplugs (Some link) t s all = owed_stays s (link_ends t Lost s) (changes_link_ends came plugged t Lost s all)

  -- ---- the entries that come from clients and links that are there
  tie_read : (c : ℕ) (bytes : List ℕ) (s : State) (events : List Event) → c ≤ came → Tie came plugged s events put sent
      → Tie came plugged (reads c bytes s).state (events ++ (reads c bytes s).told) put sent
  tie_read c bytes s events le h = tie_changes s events (reads c bytes s) h
      (changes_weaker came plugged (ReadOn c) Owed LinkStay LinkOwed (λ n a b t i. i.due) (λ n a b t i. i.due) s (reads c bytes s)
      (read_from came plugged c (s.clients c) bytes s le h.rows))

  pub tie_inner : (e : Entry) (s : State) (events : List Event) → May s e → Tie came plugged s events put sent → IsInner e
      → Tie came plugged (rule e s).state (events ++ (rule e s).told) put sent
  tie_inner (Read c bytes) s events may h inner = tie_read c bytes s events (omega (arith, may.1.1, h.joined)) h
  tie_inner (End c cause) s events may h inner =
      tie_keeps s events (client_ends c cause (s.clients c) s) h (keeps_client_ends came plugged c cause (s.clients c) s h.streams)
  tie_inner (Bound c port) s events may h inner = tie_changes s events (bound c port s) h
      (owed_stays s (bound c port s) (changes_bound came plugged (s.clients c) c port s (omega (arith, may.1.1, h.joined))))
  tie_inner (Recv t bytes) s events may h inner = tie_changes s events (receives t bytes s) h
      (owes_receives (s.links t) t bytes s (omega (arith, may.1.1, h.drawn)) h.streams)
  tie_inner (Detach t cause) s events may h inner = tie_changes s events (unplugs t s) h (owes_unplugs (s.links t) t s h.streams)
  tie_inner _ s events may h inner = absurd inner
