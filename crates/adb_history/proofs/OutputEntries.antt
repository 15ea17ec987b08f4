-- Who comes and what is handed out: every legal history's state is tied to what it told and handed out.
use Rattle.std.proofs.Common.{ℕ, ◌+◌, ◌≡◌, ◌≤◌, ◌<◌, Bool, true, false, cond, List, [], ◌∷◌, ◌++◌, length, drop, Option, Some, None}
use Rattle.std.proofs.Common.{is_some, refl}
use Rattle.std.proofs.Common.{sym, ◌∙◌, ap, subst, arith, append_assoc, eqb, inl, inr, ◌⊎◌}
use Rattle.std.proofs.lemmas.Bool.{eqb-true, ne_eqb, eq-eqb, cases_lt}
use Rattle.std.proofs.lemmas.List.{append-nil}
use Rattle.std.specs.Prelude.{option_and_then}
use Rattle.std.specs.List.Sorted.{IsStrictlySortedBy}
use Rattle.adb_outside.specs.Bytes.{IsPrefixOf}
use Rattle.adb_outside.specs.Tables.{at, IsRising, put_row, change_row}
use Rattle.adb_outside.specs.declared.kinds.Kind.{Kind}
use Rattle.adb_outside.proofs.TableLaws.{puts_put_at, put_at_rises}
use Rattle.adb_registry.specs.Registry.{attached}
use Rattle.adb_registry.specs.Row.{new_row}
use Rattle.adb_registry.specs.declared.row.Row.{Row}
use Rattle.adb_forward.specs.declared.row.ForwardRow.{ForwardRow}
use Rattle.adb_client.specs.declared.phase.Phase.{Phase}
use Rattle.adb_client.specs.declared.phase.Phase.TheVariants.{Closing}
use Rattle.adb_capture.specs.declared.entry.Entry.{Entry}
use Rattle.adb_capture.specs.declared.entry.Entry.TheVariants.{Join, Enter, Attach, Put, Send}
use Rattle.adb_stream.specs.declared.row.Stream.{Stream}
use Rattle.adb_history.specs.Rows.{Client, Link, State, new_client, new_link, to_client, with_due}
use Rattle.adb_history.specs.Events.{Event, quietly, owed_to, spelled_to}
use Rattle.adb_history.specs.Links.{server_cnxn, is_connected, is_connected_row}
use Rattle.adb_history.specs.Clients.{closing_with}
use Rattle.adb_history.specs.Tracking.{mark_all, offered}
use Rattle.adb_history.specs.Streams.{opens}
use Rattle.adb_history.specs.Reading.{comes, comes_in_vain, enters_by, enters, plugs_in}
use Rattle.adb_history.specs.Handing.{unmarked, lists_first, left_in, hands, client_left, takes_of, puts_to, link_hands, sends}
use Rattle.adb_history.specs.Machine.{rule, History, state, told, MayPut, MaySend, May, IsLegal}
use Rattle.adb_history.specs.Bytes.{bytes_put, bytes_sent}
use Rattle.adb_history.specs.Lives.{output_of}
use Rattle.adb_history.specs.Tied.{DueIsPastPut, DueIsPastSent, came_count}
use Rattle.adb_history.specs.Book.{plugged_count}
use Rattle.adb_history.proofs.Growing.{IsToldWithin, IsWithin, AreWithin, keeps_over, keeps_owe_link}
use Rattle.adb_history.proofs.GrowingRules.{keeps_opens, same_client}
use Rattle.adb_history.proofs.GrowingPackets.{keeps_mark_all, keeps_lists_first, keeps_client_left}
use Rattle.adb_history.proofs.Changes.{HasRowsWithin}
use Rattle.adb_history.proofs.AnswersWithin.{row_within}
use Rattle.adb_history.proofs.Outputs.{ClientTie, LinkTie, handed_off, Tie, IsInner, tie_keeps, tie_step, tie_inner}

-- ---- a client comes
keeps_above : (came plugged next next_drawn : ℕ) (events : List Event) → came ≤ next → plugged ≤ next_drawn
    → IsToldWithin came plugged events
    → IsToldWithin next next_drawn events
keeps_above came plugged next next_drawn events le drawn_le h =
    record { clients = λ c lt. h.clients c (omega (arith, lt, le)); links = λ t lt. h.links t (omega (arith, lt, drawn_le)) }

within_above : (came plugged next next_drawn : ℕ) (streams : ℕ → Option Stream) → came ≤ next → plugged ≤ next_drawn
    → AreWithin came plugged streams
    → AreWithin next next_drawn streams
within_above came plugged next next_drawn streams le drawn_le h l = go (streams l) (h l)
  where
    go : (o : Option Stream) → IsWithin came plugged o → IsWithin next next_drawn o
    go None i = tt
    go (Some stream) i = (omega (arith, i.0, le), omega (arith, i.1, drawn_le))

-- nothing was told or handed out to who did not come yet
nothing_due : (output out : List ℕ) → output ≡ [] → out ≡ [] → output ≡ out ++ []
nothing_due output out e f = e ∙ (sym f ∙ sym (append-nil out))

-- a row that is there has a number that was drawn
pub row_below : {X : Type 0} (limit n : ℕ) (o : Option X) (x : X) → (limit < n → o ≡ None) → o ≡ Some x → n ≤ limit
row_below {X} limit n o x none is = go (cases_lt limit n)
  where
    go : (limit < n) ⊎ (n ≤ limit) → n ≤ limit
    go (inl lt) = let clash : None ≡ Some x = sym (none lt) ∙ is in cc
    go (inr le) = le

-- a device that is connected is there
pub connected_is : (o : Option Row) → is_connected_row o ≡ true → is_some o ≡ true
connected_is None e = e
connected_is (Some row) e = refl

module _ (came plugged : ℕ) (put sent : ℕ → List ℕ) (s : State) (events : List Event) (h : Tie came plugged s events put sent) where
  tie_comes_in_vain : Tie (came + 1) plugged (comes_in_vain s) events put sent
  tie_comes_in_vain = record {
    clients = h.clients;
    links = h.links;
    told = keeps_above came plugged (came + 1) plugged events (omega arith) (omega arith) h.told;
    unborn = λ c lt. h.unborn c (omega (arith, lt));
    unplugged = h.unplugged;
    unput = λ c lt. h.unput c (omega (arith, lt));
    unsent = h.unsent;
    streams = within_above came plugged (came + 1) plugged s.streams (omega arith) (omega arith) h.streams;
    rows = h.rows;
    joined = ap (λ (n : ℕ). n + 1) h.joined;
    drawn = h.drawn;
  }

  tie_comes : (forwarded : Bool) (c : ℕ) → c ≡ s.joined + 1 → Tie (came + 1) plugged (comes forwarded c s) events put sent
  tie_comes forwarded c is = record {
    clients = λ k. here k (eqb c k) refl;
    links = h.links;
    told = keeps_above came plugged (came + 1) plugged events (omega arith) (omega arith) h.told;
    unborn = λ k lt. ap (λ (b : Bool). cond b (Some (new_client forwarded c)) (s.clients k))
        (ne_eqb c k (λ e. omega (arith, lt, is, e, h.joined)))
        ∙ h.unborn k (omega (arith, lt));
    unplugged = h.unplugged;
    unput = λ k lt. h.unput k (omega (arith, lt));
    unsent = h.unsent;
    streams = within_above came plugged (came + 1) plugged s.streams (omega arith) (omega arith) h.streams;
    rows = h.rows;
    joined = ap (λ (n : ℕ). n + 1) h.joined;
    drawn = h.drawn;
  }
    where
      here : (k : ℕ) (same : Bool) → eqb c k ≡ same → ClientTie
          (cond same (Some (new_client forwarded c)) (s.clients k)) (owed_to k events) (put k)
      here k true e = let above : came < k = omega (arith, eqb-true c k e, is, h.joined) in
          nothing_due (owed_to k events) (put k) (h.told.clients k above) (h.unput k above)
      here k false e = h.clients k

  tie_enters : (c port : ℕ) → c ≡ s.joined + 1
      → Tie (came + 1) plugged (enters c port s).state (events ++ (enters c port s).told) put sent
  tie_enters c port is = go (at port s.forwards)
    where
      in_vain : Tie (came + 1) plugged (comes_in_vain s) (events ++ []) put sent
      in_vain = subst (λ (x : List Event). Tie (came + 1) plugged (comes_in_vain s) x put sent) (sym (append-nil events)) tie_comes_in_vain

      by : (row : ForwardRow) (connected : Bool) → is_connected row.transport s.devices ≡ connected
          → Tie (came + 1) plugged
          (cond connected (opens true c row.transport row.remote (comes true c s))
          (quietly (comes_in_vain s))).state
          (events ++ (cond connected (opens true c row.transport row.remote (comes true c s)) (quietly (comes_in_vain s))).told) put sent
      by row false e = in_vain
      by row true e = tie_keeps (came + 1) plugged put sent (comes true c s) events (opens true c row.transport row.remote (comes true c s))
          (tie_comes true c is)
          (keeps_opens (came + 1) plugged true c row.transport row.remote (comes true c s) (omega (arith, is, h.joined))
          (row_within plugged row.transport s.devices h.rows (connected_is (at row.transport s.devices.rows) e)))

      go : (o : Option ForwardRow) → Tie (came + 1) plugged (enters_by c o s).state (events ++ (enters_by c o s).told) put sent
      go None = in_vain
      go (Some row) = by row (is_connected row.transport s.devices) refl

  -- ---- a device is plugged in
  within_attached : (kind : Kind) (serial : List ℕ) → HasRowsWithin (plugged + 1) (attached kind serial s.devices)
  within_attached kind serial = record {
    rises = put_at_rises (s.devices.drawn + 1) row s.devices.rows h.rows.rises;
    above = λ t lt. (puts_put_at (s.devices.drawn + 1) row s.devices.rows).others t
        (λ e. omega (arith, lt, e, h.drawn)) ∙ h.rows.above t (omega (arith, lt));
  }
    where
      row : Row
      row = new_row (s.devices.drawn + 1) kind serial

  tie_plugged : (t : ℕ) (kind : Kind) (serial : List ℕ) → t ≡ s.devices.drawn + 1
      → Tie came (plugged + 1)
      (record s { devices = attached kind serial s.devices; links = put_row t (Some new_link) s.links }) events
      put sent
  tie_plugged t kind serial is = record {
    clients = h.clients;
    links = λ k. here k (eqb t k) refl;
    told = keeps_above came plugged came (plugged + 1) events (omega arith) (omega arith) h.told;
    unborn = h.unborn;
    unplugged = λ k lt. ap (λ (b : Bool). cond b (Some new_link) (s.links k)) (ne_eqb t k (λ e. omega (arith, lt, is, e, h.drawn)))
        ∙ h.unplugged k (omega (arith, lt));
    unput = h.unput;
    unsent = λ k lt. h.unsent k (omega (arith, lt));
    streams = within_above came plugged came (plugged + 1) s.streams (omega arith) (omega arith) h.streams;
    rows = within_attached kind serial;
    joined = h.joined;
    drawn = ap (λ (n : ℕ). n + 1) h.drawn;
  }
    where
      here : (k : ℕ) (same : Bool) → eqb t k ≡ same → LinkTie (cond same (Some new_link) (s.links k)) (spelled_to k events) (sent k)
      here k true e = let above : plugged < k = omega (arith, eqb-true t k e, is, h.drawn) in
          nothing_due (spelled_to k events) (sent k) (h.told.links k above) (h.unsent k above)
      here k false e = h.links k

  tie_plugs_in : (t : ℕ) (kind : Kind) (serial : List ℕ) → t ≡ s.devices.drawn + 1
      → Tie came (plugged + 1) (plugs_in t kind serial s).state (events ++ (plugs_in t kind serial s).told) put sent
  tie_plugs_in t kind serial is =
      let next = record s { devices = attached kind serial s.devices; links = put_row t (Some new_link) s.links } in
      tie_keeps came (plugged + 1) put sent next events (plugs_in t kind serial s) (tie_plugged t kind serial is)
      (keeps_over came (plugged + 1) next (mark_all next) (plugs_in t kind serial s) (keeps_mark_all came (plugged + 1) next)
      (keeps_owe_link came (plugged + 1) t server_cnxn (mark_all next) (omega (arith, is, h.drawn))))

  -- ---- hand-outs
  put_with : ℕ → List ℕ → ℕ → List ℕ
  put_with n bytes c = cond (eqb n c) (put c ++ bytes) (put c)

  sent_with : ℕ → List ℕ → ℕ → List ℕ
  sent_with n bytes t = cond (eqb n t) (sent t ++ bytes) (sent t)

  tie_left_closing : (due : List ℕ) (c : Client) (output out : List ℕ) → output ≡ out ++ due
      → ClientTie (closing_with due (record c { due = due })) output out
  tie_left_closing [] c output out e = tt
  tie_left_closing (b ∷ due) c output out e = e

  tie_left : (phase : Phase) (due : List ℕ) (c : Client) (output out : List ℕ) → output ≡ out ++ due
      → ClientTie (left_in phase due c) output out
  tie_left Closing due c output out e = tie_left_closing due c output out e
  tie_left _ due c output out e = e

  -- bytes that are due are handed out to a client
  tie_hands : (n : ℕ) (bytes : List ℕ) (client : Client) → s.clients n ≡ Some client → IsPrefixOf bytes client.due
      → Tie came plugged (to_client n (hands (length bytes)) s) events (put_with n bytes) sent
  unfolding put_with
  tie_hands n bytes client is front = record {
    clients = λ c. here c (eqb n c) refl;
    links = h.links;
    told = h.told;
    unborn = λ c lt. none (eqb n c) (s.clients c) (h.unborn c lt);
    unplugged = h.unplugged;
    unput = λ c lt. ap (λ (b : Bool). cond b (put c ++ bytes) (put c)) (ne_eqb n c (λ e. omega (arith, lt, e, below))) ∙ h.unput c lt;
    unsent = h.unsent;
    streams = h.streams;
    rows = h.rows;
    joined = h.joined;
    drawn = h.drawn;
  }
    where
      below : n ≤ came
      below = row_below came n (s.clients n) client (h.unborn n) is

      none : (same : Bool) (o : Option Client) → o ≡ None → cond same (option_and_then (hands (length bytes)) o) o ≡ None
      none true o e = ap (option_and_then (hands (length bytes))) e
      none false o e = e

      at_client : (o : Option Client) (output out : List ℕ) → o ≡ Some client → ClientTie o output out
          → ClientTie (option_and_then (hands (length bytes)) o) output (out ++ bytes)
      at_client None output out e i = tt
      at_client (Some a) output out e i =
          let same : client ≡ a = same_client came plugged (Some a) client a e refl in
          tie_left a.about.phase (drop (length bytes) a.due) a output (out ++ bytes)
          (handed_off output out a.due bytes i (subst (λ (x : Client). IsPrefixOf bytes x.due) same front))

      here : (c : ℕ) (same : Bool) → eqb n c ≡ same
          → ClientTie (cond same (option_and_then (hands (length bytes)) (s.clients c)) (s.clients c))
          (owed_to c events) (cond same (put c ++ bytes) (put c))
      here c true e = at_client (s.clients c) (owed_to c events) (put c) (ap s.clients (sym (eqb-true n c e)) ∙ is) (h.clients c)
      here c false e = h.clients c

  tie_sends : (n : ℕ) (bytes : List ℕ) (link : Link) → s.links n ≡ Some link → IsPrefixOf bytes link.due
      → Tie came plugged (sends n (length bytes) s) events put (sent_with n bytes)
  unfolding sent_with
  tie_sends n bytes link is front = record {
    clients = h.clients;
    links = λ t. here t (eqb n t) refl;
    told = h.told;
    unborn = h.unborn;
    unplugged = λ t lt. none (eqb n t) (s.links t) (h.unplugged t lt);
    unput = h.unput;
    unsent = λ t lt. ap (λ (b : Bool). cond b (sent t ++ bytes) (sent t)) (ne_eqb n t (λ e. omega (arith, lt, e, below))) ∙ h.unsent t lt;
    streams = h.streams;
    rows = h.rows;
    joined = h.joined;
    drawn = h.drawn;
  }
    where
      below : n ≤ plugged
      below = row_below plugged n (s.links n) link (h.unplugged n) is

      none : (same : Bool) (o : Option Link) → o ≡ None → cond same (option_and_then (link_hands (length bytes)) o) o ≡ None
      none true o e = ap (option_and_then (link_hands (length bytes))) e
      none false o e = e

      at_link : (o : Option Link) (output out : List ℕ) → o ≡ Some link → LinkTie o output out
          → LinkTie (option_and_then (link_hands (length bytes)) o) output (out ++ bytes)
      at_link None output out e i = tt
      at_link (Some a) output out e i =
          let same : link ≡ a = let both : Some link ≡ Some a = sym e in cc in
          handed_off output out a.due bytes i (subst (λ (x : Link). IsPrefixOf bytes x.due) same front)

      here : (t : ℕ) (same : Bool) → eqb n t ≡ same
          → LinkTie (cond same (option_and_then (link_hands (length bytes)) (s.links t)) (s.links t)) (spelled_to t events)
          (cond same (sent t ++ bytes) (sent t))
      here t true e = at_link (s.links t) (spelled_to t events) (sent t) (ap s.links (sym (eqb-true n t e)) ∙ is) (h.links t)
      here t false e = h.links t

-- ---- a client is handed bytes
-- a row that is there, with this due
record HasDue (o : Option Client) (owed : List ℕ) : Type 0 where
  client : Client
  is : o ≡ Some client
  due : client.due ≡ owed

row_here : {X : Type 0} (n : ℕ) (f : X → Option X) (rows : ℕ → Option X)
    → change_row n (option_and_then f) rows n ≡ option_and_then f (rows n)
row_here n f rows = ap (λ (b : Bool). cond b (option_and_then f (rows n)) (rows n)) (eq-eqb n n refl)

-- what may be handed out to a client is due to it then
lists_row : (c : ℕ) (due : List ℕ) (client : Client) (s : State) → client.due ≡ due → s.clients c ≡ Some client
    → HasDue ((lists_first c due client s).state.clients c) (offered s.devices client)
lists_row c [] client s e is =
    let list = offered s.devices client in
    record {
      client = record client { about = record client.about { mark = false }; due = client.due ++ list };
      is = row_here c (with_due list) (to_client c unmarked s).clients
          ∙ ap (option_and_then (with_due list)) (row_here c unmarked s.clients ∙ ap (option_and_then unmarked) is);
      due = ap (λ x. x ++ list) e;
    }
lists_row c (b ∷ due) client s e is = record {
  client = client;
  is = is;
  due = e ∙ sym (ap (λ (x : List ℕ). offered s.devices (record client { due = x })) e);
}

module _ (came plugged : ℕ) (put sent : ℕ → List ℕ) where
  tie_takes : (c : ℕ) (bytes : List ℕ) (o : Option Client) (due : List ℕ) (s : State) (events : List Event) → s.clients c ≡ o → HasDue o due
      → IsPrefixOf bytes due → Tie came plugged s events put sent
      → Tie came plugged (takes_of c (length bytes) o s).state (events ++ (takes_of c (length bytes) o s).told)
      (λ k. cond (eqb c k) (put k ++ bytes) (put k)) sent
  unfolding put_with
  tie_takes c bytes None due s events is there front h = let clash : None ≡ Some there.client = there.is in cc
  tie_takes c bytes (Some client) due s events is there front h =
      let same : there.client ≡ client = let both : Some client ≡ Some there.client = there.is in cc in
      let fits : IsPrefixOf bytes client.due =
      subst (λ (x : Client). IsPrefixOf bytes x.due) same (subst (λ (x : List ℕ). IsPrefixOf bytes x) (sym there.due) front) in
      let handed = tie_hands came plugged put sent s events h c bytes client is fits in
      let next = to_client c (hands (length bytes)) s in
      let left = length (drop (length bytes) client.due) in
      tie_keeps came plugged (λ k. cond (eqb c k) (put k ++ bytes) (put k)) sent next events
      (client_left client.about.phase left next) handed
      (keeps_client_left came plugged client.about.phase left next handed.streams)

  tie_puts_to : (c : ℕ) (bytes : List ℕ) (o : Option Client) (s : State) (events : List Event) → s.clients c ≡ o → MayPut s o bytes
      → Tie came plugged s events put sent
      → Tie came plugged (puts_to o c (length bytes) s).state (events ++ (puts_to o c (length bytes) s).told)
      (λ k. cond (eqb c k) (put k ++ bytes) (put k)) sent
  tie_puts_to c bytes None s events is may h = absurd may
  tie_puts_to c bytes (Some client) s events is may h =
      let below = row_below came c (s.clients c) client (h.unborn c) is in
      let m = lists_first c client.due client s in
      let listed = tie_keeps came plugged put sent s events m h (keeps_lists_first came plugged c client.due client s below) in
      let m2 = takes_of c (length bytes) (m.state.clients c) m.state in
      subst (λ (x : List Event). Tie came plugged m2.state x (λ k. cond (eqb c k) (put k ++ bytes) (put k)) sent)
      (append_assoc events m.told m2.told)
      (tie_takes c bytes (m.state.clients c) (offered s.devices client) m.state (events ++ m.told) refl
      (lists_row c client.due client s refl is) may.front listed)

  tie_sends_to : (t : ℕ) (bytes : List ℕ) (o : Option Link) (s : State) (events : List Event) → s.links t ≡ o → MaySend o bytes
      → Tie came plugged s events put sent
      → Tie came plugged (sends t (length bytes) s) (events ++ []) put (λ k. cond (eqb t k) (sent k ++ bytes) (sent k))
  unfolding sent_with
  tie_sends_to t bytes None s events is may h = absurd may
  tie_sends_to t bytes (Some link) s events is may h =
      subst (λ (x : List Event). Tie came plugged (sends t (length bytes) s) x put
      (λ k. cond (eqb t k) (sent k ++ bytes) (sent k))) (sym (append-nil events))
      (tie_sends came plugged put sent s events h t bytes link is may.front)

-- ---- all histories
-- the state that a history leaves is tied to what it told and handed out
abbrev pub IsTied : History → Type 0
IsTied h = Tie (came_count h) (plugged_count h) (state h) (told h) (λ c. bytes_put c h) (λ t. bytes_sent t h)

-- after the rule of an entry
abbrev pub IsTiedAfter : Entry → History → Type 0
IsTiedAfter e older =
    Tie (came_count (e ∷ older)) (plugged_count (e ∷ older)) (rule e (state older)).state (told older ++ (rule e (state older)).told)
    (λ c. bytes_put c (e ∷ older)) (λ t. bytes_sent t (e ∷ older))

module _ (older : History) (t : IsTied older) where
  abbrev put_before : ℕ → List ℕ
  put_before c = bytes_put c older

  abbrev sent_before : ℕ → List ℕ
  sent_before t = bytes_sent t older

  tied_inner : (e : Entry) → May (state older) e → IsInner e
      → Tie (came_count older) (plugged_count older) (rule e (state older)).state
      (told older ++ (rule e (state older)).told) put_before sent_before
  tied_inner e may inner = tie_inner (came_count older) (plugged_count older) put_before sent_before e (state older)
      (told older) may t inner

  pub tied_rule : (e : Entry) → May (state older) e → IsTiedAfter e older
  tied_rule (Join c) may =
      subst (λ (x : List Event). Tie (came_count older + 1) (plugged_count older) (comes false c (state older)) x put_before sent_before)
      (sym (append-nil (told older)))
      (tie_comes (came_count older) (plugged_count older) put_before sent_before (state older) (told older) t
      false c may.1)
  tied_rule (Enter c port) may =
      tie_enters (came_count older) (plugged_count older) put_before sent_before (state older) (told older) t c port may.1
  tied_rule (Attach n kind serial) may =
      tie_plugs_in (came_count older) (plugged_count older) put_before sent_before (state older) (told older) t n kind serial may.1
  tied_rule (Put c bytes) may =
      tie_puts_to (came_count older) (plugged_count older) put_before sent_before c bytes ((state older).clients c)
      (state older) (told older) refl may t
  tied_rule (Send n bytes) may =
      tie_sends_to (came_count older) (plugged_count older) put_before sent_before n bytes ((state older).links n)
      (state older) (told older) refl may t
  tied_rule e may = tied_inner e may tt

none_rise : IsRising (let rows : List (ℕ × Row) = [] in rows)
unfolding IsStrictlySortedBy
none_rise = tt

tied_start : IsTied []
tied_start = record {
  clients = λ c. tt;
  links = λ t. tt;
  told = record { clients = λ c lt. refl; links = λ t lt. refl };
  unborn = λ c lt. refl;
  unplugged = λ t lt. refl;
  unput = λ c lt. refl;
  unsent = λ t lt. refl;
  streams = λ l. tt;
  rows = record { rises = none_rise; above = λ t lt. refl };
  joined = refl;
  drawn = refl;
}

-- Every legal history's state is tied to its entries.
pub tied : (h : History) → IsLegal h → IsTied h
tied [] l = tied_start
tied (e ∷ older) l =
    tie_step (came_count (e ∷ older)) (plugged_count (e ∷ older)) (λ c. bytes_put c (e ∷ older))
    (λ t. bytes_sent t (e ∷ older)) (state older) (told older) e
    (tied_rule older (tied older l.0) e l.2)

pub all_due_past_put : (h : History) → IsLegal h → DueIsPastPut h
all_due_past_put h l c client is = subst (λ (o : Option Client). ClientTie o (output_of c h) (bytes_put c h)) is ((tied h l).clients c)

pub all_due_past_sent : (h : History) → IsLegal h → DueIsPastSent h
all_due_past_sent h l t link is = subst (λ (o : Option Link). LinkTie o (spelled_to t (told h)) (bytes_sent t h)) is ((tied h l).links t)
