-- Bytes that are read from a client that asks: what the server makes of them is what the entries say.
use Rattle.std.proofs.Common.{ℕ, ◌+◌, ◌≡◌, ◌≤◌, Bool, true, false, cond, List, [], ◌++◌, Option, Some, None, is_some, refl, sym, ◌∙◌, ap}
use Rattle.std.proofs.Common.{subst, arith, eqb}
use Rattle.std.proofs.lemmas.Bool.{eqb-true}
use Rattle.std.proofs.lemmas.List.{append-nil}
use Rattle.std.proofs.lemmas.List.Elements.{All-nil}
use Rattle.std.specs.Prelude.{◌&&◌, is_none, option_and_then}
use Rattle.adb_outside.specs.Tables.{at}
use Rattle.adb_outside.proofs.TableLaws.{All-put_at, All-without}
use Rattle.adb_registry.specs.Registry.{DeviceTable}
use Rattle.adb_registry.specs.declared.row.Row.{Row}
use Rattle.adb_forward.specs.Forwards.{forward_row}
use Rattle.adb_forward.specs.declared.row.ForwardRow.{ForwardRow}
use Rattle.adb_client.specs.declared.phase.Phase.{Phase}
use Rattle.adb_client.specs.declared.phase.Phase.TheVariants.{Asking, Binding}
use Rattle.adb_client.specs.declared.about.Want.{Want}
use Rattle.adb_reply.specs.declared.answer.Next.{Next}
use Rattle.adb_reply.specs.declared.answer.Next.TheVariants as what
use Rattle.adb_history.specs.Rows.{Client, State, to_client, with_due}
use Rattle.adb_history.specs.Events.{quietly}
use Rattle.adb_history.specs.Clients.{owe_client, closing, closes}
use Rattle.adb_history.specs.Forwarding.{forwards_with, put_forward}
use Rattle.adb_history.specs.Asking.{Asked, asks_with}
use Rattle.adb_history.specs.Losing.{only_client, stops}
use Rattle.adb_history.specs.Reading.{awaits, goes_on, asked_before, has_asked, asks}
use Rattle.adb_history.specs.Book.{still_asks, newly, forwards_by, kills, wanted_by}
use Rattle.adb_history.proofs.GrowingRules.{keeps_opens}
use Rattle.adb_history.proofs.AnswersWithin.{NextWithin}
use Rattle.adb_history.proofs.Asked.{behind, Unused, EndsReading, asks_behind, asks_unused, asks_ends}
use Rattle.adb_history.proofs.Waiting.{NoneWaits}
use Rattle.adb_history.proofs.OwnEntries.{Owns, owns_then, own_row, none_of, owns_to_client, owns_owe_client, owns_goes_on, LeftRow}
use Rattle.adb_history.proofs.OwnEntries.{closed_row}
use Rattle.adb_history.proofs.ForwardTurns.{AreLed}
use Rattle.adb_history.proofs.Booked.{Said, asks_now, wants_now, SameAsked, IsAs, idle_is}

-- ---- forwards
led_with : (devices : DeviceTable) (local transport : ℕ) (remote : List ℕ) (o : Option Row) (forwards : List (ℕ × ForwardRow))
    → at transport devices.rows ≡ o → AreLed devices forwards → AreLed devices (forwards_with local transport remote o forwards)
led_with devices local transport remote None forwards is led = led
led_with devices local transport remote (Some row) forwards is led =
    All-put_at (λ (entry : ℕ × ForwardRow). is_some (at entry.1.transport devices.rows) ≡ true) forwards local
    (forward_row local transport row.serial remote) (ap is_some is) led

pub led_put : (devices : DeviceTable) (local transport : ℕ) (remote : List ℕ) (forwards : List (ℕ × ForwardRow))
    → AreLed devices forwards → AreLed devices (put_forward local transport remote devices forwards)
led_put devices local transport remote forwards led = led_with devices local transport remote (at transport devices.rows) forwards refl led

pub led_next : (next : Option Next) (devices : DeviceTable) (forwards : List (ℕ × ForwardRow)) → AreLed devices forwards
    → AreLed devices (forwards_by next devices forwards)
led_next (Some (what.Rebind transport local remote)) devices forwards led = led_put devices local transport remote forwards led
led_next (Some (what.Unbind local)) devices forwards led =
    All-without (λ (entry : ℕ × ForwardRow). is_some (at entry.1.transport devices.rows) ≡ true) local forwards led
led_next (Some what.UnbindAll) devices forwards led = All-nil
    (λ (entry : ℕ × ForwardRow). is_some (at entry.1.transport devices.rows) ≡ true)
led_next (Some what.Stop) devices forwards led = All-nil (λ (entry : ℕ × ForwardRow). is_some (at entry.1.transport devices.rows) ≡ true)
led_next _ devices forwards led = led

pub goes_on_forwards : (came plugged c : ℕ) (next : Option Next) (s : State) → c ≤ came → NextWithin plugged next
    → (goes_on next c s).state.forwards ≡ forwards_by next s.devices s.forwards
goes_on_forwards came plugged c (Some (what.Open transport service)) s le within =
    (keeps_opens came plugged false c transport service s le within).forwards
goes_on_forwards came plugged c _ s le within = refl

-- ---- what comes next
pub none_next : (next : Option Next) → is_none next ≡ true → next ≡ None
none_next None e = refl
none_next (Some next) e = let clash : false ≡ true = e in cc

pub newly_same : (next : Option Next) → newly next next ≡ None
newly_same None = refl
newly_same (Some next) = refl

pub and_false : (a b : Bool) → (a && b && false) ≡ false
and_false true true = refl
and_false true false = refl
and_false false b = refl

pub and_parts : (a b c : Bool) → (a && b && c) ≡ true → (a ≡ true) × (b ≡ true) × (c ≡ true)
and_parts true true true e = (refl, refl, refl)
and_parts _ _ _ e = let clash : false ≡ true = e in cc

-- ---- a client that asks reads
module _ (c : ℕ) (bytes : List ℕ) (client : Client) (s : State) (before : Asked) (is : s.clients c ≡ Some client)
    (asking : client.about.phase ≡ Asking)
    (rest : client.held ≡ before.rest) (selected : client.about.selected ≡ before.selected) (open_next : before.next ≡ None) where
  -- what it asks with these bytes
  abbrev pub now_asked : Asked
  now_asked = asks_with s.devices s.forwards bytes (asked_before client)

  -- what it asked before, and with these bytes, is what it asked before and then with these bytes
  pub asked_all : asks_with s.devices s.forwards bytes before ≡ behind before now_asked
  asked_all =
      let same : before ≡ behind before (asked_before client) =
      let replies : before.replies ≡ before.replies ++ [] = sym (append-nil before.replies) in
      let used : before.used ≡ before.used + 0 = omega arith in
      λ i. record { replies = replies i; used = used i; rest = sym rest i; selected = sym selected i; next = open_next i } in
      ap (asks_with s.devices s.forwards bytes) same ∙ asks_behind s.devices s.forwards before bytes (asked_before client)

  -- its row, and the state, when the replies are due
  abbrev pub replied_state : State
  replied_state = (owe_client c now_asked.replies (to_client c (has_asked now_asked) s)).state

  abbrev pub replied_row : Client
  replied_row = record client {
    about = record client.about { selected = now_asked.selected };
    held = now_asked.rest;
    due = client.due ++ now_asked.replies;
  }

  pub replied_is : replied_state.clients c ≡ Some replied_row
  replied_is =
      own_row c (with_due now_asked.replies) (to_client c (has_asked now_asked) s).clients
      ∙ ap (option_and_then (with_due now_asked.replies))
      (own_row c (has_asked now_asked) s.clients ∙ ap (option_and_then (has_asked now_asked)) is)

  owns_replied : Owns c s (owe_client c now_asked.replies (to_client c (has_asked now_asked) s))
  owns_replied = owns_then c s (quietly (to_client c (has_asked now_asked) s)) (λ x. owe_client c now_asked.replies x)
      (owns_to_client c (has_asked now_asked) s
      (λ none a e. none_of c (has_asked now_asked a)
      (record a { about = record a.about { selected = now_asked.selected }; held = now_asked.rest }) refl
      (none a e)))
      (owns_owe_client c now_asked.replies (to_client c (has_asked now_asked) s))

  ends : EndsReading now_asked.next
  ends = asks_ends s.devices s.forwards bytes (asked_before client) tt

  went_on : kills now_asked.next ≡ false
      → Owns c replied_state (goes_on now_asked.next c replied_state)
      × LeftRow c now_asked.next replied_row ((goes_on now_asked.next c replied_state).state.clients c)
  went_on on = owns_goes_on c now_asked.next replied_row replied_state replied_is asking ends on

  pub owns_asks : kills now_asked.next ≡ false → Owns c s (asks now_asked c s)
  owns_asks on = owns_then c s (owe_client c now_asked.replies (to_client c (has_asked now_asked) s))
      (goes_on now_asked.next c) owns_replied (went_on on).0

  -- what the entries say of it then
  is_left : (next : Option Next) (r : Said) (o : Option Client) → kills next ≡ false → EndsReading next
      → r.asking ≡ still_asks r.asked → r.asked.next ≡ next
      → (next ≡ None → SameAsked r replied_row) → r.waits ≡ wanted_by next None → LeftRow c next replied_row o → IsAs o r
  is_left None r o on end asks next same waits left = record {
    asks = ap asks_now left
        ∙ (ap (λ (p : Phase). asks_now (Some (record replied_row { about = record replied_row.about { phase = p } })))
        asking
        ∙ sym (asks ∙ ap is_none next));
    waits = ap wants_now left ∙ (ap (λ (p : Phase). wants_now
        (Some (record replied_row { about = record replied_row.about { phase = p } }))) asking ∙ sym waits);
    same = λ a e f.
        let row : replied_row ≡ a = let both : Some replied_row ≡ Some a = sym left ∙ e in cc in
        subst (λ (x : Client). SameAsked r x) row (same refl);
  }
  is_left (Some (what.Bind transport local remote chosen)) r o on end asks next same waits left = record {
    asks = ap asks_now left ∙ sym (asks ∙ ap is_none next);
    waits = ap wants_now left ∙ sym waits;
    same = λ a e f.
        let want : Want = record { transport = transport; local = local; remote = remote } in
        let row : record replied_row { about = record replied_row.about { phase = Binding; want = Some want }; held = [] } ≡ a =
        let both : awaits want replied_row ≡ Some a = sym left ∙ e in cc in
        let clash : Binding ≡ Asking = ap (λ (x : Client). x.about.phase) row ∙ f in cc;
  }
  is_left (Some what.Close) r o on end asks next same waits left = idle_is o r left (asks ∙ ap is_none next) waits
  is_left (Some (what.Select id)) r o on end asks next same waits left = absurd end
  is_left (Some (what.Track long)) r o on end asks next same waits left = idle_is o r left (asks ∙ ap is_none next) waits
  is_left (Some (what.Open transport service)) r o on end asks next same waits left = idle_is o r left (asks ∙ ap is_none next) waits
  is_left (Some (what.Rebind transport local remote)) r o on end asks next same waits left = idle_is o r left (asks ∙ ap is_none next) waits
  is_left (Some (what.Unbind local)) r o on end asks next same waits left = idle_is o r left (asks ∙ ap is_none next) waits
  is_left (Some what.UnbindAll) r o on end asks next same waits left = idle_is o r left (asks ∙ ap is_none next) waits
  is_left (Some what.Stop) r o on end asks next same waits left = let clash : true ≡ false = on in cc

  pub asks_is : (r : Said) (input : List ℕ) → kills now_asked.next ≡ false → Unused input before → r.asking ≡ still_asks r.asked
      → r.asked ≡ asks_with s.devices s.forwards bytes before → r.input ≡ input ++ bytes → r.waits ≡ wanted_by now_asked.next None
      → IsAs ((asks now_asked c s).state.clients c) r
  asks_is r input on unused still asked inputs waits =
      let all : r.asked ≡ behind before now_asked = asked ∙ asked_all in
      is_left now_asked.next r ((asks now_asked c s).state.clients c) on ends still (ap (λ (q : Asked). q.next) all)
      (λ e. record {
        rest = sym (ap (λ (q : Asked). q.rest) all);
        selected = sym (ap (λ (q : Asked). q.selected) all);
        unused = subst (λ (q : Asked). Unused r.input q) (sym asked)
            (subst (λ (x : List ℕ). Unused x (asks_with s.devices s.forwards bytes before)) (sym inputs)
            (asks_unused s.devices s.forwards input bytes before unused));
      }) waits (went_on on).1

  -- ---- a kill
  pub stopped_idle : (k : ℕ) → NoneWaits ((stops c replied_state).state.clients k)
  stopped_idle k = go (eqb c k) refl
    where
      rows : ℕ → Option Client
      rows = only_client c replied_state.clients

      left : State
      left = record replied_state {
        clients = rows;
        links = λ _. None;
        streams = λ _. None;
        devices = record replied_state.devices { rows = [] };
        forwards = [];
        stopped = true;
      }

      go : (here : Bool) → eqb c k ≡ here → NoneWaits ((closes c left).clients k)
      go true e = subst (λ (n : ℕ). NoneWaits ((closes c left).clients n)) (eqb-true c k e) (closed_row c left)
      go false e = subst NoneWaits (sym (gone e)) (λ a f. let clash : None ≡ Some a = f in cc)
        where
          gone : eqb c k ≡ false → (closes c left).clients k ≡ None
          gone e = ap (λ (b : Bool). cond b (option_and_then closing (rows k)) (rows k)) e
              ∙ ap (λ (b : Bool). cond b (replied_state.clients k) None) e
