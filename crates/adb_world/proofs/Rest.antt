-- Where no step is possible, nothing is left to be moved.
use Rattle.std.specs.Prelude.{ℕ, ◌^◌, ◌≡◌, ◌≢◌, ◌≤◌, ◌<◌, Bool, true, false, not, cond, is_some, zero, suc}
use Rattle.std.specs.Prelude.{List, [], ◌∷◌, ◌++◌, length, map, drop, Option, Some, None, option_map}
use Rattle.std.specs.Ordering.{nat_cmp, is_eq}
use Rattle.std.proofs.Common.{refl, sym, ◌∙◌, ap, subst, arith, ◌⊎◌, inl, inr}
use Rattle.std.proofs.lemmas.Bool.{cases_lt}
use Rattle.std.proofs.lemmas.List.{append-nil}
use Rattle.std.proofs.Math.Seq.{drop-append_seam}
use Rattle.adb_outside.specs.Tables.{at}
use Rattle.adb_wire.specs.Cutting.{framed}
use Rattle.adb_registry.specs.Registry.{DeviceTable}
use Rattle.adb_client.specs.declared.phase.Phase.TheVariants.{Asking}
use Rattle.adb_stream.specs.Flow.{is_idle, has_credit}
use Rattle.adb_stream.specs.declared.flow.Flow.{Flow}
use Rattle.adb_stream.specs.declared.flow.Flow.TheVariants.{One, Credit}
use Rattle.adb_stream.specs.declared.row.Stream.{Stream}
use Rattle.adb_history.specs.Book.{plugged_count}
use Rattle.adb_history.specs.Births.{Birth, remote_of, remote_in}
use Rattle.adb_history.specs.Bytes.{bytes_received, bytes_sent, brought, sent}
use Rattle.adb_history.specs.Events.{spelled_to}
use Rattle.adb_history.specs.Kept.{kept}
use Rattle.adb_history.specs.Lives.{packets_of}
use Rattle.adb_history.specs.Machine.{History, state, told, IsLegal}
use Rattle.adb_history.specs.Orderly.{IsDrawnOnly}
use Rattle.adb_history.specs.Rows.{Client, Link, State}
use Rattle.adb_history.specs.Tracking.{offered}
use Rattle.adb_history.proofs.Books.{all_books, all_unread}
use Rattle.adb_history.proofs.Numbers.{counted}
use Rattle.adb_history.proofs.OrderlyStates.{orderly}
use Rattle.adb_history.proofs.OutputEntries.{all_due_past_sent}
use Rattle.adb_laws_births.specs.Born.{IsBornAs, all_brought}
use Rattle.adb_laws_births.proofs.Born.{all_born}
use Rattle.adb_laws_births.proofs.Laws.{sends_first}
use Rattle.adb_laws_causes.specs.Flows.{waiting}
use Rattle.adb_device_streams.specs.Service.{out_of}
use Rattle.adb_device_streams.specs.Stream.{Row, unsent, StandsFor}
use Rattle.adb_device_streams.specs.declared.stream.Stream.{Stream as DeviceStream}
use Rattle.adb_daemon.specs.Daemon.{owed}
use Rattle.adb_daemon.specs.Held.{StandsAt}
use Rattle.adb_laws_model_device.specs.Paired.{IsStill}
use Rattle.adb_laws_model_device.specs.Owed.{packets_owed, bytes_owed}
use Rattle.adb_laws_model_device.proofs.Bytes.{framed_owed}
use Rattle.adb_laws_model_device.proofs.Joined.{sent_words}
use Rattle.adb_laws_worlds.specs.Credit.{HasOneDevice, LiveOnFirst}
use Rattle.adb_laws_worlds.specs.Held.{HasSettled, AllHaveSettled, HoldsNothing}
use Rattle.adb_laws_worlds.specs.Opening.{AllAreOpen}
use Rattle.adb_laws_worlds.specs.Unbroken.{BringsSound}
use Rattle.adb_laws_model_device.specs.InTime.{AllPlain}
use Rattle.adb_laws_model_device.specs.Joined.{IsJoined}
use Rattle.adb_daemon.specs.Device.{Setting}
use Rattle.adb_laws_worlds.specs.Settled as worlds
use Rattle.adb_laws_worlds.specs.Unclosed.{IsUnclosed, HeardNoClose}
use Rattle.adb_hub.specs.Answers.{due_on, offered_to}
use Rattle.adb_laws_answers.specs.Model.{model_devices, model_setting}
use Rattle.adb_laws_answers.specs.Sessions.{AsksForServices}
use Rattle.adb_world.specs.Calls.{HasNone}
use Rattle.adb_world.specs.Parts.{Holds, IsGreeted, IsKeptAt, IsOver}
use Rattle.adb_world.specs.Session.{left_of}
use Rattle.adb_world.specs.Settled.{Each, IsAtRest, IsCalm, Rests}
use Rattle.adb_world.specs.World.{end_of, ends_of}
use Rattle.adb_world.specs.declared.parts.Parts.{Parts}
use Rattle.adb_world.specs.declared.session.Session.{Session}
use Rattle.adb_world.proofs.Greeted.{known_devices}
use Rattle.adb_world.proofs.Entries.{all_owed}
use Rattle.adb_world.proofs.Shows.{links_show, clients_show, streams_show}
use Rattle.adb_world.proofs.Counted.{AsksAsWritten, IsThere, one_when, session_done, there}

-- ---- small things
idle_flow : (flow : Flow) → has_credit flow ≡ false → waiting flow ≡ 0 → is_idle flow ≡ true
idle_flow (One window) plain none = go window.outstanding refl none
  where
    go : (b : Bool) → window.outstanding ≡ b → one_when b ≡ 0 → not window.outstanding ≡ true
    go true is e = absurd (omega (arith, e))
    go false is e = ap not is
idle_flow (Credit credit) plain none = refl

-- what is offered to a client is what is due to it, where anything is
none_due : (table : DeviceTable) (client : Client) → offered table client ≡ [] → client.due ≡ []
none_due table client none = go client.due refl
  where
    go : (due : List ℕ) → client.due ≡ due → client.due ≡ []
    go [] is = is
    go (b ∷ due) is =
        let some : offered table client ≡ b ∷ due = ap (λ (d : List ℕ). offered table (record client { due = d })) is in
        let clash : b ∷ due ≡ [] = sym some ∙ none in cc

-- a table of what rows show has what its row shows
at_map : {A B : Type 0} (f : A → B) (n : ℕ) (table : List (ℕ × A))
    → at n (map (λ (e : ℕ × A). (e.0, f e.1)) table) ≡ option_map f (at n table)
at_map f n [] = refl
at_map {A} {B} f n (e ∷ table) = go (is_eq (nat_cmp n e.0)) (at_map f n table)
  where
    go : (b : Bool) → at n (map (λ (x : ℕ × A). (x.0, f x.1)) table) ≡ option_map f (at n table)
        → cond b (Some (f e.1)) (at n (map (λ (x : ℕ × A). (x.0, f x.1)) table)) ≡ option_map f (cond b (Some e.1) (at n table))
    go true later = refl
    go false later = later

none_out : (row : Row) (far : DeviceStream) → StandsFor row far → unsent row ≡ [] → out_of far.service ≡ []
none_out row far stands none =
    sym (drop-append_seam row.sent (out_of far.service))
    ∙ (ap (drop (length row.sent)) stands.answers.given_out ∙ none)

-- the model device is there
model_there : is_some (at 1 model_devices.rows) ≡ true
unfolding model_devices
model_there = refl

-- what holds of a server and its model device
pub record Laws : Type 0 where
  pub settled : (setting : Setting) (history : History) → setting.most < 2 ^ 32 → 0 < setting.most
      → setting.credit ≡ false → IsLegal history
      → IsJoined setting history → HasOneDevice history → AllHaveSettled setting history
  pub nothing : (setting : Setting) (history : History) → setting.most < 2 ^ 32 → 0 < setting.most
      → setting.credit ≡ false → IsLegal history
      → IsJoined setting history → HasOneDevice history → HoldsNothing setting history
  pub opens : (setting : Setting) (history : History) → setting.most < 2 ^ 32 → IsLegal history
      → IsJoined setting history → AllAreOpen setting history
  pub plain : (setting : Setting) (history : History) → setting.most < 2 ^ 32 → setting.credit ≡ false
      → IsLegal history → IsJoined setting history
      → HasOneDevice history → AllPlain history
  pub first : (history : History) → IsLegal history → HasOneDevice history → LiveOnFirst history
  pub sound : (setting : Setting) (history : History) → setting.most < 2 ^ 32 → IsLegal history
      → IsJoined setting history → BringsSound history
  pub unclosed : (history : History) → IsLegal history → HeardNoClose history

module _ (laws : Laws) (h : History) (parts : Parts) (holds : Holds h parts) (greeted : IsGreeted h)
    (asks : AsksForServices h) (rests : Rests parts)
    (written : AsksAsWritten) where
  legal : IsLegal h
  legal = holds.lawful.legal

  s : State
  s = state h

  seen : parts.hub ≡ kept (state h)
  seen = holds.lawful.seen

  short : model_setting.most < 2 ^ 32
  short = omega arith

  some_payload : 0 < model_setting.most
  some_payload = omega arith

  -- ---- what the hub knows
  known : (state h).devices ≡ model_devices
  known =
      (all_books h legal).devices
      ∙ known_devices h (laws.sound model_setting h short legal holds.joined) holds.here holds.plugged_as greeted holds.one asks.killed

  -- ---- the sessions of the clients
  drawn_client : (c : ℕ) (client : Client) → (state h).clients c ≡ Some client → (0 < c) × (c ≤ parts.given)
  drawn_client c client is = go c (orderly h legal).clients is
    where
      go : (n : ℕ) → IsDrawnOnly (state h).joined (state h).clients → (state h).clients n ≡ Some client → (0 < n) × (n ≤ parts.given)
      go zero only e = absurd (let clash : None ≡ Some client = sym only.zero ∙ e in cc)
      go (suc n) only e = (omega arith, by (cases_lt (state h).joined (suc n)))
        where
          by : ((state h).joined < suc n) ⊎ (suc n ≤ (state h).joined) → suc n ≤ parts.given
          by (inl past) = absurd (let clash : None ≡ Some client = sym (only.above (suc n) past) ∙ e in cc)
          by (inr le) = let counts = (counted h).joined in let given = holds.came in omega (arith, le, counts, given)

  words : Each parts.sessions.entries (λ (session : Session). left_of session ≡ [])
  words c session is = rests.written c session named is
    where
      named : 0 < c
      named = (subst (IsKeptAt parts.given h c) is (holds.sessions c)).0.0

  -- ---- nothing is due
  client_due : (c : ℕ) (client : Client) → (state h).clients c ≡ Some client → client.due ≡ []
  client_due c client is = go (there h parts holds c drawn.0 drawn.1)
    where
      drawn : (0 < c) × (c ≤ parts.given)
      drawn = drawn_client c client is

      go : IsThere h parts c ⊎ IsOver parts.given h c → client.due ≡ []
      go (inr over) = absurd (let clash : None ≡ Some client = sym over.gone ∙ is in cc)
      go (inl t) =
          none_due (state h).devices client
          (subst (λ (o : Option Client). HasNone (offered_to (state h).devices o)) is (rests.handed h holds c t.session drawn.0 t.is))

  link_due : (link : Link) → (state h).links 1 ≡ Some link → link.due ≡ []
  link_due link is = subst (λ (o : Option Link). HasNone (due_on o)) is (rests.down h holds)

  link_there : (link : Link) × ((state h).links 1 ≡ Some link)
  link_there = go ((state h).links 1) refl
    where
      plugged : is_some ((state h).links 1) ≡ true
      plugged = (orderly h legal).linked 1 ∙ (ap (λ (table : DeviceTable). is_some (at 1 table.rows)) known ∙ model_there)

      go : (o : Option Link) → (state h).links 1 ≡ o → (link : Link) × ((state h).links 1 ≡ Some link)
      go None is = absurd (let clash : false ≡ true = sym (ap is_some is) ∙ plugged in cc)
      go (Some link) is = (link, is)

  -- ---- nothing is on its way
  still : IsStill (packets_owed model_setting) h
  still = record { sent_all = sent_all; brought_all = brought_all }
    where
      bytes : spelled_to 1 (told h) ≡ bytes_sent 1 h
      bytes =
          all_due_past_sent h legal 1 link_there.0 link_there.1
          ∙ (ap (λ (due : List ℕ). bytes_sent 1 h ++ due) (link_due link_there.0 link_there.1) ∙ append-nil (bytes_sent 1 h))

      sent_all : sent 1 h ≡ packets_of 1 h
      sent_all = ap (λ (x : List ℕ). (framed x).given) (sym bytes) ∙ (sends_first h legal 1).packets

      received : bytes_received 1 h ≡ bytes_owed model_setting (bytes_sent 1 h)
      received =
          sym (append-nil (bytes_received 1 h))
          ∙ (ap (λ (due : List ℕ). bytes_received 1 h ++ due) (sym rests.up)
          ∙ all_owed (bytes_sent 1 h) (bytes_received 1 h) parts.device holds.done)

      brought_all : brought 1 h ≡ packets_owed model_setting (sent 1 h)
      brought_all =
          ap (λ (x : List ℕ). (framed x).given) received ∙ framed_owed model_setting short (sent 1 h) (sent_words h legal)

  pub at_rest : worlds.IsAtRest model_setting h
  at_rest = record { still = still; clients = client_due }

  pub one_device : plugged_count h ≤ 1
  one_device = let one = holds.one in omega (arith, one)

  -- ---- the clients
  client_held : (c : ℕ) (client : Client) → (state h).clients c ≡ Some client → client.held ≡ []
  client_held c client is = laws.nothing model_setting h short some_payload refl legal holds.joined one_device at_rest
      c client is asks_no_more
    where
      asks_no_more : client.about.phase ≡ Asking → ⊥
      asks_no_more phase =
          let drawn = drawn_client c client is in
          let none = (all_unread h legal c client is phase).asks in
          let clash : false ≡ true = sym (ap is_some none) ∙ session_done h parts holds asks words written c drawn.0 drawn.1 in cc

  -- ---- the streams
  stream_rests : (l : ℕ) (x : Stream) → (state h).streams l ≡ Some x → IsAtRest (ends_of parts.device) x
  stream_rests l x live = record {
    opened = open_id;
    answered = idle_flow x.part.flow plain k.settled.waits;
    handed = k.settled.handed;
    far = end_of far.0;
    there =
        at_map end_of x.part.remote parts.device.machine.services.table.rows.entries
        ∙ ap (option_map end_of) (ap (λ (n : ℕ). at n parts.device.machine.services.table.rows.entries) (sym remote) ∙ far.1.0);
    host = far.1.1.host ∙ (k.settled.there.host ∙ sym number);
    spoken = ap is_idle far.1.1.flow ∙ k.settled.idle;
    written = none_out k.settled.there.row far.0 far.1.1 k.settled.written;
  }
    where
      k : HasSettled model_setting h l x
      k = laws.settled model_setting h short some_payload refl legal holds.joined one_device at_rest l x live

      kept_as : IsBornAs h (all_brought h) l x
      kept_as = (all_born h legal).kept l x live

      number : x.id ≡ l
      number = ((orderly h legal).stream l x live).id

      on_first : k.birth.link ≡ 1
      on_first =
          let same : kept_as.birth ≡ k.birth = (let e : Some kept_as.birth ≡ Some k.birth = sym kept_as.is ∙ k.is in cc) in
          ap (λ (b : Birth). b.link) (sym same) ∙ (sym kept_as.link ∙ laws.first h legal one_device l x live)

      open_id : x.part.remote ≢ 0
      open_id = laws.opens model_setting h short legal holds.joined still l k.birth x k.is on_first live

      unclosed : IsUnclosed h l k.birth x
      unclosed = laws.unclosed h legal l k.birth x k.is live open_id

      remote : remote_of l k.birth h ≡ x.part.remote
      remote = ap remote_in unclosed.opened ∙ unclosed.remote

      plain : has_credit x.part.flow ≡ false
      plain = kept_as.credit ∙ laws.plain model_setting h short refl legal holds.joined one_device l kept_as.birth kept_as.is

      far : (end : DeviceStream)
          × ((at (remote_of l k.birth h) parts.device.machine.services.table.rows.entries ≡ Some end) × StandsFor k.settled.there.row end)
      far = go (at (remote_of l k.birth h) parts.device.machine.services.table.rows.entries) refl
          (subst (λ (o : Option Row). StandsAt o
          (at (remote_of l k.birth h) parts.device.machine.services.table.rows.entries)) k.settled.there.is
          (holds.done.stands.holds.table.stands (remote_of l k.birth h)))
        where
          go : (o : Option DeviceStream) → at (remote_of l k.birth h) parts.device.machine.services.table.rows.entries ≡ o
              → StandsAt (Some k.settled.there.row) o
              → (end : DeviceStream)
              × ((at (remote_of l k.birth h) parts.device.machine.services.table.rows.entries ≡ Some end)
              × StandsFor k.settled.there.row end)
          go None is stands = absurd stands
          go (Some end) is stands = (end, (is, stands))

  -- ---- the only link
  first_link : (t : ℕ) (link : Link) → (state h).links t ≡ Some link → t ≡ 1
  first_link t link is = go t (orderly h legal).links is
    where
      go : (n : ℕ) → IsDrawnOnly (state h).devices.drawn (state h).links → (state h).links n ≡ Some link → n ≡ 1
      go zero only e = absurd (let clash : None ≡ Some link = sym only.zero ∙ e in cc)
      go (suc n) only e = by (cases_lt (state h).devices.drawn (suc n))
        where
          by : ((state h).devices.drawn < suc n) ⊎ (suc n ≤ (state h).devices.drawn) → suc n ≡ 1
          by (inl past) = absurd (let clash : None ≡ Some link = sym (only.above (suc n) past) ∙ e in cc)
          by (inr le) = let counts = (counted h).plugged in let one = holds.one in omega (arith, le, counts, one)

  pub is_calm : IsCalm parts.hub (owed parts.device) (ends_of parts.device)
  is_calm = record {
    link = λ t link is. (
        let e = sym (links_show h parts.hub holds.lawful t) ∙ is in
        link_due link (ap (state h).links (sym (first_link t link e)) ∙ e));
    clients = λ c client is. client_due c client (sym (clients_show h parts.hub holds.lawful c) ∙ is);
    device = rests.up;
    up = λ c client is. client_held c client (sym (clients_show h parts.hub holds.lawful c) ∙ is);
    streams = λ l x is. stream_rests l x (sym (streams_show h parts.hub holds.lawful l) ∙ is);
  }

  pub all_written : Each parts.sessions.entries (λ (session : Session). left_of session ≡ [])
  all_written = words
