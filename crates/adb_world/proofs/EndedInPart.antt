-- A session ends, and a step fails before all has settled: no file of the device changes.
use Rattle.std.specs.Prelude.{ℕ, ◌≡◌, ◌≢◌, ◌≤◌, ◌<◌, false, suc, true, zero, List, [], ◌∷◌, ◌++◌, length, Option, Some, None}
use Rattle.std.proofs.Common.{sym, ◌∙◌, ap, subst, arith, ◌⊎◌, inl, inr, append_assoc}
use Rattle.std.proofs.lemmas.Bool.{cases_lt}
use Rattle.std.proofs.lemmas.List.{length-append}
use Rattle.adb_outside.specs.Tables.{at}
use Rattle.adb_outside.specs.declared.kinds.Cause.TheVariants.{Eof}
use Rattle.adb_capture.specs.declared.entry.Entry.TheVariants.{End, Send}
use Rattle.adb_wire.specs.declared.packets.Packet.{Packet}
use Rattle.adb_files.specs.Entries.{Entry as File}
use Rattle.adb_history.specs.Book.{asked}
use Rattle.adb_history.specs.Births.{births, births_at}
use Rattle.adb_history.specs.Bytes.{bytes_read, sent}
use Rattle.adb_history.specs.Fifo.{CarriesRest}
use Rattle.adb_history.specs.Kept.{Kept}
use Rattle.adb_history.specs.Machine.{History, IsLegal, state}
use Rattle.adb_history.specs.Orderly.{IsDrawnOnly}
use Rattle.adb_history.specs.Rows.{Client}
use Rattle.adb_history.specs.Tied.{came_count}
use Rattle.adb_history.proofs.Books.{all_books}
use Rattle.adb_history.proofs.Numbers.{counted}
use Rattle.adb_history.proofs.OrderlyStates.{orderly}
use Rattle.adb_daemon.specs.Daemon.{CutsOff, files_of}
use Rattle.adb_daemon.specs.Device.{Device, device_behind, first_device}
use Rattle.adb_daemon.proofs.Machines.{step_more}
use Rattle.adb_laws_alone.proofs.InPart.{quiet_cut}
use Rattle.adb_laws_alone.proofs.Quiet.{AllLeaveFiles, quiet_files}
use Rattle.adb_laws_births.proofs.Born.{all_births}
use Rattle.adb_laws_resting.specs.Resting.{SendsNothingBy, GoesUpAlone}
use Rattle.adb_laws_answers.specs.Model.{model_devices, model_setting}
use Rattle.adb_laws_answers.specs.Sessions.{AsksForServices, IsOfSessions}
use Rattle.adb_laws_worlds.specs.Unbroken.{BringsSound}
use Rattle.adb_world.specs.Parts.{AreSameBut, Holds, IsKeptAt, IsOver, IsRunning, IsSame}
use Rattle.adb_world.specs.Session.{IsTold, left_of}
use Rattle.adb_world.specs.Settled.{GrowsFrom, IsCounted, IsDone}
use Rattle.adb_world.specs.Stopped.{Fails, HasEndedInPart, IsCutAt}
use Rattle.adb_world.specs.World.{view_of}
use Rattle.adb_world.specs.declared.parts.Parts.{Parts}
use Rattle.adb_world.specs.declared.session.Session.{Session}
use Rattle.adb_world.proofs.Answered.{all_read, few_done}
use Rattle.adb_world.proofs.Counted.{IsThere, there}
use Rattle.adb_world.proofs.Devices.{devices_of}
use Rattle.adb_world.proofs.Ended.{ends_gone, idle_state}
use Rattle.adb_world.proofs.Files.{files_behind}
use Rattle.adb_world.proofs.Finishing.{same_but}
use Rattle.adb_world.proofs.Going.{AllStay}
use Rattle.adb_world.proofs.NoMore.{leaves, since}
use Rattle.adb_world.proofs.SentAll.{all_sent}
use Rattle.adb_world.proofs.Stopping.{cut_before, cut_held, cut_is}
use Rattle.adb_world.proofs.Written.{still_all}

-- what holds of a server and its model device
pub record StopLaws : Type 0 where
  pub carried : (h : History) → IsLegal h → CarriesRest h
  pub stays : AllStay
  pub nothing : (h : History) → IsLegal h → SendsNothingBy (state h)
  pub alone : (h : History) → IsLegal h → GoesUpAlone (state h)
  pub asks : (h : History) → IsLegal h → IsOfSessions h → AsksForServices h
  pub sound : (parts : Parts) (runs : IsRunning parts) → BringsSound runs.history
  pub counts : (parts : Parts) → IsDone parts → IsCounted (view_of parts false true)

-- births are added alone
births_more : (more g : History) → length (births g) ≤ length (births (more ++ g))
births_more [] g = omega arith
births_more (e ∷ more) g =
    let rest = births_more more g in
    let both = length-append (births (more ++ g)) (births_at e (more ++ g)) in
    omega (arith, rest, both)

-- packets that leave the files, in two parts
leave_front : (xs ys : List Packet) → AllLeaveFiles (xs ++ ys) → AllLeaveFiles xs
leave_front [] ys leave = tt
leave_front (x ∷ xs) ys leave = (leave.0, leave_front xs ys leave.1)

leave_back : (xs ys : List Packet) → AllLeaveFiles (xs ++ ys) → AllLeaveFiles ys
leave_back [] ys leave = leave
leave_back (x ∷ xs) ys leave = leave_back xs ys leave.1

module _ (laws : StopLaws) (n : ℕ) (old mid new : Parts) (done : IsDone old) (ended : HasEndedInPart n old mid new) where
  holds : Holds done.ease.runs.history old
  holds = done.ease.runs.holds

  legal : IsLegal done.ease.runs.history
  legal = done.ease.runs.holds.lawful.legal

  grown : GrowsFrom ended.stopped.goes.steps (End n Eof ∷ done.ease.runs.history) ended.stopped.mid
  grown = ended.stopped.goes.grows (End n Eof ∷ done.ease.runs.history) (ended.ends done.ease.runs.history done.ease.runs.holds)

  known : (state done.ease.runs.history).devices ≡ model_devices
  known =
      (all_books done.ease.runs.history done.ease.runs.holds.lawful.legal).devices
      ∙ devices_of old done.ease.runs (laws.sound old done.ease.runs)
      (laws.asks done.ease.runs.history done.ease.runs.holds.lawful.legal done.ease.runs.holds.asks)
      done.ease.runs.history done.ease.runs.holds

  -- a client that lives is that of a session
  drawn : (d : ℕ) (client : Client) → (state done.ease.runs.history).clients d ≡ Some client → (0 < d) × (d ≤ old.given)
  drawn d client is = go d (orderly done.ease.runs.history holds.lawful.legal).clients is
    where
      go : (k : ℕ) → IsDrawnOnly (state done.ease.runs.history).joined (state done.ease.runs.history).clients
          → (state done.ease.runs.history).clients k ≡ Some client → (0 < k) × (k ≤ old.given)
      go zero only e = absurd (let clash : None ≡ Some client = sym only.zero ∙ e in cc)
      go (suc k) only e = (omega arith, by (cases_lt (state done.ease.runs.history).joined (suc k)))
        where
          by : ((state done.ease.runs.history).joined < suc k) ⊎ (suc k ≤ (state done.ease.runs.history).joined) → suc k ≤ old.given
          by (inl past) = absurd (let clash : None ≡ Some client = sym (only.above (suc k) past) ∙ e in cc)
          by (inr le) =
              let counts = (counted done.ease.runs.history).joined in let given =
              done.ease.runs.holds.came in omega (arith, le, counts, given)

  whole : (grown.more ++ End n Eof ∷ []) ++ done.ease.runs.history ≡ grown.more ++ End n Eof ∷ done.ease.runs.history
  whole = append_assoc grown.more (End n Eof ∷ []) done.ease.runs.history

  same_read : (d : ℕ) (client : Client) → d ≢ n → (state done.ease.runs.history).clients d ≡ Some client
      → bytes_read d (grown.more ++ End n Eof ∷ done.ease.runs.history) ≡ bytes_read d done.ease.runs.history
  same_read d client other is =
      go (there done.ease.runs.history old done.ease.runs.holds d (drawn d client is).0 (drawn d client is).1)
    where
      but : AreSameBut n old.sessions.entries ended.stopped.mid.sessions.entries
      but = same_but n old mid ended.stopped.mid ended.dropped ended.stopped.goes.same

      later : (session : Session) → IsTold done.ease.runs.history d session → left_of session ≡ []
          → (o : Option Session) → IsSame (Some session) o
          → IsKeptAt ended.stopped.mid.given (grown.more ++ End n Eof ∷ done.ease.runs.history) d o
          → bytes_read d (grown.more ++ End n Eof ∷ done.ease.runs.history) ≡ bytes_read d done.ease.runs.history
      later session told none None same kept = absurd same
      later session told none (Some next) same kept =
          let all : left_of next ≡ [] =
          still_all d session next done.ease.runs.history (grown.more ++ End n Eof ∷ []) told
          (subst (λ (g : History). IsTold g d next) (sym whole) kept.1) same.1 none in
          all_read (grown.more ++ End n Eof ∷ done.ease.runs.history) d next kept.1 all
          ∙ (same.1 ∙ sym (all_read done.ease.runs.history d session told none))

      go : IsThere done.ease.runs.history old d ⊎ IsOver old.given done.ease.runs.history d
          → bytes_read d (grown.more ++ End n Eof ∷ done.ease.runs.history) ≡ bytes_read d done.ease.runs.history
      go (inr over) = absurd (let clash : None ≡ Some client = sym over.gone ∙ is in cc)
      go (inl t) =
          later t.session t.told (done.words d t.session t.is) (at d ended.stopped.mid.sessions.entries)
          (subst (λ (o : Option Session). IsSame o (at d ended.stopped.mid.sessions.entries)) t.is
          (but.others d other)) (grown.holds.sessions d)

  -- no more streams are drawn, since each session has asked for its service
  same_drawn : (more : History) → IsLegal (more ++ End n Eof ∷ done.ease.runs.history)
      → AsksForServices (more ++ End n Eof ∷ done.ease.runs.history) → came_count (more ++ End n Eof ∷ done.ease.runs.history) ≡ old.given
      → (state (more ++ End n Eof ∷ done.ease.runs.history)).drawn ≡ (state done.ease.runs.history).drawn
  same_drawn more legal_now asks came =
      let now : History = more ++ End n Eof ∷ done.ease.runs.history in
      let few = few_done (λ (c : ℕ). asked c now) (came_count now) in
      let count = asks.births in
      let drawn_now = (all_births now legal_now).drawn in
      let drawn_then = (all_births done.ease.runs.history legal).drawn in
      let as_given : (state done.ease.runs.history).drawn ≡ old.given =
      sym (ap (λ (k : Kept). k.streams.drawn) done.ease.runs.holds.lawful.seen) ∙ (laws.counts old done).streams in
      let first = births_more (End n Eof ∷ []) done.ease.runs.history in
      let rest = births_more more (End n Eof ∷ done.ease.runs.history) in
      omega (arith, few, count, drawn_now, drawn_then, as_given, first, rest, came)

  -- so what is sent changes no file, and nor does a prefix of what the next packet asks for
  module _ (more : History) (legal_now : IsLegal (more ++ End n Eof ∷ done.ease.runs.history))
      (asks : AsksForServices (more ++ End n Eof ∷ done.ease.runs.history))
      (came : came_count (more ++ End n Eof ∷ done.ease.runs.history) ≡ old.given)
      (read : (d : ℕ) (client : Client) → d ≢ n → (state done.ease.runs.history).clients d ≡ Some client
      → bytes_read d (more ++ End n Eof ∷ done.ease.runs.history) ≡ bytes_read d done.ease.runs.history) where
    legal_end : IsLegal (End n Eof ∷ done.ease.runs.history)
    legal_end = (ended.ends done.ease.runs.history done.ease.runs.holds).lawful.legal

    gone : (state (End n Eof ∷ done.ease.runs.history)).clients n ≡ None
    gone =
        ends_gone done.ease.runs.history legal n (laws.nothing done.ease.runs.history legal) (laws.alone done.ease.runs.history legal)
        (idle_state done.ease.runs.history old.hub _ _ done.ease.runs.holds.lawful done.ease.calm)

    abbrev all_since : (ps : List Packet) × (sent 1 done.ease.runs.history ++ ps ≡ sent 1 (more ++ End n Eof ∷ done.ease.runs.history))
    all_since =
        since laws.carried laws.stays n done.ease.runs.history more legal legal_end legal_now
        (idle_state done.ease.runs.history old.hub _ _ done.ease.runs.holds.lawful done.ease.calm)
        (all_sent done.ease.runs.history old.hub done.ease.runs.holds.lawful known done.ease.calm.link) gone
        (same_drawn more legal_now asks came) read

    quiet : AllLeaveFiles all_since.0
    quiet =
        leaves laws.carried laws.stays n done.ease.runs.history more legal legal_end legal_now
        (idle_state done.ease.runs.history old.hub _ _ done.ease.runs.holds.lawful done.ease.calm)
        (all_sent done.ease.runs.history old.hub done.ease.runs.holds.lawful known done.ease.calm.link) gone
        (same_drawn more legal_now asks came) read

    quiet_at : (files : List File)
        → CutsOff model_setting (sent 1 done.ease.runs.history) (sent 1 (more ++ End n Eof ∷ done.ease.runs.history)) files
        → files ≡ files_of old.device
    quiet_at files cut =
        let h : History = done.ease.runs.history in
        let all : AllLeaveFiles (cut.more ++ cut.rest) =
        subst AllLeaveFiles (cut_is model_setting files (sent 1 h) all_since.0 (sent 1 (more ++ End n Eof ∷ h)) all_since.1 cut) quiet in
        quiet_cut cut.rest (device_behind model_setting (sent 1 h ++ cut.more)).serving files (leave_back cut.more cut.rest all) cut.files
        ∙ (ap (λ (d : Device). d.serving.files) (step_more model_setting (first_device model_setting) (sent 1 h) cut.more)
        ∙ (quiet_files model_setting (device_behind model_setting (sent 1 h)) cut.more (leave_front cut.more cut.rest all)
        ∙ sym (files_behind h old.device done.ease.runs.holds.done)))

  given : came_count (grown.more ++ End n Eof ∷ done.ease.runs.history) ≡ old.given
  given = grown.holds.came ∙ (ended.stopped.goes.given ∙ ended.dropped.given)

  asks_grown : AsksForServices (grown.more ++ End n Eof ∷ done.ease.runs.history)
  asks_grown = laws.asks (grown.more ++ End n Eof ∷ done.ease.runs.history) grown.holds.lawful.legal grown.holds.asks

  before : (ps : List Packet) × (sent 1 done.ease.runs.history ++ ps ≡ sent 1 (grown.more ++ End n Eof ∷ done.ease.runs.history))
  before = all_since grown.more grown.holds.lawful.legal asks_grown given same_read

  pub stopped_files : files_of new.device ≡ files_of old.device
  stopped_files = by ended.stopped.fails
    where
      by : Fails ended.stopped.mid new → files_of new.device ≡ files_of old.device
      by (inl same) =
          quiet_at grown.more grown.holds.lawful.legal asks_grown given same_read (files_of new.device)
          (cut_before model_setting (files_of new.device) (sent 1 done.ease.runs.history) before.0
          (sent 1 (grown.more ++ End n Eof ∷ done.ease.runs.history)) (sent 1 (grown.more ++ End n Eof ∷ done.ease.runs.history)) before.1
          (cut_held (grown.more ++ End n Eof ∷ done.ease.runs.history) ended.stopped.mid (files_of new.device) grown.holds same))
      by (inr cut) = fed (cut (grown.more ++ End n Eof ∷ done.ease.runs.history) grown.holds)
        where
          fed : IsCutAt (grown.more ++ End n Eof ∷ done.ease.runs.history) (files_of new.device) → files_of new.device ≡ files_of old.device
          fed k =
              quiet_at (Send 1 k.piece ∷ grown.more) k.lawful.legal
              (laws.asks (Send 1 k.piece ∷ grown.more ++ End n Eof ∷ done.ease.runs.history) k.lawful.legal
              grown.holds.asks) given same_read
              (files_of new.device)
              (cut_before model_setting (files_of new.device) (sent 1 done.ease.runs.history) before.0
              (sent 1 (grown.more ++ End n Eof ∷ done.ease.runs.history))
              (sent 1 (Send 1 k.piece ∷ grown.more ++ End n Eof ∷ done.ease.runs.history)) before.1 k.cut)
