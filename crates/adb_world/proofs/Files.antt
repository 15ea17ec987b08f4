-- Which files a world has.
use Rattle.std.specs.Prelude.{ℕ, ◌≡◌, ◌≢◌, ◌≤◌, ◌<◌, true, false, fold, zero, suc, List, [], ◌∷◌, ◌++◌, length, Option, Some, None}
use Rattle.std.proofs.Common.{refl, sym, ◌∙◌, ap, subst, arith, ◌⊎◌, inl, inr}
use Rattle.std.proofs.lemmas.Bool.{cases_lt}
use Rattle.adb_outside.specs.Tables.{at}
use Rattle.adb_outside.specs.declared.kinds.Cause.TheVariants.{Eof}
use Rattle.adb_wire.specs.declared.packets.Packet.{Packet}
use Rattle.adb_capture.specs.declared.entry.Entry.TheVariants.{End}
use Rattle.adb_history.specs.Book.{asked}
use Rattle.adb_history.specs.Births.{births}
use Rattle.adb_history.specs.Bytes.{bytes_read, bytes_received, bytes_sent, sent}
use Rattle.adb_history.specs.Fifo.{CarriesRest}
use Rattle.adb_history.specs.Kept.{Kept}
use Rattle.adb_history.specs.Machine.{History, IsLegal, state}
use Rattle.adb_history.specs.Orderly.{IsDrawnOnly}
use Rattle.adb_history.specs.Rows.{Client}
use Rattle.adb_history.proofs.Books.{all_books}
use Rattle.adb_history.proofs.Numbers.{counted}
use Rattle.adb_history.proofs.OrderlyStates.{orderly}
use Rattle.adb_daemon.specs.Daemon.{HasDone, files_of}
use Rattle.adb_daemon.specs.Device.{Device, device_behind, first_device, step}
use Rattle.adb_daemon.specs.declared.daemon.Daemon.{Daemon}
use Rattle.adb_laws_births.proofs.Crossing.{no_crossing}
use Rattle.adb_laws_causes.proofs.Others.{born_within}
use Rattle.adb_laws_resting.specs.Resting.{SendsNothingBy, GoesUpAlone}
use Rattle.adb_laws_answers.specs.Model.{model_devices, model_setting}
use Rattle.adb_laws_answers.specs.Sessions.{AsksForServices, done_among}
use Rattle.adb_laws_worlds.specs.Unbroken.{BringsSound}
use Rattle.adb_world.specs.Parts.{AreSameBut, Holds, IsKeptAt, IsOver, IsRunning, IsSame}
use Rattle.adb_world.specs.Settled.{HasEnded, IsCounted, IsDone}
use Rattle.adb_world.specs.World.{view_of}
use Rattle.adb_world.specs.declared.parts.Parts.{Parts}
use Rattle.adb_world.specs.declared.session.Session.{Session}
use Rattle.adb_world.proofs.Answered.{all_read}
use Rattle.adb_world.proofs.Counted.{IsThere, there}
use Rattle.adb_world.proofs.Devices.{devices_of}
use Rattle.adb_world.proofs.Ended.{ends_gone, idle_state}
use Rattle.adb_world.proofs.Finishing.{same_but}
use Rattle.adb_world.proofs.Going.{AllStay}
use Rattle.adb_world.proofs.NoMore.{leave_all, leaves, since}
use Rattle.adb_laws_alone.proofs.Quiet.{AllLeaveFiles, quiet_files}
use Rattle.adb_world.proofs.SentAll.{all_sent}

fold_more : {A B : Type 0} (f : A → B → A) (a : A) (xs ys : List B) → fold f a (xs ++ ys) ≡ fold f (fold f a xs) ys
fold_more f a [] ys = refl
fold_more f a (x ∷ xs) ys = fold_more f (f a x) xs ys

-- the files of a device are those of what it was sent
pub files_behind : (h : History) (device : Daemon) → HasDone model_setting (bytes_sent 1 h) (bytes_received 1 h) device
    → files_of device ≡ (device_behind model_setting (sent 1 h)).serving.files
files_behind h device done = done.stands.holds.files

-- ---- a new world
pub no_files : (parts : Parts) (runs : IsRunning parts) → AsksForServices runs.history → parts.given ≡ 0 → files_of parts.device ≡ []
no_files parts runs asks none =
    files_behind runs.history parts.device runs.holds.done
    ∙ quiet_files model_setting (first_device model_setting) (sent 1 runs.history) leave
  where
    unborn : length (births runs.history) ≡ 0
    unborn =
        asks.births ∙ ap (done_among (λ (c : ℕ). asked c runs.history)) (runs.holds.came ∙ none)

    leave : AllLeaveFiles (sent 1 runs.history)
    leave =
        leave_all runs.history (sent 1 runs.history) ((no_crossing runs.history runs.holds.lawful.legal).own 1)
        (λ l b is link. (
        let within = born_within l runs.history b is in
        let some = within.0 in
        let below = within.1 in
        absurd (omega (arith, some, below, unborn))))

-- ---- a session ends
-- what holds of a server and its model device
pub record EndLaws : Type 0 where
  pub carried : (h : History) → IsLegal h → CarriesRest h
  pub stays : AllStay
  pub nothing : (h : History) → IsLegal h → SendsNothingBy (state h)
  pub alone : (h : History) → IsLegal h → GoesUpAlone (state h)
  pub asks : (parts : Parts) (runs : IsRunning parts) → AsksForServices runs.history
  pub sound : (parts : Parts) (runs : IsRunning parts) → BringsSound runs.history
  pub counts : (parts : Parts) → IsDone parts → IsCounted (view_of parts false true)

module _ (laws : EndLaws) (n : ℕ) (old mid new : Parts) (done : IsDone old) (ended : HasEnded n old mid new) where
  holds : Holds done.ease.runs.history old
  holds = done.ease.runs.holds

  grown : (more : History) × Holds (more ++ End n Eof ∷ done.ease.runs.history) new
  grown =
      let g = ended.goes.grows (End n Eof ∷ done.ease.runs.history)
      (ended.ends done.ease.runs.history done.ease.runs.holds) in (g.more, g.holds)

  known : (state done.ease.runs.history).devices ≡ model_devices
  known =
      (all_books done.ease.runs.history done.ease.runs.holds.lawful.legal).devices
      ∙ devices_of old done.ease.runs (laws.sound old done.ease.runs) (laws.asks old done.ease.runs)
      done.ease.runs.history done.ease.runs.holds

  -- a client that lives is that of a session
  drawn : (d : ℕ) (client : Client) → (state done.ease.runs.history).clients d ≡ Some client → (0 < d) × (d ≤ old.given)
  drawn d client is = go d (orderly done.ease.runs.history holds.lawful.legal).clients is
    where
      go : (k : ℕ) → IsDrawnOnly (state done.ease.runs.history).joined (state done.ease.runs.history).clients
          → (state done.ease.runs.history).clients k ≡ Some client → (0 < k) × (k ≤ old.given)
      go zero only e = absurd (let clash : None ≡ Some client = sym only.zero ∙ e in cc)
      go (suc k) only e = (omega arith, by (cases_lt (state done.ease.runs.history).joined (suc k)))
        where
          by : ((state done.ease.runs.history).joined < suc k) ⊎ (suc k ≤ (state done.ease.runs.history).joined) → suc k ≤ old.given
          by (inl past) = absurd (let clash : None ≡ Some client = sym (only.above (suc k) past) ∙ e in cc)
          by (inr le) =
              let counts = (counted done.ease.runs.history).joined in let given =
              done.ease.runs.holds.came in omega (arith, le, counts, given)

  same_read : (d : ℕ) (client : Client) → d ≢ n → (state done.ease.runs.history).clients d ≡ Some client
      → bytes_read d (grown.0 ++ End n Eof ∷ done.ease.runs.history) ≡ bytes_read d done.ease.runs.history
  same_read d client other is =
      go (there done.ease.runs.history old done.ease.runs.holds d (drawn d client is).0 (drawn d client is).1)
    where
      but : AreSameBut n old.sessions.entries new.sessions.entries
      but = same_but n old mid new ended.dropped ended.goes.same

      later : (session : Session) (o : Option Session) → at d new.sessions.entries ≡ o → IsSame (Some session) o
          → IsKeptAt new.given (grown.0 ++ End n Eof ∷ done.ease.runs.history) d o
          → bytes_read d (grown.0 ++ End n Eof ∷ done.ease.runs.history) ≡ session.words
      later session None at_new same kept = absurd same
      later session (Some next) at_new same kept =
          all_read (grown.0 ++ End n Eof ∷ done.ease.runs.history) d next kept.1 (ended.done.words d next at_new) ∙ same.1

      go : IsThere done.ease.runs.history old d ⊎ IsOver old.given done.ease.runs.history d
          → bytes_read d (grown.0 ++ End n Eof ∷ done.ease.runs.history) ≡ bytes_read d done.ease.runs.history
      go (inr over) = absurd (let clash : None ≡ Some client = sym over.gone ∙ is in cc)
      go (inl t) =
          later t.session (at d new.sessions.entries) refl
          (subst (λ (o : Option Session). IsSame o (at d new.sessions.entries)) t.is (but.others d other)) (grown.1.sessions d)
          ∙ sym (all_read done.ease.runs.history d t.session t.told (done.words d t.session t.is))

  same_drawn : (state (grown.0 ++ End n Eof ∷ done.ease.runs.history)).drawn ≡ (state done.ease.runs.history).drawn
  same_drawn =
      sym (ap (λ (k : Kept). k.streams.drawn) grown.1.lawful.seen)
      ∙ ((laws.counts new ended.done).streams
      ∙ (ended.goes.given
      ∙ (ended.dropped.given
      ∙ (sym (laws.counts old done).streams ∙ ap (λ (k : Kept). k.streams.drawn) done.ease.runs.holds.lawful.seen))))

  pub same_files : files_of new.device ≡ files_of old.device
  same_files =
      files_behind (grown.0 ++ End n Eof ∷ done.ease.runs.history) new.device grown.1.done
      ∙ (ap (λ (ps : List Packet). (device_behind model_setting ps).serving.files) (sym more.1)
      ∙ (ap (λ (d : Device). d.serving.files)
      (fold_more (step model_setting) (first_device model_setting) (sent 1 done.ease.runs.history) more.0)
      ∙ (quiet_files model_setting (device_behind model_setting (sent 1 done.ease.runs.history)) more.0 quiet
      ∙ sym (files_behind done.ease.runs.history old.device done.ease.runs.holds.done))))
    where
      legal : IsLegal done.ease.runs.history
      legal = done.ease.runs.holds.lawful.legal

      legal_end : IsLegal (End n Eof ∷ done.ease.runs.history)
      legal_end = (ended.ends done.ease.runs.history done.ease.runs.holds).lawful.legal

      gone : (state (End n Eof ∷ done.ease.runs.history)).clients n ≡ None
      gone =
          ends_gone done.ease.runs.history legal n (laws.nothing done.ease.runs.history legal) (laws.alone done.ease.runs.history legal)
          (idle_state done.ease.runs.history old.hub _ _ done.ease.runs.holds.lawful done.ease.calm)

      more : (ps : List Packet) × (sent 1 done.ease.runs.history ++ ps ≡ sent 1 (grown.0 ++ End n Eof ∷ done.ease.runs.history))
      more =
          since laws.carried laws.stays n done.ease.runs.history grown.0 legal legal_end grown.1.lawful.legal
          (idle_state done.ease.runs.history old.hub _ _ done.ease.runs.holds.lawful done.ease.calm)
          (all_sent done.ease.runs.history old.hub done.ease.runs.holds.lawful known done.ease.calm.link) gone same_drawn same_read

      quiet : AllLeaveFiles more.0
      quiet =
          leaves laws.carried laws.stays n done.ease.runs.history grown.0 legal legal_end grown.1.lawful.legal
          (idle_state done.ease.runs.history old.hub _ _ done.ease.runs.holds.lawful done.ease.calm)
          (all_sent done.ease.runs.history old.hub done.ease.runs.holds.lawful known done.ease.calm.link) gone same_drawn same_read
