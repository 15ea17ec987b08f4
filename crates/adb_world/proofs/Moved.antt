-- What the steps of a world move.
use Rattle.std.specs.Prelude.{ℕ, ◌≡◌, ◌≢◌, ◌≤◌, ◌<◌, min, List, [], ◌∷◌, ◌++◌, length, take, Option, Some, option_map, Ok}
use Rattle.std.proofs.Common.{refl, sym, ◌∙◌, ap, subst, arith}
use Rattle.std.proofs.lemmas.List.{take_min, length-take}
use Rattle.adb_outside.specs.Tables.{at}
use Rattle.adb_capture.specs.declared.entry.Entry.TheVariants.{Read, Recv, Put, Send}
use Rattle.adb_history.specs.Book.{devices}
use Rattle.adb_files.specs.Entries.{Entry as File}
use Rattle.adb_history.specs.Bytes.{bytes_received, bytes_sent, sent}
use Rattle.adb_history.specs.Kept.{Kept, IsLawful}
use Rattle.adb_history.specs.Machine.{History, state, IsLegal}
use Rattle.adb_hub.specs.Answers.{due_on, offered_to}
use Rattle.adb_daemon.specs.Daemon.{CutsOff, HasDone, answer_to, owed}
use Rattle.adb_world.specs.Stopped.{IsCutAt}
use Rattle.adb_daemon.specs.Device.{Setting}
use Rattle.adb_daemon.specs.declared.daemon.Daemon.{Daemon}
use Rattle.adb_laws_answers.specs.Model.{model_devices, model_setting}
use Rattle.adb_world.specs.Calls.{AreFirst, HasNone, HasTaken, TakesSoundly}
use Rattle.adb_world.specs.Parts.{Holds, Moved}
use Rattle.adb_world.specs.Session.{Changes, handed, wrote, left_of}
use Rattle.adb_world.specs.declared.parts.Parts.{Parts}
use Rattle.adb_world.specs.declared.session.Session.{Session}
use Rattle.adb_world.proofs.Stays.{changed_same, hears_same, writes_same, same_sessions}
use Rattle.adb_world.proofs.Entries.{sent_down, came_up, put_to, read_from}

-- what a server sends is taken by a model device
abbrev pub SentIsTaken : Type 0
SentIsTaken = (setting : Setting) (history : History) (link : ℕ) → IsLegal history → answer_to setting (bytes_sent link history) ≡ Ok tt

no_bytes : (n : ℕ) (xs : List ℕ) → n ≢ 0 → n ≤ length xs → take n xs ≢ []
no_bytes n xs some le none =
    let short = length-take n xs in
    let zeroth : length (take n xs) ≡ 0 = ap (λ (x : List ℕ). length x) none in
    some (omega (arith, short, zeroth, le))

empty : (xs : List ℕ) → length xs ≡ 0 → xs ≡ []
empty [] is = refl
empty (x ∷ xs) is = absurd (omega (arith, is))

module _ (h : History) (parts : Parts) (holds : Holds h parts) (max : ℕ) where
  -- ---- down
  module _ (hub : Kept) (piece : List ℕ) (out : HasTaken (Send 1) max (due_on ((state h).links 1)) (Some piece) h parts.hub hub) where
    pub down_takes : SentIsTaken → TakesSoundly parts.device piece
    down_takes sound = record {
      fed = bytes_sent 1 h;
      taken = bytes_received 1 h;
      done = holds.done;
      sound = sound model_setting (Send 1 piece ∷ h) 1 out.2.legal;
    }

    pub down_moved : (device : Daemon) → HasDone model_setting (bytes_sent 1 h ++ piece) (bytes_received 1 h) device
        → Moved (Send 1) max (due_on ((state h).links 1)) h parts (record parts { hub = hub; device = device })
    down_moved device done = record {
      bytes = piece;
      some = out.1;
      first = out.0;
      holds = sent_down h parts holds hub device piece out.2 done;
      same = same_sessions parts.sessions.entries;
      given = refl;
    }

    pub down_cut : (files : List File) → CutsOff model_setting (sent 1 h) (sent 1 (Send 1 piece ∷ h)) files → IsCutAt h files
    down_cut files cut = record { piece = piece; hub = hub; lawful = out.2; cut = cut }

  -- ---- up
  pub up_moved : (hub : Kept) (device : Daemon) (n : ℕ) (piece : List ℕ) → piece ≡ take n (owed parts.device)
      → n ≡ min max (length (owed parts.device))
      → n ≢ 0 → IsLawful hub (Recv 1 piece ∷ h)
      → HasDone model_setting (bytes_sent 1 h) (bytes_received 1 h ++ take n (owed parts.device)) device
      → Moved (Recv 1) max (Some (owed parts.device)) h parts (record parts { hub = hub; device = device })
  up_moved hub device n piece is number some lawful done = record {
    bytes = piece;
    some = λ none. no_bytes n (owed parts.device) some (omega (arith, number)) (sym is ∙ none);
    first = is ∙ (ap (λ (k : ℕ). take k (owed parts.device)) number ∙ take_min max (owed parts.device));
    holds = came_up h parts holds hub device n piece is lawful done;
    same = same_sessions parts.sessions.entries;
    given = refl;
  }

  pub none_up : (n : ℕ) → n ≡ min max (length (owed parts.device)) → n ≡ 0 → 0 < max → owed parts.device ≡ []
  none_up n number zeroth some = empty (owed parts.device) (omega (arith, number, zeroth, some))

  -- ---- to a session
  pub hand_moved : (hub : Kept) (c : ℕ) (piece : List ℕ) (new : Parts)
      → HasTaken (Put c) max (offered_to (state h).devices ((state h).clients c)) (Some piece) h parts.hub hub → new.hub ≡ hub
      → new.device ≡ parts.device → new.given ≡ parts.given → Changes c (handed piece) parts.sessions.entries new.sessions.entries
      → Moved (Put c) max (offered_to (state h).devices ((state h).clients c)) h parts new
  hand_moved hub c piece new out hub_is device_is given_is puts = record {
    bytes = piece;
    some = out.1;
    first = out.0;
    holds = put_to h parts holds hub c piece new out.2 hub_is device_is given_is puts;
    same = changed_same c (handed piece) (hears_same piece) parts.sessions.entries new.sessions.entries puts;
    given = given_is;
  }

  -- ---- from a session
  pub write_moved : (hub : Kept) (c : ℕ) (piece : List ℕ) (session : Session) (new : Parts) → devices h ≡ model_devices
      → at c parts.sessions.entries ≡ Some session → piece ≡ take max (left_of session) → length piece ≢ 0 → IsLawful hub (Read c piece ∷ h)
      → new.hub ≡ hub → new.device ≡ parts.device → new.given ≡ parts.given
      → Changes c (wrote (length piece)) parts.sessions.entries new.sessions.entries
      → Moved (Read c) max (option_map left_of (at c parts.sessions.entries)) h parts new
  write_moved hub c piece session new known is first some lawful hub_is device_is given_is puts = record {
    bytes = piece;
    some = λ none. some (ap (λ (x : List ℕ). length x) none);
    first = subst (λ (o : Option Session). AreFirst max (option_map left_of o) piece) (sym is) first;
    holds = read_from h parts holds hub c max piece session new known is first lawful hub_is device_is given_is puts;
    same = changed_same c (wrote (length piece)) (writes_same (length piece)) parts.sessions.entries new.sessions.entries puts;
    given = given_is;
  }

  pub none_to_write : (c : ℕ) (session : Session) → at c parts.sessions.entries ≡ Some session → (piece : List ℕ)
      → piece ≡ take max (left_of session)
      → length piece ≡ 0 → 0 < max → HasNone (option_map left_of (at c parts.sessions.entries))
  none_to_write c session is piece first zeroth some =
      let short = length-take max (left_of session) in
      let same : length piece ≡ length (take max (left_of session)) = ap (λ (x : List ℕ). length x) first in
      subst (λ (o : Option Session). HasNone (option_map left_of o)) (sym is)
      (empty (left_of session) (omega (arith, short, same, zeroth, some)))
