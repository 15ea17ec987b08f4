-- What each entry of a world leaves.
use Rattle.std.specs.Prelude.{ℕ, ◌+◌, ◌≡◌, ◌≤◌, ◌&&◌, not, Bool}
use Rattle.std.specs.Prelude.{cond, nat_eq, List, ◌∷◌, ◌++◌, length, take, drop, Option, Some, None}
use Rattle.std.specs.Prelude.{option_map}
use Rattle.std.proofs.Common.{sym, ◌∙◌, ap, subst}
use Rattle.std.proofs.lemmas.List.{take-append-drop}
use Rattle.adb_outside.specs.Bytes.{IsPrefixOf}
use Rattle.adb_outside.specs.Tables.{at}
use Rattle.adb_capture.specs.declared.entry.Entry.TheVariants.{Read, Recv, Put, Send}
use Rattle.adb_history.specs.Book.{devices}
use Rattle.adb_history.specs.Bytes.{bytes_received, bytes_sent, bytes_read}
use Rattle.adb_history.specs.Kept.{Kept, IsLawful}
use Rattle.adb_history.specs.Machine.{History}
use Rattle.adb_daemon.specs.Daemon.{HasDone, owed}
use Rattle.adb_daemon.specs.declared.daemon.Daemon.{Daemon}
use Rattle.adb_laws_model_device.specs.Owed.{bytes_owed}
use Rattle.adb_laws_answers.specs.Words.{IsOfSession}
use Rattle.adb_laws_answers.specs.Model.{model_devices, model_setting}
use Rattle.adb_world.specs.Parts.{Holds, most_sessions, IsKeptAt}
use Rattle.adb_world.specs.Session.{Changes, IsTold, handed, wrote, left_of, text_of}
use Rattle.adb_world.specs.declared.parts.Parts.{Parts}
use Rattle.adb_world.specs.declared.session.Session.{Session}
use Rattle.adb_world.proofs.Gone.{gone_recv, gone_send, none_stays}
use Rattle.adb_world.proofs.Stays.{kept_put, kept_read}

-- ---- the device
-- what was taken, and what it owes, are the bytes of all that became due
pub all_owed : (fed taken : List ℕ) (device : Daemon) → HasDone model_setting fed taken device
    → taken ++ owed device ≡ bytes_owed model_setting fed
all_owed fed taken device done = done.stands.holds.due

module _ (h : History) (parts : Parts) (holds : Holds h parts) where
  -- what came on the link is a front of what the device owes
  pub comes_first : IsPrefixOf (bytes_received 1 h) (bytes_owed model_setting (bytes_sent 1 h))
  comes_first = (owed parts.device, all_owed (bytes_sent 1 h) (bytes_received 1 h) parts.device holds.done)

  -- ---- down
  pub sent_down : (hub : Kept) (device : Daemon) (piece : List ℕ) → IsLawful hub (Send 1 piece ∷ h)
      → HasDone model_setting (bytes_sent 1 h ++ piece) (bytes_received 1 h) device
      → Holds (Send 1 piece ∷ h) (record parts { hub = hub; device = device })
  sent_down hub device piece lawful done = record {
    lawful = lawful;
    done = done;
    joined = (holds.joined, comes_first);
    here = holds.here;
    plugged_as = holds.plugged_as;
    one = holds.one;
    asks = holds.asks;
    came = holds.came;
    few = holds.few;
    sessions = kept;
  }
    where
      kept : (c : ℕ) → IsKeptAt parts.given (Send 1 piece ∷ h) c (at c parts.sessions.entries)
      kept c = go (at c parts.sessions.entries) (holds.sessions c)
        where
          go : (o : Option Session) → IsKeptAt parts.given h c o → IsKeptAt parts.given (Send 1 piece ∷ h) c o
          go None k = none_stays parts.given c (Send 1 piece) h (λ e. e) (λ gone. gone_send h c gone 1 piece) k
          go (Some session) k =
              (k.0, record { known = k.1.known; words = k.1.words; within = k.1.within; read = k.1.read; put = k.1.put; alive = k.1.alive })

  -- ---- up
  abbrev received : List ℕ → List ℕ
  received piece = bytes_received 1 (Recv 1 piece ∷ h)

  pub received_more : (piece : List ℕ) → bytes_received 1 (Recv 1 piece ∷ h) ≡ bytes_received 1 h ++ piece
  received_more piece = ap (λ (b : Bool). cond (nat_eq 1 1 && not b) (bytes_received 1 h ++ piece) (bytes_received 1 h)) holds.here

  pub came_up : (hub : Kept) (device : Daemon) (n : ℕ) (piece : List ℕ) → piece ≡ take n (owed parts.device)
      → IsLawful hub (Recv 1 piece ∷ h)
      → HasDone model_setting (bytes_sent 1 h) (bytes_received 1 h ++ take n (owed parts.device)) device
      → Holds (Recv 1 piece ∷ h) (record parts { hub = hub; device = device })
  came_up hub device n piece is lawful done = record {
    lawful = lawful;
    done = subst (λ (x : List ℕ). HasDone model_setting (bytes_sent 1 h) x device) (sym more) done;
    joined = (
      holds.joined,
      subst (λ (x : List ℕ). IsPrefixOf x (bytes_owed model_setting (bytes_sent 1 h))) (sym more)
          (owed device, all_owed (bytes_sent 1 h) (bytes_received 1 h ++ take n (owed parts.device)) device done),
    );
    here = holds.here;
    plugged_as = holds.plugged_as;
    one = holds.one;
    asks = holds.asks;
    came = holds.came;
    few = holds.few;
    sessions = kept;
  }
    where
      more : bytes_received 1 (Recv 1 piece ∷ h) ≡ bytes_received 1 h ++ take n (owed parts.device)
      more = received_more piece ∙ ap (λ (x : List ℕ). bytes_received 1 h ++ x) is

      kept : (c : ℕ) → IsKeptAt parts.given (Recv 1 piece ∷ h) c (at c parts.sessions.entries)
      kept c = go (at c parts.sessions.entries) (holds.sessions c)
        where
          go : (o : Option Session) → IsKeptAt parts.given h c o → IsKeptAt parts.given (Recv 1 piece ∷ h) c o
          go None k = none_stays parts.given c (Recv 1 piece) h (λ e. e) (λ gone. gone_recv h c gone 1 piece) k
          go (Some session) k =
              (k.0, record { known = k.1.known; words = k.1.words; within = k.1.within; read = k.1.read; put = k.1.put; alive = k.1.alive })

  -- ---- handed to a session
  pub put_to : (hub : Kept) (c : ℕ) (piece : List ℕ) (new : Parts) → IsLawful hub (Put c piece ∷ h) → new.hub ≡ hub
      → new.device ≡ parts.device
      → new.given ≡ parts.given → Changes c (handed piece) parts.sessions.entries new.sessions.entries → Holds (Put c piece ∷ h) new
  put_to hub c piece new lawful hub_is device_is given_is puts = record {
    lawful = subst (λ (k : Kept). IsLawful k (Put c piece ∷ h)) (sym hub_is) lawful;
    done = subst (HasDone model_setting (bytes_sent 1 h) (bytes_received 1 h)) (sym device_is) holds.done;
    joined = (holds.joined, comes_first);
    here = holds.here;
    plugged_as = holds.plugged_as;
    one = holds.one;
    asks = holds.asks;
    came = holds.came ∙ sym given_is;
    few = subst (λ (g : ℕ). g ≤ most_sessions) (sym given_is) holds.few;
    sessions =
        subst (λ (g : ℕ). (k : ℕ) → IsKeptAt g (Put c piece ∷ h) k (at k new.sessions.entries)) (sym given_is)
        (kept_put parts.given c h piece parts.sessions.entries new.sessions.entries holds.sessions puts);
  }

  -- ---- written by a session
  -- what a session wrote with some of what is left is a front of its words
  wrote_front : (c m : ℕ) (piece : List ℕ) (session : Session) → IsTold h c session → piece ≡ take m (left_of session)
      → IsTold (Read c piece ∷ h) c (wrote (length piece) session) → IsOfSession (bytes_read c (Read c piece ∷ h))
  wrote_front c m piece session told is after = record {
    service = session.service;
    text = text_of session;
    known = told.known;
    front = (
      drop (session.written + length piece) session.words,
      ap (λ (x : List ℕ). x ++ drop (session.written + length piece) session.words) after.read
          ∙ (take-append-drop (session.written + length piece) session.words ∙ told.words),
    );
  }

  pub read_from : (hub : Kept) (c m : ℕ) (piece : List ℕ) (session : Session) (new : Parts) → devices h ≡ model_devices
      → at c parts.sessions.entries ≡ Some session → piece ≡ take m (left_of session) → IsLawful hub (Read c piece ∷ h) → new.hub ≡ hub
      → new.device ≡ parts.device → new.given ≡ parts.given → Changes c (wrote (length piece)) parts.sessions.entries new.sessions.entries
      → Holds (Read c piece ∷ h) new
  read_from hub c m piece session new known is first lawful hub_is device_is given_is puts = record {
    lawful = subst (λ (k : Kept). IsLawful k (Read c piece ∷ h)) (sym hub_is) lawful;
    done = subst (HasDone model_setting (bytes_sent 1 h) (bytes_received 1 h)) (sym device_is) holds.done;
    joined = (holds.joined, comes_first);
    here = holds.here;
    plugged_as = holds.plugged_as;
    one = holds.one;
    asks = (holds.asks, known, wrote_front c m piece session before first after);
    came = holds.came ∙ sym given_is;
    few = subst (λ (g : ℕ). g ≤ most_sessions) (sym given_is) holds.few;
    sessions = subst (λ (g : ℕ). (k : ℕ) → IsKeptAt g (Read c piece ∷ h) k (at k new.sessions.entries)) (sym given_is) kept;
  }
    where
      kept : (k : ℕ) → IsKeptAt parts.given (Read c piece ∷ h) k (at k new.sessions.entries)
      kept = kept_read parts.given c h piece parts.sessions.entries new.sessions.entries holds.sessions session is m first puts

      before : IsTold h c session
      before = (subst (IsKeptAt parts.given h c) is (holds.sessions c)).1

      after : IsTold (Read c piece ∷ h) c (wrote (length piece) session)
      after =
          (subst (IsKeptAt parts.given (Read c piece ∷ h) c) (puts.here ∙ ap (option_map (wrote (length piece))) is) (kept c)).1
