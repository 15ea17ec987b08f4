-- Parts in which a step failed: the history that the device was fed by then.
use Rattle.std.specs.Prelude.{ℕ, ◌≡◌, List, [], ◌∷◌, ◌++◌, length, drop}
use Rattle.std.proofs.Common.{refl, sym, ◌∙◌, ap, subst, append_assoc}
use Rattle.std.proofs.lemmas.List.{append-nil}
use Rattle.std.proofs.Math.Seq.{drop-append_seam}
use Rattle.adb_capture.specs.declared.entry.Entry.TheVariants.{Send}
use Rattle.adb_wire.specs.declared.packets.Packet.{Packet}
use Rattle.adb_files.specs.Entries.{Entry as File}
use Rattle.adb_wire.specs.Cutting.{parts_of}
use Rattle.adb_laws_births.specs.Brought.{framed_front}
use Rattle.adb_history.specs.Bytes.{sent}
use Rattle.adb_history.specs.Machine.{History, IsLegal}
use Rattle.adb_daemon.specs.Daemon.{CutAt, CutsOff, files_of}
use Rattle.adb_daemon.specs.Device.{Setting, device_behind}
use Rattle.adb_daemon.proofs.Feeding.{cut_at_none}
use Rattle.adb_laws_answers.specs.Model.{model_setting}
use Rattle.adb_world.specs.Parts.{Holds}
use Rattle.adb_laws_alone.specs.Calls.{asks_in}
use Rattle.adb_world.specs.Session.{IsTold, text_of}
use Rattle.adb_world.specs.Together.{AreAskedInPart}
use Rattle.adb_world.specs.Settled.{GoesOn}
use Rattle.adb_world.specs.Stopped.{Fails, HasStopped}
use Rattle.adb_world.specs.declared.parts.Parts.{Parts}
use Rattle.adb_world.specs.declared.session.Session.{Session}
use Rattle.adb_world.proofs.Entries.{comes_first}
use Rattle.adb_world.proofs.Files.{files_behind}
use Rattle.adb_world.proofs.Later.{IsLater}

-- ---- what was treated before, and what came more
module _ (setting : Setting) (files : List File) where
  -- some of the new packets had been treated before
  pub cut_before : (before q mid all : List Packet) → before ++ q ≡ mid → CutsOff setting mid all files → CutsOff setting before all files
  cut_before before q mid all is c = record {
    more = q ++ c.more;
    rest = c.rest;
    is = c.is ∙ ap (λ (ps : List Packet). ps ++ c.rest) same;
    files = subst (λ (ps : List Packet). CutAt c.rest (device_behind setting ps).serving files) same c.files;
  }
    where
      same : mid ++ c.more ≡ before ++ (q ++ c.more)
      same = ap (λ (ps : List Packet). ps ++ c.more) (sym is) ∙ append_assoc before q c.more

  -- more packets came behind those that were cut off
  pub cut_more : (before all others whole : List Packet) → all ++ others ≡ whole → CutsOff setting before all files
      → CutsOff setting before whole files
  cut_more before all others whole is c = record {
    more = c.more;
    rest = c.rest ++ others;
    is = sym is ∙ (ap (λ (ps : List Packet). ps ++ others) c.is ∙ append_assoc (before ++ c.more) c.rest others);
    files = go c.rest c.files;
  }
    where
      go : (rest : List Packet) → CutAt rest (device_behind setting (before ++ c.more)).serving files
          → CutAt (rest ++ others) (device_behind setting (before ++ c.more)).serving files
      go [] same = cut_at_none others (device_behind setting (before ++ c.more)).serving files same
      go (p ∷ rest) cut = cut

  -- all packets were treated
  pub cut_none : (all : List Packet) → files ≡ (device_behind setting all).serving.files → CutsOff setting all all files
  cut_none all same = record {
    more = [];
    rest = [];
    is = sym (append-nil (all ++ []) ∙ append-nil all);
    files = same ∙ ap (λ (ps : List Packet). (device_behind setting ps).serving.files) (sym (append-nil all));
  }

  -- the packets that came more are those that were treated, and those that were not
  pub cut_is : (before ps all : List Packet) → before ++ ps ≡ all → (c : CutsOff setting before all files) → ps ≡ c.more ++ c.rest
  cut_is before ps all is c =
      sym (drop-append_seam before ps)
      ∙ (ap (drop (length before)) (is ∙ (c.is ∙ append_assoc before c.more c.rest)) ∙ drop-append_seam before (c.more ++ c.rest))

-- ---- bytes that come in two slices
module _ (fed start rest out : List ℕ) (is : start ++ rest ≡ out) (files : List File) where
  all : (fed ++ start) ++ rest ≡ fed ++ out
  all = append_assoc fed start rest ∙ ap (λ (bytes : List ℕ). fed ++ bytes) is

  -- memory ran out in the first
  pub fed_first : CutsOff model_setting (parts_of fed).packets (parts_of (fed ++ start)).packets files
      → CutsOff model_setting (parts_of fed).packets (parts_of (fed ++ out)).packets files
  fed_first cut =
      let more = framed_front (fed ++ start) rest in
      cut_more model_setting files (parts_of fed).packets (parts_of (fed ++ start)).packets more.0 (parts_of (fed ++ out)).packets
      (more.1 ∙ ap (λ (bytes : List ℕ). (parts_of bytes).packets) all) cut

  -- or in the second
  pub fed_last : CutsOff model_setting (parts_of (fed ++ start)).packets (parts_of ((fed ++ start) ++ rest)).packets files
      → CutsOff model_setting (parts_of fed).packets (parts_of (fed ++ out)).packets files
  fed_last cut =
      let first = framed_front fed start in
      cut_before model_setting files (parts_of fed).packets first.0 (parts_of (fed ++ start)).packets
      (parts_of (fed ++ out)).packets first.1
      (subst (λ (bytes : List ℕ). CutsOff model_setting (parts_of (fed ++ start)).packets (parts_of bytes).packets files) all cut)

-- parts that hold a history treated all of it
pub cut_held : (g : History) (parts : Parts) (files : List File) → Holds g parts → files ≡ files_of parts.device
    → CutsOff model_setting (sent 1 g) (sent 1 g) files
cut_held g parts files holds same = cut_none model_setting files (sent 1 g) (same ∙ files_behind g parts.device holds.done)

-- ---- one entry more by which the device is fed
pub told_sent : (g : History) (piece : List ℕ) (c : ℕ) (session : Session) → IsTold g c session → IsTold (Send 1 piece ∷ g) c session
told_sent g piece c session told =
    record { known = told.known; words = told.words; within = told.within; read = told.read; put = told.put; alive = told.alive }

pub later_sent : (old : Parts) (h more : History) (mid : Parts) (piece : List ℕ) → Holds (more ++ h) mid
    → IsLegal (Send 1 piece ∷ more ++ h)
    → IsLater old h more → IsLater old h (Send 1 piece ∷ more)
later_sent old h more mid piece holds legal later = record {
  legal = legal;
  sessions = later.sessions;
  joined = (later.joined, comes_first (more ++ h) mid holds);
  came = later.came;
  told = λ c session is. record {
    now = (later.told c session is).now;
    same = (later.told c session is).same;
    told = told_sent (more ++ h) piece c (later.told c session is).now (later.told c session is).told;
  };
}

-- ---- a step failed after others
pub stops : (old mid new : Parts) → GoesOn old mid → Fails mid new → HasStopped old new
stops old mid new goes fails = record { mid = mid; goes = goes; fails = fails }

-- where nothing is asked the files stay
pub none_asked : (files : List File) (sessions : List (ℕ × Session)) → AreAskedInPart files files sessions
none_asked files sessions = record {
  calls = [];
  left_files = refl;
  asked = λ n u kind known. (asks_in kind (text_of u.session), refl);
  only = tt;
}
