-- Packets by which no file of the device changes.
use Rattle.std.specs.Prelude.{ℕ, ◌≡◌, Bool, true, false, cond, fold, List, [], ◌∷◌, length, drop, Option, Some, None}
use Rattle.std.proofs.Common.{refl, ◌∙◌, ap}
use Rattle.std.proofs.lemmas.List.{append-nil}
use Rattle.adb_wire.specs.declared.command.Command.{Command}
use Rattle.adb_wire.specs.declared.command.Command.TheVariants.{Open, Okay, Wrte, Clse}
use Rattle.adb_wire.specs.declared.packets.Packet.{Packet}
use Rattle.adb_wire.specs.Format.{is_cnxn}
use Rattle.adb_files.specs.Entries.{Entry}
use Rattle.adb_files.specs.Requests.{Request, requests_in}
use Rattle.adb_files.specs.Served.{serve_all}
use Rattle.adb_device_streams.specs.Asked.{Kind, Echoes, Syncs, Shells}
use Rattle.adb_device_streams.specs.Link.{credit_word_in, link_of}
use Rattle.adb_device_streams.specs.Service.{Came, bytes_in, came_over, completed_by, files_fed, sync_answer, sync_files, served_by}
use Rattle.adb_device_streams.specs.Stream.{Row, is_done, row_acked, row_took, row_written}
use Rattle.adb_device_streams.specs.declared.link.Link.{Link}
use Rattle.adb_daemon.specs.Device.{Device, Setting, linked_to, served_on, step, treated}
use Rattle.adb_daemon.specs.Serving.{Serving, acked_to, closable, closed_to, granted, named, owing, sent_writes, served, settled}
use Rattle.adb_daemon.specs.Serving.{settled_as, written_to}
use Rattle.adb_outside.specs.Tables.{at}

-- no stream is asked for, and nothing is written
abbrev pub LeavesFiles : Command → Packet → Type 0
LeavesFiles Open p = ⊥
LeavesFiles Wrte p = p.payload ≡ []
LeavesFiles _ p = Unit {0}

abbrev pub AllLeaveFiles : List Packet → Type 0
AllLeaveFiles [] = Unit {0}
AllLeaveFiles (p ∷ ps) = LeavesFiles p.command p × AllLeaveFiles ps

drop_all : {X : Type 0} (xs : List X) → drop (length xs) xs ≡ []
drop_all [] = refl
drop_all (x ∷ xs) = drop_all xs

-- nothing that comes makes no request whole
pub none_completed : (before : List ℕ) → completed_by before [] ≡ []
none_completed before =
    ap (λ (x : List ℕ). drop (length (requests_in before)) (requests_in x)) (append-nil before) ∙ drop_all (requests_in before)

pub fed_none : (kind : Kind) (past : List Came) (payload : List ℕ) (files : List Entry) → payload ≡ []
    → files_fed kind past (came_over payload files) ≡ files
fed_none Echoes past payload files none = refl
fed_none (Shells packets command) past payload files none = refl
fed_none Syncs past payload files none = go (sync_answer past).ended
  where
    served_none : (served_by past (came_over payload files)).files ≡ files
    served_none =
        ap (λ (x : List ℕ). (serve_all files (completed_by (bytes_in past) x)).files) none
        ∙ ap (λ (rs : List Request). (serve_all files rs).files) (none_completed (bytes_in past))

    go : (b : Bool) → sync_files b files (served_by past (came_over payload files)) ≡ files
    go true = refl
    go false = served_none

settled_as_files : (b : Bool) (link : Link) (own : ℕ) (row : Row) (s : Serving) → (settled_as b link own row s).files ≡ s.files
settled_as_files true link own row s = refl
settled_as_files false link own row s = refl

settled_files : (link : Link) (own : ℕ) (row : Row) (s : Serving) → (settled link own row s).files ≡ s.files
settled_files link own row s =
    settled_as_files (is_done (row_written link.most row)) link own (row_written link.most row)
    (owing (sent_writes link own row) s)

module _ (link : Link) (p : Packet) (s : Serving) where
  written_files : (o : Option Row) → p.payload ≡ [] → (written_to link p o s).files ≡ s.files
  written_files None none = refl
  written_files (Some row) none =
      settled_files link p.arg1 (row_took (came_over p.payload s.files) row) _ ∙ fed_none row.kind row.past p.payload s.files none

  acked_files : (o : Option Row) → (acked_to link p o s).files ≡ s.files
  acked_files None = refl
  acked_files (Some row) =
      settled_files link p.arg1 (row_acked (credit_word_in p.payload) row) (granted p.arg1 (credit_word_in p.payload) s)

  closed_files : (o : Option Row) → (closed_to p.arg1 o s).files ≡ s.files
  closed_files None = refl
  closed_files (Some row) = refl

  served_files : (command : Command) → LeavesFiles command p → (served command link p s).files ≡ s.files
  served_files Open leaves = absurd leaves
  served_files Wrte leaves = written_files (named p.arg0 (at p.arg1 s.rows)) leaves
  served_files Okay leaves = acked_files (named p.arg0 (at p.arg1 s.rows))
  served_files Clse leaves = closed_files (closable p.arg0 (at p.arg1 s.rows))
  served_files _ leaves = refl

module _ (setting : Setting) where
  step_files : (d : Device) (p : Packet) → LeavesFiles p.command p → (step setting d p).serving.files ≡ d.serving.files
  unfolding step
  step_files d p leaves = refused d.refused
    where
      linked : (o : Option Link) → (linked_to o d).serving.files ≡ d.serving.files
      linked None = refl
      linked (Some link) = refl

      on : (o : Option Link) → (served_on o p d).serving.files ≡ d.serving.files
      on None = refl
      on (Some link) = served_files link p d.serving p.command leaves

      treats : (b : Bool)
          → (cond b (linked_to (link_of setting.most setting.credit p) d) (served_on d.link p d)).serving.files
          ≡ d.serving.files
      treats true = linked (link_of setting.most setting.credit p)
      treats false = on d.link

      refused : (b : Bool) → (cond b d (treated setting p d)).serving.files ≡ d.serving.files
      refused true = refl
      refused false = treats (is_cnxn p.command)

  pub quiet_files : (d : Device) (ps : List Packet) → AllLeaveFiles ps → (fold (step setting) d ps).serving.files ≡ d.serving.files
  quiet_files d [] leave = refl
  quiet_files d (p ∷ ps) leave = quiet_files (step setting d p) ps leave.1 ∙ step_files d p leave.0
