-- The SENDs that are cut from bytes have paths of at most 1,024 bytes.
use Rattle.std.specs.Prelude.{ℕ, ◌≡◌, ◌≤◌, cond, Bool, true, false, List, [], ◌∷◌, ◌++◌, length, take, drop, Option, Some, None, Result, Ok}
use Rattle.std.specs.Prelude.{Err}
use Rattle.std.proofs.Common.{sym, subst, arith}
use Rattle.std.specs.List.{AllByRecursion}
use Rattle.std.proofs.lemmas.List.{length-take, length-drop}
use Rattle.adb_outside.specs.declared.framer.Front.TheVariants.{Whole}
use Rattle.adb_outside.specs.Framing.{held_after}
use Rattle.adb_outside.proofs.CutLaws.{right}
use Rattle.adb_sync.specs.declared.ask.SyncAsk.{SyncAsk}
use Rattle.adb_sync.specs.declared.error.SyncFault.{SyncFault}
use Rattle.adb_sync.specs.declared.error.SyncRule.{SyncRule}
use Rattle.adb_sync.specs.declared.error.SyncRule.TheVariants.{PathTooLong, BadPlace}
use Rattle.adb_sync.specs.declared.layout.Layout.{Layout}
use Rattle.adb_sync.specs.declared.ask_id.AskId.{AskId}
use Rattle.adb_sync.specs.declared.ask_id.AskId.TheVariants as ids
use Rattle.adb_sync.specs.declared.ask_format.AskFormat.{AskFormat}
use Rattle.adb_sync.specs.Messages.{number_at, last_comma}
use Rattle.adb_sync.specs.Asks.{AskReading, ask_front, ask_of, ask_by, past_ask, ask_layout, ask_in_place, asked_at, is_in_place, ask_id_of}
use Rattle.adb_sync.specs.Asks.{asks_from, send_cut}
use Rattle.adb_sync.specs.Framed.{asks_are_framed, ask_heads, framed_message, IsBehind}
use Rattle.adb_sync.proofs.Messages.{is_within}
use Rattle.adb_files.specs.Service.{HasShortPath}

-- the path of a text of so many bytes
cut_short : (text : List ℕ) → length text ≤ 1024 → HasShortPath (send_cut text (last_comma text))
cut_short text h = go (last_comma text)
  where
    go : (comma : Option ℕ) → HasShortPath (send_cut text comma)
    go None = h
    go (Some i) = omega (arith, length-take i text)

-- the text behind the id of a SEND
send_short : (bytes : List ℕ) → IsBehind (ask_layout ids.Send) (drop 4 bytes)
    → HasShortPath (send_cut (drop 8 bytes) (last_comma (drop 8 bytes)))
send_short bytes h =
    cut_short (drop 8 bytes)
    (omega (
      arith,
      h.size,
      is_within 1024 (number_at 0 (drop 4 bytes)) PathTooLong h.number,
      length-drop 4 bytes,
      length-drop 8 bytes,
    ))

frame_short : (s : AskFormat) (frame : List ℕ) → ask_front s frame ≡ Whole (length frame) → HasShortPath (ask_of s frame)
frame_short s frame found =
    let m = framed_message (λ format. format.offset) asked_at ask_heads s frame found in
    go m.layout m.behind (ask_id_of (take 4 frame)) m.known
  where
    go : (layout : Layout) → IsBehind layout (drop 4 frame) → (id : Option AskId) → ask_in_place s.sending id ≡ Ok layout
        → HasShortPath (ask_by id (number_at 4 frame) (drop 8 frame))
    go layout behind None e = tt
    go layout behind (Some ids.Stat) e = tt
    go layout behind (Some ids.List) e = tt
    go layout behind (Some ids.Recv) e = tt
    go layout behind (Some ids.Data) e = tt
    go layout behind (Some ids.Done) e = tt
    go layout behind (Some ids.Quit) e = tt
    go layout behind (Some ids.Send) e = by (is_in_place s.sending ids.Send) e
      where
        by : (t : Bool) → cond {A = Result Layout SyncRule} t (Ok (ask_layout ids.Send)) (Err BadPlace) ≡ Ok layout
            → HasShortPath (send_cut (drop 8 frame) (last_comma (drop 8 frame)))
        by false h = absurd (cc)
        by true h = let same : ask_layout ids.Send ≡ layout =
            cc in send_short frame (subst (λ (l : Layout). IsBehind l (drop 4 frame)) (sym same) behind)

abbrev GivesShort : AskFormat → List ℕ → AskReading → Type 0
GivesShort s bytes c = AllByRecursion HasShortPath c.given

asks_short : (s : AskFormat) (bytes : List ℕ) → GivesShort s bytes (asks_from s bytes)
asks_short s bytes = right ask_front ask_of past_ask asks_are_framed (λ s bytes. Unit {0}) GivesShort (record {
  stays = λ s frame more found reads. tt;
  stops = λ s bytes fault reads stop. tt;
  goes = λ s frame more c found reads others. (frame_short s frame found, others);
}) s bytes tt

short_append : (xs ys : List SyncAsk) → AllByRecursion HasShortPath xs → AllByRecursion HasShortPath ys
    → AllByRecursion HasShortPath (xs ++ ys)
short_append [] ys left right = right
short_append (x ∷ xs) ys left right = (left.0, short_append xs ys left.1 right)

pub short_after : (held : AskReading) (piece : List ℕ) (fault : Option SyncFault) → AllByRecursion HasShortPath held.given
    → AllByRecursion HasShortPath (held_after ask_front ask_of past_ask held piece fault).given
short_after held piece None all = short_append held.given _ all (asks_short held.reading (held.rest ++ piece))
short_after held piece (Some fault) all = all
