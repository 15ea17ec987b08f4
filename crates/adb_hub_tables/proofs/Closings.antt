-- How clients close.
use Rattle.std.proofs.Common.{ℕ, ◌≡◌, ◌++◌, List, [], ◌∷◌, Bool, true, false, Option, Some, None, refl, sym, ap, cond, eqb}
use Rattle.std.specs.Prelude.{option_and_then, codes}
use Rattle.adb_outside.specs.Tables.{Rows, change_row}
use Rattle.adb_reply.specs.Strings.{failed}
use Rattle.adb_stream.specs.declared.row.Stream.{Stream}
use Rattle.adb_history.specs.Rows.{Client, State, to_stream, none_kept}
use Rattle.adb_history.specs.declared.ending.Ending.{Ending}
use Rattle.adb_history.specs.Links.{close_packet, owe_link}
use Rattle.adb_history.specs.Clients.{closing_with}
use Rattle.adb_history.specs.Streams.{client_loses, ends_telling}
use Rattle.adb_hub_tables.specs.Tables.{shut_row, refused}
use Rattle.adb_history.proofs.OwnedStep.{tells_end_state as told_state}

shut_with : (due fail : List ℕ) (b : ℕ) (row : Client) → row.due ≡ due ++ b ∷ fail
    → closing_with (due ++ b ∷ fail) row ≡ Some (shut_row row)
shut_with [] fail b row is = ap (λ bytes. Some (record (shut_row row) { due = bytes })) (sym is)
shut_with (a ∷ due) fail b row is = ap (λ bytes. Some (record (shut_row row) { due = bytes })) (sym is)

-- a client to which more is due is shut, and not gone
pub refused_is : (row : Client) → refused row ≡ Some (shut_row (record row { due = row.due ++ (failed (codes "closed")).bytes }))
refused_is row = shut_with row.due _ _ (record row { due = row.due ++ (failed (codes "closed")).bytes }) refl

-- two changes of a row are one
pub fused : {A : Type 0} (n : ℕ) (f g h : A → Option A) (rows : Rows (Option A)) → ((row : A) → option_and_then f (g row) ≡ h row)
    → change_row n (option_and_then h) rows ≡ change_row n (option_and_then f) (change_row n (option_and_then g) rows)
fused {A} n f g h rows both i k = at_place k i
  where
    at_row : (row : Option A) → option_and_then h row ≡ option_and_then f (option_and_then g row)
    at_row None = refl
    at_row (Some row) = sym (both row)

    by_test : (b : Bool) (row : Option A) → cond b (option_and_then h row) row
        ≡ cond b (option_and_then f (cond b (option_and_then g row) row)) (cond b (option_and_then g row) row)
    by_test true row = at_row row
    by_test false row = refl

    at_place : (k : ℕ) → change_row n (option_and_then h) rows k
        ≡ change_row n (option_and_then f) (change_row n (option_and_then g) rows) k
    at_place k = by_test (eqb n k) (rows k)

-- the row goes before the device is told, or behind it
pub telling_is : (l : ℕ) (ending : Ending) (stream : Stream) (s : State)
    → (let then = (owe_link stream.link (close_packet l stream.part.remote) (to_stream l none_kept s)).state in
    (client_loses (then.clients stream.client) stream.client then).state) ≡ (ends_telling l ending stream s).state
telling_is l ending stream s =
    ap (λ (then : State). (client_loses (then.clients stream.client) stream.client then).state)
    (sym (told_state stream.part.orphan l ending
    (to_stream l none_kept (owe_link stream.link (close_packet l stream.part.remote) s).state)))
