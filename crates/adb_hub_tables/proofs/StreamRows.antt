-- What a change of a stream's row makes of the rows that are shown, and of the places.
use Rattle.std.proofs.Common.{ℕ, ◌+◌, ◌≡◌, List, Option, Some, None, refl, sym, ◌∙◌, ap, cond, eqb, arith}
use Rattle.std.specs.Prelude.{option_and_then, option_map, unwrap_or}
use Rattle.std.specs.BTreeMap.{is_at}
use Rattle.std.specs.Ordering.{nat_cmp}
use Rattle.std.proofs.lemmas.Bool.{eq-eqb}
use Rattle.std.proofs.lemmas.Cmp.{nat_cmp_total}
use Rattle.std.proofs.lemmas.Map.Entries.{sum_by-remove_entry, sum_by-insert_entry}
use Rattle.adb_outside.specs.Tables.{at, IsRising, put_at, without, change_row}
use Rattle.adb_outside.proofs.TableLaws.{puts_put_at, puts_without}
use Rattle.adb_stream.specs.Stream.{with_part, of_link}
use Rattle.adb_stream.specs.Streams.{put_part_at, found}
use Rattle.adb_stream.specs.declared.row.Part.{Part}
use Rattle.adb_stream.specs.declared.row.Stream.{Stream}
use Rattle.adb_history.specs.Rows.{none_kept, with_stream_part}
use Rattle.adb_hub_tables.specs.Places.{is_on, streams_on}
use Rattle.adb_hub_tables.proofs.Rows.{rows_put, put_is_change}

module _ (streams : List (ℕ × Stream)) (id : ℕ) (stream : Stream) (here : at id streams ≡ Some stream) where
  own_link : found stream.link id streams ≡ Some stream
  own_link = ap (of_link stream.link) here ∙ ap (λ b. cond b (Some stream) None) (eq-eqb stream.link stream.link refl)

  -- the streams with another part of one
  pub put_part : (part : Part) → put_part_at id part (found stream.link id streams) streams ≡ put_at id (with_part part stream) streams
  put_part part = ap (λ (row : Option Stream). put_part_at id part row streams) own_link

  pub part_rows : (part : Part) → (λ l. at l (put_part_at id part (found stream.link id streams) streams))
      ≡ change_row id (option_and_then (with_stream_part part)) (λ l. at l streams)
  part_rows part =
      ap (λ (table : List (ℕ × Stream)). λ l. at l table) (put_part part)
      ∙ (rows_put id (Some (with_part part stream)) streams (put_at id (with_part part stream) streams)
      (puts_put_at id (with_part part stream) streams)
      ∙ (ap (λ row. λ l. cond (eqb id l) row (at l streams)) (ap (option_and_then (with_stream_part part)) (sym here))
      ∙ put_is_change id (λ l. at l streams) (with_stream_part part)))

  pub gone_rows : IsRising streams → (λ l. at l (without id streams))
      ≡ change_row id (option_and_then (none_kept {A = Stream})) (λ l. at l streams)
  gone_rows rises =
      rows_put id None streams (without id streams) (puts_without id streams rises)
      ∙ (ap (λ row. λ l. cond (eqb id l) row (at l streams)) (ap (option_and_then (none_kept {A = Stream})) (sym here))
      ∙ put_is_change id (λ l. at l streams) (none_kept {A = Stream}))

  pub part_counts : IsRising streams → (k : ℕ) (part : Part)
      → streams_on k (put_part_at id part (found stream.link id streams) streams) ≡ streams_on k streams
  part_counts rises k part =
      let moved = sum_by-insert_entry (is_on k) nat_cmp_total streams id (with_part part stream) rises in
      let was : unwrap_or (option_map (is_on k) (at id streams)) 0 ≡ is_on k stream =
      ap (λ row. unwrap_or (option_map (is_on k) row) 0) here in
      ap (streams_on k) (put_part part) ∙ omega (arith, moved, was)

  pub gone_counts : (k : ℕ) → streams_on k (without id streams) + is_on k stream ≡ streams_on k streams
  gone_counts k =
      let moved = sum_by-remove_entry (is_on k) (is_at (nat_cmp id)) streams in
      let was : unwrap_or (option_map (is_on k) (at id streams)) 0 ≡ is_on k stream =
      ap (λ row. unwrap_or (option_map (is_on k) row) 0) here in
      omega (arith, moved, was)
