-- All streams end by a kill: what a log records, stream after stream.
use Rattle.std.proofs.Common.{ℕ, ◌+◌, ◌-◌, ◌≡◌, ◌≤◌, ◌<◌, List, [], ◌++◌, Bool, true, false, Option, Some, None, refl, sym, ◌∙◌, ap, subst}
use Rattle.std.proofs.Common.{cond, arith, ◌∷◌, ◌⊎◌, inl, inr, zero, suc, length}
use Rattle.std.proofs.lemmas.List.{append-nil}
use Rattle.adb_outside.specs.Tables.{Rows, at}
use Rattle.adb_stream.specs.declared.row.Stream.{Stream}
use Rattle.adb_stream.specs.Streams.{StreamTable}
use Rattle.adb_history.specs.declared.ending.Ending.TheVariants.{Stopped}
use Rattle.adb_history.specs.Events.{Event, ended}
use Rattle.adb_history.specs.Losing.{all_stop, tells_stop}
use Rattle.adb_hub_tables.specs.declared.tables.Tables.{Tables}
use Rattle.adb_hub_tables.specs.Places.{StaysOwned}
use Rattle.adb_hub_tables.specs.Endings.{Log, Watches, Records, add, add_at, add_unless, ended_of, logged, live, one_if}
use Rattle.adb_hub_tables.proofs.Reporting.{logged_then, more_live, live_listed, same_end, has_place}
use Rattle.adb_hub_clients.specs.Stopping.{recorded_at, one_left}

-- ---- where no stream lives nothing more is told
pub stop_more : (k m : ℕ) (rows : Rows (Option Stream)) → ((j : ℕ) → k < j → rows j ≡ None) → all_stop (m + k) rows ≡ all_stop k rows
stop_more k zero rows none = let same : 0 + k ≡ k = omega arith in ap (λ (n : ℕ). all_stop n rows) same
stop_more k (suc m) rows none =
    ap (λ (n : ℕ). all_stop n rows) (next m k)
    ∙ (ap (λ (row : Option Stream). all_stop (m + k) rows ++ tells_stop (suc (m + k)) row) (none (suc (m + k)) (omega arith))
    ∙ (append-nil (all_stop (m + k) rows) ∙ stop_more k m rows none))
  where
    next : (m k : ℕ) → suc m + k ≡ suc (m + k)
    next m k = omega arith

-- where no more live than below a number, none lives above it
none_if : (row : Option Stream) → one_if row ≡ 0 → row ≡ None
none_if None is = refl
none_if (Some stream) is = absurd (omega (arith, is))

pub none_above : (k : ℕ) (rows : Rows (Option Stream)) → ((n : ℕ) → live n rows ≤ live (suc k) rows) → (j : ℕ) → k < j → rows j ≡ None
none_above k rows most j above =
    let more = more_live rows (suc k) (j - suc k) in
    let same : live (suc k + (j - suc k)) rows ≡ live j rows = ap (λ (n : ℕ). live n rows) (omega (arith, above)) in
    none_if (rows j) (omega (arith, most (suc j), more, same))

-- ---- one stream more
-- So many of the streams were looked at, and this is recorded of them.
pub record Stopping (streams : StreamTable) (before : Log) (id left : ℕ) (now : Log) : Type 0 where
  pub count : left + live (suc id) (λ l. at l streams.streams) ≡ length streams.streams
  pub spare : before.spare ≤ now.spare + live (suc id) (λ l. at l streams.streams)
  pub log : (t : Tables) → t.streams ≡ streams → (rows : Rows (Option Stream)) → Watches rows before t
      → now ≡ logged rows (all_stop id (λ l. at l streams.streams)) before

pub stopping_first : (streams : StreamTable) (before : Log) → at 0 streams.streams ≡ None
    → Stopping streams before 0 (length streams.streams) before
stopping_first streams before none =
    let one : live 1 (λ l. at l streams.streams) ≡ 0 + one_if (at 0 streams.streams) = refl in
    let gone : one_if (at 0 streams.streams) ≡ 0 = ap one_if none in
    let zero_live : live 1 (λ l. at l streams.streams) ≡ 0 = omega (arith, one, gone) in
    record {
      count = omega (arith, zero_live);
      spare = omega (arith, zero_live);
      log = λ t is rows watches. refl;
    }

module _ {streams : StreamTable} {before : Log} {id left : ℕ} {now : Log} (h : Stopping streams before id left now)
    (some : 0 < now.spare) where
  abbrev pub rows_of : Rows (Option Stream)
  rows_of l = at l streams.streams

  told_then : (t : Tables) → t.streams ≡ streams → (rows : Rows (Option Stream)) → Watches rows before t
      → (row : Option Stream) → rows_of (suc id) ≡ row
      → recorded_at (suc id) row now ≡ logged rows (tells_stop (suc id) row) now
  told_then t is rows watches None here = refl
  told_then t is rows watches (Some stream) here = by_orphan stream.part.orphan
    where
      there : at (suc id) t.streams.streams ≡ Some stream
      there = ap (λ (table : StreamTable). at (suc id) table.streams) is ∙ here

      by_orphan : (b : Bool) → add_unless b (ended_of (suc id) Stopped stream) now
          ≡ logged rows (cond b [] (ended (suc id) Stopped ∷ [])) now
      by_orphan true = refl
      by_orphan false =
          has_place (ended_of (suc id) Stopped stream) now some
          ∙ same_end (suc id) Stopped stream now (rows (suc id)) (at (suc id) t.streams.streams) (watches.owned (suc id)) there

  pub stopping_next : Stopping streams before (suc id) (one_left (rows_of (suc id)) left) (recorded_at (suc id) (rows_of (suc id)) now)
  stopping_next = record {
    count = counts (rows_of (suc id)) refl;
    spare = spares (rows_of (suc id)) refl;
    log = λ t is rows watches.
        told_then t is rows watches (rows_of (suc id)) refl
        ∙ (ap (logged rows (tells_stop (suc id) (rows_of (suc id)))) (h.log t is rows watches)
        ∙ sym (logged_then rows (all_stop id rows_of) (tells_stop (suc id) (rows_of (suc id))) before));
  }
    where
      within : live (suc (suc id)) rows_of ≤ length streams.streams
      within = live_listed (suc (suc id)) streams.streams

      counts : (row : Option Stream) → rows_of (suc id) ≡ row → one_left row left + live (suc (suc id)) rows_of ≡ length streams.streams
      counts None here = let none : one_if (rows_of (suc id)) ≡ 0 = ap one_if here in omega (arith, h.count, none)
      counts (Some stream) here = let one : one_if (rows_of (suc id)) ≡ 1 = ap one_if here in omega (arith, h.count, one, within)

      unless_spare : (b : Bool) (stream : Stream) → now.spare ≤ (add_unless b (ended_of (suc id) Stopped stream) now).spare + 1
      unless_spare true stream = omega arith
      unless_spare false stream =
          let more : (add_unless false (ended_of (suc id) Stopped stream) now).spare ≡ now.spare - 1 =
          ap (λ (log : Log). log.spare) (has_place (ended_of (suc id) Stopped stream) now some) in
          omega (arith, more)

      spares : (row : Option Stream) → rows_of (suc id) ≡ row
          → before.spare ≤ (recorded_at (suc id) row now).spare + live (suc (suc id)) rows_of
      spares None here = let none : one_if (rows_of (suc id)) ≡ 0 = ap one_if here in omega (arith, h.spare, none)
      spares (Some stream) here =
          let one : one_if (rows_of (suc id)) ≡ 1 = ap one_if here in
          omega (arith, h.spare, one, unless_spare stream.part.orphan stream)

-- ---- none is left
-- all that live were looked at
pub stopping_last : {streams : StreamTable} {before : Log} {id left : ℕ} {now : Log} → Stopping streams before id left now
    → ((j : ℕ) → streams.drawn < j → at j streams.streams ≡ None)
    → (left ≡ 0) ⊎ ((streams.drawn ≤ id) ⊎ (now.spare ≡ 0))
    → (t : Tables) → t.streams ≡ streams → Records (all_stop streams.drawn (λ l. at l streams.streams)) before t now
stopping_last {streams} {before} {id} {left} {now} h drawn ends t is = record {
  is = λ rows watches. h.log t is rows watches ∙ ap (λ told. logged rows told before) (told_all (above ends (places watches)));
}
  where
    rows_of : Rows (Option Stream)
    rows_of l = at l streams.streams

    places : {rows : Rows (Option Stream)} → Watches rows before t → (n : ℕ) → live n rows_of ≤ before.spare
    places watches n = subst (λ (table : StreamTable). live n (λ l. at l table.streams) ≤ before.spare) is (watches.places n)

    above : (left ≡ 0) ⊎ ((streams.drawn ≤ id) ⊎ (now.spare ≡ 0)) → ((n : ℕ) → live n rows_of ≤ before.spare)
        → (j : ℕ) → id < j → rows_of j ≡ None
    above (inl none) places = none_above id rows_of (λ n. omega (arith, live_listed n streams.streams, h.count, none))
    above (inr (inl past)) places = λ j more. drawn j (omega (arith, past, more))
    above (inr (inr none)) places = none_above id rows_of (λ n. omega (arith, places n, h.spare, none))

    told_all : ((j : ℕ) → id < j → rows_of j ≡ None) → all_stop id rows_of ≡ all_stop streams.drawn rows_of
    told_all none = by_order (order id streams.drawn)
      where
        order : (a b : ℕ) → (a ≤ b) ⊎ (b < a)
        order a b = grind arith

        by_order : (id ≤ streams.drawn) ⊎ (streams.drawn < id) → all_stop id rows_of ≡ all_stop streams.drawn rows_of
        by_order (inl le) =
            let sum : streams.drawn - id + id ≡ streams.drawn = omega (arith, le) in
            sym (stop_more id (streams.drawn - id) rows_of none) ∙ ap (λ (n : ℕ). all_stop n rows_of) sum
        by_order (inr above) =
            let sum : id ≡ id - streams.drawn + streams.drawn = omega (arith, above) in
            ap (λ (n : ℕ). all_stop n rows_of) sum ∙ stop_more streams.drawn (id - streams.drawn) rows_of drawn
