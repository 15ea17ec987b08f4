use Rattle.std.proofs.Common.{ℕ, ◌+◌, ◌≡◌, ◌≤◌, ◌<◌, suc, Option, Some, None, refl, sym, ◌∙◌, subst, arith, inl, inr}
use Rattle.std.proofs.lemmas.Bool.Decides.{nat_tests}
use Rattle.adb_outside.specs.Tables.{at}
use Rattle.adb_stream.specs.declared.row.Stream.{Stream}
use Rattle.adb_stream.specs.Streams.{IsSound, StreamTable}
use Rattle.adb_hub_tables.specs.Endings.{Log}
use Rattle.adb_hub_clients.specs.Stopping.{one_left, recorded_at}
use Rattle.adb_hub_clients.proofs.Recorded.{Stopping, stopping_first, stopping_next, stopping_last}
use Rattle.adb_hub_clients.proofs.stopping.record_all.Goals as goal

-- no stream lives under a number that was not drawn
none_past : (table : StreamTable) → IsSound table → (j : ℕ) → table.drawn < j → at j table.streams ≡ None
none_past table sound j past = by_row (at j table.streams) refl
  where
    by_row : (row : Option Stream) → at j table.streams ≡ row → row ≡ None
    by_row None is = refl
    by_row (Some stream) is = absurd (omega (arith, past, (sound.each j stream is).to))

none_at_zero : (table : StreamTable) → IsSound table → at 0 table.streams ≡ None
none_at_zero table sound = by_row (at 0 table.streams) refl
  where
    by_row : (row : Option Stream) → at 0 table.streams ≡ row → row ≡ None
    by_row None is = refl
    by_row (Some stream) is = absurd (omega (arith, (sound.each 0 stream is).from))

pub loop-left-init : goal.loop-left-init
loop-left-init c =
    let streams = c.args.streams.now in
    subst (λ (n : ℕ). Stopping streams c.args.ends.now 0 n c.args.ends.now) (sym c.len-left.ensures.count)
    (stopping_first streams c.args.ends.now (none_at_zero streams c.are_sound.ensures))

pub loop-left-preserved : goal.loop-left-preserved
loop-left-preserved c =
    let streams = c.args.streams.now in
    let before = c.args.ends.now in
    let id = c.loop-left.id in
    let some : 0 < c.loop-left.ends.spare = grind (arith, nat_tests, c.has_spare.ensures, c.if-has_spare.true) in
    let next = stopping_next c.loop-left.invariant some in
    let number : suc id ≡ id + 1 = omega arith in
    let stepped = subst (λ (n : ℕ). Stopping streams before n (one_left (at n streams.streams) c.loop-left.left)
    (recorded_at n (at n streams.streams) c.loop-left.ends)) number next in
    let counted =
    subst (λ (n : ℕ). Stopping streams before (id + 1) n
    (recorded_at (id + 1) (at (id + 1) streams.streams) c.loop-left.ends))
    (sym c.record_at-left.ensures.left) stepped in
    subst (λ (log : Log). Stopping streams before (id + 1) c.record_at-left.result log) (sym c.record_at-left.ensures.log) counted

pub returns-else-has_spare : goal.returns-else-has_spare
returns-else-has_spare c = λ t is.
    let none : c.loop-left.ends.spare ≡ 0 = grind (arith, nat_tests, c.has_spare.ensures, c.if-has_spare.false) in
    stopping_last c.loop-left.invariant (none_past c.args.streams.now c.are_sound.ensures) (inr (inr none)) t is

pub returns-else-id-lt4294967295 : goal.returns-else-id-lt4294967295
returns-else-id-lt4294967295 c = λ t is.
    let past : c.args.streams.now.drawn ≤ c.loop-left.id = omega (arith, c.are_sound.ensures.drawn, c.if-id-lt4294967295.false) in
    stopping_last c.loop-left.invariant (none_past c.args.streams.now c.are_sound.ensures) (inr (inl past)) t is

pub returns-after-loop-left : goal.returns-after-loop-left
returns-after-loop-left c = λ t is.
    let none : c.loop-left.left ≡ 0 = omega (arith, c.loop-left-test.false) in
    stopping_last c.loop-left.invariant (none_past c.args.streams.now c.are_sound.ensures) (inl none) t is
