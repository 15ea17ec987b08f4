use Rattle.std.proofs.Common.{rules, ap, ◌∙◌, subst, ◌≡◌, ◌+◌, ◌<◌, ◌^◌, arith, sym}
use Rattle.std.proofs.lemmas.Result.{err_from_is_err_and}
use Rattle.adb_outside.specs.Tables.{at, IsRising, put_at}
use Rattle.adb_stream.specs.Stream.{new_stream}
use Rattle.adb_stream.specs.Streams.{IsSound}
use Rattle.adb_stream.specs.declared.flow.Flow.{Flow}
use Rattle.adb_stream.specs.declared.row.Stream.{Stream}
use Rattle.adb_stream.proofs.Shelves.{Kept, sound, none_placed}
use Rattle.adb_stream.proofs.Changes.{Stays, stays_indexed, stays_streams}
use Rattle.adb_stream.proofs.Calls.{Adds, added_indexed, added_streams}
use Rattle.adb_stream.proofs.streams.Streams.draw.Goals as goal

pub returns-in_default-clause-sound : goal.returns-in_default-clause-sound
returns-in_default-clause-sound c =
    subst IsSound c.self.view_is (sound (record { drawn = c.self.inside.drawn; shelf = c.self.inside.shelf; indexed = c.self.invariant }))

abbrev before : (c : goal.After-from_residual) → Kept
before c = record { drawn = c.self.inside.drawn; shelf = c.self.inside.shelf; indexed = c.self.invariant }

stays : (c : goal.After-from_residual) → Stays (before c) c.add.new.self
stays c =
    let next : c.in-Some.id ≡ c.self.inside.drawn + 1 = search rules in
    let e = c.in_err-add.ensures in
    record {
      keys = ap (λ entries id. at id entries) e.err_keys;
      slots = e.err_slots;
      index = e.err_index (none_placed (before c) c.args.link c.in-Some.id (omega arith));
      rises = subst IsRising (sym e.err_keys) c.self.invariant.rises;
    }

pub invariant_of-self : goal.invariant_of-self
invariant_of-self c = stays_indexed (before c) c.add.new.self (stays c)

pub returns-in_err-add-clause-err : goal.returns-in_err-add-clause-err
returns-in_err-add-clause-err c =
    let p = err_from_is_err_and c.from_residual.result c.from_residual.ensures.1 in
    let same = stays_streams (before c) c.add.new.self (stays c) in
    rw p.1 ((λ i. record { drawn = c.self.inside.drawn; streams = same i }) ∙ c.self.view_is)

pub returns-in_err-add-clause-sound : goal.returns-in_err-add-clause-sound
returns-in_err-add-clause-sound c = sound (record { drawn = c.self.inside.drawn; shelf = c.add.new.self; indexed = invariant_of-self c })

abbrev old : (c : goal.After-self-1) → Kept
old c = record { drawn = c.self.inside.drawn; shelf = c.self.inside.shelf; indexed = c.self.invariant }

abbrev stream : (c : goal.After-self-1) (flow : Flow) → Stream
stream c flow = new_stream c.in-Some.id c.args.client c.args.link flow

next : (c : goal.After-self-1) → c.in-Some.id ≡ c.self.inside.drawn + 1
next c = search rules

fits : (c : goal.After-self-1) → c.in-Some.id < 2 ^ 32
fits c = search rules

unfoldable adds : (c : goal.After-self-1) → Adds (old c) c.add.new.self
adds c = record {
  key = c.in_ok-add.field-0;
  stream = stream c c.new.result;
  next = next c;
  fits = fits c;
  vacant = c.in_ok-add.ensures.vacant;
  keys = c.in_ok-add.ensures.keys;
  slots = c.in_ok-add.ensures.slots;
  index = c.in_ok-add.ensures.index;
  rises = c.in_ok-add.ensures.rises;
}

pub invariant_of-self-2 : goal.invariant_of-self-2
unfolding adds
invariant_of-self-2 c = added_indexed (old c) c.add.new.self (adds c)

pub returns-clause-after : goal.returns-clause-after
unfolding adds
returns-clause-after c =
    (λ i. record { drawn = c.in-Some.id; streams = added_streams (old c) c.add.new.self (adds c) i })
    ∙ (λ i. record { drawn = c.in-Some.id; streams = put_at c.in-Some.id (stream c (c.new.ensures i)) (c.self.view_is i).streams })

pub returns-clause-sound : goal.returns-clause-sound
returns-clause-sound c = sound (record { drawn = c.in-Some.id; shelf = c.add.new.self; indexed = invariant_of-self-2 c })
