use Rattle.std.proofs.Common.{◌≡◌, ◌≢◌, ◌<◌, Ok, Err, sym, ◌∙◌, ap, subst, arith}
use Rattle.std.proofs.lemmas.List.Elements.{All-from_get_or}
use Rattle.adb_outside.specs.declared.framer.FeedError.TheVariants as errors
use Rattle.adb_outside.specs.Framing as framing
use Rattle.adb_wire.specs.Format.{front_of}
use Rattle.adb_wire.specs.Deframing.{IsSound}
use Rattle.adb_wire.proofs.CuttingLaws.{item, after, takes}
use Rattle.adb_wire.proofs.Missing.{fed_sound}
use Rattle.adb_wire.proofs.deframer.Deframer.feed.Goals as goal
use Rattle.adb_wire.proofs.deframer.Deframer.feed.Goals.{in-Ok, in-Err-OutOfMemory, in-Err-Fault-Broken, in-Err-Fault-BadSum}

pub invariant_of-self : goal.invariant_of-self
invariant_of-self c =
    let opened : c.feed.result ≢ Err errors.OutOfMemory → IsSound c.feed.new.self =
    λ apart. fed_sound c.self.inside.framer c.args.piece.now c.feed.new.self c.self.invariant (c.feed.ensures.taken apart) in
    elim c.match-feed.branch [
      | in-Ok w ↦ opened (λ e. let clash : Ok w.in-Ok.field-0 ≡ Err errors.OutOfMemory = sym w.in-Ok.is ∙ e in cc)
      | in-Err-OutOfMemory w ↦ subst IsSound
          (sym (c.feed.ensures.memory (w.in-Err-OutOfMemory.is ∙ ap Err w.in-Err-OutOfMemory.field-0-is)))
          c.self.invariant
      | in-Err-Fault-Broken w ↦ opened (λ e. cc)
      | in-Err-Fault-BadSum w ↦ opened (λ e. cc)
    ]

pub returns-clause-taken : goal.returns-clause-taken
returns-clause-taken c = λ apart.
    let taken : c.feed.result ≢ Err errors.OutOfMemory = elim c.match-feed.branch [
      | in-Ok w ↦ λ e. let clash : Ok w.in-Ok.field-0 ≡ Err errors.OutOfMemory = sym w.in-Ok.is ∙ e in cc
      | in-Err-OutOfMemory w ↦ λ e. absurd (apart w.result-is)
      | in-Err-Fault-Broken w ↦ λ e. cc
      | in-Err-Fault-BadSum w ↦ λ e. cc
    ] in
    let fits = All-from_get_or (λ b. b < 256) c.args.piece.now 0 (λ i _. omega (arith, c.type_inv.piece i)) in
    takes c.args.self.now c.args.piece.now c.feed.new.self fits
    (subst (λ old. framing.Takes front_of item after old c.args.piece.now c.feed.new.self) c.self.view_is (c.feed.ensures.taken taken))
