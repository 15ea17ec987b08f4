use Rattle.std.proofs.Common.{ℕ, ◌≡◌, List, Option, Ok, Some, None, sym, ◌∙◌, ap, subst}
use Rattle.adb_capture.specs.declared.entry.Entry.TheVariants.{Put}
use Rattle.adb_history.specs.Accepted.{is_drawn}
use Rattle.adb_history.specs.Kept.{Kept, kept, IsLawful}
use Rattle.adb_history.specs.Machine.{state}
use Rattle.adb_history.specs.Rows.{State}
use Rattle.adb_hub_hand_outs.specs.Handed as answers
use Rattle.adb_hub_hand_outs.specs.Handed.{IsFront}
use Rattle.adb_hub_tables.specs.Tables.{state_of}
use Rattle.adb_hub.specs.declared.error.HubError.TheVariants.{NoClient}
use Rattle.adb_hub.specs.Refusal.{unless_drawn}
use Rattle.adb_hub.specs.Answers.{err_if, handed_as, HandsOut}
use Rattle.adb_hub.specs.Answers as hub
use Rattle.adb_hub.proofs.Standing.{stands_for, same_kept}
use Rattle.adb_hub.proofs.Steps.{heard, put_called, may_put, called_sound, called_lawful, called_allowed, bytes_put, nothing_put}
use Rattle.adb_hub.proofs.Steps.{short_front}
use Rattle.adb_hub.proofs.hub.Hub.put.Goals as goal

pub invariant_of-self-in-Some : goal.invariant_of-self-in-Some
invariant_of-self-in-Some c =
    let t = c.self.inside.tables in
    let n = c.args.client in
    let bytes = c.in-Some.bytes in
    let known = heard n t.joined (NoClient n) c.ranges.client.fits
    (subst (λ (k : Kept). Ok tt ≡ err_if (unless_drawn (is_drawn k.joined n) (NoClient n))) (sym c.self.view_is)
    c.in_ok-find_client.ensures) in
    let given = c.in_ok-bytes.ensures in
    let front = subst
    (λ (o : Option (List ℕ)). IsFront c.args.max (answers.offered_to t.devices ((state_of t).clients n)) o)
    c.in-Some.is given.bytes in
    let made = subst (λ (o : Option (List ℕ)). answers.HandsOut (Put n) o t c.put.new.tables) c.in-Some.is given.made in
    let called = put_called n bytes t c.put.new.tables c.self.invariant c.has_bytes.ensures known
    (may_put c.args.max (state_of t) ((state_of t).clients n) bytes front) made in
    called_sound (Put n bytes) t c.put.new.tables called

pub returns-in-Some-clause-put : goal.returns-in-Some-clause-put
returns-in-Some-clause-put c h lawful =
    let t = c.self.inside.tables in
    let n = c.args.client in
    let bytes = c.in-Some.bytes in
    let known = heard n t.joined (NoClient n) c.ranges.client.fits
    (subst (λ (k : Kept). Ok tt ≡ err_if (unless_drawn (is_drawn k.joined n) (NoClient n))) (sym c.self.view_is)
    c.in_ok-find_client.ensures) in
    let given = c.in_ok-bytes.ensures in
    let front = subst
    (λ (o : Option (List ℕ)). IsFront c.args.max (answers.offered_to t.devices ((state_of t).clients n)) o)
    c.in-Some.is given.bytes in
    let made = subst (λ (o : Option (List ℕ)). answers.HandsOut (Put n) o t c.put.new.tables) c.in-Some.is given.made in
    let called = put_called n bytes t c.put.new.tables c.self.invariant c.has_bytes.ensures known
    (may_put c.args.max (state_of t) ((state_of t).clients n) bytes front) made in
    let before = subst (λ (k : Kept). IsLawful k h) (sym c.self.view_is) lawful in
    let after = called_lawful (Put n bytes) t c.put.new.tables called h before in
    let is = stands_for t h c.self.invariant before in (
      called_allowed (Put n bytes) t c.put.new.tables called h before,
      bytes_put c.args.max (state h) ((state h).clients n) (Put n) h bytes c.args.self.now (kept (state_of c.put.new.tables))
          (subst (λ (x : State). IsFront c.args.max (answers.offered_to x.devices (x.clients n)) (Some bytes)) is front) after,
    )

pub returns-in-None-clause-put : goal.returns-in-None-clause-put
returns-in-None-clause-put c h lawful =
    let t = c.self.inside.tables in
    let n = c.args.client in
    let known = heard n t.joined (NoClient n) c.ranges.client.fits
    (subst (λ (k : Kept). Ok tt ≡ err_if (unless_drawn (is_drawn k.joined n) (NoClient n))) (sym c.self.view_is)
    c.in_ok-find_client.ensures) in
    let given = c.in_ok-bytes.ensures in
    let front = subst
    (λ (o : Option (List ℕ)). IsFront c.args.max (answers.offered_to t.devices ((state_of t).clients n)) o)
    c.in-None.is given.bytes in
    let keeps = subst (λ (o : Option (List ℕ)). answers.HandsOut (Put n) o t c.put.new.tables) c.in-None.is given.made in
    let before = subst (λ (k : Kept). IsLawful k h) (sym c.self.view_is) lawful in
    let is = stands_for t h c.self.invariant before in
    let same = same_kept t c.put.new.tables keeps in
    let life = c.client_life.ensures h (subst (λ (k : Kept). IsLawful k h) (sym same) before) in
    let told = c.nothing.ensures ∙ ap (handed_as None) life in (
      ap (λ (s : State). unless_drawn (is_drawn s.joined n) (NoClient n)) (sym is) ∙ ap (λ b. unless_drawn b (NoClient n)) known.is,
      subst (λ (x : _). HandsOut (Put n) c.args.max (hub.offered_to (state h).devices ((state h).clients n)) x h c.args.self.now
          (kept (state_of c.put.new.tables))) (sym told)
          (nothing_put c.args.max (state h) ((state h).clients n) (Put n) h c.args.self.now (kept (state_of c.put.new.tables))
          (subst (λ (x : State). IsFront c.args.max (answers.offered_to x.devices (x.clients n)) (None)) is front) (same ∙ c.self.view_is)),
    )

pub returns-in-Some-clause-form : goal.returns-in-Some-clause-form
returns-in-Some-clause-form c =
    let t = c.self.inside.tables in
    let n = c.args.client in
    let due = answers.offered_to t.devices ((state_of t).clients n) in
    let front = subst (λ (o : Option (List ℕ)). IsFront c.args.max due o) c.in-Some.is c.in_ok-bytes.ensures.bytes in
    (short_front c.args.max due c.in-Some.bytes front, c.has_bytes.ensures)
