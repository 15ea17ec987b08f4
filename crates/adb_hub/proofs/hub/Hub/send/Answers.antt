use Rattle.std.proofs.Common.{ℕ, ◌≡◌, List, Option, Ok, Some, None, sym, ◌∙◌, ap, subst}
use Rattle.adb_capture.specs.declared.entry.Entry.TheVariants.{Send}
use Rattle.adb_history.specs.Accepted.{is_drawn}
use Rattle.adb_history.specs.Kept.{Kept, kept, IsLawful}
use Rattle.adb_history.specs.Machine.{state}
use Rattle.adb_history.specs.Rows.{State}
use Rattle.adb_hub_hand_outs.specs.Handed as answers
use Rattle.adb_hub_hand_outs.specs.Handed.{IsFront}
use Rattle.adb_hub_tables.specs.Tables.{state_of}
use Rattle.adb_hub.specs.declared.error.HubError.TheVariants.{NoLink}
use Rattle.adb_hub.specs.Refusal.{unless_drawn}
use Rattle.adb_hub.specs.Answers.{err_if, handed_as, HandsOut}
use Rattle.adb_hub.specs.Answers as hub
use Rattle.adb_hub.proofs.Standing.{stands_for, same_kept}
use Rattle.adb_hub.proofs.Steps.{heard, send_called, may_send, called_sound, called_lawful, called_allowed, bytes_sent, nothing_sent}
use Rattle.adb_hub.proofs.Steps.{short_front}
use Rattle.adb_hub.proofs.hub.Hub.send.Goals as goal

pub invariant_of-self-in-Some : goal.invariant_of-self-in-Some
invariant_of-self-in-Some c =
    let t = c.self.inside.tables in
    let n = c.args.link in
    let bytes = c.in-Some.bytes in
    let known = heard n t.devices.drawn (NoLink n) c.ranges.link.fits
    (subst (λ (k : Kept). Ok tt ≡ err_if (unless_drawn (is_drawn k.devices.drawn n) (NoLink n))) (sym c.self.view_is)
    c.in_ok-find_link.ensures) in
    let given = c.in_ok-bytes.ensures in
    let front = subst (λ (o : Option (List ℕ)). IsFront c.args.max (answers.due_on ((state_of t).links n)) o) c.in-Some.is given.bytes in
    let made = subst (λ (o : Option (List ℕ)). answers.HandsOut (Send n) o t c.send.new.tables) c.in-Some.is given.made in
    let called = send_called n bytes t c.send.new.tables c.self.invariant c.has_bytes.ensures known
    (may_send c.args.max ((state_of t).links n) bytes front) made in
    called_sound (Send n bytes) t c.send.new.tables called

pub returns-in-Some-clause-sent : goal.returns-in-Some-clause-sent
returns-in-Some-clause-sent c h lawful =
    let t = c.self.inside.tables in
    let n = c.args.link in
    let bytes = c.in-Some.bytes in
    let known = heard n t.devices.drawn (NoLink n) c.ranges.link.fits
    (subst (λ (k : Kept). Ok tt ≡ err_if (unless_drawn (is_drawn k.devices.drawn n) (NoLink n))) (sym c.self.view_is)
    c.in_ok-find_link.ensures) in
    let given = c.in_ok-bytes.ensures in
    let front = subst (λ (o : Option (List ℕ)). IsFront c.args.max (answers.due_on ((state_of t).links n)) o) c.in-Some.is given.bytes in
    let made = subst (λ (o : Option (List ℕ)). answers.HandsOut (Send n) o t c.send.new.tables) c.in-Some.is given.made in
    let called = send_called n bytes t c.send.new.tables c.self.invariant c.has_bytes.ensures known
    (may_send c.args.max ((state_of t).links n) bytes front) made in
    let before = subst (λ (k : Kept). IsLawful k h) (sym c.self.view_is) lawful in
    let after = called_lawful (Send n bytes) t c.send.new.tables called h before in
    let is = stands_for t h c.self.invariant before in (
      called_allowed (Send n bytes) t c.send.new.tables called h before,
      bytes_sent c.args.max ((state h).links n) (Send n) h bytes c.args.self.now (kept (state_of c.send.new.tables))
          (subst (λ (x : State). IsFront c.args.max (answers.due_on (x.links n)) (Some bytes)) is front) after,
    )

pub returns-in-None-clause-sent : goal.returns-in-None-clause-sent
returns-in-None-clause-sent c h lawful =
    let t = c.self.inside.tables in
    let n = c.args.link in
    let known = heard n t.devices.drawn (NoLink n) c.ranges.link.fits
    (subst (λ (k : Kept). Ok tt ≡ err_if (unless_drawn (is_drawn k.devices.drawn n) (NoLink n))) (sym c.self.view_is)
    c.in_ok-find_link.ensures) in
    let given = c.in_ok-bytes.ensures in
    let front = subst (λ (o : Option (List ℕ)). IsFront c.args.max (answers.due_on ((state_of t).links n)) o) c.in-None.is given.bytes in
    let keeps = subst (λ (o : Option (List ℕ)). answers.HandsOut (Send n) o t c.send.new.tables) c.in-None.is given.made in
    let before = subst (λ (k : Kept). IsLawful k h) (sym c.self.view_is) lawful in
    let is = stands_for t h c.self.invariant before in
    let same = same_kept t c.send.new.tables keeps in
    let life = c.link_life.ensures h (subst (λ (k : Kept). IsLawful k h) (sym same) before) in
    let told = c.nothing.ensures ∙ ap (handed_as None) life in (
      ap (λ (s : State). unless_drawn (is_drawn s.devices.drawn n) (NoLink n)) (sym is) ∙ ap (λ b. unless_drawn b (NoLink n)) known.is,
      subst (λ (x : _). HandsOut (Send n) c.args.max (hub.due_on ((state h).links n)) x h c.args.self.now
          (kept (state_of c.send.new.tables))) (sym told)
          (nothing_sent c.args.max ((state h).links n) (Send n) h c.args.self.now (kept (state_of c.send.new.tables))
          (subst (λ (x : State). IsFront c.args.max (answers.due_on (x.links n)) (None)) is front) (same ∙ c.self.view_is)),
    )

pub returns-in-Some-clause-form : goal.returns-in-Some-clause-form
returns-in-Some-clause-form c =
    let t = c.self.inside.tables in
    let n = c.args.link in
    let due = answers.due_on ((state_of t).links n) in
    let front = subst (λ (o : Option (List ℕ)). IsFront c.args.max due o) c.in-Some.is c.in_ok-bytes.ensures.bytes in
    (short_front c.args.max due c.in-Some.bytes front, c.has_bytes.ensures)
