-- Which rule an entry breaks that a hub refuses; and that an entry which breaks one may not come.
use Rattle.std.proofs.Common.{ℕ, ◌+◌, ◌≡◌, Bool, true, false, cond, List, Option, Some, None, refl, sym, ◌∙◌, subst, arith, zero, suc}
use Rattle.std.specs.Prelude.{nat_eq}
use Rattle.std.proofs.lemmas.Bool.{eqb-true, eq-eqb}
use Rattle.std.proofs.lemmas.Bool.Decides.{nat_tests}
use Rattle.adb_registry.specs.Registry.{attach_refusal}
use Rattle.adb_registry.specs.declared.registry.AttachError.{AttachError}
use Rattle.adb_registry.specs.declared.registry.AttachError.TheVariants as attach
use Rattle.adb_outside.specs.declared.kinds.Kind.{Kind}
use Rattle.adb_capture.specs.declared.entry.Entry.{Entry}
use Rattle.adb_capture.specs.declared.entry.Entry.TheVariants.{Join, Enter, Read, End, Bound, Attach, Recv, Detach, Put, Send}
use Rattle.adb_history.specs.Rows.{Client, Link, State}
use Rattle.adb_history.specs.Machine.{IsDrawn, May, MayPut, MaySend}
use Rattle.adb_history.specs.Orderly.{IsDrawnOnly, IsOrderly}
use Rattle.adb_history.specs.Accepted.{is_drawn, is_input, attach_reason, unless_drawn, refusal_of}
use Rattle.adb_history.specs.declared.refusal.Reason.{Reason}
use Rattle.adb_history.specs.declared.refusal.Reason.TheVariants as reason
use Rattle.adb_check.specs.declared.verdict.Rule.{Rule}
use Rattle.adb_check.specs.declared.verdict.Rule.TheVariants.{AfterKill, NotDrawn, TooManyDevices, BadSerial, NotDue}
use Rattle.adb_check.specs.Rules.{NamesDrawn, IsRefusedDevice, IsNotDue, Breaks, BreaksFirst}
use Rattle.adb_check.specs.Judging.{reason_rule}

-- ---- numbers
pub drawn_tested : (drawn n : ℕ) → IsDrawn drawn n → is_drawn drawn n ≡ true
drawn_tested drawn n is = grind (arith, is.0, is.1)

pub drawn_is : (drawn n : ℕ) → is_drawn drawn n ≡ true → IsDrawn drawn n
drawn_is drawn n e = (grind (arith, nat_tests), grind (arith, nat_tests))

-- ---- why a hub refuses what comes
-- A reason of a hub says which rule is broken first.
abbrev pub IsReasonFor : Option Rule → State → Entry → Type 0
IsReasonFor None s e = ⊥
IsReasonFor (Some rule) s e = BreaksFirst rule s e

clash : {A : Type 0} → true ≡ false → A
clash e = absurd (let apart : true ≡ false = e in cc)

module _ (s : State) (going : s.stopped ≡ false) where
  -- no kill was made
  running : (e : Entry) → ¬ Breaks AfterKill s e
  running e killed = clash (sym killed.1 ∙ going)

  undrawn : (e : Entry) → ¬ NamesDrawn s e → BreaksFirst NotDrawn s e
  undrawn e other = record { breaks = other; before = running e }

  -- a number that is looked at by a test
  untested : (e : Entry) (test : Bool) → (NamesDrawn s e → test ≡ true) → (why : Reason) → unless_drawn test ≡ Some why
      → IsReasonFor (reason_rule why) s e
  untested e true tested why is = absurd (let apart : None ≡ Some why = is in cc)
  untested e false tested why is =
      let same : reason.NotDrawn ≡ why = cc in
      subst (λ (r : Reason). IsReasonFor (reason_rule r) s e) same (undrawn e (λ names. clash (sym (tested names))))

  -- a device
  module _ (t : ℕ) (kind : Kind) (serial : List ℕ) where
    abbrev plugs : Entry
    plugs = Attach t kind serial

    refused_for : t ≡ s.devices.drawn + 1 → (found : Option AttachError) → attach_refusal s.devices serial ≡ found → (why : Reason)
        → attach_reason found ≡ Some why → IsReasonFor (reason_rule why) s plugs
    refused_for next None found why is = absurd (let apart : None ≡ Some why = is in cc)
    refused_for next (Some attach.OutOfMemory) found why is = absurd (let apart : None ≡ Some why = is in cc)
    refused_for next (Some attach.Numbers) found why is =
        let same : reason.NotDrawn ≡ why = cc in
        subst (λ (r : Reason). IsReasonFor (reason_rule r) s plugs) same (undrawn plugs (λ names. names.1 found))
    refused_for next (Some attach.Full) found why is =
        let same : reason.TooManyDevices ≡ why = cc in
        subst (λ (r : Reason). IsReasonFor (reason_rule r) s plugs) same (record {
          breaks = found;
          before = (running plugs, λ other. other (next, λ n. (let apart : Some attach.Full ≡ Some attach.Numbers = sym found ∙ n in cc)));
        })
    refused_for next (Some attach.BadSerial) found why is =
        let same : reason.BadSerial ≡ why = cc in
        subst (λ (r : Reason). IsReasonFor (reason_rule r) s plugs) same (record {
          breaks = found;
          before = (
            running plugs,
            λ other. other (next, λ n. (let apart : Some attach.BadSerial ≡ Some attach.Numbers = sym found ∙ n in cc)),
            λ full. (let apart : Some attach.BadSerial ≡ Some attach.Full = sym found ∙ full in cc),
          );
        })

    plugs_refused : (next : Bool) → nat_eq t (s.devices.drawn + 1) ≡ next → (why : Reason)
        → cond next (attach_reason (attach_refusal s.devices serial)) (Some reason.NotDrawn) ≡ Some why
        → IsReasonFor (reason_rule why) s plugs
    plugs_refused true next why is = refused_for (eqb-true t (s.devices.drawn + 1) next) (attach_refusal s.devices serial) refl why is
    plugs_refused false other why is =
        let same : reason.NotDrawn ≡ why = cc in
        subst (λ (r : Reason). IsReasonFor (reason_rule r) s plugs) same
        (undrawn plugs (λ names. clash (sym (eq-eqb t (s.devices.drawn + 1) names.0) ∙ other)))

  pub refused_breaks : (e : Entry) → is_input e ≡ true → (why : Reason) → refusal_of s e ≡ Some why → IsReasonFor (reason_rule why) s e
  refused_breaks (Join c) input why is = untested (Join c) _ (λ n. eq-eqb c (s.joined + 1) n) why is
  refused_breaks (Enter c port) input why is = untested (Enter c port) _ (λ n. eq-eqb c (s.joined + 1) n) why is
  refused_breaks (Read c bytes) input why is = untested (Read c bytes) _ (drawn_tested s.joined c) why is
  refused_breaks (End c cause) input why is = untested (End c cause) _ (drawn_tested s.joined c) why is
  refused_breaks (Bound c port) input why is = untested (Bound c port) _ (drawn_tested s.joined c) why is
  refused_breaks (Attach t kind serial) input why is = plugs_refused t kind serial (nat_eq t (s.devices.drawn + 1)) refl why is
  refused_breaks (Recv t bytes) input why is = untested (Recv t bytes) _ (drawn_tested s.devices.drawn t) why is
  refused_breaks (Detach t cause) input why is = untested (Detach t cause) _ (drawn_tested s.devices.drawn t) why is
  refused_breaks (Put c bytes) input why is = clash (sym input)
  refused_breaks (Send t bytes) input why is = clash (sym input)

-- ---- what breaks a rule may not come
module _ (s : State) (ok : IsOrderly s) where
  none_there : {A : Type 0} (drawn n : ℕ) (kept : ℕ → Option A) → IsDrawnOnly drawn kept → ¬ IsDrawn drawn n → kept n ≡ None
  none_there drawn zero kept only other = only.zero
  none_there drawn (suc n) kept only other = only.above (suc n) (grind (arith, nat_tests, other))

  put_there : (row : Option Client) (bytes : List ℕ) → row ≡ None → ¬ MayPut s row bytes
  put_there None bytes is may = may
  put_there (Some client) bytes is may = let apart : Some client ≡ None = is in cc

  send_there : (row : Option Link) (bytes : List ℕ) → row ≡ None → ¬ MaySend row bytes
  send_there None bytes is may = may
  send_there (Some link) bytes is may = let apart : Some link ≡ None = is in cc

  may_run : (e : Entry) → is_input e ≡ true → May s e → s.stopped ≡ false
  may_run (Put c bytes) input may = clash (sym input)
  may_run (Send t bytes) input may = clash (sym input)
  may_run _ input may = may.0

  may_draw : (e : Entry) → ¬ NamesDrawn s e → ¬ May s e
  may_draw (Attach t kind serial) other may =
      other (may.1, λ n. (let apart : None ≡ Some attach.Numbers = sym may.2 ∙ n in cc))
  may_draw (Put c bytes) other may = put_there (s.clients c) bytes (none_there s.joined c s.clients ok.clients other) may
  may_draw (Send t bytes) other may = send_there (s.links t) bytes (none_there s.devices.drawn t s.links ok.links other) may
  may_draw _ other may = other may.1

  refused_device : (why : AttachError) (e : Entry) → IsRefusedDevice why s e → ¬ May s e
  refused_device why (Attach t kind serial) is may = let apart : None ≡ Some why = sym may.2 ∙ is in cc
  refused_device why _ is may = is

  not_due : (e : Entry) → IsNotDue s e → ¬ May s e
  not_due (Put c bytes) is may = is may
  not_due (Send t bytes) is may = is may
  not_due _ is may = is

  pub may_not : (rule : Rule) (e : Entry) → Breaks rule s e → ¬ May s e
  may_not AfterKill e is may = clash (sym is.1 ∙ may_run e is.0 may)
  may_not NotDrawn e is may = may_draw e is may
  may_not TooManyDevices e is may = refused_device attach.Full e is may
  may_not BadSerial e is may = refused_device attach.BadSerial e is may
  may_not NotDue e is may = not_due e is may
