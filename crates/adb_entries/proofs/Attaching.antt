-- What a machine answers of a device that is plugged in.
use Rattle.std.proofs.Common.{ℕ, ◌+◌, ◌≡◌, false, cond, List, Option, Some, None, Result, Ok, Err, refl, sym, ◌∙◌, ap, subst}
use Rattle.std.specs.Prelude.{option_map, OnErr}
use Rattle.std.proofs.lemmas.Bool.{eq-eqb}
use Rattle.adb_outside.specs.declared.kinds.Kind.{Kind}
use Rattle.adb_registry.specs.Registry.{attach_refusal}
use Rattle.adb_registry.specs.declared.registry.AttachError.{AttachError}
use Rattle.adb_registry.specs.declared.registry.AttachError.TheVariants as plugging
use Rattle.adb_capture.specs.declared.entry.Entry.TheVariants.{Attach}
use Rattle.adb_history.specs.Accepted.{refusal_of, attach_reason}
use Rattle.adb_history.specs.declared.refusal.Reason.TheVariants.{NotDrawn}
use Rattle.adb_history.specs.Machine.{History, state}
use Rattle.adb_history.specs.Kept.{Kept, IsLawful}
use Rattle.adb_hub.specs.declared.error.HubError.{HubError}
use Rattle.adb_hub.specs.declared.error.HubError.TheVariants.{Stopped, NoClient, NoLink, Numbers, Full, BadSerial, OutOfMemory}
use Rattle.adb_hub.specs.Refusal.{unless_stopped, attach_error}
use Rattle.adb_hub.specs.Answers.{Answers}
use Rattle.adb_entries.specs.Machine.{Applies}
use Rattle.adb_entries.specs.Refused.{refused_by, applied_as}

module _ (h : History) (kind : Kind) (serial : List ℕ) (new : Kept) (going : (state h).stopped ≡ false) where
  abbrev next : ℕ
  next = (state h).devices.drawn + 1

  abbrev refusal : Option AttachError
  refusal = attach_refusal (state h).devices serial

  -- why the record of the next device is refused
  reason_is : refusal_of (state h) (Attach next kind serial) ≡ attach_reason refusal
  reason_is = ap (λ b. cond b (attach_reason refusal) (Some NotDrawn)) (eq-eqb next next refl)

  refused_so : (r : Option AttachError) → refusal ≡ r → (why : HubError) → option_map attach_error r ≡ Some why → IsLawful new h
      → Applies h (Attach next kind serial) (Err (refused_by why)) new
  refused_so None is why e lawful = absurd (let clash : None ≡ Some why = e in cc)
  refused_so (Some why) is told e lawful =
      let same : attach_error why ≡ told = cc in
      subst (λ (w : HubError). Applies h (Attach next kind serial) (Err (refused_by w)) new) same (go why is)
    where
      go : (why : AttachError) → refusal ≡ Some why → Applies h (Attach next kind serial) (Err (refused_by (attach_error why))) new
      go plugging.Numbers is = reason_is ∙ ap attach_reason is
      go plugging.Full is = reason_is ∙ ap attach_reason is
      go plugging.BadSerial is = reason_is ∙ ap attach_reason is
      go plugging.OutOfMemory is = lawful

  refused_for : (why : HubError) → unless_stopped (state h).stopped (option_map attach_error refusal) ≡ Some why → IsLawful new h
      → Applies h (Attach next kind serial) (Err (refused_by why)) new
  refused_for why e lawful =
      refused_so refusal refl why (sym (ap (λ b. unless_stopped b (option_map attach_error refusal)) going) ∙ e) lawful

  none_so : (r : Option AttachError) → option_map attach_error r ≡ None → attach_reason r ≡ None
  none_so None e = refl
  none_so (Some why) e = absurd (let clash : Some (attach_error why) ≡ None = e in cc)

  pub attach_applies : (result : Result ℕ HubError) → Answers (Attach next kind serial) (λ link. link ≡ next) result h new
      → OnErr result (IsLawful new h) → Applies h (Attach next kind serial) (applied_as result) new
  attach_applies (Ok link) made same =
      (reason_is ∙ none_so refusal (sym (ap (λ b. unless_stopped b (option_map attach_error refusal)) going) ∙ made.0), made.1)
  attach_applies (Err Stopped) made same = refused_for Stopped made same
  attach_applies (Err (NoClient c)) made same = refused_for (NoClient c) made same
  attach_applies (Err (NoLink t)) made same = refused_for (NoLink t) made same
  attach_applies (Err Numbers) made same = refused_for Numbers made same
  attach_applies (Err Full) made same = refused_for Full made same
  attach_applies (Err BadSerial) made same = refused_for BadSerial made same
  attach_applies (Err OutOfMemory) made same = same

-- a hub that is as before holds what it held
pub err_lawful : (h : History) (old new : Kept) (result : Result ℕ HubError) → OnErr result (new ≡ old)
    → IsLawful old h → OnErr result (IsLawful new h)
err_lawful h old new (Ok link) same lawful = tt
err_lawful h old new (Err why) same lawful = subst (λ (k : Kept). IsLawful k h) (sym same) lawful
