-- The entries that a hall refuses to the writers of clients and of links.
use Rattle.std.proofs.Common.{ℕ, ◌≡◌, Bool, true, false, [], Option, Some, None, refl, ap, arith, zero, suc, inl, inr}
use Rattle.std.specs.Prelude.{◌⊎◌}
use Rattle.std.proofs.lemmas.Bool.Decides.{nat_tests}
use Rattle.adb_outside.specs.declared.kinds.Cause.{Cause}
use Rattle.adb_history.specs.Orderly.{IsDrawnOnly}
use Rattle.adb_history.specs.Accepted.{is_drawn}
use Rattle.adb_history.specs.Machine.{History, state, IsLegal}
use Rattle.adb_history.proofs.OrderlyStates.{orderly}
use Rattle.adb_hub.specs.declared.error.HubError.{HubError}
use Rattle.adb_hub.specs.declared.error.HubError.TheVariants.{NoClient, NoLink}
use Rattle.adb_hub.specs.Answers.{offered_to, due_on}
use Rattle.adb_hub.specs.Refusal.{unless_drawn, unless_stopped}
use Rattle.adb_server_log.specs.declared.error.DeskError.{DeskError}
use Rattle.adb_desk.specs.Desk.{desk_refusal, or_later}
use Rattle.adb_desk.specs.declared.act.Half.{Half}
use Rattle.adb_desk.specs.declared.act.Half.TheVariants as half
use Rattle.adb_desk.specs.Acts.{is_end}
use Rattle.adb_server_writers.specs.Writing.{Side, side_of}

-- A hand-out is refused only where the owner is gone, and the end of a connection only there and after a kill.
pub record IsSide (side : Side) : Type 0 where
  pub unasked : (h : History) (error : DeskError) → IsLegal h → desk_refusal (side.hands []) (state h) ≡ Some error
      → side.due (state h) ≡ None
  pub unended : (h : History) (cause : Cause) (error : DeskError) → IsLegal h → desk_refusal (side.ends cause) (state h) ≡ Some error
      → (side.due (state h) ≡ None) ⊎ ((state h).stopped ≡ true)
  pub ends : (cause : Cause) → is_end (side.ends cause) ≡ true

-- nothing is kept under a number that was not drawn
none_drawn : {A : Type 0} (drawn n : ℕ) (kept : ℕ → Option A) → IsDrawnOnly drawn kept → is_drawn drawn n ≡ false → kept n ≡ None
none_drawn drawn zero kept only is = only.zero
none_drawn drawn (suc n) kept only is = only.above (suc n) (grind (arith, nat_tests))

undrawn : (b : Bool) (why : HubError) (error : DeskError) → or_later (unless_drawn b why) false ≡ Some error → b ≡ false
undrawn true why error is = absurd (let clash : None ≡ Some error = is in cc)
undrawn false why error is = refl

unended_by : (stopped b : Bool) (why : HubError) (error : DeskError)
    → or_later (unless_stopped stopped (unless_drawn b why)) false ≡ Some error
    → (b ≡ false) ⊎ (stopped ≡ true)
unended_by true b why error is = inr refl
unended_by false true why error is = absurd (let clash : None ≡ Some error = is in cc)
unended_by false false why error is = inl refl

client_is : (c : ℕ) → IsSide (side_of half.Client c)
client_is c = record {
  unasked = λ h error legal is. gone h legal (undrawn (is_drawn (state h).joined c) (NoClient c) error is);
  unended = λ h cause error legal is.
      elim (unended_by (state h).stopped (is_drawn (state h).joined c) (NoClient c) error is) [
        | inl b ↦ inl (gone h legal b)
        | inr stopped ↦ inr stopped
      ];
  ends = λ cause. refl;
}
  where
    gone : (h : History) → IsLegal h → is_drawn (state h).joined c ≡ false → (side_of half.Client c).due (state h) ≡ None
    gone h legal b = ap (offered_to (state h).devices) (none_drawn (state h).joined c (state h).clients (orderly h legal).clients b)

link_is : (t : ℕ) → IsSide (side_of half.Link t)
link_is t = record {
  unasked = λ h error legal is. gone h legal (undrawn (is_drawn (state h).devices.drawn t) (NoLink t) error is);
  unended = λ h cause error legal is.
      elim (unended_by (state h).stopped (is_drawn (state h).devices.drawn t) (NoLink t) error is) [
        | inl b ↦ inl (gone h legal b)
        | inr stopped ↦ inr stopped
      ];
  ends = λ cause. refl;
}
  where
    gone : (h : History) → IsLegal h → is_drawn (state h).devices.drawn t ≡ false → (side_of half.Link t).due (state h) ≡ None
    gone h legal b = ap due_on (none_drawn (state h).devices.drawn t (state h).links (orderly h legal).links b)

pub side_is : (half : Half) (n : ℕ) → IsSide (side_of half n)
side_is half.Client n = client_is n
side_is half.Link n = link_is n
