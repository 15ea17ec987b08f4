-- The client of an open stream: at rest nothing of it is held, and nothing is to be handed out.
use Rattle.std.specs.Prelude.{ℕ, ◌≡◌, ◌≢◌, ◌<◌, Bool, true, false, if◌then◌else◌, min, take, List, [], ◌∷◌, length, Some}
use Rattle.std.proofs.Common.{zero, suc, refl, ◌∙◌, ap, subst, arith}
use Rattle.adb_stream.specs.Flow.{has_credit}
use Rattle.adb_stream.specs.declared.flow.Flow.{Flow}
use Rattle.adb_stream.specs.declared.flow.Flow.TheVariants as flows
use Rattle.adb_stream.specs.declared.row.Stream.{Stream}
use Rattle.adb_client.specs.declared.phase.Phase.{Phase}
use Rattle.adb_client.specs.declared.phase.Phase.TheVariants.{Streaming}
use Rattle.adb_history.specs.Flow.{payloads, write_before, writes}
use Rattle.adb_history.specs.Links.{maxdata_of}
use Rattle.adb_history.specs.Machine.{History, state, IsLegal}
use Rattle.adb_history.specs.Orderly.{HasOwner, HasClient, IsOrderlyStream, IsQuiet, IsResting, phase_for}
use Rattle.adb_history.proofs.OrderlyStates.{orderly}
use Rattle.adb_laws_causes.specs.Flows.{waiting}
use Rattle.adb_laws_worlds.specs.Quiet.{IsServed, OpenAreServed}
use Rattle.adb_laws_worlds.proofs.Payloads.{take_payloads}

-- ---- a flow without credit that may send holds nothing, where it sends nothing
none_of : (n : ℕ) (held : List ℕ) (others : List (List ℕ)) → write_before n held others ≡ [] → n ≡ 0
none_of zero held others e = refl
none_of (suc n) held others e = let clash : take (suc n) held ∷ others ≡ [] = e in cc

empty_of : (held : List ℕ) → length held ≡ 0 → held ≡ []
empty_of [] e = refl
empty_of (b ∷ held) e = absurd (omega (arith, e))

none_held : (flow : Flow) (maxdata : ℕ) (held : List ℕ) → has_credit flow ≡ false → waiting flow ≡ 0 → 0 < maxdata
    → payloads flow maxdata held ≡ [] → held ≡ []
none_held (flows.Credit credit) maxdata held plain none some e = let clash : true ≡ false = plain in cc
none_held (flows.One window) maxdata held plain none some e = go window.outstanding none e
  where
    go : (b : Bool) → ◌≡◌ {A = ℕ} (if b then 1 else 0) 0 → (if b then [] else writes 1 maxdata maxdata held) ≡ [] → held ≡ []
    go true one f = absurd (omega (arith, one))
    go false one f =
        let zeroth : min (min maxdata maxdata) (length held) ≡ 0 = none_of (min (min maxdata maxdata) (length held)) held _ f in
        empty_of held (omega (arith, zeroth, some))

-- ---- the client of an open stream
module _ (h : History) (legal : IsLegal h) (l : ℕ) (x : Stream) (live : (state h).streams l ≡ Some x) (known : x.part.remote ≢ 0) where
  stream : IsOrderlyStream (state h) l x
  stream = (orderly h legal).stream l x live

  -- it is no orphan, and its client has it open
  owned : (orphan : Bool) → x.part.orphan ≡ orphan → HasOwner orphan (state h) l x → (x.part.orphan ≡ false) × HasClient (state h) l x
  owned true e o = absurd (known o.0)
  owned false e o = (e, o)

  owner : (x.part.orphan ≡ false) × HasClient (state h) l x
  owner = owned x.part.orphan refl stream.owner

  streaming : (remote : ℕ) → x.part.remote ≡ remote → phase_for l x.part.remote ≡ Streaming l
  streaming zero e = absurd (known e)
  streaming (suc r) e = ap (phase_for l) e

  phase : owner.1.client.about.phase ≡ Streaming l
  phase = owner.1.phase ∙ streaming x.part.remote refl

  rests : IsResting (Streaming l) (state h) x.client owner.1.client
  rests = subst (λ (p : Phase). IsResting p (state h) x.client owner.1.client) phase
      ((orderly h legal).client x.client owner.1.client owner.1.is).rests

  quiet : IsQuiet (state h) owner.1.client x
  quiet = rests.1 x live

  pub open_is_served : IsServed h l x
  open_is_served = record {
    client = owner.1.client;
    here = owner.1.is;
    phase = phase;
    alive = owner.0;
    handed = λ none.
        let le = quiet.accepted in
        let zeroth : length owner.1.client.due ≡ 0 = ap (λ (bytes : List ℕ). length bytes) none in
        omega (arith, le, zeroth);
    sent = λ plain none.
        none_held x.part.flow (maxdata_of x.link (state h).devices) owner.1.client.held plain none
        (let enough = take_payloads h legal x.link stream.connected in omega (arith, enough)) quiet.nothing;
  }

pub open_are_served : (h : History) → IsLegal h → OpenAreServed h
open_are_served h legal l x live known = open_is_served h legal l x live known
