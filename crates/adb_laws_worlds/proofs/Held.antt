-- At rest nothing is held of a client but a request that is not whole yet.
use Rattle.std.specs.Prelude.{ℕ, ◌^◌, ◌≡◌, ◌≢◌, ◌<◌, false, [], Some}
use Rattle.std.proofs.Common.{refl, sym, ◌∙◌, ap}
use Rattle.adb_stream.specs.declared.row.Stream.{Stream}
use Rattle.adb_client.specs.declared.phase.Phase.{Phase}
use Rattle.adb_client.specs.declared.phase.Phase.TheVariants.{Asking, Opening, Streaming, Binding, Tracking, Closing, Gone}
use Rattle.adb_history.specs.Machine.{History, state, IsLegal}
use Rattle.adb_history.specs.Orderly.{HasStream, IsResting}
use Rattle.adb_history.specs.Rows.{Client}
use Rattle.adb_history.proofs.OrderlyStates.{orderly}
use Rattle.adb_laws_births.proofs.Born.{all_births}
use Rattle.adb_daemon.specs.Device.{Setting}
use Rattle.adb_laws_model_device.specs.Joined.{IsJoined}
use Rattle.adb_laws_worlds.specs.Credit.{HasOneDevice}
use Rattle.adb_laws_worlds.specs.Held.{HasSettled, AllHaveSettled, HoldsNothing}
use Rattle.adb_laws_worlds.specs.Settled.{IsAtRest}
use Rattle.adb_laws_worlds.proofs.Opening.{all_are_open}
use Rattle.adb_laws_worlds.proofs.Settled.{open_are_settled}
use Rattle.adb_laws_worlds.proofs.Single.{live_on_first, all_plain_of_one}

module _ (setting : Setting) (short : setting.most < 2 ^ 32) (some : 0 < setting.most)
    (plain : setting.credit ≡ false) (h : History) (legal : IsLegal h)
    (tied : IsJoined setting h) (one : HasOneDevice h) (rest : IsAtRest setting h) where
  -- a stream that lives has settled
  pub settles : (l : ℕ) (x : Stream) → (state h).streams l ≡ Some x → HasSettled setting h l x
  settles l x live =
      let kept = (all_births h legal).kept l x live in
      let own : kept.birth.link ≡ 1 = sym kept.link ∙ live_on_first h legal one l x live in
      record {
        birth = kept.birth;
        is = kept.is;
        settled = open_are_settled setting short some plain h legal tied
            (all_plain_of_one setting short plain h legal tied one) rest l kept.birth x kept.is own
            live (all_are_open setting short h legal tied rest.still l kept.birth x kept.is own live);
      }

  -- so nothing is held of its client
  none_of_stream : (c l : ℕ) (client : Client) → (state h).clients c ≡ Some client → HasStream (state h) c l → client.held ≡ []
  none_of_stream c l client here has =
      let settled = settles l has.stream has.is in
      let both : Some settled.settled.served.client ≡ Some client =
      sym settled.settled.served.here ∙ (ap (state h).clients has.client ∙ here) in
      let same : settled.settled.served.client ≡ client = cc in
      ap (λ (k : Client). k.held) (sym same) ∙ settled.settled.held

  by_phase : (phase : Phase) → phase ≢ Asking → (c : ℕ) (client : Client) → (state h).clients c ≡ Some client
      → IsResting phase (state h) c client
      → client.held ≡ []
  by_phase Asking asks c client here rests = absurd (asks refl)
  by_phase (Opening l) asks c client here rests = none_of_stream c l client here rests
  by_phase (Streaming l) asks c client here rests = none_of_stream c l client here rests.0
  by_phase Binding asks c client here rests = rests.0
  by_phase Tracking asks c client here rests = rests
  by_phase Closing asks c client here rests = rests.0
  by_phase Gone asks c client here rests = absurd rests

  pub none_held : (c : ℕ) (client : Client) → (state h).clients c ≡ Some client → client.about.phase ≢ Asking → client.held ≡ []
  none_held c client here asks = by_phase client.about.phase asks c client here ((orderly h legal).client c client here).rests

pub holds_nothing : (setting : Setting) → setting.most < 2 ^ 32 → 0 < setting.most → setting.credit ≡ false → (h : History) → IsLegal h
    → IsJoined setting h → HasOneDevice h → HoldsNothing setting h
holds_nothing setting short some plain h legal tied one rest c client here asks =
    none_held setting short some plain h legal tied one rest c client here asks

pub all_have_settled : (setting : Setting) → setting.most < 2 ^ 32 → 0 < setting.most → setting.credit ≡ false → (h : History) → IsLegal h
    → IsJoined setting h → HasOneDevice h → AllHaveSettled setting h
all_have_settled setting short some plain h legal tied one rest l x live = settles setting short some plain h legal tied one rest l x live
