-- Where one stream alone may send, the up rule for all streams is that for this one.
use Rattle.std.proofs.Common.{ℕ, ◌≡◌, ◌≢◌, ◌≤◌, ◌<◌, zero, suc, Bool, true, false, cond, [], Option, Some, None, refl, sym, ◌∙◌, ap, arith}
use Rattle.std.proofs.Common.{◌⊎◌, inl, inr}
use Rattle.std.proofs.lemmas.Bool.{cases_eq}
use Rattle.adb_stream.specs.declared.row.Stream.{Stream}
use Rattle.adb_history.specs.Rows.{Client, State, with_held, with_stream_part}
use Rattle.adb_history.specs.Events.{Made, quietly, then_also}
use Rattle.adb_history.specs.Links.{maxdata_of}
use Rattle.adb_history.specs.Flow.{payloads, with_flow, noted, is_over, closes_if, sends_up, is_streaming, up_client, up_stream, up, up_all}
use Rattle.adb_history.proofs.Sweep.{Sending}
use Rattle.adb_history.proofs.Quiet.{IsCalm, IsCalmAt, up_calm, same_rows}
use Rattle.adb_hub_rules.proofs.Making.{made_then_none}
use Rattle.adb_hub_rules.proofs.StillUp.{not_closed}

module _ (l : ℕ) (s : State) (x : Sending l s) (calm : IsCalm s.devices x.client x.stream) where
  same_noted : noted l x.stream x.client.held [] s ≡ s
  same_noted = λ i. record s {
    clients = same_rows s.clients x.stream.client (with_held x.client.held) x.client x.here refl i;
    streams = same_rows s.streams l (with_stream_part (with_flow x.stream.part.flow x.stream.part)) x.stream x.there refl i;
  }

  sends_nothing : sends_up l x.stream x.client
      (payloads x.stream.part.flow (maxdata_of x.stream.link s.devices) x.client.held) s ≡ quietly s
  sends_nothing =
      ap (λ ps. sends_up l x.stream x.client ps s) calm.nothing
      ∙ (ap (λ (t : State). closes_if (is_over x.client.about.ended x.client.held x.stream.part.flow) l (t.streams l) t) same_noted
      ∙ (ap (λ b. closes_if b l (s.streams l) s) calm.goes_on
      ∙ not_closed l (s.streams l) s))

-- the up rule changes nothing of a stream that is calm
up_still : (l : ℕ) (s : State) → IsCalmAt l s → up l s ≡ quietly s
up_still l s h = at_stream (s.streams l) refl
  where
    at_client : (stream : Stream) → s.streams l ≡ Some stream → (o : Option Client) → s.clients stream.client ≡ o
        → up_client l stream o s ≡ quietly s
    at_client stream there None here = refl
    at_client stream there (Some client) here = by_test (is_streaming l client.about.phase) refl
      where
        by_test : (b : Bool) → is_streaming l client.about.phase ≡ b
            → cond b (sends_up l stream client
            (payloads stream.part.flow (maxdata_of stream.link s.devices) client.held) s) (quietly s)
            ≡ quietly s
        by_test false is = refl
        by_test true is =
            let x : Sending l s = record { stream = stream; client = client; there = there; here = here; streaming = is } in
            sends_nothing l s x (h.calm x)

    at_stream : (o : Option Stream) → s.streams l ≡ o → up_stream l o s ≡ quietly s
    at_stream None there = refl
    at_stream (Some stream) there = at_client stream there (s.clients stream.client) refl

module _ (l : ℕ) (s : State) (others : (m : ℕ) → 0 < m → m ≢ l → IsCalmAt m s) where
  -- the streams below it
  up_below : (k : ℕ) → k < l → up_all k s ≡ quietly s
  up_below zero below = refl
  up_below (suc k) below =
      ap (λ (m : Made). then_also m (up (suc k))) (up_below k (omega (arith, below)))
      ∙ up_still (suc k) s (others (suc k) (omega arith) (λ e. omega (arith, below, e)))

  -- all streams
  pub one_up : (k : ℕ) → 0 < l → l ≤ k → up_all k s ≡ up l s
  one_up zero some within = absurd (omega (arith, some, within))
  one_up (suc k) some within = by_place (cases_eq l (suc k)) (λ le. one_up k some le)
    where
      by_place : ◌⊎◌ (l ≡ suc k) (l ≢ suc k) → (l ≤ k → up_all k s ≡ up l s) → then_also (up_all k s) (up (suc k)) ≡ up l s
      by_place (inl same) below =
          ap (λ (m : Made). then_also m (up (suc k))) (up_below k (omega (arith, same))) ∙ ap (λ (n : ℕ). up n s) (sym same)
      by_place (inr apart) below =
          ap (λ (m : Made). then_also m (up (suc k))) (below (omega (arith, within, apart)))
          ∙ (ap (λ (rest : Made). then_also (up l s) (λ _. rest))
          (up_still (suc k) (up l s).state (up_calm l (suc k) s apart (others (suc k) (omega arith) (λ e. apart (sym e)))))
          ∙ made_then_none (up l s))
