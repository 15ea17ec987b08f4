-- What the up rule makes of a stream and of its client, and tells of them.
use Rattle.std.proofs.Common.{◌≡◌, ◌+◌, ◌-◌, ℕ, zero, suc, Bool, true, false, cond, List, [], ◌∷◌, ◌++◌, length, take, drop, refl, sym, ap}
use Rattle.std.proofs.Common.{subst, ◌∙◌}
use Rattle.std.proofs.Common.{arith}
use Rattle.std.proofs.Math.Seq.{take-add}
use Rattle.std.proofs.lemmas.List.{length-take-le}
use Rattle.std.proofs.lemmas.Bool.{eq-eqb}
use Rattle.adb_stream.specs.declared.flow.Flow.{Flow}
use Rattle.adb_stream.specs.declared.flow.Flow.TheVariants.{One, Credit}
use Rattle.adb_stream.specs.declared.row.Stream.{Stream}
use Rattle.adb_stream.specs.Flow.{wrote, has_credit}
use Rattle.adb_history.specs.Rows.{State}
use Rattle.adb_history.specs.Events.{owed_to, packets_to}
use Rattle.adb_history.specs.Links.{write_packet}
use Rattle.adb_history.specs.Flow.{write_len, write_before, writes, payloads, total, goes_up, all_go_up, flow_after}
use Rattle.adb_history.specs.Births.{joined, is_wrte, carried_in, count_from}
use Rattle.adb_history.specs.Fifo.{okays_of, credit_of}
use Rattle.adb_laws_causes.specs.Flows.{FlowIs}
use Rattle.adb_laws_causes.specs.Flows.{waiting}

-- ---- the writes
joined_writes : (k maxdata credit : ℕ) (held : List ℕ) → joined (writes k maxdata credit held)
    ≡ take (total (writes k maxdata credit held)) held
joined_writes zero maxdata credit held = refl
joined_writes (suc k) maxdata credit held = go (write_len maxdata credit held) refl
    (λ n. joined_writes k maxdata (credit - n) (drop n held))
  where
    go : (n : ℕ) → write_len maxdata credit held ≡ n
        → ((n : ℕ) → joined (writes k maxdata (credit - n) (drop n held))
        ≡ take (total (writes k maxdata (credit - n) (drop n held))) (drop n held))
        → joined (write_before (write_len maxdata credit held) held
        (writes k maxdata (credit - write_len maxdata credit held) (drop (write_len maxdata credit held) held)))
        ≡ take (total (write_before (write_len maxdata credit held) held
        (writes k maxdata (credit - write_len maxdata credit held) (drop (write_len maxdata credit held) held)))) held
    go zero e ih = subst (λ (n : ℕ). joined (write_before n held (writes k maxdata (credit - n) (drop n held)))
        ≡ take (total (write_before n held (writes k maxdata (credit - n) (drop n held)))) held) (sym e) refl
    go (suc n) e ih = subst (λ (n : ℕ). joined (write_before n held (writes k maxdata (credit - n) (drop n held)))
        ≡ take (total (write_before n held (writes k maxdata (credit - n) (drop n held)))) held) (sym e) some
      where
        later : List (List ℕ)
        later = writes k maxdata (credit - suc n) (drop (suc n) held)

        first : length (take (suc n) held) ≡ suc n
        first = length-take-le (suc n) held (omega (arith, e))

        some : take (suc n) held ++ joined later ≡ take (length (take (suc n) held) + total later) held
        some = ap (λ bytes. take (suc n) held ++ bytes) (ih (suc n))
            ∙ (sym (take-add (suc n) (total later) held) ∙ ap (λ m. take (m + total later) held) (sym first))

-- what goes up is the front of what is held
pub joined_payloads : (flow : Flow) (maxdata : ℕ) (held : List ℕ)
    → joined (payloads flow maxdata held) ≡ take (total (payloads flow maxdata held)) held
joined_payloads (One window) maxdata held = go window.outstanding
  where
    go : (b : Bool) → joined (cond b [] (writes 1 maxdata maxdata held)) ≡ take (total (cond b [] (writes 1 maxdata maxdata held))) held
    go true = refl
    go false = joined_writes 1 maxdata maxdata held
joined_payloads (Credit credit) maxdata held = joined_writes (length held) maxdata credit.to_send held

-- with one write each way it waits for its OKAY
pub waiting_payloads : (flow : Flow) (maxdata : ℕ) (held : List ℕ) → has_credit flow ≡ false
    → length (payloads flow maxdata held) + waiting flow ≡ waiting (flow_after (payloads flow maxdata held) flow)
waiting_payloads (Credit credit) maxdata held e = absurd (let clash : true ≡ false = e in cc)
waiting_payloads (One window) maxdata held e = go window.outstanding refl
  where
    one : (n : ℕ) → window.outstanding ≡ false → length (write_before n held []) + cond window.outstanding 1 0
        ≡ waiting (flow_after (write_before n held []) (One window))
    one zero f = omega arith
    one (suc n) f = ap (λ b. 1 + cond b 1 0) f

    go : (b : Bool) → window.outstanding ≡ b → length (cond b [] (writes 1 maxdata maxdata held)) + cond window.outstanding 1 0
        ≡ waiting (flow_after (cond b [] (writes 1 maxdata maxdata held)) (One window))
    go true f = omega arith
    go false f = one (write_len maxdata maxdata held) f

pub flow_wrote : (ps : List (List ℕ)) (flow : Flow) (credit : Bool) (written handed given : ℕ) → FlowIs flow credit written handed given
    → FlowIs (flow_after ps flow) credit written handed given
flow_wrote [] flow credit written handed given h = h
flow_wrote (p ∷ ps) (One window) credit written handed given h = flow_wrote ps (wrote (length p) (One window)) credit written handed given h
flow_wrote (p ∷ ps) (Credit c) credit written handed given h = flow_wrote ps (wrote (length p) (Credit c)) credit written handed given h

-- ---- the stream's own writes become due
module _ (l : ℕ) (x : Stream) where
  pub go_streams : (ps : List (List ℕ)) (s : State) → (all_go_up l x ps s).state.streams ≡ s.streams
  go_streams [] s = refl
  go_streams (p ∷ ps) s = go_streams ps (goes_up l x p s).state

  pub go_clients : (ps : List (List ℕ)) (s : State) → (all_go_up l x ps s).state.clients ≡ s.clients
  go_clients [] s = refl
  go_clients (p ∷ ps) s = go_clients ps (goes_up l x p s).state

  pub go_owed : (c : ℕ) (ps : List (List ℕ)) (s : State) → owed_to c (all_go_up l x ps s).told ≡ []
  go_owed c [] s = refl
  go_owed c (p ∷ ps) s = go_owed c ps (goes_up l x p s).state

  pub go_carried : (ps : List (List ℕ)) (s : State) → carried_in l (packets_to x.link (all_go_up l x ps s).told) ≡ joined ps
  go_carried [] s = refl
  go_carried (p ∷ ps) s =
      let rest = (all_go_up l x ps (goes_up l x p s).state).told in
      ap (λ b. carried_in l
      (cond b (write_packet l x.part.remote p ∷ packets_to x.link rest) (packets_to x.link rest)))
      (eq-eqb x.link x.link refl)
      ∙ (ap (λ b. cond b (p ++ carried_in l (packets_to x.link rest)) (carried_in l (packets_to x.link rest))) (eq-eqb l l refl)
      ∙ ap (λ bytes. p ++ bytes) (go_carried ps (goes_up l x p s).state))

  pub go_writes : (ps : List (List ℕ)) (s : State) → count_from is_wrte l (packets_to x.link (all_go_up l x ps s).told) ≡ length ps
  go_writes [] s = refl
  go_writes (p ∷ ps) s =
      let rest = (all_go_up l x ps (goes_up l x p s).state).told in
      ap (λ b. count_from is_wrte l
      (cond b (write_packet l x.part.remote p ∷ packets_to x.link rest) (packets_to x.link rest)))
      (eq-eqb x.link x.link refl)
      ∙ (ap (λ b. cond b (1 + count_from is_wrte l (packets_to x.link rest))
      (count_from is_wrte l (packets_to x.link rest))) (eq-eqb l l refl)
      ∙ ap (λ n. 1 + n) (go_writes ps (goes_up l x p s).state) ∙ omega arith)

  pub go_credits : (ps : List (List ℕ)) (s : State) → credit_of (okays_of l (packets_to x.link (all_go_up l x ps s).told)) ≡ 0
  go_credits [] s = refl
  go_credits (p ∷ ps) s =
      let rest = (all_go_up l x ps (goes_up l x p s).state).told in
      ap (λ b. credit_of
      (okays_of l (cond b (write_packet l x.part.remote p ∷ packets_to x.link rest) (packets_to x.link rest))))
      (eq-eqb x.link x.link refl)
      ∙ go_credits ps (goes_up l x p s).state
