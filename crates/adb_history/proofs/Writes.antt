-- The writes of what is held leave nothing that may be written.
use Rattle.std.proofs.Common.{◌≡◌, ℕ, ◌+◌, ◌-◌, ◌≤◌, zero, suc, true, cond, List, [], ◌∷◌, length, take, drop, refl, sym, ap, subst, ◌∙◌}
use Rattle.std.proofs.Common.{arith, length-drop}
use Rattle.std.proofs.lemmas.List.{length-take, drop-drop}
use Rattle.adb_stream.specs.Window.{OneWrite}
use Rattle.adb_stream.specs.Credit.{ByteCredit}
use Rattle.adb_stream.specs.declared.flow.Flow.{Flow}
use Rattle.adb_stream.specs.declared.flow.Flow.TheVariants.{One, Credit}
use Rattle.adb_history.specs.Flow.{write_len, write_before, writes, payloads, total, flow_after}

pub none_written : (k maxdata credit : ℕ) (held : List ℕ) → write_len maxdata credit held ≡ 0 → writes k maxdata credit held ≡ []
none_written zero maxdata credit held e = refl
none_written (suc k) maxdata credit held e =
    ap (λ n. write_before n held (writes k maxdata (credit - write_len maxdata credit held) (drop (write_len maxdata credit held) held))) e

-- after so many writes as there are bytes, no more may be written
abbrev IsDone : (k maxdata credit : ℕ) → List ℕ → List (List ℕ) → Type 0
IsDone k maxdata credit held sent = writes k maxdata (credit - total sent) (drop (total sent) held) ≡ []

done_none : (k maxdata credit : ℕ) (held : List ℕ) → write_len maxdata credit held ≡ 0 → IsDone k maxdata credit held []
done_none k maxdata credit held e =
    let same : credit ≡ credit - 0 = omega arith in
    subst (λ (n : ℕ). writes k maxdata n held ≡ []) same (none_written k maxdata credit held e)

writes_done : (fuel k maxdata credit : ℕ) (held : List ℕ) → length held ≤ fuel
    → IsDone k maxdata credit held (writes fuel maxdata credit held)
writes_done zero k maxdata credit held fits = done_none k maxdata credit held (omega (arith, fits))
writes_done (suc fuel) k maxdata credit held fits = go (write_len maxdata credit held) refl
    (λ n h. writes_done fuel k maxdata (credit - n) (drop n held) h)
  where
    go : (n : ℕ) → write_len maxdata credit held ≡ n
        → ((n : ℕ) → length (drop n held) ≤ fuel → IsDone k maxdata (credit - n) (drop n held)
        (writes fuel maxdata (credit - n) (drop n held)))
        → IsDone k maxdata credit held (write_before (write_len maxdata credit held) held
        (writes fuel maxdata (credit - write_len maxdata credit held) (drop (write_len maxdata credit held) held)))
    go zero e ih =
        subst (λ (n : ℕ). IsDone k maxdata credit held
        (write_before n held (writes fuel maxdata (credit - n) (drop n held)))) (sym e)
        (done_none k maxdata credit held e)
    go (suc n) e ih =
        subst (λ (n : ℕ). IsDone k maxdata credit held
        (write_before n held (writes fuel maxdata (credit - n) (drop n held)))) (sym e) more
      where
        later : List (List ℕ)
        later = writes fuel maxdata (credit - suc n) (drop (suc n) held)

        within : suc n ≤ length held
        within = omega (arith, e)

        shorter : length (drop (suc n) held) ≤ fuel
        shorter = omega (arith, length-drop (suc n) held, fits)

        first : length (take (suc n) held) ≡ suc n
        first = omega (arith, length-take (suc n) held, within)

        sum : length (take (suc n) held) + total later ≡ suc n + total later
        sum = ap (λ x. x + total later) first

        credits : credit - (suc n + total later) ≡ credit - suc n - total later
        credits = omega arith

        more : IsDone k maxdata credit held (take (suc n) held ∷ later)
        more = ap (λ x. writes k maxdata (credit - x) (drop x held)) sum
            ∙ (ap (λ x. writes k maxdata x (drop (suc n + total later) held)) credits
            ∙ (ap (writes k maxdata (credit - suc n - total later)) (sym (drop-drop (total later) (suc n) held))
            ∙ ih (suc n) shorter))

-- ---- the flow after writes
after_credit : (sent : List (List ℕ)) (credit : ByteCredit) → flow_after sent (Credit credit)
    ≡ Credit (record credit { to_send = credit.to_send - total sent })
after_credit [] credit = ap (λ n. Credit (record credit { to_send = n })) (omega arith)
after_credit (payload ∷ sent) credit =
    after_credit sent (record credit { to_send = credit.to_send - length payload })
    ∙ ap (λ n. Credit (record credit { to_send = n })) (omega arith)

-- a write that is outstanding stays so
waits : (sent : List (List ℕ)) (window : OneWrite) (maxdata : ℕ) (held : List ℕ) → window.outstanding ≡ true
    → payloads (flow_after sent (One window)) maxdata held ≡ []
waits [] window maxdata held e = ap (λ b. cond b [] (writes 1 maxdata maxdata held)) e
waits (payload ∷ sent) window maxdata held e = waits sent (record window { outstanding = true }) maxdata held refl

one_done : (window : OneWrite) (maxdata : ℕ) (held : List ℕ) (sent : List (List ℕ)) → payloads (One window) maxdata held ≡ sent
    → payloads (flow_after sent (One window)) maxdata (drop (total sent) held) ≡ []
one_done window maxdata held [] e = e
one_done window maxdata held (payload ∷ sent) e = waits sent (record window { outstanding = true }) maxdata
    (drop (total (payload ∷ sent)) held) refl

credit_done : (credit : ByteCredit) (maxdata : ℕ) (held : List ℕ)
    → payloads (flow_after (payloads (Credit credit) maxdata held) (Credit credit)) maxdata
    (drop (total (payloads (Credit credit) maxdata held)) held) ≡ []
credit_done credit maxdata held =
    let sent : List (List ℕ) = writes (length held) maxdata credit.to_send held in
    let left : List ℕ = drop (total sent) held in
    ap (λ flow. payloads flow maxdata left) (after_credit sent credit)
    ∙ writes_done (length held) (length left) maxdata credit.to_send held (omega arith)

-- What a stream may send, it has sent: it may send no more.
pub payloads_done : (flow : Flow) (maxdata : ℕ) (held : List ℕ)
    → payloads (flow_after (payloads flow maxdata held) flow) maxdata (drop (total (payloads flow maxdata held)) held) ≡ []
payloads_done (One window) maxdata held = one_done window maxdata held (payloads (One window) maxdata held) refl
payloads_done (Credit credit) maxdata held = credit_done credit maxdata held
