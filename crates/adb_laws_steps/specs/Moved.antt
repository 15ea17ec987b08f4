-- Steps: entries of which each moves some bytes; how much they moved, and how often bytes were put.
use Rattle.std.specs.Prelude.{ℕ, ◌+◌, ◌≡◌, ◌≢◌, false, cond, [], ◌∷◌, length}
use Rattle.adb_capture.specs.declared.entry.Entry.TheVariants.{Read, Recv, Put, Send}
use Rattle.adb_history.specs.Bytes.{bytes_read, bytes_put, bytes_received, bytes_sent, has_ended}
use Rattle.adb_history.specs.Machine.{History}

-- Each of these entries moves some bytes: on the first link, or of a client whose input had not ended before all of them.
abbrev pub AreSteps : (before more : History) → Type 0
AreSteps before [] = Unit {0}
AreSteps before (Read c bytes ∷ more) = AreSteps before more × (bytes ≢ []) × (has_ended c before ≡ false)
AreSteps before (Put c bytes ∷ more) = AreSteps before more × (bytes ≢ []) × (has_ended c before ≡ false)
AreSteps before (Recv t bytes ∷ more) = AreSteps before more × (bytes ≢ []) × (t ≡ 1)
AreSteps before (Send t bytes ∷ more) = AreSteps before more × (bytes ≢ []) × (t ≡ 1)
AreSteps before (_ ∷ more) = ⊥

-- the bytes that were read and put, received and sent, entry by entry
abbrev pub moved : History → ℕ
moved [] = 0
moved (Read c bytes ∷ older) = length bytes + moved older
moved (Recv t bytes ∷ older) = length bytes + moved older
moved (Put c bytes ∷ older) = length bytes + moved older
moved (Send t bytes ∷ older) = length bytes + moved older
moved (_ ∷ older) = moved older

-- what was read of a client and put to it; and what was moved on the first link
abbrev pub handled : ℕ → History → ℕ
handled c h = length (bytes_read c h) + length (bytes_put c h)

abbrev pub on_link : History → ℕ
on_link h = length (bytes_sent 1 h) + length (bytes_received 1 h)

-- so much of a client whose input had not ended before
abbrev pub of_here : History → ℕ → ℕ → ℕ
of_here before c n = cond (has_ended c before) 0 n
