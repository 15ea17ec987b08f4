-- What is held of clients and on streams stays within bounds.
use Rattle.std.proofs.Common.{ℕ, ◌+◌, ◌≡◌, ◌≤◌, Bool, true, false, cond, ◌∷◌, length, Option, refl, sym, ◌∙◌, ap, subst, arith}
use Rattle.std.specs.Prelude.{nat_lt, nat_eq}
use Rattle.std.proofs.lemmas.Bool.{eqb-true}
use Rattle.std.proofs.lemmas.Bool.Decides.{nat_tests}
use Rattle.adb_outside.specs.Tables.{at}
use Rattle.adb_outside.proofs.TableLaws.{shows}
use Rattle.adb_capture.specs.declared.entry.Entry.{Entry}
use Rattle.adb_capture.specs.declared.entry.Entry.TheVariants.{Read}
use Rattle.adb_stream.specs.declared.flow.Flow.{Flow}
use Rattle.adb_stream.specs.declared.flow.Flow.TheVariants as flow
use Rattle.adb_history.specs.Rows.{Client, State}
use Rattle.adb_history.specs.Orderly.{IsSoundFlow}
use Rattle.adb_history.specs.Held.{held_of, read_by}
use Rattle.adb_history.specs.Machine.{History, state}
use Rattle.adb_history.specs.Kept.{Kept, IsLawful}
use Rattle.adb_history.proofs.OrderlyStates.{orderly}
use Rattle.adb_laws_fifo_up.proofs.Holding.{holds_read}
use Rattle.adb_hub.specs.declared.hub.TheConstants.{MAX_HELD}
use Rattle.adb_desk.specs.Desk.{is_late}
use Rattle.adb_desk.specs.Sound.{AreHeld, IsWithinWindow, AreWithinWindows}

-- ---- the rows that a hub shows are the state's
pub client_row : (hub : Kept) (h : History) → IsLawful hub h → (c : ℕ) → at c hub.clients ≡ (state h).clients c
client_row hub h lawful c =
    let o = orderly h lawful.legal in
    ap (λ (k : Kept). at c k.clients) lawful.seen ∙ shows (state h).clients (state h).joined o.clients.zero o.clients.above c

stream_row : (hub : Kept) (h : History) → IsLawful hub h → (l : ℕ) → at l hub.streams.streams ≡ (state h).streams l
stream_row hub h lawful l =
    let o = orderly h lawful.legal in
    ap (λ (k : Kept). at l k.streams.streams) lawful.seen ∙ shows (state h).streams (state h).drawn o.streams.zero o.streams.above l

-- ---- clients
fits_here : (b : Bool) (held n : ℕ) → nat_lt MAX_HELD (held + n) ≡ false → held ≤ MAX_HELD → held + cond b n 0 ≤ MAX_HELD
fits_here true held n late le = grind (arith, nat_tests)
fits_here false held n late le = omega (arith, le)

-- what is held and what an entry reads fit, where the entry is not late
fits : (e : Entry) (s : State) (c : ℕ) → is_late e s ≡ false → ((k : ℕ) → held_of (s.clients k) ≤ MAX_HELD)
    → held_of (s.clients c) + read_by c e ≤ MAX_HELD
fits (Read n bytes) s c late le = go (nat_eq n c) refl
  where
    go : (b : Bool) → nat_eq n c ≡ b → held_of (s.clients c) + cond (nat_eq n c) (length bytes) 0 ≤ MAX_HELD
    go true is =
        let same : n ≡ c = eqb-true n c is in
        subst (λ (x : ℕ). held_of (s.clients c) + x ≤ MAX_HELD) (sym (ap (λ b. cond b (length bytes) 0) is))
        (fits_here true (held_of (s.clients c)) (length bytes)
        (subst (λ (m : ℕ). nat_lt MAX_HELD (held_of (s.clients m) + length bytes) ≡ false) same late) (le c))
    go false is = subst (λ (x : ℕ). held_of (s.clients c) + x ≤ MAX_HELD) (sym (ap (λ b. cond b (length bytes) 0) is)) (omega (arith, le c))
fits _ s c late le = omega (arith, le c)

-- What is held of clients stays within bounds over an entry that is not late.
pub held_step : (e : Entry) (old new : Kept) (h : History) → IsLawful old h → IsLawful new (e ∷ h)
    → is_late e (state h) ≡ false → AreHeld old → AreHeld new
held_step e old new h lawful next late held c =
    let before : (k : ℕ) → held_of ((state h).clients k) ≤ MAX_HELD =
    λ k. subst (λ (o : Option Client). held_of o ≤ MAX_HELD) (client_row old h lawful k) (held k) in
    let grows = holds_read e h next.legal c in
    let fit = fits e (state h) c late before in
    subst (λ (o : Option Client). held_of o ≤ MAX_HELD) (sym (client_row new (e ∷ h) next c)) (omega (arith, grows, fit))

-- ---- streams
within_window : (f : Flow) → IsSoundFlow f → IsWithinWindow f
within_window (flow.One window) sound = tt
within_window (flow.Credit credit) sound = omega (arith, sound.window)

-- What is still to be handed out of a stream that a hub shows is within its window.
pub within_windows : (hub : Kept) (h : History) → IsLawful hub h → AreWithinWindows hub
within_windows hub h lawful l stream is =
    let o = orderly h lawful.legal in
    within_window stream.part.flow (o.stream l stream (sym (stream_row hub h lawful l) ∙ is)).sound
