-- The hub of a world takes what the world asks of it.
use Rattle.std.specs.Prelude.{ℕ, ◌+◌, ◌-◌, ◌^◌, ◌≡◌, ◌≤◌, ◌<◌, true, false, is_some, List, Option, Some, None}
use Rattle.std.proofs.Common.{refl, ◌∙◌, ap, subst, arith}
use Rattle.std.proofs.lemmas.Bool.Decides.{nat_tests}
use Rattle.adb_outside.specs.Tables.{at}
use Rattle.adb_capture.specs.declared.entry.Entry.{Entry}
use Rattle.adb_history.specs.Accepted.{is_drawn}
use Rattle.adb_history.specs.Kept.{Kept}
use Rattle.adb_history.specs.Machine.{History, state, IsDrawn}
use Rattle.adb_history.proofs.Books.{all_books}
use Rattle.adb_history.proofs.Numbers.{counted}
use Rattle.adb_hub.specs.declared.answers.Handed.{Handed}
use Rattle.adb_hub.specs.declared.answers.Handed.TheVariants as handed
use Rattle.adb_hub.specs.Answers.{HandsOut}
use Rattle.adb_laws_answers.specs.Sessions.{AsksForServices}
use Rattle.adb_world.specs.Calls.{HasHistory, HasTaken, bytes_of}
use Rattle.adb_world.specs.Parts.{Holds, IsKeptAt, most_sessions}
use Rattle.adb_world.specs.declared.parts.Parts.{Parts}
use Rattle.adb_world.specs.declared.session.Session.{Session}

-- what is handed out, as it is told
pub taken : (e : List ℕ → Entry) (max : ℕ) (all : Option (List ℕ)) (given : Handed) (h : History) (old new : Kept)
    → HandsOut e max all given h old new
    → HasTaken e max all (bytes_of given) h old new
taken e max (Some all) (handed.Bytes bytes) h old new out = out
taken e max (Some all) handed.Nothing h old new out = out
taken e max (Some all) handed.Done h old new out = absurd out
taken e max None (handed.Bytes bytes) h old new out = absurd out
taken e max None handed.Nothing h old new out = absurd out
taken e max None handed.Done h old new out = (tt, out)

drawn_test : (drawn n : ℕ) → 0 < n → n ≤ drawn → is_drawn drawn n ≡ true
drawn_test drawn n some le = grind (arith, nat_tests)

module _ (h : History) (parts : Parts) (holds : Holds h parts) where
  pub history_of : HasHistory parts.hub
  history_of = (h, holds.lawful)

  pub linked : is_drawn parts.hub.devices.drawn 1 ≡ true
  linked =
      let one = holds.one in
      let counts = (counted h).plugged in
      let seen : parts.hub.devices.drawn ≡ (state h).devices.drawn = ap (λ (k : Kept). k.devices.drawn) holds.lawful.seen in
      drawn_test parts.hub.devices.drawn 1 (omega arith) (omega (arith, one, counts, seen))

  joined : parts.hub.joined ≡ parts.given
  joined = ap (λ (k : Kept). k.joined) holds.lawful.seen ∙ ((counted h).joined ∙ holds.came)

  came : (c : ℕ) → IsDrawn parts.given c → is_drawn parts.hub.joined c ≡ true
  came c drawn = let le = drawn.1 in let all = joined in drawn_test parts.hub.joined c drawn.0 (omega (arith, le, all))

  -- the number of a session was drawn
  pub session_drawn : (c : ℕ) (session : Session) → at c parts.sessions.entries ≡ Some session → is_drawn parts.hub.joined c ≡ true
  session_drawn c session is = came c (subst (IsKeptAt parts.given h c) is (holds.sessions c)).0

  pub there_drawn : (c : ℕ) → is_some (at c parts.sessions.entries) ≡ true → is_drawn parts.hub.joined c ≡ true
  there_drawn c some = go (at c parts.sessions.entries) refl some
    where
      go : (o : Option Session) → at c parts.sessions.entries ≡ o → is_some o ≡ true → is_drawn parts.hub.joined c ≡ true
      go None is e = absurd (let clash : false ≡ true = e in cc)
      go (Some session) is e = session_drawn c session is

  pub room : parts.given < most_sessions → parts.hub.joined < 2 ^ 32 - 1
  room few = let all = joined in omega (arith, few, all)

  pub number : parts.hub.joined + 1 ≡ parts.given + 1
  number = ap (λ (n : ℕ). n + 1) joined

  pub goes_on : AsksForServices h → parts.hub.stopped ≡ false
  goes_on asks = ap (λ (k : Kept). k.stopped) holds.lawful.seen ∙ ((all_books h holds.lawful.legal).killed ∙ asks.killed)
