-- What a hub shows of its tables, and the state that they stand for.
use Rattle.std.proofs.Common.{ℕ, ◌≡◌, ◌∷◌, Option, refl, sym, ◌∙◌, ap, subst}
use Rattle.adb_outside.specs.Tables.{at, Rows, listed}
use Rattle.adb_outside.proofs.TableLaws.{shows}
use Rattle.adb_capture.specs.declared.entry.Entry.{Entry}
use Rattle.adb_history.specs.Rows.{State}
use Rattle.adb_history.specs.Orderly.{IsDrawnOnly, IsOrderly}
use Rattle.adb_history.specs.Machine.{History, IsInRange, May, state, step}
use Rattle.adb_history.specs.Kept.{Kept, kept, IsLawful}
use Rattle.adb_history.proofs.OrderlyStates.{orderly}
use Rattle.adb_hub_tables.specs.declared.tables.Tables.{Tables}
use Rattle.adb_hub_tables.specs.Tables.{state_of}
use Rattle.adb_hub_tables.specs.Fit.{IsReached, Makes, Keeps}
use Rattle.adb_hub.specs.Sound.{IsSound}

-- ---- what a hub shows of a state says what the state is
same_rows : {A : Type 0} (these others : Rows (Option A)) (k : ℕ) → IsDrawnOnly k these → IsDrawnOnly k others
    → listed these 1 k ≡ listed others 1 k → (n : ℕ) → these n ≡ others n
same_rows these others k drawn too same n =
    sym (shows these k drawn.zero drawn.above n) ∙ (ap (at n) same ∙ shows others k too.zero too.above n)

-- what is known of the rows of two states that show the same
pub record AreDrawn (s : State) : Type 0 where
  pub clients : IsDrawnOnly s.joined s.clients
  pub links : IsDrawnOnly s.devices.drawn s.links
  pub streams : IsDrawnOnly s.drawn s.streams

pub drawn_of : (s : State) → IsReached s → AreDrawn s
drawn_of s reached =
    subst AreDrawn (sym reached.is) (of_orderly (state reached.history) (orderly reached.history reached.legal))
  where
    of_orderly : (x : State) → IsOrderly x → AreDrawn x
    of_orderly x h = record { clients = h.clients; links = h.links; streams = h.streams }

module _ (s x : State) (drawn : AreDrawn s) (too : AreDrawn x) (same : kept s ≡ kept x) where
  joined : s.joined ≡ x.joined
  joined = ap (λ (k : Kept). k.joined) same

  ids : s.drawn ≡ x.drawn
  ids = ap (λ (k : Kept). k.streams.drawn) same

  plugged : s.devices.drawn ≡ x.devices.drawn
  plugged = ap (λ (k : Kept). k.devices.drawn) same

  clients : (n : ℕ) → s.clients n ≡ x.clients n
  clients = same_rows s.clients x.clients s.joined drawn.clients (subst (λ (k : ℕ). IsDrawnOnly k x.clients) (sym joined) too.clients)
      (ap (λ (k : Kept). k.clients) same ∙ ap (λ (k : ℕ). listed x.clients 1 k) (sym joined))

  links : (n : ℕ) → s.links n ≡ x.links n
  links = same_rows s.links x.links s.devices.drawn drawn.links (subst (λ (k : ℕ). IsDrawnOnly k x.links) (sym plugged) too.links)
      (ap (λ (k : Kept). k.links) same ∙ ap (λ (k : ℕ). listed x.links 1 k) (sym plugged))

  streams : (n : ℕ) → s.streams n ≡ x.streams n
  streams = same_rows s.streams x.streams s.drawn drawn.streams (subst (λ (k : ℕ). IsDrawnOnly k x.streams) (sym ids) too.streams)
      (ap (λ (k : Kept). k.streams.streams) same ∙ ap (λ (k : ℕ). listed x.streams 1 k) (sym ids))

  same_state : s ≡ x
  same_state i = record {
    joined = joined i;
    drawn = ids i;
    clients = λ n. clients n i;
    links = λ n. links n i;
    streams = λ n. streams n i;
    devices = (same i).devices;
    forwards = (same i).forwards;
    stopped = (same i).stopped;
  }

-- The tables of a hub that holds a history stand for what that leaves.
pub stands_for : (t : Tables) (h : History) → IsSound t → IsLawful (kept (state_of t)) h → state_of t ≡ state h
stands_for t h sound lawful =
    same_state (state_of t) (state h) (drawn_of (state_of t) sound.reached)
    (drawn_of (state h) (record { history = h; legal = lawful.legal; is = refl })) lawful.seen

-- ---- after an entry
-- an entry that may be made
pub record IsGiven (e : Entry) (s : State) : Type 0 where
  pub range : IsInRange e
  pub may : May s e

pub sound_after : (e : Entry) (old new : Tables) → IsSound old → IsGiven e (state_of old) → Makes e old new → IsSound new
sound_after e old new sound given makes = record {
  fit = makes.fit;
  reached = record {
    history = e ∷ sound.reached.history;
    legal = (sound.reached.legal, given.range, subst (λ (s : State). May s e) sound.reached.is given.may);
    is = makes.state ∙ ap (λ (s : State). (step s e).state) sound.reached.is;
  };
}

pub lawful_after : (e : Entry) (old new : Tables) (h : History) → IsSound old → IsGiven e (state_of old) → Makes e old new
    → IsLawful (kept (state_of old)) h → IsLawful (kept (state_of new)) (e ∷ h)
lawful_after e old new h sound given makes lawful =
    let is = stands_for old h sound lawful in
    record {
      legal = (lawful.legal, given.range, subst (λ (s : State). May s e) is given.may);
      seen = ap kept (makes.state ∙ ap (λ (s : State). (step s e).state) is);
    }

pub same_kept : (old new : Tables) → Keeps old new → kept (state_of new) ≡ kept (state_of old)
same_kept old new keeps = ap kept keeps.state
