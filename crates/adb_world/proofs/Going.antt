-- Steps of a world that runs, one after the other.
use Rattle.std.specs.Prelude.{ℕ, ◌+◌, ◌^◌, ◌≡◌, ◌≢◌, ◌≤◌, ◌<◌, Bool, true, false, is_some, List, [], ◌∷◌, ◌++◌, Option, Some, None}
use Rattle.std.specs.Prelude.{option_map}
use Rattle.std.proofs.Common.{refl, sym, ◌∙◌, ap, subst, arith, ◌⊎◌, inl, inr, append_assoc}
use Rattle.std.proofs.lemmas.Bool.{cases_lt}
use Rattle.std.proofs.lemmas.List.{length-append}
use Rattle.adb_outside.specs.Tables.{at}
use Rattle.adb_capture.specs.declared.entry.Entry.{Entry}
use Rattle.adb_capture.specs.declared.entry.Entry.TheVariants.{Put, Read, Recv, Send}
use Rattle.adb_history.specs.Bytes.{has_ended}
use Rattle.adb_history.specs.Machine.{History, state}
use Rattle.adb_hub.specs.Answers.{offered_to}
use Rattle.adb_laws_births.specs.Laws.{GoesOn as StaysBehind}
use Rattle.adb_laws_steps.specs.Moved.{AreSteps}
use Rattle.adb_laws_steps.proofs.Moved.{steps_both}
use Rattle.adb_world.specs.Calls.{HasNone}
use Rattle.adb_world.specs.Parts.{Holds, IsKeptAt, IsRunning, Moved, Moves}
use Rattle.adb_world.specs.Settled.{Anything, Goes, GoesOn, GrowsFrom, HasMade, HasMoved, NoneDown, NoneHanded, NoneUp, NoneWritten, Rests}
use Rattle.adb_world.specs.Session.{left_of}
use Rattle.adb_world.specs.declared.parts.Parts.{Parts}
use Rattle.adb_world.specs.declared.session.Session.{Session}
use Rattle.adb_world.proofs.Greeted.{stays_greeted}
use Rattle.adb_world.proofs.Stays.{same_sessions, then_same}

-- births, and what links brought, stay
abbrev pub AllStay : Type 0
AllStay = (e : Entry) (older : History) → StaysBehind e older

-- entries of this kind are steps of a world
abbrev pub MakesSteps : (List ℕ → Entry) → Parts → Type 0
MakesSteps e parts = (h : History) (bytes : List ℕ) → Holds h parts → bytes ≢ [] → AreSteps h (e bytes ∷ [])

-- A step that was made leaves a world that runs.
pub running_on : AllStay → (e : List ℕ → Entry) (max : ℕ) (all : Option (List ℕ)) (old new : Parts) (runs : IsRunning old)
    → Moved e max all runs.history old new → IsRunning new
running_on stays e max all old new runs moved = record {
  history = e moved.bytes ∷ runs.history;
  holds = moved.holds;
  greeted = stays_greeted (e moved.bytes) runs.history ((stays (e moved.bytes) runs.history).brings 1) runs.greeted;
}

pub runs_on : AllStay → (e : List ℕ → Entry) (max : ℕ) (all : History → Option (List ℕ)) (old new : Parts) (runs : IsRunning old)
    → MakesSteps e old → ((h : History) → Holds h old → Moved e max (all h) h old new) → HasMade 1 old new
runs_on stays e max all old new runs steps moves = record {
  goes = record {
    runs = running_on stays e max (all runs.history) old new runs (moves runs.history runs.holds);
    steps = 1;
    grows = λ h holds. record {
      more = e (moves h holds).bytes ∷ [];
      moves = steps h (moves h holds).bytes holds (moves h holds).some;
      counted = refl;
      holds = (moves h holds).holds;
    };
    same = (moves runs.history runs.holds).same;
    given = (moves runs.history runs.holds).given;
  };
  counted = refl;
}

-- A step of one kind.
pub goes_by : AllStay → (e : List ℕ → Entry) (max : ℕ) (all : History → Option (List ℕ)) (Nothing : Parts → Type 0)
    (moved : Bool) (old new : Parts)
    → (runs : IsRunning old) → MakesSteps e old → ((h : History) → Holds h old → Moves e max (all h) moved h old new)
    → (((h : History) → Holds h old → HasNone (all h)) → Nothing old) → Goes Nothing moved old new
goes_by stays e max all Nothing true old new runs steps moves none = runs_on stays e max all old new runs steps moves
goes_by stays e max all Nothing false old new runs steps moves none =
    ((moves runs.history runs.holds).0, none (λ h holds. (moves h holds).1))

-- ---- one kind behind another
-- a step was made behind none
pub behind_none : (old mid new : Parts) → mid ≡ old → HasMade 1 mid new → HasMade 1 old new
behind_none old mid new same goes = subst (λ (p : Parts). HasMade 1 p new) same goes

pub runs_still : (old mid : Parts) → mid ≡ old → IsRunning old → IsRunning mid
runs_still old mid same runs = subst IsRunning (sym same) runs

pub any_goes : (A : Parts → Type 0) (moved : Bool) (old new : Parts) → Goes A moved old new → Goes Anything moved old new
any_goes A true old new goes = goes
any_goes A false old new goes = (goes.0, tt)

-- where each kind was tried, no step is possible
pub all_rest : (old p q r s new : Parts) (moved : Bool) → p ≡ old → Goes NoneDown false p q → Goes NoneUp false q r
    → Goes (NoneHanded 0) false r s
    → Goes (NoneWritten 0) moved s new → Goes Rests moved old new
all_rest old p q r s new true first down up hand goes = behind_none old s new (hand.0 ∙ (up.0 ∙ (down.0 ∙ first))) goes
all_rest old p q r s new false first down up hand goes =
    let down_old : NoneDown old = subst NoneDown first down.1 in
    let up_old : NoneUp old = subst NoneUp (down.0 ∙ first) up.1 in
    let hand_old : NoneHanded 0 old = subst (NoneHanded 0) (up.0 ∙ (down.0 ∙ first)) hand.1 in
    let write_old : NoneWritten 0 old = subst (NoneWritten 0) (hand.0 ∙ (up.0 ∙ (down.0 ∙ first))) goes.1 in
    (goes.0 ∙ (hand.0 ∙ (up.0 ∙ (down.0 ∙ first))), record { down = down_old; up = up_old; handed = hand_old; written = write_old })

-- ---- many steps
pub stays_here : (parts : Parts) → IsRunning parts → GoesOn parts parts
stays_here parts runs = record {
  runs = runs;
  steps = 0;
  grows = λ h holds. record { more = []; moves = tt; counted = refl; holds = holds };
  same = same_sessions parts.sessions.entries;
  given = refl;
}

pub goes_further : (old mid new : Parts) → GoesOn old mid → GoesOn mid new → GoesOn old new
goes_further old mid new first more = record {
  runs = more.runs;
  steps = first.steps + more.steps;
  grows = λ h holds. grows h (first.grows h holds);
  same = then_same old.sessions.entries mid.sessions.entries new.sessions.entries first.same more.same;
  given = more.given ∙ first.given;
}
  where
    grows : (h : History) → GrowsFrom first.steps h mid → GrowsFrom (first.steps + more.steps) h new
    grows h before =
        let behind = more.grows (before.more ++ h) before.holds in
        record {
          more = behind.more ++ before.more;
          moves = steps_both h before.more behind.more before.moves behind.moves;
          counted = (
              let both = length-append behind.more before.more in
              let one = before.counted in
              let two = behind.counted in
              omega (arith, both, one, two));
          holds = subst (λ (g : History). Holds g new) (sym (append_assoc behind.more before.more h)) behind.holds;
        }

-- none and one more step
pub made_none : (parts : Parts) → IsRunning parts → HasMade 0 parts parts
unfolding stays_here
made_none parts runs = record { goes = stays_here parts runs; counted = refl }

-- of the hub alone
pub has_moved : (n : ℕ) (old new : Parts) → IsRunning old → HasMade n old new → HasMoved n old.hub new.hub
has_moved n old new runs made =
    let grown = made.goes.grows runs.history runs.holds in
    record {
      before = runs.history;
      held = runs.holds.lawful;
      more = grown.more;
      moves = grown.moves;
      counted = grown.counted ∙ made.counted;
      holds = grown.holds.lawful;
    }

pub made_more : (n : ℕ) (old mid new : Parts) → HasMade n old mid → HasMade 1 mid new → HasMade (n + 1) old new
unfolding goes_further
made_more n old mid new first more = record {
  goes = goes_further old mid new first.goes more.goes;
  counted = (let one = first.counted in let two = more.counted in omega (arith, one, two));
}

-- ---- one session after the other
-- what may be moved for the client of a number
abbrev pub Content : Type 0
Content = Parts → History → ℕ → Option (List ℕ)

abbrev pub NoneOf : Content → ℕ → Parts → Type 0
NoneOf what from parts = (h : History) → Holds h parts → (c : ℕ) (session : Session) → from < c → at c parts.sessions.entries ≡ Some session
    → HasNone (what parts h c)

-- The sessions behind a number were tried, up to another one, and nothing has changed.
pub record Tried (what : Content) (from after : ℕ) (old now : Parts) : Type 0 where
  pub same : now ≡ old
  pub order : from ≤ after
  pub none : (h : History) → Holds h old → (c : ℕ) (session : Session) → from < c → c ≤ after → at c old.sessions.entries ≡ Some session
      → HasNone (what old h c)

-- no session has a number between two
abbrev pub NoneBetween : ℕ → ℕ → Parts → Type 0
NoneBetween after number parts = (c : ℕ) → after < c → c < number → at c parts.sessions.entries ≡ None

pub begins_trying : (what : Content) (from : ℕ) (old : Parts) → Tried what from from old old
begins_trying what from old = record {
  same = refl;
  order = omega arith;
  none = λ h holds c session past within is. absurd (omega (arith, past, within));
}

module _ (what : Content) (from after : ℕ) (old now : Parts) (tried : Tried what from after old now) where
  -- the next one was tried
  pub tried_one : (e : ℕ → List ℕ → Entry) (max number : ℕ) (new : Parts) → IsRunning now → after < number → NoneBetween after number now
      → ((h : History) → Holds h now → Moves (e number) max (what now h number) false h now new) → Tried what from number old new
  tried_one e max number new runs less between moves = record {
    same = (moves runs.history runs.holds).0 ∙ tried.same;
    order = let order = tried.order in omega (arith, order, less);
    none = λ h holds c session past within is. go h holds c session past is (cases_lt after c) (cases_lt c number) within;
  }
    where
      here : (h : History) → Holds h old → HasNone (what old h number)
      here h holds =
          subst (λ (p : Parts). HasNone (what p h number)) tried.same
          (moves h (subst (Holds h) (sym tried.same) holds)).1

      go : (h : History) → Holds h old → (c : ℕ) (session : Session) → from < c
          → at c old.sessions.entries ≡ Some session → (after < c) ⊎ (c ≤ after)
          → (c < number) ⊎ (number ≤ c) → c ≤ number → HasNone (what old h c)
      go h holds c session past is (inr tried_before) order within = tried.none h holds c session past tried_before is
      go h holds c session past is (inl behind) (inl below) within =
          absurd (let clash : None ≡ Some session =
          sym (between c behind below) ∙ (ap (λ (p : Parts). at c p.sessions.entries) tried.same ∙ is) in cc)
      go h holds c session past is (inl behind) (inr above) within =
          let same : number ≡ c = omega (arith, above, within) in subst (λ (n : ℕ). HasNone (what old h n)) same (here h holds)

  -- all were tried
  pub tried_all : IsRunning now → NoneBetween after (2 ^ 32) now → NoneOf what from old
  tried_all runs between h holds c session past is = go (cases_lt after c)
    where
      drawn : c < 2 ^ 32
      drawn =
          let kept = (subst (IsKeptAt old.given h c) is (holds.sessions c)).0.1 in
          let few = holds.few in
          omega (arith, kept, few)

      go : (after < c) ⊎ (c ≤ after) → HasNone (what old h c)
      go (inr within) = tried.none h holds c session past within is
      go (inl behind) =
          absurd (let clash : None ≡ Some session =
          sym (between c behind drawn) ∙ (ap (λ (p : Parts). at c p.sessions.entries) tried.same ∙ is) in cc)

-- a step for one of them is a step
pub tried_moves : AllStay → (what : Content) (from after : ℕ) (old now new : Parts) → Tried what from after old now
    → (e : ℕ → List ℕ → Entry)
    (max number : ℕ) → (runs : IsRunning now) → MakesSteps (e number) now
    → ((h : History) → Holds h now → Moves (e number) max (what now h number) true h now new) → HasMade 1 old new
tried_moves stays what from after old now new tried e max number runs steps moves =
    subst (λ (p : Parts). HasMade 1 p new) tried.same
    (runs_on stays (e number) max (λ h. what now h number) now new runs steps moves)

-- what may be handed to a client, and what a session may write
abbrev pub to_hand_out : Content
to_hand_out parts h c = offered_to (state h).devices ((state h).clients c)

abbrev pub to_write : Content
to_write parts h c = option_map left_of (at c parts.sessions.entries)

pub none_written : (from : ℕ) (parts : Parts) → IsRunning parts → NoneOf to_write from parts → NoneWritten from parts
none_written from parts runs none c session past is =
    subst (λ (o : Option Session). HasNone (option_map left_of o)) is (none runs.history runs.holds c session past is)

-- ---- what is moved of a session
-- the input of its client has not ended
session_open : (number : ℕ) (parts : Parts) → is_some (at number parts.sessions.entries) ≡ true → (h : History)
    → Holds h parts → has_ended number h ≡ false
session_open number parts there h holds = go (at number parts.sessions.entries) there (holds.sessions number)
  where
    go : (o : Option Session) → is_some o ≡ true → IsKeptAt parts.given h number o → has_ended number h ≡ false
    go None e kept = absurd (let clash : false ≡ true = e in cc)
    go (Some session) e kept = kept.1.alive

pub reads_step : (number : ℕ) (parts : Parts) → is_some (at number parts.sessions.entries) ≡ true
    → MakesSteps (λ (x : List ℕ). Read number x) parts
reads_step number parts there h bytes holds some = (tt, some, session_open number parts there h holds)

pub puts_step : (number : ℕ) (parts : Parts) → is_some (at number parts.sessions.entries) ≡ true
    → MakesSteps (λ (x : List ℕ). Put number x) parts
puts_step number parts there h bytes holds some = (tt, some, session_open number parts there h holds)

pub sends_step : (parts : Parts) → MakesSteps (Send 1) parts
sends_step parts h bytes holds some = (tt, some, refl)

pub receives_step : (parts : Parts) → MakesSteps (Recv 1) parts
receives_step parts h bytes holds some = (tt, some, refl)
