-- Sessions that end, one after the other.
use Rattle.std.specs.Prelude.{ℕ, ◌^◌, ◌≡◌, ◌≢◌, ◌≤◌, ◌<◌, Bool, true, false, List, [], ◌∷◌, Option, Some, None}
use Rattle.std.proofs.Common.{refl, sym, ◌∙◌, ap, subst, arith, ◌⊎◌, inl, inr}
use Rattle.std.proofs.lemmas.Bool.{cases_lt, cases_eq}
use Rattle.adb_outside.specs.Tables.{at, Puts}
use Rattle.adb_outside.specs.declared.kinds.Cause.TheVariants.{Eof}
use Rattle.adb_outside.proofs.TableLaws.{at_head, puts_put_at}
use Rattle.adb_capture.specs.declared.entry.Entry.TheVariants.{End}
use Rattle.adb_history.specs.Machine.{History}
use Rattle.adb_daemon.specs.Daemon.{files_of}
use Rattle.adb_world.specs.Parts.{Adds, AreSame, AreSameBut, Drops, Holds, IsKeptAt, IsRunning, IsSame}
use Rattle.adb_world.specs.Session.{left_of, new_session}
use Rattle.adb_world.specs.Settled.{AreWhole, IsAtEase, IsDone, IsSettled, IsSound}
use Rattle.adb_world.specs.World.{view_of}
use Rattle.adb_world.specs.declared.parts.Parts.{Parts}
use Rattle.adb_world.specs.declared.session.Session.{Session}
use Rattle.adb_world.proofs.Going.{AllStay}
use Rattle.adb_world.proofs.Greeted.{stays_greeted}

-- a table that has nothing at any number is empty
pub none_at_all : {X : Type 0} (table : List (ℕ × X)) → ((n : ℕ) → at n table ≡ None) → table ≡ []
none_at_all [] none = refl
none_at_all (e ∷ es) none = absurd (let clash : Some e.1 ≡ None = sym (at_head e es) ∙ none e.0 in cc)

same_none : (o : Option Session) → IsSame None o → o ≡ None
same_none None same = refl
same_none (Some session) same = absurd same

-- where no session was kept, none is
pub same_empty : (old new : List (ℕ × Session)) → old ≡ [] → AreSame old new → new ≡ []
same_empty old new none same =
    none_at_all new (λ n. same_none (at n new) (subst (λ (o : List (ℕ × Session)). IsSame (at n o) (at n new)) none (same n)))

-- ---- the world at rest
pub settled_now : (parts : Parts) → IsDone parts → IsSettled (view_of parts false true)
settled_now parts done = record { calm = done.ease.calm; words = done.words }

-- a world that is not spent is at ease
pub at_ease : (settled : Bool) (parts : Parts) → IsSound false settled parts → IsAtEase parts
at_ease true parts sound = sound.ease
at_ease false parts sound = sound.0

pub ease_of : (spent settled : Bool) (parts : Parts) → spent ≡ false → IsSound spent settled parts → IsAtEase parts
ease_of true settled parts off sound = absurd (let clash : true ≡ false = off in cc)
ease_of false settled parts off sound = at_ease settled parts sound

-- each session has written all its words or nothing
pub whole_of : (spent settled : Bool) (parts : Parts) → spent ≡ false → IsSound spent settled parts → AreWhole parts.sessions.entries
whole_of true settled parts off sound = absurd (let clash : true ≡ false = off in cc)
whole_of false true parts off sound = λ n session is. inl (sound.words n session is)
whole_of false false parts off sound = sound.1

-- a world in which a session was started is sound
pub sound_with : (spent : Bool) (parts : Parts) → IsAtEase parts → AreWhole parts.sessions.entries → IsSound spent false parts
sound_with true parts ease whole = tt
sound_with false parts ease whole = (ease, whole)

-- and so it is with one more
pub whole_with : (number : ℕ) (service text : List ℕ) (old new : Parts) → AreWhole old.sessions.entries
    → Adds number (new_session service text) old new
    → AreWhole new.sessions.entries
whole_with number service text old new whole adds c session is = go (cases_eq c number)
  where
    puts : Puts number (Some (new_session service text)) old.sessions.entries new.sessions.entries
    puts =
        subst (Puts number (Some (new_session service text)) old.sessions.entries) (sym adds.sessions)
        (puts_put_at number (new_session service text) old.sessions.entries)

    go : (c ≡ number) ⊎ (c ≢ number) → (left_of session ≡ []) ⊎ (session.written ≡ 0)
    go (inl same) =
        let both : Some (new_session service text) ≡ Some session =
        sym puts.here ∙ (ap (λ (k : ℕ). at k new.sessions.entries) (sym same) ∙ is) in
        let one : new_session service text ≡ session = cc in
        inr (ap (λ (s : Session). s.written) (sym one))
    go (inr other) = whole c session (sym (puts.others c other) ∙ is)

-- where it has settled all is done
pub done_of : (spent settled : Bool) (parts : Parts) → spent ≡ false → settled ≡ true → IsSound spent settled parts → IsDone parts
done_of true settled parts off on sound = absurd (let clash : true ≡ false = off in cc)
done_of false false parts off on sound = absurd (let clash : false ≡ true = on in cc)
done_of false true parts off on sound = sound

-- ---- one end
-- what a world holds behind the end of a client
pub ends_running : AllStay → (n : ℕ) (old new : Parts) (runs : IsRunning old)
    → ((h : History) → Holds h old → Holds (End n Eof ∷ h) new) → IsRunning new
ends_running stays n old new runs ends = record {
  history = End n Eof ∷ runs.history;
  holds = ends runs.history runs.holds;
  greeted = stays_greeted (End n Eof) runs.history ((stays (End n Eof) runs.history).brings 1) runs.greeted;
}

pub same_but : (n : ℕ) (old mid new : Parts) → Drops n old mid → AreSame mid.sessions.entries new.sessions.entries
    → AreSameBut n old.sessions.entries new.sessions.entries
same_but n old mid new drops same = record {
  here = same_none (at n new.sessions.entries)
      (subst (λ (o : Option Session). IsSame o (at n new.sessions.entries)) drops.sessions.here (same n));
  others = λ c other. subst (λ (o : Option Session). IsSame o (at c new.sessions.entries)) (drops.sessions.others c other) (same c);
}

-- ---- all ends
-- The sessions up to a number are kept no more.
pub record Finishing (after : ℕ) (old now : Parts) : Type 0 where
  pub done : IsDone now
  pub given : now.given ≡ old.given
  pub files : files_of now.device ≡ files_of old.device
  pub none : (c : ℕ) → c ≤ after → at c now.sessions.entries ≡ None

-- nothing is kept under 0
none_zeroth : (parts : Parts) → IsRunning parts → (c : ℕ) → c ≤ 0 → at c parts.sessions.entries ≡ None
none_zeroth parts runs c le = go (at c parts.sessions.entries) refl (runs.holds.sessions c)
  where
    go : (o : Option Session) → at c parts.sessions.entries ≡ o → IsKeptAt parts.given runs.history c o → at c parts.sessions.entries ≡ None
    go None is k = is
    go (Some session) is k = let some = k.0.0 in absurd (omega (arith, some, le))

pub begins_finishing : (parts : Parts) → IsDone parts → Finishing 0 parts parts
begins_finishing parts done = record { done = done; given = refl; files = refl; none = none_zeroth parts done.ease.runs }

-- no session stands between two numbers
abbrev pub Between : ℕ → ℕ → Parts → Type 0
Between after number parts = (c : ℕ) → after < c → c < number → at c parts.sessions.entries ≡ None

module _ (after : ℕ) (old now : Parts) (finishing : Finishing after old now) where
  -- one more has ended
  pub finishes_one : (number : ℕ) (new : Parts) → after < number → Between after number now → IsDone new
      → AreSameBut number now.sessions.entries new.sessions.entries → new.given ≡ now.given
      → files_of new.device ≡ files_of now.device → Finishing number old new
  finishes_one number new less between done but given files = record {
    done = done;
    given = given ∙ finishing.given;
    files = files ∙ finishing.files;
    none = none;
  }
    where
      before : (c : ℕ) → c ≢ number → c ≤ number → (after < c) ⊎ (c ≤ after) → at c now.sessions.entries ≡ None
      before c other within (inl past) = between c past (omega (arith, other, within))
      before c other within (inr early) = finishing.none c early

      none : (c : ℕ) → c ≤ number → at c new.sessions.entries ≡ None
      none c within = go (cases_eq c number)
        where
          go : (c ≡ number) ⊎ (c ≢ number) → at c new.sessions.entries ≡ None
          go (inl is) = ap (λ (k : ℕ). at k new.sessions.entries) is ∙ but.here
          go (inr other) =
              same_none (at c new.sessions.entries)
              (subst (λ (o : Option Session). IsSame o (at c new.sessions.entries))
              (before c other within (cases_lt after c)) (but.others c other))

  -- all have ended
  pub finished : Between after (2 ^ 32) now → now.sessions.entries ≡ []
  finished between = none_at_all now.sessions.entries (λ c. go c (cases_lt after c))
    where
      late : (c : ℕ) → after < c → (o : Option Session) → at c now.sessions.entries ≡ o
          → IsKeptAt now.given finishing.done.ease.runs.history c o → at c now.sessions.entries ≡ None
      late c past None is k = is
      late c past (Some session) is k =
          let few = finishing.done.ease.runs.holds.few in
          let within = k.0.1 in
          between c past (omega (arith, few, within))

      go : (c : ℕ) → (after < c) ⊎ (c ≤ after) → at c now.sessions.entries ≡ None
      go c (inr within) = finishing.none c within
      go c (inl past) = late c past (at c now.sessions.entries) refl (finishing.done.ease.runs.holds.sessions c)
