-- What frames mean that are taken one by one, and piece by piece.
use Rattle.std.proofs.Common.{ℕ, ◌≡◌, List, [], ◌∷◌, ◌++◌, length, true, false, Option, Some, None, Result, refl, sym, ◌∙◌, ap, subst}
use Rattle.std.proofs.Common.{arith, append_assoc}
use Rattle.std.proofs.lemmas.List.{append-nil}
use Rattle.adb_outside.specs.Framing.{Cut, cut, held_after, joined, answer_of}
use Rattle.adb_outside.specs.declared.framer.FeedError.{FeedError}
use Rattle.adb_outside.specs.declared.framer.FeedError.TheVariants.{Fault}
use Rattle.adb_outside.proofs.FramingLaws.{cut_piece}
use Rattle.adb_sync_client.specs.declared.step.Step.{Step}
use Rattle.adb_sync_client.specs.declared.step.Step.TheVariants.{More, Done, Refused, BadAnswer}
use Rattle.adb_remote_frames.specs.declared.frame.Frame.{Frame}
use Rattle.adb_remote_frames.specs.declared.place.Place.{Place}
use Rattle.adb_remote_frames.specs.Frames.{frame_at, frame_of, past_frame, frames_from}
use Rattle.adb_remote_frames.specs.Framed.{frames_are_framed}
use Rattle.adb_remote_words.specs.declared.remote.Remote.{Remote}
use Rattle.adb_remote_words.specs.declared.remote.Outcome.{Outcome}
use Rattle.adb_remote_words.specs.declared.told.Told.{Told}
use Rattle.adb_remote_words.specs.Held.{HeldFrames}
use Rattle.adb_remote_words.specs.Meaning.{is_more, or_further, unended, frame_step, told_with, meant, frames_step}
use Rattle.adb_remote_words.specs.Reading.{held_step, Gathers, ReadsFrames}

abbrev pub Held : Type 0
Held = Cut Place Frame ℕ

abbrev pub held_of : Held → Told → HeldFrames
held_of cut told = record { cut = cut; told = told }

-- frames were taken, of which none decides
pub record GathersOn (job : Remote) (old new : HeldFrames) : Type 0 where
  pub all : (others : List Frame) (behind : Step Outcome)
      → meant job old.told (old.cut.given ++ others) behind ≡ meant job new.told (new.cut.given ++ others) behind
  pub reading : new.cut.reading ≡ old.cut.reading
  pub rest : new.cut.rest ≡ old.cut.rest
  pub fault : new.cut.fault ≡ old.cut.fault

pub gathers_none : (job : Remote) (f : HeldFrames) → GathersOn job f f
gathers_none job f = record { all = λ others behind. refl; reading = refl; rest = refl; fault = refl }

pub more_of : (s : Step Outcome) → is_more s ≡ true → s ≡ More
more_of More e = refl
more_of (Done outcome) e = cc
more_of (Refused text) e = cc
more_of (BadAnswer offset) e = cc

pub no_more : (s : Step Outcome) → is_more s ≡ false → s ≡ More → ⊥
no_more More e is = cc
no_more (Done outcome) e is = cc
no_more (Refused text) e is = cc
no_more (BadAnswer offset) e is = cc

-- what is decided is so whatever follows
pub decided_so : (s x y : Step Outcome) → is_more s ≡ false → or_further s x ≡ or_further s y
decided_so More x y e = cc
decided_so (Done outcome) x y e = refl
decided_so (Refused text) x y e = refl
decided_so (BadAnswer offset) x y e = refl

module _ (job : Remote) (old : HeldFrames) (before after : Held) (told : Told) (frame : Frame)
    (on : GathersOn job old (held_of before told))
    (first : before ≡ record after { given = frame ∷ after.given }) where
  means : (others : List Frame) (behind : Step Outcome) → meant job old.told (old.cut.given ++ others) behind
      ≡ or_further (frame_step job told frame) (meant job (told_with told frame) (after.given ++ others) behind)
  means others behind = on.all others behind ∙ ap (λ (c : Held). meant job told (c.given ++ others) behind) first

  -- one that does not decide
  pub take_on : (step : Step Outcome) (new : Told) → step ≡ frame_step job told frame → (step ≡ More → new ≡ told_with told frame)
      → is_more step ≡ true → GathersOn job old (held_of after new)
  take_on step new is grown goes =
      let more = more_of step goes in
      let one : frame_step job told frame ≡ More = sym is ∙ more in
      record {
        all = λ others behind. means others behind
            ∙ (ap (λ s. or_further s (meant job (told_with told frame) (after.given ++ others) behind)) one
            ∙ ap (λ t. meant job t (after.given ++ others) behind) (sym (grown more)));
        reading = ap (λ (c : Held). c.reading) (sym first) ∙ on.reading;
        rest = ap (λ (c : Held). c.rest) (sym first) ∙ on.rest;
        fault = ap (λ (c : Held). c.fault) (sym first) ∙ on.fault;
      }

  -- one that decides
  pub take_ends : (step : Step Outcome) (new : Told) → step ≡ frame_step job told frame → is_more step ≡ false
      → Gathers job old step (held_of after new)
  take_ends step new is ends = record {
    all = λ others behind. means others behind
        ∙ (ap (λ s. or_further s (meant job (told_with told frame) (after.given ++ others) behind)) (sym is)
        ∙ decided_so step (meant job (told_with told frame) (after.given ++ others) behind)
        (meant job new (after.given ++ others) behind) ends);
    none_left = λ more. absurd (no_more step ends more);
    reading = ap (λ (c : Held). c.reading) (sym first) ∙ on.reading;
    rest = ap (λ (c : Held). c.rest) (sym first) ∙ on.rest;
    fault = ap (λ (c : Held). c.fault) (sym first) ∙ on.fault;
  }

-- none is left
pub take_none : (job : Remote) (old : HeldFrames) (before after : Held) (told : Told) → GathersOn job old (held_of before told)
    → (before.given ≡ []) × (after ≡ before) → Gathers job old More (held_of after told)
take_none job old before after told on none = record {
  all = λ others behind. on.all others behind ∙ ap (λ (c : Held). meant job told (c.given ++ others) behind) (sym none.1);
  none_left = λ more. ap (λ (c : Held). c.given) none.1 ∙ none.0;
  reading = ap (λ (c : Held). c.reading) none.1 ∙ on.reading;
  rest = ap (λ (c : Held). c.rest) none.1 ∙ on.rest;
  fault = ap (λ (c : Held). c.fault) none.1 ∙ on.fault;
}

-- ---- pieces
same_fault : (a b : Option ℕ) → ◌≡◌ {A = Result (Unit {0}) (FeedError ℕ)} (answer_of Fault a) (answer_of Fault b) → a ≡ b
same_fault None None e = refl
same_fault None (Some b) e = cc
same_fault (Some a) None e = cc
same_fault (Some a) (Some b) e = let same : a ≡ b = cc in ap Some same

both_more : (s : Step Outcome) (fault : Option ℕ) → or_further s (unended fault) ≡ More → (s ≡ More) × (fault ≡ None)
both_more More None e = (refl, refl)
both_more More (Some offset) e = cc
both_more (Done outcome) fault e = cc
both_more (Refused text) fault e = cc
both_more (BadAnswer offset) fault e = cc

none_behind : (job : Remote) (s : Step Outcome) (told : Told) (given : List Frame) (behind : Step Outcome) → (s ≡ More → given ≡ [])
    → or_further s (meant job told (given ++ []) behind) ≡ or_further s behind
none_behind job More told given behind none = ap (λ (l : List Frame). meant job told (l ++ []) behind) (none refl)
none_behind job (Done outcome) told given behind none = refl
none_behind job (Refused text) told given behind none = refl
none_behind job (BadAnswer offset) told given behind none = refl

module _ (job : Remote) (old new : HeldFrames) (piece : List ℕ) (s : Step Outcome) where
  abbrev bytes : List ℕ
  bytes = old.cut.rest ++ piece

  abbrev whole : Held
  whole = frames_from old.cut.reading bytes

  reads_whole : (g : Gathers job (held_of whole old.told) s new) (fault : Option ℕ) → fault ≡ whole.fault
      → ReadsFrames job old piece (or_further s (unended fault)) new
  reads_whole g fault same = record {
    now = ap (λ f. or_further s (unended f)) same
        ∙ (sym (none_behind job s new.told new.cut.given (unended whole.fault) g.none_left)
        ∙ (sym (g.all [] (unended whole.fault)) ∙ ap (λ (l : List Frame). meant job old.told l (unended whole.fault))
        (append-nil whole.given)));
    later = λ more_yet more. later (both_more s fault more_yet) more;
    none_left = λ more_yet. g.none_left (both_more s fault more_yet).0;
    no_fault = λ more_yet. g.fault ∙ (sym same ∙ (both_more s fault more_yet).1);
  }
    where
      later : (s ≡ More) × (fault ≡ None) → (more : List ℕ) → held_step job old (piece ++ more) ≡ held_step job new more
      later open_yet more =
          let behind : Held = frames_from whole.reading (whole.rest ++ more) in
          let cut_on : frames_from old.cut.reading (old.cut.rest ++ (piece ++ more)) ≡ joined whole.given behind =
          ap (frames_from old.cut.reading) (sym (append_assoc old.cut.rest piece more))
          ∙ cut_piece frame_at frame_of past_frame frames_are_framed (length bytes) old.cut.reading bytes more
          (omega arith) (sym same ∙ open_yet.1) in
          ap (frames_step job old.told) cut_on
          ∙ (g.all behind.given (unended behind.fault)
          ∙ (ap (λ t. or_further t (meant job new.told (new.cut.given ++ behind.given) (unended behind.fault))) open_yet.0
          ∙ (ap (λ (l : List Frame). meant job new.told (l ++ behind.given) (unended behind.fault)) (g.none_left open_yet.0)
          ∙ (λ i. frames_step job new.told (frames_from (sym g.reading i) (sym g.rest i ++ more))))))

  -- a piece was cut, and its frames were taken
  pub reads : (mid : Held) (fault : Option ℕ) → old.cut.given ≡ [] → old.cut.fault ≡ None
      → mid ≡ held_after frame_at frame_of past_frame old.cut piece old.cut.fault
      → ◌≡◌ {A = Result (Unit {0}) (FeedError ℕ)} (answer_of Fault fault) (answer_of Fault mid.fault)
      → Gathers job (held_of mid old.told) s new → ReadsFrames job old piece (or_further s (unended fault)) new
  reads mid fault none sound is answer g =
      let same : mid ≡ whole =
      is ∙ (ap (held_after frame_at frame_of past_frame old.cut piece) sound
      ∙ ap (λ (l : List Frame). joined l whole) none) in
      reads_whole (subst (λ (m : Held). Gathers job (held_of m old.told) s new) same g) fault
      (same_fault fault mid.fault answer ∙ ap (λ (c : Held). c.fault) same)
