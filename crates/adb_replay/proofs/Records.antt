-- Replaying the records of a reader: what has come so far, and what is still ahead.
use Rattle.std.proofs.Common.{ℕ, ◌≡◌, ◌+◌, ◌⊎◌, inl, inr, arith, Bool, true, false, cond, List, [], ◌++◌, take, drop, Option, Some, None}
use Rattle.std.proofs.Common.{Result, Ok}
use Rattle.std.proofs.Common.{refl, sym, ◌∙◌, ap, subst}
use Rattle.std.specs.Prelude.{length}
use Rattle.std.proofs.lemmas.List.{append_assoc, append-nil, length-append, take-append-drop, take_at, drop_at, length-take-le}
use Rattle.adb_outside.specs.declared.framer.Front.TheVariants.{Whole}
use Rattle.adb_capture.specs.Records.{entry_in, offset_after, record_at}
use Rattle.adb_capture.proofs.Fronts.{framing}
use Rattle.adb_capture_reader.specs.Reading.{Reading, ahead_of, AnswersNext, AwaitsNext, GivesNext, GivesRecord, HoldsLittle, passed}
use Rattle.adb_capture_reader.specs.Reading.{passed_by}
use Rattle.adb_capture.specs.declared.entry.Entry.{Entry}
use Rattle.adb_capture.specs.declared.error.CaptureError.{CaptureError}
use Rattle.adb_history.specs.Machine.{History, state}
use Rattle.adb_history.specs.Kept.{Kept, IsLawful}
use Rattle.adb_history.specs.Drained.{drained_after, drained_from}
use Rattle.adb_history.specs.Accepted.{Accepted, is_input, accept_by, unless_stopped, accept_records}
use Rattle.adb_replay.specs.Keeping.{Keeps}
use Rattle.adb_replay.specs.Kills.{EndsInRecord}
use Rattle.adb_replay.specs.Replay.{capture_of, IsDrained, IsFrontOf, ReplaysEntry, Moment, IsAhead}
use Rattle.adb_entries.proofs.Adding.{drained_adds}
use Rattle.adb_replay.proofs.Accepting.{accept_at, accept_entry, accept_front, accept_first, nothing_given}

-- what is still to come, of all that a capture gives
pub record ComesOn (now : Moment) (done : History) (all : Accepted) : Type 0 where
  pub before : List ℕ
  pub is : IsAhead now before
  pub inputs : drained_from [] all.inputs ≡ drained_from done (accept_records now.reader.offset before done).inputs
  pub refused : all.refused ≡ (accept_records now.reader.offset before done).refused

-- Of two captures' records: what the first give makes the same history as what the others give it, and both are refused alike.
pub record IsAlike (first : Accepted) (done : History) (others : Accepted) : Type 0 where
  pub inputs : drained_from [] first.inputs ≡ drained_from done others.inputs
  pub refused : first.refused ≡ others.refused

-- what was replayed of the bytes ahead, and what is still ahead of them: whatever follows, it comes to the history that was made
pub record Came (first now : Moment) (done : History) (before : List ℕ) : Type 0 where
  pub used : List ℕ
  pub rest : List ℕ
  pub is : before ≡ used ++ rest
  pub told : IsAhead now rest
  pub place : now.reader.offset ≡ first.reader.offset + length used
  pub last : (used ≡ []) ⊎ EndsInRecord first.reader.offset used
  pub on : (more : List ℕ) → IsAlike (accept_records first.reader.offset (used ++ more) []) done
      (accept_records now.reader.offset more done)

-- How far a replay has come: the history now.
pub record Replaying (first now : Moment) (holds : Kept) : Type 0 where
  pub done : History
  pub drained : IsDrained holds done
  pub sound : now.reader.failed ≡ None
  pub opened : now.reader.opened ≡ true
  pub few : HoldsLittle now.reader.held
  pub kept : (had : List ℕ) → Keeps had (capture_of []) first.out → Keeps had (capture_of done) now.out
  pub came : (before : List ℕ) → IsAhead first before → Came first now done before

pub comes : {first now : Moment} {holds : Kept} (r : Replaying first now holds) (before : List ℕ) → IsAhead first before
    → ComesOn now r.done (accept_records first.reader.offset before [])
comes {first} {now} {holds} r before was =
    let c = r.came before was in
    let all = ap (λ b. accept_records first.reader.offset b []) c.is in
    record {
      before = c.rest;
      is = c.told;
      inputs = ap (λ (a : Accepted). drained_from [] a.inputs) all ∙ (c.on c.rest).inputs;
      refused = ap (λ (a : Accepted). a.refused) all ∙ (c.on c.rest).refused;
    }

-- what has come so far is the first part of all that comes
pub front_so_far : {first now : Moment} {holds : Kept} (r : Replaying first now holds) (before : List ℕ) → IsAhead first before
    → IsFrontOf r.done (drained_from [] (accept_records first.reader.offset before []).inputs)
front_so_far {first} {now} {holds} r before was =
    let c = comes r before was in
    let more = drained_adds r.done (accept_records now.reader.offset c.before r.done).inputs in
    record { more = more.0; is = c.inputs ∙ more.1 }

-- whether a kill was made is held
pub held_stopped : {first now : Moment} {holds : Kept} (stopped : Bool) (r : Replaying first now holds) → holds.stopped ≡ stopped
    → (state r.done).stopped ≡ stopped
held_stopped stopped r is = ap (λ (k : Kept). k.stopped) (sym r.drained.lawful.seen) ∙ is

pub replaying_first : (first : Moment) (holds : Kept) → IsDrained holds [] → first.reader.failed ≡ None → first.reader.opened ≡ true
    → HoldsLittle first.reader.held → Replaying first first holds
replaying_first first holds drained sound opened few = record {
  done = [];
  drained = drained;
  sound = sound;
  opened = opened;
  few = few;
  kept = λ had k. k;
  came = λ before was. record {
    used = [];
    rest = before;
    is = refl;
    told = was;
    place = omega arith;
    last = inl refl;
    on = λ more. record { inputs = refl; refused = refl };
  };
}

pub starts : (holds : Kept) → IsLawful holds [] → IsDrained holds []
starts holds lawful = record { lawful = lawful; rests = refl }

-- ---- a record that comes
-- what a call of the reader says of what is ahead
abbrev pub Gives : Moment → Result (Option (ℕ × Entry)) CaptureError → Moment → Type 0
Gives now result new = now.reader.failed ≡ None → AnswersNext now.reader now.left new.reader new.left result

pub given_next : (now new : Moment) (result : Result (Option (ℕ × Entry)) CaptureError) {before : List ℕ} → Gives now result new
    → now.reader.failed ≡ None → IsAhead now before
    → GivesNext now.reader.offset before result new.reader.offset (ahead_of new.reader new.left)
given_next now new result {before} gives sound was = (gives sound).records before was

-- what a call that waits for the next record says of what is ahead
abbrev pub Awaits : Moment → Reading → Option (List ℕ) → Result (Option ℕ) CaptureError → Type 0
Awaits now awaited left result = now.reader.failed ≡ None → AwaitsNext now.reader now.left awaited left result

pub awaits_as : (now : Moment) (awaited : Reading) (left : Option (List ℕ)) (a b : Option ℕ) → a ≡ b → Awaits now awaited left (Ok a)
    → Awaits now awaited left (Ok b)
awaits_as now awaited left a b same awaits = subst (λ (o : Option ℕ). Awaits now awaited left (Ok o)) same awaits

-- what the reader says of itself between two moments, where it gave a record
abbrev pub StandsBetween : Moment → Moment → Type 0
StandsBetween now new = (now.reader.failed ≡ None) × (new.reader.failed ≡ None) × (new.reader.opened ≡ true)

-- A record that was held whole was given, and passed.
pub record IsPassed (now new : Moment) (given : ℕ × Entry) : Type 0 where
  pub gives : Gives now (Ok (Some given)) new
  pub ready : StandsBetween now new
  pub few : HoldsLittle new.reader.held

pub passes : (now new : Moment) (awaited : Reading) (found : Option ℕ) (size : ℕ) (given : ℕ × Entry) → found ≡ Some size
    → given ≡ entry_in awaited.offset (take size awaited.held) → new.reader ≡ passed size awaited → Awaits now awaited new.left (Ok found)
    → (now.reader.failed ≡ None) × (awaited.failed ≡ None) × (awaited.opened ≡ true) → HoldsLittle (passed_by (Ok found) awaited).held
    → IsPassed now new given
passes now new awaited found size given some is past awaits ok little = record {
  gives = λ sound. subst (λ (r : Reading). AnswersNext now.reader now.left r new.left (Ok (Some given))) (sym past)
      (subst (λ (p : ℕ × Entry). AnswersNext now.reader now.left (passed size awaited) new.left (Ok (Some p))) (sym is)
      (awaits_as now awaited new.left found (Some size) some awaits sound));
  ready = (ok.0, ap (λ (r : Reading). r.failed) past ∙ ok.1, ap (λ (r : Reading). r.opened) past ∙ ok.2);
  few = subst (λ (r : Reading). HoldsLittle r.held) (sym past)
      (subst (λ (o : Option ℕ). HoldsLittle (passed_by (Ok o) awaited).held) some little);
}

-- a record that the reader gave: the moments before and after its replay, its offset, and its entry
pub record Turn : Type 0 where
  pub now : Moment
  pub new : Moment
  pub offset : ℕ
  pub entry : Entry
  pub given : Gives now (Ok (Some (offset, entry))) new

-- A history was not stopped by a kill.
abbrev pub IsRunning : History → Type 0
IsRunning h = (state h).stopped ≡ false

-- A record came: what of all that a capture gives is accepted from it on.
pub record CameOn (t : Turn) (done : History) (all : Accepted) : Type 0 where
  pub others : List ℕ
  pub is : IsAhead t.new others
  pub inputs : drained_from [] all.inputs ≡ drained_from done
      (accept_at t.offset t.entry done (accept_records t.new.reader.offset others)).inputs
  pub refused : all.refused ≡ (accept_at t.offset t.entry done (accept_records t.new.reader.offset others)).refused

-- from a record that came on, whatever follows it
front_accepted : (t : Turn) (done : History) (before : List ℕ)
    → (g : GivesRecord t.now.reader.offset before (t.offset, t.entry) t.new.reader.offset
    (ahead_of t.new.reader t.new.left)) → (more : List ℕ)
    → IsRunning done
    → accept_records t.now.reader.offset (take g.size before ++ more) done
    ≡ accept_at t.offset t.entry done (accept_records t.new.reader.offset more)
front_accepted t done before g more running =
    accept_first at bytes done
    ∙ (ap (λ f. accept_front at bytes f done) (framing.whole at front more g.size (framing.alone at before g.size g.whole))
    ∙ (ap (λ t. from (entry_in at t) (accept_records (offset_after at t) (drop g.size bytes))) (take_at front more g.size len)
    ∙ (ap (λ d. from (entry_in at front) (accept_records (offset_after at front) d)) (drop_at front more g.size len)
    ∙ (ap (λ (p : ℕ × Entry). from p (accept_records (offset_after at front) more)) (sym g.is)
    ∙ (ap (λ n. from (t.offset, t.entry) (accept_records n more)) (sym g.next_offset_is)
    ∙ ap (λ b. unless_stopped b (accept_at t.offset t.entry done (accept_records t.new.reader.offset more))) running)))))
  where
    at : ℕ
    at = t.now.reader.offset

    front : List ℕ
    front = take g.size before

    bytes : List ℕ
    bytes = take g.size before ++ more

    from : ℕ × Entry → (History → Accepted) → Accepted
    from p others = unless_stopped (state done).stopped (accept_entry p done others)

    len : length (take g.size before) ≡ g.size
    len = length-take-le g.size before (framing.fits t.now.reader.offset before g.size g.whole).1

pub came_on : {first : Moment} {holds : Kept} (t : Turn) (r : Replaying first t.now holds) → IsRunning r.done
    → {all : Accepted} → ComesOn t.now r.done all → CameOn t r.done all
came_on t r running c = record {
  others = drop g.size c.before;
  is = g.rest;
  inputs = c.inputs ∙ ap (λ (a : Accepted). drained_from r.done a.inputs) given;
  refused = c.refused ∙ ap (λ (a : Accepted). a.refused) given;
}
  where
    g : GivesRecord t.now.reader.offset c.before (t.offset, t.entry) t.new.reader.offset (ahead_of t.new.reader t.new.left)
    g = given_next t.now t.new (Ok (Some (t.offset, t.entry))) t.given r.sound c.is

    given : accept_records t.now.reader.offset c.before r.done
        ≡ accept_at t.offset t.entry r.done (accept_records t.new.reader.offset (drop g.size c.before))
    given = ap (λ b. accept_records t.now.reader.offset b r.done) (sym (take-append-drop g.size c.before))
        ∙ front_accepted t r.done c.before g (drop g.size c.before) running

-- an input that is accepted, or a hand-out that is passed over
accept_on : (b : Bool) (h : History) (offset : ℕ) (e : Entry) (others : History → Accepted)
    → (drained_from h (accept_by None b h offset e others).inputs
    ≡ drained_from (cond b (drained_after h e) h) (others (cond b (drained_after h e) h)).inputs)
    × ((accept_by None b h offset e others).refused ≡ (others (cond b (drained_after h e) h)).refused)
accept_on true h offset e others = (refl, refl)
accept_on false h offset e others = (refl, refl)

-- ---- the last record so far
-- what came so far gives the history that was made
pub gives_done : (first now : Moment) (done : History) {before : List ℕ} → (c : Came first now done before)
    → drained_from [] (accept_records first.reader.offset c.used []).inputs ≡ done
gives_done first now done c =
    ap (λ b. drained_from [] (accept_records first.reader.offset b []).inputs) (sym (append-nil c.used))
    ∙ ((c.on []).inputs ∙ ap (drained_from done) none)
  where
    none : (accept_records now.reader.offset [] done).inputs ≡ []
    none = ap (λ (a : Accepted). a.inputs)
        (accept_first now.reader.offset [] done ∙ ap (λ f. accept_front now.reader.offset [] f done) (framing.empty now.reader.offset))
        ∙ nothing_given (state done).stopped None

-- a record that came is the last of them
last_came : (first : Moment) (t : Turn) (done : History) {before : List ℕ} → (c : Came first t.now done before)
    → (g : GivesRecord t.now.reader.offset c.rest (t.offset, t.entry) t.new.reader.offset
    (ahead_of t.new.reader t.new.left)) → IsRunning done
    → EndsInRecord first.reader.offset (c.used ++ take g.size c.rest)
last_came first t done c g running = record {
  older = c.used;
  last = take g.size c.rest;
  is = refl;
  one = ap (λ n. record_at n (take g.size c.rest)) (sym c.place)
      ∙ (framing.alone t.now.reader.offset c.rest g.size g.whole
      ∙ ap (λ n. Whole n) (sym (length-take-le g.size c.rest (framing.fits t.now.reader.offset c.rest g.size g.whole).1)));
  running = ap (λ h. (state h).stopped) (gives_done first t.now done c) ∙ running;
}

-- A record was replayed.
pub replaying_on : {first : Moment} {holds : Kept} (t : Turn) (new : Kept) → StandsBetween t.now t.new → holds.stopped ≡ false
    → ((h : History) → IsDrained holds h → ReplaysEntry (Ok tt) t.offset t.entry h t.now.out t.new.out new) → HoldsLittle t.new.reader.held
    → Replaying first t.now holds → Replaying first t.new new
replaying_on {first} {holds} t new ready running entry few r = record {
  done = x.whole;
  drained = x.gives.2;
  sound = ready.1;
  opened = ready.2;
  few = few;
  kept = λ had k. x.on.kept had (r.kept had k);
  came = λ before was.
      let c = r.came before was in
      let g = given_next t.now t.new (Ok (Some (t.offset, t.entry))) t.given r.sound c.told in
      let front = take g.size c.rest in
      record {
        used = c.used ++ front;
        rest = drop g.size c.rest;
        is = c.is ∙ (ap (λ b. c.used ++ b) (sym (take-append-drop g.size c.rest)) ∙ sym (append_assoc c.used front (drop g.size c.rest)));
        told = g.rest;
        place = g.next_offset_is ∙ omega (arith, c.place, length-append c.used front);
        last = inr (last_came first t r.done c g (held_stopped false r running));
        on = λ more.
            let all = ap (λ b. accept_records first.reader.offset b []) (append_assoc c.used front more) in
            let so_far = c.on (front ++ more) in
            let next = front_accepted t r.done c.rest g more (held_stopped false r running) in
            record {
              inputs = ap (λ (a : Accepted). drained_from [] a.inputs) all
                  ∙ (so_far.inputs
                  ∙ (ap (λ (a : Accepted). drained_from r.done a.inputs) next
                  ∙ (made (accept_records t.new.reader.offset more)).0));
              refused = ap (λ (a : Accepted). a.refused) all
                  ∙ (so_far.refused ∙ (ap (λ (a : Accepted). a.refused) next ∙ (made (accept_records t.new.reader.offset more)).1));
            };
      };
}
  where
    x : ReplaysEntry (Ok tt) t.offset t.entry r.done t.now.out t.new.out new
    x = entry r.done r.drained

    made : (others : History → Accepted)
        → (drained_from r.done (accept_at t.offset t.entry r.done others).inputs ≡ drained_from x.whole (others x.whole).inputs)
        × ((accept_at t.offset t.entry r.done others).refused ≡ (others x.whole).refused)
    made others =
        let on = accept_on (is_input t.entry) r.done t.offset t.entry others in (
          ap (λ why. drained_from r.done (accept_by why (is_input t.entry) r.done t.offset t.entry others).inputs) x.gives.0
              ∙ (on.0 ∙ ap (λ h. drained_from h (others h).inputs) (sym x.gives.1)),
          ap (λ why. (accept_by why (is_input t.entry) r.done t.offset t.entry others).refused) x.gives.0
              ∙ (on.1 ∙ ap (λ h. (others h).refused) (sym x.gives.1)),
        )
