-- How the replay of the records of a reader ends.
use Rattle.std.proofs.Common.{ℕ, ◌≡◌, ◌≢◌, true, false, if◌then◌else◌, List, [], ◌∷◌, ◌++◌, drop, Option, Some, None, Result, Ok, Err, refl}
use Rattle.std.proofs.Common.{sym}
use Rattle.std.proofs.Common.{◌∙◌, ap, subst, ◌⊎◌, inl, inr}
use Rattle.std.specs.Prelude.{option_and_then, option_map}
use Rattle.std.proofs.lemmas.List.{append_assoc}
use Rattle.adb_outside.specs.declared.framer.Front.{Front}
use Rattle.adb_outside.specs.declared.framer.Front.TheVariants.{More, Bad}
use Rattle.adb_capture.proofs.Fronts.{framing}
use Rattle.adb_capture.specs.Records.{magic, record_at}
use Rattle.adb_capture_reader.specs.Reading.{ahead, ahead_of, to_give, IsRefused, IsPart, StopsWithin, Reading, taken_by}
use Rattle.adb_capture.specs.declared.entry.Entry.{Entry}
use Rattle.adb_capture.specs.declared.error.FormFault.{FormFault}
use Rattle.adb_capture.specs.declared.error.FormFault.TheVariants as form
use Rattle.adb_capture.specs.declared.error.CaptureError.{CaptureError}
use Rattle.adb_capture.specs.declared.error.CaptureError.TheVariants as capture
use Rattle.adb_history.specs.Machine.{History, state}
use Rattle.adb_history.specs.Kept.{Kept}
use Rattle.adb_history.specs.Drained.{drained_after, drained_from}
use Rattle.adb_history.specs.Refusal.{refused_at, refusal_by}
use Rattle.adb_history.specs.Accepted.{Accepted, is_input, ends_with, accept_by, unless_stopped, accept_records}
use Rattle.adb_history.specs.declared.refusal.Refusal.{Refusal}
use Rattle.adb_replay.specs.Keeping.{Out, Keeps}
use Rattle.adb_replay.specs.Kills.{IsKilled, EndsInRecord, ReadsToKill}
use Rattle.adb_replay.specs.Stop.{stop_of}
use Rattle.adb_replay.specs.Replay.{capture_of, IsDrained, IsFrontOf, ReplaysEntry, EntryGives, IsReached, Reaches, EndsAs, Moment, IsAhead}
use Rattle.adb_replay.specs.Replay.{Consumes, Replays}
use Rattle.adb_replay.specs.Replay.{moment}
use Rattle.adb_replay.specs.declared.stop.Stop.{Stop}
use Rattle.adb_replay.specs.declared.stop.Stop.TheVariants.{ReadFault, WriteFault, OutOfMemory, Refused}
use Rattle.adb_entries.proofs.Adding.{drained_adds}
use Rattle.adb_replay.proofs.Accepting.{accept_front, accept_first, accept_stopped, nothing_given, nothing_refused}
use Rattle.adb_replay.proofs.Drains.{goes_on}
use Rattle.adb_replay.proofs.Records.{ComesOn, Came, Replaying, comes, gives_done, front_so_far, held_stopped, Gives, given_next, Turn}
use Rattle.adb_replay.proofs.Records.{IsRunning, came_on}

-- ---- the records are over
ahead_empty : (held coming : List ℕ) → held ++ coming ≡ [] → coming ≡ []
ahead_empty [] coming e = e
ahead_empty (b ∷ held) coming e = let clash : b ∷ (held ++ coming) ≡ [] = e in cc

-- a front of what is ahead was told
split_ahead : (f : List ℕ → Option (List ℕ)) (o : Option (List ℕ)) (y : List ℕ) → option_and_then f o ≡ Some y
    → (x : List ℕ) × (o ≡ Some x) × (f x ≡ Some y)
split_ahead f None y e = let clash : None ≡ Some y = e in cc
split_ahead f (Some x) y e = (x, refl, e)

left_empty : (new : Moment) → new.reader.opened ≡ true → ahead_of new.reader new.left ≡ Some [] → new.left ≡ Some []
left_empty new opened e =
    let s = split_ahead (ahead new.reader) new.left [] e in
    let f : Some (new.reader.held ++ s.0) ≡ Some [] = ap (λ b. to_give b (new.reader.held ++ s.0)) (sym opened) ∙ s.2 in
    let none : new.reader.held ++ s.0 ≡ [] = cc in
    s.1 ∙ ap Some (ahead_empty new.reader.held s.0 none)

-- The source was read to its end.
pub replaying_over : {first now : Moment} {holds : Kept} (new : Moment) → now.out ≡ new.out → Gives now (Ok None) new
    → new.reader.opened ≡ true
    → holds.stopped ≡ false → Replaying first now holds → Replays first new (Ok tt)
replaying_over {first} {now} {holds} new same gives opened running r = record {
  whole = r.done;
  on = record {
    legal = r.drained.lawful.legal;
    kept = λ had k. subst
        (λ (out : Out). Keeps had (capture_of r.done) out) same (r.kept had k);
  };
  reaches = λ before was. reached (comes r before was);
  consumes = λ is before was. cc;
  stops = λ ok before was killed. absurd
      (let clash : false ≡ true = sym (held_stopped false r running)
      ∙ (ap (λ h. (state h).stopped) (sym (reached (comes r before was))) ∙ killed) in cc);
  ends = λ before was. let c = comes r before was in (
    c.refused ∙ (ap (λ b. (accept_records now.reader.offset b r.done).refused) (over c).0 ∙ nothing_refused (state r.done).stopped),
    λ running. left_empty new opened (over c).1,
  );
}
  where
    over : {all : Accepted} → (c : ComesOn now r.done all)
        → (c.before ≡ []) × (ahead_of new.reader new.left ≡ Some []) × (new.reader.offset ≡ now.reader.offset)
    over c = given_next now new (Ok None) gives r.sound c.is

    reached : {all : Accepted} → (c : ComesOn now r.done all) → drained_from [] all.inputs ≡ r.done
    reached c = c.inputs ∙ (ap (λ b. drained_from r.done (accept_records now.reader.offset b r.done).inputs) (over c).0
        ∙ ap (drained_from r.done) (nothing_given (state r.done).stopped None))

-- A kill was made: what the records behind it are is nothing.
pub replaying_killed : {first now : Moment} {holds : Kept} → holds.stopped ≡ true → Replaying first now holds → Replays first now (Ok tt)
replaying_killed {first} {now} {holds} stopped r = record {
  whole = r.done;
  on = record { legal = r.drained.lawful.legal; kept = r.kept };
  reaches = λ before was. reached (comes r before was);
  consumes = λ is before was. cc;
  stops = λ ok before was held. to_kill before was;
  ends = λ before was.
      let c = comes r before was in (
        c.refused ∙ ap (λ (a : Accepted). a.refused) (nothing c),
        λ running. absurd (let clash : true ≡ false = sym killed ∙ (ap (λ h. (state h).stopped) (sym (reached c)) ∙ running) in cc),
      );
}
  where
    killed : (state r.done).stopped ≡ true
    killed = held_stopped true r stopped

    nothing : {all : Accepted} → (c : ComesOn now r.done all) → accept_records now.reader.offset c.before r.done ≡ ends_with None
    nothing c = accept_stopped now.reader.offset c.before r.done killed

    reached : {all : Accepted} → (c : ComesOn now r.done all) → drained_from [] all.inputs ≡ r.done
    reached c = c.inputs ∙ ap (λ (a : Accepted). drained_from r.done a.inputs) (nothing c)

    to_kill : (before : List ℕ) → IsAhead first before → ReadsToKill first.reader.offset before now.left
    to_kill before was = go c.last
      where
        c : Came first now r.done before
        c = r.came before was

        s : (coming : List ℕ) × (now.left ≡ Some coming) × (ahead now.reader coming ≡ Some c.rest)
        s = split_ahead (ahead now.reader) now.left c.rest c.told

        rest_is : c.rest ≡ now.reader.held ++ s.0
        rest_is = let told : Some (now.reader.held ++ s.0) ≡ Some c.rest =
            ap (λ b. to_give b (now.reader.held ++ s.0)) (sym r.opened) ∙ s.2 in cc

        is_killed : IsKilled (accept_records first.reader.offset c.used [])
        is_killed = ap (λ h. (state h).stopped) (gives_done first now r.done c) ∙ killed

        none_is_killed : (used : List ℕ) → used ≡ [] → IsKilled (accept_records first.reader.offset used []) → ⊥
        none_is_killed used none is =
            let first_none : (accept_records first.reader.offset [] []).inputs ≡ [] = ap (λ (a : Accepted). a.inputs)
            (accept_first first.reader.offset [] [] ∙ ap (λ f. accept_front first.reader.offset [] f [])
            (framing.empty first.reader.offset))
            ∙ nothing_given (state []).stopped None in
            let clash : false ≡ true = sym (ap (λ inputs. (state (drained_from [] inputs)).stopped)
            (ap (λ b. (accept_records first.reader.offset b []).inputs) none ∙ first_none)) ∙ is in
            cc

        go : (c.used ≡ []) ⊎ EndsInRecord first.reader.offset c.used → ReadsToKill first.reader.offset before now.left
        go (inl none) = absurd (none_is_killed c.used none is_killed)
        go (inr ends) = record {
          records = c.used;
          ends = ends;
          killed = is_killed;
          past = now.reader.held;
          few = r.few;
          rest = s.0;
          is = c.is ∙ (ap (λ b. c.used ++ b) rest_is ∙ sym (append_assoc c.used now.reader.held s.0));
          is_left = s.1;
        }

-- ---- the reader stopped
-- nothing is accepted, as an error of the reader says
abbrev pub refused_as : CaptureError → Accepted
refused_as why = ends_with (refusal_by why)

module _ (offset : ℕ) (before : List ℕ) (h : History) (running : IsRunning h) where
  refused_ahead : (f : Front FormFault) (why : CaptureError) → record_at offset before ≡ f
      → accept_front offset before f h ≡ unless_stopped (state h).stopped (refused_as why) → accept_records offset before h ≡ refused_as why
  refused_ahead f why is front =
      accept_first offset before h
      ∙ (ap (λ k. accept_front offset before k h) is
      ∙ (front ∙ ap (λ b. unless_stopped b (refused_as why)) running))

  truncated_ahead : (at : ℕ) → before ≢ [] → at ≡ offset
      → accept_front offset before More h ≡ unless_stopped (state h).stopped (refused_as (capture.Truncated at))
  truncated_ahead at some is = go before some
    where
      go : (bytes : List ℕ) → bytes ≢ [] → accept_front offset bytes More h
          ≡ unless_stopped (state h).stopped (refused_as (capture.Truncated at))
      go [] some = absurd (some refl)
      go (b ∷ bytes) some = ap (λ n. unless_stopped (state h).stopped (refused_as (capture.Truncated n))) (sym is)

  refusal_ahead : (e : CaptureError) → refusal_by e ≢ None → IsRefused offset before e → accept_records offset before h ≡ refused_as e
  refusal_ahead capture.BadMagic s r = absurd r
  refusal_ahead (capture.BadRecord at why) s r = refused_ahead (Bad (form.BadRecord at why)) (capture.BadRecord at why) r refl
  refusal_ahead (capture.Truncated at) s r = refused_ahead More (capture.Truncated at) r.1 (truncated_ahead at r.0 r.2)
  refusal_ahead (capture.TooLong at) s r = refused_ahead (Bad (form.TooLong at)) (capture.TooLong at) r refl
  refusal_ahead capture.ReadFault s r = absurd (s refl)
  refusal_ahead capture.OutOfMemory s r = absurd (s refl)

-- what an option gives in front of which something stands
pub split_front : (front whole : List ℕ) (o : Option (List ℕ)) → option_map (λ rest. front ++ rest) o ≡ Some whole
    → (rest : List ℕ) × (o ≡ Some rest) × (front ++ rest ≡ whole)
split_front front whole None e = let clash : None ≡ Some whole = e in cc
split_front front whole (Some rest) e = let same : Some (front ++ rest) ≡ Some whole = e in (rest, refl, cc)

past_opened : (reader : Reading) → reader.opened ≡ true → taken_by reader ≡ magic ++ reader.held
past_opened reader opened = ap (λ b. if b then magic ++ reader.held else reader.held) opened

-- The source failed: what the reader holds gives no record more, and is all that was taken past the last one.
consumed : {first now : Moment} {holds : Kept} (new : Moment) (r : Replaying first now holds)
    → StopsWithin now.reader now.left new.reader new.left
    → (before : List ℕ) → IsAhead first before → Consumes first new r.done before
consumed {first} {now} {holds} new r stops before was = record {
  consumed = c.used ++ new.reader.held;
  rest = k.0;
  is = c.is ∙ (ap (λ b. c.used ++ b) ahead_is ∙ sym (append_assoc c.used new.reader.held k.0));
  left = k.1;
  reached = (c.on new.reader.held).inputs ∙ ap (drained_from r.done) none;
}
  where
    c : Came first now r.done before
    c = r.came before was

    s : (coming : List ℕ) × (now.left ≡ Some coming) × (ahead now.reader coming ≡ Some c.rest)
    s = split_ahead (ahead now.reader) now.left c.rest c.told

    k : (rest : List ℕ) × (new.left ≡ Some rest) × (taken_by new.reader ++ rest ≡ taken_by now.reader ++ s.0)
    k = split_front (taken_by new.reader) (taken_by now.reader ++ s.0) new.left (stops.keeps s.0 s.1)

    opened : new.reader.opened ≡ true
    opened = stops.opened r.opened

    same : new.reader.held ++ k.0 ≡ now.reader.held ++ s.0
    same = ap (drop 8)
        (ap (λ b. b ++ k.0) (sym (past_opened new.reader opened)) ∙ (k.2 ∙ ap (λ b. b ++ s.0) (past_opened now.reader r.opened)))

    ahead_is : c.rest ≡ new.reader.held ++ k.0
    ahead_is =
        let told : Some (now.reader.held ++ s.0) ≡ Some c.rest = ap (λ b. to_give b (now.reader.held ++ s.0)) (sym r.opened) ∙ s.2 in
        let is : now.reader.held ++ s.0 ≡ c.rest = cc in sym is ∙ sym same

    part : record_at now.reader.offset new.reader.held ≡ More
    part = ap (λ n. record_at n new.reader.held) (sym stops.offset)
        ∙ subst (λ b. IsPart b new.reader.offset new.reader.held) opened stops.part

    none : (accept_records now.reader.offset new.reader.held r.done).inputs ≡ []
    none = ap (λ (a : Accepted). a.inputs) (accept_first now.reader.offset new.reader.held r.done
        ∙ ap (λ f. accept_front now.reader.offset new.reader.held f r.done) part)
        ∙ nothing_given (state r.done).stopped _

-- The reader stopped.
pub replaying_stopped : {first now : Moment} {holds : Kept} (new : Moment) (e : CaptureError) → now.out ≡ new.out → Gives now (Err e) new
    → holds.stopped ≡ false → Replaying first now holds → Replays first new (Err (stop_of e))
replaying_stopped {first} {now} {holds} new e same gives running r =
    go e (λ c was. given_next now new (Err e) gives r.sound was) (gives r.sound).fault
  where
    keeps : (had : List ℕ) → Keeps had (capture_of []) first.out → Keeps had (capture_of r.done) new.out
    keeps had k = subst (λ (out : Out). Keeps had (capture_of r.done) out) same (r.kept had k)

    refusal : (e : CaptureError) (named : Refusal) → refusal_by e ≡ Some named → refusal_by e ≢ None
        → ((before : List ℕ) → IsAhead now before → IsRefused now.reader.offset before e) → Replays first new (Err (Refused named))
    refusal e named is stops refused = record {
      whole = r.done;
      on = record { legal = r.drained.lawful.legal; kept = keeps };
      reaches = λ before was. let c = comes r before was in c.inputs ∙ ap (λ (a : Accepted). drained_from r.done a.inputs) (none c);
      consumes = λ fault before was. cc;
      stops = λ ok before was killed. absurd (let clash : ◌≡◌ {A = Result (Unit {0}) Stop} (Err (Refused named)) (Ok tt) = ok in cc);
      ends = λ before was. let c = comes r before was in c.refused ∙ (ap (λ (a : Accepted). a.refused) (none c) ∙ is);
    }
      where
        none : {all : Accepted} → (c : ComesOn now r.done all) → accept_records now.reader.offset c.before r.done ≡ refused_as e
        none c = refusal_ahead now.reader.offset c.before r.done (held_stopped false r running) e stops (refused c.before c.is)

    go : (e : CaptureError) → ((before : List ℕ) → IsAhead now before → IsRefused now.reader.offset before e)
        → (◌≡◌ {A = Result (Option (ℕ × Entry)) CaptureError} (Err e) (Err capture.ReadFault)
        → StopsWithin now.reader now.left new.reader new.left)
        → Replays first new (Err (stop_of e))
    go capture.BadMagic refused stops = refusal capture.BadMagic _ refl (λ e. cc) refused
    go (capture.BadRecord at why) refused stops = refusal (capture.BadRecord at why) _ refl (λ e. cc) refused
    go (capture.Truncated at) refused stops = refusal (capture.Truncated at) _ refl (λ e. cc) refused
    go (capture.TooLong at) refused stops = refusal (capture.TooLong at) _ refl (λ e. cc) refused
    go capture.ReadFault refused stops = record {
      whole = r.done;
      on = record { legal = r.drained.lawful.legal; kept = keeps };
      reaches = front_so_far r;
      ends = λ before was. tt;
      consumes = λ fault before was. consumed new r (stops refl) before was;
      stops = λ ok before was killed. absurd (let clash : ◌≡◌ {A = Result (Unit {0}) Stop} (Err ReadFault) (Ok tt) = ok in cc);
    }
    go capture.OutOfMemory refused stops = record {
      whole = r.done;
      on = record { legal = r.drained.lawful.legal; kept = keeps };
      reaches = front_so_far r;
      ends = λ before was. tt;
      consumes = λ fault before was. cc;
      stops = λ ok before was killed. absurd (let clash : ◌≡◌ {A = Result (Unit {0}) Stop} (Err OutOfMemory) (Ok tt) = ok in cc);
    }

-- ---- a record was not replayed to its end
-- What is reached of all that a capture gives, where a record was not replayed to its end.
reached_front : {first : Moment} {holds : Kept} (t : Turn) (r : Replaying first t.now holds) → IsRunning r.done → (whole : History)
    → IsReached t.entry r.done whole → (before : List ℕ) → IsAhead first before
    → IsFrontOf whole (drained_from [] (accept_records first.reader.offset before []).inputs)
reached_front {first} {holds} t r running whole (inl same) before was =
    subst (λ (h : History). IsFrontOf h (drained_from [] (accept_records first.reader.offset before []).inputs)) (sym same)
    (front_so_far r before was)
reached_front {first} {holds} t r running whole (inr on) before was =
    let c = came_on t r running (comes r before was) in
    let others : History → Accepted = accept_records t.new.reader.offset c.others in
    let more = drained_adds (drained_after r.done t.entry) (others (drained_after r.done t.entry)).inputs in
    record {
      more = more.0 ++ on.2.more;
      is = c.inputs ∙ (ap (λ why. drained_from r.done (accept_by why (is_input t.entry) r.done t.offset t.entry others).inputs) on.0
          ∙ (ap (λ b. drained_from r.done (accept_by None b r.done t.offset t.entry others).inputs) on.1
          ∙ (more.1 ∙ (ap (λ h. more.0 ++ h) on.2.is ∙ sym (append_assoc more.0 on.2.more whole)))));
    }

-- A record was not replayed to its end.
pub replaying_lost : {first : Moment} {holds : Kept} (t : Turn) (last : Kept) (why : Stop) → holds.stopped ≡ false
    → ((h : History) → IsDrained holds h → ReplaysEntry (Err why) t.offset t.entry h t.now.out t.new.out last) → Replaying first t.now holds
    → Replays first t.new (Err why)
replaying_lost {first} {holds} t last why running entry r = record {
  whole = x.whole;
  on = goes_on {now = r.done} r.kept x.on;
  reaches = λ before was. reaches why x.gives before was;
  ends = λ before was. ends why x.gives before was;
  consumes = consumes why x.gives;
  stops = λ ok before was killed. absurd (let clash : ◌≡◌ {A = Result (Unit {0}) Stop} (Err why) (Ok tt) = ok in cc);
}
  where
    x : ReplaysEntry (Err why) t.offset t.entry r.done t.now.out t.new.out last
    x = entry r.done r.drained

    still : IsRunning r.done
    still = held_stopped false r running

    all : List ℕ → Accepted
    all before = accept_records first.reader.offset before []

    reaches : (w : Stop) → EntryGives (Err w) t.offset t.entry r.done x.whole last → (before : List ℕ) → IsAhead first before
        → Reaches (Err w) x.whole (all before)
    reaches ReadFault g before was = absurd g
    reaches WriteFault g before was = reached_front t r still x.whole g before was
    reaches OutOfMemory g before was = reached_front t r still x.whole g before was
    reaches (Refused named) g before was =
        let c = came_on t r still (comes r before was) in
        c.inputs ∙ (ap
        (λ w. drained_from r.done
        (accept_by w (is_input t.entry) r.done t.offset t.entry
        (accept_records t.new.reader.offset c.others)).inputs)
        g.0.because ∙ sym g.1)

    consumes : (w : Stop) → EntryGives (Err w) t.offset t.entry r.done x.whole last
        → ◌≡◌ {A = Result (Unit {0}) Stop} (Err w) (Err ReadFault)
        → (before : List ℕ) → IsAhead first before → Consumes first t.new x.whole before
    consumes ReadFault g fault before was = absurd g
    consumes WriteFault g fault before was = cc
    consumes OutOfMemory g fault before was = cc
    consumes (Refused named) g fault before was = cc

    ends : (w : Stop) → EntryGives (Err w) t.offset t.entry r.done x.whole last → (before : List ℕ) → IsAhead first before
        → EndsAs (Err w) (all before) t.new.left
    ends ReadFault g before was = tt
    ends WriteFault g before was = tt
    ends OutOfMemory g before was = tt
    ends (Refused named) g before was =
        let c = came_on t r still (comes r before was) in
        c.refused ∙ (ap
        (λ w. (accept_by w (is_input t.entry) r.done t.offset t.entry
        (accept_records t.new.reader.offset c.others)).refused) g.0.because
        ∙ ap (λ n. refused_at n named.reason) (sym g.0.at))

-- Of where the reader stands at the end nothing is said.
pub read_elsewhere : {first last : Moment} {result : Result (Unit {0}) Stop} (reader : Reading) → Replays first last result
    → Replays first (moment reader last.left last.out) result
read_elsewhere reader x = record {
  whole = x.whole;
  on = x.on;
  reaches = x.reaches;
  ends = x.ends;
  consumes = λ fault before was.
      let c = x.consumes fault before was in
      record { consumed = c.consumed; rest = c.rest; is = c.is; left = c.left; reached = c.reached };
  stops = x.stops;
}

-- what a loop over records keeps: how far it has come, and that nothing failed
pub record GoingOn (first now : Moment) (holds : Kept) (reads writes : Type 0) : Type 0 where
  pub replaying : Replaying first now holds
  pub reads_counted : reads
  pub writes_counted : writes
