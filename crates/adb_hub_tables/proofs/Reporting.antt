-- What a log of endings records by rules, one after another.
use Rattle.std.proofs.Common.{ℕ, ◌+◌, ◌≡◌, ◌≢◌, ◌≤◌, ◌<◌, List, [], ◌∷◌, ◌++◌, Bool, true, false, Option, Some, None, refl, sym, ◌∙◌, ap}
use Rattle.std.proofs.Common.{subst, cond, eqb, arith, ◌⊎◌, inl, inr, zero, suc, length, append_assoc}
use Rattle.std.proofs.lemmas.List.{append-nil}
use Rattle.std.proofs.lemmas.Bool.{ne_eqb, eq-eqb, cases_eq}
use Rattle.std.proofs.lemmas.Bool.Decides.{nat_tests}
use Rattle.std.specs.Ordering.{nat_cmp, is_eq}
use Rattle.adb_outside.specs.Tables.{Rows, at}
use Rattle.adb_stream.specs.declared.row.Stream.{Stream}
use Rattle.adb_history.specs.declared.ending.Ending.{Ending}
use Rattle.adb_history.specs.Rows.{State}
use Rattle.adb_history.specs.Events.{Event, Made, due_to_client, due_to_link, ended, then_also}
use Rattle.adb_history.specs.Streams.{tells_end}
use Rattle.adb_hub_tables.specs.declared.endings.Ended.{Ended}
use Rattle.adb_hub_tables.specs.declared.tables.Tables.{Tables}
use Rattle.adb_hub_tables.specs.Places.{StaysOwned}
use Rattle.adb_hub_tables.specs.Endings.{Log, Watches, Records, Reports, HasPlaceEach, ended_of, ended_at, endings_of, add, add_at}
use Rattle.adb_hub_tables.specs.Endings.{add_if_place, add_unless, logged, live, one_if}
use Rattle.adb_hub_tables.proofs.Staying.{stays, owned_then}

-- ---- what is recorded
-- of two rules, one after another
pub logged_then : (rows : Rows (Option Stream)) (first second : List Event) (log : Log)
    → logged rows (first ++ second) log ≡ logged rows second (logged rows first log)
logged_then rows [] second log = refl
logged_then rows (due_to_client client bytes ∷ events) second log = logged_then rows events second log
logged_then rows (due_to_link link packet check ∷ events) second log = logged_then rows events second log
logged_then rows (ended l ending ∷ events) second log = logged_then rows events second (add_at l ending (rows l) log)

added : (l : ℕ) (ending : Ending) (row : Option Stream) (log : Log) (more : List Ended)
    → (add_at l ending row log).list ++ more ≡ log.list ++ (ended_at l ending row ++ more)
added l ending None log more = refl
added l ending (Some stream) log more = append_assoc log.list (ended_of l ending stream ∷ []) more

-- the list of a log has the endings behind what it had
pub logged_list : (rows : Rows (Option Stream)) (told : List Event) (log : Log)
    → (logged rows told log).list ≡ log.list ++ endings_of rows told
logged_list rows [] log = sym (append-nil log.list)
logged_list rows (due_to_client client bytes ∷ events) log = logged_list rows events log
logged_list rows (due_to_link link packet check ∷ events) log = logged_list rows events log
logged_list rows (ended l ending ∷ events) log =
    logged_list rows events (add_at l ending (rows l) log) ∙ added l ending (rows l) log (endings_of rows events)

-- ---- how many streams live
pub more_live : (rows : Rows (Option Stream)) (n m : ℕ) → live n rows ≤ live (n + m) rows
more_live rows n zero = subst (λ (k : ℕ). live n rows ≤ live k rows) (the_same n) (omega arith)
  where
    the_same : (n : ℕ) → n ≡ n + 0
    the_same n = omega arith
more_live rows n (suc m) =
    let one : live (suc (n + m)) rows ≡ live (n + m) rows + one_if (rows (n + m)) = refl in
    subst (λ (k : ℕ). live n rows ≤ live k rows) (next n m) (omega (arith, more_live rows n m, one))
  where
    next : (n m : ℕ) → suc (n + m) ≡ n + suc m
    next n m = omega arith

one_owned : (old new : Option Stream) → StaysOwned old new → one_if new ≤ one_if old
one_owned old None owned = omega arith
one_owned None (Some new) owned = absurd owned
one_owned (Some old) (Some new) owned = omega arith

-- a row more is one more at most
record Beside (n k : ℕ) (more rows : Rows (Option Stream)) : Type 0 where
  pub below : n ≤ k → live n more ≤ live n rows
  pub all : live n more ≤ live n rows + 1

beside : (n k : ℕ) (more rows : Rows (Option Stream)) → ((l : ℕ) → l ≢ k → more l ≡ rows l) → Beside n k more rows
beside zero k more rows same = record { below = λ le. omega arith; all = omega arith }
beside (suc n) k more rows same = by_place (cases_eq n k) (beside n k more rows same)
  where
    one : (row : Option Stream) → one_if row ≤ 1
    one None = omega arith
    one (Some stream) = omega arith

    by_place : ◌⊎◌ (n ≡ k) (n ≢ k) → Beside n k more rows → Beside (suc n) k more rows
    by_place (inl is) h = record {
      below = λ le. omega (arith, le, is);
      all = let before = h.below (omega (arith, is)) in omega (arith, before, one (more n));
    }
    by_place (inr other) h =
        let equal : one_if (more n) ≡ one_if (rows n) = ap one_if (same n other) in
        record {
          below = λ le. let before = h.below (omega (arith, le)) in omega (arith, before, equal);
          all = omega (arith, h.all, equal);
        }

none_live : (n : ℕ) → live n (λ _. None) ≡ 0
none_live zero = refl
none_live (suc n) = omega (arith, none_live n)

-- no more live than a table has rows
pub live_listed : (n : ℕ) (streams : List (ℕ × Stream)) → live n (λ l. at l streams) ≤ length streams
live_listed n [] = omega (arith, none_live n)
live_listed n ((k, stream) ∷ streams) =
    let h = beside n k (λ l. at l ((k, stream) ∷ streams)) (λ l. at l streams)
    (λ l other. ap (λ b. cond b (Some stream) (at l streams)) (apart l k other)) in
    omega (arith, h.all, live_listed n streams)
  where
    apart : (l k : ℕ) → l ≢ k → is_eq (nat_cmp l k) ≡ false
    apart l k other = by_test (is_eq (nat_cmp l k)) refl
      where
        by_test : (b : Bool) → is_eq (nat_cmp l k) ≡ b → b ≡ false
        by_test true e = absurd (other (grind (arith, nat_tests)))
        by_test false e = refl

-- none comes
pub live_owned : (old new : Rows (Option Stream)) → ((l : ℕ) → StaysOwned (old l) (new l)) → (n : ℕ) → live n new ≤ live n old
live_owned old new owned zero = omega arith
live_owned old new owned (suc n) = omega (arith, live_owned old new owned n, one_owned (old n) (new n) (owned n))

-- where one went there are fewer
pub fewer_live : (old new : Rows (Option Stream)) (id : ℕ) → ((l : ℕ) → StaysOwned (old l) (new l))
    → one_if (old id) ≡ 1 → one_if (new id) ≡ 0
    → (n : ℕ) → id < n → live n new + 1 ≤ live n old
fewer_live old new id owned was gone zero less = absurd (omega (arith, less))
fewer_live old new id owned was gone (suc n) less = by_place (cases_eq id n) (fewer_live old new id owned was gone n)
  where
    by_place : ◌⊎◌ (id ≡ n) (id ≢ n) → (id < n → live n new + 1 ≤ live n old) → live (suc n) new + 1 ≤ live (suc n) old
    by_place (inl is) before =
        let now_gone : one_if (new n) ≡ 0 = ap (λ (k : ℕ). one_if (new k)) (sym is) ∙ gone in
        let was_there : one_if (old n) ≡ 1 = ap (λ (k : ℕ). one_if (old k)) (sym is) ∙ was in
        omega (arith, live_owned old new owned n, now_gone, was_there)
    by_place (inr other) before = omega (arith, before (omega (arith, less, other)), one_owned (old n) (new n) (owned n))

pub gone_live : (old new : Rows (Option Stream)) (id : ℕ) → ((l : ℕ) → StaysOwned (old l) (new l))
    → one_if (old id) ≡ 1 → one_if (new id) ≡ 0
    → (spare : ℕ) → ((n : ℕ) → live n old ≤ spare) → (n : ℕ) → live n new + 1 ≤ spare
gone_live old new id owned was gone spare places n =
    let more = more_live new n (suc id) in
    let fewer = fewer_live old new id owned was gone (n + suc id) (omega arith) in
    omega (arith, more, fewer, places (n + suc id))

-- ---- rules, one after another
-- a rule by which no stream ends
pub reports_none : (log : Log) (old new : Tables)
    → ((l : ℕ) → StaysOwned (at l old.streams.streams) (at l new.streams.streams)) → Reports [] log old log new
reports_none log old new owned = record {
  log = record { is = λ rows watches. refl };
  places = λ places n.
      let fewer = live_owned (λ l. at l old.streams.streams) (λ l. at l new.streams.streams) owned n in
      omega (arith, fewer, places n);
  owned = owned;
}

pub watches_then : {told : List Event} {before : Log} {old : Tables} {after : Log} {new : Tables} → Reports told before old after new
    → (rows : Rows (Option Stream)) → Watches rows before old → Watches rows after new
watches_then {told} {before} {old} {after} {new} h rows watches = record {
  owned = λ l. owned_then (rows l) (at l old.streams.streams) (at l new.streams.streams) (watches.owned l) (h.owned l);
  places = h.places watches.places;
}

-- of tables with the same streams
pub watches_same : {old new : Tables} → ((l : ℕ) → at l new.streams.streams ≡ at l old.streams.streams)
    → (rows : Rows (Option Stream)) (log : Log)
    → Watches rows log old → Watches rows log new
watches_same {old} {new} same rows log watches =
    watches_then (reports_none log old new
    (λ l. subst (StaysOwned (at l old.streams.streams)) (sym (same l)) (stays (at l old.streams.streams)))) rows
    watches

pub records_same : {old new : Tables} {told : List Event} {before after : Log}
    → ((l : ℕ) → at l new.streams.streams ≡ at l old.streams.streams)
    → Records told before new after → Records told before old after
records_same {old} {new} {told} {before} {after} same h = record {
  is = λ rows watches. h.is rows (watches_same {old = old} {new = new} same rows before watches);
}

pub records_then : {first second : List Event} {before : Log} {old : Tables} {middle : Log} {now : Tables} {after : Log}
    → Reports first before old middle now → Records second middle now after → Records (first ++ second) before old after
records_then {first} {second} {before} {old} {middle} {now} {after} h k = record {
  is = λ rows watches.
      k.is rows (watches_then h rows watches)
      ∙ (ap (logged rows second) (h.log.is rows watches) ∙ sym (logged_then rows first second before));
}

pub reports_then : {first second : List Event} {before : Log} {old : Tables} {middle : Log} {now : Tables} {after : Log} {new : Tables}
    → Reports first before old middle now → Reports second middle now after new → Reports (first ++ second) before old after new
reports_then {first} {second} {before} {old} {middle} {now} {after} {new} h k = record {
  log = records_then h k.log;
  places = λ places. k.places (h.places places);
  owned = λ l. owned_then (at l old.streams.streams) (at l now.streams.streams) (at l new.streams.streams) (h.owned l) (k.owned l);
}

-- and of rules that tell the same endings
abbrev pub TellsSame : (first second : List Event) → Type 0
TellsSame first second = (rows : Rows (Option Stream)) (log : Log) → logged rows first log ≡ logged rows second log

pub records_as : {first second : List Event} {before : Log} {old : Tables} {after : Log}
    → TellsSame first second → Records first before old after → Records second before old after
records_as {first} {second} {before} {old} {after} same h = record { is = λ rows watches. h.is rows watches ∙ same rows before }

pub reports_as : {first second : List Event} {before : Log} {old : Tables} {after : Log} {new : Tables}
    → TellsSame first second → Reports first before old after new → Reports second before old after new
reports_as {first} {second} {before} {old} {after} {new} same h = record { log = records_as same h.log; places = h.places; owned = h.owned }

-- ---- a stream ends
pub one_of : (row : Option Stream) (stream : Stream) → row ≡ Some stream → one_if row ≡ 1
one_of None stream is = cc
one_of (Some other) stream is = refl

pub none_of : (row : Option Stream) → row ≡ None → one_if row ≡ 0
none_of None is = refl
none_of (Some other) is = cc

pub same_end : (l : ℕ) (ending : Ending) (stream : Stream) (log : Log) (row now : Option Stream) → StaysOwned row now → now ≡ Some stream
    → add (ended_of l ending stream) log ≡ add_at l ending row log
same_end l ending stream log row None owned is = cc
same_end l ending stream log None (Some now) owned is = absurd owned
same_end l ending stream log (Some row) (Some now) owned is =
    let client : stream.client ≡ row.client = ap (λ (r : Option Stream). client_in r) (sym is) ∙ owned.0 in
    let link : stream.link ≡ row.link = ap (λ (r : Option Stream). link_in r) (sym is) ∙ owned.1 in
    λ i. add (record { stream = l; client = client i; link = link i; ending = ending }) log
  where
    client_in : Option Stream → ℕ
    client_in None = 0
    client_in (Some s) = s.client

    link_in : Option Stream → ℕ
    link_in None = 0
    link_in (Some s) = s.link

pub has_place : (x : Ended) (log : Log) → 0 < log.spare → add_if_place x log ≡ add x log
has_place x log some = ap (λ b. cond b log (add x log)) (ne_eqb log.spare 0 (λ e. omega (arith, some, e)))

-- Its row is there before, and not after.
pub record Goes (id : ℕ) (stream : Stream) (old new : Tables) : Type 0 where
  pub here : at id old.streams.streams ≡ Some stream
  pub gone : at id new.streams.streams ≡ None
  pub owned : (l : ℕ) → StaysOwned (at l old.streams.streams) (at l new.streams.streams)

module _ (id : ℕ) (ending : Ending) (stream : Stream) (log : Log) (old : Tables) (here : at id old.streams.streams ≡ Some stream) where
  spare_one : HasPlaceEach log old → 0 < log.spare
  spare_one places =
      let one = one_of (at id old.streams.streams) stream here in
      omega (arith, places (suc id), one)

  -- its end is recorded
  pub records_end : Records (ended id ending ∷ []) log old (add_if_place (ended_of id ending stream) log)
  records_end = record {
    is = λ rows watches.
        has_place (ended_of id ending stream) log (spare_one watches.places)
        ∙ same_end id ending stream log (rows id) (at id old.streams.streams) (watches.owned id) here;
  }

-- the end of a stream whose row goes, unless it was an orphan
pub reports_end : (orphan : Bool) (id : ℕ) (ending : Ending) (stream : Stream) (s : State) (log : Log)
    (old new : Tables) → Goes id stream old new
    → Reports (tells_end orphan id ending s).told log old (add_unless orphan (ended_of id ending stream) log) new
reports_end true id ending stream s log old new goes = reports_none log old new goes.owned
reports_end false id ending stream s log old new goes = record {
  log = records_end id ending stream log old goes.here;
  places = λ places. subst (λ (log : Log). HasPlaceEach log new) (sym (has_place (ended_of id ending stream) log
      (spare_one id ending stream log old goes.here places)))
      (λ n.
      let fewer = gone_live (λ l. at l old.streams.streams) (λ l. at l new.streams.streams) id goes.owned
      (one_of (at id old.streams.streams) stream goes.here) (none_of (at id new.streams.streams) goes.gone) log.spare places n in
      omega (arith, fewer));
  owned = goes.owned;
}
