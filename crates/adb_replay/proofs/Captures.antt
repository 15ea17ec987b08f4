-- From the records of a reader to a whole capture.
use Rattle.std.proofs.Common.{ℕ, ◌≡◌, ◌≢◌, Bool, true, false, cond, if◌then◌else◌, ◌<◌, length, List, [], ◌∷◌, ◌++◌, take, drop, reverse}
use Rattle.std.proofs.Common.{Option, Some, None, Result, Ok, Err}
use Rattle.std.proofs.Common.{arith, refl, sym, ◌∙◌, ap, subst, ◌⊎◌, inl, inr}
use Rattle.std.specs.Prelude.{option_and_then, bytes_eq}
use Rattle.std.proofs.lemmas.List.{append_assoc, append-nil, reverse-append, take-append-drop, length-take}
use Rattle.std.proofs.lemmas.Slice.Eq.{bytes_eq-Decides}
use Rattle.adb_outside.specs.Bytes.{IsPrefixOf}
use Rattle.adb_capture.specs.Records.{magic, record_of, records_of}
use Rattle.adb_capture_reader.specs.Reading.{Reading, ahead, to_give, past_magic, taken_by, IsPart, Opens}
use Rattle.adb_capture.specs.declared.entry.Entry.{Entry}
use Rattle.adb_capture.specs.declared.error.CaptureError.{CaptureError}
use Rattle.adb_capture.specs.declared.error.CaptureError.TheVariants as capture
use Rattle.adb_history.specs.Machine.{History, IsLegal}
use Rattle.adb_history.specs.Drained.{drained, drained_from}
use Rattle.adb_history.specs.Refusal.{refusal_by}
use Rattle.adb_history.specs.Accepted.{Accepted, accepted, ends_with, accept_records, has_magic, replayed}
use Rattle.adb_laws_answered.proofs.ServedLaws.{answered}
use Rattle.adb_laws_causes.proofs.AllCauses.{all_causes}
use Rattle.adb_headline.proofs.Fifo.{all_fifo}
use Rattle.adb_replay.specs.Stop.{stop_of}
use Rattle.adb_replay.specs.Keeping.{Out, Keeps, HasFront, KeepsAs}
use Rattle.adb_replay.specs.Kills.{IsKilled, ReadsToKill}
use Rattle.adb_replay.specs.Replay.{written_of, capture_of, IsFrontOf, Reaches, EndsAs, Moment, IsAhead, Consumes, Replays}
use Rattle.adb_replay.specs.Replayed.{WritesText, IsSpelled, SpellsHistory, GrowsSpelled, ReplaysCapture}
use Rattle.adb_replay.specs.declared.stop.Stop.{Stop}
use Rattle.adb_replay.specs.declared.stop.Stop.TheVariants.{ReadFault, WriteFault, OutOfMemory, Refused}
use Rattle.adb_replay.proofs.Drains.{capture_more}
use Rattle.adb_replay.proofs.RecordEnds.{split_front}

-- the records of a history that goes on begin with those that it had
written_adds : (later done : History) → written_of (later ++ done) ≡ written_of done ++ records_of (reverse later)
written_adds later done = ap records_of (reverse-append later done) ∙ join (reverse done) (reverse later)
  where
    join : (xs ys : List Entry) → records_of (xs ++ ys) ≡ records_of xs ++ records_of ys
    join [] ys = refl
    join (x ∷ xs) ys = ap (λ bytes. record_of x ++ bytes) (join xs ys) ∙ sym (append_assoc (record_of x) (records_of xs) (records_of ys))

capture_front : (whole all : History) → IsFrontOf whole all → IsPrefixOf (capture_of whole) (capture_of all)
capture_front whole all f = (
  records_of (reverse f.more),
  append_assoc magic (written_of whole) (records_of (reverse f.more)) ∙ ap (λ bytes. magic ++ bytes)
      (sym (written_adds f.more whole) ∙ ap written_of (sym f.is)),
)

prefix_on : (a b c : List ℕ) → IsPrefixOf a b → IsPrefixOf b c → IsPrefixOf a c
prefix_on a b c p q = (p.0 ++ q.0, sym (append_assoc a p.0 q.0) ∙ (ap (λ x. x ++ q.0) p.1 ∙ q.1))

-- a front of two lists is a front of the first, or goes on into the second
pub record IsPast (front first last : List ℕ) : Type 0 where
  pub part : List ℕ
  pub is : front ≡ first ++ part
  pub front_of : IsPrefixOf part last

cut_front : (front first last rest : List ℕ) → front ++ rest ≡ first ++ last → IsPrefixOf front first ⊎ IsPast front first last
cut_front [] first last rest e = inl (first, refl)
cut_front (a ∷ front) [] last rest e = inr (record { part = a ∷ front; is = refl; front_of = (rest, e) })
cut_front (a ∷ front) (b ∷ first) last rest e = go (cut_front front first last rest tails)
  where
    head : a ≡ b
    head = cc

    tails : front ++ rest ≡ first ++ last
    tails = cc

    go : IsPrefixOf front first ⊎ IsPast front first last → IsPrefixOf (a ∷ front) (b ∷ first) ⊎ IsPast (a ∷ front) (b ∷ first) last
    go (inl p) = inl (p.0, λ i. head i ∷ p.1 i)
    go (inr p) = inr (record { part = p.part; is = λ i. head i ∷ p.is i; front_of = p.front_of })

-- less than a record, or a whole one
empty_or : (rest : List ℕ) → (rest ≡ []) ⊎ (rest ≢ [])
empty_or [] = inl refl
empty_or (b ∷ rest) = inr (λ e. cc)

history_spelled : (h : History) (bytes : List ℕ) → IsLegal h → bytes ≡ capture_of h → SpellsHistory bytes
history_spelled h bytes legal is = record {
  history = h;
  legal = legal;
  fifo = all_fifo h legal;
  causes = all_causes h legal;
  answered = answered h legal;
  part = [];
  is = is ∙ ap (λ x. magic ++ x)
      (sym (append-nil (written_of h)));
  rest = inl refl;
}

-- A front of the capture of a legal history spells one.
front_spelled : (h : History) (front : List ℕ) → IsLegal h → IsPrefixOf front (capture_of h) → IsSpelled front
front_spelled [] front legal p = inl (p.0, p.1 ∙ append-nil magic)
front_spelled (e ∷ h) front legal p = go (cut_front front (capture_of h) (record_of e) p.0 (p.1 ∙ sym (capture_more e h)))
    (λ q. front_spelled h front legal.0 q)
  where
    past : (q : IsPast front (capture_of h) (record_of e)) → (q.front_of.0 ≡ []) ⊎ (q.front_of.0 ≢ []) → SpellsHistory front
    past q (inl none) =
        let all : q.part ≡ record_of e = sym (append-nil q.part) ∙ (ap (λ x. q.part ++ x) (sym none) ∙ q.front_of.1) in
        history_spelled (e ∷ h) front legal (q.is ∙ (ap (λ x. capture_of h ++ x) all ∙ capture_more e h))
    past q (inr more) = record {
      history = h;
      legal = legal.0;
      fifo = all_fifo h legal.0;
      causes = all_causes h legal.0;
      answered = answered h legal.0;
      part = q.part;
      is = q.is ∙ append_assoc magic (written_of h) q.part;
      rest = inr (record { entry = e; legal = legal; rest = q.front_of.0; more = more; is = q.front_of.1 });
    }

    go : IsPrefixOf front (capture_of h) ⊎ IsPast front (capture_of h) (record_of e)
        → (IsPrefixOf front (capture_of h) → IsSpelled front) → IsSpelled front
    go (inl q) shorter = shorter q
    go (inr q) shorter = inr (past q (empty_or q.front_of.0))

-- the magic stands at the front of the bytes
magic_there : (bytes before : List ℕ) → past_magic bytes ≡ Some before → (has_magic bytes ≡ true) × (before ≡ drop 8 bytes)
magic_there bytes before e = go (bytes_eq (take 8 bytes) magic) refl e
  where
    go : (b : Bool) → bytes_eq (take 8 bytes) magic ≡ b → cond b (Some (drop 8 bytes)) None ≡ Some before
        → (bytes_eq (take 8 bytes) magic ≡ true) × (before ≡ drop 8 bytes)
    go true is same = (is, cc)
    go false is same = cc

past_is : (bytes before : List ℕ) → has_magic bytes ≡ true → before ≡ drop 8 bytes → bytes ≡ magic ++ before
past_is bytes before there is =
    sym (take-append-drop 8 bytes)
    ∙ (ap (λ b. b ++ drop 8 bytes) ((bytes_eq-Decides (take 8 bytes) magic).0 there) ∙ ap (λ b. magic ++ b) (sym is))

-- fewer bytes than the magic has
short_no_magic : (bytes : List ℕ) → length bytes < length magic → has_magic bytes ≡ false
short_no_magic bytes short = go (bytes_eq (take 8 bytes) magic) refl
  where
    go : (b : Bool) → bytes_eq (take 8 bytes) magic ≡ b → bytes_eq (take 8 bytes) magic ≡ false
    go true is =
        let all : length (take 8 bytes) ≡ 8 = ap length ((bytes_eq-Decides (take 8 bytes) magic).0 is) in
        absurd (omega (arith, all, length-take 8 bytes, short))
    go false is = is

nothing_replayed : (bytes : List ℕ) → has_magic bytes ≡ false → replayed bytes ≡ []
nothing_replayed bytes none = ap (λ b. cond b (magic ++ records_of (drained (accepted bytes).inputs)) []) none

no_magic : (bytes : List ℕ) → past_magic bytes ≡ None → has_magic bytes ≡ false
no_magic bytes e = go (bytes_eq (take 8 bytes) magic) refl e
  where
    go : (b : Bool) → bytes_eq (take 8 bytes) magic ≡ b → cond b (Some (drop 8 bytes)) None ≡ None → bytes_eq (take 8 bytes) magic ≡ false
    go true is same = cc
    go false is same = is

accepted_with : (bytes : List ℕ) → has_magic bytes ≡ true → accepted bytes ≡ accept_records 8 (drop 8 bytes) []
accepted_with bytes e = ap (λ b. cond b (accept_records 8 (drop 8 bytes) []) (ends_with (refusal_by capture.BadMagic))) e

all_front : (had text : List ℕ) (written : Option (List ℕ)) → written ≡ Some (had ++ text) → HasFront had text written
all_front had text written is = record { growth = text; is = is; front = ([], append-nil text) }

-- what went out of a text, of a longer one
longer : (had text all : List ℕ) (written : Option (List ℕ)) → IsPrefixOf text all → HasFront had text written → HasFront had all written
longer had text all written p f = record { growth = f.growth; is = f.is; front = prefix_on f.growth text all f.front p }

-- a front of all that is there is a front at least
pub text_front : (result : Result (Unit {0}) Stop) (text had : List ℕ) (written : Option (List ℕ)) → WritesText result text had written
    → HasFront had text written
text_front (Ok done) text had written w = all_front had text written w
text_front (Err ReadFault) text had written w = w
text_front (Err WriteFault) text had written w = w
text_front (Err OutOfMemory) text had written w = w
text_front (Err (Refused why)) text had written w = all_front had text written w

-- what is kept goes out at last
pub finished : (ended : Result (Unit {0}) Stop) (had text : List ℕ) (out : Out) (written : Option (List ℕ)) → KeepsAs ended had text out
    → ((had text : List ℕ) → Keeps had text out → written ≡ Some (had ++ text)) → (out.1 ≡ [] → written ≡ out.0)
    → WritesText ended text had written
finished (Ok done) had text out written k goes idle = goes had text k
finished (Err ReadFault) had text out written k goes idle = all_front had text written (goes had text k)
finished (Err WriteFault) had text out written k goes idle = record { growth = k.0.growth; is = idle k.1 ∙ k.0.is; front = k.0.front }
finished (Err OutOfMemory) had text out written k goes idle = all_front had text written (goes had text k)
finished (Err (Refused why)) had text out written k goes idle = goes had text k

-- and where no write failed, all of it
all_went_out : (ended : Result (Unit {0}) Stop) (had text : List ℕ) (out : Out) (written : Option (List ℕ))
    → ◌≢◌ {A = Result (Unit {0}) Stop} ended (Err WriteFault) → KeepsAs ended had text out
    → ((had text : List ℕ) → Keeps had text out → written ≡ Some (had ++ text)) → written ≡ Some (had ++ text)
all_went_out (Ok done) had text out written other k goes = goes had text k
all_went_out (Err ReadFault) had text out written other k goes = goes had text k
all_went_out (Err WriteFault) had text out written other k goes = absurd (other refl)
all_went_out (Err OutOfMemory) had text out written other k goes = goes had text k
all_went_out (Err (Refused why)) had text out written other k goes = goes had text k

read_fault_alone : (ended : Result (Unit {0}) Stop) → ended ≡ Err ReadFault → ◌≢◌ {A = Result (Unit {0}) Stop} ended (Err WriteFault)
read_fault_alone ended fault other = let clash : ◌≡◌ {A = Result (Unit {0}) Stop} (Err ReadFault) (Err WriteFault) = sym fault ∙ other in cc

-- the sink failed at last
pub lost_at_last : (ended : Result (Unit {0}) Stop) (had text : List ℕ) (out : Out) (written : Option (List ℕ)) → KeepsAs ended had text out
    → ((had text : List ℕ) → Keeps had text out → HasFront had text written) → (out.1 ≡ [] → written ≡ out.0) → HasFront had text written
lost_at_last (Ok done) had text out written k goes idle = goes had text k
lost_at_last (Err ReadFault) had text out written k goes idle = goes had text k
lost_at_last (Err WriteFault) had text out written k goes idle = record { growth = k.0.growth; is = idle k.1 ∙ k.0.is; front = k.0.front }
lost_at_last (Err OutOfMemory) had text out written k goes idle = goes had text k
lost_at_last (Err (Refused why)) had text out written k goes idle = goes had text k

-- what was reached of all that a capture gives, as a part of its text
reached_text : (result : Result (Unit {0}) Stop) (whole : History) (had : List ℕ) (a : Accepted)
    (written : Option (List ℕ)) → Reaches result whole a
    → WritesText result (capture_of whole) had written → WritesText result (capture_of (drained_from [] a.inputs)) had written
reached_text (Ok done) whole had a written r w = w ∙ ap (λ h. Some (had ++ capture_of h)) (sym r)
reached_text (Err ReadFault) whole had a written r w = longer had _ _ written (capture_front whole _ r) w
reached_text (Err WriteFault) whole had a written r w = longer had _ _ written (capture_front whole _ r) w
reached_text (Err OutOfMemory) whole had a written r w = longer had _ _ written (capture_front whole _ r) w
reached_text (Err (Refused why)) whole had a written r w = w ∙ ap (λ h. Some (had ++ capture_of h)) (sym r)

-- whatever was reached, it is a first part
reached_part : (result : Result (Unit {0}) Stop) (whole : History) (a : Accepted) → Reaches result whole a
    → IsFrontOf whole (drained_from [] a.inputs)
reached_part (Ok done) whole a r = record { more = []; is = r }
reached_part (Err ReadFault) whole a r = r
reached_part (Err WriteFault) whole a r = r
reached_part (Err OutOfMemory) whole a r = r
reached_part (Err (Refused why)) whole a r = record { more = []; is = r }

-- the magic was read and is gathered
pub record Opened (left_first : Option (List ℕ)) (first : Moment) : Type 0 where
  pub offset : first.reader.offset ≡ 8
  pub opened : first.reader.opened ≡ true
  pub past : (coming : List ℕ) → left_first ≡ Some coming → (rest : List ℕ) × (first.left ≡ Some rest)
      × (past_magic coming ≡ Some (first.reader.held ++ rest))
  pub gathered : first.out.1 ≡ magic

abbrev pub fresh : Reading
fresh = record { opened = false; offset = 8; held = []; failed = None }

-- a reader that had read nothing read the magic
pub opened_first : (reader : Reading) (left_first : Option (List ℕ)) (first : Moment) → reader ≡ fresh → first.reader.offset ≡ reader.offset
    → (reader.failed ≡ None → Opens reader left_first first.reader first.left (Ok tt)) → first.reader.opened ≡ true → first.out.1 ≡ magic
    → Opened left_first first
opened_first reader left_first first is place opens opened gathered = record {
  offset = place ∙ ap (λ (r : Reading). r.offset) is;
  opened = opened;
  past = subst (λ (r : Reading). r.failed ≡ None → Opens r left_first first.reader first.left (Ok tt)) is opens refl;
  gathered = gathered;
}

-- what is ahead then, of the bytes of the capture
record FromMagic (bytes : List ℕ) (first : Moment) : Type 0 where
  pub before : List ℕ
  pub whole : bytes ≡ magic ++ before
  pub there : has_magic bytes ≡ true
  pub is : IsAhead first before
  pub same : accept_records first.reader.offset before [] ≡ accepted bytes

from_magic : (left_first : Option (List ℕ)) (first : Moment) (bytes : List ℕ) → Opened left_first first
    → left_first ≡ Some bytes → FromMagic bytes first
from_magic left_first first bytes o told =
    let p = o.past bytes told in
    let m = magic_there bytes (first.reader.held ++ p.0) p.2 in
    record {
      before = first.reader.held ++ p.0;
      whole = past_is bytes (first.reader.held ++ p.0) m.0 m.1;
      there = m.0;
      is = ap (option_and_then (ahead first.reader)) p.1 ∙ ap (λ b. to_give b (first.reader.held ++ p.0)) o.opened;
      same = ap (λ n. accept_records n (first.reader.held ++ p.0) []) o.offset
          ∙ (ap (λ b. accept_records 8 b []) m.1 ∙ sym (accepted_with bytes m.0));
    }

replayed_is : (bytes : List ℕ) → has_magic bytes ≡ true → capture_of (drained_from [] (accepted bytes).inputs) ≡ replayed bytes
replayed_is bytes there = sym (ap (λ b. cond b (magic ++ records_of (drained (accepted bytes).inputs)) []) there)

keeps_magic : (left_first : Option (List ℕ)) (first : Moment) (had : List ℕ) → Opened left_first first → first.out.0 ≡ Some had
    → Keeps had (capture_of []) first.out
keeps_magic left_first first had o is =
    record { growth = []; is = is ∙ ap Some (sym (append-nil had)); whole = o.gathered ∙ sym (append-nil magic) }

-- The records were replayed, and all that was kept went out.
pub capture_replayed : (left_first written : Option (List ℕ)) (first last : Moment) (ended : Result (Unit {0}) Stop)
    → Opened left_first first
    → Replays first last ended
    → ((had text : List ℕ) → Keeps had text last.out → written ≡ Some (had ++ text)) → (last.out.1 ≡ [] → written ≡ last.out.0)
    → ReplaysCapture left_first last.left first.out.0 written ended
capture_replayed left_first written first last ended o r goes idle = record {
  writes = λ bytes had told has.
      let f = from_magic left_first first bytes o told in
      subst (λ (text : List ℕ). WritesText ended text had written) (replayed_is bytes f.there)
      (reached_text ended r.whole had (accepted bytes) written
      (subst (λ (a : Accepted). Reaches ended r.whole a) f.same (r.reaches f.before f.is))
      (text had has));
  ends = λ bytes told.
      let f = from_magic left_first first bytes o told in
      subst (λ (a : Accepted). EndsAs ended a last.left) f.same (r.ends f.before f.is);
  spells = λ had has.
      let f = text_front ended (capture_of r.whole) had written (text had has) in
      record { growth = f.growth; is = f.is; spelled = front_spelled r.whole f.growth r.on.legal f.front };
  whole = λ other had has. inr (record {
    history = r.whole;
    legal = r.on.legal;
    is = all_went_out ended had (capture_of r.whole) last.out written
        other (r.on.kept had (keeps_magic left_first first had o has)) goes;
  });
  consumes = λ fault bytes had told has.
      let f = from_magic left_first first bytes o told in
      let u = r.consumes fault f.before f.is in
      record {
        consumed = magic ++ u.consumed;
        rest = u.rest;
        is = f.whole ∙ ap (λ b. magic ++ b) u.is;
        is_left = u.left;
        goes_out = all_went_out ended had (capture_of r.whole) last.out written (read_fault_alone ended fault)
            (r.on.kept had (keeps_magic left_first first had o has)) goes ∙ ap (λ text. Some (had ++ text)) (consumed_text u);
      };
  stops = λ ok bytes told killed.
      let f = from_magic left_first first bytes o told in
      let u = r.stops ok f.before f.is (subst IsKilled (sym f.same) killed) in
      record {
        bytes = f.before;
        is = f.whole;
        read = subst (λ (n : ℕ). ReadsToKill n f.before last.left) o.offset u;
      };
}
  where
    consumed_text : {before : List ℕ} → (u : Consumes first last r.whole before) → capture_of r.whole ≡ replayed (magic ++ u.consumed)
    consumed_text u =
        let same : accepted (magic ++ u.consumed) ≡ accept_records first.reader.offset u.consumed [] =
        accepted_with (magic ++ u.consumed) refl ∙ ap (λ n. accept_records n u.consumed []) (sym o.offset) in
        ap capture_of (sym (ap (λ (a : Accepted). drained_from [] a.inputs) same ∙ u.reached)) ∙ replayed_is (magic ++ u.consumed) refl

    text : (had : List ℕ) → first.out.0 ≡ Some had → WritesText ended (capture_of r.whole) had written
    text had has = finished ended had (capture_of r.whole) last.out written
        (r.on.kept had (keeps_magic left_first first had o has)) goes idle

-- it did not end well
not_done : (why : Stop) → ◌≡◌ {A = Result (Unit {0}) Stop} (Err why) (Ok tt) → ⊥
not_done why e = let clash : ◌≡◌ {A = Result (Unit {0}) Stop} (Err why) (Ok tt) = e in cc

-- The records were replayed, and what was kept did not go out.
pub capture_lost : (left_first written : Option (List ℕ)) (first last : Moment) (ended : Result (Unit {0}) Stop) → Opened left_first first
    → Replays first last ended
    → ((had text : List ℕ) → Keeps had text last.out → HasFront had text written) → (last.out.1 ≡ [] → written ≡ last.out.0)
    → ReplaysCapture left_first last.left first.out.0 written (Err WriteFault)
capture_lost left_first written first last ended o r goes idle = record {
  writes = λ bytes had told has.
      let f = from_magic left_first first bytes o told in
      subst (λ (all : List ℕ). HasFront had all written) (replayed_is bytes f.there)
      (longer had _ _ written (capture_front r.whole _ (reached_part ended r.whole (accepted bytes)
      (subst (λ (a : Accepted). Reaches ended r.whole a) f.same (r.reaches f.before f.is)))) (front had has));
  ends = λ bytes told. tt;
  spells = λ had has.
      let f = front had has in
      record { growth = f.growth; is = f.is; spelled = front_spelled r.whole f.growth r.on.legal f.front };
  whole = λ other had has. absurd (other refl);
  consumes = λ fault bytes had told has. cc;
  stops = λ ok bytes told killed. absurd (not_done WriteFault ok);
}
  where
    front : (had : List ℕ) → first.out.0 ≡ Some had → HasFront had (capture_of r.whole) written
    front had has = lost_at_last ended had (capture_of r.whole) last.out written
        (r.on.kept had (keeps_magic left_first first had o has)) goes idle

-- nothing went out
nothing_spelled : (had : List ℕ) (written : Option (List ℕ)) → written ≡ Some had → GrowsSpelled had written
nothing_spelled had written is = record { growth = []; is = is ∙ ap Some (sym (append-nil had)); spelled = inl (magic, refl) }

nothing_front : (had text : List ℕ) (written : Option (List ℕ)) → written ≡ Some had → HasFront had text written
nothing_front had text written is = record { growth = []; is = is ∙ ap Some (sym (append-nil had)); front = (text, refl) }

-- Memory ran out before anything was kept.
pub capture_unread : (left left_after written : Option (List ℕ)) → ReplaysCapture left left_after written written (Err OutOfMemory)
capture_unread left left_after written = record {
  writes = λ bytes had told has. nothing_front had (replayed bytes) written has;
  ends = λ bytes told. tt;
  spells = λ had has. nothing_spelled had written has;
  whole = λ other had has. inl has;
  consumes = λ fault bytes had told has. cc;
  stops = λ ok bytes told killed. absurd (not_done OutOfMemory ok);
}

-- The magic was not read.
pub capture_unopened : (opened : Reading) (left_first left_opened written : Option (List ℕ)) (e : CaptureError)
    → Opens fresh left_first opened left_opened (Err e)
    → ReplaysCapture left_first left_opened written written (Err (stop_of e))
capture_unopened opened left_first left_opened written capture.BadMagic o = record {
  writes = λ bytes had told has. has ∙ ap Some (sym (append-nil had) ∙ ap (λ x. had ++ x)
      (sym (ap (λ b. cond b (magic ++ records_of (drained (accepted bytes).inputs)) []) (no_magic bytes (o bytes told)))));
  ends = λ bytes told. ap (λ b. (cond b (accept_records 8 (drop 8 bytes) []) (ends_with (refusal_by capture.BadMagic))).refused)
      (no_magic bytes (o bytes told));
  spells = λ had has. nothing_spelled had written has;
  whole = λ other had has. inl has;
  consumes = λ fault bytes had told has. cc;
  stops = λ ok bytes told killed. absurd (not_done _ ok);
}
capture_unopened opened left_first left_opened written (capture.BadRecord at why) o = absurd o
capture_unopened opened left_first left_opened written (capture.Truncated at) o = absurd o
capture_unopened opened left_first left_opened written (capture.TooLong at) o = absurd o
capture_unopened opened left_first left_opened written capture.ReadFault o = record {
  writes = λ bytes had told has. nothing_front had (replayed bytes) written has;
  ends = λ bytes told. tt;
  spells = λ had has. nothing_spelled had written has;
  whole = λ other had has. inl has;
  consumes = λ fault bytes had told has.
      let held : taken_by opened ≡ opened.held = ap (λ b. if b then magic ++ opened.held else opened.held) o.0 in
      let k = split_front (taken_by opened) bytes left_opened (o.1.keeps bytes told) in
      let short : length opened.held < length magic = subst (λ b. IsPart b opened.offset opened.held) o.0 o.1.part in
      record {
        consumed = opened.held;
        rest = k.0;
        is = sym k.2 ∙ ap (λ b. b ++ k.0) held;
        is_left = k.1;
        goes_out = has
            ∙ ap Some (sym (append-nil had) ∙ ap (λ text. had ++ text)
            (sym (nothing_replayed opened.held (short_no_magic opened.held short))));
      };
  stops = λ ok bytes told killed. absurd (not_done ReadFault ok);
}
capture_unopened opened left_first left_opened written capture.OutOfMemory o = capture_unread left_first left_opened written
