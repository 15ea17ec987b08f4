-- How far the history of a capture was judged, and what that comes to.
use Rattle.std.proofs.Common.{ℕ, ◌+◌, ◌≡◌, ◌≢◌, ◌≤◌, true, false, List, [], ◌∷◌, ◌++◌, length, take, drop, reverse, Option, Some, None}
use Rattle.std.proofs.Common.{Result, Ok, Err}
use Rattle.std.proofs.Common.{refl, sym, ◌∙◌, ap, subst, arith}
use Rattle.std.specs.Prelude.{option_and_then}
use Rattle.std.proofs.lemmas.List.{append_assoc, append-nil, reverse-append, reverse-reverse, length-reverse}
use Rattle.adb_outside.specs.declared.framer.Front.{Front}
use Rattle.adb_outside.specs.declared.framer.Front.TheVariants.{More, Bad, Whole}
use Rattle.adb_outside.specs.Framing.{Cut, cut, cut_by}
use Rattle.adb_outside.proofs.FramingLaws.{cut_first}
use Rattle.adb_capture.proofs.Fronts.{framing}
use Rattle.adb_capture.specs.Records.{record_at, entry_in, offset_after}
use Rattle.adb_capture_reader.specs.Reading.{Reading, ahead, ahead_of, to_give, AnswersNext, GivesRecord, IsRefused, IsMagicRefused}
use Rattle.adb_capture.specs.Faults.{error_of}
use Rattle.adb_capture.specs.declared.entry.Entry.{Entry}
use Rattle.adb_capture.specs.declared.error.FormFault.{FormFault}
use Rattle.adb_capture.specs.declared.error.FormFault.TheVariants as form
use Rattle.adb_capture.specs.declared.error.CaptureError.{CaptureError}
use Rattle.adb_capture.specs.declared.error.CaptureError.TheVariants as capture
use Rattle.adb_history.specs.Machine.{History, IsLegal}
use Rattle.adb_history.specs.Accepted.{end_of}
use Rattle.adb_history.specs.Refusal.{refusal_by}
use Rattle.adb_history.specs.declared.refusal.Refusal.{Refusal}
use Rattle.adb_check.specs.declared.verdict.Rule.{Rule}
use Rattle.adb_check.specs.declared.verdict.Verdict.TheVariants.{Legal, Illegal}
use Rattle.adb_check.specs.declared.capture.Judgement.TheVariants as judgement
use Rattle.adb_check.specs.FirstBad.{IsFirstBad}
use Rattle.adb_check.specs.Formed.{Formed, formed_cut, formed_records, formed_ahead, formed, history_of}
use Rattle.adb_check.specs.Capture.{IsRefusedAs, JudgesCapture}
use Rattle.adb_check.specs.Judging.{Judging, Judges, Says}
use Rattle.adb_check.proofs.Places.{place_next}

-- ---- what a capture holds, record by record
-- entries before those of the rest
abbrev pub behind : History → Formed → Formed
behind given f = record { entries = reverse given ++ f.entries; refused = f.refused }

abbrev pub ends_with : Option Refusal → Formed
ends_with refused = record { entries = []; refused = refused }

-- a record before the rest
abbrev pub with_entry : Entry → Formed → Formed
with_entry e f = record { entries = e ∷ f.entries; refused = f.refused }

-- a front of the records decides what they hold
abbrev pub formed_front : ℕ → List ℕ → Front FormFault → Formed
formed_front offset bytes More = ends_with (end_of None bytes offset)
formed_front offset bytes (Bad fault) = ends_with (refusal_by (error_of fault))
formed_front offset bytes (Whole n) =
    with_entry (entry_in offset (take n bytes)).1 (formed_records (offset_after offset (take n bytes)) (drop n bytes))

formed_first : (offset : ℕ) (bytes : List ℕ) → formed_records offset bytes ≡ formed_front offset bytes (record_at offset bytes)
formed_first offset bytes =
    ap (λ (c : Cut ℕ (ℕ × Entry) FormFault). formed_cut c)
    (cut_first record_at entry_in offset_after framing offset bytes) ∙ go (record_at offset bytes)
  where
    go : (f : Front FormFault)
        → formed_cut (cut_by record_at entry_in offset_after offset bytes f (cut record_at entry_in offset_after))
        ≡ formed_front offset bytes f
    go More = refl
    go (Bad why) = refl
    go (Whole n) = refl

formed_so : (offset : ℕ) (bytes : List ℕ) (front : Front FormFault) → record_at offset bytes ≡ front
    → formed_records offset bytes ≡ formed_front offset bytes front
formed_so offset bytes front is = formed_first offset bytes ∙ ap (formed_front offset bytes) is

-- one more before the rest
behind_next : (e : Entry) (given : History) (f : Formed) → behind given (with_entry e f) ≡ behind (e ∷ given) f
behind_next e given f i = record { entries = entries i; refused = f.refused }
  where
    entries : reverse given ++ e ∷ f.entries ≡ reverse (e ∷ given) ++ f.entries
    entries = sym (append_assoc (reverse given) (e ∷ []) f.entries)
        ∙ ap (λ (g : List Entry). g ++ f.entries) (sym (reverse-append (e ∷ []) given))

-- the history of entries that were given, behind nothing
pub history_given : (given : History) (refused : Option Refusal) → history_of (behind given (ends_with refused)) ≡ given
history_given given refused = ap (λ (g : List Entry). reverse g) (append-nil (reverse given)) ∙ reverse-reverse given

-- the same before others
pub history_behind : (given : History) (f : Formed) → history_of (behind given f) ≡ reverse f.entries ++ given
history_behind given f = reverse-append (reverse given) f.entries ∙ ap (λ (g : List Entry). reverse f.entries ++ g) (reverse-reverse given)

-- ---- how far the capture was read
-- The entries given so far are the first of those of the capture, and what is ahead has the others.
pub record Came (all : List ℕ) (now : Reading) (left : Option (List ℕ)) (given : History) : Type 0 where
  pub is : formed all ≡ behind given (formed_ahead now.offset (ahead_of now left))
  pub coming : List ℕ
  pub told : left ≡ Some coming

-- How far the judge has come.
pub record JudgingOn (before : Option (List ℕ)) (now : Reading) (left : Option (List ℕ)) (entries : ℕ) (judge : Judging) : Type 0 where
  pub given : History
  pub judges : Judges judge given
  pub legal : IsLegal given
  pub count : entries ≡ length given
  pub few : entries ≤ now.offset
  pub sound : now.failed ≡ None
  pub came : (all : List ℕ) → before ≡ Some all → Came all now left given

pub judging_first : (before : Option (List ℕ)) (now : Reading) (judge : Judging)
    → now ≡ record { opened = false; offset = 8; held = []; failed = None }
    → Judges judge [] → JudgingOn before now before 0 judge
judging_first before now judge is judges = subst (λ (r : Reading). JudgingOn before r before 0 judge) (sym is) (record {
  given = [];
  judges = judges;
  legal = tt;
  count = refl;
  few = omega arith;
  sound = refl;
  came = λ all was. record {
    is = ap (λ (o : Option (List ℕ)). formed_ahead 8 (option_and_then (λ bytes. to_give false bytes) o)) (sym was);
    coming = all;
    told = was;
  };
})

-- ---- a record comes
-- what a call of the reader says of what is ahead
abbrev pub Gives : Reading → Option (List ℕ) → Result (Option (ℕ × Entry)) CaptureError → Reading → Option (List ℕ) → Type 0
Gives now left result new after = now.failed ≡ None → AnswersNext now left new after result

-- a front of what is ahead was told
told_ahead : (f : List ℕ → Option (List ℕ)) (o : Option (List ℕ)) (y : List ℕ) → option_and_then f o ≡ Some y
    → (x : List ℕ) × (o ≡ Some x) × (f x ≡ Some y)
told_ahead f None y e = absurd (let apart : None ≡ Some y = e in cc)
told_ahead f (Some x) y e = (x, refl, e)

-- what is ahead, and what is given of it, by whether the magic is there
module _ (all : List ℕ) (now : Reading) (left : Option (List ℕ)) (given : History) (new : Reading) (after : Option (List ℕ)) where
  pub came_next : (offset : ℕ) (e : Entry) → AnswersNext now left new after (Ok (Some (offset, e))) → Came all now left given
      → Came all new after (e ∷ given)
  came_next offset e answers c = go (ahead_of now left) refl
    where
      go : (o : Option (List ℕ)) → ahead_of now left ≡ o → Came all new after (e ∷ given)
      go None is = absurd (answers.magic c.coming c.told (ap (λ (l : Option (List ℕ)). ahead_of now l) (sym c.told) ∙ is))
      go (Some bytes) is = record {
        is = c.is ∙ (ap (λ (o : Option (List ℕ)). behind given (formed_ahead now.offset o)) is
            ∙ (ap (behind given) first ∙ (behind_next e given (formed_records new.offset (drop g.size bytes))
            ∙ ap (λ (o : Option (List ℕ)). behind (e ∷ given) (formed_ahead new.offset o)) (sym g.rest))));
        coming = (told_ahead (ahead new) after (drop g.size bytes) g.rest).0;
        told = (told_ahead (ahead new) after (drop g.size bytes) g.rest).1;
      }
        where
          g : GivesRecord now.offset bytes (offset, e) new.offset (ahead_of new after)
          g = answers.records bytes is

          first : formed_records now.offset bytes ≡ with_entry e (formed_records new.offset (drop g.size bytes))
          first = formed_so now.offset bytes (Whole g.size) g.whole
              ∙ (ap (λ (p : ℕ × Entry). with_entry p.1
              (formed_records (offset_after now.offset (take g.size bytes)) (drop g.size bytes))) (sym g.is)
              ∙ ap (λ n. with_entry e (formed_records n (drop g.size bytes))) (sym g.next_offset_is))

  -- the end of the source
  pub came_over : AnswersNext now left new after (Ok None) → Came all now left given
      → (formed all ≡ behind given (ends_with None)) × (ahead_of new after ≡ Some [])
  came_over answers c = go (ahead_of now left) refl
    where
      go : (o : Option (List ℕ)) → ahead_of now left ≡ o → (formed all ≡ behind given (ends_with None)) × (ahead_of new after ≡ Some [])
      go None is = absurd (answers.magic c.coming c.told (ap (λ (l : Option (List ℕ)). ahead_of now l) (sym c.told) ∙ is))
      go (Some bytes) is =
          let g = answers.records bytes is in (
            c.is ∙ (ap (λ (o : Option (List ℕ)). behind given (formed_ahead now.offset o)) is
                ∙ (ap (λ b. behind given (formed_records now.offset b)) g.0
                ∙ ap (behind given) (formed_so now.offset [] More (framing.empty now.offset)))),
            g.1,
          )

  -- a refusal by form
  truncated_so : (bytes : List ℕ) → bytes ≢ [] → record_at now.offset bytes ≡ More
      → formed_records now.offset bytes ≡ ends_with (refusal_by (capture.Truncated now.offset))
  truncated_so [] some is = absurd (some refl)
  truncated_so (b ∷ bytes) some is = formed_so now.offset (b ∷ bytes) More is

  refused_so : (bytes : List ℕ) (why : CaptureError) → refusal_by why ≢ None → IsRefused now.offset bytes why
      → formed_records now.offset bytes ≡ ends_with (refusal_by why)
  refused_so bytes capture.BadMagic some is = absurd is
  refused_so bytes (capture.BadRecord at why) some is = formed_so now.offset bytes (Bad (form.BadRecord at why)) is
  refused_so bytes (capture.Truncated at) some is =
      truncated_so bytes is.0 is.1 ∙ ap (λ n. ends_with (refusal_by (capture.Truncated n))) (sym is.2)
  refused_so bytes (capture.TooLong at) some is = formed_so now.offset bytes (Bad (form.TooLong at)) is
  refused_so bytes capture.ReadFault some is = absurd (some refl)
  refused_so bytes capture.OutOfMemory some is = absurd (some refl)

  no_magic : (why : CaptureError) → refusal_by why ≢ None → IsMagicRefused (Err why)
      → ends_with (refusal_by capture.BadMagic) ≡ ends_with (refusal_by why)
  no_magic capture.BadMagic some is = refl
  no_magic (capture.BadRecord at why) some is = absurd is
  no_magic (capture.Truncated at) some is = absurd is
  no_magic (capture.TooLong at) some is = absurd is
  no_magic capture.ReadFault some is = absurd (some refl)
  no_magic capture.OutOfMemory some is = absurd (some refl)

  pub came_refused : (why : CaptureError) → refusal_by why ≢ None → AnswersNext now left new after (Err why) → Came all now left given
      → formed all ≡ behind given (ends_with (refusal_by why))
  came_refused why some answers c = go (ahead_of now left) refl
    where
      go : (o : Option (List ℕ)) → ahead_of now left ≡ o → formed all ≡ behind given (ends_with (refusal_by why))
      go None is = c.is ∙ (ap (λ (o : Option (List ℕ)). behind given (formed_ahead now.offset o)) is ∙ ap (behind given)
          (no_magic why some (answers.magic c.coming c.told (ap (λ (l : Option (List ℕ)). ahead_of now l) (sym c.told) ∙ is))))
      go (Some bytes) is = c.is ∙ (ap (λ (o : Option (List ℕ)). behind given (formed_ahead now.offset o)) is ∙ ap (behind given)
          (refused_so bytes why some (answers.records bytes is)))

-- ---- what it comes to
-- an entry that was given, and what the judge said of it
pub record Turn : Type 0 where
  pub now : Reading
  pub left : Option (List ℕ)
  pub new : Reading
  pub after : Option (List ℕ)
  pub offset : ℕ
  pub entry : Entry
  pub given : Gives now left (Ok (Some (offset, entry))) new after

-- A legal entry more was judged.
pub judging_on : {before : Option (List ℕ)} (t : Turn) (entries : ℕ) (judge new : Judging)
    → (j : JudgingOn before t.now t.left entries judge)
    → Says Legal (t.entry ∷ j.given) → Judges new (t.entry ∷ j.given) → t.new.failed ≡ None
    → JudgingOn before t.new t.after (entries + 1) new
judging_on t entries judge new j legal judges sound = record {
  given = t.entry ∷ j.given;
  judges = judges;
  legal = legal;
  count = ap (λ n. n + 1) j.count ∙ omega arith;
  few = omega (arith, j.few, (t.given j.sound).moves.on);
  sound = sound;
  came = λ all was. came_next all t.now t.left j.given t.new t.after t.offset t.entry (t.given j.sound) (j.came all was);
}

-- An entry was found that may not come.
pub judging_broken : {before : Option (List ℕ)} (t : Turn) (entries : ℕ) (judge : Judging) (rule : Rule)
    → (j : JudgingOn before t.now t.left entries judge)
    → Says (Illegal rule) (t.entry ∷ j.given) → (all : List ℕ) → before ≡ Some all → (last : Option (List ℕ))
    → JudgesCapture (Ok (judgement.Illegal (entries + 1) rule)) (formed all) last
judging_broken {before} t entries judge rule j says all was last =
    subst (λ (h : History). IsFirstBad h (record { place = entries + 1; rule = rule })) (sym whole) (record {
      later = reverse rest.entries ++ bad.later;
      entry = bad.entry;
      earlier = bad.earlier;
      is = ap (λ (h : History). reverse rest.entries ++ h) bad.is
          ∙ sym (append_assoc (reverse rest.entries) bad.later (bad.entry ∷ bad.earlier));
      legal = bad.legal;
      illegal = bad.illegal;
      at = place ∙ bad.at;
      breaks = bad.breaks;
    })
  where
    c : Came all t.new t.after (t.entry ∷ j.given)
    c = came_next all t.now t.left j.given t.new t.after t.offset t.entry (t.given j.sound) (j.came all was)

    rest : Formed
    rest = formed_ahead t.new.offset (ahead_of t.new t.after)

    whole : history_of (formed all) ≡ reverse rest.entries ++ t.entry ∷ j.given
    whole = ap history_of c.is ∙ history_behind (t.entry ∷ j.given) rest

    bad : IsFirstBad (t.entry ∷ j.given) (record { place = says.0; rule = rule })
    bad = says.1

    place : entries + 1 ≡ says.0
    place = ap (λ n. n + 1) j.count ∙ sym (place_next t.entry j.given (record { place = says.0; rule = rule }) j.legal bad)

-- nothing is left of a source of whose capture nothing is ahead
none_held : (held coming : List ℕ) → held ++ coming ≡ [] → coming ≡ []
none_held [] coming e = e
none_held (b ∷ held) coming e = absurd (let apart : b ∷ (held ++ coming) ≡ [] = e in cc)

left_none : (new : Reading) (after : Option (List ℕ)) → new.opened ≡ true → ahead_of new after ≡ Some [] → after ≡ Some []
left_none new after opened e =
    let s = told_ahead (ahead new) after [] e in
    let f : Some (new.held ++ s.0) ≡ Some [] = ap (λ b. to_give b (new.held ++ s.0)) (sym opened) ∙ s.2 in
    let none : new.held ++ s.0 ≡ [] = cc in
    s.1 ∙ ap Some (none_held new.held s.0 none)

-- The source was read to its end.
pub judging_over : {before : Option (List ℕ)} {now : Reading} {left : Option (List ℕ)} {entries : ℕ} {judge : Judging}
    (new : Reading) (after : Option (List ℕ))
    → Gives now left (Ok None) new after → new.opened ≡ true → JudgingOn before now left entries judge → (all : List ℕ) → before ≡ Some all
    → JudgesCapture (Ok (judgement.Legal entries)) (formed all) after
judging_over {now = now} {left = left} {entries = entries} new after gives opened j all was =
    let over = came_over all now left j.given new after (gives j.sound) (j.came all was) in (
      ap (λ (f : Formed). f.refused) over.0,
      subst IsLegal (sym (ap history_of over.0 ∙ history_given j.given None)) j.legal,
      j.count ∙ (sym (length_given j.given) ∙ ap (λ (f : Formed). length f.entries) (sym over.0)),
      left_none new after opened over.1,
    )
  where
    length_given : (given : History) → length (reverse given ++ []) ≡ length given
    length_given given = ap length (append-nil (reverse given)) ∙ length-reverse given

-- The reader stopped.
pub judging_stopped : {before : Option (List ℕ)} {now : Reading} {left : Option (List ℕ)} {entries : ℕ} {judge : Judging}
    (new : Reading) (after : Option (List ℕ))
    (why : CaptureError) → Gives now left (Err why) new after → JudgingOn before now left entries judge → (all : List ℕ) → before ≡ Some all
    → (last : Option (List ℕ)) → JudgesCapture (Err why) (formed all) last
judging_stopped {now = now} {left = left} new after why gives j all was last = go (refusal_by why) refl
  where
    go : (o : Option Refusal) → refusal_by why ≡ o → IsRefusedAs (refusal_by why) (formed all)
    go None is = subst (λ (o : Option Refusal). IsRefusedAs o (formed all)) (sym is) tt
    go (Some refusal) is = subst (λ (o : Option Refusal). IsRefusedAs o (formed all)) (sym is) (
      ap (λ (f : Formed). f.refused) formed_is ∙ is,
      subst IsLegal (sym (ap history_of formed_is ∙ history_given j.given (refusal_by why))) j.legal,
    )
      where
        some : refusal_by why ≢ None
        some e = let apart : Some refusal ≡ None = sym is ∙ e in cc

        formed_is : formed all ≡ behind j.given (ends_with (refusal_by why))
        formed_is = came_refused all now left j.given new after why some (gives j.sound) (j.came all was)
