-- An answer that ended stays so, whatever follows.
use Rattle.std.proofs.Common.{ℕ, ◌≡◌, ◌≢◌, List, [], ◌∷◌, ◌++◌, false, Option, Some, None, sym, refl, ◌∙◌}
use Rattle.adb_sync.specs.declared.answer.SyncAnswer.{SyncAnswer}
use Rattle.adb_sync_client.specs.declared.kind.AnswerKind.{AnswerKind}
use Rattle.adb_sync_client.specs.declared.step.Step.TheVariants.{More}
use Rattle.adb_sync_client.specs.declared.told.Next.{Next}
use Rattle.adb_sync_client.specs.declared.told.Next.TheVariants.{GoesOn, Done, Refused}
use Rattle.adb_sync_client.specs.Expected.{expected_start}
use Rattle.adb_sync_client.specs.Values.{Said, told_nothing, told_by, next_of, ended_or, meant, answer_value}
use Rattle.adb_sync_client.specs.Reading.{Read, with_more, meaning, meaning_with}
use Rattle.adb_sync_client.proofs.Readings.{Held, more_on}

-- answers behind those that ended change nothing
ended_stays : (said : Said) (given further : List SyncAnswer) (fault : Option ℕ) → meant said given None ≢ More
    → meant said (given ++ further) fault ≡ meant said given None
ended_stays said [] further fault some = absurd (some refl)
ended_stays said (answer ∷ given) further fault some = go (next_of answer) some (ended_stays (told_by said answer) given further fault)
  where
    go : (next : Next) → ended_or next (told_by said answer) (meant (told_by said answer) given None) ≢ More
        → (meant (told_by said answer) given None ≢ More → meant (told_by said answer) (given ++ further) fault
        ≡ meant (told_by said answer) given None)
        → ended_or next (told_by said answer) (meant (told_by said answer) (given ++ further) fault)
        ≡ ended_or next (told_by said answer) (meant (told_by said answer) given None)
    go GoesOn some others = others some
    go Done some others = refl
    go (Refused text) some others = refl

-- the same of what is held
held_stays : (r : Read) (more : List ℕ) → meaning r ≢ More → meaning_with r more ≡ meaning r
held_stays r more = go r.next r.cut.fault
  where
    go : (next : Next) (fault : Option ℕ)
        → let now : Read = record r { cut = record r.cut { fault = fault }; next = next } in meaning now ≢ More
        → meaning_with now more ≡ meaning now
    go Done fault some = refl
    go (Refused text) fault some = refl
    go GoesOn (Some fault) some = refl
    go GoesOn None some = ended_stays r.said r.cut.given _ _ some

pub value_stays : (kind : AnswerKind) (bytes more : List ℕ) → answer_value kind bytes ≢ More
    → answer_value kind (bytes ++ more) ≡ answer_value kind bytes
value_stays kind bytes more some =
    let nothing : Held = record { given = []; reading = expected_start kind; rest = []; fault = None } in
    let start : Read = record { cut = nothing; said = told_nothing; next = GoesOn; spent = false } in
    let r = with_more start bytes in
    sym (more_on start bytes more) ∙ held_stays r more some
