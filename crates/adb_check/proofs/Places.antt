-- The first entry of a history that may not come: what a judge says of it, and that there is one.
use Rattle.std.proofs.Common.{◌+◌, ◌≡◌, ◌⊎◌, inl, inr, [], ◌∷◌, ◌++◌, length, Option, Some, None, refl, sym, ◌∙◌, ap, subst}
use Rattle.adb_capture.specs.declared.entry.Entry.{Entry}
use Rattle.adb_history.specs.Machine.{History, IsLegal, state}
use Rattle.adb_history.specs.Kept.{Kept}
use Rattle.adb_history.specs.Rows.{State}
use Rattle.adb_history.proofs.OrderlyStates.{orderly}
use Rattle.adb_check.specs.declared.verdict.Rule.{Rule}
use Rattle.adb_check.specs.declared.verdict.Rule.TheVariants.{AfterKill, NotDrawn, TooManyDevices, BadSerial, NotDue}
use Rattle.adb_check.specs.declared.verdict.Verdict.TheVariants.{Illegal}
use Rattle.adb_check.specs.Rules.{BreaksFirst}
use Rattle.adb_check.specs.FirstBad.{Bad, IsFirstBad}
use Rattle.adb_check.specs.Judging.{Judging, IsBroken, Judges, JudgesBy, Says, Takes, verdict_of}
use Rattle.adb_check.proofs.Breaking.{may_not}

-- ---- what a judge says
-- What is broken stays so.
broken_on : (e : Entry) (h : History) (rule : Rule) → IsBroken h rule → IsBroken (e ∷ h) rule
broken_on e h rule b =
    let bad = b.1 in (
      b.0,
      record {
        later = e ∷ bad.later;
        entry = bad.entry;
        earlier = bad.earlier;
        is = ap (λ (g : History). e ∷ g) bad.is;
        legal = bad.legal;
        illegal = bad.illegal;
        at = bad.at;
        breaks = bad.breaks;
      },
    )

-- A judge that found one says the same again.
pub says_again : (e : Entry) (h : History) (holds : Kept) (broken : Option Rule) (judge : Judging) (rule : Rule)
    → record { holds = holds; broken = broken } ≡ judge → broken ≡ Some rule → Judges judge h
    → Says (Illegal rule) (e ∷ h) × Judges judge (e ∷ h)
says_again e h holds broken judge rule view is was = (on, again)
  where
    on : IsBroken (e ∷ h) rule
    on = broken_on e h rule (subst (λ (o : Option Rule). JudgesBy o holds h) is (subst (λ (j : Judging). Judges j h) (sym view) was))

    again : Judges judge (e ∷ h)
    again = subst (λ (j : Judging). Judges j (e ∷ h)) view (subst (λ (o : Option Rule). JudgesBy o holds (e ∷ h)) (sym is) on)

-- The next entry breaks a rule.
broken_here : (e : Entry) (h : History) (rule : Rule) → IsLegal h → BreaksFirst rule (state h) e → IsBroken (e ∷ h) rule
broken_here e h rule legal first = (
  length h + 1,
  record {
    later = [];
    entry = e;
    earlier = h;
    is = refl;
    legal = legal;
    illegal = λ all. may_not (state h) (orderly h legal) rule e first.breaks all.2;
    at = refl;
    breaks = first;
  },
)

-- What is said behind an entry, and what a judge then holds.
pub judged : (e : Entry) (h : History) (new : Kept) (broken : Option Rule) → IsLegal h → Takes broken e h new
    → Says (verdict_of broken) (e ∷ h) × JudgesBy broken new (e ∷ h)
judged e h new None legal taken = (taken.legal, taken)
judged e h new (Some rule) legal taken = (broken_here e h rule legal taken, broken_here e h rule legal taken)

-- ---- there is one
older_legal : (newer older : History) → IsLegal (newer ++ older) → IsLegal older
older_legal [] older legal = legal
older_legal (e ∷ newer) older legal = older_legal newer older legal.0

pub no_legal : (h : History) (bad : Bad) → IsFirstBad h bad → ¬ IsLegal h
no_legal h bad b legal = b.illegal (older_legal b.later (b.entry ∷ b.earlier) (subst IsLegal b.is legal))

-- behind a legal history it is the next entry
pub place_next : (e : Entry) (h : History) (bad : Bad) → IsLegal h → IsFirstBad (e ∷ h) bad → bad.place ≡ length h + 1
place_next e h bad legal b = go b.later b.is
  where
    go : (later : History) → e ∷ h ≡ later ++ b.entry ∷ b.earlier → bad.place ≡ length h + 1
    go [] is = let same : h ≡ b.earlier = cc in b.at ∙ ap (λ (g : History). length g + 1) (sym same)
    go (x ∷ later) is =
        let same : h ≡ later ++ b.entry ∷ b.earlier = cc in
        absurd (b.illegal (older_legal later (b.entry ∷ b.earlier) (subst IsLegal same legal)))

-- of two ends of a list, one behind the other, one is the other or lies within it
abbrev pub EndsWithin : (first other : Entry) (older rest : History) → Type 0
EndsWithin first other older rest =
    ((first ≡ other) × (older ≡ rest)) ⊎ ((newer : History) × (older ≡ newer ++ other ∷ rest))
    ⊎ ((newer : History) × (rest ≡ newer ++ first ∷ older))

ends_within : (later more : History) (first other : Entry) (older rest : History) → later ++ first ∷ older ≡ more ++ other ∷ rest
    → EndsWithin first other older rest
ends_within [] [] first other older rest e = inl (cc, cc)
ends_within [] (x ∷ more) first other older rest e = let same : older ≡ more ++ other ∷ rest = cc in inr (inl (more, same))
ends_within (x ∷ later) [] first other older rest e = let same : later ++ first ∷ older ≡ rest = cc in inr (inr (later, sym same))
ends_within (x ∷ later) (y ∷ more) first other older rest e =
    let same : later ++ first ∷ older ≡ more ++ other ∷ rest = cc in ends_within later more first other older rest same

-- the first rule that is broken is one
one_rule : (s : State) (e : Entry) (rule other : Rule) → BreaksFirst rule s e → BreaksFirst other s e → rule ≡ other
one_rule s e AfterKill AfterKill a b = refl
one_rule s e AfterKill NotDrawn a b = absurd (b.before a.breaks)
one_rule s e AfterKill TooManyDevices a b = absurd (b.before.0 a.breaks)
one_rule s e AfterKill BadSerial a b = absurd (b.before.0 a.breaks)
one_rule s e AfterKill NotDue a b = absurd (b.before.0 a.breaks)
one_rule s e NotDrawn AfterKill a b = absurd (a.before b.breaks)
one_rule s e NotDrawn NotDrawn a b = refl
one_rule s e NotDrawn TooManyDevices a b = absurd (b.before.1 a.breaks)
one_rule s e NotDrawn BadSerial a b = absurd (b.before.1 a.breaks)
one_rule s e NotDrawn NotDue a b = absurd (b.before.1 a.breaks)
one_rule s e TooManyDevices AfterKill a b = absurd (a.before.0 b.breaks)
one_rule s e TooManyDevices NotDrawn a b = absurd (a.before.1 b.breaks)
one_rule s e TooManyDevices TooManyDevices a b = refl
one_rule s e TooManyDevices BadSerial a b = absurd (b.before.2 a.breaks)
one_rule s e TooManyDevices NotDue a b = absurd (b.before.2 a.breaks)
one_rule s e BadSerial AfterKill a b = absurd (a.before.0 b.breaks)
one_rule s e BadSerial NotDrawn a b = absurd (a.before.1 b.breaks)
one_rule s e BadSerial TooManyDevices a b = absurd (a.before.2 b.breaks)
one_rule s e BadSerial BadSerial a b = refl
one_rule s e BadSerial NotDue a b = absurd (b.before.3 a.breaks)
one_rule s e NotDue AfterKill a b = absurd (a.before.0 b.breaks)
one_rule s e NotDue NotDrawn a b = absurd (a.before.1 b.breaks)
one_rule s e NotDue TooManyDevices a b = absurd (a.before.2 b.breaks)
one_rule s e NotDue BadSerial a b = absurd (a.before.3 b.breaks)
one_rule s e NotDue NotDue a b = refl

pub one_bad : (h : History) (bad other : Bad) → IsFirstBad h bad → IsFirstBad h other → bad ≡ other
one_bad h bad other a b = go (ends_within a.later b.later a.entry b.entry a.earlier b.earlier (sym a.is ∙ b.is))
  where
    go : EndsWithin a.entry b.entry a.earlier b.earlier → bad ≡ other
    go (inl same) =
        let place : bad.place ≡ other.place = a.at ∙ (ap (λ (g : History). length g + 1) same.1 ∙ sym b.at) in
        let first = subst (λ (e : Entry). BreaksFirst bad.rule (state b.earlier) e) same.0
        (subst (λ (g : History). BreaksFirst bad.rule (state g) a.entry) same.1 a.breaks) in
        let rule : bad.rule ≡ other.rule = one_rule (state b.earlier) b.entry bad.rule other.rule first b.breaks in
        λ i. record { place = place i; rule = rule i }
    go (inr (inl within)) = absurd (b.illegal (older_legal within.0 (b.entry ∷ b.earlier) (subst IsLegal within.1 a.legal)))
    go (inr (inr within)) = absurd (a.illegal (older_legal within.0 (a.entry ∷ a.earlier) (subst IsLegal within.1 b.legal)))
