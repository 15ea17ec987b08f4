-- What was read of a client while its stream lived, and streams that were asked for.
use Rattle.std.specs.Prelude.{ℕ, ◌+◌, ◌≡◌, ◌≢◌, ◌≤◌, ◌&&◌, Bool, true, false, cond, is_some, nat_eq, nat_lt, zero, suc, All, Contains}
use Rattle.std.specs.Prelude.{List, [], ◌∷◌, ◌++◌, length, Option, Some, None}
use Rattle.std.proofs.Common.{refl, sym, ◌∙◌, ap, subst, arith}
use Rattle.std.proofs.lemmas.Bool.{eq-eqb}
use Rattle.std.proofs.lemmas.List.{length-append}
use Rattle.std.proofs.lemmas.List.Elements.{All-nil, All-cons, All-contains, Contains-append_left, Contains-append_right}
use Rattle.adb_wire.specs.declared.packets.Packet.{Packet}
use Rattle.adb_capture.specs.declared.entry.Entry.{Entry}
use Rattle.adb_capture.specs.declared.entry.Entry.TheVariants.{Read}
use Rattle.adb_history.specs.Births.{Birth, born, count_from, is_open}
use Rattle.adb_history.specs.Bytes.{bytes_read}
use Rattle.adb_history.specs.Events.{ending_in, packets_to}
use Rattle.adb_history.specs.declared.ending.Ending.{Ending}
use Rattle.adb_history.specs.Links.{open_packet}
use Rattle.adb_history.specs.Lives.{ending_of, lived, packets_of}
use Rattle.adb_history.specs.Machine.{History, told, told_at}
use Rattle.adb_history.specs.Opened.{AsksAtOnce}
use Rattle.adb_history.specs.Streams.{stream_ids}
use Rattle.adb_laws_births.proofs.Once.{packets_append}
use Rattle.adb_laws_causes.proofs.Newborn.{born_stays}

-- ---- what is read grows
pub read_more : (d : ℕ) (e : Entry) (older : History) → length (bytes_read d older) ≤ length (bytes_read d (e ∷ older))
read_more d (Read n bytes) older = go (nat_eq n d)
  where
    go : (b : Bool) → length (bytes_read d older) ≤ length (cond b (bytes_read d older ++ bytes) (bytes_read d older))
    go true = let both = length-append (bytes_read d older) bytes in omega (arith, both)
    go false = omega arith
read_more d _ older = omega arith

-- while a stream lived no more was read than at all
pub lived_read : (l d : ℕ) (h : History) → length (bytes_read d (lived l h)) ≤ length (bytes_read d h)
lived_read l d [] = omega arith
lived_read l d (e ∷ older) = go (is_some (ending_of l older)) (is_some (ending_in l (told_at e older)))
    (lived_read l d older) (read_more d e older)
  where
    go : (a b : Bool) → length (bytes_read d (lived l older)) ≤ length (bytes_read d older)
        → length (bytes_read d older) ≤ length (bytes_read d (e ∷ older))
        → length (bytes_read d (cond a (lived l older) (cond b older (e ∷ older)))) ≤ length (bytes_read d (e ∷ older))
    go true b before more = omega (arith, before, more)
    go false true before more = more
    go false false before more = omega arith

-- a stream that has ended has lived
pub ended_lived : (l : ℕ) (more h : History)
    → ((e : Entry) (older : History) (x : Ending) → ending_of l older ≡ Some x → ending_of l (e ∷ older) ≡ Some x)
    → (x : Ending) → ending_of l h ≡ Some x → (ending_of l (more ++ h) ≡ Some x) × (lived l (more ++ h) ≡ lived l h)
ended_lived l [] h stays x is = (is, refl)
ended_lived l (e ∷ more) h stays x is =
    let before = ended_lived l more h stays x is in
    let ends : is_some (ending_of l (more ++ h)) ≡ true = ap is_some before.0 in (
      stays e (more ++ h) x before.0,
      ap (λ (b : Bool). cond b (lived l (more ++ h))
          (cond (is_some (ending_in l (told_at e (more ++ h)))) (more ++ h) (e ∷ (more ++ h)))) ends
          ∙ before.1,
    )

-- ---- streams that were asked for
was_due : (h : History) → AsksAtOnce h → (l : ℕ) (b : Birth) → born l h ≡ Some b
    → Contains (packets_of b.link h) (open_packet b.credit l b.service)
was_due [] asks zero b is = absurd (let clash : None ≡ Some b = is in cc)
was_due [] asks (suc k) b is = absurd (none (nat_lt k stream_ids) is)
  where
    none : (t : Bool) → cond t None None ≡ Some b → ⊥
    none true e = let clash : None ≡ Some b = e in cc
    none false e = let clash : None ≡ Some b = e in cc
was_due (e ∷ older) asks l b is =
    subst (λ (ps : List Packet). Contains ps (open_packet b.credit l b.service))
    (sym (packets_append b.link (told older) (told_at e older)))
    (go (born l older) refl (λ a was. was_due older asks.0 l a was))
  where
    go : (o : Option Birth) → born l older ≡ o
        → ((a : Birth) → born l older ≡ Some a → Contains (packets_of a.link older) (open_packet a.credit l a.service))
        → Contains (packets_of b.link older ++ packets_to b.link (told_at e older)) (open_packet b.credit l b.service)
    go None none before =
        Contains-append_right (packets_of b.link older) (packets_to b.link (told_at e older))
        (open_packet b.credit l b.service) (asks.1 l b none is)
    go (Some a) was before =
        let both : Some a ≡ Some b = sym (born_stays l e older a was) ∙ is in
        let same : a ≡ b = cc in
        Contains-append_left (packets_of b.link older) (packets_to b.link (told_at e older)) (open_packet b.credit l b.service)
        (before b (was ∙ ap Some same))

none_asked : (l : ℕ) (ps : List Packet) → count_from is_open l ps ≡ 0 → All (λ p. is_open p.command ≡ true → p.arg0 ≢ l) ps
none_asked l [] none = All-nil (λ p. is_open p.command ≡ true → p.arg0 ≢ l)
none_asked l (p ∷ ps) none = go (is_open p.command) refl (nat_eq p.arg0 l) refl none (none_asked l ps)
  where
    go : (a : Bool) → is_open p.command ≡ a → (b : Bool) → nat_eq p.arg0 l ≡ b
        → cond (a && b) (1 + count_from is_open l ps) (count_from is_open l ps) ≡ 0
        → (count_from is_open l ps ≡ 0 → All (λ q. is_open q.command ≡ true → q.arg0 ≢ l) ps)
        → All (λ q. is_open q.command ≡ true → q.arg0 ≢ l) (p ∷ ps)
    go true e true f n later = absurd (omega (arith, n))
    go true e false f n later =
        All-cons (λ q. is_open q.command ≡ true → q.arg0 ≢ l) p ps
        (λ opens same. let clash : false ≡ true = sym f ∙ eq_test p.arg0 same in cc) (later n)
      where
        eq_test : (m : ℕ) → m ≡ l → nat_eq m l ≡ true
        eq_test m same = eq-eqb m l same
    go false e b f n later =
        All-cons (λ q. is_open q.command ≡ true → q.arg0 ≢ l) p ps
        (λ opens. absurd (let clash : false ≡ true = sym e ∙ opens in cc)) (later n)

-- a stream that was born was asked for
pub was_asked : (h : History) → AsksAtOnce h → (l : ℕ) (b : Birth) → born l h ≡ Some b → 1 ≤ count_from is_open l (packets_of b.link h)
was_asked h asks l b is = go (count_from is_open l (packets_of b.link h)) refl
  where
    go : (n : ℕ) → count_from is_open l (packets_of b.link h) ≡ n → 1 ≤ count_from is_open l (packets_of b.link h)
    go zero none =
        absurd (All-contains (λ p. is_open p.command ≡ true → p.arg0 ≢ l) (packets_of b.link h) (open_packet b.credit l b.service)
        (none_asked l (packets_of b.link h) none) (was_due h asks l b is) refl refl)
    go (suc n) is_some_count = omega (arith, is_some_count)
