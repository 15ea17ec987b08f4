-- What stands of a load after each turn: how many clients and devices came, who asked, and that no kill stands; so each entry may come.
use Rattle.std.proofs.Common.{ℕ, ◌+◌, ◌≡◌, ◌<◌, ◌≤◌, Bool, true, false, cond, List, [], ◌∷◌, refl, ◌∙◌, ap, arith, eqb}
use Rattle.std.specs.Prelude.{Option, Some, None, not, ◌&&◌, ◌||◌, is_none}
use Rattle.std.proofs.lemmas.Bool.{ne_eqb}
use Rattle.adb_outside.specs.Tables.{Rows}
use Rattle.adb_outside.specs.declared.kinds.Kind.{Kind}
use Rattle.adb_outside.specs.declared.kinds.Cause.{Cause}
use Rattle.adb_registry.specs.Registry.{DeviceTable}
use Rattle.adb_reply.specs.declared.answer.Next.{Next}
use Rattle.adb_capture.specs.declared.entry.Entry.TheVariants.{Join, Read, End, Attach, Recv}
use Rattle.adb_history.specs.Asking.{Asked, nothing_asked, asks_with}
use Rattle.adb_history.specs.Machine.{History}
use Rattle.adb_history.specs.Bytes.{has_joined, has_ended}
use Rattle.adb_history.specs.Book.{Book, book, asked, devices_if, devices, forwards, is_killed, plugged_count}
use Rattle.adb_history.specs.Book.{asked_with, still_asks, kills, newly, read_turn, is_asking}
use Rattle.adb_history.specs.Tied.{came_count}
use Rattle.adb_load.specs.Acts.{asked_of, client_of}
use Rattle.adb_laws_loads.proofs.Asking.{IsQuiet, asked_quiet}

-- ---- rows under numbers
eqb_self : (n : ℕ) → eqb n n ≡ true
eqb_self n = grind arith

-- putting the row that stands there changes no row
pub same_row : {A : Type 0} (rows : Rows A) (c k : ℕ) → cond (eqb c k) (rows c) (rows k) ≡ rows k
same_row {A} rows c k = go (eqb c k) refl
  where
    go : (b : Bool) → eqb c k ≡ b → cond b (rows c) (rows k) ≡ rows k
    go true is = ap rows (grind (arith, is))
    go false is = refl

off : (a : Bool) → (a && false) ≡ false
off true = refl
off false = refl

or_off : (a b : Bool) → a ≡ false → b ≡ false → (a || b) ≡ false
or_off true b first second = absurd (let clash : true ≡ false = first in cc)
or_off false b first second = second

-- a client that comes changes no device
devices_joined : (killed : Bool) (c : ℕ) (g : History) → devices_if killed (Join c ∷ g) ≡ devices_if killed g
devices_joined true c g = refl
devices_joined false c g = refl

-- ---- what stands
-- So many clients came and so many devices were plugged in, and no kill stands. Who is still to come asked nothing,
-- and who came asks no more.
pub record Stands (begun plugged : ℕ) (g : History) : Type 0 where
  pub killed : is_killed g ≡ false
  pub came : came_count g ≡ begun
  pub links : plugged_count g ≡ plugged
  pub fresh : (c : ℕ) → begun < c → asked c g ≡ nothing_asked
  pub open_ended : (c : ℕ) → begun < c → has_ended c g ≡ false
  pub over : (c : ℕ) → 0 < c → c ≤ begun → is_none (asked c g).next ≡ false

pub at_first : Stands 0 0 []
at_first = record {
  killed = refl;
  came = refl;
  links = refl;
  fresh = λ c past. refl;
  open_ended = λ c past. refl;
  over = λ c some few. absurd (omega (arith, some, few));
}

module _ (begun plugged : ℕ) (g : History) (at : Stands begun plugged g) where
  pub received : (t : ℕ) (bytes : List ℕ) → Stands begun plugged (Recv t bytes ∷ g)
  received t bytes =
      record {
        killed = at.killed;
        came = at.came;
        links = at.links;
        fresh = at.fresh;
        open_ended =
            at.open_ended;
        over = at.over;
      }

  pub attached : (t : ℕ) (kind : Kind) (serial : List ℕ) → Stands begun (plugged + 1) (Attach t kind serial ∷ g)
  attached t kind serial = record {
    killed = at.killed;
    came = at.came;
    links = ap (λ n. n + 1) at.links;
    fresh = at.fresh;
    open_ended = at.open_ended;
    over = at.over;
  }

  pub ended : (c : ℕ) (cause : Cause) → c ≤ begun → Stands begun plugged (End c cause ∷ g)
  ended c cause few = record {
    killed = at.killed;
    came = at.came;
    links = at.links;
    fresh = at.fresh;
    open_ended = λ k past. ap (λ (b : Bool). b || has_ended k g) (ne_eqb c k (λ e. omega (arith, e, few, past))) ∙ at.open_ended k past;
    over = at.over;
  }

  -- ---- a read of a client that asks no more
  pub no_more : (c : ℕ) (bytes : List ℕ) → is_none (asked c g).next ≡ false
      → book (Read c bytes ∷ g) ≡ read_turn c (devices g) (asked c g) None (book g)
  no_more c bytes over =
      ap (λ (q : Asked). read_turn c (devices g) q (newly (asked c g).next q.next) (book g)) same
      ∙ ap (λ next. read_turn c (devices g) (asked c g) next (book g)) (newly_over (asked c g).next over (asked c g).next)
    where
      newly_over : (before : Option Next) → is_none before ≡ false → (after : Option Next) → newly before after ≡ None
      newly_over None over after = absurd (let clash : true ≡ false = over in cc)
      newly_over (Some next) over after = refl

      asking : has_joined c g && not (has_ended c g) && still_asks (asked c g) ≡ false
      asking = ap (λ b. has_joined c g && not (has_ended c g) && b) over ∙ off (has_joined c g && not (has_ended c g))

      same : asked_with (has_joined c g && not (has_ended c g) && still_asks (asked c g)) (devices g) (forwards g)
          bytes (asked c g) ≡ asked c g
      same = ap (λ b. asked_with b (devices g) (forwards g) bytes (asked c g)) asking

  pub written : (c : ℕ) (bytes : List ℕ) → 0 < c → c ≤ begun → Stands begun plugged (Read c bytes ∷ g)
  written c bytes some few = record {
    killed = ap (λ (b : Book). b.killed) is ∙ or_off (is_killed g) false at.killed refl;
    came = at.came;
    links = at.links;
    fresh = λ k past. as_before k ∙ at.fresh k past;
    open_ended = at.open_ended;
    over = λ k some few. ap (λ (q : Asked). is_none q.next) (as_before k) ∙ at.over k some few;
  }
    where
      is : book (Read c bytes ∷ g) ≡ read_turn c (devices g) (asked c g) None (book g)
      is = no_more c bytes (at.over c some few)

      as_before : (k : ℕ) → asked k (Read c bytes ∷ g) ≡ asked k g
      as_before k = ap (λ (b : Book). b.asked k) is ∙ same_row (book g).asked c k

  -- ---- the next client comes and asks
  -- what it asked
  unfoldable pub first_asked : Asked
  first_asked = asks_with (devices g) (forwards g) (asked_of begun) nothing_asked

  pub first_book : book (Read (client_of begun) (asked_of begun) ∷ Join (client_of begun) ∷ g)
      ≡ read_turn (client_of begun) (devices g) first_asked first_asked.next (book g)
  unfolding first_asked
  first_book =
      ap (λ table. turned table
      (asked_with (is_asking c (Join c ∷ g) (book g)) table (forwards g) (asked_of begun) (asked c g))
      (asked c g))
      (devices_joined (is_killed g) c g)
      ∙ ap (λ (b : Bool). turned (devices g) (asked_with b (devices g) (forwards g) (asked_of begun) (asked c g)) (asked c g)) asking
      ∙ ap (λ (q : Asked). turned (devices g) (asks_with (devices g) (forwards g) (asked_of begun) q) q) (at.fresh c (omega arith))
    where
      c : ℕ
      c = client_of begun

      turned : DeviceTable → Asked → Asked → Book
      turned table q before = read_turn (client_of begun) table q (newly before.next q.next) (book g)

      asking : ((eqb c c || has_joined c g) && not (has_ended c g) && still_asks (asked c g)) ≡ true
      asking = ap (λ b. (b || has_joined c g) && not (has_ended c g) && still_asks (asked c g)) (eqb_self c)
          ∙ (ap (λ b. not b && still_asks (asked c g)) (at.open_ended c (omega arith))
          ∙ ap (λ (q : Asked). still_asks q) (at.fresh c (omega arith)))

  pub begins : Stands (begun + 1) plugged (Read (client_of begun) (asked_of begun) ∷ Join (client_of begun) ∷ g)
  unfolding first_asked
  begins = record {
    killed = ap (λ (b : Book). b.killed) first_book ∙ or_off (is_killed g) (kills first_asked.next) at.killed quiet.kills;
    came = ap (λ n. n + 1) at.came;
    links = at.links;
    fresh = λ k past. as_before k (ne_eqb (client_of begun) k (λ e. omega (arith, e, past))) ∙ at.fresh k (omega (arith, past));
    open_ended = λ k past. at.open_ended k (omega (arith, past));
    over = over;
  }
    where
      quiet : IsQuiet first_asked.next
      quiet = asked_quiet begun (devices g) (forwards g)

      asked_then : ℕ → Asked
      asked_then k = asked k (Read (client_of begun) (asked_of begun) ∷ Join (client_of begun) ∷ g)

      as_before : (k : ℕ) → eqb (client_of begun) k ≡ false → asked_then k ≡ asked k g
      as_before k apart = ap (λ (b : Book). b.asked k) first_book ∙ ap (λ b. cond b first_asked (asked k g)) apart

      own : (k : ℕ) → eqb (client_of begun) k ≡ true → asked_then k ≡ first_asked
      own k same = ap (λ (b : Book). b.asked k) first_book ∙ ap (λ b. cond b first_asked (asked k g)) same

      over : (k : ℕ) → 0 < k → k ≤ begun + 1 → is_none (asked_then k).next ≡ false
      over k some few = go (eqb (client_of begun) k) refl
        where
          go : (b : Bool) → eqb (client_of begun) k ≡ b → is_none (asked_then k).next ≡ false
          go true same = ap (λ (q : Asked). is_none q.next) (own k same) ∙ quiet.some
          go false apart = ap (λ (q : Asked). is_none q.next) (as_before k apart) ∙ at.over k some (grind (arith, apart, few))
