-- When a server takes in an entry, in the words of what came before it.
use Rattle.std.proofs.Common.{ℕ, ◌+◌, ◌≡◌, ◌<◌, ◌≤◌, true, false, cond, List, [], ◌∷◌, ◌++◌, length, zero, suc, sym, ◌∙◌, ap, subst, arith}
use Rattle.std.proofs.Common.{eqb}
use Rattle.std.specs.Prelude.{Option, Some, None}
use Rattle.adb_outside.specs.Tables.{Rows, listed, listed_at}
use Rattle.adb_outside.specs.Serial.{is_serial}
use Rattle.adb_registry.specs.Registry.{DeviceTable, attach_refusal}
use Rattle.adb_capture.specs.declared.entry.Entry.{Entry}
use Rattle.adb_capture.specs.declared.entry.Entry.TheVariants.{Join, Read, End, Attach, Recv}
use Rattle.adb_outside.specs.Bytes.{AreBytes}
use Rattle.adb_outside.specs.declared.kinds.Cause.TheVariants.{Eof}
use Rattle.adb_forward.specs.declared.row.ForwardRow.{ForwardRow}
use Rattle.adb_capture.specs.Records.{data_of}
use Rattle.adb_capture.specs.declared.limits.TheConstants.{MAX_DATA}
use Rattle.adb_history.specs.Asking.{nothing_asked, asks_with}
use Rattle.adb_history.specs.Machine.{History, state, May, IsDrawn, IsLegal}
use Rattle.adb_history.specs.Book.{Book, device_of, devices_if, plugged_count, asked, is_killed}
use Rattle.adb_history.specs.Tied.{came_count}
use Rattle.adb_history.specs.Accepted.{refusal_of, is_drawn, unless_drawn, attach_reason}
use Rattle.adb_history.specs.declared.refusal.Reason.TheVariants.{NotDrawn}
use Rattle.adb_history.proofs.Books.{all_books}
use Rattle.adb_history.proofs.Numbers.{counted}
use Rattle.adb_laws_loads.specs.Taken.{IsTaken}
use Rattle.adb_laws_loads.proofs.Turns.{all_devices}
use Rattle.adb_laws_loads.proofs.Inputs.{SameCame, same_devices, came_onto}
use Rattle.adb_laws_loads.proofs.TextSteps.{HasAskedTexts}

-- ---- what an entry wants of those before it
-- a device is the next one of a few, and has a serial
pub record IsPlugged (g : History) (t : ℕ) (serial : List ℕ) : Type 0 where
  pub next : t ≡ plugged_count g + 1
  pub few : plugged_count g < all_devices
  pub spelled : is_serial serial ≡ true

-- what the entries of a load want: its number was drawn, or is the next one
abbrev pub Wants : History → Entry → Type 0
Wants g (Join c) = c ≡ came_count g + 1
Wants g (Read c bytes) = IsDrawn (came_count g) c
Wants g (End c Eof) = IsDrawn (came_count g) c
Wants g (Attach t kind serial) = IsPlugged g t serial
Wants g (Recv t bytes) = IsDrawn (plugged_count g) t
Wants g _ = ⊥

-- What a client that still asks asks by an entry is the first that it asks, and it is of bytes.
pub record AsksFirst (c : ℕ) (bytes : List ℕ) (g : History) : Type 0 where
  pub nothing : asked c g ≡ nothing_asked
  pub texts : (devices : DeviceTable) (forwards : List (ℕ × ForwardRow)) → HasAskedTexts (asks_with devices forwards bytes nothing_asked)

abbrev pub Reads : History → Entry → Type 0
Reads g (Read c bytes) = (asked c g).next ≡ None → AsksFirst c bytes g
Reads g _ = Unit {0}

-- an entry that may come behind those before it, where no kill stands
pub record MayCome (g : History) (e : Entry) : Type 0 where
  pub wants : Wants g e
  pub reads : Reads g e
  pub bytes : AreBytes (data_of e)
  pub size : length (data_of e) ≤ MAX_DATA
  pub killed : is_killed g ≡ false

-- entries each of which may come behind those before it
abbrev pub AllMayCome : List Entry → History → Type 0
AllMayCome [] g = Unit {0}
AllMayCome (e ∷ inputs) g = MayCome g e × AllMayCome inputs (e ∷ g)

pub all_more : (inputs more : List Entry) (g : History) → AllMayCome inputs g → AllMayCome more (came_onto inputs g)
    → AllMayCome (inputs ++ more) g
all_more [] more g all others = others
all_more (e ∷ inputs) more g all others = (all.0, all_more inputs more (e ∷ g) all.1 others)

pub each_may : (front rest : List Entry) (e : Entry) (g : History) → AllMayCome (front ++ e ∷ rest) g → MayCome (came_onto front g) e
each_may [] rest e g all = all.0
each_may (x ∷ front) rest e g all = each_may front rest e (x ∷ g) all.1

-- ---- the server takes it in
eqb_same : (m n : ℕ) → m ≡ n → eqb m n ≡ true
eqb_same m n is = grind (arith, is)

drawn_is : (drawn n : ℕ) → IsDrawn drawn n → is_drawn drawn n ≡ true
drawn_is drawn n is = grind (arith, is.0, is.1)

listed_few : {X : Type 0} (rows : Rows (Option X)) (first k : ℕ) → length (listed rows first k) ≤ k
listed_few {X} rows first zero = omega arith
listed_few {X} rows first (suc k) = go (rows first) (listed_few rows (suc first) k)
  where
    go : (row : Option X) → length (listed rows (suc first) k) ≤ k → length (listed_at first row (listed rows (suc first) k)) ≤ suc k
    go None few = omega (arith, few)
    go (Some x) few = omega (arith, few)

-- few devices, and a serial that is one
attach_taken : (table : DeviceTable) (serial : List ℕ) → table.drawn < all_devices → length table.rows < all_devices
    → is_serial serial ≡ true → attach_refusal table serial ≡ None
attach_taken table serial few short is = grind (arith, few, short, is)

-- the numbers and the devices of the state that a history leaves
module _ (h g : History) (legal : IsLegal h) (same : SameCame h g) where
  joined_is : (state h).joined ≡ came_count g
  joined_is = (counted h).joined ∙ same.brings.came_count

  drawn_is_plugged : (state h).devices.drawn ≡ plugged_count g
  drawn_is_plugged = (counted h).plugged ∙ same.brings.plugged_count

  pub stopped_is : is_killed g ≡ false → (state h).stopped ≡ false
  stopped_is killed = (all_books h legal).killed ∙ (ap (λ (b : Book). b.killed) same.book ∙ killed)

  devices_are : is_killed g ≡ false → (state h).devices ≡ devices_if false g
  devices_are killed = (all_books h legal).devices ∙ (same_devices h g same ∙ ap (λ k. devices_if k g) killed)

  joins : (c : ℕ) → c ≡ came_count g + 1 → unless_drawn (eqb c ((state h).joined + 1)) ≡ None
  joins c is = ap unless_drawn (eqb_same c ((state h).joined + 1) (is ∙ ap (λ n. n + 1) (sym joined_is)))

  drawn_by : (drawn count n : ℕ) → drawn ≡ count → IsDrawn count n → unless_drawn (is_drawn drawn n) ≡ None
  drawn_by drawn count n is within = ap unless_drawn (drawn_is drawn n (subst (λ d. IsDrawn d n) (sym is) within))

  -- the device is not refused
  refused : (t : ℕ) (serial : List ℕ) → is_killed g ≡ false → IsPlugged g t serial → attach_refusal (state h).devices serial ≡ None
  refused t serial killed is =
      ap (λ table. attach_refusal table serial) (devices_are killed) ∙ attach_taken (devices_if false g) serial is.few rows is.spelled
    where
      rows : length (listed (λ t. device_of t g) 1 (plugged_count g)) < all_devices
      rows = omega (arith, listed_few (λ t. device_of t g) 1 (plugged_count g), is.few)

  attaches : (t : ℕ) (serial : List ℕ) → is_killed g ≡ false → IsPlugged g t serial
      → cond (eqb t ((state h).devices.drawn + 1)) (attach_reason (attach_refusal (state h).devices serial)) (Some NotDrawn) ≡ None
  attaches t serial killed is =
      ap (λ b. cond b (attach_reason (attach_refusal (state h).devices serial)) (Some NotDrawn))
      (eqb_same t ((state h).devices.drawn + 1) (is.next ∙ ap (λ n. n + 1) (sym drawn_is_plugged)))
      ∙ ap attach_reason (refused t serial killed is)

  takes : (e : Entry) → Wants g e → is_killed g ≡ false → refusal_of (state h) e ≡ None
  takes (Join c) wants killed = joins c wants
  takes (Read c bytes) wants killed = drawn_by (state h).joined (came_count g) c joined_is wants
  takes (End c Eof) wants killed = drawn_by (state h).joined (came_count g) c joined_is wants
  takes (Attach t kind serial) wants killed = attaches t serial killed wants
  takes (Recv t bytes) wants killed = drawn_by (state h).devices.drawn (plugged_count g) t drawn_is_plugged wants
  takes _ wants killed = absurd wants

  -- and it may come
  attach_may : (t : ℕ) (serial : List ℕ) → is_killed g ≡ false → IsPlugged g t serial
      → (t ≡ (state h).devices.drawn + 1) × (attach_refusal (state h).devices serial ≡ None)
  attach_may t serial killed is = (is.next ∙ ap (λ n. n + 1) (sym drawn_is_plugged), refused t serial killed is)

  may_drawn : (drawn count n : ℕ) → drawn ≡ count → IsDrawn count n → IsDrawn drawn n
  may_drawn drawn count n is within = subst (λ d. IsDrawn d n) (sym is) within

  pub mays : (e : Entry) → Wants g e → is_killed g ≡ false → May (state h) e
  mays (Join c) wants killed = (stopped_is killed, wants ∙ ap (λ n. n + 1) (sym joined_is))
  mays (Read c bytes) wants killed = (stopped_is killed, may_drawn (state h).joined (came_count g) c joined_is wants)
  mays (End c Eof) wants killed = (stopped_is killed, may_drawn (state h).joined (came_count g) c joined_is wants)
  mays (Attach t kind serial) wants killed = let may = attach_may t serial killed wants in (stopped_is killed, may.0, may.1)
  mays (Recv t bytes) wants killed = (stopped_is killed, may_drawn (state h).devices.drawn (plugged_count g) t drawn_is_plugged wants)
  mays _ wants killed = absurd wants

-- An entry that may come behind what came is taken in by the server that stands.
pub taken : (h g : History) (e : Entry) → IsLegal h → SameCame h g → MayCome g e → IsTaken h e
taken h g e legal same may = (takes h g legal same e may.wants may.killed, stopped_is h g legal same may.killed)
