-- No more passes are made than two of each number, and numbers are few.
use Rattle.std.proofs.Common.{ℕ, ◌+◌, ◌*◌, ◌^◌, ◌<◌, ◌≤◌, [], ◌∷◌, arith}
use Rattle.std.specs.Prelude.{if◌then◌else◌}
use Rattle.adb_capture.specs.declared.entry.Entry.{Entry}
use Rattle.adb_capture.specs.declared.entry.Entry.TheVariants.{Join, Enter, Attach}
use Rattle.adb_history.specs.Machine.{History, IsLegal}
use Rattle.adb_history.specs.Book.{plugged_count}
use Rattle.adb_history.specs.Tied.{came_count}
use Rattle.adb_history.proofs.Numbers.{next_number}
use Rattle.adb_server_log.specs.Log.{is_draw}
use Rattle.adb_desk.specs.Desk.{DeskView}
use Rattle.adb_desk.specs.Sound.{IsSound}

pub seats_more : (e : Entry) (h : History) (out free : ℕ) → out + free ≤ 2 * (came_count h + plugged_count h)
    → out + (if is_draw e then 2 else free) ≤ 2 * (came_count (e ∷ h) + plugged_count (e ∷ h))
seats_more (Join n) h out free le = omega (arith, le)
seats_more (Enter n port) h out free le = omega (arith, le)
seats_more (Attach t kind serial) h out free le = omega (arith, le)
seats_more _ h out free le = le

-- ---- few numbers are drawn
came_more : (e : Entry) (h : History) → IsLegal (e ∷ h) → came_count h < 2 ^ 32 → came_count (e ∷ h) < 2 ^ 32
came_more (Join n) h legal few = omega (arith, next_number (Join n) h legal.2, legal.1.owner)
came_more (Enter n port) h legal few = omega (arith, next_number (Enter n port) h legal.2, legal.1.owner)
came_more _ h legal few = few

few_came : (h : History) → IsLegal h → came_count h < 2 ^ 32
few_came [] legal = omega arith
few_came (e ∷ h) legal = came_more e h legal (few_came h legal.0)

plugged_more : (e : Entry) (h : History) → IsLegal (e ∷ h) → plugged_count h < 2 ^ 32 → plugged_count (e ∷ h) < 2 ^ 32
plugged_more (Attach t kind serial) h legal few = omega (arith, next_number (Attach t kind serial) h legal.2, legal.1.owner)
plugged_more _ h legal few = few

few_plugged : (h : History) → IsLegal h → plugged_count h < 2 ^ 32
few_plugged [] legal = omega arith
few_plugged (e ∷ h) legal = plugged_more e h legal (few_plugged h legal.0)

pub few_out : (d : DeskView) → IsSound d → 0 < d.log.free → d.log.out < 2 ^ 34
few_out d k free = omega (arith, k.seats, few_came k.history k.legal, few_plugged k.history k.legal, free)
