-- Each forward of a history is one that can be, and so is each that a client waits for.
use Rattle.std.proofs.Common.{ℕ, ◌≡◌, ◌<◌, Bool, true, false, cond, List, [], ◌∷◌, ◌++◌, length, Option, Some, None, is_some, refl, sym}
use Rattle.std.proofs.Common.{subst, arith, eqb}
use Rattle.std.proofs.Common.{◌||◌, ◌&&◌, not, codes, zero, suc}
use Rattle.std.specs.Prelude.{◌==◌, is_none}
use Rattle.std.proofs.lemmas.List.Elements.{All-nil, All-filter}
use Rattle.adb_outside.specs.Tables.{Rows, at, put_row}
use Rattle.adb_outside.proofs.TableLaws.{All-put_at, All-without}
use Rattle.adb_registry.specs.Registry.{DeviceTable}
use Rattle.adb_registry.specs.declared.row.Row.{Row}
use Rattle.adb_forward.specs.Forwards.{IsSpecification, forward_row}
use Rattle.adb_forward.specs.declared.row.ForwardRow.{ForwardRow}
use Rattle.adb_forward.specs.declared.table.TheConstants.{MAX_FORWARDS}
use Rattle.adb_client.specs.declared.about.Want.{Want}
use Rattle.adb_reply.specs.Strings.{failed}
use Rattle.adb_reply.specs.Refusals.{no_transport}
use Rattle.adb_reply.specs.declared.answer.Next.{Next}
use Rattle.adb_reply.specs.declared.answer.Next.TheVariants.{Bind, Rebind, Unbind, UnbindAll, Stop}
use Rattle.adb_capture.specs.declared.entry.Entry.{Entry}
use Rattle.adb_capture.specs.declared.entry.Entry.TheVariants.{Read, End, Bound, Recv, Detach}
use Rattle.adb_history.specs.Asking.{Asked}
use Rattle.adb_history.specs.Forwarding.{Binding, forwards_with, put_forward, told_port, is_unbound, bound_by}
use Rattle.adb_history.specs.Book.{Book, devices_if, newly, forwards_by, led_by, wanted_by, asked_with, is_asking, bound_turn, turn, book}
use Rattle.adb_history.specs.Machine.{History}
use Rattle.adb_laws_resting.specs.Wanted.{IsRemote, IsSoundNext, AreForwards, IsWanted}
use Rattle.adb_laws_resting.proofs.WantedAnswers.{specified}
use Rattle.adb_laws_resting.proofs.WantedReads.{sound_asked, none_at_zero}

abbrev IsForward : ℕ × ForwardRow → Type 0
IsForward entry = IsSpecification entry.0 entry.1.remote

-- ---- forwards
module _ (devices : DeviceTable) (forwards : List (ℕ × ForwardRow)) (all : AreForwards forwards) where
  put_forwards : (local transport : ℕ) (remote : List ℕ) → IsSpecification local remote
      → AreForwards (put_forward local transport remote devices forwards)
  put_forwards local transport remote can = by_row (at transport devices.rows)
    where
      by_row : (o : Option Row) → AreForwards (forwards_with local transport remote o forwards)
      by_row None = all
      by_row (Some row) = All-put_at IsForward forwards local (forward_row local transport row.serial remote) can all

  next_forwards : (next : Option Next) → IsSoundNext forwards next → AreForwards (forwards_by next devices forwards)
  next_forwards (Some (Rebind transport local remote)) can = put_forwards local transport remote can.specification
  next_forwards (Some (Unbind local)) can = All-without IsForward local forwards all
  next_forwards (Some UnbindAll) can = All-nil IsForward
  next_forwards (Some Stop) can = All-nil IsForward
  next_forwards _ can = all

  -- a listener stands at a port that is not 0
  bound_forwards : (want : Want) (port : ℕ) → IsRemote want.remote → AreForwards (bound_by want port devices forwards).forwards
  bound_forwards want port remote =
      by_port (is_unbound want.local port forwards) refl (is_none (at want.transport devices.rows)) (length forwards == MAX_FORWARDS)
    where
      stands : (n : ℕ) (rest more : Bool) → ((n == 0) || rest || more) ≡ false → 0 < n
      stands zero rest more e = absurd (let clash : true ≡ false = e in cc)
      stands (suc n) rest more e = omega arith

      bound : Binding
      bound = record {
        reply = codes "OKAYOKAY" ++ told_port want.local port;
        forwards =
            put_forward port want.transport want.remote devices forwards;
      }

      by_port : (unbound : Bool) → is_unbound want.local port forwards ≡ unbound → (gone full : Bool)
          → AreForwards (cond unbound (record { reply = (failed (codes "cannot bind listener")).bytes; forwards = forwards })
          (cond gone (record { reply = (failed no_transport).bytes; forwards = forwards })
          (cond full (record { reply = (failed (codes "too many forwards")).bytes; forwards = forwards }) bound))).forwards
      by_port false e false false =
          let some = stands port (not (want.local == 0) && not (want.local == port)) (is_some (at port forwards)) e in
          put_forwards port want.transport want.remote (specified port want.remote some remote)
      by_port _ e _ _ = all

-- ---- what a client waits for
wanted_next : (forwards : List (ℕ × ForwardRow)) (next : Option Next) (waits : Option Want) → IsSoundNext forwards next → IsWanted waits
    → IsWanted (wanted_by next waits)
wanted_next forwards (Some (Bind transport local remote chosen)) waits can h = can
wanted_next forwards _ waits can h = h

-- what follows a request that is whole only now
newly_sound : (forwards : List (ℕ × ForwardRow)) (before after : Option Next) → (before ≡ None → IsSoundNext forwards after)
    → IsSoundNext forwards (newly before after)
newly_sound forwards None after h = h refl
newly_sound forwards (Some next) after h = tt

put_wanted : (c : ℕ) (o : Option Want) (waits : Rows (Option Want)) → IsWanted o → ((k : ℕ) → IsWanted (waits k))
    → (k : ℕ) → IsWanted (put_row c o waits k)
put_wanted c o waits can all k = by_test (eqb c k)
  where
    by_test : (here : Bool) → IsWanted (cond here o (waits k))
    by_test true = can
    by_test false = all k

-- ---- histories
-- what a history says of forwards can be
pub record IsSoundBook (b : Book) : Type 0 where
  pub forwards : AreForwards b.forwards
  pub waits : (c : ℕ) → IsWanted (b.waits c)

module _ (older : History) (b : Book) (h : IsSoundBook b) where
  -- the devices before the entry
  abbrev devices : DeviceTable
  devices = devices_if b.killed older

  asked_sound : (asking : Bool) (bytes : List ℕ) (q : Asked) → q.next ≡ None
      → IsSoundNext b.forwards (asked_with asking devices b.forwards bytes q).next
  asked_sound true bytes q none =
      sound_asked devices b.forwards (none_at_zero b.forwards h.forwards) bytes q (subst (IsSoundNext b.forwards) (sym none) tt)
  asked_sound false bytes q none = subst (IsSoundNext b.forwards) (sym none) tt

  read_sound : (c : ℕ) (bytes : List ℕ) → IsSoundBook (turn (Read c bytes) older devices b)
  read_sound c bytes =
      let asking = is_asking c older b in
      let q = asked_with asking devices b.forwards bytes (b.asked c) in
      let can = newly_sound b.forwards (b.asked c).next q.next (asked_sound asking bytes (b.asked c)) in
      record {
        forwards = next_forwards devices b.forwards h.forwards (newly (b.asked c).next q.next) can;
        waits = put_wanted c (wanted_by (newly (b.asked c).next q.next) (b.waits c)) b.waits
            (wanted_next b.forwards (newly (b.asked c).next q.next) (b.waits c) can (h.waits c)) h.waits;
      }

  bound_sound : (c port : ℕ) (o : Option Want) → IsWanted o → IsSoundBook (bound_turn c port devices o b)
  bound_sound c port None can = h
  bound_sound c port (Some want) can = record {
    forwards = bound_forwards devices b.forwards h.forwards want port can;
    waits = put_wanted c None b.waits tt h.waits;
  }

  led_sound : (now : DeviceTable) → IsSoundBook (record b { forwards = led_by now b.forwards })
  led_sound now = record {
    forwards = All-filter (λ entry. is_some (at entry.1.transport now.rows)) IsForward b.forwards h.forwards;
    waits = h.waits;
  }

  turn_sound : (e : Entry) → IsSoundBook (turn e older devices b)
  turn_sound (Read c bytes) = read_sound c bytes
  turn_sound (Bound c port) = bound_sound c port (b.waits c) (h.waits c)
  turn_sound (End c cause) = record { forwards = h.forwards; waits = put_wanted c None b.waits tt h.waits }
  turn_sound (Recv t bytes) = led_sound (devices_if b.killed (Recv t bytes ∷ older))
  turn_sound (Detach t cause) = led_sound (devices_if b.killed (Detach t cause ∷ older))
  turn_sound _ = h

-- In every history each forward, and each that a client waits for, is one that can be.
pub book_sound : (h : History) → IsSoundBook (book h)
book_sound [] = record { forwards = All-nil IsForward; waits = λ c. tt }
book_sound (e ∷ older) = turn_sound older (book older) (book_sound older) e
