-- Clients are prepared one after another.
use Rattle.std.proofs.Common.{ℕ, ◌+◌, ◌≡◌, ◌≢◌, List, ◌∷◌, All, Option, Some, None, ◌⊎◌, inl, inr, refl, sym, ◌∙◌, subst, arith}
use Rattle.std.proofs.lemmas.List.Elements.{All-head, All-tail}
use Rattle.adb_outside.specs.Tables.{at}
use Rattle.adb_client.specs.Client.{SeenClient}
use Rattle.adb_stream.specs.declared.row.Stream.{Stream}
use Rattle.adb_hub_tables.specs.Places.{ClientRoom}
use Rattle.adb_hub_tables.specs.Tracked.{IsAmong}
use Rattle.adb_hub_links.specs.Counting.{count_at}
use Rattle.adb_hub_tables.specs.Widening.{WidensClients}
use Rattle.adb_hub_tables.proofs.Widening.{same_client, client_room, clients_then}
use Rattle.adb_hub_links.specs.Reserving.{IsCutAt, all_writes}
use Rattle.adb_outside.proofs.TableLaws.{at_other}

-- Places were made for what was counted, but for those that are left.
pub record AreServed (counts left : List (ℕ × ℕ)) (old now : List (ℕ × SeenClient)) : Type 0 where
  pub more : WidensClients old now
  pub each : All (λ (e : ℕ × ℕ). at e.0 counts ≡ Some e.1) left
  pub room : (c : ℕ) → at c left ≡ None → ClientRoom (count_at (at c counts)) (at c now)

order : (a b : ℕ) → (a ≡ b) ⊎ (a ≢ b)
order a b = grind arith

at_behind : {X : Type 0} (q k : ℕ) (x : X) (es : List (ℕ × X)) → q ≢ k → at q ((k, x) ∷ es) ≡ at q es
at_behind q k x es apart = rw (at_other q k apart) refl

pub served_none : (counts : List (ℕ × ℕ)) (old : List (ℕ × SeenClient)) → All (λ (e : ℕ × ℕ). at e.0 counts ≡ Some e.1) counts
    → ((c : ℕ) → ClientRoom 0 (at c old)) → AreServed counts counts old old
served_none counts old each room = record {
  more = λ c. same_client (at c old);
  each = each;
  room = λ c none. subst (λ (row : Option ℕ). ClientRoom (count_at row) (at c old)) (sym none) (room c);
}

pub served_one : {counts left : List (ℕ × ℕ)} {old now new : List (ℕ × SeenClient)} (k n : ℕ)
    → AreServed counts ((k, n) ∷ left) old now → WidensClients now new
    → ClientRoom n (at k new) → AreServed counts left old new
served_one {counts} {left} {old} {now} {new} k n h more here = record {
  more = clients_then old now new h.more more;
  each = All-tail (λ (e : ℕ × ℕ). at e.0 counts ≡ Some e.1) (k, n) left h.each;
  room = λ c none. by_place c none (order c k);
}
  where
    by_place : (c : ℕ) → at c left ≡ None → (c ≡ k) ⊎ (c ≢ k) → ClientRoom (count_at (at c counts)) (at c new)
    by_place c none (inl is) =
        subst (λ (q : ℕ). ClientRoom (count_at (at q counts)) (at q new)) (sym is)
        (subst (λ (row : Option ℕ). ClientRoom (count_at row) (at k new))
        (sym (All-head (λ (e : ℕ × ℕ). at e.0 counts ≡ Some e.1) (k, n) left h.each)) here)
    by_place c none (inr apart) =
        client_room (count_at (at c counts)) (at c now) (at c new) (more c) (h.room c (at_behind c k n left apart ∙ none))

-- ---- what is held is ready
-- how many writes were counted, and the clients then
pub record Written : Type 0 where
  pub writes : ℕ
  pub clients : List (ℕ × SeenClient)

-- What the clients of streams hold is ready, but for those that are left.
pub record ArePrepared (credit : ℕ → ℕ) (maxdata : ℕ) (streams : List (ℕ × Stream)) (ids left : List ℕ) (old : List (ℕ × SeenClient))
    (done : Written) : Type 0 where
  pub more : WidensClients old done.clients
  pub cut : (l : ℕ) → IsAmong l ids → IsCutAt (credit l) maxdata (at l streams) done.clients ⊎ IsAmong l left
  pub writes : done.writes + all_writes credit maxdata left streams old ≡ all_writes credit maxdata ids streams old
