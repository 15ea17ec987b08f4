-- The up rule for one stream, if there is one, is that for several.
use Rattle.std.proofs.Common.{ℕ, ◌+◌, ◌≡◌, ◌≢◌, [], ◌∷◌, cond, Option, Some, None, ◌⊎◌, inl, inr, refl, sym, subst, arith}
use Rattle.std.proofs.lemmas.Bool.{eq-eqb, ne_eqb, cases_eq}
use Rattle.std.specs.Ordering.{nat_cmp}
use Rattle.std.specs.List.Sorted.{IsStrictlySortedBy}
use Rattle.adb_outside.specs.Tables.{at}
use Rattle.adb_stream.specs.declared.row.Stream.{Stream}
use Rattle.adb_hub_tables.specs.declared.tables.Tables.{Tables}
use Rattle.adb_hub_tables.specs.Places.{LinkRoom, ClientRoom}
use Rattle.adb_hub_tables.proofs.Using.{more_room, more_places}
use Rattle.adb_hub_rules.specs.Handing.{UsesOf, HasRoom}
use Rattle.adb_hub_rules.specs.Sweep.{writes_if_on, IsReadyEach, UsesEach}
use Rattle.adb_hub_rules.specs.Up.{IsReadyUp, writes_up}

-- one id rises
pub none_rise : IsStrictlySortedBy nat_cmp []
unfolding IsStrictlySortedBy
none_rise = tt

pub one_rises : (id : ℕ) → IsStrictlySortedBy nat_cmp (id ∷ [])
unfolding IsStrictlySortedBy
one_rises id = (tt, tt)

-- what it needs
pub ready_one : (id : ℕ) (t : Tables) → IsReadyEach (id ∷ []) t → IsReadyUp id t
ready_one id t ready = record { cut = ready.cut id (inl refl); room = at_row (at id t.streams.streams) ready.room }
  where
    at_row : (row : Option Stream)
        → ((link : ℕ) → LinkRoom (writes_if_on link id row t + 0) (at link t.links.entries))
        → HasRoom (writes_up id t) row t
    at_row None room = tt
    at_row (Some stream) room =
        more_room (writes_up id t + 0) (writes_up id t) (at stream.link t.links.entries) (omega arith)
        (subst (λ b. LinkRoom (cond b (writes_up id t) 0 + 0) (at stream.link t.links.entries))
        (eq-eqb stream.link stream.link refl) (room stream.link))

-- what it leaves of the places
module _ (id : ℕ) (old new : Tables) where
  more : (n c : ℕ) → ClientRoom n (at c old.clients.entries) → ClientRoom (n + 0) (at c old.clients.entries)
  more n c room = more_places n (n + 0) (at c old.clients.entries) (omega arith) room

  on_link : (stream : Stream) → UsesOf (Some stream) (writes_up id old) 0 0 old new → (n link : ℕ)
      → ◌⊎◌ (stream.link ≡ link) (stream.link ≢ link)
      → LinkRoom (n + (writes_if_on link id (Some stream) old + 0)) (at link old.links.entries) → LinkRoom n (at link new.links.entries)
  on_link stream uses n link (inl is) room =
      let here = subst (λ b. LinkRoom (n + (cond b (writes_up id old) 0 + 0)) (at link old.links.entries))
      (eq-eqb stream.link link is) room in
      subst (λ (k : ℕ). LinkRoom n (at k new.links.entries)) is
      (uses.on_link n (subst (λ (k : ℕ). LinkRoom (n + writes_up id old) (at k old.links.entries)) (sym is)
      (more_room (n + (writes_up id old + 0)) (n + writes_up id old) (at link old.links.entries) (omega arith) here)))
  on_link stream uses n link (inr other) room =
      let here = subst (λ b. LinkRoom (n + (cond b (writes_up id old) 0 + 0)) (at link old.links.entries))
      (ne_eqb stream.link link other) room in
      uses.on_links n link (λ e. other (sym e)) (more_room (n + (0 + 0)) n (at link old.links.entries) (omega arith) here)

  pub uses_one : ((c : ℕ) → UsesOf (at id old.streams.streams) (writes_up id old) c 0 old new) → UsesEach (id ∷ []) old new
  uses_one uses = at_row (at id old.streams.streams) refl uses
    where
      at_row : (row : Option Stream) → at id old.streams.streams ≡ row
          → ((c : ℕ) → UsesOf row (writes_up id old) c 0 old new) → UsesEach (id ∷ []) old new
      at_row None is uses = record {
        links = λ n link room. (uses 0 link).on_link n
            (subst (λ (row : Option Stream). LinkRoom (n + (writes_if_on link id row old + 0)) (at link old.links.entries)) is room);
        clients = λ n c room. (uses c 0).of_client n (more n c room);
        counted = (uses 0 0).counted;
        tracked = (uses 0 0).tracked;
        owned = (uses 0 0).owned;
        read = (uses 0 0).read;
      }
      at_row (Some stream) is uses = record {
        links = λ n link room. on_link stream (uses 0) n link (cases_eq stream.link link)
            (subst (λ (row : Option Stream). LinkRoom (n + (writes_if_on link id row old + 0)) (at link old.links.entries)) is room);
        clients = λ n c room. (uses c).of_client n (more n c room);
        counted = (uses 0).counted;
        tracked = (uses 0).tracked;
        owned = (uses 0).owned;
        read = (uses 0).read;
      }
