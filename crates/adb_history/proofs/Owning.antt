-- Clients and streams keep each other through a change of either, or of both.
use Rattle.std.proofs.Common.{◌≡◌, ◌≢◌, ℕ, ◌≤◌, zero, suc, Bool, true, false, cond, length, Option, Some, None, refl, sym, ap, subst, ◌∙◌}
use Rattle.std.proofs.Common.{arith, ◌⊎◌}
use Rattle.std.proofs.Common.{inl, inr, eqb}
use Rattle.std.specs.Prelude.{option_and_then}
use Rattle.std.proofs.lemmas.Bool.{eqb-true, cases_eq}
use Rattle.adb_outside.specs.Tables.{Rows, change_row}
use Rattle.adb_stream.specs.declared.row.Stream.{Stream}
use Rattle.adb_stream.specs.Flow.{to_hand}
use Rattle.adb_client.specs.declared.phase.Phase.{Phase}
use Rattle.adb_client.specs.declared.phase.Phase.TheVariants.{Opening, Streaming}
use Rattle.adb_history.specs.Rows.{Client, State}
use Rattle.adb_history.specs.Orderly.{IsSoundFlow, phase_for}
use Rattle.adb_history.specs.Owned.{StreamOf, ClientOf, OwnerIn, StreamIn, HoldsIn, ClientIn, Owned}

-- what a client holds speaks of streams only by its own
pub holds_map : (old new : Rows (Option Stream)) (phase : Phase) (c : ℕ) (client : Client)
    → ((l : ℕ) → StreamOf old c l → StreamOf new c l) → HoldsIn phase old c client → HoldsIn phase new c client
holds_map old new (Opening l) c client f h = f l h
holds_map old new (Streaming l) c client f h = f l h
holds_map old new _ c client f h = h

-- ---- clients that are alike
pub record Alike (streams : Rows (Option Stream)) (c : ℕ) (before after : Client) : Type 0 where
  pub phase : after.about.phase ≡ before.about.phase
  pub due : length before.due ≤ length after.due
  pub own : ClientIn streams c before → ClientIn streams c after

abbrev pub AlikeAt : Rows (Option Stream) → ℕ → Option Client → Option Client → Type 0
AlikeAt streams c None None = Unit {0}
AlikeAt streams c (Some before) (Some after) = Alike streams c before after
AlikeAt streams c _ _ = ⊥

module _ (old new : Rows (Option Client)) (streams : Rows (Option Stream)) (alike : (c : ℕ) → AlikeAt streams c (old c) (new c)) where
  owner_alike : (orphan : Bool) (l : ℕ) (x : Stream) → OwnerIn orphan old l x → OwnerIn orphan new l x
  owner_alike true l x owner = (owner.0, go (old x.client) (new x.client) owner.1 (alike x.client))
    where
      go : (o n : Option Client) → o ≡ None → AlikeAt streams x.client o n → n ≡ None
      go None None e a = refl
      go None (Some y) e a = absurd a
      go (Some y) None e a = absurd a
      go (Some y) (Some z) e a = absurd (cc)
  owner_alike false l x owner = go (old x.client) (new x.client) owner.is refl (alike x.client)
    where
      go : (o n : Option Client) → o ≡ Some owner.client → new x.client ≡ n → AlikeAt streams x.client o n → ClientOf new l x
      go None n e f a = absurd (let clash : None ≡ Some owner.client = e in cc)
      go (Some y) None e f a = absurd a
      go (Some y) (Some z) e f a =
          let same : y ≡ owner.client = cc in
          record {
            client = z;
            is = f;
            phase = a.phase ∙ (ap (λ (k : Client). k.about.phase) same ∙ owner.phase);
            accepted = omega (arith, owner.accepted, a.due, ap (λ (k : Client). length k.due) same);
          }

-- Where each client is alike, all is owned as before.
pub owned_alike : (joined : ℕ) (old new : Rows (Option Client)) (streams : Rows (Option Stream))
    → ((c : ℕ) → AlikeAt streams c (old c) (new c)) → Owned joined old streams → Owned joined new streams
owned_alike joined old new streams alike owned = record {
  stream = λ l x is.
      let was = owned.stream l x is in
      record {
        id = was.id;
        from = was.from;
        sound = was.sound;
        fresh = was.fresh;
        owner =
            owner_alike old new streams alike x.part.orphan l x was.owner;
      };
  client = λ c y is. go c y (old c) (new c) refl is (alike c);
}
  where
    go : (c : ℕ) (y : Client) (o n : Option Client) → old c ≡ o → n ≡ Some y → AlikeAt streams c o n → ClientIn streams c y
    go c y None None e f a = absurd (let clash : None ≡ Some y = f in cc)
    go c y None (Some z) e f a = absurd a
    go c y (Some x) None e f a = absurd a
    go c y (Some x) (Some z) e f a = let same : z ≡ y = cc in subst (λ (k : Client). ClientIn streams c k) same (a.own (owned.client c x e))

-- a client that is changed is alike, and the others are the same
alike_same : (streams : Rows (Option Stream)) (c : ℕ) (o : Option Client) → AlikeAt streams c o o
alike_same streams c None = tt
alike_same streams c (Some x) = record { phase = refl; due = omega arith; own = λ h. h }

pub alike_change : (streams : Rows (Option Stream)) (clients : Rows (Option Client)) (c : ℕ) (f : Client → Client)
    → ((x : Client) → clients c ≡ Some x → Alike streams c x (f x))
    → (k : ℕ) → AlikeAt streams k (clients k) (change_row c (option_and_then (λ x. Some (f x))) clients k)
alike_change streams clients c f alike k = go (eqb c k) refl (clients k) refl
  where
    go : (b : Bool) → eqb c k ≡ b → (o : Option Client) → clients k ≡ o
        → AlikeAt streams k o (cond b (option_and_then (λ x. Some (f x)) o) o)
    go false e o is = alike_same streams k o
    go true e None is = tt
    go true e (Some x) is =
        let same : c ≡ k = eqb-true c k e in
        subst (λ (n : ℕ). Alike streams n x (f x)) same (alike x (ap clients same ∙ is))

-- ---- streams that are alike
pub record AlikeStream (before after : Stream) : Type 0 where
  pub id : after.id ≡ before.id
  pub client : after.client ≡ before.client
  pub orphan : after.part.orphan ≡ before.part.orphan
  pub remote : after.part.remote ≡ before.part.remote
  pub left : to_hand after.part.flow ≤ to_hand before.part.flow
  pub sound : IsSoundFlow before.part.flow → IsSoundFlow after.part.flow

alike_owner : (clients : Rows (Option Client)) (orphan : Bool) (l : ℕ) (x y : Stream) → AlikeStream x y → OwnerIn orphan clients l x
    → OwnerIn orphan clients l y
alike_owner clients true l x y a owner = (a.remote ∙ owner.0, ap clients a.client ∙ owner.1)
alike_owner clients false l x y a owner = record {
  client = owner.client;
  is = ap clients a.client ∙ owner.is;
  phase = owner.phase ∙ sym (ap (phase_for l) a.remote);
  accepted = omega (arith, owner.accepted, a.left);
}

-- Where a stream that is changed is alike, all is owned as before.
pub owned_stream : (joined : ℕ) (clients : Rows (Option Client)) (streams : Rows (Option Stream)) (l : ℕ) (f : Stream → Stream)
    → ((x : Stream) → streams l ≡ Some x → AlikeStream x (f x))
    → Owned joined clients streams → Owned joined clients (change_row l (option_and_then (λ x. Some (f x))) streams)
owned_stream joined clients streams l f alike owned = record {
  stream = λ m y is. stream m y (eqb l m) refl (streams m) refl is;
  client = λ c x is.
      let was = owned.client c x is in
      record { number = was.number; mark = was.mark; holds = holds_map streams new x.about.phase c x (λ m h. own c m h) was.holds };
}
  where
    new : Rows (Option Stream)
    new = change_row l (option_and_then (λ x. Some (f x))) streams

    moved : (m : ℕ) (x y : Stream) → AlikeStream x y → StreamIn joined clients m x → StreamIn joined clients m y
    moved m x y a was = record {
      id = a.id ∙ was.id;
      from = omega (arith, was.from, a.client);
      sound = a.sound was.sound;
      fresh = λ e. omega (arith, was.fresh (sym a.remote ∙ e), a.left);
      owner = subst (λ (b : Bool). OwnerIn b clients m y) (sym a.orphan) (alike_owner clients x.part.orphan m x y a was.owner);
    }

    stream : (m : ℕ) (y : Stream) (b : Bool) → eqb l m ≡ b → (o : Option Stream) → streams m ≡ o
        → cond b (option_and_then (λ x. Some (f x)) o) o ≡ Some y → StreamIn joined clients m y
    stream m y false e o is f = owned.stream m y (is ∙ f)
    stream m y true e None is g = absurd (let clash : None ≡ Some y = g in cc)
    stream m y true e (Some x) is g =
        let same : f x ≡ y = cc in
        subst (λ (k : Stream). StreamIn joined clients m k) same
        (moved m x (f x) (alike x (ap streams (eqb-true l m e) ∙ is)) (owned.stream m x is))

    own : (c m : ℕ) → StreamOf streams c m → StreamOf (change_row l (option_and_then (λ x. Some (f x))) streams) c m
    own c m h = go (eqb l m) refl
      where
        go : (b : Bool) → eqb l m ≡ b → StreamOf (change_row l (option_and_then (λ x. Some (f x))) streams) c m
        go false e = record { stream = h.stream; is = rw e h.is; client = h.client; owned = h.owned }
        go true e =
            let a = alike h.stream (ap streams (eqb-true l m e) ∙ h.is) in
            record {
              stream = f h.stream;
              is = rw e (ap (option_and_then (λ x. Some (f x))) h.is);
              client =
                  a.client ∙ h.client;
              owned = a.orphan ∙ h.owned;
            }

-- ---- a client and a stream
-- a client has no stream but this
abbrev pub IsOnly : ℕ → Phase → Type 0
IsOnly l (Opening k) = k ≡ l
IsOnly l (Streaming k) = k ≡ l
IsOnly l _ = Unit {0}

-- A client and a stream change, each of which has no other than the other.
pub record Changes (old new : State) (c l : ℕ) : Type 0 where
  pub joined : old.joined ≤ new.joined
  pub clients : (k : ℕ) → c ≢ k → new.clients k ≡ old.clients k
  pub streams : (m : ℕ) → l ≢ m → new.streams m ≡ old.streams m
  pub gone : c ≤ old.joined → old.clients c ≡ None → new.clients c ≡ None
  pub only : (x : Client) → old.clients c ≡ Some x → IsOnly l x.about.phase
  pub own : (x : Stream) → old.streams l ≡ Some x → (x.part.orphan ≡ true) ⊎ (x.client ≡ c)
  pub stream : (y : Stream) → new.streams l ≡ Some y → StreamIn new.joined new.clients l y
  pub client : (y : Client) → new.clients c ≡ Some y → ClientIn new.streams c y

only_one : (l m remote : ℕ) → IsOnly l (phase_for m remote) → m ≡ l
only_one l m zero e = e
only_one l m (suc n) e = e

module _ (old new : State) (c l : ℕ) (h : Changes old new c l) where
  others_owner : (orphan : Bool) (m : ℕ) (y : Stream) → (l ≢ m) × (y.client ≤ old.joined)
      → OwnerIn orphan old.clients m y → OwnerIn orphan new.clients m y
  others_owner true m y apart owner = (owner.0, go (cases_eq c y.client))
    where
      go : (c ≡ y.client) ⊎ (c ≡ y.client → ⊥) → new.clients y.client ≡ None
      go (inl same) = subst (λ (n : ℕ). new.clients n ≡ None) same (h.gone (omega (arith, same, apart.1)) (ap old.clients same ∙ owner.1))
      go (inr other) = h.clients y.client other ∙ owner.1
  others_owner false m y apart owner = go (cases_eq c y.client)
    where
      go : (c ≡ y.client) ⊎ (c ≡ y.client → ⊥) → ClientOf new.clients m y
      go (inl same) =
          let only : IsOnly l owner.client.about.phase = h.only owner.client (ap old.clients same ∙ owner.is) in
          absurd (apart.0 (sym (only_one l m y.part.remote (subst (IsOnly l) owner.phase only))))
      go (inr other) =
          record { client = owner.client; is = h.clients y.client other ∙ owner.is; phase = owner.phase; accepted = owner.accepted }

  others_own : (k m : ℕ) → c ≢ k → StreamOf old.streams k m → StreamOf new.streams k m
  others_own k m apart own = go (cases_eq l m)
    where
      clash : (own.stream.part.orphan ≡ true) ⊎ (own.stream.client ≡ c) → ⊥
      clash (inl orphan) = let both : true ≡ false = sym orphan ∙ own.owned in cc
      clash (inr same) = apart (sym same ∙ own.client)

      go : (l ≡ m) ⊎ (l ≡ m → ⊥) → StreamOf new.streams k m
      go (inl same) = absurd (clash (h.own own.stream (ap old.streams same ∙ own.is)))
      go (inr other) = record { stream = own.stream; is = h.streams m other ∙ own.is; client = own.client; owned = own.owned }

  -- Where a client and a stream change together, all is owned as before.
  pub owned_changes : Owned old.joined old.clients old.streams → Owned new.joined new.clients new.streams
  owned_changes owned = record { stream = λ m y is. stream m y is (cases_eq l m); client = λ k y is. client k y is (cases_eq c k) }
    where
      stream : (m : ℕ) (y : Stream) → new.streams m ≡ Some y → (l ≡ m) ⊎ (l ≡ m → ⊥) → StreamIn new.joined new.clients m y
      stream m y is (inl same) = subst (λ (n : ℕ). StreamIn new.joined new.clients n y) same (h.stream y (ap new.streams same ∙ is))
      stream m y is (inr apart) =
          let was = owned.stream m y (sym (h.streams m apart) ∙ is) in
          record {
            id = was.id;
            from = omega (arith, was.from, h.joined);
            sound = was.sound;
            fresh = was.fresh;
            owner = others_owner y.part.orphan m y (apart, was.from) was.owner;
          }

      client : (k : ℕ) (y : Client) → new.clients k ≡ Some y → (c ≡ k) ⊎ (c ≡ k → ⊥) → ClientIn new.streams k y
      client k y is (inl same) = subst (λ (n : ℕ). ClientIn new.streams n y) same (h.client y (ap new.clients same ∙ is))
      client k y is (inr apart) =
          let was = owned.client k y (sym (h.clients k apart) ∙ is) in
          record {
            number = was.number;
            mark = was.mark;
            holds = holds_map old.streams new.streams y.about.phase k y
                (λ m own. others_own k m apart own) was.holds;
          }
