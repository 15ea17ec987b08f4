-- What is seen of clients through a change, and what told events say of a stream.
use Rattle.std.proofs.Common.{◌≡◌, ◌≢◌, ℕ, Bool, true, false, cond, List, [], ◌∷◌, ◌++◌, Option, Some, None, refl, sym, ap, subst, ◌∙◌}
use Rattle.std.proofs.Common.{append_assoc}
use Rattle.std.proofs.Common.{◌⊎◌, inl, inr, eqb}
use Rattle.std.specs.Prelude.{option_and_then, ◌&&◌}
use Rattle.std.proofs.lemmas.Bool.{eqb-true, ne_eqb}
use Rattle.std.proofs.lemmas.List.{append-nil}
use Rattle.adb_outside.specs.Tables.{Rows, change_row}
use Rattle.adb_wire.specs.declared.packets.Packet.{Packet}
use Rattle.adb_client.specs.declared.phase.Phase.{Phase}
use Rattle.adb_client.specs.declared.phase.Phase.TheVariants.{Asking, Opening, Streaming}
use Rattle.adb_history.specs.Rows.{Client}
use Rattle.adb_history.specs.Events.{Event, due_to_client, due_to_link, ended, packets_to, ending_in}
use Rattle.adb_history.specs.declared.ending.Ending.{Ending}
use Rattle.adb_history.specs.declared.ending.Ending.TheVariants.{ClientClosed}
use Rattle.adb_history.specs.Clients.{closing_with}
use Rattle.adb_history.specs.Births.{carried_in, is_wrte}
use Rattle.adb_laws_fifo_up.specs.Seen.{Seen, seen_in, Sees}
use Rattle.adb_laws_fifo_up.specs.Climbing.{carried, IsAside, IsEndOf, IsUpOf, Are, Silent}

-- ---- clients
-- what is seen of a row that is changed was seen before
abbrev pub Dims : Rows (Option Client) → ℕ → (Client → Option Client) → Type 0
Dims clients c f = (x : Client) (v : Seen) → clients c ≡ Some x → Sees (f x) v → Sees (Some x) v

pub dims : (clients : Rows (Option Client)) (c : ℕ) (f : Client → Option Client) → Dims clients c f → (k : ℕ) (v : Seen)
    → Sees (change_row c (option_and_then f) clients k) v → Sees (clients k) v
dims clients c f at k v h = go (eqb c k) refl (clients k) refl h
  where
    go : (b : Bool) → eqb c k ≡ b → (o : Option Client) → clients k ≡ o → Sees (cond b (option_and_then f o) o) v → Sees o v
    go true e None is h = h
    go true e (Some x) is h = at x v (ap clients (eqb-true c k e) ∙ is) h
    go false e o is h = h

-- a client that closes is seen no more
pub closing_unseen : (due : List ℕ) (x : Client) (v : Seen) → Sees (closing_with due x) v → ⊥
closing_unseen [] x v h = let clash : None ≡ Some v = h in cc
closing_unseen (b ∷ due) x v h = let clash : None ≡ Some v = h in cc

pub none_unseen : (v : Seen) → Sees None v → ⊥
none_unseen v h = let clash : None ≡ Some v = h in cc

-- what is seen of a phase and of what is held
parts : (phase : Phase) (held : List ℕ) (v : Seen) → Some (record { phase = phase; held = held }) ≡ Some v
    → (v.phase ≡ phase) × (v.held ≡ held)
parts phase held v h =
    let same : record { phase = phase; held = held } ≡ v = cc in
    (ap (λ (u : Seen). u.phase) (sym same), ap (λ (u : Seen). u.held) (sym same))

-- the phase that is seen is that of the client
pub seen_phase : (phase : Phase) (held : List ℕ) (v : Seen) → seen_in phase held ≡ Some v → (v.phase ≡ phase) × (v.held ≡ held)
seen_phase Asking held v h = parts Asking held v h
seen_phase (Opening l) held v h = parts (Opening l) held v h
seen_phase (Streaming l) held v h = parts (Streaming l) held v h
seen_phase _ held v h = let clash : None ≡ Some v = h in cc

-- ---- events
pub are_append : (Is : Event → Type 0) (u w : List Event) → Are Is u → Are Is w → Are Is (u ++ w)
are_append Is [] w h i = i
are_append Is (e ∷ u) w h i = (h.0, are_append Is u w h.1 i)

pub are_weaker : (Is Be : Event → Type 0) → ((e : Event) → Is e → Be e) → (u : List Event) → Are Is u → Are Be u
are_weaker Is Be weaker [] h = tt
are_weaker Is Be weaker (e ∷ u) h = (weaker e h.0, are_weaker Is Be weaker u h.1)

pub packets_append : (t : ℕ) (u w : List Event) → packets_to t (u ++ w) ≡ packets_to t u ++ packets_to t w
packets_append t [] w = refl
packets_append t (due_to_client client bytes ∷ u) w = packets_append t u w
packets_append t (due_to_link link packet check ∷ u) w = go (eqb link t) (packets_append t u w)
  where
    go : (b : Bool) → packets_to t (u ++ w) ≡ packets_to t u ++ packets_to t w
        → cond b (packet ∷ packets_to t (u ++ w)) (packets_to t (u ++ w))
        ≡ cond b (packet ∷ packets_to t u) (packets_to t u) ++ packets_to t w
    go true e = ap (λ ps. packet ∷ ps) e
    go false e = e
packets_append t (ended stream ending ∷ u) w = packets_append t u w

pub carried_in_append : (l : ℕ) (ps qs : List Packet) → carried_in l (ps ++ qs) ≡ carried_in l ps ++ carried_in l qs
carried_in_append l [] qs = refl
carried_in_append l (p ∷ ps) qs = go (is_wrte p.command && eqb p.arg0 l) (carried_in_append l ps qs)
  where
    go : (b : Bool) → carried_in l (ps ++ qs) ≡ carried_in l ps ++ carried_in l qs
        → cond b (p.payload ++ carried_in l (ps ++ qs)) (carried_in l (ps ++ qs))
        ≡ cond b (p.payload ++ carried_in l ps) (carried_in l ps) ++ carried_in l qs
    go true e = ap (λ x. p.payload ++ x) e ∙ sym (append_assoc p.payload (carried_in l ps) (carried_in l qs))
    go false e = e

pub carried_append : (t l : ℕ) (u w : List Event) → carried t l (u ++ w) ≡ carried t l u ++ carried t l w
carried_append t l u w = ap (carried_in l) (packets_append t u w) ∙ carried_in_append l (packets_to t u) (packets_to t w)

-- the first ending is the one that counts
abbrev pub ending_or : Option Ending → Option Ending → Option Ending
ending_or None later = later
ending_or (Some ending) later = Some ending

pub ending_append : (l : ℕ) (u w : List Event) → ending_in l (u ++ w) ≡ ending_or (ending_in l u) (ending_in l w)
ending_append l [] w = refl
ending_append l (due_to_client client bytes ∷ u) w = ending_append l u w
ending_append l (due_to_link link packet check ∷ u) w = ending_append l u w
ending_append l (ended stream ending ∷ u) w = go (eqb stream l) (ending_append l u w)
  where
    go : (b : Bool) → ending_in l (u ++ w) ≡ ending_or (ending_in l u) (ending_in l w)
        → cond b (Some ending) (ending_in l (u ++ w)) ≡ ending_or (cond b (Some ending) (ending_in l u)) (ending_in l w)
    go true e = refl
    go false e = e

-- a packet that does not go up this stream
not_carried : (t l link : ℕ) (p : Packet) (u : List Event) (check : ℕ) → (is_wrte p.command && eqb p.arg0 l) ≡ false → carried t l u ≡ []
    → carried t l (due_to_link link p check ∷ u) ≡ []
not_carried t l link p u check none h = go (eqb link t)
  where
    go : (b : Bool) → carried_in l (cond b (p ∷ packets_to t u) (packets_to t u)) ≡ []
    go true = ap (λ (b : Bool). cond b (p.payload ++ carried t l u) (carried t l u)) none ∙ h
    go false = h

and_false : (a b : Bool) → a ≡ false → (a && b) ≡ false
and_false a b e = ap (λ (x : Bool). x && b) e

-- events that concern another stream, or none
abbrev pub IsApart : ℕ → Event → Type 0
IsApart l (due_to_client client bytes) = Unit {0}
IsApart l (due_to_link link packet check) = (is_wrte packet.command && eqb packet.arg0 l) ≡ false
IsApart l (ended stream ending) = eqb stream l ≡ false

pub silent_apart : (l : ℕ) (u : List Event) → Are (IsApart l) u → Silent l u
silent_apart l [] h = record { carries = λ t. refl; lives = refl }
silent_apart l (due_to_client client bytes ∷ u) h = let rest = silent_apart l u h.1 in record { carries = rest.carries; lives = rest.lives }
silent_apart l (due_to_link link packet check ∷ u) h =
    let rest = silent_apart l u h.1 in
    record { carries = λ t. not_carried t l link packet u check h.0 (rest.carries t); lives = rest.lives }
silent_apart l (ended stream ending ∷ u) h =
    let rest = silent_apart l u h.1 in
    record { carries = rest.carries; lives = ap (λ (b : Bool). cond b (Some ending) (ending_in l u)) h.0 ∙ rest.lives }

pub aside_apart : (l : ℕ) (e : Event) → IsAside e → IsApart l e
aside_apart l (due_to_client client bytes) h = tt
aside_apart l (due_to_link link packet check) h = and_false (is_wrte packet.command) (eqb packet.arg0 l) h.0
aside_apart l (ended stream ending) h = absurd h

pub silent_aside : (l : ℕ) (u : List Event) → Are IsAside u → Silent l u
silent_aside l u h = silent_apart l u (are_weaker IsAside (IsApart l) (aside_apart l) u h)

module _ (Such : Ending → Type 0) (k : ℕ) where
  pub end_apart : (l : ℕ) → l ≢ k → (e : Event) → IsEndOf Such k e → IsApart l e
  end_apart l apart (due_to_client client bytes) h = tt
  end_apart l apart (due_to_link link packet check) h = and_false (is_wrte packet.command) (eqb packet.arg0 l) h.0
  end_apart l apart (ended stream ending) h = ne_eqb stream l (λ e. apart (sym e ∙ h.0))

  pub silent_end : (l : ℕ) → l ≢ k → (u : List Event) → Are (IsEndOf Such k) u → Silent l u
  silent_end l apart u h = silent_apart l u (are_weaker (IsEndOf Such k) (IsApart l) (end_apart l apart) u h)

  -- the end of a stream carries nothing
  pub end_carries : (t : ℕ) (u : List Event) → Are (IsEndOf Such k) u → carried t k u ≡ []
  end_carries t [] h = refl
  end_carries t (due_to_client client bytes ∷ u) h = end_carries t u h.1
  end_carries t (due_to_link link packet check ∷ u) h =
      not_carried t k link packet u check (and_false (is_wrte packet.command) (eqb packet.arg0 k) h.0.0) (end_carries t u h.1)
  end_carries t (ended stream ending ∷ u) h = end_carries t u h.1

  -- and it is such a one
  pub end_such : (u : List Event) (ending : Ending) → Are (IsEndOf Such k) u → ending_in k u ≡ Some ending → Such ending
  end_such [] ending h e = let clash : None ≡ Some ending = e in cc
  end_such (due_to_client client bytes ∷ u) ending h e = end_such u ending h.1 e
  end_such (due_to_link link packet check ∷ u) ending h e = end_such u ending h.1 e
  end_such (ended stream first ∷ u) ending h e = go (eqb stream k) e (λ f. end_such u ending h.1 f)
    where
      go : (b : Bool) → cond b (Some first) (ending_in k u) ≡ Some ending → (ending_in k u ≡ Some ending → Such ending) → Such ending
      go true f later = subst Such (let both : Some first ≡ Some ending = f in cc) h.0.1
      go false f later = later f

pub up_apart : (k l : ℕ) → l ≢ k → (e : Event) → IsUpOf k e → IsApart l e
up_apart k l apart (due_to_client client bytes) h = tt
up_apart k l apart (due_to_link link packet check) h = go (is_wrte packet.command) refl
  where
    go : (b : Bool) → is_wrte packet.command ≡ b → (b && eqb packet.arg0 l) ≡ false
    go true e = ne_eqb packet.arg0 l (λ f. apart (sym f ∙ h.0 e))
    go false e = refl
up_apart k l apart (ended stream ending) h = ne_eqb stream l (λ e. apart (sym e ∙ h))

pub silent_up : (k l : ℕ) → l ≢ k → (u : List Event) → Are (IsUpOf k) u → Silent l u
silent_up k l apart u h = silent_apart l u (are_weaker (IsUpOf k) (IsApart l) (up_apart k l apart) u h)

-- what is silent is not closed
pub silent_open : (l : ℕ) (u : List Event) → Silent l u → ending_in l u ≡ Some ClientClosed → ⊥
silent_open l u h e = let clash : None ≡ Some ClientClosed = sym h.lives ∙ e in cc

-- ---- behind what was told
pub ending_split : (l : ℕ) (u w : List Event) (ending : Ending) → ending_in l (u ++ w) ≡ Some ending
    → (ending_in l u ≡ Some ending) ⊎ (ending_in l w ≡ Some ending)
ending_split l u w ending e = go (ending_in l u) refl (sym (ending_append l u w) ∙ e)
  where
    go : (o : Option Ending) → ending_in l u ≡ o → ending_or o (ending_in l w) ≡ Some ending
        → (ending_in l u ≡ Some ending) ⊎ (ending_in l w ≡ Some ending)
    go None is f = inr f
    go (Some first) is f = inl (is ∙ f)

pub ending_none : (l : ℕ) (u w : List Event) → ending_in l u ≡ None → ending_in l w ≡ None → ending_in l (u ++ w) ≡ None
ending_none l u w h i = ending_append l u w ∙ (ap (λ e. ending_or e (ending_in l w)) h ∙ i)

pub carried_none : (t l : ℕ) (u w : List Event) → carried t l w ≡ [] → carried t l (u ++ w) ≡ carried t l u
carried_none t l u w h = carried_append t l u w ∙ (ap (λ x. carried t l u ++ x) h ∙ append-nil (carried t l u))
