-- Packets behind the CLSE of a stream: none of them carries anything of it.
use Rattle.std.proofs.Common.{◌≡◌, ◌≢◌, ℕ, ◌+◌, ◌<◌, Bool, true, false, cond, List, [], ◌∷◌, ◌++◌, refl, sym, ap, subst, ◌∙◌, arith, ◌⊎◌}
use Rattle.std.proofs.Common.{inl, inr, eqb}
use Rattle.std.specs.Prelude.{◌&&◌, ◌||◌}
use Rattle.std.proofs.lemmas.Bool.{ne_eqb}
use Rattle.adb_wire.specs.declared.packets.Packet.{Packet}
use Rattle.adb_wire.specs.declared.command.Command.{Command}
use Rattle.adb_history.specs.Events.{Event, due_to_client, due_to_link, ended, packets_to}
use Rattle.adb_history.specs.declared.ending.Ending.{Ending}
use Rattle.adb_history.specs.Births.{carried_in, count_from, is_wrte, is_clse}
use Rattle.adb_laws_fifo_up.specs.Climbing.{carried, IsAside, IsEndOf, IsUpOf, Are, is_shut}
use Rattle.adb_laws_fifo_up.proofs.Seeing.{aside_apart, up_apart, carried_none, IsApart, are_weaker, carried_in_append, packets_append}

-- whether packets close a stream
abbrev pub has_close : ℕ → List Packet → Bool
has_close l [] = false
has_close l (p ∷ ps) = (is_clse p.command && eqb p.arg0 l) || has_close l ps

-- nothing goes up a stream behind a packet that closes it
abbrev pub IsLast : ℕ → List Packet → Type 0
IsLast l [] = Unit {0}
IsLast l (p ∷ ps) = ((is_clse p.command && eqb p.arg0 l) ≡ true → carried_in l ps ≡ []) × IsLast l ps

-- ---- lists
none_left : (x y : List ℕ) → x ++ y ≡ [] → y ≡ []
none_left [] y e = e
none_left (b ∷ x) y e = let clash : b ∷ (x ++ y) ≡ [] = e in cc

pub or_left : (a b : Bool) → a ≡ true → (a || b) ≡ true
or_left a b e = ap (λ (x : Bool). x || b) e

pub or_right : (a b : Bool) → b ≡ true → (a || b) ≡ true
or_right true b e = refl
or_right false b e = e

or_cases : (a b : Bool) → (a || b) ≡ true → (a ≡ true) ⊎ (b ≡ true)
or_cases true b e = inl refl
or_cases false b e = inr e

pub last_append : (l : ℕ) (ps qs : List Packet) → IsLast l ps → IsLast l qs
    → (has_close l ps ≡ true → carried_in l qs ≡ []) → IsLast l (ps ++ qs)
last_append l [] qs h i none = i
last_append l (p ∷ ps) qs h i none = (
  λ e. carried_in_append l ps qs
      ∙ (ap (λ x. x ++ carried_in l qs) (h.0 e)
      ∙ none (or_left (is_clse p.command && eqb p.arg0 l) (has_close l ps) e)),
  last_append l ps qs h.1 i (λ e. none (or_right (is_clse p.command && eqb p.arg0 l) (has_close l ps) e)),
)

pub last_split : (l : ℕ) (ps qs : List Packet) → IsLast l (ps ++ qs) → has_close l ps ≡ true → carried_in l qs ≡ []
last_split l [] qs h e = let clash : false ≡ true = e in cc
last_split l (p ∷ ps) qs h e = go (or_cases (is_clse p.command && eqb p.arg0 l) (has_close l ps) e) (last_split l ps qs h.1)
  where
    go : ((is_clse p.command && eqb p.arg0 l) ≡ true) ⊎ (has_close l ps ≡ true)
        → (has_close l ps ≡ true → carried_in l qs ≡ []) → carried_in l qs ≡ []
    go (inl here) rest = none_left (carried_in l ps) (carried_in l qs) (sym (carried_in_append l ps qs) ∙ h.0 here)
    go (inr later) rest = rest later

-- packets of which none goes up
abbrev NoneUp : ℕ → List Packet → Type 0
NoneUp l [] = Unit {0}
NoneUp l (p ∷ ps) = ((is_wrte p.command && eqb p.arg0 l) ≡ false) × NoneUp l ps

none_carried : (l : ℕ) (ps : List Packet) → NoneUp l ps → carried_in l ps ≡ []
none_carried l [] h = refl
none_carried l (p ∷ ps) h = ap (λ (b : Bool). cond b (p.payload ++ carried_in l ps) (carried_in l ps)) h.0 ∙ none_carried l ps h.1

none_last : (l : ℕ) (ps : List Packet) → NoneUp l ps → IsLast l ps
none_last l [] h = tt
none_last l (p ∷ ps) h = (λ e. none_carried l ps h.1, none_last l ps h.1)

-- events of which none goes up a stream
abbrev pub IsDry : ℕ → Event → Type 0
IsDry l (due_to_client client bytes) = Unit {0}
IsDry l (due_to_link link packet check) = (is_wrte packet.command && eqb packet.arg0 l) ≡ false
IsDry l (ended stream ending) = Unit {0}

pub apart_dry : (l : ℕ) (e : Event) → IsApart l e → IsDry l e
apart_dry l (due_to_client client bytes) h = tt
apart_dry l (due_to_link link packet check) h = h
apart_dry l (ended stream ending) h = tt

pub end_dry : (Such : Ending → Type 0) (k l : ℕ) (e : Event) → IsEndOf Such k e → IsDry l e
end_dry Such k l (due_to_client client bytes) h = tt
end_dry Such k l (due_to_link link packet check) h = ap (λ (b : Bool). b && eqb packet.arg0 l) h.0
end_dry Such k l (ended stream ending) h = tt

none_up : (t l : ℕ) (u : List Event) → Are (IsDry l) u → NoneUp l (packets_to t u)
none_up t l [] h = tt
none_up t l (due_to_client client bytes ∷ u) h = none_up t l u h.1
none_up t l (due_to_link link packet check ∷ u) h = go (eqb link t) (none_up t l u h.1)
  where
    go : (b : Bool) → NoneUp l (packets_to t u) → NoneUp l (cond b (packet ∷ packets_to t u) (packets_to t u))
    go true rest = (h.0, rest)
    go false rest = rest
none_up t l (ended stream ending ∷ u) h = none_up t l u h.1

-- how many writes there are of a stream
pub count_append : (is_such : Command → Bool) (l : ℕ) (ps qs : List Packet)
    → count_from is_such l (ps ++ qs) ≡ count_from is_such l ps + count_from is_such l qs
count_append is_such l [] qs = omega arith
count_append is_such l (p ∷ ps) qs = go (is_such p.command && eqb p.arg0 l) (count_append is_such l ps qs)
  where
    go : (b : Bool) → count_from is_such l (ps ++ qs) ≡ count_from is_such l ps + count_from is_such l qs
        → cond b (1 + count_from is_such l (ps ++ qs)) (count_from is_such l (ps ++ qs))
        ≡ cond b (1 + count_from is_such l ps) (count_from is_such l ps) + count_from is_such l qs
    go true e = omega (arith, e)
    go false e = e

none_counted : (l : ℕ) (ps : List Packet) → NoneUp l ps → count_from is_wrte l ps ≡ 0
none_counted l [] h = refl
none_counted l (p ∷ ps) h = ap (λ (b : Bool). cond b (1 + count_from is_wrte l ps) (count_from is_wrte l ps)) h.0 ∙ none_counted l ps h.1

-- ---- events
pub close_shut : (t l : ℕ) (w : List Event) → has_close l (packets_to t w) ≡ true → is_shut l w ≡ true
close_shut t l [] e = e
close_shut t l (due_to_client client bytes ∷ w) e = close_shut t l w e
close_shut t l (due_to_link link packet check ∷ w) e = go (eqb link t) e (close_shut t l w)
  where
    either : ((is_clse packet.command && eqb packet.arg0 l) ≡ true) ⊎ (has_close l (packets_to t w) ≡ true)
        → (has_close l (packets_to t w) ≡ true → is_shut l w ≡ true) → ((is_clse packet.command && eqb packet.arg0 l) || is_shut l w) ≡ true
    either (inl here) rest = or_left (is_clse packet.command && eqb packet.arg0 l) (is_shut l w) here
    either (inr f) rest = or_right (is_clse packet.command && eqb packet.arg0 l) (is_shut l w) (rest f)

    go : (b : Bool) → has_close l (cond b (packet ∷ packets_to t w) (packets_to t w)) ≡ true
        → (has_close l (packets_to t w) ≡ true → is_shut l w ≡ true) → ((is_clse packet.command && eqb packet.arg0 l) || is_shut l w) ≡ true
    go true f rest = either (or_cases (is_clse packet.command && eqb packet.arg0 l) (has_close l (packets_to t w)) f) rest
    go false f rest = or_right (is_clse packet.command && eqb packet.arg0 l) (is_shut l w) (rest f)
close_shut t l (ended stream ending ∷ w) e = close_shut t l w e

pub shut_cases : (l : ℕ) (u w : List Event) → is_shut l (u ++ w) ≡ true → (is_shut l u ≡ true) ⊎ (is_shut l w ≡ true)
shut_cases l [] w e = inr e
shut_cases l (due_to_client client bytes ∷ u) w e = shut_cases l u w e
shut_cases l (due_to_link link packet check ∷ u) w e =
    go (or_cases (is_clse packet.command && eqb packet.arg0 l) (is_shut l (u ++ w)) e) (shut_cases l u w)
  where
    later : (is_shut l u ≡ true) ⊎ (is_shut l w ≡ true)
        → (((is_clse packet.command && eqb packet.arg0 l) || is_shut l u) ≡ true) ⊎ (is_shut l w ≡ true)
    later (inl f) = inl (or_right (is_clse packet.command && eqb packet.arg0 l) (is_shut l u) f)
    later (inr f) = inr f

    go : ((is_clse packet.command && eqb packet.arg0 l) ≡ true) ⊎ (is_shut l (u ++ w) ≡ true)
        → (is_shut l (u ++ w) ≡ true → (is_shut l u ≡ true) ⊎ (is_shut l w ≡ true))
        → (((is_clse packet.command && eqb packet.arg0 l) || is_shut l u) ≡ true) ⊎ (is_shut l w ≡ true)
    go (inl here) rest = inl (or_left (is_clse packet.command && eqb packet.arg0 l) (is_shut l u) here)
    go (inr f) rest = later (rest f)
shut_cases l (ended stream ending ∷ u) w e = shut_cases l u w e

-- events that do not close a stream
abbrev IsOpenFor : ℕ → Event → Type 0
IsOpenFor l (due_to_client client bytes) = Unit {0}
IsOpenFor l (due_to_link link packet check) = (is_clse packet.command && eqb packet.arg0 l) ≡ false
IsOpenFor l (ended stream ending) = Unit {0}

not_shut : (l : ℕ) (u : List Event) → Are (IsOpenFor l) u → is_shut l u ≡ false
not_shut l [] h = refl
not_shut l (due_to_client client bytes ∷ u) h = not_shut l u h.1
not_shut l (due_to_link link packet check ∷ u) h = ap (λ (b : Bool). b || is_shut l u) h.0 ∙ not_shut l u h.1
not_shut l (ended stream ending ∷ u) h = not_shut l u h.1

-- a packet that closes none but these does not close this one
open_packet_for : (l : ℕ) (p : Packet) → (is_clse p.command ≡ true → p.arg0 ≢ l) → (is_clse p.command && eqb p.arg0 l) ≡ false
open_packet_for l p h = go (is_clse p.command) refl
  where
    go : (b : Bool) → is_clse p.command ≡ b → (b && eqb p.arg0 l) ≡ false
    go true e = ne_eqb p.arg0 l (h e)
    go false e = refl

module _ (l : ℕ) (some : 0 < l) where
  aside_open : (e : Event) → IsAside e → IsOpenFor l e
  aside_open (due_to_client client bytes) h = tt
  aside_open (due_to_link link packet check) h = open_packet_for l packet (λ e same. omega (arith, some, h.1 e, same))
  aside_open (ended stream ending) h = tt

  pub aside_not_shut : (u : List Event) → Are IsAside u → is_shut l u ≡ false
  aside_not_shut u h = not_shut l u (are_weaker IsAside (IsOpenFor l) aside_open u h)

  module _ (k : ℕ) (apart : l ≢ k) where
    other : (p : Packet) → (is_clse p.command ≡ true → (p.arg0 ≡ 0) ⊎ (p.arg0 ≡ k)) → is_clse p.command ≡ true → p.arg0 ≢ l
    other p h e same = go (h e)
      where
        go : (p.arg0 ≡ 0) ⊎ (p.arg0 ≡ k) → ⊥
        go (inl none) = omega (arith, some, none, same)
        go (inr is) = apart (sym same ∙ is)

    end_open : (Such : Ending → Type 0) (e : Event) → IsEndOf Such k e → IsOpenFor l e
    end_open Such (due_to_client client bytes) h = tt
    end_open Such (due_to_link link packet check) h = open_packet_for l packet (other packet h.1)
    end_open Such (ended stream ending) h = tt

    pub end_not_shut : (Such : Ending → Type 0) (u : List Event) → Are (IsEndOf Such k) u → is_shut l u ≡ false
    end_not_shut Such u h = not_shut l u (are_weaker (IsEndOf Such k) (IsOpenFor l) (end_open Such) u h)

    up_open : (e : Event) → IsUpOf k e → IsOpenFor l e
    up_open (due_to_client client bytes) h = tt
    up_open (due_to_link link packet check) h = open_packet_for l packet (other packet h.1)
    up_open (ended stream ending) h = tt

    pub up_not_shut : (u : List Event) → Are (IsUpOf k) u → is_shut l u ≡ false
    up_not_shut u h = not_shut l u (are_weaker (IsUpOf k) (IsOpenFor l) up_open u h)

-- behind what was told, events of which none goes up
pub last_dry : (t l : ℕ) (w u : List Event) → IsLast l (packets_to t w) → Are (IsDry l) u → IsLast l (packets_to t (w ++ u))
last_dry t l w u h none =
    let free = none_up t l u none in
    subst (IsLast l) (sym (packets_append t w u)) (last_append l (packets_to t w) (packets_to t u) h (none_last l (packets_to t u) free)
    (λ e. none_carried l (packets_to t u) free))

pub count_dry : (t l : ℕ) (w u : List Event) → Are (IsDry l) u
    → count_from is_wrte l (packets_to t (w ++ u)) ≡ count_from is_wrte l (packets_to t w)
count_dry t l w u none =
    let none_of : count_from is_wrte l (packets_to t u) ≡ 0 = none_counted l (packets_to t u) (none_up t l u none) in
    ap (count_from is_wrte l) (packets_append t w u) ∙ (count_append is_wrte l (packets_to t w) (packets_to t u) ∙ omega (arith, none_of))

pub carried_dry : (t l : ℕ) (w u : List Event) → Are (IsDry l) u → carried t l (w ++ u) ≡ carried t l w
carried_dry t l w u none = carried_none t l w u (none_carried l (packets_to t u) (none_up t l u none))

pub no_writes : (t l : ℕ) (w : List Event) → Are (IsDry l) w → (count_from is_wrte l (packets_to t w) ≡ 0) × (carried t l w ≡ [])
no_writes t l w none = (none_counted l (packets_to t w) (none_up t l w none), none_carried l (packets_to t w) (none_up t l w none))

-- ---- all of them
pub aside_are_dry : (l : ℕ) (u : List Event) → Are IsAside u → Are (IsDry l) u
aside_are_dry l u h = are_weaker IsAside (IsDry l) (λ e a. apart_dry l e (aside_apart l e a)) u h

pub end_are_dry : (Such : Ending → Type 0) (k l : ℕ) (u : List Event) → Are (IsEndOf Such k) u → Are (IsDry l) u
end_are_dry Such k l u h = are_weaker (IsEndOf Such k) (IsDry l) (end_dry Such k l) u h

pub up_are_dry : (k l : ℕ) → l ≢ k → (u : List Event) → Are (IsUpOf k) u → Are (IsDry l) u
up_are_dry k l apart u h = are_weaker (IsUpOf k) (IsDry l) (λ e a. apart_dry l e (up_apart k l apart e a)) u h
