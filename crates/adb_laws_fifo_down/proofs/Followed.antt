-- What lasts from the birth of a stream on holds of every legal history.
use Rattle.std.proofs.Common.{ℕ, ◌+◌, ◌≡◌, ◌≢◌, ◌≤◌, ◌<◌, zero, suc, Bool, true, false, cond, List, [], ◌∷◌, length, min, Option, Some}
use Rattle.std.proofs.Common.{None, is_some}
use Rattle.std.proofs.Common.{is_none, refl}
use Rattle.std.proofs.Common.{sym, ◌∙◌, ap, subst, eqb, arith, inl, inr, ◌⊎◌}
use Rattle.std.specs.Prelude.{All, ◌&&◌, not}
use Rattle.std.proofs.lemmas.Bool.{eqb-true, cases_eq}
use Rattle.std.proofs.lemmas.List.{length-append}
use Rattle.std.proofs.lemmas.List.Elements.{All-head, All-tail}
use Rattle.adb_outside.specs.Tables.{at}
use Rattle.adb_wire.specs.declared.command.Command.{Command}
use Rattle.adb_wire.specs.declared.command.Command.TheVariants.{Cnxn}
use Rattle.adb_reply.specs.declared.answer.Next.{Next}
use Rattle.adb_reply.specs.declared.answer.Next.TheVariants as what
use Rattle.adb_client.specs.declared.about.Want.{Want}
use Rattle.adb_capture.specs.declared.entry.Entry.{Entry}
use Rattle.adb_capture.specs.declared.entry.Entry.TheVariants.{Enter, Read, Bound, Recv}
use Rattle.adb_history.specs.Events.{Event, due_to_client, due_to_link, ended, packets_to}
use Rattle.adb_history.specs.Streams.{stream_ids}
use Rattle.adb_history.specs.Asking.{Asked}
use Rattle.adb_history.specs.Machine.{History, state, told, IsLegal}
use Rattle.adb_history.specs.Bytes.{has_joined, has_ended, brought}
use Rattle.adb_history.specs.Book.{book, asked, devices, forwards, newly, asked_with, bound_turn}
use Rattle.adb_history.specs.Births.{Birth, births, births_at, born, is_okay}
use Rattle.adb_history.specs.Fifo.{okays_of, HasBirths}
use Rattle.adb_history.specs.Order.{IsOfBorn}
use Rattle.adb_history.proofs.Births.{told_of_born}
use Rattle.adb_laws_fifo_down.specs.Follows.{line, is_shut, PromiseOf, Follows}
use Rattle.adb_laws_fifo_down.specs.Begins.{Lasts, IsBornNow}
use Rattle.adb_laws_births.proofs.Born.{all_births}
use Rattle.adb_laws_fifo_down.proofs.Brought.{brings_more}
use Rattle.adb_laws_fifo_down.proofs.Steps.{step_holds, unreceived}
use Rattle.adb_laws_fifo_down.proofs.BornNow.{born_when, by_request, by_forward, newly_is}
use Rattle.adb_laws_fifo_down.proofs.Askers.{asked_then, asked_other}
use Rattle.adb_laws_fifo_down.proofs.Unborn.{ends_born}
use Rattle.adb_laws_fifo_down.proofs.BirthEntries.{IsUnborn, asked_birth, entered_birth, now_asks, read_born, enter_born}
use Rattle.adb_laws_births.proofs.Single.{came_more}

-- ---- what stays
-- a client asks no more once what follows its last request is known
and_not_false : (joined over : Bool) → (joined && not over && false) ≡ false
and_not_false true true = refl
and_not_false true false = refl
and_not_false false over = refl

asks_none : (joined over : Bool) (next : Option Next) → is_some next ≡ true → (joined && not over && is_none next) ≡ false
asks_none joined over (Some next) e = and_not_false joined over
asks_none joined over None e = absurd (cc)

pub asked_fixed : (e : Entry) (older : History) (c : ℕ) → is_some (asked c older).next ≡ true → asked c (e ∷ older) ≡ asked c older
asked_fixed (Read n bytes) older c done = by (cases_eq n c)
  where
    own : asked c (Read c bytes ∷ older) ≡ asked c older
    own =
        asked_then c bytes older
        ∙ ap (λ (asks : Bool). asked_with asks (devices older) (forwards older) bytes (asked c older))
        (asks_none (has_joined c older) (has_ended c older) (asked c older).next done)

    by : (n ≡ c) ⊎ (n ≢ c) → asked c (Read n bytes ∷ older) ≡ asked c older
    by (inl same) = subst (λ (m : ℕ). asked c (Read m bytes ∷ older) ≡ asked c older) (sym same) own
    by (inr other) = asked_other n c bytes older other
asked_fixed (Bound n port) older c done = by ((book older).waits n)
  where
    by : (want : Option Want) → (bound_turn n port (devices older) want (book older)).asked c ≡ asked c older
    by None = refl
    by (Some want) = refl
asked_fixed _ older c done = refl

-- a link brings no fewer packets
brought_recv : (t n : ℕ) (bytes : List ℕ) (older : History) → length (brought t older) ≤ length (brought t (Recv n bytes ∷ older))
brought_recv t n bytes older = by (cases_eq n t)
  where
    own : (shut : Bool) → is_shut t older ≡ shut → length (brought t older) ≤ length (brought t (Recv t bytes ∷ older))
    own true e = let same = ap length ((brings_more t bytes older).none e).0 in omega (arith, same)
    own false e =
        let more = (brings_more t bytes older).some e in
        omega (arith, ap length more.1, length-append (brought t older) more.0)

    by : (n ≡ t) ⊎ (n ≢ t) → length (brought t older) ≤ length (brought t (Recv n bytes ∷ older))
    by (inl same) = subst (λ (m : ℕ). length (brought t older) ≤ length (brought t (Recv m bytes ∷ older))) (sym same)
        (own (is_shut t older) refl)
    by (inr other) =
        let same = ap (λ (x : List ℕ). length (Rattle.adb_wire.specs.Cutting.framed x).given) (unreceived n t bytes older other) in
        omega (arith, same)

brought_no_fewer : (e : Entry) (t : ℕ) (older : History) → length (brought t older) ≤ length (brought t (e ∷ older))
brought_no_fewer (Recv n bytes) t older = brought_recv t n bytes older
brought_no_fewer _ t older = omega arith

-- ---- no OKAY of a stream that was not born
okay_no_cnxn : (c : Command) → is_okay c ≡ true → c ≢ Cnxn
okay_no_cnxn c e is = let clash : false ≡ true = sym (ap is_okay is) ∙ e in cc

pub unborn_okays : (drawn t : ℕ) (w : List Event) → All (IsOfBorn drawn) w → okays_of (drawn + 1) (packets_to t w) ≡ []
unborn_okays drawn t [] all = refl
unborn_okays drawn t (due_to_client client bytes ∷ w) all = unborn_okays drawn t w
    (All-tail (IsOfBorn drawn) (due_to_client client bytes) w all)
unborn_okays drawn t (ended stream ending ∷ w) all = unborn_okays drawn t w (All-tail (IsOfBorn drawn) (ended stream ending) w all)
unborn_okays drawn t (due_to_link link p check ∷ w) all =
    by (eqb link t) (unborn_okays drawn t w (All-tail (IsOfBorn drawn) (due_to_link link p check) w all))
    (All-head (IsOfBorn drawn) (due_to_link link p check) w all)
  where
    one : (okay here : Bool) → is_okay p.command ≡ okay → eqb p.arg0 (drawn + 1) ≡ here → (p.command ≢ Cnxn → p.arg0 ≤ drawn)
        → okays_of (drawn + 1) (packets_to t w) ≡ []
        → cond (okay && here) (p ∷ okays_of (drawn + 1) (packets_to t w)) (okays_of (drawn + 1) (packets_to t w)) ≡ []
    one true true e f of rest = absurd (omega (arith, of (okay_no_cnxn p.command e), eqb-true p.arg0 (drawn + 1) f))
    one true false e f of rest = rest
    one false here e f of rest = rest

    by : (here : Bool) → okays_of (drawn + 1) (packets_to t w) ≡ [] → (p.command ≢ Cnxn → p.arg0 ≤ drawn)
        → okays_of (drawn + 1) (cond here (p ∷ packets_to t w) (packets_to t w)) ≡ []
    by true rest of = one (is_okay p.command) (eqb p.arg0 (drawn + 1)) refl refl of rest
    by false rest of = rest

-- ---- at all times
module _ {P : PromiseOf} (lasts : Lasts P) where
  follows_on : (e : Entry) (older : History) → IsLegal (e ∷ older) → (l : ℕ) (b : Birth) → 0 < l → Follows P older l b
      → Follows P (e ∷ older) l b
  follows_on e older legal l b some h = record {
    cradle = h.cradle;
    credit = h.credit;
    forwarded = h.forwarded;
    replies = h.replies ∙ by b.forwarded refl;
    asks_no_more = λ own. ap (λ (q : Asked). is_some q.next) (fixed own) ∙ h.asks_no_more own;
    came = omega (arith, h.came, came_more e older);
    within = omega (arith, h.within, brought_no_fewer e b.link older);
    holds = step_holds l b (lasts.turns (line l b) h.cradle) older legal.0
        (record { some = some; came = h.came; within = h.within }) h.holds e legal.2;
  }
    where
      fixed : b.forwarded ≡ false → asked b.client (e ∷ older) ≡ asked b.client older
      fixed own = asked_fixed e older b.client (h.asks_no_more own)

      by : (forwarded : Bool) → b.forwarded ≡ forwarded
          → cond forwarded [] (asked b.client older).replies ≡ cond forwarded [] (asked b.client (e ∷ older)).replies
      by true own = refl
      by false own = sym (ap (λ (q : Asked). q.replies) (fixed own))

  -- ---- a stream is born
  module _ (e : Entry) (older : History) (legal : IsLegal (e ∷ older)) (births_before : HasBirths older) (l : ℕ)
      (b : Birth) (now : IsBornNow l b e older) where
    drawn_as : (state older).drawn ≡ length (births older)
    drawn_as = births_before.drawn ∙ least (length (births older)) stream_ids now.within
      where
        least : (n m : ℕ) → n < m → min n m ≡ n
        least n m lt = omega (arith, lt)

    number_as : l ≡ (state older).drawn + 1
    number_as = now.number ∙ ap (λ (n : ℕ). n + 1) (sym drawn_as)

    some_left : (state older).drawn ≢ stream_ids
    some_left same = apart (length (births older)) stream_ids now.within (sym drawn_as ∙ same)
      where
        apart : (n m : ℕ) → n < m → n ≢ m
        apart n m lt same = omega (arith, lt, same)

    unborn : (t : ℕ) → IsUnborn ((state older).drawn + 1) t (told older)
    unborn t = record {
      okays = unborn_okays (state older).drawn t (told older) (told_of_born older legal.0);
      ending = ends_born older legal.0 ((state older).drawn + 1) (omega arith);
    }

    at_number : (x : Birth) → b ≡ x → Follows P (e ∷ older) ((state older).drawn + 1) x → Follows P (e ∷ older) l b
    at_number x is h = subst (λ (n : ℕ). Follows P (e ∷ older) n b) (sym number_as)
        (subst (Follows P (e ∷ older) ((state older).drawn + 1)) (sym is) h)

  born_by_read : (c : ℕ) (bytes : List ℕ) (older : History) → IsLegal (Read c bytes ∷ older) → HasBirths older → (l : ℕ) (b : Birth)
      → IsBornNow l b (Read c bytes) older → Follows P (Read c bytes ∷ older) l b
  born_by_read c bytes older legal births_before l b now =
      let head = (asked c (Read c bytes ∷ older)).used in
      let by = by_request c head older (newly (asked c older).next (asked c (Read c bytes ∷ older)).next) b now.is in
      let next = newly_is (asked c older).next (asked c (Read c bytes ∷ older)).next (what.Open by.transport by.service) by.opens in
      at_number (Read c bytes) older legal births_before l b now (asked_birth c by.transport by.service head older) by.birth
      (read_born lasts c bytes older legal by.transport by.service head
      (now_asks c bytes older (what.Open by.transport by.service) next.0 next.1)
      (some_left (Read c bytes) older legal births_before l b now) (unborn (Read c bytes) older legal births_before l b now by.transport))

  born_by_enter : (c port : ℕ) (older : History) → IsLegal (Enter c port ∷ older) → HasBirths older → (l : ℕ) (b : Birth)
      → IsBornNow l b (Enter c port) older → Follows P (Enter c port ∷ older) l b
  born_by_enter c port older legal births_before l b now =
      let by = by_forward c older (at port (forwards older)) b now.is in
      at_number (Enter c port) older legal births_before l b now (entered_birth c by.row older) by.birth
      (enter_born lasts c port older legal by.row by.is by.connected (some_left (Enter c port) older legal births_before l b now)
      (unborn (Enter c port) older legal births_before l b now by.row.transport))

  none_born : (l : ℕ) (b : Birth) (e : Entry) (older : History) → births_at e older ≡ [] → IsBornNow l b e older → Follows P (e ∷ older) l b
  none_born l b e older none now = absurd (let clash : [] ≡ b ∷ [] = sym none ∙ now.is in cc)

  follows_first : (e : Entry) (older : History) → IsLegal (e ∷ older) → HasBirths older → (l : ℕ) (b : Birth) → IsBornNow l b e older
      → Follows P (e ∷ older) l b
  follows_first (Read c bytes) older legal births_before l b now = born_by_read c bytes older legal births_before l b now
  follows_first (Enter c port) older legal births_before l b now = born_by_enter c port older legal births_before l b now
  follows_first e older legal births_before l b now = none_born l b e older refl now

  -- no stream has the id 0
  some_id : (l : ℕ) (b : Birth) (h : History) → born l h ≡ Some b → 0 < l
  some_id zero b h is = absurd (let clash : None ≡ Some b = is in cc)
  some_id (suc l) b h is = omega arith

  pub follows : (h : History) → IsLegal h → (l : ℕ) (b : Birth) → born l h ≡ Some b → Follows P h l b
  follows [] legal l b is = absurd (none l is)
    where
      none : (l : ℕ) → born l [] ≡ Some b → ⊥
      none zero e = let clash : None ≡ Some b = e in cc
      none (suc j) e = by (Rattle.std.specs.Prelude.nat_lt j stream_ids) e
        where
          by : (lt : Bool) → cond lt None None ≡ Some b → ⊥
          by true f = let clash : None ≡ Some b = f in cc
          by false f = let clash : None ≡ Some b = f in cc
  follows (e ∷ older) legal l b is = go (born_when l b e older is) (λ before. follows older legal.0 l b before)
    where
      go : (born l older ≡ Some b) ⊎ IsBornNow l b e older → (born l older ≡ Some b → Follows P older l b) → Follows P (e ∷ older) l b
      go (inl before) rest = follows_on e older legal l b (some_id l b older before) (rest before)
      go (inr now) rest = follows_first e older legal (all_births older legal.0) l b now
