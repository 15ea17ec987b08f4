-- What a model device serves behind what it owed: the tolls of what becomes due, against the CLSEs of the rows that live.
use Rattle.std.specs.Prelude.{ℕ, ◌+◌, ◌==◌, ◌≡◌, ◌≢◌, ◌≤◌, ◌<◌, ◌||◌, if◌then◌else◌, Bool, true, false, All, List, [], ◌∷◌, ◌++◌, length}
use Rattle.std.specs.Prelude.{map, fold, cond, Option}
use Rattle.std.specs.Prelude.{Some, None, zero, suc, option_map, unwrap_or}
use Rattle.std.specs.List.Sorted.{IsStrictlySortedBy}
use Rattle.std.specs.BTreeMap.{is_at}
use Rattle.std.specs.Ordering.{nat_cmp}
use Rattle.std.proofs.Common.{refl, sym, ◌∙◌, ap, subst, arith, append_assoc, ◌⊎◌, inl, inr}
use Rattle.std.proofs.lemmas.Bool.{cases_eq, cases_lt, eqb-true}
use Rattle.std.proofs.lemmas.Cmp.{nat_cmp_total}
use Rattle.std.proofs.lemmas.Map.Entries.{sum_by-remove_entry, sum_by-insert_entry}
use Rattle.std.proofs.lemmas.List.Elements.{All-nil, All-cons, All-append, All-head, All-tail}
use Rattle.byteorder.specs.Endian.{little_bytes}
use Rattle.adb_outside.specs.Tables.{at, IsRising, put_at, without}
use Rattle.adb_outside.proofs.TableLaws.{at_head, at_tail, puts_put_at, puts_without, put_at_rises, without_rises}
use Rattle.adb_wire.specs.declared.command.Command.{Command}
use Rattle.adb_wire.specs.declared.command.Command.TheVariants as commands
use Rattle.adb_wire.specs.declared.packets.Packet.{Packet}
use Rattle.adb_wire.specs.Format.{is_cnxn}
use Rattle.adb_stream.specs.declared.flow.Flow.{Flow}
use Rattle.adb_stream.specs.declared.flow.Flow.TheVariants as flows
use Rattle.adb_device_streams.specs.Asked.{Kind}
use Rattle.adb_device_streams.specs.Service.{came_over, files_fed, files_opened}
use Rattle.adb_device_streams.specs.Stream.{Row, opened, row_took, row_acked, row_past, row_past_all, row_written, writes, writes_at}
use Rattle.adb_device_streams.specs.Stream.{next_payload, unsent, is_done}
use Rattle.adb_device_streams.specs.Stream.{opening_word, wrte, okay, clse}
use Rattle.adb_device_streams.specs.Link.{link_of, credit_word_in}
use Rattle.adb_device_streams.specs.declared.link.Link.{Link}
use Rattle.adb_daemon.specs.Streams.{over_at}
use Rattle.adb_daemon.proofs.Standing.{other_over}
use Rattle.adb_daemon.specs.Serving.{Serving, Ended, Sent, ended_at, with_sum, owing, granted, kept, gone, sent_writes, sent_close}
use Rattle.adb_daemon.specs.Serving.{settled_as, settled, credit_of, open_as, is_taken}
use Rattle.adb_daemon.specs.Serving.{kind_for, on_open, named, sent_ack, written_to, acked_to, on_okay, closed_to, closable, on_close}
use Rattle.adb_daemon.specs.Serving.{all_gone, served}
use Rattle.adb_daemon.specs.Device.{Setting, Device, linked_to, served_on, step}
use Rattle.adb_laws_steps.specs.Tolls.{toll}
use Rattle.adb_laws_steps.specs.Owed.{answer_toll, answer_tolls, asks, sent_tolls, IsFine, AsksFor, row_toll, row_tolls}

-- ---- ids that were drawn
-- an id that was not drawn
abbrev pub IsUndrawn : ℕ → ℕ → Type 0
IsUndrawn drawn own = (own ≡ 0) ⊎ (drawn < own)

not_drawn : (drawn own k : ℕ) → (0 < own) × (own ≤ drawn) → IsUndrawn drawn k → k ≡ own → ⊥
not_drawn drawn own k (some, le) (inl zeroth) same = omega (arith, some, zeroth, same)
not_drawn drawn own k (some, le) (inr past) same = omega (arith, le, past, same)

fewer_drawn : (drawn own : ℕ) → IsUndrawn (drawn + 1) own → IsUndrawn drawn own
fewer_drawn drawn own (inl zeroth) = inl zeroth
fewer_drawn drawn own (inr past) = inr (omega (arith, past))

there_drawn : (own : ℕ) (row : Row) (s : Serving)
    → ((k : ℕ) → IsUndrawn s.drawn k → (at k s.rows ≡ None) × (over_at k s.ended ≡ None)) → at own s.rows ≡ Some row
    → (0 < own) × (own ≤ s.drawn)
there_drawn own row s fresh is = (some (cases_eq own 0), within (cases_lt s.drawn own))
  where
    some : (own ≡ 0) ⊎ (own ≡ 0 → ⊥) → 0 < own
    some (inl e) = absurd (let clash : None ≡ Some row = sym (fresh own (inl e)).0 ∙ is in cc)
    some (inr other) = omega (arith, other)

    within : (s.drawn < own) ⊎ (own ≤ s.drawn) → own ≤ s.drawn
    within (inl past) = absurd (let clash : None ≡ Some row = sym (fresh own (inr past)).0 ∙ is in cc)
    within (inr le) = le

-- all rows end: nothing of an id that has none
all_over : (own : ℕ) (rows : List (ℕ × Row)) (ended : List Ended) → at own rows ≡ None
    → over_at own (map (ended_at false) rows ++ ended) ≡ over_at own ended
all_over own [] ended none = refl
all_over own (e ∷ rows) ended none = go (cases_eq own e.0) (λ later. all_over own rows ended later)
  where
    go : (own ≡ e.0) ⊎ (own ≡ e.0 → ⊥) → (at own rows ≡ None → over_at own (map (ended_at false) rows ++ ended) ≡ over_at own ended)
        → over_at own (map (ended_at false) (e ∷ rows) ++ ended) ≡ over_at own ended
    go (inl same) others =
        absurd (let clash : Some e.1 ≡ None =
        sym (at_head e rows) ∙ (ap (λ (k : ℕ). at k (e ∷ rows)) (sym same) ∙ none) in cc)
    go (inr other) others =
        other_over own (ended_at false e) (map (ended_at false) rows ++ ended) (λ same. other (sym same))
        ∙ others (sym (at_tail own e rows other) ∙ none)

sent_tolls_append : (a b : List Sent) → sent_tolls (a ++ b) ≡ sent_tolls a + sent_tolls b
sent_tolls_append [] b = omega arith
sent_tolls_append (one ∷ a) b = let e = sent_tolls_append a b in omega (arith, e)

-- ---- what stands of what is served behind what was owed before, for ids of the host that are watched
module _ (q : ℕ → Bool) (base : List Sent) where
  abbrev P : ℕ → Type 0
  P l = q l ≡ true

  -- a row of such an id has its CLSE still to come
  toll_at_most : (row : Row) → row_toll q row ≤ 24
  toll_at_most row = go (q row.host)
    where
      go : (b : Bool) → cond b 24 0 ≤ 24
      go true = omega arith
      go false = omega arith

  abbrev here_toll : Option Row → ℕ
  here_toll found = unwrap_or (option_map (row_toll q) found) 0

  put_tolls : (n : ℕ) (row : Row) (rows : List (ℕ × Row)) → IsRising rows
      → row_tolls q (put_at n row rows) + here_toll (at n rows) ≡ row_tolls q rows + row_toll q row
  put_tolls n row rows rises = sum_by-insert_entry (row_toll q) nat_cmp_total rows n row rises

  left_tolls : (n : ℕ) (rows : List (ℕ × Row)) → row_tolls q (without n rows) + here_toll (at n rows) ≡ row_tolls q rows
  left_tolls n rows = sum_by-remove_entry (row_toll q) (is_at (nat_cmp n)) rows

  -- no id has both a row that lives and one that has ended, and none of those that were not drawn has any;
  -- what became due is fine, and the tolls are paid, with so much left over
  pub record Stands (n left : ℕ) (s : Serving) : Type 0 where
    pub rises : IsRising s.rows
    pub fresh : (own : ℕ) → IsUndrawn s.drawn own → (at own s.rows ≡ None) × (over_at own s.ended ≡ None)
    pub apart : (own : ℕ) (row : Row) → at own s.rows ≡ Some row → over_at own s.ended ≡ None
    pub more : List Sent
    pub is : s.made ≡ base ++ more
    pub fine : All (IsFine P) more
    pub cost : sent_tolls more + row_tolls q s.rows + left ≤ n

  within : (a b k l : ℕ) (s : Serving) → a + l ≤ b + k → Stands a k s → Stands b l s
  within a b k l s le h = record {
    rises = h.rises;
    fresh = h.fresh;
    apart = h.apart;
    more = h.more;
    is = h.is;
    fine = h.fine;
    cost = (let cost = h.cost in omega (arith, cost, le));
  }

  -- more becomes due
  owes : (n m left : ℕ) (more : List Sent) (s : Serving) → All (IsFine P) more → sent_tolls more ≤ m → Stands n left s
      → Stands (n + m) left (owing more s)
  owes n m left more s fine le h = record {
    rises = h.rises;
    fresh = h.fresh;
    apart = h.apart;
    more = h.more ++ more;
    is = ap (λ (x : List Sent). x ++ more) h.is ∙ append_assoc base h.more more;
    fine = All-append (IsFine P) h.more more h.fine fine;
    cost = (let cost = h.cost in let sum = sent_tolls_append h.more more in omega (arith, cost, le, sum));
  }

  -- a row is kept, which stood there or not; none of its id has ended
  fresh_kept : (own : ℕ) (row : Row) (s : Serving) → (0 < own) × (own ≤ s.drawn)
      → ((k : ℕ) → IsUndrawn s.drawn k → (at k s.rows ≡ None) × (over_at k s.ended ≡ None))
      → (k : ℕ) → IsUndrawn s.drawn k → (at k (put_at own row s.rows) ≡ None) × (over_at k s.ended ≡ None)
  fresh_kept own row s drawn fresh k undrawn =
      ((puts_put_at own row s.rows).others k (not_drawn s.drawn own k drawn undrawn) ∙ (fresh k undrawn).0, (fresh k undrawn).1)

  apart_kept : (own : ℕ) (row : Row) (s : Serving) → over_at own s.ended ≡ None
      → ((k : ℕ) (x : Row) → at k s.rows ≡ Some x → over_at k s.ended ≡ None)
      → (k : ℕ) (x : Row) → at k (put_at own row s.rows) ≡ Some x → over_at k s.ended ≡ None
  apart_kept own row s none apart k x is = go (cases_eq k own)
    where
      go : (k ≡ own) ⊎ (k ≡ own → ⊥) → over_at k s.ended ≡ None
      go (inl same) = ap (λ (j : ℕ). over_at j s.ended) same ∙ none
      go (inr other) = apart k x (sym ((puts_put_at own row s.rows).others k other) ∙ is)

  keeps : (n left : ℕ) (own : ℕ) (row : Row) (s : Serving) → (0 < own) × (own ≤ s.drawn) → over_at own s.ended ≡ None → Stands n left s
      → Stands (n + 24) left (kept own row s)
  keeps n left own row s drawn none h = record {
    rises = put_at_rises own row s.rows h.rises;
    fresh = fresh_kept own row s drawn h.fresh;
    apart = apart_kept own row s none h.apart;
    more = h.more;
    is = h.is;
    fine = h.fine;
    cost = (let cost = h.cost in let sum = put_tolls own row s.rows h.rises in let most =
        toll_at_most row in omega (arith, cost, sum, most));
  }

  keeps_there : (n left : ℕ) (own : ℕ) (row old : Row) (s : Serving) → at own s.rows ≡ Some old → row.host ≡ old.host → Stands n left s
      → Stands n left (kept own row s)
  keeps_there n left own row old s is same h = record {
    rises = put_at_rises own row s.rows h.rises;
    fresh = fresh_kept own row s (there_drawn own old s h.fresh is) h.fresh;
    apart = apart_kept own row s (h.apart own old is) h.apart;
    more = h.more;
    is = h.is;
    fine = h.fine;
    cost = (
        let cost = h.cost in
        let sum = put_tolls own row s.rows h.rises in
        let there : here_toll (at own s.rows) ≡ row_toll q old = ap here_toll is in
        let toll : row_toll q row ≡ row_toll q old = ap (λ (k : ℕ). cond (q k) 24 0) same in
        omega (arith, cost, sum, there, toll));
  }

  -- a row goes
  fresh_gone : (closed : Bool) (own : ℕ) (row : Row) (s : Serving) → (0 < own) × (own ≤ s.drawn) → IsRising s.rows
      → ((k : ℕ) → IsUndrawn s.drawn k → (at k s.rows ≡ None) × (over_at k s.ended ≡ None))
      → (k : ℕ) → IsUndrawn s.drawn k → (at k (without own s.rows) ≡ None) × (over_at k (ended_at closed (own, row) ∷ s.ended) ≡ None)
  fresh_gone closed own row s drawn rises fresh k undrawn = (
    (puts_without own s.rows rises).others k (not_drawn s.drawn own k drawn undrawn) ∙ (fresh k undrawn).0,
    other_over k (ended_at closed (own, row)) s.ended (λ same. not_drawn s.drawn own k drawn undrawn (sym same)) ∙ (fresh k undrawn).1,
  )

  apart_gone : (closed : Bool) (own : ℕ) (row : Row) (s : Serving) → IsRising s.rows
      → ((k : ℕ) (x : Row) → at k s.rows ≡ Some x → over_at k s.ended ≡ None)
      → (k : ℕ) (x : Row) → at k (without own s.rows) ≡ Some x → over_at k (ended_at closed (own, row) ∷ s.ended) ≡ None
  apart_gone closed own row s rises apart k x is = go (cases_eq k own)
    where
      go : (k ≡ own) ⊎ (k ≡ own → ⊥) → over_at k (ended_at closed (own, row) ∷ s.ended) ≡ None
      go (inl same) =
          absurd (let clash : None ≡ Some x =
          sym (puts_without own s.rows rises).here ∙ (ap (λ (j : ℕ). at j (without own s.rows)) (sym same) ∙ is) in cc)
      go (inr other) =
          other_over k (ended_at closed (own, row)) s.ended (λ same. other (sym same))
          ∙ apart k x (sym ((puts_without own s.rows rises).others k other) ∙ is)

  goes : (n left : ℕ) (closed : Bool) (own : ℕ) (row : Row) (s : Serving) → (0 < own) × (own ≤ s.drawn) → Stands n left s
      → Stands n left (gone closed own row s)
  goes n left closed own row s drawn h = record {
    rises = without_rises own s.rows h.rises;
    fresh = fresh_gone closed own row s drawn h.rises h.fresh;
    apart = apart_gone closed own row s h.rises h.apart;
    more = h.more;
    is = h.is;
    fine = h.fine;
    cost = (let cost = h.cost in let sum = left_tolls own s.rows in omega (arith, cost, sum));
  }

  goes_there : (n left : ℕ) (closed : Bool) (own : ℕ) (row old : Row) (s : Serving) → at own s.rows ≡ Some old
      → P old.host → Stands n left s
      → Stands n (left + 24) (gone closed own row s)
  goes_there n left closed own row old s is host h = record {
    rises = without_rises own s.rows h.rises;
    fresh = fresh_gone closed own row s (there_drawn own old s h.fresh is) h.rises h.fresh;
    apart = apart_gone closed own row s h.rises h.apart;
    more = h.more;
    is = h.is;
    fine = h.fine;
    cost = (
        let cost = h.cost in
        let sum = left_tolls own s.rows in
        let there : here_toll (at own s.rows) ≡ 24 = ap here_toll is ∙ ap (λ (b : Bool). cond b 24 0) host in
        omega (arith, cost, sum, there));
  }

  -- ---- a stream settles
  -- its writes have bytes, and go to the row's host
  writes_fine : (link : Link) (own : ℕ) (host : ℕ) (k : ℕ) (row : Row) → P host
      → All (IsFine P) (map (λ payload. with_sum link.sums (wrte own host payload)) (writes_at k link.most row))
      × (sent_tolls (map (λ payload. with_sum link.sums (wrte own host payload)) (writes_at k link.most row)) ≡ 0)
  writes_fine link own host zero row ok = (All-nil (IsFine P), refl)
  writes_fine link own host (suc k) row ok =
      go (next_payload link.most row) (writes_at k link.most (row_past (next_payload link.most row) row))
      (length (next_payload link.most row) == 0) refl
      (writes_fine link own host k (row_past (next_payload link.most row) row) ok)
    where
      some : (payload : List ℕ) → (length payload == 0) ≡ false → (payload ≢ []) × (toll commands.Wrte payload ≡ 0)
      some [] e = absurd (let clash : true ≡ false = e in cc)
      some (b ∷ payload) e = (λ same. cc, refl)

      go : (payload : List ℕ) (more : List (List ℕ)) (none : Bool) → (length payload == 0) ≡ none
          → All (IsFine P) (map (λ payload. with_sum link.sums (wrte own host payload)) more)
          × (sent_tolls (map (λ payload. with_sum link.sums (wrte own host payload)) more) ≡ 0)
          → All (IsFine P) (map (λ payload. with_sum link.sums (wrte own host payload)) (if none then [] else payload ∷ more))
          × (sent_tolls (map (λ payload. with_sum link.sums (wrte own host payload)) (if none then [] else payload ∷ more)) ≡ 0)
      go payload more true e later = (All-nil (IsFine P), refl)
      go payload more false e later =
          let has = some payload e in
          let none = has.1 in
          let rest = later.1 in (
            All-cons (IsFine P) (with_sum link.sums (wrte own host payload))
                (map (λ payload. with_sum link.sums (wrte own host payload)) more) (record { worth = has.0; host = λ e. ok }) later.0,
            omega (arith, none, rest),
          )

  same_host : (all : List (List ℕ)) (row : Row) → (row_past_all all row).host ≡ row.host
  same_host [] row = refl
  same_host (payload ∷ more) row = same_host more (row_past payload row)

  wrote : (n left : ℕ) (link : Link) (own : ℕ) (row : Row) (s : Serving) → P row.host → Stands n left s
      → Stands n left (owing (sent_writes link own row) s)
  wrote n left link own row s host h =
      let w = writes_fine link own row.host (length (unsent row)) row host in
      let none = w.1 in
      within (n + 0) n left left (owing (sent_writes link own row) s) (omega arith)
      (owes n 0 left (sent_writes link own row) s w.0 (omega (arith, none)) h)

  close_fine : (link : Link) (own host : ℕ) → All (IsFine P) (with_sum link.sums (clse own host) ∷ [])
  close_fine link own host =
      All-cons (IsFine P) (with_sum link.sums (clse own host)) [] (record { worth = tt; host = λ e. cc }) (All-nil (IsFine P))

  okay_fine : (link : Link) (own host : ℕ) (word : List ℕ) → All (IsFine P) (with_sum link.sums (okay own host word) ∷ [])
  okay_fine link own host word =
      All-cons (IsFine P) (with_sum link.sums (okay own host word)) [] (record { worth = tt; host = λ e. cc }) (All-nil (IsFine P))

  settles : (n left : ℕ) (link : Link) (own : ℕ) (row : Row) (s : Serving) → P row.host → (0 < own) × (own ≤ s.drawn)
      → over_at own s.ended ≡ None
      → Stands n left s → Stands (n + 24) left (settled link own row s)
  settles n left link own row s host drawn none h = go (is_done (row_written link.most row))
    where
      last : Row
      last = row_written link.most row

      later : Stands n left (owing (sent_writes link own row) s)
      later = wrote n left link own row s host h

      go : (b : Bool) → Stands (n + 24) left (settled_as b link own (row_written link.most row) (owing (sent_writes link own row) s))
      go false = keeps n left own (row_written link.most row) (owing (sent_writes link own row) s) drawn none later
      go true =
          goes (n + 24) left true own (row_written link.most row)
          (owing (sent_close true link own (row_written link.most row).host) (owing (sent_writes link own row) s)) drawn
          (owes n 24 left (sent_close true link own (row_written link.most row).host) (owing (sent_writes link own row) s)
          (close_fine link own (row_written link.most row).host) (omega arith) later)

  settles_there : (n : ℕ) (link : Link) (own : ℕ) (row old : Row) (s : Serving) → at own s.rows ≡ Some old
      → P old.host → row.host ≡ old.host
      → Stands n 0 s → Stands n 0 (settled link own row s)
  settles_there n link own row old s is host same h = go (is_done (row_written link.most row))
    where
      later : Stands n 0 (owing (sent_writes link own row) s)
      later = wrote n 0 link own row s (subst P (sym same) host) h

      to : (row_written link.most row).host ≡ old.host
      to = same_host (writes link.most row) row ∙ same

      go : (b : Bool) → Stands n 0 (settled_as b link own (row_written link.most row) (owing (sent_writes link own row) s))
      go false = keeps_there n 0 own (row_written link.most row) old (owing (sent_writes link own row) s) is to later
      go true =
          let closing : Serving = owing (sent_close true link own (row_written link.most row).host) (owing (sent_writes link own row) s) in
          within (n + 24) n (0 + 24) 0 (gone true own (row_written link.most row) closing) (omega arith)
          (goes_there (n + 24) 0 true own (row_written link.most row) old closing is host
          (owes n 24 0 (sent_close true link own (row_written link.most row).host) (owing (sent_writes link own row) s)
          (close_fine link own (row_written link.most row).host) (omega arith) later))

  -- ---- one packet
  word_short : (o : Option ℕ) → length (opening_word o) ≤ 4
  word_short None = omega arith
  word_short (Some given) = omega arith

  open_stands : (n : ℕ) (link : Link) (p : Packet) (kind : Option Kind) (s : Serving) → P p.arg0 → Stands n 0 s
      → Stands (n + 52) 0 (open_as link p kind s)
  open_stands n link p None s host h =
      within (n + 24) (n + 52) 0 0 (open_as link p None s) (omega arith)
      (owes n 24 0 (with_sum link.sums (clse 0 p.arg0) ∷ []) s (close_fine link 0 p.arg0) (omega arith) h)
  open_stands n link p (Some kind) s host h =
      let short = word_short (credit_of link p) in
      let okayed = owes n 28 0 (with_sum link.sums (okay (s.drawn + 1) p.arg0 (opening_word (credit_of link p))) ∷ []) s
      (okay_fine link (s.drawn + 1) p.arg0 (opening_word (credit_of link p))) (omega (arith, short)) h in
      let drawn : Serving = record (granted (s.drawn + 1) (credit_of link p)
      (owing (with_sum link.sums (okay (s.drawn + 1) p.arg0 (opening_word (credit_of link p))) ∷ []) s)) {
        drawn = s.drawn + 1;
        files = files_opened kind s.files;
      } in
      let in_range : (0 < s.drawn + 1) × (s.drawn + 1 ≤ s.drawn + 1) = (omega arith, omega arith) in
      within (n + 28 + 24) (n + 52) 0 0 (open_as link p (Some kind) s) (omega arith)
      (settles (n + 28) 0 link (s.drawn + 1) (opened p.arg0 kind s.files (credit_of link p)) drawn host in_range
      (h.fresh (s.drawn + 1) (inr (omega arith))).1
      (record {
        rises = okayed.rises;
        fresh = λ own undrawn. h.fresh own (fewer_drawn s.drawn own undrawn);
        apart = okayed.apart;
        more = okayed.more;
        is = okayed.is;
        fine = okayed.fine;
        cost = okayed.cost;
      }))

  on_open_stands : (n : ℕ) (link : Link) (p : Packet) (s : Serving) → P p.arg0 → Stands n 0 s → Stands (n + 52) 0 (on_open link p s)
  on_open_stands n link p s host h = go (p.arg0 == 0 || is_taken p.arg0 s.rows)
    where
      go : (b : Bool) → Stands (n + 52) 0 (if b then s else open_as link p (kind_for s.drawn p) s)
      go true = within n (n + 52) 0 0 s (omega arith) h
      go false = open_stands n link p (kind_for s.drawn p) s host h

  -- a row that was found under a name stood there
  named_there : (host : ℕ) (found : Option Row) (row : Row) → named host found ≡ Some row → found ≡ Some row
  named_there host None row is = absurd (let clash : None ≡ Some row = is in cc)
  named_there host (Some x) row is = go (x.host == host) is
    where
      go : (b : Bool) → (if b then Some x else None) ≡ Some row → Some x ≡ Some row
      go true e = e
      go false e = absurd (let clash : None ≡ Some row = e in cc)

  -- and is for that name
  named_host : (host : ℕ) (found : Option Row) (row : Row) → named host found ≡ Some row → row.host ≡ host
  named_host host None row is = absurd (let clash : None ≡ Some row = is in cc)
  named_host host (Some x) row is = go (x.host == host) refl is
    where
      go : (b : Bool) → (x.host == host) ≡ b → (if b then Some x else None) ≡ Some row → row.host ≡ host
      go true f e = (let same : x ≡ row = cc in ap (λ (r : Row). r.host) (sym same) ∙ eqb-true x.host host f)
      go false f e = absurd (let clash : None ≡ Some row = e in cc)

  closable_there : (host : ℕ) (found : Option Row) (row : Row) → closable host found ≡ Some row → found ≡ Some row
  closable_there host found row is = go (host == 0) is
    where
      go : (b : Bool) → (if b then found else named host found) ≡ Some row → found ≡ Some row
      go true e = e
      go false e = named_there host found row e

  ack_fine : (link : Link) (own host : ℕ) (flow : Flow) (k : ℕ)
      → All (IsFine P) (sent_ack link own host flow k) × (sent_tolls (sent_ack link own host flow k) ≤ 28)
  ack_fine link own host (flows.One window) k = (okay_fine link own host [], omega arith)
  ack_fine link own host (flows.Credit credit) k = go (k == 0)
    where
      go : (b : Bool) → All (IsFine P) (if b then [] else with_sum link.sums (okay own host (little_bytes 4 k)) ∷ [])
          × (sent_tolls (if b then [] else with_sum link.sums (okay own host (little_bytes 4 k)) ∷ []) ≤ 28)
      go true = (All-nil (IsFine P), omega arith)
      go false = let size : length (little_bytes 4 k) ≡ 4 = refl in (okay_fine link own host (little_bytes 4 k), omega (arith, size))

  write_stands : (n : ℕ) (link : Link) (p : Packet) (found : Option Row) (s : Serving) → P p.arg0
      → ((row : Row) → found ≡ Some row → (at p.arg1 s.rows ≡ Some row) × (row.host ≡ p.arg0)) → Stands n 0 s
      → Stands (n + 28) 0 (written_to link p found s)
  write_stands n link p None s host there h = within n (n + 28) 0 0 s (omega arith) h
  write_stands n link p (Some row) s host there h =
      let is = (there row refl).0 in
      let for_it = subst P (sym (there row refl).1) host in
      let ack = ack_fine link p.arg1 row.host row.flow (length p.payload) in
      let okayed = owes n 28 0 (sent_ack link p.arg1 row.host row.flow (length p.payload)) s ack.0 ack.1 h in
      settles_there (n + 28) link p.arg1 (row_took (came_over p.payload s.files) row) row
      (record (owing (sent_ack link p.arg1 row.host row.flow (length p.payload)) s)
      { files = files_fed row.kind row.past (came_over p.payload s.files) })
      is for_it refl
      (record {
        rises = okayed.rises;
        fresh = okayed.fresh;
        apart = okayed.apart;
        more = okayed.more;
        is =
            okayed.is;
        fine = okayed.fine;
        cost = okayed.cost;
      })

  ack_stands : (n : ℕ) (link : Link) (p : Packet) (found : Option Row) (s : Serving) → P p.arg0
      → ((row : Row) → found ≡ Some row → (at p.arg1 s.rows ≡ Some row) × (row.host ≡ p.arg0)) → Stands n 0 s
      → Stands n 0 (acked_to link p found s)
  ack_stands n link p None s host there h = h
  ack_stands n link p (Some row) s host there h =
      let is = (there row refl).0 in
      let for_it = subst P (sym (there row refl).1) host in
      settles_there n link p.arg1 (row_acked (credit_word_in p.payload) row) row (granted p.arg1 (credit_word_in p.payload) s)
      is for_it refl
      (record { rises = h.rises; fresh = h.fresh; apart = h.apart; more = h.more; is = h.is; fine = h.fine; cost = h.cost })

  close_stands : (n own : ℕ) (found : Option Row) (s : Serving) → ((row : Row) → found ≡ Some row → at own s.rows ≡ Some row) → Stands n 0 s
      → Stands n 0 (closed_to own found s)
  close_stands n own None s there h = h
  close_stands n own (Some row) s there h = goes n 0 false own row s (there_drawn own row s h.fresh (there row refl)) h

  named_as : (p : Packet) (s : Serving) (row : Row) → named p.arg0 (at p.arg1 s.rows) ≡ Some row
      → (at p.arg1 s.rows ≡ Some row) × (row.host ≡ p.arg0)
  named_as p s row is = (named_there p.arg0 (at p.arg1 s.rows) row is, named_host p.arg0 (at p.arg1 s.rows) row is)

  served_stands : (n : ℕ) (command : Command) (link : Link) (p : Packet) (s : Serving) → (asks command ≡ true → P p.arg0) → Stands n 0 s
      → Stands (n + answer_toll command) 0 (served command link p s)
  served_stands n commands.Open link p s host h = on_open_stands n link p s (host refl) h
  served_stands n commands.Wrte link p s host h =
      write_stands n link p (named p.arg0 (at p.arg1 s.rows)) s (host refl) (λ row is. named_as p s row is) h
  served_stands n commands.Okay link p s host h =
      within n (n + 0) 0 0 (on_okay link p s) (omega arith)
      (ack_stands n link p (named p.arg0 (at p.arg1 s.rows)) s (host refl) (λ row is. named_as p s row is) h)
  served_stands n commands.Clse link p s host h =
      within n (n + 0) 0 0 (on_close p s) (omega arith)
      (close_stands n p.arg1 (closable p.arg0 (at p.arg1 s.rows)) s (λ row is. closable_there p.arg0 (at p.arg1 s.rows) row is) h)
  served_stands n _ link p s host h = within n (n + 0) 0 0 s (omega arith) h

  gone_stands : (n : ℕ) (s : Serving) → Stands n 0 s → Stands n 0 (all_gone s)
  unfolding IsStrictlySortedBy
  gone_stands n s h = record {
    rises = tt;
    fresh = λ own undrawn. (refl, all_over own s.rows s.ended (h.fresh own undrawn).0 ∙ (h.fresh own undrawn).1);
    apart = λ own row is. absurd (let clash : None ≡ Some row = is in cc);
    more = h.more;
    is = h.is;
    fine = h.fine;
    cost = (let cost = h.cost in omega (arith, cost));
  }

  -- ---- all packets
  linked_stands : (n : ℕ) (o : Option Link) (d : Device) → Stands n 0 d.serving → Stands n 0 (linked_to o d).serving
  linked_stands n None d h = h
  linked_stands n (Some link) d h = gone_stands n d.serving h

  on_link_stands : (n : ℕ) (o : Option Link) (p : Packet) (d : Device) → AsksFor q p → Stands n 0 d.serving
      → Stands (n + answer_toll p.command) 0 (served_on o p d).serving
  on_link_stands n None p d host h = within n (n + answer_toll p.command) 0 0 d.serving (omega arith) h
  on_link_stands n (Some link) p d host h = served_stands n p.command link p d.serving host h

  step_stands : (n : ℕ) (setting : Setting) (d : Device) (p : Packet) → AsksFor q p → Stands n 0 d.serving
      → Stands (n + answer_toll p.command) 0 (step setting d p).serving
  unfolding step
  step_stands n setting d p host h = go d.refused (is_cnxn p.command)
    where
      go : (a b : Bool) → Stands (n + answer_toll p.command) 0
          (if a then d else (if b then linked_to (link_of setting.most setting.credit p) d else served_on d.link p d)).serving
      go true b = within n (n + answer_toll p.command) 0 0 d.serving (omega arith) h
      go false true =
          within n (n + answer_toll p.command) 0 0 (linked_to (link_of setting.most setting.credit p) d).serving (omega arith)
          (linked_stands n (link_of setting.most setting.credit p) d h)
      go false false = on_link_stands n d.link p d host h

  pub behind_stands : (n : ℕ) (setting : Setting) (packets : List Packet) (d : Device) → All (AsksFor q) packets → Stands n 0 d.serving
      → Stands (n + answer_tolls packets) 0 (fold (step setting) d packets).serving
  behind_stands n setting [] d all h = within n (n + 0) 0 0 d.serving (omega arith) h
  behind_stands n setting (p ∷ packets) d all h =
      within (n + answer_toll p.command + answer_tolls packets) (n + answer_tolls (p ∷ packets)) 0 0
      (fold (step setting) (step setting d p) packets).serving (omega arith)
      (behind_stands (n + answer_toll p.command) setting packets (step setting d p) (All-tail (AsksFor q) p packets all)
      (step_stands n setting d p (All-head (AsksFor q) p packets all) h))
