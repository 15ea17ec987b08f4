-- What an OPEN of the host leaves of what is served.
use Rattle.std.specs.Prelude.{ℕ, ◌≡◌, ◌+◌, ◌-◌, ◌^◌, ◌==◌, ◌||◌, ◌++◌, Bool, true, false, cond, if◌then◌else◌, List, [], ◌∷◌, Option, Some}
use Rattle.std.specs.Prelude.{None, is_some, All}
use Rattle.std.specs.Ordering.{nat_cmp, is_eq}
use Rattle.std.proofs.Common.{refl, sym, ◌∙◌, ap, subst, arith, ◌⊎◌, inl, inr}
use Rattle.std.proofs.lemmas.Bool.{cases_eq, eq-eqb, ne_eqb}
use Rattle.std.proofs.lemmas.List.{append-nil}
use Rattle.std.proofs.lemmas.List.Elements.{All-head, All-tail, All-weaker}
use Rattle.adb_outside.specs.Tables.{at, Puts}
use Rattle.adb_outside.proofs.TableLaws.{at_each}
use Rattle.adb_wire.specs.declared.packets.Packet.{Packet}
use Rattle.adb_files.specs.Entries.{Entry}
use Rattle.adb_device_streams.specs.Asked.{Kind, service_of, name_of}
use Rattle.adb_device_streams.specs.Service.{files_opened}
use Rattle.adb_device_streams.specs.Stream.{Row, Settles, opened, packet_bytes, okay, clse, opening_word}
use Rattle.adb_device_streams.specs.declared.link.Link.{Link}
use Rattle.adb_device_streams.specs.declared.stream.Stream.{Stream}
use Rattle.adb_daemon.specs.Serving.{Serving, Sent, with_sum, sent_bytes, owing, granted, credit_of, open_as, on_open, is_taken, kind_for}
use Rattle.adb_daemon.specs.Held.{IsOfHost, IsTable, View, Holds}
use Rattle.adb_daemon.proofs.Settling.{owes_more, grants, draws, new_settles, new_ends}

-- whether a row is one of a host's id
of_host : ℕ → ℕ × Row → Bool
of_host host entry = entry.1.host == host

-- a row that is there is one of those
some_of : (host own : ℕ) (row : Row) (rows : List (ℕ × Row)) → at own rows ≡ Some row → (row.host == host) ≡ true
    → is_taken host rows ≡ true
some_of host own row [] there is = cc
some_of host own row (e ∷ es) there is = go (is_eq (nat_cmp own e.0)) there (λ later. some_of host own row es later is)
  where
    or_true : (b : Bool) → (b || true) ≡ true
    or_true true = refl
    or_true false = refl

    go : (t : Bool) → cond t (Some e.1) (at own es) ≡ Some row → (at own es ≡ Some row → is_taken host es ≡ true)
        → ((e.1.host == host) || is_taken host es) ≡ true
    go true here later =
        let same : e.1 ≡ row = cc in
        ap (λ (b : Bool). b || is_taken host es) (ap (λ (r : Row). r.host == host) same ∙ is)
    go false here later = ap (λ (b : Bool). (e.1.host == host) || b) (later here) ∙ or_true (e.1.host == host)

none_of : (host : ℕ) (rows : List (ℕ × Row)) → All (λ (e : ℕ × Row). (e.1.host == host) ≡ false) rows → is_taken host rows ≡ false
none_of host [] all = refl
none_of host (e ∷ es) all =
    ap (λ (b : Bool). b || is_taken host es) (All-head (λ (x : ℕ × Row). (x.1.host == host) ≡ false) e es all)
    ∙ none_of host es (All-tail (λ (x : ℕ × Row). (x.1.host == host) ≡ false) e es all)

-- the index tells whether a host's id is that of a live stream
pub taken_is : (host : ℕ) (rows : List (ℕ × Row)) (streams : List (ℕ × Stream)) (hosts : List (ℕ × ℕ)) → IsTable rows streams hosts
    → is_taken host rows ≡ is_some (at host hosts)
taken_is host rows streams hosts t = go (at host hosts) refl
  where
    found : (own : ℕ) (o : Option Row) → at own rows ≡ o → IsOfHost host o → is_taken host rows ≡ true
    found own None is there = absurd there
    found own (Some row) is there = some_of host own row rows is (eq-eqb row.host host there)

    apart : at host hosts ≡ None → (e : ℕ × Row) → at e.0 rows ≡ Some e.1 → (e.1.host == host) ≡ false
    apart none e is = split (cases_eq e.1.host host)
      where
        split : (e.1.host ≡ host) ⊎ (e.1.host ≡ host → ⊥) → (e.1.host == host) ≡ false
        split (inl same) = let clash : None ≡ Some e.0 = sym none ∙ (ap (λ (n : ℕ). at n hosts) (sym same) ∙ t.indexed e.0 e.1 is) in cc
        split (inr other) = ne_eqb e.1.host host other

    go : (o : Option ℕ) → at host hosts ≡ o → is_taken host rows ≡ is_some o
    go (Some own) is = found own (at own rows) refl (t.index host own is)
    go None is =
        none_of host rows
        (All-weaker (λ (e : ℕ × Row). at e.0 rows ≡ Some e.1) (λ (e : ℕ × Row). (e.1.host == host) ≡ false)
        (apart is) rows
        (at_each rows t.rises))

-- once all ids were drawn there is no service, and before that the one that is asked for
pub no_ids : (p : Packet) (n : ℕ) → n ≡ 2 ^ 32 - 1 → kind_for n p ≡ None
no_ids p n is = ap (λ (t : Bool). if t then None else service_of (name_of p.payload)) (eq-eqb n (2 ^ 32 - 1) is)

pub ids_left : (p : Packet) (n : ℕ) (kind : Option Kind) → (n ≡ 2 ^ 32 - 1 → ⊥)
    → service_of (name_of p.payload) ≡ kind → kind_for n p ≡ kind
ids_left p n kind apart is = ap (λ (t : Bool). if t then None else service_of (name_of p.payload)) (ne_eqb n (2 ^ 32 - 1) apart) ∙ is

module _ (link : Link) (p : Packet) (s : Serving) (taken : List ℕ) (view : View) (h : Holds s taken view) where
  -- an OPEN whose id is 0 or that of a live stream
  pub ignored_open : (p.arg0 == 0 || is_some (at p.arg0 view.hosts)) ≡ true → Holds (on_open link p s) taken view
  ignored_open is =
      let known = taken_is p.arg0 s.rows view.streams view.hosts h.table in
      subst (λ (t : Bool). Holds (if t then s else open_as link p (kind_for s.drawn p) s) taken view)
      (sym (ap (λ (b : Bool). p.arg0 == 0 || b) known ∙ is)) h

  -- another one: what it gets
  pub opens : (p.arg0 == 0 || is_some (at p.arg0 view.hosts)) ≡ false → (kind : Option Kind) → kind_for view.drawn p ≡ kind
      → (new : View) → Holds (open_as link p kind s) taken new → Holds (on_open link p s) taken new
  opens is kind asked new held =
      let known = taken_is p.arg0 s.rows view.streams view.hosts h.table in
      let gets : kind ≡ kind_for s.drawn p = sym asked ∙ ap (λ (n : ℕ). kind_for n p) h.drawn in
      subst (λ (t : Bool). Holds (if t then s else open_as link p (kind_for s.drawn p) s) taken new)
      (sym (ap (λ (b : Bool). p.arg0 == 0 || b) known ∙ is)) (subst (λ (k : Option Kind). Holds (open_as link p k s) taken new) gets held)

  -- it is refused
  pub refused : (due : List ℕ) → due ≡ view.due ++ packet_bytes link.sums (clse 0 p.arg0)
      → Holds (open_as link p None s) taken (record view { due = due })
  refused due is =
      let close = with_sum link.sums (clse 0 p.arg0) ∷ [] in
      let more : view.due ++ sent_bytes close ≡ due = ap (λ l. view.due ++ l)
      (append-nil (packet_bytes link.sums (clse 0 p.arg0))) ∙ sym is in
      subst (λ (f : List Entry). Holds (owing close s) taken (record view { files = f; due = due })) (sym h.files)
      (subst (λ (d : List ℕ). Holds (owing close s) taken (record view { files = s.files; due = d })) more
      (owes_more s taken view close s.files h))

  module _ (kind : Kind) where
    own : ℕ
    own = s.drawn + 1

    abbrev greeting : ℕ → List ℕ
    greeting n = packet_bytes link.sums (okay n p.arg0 (opening_word (credit_of link p)))

    abbrev row : Row
    row = opened p.arg0 kind s.files (credit_of link p)

    abbrev hello : List Sent
    hello = with_sum link.sums (okay (s.drawn + 1) p.arg0 (opening_word (credit_of link p))) ∷ []

    abbrev middle : Serving
    middle = record (granted (s.drawn + 1) (credit_of link p) (owing hello s)) { drawn = s.drawn + 1; files = files_opened kind s.files }

    abbrev seen : View
    seen = record view { drawn = view.drawn + 1; files = files_opened kind s.files; due = view.due ++ sent_bytes hello }

    greeted : Holds middle taken seen
    greeted =
        let before = record (owing hello s) { files = files_opened kind s.files } in
        let v = record view { files = files_opened kind s.files; due = view.due ++ sent_bytes hello } in
        draws (granted (s.drawn + 1) (credit_of link p) before) taken v
        (grants before taken v (s.drawn + 1) (credit_of link p) (owes_more s taken view hello (files_opened kind s.files) h))

    -- what the call says of the stream, in the definition's words
    told : (stream : Stream) (due : List ℕ) (done : Bool)
        → Settles link.sums (view.drawn + 1) link.most (opened p.arg0 kind view.files (credit_of link p)) stream (view.due ++ greeting
        (view.drawn + 1)) due done
        → Settles link.sums (s.drawn + 1) link.most row stream (view.due ++ sent_bytes hello) due done
    told stream due done settles =
        subst (λ (l : List ℕ). Settles link.sums (s.drawn + 1) link.most row stream (view.due ++ l) due done)
        (sym (append-nil (greeting (s.drawn + 1))))
        (subst (λ (f : List Entry). Settles link.sums (s.drawn + 1) link.most (opened p.arg0 kind f (credit_of link p)) stream
        (view.due ++ greeting (s.drawn + 1)) due done) h.files
        (subst (λ (n : ℕ). Settles link.sums (n + 1) link.most (opened p.arg0 kind view.files (credit_of link p)) stream
        (view.due ++ greeting (n + 1)) due done) h.drawn settles))

    free : at (s.drawn + 1) s.rows ≡ None
    free = h.fresh (s.drawn + 1) (omega arith)

    -- what a call that opens a stream says
    pub record Opens (stream : Stream) (files : List Entry) (due : List ℕ) (done : Bool) : Type 0 where
      pub settles : Settles link.sums (view.drawn + 1) link.most (opened p.arg0 kind view.files (credit_of link p)) stream
          (view.due ++ greeting (view.drawn + 1)) due done
      pub left : files ≡ files_opened kind view.files

    -- the stream goes on, or is done at once
    module _ (stream : Stream) (files : List Entry) (due : List ℕ) (done : Bool) where
      pub open_goes : done ≡ false → Opens stream files due done → at p.arg0 view.hosts ≡ None
          → (n : ℕ) (streams : List (ℕ × Stream)) (hosts : List (ℕ × ℕ))
          → n ≡ view.drawn + 1
          → Puts (view.drawn + 1) (Some stream) view.streams streams × Puts stream.host (Some (view.drawn + 1)) view.hosts hosts
          → Holds (open_as link p (Some kind) s) taken (record { drawn = n; streams = streams; hosts = hosts; files = files; due = due })
      open_goes on o unknown n streams hosts is puts =
          let result = new_settles link (s.drawn + 1) row middle taken seen greeted due stream streams hosts (refl, free, unknown)
          (told stream due false
          (subst (Settles link.sums (view.drawn + 1) link.most
          (opened p.arg0 kind view.files (credit_of link p)) stream
          (view.due ++ greeting (view.drawn + 1)) due) on o.settles))
          (subst (λ (k : ℕ). Puts (k + 1) (Some stream) view.streams streams
          × Puts stream.host (Some (k + 1)) view.hosts hosts) h.drawn puts) in
          let left : files_opened kind s.files ≡ files = ap (files_opened kind) (sym h.files) ∙ sym o.left in
          subst (λ (k : ℕ). Holds (open_as link p (Some kind) s) taken
          (record { drawn = k; streams = streams; hosts = hosts; files = files; due = due })) (sym is)
          (subst (λ (f : List Entry). Holds (open_as link p (Some kind) s) taken
          (record { drawn = view.drawn + 1; streams = streams; hosts = hosts; files = f; due = due })) left result)

      pub open_ends : done ≡ true → Opens stream files due done → (n : ℕ) → n ≡ view.drawn + 1
          → Holds (open_as link p (Some kind) s) taken (record view { drawn = n; files = files; due = due })
      open_ends over o n is =
          let result = new_ends link (s.drawn + 1) row middle taken seen greeted due stream free
          (told stream due true
          (subst (Settles link.sums (view.drawn + 1) link.most
          (opened p.arg0 kind view.files (credit_of link p)) stream
          (view.due ++ greeting (view.drawn + 1)) due) over o.settles)) in
          let left : files_opened kind s.files ≡ files = ap (files_opened kind) (sym h.files) ∙ sym o.left in
          subst (λ (k : ℕ). Holds (open_as link p (Some kind) s) taken (record view { drawn = k; files = files; due = due })) (sym is)
          (subst (λ (f : List Entry). Holds (open_as link p (Some kind) s) taken
          (record view { drawn = view.drawn + 1; files = f; due = due })) left result)
