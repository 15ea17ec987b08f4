-- All that is sent to a host's id that was asked for once comes from one id of the model device.
use Rattle.std.specs.Prelude.{ℕ, ◌+◌, ◌≡◌, ◌≢◌, ◌≤◌, ◌==◌, ◌||◌, ◌&&◌, if◌then◌else◌, Bool, true, false}
use Rattle.std.specs.Prelude.{cond, All, List, [], ◌∷◌, ◌++◌, map, fold, length, Option, Some, None}
use Rattle.std.specs.Prelude.{nat_eq}
use Rattle.std.proofs.Common.{refl, sym, ◌∙◌, ap, subst, arith, ◌⊎◌, inl, inr}
use Rattle.std.specs.List.Sorted.{IsStrictlySortedBy}
use Rattle.std.proofs.lemmas.Bool.{eq-eqb}
use Rattle.std.proofs.lemmas.List.Elements.{All-nil, All-cons, All-append, All-head, All-tail, All-weaker}
use Rattle.byteorder.specs.Endian.{little_bytes}
use Rattle.adb_outside.specs.Tables.{at, IsRising, put_at, without}
use Rattle.adb_outside.proofs.TableLaws.{put_at_rises, without_rises}
use Rattle.adb_wire.specs.Format.{is_cnxn}
use Rattle.adb_wire.specs.declared.command.Command.{Command}
use Rattle.adb_wire.specs.declared.command.Command.TheVariants as commands
use Rattle.adb_wire.specs.declared.packets.Packet.{Packet}
use Rattle.adb_stream.specs.declared.flow.Flow.{Flow}
use Rattle.adb_stream.specs.declared.flow.Flow.TheVariants as flows
use Rattle.adb_history.specs.Births.{count_from, is_okay, is_clse, is_open}
use Rattle.adb_device_streams.specs.Asked.{Kind}
use Rattle.adb_device_streams.specs.Service.{came_over, files_fed, files_opened}
use Rattle.adb_device_streams.specs.Stream.{Row, opened, row_took, row_acked, row_written}
use Rattle.adb_device_streams.specs.Stream.{writes, is_done, okay, clse, wrte, opening_word}
use Rattle.adb_device_streams.specs.Link.{credit_word_in, link_of}
use Rattle.adb_device_streams.specs.declared.link.Link.{Link}
use Rattle.adb_daemon.specs.Serving.{Serving, Sent, with_sum, owing, granted, gone, sent_ack}
use Rattle.adb_daemon.specs.Serving.{sent_writes, sent_close, settled_as, settled, named, closable, is_taken}
use Rattle.adb_daemon.specs.Serving.{kind_for, credit_of, open_as, on_open, written_to, on_write, acked_to, on_okay, closed_to, on_close}
use Rattle.adb_daemon.specs.Serving.{served}
use Rattle.adb_daemon.specs.Device.{Device, Setting, step, treated, linked_to, served_on, first_device, device_behind}
use Rattle.adb_daemon.proofs.Rules.{named_is, closable_is}
use Rattle.adb_daemon.proofs.Owed.{written_host}
use Rattle.adb_laws_model_device.specs.Devices.{ComeFromOne}
use Rattle.adb_laws_model_device.specs.Owed.{packets_of_sent, packets_owed}
use Rattle.adb_laws_model_device.specs.Opened.{is_of_stream, ComesFrom, HasOneId}
use Rattle.adb_laws_model_device.proofs.Tables.{put_found, left_found}

module _ (l : ℕ) where
  -- what is sent of a stream to the host's id comes from this id, or it is a CLSE from 0
  abbrev FromId : Option ℕ → Sent → Type 0
  FromId id one = is_of_stream one.packet.command ≡ true → one.packet.arg1 ≡ l
      → (id ≡ Some one.packet.arg0) ⊎ ((is_clse one.packet.command ≡ true) × (one.packet.arg0 ≡ 0))

  -- All rows of the host's id stand at this id, and all that is sent to it comes from this id, which is not 0.
  record IsHosted (id : Option ℕ) (s : Serving) : Type 0 where
    rises : IsRising s.rows
    rows : (own : ℕ) (row : Row) → at own s.rows ≡ Some row → row.host ≡ l → id ≡ Some own
    made : All (FromId id) s.made
    some : (n : ℕ) → id ≡ Some n → n ≢ 0

  -- writes, one OKAY and one CLSE of a row
  all_writes : (id : Option ℕ) (sums : Bool) (own host : ℕ) (payloads : List (List ℕ)) → (host ≡ l → id ≡ Some own)
      → All (FromId id) (map (λ payload. with_sum sums (wrte own host payload)) payloads)
  all_writes id sums own host [] is = All-nil (FromId id)
  all_writes id sums own host (payload ∷ more) is =
      All-cons (FromId id) (with_sum sums (wrte own host payload)) (map (λ p. with_sum sums (wrte own host p)) more)
      (λ e f. inl (is f)) (all_writes id sums own host more is)

  one_okay : (id : Option ℕ) (sums : Bool) (own host : ℕ) (word : List ℕ) → (host ≡ l → id ≡ Some own)
      → All (FromId id) (with_sum sums (okay own host word) ∷ [])
  one_okay id sums own host word is = All-cons (FromId id) (with_sum sums (okay own host word)) [] (λ e f. inl (is f)) (All-nil (FromId id))

  one_close : (id : Option ℕ) (sums : Bool) (own host : ℕ) → (host ≡ l → id ≡ Some own)
      → All (FromId id) (with_sum sums (clse own host) ∷ [])
  one_close id sums own host is = All-cons (FromId id) (with_sum sums (clse own host)) [] (λ e f. inl (is f)) (All-nil (FromId id))

  -- a refusal
  refusal : (id : Option ℕ) (sums : Bool) (host : ℕ) → All (FromId id) (with_sum sums (clse 0 host) ∷ [])
  refusal id sums host = All-cons (FromId id) (with_sum sums (clse 0 host)) [] (λ e f. inr (refl, refl)) (All-nil (FromId id))

  -- more became due, and the files changed
  owing_hosted : (id : Option ℕ) (s : Serving) (more : List Sent) (next : Serving) → next.rows ≡ s.rows → next.made ≡ s.made ++ more
      → All (FromId id) more → IsHosted id s → IsHosted id next
  owing_hosted id s more next rows made all h = record {
    rises = subst (λ (r : List (ℕ × Row)). IsRising r) (sym rows) h.rises;
    rows = λ own row is host. h.rows own row (ap (at own) (sym rows) ∙ is) host;
    made = subst (λ (m : List Sent). All (FromId id) m) (sym made) (All-append (FromId id) s.made more h.made all);
    some = h.some;
  }

  -- a stream settled, or was closed
  module _ (id : Option ℕ) (link : Link) (q : ℕ) (row : Row) (s : Serving) (h : IsHosted id s) (mine : row.host ≡ l → id ≡ Some q) where
    last_host : (row_written link.most row).host ≡ row.host
    last_host = written_host link.most row

    wrote : All (FromId id) (s.made ++ sent_writes link q row)
    wrote = All-append (FromId id) s.made (sent_writes link q row) h.made (all_writes id link.sums q row.host (writes link.most row) mine)

    kept_rows : (own : ℕ) (found : Row) → at own (put_at q (row_written link.most row) s.rows) ≡ Some found → found.host ≡ l → id ≡ Some own
    kept_rows own found is host = elim (put_found q (row_written link.most row) s.rows own found is) [
      | inl here ↦ mine (sym last_host ∙ (ap (λ (r : Row). r.host) here.1 ∙ host)) ∙ ap Some (sym here.0)
      | inr there ↦ h.rows own found there.1 host
    ]

    lost_rows : (own : ℕ) (found : Row) → at own (without q s.rows) ≡ Some found → found.host ≡ l → id ≡ Some own
    lost_rows own found is host = h.rows own found (left_found q s.rows h.rises own found is).1 host

    settled_hosted : IsHosted id (settled link q row s)
    settled_hosted = go (is_done (row_written link.most row))
      where
        go : (b : Bool) → IsHosted id (settled_as b link q (row_written link.most row) (owing (sent_writes link q row) s))
        go false = record {
          rises = put_at_rises q (row_written link.most row) s.rows h.rises;
          rows = kept_rows;
          made = wrote;
          some = h.some;
        }
        go true = record {
          rises = without_rises q s.rows h.rises;
          rows = lost_rows;
          made = All-append (FromId id) (s.made ++ sent_writes link q row) (sent_close true link q (row_written link.most row).host) wrote
              (one_close id link.sums q (row_written link.most row).host (λ f. mine (sym last_host ∙ f)));
          some = h.some;
        }

    gone_hosted : IsHosted id (gone false q row s)
    gone_hosted = record { rises = without_rises q s.rows h.rises; rows = lost_rows; made = h.made; some = h.some }

  -- ---- packets
  module _ (link : Link) (p : Packet) (s : Serving) where
    opened_hosted : (id : Option ℕ) (kind : Kind) → IsHosted id s → (p.arg0 ≡ l → id ≡ Some (s.drawn + 1))
        → IsHosted id (open_as link p (Some kind) s)
    opened_hosted id kind h mine =
        let hello = with_sum link.sums (okay (s.drawn + 1) p.arg0 (opening_word (credit_of link p))) ∷ [] in
        let begun : Serving = record (granted (s.drawn + 1) (credit_of link p) (owing hello s))
        { drawn = s.drawn + 1; files = files_opened kind s.files } in
        settled_hosted id link (s.drawn + 1) (opened p.arg0 kind s.files (credit_of link p)) begun
        (owing_hosted id s hello begun refl refl (one_okay id link.sums (s.drawn + 1) p.arg0 (opening_word (credit_of link p)) mine) h) mine

    refused_hosted : (id : Option ℕ) → IsHosted id s → IsHosted id (open_as link p None s)
    refused_hosted id h =
        owing_hosted id s (with_sum link.sums (clse 0 p.arg0) ∷ []) (open_as link p None s) refl refl (refusal id link.sums p.arg0) h

    -- an OPEN of another id
    other_open : (id : Option ℕ) → p.arg0 ≢ l → IsHosted id s → IsHosted id (on_open link p s)
    other_open id apart h = go (p.arg0 == 0 || is_taken p.arg0 s.rows)
      where
        by : (kind : Option Kind) → IsHosted id (open_as link p kind s)
        by None = refused_hosted id h
        by (Some kind) = opened_hosted id kind h (λ e. absurd (apart e))

        go : (b : Bool) → IsHosted id (if b then s else open_as link p (kind_for s.drawn p) s)
        go true = h
        go false = by (kind_for s.drawn p)

    -- the first OPEN of the host's id
    own_open : IsHosted None s → (id : Option ℕ) × IsHosted id (on_open link p s)
    own_open h = go (p.arg0 == 0 || is_taken p.arg0 s.rows)
      where
        never : {x : ℕ} → None ≡ Some x → ⊥
        never e = let clash = e in cc

        begins : IsHosted (Some (s.drawn + 1)) s
        begins = record {
          rises = h.rises;
          rows = λ own row is host. absurd (never (h.rows own row is host));
          made = lifted s.made h.made;
          some = λ n e zeroth. (let same : s.drawn + 1 ≡ n = cc in omega (arith, same, zeroth));
        }
          where
            lifted : (made : List Sent) → All (FromId None) made → All (FromId (Some (s.drawn + 1))) made
            lifted [] all = All-nil (FromId (Some (s.drawn + 1)))
            lifted (one ∷ made) all =
                All-cons (FromId (Some (s.drawn + 1))) one made
                (λ e f. elim (All-head (FromId None) one made all e f) [ inl is ↦ absurd (never is) | inr close ↦ inr close ])
                (lifted made (All-tail (FromId None) one made all))

        by : (kind : Option Kind) → (id : Option ℕ) × IsHosted id (open_as link p kind s)
        by None = (None, refused_hosted None h)
        by (Some kind) = (Some (s.drawn + 1), opened_hosted (Some (s.drawn + 1)) kind begins (λ e. refl))

        go : (b : Bool) → (id : Option ℕ) × IsHosted id (if b then s else open_as link p (kind_for s.drawn p) s)
        go true = (None, h)
        go false = by (kind_for s.drawn p)

    write_hosted : (id : Option ℕ) → IsHosted id s → IsHosted id (on_write link p s)
    write_hosted id h = go (named p.arg0 (at p.arg1 s.rows)) refl
      where
        acked : (flow : Flow) (host n : ℕ) → (host ≡ l → id ≡ Some p.arg1) → All (FromId id) (sent_ack link p.arg1 host flow n)
        acked (flows.One window) host n is = one_okay id link.sums p.arg1 host [] is
        acked (flows.Credit credit) host n is = by (n == 0)
          where
            by : (b : Bool) → All (FromId id) (if b then [] else with_sum link.sums (okay p.arg1 host (little_bytes 4 n)) ∷ [])
            by true = All-nil (FromId id)
            by false = one_okay id link.sums p.arg1 host (little_bytes 4 n) is

        go : (found : Option Row) → named p.arg0 (at p.arg1 s.rows) ≡ found → IsHosted id (written_to link p found s)
        go None is = h
        go (Some row) is =
            let mine = h.rows p.arg1 row (named_is p.arg0 (at p.arg1 s.rows) row is) in
            let ack = sent_ack link p.arg1 row.host row.flow (length p.payload) in
            let mid : Serving = record (owing ack s) { files = files_fed row.kind row.past (came_over p.payload s.files) } in
            settled_hosted id link p.arg1 (row_took (came_over p.payload s.files) row) mid
            (owing_hosted id s ack mid refl refl (acked row.flow row.host (length p.payload) mine) h) mine

    okay_hosted : (id : Option ℕ) → IsHosted id s → IsHosted id (on_okay link p s)
    okay_hosted id h = go (named p.arg0 (at p.arg1 s.rows)) refl
      where
        go : (found : Option Row) → named p.arg0 (at p.arg1 s.rows) ≡ found → IsHosted id (acked_to link p found s)
        go None is = h
        go (Some row) is = settled_hosted id link p.arg1 (row_acked (credit_word_in p.payload) row)
            (granted p.arg1 (credit_word_in p.payload) s)
            (record { rises = h.rises; rows = h.rows; made = h.made; some = h.some })
            (h.rows p.arg1 row (named_is p.arg0 (at p.arg1 s.rows) row is))

    close_hosted : (id : Option ℕ) → IsHosted id s → IsHosted id (on_close p s)
    close_hosted id h = go (closable p.arg0 (at p.arg1 s.rows)) refl
      where
        go : (found : Option Row) → closable p.arg0 (at p.arg1 s.rows) ≡ found → IsHosted id (closed_to p.arg1 found s)
        go None is = h
        go (Some row) is = gone_hosted id link p.arg1 row s h
            (h.rows p.arg1 row (closable_is p.arg0 (at p.arg1 s.rows) row is))

    served_hosted : (id : Option ℕ) (command : Command) → p.command ≡ command → (is_open p.command ≡ true → p.arg0 ≢ l) → IsHosted id s
        → IsHosted id (served command link p s)
    served_hosted id commands.Open c other h = other_open id (other (ap is_open c)) h
    served_hosted id commands.Wrte c other h = write_hosted id h
    served_hosted id commands.Okay c other h = okay_hosted id h
    served_hosted id commands.Clse c other h = close_hosted id h
    served_hosted id _ c other h = h

  -- a CNXN ends all streams
  linked_hosted : (id : Option ℕ) (d : Device) (link : Option Link) → IsHosted id d.serving → IsHosted id (linked_to link d).serving
  unfolding IsStrictlySortedBy
  linked_hosted id d None h = h
  linked_hosted id d (Some link) h = record {
    rises = tt;
    rows = λ own row is host. absurd (let clash : None ≡ Some row = is in cc);
    made = h.made;
    some = h.some;
  }

  -- any packet but an OPEN of the host's id
  step_other : (id : Option ℕ) (setting : Setting) (d : Device) (p : Packet) → (is_open p.command ≡ true → p.arg0 ≢ l)
      → IsHosted id d.serving
      → IsHosted id (step setting d p).serving
  unfolding step
  step_other id setting d p other h = go d.refused
    where
      on : (link : Option Link) → IsHosted id (served_on link p d).serving
      on None = h
      on (Some link) = served_hosted link p d.serving id p.command refl other h

      by : (b : Bool) → IsHosted id (if b then linked_to (link_of setting.most setting.credit p) d else served_on d.link p d).serving
      by true = linked_hosted id d (link_of setting.most setting.credit p) h
      by false = on d.link

      go : (b : Bool) → IsHosted id (if b then d else treated setting p d).serving
      go true = h
      go false = by (is_cnxn p.command)

  -- and that OPEN
  step_own : (setting : Setting) (d : Device) (p : Packet) → p.command ≡ commands.Open → IsHosted None d.serving
      → (id : Option ℕ) × IsHosted id (step setting d p).serving
  unfolding step
  step_own setting d p c h = go d.refused
    where
      on : (link : Option Link) → (id : Option ℕ) × IsHosted id (served_on link p d).serving
      on None = (None, h)
      on (Some link) =
          subst (λ (k : Command). (id : Option ℕ) × IsHosted id (served k link p d.serving)) (sym c) (own_open link p d.serving h)

      by : (b : Bool)
          → (id : Option ℕ)
          × IsHosted id
          (if b then linked_to (link_of setting.most setting.credit p) d else served_on d.link p d).serving
      by true = (None, linked_hosted None d (link_of setting.most setting.credit p) h)
      by false = on d.link

      go : (b : Bool) → (id : Option ℕ) × IsHosted id (if b then d else treated setting p d).serving
      go true = (None, h)
      go false = by (is_cnxn p.command)

  -- asked for at most once more, and not yet; or asked for no more
  Asks : Option ℕ → ℕ → Type 0
  Asks id n = ((id ≡ None) × (n ≤ 1)) ⊎ (n ≡ 0)

  -- OPEN is one command
  open_command : (c : Command) → is_open c ≡ true → c ≡ commands.Open
  open_command commands.Open e = refl
  open_command _ e = let clash : false ≡ true = e in cc

  -- behind all packets there is such an id
  all_hosted : (setting : Setting) (packets : List Packet) (d : Device) (id : Option ℕ) → IsHosted id d.serving
      → Asks id (count_from is_open l packets)
      → (id : Option ℕ) × IsHosted id (fold (step setting) d packets).serving
  unfolding Asks
  all_hosted setting [] d id h asks = (id, h)
  all_hosted setting (p ∷ packets) d id h asks =
      go (is_open p.command) refl (nat_eq p.arg0 l) refl asks (λ i k a. all_hosted setting packets (step setting d p) i k a)
    where
      Rest : Type 0
      Rest = (i : Option ℕ) → IsHosted i (step setting d p).serving → Asks i (count_from is_open l packets)
          → (id : Option ℕ) × IsHosted id (fold (step setting) d (p ∷ packets)).serving

      zeroth : (n : ℕ) → 1 + n ≤ 1 → n ≡ 0
      zeroth n le = omega (arith, le)

      some_more : (n : ℕ) → 1 + n ≡ 0 → ⊥
      some_more n e = omega (arith, e)

      go : (a : Bool) → is_open p.command ≡ a → (c : Bool) → nat_eq p.arg0 l ≡ c
          → Asks id (cond (a && c) (1 + count_from is_open l packets) (count_from is_open l packets)) → Rest
          → (id : Option ℕ) × IsHosted id (fold (step setting) d (p ∷ packets)).serving
      go true e true f (inl now) rest =
          let own = step_own setting d p (open_command p.command e) (subst (λ (i : Option ℕ). IsHosted i d.serving) now.0 h) in
          rest own.0 own.1 (inr (zeroth (count_from is_open l packets) now.1))
      go true e true f (inr none) rest = absurd (some_more (count_from is_open l packets) none)
      go true e false f a rest =
          rest id (step_other id setting d p (λ g same. let clash : true ≡ false = sym (eq-eqb p.arg0 l same) ∙ f in cc) h) a
      go false e c f a rest = rest id (step_other id setting d p (λ g. absurd (let clash : false ≡ true = sym e ∙ g in cc)) h) a

  -- ---- in packets
  -- so all that is sent to it comes from one id
  has_one : (id : Option ℕ) (s : Serving) → IsHosted id s → HasOneId l s
  has_one None s h = record {
    id = 1;
    some = λ e. omega (arith, e);
    sent = All-weaker (FromId None) (ComesFrom l 1)
        (λ one from e f. elim (from e f)
        [ inl is ↦ absurd (let clash : None ≡ Some one.packet.arg0 = is in cc) | inr close ↦ inr close ]) s.made
        h.made;
    rows = λ own row is host. absurd (let clash : None ≡ Some own = h.rows own row is host in cc);
  }
  has_one (Some n) s h = record {
    id = n;
    some = h.some n refl;
    sent = All-weaker (FromId (Some n)) (ComesFrom l n)
        (λ one from e f. elim (from e f) [ inl is ↦ inl (same one.packet.arg0 is) | inr close ↦ inr close ]) s.made h.made;
    rows = λ own row is host. same own (h.rows own row is host);
  }
    where
      same : (m : ℕ) → Some n ≡ Some m → m ≡ n
      same m e = (let one : n ≡ m = cc in sym one)

  -- a host's id that was asked for once at most has one id of the device
  pub one_id : (setting : Setting) (packets : List Packet) → count_from is_open l packets ≤ 1
      → HasOneId l (device_behind setting packets).serving
  unfolding Asks IsStrictlySortedBy
  one_id setting packets once =
      let all = all_hosted setting packets (first_device setting) None
      (record {
        rises = tt;
        rows = λ own row is host. absurd (let clash : None ≡ Some row = is in cc);
        made = All-cons (FromId None) _ [] (λ e f. absurd (let clash : false ≡ true = e in cc)) (All-nil (FromId None));
        some = λ n e. absurd (let clash : None ≡ Some n = e in cc);
      }) (inl (refl, once)) in
      has_one all.0 (device_behind setting packets).serving all.1

  -- an OKAY to the host's id comes from this one
  abbrev From : ℕ → Packet → Type 0
  From n p = is_okay p.command ≡ true → p.arg1 ≡ l → p.arg0 ≡ n

  -- since an OKAY is no CLSE
  okay_from : (n : ℕ) (one : Sent) → ComesFrom l n one → From n one.packet
  okay_from n one from e f = by one.packet.command e from
    where
      by : (c : Command) → is_okay c ≡ true
          → (is_of_stream c ≡ true → one.packet.arg1 ≡ l → (one.packet.arg0 ≡ n)
          ⊎ ((is_clse c ≡ true) × (one.packet.arg0 ≡ 0))) → one.packet.arg0 ≡ n
      by commands.Okay is from = elim (from refl f) [ inl same ↦ same | inr close ↦ absurd (let clash : false ≡ true = close.0 in cc) ]
      by _ is from = let clash : false ≡ true = is in cc

  all_from : (n : ℕ) (made : List Sent) → All (ComesFrom l n) made → All (From n) (packets_of_sent made)
  all_from n [] all = All-nil (From n)
  all_from n (one ∷ made) all =
      All-cons (From n) one.packet (packets_of_sent made) (okay_from n one (All-head (ComesFrom l n) one made all))
      (all_from n made (All-tail (ComesFrom l n) one made all))

  -- so it is acknowledged from one
  pub come_from_one : (setting : Setting) (packets : List Packet) → count_from is_open l packets ≤ 1
      → ComeFromOne l (packets_owed setting packets)
  come_from_one setting packets once =
      let one = one_id setting packets once in
      record { id = one.id; some = one.some; all = all_from one.id (device_behind setting packets).serving.made one.sent }
