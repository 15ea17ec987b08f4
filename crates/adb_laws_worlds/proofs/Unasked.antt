-- From where a model device sends to an id of its host, while that asks for no stream; from nowhere, where it never did.
use Rattle.std.specs.Prelude.{ℕ, ◌+◌, ◌≡◌, ◌≢◌, ◌==◌, ◌||◌, if◌then◌else◌, Bool, true, false, All, List, [], ◌∷◌, ◌++◌, map, fold, length}
use Rattle.std.specs.Prelude.{Option, Some, None}
use Rattle.std.proofs.Common.{refl, sym, ◌∙◌, ap, subst, append_assoc, inl, inr}
use Rattle.std.specs.List.Sorted.{IsStrictlySortedBy}
use Rattle.std.proofs.lemmas.Bool.{ne_eqb}
use Rattle.std.proofs.lemmas.List.Elements.{All-nil, All-cons, All-append, All-head, All-tail, All-weaker}
use Rattle.std.proofs.lemmas.List.Folds.{list_any_none}
use Rattle.byteorder.specs.Endian.{little_bytes}
use Rattle.adb_outside.specs.Tables.{at, IsRising, put_at, without}
use Rattle.adb_outside.proofs.TableLaws.{at_each, put_at_rises, without_rises}
use Rattle.adb_wire.specs.Format.{is_cnxn}
use Rattle.adb_wire.specs.declared.command.Command.{Command}
use Rattle.adb_wire.specs.declared.command.Command.TheVariants as commands
use Rattle.adb_wire.specs.declared.packets.Packet.{Packet}
use Rattle.adb_stream.specs.declared.flow.Flow.{Flow}
use Rattle.adb_stream.specs.declared.flow.Flow.TheVariants as flows
use Rattle.adb_history.specs.Births.{count_from, is_open}
use Rattle.adb_device_streams.specs.Asked.{Kind}
use Rattle.adb_device_streams.specs.Service.{came_over, files_fed}
use Rattle.adb_device_streams.specs.Stream.{Row, opened, row_took, row_acked, row_written, writes, is_done, okay, clse, wrte, opening_word}
use Rattle.adb_device_streams.specs.Link.{credit_word_in, link_of}
use Rattle.adb_device_streams.specs.declared.link.Link.{Link}
use Rattle.adb_daemon.specs.Serving.{Serving, Sent, with_sum, owing, granted, gone, sent_ack, sent_writes, sent_close, settled_as, settled}
use Rattle.adb_daemon.specs.Serving.{named}
use Rattle.adb_daemon.specs.Serving.{closable, is_taken, kind_for, credit_of, open_as, on_open, written_to, on_write, acked_to, on_okay}
use Rattle.adb_daemon.specs.Serving.{closed_to}
use Rattle.adb_daemon.specs.Serving.{on_close, served}
use Rattle.adb_daemon.specs.Device.{Device, Setting, step, treated, linked_to, served_on, own_cnxn, first_device, device_behind}
use Rattle.adb_daemon.proofs.Rules.{named_is, closable_is}
use Rattle.adb_daemon.proofs.Owed.{written_host}
use Rattle.adb_laws_model_device.specs.Opened.{is_of_stream}
use Rattle.adb_laws_model_device.specs.Owed.{packets_of_sent, packets_owed}
use Rattle.adb_laws_model_device.proofs.Tables.{put_found, left_found}
use Rattle.adb_laws_worlds.proofs.Drawing.{begun_by}
use Rattle.adb_laws_worlds.proofs.Splits.{none_from}

module _ (l : ℕ) (Ok : ℕ → Type 0) (base : List Sent) where
  -- a packet of a stream goes to another id, or comes from such a one
  abbrev pub FromOk : Packet → Type 0
  FromOk p = is_of_stream p.command ≡ true → p.arg1 ≡ l → Ok p.arg0

  abbrev SentElse : Sent → Type 0
  SentElse one = FromOk one.packet

  -- all rows for the id are such, and all that is sent behind the first packets
  pub record IsFromOk (s : Serving) : Type 0 where
    pub rises : IsRising s.rows
    pub rows : (own : ℕ) (row : Row) → at own s.rows ≡ Some row → row.host ≡ l → Ok own
    pub more : List Sent
    pub made : s.made ≡ base ++ more
    pub all : All SentElse more

  one_else : (sums : Bool) (p : Packet) → (p.arg1 ≡ l → Ok p.arg0) → All SentElse (with_sum sums p ∷ [])
  one_else sums p apart = All-cons SentElse (with_sum sums p) [] (λ of. apart) (All-nil SentElse)

  all_writes : (sums : Bool) (own host : ℕ) (payloads : List (List ℕ)) → (host ≡ l → Ok own)
      → All SentElse (map (λ payload. with_sum sums (wrte own host payload)) payloads)
  all_writes sums own host [] apart = All-nil SentElse
  all_writes sums own host (payload ∷ more) apart =
      All-cons SentElse (with_sum sums (wrte own host payload)) (map (λ p. with_sum sums (wrte own host p)) more) (λ of. apart)
      (all_writes sums own host more apart)

  all_acks : (link : Link) (own host : ℕ) (flow : Flow) (n : ℕ) → (host ≡ l → Ok own) → All SentElse (sent_ack link own host flow n)
  all_acks link own host (flows.One window) n apart = one_else link.sums (okay own host []) apart
  all_acks link own host (flows.Credit credit) n apart = by (n == 0)
    where
      by : (b : Bool) → All SentElse (if b then [] else with_sum link.sums (okay own host (little_bytes 4 n)) ∷ [])
      by true = All-nil SentElse
      by false = one_else link.sums (okay own host (little_bytes 4 n)) apart

  -- more became due
  owing_else : (s next : Serving) (more : List Sent) → next.rows ≡ s.rows → next.made ≡ s.made ++ more
      → All SentElse more → IsFromOk s → IsFromOk next
  owing_else s next more rows made all j = record {
    rises = subst (λ (r : List (ℕ × Row)). IsRising r) (sym rows) j.rises;
    rows = λ own row is. j.rows own row (ap (at own) (sym rows) ∙ is);
    more = j.more ++ more;
    made = made ∙ (ap (λ (m : List Sent). m ++ more) j.made ∙ append_assoc base j.more more);
    all = All-append SentElse j.more more j.all all;
  }

  -- a stream settles
  module _ (link : Link) (q : ℕ) (row : Row) (s : Serving) (j : IsFromOk s) (apart : row.host ≡ l → Ok q) where
    last_apart : (row_written link.most row).host ≡ l → Ok q
    last_apart e = apart (sym (written_host link.most row) ∙ e)

    wrote : List Sent
    wrote = j.more ++ sent_writes link q row

    wrote_is : s.made ++ sent_writes link q row ≡ base ++ (j.more ++ sent_writes link q row)
    wrote_is = ap (λ (m : List Sent). m ++ sent_writes link q row) j.made ∙ append_assoc base j.more (sent_writes link q row)

    wrote_all : All SentElse (j.more ++ sent_writes link q row)
    wrote_all = All-append SentElse j.more (sent_writes link q row) j.all (all_writes link.sums q row.host (writes link.most row) apart)

    kept_rows : (own : ℕ) (found : Row) → at own (put_at q (row_written link.most row) s.rows) ≡ Some found → found.host ≡ l → Ok own
    kept_rows own found is = elim (put_found q (row_written link.most row) s.rows own found is) [
      | inl here ↦ (λ e. subst Ok (sym here.0) (last_apart (ap (λ (r : Row). r.host) here.1 ∙ e)))
      | inr there ↦ j.rows own found there.1
    ]

    lost_rows : (own : ℕ) (found : Row) → at own (without q s.rows) ≡ Some found → found.host ≡ l → Ok own
    lost_rows own found is = j.rows own found (left_found q s.rows j.rises own found is).1

    pub settled_else : IsFromOk (settled link q row s)
    settled_else = go (is_done (row_written link.most row))
      where
        go : (b : Bool) → IsFromOk (settled_as b link q (row_written link.most row) (owing (sent_writes link q row) s))
        go false = record {
          rises = put_at_rises q (row_written link.most row) s.rows j.rises;
          rows = kept_rows;
          more = j.more ++ sent_writes link q row;
          made = wrote_is;
          all = wrote_all;
        }
        go true = record {
          rises = without_rises q s.rows j.rises;
          rows = lost_rows;
          more = (j.more ++ sent_writes link q row) ++ sent_close true link q (row_written link.most row).host;
          made = ap (λ (m : List Sent). m ++ sent_close true link q (row_written link.most row).host) wrote_is
              ∙ append_assoc base (j.more ++ sent_writes link q row) (sent_close true link q (row_written link.most row).host);
          all = All-append SentElse (j.more ++ sent_writes link q row) (sent_close true link q (row_written link.most row).host) wrote_all
              (one_else link.sums (clse q (row_written link.most row).host) last_apart);
        }

    gone_else : IsFromOk (gone false q row s)
    gone_else = record { rises = without_rises q s.rows j.rises; rows = lost_rows; more = j.more; made = j.made; all = j.all }

  -- one packet on the link
  module _ (link : Link) (p : Packet) (s : Serving) (j : IsFromOk s) where
    open_else : p.arg0 ≢ l → IsFromOk (on_open link p s)
    open_else apart = go (p.arg0 == 0 || is_taken p.arg0 s.rows)
      where
        by : (kind : Option Kind) → IsFromOk (open_as link p kind s)
        by None =
            owing_else s (open_as link p None s) (with_sum link.sums (clse 0 p.arg0) ∷ []) refl refl
            (one_else link.sums (clse 0 p.arg0) (λ e. absurd (apart e))) j
        by (Some kind) =
            let hello = okay (s.drawn + 1) p.arg0 (opening_word (credit_of link p)) in
            settled_else link (s.drawn + 1) (opened p.arg0 kind s.files (credit_of link p)) (begun_by link p kind s)
            (owing_else s (begun_by link p kind s) (with_sum link.sums hello ∷ []) refl refl
            (one_else link.sums hello (λ e. absurd (apart e))) j)
            (λ e. absurd (apart e))

        go : (b : Bool) → IsFromOk (if b then s else open_as link p (kind_for s.drawn p) s)
        go true = j
        go false = by (kind_for s.drawn p)

    write_else : IsFromOk (on_write link p s)
    write_else = go (named p.arg0 (at p.arg1 s.rows)) refl
      where
        go : (found : Option Row) → named p.arg0 (at p.arg1 s.rows) ≡ found → IsFromOk (written_to link p found s)
        go None is = j
        go (Some row) is =
            let apart = j.rows p.arg1 row (named_is p.arg0 (at p.arg1 s.rows) row is) in
            let ack = sent_ack link p.arg1 row.host row.flow (length p.payload) in
            let mid : Serving = record (owing ack s) { files = files_fed row.kind row.past (came_over p.payload s.files) } in
            settled_else link p.arg1 (row_took (came_over p.payload s.files) row) mid
            (owing_else s mid ack refl refl (all_acks link p.arg1 row.host row.flow (length p.payload) apart) j) apart

    okay_else : IsFromOk (on_okay link p s)
    okay_else = go (named p.arg0 (at p.arg1 s.rows)) refl
      where
        go : (found : Option Row) → named p.arg0 (at p.arg1 s.rows) ≡ found → IsFromOk (acked_to link p found s)
        go None is = j
        go (Some row) is =
            settled_else link p.arg1 (row_acked (credit_word_in p.payload) row) (granted p.arg1 (credit_word_in p.payload) s)
            (record { rises = j.rises; rows = j.rows; more = j.more; made = j.made; all = j.all })
            (j.rows p.arg1 row (named_is p.arg0 (at p.arg1 s.rows) row is))

    close_else : IsFromOk (on_close p s)
    close_else = go (closable p.arg0 (at p.arg1 s.rows)) refl
      where
        go : (found : Option Row) → closable p.arg0 (at p.arg1 s.rows) ≡ found → IsFromOk (closed_to p.arg1 found s)
        go None is = j
        go (Some row) is = gone_else link p.arg1 row s j (j.rows p.arg1 row (closable_is p.arg0 (at p.arg1 s.rows) row is))

    served_else : (command : Command) → p.command ≡ command → (is_open p.command ≡ true → p.arg0 ≢ l) → IsFromOk (served command link p s)
    served_else commands.Open c apart = open_else (apart (ap is_open c))
    served_else commands.Wrte c apart = write_else
    served_else commands.Okay c apart = okay_else
    served_else commands.Clse c apart = close_else
    served_else _ c apart = j

  -- one packet
  step_else : (setting : Setting) (d : Device) (p : Packet) → (is_open p.command ≡ true → p.arg0 ≢ l) → IsFromOk d.serving
      → IsFromOk (step setting d p).serving
  unfolding step IsStrictlySortedBy
  step_else setting d p apart j = go d.refused
    where
      linked : (link : Option Link) → IsFromOk (linked_to link d).serving
      linked None = j
      linked (Some link) = record {
        rises = tt;
        rows = λ own row is. absurd (let clash : None ≡ Some row = is in cc);
        more = j.more;
        made = j.made;
        all = j.all;
      }

      on : (link : Option Link) → IsFromOk (served_on link p d).serving
      on None = j
      on (Some link) = served_else link p d.serving j p.command refl apart

      by : (b : Bool) → IsFromOk (if b then linked_to (link_of setting.most setting.credit p) d else served_on d.link p d).serving
      by true = linked (link_of setting.most setting.credit p)
      by false = on d.link

      go : (b : Bool) → IsFromOk (if b then d else treated setting p d).serving
      go true = j
      go false = by (is_cnxn p.command)

  -- all packets
  pub all_else : (setting : Setting) (packets : List Packet)
      → All (λ p. is_open p.command ≡ true → p.arg0 ≢ l) packets → (d : Device) → IsFromOk d.serving
      → IsFromOk (fold (step setting) d packets).serving
  all_else setting [] apart d j = j
  all_else setting (p ∷ packets) apart d j =
      all_else setting packets (All-tail (λ p. is_open p.command ≡ true → p.arg0 ≢ l) p packets apart) (step setting d p)
      (step_else setting d p (All-head (λ p. is_open p.command ≡ true → p.arg0 ≢ l) p packets apart) j)

-- ---- an id that did not ask
module _ (l : ℕ) where
  -- a packet of a stream goes to another id
  abbrev pub NotTo : Packet → Type 0
  NotTo p = is_of_stream p.command ≡ true → p.arg1 ≢ l

  -- nothing is sent to it, and no row is for it
  abbrev pub IsUnasked : Serving → Type 0
  IsUnasked s = IsFromOk l (λ (n : ℕ). ⊥) [] s

  pub behind_unasked : (setting : Setting) (packets : List Packet) → count_from is_open l packets ≡ 0
      → IsUnasked (device_behind setting packets).serving
  unfolding IsStrictlySortedBy
  behind_unasked setting packets none =
      all_else l (λ (n : ℕ). ⊥) [] setting packets (none_from is_open l packets none) (first_device setting)
      (record {
        rises = tt;
        rows = λ own row is. absurd (let clash : None ≡ Some row = is in cc);
        more = own_cnxn setting ∷ [];
        made = refl;
        all = All-cons (λ (one : Sent). NotTo one.packet) (own_cnxn setting) [] (λ of. absurd (let clash : false ≡ true = of in cc))
            (All-nil (λ (one : Sent). NotTo one.packet));
      })

  -- so no row is for it
  pub none_taken : (s : Serving) → IsUnasked s → is_taken l s.rows ≡ false
  none_taken s j =
      list_any_none (λ (entry : ℕ × Row). entry.1.host == l) s.rows
      (All-weaker (λ (e : ℕ × Row). at e.0 s.rows ≡ Some e.1) (λ (e : ℕ × Row). (e.1.host == l) ≡ false)
      (λ e is. ne_eqb e.1.host l (j.rows e.0 e.1 is)) s.rows (at_each s.rows j.rises))

  -- and nothing that is owed goes to it
  pub none_owed : (setting : Setting) (packets : List Packet) → count_from is_open l packets ≡ 0 → All NotTo (packets_owed setting packets)
  none_owed setting packets none = go (device_behind setting packets).serving.made
      (let j = behind_unasked setting packets none
      in subst (λ (made : List Sent). All (λ (one : Sent). NotTo one.packet) made) (sym j.made) j.all)
    where
      go : (made : List Sent) → All (λ (one : Sent). NotTo one.packet) made → All NotTo (packets_of_sent made)
      go [] all = All-nil NotTo
      go (one ∷ made) all =
          All-cons NotTo one.packet (packets_of_sent made) (All-head (λ (one : Sent). NotTo one.packet) one made all)
          (go made (All-tail (λ (one : Sent). NotTo one.packet) one made all))
