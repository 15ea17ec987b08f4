-- What holds of each OKAY, WRTE and CLSE holds of all that a model device sends behind its CNXN.
use Rattle.std.specs.Prelude.{ℕ, ◌+◌, ◌≡◌, ◌==◌, ◌||◌, if◌then◌else◌, Bool, true, false, All, List, [], ◌∷◌, ◌++◌, map, fold, length}
use Rattle.std.specs.Prelude.{Option, Some, None}
use Rattle.std.proofs.Common.{refl, sym, ◌∙◌, ap, subst, append_assoc}
use Rattle.std.proofs.lemmas.List.{append-nil}
use Rattle.std.proofs.lemmas.List.Elements.{All-nil, All-cons, All-append}
use Rattle.byteorder.specs.Endian.{little_bytes}
use Rattle.adb_outside.specs.Tables.{at}
use Rattle.adb_wire.specs.Format.{is_cnxn}
use Rattle.adb_wire.specs.declared.command.Command.{Command}
use Rattle.adb_wire.specs.declared.command.Command.TheVariants as commands
use Rattle.adb_wire.specs.declared.packets.Packet.{Packet}
use Rattle.adb_stream.specs.declared.flow.Flow.{Flow}
use Rattle.adb_stream.specs.declared.flow.Flow.TheVariants as flows
use Rattle.adb_device_streams.specs.Asked.{Kind}
use Rattle.adb_device_streams.specs.Service.{came_over, files_fed}
use Rattle.adb_device_streams.specs.Stream.{Row, opened, row_took, row_acked, row_written, writes, is_done, okay, clse, wrte, opening_word}
use Rattle.adb_device_streams.specs.Link.{credit_word_in, link_of}
use Rattle.adb_device_streams.specs.declared.link.Link.{Link}
use Rattle.adb_daemon.specs.Serving.{Serving, Sent, with_sum, owing, granted, sent_ack, sent_writes, sent_close, settled_as, settled, named}
use Rattle.adb_daemon.specs.Serving.{closable, is_taken}
use Rattle.adb_daemon.specs.Serving.{kind_for, credit_of, open_as, on_open, written_to, acked_to, closed_to, served}
use Rattle.adb_daemon.specs.Device.{Device, Setting, step, treated, linked_to, served_on, own_cnxn, first_device, device_behind}
use Rattle.adb_laws_worlds.proofs.Drawing.{begun_by}

module _ (P : Sent → Type 0) (okays : (sums : Bool) (own host : ℕ) (word : List ℕ) → P (with_sum sums (okay own host word)))
    (wrtes : (sums : Bool) (own host : ℕ) (payload : List ℕ) → P (with_sum sums (wrte own host payload)))
    (clses : (sums : Bool) (own host : ℕ) → P (with_sum sums (clse own host))) (base : List Sent) where
  -- behind the first packets stand only such
  pub record Behind (made : List Sent) : Type 0 where
    pub more : List Sent
    pub is : made ≡ base ++ more
    pub all : All P more

  add : (made more : List Sent) → Behind made → All P more → Behind (made ++ more)
  add made more b all = record {
    more = b.more ++ more;
    is = ap (λ (m : List Sent). m ++ more) b.is ∙ append_assoc base b.more more;
    all = All-append P b.more more b.all all;
  }

  one : (x : Sent) → P x → All P (x ∷ [])
  one x holds = All-cons P x [] holds (All-nil P)

  all_writes : (sums : Bool) (own host : ℕ) (payloads : List (List ℕ))
      → All P (map (λ payload. with_sum sums (wrte own host payload)) payloads)
  all_writes sums own host [] = All-nil P
  all_writes sums own host (payload ∷ more) =
      All-cons P (with_sum sums (wrte own host payload)) (map (λ p. with_sum sums (wrte own host p)) more) (wrtes sums own host payload)
      (all_writes sums own host more)

  all_acks : (link : Link) (own host : ℕ) (flow : Flow) (n : ℕ) → All P (sent_ack link own host flow n)
  all_acks link own host (flows.One window) n = one (with_sum link.sums (okay own host [])) (okays link.sums own host [])
  all_acks link own host (flows.Credit credit) n = by (n == 0)
    where
      by : (b : Bool) → All P (if b then [] else with_sum link.sums (okay own host (little_bytes 4 n)) ∷ [])
      by true = All-nil P
      by false = one (with_sum link.sums (okay own host (little_bytes 4 n))) (okays link.sums own host (little_bytes 4 n))

  settled_all : (link : Link) (q : ℕ) (row : Row) (s : Serving) → Behind s.made → Behind (settled link q row s).made
  settled_all link q row s all = go (is_done (row_written link.most row))
    where
      wrote : Behind (s.made ++ sent_writes link q row)
      wrote = add s.made (sent_writes link q row) all (all_writes link.sums q row.host (writes link.most row))

      go : (b : Bool) → Behind (settled_as b link q (row_written link.most row) (owing (sent_writes link q row) s)).made
      go false = wrote
      go true =
          add (s.made ++ sent_writes link q row) (sent_close true link q (row_written link.most row).host) wrote
          (one (with_sum link.sums (clse q (row_written link.most row).host)) (clses link.sums q (row_written link.most row).host))

  module _ (link : Link) (p : Packet) (s : Serving) (all : Behind s.made) where
    open_all : Behind (on_open link p s).made
    open_all = go (p.arg0 == 0 || is_taken p.arg0 s.rows)
      where
        by : (kind : Option Kind) → Behind (open_as link p kind s).made
        by None = add s.made (with_sum link.sums (clse 0 p.arg0) ∷ []) all
            (one (with_sum link.sums (clse 0 p.arg0)) (clses link.sums 0 p.arg0))
        by (Some kind) =
            let hello = with_sum link.sums (okay (s.drawn + 1) p.arg0 (opening_word (credit_of link p))) in
            settled_all link (s.drawn + 1) (opened p.arg0 kind s.files (credit_of link p)) (begun_by link p kind s)
            (add s.made (hello ∷ []) all (one hello (okays link.sums (s.drawn + 1) p.arg0 (opening_word (credit_of link p)))))

        go : (b : Bool) → Behind (if b then s else open_as link p (kind_for s.drawn p) s).made
        go true = all
        go false = by (kind_for s.drawn p)

    write_all : (found : Option Row) → Behind (written_to link p found s).made
    write_all None = all
    write_all (Some row) =
        let ack = sent_ack link p.arg1 row.host row.flow (length p.payload) in
        settled_all link p.arg1 (row_took (came_over p.payload s.files) row)
        (record (owing ack s) { files = files_fed row.kind row.past (came_over p.payload s.files) })
        (add s.made ack all (all_acks link p.arg1 row.host row.flow (length p.payload)))

    okay_all : (found : Option Row) → Behind (acked_to link p found s).made
    okay_all None = all
    okay_all (Some row) = settled_all link p.arg1 (row_acked (credit_word_in p.payload) row)
        (granted p.arg1 (credit_word_in p.payload) s) all

    close_all : (found : Option Row) → Behind (closed_to p.arg1 found s).made
    close_all None = all
    close_all (Some row) = all

    served_all : (command : Command) → Behind (served command link p s).made
    served_all commands.Open = open_all
    served_all commands.Wrte = write_all (named p.arg0 (at p.arg1 s.rows))
    served_all commands.Okay = okay_all (named p.arg0 (at p.arg1 s.rows))
    served_all commands.Clse = close_all (closable p.arg0 (at p.arg1 s.rows))
    served_all _ = all

  step_all : (setting : Setting) (d : Device) (p : Packet) → Behind d.serving.made → Behind (step setting d p).serving.made
  unfolding step
  step_all setting d p all = go d.refused
    where
      linked : (link : Option Link) → Behind (linked_to link d).serving.made
      linked None = all
      linked (Some link) = all

      on : (link : Option Link) → Behind (served_on link p d).serving.made
      on None = all
      on (Some link) = served_all link p d.serving all p.command

      by : (b : Bool) → Behind (if b then linked_to (link_of setting.most setting.credit p) d else served_on d.link p d).serving.made
      by true = linked (link_of setting.most setting.credit p)
      by false = on d.link

      go : (b : Bool) → Behind (if b then d else treated setting p d).serving.made
      go true = all
      go false = by (is_cnxn p.command)

  fold_all : (setting : Setting) (packets : List Packet) (d : Device) → Behind d.serving.made
      → Behind (fold (step setting) d packets).serving.made
  fold_all setting [] d all = all
  fold_all setting (p ∷ packets) d all = fold_all setting packets (step setting d p) (step_all setting d p all)

  pub all_behind : (setting : Setting) → base ≡ own_cnxn setting ∷ [] → (packets : List Packet)
      → Behind (device_behind setting packets).serving.made
  all_behind setting same packets =
      fold_all setting packets (first_device setting)
      (record { more = []; is = sym same ∙ sym (append-nil base); all = All-nil P })

-- so of all that it sends, where it holds of its own CNXN too
pub all_sent : (P : Sent → Type 0) → ((sums : Bool) (own host : ℕ) (word : List ℕ) → P (with_sum sums (okay own host word)))
    → ((sums : Bool) (own host : ℕ) (payload : List ℕ) → P (with_sum sums (wrte own host payload)))
    → ((sums : Bool) (own host : ℕ) → P (with_sum sums (clse own host))) → (setting : Setting) → P (own_cnxn setting)
    → (packets : List Packet)
    → All P (device_behind setting packets).serving.made
all_sent P okays wrtes clses setting first packets =
    let b = all_behind P okays wrtes clses (own_cnxn setting ∷ []) setting refl packets in
    subst (λ (made : List Sent). All P made) (sym b.is)
    (All-cons P (own_cnxn setting) b.more first b.all)
