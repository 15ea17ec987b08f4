-- A row that took its OPEN lives, or was closed.
use Rattle.std.specs.Prelude.{ℕ, ◌+◌, ◌≡◌, ◌≢◌, ◌≤◌, ◌<◌, ◌==◌, ◌||◌, ◌&&◌, if◌then◌else◌, Bool, true}
use Rattle.std.specs.Prelude.{false, cond, List, [], ◌∷◌, ◌++◌, map, fold, length, nat_eq, Option, Some, None}
use Rattle.std.proofs.Common.{refl, sym, ◌∙◌, ap, subst, arith, ◌⊎◌, inl, inr}
use Rattle.std.specs.List.Sorted.{IsStrictlySortedBy}
use Rattle.std.proofs.lemmas.Bool.{cases_eq, eq-eqb, eqb-true}
use Rattle.adb_outside.specs.Tables.{at, IsRising, put_at, without}
use Rattle.adb_outside.proofs.TableLaws.{puts_put_at, puts_without, put_at_rises, without_rises}
use Rattle.adb_wire.specs.Format.{is_cnxn}
use Rattle.adb_wire.specs.declared.command.Command.{Command}
use Rattle.adb_wire.specs.declared.command.Command.TheVariants as commands
use Rattle.adb_wire.specs.declared.packets.Packet.{Packet}
use Rattle.adb_stream.specs.declared.flow.Flow.{Flow}
use Rattle.adb_stream.specs.declared.flow.Flow.TheVariants as flows
use Rattle.byteorder.specs.Endian.{little_bytes}
use Rattle.adb_history.specs.Births.{is_okay, is_clse, is_between}
use Rattle.adb_history.specs.Fifo.{okays_in}
use Rattle.adb_device_streams.specs.Asked.{Kind}
use Rattle.adb_device_streams.specs.Service.{came_over, files_fed, files_opened}
use Rattle.adb_device_streams.specs.Stream.{Row, opened, row_took, row_acked, row_written}
use Rattle.adb_device_streams.specs.Stream.{writes, is_done, okay, clse, wrte, opening_word}
use Rattle.adb_device_streams.specs.Link.{credit_word_in, link_of}
use Rattle.adb_device_streams.specs.declared.link.Link.{Link}
use Rattle.adb_daemon.specs.Serving.{Serving, Sent, with_sum, owing, granted, sent_ack, sent_writes, sent_close, settled_as, settled, named}
use Rattle.adb_daemon.specs.Serving.{closable, is_taken}
use Rattle.adb_daemon.specs.Serving.{kind_for, credit_of, open_as, on_open, written_to, on_write, acked_to, on_okay, closed_to, on_close}
use Rattle.adb_daemon.specs.Serving.{served}
use Rattle.adb_daemon.specs.Device.{Device, Setting, step, treated, linked_to, served_on, first_device}
use Rattle.adb_daemon.proofs.Rules.{named_is, closable_is}
use Rattle.adb_daemon.proofs.Owed.{written_host}
use Rattle.adb_laws_model_device.specs.Counts.{how_many}
use Rattle.adb_laws_model_device.proofs.Counts.{many_append, many_first}
use Rattle.adb_laws_model_device.specs.Owed.{packets_of_sent}
use Rattle.adb_laws_model_device.specs.Rows.{is_close_between, is_close_to, is_cnxn_packet, LivesOrWasClosed}
use Rattle.adb_laws_model_device.proofs.Owing.{sent_append}

module _ (n l : ℕ) where
  -- how many OKAYs and CLSEs of both ids became due
  abbrev okays : List Sent → ℕ
  okays made = okays_in n l (packets_of_sent made)

  abbrev closes : List Sent → ℕ
  closes made = how_many (is_close_between n l) (packets_of_sent made)

  -- how many CLSEs to its id, and CNXNs, a packet of the host is
  abbrev closes_in : Packet → ℕ
  closes_in p = how_many (is_close_to n) (p ∷ [])

  abbrev cnxns_in : Packet → ℕ
  cnxns_in p = how_many is_cnxn_packet (p ∷ [])

  -- they add up
  okays_app : (a b : List Sent) → okays (a ++ b) ≡ okays a + okays b
  okays_app [] b = omega arith
  okays_app (one ∷ a) b = go (is_okay one.packet.command && is_between n l one.packet) (okays_app a b)
    where
      go : (c : Bool) → okays (a ++ b) ≡ okays a + okays b → cond c (1 + okays (a ++ b)) (okays (a ++ b))
          ≡ cond c (1 + okays a) (okays a) + okays b
      go true e = omega (arith, e)
      go false e = e

  closes_app : (a b : List Sent) → closes (a ++ b) ≡ closes a + closes b
  closes_app a b =
      ap (how_many (is_close_between n l)) (sent_append a b) ∙ many_append (is_close_between n l) (packets_of_sent a) (packets_of_sent b)

  -- writes are no OKAYs
  none_written : (sums : Bool) (own host : ℕ) (payloads : List (List ℕ))
      → okays (map (λ payload. with_sum sums (wrte own host payload)) payloads) ≡ 0
  none_written sums own host [] = refl
  none_written sums own host (payload ∷ more) = none_written sums own host more

  -- the row stands there for that host
  abbrev RowAt : List (ℕ × Row) → Type 0
  RowAt rows = (row : Row) × ((at n rows ≡ Some row) × (row.host ≡ l))

  -- or no OKAY of both ids became due, or a CLSE of both did, or one came to it, of which there were so many
  abbrev NoRow : ℕ → List Sent → Type 0
  NoRow z made = (okays made ≡ 0) ⊎ ((1 ≤ closes made) ⊎ (1 ≤ z))

  -- one of the two
  abbrev Lives : ℕ → List Sent → List (ℕ × Row) → Type 0
  Lives z made rows = RowAt rows ⊎ NoRow z made

  -- no row still, and a row or none, where more becomes due
  goes_no_row : (z y : ℕ) → z ≤ y → (made more : List Sent) → okays more ≡ 0 → NoRow z made → NoRow y (made ++ more)
  goes_no_row z y le made more none (inl zeroth) = inl (let sum = okays_app made more in omega (arith, sum, none, zeroth))
  goes_no_row z y le made more none (inr (inl some)) = inr (inl (let sum = closes_app made more in omega (arith, sum, some)))
  goes_no_row z y le made more none (inr (inr some)) = inr (inr (omega (arith, le, some)))

  goes_lives : (z y : ℕ) → z ≤ y → (made more : List Sent) → okays more ≡ 0 → (rows new : List (ℕ × Row))
      → at n new ≡ at n rows → Lives z made rows
      → Lives y (made ++ more) new
  goes_lives z y le made more none rows new same (inl row) = inl (row.0, (same ∙ row.1.0, row.1.1))
  goes_lives z y le made more none rows new same (inr without_row) = inr (goes_no_row z y le made more none without_row)

  -- and where more CLSEs came
  grown_lives : (z y : ℕ) → z ≤ y → (made : List Sent) (rows : List (ℕ × Row)) → Lives z made rows → Lives y made rows
  grown_lives z y le made rows (inl row) = inl row
  grown_lives z y le made rows (inr (inl zeroth)) = inr (inl zeroth)
  grown_lives z y le made rows (inr (inr (inl some))) = inr (inr (inl some))
  grown_lives z y le made rows (inr (inr (inr some))) = inr (inr (inr (omega (arith, le, some))))

  -- What is served so far: an id that was not drawn has no row and no OKAY.
  record IsAlive (z : ℕ) (s : Serving) : Type 0 where
    rises : IsRising s.rows
    fresh : s.drawn < n → (at n s.rows ≡ None) × (okays s.made ≡ 0)
    lives : Lives z s.made s.rows

  -- a stream settles
  module _ (z : ℕ) (link : Link) (q : ℕ) (row : Row) (s : Serving) (rises : IsRising s.rows)
      (fresh : s.drawn < n → (q ≢ n) × ((at n s.rows ≡ None) × (okays s.made ≡ 0)))
      (other : q ≢ n → Lives z s.made s.rows) (own : q ≡ n → (row.host ≡ l) ⊎ NoRow z s.made) where
    silent : okays (sent_writes link q row) ≡ 0
    silent = none_written link.sums q row.host (writes link.most row)

    last_host : (row_written link.most row).host ≡ row.host
    last_host = written_host link.most row

    kept_lives : Lives z (s.made ++ sent_writes link q row) (put_at q (row_written link.most row) s.rows)
    kept_lives = go (cases_eq n q)
      where
        here : (same : n ≡ q) → (row.host ≡ l) ⊎ NoRow z s.made
            → Lives z (s.made ++ sent_writes link q row) (put_at q (row_written link.most row) s.rows)
        here same (inl host) =
            inl (
              row_written link.most row,
              (
                ap (λ k. at k (put_at q (row_written link.most row) s.rows)) same ∙ (puts_put_at q (row_written link.most row) s.rows).here,
                last_host ∙ host,
              ),
            )
        here same (inr none) = inr (goes_no_row z z (omega arith) s.made (sent_writes link q row) silent none)

        go : (n ≡ q) ⊎ (n ≡ q → ⊥) → Lives z (s.made ++ sent_writes link q row) (put_at q (row_written link.most row) s.rows)
        go (inl same) = here same (own (sym same))
        go (inr apart) =
            goes_lives z z (omega arith) s.made (sent_writes link q row) silent s.rows (put_at q (row_written link.most row) s.rows)
            ((puts_put_at q (row_written link.most row) s.rows).others n apart) (other (λ e. apart (sym e)))

    lost_lives : Lives z ((s.made ++ sent_writes link q row) ++ sent_close true link q (row_written link.most row).host) (without q s.rows)
    lost_lives = go (cases_eq n q)
      where
        Goal : Type 0
        Goal = Lives z ((s.made ++ sent_writes link q row) ++ sent_close true link q (row_written link.most row).host) (without q s.rows)

        one : n ≡ q → row.host ≡ l → closes (sent_close true link q (row_written link.most row).host) ≡ 1
        one same host =
            ap (λ b. cond (b && nat_eq (row_written link.most row).host l) (1 + 0) 0) (eq-eqb q n (sym same))
            ∙ ap (λ b. cond b (1 + 0) 0) (eq-eqb (row_written link.most row).host l (last_host ∙ host))

        here : (same : n ≡ q) → (row.host ≡ l) ⊎ NoRow z s.made → Goal
        here same (inl host) =
            inr (inr (inl (
            let sum = closes_app (s.made ++ sent_writes link q row) (sent_close true link q (row_written link.most row).host) in
            let is_one = one same host in
            omega (arith, sum, is_one))))
        here same (inr none) =
            inr (goes_no_row z z (omega arith) (s.made ++ sent_writes link q row)
            (sent_close true link q (row_written link.most row).host) refl
            (goes_no_row z z (omega arith) s.made (sent_writes link q row) silent none))

        go : (n ≡ q) ⊎ (n ≡ q → ⊥) → Goal
        go (inl same) = here same (own (sym same))
        go (inr apart) =
            goes_lives z z (omega arith) (s.made ++ sent_writes link q row)
            (sent_close true link q (row_written link.most row).host) refl s.rows
            (without q s.rows) ((puts_without q s.rows rises).others n apart)
            (goes_lives z z (omega arith) s.made (sent_writes link q row) silent s.rows s.rows refl (other (λ e. apart (sym e))))

    settled_alive : IsAlive z (settled link q row s)
    settled_alive = go (is_done (row_written link.most row))
      where
        go : (b : Bool) → IsAlive z (settled_as b link q (row_written link.most row) (owing (sent_writes link q row) s))
        go false = record {
          rises = put_at_rises q (row_written link.most row) s.rows rises;
          fresh = λ lt. let f = fresh lt in (
            (puts_put_at q (row_written link.most row) s.rows).others n (λ e. f.0 (sym e)) ∙ f.1.0,
            (let sum = okays_app s.made (sent_writes link q row) in let none = f.1.1 in omega (arith, sum, none, silent)),
          );
          lives = kept_lives;
        }
        go true = record {
          rises = without_rises q s.rows rises;
          fresh = λ lt. let f = fresh lt in (
            (puts_without q s.rows rises).others n (λ e. f.0 (sym e)) ∙ f.1.0,
            (let sum = okays_app s.made (sent_writes link q row) in
                let all = okays_app (s.made ++ sent_writes link q row) (sent_close true link q (row_written link.most row).host) in
                let none = f.1.1 in
                omega (arith, sum, all, none, silent)),
          );
          lives = lost_lives;
        }

  -- an OKAY of another id, or to another
  okay_apart : (sums : Bool) (own host : ℕ) (word : List ℕ) → (own ≡ n → host ≡ l → ⊥) → okays (with_sum sums (okay own host word) ∷ []) ≡ 0
  okay_apart sums own host word apart = go (nat_eq own n) refl (nat_eq host l) refl
    where
      go : (a : Bool) → nat_eq own n ≡ a → (b : Bool) → nat_eq host l ≡ b → cond (a && b) (1 + 0) 0 ≡ 0
      go true e true f = absurd (apart (eqb-true own n e) (eqb-true host l f))
      go true e false f = refl
      go false e b f = refl

  ack_apart : (link : Link) (own host : ℕ) (flow : Flow) (m : ℕ) → (own ≡ n → host ≡ l → ⊥) → okays (sent_ack link own host flow m) ≡ 0
  ack_apart link own host (flows.One window) m apart = okay_apart link.sums own host [] apart
  ack_apart link own host (flows.Credit credit) m apart = by (m == 0)
    where
      by : (b : Bool) → okays (if b then [] else with_sum link.sums (okay own host (little_bytes 4 m)) ∷ []) ≡ 0
      by true = refl
      by false = okay_apart link.sums own host (little_bytes 4 m) apart

  -- more CLSEs may have come
  grown : (z y : ℕ) (s : Serving) → z ≤ y → IsAlive z s → IsAlive y s
  grown z y s le j = record { rises = j.rises; fresh = j.fresh; lives = grown_lives z y le s.made s.rows j.lives }

  -- one packet on the link
  module _ (z : ℕ) (link : Link) (p : Packet) (s : Serving) (j : IsAlive z s) where
    -- what is known of another row under that id
    other_row : (row : Row) → at n s.rows ≡ Some row → (row.host ≡ l → ⊥) → NoRow z s.made
    other_row row is apart = go j.lives
      where
        go : Lives z s.made s.rows → NoRow z s.made
        go (inl found) =
            let both : Some found.0 ≡ Some row = sym found.1.0 ∙ is in
            let same : found.0 ≡ row = cc in
            absurd (apart (ap (λ (r : Row). r.host) (sym same) ∙ found.1.1))
        go (inr none) = none

    alive_open : IsAlive z (on_open link p s)
    alive_open = go (p.arg0 == 0 || is_taken p.arg0 s.rows)
      where
        by : (kind : Option Kind) → IsAlive z (open_as link p kind s)
        by None = record {
          rises = j.rises;
          fresh = λ lt.
              let f = j.fresh lt in
              let sum = okays_app s.made (with_sum link.sums (clse 0 p.arg0) ∷ []) in
              (f.0, (let none = f.1 in omega (arith, sum, none)));
          lives = goes_lives z z (omega arith) s.made (with_sum link.sums (clse 0 p.arg0) ∷ []) refl s.rows s.rows refl j.lives;
        }
        by (Some kind) =
            let hello = with_sum link.sums (okay (s.drawn + 1) p.arg0 (opening_word (credit_of link p))) ∷ [] in
            let given = granted (s.drawn + 1) (credit_of link p) (owing hello s) in
            let begun : Serving = record given { drawn = s.drawn + 1; files = files_opened kind s.files } in
            settled_alive z link (s.drawn + 1) (opened p.arg0 kind s.files (credit_of link p)) begun j.rises
            (λ lt. let f = j.fresh (omega (arith, lt)) in (
              (λ e. omega (arith, lt, e)),
              (
                f.0,
                (let sum = okays_app s.made hello in
                    let none = f.1 in
                    let apart = okay_apart link.sums (s.drawn + 1) p.arg0 (opening_word (credit_of link p)) (λ e g. omega (arith, lt, e)) in
                    omega (arith, sum, none, apart)),
              ),
            ))
            (λ apart. goes_lives z z (omega arith) s.made hello
            (okay_apart link.sums (s.drawn + 1) p.arg0 (opening_word (credit_of link p)) (λ e g. apart e)) s.rows s.rows refl j.lives)
            (λ e. elim (cases_eq p.arg0 l) [
              | inl host ↦ inl host
              | inr apart ↦
                  let f = j.fresh (omega (arith, e)) in
                  let none = f.1 in
                  let sum = okays_app s.made hello in
                  let silent = okay_apart link.sums (s.drawn + 1) p.arg0 (opening_word (credit_of link p)) (λ g h. apart h) in
                  inr (inl (omega (arith, sum, none, silent)))
            ])

        go : (b : Bool) → IsAlive z (if b then s else open_as link p (kind_for s.drawn p) s)
        go true = j
        go false = by (kind_for s.drawn p)

    -- an id that was not drawn has no row
    fresh_apart : (row : Row) → at p.arg1 s.rows ≡ Some row → s.drawn < n → p.arg1 ≢ n
    fresh_apart row is lt e =
        let f = j.fresh lt in
        let clash : None ≡ Some row = sym f.0 ∙ (ap (λ k. at k s.rows) (sym e) ∙ is) in
        cc

    alive_write : IsAlive z (on_write link p s)
    alive_write = go (named p.arg0 (at p.arg1 s.rows)) refl
      where
        go : (found : Option Row) → named p.arg0 (at p.arg1 s.rows) ≡ found → IsAlive z (written_to link p found s)
        go None is = j
        go (Some row) is =
            let place = named_is p.arg0 (at p.arg1 s.rows) row is in
            let ack = sent_ack link p.arg1 row.host row.flow (length p.payload) in
            let mid : Serving = record (owing ack s) { files = files_fed row.kind row.past (came_over p.payload s.files) } in
            settled_alive z link p.arg1 (row_took (came_over p.payload s.files) row) mid j.rises
            (λ lt. let f = j.fresh lt in let off = fresh_apart row place lt in (
              off,
              (
                f.0,
                (let sum = okays_app s.made ack in
                    let none = f.1 in
                    let silent = ack_apart link p.arg1 row.host row.flow (length p.payload) (λ e g. off e) in
                    omega (arith, sum, none, silent)),
              ),
            ))
            (λ apart. goes_lives z z (omega arith) s.made ack
            (ack_apart link p.arg1 row.host row.flow (length p.payload) (λ e g. apart e)) s.rows s.rows refl j.lives)
            (λ e. elim (cases_eq row.host l) [
              | inl host ↦ inl host
              | inr apart ↦ inr
                  (goes_no_row z z (omega arith) s.made ack
                  (ack_apart link p.arg1 row.host row.flow (length p.payload) (λ g h. apart h))
                  (other_row row (ap (λ k. at k s.rows) (sym e) ∙ place) apart))
            ])

    alive_okay : IsAlive z (on_okay link p s)
    alive_okay = go (named p.arg0 (at p.arg1 s.rows)) refl
      where
        go : (found : Option Row) → named p.arg0 (at p.arg1 s.rows) ≡ found → IsAlive z (acked_to link p found s)
        go None is = j
        go (Some row) is =
            let place = named_is p.arg0 (at p.arg1 s.rows) row is in
            let mid : Serving = granted p.arg1 (credit_word_in p.payload) s in
            settled_alive z link p.arg1 (row_acked (credit_word_in p.payload) row) mid j.rises
            (λ lt. let f = j.fresh lt in (fresh_apart row place lt, (f.0, f.1)))
            (λ apart. j.lives)
            (λ e. elim (cases_eq row.host l) [
              | inl host ↦ inl host
              | inr apart ↦ inr (other_row row (ap (λ k. at k s.rows) (sym e) ∙ place) apart)
            ])

    -- a CLSE to the id
    one_close : p.command ≡ commands.Clse → p.arg1 ≡ n → closes_in p ≡ 1
    one_close c e = ap (λ k. cond (is_clse k && nat_eq p.arg1 n) (1 + 0) 0) c ∙ ap (λ b. cond b (1 + 0) 0) (eq-eqb p.arg1 n e)

    alive_close : p.command ≡ commands.Clse → IsAlive (z + closes_in p) (on_close p s)
    alive_close c = go (closable p.arg0 (at p.arg1 s.rows)) refl
      where
        go : (found : Option Row) → closable p.arg0 (at p.arg1 s.rows) ≡ found → IsAlive (z + closes_in p) (closed_to p.arg1 found s)
        go None is = grown z (z + closes_in p) s (omega arith) j
        go (Some row) is =
            let place = closable_is p.arg0 (at p.arg1 s.rows) row is in
            record {
              rises = without_rises p.arg1 s.rows j.rises;
              fresh = λ lt. let f = j.fresh lt in (
                (puts_without p.arg1 s.rows j.rises).others n (λ e. fresh_apart row place lt (sym e)) ∙ f.0,
                f.1,
              );
              lives = by (cases_eq n p.arg1);
            }
          where
            by : (n ≡ p.arg1) ⊎ (n ≡ p.arg1 → ⊥) → Lives (z + closes_in p) s.made (without p.arg1 s.rows)
            by (inl same) = inr (inr (inr (let one = one_close c (sym same) in omega (arith, one))))
            by (inr apart) = other (grown_lives z (z + closes_in p) (omega arith) s.made s.rows j.lives)
              where
                other : Lives (z + closes_in p) s.made s.rows → Lives (z + closes_in p) s.made (without p.arg1 s.rows)
                other (inl row) = inl (row.0, ((puts_without p.arg1 s.rows j.rises).others n apart ∙ row.1.0, row.1.1))
                other (inr none) = inr none

  -- what a packet of the host makes of it
  alive_served : (z : ℕ) (link : Link) (p : Packet) (s : Serving) → IsAlive z s → (command : Command) → p.command ≡ command
      → IsAlive (z + closes_in p) (served command link p s)
  alive_served z link p s j commands.Open c = grown z (z + closes_in p) (on_open link p s) (omega arith) (alive_open z link p s j)
  alive_served z link p s j commands.Wrte c = grown z (z + closes_in p) (on_write link p s) (omega arith) (alive_write z link p s j)
  alive_served z link p s j commands.Okay c = grown z (z + closes_in p) (on_okay link p s) (omega arith) (alive_okay z link p s j)
  alive_served z link p s j commands.Clse c = alive_close z link p s j c
  alive_served z link p s j _ c = grown z (z + closes_in p) s (omega arith) j

  -- The device so far, where its host said so often who it is: before that nothing is due to a stream.
  record IsAliveSoFar (c z : ℕ) (d : Device) : Type 0 where
    first : c ≡ 0 → d.link ≡ None
    quiet : d.link ≡ None → okays d.serving.made ≡ 0
    serving : IsAlive z d.serving

  -- one packet
  step_alive : (setting : Setting) (c z : ℕ) (p : Packet) → c + cnxns_in p ≤ 1 → (d : Device) → IsAliveSoFar c z d
      → IsAliveSoFar (c + cnxns_in p) (z + closes_in p) (step setting d p)
  unfolding step IsStrictlySortedBy
  step_alive setting c z p once d j = go d.refused
    where
      Next : Device → Type 0
      Next new = IsAliveSoFar (c + cnxns_in p) (z + closes_in p) new

      later : (new : Device) → new.link ≡ d.link → new.serving ≡ d.serving → Next new
      later new link same = record {
        first = λ e. link ∙ j.first (omega (arith, e));
        quiet = λ e. ap (λ (s : Serving). okays s.made) same ∙ j.quiet (sym link ∙ e);
        serving = subst (λ (s : Serving). IsAlive (z + closes_in p) s) (sym same)
            (grown z (z + closes_in p) d.serving (omega arith) j.serving);
      }

      linked : is_cnxn p.command ≡ true → (link : Option Link) → Next (linked_to link d)
      linked cnxn None = later (linked_to None d) refl refl
      linked cnxn (Some link) =
          let one : cnxns_in p ≡ 1 = ap (λ b. cond b (1 + 0) 0) cnxn in
          let none = j.quiet (j.first (omega (arith, once, one))) in
          record {
            first = λ e. absurd (omega (arith, e, one));
            quiet = λ e. absurd (let clash : Some link ≡ None = e in cc);
            serving = record { rises = tt; fresh = λ lt. (refl, none); lives = inr (inl none) };
          }

      on : (link : Option Link) → d.link ≡ link → Next (served_on link p d)
      on None is = later d refl refl
      on (Some link) is = record {
        first = λ e. j.first (omega (arith, e));
        quiet = λ e. absurd (let clash : None ≡ Some link = sym e ∙ is in cc);
        serving = alive_served z link p d.serving j.serving p.command refl;
      }

      by : (b : Bool) → is_cnxn p.command ≡ b
          → Next (if b then linked_to (link_of setting.most setting.credit p) d else served_on d.link p d)
      by true e = linked e (link_of setting.most setting.credit p)
      by false e = on d.link refl

      go : (b : Bool) → Next (if b then d else treated setting p d)
      go true = later d refl refl
      go false = by (is_cnxn p.command) refl

  -- all packets
  all_alive : (setting : Setting) (c z y : ℕ) (packets : List Packet) → c + how_many is_cnxn_packet packets ≤ 1
      → z + how_many (is_close_to n) packets ≤ y → (d : Device) → IsAliveSoFar c z d → IsAlive y (fold (step setting) d packets).serving
  all_alive setting c z y [] once le d j = grown z y d.serving (omega (arith, le)) j.serving
  all_alive setting c z y (p ∷ packets) once le d j =
      let sum = many_first is_cnxn_packet p packets in
      let closed = many_first (is_close_to n) p packets in
      all_alive setting (c + cnxns_in p) (z + closes_in p) y packets (omega (arith, once, sum)) (omega (arith, le, closed))
      (step setting d p)
      (step_alive setting c z p (omega (arith, once, sum)) d j)

-- so a row that took its OPEN lives, or was closed
pub lives_or_closed : (setting : Setting) → LivesOrWasClosed setting
unfolding IsStrictlySortedBy
lives_or_closed setting n l packets once some =
    let all = all_alive n l setting 0 0 (how_many (is_close_to n) packets) packets (omega (arith, once)) (omega arith)
    (first_device setting)
    (record {
      first = λ e. refl;
      quiet = λ e. refl;
      serving = record { rises = tt; fresh = λ lt. (refl, refl); lives = inr (inl refl) };
    }) in
    elim all.lives [
      | inl row ↦ inl row
      | inr without_row ↦ inr (elim without_row [
        | inl none ↦ absurd (omega (arith, some, none))
        | inr closed ↦ closed
      ])
    ]
