-- What was sent up a stream came to its service at the device.
use Rattle.std.specs.Prelude.{ℕ, ◌+◌, ◌^◌, ◌≡◌, ◌≢◌, ◌<◌, ◌≤◌, ◌==◌, ◌||◌, ◌&&◌, if◌then◌else◌, Bool, true, false, cond, List, [], ◌∷◌}
use Rattle.std.specs.Prelude.{◌++◌, fold, length}
use Rattle.std.specs.Prelude.{nat_eq, Option, Some, None}
use Rattle.std.proofs.Common.{refl, sym, ◌∙◌, ap, subst, arith, ◌⊎◌, inl, inr, append_assoc}
use Rattle.std.specs.List.Sorted.{IsStrictlySortedBy}
use Rattle.std.proofs.lemmas.Bool.{eq-eqb, eqb-true}
use Rattle.std.proofs.lemmas.List.{append-nil}
use Rattle.adb_outside.specs.Tables.{at, IsRising, put_at, without}
use Rattle.adb_outside.specs.Bytes.{IsPrefixOf}
use Rattle.adb_outside.proofs.TableLaws.{without_rises}
use Rattle.adb_wire.specs.Format.{is_cnxn}
use Rattle.adb_wire.specs.declared.command.Command.{Command}
use Rattle.adb_wire.specs.declared.command.Command.TheVariants as commands
use Rattle.adb_wire.specs.declared.packets.Packet.{Packet}
use Rattle.adb_history.specs.Births.{count_from, carried_in, remote_of, is_wrte, is_open}
use Rattle.adb_history.specs.Bytes.{sent}
use Rattle.adb_history.specs.Machine.{History, IsLegal}
use Rattle.adb_device_streams.specs.Asked.{Kind}
use Rattle.adb_device_streams.specs.Service.{bytes_in, came_over, files_fed, files_opened}
use Rattle.adb_device_streams.specs.Stream.{Row, opened, row_took, row_acked, row_past, row_past_all, row_written, writes, is_done, okay}
use Rattle.adb_device_streams.specs.Stream.{opening_word}
use Rattle.adb_device_streams.specs.Link.{credit_word_in, link_of}
use Rattle.adb_device_streams.specs.declared.link.Link.{Link}
use Rattle.adb_daemon.specs.Serving.{Serving, Ended, with_sum, owing, granted, ended_at, sent_ack, sent_writes, settled_as, settled, named}
use Rattle.adb_daemon.specs.Serving.{closable}
use Rattle.adb_daemon.specs.Serving.{is_taken, kind_for, credit_of, open_as, on_open, written_to, on_write, acked_to, on_okay, closed_to}
use Rattle.adb_daemon.specs.Serving.{on_close, served}
use Rattle.adb_daemon.specs.Serving.{all_gone}
use Rattle.adb_daemon.specs.Device.{Device, Setting, step, treated, linked_to, served_on, first_device, device_behind}
use Rattle.adb_daemon.specs.Streams.{over_at}
use Rattle.adb_daemon.proofs.Owed.{written_host}
use Rattle.adb_daemon.proofs.Rules.{named_is, closable_is, or_over, all_over}
use Rattle.adb_laws_model_device.specs.InTurn.{IsInTurn, AreInTurn}
use Rattle.adb_laws_model_device.proofs.Counts.{count_one}
use Rattle.adb_laws_model_device.proofs.Turns.{sent_in_turn}
use Rattle.adb_laws_model_device.specs.Owed.{packets_owed}
use Rattle.adb_laws_model_device.specs.Joined.{IsJoined}
use Rattle.adb_laws_model_device.specs.Came.{TookCarried, TakesCarried}
use Rattle.adb_laws_model_device.proofs.Plain.{model_is_plain}
use Rattle.adb_laws_model_device.proofs.Joined.{paired}
use Rattle.adb_laws_model_device.proofs.Sound.{never_refused}
use Rattle.adb_laws_model_device.proofs.Tables.{put_found, left_found, settled_rises}

-- writes change nothing of what came
past_stays : (payloads : List (List ℕ)) (row : Row) → (row_past_all payloads row).past ≡ row.past
past_stays [] row = refl
past_stays (payload ∷ more) row = past_stays more (row_past payload row)

-- what one stream was sent, packet by packet
module _ (l : ℕ) where
  -- how many OPENs of the stream a packet is, and what it carries of it
  abbrev opens_in : Packet → ℕ
  opens_in p = count_from is_open l (p ∷ [])

  abbrev carries : Packet → List ℕ
  carries p = carried_in l (p ∷ [])

  -- what packets carry is what the first carries and the others
  carried_first : (p : Packet) (ps : List Packet) → carried_in l (p ∷ ps) ≡ carries p ++ carried_in l ps
  carried_first p ps = go (is_wrte p.command && nat_eq p.arg0 l)
    where
      go : (b : Bool) → cond b (p.payload ++ carried_in l ps) (carried_in l ps) ≡ cond b (p.payload ++ []) [] ++ carried_in l ps
      go true = ap (λ (x : List ℕ). x ++ carried_in l ps) (sym (append-nil p.payload))
      go false = refl

  -- a packet carries its payload, or nothing
  carries_none : (p : Packet) → is_wrte p.command ≡ false → carries p ≡ []
  carries_none p e = ap (λ b. cond (b && nat_eq p.arg0 l) (p.payload ++ []) []) e

  carries_one : (p : Packet) → is_wrte p.command ≡ true → p.arg0 ≡ l → carries p ≡ p.payload
  carries_one p e f =
      ap (λ b. cond (b && nat_eq p.arg0 l) (p.payload ++ []) []) e
      ∙ (ap (λ b. cond b (p.payload ++ []) []) (eq-eqb p.arg0 l f) ∙ append-nil p.payload)

  -- it carries nothing, or it is a write of the stream
  carried : (p : Packet) → (carries p ≡ []) ⊎ ((is_wrte p.command ≡ true) × (p.arg0 ≡ l))
  carried p = go (is_wrte p.command) refl (nat_eq p.arg0 l) refl
    where
      go : (a : Bool) → is_wrte p.command ≡ a → (b : Bool) → nat_eq p.arg0 l ≡ b
          → (carries p ≡ []) ⊎ ((is_wrte p.command ≡ true) × (p.arg0 ≡ l))
      go true e true f = inr (e, eqb-true p.arg0 l f)
      go true e false f =
          inl (ap (λ a. cond (a && nat_eq p.arg0 l) (p.payload ++ []) []) e ∙ ap (λ b. cond b (p.payload ++ []) []) f)
      go false e b f = inl (carries_none p e)

module _ (l n : ℕ) where
  -- The row of the id has taken all of the text, where there was an OPEN; one that has ended took a front of it.
  abbrev Live : ℕ → List ℕ → List (ℕ × Row) → Type 0
  Live o text rows = (row : Row) → at n rows ≡ Some row → row.host ≡ l → (1 ≤ o) × (bytes_in row.past ≡ text)

  abbrev Over : List ℕ → List Ended → Type 0
  Over text ended = (e : Ended) → over_at n ended ≡ Some e → e.row.host ≡ l → IsPrefixOf (bytes_in e.row.past) text

  -- a text is a front of itself
  prefix_same : (front text : List ℕ) → front ≡ text → IsPrefixOf front text
  prefix_same front text same = ([], append-nil front ∙ same)

  -- one more has ended
  ended_found : (closed : Bool) (q : ℕ) (row : Row) (ended : List Ended) (e : Ended) → over_at n (ended_at closed (q, row) ∷ ended) ≡ Some e
      → ((q ≡ n) × (row ≡ e.row)) ⊎ (over_at n ended ≡ Some e)
  ended_found closed q row ended e is = go (q == n) refl is
    where
      go : (b : Bool) → (q == n) ≡ b → cond b (Some (ended_at closed (q, row))) (over_at n ended) ≡ Some e
          → ((q ≡ n) × (row ≡ e.row)) ⊎ (over_at n ended ≡ Some e)
      go true f found =
          let one : ended_at closed (q, row) ≡ e = cc in
          inl (eqb-true q n f, ap (λ (x : Ended). x.row) one)
      go false f found = inr found

  over_more : (closed : Bool) (text : List ℕ) (q : ℕ) (row : Row) (ended : List Ended) → Over text ended
      → (q ≡ n → row.host ≡ l → bytes_in row.past ≡ text) → Over text (ended_at closed (q, row) ∷ ended)
  over_more closed text q row ended over mine e is host = elim (ended_found closed q row ended e is) [
    | inl here ↦
        subst (λ (r : Row). IsPrefixOf (bytes_in r.past) text) here.1
        (prefix_same (bytes_in row.past) text (mine here.0 (ap (λ (r : Row). r.host) here.1 ∙ host)))
    | inr there ↦ over e there host
  ]

  -- a stream settled
  settled_live : (o : ℕ) (text : List ℕ) (link : Link) (q : ℕ) (row : Row) (s : Serving) → IsRising s.rows → (q ≢ n → Live o text s.rows)
      → (q ≡ n → row.host ≡ l → (1 ≤ o) × (bytes_in row.past ≡ text)) → Live o text (settled link q row s).rows
  settled_live o text link q row s rises others mine = go (is_done (row_written link.most row))
    where
      kept_one : Live o text (put_at q (row_written link.most row) s.rows)
      kept_one found is host = elim (put_found q (row_written link.most row) s.rows n found is) [
        | inl here ↦
            let old = mine (sym here.0) (sym (written_host link.most row) ∙ (ap (λ (r : Row). r.host) here.1 ∙ host)) in
            (old.0, ap (λ (r : Row). bytes_in r.past) (sym here.1) ∙ (ap bytes_in (past_stays (writes link.most row) row) ∙ old.1))
        | inr there ↦ others (λ e. there.0 (sym e)) found there.1 host
      ]

      lost_one : Live o text (without q s.rows)
      lost_one found is host =
          let there = left_found q s.rows rises n found is in
          others (λ e. there.0 (sym e)) found there.1 host

      go : (b : Bool) → Live o text (settled_as b link q (row_written link.most row) (owing (sent_writes link q row) s)).rows
      go false = kept_one
      go true = lost_one

  settled_over : (text : List ℕ) (link : Link) (q : ℕ) (row : Row) (s : Serving) → Over text s.ended
      → (q ≡ n → row.host ≡ l → bytes_in row.past ≡ text) → Over text (settled link q row s).ended
  settled_over text link q row s over mine = go (is_done (row_written link.most row))
    where
      go : (b : Bool) → Over text (settled_as b link q (row_written link.most row) (owing (sent_writes link q row) s)).ended
      go false = over
      go true = over_more true text q (row_written link.most row) s.ended over
          (λ here host. ap bytes_in (past_stays (writes link.most row) row) ∙ mine here (sym (written_host link.most row) ∙ host))

  -- so far so many OPENs and this text of the stream, and what its rows have of it
  record CameSoFar (o : ℕ) (text : List ℕ) (s : Serving) : Type 0 where
    rises : IsRising s.rows
    none : o ≡ 0 → text ≡ []
    live : Live o text s.rows
    over : Over text s.ended

  -- a packet that comes in its turn
  module _ (o : ℕ) (text : List ℕ) (p : Packet) (turn : IsInTurn l n o p) where
    abbrev now : ℕ
    now = o + opens_in l p

    abbrev more : List ℕ
    more = text ++ carries l p

    -- no text before the OPEN
    still_none : (o ≡ 0 → text ≡ []) → now ≡ 0 → more ≡ []
    still_none none e = elim (carried l p) [
      | inl zeroth ↦ ap (λ (x : List ℕ). text ++ x) zeroth ∙ (append-nil text ∙ none first)
      | inr one ↦ absurd (let some = (turn.wrte one.0 one.1).0 in omega (arith, some, first))
    ]
      where
        first : o ≡ 0
        first = omega (arith, e)

    -- where it carries nothing the rows have all still
    still : carries l p ≡ [] → (rows : List (ℕ × Row)) → Live o text rows → Live now more rows
    still zeroth rows live row is host =
        let old = live row is host in
        ((let some = old.0 in omega (arith, some)), old.1 ∙ (sym (append-nil text) ∙ ap (λ (x : List ℕ). text ++ x) (sym zeroth)))

    -- those that have ended took a front still
    over_still : (ended : List Ended) → Over text ended → Over more ended
    over_still ended over e is host =
        let front = over e is host in (
          front.0 ++ carries l p,
          sym (append_assoc (bytes_in e.row.past) front.0 (carries l p))
              ∙ ap (λ (x : List ℕ). x ++ carries l p) front.1,
        )

    -- a packet that changes no row
    same : (s new : Serving) → new.rows ≡ s.rows → new.ended ≡ s.ended → carries l p ≡ [] → CameSoFar o text s → CameSoFar now more new
    same s new rows ended zeroth j = record {
      rises = subst (λ (r : List (ℕ × Row)). IsRising r) (sym rows) j.rises;
      none = still_none j.none;
      live = subst (λ (r : List (ℕ × Row)). Live now more r) (sym rows) (still zeroth s.rows j.live);
      over = subst (λ (x : List Ended). Over more x) (sym ended) (over_still s.ended j.over);
    }

    module _ (link : Link) (s : Serving) (j : CameSoFar o text s) where
      came_open : p.command ≡ commands.Open → CameSoFar now more (on_open link p s)
      came_open c = go (p.arg0 == 0 || is_taken p.arg0 s.rows)
        where
          zeroth : carries l p ≡ []
          zeroth = carries_none l p (ap is_wrte c)

          -- the text is empty at the OPEN
          empty : p.arg0 ≡ l → more ≡ []
          empty host = ap (λ (x : List ℕ). text ++ x) zeroth ∙ (append-nil text ∙ j.none (turn.asked (ap is_open c) host))

          some : (kind : Kind) → CameSoFar now more (open_as link p (Some kind) s)
          some kind =
              let hello = with_sum link.sums (okay (s.drawn + 1) p.arg0 (opening_word (credit_of link p))) ∷ [] in
              let given = granted (s.drawn + 1) (credit_of link p) (owing hello s) in
              let begun : Serving = record given { drawn = s.drawn + 1; files = files_opened kind s.files } in
              let row : Row = opened p.arg0 kind s.files (credit_of link p) in
              record {
                rises = settled_rises link (s.drawn + 1) row begun j.rises;
                none = still_none j.none;
                live = settled_live now more link (s.drawn + 1) row begun j.rises (λ apart. still zeroth s.rows j.live)
                    (λ here host. ((let one = count_one is_open l p (ap is_open c) host in omega (arith, one)), sym (empty host)));
                over = settled_over more link (s.drawn + 1) row begun (over_still s.ended j.over) (λ here host. sym (empty host));
              }

          by : (kind : Option Kind) → CameSoFar now more (open_as link p kind s)
          by None = same s (open_as link p None s) refl refl zeroth j
          by (Some kind) = some kind

          go : (b : Bool) → CameSoFar now more (if b then s else open_as link p (kind_for s.drawn p) s)
          go true = same s s refl refl zeroth j
          go false = by (kind_for s.drawn p)

      came_write : p.command ≡ commands.Wrte → CameSoFar now more (on_write link p s)
      came_write c = go (named p.arg0 (at p.arg1 s.rows)) refl
        where
          -- a write that found no row
          nowhere : named p.arg0 (at p.arg1 s.rows) ≡ None → CameSoFar now more s
          nowhere is = elim (carried l p) [
            | inl zeroth ↦ same s s refl refl zeroth j
            | inr one ↦ record {
              rises = j.rises;
              none = still_none j.none;
              live = λ row here host.
                  let found : at p.arg1 s.rows ≡ Some row = ap (λ k. at k s.rows) (turn.wrte one.0 one.1).1 ∙ here in
                  let hit : named p.arg0 (at p.arg1 s.rows) ≡ Some row =
                  ap (named p.arg0) found ∙ ap (λ (b : Bool). if b then Some row else None) (eq-eqb row.host p.arg0 (host ∙ sym one.1)) in
                  absurd (let clash : None ≡ Some row = sym is ∙ hit in cc);
              over = over_still s.ended j.over;
            }
          ]

          host_of : (row : Row) (found : Option Row) → named p.arg0 found ≡ Some row → row.host ≡ p.arg0
          host_of row None e = let clash : None ≡ Some row = e in cc
          host_of row (Some other) e = by (other.host == p.arg0) refl e
            where
              by : (b : Bool) → (other.host == p.arg0) ≡ b → (if b then Some other else None) ≡ Some row → row.host ≡ p.arg0
              by true f e = (let one : other ≡ row = cc in ap (λ (r : Row). r.host) (sym one) ∙ eqb-true other.host p.arg0 f)
              by false f e = let clash : None ≡ Some row = e in cc

          took : (row : Row) → named p.arg0 (at p.arg1 s.rows) ≡ Some row → row.host ≡ p.arg0
              → CameSoFar now more (written_to link p (Some row) s)
          took row is sender =
              let ack = sent_ack link p.arg1 row.host row.flow (length p.payload) in
              let mid : Serving = record (owing ack s) { files = files_fed row.kind row.past (came_over p.payload s.files) } in
              let next : Row = row_took (came_over p.payload s.files) row in
              record {
                rises = settled_rises link p.arg1 next mid j.rises;
                none = still_none j.none;
                live = settled_live now more link p.arg1 next mid j.rises
                    (λ apart. elim (carried l p) [
                      | inl zeroth ↦ still zeroth s.rows j.live
                      | inr one ↦ absurd (apart (turn.wrte one.0 one.1).1)
                    ])
                    (λ here host. ((let some = (old here host).0 in omega (arith, some)), all here host));
                over = settled_over more link p.arg1 next mid (over_still s.ended j.over) all;
              }
            where
              old : p.arg1 ≡ n → row.host ≡ l → (1 ≤ o) × (bytes_in row.past ≡ text)
              old here host = j.live row (ap (λ k. at k s.rows) (sym here) ∙ named_is p.arg0 (at p.arg1 s.rows) row is) host

              all : p.arg1 ≡ n → row.host ≡ l → bytes_in row.past ++ p.payload ≡ more
              all here host =
                  ap (λ (x : List ℕ). x ++ p.payload) (old here host).1
                  ∙ ap (λ (x : List ℕ). text ++ x) (sym (carries_one l p (ap is_wrte c) (sym sender ∙ host)))

          go : (found : Option Row) → named p.arg0 (at p.arg1 s.rows) ≡ found → CameSoFar now more (written_to link p found s)
          go None is = nowhere is
          go (Some row) is = took row is (host_of row (at p.arg1 s.rows) is)

      came_okay : p.command ≡ commands.Okay → CameSoFar now more (on_okay link p s)
      came_okay c = go (named p.arg0 (at p.arg1 s.rows)) refl
        where
          zeroth : carries l p ≡ []
          zeroth = carries_none l p (ap is_wrte c)

          go : (found : Option Row) → named p.arg0 (at p.arg1 s.rows) ≡ found → CameSoFar now more (acked_to link p found s)
          go None is = same s s refl refl zeroth j
          go (Some row) is =
              let mid : Serving = granted p.arg1 (credit_word_in p.payload) s in
              let next : Row = row_acked (credit_word_in p.payload) row in
              let mine : p.arg1 ≡ n → row.host ≡ l → (1 ≤ now) × (bytes_in row.past ≡ more) =
              λ here host. still zeroth s.rows j.live row
              (ap (λ k. at k s.rows) (sym here) ∙ named_is p.arg0 (at p.arg1 s.rows) row is) host in
              record {
                rises = settled_rises link p.arg1 next mid j.rises;
                none = still_none j.none;
                live = settled_live now more link p.arg1 next mid j.rises (λ apart. still zeroth s.rows j.live) mine;
                over = settled_over more link p.arg1 next mid (over_still s.ended j.over) (λ here host. (mine here host).1);
              }

      came_close : p.command ≡ commands.Clse → CameSoFar now more (on_close p s)
      came_close c = go (closable p.arg0 (at p.arg1 s.rows)) refl
        where
          zeroth : carries l p ≡ []
          zeroth = carries_none l p (ap is_wrte c)

          go : (found : Option Row) → closable p.arg0 (at p.arg1 s.rows) ≡ found → CameSoFar now more (closed_to p.arg1 found s)
          go None is = same s s refl refl zeroth j
          go (Some row) is = record {
            rises = without_rises p.arg1 s.rows j.rises;
            none = still_none j.none;
            live = λ found here host. still zeroth s.rows j.live found (left_found p.arg1 s.rows j.rises n found here).1 host;
            over = over_more false more p.arg1 row s.ended (over_still s.ended j.over)
                (λ here host.
                (still zeroth s.rows j.live row (ap (λ k. at k s.rows) (sym here) ∙ closable_is p.arg0 (at p.arg1 s.rows) row is) host).1);
          }

      came_served : (command : Command) → p.command ≡ command → CameSoFar now more (served command link p s)
      came_served commands.Open c = came_open c
      came_served commands.Wrte c = came_write c
      came_served commands.Okay c = came_okay c
      came_served commands.Clse c = came_close c
      came_served _ c = same s s refl refl (carries_none l p (ap is_wrte c)) j

    -- where there is no row there is none to take anything
    no_rows : (s new : Serving) → new.rows ≡ [] → IsRising new.rows → Over more new.ended → (o ≡ 0 → text ≡ []) → CameSoFar now more new
    no_rows s new empty rises over none = record {
      rises = rises;
      none = still_none none;
      live = λ row is host. absurd (let clash : None ≡ Some row = sym (ap (at n) empty) ∙ is in cc);
      over = over;
    }

    -- all streams end
    over_gone : (s : Serving) → CameSoFar o text s → Over more (all_gone s).ended
    over_gone s j = over_still (all_gone s).ended (λ e is host. go (at n s.rows) refl e (sym (all_over n s.rows s.ended) ∙ is) host)
      where
        go : (found : Option Row) → at n s.rows ≡ found → (e : Ended) → or_over n found (over_at n s.ended) ≡ Some e → e.row.host ≡ l
            → IsPrefixOf (bytes_in e.row.past) text
        go None there e is host = j.over e is host
        go (Some row) there e is host =
            let one : ended_at false (n, row) ≡ e = cc in
            let mine : row ≡ e.row = ap (λ (x : Ended). x.row) one in
            subst (λ (r : Row). IsPrefixOf (bytes_in r.past) text) mine
            (prefix_same (bytes_in row.past) text (j.live row there (ap (λ (r : Row). r.host) mine ∙ host)).1)

  -- ---- devices
  -- a device without a link has no stream
  abbrev HasRows : Option Link → List (ℕ × Row) → Type 0
  HasRows None rows = rows ≡ []
  HasRows (Some link) rows = Unit {0}

  -- the device so far
  record IsSoFar (o : ℕ) (text : List ℕ) (d : Device) : Type 0 where
    link : HasRows d.link d.serving.rows
    serving : d.refused ≡ false → CameSoFar o text d.serving

  -- one packet
  step_came : (setting : Setting) (o : ℕ) (text : List ℕ) (p : Packet) → IsInTurn l n o p → (d : Device) → IsSoFar o text d
      → IsSoFar (o + opens_in l p) (text ++ carries l p) (step setting d p)
  unfolding step IsStrictlySortedBy
  step_came setting o text p turn d j = go d.refused refl
    where
      Next : Device → Type 0
      Next new = IsSoFar (o + opens_in l p) (text ++ carries l p) new

      linked : d.refused ≡ false → (link : Option Link) → Next (linked_to link d)
      linked sound None = record { link = j.link; serving = λ e. absurd (let clash : true ≡ false = e in cc) }
      linked sound (Some link) = record {
        link = tt;
        serving = λ e. no_rows o text p turn d.serving (all_gone d.serving) refl tt (over_gone o text p turn d.serving (j.serving sound))
            (j.serving sound).none;
      }

      on : d.refused ≡ false → (link : Option Link) → d.link ≡ link → HasRows link d.serving.rows → Next (served_on link p d)
      on sound None is empty = record {
        link = j.link;
        serving = λ e. no_rows o text p turn d.serving d.serving empty (j.serving sound).rises
            (over_still o text p turn d.serving.ended (j.serving sound).over) (j.serving sound).none;
      }
      on sound (Some link) is some = record {
        link = subst (λ (x : Option Link). HasRows x (served p.command link p d.serving).rows) (sym is) tt;
        serving = λ e. came_served o text p turn link d.serving (j.serving sound) p.command refl;
      }

      by : d.refused ≡ false → (b : Bool) → Next (if b then linked_to (link_of setting.most setting.credit p) d else served_on d.link p d)
      by sound true = linked sound (link_of setting.most setting.credit p)
      by sound false = on sound d.link refl j.link

      go : (b : Bool) → d.refused ≡ b → Next (if b then d else treated setting p d)
      go true e = record { link = j.link; serving = λ sound. absurd (let clash : true ≡ false = sym e ∙ sound in cc) }
      go false e = by e (is_cnxn p.command)

  -- all packets
  all_came : (setting : Setting) (o : ℕ) (text : List ℕ) (packets : List Packet) → AreInTurn l n o packets → (d : Device) → IsSoFar o text d
      → (opens : ℕ) × IsSoFar opens (text ++ carried_in l packets) (fold (step setting) d packets)
  all_came setting o text [] turns d j = (o, subst (λ (x : List ℕ). IsSoFar o x d) (sym (append-nil text)) j)
  all_came setting o text (p ∷ packets) turns d j =
      let later = all_came setting (o + opens_in l p) (text ++ carries l p) packets turns.1 (step setting d p)
      (step_came setting o text p turns.0 d j) in (
        later.0,
        subst (λ (x : List ℕ). IsSoFar later.0 x (fold (step setting) (step setting d p) packets))
            (append_assoc text (carries l p) (carried_in l packets)
            ∙ ap (λ (x : List ℕ). text ++ x) (sym (carried_first l p packets))) later.1,
      )

-- so all that a stream was sent came to its row, and a front of it to one that has ended
pub took_carried : (setting : Setting) (l n : ℕ) (packets : List Packet) → AreInTurn l n 0 packets
    → (device_behind setting packets).refused ≡ false
    → TookCarried l n packets (device_behind setting packets).serving
unfolding IsStrictlySortedBy
took_carried setting l n packets turns sound =
    let all = all_came l n setting 0 [] packets turns (first_device setting)
    (record {
      link = refl;
      serving = λ e. record {
        rises = tt;
        none = λ f. refl;
        live = λ row is host. absurd (let clash : None ≡ Some row = is in cc);
        over = λ ended is host. absurd (let clash : None ≡ Some ended = is in cc);
      };
    }) in
    let came = all.1.serving sound in
    record { live = λ row is host. (came.live row is host).1; over = came.over }

-- and so it is in a joined history
pub takes_carried : (setting : Setting) → setting.most < 2 ^ 32 → (h : History) → IsLegal h → IsJoined setting h → TakesCarried setting h
takes_carried setting word h legal joined l b is =
    took_carried setting l (remote_of l b h) (sent 1 h)
    (sent_in_turn (packets_owed setting) (model_is_plain setting) h legal (paired setting word h legal joined) l b is)
    (never_refused setting 1 h legal)
