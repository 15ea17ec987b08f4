-- A stream that its model device closed: its client was told the whole answer of its service.
use Rattle.std.specs.Prelude.{ℕ, ◌+◌, ◌^◌, ◌≡◌, ◌≢◌, ◌<◌, ◌==◌, ◌&&◌, ◌||◌, Bool, true, false, cond, nat_eq, All, List, [], ◌∷◌, ◌++◌, take}
use Rattle.std.specs.Prelude.{Option, Some, None}
use Rattle.std.proofs.Common.{zero, suc, refl, sym, ◌∙◌, ap, subst, arith, append_assoc, ◌⊎◌, inl, inr}
use Rattle.std.specs.List.{list_any}
use Rattle.std.proofs.lemmas.Bool.{eq-eqb, eqb-true}
use Rattle.std.proofs.lemmas.List.{append-nil}
use Rattle.std.proofs.lemmas.List.Elements.{All-nil, All-cons}
use Rattle.adb_outside.specs.Tables.{at}
use Rattle.adb_wire.specs.declared.command.Command.{Command}
use Rattle.adb_wire.specs.declared.command.Command.TheVariants as commands
use Rattle.adb_wire.specs.declared.packets.Packet.{Packet}
use Rattle.adb_history.specs.Births.{Birth, Opening, born, since, opening_of, remote_in, is_between, is_close_of, before_close, is_clse}
use Rattle.adb_history.specs.Births.{is_wrte, told_in}
use Rattle.adb_history.specs.Births.{told_before, told_before_close, joined}
use Rattle.adb_history.specs.Bytes.{brought, sent}
use Rattle.adb_history.specs.declared.ending.Ending.TheVariants.{PeerClosed}
use Rattle.adb_history.specs.Lives.{ending_of}
use Rattle.adb_history.specs.Machine.{History, IsLegal}
use Rattle.adb_laws_births.proofs.Crossing.{no_crossing}
use Rattle.adb_laws_fifo_down.specs.Follows.{Follows, is_shut}
use Rattle.adb_laws_fifo_down.specs.Followed.{LifeOf}
use Rattle.adb_laws_fifo_down.specs.Life.{LivesAs, LivesIn, WasOpen}
use Rattle.adb_laws_fifo_down.specs.Life.{heard as heard_of}
use Rattle.adb_laws_fifo_down.specs.Line.{SeenStream, View}
use Rattle.adb_laws_fifo_down.proofs.Handed.{has_lives, hands_whole_told}
use Rattle.adb_device_streams.specs.Service.{service_answer}
use Rattle.adb_device_streams.specs.Stream.{Row}
use Rattle.adb_daemon.specs.Device.{Setting, device_behind}
use Rattle.adb_daemon.specs.Serving.{Sent, Ended}
use Rattle.adb_daemon.specs.Streams.{over_at, closes, is_closed, is_of, is_close, written, EndsAtClose, IsOver, Writes}
use Rattle.adb_daemon.proofs.Lasts.{closes_last}
use Rattle.adb_daemon.proofs.Rules.{streams_write}
use Rattle.adb_laws_model_device.specs.Counts.{how_many}
use Rattle.adb_laws_model_device.specs.Paired.{IsStill}
use Rattle.adb_laws_model_device.specs.Joined.{IsJoined}
use Rattle.adb_laws_model_device.specs.Opened.{LivesFor, EndedFor}
use Rattle.adb_laws_model_device.specs.Owed.{packets_of_sent, packets_owed}
use Rattle.adb_laws_model_device.specs.Rows.{is_close_between}
use Rattle.adb_laws_model_device.proofs.Sound.{never_refused}
use Rattle.adb_laws_worlds.specs.Ended.{HasEndedWhole, ClosedGaveAll}
use Rattle.adb_laws_worlds.proofs.Asked.{opened_so}
use Rattle.adb_laws_worlds.proofs.Named.{IsAskedFor, all_go, okay_to, drawn_if_acked}
use Rattle.adb_laws_worlds.proofs.Refusals.{opened_unrefused}
use Rattle.adb_laws_worlds.proofs.Rows.{split, parts, okay_owed, some_id, for_it}
use Rattle.adb_laws_worlds.proofs.Splits.{IsOpening, at_split}
use Rattle.adb_laws_worlds.proofs.Starts.{bytes_told}
use Rattle.adb_laws_worlds.proofs.Told.{told_whole, all_go_to, service_asked}
use Rattle.adb_laws_worlds.proofs.Took.{all_took_written}

-- ---- the packet that closes a stream
record IsCut (r l : ℕ) (ps : List Packet) : Type 0 where
  front : List Packet
  close : Packet
  rest : List Packet
  is : ps ≡ front ++ close ∷ rest
  closing : is_close_of r l close ≡ true
  before : before_close r l ps ≡ front

-- a packet that closes nothing
abbrev probe : Packet
probe = record { command = commands.Okay; arg0 = 0; arg1 = 0; payload = [] }

close_cut : (r l : ℕ) (ps : List Packet) → ((more : List Packet) → before_close r l (ps ++ more) ≡ before_close r l ps) → IsCut r l ps
close_cut r l [] closed = absurd (let clash : probe ∷ [] ≡ [] = closed (probe ∷ []) in cc)
close_cut r l (p ∷ ps) closed = go (is_close_of r l p) refl closed (close_cut r l ps)
  where
    go : (b : Bool) → is_close_of r l p ≡ b
        → ((more : List Packet) → cond b [] (p ∷ before_close r l (ps ++ more)) ≡ cond b [] (p ∷ before_close r l ps))
        → (((more : List Packet) → before_close r l (ps ++ more) ≡ before_close r l ps) → IsCut r l ps) → IsCut r l (p ∷ ps)
    go true e f later = record {
      front = [];
      close = p;
      rest = ps;
      is = refl;
      closing = e;
      before = ap (λ (b : Bool). cond b [] (p ∷ before_close r l ps)) e;
    }
    go false e f later =
        let x = later (λ more. (let both : p ∷ before_close r l (ps ++ more) ≡ p ∷ before_close r l ps = f more in cc)) in
        record {
          front = p ∷ x.front;
          close = x.close;
          rest = x.rest;
          is = ap (λ (qs : List Packet). p ∷ qs) x.is;
          closing = x.closing;
          before = ap (λ (b : Bool). cond b [] (p ∷ before_close r l ps)) e ∙ ap (λ (qs : List Packet). p ∷ qs) x.before;
        }

-- it is a CLSE of both ids, or one from 0
record ClosesOf (r l : ℕ) (c : Packet) : Type 0 where
  command : c.command ≡ commands.Clse
  from : ((c.arg0 ≡ 0) ⊎ (c.arg0 ≡ r)) × (c.arg1 ≡ l)

closes_of : (r l : ℕ) (c : Packet) → is_close_of r l c ≡ true → ClosesOf r l c
closes_of r l c e = by c.command refl (nat_eq c.arg0 0) refl (nat_eq c.arg0 r) refl (nat_eq c.arg1 l) refl e
  where
    no : false ≡ true → ⊥
    no f = let clash = f in cc

    by : (k : Command) → c.command ≡ k → (z : Bool) → nat_eq c.arg0 0 ≡ z → (n : Bool) → nat_eq c.arg0 r ≡ n
        → (t : Bool) → nat_eq c.arg1 l ≡ t
        → (is_clse k && ((z && t) || (n && t))) ≡ true → ClosesOf r l c
    by commands.Clse k true z n m true t e = record { command = k; from = (inl (eqb-true c.arg0 0 z), eqb-true c.arg1 l t) }
    by commands.Clse k false z true m true t e = record { command = k; from = (inr (eqb-true c.arg0 r m), eqb-true c.arg1 l t) }
    by commands.Clse k false z false m true t e = absurd (no e)
    by commands.Clse k true z true m false t e = absurd (no e)
    by commands.Clse k true z false m false t e = absurd (no e)
    by commands.Clse k false z true m false t e = absurd (no e)
    by commands.Clse k false z false m false t e = absurd (no e)
    by _ k z f n m t g e = absurd (no e)

-- ---- what the device made of it
-- where it is among what the device sent, the device closed the stream
was_closed : (n : ℕ) (made : List Sent) (front : List Packet) (c : Packet) (rest : List Packet) → packets_of_sent made ≡ front ++ c ∷ rest
    → c.command ≡ commands.Clse → c.arg0 ≡ n → is_closed n made ≡ true
was_closed n [] [] c rest is command from = let clash : [] ≡ c ∷ rest = is in cc
was_closed n [] (q ∷ front) c rest is command from = let clash : [] ≡ q ∷ (front ++ c ∷ rest) = is in cc
was_closed n (one ∷ made) [] c rest is command from =
    let whole : one.packet ∷ packets_of_sent made ≡ c ∷ rest = is in
    let head : one.packet ≡ c = cc in
    let closing : closes n one ≡ true =
    ap (λ (k : Command). is_close k && one.packet.arg0 == n) (ap (λ (x : Packet). x.command) head ∙ command)
    ∙ eq-eqb one.packet.arg0 n (ap (λ (x : Packet). x.arg0) head ∙ from) in
    ap (λ (b : Bool). b || is_closed n made) closing
was_closed n (one ∷ made) (q ∷ front) c rest is command from = go (closes n one) (was_closed n made front c rest tail command from)
  where
    tail : packets_of_sent made ≡ front ++ c ∷ rest
    tail = (let whole : one.packet ∷ packets_of_sent made ≡ q ∷ (front ++ c ∷ rest) = is in cc)

    go : (b : Bool) → is_closed n made ≡ true → (b || is_closed n made) ≡ true
    go true e = refl
    go false e = e

-- what is not of a stream tells nothing of it
none_told_of : (n l : ℕ) (made : List Sent) → list_any (is_of n) made ≡ false → told_in n l (packets_of_sent made) ≡ []
none_told_of n l [] none = refl
none_told_of n l (one ∷ made) none = go (is_of n one) refl none (none_told_of n l made)
  where
    apart : (b : Bool) → nat_eq one.packet.arg0 n ≡ b → (one.packet.arg0 == n) ≡ false → told_in n l (packets_of_sent made) ≡ []
        → cond (is_wrte one.packet.command && (b && nat_eq one.packet.arg1 l)) (one.packet.payload ∷ told_in n l (packets_of_sent made))
        (told_in n l (packets_of_sent made)) ≡ []
    apart true e f later = absurd (let clash : true ≡ false = sym (eq-eqb one.packet.arg0 n (eqb-true one.packet.arg0 n e)) ∙ f in cc)
    apart false e f later = both (is_wrte one.packet.command)
      where
        both : (a : Bool) → cond (a && false) (one.packet.payload ∷ told_in n l (packets_of_sent made))
            (told_in n l (packets_of_sent made)) ≡ []
        both true = later
        both false = later

    go : (b : Bool) → is_of n one ≡ b → (b || list_any (is_of n) made) ≡ false
        → (list_any (is_of n) made ≡ false → told_in n l (packets_of_sent made) ≡ [])
        → told_in n l (one.packet ∷ packets_of_sent made) ≡ []
    go true e f later = absurd (let clash : true ≡ false = f in cc)
    go false e f later = apart (nat_eq one.packet.arg0 n) refl e (later f)

-- behind its close nothing is told
none_after : (n l : ℕ) (made : List Sent) (front : List Packet) (c : Packet) (rest : List Packet) → EndsAtClose n made
    → packets_of_sent made ≡ front ++ c ∷ rest → c.command ≡ commands.Clse → c.arg0 ≡ n → told_in n l rest ≡ []
none_after n l [] [] c rest ends is command from = let clash : [] ≡ c ∷ rest = is in cc
none_after n l [] (q ∷ front) c rest ends is command from = let clash : [] ≡ q ∷ (front ++ c ∷ rest) = is in cc
none_after n l (one ∷ made) [] c rest ends is command from =
    let whole : one.packet ∷ packets_of_sent made ≡ c ∷ rest = is in
    let head : one.packet ≡ c = cc in
    let tail : packets_of_sent made ≡ rest = cc in
    let closing : closes n one ≡ true =
    ap (λ (k : Command). is_close k && one.packet.arg0 == n) (ap (λ (x : Packet). x.command) head ∙ command)
    ∙ eq-eqb one.packet.arg0 n (ap (λ (x : Packet). x.arg0) head ∙ from) in
    sym (ap (λ (ps : List Packet). told_in n l ps) tail) ∙ none_told_of n l made (ends.0 closing)
none_after n l (one ∷ made) (q ∷ front) c rest ends is command from =
    let whole : one.packet ∷ packets_of_sent made ≡ q ∷ (front ++ c ∷ rest) = is in
    let tail : packets_of_sent made ≡ front ++ c ∷ rest = cc in
    none_after n l made front c rest ends.1 tail command from

-- what is told in two lists
told_both : (n l : ℕ) (xs ys : List Packet) → told_in n l (xs ++ ys) ≡ told_in n l xs ++ told_in n l ys
told_both n l [] ys = refl
told_both n l (p ∷ xs) ys = go (is_wrte p.command && is_between n l p) (told_both n l xs ys)
  where
    go : (b : Bool) → told_in n l (xs ++ ys) ≡ told_in n l xs ++ told_in n l ys
        → cond b (p.payload ∷ told_in n l (xs ++ ys)) (told_in n l (xs ++ ys))
        ≡ cond b (p.payload ∷ told_in n l xs) (told_in n l xs) ++ told_in n l ys
    go true e = ap (λ (payloads : List (List ℕ)). p.payload ∷ payloads) e
    go false e = e

-- where none is such, each is another
none_are : (is_such : Packet → Bool) (ps : List Packet) → how_many is_such ps ≡ 0 → All (λ p. is_such p ≡ false) ps
none_are is_such [] none = All-nil (λ p. is_such p ≡ false)
none_are is_such (p ∷ ps) none = go (is_such p) refl none (none_are is_such ps)
  where
    go : (b : Bool) → is_such p ≡ b → cond b (1 + how_many is_such ps) (how_many is_such ps) ≡ 0
        → (how_many is_such ps ≡ 0 → All (λ p. is_such p ≡ false) ps) → All (λ p. is_such p ≡ false) (p ∷ ps)
    go true e f later = absurd (omega (arith, f))
    go false e f later = All-cons (λ p. is_such p ≡ false) p ps e (later f)

module _ (setting : Setting) (short : setting.most < 2 ^ 32) (h : History) (legal : IsLegal h) (tied : IsJoined setting h)
    (still : IsStill (packets_owed setting) h) (l : ℕ) (b : Birth) (o : Opening) (birth : born l h ≡ Some b) (own : b.link ≡ 1)
    (opened : opening_of l b h ≡ Some o) (ended : ending_of l h ≡ Some PeerClosed) where
  -- ---- it was open, and its device closed it
  f : Follows LifeOf h l b
  f = has_lives h legal l b birth

  ending : f.holds.seen.ending ≡ Some PeerClosed
  ending = ap (λ (v : View). v.ending) (sym f.holds.shows.1) ∙ ended

  was_open : WasOpen l f.cradle (since b h) f.holds.seen.output f.holds.seen.ending
  was_open = go f.holds.seen.stream f.holds.keeps.lives
    where
      lives : (orphan : Bool) (remote : ℕ) → LivesAs orphan remote l f.cradle (since b h) (heard_of f.holds.seen) → ⊥
      lives true remote x = x.unheard.not_by_peer ending
      lives false zero x = let clash : None ≡ Some PeerClosed = sym x.ending ∙ ending in cc
      lives false (suc r) x = let clash : None ≡ Some PeerClosed = sym x.ending ∙ ending in cc

      go : (s : Option SeenStream) → LivesIn s l f.cradle (since b h) (is_shut b.link h) (heard_of f.holds.seen)
          → WasOpen l f.cradle (since b h) f.holds.seen.output f.holds.seen.ending
      go (Some x) y = absurd (lives x.orphan x.remote y)
      go None (done, inl never) = absurd (let clash : None ≡ Some o = sym never.0.unopened ∙ opened in cc)
      go None (done, inr (inl unheard)) = absurd (unheard.not_by_peer ending)
      go None (done, inr (inr w)) = w

  same : was_open.opening ≡ o
  same = (let both : Some was_open.opening ≡ Some o = sym was_open.opened ∙ opened in cc)

  cut : IsCut o.remote l o.later
  cut =
      close_cut o.remote l o.later
      (subst (λ (x : Opening). (more : List Packet) → before_close x.remote l (x.later ++ more) ≡ before_close x.remote l x.later) same
      (was_open.closed ending).closed)

  -- ---- among what the device sent
  some : 0 < o.remote
  some = some_id setting h legal still l b own o opened

  some_not : o.remote ≢ 0
  some_not = (split setting h legal still l b own o opened).some

  abbrev asked : IsAskedFor setting o.remote l (sent 1 h)
  asked = for_it setting h legal still l b own o opened

  opening : IsOpening l (since b h) o
  opening = split setting h legal still l b own o opened

  abbrev front : List Packet
  front = (take b.packets_before (brought b.link h) ++ (split setting h legal still l b own o opened).front)
      ++ (split setting h legal still l b own o opened).okay ∷ cut.front

  whole : packets_owed setting (sent 1 h) ≡ front ++ cut.close ∷ cut.rest
  whole =
      parts setting h legal still l b own o opened
      ∙ (ap (λ (ps : List Packet). (take b.packets_before (brought b.link h) ++ (split setting h legal still l b own o opened).front)
      ++ (split setting h legal still l b own o opened).okay ∷ ps) cut.is
      ∙ sym (append_assoc (take b.packets_before (brought b.link h) ++ (split setting h legal still l b own o opened).front)
      ((split setting h legal still l b own o opened).okay ∷ cut.front) (cut.close ∷ cut.rest)))

  unrefused : how_many (is_close_between 0 l) (packets_owed setting (sent 1 h)) ≡ 0
  unrefused =
      opened_unrefused setting o.remote l (sent 1 h) some_not
      (drawn_if_acked o.remote some setting (sent 1 h) l (okay_owed setting h legal still l b own o opened))
      (λ x. sym (okay_to o.remote x.asking.arg0 l (packets_owed setting (sent 1 h))
      (all_go o.remote x.asking.arg0 (device_behind setting (sent 1 h)).serving.made
      (opened_so setting o.remote (sent 1 h) (never_refused setting 1 h legal) x).named)
      (okay_owed setting h legal still l b own o opened)))
      ((no_crossing h legal).once 1 l)

  closes_it : ClosesOf o.remote l cut.close
  closes_it = closes_of o.remote l cut.close cut.closing

  from_its : cut.close.arg0 ≡ o.remote
  from_its = go closes_it.from.0
    where
      go : (cut.close.arg0 ≡ 0) ⊎ (cut.close.arg0 ≡ o.remote) → cut.close.arg0 ≡ o.remote
      go (inr e) = e
      go (inl zeroth) =
          let none = at_split (λ p. is_close_between 0 l p ≡ false) front cut.close cut.rest
          (subst (λ (ps : List Packet). All (λ p. is_close_between 0 l p ≡ false) ps) whole
          (none_are (is_close_between 0 l) (packets_owed setting (sent 1 h)) unrefused)) in
          let is : is_close_between 0 l cut.close ≡ true =
          ap (λ (k : Command). is_clse k && is_between 0 l cut.close) closes_it.command
          ∙ (ap (λ (t : Bool). t && nat_eq cut.close.arg1 l) (eq-eqb cut.close.arg0 0 zeroth) ∙ eq-eqb cut.close.arg1 l closes_it.from.1) in
          absurd (let clash : true ≡ false = sym is ∙ none in cc)

  closed_there : is_closed o.remote (device_behind setting (sent 1 h)).serving.made ≡ true
  closed_there = was_closed o.remote (device_behind setting (sent 1 h)).serving.made front cut.close cut.rest whole
      closes_it.command from_its

  -- what was told before the close is all that was told
  told_all : told_in o.remote l cut.front ≡ told_in o.remote l o.later
  told_all =
      let after : told_in o.remote l cut.rest ≡ [] =
      none_after o.remote l (device_behind setting (sent 1 h)).serving.made front cut.close cut.rest
      (closes_last setting (sent 1 h) o.remote some) whole
      closes_it.command from_its in
      let close_is : told_in o.remote l (cut.close ∷ cut.rest) ≡ [] =
      ap (λ (k : Command). cond (is_wrte k && is_between o.remote l cut.close) (cut.close.payload ∷ told_in o.remote l cut.rest)
      (told_in o.remote l cut.rest)) closes_it.command ∙ after in
      sym (append-nil (told_in o.remote l cut.front))
      ∙ (ap (λ (ps : List (List ℕ)). told_in o.remote l cut.front ++ ps) (sym close_is)
      ∙ (sym (told_both o.remote l cut.front (cut.close ∷ cut.rest)) ∙ ap (λ (ps : List Packet). told_in o.remote l ps) (sym cut.is)))

  told_before_is : joined (told_before_close l b h) ≡ joined (told_in o.remote l o.later)
  told_before_is =
      ap (λ (x : Option Opening). joined (told_before l x)) opened
      ∙ (ap (λ (ps : List Packet). joined (told_in o.remote l ps)) cut.before ∙ ap joined told_all)

  -- ---- its row has ended
  record HasEnded : Type 0 where
    over : Ended
    is : over_at o.remote (device_behind setting (sent 1 h)).serving.ended ≡ Some over
    gone : at o.remote (device_behind setting (sent 1 h)).serving.rows ≡ None
    closed : over.closed ≡ true
    tells : IsOver over (device_behind setting (sent 1 h)).serving.made
    own_is : over.own ≡ o.remote

  has_ended : HasEnded
  has_ended =
      go (at o.remote (device_behind setting (sent 1 h)).serving.rows) refl
      (over_at o.remote (device_behind setting (sent 1 h)).serving.ended) refl
      (streams_write o.remote some setting (sent 1 h))
    where
      go : (x : Option Row) → at o.remote (device_behind setting (sent 1 h)).serving.rows ≡ x
          → (e : Option Ended) → over_at o.remote (device_behind setting (sent 1 h)).serving.ended ≡ e
          → Writes o.remote (device_behind setting (sent 1 h)).serving.made (device_behind setting (sent 1 h)).serving.acks x e → HasEnded
      go (Some row) is e over writes = absurd (let clash : true ≡ false = sym closed_there ∙ writes.1 in cc)
      go None is None over writes = absurd (let clash : true ≡ false = sym closed_there ∙ writes.1 in cc)
      go None is (Some e) over writes = record {
        over = e;
        is = over;
        gone = is;
        closed = sym writes.1.closed
            ∙ (ap (λ (n : ℕ). is_closed n (device_behind setting (sent 1 h)).serving.made) writes.0 ∙ closed_there);
        tells = writes.1;
        own_is = writes.0;
      }

  same_row : (has_ended.over.row.host ≡ l) × (has_ended.over.row.kind ≡ asked.asked.by.kind)
  same_row = go asked.asked.opened.stands
    where
      go : LivesFor o.remote asked.asked.by.asking.arg0 asked.asked.by.kind (device_behind setting asked.asked.by.front).serving.files
          (device_behind setting (sent 1 h)).serving.rows
          ⊎ EndedFor o.remote asked.asked.by.asking.arg0 asked.asked.by.kind (device_behind setting asked.asked.by.front).serving.files
          (device_behind setting (sent 1 h)).serving.rows (device_behind setting (sent 1 h)).serving.ended
          → (has_ended.over.row.host ≡ l) × (has_ended.over.row.kind ≡ asked.asked.by.kind)
      go (inl lives) = absurd (let clash : None ≡ Some lives.row = sym has_ended.gone ∙ lives.is in cc)
      go (inr x) =
          let both : Some x.over ≡ Some has_ended.over = sym x.is ∙ has_ended.is in
          let one : x.over ≡ has_ended.over = cc in (
            ap (λ (e : Ended). e.row.host) (sym one) ∙ (x.opened.0 ∙ asked.host),
            ap (λ (e : Ended). e.row.kind) (sym one) ∙ x.opened.1,
          )

  answer_is : joined (told_in o.remote l o.later)
      ≡ (service_answer has_ended.over.row.kind has_ended.over.row.first has_ended.over.row.past).bytes
  answer_is =
      let all = has_ended.tells.whole has_ended.closed in
      sym (ap joined (told_whole setting short h legal tied still l b birth own o opened))
      ∙ (sym (bytes_told o.remote l (device_behind setting (sent 1 h)).serving.made
      (all_go_to setting short h legal tied still l b birth own o opened))
      ∙ (sym (ap (λ (n : ℕ). written n (device_behind setting (sent 1 h)).serving.made) has_ended.own_is)
      ∙ (has_ended.tells.writes.written
      ∙ (sym (append-nil has_ended.over.row.sent)
      ∙ (ap (λ (bytes : List ℕ). has_ended.over.row.sent ++ bytes) (sym all.all) ∙ has_ended.tells.writes.front)))))

  pub ended_whole : HasEndedWhole setting h l b o
  ended_whole = record {
    over = has_ended.over;
    is = has_ended.is;
    host = same_row.0;
    kind = service_asked setting short h legal tied still l b birth own o opened ∙ ap Some (sym same_row.1);
    ended = (has_ended.tells.whole has_ended.closed).ended;
    came = (all_took_written setting short h legal tied l b birth own).over has_ended.over
        (ap (λ (n : ℕ). over_at n (device_behind setting (sent 1 h)).serving.ended) (ap remote_in opened) ∙ has_ended.is) same_row.0;
    told = told_before_is ∙ answer_is;
    got = λ put. hands_whole_told h legal l b birth ended put ∙ (told_before_is ∙ answer_is);
  }

pub closed_gave_all : (setting : Setting) → setting.most < 2 ^ 32 → (h : History) → IsLegal h → IsJoined setting h → ClosedGaveAll setting h
closed_gave_all setting short h legal tied still l b o birth own opened ended =
    ended_whole setting short h legal tied still l b o birth own opened ended
