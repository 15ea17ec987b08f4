-- Where nothing is on its way, each open stream of a server has its row at the model device.
use Rattle.std.specs.Prelude.{ℕ, ◌+◌, ◌≡◌, ◌≢◌, ◌<◌, ◌≤◌, ◌&&◌, Bool, true, false, cond, nat_eq, All, List, [], ◌∷◌, ◌++◌, take, Contains}
use Rattle.std.specs.Prelude.{Option, Some, None}
use Rattle.std.proofs.Common.{zero, suc, refl, sym, ◌∙◌, ap, subst, arith, ◌⊎◌, inl, inr, append_assoc}
use Rattle.std.proofs.lemmas.Bool.{cases_lt, eqb-true}
use Rattle.std.proofs.lemmas.List.{take-append-drop}
use Rattle.std.proofs.lemmas.List.Elements.{All-nil, All-cons, All-head, All-tail, All-contains}
use Rattle.adb_outside.specs.Tables.{at}
use Rattle.adb_wire.specs.declared.command.Command.{Command}
use Rattle.adb_wire.specs.declared.command.Command.TheVariants as commands
use Rattle.adb_wire.specs.declared.packets.Packet.{Packet}
use Rattle.adb_stream.specs.declared.row.Stream.{Stream}
use Rattle.adb_history.specs.Lives.{packets_of}
use Rattle.adb_history.specs.Machine.{History, state, IsLegal}
use Rattle.adb_history.specs.Book.{plugged_count}
use Rattle.adb_history.specs.Bytes.{brought, sent}
use Rattle.adb_history.specs.Births.{Birth, Opening, born, since, opening_of, remote_in, remote_of, is_clse, is_open, is_between}
use Rattle.adb_history.specs.Fifo.{okays_in, IsOf, IsOwn, IsRefusal}
use Rattle.adb_laws_births.proofs.Crossing.{no_crossing}
use Rattle.adb_laws_births.proofs.Laws.{sends_first}
use Rattle.adb_device_streams.specs.Stream.{Row}
use Rattle.adb_daemon.specs.Serving.{Sent}
use Rattle.adb_daemon.specs.Device.{Setting, device_behind}
use Rattle.adb_daemon.proofs.Lasts.{closes_last}
use Rattle.adb_laws_model_device.specs.Counts.{how_many}
use Rattle.adb_laws_model_device.specs.Paired.{IsStill}
use Rattle.adb_laws_model_device.proofs.Counts.{many_append, many_front, count_front}
use Rattle.adb_laws_model_device.specs.Owed.{packets_of_sent, packets_owed}
use Rattle.adb_laws_model_device.specs.Rows.{is_close_between, is_close_to, is_cnxn_packet}
use Rattle.adb_laws_model_device.proofs.Lives.{lives_or_closed}
use Rattle.adb_laws_model_device.proofs.Sound.{never_refused}
use Rattle.adb_laws_worlds.specs.Rows.{HasRow, OpenHaveRows}
use Rattle.adb_laws_worlds.specs.Unclosed.{IsUnclosed}
use Rattle.adb_laws_worlds.proofs.Greeted.{greets_links}
use Rattle.adb_laws_worlds.proofs.Named.{all_go, okay_to, IsAskedFor, asked_for}
use Rattle.adb_laws_worlds.proofs.Sends.{all_sent}
use Rattle.adb_laws_worlds.proofs.Splits.{IsOpening, opening_split, okay_counts, unclosed_none, none_before, none_from, none_many}
use Rattle.adb_laws_worlds.proofs.Unclosed.{sent_no_close, heard_no_close}

-- ---- the server says once who it is
once_greeted : (h : History) → IsLegal h → how_many is_cnxn_packet (sent 1 h) ≤ 1
once_greeted h legal = go (cases_lt (plugged_count h) 1)
  where
    fewer : how_many is_cnxn_packet (sent 1 h) ≤ how_many is_cnxn_packet (packets_of 1 h)
    fewer = many_front is_cnxn_packet (sent 1 h) (packets_of 1 h) (sends_first h legal 1).first

    go : (plugged_count h < 1) ⊎ (1 ≤ plugged_count h) → how_many is_cnxn_packet (sent 1 h) ≤ 1
    go (inl above) =
        let none : how_many is_cnxn_packet (packets_of 1 h) ≡ 0 = ap (how_many is_cnxn_packet) ((greets_links h legal 1).absent above) in
        let few = fewer in
        omega (arith, none, few)
    go (inr le) =
        let b = (greets_links h legal 1).plugged (omega arith) le in
        let one : how_many is_cnxn_packet (packets_of 1 h) ≡ 1 + how_many is_cnxn_packet b.rest = ap (how_many is_cnxn_packet) b.is in
        let once = b.once in
        let few = fewer in
        omega (arith, one, once, few)

-- ---- a device asks for no stream
-- no OPEN
abbrev IsNoOpen : Packet → Type 0
IsNoOpen p = is_open p.command ≡ false

no_opens : (setting : Setting) (packets : List Packet) → All IsNoOpen (packets_owed setting packets)
no_opens setting packets =
    go (device_behind setting packets).serving.made
    (all_sent (λ (one : Sent). is_open one.packet.command ≡ false) (λ sums own host word. refl)
    (λ sums own host payload. refl) (λ sums own host. refl)
    setting refl packets)
  where
    go : (made : List Sent) → All (λ (one : Sent). is_open one.packet.command ≡ false) made → All IsNoOpen (packets_of_sent made)
    go [] all = All-nil IsNoOpen
    go (one ∷ made) all =
        All-cons IsNoOpen one.packet (packets_of_sent made) (All-head (λ (one : Sent). is_open one.packet.command ≡ false) one made all)
        (go made (All-tail (λ (one : Sent). is_open one.packet.command ≡ false) one made all))

module _ (setting : Setting) (h : History) (legal : IsLegal h) (still : IsStill (packets_owed setting) h) where
  sound : (device_behind setting (sent 1 h)).refused ≡ false
  sound = never_refused setting 1 h legal

  -- a stream of the first link, by its opening
  module _ (l : ℕ) (b : Birth) (own : b.link ≡ 1) (o : Opening) (opened : opening_of l b h ≡ Some o) where
    pub split : IsOpening l (since b h) o
    split = opening_split l (since b h) o opened

    -- what the device owes is what it sent before the opening, its OKAY, and what it sent behind that
    pub parts : packets_owed setting (sent 1 h) ≡ (take b.packets_before (brought b.link h) ++ split.front) ++ split.okay ∷ o.later
    parts =
        sym still.brought_all
        ∙ (ap (λ (t : ℕ). brought t h) (sym own)
        ∙ (sym (take-append-drop b.packets_before (brought b.link h))
        ∙ (ap (λ (ps : List Packet). take b.packets_before (brought b.link h) ++ ps) split.is
        ∙ sym (append_assoc (take b.packets_before (brought b.link h)) split.front (split.okay ∷ o.later)))))

    -- so that OKAY is owed
    pub okay_owed : 1 ≤ okays_in o.remote l (packets_owed setting (sent 1 h))
    okay_owed =
        subst (λ (ps : List Packet). 1 ≤ okays_in o.remote l ps) (sym parts)
        (okay_counts o.remote l (take b.packets_before (brought b.link h) ++ split.front) split.okay o.later
        split.command split.from split.to)

    pub some_id : 0 < o.remote
    some_id = go o.remote split.some
      where
        go : (n : ℕ) → n ≢ 0 → 0 < n
        go zero none = absurd (none refl)
        go (suc n) none = omega arith

    -- and its id was drawn for the stream
    pub for_it : IsAskedFor setting o.remote l (sent 1 h)
    for_it = asked_for setting o.remote l (sent 1 h) some_id sound okay_owed

    -- no CLSE of both ids is owed, where none came behind the opening
    none_owed : how_many (is_close_between o.remote l) o.later ≡ 0
        → how_many (is_close_between o.remote l) (packets_owed setting (sent 1 h)) ≡ 0
    none_owed later =
        let first = none_before o.remote l (device_behind setting (sent 1 h)).serving.made
        (take b.packets_before (brought b.link h) ++ split.front) split.okay
        o.later (closes_last setting (sent 1 h) o.remote some_id) parts split.from in
        let sum = many_append (is_close_between o.remote l) (take b.packets_before (brought b.link h) ++ split.front)
        (split.okay ∷ o.later) in
        let okay : how_many (is_close_between o.remote l) (split.okay ∷ o.later) ≡ how_many (is_close_between o.remote l) o.later =
        ap (λ (c : Command). cond (is_clse c && is_between o.remote l split.okay) (1 + how_many (is_close_between o.remote l) o.later)
        (how_many (is_close_between o.remote l) o.later)) split.command in
        let all = ap (how_many (is_close_between o.remote l)) parts in
        omega (arith, first, sum, okay, all, later)

  -- a stream that lives, to whose id no CLSE was sent
  module _ (l : ℕ) (b : Birth) (own : b.link ≡ 1) (o : Opening) (opened : opening_of l b h ≡ Some o)
      (unsent : All (λ p. is_clse p.command ≡ true → p.arg0 ≢ l) (sent 1 h)) where
    -- another stream of the same id is this one
    same_stream : (p : Packet) → IsOf h 1 p → p.arg1 ≡ o.remote → p.arg0 ≡ l
    same_stream p of to = go (opening_of p.arg0 of.birth h) refl
      where
        mine : IsAskedFor setting o.remote l (sent 1 h)
        mine = for_it l b own o opened

        go : (x : Option Opening) → opening_of p.arg0 of.birth h ≡ x → p.arg0 ≡ l
        go None is = absurd (of.told (ap remote_in is))
        go (Some x) is =
            let same : x.remote ≡ o.remote = sym (ap remote_in is) ∙ (sym of.remote ∙ to) in
            let okay = subst (λ (n : ℕ). 1 ≤ okays_in n p.arg0 (packets_owed setting (sent 1 h))) same
            (okay_owed p.arg0 of.birth of.link x is) in
            okay_to o.remote mine.asked.by.asking.arg0 p.arg0 (packets_owed setting (sent 1 h))
            (all_go o.remote mine.asked.by.asking.arg0 (device_behind setting (sent 1 h)).serving.made mine.asked.opened.named) okay
            ∙ mine.host

    -- so no CLSE to it is one of those
    not_to : (p : Packet) → IsOwn h 1 p.command p → (is_clse p.command ≡ true → p.arg0 ≢ l) → is_close_to o.remote p ≡ false
    not_to p owned apart = by p.command refl (nat_eq p.arg1 o.remote) refl owned
      where
        closing : p.command ≡ commands.Clse → p.arg1 ≡ o.remote → IsOf h 1 p ⊎ IsRefusal h 1 p → ⊥
        closing c to (inl of) = apart (ap is_clse c) (same_stream p of to)
        closing c to (inr x) =
            let came : Contains (packets_owed setting (sent 1 h)) x.asked =
            subst (λ (ps : List Packet). Contains ps x.asked) still.brought_all x.came in
            let none = All-contains IsNoOpen (packets_owed setting (sent 1 h)) x.asked (no_opens setting (sent 1 h)) came in
            let clash : true ≡ false = sym (ap is_open x.asks) ∙ none in
            cc

        by : (c : Command) → p.command ≡ c → (t : Bool) → nat_eq p.arg1 o.remote ≡ t → IsOwn h 1 c p → (is_clse c && t) ≡ false
        by commands.Clse c true e owned = absurd (closing c (eqb-true p.arg1 o.remote e) owned)
        by _ c _ e owned = refl

    none_to : how_many (is_close_to o.remote) (sent 1 h) ≡ 0
    none_to = none_many (is_close_to o.remote) (sent 1 h) (go (sent 1 h) ((no_crossing h legal).own 1) unsent)
      where
        go : (ps : List Packet) → All (λ p. IsOwn h 1 p.command p) ps → All (λ p. is_clse p.command ≡ true → p.arg0 ≢ l) ps
            → All (λ p. is_close_to o.remote p ≡ false) ps
        go [] owned apart = All-nil (λ p. is_close_to o.remote p ≡ false)
        go (p ∷ ps) owned apart =
            All-cons (λ p. is_close_to o.remote p ≡ false) p ps
            (not_to p (All-head (λ p. IsOwn h 1 p.command p) p ps owned) (All-head (λ p. is_clse p.command ≡ true → p.arg0 ≢ l) p ps apart))
            (go ps (All-tail (λ p. IsOwn h 1 p.command p) p ps owned) (All-tail (λ p. is_clse p.command ≡ true → p.arg0 ≢ l) p ps apart))

  -- no CLSE of a stream that lives was sent
  none_sent : (l : ℕ) (x : Stream) → (state h).streams l ≡ Some x → All (λ p. is_clse p.command ≡ true → p.arg0 ≢ l) (sent 1 h)
  none_sent l x live =
      none_from is_clse l (sent 1 h)
      (let none = sent_no_close h legal l x live 1 in
      let fewer = count_front is_clse l (sent 1 h) (packets_of 1 h) (sends_first h legal 1).first in
      omega (arith, none, fewer))

  -- so the row of an open stream lives
  pub open_has_row : (l : ℕ) (b : Birth) (x : Stream) → born l h ≡ Some b → b.link ≡ 1 → (state h).streams l ≡ Some x → x.part.remote ≢ 0
      → HasRow setting h l b
  open_has_row l b x birth own live known =
      go (lives_or_closed setting u.opening.remote l (sent 1 h) (once_greeted h legal) (okay_owed l b own u.opening u.opened))
    where
      u : IsUnclosed h l b x
      u = heard_no_close h legal l b x birth live known

      told : remote_of l b h ≡ u.opening.remote
      told = ap remote_in u.opened

      none : how_many (is_close_between u.opening.remote l) (packets_owed setting (sent 1 h)) ≡ 0
      none = none_owed l b own u.opening u.opened (unclosed_none u.opening.remote l u.opening.later u.unclosed)

      never : how_many (is_close_to u.opening.remote) (sent 1 h) ≡ 0
      never = none_to l b own u.opening u.opened (none_sent l x live)

      go : ((row : Row) × ((at u.opening.remote (device_behind setting (sent 1 h)).serving.rows ≡ Some row) × (row.host ≡ l)))
          ⊎ ((1 ≤ how_many (is_close_between u.opening.remote l) (packets_owed setting (sent 1 h)))
          ⊎ (1 ≤ how_many (is_close_to u.opening.remote) (sent 1 h))) → HasRow setting h l b
      go (inl row) =
          record {
            row = row.0;
            is = ap (λ (n : ℕ). at n (device_behind setting (sent 1 h)).serving.rows) told
                ∙ row.1.0;
            host = row.1.1;
          }
      go (inr (inl some)) = absurd (let zeroth = none in omega (arith, zeroth, some))
      go (inr (inr some)) = absurd (let zeroth = never in omega (arith, zeroth, some))

pub open_have_rows : (setting : Setting) (h : History) → IsLegal h → OpenHaveRows setting h
open_have_rows setting h legal still l b x birth own live known = open_has_row setting h legal still l b x birth own live known
