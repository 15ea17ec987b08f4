-- The link of a model device breaks by nothing that the device sends.
use Rattle.std.specs.Prelude.{ℕ, ◌+◌, ◌^◌, ◌≡◌, ◌≢◌, ◌<◌, ◌≤◌, ◌&&◌, ◌||◌, not, Bool, true, false, cond, nat_eq, nat_lt, is_some, is_none}
use Rattle.std.specs.Prelude.{option_map}
use Rattle.std.specs.Prelude.{reverse, All, List, [], ◌∷◌, ◌++◌, length, drop}
use Rattle.std.specs.Prelude.{Option, Some, None}
use Rattle.std.proofs.Common.{zero, suc, refl, sym, ◌∙◌, ap, subst, arith, ◌⊎◌, inl, inr}
use Rattle.std.specs.List.{list_any}
use Rattle.std.proofs.Math.Seq.{drop-append_seam}
use Rattle.std.proofs.lemmas.List.Elements.{All-nil, All-cons, All-head, All-tail}
use Rattle.adb_outside.specs.Tables.{at}
use Rattle.adb_outside.specs.declared.identity.State.TheVariants as device
use Rattle.adb_banner.specs.Banner.{identity_of}
use Rattle.adb_registry.specs.Row.{unauthorized_row}
use Rattle.adb_registry.specs.declared.row.Row.{Row}
use Rattle.adb_wire.specs.Cutting.{framed}
use Rattle.adb_wire.specs.Format.{is_cnxn}
use Rattle.adb_wire.specs.declared.format.PacketFault.{PacketFault}
use Rattle.adb_wire.specs.declared.packets.Packet.{Packet}
use Rattle.adb_capture.specs.declared.entry.Entry.{Entry}
use Rattle.adb_capture.specs.declared.entry.Entry.TheVariants.{Detach}
use Rattle.adb_history.specs.Book.{plugged, is_login, is_refused, is_broken, last_cnxn, row_by}
use Rattle.adb_history.specs.Births.{Birth, born}
use Rattle.adb_history.specs.Bytes.{is_lost, bytes_received, brought, sent}
use Rattle.adb_history.specs.Causes.{IsMoment, brings, detaches, loses_link, breaks_link}
use Rattle.adb_history.specs.Events.{ending_in}
use Rattle.adb_history.specs.declared.ending.Ending.{Ending}
use Rattle.adb_history.specs.declared.ending.Ending.TheVariants.{Lost, Broken}
use Rattle.adb_history.specs.Links.{is_connected, is_connected_state, is_connected_row}
use Rattle.adb_history.specs.Lives.{ending_of}
use Rattle.adb_history.specs.Machine.{History, state, told, told_at, IsLegal}
use Rattle.adb_history.specs.Packets.{least_version, least_maxdata}
use Rattle.adb_history.proofs.Devices.{ShowsDevices, shows_devices}
use Rattle.adb_history.proofs.OrderlyStates.{orderly}
use Rattle.adb_laws_births.specs.Births.{born_stays}
use Rattle.adb_laws_births.specs.Brought.{framed_fault, brought_grows}
use Rattle.adb_laws_causes.proofs.Endings.{EndsAt, ends_at, time_of}
use Rattle.adb_laws_causes.proofs.LinkEnds.{all_by_loss, all_by_break}
use Rattle.adb_laws_fifo_up.proofs.Seeing.{ending_split}
use Rattle.adb_daemon.specs.Serving.{Sent}
use Rattle.adb_daemon.specs.Device.{Setting, own_cnxn}
use Rattle.adb_laws_model_device.specs.Counts.{how_many}
use Rattle.adb_laws_model_device.proofs.Counts.{many_append, many_front}
use Rattle.adb_laws_model_device.specs.Joined.{IsJoined}
use Rattle.adb_laws_model_device.specs.Owed.{packets_of_sent, packets_owed}
use Rattle.adb_laws_model_device.specs.Rows.{is_cnxn_packet}
use Rattle.adb_laws_model_device.proofs.Bytes.{sound_owed}
use Rattle.adb_laws_model_device.proofs.Joined.{paired, sent_words}
use Rattle.adb_laws_worlds.specs.Unbroken.{BringsSound, AllOutliveLink}
use Rattle.adb_laws_worlds.proofs.Payloads.{all_reverse, found_holds, plugged_off}
use Rattle.adb_laws_worlds.proofs.Sends.{all_behind}

-- ---- what the device sends
-- no CNXN but its own
once_owed : (setting : Setting) (packets : List Packet) → how_many is_cnxn_packet (packets_owed setting packets) ≤ 1
once_owed setting packets =
    let b = all_behind (λ (one : Sent). is_cnxn one.packet.command ≡ false) (λ sums own host word. refl) (λ sums own host payload. refl)
    (λ sums own host. refl) (own_cnxn setting ∷ []) setting refl packets in
    let same : how_many is_cnxn_packet (packets_owed setting packets)
    ≡ how_many is_cnxn_packet (packets_of_sent (own_cnxn setting ∷ b.more)) =
    ap (λ (made : List Sent). how_many is_cnxn_packet (packets_of_sent made)) b.is in
    let rest = none b.more b.all in
    let one : how_many is_cnxn_packet (packets_of_sent (own_cnxn setting ∷ b.more))
    ≡ 1 + how_many is_cnxn_packet (packets_of_sent b.more) = refl in
    omega (arith, same, one, rest)
  where
    none : (made : List Sent) → All (λ (one : Sent). is_cnxn one.packet.command ≡ false) made
        → how_many is_cnxn_packet (packets_of_sent made) ≡ 0
    none [] all = refl
    none (one ∷ made) all =
        ap (λ (b : Bool). cond b (1 + how_many is_cnxn_packet (packets_of_sent made)) (how_many is_cnxn_packet (packets_of_sent made)))
        (All-head (λ (one : Sent). is_cnxn one.packet.command ≡ false) one made all)
        ∙ none made (All-tail (λ (one : Sent). is_cnxn one.packet.command ≡ false) one made all)

module _ (setting : Setting) (short : setting.most < 2 ^ 32) where
  pub brings_sound : (h : History) → IsLegal h → IsJoined setting h → BringsSound h
  brings_sound [] legal tied = record { sound = refl; once = omega arith }
  brings_sound (e ∷ older) legal tied = record {
    sound = go (framed (bytes_received 1 (e ∷ older))).fault refl;
    once = (
        let few = once_owed setting (sent 1 older) in
        let front = many_front is_cnxn_packet (brought 1 (e ∷ older)) (packets_owed setting (sent 1 older))
        (paired setting short (e ∷ older) legal tied).1 in
        omega (arith, few, front));
  }
    where
      go : (o : Option PacketFault) → (framed (bytes_received 1 (e ∷ older))).fault ≡ o
          → (framed (bytes_received 1 (e ∷ older))).fault ≡ None
      go None is = is
      go (Some fault) is =
          let stays : (framed (bytes_received 1 (e ∷ older) ++ tied.1.0)).fault ≡ Some fault =
          framed_fault (bytes_received 1 (e ∷ older)) tied.1.0 fault is in
          let none : (framed (bytes_received 1 (e ∷ older) ++ tied.1.0)).fault ≡ None =
          ap (λ (x : List ℕ). (framed x).fault) tied.1.1 ∙ sound_owed setting short (sent 1 older) (sent_words older legal.0) in
          absurd (let clash : None ≡ Some fault = sym none ∙ stays in cc)

-- ---- a link on which a stream lives brought a CNXN
-- a device that has said nothing is not connected
silent_row : (row : Row) → row.state ≡ device.Offline → (last : Option Packet) (packets : List Packet) → last ≡ None
    → is_connected_row (Some (row_by last packets row)) ≡ false
silent_row row off (Some p) packets none = let clash : None ≡ Some p = sym none in cc
silent_row row off None packets none = go (list_any (λ p. is_login p.command) packets)
  where
    go : (b : Bool) → is_connected_row (Some (cond b (unauthorized_row row) row)) ≡ false
    go true = refl
    go false = ap is_connected_state off

found_counts : (ps : List Packet) → how_many is_cnxn_packet ps ≡ 0 → All (λ p. is_cnxn p.command ≡ false) ps
found_counts [] none = All-nil (λ p. is_cnxn p.command ≡ false)
found_counts (p ∷ ps) none = go (is_cnxn p.command) refl none (found_counts ps)
  where
    go : (b : Bool) → is_cnxn p.command ≡ b → cond b (1 + how_many is_cnxn_packet ps) (how_many is_cnxn_packet ps) ≡ 0
        → (how_many is_cnxn_packet ps ≡ 0 → All (λ p. is_cnxn p.command ≡ false) ps) → All (λ p. is_cnxn p.command ≡ false) (p ∷ ps)
    go true e f later = absurd (omega (arith, f))
    go false e f later = All-cons (λ p. is_cnxn p.command ≡ false) p ps e (later f)

none_last : (ps : List Packet) → how_many is_cnxn_packet ps ≡ 0 → last_cnxn ps ≡ None
none_last ps none = go (last_cnxn ps) refl
  where
    go : (o : Option Packet) → last_cnxn ps ≡ o → last_cnxn ps ≡ None
    go None is = is
    go (Some p) is =
        let found = found_holds (λ p. is_cnxn p.command) (λ p. is_cnxn p.command ≡ false) (reverse ps) p is
        (all_reverse (λ p. is_cnxn p.command ≡ false) ps (found_counts ps none)) in
        absurd (let clash : true ≡ false = sym found.1 ∙ found.0 in cc)

pub said_who : (h : History) → IsLegal h → (t : ℕ) → is_connected t (state h).devices ≡ true → 1 ≤ how_many is_cnxn_packet (brought t h)
said_who h legal t connected = go (how_many is_cnxn_packet (brought t h)) refl
  where
    shows : ShowsDevices (state h) h
    shows = shows_devices h legal

    off : how_many is_cnxn_packet (brought t h) ≡ 0 → (b : Bool) (o : Option Row) → plugged t h ≡ o
        → is_connected_row (cond b None (option_map (row_by (last_cnxn (brought t h)) (brought t h)) o)) ≡ false
    off none true o is = refl
    off none false None is = refl
    off none false (Some row) is = silent_row row (plugged_off t h row is) (last_cnxn (brought t h)) (brought t h)
        (none_last (brought t h) none)

    silent : how_many is_cnxn_packet (brought t h) ≡ 0 → (b : Bool) → (state h).stopped ≡ b → is_connected t (state h).devices ≡ false
    silent none true stopped = ap (λ (rows : List (ℕ × Row)). is_connected_row (at t rows)) (shows.gone stopped)
    silent none false on =
        ap is_connected_row (shows.rows on t) ∙ off none (is_lost t h || is_broken t h) (plugged t h) refl

    go : (n : ℕ) → how_many is_cnxn_packet (brought t h) ≡ n → 1 ≤ how_many is_cnxn_packet (brought t h)
    go zero none = absurd (let clash : true ≡ false = sym connected ∙ silent none (state h).stopped refl in cc)
    go (suc n) is = omega (arith, is)

-- ---- so it brings no other
-- where no packet is a CNXN none ends a stream
none_any : (q : Packet → Bool) (ps : List Packet) → how_many is_cnxn_packet ps ≡ 0 → list_any (λ p. is_cnxn p.command && q p) ps ≡ false
none_any q [] none = refl
none_any q (p ∷ ps) none = go (is_cnxn p.command) none (none_any q ps)
  where
    go : (b : Bool) → cond b (1 + how_many is_cnxn_packet ps) (how_many is_cnxn_packet ps) ≡ 0
        → (how_many is_cnxn_packet ps ≡ 0 → list_any (λ p. is_cnxn p.command && q p) ps ≡ false)
        → ((b && q p) || list_any (λ p. is_cnxn p.command && q p) ps) ≡ false
    go true e later = absurd (omega (arith, e))
    go false e later = later e

-- a link that was lost stays so
lost_stays : (newer older : History) → is_lost 1 (newer ++ older) ≡ false → is_lost 1 older ≡ false
lost_stays [] older e = e
lost_stays (Detach n cause ∷ newer) older e = go (nat_eq n 1) e (lost_stays newer older)
  where
    go : (b : Bool) → (b || is_lost 1 (newer ++ older)) ≡ false
        → (is_lost 1 (newer ++ older) ≡ false → is_lost 1 older ≡ false) → is_lost 1 older ≡ false
    go true f later = let clash : true ≡ false = f in cc
    go false f later = later f
lost_stays (_ ∷ newer) older e = lost_stays newer older e

-- what was joined was so before
pub joined_at : (setting : Setting) (newer older : History) → IsJoined setting (newer ++ older) → IsJoined setting older
joined_at setting [] older tied = tied
joined_at setting (e ∷ newer) older tied = joined_at setting newer older tied.0

-- a stream that ended did so at some entry
pub record EndsNow (l : ℕ) (ending : Ending) (h : History) : Type 0 where
  pub entry : Entry
  pub older : History
  pub moment : IsMoment entry older h
  pub says : ending_in l (told_at entry older) ≡ Some ending

pub ends_now : (l : ℕ) (ending : Ending) (h : History) → ending_of l h ≡ Some ending → EndsNow l ending h
ends_now l ending [] is = absurd (let clash : None ≡ Some ending = is in cc)
ends_now l ending (e ∷ older) is = go (ending_split l (told older) (told_at e older) ending is) (λ f. ends_now l ending older f)
  where
    go : (ending_in l (told older) ≡ Some ending) ⊎ (ending_in l (told_at e older) ≡ Some ending)
        → (ending_of l older ≡ Some ending → EndsNow l ending older)
        → EndsNow l ending (e ∷ older)
    go (inl f) before =
        let x = before f in
        record { entry = x.entry; older = x.older; moment = (e ∷ x.moment.0, ap (λ (h : History). e ∷ h) x.moment.1); says = x.says }
    go (inr f) before = record { entry = e; older = older; moment = ([], refl); says = f }

-- a birth that was is the same later
pub birth_stays : (l : ℕ) (b : Birth) (e : Entry) (older newer : History) (c : Birth)
    → born l (newer ++ e ∷ older) ≡ Some b → born l older ≡ Some c → c ≡ b
birth_stays l b e older newer c now was = (let both : Some c ≡ Some b = sym (later newer) ∙ now in cc)
  where
    later : (newer : History) → born l (newer ++ e ∷ older) ≡ Some c
    later [] = born_stays l e older c was
    later (f ∷ newer) = born_stays l f (newer ++ e ∷ older) c (later newer)

module _ (setting : Setting) (short : setting.most < 2 ^ 32) (h : History) (legal : IsLegal h)
    (tied : IsJoined setting h) (here : is_lost 1 h ≡ false)
    (l : ℕ) (b : Birth) (birth : born l h ≡ Some b) (own : b.link ≡ 1) where
  -- where it ended the link had brought its CNXN, and brings no other
  module _ (ending : Ending) (x : EndsNow l ending h) where
    time : IsLegal (x.entry ∷ x.older)
    time = time_of h legal x.entry x.older x.moment

    then_tied : IsJoined setting (x.entry ∷ x.older)
    then_tied = joined_at setting x.moment.0 (x.entry ∷ x.older) (subst (λ (k : History). IsJoined setting k) (sym x.moment.1) tied)

    end : EndsAt l x.entry x.older ending
    end = ends_at l x.entry x.older ending time x.says

    same : end.kept.birth ≡ b
    same = birth_stays l b x.entry x.older x.moment.0 end.kept.birth
        (subst (λ (k : History). born l k ≡ Some b) (sym x.moment.1) birth) end.kept.is

    on_first : end.kept.birth.link ≡ 1
    on_first = ap (λ (c : Birth). c.link) same ∙ own

    none_brought : how_many is_cnxn_packet (brings 1 x.entry x.older) ≡ 0
    none_brought =
        let connected : is_connected 1 (state x.older).devices ≡ true =
        ap (λ (t : ℕ). is_connected t (state x.older).devices) (sym (end.kept.link ∙ on_first))
        ∙ ((orderly x.older time.0).stream l end.row end.is).connected in
        let said = said_who x.older time.0 1 connected in
        let once = (brings_sound setting short (x.entry ∷ x.older) time then_tied).once in
        let grown = brought_grows 1 x.entry x.older in
        let new : brings 1 x.entry x.older ≡ grown.0 =
        ap (drop (length (brought 1 x.older))) (sym grown.1) ∙ drop-append_seam (brought 1 x.older) grown.0 in
        let sum = many_append is_cnxn_packet (brought 1 x.older) grown.0 in
        let all : how_many is_cnxn_packet (brought 1 x.older ++ grown.0) ≡ how_many is_cnxn_packet (brought 1 (x.entry ∷ x.older)) =
        ap (how_many is_cnxn_packet) grown.1 in
        let more : how_many is_cnxn_packet (brings 1 x.entry x.older) ≡ how_many is_cnxn_packet grown.0 =
        ap (how_many is_cnxn_packet) new in
        none_of (how_many is_cnxn_packet (brings 1 x.entry x.older)) (omega (arith, said, once, sum, all, more))
      where
        none_of : (n : ℕ) → n ≤ 0 → n ≡ 0
        none_of n le = omega (arith, le)

    unlost : is_lost 1 (x.entry ∷ x.older) ≡ false
    unlost = lost_stays x.moment.0 (x.entry ∷ x.older) (subst (λ (k : History). is_lost 1 k ≡ false) (sym x.moment.1) here)

  -- so it did not end with its link
  not_lost : ending_of l h ≢ Some Lost
  not_lost is = clash
    where
      x : EndsNow l Lost h
      x = ends_now l Lost h is

      not_detached : (e : Entry) (older : History) → is_lost 1 (e ∷ older) ≡ false → detaches 1 e ≡ false
      not_detached (Detach n cause) older unlost = go (nat_eq n 1) unlost
        where
          go : (b : Bool) → (b || is_lost 1 older) ≡ false → b ≡ false
          go true f = f
          go false f = refl
      not_detached _ older unlost = refl

      clash : ⊥
      clash =
          let by = all_by_loss h legal l x.entry x.older x.moment x.says in
          let mine : by.birth ≡ b = birth_stays l b x.entry x.older x.moment.0 by.birth
          (subst (λ (k : History). born l k ≡ Some b) (sym x.moment.1) birth) by.is in
          let first : by.birth.link ≡ 1 = ap (λ (c : Birth). c.link) mine ∙ own in
          let none : loses_link by.birth x.entry x.older ≡ false =
          ap (λ (t : ℕ). detaches t x.entry || list_any (λ p. is_cnxn p.command && not (is_refused p)) (brings t x.entry x.older)) first
          ∙ (ap (λ (c : Bool). c || list_any (λ p. is_cnxn p.command && not (is_refused p)) (brings 1 x.entry x.older))
          (not_detached x.entry x.older (unlost Lost x))
          ∙ none_any (λ p. not (is_refused p)) (brings 1 x.entry x.older) (none_brought Lost x)) in
          let both : true ≡ false = sym by.cause ∙ none in
          cc

  not_broken : ending_of l h ≢ Some Broken
  not_broken is = clash
    where
      x : EndsNow l Broken h
      x = ends_now l Broken h is

      clash : ⊥
      clash =
          let by = all_by_break h legal l x.entry x.older x.moment x.says in
          let mine : by.birth ≡ b = birth_stays l b x.entry x.older x.moment.0 by.birth
          (subst (λ (k : History). born l k ≡ Some b) (sym x.moment.1) birth) by.is in
          let first : by.birth.link ≡ 1 = ap (λ (c : Birth). c.link) mine ∙ own in
          let sound = (brings_sound setting short (x.entry ∷ x.older) (time Broken x) (then_tied Broken x)).sound in
          let none : breaks_link by.birth x.entry x.older ≡ false =
          ap (λ (t : ℕ).
          (is_some (framed (bytes_received t (x.entry ∷ x.older))).fault
          && not (is_some (framed (bytes_received t x.older)).fault))
          || list_any is_refused (brings t x.entry x.older)) first
          ∙ (ap (λ (f : Option PacketFault). (is_some f && not (is_some (framed (bytes_received 1 x.older)).fault))
          || list_any is_refused (brings 1 x.entry x.older)) sound
          ∙ none_any (λ p. nat_lt p.arg0 least_version
          || nat_lt p.arg1 least_maxdata
          || is_none (identity_of p.payload)) (brings 1 x.entry x.older) (none_brought Broken x)) in
          let both : true ≡ false = sym by.cause ∙ none in
          cc

pub all_outlive_link : (setting : Setting) → setting.most < 2 ^ 32 → (h : History) → IsLegal h → IsJoined setting h → AllOutliveLink h
all_outlive_link setting short h legal tied here l b birth own = record {
  lost = not_lost setting short h legal tied here l b birth own;
  broken = not_broken setting short h legal tied here l b birth own;
}
