-- Each promise of the streams is broken by a history.
use Rattle.std.specs.Prelude.{ℕ, ◌≡◌, ◌≤◌, ◌+◌, ◌&&◌, Bool, true, false, List, [], ◌∷◌, ◌++◌, Option, Some, None, codes, slice_index}
use Rattle.std.specs.Prelude.{length}
use Rattle.std.specs.Prelude.{eqb, nat_lt, is_some, ◌<◌}
use Rattle.std.proofs.Common.{refl, sym, ◌∙◌, ap, arith, zero, suc, cond, get_or}
use Rattle.std.proofs.lemmas.Bool.{eq-eqb, le-ltb}
use Rattle.adb_wire.specs.Cutting.{framed}
use Rattle.adb_wire.specs.declared.packets.Packet.{Packet}
use Rattle.adb_history.specs.Links.{server_cnxn, close_packet}
use Rattle.adb_history.specs.Bytes.{bytes_sent, sent}
use Rattle.adb_request.specs.Meaning.{meaning}
use Rattle.adb_wire.specs.Header.{word_at}
use Rattle.adb_banner.specs.Banner.{identity_of, last_value}
use Rattle.adb_history.specs.Births.{Birth, is_clse, count_from}
use Rattle.adb_history.specs.Fifo.{SendsPackets, HasBirths, CarriesRest, CarriesWholeRest, TellsClose, HandsTold, HandsWholeTold}
use Rattle.adb_history.specs.Fifo.{KeepsUpWindow}
use Rattle.adb_history.specs.Fifo.{KeepsDownWindow, HasNoCrossing}
use Rattle.adb_history.specs.Opened.{AsksAtOnce}
use Rattle.adb_history.specs.Broken.{sends_no_packet, draws_a_number_twice, skips_a_byte, closes_with_a_byte_unsent, hands_a_byte_twice}
use Rattle.adb_history.specs.Broken.{drops_at_close}
use Rattle.adb_history.specs.Broken.{forgets_the_device, writes_none_for_the_close}
use Rattle.adb_history.specs.Broken.{second_write_before_okay, acks_on_arrival, writes_to_another_link}

-- ---- what cannot be
pub apart : (a b : ℕ) → eqb a b ≡ false → a ≡ b → ⊥
apart a b differ same = let clash : true ≡ false = sym (eq-eqb a b same) ∙ differ in cc

pub none_of_some : {A : Type 0} (o : Option A) → is_some o ≡ true → o ≡ None → ⊥
none_of_some o some none = let clash : true ≡ false = sym some ∙ ap is_some none in cc

pub not_below : (a b : ℕ) → nat_lt b a ≡ true → a ≤ b → ⊥
not_below a b more within = let clash : true ≡ false = sym more ∙ le-ltb b a within in cc

-- lists that differ at a place
pub differ_at : (place : ℕ) (xs ys : List ℕ) → eqb (slice_index xs place) (slice_index ys place) ≡ false → xs ≡ ys → ⊥
differ_at place xs ys differ same = apart (slice_index xs place) (slice_index ys place) differ (ap (λ l. slice_index l place) same)

pub differ_in_length : (xs ys : List ℕ) → eqb (length xs) (length ys) ≡ false → xs ≡ ys → ⊥
differ_in_length xs ys differ same = apart (length xs) (length ys) differ (ap length same)

-- the stream of the open shell
abbrev shell : Birth
shell = record { client = 1; link = 1; credit = false; forwarded = false; service = codes "shell:echo hi"; head = 40; packets_before = 1 }

-- ---- fifo
pub packets_refuted : SendsPackets sends_no_packet → ⊥
unfolding meaning word_at identity_of last_value
packets_refuted promise = none_of_some (framed (bytes_sent 1 sends_no_packet)).fault refl (promise 1)

pub birth_refuted : HasBirths draws_a_number_twice → ⊥
unfolding meaning word_at identity_of last_value
birth_refuted promise = apart 2 1 refl promise.drawn

pub asked_at_once_refuted : AsksAtOnce forgets_the_device → ⊥
unfolding meaning word_at identity_of last_value
asked_at_once_refuted promise = let has = promise.1 1 shell refl refl in omega (arith, has.1)

pub up_refuted : CarriesRest skips_a_byte → ⊥
unfolding meaning word_at identity_of last_value
up_refuted promise =
    let front = promise 1 shell refl in differ_at 1 (codes "ac" ++ front.0) (codes "abc") refl front.1

pub up_whole_refuted : CarriesWholeRest closes_with_a_byte_unsent → ⊥
unfolding meaning word_at identity_of last_value
up_whole_refuted promise =
    differ_in_length (codes "ab") (codes "abc") refl (promise 1 shell refl refl (3, (let last : 3 < 4 = omega arith in last), refl))

-- where a packet closes a stream, there is one that does
close_counted : (l k : ℕ) (ps : List Packet) (p : Packet) → is_clse p.command ≡ true → p.arg0 ≡ l → k < length ps → get_or ps k p ≡ p
    → 1 ≤ count_from is_clse l ps
close_counted l k [] p closes own within is = absurd (omega (arith, within))
close_counted l zero (q ∷ ps) p closes own within is =
    rw (ap (λ (r : Packet). is_clse r.command) is ∙ closes) (rw (eq-eqb q.arg0 l (ap (λ (r : Packet). r.arg0) is ∙ own)) (omega arith))
close_counted l (suc k) (q ∷ ps) p closes own within is = go (is_clse q.command && eqb q.arg0 l)
    (close_counted l k ps p closes own (omega (arith, within)) is)
  where
    go : (b : Bool) → 1 ≤ count_from is_clse l ps → 1 ≤ cond b (1 + count_from is_clse l ps) (count_from is_clse l ps)
    go true later = omega arith
    go false later = later

pub close_sent_refuted : TellsClose writes_none_for_the_close → ⊥
unfolding meaning word_at identity_of last_value
close_sent_refuted promise =
    let has = promise 1 shell refl refl refl in
    not_below 1 0 refl (close_counted 1 has.0 (sent 1 writes_none_for_the_close) (close_packet 1 7) refl refl has.1 has.2)

pub down_refuted : HandsTold hands_a_byte_twice → ⊥
unfolding meaning word_at identity_of last_value
down_refuted promise =
    let front = promise 1 shell refl in differ_at 1 (codes "hh" ++ front.0) (codes "hi") refl front.1

pub down_whole_refuted : HandsWholeTold drops_at_close → ⊥
unfolding meaning word_at identity_of last_value
down_whole_refuted promise = differ_in_length [] (codes "abCLS") refl (promise 1 shell refl refl refl)

pub up_window_refuted : KeepsUpWindow second_write_before_okay → ⊥
unfolding meaning word_at identity_of last_value
up_window_refuted promise = not_below 2 1 refl (promise 1 shell refl)

pub down_window_refuted : KeepsDownWindow acks_on_arrival → ⊥
unfolding meaning word_at identity_of last_value
down_window_refuted promise = not_below 1 0 refl (promise 1 shell refl)

-- the link of a birth
link_of : Option Birth → ℕ
link_of None = 0
link_of (Some b) = b.link

pub no_crossing_refuted : HasNoCrossing writes_to_another_link → ⊥
unfolding meaning word_at identity_of last_value link_of
no_crossing_refuted promise =
    let own = promise.own 2 1 server_cnxn (let second : 1 < 2 = omega arith in second) in
    apart 1 2 refl (ap link_of own.is ∙ own.link)
