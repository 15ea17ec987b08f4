-- Where nothing is on its way, all that a device sent of a stream was told behind its opening, and its service is the
-- one that was asked for.
use Rattle.std.specs.Prelude.{ℕ, ◌+◌, ◌^◌, ◌≡◌, ◌<◌, ◌&&◌, Bool, cond, All, List, [], ◌∷◌, ◌++◌, length, take}
use Rattle.std.specs.Prelude.{Some}
use Rattle.std.proofs.Common.{sym, ◌∙◌, ap, subst, arith}
use Rattle.std.specs.Prelude.{◌-◌, ◌==◌, if◌then◌else◌, slice_index}
use Rattle.std.proofs.Math.Seq.{get_or-append_seam, take-append_seam}
use Rattle.std.proofs.lemmas.Bool.{eq-eqb, lt-ltb}
use Rattle.std.proofs.lemmas.List.{length-append}
use Rattle.adb_wire.specs.declared.command.Command.{Command}
use Rattle.adb_wire.specs.declared.packets.Packet.{Packet}
use Rattle.adb_history.specs.Bytes.{brought, sent}
use Rattle.adb_history.specs.Births.{opening_of, Birth, Opening, born, since, told_in, is_between, is_wrte}
use Rattle.adb_history.specs.Fifo.{okays_in, IsOpenOf, IsOwn}
use Rattle.adb_history.specs.Machine.{History, IsLegal}
use Rattle.adb_laws_births.proofs.Crossing.{no_crossing}
use Rattle.adb_device_streams.specs.Asked.{service_of, name_of}
use Rattle.adb_device_streams.specs.Stream.{okay}
use Rattle.adb_daemon.specs.Device.{Setting, device_behind}
use Rattle.adb_laws_model_device.specs.Paired.{IsPaired, IsStill}
use Rattle.adb_laws_model_device.proofs.Heard.{placed}
use Rattle.adb_laws_model_device.specs.Joined.{IsJoined}
use Rattle.adb_laws_model_device.specs.Opened.{GoesTo}
use Rattle.adb_laws_model_device.specs.Owed.{packets_owed}
use Rattle.adb_laws_model_device.proofs.Joined.{paired}
use Rattle.adb_laws_model_device.proofs.Plain.{model_is_plain}
use Rattle.adb_laws_worlds.proofs.Named.{IsAskedFor}
use Rattle.adb_laws_worlds.proofs.Rows.{split, parts, for_it}
use Rattle.adb_laws_worlds.proofs.Splits.{IsOpening, okays_append, at_split}
use Rattle.adb_laws_worlds.proofs.Starts.{told_behind, told_written, okays_among, none_told, none_written}

-- the name of a service that an OPEN asks for is what stands before its NUL
pub named_service : (service : List ℕ) → name_of (service ++ 0 ∷ []) ≡ service
named_service service =
    let sum : length (service ++ 0 ∷ []) ≡ length service + 1 = length-append service (0 ∷ []) in
    let last : length (service ++ 0 ∷ []) - 1 ≡ length service = omega (arith, sum) in
    let nul : slice_index (service ++ 0 ∷ []) (length (service ++ 0 ∷ []) - 1) ≡ 0 =
    ap (λ (n : ℕ). slice_index (service ++ 0 ∷ []) n) last ∙ get_or-append_seam service 0 [] 0 in
    let cut : take (length (service ++ 0 ∷ []) - 1) (service ++ 0 ∷ []) ≡ service =
    ap (λ (n : ℕ). take n (service ++ 0 ∷ [])) last ∙ take-append_seam service (0 ∷ []) in
    ap (λ (b : Bool). if b && slice_index (service ++ 0 ∷ []) (length (service ++ 0 ∷ []) - 1) == 0
    then take (length (service ++ 0 ∷ []) - 1) (service ++ 0 ∷ []) else service ++ 0 ∷ [])
    (lt-ltb 0 (length (service ++ 0 ∷ [])) (omega (arith, sum)))
    ∙ (ap (λ (b : Bool). if b then take (length (service ++ 0 ∷ []) - 1) (service ++ 0 ∷ []) else service ++ 0 ∷ [])
    (eq-eqb (slice_index (service ++ 0 ∷ []) (length (service ++ 0 ∷ []) - 1)) 0 nul) ∙ cut)

module _ (setting : Setting) (short : setting.most < 2 ^ 32) (h : History) (legal : IsLegal h) (tied : IsJoined setting h)
    (still : IsStill (packets_owed setting) h) where
  pairs : IsPaired (packets_owed setting) h
  pairs = paired setting short h legal tied

  module _ (l : ℕ) (b : Birth) (birth : born l h ≡ Some b) (own : b.link ≡ 1) (o : Opening) (opened : opening_of l b h ≡ Some o) where
    abbrev pub asked : IsAskedFor setting o.remote l (sent 1 h)
    asked = for_it setting h legal still l b own o opened

    cut : IsOpening l (since b h) o
    cut = split setting h legal still l b own o opened

    none_okayed : okays_in o.remote l (take b.packets_before (brought b.link h) ++ cut.front) ≡ 0
    none_okayed =
        let place = (placed (packets_owed setting) (model_is_plain setting) h legal pairs l b birth own).none in
        let same : okays_in o.remote l (take b.packets_before (brought b.link h))
        ≡ okays_in o.remote l (take b.packets_before (brought 1 h)) =
        ap (λ (t : ℕ). okays_in o.remote l (take b.packets_before (brought t h))) own in
        let few = okays_among o.remote l (take b.packets_before (brought 1 h)) in
        let first = cut.first in
        let sum = okays_append o.remote l (take b.packets_before (brought b.link h)) cut.front in
        omega (arith, place, same, few, first, sum)

    -- nothing was told before the opening
    none_told_before : length (told_in o.remote l (take b.packets_before (brought b.link h) ++ cut.front)) ≡ 0
    unfolding cut
    none_told_before =
        let w = asked.asked in
        let whole = parts setting h legal still l b own o opened in
        let begins : packets_owed setting w.by.front ++ okay o.remote l w.word ∷ w.more
        ≡ (take b.packets_before (brought b.link h) ++ cut.front) ++ cut.okay ∷ o.later =
        ap (λ (n : ℕ). packets_owed setting w.by.front ++ okay o.remote n w.word ∷ w.more) (sym asked.host) ∙ (sym w.first ∙ whole) in
        let before = told_written o.remote l (device_behind setting w.by.front).serving.made in
        let silent = none_written setting w.by.front o.remote w.by.number in
        none_told o.remote l (packets_owed setting w.by.front) w.word w.more (take b.packets_before (brought b.link h) ++ cut.front)
        (cut.okay ∷ o.later) begins none_okayed (omega (arith, before, silent))

    -- so what the device sent was told behind it
    pub told_whole : told_in o.remote l (packets_owed setting (sent 1 h)) ≡ told_in o.remote l o.later
    unfolding cut
    told_whole =
        ap (λ (ps : List Packet). told_in o.remote l ps) (parts setting h legal still l b own o opened)
        ∙ (told_behind o.remote l (take b.packets_before (brought b.link h) ++ cut.front) (cut.okay ∷ o.later) none_told_before
        ∙ ap (λ (c : Command). cond (is_wrte c && is_between o.remote l cut.okay) (cut.okay.payload ∷ told_in o.remote l o.later)
        (told_in o.remote l o.later)) cut.command)

    pub all_go_to : All (GoesTo o.remote l) (device_behind setting (sent 1 h)).serving.made
    all_go_to = subst (λ (n : ℕ). All (GoesTo o.remote n) (device_behind setting (sent 1 h)).serving.made) asked.host
        asked.asked.opened.named

    -- the service is the one that was asked for
    pub service_asked : service_of b.service ≡ Some asked.asked.by.kind
    service_asked =
        let d = asked.asked.by in
        let owned : IsOwn h 1 d.asking.command d.asking =
        at_split (λ p. IsOwn h 1 p.command p) d.front d.asking d.rest
        (subst (λ (ps : List Packet). All (λ p. IsOwn h 1 p.command p) ps) (sym d.is) ((no_crossing h legal).own 1)) in
        let of : IsOpenOf h 1 d.asking = subst (λ (c : Command). IsOwn h 1 c d.asking) d.command owned in
        let found : Some of.birth ≡ Some b = sym of.is ∙ (ap (λ n. born n h) asked.host ∙ birth) in
        let same : of.birth ≡ b = cc in
        let payload : d.asking.payload ≡ b.service ++ 0 ∷ [] =
        ap (λ (p : Packet). p.payload) of.packet ∙ ap (λ (c : Birth). c.service ++ 0 ∷ []) same in
        ap service_of (sym (ap name_of payload ∙ named_service b.service)) ∙ d.known
