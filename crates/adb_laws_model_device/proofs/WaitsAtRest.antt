-- Where nothing is on its way, no write waits.
use Rattle.std.proofs.Common.{◌≡◌, ◌≢◌, ℕ, ◌+◌, ◌≤◌, true, false, List}
use Rattle.std.proofs.Common.{take, drop, Option, Some, None, refl, sym, ap, subst, ◌∙◌, arith}
use Rattle.std.specs.Prelude.{All}
use Rattle.std.proofs.lemmas.List.{take-append-drop}
use Rattle.std.proofs.lemmas.List.Elements.{All-drop}
use Rattle.adb_wire.specs.declared.packets.Packet.{Packet}
use Rattle.adb_stream.specs.declared.row.Stream.{Stream}
use Rattle.adb_history.specs.Machine.{History, state, IsLegal}
use Rattle.adb_history.specs.Bytes.{brought, sent}
use Rattle.adb_history.specs.Lives.{packets_of}
use Rattle.adb_history.specs.Births.{Birth, Opening, born, since, opening_of, remote_in, remote_of, count_from, is_okay, is_wrte}
use Rattle.adb_history.specs.Causes.{okays_behind, okays_after}
use Rattle.adb_history.specs.Rows.{Client}
use Rattle.adb_laws_births.proofs.Born.{all_births}
use Rattle.adb_laws_births.proofs.Crossing.{no_crossing}
use Rattle.adb_laws_causes.specs.Flows.{waiting}
use Rattle.adb_laws_causes.proofs.Holding.{all_hold}
use Rattle.adb_laws_model_device.specs.Counts.{is_okay_to, okays_to}
use Rattle.adb_laws_model_device.specs.Devices.{RemoteEnd, ComeFromOne, IsPlain}
use Rattle.adb_laws_model_device.specs.Paired.{IsPaired, IsStill, IsAcknowledged, NoWriteWaits}
use Rattle.adb_laws_model_device.proofs.Counts.{many_append}
use Rattle.adb_laws_model_device.proofs.Timely.{timely}
use Rattle.adb_laws_model_device.proofs.Heard.{opened_hears, placed}

module _ (owes : RemoteEnd) (plain : IsPlain owes) (h : History) (legal : IsLegal h) (paired : IsPaired owes h)
    (still : IsStill owes h) where
  module _ (l : ℕ) (b : Birth) (own : b.link ≡ 1) (birth : born l h ≡ Some b) where
    -- an OKAY to the stream comes from this id
    abbrev From : ℕ → Packet → Type 0
    From r p = is_okay p.command ≡ true → p.arg1 ≡ l → p.arg0 ≡ r

    -- an open stream has heard all OKAYs to it, but for its opening
    heard : remote_of l b h ≢ 0 → okays_to l (brought 1 h) ≤ 1 + okays_after l b h
    heard known = go (opening_of l b h) refl
      where
        ids : ComeFromOne l (owes (sent 1 h))
        ids = plain.ids l (sent 1 h) ((no_crossing h legal).once 1 l)

        from : All (From ids.id) (brought b.link h)
        from = subst (λ (t : ℕ). All (From ids.id) (brought t h)) (sym own)
            (subst (λ (ps : List Packet). All (From ids.id) ps) (sym still.brought_all) ids.all)

        none : okays_to l (take b.packets_before (brought 1 h)) ≡ 0
        none = (placed owes plain h legal paired l b birth own).none

        parts : okays_to l (brought 1 h) ≡ okays_to l (take b.packets_before (brought 1 h))
            + okays_to l (drop b.packets_before (brought 1 h))
        parts = ap (okays_to l) (sym (take-append-drop b.packets_before (brought 1 h)))
            ∙ many_append (is_okay_to l) (take b.packets_before (brought 1 h)) (drop b.packets_before (brought 1 h))

        same : okays_to l (drop b.packets_before (brought 1 h)) ≡ okays_to l (since b h)
        same = ap (λ t. okays_to l (drop b.packets_before (brought t h))) (sym own)

        go : (o : Option Opening) → opening_of l b h ≡ o → okays_to l (brought 1 h) ≤ 1 + okays_behind l o
        go None e = absurd (known (ap remote_in e))
        go (Some o) e =
            let hears = opened_hears l ids.id ids.some (since b h) (All-drop (From ids.id) b.packets_before (brought b.link h) from) o e in
            omega (arith, hears, same, parts, none)

  -- so as many OKAYs were heard after the opening as writes became due
  pub none_waits_at : (l : ℕ) (b : Birth) (x : Stream) (k : Client) → born l h ≡ Some b → (state h).streams l ≡ Some x
      → x.part.orphan ≡ false → x.part.remote ≢ 0 → (state h).clients x.client ≡ Some k → IsAcknowledged owes h l b
      → waiting x.part.flow ≡ 0
  none_waits_at l b x k birth is alive open_now here answered =
      let exact = (all_hold h legal l b x k birth is alive here).exact answered.plain (timely owes plain h legal paired l b answered.own) in
      let kept = (all_births h legal).kept l x is in
      let same : kept.birth ≡ b = (let both : Some kept.birth ≡ Some b = sym kept.is ∙ birth in cc) in
      let known : remote_of l b h ≢ 0 = λ zeroth. open_now (kept.remote ∙ (ap (λ (c : Birth). remote_of l c h) same ∙ zeroth)) in
      let hears = heard l b answered.own birth known in
      let sent_all : count_from is_wrte l (sent 1 h) ≡ count_from is_wrte l (packets_of b.link h) =
      ap (count_from is_wrte l) still.sent_all ∙ ap (λ t. count_from is_wrte l (packets_of t h)) (sym answered.own) in
      let brought_all : okays_to l (brought 1 h) ≡ okays_to l (owes (sent 1 h)) = ap (okays_to l) still.brought_all in
      let all = answered.all in
      omega (arith, exact, sent_all, brought_all, all, hears)

-- so at rest no write waits
pub none_waits : (owes : RemoteEnd) (plain : IsPlain owes) (h : History) → IsLegal h → IsPaired owes h → NoWriteWaits owes h
none_waits owes plain h legal paired still = none_waits_at owes plain h legal paired still
