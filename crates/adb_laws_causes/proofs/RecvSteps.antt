-- A stream and its client after what its link brings.
use Rattle.std.proofs.Common.{◌≡◌, ◌≤◌, ◌<◌, ◌+◌, ◌-◌, ℕ, Bool, true, false, cond, not, ◌&&◌, ◌||◌, List, [], ◌∷◌, ◌++◌, length, drop}
use Rattle.std.proofs.Common.{Option, Some}
use Rattle.std.proofs.Common.{None, refl, sym, ap, subst, ◌∙◌}
use Rattle.std.proofs.Common.{arith, inl, inr, length-append}
use Rattle.std.specs.Prelude.{nat_eq}
use Rattle.std.proofs.lemmas.Bool.{eqb-true, eqb-false}
use Rattle.adb_wire.specs.declared.packets.Packet.{Packet}
use Rattle.adb_stream.specs.declared.row.Stream.{Stream}
use Rattle.adb_capture.specs.declared.entry.Entry.{Entry}
use Rattle.adb_capture.specs.declared.entry.Entry.TheVariants.{Recv}
use Rattle.adb_history.specs.Rows.{Client, State}
use Rattle.adb_history.specs.Events.{Made, owed_to}
use Rattle.adb_history.specs.Machine.{rule, History, state}
use Rattle.adb_history.specs.Bytes.{bytes_put, brought}
use Rattle.adb_history.specs.Book.{asked}
use Rattle.adb_history.specs.Births.{Birth, Opening as FirstOkay, opening_in, opening_of, remote_in, remote_of, since, told_after, told_to}
use Rattle.adb_history.specs.Births.{joined}
use Rattle.adb_history.specs.Births.{lead_of, handed_to}
use Rattle.adb_history.specs.Births.{carried_in, count_from, is_wrte}
use Rattle.adb_history.specs.Lives.{output_of, packets_of}
use Rattle.adb_history.specs.Causes.{okays_after, given_to}
use Rattle.adb_laws_causes.specs.Flows.{hears, start_of}
use Rattle.adb_laws_causes.proofs.Silent.{tally_silent}
use Rattle.adb_laws_causes.proofs.Middle.{AfterRule}
use Rattle.std.proofs.lemmas.List.{drop-append-le, append-nil}
use Rattle.adb_history.specs.Events.{quietly, then_also}
use Rattle.adb_history.proofs.OutputEntries.{all_due_past_put}
use Rattle.adb_laws_causes.proofs.Silent.{AreSilent, silent_append}
use Rattle.adb_laws_causes.proofs.Unchanged.{handed_is, closed_before}
use Rattle.std.specs.List.{list_any}
use Rattle.adb_wire.specs.Cutting.{cut_packets}
use Rattle.adb_wire.specs.Format.{is_cnxn}
use Rattle.adb_history.specs.Rows.{Link, to_link}
use Rattle.adb_history.specs.Packets.{treat_all, faulty_on, with_rest, receives_on, receives}
use Rattle.adb_history.specs.Book.{is_refused}
use Rattle.adb_history.specs.Causes.{closes_in}
use Rattle.adb_history.proofs.LinkMoves.{all_linked}
use Rattle.adb_laws_causes.proofs.Fates.{lives}
use Rattle.adb_laws_causes.proofs.PacketFates.{receives_fate}
use Rattle.adb_laws_causes.proofs.UntouchedEntries.{pair_apart}
use Rattle.adb_laws_causes.proofs.Runs.{RunsOn, says_anew, Cutting, CutRun, rested_here}
use Rattle.adb_laws_causes.proofs.RunEffects.{written_all, okays_all, RunEffect, run_effect}
use Rattle.adb_laws_causes.proofs.Sayings.{neither, remote_known, written_in, okays_behind_in, SaidMore, said_more}
use Rattle.adb_laws_causes.proofs.Receiving.{brought_cut, LinkThere, here_at, there_at, recv_run}
use Rattle.adb_laws_causes.proofs.Unchanged.{opened_some}
use Rattle.adb_laws_causes.proofs.RuleSteps.{Standing, flow_at, client_here, same_start, same_lead, Becomes}

-- packets that do not say who the device is
no_cnxn : (packets : List Packet) → list_any says_anew packets ≡ false → list_any is_refused packets ≡ false
    → list_any (λ p. is_cnxn p.command) packets ≡ false
no_cnxn [] a b = refl
no_cnxn (p ∷ packets) a b =
    let one = neither (says_anew p) (list_any says_anew packets) a in
    let two = neither (is_refused p) (list_any is_refused packets) b in
    ap (λ c. c || list_any (λ p. is_cnxn p.command) packets)
    (cnxn (is_cnxn p.command) (is_refused p) one.0 two.0 refl) ∙ no_cnxn packets one.1 two.1
  where
    cnxn : (c r : Bool) → (c && not r) ≡ false → r ≡ false → is_cnxn p.command ≡ c → c ≡ false
    cnxn false r e f g = refl
    cnxn true false e f g = absurd (let clash : true ≡ false = e in cc)
    cnxn true true e f g = absurd (let clash : true ≡ false = f in cc)

faulty_none : (o : Option Link) (t : ℕ) (s : State) → faulty_on o t None s ≡ quietly s
faulty_none None t s = refl
faulty_none (Some link) t s = refl

-- what the link of a stream brought, and what its packets made of the stream
pub record Received (older : History) (l : ℕ) (b : Birth) (x : Stream) (k : Client) (bytes : List ℕ) : Type 0 where
  pub given : List Packet
  pub treated : Made
  pub all : brought b.link (Recv b.link bytes ∷ older) ≡ brought b.link older ++ given
  pub shut : closes_in x.part.remote l given ≡ false
  pub silent_of_device : list_any (λ p. is_cnxn p.command) given ≡ false
  pub effect : RunEffect l x given k treated
  pub made : receives b.link bytes (state older) ≡ then_also treated (λ s. quietly s)
  pub within : (0 < l) × (l ≤ (receives b.link bytes (state older)).state.drawn)

module _ (older : History) (l : ℕ) (b : Birth) (x : Stream) (bytes : List ℕ) (t : Standing (Recv b.link bytes) older l b x) where
  on_link : ((state older).streams l ≡ Some x) × (x.part.orphan ≡ false) × (x.link ≡ b.link)
  on_link = (t.pair.is, t.pair.alive, t.link)

  abbrev there : LinkThere b.link (state older)
  there = there_at b.link l x older t.legal.0 (t.pair.is, t.pair.alive, t.link)

  abbrev cut_now : Cutting
  cut_now = cut_packets (record { sums = (there_at b.link l x older t.legal.0 (t.pair.is, t.pair.alive, t.link)).link.sums })
      ((there_at b.link l x older t.legal.0 (t.pair.is, t.pair.alive, t.link)).link.rest ++ bytes)

  abbrev rested : State
  rested = to_link b.link (with_rest cut_now.rest) (state older)

  abbrev treated_now : Made
  treated_now = treat_all b.link cut_now.given rested

  runs_received : RunsOn b.link l x cut_now.given (receives b.link bytes (state older)) → cut_now.fault ≡ None
      → lives ((receives b.link bytes (state older)).state.streams l) ≡ true → Received older l b x t.pair.client bytes
  runs_received r sound alive =
      let owned = (all_linked older t.legal.0).owned in
      let apart = pair_apart l x (state older) owned t.pair in
      let made : receives b.link bytes (state older) ≡ then_also treated_now (λ s. quietly s) =
      ap (λ o. receives_on o b.link bytes (state older)) there.is
      ∙ (ap (λ fault. then_also treated_now (λ s. faulty_on (s.links b.link) b.link fault s)) sound
      ∙ ap (λ (m : Made). record { state = m.state; told = treated_now.told ++ m.told }) (faulty_none
      (treated_now.state.links b.link) b.link treated_now.state)) in
      record {
        given = cut_now.given;
        treated = treated_now;
        all = (brought_cut b.link bytes older there.link t.legal.0 there.is).all;
        shut = r.not_close;
        silent_of_device = no_cnxn cut_now.given r.not_lost r.not_broken;
        effect = run_effect b.link l cut_now.given x rested
            (record { is = t.pair.is; alive = t.pair.alive; client = t.pair.client; here = t.pair.here; phase = t.pair.phase })
            (rested_here b.link l x (state older) (here_at b.link l x older t.legal.0 on_link) cut_now, record { alone = apart.alone })
            (ap (λ (m : Made). lives (m.state.streams l)) (sym made) ∙ alive);
        made = made;
        within = r.live.within;
      }

  pub received_now : lives ((receives b.link bytes (state older)).state.streams l) ≡ true → Received older l b x t.pair.client bytes
  received_now alive = go (recv_run b.link l bytes x older t.legal on_link there.link there.is)
    where
      go : CutRun b.link l x cut_now (receives b.link bytes (state older)) → Received older l b x t.pair.client bytes
      go (inl runs) = runs_received runs.0 runs.1 alive
      go (inr fell) =
          absurd (let clash : true ≡ false =
          sym alive ∙ ((receives_fate l b.link bytes (state older)).ends fell.ending fell.told).over in cc)

-- ---- the stream as it is told then
module _ (older : History) (l : ℕ) (b : Birth) (x : Stream) (bytes : List ℕ) (t : Standing (Recv b.link bytes) older l b x) where
  abbrev e : Entry
  e = Recv b.link bytes

  module _ (r : Received older l b x t.pair.client bytes) where
    more_since : since b (Recv b.link bytes ∷ older) ≡ since b older ++ r.given
    more_since = ap (drop b.packets_before) r.all ∙ drop-append-le b.packets_before (brought b.link older) r.given t.holds.before

    told_more : SaidMore l x.part.remote (since b older) r.given
    told_more = said_more l x.part.remote (since b older) r.given t.remote (λ nil packets. t.holds.waits nil packets)
        r.shut r.silent_of_device

    now_written : length (joined (told_to l b (Recv b.link bytes ∷ older)))
        ≡ written_all x.part.remote l r.given (length (joined (told_to l b older)))
    now_written = ap (written_in l) more_since ∙ told_more.told

    now_remote : remote_of l b (Recv b.link bytes ∷ older) ≡ r.effect.row.part.remote
    now_remote = ap (λ ps. remote_in (opening_in l ps)) more_since ∙ (told_more.remote ∙ sym r.effect.remote)

    -- nothing was written to a stream that its device has not opened
    none_written : x.part.remote ≡ 0 → length (joined (told_to l b older)) ≡ 0
    none_written nil = go (opening_of l b older) refl
      where
        go : (o : Option FirstOkay) → opening_of l b older ≡ o → length (joined (told_to l b older)) ≡ 0
        go None f = ap (λ o. length (joined (told_after l o))) f
        go (Some o) f = absurd (eqb-false o.remote 0 (opened_some l (since b older) o f) (sym (ap remote_in f) ∙ (t.remote ∙ nil)))

    put_within : length (bytes_put b.client older) ≤ length (output_of b.client older)
    put_within =
        let due = all_due_past_put older t.legal.0 b.client t.pair.client (client_here e older l b x t) in
        let all : length (output_of b.client older) ≡ length (bytes_put b.client older) + length t.pair.client.due =
        ap length due ∙ length-append (bytes_put b.client older) t.pair.client.due in
        omega (arith, all)

    -- what it is told does not depend on what its device opens only now
    now_handed : length (handed_to l b (Recv b.link bytes ∷ older)) ≡ length (handed_to l b older)
    now_handed = go (nat_eq x.part.remote 0) (nat_eq r.effect.row.part.remote 0) refl refl
      where
        new : length (handed_to l b (Recv b.link bytes ∷ older))
            ≡ cond (nat_eq r.effect.row.part.remote 0) 0 (length (bytes_put b.client older) - lead_of b (Recv b.link bytes ∷ older))
        new = handed_is l b (Recv b.link bytes ∷ older) r.effect.row.part.remote now_remote

        old : length (handed_to l b older) ≡ cond (nat_eq x.part.remote 0) 0 (length (bytes_put b.client older) - lead_of b older)
        old = handed_is l b older x.part.remote t.remote

        lead : (f : Bool) → b.forwarded ≡ f → start_of b older ≤ lead_of b older
        lead true g =
            let s : start_of b older ≡ 0 = ap (λ c. cond c 0 (length (asked b.client older).replies)) g in omega (arith, s)
        lead false g =
            let s : start_of b older ≡ length (asked b.client older).replies =
            ap (λ c. cond c 0 (length (asked b.client older).replies)) g in
            let d : lead_of b older ≡ length (asked b.client older).replies + 4 =
            ap (λ c. cond c 0 (length (asked b.client older).replies + 4)) g in
            omega (arith, s, d)

        go : (a c : Bool) → nat_eq x.part.remote 0 ≡ a → nat_eq r.effect.row.part.remote 0 ≡ c
            → length (handed_to l b (Recv b.link bytes ∷ older)) ≡ length (handed_to l b older)
        go true true f g =
            let n = new ∙ ap (λ c. cond c 0 (length (bytes_put b.client older) - lead_of b (Recv b.link bytes ∷ older))) g in
            let o = old ∙ ap (λ c. cond c 0 (length (bytes_put b.client older) - lead_of b older)) f in
            n ∙ sym o
        go true false f g =
            let n = new ∙ ap (λ c. cond c 0 (length (bytes_put b.client older) - lead_of b (Recv b.link bytes ∷ older))) g in
            let o = old ∙ ap (λ c. cond c 0 (length (bytes_put b.client older) - lead_of b older)) f in
            let nil : hears x.part.remote b.forwarded (length (joined (told_to l b older))) ≡ 0 =
            ap (λ n. hears n b.forwarded (length (joined (told_to l b older)))) (eqb-true x.part.remote 0 f) in
            let d = lead b.forwarded refl in
            omega (arith, n, o, nil, d, put_within, t.holds.output, same_lead e older l b x t)
        go false c f g =
            let same : r.effect.row.part.remote ≡ x.part.remote = r.effect.remote ∙ remote_known x.part.remote l f r.given in
            let n = new ∙ ap
            (λ c. cond c 0 (length (bytes_put b.client older) - lead_of b (Recv b.link bytes ∷ older)))
            (ap (λ n. nat_eq n 0) same ∙ f) in
            let o = old ∙ ap (λ c. cond c 0 (length (bytes_put b.client older) - lead_of b older)) f in
            omega (arith, n, o, same_lead e older l b x t)

    owed_told : length (owed_to b.client (rule (Recv b.link bytes) (state older)).told) ≡ length (owed_to x.client r.treated.told)
    owed_told =
        ap (λ (m : Made). length (owed_to b.client m.told)) r.made
        ∙ (ap (λ w. length (owed_to b.client w)) (append-nil r.treated.told) ∙ ap (λ c. length (owed_to c r.treated.told)) (sym t.client))

    pub recv_after : AfterRule (Recv b.link bytes) older l b r.effect.row r.effect.client
    recv_after =
        let w = length (joined (told_to l b older)) in
        let own = r.effect.owed w none_written in
        let f1 : hears x.part.remote t.pair.client.about.forwarded w ≡ hears x.part.remote b.forwarded w =
        ap (λ f. hears x.part.remote f w) t.holds.forwarded in
        let f2 : hears r.effect.row.part.remote t.pair.client.about.forwarded (written_all x.part.remote l r.given w)
        ≡ hears r.effect.row.part.remote b.forwarded (length (joined (told_to l b (e ∷ older)))) =
        ap (λ f. hears r.effect.row.part.remote f (written_all x.part.remote l r.given w)) t.holds.forwarded
        ∙ ap (hears r.effect.row.part.remote b.forwarded) (sym now_written) in
        record {
          credits = 0;
          tally = tally_silent l b.link (rule e (state older)).told
              (subst (λ (m : Made). AreSilent l m.told) (sym r.made) (silent_append l r.treated.told [] r.effect.silent tt));
          before = (let n : length (brought b.link (e ∷ older)) ≡ length (brought b.link older) + length r.given =
              ap length r.all ∙ length-append (brought b.link older) r.given in omega (arith, n, t.holds.before));
          waits = λ nil packets. ap (λ ps. opening_in l (ps ++ packets)) more_since ∙ told_more.waits (sym r.effect.remote ∙ nil) packets;
          forwarded = r.effect.same.forwarded ∙ t.holds.forwarded;
          flow = flow_at r.effect.row.part.flow b.credit (written_all x.part.remote l r.given w)
              (length (handed_to l b older)) (given_to l b older)
              (length (joined (told_to l b (e ∷ older)))) (length (handed_to l b (e ∷ older))) (given_to l b older + 0)
              (sym now_written, sym now_handed, omega arith)
              (r.effect.flow b.credit w (length (handed_to l b older)) (given_to l b older) t.holds.flow);
          output = omega (arith, own, f1, f2, owed_told, t.holds.output, same_start e older l b x t);
          head = t.holds.head;
          up = ap (λ held. carried_in l (packets_of b.link older) ++ held) r.effect.same.held ∙ t.holds.up;
          writes = λ one.
              let was = t.holds.writes one in
              let more = r.effect.okays (okays_after l b older) in
              let same : okays_after l b (e ∷ older) ≡ okays_all x.part.remote l r.given (okays_after l b older) =
              ap (okays_behind_in l) more_since
              ∙ told_more.okays in
              omega (arith, was, more, same);
          exact = λ one timely.
              let was = t.holds.exact one timely.0 in
              let same : okays_after l b (e ∷ older) ≡ okays_all x.part.remote l r.given (okays_after l b older) =
              ap (okays_behind_in l) more_since
              ∙ told_more.okays in
              let more = r.effect.answers (okays_after l b older) (count_from is_wrte l (packets_of b.link older)) was
              (let late = timely.1 in omega (arith, late, same)) in
              omega (arith, more, same);
          closed = λ ended. closed_before l b.client e older (t.holds.closed (sym r.effect.same.ended ∙ ended));
        }

    pub recv_becomes : Becomes l r.effect.row r.effect.client (rule (Recv b.link bytes) (state older)).state
    recv_becomes = record {
      row = ap (λ (m : Made). m.state.streams l) r.made ∙ r.effect.is;
      here = ap (λ (m : Made). m.state.clients r.effect.row.client) r.made ∙ (ap r.treated.state.clients r.effect.of ∙ r.effect.here);
    }
