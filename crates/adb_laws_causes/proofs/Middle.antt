-- A stream and its client after the rule of an entry, and after the up rule.
use Rattle.std.proofs.Common.{◌≡◌, ◌≤◌, ◌+◌, ℕ, Bool, true, false, cond, List, [], ◌∷◌, ◌++◌, length, take, drop, None, refl, sym, ap}
use Rattle.std.proofs.Common.{subst, ◌∙◌}
use Rattle.std.proofs.Common.{arith, length-append, append_assoc}
use Rattle.std.proofs.lemmas.List.{take-append-drop, append-nil}
use Rattle.std.specs.Prelude.{is_some, not}
use Rattle.adb_wire.specs.declared.packets.Packet.{Packet}
use Rattle.adb_stream.specs.declared.flow.Flow.{Flow}
use Rattle.adb_stream.specs.declared.flow.Flow.TheVariants.{One, Credit}
use Rattle.adb_stream.specs.declared.row.Stream.{Stream}
use Rattle.adb_capture.specs.declared.entry.Entry.{Entry}
use Rattle.adb_stream.specs.Flow.{is_idle, has_credit}
use Rattle.adb_history.specs.Rows.{Client}
use Rattle.adb_history.specs.Events.{Made, owed_to, ending_in}
use Rattle.adb_history.specs.Flow.{total, flow_after, with_flow, is_over}
use Rattle.adb_history.specs.Machine.{rule, ups, History, state, told_at, told, IsLegal}
use Rattle.adb_history.specs.Bytes.{bytes_read, brought}
use Rattle.adb_history.specs.Births.{Birth, born, since, opening_in, told_to, joined, handed_to, carried_in, count_from, is_wrte}
use Rattle.adb_history.specs.Lives.{output_of, packets_of, ending_of, lived, rest_of}
use Rattle.adb_history.specs.Fifo.{okays_of, credit_of}
use Rattle.adb_history.specs.Causes.{given_to, okays_after, has_closed_since, IsDone}
use Rattle.adb_history.proofs.Growing.{owed_append}
use Rattle.adb_history.proofs.LinkMoves.{all_linked}
use Rattle.adb_laws_causes.specs.Flows.{IsTimely, FlowIs, waiting, hears, start_of, IsAsTold, HoldsAsTold, HasFlows}
use Rattle.adb_laws_causes.proofs.Silent.{Tally, tally_append}
use Rattle.adb_laws_causes.proofs.UntouchedEntries.{pair_of}
use Rattle.adb_laws_causes.proofs.UpEffects.{flow_wrote}
use Rattle.adb_laws_causes.proofs.UpRuns.{UpEffect}

-- ---- what holds at each time
pub holds_flows : (h : History) → IsLegal h → HoldsAsTold h → HasFlows h
holds_flows h legal holds l b x born is alive =
    let p = pair_of l x (state h) (all_linked h legal).owned is alive in
    (holds l b x p.client born is alive p.here).flow

-- ---- between the two rules
-- A stream and its client after the rule of an entry, which told so much: as they are told, but for what became due by it.
pub record AfterRule (e : Entry) (older : History) (l : ℕ) (b : Birth) (x : Stream) (k : Client) : Type 0 where
  pub credits : ℕ
  pub tally : Tally l b.link (rule e (state older)).told [] 0 credits
  pub before : b.packets_before ≤ length (brought b.link (e ∷ older))
  pub waits : x.part.remote ≡ 0 → (packets : List Packet) → opening_in l (since b (e ∷ older) ++ packets) ≡ opening_in l packets
  pub forwarded : k.about.forwarded ≡ b.forwarded
  pub flow : FlowIs x.part.flow b.credit (length (joined (told_to l b (e ∷ older))))
      (length (handed_to l b (e ∷ older))) (given_to l b older + credits)
  pub output : length (output_of b.client older) + length (owed_to b.client (rule e (state older)).told)
      ≡ start_of b (e ∷ older) + hears x.part.remote b.forwarded (length (joined (told_to l b (e ∷ older))))
  pub head : b.head ≤ length (bytes_read b.client (e ∷ older))
  pub up : carried_in l (packets_of b.link older) ++ k.held ≡ drop b.head (bytes_read b.client (e ∷ older))
  pub writes : b.credit ≡ false → count_from is_wrte l (packets_of b.link older) ≤ okays_after l b (e ∷ older) + waiting x.part.flow
  pub exact : b.credit ≡ false → IsTimely l b (e ∷ older) → okays_after l b (e ∷ older) + waiting x.part.flow
      ≤ count_from is_wrte l (packets_of b.link older)
  pub closed : k.about.ended ≡ true → has_closed_since l b.client (e ∷ older) ≡ true

module _ (e : Entry) (older : History) (l : ℕ) (b : Birth) (x : Stream) (k : Client) where
  abbrev m : Made
  m = rule e (state older)

  -- all that was told until then, by the entry and before it
  all_tally : (sent : List (List ℕ)) (credits : ℕ) → Tally l b.link m.told [] 0 credits
      → Tally l b.link (ups m.state).told (joined sent) (length sent) 0
      → Tally l b.link (told (e ∷ older)) (carried_in l (packets_of b.link older) ++ joined sent)
      (count_from is_wrte l (packets_of b.link older) + (0 + length sent))
      (credit_of (okays_of l (packets_of b.link older)) + (credits + 0))
  all_tally sent credits one two =
      tally_append l b.link (told older) (m.told ++ (ups m.state).told) (carried_in l (packets_of b.link older)) (joined sent)
      (count_from is_wrte l (packets_of b.link older)) (0 + length sent) (credit_of (okays_of l (packets_of b.link older))) (credits + 0)
      (record { bytes = refl; count = refl; given = refl })
      (tally_append l b.link m.told (ups m.state).told [] (joined sent) 0 (length sent) credits 0 one two)

  -- the stream goes on with what is left of it
  pub after_ups : (r : AfterRule e older l b x k) → (x.client ≡ b.client) × (x.link ≡ b.link) × (has_credit x.part.flow ≡ b.credit)
      → (u : UpEffect l x k (ups (rule e (state older)).state))
      → IsAsTold (e ∷ older) l b (record x { part = with_flow (flow_after u.sent x.part.flow) x.part })
      (record k { held = drop (total u.sent) k.held })
  after_ups r own u =
      let t = all_tally u.sent r.credits r.tally
      (subst (λ (n : ℕ). Tally l n (ups m.state).told (joined u.sent) (length u.sent) 0) own.1 u.tally) in
      record {
        before = r.before;
        waits = r.waits;
        forwarded = r.forwarded;
        flow = flow_wrote u.sent x.part.flow b.credit (length (joined (told_to l b (e ∷ older))))
            (length (handed_to l b (e ∷ older))) (given_to l b
            (e ∷ older))
            (subst (λ (n : ℕ). FlowIs x.part.flow b.credit (length (joined (told_to l b (e ∷ older))))
            (length (handed_to l b (e ∷ older))) n)
            (omega (arith, t.given)) r.flow);
        output = output (subst (λ (n : ℕ). owed_to n (ups m.state).told ≡ []) own.0 u.owed);
        head = r.head;
        up = ap (λ bytes. bytes ++ drop (total u.sent) k.held) t.bytes
            ∙ (append_assoc (carried_in l (packets_of b.link older)) (joined u.sent) (drop (total u.sent) k.held)
            ∙ (ap (λ bytes. carried_in l (packets_of b.link older) ++ (bytes ++ drop (total u.sent) k.held)) u.sends.front
            ∙ (ap (λ bytes. carried_in l (packets_of b.link older) ++ bytes) (take-append-drop (total u.sent) k.held) ∙ r.up)));
        writes = λ one. (let was = r.writes one in let sent = u.sends.waits (own.2 ∙ one) in omega (arith, was, sent, t.count));
        exact = λ one timely. (let was = r.exact one timely in let sent = u.sends.waits (own.2 ∙ one) in omega (arith, was, sent, t.count));
        closed = r.closed;
      }
    where
      output : owed_to b.client (ups (rule e (state older)).state).told ≡ []
          → length (output_of b.client (e ∷ older)) ≡ start_of b (e ∷ older)
          + hears x.part.remote b.forwarded (length (joined (told_to l b (e ∷ older))))
      output none =
          let all : length (output_of b.client (e ∷ older)) ≡ length (output_of b.client older)
          + length (owed_to b.client (m.told ++ (ups m.state).told)) =
          ap length (owed_append b.client (told older) (m.told ++ (ups m.state).told))
          ∙ length-append (output_of b.client older) (owed_to b.client (m.told ++ (ups m.state).told)) in
          let own : length (owed_to b.client (m.told ++ (ups m.state).told)) ≡ length (owed_to b.client m.told) =
          ap length (owed_append b.client m.told (ups m.state).told
          ∙ (ap (λ w. owed_to b.client m.told ++ w) none ∙ append-nil (owed_to b.client m.told))) in
          omega (arith, all, own, r.output)

  -- ---- or it ends, and all went up
  -- what a stream that is over has left: nothing
  over_left : (ended : Bool) (held : List ℕ) (flow : Flow) → is_over ended held flow ≡ true
      → (ended ≡ true) × (held ≡ []) × (is_idle flow ≡ true)
  over_left true [] flow e = (refl, refl, e)
  over_left false [] flow e = absurd (let clash : false ≡ true = e in cc)
  over_left ended (c ∷ held) flow e = absurd (let clash : false ≡ true = e in cc)

  idle_waits : (flow : Flow) → is_idle flow ≡ true → waiting flow ≡ 0
  idle_waits (Credit c) e = refl
  idle_waits (One window) e = go window.outstanding refl e
    where
      go : (o : Bool) → window.outstanding ≡ o → not o ≡ true → waiting (One window) ≡ 0
      go false is f = ap (λ b. cond b 1 0) is
      go true is f = absurd (let clash : false ≡ true = f in cc)

  -- the rest of a stream that ends by this entry
  rest_at : ending_of l older ≡ None → is_some (ending_in l (told_at e older)) ≡ true
      → rest_of l b (e ∷ older) ≡ drop b.head (bytes_read b.client older)
  rest_at none ends =
      ap (λ o. drop b.head
      (bytes_read b.client
      (cond (is_some o) (lived l older) (cond (is_some (ending_in l (told_at e older))) older (e ∷ older)))))
      none
      ∙ ap (λ c. drop b.head (bytes_read b.client (cond c older (e ∷ older)))) ends

  pub done_at : (r : AfterRule e older l b x k) → (x.link ≡ b.link) × (has_credit x.part.flow ≡ b.credit)
      → (u : UpEffect l x k (ups (rule e (state older)).state))
      → is_over k.about.ended (drop (total u.sent) k.held) (flow_after u.sent x.part.flow) ≡ true
      → (ending_of l older ≡ None) × (is_some (ending_in l (told_at e older)) ≡ true)
      × (bytes_read b.client (e ∷ older) ≡ bytes_read b.client older)
      → (has_closed_since l b.client (e ∷ older) ≡ true) × IsDone b.credit l b (e ∷ older)
  done_at r own u over at =
      let left = over_left k.about.ended (drop (total u.sent) k.held) (flow_after u.sent x.part.flow) over in
      (r.closed left.0, go b.credit refl left)
    where
      t : Tally l b.link (told (e ∷ older)) (carried_in l (packets_of b.link older) ++ joined u.sent)
          (count_from is_wrte l (packets_of b.link older) + (0 + length u.sent))
          (credit_of (okays_of l (packets_of b.link older)) + (r.credits + 0))
      t = all_tally u.sent r.credits r.tally
          (subst (λ (n : ℕ). Tally l n (ups m.state).told (joined u.sent) (length u.sent) 0) own.0 u.tally)

      go : (c : Bool) → b.credit ≡ c
          → (k.about.ended ≡ true) × (drop (total u.sent) k.held ≡ [])
          × (is_idle (flow_after u.sent x.part.flow) ≡ true) → IsDone c l b (e ∷ older)
      go false one left =
          let was = r.writes one in
          let sent = u.sends.waits (own.1 ∙ one) in
          let idle = idle_waits (flow_after u.sent x.part.flow) left.2 in
          omega (arith, was, sent, idle, t.count)
      go true many left =
          let all : joined u.sent ≡ k.held =
          u.sends.front ∙ (sym (append-nil (take (total u.sent) k.held)) ∙ (ap (λ bytes. take (total u.sent) k.held ++ bytes) (sym left.1)
          ∙ take-append-drop (total u.sent) k.held)) in
          t.bytes ∙ (ap (λ bytes. carried_in l (packets_of b.link older) ++ bytes) all
          ∙ (r.up ∙ (ap (drop b.head) at.2 ∙ sym (rest_at at.0 at.1))))
