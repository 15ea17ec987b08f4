-- What handing out to its client makes of a stream.
use Rattle.std.proofs.Common.{◌≡◌, ◌≢◌, ◌≤◌, ◌<◌, ◌+◌, ◌-◌, ◌^◌, ℕ, zero, suc, Bool, true, false, cond, List, [], ◌∷◌, ◌++◌, length, drop}
use Rattle.std.proofs.Common.{min}
use Rattle.std.proofs.Common.{Option, Some, refl, sym, ap, subst, ◌∙◌, eqb}
use Rattle.std.proofs.Common.{arith}
use Rattle.std.specs.Prelude.{nat_le, unwrap_or, ◌||◌, ◌&&◌}
use Rattle.adb_stream.specs.declared.credit.TheConstants.{CREDIT_STEP}
use Rattle.std.proofs.lemmas.Bool.{eqb-true, eq-eqb}
use Rattle.byteorder.specs.Numbers.{little_number-reads_back}
use Rattle.byteorder.specs.Endian.{little_bytes}
use Rattle.adb_outside.specs.Bytes.{IsPrefixOf}
use Rattle.adb_registry.specs.Registry.{DeviceTable}
use Rattle.adb_stream.specs.Credit.{ByteCredit, IsWhole}
use Rattle.adb_stream.specs.declared.flow.Flow.{Flow}
use Rattle.adb_stream.specs.declared.flow.Flow.TheVariants.{One, Credit}
use Rattle.adb_stream.specs.declared.row.Stream.{Stream}
use Rattle.adb_stream.specs.Flow.{to_hand, credit_back, handed_to, has_credit}
use Rattle.adb_client.specs.declared.phase.Phase.{Phase}
use Rattle.adb_client.specs.declared.phase.Phase.TheVariants.{Opening, Streaming, Tracking}
use Rattle.adb_history.specs.Rows.{Client, State, to_client, to_stream, with_stream_part}
use Rattle.adb_history.specs.Events.{Made, quietly, then_also, owed_to, packets_to}
use Rattle.adb_history.specs.Links.{credit_word, okay_packet, credit_packet, owe_link}
use Rattle.adb_history.specs.Flow.{with_flow, payloads}
use Rattle.adb_history.specs.Tracking.{list_if_stale, due_or, offered}
use Rattle.adb_history.specs.Handing.{lists_first, left_in, hands, tells_credit, tells_handed, stream_hands, stream_left}
use Rattle.adb_history.specs.Handing.{client_left, takes_of, puts_to, puts}
use Rattle.adb_history.specs.Machine.{IsSomeOf, MayPut}
use Rattle.adb_history.specs.Births.{is_wrte, carried_in, count_from}
use Rattle.adb_history.specs.Fifo.{okays_of, credit_of}
use Rattle.adb_history.specs.Orderly.{IsSoundFlow, phase_for}
use Rattle.adb_history.specs.Owned.{IsOwned}
use Rattle.adb_history.proofs.Following.{changed_here}
use Rattle.adb_laws_causes.specs.Flows.{FlowIs}
use Rattle.adb_laws_causes.proofs.Silent.{Tally, tally_silent, okay_silent, AreSilent}
use Rattle.adb_laws_causes.proofs.UntouchedEntries.{Pair}
use Rattle.adb_laws_causes.specs.Flows.{waiting}
use Rattle.adb_history.proofs.Calm.{LetsSame, lets_same as lets_handed}

-- so much of a client's bytes is handed out, of which so many are left
pub record PutEffect (l : ℕ) (x : Stream) (k : Client) (n : ℕ) (m : Made) : Type 0 where
  pub flow : Flow
  pub back : ℕ
  pub is : m.state.streams l ≡ Some (record x { part = with_flow flow x.part })
  pub here : m.state.clients x.client ≡ Some (record k { due = drop n k.due })
  pub owed : owed_to x.client m.told ≡ []
  pub tally : Tally l x.link m.told [] 0 back
  pub waits : waiting flow ≡ waiting x.part.flow
  pub lets : LetsSame x.part.flow flow
  pub flows : (credit : Bool) (written handed now given : ℕ) → (x.part.remote ≡ 0 → now ≡ handed)
      → (x.part.remote ≢ 0 → has_credit x.part.flow ≡ false → now + min (to_hand x.part.flow) (length (drop n k.due)) ≡ written)
      → FlowIs x.part.flow credit written handed given → FlowIs flow credit written now (given + back)

-- a credit word says how much it gives
credit_told : (n : ℕ) → n < 2 ^ 32 → unwrap_or (credit_word (little_bytes 4 n)) 0 ≡ n
credit_told n small = little_number-reads_back 4 n [] small

credit_tally : (l : ℕ) (x : Stream) (n : ℕ) (s : State) → n < 2 ^ 32
    → Tally l x.link (owe_link x.link (credit_packet l x.part.remote n) s).told [] 0 n
credit_tally l x n s small = record {
  bytes = ap (λ b. carried_in l (cond b (credit_packet l x.part.remote n ∷ []) [])) (eq-eqb x.link x.link refl);
  count = ap (λ b. count_from is_wrte l (cond b (credit_packet l x.part.remote n ∷ []) [])) (eq-eqb x.link x.link refl);
  given =
      let one : credit_of (okays_of l (packets_to x.link (owe_link x.link (credit_packet l x.part.remote n) s).told))
      ≡ unwrap_or (credit_word (little_bytes 4 n)) 0 + 0 =
      ap (λ b. credit_of (okays_of l (cond b (credit_packet l x.part.remote n ∷ []) []))) (eq-eqb x.link x.link refl)
      ∙ ap (λ b. credit_of (cond b (credit_packet l x.part.remote n ∷ []) [])) (eq-eqb l l refl) in
      omega (arith, one, credit_told n small);
}

-- the credit that is given back is within the window
back_small : (left : ℕ) (c : ByteCredit) → IsWhole c → left ≤ c.to_hand → credit_back left c < 2 ^ 32
back_small left c h fits = go (eqb left 0 || nat_le CREDIT_STEP (c.gathered + (c.to_hand - left)))
  where
    go : (b : Bool) → cond b (c.gathered + (c.to_hand - left)) 0 < 2 ^ 32
    go true = omega (arith, h.window, fits)
    go false = omega arith

module _ (l : ℕ) (x : Stream) (k : Client) (n : ℕ) (s : State) (h : (s.streams l ≡ Some x) × (s.clients x.client
    ≡ Some (record k { due = drop n k.due }))) where
  -- as many are left as the stream has accepted
  all_left : x.part.remote ≢ 0 → min (to_hand x.part.flow) (length (drop n k.due)) ≡ to_hand x.part.flow → PutEffect l x k n (quietly s)
  all_left open_now same = record {
    flow = x.part.flow;
    back = 0;
    is = h.0;
    here = h.1;
    owed = refl;
    tally = record { bytes = refl; count = refl; given = refl };
    waits = refl;
    lets = record { payloads = λ m held. refl; over = λ ended held. refl };
    flows = λ credit written handed now given opening left f. flows x.part.flow refl credit written handed now given (left open_now) f;
  }
    where
      flows : (flow : Flow) → x.part.flow ≡ flow → (credit : Bool) (written handed now given : ℕ)
          → (has_credit x.part.flow ≡ false → now + min (to_hand x.part.flow) (length (drop n k.due)) ≡ written)
          → FlowIs flow credit written handed given → FlowIs flow credit written now (given + 0)
      flows (One window) e credit written handed now given left f =
          let own : to_hand x.part.flow ≡ window.to_hand = ap to_hand e in
          let sum = left (ap has_credit e) in
          (f.0, omega (arith, sum, same, own))
      flows (Credit c) e credit written handed now given left f = (f.0, omega (arith, f.1))

  -- fewer are
  module _ (open_now : x.part.remote ≢ 0) (sound : IsSoundFlow x.part.flow) where
    abbrev left : ℕ
    left = min (to_hand x.part.flow) (length (drop n k.due))

    abbrev less : State
    less = to_stream l (with_stream_part (with_flow (handed_to (min (to_hand x.part.flow) (length (drop n k.due))) x.part.flow) x.part)) s

    row_less : (to_stream l
        (with_stream_part
        (with_flow (handed_to (min (to_hand x.part.flow) (length (drop n k.due))) x.part.flow) x.part)) s).streams
        l
        ≡ Some (record x { part = with_flow (handed_to (min (to_hand x.part.flow) (length (drop n k.due))) x.part.flow) x.part })
    row_less = changed_here l (with_stream_part (with_flow (handed_to left x.part.flow) x.part)) s.streams x h.0

    fewer : (flow : Flow) → x.part.flow ≡ flow → IsSoundFlow flow → PutEffect l x k n (tells_handed flow left l x less)
    fewer (One window) e sound = go (min (to_hand x.part.flow) (length (drop n k.due))) refl
      where
        flows : (credit : Bool) (written handed now given : ℕ) → (x.part.remote ≢ 0 → has_credit x.part.flow ≡ false
            → now + min (to_hand x.part.flow) (length (drop n k.due)) ≡ written)
            → FlowIs x.part.flow credit written handed given → FlowIs (handed_to left x.part.flow) credit written now (given + 0)
        flows credit written handed now given sum f =
            let was : FlowIs (One window) credit written handed given = subst (λ (g : Flow). FlowIs g credit written handed given) e f in
            subst (λ (g : Flow). FlowIs (handed_to left g) credit written now (given + 0)) (sym e) (was.0, sum open_now (ap has_credit e))

        effect : (m : Made) → m.state.streams l ≡ less.streams l → m.state.clients x.client ≡ s.clients x.client
            → owed_to x.client m.told ≡ []
            → AreSilent l m.told → PutEffect l x k n m
        effect m rows clients owed silent = record {
          flow = handed_to left x.part.flow;
          back = 0;
          is = rows ∙ row_less;
          here = clients ∙ h.1;
          owed = owed;
          tally = tally_silent l x.link m.told silent;
          waits = ap (λ g. waiting (handed_to left g)) e ∙ sym (ap waiting e);
          lets = lets_handed left x.part.flow;
          flows = λ credit written handed now given opening sum f. flows credit written handed now given sum f;
        }

        go : (rest : ℕ) → min (to_hand x.part.flow) (length (drop n k.due)) ≡ rest
            → PutEffect l x k n (tells_handed (One window) rest l x less)
        go zero f = effect (owe_link x.link (okay_packet l x.part.remote) less) refl refl refl (okay_silent l l x.part.remote, tt)
        go (suc m) f = effect (quietly less) refl refl refl tt
    fewer (Credit c) e sound = go (credit_back left c) refl
      where
        small : credit_back (min (to_hand x.part.flow) (length (drop n k.due))) c < 2 ^ 32
        small = back_small left c sound (let own : to_hand x.part.flow ≡ c.to_hand = ap to_hand e in omega (arith, own))

        effect : (m : Made) → m.state.streams l ≡ less.streams l → m.state.clients x.client ≡ s.clients x.client
            → owed_to x.client m.told ≡ []
            → Tally l x.link m.told [] 0 (credit_back left c) → PutEffect l x k n m
        effect m rows clients owed tally = record {
          flow = handed_to left x.part.flow;
          back = credit_back left c;
          is = rows ∙ row_less;
          here = clients ∙ h.1;
          owed = owed;
          tally = tally;
          waits = ap (λ g. waiting (handed_to left g)) e ∙ sym (ap waiting e);
          lets = lets_handed left x.part.flow;
          flows = λ credit written handed now given opening sum f.
              let was : FlowIs (Credit c) credit written handed given = subst (λ (g : Flow). FlowIs g credit written handed given) e f in
              subst (λ (g : Flow). FlowIs (handed_to left g) credit written now (given + credit_back left c)) (sym e)
              (was.0, omega (arith, was.1));
        }

        go : (back : ℕ) → credit_back left c ≡ back → PutEffect l x k n (tells_credit back l x less)
        go zero f = effect (quietly less) refl refl refl (subst (λ (b : ℕ). Tally l x.link [] [] 0 b) (sym f)
            (record { bytes = refl; count = refl; given = refl }))
        go (suc b) f = effect (owe_link x.link (credit_packet l x.part.remote (suc b)) less) refl refl refl
            (subst (λ (i : ℕ). Tally l x.link (owe_link x.link (credit_packet l x.part.remote (suc b)) less).told [] 0 i) (sym f)
            (credit_tally l x (suc b) less (omega (arith, small, f))))

    hands_effect : PutEffect l x k n (stream_hands left l x s)
    hands_effect = go (eqb left (to_hand x.part.flow)) refl
      where
        go : (b : Bool) → eqb left (to_hand x.part.flow) ≡ b
            → PutEffect l x k n (cond b (quietly s) (tells_handed x.part.flow left l x less))
        go true e = all_left open_now (eqb-true left (to_hand x.part.flow) e)
        go false e = fewer x.part.flow refl sound

-- ---- the whole rule
module _ (l remote : ℕ) (k : Client) (devices : DeviceTable) where
  -- what may be put to the client of a stream is due to it
  due_some : (bytes : List ℕ) → (k.about.mark ≡ true → k.about.phase ≡ Tracking) → k.about.phase ≡ phase_for l remote
      → IsSomeOf bytes (offered devices k)
      → (due : List ℕ) → k.due ≡ due → due ≢ []
  due_some bytes mark phase may due is none = unmarked k.about.mark refl
    where
      tracking : (n : ℕ) → Tracking ≡ phase_for l n → ⊥
      tracking zero e = let clash : Tracking ≡ Opening l = e in cc
      tracking (suc n) e = let clash : Tracking ≡ Streaming l = e in cc

      -- nothing is offered
      no_front : bytes ≢ [] → IsPrefixOf bytes [] → ⊥
      no_front some front = some (front_nil bytes front)
        where
          front_nil : (xs : List ℕ) → IsPrefixOf xs [] → xs ≡ []
          front_nil [] f = refl
          front_nil (b ∷ xs) f = absurd (let clash : b ∷ (xs ++ f.0) ≡ [] = f.1 in cc)

      unmarked : (b : Bool) → k.about.mark ≡ b → ⊥
      unmarked true e = tracking remote (sym (mark e) ∙ phase)
      unmarked false e =
          let offers : offered devices k ≡ [] =
          ap (λ d. due_or d (list_if_stale devices k.about.mark k.about.long)) (is ∙ none)
          ∙ ap (λ b. list_if_stale devices b k.about.long) e in
          no_front may.some (subst (IsPrefixOf bytes) offers may.front)

-- the rest of what is due to a client with a stream
hands_own : (l remote n : ℕ) (k : Client) → k.about.phase ≡ phase_for l remote → hands n k ≡ Some (record k { due = drop n k.due })
hands_own l remote n k phase = ap (λ p. left_in p (drop n k.due) k) phase ∙ go remote
  where
    go : (m : ℕ) → left_in (phase_for l m) (drop n k.due) k ≡ Some (record k { due = drop n k.due })
    go zero = refl
    go (suc m) = refl

module _ (l : ℕ) (x : Stream) (s : State) (h : IsOwned s) (p : Pair l x s) (bytes : List ℕ)
    (may : MayPut s (s.clients x.client) bytes) where
  abbrev n : ℕ
  n = length bytes

  abbrev handed : State
  handed = to_client x.client (hands (length bytes)) s

  handed_client : (to_client x.client (hands (length bytes)) s).clients x.client
      ≡ Some (record p.client { due = drop (length bytes) p.client.due })
  handed_client = changed_here x.client (hands n) s.clients p.client p.here ∙ hands_own l x.part.remote n p.client p.phase

  -- one that waits for its device
  waiting_effect : x.part.remote ≡ 0 → PutEffect l x p.client (length bytes) (quietly (to_client x.client (hands (length bytes)) s))
  waiting_effect nil = record {
    flow = x.part.flow;
    back = 0;
    is = p.is;
    here = handed_client;
    owed = refl;
    tally = record { bytes = refl; count = refl; given = refl };
    waits = refl;
    lets = record { payloads = λ m held. refl; over = λ ended held. refl };
    flows = λ credit written before now given opening left f. flows x.part.flow credit written before now given (opening nil) f;
  }
    where
      flows : (flow : Flow) (credit : Bool) (written before now given : ℕ) → now ≡ before → FlowIs flow credit written before given
          → FlowIs flow credit written now (given + 0)
      flows (One window) credit written before now given same f = (f.0, omega (arith, same, f.1))
      flows (Credit c) credit written before now given same f = (f.0, omega (arith, f.1))

  left_effect : (remote : ℕ) → x.part.remote ≡ remote → PutEffect l x p.client (length bytes)
      (client_left (phase_for l remote) (length (drop
      (length bytes) p.client.due)) handed)
  left_effect zero e = waiting_effect e
  left_effect (suc m) e =
      subst (λ (o : Option Stream). PutEffect l x p.client n (stream_left (length (drop n p.client.due)) l o handed)) (sym p.is)
      (hands_effect l x p.client n handed (p.is, handed_client) (λ nil. omega (arith, e, nil)) (h.owned.stream l x p.is).sound)

  takes_effect : PutEffect l x p.client (length bytes) (takes_of x.client (length bytes) (s.clients x.client) s)
  takes_effect =
      subst (λ (o : Option Client). PutEffect l x p.client n (takes_of x.client n o s)) (sym p.here)
      (subst (λ (phase : Phase). PutEffect l x p.client n (client_left phase (length (drop n p.client.due)) handed)) (sym p.phase)
      (left_effect x.part.remote refl))

  pub puts_effect : PutEffect l x p.client (length bytes) (puts x.client (length bytes) s)
  puts_effect =
      subst (λ (o : Option Client). PutEffect l x p.client n (puts_to o x.client n s)) (sym p.here) (go p.client.due refl)
    where
      some : (due : List ℕ) → p.client.due ≡ due → due ≢ []
      some due e = due_some l x.part.remote p.client s.devices bytes (h.owned.client x.client p.client p.here).mark p.phase
          (subst (λ (o : Option Client). MayPut s o bytes) p.here may) due e

      go : (due : List ℕ) → p.client.due ≡ due
          → PutEffect l x p.client (length bytes) (then_also (lists_first x.client due p.client s) (λ s. takes_of x.client (length bytes)
          (s.clients x.client) s))
      go [] e = absurd (some [] e refl)
      go (c ∷ due) e =
          let r = takes_effect in
          record {
            flow = r.flow;
            back = r.back;
            is = r.is;
            here = r.here;
            owed = r.owed;
            tally = r.tally;
            waits =
                r.waits;
            lets = r.lets;
            flows = r.flows;
          }
