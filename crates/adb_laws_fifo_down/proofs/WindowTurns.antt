-- What is acknowledged was handed out: each turn of what is seen of a stream keeps it.
use Rattle.std.proofs.Common.{ℕ, ◌+◌, ◌-◌, ◌≡◌, ◌≤◌, zero, suc, Bool, true, false, List, ◌++◌, length, drop, min, Option, Some, None, refl}
use Rattle.std.proofs.Common.{sym, ◌∙◌, ap, subst}
use Rattle.std.proofs.Common.{arith}
use Rattle.std.proofs.lemmas.List.{length-append, length-drop}
use Rattle.adb_outside.specs.Bytes.{IsPrefixOf}
use Rattle.adb_outside.specs.declared.kinds.Cause.{Cause}
use Rattle.adb_wire.specs.declared.packets.Packet.{Packet}
use Rattle.adb_client.specs.declared.phase.Phase.{Phase}
use Rattle.adb_client.specs.declared.phase.Phase.TheVariants.{Opening, Streaming, Closing}
use Rattle.adb_history.specs.declared.ending.Ending.{Ending}
use Rattle.adb_history.specs.declared.ending.Ending.TheVariants.{ClientFailed}
use Rattle.adb_history.specs.Births as birth
use Rattle.adb_history.specs.Births.{opening_in, told_in, joined}
use Rattle.adb_laws_fifo_down.specs.Line.{Line, SeenStream, SeenClient, View, over}
use Rattle.adb_laws_fifo_down.specs.Turned.{row_fails, failed_by, stream_left_as, row_handed, handed_in, handed_out}
use Rattle.adb_laws_fifo_down.specs.Life.{Cradle, lead, heard, IsOpened, LivesAs, LivesIn, Life}
use Rattle.adb_laws_fifo_down.specs.Window.{handed_past, IsBackedBy, IsBacked, IsFlowing, IsUnused, FlowsBy, FlowAs, FlowIn, Window}
use Rattle.adb_laws_fifo_down.proofs.Openings.{pending_now}
use Rattle.adb_laws_fifo_down.proofs.Ups.{over_gone}
use Rattle.adb_laws_fifo_down.proofs.Lives.{tied_at, lives_at}
use Rattle.adb_laws_fifo_down.proofs.OpenTurns.{over_okays}
use Rattle.adb_laws_fifo_down.proofs.Backed.{backed_more}
use Rattle.adb_laws_fifo_down.proofs.Windows.{handed_count, handed_grows, left_sum, front_within, Handed, hands_some}

module _ (l : ℕ) (k : Cradle) where
  -- a stream that ended
  pub window_over : (packets : List Packet) (shut : Bool) (out : List ℕ) (v : View) (orphan : Bool) (ending : Ending)
      → Life l k packets shut out (over orphan ending v)
      → IsBacked (opening_in l packets) l k.credit v.okays (handed_past k out) → Window l k packets shut out (over orphan ending v)
  window_over packets shut out v orphan ending life backed = record {
    life = life;
    backed = subst (λ (ps : List Packet). IsBacked (opening_in l packets) l k.credit ps (handed_past k out))
        (sym (over_okays orphan ending v)) backed;
    flow = subst (λ (o : Option SeenStream). FlowIn o l k packets (over orphan ending v).okays (handed_past k out))
        (sym (over_gone orphan ending v)) tt;
  }

  -- ---- its client fails
  module _ (packets : List Packet) (shut : Bool) (out : List ℕ) (v : View) (w : Window l k packets shut out v)
      (a : SeenClient) (here : v.client ≡ Some a) where
    -- a stream that is asked for has no opening
    asked_unused : (x : SeenStream) (m : ℕ) → v.stream ≡ Some x → a.phase ≡ Opening m → (x.credit ≡ k.credit) × IsUnused x v.okays
    asked_unused x m there phase = (flow.0, by x.orphan x.remote (lives_at l k packets shut out v x there w.life) flow.1)
      where
        flow : (x.credit ≡ k.credit) × FlowAs x.orphan l k packets x v.okays (handed_past k out)
        flow = subst (λ (o : Option SeenStream). FlowIn o l k packets v.okays (handed_past k out)) there w.flow

        by : (orphan : Bool) (remote : ℕ) → LivesAs orphan remote l k packets (heard v)
            → FlowAs orphan l k packets x v.okays (handed_past k out)
            → IsUnused x v.okays
        by true remote i unused = unused
        by false zero i flows =
            subst (λ (o : Option birth.Opening). FlowsBy o l k x v.okays (handed_past k out)) (pending_now l packets i.pending) flows
        by false (suc r) i flows =
            let same : i.client ≡ a = (let both : Some i.client ≡ Some a = sym i.here ∙ here in cc) in
            let clash : Opening m ≡ Streaming l = sym phase ∙ (sym (ap (λ (c : SeenClient). c.phase) same) ∙ i.phase) in
            absurd (cc)

    fails_okays : (phase : Phase) (ending : Ending) (o : Option SeenStream) → (row_fails phase ending o v).okays ≡ v.okays
    fails_okays (Streaming m) ending (Some x) = refl
    fails_okays (Opening m) ending (Some x) = refl
    fails_okays (Streaming m) ending None = refl
    fails_okays (Opening m) ending None = refl
    fails_okays _ ending o = refl

    fails_flow : (phase : Phase) (ending : Ending) (o : Option SeenStream) → a.phase ≡ phase → v.stream ≡ o
        → FlowIn (row_fails phase ending o v).stream l k packets v.okays (handed_past k out)
    fails_flow (Streaming m) ending (Some x) is there = tt
    fails_flow (Opening m) ending (Some x) is there =
        let u = asked_unused x m there is in (u.0, record { none = u.1.none; to_hand = u.1.to_hand; gathered = u.1.gathered })
    fails_flow _ ending _ is there = w.flow

    pub window_fails : (cause : Cause) → Life l k packets shut out (failed_by cause a v) → Window l k packets shut out (failed_by cause a v)
    window_fails cause life = record {
      life = life;
      backed = subst (λ (ps : List Packet). IsBacked (opening_in l packets) l k.credit ps (handed_past k out))
          (sym (fails_okays a.phase (ClientFailed cause) v.stream)) w.backed;
      flow = subst (λ (ps : List Packet). FlowIn (failed_by cause a v).stream l k packets ps (handed_past k out))
          (sym (fails_okays a.phase (ClientFailed cause) v.stream)) (fails_flow a.phase (ClientFailed cause) v.stream refl refl);
    }

  -- ---- bytes are handed out to its client
  module _ (packets : List Packet) (shut : Bool) (out bytes : List ℕ) (v : View) (w : Window l k packets shut out v)
      (a : SeenClient) (here : v.client ≡ Some a)
      (front : IsPrefixOf bytes a.due) where
    abbrev due_now : List ℕ
    due_now = drop (length bytes) a.due

    abbrev seen_now : View
    seen_now = record v { client = Some (record a { due = due_now }) }

    more : handed_past k out ≤ handed_past k (out ++ bytes)
    more = handed_grows k out bytes

    backed_now : IsBacked (opening_in l packets) l k.credit v.okays (handed_past k (out ++ bytes))
    backed_now = backed_more (opening_in l packets) l k.credit v.okays (handed_past k out) (handed_past k (out ++ bytes)) more w.backed

    -- its stream is open
    open_hands : (r : ℕ) (x : SeenStream) → v.stream ≡ Some x → x.orphan ≡ false → IsOpened (suc r) l k packets (heard v)
        → Life l k packets shut (out ++ bytes) (stream_left_as (min x.to_hand (length due_now)) l x seen_now)
        → Window l k packets shut (out ++ bytes) (stream_left_as (min x.to_hand (length due_now)) l x seen_now)
    open_hands r x there owned o life = record {
      life = life;
      backed = subst (λ (p : Option birth.Opening). IsBacked p l k.credit after.okays (handed_past k (out ++ bytes)))
          (sym o.opened) made.backed;
      flow = subst (λ (p : Option SeenStream). FlowIn p l k packets after.okays (handed_past k (out ++ bytes))) (sym made.stream) (
        made.credit ∙ row.0,
        subst (λ (c : Bool). FlowAs c l k packets made.row after.okays (handed_past k (out ++ bytes))) (sym (made.orphan ∙ owned))
            (subst (λ (p : Option birth.Opening). FlowsBy p l k made.row after.okays (handed_past k (out ++ bytes)))
            (sym o.opened) made.flowing),
      );
    }
      where
        told : List (List ℕ)
        told = told_in o.opening.remote l o.opening.later

        after : View
        after = stream_left_as (min x.to_hand (length (drop (length bytes) a.due))) l x seen_now

        row : (x.credit ≡ k.credit) × FlowAs x.orphan l k packets x v.okays (handed_past k out)
        row = subst (λ (p : Option SeenStream). FlowIn p l k packets v.okays (handed_past k out)) there w.flow

        flowing : IsFlowing k x (told_in o.opening.remote l o.opening.later) v.okays (handed_past k out)
        flowing =
            subst (λ (p : Option birth.Opening). FlowsBy p l k x v.okays (handed_past k out)) o.opened
            (subst (λ (c : Bool). FlowAs c l k packets x v.okays (handed_past k out)) owned row.1)

        backed : IsBackedBy k.credit (told_in o.opening.remote l o.opening.later) v.okays (handed_past k out)
        backed = subst (λ (p : Option birth.Opening). IsBacked p l k.credit v.okays (handed_past k out)) o.opened w.backed

        due_is : v.output ≡ out ++ a.due
        due_is = tied_at v.client a v.output out here w.life.tied

        sum : min x.to_hand (length (drop (length bytes) a.due)) + handed_past k (out ++ bytes)
            ≡ length (joined (told_in o.opening.remote l o.opening.later))
        sum =
            let lengths : length (lead k) + length (joined (told_in o.opening.remote l o.opening.later)) ≡ length out + length a.due =
            sym (length-append (lead k) (joined (told_in o.opening.remote l o.opening.later)))
            ∙ (ap length (sym o.output ∙ due_is) ∙ length-append out a.due) in
            let now = left_sum x.to_hand (length (joined (told_in o.opening.remote l o.opening.later)))
            (length (lead k)) (length out) (length a.due)
            (length bytes) (ap (λ (n : ℕ). x.to_hand + n) (sym (handed_count k out)) ∙ flowing.left) lengths
            (front_within bytes a.due front) in
            let due : length (drop (length bytes) a.due) ≡ length a.due - length bytes = length-drop (length bytes) a.due in
            let count : handed_past k (out ++ bytes) ≡ length out + length bytes - length (lead k) =
            handed_count k (out ++ bytes) ∙ ap (λ (n : ℕ). n - length (lead k)) (length-append out bytes) in
            ap (λ (n : ℕ). min x.to_hand n + handed_past k (out ++ bytes)) due
            ∙ (ap (λ (n : ℕ). min x.to_hand (length a.due - length bytes) + n) count ∙ now)

        made : Handed l k (told_in o.opening.remote l o.opening.later) x (handed_past k (out ++ bytes))
            (stream_left_as (min x.to_hand (length (drop (length bytes) a.due))) l x seen_now)
        made =
            hands_some l k (told_in o.opening.remote l o.opening.later) x seen_now there row.0 (handed_past k out)
            (handed_past k (out ++ bytes)) flowing backed
            more (min x.to_hand (length (drop (length bytes) a.due))) (omega arith) sum

    pub window_hands : (b : Line) → b.id ≡ l → Life l k packets shut (out ++ bytes) (handed_out b (length bytes) a v)
        → Window l k packets shut (out ++ bytes) (handed_out b (length bytes) a v)
    window_hands b id_is life =
        subst (λ (m : ℕ). Window l k packets shut (out ++ bytes) (handed_in a.phase m (length bytes) a v)) (sym id_is)
        (by v.stream refl w.life.lives
        (subst (λ (m : ℕ). Life l k packets shut (out ++ bytes) (handed_in a.phase m (length bytes) a v)) id_is
        life))
      where
        -- the client of a stream that is not open
        plain : (phase : Phase) → a.phase ≡ phase
            → ((u : View) → u.okays ≡ v.okays → u.stream ≡ v.stream → Life l k packets shut (out ++ bytes) u
            → Window l k packets shut (out ++ bytes) u)
            → (handed_in phase l (length bytes) a v).okays ≡ v.okays → (handed_in phase l (length bytes) a v).stream ≡ v.stream
            → Life l k packets shut (out ++ bytes) (handed_in a.phase l (length bytes) a v)
            → Window l k packets shut (out ++ bytes) (handed_in a.phase l (length bytes) a v)
        plain phase is make okays stream life =
            subst (λ (p : Phase). Window l k packets shut (out ++ bytes) (handed_in p l (length bytes) a v)) (sym is)
            (make (handed_in phase l (length bytes) a v) okays stream
            (subst (λ (p : Phase). Life l k packets shut (out ++ bytes) (handed_in p l (length bytes) a v)) is life))

        -- a flow that does not hang on what was handed out
        make_unused : (x : SeenStream) → v.stream ≡ Some x → ((n : ℕ) → FlowAs x.orphan l k packets x v.okays n)
            → (u : View) → u.okays ≡ v.okays
            → u.stream ≡ v.stream → Life l k packets shut (out ++ bytes) u → Window l k packets shut (out ++ bytes) u
        make_unused x there flows u okays stream life = record {
          life = life;
          backed = subst
              (λ (ps : List Packet). IsBacked (opening_in l packets) l k.credit ps (handed_past k (out ++ bytes)))
              (sym okays) backed_now;
          flow = subst (λ (ps : List Packet). FlowIn u.stream l k packets ps (handed_past k (out ++ bytes))) (sym okays)
              (subst (λ (o : Option SeenStream). FlowIn o l k packets v.okays (handed_past k (out ++ bytes)))
              (sym (stream ∙ there)) (credit, flows _));
        }
          where
            credit : x.credit ≡ k.credit
            credit = (subst (λ (o : Option SeenStream). FlowIn o l k packets v.okays (handed_past k out)) there w.flow).0

        its_phase : (phase : Phase) (c : SeenClient) → v.client ≡ Some c → c.phase ≡ phase → a.phase ≡ phase
        its_phase phase c is e =
            let same : c ≡ a = (let both : Some c ≡ Some a = sym is ∙ here in cc) in
            sym (ap (λ (x : SeenClient). x.phase) same) ∙ e

        alive : (x : SeenStream) (orphan : Bool) (remote : ℕ) → v.stream ≡ Some x → x.orphan ≡ orphan
            → LivesAs orphan remote l k packets (heard v)
            → Life l k packets shut (out ++ bytes) (handed_in a.phase l (length bytes) a v)
            → Window l k packets shut (out ++ bytes) (handed_in a.phase l (length bytes) a v)
        alive x true remote there is_orphan i life = absurd (let clash : None ≡ Some a = sym i.gone ∙ here in cc)
        alive x false zero there is_owned i life =
            plain (Opening l) (its_phase (Opening l) i.client i.here i.phase) (make_unused x there (λ n. unused n)) refl refl life
          where
            unused : (n : ℕ) → FlowAs x.orphan l k packets x v.okays n
            unused n =
                let flow = (subst (λ (o : Option SeenStream). FlowIn o l k packets v.okays (handed_past k out)) there w.flow).1 in
                let none = pending_now l packets i.pending in
                subst (λ (c : Bool). FlowAs c l k packets x v.okays n) (sym is_owned)
                (subst (λ (o : Option birth.Opening). FlowsBy o l k x v.okays n) (sym none)
                (subst (λ (o : Option birth.Opening). FlowsBy o l k x v.okays (handed_past k out)) none
                (subst (λ (c : Bool). FlowAs c l k packets x v.okays (handed_past k out)) is_owned flow)))
        alive x false (suc r) there is_owned i life =
            let phase : a.phase ≡ Streaming l = its_phase (Streaming l) i.client i.here i.phase in
            let now : Life l k packets shut (out ++ bytes) (stream_left_as (min x.to_hand (length due_now)) l x seen_now) =
            subst (λ (o : Option SeenStream). Life l k packets shut (out ++ bytes) (row_handed (length due_now) l o seen_now)) there
            (subst (λ (p : Phase). Life l k packets shut (out ++ bytes) (handed_in p l (length bytes) a v)) phase life) in
            subst (λ (p : Phase). Window l k packets shut (out ++ bytes) (handed_in p l (length bytes) a v)) (sym phase)
            (subst (λ (o : Option SeenStream). Window l k packets shut (out ++ bytes)
            (row_handed (length due_now) l o seen_now)) (sym there)
            (open_hands r x there is_owned i now))

        by : (o : Option SeenStream) → v.stream ≡ o → LivesIn o l k packets shut (heard v)
            → Life l k packets shut (out ++ bytes) (handed_in a.phase l (length bytes) a v)
            → Window l k packets shut (out ++ bytes) (handed_in a.phase l (length bytes) a v)
        by None none i life = plain Closing (i.0 a here) (λ u okays stream life. record {
          life = life;
          backed = subst
              (λ (ps : List Packet). IsBacked (opening_in l packets) l k.credit ps (handed_past k (out ++ bytes)))
              (sym okays) backed_now;
          flow = subst (λ (o : Option SeenStream). FlowIn o l k packets u.okays (handed_past k (out ++ bytes))) (sym (stream ∙ none)) tt;
        }) refl refl life
        by (Some x) there i life = alive x x.orphan x.remote there refl i life
