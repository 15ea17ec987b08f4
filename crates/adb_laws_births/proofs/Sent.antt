-- What is sent to each link is a front of what became due to it, in packets.
use Rattle.std.proofs.Common.{ℕ, ◌^◌, ◌≡◌, ◌<◌, ◌≤◌, zero, suc, Bool, true, false, cond, All, List, [], ◌∷◌, ◌++◌, Option, Some, None, refl}
use Rattle.std.proofs.Common.{sym, ap, subst}
use Rattle.std.proofs.Common.{◌∙◌, inl, inr}
use Rattle.std.proofs.Common.{arith, eqb, append_assoc}
use Rattle.std.specs.Prelude.{nat_lt, slice_get, ◌==◌, ◌||◌}
use Rattle.std.proofs.lemmas.Bool.{eq-eqb, eqb-true}
use Rattle.std.proofs.lemmas.Bool.Decides.{nat_tests}
use Rattle.std.proofs.lemmas.List.Elements.{All-nil, All-append, All-weaker, All-contains}
use Rattle.adb_outside.specs.Bytes.{IsPrefixOf}
use Rattle.adb_outside.specs.Framing.{Cut}
use Rattle.adb_wire.specs.Header.{byte_sum_of}
use Rattle.adb_wire.specs.Format.{is_cnxn, may_carry, format_after, has_sums}
use Rattle.adb_wire.specs.Cutting.{framed}
use Rattle.adb_wire.specs.declared.command.Command.{Command}
use Rattle.adb_wire.specs.declared.command.Command.TheVariants.{Cnxn, Open, Okay, Wrte, Clse, Auth, Stls}
use Rattle.adb_wire.specs.declared.packets.Packet.{Packet}
use Rattle.adb_wire.specs.declared.format.PacketFault.{PacketFault}
use Rattle.adb_wire.specs.declared.format.PacketFormat.{PacketFormat}
use Rattle.adb_stream.specs.declared.credit.TheConstants.{CREDIT_WINDOW}
use Rattle.adb_capture.specs.declared.entry.Entry.{Entry}
use Rattle.adb_capture.specs.declared.entry.Entry.TheVariants.{Send}
use Rattle.adb_history.specs.Rows.{Link}
use Rattle.adb_history.specs.Events.{Event, due_to_client, due_to_link, ended, spelled_to}
use Rattle.adb_history.specs.Links.{server_cnxn}
use Rattle.adb_history.specs.Streams.{stream_ids}
use Rattle.adb_history.specs.Machine.{History, state, told, told_at, MaySend, IsLegal}
use Rattle.adb_history.specs.Bytes.{bytes_sent, brought, sent}
use Rattle.adb_history.specs.Births.{Birth, births, born}
use Rattle.adb_history.specs.Fifo.{IsOf, IsOpenOf, IsRefusal, IsOwn, SendsPackets}
use Rattle.adb_history.specs.Lives.{packets_of}
use Rattle.adb_history.proofs.Growing.{spelled_append}
use Rattle.adb_history.proofs.OutputEntries.{all_due_past_sent}
use Rattle.adb_laws_births.specs.Brought.{ComeFirst, framed_front, framed_fault, HasWords, brought_words, remote_word}
use Rattle.adb_laws_births.specs.Sending.{IsRight, IsRightEvent}
use Rattle.adb_laws_births.proofs.Born.{all_born}
use Rattle.adb_laws_births.proofs.Owing.{right_later, told_right}
use Rattle.adb_laws_births.proofs.Services.{births_short}
use Rattle.adb_laws_births.proofs.Framed.{plain, IsReadPlainly, IsReadEvent, spelled_cut}

-- ---- all that became due is right
pub all_right : (h : History) → IsLegal h → All (IsRightEvent h) (told h)
all_right [] legal = All-nil (IsRightEvent [])
all_right (e ∷ older) legal =
    All-append (IsRightEvent (e ∷ older)) (told older) (told_at e older)
    (All-weaker (IsRightEvent older) (IsRightEvent (e ∷ older)) (right_later e older) (told older) (all_right older legal.0))
    (told_right older legal.0 (all_born older legal.0) e legal (births_short e older legal))

-- ---- the numbers of what is right
-- an id is a word
pub born_below : (l : ℕ) (h : History) (b : Birth) → born l h ≡ Some b → l ≤ stream_ids
born_below zero h b is = omega arith
born_below (suc k) h b is = go (nat_lt k stream_ids) refl is
  where
    go : (c : Bool) → nat_lt k stream_ids ≡ c → cond c (slice_get (births h) k) None ≡ Some b → suc k ≤ stream_ids
    go true e here = grind (arith, nat_tests)
    go false e here = absurd (let clash : None ≡ Some b = here in cc)

carries_other : (command : Command) (check total : ℕ) → is_cnxn command ≡ false → may_carry false command check total ≡ true
carries_other Cnxn check total e = absurd (let clash : true ≡ false = e in cc)
carries_other _ check total e = refl

window_word : (credit : Bool) → cond credit CREDIT_WINDOW 0 < 2 ^ 32
window_word true = omega arith
window_word false = omega arith

module _ (h : History) (legal : IsLegal h) (t : ℕ) (p : Packet) (check : ℕ) (right : IsRight h t p check) where
  -- a packet that is no CNXN
  plain_other : is_cnxn p.command ≡ false → p.arg0 < 2 ^ 32 → p.arg1 < 2 ^ 32 → IsReadPlainly p check
  plain_other other arg0 arg1 = record {
    head = record { arg0 = arg0; arg1 = arg1; size = right.short.size; check = right.short.word };
    carries = carries_other p.command check (byte_sum_of p.payload) other;
    after = ap (λ (b : Bool). cond b (record { sums = has_sums p.arg0 }) plain) other;
  }

  plain_cnxn : p.command ≡ Cnxn → p ≡ server_cnxn → IsReadPlainly p check
  plain_cnxn cnxn is =
      let version : p.arg0 ≡ server_cnxn.arg0 = ap (λ (q : Packet). q.arg0) is in
      let maxdata : p.arg1 ≡ server_cnxn.arg1 = ap (λ (q : Packet). q.arg1) is in
      record {
        head = record { arg0 = omega (arith, version); arg1 = omega (arith, maxdata); size = right.short.size; check = right.short.word };
        carries = ap (λ (n : ℕ). may_carry false p.command n (byte_sum_of p.payload)) (right.sum cnxn)
            ∙ own_sum p.command (byte_sum_of p.payload);
        after = ap (format_after plain) is;
      }
    where
      or_true : (b : Bool) → (b || true) ≡ true
      or_true true = refl
      or_true false = refl

      own_sum : (command : Command) (total : ℕ) → may_carry false command total total ≡ true
      own_sum Cnxn total = ap (λ (b : Bool). (total == 0) || b) (eq-eqb total total refl) ∙ or_true (total == 0)
      own_sum _ total = refl

  id_word : (b : Birth) → born p.arg0 h ≡ Some b → p.arg0 < 2 ^ 32
  id_word b is = omega (arith, born_below p.arg0 h b is)

  plain_of : is_cnxn p.command ≡ false → IsOf h t p → IsReadPlainly p check
  plain_of other x = plain_other other (id_word x.birth x.is) (omega (arith, x.remote, remote_word p.arg0 x.birth h legal))

  plain_open : is_cnxn p.command ≡ false → IsOpenOf h t p → IsReadPlainly p check
  plain_open other x =
      let window : p.arg1 ≡ cond x.birth.credit CREDIT_WINDOW 0 = ap (λ (q : Packet). q.arg1) x.packet in
      plain_other other (id_word x.birth x.is) (omega (arith, window, window_word x.birth.credit))

  plain_refusal : is_cnxn p.command ≡ false → IsRefusal h t p → IsReadPlainly p check
  plain_refusal other x =
      let words : HasWords x.asked = All-contains HasWords (brought t h) x.asked (brought_words t h legal) x.came in
      let none : p.arg0 ≡ 0 = ap (λ (q : Packet). q.arg0) x.packet in
      plain_other other (omega (arith, none)) (omega (arith, x.id, words.arg0))

  plain_own : (command : Command) → p.command ≡ command → IsOwn h t command p → IsReadPlainly p check
  plain_own Cnxn is own = plain_cnxn is own
  plain_own Open is own = plain_open (ap is_cnxn is) own
  plain_own Okay is own = plain_of (ap is_cnxn is) own
  plain_own Wrte is own = plain_of (ap is_cnxn is) own
  plain_own Clse is (inl own) = plain_of (ap is_cnxn is) own
  plain_own Clse is (inr own) = plain_refusal (ap is_cnxn is) own
  plain_own Auth is own = absurd own
  plain_own Stls is own = absurd own

read_event : (h : History) (legal : IsLegal h) (e : Event) → IsRightEvent h e → IsReadEvent e
read_event h legal (due_to_client client bytes) right = tt
read_event h legal (due_to_link t p check) right = plain_own h legal t p check right p.command refl right.own
read_event h legal (ended stream ending) right = tt

-- What is spelled for a link is framed to its packets.
pub framed_told : (h : History) → IsLegal h → (t : ℕ)
    → framed (spelled_to t (told h)) ≡ record { given = packets_of t h; reading = plain; rest = []; fault = None }
framed_told h legal t =
    spelled_cut t (told h) (All-weaker (IsRightEvent h) IsReadEvent (read_event h legal) (told h) (all_right h legal))

-- ---- what is sent comes first in what became due
more_spelled : (t : ℕ) (e : Entry) (older : History) → IsPrefixOf (bytes_sent t older) (spelled_to t (told older))
    → IsPrefixOf (bytes_sent t older) (spelled_to t (told (e ∷ older)))
more_spelled t e older first = (
  first.0 ++ spelled_to t (told_at e older),
  sym (append_assoc (bytes_sent t older) first.0 (spelled_to t (told_at e older)))
      ∙ (ap (λ x. x ++ spelled_to t (told_at e older)) first.1 ∙ sym (spelled_append t (told older) (told_at e older))),
)

sends_more : (t : ℕ) (bytes : List ℕ) (older : History) (e : Entry) → IsLegal older → MaySend ((state older).links t) bytes
    → IsPrefixOf (bytes_sent t older ++ bytes) (spelled_to t (told (e ∷ older)))
sends_more t bytes older e legal may = go ((state older).links t) refl may
  where
    go : (o : Option Link) → (state older).links t ≡ o → MaySend o bytes
        → IsPrefixOf (bytes_sent t older ++ bytes) (spelled_to t (told (e ∷ older)))
    go None is may = absurd may
    go (Some link) is may =
        let due : spelled_to t (told older) ≡ bytes_sent t older ++ link.due = all_due_past_sent older legal t link is in
        let here : (bytes_sent t older ++ bytes) ++ may.front.0 ≡ spelled_to t (told older) =
        append_assoc (bytes_sent t older) bytes may.front.0 ∙ (ap (λ x. bytes_sent t older ++ x) may.front.1 ∙ sym due) in (
          may.front.0 ++ spelled_to t (told_at e older),
          sym (append_assoc (bytes_sent t older ++ bytes) may.front.0 (spelled_to t (told_at e older)))
              ∙ (ap (λ x. x ++ spelled_to t (told_at e older)) here ∙ sym (spelled_append t (told older) (told_at e older))),
        )

-- What was sent to a link comes first in what ever became due to it.
pub sent_first : (h : History) → IsLegal h → (t : ℕ) → IsPrefixOf (bytes_sent t h) (spelled_to t (told h))
sent_first [] legal t = ([], refl)
sent_first (Send n bytes ∷ older) legal t = go (eqb n t) refl (more_spelled t (Send n bytes) older (sent_first older legal.0 t))
  where
    go : (b : Bool) → eqb n t ≡ b → IsPrefixOf (bytes_sent t older) (spelled_to t (told (Send n bytes ∷ older)))
        → IsPrefixOf (cond b (bytes_sent t older ++ bytes) (bytes_sent t older)) (spelled_to t (told (Send n bytes ∷ older)))
    go true e first = sends_more t bytes older (Send n bytes) legal.0
        (subst (λ (k : ℕ). MaySend ((state older).links k) bytes) (eqb-true n t e) legal.2)
    go false e first = first
sent_first (e ∷ older) legal t = more_spelled t e older (sent_first older legal.0 t)

-- And so do its packets.
pub sent_packets_first : (h : History) → IsLegal h → (t : ℕ) → ComeFirst (sent t h) (packets_of t h)
sent_packets_first h legal t =
    let first = sent_first h legal t in
    let front : ComeFirst (sent t h) (framed (bytes_sent t h ++ first.0)).given = framed_front (bytes_sent t h) first.0 in (
      front.0,
      front.1 ∙ (ap (λ (x : List ℕ). (framed x).given) first.1
          ∙ ap (λ (c : Cut PacketFormat Packet PacketFault). c.given) (framed_told h legal t)),
    )

-- What is sent to each link is packets.
pub all_packets : (h : History) → IsLegal h → SendsPackets h
all_packets h legal t = go (framed (bytes_sent t h)).fault refl
  where
    first : IsPrefixOf (bytes_sent t h) (spelled_to t (told h))
    first = sent_first h legal t

    go : (fault : Option PacketFault) → (framed (bytes_sent t h)).fault ≡ fault → (framed (bytes_sent t h)).fault ≡ None
    go None sound = sound
    go (Some fault) broken =
        let stays = framed_fault (bytes_sent t h) (sent_first h legal t).0 fault broken in
        let none : (framed (spelled_to t (told h))).fault ≡ None =
        ap (λ (c : Cut PacketFormat Packet PacketFault). c.fault) (framed_told h legal t) in
        let clash : Some fault ≡ None = sym stays ∙ (ap (λ (x : List ℕ). (framed x).fault) (sent_first h legal t).1 ∙ none) in
        absurd cc
