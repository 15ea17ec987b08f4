-- What every entry draws, and what every stream that is there after it was before.
use Rattle.std.proofs.Common.{◌≡◌, ◌≢◌, ℕ, ◌+◌, Bool, true, false, cond, List, [], ◌∷◌, ◌++◌, Option, Some, None, refl, sym, ap, subst, ◌∙◌}
use Rattle.std.proofs.Common.{◌⊎◌}
use Rattle.std.proofs.Common.{inl, inr, eqb, arith}
use Rattle.std.proofs.lemmas.Bool.{eqb-true, eqb-false}
use Rattle.std.proofs.lemmas.List.{append-nil}
use Rattle.std.specs.Option.{option_or}
use Rattle.adb_outside.specs.Framing.{Cut}
use Rattle.adb_outside.specs.declared.kinds.Kind.{Kind}
use Rattle.adb_wire.specs.Cutting.{framed}
use Rattle.adb_wire.specs.declared.packets.Packet.{Packet}
use Rattle.adb_wire.specs.declared.format.PacketFault.{PacketFault}
use Rattle.adb_wire.specs.declared.format.PacketFormat.{PacketFormat}
use Rattle.adb_stream.specs.Flow.{new_flow, has_credit}
use Rattle.adb_stream.specs.Stream.{new_stream}
use Rattle.adb_stream.specs.declared.row.Stream.{Stream}
use Rattle.adb_capture.specs.declared.entry.Entry.{Entry}
use Rattle.adb_capture.specs.declared.entry.Entry.TheVariants.{Attach, Recv, Send}
use Rattle.adb_history.specs.Rows.{Link, State}
use Rattle.adb_history.specs.Events.{ending_in}
use Rattle.adb_history.specs.declared.ending.Ending.{Ending}
use Rattle.adb_history.specs.Packets.{receives_on}
use Rattle.adb_history.specs.Machine.{History, state, told, told_at, rule, ups, step, IsLegal}
use Rattle.adb_history.specs.Bytes.{bytes_sent, brought, sent}
use Rattle.adb_history.specs.Births.{Birth, births_at}
use Rattle.adb_history.proofs.Linking.{credit_new}
use Rattle.adb_laws_births.specs.Going.{Was, GoOn, Goes}
use Rattle.adb_laws_births.specs.Hearing.{Heard, AllHear}
use Rattle.adb_laws_births.specs.Drawing.{with_drawn, Draws, Opens, Makes}
use Rattle.adb_laws_births.specs.Births.{born_stays}
use Rattle.adb_laws_births.specs.Born.{AreBorn}
use Rattle.adb_laws_births.specs.Brought.{ComeFirst, come_first_same, framed_front, brought_grows, opening_grows, remote_grows}
use Rattle.adb_laws_births.specs.Laws.{DrawsBy, CameFrom, CameNow, DrawsAtMostOne, BringsCut, SendsFirst, GoesOn}
use Rattle.adb_laws_births.proofs.Going.{go_on_same, go_on_then}
use Rattle.adb_laws_births.proofs.Treating.{heard_still}
use Rattle.adb_laws_births.proofs.Drawing.{makes_goes}
use Rattle.adb_laws_births.proofs.Rules.{entry_makes}
use Rattle.adb_laws_births.proofs.Receiving.{cut_now, brought_other, brought_more, none_on, hears_cut, hear_on}
use Rattle.adb_laws_births.proofs.Born.{goes_ups, all_born}
use Rattle.adb_laws_births.proofs.Ending.{ending_append}
use Rattle.adb_laws_births.proofs.Once.{packets_append, recv_same}
use Rattle.adb_laws_births.proofs.Sent.{framed_told, sent_first, sent_packets_first}

-- ---- what a link brings
pub brings_cut : (t : ℕ) (bytes : List ℕ) (older : History) → IsLegal older → BringsCut t bytes older
brings_cut t bytes older legal = record {
  cut = λ link is. brought_more older legal t bytes link is;
  gone = λ none l stream is. none_on older legal t bytes none l stream is;
  other = λ k apart. brought_other older legal t bytes k apart;
}

-- ---- what is sent to a link
pub sends_first : (h : History) → IsLegal h → (t : ℕ) → SendsFirst h t
sends_first h legal t =
    let all = framed_told h legal t in
    let first = sent_first h legal t in
    record {
      packets = ap (λ (c : Cut PacketFormat Packet PacketFault). c.given) all;
      whole = ap (λ (c : Cut PacketFormat Packet PacketFault). c.rest) all;
      sound = ap (λ (c : Cut PacketFormat Packet PacketFault). c.fault) all;
      rest = first.0;
      bytes = first.1;
      first = sent_packets_first h legal t;
    }

-- ---- what an entry draws
module _ (e : Entry) (older : History) where
  abbrev s : State
  s = state older

  abbrev next : State
  next = state (e ∷ older)

  -- nothing is heard by the entry
  from_going : ((t : ℕ) → brought t (e ∷ older) ≡ brought t older) → GoOn s.streams next.streams
      → (l : ℕ) (stream : Stream) → next.streams l ≡ Some stream → CameFrom e older l stream
  from_going same go l stream is = record {
    packets = [];
    brought_is = same stream.link ∙ sym (append-nil (brought stream.link older));
    heard = heard_still stream.link l (s.streams l) stream (go l stream is);
  }

  goes_draws : births_at e older ≡ [] → ((t : ℕ) → brought t (e ∷ older) ≡ brought t older) → next.drawn ≡ s.drawn
      → GoOn s.streams next.streams
      → DrawsAtMostOne e older
  goes_draws none same drawn go = record {
    number = subst (DrawsBy s.drawn next.drawn) (sym none) drawn;
    rows = λ l stream is. inl (from_going same go l stream is);
  }

  module _ (same : (t : ℕ) → brought t (e ∷ older) ≡ brought t older) (b : AreBorn older) (x : Birth)
      (at_e : births_at e older ≡ x ∷ []) where
    drawn_from : Draws s.streams s.drawn x (step s e) → (l : ℕ) (stream : Stream) → next.streams l ≡ Some stream
        → CameFrom e older l stream ⊎ CameNow e older l stream
    drawn_from d l stream is = go (eqb (s.drawn + 1) l) refl
      where
        new : Stream
        new = new_stream (s.drawn + 1) x.client x.link (new_flow x.credit)

        was : Was (with_drawn s.drawn x s.streams l) stream
        was = d.rows l stream is

        go : (c : Bool) → eqb (s.drawn + 1) l ≡ c → CameFrom e older l stream ⊎ CameNow e older l stream
        go true on =
            let here : Some (new_stream (s.drawn + 1) x.client x.link (new_flow x.credit)) ≡ Some was.stream =
            sym (ap (λ (c : Bool). cond c (Some (new_stream (s.drawn + 1) x.client x.link (new_flow x.credit)))
            (s.streams l)) on) ∙ was.is in
            let row : new_stream (s.drawn + 1) x.client x.link (new_flow x.credit) ≡ was.stream = cc in
            let number : s.drawn + 1 ≡ l = eqb-true (s.drawn + 1) l on in
            inr (record {
              birth = x;
              at = at_e;
              number = sym number;
              drawn = record {
                id = was.same.id ∙ (ap (λ (y : Stream). y.id) (sym row) ∙ number);
                client = was.same.client ∙ ap (λ (y : Stream). y.client) (sym row);
                link = was.same.link ∙ ap (λ (y : Stream). y.link) (sym row);
                remote = was.same.remote ∙ ap (λ (y : Stream). y.part.remote) (sym row);
                credit = was.same.credit ∙ (ap (λ (y : Stream). has_credit y.part.flow) (sym row) ∙ credit_new x.credit);
              };
            })
        go false off =
            let there : s.streams l ≡ Some was.stream =
            sym (ap (λ (c : Bool). cond c (Some (new_stream (s.drawn + 1) x.client x.link (new_flow x.credit)))
            (s.streams l)) off) ∙ was.is in
            inl (record {
              packets = [];
              brought_is = same stream.link ∙ sym (append-nil (brought stream.link older));
              heard = heard_still stream.link l (s.streams l) stream (record { stream = was.stream; is = there; same = was.same });
            })

    opens_draws : Opens s.streams s.drawn x (step s e) → DrawsAtMostOne e older
    opens_draws (inl full) = record {
      number = subst (DrawsBy s.drawn next.drawn) (sym at_e) (inl (full.0, full.1.drawn_is));
      rows = λ l stream is. inl (from_going same full.1.rows l stream is);
    }
    opens_draws (inr some) = record {
      number = subst (DrawsBy s.drawn next.drawn) (sym at_e) (inr (omega (arith, some.0, b.drawn), some.1.drawn_is));
      rows = drawn_from some.1;
    }

  makes_draws : ((t : ℕ) → brought t (e ∷ older) ≡ brought t older) → AreBorn older → (bs : List Birth) → births_at e older ≡ bs
      → Makes s.streams s.drawn bs (step s e) → DrawsAtMostOne e older
  makes_draws same b [] is h = goes_draws is same h.drawn_is h.rows
  makes_draws same b (x ∷ []) is h = opens_draws same b x is h
  makes_draws same b (x ∷ y ∷ bs) is h = absurd h

module _ (older : History) (legal : IsLegal older) where
  abbrev now : State
  now = state older

  rule_draws : (e : Entry) → IsLegal (e ∷ older) → ((t : ℕ) → brought t (e ∷ older) ≡ brought t older)
      → Makes now.streams now.drawn (births_at e older) (rule e now) → DrawsAtMostOne e older
  rule_draws e l same h = makes_draws e older same (all_born older legal) (births_at e older) refl
      (makes_goes now.streams now.drawn (births_at e older) (rule e now) ups h (goes_ups older legal e l))

  attach_draws : (t : ℕ) (kind : Kind) (serial : List ℕ) → IsLegal (Attach t kind serial ∷ older)
      → DrawsAtMostOne (Attach t kind serial) older
  attach_draws t kind serial l =
      let goes = goes_ups older legal (Attach t kind serial) l in
      goes_draws (Attach t kind serial) older refl (λ k. refl) goes.drawn_is goes.rows

  module _ (t : ℕ) (bytes : List ℕ) (l : IsLegal (Recv t bytes ∷ older)) where
    abbrev later : State
    later = state (Recv t bytes ∷ older)

    up_goes : Goes (rule (Recv t bytes) now).state.streams (rule (Recv t bytes) now).state.drawn (ups (rule (Recv t bytes) now).state)
    up_goes = goes_ups older legal (Recv t bytes) l

    recv_draws : later.drawn ≡ now.drawn
    recv_draws = up_goes.drawn_is ∙ recv_same older legal t bytes (now.links t)

    -- a stream of another link, or of one that is gone
    from_other : GoOn now.streams later.streams → (n : ℕ) (stream : Stream) → later.streams n ≡ Some stream → t ≢ stream.link
        → CameFrom (Recv t bytes) older n stream
    from_other go n stream is apart = record {
      packets = [];
      brought_is = brought_other older legal t bytes stream.link apart ∙ sym (append-nil (brought stream.link older));
      heard = heard_still stream.link n (now.streams n) stream (go n stream is);
    }

    from_gone : now.links t ≡ None → (n : ℕ) (stream : Stream) → later.streams n ≡ Some stream → CameFrom (Recv t bytes) older n stream
    from_gone none n stream is =
        let rows : GoOn now.streams (rule (Recv t bytes) now).state.streams =
        subst (λ (o : Option Link). GoOn now.streams (receives_on o t bytes now).state.streams) (sym none) (go_on_same now.streams) in
        let go : GoOn now.streams later.streams = go_on_then now.streams (rule (Recv t bytes) now).state.streams
        later.streams rows up_goes.rows in
        let was = go n stream is in
        from_other go n stream is (λ same. none_on older legal t bytes none n was.stream was.is (sym was.same.link ∙ sym same))

    from_cut : (link : Link) → now.links t ≡ Some link → (n : ℕ) (stream : Stream) → later.streams n ≡ Some stream
        → CameFrom (Recv t bytes) older n stream
    from_cut link at_t n stream is = go (eqb stream.link t) refl
      where
        given : List Packet
        given = (cut_now older legal t bytes link).given

        hear : AllHear t (cut_now older legal t bytes link).given now.streams later.streams
        hear = hear_on t given now.streams (rule (Recv t bytes) now).state.streams later.streams
            (subst (λ (o : Option Link). AllHear t given now.streams (receives_on o t bytes now).state.streams)
            (sym at_t) (hears_cut older legal t bytes link))
            up_goes.rows

        go : (b : Bool) → eqb stream.link t ≡ b → CameFrom (Recv t bytes) older n stream
        go true e =
            let on : t ≡ stream.link = sym (eqb-true stream.link t e) in
            record {
              packets = given;
              brought_is = subst (λ (k : ℕ). brought k (Recv t bytes ∷ older) ≡ brought k older ++ given) on
                  (brought_more older legal t bytes link at_t);
              heard = subst (λ (k : ℕ). Heard k given n (now.streams n) stream) on (hear n stream is);
            }
        go false e =
            let h = hear n stream is in
            let apart : stream.link ≢ t = eqb-false stream.link t e in
            record {
              packets = [];
              brought_is = brought_other older legal t bytes stream.link (λ same. apart (sym same))
                  ∙ sym (append-nil (brought stream.link older));
              heard = heard_still stream.link n (now.streams n) stream (record {
                stream = h.stream;
                is = h.is;
                same = record { id = h.id; client = h.client; link = h.link; remote = h.other apart; credit = h.credit };
              });
            }

    from_recv : (o : Option Link) → now.links t ≡ o → (n : ℕ) (stream : Stream) → later.streams n ≡ Some stream
        → CameFrom (Recv t bytes) older n stream
    from_recv None none = from_gone none
    from_recv (Some link) at_t = from_cut link at_t

    draws_recv : DrawsAtMostOne (Recv t bytes) older
    draws_recv = record { number = recv_draws; rows = λ n stream is. inl (from_recv (now.links t) refl n stream is) }

-- Each entry of a legal history draws at most one stream, and each other stream was there before and heard what its link brought.
pub draws_at_most_one : (e : Entry) (older : History) → IsLegal (e ∷ older) → DrawsAtMostOne e older
draws_at_most_one (Attach t kind serial) older l = attach_draws older l.0 t kind serial l
draws_at_most_one (Recv t bytes) older l = draws_recv older l.0 t bytes l
draws_at_most_one e older l = rule_draws older l.0 e l (λ t. refl) (entry_makes older l.0 e l.2 tt)

-- ---- more comes
-- What was sent to a link comes first in what was sent to it later.
sent_grows : (t : ℕ) (e : Entry) (older : History) → ComeFirst (sent t older) (sent t (e ∷ older))
sent_grows t (Send n bytes) older = go (eqb n t)
  where
    go : (b : Bool) → ComeFirst (sent t older) (framed (cond b (bytes_sent t older ++ bytes) (bytes_sent t older))).given
    go true = framed_front (bytes_sent t older) bytes
    go false = come_first_same (sent t older)
sent_grows t _ older = come_first_same (sent t older)

pub goes_on_so : (e : Entry) (older : History) → GoesOn e older
goes_on_so e older = record {
  births = λ l b is. born_stays l e older b is;
  brings = λ t. brought_grows t e older;
  opening = λ l b o is. opening_grows l b e older o is;
  remote = λ l b known. remote_grows l b e older known;
  ending = λ l x is. ending_append l (told older) (told_at e older)
      ∙ ap (λ (o : Option Ending). option_or o (ending_in l (told_at e older))) is;
  owes = λ t. packets_append t (told older) (told_at e older);
  sends = λ t. sent_grows t e older;
}
