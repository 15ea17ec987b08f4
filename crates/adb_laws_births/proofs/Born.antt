-- The streams of every legal history are its births.
use Rattle.std.proofs.Common.{◌≡◌, ◌≢◌, ℕ, ◌+◌, ◌≤◌, suc, Bool, true, false, cond, List, [], ◌∷◌, ◌++◌, length, drop, Option, Some, None}
use Rattle.std.proofs.Common.{refl, sym, ap}
use Rattle.std.proofs.Common.{subst, ◌∙◌, inl, inr, eqb, arith}
use Rattle.std.specs.Prelude.{min}
use Rattle.std.proofs.lemmas.Bool.{eqb-true, eqb-false}
use Rattle.std.proofs.lemmas.List.{append-nil, length-append, drop-append-le}
use Rattle.std.proofs.Math.Seq.{drop-length}
use Rattle.adb_outside.specs.Tables.{Rows}
use Rattle.adb_outside.specs.declared.kinds.Kind.{Kind}
use Rattle.adb_registry.specs.Registry.{DeviceTable}
use Rattle.adb_wire.specs.declared.headers.TheConstants.{MAX_PAYLOAD}
use Rattle.adb_wire.specs.declared.packets.Packet.{Packet}
use Rattle.adb_stream.specs.Flow.{new_flow}
use Rattle.adb_stream.specs.Stream.{new_stream}
use Rattle.adb_stream.specs.declared.row.Stream.{Stream}
use Rattle.adb_capture.specs.declared.entry.Entry.{Entry}
use Rattle.adb_capture.specs.declared.entry.Entry.TheVariants.{Attach, Recv}
use Rattle.adb_history.specs.Events.{Made}
use Rattle.adb_history.specs.Rows.{Link, State}
use Rattle.adb_history.specs.Streams.{stream_ids}
use Rattle.adb_history.specs.Packets.{receives_on}
use Rattle.adb_history.specs.Machine.{History, state, rule, ups, step, IsLegal}
use Rattle.adb_history.specs.Bytes.{brought}
use Rattle.adb_history.specs.Births.{Birth, births_at, births, born}
use Rattle.adb_history.specs.Fifo.{IsKeptAs, HasBirths}
use Rattle.adb_history.specs.Links.{maxdata_of}
use Rattle.adb_history.specs.Book.{plugged_count}
use Rattle.adb_history.specs.Tied.{came_count}
use Rattle.adb_history.proofs.GrowingRules.{keeps_up_all}
use Rattle.adb_history.proofs.OutputEntries.{tied_rule, tied}
use Rattle.adb_history.proofs.RuleMoves.{rule_kept}
use Rattle.adb_history.proofs.OwnedStep.{owned_moves, begins_owned, all_owned}
use Rattle.adb_history.proofs.Linking.{credit_new}
use Rattle.adb_laws_births.specs.Going.{GoOn, Goes}
use Rattle.adb_laws_births.specs.Openings.{IsHeard, heard_remote}
use Rattle.adb_laws_births.specs.Hearing.{Heard, AllHear}
use Rattle.adb_laws_births.specs.Drawing.{with_drawn, Opens, Makes}
use Rattle.adb_laws_births.specs.Births.{born_stays, born_next, birth_place}
use Rattle.adb_laws_births.specs.Born.{IsBornAs, AllBornAs, all_brought, AreBorn}
use Rattle.adb_laws_births.proofs.Going.{go_on_same, go_on_then}
use Rattle.adb_laws_births.proofs.GoingRules.{CanRise, goes_up_all}
use Rattle.adb_laws_births.proofs.Small.{all_small}
use Rattle.adb_laws_births.proofs.Drawing.{makes_goes}
use Rattle.adb_laws_births.proofs.Rules.{entry_makes}
use Rattle.adb_laws_births.proofs.Receiving.{cut_now, brought_other, brought_more, none_on, hears_cut, cut_drawn, hear_on}

-- ---- what stays
pub stays_born : (h : History) (heard : ℕ → List Packet) (x y : Rows (Option Stream)) → GoOn x y → AllBornAs h heard x → AllBornAs h heard y
stays_born h heard x y go all l b is =
    let was = go l b is in
    let k = all l was.stream was.is in
    record {
      birth = k.birth;
      is = k.is;
      id = was.same.id ∙ k.id;
      client = was.same.client ∙ k.client;
      link = was.same.link ∙ k.link;
      credit = was.same.credit ∙ k.credit;
      before = k.before;
      heard_of = subst (λ (n : ℕ). IsHeard l n (drop k.birth.packets_before (heard k.birth.link))) (sym was.same.remote) k.heard_of;
    }

-- one more entry, by which this stream hears nothing
one_later : (e : Entry) (older : History) (l : ℕ) (stream : Stream) (k : IsBornAs older (all_brought older) l stream)
    → brought k.birth.link (e ∷ older) ≡ brought k.birth.link older → IsBornAs (e ∷ older) (all_brought (e ∷ older)) l stream
one_later e older l stream k same = record {
  birth = k.birth;
  is = born_stays l e older k.birth k.is;
  id = k.id;
  client = k.client;
  link = k.link;
  credit = k.credit;
  before = subst (λ (ps : List Packet). k.birth.packets_before ≤ length ps) (sym same) k.before;
  heard_of = subst (λ (ps : List Packet). IsHeard l stream.part.remote (drop k.birth.packets_before ps)) (sym same) k.heard_of;
}

-- a birth is one of the history with one more entry
pub born_later : (e : Entry) (older : History) (heard : ℕ → List Packet) (streams : Rows (Option Stream)) → AllBornAs older heard streams
    → AllBornAs (e ∷ older) heard streams
born_later e older heard streams all l stream is =
    let k = all l stream is in
    record {
      birth = k.birth;
      is = born_stays l e older k.birth k.is;
      id = k.id;
      client = k.client;
      link = k.link;
      credit = k.credit;
      before = k.before;
      heard_of = k.heard_of;
    }

-- packets of its link
module _ (h : History) (t : ℕ) (ps : List Packet) (old new : ℕ → List Packet) where
  pub hears_born : (x y : Rows (Option Stream)) → AllHear t ps x y → ((k : ℕ) → t ≢ k → new k ≡ old k) × (new t ≡ old t ++ ps)
      → AllBornAs h old x → AllBornAs h new y
  hears_born x y hear next all l b is = go (eqb b.link t) refl
    where
      was : Heard t ps l (x l) b
      was = hear l b is

      k : IsBornAs h old l (hear l b is).stream
      k = all l (hear l b is).stream (hear l b is).is

      to : b.link ≡ (all l (hear l b is).stream (hear l b is).is).birth.link
      to = was.link ∙ k.link

      made : (packets : List Packet) → new k.birth.link ≡ packets → k.birth.packets_before ≤ length packets
          → IsHeard l b.part.remote (drop k.birth.packets_before packets) → IsBornAs h new l b
      made packets same within heard = record {
        birth = k.birth;
        is = k.is;
        id = was.id ∙ k.id;
        client = was.client ∙ k.client;
        link = was.link ∙ k.link;
        credit = was.credit ∙ k.credit;
        before = subst (λ (qs : List Packet). k.birth.packets_before ≤ length qs) (sym same) within;
        heard_of = subst (λ (qs : List Packet). IsHeard l b.part.remote (drop k.birth.packets_before qs)) (sym same) heard;
      }

      go : (c : Bool) → eqb b.link t ≡ c → IsBornAs h new l b
      go true e =
          let on : t ≡ k.birth.link = sym (eqb-true b.link t e) ∙ to in
          let same : new k.birth.link ≡ old k.birth.link ++ ps = sym (ap new on) ∙ (next.1 ∙ ap (λ (n : ℕ). old n ++ ps) on) in
          made (old k.birth.link ++ ps) same (omega (arith, k.before, length-append (old k.birth.link) ps))
          (subst (IsHeard l b.part.remote) (sym (drop-append-le k.birth.packets_before (old k.birth.link) ps k.before))
          (was.here (eqb-true b.link t e) (drop k.birth.packets_before (old k.birth.link)) k.heard_of))
      go false e =
          let off : t ≢ k.birth.link = λ same. eqb-false b.link t e (to ∙ sym same) in
          made (old k.birth.link) (next.0 k.birth.link off) k.before
          (subst (λ (n : ℕ). IsHeard l n (drop k.birth.packets_before (old k.birth.link)))
          (sym (was.other (eqb-false b.link t e))) k.heard_of)

-- ---- an entry
module _ (e : Entry) (older : History) (b : AreBorn older) where
  abbrev s : State
  s = state older

  module _ (same : (t : ℕ) → brought t (e ∷ older) ≡ brought t older) where
    pub kept_later : AllBornAs (e ∷ older) (all_brought (e ∷ older)) s.streams
    kept_later l stream is = let k = b.kept l stream is in one_later e older l stream k (same k.birth.link)

    -- no stream is born
    pub goes_born : births_at e older ≡ [] → (state (e ∷ older)).drawn ≡ s.drawn
        → GoOn s.streams (state (e ∷ older)).streams → AreBorn (e ∷ older)
    goes_born none drawn go = record {
      drawn = drawn ∙ (b.drawn ∙ ap (λ (bs : List Birth). min (length bs) stream_ids)
          (sym (ap (λ (bs : List Birth). births older ++ bs) none ∙ append-nil (births older))));
      kept = stays_born (e ∷ older) (all_brought (e ∷ older)) s.streams (state (e ∷ older)).streams go kept_later;
    }

    module _ (x : Birth) (is : births_at e older ≡ x ∷ []) where
      count : length (births (e ∷ older)) ≡ length (births older) + 1
      count = ap (λ (bs : List Birth). length (births older ++ bs)) is ∙ length-append (births older) (x ∷ [])

      -- the birth of the stream that is drawn
      pub birth_drawn : s.drawn ≢ stream_ids → born (s.drawn + 1) (e ∷ older) ≡ Some x
      birth_drawn room =
          let number : length (births older) ≡ s.drawn = omega (arith, b.drawn, room) in
          let next : s.drawn + 1 ≡ suc (length (births older)) = omega (arith, number) in
          ap (λ (n : ℕ). born n (e ∷ older)) next ∙ born_next e older x is (omega (arith, b.drawn, room))

      -- the stream that is drawn
      drawn_born : s.drawn ≢ stream_ids → IsBornAs (e ∷ older) (all_brought (e ∷ older)) (s.drawn + 1)
          (new_stream (s.drawn + 1) x.client x.link (new_flow x.credit))
      drawn_born room =
          let place : x.packets_before ≡ length (brought x.link (e ∷ older)) = birth_place e older x is ∙ ap length (sym (same x.link)) in
          record {
            birth = x;
            is = birth_drawn room;
            id = refl;
            client = refl;
            link = refl;
            credit = credit_new x.credit;
            before = omega (arith, place);
            heard_of = subst (IsHeard (s.drawn + 1) 0)
                (sym (ap (λ (n : ℕ). drop n (brought x.link (e ∷ older))) place
                ∙ drop-length (brought x.link (e ∷ older)))) (λ later. refl);
          }

      pub rows_born : s.drawn ≢ stream_ids → AllBornAs (e ∷ older) (all_brought (e ∷ older)) (with_drawn s.drawn x s.streams)
      rows_born room l stream here = go (eqb (s.drawn + 1) l) refl here
        where
          go : (c : Bool) → eqb (s.drawn + 1) l ≡ c → cond c
              (Some (new_stream (s.drawn + 1) x.client x.link (new_flow x.credit))) (s.streams l) ≡ Some stream
              → IsBornAs (e ∷ older) (all_brought (e ∷ older)) l stream
          go false off there = kept_later l stream there
          go true on there =
              let row : new_stream (s.drawn + 1) x.client x.link (new_flow x.credit) ≡ stream = cc in
              subst (λ (n : ℕ). IsBornAs (e ∷ older) (all_brought (e ∷ older)) n stream) (eqb-true (s.drawn + 1) l on)
              (subst (IsBornAs (e ∷ older) (all_brought (e ∷ older)) (s.drawn + 1)) row (drawn_born room))

      -- one stream is born
      opens_born : Opens s.streams s.drawn x (step s e) → AreBorn (e ∷ older)
      opens_born (inl full) = record {
        drawn = omega (arith, full.0, full.1.drawn_is, b.drawn, count);
        kept = stays_born (e ∷ older) (all_brought (e ∷ older)) s.streams (state (e ∷ older)).streams full.1.rows kept_later;
      }
      opens_born (inr some) = record {
        drawn = omega (arith, some.0, some.1.drawn_is, b.drawn, count);
        kept = stays_born (e ∷ older) (all_brought (e ∷ older)) (with_drawn s.drawn x s.streams)
            (state (e ∷ older)).streams some.1.rows (rows_born some.0);
      }

    pub makes_born : (bs : List Birth) → births_at e older ≡ bs → Makes s.streams s.drawn bs (step s e) → AreBorn (e ∷ older)
    makes_born [] is h = goes_born is h.drawn_is h.rows
    makes_born (x ∷ []) is h = opens_born x is h
    makes_born (x ∷ y ∷ bs) is h = absurd h

-- ---- all entries
module _ (older : History) (legal : IsLegal older) where
  -- the up rule after an entry
  pub rises : (e : Entry) → IsLegal (e ∷ older) → CanRise (rule e (state older)).state
  rises e l =
      let m : Made = rule e (state older) in
      let came : ℕ = came_count (e ∷ older) in
      let plugged : ℕ = plugged_count (e ∷ older) in
      let within = (tied_rule older (tied older legal) e l.2).streams in
      record {
        owned = rule_kept owned_moves e (state older) [] (begins_owned (state older) (all_owned older legal) e [] l.2);
        came = came;
        plugged = plugged;
        within = within;
        small = subst (λ (d : DeviceTable). (t : ℕ) → maxdata_of t d ≤ MAX_PAYLOAD)
            (keeps_up_all came plugged m.state.drawn m.state within).devices (all_small (e ∷ older) l);
      }

  pub goes_ups : (e : Entry) → IsLegal (e ∷ older)
      → Goes (rule e (state older)).state.streams (rule e (state older)).state.drawn (ups (rule e (state older)).state)
  goes_ups e l = goes_up_all (rule e (state older)).state.drawn (rule e (state older)).state (rises e l)

module _ (older : History) (legal : IsLegal older) (b : AreBorn older) where
  rule_born : (e : Entry) → IsLegal (e ∷ older) → ((t : ℕ) → brought t (e ∷ older) ≡ brought t older)
      → Makes (state older).streams (state older).drawn (births_at e older) (rule e (state older)) → AreBorn (e ∷ older)
  rule_born e may same h = makes_born e older b same (births_at e older) refl
      (makes_goes (state older).streams (state older).drawn (births_at e older) (rule e (state older)) ups h (goes_ups older legal e may))

  -- bytes of a link that is gone
  pub gone_kept : (t : ℕ) (bytes : List ℕ) → (state older).links t ≡ None
      → AllBornAs (Recv t bytes ∷ older) (all_brought (Recv t bytes ∷ older)) (state older).streams
  gone_kept t bytes is l stream here =
      let k = b.kept l stream here in
      one_later (Recv t bytes) older l stream k
      (brought_other older legal t bytes k.birth.link (λ same. none_on older legal t bytes is l stream here (k.link ∙ sym same)))

  -- packets of a link
  recv_born : (t : ℕ) (bytes : List ℕ) → IsLegal (Recv t bytes ∷ older) → (o : Option Link)
      → (state older).links t ≡ o → AreBorn (Recv t bytes ∷ older)
  recv_born t bytes may None is = record {
    drawn = up_goes.drawn_is ∙ (quiet_drawn ∙ (b.drawn ∙ counts));
    kept = stays_born (Recv t bytes ∷ older) (all_brought (Recv t bytes ∷ older)) (state older).streams
        (state (Recv t bytes ∷ older)).streams
        (go_on_then (state older).streams (rule (Recv t bytes) (state older)).state.streams
        (state (Recv t bytes ∷ older)).streams quiet_rows up_goes.rows)
        (λ l stream here.
        let k = b.kept l stream here in
        one_later (Recv t bytes) older l stream k
        (brought_other older legal t bytes k.birth.link (λ same. none_on older legal t bytes is l stream here (k.link ∙ sym same))));
  }
    where
      up_goes : Goes (rule (Recv t bytes) (state older)).state.streams (rule (Recv t bytes) (state older)).state.drawn
          (ups (rule (Recv t bytes) (state older)).state)
      up_goes = goes_ups older legal (Recv t bytes) may

      counts : min (length (births older)) stream_ids ≡ min (length (births (Recv t bytes ∷ older))) stream_ids
      counts = ap (λ (bs : List Birth). min (length bs) stream_ids) (sym (append-nil (births older)))

      quiet_drawn : (rule (Recv t bytes) (state older)).state.drawn ≡ (state older).drawn
      quiet_drawn = ap (λ (o : Option Link). (receives_on o t bytes (state older)).state.drawn) is

      quiet_rows : GoOn (state older).streams (rule (Recv t bytes) (state older)).state.streams
      quiet_rows = subst (λ (o : Option Link). GoOn (state older).streams (receives_on o t bytes (state older)).state.streams) (sym is)
          (go_on_same (state older).streams)
  recv_born t bytes may (Some link) is = record {
    drawn = up_goes.drawn_is ∙ (ap (λ (o : Option Link). (receives_on o t bytes (state older)).state.drawn) is
        ∙ (cut_drawn older legal t bytes link ∙ (b.drawn ∙ counts)));
    kept = hears_born (Recv t bytes ∷ older) t given (all_brought older) (all_brought (Recv t bytes ∷ older)) (state older).streams
        (state (Recv t bytes ∷ older)).streams hear
        (λ k apart. brought_other older legal t bytes k apart, brought_more older legal t bytes link is)
        (born_later (Recv t bytes) older (all_brought older) (state older).streams b.kept);
  }
    where
      given : List Packet
      given = (cut_now older legal t bytes link).given

      up_goes : Goes (rule (Recv t bytes) (state older)).state.streams (rule (Recv t bytes) (state older)).state.drawn
          (ups (rule (Recv t bytes) (state older)).state)
      up_goes = goes_ups older legal (Recv t bytes) may

      counts : min (length (births older)) stream_ids ≡ min (length (births (Recv t bytes ∷ older))) stream_ids
      counts = ap (λ (bs : List Birth). min (length bs) stream_ids) (sym (append-nil (births older)))

      hear : AllHear t (cut_now older legal t bytes link).given (state older).streams (state (Recv t bytes ∷ older)).streams
      hear = hear_on t given (state older).streams (rule (Recv t bytes) (state older)).state.streams (state (Recv t bytes ∷ older)).streams
          (subst (λ (o : Option Link). AllHear t given (state older).streams (receives_on o t bytes (state older)).state.streams) (sym is)
          (hears_cut older legal t bytes link)) up_goes.rows

  -- a device is plugged in
  attach_born : (t : ℕ) (kind : Kind) (serial : List ℕ) → IsLegal (Attach t kind serial ∷ older) → AreBorn (Attach t kind serial ∷ older)
  attach_born t kind serial may =
      let ups = goes_ups older legal (Attach t kind serial) may in
      goes_born (Attach t kind serial) older b (λ k. refl) refl ups.drawn_is ups.rows

  entry_born : (e : Entry) → IsLegal (e ∷ older) → AreBorn (e ∷ older)
  entry_born (Attach t kind serial) may = attach_born t kind serial may
  entry_born (Recv t bytes) may = recv_born t bytes may ((state older).links t) refl
  entry_born e may = rule_born e may (λ t. refl) (entry_makes older legal e may.2 tt)

-- In every legal history the streams are the births.
pub all_born : (h : History) → IsLegal h → AreBorn h
all_born [] legal = record { drawn = omega arith; kept = λ l stream is. absurd (let clash : None ≡ Some stream = is in cc) }
all_born (e ∷ older) legal = entry_born older legal.0 (all_born older legal.0) e legal

-- ---- the promise
kept_as : (h : History) (l : ℕ) (stream : Stream) → IsBornAs h (all_brought h) l stream → IsKeptAs h l stream
kept_as h l stream k = record {
  birth = k.birth;
  is = k.is;
  id = k.id;
  client = k.client;
  link = k.link;
  remote = sym (heard_remote l stream.part.remote (drop k.birth.packets_before (brought k.birth.link h)) k.heard_of);
  credit = k.credit;
}

pub all_births : (h : History) → IsLegal h → HasBirths h
all_births h legal =
    let b = all_born h legal in
    record { drawn = b.drawn; kept = λ l stream is. kept_as h l stream (b.kept l stream is) }
