-- What every entry tells is right.
use Rattle.std.proofs.Common.{◌≡◌, ◌≢◌, ℕ, ◌+◌, ◌^◌, ◌<◌, ◌≤◌, All, List, [], ◌∷◌, length, Option, Some, None, refl, sym, subst, ◌∙◌, inl}
use Rattle.std.proofs.Common.{inr, arith}
use Rattle.std.specs.Prelude.{sum, Contains, ◌%◌}
use Rattle.std.proofs.Math.Nat.{mod-lt}
use Rattle.std.proofs.lemmas.List.{length-append}
use Rattle.std.proofs.lemmas.List.Elements.{All-nil, All-cons, All-append, All-weaker, All-contains, Contains-append_left}
use Rattle.adb_outside.specs.declared.kinds.Kind.{Kind}
use Rattle.adb_wire.specs.declared.command.Command.{Command}
use Rattle.adb_wire.specs.declared.command.Command.TheVariants.{Cnxn, Open, Okay, Wrte, Clse}
use Rattle.adb_wire.specs.declared.headers.TheConstants.{MAX_PAYLOAD}
use Rattle.adb_wire.specs.declared.packets.Packet.{Packet}
use Rattle.adb_capture.specs.declared.entry.Entry.{Entry}
use Rattle.adb_capture.specs.declared.entry.Entry.TheVariants.{Attach, Recv}
use Rattle.adb_history.specs.Rows.{Link, State}
use Rattle.adb_history.specs.Events.{Made, Event, quietly, due_to_client, due_to_link, ended}
use Rattle.adb_history.specs.Links.{server_cnxn, open_packet}
use Rattle.adb_history.specs.Streams.{stream_ids}
use Rattle.adb_history.specs.Packets.{treat_all, faulty, receives_on}
use Rattle.adb_history.specs.Machine.{History, state, told_at, rule, ups, IsLegal}
use Rattle.adb_history.specs.Bytes.{brought}
use Rattle.adb_history.specs.Births.{Birth, births_at, remote_of}
use Rattle.adb_history.specs.Fifo.{IsOf, IsRefusal, IsOwn}
use Rattle.adb_laws_births.specs.Going.{IsFrom, Goes}
use Rattle.adb_laws_births.specs.Drawing.{with_drawn, Draws, Makes}
use Rattle.adb_laws_births.specs.Births.{born_stays}
use Rattle.adb_laws_births.specs.Born.{AllBornAs, all_brought, AreBorn}
use Rattle.adb_laws_births.specs.Brought.{come_first_same, brought_grows, remote_grows}
use Rattle.adb_laws_births.specs.Sending.{IsRight, IsRightEvent, HasShortService}
use Rattle.adb_laws_births.proofs.Going.{goes_quiet}
use Rattle.adb_laws_births.proofs.GoingRules.{goes_faulty}
use Rattle.adb_laws_births.proofs.Rules.{entry_makes}
use Rattle.adb_laws_births.proofs.Receiving.{cut_now, rested, rested_linked, brought_more}
use Rattle.adb_laws_births.proofs.Born.{stays_born, born_later, kept_later, birth_drawn, rows_born, goes_ups, gone_kept}
use Rattle.adb_laws_births.proofs.Sending.{IsAhead, right_from, TellsRight, tells_goes, tells_goes_then, tells_all}

-- ---- what is right stays so
module _ (e : Entry) (older : History) where
  of_later : (t : ℕ) (p : Packet) → IsOf older t p → IsOf (e ∷ older) t p
  of_later t p x =
      let same : remote_of p.arg0 x.birth (e ∷ older) ≡ remote_of p.arg0 x.birth older = remote_grows p.arg0 x.birth e older x.told in
      record {
        birth = x.birth;
        is = born_stays p.arg0 e older x.birth x.is;
        link = x.link;
        told = λ none. x.told (sym same ∙ none);
        remote = x.remote ∙ sym same;
      }

  refusal_later : (t : ℕ) (p : Packet) → IsRefusal older t p → IsRefusal (e ∷ older) t p
  refusal_later t p x =
      let grows = brought_grows t e older in
      record {
        packet = x.packet;
        asked = x.asked;
        came = subst (λ (ps : List Packet). Contains ps x.asked) grows.1 (Contains-append_left (brought t older) grows.0 x.asked x.came);
        asks = x.asks;
        id = x.id;
      }

  pub own_later : (t : ℕ) (command : Command) (p : Packet) → IsOwn older t command p → IsOwn (e ∷ older) t command p
  own_later t Open p own =
      record {
        birth = own.birth;
        is = born_stays p.arg0 e older own.birth own.is;
        link = own.link;
        packet =
            own.packet;
      }
  own_later t Okay p own = of_later t p own
  own_later t Wrte p own = of_later t p own
  own_later t Clse p (inl own) = inl (of_later t p own)
  own_later t Clse p (inr own) = inr (refusal_later t p own)
  own_later t _ p own = own

  pub right_later : (ev : Event) → IsRightEvent older ev → IsRightEvent (e ∷ older) ev
  right_later (due_to_client client bytes) h = tt
  right_later (due_to_link t p check) h = record { own = own_later t p.command p h.own; short = h.short; sum = h.sum }
  right_later (ended stream ending) h = tt

ahead_same : (h : History) → IsAhead h (all_brought h)
ahead_same h t = come_first_same (brought t h)

-- ---- an entry by which a stream may be born
module _ (e : Entry) (older : History) (b : AreBorn older) (same : (t : ℕ) → brought t (e ∷ older) ≡ brought t older) where
  abbrev s : State
  s = state older

  goes_right : (m : Made) → Goes s.streams s.drawn m → TellsRight (e ∷ older) m
  goes_right m goes = tells_goes (e ∷ older) (all_brought (e ∷ older)) s m (kept_later e older b same) (ahead_same (e ∷ older)) goes

  module _ (x : Birth) (is : births_at e older ≡ x ∷ []) (short : HasShortService x) (room : s.drawn ≢ stream_ids) where
    right_open : (check : ℕ) → check < 2 ^ 32 → IsRight (e ∷ older) x.link (open_packet x.credit (s.drawn + 1) x.service) check
    right_open check word = record {
      own = record { birth = x; is = birth_drawn e older b same x is room; link = refl; packet = refl };
      short = record { size = omega (arith, length-append x.service (0 ∷ []), short); word = word };
      sum = λ cnxn. let clash : Open ≡ Cnxn = cnxn in cc;
    }

    draws_right : (m : Made) → Draws s.streams s.drawn x m → TellsRight (e ∷ older) m
    draws_right m d =
        let h : History = e ∷ older in
        let opening : Event = due_to_link x.link (open_packet x.credit (s.drawn + 1) x.service) d.check in
        let rows : AllBornAs h (all_brought h) (with_drawn s.drawn x s.streams) = rows_born e older b same x is room in
        let first : All (IsRightEvent h) d.first =
        All-weaker (IsFrom s.streams) (IsRightEvent h)
        (right_from h (all_brought h) s.streams (kept_later e older b same) (ahead_same h)) d.first d.before in
        let last : All (IsRightEvent h) d.last =
        All-weaker (IsFrom (with_drawn s.drawn x s.streams)) (IsRightEvent h)
        (right_from h (all_brought h) (with_drawn s.drawn x s.streams) rows (ahead_same h)) d.last d.after in
        record {
          told = subst (λ (events : List Event). All (IsRightEvent h) events) (sym d.told_is)
              (All-append (IsRightEvent h) d.first (opening ∷ d.last) first
              (All-cons (IsRightEvent h) opening d.last (right_open d.check d.word) last));
          heard = all_brought h;
          born_as = stays_born h (all_brought h) (with_drawn s.drawn x s.streams) m.state.streams d.rows rows;
          ahead = ahead_same h;
        }

  makes_right : (bs : List Birth) (m : Made) → births_at e older ≡ bs → All HasShortService bs
      → Makes s.streams s.drawn bs m → TellsRight (e ∷ older) m
  makes_right [] m is short h = goes_right m h
  makes_right (x ∷ []) m is short (inl full) = goes_right m full.1
  makes_right (x ∷ []) m is short (inr some) =
      draws_right x is (All-contains HasShortService (x ∷ []) x short (0, omega arith, refl)) some.0 m some.1
  makes_right (x ∷ y ∷ bs) m is short h = absurd h

-- ---- all entries
module _ (older : History) (legal : IsLegal older) (b : AreBorn older) where
  abbrev now : State
  now = state older

  rule_right : (e : Entry) → ((t : ℕ) → brought t (e ∷ older) ≡ brought t older) → All HasShortService (births_at e older)
      → Makes now.streams now.drawn (births_at e older) (rule e now) → TellsRight (e ∷ older) (rule e now)
  rule_right e same short h = makes_right e older b same (births_at e older) (rule e now) refl short h

  cnxn_size : length server_cnxn.payload ≤ MAX_PAYLOAD
  cnxn_size = let size : length server_cnxn.payload ≡ 34 = refl in omega (arith, size)

  attach_right : (t : ℕ) (kind : Kind) (serial : List ℕ) → TellsRight (Attach t kind serial ∷ older) (rule (Attach t kind serial) now)
  attach_right t kind serial =
      let h : History = Attach t kind serial ∷ older in
      record {
        told = All-cons (IsRightEvent h) (due_to_link t server_cnxn (sum server_cnxn.payload % 2 ^ 32)) []
            (record {
              own = refl;
              short = record { size = cnxn_size; word = mod-lt (sum server_cnxn.payload) (omega arith) };
              sum = λ cnxn. refl;
            }) (All-nil (IsRightEvent h));
        heard = all_brought h;
        born_as = kept_later (Attach t kind serial) older b (λ k. refl);
        ahead = ahead_same h;
      }

  recv_right : (t : ℕ) (bytes : List ℕ) (o : Option Link) → now.links t ≡ o → TellsRight (Recv t bytes ∷ older) (receives_on o t bytes now)
  recv_right t bytes None is =
      let h : History = Recv t bytes ∷ older in
      tells_goes h (all_brought h) now (quietly now) (gone_kept older legal b t bytes is) (ahead_same h) (goes_quiet now)
  recv_right t bytes (Some link) is =
      let h : History = Recv t bytes ∷ older in
      let c = cut_now older legal t bytes link in
      let taken : State = rested older legal t bytes link in
      let treated : Made = treat_all t c.given taken in
      tells_goes_then h treated (faulty t c.fault)
      (tells_all h t c.given (all_brought older) taken (rested_linked older legal t bytes link)
      (born_later (Recv t bytes) older (all_brought older) now.streams b.kept) (λ k. brought_grows k (Recv t bytes) older)
      (sym (brought_more older legal t bytes link is)))
      (goes_faulty (treated.state.links t) t c.fault treated.state)

  entry_right : (e : Entry) → IsLegal (e ∷ older) → All HasShortService (births_at e older) → TellsRight (e ∷ older) (rule e now)
  entry_right (Attach t kind serial) l short = attach_right t kind serial
  entry_right (Recv t bytes) l short = recv_right t bytes (now.links t) refl
  entry_right e l short = rule_right e (λ t. refl) short (entry_makes older legal e l.2 tt)

  -- what an entry tells is right
  pub told_right : (e : Entry) → IsLegal (e ∷ older) → All HasShortService (births_at e older)
      → All (IsRightEvent (e ∷ older)) (told_at e older)
  told_right e l short = (tells_goes_then (e ∷ older) (rule e now) ups (entry_right e l short) (goes_ups older legal e l)).told
