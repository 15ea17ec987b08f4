-- A stream that a client asks for: what is known of it and of its client when it is born.
use Rattle.std.proofs.Common.{◌≡◌, ◌≢◌, ℕ, ◌+◌, ◌≤◌, zero, suc, min, Bool, true, false, cond, not, ◌&&◌, ◌||◌, List, [], ◌∷◌, ◌++◌, length}
use Rattle.std.proofs.Common.{drop, Option, Some}
use Rattle.std.proofs.Common.{None}
use Rattle.std.proofs.Common.{is_some, refl, sym, ap, subst, ◌∙◌, append_assoc, arith, eqb}
use Rattle.std.proofs.lemmas.Bool.{eqb-true, eqb-false, eq-eqb, ltb-true, ltb-false}
use Rattle.std.proofs.lemmas.List.{length-append}
use Rattle.std.proofs.Math.Seq.{take-length, drop-length}
use Rattle.std.specs.List.{list_any}
use Rattle.std.specs.Prelude.{nat_lt, option_map}
use Rattle.adb_registry.specs.declared.row.Row.{Row}
use Rattle.adb_stream.specs.Flow.{new_flow}
use Rattle.adb_stream.specs.Stream.{new_stream}
use Rattle.adb_stream.specs.declared.row.Stream.{Stream}
use Rattle.adb_client.specs.declared.phase.Phase.TheVariants.{Asking, Closing}
use Rattle.adb_wire.specs.declared.packets.Packet.{Packet}
use Rattle.adb_reply.specs.Laws.{TakesPayloads}
use Rattle.adb_reply.specs.declared.answer.Next.{Next}
use Rattle.adb_reply.specs.declared.answer.Next.TheVariants as what
use Rattle.adb_capture.specs.declared.entry.Entry.{Entry}
use Rattle.adb_capture.specs.declared.entry.Entry.TheVariants.{Read, Recv}
use Rattle.adb_history.specs.Rows.{Client, State, to_client}
use Rattle.adb_history.specs.Events.{Made, Event, then_also}
use Rattle.adb_history.specs.Clients.{owe_client}
use Rattle.adb_history.specs.Links.{is_credit}
use Rattle.adb_history.specs.Streams.{stream_ids, asks_for, no_ids_left}
use Rattle.adb_history.specs.Asking.{Asked, asks_with}
use Rattle.adb_history.specs.Reading.{asked_before, has_asked}
use Rattle.adb_history.specs.Machine.{History, state, told, rule, ups, May, IsLegal}
use Rattle.adb_history.specs.Bytes.{has_joined, has_failed, is_lost, brought}
use Rattle.adb_history.specs.Book.{plugged, plugged_count, is_refused, is_broken, last_cnxn, row_by, device_of}
use Rattle.adb_history.specs.Births.{Birth, births, since, opening_in, opening_of}
use Rattle.adb_history.specs.Answered.{is_heard}
use Rattle.adb_history.specs.Owned.{IsOwned}
use Rattle.adb_history.proofs.Devices.{shows_devices}
use Rattle.adb_history.proofs.Numbers.{counted}
use Rattle.adb_history.proofs.OutputEntries.{tied}
use Rattle.adb_history.proofs.Readiness.{asks_ready, IsAskedReady}
use Rattle.adb_laws_answered.specs.Heard.{heard, Answers}
use Rattle.adb_laws_answered.specs.Served.{IsFresh}
use Rattle.adb_laws_answered.specs.Shown.{seen, Subject, IsShownRow, IsShown}
use Rattle.adb_laws_answered.proofs.Brought.{brings_more, brought_apart}
use Rattle.adb_laws_answered.proofs.ClientTurns.{client_ups}
use Rattle.adb_laws_answered.proofs.Failing.{all_failed}
use Rattle.adb_laws_answered.proofs.HeardHistories.{all_answers}
use Rattle.adb_laws_answered.proofs.FreshMoves.{all_fresh}
use Rattle.adb_laws_answered.proofs.ServedAsks as asks
use Rattle.adb_laws_answered.proofs.ShownClients.{shown_of}
use Rattle.adb_laws_answered.proofs.ShownHistories.{IsShownAt, may_hear, subject_of}

-- ---- before a birth
-- a link brings no less
brought_grows : (t : ℕ) (e : Entry) (older : History) → length (brought t older) ≤ length (brought t (e ∷ older))
brought_grows t (Recv n bytes) older = go (eqb n t) refl
  where
    here : length (brought t older) ≤ length (brought t (Recv t bytes ∷ older))
    here = let more = brings_more t bytes older in omega (arith, ap length more.is, length-append (brought t older) more.more)

    go : (same : Bool) → eqb n t ≡ same → length (brought t older) ≤ length (brought t (Recv n bytes ∷ older))
    go false e = let less = ap length (brought_apart n t bytes older (eqb-false n t e)) in omega (arith, less)
    go true e = subst (λ (m : ℕ). length (brought t older) ≤ length (brought t (Recv m bytes ∷ older))) (sym (eqb-true n t e)) here
brought_grows t _ older = omega arith

drop_none : (n : ℕ) (ps : List Packet) → length ps ≤ n → drop n ps ≡ []
drop_none zero [] le = refl
drop_none zero (p ∷ ps) le = absurd (omega (arith, le))
drop_none (suc n) [] le = refl
drop_none (suc n) (p ∷ ps) le = drop_none n ps (omega (arith, le))

-- nothing was heard of a stream of whose link no packet came since
unheard : (l : ℕ) (b : Birth) (h : History) → length (brought b.link h) ≤ b.packets_before → is_heard l b h ≡ false
unheard l b [] le = refl
unheard l b (e ∷ older) le =
    let grows = brought_grows b.link e older in
    let none = ap (λ (ps : List Packet). is_some (opening_in l ps)) (drop_none b.packets_before (brought b.link (e ∷ older)) le) in
    ap (λ (v : Bool). is_heard l b older || (v && not (is_some (opening_of l b older)) && not (has_failed b.client older))) none
    ∙ ap (λ (v : Bool). v || false) (unheard l b older (omega (arith, le, grows)))

-- a device that is there was plugged in, and its packets are sound
record IsThere (t : ℕ) (h : History) : Type 0 where
  pub plugged : is_some (plugged t h) ≡ true
  pub clean : list_any is_refused (brought t h) ≡ false

there_now : (t : ℕ) (h : History) (row : Row) → device_of t h ≡ Some row → IsThere t h
there_now t h row is = go (is_lost t h || is_broken t h) refl is
  where
    sound : (a b c : Bool) → (a || (b || c)) ≡ false → c ≡ false
    sound true b c e = absurd (let clash : true ≡ false = e in cc)
    sound false true c e = absurd (let clash : true ≡ false = e in cc)
    sound false false c e = e

    some_plugged : (o : Option Row) → option_map (row_by (last_cnxn (brought t h)) (brought t h)) o ≡ Some row → is_some o ≡ true
    some_plugged None e = absurd (let clash : None ≡ Some row = e in cc)
    some_plugged (Some x) e = refl

    go : (b : Bool) → (is_lost t h || is_broken t h) ≡ b
        → cond b None (option_map (row_by (last_cnxn (brought t h)) (brought t h)) (plugged t h)) ≡ Some row → IsThere t h
    go true e is = absurd (let clash : None ≡ Some row = is in cc)
    go false e is = record { plugged = some_plugged (plugged t h) is; clean = sound (is_lost t h) _ (list_any is_refused (brought t h)) e }

-- ---- the birth
module _ (c : ℕ) (older : History) (legal : IsLegal older) (bytes : List ℕ) (may : May (state older) (Read c bytes)) (client : Client)
    (is : (state older).clients c ≡ Some client) (asking : client.about.phase ≡ Asking) (t : ℕ) (service : List ℕ)
    (next : (asks_with (state older).devices (state older).forwards bytes (asked_before client)).next ≡ Some (what.Open t service))
    (came : has_joined c older ≡ true) (drawn : (state older).drawn ≡ min (length (births older)) stream_ids)
    (some : (state older).drawn ≢ stream_ids) where
  abbrev s : State
  s = state older

  abbrev w : List Event
  w = told older

  abbrev now : History
  now = Read c bytes ∷ older

  abbrev b : Birth
  b = asks.birth c older legal bytes may client is asking t service next

  abbrev id : ℕ
  id = s.drawn + 1

  h : Answers c (heard c older) s.devices s w
  h = all_answers older legal c came

  fresh : IsFresh (λ n. has_joined n older) s w
  fresh = all_fresh older legal

  abbrev p : Asked
  p = asks_with s.devices s.forwards bytes (asked_before client)

  abbrev given : Made
  given = then_also (owe_client c p.replies (to_client c (has_asked p) s)) (asks_for (s.drawn + 1) c t service)

  abbrev by : Bool → Made
  by b = then_also (owe_client c p.replies (to_client c (has_asked p) s))
      (λ x. cond b (no_ids_left false c x) (asks_for (s.drawn + 1) c t service x))

  unfull : (b : Bool) → eqb s.drawn stream_ids ≡ b → b ≡ false
  unfull true e = absurd (some (eqb-true s.drawn stream_ids e))
  unfull false e = refl

  given_so : rule (Read c bytes) s ≡ given
  given_so = asks.made_so c older legal bytes may client is asking t service next ∙ ap by (unfull (eqb s.drawn stream_ids) refl)

  -- the device is there
  takes : TakesPayloads s.devices.rows t
  takes = subst (λ (o : Option Next). IsAskedReady s.devices o) next (asks_ready s.devices s.forwards bytes (asked_before client) tt)

  there : IsThere t older
  there = there_now t older takes.row (sym ((shows_devices older legal).rows may.0 t) ∙ takes.is)

  link_drawn : t ≤ plugged_count older
  link_drawn = go (nat_lt (plugged_count older) t) refl
    where
      go : (v : Bool) → nat_lt (plugged_count older) t ≡ v → t ≤ plugged_count older
      go true e = absurd
          (let clash : None ≡ Some takes.row =
          sym ((tied older legal).rows.above t (ltb-true (plugged_count older) t e)) ∙ takes.is in cc)
      go false e = let le = ltb-false (plugged_count older) t e in omega (arith, le)

  -- its client has not failed
  unfailed : has_failed c older ≡ false
  unfailed = go (has_failed c older) refl
    where
      go : (f : Bool) → has_failed c older ≡ f → has_failed c older ≡ false
      go false f = f
      go true f =
          let closed = (all_failed older legal c came f).1.row client is in
          absurd (let clash : Asking ≡ Closing = sym asking ∙ closed in cc)

  none_heard : is_heard id b now ≡ false
  none_heard = unheard id b now (omega arith)

  may_now : may_hear id b now ≡ true
  may_now =
      ap (λ (v : Bool). v || (not (is_some (opening_of id b now)) && not (has_failed c now))) none_heard
      ∙ (ap (λ (ps : List Packet). not (is_some (opening_in id ps)) && not (has_failed c now)) (drop-length (brought t older))
      ∙ ap not unfailed)

  abbrev x : Subject
  x = subject_of id b now (may_hear id b now) (has_failed c now)

  born_stream : Stream
  born_stream = new_stream id c t (new_flow (is_credit t s.devices))

  row_new : IsShownRow x (seen id []) born_stream
  unfolding born_stream
  row_new = record {
    client = refl;
    link = refl;
    remote = refl;
    pending = λ e. refl;
    may = λ owned. may_now;
    orphan = λ orphan. absurd (let clash : false ≡ true = orphan in cc);
  }

  shown_given : IsOwned given.state → IsShown false x (seen id []) given.state (w ++ given.told)
  unfolding born_stream
  shown_given owned = record {
    owned = owned;
    row = asks.given_row c older legal bytes may client is asking t service next h fresh came drawn;
    own = λ y at_id. subst (λ (z : Stream). IsShownRow x (seen id []) z) (same y at_id) row_new;
    drawn = omega arith;
    out = record {
      closed = false;
      out_is = asks.out_with c older legal bytes may client is asking t service next h fresh came drawn
          (asks_for (s.drawn + 1) c t service (owe_client c p.replies (to_client c (has_asked p) s)).state).told;
      waits = λ y at_id owned. refl;
      gone = λ gone. absurd (let clash : false ≡ true = gone born_stream at_stream in cc);
      none = λ cut. absurd (let clash : true ≡ false = cut in cc);
    };
  }
    where
      at_stream : given.state.streams id ≡ Some born_stream
      at_stream = ap (λ (b : Bool). cond b (Some born_stream) (s.streams id)) (eq-eqb id id refl)

      same : (y : Stream) → given.state.streams id ≡ Some y → born_stream ≡ y
      same y at_id = (let both : Some born_stream ≡ Some y = sym at_stream ∙ at_id in cc)

  shown_ruled : IsShown false x (seen id []) (rule (Read c bytes) s).state (w ++ (rule (Read c bytes) s).told)
  shown_ruled =
      let owned = asks.owned c older legal bytes may client is asking t service next h fresh came drawn in
      subst (λ (m : Made). IsShown false x (seen id []) m.state (w ++ m.told)) (sym given_so)
      (shown_given (subst (λ (m : Made). IsOwned m.state) given_so owned))

  shown_now : IsShown false x (seen id (since b now)) (state now) (told now)
  shown_now =
      let m : Made = rule (Read c bytes) s in
      subst (λ (ps : List Packet). IsShown false x (seen id ps) (state now) (told now)) (sym (drop-length (brought t older)))
      (subst (λ (v : List Event). IsShown false x (seen id []) (state now) v) (append_assoc w m.told (ups m.state).told)
      (client_ups (shown_of false x (seen id [])) m.state (w ++ m.told) shown_ruled))

  -- What is known of the stream at once.
  pub shown_birth : IsShownAt id b now
  shown_birth = record {
    within = omega arith;
    plugged = there.plugged;
    clean = ap (list_any is_refused) (take-length (brought t older)) ∙ there.clean;
    drawn = omega (arith, link_drawn, (counted now).plugged);
    heard = false;
    is = sym none_heard;
    shown = shown_now;
  }
