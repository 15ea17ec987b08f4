-- In every legal history the client of a stream hears that it is open exactly where the entries say so.
use Rattle.std.proofs.Common.{◌≡◌, ◌≢◌, ℕ, ◌≤◌, Bool, true, false, cond, not, ◌&&◌, ◌||◌, List, ◌∷◌, ◌++◌, length, take, drop, Option, Some}
use Rattle.std.proofs.Common.{None, is_some}
use Rattle.std.proofs.Common.{refl, sym, ap, subst, ◌∙◌, arith, inl, inr, ◌⊎◌}
use Rattle.std.proofs.lemmas.List.{length-append, drop-append-le, take-append-le, take-append-drop}
use Rattle.std.proofs.lemmas.List.Folds.{list_any-append}
use Rattle.std.specs.List.{list_any}
use Rattle.std.specs.Prelude.{nat_eq, option_map}
use Rattle.adb_registry.specs.Row.{new_row}
use Rattle.adb_wire.specs.declared.packets.Packet.{Packet}
use Rattle.adb_stream.specs.declared.row.Stream.{Stream}
use Rattle.adb_capture.specs.declared.entry.Entry.{Entry}
use Rattle.adb_capture.specs.declared.entry.Entry.TheVariants.{Join, End, Attach, Recv}
use Rattle.adb_history.specs.Rows.{Link, State}
use Rattle.adb_history.specs.Events.{Made, Event, owed_to}
use Rattle.adb_history.specs.Machine.{History, state, told, told_at, rule, ups, IsLegal}
use Rattle.adb_history.specs.Bytes.{has_joined, has_failed, is_orderly, is_lost, bytes_received, brought}
use Rattle.adb_history.specs.Packets.{receives_on}
use Rattle.adb_wire.specs.Cutting.{framed, cut_packets}
use Rattle.adb_wire.specs.declared.format.PacketFault.{PacketFault}
use Rattle.adb_registry.specs.declared.row.Row.{Row}
use Rattle.adb_history.specs.Book.{asked, is_refused, plugged, plugged_count, is_broken, last_cnxn, row_by, device_of}
use Rattle.adb_history.specs.Births.{Birth, since, Opening as FirstOkay, opening_in, opening_of, remote_in}
use Rattle.adb_history.specs.Answered.{is_heard}
use Rattle.adb_history.proofs.Growing.{owed_append}
use Rattle.adb_history.proofs.OwnedMoves.{client_of}
use Rattle.adb_laws_answered.specs.Shown.{aside, Seen, seen, sealed_in, Subject, IsShown}
use Rattle.adb_laws_answered.proofs.Openings.{opening_named, remote_sealed, IsPending}
use Rattle.adb_laws_answered.proofs.ShownClients.{shown_of, resubject, opened_not_closed}
use Rattle.adb_laws_answered.proofs.ShownCloses.{waiting_none}
use Rattle.adb_history.proofs.Following.{after_quietly, after_then}
use Rattle.adb_history.proofs.Numbers.{counted}
use Rattle.adb_history.proofs.Received.{ReadTie, received}
use Rattle.adb_history.proofs.Devices.{shows_devices}
use Rattle.adb_history.proofs.LinkMoves.{all_linked}
use Rattle.adb_laws_answered.proofs.Brought.{brought_live, brought_lost, brought_faulty, BringsMore, brings_more, brought_apart}
use Rattle.adb_laws_answered.proofs.Brought.{pending_taken}
use Rattle.adb_laws_answered.proofs.ShownReceives.{receives_here, receives_apart}
use Rattle.adb_laws_answered.proofs.ShownPackets.{gone_more, no_link}
use Rattle.adb_laws_answered.proofs.HeardEntries.{joined_below}
use Rattle.adb_laws_answered.proofs.ClientTurns.{another_comes, Covers, client_kept, client_ups}
use Rattle.adb_laws_answered.proofs.Failing.{all_failed}
use Rattle.adb_laws_answered.proofs.DoneMoves.{never_closing}

-- whether a client may hear by what comes next that its stream opens
abbrev pub may_hear : ℕ → Birth → History → Bool
may_hear l b h = is_heard l b h || (not (is_some (opening_of l b h)) && not (has_failed b.client h))

abbrev pub subject_of : ℕ → Birth → History → (may failed : Bool) → Subject
subject_of l b h may failed = record {
  stream = l;
  client = b.client;
  link = b.link;
  replies = (asked b.client h).replies;
  may = may;
  failed = failed;
  cut = true;
}

-- What is known of a stream that was born, and of its client, at a time of a history.
pub record IsShownAt (l : ℕ) (b : Birth) (h : History) : Type 0 where
  pub within : b.packets_before ≤ length (brought b.link h)
  pub plugged : is_some (plugged b.link h) ≡ true
  pub clean : list_any is_refused (take b.packets_before (brought b.link h)) ≡ false
  pub drawn : b.link ≤ (state h).devices.drawn
  pub heard : Bool
  pub is : heard ≡ is_heard l b h
  pub shown : IsShown heard (subject_of l b h (may_hear l b h) (has_failed b.client h)) (seen l (since b h)) (state h) (told h)

-- ---- tests
some_remote : (l : ℕ) (ps : List Packet) → remote_in (opening_in l ps) ≢ 0 → is_some (opening_in l ps) ≡ true
some_remote l ps some = go (opening_in l ps) some
  where
    go : (o : _) → remote_in o ≢ 0 → is_some o ≡ true
    go None some = absurd (some refl)
    go (Some x) some = refl

none_remote : (l : ℕ) (ps : List Packet) → remote_in (opening_in l ps) ≡ 0 → is_some (opening_in l ps) ≡ false
none_remote l ps none = go (opening_in l ps) refl none
  where
    go : (o : _) → opening_in l ps ≡ o → remote_in o ≡ 0 → is_some o ≡ false
    go None is e = refl
    go (Some x) is e = absurd (opening_named l ps x is e)

-- what an entry makes of hearing
module _ (heard_before some_now some_before failed_before : Bool) where
  abbrev heard_now : Bool
  heard_now = heard_before || (some_now && not some_before && not failed_before)

  hears_true : (heard_before || (not some_before && not failed_before)) ≡ true → some_now ≡ true → heard_now ≡ true
  hears_true may some = go heard_before some_now some_before failed_before may some
    where
      go : (a s b f : Bool) → (a || (not b && not f)) ≡ true → s ≡ true → (a || (s && not b && not f)) ≡ true
      go true s b f may some = refl
      go false true b f may some = may
      go false false b f may some = absurd (let clash : false ≡ true = some in cc)

  hears_false : heard_before ≡ false → ((some_now ≡ false) ⊎ ((some_before ≡ true) ⊎ (failed_before ≡ true))) → heard_now ≡ false
  hears_false before why = go heard_before some_now some_before failed_before before why
    where
      and_false : (x : Bool) → (x && false) ≡ false
      and_false true = refl
      and_false false = refl

      go : (a s b f : Bool) → a ≡ false → ((s ≡ false) ⊎ ((b ≡ true) ⊎ (f ≡ true))) → (a || (s && not b && not f)) ≡ false
      go true s b f e why = e
      go false true false false e (inl s) = s
      go false true false false e (inr (inl b)) = absurd (let clash : false ≡ true = b in cc)
      go false true false false e (inr (inr f)) = absurd (let clash : false ≡ true = f in cc)
      go false _ _ _ e why = refl

failed_more : (c : ℕ) (e : Entry) (older : History) → has_failed c older ≡ true → has_failed c (e ∷ older) ≡ true
failed_more c (End n cause) older h = go (nat_eq n c && not (is_orderly cause)) h
  where
    go : (b : Bool) → has_failed c older ≡ true → (b || has_failed c older) ≡ true
    go true h = refl
    go false h = h
failed_more c _ older h = h

joined_more : (c : ℕ) (e : Entry) (older : History) → has_joined c older ≡ true → has_joined c (e ∷ older) ≡ true
joined_more c (Join n) older h = go (nat_eq n c) h
  where
    go : (b : Bool) → has_joined c older ≡ true → (b || has_joined c older) ≡ true
    go true h = refl
    go false h = h
joined_more c _ older h = h

plugged_more : (e : Entry) (older : History) → plugged_count older ≤ plugged_count (e ∷ older)
plugged_more (Attach t kind serial) older = omega arith
plugged_more _ older = omega arith

plugged_still : (t : ℕ) (e : Entry) (older : History) → is_some (plugged t older) ≡ true → is_some (plugged t (e ∷ older)) ≡ true
plugged_still t (Attach n kind serial) older h = go (nat_eq n t)
  where
    go : (b : Bool) → is_some (cond b (Some (new_row t kind serial)) (plugged t older)) ≡ true
    go true = refl
    go false = h
plugged_still t _ older h = h

-- who heard may
hears_may : (c : Bool) (x : Subject) (a : Seen) (s : State) (w : List Event) → IsShown c x a s w → c ≡ true → x.may ≡ true
hears_may true x a s w h e = h.out.may
hears_may false x a s w h e = absurd (let clash : false ≡ true = e in cc)

hears_some : (c : Bool) (x : Subject) (a : Seen) (s : State) (w : List Event) → IsShown c x a s w → c ≡ true → a.remote ≢ 0
hears_some true x a s w h e = h.out.told
hears_some false x a s w h e = absurd (let clash : false ≡ true = e in cc)

module _ (l : ℕ) (b : Birth) (e : Entry) (older : History) (legal : IsLegal (e ∷ older)) (came : has_joined b.client older
    ≡ true) (n : IsShownAt l b older) where
  abbrev now : History
  now = e ∷ older

  abbrev x : Subject
  x = subject_of l b older (may_hear l b older) (has_failed b.client (e ∷ older))

  begun : IsShown n.heard (subject_of l b older (may_hear l b older) (has_failed b.client (e ∷ older)))
      (seen l (since b older)) (state older) (told older)
  begun = resubject n.heard (subject_of l b older (may_hear l b older) (has_failed b.client older))
      (may_hear l b older) (has_failed b.client (e ∷ older))
      (seen l (since b older)) (state older) (told older) (record {
        live = λ y is owned. (n.shown.own y is).may owned;
        hears = λ c. hears_may n.heard (subject_of l b older (may_hear l b older) (has_failed b.client older))
            (seen l (since b older)) (state older)
            (told older) n.shown c;
        fails = failed_more b.client e older;
      }) n.shown

  -- why it did not hear by this entry
  abbrev pub NotNow : Type 0
  NotNow = (is_some (opening_of l b (e ∷ older)) ≡ false) ⊎ ((is_some (opening_of l b older) ≡ true) ⊎ (has_failed b.client older ≡ true))

  -- after the entry
  pub record IsStepped : Type 0 where
    pub within : b.packets_before ≤ length (brought b.link (e ∷ older))
    pub clean : list_any is_refused (take b.packets_before (brought b.link (e ∷ older))) ≡ false
    pub heard : Bool
    pub shown : IsShown heard (subject_of l b older (may_hear l b older) (has_failed b.client (e ∷ older))) (seen l (since b (e ∷ older)))
        (state (e ∷ older)) (told (e ∷ older))
    pub none : heard ≡ false → NotNow

  -- who heard before hears
  heard_before : (c : Bool) → IsShown c (subject_of l b older (may_hear l b older) (has_failed b.client (e ∷ older)))
      (seen l (since b older)) (state older)
      (told older)
      → IsShown false (subject_of l b older (may_hear l b older) (has_failed b.client (e ∷ older)))
      (seen l (since b (e ∷ older))) (state (e ∷ older)) (told
      (e ∷ older))
      → c ≡ false
  heard_before false before after = refl
  heard_before true before after =
      absurd (opened_not_closed (asked b.client older).replies before.out.bytes (owed_to b.client (told_at e older)) after.out.closed
      (ap (λ v. v ++ owed_to b.client (told_at e older)) (sym before.out.out_is)
      ∙ (sym (owed_append b.client (told older) (told_at e older)) ∙ after.out.out_is)))

  hears_so : (c : Bool) → IsShown c (subject_of l b older (may_hear l b older) (has_failed b.client (e ∷ older)))
      (seen l (since b (e ∷ older))) (state
      (e ∷ older))
      (told (e ∷ older)) → (c ≡ false → NotNow) → c ≡ is_heard l b (e ∷ older)
  hears_so true h none = sym (hears_true (is_heard l b older) (is_some (opening_of l b (e ∷ older))) (is_some (opening_of l b older))
      (has_failed b.client older)
      h.out.may (some_remote l (since b (e ∷ older)) h.out.told))
  hears_so false h none = sym (hears_false (is_heard l b older) (is_some (opening_of l b (e ∷ older))) (is_some (opening_of l b older))
      (has_failed b.client older)
      (sym n.is ∙ heard_before n.heard begun h) (none refl))

  -- a client of a stream that lives has not failed
  not_failed : (c : Bool) (y : Stream) (r : Subject) (a : Seen) → r.stream ≡ l → r.client ≡ b.client
      → IsShown c r a (state (e ∷ older)) (told (e ∷ older)) → (state (e ∷ older)).streams l ≡ Some y → y.client ≡ b.client
      → y.part.orphan ≡ false → has_failed b.client (e ∷ older) ≡ false
  not_failed c y r a stream client h is own owned = go (has_failed b.client (e ∷ older)) refl
    where
      go : (f : Bool) → has_failed b.client (e ∷ older) ≡ f → has_failed b.client (e ∷ older) ≡ false
      go false f = f
      go true f =
          let of = client_of (state (e ∷ older)) l y is owned h.owned in
          let done = (all_failed (e ∷ older) legal b.client (joined_more b.client e older came) f).1 in
          absurd (never_closing l y.part.remote
          (sym (done.row of.client (subst (λ (k : ℕ). (state (e ∷ older)).clients k ≡ Some of.client) own of.is)) ∙ of.phase))

  -- and then it is known as much
  module _ (replies : (asked b.client (e ∷ older)).replies ≡ (asked b.client older).replies) where
    may_live : (c : Bool) → IsShown c (subject_of l b older (may_hear l b older) (has_failed b.client (e ∷ older)))
        (seen l (since b (e ∷ older)))
        (state (e ∷ older)) (told (e ∷ older)) → c ≡ is_heard l b (e ∷ older) → (y : Stream)
        → (state (e ∷ older)).streams l ≡ Some y → y.part.orphan ≡ false
        → may_hear l b (e ∷ older) ≡ true
    may_live true h is y at_l owned =
        ap (λ (v : Bool). v || (not (is_some (opening_of l b (e ∷ older))) && not (has_failed b.client (e ∷ older)))) (sym is)
    may_live false h is y at_l owned =
        let x : Subject = subject_of l b older (may_hear l b older) (has_failed b.client (e ∷ older)) in
        let none : is_some (opening_of l b (e ∷ older)) ≡ false =
        none_remote l (since b (e ∷ older)) (waiting_none x (since b (e ∷ older)) (state (e ∷ older)) (told (e ∷ older)) y at_l h) in
        let alive = not_failed false y x (seen l (since b (e ∷ older))) refl refl h at_l (h.own y at_l).client owned in
        ap (λ (v : Bool). v || (not (is_some (opening_of l b (e ∷ older))) && not (has_failed b.client (e ∷ older)))) (sym is)
        ∙ (ap (λ (v : Bool). not v && not (has_failed b.client (e ∷ older))) none ∙ ap not alive)

    may_heard : (c : Bool) → c ≡ is_heard l b (e ∷ older) → c ≡ true → may_hear l b (e ∷ older) ≡ true
    may_heard c is f =
        ap (λ (v : Bool). v || (not (is_some (opening_of l b (e ∷ older))) && not (has_failed b.client (e ∷ older))))
        (sym is ∙ f)

    pub finished : IsStepped → IsShownAt l b (e ∷ older)
    finished m =
        let x : Subject = subject_of l b older (may_hear l b older) (has_failed b.client (e ∷ older)) in
        let is = hears_so m.heard m.shown m.none in
        record {
          within = m.within;
          plugged = plugged_still b.link e older n.plugged;
          clean = m.clean;
          drawn = (let more = plugged_more e older in omega (arith, n.drawn, more, (counted older).plugged, (counted (e ∷ older)).plugged));
          heard = m.heard;
          is = is;
          shown = subst (λ (r : List ℕ). IsShown m.heard (record {
            stream = l;
            client = b.client;
            link = b.link;
            replies = r;
            may = may_hear l b (e ∷ older);
            failed = has_failed b.client (e ∷ older);
            cut = true;
          }) (seen l (since b (e ∷ older))) (state (e ∷ older)) (told (e ∷ older))) (sym replies)
              (resubject m.heard x (may_hear l b (e ∷ older)) (has_failed b.client (e ∷ older))
              (seen l (since b (e ∷ older))) (state (e ∷ older)) (told
              (e ∷ older))
              (record {
                live = λ y at_l owned. may_live m.heard m.shown is y at_l owned;
                hears = may_heard m.heard is;
                fails = λ f. f;
              }) m.shown);
        }

-- ---- an entry by which the link brings nothing
module _ (l : ℕ) (b : Birth) (e : Entry) (older : History) (legal : IsLegal (e ∷ older)) (came : has_joined b.client older
    ≡ true) (n : IsShownAt l b older) where
  -- it may not have been heard now, where it was not told now
  same_none : is_some (opening_of l b (e ∷ older)) ≡ is_some (opening_of l b older) → NotNow l b e older legal came n
  same_none same = go (is_some (opening_of l b older)) refl
    where
      go : (v : Bool) → is_some (opening_of l b older) ≡ v → NotNow l b e older legal came n
      go true f = inr (inl f)
      go false f = inl (same ∙ f)

  pub stepped_same : brought b.link (e ∷ older) ≡ brought b.link older
      → IsShown n.heard (subject_of l b older (may_hear l b older) (has_failed b.client (e ∷ older)))
      (seen l (since b older)) (state (e ∷ older)) (told
      (e ∷ older))
      → IsStepped l b e older legal came n
  stepped_same same h = record {
    within = subst (λ (ps : List Packet). b.packets_before ≤ length ps) (sym same) n.within;
    clean = subst (λ (ps : List Packet). list_any is_refused (take b.packets_before ps) ≡ false) (sym same) n.clean;
    heard = n.heard;
    shown = subst (λ (ps : List Packet). IsShown n.heard (subject_of l b older (may_hear l b older) (has_failed b.client (e ∷ older)))
        (seen l (drop b.packets_before ps)) (state (e ∷ older)) (told (e ∷ older))) (sym same) h;
    none = λ f. same_none (ap (λ (ps : List Packet). is_some (opening_in l (drop b.packets_before ps))) same);
  }

  below : b.client ≤ (state older).joined
  below = let le = joined_below older legal.0 b.client came in omega (arith, le, (counted older).joined)

  pub stepped_other : brought b.link (e ∷ older) ≡ brought b.link older
      → Covers (aside (subject_of l b older (may_hear l b older) (has_failed b.client (e ∷ older)))) e → IsStepped l b e older legal came n
  stepped_other same covers = stepped_same same
      (client_kept (shown_of n.heard (subject_of l b older (may_hear l b older) (has_failed b.client (e ∷ older)))
      (seen l (since b older))) (state older)
      (told older) e
      (another_comes b.client b.link (state older) e (below, n.drawn) legal.2) covers legal.2 (begun l b e older legal came n))

-- ---- bytes are received
module _ (l : ℕ) (b : Birth) (t : ℕ) (bytes : List ℕ) (older : History) (legal : IsLegal (Recv t bytes ∷ older))
    (came : has_joined b.client older ≡ true)
    (n : IsShownAt l b older) where
  abbrev e : Entry
  e = Recv t bytes

  abbrev s : State
  s = state older

  abbrev w : List Event
  w = told older

  abbrev r : Subject
  r = subject_of l b older (may_hear l b older) (has_failed b.client older)

  from : IsShown n.heard (subject_of l b older (may_hear l b older) (has_failed b.client older)) (seen l (since b older)) s w
  from = begun l b e older legal came n

  ups_shown : (heard : Bool) (a : Seen)
      → IsShown heard (subject_of l b older (may_hear l b older) (has_failed b.client older)) a (rule e s).state (w ++
      (rule e s).told)
      → IsShown heard (subject_of l b older (may_hear l b older) (has_failed b.client older)) a (state (e ∷ older)) (told (e ∷ older))
  ups_shown heard a h =
      after_then (λ s w. IsShown heard (subject_of l b older (may_hear l b older) (has_failed b.client older)) a s w)
      w (rule e s) ups h
      (λ v now. client_ups (shown_of heard (subject_of l b older (may_hear l b older) (has_failed b.client older)) a)
      (rule e s).state v now)

  pub recv_apart : t ≢ b.link → IsStepped l b e older legal came n
  recv_apart apart = stepped_same l b e older legal came n (brought_apart t b.link bytes older apart)
      (ups_shown n.heard (seen l (since b older))
      (receives_apart (subject_of l b older (may_hear l b older) (has_failed b.client older)) (seen l (since b older))
      t apart n.heard bytes s w from))

module _ (l : ℕ) (b : Birth) (bytes : List ℕ) (older : History) (legal : IsLegal (Recv b.link bytes ∷ older))
    (came : has_joined b.client older ≡ true)
    (n : IsShownAt l b older) where
  abbrev here : Entry
  here = Recv b.link bytes

  -- it brings more
  within_more : (qs : List Packet) → brought b.link (Recv b.link bytes ∷ older) ≡ brought b.link older ++ qs
      → b.packets_before ≤ length (brought b.link (Recv b.link bytes ∷ older))
  within_more qs is = omega (arith, n.within, ap length is, length-append (brought b.link older) qs)

  clean_more : (qs : List Packet) → brought b.link (Recv b.link bytes ∷ older) ≡ brought b.link older ++ qs
      → list_any is_refused (take b.packets_before (brought b.link (Recv b.link bytes ∷ older))) ≡ false
  clean_more qs is = ap (λ (ps : List Packet). list_any is_refused (take b.packets_before ps)) is
      ∙ (ap (list_any is_refused) (take-append-le b.packets_before (brought b.link older) qs n.within) ∙ n.clean)

  since_more : (qs : List Packet) → brought b.link (Recv b.link bytes ∷ older) ≡ brought b.link older ++ qs
      → since b (Recv b.link bytes ∷ older) ≡ since b older ++ qs
  since_more qs is = ap (drop b.packets_before) is ∙ drop-append-le b.packets_before (brought b.link older) qs n.within

  shown_from : IsShown n.heard (subject_of l b older (may_hear l b older) (has_failed b.client older))
      (seen l (since b older)) (state older) (told older)
  shown_from = begun l b (Recv b.link bytes) older legal came n

  -- the link lives
  recv_live : (link : Link) → (state older).links b.link ≡ Some link → IsStepped l b (Recv b.link bytes) older legal came n
  recv_live link is =
      let x : Subject = subject_of l b older (may_hear l b older) (has_failed b.client older) in
      let reads = subst (λ (o : Option Link). ReadTie (is_lost b.link older) o (bytes_received b.link older)) is
      ((received older legal.0).links b.link) in
      let qs = (cut_packets (record { sums = link.sums }) (link.rest ++ bytes)).given in
      let more = brought_live b.link bytes older link reads.0 reads.1 in
      let treated = receives_here x bytes (since b older) link (state older) (told older) (all_linked older legal.0)
      is n.heard shown_from in
      record {
        within = within_more qs more;
        clean = clean_more qs more;
        heard = treated.heard;
        shown = subst
            (λ (ps : List Packet). IsShown treated.heard x (seen l ps) (state (Recv b.link bytes ∷ older))
            (told (Recv b.link bytes ∷ older)))
            (sym (since_more qs more))
            (ups_shown l b b.link bytes older legal came n treated.heard (seen l (since b older ++ qs))
            treated.shown);
        none = λ f. live_none qs more (treated.none f);
      }
    where
      live_none : (qs : List Packet) → brought b.link (Recv b.link bytes ∷ older) ≡ brought b.link older ++ qs
          → (remote_in (opening_in l (since b older ++ qs)) ≡ 0) ⊎ (has_failed b.client older ≡ true)
          → NotNow l b (Recv b.link bytes) older legal came n
      live_none qs more (inl none) =
          inl (ap (λ (ps : List Packet). is_some (opening_in l ps)) (since_more qs more)
          ∙ none_remote l (since b older ++ qs) none)
      live_none qs more (inr f) = inr (inr f)

  -- the link is gone: what it brings opens nothing
  module _ (gone : (state older).links b.link ≡ None) where
    device_none : is_some (device_of b.link older) ≡ false
    device_none =
        let shows = shows_devices older legal.0 in
        ap is_some (sym (shows.rows legal.2.0 b.link)) ∙ (sym (shows.linked b.link) ∙ ap is_some gone)

    -- it brought no CNXN with which no device is taken, where the stream is pending
    unrefused : IsPending l (since b older) → list_any is_refused (brought b.link older) ≡ false
    unrefused pending =
        ap (list_any is_refused) (sym (take-append-drop b.packets_before (brought b.link older)))
        ∙ (list_any-append is_refused (take b.packets_before (brought b.link older)) (since b older)
        ∙ (ap (λ (v : Bool). v || list_any is_refused (since b older)) n.clean ∙ pending_taken l (since b older) pending))

    plugged_device : (o : Option Row) → is_some o ≡ true → (f : Row → Row) → is_some (option_map f o) ≡ true
    plugged_device None e f = e
    plugged_device (Some row) e f = refl

    pending_none : IsPending l (since b older) → brought b.link (Recv b.link bytes ∷ older) ≡ brought b.link older
    pending_none pending = go (is_lost b.link older) refl (framed (bytes_received b.link older)).fault refl
      where
        go : (lost : Bool) → is_lost b.link older ≡ lost → (o : Option PacketFault) → (framed (bytes_received b.link older)).fault ≡ o
            → brought b.link (Recv b.link bytes ∷ older) ≡ brought b.link older
        go true e o f = brought_lost b.link bytes older e
        go false e (Some fault) f = brought_faulty b.link bytes older fault e f
        go false e None f =
            let there : is_some (device_of b.link older) ≡ true =
            ap (λ (v : Bool). is_some (cond (v || is_broken b.link older) None
            (option_map (row_by (last_cnxn (brought b.link older)) (brought b.link older)) (plugged b.link older)))) e
            ∙ (ap (λ (o : Option PacketFault). is_some (cond (is_some o || list_any is_refused (brought b.link older)) None
            (option_map (row_by (last_cnxn (brought b.link older)) (brought b.link older)) (plugged b.link older)))) f
            ∙ (ap (λ (v : Bool). is_some (cond v None
            (option_map (row_by (last_cnxn (brought b.link older)) (brought b.link older)) (plugged b.link older)))) (unrefused pending)
            ∙ plugged_device (plugged b.link older) n.plugged (row_by (last_cnxn (brought b.link older)) (brought b.link older)))) in
            absurd (let clash : true ≡ false = sym there ∙ device_none in cc)

    gone_none : NotNow l b (Recv b.link bytes) older legal came n
    gone_none = go (opening_in l (since b older)) refl (sealed_in l (since b older)) refl
      where
        more : BringsMore b.link bytes older
        more = brings_more b.link bytes older

        go : (o : Option FirstOkay) → opening_in l (since b older) ≡ o → (v : Bool) → sealed_in l (since b older) ≡ v
            → NotNow l b (Recv b.link bytes) older legal came n
        go (Some o) is v f = inr (inl (ap is_some is))
        go None is true f = inl (ap (λ (ps : List Packet). is_some (opening_in l ps)) (since_more more.more more.is)
            ∙ none_remote l (since b older ++ more.more) (remote_sealed l (since b older) more.more f))
        go None is false f =
            inl (ap (λ (ps : List Packet). is_some (opening_in l (drop b.packets_before ps))) (pending_none (is, f))
            ∙ ap is_some is)

    recv_gone : IsStepped l b (Recv b.link bytes) older legal came n
    recv_gone =
        let x : Subject = subject_of l b older (may_hear l b older) (has_failed b.client older) in
        let more = brings_more b.link bytes older in
        let none = no_link x n.heard (seen l (since b older)) (state older) (told older) (all_linked older legal.0) gone shown_from in
        let shown = gone_more x n.heard (since b older) more.more (state older) (told older) none shown_from in
        let ruled = subst (λ (m : Made). IsShown n.heard x (seen l (since b older ++ more.more)) m.state (told older ++ m.told))
        (sym (ap (λ (o : Option Link). receives_on o b.link bytes (state older)) gone))
        (after_quietly (λ s w. IsShown n.heard x (seen l (since b older ++ more.more)) s w) (told older) (state older) shown) in
        record {
          within = within_more more.more more.is;
          clean = clean_more more.more more.is;
          heard = n.heard;
          shown = subst
              (λ (ps : List Packet). IsShown n.heard x (seen l ps) (state (Recv b.link bytes ∷ older))
              (told (Recv b.link bytes ∷ older)))
              (sym (since_more more.more more.is))
              (ups_shown l b b.link bytes older legal came n n.heard (seen l (since b older ++ more.more)) ruled);
          none = λ f. gone_none;
        }

  pub recv_here : IsStepped l b (Recv b.link bytes) older legal came n
  recv_here = go ((state older).links b.link) refl
    where
      go : (o : Option Link) → (state older).links b.link ≡ o → IsStepped l b (Recv b.link bytes) older legal came n
      go None is = recv_gone is
      go (Some link) is = recv_live link is
