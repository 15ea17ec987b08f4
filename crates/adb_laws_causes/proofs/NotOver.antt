-- By which entries a stream that its client has open is not over.
use Rattle.std.proofs.Common.{◌≡◌, ◌≢◌, ◌-◌, ℕ, zero, suc, Bool, true, false, cond, ◌||◌, List, [], ◌∷◌, ◌++◌, length, take, drop, Option}
use Rattle.std.proofs.Common.{Some, None}
use Rattle.std.proofs.Common.{refl, sym, ap, subst, ◌∙◌}
use Rattle.std.proofs.Common.{arith, ◌⊎◌, inl, inr}
use Rattle.std.specs.Prelude.{is_some}
use Rattle.std.proofs.lemmas.Bool.{ne_eqb}
use Rattle.adb_stream.specs.declared.flow.Flow.{Flow}
use Rattle.adb_stream.specs.declared.row.Stream.{Stream}
use Rattle.adb_capture.specs.declared.entry.Entry.{Entry}
use Rattle.adb_capture.specs.declared.entry.Entry.TheVariants.{Read, Bound, Attach, Detach}
use Rattle.adb_stream.specs.Flow.{is_idle}
use Rattle.adb_history.specs.Rows.{Client, State}
use Rattle.adb_history.specs.Machine.{rule, History, state, IsLegal}
use Rattle.adb_history.specs.Bytes.{is_lost, bytes_received}
use Rattle.adb_history.specs.Book.{book}
use Rattle.adb_laws_causes.proofs.UntouchedEntries.{Pair}
use Rattle.std.proofs.lemmas.List.{append-nil}
use Rattle.adb_wire.specs.Cutting.{framed}
use Rattle.adb_stream.specs.declared.flow.Flow.TheVariants.{One, Credit}
use Rattle.adb_history.specs.Flow.{with_flow}
use Rattle.std.specs.Prelude.{unwrap_or, option_map}
use Rattle.std.specs.List.{list_any}
use Rattle.adb_outside.specs.Tables.{at}
use Rattle.adb_registry.specs.Row.{new_row}
use Rattle.adb_registry.specs.declared.row.Row.{Row}
use Rattle.adb_history.specs.Links.{is_connected, is_connected_row, maxdata_of}
use Rattle.adb_history.specs.Flow.{write_len, write_before, writes, payloads, total, flow_after, is_over, is_streaming}
use Rattle.adb_history.specs.Book.{plugged, device_of, is_refused, last_cnxn, row_by, is_killed}
use Rattle.adb_history.proofs.LinkMoves.{all_linked}
use Rattle.adb_history.proofs.OrderlyStates.{rests_calm}
use Rattle.adb_history.proofs.Quiet.{IsCalm}
use Rattle.adb_history.proofs.Sweep.{Sending, over}
use Rattle.adb_history.proofs.Devices.{shows_devices}
use Rattle.adb_history.proofs.Books.{all_books}
use Rattle.adb_history.proofs.Sweep.{up_to}
use Rattle.adb_history.specs.Flow.{up_all}
use Rattle.adb_laws_causes.proofs.RuleFates.{drawn_row}
use Rattle.adb_history.proofs.Calm.{LetsSame}
use Rattle.adb_laws_causes.proofs.Fates.{lives, row_lives}
use Rattle.adb_laws_causes.proofs.Endings.{stopped_after}
use Rattle.adb_laws_causes.proofs.OtherCauses.{Kills, reads_kills, bound_killed}
use Rattle.adb_laws_causes.proofs.Goings.{GoesOn}
use Rattle.adb_laws_causes.proofs.RuleSteps.{Becomes}

-- ---- what a stream that is not over may send
-- where nothing may be sent of what is held, and it is not over, more that is held does not end it
not_ended : (held : List ℕ) (flow : Flow) → is_over false held flow ≡ false
not_ended [] flow = refl
not_ended (c ∷ held) flow = refl

held_on : (ended : Bool) (held bytes : List ℕ) (flow : Flow) → is_over ended held flow ≡ false → is_over ended (held ++ bytes) flow ≡ false
held_on ended (c ∷ held) bytes flow e = refl
held_on ended [] (c ∷ bytes) flow e = refl
held_on ended [] [] flow e = e

no_write : (n : ℕ) (held : List ℕ) (others : List (List ℕ)) → write_before n held others ≡ [] → n ≡ 0
no_write zero held others e = refl
no_write (suc n) held others e = absurd (let clash : take (suc n) held ∷ others ≡ [] = e in cc)

-- more is held, of which nothing may be sent either; or it goes up in a write that waits
read_goes : (flow : Flow) (maxdata : ℕ) (ended : Bool) (held bytes : List ℕ) → payloads flow maxdata held ≡ []
    → is_over ended held flow ≡ false
    → is_over ended (drop (total (payloads flow maxdata (held ++ bytes))) (held ++ bytes))
    (flow_after (payloads flow maxdata (held ++ bytes)) flow) ≡ false
read_goes flow maxdata false held bytes none on =
    not_ended (drop (total (payloads flow maxdata (held ++ bytes))) (held ++ bytes))
    (flow_after (payloads flow maxdata (held ++ bytes)) flow)
read_goes (One window) maxdata true held bytes none on = go window.outstanding refl
  where
    -- a write that goes up waits
    busy : (rest : List ℕ) (w : Flow) → is_idle w ≡ false → is_over true rest w ≡ false
    busy [] w e = e
    busy (c ∷ rest) w e = refl

    free : (n : ℕ) → is_over true (drop (total (write_before n (held ++ bytes) [])) (held ++ bytes))
        (flow_after (write_before n (held ++ bytes) [])
        (One window)) ≡ false
    free zero = held_on true held bytes (One window) on
    free (suc n) = busy (drop (total (write_before (suc n) (held ++ bytes) [])) (held ++ bytes))
        (One (record window { outstanding = true })) refl

    go : (b : Bool) → window.outstanding ≡ b
        → is_over true (drop (total (cond b [] (writes 1 maxdata maxdata (held ++ bytes)))) (held ++ bytes))
        (flow_after (cond b [] (writes 1 maxdata maxdata (held ++ bytes))) (One window)) ≡ false
    go true e = held_on true held bytes (One window) on
    go false e = free (write_len maxdata maxdata (held ++ bytes))
read_goes (Credit credit) maxdata true held bytes none on = go held none on
  where
    go : (held : List ℕ) → writes (length held) maxdata credit.to_send held ≡ [] → is_over true held (Credit credit) ≡ false
        → is_over true (drop (total (writes (length (held ++ bytes)) maxdata credit.to_send (held ++ bytes))) (held ++ bytes))
        (flow_after (writes (length (held ++ bytes)) maxdata credit.to_send (held ++ bytes)) (Credit credit)) ≡ false
    go [] e f = absurd (let clash : true ≡ false = f in cc)
    go (c ∷ held) e f =
        let nil : write_len maxdata credit.to_send (c ∷ held) ≡ 0 =
        no_write (write_len maxdata credit.to_send (c ∷ held)) (c ∷ held)
        (writes (length held) maxdata (credit.to_send - write_len maxdata credit.to_send (c ∷ held))
        (drop (write_len maxdata credit.to_send (c ∷ held))
        (c ∷ held)))
        e in
        let still : write_len maxdata credit.to_send (c ∷ held ++ bytes) ≡ 0 = small nil in
        let stops : writes (length (c ∷ held ++ bytes)) maxdata credit.to_send (c ∷ held ++ bytes) ≡ [] =
        ap (λ n. write_before n (c ∷ held ++ bytes) (writes (length (held ++ bytes)) maxdata
        (credit.to_send - write_len maxdata credit.to_send (c ∷ held ++ bytes)) (drop (write_len maxdata credit.to_send (c ∷ held ++ bytes))
        (c ∷ held ++ bytes)))) still in
        ap (λ (ps : List (List ℕ)). is_over true (drop (total ps) (c ∷ held ++ bytes)) (flow_after ps (Credit credit))) stops
      where
        small : write_len maxdata credit.to_send (c ∷ held) ≡ 0 → write_len maxdata credit.to_send (c ∷ held ++ bytes) ≡ 0
        small nil = (let some : length (c ∷ held) ≡ suc (length held) = refl in let more : length (c ∷ held ++ bytes)
            ≡ suc (length (held ++ bytes)) = refl in
            omega (arith, nil, some, more))

-- ---- the device of its link
-- what the entries of a link say of its device
abbrev device_as : Bool → List ℕ → Option Row → Option Row
device_as lost received row =
    cond (lost || (is_some (framed received).fault || list_any is_refused (framed received).given)) None
    (option_map (row_by (last_cnxn (framed received).given) (framed received).given) row)

-- an entry that leaves a link: it neither detaches it nor plugs it in
abbrev pub LeavesLink : ℕ → Entry → Type 0
LeavesLink t (Detach n cause) = n ≢ t
LeavesLink t (Attach n kind serial) = n ≢ t
LeavesLink t _ = Unit {0}

same_lost : (t : ℕ) (e : Entry) (older : History) → LeavesLink t e → is_lost t (e ∷ older) ≡ is_lost t older
same_lost t (Detach n cause) older far = ap (λ b. b || is_lost t older) (ne_eqb n t far)
same_lost t _ older far = refl

same_plugged : (t : ℕ) (e : Entry) (older : History) → LeavesLink t e → plugged t (e ∷ older) ≡ plugged t older
same_plugged t (Attach n kind serial) older far = ap (λ b. cond b (Some (new_row t kind serial)) (plugged t older)) (ne_eqb n t far)
same_plugged t _ older far = refl

same_device : (t : ℕ) (e : Entry) (older : History) → LeavesLink t e → bytes_received t (e ∷ older) ≡ bytes_received t older
    → device_of t (e ∷ older) ≡ device_of t older
same_device t e older far received =
    ap (λ b. device_as b (bytes_received t (e ∷ older)) (plugged t (e ∷ older))) (same_lost t e older far)
    ∙ (ap (λ bytes. device_as (is_lost t older) bytes (plugged t (e ∷ older))) received
    ∙ ap (λ row. device_as (is_lost t older) (bytes_received t older) row) (same_plugged t e older far))

-- the server was not stopped while a stream lives
lives_on : (older : History) (l : ℕ) (x : Stream) → IsLegal older → (state older).streams l ≡ Some x → (state older).stopped ≡ false
lives_on older l x legal is = go (state older).stopped refl
  where
    connected : is_connected x.link (state older).devices ≡ true
    connected = ((all_linked older legal).on l x is).connected

    go : (b : Bool) → (state older).stopped ≡ b → b ≡ false
    go false e = refl
    go true e = absurd (let clash : false ≡ true =
        sym (ap (λ rows. is_connected_row (at x.link rows)) ((shows_devices older legal).gone e)) ∙ connected in cc)

-- an entry that leaves a stream alive makes no kill
same_kill : (e : Entry) (older : History) → IsLegal (e ∷ older) → is_killed (e ∷ older) ≡ is_killed older
    → (rule e (state older)).state.stopped ≡ (state older).stopped
same_kill e older legal same =
    sym (stopped_after e older) ∙ ((all_books (e ∷ older) legal).killed ∙ (same ∙ sym (all_books older legal.0).killed))

rule_on : (e : Entry) (older : History) (l : ℕ) → IsLegal (e ∷ older) → lives ((rule e (state older)).state.streams l) ≡ true
    → (rule e (state older)).state.stopped ≡ (state older).stopped
rule_on (Read c bytes) older l legal on = go (reads_kills l ((state older).clients c) c bytes (state older))
  where
    go : Kills l (state older) (rule (Read c bytes) (state older))
        → (rule (Read c bytes) (state older)).state.stopped ≡ (state older).stopped
    go (inl same) = same
    go (inr gone) = absurd (let clash : false ≡ true = sym (ap lives gone) ∙ on in cc)
rule_on (Bound c port) older l legal on = same_kill (Bound c port) older legal (bound_killed c port older ((book older).waits c))
rule_on e older l legal on = same_kill e older legal refl

up_devices : (k : ℕ) (s : State) → (up_all k s).state.devices ≡ s.devices
up_devices zero s = refl
up_devices (suc k) s =
    up_to (λ t. t.devices ≡ (up_all k s).state.devices) (suc k) (up_all k s).state
    (record { stays = λ idle. refl; sends = λ x links e. refl; ends = λ x links e. refl }) ∙ up_devices k s

-- the device of a link that an entry leaves takes as much as before
maxdata_same : (e : Entry) (older : History) (l : ℕ) (x : Stream) → IsLegal (e ∷ older)
    → ((state older).streams l ≡ Some x) × (lives ((rule e (state older)).state.streams l) ≡ true)
    → LeavesLink x.link e × (bytes_received x.link (e ∷ older) ≡ bytes_received x.link older)
    → maxdata_of x.link (rule e (state older)).state.devices ≡ maxdata_of x.link (state older).devices
maxdata_same e older l x legal on far =
    let before : (state older).stopped ≡ false = lives_on older l x legal.0 on.0 in
    let after : (state (e ∷ older)).stopped ≡ false = stopped_after e older ∙ (rule_on e older l legal on.1 ∙ before) in
    let ruled : (state (e ∷ older)).devices ≡ (rule e (state older)).state.devices = up_devices (rule e (state older)).state.drawn (rule e
    (state older)).state in
    ap (maxdata_of x.link) (sym ruled)
    ∙ ap (λ (o : Option Row). unwrap_or (option_map (λ row. row.maxdata) o) 0)
    ((shows_devices (e ∷ older) legal).rows after x.link
    ∙ (same_device x.link e older far.0 far.1 ∙ sym ((shows_devices older legal.0).rows before x.link)))

-- ---- it goes on
-- what a stream may send, told of the stream and the client that are left
goes_as : (l : ℕ) (x : Stream) (k : Client) (s : State) → Becomes l x k s
    → (is_streaming l k.about.phase ≡ true → is_over k.about.ended
    (drop (total (payloads x.part.flow (maxdata_of x.link s.devices) k.held)) k.held)
    (flow_after (payloads x.part.flow (maxdata_of x.link s.devices) k.held) x.part.flow) ≡ false) → GoesOn l s
goes_as l x k s is on = record { goes = λ y. go y }
  where
    go : (y : Sending l s) → over l s y ≡ false
    go y =
        let row : x ≡ y.stream = (let both : Some x ≡ Some y.stream = sym is.row ∙ y.there in cc) in
        let client : k ≡ y.client =
        (let both : Some k ≡ Some y.client = sym is.here
        ∙ (ap (λ (z : Stream). s.clients z.client) row ∙ y.here) in cc) in
        subst (λ (z : Client). is_over z.about.ended
        (drop (total (payloads y.stream.part.flow (maxdata_of y.stream.link s.devices) z.held)) z.held)
        (flow_after (payloads y.stream.part.flow (maxdata_of y.stream.link s.devices) z.held) y.stream.part.flow) ≡ false) client
        (subst (λ (z : Stream). is_over k.about.ended (drop (total (payloads z.part.flow (maxdata_of z.link s.devices) k.held)) k.held)
        (flow_after (payloads z.part.flow (maxdata_of z.link s.devices) k.held) z.part.flow) ≡ false) row
        (on (ap (λ (z : Client). is_streaming l z.about.phase) client ∙ y.streaming)))

-- at rest
calm_pair : (older : History) (l : ℕ) (x : Stream) (p : Pair l x (state older)) → IsLegal older → is_streaming l p.client.about.phase ≡ true
    → IsCalm (state older).devices p.client x
calm_pair older l x p legal streaming =
    (rests_calm older legal l
    (drawn_row (state older).drawn l (state older).streams (all_linked older legal).owned.rows.streams x
    p.is).0).calm
    (record { stream = x; client = p.client; there = p.is; here = p.here; streaming = streaming })

module _ (e : Entry) (older : History) (l : ℕ) (x : Stream) (flow : Flow) (bytes : List ℕ) where
  -- a stream whose flow lets the same go up, with the same or more that is held
  pub stays_on : (p : Pair l x (state older)) (k : Client) → IsLegal (e ∷ older) × (k.about.phase ≡ p.client.about.phase) × (k.about.ended
      ≡ p.client.about.ended) × (k.held ≡ p.client.held ++ bytes) → LetsSame x.part.flow flow × ((bytes ≡ []) ⊎ (flow ≡ x.part.flow))
      → LeavesLink x.link e × (bytes_received x.link (e ∷ older) ≡ bytes_received x.link older)
      → Becomes l (record x { part = with_flow flow x.part }) k (rule e (state older)).state → GoesOn l (rule e (state older)).state
  stays_on p k at lets far is =
      goes_as l y k (rule e (state older)).state is
      (λ streaming. over_is (calm_pair older l x p at.0.0 (ap (is_streaming l) (sym at.1) ∙ streaming)) lets.1)
    where
      y : Stream
      y = record x { part = with_flow flow x.part }

      md : ℕ
      md = maxdata_of x.link (rule e (state older)).state.devices

      same : maxdata_of x.link (rule e (state older)).state.devices ≡ maxdata_of x.link (state older).devices
      same = maxdata_same e older l x at.0 (
        p.is,
        row_lives ((rule e (state older)).state.streams l)
            (record x { part = with_flow flow x.part }) is.row p.alive,
      ) far

      over_is : IsCalm (state older).devices p.client x → (bytes ≡ []) ⊎ (flow ≡ x.part.flow)
          → is_over k.about.ended (drop (total (payloads flow (maxdata_of x.link (rule e (state older)).state.devices) k.held)) k.held)
          (flow_after (payloads flow (maxdata_of x.link (rule e (state older)).state.devices) k.held) flow) ≡ false
      over_is calm (inr own) =
          ap (λ (f : Flow). is_over k.about.ended (drop (total (payloads f md k.held)) k.held) (flow_after (payloads f md k.held) f)) own
          ∙ (ap (λ (m : ℕ). is_over k.about.ended (drop (total (payloads x.part.flow m k.held)) k.held) (flow_after
          (payloads x.part.flow m k.held) x.part.flow)) same
          ∙ (ap (λ (held : List ℕ). is_over k.about.ended
          (drop (total (payloads x.part.flow (maxdata_of x.link (state older).devices) held)) held)
          (flow_after (payloads x.part.flow (maxdata_of x.link (state older).devices) held) x.part.flow)) at.3
          ∙ (ap (λ ended. is_over ended
          (drop (total (payloads x.part.flow (maxdata_of x.link (state older).devices)
          (p.client.held ++ bytes)))
          (p.client.held ++ bytes))
          (flow_after (payloads x.part.flow (maxdata_of x.link (state older).devices) (p.client.held ++ bytes)) x.part.flow)) at.2
          ∙ read_goes x.part.flow (maxdata_of x.link (state older).devices) p.client.about.ended p.client.held bytes
          calm.nothing calm.goes_on)))
      over_is calm (inl none) =
          let held : k.held ≡ p.client.held = at.3 ∙ (ap (λ w. p.client.held ++ w) none ∙ append-nil p.client.held) in
          let nothing : payloads flow md k.held ≡ [] =
          lets.0.payloads md k.held ∙ (ap (λ (m : ℕ). payloads x.part.flow m k.held) same
          ∙ (ap (payloads x.part.flow (maxdata_of x.link (state older).devices)) held ∙ calm.nothing)) in
          ap (λ (ps : List (List ℕ)). is_over k.about.ended (drop (total ps) k.held) (flow_after ps flow)) nothing
          ∙ (lets.0.over k.about.ended k.held
          ∙ (ap (λ w. is_over k.about.ended w x.part.flow) held ∙ (ap (λ b. is_over b p.client.held x.part.flow) at.2 ∙ calm.goes_on)))
