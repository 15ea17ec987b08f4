-- At rest each open stream of a server has settled at both ends.
use Rattle.std.specs.Prelude.{ℕ, ◌+◌, ◌^◌, ◌≡◌, ◌≢◌, ◌<◌, ◌≤◌, ◌&&◌, not, Bool, true, false, cond, nat_eq, is_some, All, List, [], ◌∷◌}
use Rattle.std.specs.Prelude.{◌++◌, length, take}
use Rattle.std.specs.Prelude.{drop}
use Rattle.std.specs.Prelude.{fold, option_map, Option, Some, None}
use Rattle.std.proofs.Common.{zero, suc, refl, sym, ◌∙◌, ap, subst, arith, append_assoc, min}
use Rattle.std.proofs.Common.{◌⊎◌, inl, inr}
use Rattle.std.proofs.lemmas.Bool.{eq-eqb, eqb-true}
use Rattle.std.proofs.lemmas.List.{append-nil, length-append}
use Rattle.std.proofs.lemmas.List.Elements.{All-nil, All-cons, All-head, All-tail}
use Rattle.adb_outside.specs.Bytes.{IsPrefixOf}
use Rattle.adb_outside.specs.Tables.{at}
use Rattle.adb_wire.specs.declared.command.Command.{Command}
use Rattle.adb_wire.specs.declared.command.Command.TheVariants as commands
use Rattle.adb_wire.specs.declared.packets.Packet.{Packet}
use Rattle.adb_stream.specs.Flow.{has_credit, is_idle, to_hand}
use Rattle.adb_stream.specs.declared.flow.Flow.{Flow}
use Rattle.adb_stream.specs.declared.flow.Flow.TheVariants as flows
use Rattle.adb_stream.specs.declared.row.Stream.{Stream}
use Rattle.adb_history.specs.Bytes.{bytes_put, bytes_read, sent}
use Rattle.adb_history.specs.Births.{Birth, Opening, born, since, remote_in, remote_of, told_in, told_after, told_to, joined, handed_to}
use Rattle.adb_history.specs.Births.{carried_in, is_okay}
use Rattle.adb_history.specs.Births.{count_from}
use Rattle.adb_history.specs.Fifo.{okays_in, okays_of, IsOwn}
use Rattle.adb_history.specs.Rows.{Client}
use Rattle.adb_history.specs.Causes.{given_to}
use Rattle.adb_history.specs.Lives.{packets_of}
use Rattle.adb_history.specs.Machine.{History, state, IsLegal}
use Rattle.adb_laws_births.proofs.Born.{all_births}
use Rattle.adb_laws_births.proofs.Crossing.{no_crossing}
use Rattle.adb_laws_births.proofs.Once.{count_append}
use Rattle.adb_laws_causes.specs.Flows.{waiting, FlowIs, IsAsTold}
use Rattle.adb_laws_causes.proofs.Holding.{all_hold}
use Rattle.adb_laws_fifo_down.specs.Follows.{Follows, is_shut, replies_of}
use Rattle.adb_laws_fifo_down.specs.Followed.{LifeOf, WindowOf}
use Rattle.adb_laws_fifo_down.specs.Life.{LivesAs, LivesIn, TiedTo, lead, okay_after}
use Rattle.adb_laws_fifo_down.specs.Life.{heard as heard_of}
use Rattle.adb_laws_fifo_down.specs.Line.{SeenStream, SeenClient, View, seen, seen_client}
use Rattle.adb_laws_fifo_down.specs.Window.{Counts, FlowIn, FlowAs, FlowsBy, IsFlowing, handed_past, waiting_write}
use Rattle.adb_laws_fifo_down.proofs.Acknowledged.{has_windows}
use Rattle.adb_laws_fifo_down.proofs.Handed.{has_lives, hands_told}
use Rattle.adb_device_streams.specs.Asked.{service_of}
use Rattle.adb_device_streams.specs.Service.{bytes_in, service_answer}
use Rattle.adb_device_streams.specs.Stream.{Row, next_payload, unsent}
use Rattle.adb_device_streams.specs.declared.link.Link.{Link}
use Rattle.adb_device_streams.specs.Link.{link_of}
use Rattle.adb_daemon.specs.Serving.{Sent}
use Rattle.adb_daemon.specs.Device.{Device, Setting, step, first_device, device_behind}
use Rattle.adb_daemon.specs.Streams.{free_of, over_at, Writes, writes_of, acks_of, IsExact, ExactAt}
use Rattle.adb_daemon.proofs.Exact.{windows_exact}
use Rattle.adb_daemon.proofs.Machines.{step_more}
use Rattle.adb_daemon.proofs.Quiet.{streams_settled}
use Rattle.adb_daemon.proofs.Rules.{streams_write}
use Rattle.adb_laws_model_device.specs.Counts.{writes_to}
use Rattle.adb_laws_model_device.specs.InTime.{AllPlain}
use Rattle.adb_laws_model_device.specs.Paired.{IsPaired}
use Rattle.adb_laws_model_device.proofs.Told.{told_in_time}
use Rattle.adb_laws_model_device.specs.Joined.{IsJoined}
use Rattle.adb_laws_model_device.specs.Opened.{ComesFrom, GoesTo, LivesFor, EndedFor}
use Rattle.adb_laws_model_device.specs.Owed.{packets_owed}
use Rattle.adb_laws_model_device.proofs.Came.{takes_carried}
use Rattle.adb_laws_model_device.proofs.Hosts.{one_id}
use Rattle.adb_laws_model_device.proofs.Joined.{paired}
use Rattle.adb_laws_model_device.proofs.Links.{link_plain}
use Rattle.adb_laws_model_device.proofs.Owing.{owes_step}
use Rattle.adb_laws_model_device.proofs.Plain.{model_is_plain}
use Rattle.adb_laws_model_device.proofs.Waits.{none_waits_there}
use Rattle.adb_laws_worlds.specs.Quiet.{IsServed}
use Rattle.adb_laws_worlds.specs.Rows.{HasRow}
use Rattle.adb_laws_worlds.specs.Settled.{IsAtRest, IsSettled, OpenAreSettled}
use Rattle.adb_laws_worlds.specs.Unclosed.{IsUnclosed}
use Rattle.adb_laws_worlds.proofs.InTime.{all_front, id_is, writes_within, acked_in_time}
use Rattle.adb_laws_worlds.proofs.Linked.{made_link, link_takes}
use Rattle.adb_laws_worlds.proofs.Named.{IsAskedFor}
use Rattle.adb_laws_worlds.proofs.Quiet.{open_is_served}
use Rattle.adb_laws_worlds.proofs.Rows.{okay_owed, some_id, for_it, open_has_row}
use Rattle.adb_laws_worlds.proofs.Starts.{writes_told, bytes_told, none_written}
use Rattle.adb_laws_worlds.proofs.Told.{told_whole, all_go_to, service_asked}
use Rattle.adb_laws_worlds.proofs.Unclosed.{heard_no_close}

-- ---- lists
-- what a device owed comes first in what it owes
made_grows : (setting : Setting) (packets : List Packet) (d : Device)
    → (more : List Sent) × ((fold (step setting) d packets).serving.made ≡ d.serving.made ++ more)
made_grows setting [] d = ([], sym (append-nil d.serving.made))
made_grows setting (p ∷ packets) d =
    let one = owes_step 0 setting d p in
    let later = made_grows setting packets (step setting d p) in (
      one.more ++ later.0,
      later.1 ∙ (ap (λ (made : List Sent). made ++ later.0) one.is ∙ append_assoc d.serving.made one.more later.0),
    )

-- what holds of all packets holds of the last of them
all_rest : (P : Packet → Type 0) (front : List Packet) (p : Packet) (rest : List Packet) → All P (front ++ p ∷ rest) → All P rest
all_rest P [] p rest all = All-tail P p rest all
all_rest P (q ∷ front) p rest all = all_rest P front p rest (All-tail P q (front ++ p ∷ rest) all)

-- as many as are listed
pub counts_listed : (l : ℕ) (ps : List Packet) → count_from is_okay l ps ≡ length (okays_of l ps)
counts_listed l [] = refl
counts_listed l (p ∷ ps) = go (is_okay p.command && nat_eq p.arg0 l) (counts_listed l ps)
  where
    go : (b : Bool) → count_from is_okay l ps ≡ length (okays_of l ps)
        → cond b (1 + count_from is_okay l ps) (count_from is_okay l ps) ≡ length (cond b (p ∷ okays_of l ps) (okays_of l ps))
    go true e = omega (arith, e)
    go false e = e

-- OKAYs that all go to one id are those of both
abbrev Names : (l n : ℕ) → Packet → Type 0
Names l n p = is_okay p.command ≡ true → p.arg0 ≡ l → p.arg1 ≡ n

named_okays : (l n : ℕ) (ps : List Packet) → All (Names l n) ps → count_from is_okay l ps ≤ okays_in l n ps
named_okays l n [] all = omega arith
named_okays l n (p ∷ ps) all =
    go (is_okay p.command) refl (nat_eq p.arg0 l) refl (nat_eq p.arg1 n) refl (named_okays l n ps (All-tail (Names l n) p ps all))
  where
    go : (a : Bool) → is_okay p.command ≡ a → (b : Bool) → nat_eq p.arg0 l ≡ b → (c : Bool) → nat_eq p.arg1 n ≡ c
        → count_from is_okay l ps ≤ okays_in l n ps
        → cond (a && b) (1 + count_from is_okay l ps) (count_from is_okay l ps)
        ≤ cond (a && (b && c)) (1 + okays_in l n ps) (okays_in l n ps)
    go true e true f true g le = omega (arith, le)
    go true e true f false g le =
        absurd (let clash : true ≡ false = sym (eq-eqb p.arg1 n (All-head (Names l n) p ps all e (eqb-true p.arg0 l f))) ∙ g in cc)
    go true e false f c g le = le
    go false e b f c g le = le

-- a front that is as long as the whole is the whole
whole : (front all : List ℕ) → IsPrefixOf front all → length all ≤ length front → front ≡ all
whole front all (more, is) le = go more is
  where
    go : (more : List ℕ) → front ++ more ≡ all → front ≡ all
    go [] e = sym (append-nil front) ∙ e
    go (b ∷ more) e =
        let sum : length front + length (b ∷ more) ≡ length all = sym (length-append front (b ∷ more)) ∙ ap length e in
        absurd (omega (arith, sum, le))

-- ---- a row without credit that may write and has settled has nothing left to write
none_left : (most : ℕ) (bytes : List ℕ) → 0 < most → take most bytes ≡ [] → bytes ≡ []
none_left most [] some e = refl
none_left zero (b ∷ bytes) some e = absurd (omega (arith, some))
none_left (suc most) (b ∷ bytes) some e = let clash : b ∷ take most bytes ≡ [] = e in cc

all_written : (most count acks : ℕ) (row : Row) → 0 < most → 1 + count ≤ acks → has_credit row.flow ≡ false → IsExact count acks row.flow
    → next_payload most row ≡ [] → (unsent row ≡ []) × (is_idle row.flow ≡ true)
all_written most count acks row some le plain exact none = go row.flow plain exact none
  where
    go : (flow : Flow) → has_credit flow ≡ false → IsExact count acks flow → next_payload most (record row { flow = flow }) ≡ []
        → (unsent row ≡ []) × (is_idle flow ≡ true)
    go (flows.Credit credit) one exact none = let clash : true ≡ false = one in cc
    go (flows.One window) one exact none = by window.outstanding exact none
      where
        by : (b : Bool) → acks ≤ count + free_of b
            → take (min most (cond b 0 most)) (unsent row) ≡ [] → (unsent row ≡ []) × (not b ≡ true)
        by true exact none = absurd (omega (arith, exact, le))
        by false exact none =
            let same : min most most ≡ most = omega arith in
            (none_left most (unsent row) some (ap (λ (n : ℕ). take n (unsent row)) (sym same) ∙ none), refl)

-- ---- an open stream
module _ (setting : Setting) (short : setting.most < 2 ^ 32) (plain : setting.credit ≡ false) (h : History) (legal : IsLegal h)
    (tied : IsJoined setting h) (all_plain : AllPlain h) (rest : IsAtRest setting h) where
  pairs : IsPaired (packets_owed setting) h
  pairs = paired setting short h legal tied

  module _ (l : ℕ) (b : Birth) (x : Stream) (birth : born l h ≡ Some b) (own : b.link ≡ 1) (live : (state h).streams l ≡ Some x)
      (known : x.part.remote ≢ 0) where
    u : IsUnclosed h l b x
    u = heard_no_close h legal l b x birth live known

    told_as : remote_of l b h ≡ u.opening.remote
    told_as = ap remote_in u.opened

    served : IsServed h l x
    served = open_is_served h legal l x live known

    there : HasRow setting h l b
    there = open_has_row setting h legal rest.still l b x birth own live known

    row_is : at u.opening.remote (device_behind setting (sent 1 h)).serving.rows ≡ Some there.row
    row_is = ap (λ (n : ℕ). at n (device_behind setting (sent 1 h)).serving.rows) (sym told_as) ∙ there.is

    waits : waiting x.part.flow ≡ 0
    waits = none_waits_there setting short plain h legal tied rest.still l b x served.client there.row birth own
        (all_plain l b birth) live u.alive
        known served.here there.is there.host

    handed : to_hand x.part.flow ≡ 0
    handed = served.handed (rest.clients x.client served.client served.here)

    one_write : has_credit x.part.flow ≡ false
    one_write =
        let kept = (all_births h legal).kept l x live in
        let same : kept.birth ≡ b = (let both : Some kept.birth ≡ Some b = sym kept.is ∙ birth in cc) in
        kept.credit ∙ (ap (λ (c : Birth). c.credit) same ∙ all_plain l b birth)

    -- ---- the server acknowledged all writes that it heard
    f : Follows WindowOf h l b
    f = has_windows h legal l b birth

    seen_row : f.holds.seen.stream ≡ Some (seen x)
    seen_row = ap (λ (v : View). v.stream) (sym f.holds.shows.1) ∙ ap (λ (o : Option Stream). option_map seen o) live

    flowing : IsFlowing f.cradle (seen x) (told_in u.opening.remote l u.opening.later) f.holds.seen.okays
        (handed_past f.cradle (bytes_put b.client h))
    flowing =
        subst (λ (o : Option Opening). FlowsBy o l f.cradle (seen x) f.holds.seen.okays
        (handed_past f.cradle (bytes_put b.client h))) u.opened
        (subst (λ (orphan : Bool). FlowAs orphan l f.cradle (since b h) (seen x) f.holds.seen.okays
        (handed_past f.cradle (bytes_put b.client h))) u.alive
        (subst (λ (o : Option SeenStream). FlowIn o l f.cradle (since b h) f.holds.seen.okays (handed_past f.cradle (bytes_put b.client h)))
        seen_row f.holds.keeps.flow).1)

    counts : length (okays_of l (packets_of 1 h)) ≡ length (told_in u.opening.remote l u.opening.later)
    counts =
        let all : length f.holds.seen.okays + waiting_write (to_hand x.part.flow) ≡ length (told_in u.opening.remote l u.opening.later) =
        subst (λ (c : Bool).
        Counts c (seen x) (told_in u.opening.remote l u.opening.later) f.holds.seen.okays (handed_past f.cradle (bytes_put b.client h)))
        (f.credit ∙ all_plain l b birth) flowing.counts in
        let none : waiting_write (to_hand x.part.flow) ≡ 0 = ap waiting_write handed in
        let okays : length f.holds.seen.okays ≡ length (okays_of l (packets_of 1 h)) =
        ap (λ (v : View). length v.okays) (sym f.holds.shows.1) ∙ ap (λ (t : ℕ). length (okays_of l (packets_of t h))) own in
        omega (arith, all, none, okays)

    -- ---- the device took all of these
    abbrev asked : IsAskedFor setting u.opening.remote l (sent 1 h)
    asked = for_it setting h legal rest.still l b own u.opening u.opened

    some_r : 0 < u.opening.remote
    some_r = some_id setting h legal rest.still l b own u.opening u.opened

    names : All (Names l u.opening.remote) (sent 1 h)
    names = go (sent 1 h) ((no_crossing h legal).own 1)
      where
        by : (p : Packet) (c : Command) → p.command ≡ c → IsOwn h 1 c p → Names l u.opening.remote p
        by p commands.Okay k of e from =
            let found : Some of.birth ≡ Some b = sym of.is ∙ (ap (λ n. born n h) from ∙ birth) in
            let same : of.birth ≡ b = cc in
            of.remote ∙ (ap (λ n. remote_of n of.birth h) from ∙ (ap (λ (c : Birth). remote_of l c h) same ∙ told_as))
        by p _ k of e from = let clash : false ≡ true = sym (ap is_okay k) ∙ e in cc

        go : (ps : List Packet) → All (λ p. IsOwn h 1 p.command p) ps → All (Names l u.opening.remote) ps
        go [] all = All-nil (Names l u.opening.remote)
        go (p ∷ ps) all =
            All-cons (Names l u.opening.remote) p ps (by p p.command refl (All-head (λ p. IsOwn h 1 p.command p) p ps all))
            (go ps (All-tail (λ p. IsOwn h 1 p.command p) p ps all))

    -- all that is sent to the stream comes from its id
    mine : All (ComesFrom l u.opening.remote) (device_behind setting (sent 1 h)).serving.made
    mine =
        let one = one_id l setting (sent 1 h) ((no_crossing h legal).once 1 l) in
        subst (λ (n : ℕ). All (ComesFrom l n) (device_behind setting (sent 1 h)).serving.made)
        (sym (id_is u.opening.remote l one.id (device_behind setting (sent 1 h)).serving.made one.sent
        (okay_owed setting h legal rest.still l b own u.opening u.opened))) one.sent

    -- before its OPEN nothing was written to it
    none_before_open : writes_to l (packets_owed setting asked.asked.by.front) ≡ 0
    none_before_open =
        let d = asked.asked.by in
        let grows = made_grows setting (d.asking ∷ d.rest) (device_behind setting d.front) in
        let whole : (device_behind setting (sent 1 h)).serving.made ≡ (device_behind setting d.front).serving.made ++ grows.0 =
        sym (ap (λ (ps : List Packet). (device_behind setting ps).serving.made) d.is)
        ∙ (ap (λ (e : Device). e.serving.made) (step_more setting (first_device setting) d.front (d.asking ∷ d.rest)) ∙ grows.1) in
        let before = all_front (ComesFrom l u.opening.remote) (device_behind setting d.front).serving.made grows.0
        (subst (λ (made : List Sent). All (ComesFrom l u.opening.remote) made) whole mine) in
        let within = writes_within u.opening.remote l (device_behind setting d.front).serving.made before in
        let none = none_written setting d.front u.opening.remote d.number in
        omega (arith, within, none)

    took_all : 1 + length (okays_of l (packets_of 1 h)) ≤ acks_of u.opening.remote (device_behind setting (sent 1 h)).serving.acks
    took_all =
        let d = asked.asked.by in
        let all : 1 + okays_in l u.opening.remote d.rest ≤ acks_of u.opening.remote (device_behind setting (sent 1 h)).serving.acks =
        subst (λ (n : ℕ). 1 + okays_in n u.opening.remote d.rest
        ≤ acks_of u.opening.remote (device_behind setting (sent 1 h)).serving.acks) asked.host
        (asked.asked.all there.row row_is) in
        let behind = named_okays l u.opening.remote d.rest
        (all_rest (Names l u.opening.remote) d.front d.asking d.rest
        (subst (λ (ps : List Packet). All (Names l u.opening.remote) ps) (sym d.is) names)) in
        let timely = told_in_time (packets_owed setting) (model_is_plain setting) h legal pairs all_plain l d.front d.asking d.rest d.is in
        let none = none_before_open in
        let whole : (d.front ++ d.asking ∷ []) ++ d.rest ≡ sent 1 h = append_assoc d.front (d.asking ∷ []) d.rest ∙ d.is in
        let sum : count_from is_okay l (sent 1 h) ≡ count_from is_okay l (d.front ++ d.asking ∷ []) + count_from is_okay l d.rest =
        ap (count_from is_okay l) (sym whole) ∙ count_append is_okay l (d.front ++ d.asking ∷ []) d.rest in
        let listed : count_from is_okay l (sent 1 h) ≡ length (okays_of l (packets_of 1 h)) =
        counts_listed l (sent 1 h) ∙ ap (λ (ps : List Packet). length (okays_of l ps)) rest.still.sent_all in
        omega (arith, all, behind, timely, none, sum, listed)

    -- ---- the server heard all writes that the device made
    all_told : told_in u.opening.remote l (packets_owed setting (sent 1 h)) ≡ told_in u.opening.remote l u.opening.later
    all_told = told_whole setting short h legal tied rest.still l b birth own u.opening u.opened

    goes : All (GoesTo u.opening.remote l) (device_behind setting (sent 1 h)).serving.made
    goes = all_go_to setting short h legal tied rest.still l b birth own u.opening u.opened

    heard_all : writes_of u.opening.remote (device_behind setting (sent 1 h)).serving.made
        ≤ length (told_in u.opening.remote l u.opening.later)
    heard_all =
        let all = writes_told u.opening.remote l (device_behind setting (sent 1 h)).serving.made goes in
        let same : length (told_in u.opening.remote l (packets_owed setting (sent 1 h)))
        ≡ length (told_in u.opening.remote l u.opening.later) =
        ap (λ (payloads : List (List ℕ)). length payloads) all_told in
        omega (arith, all, same)

    -- ---- so the device may write again, and has nothing to write
    no_credit : has_credit there.row.flow ≡ false
    no_credit =
        let w = asked.asked in
        let made = made_link setting (λ (p : Packet). Unit {0}) w.by.front (every w.by.front) w.by.link w.by.linked in
        w.credit there.row row_is
        ∙ link_plain setting.most made.0 w.by.link (ap (λ (c : Bool). link_of setting.most c made.0) (sym plain) ∙ made.1.1.1)
      where
        every : (ps : List Packet) → All (λ (p : Packet). Unit {0}) ps
        every [] = All-nil (λ (p : Packet). Unit {0})
        every (p ∷ ps) = All-cons (λ (p : Packet). Unit {0}) p ps tt (every ps)

    written_all : 0 < setting.most → (unsent there.row ≡ []) × (is_idle there.row.flow ≡ true)
    written_all some = go (device_behind setting (sent 1 h)).link refl asked.asked.linked
      where
        exact : IsExact (writes_of u.opening.remote (device_behind setting (sent 1 h)).serving.made)
            (acks_of u.opening.remote (device_behind setting (sent 1 h)).serving.acks) there.row.flow
        exact = subst (λ (o : Option Row). ExactAt u.opening.remote (device_behind setting (sent 1 h)).serving.made
            (device_behind setting (sent 1 h)).serving.acks o) row_is
            (windows_exact u.opening.remote some_r setting (sent 1 h)
            (acked_in_time setting short h legal tied all_plain u.opening.remote some_r))

        go : (o : Option Link) → (device_behind setting (sent 1 h)).link ≡ o → is_some o ≡ true
            → (unsent there.row ≡ []) × (is_idle there.row.flow ≡ true)
        go None is linked = let clash : false ≡ true = linked in cc
        go (Some link) is linked =
            all_written link.most (writes_of u.opening.remote (device_behind setting (sent 1 h)).serving.made)
            (acks_of u.opening.remote (device_behind setting (sent 1 h)).serving.acks) there.row (link_takes setting h legal some link is)
            (let took = took_all in let all = heard_all in let same = counts in omega (arith, took, all, same)) no_credit exact
            (streams_settled setting (sent 1 h) link u.opening.remote there.row is row_is).none_goes

    -- ---- the client's text came, and it was handed the whole answer
    holds : IsAsTold h l b x served.client
    holds = all_hold h legal l b x served.client birth live u.alive served.here

    came_all : bytes_in there.row.past ≡ drop b.head (bytes_read b.client h)
    came_all =
        let up = holds.up in
        (takes_carried setting short h legal tied l b birth).live there.row there.is there.host
        ∙ (ap (carried_in l) rest.still.sent_all
        ∙ (ap (λ (t : ℕ). carried_in l (packets_of t h)) (sym own)
        ∙ (sym (append-nil (carried_in l (packets_of b.link h)))
        ∙ (ap (λ (bytes : List ℕ). carried_in l (packets_of b.link h) ++ bytes) (sym (served.sent one_write waits)) ∙ up))))

    -- all that was told was handed
    handed_all : handed_to l b h ≡ joined (told_to l b h)
    handed_all = whole (handed_to l b h) (joined (told_to l b h)) (hands_told h legal l b birth)
        (by x.part.flow one_write handed holds.flow)
      where
        by : (flow : Flow) → has_credit flow ≡ false → to_hand flow ≡ 0
            → FlowIs flow b.credit (length (joined (told_to l b h))) (length (handed_to l b h)) (given_to l b h)
            → length (joined (told_to l b h)) ≤ length (handed_to l b h)
        by (flows.Credit credit) one none flow = let clash : true ≡ false = one in cc
        by (flows.One window) one none flow = (let sum = flow.1 in omega (arith, sum, none))

    got_all : 0 < setting.most → handed_to l b h ≡ (service_answer there.row.kind there.row.first there.row.past).bytes
    got_all some =
        let writes : Writes u.opening.remote (device_behind setting (sent 1 h)).serving.made
        (device_behind setting (sent 1 h)).serving.acks (Some there.row)
        (over_at u.opening.remote (device_behind setting (sent 1 h)).serving.ended) =
        subst (λ (o : Option Row). Writes u.opening.remote (device_behind setting (sent 1 h)).serving.made
        (device_behind setting (sent 1 h)).serving.acks o
        (over_at u.opening.remote (device_behind setting (sent 1 h)).serving.ended)) row_is
        (streams_write u.opening.remote some_r setting (sent 1 h)) in
        handed_all
        ∙ (ap (λ (o : Option Opening). joined (told_after l o)) u.opened
        ∙ (sym (ap joined all_told)
        ∙ (sym (bytes_told u.opening.remote l (device_behind setting (sent 1 h)).serving.made goes)
        ∙ (writes.0.written
        ∙ (sym (append-nil there.row.sent)
        ∙ (ap (λ (bytes : List ℕ). there.row.sent ++ bytes) (sym (written_all some).0) ∙ writes.0.front))))))

    -- what became due to its client is the replies to its requests, an `OKAY`, and all that was told
    life : Follows LifeOf h l b
    life = has_lives h legal l b birth

    output : life.holds.seen.output ≡ lead life.cradle ++ joined (told_in u.opening.remote l u.opening.later)
    output =
        by x.part.orphan u.alive x.part.remote refl
        (subst (λ (o : Option SeenStream). LivesIn o l life.cradle (since b h) (is_shut b.link h) (heard_of life.holds.seen))
        (ap (λ (v : View). v.stream) (sym life.holds.shows.1) ∙ ap (λ (o : Option Stream). option_map seen o) live) life.holds.keeps.lives)
      where
        by : (orphan : Bool) → orphan ≡ false → (remote : ℕ) → x.part.remote ≡ remote
            → LivesAs orphan remote l life.cradle (since b h) (heard_of life.holds.seen)
            → life.holds.seen.output ≡ lead life.cradle ++ joined (told_in u.opening.remote l u.opening.later)
        by true e remote g lives = let clash : true ≡ false = e in cc
        by false e zero g lives = absurd (known g)
        by false e (suc n) g lives =
            let both : Some lives.opening ≡ Some u.opening = sym lives.opened ∙ u.opened in
            let same : lives.opening ≡ u.opening = cc in
            lives.output ∙ ap (λ (o : Opening). lead life.cradle ++ joined (told_in o.remote l o.later)) same

    put_all : bytes_put b.client h ≡ life.holds.seen.output
    put_all =
        let mine : x.client ≡ b.client = (let kept = (all_births h legal).kept l x live in
        let same : kept.birth ≡ b = (let both : Some kept.birth ≡ Some b = sym kept.is ∙ birth in cc) in
        kept.client ∙ ap (λ (c : Birth). c.client) same) in
        let there : life.holds.seen.client ≡ Some (seen_client served.client) =
        ap (λ (v : View). v.client) (sym life.holds.shows.1)
        ∙ ap (λ (o : Option Client). option_map seen_client o) (ap (λ (c : ℕ). (state h).clients c) (sym mine) ∙ served.here) in
        let ties : life.holds.seen.output ≡ bytes_put b.client h ++ served.client.due =
        subst (λ (o : Option SeenClient). TiedTo o life.holds.seen.output (bytes_put b.client h)) there life.holds.keeps.tied in
        sym (append-nil (bytes_put b.client h))
        ∙ (ap (λ (bytes : List ℕ). bytes_put b.client h ++ bytes) (sym (rest.clients x.client served.client served.here)) ∙ sym ties)

    heard_answer : 0 < setting.most
        → bytes_put b.client h ≡ okay_after b.forwarded (replies_of b h)
        ++ (service_answer there.row.kind there.row.first there.row.past).bytes
    heard_answer some =
        put_all
        ∙ (output
        ∙ (ap (λ (bytes : List ℕ). lead life.cradle ++ bytes)
        (sym (ap (λ (o : Option Opening). joined (told_after l o)) u.opened) ∙ (sym handed_all ∙ got_all some))
        ∙ (ap (λ (c : Bool). okay_after c life.cradle.replies
        ++ (service_answer there.row.kind there.row.first there.row.past).bytes) life.forwarded
        ∙ ap (λ (bytes : List ℕ). okay_after b.forwarded bytes
        ++ (service_answer there.row.kind there.row.first there.row.past).bytes) life.replies)))

    -- ---- the service
    kind_is : service_of b.service ≡ Some there.row.kind
    kind_is =
        service_asked setting short h legal tied rest.still l b birth own u.opening u.opened ∙ ap Some (kept_kind asked.asked.opened.stands)
      where
        kept_kind : LivesFor u.opening.remote asked.asked.by.asking.arg0 asked.asked.by.kind
            (device_behind setting asked.asked.by.front).serving.files
            (device_behind setting (sent 1 h)).serving.rows
            ⊎ EndedFor u.opening.remote asked.asked.by.asking.arg0 asked.asked.by.kind
            (device_behind setting asked.asked.by.front).serving.files
            (device_behind setting (sent 1 h)).serving.rows (device_behind setting (sent 1 h)).serving.ended
            → asked.asked.by.kind ≡ there.row.kind
        kept_kind (inl lives) =
            let both : Some lives.row ≡ Some there.row = sym lives.is ∙ row_is in
            let same : lives.row ≡ there.row = cc in
            sym lives.opened.1 ∙ ap (λ (r : Row). r.kind) same
        kept_kind (inr over) = absurd (let clash : None ≡ Some there.row = sym over.gone ∙ row_is in cc)

    pub settled_so : 0 < setting.most → IsSettled setting h l b x
    settled_so some = record {
      served = served;
      there = there;
      waits = waits;
      handed = handed;
      held = served.sent one_write waits;
      kind = kind_is;
      written = (written_all some).0;
      idle = (written_all some).1;
      came = came_all;
      got = got_all some;
      heard = heard_answer some;
    }

pub open_are_settled : (setting : Setting) → setting.most < 2 ^ 32 → 0 < setting.most → setting.credit ≡ false → (h : History) → IsLegal h
    → IsJoined setting h → AllPlain h → OpenAreSettled setting h
open_are_settled setting short some plain h legal tied all_plain rest l b x birth own live known =
    settled_so setting short plain h legal tied all_plain rest l b x birth own live known some
