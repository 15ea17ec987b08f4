-- What the client of a stream at rest was put: the replies to its requests, an `OKAY`, and the answer of its service.
use Rattle.std.proofs.Common.{◌≡◌, ◌≤◌, ◌<◌, ℕ, zero, suc, Bool, true, false, cond, List, [], ◌++◌, drop, Option, Some, None, is_some}
use Rattle.std.proofs.Common.{refl, sym, ap, subst, ◌∙◌, arith, append_assoc, inl, inr}
use Rattle.std.specs.Prelude.{◌^◌, codes, nat_lt, slice_get}
use Rattle.std.proofs.lemmas.Bool.{ltb-true}
use Rattle.std.proofs.lemmas.List.{append-nil}
use Rattle.adb_outside.specs.Bytes.{IsPrefixOf}
use Rattle.adb_stream.specs.declared.row.Stream.{Stream}
use Rattle.adb_history.specs.Births.{Birth, Opening, born, births, since, opening_of, remote_of, told_in, told_before, before_close, joined}
use Rattle.adb_history.specs.Book.{asked, is_killed}
use Rattle.adb_history.specs.Bytes.{bytes_put, bytes_read, has_ended, is_lost, sent}
use Rattle.adb_history.specs.declared.ending.Ending.{Ending}
use Rattle.adb_history.specs.declared.ending.Ending.TheVariants.{PeerClosed, OutOfTurn, Lost, Broken, ClientClosed, ClientFailed, Stopped}
use Rattle.adb_history.specs.Lives.{ending_of, output_of, lived}
use Rattle.adb_history.specs.Machine.{History, state, IsLegal}
use Rattle.adb_history.specs.Rows.{Client}
use Rattle.adb_history.specs.Streams.{stream_ids}
use Rattle.adb_history.proofs.OutputEntries.{all_due_past_put}
use Rattle.adb_laws_births.proofs.Born.{all_births}
use Rattle.adb_laws_births.proofs.Endings.{all_endings}
use Rattle.adb_laws_fifo_down.specs.Follows.{Follows, is_shut, replies_of}
use Rattle.adb_laws_fifo_down.specs.Followed.{LifeOf}
use Rattle.adb_laws_fifo_down.specs.Life.{LivesAs, LivesIn, WasOpen, lead, okay_after}
use Rattle.adb_laws_fifo_down.specs.Life.{heard as heard_of}
use Rattle.adb_laws_fifo_down.specs.Line.{SeenStream, View}
use Rattle.adb_laws_fifo_down.proofs.Handed.{has_lives}
use Rattle.adb_device_streams.specs.Asked.{service_of}
use Rattle.adb_device_streams.specs.Service.{bytes_in, service_answer}
use Rattle.adb_daemon.specs.Device.{Setting, device_behind}
use Rattle.adb_daemon.specs.Serving.{Serving}
use Rattle.adb_laws_model_device.specs.Joined.{IsJoined}
use Rattle.adb_laws_worlds.specs.Credit.{HasOneDevice}
use Rattle.adb_laws_worlds.specs.Ended.{HasEndedWhole, ClosedGaveAll}
use Rattle.adb_laws_worlds.specs.Held.{AllHaveSettled}
use Rattle.adb_laws_worlds.specs.InTurn.{AllInTurn}
use Rattle.adb_laws_worlds.specs.Known.{KnownAreOpened}
use Rattle.adb_laws_worlds.specs.Settled.{IsAtRest}
use Rattle.adb_laws_worlds.specs.Unbroken.{AllOutliveLink}
use Rattle.adb_laws_answers.specs.Gone.{PutsAllOfClosed}
use Rattle.adb_laws_answers.specs.Answers.{CameOf, IsAnswered, ClientsAreAnswered}
use Rattle.adb_laws_answers.proofs.Asked.{born_for, born_as, slice_below}
use Rattle.adb_laws_answers.proofs.Ends.{IsByLink, ends_by_link, unfailed, rest_front}

-- what holds of a server and its model device
pub record Laws : Type 0 where
  pub put_all : (history : History) → IsLegal history → PutsAllOfClosed history
  pub in_turn : (setting : Setting) (history : History) → setting.most < 2 ^ 32 → setting.credit ≡ false
      → IsLegal history → IsJoined setting history
      → AllInTurn history
  pub closed : (setting : Setting) (history : History) → setting.most < 2 ^ 32 → IsLegal history
      → IsJoined setting history → ClosedGaveAll setting history
  pub settled : (setting : Setting) (history : History) → setting.most < 2 ^ 32 → 0 < setting.most
      → setting.credit ≡ false → IsLegal history
      → IsJoined setting history → HasOneDevice history → AllHaveSettled setting history
  pub opened : (setting : Setting) (history : History) → setting.most < 2 ^ 32 → IsLegal history
      → IsJoined setting history → KnownAreOpened setting history
  pub outlive : (setting : Setting) (history : History) → setting.most < 2 ^ 32 → IsLegal history
      → IsJoined setting history → AllOutliveLink history

-- all of a text came, whether its service has ended or not
all_came : (ended : Bool) (came text : List ℕ) → came ≡ text → CameOf ended came text
all_came true came text is = ([], append-nil came ∙ is)
all_came false came text is = is

front_came : (ended : Bool) (came text : List ℕ) → ended ≡ true → IsPrefixOf came text → CameOf ended came text
front_came true came text e front = front
front_came false came text e front = absurd (let clash : false ≡ true = e in cc)

front_of_front : (a b c : List ℕ) → IsPrefixOf a b → IsPrefixOf b c → IsPrefixOf a c
front_of_front a b c (x, is) (y, too) =
    (x ++ y, sym (append_assoc a x y) ∙ (ap (λ (z : List ℕ). z ++ y) is ∙ too))

-- what the device serves
abbrev serving_of : Setting → History → Serving
serving_of setting h = (device_behind setting (sent 1 h)).serving

-- the client of a stream was answered
abbrev StreamIsAnswered : Setting → History → Birth → Type 0
StreamIsAnswered setting h b =
    IsAnswered (serving_of setting h) h b.client b.service (drop b.head (bytes_read b.client h))
    ((asked b.client h).replies ++ codes "OKAY") (bytes_put b.client h)

module _ (laws : Laws) (setting : Setting) (short : setting.most < 2 ^ 32) (some : 0 < setting.most)
    (plain : setting.credit ≡ false) (h : History)
    (legal : IsLegal h) (tied : IsJoined setting h) (one : HasOneDevice h) (rest : IsAtRest setting h) (here : is_lost 1 h ≡ false)
    (killed : is_killed h ≡ false) where
  -- ---- a stream that its device closed
  module _ (l : ℕ) (b : Birth) (birth : born l h ≡ Some b) (alone : b.forwarded ≡ false) (o : Opening) (opened : opening_of l b h ≡ Some o)
      (ended : ending_of l h ≡ Some PeerClosed) (gone : (state h).streams l ≡ None) (open_yet : has_ended b.client h ≡ false)
      (w : HasEndedWhole setting h l b o) where
    f : Follows LifeOf h l b
    f = has_lives h legal l b birth

    ending : f.holds.seen.ending ≡ Some PeerClosed
    ending = ap (λ (v : View). v.ending) (sym f.holds.shows.1) ∙ ended

    was_open : WasOpen l f.cradle (since b h) f.holds.seen.output f.holds.seen.ending
    was_open = go f.holds.seen.stream f.holds.keeps.lives
      where
        lives : (orphan : Bool) (remote : ℕ) → LivesAs orphan remote l f.cradle (since b h) (heard_of f.holds.seen) → ⊥
        lives true remote x = x.unheard.not_by_peer ending
        lives false zero x = let clash : None ≡ Some PeerClosed = sym x.ending ∙ ending in cc
        lives false (suc r) x = let clash : None ≡ Some PeerClosed = sym x.ending ∙ ending in cc

        go : (s : Option SeenStream) → LivesIn s l f.cradle (since b h) (is_shut b.link h) (heard_of f.holds.seen)
            → WasOpen l f.cradle (since b h) f.holds.seen.output f.holds.seen.ending
        go (Some x) y = absurd (lives x.orphan x.remote y)
        go None (done, inl never) = absurd (let clash : None ≡ Some o = sym never.0.unopened ∙ opened in cc)
        go None (done, inr (inl unheard)) = absurd (unheard.not_by_peer ending)
        go None (done, inr (inr w)) = w

    same : was_open.opening ≡ o
    same = (let both : Some was_open.opening ≡ Some o = sym was_open.opened ∙ opened in cc)

    -- what became due to its client behind the lead
    bytes_are : was_open.bytes ≡ (service_answer w.over.row.kind w.over.row.first w.over.row.past).bytes
    bytes_are =
        (was_open.closed ending).whole
        ∙ (ap (λ (x : Opening). joined (told_in x.remote l (before_close x.remote l x.later))) same
        ∙ (ap (λ (x : Option Opening). joined (told_before l x)) (sym opened) ∙ w.told))

    leads : lead f.cradle ≡ (asked b.client h).replies ++ codes "OKAY"
    leads =
        ap (λ (t : Bool). okay_after t f.cradle.replies) (f.forwarded ∙ alone)
        ∙ (ap (λ (x : List ℕ). x ++ codes "OKAY") f.replies
        ∙ ap (λ (t : Bool). cond t [] (asked b.client h).replies ++ codes "OKAY") alone)

    output : output_of b.client h ≡ ((asked b.client h).replies ++ codes "OKAY")
        ++ (service_answer w.over.row.kind w.over.row.first w.over.row.past).bytes
    output =
        ap (λ (v : View). v.output) f.holds.shows.1
        ∙ (was_open.output_is
        ∙ (ap (λ (x : List ℕ). x ++ was_open.bytes) leads
        ∙ ap (λ (x : List ℕ). ((asked b.client h).replies ++ codes "OKAY") ++ x) bytes_are))

    -- and was put
    put : bytes_put b.client h ≡ output_of b.client h
    put = go ((state h).clients b.client) refl
      where
        go : (c : Option Client) → (state h).clients b.client ≡ c → bytes_put b.client h ≡ output_of b.client h
        go None is = laws.put_all h legal l b birth ended (unfailed b.client h open_yet) killed is
        go (Some a) is =
            sym (append-nil (bytes_put b.client h))
            ∙ (ap (λ (x : List ℕ). bytes_put b.client h ++ x) (sym (rest.clients b.client a is))
            ∙ sym (all_due_past_put h legal b.client a is))

    closed_answered : StreamIsAnswered setting h b
    closed_answered = record {
      number = l;
      birth = b;
      is = birth;
      client = refl;
      row = w.over.row;
      served = record { own = o.remote; there = inr (record { over = w.over; is = w.is; row_is = refl }); host = w.host };
      asked = w.kind;
      came = front_came (service_answer w.over.row.kind w.over.row.first w.over.row.past).ended (bytes_in w.over.row.past)
          (drop b.head (bytes_read b.client h)) w.ended
          (front_of_front (bytes_in w.over.row.past) (drop b.head (bytes_read b.client (lived l h)))
          (drop b.head (bytes_read b.client h)) w.came
          (rest_front l b h));
      put_as = put ∙ output;
    }

  -- ---- any stream of a known service
  module _ (l : ℕ) (b : Birth) (birth : born l h ≡ Some b) (own : b.link ≡ 1) (alone : b.forwarded ≡ false)
      (known : is_some (service_of b.service) ≡ true) (open_yet : has_ended b.client h ≡ false) where
    live_answered : (x : Stream) → (state h).streams l ≡ Some x
        → StreamIsAnswered setting h b
    live_answered x is =
        let k = laws.settled setting h short some plain legal tied one rest l x is in
        let same : k.birth ≡ b = (let both : Some k.birth ≡ Some b = sym k.is ∙ birth in cc) in
        let row = k.settled.there.row in
        let answer = (service_answer row.kind row.first row.past).bytes in
        let before : okay_after k.birth.forwarded (replies_of k.birth h) ≡ (asked b.client h).replies ++ codes "OKAY" =
        ap (λ (a : Birth). okay_after a.forwarded (replies_of a h)) same
        ∙ ap (λ (t : Bool). okay_after t (cond t [] (asked b.client h).replies)) alone in
        record {
          number = l;
          birth = b;
          is = birth;
          client = refl;
          row = k.settled.there.row;
          served = record { own = remote_of l k.birth h; there = inl k.settled.there.is; host = k.settled.there.host };
          asked = ap (λ (a : Birth). service_of a.service) (sym same) ∙ k.settled.kind;
          came = all_came (service_answer row.kind row.first row.past).ended (bytes_in row.past) (drop b.head (bytes_read b.client h))
              (k.settled.came ∙ ap (λ (a : Birth). drop a.head (bytes_read a.client h)) same);
          put_as = ap (λ (a : Birth). bytes_put a.client h) (sym same) ∙ (k.settled.heard ∙ ap (λ (x : List ℕ). x ++ answer) before);
        }

    drawn : l ≤ (state h).drawn
    drawn = go l birth
      where
        go : (n : ℕ) → born n h ≡ Some b → n ≤ (state h).drawn
        go zero is = omega arith
        go (suc k) is = by (nat_lt k stream_ids) refl is
          where
            by : (t : Bool) → nat_lt k stream_ids ≡ t → cond t (slice_get (births h) k) None ≡ Some b
                → suc k ≤ (state h).drawn
            by true e f =
                let lt = ltb-true k stream_ids e in
                let below = slice_below (births h) k b f in
                let all = (all_births h legal).drawn in
                omega (arith, lt, below, all)
            by false e f = absurd (let clash : None ≡ Some b = f in cc)

    some_id : 0 < l
    some_id = go l birth
      where
        go : (n : ℕ) → born n h ≡ Some b → 0 < n
        go zero is = absurd (let clash : None ≡ Some b = is in cc)
        go (suc k) is = omega arith

    -- it ended by its device's close
    by_close : (y : Ending) → ending_of l h ≡ Some y → ending_of l h ≡ Some PeerClosed
    by_close y is = go y is (ends_by_link h legal l b birth open_yet killed y is)
      where
        go : (z : Ending) → ending_of l h ≡ Some z → IsByLink z → ending_of l h ≡ Some PeerClosed
        go PeerClosed e by = e
        go OutOfTurn e by = absurd (laws.in_turn setting h short plain legal tied l b birth own e)
        go Lost e by = absurd ((laws.outlive setting h short legal tied here l b birth own).lost e)
        go Broken e by = absurd ((laws.outlive setting h short legal tied here l b birth own).broken e)
        go ClientClosed e by = absurd by
        go (ClientFailed cause) e by = absurd by
        go Stopped e by = absurd by

    gone_answered : (state h).streams l ≡ None
        → StreamIsAnswered setting h b
    gone_answered gone = go (ending_of l h) refl ((all_endings h legal l).gone gone some_id drawn)
      where
        by : (o : Option Opening) → opening_of l b h ≡ o → is_some o ≡ true → ending_of l h ≡ Some PeerClosed
            → StreamIsAnswered setting h b
        by None is there ended = absurd (let clash : false ≡ true = there in cc)
        by (Some o) is there ended =
            closed_answered l b birth alone o is ended gone open_yet
            (laws.closed setting h short legal tied rest.still l b o birth own is ended)

        go : (y : Option Ending) → ending_of l h ≡ y → is_some y ≡ true
            → StreamIsAnswered setting h b
        go None is there = absurd (let clash : false ≡ true = there in cc)
        go (Some y) is there =
            by (opening_of l b h) refl (laws.opened setting h short legal tied rest.still l b birth own known) (by_close y is)

    stream_answered : StreamIsAnswered setting h b
    stream_answered = go ((state h).streams l) refl
      where
        go : (o : Option Stream) → (state h).streams l ≡ o
            → StreamIsAnswered setting h b
        go None is = gone_answered is
        go (Some x) is = live_answered x is

-- ---- each client
pub all_answered : Laws → (setting : Setting) → setting.most < 2 ^ 32 → 0 < setting.most → setting.credit ≡ false
    → (h : History) → IsLegal h
    → IsJoined setting h → HasOneDevice h → ClientsAreAnswered setting h
all_answered laws setting short some plain h legal tied one rest here killed ids c service asks =
    let b = born_for h c 1 service asks.next in
    let known : is_some (service_of b.birth.service) ≡ true = ap (λ (x : List ℕ). is_some (service_of x)) b.service_is ∙ asks.known in
    let open_yet : has_ended b.birth.client h ≡ false = ap (λ (n : ℕ). has_ended n h) b.client ∙ asks.here in
    let done = stream_answered laws setting short some plain h legal tied one rest here killed (suc b.place) b.birth
    (born_as h b.place b.birth b.is ids)
    b.link b.alone known open_yet in
    subst (λ (x : List ℕ).
    IsAnswered (serving_of setting h) h c x (drop (asked c h).used (bytes_read c h))
    ((asked c h).replies ++ codes "OKAY") (bytes_put c h)) b.service_is
    (subst (λ (n : ℕ).
    IsAnswered (serving_of setting h) h c b.birth.service (drop n (bytes_read c h))
    ((asked c h).replies ++ codes "OKAY") (bytes_put c h)) b.head
    (subst (λ (k : ℕ).
    IsAnswered (serving_of setting h) h k b.birth.service (drop b.birth.head (bytes_read k h)) ((asked k h).replies ++ codes "OKAY")
    (bytes_put k h)) b.client done))
