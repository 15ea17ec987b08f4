-- The life of a stream goes on through each turn of what is seen of it.
use Rattle.std.proofs.Common.{ℕ, ◌≡◌, ◌≢◌, zero, suc, Bool, true, false, cond, List, [], ◌∷◌, ◌++◌, length, drop, min, Option, Some, None}
use Rattle.std.proofs.Common.{refl, sym, ◌∙◌, ap}
use Rattle.std.proofs.Common.{subst}
use Rattle.std.proofs.Common.{eqb, append_assoc, inl, inr, ◌⊎◌}
use Rattle.std.proofs.lemmas.List.{append-nil}
use Rattle.adb_outside.specs.Bytes.{IsPrefixOf}
use Rattle.adb_outside.specs.declared.kinds.Cause.{Cause}
use Rattle.adb_wire.specs.declared.packets.Packet.{Packet}
use Rattle.adb_client.specs.declared.phase.Phase.{Phase}
use Rattle.adb_client.specs.declared.phase.Phase.TheVariants.{Opening, Streaming, Closing}
use Rattle.adb_history.specs.declared.ending.Ending.{Ending}
use Rattle.adb_history.specs.declared.ending.Ending.TheVariants.{ClientClosed, PeerClosed, Lost, Broken, ClientFailed, Stopped}
use Rattle.adb_history.specs.Births as birth
use Rattle.adb_history.specs.Births.{opening_in, told_in, joined}
use Rattle.adb_history.proofs.Outputs.{handed_off}
use Rattle.adb_laws_fifo_down.specs.Line.{Line, SeenStream, SeenClient, View, IsOpenIn, first_of, closing_seen, fail_bytes, loss, lost_by}
use Rattle.adb_laws_fifo_down.specs.Line.{over}
use Rattle.adb_laws_fifo_down.specs.Turned.{IsInLine, IsStop, row_fails, failed_by, killed, row_left, more_okays, credit_told, left_told}
use Rattle.adb_laws_fifo_down.specs.Turned.{stream_left_as, row_handed, handed_in, handed_out}
use Rattle.adb_laws_fifo_down.specs.Life.{Cradle, lead, NeverOpens, unopened_output, IsNotByPeer, heard, IsWaiting, IsUnheard, IsOpened}
use Rattle.adb_laws_fifo_down.specs.Life.{IsClosedAt}
use Rattle.adb_laws_fifo_down.specs.Life.{WasOpen, IsDone, Story, LivesAs, LivesIn, TiedTo, Life}
use Rattle.adb_laws_fifo_down.proofs.Openings.{pending_now}

-- ---- a client that is there
pub tied_at : (o : Option SeenClient) (a : SeenClient) (output out : List ℕ) → o ≡ Some a → TiedTo o output out → output ≡ out ++ a.due
tied_at o a output out here h = subst (λ (x : Option SeenClient). TiedTo x output out) here h

pub front_of_tied : (a : SeenClient) (output out : List ℕ) → output ≡ out ++ a.due → IsPrefixOf out output
front_of_tied a output out e = (a.due, sym e)

pub any_front : (o : Option SeenClient) (output out : List ℕ) → TiedTo o output out → IsPrefixOf out output
any_front None output out h = h
any_front (Some a) output out h = front_of_tied a output out h

pub closing_tied : (due : List ℕ) (a : SeenClient) (output out : List ℕ) → output ≡ out ++ due → TiedTo (closing_seen due a) output out
closing_tied [] a output out e = ([], sym e)
closing_tied (d ∷ due) a output out e = e

pub closing_done : (due : List ℕ) (a : SeenClient) → IsDone (closing_seen due a)
closing_done [] a c e = absurd (let clash : None ≡ Some c = e in cc)
closing_done (d ∷ due) a c e =
    let row : SeenClient = record { phase = Closing; forwarded = a.forwarded; due = d ∷ due } in
    let same : row ≡ c = (let both : Some row ≡ Some c = e in cc) in
    sym (ap (λ (x : SeenClient). x.phase) same)

none_done : IsDone None
none_done a e = absurd (let clash : None ≡ Some a = e in cc)

-- ---- endings
other_ending : (before : Option Ending) (ending : Ending) → before ≡ None → ending ≢ PeerClosed
    → IsNotByPeer (first_of before (Some ending))
other_ending before ending none other e =
    let first : first_of before (Some ending) ≡ Some ending = ap (λ (o : Option Ending). first_of o (Some ending)) none in
    let both : Some ending ≡ Some PeerClosed = sym first ∙ e in
    other (cc)

-- an ending that is no close stays so
stays_other : (before after : Option Ending) → IsStop after → IsNotByPeer before → IsNotByPeer (first_of before after)
stays_other (Some ending) after stop h e = h e
stays_other None after (inl is) h e = let clash : None ≡ Some PeerClosed = sym is ∙ e in cc
stays_other None after (inr is) h e = let both : Some Stopped ≡ Some PeerClosed = sym is ∙ e in cc

was_peer : (before after : Option Ending) → IsStop after → first_of before after ≡ Some PeerClosed → before ≡ Some PeerClosed
was_peer (Some ending) after stop e = e
was_peer None after (inl is) e = absurd (let clash : None ≡ Some PeerClosed = sym is ∙ e in cc)
was_peer None after (inr is) e = absurd (let both : Some Stopped ≡ Some PeerClosed = sym is ∙ e in cc)

module _ (l : ℕ) (k : Cradle) (packets : List Packet) (shut : Bool) (out : List ℕ) (v : View) where
  pub lives_at : (x : SeenStream) → v.stream ≡ Some x → Life l k packets shut out v → LivesAs x.orphan x.remote l k packets (heard v)
  lives_at x there h = subst (λ (o : Option SeenStream). LivesIn o l k packets shut (heard v)) there h.lives

  -- ---- it is over
  over_as : (a : SeenClient) (phase : Phase) (ending : Ending) → v.client ≡ Some a → a.phase ≡ phase
      → over false ending v ≡ loss a.forwarded phase a (record v { stream = None; ending = first_of v.ending (Some ending) })
  over_as a phase ending here is =
      let u : View = record v { stream = None; ending = first_of v.ending (Some ending) } in
      ap (λ (o : Option SeenClient). lost_by o u) here ∙ ap (λ (p : Phase). loss a.forwarded p a u) is

  -- it was open
  pub over_open : (a : SeenClient) (m : ℕ) (ending : Ending) → v.client ≡ Some a → a.phase ≡ Streaming m → v.output ≡ out ++ a.due
      → WasOpen l k packets v.output (first_of v.ending (Some ending)) → Life l k packets shut out (over false ending v)
  over_open a m ending here phase due story =
      subst (λ (u : View). Life l k packets shut out u) (sym (over_as a (Streaming m) ending here phase))
      (record { tied = closing_tied a.due a v.output out due; lives = (closing_done a.due a, inr (inr story)) })

  -- it was waiting, and never opens
  pub over_waiting : (before : List Packet) (w : IsWaiting l k before (heard v)) (ending : Ending) → v.output ≡ out ++ w.client.due
      → NeverOpens l packets shut → Life l k packets shut out (over false ending v)
  over_waiting before w ending due never =
      subst (λ (u : View). Life l k packets shut out u) (sym (over_as w.client (Opening l) ending w.here w.phase))
      (by w.client.forwarded refl)
    where
      known : (forwarded : Bool) → w.client.forwarded ≡ forwarded
          → unopened_output forwarded k.replies ≡ unopened_output k.forwarded k.replies
      known forwarded is = ap (λ (f : Bool). unopened_output f k.replies) (sym is ∙ w.forwarded)

      more : v.output ++ fail_bytes ≡ out ++ (w.client.due ++ fail_bytes)
      more = ap (λ (x : List ℕ). x ++ fail_bytes) due ∙ append_assoc out w.client.due fail_bytes

      by : (forwarded : Bool) → w.client.forwarded ≡ forwarded
          → Life l k packets shut out
          (loss forwarded (Opening l) w.client
          (record v { stream = None; ending = first_of v.ending (Some ending) }))
      by true is = record {
        tied = closing_tied w.client.due w.client v.output out due;
        lives = (closing_done w.client.due w.client, inl (never, w.output ∙ known true is));
      }
      by false is = record {
        tied = closing_tied (w.client.due ++ fail_bytes) (record w.client { due = w.client.due ++ fail_bytes })
            (v.output ++ fail_bytes) out more;
        lives = (
          closing_done (w.client.due ++ fail_bytes) (record w.client { due = w.client.due ++ fail_bytes }),
          inl (never, ap (λ (x : List ℕ). x ++ fail_bytes) w.output ∙ known false is),
        );
      }

  -- it was an orphan
  pub over_orphan : (ending : Ending) → v.client ≡ None → TiedTo v.client v.output out → IsUnheard k v.output v.ending
      → Life l k packets shut out (over true ending v)
  over_orphan ending gone tied unheard =
      subst (λ (u : View). Life l k packets shut out u) (sym (ap (λ (o : Option SeenClient). lost_by o (record v { stream = None })) gone))
      (record { tied = tied; lives = (subst IsDone (sym gone) none_done, inr (inl unheard)) })

  -- what was open then, by another ending than its device's close
  pub open_story : (remote : ℕ) (ending : Ending) → ending ≢ PeerClosed → IsOpened remote l k packets (heard v)
      → WasOpen l k packets v.output (first_of v.ending (Some ending))
  open_story remote ending other h = record {
    opening = h.opening;
    opened = h.opened;
    bytes = joined (told_in h.opening.remote l h.opening.later);
    output_is = h.output;
    front = ([], append-nil (joined (told_in h.opening.remote l h.opening.later)));
    closed = λ e. absurd (other_ending v.ending ending h.ending other e);
  }

  -- ---- what does not end it
  -- the client of the stream is in line
  pub life_served : Life l k packets shut out v → (a : SeenClient) → v.client ≡ Some a → IsInLine l a.phase
  life_served h a here = by v.stream h.lives
    where
      phase_in : (phase : Phase) (c : SeenClient) → v.client ≡ Some c → c.phase ≡ phase → IsInLine l phase → IsInLine l a.phase
      phase_in phase c is e i =
          let same : c ≡ a = (let both : Some c ≡ Some a = sym is ∙ here in cc) in
          subst (λ (x : SeenClient). IsInLine l x.phase) same (subst (IsInLine l) (sym e) i)

      alive : (orphan : Bool) (remote : ℕ) → LivesAs orphan remote l k packets (heard v) → IsInLine l a.phase
      alive true remote h = absurd (let clash : None ≡ Some a = sym h.gone ∙ here in cc)
      alive false zero h = phase_in (Opening l) h.client h.here h.phase refl
      alive false (suc r) h = phase_in (Streaming l) h.client h.here h.phase refl

      by : (o : Option SeenStream) → LivesIn o l k packets shut (heard v) → IsInLine l a.phase
      by None h = phase_in Closing a here (h.0 a here) tt
      by (Some x) h = alive x.orphan x.remote h

  -- it is closed for its client
  pub life_closes : (b : Line) (y : IsOpenIn b v) → b.id ≡ l → Life l k packets shut out v
      → Life l k packets shut out (over y.row.orphan ClientClosed v)
  life_closes b y same h = by y.row.orphan y.row.remote (lives_at y.row y.stream h)
    where
      by : (orphan : Bool) (remote : ℕ) → LivesAs orphan remote l k packets (heard v)
          → Life l k packets shut out (over orphan ClientClosed v)
      by true remote i = absurd (let clash : None ≡ Some y.client = sym i.gone ∙ y.here in cc)
      by false zero i =
          let client : i.client ≡ y.client = (let both : Some i.client ≡ Some y.client = sym i.here ∙ y.here in cc) in
          let clash : Opening l ≡ Streaming b.id = sym i.phase ∙ (ap (λ (a : SeenClient). a.phase) client ∙ y.phase) in
          absurd (cc)
      by false (suc r) i =
          over_open i.client l ClientClosed i.here i.phase (tied_at v.client i.client v.output out i.here h.tied)
          (open_story (suc r) ClientClosed (λ e. cc) i)

  -- its link is Lost, or Broken
  pub life_breaks : (x : SeenStream) (ending : Ending) → shut ≡ true → v.stream ≡ Some x
      → (ending ≡ Lost) ⊎ (ending ≡ Broken) → Life l k packets shut out v
      → Life l k packets shut out (over x.orphan ending v)
  life_breaks x ending over_now there which h = by x.orphan x.remote (lives_at x there h)
    where
      other : ending ≢ PeerClosed
      other e = go which
        where
          go : (ending ≡ Lost) ⊎ (ending ≡ Broken) → ⊥
          go (inl is) = let clash : Lost ≡ PeerClosed = sym is ∙ e in cc
          go (inr is) = let clash : Broken ≡ PeerClosed = sym is ∙ e in cc

      by : (orphan : Bool) (remote : ℕ) → LivesAs orphan remote l k packets (heard v) → Life l k packets shut out (over orphan ending v)
      by true remote i = over_orphan ending i.gone h.tied i.unheard
      by false zero i = over_waiting packets i ending (tied_at v.client i.client v.output out i.here h.tied)
          (record { unopened = pending_now l packets i.pending; for_good = inl over_now })
      by false (suc r) i =
          over_open i.client l ending i.here i.phase (tied_at v.client i.client v.output out i.here h.tied)
          (open_story (suc r) ending other i)

  -- another client stops the server
  pub life_stops : (ending : Option Ending) → IsStop ending → Life l k packets shut out v → Life l k packets shut out (killed ending v)
  life_stops ending stop h = record { tied = any_front v.client v.output out h.tied; lives = (none_done, by v.stream h.lives) }
    where
      unheard : IsNotByPeer v.ending → v.output ≡ k.replies → IsUnheard k v.output (first_of v.ending ending)
      unheard other output = record { output_is = output; not_by_peer = stays_other v.ending ending stop other }

      fresh : v.ending ≡ None → IsNotByPeer v.ending
      fresh none e = let clash : None ≡ Some PeerClosed = sym none ∙ e in cc

      was_open : (o : birth.Opening) (bytes : List ℕ) → opening_in l packets ≡ Some o → v.output ≡ lead k ++ bytes
          → IsPrefixOf bytes (joined (told_in o.remote l o.later)) → (v.ending ≡ Some PeerClosed → IsClosedAt l o bytes)
          → WasOpen l k packets v.output (first_of v.ending ending)
      was_open o bytes opened output front closed = record {
        opening = o;
        opened = opened;
        bytes = bytes;
        output_is = output;
        front = front;
        closed = λ e. closed (was_peer v.ending ending stop e);
      }

      alive : (orphan : Bool) (remote : ℕ) → LivesAs orphan remote l k packets (heard v) → Story l k packets shut (heard (killed ending v))
      alive true remote i = inr (inl (unheard i.unheard.not_by_peer i.unheard.output_is))
      alive false zero i = inr (inl (unheard (fresh i.ending) i.output))
      alive false (suc r) i =
          inr (inr (was_open i.opening (joined (told_in i.opening.remote l i.opening.later)) i.opened i.output
          ([], append-nil (joined (told_in i.opening.remote l i.opening.later))) (λ e. absurd (fresh i.ending e))))

      told : Story l k packets shut (heard v) → Story l k packets shut (heard (killed ending v))
      told (inl never) = inl never
      told (inr (inl i)) = inr (inl (unheard i.not_by_peer i.output_is))
      told (inr (inr i)) = inr (inr (was_open i.opening i.bytes i.opened i.output_is i.front i.closed))

      by : (o : Option SeenStream) → LivesIn o l k packets shut (heard v) → Story l k packets shut (heard (killed ending v))
      by None i = told i.1
      by (Some x) i = alive x.orphan x.remote i

  -- its client fails
  module _ (cause : Cause) (a : SeenClient) (here : v.client ≡ Some a) (h : Life l k packets shut out v) where
    abbrev failing : Ending
    failing = ClientFailed cause

    gone_front : IsPrefixOf out v.output
    gone_front = any_front v.client v.output out h.tied

    row_phase : (phase : Phase) (o : Option SeenStream) → a.phase ≡ phase → Life l k packets shut out (row_fails phase failing o v)
        → Life l k packets shut out (row_fails a.phase failing o v)
    row_phase phase o is i = subst (λ (p : Phase). Life l k packets shut out (row_fails p failing o v)) (sym is) i

    -- whose row it is
    its_phase : (phase : Phase) (c : SeenClient) → v.client ≡ Some c → c.phase ≡ phase → a.phase ≡ phase
    its_phase phase c is e =
        let same : c ≡ a = (let both : Some c ≡ Some a = sym is ∙ here in cc) in
        sym (ap (λ (x : SeenClient). x.phase) same) ∙ e

    alive_fails : (x : SeenStream) (orphan : Bool) (remote : ℕ) → x.orphan ≡ orphan → x.remote ≡ remote
        → LivesAs orphan remote l k packets (heard v)
        → Life l k packets shut out (row_fails a.phase failing (Some x) v)
    alive_fails x true remote is_orphan is i = absurd (let clash : None ≡ Some a = sym i.gone ∙ here in cc)
    alive_fails x false zero is_orphan is i = row_phase (Opening l) (Some x) (its_phase (Opening l) i.client i.here i.phase) (record {
      tied = gone_front;
      lives = record {
        remote_is = is;
        gone = refl;
        unheard = record { output_is = i.output; not_by_peer = other_ending v.ending failing i.ending (λ e. cc) };
      };
    })
    alive_fails x false (suc r) is_orphan is i = row_phase (Streaming l) (Some x)
        (its_phase (Streaming l) i.client i.here i.phase) (record {
          tied = gone_front;
          lives = (none_done, inr (inr (open_story (suc r) failing (λ e. cc) i)));
        })

    pub life_fails : Life l k packets shut out (failed_by cause a v)
    life_fails = by v.stream refl h.lives
      where
        by : (o : Option SeenStream) → v.stream ≡ o → LivesIn o l k packets shut (heard v)
            → Life l k packets shut out (row_fails a.phase failing o v)
        by None none i = row_phase Closing None (i.0 a here)
            (record {
              tied = gone_front;
              lives = subst (λ (o : Option SeenStream). LivesIn o l k packets shut (heard (record v { client = None })))
                  (sym none) (none_done, i.1);
            })
        by (Some x) there i = alive_fails x x.orphan x.remote refl refl i

-- ---- bytes are handed out
pub same_orphan : (c : Bool) (x y : SeenStream) (orphan : Bool) → x.orphan ≡ orphan → y.orphan ≡ orphan → (cond c x y).orphan ≡ orphan
same_orphan true x y orphan e f = e
same_orphan false x y orphan e f = f

pub same_remote : (c : Bool) (x y : SeenStream) (remote : ℕ) → x.remote ≡ remote → y.remote ≡ remote → (cond c x y).remote ≡ remote
same_remote true x y remote e f = e
same_remote false x y remote e f = f

module _ (l : ℕ) (k : Cradle) (packets : List Packet) (shut : Bool) (out : List ℕ) where
  -- a change that its life does not see
  life_okays : (okays : List Packet) (v : View) → Life l k packets shut out v → Life l k packets shut out (more_okays okays v)
  life_okays okays v h = record { tied = h.tied; lives = h.lives }

  life_row : (x y : SeenStream) (v : View) → y.orphan ≡ x.orphan → y.remote ≡ x.remote → v.stream ≡ Some x → Life l k packets shut out v
      → Life l k packets shut out (record v { stream = Some y })
  life_row x y v orphan remote there h = record {
    tied = h.tied;
    lives = subst (λ (c : Bool). LivesAs c y.remote l k packets (heard v)) (sym orphan)
        (subst (λ (r : ℕ). LivesAs x.orphan r l k packets (heard v)) (sym remote) (lives_at l k packets shut out v x there h));
  }

  life_told : (u : View) (credit : Bool) (left : ℕ) (x : SeenStream) → Life l k packets shut out u
      → Life l k packets shut out (left_told credit left l x u)
  life_told u true left x h = by (Rattle.adb_laws_fifo_down.specs.Turned.back_of left x)
    where
      by : (back : ℕ) → Life l k packets shut out (credit_told back l x u)
      by zero = h
      by (suc n) = life_okays _ u h
  life_told u false zero x h = life_okays _ u h
  life_told u false (suc left) x h = h

  -- so many bytes of its stream are left
  life_left : (left : ℕ) (x : SeenStream) (v : View) → v.stream ≡ Some x → Life l k packets shut out v
      → Life l k packets shut out (stream_left_as left l x v)
  life_left left x v there h = by (eqb left x.to_hand)
    where
      row : Life l k packets shut out (record v { stream = Some (row_left left x) })
      row = life_row x (row_left left x) v (same_orphan x.credit _ _ x.orphan refl refl)
          (same_remote x.credit _ _ x.remote refl refl) there h

      by : (c : Bool) → Life l k packets shut out (cond c v (left_told x.credit left l x (record v { stream = Some (row_left left x) })))
      by true = h
      by false = life_told (record v { stream = Some (row_left left x) }) x.credit left x row

module _ (l : ℕ) (k : Cradle) (packets : List Packet) (shut : Bool) (out bytes : List ℕ) (v : View) (a : SeenClient) where
  abbrev now_due : SeenClient
  now_due = record a { due = drop (length bytes) a.due }

  abbrev now_seen : View
  now_seen = record v { client = Some now_due }

  -- bytes are handed out to its client
  pub life_hands : (b : Line) → b.id ≡ l → v.client ≡ Some a → IsPrefixOf bytes a.due → Life l k packets shut out v
      → Life l k packets shut (out ++ bytes) (handed_out b (length bytes) a v)
  life_hands b id_is here front h =
      subst (λ (m : ℕ). Life l k packets shut (out ++ bytes) (handed_in a.phase m (length bytes) a v)) (sym id_is)
      (by v.stream refl h.lives)
    where
      off : v.output ≡ (out ++ bytes) ++ drop (length bytes) a.due
      off = handed_off v.output out a.due bytes (tied_at v.client a v.output out here h.tied) front

      in_phase : (phase : Phase) → a.phase ≡ phase → Life l k packets shut (out ++ bytes) (handed_in phase l (length bytes) a v)
          → Life l k packets shut (out ++ bytes) (handed_in a.phase l (length bytes) a v)
      in_phase phase is i = subst (λ (p : Phase). Life l k packets shut (out ++ bytes) (handed_in p l (length bytes) a v)) (sym is) i

      same : (c : SeenClient) → v.client ≡ Some c → c ≡ a
      same c is = let both : Some c ≡ Some a = sym is ∙ here in cc

      alive : (x : SeenStream) (orphan : Bool) (remote : ℕ) → x.orphan ≡ orphan → x.remote ≡ remote → v.stream ≡ Some x
          → LivesAs orphan remote l k packets (heard v)
          → Life l k packets shut (out ++ bytes) (handed_in a.phase l (length bytes) a v)
      alive x true remote is_orphan is there i = absurd (let clash : None ≡ Some a = sym i.gone ∙ here in cc)
      alive x false zero is_orphan is there i =
          let phase : a.phase ≡ Opening l = sym (ap (λ (c : SeenClient). c.phase) (same i.client i.here)) ∙ i.phase in
          let forwarded : a.forwarded ≡ k.forwarded = sym (ap (λ (c : SeenClient). c.forwarded) (same i.client i.here)) ∙ i.forwarded in
          in_phase (Opening l) phase (record {
            tied = off;
            lives = subst (λ (o : Option SeenStream). LivesIn o l k packets shut (heard now_seen)) (sym there)
                (subst (λ (c : Bool). LivesAs c x.remote l k packets (heard now_seen)) (sym is_orphan)
                (subst (λ (r : ℕ). LivesAs false r l k packets (heard now_seen)) (sym is) (record {
                  client = now_due;
                  here = refl;
                  phase = phase;
                  forwarded = forwarded;
                  output = i.output;
                  pending = i.pending;
                  ending = i.ending;
                })));
          })
      alive x false (suc r) is_orphan is there i =
          let phase : a.phase ≡ Streaming l = sym (ap (λ (c : SeenClient). c.phase) (same i.client i.here)) ∙ i.phase in
          let lives : LivesAs false (suc r) l k packets (heard now_seen) = record {
            client = now_due;
            here = refl;
            phase = phase;
            opening = i.opening;
            opened = i.opened;
            told_as = i.told_as;
            output = i.output;
            unclosed = i.unclosed;
            ending = i.ending;
          } in
          let life : Life l k packets shut (out ++ bytes) now_seen = record {
            tied = off;
            lives = subst (λ (o : Option SeenStream). LivesIn o l k packets shut (heard now_seen)) (sym there)
                (subst (λ (c : Bool). LivesAs c x.remote l k packets (heard now_seen)) (sym is_orphan)
                (subst (λ (r : ℕ). LivesAs false r l k packets (heard now_seen)) (sym is) lives));
          } in
          in_phase (Streaming l) phase
          (subst (λ (o : Option SeenStream). Life l k packets shut (out ++ bytes)
          (row_handed (length (drop (length bytes) a.due)) l o now_seen)) (sym there)
          (life_left l k packets shut (out ++ bytes) (min x.to_hand (length (drop (length bytes) a.due))) x now_seen there life))

      by : (o : Option SeenStream) → v.stream ≡ o → LivesIn o l k packets shut (heard v)
          → Life l k packets shut (out ++ bytes) (handed_in a.phase l (length bytes) a v)
      by None none i = in_phase Closing (i.0 a here) (record {
        tied = closing_tied (drop (length bytes) a.due) a v.output (out ++ bytes) off;
        lives = subst
            (λ (o : Option SeenStream). LivesIn o l k packets shut
            (heard (record v { client = closing_seen (drop (length bytes) a.due) a })))
            (sym none) (closing_done (drop (length bytes) a.due) a, i.1);
      })
      by (Some x) there i = alive x x.orphan x.remote refl refl there i

-- its link brings no more
pub life_shuts : (l : ℕ) (k : Cradle) (packets : List Packet) (shut : Bool) (out : List ℕ) (v : View) → Life l k packets shut out v
    → Life l k packets true out v
life_shuts l k packets shut out v h = record { tied = h.tied; lives = by v.stream h.lives }
  where
    by : (o : Option SeenStream) → LivesIn o l k packets shut (heard v) → LivesIn o l k packets true (heard v)
    by (Some x) i = i
    by None (done, inl (never, output)) = (done, inl (record { unopened = never.unopened; for_good = inl refl }, output))
    by None (done, inr story) = (done, inr story)
