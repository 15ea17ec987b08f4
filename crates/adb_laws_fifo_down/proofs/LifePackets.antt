-- The life of a stream goes on through each packet of its link.
use Rattle.std.proofs.Common.{ℕ, ◌≡◌, ◌≢◌, zero, suc, Bool, true, false, cond, List, [], ◌∷◌, ◌++◌, length, Option, Some, None, refl, sym}
use Rattle.std.proofs.Common.{◌∙◌, ap, subst}
use Rattle.std.proofs.Common.{eqb, append_assoc, inl, inr, ◌⊎◌}
use Rattle.std.proofs.lemmas.List.{append-nil}
use Rattle.std.proofs.lemmas.Bool.{eqb-true, ne_eqb}
use Rattle.std.specs.Prelude.{◌&&◌, ◌||◌, not}
use Rattle.adb_wire.specs.declared.command.Command.{Command}
use Rattle.adb_wire.specs.declared.command.Command.TheVariants.{Cnxn, Open, Okay, Wrte, Clse, Auth, Stls}
use Rattle.adb_wire.specs.declared.packets.Packet.{Packet}
use Rattle.adb_client.specs.declared.phase.Phase.TheVariants.{Streaming}
use Rattle.adb_history.specs.declared.ending.Ending.{Ending}
use Rattle.adb_history.specs.declared.ending.Ending.TheVariants.{PeerClosed, OutOfTurn}
use Rattle.adb_history.specs.Links.{okay_packet}
use Rattle.adb_history.specs.Births.{opening_in, told_in, before_close, is_close_of, is_between, is_wrte, is_clse, joined}
use Rattle.adb_laws_fifo_down.specs.Line.{SeenStream, SeenClient, View, over}
use Rattle.adb_laws_fifo_down.specs.Treated.{opened_as, is_late, takes, due_more, accepts_as, after_write, after_close}
use Rattle.adb_laws_fifo_down.specs.Treated.{cnxn_ending, treated_as, treated_on}
use Rattle.adb_laws_fifo_down.specs.Life.{Cradle, lead, IsSealed, heard, IsOrphaned, IsOpened, IsClosedAt}
use Rattle.adb_laws_fifo_down.specs.Life.{WasOpen, Story, LivesAs, LivesIn, TiedTo, Life}
use Rattle.adb_laws_fifo_down.proofs.Openings.{later_too, opening_stays, sealed_on, sealed_now, told_more, front_later}
use Rattle.adb_laws_fifo_down.proofs.Openings.{unclosed_on}
use Rattle.adb_laws_fifo_down.proofs.Lives.{tied_at, over_open, open_story, same_orphan, same_remote}
use Rattle.adb_laws_fifo_down.proofs.LifeFresh.{and_false, cnxn_no_close, orphan_goes, waits_goes}

-- one that was open, with one more packet
was_open_goes : (l : ℕ) (k : Cradle) (packets : List Packet) (p : Packet) (output : List ℕ) (ending : Option Ending)
    → WasOpen l k packets output ending
    → WasOpen l k (packets ++ p ∷ []) output ending
was_open_goes l k packets p output ending h = record {
  opening = later_too (p ∷ []) h.opening;
  opened = opening_stays l packets (p ∷ []) h.opening h.opened;
  bytes = h.bytes;
  output_is = h.output_is;
  front = front_later h.opening.remote l h.opening.later (p ∷ []) h.bytes h.front;
  closed = λ e. closed_later (h.closed e);
}
  where
    closed_later : IsClosedAt l h.opening h.bytes → IsClosedAt l (later_too (p ∷ []) h.opening) h.bytes
    closed_later c = record {
      whole = c.whole ∙ ap (λ (ps : List Packet). joined (told_in h.opening.remote l ps)) (sym (c.closed (p ∷ [])));
      closed = λ others. ap (before_close h.opening.remote l) (append_assoc h.opening.later (p ∷ []) others)
          ∙ (c.closed (p ∷ others) ∙ sym (c.closed (p ∷ [])));
    }

module _ (l : ℕ) (k : Cradle) (packets : List Packet) (out : List ℕ) (v : View) (p : Packet) where
  abbrev more : List Packet
  more = packets ++ p ∷ []

  abbrev Goes : View → Type 0
  Goes u = Life l k more false out u

  -- ---- when it is over
  story_goes : Story l k packets false (heard v) → Story l k more false (heard v)
  story_goes (inl (never, output)) = by never.for_good
    where
      by : (false ≡ true) ⊎ IsSealed l packets → Story l k more false (heard v)
      by (inl clash) = absurd (cc)
      by (inr sealed) =
          let seals : IsSealed l more = sealed_on l packets (p ∷ []) sealed in
          inl (record { unopened = sealed_now l more seals; for_good = inr seals }, output)
  story_goes (inr (inl unheard)) = inr (inl unheard)
  story_goes (inr (inr h)) = inr (inr (was_open_goes l k packets p v.output v.ending h))

  -- ---- while it lives
  module _ (h : Life l k packets false out v) (x : SeenStream) (there : v.stream ≡ Some x) where
    -- it lives on as it was seen
    lives_on : LivesAs x.orphan x.remote l k more (heard v) → Life l k more false out v
    lives_on i = record { tied = h.tied; lives = subst (λ (o : Option SeenStream). LivesIn o l k more false (heard v)) (sym there) i }

    by_command : (c : Command) → p.command ≡ c → Life l k more false out (treated_as l c p x v)
        → Life l k more false out (treated_as l p.command p x v)
    by_command c is i = subst (λ (c : Command). Life l k more false out (treated_as l c p x v)) (sym is) i

    -- ---- one that is open
    module _ (r : ℕ) (is_owned : x.orphan ≡ false) (known : x.remote ≡ suc r) (o : IsOpened (suc r) l k packets (heard v)) where
      own_due : v.output ≡ out ++ o.client.due
      own_due = tied_at v.client o.client v.output out o.here h.tied

      abbrev remote : ℕ
      remote = o.opening.remote

      abbrev later : List Packet
      later = o.opening.later

      remote_is : x.remote ≡ remote
      remote_is = known ∙ sym o.told_as

      still_opened : opening_in l more ≡ Some (later_too (p ∷ []) o.opening)
      still_opened = opening_stays l packets (p ∷ []) o.opening o.opened

      -- what is seen after a packet that does not close it
      record Opens (u : View) : Type 0 where
        row : SeenStream
        client : SeenClient
        there_now : u.stream ≡ Some row
        orphan : row.orphan ≡ x.orphan
        remote_now : row.remote ≡ x.remote
        here : u.client ≡ Some client
        phase : client.phase ≡ Streaming l
        due : u.output ≡ out ++ client.due
        output : u.output ≡ v.output ++ joined (told_in o.opening.remote l (p ∷ []))
        ending : u.ending ≡ v.ending

      opens_on : (u : View) → Opens u → is_close_of o.opening.remote l p ≡ false → Life l k more false out u
      opens_on u i unclosed = record {
        tied = subst (λ (c : Option SeenClient). TiedTo c u.output out) (sym i.here) i.due;
        lives = subst (λ (y : Option SeenStream). LivesIn y l k more false (heard u)) (sym i.there_now)
            (subst (λ (c : Bool). LivesAs c i.row.remote l k more (heard u)) (sym (i.orphan ∙ is_owned))
            (subst (λ (n : ℕ). LivesAs false n l k more (heard u)) (sym (i.remote_now ∙ known)) (record {
              client = i.client;
              here = i.here;
              phase = i.phase;
              opening = later_too (p ∷ []) o.opening;
              opened = still_opened;
              told_as = o.told_as;
              output = i.output ∙ (ap (λ (bytes : List ℕ). bytes ++ joined (told_in remote l (p ∷ []))) o.output
                  ∙ (append_assoc (lead k) (joined (told_in remote l later)) (joined (told_in remote l (p ∷ [])))
                  ∙ ap (λ (bytes : List ℕ). lead k ++ bytes) (sym (told_more remote l later (p ∷ [])))));
              unclosed = unclosed_on remote l later (p ∷ []) o.unclosed ∙ ap (λ (c : Bool). later ++ cond c [] (p ∷ [])) unclosed;
              ending = i.ending ∙ o.ending;
            })));
      }

      -- a packet that tells nothing
      seen_on : is_close_of o.opening.remote l p ≡ false → told_in o.opening.remote l (p ∷ []) ≡ [] → Life l k more false out v
      seen_on unclosed none = opens_on v (record {
        row = x;
        client = o.client;
        there_now = there;
        orphan = refl;
        remote_now = refl;
        here = o.here;
        phase = o.phase;
        due = own_due;
        output = sym (ap (λ (payloads : List (List ℕ)). v.output ++ joined payloads) none ∙ append-nil v.output);
        ending = refl;
      }) unclosed

      opened_over : (ending : Ending) → ending ≢ PeerClosed → Life l k more false out (over x.orphan ending v)
      opened_over ending other =
          subst (λ (c : Bool). Life l k more false out (over c ending v)) (sym is_owned)
          (over_open l k more false out v o.client l ending o.here o.phase own_due
          (was_open_goes l k packets p v.output _ (open_story l k packets false out v (suc r) ending other o)))

      -- its device closes it
      opened_closed : is_close_of o.opening.remote l p ≡ true → Life l k more false out (over x.orphan PeerClosed v)
      opened_closed closes =
          subst (λ (c : Bool). Life l k more false out (over c PeerClosed v)) (sym is_owned)
          (over_open l k more false out v o.client l PeerClosed o.here o.phase own_due (record {
            opening = later_too (p ∷ []) o.opening;
            opened = still_opened;
            bytes = joined (told_in remote l later);
            output_is = o.output;
            front = front_later remote l later (p ∷ []) (joined (told_in remote l later))
                ([], append-nil (joined (told_in remote l later)));
            closed = λ e. record {
              whole = ap (λ (ps : List Packet). joined (told_in remote l ps)) (sym (ends []));
              closed = λ others. ap (before_close remote l) (append_assoc later (p ∷ []) others) ∙ (ends others ∙ sym (ends []));
            };
          }))
        where
          ends : (others : List Packet) → before_close o.opening.remote l (o.opening.later ++ p ∷ others) ≡ o.opening.later
          ends others =
              unclosed_on o.opening.remote l o.opening.later (p ∷ others) o.unclosed
              ∙ (ap (λ (c : Bool). o.opening.later ++ cond c [] (p ∷ before_close o.opening.remote l others)) closes
              ∙ append-nil o.opening.later)

      -- what a packet tells, by its command
      tells_by : (c : Command) → p.command ≡ c → told_in o.opening.remote l (p ∷ [])
          ≡ cond (is_wrte c && is_between o.opening.remote l p) (p.payload ∷ []) []
      tells_by c is = ap (λ (c : Command). cond (is_wrte c && is_between o.opening.remote l p) (p.payload ∷ []) []) is

      closes_by : (c : Command) → p.command ≡ c
          → is_close_of o.opening.remote l p ≡ (is_clse c && (is_between 0 l p || is_between o.opening.remote l p))
      closes_by c is = ap (λ (c : Command). is_clse c && (is_between 0 l p || is_between o.opening.remote l p)) is

      -- a write is accepted
      accepted : (payload : List ℕ) → told_in o.opening.remote l (p ∷ []) ≡ payload ∷ [] → is_close_of o.opening.remote l p ≡ false
          → Life l k more false out (accepts_as l payload x v)
      accepted [] told unclosed = by x.credit
        where
          none : v.output ≡ v.output ++ joined (told_in o.opening.remote l (p ∷ []))
          none = sym (ap (λ (payloads : List (List ℕ)). v.output ++ joined payloads) told ∙ append-nil v.output)

          by : (c : Bool) → Life l k more false out (cond c v (record v { okays = v.okays ++ okay_packet l x.remote ∷ [] }))
          by true = opens_on v (record {
            row = x;
            client = o.client;
            there_now = there;
            orphan = refl;
            remote_now = refl;
            here = o.here;
            phase = o.phase;
            due = own_due;
            output = none;
            ending = refl;
          }) unclosed
          by false = opens_on (record v { okays = v.okays ++ okay_packet l x.remote ∷ [] }) (record {
            row = x;
            client = o.client;
            there_now = there;
            orphan = refl;
            remote_now = refl;
            here = o.here;
            phase = o.phase;
            due = own_due;
            output = none;
            ending = refl;
          }) unclosed
      accepted (d ∷ payload) told unclosed = opens_on (accepts_as l (d ∷ payload) x v) (record {
        row = takes (length (d ∷ payload)) x;
        client = record o.client { due = o.client.due ++ d ∷ payload };
        there_now = refl;
        orphan = same_orphan x.credit _ _ x.orphan refl refl;
        remote_now = same_remote x.credit _ _ x.remote refl refl;
        here = ap (due_more (d ∷ payload)) o.here;
        phase = o.phase;
        due = ap (λ (bytes : List ℕ). bytes ++ d ∷ payload) own_due ∙ append_assoc out o.client.due (d ∷ payload);
        output = sym (ap (λ (payloads : List (List ℕ)). v.output ++ joined payloads) told
            ∙ ap (λ (bytes : List ℕ). v.output ++ bytes) (append-nil (d ∷ payload)));
        ending = refl;
      }) unclosed

      opened_goes : (c : Command) → p.command ≡ c → Life l k more false out (treated_as l c p x v)
      opened_goes Cnxn is = opened_over (cnxn_ending p) (cnxn_no_close p)
      opened_goes Open is = seen_on (closes_by Open is) (tells_by Open is)
      opened_goes Auth is = seen_on (closes_by Auth is) (tells_by Auth is)
      opened_goes Stls is = seen_on (closes_by Stls is) (tells_by Stls is)
      opened_goes Okay is = by (eqb p.arg1 l) (eqb p.arg0 0)
        where
          same : Life l k more false out v
          same = seen_on (closes_by Okay is) (tells_by Okay is)

          known_one : eqb x.remote 0 ≡ false
          known_one = ne_eqb x.remote 0 (λ e. let clash : suc r ≡ 0 = sym known ∙ e in cc)

          by : (c d : Bool) → Life l k more false out (cond c (cond d v (cond (eqb x.remote 0) (opened_as x.orphan l p.arg0 x v) v)) v)
          by false d = same
          by true true = same
          by true false = subst (λ (c : Bool). Life l k more false out (cond c (opened_as x.orphan l p.arg0 x v) v)) (sym known_one) same
      opened_goes Wrte is = by (eqb p.arg1 l) (eqb p.arg0 o.opening.remote) refl refl
        where
          unclosed : is_close_of o.opening.remote l p ≡ false
          unclosed = closes_by Wrte is

          told : (c d : Bool) → eqb p.arg1 l ≡ c → eqb p.arg0 o.opening.remote ≡ d
              → told_in o.opening.remote l (p ∷ []) ≡ cond (d && c) (p.payload ∷ []) []
          told c d e f =
              tells_by Wrte is
              ∙ (ap (λ (c : Bool). cond (eqb p.arg0 o.opening.remote && c) (p.payload ∷ []) []) e
              ∙ ap (λ (d : Bool). cond (d && c) (p.payload ∷ []) []) f)

          tests : (d : Bool) → eqb p.arg0 o.opening.remote ≡ d → (eqb p.arg0 0 || not (eqb p.arg0 x.remote)) ≡ (eqb p.arg0 0 || not d)
          tests d f = ap (λ (n : ℕ). eqb p.arg0 0 || not (eqb p.arg0 n)) remote_is ∙ ap (λ (d : Bool). eqb p.arg0 0 || not d) f

          or_true : (c : Bool) → (c || true) ≡ true
          or_true true = refl
          or_true false = refl

          in_turn : eqb p.arg1 l ≡ true → eqb p.arg0 o.opening.remote ≡ true → (c : Bool)
              → Life l k more false out (cond c (over x.orphan OutOfTurn v) (accepts_as l p.payload x v))
          in_turn e f true = opened_over OutOfTurn (λ q. cc)
          in_turn e f false = accepted p.payload (told true true e f) unclosed

          some : eqb p.arg0 o.opening.remote ≡ true → eqb p.arg0 0 ≡ false
          some f = ne_eqb p.arg0 0 (λ e. let clash : suc r ≡ 0 = sym o.told_as ∙ (sym (eqb-true p.arg0 o.opening.remote f) ∙ e) in cc)

          by : (c d : Bool) → eqb p.arg1 l ≡ c → eqb p.arg0 o.opening.remote ≡ d
              → Life l k more false out (cond c (after_write l p.arg0 p.payload x v) v)
          by false d e f = seen_on unclosed (told false d e f ∙ ap (λ (c : Bool). cond c (p.payload ∷ []) []) (and_false d))
          by true false e f =
              subst (λ (c : Bool). Life l k more false out (cond c v
              (cond (is_late x (length p.payload)) (over x.orphan OutOfTurn v) (accepts_as l p.payload x v))))
              (sym (tests false f ∙ or_true (eqb p.arg0 0))) (seen_on unclosed (told true false e f))
          by true true e f =
              subst (λ (c : Bool). Life l k more false out (cond c v
              (cond (is_late x (length p.payload)) (over x.orphan OutOfTurn v) (accepts_as l p.payload x v))))
              (sym (tests true f ∙ ap (λ (c : Bool). c || false) (some f))) (in_turn e f (is_late x (length p.payload)))
      opened_goes Clse is = by (eqb p.arg1 l) (eqb p.arg0 0) (eqb p.arg0 o.opening.remote) refl refl refl
        where
          closes : (c d e : Bool) → eqb p.arg1 l ≡ c → eqb p.arg0 0 ≡ d → eqb p.arg0 o.opening.remote ≡ e
              → is_close_of o.opening.remote l p ≡ ((d && c) || (e && c))
          closes c d e f g i =
              closes_by Clse is
              ∙ (ap (λ (c : Bool). (eqb p.arg0 0 && c) || (eqb p.arg0 o.opening.remote && c)) f
              ∙ (ap (λ (d : Bool). (d && c) || (eqb p.arg0 o.opening.remote && c)) g ∙ ap (λ (e : Bool). (d && c) || (e && c)) i))

          tests : (d e : Bool) → eqb p.arg0 0 ≡ d → eqb p.arg0 o.opening.remote ≡ e → (eqb p.arg0 0 || eqb p.arg0 x.remote) ≡ (d || e)
          tests d e g i =
              ap (λ (n : ℕ). eqb p.arg0 0 || eqb p.arg0 n) remote_is
              ∙ (ap (λ (d : Bool). d || eqb p.arg0 o.opening.remote) g ∙ ap (λ (e : Bool). d || e) i)

          neither : (d e : Bool) → ((d && false) || (e && false)) ≡ false
          neither true true = refl
          neither true false = refl
          neither false true = refl
          neither false false = refl

          closed_when : (d e : Bool) → (d || e) ≡ true → ((d && true) || (e && true)) ≡ true
          closed_when true e f = refl
          closed_when false true f = refl
          closed_when false false f = f

          open_when : (d e : Bool) → (d || e) ≡ false → ((d && true) || (e && true)) ≡ false
          open_when false false f = refl
          open_when true e f = absurd (cc)
          open_when false true f = absurd (cc)

          ended : (c : Bool) → (c ≡ true → is_close_of o.opening.remote l p ≡ true) → (c ≡ false → is_close_of o.opening.remote l p ≡ false)
              → Life l k more false out (cond c (over x.orphan PeerClosed v) v)
          ended true one other = opened_closed (one refl)
          ended false one other = seen_on (other refl) (tells_by Clse is)

          by : (c d e : Bool) → eqb p.arg1 l ≡ c → eqb p.arg0 0 ≡ d → eqb p.arg0 o.opening.remote ≡ e
              → Life l k more false out (cond c (after_close p.arg0 x v) v)
          by false d e f g i = seen_on (closes false d e f g i ∙ neither d e) (tells_by Clse is)
          by true d e f g i =
              subst (λ (c : Bool). Life l k more false out (cond c (over x.orphan PeerClosed v) v)) (sym (tests d e g i))
              (ended (d || e) (λ q. closes true d e f g i ∙ closed_when d e q) (λ q. closes true d e f g i ∙ open_when d e q))

  -- ---- any
  pub life_treats : Life l k packets false out v → Life l k more false out (treated_on v.stream l p v)
  life_treats h = by v.stream refl h.lives
    where
      alive : (x : SeenStream) (orphan : Bool) (remote : ℕ) → v.stream ≡ Some x → x.orphan ≡ orphan → x.remote ≡ remote
          → LivesAs orphan remote l k packets (heard v)
          → Life l k more false out (treated_as l p.command p x v)
      alive x true r there is_orphan is i =
          orphan_goes l k packets out v p h x there is_orphan (subst (λ (r : ℕ). IsOrphaned r k (heard v)) (sym is) i) p.command
      alive x false zero there is_owned is i = waits_goes l k packets out v p h x there is_owned is i p.command refl
      alive x false (suc r) there is_owned is i = opened_goes h x there r is_owned is i p.command refl

      by : (o : Option SeenStream) → v.stream ≡ o → LivesIn o l k packets false (heard v) → Life l k more false out (treated_on o l p v)
      by None none i = record {
        tied = h.tied;
        lives = subst (λ (o : Option SeenStream). LivesIn o l k more false (heard v)) (sym none) (i.0, story_goes i.1);
      }
      by (Some x) there i = alive x x.orphan x.remote there refl refl i
