-- The life of a stream that its device has not opened goes on through each packet of its link.
use Rattle.std.proofs.Common.{ℕ, ◌≡◌, ◌≢◌, zero, suc, Bool, true, false, cond, List, [], ◌∷◌, ◌++◌, length, Option, Some, None, refl, sym}
use Rattle.std.proofs.Common.{◌∙◌, ap, subst}
use Rattle.std.proofs.Common.{eqb, append_assoc, inl, inr, codes}
use Rattle.std.proofs.lemmas.List.{append-nil}
use Rattle.std.proofs.lemmas.Bool.{eqb-false, eq-eqb}
use Rattle.std.specs.Prelude.{◌&&◌, ◌||◌, not}
use Rattle.adb_outside.specs.declared.identity.Identity.{Identity}
use Rattle.adb_banner.specs.Banner.{identity_of}
use Rattle.adb_wire.specs.declared.command.Command.{Command}
use Rattle.adb_wire.specs.declared.command.Command.TheVariants.{Cnxn, Open, Okay, Wrte, Clse, Auth, Stls}
use Rattle.adb_wire.specs.declared.packets.Packet.{Packet}
use Rattle.adb_client.specs.declared.phase.Phase.TheVariants.{Streaming}
use Rattle.adb_history.specs.declared.ending.Ending.{Ending}
use Rattle.adb_history.specs.declared.ending.Ending.TheVariants.{PeerClosed, OutOfTurn}
use Rattle.adb_history.specs.Links.{credit_word}
use Rattle.adb_history.specs.Births.{opening_by, opening_in}
use Rattle.adb_laws_fifo_down.specs.Line.{SeenStream, SeenClient, View, over}
use Rattle.adb_laws_fifo_down.specs.Treated.{hears_as, hears_open, opened_as, is_late, accepts_as, after_write, after_close, ending_by}
use Rattle.adb_laws_fifo_down.specs.Treated.{cnxn_ending, treated_as}
use Rattle.adb_laws_fifo_down.specs.Life.{Cradle, okay_after, lead, IsSealed, Heard, heard, IsWaiting, IsOrphaned, IsOpened}
use Rattle.adb_laws_fifo_down.specs.Life.{LivesAs, LivesIn, Life}
use Rattle.adb_laws_fifo_down.proofs.Openings.{pending_on, sealed_by, sealed_now, opened_by}
use Rattle.adb_laws_fifo_down.proofs.Lives.{tied_at, over_waiting, over_orphan}

pub always_or : (c : Bool) → (c || not c) ≡ true
always_or true = refl
always_or false = refl

pub and_false : (c : Bool) → (c && false) ≡ false
and_false true = refl
and_false false = refl

-- a CNXN is no close
pub cnxn_no_close : (p : Packet) → cnxn_ending p ≢ PeerClosed
cnxn_no_close p = by (Rattle.std.specs.Prelude.nat_lt p.arg0 Rattle.adb_history.specs.Packets.least_version
    || Rattle.std.specs.Prelude.nat_lt p.arg1 Rattle.adb_history.specs.Packets.least_maxdata) (identity_of p.payload)
  where
    by : (c : Bool) (who : Option Identity) → ending_by c who ≢ PeerClosed
    by true who e = cc
    by false None e = cc
    by false (Some identity) e = cc

module _ (l : ℕ) (k : Cradle) (packets : List Packet) (out : List ℕ) (v : View) (p : Packet) where
  abbrev more : List Packet
  more = packets ++ p ∷ []

  abbrev Goes : View → Type 0
  Goes u = Life l k more false out u

  -- ---- while it lives
  module _ (h : Life l k packets false out v) (x : SeenStream) (there : v.stream ≡ Some x) where
    -- it lives on as it was seen
    lives_on : LivesAs x.orphan x.remote l k more (heard v) → Life l k more false out v
    lives_on i = record { tied = h.tied; lives = subst (λ (o : Option SeenStream). LivesIn o l k more false (heard v)) (sym there) i }

    by_command : (c : Command) → p.command ≡ c → Life l k more false out (treated_as l c p x v)
        → Life l k more false out (treated_as l p.command p x v)
    by_command c is i = subst (λ (c : Command). Life l k more false out (treated_as l c p x v)) (sym is) i

    -- ---- an orphan
    module _ (is_orphan : x.orphan ≡ true) (o : IsOrphaned x.remote k (heard v)) where
      orphan_on : Life l k more false out v
      orphan_on = record {
        tied = h.tied;
        lives = subst (λ (y : Option SeenStream). LivesIn y l k more false (heard v)) (sym there)
            (subst (λ (c : Bool). LivesAs c x.remote l k more (heard v)) (sym is_orphan) o);
      }

      orphan_over : (ending : Ending) → Life l k more false out (over x.orphan ending v)
      orphan_over ending =
          subst (λ (c : Bool). Life l k more false out (over c ending v)) (sym is_orphan)
          (over_orphan l k more false out v ending o.gone h.tied o.unheard)

      orphan_gone : Life l k more false out (record v { stream = None })
      orphan_gone = record {
        tied = h.tied;
        lives = (λ a e. absurd (let clash : None ≡ Some a = sym o.gone ∙ e in cc), inr (inl o.unheard));
      }

      pub orphan_goes : (c : Command) → Life l k more false out (treated_as l c p x v)
      orphan_goes Cnxn = orphan_over (cnxn_ending p)
      orphan_goes Okay = by (eqb p.arg1 l) (eqb p.arg0 0) (eqb x.remote 0)
        where
          opened : Life l k more false out (opened_as x.orphan l p.arg0 x v)
          opened = subst (λ (c : Bool). Life l k more false out (opened_as c l p.arg0 x v)) (sym is_orphan) orphan_gone

          by : (c d e : Bool) → Life l k more false out (cond c (cond d v (cond e (opened_as x.orphan l p.arg0 x v) v)) v)
          by true false true = opened
          by _ _ _ = orphan_on
      orphan_goes Wrte = by (eqb p.arg1 l)
        where
          never : (eqb p.arg0 0 || not (eqb p.arg0 x.remote)) ≡ true
          never = ap (λ (r : ℕ). eqb p.arg0 0 || not (eqb p.arg0 r)) o.remote_is ∙ always_or (eqb p.arg0 0)

          none : Life l k more false out (after_write l p.arg0 p.payload x v)
          none = subst (λ (c : Bool). Life l k more false out (cond c v
              (cond (is_late x (length p.payload)) (over x.orphan OutOfTurn v) (accepts_as l p.payload x v)))) (sym never) orphan_on

          by : (c : Bool) → Life l k more false out (cond c (after_write l p.arg0 p.payload x v) v)
          by true = none
          by false = orphan_on
      orphan_goes Clse = by (eqb p.arg1 l) (eqb p.arg0 0 || eqb p.arg0 x.remote)
        where
          by : (c d : Bool) → Life l k more false out (cond c (cond d (over x.orphan PeerClosed v) v) v)
          by false d = orphan_on
          by true true = orphan_over PeerClosed
          by true false = orphan_on
      orphan_goes _ = orphan_on

    -- ---- one that waits
    module _ (is_owned : x.orphan ≡ false) (fresh : x.remote ≡ 0) (o : IsWaiting l k packets (heard v)) where
      due_now : v.output ≡ out ++ o.client.due
      due_now = tied_at v.client o.client v.output out o.here h.tied

      waits_on : ((others : List Packet) → opening_in l (p ∷ others) ≡ opening_in l others) → Life l k more false out v
      waits_on passes =
          lives_on (subst (λ (c : Bool). LivesAs c x.remote l k more (heard v)) (sym is_owned)
          (subst (λ (r : ℕ). LivesAs false r l k more (heard v)) (sym fresh) (record {
            client = o.client;
            here = o.here;
            phase = o.phase;
            forwarded = o.forwarded;
            output = o.output;
            pending = pending_on l packets p o.pending passes;
            ending = o.ending;
          })))

      waits_over : (ending : Ending) → ((others : List Packet) → opening_in l (p ∷ others) ≡ None)
          → Life l k more false out (over x.orphan ending v)
      waits_over ending seals =
          let sealed : IsSealed l more = sealed_by l packets p o.pending seals in
          subst (λ (c : Bool). Life l k more false out (over c ending v)) (sym is_owned)
          (over_waiting l k more false out v packets o ending due_now
          (record { unopened = sealed_now l more sealed; for_good = inr sealed }))

      -- what the opening is by a packet
      as_command : (c : Command) → p.command ≡ c → (others : List Packet)
          → opening_in l (p ∷ others) ≡ opening_by c l p others (opening_in l others)
      as_command c is others = ap (λ (c : Command). opening_by c l p others (opening_in l others)) is

      -- its device opens it
      opened_now : (r : ℕ) → p.arg0 ≡ suc r → opening_in l (p ∷ [])
          ≡ Some (record { remote = p.arg0; word = credit_word p.payload; later = [] })
          → Life l k more false out (opened_as false l p.arg0 x v)
      opened_now r is opens =
          subst (λ (c : Option SeenClient). Life l k more false out
          (hears_open l c (record v { stream = Some (record x { remote = p.arg0 }) }))) (sym o.here)
          (by o.client.forwarded o.forwarded)
        where
          live : (y : Heard) → IsOpened (suc r) l k more y → LivesAs x.orphan p.arg0 l k more y
          live y i = subst (λ (c : Bool). LivesAs c p.arg0 l k more y) (sym is_owned)
              (subst (λ (n : ℕ). LivesAs false n l k more y) (sym is) i)

          by : (forwarded : Bool) → forwarded ≡ k.forwarded
              → Life l k more false out (hears_as forwarded l o.client (record v { stream = Some (record x { remote = p.arg0 }) }))
          by true same = record {
            tied = due_now;
            lives = live _ (record {
              client = record o.client { phase = Streaming l };
              here = refl;
              phase = refl;
              opening = record { remote = p.arg0; word = credit_word p.payload; later = [] };
              opened = opened_by l packets p (record { remote = p.arg0; word = credit_word p.payload; later = [] }) o.pending opens;
              told_as = is;
              output = o.output ∙ (ap (λ (c : Bool). okay_after c k.replies) same ∙ sym (append-nil (lead k)));
              unclosed = refl;
              ending = o.ending;
            });
          }
          by false same = record {
            tied = ap (λ (bytes : List ℕ). bytes ++ codes "OKAY") due_now ∙ append_assoc out o.client.due (codes "OKAY");
            lives = live _ (record {
              client = record o.client { phase = Streaming l; due = o.client.due ++ codes "OKAY" };
              here = refl;
              phase = refl;
              opening = record { remote = p.arg0; word = credit_word p.payload; later = [] };
              opened = opened_by l packets p (record { remote = p.arg0; word = credit_word p.payload; later = [] }) o.pending opens;
              told_as = is;
              output = ap (λ (bytes : List ℕ). bytes ++ codes "OKAY") o.output
                  ∙ (ap (λ (c : Bool). okay_after c k.replies) same ∙ sym (append-nil (lead k)));
              unclosed = refl;
              ending = o.ending;
            });
          }

      pub waits_goes : (c : Command) → p.command ≡ c → Life l k more false out (treated_as l c p x v)
      waits_goes Cnxn is = waits_over (cnxn_ending p) (λ others. as_command Cnxn is others)
      waits_goes Open is = waits_on (λ others. as_command Open is others)
      waits_goes Auth is = waits_on (λ others. as_command Auth is others)
      waits_goes Stls is = waits_on (λ others. as_command Stls is others)
      waits_goes Okay is = by (eqb p.arg1 l) (eqb p.arg0 0) refl refl
        where
          opens : (c d : Bool) → eqb p.arg1 l ≡ c → eqb p.arg0 0 ≡ d → (others : List Packet) → opening_in l (p ∷ others)
              ≡ cond (c && not d) (Some (record { remote = p.arg0; word = credit_word p.payload; later = others })) (opening_in l others)
          opens c d e f others =
              as_command Okay is others
              ∙ (ap (λ (c : Bool). cond (c && not (eqb p.arg0 0))
              (Some (record { remote = p.arg0; word = credit_word p.payload; later = others }))
              (opening_in l others)) e
              ∙ ap (λ (d : Bool). cond (c && not d)
              (Some (record { remote = p.arg0; word = credit_word p.payload; later = others }))
              (opening_in l others)) f)

          first : (r : ℕ) → p.arg0 ≡ r → r ≢ 0 → opening_in l (p ∷ [])
              ≡ Some (record { remote = p.arg0; word = credit_word p.payload; later = [] })
              → Life l k more false out (cond (eqb x.remote 0) (opened_as x.orphan l p.arg0 x v) v)
          first zero same some opens_it = absurd (some refl)
          first (suc r) same some opens_it =
              subst (λ (c : Bool). Life l k more false out (cond c (opened_as x.orphan l p.arg0 x v) v)) (sym (eq-eqb x.remote 0 fresh))
              (subst (λ (c : Bool). Life l k more false out (opened_as c l p.arg0 x v)) (sym is_owned) (opened_now r same opens_it))

          by : (c d : Bool) → eqb p.arg1 l ≡ c → eqb p.arg0 0 ≡ d
              → Life l k more false out (cond c (cond d v (cond (eqb x.remote 0) (opened_as x.orphan l p.arg0 x v) v)) v)
          by false d e f = waits_on (λ others. opens false d e f others)
          by true true e f = waits_on (λ others. opens true true e f others)
          by true false e f = first p.arg0 refl (eqb-false p.arg0 0 f) (opens true false e f [])
      waits_goes Wrte is = by (eqb p.arg1 l)
        where
          passes : Life l k more false out v
          passes = waits_on (λ others. as_command Wrte is others)

          never : (eqb p.arg0 0 || not (eqb p.arg0 x.remote)) ≡ true
          never = ap (λ (r : ℕ). eqb p.arg0 0 || not (eqb p.arg0 r)) fresh ∙ always_or (eqb p.arg0 0)

          none : Life l k more false out (after_write l p.arg0 p.payload x v)
          none = subst (λ (c : Bool). Life l k more false out (cond c v
              (cond (is_late x (length p.payload)) (over x.orphan OutOfTurn v) (accepts_as l p.payload x v)))) (sym never) passes

          by : (c : Bool) → Life l k more false out (cond c (after_write l p.arg0 p.payload x v) v)
          by true = none
          by false = passes
      waits_goes Clse is = by (eqb p.arg1 l) (eqb p.arg0 0) refl refl
        where
          closes : (c d : Bool) → eqb p.arg1 l ≡ c → eqb p.arg0 0 ≡ d → (others : List Packet)
              → opening_in l (p ∷ others) ≡ cond (d && c) None (opening_in l others)
          closes c d e f others =
              as_command Clse is others
              ∙ (ap (λ (c : Bool). cond (eqb p.arg0 0 && c) None (opening_in l others)) e
              ∙ ap (λ (d : Bool). cond (d && c) None (opening_in l others)) f)

          same : (eqb p.arg0 0 || eqb p.arg0 x.remote) ≡ (eqb p.arg0 0 || eqb p.arg0 0)
          same = ap (λ (r : ℕ). eqb p.arg0 0 || eqb p.arg0 r) fresh

          by : (c d : Bool) → eqb p.arg1 l ≡ c → eqb p.arg0 0 ≡ d → Life l k more false out (cond c (after_close p.arg0 x v) v)
          by false d e f =
              waits_on (λ others. closes false d e f others ∙ ap (λ (c : Bool). cond c None (opening_in l others))
              (and_false d))
          by true true e f =
              subst (λ (c : Bool). Life l k more false out (cond c (over x.orphan PeerClosed v) v))
              (sym (same ∙ ap (λ (c : Bool). c || c) f))
              (waits_over PeerClosed (λ others. closes true true e f others))
          by true false e f =
              subst (λ (c : Bool). Life l k more false out (cond c (over x.orphan PeerClosed v) v))
              (sym (same ∙ ap (λ (c : Bool). c || c) f))
              (waits_on (λ others. closes true false e f others))
