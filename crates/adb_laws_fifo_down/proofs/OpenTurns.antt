-- What one packet makes of what is seen of a stream: nothing, its end, or a write that it accepts; and of one that
-- its device has not opened.
use Rattle.std.proofs.Common.{ℕ, ◌≡◌, ◌≢◌, Bool, true, false, cond, [], ◌∷◌, length, Option, Some, None, refl, sym, ◌∙◌, ap, subst}
use Rattle.std.proofs.Common.{eqb, inl, inr, ◌⊎◌}
use Rattle.std.proofs.lemmas.Bool.{eqb-true, ne_eqb}
use Rattle.std.specs.Prelude.{◌&&◌, ◌||◌, not}
use Rattle.adb_wire.specs.declared.command.Command.{Command}
use Rattle.adb_wire.specs.declared.command.Command.TheVariants.{Cnxn, Open, Okay, Wrte, Clse, Auth, Stls}
use Rattle.adb_wire.specs.declared.packets.Packet.{Packet}
use Rattle.adb_client.specs.declared.phase.Phase.{Phase}
use Rattle.adb_client.specs.declared.phase.Phase.TheVariants.{Streaming}
use Rattle.adb_history.specs.declared.ending.Ending.{Ending}
use Rattle.adb_history.specs.declared.ending.Ending.TheVariants.{PeerClosed, OutOfTurn}
use Rattle.adb_history.specs.Births as birth
use Rattle.adb_history.specs.Births.{told_in, is_between, is_wrte, opening_by, opening_in}
use Rattle.adb_laws_fifo_down.specs.Line.{SeenStream, SeenClient, View, loss, lost_by, over}
use Rattle.adb_laws_fifo_down.specs.Treated.{hears_as, hears_open, opened_as, is_late, accepts_as, after_write, cnxn_ending, treated_as}
use Rattle.adb_laws_fifo_down.proofs.LifeFresh.{always_or, and_false}

-- ---- what an end leaves
loss_okays : (forwarded : Bool) (phase : Phase) (a : SeenClient) (v : View) → (loss forwarded phase a v).okays ≡ v.okays
loss_okays forwarded (Streaming l) a v = refl
loss_okays true _ a v = refl
loss_okays false _ a v = refl

lost_okays : (o : Option SeenClient) (v : View) → (lost_by o v).okays ≡ v.okays
lost_okays None v = refl
lost_okays (Some a) v = loss_okays a.forwarded a.phase a v

pub over_okays : (orphan : Bool) (ending : Ending) (v : View) → (over orphan ending v).okays ≡ v.okays
over_okays orphan ending v = lost_okays v.client _

module _ (l : ℕ) (p : Packet) (x : SeenStream) (v : View) where
  -- ---- a stream that is open
  -- a write is accepted
  pub record Accepts (remote : ℕ) (u : View) : Type 0 where
    pub is : u ≡ accepts_as l p.payload x v
    pub told : told_in remote l (p ∷ []) ≡ p.payload ∷ []
    pub in_turn : is_late x (length p.payload) ≡ false

  -- it stays as it was seen, and nothing is told
  pub record Stays (remote : ℕ) (u : View) : Type 0 where
    pub is : u ≡ v
    pub told : told_in remote l (p ∷ []) ≡ []

  abbrev pub OpenTurn : ℕ → View → Type 0
  OpenTurn remote u = Stays remote u ⊎ (((ending : Ending) × (u ≡ over x.orphan ending v)) ⊎ Accepts remote u)

  module _ (remote : ℕ) (known : x.remote ≡ remote) (some : remote ≢ 0) where
    tells_by : (c : Command) → p.command ≡ c → told_in remote l (p ∷ []) ≡ cond (is_wrte c && is_between remote l p) (p.payload ∷ []) []
    tells_by c is = ap (λ (c : Command). cond (is_wrte c && is_between remote l p) (p.payload ∷ []) []) is

    stay : (c : Command) → p.command ≡ c → is_wrte c ≡ false → OpenTurn remote v
    stay c is quiet =
        inl (record {
          is = refl;
          told =
              tells_by c is ∙ ap (λ (b : Bool). cond (b && is_between remote l p) (p.payload ∷ []) []) quiet;
        })

    open_goes : (c : Command) → p.command ≡ c → OpenTurn remote (treated_as l c p x v)
    open_goes Cnxn is = inr (inl (cnxn_ending p, refl))
    open_goes Open is = stay Open is refl
    open_goes Auth is = stay Auth is refl
    open_goes Stls is = stay Stls is refl
    open_goes Okay is = by (eqb p.arg1 l) (eqb p.arg0 0)
      where
        known_one : eqb x.remote 0 ≡ false
        known_one = ne_eqb x.remote 0 (λ e. some (sym known ∙ e))

        by : (c d : Bool) → OpenTurn remote (cond c (cond d v (cond (eqb x.remote 0) (opened_as x.orphan l p.arg0 x v) v)) v)
        by false d = stay Okay is refl
        by true true = stay Okay is refl
        by true false = subst (λ (c : Bool). OpenTurn remote (cond c (opened_as x.orphan l p.arg0 x v) v))
            (sym known_one) (stay Okay is refl)
    open_goes Clse is = by (eqb p.arg1 l) (eqb p.arg0 0 || eqb p.arg0 x.remote)
      where
        by : (c d : Bool) → OpenTurn remote (cond c (cond d (over x.orphan PeerClosed v) v) v)
        by false d = stay Clse is refl
        by true true = inr (inl (PeerClosed, refl))
        by true false = stay Clse is refl
    open_goes Wrte is = by (eqb p.arg1 l) (eqb p.arg0 remote) refl refl
      where
        told : (c d : Bool) → eqb p.arg1 l ≡ c → eqb p.arg0 remote ≡ d → told_in remote l (p ∷ []) ≡ cond (d && c) (p.payload ∷ []) []
        told c d e f =
            tells_by Wrte is
            ∙ (ap (λ (c : Bool). cond (eqb p.arg0 remote && c) (p.payload ∷ []) []) e
            ∙ ap (λ (d : Bool). cond (d && c) (p.payload ∷ []) []) f)

        tests : (d : Bool) → eqb p.arg0 remote ≡ d → (eqb p.arg0 0 || not (eqb p.arg0 x.remote)) ≡ (eqb p.arg0 0 || not d)
        tests d f = ap (λ (n : ℕ). eqb p.arg0 0 || not (eqb p.arg0 n)) known ∙ ap (λ (d : Bool). eqb p.arg0 0 || not d) f

        or_true : (c : Bool) → (c || true) ≡ true
        or_true true = refl
        or_true false = refl

        in_turn : eqb p.arg1 l ≡ true → eqb p.arg0 remote ≡ true → (c : Bool) → is_late x (length p.payload) ≡ c
            → OpenTurn remote (cond c (over x.orphan OutOfTurn v) (accepts_as l p.payload x v))
        in_turn e f true g = inr (inl (OutOfTurn, refl))
        in_turn e f false g = inr (inr (record { is = refl; told = told true true e f; in_turn = g }))

        by : (c d : Bool) → eqb p.arg1 l ≡ c → eqb p.arg0 remote ≡ d → OpenTurn remote (cond c (after_write l p.arg0 p.payload x v) v)
        by false d e f = inl (record { is = refl; told = told false d e f ∙ ap (λ (c : Bool). cond c (p.payload ∷ []) []) (and_false d) })
        by true false e f =
            subst (λ (c : Bool). OpenTurn remote (cond c v
            (cond (is_late x (length p.payload)) (over x.orphan OutOfTurn v) (accepts_as l p.payload x v))))
            (sym (tests false f ∙ or_true (eqb p.arg0 0))) (inl (record { is = refl; told = told true false e f }))
        by true true e f =
            let unlike : eqb p.arg0 0 ≡ false = ne_eqb p.arg0 0 (λ g. some (sym (eqb-true p.arg0 remote f) ∙ g)) in
            subst (λ (c : Bool). OpenTurn remote (cond c v
            (cond (is_late x (length p.payload)) (over x.orphan OutOfTurn v) (accepts_as l p.payload x v))))
            (sym (tests true f ∙ ap (λ (c : Bool). c || false) unlike)) (in_turn e f (is_late x (length p.payload)) refl)

    pub open_turn : OpenTurn remote (treated_as l p.command p x v)
    open_turn = open_goes p.command refl

  -- ---- a stream that its device has not opened
  -- the row stays but for the id that its device tells
  pub record IsSameRow (y : SeenStream) : Type 0 where
    pub orphan : y.orphan ≡ x.orphan
    pub credit : y.credit ≡ x.credit
    pub to_hand : y.to_hand ≡ x.to_hand
    pub gathered : y.gathered ≡ x.gathered

  pub record FreshTurn (u : View) : Type 0 where
    pub okays : u.okays ≡ v.okays
    pub row : (u.stream ≡ None) ⊎ ((y : SeenStream) × (u.stream ≡ Some y) × IsSameRow y)

  module _ (there : v.stream ≡ Some x) (fresh : x.remote ≡ 0)
      (gone : (orphan : Bool) (ending : Ending) → (over orphan ending v).stream ≡ None) where
    same_turn : FreshTurn v
    same_turn = record { okays = refl; row = inr (x, there, record { orphan = refl; credit = refl; to_hand = refl; gathered = refl }) }

    over_turn : (ending : Ending) → FreshTurn (over x.orphan ending v)
    over_turn ending = record { okays = over_okays x.orphan ending v; row = inl (gone x.orphan ending) }

    opened_turn : (orphan : Bool) → FreshTurn (opened_as orphan l p.arg0 x v)
    opened_turn true = record { okays = refl; row = inl refl }
    opened_turn false = by v.client
      where
        hears : (forwarded : Bool) (a : SeenClient) → FreshTurn
            (hears_as forwarded l a (record v { stream = Some (record x { remote = p.arg0 }) }))
        hears true a = record {
          okays = refl;
          row = inr (
            record x { remote = p.arg0 },
            refl,
            record {
              orphan = refl;
              credit = refl;
              to_hand = refl;
              gathered
                  = refl;
            },
          );
        }
        hears false a = record {
          okays = refl;
          row = inr (
            record x { remote = p.arg0 },
            refl,
            record {
              orphan = refl;
              credit = refl;
              to_hand = refl;
              gathered
                  = refl;
            },
          );
        }

        by : (o : Option SeenClient) → FreshTurn (hears_open l o (record v { stream = Some (record x { remote = p.arg0 }) }))
        by None = record {
          okays = refl;
          row = inr (
            record x { remote = p.arg0 },
            refl,
            record {
              orphan = refl;
              credit = refl;
              to_hand = refl;
              gathered =
                  refl;
            },
          );
        }
        by (Some a) = hears a.forwarded a

    fresh_goes : (c : Command) → FreshTurn (treated_as l c p x v)
    fresh_goes Cnxn = over_turn (cnxn_ending p)
    fresh_goes Okay = by (eqb p.arg1 l) (eqb p.arg0 0) (eqb x.remote 0)
      where
        by : (c d e : Bool) → FreshTurn (cond c (cond d v (cond e (opened_as x.orphan l p.arg0 x v) v)) v)
        by true false true = opened_turn x.orphan
        by _ _ _ = same_turn
    fresh_goes Clse = by (eqb p.arg1 l) (eqb p.arg0 0 || eqb p.arg0 x.remote)
      where
        by : (c d : Bool) → FreshTurn (cond c (cond d (over x.orphan PeerClosed v) v) v)
        by false d = same_turn
        by true true = over_turn PeerClosed
        by true false = same_turn
    fresh_goes Wrte = by (eqb p.arg1 l)
      where
        never : (eqb p.arg0 0 || not (eqb p.arg0 x.remote)) ≡ true
        never = ap (λ (r : ℕ). eqb p.arg0 0 || not (eqb p.arg0 r)) fresh ∙ always_or (eqb p.arg0 0)

        by : (c : Bool) → FreshTurn (cond c (after_write l p.arg0 p.payload x v) v)
        by false = same_turn
        by true =
            subst (λ (c : Bool). FreshTurn
            (cond c v (cond (is_late x (length p.payload)) (over x.orphan OutOfTurn v)
            (accepts_as l p.payload x v))))
            (sym never) same_turn
    fresh_goes _ = same_turn

    pub fresh_turn : FreshTurn (treated_as l p.command p x v)
    fresh_turn = fresh_goes p.command

-- a packet that opens a stream has none before it
pub first_later : (l : ℕ) (p : Packet) (o : birth.Opening) → opening_in l (p ∷ []) ≡ Some o → o.later ≡ []
first_later l p o e = by p.command e
  where
    okay : (c : Bool) (f : birth.Opening) → f.later ≡ [] → cond c (Some f) None ≡ Some o → o.later ≡ []
    okay true f none e = let same : f ≡ o = (let both : Some f ≡ Some o = e in cc) in sym (ap (λ (x : birth.Opening). x.later) same) ∙ none
    okay false f none e = absurd (let clash : None ≡ Some o = e in cc)

    close : (c : Bool) → cond c None None ≡ Some o → o.later ≡ []
    close true e = absurd (let clash : None ≡ Some o = e in cc)
    close false e = absurd (let clash : None ≡ Some o = e in cc)

    by : (c : Command) → opening_by c l p [] None ≡ Some o → o.later ≡ []
    by Okay e = okay (eqb p.arg1 l && not (eqb p.arg0 0)) _ refl e
    by Clse e = close (is_between 0 l p) e
    by _ e = absurd (let clash : None ≡ Some o = e in cc)
