-- What one more packet says of the opening of a stream.
use Rattle.std.proofs.Common.{◌≡◌, ◌≢◌, ℕ, Bool, true, false, cond, not, ◌&&◌, List, [], ◌∷◌, ◌++◌, Option, Some, None, refl, sym, ap, ◌∙◌}
use Rattle.std.proofs.Common.{eqb}
use Rattle.std.proofs.Common.{inl, inr, ◌⊎◌}
use Rattle.std.specs.Prelude.{nat_eq}
use Rattle.std.proofs.lemmas.Bool.{eqb-true, eqb-false, ne_eqb}
use Rattle.adb_wire.specs.declared.command.Command.{Command}
use Rattle.adb_wire.specs.declared.command.Command.TheVariants.{Cnxn, Okay, Clse}
use Rattle.adb_wire.specs.declared.packets.Packet.{Packet}
use Rattle.adb_history.specs.Links.{credit_word}
use Rattle.adb_history.specs.Births.{is_between, Opening, opening_by, opening_in, remote_in}
use Rattle.adb_laws_answered.specs.Shown.{seals_by, sealed_in, Seen, seen, SaysNothing}

module _ (l : ℕ) where
  -- ---- an opening stays, with more packets behind it
  later : Opening → List Packet → Opening
  later o qs = record o { later = o.later ++ qs }

  abbrev pub Stays : List Packet → List Packet → Type 0
  Stays ps qs = (o : Opening) → opening_in l ps ≡ Some o → opening_in l (ps ++ qs) ≡ Some (record o { later = o.later ++ qs })

  stays_by : (c : Command) (p : Packet) (ps qs : List Packet) → Stays ps qs → (o : Opening) → opening_by c l p ps (opening_in l ps) ≡ Some o
      → opening_by c l p (ps ++ qs) (opening_in l (ps ++ qs)) ≡ Some (record o { later = o.later ++ qs })
  stays_by Okay p ps qs h o e = go (nat_eq p.arg1 l && not (eqb p.arg0 0)) e
    where
      go : (b : Bool) → cond b (Some (record { remote = p.arg0; word = credit_word p.payload; later = ps })) (opening_in l ps) ≡ Some o
          → cond b (Some (record { remote = p.arg0; word = credit_word p.payload; later = ps ++ qs })) (opening_in l (ps ++ qs))
          ≡ Some (record o { later = o.later ++ qs })
      go true e = ap more e
        where
          more : Option Opening → Option Opening
          more None = None
          more (Some x) = Some (record x { later = x.later ++ qs })
      go false e = h o e
  stays_by Clse p ps qs h o e = go (is_between 0 l p) e
    where
      go : (b : Bool) → cond b None (opening_in l ps) ≡ Some o
          → cond b None (opening_in l (ps ++ qs)) ≡ Some (record o { later = o.later ++ qs })
      go true e = absurd (let clash : None ≡ Some o = e in cc)
      go false e = h o e
  stays_by Cnxn p ps qs h o e = absurd (let clash : None ≡ Some o = e in cc)
  stays_by _ p ps qs h o e = h o e

  pub opening_stays : (ps qs : List Packet) → Stays ps qs
  opening_stays [] qs o e = absurd (let clash : None ≡ Some o = e in cc)
  opening_stays (p ∷ ps) qs o e = stays_by p.command p ps qs (opening_stays ps qs) o e

  -- ---- a stream that can be opened no more is not
  sealed_by : (c : Command) (p : Packet) (ps qs : List Packet) → (sealed_in l ps ≡ true → opening_in l (ps ++ qs) ≡ None)
      → seals_by c l p (sealed_in l ps) ≡ true → opening_by c l p (ps ++ qs) (opening_in l (ps ++ qs)) ≡ None
  sealed_by Okay p ps qs h e = go (nat_eq p.arg1 l && not (eqb p.arg0 0)) e
    where
      go : (b : Bool) → cond b false (sealed_in l ps) ≡ true
          → cond b (Some (record { remote = p.arg0; word = credit_word p.payload; later = ps ++ qs })) (opening_in l (ps ++ qs)) ≡ None
      go true e = absurd (let clash : false ≡ true = e in cc)
      go false e = h e
  sealed_by Clse p ps qs h e = go (is_between 0 l p) e
    where
      go : (b : Bool) → cond b true (sealed_in l ps) ≡ true → cond b None (opening_in l (ps ++ qs)) ≡ None
      go true e = refl
      go false e = h e
  sealed_by Cnxn p ps qs h e = refl
  sealed_by _ p ps qs h e = h e

  pub sealed_none : (ps qs : List Packet) → sealed_in l ps ≡ true → opening_in l (ps ++ qs) ≡ None
  sealed_none [] qs e = absurd (let clash : false ≡ true = e in cc)
  sealed_none (p ∷ ps) qs e = sealed_by p.command p ps qs (sealed_none ps qs) e

  seals_more : (c : Command) (p : Packet) (before after : Bool) → (before ≡ true → after ≡ true)
      → seals_by c l p before ≡ true → seals_by c l p after ≡ true
  seals_more Okay p before after h e = go (nat_eq p.arg1 l && not (eqb p.arg0 0)) e
    where
      go : (b : Bool) → cond b false before ≡ true → cond b false after ≡ true
      go true e = e
      go false e = h e
  seals_more Clse p before after h e = go (is_between 0 l p) e
    where
      go : (b : Bool) → cond b true before ≡ true → cond b true after ≡ true
      go true e = e
      go false e = h e
  seals_more Cnxn p before after h e = e
  seals_more _ p before after h e = h e

  pub sealed_stays : (ps qs : List Packet) → sealed_in l ps ≡ true → sealed_in l (ps ++ qs) ≡ true
  sealed_stays [] qs e = absurd (let clash : false ≡ true = e in cc)
  sealed_stays (p ∷ ps) qs e = seals_more p.command p (sealed_in l ps) (sealed_in l (ps ++ qs)) (sealed_stays ps qs) e

  -- ---- a stream that is neither opened nor sealed is as what follows says
  -- neither opened nor sealed yet
  abbrev pub IsPending : List Packet → Type 0
  IsPending ps = (opening_in l ps ≡ None) × (sealed_in l ps ≡ false)

  pending_by : (c : Command) (p : Packet) (ps qs : List Packet)
      → (IsPending ps → (opening_in l (ps ++ qs) ≡ opening_in l qs) × (sealed_in l (ps ++ qs) ≡ sealed_in l qs))
      → opening_by c l p ps (opening_in l ps) ≡ None → seals_by c l p (sealed_in l ps) ≡ false
      → (opening_by c l p (ps ++ qs) (opening_in l (ps ++ qs)) ≡ opening_in l qs)
      × (seals_by c l p (sealed_in l (ps ++ qs)) ≡ sealed_in l qs)
  pending_by Okay p ps qs h e f = go (nat_eq p.arg1 l && not (eqb p.arg0 0)) e f
    where
      go : (b : Bool) → cond b (Some (record { remote = p.arg0; word = credit_word p.payload; later = ps })) (opening_in l ps) ≡ None
          → cond b false (sealed_in l ps) ≡ false
          → (cond b (Some (record { remote = p.arg0; word = credit_word p.payload; later = ps ++ qs }))
          (opening_in l (ps ++ qs)) ≡ opening_in l qs)
          × (cond b false (sealed_in l (ps ++ qs)) ≡ sealed_in l qs)
      go true e f = absurd (some (record { remote = p.arg0; word = credit_word p.payload; later = ps }) e)
        where
          some : (o : Opening) → Some o ≡ None → ⊥
          some o e = cc
      go false e f = h (e, f)
  pending_by Clse p ps qs h e f = go (is_between 0 l p) e f
    where
      go : (b : Bool) → cond b None (opening_in l ps) ≡ None → cond b true (sealed_in l ps) ≡ false
          → (cond b None (opening_in l (ps ++ qs)) ≡ opening_in l qs) × (cond b true (sealed_in l (ps ++ qs)) ≡ sealed_in l qs)
      go true e f = absurd (let clash : true ≡ false = f in cc)
      go false e f = h (e, f)
  pending_by Cnxn p ps qs h e f = absurd (let clash : true ≡ false = f in cc)
  pending_by _ p ps qs h e f = h (e, f)

  pub pending_more : (ps qs : List Packet) → IsPending ps → (opening_in l (ps ++ qs) ≡ opening_in l qs)
      × (sealed_in l (ps ++ qs) ≡ sealed_in l qs)
  pending_more [] qs e = (refl, refl)
  pending_more (p ∷ ps) qs e = pending_by p.command p ps qs (pending_more ps qs) e.0 e.1

  -- ---- the id that a device tells is not 0
  named_by : (c : Command) (p : Packet) (ps : List Packet) → ((o : Opening) → opening_in l ps ≡ Some o → o.remote ≢ 0)
      → (o : Opening) → opening_by c l p ps (opening_in l ps) ≡ Some o → o.remote ≢ 0
  named_by Okay p ps h o e named = go (nat_eq p.arg1 l) (eqb p.arg0 0) refl e named
    where
      go : (a b : Bool) → eqb p.arg0 0 ≡ b
          → cond (a && not b) (Some (record { remote = p.arg0; word = credit_word p.payload; later = ps }))
          (opening_in l ps) ≡ Some o → o.remote ≢ 0
      go true false f e same = eqb-false p.arg0 0 f (ap remote_of e ∙ same)
        where
          remote_of : Option Opening → ℕ
          remote_of None = 0
          remote_of (Some x) = x.remote
      go true true f e same = h o e same
      go false true f e same = h o e same
      go false false f e same = h o e same
  named_by Clse p ps h o e named = go (is_between 0 l p) e named
    where
      go : (b : Bool) → cond b None (opening_in l ps) ≡ Some o → o.remote ≢ 0
      go true e same = let clash : None ≡ Some o = e in cc
      go false e same = h o e same
  named_by Cnxn p ps h o e same = let clash : None ≡ Some o = e in cc
  named_by _ p ps h o e same = h o e same

  pub opening_named : (ps : List Packet) (o : Opening) → opening_in l ps ≡ Some o → o.remote ≢ 0
  opening_named [] o e same = let clash : None ≡ Some o = e in cc
  opening_named (p ∷ ps) o e same = named_by p.command p ps (opening_named ps) o e same

  -- ---- what is seen, with one more packet
  remote_some : (o : Option Opening) → remote_in o ≢ 0 → (x : Opening) × (o ≡ Some x)
  remote_some None some = absurd (some refl)
  remote_some (Some x) some = (x, refl)

  remote_none : (ps : List Packet) → remote_in (opening_in l ps) ≡ 0 → opening_in l ps ≡ None
  remote_none ps e = go (opening_in l ps) refl e
    where
      go : (o : Option Opening) → opening_in l ps ≡ o → remote_in o ≡ 0 → opening_in l ps ≡ None
      go None is e = is
      go (Some x) is e = absurd (opening_named ps x is e)

  -- an id that was told stays
  pub remote_stays : (ps qs : List Packet) → remote_in (opening_in l ps) ≢ 0
      → remote_in (opening_in l (ps ++ qs)) ≡ remote_in (opening_in l ps)
  remote_stays ps qs some =
      let there = remote_some (opening_in l ps) some in
      ap remote_in (opening_stays ps qs there.0 there.1) ∙ sym (ap remote_in there.1)

  pub remote_sealed : (ps qs : List Packet) → sealed_in l ps ≡ true → remote_in (opening_in l (ps ++ qs)) ≡ 0
  remote_sealed ps qs e = ap remote_in (sealed_none ps qs e)

  -- what is neither opened nor sealed is as the packets behind say
  pub seen_pending : (ps qs : List Packet) → remote_in (opening_in l ps) ≡ 0 → sealed_in l ps ≡ false → seen l (ps ++ qs) ≡ seen l qs
  seen_pending ps qs e f =
      let more = pending_more ps qs (remote_none ps e, f) in
      ap (λ (o : Option Opening). record { remote = remote_in o; sealed = sealed_in l (ps ++ qs) }) more.0
      ∙ ap (λ (b : Bool). record { remote = remote_in (opening_in l qs); sealed = b }) more.1

  -- before and after a packet
  pub record IsSeenOn (before after : Seen) : Type 0 where
    pub remote : after.remote ≡ before.remote
    pub sealed : before.sealed ≡ true → after.sealed ≡ true
    pub pending : before.remote ≡ 0 → before.sealed ≡ false → after.sealed ≡ false

  nothing_one : (c : Command) (p : Packet) → SaysNothing c l p → (opening_by c l p [] None ≡ None) × (seals_by c l p false ≡ false)
  nothing_one Okay p apart =
      let e : nat_eq p.arg1 l ≡ false = ne_eqb p.arg1 l apart in (
        ap (λ (b : Bool). cond (b && not (eqb p.arg0 0))
            (Some (record { remote = p.arg0; word = credit_word p.payload; later = [] })) None) e,
        ap (λ (b : Bool). cond (b && not (eqb p.arg0 0)) false false) e,
      )
  nothing_one Clse p apart =
      let e : nat_eq p.arg1 l ≡ false = ne_eqb p.arg1 l apart in (
        ap (λ (b : Bool). cond (nat_eq p.arg0 0 && b) None None) e ∙ both (nat_eq p.arg0 0),
        ap (λ (b : Bool). cond (nat_eq p.arg0 0 && b) true false) e ∙ neither (nat_eq p.arg0 0),
      )
    where
      none : Option Opening
      none = None

      both : (b : Bool) → cond (b && false) (let none : Option Opening = None in none) None ≡ None
      both true = refl
      both false = refl

      neither : (b : Bool) → cond (b && false) true false ≡ false
      neither true = refl
      neither false = refl
  nothing_one Cnxn p apart = absurd apart
  nothing_one _ p apart = (refl, refl)

  seen_cases : (ps : List Packet) → (remote_in (opening_in l ps) ≢ 0) ⊎ (remote_in (opening_in l ps) ≡ 0)
  seen_cases ps = go (eqb (remote_in (opening_in l ps)) 0) refl
    where
      go : (b : Bool) → eqb (remote_in (opening_in l ps)) 0 ≡ b → (remote_in (opening_in l ps) ≢ 0) ⊎ (remote_in (opening_in l ps) ≡ 0)
      go true e = inr (eqb-true (remote_in (opening_in l ps)) 0 e)
      go false e = inl (eqb-false (remote_in (opening_in l ps)) 0 e)

  -- a packet that says nothing of the stream
  pub seen_one : (ps : List Packet) (p : Packet) → (opening_in l (p ∷ []) ≡ None) × (sealed_in l (p ∷ []) ≡ false)
      → IsSeenOn (seen l ps) (seen l (ps ++ p ∷ []))
  seen_one ps p none_said = record {
    remote = go (seen_cases ps) (sealed_in l ps) refl;
    sealed = sealed_stays ps (p ∷ []);
    pending = λ e f. ap (λ (s : Seen). s.sealed) (seen_pending ps (p ∷ []) e f) ∙ none_said.1;
  }
    where
      go : (remote_in (opening_in l ps) ≢ 0) ⊎ (remote_in (opening_in l ps) ≡ 0) → (b : Bool) → sealed_in l ps ≡ b
          → remote_in (opening_in l (ps ++ p ∷ [])) ≡ remote_in (opening_in l ps)
      go (inl some) b e = remote_stays ps (p ∷ []) some
      go (inr none) true e = remote_sealed ps (p ∷ []) e ∙ sym none
      go (inr none) false e =
          ap (λ (s : Seen). s.remote) (seen_pending ps (p ∷ []) none e) ∙ (ap remote_in none_said.0 ∙ sym none)

  pub seen_nothing : (ps : List Packet) (p : Packet) → SaysNothing p.command l p → IsSeenOn (seen l ps) (seen l (ps ++ p ∷ []))
  seen_nothing ps p says = seen_one ps p (nothing_one p.command p says)

  -- what was told stays
  pub seen_told : (ps qs : List Packet) → remote_in (opening_in l ps) ≢ 0 → IsSeenOn (seen l ps) (seen l (ps ++ qs))
  seen_told ps qs some = record { remote = remote_stays ps qs some; sealed = sealed_stays ps qs; pending = λ e f. absurd (some e) }
