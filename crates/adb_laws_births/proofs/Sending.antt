-- Each packet that becomes due is one of its link's own.
use Rattle.std.proofs.Common.{◌≡◌, ◌≢◌, ℕ, zero, suc, Bool, true, false, cond, All, List, [], ◌∷◌, ◌++◌, drop, Option, refl, sym}
use Rattle.std.proofs.Common.{ap, subst, ◌∙◌, inl, inr, arith, eqb, append_assoc}
use Rattle.std.specs.Prelude.{Contains}
use Rattle.std.proofs.lemmas.Bool.{eq-eqb, ne_eqb, eqb-true}
use Rattle.std.proofs.lemmas.List.{drop-append-le}
use Rattle.std.proofs.lemmas.List.Elements.{All-nil, All-append, All-weaker, Contains-append_right}
use Rattle.adb_outside.specs.Tables.{Rows, put_row}
use Rattle.adb_wire.specs.declared.command.Command.{Command}
use Rattle.adb_wire.specs.declared.command.Command.TheVariants.{Cnxn, Okay, Wrte, Clse}
use Rattle.adb_wire.specs.declared.packets.Packet.{Packet}
use Rattle.adb_stream.specs.declared.row.Stream.{Stream}
use Rattle.adb_history.specs.Rows.{State}
use Rattle.adb_history.specs.Events.{Made, Event, then_also, due_to_client, due_to_link, ended}
use Rattle.adb_history.specs.Links.{close_packet}
use Rattle.adb_history.specs.Packets.{treat, treat_all}
use Rattle.adb_history.specs.Machine.{History, rule}
use Rattle.adb_history.specs.Bytes.{brought}
use Rattle.adb_history.specs.Births.{opening_in, remote_in, remote_of}
use Rattle.adb_history.specs.Fifo.{IsOf, IsRefusal, IsOwn}
use Rattle.adb_history.specs.Linked.{IsLinked}
use Rattle.adb_laws_births.specs.Going.{IsOfOpen, IsOfRow, IsShort, IsFrom, Goes}
use Rattle.adb_laws_births.specs.Openings.{IsHeard, hears_open, hears_opening, heard_remote}
use Rattle.adb_laws_births.specs.Hearing.{Refuses, ClosesLate, IsAnswer}
use Rattle.adb_laws_births.specs.Born.{IsBornAs, AllBornAs}
use Rattle.adb_laws_births.specs.Brought.{ComeFirst, remote_told}
use Rattle.adb_laws_births.specs.Sending.{IsRight, IsRightEvent}
use Rattle.adb_laws_births.proofs.Treating.{treats}
use Rattle.adb_laws_births.proofs.Receiving.{treated_linked}
use Rattle.adb_laws_births.proofs.Born.{stays_born, hears_born}

-- ---- a packet of an open stream
own_open : (h : History) (t : ℕ) (p : Packet) (command : Command) → IsOfOpen command → IsOf h t p → IsOwn h t command p
own_open h t p Okay of is = is
own_open h t p Wrte of is = is
own_open h t p Clse of is = inl is
own_open h t p _ of is = absurd of

not_cnxn : (command : Command) → IsOfOpen command → command ≡ Cnxn → ⊥
not_cnxn Okay of e = let clash : Okay ≡ Cnxn = e in cc
not_cnxn Wrte of e = let clash : Wrte ≡ Cnxn = e in cc
not_cnxn Clse of e = let clash : Clse ≡ Cnxn = e in cc
not_cnxn _ of e = of

-- what was heard until now comes first in what each link brought in all
abbrev pub IsAhead : History → (ℕ → List Packet) → Type 0
IsAhead h heard = (t : ℕ) → ComeFirst (heard t) (brought t h)

module _ (h : History) (heard : ℕ → List Packet) (rows : Rows (Option Stream)) (all : AllBornAs h heard rows)
    (ahead : IsAhead h heard) where
  own_row : (t : ℕ) (p : Packet) → IsOfRow rows t p → IsOf h t p
  own_row t p of =
      let k = all p.arg0 of.stream of.is in
      let told : remote_of p.arg0 k.birth h ≡ of.stream.part.remote =
      remote_told h heard p.arg0 of.stream k (ahead k.birth.link) of.known in
      record {
        birth = k.birth;
        is = k.is;
        link = sym k.link ∙ of.link;
        told = λ none. of.known (sym told ∙ none);
        remote = of.remote ∙ sym told;
      }

  right_row : (t : ℕ) (p : Packet) (check : ℕ) → IsOfRow rows t p → IsShort p check → IsRight h t p check
  right_row t p check of short = record {
    own = own_open h t p p.command of.of (own_row t p of);
    short = short;
    sum = λ cnxn. absurd (not_cnxn p.command of.of cnxn);
  }

  pub right_from : (e : Event) → IsFrom rows e → IsRightEvent h e
  right_from (due_to_client client bytes) from = tt
  right_from (due_to_link t p check) from = right_row t p check from.0 from.1
  right_from (ended stream ending) from = tt

-- ---- the answers to a packet
module _ (h : History) (t : ℕ) (p : Packet) (xs more : List Packet) (whole : xs ++ p ∷ more ≡ brought t h) where
  came : Contains (brought t h) p
  came = subst (λ (ps : List Packet). Contains ps p) whole (Contains-append_right xs (p ∷ more) p (0, omega arith, refl))

  right_refusal : (link : ℕ) (q : Packet) (check : ℕ) → Refuses t p link q → IsShort q check → IsRight h link q check
  right_refusal link q check r short =
      let command : q.command ≡ Clse = ap (λ (x : Packet). x.command) r.packet in
      let refusal : IsRefusal h link q = record {
        packet = r.packet ∙ ap (close_packet 0) (sym (ap (λ (x : Packet). x.arg1) r.packet));
        asked = p;
        came = subst (λ (n : ℕ). Contains (brought n h) p) (sym r.on) came;
        asks = r.asks;
        id = sym (ap (λ (x : Packet). x.arg1) r.packet);
      } in
      record {
        own = subst (λ (c : Command). IsOwn h link c q) (sym command) (inr refusal);
        short = short;
        sum = λ cnxn. let clash : Clse ≡ Cnxn = sym command ∙ cnxn in cc;
      }

  module _ (heard : ℕ → List Packet) (rows : Rows (Option Stream)) (all : AllBornAs h heard rows) (here : heard t ≡ xs) where
    late_remote : (link : ℕ) (q : Packet) (x : ClosesLate rows t p link q) (k : IsBornAs h heard p.arg1 x.stream)
        → remote_of p.arg1 k.birth h ≡ p.arg0
    late_remote link q x k = go p.arg0 refl
      where
        on : t ≡ k.birth.link
        on = sym x.own ∙ k.link

        brought_is : brought k.birth.link h ≡ heard k.birth.link ++ p ∷ more
        brought_is = ap (λ (n : ℕ). brought n h) (sym on)
            ∙ (sym whole ∙ (ap (λ (ps : List Packet). ps ++ p ∷ more) (sym here) ∙ ap (λ (n : ℕ). heard n ++ p ∷ more) on))

        go : (remote : ℕ) → p.arg0 ≡ remote → remote_of p.arg1 k.birth h ≡ remote
        go zero e = absurd (x.known e)
        go (suc remote) e =
            let before : List Packet = drop k.birth.packets_before (heard k.birth.link) in
            let fresh : IsHeard p.arg1 0 before = subst (λ (n : ℕ). IsHeard p.arg1 n before) x.fresh k.heard_of in
            let opened : IsHeard p.arg1 (suc remote) (before ++ p ∷ []) =
            hears_opening p.arg1 p remote (record { okay = x.okay; to = refl; from = e }) before fresh in
            let later : IsHeard p.arg1 (suc remote) ((before ++ p ∷ []) ++ more) =
            hears_open p.arg1 more remote (before ++ p ∷ []) opened in
            let since_is : drop k.birth.packets_before (brought k.birth.link h) ≡ (before ++ p ∷ []) ++ more =
            ap (drop k.birth.packets_before) brought_is
            ∙ (drop-append-le k.birth.packets_before (heard k.birth.link) (p ∷ more) k.before ∙ sym (append_assoc before (p ∷ []) more)) in
            ap (λ (ps : List Packet). remote_in (opening_in p.arg1 ps)) since_is
            ∙ heard_remote p.arg1 (suc remote) ((before ++ p ∷ []) ++ more) later

    right_late : (link : ℕ) (q : Packet) (check : ℕ) → ClosesLate rows t p link q → IsShort q check → IsRight h link q check
    right_late link q check x short =
        let k = all p.arg1 x.stream x.is in
        let told : remote_of p.arg1 k.birth h ≡ p.arg0 = late_remote link q x k in
        let of : IsOf h link (close_packet p.arg1 p.arg0) = record {
          birth = k.birth;
          is = k.is;
          link = sym k.link ∙ (x.own ∙ sym x.on);
          told = λ none. x.known (sym told ∙ none);
          remote = sym told;
        } in
        record {
          own = subst (λ (y : Packet). IsOwn h link y.command y) (sym x.packet) (inl of);
          short = short;
          sum = λ cnxn. let clash : Clse ≡ Cnxn = sym (ap (λ (y : Packet). y.command) x.packet) ∙ cnxn in cc;
        }

    right_answer : IsAhead h heard → (e : Event) → IsAnswer rows t p e → IsRightEvent h e
    right_answer ahead (due_to_client client bytes) answer = tt
    right_answer ahead (ended stream ending) answer = tt
    right_answer ahead (due_to_link link q check) (inl of, short) = right_row h heard rows all ahead link q check of short
    right_answer ahead (due_to_link link q check) (inr (inl refusal), short) = right_refusal link q check refusal short
    right_answer ahead (due_to_link link q check) (inr (inr late), short) = right_late link q check late short

-- ---- rules one after another
-- what a rule told is right, and the streams that it leaves have heard what came until then
pub record TellsRight (h : History) (m : Made) : Type 0 where
  pub told : All (IsRightEvent h) m.told
  pub heard : ℕ → List Packet
  pub born_as : AllBornAs h heard m.state.streams
  pub ahead : IsAhead h heard

pub tells_goes : (h : History) (heard : ℕ → List Packet) (s : State) (m : Made) → AllBornAs h heard s.streams → IsAhead h heard
    → Goes s.streams s.drawn m → TellsRight h m
tells_goes h heard s m all ahead goes = record {
  told = All-weaker (IsFrom s.streams) (IsRightEvent h) (right_from h heard s.streams all ahead) m.told goes.told;
  heard = heard;
  born_as = stays_born h heard s.streams m.state.streams goes.rows all;
  ahead = ahead;
}

pub tells_then : (h : History) (m : Made) (rule : State → Made) → TellsRight h m → TellsRight h (rule m.state)
    → TellsRight h (then_also m rule)
tells_then h m rule first second = record {
  told = All-append (IsRightEvent h) m.told (rule m.state).told first.told second.told;
  heard = second.heard;
  born_as = second.born_as;
  ahead = second.ahead;
}

pub tells_goes_then : (h : History) (m : Made) (rule : State → Made) → TellsRight h m → Goes m.state.streams m.state.drawn (rule m.state)
    → TellsRight h (then_also m rule)
tells_goes_then h m rule first goes = tells_then h m rule first
    (tells_goes h first.heard m.state (rule m.state) first.born_as first.ahead goes)

-- ---- the packets of a link
module _ (h : History) (t : ℕ) where
  -- what was heard, with one packet more
  abbrev more_heard : (ℕ → List Packet) → Packet → ℕ → List Packet
  more_heard heard p = put_row t (heard t ++ p ∷ []) heard

  more_here : (heard : ℕ → List Packet) (p : Packet) → more_heard heard p t ≡ heard t ++ p ∷ []
  more_here heard p = ap (λ (b : Bool). cond b (heard t ++ p ∷ []) (heard t)) (eq-eqb t t refl)

  more_other : (heard : ℕ → List Packet) (p : Packet) (k : ℕ) → t ≢ k → more_heard heard p k ≡ heard k
  more_other heard p k apart = ap (λ (b : Bool). cond b (heard t ++ p ∷ []) (heard k)) (ne_eqb t k apart)

  more_ahead : (heard : ℕ → List Packet) (p : Packet) (ps : List Packet) → heard t ++ p ∷ ps ≡ brought t h
      → IsAhead h heard → IsAhead h (more_heard heard p)
  more_ahead heard p ps whole ahead k = go (eqb t k) refl
    where
      go : (b : Bool) → eqb t k ≡ b → ComeFirst (cond b (heard t ++ p ∷ []) (heard k)) (brought k h)
      go true e = (ps, append_assoc (heard t) (p ∷ []) ps ∙ (whole ∙ ap (λ (n : ℕ). brought n h) (eqb-true t k e)))
      go false e = ahead k

  pub tells_all : (ps : List Packet) (heard : ℕ → List Packet) (s : State) → IsLinked s → AllBornAs h heard s.streams → IsAhead h heard
      → heard t ++ ps ≡ brought t h → TellsRight h (treat_all t ps s)
  tells_all [] heard s linked all ahead whole = record { told = All-nil (IsRightEvent h); heard = heard; born_as = all; ahead = ahead }
  tells_all (p ∷ ps) heard s linked all ahead whole =
      let m : Made = treat t p s in
      let now = treats t p s linked in
      let next : AllBornAs h (more_heard heard p) m.state.streams =
      hears_born h t (p ∷ []) heard (more_heard heard p) s.streams m.state.streams now.hear
      (λ k apart. more_other heard p k apart, more_here heard p) all in
      let later : IsAhead h (more_heard heard p) = more_ahead heard p ps whole ahead in
      let first : TellsRight h m = record {
        told = All-weaker (IsAnswer s.streams t p) (IsRightEvent h)
            (right_answer h t p (heard t) ps whole heard s.streams all refl ahead) m.told now.told;
        heard = more_heard heard p;
        born_as = next;
        ahead = later;
      } in
      tells_then h m (treat_all t ps) first (tells_all ps (more_heard heard p) m.state (treated_linked t p s linked) next later
      (ap (λ (xs : List Packet). xs ++ ps) (more_here heard p) ∙ (append_assoc (heard t) (p ∷ []) ps ∙ whole)))
