-- What the packets of a device make of a stream of its link: which are treated, and which end it.
use Rattle.std.proofs.Common.{◌≡◌, ◌≢◌, ℕ, ◌<◌, ◌≤◌, zero, suc, Bool, true, false, cond, ◌||◌, List, [], ◌∷◌, ◌++◌, Option, Some, None}
use Rattle.std.proofs.Common.{refl}
use Rattle.std.proofs.Common.{sym, ap, subst, ◌∙◌, arith, ◌⊎◌, inl, inr, eqb}
use Rattle.std.specs.Prelude.{is_some, nat_eq, nat_lt}
use Rattle.std.proofs.lemmas.Bool.{eqb-false, eq-eqb, cases_eq}
use Rattle.adb_outside.specs.Tables.{at}
use Rattle.adb_outside.specs.declared.identity.Identity.{Identity}
use Rattle.adb_banner.specs.Banner.{identity_of}
use Rattle.adb_registry.specs.declared.row.Row.{Row}
use Rattle.adb_wire.specs.declared.command.Command.{Command}
use Rattle.adb_wire.specs.declared.command.Command.TheVariants.{Cnxn, Open, Okay, Wrte, Clse, Auth, Stls}
use Rattle.adb_wire.specs.declared.packets.Packet.{Packet}
use Rattle.adb_stream.specs.declared.row.Stream.{Stream}
use Rattle.adb_history.specs.Rows.{Link, State}
use Rattle.adb_history.specs.Events.{Made, due_to_link, quietly}
use Rattle.adb_history.specs.declared.ending.Ending.{Ending}
use Rattle.adb_history.specs.declared.ending.Ending.TheVariants.{Lost, Broken}
use Rattle.adb_history.specs.Links.{close_packet, credit_word, is_connected, is_connected_row}
use Rattle.adb_history.specs.Streams.{ends_row, ends_if_of, ends_of}
use Rattle.adb_history.specs.Losing.{forgets, link_ends}
use Rattle.adb_history.specs.Packets.{least_version, least_maxdata, streams_end_first, connects, cnxn, at_stream}
use Rattle.adb_history.specs.Packets.{takes_okay, treat_open, treat_any, treat_on, treat}
use Rattle.adb_history.specs.Linked.{IsLinked}
use Rattle.adb_laws_fifo_up.specs.Climbing.{is_shut}
use Rattle.adb_laws_fifo_up.proofs.Shutting.{IsLast}
use Rattle.adb_laws_fifo_up.proofs.Ends.{ends_goes, no_row_of}
use Rattle.adb_laws_fifo_up.proofs.StreamClimbs.{treat_climbs}
use Rattle.adb_laws_fifo_up.proofs.Shuts.{Shuts, shuts_climbs}

-- ---- no stream of a link is left
abbrev pub Any : Ending → Type 0
Any ending = Unit {0}

module _ (t : ℕ) (ending : Ending) where
  -- what is left of one
  one_cleared : (k m : ℕ) (now : State) (o : Option Stream) (x : Stream) → now.streams k ≡ o
      → (ends_if_of t k ending o now).state.streams m ≡ Some x → (m ≢ k → now.streams m ≡ Some x → x.link ≢ t) → x.link ≢ t
  one_cleared k m now None x is e before = go (cases_eq m k)
    where
      go : (m ≡ k) ⊎ (m ≡ k → ⊥) → x.link ≢ t
      go (inl same) = absurd (let clash : None ≡ Some x = sym is ∙ (ap now.streams (sym same) ∙ e) in cc)
      go (inr apart) = before apart e
  one_cleared k m now (Some stream) x is e before = test (nat_eq stream.link t) refl e
    where
      ended : (ends_row k ending stream now).state.streams m ≡ Some x → (m ≡ k) ⊎ (m ≡ k → ⊥) → x.link ≢ t
      ended f (inl same) = absurd (let clash : None ≡ Some x = sym (no_row_of Any k ending stream now is)
          ∙ (ap (ends_row k ending stream now).state.streams (sym same) ∙ f) in cc)
      ended f (inr apart) = before apart (sym ((ends_goes Any k stream now is ending tt).others m apart) ∙ f)

      stays : stream.link ≢ t → now.streams m ≡ Some x → (m ≡ k) ⊎ (m ≡ k → ⊥) → x.link ≢ t
      stays other f (inl same) =
          let both : Some stream ≡ Some x = sym is ∙ (ap now.streams (sym same) ∙ f) in
          let row : stream ≡ x = cc in
          λ g. other (ap (λ (y : Stream). y.link) row ∙ g)
      stays other f (inr apart) = before apart f

      test : (b : Bool) → nat_eq stream.link t ≡ b
          → (cond b (ends_row k ending stream now) (quietly now)).state.streams m ≡ Some x → x.link ≢ t
      test true f g = ended g (cases_eq m k)
      test false f g = stays (eqb-false stream.link t f) g (cases_eq m k)

  ends_cleared : (n m : ℕ) (s : State) (x : Stream) → (0 < m) × (m ≤ n) → (ends_of t n ending s).state.streams m ≡ Some x → x.link ≢ t
  ends_cleared zero m s x within e = absurd (omega (arith, within.0, within.1))
  ends_cleared (suc n) m s x within e =
      let now : State = (ends_of t n ending s).state in
      one_cleared (suc n) m now (now.streams (suc n)) x refl e
      (λ apart f. ends_cleared n m s x (within.0, omega (arith, within.1, apart)) f)

-- a CNXN on a connected link ends its streams
module _ (t version maxdata m : ℕ) where
  connects_cleared : (who : Option Identity) (s : State) (x : Stream) → is_connected t s.devices ≡ true → (0 < m) × (m ≤ s.drawn)
      → (connects t version maxdata who s).state.streams m ≡ Some x → x.link ≢ t
  connects_cleared None s x on within e = ends_cleared t Broken s.drawn m (forgets t s) x within e
  connects_cleared (Some identity) s x on within e =
      ends_cleared t Lost s.drawn m s x within (subst (λ (b : Bool). (streams_end_first b t s).state.streams m ≡ Some x) on e)

  pub cnxn_cleared : (banner : List ℕ) (s : State) (x : Stream) → is_connected t s.devices ≡ true → (0 < m) × (m ≤ s.drawn)
      → (cnxn t version maxdata banner s).state.streams m ≡ Some x → x.link ≢ t
  cnxn_cleared banner s x on within e = go (nat_lt version least_version || nat_lt maxdata least_maxdata) e
    where
      go : (b : Bool)
          → (cond b (link_ends t Broken s) (connects t version maxdata (identity_of banner) s)).state.streams m
          ≡ Some x → x.link ≢ t
      go true f = ends_cleared t Broken s.drawn m (forgets t s) x within f
      go false f = connects_cleared (identity_of banner) s x on within f

-- ---- a stream's link is there, and connected
connected_there : (o : Option Row) → is_connected_row o ≡ true → is_some o ≡ true
connected_there None e = let clash : false ≡ true = e in cc
connected_there (Some row) e = refl

module _ (s : State) (linked : IsLinked s) (l t : ℕ) (y : Stream) (there : s.streams l ≡ Some y) (link : y.link ≡ t) where
  pub connected : is_connected t s.devices ≡ true
  connected = subst (λ (n : ℕ). is_connected n s.devices ≡ true) link (linked.on l y there).connected

  pub link_there : (o : Option Link) → s.links t ≡ o → (x : Link) × (s.links t ≡ Some x)
  link_there None e =
      let some : is_some (s.links t) ≡ true = linked.rows.linked t ∙ connected_there (at t s.devices.rows) connected in
      absurd (let clash : false ≡ true = sym (ap is_some e) ∙ some in cc)
  link_there (Some x) e = (x, e)

  -- so its packets are treated
  pub any_treated : (p : Packet) → treat t p s ≡ treat_any t p.command p s
  any_treated p = ap (λ (o : Option Link). treat_on o t p s) (link_there (s.links t) refl).1

-- no row comes where none is
pub none_comes : (l t : ℕ) (p : Packet) (s : State) → (0 < l) × (l ≤ s.drawn) → s.streams l ≡ None → (treat t p s).state.streams l ≡ None
none_comes l t p s within none = after.gone shut
  where
    at_link : (b : Bool) → IsLast l (cond b (close_packet l 0 ∷ []) [])
    at_link true = (λ e. refl, tt)
    at_link false = tt

    after : Shuts l (treat t p s).state ((due_to_link 0 (close_packet l 0) 0 ∷ []) ++ (treat t p s).told)
    after = treat_climbs (shuts_climbs l within.0) s (due_to_link 0 (close_packet l 0) 0 ∷ []) (record {
      none = λ above. absurd (omega (arith, above, within.1));
      born = λ e. within.1;
      gone = λ e. none;
      last = λ n. at_link (eqb 0 n);
    }) t p (λ e. tt)

    shut : is_shut l ((due_to_link 0 (close_packet l 0) 0 ∷ []) ++ (treat t p s).told) ≡ true
    shut = rw (eq-eqb l l refl) refl

-- an OKAY to this stream, or not
pub to_stream_or : (l : ℕ) (p : Packet) → ((p.command ≡ Okay) × (p.arg1 ≡ l)) ⊎ (p.command ≡ Okay → p.arg1 ≢ l)
to_stream_or l p = by p.command refl
  where
    other : (c : Command) → p.command ≡ c → (c ≡ Okay → ⊥) → p.command ≡ Okay → p.arg1 ≢ l
    other c e not_okay f same = not_okay (sym e ∙ f)

    okay : p.command ≡ Okay → (p.arg1 ≡ l) ⊎ (p.arg1 ≡ l → ⊥) → ((p.command ≡ Okay) × (p.arg1 ≡ l)) ⊎ (p.command ≡ Okay → p.arg1 ≢ l)
    okay e (inl same) = inl (e, same)
    okay e (inr apart) = inr (λ f. apart)

    no_open : Open ≡ Okay → ⊥
    no_open e = cc

    no_wrte : Wrte ≡ Okay → ⊥
    no_wrte e = cc

    no_clse : Clse ≡ Okay → ⊥
    no_clse e = cc

    no_cnxn : Cnxn ≡ Okay → ⊥
    no_cnxn e = cc

    no_auth : Auth ≡ Okay → ⊥
    no_auth e = cc

    no_stls : Stls ≡ Okay → ⊥
    no_stls e = cc

    by : (c : Command) → p.command ≡ c → ((p.command ≡ Okay) × (p.arg1 ≡ l)) ⊎ (p.command ≡ Okay → p.arg1 ≢ l)
    by Okay e = okay e (cases_eq p.arg1 l)
    by Open e = inr (other Open e no_open)
    by Wrte e = inr (other Wrte e no_wrte)
    by Clse e = inr (other Clse e no_clse)
    by Cnxn e = inr (other Cnxn e no_cnxn)
    by Auth e = inr (other Auth e no_auth)
    by Stls e = inr (other Stls e no_stls)

-- what an OKAY makes: nothing where its link is gone or not connected
pub okay_treated : (Q : Made → Type 0) (n l : ℕ) (p : Packet) (s : State) → (p.command ≡ Okay) × (p.arg1 ≡ l)
    → ((s.links n ≡ None) ⊎ (is_connected n s.devices ≡ false) → Q (quietly s))
    → Q (at_stream n (s.streams l) (takes_okay l p.arg0 (credit_word p.payload)) s) → Q (treat n p s)
okay_treated Q n l p s okay nothing heard = on (s.links n) refl
  where
    open_okay : Q (treat_open n Okay p s)
    open_okay = subst (λ (m : ℕ). Q (at_stream n (s.streams m) (takes_okay m p.arg0 (credit_word p.payload)) s)) (sym okay.1) heard

    test : (b : Bool) → is_connected n s.devices ≡ b → Q (cond b (treat_open n Okay p s) (quietly s))
    test true e = open_okay
    test false e = nothing (inr e)

    on : (o : Option Link) → s.links n ≡ o → Q (treat_on o n p s)
    on None e = nothing (inl e)
    on (Some link) e = subst (λ (c : Command). Q (treat_any n c p s)) (sym okay.0) (test (is_connected n s.devices) refl)
