-- What one packet of its link makes of a stream that lives: it goes on, or it ends for what the packet says.
use Rattle.std.proofs.Common.{◌≡◌, ◌≢◌, ◌≤◌, ◌<◌, ◌+◌, ℕ, Bool, true, false, cond, not, ◌||◌, ◌&&◌, length, Option, Some, None, refl, sym}
use Rattle.std.proofs.Common.{ap, ◌∙◌}
use Rattle.std.proofs.Common.{arith}
use Rattle.std.specs.Prelude.{nat_eq, nat_lt, is_some}
use Rattle.std.proofs.lemmas.Bool.{ne_eqb}
use Rattle.std.proofs.lemmas.Bool.Decides.{nat_tests}
use Rattle.adb_wire.specs.Format.{is_cnxn}
use Rattle.adb_wire.specs.declared.packets.Packet.{Packet}
use Rattle.adb_stream.specs.declared.flow.Flow.{Flow}
use Rattle.adb_stream.specs.declared.flow.Flow.TheVariants.{One, Credit}
use Rattle.adb_stream.specs.declared.row.Stream.{Stream}
use Rattle.adb_stream.specs.Flow.{first_credit, acknowledged, is_out_of_turn, accepted}
use Rattle.adb_history.specs.Rows.{State}
use Rattle.adb_history.specs.Events.{Made, ending_in}
use Rattle.adb_history.specs.declared.ending.Ending.{Ending}
use Rattle.adb_history.specs.declared.ending.Ending.TheVariants.{PeerClosed, OutOfTurn, Lost, Broken}
use Rattle.adb_history.specs.Links.{is_connected}
use Rattle.adb_history.specs.Packets.{cnxn}
use Rattle.adb_history.specs.Book.{is_refused}
use Rattle.adb_history.specs.Births.{is_between, is_okay, is_wrte, is_clse, is_close_of}
use Rattle.adb_history.specs.Causes.{remote_after, is_early}
use Rattle.adb_laws_causes.specs.Flows.{FlowIs}

-- ---- what a packet says to a stream
-- whether a packet is a write to a stream that its device has opened
abbrev pub counts : (remote l : ℕ) → Packet → Bool
counts remote l p = is_wrte p.command && not (nat_eq remote 0) && is_between remote l p

-- how many bytes were written to a stream after one more packet
abbrev pub written_after : (remote l : ℕ) → Packet → ℕ → ℕ
written_after remote l p written = cond (counts remote l p) (written + length p.payload) written

-- a stream after a packet with which it goes on
pub record Next (l : ℕ) (x : Stream) (p : Packet) (y : Stream) : Type 0 where
  pub alive : y.part.orphan ≡ false
  pub link : y.link ≡ x.link
  pub remote : y.part.remote ≡ remote_after x.part.remote l p
  pub flow : (credit : Bool) (written handed given : ℕ) → FlowIs x.part.flow credit written handed given
      → FlowIs y.part.flow credit (written_after x.part.remote l p written) handed given

-- a link that is connected, and a number that was drawn
pub record OnLive (t l : ℕ) (s : State) : Type 0 where
  pub connected : is_connected t s.devices ≡ true
  pub link : is_some (s.links t) ≡ true
  pub within : (0 < l) × (l ≤ s.drawn)

-- the packet says nothing that ends the stream
pub record Passes (t l : ℕ) (x : Stream) (p : Packet) (m : Made) : Type 0 where
  pub row : Stream
  pub is : m.state.streams l ≡ Some row
  pub next : Next l x p row
  pub live : OnLive t l m.state
  pub not_close : is_close_of x.part.remote l p ≡ false
  pub not_cnxn : is_cnxn p.command ≡ false
  pub in_turn : counts x.part.remote l p ≡ true → is_out_of_turn x.part.flow (length p.payload) ≡ false

-- what ends a stream so
abbrev pub Strikes : ℕ → Stream → Packet → Ending → Type 0
Strikes l x p PeerClosed = is_close_of x.part.remote l p ≡ true
Strikes l x p OutOfTurn = (counts x.part.remote l p ≡ true) × (is_out_of_turn x.part.flow (length p.payload) ≡ true)
Strikes l x p Lost = (is_cnxn p.command && not (is_refused p)) ≡ true
Strikes l x p Broken = is_refused p ≡ true
Strikes l x p _ = ⊥

pub record Falls (l : ℕ) (x : Stream) (p : Packet) (m : Made) : Type 0 where
  pub ending : Ending
  pub told : ending_in l m.told ≡ Some ending
  pub why : Strikes l x p ending

-- ---- tests
pub no_and : (a b : Bool) → (a && false && b) ≡ false
no_and true b = refl
no_and false b = refl

pub and_no : (a : Bool) → (a && false) ≡ false
and_no true = refl
and_no false = refl

-- a packet that says nothing to a stream
pub record Ignores (l : ℕ) (x : Stream) (p : Packet) : Type 0 where
  pub remote : remote_after x.part.remote l p ≡ x.part.remote
  pub counts : counts x.part.remote l p ≡ false
  pub not_close : is_close_of x.part.remote l p ≡ false
  pub not_cnxn : is_cnxn p.command ≡ false

-- one of another kind
pub other_kind : (l : ℕ) (x : Stream) (p : Packet) → is_okay p.command ≡ false → is_wrte p.command ≡ false → is_clse p.command ≡ false
    → is_cnxn p.command ≡ false
    → Ignores l x p
other_kind l x p okay wrte clse cnxn = record {
  remote = ap (λ b. cond (nat_eq x.part.remote 0 && b && nat_eq p.arg1 l) p.arg0 x.part.remote) okay
      ∙ ap (λ b. cond b p.arg0 x.part.remote) (no_and (nat_eq x.part.remote 0) (nat_eq p.arg1 l));
  counts = ap (λ b. b && not (nat_eq x.part.remote 0) && is_between x.part.remote l p) wrte;
  not_close = ap (λ b. b && (is_between 0 l p || is_between x.part.remote l p)) clse;
  not_cnxn = cnxn;
}

-- one to another stream
pub other_stream : (l : ℕ) (x : Stream) (p : Packet) → p.arg1 ≢ l → is_cnxn p.command ≡ false → Ignores l x p
other_stream l x p apart cnxn =
    let off : nat_eq p.arg1 l ≡ false = ne_eqb p.arg1 l apart in
    record {
      remote = ap (λ b. cond (nat_eq x.part.remote 0 && is_okay p.command && b) p.arg0 x.part.remote) off
          ∙ ap (λ b. cond b p.arg0 x.part.remote) (and_no (nat_eq x.part.remote 0 && is_okay p.command));
      counts = ap (λ b. is_wrte p.command && not (nat_eq x.part.remote 0) && (nat_eq p.arg0 x.part.remote && b)) off
          ∙ (ap (λ b. is_wrte p.command && not (nat_eq x.part.remote 0) && b) (and_no (nat_eq p.arg0 x.part.remote))
          ∙ and_no (is_wrte p.command && not (nat_eq x.part.remote 0)));
      not_close = ap (λ b. is_clse p.command && ((nat_eq p.arg0 0 && b) || (nat_eq p.arg0 x.part.remote && b))) off
          ∙ (ap (λ b. is_clse p.command && (b || (nat_eq p.arg0 x.part.remote && false))) (and_no (nat_eq p.arg0 0))
          ∙ (ap (λ b. is_clse p.command && (false || b)) (and_no (nat_eq p.arg0 x.part.remote)) ∙ and_no (is_clse p.command)));
      not_cnxn = cnxn;
    }

-- ---- flows
lt_same : (a b c d : ℕ) → (a < b → c < d) → (c < d → a < b) → nat_lt a b ≡ nat_lt c d
lt_same a b c d h k = go (nat_lt a b) (nat_lt c d) refl refl
  where
    go : (x y : Bool) → nat_lt a b ≡ x → nat_lt c d ≡ y → x ≡ y
    go true true e f = refl
    go false false e f = refl
    go true false e f = (let lt : a < b = grind (arith, nat_tests) in let other = h lt in grind (arith, nat_tests))
    go false true e f = (let lt : c < d = grind (arith, nat_tests) in let other = k lt in grind (arith, nat_tests))

-- whether a write is out of turn is what the bytes say
pub turn_is : (flow : Flow) (credit : Bool) (written handed given n : ℕ) → FlowIs flow credit written handed given
    → is_out_of_turn flow n ≡ is_early credit written handed given n
turn_is (One window) credit written handed given n h =
    lt_same 0 window.to_hand handed written (λ e. omega (arith, e, h.1)) (λ e. omega (arith, e, h.1))
    ∙ ap (λ b. is_early b written handed given n) (sym h.0)
turn_is (Credit c) credit written handed given n h =
    lt_same c.left n given (written + n) (λ e. omega (arith, e, h.1)) (λ e. omega (arith, e, h.1))
    ∙ ap (λ b. is_early b written handed given n) (sym h.0)

module _ (credit : Bool) (written handed given : ℕ) where
  pub flow_first : (word : Option ℕ) (flow : Flow) → FlowIs flow credit written handed given
      → FlowIs (first_credit word flow) credit written handed given
  flow_first word (One window) h = h
  flow_first word (Credit c) h = h

  pub flow_okay : (word : Option ℕ) (flow : Flow) → FlowIs flow credit written handed given
      → FlowIs (acknowledged word flow) credit written handed given
  flow_okay word (One window) h = h
  flow_okay None (Credit c) h = h
  flow_okay (Some n) (Credit c) h = h

  pub flow_none : (flow : Flow) → FlowIs flow credit written handed given → FlowIs flow credit (written + 0) handed given
  flow_none (One window) h = (h.0, omega (arith, h.1))
  flow_none (Credit c) h = (h.0, omega (arith, h.1))

  not_before : (a b : ℕ) → nat_lt a b ≡ false → b ≤ a
  not_before a b e = grind (arith, nat_tests)

  pub flow_accepts : (n : ℕ) (flow : Flow) → is_out_of_turn flow n ≡ false → FlowIs flow credit written handed given
      → FlowIs (accepted n flow) credit (written + n) handed given
  flow_accepts n (One window) turn h =
      let none = not_before 0 window.to_hand turn in (h.0, omega (arith, h.1, none))
  flow_accepts n (Credit c) turn h =
      let enough = not_before c.left n turn in (h.0, omega (arith, h.1, enough))
