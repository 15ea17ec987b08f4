-- Rules one after another, and changes of one row: the streams go on.
use Rattle.std.proofs.Common.{◌≡◌, ◌≢◌, ℕ, Bool, true, false, cond, All, List, [], ◌∷◌, Option, Some, None, refl, sym, ap, subst, ◌∙◌, eqb}
use Rattle.std.proofs.Common.{arith}
use Rattle.std.specs.Prelude.{option_and_then, ◌^◌, ◌≤◌, ◌<◌, length, sum}
use Rattle.std.proofs.Math.Nat.{mod-lt}
use Rattle.std.proofs.lemmas.Bool.{eqb-true}
use Rattle.std.proofs.lemmas.List.Elements.{All-nil, All-cons, All-weaker, All-append}
use Rattle.adb_outside.specs.Tables.{Rows, change_row}
use Rattle.adb_wire.specs.Packet.{check_of}
use Rattle.adb_wire.specs.Format.{is_cnxn}
use Rattle.adb_wire.specs.declared.headers.TheConstants.{MAX_PAYLOAD}
use Rattle.adb_wire.specs.declared.packets.Packet.{Packet}
use Rattle.adb_stream.specs.Stream.{with_part}
use Rattle.adb_stream.specs.declared.row.Part.{Part}
use Rattle.adb_stream.specs.declared.row.Stream.{Stream}
use Rattle.adb_stream.specs.Flow.{has_credit}
use Rattle.adb_history.specs.Rows.{State, none_kept, with_stream_part}
use Rattle.adb_history.specs.Events.{Made, Event, quietly, then_also, due_to_client, due_to_link, ended}
use Rattle.adb_history.specs.Links.{owe_link, wants_sums}
use Rattle.adb_history.specs.Clients.{owe_client}
use Rattle.adb_laws_births.specs.Going.{IsSame, Was, GoOn, IsOfOpen, IsOfRow, IsFrom, Goes}

pub same_self : (a : Stream) → IsSame a a
same_self a = record { id = refl; client = refl; link = refl; remote = refl; credit = refl }

pub same_then : (a b c : Stream) → IsSame a b → IsSame b c → IsSame a c
same_then a b c h k = record {
  id = k.id ∙ h.id;
  client = k.client ∙ h.client;
  link = k.link ∙ h.link;
  remote = k.remote ∙ h.remote;
  credit = k.credit ∙ h.credit;
}

pub go_on_same : (rows : Rows (Option Stream)) → GoOn rows rows
go_on_same rows l b is = record { stream = b; is = is; same = same_self b }

pub go_on_then : (x y z : Rows (Option Stream)) → GoOn x y → GoOn y z → GoOn x z
go_on_then x y z h k l b is =
    let later = k l b is in
    let first = h l later.stream later.is in
    record { stream = first.stream; is = first.is; same = same_then first.stream later.stream b first.same later.same }

-- ---- one row changes
pub go_on_change : (rows : Rows (Option Stream)) (l : ℕ) (f : Stream → Option Stream)
    → ((a b : Stream) → rows l ≡ Some a → f a ≡ Some b → IsSame a b) → GoOn rows (change_row l (option_and_then f) rows)
go_on_change rows l f keeps m b is = go (eqb l m) refl is
  where
    by : l ≡ m → (o : Option Stream) → rows m ≡ o → option_and_then f o ≡ Some b → Was (rows m) b
    by same None there e = absurd (let clash : None ≡ Some b = e in cc)
    by same (Some a) there e = record { stream = a; is = there; same = keeps a b (ap rows same ∙ there) e }

    go : (here : Bool) → eqb l m ≡ here → cond here (option_and_then f (rows m)) (rows m) ≡ Some b → Was (rows m) b
    go true e now = by (eqb-true l m e) (rows m) refl now
    go false e now = record { stream = b; is = now; same = same_self b }

pub go_on_part : (rows : Rows (Option Stream)) (l : ℕ) (stream : Stream) (part : Part) → rows l ≡ Some stream
    → (part.remote ≡ stream.part.remote) × (has_credit part.flow ≡ has_credit stream.part.flow)
    → GoOn rows (change_row l (option_and_then (with_stream_part part)) rows)
go_on_part rows l stream part is same = go_on_change rows l (with_stream_part part) keeps
  where
    keeps : (a b : Stream) → rows l ≡ Some a → with_stream_part part a ≡ Some b → IsSame a b
    keeps a b there e =
        let row : with_part part a ≡ b = cc in
        let one : stream ≡ a = (let both : Some stream ≡ Some a = sym is ∙ there in cc) in
        let before : IsSame stream (with_part part stream) =
        record { id = refl; client = refl; link = refl; remote = same.0; credit = same.1 } in
        subst (λ (x : Stream). IsSame a x) row (subst (λ (x : Stream). IsSame x (with_part part x)) one before)

pub go_on_gone : (rows : Rows (Option Stream)) (l : ℕ) → GoOn rows (change_row l (option_and_then none_kept) rows)
go_on_gone rows l = go_on_change rows l none_kept (λ a b there e. absurd (let clash : None ≡ Some b = e in cc))

-- ---- rules
pub goes_quiet : (s : State) → Goes s.streams s.drawn (quietly s)
goes_quiet s = record { rows = go_on_same s.streams; drawn_is = refl; told = All-nil (IsFrom s.streams) }

pub of_before : (x y : Rows (Option Stream)) (t : ℕ) (p : Packet) → GoOn x y → IsOfRow y t p → IsOfRow x t p
of_before x y t p go h =
    let was = go p.arg0 h.stream h.is in
    record {
      stream = was.stream;
      is = was.is;
      link = sym was.same.link ∙ h.link;
      known = λ none. h.known (was.same.remote ∙ none);
      remote = h.remote ∙ was.same.remote;
      of = h.of;
    }

pub from_before : (x y : Rows (Option Stream)) → GoOn x y → (e : Event) → IsFrom y e → IsFrom x e
from_before x y go (due_to_client client bytes) h = tt
from_before x y go (due_to_link link packet check) h = (of_before x y link packet go h.0, h.1)
from_before x y go (ended stream ending) h = tt

module _ (streams : Rows (Option Stream)) (drawn : ℕ) where
  pub goes_then : (m : Made) (rule : State → Made) → Goes streams drawn m → Goes m.state.streams m.state.drawn (rule m.state)
      → Goes streams drawn (then_also m rule)
  goes_then m rule h k = record {
    rows = go_on_then streams m.state.streams (rule m.state).state.streams h.rows k.rows;
    drawn_is = k.drawn_is ∙ h.drawn_is;
    told = All-append (IsFrom streams) m.told (rule m.state).told h.told
        (All-weaker (IsFrom m.state.streams) (IsFrom streams) (from_before streams m.state.streams h.rows) (rule m.state).told k.told);
  }

  pub goes_if : (b : Bool) (m n : Made) → (b ≡ true → Goes streams drawn m) → (b ≡ false → Goes streams drawn n)
      → Goes streams drawn (cond b m n)
  goes_if true m n one other = one refl
  goes_if false m n one other = other refl

-- one event is told
pub one_from : (streams : Rows (Option Stream)) (e : Event) → IsFrom streams e → All (IsFrom streams) (e ∷ [])
one_from streams e h = All-cons (IsFrom streams) e [] h (All-nil (IsFrom streams))

pub goes_owe_client : (c : ℕ) (bytes : List ℕ) (s : State) → Goes s.streams s.drawn (owe_client c bytes s)
goes_owe_client c bytes s =
    record { rows = go_on_same s.streams; drawn_is = refl; told = one_from s.streams (due_to_client c bytes) tt }

-- a stream that its device has opened is there
pub record IsOpenAt (streams : Rows (Option Stream)) (l : ℕ) (stream : Stream) : Type 0 where
  pub row : Stream
  pub is : streams l ≡ Some row
  pub link : row.link ≡ stream.link
  pub remote : row.part.remote ≡ stream.part.remote
  pub known : stream.part.remote ≢ 0

-- a packet is one of that stream
pub record IsPacketOf (l : ℕ) (stream : Stream) (p : Packet) : Type 0 where
  pub from : p.arg0 ≡ l
  pub to : p.arg1 ≡ stream.part.remote
  pub of : IsOfOpen p.command
  pub size : length p.payload ≤ MAX_PAYLOAD

-- the check word of a packet is a word
pub check_short : (b : Bool) (p : Packet) → check_of b p < 2 ^ 32
check_short true p = mod-lt (sum p.payload) (omega arith)
check_short false p = omega arith

pub of_row : (streams : Rows (Option Stream)) (l : ℕ) (stream : Stream) (p : Packet) → IsOpenAt streams l stream → IsPacketOf l stream p
    → IsOfRow streams stream.link p
of_row streams l stream p at q = record {
  stream = at.row;
  is = ap streams q.from ∙ at.is;
  link = at.link;
  known = λ none. at.known (sym at.remote ∙ none);
  remote = q.to ∙ sym at.remote;
  of = q.of;
}

pub goes_owe_link : (l : ℕ) (stream : Stream) (p : Packet) (s : State) → IsOpenAt s.streams l stream → IsPacketOf l stream p
    → Goes s.streams s.drawn (owe_link stream.link p s)
goes_owe_link l stream p s at q = record {
  rows = go_on_same s.streams;
  drawn_is = refl;
  told = one_from s.streams (due_to_link stream.link p _) (
    of_row s.streams l stream p at q,
    record {
      size = q.size;
      word =
          check_short (cond (is_cnxn p.command) true (wants_sums (s.links stream.link))) p;
    },
  );
}
