-- Streams that end by what their link brings, or with it.
use Rattle.std.proofs.Common.{◌≡◌, ℕ, true, not, ◌&&◌, ◌||◌, List, ◌∷◌, length, Some, None, sym, ap, ◌∙◌, ◌⊎◌, inl, inr}
use Rattle.std.specs.Prelude.{is_some}
use Rattle.std.specs.List.{list_any}
use Rattle.std.proofs.Math.Bool.{or-true}
use Rattle.std.proofs.lemmas.Bool.{eq-eqb}
use Rattle.adb_wire.specs.Cutting.{framed}
use Rattle.adb_capture.specs.declared.entry.Entry.{Entry}
use Rattle.adb_capture.specs.declared.entry.Entry.TheVariants.{Read, End, Recv, Detach}
use Rattle.adb_history.specs.Events.{ending_in}
use Rattle.adb_history.specs.declared.ending.Ending.{Ending}
use Rattle.adb_history.specs.declared.ending.Ending.TheVariants.{ClientClosed, PeerClosed, OutOfTurn, Lost, Broken, ClientFailed, Stopped}
use Rattle.adb_history.specs.Machine.{rule, History, state, told_at, IsLegal}
use Rattle.adb_history.specs.Bytes.{bytes_received}
use Rattle.adb_history.specs.Book.{is_refused}
use Rattle.adb_history.specs.Births.{remote_of, told_to, joined, handed_to}
use Rattle.adb_history.specs.Causes.{brings, closes_in, peer_closes, writes_early_in, given_to, writes_early, loses_link, breaks_link}
use Rattle.adb_history.specs.Causes.{EndsByPeer, EndsOutOfTurn, EndsByLoss, EndsByBreak}
use Rattle.adb_laws_causes.specs.Flows.{HasFlows, AllHoldAsTold}
use Rattle.adb_laws_causes.proofs.Middle.{holds_flows}
use Rattle.adb_laws_causes.proofs.Runs.{says_anew, StruckBy, Cutting}
use Rattle.adb_laws_causes.proofs.Lives.{WhyStep}
use Rattle.adb_laws_causes.proofs.Endings.{time_of, EndsAt, ends_at, ends_for}
use Rattle.adb_laws_causes.proofs.Receiving.{recv_ends}

-- what ends a stream by the bytes of its link: the cut of the bytes is that of the link of its birth
pub record ByCut (t : ℕ) (bytes : List ℕ) (older : History) (l : ℕ) (ending : Ending)
    (x : EndsAt l (Recv t bytes) older ending) : Type 0 where
  pub cut : Cutting
  pub link : x.kept.birth.link ≡ t
  pub given : brings x.kept.birth.link (Recv t bytes) older ≡ cut.given
  pub fault : (framed (bytes_received x.kept.birth.link (Recv t bytes ∷ older))).fault ≡ cut.fault
  pub sound : (framed (bytes_received x.kept.birth.link older)).fault ≡ None
  pub why : StruckBy l x.row cut ending ⊎ (ending ≡ ClientClosed)

pub by_cut : (t : ℕ) (bytes : List ℕ) (older : History) (l : ℕ) (ending : Ending) (x : EndsAt l (Recv t bytes) older ending)
    → IsLegal (Recv t bytes ∷ older) × (x.row.link ≡ t) × (ending_in l (told_at (Recv t bytes) older) ≡ Some ending)
    → ByCut t bytes older l ending x
by_cut t bytes older l ending x at =
    let ends = recv_ends t l bytes x.row older at.0 (x.is, x.alive, at.1) ending at.2 in
    let same : x.kept.birth.link ≡ t = sym x.kept.link ∙ at.1 in
    record {
      cut = ends.cut;
      link = same;
      given = ap (λ n. brings n (Recv t bytes) older) same ∙ ends.brought.given;
      fault = ap (λ n. (framed (bytes_received n (Recv t bytes ∷ older))).fault) same ∙ ends.brought.fault;
      sound = ap (λ n. (framed (bytes_received n older)).fault) same ∙ ends.brought.sound;
      why = ends.why;
    }

-- ---- the device closed
peer_struck : (l : ℕ) (t : ℕ) (bytes : List ℕ) (older : History) (x : EndsAt l (Recv t bytes) older PeerClosed)
    → (c : ByCut t bytes older l PeerClosed x)
    → StruckBy l x.row c.cut PeerClosed ⊎ (PeerClosed ≡ ClientClosed) → peer_closes l x.kept.birth (Recv t bytes) older ≡ true
peer_struck l t bytes older x c (inl (inl closes)) =
    ap (λ ps. closes_in (remote_of l x.kept.birth older) l ps) c.given ∙ (ap (λ n. closes_in n l c.cut.given) (sym x.kept.remote) ∙ closes)
peer_struck l t bytes older x c (inl (inr fault)) = absurd (let clash : PeerClosed ≡ Broken = fault.0 in cc)
peer_struck l t bytes older x c (inr closed) = absurd (let clash : PeerClosed ≡ ClientClosed = closed in cc)

-- an entry that ends a stream of which its device is told by packets alone
peer_cause : (l : ℕ) (e : Entry) (older : History) (x : EndsAt l e older PeerClosed) → IsLegal (e ∷ older)
    → ending_in l (told_at e older) ≡ Some PeerClosed
    → WhyStep e ((rule e (state older)).state.stopped ≡ true) x.row.client x.row.link PeerClosed → peer_closes l x.kept.birth e older ≡ true
peer_cause l (Recv t bytes) older x time told (inl why) =
    let c = by_cut t bytes older l PeerClosed x (time, why, told) in
    peer_struck l t bytes older x c c.why
peer_cause l (Read n bytes) older x time told (inl why) = absurd (let clash : PeerClosed ≡ Stopped = why.0 in cc)
peer_cause l (End n cause) older x time told (inl why) = absurd (let clash : PeerClosed ≡ ClientFailed cause = why.0 in cc)
peer_cause l (Detach t cause) older x time told (inl why) = absurd (let clash : PeerClosed ≡ Lost = why.0 in cc)
peer_cause l e older x time told (inl why) = absurd why
peer_cause l e older x time told (inr why) = absurd (let clash : PeerClosed ≡ ClientClosed = why in cc)

pub all_by_peer : (h : History) → IsLegal h → EndsByPeer h
all_by_peer h legal l e older moment told =
    let time = time_of h legal e older moment in
    let x = ends_at l e older PeerClosed time told in
    ends_for (λ l b e older. peer_closes l b e older ≡ true) l e older PeerClosed x (peer_cause l e older x time told x.why)

-- ---- the device wrote out of turn
turn_struck : (l : ℕ) (t : ℕ) (bytes : List ℕ) (older : History) (x : EndsAt l (Recv t bytes) older OutOfTurn)
    → (c : ByCut t bytes older l OutOfTurn x)
    → HasFlows older → StruckBy l x.row c.cut OutOfTurn ⊎ (OutOfTurn ≡ ClientClosed)
    → writes_early l x.kept.birth (Recv t bytes) older ≡ true
turn_struck l t bytes older x c flows (inl (inl early)) =
    let b = x.kept.birth in
    let written = length (joined (told_to l b older)) in
    let handed = length (handed_to l b older) in
    let given = given_to l b older in
    ap (λ ps. writes_early_in b (remote_of l b older) l written handed given ps) c.given
    ∙ (ap (λ n. writes_early_in b n l written handed given c.cut.given) (sym x.kept.remote)
    ∙ early b written handed given (flows l b x.row x.kept.is x.is x.alive))
turn_struck l t bytes older x c flows (inl (inr fault)) = absurd (let clash : OutOfTurn ≡ Broken = fault.0 in cc)
turn_struck l t bytes older x c flows (inr closed) = absurd (let clash : OutOfTurn ≡ ClientClosed = closed in cc)

turn_cause : (l : ℕ) (e : Entry) (older : History) (x : EndsAt l e older OutOfTurn) → IsLegal (e ∷ older) × HasFlows older
    × (ending_in l (told_at e older) ≡ Some OutOfTurn) → WhyStep e ((rule e (state older)).state.stopped ≡ true)
    x.row.client x.row.link OutOfTurn
    → writes_early l x.kept.birth e older ≡ true
turn_cause l (Recv t bytes) older x at (inl why) =
    let c = by_cut t bytes older l OutOfTurn x (at.0, why, at.2) in
    turn_struck l t bytes older x c at.1 c.why
turn_cause l (Read n bytes) older x at (inl why) = absurd (let clash : OutOfTurn ≡ Stopped = why.0 in cc)
turn_cause l (End n cause) older x at (inl why) = absurd (let clash : OutOfTurn ≡ ClientFailed cause = why.0 in cc)
turn_cause l (Detach t cause) older x at (inl why) = absurd (let clash : OutOfTurn ≡ Lost = why.0 in cc)
turn_cause l e older x at (inl why) = absurd why
turn_cause l e older x at (inr why) = absurd (let clash : OutOfTurn ≡ ClientClosed = why in cc)

pub all_out_of_turn : AllHoldAsTold → (h : History) → IsLegal h → EndsOutOfTurn h
all_out_of_turn holds h legal l e older moment told =
    let time = time_of h legal e older moment in
    let x = ends_at l e older OutOfTurn time told in
    ends_for (λ l b e older. writes_early l b e older ≡ true) l e older OutOfTurn x
    (turn_cause l e older x (time, holds_flows older time.0 (holds older time.0), told) x.why)

-- ---- its link was lost
lost_struck : (l : ℕ) (t : ℕ) (bytes : List ℕ) (older : History) (x : EndsAt l (Recv t bytes) older Lost)
    → (c : ByCut t bytes older l Lost x)
    → StruckBy l x.row c.cut Lost ⊎ (Lost ≡ ClientClosed) → loses_link x.kept.birth (Recv t bytes) older ≡ true
lost_struck l t bytes older x c (inl (inl anew)) = ap (λ ps. list_any says_anew ps) c.given ∙ anew
lost_struck l t bytes older x c (inl (inr fault)) = absurd (let clash : Lost ≡ Broken = fault.0 in cc)
lost_struck l t bytes older x c (inr closed) = absurd (let clash : Lost ≡ ClientClosed = closed in cc)

lost_cause : (l : ℕ) (e : Entry) (older : History) (x : EndsAt l e older Lost) → IsLegal (e ∷ older)
    → ending_in l (told_at e older) ≡ Some Lost
    → WhyStep e ((rule e (state older)).state.stopped ≡ true) x.row.client x.row.link Lost → loses_link x.kept.birth e older ≡ true
lost_cause l (Recv t bytes) older x time told (inl why) =
    let c = by_cut t bytes older l Lost x (time, why, told) in
    lost_struck l t bytes older x c c.why
lost_cause l (Detach t cause) older x time told (inl why) =
    let b = x.kept.birth in
    ap (λ a. a || list_any says_anew (brings b.link (Detach t cause) older)) (eq-eqb t b.link (sym why.1 ∙ x.kept.link))
lost_cause l (Read n bytes) older x time told (inl why) = absurd (let clash : Lost ≡ Stopped = why.0 in cc)
lost_cause l (End n cause) older x time told (inl why) = absurd (let clash : Lost ≡ ClientFailed cause = why.0 in cc)
lost_cause l e older x time told (inl why) = absurd why
lost_cause l e older x time told (inr why) = absurd (let clash : Lost ≡ ClientClosed = why in cc)

pub all_by_loss : (h : History) → IsLegal h → EndsByLoss h
all_by_loss h legal l e older moment told =
    let time = time_of h legal e older moment in
    let x = ends_at l e older Lost time told in
    ends_for (λ l b e older. loses_link b e older ≡ true) l e older Lost x (lost_cause l e older x time told x.why)

-- ---- its link was broken
broken_struck : (l : ℕ) (t : ℕ) (bytes : List ℕ) (older : History) (x : EndsAt l (Recv t bytes) older Broken)
    → (c : ByCut t bytes older l Broken x)
    → StruckBy l x.row c.cut Broken ⊎ (Broken ≡ ClientClosed) → breaks_link x.kept.birth (Recv t bytes) older ≡ true
broken_struck l t bytes older x c (inl (inl refused)) =
    let b = x.kept.birth in
    let had = is_some (framed (bytes_received b.link (Recv t bytes ∷ older))).fault
    && not (is_some (framed (bytes_received b.link older)).fault) in
    ap (λ ps. had || list_any is_refused ps) c.given ∙ (ap (λ a. had || a) refused ∙ or-true had)
broken_struck l t bytes older x c (inl (inr fault)) =
    let b = x.kept.birth in
    let rest = list_any is_refused (brings b.link (Recv t bytes) older) in
    ap (λ f. (is_some f && not (is_some (framed (bytes_received b.link older)).fault)) || rest) c.fault
    ∙ (ap (λ f. (is_some c.cut.fault && not (is_some f)) || rest) c.sound
    ∙ ap (λ a. (a && true) || rest) fault.1)
broken_struck l t bytes older x c (inr closed) = absurd (let clash : Broken ≡ ClientClosed = closed in cc)

broken_cause : (l : ℕ) (e : Entry) (older : History) (x : EndsAt l e older Broken) → IsLegal (e ∷ older)
    → ending_in l (told_at e older) ≡ Some Broken
    → WhyStep e ((rule e (state older)).state.stopped ≡ true) x.row.client x.row.link Broken → breaks_link x.kept.birth e older ≡ true
broken_cause l (Recv t bytes) older x time told (inl why) =
    let c = by_cut t bytes older l Broken x (time, why, told) in
    broken_struck l t bytes older x c c.why
broken_cause l (Read n bytes) older x time told (inl why) = absurd (let clash : Broken ≡ Stopped = why.0 in cc)
broken_cause l (End n cause) older x time told (inl why) = absurd (let clash : Broken ≡ ClientFailed cause = why.0 in cc)
broken_cause l (Detach t cause) older x time told (inl why) = absurd (let clash : Broken ≡ Lost = why.0 in cc)
broken_cause l e older x time told (inl why) = absurd why
broken_cause l e older x time told (inr why) = absurd (let clash : Broken ≡ ClientClosed = why in cc)

pub all_by_break : (h : History) → IsLegal h → EndsByBreak h
all_by_break h legal l e older moment told =
    let time = time_of h legal e older moment in
    let x = ends_at l e older Broken time told in
    ends_for (λ l b e older. breaks_link b e older ≡ true) l e older Broken x (broken_cause l e older x time told x.why)
