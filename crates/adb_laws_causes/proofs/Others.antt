-- At an entry that leaves a stream alive nothing stands that ends one, but its client's orderly end.
use Rattle.std.proofs.Common.{◌≡◌, ◌≤◌, ◌<◌, ℕ, zero, suc, Bool, true, false, cond, not, ◌&&◌, ◌||◌, List, [], ◌∷◌, ◌++◌, length, drop, min}
use Rattle.std.proofs.Common.{Some}
use Rattle.std.proofs.Common.{None, refl, sym, ap, ◌∙◌, inl, inr, arith, eqb}
use Rattle.std.specs.Prelude.{is_some, nat_lt, slice_get}
use Rattle.std.specs.List.{list_any}
use Rattle.std.proofs.Math.Seq.{drop-length}
use Rattle.std.proofs.Math.Bool.{and-not_self}
use Rattle.std.proofs.lemmas.Option.{slice_get_within}
use Rattle.std.proofs.lemmas.Bool.{eqb-true}
use Rattle.std.proofs.lemmas.Bool.Decides.{nat_tests}
use Rattle.adb_outside.specs.Tables.{at}
use Rattle.adb_wire.specs.Cutting.{cut_packets, framed}
use Rattle.adb_stream.specs.declared.row.Stream.{Stream}
use Rattle.adb_capture.specs.declared.entry.Entry.{Entry}
use Rattle.adb_capture.specs.declared.entry.Entry.TheVariants.{Recv, Detach}
use Rattle.adb_history.specs.Events.{ending_in}
use Rattle.adb_history.specs.declared.ending.Ending.TheVariants.{Lost}
use Rattle.adb_history.specs.Streams.{stream_ids}
use Rattle.adb_history.specs.Packets.{receives}
use Rattle.adb_history.specs.Machine.{unplugs_on, rule, ups, History, state, told_at, IsLegal}
use Rattle.adb_history.specs.Bytes.{is_lost, bytes_received, brought}
use Rattle.adb_history.specs.Book.{is_refused}
use Rattle.adb_history.specs.Births.{Birth, births, born, remote_of, told_to, joined, handed_to}
use Rattle.adb_history.specs.Lives.{ending_of}
use Rattle.adb_history.specs.Causes.{brings, closes_in, peer_closes, writes_early_in, given_to, writes_early, detaches, loses_link}
use Rattle.adb_history.specs.Causes.{breaks_link, failure_of}
use Rattle.adb_history.specs.Causes.{stops_now, is_struck}
use Rattle.adb_laws_births.proofs.Born.{all_births}
use Rattle.adb_laws_causes.specs.Flows.{HasFlows}
use Rattle.adb_laws_causes.proofs.Fates.{ending_append, or_none, none_some, live_row}
use Rattle.adb_laws_causes.proofs.Runs.{RunsOn, Cutting, CutRun, says_anew}
use Rattle.adb_laws_causes.proofs.TurnsOfPackets.{link_ends_told}
use Rattle.adb_laws_causes.proofs.Lives.{lived}
use Rattle.adb_laws_causes.proofs.Receiving.{Brought, brought_cut, LinkThere, here_at, there_at, recv_run}

-- ---- a stream that was born and did not end lives
pub born_within : (l : ℕ) (h : History) (b : Birth) → born l h ≡ Some b → (0 < l) × (l ≤ min (length (births h)) stream_ids)
born_within zero h b is = absurd (let clash : None ≡ Some b = is in cc)
born_within (suc k) h b is = go (nat_lt k stream_ids) refl is
  where
    below : nat_lt k stream_ids ≡ true → k < stream_ids
    below e = grind (arith, nat_tests)

    go : (c : Bool) → nat_lt k stream_ids ≡ c → cond c (slice_get (births h) k) None ≡ Some b
        → (0 < suc k) × (suc k ≤ min (length (births h)) stream_ids)
    go true e f =
        let within = slice_get_within (births h) k b f in
        let ids = below e in
        (omega arith, omega (arith, within, ids))
    go false e f = absurd (let clash : None ≡ Some b = f in cc)

-- a stream that was born and has not ended, as it is kept
pub record Alive (l : ℕ) (b : Birth) (older : History) : Type 0 where
  pub row : Stream
  pub is : (state older).streams l ≡ Some row
  pub alive : row.part.orphan ≡ false
  pub client : row.client ≡ b.client
  pub link : row.link ≡ b.link
  pub remote : row.part.remote ≡ remote_of l b older

pub alive_at : (l : ℕ) (b : Birth) (older : History) → IsLegal older → born l older ≡ Some b → ending_of l older ≡ None
    → Alive l b older
alive_at l b older legal is none =
    let has = all_births older legal in
    let within = born_within l older b is in
    let x = live_row ((state older).streams l) ((lived older legal l).runs none (within.0, omega (arith, within.1, has.drawn))) in
    let kept = has.kept l x.row x.is in
    let same : kept.birth ≡ b = (let both : Some kept.birth ≡ Some b = sym kept.is ∙ is in cc) in
    record {
      row = x.row;
      is = x.is;
      alive = x.alive;
      client = kept.client ∙ ap (λ (c : Birth). c.client) same;
      link = kept.link ∙ ap (λ (c : Birth). c.link) same;
      remote = kept.remote ∙ ap (λ (c : Birth). remote_of l c older) same;
    }

-- ---- nothing strikes
pub record Unstruck (l : ℕ) (b : Birth) (e : Entry) (older : History) : Type 0 where
  pub peer : peer_closes l b e older ≡ false
  pub turn : writes_early l b e older ≡ false
  pub lost : loses_link b e older ≡ false
  pub broken : breaks_link b e older ≡ false
  pub failed : is_some (failure_of b.client e) ≡ false
  pub stopped : stops_now e older ≡ false

pub unstruck : (l : ℕ) (b : Birth) (e : Entry) (older : History) → Unstruck l b e older → is_struck l b e older ≡ false
unstruck l b e older u =
    ap (λ a. a || writes_early l b e older || loses_link b e older || breaks_link b e older
    || is_some (failure_of b.client e) || stops_now e older) u.peer
    ∙ (ap (λ a. false || a || loses_link b e older || breaks_link b e older || is_some (failure_of b.client e) || stops_now e older) u.turn
    ∙ (ap (λ a. false || false || a || breaks_link b e older || is_some (failure_of b.client e) || stops_now e older) u.lost
    ∙ (ap (λ a. false || false || false || a || is_some (failure_of b.client e) || stops_now e older) u.broken
    ∙ (ap (λ a. false || false || false || false || a || stops_now e older) u.failed
    ∙ ap (λ a. false || false || false || false || false || a) u.stopped))))

-- what the link of a stream brings by an entry: nothing that strikes
pub record LinkQuiet (l : ℕ) (b : Birth) (e : Entry) (older : History) : Type 0 where
  pub peer : peer_closes l b e older ≡ false
  pub turn : writes_early l b e older ≡ false
  pub anew : list_any says_anew (brings b.link e older) ≡ false
  pub broken : breaks_link b e older ≡ false

-- where it brings nothing
nothing_brought : (l : ℕ) (b : Birth) (e : Entry) (older : History)
    → bytes_received b.link (e ∷ older) ≡ bytes_received b.link older → LinkQuiet l b e older
nothing_brought l b e older same =
    let none : brings b.link e older ≡ [] =
    ap (λ bytes. drop (length (brought b.link older)) (framed bytes).given) same ∙ drop-length (brought b.link older) in
    record {
      peer = ap (λ ps. closes_in (remote_of l b older) l ps) none;
      turn = ap (λ ps. writes_early_in b (remote_of l b older) l (length (joined (told_to l b older))) (length (handed_to l b older))
          (given_to l b older) ps) none;
      anew = ap (λ ps. list_any says_anew ps) none;
      broken =
          ap (λ ps. (is_some (framed (bytes_received b.link (e ∷ older))).fault
          && not (is_some (framed (bytes_received b.link older)).fault))
          || list_any is_refused ps) none
          ∙ (ap (λ bytes. (is_some (framed bytes).fault && not (is_some (framed (bytes_received b.link older)).fault)) || false) same
          ∙ ap (λ a. a || false) (and-not_self (is_some (framed (bytes_received b.link older)).fault)));
    }

-- ---- what a link brings
module _ (l : ℕ) (b : Birth) (older : History) (a : Alive l b older) where
  pub rule_none : (e : Entry) → ending_in l (told_at e older) ≡ None → ending_in l (rule e (state older)).told ≡ None
  rule_none e none =
      let m = rule e (state older) in
      (or_none (ending_in l m.told) (ending_in l (ups m.state).told) (sym (ending_append l m.told (ups m.state).told) ∙ none)).0

  -- the bytes of its own link
  own_quiet : (t : ℕ) (bytes : List ℕ) → t ≡ b.link → IsLegal (Recv t bytes ∷ older) × HasFlows older × (born l older ≡ Some b)
      → ending_in l (told_at (Recv t bytes) older) ≡ None → LinkQuiet l b (Recv t bytes) older
  own_quiet t bytes same at none = go (recv_run t l bytes a.row older at.0 on there.link there.is)
    where
      on : ((state older).streams l ≡ Some a.row) × (a.row.part.orphan ≡ false) × (a.row.link ≡ t)
      on = (a.is, a.alive, a.link ∙ sym same)

      there : LinkThere t (state older)
      there = there_at t l a.row older at.0.0 (a.is, a.alive, a.link ∙ sym same)

      c : Cutting
      c = cut_packets (record { sums = there.link.sums }) (there.link.rest ++ bytes)

      brought_here : Brought t bytes older there.link (cut_packets (record { sums = there.link.sums }) (there.link.rest ++ bytes))
      brought_here = brought_cut t bytes older there.link at.0.0 there.is

      given : brings b.link (Recv t bytes) older ≡ (cut_packets (record { sums = there.link.sums }) (there.link.rest ++ bytes)).given
      given = ap (λ n. brings n (Recv t bytes) older) (sym same) ∙ brought_here.given

      fault : (framed (bytes_received b.link (Recv t bytes ∷ older))).fault
          ≡ (cut_packets (record { sums = there.link.sums }) (there.link.rest ++ bytes)).fault
      fault = ap (λ n. (framed (bytes_received n (Recv t bytes ∷ older))).fault) (sym same) ∙ brought_here.fault

      runs_quiet : (r : RunsOn t l a.row c.given (receives t bytes (state older))) → c.fault ≡ None → LinkQuiet l b (Recv t bytes) older
      runs_quiet r sound =
          let written = length (joined (told_to l b older)) in
          let handed = length (handed_to l b older) in
          let rest = not (is_some (framed (bytes_received b.link older)).fault) in
          record {
            peer = ap (λ ps. closes_in (remote_of l b older) l ps) given ∙ (ap (λ n. closes_in n l c.given) (sym a.remote) ∙ r.not_close);
            turn = ap (λ ps. writes_early_in b (remote_of l b older) l written handed (given_to l b older) ps) given
                ∙ (ap (λ n. writes_early_in b n l written handed (given_to l b older) c.given) (sym a.remote)
                ∙ r.in_turn b written handed (given_to l b older) (at.1 l b a.row at.2 a.is a.alive));
            anew = ap (λ ps. list_any says_anew ps) given ∙ r.not_lost;
            broken = ap (λ f. (is_some f && rest) || list_any is_refused (brings b.link (Recv t bytes) older)) (fault ∙ sound)
                ∙ (ap (λ ps. list_any is_refused ps) given ∙ r.not_broken);
          }

      go : CutRun t l a.row c (receives t bytes (state older)) → LinkQuiet l b (Recv t bytes) older
      go (inl runs) = runs_quiet runs.0 runs.1
      go (inr fell) = absurd (none_some fell.ending (sym (rule_none (Recv t bytes) none) ∙ fell.told))

  recv_quiet : (t : ℕ) (bytes : List ℕ) → IsLegal (Recv t bytes ∷ older) × HasFlows older × (born l older ≡ Some b)
      → ending_in l (told_at (Recv t bytes) older) ≡ None → LinkQuiet l b (Recv t bytes) older
  recv_quiet t bytes at none = go (eqb t b.link) refl
    where
      go : (c : Bool) → eqb t b.link ≡ c → LinkQuiet l b (Recv t bytes) older
      go true e = own_quiet t bytes (eqb-true t b.link e) at none
      go false e = nothing_brought l b (Recv t bytes) older
          (ap (λ c. cond (c && not (is_lost b.link older)) (bytes_received b.link older ++ bytes) (bytes_received b.link older)) e)

  pub link_quiet : (e : Entry) → IsLegal (e ∷ older) × HasFlows older × (born l older ≡ Some b)
      → ending_in l (told_at e older) ≡ None → LinkQuiet l b e older
  link_quiet (Recv t bytes) at none = recv_quiet t bytes at none
  link_quiet e at none = nothing_brought l b e older refl

  -- ---- its link is not detached
  pub not_detached : (e : Entry) → IsLegal older → ending_in l (told_at e older) ≡ None → detaches b.link e ≡ false
  not_detached (Detach t cause) legal none = go (eqb t b.link) refl
    where
      falls : t ≡ b.link → ⊥
      falls same =
          let on : ((state older).streams l ≡ Some a.row) × (a.row.part.orphan ≡ false) × (a.row.link ≡ t) =
          (a.is, a.alive, a.link ∙ sym same) in
          let there = there_at t l a.row older legal on in
          let told : ending_in l (unplugs_on (Some there.link) t (state older)).told ≡ Some Lost =
          link_ends_told t l a.row (state older) (here_at t l a.row older legal on) Lost in
          none_some Lost
          (sym (ap (λ o. ending_in l (unplugs_on o t (state older)).told) (sym there.is)
          ∙ rule_none (Detach t cause) none) ∙ told)

      go : (c : Bool) → eqb t b.link ≡ c → eqb t b.link ≡ false
      go false e = e
      go true e = absurd (falls (eqb-true t b.link e))
  not_detached _ legal none = refl
