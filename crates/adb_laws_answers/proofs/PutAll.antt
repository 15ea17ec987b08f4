-- A client whose device closed its stream is gone only when it was put all that became due to it.
use Rattle.std.proofs.Common.{◌≡◌, ◌≢◌, ◌≤◌, ◌+◌, ℕ, Bool, true, false, cond, not, ◌||◌, ◌&&◌, List, [], ◌∷◌, ◌++◌, length, drop}
use Rattle.std.proofs.Common.{Option, Some, None, refl, sym, ap, subst, ◌∙◌, arith, append_assoc, ◌⊎◌, inl, inr}
use Rattle.std.specs.Prelude.{nat_eq, is_some, option_map}
use Rattle.std.specs.Option.{option_or}
use Rattle.std.proofs.lemmas.Bool.{cases_eq, eq-eqb, ne_eqb}
use Rattle.std.proofs.lemmas.List.{append-nil}
use Rattle.std.proofs.Math.Seq.{drop-append_seam}
use Rattle.adb_outside.specs.Bytes.{IsPrefixOf}
use Rattle.adb_outside.specs.Framing.{Cut}
use Rattle.adb_wire.specs.Cutting.{cut_packets}
use Rattle.adb_wire.specs.declared.packets.Packet.{Packet}
use Rattle.adb_wire.specs.declared.format.PacketFault.{PacketFault}
use Rattle.adb_wire.specs.declared.format.PacketFormat.{PacketFormat}
use Rattle.adb_stream.specs.declared.row.Stream.{Stream}
use Rattle.adb_client.specs.declared.phase.Phase.{Phase}
use Rattle.adb_client.specs.declared.phase.Phase.TheVariants.{Closing}
use Rattle.adb_capture.specs.declared.entry.Entry.{Entry}
use Rattle.adb_capture.specs.declared.entry.Entry.TheVariants.{Join, Enter, Read, End, Bound, Attach, Recv, Detach, Put, Send}
use Rattle.adb_history.specs.Births.{Birth, born}
use Rattle.adb_history.specs.Book.{is_killed, devices}
use Rattle.adb_history.specs.Bytes.{is_orderly, has_failed, bytes_put, brought}
use Rattle.adb_history.specs.Causes.{closes_in}
use Rattle.adb_history.specs.Clients.{closing_with}
use Rattle.adb_history.specs.Events.{Made, then_also, owed_to, ending_in}
use Rattle.adb_history.specs.declared.ending.Ending.{Ending}
use Rattle.adb_history.specs.declared.ending.Ending.TheVariants.{PeerClosed, ClientClosed, ClientFailed, Broken, Lost, Stopped}
use Rattle.adb_history.specs.Handing.{lists_first, left_in, hands, client_left, takes_of, puts_to}
use Rattle.adb_history.specs.Lives.{ending_of, output_of}
use Rattle.adb_history.specs.Machine.{rule, ups, History, state, told, told_at, IsSomeOf, MayPut, May, IsLegal}
use Rattle.adb_history.specs.Orderly.{IsResting}
use Rattle.adb_history.specs.Owned.{IsOwned}
use Rattle.adb_history.specs.Packets.{treat_all, faulty, with_rest, receives_on, receives}
use Rattle.adb_history.specs.Rows.{Client, Link, State, to_client, to_link}
use Rattle.adb_history.specs.Tied.{came_count}
use Rattle.adb_history.specs.Tracking.{due_or, list_if_stale, offered}
use Rattle.adb_history.specs.Book.{plugged_count}
use Rattle.adb_history.proofs.Books.{all_books}
use Rattle.adb_history.proofs.Following.{after_then, changed_here}
use Rattle.adb_history.proofs.Numbers.{counted}
use Rattle.adb_history.proofs.OrderlyStates.{orderly}
use Rattle.adb_history.proofs.OutputEntries.{tied, all_due_past_put}
use Rattle.adb_history.proofs.OwnedStep.{owned_moves, begins_owned, all_owned}
use Rattle.adb_history.proofs.RuleMoves as moves
use Rattle.adb_laws_births.specs.Births.{born_stays}
use Rattle.adb_laws_births.specs.Ending.{EndsAs}
use Rattle.adb_laws_births.proofs.Born.{all_births}
use Rattle.adb_laws_births.proofs.Endings.{all_endings}
use Rattle.adb_laws_fifo_down.specs.Begins.{IsBornNow}
use Rattle.adb_laws_fifo_down.specs.Follows.{Follows}
use Rattle.adb_laws_fifo_down.specs.Followed.{LifeOf}
use Rattle.adb_laws_fifo_down.specs.Life.{IsDone as IsOver, LivesIn, heard}
use Rattle.adb_laws_fifo_down.specs.Follows.{is_shut}
use Rattle.adb_laws_fifo_down.specs.Line.{SeenStream, View, seen, seen_client}
use Rattle.adb_laws_fifo_down.proofs.BornNow.{born_when}
use Rattle.adb_laws_fifo_down.proofs.Handed.{has_lives}
use Rattle.adb_laws_causes.proofs.Endings.{EndsAt, ends_at, stopped_after}
use Rattle.adb_laws_causes.proofs.Fates.{ending_append}
use Rattle.adb_laws_causes.proofs.Lives.{WhyStep}
use Rattle.adb_laws_causes.proofs.Receiving.{LinkThere, here_at, there_at, RecvEnds, recv_ends, brought_cut}
use Rattle.adb_laws_causes.proofs.Runs.{Run, StruckBy, run}
use Rattle.adb_laws_causes.proofs.Turning.{Here}
use Rattle.adb_laws_causes.proofs.UntouchedEntries.{Pair, pair_of}
use Rattle.adb_laws_answered.specs.Served.{IsDone}
use Rattle.adb_laws_answered.proofs.ClientTurns.{another_comes, covers_all, client_kept, client_ups}
use Rattle.adb_laws_answered.proofs.DoneMoves.{done_turns}
use Rattle.adb_laws_answered.proofs.ServedClients.{done_client}
use Rattle.adb_history.proofs.PacketMoves as turns
use Rattle.adb_history.specs.Turns.{serving}
use Rattle.adb_laws_answers.specs.Gone.{PutsAllOfClosed}
use Rattle.adb_laws_answers.proofs.Staying.{Spares, stays_faulty, stays_up, stays_rule}
use Rattle.adb_laws_answers.proofs.Falling.{IsClosing, Fallen, falls}

-- ---- what was so before
killed_before : (e : Entry) (older : History) → IsLegal (e ∷ older) → is_killed (e ∷ older) ≡ false → is_killed older ≡ false
killed_before (Put c bytes) older legal none = none
killed_before (Send t bytes) older legal none = none
killed_before _ older legal none = sym (all_books older legal.0).killed ∙ legal.2.0

failed_end : (a b f : Bool) → ((a && not b) || f) ≡ false → (f ≡ false) × (a ≡ true → b ≡ true)
failed_end true true f e = (e, λ same. refl)
failed_end true false f e = absurd (let clash : true ≡ false = e in cc)
failed_end false b f e = (e, λ same. let clash : false ≡ true = same in cc)

failed_before : (c : ℕ) (e : Entry) (older : History) → has_failed c (e ∷ older) ≡ false → has_failed c older ≡ false
failed_before c (End n cause) older none = (failed_end (nat_eq n c) (is_orderly cause) (has_failed c older) none).0
failed_before c _ older none = none

-- an entry is a hand-out to the client, or it spares it
spares_or : (c : ℕ) (e : Entry) (older : History) → has_failed c (e ∷ older) ≡ false → Spares c e ⊎ ((bytes : List ℕ) × (e ≡ Put c bytes))
spares_or c (Put n bytes) older none = go (cases_eq n c)
  where
    go : (n ≡ c) ⊎ (n ≢ c) → Spares c (Put n bytes) ⊎ ((more : List ℕ) × (Put n bytes ≡ Put c more))
    go (inl same) = inr (bytes, ap (λ (m : ℕ). Put m bytes) same)
    go (inr other) = inl other
spares_or c (End n cause) older none =
    inl (λ same. (failed_end (nat_eq n c) (is_orderly cause) (has_failed c older) none).1 (eq-eqb n c same))
spares_or c _ older none = inl tt

-- what spares a client puts nothing to it
put_same : (c : ℕ) (e : Entry) (older : History) → Spares c e → bytes_put c (e ∷ older) ≡ bytes_put c older
put_same c (Put n bytes) older other = ap (λ (b : Bool). cond b (bytes_put c older ++ bytes) (bytes_put c older)) (ne_eqb n c other)
put_same c _ older other = refl

-- ---- behind the close of its stream
module _ (l : ℕ) (b : Birth) (h : History) (legal : IsLegal h) (birth : born l h ≡ Some b) (closed : ending_of l h ≡ Some PeerClosed) where
  row_gone : (state h).streams l ≡ None
  row_gone = go ((state h).streams l) refl
    where
      by : (orphan : Bool) → EndsAs orphan (ending_of l h) → ⊥
      by false e = let clash : None ≡ Some PeerClosed = sym e ∙ closed in cc
      by true e = let clash : Some (ClientFailed e.0) ≡ Some PeerClosed = sym e.1 ∙ closed in cc

      go : (o : Option Stream) → (state h).streams l ≡ o → (state h).streams l ≡ None
      go None is = is
      go (Some x) is = absurd (by x.part.orphan ((all_endings h legal l).kept x is))

  f : Follows LifeOf h l b
  f = has_lives h legal l b birth

  is_closing : (a : Client) → (state h).clients b.client ≡ Some a → a.about.phase ≡ Closing
  is_closing a is =
      over (seen_client a)
      (ap (λ (v : View). v.client) (sym f.holds.shows.1) ∙ ap (λ (o : Option Client). option_map seen_client o) is)
    where
      gone : f.holds.seen.stream ≡ None
      gone = ap (λ (v : View). v.stream) (sym f.holds.shows.1) ∙ ap (λ (o : Option Stream). option_map seen o) row_gone

      over : IsOver f.holds.seen.client
      over = (subst
          (λ (o : Option SeenStream). LivesIn o l f.cradle (Rattle.adb_history.specs.Births.since b h)
          (is_shut b.link h) (heard f.holds.seen))
          gone f.holds.keeps.lives).0

  below : b.client ≤ (state h).joined
  below = let came = f.came in let counts = (counted h).joined in omega (arith, came, counts)

  done : IsDone b.client (output_of b.client h) (state h) (told h)
  done = record { owned = all_owned h legal; row = is_closing; told = refl }

-- ---- an entry behind it
module _ (l : ℕ) (b : Birth) (e : Entry) (older : History) (legal : IsLegal (e ∷ older)) (birth : born l older ≡ Some b)
    (closed : ending_of l older ≡ Some PeerClosed) (killed : is_killed (e ∷ older) ≡ false) where
  abbrev c : ℕ
  c = b.client

  -- tells the client nothing
  nothing_told : output_of b.client (e ∷ older) ≡ output_of b.client older
  nothing_told =
      (client_kept (done_client b.client (output_of b.client older)) (state older) (told older) e
      (another_comes b.client 0 (state older) e (below l b older legal.0 birth closed, omega arith) legal.2) (covers_all e) legal.2
      (done l b older legal.0 birth closed)).told

  goes_on : (rule e (state older)).state.stopped ≡ false
  goes_on = sym (stopped_after e older) ∙ ((all_books (e ∷ older) legal).killed ∙ killed)

  owned_then : IsOwned (rule e (state older)).state
  owned_then = moves.rule_kept owned_moves e (state older) (told older)
      (begins_owned (state older) (all_owned older legal.0) e (told older) legal.2)

  -- a client that is closing behind the rule is there behind the entry
  stays_then : (y : Client) → (rule e (state older)).state.clients b.client ≡ Some y → y.about.phase ≡ Closing
      → (state (e ∷ older)).clients b.client ≡ Some y
  stays_then y is phase = stays_up b.client y (rule e (state older)).state owned_then is phase (rule e (state older)).state.drawn

  -- which spares it
  stays : Spares b.client e → (a : Client) → (state older).clients b.client ≡ Some a → (state (e ∷ older)).clients b.client ≡ Some a
  stays spares a is =
      let phase = is_closing l b older legal.0 birth closed a is in
      stays_then a (stays_rule b.client a (state older) (all_owned older legal.0) is phase e legal.2 goes_on spares) phase

-- ---- a hand-out
module _ (l : ℕ) (b : Birth) (bytes : List ℕ) (older : History) (legal : IsLegal (Put b.client bytes ∷ older))
    (birth : born l older ≡ Some b)
    (closed : ending_of l older ≡ Some PeerClosed) (killed : is_killed (Put b.client bytes ∷ older) ≡ false)
    (gone : (state (Put b.client bytes ∷ older)).clients b.client ≡ None) (a : Client) (is : (state older).clients b.client ≡ Some a) where
  phase : a.about.phase ≡ Closing
  phase = is_closing l b older legal.0 birth closed a is

  some_due : a.due ≢ []
  some_due = (subst (λ (p : Phase). IsResting p (state older) b.client a) phase ((orderly older legal.0).client b.client a is).rests).1

  may : IsSomeOf bytes (offered (state older).devices a)
  may = subst (λ (o : Option Client). MayPut (state older) o bytes) is legal.2

  put_here : bytes_put b.client (Put b.client bytes ∷ older) ≡ bytes_put b.client older ++ bytes
  put_here = ap (λ (t : Bool). cond t (bytes_put b.client older ++ bytes) (bytes_put b.client older)) (eq-eqb b.client b.client refl)

  rule_is : (d : ℕ) (due : List ℕ) → a.due ≡ d ∷ due
      → (rule (Put b.client bytes) (state older)).state.clients b.client
      ≡ closing_with (drop (length bytes) a.due) (record a { due = drop (length bytes) a.due })
  rule_is d due due_is =
      ap (λ (o : Option Client). (puts_to o b.client (length bytes) (state older)).state.clients b.client) is
      ∙ (ap (λ (x : List ℕ). (then_also (lists_first b.client x a (state older))
      (λ s. takes_of b.client (length bytes) (s.clients b.client) s)).state.clients b.client) due_is
      ∙ (ap (λ (o : Option Client). (takes_of b.client (length bytes) o (state older)).state.clients b.client) is
      ∙ (ap (λ (p : Phase).
      (client_left p (length (drop (length bytes) a.due))
      (to_client b.client (hands (length bytes)) (state older))).state.clients
      b.client) phase
      ∙ (changed_here b.client (hands (length bytes)) (state older).clients a is
      ∙ ap (λ (p : Phase). left_in p (drop (length bytes) a.due) a) phase))))

  put_all : bytes_put b.client (Put b.client bytes ∷ older) ≡ output_of b.client (Put b.client bytes ∷ older)
  put_all = by a.due refl
    where
      whole : (d : ℕ) (due : List ℕ) → a.due ≡ d ∷ due → IsPrefixOf bytes a.due
      whole d due due_is =
          subst (λ (x : List ℕ). IsPrefixOf bytes x)
          (ap (λ (x : List ℕ). due_or x (list_if_stale (state older).devices a.about.mark a.about.long)) due_is ∙ sym due_is) may.front

      rest : (d : ℕ) (due : List ℕ) (due_is : a.due ≡ d ∷ due) (left : List ℕ) → drop (length bytes) a.due ≡ left
          → bytes_put b.client (Put b.client bytes ∷ older) ≡ output_of b.client (Put b.client bytes ∷ older)
      rest d due due_is (k ∷ left) e =
          let row : Client = record (record a { due = drop (length bytes) a.due }) { due = drop (length bytes) a.due } in
          let there : (rule (Put b.client bytes) (state older)).state.clients b.client
          ≡ closing_with (k ∷ left) (record a { due = drop (length bytes) a.due }) =
          rule_is d due due_is ∙ ap (λ (x : List ℕ). closing_with x (record a { due = drop (length bytes) a.due })) e in
          let behind = stays_then l b (Put b.client bytes) older legal birth closed killed _ there refl in
          absurd (let clash = sym gone ∙ behind in cc)
      rest d due due_is [] e =
          let front = whole d due due_is in
          let left : front.0 ≡ [] =
          sym (drop-append_seam bytes front.0) ∙ (ap (drop (length bytes)) front.1 ∙ e) in
          let all : bytes ≡ a.due = sym (append-nil bytes) ∙ (ap (λ (x : List ℕ). bytes ++ x) (sym left) ∙ front.1) in
          put_here
          ∙ (ap (λ (x : List ℕ). bytes_put b.client older ++ x) all
          ∙ (sym (all_due_past_put older legal.0 b.client a is)
          ∙ sym (nothing_told l b (Put b.client bytes) older legal birth closed killed)))

      by : (x : List ℕ) → a.due ≡ x → bytes_put b.client (Put b.client bytes ∷ older) ≡ output_of b.client (Put b.client bytes ∷ older)
      by [] e = absurd (some_due e)
      by (d ∷ due) e = rest d due e (drop (length bytes) a.due) refl

-- ---- the bytes that close it
module _ (l t : ℕ) (bytes : List ℕ) (older : History) (legal : IsLegal (Recv t bytes ∷ older)) (x : Stream)
    (is : ((state older).streams l ≡ Some x) × (x.part.orphan ≡ false) × (x.link ≡ t))
    (closed : ending_in l (told_at (Recv t bytes) older) ≡ Some PeerClosed)
    (gone : (state (Recv t bytes ∷ older)).clients x.client ≡ None) where
  there : LinkThere t (state older)
  there = there_at t l x older legal.0 is

  cut : Cut PacketFormat Packet PacketFault
  cut = cut_packets (record { sums = (there_at t l x older legal.0 is).link.sums }) ((there_at t l x older legal.0 is).link.rest ++ bytes)

  rested : State
  rested = to_link t (with_rest cut.rest) (state older)

  abbrev s : State
  s = to_link t (with_rest cut.rest) (state older)

  first : Here t l x (state older)
  first = here_at t l x older legal.0 is

  here : Here t l x s
  here = record {
    is = is.0;
    alive = is.1;
    on = is.2;
    live = record {
      connected = first.live.connected;
      link = ap is_some (changed_here t (with_rest cut.rest) (state older).links there.link there.is);
      within = first.live.within;
    };
  }

  owned : IsOwned s
  owned = owned_moves.links t (λ (link : Link). record link { rest = cut.rest }) (state older) (told older) (all_owned older legal.0)

  pair : Pair l x (state older)
  pair = pair_of l x (state older) (all_owned older legal.0) is.0 is.1

  le : t ≤ plugged_count older
  le = let drawn = legal.2.1.1 in let same = (tied older legal.0).drawn in omega (arith, drawn, same)

  abbrev treated : Made
  treated = treat_all t cut.given s

  received : receives t bytes (state older) ≡ then_also (treat_all t cut.given s) (faulty t cut.fault)
  unfolding cut there
  received = ap (λ (o : Option Link). receives_on o t bytes (state older)) there.is

  -- it fell by a packet of theirs
  fell : ending_in l treated.told ≡ Some PeerClosed
  unfolding cut there
  fell = go (run t l cut.given x s here)
    where
      ends : RecvEnds t bytes older l x PeerClosed
      ends = recv_ends t l bytes x older legal is PeerClosed closed

      given : ends.cut.given ≡ cut.given
      given = sym ends.brought.given ∙ (brought_cut t bytes older there.link legal.0 there.is).given

      struck : StruckBy l x ends.cut PeerClosed ⊎ (PeerClosed ≡ ClientClosed) → closes_in x.part.remote l cut.given ≡ true
      struck (inl (inl e)) = ap (λ (ps : List Packet). closes_in x.part.remote l ps) (sym given) ∙ e
      struck (inl (inr e)) = absurd (let clash : PeerClosed ≡ Broken = e.0 in cc)
      struck (inr e) = absurd (cc)

      all : option_or (ending_in l treated.told)
          (ending_in l ((faulty t cut.fault treated.state).told ++ (ups (receives t bytes (state older)).state).told))
          ≡ Some PeerClosed
      all =
          sym (ending_append l treated.told ((faulty t cut.fault treated.state).told ++ (ups (receives t bytes (state older)).state).told))
          ∙ (ap (ending_in l)
          (sym (append_assoc treated.told (faulty t cut.fault treated.state).told
          (ups (receives t bytes (state older)).state).told))
          ∙ (ap (λ (m : Made). ending_in l (m.told ++ (ups (receives t bytes (state older)).state).told)) (sym received) ∙ closed))

      go : Run t l x cut.given treated → ending_in l treated.told ≡ Some PeerClosed
      go (inl runs) = absurd (let clash : true ≡ false = sym (struck ends.why) ∙ runs.not_close in cc)
      go (inr struck_down) =
          let both : Some struck_down.ending ≡ Some PeerClosed =
          sym (ap (λ (o : Option Ending). option_or o
          (ending_in l ((faulty t cut.fault treated.state).told
          ++ (ups (receives t bytes (state older)).state).told))) struck_down.told) ∙ all in
          struck_down.told ∙ both

  fallen : Fallen x.client pair.client (told older) treated
  fallen = falls (came_count older) (plugged_count older) t l le cut.given x s (told older) pair.client here owned
      (tied older legal.0).streams pair.here fell

  abbrev so_far : List ℕ
  so_far = owed_to x.client (told older) ++ fallen.out

  other : x.client + 1 ≢ x.client
  other e = omega (arith, e)

  done_rule : IsDone x.client so_far (receives t bytes (state older)).state (told older ++ (receives t bytes (state older)).told)
  done_rule =
      subst (λ (m : Made). IsDone x.client so_far m.state (told older ++ m.told)) (sym received)
      (after_then (IsDone x.client so_far) (told older) treated (faulty t cut.fault) fallen.done
      (λ v now. turns.faulty_kept (serving (done_turns x.client so_far (x.client + 1) other)) treated.state v now
      (treated.state.links t) t cut.fault tt))

  all_told : output_of x.client (Recv t bytes ∷ older) ≡ so_far
  all_told =
      ap (owed_to x.client)
      (sym (append_assoc (told older) (receives t bytes (state older)).told
      (ups (receives t bytes (state older)).state).told))
      ∙ (client_ups (done_client x.client so_far) (receives t bytes (state older)).state
      (told older ++ (receives t bytes (state older)).told) done_rule).told

  close_put : bytes_put x.client (Recv t bytes ∷ older) ≡ output_of x.client (Recv t bytes ∷ older)
  close_put = by fallen.left
    where
      by : (pair.client.due ++ fallen.out ≡ []) ⊎ IsClosing x.client treated.state
          → bytes_put x.client older ≡ output_of x.client (Recv t bytes ∷ older)
      by (inl none) =
          sym (all_told
          ∙ (ap (λ (z : List ℕ). z ++ fallen.out) (all_due_past_put older legal.0 x.client pair.client pair.here)
          ∙ (append_assoc (bytes_put x.client older) pair.client.due fallen.out
          ∙ (ap (λ (z : List ℕ). bytes_put x.client older ++ z) none ∙ append-nil (bytes_put x.client older)))))
      by (inr k) =
          let faulted : (faulty t cut.fault treated.state).state.clients x.client ≡ Some k.row =
          stays_faulty x.client k.row treated.state fallen.done.owned k.is k.phase (treated.state.links t) t cut.fault in
          let ruled : (receives t bytes (state older)).state.clients x.client ≡ Some k.row =
          ap (λ (m : Made). m.state.clients x.client) received ∙ faulted in
          let upped : (state (Recv t bytes ∷ older)).clients x.client ≡ Some k.row =
          stays_up x.client k.row (receives t bytes (state older)).state done_rule.owned ruled k.phase
          (receives t bytes (state older)).state.drawn in
          absurd (let clash : None ≡ Some k.row = sym gone ∙ upped in cc)

-- ---- the entry by which it is closed
module _ (l : ℕ) (b : Birth) (e : Entry) (older : History) (legal : IsLegal (e ∷ older)) (birth : born l (e ∷ older) ≡ Some b)
    (closed : ending_in l (told_at e older) ≡ Some PeerClosed) (gone : (state (e ∷ older)).clients b.client ≡ None) where
  x : EndsAt l e older PeerClosed
  x = ends_at l e older PeerClosed legal closed

  same : x.row.client ≡ b.client
  same =
      let both : Some x.kept.birth ≡ Some b = sym (born_stays l e older x.kept.birth x.kept.is) ∙ birth in
      let one : x.kept.birth ≡ b = cc in
      x.kept.client ∙ ap (λ (a : Birth). a.client) one

  closed_now : bytes_put b.client (e ∷ older) ≡ output_of b.client (e ∷ older)
  closed_now = go e legal closed gone x.why
    where
      go : (e' : Entry) → IsLegal (e' ∷ older) → ending_in l (told_at e' older) ≡ Some PeerClosed
          → (state (e' ∷ older)).clients b.client ≡ None
          → WhyStep e' ((rule e' (state older)).state.stopped ≡ true) x.row.client x.row.link PeerClosed
          → bytes_put b.client (e' ∷ older) ≡ output_of b.client (e' ∷ older)
      go (Recv t bytes) legal' closed' gone' (inl on) =
          subst (λ (c : ℕ). bytes_put c (Recv t bytes ∷ older) ≡ output_of c (Recv t bytes ∷ older)) same
          (close_put l t bytes older legal' x.row (x.is, x.alive, on) closed'
          (ap (state (Recv t bytes ∷ older)).clients same ∙ gone'))
      go (Read n bytes) legal' closed' gone' (inl why) = absurd (let clash : PeerClosed ≡ Stopped = why.0 in cc)
      go (End n cause) legal' closed' gone' (inl why) = absurd (let clash : PeerClosed ≡ ClientFailed cause = why.0 in cc)
      go (Detach t cause) legal' closed' gone' (inl why) = absurd (let clash : PeerClosed ≡ Lost = why.0 in cc)
      go (Join n) legal' closed' gone' (inl why) = absurd why
      go (Enter n port) legal' closed' gone' (inl why) = absurd why
      go (Bound n port) legal' closed' gone' (inl why) = absurd why
      go (Attach t kind serial) legal' closed' gone' (inl why) = absurd why
      go (Put n bytes) legal' closed' gone' (inl why) = absurd why
      go (Send t bytes) legal' closed' gone' (inl why) = absurd why
      go e' legal' closed' gone' (inr why) = absurd (let clash : PeerClosed ≡ ClientClosed = why in cc)

-- ---- all histories
pub all_put : (h : History) → IsLegal h → PutsAllOfClosed h
all_put [] legal l b birth closed failed killed gone = absurd (let clash : None ≡ Some PeerClosed = closed in cc)
all_put (e ∷ older) legal l b birth closed failed killed gone =
    go (ending_of l older) refl (λ was over none.
    all_put older legal.0 l b was over (failed_before b.client e older failed) (killed_before e older legal killed) none)
  where
    split : option_or (ending_of l older) (ending_in l (told_at e older)) ≡ Some PeerClosed
    split = sym (ending_append l (told older) (told_at e older)) ∙ closed

    Before : Type 0
    Before = born l older ≡ Some b → ending_of l older ≡ Some PeerClosed → (state older).clients b.client ≡ None
        → bytes_put b.client older ≡ output_of b.client older

    -- the stream was born before it ended
    was_born : ending_of l older ≡ Some PeerClosed → born l older ≡ Some b
    was_born over = by (born_when l b e older birth)
      where
        by : (born l older ≡ Some b) ⊎ IsBornNow l b e older → born l older ≡ Some b
        by (inl was) = was
        by (inr now) =
            let drawn = (all_births older legal.0).drawn in
            let number = now.number in
            let none : ending_of l older ≡ None = (all_endings older legal.0 l).undrawn (inr (omega (arith, drawn, number))) in
            absurd (let clash : None ≡ Some PeerClosed = sym none ∙ over in cc)

    behind : born l older ≡ Some b → ending_of l older ≡ Some PeerClosed
        → (born l older ≡ Some b → ending_of l older ≡ Some PeerClosed → (state older).clients b.client ≡ None
        → bytes_put b.client older ≡ output_of b.client older)
        → (o : Option Client) → (state older).clients b.client ≡ o → Spares b.client e ⊎ ((bytes : List ℕ) × (e ≡ Put b.client bytes))
        → bytes_put b.client (e ∷ older) ≡ output_of b.client (e ∷ older)
    behind was over before None is (inl spares) =
        put_same b.client e older spares ∙ (before was over is ∙ sym (nothing_told l b e older legal was over killed))
    behind was over before (Some a) is (inl spares) =
        absurd (let clash : None ≡ Some a = sym gone ∙ stays l b e older legal was over killed spares a is in cc)
    behind was over before None is (inr (bytes, put)) =
        absurd (subst (λ (o : Option Client). MayPut (state older) o bytes) is (subst (May (state older)) put legal.2))
    behind was over before (Some a) is (inr (bytes, put)) =
        subst (λ (x : Entry). bytes_put b.client (x ∷ older) ≡ output_of b.client (x ∷ older)) (sym put)
        (put_all l b bytes older (subst (λ (x : Entry). IsLegal (x ∷ older)) put legal) was over
        (subst (λ (x : Entry). is_killed (x ∷ older) ≡ false) put killed)
        (subst (λ (x : Entry). (state (x ∷ older)).clients b.client ≡ None) put gone) a is)

    go : (o : Option Ending) → ending_of l older ≡ o
        → (born l older ≡ Some b → ending_of l older ≡ Some PeerClosed → (state older).clients b.client ≡ None
        → bytes_put b.client older ≡ output_of b.client older)
        → bytes_put b.client (e ∷ older) ≡ output_of b.client (e ∷ older)
    go None is before =
        closed_now l b e older legal birth
        (ap (λ (o : Option Ending). option_or o (ending_in l (told_at e older))) (sym is) ∙ split) gone
    go (Some y) is before =
        let over : ending_of l older ≡ Some PeerClosed =
        is ∙ (ap (λ (o : Option Ending). option_or o (ending_in l (told_at e older))) (sym is) ∙ split) in
        behind (was_born over) over before ((state older).clients b.client) refl (spares_or b.client e older failed)
