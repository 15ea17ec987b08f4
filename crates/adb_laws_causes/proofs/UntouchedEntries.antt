-- What each entry of other clients and links leaves of a stream that lives on, and of its client.
use Rattle.std.proofs.Common.{◌≡◌, ◌≢◌, ◌+◌, ℕ, zero, suc, Bool, true, false, cond, List, ◌++◌, length, Option, Some, None, refl, sym, ap}
use Rattle.std.proofs.Common.{subst, ◌∙◌, eqb}
use Rattle.std.proofs.Common.{arith, ◌⊎◌, inl, inr}
use Rattle.std.specs.Prelude.{codes, is_some}
use Rattle.std.proofs.lemmas.Bool.{ne_eqb}
use Rattle.adb_outside.specs.Tables.{at, put_row}
use Rattle.adb_outside.specs.declared.kinds.Cause.{Cause}
use Rattle.adb_outside.specs.declared.kinds.Cause.TheVariants.{Eof, Fault, Starved, NoThread}
use Rattle.adb_forward.specs.declared.row.ForwardRow.{ForwardRow}
use Rattle.adb_stream.specs.Stream.{new_stream}
use Rattle.adb_stream.specs.Flow.{new_flow}
use Rattle.adb_stream.specs.declared.row.Stream.{Stream}
use Rattle.adb_client.specs.declared.phase.Phase.{Phase}
use Rattle.adb_client.specs.declared.phase.Phase.TheVariants.{Asking, Opening, Streaming, Binding, Closing, Gone}
use Rattle.adb_client.specs.declared.about.Want.{Want}
use Rattle.adb_reply.specs.Strings.{failed}
use Rattle.adb_reply.specs.declared.answer.Next.{Next}
use Rattle.adb_reply.specs.declared.answer.Next.TheVariants as what
use Rattle.adb_capture.specs.declared.entry.Entry.{Entry}
use Rattle.adb_capture.specs.declared.entry.Entry.TheVariants.{Join, Enter, Read, End, Bound, Attach, Recv, Detach, Put, Send}
use Rattle.adb_history.specs.Rows.{Client, State, new_client, new_link, with_held, to_client, none_kept, in_phase, with_stream_part}
use Rattle.adb_history.specs.Events.{Made, quietly}
use Rattle.adb_history.specs.Links.{is_connected, is_credit}
use Rattle.adb_history.specs.Clients.{owe_client, closing}
use Rattle.adb_history.specs.Streams.{stream_ids, asks_for, no_ids_left, opens}
use Rattle.adb_history.specs.Losing.{stream_fails, stream_of, input_ended, input_ends, client_ends, orphaned, only_client, stops}
use Rattle.adb_history.specs.Asking.{Asked, asks_with}
use Rattle.adb_history.specs.Reading.{comes, comes_in_vain, enters_by, tracks, awaits, goes_on, asked_before, has_asked, asks, reads_in}
use Rattle.adb_history.specs.Reading.{reads_from}
use Rattle.adb_history.specs.Reading.{bound_for, bound_in, bound_at}
use Rattle.adb_registry.specs.Registry.{attached}
use Rattle.adb_history.specs.Forwarding.{bound_by}
use Rattle.adb_history.specs.Moves.{HasOne, plugged_in}
use Rattle.adb_history.proofs.Following.{changed_other}
use Rattle.adb_laws_causes.proofs.Untouched.{Still, Untouched, Apart, u_then, u_if, u_quiet, u_client, u_owe_client, u_closes_with, u_marks}
use Rattle.adb_history.specs.Machine.{rule, May}
use Rattle.adb_history.specs.Orderly.{phase_for}
use Rattle.adb_history.specs.Owned.{StreamOf, HoldsIn, OwnerIn, IsOwned}
use Rattle.adb_history.proofs.OwnedMoves.{joined_client, client_of}
use Rattle.adb_laws_causes.proofs.RuleFates.{drawn_row}
use Rattle.adb_laws_causes.proofs.UntouchedRules.{Away, OtherIn, far_receives, far_unplugs, far_puts}

-- what is left by a rule that makes no kill
abbrev pub LeftBy : (l c : ℕ) → Made → Type 0
LeftBy l c m = (m.state.stopped ≡ false) ⊎ ((is_some (m.state.streams l) ≡ true) ⊎ (is_some (m.state.clients c) ≡ true))

-- ---- what another client asks
module _ (l c : ℕ) where
  far_opens : (forwarded : Bool) (n t : ℕ) (service : List ℕ) (s : State) → (n ≢ c) × (l ≢ s.drawn + 1)
      → Untouched l c s (opens forwarded n t service s)
  far_opens forwarded n t service s other =
      u_if l c s (eqb s.drawn stream_ids) (no_ids_left forwarded n s) (asks_for (s.drawn + 1) n t service s)
      (λ e. ids forwarded) (λ e. record {
        row = ap (λ b. cond b (Some (new_stream (s.drawn + 1) n t (new_flow (is_credit t s.devices)))) (s.streams l))
            (ne_eqb (s.drawn + 1) l (λ e. other.1 (sym e)));
        client = λ k is has. changed_other n c (in_phase (Opening (s.drawn + 1))) s.clients other.0 ∙ is;
        owed = refl;
        silent = (record { write = refl; credit = refl }, tt);
      })
    where
      ids : (b : Bool) → Untouched l c s (no_ids_left b n s)
      ids true = u_client l c n none_kept s other.0
      ids false = u_closes_with l c n (failed (codes "no stream ids left")).bytes s other.0

  far_goes_on : (next : Option Next) (n : ℕ) (s : State) → (n ≢ c) × (l ≢ s.drawn + 1) → LeftBy l c (goes_on next n s)
      → Untouched l c s (goes_on next n s)
  far_goes_on None n s other on = u_quiet l c s
  far_goes_on (Some what.Close) n s other on = u_client l c n closing s other.0
  far_goes_on (Some (what.Select id)) n s other on = u_quiet l c s
  far_goes_on (Some (what.Track long)) n s other on = u_client l c n (tracks long) s other.0
  far_goes_on (Some (what.Open t service)) n s other on = far_opens false n t service s other
  far_goes_on (Some (what.Bind transport local remote chosen)) n s other on =
      u_client l c n (awaits (record { transport = transport; local = local; remote = remote })) s other.0
  far_goes_on (Some what.Stop) n s other on = absurd (gone on)
    where
      gone : LeftBy l c (stops n s) → ⊥
      gone (inl on) = let clash : true ≡ false = on in cc
      gone (inr (inl some)) = let clash : false ≡ true = some in cc
      gone (inr (inr some)) =
          let none : (stops n s).state.clients c ≡ None =
          changed_other n c closing (only_client n s.clients) other.0 ∙ ap (λ b. cond b (s.clients c) None) (ne_eqb n c other.0) in
          let clash : false ≡ true = sym (ap is_some none) ∙ some in
          cc
  far_goes_on _ n s other on =
      record { row = refl; client = λ k is has. changed_other n c closing s.clients other.0 ∙ is; owed = refl; silent = tt }

  far_asks : (q : Asked) (n : ℕ) (s : State) → (n ≢ c) × (l ≢ s.drawn + 1) → LeftBy l c (asks q n s) → Untouched l c s (asks q n s)
  far_asks q n s other on =
      let now = to_client n (has_asked q) s in
      let owed = owe_client n q.replies now in
      let first = u_client l c n (has_asked q) s other.0 in
      let told = u_owe_client l c n q.replies now other.0 in
      u_then l c s owed (goes_on q.next n)
      (record { row = refl; client = λ k is has. told.client k (first.client k is has) has; owed = told.owed; silent = tt })
      (far_goes_on q.next n owed.state other on)

  far_reads_in : (phase : Phase) (n : ℕ) (bytes : List ℕ) (client : Client) (s : State) → (n ≢ c) × (l ≢ s.drawn + 1)
      → LeftBy l c (reads_in phase n bytes client s) → Untouched l c s (reads_in phase n bytes client s)
  far_reads_in Asking n bytes client s other on = far_asks (asks_with s.devices s.forwards bytes (asked_before client)) n s other on
  far_reads_in (Opening k) n bytes client s other on = u_client l c n (with_held (client.held ++ bytes)) s other.0
  far_reads_in (Streaming k) n bytes client s other on = u_client l c n (with_held (client.held ++ bytes)) s other.0
  far_reads_in _ n bytes client s other on = u_quiet l c s

  far_reads : (o : Option Client) (n : ℕ) (bytes : List ℕ) (s : State) → (n ≢ c) × (l ≢ s.drawn + 1)
      → LeftBy l c (reads_from o n bytes s) → Untouched l c s (reads_from o n bytes s)
  far_reads None n bytes s other on = u_quiet l c s
  far_reads (Some client) n bytes s other on = far_reads_in client.about.phase n bytes client s other on

  far_enters : (n : ℕ) (o : Option ForwardRow) (s : State) → (n ≢ c) × (l ≢ s.drawn + 1) → Untouched l c s (enters_by n o s)
  far_enters n None s other = record { row = refl; client = λ k is has. is; owed = refl; silent = tt }
  far_enters n (Some row) s other =
      u_if l c s (is_connected row.transport s.devices) (opens true n row.transport row.remote (comes true n s)) (quietly (comes_in_vain s))
      (λ e. (let opened = far_opens true n row.transport row.remote (comes true n s) other in
      record { row = opened.row; client = λ k is has. opened.client k (came k is) has; owed = opened.owed; silent = opened.silent }))
      (λ e. record { row = refl; client = λ k is has. is; owed = refl; silent = tt })
    where
      came : (k : Client) → s.clients c ≡ Some k → (comes true n s).clients c ≡ Some k
      came k is = ap (λ b. cond b (Some (new_client true n)) (s.clients c)) (ne_eqb n c other.0) ∙ is

  -- ---- another client's listener, and its end
  far_bound : (o : Option Client) (n port : ℕ) (s : State) → s.clients n ≡ o → ((k : Client) → s.clients c ≡ Some k → Still k.about.phase)
      → is_some (s.clients c) ≡ true → Untouched l c s (bound_at o n port s)
  far_bound None n port s is has some = u_quiet l c s
  far_bound (Some k) n port s is has some = go k.about.phase refl
    where
      apart : k.about.phase ≡ Binding → n ≢ c
      apart e same = subst Still e (has k (ap s.clients (sym same) ∙ is))

      wanted : (want : Option Want) → k.about.phase ≡ Binding → Untouched l c s (bound_for want n port s)
      wanted None e = u_quiet l c s
      wanted (Some want) e =
          let b = bound_by want port s.devices s.forwards in
          let closed = u_closes_with l c n b.reply (record s { forwards = b.forwards }) (apart e) in
          record { row = closed.row; client = closed.client; owed = closed.owed; silent = closed.silent }

      go : (phase : Phase) → k.about.phase ≡ phase → Untouched l c s (bound_in phase k.about.want n port s)
      go Binding e = wanted k.about.want e
      go _ e = u_quiet l c s

  far_fails : (phase : Phase) (n : ℕ) (cause : Cause) (s : State) → (n ≢ c) × OtherIn l phase
      → Untouched l c s (stream_fails phase cause (stream_of phase s.streams) (to_client n none_kept s))
  far_fails (Streaming k) n cause s other = go (s.streams k)
    where
      go : (o : Option Stream) → Untouched l c s (stream_fails (Streaming k) cause o (to_client n none_kept s))
      go None = u_client l c n none_kept s other.0
      go (Some z) = record {
        row = changed_other k l none_kept s.streams other.1;
        client = λ x is has. changed_other n c none_kept s.clients other.0 ∙ is;
        owed = refl;
        silent = (record { write = refl; credit = refl }, tt);
      }
  far_fails (Opening k) n cause s other = go (s.streams k)
    where
      go : (o : Option Stream) → Untouched l c s (stream_fails (Opening k) cause o (to_client n none_kept s))
      go None = u_client l c n none_kept s other.0
      go (Some z) = record {
        row = changed_other k l (with_stream_part (orphaned z.part)) s.streams other.1;
        client = λ x is has. changed_other n c none_kept s.clients other.0 ∙ is;
        owed = refl;
        silent = tt;
      }
  far_fails _ n cause s other = u_client l c n none_kept s other.0

  far_input : (phase : Phase) (n : ℕ) (s : State) → n ≢ c → Untouched l c s (quietly (input_ends phase n s))
  far_input (Opening k) n s other = u_client l c n input_ended s other
  far_input (Streaming k) n s other = u_client l c n input_ended s other
  far_input Closing n s other = u_quiet l c s
  far_input Gone n s other = u_quiet l c s
  far_input _ n s other = u_client l c n closing s other

  far_ends : (n : ℕ) (cause : Cause) (o : Option Client) (s : State) → n ≢ c → ((k : Client) → o ≡ Some k → OtherIn l k.about.phase)
      → Untouched l c s (client_ends n cause o s)
  far_ends n cause None s other apart = u_quiet l c s
  far_ends n Eof (Some k) s other apart = far_input k.about.phase n s other
  far_ends n Fault (Some k) s other apart = far_fails k.about.phase n Fault s (other, apart k refl)
  far_ends n Starved (Some k) s other apart = far_fails k.about.phase n Starved s (other, apart k refl)
  far_ends n NoThread (Some k) s other apart = far_fails k.about.phase n NoThread s (other, apart k refl)

-- ---- a stream and its client
-- a stream that lives, and its client
pub record Pair (l : ℕ) (x : Stream) (s : State) : Type 0 where
  pub is : s.streams l ≡ Some x
  pub alive : x.part.orphan ≡ false
  pub client : Client
  pub here : s.clients x.client ≡ Some client
  pub phase : client.about.phase ≡ phase_for l x.part.remote

pub has_stream : (phase : Phase) (l remote : ℕ) → phase ≡ phase_for l remote → HasOne phase
has_stream phase l zero e = subst HasOne (sym e) tt
has_stream phase l (suc n) e = subst HasOne (sym e) tt

pub has_still : (phase : Phase) (l remote : ℕ) → phase ≡ phase_for l remote → Still phase
has_still phase l zero e = subst Still (sym e) tt
has_still phase l (suc n) e = subst Still (sym e) tt

pub pair_of : (l : ℕ) (x : Stream) (s : State) → IsOwned s → s.streams l ≡ Some x → x.part.orphan ≡ false → Pair l x s
pair_of l x s h is alive =
    let k = client_of s l x is alive h in
    record { is = is; alive = alive; client = k.client; here = k.is; phase = k.phase }

-- a phase has one stream
one_phase : (l n remote : ℕ) (phase : Phase) → phase ≡ phase_for l remote → (phase ≡ Streaming n) ⊎ (phase ≡ Opening n) → n ≡ l
one_phase l n zero phase e (inl f) = absurd (let clash : Opening l ≡ Streaming n = sym e ∙ f in cc)
one_phase l n zero phase e (inr f) = let same : Opening l ≡ Opening n = sym e ∙ f in cc
one_phase l n (suc k) phase e (inl f) = let same : Streaming l ≡ Streaming n = sym e ∙ f in cc
one_phase l n (suc k) phase e (inr f) = absurd (let clash : Streaming l ≡ Opening n = sym e ∙ f in cc)

phase_kind : (l remote : ℕ) → (phase_for l remote ≡ Streaming l) ⊎ (phase_for l remote ≡ Opening l)
phase_kind l zero = inr refl
phase_kind l (suc n) = inl refl

kind_of : (l remote : ℕ) (phase : Phase) → phase ≡ phase_for l remote → (phase ≡ Streaming l) ⊎ (phase ≡ Opening l)
kind_of l remote phase e = go (phase_kind l remote)
  where
    go : (phase_for l remote ≡ Streaming l) ⊎ (phase_for l remote ≡ Opening l) → (phase ≡ Streaming l) ⊎ (phase ≡ Opening l)
    go (inl f) = inl (e ∙ f)
    go (inr f) = inr (e ∙ f)

-- no other stream is of its client
pub pair_apart : (l : ℕ) (x : Stream) (s : State) → IsOwned s → Pair l x s → Apart l x.client s
pair_apart l x s h p = record { alone = λ n z is other same. go n z is other same z.part.orphan refl }
  where
    go : (n : ℕ) (z : Stream) → s.streams n ≡ Some z → n ≢ l → z.client ≡ x.client → (b : Bool) → z.part.orphan ≡ b → ⊥
    go n z is other same true e =
        let owner : OwnerIn true s.clients n z = subst (λ (b : Bool). OwnerIn b s.clients n z) e (h.owned.stream n z is).owner in
        let clash : None ≡ Some p.client = sym owner.1 ∙ (ap s.clients same ∙ p.here) in
        cc
    go n z is other same false e =
        let k = client_of s n z is e h in
        let row : k.client ≡ p.client = (let both : Some k.client ≡ Some p.client = sym k.is ∙ (ap s.clients same ∙ p.here) in cc) in
        other (one_phase l n x.part.remote p.client.about.phase p.phase
        (kind_of n z.part.remote p.client.about.phase (ap (λ (y : Client). y.about.phase) (sym row) ∙ k.phase)))

module _ (l n : ℕ) (x : Stream) where
  -- the stream of another client is another one
  pub other_in : (s : State) → IsOwned s → Pair l x s → n ≢ x.client → (k : Client) → s.clients n ≡ Some k → OtherIn l k.about.phase
  other_in s h p other k is = go k.about.phase (h.owned.client n k is).holds
    where
      none : (m : ℕ) → StreamOf s.streams n m → m ≢ l
      none m own same =
          let row : own.stream ≡ x = (let both : Some own.stream ≡ Some x = sym own.is ∙ (ap s.streams same ∙ p.is) in cc) in
          other (sym own.client ∙ ap (λ (z : Stream). z.client) row)

      go : (phase : Phase) → HoldsIn phase s.streams n k → OtherIn l phase
      go (Opening m) holds = none m holds
      go (Streaming m) holds = none m holds
      go _ holds = tt

-- ---- entries
-- an entry of another client and another link than these
abbrev pub IsFar : (c t : ℕ) → Entry → Type 0
IsFar c t (Read n bytes) = n ≢ c
IsFar c t (End n cause) = n ≢ c
IsFar c t (Put n bytes) = n ≢ c
IsFar c t (Recv k bytes) = k ≢ t
IsFar c t (Detach k cause) = k ≢ t
IsFar c t _ = Unit {0}

module _ (l : ℕ) (x : Stream) (s : State) (h : IsOwned s) (p : Pair l x s) where
  pub pair_away : (k : ℕ) → k ≢ x.link → Away l x.client k s
  pair_away k other = record {
    apart = pair_apart l x s h p;
    link = λ y is same. other
        (let row : x ≡ y = (let both : Some x ≡ Some y = sym p.is ∙ is in cc) in sym same
        ∙ ap (λ (z : Stream). z.link) (sym row));
  }

  pub not_next : l ≢ s.drawn + 1
  not_next e = omega (arith, e, (drawn_row s.drawn l s.streams h.rows.streams x p.is).1)

  -- who comes is another client
  comes_apart : (n : ℕ) → n ≡ s.joined + 1 → n ≢ x.client
  comes_apart n next same = omega (arith, next, same, joined_client s x.client p.client h.rows p.here)

  has_one : (k : Client) → s.clients x.client ≡ Some k → Still k.about.phase
  has_one k is =
      let row : p.client ≡ k = (let both : Some p.client ≡ Some k = sym p.here ∙ is in cc) in
      subst (λ (y : Client). Still y.about.phase) row (has_still p.client.about.phase l x.part.remote p.phase)

  -- a stream that lives on is not touched by what is not its own
  pub far_rule : (e : Entry) → May s e → IsFar x.client x.link e → is_some ((rule e s).state.streams l) ≡ true
      → Untouched l x.client s (rule e s)
  far_rule (Join n) may far on = record {
    row = refl;
    client = λ k is has. ap (λ b. cond b (Some (new_client false n)) (s.clients x.client)) (ne_eqb n x.client (comes_apart n may.1)) ∙ is;
    owed = refl;
    silent = tt;
  }
  far_rule (Enter n port) may far on = far_enters l x.client n (at port s.forwards) s (comes_apart n may.1, not_next)
  far_rule (Read n bytes) may far on = far_reads l x.client (s.clients n) n bytes s (far, not_next) (inr (inl on))
  far_rule (End n cause) may far on = far_ends l x.client n cause (s.clients n) s far (λ k is. other_in l n x s h p far k is)
  far_rule (Bound n port) may far on = far_bound l x.client (s.clients n) n port s refl has_one (ap is_some p.here)
  far_rule (Attach k kind serial) may far on =
      let plugged = plugged_in k kind serial s in
      let marks = u_marks l x.client (record s { devices = attached kind serial s.devices; links = put_row k (Some new_link) s.links }) in
      record { row = refl; client = marks.client; owed = refl; silent = (record { write = refl; credit = refl }, tt) }
  far_rule (Recv k bytes) may far on = far_receives l x.client k bytes s (pair_away k far)
  far_rule (Detach k cause) may far on = far_unplugs l x.client k s (pair_away k far) (s.links k)
  far_rule (Put n bytes) may far on = far_puts l x.client n far (s.clients n) (length bytes) s refl (λ k is. other_in l n x s h p far k is)
  far_rule (Send k bytes) may far on = record { row = refl; client = λ k is has. is; owed = refl; silent = tt }

-- ---- a client with no stream
-- it asks, or it is closing
abbrev pub Idle : Phase → Type 0
Idle Asking = Unit {0}
Idle Closing = Unit {0}
Idle _ = ⊥

idle_still : (phase : Phase) → Idle phase → Still phase
idle_still Asking idle = tt
idle_still Closing idle = tt
idle_still _ idle = absurd idle

-- no stream is of it
pub idle_apart : (c : ℕ) (k : Client) (s : State) → IsOwned s → s.clients c ≡ Some k → Idle k.about.phase → Apart 0 c s
idle_apart c k s h here idle = record { alone = λ n z is other same. go n z is same z.part.orphan refl }
  where
    never : (n remote : ℕ) → k.about.phase ≡ phase_for n remote → ⊥
    never n zero e = subst Idle e idle
    never n (suc m) e = subst Idle e idle

    go : (n : ℕ) (z : Stream) → s.streams n ≡ Some z → z.client ≡ c → (b : Bool) → z.part.orphan ≡ b → ⊥
    go n z is same true e =
        let owner : OwnerIn true s.clients n z = subst (λ (b : Bool). OwnerIn b s.clients n z) e (h.owned.stream n z is).owner in
        let clash : None ≡ Some k = sym owner.1 ∙ (ap s.clients same ∙ here) in
        cc
    go n z is same false e =
        let own = client_of s n z is e h in
        let row : own.client ≡ k = (let both : Some own.client ≡ Some k = sym own.is ∙ (ap s.clients same ∙ here) in cc) in
        never n z.part.remote (ap (λ (y : Client). y.about.phase) (sym row) ∙ own.phase)

-- an entry of others than a client
abbrev pub IsOthers : ℕ → Entry → Type 0
IsOthers c (Read n bytes) = n ≢ c
IsOthers c (End n cause) = n ≢ c
IsOthers c (Put n bytes) = n ≢ c
IsOthers c _ = Unit {0}

module _ (c : ℕ) (k : Client) (s : State) (h : IsOwned s) (here : s.clients c ≡ Some k) (idle : Idle k.about.phase) where
  no_zero : (y : Stream) → s.streams 0 ≡ Some y → ⊥
  no_zero y is = let clash : None ≡ Some y = sym h.rows.streams.zero ∙ is in cc

  pub idle_away : (t : ℕ) → Away 0 c t s
  idle_away t = record { apart = idle_apart c k s h here idle; link = λ y is same. no_zero y is }

  later : (n : ℕ) → n ≡ s.joined + 1 → n ≢ c
  later n next same = omega (arith, next, same, joined_client s c k h.rows here)

  drawn_later : 0 ≢ s.drawn + 1
  drawn_later e = omega (arith, e)

  its_phase : (y : Client) → s.clients c ≡ Some y → Still y.about.phase
  its_phase y is =
      let row : k ≡ y = (let both : Some k ≡ Some y = sym here ∙ is in cc) in
      subst (λ (z : Client). Still z.about.phase) row (idle_still k.about.phase idle)

  -- no stream is the one of number 0
  other_zero : (n : ℕ) (y : Client) → s.clients n ≡ Some y → OtherIn 0 y.about.phase
  other_zero n y is = go y.about.phase (h.owned.client n y is).holds
    where
      none : (m : ℕ) → StreamOf s.streams n m → m ≢ 0
      none m own same = no_zero own.stream (ap s.streams (sym same) ∙ own.is)

      go : (phase : Phase) → HoldsIn phase s.streams n y → OtherIn 0 phase
      go (Opening m) holds = none m holds
      go (Streaming m) holds = none m holds
      go _ holds = tt

  -- it stays as it is where no kill was made
  pub idle_rule : (e : Entry) → May s e → IsOthers c e → LeftBy 0 c (rule e s) → Untouched 0 c s (rule e s)
  idle_rule (Join n) may far on = record {
    row = refl;
    client = λ y is has. ap (λ b. cond b (Some (new_client false n)) (s.clients c)) (ne_eqb n c (later n may.1)) ∙ is;
    owed = refl;
    silent = tt;
  }
  idle_rule (Enter n port) may far on = far_enters 0 c n (at port s.forwards) s (later n may.1, drawn_later)
  idle_rule (Read n bytes) may far on = far_reads 0 c (s.clients n) n bytes s (far, drawn_later) on
  idle_rule (End n cause) may far on = far_ends 0 c n cause (s.clients n) s far (λ y is. other_zero n y is)
  idle_rule (Bound n port) may far on = far_bound 0 c (s.clients n) n port s refl its_phase (ap is_some here)
  idle_rule (Attach t kind serial) may far on =
      let marks = u_marks 0 c (record s { devices = attached kind serial s.devices; links = put_row t (Some new_link) s.links }) in
      record { row = refl; client = marks.client; owed = refl; silent = (record { write = refl; credit = refl }, tt) }
  idle_rule (Recv t bytes) may far on = far_receives 0 c t bytes s (idle_away t)
  idle_rule (Detach t cause) may far on = far_unplugs 0 c t s (idle_away t) (s.links t)
  idle_rule (Put n bytes) may far on = far_puts 0 c n far (s.clients n) (length bytes) s refl (λ y is. other_zero n y is)
  idle_rule (Send t bytes) may far on = record { row = refl; client = λ y is has. is; owed = refl; silent = tt }
