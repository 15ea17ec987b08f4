-- A stream and its client after the rule of an entry: by entries of others, and by what its client sends and is handed.
use Rattle.std.proofs.Common.{◌≡◌, ◌≤◌, ◌+◌, ◌-◌, ℕ, zero, suc, Bool, true, cond, ◌&&◌, ◌||◌, List, [], ◌∷◌, ◌++◌, length, drop, Some, refl}
use Rattle.std.proofs.Common.{sym, ap}
use Rattle.std.proofs.Common.{subst, ◌∙◌}
use Rattle.std.proofs.Common.{arith, length-append, append_assoc}
use Rattle.std.specs.Prelude.{nat_eq, is_some}
use Rattle.std.proofs.lemmas.Bool.{eq-eqb}
use Rattle.adb_wire.specs.declared.packets.Packet.{Packet}
use Rattle.adb_stream.specs.declared.flow.Flow.{Flow}
use Rattle.adb_stream.specs.declared.row.Stream.{Stream}
use Rattle.adb_capture.specs.declared.entry.Entry.{Entry}
use Rattle.adb_capture.specs.declared.entry.Entry.TheVariants.{Read, End}
use Rattle.adb_history.specs.Rows.{Client, State}
use Rattle.adb_history.specs.Events.{Made, owed_to}
use Rattle.adb_history.specs.Asking.{Asked}
use Rattle.adb_history.specs.Machine.{rule, History, state, IsLegal}
use Rattle.adb_history.specs.Bytes.{bytes_read, bytes_put, bytes_received, brought}
use Rattle.adb_history.specs.Book.{asked}
use Rattle.adb_history.specs.Births.{Birth, born, opening_in, remote_in, remote_of, since, told_after, told_to, joined, lead_of, handed_to}
use Rattle.adb_history.specs.Births.{carried_in}
use Rattle.adb_history.specs.Lives.{packets_of}
use Rattle.adb_history.specs.Causes.{okays_behind, okays_after, given_to, has_closed_since, is_close_by}
use Rattle.adb_history.specs.Moves.{HasOne}
use Rattle.adb_laws_causes.specs.Flows.{FlowIs, hears, start_of, IsAsTold}
use Rattle.adb_laws_causes.proofs.Silent.{tally_silent}
use Rattle.adb_laws_causes.proofs.Untouched.{Untouched}
use Rattle.adb_laws_causes.proofs.UntouchedEntries.{Pair}
use Rattle.adb_laws_causes.proofs.Middle.{AfterRule}
use Rattle.std.proofs.lemmas.List.{drop-append-le}
use Rattle.adb_outside.specs.declared.kinds.Cause.TheVariants.{Eof}
use Rattle.adb_wire.specs.Cutting.{framed}
use Rattle.adb_stream.specs.declared.flow.Flow.TheVariants.{One, Credit}
use Rattle.adb_history.specs.Rows.{to_client, with_held}
use Rattle.adb_history.specs.Events.{quietly}
use Rattle.adb_history.specs.Orderly.{phase_for}
use Rattle.adb_history.specs.Losing.{input_ended, input_ends, client_ends}
use Rattle.adb_history.specs.Reading.{reads_in, reads_from, reads}
use Rattle.adb_history.proofs.Following.{changed_here}
use Rattle.adb_laws_causes.proofs.Silent.{AreSilent}
use Rattle.adb_laws_causes.proofs.UntouchedEntries.{has_stream}
use Rattle.adb_laws_causes.proofs.Unchanged.{handed_is, asked_same, SameBytes, closed_before}

-- a stream that lives before an entry, as it was born and as it is told
pub record Standing (e : Entry) (older : History) (l : ℕ) (b : Birth) (x : Stream) : Type 0 where
  pub legal : IsLegal (e ∷ older)
  pub born_now : born l older ≡ Some b
  pub pair : Pair l x (state older)
  pub client : x.client ≡ b.client
  pub link : x.link ≡ b.link
  pub remote : remote_of l b older ≡ x.part.remote
  pub holds : IsAsTold older l b x pair.client

module _ (flow : Flow) (credit : Bool) (w h g : ℕ) where
  pub flow_at : (w' h' g' : ℕ) → (w ≡ w') × (h ≡ h') × (g ≡ g') → FlowIs flow credit w h g → FlowIs flow credit w' h' g'
  flow_at w' h' g' e = by flow
    where
      by : (o : Flow) → FlowIs o credit w h g → FlowIs o credit w' h' g'
      by (One window) f = (f.0, omega (arith, e.0, e.1, e.2, f.1))
      by (Credit c) f = (f.0, omega (arith, e.0, e.1, e.2, f.1))

module _ (e : Entry) (older : History) (l : ℕ) (b : Birth) (x : Stream) (t : Standing e older l b x) where
  -- its client
  pub client_here : (state older).clients b.client ≡ Some t.pair.client
  client_here = ap (state older).clients (sym t.client) ∙ t.pair.here

  pub has_one : HasOne t.pair.client.about.phase
  has_one = has_stream t.pair.client.about.phase l x.part.remote t.pair.phase

  pub same_asked : asked b.client (e ∷ older) ≡ asked b.client older
  same_asked = asked_same e b.client t.pair.client older t.legal client_here has_one

  pub same_start : start_of b (e ∷ older) ≡ start_of b older
  same_start = ap (λ (q : Asked). cond b.forwarded 0 (length q.replies)) same_asked

  pub same_lead : lead_of b (e ∷ older) ≡ lead_of b older
  same_lead = ap (λ (q : Asked). cond b.forwarded 0 (length q.replies + 4)) same_asked

  -- ---- where its link brings nothing, and it is handed nothing
  pub record Steady (k : Client) : Type 0 where
    pub owed : owed_to b.client (rule e (state older)).told ≡ []
    pub silent : AreSilent l (rule e (state older)).told
    pub received : bytes_received b.link (e ∷ older) ≡ bytes_received b.link older
    pub put : bytes_put b.client (e ∷ older) ≡ bytes_put b.client older
    pub forwarded : k.about.forwarded ≡ t.pair.client.about.forwarded
    pub head : b.head ≤ length (bytes_read b.client (e ∷ older))
    pub up : carried_in l (packets_of b.link older) ++ k.held ≡ drop b.head (bytes_read b.client (e ∷ older))
    pub closed : k.about.ended ≡ true → has_closed_since l b.client (e ∷ older) ≡ true

  module _ (received : bytes_received b.link (e ∷ older) ≡ bytes_received b.link older) where
    pub same_brought : brought b.link (e ∷ older) ≡ brought b.link older
    same_brought = ap (λ bytes. (framed bytes).given) received

    pub same_written : length (joined (told_to l b (e ∷ older))) ≡ length (joined (told_to l b older))
    same_written = ap (λ ps. length (joined (told_after l (opening_in l (drop b.packets_before ps))))) same_brought

    pub same_okays : okays_after l b (e ∷ older) ≡ okays_after l b older
    same_okays = ap (λ ps. okays_behind l (opening_in l (drop b.packets_before ps))) same_brought

    pub same_remote : remote_of l b (e ∷ older) ≡ x.part.remote
    same_remote = ap (λ ps. remote_in (opening_in l (drop b.packets_before ps))) same_brought ∙ t.remote

    pub same_waits : x.part.remote ≡ 0 → (packets : List Packet) → opening_in l (since b (e ∷ older) ++ packets) ≡ opening_in l packets
    same_waits nil packets = ap (λ ps. opening_in l (drop b.packets_before ps ++ packets)) same_brought ∙ t.holds.waits nil packets

    pub same_before : b.packets_before ≤ length (brought b.link (e ∷ older))
    same_before = (let same : length (brought b.link (e ∷ older)) ≡ length (brought b.link older) = ap length same_brought in omega
        (arith, same, t.holds.before))

  pub steady : (k : Client) → Steady k → AfterRule e older l b x k
  steady k q =
      let none : length (owed_to b.client (rule e (state older)).told) ≡ 0 = ap length q.owed in
      let written = same_written q.received in
      let hears_same : hears x.part.remote b.forwarded (length (joined (told_to l b (e ∷ older))))
      ≡ hears x.part.remote b.forwarded (length (joined (told_to l b older))) = ap (hears x.part.remote b.forwarded) written in
      record {
        credits = 0;
        tally = tally_silent l b.link (rule e (state older)).told q.silent;
        before = same_before q.received;
        waits = same_waits q.received;
        forwarded = q.forwarded ∙ t.holds.forwarded;
        flow = flow_at x.part.flow b.credit (length (joined (told_to l b older))) (length (handed_to l b older)) (given_to l b older)
            (length (joined (told_to l b (e ∷ older)))) (length (handed_to l b (e ∷ older))) (given_to l b older + 0)
            (sym written, sym handed, omega arith) t.holds.flow;
        output = omega (arith, none, hears_same, same_start, t.holds.output);
        head = q.head;
        up = q.up;
        writes = λ one. (let was = t.holds.writes one in omega (arith, was, same_okays q.received));
        exact = λ one timely. (let was = t.holds.exact one timely.0 in omega (arith, was, same_okays q.received));
        closed = q.closed;
      }
    where
      handed : length (handed_to l b (e ∷ older)) ≡ length (handed_to l b older)
      handed =
          handed_is l b (e ∷ older) x.part.remote (same_remote q.received)
          ∙ (ap (λ bytes. cond (nat_eq x.part.remote 0) 0 (length bytes - lead_of b (e ∷ older))) q.put
          ∙ (ap (λ n. cond (nat_eq x.part.remote 0) 0 (length (bytes_put b.client older) - n)) same_lead
          ∙ sym (handed_is l b older x.part.remote t.remote)))

  -- ---- by others
  pub far_after : Untouched l b.client (state older) (rule e (state older)) → SameBytes e older b.client b.link
      → AfterRule e older l b x t.pair.client
  far_after u same = steady t.pair.client (record {
    owed = u.owed;
    silent = u.silent;
    received = same.received;
    put = same.put;
    forwarded = refl;
    head = (let n : length (bytes_read b.client (e ∷ older)) ≡ length (bytes_read b.client older) =
        ap length same.read in omega (arith, n, t.holds.head));
    up = t.holds.up ∙ ap (drop b.head) (sym same.read);
    closed = λ ended. closed_before l b.client e older (t.holds.closed ended);
  })

-- ---- its client sends
pub reads_own : (l c remote : ℕ) (bytes : List ℕ) (k : Client) (s : State) → s.clients c ≡ Some k → k.about.phase ≡ phase_for l remote
    → reads c bytes s ≡ quietly (to_client c (with_held (k.held ++ bytes)) s)
reads_own l c remote bytes k s here phase =
    ap (λ o. reads_from o c bytes s) here ∙ (ap (λ p. reads_in p c bytes k s) phase ∙ go remote)
  where
    go : (n : ℕ) → reads_in (phase_for l n) c bytes k s ≡ quietly (to_client c (with_held (k.held ++ bytes)) s)
    go zero = refl
    go (suc n) = refl

-- its input ends in order
pub ends_own : (l c remote : ℕ) (k : Client) (s : State) → s.clients c ≡ Some k → k.about.phase ≡ phase_for l remote
    → client_ends c Eof (s.clients c) s ≡ quietly (to_client c input_ended s)
ends_own l c remote k s here phase =
    ap (λ o. client_ends c Eof o s) here ∙ (ap (λ p. quietly (input_ends p c s)) phase ∙ go remote)
  where
    go : (n : ℕ) → quietly (input_ends (phase_for l n) c s) ≡ quietly (to_client c input_ended s)
    go zero = refl
    go (suc n) = refl

-- a client after what it sent, and after its end
abbrev pub with_more : List ℕ → Client → Client
with_more bytes k = record k { held = k.held ++ bytes }

abbrev pub with_end : Client → Client
with_end k = record k { about = record k.about { ended = true } }

-- what is left of a state by the client of a stream: its row, and its client anew
pub record Becomes (l : ℕ) (x : Stream) (k : Client) (s : State) : Type 0 where
  pub row : s.streams l ≡ Some x
  pub here : s.clients x.client ≡ Some k

module _ (older : History) (l : ℕ) (b : Birth) (x : Stream) where
  pub read_after : (bytes : List ℕ) (t : Standing (Read b.client bytes) older l b x)
      → AfterRule (Read b.client bytes) older l b x (with_more bytes t.pair.client)
      × Becomes l x (with_more bytes t.pair.client) (rule (Read b.client bytes) (state older)).state
  read_after bytes t =
      let e = Read b.client bytes in
      let k = t.pair.client in
      let here = client_here e older l b x t in
      let made = reads_own l b.client x.part.remote bytes k (state older) here t.pair.phase in
      let more : bytes_read b.client (e ∷ older) ≡ bytes_read b.client older ++ bytes =
      ap (λ c. cond c (bytes_read b.client older ++ bytes) (bytes_read b.client older)) (eq-eqb b.client b.client refl) in (
        steady e older l b x t (with_more bytes k) (record {
          owed = ap (λ (m : Made). owed_to b.client m.told) made;
          silent = subst (λ (m : Made). AreSilent l m.told) (sym made) tt;
          received = refl;
          put = refl;
          forwarded = refl;
          head = (let n : length (bytes_read b.client (e ∷ older)) ≡ length (bytes_read b.client older) + length bytes =
              ap length more ∙ length-append (bytes_read b.client older) bytes in omega (arith, n, t.holds.head));
          up = sym (append_assoc (carried_in l (packets_of b.link older)) k.held bytes)
              ∙ (ap (λ w. w ++ bytes) t.holds.up
              ∙ (sym (drop-append-le b.head (bytes_read b.client older) bytes t.holds.head) ∙ ap (drop b.head) (sym more)));
          closed = λ ended. closed_before l b.client e older (t.holds.closed ended);
        }),
        record {
          row = ap (λ (m : Made). m.state.streams l) made ∙ t.pair.is;
          here = ap (λ (m : Made). m.state.clients x.client) made
              ∙ (ap (to_client b.client (with_held (k.held ++ bytes)) (state older)).clients t.client
              ∙ changed_here b.client (with_held (k.held ++ bytes)) (state older).clients k here);
        },
      )

  pub end_after : (t : Standing (End b.client Eof) older l b x)
      → AfterRule (End b.client Eof) older l b x (with_end t.pair.client)
      × Becomes l x (with_end t.pair.client) (rule (End b.client Eof) (state older)).state
  end_after t =
      let e = End b.client Eof in
      let k = t.pair.client in
      let here = client_here e older l b x t in
      let made = ends_own l b.client x.part.remote k (state older) here t.pair.phase in (
        steady e older l b x t (with_end k) (record {
          owed = ap (λ (m : Made). owed_to b.client m.told) made;
          silent = subst (λ (m : Made). AreSilent l m.told) (sym made) tt;
          received = refl;
          put = refl;
          forwarded = refl;
          head = t.holds.head;
          up = t.holds.up;
          closed = λ ended. ap (λ o. (is_some o && is_close_by b.client e) || has_closed_since l b.client older) t.born_now
              ∙ ap (λ c. (c && true) || has_closed_since l b.client older) (eq-eqb b.client b.client refl);
        }),
        record {
          row = ap (λ (m : Made). m.state.streams l) made ∙ t.pair.is;
          here = ap (λ (m : Made). m.state.clients x.client) made
              ∙ (ap (to_client b.client input_ended (state older)).clients t.client
              ∙ changed_here b.client input_ended (state older).clients k here);
        },
      )
