-- What the rules of a packet make of the rows, and of the devices of the streams that are still there.
use Rattle.std.proofs.Common.{ℕ, ◌+◌, ◌≡◌, ◌≤◌, arith, Bool, true, false, cond, not, ◌&&◌, ◌||◌, zero, suc, List, [], ◌∷◌, ◌++◌, length}
use Rattle.std.proofs.Common.{min, Option, Some, None, refl, sym}
use Rattle.std.proofs.Common.{◌∙◌, ap, subst, eqb}
use Rattle.std.specs.Prelude.{codes, nat_eq, nat_lt, unwrap_or}
use Rattle.std.proofs.lemmas.Bool.{eqb-true}
use Rattle.adb_outside.specs.Tables.{at}
use Rattle.adb_outside.proofs.TableLaws.{puts_without}
use Rattle.adb_outside.specs.declared.identity.Identity.{Identity}
use Rattle.adb_outside.specs.declared.identity.State.{State as DeviceState}
use Rattle.adb_outside.specs.declared.identity.State.TheVariants.{Offline}
use Rattle.adb_banner.specs.Banner.{identity_of}
use Rattle.adb_registry.specs.Row.{online_row, unauthorized_row}
use Rattle.adb_registry.specs.Registry.{changed}
use Rattle.adb_registry.specs.declared.row.Row.{Row}
use Rattle.adb_wire.specs.declared.limits.TheConstants.{VERSION}
use Rattle.adb_wire.specs.declared.headers.TheConstants.{MAX_PAYLOAD}
use Rattle.adb_stream.specs.declared.flow.Flow.{Flow}
use Rattle.adb_stream.specs.declared.flow.Flow.TheVariants.{One, Credit}
use Rattle.adb_stream.specs.declared.row.Part.{Part}
use Rattle.adb_stream.specs.declared.row.Stream.{Stream}
use Rattle.adb_stream.specs.Flow.{is_idle, first_credit, acknowledged, is_out_of_turn, accepted, has_credit}
use Rattle.adb_client.specs.declared.phase.Phase.{Phase}
use Rattle.adb_client.specs.declared.phase.Phase.TheVariants.{Opening, Streaming}
use Rattle.adb_reply.specs.Strings.{failed}
use Rattle.adb_history.specs.Rows.{Client, State, to_stream, none_kept, with_due, with_stream_part}
use Rattle.adb_history.specs.Events.{Made, quietly}
use Rattle.adb_history.specs.declared.ending.Ending.{Ending}
use Rattle.adb_history.specs.declared.ending.Ending.TheVariants.{Lost, Broken, OutOfTurn, PeerClosed}
use Rattle.adb_history.specs.Links.{close_packet, owe_link, is_connected, is_connected_row, is_connected_state}
use Rattle.adb_history.specs.Clients.{owe_client, closes}
use Rattle.adb_history.specs.Streams.{loses, client_loses, ends_row, ends_telling, ends_if_of, ends_of, all_end}
use Rattle.adb_history.specs.Flow.{is_over, with_flow}
use Rattle.adb_history.specs.Losing.{forgets, link_ends}
use Rattle.adb_history.specs.Packets.{least_version, least_maxdata, streams_end_first, goes_online, connects, cnxn, unauthorized_from}
use Rattle.adb_history.specs.Packets.{unauthorized}
use Rattle.adb_history.specs.Packets.{refuses_open, at_stream, with_remote, hears_okay, opened, orphan_opened, okay_open}
use Rattle.adb_history.specs.Packets.{okay_first, takes_okay, accepts_none, accepts, takes_write, takes_close}
use Rattle.adb_history.specs.Orderly.{phase_for}
use Rattle.adb_history.specs.Owned.{OwnerIn}
use Rattle.adb_history.specs.Linked.{OnLink, IsLinked}
use Rattle.adb_history.proofs.Following.{changed_here}
use Rattle.adb_history.proofs.Numbers.{drawn_plain}
use Rattle.adb_history.proofs.OwnedStep.{ends_state, client_loses_frame}
use Rattle.adb_history.proofs.Linking.{changed_other_at}
use Rattle.adb_history.proofs.LinkMoves.{IsCleared, all_cleared, first_cleared, credit_first, credit_accepted}
use Rattle.adb_history.proofs.PacketMoves.{hears_streams}
use Rattle.adb_hub_tables.specs.Tracked.{IsAmong}
use Rattle.adb_laws_resting.specs.Named.{credit_to_send, no_credit}
use Rattle.adb_laws_resting.proofs.NamedRows.{kept_of, LetsSame, Follows, AllWere, all_same, all_then, more_then, none_before, none_behind}
use Rattle.adb_laws_resting.proofs.NamedRows.{all_within}
use Rattle.adb_laws_resting.proofs.NamedRows.{owes_were, closes_were, opens_were, marks_were, goes_were, parts_were}

-- ---- flows
credit_acknowledged : (word : Option ℕ) (flow : Flow) → has_credit (acknowledged word flow) ≡ has_credit flow
credit_acknowledged word (One window) = refl
credit_acknowledged None (Credit credit) = refl
credit_acknowledged (Some n) (Credit credit) = refl

same_over : (old now : Flow) → is_idle now ≡ is_idle old → (ended : Bool) (held : List ℕ) → is_over ended held now ≡ is_over ended held old
same_over old now same ended [] = ap (λ b. ended && b) same
same_over old now same ended (b ∷ held) = refl

-- credit is given by an OKAY
more_first : (word : Option ℕ) (flow : Flow) → credit_to_send (first_credit word flow) ≤ credit_to_send flow + unwrap_or word 0
more_first word (One window) = omega arith
more_first word (Credit credit) = omega arith

more_acknowledged : (word : Option ℕ) (flow : Flow) → credit_to_send (acknowledged word flow) ≤ credit_to_send flow + unwrap_or word 0
more_acknowledged word (One window) = omega arith
more_acknowledged None (Credit credit) = omega arith
more_acknowledged (Some n) (Credit credit) = omega arith

more_accepted : (n : ℕ) (flow : Flow) → credit_to_send (accepted n flow) ≤ credit_to_send flow + 0
more_accepted n (One window) = omega arith
more_accepted n (Credit credit) = omega arith

-- what was accepted changes nothing of what may go up
lets_accepted : (n : ℕ) (flow : Flow) → LetsSame flow (accepted n flow)
lets_accepted n (One window) = record { payloads = λ maxdata held. refl; over = same_over (One window) (accepted n (One window)) refl }
lets_accepted n (Credit credit) =
    record { payloads = λ maxdata held. refl; over = same_over (Credit credit) (accepted n (Credit credit)) refl }

module _ (ids : List ℕ) where
  abbrev pub Were : State → State → Type 0
  Were s now = AllWere ids no_credit (kept_of s) (kept_of now)

  -- The rows were there before, the streams with so much credit more at most, and of the streams that are still there
  -- the devices are as they were.
  pub record PassesWith (more : ℕ → ℕ) (s now : State) : Type 0 where
    pub rows : AllWere ids more (kept_of s) (kept_of now)
    pub devices : (l : ℕ) (stream : Stream) → now.streams l ≡ Some stream → at stream.link now.devices.rows ≡ at stream.link s.devices.rows

  -- No credit was given.
  abbrev pub Passes : State → State → Type 0
  Passes s now = PassesWith no_credit s now

  pub passes_plain : {more : ℕ → ℕ} (s now : State) → now.devices ≡ s.devices
      → AllWere ids more (kept_of s) (kept_of now) → PassesWith more s now
  passes_plain s now same rows = record { rows = rows; devices = λ l stream is. ap (λ devices. at stream.link devices.rows) same }

  pub passes_same : {more : ℕ → ℕ} (s : State) → PassesWith more s s
  passes_same s = passes_plain s s refl (all_same ids (kept_of s))

  pub more_passes : {m n : ℕ → ℕ} (a b c : State) → PassesWith m a b → PassesWith n b c → PassesWith (λ l. m l + n l) a c
  more_passes a b c h k = record {
    rows = more_then ids (kept_of a) (kept_of b) (kept_of c) h.rows k.rows;
    devices = λ l stream is.
        let was = k.rows.streams l stream is in
        k.devices l stream is
        ∙ subst (λ (t : ℕ). at t b.devices.rows ≡ at t a.devices.rows) (sym was.link) (h.devices l was.old was.is);
  }

  -- no credit before some, or behind it
  pub passes_before : {more : ℕ → ℕ} (a b c : State) → Passes a b → PassesWith more b c → PassesWith more a c
  passes_before {more} a b c h k =
      let both : PassesWith (λ l. 0 + more l) a c = more_passes a b c h k in
      record { rows = none_before ids (kept_of a) (kept_of b) (kept_of c) h.rows k.rows; devices = both.devices }

  pub passes_behind : {more : ℕ → ℕ} (a b c : State) → PassesWith more a b → Passes b c → PassesWith more a c
  passes_behind {more} a b c h k =
      let both : PassesWith (λ l. more l + 0) a c = more_passes a b c h k in
      record { rows = none_behind ids (kept_of a) (kept_of b) (kept_of c) h.rows k.rows; devices = both.devices }

  -- where no credit was given, no more was than any
  pub passes_within : {more : ℕ → ℕ} (s now : State) → Passes s now → PassesWith more s now
  passes_within s now h = record { rows = all_within ids (kept_of s) (kept_of now) h.rows; devices = h.devices }

  pub passes_if : {more : ℕ → ℕ} (s : State) (b : Bool) (m n : Made) → (b ≡ true → PassesWith more s m.state)
      → (b ≡ false → PassesWith more s n.state)
      → PassesWith more s (cond b m n).state
  passes_if s true m n one other = one refl
  passes_if s false m n one other = other refl

  -- ---- flows
  follows_accepted : (l n : ℕ) (flow : Flow) → Follows ids l 0 flow (accepted n flow)
  follows_accepted l n flow = record { credit = credit_accepted n flow; most = more_accepted n flow; lets = λ none. lets_accepted n flow }

  follows_first : (l : ℕ) {more : ℕ} (word : Option ℕ) (flow : Flow) → IsAmong l ids → unwrap_or word 0 ≤ more
      → Follows ids l more flow (first_credit word flow)
  follows_first l word flow named enough =
      record { credit = credit_first word flow; most = omega (arith, more_first word flow, enough); lets = λ none. absurd (none named) }

  follows_acknowledged : (l : ℕ) {more : ℕ} (word : Option ℕ) (flow : Flow) → IsAmong l ids → unwrap_or word 0 ≤ more
      → Follows ids l more flow (acknowledged word flow)
  follows_acknowledged l word flow named enough =
      record {
        credit = credit_acknowledged word flow;
        most =
            omega (arith, more_acknowledged word flow, enough);
        lets = λ none. absurd (none named);
      }

  -- ---- a stream ends
  loses_were : (forwarded : Bool) (phase : Phase) (c : ℕ) (s : State) → Were s (loses forwarded phase c s).state
  loses_were forwarded (Streaming l) c s = closes_were ids c (kept_of s)
  loses_were true (Opening l) c s = closes_were ids c (kept_of s)
  loses_were false (Opening l) c s =
      let owed : State = (owe_client c (failed (codes "closed")).bytes s).state in
      all_then ids (kept_of s) (kept_of owed) (kept_of (closes c owed)) (owes_were ids c (failed (codes "closed")).bytes (kept_of s))
      (closes_were ids c (kept_of owed))
  loses_were true _ c s = all_same ids (kept_of s)
  loses_were false _ c s = all_same ids (kept_of s)

  client_loses_were : (o : Option Client) (c : ℕ) (s : State) → Were s (client_loses o c s).state
  client_loses_were None c s = all_same ids (kept_of s)
  client_loses_were (Some client) c s = loses_were client.about.forwarded client.about.phase c s

  ends_row_were : (l : ℕ) (ending : Ending) (stream : Stream) (s : State) → Were s (ends_row l ending stream s).state
  ends_row_were l ending stream s =
      let gone : State = to_stream l none_kept s in
      let now : State = (client_loses (s.clients stream.client) stream.client gone).state in
      subst (λ (x : State). AllWere ids no_credit (kept_of s) (kept_of x)) (sym (ends_state l ending stream s))
      (all_then ids (kept_of s) (kept_of gone) (kept_of now) (goes_were ids l (kept_of s))
      (client_loses_were (s.clients stream.client) stream.client gone))

  ends_row_devices : (l : ℕ) (ending : Ending) (stream : Stream) (s : State) → (ends_row l ending stream s).state.devices ≡ s.devices
  ends_row_devices l ending stream s =
      ap (λ (x : State). x.devices)
      (ends_state l ending stream s ∙ client_loses_frame (s.clients stream.client) stream.client (to_stream l none_kept s))

  ends_passes : (l : ℕ) (ending : Ending) (stream : Stream) (s : State) → Passes s (ends_row l ending stream s).state
  ends_passes l ending stream s =
      passes_plain s (ends_row l ending stream s).state (ends_row_devices l ending stream s) (ends_row_were l ending stream s)

  -- what is told to the device of a stream is due to its link, which has no part in it
  telling_passes : (l : ℕ) (ending : Ending) (stream : Stream) (s : State) → Passes s (ends_telling l ending stream s).state
  telling_passes l ending stream s =
      let owed : State = (owe_link stream.link (close_packet l stream.part.remote) s).state in
      passes_plain s (ends_telling l ending stream s).state (ends_row_devices l ending stream owed) (ends_row_were l ending stream owed)

  -- ---- the streams of a link end
  ends_if_were : (t l : ℕ) (ending : Ending) (o : Option Stream) (s : State) → Were s (ends_if_of t l ending o s).state
  ends_if_were t l ending None s = all_same ids (kept_of s)
  ends_if_were t l ending (Some stream) s = go (nat_eq stream.link t)
    where
      go : (b : Bool) → AllWere ids no_credit (kept_of s) (kept_of (cond b (ends_row l ending stream s) (quietly s)).state)
      go true = ends_row_were l ending stream s
      go false = all_same ids (kept_of s)

  ends_of_were : (t k : ℕ) (ending : Ending) (s : State) → Were s (ends_of t k ending s).state
  ends_of_were t zero ending s = all_same ids (kept_of s)
  ends_of_were t (suc k) ending s =
      let now : State = (ends_of t k ending s).state in
      all_then ids (kept_of s) (kept_of now) (kept_of (ends_if_of t (suc k) ending (now.streams (suc k)) now).state)
      (ends_of_were t k ending s)
      (ends_if_were t (suc k) ending (now.streams (suc k)) now)

  module _ (s : State) (h : IsLinked s) where
    pub link_ends_passes : (t : ℕ) (ending : Ending) → Passes s (link_ends t ending s).state
    link_ends_passes t ending = record {
      rows = all_then ids (kept_of s) (kept_of now) (kept_of (link_ends t ending s).state) (ends_of_were t s.drawn ending (forgets t s))
          (marks_were ids (kept_of now));
      devices = λ l stream is.
          ap (λ devices. at stream.link devices.rows) left.devices
          ∙ (puts_without t s.devices.rows h.rows.rises).others stream.link (left.clear l stream is);
    }
      where
        now : State
        now = (all_end t ending (forgets t s)).state

        left : IsCleared t (forgets t s) (all_end t ending (forgets t s)).state
        left = all_cleared t ending (forgets t s) (record {
          clients = h.owned.rows.clients;
          links = (drawn_plain.link t none_kept s [] h.owned.rows).links;
          streams = h.owned.rows.streams;
        })

    -- ---- CNXN, AUTH and STLS
    first_were : (b : Bool) (t : ℕ) → Were s (streams_end_first b t s).state
    first_were true t = ends_of_were t s.drawn Lost s
    first_were false t = all_same ids (kept_of s)

    connects_passes : (t version maxdata : ℕ) (who : Option Identity) → Passes s (connects t version maxdata who s).state
    connects_passes t version maxdata None = link_ends_passes t Broken
    connects_passes t version maxdata (Some identity) = record {
      rows = all_then ids (kept_of s) (kept_of now) (kept_of (goes_online t version maxdata identity now))
          (first_were (is_connected t s.devices) t)
          (marks_were ids (kept_of now));
      devices = λ l stream is.
          ap (λ devices. at stream.link (changed t row devices).rows) left.devices
          ∙ changed_other_at t row s.devices h.rows.rises stream.link (left.clear l stream is);
    }
      where
        now : State
        now = (streams_end_first (is_connected t s.devices) t s).state

        row : Row → Row
        row = online_row identity (min version VERSION) (min maxdata MAX_PAYLOAD)

        left : IsCleared t s (streams_end_first (is_connected t s.devices) t s).state
        left = first_cleared s h (is_connected t s.devices) t refl

    pub cnxn_passes : (t version maxdata : ℕ) (banner : List ℕ) → Passes s (cnxn t version maxdata banner s).state
    cnxn_passes t version maxdata banner =
        passes_if s (nat_lt version least_version || nat_lt maxdata least_maxdata) (link_ends t Broken s)
        (connects t version maxdata (identity_of banner) s)
        (λ e. link_ends_passes t Broken) (λ e. connects_passes t version maxdata (identity_of banner))

    -- a device that is not connected has no stream
    waiting_passes : (t : ℕ) (row : Row) → at t s.devices.rows ≡ Some row → row.state ≡ Offline → Passes s (unauthorized_from t Offline s)
    waiting_passes t row is offline = record {
      rows = marks_were ids (kept_of s);
      devices = λ l stream there. changed_other_at t unauthorized_row s.devices h.rows.rises stream.link
          (λ same. waits (h.on l stream there) same);
    }
      where
        waits : {stream : Stream} → OnLink s.devices stream → stream.link ≡ t → ⊥
        waits {stream} on same =
            let off : is_connected t s.devices ≡ false = ap is_connected_row is ∙ ap is_connected_state offline in
            let clash : true ≡ false = sym on.connected ∙ (ap (λ n. is_connected n s.devices) same ∙ off) in
            cc

    pub unauthorized_passes : (t : ℕ) (o : Option Row) → at t s.devices.rows ≡ o → Passes s (unauthorized t o s).state
    unauthorized_passes t None is = passes_same s
    unauthorized_passes t (Some row) is = go row.state refl
      where
        go : (state : DeviceState) → row.state ≡ state → Passes s (unauthorized_from t state s)
        go Offline e = waiting_passes t row is e
        go _ e = passes_same s

    -- ---- OPEN
    pub refuses_passes : (t id : ℕ) → Passes s (refuses_open t id s).state
    refuses_passes t id =
        passes_if s (eqb id 0) (quietly s) (owe_link t (close_packet 0 id) s) (λ e. passes_same s)
        (λ e. passes_plain s (owe_link t (close_packet 0 id) s).state refl (all_same ids (kept_of s)))

    pub at_stream_passes : {more : ℕ → ℕ} (t l : ℕ) (o : Option Stream) (rule : Stream → State → Made) → s.streams l ≡ o
        → ((stream : Stream) → s.streams l ≡ Some stream → stream.link ≡ t → PassesWith more s (rule stream s).state)
        → PassesWith more s (at_stream t o rule s).state
    at_stream_passes t l None rule is makes = passes_same s
    at_stream_passes t l (Some stream) rule is makes =
        passes_if s (nat_eq stream.link t) (rule stream s) (quietly s)
        (λ e. makes stream is (eqb-true stream.link t e)) (λ e. passes_same s)

    -- ---- WRTE and CLSE
    accepts_none_passes : (flow : Flow) (l : ℕ) (stream : Stream) → Passes s (accepts_none flow l stream s).state
    accepts_none_passes (One window) l stream = passes_plain s (accepts_none (One window) l stream s).state refl (all_same ids (kept_of s))
    accepts_none_passes (Credit credit) l stream = passes_same s

    accepts_passes : (l : ℕ) (payload : List ℕ) (stream : Stream) → s.streams l ≡ Some stream → Passes s (accepts l payload stream s).state
    accepts_passes l [] stream is = accepts_none_passes stream.part.flow l stream
    accepts_passes l (b ∷ payload) stream is =
        let n : ℕ = length (b ∷ payload) in
        let part : Part = with_flow (accepted n stream.part.flow) stream.part in
        let taken : State = to_stream l (with_stream_part part) s in
        passes_plain s (accepts l (b ∷ payload) stream s).state refl
        (all_then ids (kept_of s) (kept_of taken) (kept_of (accepts l (b ∷ payload) stream s).state)
        (parts_were ids l stream part (kept_of s) is (follows_accepted l n stream.part.flow))
        (owes_were ids stream.client (b ∷ payload) (kept_of taken)))

    pub write_passes : (l remote : ℕ) (payload : List ℕ) (stream : Stream) → s.streams l ≡ Some stream
        → Passes s (takes_write l remote payload stream s).state
    write_passes l remote payload stream is =
        let late : Made = ends_telling l OutOfTurn stream s in
        let taken : Made = accepts l payload stream s in
        let out : Bool = is_out_of_turn stream.part.flow (length payload) in
        passes_if s (eqb remote 0 || not (eqb remote stream.part.remote)) (quietly s) (cond out late taken) (λ e. passes_same s)
        (λ e. passes_if s out late taken (λ e. telling_passes l OutOfTurn stream s) (λ e. accepts_passes l payload stream is))

    pub close_passes : (l remote : ℕ) (stream : Stream) → Passes s (takes_close l remote stream s).state
    close_passes l remote stream =
        passes_if s (eqb remote 0 || eqb remote stream.part.remote) (ends_row l PeerClosed stream s) (quietly s)
        (λ e. ends_passes l PeerClosed stream s) (λ e. passes_same s)

    -- ---- OKAY
    module _ (l remote : ℕ) (word : Option ℕ) (stream : Stream) (is : s.streams l ≡ Some stream) (named : IsAmong l ids)
        (more : ℕ → ℕ) (enough : unwrap_or word 0 ≤ more l) where
      hears_passes : (o : Option Client) (c : ℕ) → Passes s (hears_okay o c s).state
      hears_passes None c = passes_same s
      hears_passes (Some client) c = passes_if s client.about.forwarded (quietly s) (owe_client c (codes "OKAY") s) (λ e. passes_same s)
          (λ e. passes_plain s (owe_client c (codes "OKAY") s).state refl (owes_were ids c (codes "OKAY") (kept_of s)))

      -- a client that hears it had asked for the stream, if it had before
      hears_asked : (o : Option Client) (c : ℕ) → s.clients c ≡ o → ((client : Client) → o ≡ Some client → client.about.phase ≡ Opening l)
          → (now : Client) → (hears_okay o c s).state.clients c ≡ Some now → now.about.phase ≡ Opening l
      hears_asked None c row asked now there = absurd (let clash : None ≡ Some now = sym row ∙ there in cc)
      hears_asked (Some client) c row asked now there = go client.about.forwarded there
        where
          go : (b : Bool) → (cond b (quietly s) (owe_client c (codes "OKAY") s)).state.clients c ≡ Some now → now.about.phase ≡ Opening l
          go true there =
              let same : client ≡ now = (let both : Some client ≡ Some now = sym row ∙ there in cc) in
              ap (λ (x : Client). x.about.phase) (sym same) ∙ asked client refl
          go false there =
              let owed : Client = record client { due = client.due ++ codes "OKAY" } in
              let both : Some owed ≡ Some now = sym (changed_here c (with_due (codes "OKAY")) s.clients client row) ∙ there in
              let same : owed ≡ now = cc in
              ap (λ (x : Client). x.about.phase) (sym same) ∙ asked client refl

      asked_for : stream.part.orphan ≡ false → stream.part.remote ≡ 0 → (client : Client) → s.clients stream.client ≡ Some client
          → client.about.phase ≡ Opening l
      asked_for owned new client there =
          let owner : OwnerIn false s.clients l stream = subst (λ (b : Bool). OwnerIn b s.clients l stream) owned
          (h.owned.owned.stream l stream is).owner in
          let same : owner.client ≡ client = (let both : Some owner.client ≡ Some client = sym owner.is ∙ there in cc) in
          ap (λ (x : Client). x.about.phase) (sym same) ∙ (owner.phase ∙ ap (phase_for l) new)

      opened_passes : stream.part.orphan ≡ false → stream.part.remote ≡ 0 → PassesWith more s (opened l remote word stream s).state
      opened_passes owned new = passes_before s heard now (hears_passes (s.clients stream.client) stream.client)
          (passes_plain heard now refl (none_behind ids (kept_of heard) (kept_of put) (kept_of now)
          (parts_were ids l stream part (kept_of heard) here (follows_first l word stream.part.flow named enough))
          (opens_were ids stream.client l (kept_of put) named asked)))
        where
          part : Part
          part = with_remote remote (with_flow (first_credit word stream.part.flow) stream.part)

          heard : State
          heard = (hears_okay (s.clients stream.client) stream.client s).state

          put : State
          put = to_stream l (with_stream_part (with_remote remote (with_flow (first_credit word stream.part.flow) stream.part)))
              (hears_okay (s.clients stream.client) stream.client s).state

          now : State
          now = (opened l remote word stream s).state

          here : (hears_okay (s.clients stream.client) stream.client s).state.streams l ≡ Some stream
          here = ap (λ streams. streams l) (hears_streams (s.clients stream.client) stream.client s) ∙ is

          asked : (old : Client) → (hears_okay (s.clients stream.client) stream.client s).state.clients stream.client
              ≡ Some old → old.about.phase ≡ Opening l
          asked = hears_asked (s.clients stream.client) stream.client refl (asked_for owned new)

      first_passes : (orphan : Bool) → stream.part.orphan ≡ orphan → stream.part.remote ≡ 0
          → PassesWith more s (okay_first orphan l remote word stream s).state
      first_passes true orphan new = passes_within s (orphan_opened l remote stream s).state
          (passes_plain s (orphan_opened l remote stream s).state refl (goes_were ids l (kept_of s)))
      first_passes false owned new = opened_passes owned new

      okay_open_passes : PassesWith more s (okay_open l word stream s).state
      okay_open_passes = passes_plain s (okay_open l word stream s).state refl
          (parts_were ids l stream (with_flow (acknowledged word stream.part.flow) stream.part) (kept_of s) is
          (follows_acknowledged l word stream.part.flow named enough))

      pub okay_passes : PassesWith more s (takes_okay l remote word stream s).state
      okay_passes =
          let first : Made = okay_first stream.part.orphan l remote word stream s in
          let again : Made = okay_open l word stream s in
          let later : Made = cond (eqb remote stream.part.remote) again (quietly s) in
          passes_if s (eqb remote 0) (quietly s) (cond (eqb stream.part.remote 0) first later) (λ e. passes_same s)
          (λ e. passes_if s (eqb stream.part.remote 0) first later
          (λ new. first_passes stream.part.orphan refl (eqb-true stream.part.remote 0 new))
          (λ e. passes_if s (eqb remote stream.part.remote) again (quietly s) (λ e. okay_open_passes) (λ e. passes_same s)))
