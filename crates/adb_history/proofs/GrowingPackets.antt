-- What the packets of a connected device make, and what is told of bytes that were handed out, brings no client or
-- link, and leaves the tables.
use Rattle.std.proofs.Common.{ℕ, ◌≡◌, ◌≤◌, Bool, true, false, List, [], ◌∷◌, length, min, Option, Some, None, refl, sym, ◌∙◌, zero, suc}
use Rattle.std.proofs.Common.{eqb, codes}
use Rattle.std.proofs.lemmas.List.{append-nil}
use Rattle.std.specs.Prelude.{option_map, ◌==◌, ◌||◌, not}
use Rattle.adb_wire.specs.declared.command.Command.{Command}
use Rattle.adb_wire.specs.declared.command.Command.TheVariants.{Open, Okay, Wrte, Clse}
use Rattle.adb_wire.specs.declared.packets.Packet.{Packet}
use Rattle.adb_stream.specs.declared.row.Stream.{Stream}
use Rattle.adb_stream.specs.declared.flow.Flow.{Flow}
use Rattle.adb_stream.specs.declared.flow.Flow.TheVariants.{One, Credit}
use Rattle.adb_stream.specs.Flow.{first_credit, acknowledged, is_out_of_turn, accepted, to_hand, credit_back, handed_to}
use Rattle.adb_client.specs.declared.phase.Phase.{Phase}
use Rattle.adb_client.specs.declared.phase.Phase.TheVariants.{Asking, Streaming, Binding, Tracking}
use Rattle.adb_reply.proofs.AllAnswers.{by_test}
use Rattle.adb_history.specs.Rows.{Client, State, to_client, to_stream, none_kept, in_phase, with_stream_part}
use Rattle.adb_history.specs.Events.{Made, quietly}
use Rattle.adb_history.specs.declared.ending.Ending.TheVariants.{PeerClosed, OutOfTurn}
use Rattle.adb_history.specs.Links.{close_packet, okay_packet, credit_packet, credit_word, owe_link}
use Rattle.adb_history.specs.Clients.{owe_client}
use Rattle.adb_history.specs.Flow.{with_flow}
use Rattle.adb_history.specs.Tracking.{marked_in, marked, mark_all, offered}
use Rattle.adb_history.specs.Packets.{refuses_open, at_stream, with_remote, hears_okay, opened, orphan_opened}
use Rattle.adb_history.specs.Packets.{okay_first, takes_okay}
use Rattle.adb_history.specs.Packets.{accepts_none, accepts, takes_write, takes_close, treat_open}
use Rattle.adb_history.specs.Handing.{unmarked, lists_first, tells_credit, tells_handed, stream_hands, stream_left}
use Rattle.adb_history.specs.Handing.{client_left}
use Rattle.adb_history.proofs.Growing.{RowStep, row_same, ClientStays, client_same, LinkStays, link_same, IsWithin, AreWithin}
use Rattle.adb_history.proofs.Growing.{Keeps, keeps_all, keeps_then, keeps_over, keeps_to_client, keeps_owe_client, keeps_owe_link}
use Rattle.adb_history.proofs.Growing.{keeps_part, keeps_no_stream}
use Rattle.adb_history.proofs.GrowingRules.{keeps_phase, keeps_ends_row, keeps_ends_telling}

module _ (came plugged : ℕ) where
  -- ---- OPEN
  keeps_refuses_open : (t id : ℕ) (s : State) → t ≤ plugged → Keeps came plugged s (refuses_open t id s)
  keeps_refuses_open t id s le =
      by_test (Keeps came plugged s) (id == 0) (λ e. keeps_all came plugged s) (λ e. keeps_owe_link came plugged t (close_packet 0 id) s le)

  keeps_at_stream : (t : ℕ) (o : Option Stream) (rule : Stream → State → Made) (s : State) → IsWithin came plugged o
      → ((stream : Stream) → IsWithin came plugged (Some stream) → Keeps came plugged s (rule stream s))
      → Keeps came plugged s (at_stream t o rule s)
  keeps_at_stream t None rule s within keeps = keeps_all came plugged s
  keeps_at_stream t (Some stream) rule s within keeps =
      by_test (Keeps came plugged s) (eqb stream.link t) (λ e. keeps stream within) (λ e. keeps_all came plugged s)

  -- ---- OKAY
  keeps_hears_okay : (o : Option Client) (c : ℕ) (s : State) → c ≤ came → Keeps came plugged s (hears_okay o c s)
  keeps_hears_okay None c s le = keeps_all came plugged s
  keeps_hears_okay (Some client) c s le =
      by_test (Keeps came plugged s) client.about.forwarded (λ e. keeps_all came plugged s)
      (λ e. keeps_owe_client came plugged c (codes "OKAY") s le)

  keeps_opened : (l remote : ℕ) (word : Option ℕ) (stream : Stream) (s : State) → stream.client ≤ came
      → Keeps came plugged s (opened l remote word stream s)
  keeps_opened l remote word stream s le =
      let part = with_remote remote (with_flow (first_credit word stream.part.flow) stream.part) in
      let heard = hears_okay (s.clients stream.client) stream.client s in
      let next = to_stream l (with_stream_part part) heard.state in
      keeps_then came plugged s heard
      (λ s. quietly (to_client stream.client (in_phase (Streaming l)) (to_stream l (with_stream_part part) s)))
      (keeps_hears_okay (s.clients stream.client) stream.client s le)
      (keeps_over came plugged heard.state next (quietly (to_client stream.client (in_phase (Streaming l)) next))
      (keeps_part came plugged l part heard.state)
      (keeps_phase came plugged (Streaming l) stream.client next (λ e. cc) (λ e. cc)))

  keeps_orphan_opened : (l remote : ℕ) (stream : Stream) (s : State) → stream.link ≤ plugged
      → Keeps came plugged s (orphan_opened l remote stream s)
  keeps_orphan_opened l remote stream s le =
      let gone = to_stream l none_kept s in
      keeps_over came plugged s gone (owe_link stream.link (close_packet l remote) gone) (keeps_no_stream came plugged l s)
      (keeps_owe_link came plugged stream.link (close_packet l remote) gone le)

  keeps_okay_first : (orphan : Bool) (l remote : ℕ) (word : Option ℕ) (stream : Stream) (s : State) → IsWithin came plugged (Some stream)
      → Keeps came plugged s (okay_first orphan l remote word stream s)
  keeps_okay_first true l remote word stream s within = keeps_orphan_opened l remote stream s within.1
  keeps_okay_first false l remote word stream s within = keeps_opened l remote word stream s within.0

  keeps_takes_okay : (l remote : ℕ) (word : Option ℕ) (stream : Stream) (s : State) → IsWithin came plugged (Some stream)
      → Keeps came plugged s (takes_okay l remote word stream s)
  keeps_takes_okay l remote word stream s within =
      by_test (Keeps came plugged s) (remote == 0) (λ e. keeps_all came plugged s)
      (λ e. by_test (Keeps came plugged s) (stream.part.remote == 0)
      (λ f. keeps_okay_first stream.part.orphan l remote word stream s within)
      (λ f. by_test (Keeps came plugged s) (remote == stream.part.remote)
      (λ g. keeps_part came plugged l (with_flow (acknowledged word stream.part.flow) stream.part) s) (λ g. keeps_all came plugged s)))

  -- ---- WRTE
  keeps_accepts_none : (flow : Flow) (l : ℕ) (stream : Stream) (s : State) → stream.link ≤ plugged
      → Keeps came plugged s (accepts_none flow l stream s)
  keeps_accepts_none (One window) l stream s le = keeps_owe_link came plugged stream.link (okay_packet l stream.part.remote) s le
  keeps_accepts_none (Credit credit) l stream s le = keeps_all came plugged s

  keeps_accepts : (l : ℕ) (payload : List ℕ) (stream : Stream) (s : State) → IsWithin came plugged (Some stream)
      → Keeps came plugged s (accepts l payload stream s)
  keeps_accepts l [] stream s within = keeps_accepts_none stream.part.flow l stream s within.1
  keeps_accepts l (b ∷ payload) stream s within =
      let part = with_flow (accepted (length (b ∷ payload)) stream.part.flow) stream.part in
      let next = to_stream l (with_stream_part part) s in
      keeps_over came plugged s next (owe_client stream.client (b ∷ payload) next) (keeps_part came plugged l part s)
      (keeps_owe_client came plugged stream.client (b ∷ payload) next within.0)

  keeps_takes_write : (l remote : ℕ) (payload : List ℕ) (stream : Stream) (s : State) → IsWithin came plugged (Some stream)
      → Keeps came plugged s (takes_write l remote payload stream s)
  keeps_takes_write l remote payload stream s within =
      by_test (Keeps came plugged s) (remote == 0 || not (remote == stream.part.remote)) (λ e. keeps_all came plugged s)
      (λ e. by_test (Keeps came plugged s) (is_out_of_turn stream.part.flow (length payload))
      (λ f. keeps_ends_telling came plugged l OutOfTurn stream s within) (λ f. keeps_accepts l payload stream s within))

  -- ---- CLSE
  keeps_takes_close : (l remote : ℕ) (stream : Stream) (s : State) → IsWithin came plugged (Some stream)
      → Keeps came plugged s (takes_close l remote stream s)
  keeps_takes_close l remote stream s within =
      by_test (Keeps came plugged s) (remote == 0 || remote == stream.part.remote)
      (λ e. keeps_ends_row came plugged l PeerClosed stream s within.0) (λ e. keeps_all came plugged s)

  pub keeps_treat_open : (t : ℕ) (command : Command) (p : Packet) (s : State) → t ≤ plugged → AreWithin came plugged s.streams
      → Keeps came plugged s (treat_open t command p s)
  keeps_treat_open t Open p s le all = keeps_refuses_open t p.arg0 s le
  keeps_treat_open t Okay p s le all = keeps_at_stream t (s.streams p.arg1)
      (takes_okay p.arg1 p.arg0 (credit_word p.payload)) s (all p.arg1)
      (λ stream within. keeps_takes_okay p.arg1 p.arg0 (credit_word p.payload) stream s within)
  keeps_treat_open t Wrte p s le all = keeps_at_stream t (s.streams p.arg1) (takes_write p.arg1 p.arg0 p.payload) s (all p.arg1)
      (λ stream within. keeps_takes_write p.arg1 p.arg0 p.payload stream s within)
  keeps_treat_open t Clse p s le all = keeps_at_stream t (s.streams p.arg1) (takes_close p.arg1 p.arg0) s (all p.arg1)
      (λ stream within. keeps_takes_close p.arg1 p.arg0 stream s within)
  keeps_treat_open t _ p s le all = keeps_all came plugged s

  -- ---- trackers
  stays_marked : (phase : Phase) (a : Client) → a.about.phase ≡ phase → ClientStays a (marked_in phase a) []
  stays_marked Tracking a e = record {
    due = sym (append-nil a.due);
    asks = λ f. let clash : Tracking ≡ Asking = sym e ∙ f in cc;
    binds = λ f. let clash : Tracking ≡ Binding = sym e ∙ f in cc;
  }
  stays_marked _ a e = client_same a

  pub keeps_mark_all : (s : State) → Keeps came plugged s (quietly (mark_all s))
  keeps_mark_all s = record {
    clients = λ c. go (s.clients c);
    links = λ t. row_same LinkStays link_same (s.links t);
    told = record { clients = λ c lt. refl; links = λ t lt. refl };
    streams = λ h. h;
    joined = refl;
    devices = refl;
    forwards = refl;
    stopped = refl;
    linked = λ t. refl;
  }
    where
      go : (o : Option Client) → RowStep ClientStays o (option_map marked o) []
      go None = tt
      go (Some a) = stays_marked a.about.phase a refl

  -- ---- hand-outs
  pub keeps_lists_first : (c : ℕ) (due : List ℕ) (client : Client) (s : State) → c ≤ came
      → Keeps came plugged s (lists_first c due client s)
  keeps_lists_first c [] client s le =
      let next = to_client c unmarked s in
      keeps_over came plugged s next (owe_client c (offered s.devices client) next)
      (keeps_to_client came plugged c unmarked s
      (λ a e. record {
        due = sym (append-nil a.due);
        asks = λ e. record { phase = e; held = refl; selected = refl };
        binds = λ e. record { phase = e; want = refl };
      }))
      (keeps_owe_client came plugged c (offered s.devices client) next le)
  keeps_lists_first c (b ∷ due) client s le = keeps_all came plugged s

  keeps_tells_credit : (n l : ℕ) (stream : Stream) (s : State) → stream.link ≤ plugged → Keeps came plugged s (tells_credit n l stream s)
  keeps_tells_credit zero l stream s le = keeps_all came plugged s
  keeps_tells_credit (suc n) l stream s le = keeps_owe_link came plugged stream.link (credit_packet l stream.part.remote (suc n)) s le

  keeps_tells_handed : (flow : Flow) (left l : ℕ) (stream : Stream) (s : State) → stream.link ≤ plugged
      → Keeps came plugged s (tells_handed flow left l stream s)
  keeps_tells_handed (One window) zero l stream s le = keeps_owe_link came plugged stream.link (okay_packet l stream.part.remote) s le
  keeps_tells_handed (One window) (suc left) l stream s le = keeps_all came plugged s
  keeps_tells_handed (Credit credit) left l stream s le = keeps_tells_credit (credit_back left credit) l stream s le

  keeps_stream_hands : (left l : ℕ) (stream : Stream) (s : State) → stream.link ≤ plugged
      → Keeps came plugged s (stream_hands left l stream s)
  keeps_stream_hands left l stream s le =
      let next = to_stream l (with_stream_part (with_flow (handed_to left stream.part.flow) stream.part)) s in
      by_test (Keeps came plugged s) (eqb left (to_hand stream.part.flow)) (λ e. keeps_all came plugged s)
      (λ e. keeps_over came plugged s next (tells_handed stream.part.flow left l stream next)
      (keeps_part came plugged l (with_flow (handed_to left stream.part.flow) stream.part) s)
      (keeps_tells_handed stream.part.flow left l stream next le))

  keeps_stream_left : (due l : ℕ) (o : Option Stream) (s : State) → IsWithin came plugged o → Keeps came plugged s (stream_left due l o s)
  keeps_stream_left due l None s within = keeps_all came plugged s
  keeps_stream_left due l (Some stream) s within = keeps_stream_hands (min (to_hand stream.part.flow) due) l stream s within.1

  pub keeps_client_left : (phase : Phase) (due : ℕ) (s : State) → AreWithin came plugged s.streams
      → Keeps came plugged s (client_left phase due s)
  keeps_client_left (Streaming l) due s all = keeps_stream_left due l (s.streams l) s (all l)
  keeps_client_left _ due s all = keeps_all came plugged s
