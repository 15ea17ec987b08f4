-- The up rule leaves no stream that may send.
use Rattle.std.proofs.Common.{◌≡◌, ℕ, Bool, true, false, cond, List, [], ◌∷◌, drop, Option, Some, None, refl, sym, ap, subst, ◌∙◌}
use Rattle.adb_outside.specs.Tables.{Rows}
use Rattle.adb_stream.specs.declared.row.Part.{Part}
use Rattle.adb_stream.specs.declared.row.Stream.{Stream}
use Rattle.adb_client.specs.declared.phase.Phase.{Phase}
use Rattle.adb_client.specs.declared.phase.Phase.TheVariants.{Streaming}
use Rattle.adb_history.specs.Rows.{Client, Link, State, to_stream, none_kept, with_held, with_stream_part}
use Rattle.adb_history.specs.Events.{quietly}
use Rattle.adb_history.specs.declared.ending.Ending.TheVariants.{ClientClosed}
use Rattle.adb_history.specs.Links.{maxdata_of, owe_link, close_packet}
use Rattle.adb_history.specs.Clients.{closes}
use Rattle.adb_history.specs.Streams.{loses, client_loses, ends_telling}
use Rattle.adb_history.specs.Flow.{payloads, total, flow_after, with_flow, goes_up, all_go_up, noted, is_over, closes_if, sends_up}
use Rattle.adb_history.specs.Flow.{is_streaming}
use Rattle.adb_history.specs.Flow.{up_client, up_stream, up}
use Rattle.adb_history.proofs.Following.{changed_here}
use Rattle.adb_history.proofs.OwnedStep.{ends_state}

-- a stream that its client has open
pub record Sending (l : ℕ) (s : State) : Type 0 where
  pub stream : Stream
  pub client : Client
  pub there : s.streams l ≡ Some stream
  pub here : s.clients stream.client ≡ Some client
  pub streaming : is_streaming l client.about.phase ≡ true

-- what it sends, what is left of it then, and whether it is over then
abbrev pub sent : (l : ℕ) (s : State) → Sending l s → List (List ℕ)
sent l s x = payloads x.stream.part.flow (maxdata_of x.stream.link s.devices) x.client.held

abbrev pub left : (l : ℕ) (s : State) → Sending l s → State
left l s x = noted l x.stream x.client.held (sent l s x) s

abbrev pub over : (l : ℕ) (s : State) → Sending l s → Bool
over l s x = is_over x.client.about.ended (drop (total (sent l s x)) x.client.held) (flow_after (sent l s x) x.stream.part.flow)

-- What the up rule makes of a stream: nothing, or what is left of it, or its end.
pub record UpTo (Q : State → Type 0) (l : ℕ) (s : State) : Type 0 where
  pub stays : ((x : Sending l s) → ⊥) → Q s
  pub sends : (x : Sending l s) (links : Rows (Option Link)) → over l s x ≡ false → Q (record (left l s x) { links = links })
  pub ends : (x : Sending l s) (links : Rows (Option Link)) → over l s x ≡ true
      → Q (record (closes x.stream.client (to_stream l none_kept (left l s x))) { links = links })

go_up_frame : (l : ℕ) (stream : Stream) (ps : List (List ℕ)) (s : State)
    → (all_go_up l stream ps s).state ≡ record s { links = (all_go_up l stream ps s).state.links }
go_up_frame l stream [] s = refl
go_up_frame l stream (p ∷ ps) s = go_up_frame l stream ps (goes_up l stream p s).state

-- the end of a stream that its client has open closes the client
streaming_loses : (l : ℕ) (phase : Phase) (forwarded : Bool) (c : ℕ) (s : State) → is_streaming l phase ≡ true
    → (loses forwarded phase c s).state ≡ closes c s
streaming_loses l (Streaming k) true c s e = refl
streaming_loses l (Streaming k) false c s e = refl
streaming_loses l _ f c s e = absurd (let clash : false ≡ true = e in cc)

module _ (Q : State → Type 0) (l : ℕ) (s : State) (q : UpTo Q l s) where
  sends_case : (x : Sending l s) → Q (sends_up l x.stream x.client (sent l s x) s).state
  sends_case x =
      subst (λ (m : State). Q (closes_if (over l s x) l (m.streams l) m).state) (sym (go_up_frame l x.stream (sent l s x) (left l s x)))
      (go (over l s x) refl (changed_here l (with_stream_part part) s.streams x.stream x.there))
    where
      part : Part
      part = with_flow (flow_after (sent l s x) x.stream.part.flow) x.stream.part

      links : Rows (Option Link)
      links = (all_go_up l x.stream (sent l s x) (left l s x)).state.links

      now : State
      now = record (left l s x) { links = (all_go_up l x.stream (sent l s x) (left l s x)).state.links }

      ends_of : (y : Stream) → y.client ≡ x.stream.client → (ends_telling l ClientClosed y now).state
          ≡ closes x.stream.client (to_stream l none_kept (owe_link y.link (close_packet l y.part.remote) now).state)
      ends_of y same =
          let owed : State = (owe_link y.link (close_packet l y.part.remote) now).state in
          let here : owed.clients x.stream.client ≡ with_held (drop (total (sent l s x)) x.client.held) x.client =
          changed_here x.stream.client (with_held (drop (total (sent l s x)) x.client.held)) s.clients x.client x.here in
          ends_state l ClientClosed y owed
          ∙ (ap (λ c. (client_loses (owed.clients c) c (to_stream l none_kept owed)).state) same
          ∙ (ap (λ o. (client_loses o x.stream.client (to_stream l none_kept owed)).state) here
          ∙ streaming_loses l x.client.about.phase x.client.about.forwarded x.stream.client (to_stream l none_kept owed) x.streaming))

      go : (b : Bool) → over l s x ≡ b → now.streams l ≡ with_stream_part part x.stream → Q (closes_if b l (now.streams l) now).state
      go false e here = subst (λ (o : Option Stream). Q (closes_if false l o now).state) (sym here) (q.sends x links e)
      go true e here =
          let y : Stream = record x.stream { part = part } in
          subst (λ (o : Option Stream). Q (closes_if true l o now).state) (sym here)
          (subst Q (sym (ends_of y refl)) (q.ends x (owe_link y.link (close_packet l y.part.remote) now).state.links e))

  pub up_to : Q (up l s).state
  up_to = at_stream (s.streams l) refl
    where
      at_client : (stream : Stream) → s.streams l ≡ Some stream → (o : Option Client) → s.clients stream.client ≡ o
          → Q (up_client l stream o s).state
      at_client stream there None e = q.stays (λ x.
          let same : stream ≡ x.stream = (let both : Some stream ≡ Some x.stream = sym there ∙ x.there in cc) in
          let clash : None ≡ Some x.client = sym e ∙ (ap (λ (y : Stream). s.clients y.client) same ∙ x.here) in cc)
      at_client stream there (Some client) e = test (is_streaming l client.about.phase) refl
        where
          test : (b : Bool) → is_streaming l client.about.phase ≡ b
              → Q (cond b (sends_up l stream client
              (payloads stream.part.flow (maxdata_of stream.link s.devices) client.held) s) (quietly s)).state
          test true is = sends_case (record { stream = stream; client = client; there = there; here = e; streaming = is })
          test false is = q.stays (λ x.
              let same : stream ≡ x.stream = (let both : Some stream ≡ Some x.stream = sym there ∙ x.there in cc) in
              let row : client ≡ x.client =
              (let both : Some client ≡ Some x.client = sym e
              ∙ (ap (λ (y : Stream). s.clients y.client) same ∙ x.here) in cc) in
              let clash : false ≡ true = sym is ∙ (ap (λ (y : Client). is_streaming l y.about.phase) row ∙ x.streaming) in cc)

      at_stream : (o : Option Stream) → s.streams l ≡ o → Q (up_stream l o s).state
      at_stream None e = q.stays (λ x. let clash : None ≡ Some x.stream = sym e ∙ x.there in cc)
      at_stream (Some stream) e = at_client stream e (s.clients stream.client) refl
