-- What each entry of a load makes of a server leaves every text of bytes.
use Rattle.std.proofs.Common.{ℕ, ◌≡◌, Bool, true, false, cond, List, [], ◌∷◌, ◌++◌, length, drop, zero, suc, refl, sym, subst, eqb}
use Rattle.std.specs.Prelude.{Option, Some, None, min}
use Rattle.adb_outside.specs.Bytes.{AreBytes}
use Rattle.adb_outside.specs.Tables.{put_row}
use Rattle.adb_outside.specs.declared.kinds.Kind.{Kind}
use Rattle.adb_outside.specs.declared.kinds.Cause.TheVariants.{Eof}
use Rattle.adb_registry.specs.Registry.{DeviceTable, attached}
use Rattle.adb_stream.specs.Flow.{to_hand, handed_to, credit_back}
use Rattle.adb_client.specs.declared.phase.Phase.{Phase}
use Rattle.adb_client.specs.declared.phase.Phase.TheVariants.{Asking, Opening, Streaming, Closing, Gone}
use Rattle.adb_stream.specs.declared.flow.Flow.{Flow}
use Rattle.adb_stream.specs.declared.flow.Flow.TheVariants.{One, Credit}
use Rattle.adb_stream.specs.declared.row.Stream.{Stream}
use Rattle.adb_reply.specs.declared.answer.Next.{Next}
use Rattle.adb_reply.specs.declared.answer.Next.TheVariants as what
use Rattle.adb_capture.specs.declared.entry.Entry.{Entry}
use Rattle.adb_capture.specs.declared.entry.Entry.TheVariants.{Join, Read, End, Attach, Recv, Put, Send}
use Rattle.adb_history.specs.Rows.{Client, State, new_client, new_link, to_client, to_stream, with_stream_part}
use Rattle.adb_history.specs.Events.{quietly}
use Rattle.adb_history.specs.Links.{okay_packet, credit_packet, server_cnxn}
use Rattle.adb_history.specs.Clients.{owe_client}
use Rattle.adb_history.specs.Flow.{with_flow}
use Rattle.adb_history.specs.Losing.{input_ended, input_ends, client_ends}
use Rattle.adb_history.specs.Tracking.{offered, list_if_stale, due_or, mark_all}
use Rattle.adb_history.specs.Handing.{unmarked, lists_first, left_in, hands, tells_credit, tells_handed}
use Rattle.adb_history.specs.Handing.{stream_hands, stream_left, client_left, takes_of, puts_to, sends, link_hands}
use Rattle.adb_history.specs.Asking.{Asked, asks_with}
use Rattle.adb_history.specs.Reading.{comes, plugs_in, goes_on, asked_before, has_asked, asks, reads_in, reads_from, reads}
use Rattle.adb_history.specs.Machine.{rule, step}
use Rattle.adb_load.proofs.Records.{literal_bytes, word_bytes}
use Rattle.adb_load.proofs.Records.{joined_bytes as both_bytes}
use Rattle.adb_laws_loads.proofs.Texts.{no_bytes, back_bytes, HasTexts, ClientTexts}
use Rattle.adb_laws_loads.proofs.Texts.{LinkTexts, Texts, client_texts, link_texts, owe_texts, due_texts, held_texts, closing_texts}
use Rattle.adb_laws_loads.proofs.Texts.{closes_texts}
use Rattle.adb_laws_loads.proofs.Texts.{opens_texts, mark_all_texts}
use Rattle.adb_laws_loads.proofs.TextRules.{ups_texts, receives_texts}

-- ---- who comes
joins_texts : (c : ℕ) (s : State) → Texts s → Texts (comes false c s)
joins_texts c s h = record { clients = λ k. go k (eqb c k); links = h.links }
  where
    go : (k : ℕ) (b : Bool) → ClientTexts (cond b (Some (new_client false c)) (s.clients k))
    go k true = record { held = no_bytes; due = no_bytes; mark = refl; phase = tt }
    go k false = h.clients k

plugs_texts : (t : ℕ) (kind : Kind) (serial : List ℕ) (s : State) → Texts s → Texts (plugs_in t kind serial s).state
plugs_texts t kind serial s h = owe_texts t server_cnxn (mark_all now) (literal_bytes server_cnxn.payload refl)
    (mark_all_texts now (record {
      clients = h.clients;
      links = λ k. go k (eqb t k);
    }))
  where
    now : State
    now = record s { devices = attached kind serial s.devices; links = put_row t (Some new_link) s.links }

    go : (k : ℕ) (b : Bool) → LinkTexts (cond b (Some new_link) (s.links k))
    go k true = record { rest = no_bytes; due = no_bytes }
    go k false = h.links k

-- ---- what a client asks
-- what follows a request closes the client, or opens a stream for it
abbrev pub IsServed : Option Next → Type 0
IsServed (Some what.Close) = Unit {0}
IsServed (Some (what.Open transport service)) = AreBytes service
IsServed _ = ⊥

-- replies, unread bytes and a service that are of bytes
pub record HasAskedTexts (q : Asked) : Type 0 where
  pub replies : AreBytes q.replies
  pub rest : AreBytes q.rest
  pub next : IsServed q.next

goes_on_texts : (next : Option Next) (c : ℕ) (s : State) → IsServed next → Texts s → Texts (goes_on next c s).state
goes_on_texts (Some what.Close) c s is h = closes_texts c s h
goes_on_texts (Some (what.Open transport service)) c s is h = opens_texts c transport service s is h
goes_on_texts _ c s is h = absurd is

asks_texts : (q : Asked) (c : ℕ) (s : State) → HasAskedTexts q → Texts s → Texts (asks q c s).state
asks_texts q c s are h = goes_on_texts q.next c owed are.next
    (due_texts c q.replies now are.replies (client_texts c (has_asked q) s (λ x is texts. record {
      held = are.rest;
      due = texts.due;
      mark = texts.mark;
      phase = texts.phase;
    }) h))
  where
    now : State
    now = to_client c (has_asked q) s

    owed : State
    owed = (owe_client c q.replies now).state

-- A client that asks asks no more than what is of bytes.
abbrev pub AsksTexts : State → ℕ → List ℕ → Type 0
AsksTexts s c bytes = (client : Client) → s.clients c ≡ Some client → client.about.phase ≡ Asking
    → HasAskedTexts (asks_with s.devices s.forwards bytes (asked_before client))

reads_in_texts : (phase : Phase) (c : ℕ) (bytes : List ℕ) (client : Client) (s : State) → AreBytes bytes → HasTexts client
    → (phase ≡ Asking → HasAskedTexts (asks_with s.devices s.forwards bytes (asked_before client))) → Texts s
    → Texts (reads_in phase c bytes client s).state
reads_in_texts Asking c bytes client s are texts asked h = asks_texts _ c s (asked refl) h
reads_in_texts (Opening l) c bytes client s are texts asked h =
    held_texts c (client.held ++ bytes) s (both_bytes client.held bytes texts.held are) h
reads_in_texts (Streaming l) c bytes client s are texts asked h =
    held_texts c (client.held ++ bytes) s (both_bytes client.held bytes texts.held are) h
reads_in_texts _ c bytes client s are texts asked h = h

reads_texts : (c : ℕ) (bytes : List ℕ) (s : State) → AreBytes bytes → AsksTexts s c bytes → Texts s → Texts (reads c bytes s).state
reads_texts c bytes s are asked h = go (s.clients c) refl (h.clients c)
  where
    go : (row : Option Client) → s.clients c ≡ row → ClientTexts row → Texts (reads_from row c bytes s).state
    go None is texts = h
    go (Some client) is texts = reads_in_texts client.about.phase c bytes client s are texts (asked client is) h

-- ---- a client's end
ends_texts : (phase : Phase) (c : ℕ) (s : State) → Texts s → Texts (input_ends phase c s)
ends_texts (Opening l) c s h =
    client_texts c input_ended s (λ x is texts. record { held = texts.held; due = texts.due; mark = texts.mark; phase = texts.phase }) h
ends_texts (Streaming l) c s h =
    client_texts c input_ended s (λ x is texts. record { held = texts.held; due = texts.due; mark = texts.mark; phase = texts.phase }) h
ends_texts Closing c s h = h
ends_texts Gone c s h = h
ends_texts _ c s h = closes_texts c s h

leaves_texts : (row : Option Client) (c : ℕ) (s : State) → Texts s → Texts (client_ends c Eof row s).state
leaves_texts None c s h = h
leaves_texts (Some client) c s h = ends_texts client.about.phase c s h

-- ---- hand-outs
pub offered_bytes : (table : DeviceTable) (client : Client) → HasTexts client → AreBytes (offered table client)
offered_bytes table client texts = go client.due texts.due
  where
    list : AreBytes (list_if_stale table client.about.mark client.about.long)
    list = subst (λ (b : Bool). AreBytes (list_if_stale table b client.about.long)) (sym texts.mark) no_bytes

    go : (due : List ℕ) → AreBytes due → AreBytes (due_or due (list_if_stale table client.about.mark client.about.long))
    go [] are = list
    go (b ∷ due) are = are

lists_texts : (c : ℕ) (due : List ℕ) (client : Client) (s : State) → HasTexts client → Texts s → Texts (lists_first c due client s).state
lists_texts c [] client s texts h = due_texts c (offered s.devices client) (to_client c unmarked s) (offered_bytes s.devices client texts)
    (client_texts c unmarked s (λ x is held. record { held = held.held; due = held.due; mark = refl; phase = held.phase }) h)
lists_texts c (b ∷ due) client s texts h = h

left_texts : (phase : Phase) (due : List ℕ) (x : Client) → AreBytes due → x.about.phase ≡ phase → HasTexts x
    → ClientTexts (left_in phase due x)
left_texts Closing due x are is texts = closing_texts due (record x { due = due }) are
left_texts _ due x are is texts = record { held = texts.held; due = are; mark = texts.mark; phase = texts.phase }

hands_texts : (c n : ℕ) (s : State) → Texts s → Texts (to_client c (hands n) s)
hands_texts c n s h =
    client_texts c (hands n) s
    (λ x is texts. left_texts x.about.phase (drop n x.due) x (back_bytes n x.due texts.due) refl texts) h

credit_texts : (n l : ℕ) (stream : Stream) (s : State) → Texts s → Texts (tells_credit n l stream s).state
credit_texts zero l stream s h = h
credit_texts (suc n) l stream s h = owe_texts stream.link (credit_packet l stream.part.remote (suc n)) s (word_bytes (suc n)) h

handed_texts : (flow : Flow) (left l : ℕ) (stream : Stream) (s : State) → Texts s → Texts (tells_handed flow left l stream s).state
handed_texts (One window) zero l stream s h = owe_texts stream.link (okay_packet l stream.part.remote) s no_bytes h
handed_texts (One window) (suc left) l stream s h = h
handed_texts (Credit credit) left l stream s h = credit_texts (credit_back left credit) l stream s h

stream_texts : (left l : ℕ) (stream : Stream) (s : State) → Texts s → Texts (stream_hands left l stream s).state
stream_texts left l stream s h = go (eqb left (to_hand stream.part.flow))
  where
    now : State
    now = to_stream l (with_stream_part (with_flow (handed_to left stream.part.flow) stream.part)) s

    go : (same : Bool) → Texts (cond same (quietly s) (tells_handed stream.part.flow left l stream now)).state
    go true = h
    go false = handed_texts stream.part.flow left l stream now h

stream_left_texts : (due l : ℕ) (row : Option Stream) (s : State) → Texts s → Texts (stream_left due l row s).state
stream_left_texts due l None s h = h
stream_left_texts due l (Some stream) s h = stream_texts (min (to_hand stream.part.flow) due) l stream s h

client_left_texts : (phase : Phase) (due : ℕ) (s : State) → Texts s → Texts (client_left phase due s).state
client_left_texts (Streaming l) due s h = stream_left_texts due l (s.streams l) s h
client_left_texts _ due s h = h

takes_texts : (c n : ℕ) (row : Option Client) (s : State) → Texts s → Texts (takes_of c n row s).state
takes_texts c n None s h = h
takes_texts c n (Some client) s h = client_left_texts client.about.phase (length (drop n client.due))
    (to_client c (hands n) s) (hands_texts c n s h)

puts_texts : (row : Option Client) (c n : ℕ) (s : State) → ClientTexts row → Texts s → Texts (puts_to row c n s).state
puts_texts None c n s texts h = h
puts_texts (Some client) c n s texts h =
    let listed : State = (lists_first c client.due client s).state in
    takes_texts c n (listed.clients c) listed (lists_texts c client.due client s texts h)

sends_texts : (t n : ℕ) (s : State) → Texts s → Texts (sends t n s)
sends_texts t n s h = link_texts t (link_hands n) s (λ x texts. record { rest = texts.rest; due = back_bytes n x.due texts.due }) h

-- ---- entries
-- the entries of a load, and hand-outs; what a client asks is of bytes
abbrev pub BringsTexts : State → Entry → Type 0
BringsTexts s (Join c) = Unit {0}
BringsTexts s (Read c bytes) = AreBytes bytes × AsksTexts s c bytes
BringsTexts s (End c Eof) = Unit {0}
BringsTexts s (Attach t kind serial) = Unit {0}
BringsTexts s (Recv t bytes) = AreBytes bytes
BringsTexts s (Put c bytes) = Unit {0}
BringsTexts s (Send t bytes) = Unit {0}
BringsTexts s _ = ⊥

rule_texts : (e : Entry) (s : State) → BringsTexts s e → Texts s → Texts (rule e s).state
rule_texts (Join c) s is h = joins_texts c s h
rule_texts (Read c bytes) s is h = reads_texts c bytes s is.0 is.1 h
rule_texts (End c Eof) s is h = leaves_texts (s.clients c) c s h
rule_texts (Attach t kind serial) s is h = plugs_texts t kind serial s h
rule_texts (Recv t bytes) s is h = receives_texts (s.links t) t bytes s is (h.links t) h
rule_texts (Put c bytes) s is h = puts_texts (s.clients c) c (length bytes) s (h.clients c) h
rule_texts (Send t bytes) s is h = sends_texts t (length bytes) s h
rule_texts _ s is h = absurd is

pub step_texts : (e : Entry) (s : State) → BringsTexts s e → Texts s → Texts (step s e).state
step_texts e s is h = ups_texts (rule e s).state.drawn (rule e s).state (rule_texts e s is h)
