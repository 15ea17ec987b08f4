-- Every text that a server of a load keeps is of bytes: what becomes due is of bytes too.
use Rattle.std.proofs.Common.{ℕ, ◌+◌, ◌≡◌, ◌<◌, Bool, true, false, cond, List, [], ◌∷◌, ◌++◌, take, drop, zero, suc, refl, ◌∙◌, ap}
use Rattle.std.proofs.Common.{arith, eqb}
use Rattle.std.specs.Prelude.{Option, Some, None, codes, option_and_then, option_map, ◌==◌}
use Rattle.std.specs.List.{flat_map}
use Rattle.std.proofs.lemmas.List.Elements.{All-nil, All-take, All-drop}
use Rattle.byteorder.specs.Endian.{little_bytes}
use Rattle.adb_outside.specs.Bytes.{AreBytes}
use Rattle.adb_outside.specs.Tables.{Rows}
use Rattle.adb_wire.specs.declared.packets.Packet.{Packet}
use Rattle.adb_wire.specs.Packet.{spelling, head_for}
use Rattle.adb_wire.specs.Header.{words_of}
use Rattle.adb_client.specs.declared.phase.Phase.{Phase}
use Rattle.adb_client.specs.declared.phase.Phase.TheVariants.{Opening, Streaming, Tracking}
use Rattle.adb_stream.specs.declared.row.Stream.{Stream}
use Rattle.adb_reply.specs.Strings.{failed}
use Rattle.adb_load.proofs.Records.{literal_bytes, words_bytes, joined_bytes as both_bytes}
use Rattle.adb_history.specs.Rows.{Client, Link, State, to_client, to_link, to_stream, none_kept, with_due, with_held, in_phase}
use Rattle.adb_history.specs.Rows.{with_link_due}
use Rattle.adb_history.specs.Events.{then_also, quietly}
use Rattle.adb_history.specs.declared.ending.Ending.{Ending}
use Rattle.adb_history.specs.Links.{open_packet, close_packet, owe_link, is_credit}
use Rattle.adb_history.specs.Clients.{closing_with, closing, closes, closes_with}
use Rattle.adb_history.specs.Streams.{opens, asks_for, no_ids_left, draw, loses, client_loses, tells_end, ends_row, ends_telling}
use Rattle.adb_history.specs.Streams.{ends_if_of, ends_of, all_end}
use Rattle.adb_history.specs.Streams.{stream_ids}
use Rattle.adb_history.specs.Tracking.{marked, marked_in, mark_all}
use Rattle.adb_history.specs.Losing.{forgets, link_ends}

-- ---- bytes
pub no_bytes : AreBytes []
no_bytes = All-nil (λ b. b < 256)

pub front_bytes : (n : ℕ) (text : List ℕ) → AreBytes text → AreBytes (take n text)
front_bytes n text = All-take (λ b. b < 256) n text

pub back_bytes : (n : ℕ) (text : List ℕ) → AreBytes text → AreBytes (drop n text)
back_bytes n text = All-drop (λ b. b < 256) n text

pub spelled_bytes : (p : Packet) (check : ℕ) → AreBytes p.payload → AreBytes (spelling p check)
spelled_bytes p check payload =
    both_bytes (flat_map (little_bytes 4) (words_of (head_for p check))) p.payload (words_bytes (words_of (head_for p check))) payload

-- ---- what is kept
-- a client that does not track
abbrev pub IsNoTracker : Phase → Type 0
IsNoTracker Tracking = ⊥
IsNoTracker _ = Unit {0}

pub record HasTexts (client : Client) : Type 0 where
  pub held : AreBytes client.held
  pub due : AreBytes client.due
  pub mark : client.about.mark ≡ false
  pub phase : IsNoTracker client.about.phase

abbrev pub ClientTexts : Option Client → Type 0
ClientTexts None = Unit {0}
ClientTexts (Some client) = HasTexts client

pub record HasLinkTexts (link : Link) : Type 0 where
  pub rest : AreBytes link.rest
  pub due : AreBytes link.due

abbrev pub LinkTexts : Option Link → Type 0
LinkTexts None = Unit {0}
LinkTexts (Some link) = HasLinkTexts link

-- the texts of some clients and links
pub record AreTexts (rows : Rows (Option Client)) (lines : Rows (Option Link)) : Type 0 where
  pub clients : (c : ℕ) → ClientTexts (rows c)
  pub links : (t : ℕ) → LinkTexts (lines t)

abbrev pub Texts : State → Type 0
Texts s = AreTexts s.clients s.links

-- ---- one row changes
pub client_texts : (c : ℕ) (f : Client → Option Client) (s : State) → ((x : Client) → s.clients c ≡ Some x → HasTexts x → ClientTexts (f x))
    → Texts s → Texts (to_client c f s)
client_texts c f s keeps h = record { clients = λ k. go k (eqb c k) refl; links = h.links }
  where
    by_row : (k : ℕ) (row : Option Client) → s.clients k ≡ row → eqb c k ≡ true → ClientTexts row → ClientTexts (option_and_then f row)
    by_row k None is same texts = tt
    by_row k (Some x) is same texts = keeps x (ap s.clients (grind (arith, same)) ∙ is) texts

    go : (k : ℕ) (b : Bool) → eqb c k ≡ b → ClientTexts (cond b (option_and_then f (s.clients k)) (s.clients k))
    go k true same = by_row k (s.clients k) refl same (h.clients k)
    go k false same = h.clients k

pub link_texts : (t : ℕ) (f : Link → Option Link) (s : State) → ((x : Link) → HasLinkTexts x → LinkTexts (f x))
    → Texts s → Texts (to_link t f s)
link_texts t f s keeps h = record { clients = h.clients; links = λ k. go k (eqb t k) }
  where
    by_row : (row : Option Link) → LinkTexts row → LinkTexts (option_and_then f row)
    by_row None texts = tt
    by_row (Some x) texts = keeps x texts

    go : (k : ℕ) (b : Bool) → LinkTexts (cond b (option_and_then f (s.links k)) (s.links k))
    go k true = by_row (s.links k) (h.links k)
    go k false = h.links k

pub owe_texts : (t : ℕ) (p : Packet) (s : State) → AreBytes p.payload → Texts s → Texts (owe_link t p s).state
owe_texts t p s payload h = link_texts t (with_link_due (spelling p _)) s (λ x texts. record {
  rest = texts.rest;
  due = both_bytes x.due (spelling p _) texts.due (spelled_bytes p _ payload);
}) h

pub due_texts : (c : ℕ) (bytes : List ℕ) (s : State) → AreBytes bytes → Texts s → Texts (to_client c (with_due bytes) s)
due_texts c bytes s are h = client_texts c (with_due bytes) s (λ x is texts. record {
  held = texts.held;
  due = both_bytes x.due bytes texts.due are;
  mark = texts.mark;
  phase = texts.phase;
}) h

pub held_texts : (c : ℕ) (bytes : List ℕ) (s : State) → AreBytes bytes → Texts s → Texts (to_client c (with_held bytes) s)
held_texts c bytes s are h = client_texts c (with_held bytes) s (λ x is texts. record {
  held = are;
  due = texts.due;
  mark = texts.mark;
  phase = texts.phase;
}) h

pub phase_texts : (c : ℕ) (phase : Phase) (s : State) → IsNoTracker phase → Texts s → Texts (to_client c (in_phase phase) s)
phase_texts c phase s free h = client_texts c (in_phase phase) s (λ x is texts. record {
  held = texts.held;
  due = texts.due;
  mark = texts.mark;
  phase = free;
}) h

pub closing_texts : (due : List ℕ) (client : Client) → AreBytes due → ClientTexts (closing_with due client)
closing_texts [] client are = tt
closing_texts (b ∷ due) client are = record { held = no_bytes; due = are; mark = refl; phase = tt }

pub closes_texts : (c : ℕ) (s : State) → Texts s → Texts (closes c s)
closes_texts c s h = client_texts c closing s (λ x is texts. closing_texts x.due x texts.due) h

pub closes_with_texts : (c : ℕ) (bytes : List ℕ) (s : State) → AreBytes bytes → Texts s → Texts (closes_with c bytes s).state
closes_with_texts c bytes s are h = closes_texts c (to_client c (with_due bytes) s) (due_texts c bytes s are h)

-- ---- streams
pub opens_texts : (c t : ℕ) (service : List ℕ) (s : State) → AreBytes service → Texts s → Texts (opens false c t service s).state
opens_texts c t service s are h = go (s.drawn == stream_ids)
  where
    asked : State
    asked = draw (is_credit t s.devices) c t s

    go : (full : Bool) → Texts (cond full (no_ids_left false c s) (asks_for (s.drawn + 1) c t service s)).state
    go true = closes_with_texts c (failed (codes "no stream ids left")).bytes s
        (literal_bytes (failed (codes "no stream ids left")).bytes refl) h
    go false = owe_texts t (open_packet (is_credit t s.devices) (s.drawn + 1) service)
        (to_client c (in_phase (Opening (s.drawn + 1))) asked)
        (both_bytes service (0 ∷ []) are (literal_bytes (0 ∷ []) refl)) (phase_texts c (Opening (s.drawn + 1)) asked tt h)

loses_texts : (forwarded : Bool) (phase : Phase) (c : ℕ) (s : State) → Texts s → Texts (loses forwarded phase c s).state
loses_texts forwarded (Streaming l) c s h = closes_texts c s h
loses_texts true (Opening l) c s h = closes_texts c s h
loses_texts false (Opening l) c s h = closes_with_texts c (failed (codes "closed")).bytes s
    (literal_bytes (failed (codes "closed")).bytes refl) h
loses_texts forwarded _ c s h = h

client_loses_texts : (row : Option Client) (c : ℕ) (s : State) → Texts s → Texts (client_loses row c s).state
client_loses_texts None c s h = h
client_loses_texts (Some client) c s h = loses_texts client.about.forwarded client.about.phase c s h

pub ends_row_texts : (l : ℕ) (ending : Ending) (stream : Stream) (s : State) → Texts s → Texts (ends_row l ending stream s).state
ends_row_texts l ending stream s h = go stream.part.orphan
  where
    go : (orphan : Bool) → Texts (then_also (tells_end orphan l ending (to_stream l none_kept s))
        (λ s. client_loses (s.clients stream.client) stream.client s)).state
    go true = client_loses_texts (s.clients stream.client) stream.client (to_stream l none_kept s) h
    go false = client_loses_texts (s.clients stream.client) stream.client (to_stream l none_kept s) h

pub ends_telling_texts : (l : ℕ) (ending : Ending) (stream : Stream) (s : State) → Texts s → Texts (ends_telling l ending stream s).state
ends_telling_texts l ending stream s h =
    let told : State = (owe_link stream.link (close_packet l stream.part.remote) s).state in
    ends_row_texts l ending stream told (owe_texts stream.link (close_packet l stream.part.remote) s no_bytes h)

ends_if_texts : (t l : ℕ) (ending : Ending) (row : Option Stream) (s : State) → Texts s → Texts (ends_if_of t l ending row s).state
ends_if_texts t l ending None s h = h
ends_if_texts t l ending (Some stream) s h = go (eqb stream.link t)
  where
    go : (b : Bool) → Texts (cond b (ends_row l ending stream s) (quietly s)).state
    go true = ends_row_texts l ending stream s h
    go false = h

ends_of_texts : (t k : ℕ) (ending : Ending) (s : State) → Texts s → Texts (ends_of t k ending s).state
ends_of_texts t zero ending s h = h
ends_of_texts t (suc k) ending s h =
    let before : State = (ends_of t k ending s).state in
    ends_if_texts t (suc k) ending (before.streams (suc k)) before (ends_of_texts t k ending s h)

pub all_end_texts : (t : ℕ) (ending : Ending) (s : State) → Texts s → Texts (all_end t ending s).state
all_end_texts t ending s h = ends_of_texts t s.drawn ending s h

marked_texts : (phase : Phase) (x : Client) → IsNoTracker phase → HasTexts x → HasTexts (marked_in phase x)
marked_texts Tracking x free texts = absurd free
marked_texts _ x free texts = texts

pub mark_all_texts : (s : State) → Texts s → Texts (mark_all s)
mark_all_texts s h = record { clients = λ c. go (s.clients c) (h.clients c); links = h.links }
  where
    go : (row : Option Client) → ClientTexts row → ClientTexts (option_map marked row)
    go None texts = tt
    go (Some x) texts = marked_texts x.about.phase x texts.phase texts

pub link_ends_texts : (t : ℕ) (ending : Ending) (s : State) → Texts s → Texts (link_ends t ending s).state
link_ends_texts t ending s h = mark_all_texts (all_end t ending (forgets t s)).state
    (all_end_texts t ending (forgets t s) (link_texts t none_kept s (λ x texts. tt) h))
