-- Behind a piece only the streams that its packets name may send up, and what is still there is as it was.
use Rattle.std.proofs.Common.{ℕ, ◌≡◌, ◌<◌, ◌≤◌, ◌⊎◌, inl, inr, true, false, zero, suc, List, Option, Some, None, refl, sym, ◌∙◌, ap, subst}
use Rattle.std.proofs.Common.{arith}
use Rattle.std.specs.Prelude.{is_some, option_map, unwrap_or}
use Rattle.adb_registry.specs.declared.row.Row.{Row}
use Rattle.adb_wire.specs.declared.packets.Packet.{Packet}
use Rattle.adb_stream.specs.declared.row.Stream.{Stream}
use Rattle.adb_client.specs.declared.phase.Phase.{Phase}
use Rattle.adb_client.specs.declared.phase.Phase.TheVariants.{Streaming}
use Rattle.adb_history.specs.Rows.{Client, Link, State, to_link}
use Rattle.adb_history.specs.Links.{maxdata_of}
use Rattle.adb_history.specs.Flow.{payloads, is_over, is_streaming}
use Rattle.adb_history.specs.Machine.{History, state, IsLegal}
use Rattle.adb_history.specs.Packets.{treat_all, with_rest, receives}
use Rattle.adb_history.specs.Linked.{IsLinked}
use Rattle.adb_history.proofs.LinkMoves.{all_linked}
use Rattle.adb_history.proofs.OrderlyStates.{rests_calm}
use Rattle.adb_history.proofs.Quiet.{IsCalm, IsCalmAt}
use Rattle.adb_history.proofs.Sweep.{Sending}
use Rattle.adb_hub_tables.specs.Tracked.{IsAmong}
use Rattle.adb_hub_rules.specs.Up.{is_for}
use Rattle.adb_hub_rules.specs.Sweep.{HasNothingUp, IsStillFor, IsStillOf, IsStill, CoversUp}
use Rattle.adb_laws_resting.specs.Named.{named_by, granted, cut_behind, HoldsAs, AllStay, KeepsStreams, AreNamed, LeavesStill}
use Rattle.adb_laws_resting.proofs.NamedRows.{LetsSame, StreamWas, ClientWas}
use Rattle.adb_laws_resting.proofs.NamedRules.{PassesWith}
use Rattle.adb_laws_resting.proofs.NamedPackets.{AllNamed, treats_all, rests_treat, receives_passes}

-- ---- at rest
pub all_still : (h : History) → IsLegal h → (l : ℕ) → IsStill l (state h)
all_still h legal zero =
    subst (λ (row : Option Stream). IsStillOf 0 row (state h)) (sym (all_linked h legal).owned.rows.streams.zero) tt
all_still h legal (suc l) = at_row ((state h).streams (suc l)) refl
  where
    calm : IsCalmAt (suc l) (state h)
    calm = rests_calm h legal (suc l) (omega arith)

    at_row : (row : Option Stream) → (state h).streams (suc l) ≡ row → IsStillOf (suc l) row (state h)
    at_row None there = tt
    at_row (Some stream) there = at_client ((state h).clients stream.client) refl
      where
        at_client : (row : Option Client) → (state h).clients stream.client ≡ row → IsStillFor (suc l) (state h).devices stream row
        at_client None here = tt
        at_client (Some client) here = λ streaming.
            let sending : Sending (suc l) (state h) =
            record { stream = stream; client = client; there = there; here = here; streaming = streaming } in
            let quiet : IsCalm (state h).devices client stream = calm.calm sending in
            record { nothing = quiet.nothing; goes_on = quiet.goes_on }

-- ---- what passes
-- a client that has a stream open has it
has_open : (l : ℕ) (phase : Phase) → is_streaming l phase ≡ true → is_for l phase ≡ true
has_open l (Streaming k) is = is
has_open l _ is = absurd (let clash : false ≡ true = is in cc)

module _ (ids : List ℕ) (more : ℕ → ℕ) (s now : State) (h : PassesWith ids more s now) where
  same_maxdata : (l : ℕ) (stream : Stream) → now.streams l ≡ Some stream
      → maxdata_of stream.link now.devices ≡ maxdata_of stream.link s.devices
  same_maxdata l stream is = ap (λ (o : Option Row). unwrap_or (option_map (λ row. row.maxdata) o) 0) (h.devices l stream is)

  pub all_stay : AllStay more s now
  all_stay l stream is =
      let was = h.rows.streams l stream is in
      record {
        old = was.old;
        is = was.is;
        client = was.client;
        link = was.link;
        id = was.id;
        credit = was.credit;
        most = was.most;
        maxdata = same_maxdata l stream is;
        owner = λ client there. holds (h.rows.clients stream.client client there);
      }
    where
      holds : {before : Option Client} {client : Client} → ClientWas ids before client → HoldsAs l before client
      holds was = record { old = was.old; is = was.is; held = λ has. (was.had l has).held }

  -- a stream that is still and not named stays so
  module _ (l : ℕ) (none : IsAmong l ids → ⊥) (still : IsStill l s) where
    client_still : (stream : Stream) → now.streams l ≡ Some stream → (client : Client) → now.clients stream.client ≡ Some client
        → is_streaming l client.about.phase ≡ true → HasNothingUp now.devices client stream
    client_still stream is client there streaming = record {
      nothing = lets.payloads (maxdata_of stream.link now.devices) client.held
          ∙ (ap (λ maxdata. payloads was.old.part.flow maxdata client.held) maxdata
          ∙ (ap (payloads was.old.part.flow (maxdata_of was.old.link s.devices)) held ∙ before.nothing));
      goes_on = lets.over client.about.ended client.held
          ∙ (ap (λ ended. is_over ended client.held was.old.part.flow) owner.ended
          ∙ (ap (λ bytes. is_over owner.old.about.ended bytes was.old.part.flow) held ∙ before.goes_on));
    }
      where
        was : StreamWas ids l (more l) (s.streams l) stream
        was = h.rows.streams l stream is

        owner : ClientWas ids (s.clients stream.client) client
        owner = h.rows.clients stream.client client there

        lets : LetsSame was.old.part.flow stream.part.flow
        lets = was.lets none

        maxdata : maxdata_of stream.link now.devices ≡ maxdata_of was.old.link s.devices
        maxdata = same_maxdata l stream is ∙ ap (λ t. maxdata_of t s.devices) was.link

        held : client.held ≡ owner.old.held
        held = (owner.had l (has_open l client.about.phase streaming)).held

        before : HasNothingUp s.devices owner.old was.old
        before =
            subst (IsStillFor l s.devices was.old) (ap s.clients (sym was.client) ∙ owner.is)
            (subst (λ (row : Option Stream). IsStillOf l row s) was.is still) (owner.open_before l none streaming)

    pub stays_still : IsStill l now
    stays_still = at_row (now.streams l) refl
      where
        at_row : (row : Option Stream) → now.streams l ≡ row → IsStillOf l row now
        at_row None is = tt
        at_row (Some stream) is = at_client (now.clients stream.client) refl
          where
            at_client : (row : Option Client) → now.clients stream.client ≡ row → IsStillFor l now.devices stream row
            at_client None there = tt
            at_client (Some client) there = client_still stream is client there

-- ---- behind packets
-- all that packets name are among them
all_among : (t : ℕ) (s : State) (named : List ℕ) → AllNamed named t s named
all_among t s named l among stream is of = among

keeps_streams : (packets : List Packet) (s now : State) → PassesWith (named_by packets) (granted packets) s now → KeepsStreams packets s now
keeps_streams packets s now h = record {
  stays = all_stay (named_by packets) (granted packets) s now h;
  still = λ l none still. stays_still (named_by packets) (granted packets) s now h l none still;
}

pub treated_keep : (t : ℕ) (packets : List Packet) (s : State) → IsLinked s → KeepsStreams packets s (treat_all t packets s).state
treated_keep t packets s h =
    keeps_streams packets s (treat_all t packets s).state
    (treats_all (named_by packets) t packets s h (all_among t s (named_by packets))).passes

pub rested_keep : (t : ℕ) (rest : List ℕ) (packets : List Packet) (s : State) → IsLinked s
    → KeepsStreams packets s (treat_all t packets (to_link t (with_rest rest) s)).state
rested_keep t rest packets s h =
    keeps_streams packets s (treat_all t packets (to_link t (with_rest rest) s)).state
    (rests_treat (named_by packets) t rest packets s h (all_among t s (named_by packets))).passes

-- ---- behind a piece
order : (a b : ℕ) → (a ≤ b) ⊎ (b < a)
order a b = grind arith

-- a stream that lives was drawn
drawn_live : (s : State) → IsLinked s → (l : ℕ) → is_some (s.streams l) ≡ true → (0 < l) × (l ≤ s.drawn)
drawn_live s h l live = (some l live, go (order l s.drawn))
  where
    some : (l : ℕ) → is_some (s.streams l) ≡ true → 0 < l
    some zero live = absurd (let clash : false ≡ true = ap is_some (sym h.owned.rows.streams.zero) ∙ live in cc)
    some (suc l) live = omega arith

    go : (l ≤ s.drawn) ⊎ (s.drawn < l) → l ≤ s.drawn
    go (inl within) = within
    go (inr above) = absurd (let clash : false ≡ true = ap is_some (sym (h.owned.rows.streams.above l above)) ∙ live in cc)

module _ (t : ℕ) (bytes : List ℕ) (link : Link) (s : State) (h : IsLinked s) (here : s.links t ≡ Some link) where
  abbrev named : List ℕ
  named = named_by (cut_behind link bytes).given

  abbrev now : State
  now = (receives t bytes s).state

  pub received_keep : KeepsStreams (cut_behind link bytes).given s now
  received_keep = keeps_streams (cut_behind link bytes).given s now (receives_passes named t bytes link s h here (all_among t s named))

  -- where each stream was still, these ids are all that may send up
  covers : ((l : ℕ) → IsStill l s) → (ids : List ℕ) → AreNamed (cut_behind link bytes).given t s ids → CoversUp ids now.drawn now
  covers still ids are = record {
    within = λ l among. (let drawn = drawn_live s h l (are.live l among) in (drawn.0, omega (arith, drawn.1, passes.rows.drawn)));
    still = λ l none. stays_still ids (granted (cut_behind link bytes).given) s now passes l none (still l);
  }
    where
      passes : PassesWith ids (granted (cut_behind link bytes).given) s (receives t bytes s).state
      passes = receives_passes ids t bytes link s h here (λ l among stream is of. are.all l stream among is of)

  pub leaves_still : ((l : ℕ) → IsStill l s) → LeavesStill t bytes link s
  leaves_still still = record {
    stays = received_keep.stays;
    still = λ l none. received_keep.still l none (still l);
    covers = covers still;
  }

-- ---- in every legal history
pub all_leave_still : (h : History) → IsLegal h → (t : ℕ) (link : Link) → (state h).links t ≡ Some link
    → (bytes : List ℕ) → LeavesStill t bytes link (state h)
all_leave_still h legal t link here bytes = leaves_still t bytes link (state h) (all_linked h legal) here (all_still h legal)
