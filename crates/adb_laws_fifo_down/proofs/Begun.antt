-- What is seen of a stream that was drawn just now.
use Rattle.std.proofs.Common.{ℕ, ◌+◌, ◌≡◌, ◌≢◌, ◌<◌, zero, suc, Bool, true, false, cond, List, Some, None, refl, sym, ◌∙◌, ap}
use Rattle.std.proofs.Common.{eqb, arith}
use Rattle.std.proofs.lemmas.Bool.{ne_eqb, eq-eqb}
use Rattle.std.specs.Prelude.{option_map}
use Rattle.adb_stream.specs.Flow.{new_flow}
use Rattle.adb_stream.specs.Stream.{new_stream}
use Rattle.adb_stream.specs.declared.row.Stream.{Stream}
use Rattle.adb_client.specs.declared.phase.Phase.{Phase}
use Rattle.adb_client.specs.declared.phase.Phase.TheVariants.{Asking, Opening, Streaming}
use Rattle.adb_wire.specs.declared.packets.Packet.{Packet}
use Rattle.adb_history.specs.Rows.{Client, State, in_phase}
use Rattle.adb_history.specs.Events.{Made, Event, due_to_link, owed_to, packets_to, ending_in}
use Rattle.adb_history.specs.Links.{open_packet, check_on, wants_sums, is_credit}
use Rattle.adb_history.specs.Streams.{draw, asks_for}
use Rattle.adb_history.specs.Orderly.{phase_for}
use Rattle.adb_history.specs.Owned.{OwnerIn, IsOwned}
use Rattle.adb_history.specs.Fifo.{okays_of}
use Rattle.adb_history.specs.Moves.{After}
use Rattle.adb_history.proofs.Following.{changed_here}
use Rattle.adb_laws_fifo_down.specs.Line.{Line, view, seen, seen_client, Apart, Shows}
use Rattle.adb_laws_fifo_down.proofs.Shown.{view_told, tells_nothing, quiet_link}

-- ---- whose clients the streams have
-- no stream has a client that asks
pub of_another : (s : State) (c : ℕ) (a : Client) (k : ℕ) (x : Stream) → IsOwned s → s.clients c ≡ Some a
    → a.about.phase ≡ Asking → s.streams k ≡ Some x
    → x.client ≢ c
of_another s c a k x owned is asking there same = by x.part.orphan ((owned.owned.stream k x there).owner)
  where
    not_asking : (remote : ℕ) (phase : Phase) → phase ≡ phase_for k remote → phase ≢ Asking
    not_asking zero phase e f = let clash : Opening k ≡ Asking = sym e ∙ f in cc
    not_asking (suc remote) phase e f = let clash : Streaming k ≡ Asking = sym e ∙ f in cc

    by : (orphan : Bool) → OwnerIn orphan s.clients k x → ⊥
    by true owner =
        let clash : None ≡ Some a = sym owner.1 ∙ (ap s.clients same ∙ is) in
        cc
    by false owner =
        let row : owner.client ≡ a = (let both : Some owner.client ≡ Some a = sym owner.is ∙ (ap s.clients same ∙ is) in cc) in
        not_asking x.part.remote a.about.phase (sym (ap (λ (y : Client). y.about.phase) row) ∙ owner.phase) asking

-- nor has one a client that did not come yet
pub of_older : (s : State) (c k : ℕ) (x : Stream) → IsOwned s → s.joined < c → s.streams k ≡ Some x → x.client ≢ c
of_older s c k x owned lt there same = omega (arith, lt, same, (owned.owned.stream k x there).from)

-- ---- a stream is drawn
module _ (c t : ℕ) (service : List ℕ) (s : State) where
  abbrev pub drawn_line : Line
  drawn_line = record { id = s.drawn + 1; client = c; link = t; from = s.drawn + 1 }

  abbrev pub new_row : Stream
  new_row = new_stream (s.drawn + 1) c t (new_flow (is_credit t s.devices))

  abbrev pub asking_made : Made
  asking_made = asks_for (s.drawn + 1) c t service s

  -- what is seen then
  pub drawn_shows : (a : Client) (w : List Event) → s.clients c ≡ Some a → ((k : ℕ) (x : Stream) → s.streams k ≡ Some x → x.client ≢ c)
      → After (Shows drawn_line (record {
        stream = Some (seen new_row);
        client = Some (record (seen_client a) { phase = Opening (s.drawn + 1) });
        output = owed_to c w;
        okays = okays_of (s.drawn + 1) (packets_to t w);
        ending = ending_in (s.drawn + 1) w;
      })) w asking_made
  drawn_shows a w is others = (
    apart,
    view_told drawn_line asking_made.state w said ∙ (tells_nothing drawn_line said _ (quiet_link drawn_line t asked _ refl)
        ∙ rows),
  )
    where
      asked : Packet
      asked = open_packet (is_credit t s.devices) (s.drawn + 1) service

      drawn : State
      drawn = draw (is_credit t s.devices) c t s

      said : Event
      said = due_to_link t (open_packet (is_credit t s.devices) (s.drawn + 1) service)
          (check_on (wants_sums (s.links t)) (open_packet (is_credit t s.devices) (s.drawn + 1) service))

      here : cond (eqb (s.drawn + 1) (s.drawn + 1)) (Some new_row) (s.streams (s.drawn + 1)) ≡ Some new_row
      here = ap (λ (b : Bool). cond b (Some new_row) (s.streams (s.drawn + 1))) (eq-eqb (s.drawn + 1) (s.drawn + 1) refl)

      rows : view drawn_line asking_made.state w ≡ record {
        stream = Some (seen new_row);
        client = Some (record (seen_client a) { phase = Opening (s.drawn + 1) });
        output = owed_to c w;
        okays = okays_of (s.drawn + 1) (packets_to t w);
        ending = ending_in (s.drawn + 1) w;
      }
      rows =
          let client = changed_here c (in_phase (Opening (s.drawn + 1))) s.clients a is in
          λ i. record {
            stream = option_map seen (here i);
            client = option_map seen_client (client i);
            output = owed_to c w;
            okays = okays_of (s.drawn + 1) (packets_to t w);
            ending = ending_in (s.drawn + 1) w;
          }

      new_is : (x : Stream) → cond (eqb (s.drawn + 1) (s.drawn + 1)) (Some new_row) (s.streams (s.drawn + 1)) ≡ Some x → new_row ≡ x
      new_is x e = let both : Some new_row ≡ Some x = sym here ∙ e in cc

      apart : Apart drawn_line (s.drawn + 1) asking_made.state.streams
      apart = record {
        others = λ k x e other. others k x
            (sym (ap (λ (b : Bool). cond b (Some new_row) (s.streams k))
            (ne_eqb (s.drawn + 1) k (λ f. other (sym f)))) ∙ e);
        client = λ x e. sym (ap (λ (y : Stream). y.client) (new_is x e));
        link = λ x e. sym (ap (λ (y : Stream). y.link) (new_is x e));
        born = omega arith;
      }
