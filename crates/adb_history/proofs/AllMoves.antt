-- What each move keeps, each move of one client's turn keeps, whatever it touches.
use Rattle.std.proofs.Common.{◌≡◌, ℕ, Bool, true, false, cond, List, Option, Some, None}
use Rattle.std.specs.Prelude.{codes}
use Rattle.adb_stream.specs.declared.row.Stream.{Stream}
use Rattle.adb_history.specs.Rows.{Client, State}
use Rattle.adb_history.specs.Events.{Made, Event, quietly}
use Rattle.adb_history.specs.Clients.{owe_client}
use Rattle.adb_history.specs.Packets.{hears_okay, opened}
use Rattle.adb_history.specs.Moves.{After, Moves, Serves, serves, open_now}
use Rattle.adb_history.proofs.Following.{after_quietly, after_then, after_if}
use Rattle.adb_history.specs.Turns.{Scope, IsOpenedBy, Turns, Serving}

module _ {P : State → List Event → Type 0} (k : Serves P) where
  hears_kept : (o : Option Client) (c : ℕ) (s : State) (w : List Event) → P s w → After P w (hears_okay o c s)
  hears_kept None c s w h = after_quietly P w s h
  hears_kept (Some client) c s w h =
      after_if P w client.about.forwarded (quietly s) (owe_client c (codes "OKAY") s) (λ e. after_quietly P w s h)
      (λ e. k.due c (codes "OKAY") s w h)

  hears_row : (o : Option Client) (c l : ℕ) (s : State) (stream : Stream) → s.streams l ≡ Some stream
      → (hears_okay o c s).state.streams l ≡ Some stream
  hears_row None c l s stream is = is
  hears_row (Some client) c l s stream is = go client.about.forwarded
    where
      go : (b : Bool) → (cond b (quietly s) (owe_client c (codes "OKAY") s)).state.streams l ≡ Some stream
      go true = is
      go false = is

  opened_kept : (l remote : ℕ) (word : Option ℕ) (stream : Stream) (s : State) (w : List Event)
      → s.streams l ≡ Some stream → IsOpenedBy remote stream
      → P s w → After P w (opened l remote word stream s)
  opened_kept l remote word stream s w is by h =
      let heard : Made = hears_okay (s.clients stream.client) stream.client s in
      after_then P w heard (λ s. quietly (open_now l remote word stream s)) (hears_kept (s.clients stream.client) stream.client s w h)
      (λ v now. after_quietly P v (open_now l remote word stream heard.state)
      (k.opens l remote word stream heard.state v (hears_row (s.clients stream.client) stream.client l s stream is)
      (by.new, by.owned, by.by) now))

  -- what a hand-out, a piece and the up rule keep, whatever they touch
  pub all_served : (scope : Scope) (asker : ℕ) → Serving scope asker P
  all_served scope asker = record {
    owes = k.owes;
    replies = λ bytes s w h. k.due asker bytes s w h;
    unmarks = λ s w h. k.unmarks asker s w h;
    holds = k.holds;
    hands = k.hands;
    flows = k.flows;
    accepts = k.accepts;
    opened = λ l remote word stream s w is by may h. opened_kept l remote word stream s w is by h;
    orphan_goes = k.orphan_goes;
    ends = λ l ending stream s w is so h. k.ends l ending stream s w is h;
    links = k.links;
    link_ends = λ t ending s w told h. k.link_ends t ending s w h;
    online = λ t version maxdata identity s w may h. k.online t version maxdata identity s w h;
    unauthorized = k.unauthorized;
  }

module _ {P : State → List Event → Type 0} (k : Moves P) where
  pub all_moves : (scope : Scope) (asker : ℕ) → Turns scope asker P
  all_moves scope asker = record {
    owes = k.owes;
    replies = λ bytes s w h. k.due asker bytes s w h;
    tracks = λ client long s w is asking h. k.tracks asker client long s w is asking h;
    awaits = λ client want s w is asking h. k.awaits asker client want s w is asking h;
    unmarks = λ s w h. k.unmarks asker s w h;
    draws = λ t client s w is asking ready h. k.draws asker t client s w is asking ready h;
    stops = λ client s w may is asking h. k.stops asker client s w is asking h;
    closes = k.closes;
    drops = k.drops;
    holds = k.holds;
    input_ended = k.input_ended;
    hands = k.hands;
    flows = k.flows;
    accepts = k.accepts;
    opened = λ l remote word stream s w is by may h. opened_kept (serves k) l remote word stream s w is by h;
    orphan_goes = k.orphan_goes;
    ends = λ l ending stream s w is so h. k.ends l ending stream s w is h;
    fails_open = k.fails_open;
    fails_asked = λ c l failing s w may at h. k.fails_asked c l failing s w at h;
    links = k.links;
    link_ends = λ t ending s w told h. k.link_ends t ending s w h;
    online = λ t version maxdata identity s w may h. k.online t version maxdata identity s w h;
    unauthorized = k.unauthorized;
    forwards = k.forwards;
  }
