-- What goes up: each write has bytes, and so costs no toll.
use Rattle.std.specs.Prelude.{ℕ, ◌-◌, ◌≡◌, ◌≤◌, zero, suc, Bool, true, false, cond, List, [], ◌∷◌, length, take, drop, Option, Some, None}
use Rattle.std.proofs.Common.{refl, arith}
use Rattle.adb_stream.specs.declared.flow.Flow.{Flow}
use Rattle.adb_stream.specs.declared.flow.Flow.TheVariants.{One, Credit}
use Rattle.adb_stream.specs.declared.row.Stream.{Stream}
use Rattle.adb_wire.specs.declared.command.Command.TheVariants.{Wrte}
use Rattle.adb_history.specs.Rows.{Client, State, with_stream_part}
use Rattle.adb_history.specs.Events.{quietly}
use Rattle.adb_history.specs.declared.ending.Ending.TheVariants.{ClientClosed}
use Rattle.adb_history.specs.Links.{maxdata_of}
use Rattle.adb_history.specs.Flow.{write_len, write_before, writes, payloads, total, with_flow, goes_up, all_go_up, flow_after, noted}
use Rattle.adb_history.specs.Flow.{is_over, closes_if, sends_up}
use Rattle.adb_history.specs.Flow.{is_streaming, up_client, up_stream, up, up_all}
use Rattle.adb_laws_steps.specs.Tolls.{toll}
use Rattle.adb_laws_steps.proofs.Costs.{InRange, Costs, Quiets, costs_quiet, costs_aside, costs_then, costs_after, quiets_row}
use Rattle.adb_laws_steps.proofs.Ends.{ends_telling_costs}

-- writes that have bytes
abbrev AllSome : List (List ℕ) → Type 0
AllSome [] = Unit {0}
AllSome (payload ∷ payloads) = (toll Wrte payload ≡ 0) × AllSome payloads

some_toll : (n : ℕ) (held : List ℕ) → suc n ≤ length held → toll Wrte (take (suc n) held) ≡ 0
some_toll n [] le = absurd (omega (arith, le))
some_toll n (b ∷ held) le = refl

before_some : (n : ℕ) (held : List ℕ) (others : List (List ℕ)) → n ≤ length held → AllSome others → AllSome (write_before n held others)
before_some zero held others le all = tt
before_some (suc n) held others le all = (some_toll n held le, all)

writes_some : (k maxdata credit : ℕ) (held : List ℕ) → AllSome (writes k maxdata credit held)
writes_some zero maxdata credit held = tt
writes_some (suc k) maxdata credit held =
    before_some (write_len maxdata credit held) held _ (omega arith)
    (writes_some k maxdata (credit - write_len maxdata credit held) (drop (write_len maxdata credit held) held))

payloads_some : (flow : Flow) (maxdata : ℕ) (held : List ℕ) → AllSome (payloads flow maxdata held)
payloads_some (One window) maxdata held = go window.outstanding
  where
    go : (b : Bool) → AllSome (cond b [] (writes 1 maxdata maxdata held))
    go true = tt
    go false = writes_some 1 maxdata maxdata held
payloads_some (Credit credit) maxdata held = writes_some (length held) maxdata credit.to_send held

all_go_up_costs : (l : ℕ) (stream : Stream) (all : List (List ℕ)) (s : State) → InRange s → AllSome all
    → Costs 0 0 s (all_go_up l stream all s)
all_go_up_costs l stream [] s range some = costs_quiet s range
all_go_up_costs l stream (payload ∷ more) s range some =
    costs_then 0 0 0 0 s (goes_up l stream payload s) (all_go_up l stream more)
    (let e = some.0 in costs_aside 0 s (goes_up l stream payload s) range refl refl (omega (arith, e)))
    (λ later. all_go_up_costs l stream more _ later some.1)

closes_if_costs : (over : Bool) (l : ℕ) (o : Option Stream) (s : State) → InRange s → s.streams l ≡ o → Costs 0 0 s (closes_if over l o s)
closes_if_costs over l None s range is = costs_quiet s range
closes_if_costs false l (Some stream) s range is = costs_quiet s range
closes_if_costs true l (Some stream) s range is = ends_telling_costs l ClientClosed stream s range is

sends_up_costs : (l : ℕ) (stream : Stream) (client : Client) (all : List (List ℕ)) (s : State) → InRange s → AllSome all
    → Costs 0 0 s (sends_up l stream client all s)
sends_up_costs l stream client all s range some =
    costs_then 0 0 0 0 s (all_go_up l stream all (noted l stream client.held all s))
    (λ (x : State). closes_if
    (is_over client.about.ended (drop (total all) client.held) (flow_after all stream.part.flow)) l
    (x.streams l) x)
    (costs_after 0 0 0 s (noted l stream client.held all s) _ quiet
    (λ later. all_go_up_costs l stream all (noted l stream client.held all s) later some))
    (λ later. closes_if_costs (is_over client.about.ended (drop (total all) client.held) (flow_after all stream.part.flow)) l
    ((all_go_up l stream all (noted l stream client.held all s)).state.streams l)
    (all_go_up l stream all (noted l stream client.held all s)).state
    later refl)
  where
    quiet : Quiets 0 s (noted l stream client.held all s)
    quiet =
        let row = quiets_row s range l (with_stream_part (with_flow (flow_after all stream.part.flow) stream.part)) in
        record { range = row.range; cost = row.cost }

up_client_costs : (l : ℕ) (stream : Stream) (o : Option Client) (s : State) → InRange s → Costs 0 0 s (up_client l stream o s)
up_client_costs l stream None s range = costs_quiet s range
up_client_costs l stream (Some client) s range = go (is_streaming l client.about.phase)
  where
    go : (b : Bool)
        → Costs 0 0 s
        (cond b (sends_up l stream client (payloads stream.part.flow (maxdata_of stream.link s.devices) client.held)
        s) (quietly s))
    go true = sends_up_costs l stream client _ s range (payloads_some stream.part.flow (maxdata_of stream.link s.devices) client.held)
    go false = costs_quiet s range

up_stream_costs : (l : ℕ) (o : Option Stream) (s : State) → InRange s → Costs 0 0 s (up_stream l o s)
up_stream_costs l None s range = costs_quiet s range
up_stream_costs l (Some stream) s range = up_client_costs l stream (s.clients stream.client) s range

pub up_all_costs : (k : ℕ) (s : State) → InRange s → Costs 0 0 s (up_all k s)
up_all_costs zero s range = costs_quiet s range
up_all_costs (suc k) s range =
    costs_then 0 0 0 0 s (up_all k s) (up (suc k)) (up_all_costs k s range)
    (λ later. up_stream_costs (suc k) ((up_all k s).state.streams (suc k)) (up_all k s).state later)
