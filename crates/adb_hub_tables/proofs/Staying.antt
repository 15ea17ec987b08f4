-- What stays of streams, of clients and of links, in one rule and in one behind it.
use Rattle.std.proofs.Common.{◌≡◌, Option, Some, None, refl, ◌∙◌, arith, length}
use Rattle.adb_client.specs.Client.{SeenClient}
use Rattle.adb_stream.specs.declared.row.Stream.{Stream}
use Rattle.adb_hub_tables.specs.declared.ports.Port.{Port}
use Rattle.adb_hub_tables.specs.Places.{StaysOwned, HoldsAsReady, StaysHeld, StaysRead}

-- a stream keeps its owners
pub stays : (row : Option Stream) → StaysOwned row row
stays None = tt
stays (Some stream) = (refl, refl)

pub owned_then : (first second third : Option Stream) → StaysOwned first second → StaysOwned second third → StaysOwned first third
owned_then first second None h k = tt
owned_then None None (Some stream) h k = absurd k
owned_then None (Some middle) (Some stream) h k = absurd h
owned_then (Some old) None (Some stream) h k = absurd k
owned_then (Some old) (Some middle) (Some stream) h k = (k.0 ∙ h.0, k.1 ∙ h.1)

-- a client holds what it held
pub held_stays : (row : Option SeenClient) → StaysHeld row row
held_stays None = tt
held_stays (Some client) = record {
  held = omega arith;
  ready = λ _. omega arith;
  cuts = λ _. omega arith;
}

both_held : {old middle new : SeenClient} → HoldsAsReady old middle → HoldsAsReady middle new → HoldsAsReady old new
both_held {old} {middle} {new} h k = record {
  held = omega (arith, h.held, k.held);
  ready = λ same. omega (arith, h.ready (first same), k.ready (second same));
  cuts = λ same. omega (arith, h.cuts (first same), k.cuts (second same));
}
  where
    first : length new.held ≡ length old.held → length middle.held ≡ length old.held
    first same = omega (arith, h.held, k.held, same)

    second : length new.held ≡ length old.held → length new.held ≡ length middle.held
    second same = omega (arith, h.held, k.held, same)

pub held_then : (first second third : Option SeenClient) → StaysHeld first second → StaysHeld second third → StaysHeld first third
held_then first second None h k = tt
held_then None None (Some client) h k = absurd k
held_then None (Some middle) (Some client) h k = absurd h
held_then (Some old) None (Some client) h k = absurd k
held_then (Some old) (Some middle) (Some client) h k = both_held h k

-- what came in on a link stays as it was
pub read_stays : (port : Option Port) → StaysRead port port
read_stays None = tt
read_stays (Some port) = refl

pub read_then : (first second third : Option Port) → StaysRead first second → StaysRead second third → StaysRead first third
read_then first second None h k = tt
read_then None None (Some port) h k = absurd k
read_then None (Some middle) (Some port) h k = absurd h
read_then (Some old) None (Some port) h k = absurd k
read_then (Some old) (Some middle) (Some port) h k = k ∙ h
