-- The parts that a client is made of.
use Rattle.adb_client.specs.Client.{SeenClient}
use Rattle.adb_client.specs.declared.client.Client.TheInside.{Inside}

abbrev pub seen : Inside → SeenClient
seen c = record {
  about = c.parts.value.about;
  held = c.parts.value.input.held;
  ready = c.parts.value.input.ready;
  cuts = c.parts.value.input.cuts;
  due = c.parts.value.output.due;
  spare = c.parts.value.output.spare;
  places = c.parts.value.output.places;
}
