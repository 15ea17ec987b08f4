use Rattle.std.proofs.Common.{◌∙◌, ap, Option}
use Rattle.std.specs.Prelude.{option_map}
use Rattle.adb_outside.specs.Tables.{Rows, at}
use Rattle.adb_stream.specs.declared.row.Stream.{Stream}
use Rattle.adb_hub_tables.specs.declared.tables.Tables.{Tables}
use Rattle.adb_hub_tables.specs.Tables.{state_of}
use Rattle.adb_hub_tables.specs.Places.{freed}
use Rattle.adb_hub_tables.proofs.StreamRows.{gone_rows}
use Rattle.adb_hub_tables.proofs.Using.{Frees, gone_place, gone_spares, spares_uses}
use Rattle.adb_hub_tables.proofs.tables.Tables.drop_stream.Goals as goal

frees : (c : goal.After-free_place) → Frees c.args.stream.now.link c.args.id c.args.self.now c.free_place.new.self
frees c =
    let kept = c.remove_stream.ensures.rows in
    record {
      clients = c.free_place.ensures.clients ∙ ap (λ (t : Tables). t.clients) kept;
      trackers = c.free_place.ensures.trackers ∙ ap (λ (t : Tables). t.trackers.keys) kept;
      streams = c.free_place.ensures.streams ∙ ap (λ (t : Tables). t.streams) kept;
      here = c.free_place.ensures.here ∙ ap (λ (t : Tables). option_map freed (at c.args.stream.now.link t.links.entries)) kept;
      others = λ k other. c.free_place.ensures.others k other ∙ ap (λ (t : Tables). at k t.links.entries) kept;
    }

pub returns-clause-state : goal.returns-clause-state
returns-clause-state c =
    let old = c.args.self.now in
    c.free_place.ensures.state
    ∙ (ap state_of c.remove_stream.ensures.rows
    ∙ ap (λ (rows : Rows (Option Stream)). record (state_of old) { streams = rows })
    (gone_rows old.streams.streams c.args.id c.args.stream.now c.requires c.remove_stream.ensures.sound.rises))

pub returns-clause-uses : goal.returns-clause-uses
returns-clause-uses c =
    let old = c.args.self.now in
    spares_uses old c.free_place.new.self
    (gone_spares old c.free_place.new.self c.args.id c.args.stream.now c.requires (frees c) c.remove_stream.ensures.sound)

pub returns-clause-place : goal.returns-clause-place
returns-clause-place c = gone_place c.args.self.now c.free_place.new.self c.args.id c.args.stream.now c.requires (frees c)
