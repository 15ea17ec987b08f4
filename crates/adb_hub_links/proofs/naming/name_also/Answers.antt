use Rattle.std.proofs.Common.{sym, ◌∙◌}
use Rattle.adb_hub_links.specs.Naming.{named_on}
use Rattle.adb_hub_rules.specs.Came.{packet_of}
use Rattle.adb_hub_links.proofs.Namings.{names_one}
use Rattle.adb_hub_links.proofs.naming.name_also.Goals as goal

pub returns-in_ok-insert : goal.returns-in_ok-insert
returns-in_ok-insert c =
    let named = named_on c.args.link (packet_of c.args.came.now) c.args.streams.now.streams in
    names_one named c.in-Some.id c.args.ids.now.keys c.insert.new.self.keys (sym c.named_on.ensures ∙ c.in-Some.is)
    c.in_ok-insert.ensures.keys
