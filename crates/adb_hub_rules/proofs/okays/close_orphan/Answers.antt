use Rattle.std.proofs.Common.{◌∙◌, ap}
use Rattle.adb_history.specs.Rows.{State}
use Rattle.adb_history.specs.Links.{close_packet, owe_link}
use Rattle.adb_hub_tables.proofs.Using.{uses_freed, spares_of, spares_uses}
use Rattle.adb_hub_rules.proofs.okays.close_orphan.Goals as goal

pub owe_close-requires : goal.owe_close-requires
owe_close-requires c = c.drop_stream.ensures.place c.requires.provided.counted 0 (c.requires.provided.links c.args.stream.now.link)

pub returns-clause-state : goal.returns-clause-state
returns-clause-state c =
    c.owe_close.ensures.state
    ∙ ap (λ (s : State). (owe_link c.args.stream.now.link (close_packet c.args.id c.args.remote) s).state) c.drop_stream.ensures.state

pub returns-clause-uses : goal.returns-clause-uses
returns-clause-uses c =
    let old = c.args.tables.now in
    let new = c.owe_close.new.self in
    let link = c.args.stream.now.link in
    let freed = uses_freed link 0 old c.drop_stream.new.self new (c.drop_stream.ensures.place c.requires.provided.counted)
    (c.drop_stream.ensures.uses link 0, c.owe_close.ensures.uses 0) in
    spares_uses old new (spares_of link 0 old new freed)
