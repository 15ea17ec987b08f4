use Rattle.std.proofs.Common.{rules, ◌∙◌, ap, refl, sym, subst, Option}
use Rattle.adb_outside.specs.Tables.{at}
use Rattle.adb_stream.specs.declared.row.Stream.{Stream}
use Rattle.adb_history.specs.Handing.{takes_of}
use Rattle.adb_hub_tables.specs.Tables.{state_of}
use Rattle.adb_hub_rules.specs.Handing.{HasRoom}
use Rattle.adb_hub_tables.proofs.Widening.{widened, like_clients, same_port}
use Rattle.adb_hub_hand_outs.proofs.Putting.{no_stream, put_of_list}
use Rattle.adb_hub_hand_outs.proofs.puts.put_list.Goals as goal

pub returns-in_err-owe_list-clause-kept : goal.returns-in_err-owe_list-clause-kept
returns-in_err-owe_list-clause-kept c =
    let old = c.args.tables.now in
    let new = record old { clients = c.owe_list.new.clients } in
    let kept = widened old new c.requires.fit (record {
      clients = like_clients old.clients.entries new.clients.entries c.in_err-owe_list.ensures.err;
      links = λ k. same_port (at k old.links.entries);
      others = refl;
    }) in
    search (rules, kept)

pub hand_client-requires-clause-place : goal.hand_client-requires-clause-place
hand_client-requires-clause-place c =
    let old = c.args.tables.now in
    let mid = record old { clients = c.owe_list.new.clients } in
    subst (λ (row : Option Stream). HasRoom 1 row mid)
    (sym (no_stream old mid c.requires.fit c.requires.reached c.args.client c.args.list.now
    (record { stale = c.requires.stale; lists = c.in_ok-owe_list.ensures.ok; others = refl }))) tt

pub returns-clause-made : goal.returns-clause-made
returns-clause-made c =
    let old = c.args.tables.now in
    let mid = record old { clients = c.owe_list.new.clients } in
    let state = c.hand_client.ensures.state
    ∙ ap (λ n. (takes_of c.args.client n ((state_of mid).clients c.args.client) (state_of mid)).state) c.len.ensures in
    put_of_list old mid c.requires.fit c.requires.reached c.args.client c.args.list.now
    (record { stale = c.requires.stale; lists = c.in_ok-owe_list.ensures.ok; others = refl })
    c.hand_client.new.tables c.own-bytes.result c.hand_client.ensures.uses state
