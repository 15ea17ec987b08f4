use Rattle.std.proofs.Common.{rules, ◌≡◌, ap, refl}
use Rattle.adb_outside.specs.Tables.{at}
use Rattle.adb_hub_tables.proofs.Widening.{widened, like_clients, same_port}
use Rattle.adb_hub_clients.proofs.Joining.{joined}
use Rattle.adb_hub_clients.proofs.joins.join.Goals as goal

pub returns-in_err-put_client-clause-kept : goal.returns-in_err-put_client-clause-kept
returns-in_err-put_client-clause-kept c =
    let old = c.args.tables.now in
    let entries : c.put_client.new.clients.entries ≡ old.clients.entries = search rules in
    let new = record old { clients = c.put_client.new.clients } in
    let kept = widened old new c.requires.fit (record {
      clients = like_clients old.clients.entries new.clients.entries (λ k. ap (at k) entries);
      links = λ k. same_port (at k old.links.entries);
      others = refl;
    }) in
    search (rules, kept)

pub returns-clause-made : goal.returns-clause-made
returns-clause-made c =
    let old = c.args.tables.now in
    joined c.args.client old _ c.requires.fit c.requires.reached (record {
      next = c.requires.next;
      row = search rules;
      others = refl;
    })
