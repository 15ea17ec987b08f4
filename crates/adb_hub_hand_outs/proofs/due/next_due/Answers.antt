use Rattle.std.proofs.Common.{refl}
use Rattle.adb_hub_tables.specs.First.{first_number}
use Rattle.adb_hub_hand_outs.specs.NextDue.{owes_client}
use Rattle.adb_hub_hand_outs.proofs.FirstDue.{link_next, client_next, clients_first}
use Rattle.adb_hub_hand_outs.proofs.due.next_due.Goals as goal

pub returns-in-Some-clause-owner : goal.returns-in-Some-clause-owner
returns-in-Some-clause-owner c =
    (link_next c.args.tables.now c.in-Some.id c.in-Some.ensures.first c.in-Some.ensures.rises c.requires.links).0

pub returns-in-Some-clause-entry : goal.returns-in-Some-clause-entry
returns-in-Some-clause-entry c =
    (link_next c.args.tables.now c.in-Some.id c.in-Some.ensures.first c.in-Some.ensures.rises c.requires.links).1

pub returns-in-None-clause-owner : goal.returns-in-None-clause-owner
returns-in-None-clause-owner c =
    let t = c.args.tables.now in
    let first = first_number owes_client t.clients.entries in
    rw c.client_due.ensures.first
    (client_next t first c.in-None.ensures.first (clients_first t first refl c.client_due.ensures.rises c.requires.clients)
    c.in-None.ensures.rises c.requires.links).0

pub returns-in-None-clause-entry : goal.returns-in-None-clause-entry
returns-in-None-clause-entry c =
    let t = c.args.tables.now in
    let first = first_number owes_client t.clients.entries in
    rw c.client_due.ensures.first
    (client_next t first c.in-None.ensures.first (clients_first t first refl c.client_due.ensures.rises c.requires.clients)
    c.in-None.ensures.rises c.requires.links).1
