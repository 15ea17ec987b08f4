use Rattle.std.proofs.Common.{rules, ℕ, ◌≡◌, ◌∙◌, ap, refl, sym, subst, Some}
use Rattle.adb_outside.specs.Tables.{at, Puts}
use Rattle.adb_registry.specs.Registry.{DeviceTable}
use Rattle.adb_capture.specs.declared.entry.Entry.TheVariants.{Attach}
use Rattle.adb_hub_tables.specs.declared.ports.Port.{Port}
use Rattle.adb_hub_tables.specs.Fit.{Makes}
use Rattle.adb_hub_tables.proofs.Widening.{widened, same_client, like_ports}
use Rattle.adb_hub_links.proofs.Plugging.{Plugs, taken_out, plugged_fit, attached_by}
use Rattle.adb_hub_links.proofs.attaches.plug_in.Goals as goal

pub returns-in_err-put_port-clause-kept : goal.returns-in_err-put_port-clause-kept
returns-in_err-put_port-clause-kept c =
    let old = c.args.tables.now in
    let new = record old { links = c.put_port.new.links } in
    let entries : new.links.entries ≡ old.links.entries = search rules in
    let kept = widened old new c.requires.fit (record {
      clients = λ k. same_client (at k old.clients.entries);
      links = like_ports old.links.entries new.links.entries (λ k. ap (at k) entries);
      others = refl;
    }) in
    search (rules, kept)

pub returns-in-Ok-clause-made : goal.returns-in-Ok-clause-made
returns-in-Ok-clause-made c =
    let old = c.args.tables.now in
    let id = c.next_id-id.result in
    let mid = record old { links = c.put_port.new.links; devices = c.attach.new.self } in
    let row = subst (λ (port : Port). Puts id (Some port) old.links.entries mid.links.entries) c.in_ok-port.ensures
    c.in_ok-put_port.ensures.put in
    let plugs : Plugs old c.requires.reached c.next_id-id.ensures.rises id c.next_id-id.ensures.id c.requires.fit
    c.args.kind c.args.serial.now mid = record {
      link = row;
      others = ap (λ (devices : DeviceTable). record old { links = mid.links; devices = devices }) c.in-Ok.ensures.devices;
    } in
    let next = c.next_id-id.ensures.id in
    let rises = c.next_id-id.ensures.rises in
    let fit = plugged_fit old c.requires.reached rises id next c.requires.fit c.args.kind c.args.serial.now mid plugs in
    let made = attached_by old c.requires.reached rises id next c.requires.fit c.args.kind c.args.serial.now mid plugs c.mark_all.new.self
    c.mark_all.ensures.uses c.mark_all.ensures.links (c.mark_all.ensures.state fit.provided.tracked) in
    subst (λ (n : ℕ). Makes (Attach n c.args.kind c.args.serial.now) old c.mark_all.new.self) (next ∙ sym c.in-Ok.ensures.id) made

pub returns-in-Err-clause-kept : goal.returns-in-Err-clause-kept
returns-in-Err-clause-kept c =
    let old = c.args.tables.now in
    let id = c.next_id-id.result in
    let new = record old { links = c.take_port.new.links; devices = c.attach.new.self } in
    let row = subst (λ (port : Port). Puts id (Some port) old.links.entries c.put_port.new.links.entries)
    c.in_ok-port.ensures c.in_ok-put_port.ensures.put in
    let same = taken_out old c.requires.reached c.next_id-id.ensures.rises id c.next_id-id.ensures.id
    c.put_port.new.links.entries new.links.entries row
    c.take_port.ensures in
    widened old new c.requires.fit (record {
      clients = λ k. same_client (at k old.clients.entries);
      links = like_ports old.links.entries new.links.entries same;
      others = ap (λ (devices : DeviceTable). record old { links = new.links; devices = devices }) c.in-Err.ensures.err;
    })
