use Rattle.std.proofs.Common.{rules, ℕ, ◌+◌, ◌≡◌, Option, ◌∙◌, ap, subst, arith}
use Rattle.std.specs.Prelude.{option_to_list}
use Rattle.std.proofs.lemmas.Result.{on_ok_weaker, IfOk-weaker}
use Rattle.adb_outside.specs.Tables.{at}
use Rattle.adb_stream.specs.declared.row.Stream.{Stream}
use Rattle.adb_hub_tables.specs.Tracked.{IsAmong}
use Rattle.adb_hub_rules.specs.Came.{packet_of}
use Rattle.adb_laws_resting.specs.Named.{granted_by}
use Rattle.adb_hub_links.specs.Reserving.{IsCutAt, writes_at, all_writes}
use Rattle.adb_hub_links.proofs.OnePacket.{cut_named}
use Rattle.adb_hub_links.proofs.one_packet.prepare_named.Goals as goal

pub returns-in-Some-clause-cut : goal.returns-in-Some-clause-cut
returns-in-Some-clause-cut c =
    let credit = granted_by c.args.came.now.head.command (packet_of c.args.came.now) in
    let streams = c.args.streams.now.streams in
    let clients = c.prepare_also.new.clients.entries in
    let row : c.copied.result ≡ at c.in-Some.id streams = search rules in
    on_ok_weaker c.prepare_also.result (λ cut l there. cut_named credit c.args.maxdata c.in-Some.id streams clients
    (subst (λ (n : ℕ). IsCutAt n c.args.maxdata (at c.in-Some.id streams) clients) c.granted_by-more.ensures
    (subst (λ (stream : Option Stream). IsCutAt c.granted_by-more.result c.args.maxdata stream clients) row cut))
    l (subst (λ (id : Option ℕ). IsAmong l (option_to_list id)) c.in-Some.is there)) c.prepare_also.ensures.cut

pub returns-in-Some-clause-writes : goal.returns-in-Some-clause-writes
returns-in-Some-clause-writes c =
    let credit = granted_by c.args.came.now.head.command (packet_of c.args.came.now) in
    let streams = c.args.streams.now.streams in
    let clients = c.args.clients.now.entries in
    let row : c.copied.result ≡ at c.in-Some.id streams = search rules in
    let same : writes_at c.granted_by-more.result c.args.maxdata c.copied.result clients
    ≡ writes_at (credit c.in-Some.id) c.args.maxdata (at c.in-Some.id streams) clients =
    ap (λ (n : ℕ). writes_at n c.args.maxdata c.copied.result clients) c.granted_by-more.ensures
    ∙ ap (λ (stream : Option Stream). writes_at (credit c.in-Some.id) c.args.maxdata stream clients) row in
    let one : all_writes credit c.args.maxdata (option_to_list c.args.id) streams clients
    ≡ writes_at (credit c.in-Some.id) c.args.maxdata (at c.in-Some.id streams) clients + 0 =
    ap (λ (id : Option ℕ). all_writes credit c.args.maxdata (option_to_list id) streams clients) c.in-Some.is in
    IfOk-weaker c.prepare_also.result _ _ (λ writes is. omega (arith, is, same, one)) c.prepare_also.ensures.writes
