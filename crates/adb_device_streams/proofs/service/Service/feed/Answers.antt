use Rattle.std.specs.Prelude.{OnOk, OnErr}
use Rattle.std.proofs.Common.{subst, sym}
use Rattle.adb_device_streams.specs.declared.service.Service.{Service}
use Rattle.adb_device_streams.specs.declared.service.Service.TheVariants as services
use Rattle.adb_device_streams.specs.Service.{Takes, TakesFront, came_over}
use Rattle.adb_device_streams.proofs.Taking.{sync_whole, sync_front, shell_whole, shell_front}
use Rattle.adb_device_streams.proofs.service.Service.feed.Goals as goal

pub returns-in-Sync-clause-whole : goal.returns-in-Sync-clause-whole
returns-in-Sync-clause-whole c =
    let came = came_over c.args.payload.now c.args.files.now in
    subst (λ (old : Service). OnOk c.feed.result (Takes came old (services.Sync c.feed.new.self) c.feed.new.files)) (sym c.in-Sync.is)
    (sync_whole came c.in-Sync.service c.feed.new.self c.feed.new.files c.feed.result c.feed.ensures.ok
    c.feed.ensures.served c.feed.ensures.dropped)

pub returns-in-Sync-clause-front : goal.returns-in-Sync-clause-front
returns-in-Sync-clause-front c =
    let came = came_over c.args.payload.now c.args.files.now in
    subst (λ (old : Service). OnErr c.feed.result (TakesFront came old (services.Sync c.feed.new.self) c.feed.new.files)) (sym c.in-Sync.is)
    (sync_front came c.in-Sync.service c.feed.new.self c.feed.new.files c.feed.result c.feed.ensures.front
    c.feed.ensures.dropped c.feed.ensures.stays)

pub returns-in-Shell-clause-whole : goal.returns-in-Shell-clause-whole
returns-in-Shell-clause-whole c =
    let came = came_over c.args.payload.now c.args.files.now in
    subst (λ (old : Service). OnOk c.feed-in-Shell.result
    (Takes came old (services.Shell c.feed-in-Shell.new.self) came.files)) (sym c.in-Shell.is)
    (shell_whole came c.in-Shell.service c.feed-in-Shell.new.self c.feed-in-Shell.result c.feed-in-Shell.ensures.whole)

pub returns-in-Shell-clause-front : goal.returns-in-Shell-clause-front
returns-in-Shell-clause-front c =
    let came = came_over c.args.payload.now c.args.files.now in
    subst (λ (old : Service). OnErr c.feed-in-Shell.result
    (TakesFront came old (services.Shell c.feed-in-Shell.new.self) came.files)) (sym c.in-Shell.is)
    (shell_front came c.in-Shell.service c.feed-in-Shell.new.self c.feed-in-Shell.result c.feed-in-Shell.ensures.front)
