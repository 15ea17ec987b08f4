use Rattle.std.proofs.Common.{refl, sym, ◌∙◌, ap}
use Rattle.std.proofs.lemmas.Result.{on_ok_weaker, on_err_weaker}
use Rattle.std.specs.Option.{option_copied}
use Rattle.adb_hub_tables.specs.declared.tables.Tables.{Tables}
use Rattle.adb_capture.specs.declared.entry.Entry.TheVariants.{Recv}
use Rattle.adb_hub_tables.specs.Fit.{Keeps}
use Rattle.adb_hub_links.proofs.Keeping.{on_err, on_ok, keeps_then, makes_then, tells_then}
use Rattle.adb_hub_links.proofs.Received.{Comes, all_cut, rest_cut, comes_kept, in_range, read_out, piece_leaves, piece_made, piece_told}
use Rattle.adb_hub_links.proofs.Waited.{gone_made, gone_told, waited_made, waited_told, same_kept}
use Rattle.adb_hub_links.proofs.receiving.recv_piece.Goals as goal

pub returns-in_default-clause-made : goal.returns-in_default-clause-made
returns-in_default-clause-made c =
    gone_made c.args.link c.args.piece.now c.args.tables.now c.requires.fit c.requires.reached
    (sym c.get.ensures.value ∙ ap option_copied c.in_default.is)

pub returns-in_default-clause-told : goal.returns-in_default-clause-told
returns-in_default-clause-told c =
    gone_told c.args.link c.args.piece.now c.args.tables.now c.args.ends.now c.requires.reached
    (sym c.get.ensures.value ∙ ap option_copied c.in_default.is)

pub returns-then-piece-missing-clause-told : goal.returns-then-piece-missing-clause-told
returns-then-piece-missing-clause-told c =
    let comes : Comes c.args.link c.args.piece.now c.args.tables.now c.in-Some.port.now = record {
      fit = c.requires.fit;
      reached = c.requires.reached;
      may = c.requires.may;
      range = in_range c.args.link c.args.piece.now c.ranges.link.fits (λ i. (c.type_inv.piece i).fits);
      here = sym c.get.ensures.value ∙ ap option_copied c.in-Some.is;
    } in
    let waits = c.missing.ensures.short (read_out comes).sound c.args.piece.now c.if-piece-missing.true in
    on_ok c.wait.result _ (waited_told comes waits c.args.ends.now)

pub returns-then-piece-missing-clause-made : goal.returns-then-piece-missing-clause-made
returns-then-piece-missing-clause-made c =
    let new : Tables = record c.args.tables.now { links = c.wait.new.links } in
    let comes : Comes c.args.link c.args.piece.now c.args.tables.now c.in-Some.port.now = record {
      fit = c.requires.fit;
      reached = c.requires.reached;
      may = c.requires.may;
      range = in_range c.args.link c.args.piece.now c.ranges.link.fits (λ i. (c.type_inv.piece i).fits);
      here = sym c.get.ensures.value ∙ ap option_copied c.in-Some.is;
    } in
    let waits = c.missing.ensures.short (read_out comes).sound c.args.piece.now c.if-piece-missing.true in
    on_ok_weaker c.wait.result (λ here. waited_made comes waits new refl here c.wait.ensures.apart) c.wait.ensures.here

pub returns-then-piece-missing-clause-kept : goal.returns-then-piece-missing-clause-kept
returns-then-piece-missing-clause-kept c =
    let old = c.args.tables.now in
    on_err_weaker c.wait.result (same_kept old (record old { links = c.wait.new.links }) c.requires.fit refl) c.wait.ensures.kept

pub returns-in_err-incoming-clause-kept : goal.returns-in_err-incoming-clause-kept
returns-in_err-incoming-clause-kept c =
    let old = c.args.tables.now in
    let middle : Tables = record old { links = c.with_piece.new.links } in
    on_err c.from_residual.result (Keeps old middle) (same_kept old middle c.requires.fit refl c.with_piece.ensures.stays)

pub returns-in_err-cutting-clause-kept : goal.returns-in_err-cutting-clause-kept
returns-in_err-cutting-clause-kept c =
    let old = c.args.tables.now in
    let middle : Tables = record old { links = c.with_piece.new.links } in
    on_err c.from_residual-in_err-cutting.result (Keeps old middle) (same_kept old middle c.requires.fit refl c.with_piece.ensures.stays)

pub take-requires-clause-leaves : goal.take-requires-clause-leaves
take-requires-clause-leaves c =
    let old = c.args.tables.now in
    let middle : Tables = record old { links = c.with_piece.new.links } in
    let here = sym c.get.ensures.value ∙ ap option_copied c.in-Some.is in
    let kept = same_kept old middle c.requires.fit refl c.with_piece.ensures.stays in
    let comes : Comes c.args.link c.args.piece.now old c.in-Some.port.now = record {
      fit = c.requires.fit;
      reached = c.requires.reached;
      may = c.requires.may;
      range = in_range c.args.link c.args.piece.now c.ranges.link.fits (λ i. (c.type_inv.piece i).fits);
      here = here;
    } in
    let cut = all_cut c.in_ok-cutting.ensures ∙ c.in_ok-incoming.ensures.next c.in-Some.port.now here in
    piece_leaves (comes_kept comes kept (c.with_piece.ensures.stays c.args.link ∙ here)) cut

pub returns-clause-made : goal.returns-clause-made
returns-clause-made c =
    let old = c.args.tables.now in
    let middle : Tables = record old { links = c.with_piece.new.links } in
    let here = sym c.get.ensures.value ∙ ap option_copied c.in-Some.is in
    let kept = same_kept old middle c.requires.fit refl c.with_piece.ensures.stays in
    let comes : Comes c.args.link c.args.piece.now old c.in-Some.port.now = record {
      fit = c.requires.fit;
      reached = c.requires.reached;
      may = c.requires.may;
      range = in_range c.args.link c.args.piece.now c.ranges.link.fits (λ i. (c.type_inv.piece i).fits);
      here = here;
    } in
    let cut = all_cut c.in_ok-cutting.ensures ∙ c.in_ok-incoming.ensures.next c.in-Some.port.now here in
    let now = comes_kept comes kept (c.with_piece.ensures.stays c.args.link ∙ here) in
    let rest = rest_cut c.in_ok-cutting.ensures in
    on_ok_weaker c.take.result (λ settled. makes_then kept (piece_made now cut rest c.take.new.tables settled)) c.take.ensures.settled

pub returns-clause-told : goal.returns-clause-told
returns-clause-told c =
    let old = c.args.tables.now in
    let middle : Tables = record old { links = c.with_piece.new.links } in
    let here = sym c.get.ensures.value ∙ ap option_copied c.in-Some.is in
    let kept = same_kept old middle c.requires.fit refl c.with_piece.ensures.stays in
    let comes : Comes c.args.link c.args.piece.now old c.in-Some.port.now = record {
      fit = c.requires.fit;
      reached = c.requires.reached;
      may = c.requires.may;
      range = in_range c.args.link c.args.piece.now c.ranges.link.fits (λ i. (c.type_inv.piece i).fits);
      here = here;
    } in
    let cut = all_cut c.in_ok-cutting.ensures ∙ c.in_ok-incoming.ensures.next c.in-Some.port.now here in
    let now = comes_kept comes kept (c.with_piece.ensures.stays c.args.link ∙ here) in
    on_ok_weaker c.take.result (λ told. tells_then (Recv c.args.link c.args.piece.now) kept (piece_told now cut told)) c.take.ensures.told

pub returns-clause-kept : goal.returns-clause-kept
returns-clause-kept c =
    let old = c.args.tables.now in
    let middle : Tables = record old { links = c.with_piece.new.links } in
    let kept = same_kept old middle c.requires.fit refl c.with_piece.ensures.stays in
    on_err_weaker c.take.result (keeps_then kept) c.take.ensures.kept
