use Rattle.std.proofs.Common.{rules, ℕ, ◌≡◌, ◌∙◌, ap, refl, sym, subst, true, false, List}
use Rattle.adb_outside.specs.Tables.{at}
use Rattle.adb_capture.specs.declared.entry.Entry.TheVariants.{Bound}
use Rattle.adb_forward.specs.declared.row.ForwardRow.{ForwardRow}
use Rattle.adb_history.specs.Rows.{State}
use Rattle.adb_history.specs.Clients.{closes}
use Rattle.adb_hub_tables.specs.Tables.{state_of}
use Rattle.adb_hub_tables.specs.Places.{Uses}
use Rattle.adb_hub_tables.specs.Fit.{Keeps}
use Rattle.adb_hub_tables.proofs.Using.{uses_then}
use Rattle.adb_hub_clients.specs.Binding.{waits}
use Rattle.adb_hub_tables.proofs.Widening.{widened, same_port, kept_then, still_reached}
use Rattle.adb_hub_clients.proofs.Bounding.{idle_bound, heard}
use Rattle.adb_hub_clients.proofs.bounds.bind_client.Goals as goal

pub returns-then-not-waits-clause-made : goal.returns-then-not-waits-clause-made
returns-then-not-waits-clause-made c =
    let old = c.args.tables.now in
    let idle : waits ((state_of old).clients c.args.client) ≡ false = search rules in
    idle_bound old c.requires.fit c.requires.reached c.args.client c.args.port idle

pub returns-in_err-reserve_slices-clause-kept : goal.returns-in_err-reserve_slices-clause-kept
returns-in_err-reserve_slices-clause-kept c =
    let old = c.args.tables.now in
    let kept = widened old (record old { clients = c.reserve_slices.new.clients }) c.requires.fit
    (record { clients = c.reserve_slices.ensures.widens; links = λ k. same_port (at k old.links.entries); others = refl }) in
    search (rules, kept)

pub returns-in_err-reply-clause-kept : goal.returns-in_err-reply-clause-kept
returns-in_err-reply-clause-kept c =
    let old = c.args.tables.now in
    let mid = record old { clients = c.reserve_slices.new.clients } in
    let kept = widened old mid c.requires.fit
    (record { clients = c.reserve_slices.ensures.widens; links = λ k. same_port (at k old.links.entries); others = refl }) in
    let same : c.bind.new.tables ≡ mid =
    c.bind.ensures.others ∙ ap (λ (forwards : List (ℕ × ForwardRow)). record mid { forwards = forwards }) c.in_err-reply.ensures.err in
    let now = subst (Keeps old) (sym same) kept in
    search (rules, now)

pub returns-clause-made : goal.returns-clause-made
returns-clause-made c =
    let old = c.args.tables.now in
    let client = c.args.client in
    let mid = record old { clients = c.reserve_slices.new.clients } in
    let new = c.close_client.new.self in
    let kept = widened old mid c.requires.fit
    (record { clients = c.reserve_slices.ensures.widens; links = λ k. same_port (at k old.links.entries); others = refl }) in
    let there : waits ((state_of old).clients client) ≡ true = search rules in
    let uses : (t : ℕ) → Uses t 0 client 1 c.bind.new.tables new =
    λ t. uses_then (c.owe_client.ensures.uses t) (c.close_client.ensures.uses t client) in
    kept_then (Bound client c.args.port) old mid new kept
    (heard mid c.bind.new.tables new kept.fit (still_reached old mid kept c.requires.reached) client c.args.port
    c.in_ok-reply.reply (record {
      there = subst (λ (s : State). waits (s.clients client) ≡ true) (sym kept.state) there;
      bound = c.in_ok-reply.ensures.bound;
      others = c.bind.ensures.others;
      room = c.in_ok-reserve_slices.ensures.room;
      uses = uses;
      links = c.close_client.ensures.links ∙ c.owe_client.ensures.links;
      state = c.close_client.ensures.state ∙ ap (closes client) c.owe_client.ensures.state;
    }))
