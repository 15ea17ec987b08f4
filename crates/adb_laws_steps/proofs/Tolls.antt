-- The tolls of whole histories, entry by entry.
use Rattle.std.specs.Prelude.{ℕ, ◌+◌, ◌*◌, ◌≡◌, All, List, [], ◌∷◌, ◌++◌, length, Option, Some, None}
use Rattle.std.proofs.Common.{refl, sym, subst, arith}
use Rattle.std.proofs.lemmas.List.Elements.{All-nil, All-cons, All-head, All-tail}
use Rattle.adb_wire.specs.declared.packets.Packet.{Packet}
use Rattle.adb_capture.specs.declared.entry.Entry.{Entry}
use Rattle.adb_capture.specs.declared.entry.Entry.TheVariants.{Join, Enter, Read, End, Bound, Attach, Recv, Detach, Put}
use Rattle.adb_history.specs.Rows.{Link}
use Rattle.adb_history.specs.Packets.{receives_on}
use Rattle.adb_history.specs.Machine.{History, state, told, told_at, rule, ups, step, IsLegal}
use Rattle.adb_history.specs.Book.{plugged_count}
use Rattle.adb_history.specs.Bytes.{brought}
use Rattle.adb_history.proofs.OwnedStep.{all_owned}
use Rattle.adb_laws_births.specs.Brought.{brought_grows}
use Rattle.adb_laws_births.proofs.Receiving.{brought_more, cut_now}
use Rattle.adb_laws_steps.specs.Tolls.{puts_made, IsWorthwhile, BringWorth, TollsArePaid}
use Rattle.adb_laws_steps.proofs.Costs.{InRange, Costs, costs_quiet, costs_aside, costs_then, tolls_append}
use Rattle.adb_laws_steps.proofs.Ends.{client_ends_costs, unplugs_costs}
use Rattle.adb_laws_steps.proofs.Ups.{up_all_costs}
use Rattle.adb_laws_steps.proofs.Entering.{reads_costs, enters_costs, bound_costs, plugs_costs, puts_costs}
use Rattle.adb_laws_steps.proofs.Brings.{cut_costs}

-- ---- of all packets, those behind and those before
pub all_behind : (P : Packet → Type 0) (front rest : List Packet) → All P (front ++ rest) → All P rest
all_behind P [] rest all = all
all_behind P (p ∷ front) rest all = all_behind P front rest (All-tail P p (front ++ rest) all)

pub all_before : (P : Packet → Type 0) (front rest : List Packet) → All P (front ++ rest) → All P front
all_before P [] rest all = All-nil P
all_before P (p ∷ front) rest all =
    All-cons P p front (All-head P p (front ++ rest) all) (all_before P front rest (All-tail P p (front ++ rest) all))

-- what a link brought before is worth as much
worth_before : (e : Entry) (older : History) → BringWorth (e ∷ older) → BringWorth older
worth_before e older worth t =
    let first = brought_grows t e older in
    all_before IsWorthwhile (brought t older) first.0 (subst (λ (ps : List Packet). All IsWorthwhile ps) (sym first.1) (worth t))

-- ---- one entry
-- a link makes a CNXN, and bytes that are put an OKAY at most
abbrev toll_of : Entry → ℕ
toll_of (Attach t kind serial) = 58
toll_of (Put c bytes) = 28
toll_of _ = 0

recv_costs : (t : ℕ) (bytes : List ℕ) (older : History) → IsLegal older → BringWorth (Recv t bytes ∷ older) → InRange (state older)
    → (o : Option Link) → (state older).links t ≡ o → Costs 0 0 (state older) (receives_on o t bytes (state older))
recv_costs t bytes older legal worth range None is = costs_quiet (state older) range
recv_costs t bytes older legal worth range (Some link) is =
    let more : All IsWorthwhile (brought t older ++ (cut_now older legal t bytes link).given) =
    subst (λ (ps : List Packet). All IsWorthwhile ps) (brought_more older legal t bytes link is) (worth t) in
    cut_costs t (cut_now older legal t bytes link) (state older) range
    (all_behind IsWorthwhile (brought t older) (cut_now older legal t bytes link).given more)

rule_costs : (e : Entry) (older : History) → IsLegal older → BringWorth (e ∷ older) → InRange (state older)
    → Costs (toll_of e) 0 (state older) (rule e (state older))
rule_costs (Enter c port) older legal worth range = enters_costs c port (state older) range
rule_costs (Read c bytes) older legal worth range = reads_costs c bytes (state older) range
rule_costs (End c cause) older legal worth range = client_ends_costs c cause ((state older).clients c) (state older) range
rule_costs (Bound c port) older legal worth range = bound_costs c port (state older) range
rule_costs (Attach t kind serial) older legal worth range = plugs_costs t kind serial (state older) range
rule_costs (Recv t bytes) older legal worth range = recv_costs t bytes older legal worth range ((state older).links t) refl
rule_costs (Detach t cause) older legal worth range = unplugs_costs ((state older).links t) t (state older) range
rule_costs (Put c bytes) older legal worth range = puts_costs c (length bytes) (state older) range
rule_costs e older legal worth range = costs_aside 0 (state older) (rule e (state older)) range refl refl (omega arith)

step_costs : (e : Entry) (older : History) → IsLegal older → BringWorth (e ∷ older)
    → Costs (toll_of e + 0) 0 (state older) (step (state older) e)
step_costs e older legal worth =
    costs_then (toll_of e) 0 0 0 (state older) (rule e (state older)) ups
    (rule_costs e older legal worth (all_owned older legal).rows.streams)
    (λ later. up_all_costs (rule e (state older)).state.drawn (rule e (state older)).state later)

puts_more : (e : Entry) (older : History)
    → 58 * plugged_count older + 28 * puts_made older + toll_of e ≡ 58 * plugged_count (e ∷ older) + 28 * puts_made (e ∷ older)
puts_more (Join c) older = omega arith
puts_more _ older = omega arith

pub tolls_paid : (before more : History) → IsLegal (more ++ before) → BringWorth (more ++ before) → TollsArePaid before more
tolls_paid before [] legal worth = omega arith
tolls_paid before (e ∷ more) legal worth =
    let older = tolls_paid before more legal.0 (worth_before e (more ++ before) worth) in
    let step = step_costs e (more ++ before) legal.0 worth in
    let cost = step.cost in
    let puts = puts_more e (more ++ before) in
    let all = tolls_append (told (more ++ before)) (told_at e (more ++ before)) in
    omega (arith, older, cost, puts, all)
