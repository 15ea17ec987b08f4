use Rattle.std.proofs.Common.{◌∙◌, ◌-◌, ◌++◌, ◌≤◌, List, ℕ, ap, sym, take, drop, length, arith}
use Rattle.std.proofs.lemmas.List.{take-append-le, drop-append-le}
use Rattle.adb_client.specs.Input.{Incoming, Ahead}
use Rattle.adb_client.proofs.input.Input.cut_ready.Goals as goal

pub returns-clause-piece : goal.returns-clause-piece
returns-clause-piece c =
    let i = c.self.inside in
    let n = c.args.n in
    let within : n ≤ length i.fronts.bytes =
    omega (arith, ap (λ (a : Incoming). a.ready) c.self.view_is, c.requires.within, c.cut-piece.ensures.within) in
    c.cut-piece.ensures.piece ∙ (sym (take-append-le n i.fronts.bytes i.rest within) ∙ ap (λ (a : Incoming). take n a.held) c.self.view_is)

pub returns-clause-rest : goal.returns-clause-rest
returns-clause-rest c =
    let i = c.self.inside in
    let n = c.args.n in
    let within : n ≤ length i.fronts.bytes =
    omega (arith, ap (λ (a : Incoming). a.ready) c.self.view_is, c.requires.within, c.cut-piece.ensures.within) in
    let made : Ahead → Incoming = λ a. record { held = a.bytes ++ i.rest; ready = a.ready; cuts = a.cuts } in
    let after : Incoming → Incoming = λ a. record { held = drop n a.held; ready = a.ready - n; cuts = a.cuts - 1 } in
    let whole : List ℕ → Incoming = λ l. record { held = l; ready = i.fronts.ready - n; cuts = i.fronts.cuts - 1 } in
    c.give_back.ensures
    ∙ (ap made c.cut-piece.ensures.rest
    ∙ (ap whole (sym (drop-append-le n i.fronts.bytes i.rest within)) ∙ ap after c.self.view_is))
