use Rattle.std.proofs.Common.{◌≡◌, List, [], ℕ, All, None, subst, ap, sym, take, vec_len, rules, arith}
use Rattle.std.specs.Prelude.{unwrap_or}
use Rattle.std.proofs.lemmas.List.Elements.{All-pop}
use Rattle.adb_client.specs.Input.{Handled, EndsWith}
use Rattle.adb_client.proofs.Ends.{ends_all, piece_is}
use Rattle.adb_client.proofs.front.Front.cut.Goals as goal

pub invariant_of-self : goal.invariant_of-self
invariant_of-self c =
    subst (λ (l : List ℕ). All (EndsWith l) c.pop.new.self.items) (sym c.advance.ensures)
    (ends_all c.args.n c.self.inside.bytes c.self.inside.handles.items c.pop.new.self.items c.pop.result
    c.pop.ensures.items c.self.invariant)

pub returns-clause-piece : goal.returns-clause-piece
returns-clause-piece c =
    let bytes = c.self.inside.bytes in
    let ends = (All-pop (EndsWith bytes) c.self.inside.handles.items c.pop.new.self.items c.pop.result
    c.pop.ensures.items c.self.invariant).1 in
    let handles : vec_len c.self.inside.handles ≡ c.args.self.now.handles = ap (λ (f : Handled). f.handles) c.self.view_is in
    let held : take c.args.n c.args.self.now.bytes ≡ take c.args.n bytes =
    sym (ap (λ (f : Handled). take c.args.n f.bytes) c.self.view_is) in
    let handle : c.unwrap_or-handle.result ≡ unwrap_or c.pop.result [] = search rules in
    let none : c.pop.result ≡ None → c.args.n ≡ 0 =
    λ was. let empty = (rw was at c.pop.ensures.cases).0 in omega (arith, empty, handles, c.requires.handle)
    in
    cc (held, piece_is c.args.n bytes c.pop.result ends none)
