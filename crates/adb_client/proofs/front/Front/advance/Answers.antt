use Rattle.std.proofs.Common.{List, ℕ, All, subst, sym}
use Rattle.adb_client.specs.Input.{EndsWith}
use Rattle.adb_client.proofs.Ends.{ends_shorter}
use Rattle.adb_client.proofs.front.Front.advance.Goals as goal

pub invariant_of-self : goal.invariant_of-self
invariant_of-self c =
    subst (λ (l : List ℕ). All (EndsWith l) c.self.inside.handles.items) (sym c.advance.ensures)
    (ends_shorter c.args.n c.self.inside.bytes c.self.inside.handles.items c.self.invariant)
