use Rattle.std.proofs.Common.{◌<◌, subst, ℕ}
use Rattle.std.specs.Prelude.{All}
use Rattle.std.proofs.lemmas.List.Elements.{All-append}
use Rattle.adb_hub.proofs.hand_outs.has_bytes.Goals as goal

pub returns : goal.returns
returns c =
    let bytes : ℕ → Type 0 = λ b. b < 256 in
    subst (All bytes) c.parts.ensures.is (All-append bytes _ _ c.are_bytes.ensures c.are_bytes-2.ensures)
