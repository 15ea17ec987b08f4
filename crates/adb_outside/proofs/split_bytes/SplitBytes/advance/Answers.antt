use Rattle.std.proofs.Common.{◌≡◌, ◌-◌, ◌++◌, ap, ◌∙◌, sym, drop, min, length, rules}
use Rattle.bytes.proofs.Chunks.{drop-append_min}
use Rattle.adb_outside.proofs.split_bytes.SplitBytes.advance.Goals as goal

pub returns : goal.returns
returns c =
    let some : c.min-some.result ≡ min c.args.n (length c.self.inside.front) = search rules in
    let both : c.self.inside.front ++ c.self.inside.back ≡ c.args.self.now = c.self.view_is in
    let seam : drop (min c.args.n (length c.self.inside.front)) c.self.inside.front
    ++ drop (c.args.n - min c.args.n (length c.self.inside.front)) c.self.inside.back ≡ drop c.args.n c.args.self.now =
    sym (drop-append_min c.self.inside.front c.self.inside.back c.args.n) ∙ ap (drop c.args.n) both
    in
    cc (some, seam)
