use Rattle.std.proofs.Common.{ℕ, List, ◌≡◌, ◌-◌, ◌∙◌, ap, take, drop, length, min}
use Rattle.adb_world.proofs.Parted.{first_behind}
use Rattle.adb_world.proofs.words.Words.behind.Goals as goal

pub returns : goal.returns
returns c =
    let requests : List ℕ = c.self.inside.requests in
    let text : List ℕ = c.self.inside.text in
    let start : List ℕ = c.first-start.result.now in
    let rest : List ℕ = c.first.result.now in
    let gone : c.min.result ≡ min c.args.n (length requests) =
    c.min.ensures ∙ ap (λ (bytes : List ℕ). min c.args.n (length bytes)) c.as_slice-requests.ensures in
    let left : c.split_at.result.1.now ≡ drop c.min.result requests =
    c.split_at.ensures.back ∙ ap (drop c.min.result) c.as_slice-requests.ensures in
    let behind : rest ≡ take (c.args.max - length start) (drop (c.args.n - c.min.result) text) =
    c.first.ensures
    ∙ ap (take (c.args.max - length start))
    (c.split_at-2.ensures.back
    ∙ (ap (λ (k : ℕ). drop (c.args.n - k) c.as_slice.result.now) c.split_at.ensures.front_len
    ∙ ap (drop (c.args.n - c.min.result)) c.as_slice.ensures)) in
    first_behind requests text c.args.n c.args.max c.min.result c.split_at.result.1.now start rest gone left c.first-start.ensures behind
    ∙ ap (λ (bytes : List ℕ). take c.args.max (drop c.args.n bytes)) c.self.view_is
