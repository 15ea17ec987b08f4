use Rattle.std.proofs.Common.{◌≡◌, ◌∙◌, ap, Some, None, rules, arith}
use Rattle.std.specs.List.{before_first, after_first}
use Rattle.adb_banner.specs.Banner.{is_colon}
use Rattle.adb_banner.proofs.Cuts.{cut_at_first, is_identity-none, is_identity-one, is_identity-two}
use Rattle.adb_banner.proofs.identity.cut.Goals as goal

pub returns-in_err-system : goal.returns-in_err-system
returns-in_err-system c =
    let text = c.strip_nuls-text.result.now in
    let first = cut_at_first 58 text None c.in_err-system.ensures in
    let none : c.from_residual.result ≡ None = search rules in
    rw (none, ← c.strip_nuls-text.ensures) (is_identity-none text first.count)

pub returns-in_err-serial : goal.returns-in_err-serial
returns-in_err-serial c =
    let text = c.strip_nuls-text.result.now in
    let first = cut_at_first 58 text (Some (c.in_ok-system.system, c.in_ok-system.rest)) c.in_ok-system.ensures in
    let second = cut_at_first 58 c.in_ok-system.rest.now None c.in_err-serial.ensures in
    let none : c.from_residual-in_err-serial.result ≡ None = search rules in
    rw (none, ← c.strip_nuls-text.ensures) (is_identity-one text c.in_ok-system.rest.now first.count first.after second.count)

pub returns : goal.returns
returns c =
    let text = c.strip_nuls-text.result.now in
    let rest = c.in_ok-system.rest.now in
    let first = cut_at_first 58 text (Some (c.in_ok-system.system, c.in_ok-system.rest)) c.in_ok-system.ensures in
    let second = cut_at_first 58 rest (Some (c.in_ok-serial.serial, c.in_ok-serial.banner)) c.in_ok-serial.ensures in
    rw (← c.strip_nuls-text.ensures) (
      is_identity-two text rest first.count first.after _ second.count (omega arith),
      first.before,
      second.before ∙ ap (before_first is_colon) first.after,
      second.after ∙ ap (after_first is_colon) first.after,
    )
