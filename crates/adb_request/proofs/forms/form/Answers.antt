use Rattle.std.proofs.Common.{◌∙◌, sym}
use Rattle.adb_request.specs.Forms.{forward_form, fixed_form}
use Rattle.adb_request.proofs.FormLaws.{fixed_fits, or_some, or_none, if_ok_as}
use Rattle.adb_request.proofs.forms.form.Goals as goal

pub returns-then-is_fixed : goal.returns-then-is_fixed
returns-then-is_fixed c =
    let fits = fixed_fits c.args.on c.args.text.now in
    c.fixed_form.ensures ∙ or_some (fixed_form c.args.on c.args.text.now) (forward_form c.args.on c.args.text.now)
    (fits ∙ (sym c.is_fixed.ensures ∙ c.if-is_fixed.true))

pub returns : goal.returns
returns c =
    let fits = fixed_fits c.args.on c.args.text.now in
    if_ok_as c.forward_form.result _ _ (or_none (fixed_form c.args.on c.args.text.now) (forward_form c.args.on c.args.text.now)
    (fits ∙ (sym c.is_fixed.ensures ∙ c.if-is_fixed.false))) c.forward_form.ensures
