use Rattle.std.proofs.Common.{◌∙◌, ap, get_or, set, ℕ, Option}
use Rattle.adb_rows.specs.declared.slots.Slot.{Slot}
use Rattle.adb_rows.proofs.Places.{row_there, set_there}
use Rattle.adb_rows.proofs.shelf.put_in.Goals as goal

pub returns-clause-old : goal.returns-clause-old
returns-clause-old g c =
    let slots = c.args.slots.now.items in
    let slot = c.index_mut.result.now in
    c.replace.ensures.value ∙ (ap (λ (s : Slot _). s.row) c.index_mut.ensures.value ∙ row_there c.args.place slots slot c.requires)

pub returns-clause-slots : goal.returns-clause-slots
returns-clause-slots g c =
    let slots = c.args.slots.now.items in
    let slot = c.index_mut.result.now in
    ap (λ (number : ℕ). set slots c.args.place (record { number = number; row = c.replace.new.dest }))
    (ap (λ (s : Slot _). s.number) c.index_mut.ensures.value)
    ∙ (ap (λ (row : Option _). set slots c.args.place
    (record { number = (get_or slots c.args.place slot).number; row = row })) c.replace.ensures.after
    ∙ set_there c.args.place slots slot c.args.row c.requires)
