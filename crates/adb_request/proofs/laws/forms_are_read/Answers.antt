use Rattle.std.proofs.Common.{◌==◌, refl}
use Rattle.adb_request.specs.Meaning.{colon, meaning}
use Rattle.adb_request.proofs.RowLaws.{cut_behind, taken_behind, left_behind, none_in_number, number_there, splits_first, form_fits}
use Rattle.adb_request.proofs.laws.forms_are_read.Goals as goal

pub returns-clause-serial : goal.returns-clause-serial
unfolding meaning
returns-clause-serial c = λ serial text request none is. rw (splits_first _ serial text none (form_fits _ text request is), is) refl

pub returns-clause-id : goal.returns-clause-id
unfolding meaning
returns-clause-id c = λ digits text id request number is.
    let there = number_there 10 4294967295 digits id number in
    let none = none_in_number colon 10 digits there.0 refl there.1 in
    rw (
      cut_behind (λ byte. byte == colon) digits colon text none refl,
      taken_behind digits colon text,
      left_behind
          digits colon text,
      number,
      is,
    ) refl
