use Rattle.adb_laws_steps.proofs.Put.{writes_put}
use Rattle.adb_laws_steps.proofs.laws.writes_were_put_at_rest.Goals as goal

pub returns : goal.returns
returns c = λ setting history short some plain legal tied one.
    writes_put setting
    (record {
      ids = λ l packets once. c.streams_have_one_id.ensures setting l packets once;
      write = λ packets own positive. c.streams_write_their_answers.ensures setting packets own positive;
      were_asked = c.ids_were_asked_for.ensures setting;
    })
    history legal (c.clients_are_answered.ensures setting history short some plain legal tied one)
