use Rattle.std.proofs.Common.{arith}
use Rattle.adb_laws_answers.specs.Model.{model_setting}
use Rattle.adb_world.proofs.EndedInPart.{StopLaws, stopped_files}
use Rattle.adb_world.proofs.laws.sessions_that_end_in_part_change_no_file.Goals as goal

pub returns : goal.returns
returns c = λ number old mid new done ended.
    let laws : StopLaws = record {
      carried = c.carries_rest.ensures;
      stays = c.what_came_stays.ensures;
      nothing = c.most_entries_send_nothing.ensures;
      alone = c.a_client_sends_up_its_own_stream.ensures;
      asks = c.sessions_ask_for_services.ensures;
      sound = λ parts runs. c.a_device_breaks_no_link.ensures model_setting runs.history (omega arith)
          runs.holds.lawful.legal runs.holds.joined;
      counts = c.settled_worlds_are_counted.ensures;
    } in
    stopped_files laws number old mid new done ended
