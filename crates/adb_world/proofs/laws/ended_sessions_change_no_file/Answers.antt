use Rattle.std.proofs.Common.{arith}
use Rattle.adb_laws_answers.specs.Model.{model_setting}
use Rattle.adb_world.proofs.Files.{EndLaws, same_files}
use Rattle.adb_world.proofs.laws.ended_sessions_change_no_file.Goals as goal

pub returns : goal.returns
returns c = λ number old mid new done ended.
    let laws : EndLaws = record {
      carried = c.carries_rest.ensures;
      stays = c.what_came_stays.ensures;
      nothing = c.most_entries_send_nothing.ensures;
      alone = c.a_client_sends_up_its_own_stream.ensures;
      asks = λ parts runs. c.sessions_ask_for_services.ensures runs.history runs.holds.lawful.legal runs.holds.asks;
      sound = λ parts runs. c.a_device_breaks_no_link.ensures model_setting runs.history (omega arith)
          runs.holds.lawful.legal runs.holds.joined;
      counts = c.settled_worlds_are_counted.ensures;
    } in
    same_files laws number old mid new done ended
