use Rattle.adb_history.proofs.Refuted.{packets_refuted, birth_refuted, up_refuted, up_whole_refuted, down_refuted, down_whole_refuted}
use Rattle.adb_history.proofs.Refuted.{up_window_refuted, down_window_refuted, no_crossing_refuted}
use Rattle.adb_history.proofs.Refuted.{asked_at_once_refuted, close_sent_refuted}
use Rattle.adb_history.proofs.broken.fifo_can_be_broken.Goals as goal

pub returns-clause-packets : goal.returns-clause-packets
returns-clause-packets c = packets_refuted

pub returns-clause-birth : goal.returns-clause-birth
returns-clause-birth c = birth_refuted

pub returns-clause-asked_at_once : goal.returns-clause-asked_at_once
returns-clause-asked_at_once c = asked_at_once_refuted

pub returns-clause-up : goal.returns-clause-up
returns-clause-up c = up_refuted

pub returns-clause-up_whole : goal.returns-clause-up_whole
returns-clause-up_whole c = up_whole_refuted

pub returns-clause-close_sent : goal.returns-clause-close_sent
returns-clause-close_sent c = close_sent_refuted

pub returns-clause-down : goal.returns-clause-down
returns-clause-down c = down_refuted

pub returns-clause-down_whole : goal.returns-clause-down_whole
returns-clause-down_whole c = down_whole_refuted

pub returns-clause-up_window : goal.returns-clause-up_window
returns-clause-up_window c = up_window_refuted

pub returns-clause-down_window : goal.returns-clause-down_window
returns-clause-down_window c = down_window_refuted

pub returns-clause-no_crossing : goal.returns-clause-no_crossing
returns-clause-no_crossing c = no_crossing_refuted
