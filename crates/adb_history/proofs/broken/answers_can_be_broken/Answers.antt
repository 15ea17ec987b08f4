use Rattle.adb_history.proofs.RefutedAnswers.{replies_refuted, bound_reply_refuted, stream_reply_refuted, stream_whole_refuted}
use Rattle.adb_history.proofs.RefutedAnswers.{stream_at_end_refuted}
use Rattle.adb_history.proofs.RefutedAnswers.{tracked_lists_refuted, present_list_refuted, nothing_more_refuted, stream_alone_refuted}
use Rattle.adb_history.proofs.RefutedAnswers.{alone_whole_refuted}
use Rattle.adb_history.proofs.broken.answers_can_be_broken.Goals as goal

pub returns-clause-replies : goal.returns-clause-replies
returns-clause-replies c = replies_refuted

pub returns-clause-bound_reply : goal.returns-clause-bound_reply
returns-clause-bound_reply c = bound_reply_refuted

pub returns-clause-stream_reply : goal.returns-clause-stream_reply
returns-clause-stream_reply c = stream_reply_refuted

pub returns-clause-stream_whole : goal.returns-clause-stream_whole
returns-clause-stream_whole c = stream_whole_refuted

pub returns-clause-stream_at_end : goal.returns-clause-stream_at_end
returns-clause-stream_at_end c = stream_at_end_refuted

pub returns-clause-tracked_lists : goal.returns-clause-tracked_lists
returns-clause-tracked_lists c = tracked_lists_refuted

pub returns-clause-present_list : goal.returns-clause-present_list
returns-clause-present_list c = present_list_refuted

pub returns-clause-nothing_more : goal.returns-clause-nothing_more
returns-clause-nothing_more c = nothing_more_refuted

pub returns-clause-stream_alone : goal.returns-clause-stream_alone
returns-clause-stream_alone c = stream_alone_refuted

pub returns-clause-alone_whole : goal.returns-clause-alone_whole
returns-clause-alone_whole c = alone_whole_refuted
