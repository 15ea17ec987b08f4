use Rattle.std.proofs.Common.{◌∙◌, ◌++◌, ap, sym, subst, refl}
use Rattle.std.proofs.lemmas.Result.{on_ok_weaker, on_err_weaker}
use Rattle.adb_sync.specs.declared.ask.SyncAsk.TheVariants as asks
use Rattle.adb_files.specs.Served.{stat_bytes_of, stat_in}
use Rattle.adb_files.specs.Requests.{completed}
use Rattle.adb_files.specs.Service.{KeepsSend}
use Rattle.adb_files.proofs.Serving.{on_err_always, on_err_both, stat_served, list_front, front_none, finish_front}
use Rattle.adb_files.proofs.session.Session.take.Goals as goal

pub returns-in-Stat-clause-ok : goal.returns-in-Stat-clause-ok
returns-in-Stat-clause-ok c =
    on_ok_weaker c.answer_stat.result
    (λ h send keeps. stat_served send c.args.ask c.in-Stat.path c.args.self.now.sending _ _ c.in-Stat.is refl
    (h ∙ ap (λ p. c.args.self.now.out ++ stat_bytes_of (stat_in c.args.files.now p)) c.as_slice.ensures)
    c.requires.goes_on keeps) c.answer_stat.ensures.ok

pub returns-in-Stat-clause-err : goal.returns-in-Stat-clause-err
returns-in-Stat-clause-err c =
    on_err_weaker c.answer_stat.result (λ h send keeps. front_none (completed send c.args.ask) _ _ refl h) c.answer_stat.ensures.err

pub returns-in-List-clause-err : goal.returns-in-List-clause-err
returns-in-List-clause-err c =
    on_err_weaker c.answer_list.result (λ h send keeps. list_front send c.args.ask c.as_slice-in-List.result.now _ _
    (c.in-List.is ∙ ap asks.List (sym c.as_slice-in-List.ensures)) refl h) c.answer_list.ensures.err

pub returns-in-Recv-clause-err : goal.returns-in-Recv-clause-err
returns-in-Recv-clause-err c =
    on_err_weaker c.answer_recv.result (λ h send keeps. front_none (completed send c.args.ask) _ _ refl h) c.answer_recv.ensures.err

pub returns-in-Some-clause-err : goal.returns-in-Some-clause-err
returns-in-Some-clause-err c = on_err_always c.push.result (λ send keeps. front_none (completed send c.args.ask) _ _ refl refl)

pub returns-in-Some-take-clause-err : goal.returns-in-Some-take-clause-err
returns-in-Some-take-clause-err c =
    on_err_both c.serve_send.result
    (λ h same send keeps. finish_front send c.args.ask c.in-Finish.mtime c.in-Some-take.sending _ _ c.in-Finish.is
    (subst (KeepsSend send) (sym c.take.ensures.value ∙ c.in-Some-take.is) keeps) h same) c.serve_send.ensures.err c.serve_send.ensures.same
