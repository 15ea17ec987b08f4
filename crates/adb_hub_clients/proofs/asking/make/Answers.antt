use Rattle.std.proofs.Common.{ap, refl, ◌∙◌, sym, subst, Option, Some}
use Rattle.std.proofs.lemmas.Result.{on_ok_weaker}
use Rattle.adb_reply.specs.declared.answer.Next.{Next}
use Rattle.adb_reply.specs.declared.answer.Next.TheVariants.{Stop}
use Rattle.adb_history.specs.Rows.{State}
use Rattle.adb_history.specs.Reading.{goes_on}
use Rattle.adb_laws_resting.specs.Wanted.{IsSoundNext}
use Rattle.adb_hub_tables.specs.declared.tables.Tables.{Tables}
use Rattle.adb_hub_tables.specs.Tables.{state_of}
use Rattle.adb_hub_tables.specs.Endings.{Records}
use Rattle.adb_hub_rules.proofs.Telling.{records_from, records_none}
use Rattle.adb_hub_clients.specs.Asking.{hears}
use Rattle.adb_hub_clients.proofs.Continuing.{goes_on_none, stop_is}
use Rattle.adb_hub_clients.proofs.Stepping.{on_ok}
use Rattle.adb_hub_clients.proofs.asking.make.Goals as goal

pub follow-requires-clause-follows : goal.follow-requires-clause-follows
follow-requires-clause-follows c =
    subst (λ (t : Tables). IsSoundNext t.forwards c.args.next) (sym c.reserve_replies.ensures.others) c.requires.follows

-- the server stops
pub returns-then-is_stop-clause-made : goal.returns-then-is_stop-clause-made
returns-then-is_stop-clause-made c =
    let state = c.end.ensures.state
    ∙ ap (λ (s : State). (goes_on (Some Stop) c.args.client (hears c.args.heard.now c.args.client s)).state)
    c.in_ok-reserve_replies.ensures.made.state in
    record {
      state = state
          ∙ ap (λ (next : Option Next).
          (goes_on next c.args.client (hears c.args.heard.now c.args.client (state_of c.args.tables.now))).state)
          (sym (stop_is c.args.next (sym c.is_stop.ensures ∙ c.if-is_stop.true)));
      fit = c.end.ensures.fit;
    }

pub returns-then-is_stop-clause-told : goal.returns-then-is_stop-clause-told
returns-then-is_stop-clause-told c =
    let old = c.args.tables.now in
    let middle = c.reserve_replies.new.tables in
    let rule = λ (next : Option Next) (s : State). goes_on next c.args.client (hears c.args.heard.now c.args.client s) in
    subst (λ (next : Option Next). Records (rule next (state_of old)).told c.args.ends.now old c.record_all.new.ends)
    (sym (stop_is c.args.next (sym c.is_stop.ensures ∙ c.if-is_stop.true)))
    (records_from {old = old} (rule (Some Stop)) (state_of old) c.in_ok-reserve_replies.ensures.made.state refl
    (c.record_all.ensures middle refl))

-- the others end no stream
pub returns-clause-made : goal.returns-clause-made
returns-clause-made c =
    on_ok_weaker c.follow.result (λ leaves. record {
      state = leaves.state
          ∙ ap (λ (s : State). (goes_on c.args.next c.args.client (hears c.args.heard.now c.args.client s)).state)
          c.in_ok-reserve_replies.ensures.made.state;
      fit = leaves.fit;
    }) c.follow.ensures.made

pub returns-clause-told : goal.returns-clause-told
returns-clause-told c =
    let old = c.args.tables.now in
    on_ok c.follow.result _
    (records_none c.args.ends.now old
    (goes_on_none c.args.next c.args.client (hears c.args.heard.now c.args.client (state_of old))
    (sym c.is_stop.ensures ∙ c.if-is_stop.false)))
