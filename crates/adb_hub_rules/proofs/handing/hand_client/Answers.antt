use Rattle.std.proofs.Common.{rules, ℕ, ◌≡◌, ◌≢◌, ◌∙◌, ap, subst, sym, Some}
use Rattle.std.specs.Prelude.{option_map}
use Rattle.adb_outside.specs.Tables.{at}
use Rattle.adb_client.specs.declared.about.About.{About}
use Rattle.adb_client.specs.declared.phase.Phase.TheVariants.{Streaming, Closing}
use Rattle.adb_hub_tables.specs.Tables.{state_of, client_row}
use Rattle.adb_hub_rules.specs.Handing.{UsesOf, open_stream, stream_in}
use Rattle.adb_hub_rules.proofs.Handouts.{streaming_is, plain_is}
use Rattle.adb_hub_rules.proofs.UsingOf.{spares_of}
use Rattle.adb_hub_rules.proofs.handing.hand_client.Goals as goal

pub returns-in-Closing-clause-uses : goal.returns-in-Closing-clause-uses
returns-in-Closing-clause-uses c =
    let old = c.args.tables.now in
    spares_of (open_stream (at c.args.client old.clients.entries) old) 1 c.args.client c.hand_closing.ensures.uses

pub returns-in-Streaming-clause-state : goal.returns-in-Streaming-clause-state
returns-in-Streaming-clause-state c =
    let old = c.args.tables.now in
    let row = c.in-Some.row.now in
    let here : at c.args.client old.clients.entries ≡ Some row = search rules in
    let streaming : row.about.phase ≡ Streaming c.in-Streaming.id =
    ap (λ (about : About). about.phase) (sym c.about.ensures) ∙ c.in-Streaming.is in
    c.hand_streaming.ensures.state row here
    ∙ streaming_is c.args.client c.args.n (state_of old) (client_row row) (ap (option_map client_row) here) c.in-Streaming.id streaming

pub returns-in-Streaming-clause-uses : goal.returns-in-Streaming-clause-uses
returns-in-Streaming-clause-uses c =
    let old = c.args.tables.now in
    let row = c.in-Some.row.now in
    let here : at c.args.client old.clients.entries ≡ Some row = search rules in
    let streaming : row.about.phase ≡ Streaming c.in-Streaming.id =
    ap (λ (about : About). about.phase) (sym c.about.ensures) ∙ c.in-Streaming.is in
    subst (λ client. UsesOf (open_stream client old) 1 c.args.client 0 old c.hand_streaming.new.tables) (sym here)
    (subst (λ phase. UsesOf (stream_in phase old) 1 c.args.client 0 old c.hand_streaming.new.tables) (sym streaming)
    (c.hand_streaming.ensures.uses c.args.client))

pub returns-in_default-phase : goal.returns-in_default-phase
returns-in_default-phase c =
    let old = c.args.tables.now in
    let row = c.in-Some.row.now in
    let here : at c.args.client old.clients.entries ≡ Some row = search rules in
    let about : c.about.result.now ≡ row.about = c.about.ensures in
    let no_stream : (l : ℕ) → row.about.phase ≢ Streaming l =
    λ l is. c.in_default-phase.not-Streaming l (ap (λ (about : About). about.phase) about ∙ is) in
    let stays_open : row.about.phase ≢ Closing = λ is. c.in_default-phase.not-Closing (ap (λ (about : About). about.phase) about ∙ is) in
    record {
      state = c.hand_row.ensures.state ∙ plain_is c.args.client c.args.n (state_of old) (client_row row)
          (ap (option_map client_row) here) no_stream stays_open;
      uses = spares_of (open_stream (at c.args.client old.clients.entries) old) 1 c.args.client c.hand_row.ensures.uses;
    }
