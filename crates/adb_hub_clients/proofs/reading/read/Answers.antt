use Rattle.std.proofs.Common.{◌∙◌, sym, refl}
use Rattle.std.proofs.lemmas.Result.{on_ok_weaker}
use Rattle.adb_capture.specs.declared.entry.Entry.TheVariants.{Read}
use Rattle.adb_hub_tables.specs.Tables.{state_of}
use Rattle.adb_hub_tables.proofs.Reporting.{records_as}
use Rattle.adb_hub_rules.proofs.Telling.{records_none}
use Rattle.adb_hub_clients.proofs.Stepping.{all_sized, no_forward_at_zero, makes, asking_row, asking_step, opening_step, streaming_step}
use Rattle.adb_hub_clients.proofs.Stepping.{deaf_step, deaf_of, asking_tells, opening_tells, streaming_tells, deaf_tells, on_ok}
use Rattle.adb_hub_clients.proofs.reading.read.Goals as goal

pub ask-requires-clause-sized : goal.ask-requires-clause-sized
ask-requires-clause-sized c = all_sized (state_of c.args.tables.now) c.requires.reached

pub ask-requires-clause-ports : goal.ask-requires-clause-ports
ask-requires-clause-ports c = no_forward_at_zero (state_of c.args.tables.now) c.requires.reached

pub send-requires-clause-sized : goal.send-requires-clause-sized
send-requires-clause-sized c = all_sized (state_of c.args.tables.now) c.requires.reached

pub returns-in-Asking-clause-made : goal.returns-in-Asking-clause-made
returns-in-Asking-clause-made c =
    let old = c.args.tables.now in
    let s = state_of old in
    let bytes = c.args.piece.now in
    let phase = sym c.phase_of.ensures ∙ c.in-Asking.is in
    let h = asking_row s c.args.client bytes c.requires.reached phase in
    on_ok_weaker c.ask.result
    (λ leaves. makes (Read c.args.client bytes) old c.ask.new.tables _
    (asking_step s c.args.client bytes c.requires.reached phase h.row h.here) (leaves h.row h.here))
    c.ask.ensures.made

pub returns-in-Opening-clause-made : goal.returns-in-Opening-clause-made
returns-in-Opening-clause-made c =
    let old = c.args.tables.now in
    let bytes = c.args.piece.now in
    let phase = sym c.phase_of.ensures ∙ c.in-Opening.is in
    on_ok_weaker c.take_in.result
    (makes (Read c.args.client bytes) old c.take_in.new.tables _
    (opening_step (state_of old) c.args.client bytes c.requires.reached c.in-Opening.field-0 phase))
    c.take_in.ensures.made

pub returns-in-Streaming-clause-made : goal.returns-in-Streaming-clause-made
returns-in-Streaming-clause-made c =
    let old = c.args.tables.now in
    let bytes = c.args.piece.now in
    let phase = sym c.phase_of.ensures ∙ c.in-Streaming.is in
    on_ok_weaker c.send.result
    (makes (Read c.args.client bytes) old c.send.new.tables _
    (streaming_step (state_of old) c.args.client bytes c.requires.reached c.in-Streaming.id phase))
    c.send.ensures.made

pub returns-in-Asking-clause-told : goal.returns-in-Asking-clause-told
returns-in-Asking-clause-told c =
    let s = state_of c.args.tables.now in
    let bytes = c.args.piece.now in
    let phase = sym c.phase_of.ensures ∙ c.in-Asking.is in
    let h = asking_row s c.args.client bytes c.requires.reached phase in
    on_ok_weaker c.ask.result
    (λ told. records_as (asking_tells s c.args.client bytes c.requires.reached phase h.row h.here) (told h.row h.here)) c.ask.ensures.told

pub returns-in-Opening-clause-told : goal.returns-in-Opening-clause-told
returns-in-Opening-clause-told c =
    let old = c.args.tables.now in
    let phase = sym c.phase_of.ensures ∙ c.in-Opening.is in
    on_ok c.take_in.result _
    (records_none c.args.ends.now old
    (opening_tells (state_of old) c.args.client c.args.piece.now c.requires.reached c.in-Opening.field-0 phase))

pub returns-in-Streaming-clause-told : goal.returns-in-Streaming-clause-told
returns-in-Streaming-clause-told c =
    let s = state_of c.args.tables.now in
    let phase = sym c.phase_of.ensures ∙ c.in-Streaming.is in
    on_ok_weaker c.send.result
    (records_as (streaming_tells s c.args.client c.args.piece.now c.requires.reached c.in-Streaming.id phase)) c.send.ensures.told

pub returns-in-Binding : goal.returns-in-Binding
returns-in-Binding c =
    let old = c.args.tables.now in
    let s = state_of old in
    let bytes = c.args.piece.now in
    let phase = c.phase_of.result in
    let is = sym c.phase_of.ensures in
    record {
      made = makes (Read c.args.client bytes) old old s
          (deaf_step s c.args.client bytes c.requires.reached phase is (deaf_of phase c.in-Binding.is))
          (record { state = refl; fit = c.requires.fit });
      told = records_none c.args.ends.now old
          (deaf_tells s c.args.client bytes c.requires.reached phase is (deaf_of phase c.in-Binding.is));
      kept = tt;
      quiet = tt;
    }
