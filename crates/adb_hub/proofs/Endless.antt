-- Entries by which no stream ends.
use Rattle.std.proofs.Common.{ℕ, ◌≡◌, List, [], ◌∷◌, zero, suc, Bool, true, false, Option, Some, None, refl, sym, ◌∙◌, ap, length, drop}
use Rattle.std.specs.Prelude.{nat_eq, min}
use Rattle.adb_outside.specs.Tables.{Rows, at}
use Rattle.adb_stream.specs.Flow.{to_hand, credit_back}
use Rattle.adb_stream.specs.declared.flow.Flow.{Flow}
use Rattle.adb_stream.specs.declared.flow.Flow.TheVariants.{One, Credit}
use Rattle.adb_stream.specs.declared.row.Stream.{Stream}
use Rattle.adb_client.specs.declared.phase.Phase.{Phase}
use Rattle.adb_client.specs.declared.phase.Phase.TheVariants.{Asking, Opening, Streaming, Binding, Tracking, Closing, Gone}
use Rattle.adb_client.specs.declared.about.Want.{Want}
use Rattle.adb_forward.specs.declared.row.ForwardRow.{ForwardRow}
use Rattle.adb_capture.specs.declared.entry.Entry.{Entry}
use Rattle.adb_capture.specs.declared.entry.Entry.TheVariants.{Join, Enter, Read, End, Bound, Attach, Recv, Detach, Put, Send}
use Rattle.adb_history.specs.Rows.{Client, State}
use Rattle.adb_history.specs.Events.{Event}
use Rattle.adb_history.specs.Links.{is_connected}
use Rattle.adb_history.specs.Streams.{opens, no_ids_left, stream_ids}
use Rattle.adb_history.specs.Handing.{lists_first, tells_credit, tells_handed, stream_left, client_left, takes_of, puts_to}
use Rattle.adb_history.specs.Reading.{comes, enters_by, bound_for, bound_in, bound_at}
use Rattle.adb_history.specs.Machine.{History, IsLegal, rule, state, step}
use Rattle.adb_hub_tables.specs.Endings.{Log, endings_of, endings_at}
use Rattle.adb_hub_tables.proofs.Reporting.{TellsSame, logged_list}
use Rattle.adb_hub_rules.proofs.Telling.{TellsNone, none_then, told_if}
use Rattle.adb_hub_rules.proofs.Rests.{rule_tells}
use Rattle.adb_laws_resting.specs.Resting.{StepIsRule}
use Rattle.adb_laws_resting.proofs.RestingSteps.{all_send_nothing}
use Rattle.adb_hub.specs.Endings.{may_end}

-- ---- a client comes
no_ids_none : (forwarded : Bool) (c : ℕ) (s : State) → TellsNone (no_ids_left forwarded c s)
no_ids_none true c s = λ rows log. refl
no_ids_none false c s = λ rows log. refl

opens_none : (forwarded : Bool) (c t : ℕ) (service : List ℕ) (s : State) → TellsNone (opens forwarded c t service s)
opens_none forwarded c t service s = told_if (nat_eq s.drawn stream_ids) _ _ (no_ids_none forwarded c s) (λ rows log. refl)

enters_none : (c : ℕ) (row : Option ForwardRow) (s : State) → TellsNone (enters_by c row s)
enters_none c None s = λ rows log. refl
enters_none c (Some row) s =
    told_if (is_connected row.transport s.devices) _ _ (opens_none true c row.transport row.remote (comes true c s)) (λ rows log. refl)

-- ---- a listener stands
bound_none : (c port : ℕ) (row : Option Client) (s : State) → TellsNone (bound_at row c port s)
bound_none c port None s = λ rows log. refl
bound_none c port (Some client) s = in_phase client.about.phase client.about.want
  where
    for_want : (want : Option Want) → TellsNone (bound_for want c port s)
    for_want None = λ rows log. refl
    for_want (Some want) = λ rows log. refl

    in_phase : (phase : Phase) (want : Option Want) → TellsNone (bound_in phase want c port s)
    in_phase Binding want = for_want want
    in_phase Asking want = λ rows log. refl
    in_phase (Opening l) want = λ rows log. refl
    in_phase (Streaming l) want = λ rows log. refl
    in_phase Tracking want = λ rows log. refl
    in_phase Closing want = λ rows log. refl
    in_phase Gone want = λ rows log. refl

-- ---- bytes are handed out
credit_none : (credit l : ℕ) (stream : Stream) (s : State) → TellsNone (tells_credit credit l stream s)
credit_none zero l stream s = λ rows log. refl
credit_none (suc n) l stream s = λ rows log. refl

handed_none : (flow : Flow) (left l : ℕ) (stream : Stream) (s : State) → TellsNone (tells_handed flow left l stream s)
handed_none (One window) zero l stream s = λ rows log. refl
handed_none (One window) (suc left) l stream s = λ rows log. refl
handed_none (Credit credit) left l stream s = credit_none (credit_back left credit) l stream s

left_none : (due l : ℕ) (row : Option Stream) (s : State) → TellsNone (stream_left due l row s)
left_none due l None s = λ rows log. refl
left_none due l (Some stream) s =
    told_if (nat_eq (min (to_hand stream.part.flow) due) (to_hand stream.part.flow)) _ _ (λ rows log. refl)
    (handed_none stream.part.flow (min (to_hand stream.part.flow) due) l stream _)

client_left_none : (phase : Phase) (due : ℕ) (s : State) → TellsNone (client_left phase due s)
client_left_none (Streaming l) due s = left_none due l (s.streams l) s
client_left_none Asking due s = λ rows log. refl
client_left_none (Opening l) due s = λ rows log. refl
client_left_none Binding due s = λ rows log. refl
client_left_none Tracking due s = λ rows log. refl
client_left_none Closing due s = λ rows log. refl
client_left_none Gone due s = λ rows log. refl

takes_none : (c n : ℕ) (row : Option Client) (s : State) → TellsNone (takes_of c n row s)
takes_none c n None s = λ rows log. refl
takes_none c n (Some client) s = client_left_none client.about.phase (length (drop n client.due)) _

lists_none : (c : ℕ) (due : List ℕ) (client : Client) (s : State) → TellsNone (lists_first c due client s)
lists_none c [] client s = λ rows log. refl
lists_none c (b ∷ due) client s = λ rows log. refl

puts_none : (c n : ℕ) (row : Option Client) (s : State) → TellsNone (puts_to row c n s)
puts_none c n None s = λ rows log. refl
puts_none c n (Some client) s =
    none_then (lists_first c client.due client s) (λ s. takes_of c n (s.clients c) s) (lists_none c client.due client s)
    (takes_none c n ((lists_first c client.due client s).state.clients c) (lists_first c client.due client s).state)

-- ---- the entry
-- what a rule that tells of no end gives
none_of : (rows : Rows (Option Stream)) (told : List Event) → TellsSame [] told → endings_of rows told ≡ []
none_of rows told none =
    let log : Log = record { list = []; spare = 0 } in
    sym (logged_list rows told log) ∙ ap (λ (log : Log). log.list) (sym (none rows log))

rule_none : (e : Entry) (s : State) → may_end e ≡ false → TellsNone (rule e s)
rule_none (Join c) s other = λ rows log. refl
rule_none (Enter c port) s other = enters_none c (at port s.forwards) s
rule_none (Bound c port) s other = bound_none c port (s.clients c) s
rule_none (Attach t kind serial) s other = λ rows log. refl
rule_none (Put c bytes) s other = puts_none c (length bytes) (s.clients c) s
rule_none (Send t bytes) s other = λ rows log. refl
rule_none (Read c bytes) s other = absurd (let clash : true ≡ false = other in cc)
rule_none (End c cause) s other = absurd (let clash : true ≡ false = other in cc)
rule_none (Recv t bytes) s other = absurd (let clash : true ≡ false = other in cc)
rule_none (Detach t cause) s other = absurd (let clash : true ≡ false = other in cc)

rests : (e : Entry) (h : History) → IsLegal h → may_end e ≡ false → StepIsRule e (state h)
rests (Join c) h legal other = (all_send_nothing h legal).join c
rests (Enter c port) h legal other = (all_send_nothing h legal).enter c port
rests (Bound c port) h legal other = (all_send_nothing h legal).bound c port
rests (Attach t kind serial) h legal other = (all_send_nothing h legal).attach t kind serial
rests (Put c bytes) h legal other = (all_send_nothing h legal).put c bytes
rests (Send t bytes) h legal other = (all_send_nothing h legal).send t bytes
rests (Read c bytes) h legal other = absurd (let clash : true ≡ false = other in cc)
rests (End c cause) h legal other = absurd (let clash : true ≡ false = other in cc)
rests (Recv t bytes) h legal other = absurd (let clash : true ≡ false = other in cc)
rests (Detach t cause) h legal other = absurd (let clash : true ≡ false = other in cc)

pub none_ends : (e : Entry) (h : History) → IsLegal h → may_end e ≡ false → endings_at e h ≡ []
none_ends e h legal other =
    none_of (state h).streams (step (state h) e).told
    (λ rows log. rule_none e (state h) other rows log ∙ rule_tells e (state h) (rests e h legal other) rows log)
