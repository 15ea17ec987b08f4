-- Which rules tell of no stream's end, and what others tell.
use Rattle.std.proofs.Common.{ℕ, ◌≡◌, List, [], ◌∷◌, Bool, true, false, Option, Some, None, refl, sym, ◌∙◌, ap, subst, cond, eqb}
use Rattle.std.specs.Prelude.{◌==◌}
use Rattle.adb_outside.specs.declared.kinds.Cause.TheVariants.{Eof}
use Rattle.adb_stream.specs.declared.flow.Flow.{Flow}
use Rattle.adb_stream.specs.declared.flow.Flow.TheVariants.{One, Credit}
use Rattle.adb_stream.specs.declared.row.Stream.{Stream}
use Rattle.adb_registry.specs.declared.row.Row.{Row}
use Rattle.adb_history.specs.Rows.{Client, State}
use Rattle.adb_history.specs.Events.{Made, Event, then_also}
use Rattle.adb_history.specs.Flow.{all_go_up, goes_up}
use Rattle.adb_history.specs.Losing.{client_ends}
use Rattle.adb_history.specs.Packets.{at_stream, hears_okay, okay_first, takes_okay, accepts_none, accepts, refuses_open, unauthorized}
use Rattle.adb_hub_tables.specs.declared.tables.Tables.{Tables}
use Rattle.adb_hub_tables.specs.Tables.{state_of}
use Rattle.adb_hub_tables.specs.Endings.{Log, Records, logged}
use Rattle.adb_hub_tables.proofs.Reporting.{TellsSame, logged_then, records_same}

-- a rule by which no stream ends
abbrev pub TellsNone : Made → Type 0
TellsNone m = TellsSame [] m.told

pub told_if : (b : Bool) (first second : Made) → TellsNone first → TellsNone second → TellsNone (cond b first second)
told_if true first second h k = h
told_if false first second h k = k

-- one after another
pub none_then : (m : Made) (rule : State → Made) → TellsNone m → TellsNone (rule m.state) → TellsNone (then_also m rule)
none_then m rule first second = λ rows log.
    first rows log ∙ (second rows (logged rows m.told log) ∙ sym (logged_then rows m.told (rule m.state).told log))

-- a log without the endings of such a rule has what it had
pub records_none : {told : List Event} (log : Log) (old : Tables) → TellsSame [] told → Records told log old log
records_none log old none = record { is = λ rows watches. none rows log }

-- what a rule tells of a state that has the same streams
pub records_from : {old middle : Tables} {before after : Log} (rule : State → Made) (made : State) → state_of middle ≡ made
    → made.streams ≡ (state_of old).streams → Records (rule (state_of middle)).told before middle after
    → Records (rule made).told before old after
records_from {old} {middle} {before} {after} rule made is streams h =
    records_same {old = old} {new = middle} (λ l. ap (λ (s : State). s.streams l) is ∙ ap (λ rows. rows l) streams)
    (subst (λ (s : State). Records (rule s).told before middle after) is h)

-- ---- OKAY
hears_none : (row : Option Client) (c : ℕ) (s : State) → TellsNone (hears_okay row c s)
hears_none None c s = λ rows log. refl
hears_none (Some client) c s = told_if client.about.forwarded _ _ (λ rows log. refl) (λ rows log. refl)

first_none : (orphan : Bool) (l remote : ℕ) (word : Option ℕ) (stream : Stream) (s : State)
    → TellsNone (okay_first orphan l remote word stream s)
first_none true l remote word stream s = λ rows log. refl
first_none false l remote word stream s = λ rows log.
    hears_none (s.clients stream.client) stream.client s rows log
    ∙ sym (logged_then rows (hears_okay (s.clients stream.client) stream.client s).told [] log)

pub okay_none : (l remote : ℕ) (word : Option ℕ) (stream : Stream) (s : State) → TellsNone (takes_okay l remote word stream s)
okay_none l remote word stream s =
    told_if (remote == 0) _ _ (λ rows log. refl)
    (told_if (stream.part.remote == 0) _ _ (first_none stream.part.orphan l remote word stream s)
    (told_if (remote == stream.part.remote) _ _ (λ rows log. refl) (λ rows log. refl)))

pub at_none : (link : ℕ) (row : Option Stream) (rule : Stream → State → Made) (s : State) → ((stream : Stream) → TellsNone (rule stream s))
    → TellsNone (at_stream link row rule s)
at_none link None rule s none = λ rows log. refl
at_none link (Some stream) rule s none = told_if (eqb stream.link link) _ _ (none stream) (λ rows log. refl)

-- ---- WRTE
unaccepted_none : (flow : Flow) (l : ℕ) (stream : Stream) (s : State) → TellsNone (accepts_none flow l stream s)
unaccepted_none (One window) l stream s = λ rows log. refl
unaccepted_none (Credit credit) l stream s = λ rows log. refl

pub accepts_no_end : (l : ℕ) (payload : List ℕ) (stream : Stream) (s : State) → TellsNone (accepts l payload stream s)
accepts_no_end l [] stream s = unaccepted_none stream.part.flow l stream s
accepts_no_end l (b ∷ payload) stream s = λ rows log. refl

-- ---- OPEN, AUTH and STLS
pub refuses_none : (t id : ℕ) (s : State) → TellsNone (refuses_open t id s)
refuses_none t id s = told_if (id == 0) _ _ (λ rows log. refl) (λ rows log. refl)

pub login_none : (t : ℕ) (row : Option Row) (s : State) → TellsNone (unauthorized t row s)
login_none t None s = λ rows log. refl
login_none t (Some row) s = λ rows log. refl

-- ---- clients
pub input_none : (c : ℕ) (row : Option Client) (s : State) → TellsNone (client_ends c Eof row s)
input_none c None s = λ rows log. refl
input_none c (Some client) s = λ rows log. refl

-- ---- the up rule
pub writes_none : (l : ℕ) (stream : Stream) (ps : List (List ℕ)) (s : State) → TellsNone (all_go_up l stream ps s)
writes_none l stream [] s = λ rows log. refl
writes_none l stream (payload ∷ ps) s = writes_none l stream ps (goes_up l stream payload s).state
