-- From what was asked over a port to how a tool's call ends.
use Rattle.std.proofs.Common.{ℕ, ◌≡◌, ◌≢◌, ◌⊎◌, inl, inr, Bool, true, false, List, [], Option, Some, Result, Ok, Err, refl, sym, ◌∙◌, subst}
use Rattle.std.proofs.Common.{arith}
use Rattle.adb_outside.specs.Outside.{Counts}
use Rattle.adb_words.specs.declared.tool.Tool.{Tool}
use Rattle.adb_words.specs.declared.tool.Tool.TheVariants.{Devices, Push, Pull, Shell, Wait}
use Rattle.adb_remote_words.specs.declared.remote.Remote.{Remote}
use Rattle.adb_remote_words.specs.declared.remote.Outcome.{Outcome}
use Rattle.adb_remote_words.specs.declared.remote.RemoteError.{RemoteError}
use Rattle.adb_remote_words.specs.declared.remote.RemoteError.TheVariants as errors
use Rattle.adb_remote.specs.Conversing.{Ports}
use Rattle.adb_asking.specs.declared.ends.ToolEnd.{ToolEnd}
use Rattle.adb_asking.specs.declared.ends.ToolEnd.TheVariants.{Done, Usage, ReadFault, WriteFault, OutOfMemory, Refused, BadAnswer}
use Rattle.adb_asking.specs.declared.ends.ToolEnd.TheVariants.{PortFault, TooLarge}
use Rattle.adb_asking.specs.declared.input.InputError.{InputError}
use Rattle.adb_asking.specs.declared.input.InputError.TheVariants as inputs
use Rattle.adb_asking.specs.Asking.{Asks, answered}
use Rattle.adb_asking.specs.Ends.{end_of, is_write_fault}
use Rattle.adb_asking.specs.Telling.{CountsBoth, Sight, TellsAnswer, size_of}
use Rattle.adb_asking.specs.declared.job.Job.{Job}
use Rattle.adb_asking.specs.Jobs.{MakesJob, ReadsFor, failed_input}
use Rattle.adb_asking.specs.Calling.{Asked, CallsTool, EndsBy, EndsBySome, IsDialled, is_read_fault}

abbrev Answer : Type 0
Answer = Result Outcome RemoteError

counts_none : {A : Type 0} (a : Sight A) (x : A) → Counts a.steady a.faults x x false
counts_none a x = record {
  count = omega arith;
  fault = λ e. cc;
  stands = λ e. refl;
  keeps = λ h. h;
  steady = λ h. refl;
}

none_written : (error : RemoteError) → is_write_fault (end_of error) ≡ false
none_written (errors.Refused text) = refl
none_written (errors.BadAnswer offset) = refl
none_written errors.PortFault = refl
none_written errors.OutOfMemory = refl

was_dialled : (error : RemoteError) → IsDialled (end_of error)
was_dialled (errors.Refused text) = tt
was_dialled (errors.BadAnswer offset) = tt
was_dialled errors.PortFault = tt
was_dialled errors.OutOfMemory = tt

port_error : (error : RemoteError) → end_of error ≡ PortFault → ◌≡◌ {A = Answer} (Err error) (Err errors.PortFault)
port_error (errors.Refused text) e = cc
port_error (errors.BadAnswer offset) e = cc
port_error errors.PortFault e = refl
port_error errors.OutOfMemory e = cc

-- no read fails once a port is dialled
read_none : (end : ToolEnd) → IsDialled end → is_read_fault end ≡ false
read_none Done d = refl
read_none Usage d = absurd d
read_none ReadFault d = absurd d
read_none WriteFault d = refl
read_none OutOfMemory d = refl
read_none (Refused text) d = refl
read_none (BadAnswer offset) d = refl
read_none PortFault d = refl
read_none TooLarge d = absurd d

module _ {K N : Type 0} (k : Sight K) (n : Sight N) where
  both_none : (sink : K) (note : N) → CountsBoth k n sink sink note note false
  both_none sink note = record {
    sink_failed = false;
    note_failed = false;
    sinks = counts_none k sink;
    notes = counts_none n note;
    which = refl;
  }

  -- ---- what was told
  module _ (job : Remote) (sink sink_new : K) (note note_new : N) where
    abbrev Tells : Answer → ToolEnd → Type 0
    Tells answer end = TellsAnswer (size_of job) answer k n sink sink_new note note_new end

    abbrev Ends : List ℕ → ToolEnd → Type 0
    Ends answers end = EndsBy job answers end (k.told sink) (k.told sink_new) (n.told note) (n.told note_new)

    abbrev Meant : List ℕ → Answer → Type 0
    Meant answers answer = answer ≢ Err errors.PortFault → answer ≢ Err errors.OutOfMemory → answered job answers ≡ Some answer

    outcome_ends : (answers : List ℕ) (outcome : Outcome) (end : ToolEnd) → Meant answers (Ok outcome)
        → Tells (Ok outcome) end → Ends answers end
    outcome_ends answers outcome Done meant l = record { outcome = outcome; is = meant (λ e. cc) (λ e. cc); parts = l.told }
    outcome_ends answers outcome WriteFault meant l = record { outcome = outcome; is = meant (λ e. cc) (λ e. cc); parts = l.told }
    outcome_ends answers outcome OutOfMemory meant l = tt
    outcome_ends answers outcome Usage meant l = absurd l.told
    outcome_ends answers outcome ReadFault meant l = tt
    outcome_ends answers outcome (Refused text) meant l = absurd l.told
    outcome_ends answers outcome (BadAnswer offset) meant l = absurd l.told
    outcome_ends answers outcome PortFault meant l = tt
    outcome_ends answers outcome TooLarge meant l = tt

    error_ends : (answers : List ℕ) (error : RemoteError) → Meant answers (Err error) → Ends answers (end_of error)
    error_ends answers (errors.Refused text) meant = meant (λ e. cc) (λ e. cc)
    error_ends answers (errors.BadAnswer offset) meant = meant (λ e. cc) (λ e. cc)
    error_ends answers errors.PortFault meant = tt
    error_ends answers errors.OutOfMemory meant = tt

    -- an answer that some bytes mean; no bytes do where there is none
    meant_by : (answer : Answer)
        → (answer ≢ Err errors.PortFault → answer ≢ Err errors.OutOfMemory → (coming : List ℕ) × (answered job coming ≡ Some answer))
        → (answers : List ℕ) × Meant answers answer
    meant_by (Ok outcome) means = (let m = means (λ e. cc) (λ e. cc) in (m.0, λ a b. m.1))
    meant_by (Err (errors.Refused text)) means = (let m = means (λ e. cc) (λ e. cc) in (m.0, λ a b. m.1))
    meant_by (Err (errors.BadAnswer offset)) means = (let m = means (λ e. cc) (λ e. cc) in (m.0, λ a b. m.1))
    meant_by (Err errors.PortFault) means = ([], λ a b. absurd (a refl))
    meant_by (Err errors.OutOfMemory) means = ([], λ a b. absurd (b refl))

    pub answer_ends : (answers : List ℕ) (answer : Answer) (end : ToolEnd) → Meant answers answer → Tells answer end → Ends answers end
    answer_ends answers (Ok outcome) end meant l = outcome_ends answers outcome end meant l
    answer_ends answers (Err error) end meant l = subst (λ (e : ToolEnd). Ends answers e) (sym l.0) (error_ends answers error meant)

    pub answer_some : (answer : Answer) (end : ToolEnd)
        → (answer ≢ Err errors.PortFault → answer ≢ Err errors.OutOfMemory → (coming : List ℕ) × (answered job coming ≡ Some answer))
        → Tells answer end → EndsBySome job end (k.told sink) (k.told sink_new) (n.told note) (n.told note_new)
    answer_some answer end means l = (let m = meant_by answer means in (m.0, answer_ends m.0 answer end m.1 l))

    pub answer_counts : (answer : Answer) (end : ToolEnd) → Tells answer end
        → CountsBoth k n sink sink_new note note_new (is_write_fault end)
    answer_counts (Ok outcome) end l = l.counts
    answer_counts (Err error) end l =
        let none = subst (λ (f : Bool). CountsBoth k n sink sink note note f) (sym (none_written error)) (both_none sink note) in
        let here = subst (λ (e : ToolEnd). CountsBoth k n sink sink note note (is_write_fault e)) (sym l.0) none in
        let there = subst (λ (s : K). CountsBoth k n sink s note note (is_write_fault end)) (sym l.1) here in
        subst (λ (m : N). CountsBoth k n sink sink_new note m (is_write_fault end)) (sym l.2) there

    pub answer_leaves : (answer : Answer) (end : ToolEnd) → Tells answer end → end ≢ Done → end ≢ WriteFault
        → (sink_new ≡ sink) × (note_new ≡ note)
    answer_leaves (Ok outcome) end l = l.untouched
    answer_leaves (Err error) end l = λ d w. (l.1, l.2)

    outcome_dialled : (outcome : Outcome) (end : ToolEnd) → Tells (Ok outcome) end → IsDialled end
    outcome_dialled outcome Done l = tt
    outcome_dialled outcome WriteFault l = tt
    outcome_dialled outcome OutOfMemory l = tt
    outcome_dialled outcome Usage l = absurd l.told
    outcome_dialled outcome ReadFault l = absurd l.told
    outcome_dialled outcome (Refused text) l = tt
    outcome_dialled outcome (BadAnswer offset) l = tt
    outcome_dialled outcome PortFault l = tt
    outcome_dialled outcome TooLarge l = absurd l.told

    pub answer_dialled : (answer : Answer) (end : ToolEnd) → Tells answer end → IsDialled end
    answer_dialled (Ok outcome) end l = outcome_dialled outcome end l
    answer_dialled (Err error) end l = subst IsDialled (sym l.0) (was_dialled error)

    outcome_no_fault : (outcome : Outcome) → Tells (Ok outcome) PortFault → ⊥
    outcome_no_fault outcome l = l.told

    pub answer_fault : (answer : Answer) (end : ToolEnd) → Tells answer end → end ≡ PortFault → answer ≡ Err errors.PortFault
    answer_fault (Ok outcome) end l e = absurd (outcome_no_fault outcome (subst (λ (x : ToolEnd). Tells (Ok outcome) x) e l))
    answer_fault (Err error) end l e = port_error error (subst (λ (x : ToolEnd). x ≡ PortFault) l.0 e)

  -- ---- over a yard
  module _ {Y : Type 0} (y : Sight Y) where
    -- somebody answered
    pub asked_here : {I O : Type 0} (ports : Ports I O) (job : Remote) (on : Option (List ℕ)) (input input_new : I) (output output_new : O)
        (sink sink_new : K) (note note_new : N) (yard yard_new : Y) (end : ToolEnd) → Counts y.steady y.faults yard yard_new false
        → (y.steady yard → ports.steady_in input × ports.steady_out output) → (ports.view_in input).left ≡ y.told yard
        → Asks ports k n job on input input_new output output_new sink sink_new note note_new end
        → Asked k n y job sink sink_new note note_new yard yard_new end
    asked_here ports job on input input_new output output_new sink sink_new note note_new yard yard_new end counts
        steady left asks = record {
          told = λ answers is.
              answer_ends job sink sink_new note note_new answers asks.answer end (asks.meant answers (left ∙ is)) asks.tells;
          means = answer_some job sink sink_new note note_new asks.answer end asks.means asks.tells;
          counts = answer_counts job sink sink_new note note_new asks.answer end asks.tells;
          untouched = answer_leaves job sink sink_new note note_new asks.answer end asks.tells;
          dials = record {
            unreached = false;
            counts = counts;
            fault = λ e. cc;
            never = λ h e.
                let both = steady h in
                asks.converses.calls.never both.0 both.1 (answer_fault job sink sink_new note note_new asks.answer end asks.tells e);
          };
          dialled = answer_dialled job sink sink_new note note_new asks.answer end asks.tells;
        }

    -- nobody did
    pub asked_nobody : (job : Remote) (sink : K) (note : N) (yard yard_new : Y) → Counts y.steady y.faults yard yard_new true
        → Asked k n y job sink sink note note yard yard_new PortFault
    asked_nobody job sink note yard yard_new counts = record {
      told = λ answers is. tt;
      means = ([], tt);
      counts = both_none sink note;
      untouched = λ d w. (refl, refl);
      dials = record {
        unreached = true;
        counts = counts;
        fault = λ e. refl;
        never = λ h e. let clash = counts.steady h in cc;
      };
      dialled = tt;
    }

    -- ---- a tool
    module _ {S : Type 0} (s : Sight S) (tool : Tool) (source source_new : S) where
      pub called_asked : (job : Job) (sink sink_new : K) (note note_new : N) (yard yard_new : Y) (end : ToolEnd)
          → MakesJob s tool source source_new (Ok job) → Asked k n y job.remote sink sink_new note note_new yard yard_new end
          → CallsTool s k n y tool source source_new sink sink_new note note_new yard yard_new end
      called_asked job sink sink_new note note_new yard yard_new end made asked = record {
        told = λ input answers has is.
            subst (λ (r : Remote). EndsBy r answers end (k.told sink) (k.told sink_new) (n.told note) (n.told note_new))
            (made.told input has).0 (asked.told answers is);
        means = λ input has.
            subst (λ (r : Remote). EndsBySome r end (k.told sink) (k.told sink_new) (n.told note) (n.told note_new))
            (made.told input has).0 asked.means;
        untouched = asked.untouched;
        reads = subst (λ (f : Bool). ReadsFor s tool source source_new f) (sym (read_none end asked.dialled)) made.reads;
        counts = asked.counts;
        dials = asked.dials;
        too_large = λ input has e. absurd (subst IsDialled e asked.dialled);
        large = λ input has less. absurd (let most = (made.told input has).1 in omega (arith, most, less));
        undialled = λ either. absurd (neither either);
        called = λ e. subst IsDialled e asked.dialled;
      }
        where
          neither : (end ≡ TooLarge) ⊎ (end ≡ ReadFault) → ⊥
          neither (inl e) = subst IsDialled e asked.dialled
          neither (inr e) = subst IsDialled e asked.dialled

      -- there is no job
      pub called_not : (error : InputError) (sink : K) (note : N) (yard : Y) → MakesJob s tool source source_new (Err error)
          → CallsTool s k n y tool source source_new sink sink note note yard yard (failed_input error)
      called_not inputs.ReadFault sink note yard made = record {
        told = λ input answers has is. tt;
        means = λ input has. ([], tt);
        untouched = λ d w. (refl, refl);
        reads = made.reads;
        counts = both_none sink note;
        dials = record { unreached = false; counts = counts_none y yard; fault = λ e. cc; never = λ h e. cc };
        too_large = λ input has e. cc;
        large = λ input has less. inr (inl refl);
        undialled = λ either. refl;
        called = λ e. cc;
      }
      called_not inputs.TooLarge sink note yard made = record {
        told = λ input answers has is. tt;
        means = λ input has. ([], tt);
        untouched = λ d w. (refl, refl);
        reads = made.reads;
        counts = both_none sink note;
        dials = record { unreached = false; counts = counts_none y yard; fault = λ e. cc; never = λ h e. cc };
        too_large = λ input has e. made.told input has;
        large = λ input has less. inl refl;
        undialled = λ either. refl;
        called = λ e. cc;
      }
      called_not inputs.OutOfMemory sink note yard made = record {
        told = λ input answers has is. tt;
        means = λ input has. ([], tt);
        untouched = λ d w. (refl, refl);
        reads = made.reads;
        counts = both_none sink note;
        dials = record { unreached = false; counts = counts_none y yard; fault = λ e. cc; never = λ h e. cc };
        too_large = λ input has e. cc;
        large = λ input has less. inr (inr refl);
        undialled = λ either. refl;
        called = λ e. cc;
      }

    -- memory ran out before the source was read
    pub called_starved : {S : Type 0} (s : Sight S) (tool : Tool) (source : S) (sink : K) (note : N) (yard : Y)
        → CallsTool s k n y tool source source sink sink note note yard yard OutOfMemory
    called_starved s tool source sink note yard = called_not s tool source source inputs.OutOfMemory sink note yard
        (record { reads = unread tool; told = λ input has. tt; fits = tt; device = tt })
      where
        unread : (tool : Tool) → ReadsFor s tool source source false
        unread Devices = (refl, refl)
        unread (Push path mtime serial) = counts_none s source
        unread (Pull path serial) = (refl, refl)
        unread (Shell command serial) = (refl, refl)
        unread (Wait serial state) = (refl, refl)
