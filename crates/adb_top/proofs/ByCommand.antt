-- The ends of each command, by the words.
use Rattle.std.proofs.Common.{ℕ, ◌≡◌, ◌≢◌, true, false, List, [], Option, Some, None, Result, Ok, Err, refl, sym, ◌∙◌, ap, subst}
use Rattle.std.proofs.Common.{inl, inr, arith}
use Rattle.std.proofs.lemmas.List.{append-nil}
use Rattle.std.specs.Prelude.{String}
use Rattle.adb_check.specs.declared.capture.Judgement.{Judgement}
use Rattle.adb_history.specs.Accepted.{replayed}
use Rattle.adb_replay.specs.Keeping.{HasFront}
use Rattle.adb_replay.specs.declared.stop.Stop.{Stop}
use Rattle.adb_replay.specs.declared.stop.Stop.TheVariants as stop
use Rattle.adb_words.specs.Words.{command_of, texts}
use Rattle.adb_words.specs.declared.command.Command.{Command}
use Rattle.adb_words.specs.declared.command.Command.TheVariants.{Replay, Check, Gen, Local, Copy}
use Rattle.adb_words.specs.declared.command.WordsError.TheVariants as unread
use Rattle.adb_commands.specs.Ends.{Leaves, LeavesReplay, LeavesCheck, LeavesLoad, LeavesScript, Sight}
use Rattle.adb_commands.specs.Words.{IsNoCommand, IsReplay, IsCheck, IsLoad, IsOfKind}
use Rattle.adb_commands.specs.declared.end.CommandEnd.{CommandEnd}
use Rattle.adb_commands.specs.declared.end.CommandEnd.TheVariants.{NotRun, Replayed, Judged, Generated, Answered}
use Rattle.adb_commands.specs.declared.load_stop.LoadStop.{LoadStop}
use Rattle.adb_commands.specs.declared.load_stop.LoadStop.TheVariants as load
use Rattle.adb_commands.specs.declared.script_kind.ScriptKind.{ScriptKind}
use Rattle.adb_commands.specs.declared.script_kind.ScriptKind.TheVariants as kinds
use Rattle.adb_commands.specs.declared.script_stop.ScriptStop.{ScriptStop}
use Rattle.adb_commands.specs.declared.script_stop.ScriptStop.TheVariants as script
use Rattle.adb_top.specs.Commands.{notice_of, IsTold}
use Rattle.adb_top.specs.Run.{IsUnheard}
use Rattle.adb_top.specs.declared.status.Status.{Status}

-- nothing of a text is a front of it
pub none_out : (text had : List ℕ) (written : Option (List ℕ)) → written ≡ Some had → HasFront had text written
none_out text had written is = record { growth = []; is = is ∙ ap Some (sym (append-nil had)); front = (text, refl) }

-- words are one command
one_command : {A : Type 0} (words : List (String A)) (one other : Command) → command_of (texts words) ≡ Some one
    → command_of (texts words) ≡ Some other
    → one ≡ other
one_command words one other is is_other = let same : Some one ≡ Some other = sym is ∙ is_other in cc

some_command : {A : Type 0} (words : List (String A)) (one : Command) → command_of (texts words) ≡ Some one
    → command_of (texts words) ≡ None → ⊥
some_command words one is none = let clash : Some one ≡ None = sym is ∙ none in cc

-- the command of a kind of scripts
scripted : {A : Type 0} (kind : ScriptKind) (words : List (String A)) → IsOfKind kind words
    → (command : Command) × (command_of (texts words) ≡ Some command)
scripted kinds.Local words is = (Local is.0, is.1)
scripted kinds.Copy words is = (Copy is.0, is.1)

one_kind : {A : Type 0} (kind other : ScriptKind) (words : List (String A)) → IsOfKind kind words → IsOfKind other words → other ≡ kind
one_kind kinds.Local kinds.Local words is is_other = refl
one_kind kinds.Copy kinds.Copy words is is_other = refl
one_kind kinds.Local kinds.Copy words is is_other =
    absurd (let clash : Local is.0 ≡ Copy is_other.0 = one_command words (Local is.0) (Copy is_other.0) is.1 is_other.1 in cc)
one_kind kinds.Copy kinds.Local words is is_other =
    absurd (let clash : Copy is.0 ≡ Local is_other.0 = one_command words (Copy is.0) (Local is_other.0) is.1 is_other.1 in cc)

other_kind : {A : Type 0} (kind : ScriptKind) (words : List (String A)) (command : Command) → ((seed : ℕ) → command ≢ Local seed)
    → ((seed : ℕ) → command ≢ Copy seed)
    → IsOfKind kind words → command_of (texts words) ≡ Some command → ⊥
other_kind kinds.Local words command local copy is named = local is.0 (one_command words command (Local is.0) named is.1)
other_kind kinds.Copy words command local copy is named = copy is.0 (one_command words command (Copy is.0) named is.1)

module _ {A S K : Type 0} (words : List (String A)) (s : Sight S) (k : Sight K) (source source_new : S) (sink sink_new : K) where
  abbrev Left : CommandEnd → Type 0
  Left end = Leaves words end s k source source_new sink sink_new

  -- An end is told as another one is.
  abbrev ToldAs : CommandEnd → CommandEnd → Type 0
  ToldAs end like = notice_of end ≡ notice_of like

  -- ---- a replay; if an allocation for the words failed, it is one that stopped so
  pub record AsReplay (end : CommandEnd) : Type 0 where
    pub result : Result (Unit {0}) Stop
    pub like : ToldAs end (Replayed result)
    pub leaves : LeavesReplay s k source source_new sink sink_new result

  starved_replay : (source_new ≡ source) → (sink_new ≡ sink) → LeavesReplay s k source source_new sink sink_new (Err stop.OutOfMemory)
  starved_replay unread unwritten = record {
    writes = λ bytes had is has. none_out (replayed bytes) had (k.told sink_new) (ap k.told unwritten ∙ has);
    ends = λ bytes is. tt;
    spells = λ had has. record { growth = []; is = ap k.told unwritten ∙ (has ∙ ap Some (sym (append-nil had))); spelled = inl (_, refl) };
    whole = λ e had has. inl (ap k.told unwritten ∙ has);
    consumes = λ e. absurd (let clash : ◌≡◌ {A = Result (Unit {0}) Stop} (Err stop.OutOfMemory) (Err stop.ReadFault) = e in cc);
    stops = λ e. absurd (let clash : ◌≡◌ {A = Result (Unit {0}) Stop} (Err stop.OutOfMemory) (Ok tt) = e in cc);
  }

  pub as_replay : (end : CommandEnd) → IsReplay words → Left end → AsReplay end
  as_replay (NotRun unread.Usage) is leaves = absurd (some_command words Replay is leaves.0)
  as_replay (NotRun unread.OutOfMemory) is leaves =
      record { result = Err stop.OutOfMemory; like = refl; leaves = starved_replay leaves.1.0 leaves.1.1 }
  as_replay (Replayed result) is leaves = record { result = result; like = refl; leaves = leaves.1 }
  as_replay (Judged result) is leaves = absurd (let clash : Replay ≡ Check = one_command words Replay Check is leaves.0 in cc)
  as_replay (Generated result) is leaves =
      absurd (let clash : Replay ≡ Gen leaves.0 leaves.1 = one_command words Replay (Gen leaves.0 leaves.1) is leaves.2 in cc)
  as_replay (Answered result) is leaves = absurd (other_kind leaves.0 words Replay (λ seed e. cc) (λ seed e. cc) leaves.1 is)

  -- ---- a history that is judged
  pub record AsCheck (end : CommandEnd) : Type 0 where
    pub result : Result Judgement Stop
    pub like : ToldAs end (Judged result)
    pub leaves : LeavesCheck s k source source_new sink sink_new result

  pub as_check : (end : CommandEnd) → IsCheck words → Left end → AsCheck end
  as_check (NotRun unread.Usage) is leaves = absurd (some_command words Check is leaves.0)
  as_check (NotRun unread.OutOfMemory) is leaves = record {
    result = Err stop.OutOfMemory;
    like = refl;
    leaves = record { judges = λ bytes was. tt; writes = λ bytes had was has. ap k.told leaves.1.1 ∙ has };
  }
  as_check (Replayed result) is leaves = absurd (let clash : Check ≡ Replay = one_command words Check Replay is leaves.0 in cc)
  as_check (Judged result) is leaves = record { result = result; like = refl; leaves = leaves.1 }
  as_check (Generated result) is leaves =
      absurd (let clash : Check ≡ Gen leaves.0 leaves.1 = one_command words Check (Gen leaves.0 leaves.1) is leaves.2 in cc)
  as_check (Answered result) is leaves = absurd (other_kind leaves.0 words Check (λ seed e. cc) (λ seed e. cc) leaves.1 is)

  -- ---- a load
  pub record AsLoad (seed streams : ℕ) (end : CommandEnd) : Type 0 where
    pub result : Result (Unit {0}) LoadStop
    pub like : ToldAs end (Generated result)
    pub leaves : LeavesLoad s k source source_new sink sink_new seed streams result

  same_load : (seed streams other_seed other_streams : ℕ) (result : Result (Unit {0}) LoadStop)
      → Gen seed streams ≡ Gen other_seed other_streams
      → LeavesLoad s k source source_new sink sink_new other_seed other_streams result
      → LeavesLoad s k source source_new sink sink_new seed streams result
  same_load seed streams other_seed other_streams result same leaves =
      let seeds : other_seed ≡ seed = cc in
      let both : other_streams ≡ streams = cc in
      subst (λ (m : ℕ). LeavesLoad s k source source_new sink sink_new seed m result) both
      (subst (λ (m : ℕ). LeavesLoad s k source source_new sink sink_new m other_streams result) seeds leaves)

  pub as_load : (end : CommandEnd) (seed streams : ℕ) → IsLoad seed streams words → Left end → AsLoad seed streams end
  as_load (NotRun unread.Usage) seed streams is leaves = absurd (some_command words (Gen seed streams) is leaves.0)
  as_load (NotRun unread.OutOfMemory) seed streams is leaves = record {
    result = Err load.OutOfMemory;
    like = refl;
    leaves = record { unread = leaves.1.0; writes = λ had has. ap k.told leaves.1.1 ∙ has };
  }
  as_load (Replayed result) seed streams is leaves =
      absurd (let clash : Gen seed streams ≡ Replay = one_command words (Gen seed streams) Replay is leaves.0 in cc)
  as_load (Judged result) seed streams is leaves =
      absurd (let clash : Gen seed streams ≡ Check = one_command words (Gen seed streams) Check is leaves.0 in cc)
  as_load (Generated result) seed streams is leaves = record {
    result = result;
    like = refl;
    leaves = same_load seed streams leaves.0 leaves.1 result
        (one_command words (Gen seed streams) (Gen leaves.0 leaves.1) is leaves.2) leaves.3;
  }
  as_load (Answered result) seed streams is leaves =
      absurd (other_kind leaves.0 words (Gen seed streams) (λ number e. cc) (λ number e. cc) leaves.1 is)

  -- ---- a script
  pub record AsScript (kind : ScriptKind) (end : CommandEnd) : Type 0 where
    pub result : Result (Unit {0}) ScriptStop
    pub like : ToldAs end (Answered result)
    pub leaves : LeavesScript s k source source_new sink sink_new kind result

  starved_script : (kind : ScriptKind) → (source_new ≡ source) → (sink_new ≡ sink)
      → LeavesScript s k source source_new sink sink_new kind (Err script.OutOfMemory)
  starved_script kind unread unwritten = record {
    refuses = λ bytes was. tt;
    writes = λ bytes had was has. inl (ap k.told unwritten ∙ has);
    whole = λ e. cc;
    within = λ coming was. record { front = []; rest = coming; is = refl; left = ap s.told unread ∙ was; few = omega arith };
    unwritten = λ line e. unwritten;
  }

  pub as_script : (kind : ScriptKind) (end : CommandEnd) → IsOfKind kind words → Left end → AsScript kind end
  as_script kind (NotRun unread.Usage) is leaves =
      let named = scripted kind words is in absurd (some_command words named.0 named.1 leaves.0)
  as_script kind (NotRun unread.OutOfMemory) is leaves =
      record { result = Err script.OutOfMemory; like = refl; leaves = starved_script kind leaves.1.0 leaves.1.1 }
  as_script kind (Replayed result) is leaves = absurd (other_kind kind words Replay (λ seed e. cc) (λ seed e. cc) is leaves.0)
  as_script kind (Judged result) is leaves = absurd (other_kind kind words Check (λ seed e. cc) (λ seed e. cc) is leaves.0)
  as_script kind (Generated result) is leaves =
      absurd (other_kind kind words (Gen leaves.0 leaves.1) (λ seed e. cc) (λ seed e. cc) is leaves.2)
  as_script kind (Answered result) is leaves = record {
    result = result;
    like = refl;
    leaves = subst (λ (other : ScriptKind). LeavesScript s k source source_new sink sink_new other result)
        (one_kind kind leaves.0 words is leaves.1) leaves.2;
  }

  -- ---- words that are none
  pub unheard : (end : CommandEnd) (status : Status) → Left end → IsTold (notice_of end) status → IsNoCommand words → IsUnheard words status
  unheard (NotRun unread.Usage) status leaves (inl own) none = inl own
  unheard (NotRun unread.Usage) status leaves (inr (inl lost)) none = inr (inl lost.1)
  unheard (NotRun unread.Usage) status leaves (inr (inr unmade)) none = absurd (let clash : false ≡ true = unmade.0 in cc)
  unheard (NotRun unread.OutOfMemory) status leaves (inl own) none = inr (inr (own, leaves.0))
  unheard (NotRun unread.OutOfMemory) status leaves (inr (inl lost)) none = inr (inl lost.1)
  unheard (NotRun unread.OutOfMemory) status leaves (inr (inr unmade)) none = absurd (let clash : false ≡ true = unmade.0 in cc)
  unheard (Replayed result) status leaves told none = absurd (some_command words Replay leaves.0 none)
  unheard (Judged result) status leaves told none = absurd (some_command words Check leaves.0 none)
  unheard (Generated result) status leaves told none = absurd (some_command words (Gen leaves.0 leaves.1) leaves.2 none)
  unheard (Answered result) status leaves told none =
      let named = scripted leaves.0 words leaves.1 in absurd (some_command words named.0 named.1 none)

  pub untouched : (end : CommandEnd) → Left end → IsNoCommand words → (source_new ≡ source) × (sink_new ≡ sink)
  untouched (NotRun unread.Usage) leaves none = leaves.1
  untouched (NotRun unread.OutOfMemory) leaves none = leaves.1
  untouched (Replayed result) leaves none = absurd (some_command words Replay leaves.0 none)
  untouched (Judged result) leaves none = absurd (some_command words Check leaves.0 none)
  untouched (Generated result) leaves none = absurd (some_command words (Gen leaves.0 leaves.1) leaves.2 none)
  untouched (Answered result) leaves none =
      let named = scripted leaves.0 words leaves.1 in absurd (some_command words named.0 named.1 none)
