-- Turns of a device, one behind the other.
use Rattle.std.specs.Prelude.{ℕ, ◌≡◌, ◌≢◌, Bool, true, false, List, [], ◌∷◌, ◌++◌, take, length, Result, Ok, Err, MatchResult}
use Rattle.std.proofs.Common.{refl, sym, ◌∙◌, ap, subst, inl, inr}
use Rattle.std.specs.List.{concat}
use Rattle.std.proofs.Math.Seq.{take-length}
use Rattle.std.proofs.lemmas.List.{append-nil, append_assoc}
use Rattle.std.proofs.lemmas.List.Folds.{concat-append}
use Rattle.std.proofs.lemmas.Bool.{true≢false}
use Rattle.adb_outside.specs.Bytes.{IsPrefixOf}
use Rattle.adb_outside.specs.Outside.{counted_on}
use Rattle.adb_pipe.specs.Ends.{InView, OutView}
use Rattle.adb_daemon.specs.declared.daemon.Daemon.{Daemon}
use Rattle.adb_daemon.specs.declared.error.DaemonError.{DaemonError}
use Rattle.adb_daemon.specs.declared.error.DaemonError.TheVariants.{OutOfMemory, Broken, BadCnxn}
use Rattle.adb_daemon.specs.Device.{Setting}
use Rattle.adb_daemon.specs.Daemon.{HasDone, HasDoneFront, Answers, owed}
use Rattle.adb_os_model_device.specs.declared.running.DeviceEnd.{DeviceEnd}
use Rattle.adb_os_model_device.specs.declared.running.DeviceEnd.TheVariants.{End, Lost, Refused, Error}
use Rattle.adb_os_model_device.proofs.Made.{done_front, cut_front}
use Rattle.adb_os_model_device.specs.Running.{GoesOn, Runs, HasEnded, HasFailed, with_taken, with_put, input_at, output_at, said_behind}

-- bytes behind chunks, and more chunks
joined : (bytes : List ℕ) (first later : List (List ℕ)) → (bytes ++ concat first) ++ concat later ≡ bytes ++ concat (first ++ later)
joined bytes first later = append_assoc bytes (concat first) (concat later)
    ∙ ap (λ (l : List ℕ). bytes ++ l) (sym (concat-append first later))

taken_more : (first later : List (List ℕ)) (input : InView) → with_taken later (with_taken first input) ≡ with_taken (first ++ later) input
taken_more first later input = ap (λ (l : List (List ℕ)). record input { taken = l }) (append_assoc input.taken first later)

put_more : (first later : List (List ℕ)) (output : OutView) → with_put later (with_put first output) ≡ with_put (first ++ later) output
put_more first later output = ap (λ (l : List (List ℕ)). record output { put = l }) (append_assoc output.put first later)

-- no turn
pub goes_nowhere : (daemon : Daemon) (input : InView) (output : OutView) → GoesOn daemon input output daemon input output
goes_nowhere daemon input output = record {
  taken = [];
  put = [];
  input_is = ap (λ (l : List (List ℕ)). record input { taken = l }) (sym (append-nil input.taken));
  output_is = ap (λ (l : List (List ℕ)). record output { put = l }) (sym (append-nil output.put));
  does = λ setting fed gone done. subst (λ (b : List ℕ). HasDone setting b (gone ++ []) daemon) (sym (append-nil fed))
      (subst (λ (b : List ℕ). HasDone setting fed b daemon) (sym (append-nil gone)) done);
}

module _ (first next : Daemon) (input input' : InView) (output output' : OutView)
    (goes : GoesOn first input output next input' output') where
  -- a turn behind others
  pub goes_further : (last : Daemon) (input'' : InView) (output'' : OutView) → GoesOn next input' output' last input'' output''
      → GoesOn first input output last input'' output''
  goes_further last input'' output'' later = record {
    taken = goes.taken ++ later.taken;
    put = goes.put ++ later.put;
    input_is = later.input_is ∙ ap (with_taken later.taken) goes.input_is ∙ taken_more goes.taken later.taken input;
    output_is = later.output_is ∙ ap (with_put later.put) goes.output_is ∙ put_more goes.put later.put output;
    does = λ setting fed gone done. subst
        (λ (b : List ℕ). HasDone setting b (gone ++ concat (goes.put ++ later.put)) last)
        (joined fed goes.taken later.taken)
        (subst (λ (b : List ℕ). HasDone setting ((fed ++ concat goes.taken) ++ concat later.taken) b last) (joined gone goes.put later.put)
        (later.does setting (fed ++ concat goes.taken) (gone ++ concat goes.put) (goes.does setting fed gone done)));
  }

  -- the end behind turns
  pub ends_behind : (last : Daemon) (end : DeviceEnd) (input'' : InView) (output'' : OutView)
      → Runs next input' output' last end input'' output''
      → Runs first input output last end input'' output''
  ends_behind last end input'' output'' later = record {
    taken = goes.taken ++ later.taken;
    put = goes.put ++ later.put;
    input_is = later.input_is ∙ ap (λ (v : InView). input_at end (with_taken later.taken v)) goes.input_is
        ∙ ap (input_at end) (taken_more goes.taken later.taken input);
    output_is = later.output_is ∙ ap (λ (v : OutView). output_at end (with_put later.put v)) goes.output_is
        ∙ ap (output_at end) (put_more goes.put later.put output);
    ends_once = λ is. sym (ap (λ (v : InView). v.ended) goes.input_is) ∙ later.ends_once is;
    front = λ setting fed gone done. subst (λ (b : List ℕ). IsPrefixOf (gone ++ concat (goes.put ++ later.put)) (said_behind setting b))
        (joined fed goes.taken later.taken)
        (subst (λ (b : List ℕ). IsPrefixOf b (said_behind setting ((fed ++ concat goes.taken) ++ concat later.taken)))
        (joined gone goes.put later.put)
        (later.front setting (fed ++ concat goes.taken) (gone ++ concat goes.put) (goes.does setting fed gone done)));
    ends = λ setting fed gone done. subst (λ (b : List ℕ). HasEnded setting b (gone ++ concat (goes.put ++ later.put)) end last)
        (joined fed goes.taken later.taken)
        (subst (λ (b : List ℕ). HasEnded setting ((fed ++ concat goes.taken) ++ concat later.taken) b end last)
        (joined gone goes.put later.put)
        (later.ends setting (fed ++ concat goes.taken) (gone ++ concat goes.put) (goes.does setting fed gone done)));
  }

  -- a turn, or the end, behind turns
  pub behind : (last : Daemon) (input'' : InView) (output'' : OutView) (result : Result (Unit {0}) DeviceEnd)
      → MatchResult result (λ x. GoesOn next input' output' last input'' output'')
      (λ end. Runs next input' output' last end input'' output'')
      → MatchResult result (λ x. GoesOn first input output last input'' output'') (λ end. Runs first input output last end input'' output'')
  behind last input'' output'' (Ok x) turned = goes_further last input'' output'' turned
  behind last input'' output'' (Err end) turned = ends_behind last end input'' output'' turned

-- whether the input has ended
abbrev is_end : DeviceEnd → Bool
is_end End = true
is_end Lost = false
is_end (Refused chunk) = false
is_end (Error error) = false

-- whether memory ran out
abbrev is_memory : Result (Unit {0}) DaemonError → Bool
is_memory (Ok x) = false
is_memory (Err OutOfMemory) = true
is_memory (Err (Broken error)) = false
is_memory (Err BadCnxn) = false

pub goes_on : (x : Unit {0}) → Ok x ≡ Err OutOfMemory → ⊥
goes_on x is = true≢false (sym (ap is_memory is))

-- a chunk alone
alone : (chunk : List ℕ) → concat (chunk ∷ []) ≡ chunk
alone chunk = append-nil chunk

-- an error and a refusal are no end of the input
not_the_end : (error : DaemonError) → Error error ≡ End → ⊥
not_the_end error is = true≢false (sym (ap is_end is))

refused_is_no_end : (chunk : List ℕ) → Refused chunk ≡ End → ⊥
refused_is_no_end chunk is = true≢false (sym (ap is_end is))

-- What one turn makes of a device.
module _ (daemon : Daemon) (input : InView) (output : OutView) where
  input_same : input ≡ with_taken [] input
  input_same = ap (λ (l : List (List ℕ)). record input { taken = l }) (sym (append-nil input.taken))

  output_same : output ≡ with_put [] output
  output_same = ap (λ (l : List (List ℕ)). record output { put = l }) (sym (append-nil output.put))

  -- nothing more was fed, and nothing more went out
  here : (P : List ℕ → List ℕ → Type 0) (fed gone : List ℕ) → P fed gone → P (fed ++ []) (gone ++ [])
  here P fed gone h = subst (λ (b : List ℕ). P b (gone ++ [])) (sym (append-nil fed))
      (subst (λ (b : List ℕ). P fed b) (sym (append-nil gone)) h)

  -- one chunk was fed, and nothing more went out
  behind_one : (chunk : List ℕ) (P : List ℕ → List ℕ → Type 0) (fed gone : List ℕ) → P (fed ++ chunk) gone
      → P (fed ++ concat (chunk ∷ [])) (gone ++ [])
  behind_one chunk P fed gone h =
      subst (λ (b : List ℕ). P (fed ++ concat (chunk ∷ [])) b) (sym (append-nil gone))
      (subst (λ (b : List ℕ). P (fed ++ b) gone) (sym (alone chunk)) h)

  -- memory ran out before anything
  pub runs_out : Runs daemon input output daemon (Error OutOfMemory) input output
  runs_out = record {
    taken = [];
    put = [];
    input_is = input_same;
    output_is = output_same;
    ends_once = λ is. absurd (not_the_end OutOfMemory is);
    front = λ setting fed gone done. here (λ f g. IsPrefixOf g (said_behind setting f)) fed gone (done_front setting fed gone daemon done);
    ends = λ setting fed gone done. here (λ f g. HasEnded setting f g (Error OutOfMemory) daemon) fed gone (inl done);
  }

  -- the chunk of all that is owed was refused
  pub is_refused : (chunk : List ℕ) (output' : OutView) → chunk ≡ owed daemon
      → output' ≡ record output { refused = counted_on output.refused }
      → Runs daemon input output daemon (Refused chunk) input output'
  is_refused chunk output' is refused = record {
    taken = [];
    put = [];
    input_is = input_same;
    output_is = refused ∙ ap (output_at (Refused chunk)) output_same;
    ends_once = λ end. absurd (refused_is_no_end chunk end);
    front = λ setting fed gone done. here (λ f g. IsPrefixOf g (said_behind setting f)) fed gone (done_front setting fed gone daemon done);
    ends = λ setting fed gone done. here (λ f g. HasEnded setting f g (Refused chunk) daemon) fed gone
        (done, ap (λ (l : List ℕ). gone ++ l) is ∙ done.stands.holds.due);
  }

  -- the chunk of all that is owed was put
  pub puts_all : (chunk : List ℕ) (n : ℕ) (daemon' : Daemon) (output' : OutView) → chunk ≡ owed daemon → n ≡ length (owed daemon)
      → output' ≡ record output { put = output.put ++ chunk ∷ [] }
      → ((setting : Setting) (fed gone : List ℕ) → HasDone setting fed gone daemon
      → HasDone setting fed (gone ++ take n (owed daemon)) daemon')
      → GoesOn daemon input output daemon' input output'
  puts_all chunk n daemon' output' is all put taken = record {
    taken = [];
    put = chunk ∷ [];
    input_is = input_same;
    output_is = put;
    does = λ setting fed gone done.
        let whole : take n (owed daemon) ≡ concat (chunk ∷ []) =
        ap (λ (m : ℕ). take m (owed daemon)) all ∙ take-length (owed daemon) ∙ sym is ∙ sym (alone chunk) in
        subst (λ (b : List ℕ). HasDone setting b (gone ++ concat (chunk ∷ [])) daemon') (sym (append-nil fed))
        (subst (λ (b : List ℕ). HasDone setting fed (gone ++ b) daemon') whole (taken setting fed gone done));
  }

  -- the end mark was taken, or nothing, where nothing is owed
  pub is_over : (end : DeviceEnd) (input' : InView) → owed daemon ≡ [] → input' ≡ input_at end input → output_at end output ≡ output
      → (end ≡ End → input.ended ≡ false)
      → ((setting : Setting) (fed gone : List ℕ) → HasDone setting fed gone daemon
      → gone ≡ said_behind setting fed
      → HasEnded setting fed gone end daemon)
      → Runs daemon input output daemon end input' output
  is_over end input' none taken stands once all = record {
    taken = [];
    put = [];
    input_is = taken ∙ ap (input_at end) input_same;
    output_is = sym stands ∙ ap (output_at end) output_same;
    ends_once = once;
    front = λ setting fed gone done. here (λ f g. IsPrefixOf g (said_behind setting f)) fed gone (done_front setting fed gone daemon done);
    ends = λ setting fed gone done. here (λ f g. HasEnded setting f g end daemon) fed gone
        (all setting fed gone done (sym (append-nil gone) ∙ ap (λ (l : List ℕ). gone ++ l) (sym none) ∙ done.stands.holds.due));
  }

  pub ends_here : (input' : InView) → owed daemon ≡ [] → input.ended ≡ false → input' ≡ record input { ended = true }
      → Runs daemon input output daemon End input' output
  ends_here input' none still taken = is_over End input' none taken refl (λ is. still) (λ setting fed gone done all. (done, all))

  pub is_lost : (input' : InView) → owed daemon ≡ [] → input' ≡ record input { lost = counted_on input.lost }
      → Runs daemon input output daemon Lost input' output
  is_lost input' none taken = is_over Lost input' none taken refl (λ is. absurd (true≢false (sym (ap is_end is))))
      (λ setting fed gone done all. (done, all))

  -- a chunk was fed
  pub feeds : (chunk : List ℕ) (daemon' : Daemon) (input' : InView) → input' ≡ record input { taken = input.taken ++ chunk ∷ [] }
      → ((setting : Setting) (fed gone : List ℕ) → HasDone setting fed gone daemon → HasDone setting (fed ++ chunk) gone daemon')
      → GoesOn daemon input output daemon' input' output
  feeds chunk daemon' input' taken fed_more = record {
    taken = chunk ∷ [];
    put = [];
    input_is = taken;
    output_is = output_same;
    does = λ setting fed gone done. subst (λ (b : List ℕ). HasDone setting (fed ++ concat (chunk ∷ [])) b daemon') (sym (append-nil gone))
        (subst (λ (b : List ℕ). HasDone setting (fed ++ b) gone daemon') (sym (alone chunk)) (fed_more setting fed gone done));
  }

  -- a chunk was fed at which the device has an error
  pub fails : (chunk : List ℕ) (error : DaemonError) (daemon' : Daemon) (input' : InView)
      → input' ≡ record input { taken = input.taken ++ chunk ∷ [] }
      → ((setting : Setting) (fed gone : List ℕ) → HasDone setting fed gone daemon → IsPrefixOf gone (said_behind setting (fed ++ chunk))
      × HasFailed setting (fed ++ chunk) gone error daemon')
      → Runs daemon input output daemon' (Error error) input' output
  fails chunk error daemon' input' taken failed = record {
    taken = chunk ∷ [];
    put = [];
    input_is = taken;
    output_is = output_same;
    ends_once = λ is. absurd (not_the_end error is);
    front = λ setting fed gone done.
        behind_one chunk (λ f g. IsPrefixOf g (said_behind setting f)) fed gone (failed setting fed gone done).0;
    ends = λ setting fed gone done. behind_one chunk (λ f g. HasEnded setting f g (Error error) daemon') fed gone
        (failed setting fed gone done).1;
  }

  -- what the device says at a chunk
  pub feeds_well : (chunk : List ℕ) (daemon' : Daemon) (input' : InView) (result : Result (Unit {0}) DaemonError)
      → input' ≡ record input { taken = input.taken ++ chunk ∷ [] }
      → ((setting : Setting) (fed gone : List ℕ) → HasDone setting fed gone daemon → Answers setting (fed ++ chunk) gone result daemon')
      → GoesOn daemon input output daemon' input' output
  feeds_well chunk daemon' input' result taken answers =
      feeds chunk daemon' input' taken (λ setting fed gone done. (answers setting fed gone done).done)

  pub feeds_badly : (chunk : List ℕ) (error : DaemonError) (daemon' : Daemon) (input' : InView) (result : Result (Unit {0}) DaemonError)
      → result ≡ Err error → input' ≡ record input { taken = input.taken ++ chunk ∷ [] }
      → (result ≢ Err OutOfMemory → (setting : Setting) (fed gone : List ℕ) → HasDone setting fed gone daemon
      → Answers setting (fed ++ chunk) gone result daemon')
      → (result ≡ Err OutOfMemory → (setting : Setting) (fed gone : List ℕ) → HasDone setting fed gone daemon
      → HasDoneFront setting (fed ++ chunk) gone daemon')
      → Runs daemon input output daemon' (Error error) input' output
  feeds_badly chunk OutOfMemory daemon' input' result is taken whole front =
      fails chunk OutOfMemory daemon' input' taken (λ setting fed gone done.
      let cut = front is setting fed gone done in
      (cut_front setting (fed ++ chunk) gone daemon' cut, inr cut))
  feeds_badly chunk (Broken error) daemon' input' result is taken whole front =
      fails chunk (Broken error) daemon' input' taken (λ setting fed gone done.
      let answers = whole (λ out. absurd (true≢false (ap is_memory (sym out ∙ is)))) setting fed gone done in
      (done_front setting (fed ++ chunk) gone daemon' answers.done, (answers.done, sym answers.answer ∙ is)))
  feeds_badly chunk BadCnxn daemon' input' result is taken whole front = fails chunk BadCnxn daemon' input' taken (λ setting fed gone done.
      let answers = whole (λ out. absurd (true≢false (ap is_memory (sym out ∙ is)))) setting fed gone done in
      (done_front setting (fed ++ chunk) gone daemon' answers.done, (answers.done, sym answers.answer ∙ is)))
