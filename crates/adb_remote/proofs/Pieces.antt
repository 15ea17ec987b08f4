-- A piece of the answer, and the words that are due behind it.
use Rattle.std.proofs.Common.{ℕ, zero, suc, ◌+◌, ◌-◌, ◌≡◌, ◌≢◌, ◌≤◌, ◌⊎◌, inl, inr, Bool, true, false, cond, List, [], ◌++◌, length, take}
use Rattle.std.proofs.Common.{drop, Option, Some, Result, Ok, Err, refl, sym, ◌∙◌, ap, subst, arith, append_assoc}
use Rattle.std.specs.Prelude.{⊤, codes}
use Rattle.std.proofs.lemmas.List.{append-nil, length-take, drop-append-le, take-append-le, take-append-drop}
use Rattle.std.proofs.lemmas.Slice.Eq.{bytes_eq-Decides}
use Rattle.std.specs.Prelude.{bytes_eq}
use Rattle.adb_outside.specs.Bytes.{IsPrefixOf}
use Rattle.adb_outside.specs.Outside.{Rises, Counts}
use Rattle.adb_outside.specs.Source.{TellsRead}
use Rattle.adb_outside.specs.declared.source.Got.TheVariants as gots
use Rattle.adb_sync_client.specs.declared.step.Step.{Step}
use Rattle.adb_sync_client.specs.declared.step.Step.TheVariants as steps
use Rattle.adb_remote_words.specs.declared.remote.Remote.{Remote}
use Rattle.adb_remote_words.specs.declared.remote.Outcome.{Outcome}
use Rattle.adb_remote_words.specs.Outcome.{decided, outcome_of}
use Rattle.adb_remote_words.specs.Reading.{HeldAnswer, ReadingStands, HasRead}
use Rattle.adb_remote_words.specs.Words.{begins_okay, client_words, okays_at, requests, words_to}
use Rattle.adb_remote.specs.declared.sending.SendError.{SendError}
use Rattle.adb_remote.specs.declared.sending.SendError.TheVariants.{PortFault, OutOfMemory}
use Rattle.adb_remote.specs.Sending.{Outlet, SaysTo}
use Rattle.adb_remote.specs.Conversing.{Ports, inlet, is_empty, ports_of, CutsShort, SaysWords, Took, TakesPiece, Turns}
use Rattle.adb_remote.proofs.Writes.{words_grow}

-- ---- the words that are due become more
okay_is : (bytes : List ℕ) → begins_okay bytes ≡ true → codes "OKAY" ≡ take 4 bytes
okay_is bytes is = (bytes_eq-Decides (codes "OKAY") (take 4 bytes)).0 is

okays_grow : (n : ℕ) (x y : List ℕ) → okays_at n x ≤ okays_at n (x ++ y)
okays_grow zero x y = omega arith
okays_grow (suc n) x y = go (begins_okay x) refl (okays_grow n (drop 4 x) y)
  where
    go : (t : Bool) → begins_okay x ≡ t → okays_at n (drop 4 x) ≤ okays_at n (drop 4 x ++ y)
        → okays_at (suc n) x ≤ okays_at (suc n) (x ++ y)
    go false is more =
        let none : okays_at (suc n) x ≡ 0 = ap (λ t. cond t (1 + okays_at n (drop 4 x)) 0) is in
        omega (arith, none)
    go true is more =
        let len : 4 ≡ length (take 4 x) = ap (length {A = ℕ}) (okay_is x is) in
        let fits : 4 ≤ length x = omega (arith, len, length-take 4 x) in
        let here : okays_at (suc n) x ≡ 1 + okays_at n (drop 4 x) = ap (λ t. cond t (1 + okays_at n (drop 4 x)) 0) is in
        let later : begins_okay (x ++ y) ≡ true = ap (bytes_eq (codes "OKAY")) (take-append-le 4 x y fits) ∙ is in
        let there : okays_at (suc n) (x ++ y) ≡ 1 + okays_at n (drop 4 x ++ y) =
        λ i. cond (later i) (1 + okays_at n (drop-append-le 4 x y fits i)) 0 in
        omega (arith, here, there, more)

words_front : {A : Type 0} (steady : A → Type 0) (view : A → Outlet) (job : Remote) (on : Option (List ℕ)) (x y : List ℕ)
    → IsPrefixOf (client_words job on x) (client_words job on (x ++ y))
words_front steady view job on x y =
    let less = okays_grow (requests job) x y in
    let from = okays_at (requests job) x in
    let to = okays_at (requests job) (x ++ y) in
    let sum : (to - from) + from ≡ to = omega (arith, less) in
    let more = words_grow steady view job on from (to - from) in
    (more.0, more.1 ∙ ap (words_to job on) sum)

-- ---- a piece
-- what became of a step whose words were to be written
abbrev pub carried : Result ⊤ SendError → Step Outcome → Result (Step Outcome) SendError
carried (Ok done) step = Ok step
carried (Err error) step = Err error

module _ {A : Type 0} (steady : A → Type 0) (view : A → Outlet) (job : Remote) (on : Option (List ℕ)) (piece : List ℕ)
    (before after : HeldAnswer) where
  -- memory ran out before anything was written
  pub piece_starved : (o : A) → TakesPiece steady view job on piece o o before after (Err OutOfMemory)
  piece_starved o = record {
    told = λ read stands. record {
      now = λ step e. cc;
      stands = λ e. cc;
      says = λ out is. record {
        said = client_words job on read;
        written_is = is;
        part = words_front steady view job on read piece;
        whole = inr tt;
      };
    };
    count = omega arith;
    fault = λ e. cc;
    keeps = λ h. h;
    never = λ h e. cc;
    closed = refl;
  }

  -- the words were written, or not all
  words_said : (read out : List ℕ) (old new : A) (step : Step Outcome) (answer : Result ⊤ SendError) → ReadingStands job read before
      → HasRead job (read ++ piece) step after → SaysTo steady view job on before.opening.okays after.opening.okays old new answer
      → (view old).written ≡ Some (out ++ client_words job on read)
      → SaysWords job on (read ++ piece) out (view new).written (CutsShort (carried answer step) (view old).faults (view new).faults)
  words_said read out old new step answer stands has says is =
      let from = before.opening.okays in
      let to = after.opening.okays in
      let less : from ≤ to = omega (arith, stands.okays, has.okays, okays_grow (requests job) read piece) in
      let was : words_to job on from ≡ client_words job on read = ap (words_to job on) stands.okays in
      let due : words_to job on to ≡ client_words job on (read ++ piece) = ap (words_to job on) has.okays in
      let went = says.sends.told (out ++ words_to job on from) (is ∙ ap (λ t. Some (out ++ t)) (sym was)) in
      let all : words_to job on from ++ says.text ≡ client_words job on (read ++ piece) = says.same less ∙ due in
      record {
        said = words_to job on from ++ went.said;
        written_is = went.after_is ∙ ap Some (append_assoc out (words_to job on from) went.said);
        part = (
          went.part.0,
          append_assoc (words_to job on from) went.said went.part.0 ∙ (ap (λ t. words_to job on from ++ t) went.part.1 ∙ all),
        );
        whole = whole_of answer says.sends.fault (λ e. ap (λ t. words_to job on from ++ t) (went.whole e) ∙ all);
      }
    where
      whole_of : {W : Type 0} (a : Result ⊤ SendError) → (a ≡ Err PortFault → Rises (view old).faults (view new).faults) → (a ≡ Ok tt → W)
          → W ⊎ CutsShort (carried a step) (view old).faults (view new).faults
      whole_of (Ok done) fault said = inl (said refl)
      whole_of (Err PortFault) fault said = inr (fault refl)
      whole_of (Err OutOfMemory) fault said = inr tt

  took : (read : List ℕ) (old new : A) (step : Step Outcome) (answer : Result ⊤ SendError) → ReadingStands job read before
      → HasRead job (read ++ piece) step after → SaysTo steady view job on before.opening.okays after.opening.okays old new answer
      → Took job on (read ++ piece) (λ out. (view old).written ≡ Some (out ++ client_words job on read)) (view new).written
      (CutsShort (carried answer step) (view old).faults (view new).faults) after (carried answer step)
  took read old new step answer stands has says = record {
    now = λ s e. same_step answer s e ∙ has.now;
    stands = λ e. has.stands (sym (same_step answer steps.More e));
    says = λ out is. words_said read out old new step answer stands has says is;
  }
    where
      same_step : (a : Result ⊤ SendError) (s : Step Outcome) → carried a step ≡ Ok s → s ≡ step
      same_step (Ok done) s e = cc
      same_step (Err error) s e = cc

  pub piece_said : (old new : A) (step : Step Outcome) (answer : Result ⊤ SendError)
      → ((fed : List ℕ) → ReadingStands job fed before → HasRead job (fed ++ piece) step after)
      → SaysTo steady view job on before.opening.okays after.opening.okays old new answer
      → TakesPiece steady view job on piece old new before after (carried answer step)
  piece_said old new step answer reads says = record {
    told = λ read stands. took read old new step answer stands (reads read stands) says;
    count = says.sends.count;
    fault = λ e. says.sends.fault (port_failed answer e);
    keeps = says.sends.keeps;
    never = λ h e. says.sends.never h (port_failed answer e);
    closed = says.sends.closed;
  }
    where
      port_failed : (a : Result ⊤ SendError) → carried a step ≡ Err PortFault → a ≡ Err PortFault
      port_failed (Ok done) e = cc
      port_failed (Err error) e = let same : error ≡ PortFault = cc in ap Err same

  -- the same, where the words are counted apart
  pub piece_told : (from to : ℕ) (old new : A) (step : Step Outcome) (answer : Result ⊤ SendError)
      → ((fed : List ℕ) → ReadingStands job fed before → HasRead job (fed ++ piece) step after)
      → from ≡ before.opening.okays → to ≡ after.opening.okays → SaysTo steady view job on from to old new answer
      → TakesPiece steady view job on piece old new before after (carried answer step)
  piece_told from to old new step answer reads first last says =
      let there = subst (λ (n : ℕ). SaysTo steady view job on n to old new answer) first says in
      piece_said old new step answer reads (subst (λ (n : ℕ). SaysTo steady view job on before.opening.okays n old new answer) last there)

-- ---- a turn
decided_same : (s : Step Outcome) (len other : ℕ) (ended end : Bool) → s ≢ steps.More → decided s len ended ≡ decided s other end
decided_same steps.More len other ended end some = absurd (some refl)
decided_same (steps.Done outcome) len other ended end some = refl
decided_same (steps.Refused text) len other ended end some = refl
decided_same (steps.BadAnswer offset) len other ended end some = refl

module _ {I O : Type 0} (steady_in : I → Type 0) (faults : I → ℕ) (left : I → Option (List ℕ)) (steady : O → Type 0) (view : O → Outlet)
    (job : Remote) (on : Option (List ℕ)) (in_old in_new : I) (before : HeldAnswer) where
  abbrev ports : Ports I O
  ports = ports_of steady_in (inlet faults left) steady view

  -- all was said, and nothing more
  says_all : {short : Type 0} (read out : List ℕ) (o : O) → (view o).written ≡ Some (out ++ client_words job on read)
      → SaysWords job on read out (view o).written short
  says_all read out o is = record {
    said = client_words job on read;
    written_is = is;
    part = ([], append-nil (client_words job on read));
    whole = inl refl;
  }

  -- bytes came
  pub turn_bytes : (n : ℕ) (buffer : List ℕ) (out_old out_new : O) (after : HeldAnswer) (answer : Result (Step Outcome) SendError)
      → TellsRead (left in_old) (left in_new) buffer (gots.Bytes n) → Counts steady_in faults in_old in_new false
      → TakesPiece steady view job on (take n buffer) out_old out_new before after answer
      → Turns ports job on in_old in_new out_old out_new before after answer
  turn_bytes n buffer out_old out_new after answer tells counts piece = record {
    told = λ read rest stands left_is.
        let t = tells rest left_is in
        let k = piece.told read stands in
        let all : (read ++ take n buffer) ++ drop n rest ≡ read ++ rest =
        append_assoc read (take n buffer) (drop n rest)
        ∙ (ap (λ b. read ++ (b ++ drop n rest)) t.front ∙ ap (λ b. read ++ b) (take-append-drop n rest)) in
        record {
          read = read ++ take n buffer;
          rest = drop n rest;
          left_is = t.rest;
          taken = sym all;
          outcome = λ step e some.
              ap (λ s. decided s (length (read ++ take n buffer)) (is_empty (drop n rest))) (sym (k.now step e))
              ∙ decided_same step (length (read ++ take n buffer)) 0 (is_empty (drop n rest)) false some;
          stands = k.stands;
          says = k.says;
        };
    means = λ read stands.
        let k = piece.told read stands in
        record {
          read = read ++ take n buffer;
          ended = false;
          outcome = λ step e some.
              ap (λ s. decided s (length (read ++ take n buffer)) false) (sym (k.now step e))
              ∙ decided_same step (length (read ++ take n buffer)) 0 false false some;
          stands = k.stands;
        };
    calls = record {
      count_in = counts.count;
      count_out = piece.count;
      fault = λ e. inr (piece.fault e);
      keeps_in = counts.keeps;
      keeps_out = piece.keeps;
      never = λ h k e. piece.never k e;
      closed = piece.closed;
    };
  }

  -- nothing is left
  pub turn_end : (buffer : List ℕ) (o : O) (count : ℕ) → count ≡ before.count → TellsRead (left in_old) (left in_new) buffer gots.End
      → Counts steady_in faults in_old in_new false
      → Turns ports job on in_old in_new o o before before (Ok (steps.BadAnswer count))
  turn_end buffer o count counted tells counts = record {
    told = λ read rest stands left_is.
        let t = tells rest left_is in
        record {
          read = read;
          rest = [];
          left_is = t.1;
          taken = ap (λ r. read ++ r) t.0;
          outcome = λ step e some. ended_here read stands step e;
          stands = λ e. cc;
          says = λ out is. says_all read out o is;
        };
    means = λ read stands. record {
      read = read;
      ended = true;
      outcome = λ step e some. ended_here read stands step e;
      stands = λ e. cc;
    };
    calls = record {
      count_in = counts.count;
      count_out = omega arith;
      fault = λ e. cc;
      keeps_in = counts.keeps;
      keeps_out = λ h. h;
      never = λ h k e. cc;
      closed = refl;
    };
  }
    where
      ended_here : (read : List ℕ) → ReadingStands job read before → (step : Step Outcome)
          → ◌≡◌ {A = Result (Step Outcome) SendError} (Ok (steps.BadAnswer count)) (Ok step)
          → outcome_of job read true ≡ decided step 0 false
      ended_here read stands step e =
          let same : steps.BadAnswer count ≡ step = cc in
          let size : length read ≡ count = sym stands.count ∙ sym counted in
          ap (λ s. decided s (length read) true) stands.undecided
          ∙ (ap (λ k. decided (steps.BadAnswer k) 0 false) size ∙ ap (λ s. decided s 0 false) same)

  -- the read failed
  pub turn_failed : (buffer : List ℕ) (o : O) → TellsRead (left in_old) (left in_new) buffer gots.Failed
      → Counts steady_in faults in_old in_new true
      → Turns ports job on in_old in_new o o before before (Err PortFault)
  turn_failed buffer o tells counts = record {
    told = λ read rest stands left_is. record {
      read = read;
      rest = rest;
      left_is = tells rest left_is;
      taken = refl;
      outcome = λ step e. cc;
      stands = λ e. cc;
      says = λ out is. says_all read out o is;
    };
    means = λ read stands. record { read = read; ended = false; outcome = λ step e. cc; stands = λ e. cc };
    calls = record {
      count_in = counts.count;
      count_out = omega arith;
      fault = λ e. inl (counts.fault refl);
      keeps_in = counts.keeps;
      keeps_out = λ h. h;
      never = λ h k e. let clash = counts.steady h in cc;
      closed = refl;
    };
  }
