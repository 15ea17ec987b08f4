-- A conversation, turn by turn.
use Rattle.std.proofs.Common.{ℕ, ◌≡◌, ◌≢◌, ◌⊎◌, inl, inr, true, false, List, [], ◌++◌, Option, Some, Result, Ok, Err, refl, sym, ◌∙◌, ap}
use Rattle.std.proofs.Common.{arith}
use Rattle.std.specs.Prelude.{⊤}
use Rattle.std.proofs.lemmas.List.{append-nil}
use Rattle.adb_outside.specs.Outside.{Rises}
use Rattle.adb_sync_client.specs.declared.step.Step.{Step}
use Rattle.adb_sync_client.specs.declared.step.Step.TheVariants.{More, Done, Refused, BadAnswer}
use Rattle.adb_remote_words.specs.declared.remote.Remote.{Remote}
use Rattle.adb_remote_words.specs.declared.remote.Remote.TheVariants.{Devices, Push, Pull, Shell, Wait}
use Rattle.adb_remote_words.specs.declared.remote.Outcome.{Outcome}
use Rattle.adb_remote_words.specs.declared.remote.RemoteError.{RemoteError}
use Rattle.adb_remote_words.specs.declared.remote.RemoteError.TheVariants as errors
use Rattle.adb_remote_words.specs.Meaning.{is_more}
use Rattle.adb_remote_words.specs.Outcome.{decided}
use Rattle.adb_remote_words.specs.Reading.{HeldAnswer, ReadingStands}
use Rattle.adb_remote_words.specs.Words.{client_words, word}
use Rattle.adb_remote.specs.declared.sending.SendError.{SendError}
use Rattle.adb_remote.specs.declared.sending.SendError.TheVariants.{PortFault, OutOfMemory}
use Rattle.adb_remote.specs.Sending.{Sends, remote_error}
use Rattle.adb_remote.specs.Conversing.{Ports, Calls, Converses, CutsShort, IsCutShort, Listens, Turns}
use Rattle.adb_remote.proofs.Writes.{rises_later}

pub first_due : (job : Remote) (on : Option (List ℕ)) → client_words job on [] ≡ word job on 0
first_due Devices on = refl
first_due (Wait serial state) on = refl
first_due (Push path mtime bytes) on = refl
first_due (Pull path) on = refl
first_due (Shell command) on = refl

port_error : (e : SendError) → ◌≡◌ {A = Result Outcome RemoteError} (Err (remote_error e)) (Err errors.PortFault) → e ≡ PortFault
port_error PortFault e = refl
port_error OutOfMemory e = cc

neither : (e : SendError) → ◌≢◌ {A = Result Outcome RemoteError} (Err (remote_error e)) (Err errors.PortFault)
    → ◌≢◌ {A = Result Outcome RemoteError} (Err (remote_error e)) (Err errors.OutOfMemory) → ⊥
neither PortFault a b = a refl
neither OutOfMemory a b = b refl

starved_only : ◌≢◌ {A = Result Outcome RemoteError} (Err errors.OutOfMemory) (Err errors.PortFault)
starved_only e = cc

not_more : (s : Step Outcome) → is_more s ≡ false → s ≢ More
not_more More ends e = cc
not_more (Done outcome) ends e = cc
not_more (Refused text) ends e = cc
not_more (BadAnswer offset) ends e = cc

-- what an answer means is no fault of the port
never_fault : (s : Step Outcome) (result : Result Outcome RemoteError) → decided s 0 false ≡ Some result → result ≢ Err errors.PortFault
never_fault More result is e = cc
never_fault (Done outcome) result is e = cc
never_fault (Refused text) result is e = cc
never_fault (BadAnswer offset) result is e = cc

-- nothing cut the words short
all_said : {W : Type 0} → W ⊎ ⊥ → W
all_said (inl w) = w
all_said (inr none) = absurd none

module _ {I O : Type 0} (ports : Ports I O) where
  -- ---- calls one behind the other
  calls_none : (i : I) (o : O) → Calls ports i i o o ⊥
  calls_none i o = record {
    count_in = omega arith;
    count_out = omega arith;
    fault = λ e. absurd e;
    keeps_in = λ h. h;
    keeps_out = λ h. h;
    never = λ h k e. e;
    closed = refl;
  }

  calls_then : (i j k : I) (o p q : O) (failed : Type 0) → Calls ports i j o p ⊥ → Calls ports j k p q failed → Calls ports i k o q failed
  calls_then i j k o p q failed a b = record {
    count_in = omega (arith, a.count_in, b.count_in);
    count_out = omega (arith, a.count_out, b.count_out);
    fault = λ e. later (b.fault e);
    keeps_in = λ h. b.keeps_in (a.keeps_in h);
    keeps_out = λ h. b.keeps_out (a.keeps_out h);
    never = λ h g. b.never (a.keeps_in h) (a.keeps_out g);
    closed = b.closed ∙ a.closed;
  }
    where
      later : Rises (ports.view_in j).faults (ports.view_in k).faults ⊎ Rises (ports.view_out p).faults (ports.view_out q).faults
          → Rises (ports.view_in i).faults (ports.view_in k).faults ⊎ Rises (ports.view_out o).faults (ports.view_out q).faults
      later (inl x) = inl (rises_later (ports.view_in i).faults (ports.view_in j).faults (ports.view_in k).faults a.count_in x)
      later (inr y) = inr (rises_later (ports.view_out o).faults (ports.view_out p).faults (ports.view_out q).faults a.count_out y)

  calls_so : (i k : I) (o q : O) (failed other : Type 0) → (other → failed) → Calls ports i k o q failed → Calls ports i k o q other
  calls_so i k o q failed other so a = record {
    count_in = a.count_in;
    count_out = a.count_out;
    fault = λ e. a.fault (so e);
    keeps_in = a.keeps_in;
    keeps_out = a.keeps_out;
    never = λ h g e. a.never h g (so e);
    closed = a.closed;
  }

  -- writes alone
  calls_sent : (i : I) (o q : O) (text : List ℕ) (answer : Result ⊤ SendError) → Sends ports.steady_out ports.view_out text o q answer
      → Calls ports i i o q (answer ≡ Err PortFault)
  calls_sent i o q text answer s = record {
    count_in = omega arith;
    count_out = s.count;
    fault = λ e. inr (s.fault e);
    keeps_in = λ h. h;
    keeps_out = s.keeps;
    never = λ h g. s.never g;
    closed = s.closed;
  }

  module _ (job : Remote) (on : Option (List ℕ)) where
    -- ---- while nothing is decided
    pub record Talking (coming : List ℕ) (left : Option (List ℕ)) (had : List ℕ → Type 0) (written : Option (List ℕ)) (r : HeldAnswer)
        : Type 0 where
      pub read : List ℕ
      pub rest : List ℕ
      pub left_is : left ≡ Some rest
      pub taken : coming ≡ read ++ rest
      pub stands : ReadingStands job read r
      pub says : (out : List ℕ) → had out → written ≡ Some (out ++ client_words job on read)

    pub record TalksSo (i j : I) (o p : O) (r : HeldAnswer) : Type 0 where
      pub told : (coming : List ℕ) → (ports.view_in i).left ≡ Some coming
          → Talking coming (ports.view_in j).left (λ out. (ports.view_out o).written ≡ Some (out ++ client_words job on []))
          (ports.view_out p).written r
      pub means : (read : List ℕ) × ReadingStands job read r
      pub calls : Calls ports i j o p ⊥

    pub talks_first : (i : I) (o : O) (r : HeldAnswer) → ReadingStands job [] r → TalksSo i i o o r
    talks_first i o r stands = record {
      told = λ coming left_is. record {
        read = [];
        rest = coming;
        left_is = left_is;
        taken = refl;
        stands = stands;
        says = λ out is. is;
      };
      means = ([], stands);
      calls = calls_none i o;
    }

    module _ (i j k : I) (o p q : O) (r s : HeldAnswer) (talks : TalksSo i j o p r) where
      pub talks_on : Turns ports job on j k p q r s (Ok More) → TalksSo i k o q s
      talks_on turn = record {
        told = λ coming left_is.
            let t = talks.told coming left_is in
            let n = turn.told t.read t.rest t.stands t.left_is in
            record {
              read = n.read;
              rest = n.rest;
              left_is = n.left_is;
              taken = t.taken ∙ n.taken;
              stands = n.stands refl;
              says = λ out was.
                  let w = n.says out (t.says out was) in
                  w.written_is ∙ ap (λ w. Some (out ++ w)) (all_said w.whole);
            };
        means = (let n = turn.means talks.means.0 talks.means.1 in (n.read, n.stands refl));
        calls = calls_then i j k o p q ⊥ talks.calls
            (calls_so j k p q (Ok More ≡ Err PortFault) ⊥ (λ e. absurd e) turn.calls);
      }

      pub talks_done : (step : Step Outcome) (result : Result Outcome RemoteError) → Turns ports job on j k p q r s (Ok step) → step ≢ More
          → decided step 0 false ≡ Some result → (result ≡ Err errors.PortFault → ⊥) → Listens ports job on i k o q result
      talks_done step result turn some is no_fault = record {
        told = λ coming left_is.
            let t = talks.told coming left_is in
            let n = turn.told t.read t.rest t.stands t.left_is in
            record {
              read = n.read;
              rest = n.rest;
              left_is = n.left_is;
              taken = t.taken ∙ n.taken;
              outcome = λ a b. n.outcome step refl some ∙ is;
              says = λ out was.
                  let w = n.says out (t.says out was) in
                  record { said = w.said; written_is = w.written_is; part = w.part; whole = inl (all_said w.whole) };
            };
        means = λ a b. (let n = turn.means talks.means.0 talks.means.1 in (n.read, n.ended, n.outcome step refl some ∙ is));
        calls = calls_then i j k o p q (result ≡ Err errors.PortFault) talks.calls
            (calls_so j k p q (Ok step ≡ Err PortFault) (result ≡ Err errors.PortFault) (λ e. absurd (no_fault e)) turn.calls);
      }

      pub talks_failed : (e : SendError) → Turns ports job on j k p q r s (Err e) → Listens ports job on i k o q (Err (remote_error e))
      talks_failed e turn = record {
        told = λ coming left_is.
            let t = talks.told coming left_is in
            let n = turn.told t.read t.rest t.stands t.left_is in
            record {
              read = n.read;
              rest = n.rest;
              left_is = n.left_is;
              taken = t.taken ∙ n.taken;
              outcome = λ a b. absurd (neither e a b);
              says = λ out was.
                  let w = n.says out (t.says out was) in
                  record { said = w.said; written_is = w.written_is; part = w.part; whole = whole_of e w.whole };
            };
        means = λ a b. absurd (neither e a b);
        calls = calls_then i j k o p q (Err (remote_error e) ≡ Err errors.PortFault) talks.calls
            (calls_so j k p q (Err e ≡ Err PortFault) (Err (remote_error e) ≡ Err errors.PortFault)
            (λ is. ap Err (port_error e is)) turn.calls);
      }
        where
          whole_of : {W : Type 0} (e : SendError)
              → W ⊎ CutsShort {A = Step Outcome} (Err e) (ports.view_out p).faults (ports.view_out q).faults
              → W ⊎ IsCutShort (ports.view_out o).faults (ports.view_out q).faults (Err (remote_error e))
          whole_of e (inl w) = inl w
          whole_of PortFault (inr x) =
              inr (inl (rises_later (ports.view_out o).faults (ports.view_out p).faults (ports.view_out q).faults talks.calls.count_out x))
          whole_of OutOfMemory (inr y) = inr (inr refl)

      -- a turn was made: the answer goes on, or decides
      pub talks_more : (step : Step Outcome) → is_more step ≡ true → Turns ports job on j k p q r s (Ok step) → TalksSo i k o q s
      talks_more More e turn = talks_on turn
      talks_more (Done outcome) e turn = cc
      talks_more (Refused text) e turn = cc
      talks_more (BadAnswer offset) e turn = cc

      pub talks_ends : (step : Step Outcome) (result : Result Outcome RemoteError) → is_more step ≡ false
          → decided step 0 false ≡ Some result
          → Turns ports job on j k p q r s (Ok step) → Listens ports job on i k o q result
      talks_ends step result ends is turn = talks_done step result turn (not_more step ends) is (never_fault step result is)

    -- ---- memory ran out before anything was read
    pub listens_starved : (i : I) (o : O) → Listens ports job on i i o o (Err errors.OutOfMemory)
    listens_starved i o = record {
      told = λ coming left_is. record {
        read = [];
        rest = coming;
        left_is = left_is;
        taken = refl;
        outcome = λ a b. absurd (b refl);
        says = λ out is. record {
          said = client_words job on [];
          written_is = is;
          part = ([], append-nil (client_words job on []));
          whole = inl refl;
        };
      };
      means = λ a b. absurd (b refl);
      calls = calls_so i i o o ⊥
          (◌≡◌ {A = Result Outcome RemoteError} (Err errors.OutOfMemory) (Err errors.PortFault)) starved_only
          (calls_none i o);
    }

    -- ---- the first request
    module _ (i : I) (o p : O) where
      abbrev S : Result ⊤ SendError → Type 0
      S answer = Sends ports.steady_out ports.view_out (word job on 0) o p answer

      pub first_failed : (e : SendError) → S (Err e) → Converses ports job on i i o p (Err (remote_error e))
      first_failed e s = record {
        told = λ coming left_is. record {
          read = [];
          rest = coming;
          left_is = left_is;
          taken = refl;
          outcome = λ a b. absurd (neither e a b);
          says = λ out is.
              let went = s.told out is in
              record {
                said = went.said;
                written_is = went.after_is;
                part = (went.part.0, went.part.1 ∙ sym (first_due job on));
                whole = inr (short e s.fault);
              };
        };
        means = λ a b. absurd (neither e a b);
        calls = calls_so i i o p (Err e ≡ Err PortFault) (Err (remote_error e) ≡ Err errors.PortFault) (λ is. ap Err (port_error e is))
            (calls_sent i o p (word job on 0) (Err e) s);
      }
        where
          short : (e : SendError)
              → (◌≡◌ {A = Result ⊤ SendError} (Err e) (Err PortFault) → Rises (ports.view_out o).faults (ports.view_out p).faults)
              → IsCutShort (ports.view_out o).faults (ports.view_out p).faults (Err (remote_error e))
          short PortFault fault = inl (fault refl)
          short OutOfMemory fault = inr refl

      pub first_said : (k : I) (q : O) (result : Result Outcome RemoteError) → S (Ok tt) → Listens ports job on i k p q result
          → Converses ports job on i k o q result
      first_said k q result s l = record {
        told = λ coming left_is.
            let n = l.told coming left_is in
            record {
              read = n.read;
              rest = n.rest;
              left_is = n.left_is;
              taken = n.taken;
              outcome = n.outcome;
              says = λ out is.
                  let went = s.told out is in
                  let there : (ports.view_out p).written ≡ Some (out ++ client_words job on []) =
                  went.after_is ∙ ap (λ w. Some (out ++ w)) (went.whole refl ∙ sym (first_due job on)) in
                  let w = n.says out there in
                  record { said = w.said; written_is = w.written_is; part = w.part; whole = later w.whole };
            };
        means = l.means;
        calls = calls_then i i k o p q (result ≡ Err errors.PortFault)
            (calls_so i i o p (Ok tt ≡ Err PortFault) ⊥ (λ e. absurd e) (calls_sent i o p (word job on 0) (Ok tt) s)) l.calls;
      }
        where
          later : {W : Type 0} → W ⊎ IsCutShort (ports.view_out p).faults (ports.view_out q).faults result
              → W ⊎ IsCutShort (ports.view_out o).faults (ports.view_out q).faults result
          later (inl w) = inl w
          later (inr (inl x)) =
              inr (inl (rises_later (ports.view_out o).faults (ports.view_out p).faults (ports.view_out q).faults
              s.count x))
          later (inr (inr m)) = inr (inr m)
