-- What is written, call by call.
use Rattle.std.proofs.Common.{ℕ, Bool, true, false, not, List, [], ◌++◌, take, drop, Option, Some, refl, sym, ◌∙◌, ap, subst, arith}
use Rattle.std.proofs.Common.{append_assoc}
use Rattle.std.proofs.lemmas.List.{append-nil, take-append-drop}
use Rattle.adb_outside.specs.Outside.{Counts, Rises}
use Rattle.adb_outside.specs.Sink.{TellsWrite, is_failed_write}
use Rattle.adb_outside.specs.declared.sink.Wrote.{Wrote}
use Rattle.adb_outside.specs.declared.sink.Wrote.TheVariants.{All, Failed}
use Rattle.adb_asking.specs.Writing.{HasFront, Puts}

module _ {K : Type 0} (steady : K → Type 0) (faults : K → ℕ) where
  pub counts_none : (k : K) → Counts steady faults k k false
  counts_none k = record {
    count = omega arith;
    fault = λ e. cc;
    stands = λ e. refl;
    keeps = λ h. h;
    steady = λ h. refl;
  }

  -- calls that did not fail, and others behind them
  pub counts_then : (old mid new : K) (failed : Bool) → Counts steady faults old mid false → Counts steady faults mid new failed
      → Counts steady faults old new failed
  counts_then old mid new failed a b = record {
    count = omega (arith, a.count, b.count);
    fault = λ e. subst (λ (n : ℕ). Rises n (faults new)) (a.stands refl) (b.fault e);
    stands = λ e. b.stands e ∙ a.stands refl;
    keeps = λ h. b.keeps (a.keeps h);
    steady = λ h. b.steady (a.keeps h);
  }

pub front_none : (text : List ℕ) (told : Option (List ℕ)) → HasFront text told told
front_none text told = λ had is. record { front = []; is = is ∙ ap Some (sym (append-nil had)); part = (text, refl) }

module _ {K : Type 0} (steady : K → Type 0) (faults : K → ℕ) (written : K → Option (List ℕ)) where
  abbrev P : List ℕ → K → K → Bool → Type 0
  P = Puts steady faults written

  pub puts_nothing : (k : K) → P [] k k true
  puts_nothing k = record {
    whole = λ e had is. is ∙ ap Some (sym (append-nil had));
    front = front_none [] (written k);
    counts = counts_none steady faults k;
  }

  pub puts_by : (text : List ℕ) (old new : K) (wrote : Wrote) → TellsWrite (written old) (written new) text wrote
      → Counts steady faults old new (is_failed_write wrote) → P text old new (not (is_failed_write wrote))
  puts_by text old new All tells counts = record {
    whole = λ e had is. tells had is;
    front = λ had is. record { front = text; is = tells had is; part = ([], append-nil text) };
    counts = counts;
  }
  puts_by text old new (Failed taken) tells counts = record {
    whole = λ e. cc;
    front = λ had is. record { front = take taken text; is = tells had is; part = (drop taken text, take-append-drop taken text) };
    counts = counts;
  }

  module _ (text more : List ℕ) (old mid new : K) where
    -- a text, and another behind it
    pub puts_then : (done : Bool) → P text old mid true → P more mid new done → P (text ++ more) old new done
    puts_then done first second = record {
      whole = λ e had is. second.whole e (had ++ text) (first.whole refl had is) ∙ ap Some (append_assoc had text more);
      front = λ had is.
          let two = second.front (had ++ text) (first.whole refl had is) in
          record {
            front = text ++ two.front;
            is = two.is ∙ ap Some (append_assoc had text two.front);
            part = (two.part.0, append_assoc text two.front two.part.0 ∙ ap (λ t. text ++ t) two.part.1);
          };
      counts = counts_then steady faults old mid new (not done) first.counts second.counts;
    }

    -- a front of a text, and nothing behind it
    pub puts_stopped : P text old new false → P (text ++ more) old new false
    puts_stopped first = record {
      whole = λ e. cc;
      front = λ had is.
          let one = first.front had is in
          record {
            front = one.front;
            is = one.is;
            part = (one.part.0 ++ more, sym (append_assoc one.front one.part.0 more) ∙ ap (λ t. t ++ more) one.part.1);
          };
      counts = first.counts;
    }
