-- What is written, call by call.
use Rattle.std.proofs.Common.{ℕ, zero, suc, ◌+◌, ◌-◌, ◌≡◌, ◌≢◌, ◌≤◌, ◌<◌, inl, inr, Bool, List, [], ◌∷◌, ◌++◌, length, take, drop, Option}
use Rattle.std.proofs.Common.{Some, Result, Ok, Err, refl, sym, ◌∙◌, ap, subst, arith, append_assoc}
use Rattle.std.specs.Prelude.{⊤, ◌==◌, true}
use Rattle.std.proofs.lemmas.Bool.{eqb-true}
use Rattle.std.proofs.lemmas.List.{append-nil, take-append-drop}
use Rattle.adb_outside.specs.Outside.{Rises, Counts}
use Rattle.adb_outside.specs.Sink.{TellsWrite, is_failed_write}
use Rattle.adb_outside.specs.declared.sink.Wrote.{Wrote}
use Rattle.adb_outside.specs.declared.sink.Wrote.TheVariants.{All, Failed}
use Rattle.adb_remote_words.specs.declared.remote.Remote.{Remote}
use Rattle.adb_remote_words.specs.Words.{word, words_to}
use Rattle.adb_remote.specs.declared.sending.SendError.{SendError}
use Rattle.adb_remote.specs.declared.sending.SendError.TheVariants.{PortFault, OutOfMemory}
use Rattle.adb_remote.specs.Sending.{Outlet, seen, Sends, SaysTo, SendsPart}

pub rises_later : (a b c : ℕ) → a ≤ b → Rises b c → Rises a c
rises_later a b c le (inl lt) = inl (omega (arith, le, lt))
rises_later a b c le (inr last) = inr last

abbrev pub answer_of_write : Wrote → Result ⊤ SendError
answer_of_write All = Ok tt
answer_of_write (Failed taken) = Err PortFault

-- a write of a port
pub sends_by : {A : Type 0} (steady : A → Type 0) (faults : A → ℕ) (written : A → Option (List ℕ)) (closed : A → Bool)
    (bytes : List ℕ) (old new : A)
    (wrote : Wrote) → TellsWrite (written old) (written new) bytes wrote → Counts steady faults old new (is_failed_write wrote)
    → closed new ≡ closed old → Sends steady (seen faults written closed) bytes old new (answer_of_write wrote)
sends_by steady faults written closed bytes old new All tells counts same = record {
  told = λ out is. record { said = bytes; after_is = tells out is; part = ([], append-nil bytes); whole = λ e. refl };
  count = counts.count;
  fault = λ e. cc;
  keeps = counts.keeps;
  never = λ h e. cc;
  closed = same;
}
sends_by steady faults written closed bytes old new (Failed taken) tells counts same = record {
  told = λ out is.
      record {
        said = take taken bytes;
        after_is = tells out is;
        part =
            (drop taken bytes, take-append-drop taken bytes);
        whole = λ e. cc;
      };
  count = counts.count;
  fault = λ e. counts.fault refl;
  keeps = counts.keeps;
  never = λ h e. let clash = counts.steady h in cc;
  closed = same;
}

module _ {A : Type 0} (steady : A → Type 0) (view : A → Outlet) where
  abbrev S : List ℕ → A → A → Result ⊤ SendError → Type 0
  S = Sends steady view

  same_out : (out : List ℕ) (o : A) → (view o).written ≡ Some out → (view o).written ≡ Some (out ++ [])
  same_out out o is = is ∙ ap Some (sym (append-nil out))

  pub sends_nothing : (o : A) → S [] o o (Ok tt)
  sends_nothing o = record {
    told = λ out is. record { said = []; after_is = same_out out o is; part = ([], refl); whole = λ e. refl };
    count = omega arith;
    fault = λ e. cc;
    keeps = λ h. h;
    never = λ h e. cc;
    closed = refl;
  }

  -- memory ran out before
  pub sends_starved : (text : List ℕ) (o : A) → S text o o (Err OutOfMemory)
  sends_starved text o = record {
    told = λ out is. record { said = []; after_is = same_out out o is; part = (text, refl); whole = λ e. cc };
    count = omega arith;
    fault = λ e. cc;
    keeps = λ h. h;
    never = λ h e. cc;
    closed = refl;
  }

  -- one text, and another behind it
  pub sends_then : (text more : List ℕ) (old mid new : A) (answer : Result ⊤ SendError) → S text old mid (Ok tt) → S more mid new answer
      → S (text ++ more) old new answer
  sends_then text more old mid new answer first second = record {
    told = λ out is.
        let one = first.told out is in
        let there : (view mid).written ≡ Some (out ++ text) = one.after_is ∙ ap (λ t. Some (out ++ t)) (one.whole refl) in
        let two = second.told (out ++ text) there in
        record {
          said = text ++ two.said;
          after_is = two.after_is ∙ ap Some (append_assoc out text two.said);
          part = (two.part.0, append_assoc text two.said two.part.0 ∙ ap (λ t. text ++ t) two.part.1);
          whole = λ e. ap (λ t. text ++ t) (two.whole e);
        };
    count = omega (arith, first.count, second.count);
    fault = λ e. rises_later (view old).faults (view mid).faults (view new).faults first.count (second.fault e);
    keeps = λ h. second.keeps (first.keeps h);
    never = λ h. second.never (first.keeps h);
    closed = second.closed ∙ first.closed;
  }

  -- an error, and what would have come behind it
  pub sends_stopped : (text more : List ℕ) (old new : A) (error : SendError) → S text old new (Err error)
      → S (text ++ more) old new (Err error)
  sends_stopped text more old new error s = record {
    told = λ out is.
        let one = s.told out is in
        record {
          said = one.said;
          after_is = one.after_is;
          part = (one.part.0 ++ more, sym (append_assoc one.said one.part.0 more) ∙ ap (λ t. t ++ more) one.part.1);
          whole = λ e. cc;
        };
    count = s.count;
    fault = s.fault;
    keeps = s.keeps;
    never = s.never;
    closed = s.closed;
  }

  -- ---- the words of a job
  module _ (job : Remote) (on : Option (List ℕ)) where
    -- the words up to a number, and those behind it
    pub words_grow : (from n : ℕ) → (text : List ℕ) × (words_to job on from ++ text ≡ words_to job on (n + from))
    words_grow from zero =
        let same : from ≡ zero + from = omega arith in
        ([], append-nil (words_to job on from) ∙ ap (words_to job on) same)
    words_grow from (suc n) =
        let h = words_grow from n in
        let one : suc (n + from) ≡ suc n + from = omega arith in (
          h.0 ++ word job on (suc (n + from)),
          sym (append_assoc (words_to job on from) h.0 (word job on (suc (n + from))))
              ∙ (ap (λ t. t ++ word job on (suc (n + from))) h.1 ∙ ap (words_to job on) one),
        )

    -- words were said up to a number, all of them
    pub record SaidSo (from to said : ℕ) (old now : A) : Type 0 where
      pub begun : from ≤ said
      pub within : from ≤ to → said ≤ to
      pub text : List ℕ
      pub same : words_to job on from ++ text ≡ words_to job on said
      pub sends : S text old now (Ok tt)

    pub said_none : (from to : ℕ) (o : A) → SaidSo from to from o o
    said_none from to o = record {
      begun = omega arith;
      within = λ le. le;
      text = [];
      same = append-nil (words_to job on from);
      sends = sends_nothing o;
    }

    next_text : (from said : ℕ) (text : List ℕ) → words_to job on from ++ text ≡ words_to job on said
        → words_to job on from ++ (text ++ word job on (said + 1)) ≡ words_to job on (said + 1)
    next_text from said text same =
        let one : suc said ≡ said + 1 = omega arith in
        sym (append_assoc (words_to job on from) text (word job on (said + 1)))
        ∙ (ap (λ t. t ++ word job on (said + 1)) same
        ∙ (ap (λ k. words_to job on said ++ word job on k) (sym one) ∙ ap (words_to job on) one))

    module _ (from to said : ℕ) (old mid new : A) (less : said < to) (h : SaidSo from to said old mid) where
      pub said_one : S (word job on (said + 1)) mid new (Ok tt) → SaidSo from to (said + 1) old new
      said_one s = record {
        begun = omega (arith, h.begun);
        within = λ le. omega (arith, less);
        text = h.text ++ word job on (said + 1);
        same = next_text from said h.text h.same;
        sends = sends_then h.text (word job on (said + 1)) old mid new (Ok tt) h.sends s;
      }

      pub said_not : (error : SendError) → S (word job on (said + 1)) mid new (Err error)
          → SaysTo steady view job on from to old new (Err error)
      said_not error s =
          let more = words_grow (said + 1) (to - (said + 1)) in
          let sum : (to - (said + 1)) + (said + 1) ≡ to = omega (arith, less) in
          let text = h.text ++ word job on (said + 1) in
          record {
            text = text ++ more.0;
            same = λ le. sym (append_assoc (words_to job on from) text more.0)
                ∙ (ap (λ t. t ++ more.0) (next_text from said h.text h.same) ∙ (more.1 ∙ ap (words_to job on) sum));
            sends = sends_stopped text more.0 old new error
                (sends_then h.text (word job on (said + 1)) old mid new (Err error) h.sends s);
          }

    pub said_all : (from to said : ℕ) (old now : A) → to ≤ said → SaidSo from to said old now
        → SaysTo steady view job on from to old now (Ok tt)
    said_all from to said old now stop h = record {
      text = h.text;
      same = λ le. let all : said ≡ to = omega (arith, stop, h.within le) in h.same ∙ ap (words_to job on) all;
      sends = h.sends;
    }

  -- ---- bytes that are left
  -- nothing to write is nothing left
  pub none_there : (left out : List ℕ) → (left ≢ [] → out ≢ []) → (length out == 0) ≡ true → left ≡ []
  none_there [] out some empty = refl
  none_there (byte ∷ left) [] some empty = absurd (some (λ e. cc) refl)
  none_there (byte ∷ left) (b ∷ out) some empty = absurd (let size = eqb-true (length (b ∷ out)) 0 empty in omega (arith, size))

  -- the text that is left is all of it
  pub part_begun : (text left : List ℕ) (o : A) → left ≡ text → SendsPart steady view text left o o
  part_begun text left o is = record { gone = []; all = is; sends = sends_nothing o }

  pub part_sent : (text left : List ℕ) (old new : A) → left ≡ [] → S text old new (Ok tt) → SendsPart steady view text left old new
  part_sent text left old new none s = record { gone = text; all = ap (λ t. text ++ t) none ∙ append-nil text; sends = s }

  module _ (text left : List ℕ) (old mid : A) (h : SendsPart steady view text left old mid) where
    -- what is left is written
    pub part_then : (new : A) (answer : Result ⊤ SendError) → S left mid new answer → S text old new answer
    part_then new answer s = subst (λ t. S t old new answer) h.all (sends_then h.gone left old mid new answer h.sends s)

    -- memory ran out before what is left, and more behind it
    pub part_starved : (more : List ℕ) → S (text ++ more) old mid (Err OutOfMemory)
    part_starved more = sends_stopped text more old mid OutOfMemory (part_then mid (Err OutOfMemory) (sends_starved left mid))

    -- a part of what is left is written
    pub part_on : (after : List ℕ) (new : A) → SendsPart steady view left after mid new → SendsPart steady view text after old new
    part_on after new p = record {
      gone = h.gone ++ p.gone;
      all = append_assoc h.gone p.gone after ∙ (ap (λ t. h.gone ++ t) p.all ∙ h.all);
      sends = sends_then h.gone p.gone old mid new (Ok tt) h.sends p.sends;
    }

    -- more is gathered behind what is left
    pub part_behind : (more after : List ℕ) → after ≡ left ++ more → SendsPart steady view (text ++ more) after old mid
    part_behind more after is = record {
      gone = h.gone;
      all = ap (λ t. h.gone ++ t) is ∙ (sym (append_assoc h.gone left more) ∙ ap (λ t. t ++ more) h.all);
      sends = h.sends;
    }

    -- the rest of what is left is none
    pub part_held : (held rest : List ℕ) → left ≡ held ++ rest → rest ≡ [] → SendsPart steady view text held old mid
    part_held held rest is none = record {
      gone = h.gone;
      all = ap (λ t. h.gone ++ t) (sym (is ∙ (ap (λ t. held ++ t) none ∙ append-nil held))) ∙ h.all;
      sends = h.sends;
    }

  -- what is held, bytes, and what stands behind them
  pub around_sent : (head bytes end held : List ℕ) (old mid new : A) (answer : Result ⊤ SendError)
      → SendsPart steady view (head ++ bytes) held old mid
      → S (held ++ end) mid new answer → S (head ++ (bytes ++ end)) old new answer
  around_sent head bytes end held old mid new answer h s =
      let more = part_behind (head ++ bytes) held old mid h end (held ++ end) refl in
      subst (λ t. S t old new answer) (append_assoc head bytes end)
      (part_then ((head ++ bytes) ++ end) (held ++ end) old mid more new answer s)

  pub around_stopped : (head bytes end : List ℕ) (old new : A) (error : SendError) → S (head ++ bytes) old new (Err error)
      → S (head ++ (bytes ++ end)) old new (Err error)
  around_stopped head bytes end old new error s =
      subst (λ t. S t old new (Err error)) (append_assoc head bytes end) (sends_stopped (head ++ bytes) end old new error s)
