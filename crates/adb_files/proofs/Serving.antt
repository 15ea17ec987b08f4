-- Requests served one after another.
use Rattle.std.specs.Prelude.{ℕ, ◌≡◌, cond, Bool, true, false, List, [], ◌∷◌, ◌++◌, Option, Some, None, Result, Ok, Err, OnErr, refl}
use Rattle.std.proofs.Common.{◌⊎◌, inl, inr, ◌∙◌, ap, sym, subst, arith}
use Rattle.std.proofs.lemmas.List.{append-nil, append_assoc}
use Rattle.std.specs.List.{AllByRecursion}
use Rattle.std.proofs.lemmas.Bool.{true≢false}
use Rattle.adb_outside.specs.Framing.{Cut}
use Rattle.adb_sync.specs.declared.error.SyncFault.{SyncFault}
use Rattle.adb_sync.specs.declared.ask_format.AskFormat.{AskFormat}
use Rattle.adb_sync.specs.declared.ask.SyncAsk.{SyncAsk}
use Rattle.adb_sync.specs.declared.ask.SyncAsk.TheVariants as asks
use Rattle.adb_files.specs.Entries.{Entry}
use Rattle.adb_files.specs.Requests.{OpenSend, Request, Lists, Sends, completed, open_past, requests_of, open_after}
use Rattle.adb_files.specs.declared.session.Sending.{Sending}
use Rattle.adb_files.specs.Served.{Served, serve_one, serve_all, stat_bytes_of, stat_in, list_bytes}
use Rattle.adb_files.specs.Listing.{listing}
use Rattle.adb_files.specs.Service.{Moment, Run, moment_of, IsKept, KeepsSend, Serves, ServesFront, TellsFront, ServesGiven, Done}
use Rattle.adb_files.specs.Service.{HasShortPath}

abbrev Reading : Type 0
Reading = Cut AskFormat SyncAsk SyncFault

-- messages behind messages
pub requests_of-append : (send : Option OpenSend) (xs ys : List SyncAsk)
    → requests_of send (xs ++ ys) ≡ requests_of send xs ++ requests_of (open_after send xs) ys
requests_of-append send [] ys = refl
requests_of-append send (x ∷ xs) ys =
    ap (λ (rs : List Request). completed send x ++ rs) (requests_of-append (open_past send x) xs ys)
    ∙ sym (append_assoc (completed send x) (requests_of (open_past send x) xs) (requests_of (open_after (open_past send x) xs) ys))

pub open_after-append : (send : Option OpenSend) (xs ys : List SyncAsk) → open_after send (xs ++ ys) ≡ open_after (open_after send xs) ys
open_after-append send [] ys = refl
open_after-append send (x ∷ xs) ys = open_after-append (open_past send x) xs ys

-- what a request and those behind it give, where it ends the service or not
abbrev with_later : Bool → Served → Served → Served
with_later stop first later = cond stop first (record { files = later.files; answer = first.answer ++ later.answer; ended = later.ended })

-- past the end nothing is served
pub serve_all-ended : (more rest : List Request) (files : List Entry) → (serve_all files more).ended ≡ true
    → serve_all files (more ++ rest) ≡ serve_all files more
serve_all-ended [] rest files e = absurd cc
serve_all-ended (q ∷ more) rest files e = by (serve_one files q).ended (serve_all-ended more rest (serve_one files q).files) e
  where
    s : Served
    s = serve_one files q

    by : (t : Bool) → ((serve_all s.files more).ended ≡ true → serve_all s.files (more ++ rest) ≡ serve_all s.files more)
        → (with_later t s (serve_all s.files more)).ended ≡ true
        → with_later t s (serve_all s.files (more ++ rest)) ≡ with_later t s (serve_all s.files more)
    by true later h = refl
    by false later h = ap (with_later false s) (later h)

-- Requests were served behind others, over the files that those leave.
pub record Joins (first later both : Served) : Type 0 where
  pub files : both.files ≡ later.files
  pub answer : both.answer ≡ first.answer ++ later.answer
  pub ended : both.ended ≡ later.ended

pub serve_all-more : (more rest : List Request) (files : List Entry) → (serve_all files more).ended ≡ false
    → Joins (serve_all files more) (serve_all (serve_all files more).files rest) (serve_all files (more ++ rest))
serve_all-more [] rest files e = record { files = refl; answer = refl; ended = refl }
serve_all-more (q ∷ more) rest files e = by (serve_one files q).ended refl (serve_all-more more rest (serve_one files q).files) e
  where
    s : Served
    s = serve_one files q

    by : (t : Bool) → s.ended ≡ t → ((serve_all s.files more).ended ≡ false
        → Joins (serve_all s.files more) (serve_all (serve_all s.files more).files rest) (serve_all s.files (more ++ rest)))
        → (with_later t s (serve_all s.files more)).ended ≡ false
        → Joins (with_later t s (serve_all s.files more)) (serve_all (with_later t s (serve_all s.files more)).files rest)
        (with_later t s (serve_all s.files (more ++ rest)))
    by true is later h = absurd cc
    by false is later h =
        let l = later h in
        record {
          files = l.files;
          answer = ap (λ (b : List ℕ). s.answer ++ b) l.answer
              ∙ sym (append_assoc s.answer (serve_all s.files more).answer (serve_all (serve_all s.files more).files rest).answer);
          ended = l.ended;
        }

-- one request alone
pub serve_all-one : (files : List Entry) (q : Request)
    → ((serve_all files (q ∷ [])).files ≡ (serve_one files q).files) × ((serve_all files (q ∷ [])).answer ≡ (serve_one files q).answer)
serve_all-one files q = by (serve_one files q).ended
  where
    s : Served
    s = serve_one files q

    by : (t : Bool) → ((with_later t s (serve_all s.files [])).files ≡ s.files)
        × ((with_later t s (serve_all s.files [])).answer ≡ s.answer)
    by true = (refl, refl)
    by false = (refl, append-nil s.answer)

pub serves_more : (qs rs : List Request) (a b c : Moment) → b.ended ≡ false → Serves qs a b → Serves rs b c → Serves (qs ++ rs) a c
serves_more qs rs a b c on first second =
    let all = serve_all-more qs rs a.files (sym first.ends ∙ on) in
    record {
      files = second.files ∙ (ap (λ (f : List Entry). (serve_all f rs).files) first.files ∙ sym all.files);
      answer = second.answer
          ∙ (ap (λ (o : List ℕ). o ++ (serve_all b.files rs).answer) first.answer
          ∙ (append_assoc a.out (serve_all a.files qs).answer (serve_all b.files rs).answer
          ∙ (ap (λ (f : List Entry). a.out ++ ((serve_all a.files qs).answer ++ (serve_all f rs).answer)) first.files
          ∙ ap (λ (o : List ℕ). a.out ++ o) (sym all.answer))));
      ends = second.ends ∙ (ap (λ (f : List Entry). (serve_all f rs).ended) first.files ∙ sym all.ended);
    }

pub serves_ended : (qs rs : List Request) (a b : Moment) → b.ended ≡ true → Serves qs a b → Serves (qs ++ rs) a b
serves_ended qs rs a b stop first =
    let all = serve_all-ended qs rs a.files (sym first.ends ∙ stop) in
    record {
      files = first.files ∙ ap (λ (s : Served). s.files) (sym all);
      answer = first.answer ∙ ap (λ (s : Served). a.out ++ s.answer) (sym all);
      ends = first.ends ∙ ap (λ (s : Served). s.ended) (sym all);
    }

-- a STAT was served
pub stat_served : (send : Option OpenSend) (ask : SyncAsk) (path : List ℕ) (kept : Option Sending) (a b : Moment)
    → ask ≡ asks.Stat path → b.files ≡ a.files
    → b.out ≡ a.out ++ stat_bytes_of (stat_in a.files path) → b.ended ≡ false → KeepsSend send kept
    → Serves (completed send ask) a b × KeepsSend (open_past send ask) kept
stat_served send ask path kept a b is same out on keeps =
    let answer = stat_bytes_of (stat_in a.files path) in
    subst (λ (q : SyncAsk). Serves (completed send q) a b × KeepsSend (open_past send q) kept) (sym is)
    (record { files = same; answer = out ∙ ap (λ (o : List ℕ). a.out ++ o) (sym (append-nil answer)); ends = on }, keeps)

-- memory ran out, and nothing was served
pub front_none : (qs : List Request) (a b : Moment) → b.files ≡ a.files → b.out ≡ a.out → ServesFront qs a b
front_none qs a b files out = record {
  whole = [];
  last = [];
  back = qs;
  is = refl;
  one = omega arith;
  files = files;
  said = [];
  unsaid = [];
  answer = out ∙ sym (append-nil a.out);
  within = refl;
}

-- memory ran out in the first request
pub front_one : (q : Request) (qs : List Request) (a b : Moment) → b.files ≡ (serve_one a.files q).files
    → TellsFront (serve_one a.files q).answer a.out b.out
    → ServesFront (q ∷ qs) a b
front_one q qs a b files tells = record {
  whole = [];
  last = q ∷ [];
  back = qs;
  is = refl;
  one = omega arith;
  files = files ∙ sym (serve_all-one a.files q).0;
  said = tells.1.said;
  unsaid = tells.0;
  answer = tells.1.behind;
  within = (serve_all-one a.files q).1 ∙ tells.1.within;
}

-- memory ran out in a LIST
pub list_front : (send : Option OpenSend) (ask : SyncAsk) (path : List ℕ) (a b : Moment) → ask ≡ asks.List path → b.files ≡ a.files
    → TellsFront (list_bytes (listing path a.files)) a.out b.out → ServesFront (completed send ask) a b
list_front send ask path a b is same tells =
    subst (λ (q : SyncAsk). ServesFront (completed send q) a b) (sym is) (front_one (Lists path) [] a b same tells)

-- memory ran out behind a SEND, whose file may be there
pub send_front : (send : OpenSend) (mtime : ℕ) (a b : Moment)
    → (b.files ≡ a.files) ⊎ (b.files ≡ (serve_one a.files (Sends send.path send.mode send.bytes mtime)).files) → b.out ≡ a.out
    → ServesFront (Sends send.path send.mode send.bytes mtime ∷ []) a b
send_front send mtime a b (inl same) out = front_none (Sends send.path send.mode send.bytes mtime ∷ []) a b same out
send_front send mtime a b (inr done) out =
    let q = Sends send.path send.mode send.bytes mtime in
    front_one q [] a b done ((serve_one a.files q).answer, record { said = []; behind = out ∙ sym (append-nil a.out); within = refl })

-- memory ran out at a DONE
pub finish_front : (send : Option OpenSend) (ask : SyncAsk) (mtime : ℕ) (sending : Sending) (a b : Moment) → ask ≡ asks.Finish mtime
    → KeepsSend send (Some sending)
    → ((s : OpenSend) → IsKept s sending → (b.files ≡ a.files)
    ⊎ (b.files ≡ (serve_one a.files (Sends s.path s.mode s.bytes mtime)).files)) → b.out ≡ a.out
    → ServesFront (completed send ask) a b
finish_front None ask mtime sending a b is keeps files out = absurd keeps
finish_front (Some s) ask mtime sending a b is keeps files out =
    subst (λ (q : SyncAsk). ServesFront (completed (Some s) q) a b) (sym is) (send_front s mtime a b (files s keeps) out)

-- memory ran out behind all the requests
pub front_whole : (qs : List Request) (a b : Moment) → Serves qs a b → ServesFront qs a b
front_whole qs a b all = record {
  whole = qs;
  last = [];
  back = [];
  is = sym (append-nil qs);
  one = omega arith;
  files = all.files ∙ ap (λ (rs : List Request). (serve_all a.files rs).files) (sym (append-nil qs));
  said = [];
  unsaid = [];
  answer = all.answer ∙ ap (λ (o : List ℕ). a.out ++ o) (sym (append-nil (serve_all a.files qs).answer));
  within =
      ap (λ (rs : List Request). (serve_all a.files rs).answer) (append-nil qs)
      ∙ sym (append-nil ((serve_all a.files qs).answer ++ []) ∙ append-nil (serve_all a.files qs).answer);
}

-- memory ran out in a front of requests that follow others
pub front_more : (qs rs : List Request) (a b c : Moment) → b.ended ≡ false → Serves qs a b → ServesFront rs b c → ServesFront (qs ++ rs) a c
front_more qs rs a b c on first front = record {
  whole = qs ++ front.whole;
  last = front.last;
  back = front.back;
  is = ap (λ (xs : List Request). qs ++ xs) front.is ∙ sym (append_assoc qs front.whole (front.last ++ front.back));
  one = front.one;
  files = front.files
      ∙ (sym (moved (front.whole ++ front.last)).0 ∙ ap (λ (xs : List Request). (serve_all a.files xs).files)
      (sym together));
  said = front.said;
  unsaid = front.unsaid;
  answer = front.answer
      ∙ (ap (λ (o : List ℕ). o ++ (told ++ front.said)) first.answer
      ∙ (append_assoc a.out before (told ++ front.said)
      ∙ ap (λ (o : List ℕ). a.out ++ o)
      (sym (append_assoc before told front.said) ∙ ap (λ (o : List ℕ). o ++ front.said)
      (sym (moved front.whole).1))));
  within = ap (λ (xs : List Request). (serve_all a.files xs).answer) together
      ∙ ((moved (front.whole ++ front.last)).1
      ∙ (ap (λ (o : List ℕ). before ++ o) front.within
      ∙ (sym (append_assoc before (told ++ front.said) front.unsaid)
      ∙ ap (λ (o : List ℕ). o ++ front.unsaid) (sym (append_assoc before told front.said)
      ∙ ap (λ (o : List ℕ). o ++ front.said) (sym (moved front.whole).1)))));
}
  where
    before : List ℕ
    before = (serve_all a.files qs).answer

    told : List ℕ
    told = (serve_all b.files front.whole).answer

    together : (qs ++ front.whole) ++ front.last ≡ qs ++ (front.whole ++ front.last)
    together = append_assoc qs front.whole front.last

    moved : (xs : List Request) → ((serve_all a.files (qs ++ xs)).files ≡ (serve_all b.files xs).files) ×
        ((serve_all a.files (qs ++ xs)).answer ≡ (serve_all a.files qs).answer ++ (serve_all b.files xs).answer)
    moved xs =
        let all = serve_all-more qs xs a.files (sym first.ends ∙ on) in (
          all.files ∙ ap (λ (f : List Entry). (serve_all f xs).files) (sym first.files),
          all.answer ∙ ap (λ (f : List Entry). (serve_all a.files qs).answer ++ (serve_all f xs).answer) (sym first.files),
        )

pub front_less : (qs rs : List Request) (a b : Moment) → ServesFront qs a b → ServesFront (qs ++ rs) a b
front_less qs rs a b front = record {
  whole = front.whole;
  last = front.last;
  back = front.back ++ rs;
  is = ap (λ (xs : List Request). xs ++ rs) front.is
      ∙ (append_assoc front.whole (front.last ++ front.back) rs
      ∙ ap (λ (xs : List Request). front.whole ++ xs) (append_assoc front.last front.back rs));
  one = front.one;
  files = front.files;
  said = front.said;
  unsaid = front.unsaid;
  answer = front.answer;
  within = front.within;
}

-- a loop over the messages that a reader gives
pub done_more : (send : Option OpenSend) (r0 r1 r2 : Run) (ask : SyncAsk) → r1.session.ended ≡ false → Done send r0 r1
    → r1.reader ≡ record r2.reader { given = ask ∷ r2.reader.given }
    → ((s : Option OpenSend) → KeepsSend s r1.session.sending
    → Serves (completed s ask) (moment_of r1) (moment_of r2) × KeepsSend (open_past s ask) r2.session.sending)
    → Done send r0 r2
done_more send r0 r1 r2 ask on d next take =
    let t = take (open_after send d.done) d.keeps in
    record {
      done = d.done ++ ask ∷ [];
      is = d.is ∙ (ap (λ (r : Reading). d.done ++ r.given) next ∙ sym (append_assoc d.done (ask ∷ []) r2.reader.given));
      same = same;
      serves = subst (λ (rs : List Request). Serves rs (moment_of r0) (moment_of r2)) (sym requests)
          (serves_more (requests_of send d.done) (completed (open_after send d.done) ask) (moment_of r0)
          (moment_of r1) (moment_of r2) on d.serves t.0);
      keeps = subst (λ (s : Option OpenSend). KeepsSend s r2.session.sending) (sym (open_after-append send d.done (ask ∷ []))) t.1;
    }
  where
    left : Reading → Reading
    left r = record r { given = r2.reader.given }

    same : r2.reader ≡ record r0.reader { given = r2.reader.given }
    same = sym (ap left next) ∙ ap left d.same

    requests : requests_of send (d.done ++ ask ∷ []) ≡ requests_of send d.done ++ completed (open_after send d.done) ask
    requests =
        requests_of-append send d.done (ask ∷ [])
        ∙ ap (λ (rs : List Request). requests_of send d.done ++ rs) (append-nil (completed (open_after send d.done) ask))

-- a request ended the service
pub given_ended : (send : Option OpenSend) (r0 r1 : Run) → r1.session.ended ≡ true → Done send r0 r1 → ServesGiven send r0 r1
given_ended send r0 r1 stop d = record {
  serves = subst (λ (rs : List Request). Serves rs (moment_of r0) (moment_of r1))
      (sym (ap (requests_of send) d.is ∙ requests_of-append send d.done r1.reader.given))
      (serves_ended (requests_of send d.done) (requests_of (open_after send d.done) r1.reader.given) (moment_of r0)
      (moment_of r1) stop d.serves);
  empty = λ on. absurd (true≢false (sym stop ∙ on));
  keeps = λ on. absurd (true≢false (sym stop ∙ on));
}

-- a message that wants memory
pub given_front : (send : Option OpenSend) (r0 r1 r2 : Run) (ask : SyncAsk) → r1.session.ended ≡ false → Done send r0 r1
    → r1.reader ≡ record r2.reader { given = ask ∷ r2.reader.given }
    → ((s : Option OpenSend) → KeepsSend s r1.session.sending → ServesFront (completed s ask) (moment_of r1) (moment_of r2))
    → ServesFront (requests_of send r0.reader.given) (moment_of r0) (moment_of r2)
given_front send r0 r1 r2 ask on d next take =
    let s = open_after send d.done in
    subst (λ (rs : List Request). ServesFront rs (moment_of r0) (moment_of r2))
    (sym (ap (requests_of send) (d.is ∙ ap (λ (r : Reading). d.done ++ r.given) next)
    ∙ requests_of-append send d.done (ask ∷ r2.reader.given)))
    (front_more (requests_of send d.done) (requests_of s (ask ∷ r2.reader.given)) (moment_of r0) (moment_of r1) (moment_of r2) on d.serves
    (front_less (completed s ask) (requests_of (open_past s ask) r2.reader.given) (moment_of r1) (moment_of r2) (take s d.keeps)))

-- what holds in any case holds after an error
pub on_err_always : {T E P : Type 0} (r : Result T E) → P → OnErr r P
on_err_always (Ok x) p = tt
on_err_always (Err e) p = p

-- what follows from two things that an error has
pub on_err_both : {T E P Q R : Type 0} (r : Result T E) → (P → Q → R) → OnErr r P → OnErr r Q → OnErr r R
on_err_both (Ok x) f p q = tt
on_err_both (Err e) f p q = f p q

-- the messages that are left after one
pub short_left : (r1 r2 : Reading) (ask : SyncAsk) → r1 ≡ record r2 { given = ask ∷ r2.given } → AllByRecursion HasShortPath r1.given
    → HasShortPath ask × AllByRecursion HasShortPath r2.given
short_left r1 r2 ask next all = subst (λ (r : Reading). AllByRecursion HasShortPath r.given) next all
