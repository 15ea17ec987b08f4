-- The turns of a reader, each by itself and one after another.
use Rattle.std.proofs.Common.{ℕ, ◌≡◌, ◌≤◌, Bool, true, false, List, [], ◌∷◌, ◌++◌, reverse, Option, Some, None, Result, Ok, Err, refl, sym}
use Rattle.std.proofs.Common.{ap, ◌∙◌}
use Rattle.std.proofs.Common.{subst, arith, inl, inr}
use Rattle.std.specs.Prelude.{◌⊎◌, is_some, option_to_list, IfSome}
use Rattle.std.proofs.lemmas.List.{append-nil, append_assoc, reverse-append}
use Rattle.std.proofs.lemmas.List.Elements.{All-nil, All-cons}
use Rattle.adb_outside.specs.Outside.{Rises, TellsOneMore}
use Rattle.adb_outside.specs.declared.kinds.Cause.{Cause}
use Rattle.adb_outside.specs.declared.kinds.Cause.TheVariants.{Eof, Fault, Starved, NoThread}
use Rattle.adb_capture.specs.declared.entry.Entry.{Entry}
use Rattle.adb_capture.specs.declared.entry.Entry.TheVariants.{Read, Bound, End}
use Rattle.adb_history.specs.Machine.{History, state}
use Rattle.adb_hub.specs.declared.answers.Room.TheVariants.{Shut, Later}
use Rattle.adb_hub.specs.declared.error.HubError.TheVariants.{OutOfMemory}
use Rattle.adb_hub.specs.Answers.{room_of}
use Rattle.adb_server_log.specs.declared.error.DeskError.{DeskError}
use Rattle.adb_server_log.specs.declared.error.DeskError.TheVariants.{Hub}
use Rattle.adb_server_log.specs.Pass.{PassView}
use Rattle.adb_desk.specs.declared.act.Progress.{Progress}
use Rattle.adb_server_hall.specs.Telling.{IsShutAt, Submits, Telling, Where}
use Rattle.adb_server_hall.specs.Passes.{after_submit}
use Rattle.adb_server_hall.specs.Made.{IsStopped, Tells, bytes_in}
use Rattle.adb_server_hall.proofs.Made.{bytes_in_append, where_some}
use Rattle.adb_server_client_reader.specs.Forwards.{IsAnswered, TellsMore, left_waiting, paired}
use Rattle.adb_server_client_reader.specs.Reading.{AreTurns, Done, Ends, EndsBy, Finished, GivesUp, Goes, Holds, IsOfReader, IsOver}
use Rattle.adb_server_client_reader.specs.Reading.{IsRefusedBehind}
use Rattle.adb_server_client_reader.specs.Reading.{IsSpared, Knows, Reads, Rests, Seen, Shown, SoFar, Turns, all_of, end_of, read_of}
use Rattle.adb_server_client_reader.specs.declared.next.Next.TheVariants.{Go, Stop}
use Rattle.adb_server_client_reader.proofs.Walks.{rises_unless, tells_one, tells_same, turns_more, turns_none}
use Rattle.adb_server_client_reader.proofs.Refusals.{end_refused, held_of_tells, holds_more, still_holds, submit_memory}

-- ---- the end of an input
pub stopped_of : (t : Telling) (starved : Bool) → IsOver t → IsStopped t starved
stopped_of t starved (inl shut) = inl shut
stopped_of t starved (inr stopped) = inr (inl stopped)

holds_nil : (t : Telling) (entries : List Entry) → Holds t entries → Holds t (entries ++ [])
holds_nil t entries holds = subst (λ (es : List Entry). Holds t es) (sym (append-nil entries)) holds

shut_nil : (c : ℕ) (entries : List Entry) (t : Telling) → (room_of ((state (reverse entries)).clients c) ≡ Shut) ⊎ IsOver t
    → (room_of ((state (reverse (entries ++ []))).clients c) ≡ Shut) ⊎ IsOver t
shut_nil c entries t why =
    subst (λ (es : List Entry). (room_of ((state (reverse es)).clients c) ≡ Shut) ⊎ IsOver t) (sym (append-nil entries)) why

-- An End was called for.
finished_by : (c : ℕ) (cause : Cause) (entries : List Entry) (a b : Telling) (tells : Option Telling) (was starved : Bool)
    (r : Result Progress DeskError) → tells ≡ Some b → Holds a entries → Submits (End c cause) r a b
    → (r ≡ Err (Hub OutOfMemory) → is_some b.shut ≡ true) → (starved ≡ was) ⊎ (is_some b.shut ≡ true)
    → Finished c cause entries tells was starved
finished_by c cause entries a b tells was starved (Ok told) now holds made spared memory = record {
  hall = b;
  ended = Some cause;
  tells_now = now;
  holds = held_of_tells b (entries ++ End c cause ∷ []) (holds_more (End c cause) a b entries holds made.0);
  end = inl refl;
  memory = memory;
}
finished_by c cause entries a b tells was starved (Err error) now holds fails spared memory = record {
  hall = b;
  ended = None;
  tells_now = now;
  holds = holds_nil b entries (still_holds (End c cause) error a b entries holds fails);
  end = inr (
    refl,
    shut_nil c entries b
        (end_refused c cause error a b entries holds fails (λ (hungry : error ≡ Hub OutOfMemory). spared (ap Err hungry))),
  );
  memory = memory;
}

pub finished : (c : ℕ) (cause : Cause) (entries : List Entry) (a : Telling) (before after : Option Telling) (p q : PassView)
    (r : Result Progress DeskError) → before ≡ Some a → Holds a entries → Where before (Submits (End c cause) r) after
    → q ≡ after_submit p 0 r → (r ≡ Err (Hub OutOfMemory) → IsShutAt after) → Finished c cause entries after p.starved q.starved
finished c cause entries a before after p q r is holds did same spared =
    let w = where_some _ before after a is did in
    let shut : r ≡ Err (Hub OutOfMemory) → is_some w.0.shut ≡ true = rw w.1 at spared in
    finished_by c cause entries a w.0 after p.starved q.starved r w.1 holds w.2 shut (elim (submit_memory p q 0 r same) [
      | inl kept ↦ inl kept
      | inr hungry ↦ inr (shut hungry)
    ])

ends_bring_nothing : (c : ℕ) (ended : Option Cause) → bytes_in (end_of c ended) ≡ []
ends_bring_nothing c None = refl
ends_bring_nothing c (Some cause) = refl

if_some : {A : Type 0} (P Q : A → Type 0) (x : Option A) → ((a : A) → P a → Q a) → IfSome x P → IfSome x Q
if_some P Q None f p = tt
if_some P Q (Some a) f p = f a p

-- ---- a turn that brought nothing
rest_nil : (c : ℕ) (entries : List Entry) (t : Telling) (first now : Shown) → now.port_faults ≡ first.port_faults → IsSpared first now t
    → (room_of ((state (reverse entries)).clients c) ≡ Shut) ⊎ (room_of ((state (reverse entries)).clients c) ≡ Later) ⊎ IsOver t
    → Rests c (reverse (entries ++ [])) t first now None
rest_nil c entries t first now unfailed memory why = record {
  none = refl;
  unfailed = unfailed;
  memory = memory;
  why = subst (λ (es : List Entry). (room_of ((state (reverse es)).clients c) ≡ Shut)
      ⊎ (room_of ((state (reverse es)).clients c) ≡ Later) ⊎ IsOver t)
      (sym (append-nil entries)) why;
}

pub done_quiet : (c : ℕ) (entries : List Entry) (coming : List ℕ) (first : Shown) (now : Seen) (a : Telling)
    → now.tells ≡ Some a → Holds a entries → now.left ≡ Some coming → now.shown.answered ≡ first.answered
    → first.bind_faults ≤ now.shown.bind_faults → now.shown.port_faults ≡ first.port_faults → IsSpared first now.shown a
    → (room_of ((state (reverse entries)).clients c) ≡ Shut) ⊎ (room_of ((state (reverse entries)).clients c) ≡ Later) ⊎ IsOver a
    → Done c entries coming first now
done_quiet c entries coming first now a tells holds left same le unfailed memory why = record {
  hall = a;
  made = [];
  cut = None;
  ended = None;
  dropped = [];
  refused = None;
  rest = coming;
  tells_now = tells;
  holds = holds_nil a entries holds;
  turns = turns_none c (reverse entries) None first now.shown (tells_same first.answered now.shown.answered same) le;
  cut_off = tt;
  behind = tt;
  left_now = left;
  taken = refl;
  lost = inl refl;
  why = inl (rest_nil c entries a first now.shown unfailed memory why);
}

-- The port ended or failed, and the input was ended for that.
pub done_finished : (c : ℕ) (cause : Cause) (entries : List Entry) (coming : List ℕ) (first : Shown) (now : Seen) (was : Bool)
    (x : Finished c cause entries now.tells was now.shown.starved) → now.left ≡ Some coming → now.shown.answered ≡ first.answered
    → first.bind_faults ≤ now.shown.bind_faults → EndsBy coming first now.shown x.hall cause → Done c entries coming first now
done_finished c cause entries coming first now was x left same le by = record {
  hall = x.hall;
  made = [];
  cut = None;
  ended = x.ended;
  dropped = [];
  refused = None;
  rest = coming;
  tells_now = x.tells_now;
  holds = x.holds;
  turns = turns_none c (reverse entries) None first now.shown (tells_same first.answered now.shown.answered same) le;
  cut_off = tt;
  behind = tt;
  left_now = left;
  taken = ap (λ (bs : List ℕ). bs ++ [] ++ coming) (sym (ends_bring_nothing c x.ended));
  lost = inl refl;
  why = inr (record { cause = cause; by = by; end = x.end });
}

-- ---- a piece that was refused, or a call after it
-- Why a reader stops there: the input was ended after an allocation failure, or the hall is shut or a kill was made.
pub record Stops (c : ℕ) (entries : List Entry) (first : Shown) (now : Seen) : Type 0 where
  pub hall : Telling
  pub ended : Option Cause
  pub tells_now : now.tells ≡ Some hall
  pub holds : Holds hall (entries ++ end_of c ended)
  pub stopped : IsStopped hall now.shown.starved
  pub why : (rest : List ℕ) → Rests c (reverse (entries ++ end_of c ended)) hall first now.shown ended
      ⊎ Ends c (reverse (entries ++ end_of c ended)) hall rest first now.shown ended

-- a call was refused with this error, and `hungry` is whether that is an allocation failure
pub gave_up : (c : ℕ) (entries : List Entry) (first : Shown) (now : Seen) (b : Telling) (mid : Option Telling) (was : Bool) (hungry : Bool)
    → mid ≡ Some b → Holds b entries → GivesUp hungry c was now.shown.starved mid now.tells → now.shown.port_faults ≡ first.port_faults
    → (hungry ≡ true → now.shown.starved ≡ true) → (hungry ≡ false → (was ≡ first.starved) × IsOver b) → Stops c entries first now
gave_up c entries first now b mid was true tells holds ends unfailed starved fed =
    let x = ends b entries tells holds in
    let hungry = starved refl in
    record {
      hall = x.hall;
      ended = x.ended;
      tells_now = x.tells_now;
      holds = x.holds;
      stopped = inr (inr hungry);
      why = λ rest. inr (record { cause = Starved; by = (hungry, unfailed); end = x.end });
    }
gave_up c entries first now b mid was false tells holds same unfailed starved fed =
    let over = (fed refl).1 in
    record {
      hall = b;
      ended = None;
      tells_now = same.0 ∙ tells;
      holds = holds_nil b entries holds;
      stopped = stopped_of b now.shown.starved over;
      why = λ rest. inl (rest_nil c entries b first now.shown unfailed (inl (same.1 ∙ (fed refl).0)) (inr (inr over)));
    }

pub done_dropped : (c : ℕ) (entries : List Entry) (piece coming rest : List ℕ) (first : Shown) (now : Seen) → Stops c entries first now
    → now.left ≡ Some rest → coming ≡ piece ++ rest → now.shown.answered ≡ first.answered → first.bind_faults ≤ now.shown.bind_faults
    → Done c entries coming first now
done_dropped c entries piece coming rest first now x left is same le = record {
  hall = x.hall;
  made = [];
  cut = None;
  ended = x.ended;
  dropped = piece;
  refused = None;
  rest = rest;
  tells_now = x.tells_now;
  holds = x.holds;
  turns = turns_none c (reverse entries) None first now.shown (tells_same first.answered now.shown.answered same) le;
  cut_off = tt;
  behind = tt;
  left_now = left;
  taken = is ∙ ap (λ (bs : List ℕ). bs ++ piece ++ rest) (sym (ends_bring_nothing c x.ended));
  lost = inr x.stopped;
  why = x.why rest;
}

pub done_cut : (c : ℕ) (entries : List Entry) (piece coming rest : List ℕ) (first : Shown) (now : Seen) (refused : Option (ℕ × ℕ))
    → Stops c (entries ++ Read c piece ∷ []) first now → now.left ≡ Some rest → coming ≡ piece ++ rest
    → TellsMore first.answered (option_to_list refused) now.shown.answered → first.bind_faults ≤ now.shown.bind_faults
    → IfSome refused (λ (pair : ℕ × ℕ). left_waiting (Read c piece) (reverse entries) ≡ Some pair.0) → Done c entries coming first now
done_cut c entries piece coming rest first now refused x left is pairs le waits =
    let same : entries ++ Read c piece ∷ [] ++ end_of c x.ended ≡ entries ++ (Read c piece ∷ [] ++ end_of c x.ended) =
    append_assoc entries (Read c piece ∷ []) (end_of c x.ended) in
    record {
      hall = x.hall;
      made = [];
      cut = Some piece;
      ended = x.ended;
      dropped = [];
      refused = refused;
      rest = rest;
      tells_now = x.tells_now;
      holds = subst (λ (es : List Entry). Holds x.hall es) same x.holds;
      turns = turns_none c (reverse entries) refused first now.shown pairs le;
      cut_off = x.stopped;
      behind = if_some (λ (pair : ℕ × ℕ). left_waiting (Read c piece) (reverse entries) ≡ Some pair.0)
          (λ (pair : ℕ × ℕ). IsRefusedBehind c (reverse (entries ++ [])) (Some piece) pair.0) refused
          (λ pair at. (
            piece,
            refl,
            subst (λ (es : List Entry). left_waiting (Read c piece) (reverse es) ≡ Some pair.0) (sym (append-nil entries)) at,
          )) waits;
      left_now = left;
      taken = is ∙ ap (λ (bs : List ℕ). bs ++ rest) (read_brings c piece x.ended);
      lost = inl refl;
      why = subst (λ (es : List Entry). Rests c (reverse es) x.hall first now.shown x.ended
          ⊎ Ends c (reverse es) x.hall rest first now.shown x.ended)
          same (x.why rest);
    }
  where
    read_brings : (c : ℕ) (piece : List ℕ) (ended : Option Cause) → piece ≡ bytes_in (Read c piece ∷ end_of c ended) ++ []
    read_brings c piece None = sym (append-nil piece) ∙ sym (append-nil (piece ++ []))
    read_brings c piece (Some cause) = sym (append-nil piece) ∙ sym (append-nil (piece ++ []))

-- ---- whole turns
-- a piece behind which its client waits for nothing
abbrev pub read_whole : (c : ℕ) (entries : List Entry) (piece coming rest : List ℕ) (first : Shown) (now : Seen)
    (a : Telling) → now.tells ≡ Some a
    → Tells a (entries ++ Read c piece ∷ []) → left_waiting (Read c piece) (reverse entries) ≡ None → now.left ≡ Some rest
    → coming ≡ piece ++ rest → now.shown.answered ≡ first.answered → first.bind_faults ≤ now.shown.bind_faults
    → now.shown.port_faults ≡ first.port_faults → now.shown.starved ≡ first.starved → SoFar c entries coming first now
read_whole c entries piece coming rest first now a tells told waits left is same le unfailed memory = record {
  hall = a;
  made = Read c piece ∷ [];
  rest = rest;
  tells_now = tells;
  tells = told;
  turns = record {
    mine = All-cons (IsOfReader c) (Read c piece) [] refl (All-nil (IsOfReader c));
    answered = (subst (λ (w : Option ℕ). IsAnswered c w []) (sym waits) tt, tt);
    pairs = tells_same first.answered now.shown.answered same;
    failed = inl (omega (arith, le));
  };
  left_now = left;
  taken = is ∙ ap (λ (bs : List ℕ). bs ++ rest) (sym (append-nil piece));
  unfailed = unfailed;
  memory = memory;
}

-- a piece, and the Bound of the port that its client waited for then
abbrev pub bound_whole : (c : ℕ) (entries : List Entry) (piece coming rest : List ℕ) (first : Shown) (now : Seen)
    (asked port : ℕ) (a : Telling)
    → now.tells ≡ Some a → Tells a (entries ++ Read c piece ∷ Bound c port ∷ [])
    → left_waiting (Read c piece) (reverse entries) ≡ Some asked
    → now.left ≡ Some rest → coming ≡ piece ++ rest → TellsOneMore first.answered (asked, port) now.shown.answered
    → (port ≡ 0 → Rises first.bind_faults now.shown.bind_faults) → first.bind_faults ≤ now.shown.bind_faults
    → now.shown.port_faults ≡ first.port_faults → now.shown.starved ≡ first.starved → SoFar c entries coming first now
bound_whole c entries piece coming rest first now asked port a tells told waits left is pair rise le unfailed memory = record {
  hall = a;
  made = Read c piece ∷ Bound c port ∷ [];
  rest = rest;
  tells_now = tells;
  tells = told;
  turns = record {
    mine = All-cons (IsOfReader c) (Read c piece) (Bound c port ∷ []) refl
        (All-cons (IsOfReader c) (Bound c port) [] refl (All-nil (IsOfReader c)));
    answered = (subst (λ (w : Option ℕ). IsAnswered c w (Bound c port ∷ [])) (sym waits) refl, (tt, tt));
    pairs = subst (λ (w : Option ℕ). TellsMore first.answered (paired port w ++ [] ++ []) now.shown.answered) (sym waits)
        (tells_one first.answered (asked, port) now.shown.answered pair);
    failed = rises_unless port first.bind_faults now.shown.bind_faults rise le;
  };
  left_now = left;
  taken = is ∙ ap (λ (bs : List ℕ). bs ++ rest) (sym (append-nil piece));
  unfailed = unfailed;
  memory = memory;
}

-- whole turns after which the client is read no more
pub done_gone : (c : ℕ) (entries : List Entry) (coming : List ℕ) (first : Shown) (now : Seen) (x : SoFar c entries coming first now)
    → room_of ((state (reverse (entries ++ x.made))).clients c) ≡ Shut → Done c entries coming first now
done_gone c entries coming first now x shut = record {
  hall = x.hall;
  made = x.made;
  cut = None;
  ended = None;
  dropped = [];
  refused = None;
  rest = x.rest;
  tells_now = x.tells_now;
  holds = subst (λ (es : List Entry). Holds x.hall (entries ++ es)) (sym (append-nil x.made))
      (held_of_tells x.hall (entries ++ x.made) x.tells);
  turns = x.turns;
  cut_off = tt;
  behind = tt;
  left_now = x.left_now;
  taken = x.taken ∙ ap (λ (bs : List ℕ). bs ++ x.rest)
      (sym (append-nil (bytes_in x.made)) ∙ ap (λ (es : List Entry). bytes_in es ++ []) (sym (append-nil x.made)));
  lost = inl refl;
  why = inl (record {
    none = refl;
    unfailed = x.unfailed;
    memory = inl x.memory;
    why = inl (subst (λ (es : List Entry). room_of ((state (reverse (entries ++ es))).clients c) ≡ Shut) (sym (append-nil x.made)) shut);
  });
}

-- ---- one turn after another
pub turns_behind : (c : ℕ) (entries xs ys : List Entry) (refused : Option (ℕ × ℕ)) (first mid now : Shown)
    → AreTurns c (reverse entries) xs None first mid → AreTurns c (reverse (entries ++ xs)) ys refused mid now
    → mid.bind_faults ≤ now.bind_faults → AreTurns c (reverse entries) (xs ++ ys) refused first now
turns_behind c entries xs ys refused first mid now p q le =
    turns_more c (reverse entries) xs ys refused first mid now p
    (subst (λ (h : History). AreTurns c h ys refused mid now) (reverse-append entries xs) q) le

abbrev pub so_far_more : (c : ℕ) (entries : List Entry) (coming : List ℕ) (first : Shown) (mid now : Seen)
    (x : SoFar c entries coming first mid)
    → SoFar c (entries ++ x.made) x.rest mid.shown now → mid.shown.bind_faults ≤ now.shown.bind_faults → SoFar c entries coming first now
so_far_more c entries coming first mid now x y le = record {
  hall = y.hall;
  made = x.made ++ y.made;
  rest = y.rest;
  tells_now = y.tells_now;
  tells = subst (λ (es : List Entry). Tells y.hall es) (append_assoc entries x.made y.made) y.tells;
  turns = turns_behind c entries x.made y.made None first mid.shown now.shown x.turns y.turns le;
  left_now = y.left_now;
  taken = x.taken ∙ ap (λ (bs : List ℕ). bytes_in x.made ++ bs) y.taken ∙ sym (append_assoc (bytes_in x.made) (bytes_in y.made) y.rest)
      ∙ ap (λ (bs : List ℕ). bs ++ y.rest) (sym (bytes_in_append x.made y.made));
  unfailed = y.unfailed ∙ x.unfailed;
  memory = y.memory ∙ x.memory;
}

-- what was known of a turn, from before others that met no failure
module _ (first mid now : Shown) (unfailed : mid.port_faults ≡ first.port_faults) (memory : mid.starved ≡ first.starved) where
  spared_from : (t : Telling) → IsSpared mid now t → IsSpared first now t
  spared_from t is = subst (λ (b : Bool). (now.starved ≡ b) ⊎ (is_some t.shut ≡ true)) memory is

  ends_from : (rest : List ℕ) (t : Telling) (cause : Cause) → EndsBy rest mid now t cause → EndsBy rest first now t cause
  ends_from rest t Eof by = (by.0, by.1 ∙ unfailed, spared_from t by.2)
  ends_from rest t Fault by = (subst (λ (n : ℕ). Rises n now.port_faults) unfailed by.0, spared_from t by.1)
  ends_from rest t Starved by = (by.0, by.1 ∙ unfailed)
  ends_from rest t NoThread by = by

  why_from : (c : ℕ) (h : History) (t : Telling) (rest : List ℕ) (ended : Option Cause)
      → Rests c h t mid now ended ⊎ Ends c h t rest mid now ended
      → Rests c h t first now ended ⊎ Ends c h t rest first now ended
  why_from c h t rest ended (inl x) =
      inl (record { none = x.none; unfailed = x.unfailed ∙ unfailed; memory = spared_from t x.memory; why = x.why })
  why_from c h t rest ended (inr x) = inr (record { cause = x.cause; by = ends_from rest t x.cause x.by; end = x.end })

bytes_behind : (c : ℕ) (xs ys : List Entry) (cut : Option (List ℕ)) (ended : Option Cause) (dropped rest : List ℕ)
    → bytes_in xs ++ (bytes_in (all_of c ys cut ended) ++ dropped ++ rest) ≡ bytes_in (all_of c (xs ++ ys) cut ended) ++ dropped ++ rest
bytes_behind c xs ys cut ended dropped rest =
    let last : List Entry = all_of c ys cut ended in
    sym (append_assoc (bytes_in xs) (bytes_in last ++ dropped) rest)
    ∙ ap (λ (bs : List ℕ). bs ++ rest) (sym (append_assoc (bytes_in xs) (bytes_in last) dropped)
    ∙ ap (λ (bs : List ℕ). bs ++ dropped) (sym (bytes_in_append xs last)
    ∙ ap bytes_in (sym (append_assoc xs ys (read_of c cut ++ end_of c ended)))))

pub done_after : (c : ℕ) (entries : List Entry) (coming : List ℕ) (first : Shown) (mid now : Seen) (x : SoFar c entries coming first mid)
    → Done c (entries ++ x.made) x.rest mid.shown now → mid.shown.bind_faults ≤ now.shown.bind_faults
    → Done c entries coming first now
done_after c entries coming first mid now x y le =
    let same : entries ++ x.made ++ all_of c y.made y.cut y.ended ≡ entries ++ all_of c (x.made ++ y.made) y.cut y.ended =
    append_assoc entries x.made (all_of c y.made y.cut y.ended)
    ∙ ap (λ (es : List Entry). entries ++ es) (sym (append_assoc x.made y.made (read_of c y.cut ++ end_of c y.ended))) in
    record {
      hall = y.hall;
      made = x.made ++ y.made;
      cut = y.cut;
      ended = y.ended;
      dropped = y.dropped;
      refused = y.refused;
      rest = y.rest;
      tells_now = y.tells_now;
      holds = subst (λ (es : List Entry). Holds y.hall es) same y.holds;
      turns = turns_behind c entries x.made y.made y.refused first mid.shown now.shown x.turns y.turns le;
      cut_off = y.cut_off;
      behind = subst (λ (es : List Entry). IfSome y.refused (λ (pair : ℕ × ℕ). IsRefusedBehind c (reverse es) y.cut pair.0))
          (append_assoc entries x.made y.made) y.behind;
      left_now = y.left_now;
      taken = x.taken ∙ ap (λ (bs : List ℕ). bytes_in x.made ++ bs) y.taken ∙ bytes_behind c x.made y.made y.cut y.ended y.dropped y.rest;
      lost = y.lost;
      why = why_from first mid.shown now.shown x.unfailed x.memory c
          (reverse (entries ++ all_of c (x.made ++ y.made) y.cut y.ended)) y.hall y.rest
          y.ended (subst
          (λ (es : List Entry). Rests c (reverse es) y.hall mid.shown now.shown y.ended
          ⊎ Ends c (reverse es) y.hall y.rest mid.shown now.shown y.ended)
          same y.why);
    }

-- ---- the same of the clauses
abbrev pub GoesOn : Option ℕ → Option ℕ → ℕ → Seen → Seen → Type 0
GoesOn from room c first now = (a : Telling) (entries : List Entry) (coming : List ℕ)
    → first.tells ≡ Some a → Tells a entries → first.left ≡ Some coming → Knows from c (state (reverse entries))
    → Goes room c entries coming first.shown now

pub reads_first : (room : Option ℕ) (c : ℕ) (now : Seen) → GoesOn room room c now now
reads_first room c now a entries coming tells told left knows = record {
  so_far = record {
    hall = a;
    made = [];
    rest = coming;
    tells_now = tells;
    tells = subst (λ (es : List Entry). Tells a es) (sym (append-nil entries)) told;
    turns = turns_none c (reverse entries) None now.shown now.shown (tells_same now.shown.answered now.shown.answered refl) (omega arith);
    left_now = left;
    taken = refl;
    unfailed = refl;
    memory = refl;
  };
  knows = subst (λ (es : List Entry). Knows room c (state (reverse es))) (sym (append-nil entries)) knows;
}

pub reads_more : (from room next : Option ℕ) (c : ℕ) (first mid now : Seen) → GoesOn from room c first mid
    → Turns room (Go next) c mid now → mid.shown.bind_faults ≤ now.shown.bind_faults → GoesOn from next c first now
reads_more from room next c first mid now p q le a entries coming tells told left knows =
    let x = p a entries coming tells told left knows in
    let s = x.so_far in
    let y = q s.hall (entries ++ s.made) s.rest s.tells_now s.tells s.left_now x.knows in record {
      so_far = so_far_more c entries coming first.shown mid now s y.so_far le;
      knows = subst (λ (es : List Entry). Knows next c (state (reverse es))) (append_assoc entries s.made y.so_far.made) y.knows;
    }

pub reads_done : (from room : Option ℕ) (c : ℕ) (first mid now : Seen) → GoesOn from room c first mid
    → Turns room Stop c mid now → mid.shown.bind_faults ≤ now.shown.bind_faults → Turns from Stop c first now
reads_done from room c first mid now p q le a entries coming tells told left knows =
    let x = p a entries coming tells told left knows in
    let s = x.so_far in
    done_after c entries coming first.shown mid now s (q s.hall (entries ++ s.made) s.rest s.tells_now s.tells s.left_now x.knows) le

-- a reader that begins knows nothing of the room
pub reads_all : (c : ℕ) (first now : Seen) → Turns None Stop c first now → Reads c first now
reads_all c first now p a entries coming tells told left = p a entries coming tells told left tt
