-- Turns of a writer, one after another.
use Rattle.std.proofs.Common.{ℕ, ◌≡◌, Bool, true, false, List, [], ◌∷◌, ◌++◌, reverse, Option, Some, None, Result, Ok, Err}
use Rattle.std.proofs.Common.{refl, sym, ap, ◌∙◌, subst, inl, inr}
use Rattle.std.specs.Prelude.{◌⊎◌, ◌||◌, is_some, map, option_map}
use Rattle.std.specs.List.{concat}
use Rattle.std.proofs.lemmas.List.{append-nil, append_assoc, map-append, reverse-append}
use Rattle.std.proofs.lemmas.List.Folds.{concat-append}
use Rattle.adb_outside.specs.Outside.{Rises}
use Rattle.adb_outside.specs.declared.kinds.Cause.{Cause}
use Rattle.adb_outside.specs.declared.kinds.Cause.TheVariants.{Fault, Starved}
use Rattle.adb_capture.specs.declared.entry.Entry.{Entry}
use Rattle.adb_history.specs.Machine.{History, state}
use Rattle.adb_history.specs.Kept.{Kept, IsLawful}
use Rattle.adb_hub.specs.declared.answers.Handed.{Handed}
use Rattle.adb_hub.specs.declared.answers.Handed.TheVariants.{Bytes, Nothing, Done}
use Rattle.adb_hub.specs.Answers.{HandsOut}
use Rattle.adb_server_log.specs.declared.error.DeskError.{DeskError}
use Rattle.adb_server_log.specs.declared.error.DeskError.TheVariants.{Halted, RecordFault, Hub, Later}
use Rattle.adb_hub.specs.declared.error.HubError.TheVariants.{OutOfMemory}
use Rattle.adb_server_log.specs.Log.{grown}
use Rattle.adb_server_log.specs.Pass.{PassView}
use Rattle.adb_desk.specs.declared.act.Progress.{Progress}
use Rattle.adb_desk.specs.Desk.{desk_refusal}
use Rattle.adb_server_hall.specs.Telling.{Telling, Where, Entered, Fails, Hands, IsShutAt, Submits}
use Rattle.adb_server_hall.specs.Made.{Tells}
use Rattle.adb_server_hall.specs.Passes.{after_error, after_handed, after_submit, is_starved}
use Rattle.adb_server_hall.proofs.Made.{tells_more}
use Rattle.adb_server_writers.specs.declared.next.Next.{Next}
use Rattle.adb_server_writers.specs.declared.next.Next.TheVariants.{More, Idle, Stop}
use Rattle.adb_server_writers.specs.Writing.{Side, Outlet, Stands, IsRefused, Rests, Starves, WroteAll, FailsLast, Written}
use Rattle.adb_server_writers.specs.Turns.{WrittenSoFar, when_closed, Turned, Ends, EndsAll, GivesUp, Leaves, GoesOn, GoesOut, HandsOn}
use Rattle.adb_server_writers.proofs.Sides.{IsSide}

pub stands_of : (t : Telling) (es : List Entry) → Tells t es → Stands t es
stands_of t es tells = record { told = tells.told; lawful = inr tells.lawful }

stands_nil : (t : Telling) (es : List Entry) → Stands t es → Stands t (es ++ [])
stands_nil t es stands = subst (λ (xs : List Entry). Stands t xs) (sym (append-nil es)) stands

-- ---- passes
or_true : (b c : Bool) → c ≡ true → (b || c) ≡ true
or_true true c is = refl
or_true false c is = is

or_false : (b c : Bool) → c ≡ false → (b || c) ≡ b
or_false true c is = refl
or_false false c is = is

error_number : (p : PassView) (error : DeskError) → (after_error p error).number ≡ p.number
error_number p Later = refl
error_number p Halted = refl
error_number p RecordFault = refl
error_number p (Hub error) = refl

pub submit_number : (p : PassView) (n : ℕ) (answer : Result Progress DeskError) → (after_submit p n answer).number ≡ p.number
submit_number p n (Ok said) = refl
submit_number p n (Err error) = error_number p error

pub handed_number : (p : PassView) (answer : Result Handed DeskError) → (after_handed p answer).number ≡ p.number
handed_number p (Ok (Bytes bytes)) = refl
handed_number p (Ok Nothing) = refl
handed_number p (Ok Done) = refl
handed_number p (Err error) = error_number p error

error_keeps : (p : PassView) (error : DeskError) → p.starved ≡ true → (after_error p error).starved ≡ true
error_keeps p Later is = is
error_keeps p Halted is = ap (λ b. b || false) is
error_keeps p RecordFault is = ap (λ b. b || false) is
error_keeps p (Hub error) is = ap (λ b. b || is_starved (Hub error)) is

-- a pass that has met an allocation failure keeps that
pub submit_keeps : (p : PassView) (n : ℕ) (answer : Result Progress DeskError) → p.starved ≡ true → (after_submit p n answer).starved ≡ true
submit_keeps p n (Ok said) is = ap (λ b. b || false) is
submit_keeps p n (Err error) is = error_keeps p error is

-- a pass after a hand-out that was not refused
pub handed_memory : (p : PassView) (given : Handed) → (after_handed p (Ok given)).starved ≡ p.starved
handed_memory p (Bytes bytes) = or_false p.starved false refl
handed_memory p Nothing = refl
handed_memory p Done = or_false p.starved false refl

-- a pass after a refusal has met an allocation failure exactly by the error
pub error_hungry : (p : PassView) (error : DeskError) → is_starved error ≡ true → (after_error p error).starved ≡ true
error_hungry p Later is = absurd (let clash : false ≡ true = is in cc)
error_hungry p Halted is = absurd (let clash : false ≡ true = is in cc)
error_hungry p RecordFault is = absurd (let clash : false ≡ true = is in cc)
error_hungry p (Hub error) is = or_true p.starved (is_starved (Hub error)) is

pub error_memory : (p : PassView) (error : DeskError) → is_starved error ≡ false → (after_error p error).starved ≡ p.starved
error_memory p Later is = refl
error_memory p Halted is = or_false p.starved false refl
error_memory p RecordFault is = or_false p.starved false refl
error_memory p (Hub error) is = or_false p.starved (is_starved (Hub error)) is

error_cases : (error : DeskError) → (error ≡ Hub OutOfMemory) ⊎ (is_starved error ≡ false)
error_cases (Hub OutOfMemory) = inl refl
error_cases error = inr refl

-- A pass after an act is starved as before, or the act found no memory.
submit_memory : (p : PassView) (n : ℕ) (answer : Result Progress DeskError)
    → ((after_submit p n answer).starved ≡ p.starved) ⊎ (answer ≡ Err (Hub OutOfMemory))
submit_memory p n (Ok said) = inl (or_false p.starved false refl)
submit_memory p n (Err error) = elim (error_cases error) [
  | inl hungry ↦ inr (ap Err hungry)
  | inr fed ↦ inl (error_memory p error fed)
]

-- ---- a connection is to be ended
module _ (side : Side) (is : IsSide side) (a b : Telling) (es : List Entry) (was starved : Bool) (stands : Stands a es)
    (memory : (starved ≡ was) ⊎ (is_some b.shut ≡ true)) where
  ended : (cause : Cause) → Entered (side.ends cause) a b → Ends side cause was starved es b
  ended cause made = elim stands.lawful [
    | inl shut ↦ absurd (let clash : false ≡ true = sym (ap is_some made.going) ∙ shut in cc)
    | inr lawful ↦ record {
      last = side.ends cause ∷ [];
      stands =
          stands_of b (es ++ side.ends cause ∷ [])
          (tells_more (side.ends cause) a b es (record { told = stands.told; lawful = lawful }) made);
      is = inl refl;
      memory = memory;
    }
  ]

  unended : (cause : Cause) (error : DeskError) → b ≡ a
      → ((h : History) → IsLawful a.hub h → desk_refusal (side.ends cause) (state h) ≡ Some error)
      → IsRefused side es b
  unended cause error same refuses = elim stands.lawful [
    | inl shut ↦ inr (inl (ap (λ (t : Telling). is_some t.shut) same ∙ shut))
    | inr lawful ↦ elim (is.unended (reverse es) cause error lawful.legal (refuses (reverse es) lawful)) [
      | inl gone ↦ inl gone
      | inr stopped ↦
          inr (inr (ap (λ (t : Telling). t.hub.stopped) same ∙ ap (λ (k : Kept). k.stopped) lawful.seen ∙ stopped))
    ]
  ]

  refused_by : (cause : Cause) → Stands b es → IsRefused side es b → Ends side cause was starved es b
  refused_by cause now why = record { last = []; stands = stands_nil b es now; is = inr (refl, why); memory = memory }

  refused : (cause : Cause) (error : DeskError) → (error ≡ Hub OutOfMemory → is_some b.shut ≡ true) → Fails (side.ends cause) error a b
      → Ends side cause was starved es b
  refused cause error spared (inl r) =
      refused_by cause (subst (λ (t : Telling). Stands t es) (sym r.same) stands)
      (elim r.why [
        | inl shut ↦ inr (inl (ap (λ (t : Telling). is_some t.shut) r.same ∙ ap is_some shut))
        | inr why ↦ elim why.1 [
          | inl hungry ↦ inr (inl (spared hungry))
          | inr refuses ↦ unended cause error r.same refuses
        ]
      ])
  refused cause error spared (inr k) =
      let shut : is_some b.shut ≡ true = ap is_some k.shut in
      refused_by cause (record { told = k.told ∙ stands.told; lawful = inl shut }) (inr (inl shut))

  ends_by : (cause : Cause) (answer : Result Progress DeskError) → (answer ≡ Err (Hub OutOfMemory) → is_some b.shut ≡ true)
      → Submits (side.ends cause) answer a b → Ends side cause was starved es b
  ends_by cause (Ok said) spared made = ended cause made.0
  ends_by cause (Err error) spared fails = refused cause error (λ (hungry : error ≡ Hub OutOfMemory). spared (ap Err hungry)) fails

pub where_ends : (side : Side) (is : IsSide side) (cause : Cause) (p q : PassView)
    (answer : Result Progress DeskError) (old new : Option Telling)
    → q ≡ after_submit p 0 answer → (answer ≡ Err (Hub OutOfMemory) → IsShutAt new) → Where old (Submits (side.ends cause) answer) new
    → Where old (EndsAll side cause p.starved q.starved) new
where_ends side is cause p q answer None new pass spared did = tt
where_ends side is cause p q answer (Some a) None pass spared did = absurd did
where_ends side is cause p q answer (Some a) (Some b) pass spared did =
    λ es stands.
    ends_by side is a b es p.starved q.starved stands (elim (submit_memory p 0 answer) [
      | inl same ↦ inl (ap (λ (x : PassView). x.starved) pass ∙ same)
      | inr hungry ↦ inr (spared hungry)
    ]) cause answer spared did

-- ---- a hand-out
bytes_held : (e : List ℕ → Entry) (max : ℕ) (due : Option (List ℕ)) (bytes : List ℕ) (h : History) (old new : Kept)
    → HandsOut e max due (Bytes bytes) h old new → IsLawful new (e bytes ∷ h)
bytes_held e max (Some all) bytes h old new out = out.2
bytes_held e max None bytes h old new out = absurd out

nothing_due : (e : List ℕ → Entry) (max : ℕ) (due : Option (List ℕ)) (h : History) (old new : Kept)
    → HandsOut e max due Nothing h old new → (due ≡ Some []) × (new ≡ old)
nothing_due e max (Some all) h old new out = (ap Some out.0, out.1)
nothing_due e max None h old new out = absurd out

owner_gone : (e : List ℕ → Entry) (max : ℕ) (due : Option (List ℕ)) (h : History) (old new : Kept)
    → HandsOut e max due Done h old new → (due ≡ None) × (new ≡ old)
owner_gone e max (Some all) h old new out = absurd out
owner_gone e max None h old new out = (refl, out)

module _ (side : Side) (max : ℕ) (a b : Telling) (es : List Entry) (tells : Tells a es) where
  handed_on : (bytes : List ℕ) → Hands side.hands max side.due (Ok (Bytes bytes)) a b → Tells b (es ++ side.hands bytes ∷ [])
  handed_on bytes hands = record {
    told = hands.told ∙ ap (option_map (grown (side.hands bytes))) tells.told;
    lawful = subst (λ (h : History). IsLawful b.hub h) (sym (reverse-append es (side.hands bytes ∷ [])))
        (bytes_held side.hands max (side.due (state (reverse es))) bytes (reverse es) a.hub b.hub
        (hands.steps (reverse es) tells.lawful).1);
  }

  idle_hall : Hands side.hands max side.due (Ok Nothing) a b → Tells b es × (side.due (state (reverse es)) ≡ Some [])
  idle_hall hands =
      let none = nothing_due side.hands max (side.due (state (reverse es))) (reverse es) a.hub b.hub
      (hands.steps (reverse es) tells.lawful).1 in
      (record { told = hands.told ∙ tells.told; lawful = subst (λ (k : Kept). IsLawful k (reverse es)) (sym none.1) tells.lawful }, none.0)

  done_hall : Hands side.hands max side.due (Ok Done) a b → Tells b es × (side.due (state (reverse es)) ≡ None)
  done_hall hands =
      let none = owner_gone side.hands max (side.due (state (reverse es))) (reverse es) a.hub b.hub
      (hands.steps (reverse es) tells.lawful).1 in
      (record { told = hands.told ∙ tells.told; lawful = subst (λ (k : Kept). IsLawful k (reverse es)) (sym none.1) tells.lawful }, none.0)

-- ---- a writer that was handed nothing
pub idle_turn : (side : Side) (max : ℕ) (a b : Telling) (es : List Entry) (tells : Option Telling) (was starved : Bool) (before : Outlet)
    → Tells a es → tells ≡ Some b → starved ≡ was → Hands side.hands max side.due (Ok Nothing) a b
    → Turned Idle side es tells was starved before before
idle_turn side max a b es tells was starved before held told memory hands =
    let none = idle_hall side max a b es held hands in
    record {
      now = b;
      is = told;
      pieces = [];
      entries = es;
      made = sym (append-nil es);
      last = [];
      stands = stands_nil b es (stands_of b es none.0);
      front = [];
      lost = [];
      handed = refl;
      wrote = λ out is. is ∙ ap Some (sym (append-nil out));
      why = inl (record { count = refl; none = refl }, inl (record { none = refl; memory = memory; why = inr (inl none.1) }));
      closes = inr (none.1, refl);
    }

-- It stops, and no write failed.
module _ (side : Side) (es : List Entry) (b : Telling) (tells : Option Telling) (was starved : Bool) (before : Outlet) where
  stops : (last : List Entry) → tells ≡ Some b → Stands b (es ++ last)
      → (Rests side es b was starved last ⊎ Starves side es b starved last) → Turned Stop side es tells was starved before before
  stops last told stands why = record {
    now = b;
    is = told;
    pieces = [];
    entries = es;
    made = sym (append-nil es);
    last = last;
    stands = stands;
    front = [];
    lost = [];
    handed = refl;
    wrote = λ out is. is ∙ ap Some (sym (append-nil out));
    why = inl (record { count = refl; none = refl }, why);
    closes = inl refl;
  }

  rests : tells ≡ Some b → Stands b es → starved ≡ was → (side.due (state (reverse es)) ≡ None) ⊎ (is_some b.shut ≡ true)
      → Turned Stop side es tells was starved before before
  rests told stands memory (inl gone) =
      stops [] told (stands_nil b es stands) (inl (record { none = refl; memory = memory; why = inl gone }))
  rests told stands memory (inr shut) =
      stops [] told (stands_nil b es stands) (inl (record { none = refl; memory = memory; why = inr (inr shut) }))

  starves : (mid : Bool) → tells ≡ Some b → starved ≡ true → Ends side Starved mid starved es b
      → Turned Stop side es tells was starved before before
  starves mid told hungry ends = stops ends.last told ends.stands (inr (record { memory = hungry; ends = ends.is }))

pub done_turn : (side : Side) (max : ℕ) (a b : Telling) (es : List Entry) (tells : Option Telling) (was starved : Bool) (before : Outlet)
    → Tells a es → tells ≡ Some b → starved ≡ was → Hands side.hands max side.due (Ok Done) a b
    → Turned Stop side es tells was starved before before
done_turn side max a b es tells was starved before held told memory hands =
    let gone = done_hall side max a b es held hands in
    rests side es b tells was starved before told (stands_of b es gone.0) memory (inl gone.1)

-- ---- a writer whose hand-out was refused
stands_after : (e : Entry) (error : DeskError) (a b : Telling) (es : List Entry) → Tells a es → Fails e error a b → Stands b es
stands_after e error a b es tells (inl r) = stands_of b es (subst (λ (t : Telling). Tells t es) (sym r.same) tells)
stands_after e error a b es tells (inr k) = record { told = k.told ∙ tells.told; lawful = inl (ap is_some k.shut) }

refused_why : (side : Side) (is : IsSide side) (error : DeskError) (a b : Telling) (es : List Entry) → Tells a es → is_starved error ≡ false
    → Fails (side.hands []) error a b → (side.due (state (reverse es)) ≡ None) ⊎ (is_some b.shut ≡ true)
refused_why side is error a b es tells fed (inl r) = elim r.why [
  | inl shut ↦ inr (ap (λ (t : Telling). is_some t.shut) r.same ∙ ap is_some shut)
  | inr why ↦ elim why.1 [
    | inl hungry ↦ absurd (let clash : true ≡ false = sym (ap is_starved hungry) ∙ fed in cc)
    | inr refuses ↦ inl (is.unasked (reverse es) error tells.lawful.legal (refuses (reverse es) tells.lawful))
  ]
]
refused_why side is error a b es tells fed (inr k) = inr (ap is_some k.shut)

module _ (side : Side) (is : IsSide side) (error : DeskError) (a b d : Telling) (es : List Entry)
    (tells : Option Telling) (was mid starved : Bool)
    (before : Outlet) (held : Tells a es) (told : tells ≡ Some d) (fails : Fails (side.hands []) error a b) where
  pub refused_turn : (hungry : Bool) → is_starved error ≡ hungry → GivesUp side hungry mid starved b d → (hungry ≡ false → starved ≡ was)
      → (hungry ≡ true → starved ≡ true) → Turned Stop side es tells was starved before before
  refused_turn true test ends fed hungry =
      starves side es d tells was starved before mid told (hungry refl) (ends es (stands_after (side.hands []) error a b es held fails))
  refused_turn false test same fed hungry =
      rests side es d tells was starved before told
      (subst (λ (t : Telling). Stands t es) (sym same) (stands_after (side.hands []) error a b es held fails)) (fed refl)
      (subst (λ (t : Telling). (side.due (state (reverse es)) ≡ None) ⊎ (is_some t.shut ≡ true)) (sym same)
      (refused_why side is error a b es held test fails))

-- ---- a writer that was handed a piece
module _ (side : Side) (max : ℕ) (bytes : List ℕ) (a b d : Telling) (es : List Entry) (tells : Option Telling) (was mid starved : Bool)
    (before after : Outlet) (held : Tells a es) (told : tells ≡ Some d) (hands : Hands side.hands max side.due (Ok (Bytes bytes)) a b)
    (stays : after.closed ≡ before.closed) (first : mid ≡ was) where
  more_turn : d ≡ b → starved ≡ mid → GoesOn bytes before after → WrittenSoFar side es tells was starved before after
  more_turn same memory on = record {
    now = d;
    is = told;
    pieces = bytes ∷ [];
    entries = es ++ side.hands bytes ∷ [];
    made = refl;
    held = subst (λ (t : Telling). Tells t (es ++ side.hands bytes ∷ [])) (sym same) (handed_on side max a b es held bytes hands);
    wrote = λ out is. on.wrote out is ∙ ap (λ (bs : List ℕ). Some (out ++ bs)) (sym (append-nil bytes));
    memory = memory ∙ first;
    count = on.count;
    stays = stays;
  }

  stop_turn : EndsAll side Fault mid starved b d → GoesOut bytes before after → Written side es tells was starved before (when_closed after)
  stop_turn broke out =
      let all = es ++ side.hands bytes ∷ [] in
      let ends = broke all (stands_of b all (handed_on side max a b es held bytes hands)) in
      record {
        now = d;
        is = told;
        pieces = bytes ∷ [];
        entries = all;
        made = refl;
        last = ends.last;
        stands = ends.stands;
        front = out.front;
        lost = out.lost;
        handed = append-nil bytes ∙ out.is;
        wrote = out.wrote;
        why = inr (record {
          rises = out.rises;
          whole = [];
          failed = bytes;
          part = out.front;
          pieces_are = refl;
          failed_is = out.is;
          front_is = refl;
          ends = ends.is;
          memory = subst (λ (x : Bool). (starved ≡ x) ⊎ (is_some d.shut ≡ true)) first ends.memory;
        });
        closes = inl refl;
      }

  pub handed_turn : (going : Next) → Leaves side going mid starved b d → HandsOn bytes going before after → (going ≡ More → starved ≡ mid)
      → Turned going side es tells was starved before after
  handed_turn More same on memory = more_turn same (memory refl) on
  handed_turn Idle never on memory = absurd never
  handed_turn Stop broke out memory = stop_turn broke out

-- ---- one turn after another
pub so_far_first : (side : Side) (es : List Entry) (a : Telling) (tells : Option Telling) (was : Bool) (o : Outlet)
    → Tells a es → tells ≡ Some a
    → WrittenSoFar side es tells was was o o
so_far_first side es a tells was o held told = record {
  now = a;
  is = told;
  pieces = [];
  entries = es;
  made = sym (append-nil es);
  held = held;
  wrote = λ out is. is ∙ ap Some (sym (append-nil out));
  memory = refl;
  count = refl;
  stays = refl;
}

made_more : (side : Side) (es mid last : List Entry) (xs ys : List (List ℕ)) → mid ≡ es ++ map side.hands xs
    → last ≡ mid ++ map side.hands ys
    → last ≡ es ++ map side.hands (xs ++ ys)
made_more side es mid last xs ys one two =
    two ∙ ap (λ (e : List Entry). e ++ map side.hands ys) one ∙ append_assoc es (map side.hands xs) (map side.hands ys)
    ∙ ap (λ (e : List Entry). es ++ e) (sym (map-append side.hands xs ys))

pub so_far_more : (side : Side) (es : List Entry) (tells1 tells2 : Option Telling) (was mid starved : Bool) (first middle after : Outlet)
    (x : WrittenSoFar side es tells1 was mid first middle) → WrittenSoFar side x.entries tells2 mid starved middle after
    → WrittenSoFar side es tells2 was starved first after
so_far_more side es tells1 tells2 was mid starved first middle after x y = record {
  now = y.now;
  is = y.is;
  pieces = x.pieces ++ y.pieces;
  entries = y.entries;
  made = made_more side es x.entries y.entries x.pieces y.pieces x.made y.made;
  held = y.held;
  wrote = λ out is. y.wrote (out ++ concat x.pieces) (x.wrote out is) ∙ ap Some (append_assoc out (concat x.pieces) (concat y.pieces)
      ∙ ap (λ (bs : List ℕ). out ++ bs) (sym (concat-append x.pieces y.pieces)));
  memory = y.memory ∙ x.memory;
  count = y.count ∙ x.count;
  stays = y.stays ∙ x.stays;
}

module _ (side : Side) (entries : List Entry) (now : Telling) (was mid starved : Bool) (last : List Entry) (xs ys : List (List ℕ))
    (front lost : List ℕ) (first middle after : ℕ) (memory : mid ≡ was) (count : middle ≡ first) where
  quiet_after : WroteAll lost middle after × (Rests side entries now mid starved last ⊎ Starves side entries now starved last)
      → WroteAll lost first after × (Rests side entries now was starved last ⊎ Starves side entries now starved last)
  quiet_after y = (
    record { count = y.0.count ∙ count; none = y.0.none },
    elim y.1 [
      | inl rests ↦ inl (record { none = rests.none; memory = rests.memory ∙ memory; why = rests.why })
      | inr starves ↦ inr starves
    ],
  )

  fails_after : FailsLast side entries now mid starved last ys front lost middle after
      → FailsLast side entries now was starved last (xs ++ ys) (concat xs ++ front) lost first after
  fails_after y = record {
    rises = subst (λ (n : ℕ). Rises n after) count y.rises;
    whole = xs ++ y.whole;
    failed = y.failed;
    part = y.part;
    pieces_are = ap (λ (ps : List (List ℕ)). xs ++ ps) y.pieces_are ∙ sym (append_assoc xs y.whole (y.failed ∷ []));
    failed_is = y.failed_is;
    front_is = ap (λ (bs : List ℕ). concat xs ++ bs) y.front_is ∙ sym (append_assoc (concat xs) (concat y.whole) y.part)
        ∙ ap (λ (bs : List ℕ). bs ++ y.part) (sym (concat-append xs y.whole));
    ends = y.ends;
    memory = subst (λ (x : Bool). (starved ≡ x) ⊎ (is_some now.shut ≡ true)) memory y.memory;
  }

pub written_after : (side : Side) (es : List Entry) (tells1 tells2 : Option Telling) (was mid starved : Bool) (first middle after : Outlet)
    (x : WrittenSoFar side es tells1 was mid first middle) → Written side x.entries tells2 mid starved middle after
    → Written side es tells2 was starved first after
written_after side es tells1 tells2 was mid starved first middle after x y = record {
  now = y.now;
  is = y.is;
  pieces = x.pieces ++ y.pieces;
  entries = y.entries;
  made = made_more side es x.entries y.entries x.pieces y.pieces x.made y.made;
  last = y.last;
  stands = y.stands;
  front = concat x.pieces ++ y.front;
  lost = y.lost;
  handed = concat-append x.pieces y.pieces ∙ ap (λ (bs : List ℕ). concat x.pieces ++ bs) y.handed
      ∙ sym (append_assoc (concat x.pieces) y.front y.lost);
  wrote = λ out is. y.wrote (out ++ concat x.pieces) (x.wrote out is) ∙ ap Some (append_assoc out (concat x.pieces) y.front);
  why = elim y.why [
    | inl quiet ↦
        inl (quiet_after side y.entries y.now was mid starved y.last x.pieces y.pieces y.front y.lost first.faults
        middle.faults after.faults
        x.memory x.count quiet)
    | inr fails ↦
        inr (fails_after side y.entries y.now was mid starved y.last x.pieces y.pieces y.front y.lost first.faults
        middle.faults after.faults
        x.memory x.count fails)
  ];
  closes = elim y.closes [ inl closed ↦ inl closed | inr idle ↦ inr (idle.0, idle.1 ∙ x.stays) ];
}
