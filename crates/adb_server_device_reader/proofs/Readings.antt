-- A device's reader, one step after another.
use Rattle.std.proofs.Common.{ℕ, ◌≡◌, ◌<◌, ◌≤◌, Bool, true, false, List, [], ◌∷◌, ◌++◌, length, take, drop, Option, Some}
use Rattle.std.proofs.Common.{refl, sym, ap, ◌∙◌, subst, ◌⊎◌, inl, inr, arith}
use Rattle.std.specs.Prelude.{reverse, ◌==◌}
use Rattle.std.specs.List.{All, concat}
use Rattle.std.proofs.lemmas.Bool.Decides.{nat_tests}
use Rattle.std.proofs.lemmas.List.{nil_from_length, append-nil, append_assoc, map-append, take-append-drop}
use Rattle.std.proofs.lemmas.List.Elements.{All-push}
use Rattle.std.proofs.lemmas.List.Folds.{concat-append}
use Rattle.adb_outside.specs.Outside.{Rises}
use Rattle.adb_outside.specs.declared.kinds.Cause.{Cause}
use Rattle.adb_outside.specs.declared.kinds.Cause.TheVariants.{Eof, Fault, Starved, NoThread}
use Rattle.adb_wire.specs.declared.slicer.TheConstants.{MAX_PACKET}
use Rattle.adb_wire.specs.Slicing.{need_of, IsSlice, HasSliced}
use Rattle.adb_wire.proofs.HeaderLaws.{head_reads}
use Rattle.adb_wire.proofs.Slices.{slice_bounds, starts}
use Rattle.adb_capture.specs.declared.entry.Entry.{Entry}
use Rattle.adb_capture.specs.declared.entry.Entry.TheVariants.{Recv}
use Rattle.adb_history.specs.Kept.{IsLawful}
use Rattle.adb_server_hall.specs.Telling.{Telling}
use Rattle.adb_server_hall.specs.Made.{Tells}
use Rattle.adb_server_device_reader.specs.Handing.{Stands, IsSpared, IsCutOff, Stays, Starves, Breaks, CutAfter}
use Rattle.adb_server_device_reader.specs.Handing.{Finished, Handed, Waited, received}
use Rattle.adb_server_device_reader.specs.Reading.{Start, HasEnded, EndsBy, IsRest, IsEnding, IsUnfailed, Rests, Ends, Done, SoFar, Cut}
use Rattle.adb_server_device_reader.specs.Reading.{Fed, HasEndedBy}
use Rattle.adb_server_device_reader.specs.Reading.{Turned}

-- ---- sizes
pub same_le : (n : ℕ) → n ≤ n
same_le n = omega arith

pub at_most : (a b c : ℕ) → a ≤ b → b ≤ c → a ≤ c
at_most a b c first second = omega arith

pub need_of_nothing : 0 < need_of []
need_of_nothing = omega (arith, slice_bounds [])

-- bytes that are no whole slice fit a piece
pub short_fits : (bytes : List ℕ) → 0 < need_of bytes → length bytes ≤ MAX_PACKET
short_fits bytes some = omega (arith, slice_bounds bytes)

pub slice_fits : (bytes : List ℕ) → IsSlice bytes → length bytes ≤ MAX_PACKET
slice_fits bytes (inl (head, is, size)) = omega (arith, size, (head_reads bytes head is).short)
slice_fits bytes (inr (fault, is, size)) = omega (arith, size)

-- ---- pieces
received_more : (t : ℕ) (entries : List Entry) (xs ys : List (List ℕ))
    → entries ++ received t xs ++ received t ys ≡ entries ++ received t (xs ++ ys)
received_more t entries xs ys =
    append_assoc entries (received t xs) (received t ys) ∙ ap (λ (es : List Entry). entries ++ es) (sym (map-append (Recv t) xs ys))

-- what was handed in is what was taken, where a piece was handed in after others, and where it is lost
taken_more : (bytes fed held coming : List ℕ) (xs : List (List ℕ)) → bytes ≡ fed ++ coming → concat xs ++ held ≡ fed
    → bytes ≡ concat (xs ++ held ∷ []) ++ [] ++ coming
taken_more bytes fed held coming xs taken joined =
    taken ∙ ap (λ (bs : List ℕ). bs ++ coming) (sym joined ∙ ap (λ (bs : List ℕ). concat xs ++ bs) (sym (append-nil held))
    ∙ sym (concat-append xs (held ∷ [])) ∙ sym (append-nil (concat (xs ++ held ∷ []))))

taken_less : (bytes fed held coming : List ℕ) (xs : List (List ℕ)) → bytes ≡ fed ++ coming → concat xs ++ held ≡ fed
    → bytes ≡ concat xs ++ held ++ coming
taken_less bytes fed held coming xs taken joined = taken ∙ ap (λ (bs : List ℕ). bs ++ coming) (sym joined)

-- ---- steps
pub begins : (t : ℕ) (start : Start) (held : List ℕ) (tells : Option Telling) (a : Telling) → held ≡ [] → tells ≡ Some a
    → Tells a start.entries → SoFar t start held start.bytes start.starved tells
begins t start held tells a none is h = record {
  fed = [];
  slices = [];
  sliced = subst (HasSliced [] []) (sym none) starts;
  taken = refl;
  hall = record {
    now = a;
    tells_now = is;
    told = h.told ∙ ap Some (sym (append-nil start.entries));
    held = inl (subst (λ (es : List Entry). IsLawful a.hub (reverse es)) (sym (append-nil start.entries)) h.lawful);
  };
  memory = refl;
}

-- the slicer took bytes off the front of a piece
pub so_far_taken : (t : ℕ) (start : Start) (held now piece coming : List ℕ) (n : ℕ) (starved : Bool) (tells : Option Telling)
    → ((fed : List ℕ) (gave : List (List ℕ)) → HasSliced fed gave held → HasSliced (fed ++ take n piece) gave now)
    → SoFar t start held (piece ++ coming) starved tells → SoFar t start now (drop n piece ++ coming) starved tells
so_far_taken t start held now piece coming n starved tells stands x = record {
  fed = x.fed ++ take n piece;
  slices = x.slices;
  sliced = stands x.fed x.slices x.sliced;
  taken =
      x.taken ∙ ap (λ (bs : List ℕ). x.fed ++ (bs ++ coming)) (sym (take-append-drop n piece))
      ∙ ap (λ (bs : List ℕ). x.fed ++ bs) (append_assoc (take n piece) (drop n piece) coming)
      ∙ sym (append_assoc x.fed (take n piece) (drop n piece ++ coming));
  hall = x.hall;
  memory = x.memory;
}

-- another spelling of what is to come
pub so_far_as : (t : ℕ) (start : Start) (held xs ys coming : List ℕ) (starved : Bool) (tells : Option Telling) → xs ≡ ys
    → SoFar t start held (xs ++ coming) starved tells → SoFar t start held (ys ++ coming) starved tells
so_far_as t start held xs ys coming starved tells same x = subst (λ (bs : List ℕ). SoFar t start held (bs ++ coming) starved tells) same x

-- the slice that was held was handed in, or the reader is cut off
fed_by : (going : Bool) (t : ℕ) (start : Start) (held now coming : List ℕ) (was starved : Bool) (old new : Option Telling)
    (x : SoFar t start held coming was old) → IsSlice held
    → ((fed : List ℕ) (gave : List (List ℕ)) → HasSliced fed gave held → HasSliced fed (gave ++ held ∷ []) now)
    → Handed going t held (start.entries ++ received t x.slices) was starved new → Fed going t start now coming starved new
fed_by true t start held now coming was starved old new x slice stands h = record {
  fed = x.fed;
  slices = x.slices ++ held ∷ [];
  sliced = stands x.fed x.slices x.sliced;
  taken = x.taken;
  hall = subst (λ (es : List Entry). Stands es new) (received_more t start.entries x.slices (held ∷ [])) h.0;
  memory = h.1 ∙ x.memory;
}
fed_by false t start held now coming was starved old new x slice stands (inl h) = record {
  slices = x.slices ++ held ∷ [];
  last = [];
  lost = [];
  each = All-push IsSlice x.slices held x.sliced.each slice;
  taken = taken_more start.bytes x.fed held coming x.slices x.taken x.sliced.bytes;
  breaks = subst (λ (b : Bool). Breaks t (start.entries ++ received t (x.slices ++ held ∷ [])) [] b starved new) x.memory
      (subst (λ (es : List Entry). Breaks t es [] was starved new) (received_more t start.entries x.slices (held ∷ []))
      (record { hall = h.hall; why = inl h.stays }));
}
fed_by false t start held now coming was starved old new x slice stands (inr h) = record {
  slices = x.slices;
  last = h.last;
  lost = held;
  each = x.sliced.each;
  taken = taken_less start.bytes x.fed held coming x.slices x.taken x.sliced.bytes;
  breaks = subst (λ (b : Bool). Breaks t (start.entries ++ received t x.slices) h.last b starved new) x.memory h.breaks;
}

pub fed_piece : (going : Bool) (t : ℕ) (start : Start) (piece held now coming : List ℕ) (was starved : Bool) (old new : Option Telling)
    (x : SoFar t start held coming was old) → piece ≡ held → IsSlice piece
    → ((fed : List ℕ) (gave : List (List ℕ)) → HasSliced fed gave held → HasSliced fed (gave ++ held ∷ []) now)
    → Handed going t piece (start.entries ++ received t x.slices) was starved new → Fed going t start now coming starved new
fed_piece going t start piece held now coming was starved old new x same slice stands h =
    fed_by going t start held now coming was starved old new x (subst IsSlice same slice) stands
    (subst (λ (bs : List ℕ). Handed going t bs (start.entries ++ received t x.slices) was starved new) same h)

-- the reader has waited
pub fed_waited : (going : Bool) (t : ℕ) (start : Start) (held coming : List ℕ) (was starved : Bool) (old new : Option Telling)
    (x : SoFar t start held coming was old) → Waited going t (start.entries ++ received t x.slices) was starved new
    → Fed going t start held coming starved new
fed_waited true t start held coming was starved old new x h = record {
  fed = x.fed;
  slices = x.slices;
  sliced = x.sliced;
  taken = x.taken;
  hall = h.0;
  memory = h.1 ∙ x.memory;
}
fed_waited false t start held coming was starved old new x h = record {
  slices = x.slices;
  last = [];
  lost = held;
  each = x.sliced.each;
  taken = taken_less start.bytes x.fed held coming x.slices x.taken x.sliced.bytes;
  breaks = subst (λ (b : Bool). Breaks t (start.entries ++ received t x.slices) [] b starved new) x.memory
      (record { hall = h.hall; why = inl h.stays });
}

-- a read brought bytes
pub so_far_read : (t : ℕ) (start : Start) (held piece coming : List ℕ) (n : ℕ) (starved : Bool)
    (tells : Option Telling) → piece ≡ take n coming
    → SoFar t start held coming starved tells → SoFar t start held (piece ++ drop n coming) starved tells
so_far_read t start held piece coming n starved tells is x = record {
  fed = x.fed;
  slices = x.slices;
  sliced = x.sliced;
  taken = x.taken
      ∙ ap (λ (bs : List ℕ). x.fed ++ bs)
      (sym (take-append-drop n coming) ∙ ap (λ (bs : List ℕ). bs ++ drop n coming) (sym is));
  hall = x.hall;
  memory = x.memory;
}

-- what was read after it is lost too
pub cut_more : (t : ℕ) (start : Start) (piece rest : List ℕ) (starved : Bool) (tells : Option Telling)
    → Cut t start (piece ++ rest) starved tells
    → Cut t start rest starved tells
cut_more t start piece rest starved tells c = record {
  slices = c.slices;
  last = c.last;
  lost = c.lost ++ piece;
  each = c.each;
  taken =
      c.taken ∙ sym (append_assoc (concat c.slices ++ c.lost) piece rest)
      ∙ ap (λ (bs : List ℕ). bs ++ rest) (append_assoc (concat c.slices) c.lost piece);
  breaks = c.breaks;
}

-- ---- the end
cut_of : (t : ℕ) (entries last : List Entry) (was starved : Bool) (now : Telling)
    → Stays t entries last was starved now ⊎ Starves t entries last starved now → IsCutOff t entries now starved
cut_of t entries last was starved now (inl stays) = elim stays.why [
  | inl gone ↦ inl gone
  | inr over ↦ elim over [ inl shut ↦ inr (inl shut) | inr stopped ↦ inr (inr (inl stopped)) ]
]
cut_of t entries last was starved now (inr starves) = inr (inr (inr starves.memory))

-- why a reader that was cut off stops
why_of : (t : ℕ) (start : Start) (rest : List ℕ) (faults : ℕ) (lost : List ℕ) (starved : Bool) (entries last : List Entry) (now : Telling)
    (ending : List (List ℕ)) → IsUnfailed start rest faults lost
    → Stays t entries last start.starved starved now ⊎ Starves t entries last starved now
    → Rests t start rest faults lost starved entries last now ending ⊎ Ends t start rest faults lost starved entries last now
why_of t start rest faults lost starved entries last now ending unfailed (inl stays) =
    inl (record { stays = stays; unfailed = inl unfailed })
why_of t start rest faults lost starved entries last now ending unfailed (inr starves) =
    inr (record { cause = Starved; by = (starves.memory, unfailed); end = starves.end })

pub done_cut : (t : ℕ) (start : Start) (rest : List ℕ) (faults : ℕ) (starved : Bool) (tells : Option Telling) → faults ≡ start.faults
    → Cut t start rest starved tells → Done t start rest faults starved tells
done_cut t start rest faults starved tells unfailed c = record {
  pieces = c.slices;
  slices = c.slices;
  ending = [];
  last = c.last;
  lost = c.lost;
  pieces_are = sym (append-nil c.slices);
  each = c.each;
  short = inl refl;
  taken = c.taken;
  hall = c.breaks.hall;
  whole = inr (cut_of t (start.entries ++ received t c.slices) c.last start.starved starved c.breaks.hall.now c.breaks.why);
  why = why_of t start rest faults c.lost starved (start.entries ++ received t c.slices) c.last c.breaks.hall.now []
      (inl unfailed) c.breaks.why;
}

pub turned_by : (going : Bool) (t : ℕ) (start : Start) (held rest : List ℕ) (faults : ℕ) (starved : Bool)
    (tells : Option Telling) (left : Option (List ℕ))
    → left ≡ Some rest → faults ≡ start.faults → Fed going t start held rest starved tells
    → Turned going t start held faults starved tells left
turned_by true t start held rest faults starved tells left is unfailed x =
    record { rest = rest; left_now = is; so_far = x; unfailed = unfailed }
turned_by false t start held rest faults starved tells left is unfailed c =
    record { rest = rest; left_now = is; done = done_cut t start rest faults starved tells unfailed c }

pub faulted : (start : Start) (rest : List ℕ) (before after : ℕ) → before ≡ start.faults → Rises before after
    → HasEndedBy start rest after Fault
faulted start rest before after same rose = subst (λ (n : ℕ). Rises n after) same rose

has_ended : (start : Start) (rest : List ℕ) (faults : ℕ) (cause : Cause) → HasEndedBy start rest faults cause → HasEnded start rest faults
has_ended start rest faults Eof h = inl h
has_ended start rest faults Fault h = inr h
has_ended start rest faults Starved h = absurd h
has_ended start rest faults NoThread h = absurd h

ends_by : (start : Start) (rest : List ℕ) (faults : ℕ) (lost : List ℕ) (starved : Bool) (now : Telling) (cause : Cause)
    → HasEndedBy start rest faults cause → IsSpared start.starved starved now → EndsBy start rest faults lost starved now cause
ends_by start rest faults lost starved now Eof h memory = (h.0, h.1, memory)
ends_by start rest faults lost starved now Fault h memory = (h, memory)
ends_by start rest faults lost starved now Starved h memory = absurd h
ends_by start rest faults lost starved now NoThread h memory = absurd h

-- the input was ended after pieces of which none is lost
finished_done : (t : ℕ) (start : Start) (rest : List ℕ) (faults : ℕ) (cause : Cause) (was starved : Bool) (tells : Option Telling)
    (slices ending : List (List ℕ)) → was ≡ start.starved → HasEndedBy start rest faults cause → All IsSlice slices
    → IsEnding start rest faults ending → start.bytes ≡ concat (slices ++ ending) ++ [] ++ rest
    → Finished t cause (start.entries ++ received t (slices ++ ending)) was starved tells → Done t start rest faults starved tells
finished_done t start rest faults cause was starved tells slices ending memory ended each short taken f = record {
  pieces = slices ++ ending;
  slices = slices;
  ending = ending;
  last = f.last;
  lost = [];
  pieces_are = refl;
  each = each;
  short = short;
  taken = taken;
  hall = f.hall;
  whole = inl refl;
  why = inr (record {
    cause = cause;
    by = ends_by start rest faults [] starved f.hall.now cause ended (subst (λ (b : Bool). IsSpared b starved f.hall.now) memory f.memory);
    end = f.end;
  });
}

-- where nothing was held
pub done_empty : (t : ℕ) (start : Start) (piece held rest : List ℕ) (faults : ℕ) (cause : Cause) (was starved : Bool)
    (old new : Option Telling)
    (x : SoFar t start held rest was old) → piece ≡ held → (length piece == 0) ≡ true → HasEndedBy start rest faults cause
    → Finished t cause (start.entries ++ received t x.slices) was starved new → Done t start rest faults starved new
done_empty t start piece held rest faults cause was starved old new x same empty ended f =
    let none : held ≡ [] = sym same ∙ nil_from_length piece (grind (arith, nat_tests)) in
    let all : x.slices ++ [] ≡ x.slices = append-nil x.slices in
    finished_done t start rest faults cause was starved new x.slices [] x.memory ended x.sliced.each (inl refl)
    (taken_less start.bytes x.fed held rest x.slices x.taken x.sliced.bytes
    ∙ ap (λ (bs : List ℕ). concat x.slices ++ bs ++ rest) none ∙ ap (λ (ps : List (List ℕ)). concat ps ++ [] ++ rest) (sym all))
    (subst (λ (ps : List (List ℕ)). Finished t cause (start.entries ++ received t ps) was starved new) (sym all) f)

rest_is : (start : Start) (piece held rest : List ℕ) (faults : ℕ) (cause : Cause) → piece ≡ held
    → (length piece == 0) ≡ false → 0 < need_of held
    → HasEndedBy start rest faults cause → IsRest start rest faults held
rest_is start piece held rest faults cause same filled short ended =
    let long : 0 < length held = subst (λ (bs : List ℕ). 0 < length bs) same (grind (arith, nat_tests)) in
    record {
      some = λ none. absurd (let none : length held ≡ 0 = ap length none in omega arith);
      short = omega arith;
      ended = has_ended start rest faults cause ended;
    }

-- where what was held was handed in
pub handed_as : (b r : Bool) (t : ℕ) (piece : List ℕ) (entries : List Entry) (was starved : Bool) (now : Option Telling) → b ≡ r
    → Handed b t piece entries was starved now → Handed r t piece entries was starved now
handed_as b r t piece entries was starved now is = subst (λ (c : Bool). Handed c t piece entries was starved now) is

pub done_held : (t m : ℕ) (start : Start) (piece held rest : List ℕ) (faults : ℕ) (cause : Cause) (was first starved : Bool)
    (old now new : Option Telling) (x : SoFar t start held rest was old) → piece ≡ held → (length piece == 0) ≡ false → 0 < need_of held
    → HasEndedBy start rest faults cause → m ≡ t → Handed true t piece (start.entries ++ received t x.slices) was first now
    → ((es : List Entry) → Stands es now → Finished m cause es first starved new) → Done t start rest faults starved new
done_held t m start piece held rest faults cause was first starved old now new x same filled short ended number h finish =
    let is_rest = rest_is start piece held rest faults cause same filled short ended in
    let stands : Stands (start.entries ++ received t (x.slices ++ held ∷ [])) now =
    subst (λ (es : List Entry). Stands es now) (received_more t start.entries x.slices (held ∷ []))
    (subst (λ (bs : List ℕ). Stands (start.entries ++ received t x.slices ++ received t (bs ∷ [])) now) same h.0) in
    finished_done t start rest faults cause first starved new x.slices (held ∷ []) (h.1 ∙ x.memory) ended
    x.sliced.each (inr (held, refl, is_rest))
    (taken_more start.bytes x.fed held rest x.slices x.taken x.sliced.bytes)
    (subst (λ (u : ℕ). Finished u cause (start.entries ++ received t (x.slices ++ held ∷ [])) first starved new) number (finish _ stands))

stopped_done : (t : ℕ) (start : Start) (held rest : List ℕ) (faults : ℕ) (was starved : Bool) (old new : Option Telling)
    (x : SoFar t start held rest was old) → IsRest start rest faults held
    → Handed false t held (start.entries ++ received t x.slices) was starved new
    → Done t start rest faults starved new
stopped_done t start held rest faults was starved old new x is_rest (inl h) =
    let all : List Entry = start.entries ++ received t (x.slices ++ held ∷ []) in
    let breaks : CutAfter t all start.starved starved new =
    subst (λ (b : Bool). CutAfter t all b starved new) x.memory (subst (λ (es : List Entry). CutAfter t es was starved new)
    (received_more t start.entries x.slices (held ∷ [])) (record { hall = h.hall; stays = h.stays })) in
    record {
      pieces = x.slices ++ held ∷ [];
      slices = x.slices;
      ending = held ∷ [];
      last = [];
      lost = [];
      pieces_are = refl;
      each = x.sliced.each;
      short = inr (held, refl, is_rest);
      taken = taken_more start.bytes x.fed held rest x.slices x.taken x.sliced.bytes;
      hall = breaks.hall;
      whole = inl refl;
      why = inl (record { stays = breaks.stays; unfailed = inr (λ e. cc) });
    }
stopped_done t start held rest faults was starved old new x is_rest (inr h) =
    let all : List Entry = start.entries ++ received t (x.slices ++ []) in
    let breaks : Breaks t all h.last start.starved starved new =
    subst (λ (b : Bool). Breaks t all h.last b starved new) x.memory
    (subst (λ (ps : List (List ℕ)). Breaks t (start.entries ++ received t ps) h.last was starved new)
    (sym (append-nil x.slices)) h.breaks) in
    record {
      pieces = x.slices ++ [];
      slices = x.slices;
      ending = [];
      last = h.last;
      lost = held;
      pieces_are = refl;
      each = x.sliced.each;
      short = inl refl;
      taken =
          taken_less start.bytes x.fed held rest x.slices x.taken x.sliced.bytes
          ∙ ap (λ (ps : List (List ℕ)). concat ps ++ held ++ rest) (sym (append-nil x.slices));
      hall = breaks.hall;
      whole = inr (cut_of t all h.last start.starved starved breaks.hall.now breaks.why);
      why = why_of t start rest faults held starved all h.last breaks.hall.now [] (inr is_rest) breaks.why;
    }

-- where the reader was cut off at what was held
pub done_stopped : (t : ℕ) (start : Start) (piece held rest : List ℕ) (faults : ℕ) (cause : Cause)
    (was starved : Bool) (old new : Option Telling)
    (x : SoFar t start held rest was old) → piece ≡ held → (length piece == 0) ≡ false → 0 < need_of held
    → HasEndedBy start rest faults cause
    → Handed false t piece (start.entries ++ received t x.slices) was starved new → Done t start rest faults starved new
done_stopped t start piece held rest faults cause was starved old new x same filled short ended h =
    stopped_done t start held rest faults was starved old new x (rest_is start piece held rest faults cause same filled short ended)
    (subst (λ (bs : List ℕ). Handed false t bs (start.entries ++ received t x.slices) was starved new) same h)
