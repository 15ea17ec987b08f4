-- What holds of a cut, frame by frame, for any format.
use Rattle.std.proofs.Common.{ℕ, ◌-◌, ◌^◌, ◌≡◌, ◌≢◌, ◌≤◌, ◌<◌, zero, suc, List, [], ◌∷◌, ◌++◌, length, take, drop, Option, refl, sym, ◌∙◌}
use Rattle.std.proofs.Common.{ap}
use Rattle.std.proofs.Common.{subst, arith}
use Rattle.std.specs.List.{flat_map}
use Rattle.std.proofs.lemmas.List.{length-append, length-drop, length-take, take_at, drop_at, take-append-drop, append-nil}
use Rattle.std.proofs.lemmas.List.Elements.{All-take, All-drop}
use Rattle.adb_outside.specs.declared.framer.Front.{Front}
use Rattle.adb_outside.specs.declared.framer.Front.TheVariants.{More, Bad, Whole}
use Rattle.adb_outside.specs.Framing.{Cut, uncut, joined, cut_by, cut_at, cut, fault_of, offset_past, IsFraming, Stops, IsRightCut}
use Rattle.adb_outside.specs.Bytes.{AreBytes}
use Rattle.adb_outside.proofs.FramingLaws.{cut_first}

-- a front of bytes, and what is behind it
pub bytes_before : (front rest : List ℕ) → AreBytes (front ++ rest) → AreBytes front
bytes_before front rest are =
    subst AreBytes (take_at front rest (length front) refl) (All-take (λ byte. byte < 256) (length front) (front ++ rest) are)

pub bytes_behind : (front rest : List ℕ) → AreBytes (front ++ rest) → AreBytes rest
bytes_behind front rest are =
    subst AreBytes (drop_at front rest (length front) refl) (All-drop (λ byte. byte < 256) (length front) (front ++ rest) are)

pub bytes_after : (n : ℕ) (bytes : List ℕ) → AreBytes bytes → AreBytes (drop n bytes)
bytes_after n bytes are = All-drop (λ byte. byte < 256) n bytes are

-- what is spelled before a rest leaves no more than there is
pub rest_within : {V : Type 0} (spell : V → List ℕ) (given : List V) (rest bytes : List ℕ)
    → bytes ≡ flat_map spell given ++ rest → length rest ≤ length bytes
rest_within spell given rest bytes whole = omega (arith, ap (length {A = ℕ}) whole, length-append (flat_map spell given) rest)

-- no bytes on is here
pub place_here : (offset : ℕ) (rest : List ℕ) → offset < 2 ^ 64 → offset ≡ offset_past offset (length rest - length rest)
place_here offset rest room = omega (arith, room)

-- an offset past a frame and more is that past both
pub place_past : (offset : ℕ) (frame more rest : List ℕ) → length rest ≤ length more
    → offset_past (offset_past offset (length frame)) (length more - length rest)
    ≡ offset_past offset (length (frame ++ more) - length rest)
place_past offset frame more rest fits = omega (arith, fits, length-append frame more)

module _ {S V F : Type 0} (find : S → List ℕ → Front F) (item : S → List ℕ → V) (after : S → List ℕ → S)
    (laws : IsFraming find item after) where
  abbrev all : S → List ℕ → Cut S V F
  all = cut find item after

  -- a frame alone
  abbrev pub IsFrame : S → List ℕ → Type 0
  IsFrame s frame = find s frame ≡ Whole (length frame)

  -- bytes that begin with a frame are that frame and the cut of those behind it
  pub frame_first : (s : S) (frame more : List ℕ) → IsFrame s frame
      → all s (frame ++ more) ≡ joined (item s frame ∷ []) (all (after s frame) more)
  frame_first s frame more e =
      let bytes = frame ++ more in
      let n = length frame in
      cut_first find item after laws s bytes
      ∙ (ap (λ f. cut_by find item after s bytes f all) (laws.whole s frame more n e)
      ∙ (ap (λ b. joined (item s b ∷ []) (all (after s b) (drop n bytes))) (take_at frame more n refl)
      ∙ ap (λ b. joined (item s frame ∷ []) (all (after s frame) b)) (drop_at frame more n refl)))

  -- what bytes begin with is a frame alone, and the others are behind it
  pub record Splits (s : S) (bytes : List ℕ) (n : ℕ) : Type 0 where
    pub frame : IsFrame s (take n bytes)
    pub whole : take n bytes ++ drop n bytes ≡ bytes
    pub less : length (drop n bytes) < length bytes

  splits : (s : S) (bytes : List ℕ) (n : ℕ) → find s bytes ≡ Whole n → Splits s bytes n
  splits s bytes n e =
      let fits = laws.fits s bytes n e in
      let len : length (take n bytes) ≡ n = omega (arith, length-take n bytes, fits) in
      record {
        frame = laws.alone s bytes n e ∙ ap Whole (sym len);
        whole = take-append-drop n bytes;
        less =
            omega (arith, fits, length-drop n bytes);
      }

  -- Bytes begin with a frame, and what holds of the cut of those behind it.
  pub record Begins (IsRight : S → List ℕ → Cut S V F → Type 0) (s : S) (bytes : List ℕ) (v : V) (c : Cut S V F) : Type 0 where
    pub frame : List ℕ
    pub more : List ℕ
    pub whole : bytes ≡ frame ++ more
    pub found : IsFrame s frame
    pub holds : item s frame ≡ v
    pub behind : IsRight (after s frame) more c

  -- A relation of bytes that may be read to a cut of them.
  module _ (Reads : S → List ℕ → Type 0) (IsRight : S → List ℕ → Cut S V F → Type 0) where
    -- What may be read may be read past a frame.
    abbrev pub Stays : Type 0
    Stays = (s : S) (frame more : List ℕ) → IsFrame s frame → Reads s (frame ++ more) → Reads (after s frame) more

    -- A cut without frames is right where it may stop, and so is one with a frame before a right one.
    pub record Steps : Type 0 where
      pub stays : Stays
      pub stops : (s : S) (bytes : List ℕ) (fault : Option F) → Reads s bytes → Stops find item after s bytes fault
          → IsRight s bytes (uncut s bytes fault)
      pub goes : (s : S) (frame more : List ℕ) (c : Cut S V F) → IsFrame s frame → Reads s (frame ++ more) → IsRight (after s frame) more c
          → IsRight s (frame ++ more) (joined (item s frame ∷ []) c)

    stops_at : Steps → (s : S) (bytes : List ℕ) (f : Front F) → Reads s bytes → find s bytes ≡ f → ((n : ℕ) → f ≢ Whole n)
        → IsRight s bytes (uncut s bytes (fault_of f))
    stops_at steps s bytes f reads is apart =
        steps.stops s bytes (fault_of f) reads (record { told = ap fault_of (sym is); none_left = λ n e. apart n (sym is ∙ e) })

    right_at : Steps → (k : ℕ) (s : S) (bytes : List ℕ) → length bytes ≤ k → Reads s bytes
        → IsRight s bytes (cut_at find item after k s bytes)
    right_at steps zero s [] h reads = stops_at steps s [] More reads (laws.empty s) (λ n e. cc)
    right_at steps zero s (b ∷ bytes) h reads = absurd (omega (arith, h))
    right_at steps (suc k) s bytes h reads = go (find s bytes) refl (right_at steps k)
      where
        go : (f : Front F) → find s bytes ≡ f
            → ((t : S) (more : List ℕ) → length more ≤ k → Reads t more → IsRight t more (cut_at find item after k t more))
            → IsRight s bytes (cut_by find item after s bytes f (cut_at find item after k))
        go More is others = stops_at steps s bytes More reads is (λ n e. cc)
        go (Bad fault) is others = stops_at steps s bytes (Bad fault) reads is (λ n e. cc)
        go (Whole n) is others =
            let frame = take n bytes in
            let more = drop n bytes in
            let split = splits s bytes n is in
            let c = cut_at find item after k (after s frame) more in
            let read : Reads s (frame ++ more) = subst (Reads s) (sym split.whole) reads in
            let behind = others (after s frame) more (omega (arith, split.less, h)) (steps.stays s frame more split.frame read) in
            subst (λ b. IsRight s b (joined (item s frame ∷ []) c)) split.whole (steps.goes s frame more c split.frame read behind)

    -- the cut is right
    pub right : Steps → (s : S) (bytes : List ℕ) → Reads s bytes → IsRight s bytes (all s bytes)
    right steps s bytes reads = right_at steps (length bytes) s bytes (omega arith) reads

    -- A right cut stops where it may; one without frames leaves all, and another begins with a frame.
    pub record Unfolds : Type 0 where
      pub stays : Stays
      pub stops : (s : S) (bytes : List ℕ) (c : Cut S V F) → IsRight s bytes c → Stops find item after c.reading c.rest c.fault
      pub ends : (s : S) (bytes : List ℕ) (c : Cut S V F) → Reads s bytes → IsRight s bytes c → c.given ≡ []
          → (c.reading ≡ s) × (c.rest ≡ bytes)
      pub begins : (s : S) (bytes : List ℕ) (v : V) (c : Cut S V F) → Reads s bytes
          → IsRight s bytes (joined (v ∷ []) c) → Begins IsRight s bytes v c

    same_cut : (c : Cut S V F) → c ≡ joined c.given (uncut c.reading c.rest c.fault)
    same_cut c = ap (λ vs. record { given = vs; reading = c.reading; rest = c.rest; fault = c.fault }) (sym (append-nil c.given))

    ends_so : Unfolds → (s : S) (bytes : List ℕ) (c : Cut S V F) → Reads s bytes → IsRight s bytes c → c.given ≡ []
        → uncut c.reading c.rest c.fault ≡ all s bytes
    ends_so unfolds s bytes c reads is none =
        let here = unfolds.ends s bytes c reads is none in
        let stop = unfolds.stops s bytes c is in
        let apart : (n : ℕ) → find s bytes ≢ Whole n = λ n e. stop.none_left n
        (ap (λ t. find t c.rest) here.0 ∙ (ap (find s) here.1 ∙ e)) in
        ap (uncut c.reading c.rest) stop.told
        ∙ (ap (λ t. uncut t c.rest (fault_of (find t c.rest))) here.0
        ∙ (ap (λ b. uncut s b (fault_of (find s b))) here.1
        ∙ sym (cut_first find item after laws s bytes ∙ by_front (find s bytes) apart)))
      where
        by_front : (f : Front F) → ((n : ℕ) → f ≢ Whole n) → cut_by find item after s bytes f all ≡ uncut s bytes (fault_of f)
        by_front More apart = refl
        by_front (Bad fault) apart = refl
        by_front (Whole n) apart = absurd (apart n refl)

    determined_by : Unfolds → (given : List V) (s : S) (bytes : List ℕ) (c : Cut S V F) → Reads s bytes → IsRight s bytes c
        → c.given ≡ given → joined given (uncut c.reading c.rest c.fault) ≡ all s bytes
    determined_by unfolds [] s bytes c reads is none = ends_so unfolds s bytes c reads is none
    determined_by unfolds (v ∷ given) s bytes c reads is are =
        let others : Cut S V F = joined given (uncut c.reading c.rest c.fault) in
        let here = subst (λ vs. IsRight s bytes (joined vs (uncut c.reading c.rest c.fault))) are
        (subst (IsRight s bytes) (same_cut c) is) in
        let first = unfolds.begins s bytes v others reads here in
        let further = unfolds.stays s first.frame first.more first.found (subst (Reads s) first.whole reads) in
        let more = determined_by unfolds given (after s first.frame) first.more others further first.behind (append-nil given) in
        ap (joined (v ∷ [])) more
        ∙ (ap (λ u. joined (u ∷ []) (all (after s first.frame) first.more)) (sym first.holds)
        ∙ sym (ap (all s) first.whole ∙ frame_first s first.frame first.more first.found))

    -- a right cut is the cut
    pub determined : Unfolds → (s : S) (bytes : List ℕ) (c : Cut S V F) → Reads s bytes → IsRight s bytes c → c ≡ all s bytes
    determined unfolds s bytes c reads is = same_cut c ∙ determined_by unfolds c.given s bytes c reads is refl

  -- Frames that are spelled in a format's own words, each at an offset.
  module _ (offset : S → ℕ) (Spells : S → List ℕ → List V → S → List ℕ → Type 0) where
    abbrev SpellsCut : S → List ℕ → Cut S V F → Type 0
    SpellsCut s bytes c = Spells s bytes c.given c.reading c.rest

    -- Offsets move with the frames; all bytes may be a rest, and a frame may stand before others; and what is spelled
    -- has no other beginning.
    pub record Frames : Type 0 where
      pub moves : (s : S) (frame : List ℕ) → offset (after s frame) ≡ offset_past (offset s) (length frame)
      pub within : (s : S) (bytes : List ℕ) (c : Cut S V F) → SpellsCut s bytes c → length c.rest ≤ length bytes
      pub none : (s : S) (bytes : List ℕ) → Spells s bytes [] s bytes
      pub one : (s : S) (frame more : List ℕ) (c : Cut S V F) → IsFrame s frame → AreBytes frame → SpellsCut (after s frame) more c
          → SpellsCut s (frame ++ more) (joined (item s frame ∷ []) c)
      pub all_left : (s : S) (bytes : List ℕ) (c : Cut S V F) → c.given ≡ [] → SpellsCut s bytes c → c.rest ≡ bytes
      pub reads_on : (s : S) (bytes : List ℕ) (c : Cut S V F) → c.given ≡ [] → SpellsCut s bytes c
          → offset c.reading ≡ offset s → c.reading ≡ s
      pub begins : (s : S) (bytes : List ℕ) (v : V) (c : Cut S V F) → SpellsCut s bytes (joined (v ∷ []) c) → Begins SpellsCut s bytes v c

    abbrev IsPlace : S → List ℕ → Type 0
    IsPlace s bytes = offset s < 2 ^ 64

    abbrev Reads : S → List ℕ → Type 0
    Reads s bytes = (offset s < 2 ^ 64) × AreBytes bytes

    abbrev IsRight : S → List ℕ → Cut S V F → Type 0
    IsRight = IsRightCut find item after offset Spells

    moved : Frames → (s : S) (frame more rest : List ℕ) → length rest ≤ length more
        → offset_past (offset (after s frame)) (length more - length rest) ≡ offset_past (offset s) (length (frame ++ more) - length rest)
    moved frames s frame more rest fits =
        ap (λ k. offset_past k (length more - length rest)) (frames.moves s frame) ∙ place_past (offset s) frame more rest fits

    none_given : Frames → (s : S) (bytes : List ℕ) (c : Cut S V F) → offset s < 2 ^ 64 → IsRight s bytes c → c.given ≡ []
        → (c.reading ≡ s) × (c.rest ≡ bytes)
    none_given frames s bytes c room is none =
        let left = frames.all_left s bytes c none is.spelled in
        let same : offset c.reading ≡ offset s =
        is.place ∙ (ap (λ (b : List ℕ). offset_past (offset s) (length bytes - length b)) left ∙ sym (place_here (offset s) bytes room)) in
        (frames.reads_on s bytes c none is.spelled same, left)

    first_given : Frames → (s : S) (bytes : List ℕ) (v : V) (c : Cut S V F) → IsRight s bytes (joined (v ∷ []) c)
        → Begins IsRight s bytes v c
    first_given frames s bytes v c is =
        let b = frames.begins s bytes v c is.spelled in
        record {
          frame = b.frame;
          more = b.more;
          whole = b.whole;
          found = b.found;
          holds = b.holds;
          behind = record {
            spelled = b.behind;
            place = is.place
                ∙ (ap (λ (x : List ℕ). offset_past (offset s) (length x - length c.rest)) b.whole
                ∙ sym (moved frames s b.frame b.more c.rest (frames.within (after s b.frame) b.more c b.behind)));
            stops = is.stops;
          };
        }

    -- the cut is right
    pub right_cut : Frames → (s : S) (bytes : List ℕ) → offset s < 2 ^ 64 → AreBytes bytes → IsRight s bytes (all s bytes)
    right_cut frames s bytes room are = right Reads IsRight (record {
      stays = λ t frame more found reads. (omega (arith, frames.moves t frame), bytes_behind frame more reads.1);
      stops = λ t rest fault reads stop. record { spelled = frames.none t rest; place = place_here (offset t) rest reads.0; stops = stop };
      goes = λ t frame more c found reads others. record {
        spelled = frames.one t frame more c found (bytes_before frame more reads.1) others.spelled;
        place = others.place ∙ moved frames t frame more c.rest (frames.within (after t frame) more c others.spelled);
        stops = others.stops;
      };
    }) s bytes (room, are)

    -- and what is right is the cut
    pub only_cut : Frames → (s : S) (bytes : List ℕ) (c : Cut S V F) → offset s < 2 ^ 64 → IsRight s bytes c → c ≡ all s bytes
    only_cut frames s bytes c room is = determined IsPlace IsRight (record {
      stays = λ t frame more found reads. omega (arith, frames.moves t frame);
      stops = λ t rest d right. right.stops;
      ends = none_given frames;
      begins = λ t rest v d reads right. first_given frames t rest v d right;
    }) s bytes c room is
