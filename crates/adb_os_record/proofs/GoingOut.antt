-- The bytes that are written of those that were taken.
use Rattle.std.proofs.Common.{ℕ, ◌≡◌, Bool, true, false, List, [], ◌∷◌, ◌++◌, take, drop, ◌&&◌, not, Option, Some, None, inl, inr, arith}
use Rattle.std.proofs.Common.{sym, refl, ap, subst, ◌∙◌}
use Rattle.std.proofs.lemmas.List.{append_assoc, append-nil, flat_map_more, take-append-drop}
use Rattle.std.proofs.lemmas.Grind.{flat_map-append}
use Rattle.adb_outside.specs.Outside.{Rises}
use Rattle.adb_capture.specs.declared.entry.Entry.{Entry}
use Rattle.adb_recorder.specs.Recording.{HasWritten, SinkRecording, captured}
use Rattle.adb_os_record.specs.Written.{GoesOut, PipeSinkView, Settles, joined}
use Rattle.adb_os_record.specs.Live.{IsPut, Keeps, ServesCapture, live_faults}

pub nothing_more : (xs : List ℕ) → xs ++ [] ≡ xs
nothing_more xs = append-nil xs

pub put_more : (chunks : List (List ℕ)) (chunk : List ℕ) → joined chunks ++ chunk ≡ joined (chunks ++ chunk ∷ [])
put_more chunks chunk = flat_map_more (λ c. c) [] chunks chunk

-- a chunk was taken and appended to a batch
pub gathered : (taken : List (List ℕ)) (chunk before batch : List ℕ) → joined taken ≡ before ++ batch
    → joined (taken ++ chunk ∷ []) ≡ before ++ (batch ++ chunk)
gathered taken chunk before batch is = sym (put_more taken chunk) ∙ ap (λ t. t ++ chunk) is ∙ append_assoc before batch chunk

-- a chunk was taken and follows the batch
pub set_aside : (taken : List (List ℕ)) (chunk before batch : List ℕ) → joined taken ≡ before ++ batch
    → joined (taken ++ chunk ∷ []) ≡ (before ++ batch) ++ chunk
set_aside taken chunk before batch is = sym (put_more taken chunk) ∙ ap (λ t. t ++ chunk) is

-- nothing was taken
pub begins : (had : List ℕ) (first : ℕ) (written : Option (List ℕ)) → written ≡ Some had → GoesOut had first false written first []
begins had first written is = record {
  growth = [];
  is = is ∙ ap Some (sym (append-nil had));
  front = ([], refl);
  whole = λ none. refl;
  rose = λ torn. absurd cc;
  stands = λ none. refl;
}

-- one more piece of the text was written
pub one_whole : (had : List ℕ) (first : ℕ) (old new : Option (List ℕ)) (before after : ℕ) (text chunk : List ℕ)
    → GoesOut had first false old before text → ((out : List ℕ) → old ≡ Some out → new ≡ Some (out ++ chunk)) → after ≡ before
    → GoesOut had first false new after (text ++ chunk)
one_whole had first old new before after text chunk k writes stands =
    let is = ap (λ g. g ++ chunk) (k.whole refl) in record {
      growth = k.growth ++ chunk;
      is = writes (had ++ k.growth) k.is ∙ ap Some (append_assoc had k.growth chunk);
      front = ([], append-nil (k.growth ++ chunk) ∙ is);
      whole = λ none. is;
      rose = λ torn. absurd cc;
      stands = λ none. stands ∙ k.stands refl;
    }

-- a prefix of it was written
pub one_torn : (had : List ℕ) (first : ℕ) (old new : Option (List ℕ)) (before after : ℕ) (text chunk : List ℕ) (n : ℕ)
    → GoesOut had first false old before text → ((out : List ℕ) → old ≡ Some out → new ≡ Some (out ++ take n chunk)) → Rises before after
    → GoesOut had first true new after (text ++ chunk)
one_torn had first old new before after text chunk n k writes rises = record {
  growth = k.growth ++ take n chunk;
  is = writes (had ++ k.growth) k.is ∙ ap Some (append_assoc had k.growth (take n chunk));
  front = (
    drop n chunk,
    append_assoc k.growth (take n chunk) (drop n chunk) ∙ (λ i. k.whole refl i ++ take-append-drop n chunk i),
  );
  whole = λ none. absurd cc;
  rose = λ torn. subst (λ (m : ℕ). Rises m after) (k.stands refl) rises;
  stands = λ none. absurd cc;
}

-- none of it was written
pub one_dropped : (had : List ℕ) (first : ℕ) (written : Option (List ℕ)) (count : ℕ) (text chunk : List ℕ)
    → GoesOut had first true written count text → GoesOut had first true written count (text ++ chunk)
one_dropped had first written count text chunk k = record {
  growth = k.growth;
  is = k.is;
  front = (k.front.0 ++ chunk, sym (append_assoc k.growth k.front.0 chunk) ∙ ap (λ r. r ++ chunk) k.front.1);
  whole = λ none. absurd cc;
  rose = k.rose;
  stands = λ none. absurd cc;
}

all_of : (ended torn : Bool) → (ended && not torn) ≡ true → (ended ≡ true) × (torn ≡ false)
all_of true false is = (refl, refl)
all_of true true is = absurd cc
all_of false torn is = absurd cc

-- of the chunks that were put
pub settles : (had : List ℕ) (written : Option (List ℕ)) (first count : ℕ) (ended torn input_ended : Bool) (put taken : List (List ℕ))
    → GoesOut had first torn written count (joined taken) → ((left : List (List ℕ)) × (put ≡ taken ++ left))
    → (ended ≡ true → input_ended ≡ true)
    → (input_ended ≡ true → put ≡ taken) → Settles had written (ended && not torn) (joined put)
settles had written first count ended torn input_ended put taken out (left, front) is_ended whole = record {
  growth = out.growth;
  is = out.is;
  front = (
    out.front.0 ++ joined left,
    sym (append_assoc out.growth out.front.0 (joined left)) ∙ ap (λ r. r ++ joined left) out.front.1
        ∙ sym (flat_map-append (λ c. c) taken left) ∙ ap joined (sym front),
  );
  all = λ is. let both = all_of ended torn is in out.whole both.1 ∙ ap joined (sym (whole (is_ended both.0)));
}

-- the bytes that a recorder put into a pipe that was empty at first
pub is_put : (s : SinkRecording PipeSinkView) (kept : List Entry) → s.first.put ≡ []
    → HasWritten (λ (sink : PipeSinkView). Some (joined sink.put)) s kept → IsPut s.faults kept (joined s.sink.put)
is_put s kept fresh has = elim (has [] (ap (λ p. Some (joined p)) fresh)) [
  | inl whole ↦
      let is : joined s.sink.put ≡ captured s.opened kept = (let e = whole.is in cc) in
      inl (record { sound = whole.sound; opened = s.opened; first = whole.first; is = is })
  | inr torn ↦
      let is : joined s.sink.put ≡ captured torn.opened kept ++ torn.part = (let e = torn.is in cc) in
      inr (record {
        failed = torn.failed;
        opened = torn.opened;
        first = torn.first;
        entry = torn.entry;
        part = torn.part;
        is = is;
        front = torn.front;
      })
]

pub put_at_end : (r : Option (SinkRecording PipeSinkView)) (s : SinkRecording PipeSinkView) (text : List ℕ) (kept : List Entry) → r ≡ Some s
    → text ≡ joined s.sink.put → Keeps r kept → IsPut (live_faults r) kept text
put_at_end None s text kept is same keeps = absurd cc
put_at_end (Some t) s text kept is same keeps =
    let t_is : t ≡ s = cc in
    let text_is : joined t.sink.put ≡ text = ap (λ (r : SinkRecording PipeSinkView). joined r.sink.put) t_is ∙ sym same in
    subst (IsPut t.faults kept) text_is (is_put t kept keeps.0 keeps.1)

-- the bytes that went through the pipe are of the capture that was put
pub serves_capture : (had : List ℕ) (written : Option (List ℕ)) (whole : Bool) (text : List ℕ) (faults : ℕ) (kept : List Entry)
    → Settles had written whole text → IsPut faults kept text → ServesCapture had written whole faults kept
serves_capture had written whole text faults kept out (inl all) = record {
  growth = out.growth;
  is = out.is;
  opened = all.opened;
  first = all.first;
  part = [];
  torn = inl refl;
  front = (out.front.0, out.front.1 ∙ all.is ∙ sym (append-nil (captured all.opened kept)));
  all = λ went sound. out.all went ∙ all.is;
}
serves_capture had written whole text faults kept out (inr cut) = record {
  growth = out.growth;
  is = out.is;
  opened = cut.opened;
  first = cut.first;
  part = cut.part;
  torn = inr (cut.entry, cut.front);
  front = (out.front.0, out.front.1 ∙ cut.is);
  all = λ went sound. absurd (let failed = cut.failed in omega (arith, failed, sound));
}
