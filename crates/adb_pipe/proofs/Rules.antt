-- The steps of a pipe keep its rule, and consequences of the rule.
use Rattle.std.proofs.Common.{◌≡◌, ℕ, zero, suc, Bool, true, false, List, [], ◌∷◌, ◌++◌, sym, refl, ap, subst, ◌∙◌, append_assoc, map}
use Rattle.std.proofs.lemmas.List.{append-nil}
use mathlib.Core.Option.{some-ne-none}
use Rattle.crossbeam_channel.specs.Fifo.{Pops, Merges, Learns}
use Rattle.adb_pipe.specs.declared.rule.Item.{Item}
use Rattle.adb_pipe.specs.declared.rule.Item.TheVariants.{Chunk, End}
use Rattle.adb_pipe.specs.declared.rule.Passed.{Passed}
use Rattle.adb_pipe.specs.declared.rule.View.{View}
use Rattle.adb_pipe.specs.declared.rule.View.TheVariants.{Uncut, Putter, Taker, Both, Spent}
use Rattle.adb_pipe.specs.Rule.{items_of, IsInOrder, AreInOrder, IsOpen, compared, with_item, moved, chunks_in}

-- these chunks, and whether the end mark followed them
abbrev passing : List (List ℕ) → Bool → Passed
passing chunks ended = record { chunks = chunks; ended = ended }

chunk_more : (chunks : List (List ℕ)) (bytes : List ℕ) → map Chunk (chunks ++ bytes ∷ []) ≡ map Chunk chunks ++ Chunk bytes ∷ []
chunk_more [] bytes = refl
chunk_more (c ∷ chunks) bytes = ap (λ l. Chunk c ∷ l) (chunk_more chunks bytes)

-- one more item, after items without an end mark
item_more : (p : Passed) (item : Item) → p.ended ≡ false → items_of (with_item p item) ≡ items_of p ++ item ∷ []
item_more p (Chunk bytes) e =
    let grown = append-nil (map Chunk (p.chunks ++ bytes ∷ [])) ∙ chunk_more p.chunks bytes in
    rw e (grown ∙ ap (λ l. l ++ Chunk bytes ∷ []) (sym (append-nil (map Chunk p.chunks))))
item_more p End e = rw e (ap (λ l. l ++ End ∷ []) (sym (append-nil (map Chunk p.chunks))))

-- nothing follows the end mark
nothing_behind : (put : List (List ℕ)) (put_end : Bool) (taken : List (List ℕ)) (items : List Item)
    → items_of (passing put put_end) ≡ items_of (passing taken true) ++ items → (put ≡ taken) × (put_end ≡ true) × (items ≡ [])
nothing_behind [] true [] [] e = (refl, refl, refl)
nothing_behind [] true [] (x ∷ items) e = cc
nothing_behind [] false [] items e = cc
nothing_behind [] true (t ∷ taken) items e = cc
nothing_behind [] false (t ∷ taken) items e = cc
nothing_behind (p ∷ put) put_end [] items e = cc
nothing_behind (p ∷ put) put_end (t ∷ taken) items e =
    let head : p ≡ t = cc in
    let r = nothing_behind put put_end taken items cc in ((λ i. head i ∷ r.0 i), r.1, r.2)

-- items that another item follows have no end mark
not_ended : (put : Passed) (taken : List (List ℕ)) (ended : Bool) (item : Item) (items : List Item)
    → items_of put ≡ items_of (passing taken ended) ++ item ∷ items → ended ≡ false
not_ended put taken false item items e = refl
not_ended put taken true item items e =
    let none : (item ∷ items) ≡ [] = (nothing_behind put.chunks put.ended taken (item ∷ items) e).2 in cc

-- one item is taken, with no end mark before it
pub takes : (port : ℕ) (taken : Passed) → Pops IsInOrder port (Taker taken)
    (λ item w. IsOpen (Taker taken) × (w ≡ moved (Taker taken) item))
takes zero taken item items (Putter p ∷ Taker t ∷ []) order at = absurd cc
takes (suc zero) taken item items (Putter p ∷ Taker t ∷ []) order at =
    let same : t ≡ taken = cc in
    let order : items_of p ≡ items_of taken ++ item ∷ items = order ∙ ap (λ x. items_of x ++ item ∷ items) same in
    let clear = not_ended p taken.chunks taken.ended item items order in
    let cut = sym (append_assoc (items_of taken) (item ∷ []) items) in (
      Taker (with_item taken item),
      order ∙ cut ∙ ap (λ l. l ++ items) (sym (item_more taken item clear)),
      (clear, refl),
    )
takes (suc (suc port)) taken item items (Putter p ∷ Taker t ∷ []) order at = absurd (some-ne-none (Taker taken) (sym at))
takes zero taken item items (Uncut ∷ []) order at = absurd cc
takes (suc port) taken item items (Uncut ∷ []) order at = absurd (some-ne-none (Taker taken) (sym at))
takes zero taken item items (Both b ∷ Spent ∷ []) order at = absurd cc
takes (suc zero) taken item items (Both b ∷ Spent ∷ []) order at = absurd cc
takes (suc (suc port)) taken item items (Both b ∷ Spent ∷ []) order at = absurd (some-ne-none (Taker taken) (sym at))
takes port taken item items _ order at = absurd order

-- the two ends are joined
pub merges : (port other : ℕ) (put taken : Passed) → Merges IsInOrder port (Putter put) other (Taker taken)
    (compared (Putter put) (Taker taken)) Spent
merges zero zero put taken items (Putter p ∷ Taker t ∷ []) order at apart behind = absurd (apart refl)
merges zero (suc zero) put taken items (Putter p ∷ Taker t ∷ []) order at apart behind =
    let put_is : p ≡ put = cc in
    let taken_is : t ≡ taken = cc in
    sym (ap items_of put_is) ∙ order ∙ ap (λ x. items_of x ++ items) taken_is
merges zero (suc (suc other)) put taken items (Putter p ∷ Taker t ∷ []) order at apart behind =
    absurd (some-ne-none (Taker taken) (sym behind))
merges (suc zero) other put taken items (Putter p ∷ Taker t ∷ []) order at apart behind = absurd cc
merges (suc (suc port)) other put taken items (Putter p ∷ Taker t ∷ []) order at apart behind = absurd (some-ne-none (Putter put) (sym at))
merges zero other put taken items (Uncut ∷ []) order at apart behind = absurd cc
merges (suc port) other put taken items (Uncut ∷ []) order at apart behind = absurd (some-ne-none (Putter put) (sym at))
merges zero other put taken items (Both b ∷ Spent ∷ []) order at apart behind = absurd cc
merges (suc zero) other put taken items (Both b ∷ Spent ∷ []) order at apart behind = absurd cc
merges (suc (suc port)) other put taken items (Both b ∷ Spent ∷ []) order at apart behind = absurd (some-ne-none (Putter put) (sym at))
merges port other put taken items _ order at apart behind = absurd order

-- both ends together know the items that the channel holds
pub learns : (port : ℕ) (v : View) → Learns IsInOrder port v (AreInOrder v)
learns zero (Both c) items (Both b ∷ Spent ∷ []) order at =
    let is : b ≡ c = cc in subst (λ x. items_of x.put ≡ items_of x.taken ++ items) is order
learns (suc zero) (Both c) items (Both b ∷ Spent ∷ []) order at = absurd cc
learns (suc (suc port)) (Both c) items (Both b ∷ Spent ∷ []) order at = absurd (some-ne-none (Both c) (sym at))
learns zero (Both c) items (Putter p ∷ Taker t ∷ []) order at = absurd cc
learns (suc zero) (Both c) items (Putter p ∷ Taker t ∷ []) order at = absurd cc
learns (suc (suc port)) (Both c) items (Putter p ∷ Taker t ∷ []) order at = absurd (some-ne-none (Both c) (sym at))
learns zero (Both c) items (Uncut ∷ []) order at = absurd cc
learns (suc port) (Both c) items (Uncut ∷ []) order at = absurd (some-ne-none (Both c) (sym at))
learns port (Both c) items _ order at = absurd order
learns port _ items views order at = tt

pub whole : (items : List Item) (put taken : Passed) → items_of put ≡ items_of taken ++ items → taken.ended ≡ true
    → (put ≡ taken) × (items ≡ [])
whole items put taken order ended =
    let behind_mark = ap (λ b. items_of (passing taken.chunks b) ++ items) ended in
    let r = nothing_behind put.chunks put.ended taken.chunks items (order ∙ behind_mark) in
    ((λ i. passing (r.0 i) ((r.1 ∙ sym ended) i)), r.2)

-- the chunks among the items of an end, followed by other items
chunks_and : (chunks : List (List ℕ)) (ended : Bool) (items : List Item)
    → chunks_in (items_of (passing chunks ended) ++ items) ≡ chunks ++ chunks_in items
chunks_and [] false items = refl
chunks_and [] true items = refl
chunks_and (c ∷ chunks) ended items = ap (λ l. c ∷ l) (chunks_and chunks ended items)

pub held : (items : List Item) (put taken : Passed) → items_of put ≡ items_of taken ++ items → put.chunks ≡ taken.chunks ++ chunks_in items
held items put taken order =
    let all_put = sym (append-nil put.chunks) ∙ sym (chunks_and put.chunks put.ended []) in
    all_put ∙ ap chunks_in (append-nil (items_of put) ∙ order) ∙ chunks_and taken.chunks taken.ended items
