-- What a shelf shows and finds.
use Rattle.std.proofs.Common.{◌≡◌, ℕ, ◌<◌, ◌≤◌, ◌^◌, Bool, true, false, cond, List, [], ◌∷◌, Option, Some, None}
use Rattle.std.proofs.Common.{refl, sym, ap, ◌∙◌, arith, subst, eqb, IsSome, length, suc}
use Rattle.std.specs.Prelude.{is_some, option_map, MatchOption, IfSome}
use Rattle.std.specs.Ordering.{nat_cmp, is_eq}
use Rattle.std.specs.List.Sorted.{IsStrictlySortedBy}
use Rattle.std.specs.Map as map
use Rattle.slab.specs.Slab.{Slab}
use Rattle.adb_outside.specs.Tables.{at, IsRising}
use Rattle.adb_stream.specs.Stream.{of_link, IsStreamAt}
use Rattle.adb_stream.specs.Streams.{IsSound, found, IsFirstOf, HasNoneOf}
use Rattle.adb_stream.specs.Shelf.{keys_of, slots_of, index_of, stream_of, shown_at, shown, table_of, key_if, place_of, HasStream}
use Rattle.adb_stream.specs.Shelf.{IsIndexed}
use Rattle.adb_stream.specs.declared.row.Stream.{Stream}
use Rattle.adb_stream.specs.declared.shelf.Shelf.{Shelf}

pub some_none : {X : Type 0} (x : X) (o : Option X) → o ≡ Some x → o ≡ None → ⊥
some_none x o e f = let clash : Some x ≡ None = sym e ∙ f in cc

-- the streams that a shelf shows
abbrev pub streams_of : Shelf → List (ℕ × Stream)
streams_of shelf = shown shelf.rows shelf.keys.entries

shown_in : (rows : Slab Stream) (id : ℕ) (entries : List (ℕ × ℕ)) → at id (shown rows entries) ≡ option_map (shown_at rows) (at id entries)
shown_in rows id [] = refl
shown_in rows id (entry ∷ entries) = go (is_eq (nat_cmp id entry.0)) (shown_in rows id entries)
  where
    go : (b : Bool) → at id (shown rows entries) ≡ option_map (shown_at rows) (at id entries)
        → cond b (Some (shown_at rows entry.1)) (at id (shown rows entries))
        ≡ option_map (shown_at rows) (cond b (Some entry.1) (at id entries))
    go true later = refl
    go false later = later

pub shown_length : (rows : Slab Stream) (entries : List (ℕ × ℕ)) → length (shown rows entries) ≡ length entries
shown_length rows [] = refl
shown_length rows (entry ∷ entries) = ap suc (shown_length rows entries)

shown_ids : (rows : Slab Stream) (entries : List (ℕ × ℕ)) → map.keys_of (shown rows entries) ≡ map.keys_of entries
shown_ids rows [] = refl
shown_ids rows (entry ∷ entries) = ap (λ (ids : List ℕ). entry.0 ∷ ids) (shown_ids rows entries)

-- a shelf whose keys, streams and index belong together, and how many ids were drawn
pub record Kept : Type 0 where
  pub drawn : ℕ
  pub shelf : Shelf
  pub indexed : IsIndexed drawn shelf

-- a key of the index, and the stream there
pub record Placed (id key : ℕ) (kept : Kept) : Type 0 where
  pub had : keys_of kept.shelf id ≡ Some key
  pub stream : Stream
  pub is : slots_of kept.shelf key ≡ Some stream
  pub here : IsStreamAt kept.drawn id stream

module _ (kept : Kept) where
  -- an id shows the stream of its key
  pub shows : (id : ℕ) → at id (streams_of kept.shelf) ≡ stream_of (slots_of kept.shelf) (keys_of kept.shelf id)
  shows id = shown_in kept.shelf.rows id kept.shelf.keys.entries ∙ go (keys_of kept.shelf id) refl
    where
      go : (o : Option ℕ) → keys_of kept.shelf id ≡ o → option_map (shown_at kept.shelf.rows) o ≡ stream_of (slots_of kept.shelf) o
      go None e = refl
      go (Some key) e = let has = kept.indexed.rows id key e in rw has.is refl

  -- the index finds the stream of a link and an id
  pub finds : (link id : ℕ) → stream_of (slots_of kept.shelf) (index_of kept.shelf link id) ≡ found link id (streams_of kept.shelf)
  finds link id =
      ap (stream_of (slots_of kept.shelf)) (kept.indexed.finds link id) ∙ (go (keys_of kept.shelf id) ∙ ap (of_link link) (sym (shows id)))
    where
      by : (key : ℕ) (o : Option Stream) → slots_of kept.shelf key ≡ o
          → stream_of (slots_of kept.shelf) (key_if link key o) ≡ of_link link o
      by key None e = refl
      by key (Some stream) e = on (eqb stream.link link)
        where
          on : (b : Bool) → stream_of (slots_of kept.shelf) (option_map (λ _. key) (cond b (Some stream) None)) ≡ cond b (Some stream) None
          on true = e
          on false = refl

      go : (o : Option ℕ) → stream_of (slots_of kept.shelf) (place_of (slots_of kept.shelf) link o)
          ≡ of_link link (stream_of (slots_of kept.shelf) o)
      go None = refl
      go (Some key) = by key (slots_of kept.shelf key) refl

  pub shown_rises : IsRising (streams_of kept.shelf)
  shown_rises = subst (IsStrictlySortedBy nat_cmp) (sym (shown_ids kept.shelf.rows kept.shelf.keys.entries)) kept.indexed.rises

  -- a stream that is shown stands under its id
  stands : (id : ℕ) (stream : Stream) → at id (streams_of kept.shelf) ≡ Some stream → IsStreamAt kept.drawn id stream
  stands id stream is = go (keys_of kept.shelf id) refl (sym (shows id) ∙ is)
    where
      go : (o : Option ℕ) → keys_of kept.shelf id ≡ o → stream_of (slots_of kept.shelf) o ≡ Some stream → IsStreamAt kept.drawn id stream
      go None e is = let clash : None ≡ Some stream = is in cc
      go (Some key) e is =
          let has = kept.indexed.rows id key e in
          let both : Some has.stream ≡ Some stream = sym has.is ∙ is in
          let same : has.stream ≡ stream = cc in
          subst (IsStreamAt kept.drawn id) same has.here

  pub sound : IsSound (table_of kept.drawn kept.shelf)
  sound = record { drawn = kept.indexed.fits; rises = shown_rises; each = stands }

  -- no stream stands above the drawn ids
  pub none_above : (id : ℕ) → kept.drawn < id → keys_of kept.shelf id ≡ None
  none_above id above = go (keys_of kept.shelf id) refl
    where
      go : (o : Option ℕ) → keys_of kept.shelf id ≡ o → o ≡ None
      go None e = refl
      go (Some key) e = let has = kept.indexed.rows id key e in absurd (omega (arith, above, has.here.to))

  -- the index has nothing at an id that was not drawn
  pub none_placed : (link id : ℕ) → kept.drawn < id → index_of kept.shelf link id ≡ None
  none_placed link id above = kept.indexed.finds link id ∙ ap (place_of (slots_of kept.shelf) link) (none_above id above)

  -- what stands at a key that the index has
  pub placed_at : (link id key : ℕ) → index_of kept.shelf link id ≡ Some key → Placed id key kept
  placed_at link id key e = go (keys_of kept.shelf id) refl (sym (kept.indexed.finds link id) ∙ e)
    where
      at_key : (k : ℕ) → keys_of kept.shelf id ≡ Some k → HasStream kept.drawn (slots_of kept.shelf) id k → k ≡ key → Placed id key kept
      at_key k f has same =
          record {
            had = f ∙ ap (λ n. Some n) same;
            stream = has.stream;
            is =
                ap (slots_of kept.shelf) (sym same) ∙ has.is;
            here = has.here;
          }

      same_key : (k : ℕ) (o : Option Stream) → key_if link k o ≡ Some key → k ≡ key
      same_key k None f = let clash : None ≡ Some key = f in cc
      same_key k (Some x) f = on (eqb x.link link) f
        where
          on : (b : Bool) → option_map (λ _. k) (cond b (Some x) None) ≡ Some key → k ≡ key
          on true g = cc
          on false g = let clash : None ≡ Some key = g in cc

      go : (o : Option ℕ) → keys_of kept.shelf id ≡ o → place_of (slots_of kept.shelf) link o ≡ Some key → Placed id key kept
      go None f g = let clash : None ≡ Some key = g in cc
      go (Some k) f g = at_key k f (kept.indexed.rows id k f) (same_key k (slots_of kept.shelf k) g)

-- The first of a link in the index is the first that is shown.
module _ (kept : Kept) (link : ℕ) where
  -- an id that the index has was drawn, and is found
  placed_some : (id : ℕ) → IsSome (index_of kept.shelf link id) → (id < 2 ^ 32) × IsSome (found link id (streams_of kept.shelf))
  placed_some id = go (index_of kept.shelf link id) refl
    where
      go : (o : Option ℕ) → index_of kept.shelf link id ≡ o → IsSome o → (id < 2 ^ 32) × IsSome (found link id (streams_of kept.shelf))
      go None e is = let clash : false ≡ true = is in cc
      go (Some key) e is =
          let p = placed_at kept link id key e in
          let there : found link id (streams_of kept.shelf) ≡ Some p.stream =
          sym (finds kept link id) ∙ (ap (stream_of (slots_of kept.shelf)) e ∙ p.is) in
          (omega (arith, p.here.to, kept.indexed.fits), ap is_some there)

  -- an id that the index has not is not found
  placed_none : (id : ℕ) → ((key : ℕ) → index_of kept.shelf link id ≡ Some key → ⊥) → found link id (streams_of kept.shelf) ≡ None
  placed_none id none = sym (finds kept link id) ∙ go (index_of kept.shelf link id) refl
    where
      go : (o : Option ℕ) → index_of kept.shelf link id ≡ o → stream_of (slots_of kept.shelf) o ≡ None
      go None e = refl
      go (Some key) e = absurd (none key e)

  pub first_found : (first : Option ℕ)
      → MatchOption first ((id : ℕ) → id < 2 ^ 32 → index_of kept.shelf link id ≡ None) (λ id. IsSome (index_of kept.shelf link id))
      → IfSome first (λ id. (q : ℕ) → q < 2 ^ 32 → IsSome (index_of kept.shelf link q) → id ≤ q)
      → MatchOption first (HasNoneOf link (streams_of kept.shelf)) (IsFirstOf link (streams_of kept.shelf))
  first_found None none least = λ id.
      placed_none id (λ key e. some_none key (index_of kept.shelf link id) e (none id (placed_some id (ap is_some e)).0))
  first_found (Some first) here least = record {
    here = (placed_some first here).1;
    least = λ id below. placed_none id (λ key e. omega (arith, below, least id (placed_some id (ap is_some e)).0 (ap is_some e)));
  }
