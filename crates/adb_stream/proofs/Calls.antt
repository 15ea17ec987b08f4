-- What stands on a shelf after each of its calls.
use Rattle.std.proofs.Common.{◌≡◌, ◌≢◌, ℕ, ◌+◌, ◌<◌, ◌^◌, Bool, true, false, cond, List, [], Option, Some, None}
use Rattle.std.proofs.Common.{refl, sym, ap, ◌∙◌, arith, ◌⊎◌, inl, inr, subst, eqb}
use Rattle.std.proofs.lemmas.Bool.{cases_eq, ne_eqb, eq-eqb}
use Rattle.std.specs.Prelude.{is_some, option_map, slice_index_or}
use Rattle.std.specs.BTreeMap.{is_at}
use Rattle.std.specs.Map.{lookup}
use Rattle.slab.specs.Slab.{with_value, Updates}
use Rattle.slab.proofs.SlabLemmas.{Updates-with_value}
use Rattle.adb_outside.specs.Tables.{at, IsRising, Rows, put_row, put_at, without}
use Rattle.adb_outside.proofs.TableLaws.{puts_is}
use Rattle.adb_stream.specs.Stream.{with_part, IsStreamAt}
use Rattle.adb_stream.specs.Streams.{StreamTable, found, put_part_at, with_part_in}
use Rattle.adb_stream.specs.Shelf.{keys_of, slots_of, index_of, stream_of, place_cmp, put_place, put_part, with_part_at, emptied, displaced}
use Rattle.adb_stream.specs.Shelf.{table_of, key_if, place_of, HasStream, IsIndexed}
use Rattle.adb_stream.specs.declared.row.Stream.{Stream}
use Rattle.adb_stream.specs.declared.row.Part.{Part}
use Rattle.adb_stream.specs.declared.shelf.Shelf.{Shelf}
use Rattle.adb_stream.proofs.Places.{place_here, place_apart}
use Rattle.adb_stream.proofs.Shelves.{Kept, Placed, streams_of, some_none, shows, finds, shown_rises, none_above, none_placed, placed_at}
use Rattle.adb_stream.proofs.Changes.{Change, change_indexed, change_streams, Stays, stays_indexed, stays_streams}

put_here : {X : Type 0} (n : ℕ) (x : X) (f : Rows X) → put_row n x f n ≡ x
put_here n x f = rw (eq-eqb n n refl) refl

put_else : {X : Type 0} (n : ℕ) (x : X) (f : Rows X) (k : ℕ) → k ≢ n → put_row n x f k ≡ f k
put_else n x f k apart = rw (ne_eqb n k (λ same. apart (sym same))) refl

place_here_is : (link id : ℕ) (key : Option ℕ) (index : ℕ → Rows (Option ℕ)) (t : ℕ)
    → put_place link id key index t id ≡ cond (eqb link t) key (index t id)
place_here_is link id key index t = ap (λ b. cond b key (index t id)) (place_here link id t)

place_else_is : (link id : ℕ) (key : Option ℕ) (index : ℕ → Rows (Option ℕ)) (t q : ℕ) → q ≢ id
    → put_place link id key index t q ≡ index t q
place_else_is link id key index t q apart = ap (λ b. cond b key (index t q)) (place_apart link id t q (λ same. apart (sym same)))

-- A new stream was put at a vacant key.
pub record Adds (old : Kept) (new : Shelf) : Type 0 where
  pub key : ℕ
  pub stream : Stream
  pub next : stream.id ≡ old.drawn + 1
  pub fits : stream.id < 2 ^ 32
  pub vacant : slots_of old.shelf key ≡ None
  pub keys : keys_of new ≡ put_row stream.id (Some key) (keys_of old.shelf)
  pub slots : slots_of new ≡ put_row key (Some stream) (slots_of old.shelf)
  pub index : index_of new ≡ put_place stream.link stream.id (Some key) (index_of old.shelf)
  pub rises : IsRising new.keys.entries

module _ (old : Kept) (new : Shelf) (a : Adds old new) where
  add_change : Change old
  add_change = record {
    id = a.stream.id;
    key = a.key;
    stream = Some a.stream;
    drawn = a.stream.id;
    new = new;
    mine = λ k e. absurd (some_none k (keys_of old.shelf a.stream.id) e (none_above old a.stream.id above));
    free = λ other e. absurd (some_none other (slots_of old.shelf a.key) e a.vacant);
    key_here = ap (λ f. f a.stream.id) a.keys ∙ put_here a.stream.id (Some a.key) (keys_of old.shelf);
    key_else = λ q apart. ap (λ f. f q) a.keys ∙ put_else a.stream.id (Some a.key) (keys_of old.shelf) q apart;
    slot_here = ap (λ f. f a.key) a.slots ∙ put_here a.key (Some a.stream) (slots_of old.shelf);
    slot_else = λ k apart. ap (λ f. f k) a.slots ∙ put_else a.key (Some a.stream) (slots_of old.shelf) k apart;
    index_here = λ link. ap (λ f. f link a.stream.id) a.index
        ∙ (place_here_is a.stream.link a.stream.id (Some a.key) (index_of old.shelf) link
        ∙ (ap (cond (eqb a.stream.link link) (Some a.key)) (none_placed old link a.stream.id above) ∙ on (eqb a.stream.link link)));
    index_else = λ link q apart. ap (λ f. f link q) a.index ∙ place_else_is a.stream.link a.stream.id (Some a.key)
        (index_of old.shelf) link q apart;
    rises = a.rises;
    grows = omega (arith, above);
    fits = a.fits;
    stands = λ x e. let same : a.stream ≡ x = cc in subst (IsStreamAt a.stream.id a.stream.id) same here;
  }
    where
      above : old.drawn < a.stream.id
      above = omega (arith, a.next)

      here : IsStreamAt a.stream.id a.stream.id a.stream
      here = record { own = refl; from = omega (arith, above); to = omega arith }

      on : (b : Bool) → cond b (Some a.key) None ≡ option_map (λ _. a.key) (cond b (Some a.stream) None)
      on true = refl
      on false = refl

  pub added_indexed : IsIndexed a.stream.id new
  unfolding add_change
  added_indexed = change_indexed old add_change

  pub added_streams : streams_of new ≡ put_at a.stream.id a.stream (streams_of old.shelf)
  unfolding add_change
  added_streams = change_streams old add_change

-- The stream of an id was taken out, if there was one.
pub record Removes (id : ℕ) (stream : Option Stream) (old : Kept) (new : Shelf) : Type 0 where
  pub was : stream ≡ stream_of (slots_of old.shelf) (keys_of old.shelf id)
  pub keys : keys_of new ≡ put_row id None (keys_of old.shelf)
  pub slots : slots_of new ≡ emptied (keys_of old.shelf id) (slots_of old.shelf)
  pub index : index_of new ≡ displaced stream id (index_of old.shelf)
  pub rises : IsRising new.keys.entries

-- what stands then
pub record Removed (id : ℕ) (stream : Option Stream) (old : Kept) (new : Shelf) : Type 0 where
  pub was : stream ≡ at id (streams_of old.shelf)
  pub indexed : IsIndexed old.drawn new
  pub streams : streams_of new ≡ without id (streams_of old.shelf)

module _ (id : ℕ) (stream : Option Stream) (old : Kept) (new : Shelf) (r : Removes id stream old new) where
  -- there was one
  removed_one : (key : ℕ) → keys_of old.shelf id ≡ Some key → Removed id stream old new
  removed_one key e = record { was = r.was ∙ sym (shows old id); indexed = change_indexed old change; streams = change_streams old change }
    where
      has : HasStream old.drawn (slots_of old.shelf) id key
      has = old.indexed.rows id key e

      slots : slots_of new ≡ put_row key None (slots_of old.shelf)
      slots = r.slots ∙ ap (λ o. emptied o (slots_of old.shelf)) e

      index : index_of new ≡ put_place has.stream.link id None (index_of old.shelf)
      index = r.index ∙ ap (λ o. displaced o id (index_of old.shelf)) (r.was ∙ (ap (stream_of (slots_of old.shelf)) e ∙ has.is))

      placed : (link : ℕ) → index_of old.shelf link id ≡ option_map (λ _. key) (cond (eqb has.stream.link link) (Some has.stream) None)
      placed link = old.indexed.finds link id ∙ (ap (place_of (slots_of old.shelf) link) e ∙ ap (key_if link key) has.is)

      on : (b : Bool) → cond b None (option_map (λ _. key) (cond b (Some has.stream) None)) ≡ None
      on true = refl
      on false = refl

      only : (other : Stream) → slots_of old.shelf key ≡ Some other → other.id ≡ id
      only other f =
          let both : Some has.stream ≡ Some other = sym has.is ∙ f in
          let same : has.stream ≡ other = cc in
          subst (λ (x : Stream). x.id ≡ id) same has.here.own

      change : Change old
      change = record {
        id = id;
        key = key;
        stream = None;
        drawn = old.drawn;
        new = new;
        mine = λ k f. let same : Some k ≡ Some key = sym f ∙ e in cc;
        free = only;
        key_here = ap (λ f. f id) r.keys ∙ put_here id None (keys_of old.shelf);
        key_else = λ q apart. ap (λ f. f q) r.keys ∙ put_else id None (keys_of old.shelf) q apart;
        slot_here = ap (λ f. f key) slots ∙ put_here key None (slots_of old.shelf);
        slot_else = λ k apart. ap (λ f. f k) slots ∙ put_else key None (slots_of old.shelf) k apart;
        index_here = λ link. ap (λ f. f link id) index
            ∙ (place_here_is has.stream.link id None (index_of old.shelf) link
            ∙ (ap (cond (eqb has.stream.link link) None) (placed link) ∙ on (eqb has.stream.link link)));
        index_else = λ link q apart. ap (λ f. f link q) index ∙ place_else_is has.stream.link id None (index_of old.shelf) link q apart;
        rises = r.rises;
        grows = omega arith;
        fits = old.indexed.fits;
        stands = λ x f. let clash : None ≡ Some x = f in cc;
      }

  -- there was none
  removed_none : keys_of old.shelf id ≡ None → Removed id stream old new
  removed_none e = record {
    was = r.was ∙ sym (shows old id);
    indexed = stays_indexed old new stays;
    streams = stays_streams old new stays ∙ puts_is id None (streams_of old.shelf) (streams_of old.shelf)
        (shown_rises old) (shown_rises old)
        (record { here = shows old id ∙ ap (stream_of (slots_of old.shelf)) e; others = λ q apart. refl });
  }
    where
      same_key : (q : ℕ) → (q ≡ id) ⊎ (q ≡ id → ⊥) → put_row id None (keys_of old.shelf) q ≡ keys_of old.shelf q
      same_key q (inl same) =
          ap (put_row id None (keys_of old.shelf)) same ∙ (put_here id None (keys_of old.shelf) ∙ sym (ap (keys_of old.shelf) same ∙ e))
      same_key q (inr apart) = put_else id None (keys_of old.shelf) q apart

      stays : Stays old new
      stays = record {
        keys = r.keys ∙ (λ i q. same_key q (cases_eq q id) i);
        slots = r.slots ∙ ap (λ o. emptied o (slots_of old.shelf)) e;
        index = r.index ∙ ap (λ o. displaced o id (index_of old.shelf)) (r.was ∙ ap (stream_of (slots_of old.shelf)) e);
        rises = r.rises;
      }

  pub removed : Removed id stream old new
  removed = go (keys_of old.shelf id) refl
    where
      go : (o : Option ℕ) → keys_of old.shelf id ≡ o → Removed id stream old new
      go None e = removed_none e
      go (Some key) e = removed_one key e

-- what stands when another part of a stream was written
pub record Lent (id : ℕ) (stream : Option Stream) (part : Part) (old : Kept) (new : Shelf) : Type 0 where
  pub indexed : IsIndexed old.drawn new
  pub streams : streams_of new ≡ put_part_at id part stream (streams_of old.shelf)

-- Another part of the stream of a link and an id was written.
module _ (link id : ℕ) (part : Part) (old : Kept) where
  lent_none : index_of old.shelf link id ≡ None → Lent id (found link id (streams_of old.shelf)) part old old.shelf
  lent_none e =
      let none : found link id (streams_of old.shelf) ≡ None = sym (finds old link id) ∙ ap (stream_of (slots_of old.shelf)) e in
      record { indexed = old.indexed; streams = sym (ap (λ o. put_part_at id part o (streams_of old.shelf)) none) }

  lent_at : (key : ℕ) → index_of old.shelf link id ≡ Some key → Placed id key old
      → Lent id (found link id (streams_of old.shelf)) part old (with_part_at old.shelf (Some key) part)
  lent_at key e p = record {
    indexed = subst (IsIndexed old.drawn) (sym is) (change_indexed old change);
    streams = ap streams_of is ∙ (change_streams old change ∙ sym (ap (λ o. put_part_at id part o (streams_of old.shelf)) some));
  }
    where
      new : Shelf
      new = record old.shelf { rows = with_value old.shelf.rows key (with_part part p.stream) }

      is : with_part_at old.shelf (Some key) part ≡ new
      is = ap (λ o. record old.shelf { rows = put_part old.shelf.rows key o part }) p.is

      some : found link id (streams_of old.shelf) ≡ Some p.stream
      some = sym (finds old link id) ∙ (ap (stream_of (slots_of old.shelf)) e ∙ p.is)

      updates : Updates old.shelf.rows (with_value old.shelf.rows key (with_part part p.stream)) key (Some (with_part part p.stream))
      updates = Updates-with_value old.shelf.rows key (with_part part p.stream) (ap is_some p.is)

      on : (b : Bool) → option_map (λ _. key) (cond b (Some p.stream) None)
          ≡ option_map (λ _. key) (cond b (Some (with_part part p.stream)) None)
      on true = refl
      on false = refl

      only : (other : Stream) → slots_of old.shelf key ≡ Some other → other.id ≡ id
      only other f =
          let both : Some p.stream ≡ Some other = sym p.is ∙ f in
          let same : p.stream ≡ other = cc in
          subst (λ (x : Stream). x.id ≡ id) same p.here.own

      change : Change old
      change = record {
        id = id;
        key = key;
        stream = Some (with_part part p.stream);
        drawn = old.drawn;
        new = new;
        mine = λ k f. let same : Some k ≡ Some key = sym f ∙ p.had in cc;
        free = only;
        key_here = p.had;
        key_else = λ q apart. refl;
        slot_here = updates.changed;
        slot_else = updates.others;
        index_here = λ t. old.indexed.finds t id
            ∙ (ap (place_of (slots_of old.shelf) t) p.had ∙ (ap (key_if t key) p.is ∙ on (eqb p.stream.link t)));
        index_else = λ t q apart. refl;
        rises = old.indexed.rises;
        grows = omega arith;
        fits = old.indexed.fits;
        stands = λ x f. let same : with_part part p.stream ≡ x = cc in
            subst (IsStreamAt old.drawn id) same (record { own = p.here.own; from = p.here.from; to = p.here.to });
      }

  pub lent : Lent id (found link id (streams_of old.shelf)) part old (with_part_at old.shelf (index_of old.shelf link id) part)
  lent = go (index_of old.shelf link id) refl
    where
      go : (o : Option ℕ) → index_of old.shelf link id ≡ o → Lent id (found link id (streams_of old.shelf)) part old
          (with_part_at old.shelf o part)
      go None e = lent_none e
      go (Some key) e = lent_at key e (placed_at old link id key e)

-- the table after each write of a part
pub lent_table : (link id : ℕ) (old : Kept) (table : StreamTable) → table_of old.drawn old.shelf ≡ table
    → (λ (part : Part). table_of old.drawn (with_part_at old.shelf (index_of old.shelf link id) part)) ≡ with_part_in link id table
lent_table link id old table is =
    (λ i part. record { drawn = old.drawn; streams = (lent link id part old).streams i }) ∙ ap (with_part_in link id) is

-- Nothing stands on a shelf that was cleared.
pub record IsCleared (shelf : Shelf) : Type 0 where
  pub keys : shelf.keys.entries ≡ []
  pub slots : shelf.rows.slots ≡ []
  pub index : shelf.index.entries ≡ []
  pub rises : IsRising shelf.keys.entries

module _ (drawn : ℕ) (shelf : Shelf) (fits : drawn < 2 ^ 32) (c : IsCleared shelf) where
  no_key : (id : ℕ) → keys_of shelf id ≡ None
  no_key id = ap (at id) c.keys

  no_slot : (key : ℕ) → slots_of shelf key ≡ None
  no_slot key = ap (λ (slots : List (Option Stream)). slice_index_or slots key None) c.slots

  no_place : (link id : ℕ) → index_of shelf link id ≡ None
  no_place link id = ap (lookup (is_at (place_cmp (link, id)))) c.index

  pub cleared_indexed : IsIndexed drawn shelf
  cleared_indexed = record {
    fits = fits;
    rows = λ id key is. absurd (some_none key (keys_of shelf id) is (no_key id));
    held = λ key stream is. absurd (some_none stream (slots_of shelf key) is (no_slot key));
    finds = λ link id. no_place link id ∙ ap (place_of (slots_of shelf) link) (sym (no_key id));
    rises = c.rises;
  }
