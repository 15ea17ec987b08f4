-- What stands on a shelf when one stream is put, changed or taken out.
use Rattle.std.proofs.Common.{◌≡◌, ◌≢◌, ℕ, ◌<◌, ◌≤◌, ◌^◌, Option, Some, None, refl, sym, ap, ◌∙◌, arith, ◌⊎◌, inl, inr, subst}
use Rattle.std.proofs.lemmas.Bool.{cases_eq}
use Rattle.std.specs.Prelude.{option_map}
use Rattle.adb_outside.specs.Tables.{IsRising, Puts, set_at}
use Rattle.adb_outside.proofs.TableLaws.{puts_is, same_list}
use Rattle.adb_stream.specs.Stream.{IsStreamAt}
use Rattle.adb_stream.specs.Shelf.{keys_of, slots_of, index_of, stream_of, key_if, place_of, HasStream, IsIndexed}
use Rattle.adb_stream.specs.declared.row.Stream.{Stream}
use Rattle.adb_stream.specs.declared.shelf.Shelf.{Shelf}
use Rattle.adb_stream.proofs.Shelves.{Kept, streams_of, shows, shown_rises}

-- One stream is put at a key for an id, changed there, or taken out, and nothing else changes.
pub record Change (old : Kept) : Type 0 where
  pub id : ℕ
  pub key : ℕ
  pub stream : Option Stream
  pub drawn : ℕ
  pub new : Shelf
  -- the key is the id's own, or nobody's
  pub mine : (k : ℕ) → keys_of old.shelf id ≡ Some k → k ≡ key
  pub free : (other : Stream) → slots_of old.shelf key ≡ Some other → other.id ≡ id
  pub key_here : keys_of new id ≡ option_map (λ _. key) stream
  pub key_else : (q : ℕ) → q ≢ id → keys_of new q ≡ keys_of old.shelf q
  pub slot_here : slots_of new key ≡ stream
  pub slot_else : (k : ℕ) → k ≢ key → slots_of new k ≡ slots_of old.shelf k
  pub index_here : (link : ℕ) → index_of new link id ≡ key_if link key stream
  pub index_else : (link q : ℕ) → q ≢ id → index_of new link q ≡ index_of old.shelf link q
  pub rises : IsRising new.keys.entries
  pub grows : old.drawn ≤ drawn
  pub fits : drawn < 2 ^ 32
  pub stands : (x : Stream) → stream ≡ Some x → IsStreamAt drawn id x

module _ (old : Kept) (c : Change old) where
  -- another id has another key, whose slot stays
  apart_key : (q k : ℕ) → q ≢ c.id → keys_of old.shelf q ≡ Some k → k ≢ c.key
  apart_key q k apart e same =
      let has = old.indexed.rows q k e in
      apart (sym has.here.own ∙ c.free has.stream (ap (slots_of old.shelf) (sym same) ∙ has.is))

  slot_stays : (q k : ℕ) → q ≢ c.id → keys_of old.shelf q ≡ Some k → slots_of c.new k ≡ slots_of old.shelf k
  slot_stays q k apart e = c.slot_else k (apart_key q k apart e)

  later : (q : ℕ) (x : Stream) → IsStreamAt old.drawn q x → IsStreamAt c.drawn q x
  later q x here = record { own = here.own; from = here.from; to = omega (arith, here.to, c.grows) }

  -- the id's own key is this one, and has the stream
  own_row : (o : Option Stream) → c.stream ≡ o → (k : ℕ) → option_map (λ _. c.key) o ≡ Some k → HasStream c.drawn (slots_of c.new) c.id k
  own_row None e k is = let clash : None ≡ Some k = is in cc
  own_row (Some x) e k is =
      let same : c.key ≡ k = cc in
      record { stream = x; is = ap (slots_of c.new) (sym same) ∙ (c.slot_here ∙ e); here = c.stands x e }

  rows_at : (q k : ℕ) → keys_of c.new q ≡ Some k → (q ≡ c.id) ⊎ (q ≡ c.id → ⊥) → HasStream c.drawn (slots_of c.new) q k
  rows_at q k e (inl same) =
      subst (λ (n : ℕ). HasStream c.drawn (slots_of c.new) n k) (sym same)
      (own_row c.stream refl k (sym c.key_here ∙ (ap (keys_of c.new) (sym same) ∙ e)))
  rows_at q k e (inr apart) =
      let f = sym (c.key_else q apart) ∙ e in
      let has = old.indexed.rows q k f in
      record { stream = has.stream; is = slot_stays q k apart f ∙ has.is; here = later q has.stream has.here }

  held_at : (k : ℕ) (x : Stream) → slots_of c.new k ≡ Some x → (k ≡ c.key) ⊎ (k ≡ c.key → ⊥) → keys_of c.new x.id ≡ Some k
  held_at k x e (inl same) =
      let is : c.stream ≡ Some x = sym c.slot_here ∙ (ap (slots_of c.new) (sym same) ∙ e) in
      ap (keys_of c.new) (c.stands x is).own ∙ (c.key_here ∙ (ap (option_map (λ _. c.key)) is ∙ ap (λ n. Some n) (sym same)))
  held_at k x e (inr apart) = split (cases_eq x.id c.id)
    where
      had : keys_of old.shelf x.id ≡ Some k
      had = old.indexed.held k x (sym (c.slot_else k apart) ∙ e)

      split : (x.id ≡ c.id) ⊎ (x.id ≡ c.id → ⊥) → keys_of c.new x.id ≡ Some k
      split (inl same) = absurd (apart (c.mine k (ap (keys_of old.shelf) (sym same) ∙ had)))
      split (inr other) = c.key_else x.id other ∙ had

  place_stays : (link q : ℕ) (o : Option ℕ) → q ≢ c.id → keys_of old.shelf q ≡ o
      → place_of (slots_of old.shelf) link o ≡ place_of (slots_of c.new) link o
  place_stays link q None apart e = refl
  place_stays link q (Some k) apart e = ap (key_if link k) (sym (slot_stays q k apart e))

  own_place : (link : ℕ) (o : Option Stream) → c.stream ≡ o → key_if link c.key o
      ≡ place_of (slots_of c.new) link (option_map (λ _. c.key) o)
  own_place link None e = refl
  own_place link (Some x) e = ap (key_if link c.key) (sym (c.slot_here ∙ e))

  finds_at : (link q : ℕ) → (q ≡ c.id) ⊎ (q ≡ c.id → ⊥) → index_of c.new link q ≡ place_of (slots_of c.new) link (keys_of c.new q)
  finds_at link q (inl same) =
      subst (λ (n : ℕ). index_of c.new link n ≡ place_of (slots_of c.new) link (keys_of c.new n)) (sym same)
      (c.index_here link ∙ (own_place link c.stream refl ∙ ap (place_of (slots_of c.new) link) (sym c.key_here)))
  finds_at link q (inr apart) =
      c.index_else link q apart ∙ (old.indexed.finds link q
      ∙ (place_stays link q (keys_of old.shelf q) apart refl ∙ ap (place_of (slots_of c.new) link) (sym (c.key_else q apart))))

  pub changed : Kept
  changed = record {
    drawn = c.drawn;
    shelf = c.new;
    indexed = record {
      fits = c.fits;
      rows = λ q k e. rows_at q k e (cases_eq q c.id);
      held = λ k x e. held_at k x e (cases_eq k c.key);
      finds = λ link q. finds_at link q (cases_eq q c.id);
      rises = c.rises;
    };
  }

  shown_here : (o : Option Stream) → c.stream ≡ o → stream_of (slots_of c.new) (option_map (λ _. c.key) o) ≡ o
  shown_here None e = refl
  shown_here (Some x) e = c.slot_here ∙ e

  stream_stays : (q : ℕ) (o : Option ℕ) → q ≢ c.id → keys_of old.shelf q ≡ o
      → stream_of (slots_of c.new) o ≡ stream_of (slots_of old.shelf) o
  stream_stays q None apart e = refl
  stream_stays q (Some k) apart e = slot_stays q k apart e

  change_puts : Puts c.id c.stream (streams_of old.shelf) (streams_of c.new)
  unfolding changed
  change_puts = record {
    here = shows changed c.id ∙ (ap (stream_of (slots_of c.new)) c.key_here ∙ shown_here c.stream refl);
    others = λ q apart. shows changed q ∙ (ap (stream_of (slots_of c.new)) (c.key_else q apart)
        ∙ (stream_stays q (keys_of old.shelf q) apart refl ∙ sym (shows old q)));
  }

  pub change_indexed : IsIndexed c.drawn c.new
  unfolding changed
  change_indexed = changed.indexed

  -- the streams are those of before, with this one at its id
  pub change_streams : streams_of c.new ≡ set_at c.id c.stream (streams_of old.shelf)
  unfolding changed
  change_streams = puts_is c.id c.stream (streams_of old.shelf) (streams_of c.new) (shown_rises old) (shown_rises changed) change_puts

-- Nothing changes that a shelf shows.
pub record Stays (old : Kept) (new : Shelf) : Type 0 where
  pub keys : keys_of new ≡ keys_of old.shelf
  pub slots : slots_of new ≡ slots_of old.shelf
  pub index : index_of new ≡ index_of old.shelf
  pub rises : IsRising new.keys.entries

module _ (old : Kept) (new : Shelf) (s : Stays old new) where
  pub stays_indexed : IsIndexed old.drawn new
  stays_indexed = record {
    fits = old.indexed.fits;
    rows = λ id key e.
        let has = old.indexed.rows id key (sym (ap (λ f. f id) s.keys) ∙ e) in
        record { stream = has.stream; is = ap (λ f. f key) s.slots ∙ has.is; here = has.here };
    held = λ key stream e. ap (λ f. f stream.id) s.keys ∙ old.indexed.held key stream (sym (ap (λ f. f key) s.slots) ∙ e);
    finds = λ link id. ap (λ f. f link id) s.index ∙ (old.indexed.finds link id ∙ both link id);
    rises = s.rises;
  }
    where
      both : (link id : ℕ) → place_of (slots_of old.shelf) link (keys_of old.shelf id) ≡ place_of (slots_of new) link (keys_of new id)
      both link id = λ i. place_of (sym s.slots i) link (sym s.keys i id)

  pub stays_streams : streams_of new ≡ streams_of old.shelf
  stays_streams =
      let kept : Kept = record { drawn = old.drawn; shelf = new; indexed = stays_indexed } in
      same_list (streams_of new) (streams_of old.shelf) (shown_rises kept) (shown_rises old)
      (λ id. shows kept id ∙ ((λ i. stream_of (s.slots i) (s.keys i id)) ∙ sym (shows old id)))
