-- The table of live streams, as streams come, change and go.
use Rattle.std.specs.Prelude.{ℕ, ◌≡◌, List, [], Option, Some, None}
use Rattle.std.proofs.Common.{sym, ◌∙◌, ap, subst, ◌⊎◌, inl, inr}
use Rattle.std.proofs.lemmas.Bool.{cases_eq}
use Rattle.std.specs.List.Sorted.{IsStrictlySortedBy}
use Rattle.adb_outside.specs.Tables.{at, put_at, without, Puts}
use Rattle.adb_outside.proofs.TableLaws.{puts_put_at, puts_without, put_at_rises, without_rises}
use Rattle.adb_device_streams.specs.Stream.{Row, StandsFor}
use Rattle.adb_device_streams.specs.declared.stream.Stream.{Stream}
use Rattle.adb_daemon.specs.Held.{StandsAt, IsOfHost, IsTable}

pub none_some : {X : Type 0} (x : X) → None ≡ Some x → ⊥
none_some x e = cc

-- the row that a number has is one of that host's id
of_host : (host : ℕ) (row : Row) (found : Option Row) → IsOfHost host found → found ≡ Some row → row.host ≡ host
of_host host row None there is = absurd there
of_host host row (Some other) there is = let same : other ≡ row = cc in ap (λ (r : Row). r.host) (sym same) ∙ there

-- a row that is there
is_there : (host : ℕ) (found : Option Row) (row : Row) → found ≡ Some row → row.host ≡ host → IsOfHost host found
is_there host found row is same = subst (IsOfHost host) (sym is) same

module _ (rows : List (ℕ × Row)) (streams : List (ℕ × Stream)) (hosts : List (ℕ × ℕ)) (t : IsTable rows streams hosts) where
  -- a stream changes, and keeps its ids
  pub table_changes : (own : ℕ) (old new : Row) (stream : Stream) (streams' : List (ℕ × Stream))
      → at own rows ≡ Some old → new.host ≡ old.host
      → StandsFor new stream → Puts own (Some stream) streams streams' → IsTable (put_at own new rows) streams' hosts
  table_changes own old new stream streams' is same stands puts = record {
    rises = put_at_rises own new rows t.rises;
    stands = λ q. stood q (cases_eq q own);
    index = λ host q there. indexes host q there (cases_eq q own);
    indexed = λ q row there. indexed q row there (cases_eq q own);
  }
    where
      row_puts : Puts own (Some new) rows (put_at own new rows)
      row_puts = puts_put_at own new rows

      stood : (q : ℕ) → (q ≡ own) ⊎ (q ≡ own → ⊥) → StandsAt (at q (put_at own new rows)) (at q streams')
      stood q (inl here) =
          subst (λ (k : ℕ). StandsAt (at k (put_at own new rows)) (at k streams')) (sym here)
          (subst (λ (r : Option Row). StandsAt r (at own streams')) (sym row_puts.here)
          (subst (StandsAt (Some new)) (sym puts.here) stands))
      stood q (inr apart) =
          subst (λ (r : Option Row). StandsAt r (at q streams')) (sym (row_puts.others q apart))
          (subst (StandsAt (at q rows)) (sym (puts.others q apart)) (t.stands q))

      indexes : (host q : ℕ) → at host hosts ≡ Some q → (q ≡ own) ⊎ (q ≡ own → ⊥) → IsOfHost host (at q (put_at own new rows))
      indexes host q there (inl here) =
          let found : at q (put_at own new rows) ≡ Some new = ap (λ (k : ℕ). at k (put_at own new rows)) here ∙ row_puts.here in
          let was : at q rows ≡ Some old = ap (λ (k : ℕ). at k rows) here ∙ is in
          is_there host (at q (put_at own new rows)) new found (same ∙ of_host host old (at q rows) (t.index host q there) was)
      indexes host q there (inr apart) = subst (IsOfHost host) (sym (row_puts.others q apart)) (t.index host q there)

      indexed : (q : ℕ) (row : Row) → at q (put_at own new rows) ≡ Some row → (q ≡ own) ⊎ (q ≡ own → ⊥) → at row.host hosts ≡ Some q
      indexed q row there (inl here) =
          let found : Some new ≡ Some row = sym row_puts.here ∙ (ap (λ (k : ℕ). at k (put_at own new rows)) (sym here) ∙ there) in
          let one : new ≡ row = cc in
          ap (λ (k : ℕ). at k hosts) (ap (λ (r : Row). r.host) (sym one) ∙ same)
          ∙ (t.indexed own old is ∙ ap (λ (k : ℕ). Some k) (sym here))
      indexed q row there (inr apart) = t.indexed q row (sym (row_puts.others q apart) ∙ there)

  -- a stream goes
  pub table_loses : (own : ℕ) (row : Row) (streams' : List (ℕ × Stream)) (hosts' : List (ℕ × ℕ)) → at own rows ≡ Some row
      → Puts own None streams streams' → Puts row.host None hosts hosts' → IsTable (without own rows) streams' hosts'
  table_loses own row streams' hosts' is puts host_puts = record {
    rises = without_rises own rows t.rises;
    stands = λ q. stood q (cases_eq q own);
    index = λ host q there. indexes host q there (cases_eq host row.host) (cases_eq q own);
    indexed = λ q other there. indexed q other there (cases_eq q own) (cases_eq other.host row.host);
  }
    where
      row_puts : Puts own None rows (without own rows)
      row_puts = puts_without own rows t.rises

      stood : (q : ℕ) → (q ≡ own) ⊎ (q ≡ own → ⊥) → StandsAt (at q (without own rows)) (at q streams')
      stood q (inl here) =
          subst (λ (k : ℕ). StandsAt (at k (without own rows)) (at k streams')) (sym here)
          (subst (λ (r : Option Row). StandsAt r (at own streams')) (sym row_puts.here) (subst (StandsAt None) (sym puts.here) tt))
      stood q (inr apart) =
          subst (λ (r : Option Row). StandsAt r (at q streams')) (sym (row_puts.others q apart))
          (subst (StandsAt (at q rows)) (sym (puts.others q apart)) (t.stands q))

      indexes : (host q : ℕ) → at host hosts' ≡ Some q → (host ≡ row.host) ⊎ (host ≡ row.host → ⊥) → (q ≡ own) ⊎ (q ≡ own → ⊥)
          → IsOfHost host (at q (without own rows))
      indexes host q there (inl here) other =
          absurd (none_some q (sym host_puts.here ∙ (ap (λ (k : ℕ). at k hosts') (sym here) ∙ there)))
      indexes host q there (inr apart) (inl same) =
          let was : at q rows ≡ Some row = ap (λ (k : ℕ). at k rows) same ∙ is in
          absurd (apart (sym (of_host host row (at q rows) (t.index host q (sym (host_puts.others host apart) ∙ there)) was)))
      indexes host q there (inr apart) (inr other) =
          subst (IsOfHost host) (sym (row_puts.others q other)) (t.index host q (sym (host_puts.others host apart) ∙ there))

      indexed : (q : ℕ) (other : Row) → at q (without own rows) ≡ Some other → (q ≡ own) ⊎ (q ≡ own → ⊥)
          → (other.host ≡ row.host) ⊎ (other.host ≡ row.host → ⊥) → at other.host hosts' ≡ Some q
      indexed q other there (inl here) host =
          absurd (none_some other (sym row_puts.here ∙ (ap (λ (k : ℕ). at k (without own rows)) (sym here) ∙ there)))
      indexed q other there (inr apart) (inl same) =
          let was : at q rows ≡ Some other = sym (row_puts.others q apart) ∙ there in
          let twice : Some q ≡ Some own = sym (t.indexed q other was) ∙ (ap (λ (k : ℕ). at k hosts) same ∙ t.indexed own row is) in
          let one : q ≡ own = cc in
          absurd (apart one)
      indexed q other there (inr apart) (inr others) =
          host_puts.others other.host others ∙ t.indexed q other (sym (row_puts.others q apart) ∙ there)

  -- a stream comes, under two new ids
  pub table_gains : (own : ℕ) (row : Row) (stream : Stream) (streams' : List (ℕ × Stream)) (hosts' : List (ℕ × ℕ)) → at own rows ≡ None
      → at row.host hosts ≡ None → StandsFor row stream → Puts own (Some stream) streams streams' → Puts row.host (Some own) hosts hosts'
      → IsTable (put_at own row rows) streams' hosts'
  table_gains own row stream streams' hosts' free unknown stands puts host_puts = record {
    rises = put_at_rises own row rows t.rises;
    stands = λ q. stood q (cases_eq q own);
    index = λ host q there. indexes host q there (cases_eq host row.host) (cases_eq q own);
    indexed = λ q other there. indexed q other there (cases_eq q own) (cases_eq other.host row.host);
  }
    where
      row_puts : Puts own (Some row) rows (put_at own row rows)
      row_puts = puts_put_at own row rows

      stood : (q : ℕ) → (q ≡ own) ⊎ (q ≡ own → ⊥) → StandsAt (at q (put_at own row rows)) (at q streams')
      stood q (inl here) =
          subst (λ (k : ℕ). StandsAt (at k (put_at own row rows)) (at k streams')) (sym here)
          (subst (λ (r : Option Row). StandsAt r (at own streams')) (sym row_puts.here)
          (subst (StandsAt (Some row)) (sym puts.here) stands))
      stood q (inr apart) =
          subst (λ (r : Option Row). StandsAt r (at q streams')) (sym (row_puts.others q apart))
          (subst (StandsAt (at q rows)) (sym (puts.others q apart)) (t.stands q))

      indexes : (host q : ℕ) → at host hosts' ≡ Some q → (host ≡ row.host) ⊎ (host ≡ row.host → ⊥) → (q ≡ own) ⊎ (q ≡ own → ⊥)
          → IsOfHost host (at q (put_at own row rows))
      indexes host q there (inl here) own_is =
          let twice : Some own ≡ Some q = sym host_puts.here ∙ (ap (λ (k : ℕ). at k hosts') (sym here) ∙ there) in
          let one : own ≡ q = cc in
          is_there host (at q (put_at own row rows)) row (ap (λ (k : ℕ). at k (put_at own row rows)) (sym one) ∙ row_puts.here) (sym here)
      indexes host q there (inr apart) (inl same) =
          let was : IsOfHost host (at q rows) = t.index host q (sym (host_puts.others host apart) ∙ there) in
          absurd (subst (IsOfHost host) (ap (λ (k : ℕ). at k rows) same ∙ free) was)
      indexes host q there (inr apart) (inr other) =
          subst (IsOfHost host) (sym (row_puts.others q other)) (t.index host q (sym (host_puts.others host apart) ∙ there))

      indexed : (q : ℕ) (other : Row) → at q (put_at own row rows) ≡ Some other → (q ≡ own) ⊎ (q ≡ own → ⊥)
          → (other.host ≡ row.host) ⊎ (other.host ≡ row.host → ⊥) → at other.host hosts' ≡ Some q
      indexed q other there (inl here) host =
          let found : Some row ≡ Some other = sym row_puts.here ∙ (ap (λ (k : ℕ). at k (put_at own row rows)) (sym here) ∙ there) in
          let one : row ≡ other = cc in
          ap (λ (r : Row). at r.host hosts') (sym one) ∙ (host_puts.here ∙ ap (λ (k : ℕ). Some k) (sym here))
      indexed q other there (inr apart) (inl same) =
          let was : at q rows ≡ Some other = sym (row_puts.others q apart) ∙ there in
          absurd (none_some q (sym unknown ∙ (ap (λ (k : ℕ). at k hosts) (sym same) ∙ t.indexed q other was)))
      indexed q other there (inr apart) (inr others) =
          host_puts.others other.host others ∙ t.indexed q other (sym (row_puts.others q apart) ∙ there)

  -- an id that has no stream is none that goes
  pub table_idle : (own : ℕ) → at own rows ≡ None → IsTable (without own rows) streams hosts
  table_idle own free = record {
    rises = without_rises own rows t.rises;
    stands = λ q. subst (λ (r : Option Row). StandsAt r (at q streams)) (sym (same q)) (t.stands q);
    index = λ host q there. subst (IsOfHost host) (sym (same q)) (t.index host q there);
    indexed = λ q row there. t.indexed q row (sym (same q) ∙ there);
  }
    where
      row_puts : Puts own None rows (without own rows)
      row_puts = puts_without own rows t.rises

      go : (q : ℕ) → (q ≡ own) ⊎ (q ≡ own → ⊥) → at q (without own rows) ≡ at q rows
      go q (inl here) = ap (λ (k : ℕ). at k (without own rows)) here ∙ (row_puts.here ∙ (sym free ∙ ap (λ (k : ℕ). at k rows) (sym here)))
      go q (inr apart) = row_puts.others q apart

      same : (q : ℕ) → at q (without own rows) ≡ at q rows
      same q = go q (cases_eq q own)

-- no streams
pub table_empty : IsTable [] [] []
unfolding IsStrictlySortedBy
table_empty = record {
  rises = tt;
  stands = λ own. tt;
  index = λ host own there. absurd (none_some own there);
  indexed = λ own row there. absurd
      (none_some row there);
}
