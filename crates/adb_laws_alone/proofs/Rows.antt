-- The rows of streams that run over one set of files.
use Rattle.std.specs.Prelude.{ℕ, ◌≡◌, ◌≢◌, ◌⊎◌, ◌≤◌, ◌<◌, Bool, true, false, cond, List, [], ◌∷◌, ◌++◌, map}
use Rattle.std.specs.Prelude.{Option, Some, None}
use Rattle.std.proofs.Common.{refl, sym, ◌∙◌, ap, subst, inl, inr}
use Rattle.std.specs.List.Sorted.{IsStrictlySortedBy}
use Rattle.std.proofs.lemmas.Bool.{cases_eq, eq-eqb, ne_eqb}
use Rattle.adb_outside.specs.Tables.{at, IsRising, put_at, without}
use Rattle.adb_outside.proofs.TableLaws.{put_at_rises, without_rises}
use Rattle.adb_wire.specs.declared.packets.Packet.{Packet}
use Rattle.adb_files.specs.Entries.{Entry}
use Rattle.adb_history.specs.Births.{count_from, is_open}
use Rattle.adb_device_streams.specs.Asked.{Kind}
use Rattle.adb_device_streams.specs.Service.{Came}
use Rattle.adb_device_streams.specs.Stream.{Row, is_done, row_written}
use Rattle.adb_device_streams.specs.declared.link.Link.{Link}
use Rattle.adb_daemon.specs.Serving.{Ended, Serving, ended_at}
use Rattle.adb_daemon.specs.Serving.{owing, sent_writes, settled, settled_as}
use Rattle.adb_daemon.specs.Streams.{over_at}
use Rattle.adb_daemon.proofs.Rules.{or_over, all_over}
use Rattle.adb_laws_model_device.proofs.Tables.{put_found, left_found}
use Rattle.adb_laws_alone.specs.Calls.{Call}
use Rattle.adb_laws_alone.specs.Together.{IsOpenedFor, RanThrough, RowRan}
use Rattle.adb_laws_alone.proofs.Watching.{IsSameRow, written_same}

-- one more has ended: this one, or one that had ended
pub one_over : (closed : Bool) (q : ℕ) (row : Row) (ended : List Ended) (own : ℕ) (e : Ended)
    → over_at own (ended_at closed (q, row) ∷ ended) ≡ Some e
    → ((q ≡ own) × (row ≡ e.row)) ⊎ ((q ≡ own → ⊥) × (over_at own ended ≡ Some e))
one_over closed q row ended own e is = go (cases_eq q own)
  where
    go : (q ≡ own) ⊎ (q ≡ own → ⊥) → ((q ≡ own) × (row ≡ e.row)) ⊎ ((q ≡ own → ⊥) × (over_at own ended ≡ Some e))
    go (inl same) =
        let here : Some (ended_at closed (q, row)) ≡ Some e =
        sym (ap (λ (b : Bool). cond b (Some (ended_at closed (q, row))) (over_at own ended)) (eq-eqb q own same)) ∙ is in
        let one : ended_at closed (q, row) ≡ e = cc in
        inl (same, ap (λ (x : Ended). x.row) one)
    go (inr apart) =
        inr (apart, sym (ap (λ (b : Bool). cond b (Some (ended_at closed (q, row))) (over_at own ended)) (ne_eqb q own apart)) ∙ is)

-- What is held of a row: it ran through the calls, its host's id stands for it alone, and was asked for.
pub record Holding (first : List Entry) (calls : List Call) (place : ℕ → ℕ) (drawn : ℕ) (done : List Packet) (own : ℕ)
    (row : Row) : Type 0 where
  pub ran : RowRan first calls row
  pub here : place row.host ≡ own
  pub within : own ≤ drawn
  pub asked : 1 ≤ count_from is_open row.host done
  pub known : IsOpenedFor row.host row.kind done

pub holds_same : {first : List Entry} {calls : List Call} {place : ℕ → ℕ} {drawn : ℕ} {done : List Packet} {own : ℕ}
    (a b : Row) → IsSameRow a b
    → Holding first calls place drawn done own a → Holding first calls place drawn done own b
holds_same {first} {calls} {place} {drawn} {done} {own} a b same h = record {
  ran = subst (λ (l : ℕ). RanThrough first calls l b.kind b.first b.past) (sym same.host)
      (subst (λ (k : Kind). RanThrough first calls a.host k b.first b.past) (sym same.kind)
      (subst (λ (x : List Entry). RanThrough first calls a.host a.kind x b.past) (sym same.first)
      (subst (λ (past : List Came). RanThrough first calls a.host a.kind a.first past) (sym same.past) h.ran)));
  here = ap place same.host ∙ h.here;
  within = h.within;
  asked = subst (λ (l : ℕ). 1 ≤ count_from is_open l done) (sym same.host) h.asked;
  known = subst (λ (l : ℕ). IsOpenedFor l b.kind done) (sym same.host)
      (subst (λ (k : Kind). IsOpenedFor a.host k done) (sym same.kind) h.known);
}

module _ (d : ℕ) (first : List Entry) (calls : List Call) (place : ℕ → ℕ) (drawn : ℕ) (done : List Packet) where
  abbrev pub Held : ℕ → Row → Type 0
  Held own row = Holding first calls place drawn done own row

  -- no such stream of this id has ended
  abbrev pub NoneOver : ℕ → List Ended → Type 0
  NoneOver own ended = (e : Ended) → over_at own ended ≡ Some e → d < e.row.host → ⊥

  pub record Keeps (rows : List (ℕ × Row)) (ended : List Ended) : Type 0 where
    pub rises : IsRising rows
    pub live : (own : ℕ) (row : Row) → at own rows ≡ Some row → d < row.host → Held own row
    pub over : (own : ℕ) (e : Ended) → over_at own ended ≡ Some e → d < e.row.host → Held own e.row
    pub apart : (own : ℕ) (row : Row) → at own rows ≡ Some row → d < row.host → NoneOver own ended

  -- the same of all but one row, and of this one
  pub record Others (q : ℕ) (rows : List (ℕ × Row)) (ended : List Ended) : Type 0 where
    pub rises : IsRising rows
    pub live : (own : ℕ) (row : Row) → own ≢ q → at own rows ≡ Some row → d < row.host → Held own row
    pub over : (own : ℕ) (e : Ended) → over_at own ended ≡ Some e → d < e.row.host → Held own e.row
    pub apart : (own : ℕ) (row : Row) → own ≢ q → at own rows ≡ Some row → d < row.host → NoneOver own ended

  pub record Here (q : ℕ) (row : Row) (ended : List Ended) : Type 0 where
    pub live : d < row.host → Held q row
    pub apart : d < row.host → NoneOver q ended

  late : (a b : Row) → a ≡ b → d < b.host → d < a.host
  late a b same past = subst (λ (n : ℕ). d < n) (ap (λ (r : Row). r.host) (sym same)) past

  module _ (q : ℕ) (row : Row) (rows : List (ℕ × Row)) (ended : List Ended) (o : Others q rows ended) (h : Here q row ended) where
    -- it lives
    put : Keeps (put_at q row rows) ended
    put = record {
      rises = put_at_rises q row rows o.rises;
      live = λ own x is past. elim (put_found q row rows own x is) [
        | inl mine ↦ subst (λ (n : ℕ). Held n x) (sym mine.0) (subst (Held q) mine.1 (h.live (late row x mine.1 past)))
        | inr there ↦ o.live own x there.0 there.1 past
      ];
      over = o.over;
      apart = λ own x is past. elim (put_found q row rows own x is) [
        | inl mine ↦ subst (λ (n : ℕ). NoneOver n ended) (sym mine.0) (h.apart (late row x mine.1 past))
        | inr there ↦ o.apart own x there.0 there.1 past
      ];
    }

    -- it has ended
    pub taken : (closed : Bool) → Keeps (without q rows) (ended_at closed (q, row) ∷ ended)
    taken closed = record {
      rises = without_rises q rows o.rises;
      live = λ own x is past. let there = left_found q rows o.rises own x is in o.live own x there.0 there.1 past;
      over = λ own e is past. elim (one_over closed q row ended own e is) [
        | inl mine ↦ subst (λ (n : ℕ). Held n e.row) mine.0 (subst (Held q) mine.1 (h.live (late row e.row mine.1 past)))
        | inr there ↦ o.over own e there.1 past
      ];
      apart = λ own x is past e found too.
          let there = left_found q rows o.rises own x is in
          elim (one_over closed q row ended own e found) [
            | inl mine ↦ there.0 (sym mine.0)
            | inr older ↦ o.apart own x there.0 there.1 past e older.1 too
          ];
    }

  pub same_here : (q : ℕ) (a b : Row) (ended : List Ended) → IsSameRow a b → Here q a ended → Here q b ended
  same_here q a b ended same h = record {
    live = λ past. holds_same a b same (h.live (subst (λ (n : ℕ). d < n) same.host past));
    apart = λ past. h.apart (subst (λ (n : ℕ). d < n) same.host past);
  }

  pub settles : (link : Link) (q : ℕ) (row : Row) (s : Serving) → Others q s.rows s.ended → Here q row s.ended
      → Keeps (settled link q row s).rows (settled link q row s).ended
  settles link q row s o h = go (is_done (row_written link.most row))
    where
      last : Here q (row_written link.most row) s.ended
      last = same_here q row (row_written link.most row) s.ended (written_same link.most row) h

      go : (b : Bool) → Keeps (settled_as b link q (row_written link.most row) (owing (sent_writes link q row) s)).rows
          (settled_as b link q (row_written link.most row) (owing (sent_writes link q row) s)).ended
      go false = put q (row_written link.most row) s.rows s.ended o last
      go true = taken q (row_written link.most row) s.rows s.ended o last true

  pub but : (q : ℕ) (rows : List (ℕ × Row)) (ended : List Ended) → Keeps rows ended → Others q rows ended
  but q rows ended k = record {
    rises = k.rises;
    live = λ own row other is past. k.live own row is past;
    over = k.over;
    apart = λ own row other is past. k.apart own row is past;
  }

  pub stands : (q : ℕ) (row : Row) (rows : List (ℕ × Row)) (ended : List Ended) → Keeps rows ended → at q rows ≡ Some row → Here q row ended
  stands q row rows ended k is = record { live = λ past. k.live q row is past; apart = λ past. k.apart q row is past }

  -- all streams end
  pub all_keep : (rows : List (ℕ × Row)) (ended : List Ended) → Keeps rows ended → Keeps [] (map (ended_at false) rows ++ ended)
  unfolding IsStrictlySortedBy
  all_keep rows ended k = record {
    rises = tt;
    live = λ own row is past. absurd (let clash : None ≡ Some row = is in cc);
    over = λ own e is past. go own e (at own rows) refl (sym (all_over own rows ended) ∙ is) past;
    apart = λ own row is past. absurd (let clash : None ≡ Some row = is in cc);
  }
    where
      go : (own : ℕ) (e : Ended) (found : Option Row) → at own rows ≡ found
          → or_over own found (over_at own ended) ≡ Some e → d < e.row.host
          → Held own e.row
      go own e None there is past = k.over own e is past
      go own e (Some row) there is past =
          let one : ended_at false (own, row) ≡ e = cc in
          let mine : row ≡ e.row = ap (λ (x : Ended). x.row) one in
          subst (Held own) mine (k.live own row there (late row e.row mine past))
