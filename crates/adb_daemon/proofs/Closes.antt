-- What a CLSE or a further CNXN of the host leaves of what is served.
use Rattle.std.specs.Prelude.{ℕ, ◌≡◌, ◌<◌, ◌==◌, Bool, true, false, if◌then◌else◌, List, [], Option, Some, None, option_map}
use Rattle.std.proofs.Common.{refl, sym, ◌∙◌, ap, subst, ◌⊎◌, inl, inr}
use Rattle.std.proofs.lemmas.Bool.{cases_eq, eq-eqb}
use Rattle.adb_outside.specs.Tables.{at, without, Puts}
use Rattle.adb_outside.proofs.TableLaws.{puts_without}
use Rattle.adb_wire.specs.declared.packets.Packet.{Packet}
use Rattle.adb_device_streams.specs.Stream.{Row}
use Rattle.adb_device_streams.specs.declared.stream.Stream.{Stream}
use Rattle.adb_daemon.specs.Serving.{Serving, named, closable, closed_to, on_close, all_gone}
use Rattle.adb_daemon.specs.Held.{host_at, StandsAt, IsTable, View, Holds}
use Rattle.adb_daemon.proofs.Tables.{table_loses, table_empty}

-- the row of a stream that the host's CLSE names
record Closed (host arg : ℕ) (found : Option Row) : Type 0 where
  pub row : Row
  pub is : found ≡ Some row
  pub same : row.host ≡ host
  pub closes : closable arg found ≡ Some row

closed_row : (arg host : ℕ) (found : Option Row) (held : Option Stream) → StandsAt found held
    → option_map (λ (stream : Stream). stream.host) held ≡ Some host → (arg ≡ 0) ⊎ (arg ≡ host) → Closed host arg found
closed_row arg host None None stands is names = cc
closed_row arg host None (Some stream) stands is names = absurd stands
closed_row arg host (Some row) None stands is names = absurd stands
closed_row arg host (Some row) (Some stream) stands is names =
    let here : stream.host ≡ host = cc in
    let same : row.host ≡ host = sym stands.host ∙ here in
    record { row = row; is = refl; same = same; closes = go names same }
  where
    any : (t : Bool) → (if t then Some row else named arg (Some row)) ≡ Some row → (arg == 0) ≡ t → closable arg (Some row) ≡ Some row
    any t e is = ap (λ (b : Bool). if b then Some row else named arg (Some row)) is ∙ e

    by_name : row.host ≡ arg → named arg (Some row) ≡ Some row
    by_name e = ap (λ (b : Bool). if b then Some row else None) (eq-eqb row.host arg e)

    go : (arg ≡ 0) ⊎ (arg ≡ host) → row.host ≡ host → closable arg (Some row) ≡ Some row
    go (inl zeroth) e = any true refl (eq-eqb arg 0 zeroth)
    go (inr other) e = split (arg == 0) refl
      where
        split : (t : Bool) → (arg == 0) ≡ t → closable arg (Some row) ≡ Some row
        split true is = any true refl is
        split false is = any false (by_name (e ∙ sym other)) is

module _ (p : Packet) (s : Serving) (taken : List ℕ) (view : View) (h : Holds s taken view) where
  -- a stream that the CLSE names goes
  pub closes : (host : ℕ) → host_at p.arg1 view.streams ≡ Some host → (p.arg0 ≡ 0) ⊎ (p.arg0 ≡ host)
      → (n : ℕ) (streams : List (ℕ × Stream)) (hosts : List (ℕ × ℕ)) → n ≡ view.drawn
      → Puts p.arg1 None view.streams streams × Puts host None view.hosts hosts
      → Holds (on_close p s) taken (record view { drawn = n; streams = streams; hosts = hosts })
  closes host found names n streams hosts is puts =
      let c = closed_row p.arg0 host (at p.arg1 s.rows) (at p.arg1 view.streams) (h.table.stands p.arg1) found names in
      subst (λ (r : Option Row). Holds (closed_to p.arg1 r s) taken
      (record view { drawn = n; streams = streams; hosts = hosts })) (sym c.closes) (record {
        drawn = is ∙ h.drawn;
        table = table_loses s.rows view.streams view.hosts h.table p.arg1 c.row streams hosts c.is puts.0
            (subst (λ (k : ℕ). Puts k None view.hosts hosts) (sym c.same) puts.1);
        fresh = λ q above. free q above (cases_eq q p.arg1);
        files = h.files;
        due = h.due;
      })
    where
      lost : Puts p.arg1 None s.rows (without p.arg1 s.rows)
      lost = puts_without p.arg1 s.rows h.table.rises

      free : (q : ℕ) → s.drawn < q → (q ≡ p.arg1) ⊎ (q ≡ p.arg1 → ⊥) → at q (without p.arg1 s.rows) ≡ None
      free q above (inl here) = ap (λ (k : ℕ). at k (without p.arg1 s.rows)) here ∙ lost.here
      free q above (inr apart) = lost.others q apart ∙ h.fresh q above

-- all streams go
pub clears : (s : Serving) (taken : List ℕ) (view : View) → Holds s taken view
    → (n : ℕ) (streams : List (ℕ × Stream)) (hosts : List (ℕ × ℕ))
    → n ≡ view.drawn → streams ≡ [] → hosts ≡ [] → Holds (all_gone s) taken (record view { drawn = n; streams = streams; hosts = hosts })
clears s taken view h n streams hosts is none empty = record {
  drawn = is ∙ h.drawn;
  table = subst (λ (x : List (ℕ × Stream)). IsTable [] x hosts) (sym none) (subst (IsTable [] []) (sym empty) table_empty);
  fresh = λ own above. refl;
  files = h.files;
  due = h.due;
}
