-- Streams that are watched: what holds of the rows of some ids of the host, and of the files, is kept by packets that allow it.
use Rattle.std.specs.Prelude.{ℕ, ◌+◌, ◌-◌, ◌^◌, ◌≡◌, ◌≢◌, ◌==◌, ◌||◌, ◌⊎◌, ◌++◌, if◌then◌else◌, Bool, true, false, cond, List, [], ◌∷◌}
use Rattle.std.specs.Prelude.{length, map, fold}
use Rattle.std.specs.Prelude.{Option, Some, None}
use Rattle.std.proofs.Common.{refl, sym, ◌∙◌, ap, subst, inl, inr}
use Rattle.std.specs.List.Sorted.{IsStrictlySortedBy}
use Rattle.std.proofs.lemmas.Bool.{eqb-true}
use Rattle.adb_outside.specs.Tables.{at, IsRising, put_at, without}
use Rattle.adb_outside.proofs.TableLaws.{put_at_rises, without_rises}
use Rattle.adb_wire.specs.Format.{is_cnxn}
use Rattle.adb_wire.specs.declared.command.Command.{Command}
use Rattle.adb_wire.specs.declared.command.Command.TheVariants as commands
use Rattle.adb_wire.specs.declared.packets.Packet.{Packet}
use Rattle.adb_files.specs.Entries.{Entry}
use Rattle.adb_device_streams.specs.Asked.{Kind, service_of, name_of}
use Rattle.adb_device_streams.specs.Link.{credit_word_in, link_of}
use Rattle.adb_device_streams.specs.Service.{came_over, files_fed, files_opened}
use Rattle.adb_device_streams.specs.Stream.{Row, is_done, okay, opened, opening_word, row_acked, row_past, row_past_all, row_took}
use Rattle.adb_device_streams.specs.Stream.{row_written, writes}
use Rattle.adb_device_streams.specs.declared.link.Link.{Link}
use Rattle.adb_daemon.specs.Device.{Device, Setting, linked_to, served_on, step, treated}
use Rattle.adb_daemon.specs.Serving.{Ended, Serving, acked_to, closable, closed_to, credit_of, ended_at, granted, is_taken, kind_for, named}
use Rattle.adb_daemon.specs.Serving.{on_close, on_okay, on_open, on_write, open_as, owing, sent_ack, sent_writes, served, settled}
use Rattle.adb_daemon.specs.Serving.{settled_as}
use Rattle.adb_daemon.specs.Serving.{with_sum, written_to}
use Rattle.adb_daemon.specs.Streams.{over_at}
use Rattle.adb_daemon.proofs.Rules.{named_is, closable_is, or_over, all_over}
use Rattle.adb_laws_model_device.proofs.Tables.{put_found, left_found}

-- ---- rows
-- a row for the same, that took the same
pub record IsSameRow (a b : Row) : Type 0 where
  pub host : b.host ≡ a.host
  pub kind : b.kind ≡ a.kind
  pub first : b.first ≡ a.first
  pub past : b.past ≡ a.past

past_all_same : (payloads : List (List ℕ)) (row : Row) → IsSameRow row (row_past_all payloads row)
past_all_same [] row = record { host = refl; kind = refl; first = refl; past = refl }
past_all_same (payload ∷ more) row =
    let later = past_all_same more (row_past payload row) in
    record { host = later.host; kind = later.kind; first = later.first; past = later.past }

pub written_same : (most : ℕ) (row : Row) → IsSameRow row (row_written most row)
written_same most row = past_all_same (writes most row) row

pub acked_same : (word : Option ℕ) (row : Row) → IsSameRow row (row_acked word row)
acked_same word row = record { host = refl; kind = refl; first = refl; past = refl }

-- the row of both ids is its host's
pub host_of : (host : ℕ) (row : Row) (found : Option Row) → named host found ≡ Some row → row.host ≡ host
host_of host row None e = absurd (let clash : None ≡ Some row = e in cc)
host_of host row (Some other) e = by (other.host == host) refl e
  where
    by : (b : Bool) → (other.host == host) ≡ b → (if b then Some other else None) ≡ Some row → row.host ≡ host
    by true f is = (let one : other ≡ row = cc in ap (λ (r : Row). r.host) (sym one) ∙ eqb-true other.host host f)
    by false f is = absurd (let clash : None ≡ Some row = is in cc)

-- an OPEN that gets a service asks for it
pub known_by : (drawn : ℕ) (p : Packet) (kind : Kind) → kind_for drawn p ≡ Some kind → service_of (name_of p.payload) ≡ Some kind
known_by drawn p kind is = go (drawn == 2 ^ 32 - 1) is
  where
    go : (b : Bool) → (if b then None else service_of (name_of p.payload)) ≡ Some kind → service_of (name_of p.payload) ≡ Some kind
    go true e = absurd (let clash : None ≡ Some kind = e in cc)
    go false e = e

-- one more has ended
one_over : (closed : Bool) (q : ℕ) (row : Row) (ended : List Ended) (own : ℕ) (e : Ended)
    → over_at own (ended_at closed (q, row) ∷ ended) ≡ Some e
    → (row ≡ e.row) ⊎ (over_at own ended ≡ Some e)
one_over closed q row ended own e is = go (q == own) is
  where
    go : (b : Bool) → cond b (Some (ended_at closed (q, row))) (over_at own ended) ≡ Some e → (row ≡ e.row) ⊎ (over_at own ended ≡ Some e)
    go true found = inl (let one : ended_at closed (q, row) ≡ e = cc in ap (λ (x : Ended). x.row) one)
    go false found = inr found

-- ---- what is watched
-- The rows of such ids of the host stand at such ids of the device, and this holds of each, over the files; this
-- holds of the files alone; and where it says so
-- there is one of them at most, live or ended.
pub record Watch : Type 1 where
  pub Such : ℕ → Type 0
  pub Place : ℕ → Type 0
  pub Holds : List Entry → Row → Type 0
  pub OfFiles : List Entry → Type 0
  pub Single : Type 0
  pub same : (files : List Entry) (a b : Row) → IsSameRow a b → Holds files a → Holds files b
  pub one : Single → (a b : ℕ) → Place a → Place b → a ≡ b

module _ (w : Watch) where
  -- none of them has ended
  abbrev pub NoneOver : List Ended → Type 0
  NoneOver ended = (own : ℕ) (e : Ended) → over_at own ended ≡ Some e → w.Such e.row.host → ⊥

  pub record Keeps (rows : List (ℕ × Row)) (ended : List Ended) (files : List Entry) : Type 0 where
    pub rises : IsRising rows
    pub sound : w.OfFiles files
    pub live : (own : ℕ) (row : Row) → at own rows ≡ Some row → w.Such row.host → w.Place own × w.Holds files row
    pub over : (own : ℕ) (e : Ended) → over_at own ended ≡ Some e → w.Such e.row.host → w.Holds files e.row
    pub apart : w.Single → (own : ℕ) (row : Row) → at own rows ≡ Some row → w.Such row.host → NoneOver ended

  abbrev pub KeptIn : Serving → Type 0
  KeptIn s = Keeps s.rows s.ended s.files

  -- the same of all but one row
  record Others (q : ℕ) (rows : List (ℕ × Row)) (ended : List Ended) (files : List Entry) : Type 0 where
    rises : IsRising rows
    sound : w.OfFiles files
    live : (own : ℕ) (row : Row) → own ≢ q → at own rows ≡ Some row → w.Such row.host → w.Place own × w.Holds files row
    over : (own : ℕ) (e : Ended) → over_at own ended ≡ Some e → w.Such e.row.host → w.Holds files e.row
    apart : w.Single → (own : ℕ) (row : Row) → own ≢ q → at own rows ≡ Some row → w.Such row.host → NoneOver ended

  -- and of this one
  record Here (q : ℕ) (row : Row) (ended : List Ended) (files : List Entry) : Type 0 where
    live : w.Such row.host → w.Place q × w.Holds files row
    apart : w.Single → w.Such row.host → NoneOver ended

  such : (a b : Row) → a ≡ b → w.Such b.host → w.Such a.host
  such a b same is = subst w.Such (ap (λ (r : Row). r.host) (sym same)) is

  module _ (q : ℕ) (row : Row) (rows : List (ℕ × Row)) (ended : List Ended) (files : List Entry) (o : Others q rows ended files)
      (h : Here q row ended files) where
    -- it lives
    put : Keeps (put_at q row rows) ended files
    put = record {
      rises = put_at_rises q row rows o.rises;
      sound = o.sound;
      live = λ own x is so. elim (put_found q row rows own x is) [
        | inl mine ↦
            let holds = h.live (such row x mine.1 so) in
            (subst w.Place (sym mine.0) holds.0, subst (w.Holds files) mine.1 holds.1)
        | inr there ↦ o.live own x there.0 there.1 so
      ];
      over = o.over;
      apart = λ single own x is so. elim (put_found q row rows own x is) [
        | inl mine ↦ h.apart single (such row x mine.1 so)
        | inr there ↦ o.apart single own x there.0 there.1 so
      ];
    }

    -- it has ended
    taken : (closed : Bool) → Keeps (without q rows) (ended_at closed (q, row) ∷ ended) files
    taken closed = record {
      rises = without_rises q rows o.rises;
      sound = o.sound;
      live = λ own x is so. let there = left_found q rows o.rises own x is in o.live own x there.0 there.1 so;
      over = λ own e is so. elim (one_over closed q row ended own e is) [
        | inl mine ↦ subst (w.Holds files) mine (h.live (such row e.row mine so)).1
        | inr there ↦ o.over own e there so
      ];
      apart = λ single own x is so other e found too.
          let there = left_found q rows o.rises own x is in
          elim (one_over closed q row ended other e found) [
            | inl mine ↦ there.0 (w.one single own q (o.live own x there.0 there.1 so).0 (h.live (such row e.row mine too)).0)
            | inr older ↦ o.apart single own x there.0 there.1 so other e older too
          ];
    }

  -- a row for the same
  same_here : (q : ℕ) (a b : Row) (ended : List Ended) (files : List Entry) → IsSameRow a b → Here q a ended files → Here q b ended files
  same_here q a b ended files same h = record {
    live = λ so. let holds = h.live (subst w.Such same.host so) in (holds.0, w.same files a b same holds.1);
    apart = λ single so. h.apart single (subst w.Such same.host so);
  }

  settles : (link : Link) (q : ℕ) (row : Row) (s : Serving) → Others q s.rows s.ended s.files
      → Here q row s.ended s.files → KeptIn (settled link q row s)
  settles link q row s o h = go (is_done (row_written link.most row))
    where
      go : (b : Bool) → KeptIn (settled_as b link q (row_written link.most row) (owing (sent_writes link q row) s))
      go false = put q (row_written link.most row) s.rows s.ended s.files o (same_here q row (row_written link.most row) s.ended s.files
          (written_same link.most row) h)
      go true = taken q (row_written link.most row) s.rows s.ended s.files o (same_here q row (row_written link.most row) s.ended s.files
          (written_same link.most row) h) true

  -- all that is kept is kept but for one row, and of a row that stands there
  but : (q : ℕ) (s : Serving) → KeptIn s → Others q s.rows s.ended s.files
  but q s k = record {
    rises = k.rises;
    sound = k.sound;
    live = λ own row other is so. k.live own row is so;
    over = k.over;
    apart = λ single own row other is so. k.apart single own row is so;
  }

  stands : (q : ℕ) (row : Row) (s : Serving) → KeptIn s → at q s.rows ≡ Some row → Here q row s.ended s.files
  stands q row s k is = record { live = λ so. k.live q row is so; apart = λ single so. k.apart single q row is so }

  -- ---- what a packet may do
  -- of what stood over the files before
  abbrev Stays : List Entry → List Entry → Type 0
  Stays old new = (row : Row) → w.Holds old row → w.Holds new row

  -- no such row is there
  pub record HasNone (s : Serving) : Type 0 where
    pub live : (own : ℕ) (row : Row) → at own s.rows ≡ Some row → w.Such row.host → ⊥
    pub over : NoneOver s.ended

  -- An OPEN of a kind: the files and what holds over them go on, and this holds of its row.
  pub record Opens (kind : Kind) (p : Packet) (s : Serving) : Type 0 where
    pub files : w.OfFiles (files_opened kind s.files)
    pub stays : Stays s.files (files_opened kind s.files) ⊎ HasNone s
    pub fresh : w.Such p.arg0 → NoneOver s.ended ⊎ (w.Single → ⊥)
    pub place : w.Such p.arg0 → w.Place (s.drawn + 1)
    pub row : w.Such p.arg0 → w.Holds (files_opened kind s.files) (opened p.arg0 kind s.files None)

  -- A write to a row: the files and what holds over them go on, or it is the only one; and this holds of the row then.
  pub record Writes (row : Row) (p : Packet) (s : Serving) : Type 0 where
    pub files : w.OfFiles (files_fed row.kind row.past (came_over p.payload s.files))
    pub stays : Stays s.files (files_fed row.kind row.past (came_over p.payload s.files)) ⊎ (w.Single × w.Such row.host)
    pub took : w.Such row.host → w.Holds s.files row
        → w.Holds (files_fed row.kind row.past (came_over p.payload s.files)) (row_took (came_over p.payload s.files) row)

  abbrev pub Allows : Command → Packet → Serving → Type 0
  Allows commands.Open p s = (kind : Kind) → service_of (name_of p.payload) ≡ Some kind → Opens kind p s
  Allows commands.Wrte p s = (row : Row) → at p.arg1 s.rows ≡ Some row → row.host ≡ p.arg0 → Writes row p s
  Allows _ p s = Unit {0}

  -- ---- each packet
  module _ (link : Link) (p : Packet) (s : Serving) (k : KeptIn s) where
    open_keeps : Allows commands.Open p s → KeptIn (on_open link p s)
    open_keeps allows = go (p.arg0 == 0 || is_taken p.arg0 s.rows)
      where
        some : (kind : Kind) → Opens kind p s → KeptIn (open_as link p (Some kind) s)
        some kind o = settles link (s.drawn + 1) row begun others here
          where
            row : Row
            row = opened p.arg0 kind s.files (credit_of link p)

            begun : Serving
            begun =
                record (granted (s.drawn + 1) (credit_of link p)
                (owing (with_sum link.sums (okay (s.drawn + 1) p.arg0 (opening_word (credit_of link p))) ∷ []) s)) {
                  drawn = s.drawn + 1;
                  files = files_opened kind s.files;
                }

            others : Others (s.drawn + 1) s.rows s.ended (files_opened kind s.files)
            others = by o.stays
              where
                by : Stays s.files (files_opened kind s.files) ⊎ HasNone s → Others (s.drawn + 1) s.rows s.ended (files_opened kind s.files)
                by (inl stays) = record {
                  rises = k.rises;
                  sound = o.files;
                  live = λ own x other is so. let holds = k.live own x is so in (holds.0, stays x holds.1);
                  over = λ own e is so. stays e.row (k.over own e is so);
                  apart = λ single own x other is so. k.apart single own x is so;
                }
                by (inr none) = record {
                  rises = k.rises;
                  sound = o.files;
                  live = λ own x other is so. absurd (none.live own x is so);
                  over = λ own e is so. absurd (none.over own e is so);
                  apart = λ single own x other is so. absurd (none.live own x is so);
                }

            here : Here (s.drawn + 1) (opened p.arg0 kind s.files (credit_of link p)) s.ended (files_opened kind s.files)
            here = record {
              live = λ so. (
                o.place so,
                w.same (files_opened kind s.files) (opened p.arg0 kind s.files None) (opened p.arg0 kind s.files (credit_of link p))
                    (record { host = refl; kind = refl; first = refl; past = refl }) (o.row so),
              );
              apart = λ single so. elim (o.fresh so) [ inl none ↦ none | inr many ↦ absurd (many single) ];
            }

        by : (kind : Option Kind) → kind_for s.drawn p ≡ kind → KeptIn (open_as link p kind s)
        by None is = k
        by (Some kind) is = some kind (allows kind (known_by s.drawn p kind is))

        go : (b : Bool) → KeptIn (if b then s else open_as link p (kind_for s.drawn p) s)
        go true = k
        go false = by (kind_for s.drawn p) refl

    write_keeps : Allows commands.Wrte p s → KeptIn (on_write link p s)
    write_keeps allows = go (named p.arg0 (at p.arg1 s.rows)) refl
      where
        took : (row : Row) → at p.arg1 s.rows ≡ Some row → Writes row p s → KeptIn (written_to link p (Some row) s)
        took row is x =
            settles link p.arg1 (row_took (came_over p.payload s.files) row)
            (record (owing (sent_ack link p.arg1 row.host row.flow (length p.payload)) s) {
              files = files_fed row.kind row.past (came_over p.payload s.files);
            })
            (others x.stays)
            (record {
              live = λ so. let holds = k.live p.arg1 row is so in (holds.0, x.took so holds.1);
              apart = λ single so. k.apart single p.arg1 row is so;
            })
          where
            others : Stays s.files (files_fed row.kind row.past (came_over p.payload s.files)) ⊎ (w.Single × w.Such row.host)
                → Others p.arg1 s.rows s.ended (files_fed row.kind row.past (came_over p.payload s.files))
            others (inl stays) = record {
              rises = k.rises;
              sound = x.files;
              live = λ own y other there so. let holds = k.live own y there so in (holds.0, stays y holds.1);
              over = λ own e there so. stays e.row (k.over own e there so);
              apart = λ single own y other there so. k.apart single own y there so;
            }
            others (inr only) = record {
              rises = k.rises;
              sound = x.files;
              live = λ own y other there so.
                  absurd (other (w.one only.0 own p.arg1 (k.live own y there so).0 (k.live p.arg1 row is only.1).0));
              over = λ own e there so. absurd (k.apart only.0 p.arg1 row is only.1 own e there so);
              apart = λ single own y other there so. k.apart single own y there so;
            }

        go : (found : Option Row) → named p.arg0 (at p.arg1 s.rows) ≡ found → KeptIn (written_to link p found s)
        go None is = k
        go (Some row) is =
            let there = named_is p.arg0 (at p.arg1 s.rows) row is in
            took row there (allows row there (host_of p.arg0 row (at p.arg1 s.rows) is))

    okay_keeps : KeptIn (on_okay link p s)
    okay_keeps = go (named p.arg0 (at p.arg1 s.rows)) refl
      where
        go : (found : Option Row) → named p.arg0 (at p.arg1 s.rows) ≡ found → KeptIn (acked_to link p found s)
        go None is = k
        go (Some row) is =
            settles link p.arg1 (row_acked (credit_word_in p.payload) row) (granted p.arg1 (credit_word_in p.payload) s) (but p.arg1 s k)
            (same_here p.arg1 row (row_acked (credit_word_in p.payload) row) s.ended s.files (acked_same (credit_word_in p.payload) row)
            (stands p.arg1 row s k (named_is p.arg0 (at p.arg1 s.rows) row is)))

    close_keeps : KeptIn (on_close p s)
    close_keeps = go (closable p.arg0 (at p.arg1 s.rows)) refl
      where
        go : (found : Option Row) → closable p.arg0 (at p.arg1 s.rows) ≡ found → KeptIn (closed_to p.arg1 found s)
        go None is = k
        go (Some row) is =
            taken p.arg1 row s.rows s.ended s.files (but p.arg1 s k)
            (stands p.arg1 row s k (closable_is p.arg0 (at p.arg1 s.rows) row is)) false

    served_keeps : (command : Command) → Allows command p s → KeptIn (served command link p s)
    served_keeps commands.Open allows = open_keeps allows
    served_keeps commands.Wrte allows = write_keeps allows
    served_keeps commands.Okay allows = okay_keeps
    served_keeps commands.Clse allows = close_keeps
    served_keeps _ allows = k

  -- all streams end
  all_keep : (s : Serving) → KeptIn s → Keeps [] (map (ended_at false) s.rows ++ s.ended) s.files
  unfolding IsStrictlySortedBy
  all_keep s k = record {
    rises = tt;
    sound = k.sound;
    live = λ own row is so. absurd (let clash : None ≡ Some row = is in cc);
    over = λ own e is so. go own e (at own s.rows) refl (sym (all_over own s.rows s.ended) ∙ is) so;
    apart = λ single own row is so. absurd (let clash : None ≡ Some row = is in cc);
  }
    where
      go : (own : ℕ) (e : Ended) (found : Option Row) → at own s.rows ≡ found
          → or_over own found (over_at own s.ended) ≡ Some e → w.Such e.row.host
          → w.Holds s.files e.row
      go own e None there is so = k.over own e is so
      go own e (Some row) there is so =
          let one : ended_at false (own, row) ≡ e = cc in
          let mine : row ≡ e.row = ap (λ (x : Ended). x.row) one in
          subst (w.Holds s.files) mine (k.live own row there (such row e.row mine so)).1

  -- one packet, and all
  module _ (setting : Setting) where
    pub step_keeps : (d : Device) (p : Packet) → Allows p.command p d.serving → KeptIn d.serving → KeptIn (step setting d p).serving
    unfolding step
    step_keeps d p allows k = refused d.refused
      where
        linked : (o : Option Link) → KeptIn (linked_to o d).serving
        linked None = k
        linked (Some link) = all_keep d.serving k

        on : (o : Option Link) → KeptIn (served_on o p d).serving
        on None = k
        on (Some link) = served_keeps link p d.serving k p.command allows

        treats : (b : Bool) → KeptIn (cond b (linked_to (link_of setting.most setting.credit p) d) (served_on d.link p d)).serving
        treats true = linked (link_of setting.most setting.credit p)
        treats false = on d.link

        refused : (b : Bool) → KeptIn (cond b d (treated setting p d)).serving
        refused true = k
        refused false = treats (is_cnxn p.command)

    -- what all packets allow, wherever it is kept so far
    abbrev pub AllAllow : List Packet → Type 0
    AllAllow [] = Unit {0}
    AllAllow (p ∷ ps) = ((s : Serving) → KeptIn s → Allows p.command p s) × AllAllow ps

    pub all_kept : (ps : List Packet) (d : Device) → AllAllow ps → KeptIn d.serving → KeptIn (fold (step setting) d ps).serving
    all_kept [] d allow k = k
    all_kept (p ∷ ps) d allow k = all_kept ps (step setting d p) allow.1 (step_keeps d p (allow.0 d.serving k) k)
