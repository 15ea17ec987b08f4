-- A stream settles: what is held then.
use Rattle.std.specs.Prelude.{ℕ, ◌≡◌, ◌<◌, ◌+◌, Bool, true, false, if◌then◌else◌, List, [], ◌++◌, Option, Some, None, Result, Ok, Err, IfOk}
use Rattle.std.specs.Prelude.{OnOk}
use Rattle.std.proofs.Common.{refl, sym, ◌∙◌, ap, subst, ◌⊎◌, inl, inr, arith}
use Rattle.std.proofs.lemmas.Bool.{cases_eq}
use Rattle.std.proofs.lemmas.List.{append-nil, append_assoc}
use Rattle.adb_outside.specs.Tables.{at, without, Puts}
use Rattle.adb_outside.proofs.TableLaws.{puts_put_at, puts_without}
use Rattle.adb_files.specs.Entries.{Entry}
use Rattle.adb_device_streams.specs.Stream.{Row, StandsFor, Settles, is_done, row_written, writes, writes_bytes, close_bytes, packet_bytes}
use Rattle.adb_device_streams.specs.Stream.{clse}
use Rattle.adb_device_streams.specs.declared.link.Link.{Link}
use Rattle.adb_device_streams.specs.declared.stream.Stream.{Stream}
use Rattle.adb_daemon.specs.Serving.{Serving, Sent, sent_bytes, with_sum, owing, granted, sent_writes, sent_close, settled_as, settled}
use Rattle.adb_daemon.specs.Held.{StandsAt, View, Holds, SettlesAt}
use Rattle.adb_daemon.proofs.Tables.{none_some, table_changes, table_loses, table_gains, table_idle}
use Rattle.adb_daemon.proofs.Owed.{bytes_more, bytes_one, writes_are, written_host}

-- the streams that a number has behind two changes at it
module _ {X : Type 0} (n : ℕ) (a b : Option X) where
  pub two_puts : (x y z : List (ℕ × X)) → Puts n a x y → Puts n b y z → Puts n b x z
  two_puts x y z first second = record { here = second.here; others = λ q apart. second.others q apart ∙ first.others q apart }

-- what follows from a fact of an answer, and from three
pub where_ok : {T E A P : Type 0} (result : Result T E) → OnOk result A → (A → P) → OnOk result P
where_ok (Ok x) a f = f a
where_ok (Err e) a f = tt

module _ {T E A B C P : Type 0} where
  pub at_ok : (result : Result T E) → OnOk result A → OnOk result B → OnOk result C → (A → B → C → P) → OnOk result P
  at_ok (Ok x) a b c f = f a b c
  at_ok (Err e) a b c f = tt

-- A call on the stream at an id: where it answers that the stream settled, the stream at the id has.
module _ (link : Link) (own : ℕ) (changed : Row → Row) (due : Row → List ℕ) (due' : List ℕ) where
  pub settles_at : {E : Type 0} (result : Result Bool E) (old new : List (ℕ × Stream)) (stream stream' : Stream) → at own old ≡ Some stream
      → Puts own (Some stream') old new
      → IfOk result (λ done. (row : Row) → StandsFor row stream → Settles link.sums own link.most (changed row) stream' (due row) due' done)
      → IfOk result (λ done. (row : Row) → StandsAt (Some row) (at own old) → SettlesAt link own (changed row) old new (due row) due' done)
  settles_at (Err e) old new stream stream' is puts settles = settles
  settles_at (Ok done) old new stream stream' is puts settles = λ row stands. record {
    stream = stream';
    settles = settles row (subst (StandsAt (Some row)) is stands);
    puts = puts;
  }

-- more became due, and the files changed
pub owes_more : (s : Serving) (taken : List ℕ) (view : View) (more : List Sent) (files : List Entry) → Holds s taken view
    → Holds (record (owing more s) { files = files }) taken (record view { files = files; due = view.due ++ sent_bytes more })
owes_more s taken view more files h = record {
  drawn = h.drawn;
  table = h.table;
  fresh = h.fresh;
  files = refl;
  due = sym (append_assoc taken view.due (sent_bytes more)) ∙ (ap (λ l. l ++ sent_bytes more) h.due ∙ sym (bytes_more s.made more));
}

-- as many ids were drawn
pub redrawn : (s : Serving) (taken : List ℕ) (view : View) (n : ℕ) → n ≡ view.drawn → Holds s taken view
    → Holds s taken (record view { drawn = n })
redrawn s taken view n is h = record { drawn = is ∙ h.drawn; table = h.table; fresh = h.fresh; files = h.files; due = h.due }

-- a stream took an OKAY
pub grants : (s : Serving) (taken : List ℕ) (view : View) (own : ℕ) (word : Option ℕ) → Holds s taken view
    → Holds (granted own word s) taken view
grants s taken view own word h = record { drawn = h.drawn; table = h.table; fresh = h.fresh; files = h.files; due = h.due }

-- the next id was drawn
pub draws : (s : Serving) (taken : List ℕ) (view : View) → Holds s taken view
    → Holds (record s { drawn = s.drawn + 1 }) taken (record view { drawn = view.drawn + 1 })
draws s taken view h = record {
  drawn = ap (λ n. n + 1) h.drawn;
  table = h.table;
  fresh = λ own above. h.fresh own (omega (arith, above));
  files = h.files;
  due = h.due;
}

module _ (link : Link) (own : ℕ) (row : Row) (taken due due' : List ℕ) (made : List Sent) (owes : taken ++ due ≡ sent_bytes made) where
  abbrev w : List ℕ
  w = writes_bytes link.sums own row.host (writes link.most row)

  abbrev last : Row
  last = row_written link.most row

  abbrev all : List Sent
  all = made ++ sent_writes link own row

  due_written : (close : List ℕ) → due' ≡ (due ++ w) ++ close → taken ++ due' ≡ sent_bytes all ++ close
  due_written close is =
      ap (λ l. taken ++ l) is
      ∙ (sym (append_assoc taken (due ++ w) close)
      ∙ ap (λ l. l ++ close) (sym (append_assoc taken due w)
      ∙ (ap (λ l. l ++ w) owes
      ∙ (ap (λ l. sent_bytes made ++ l) (sym (writes_are link own row))
      ∙ sym (bytes_more made (sent_writes link own row))))))

  -- what is due behind the writes of a stream that goes on, and of one that is done
  due_open : due' ≡ (due ++ w) ++ close_bytes link.sums own last → is_done last ≡ false → taken ++ due' ≡ sent_bytes all
  due_open is on =
      due_written []
      (is ∙ ap (λ (t : Bool). (due ++ w) ++ (if t then packet_bytes link.sums (clse own last.host) else [])) on)
      ∙ append-nil (sent_bytes all)

  due_done : due' ≡ (due ++ w) ++ close_bytes link.sums own last → is_done last ≡ true
      → taken ++ due' ≡ sent_bytes (all ++ sent_close true link own last.host)
  due_done is over =
      due_written (packet_bytes link.sums (clse own last.host))
      (is ∙ ap (λ (t : Bool). (due ++ w) ++ (if t then packet_bytes link.sums (clse own last.host) else [])) over)
      ∙ sym (bytes_one all (with_sum link.sums (clse own last.host)))

module _ (link : Link) (own : ℕ) (row : Row) (x : Serving) (taken : List ℕ) where
  abbrev end : Row
  end = row_written link.most row

  way : (t : Bool) → is_done end ≡ t → settled_as t link own end (owing (sent_writes link own row) x) ≡ settled link own row x
  way t is = ap (λ b. settled_as b link own end (owing (sent_writes link own row) x)) (sym is)

  module _ (view : View) (h : Holds x taken view) (due : List ℕ) where
    -- a live stream settles and goes on
    pub live_settles : (old : Row) (streams : List (ℕ × Stream)) → at own x.rows ≡ Some old → row.host ≡ old.host
        → SettlesAt link own row view.streams streams view.due due false
        → Holds (settled link own row x) taken (record view { streams = streams; due = due })
    live_settles old streams is same at_own =
        let on : is_done end ≡ false = sym at_own.settles.done_then in
        subst (λ (s : Serving). Holds s taken (record view { streams = streams; due = due })) (way false on) (record {
          drawn = h.drawn;
          table = table_changes x.rows view.streams view.hosts h.table own old end at_own.stream streams is
              (written_host link.most row ∙ same)
              at_own.settles.stands at_own.puts;
          fresh = λ q above. (puts_put_at own end x.rows).others q (apart q above) ∙ h.fresh q above;
          files = h.files;
          due = due_open link own row taken view.due due x.made h.due at_own.settles.written on;
        })
      where
        apart : (q : ℕ) → x.drawn < q → q ≡ own → ⊥
        apart q above here = none_some old (sym (h.fresh q above) ∙ (ap (λ (k : ℕ). at k x.rows) here ∙ is))

    -- a live stream settles and is done
    pub live_ends : (old : Row) (streams streams' : List (ℕ × Stream)) (hosts : List (ℕ × ℕ)) → at own x.rows ≡ Some old
        → SettlesAt link own row view.streams streams view.due due true → Puts own None streams streams'
        → Puts old.host None view.hosts hosts
        → Holds (settled link own row x) taken (record view { streams = streams'; hosts = hosts; due = due })
    live_ends old streams streams' hosts is at_own puts host_puts =
        let over : is_done end ≡ true = sym at_own.settles.done_then in
        subst (λ (s : Serving). Holds s taken (record view { streams = streams'; hosts = hosts; due = due })) (way true over) (record {
          drawn = h.drawn;
          table = table_loses x.rows view.streams view.hosts h.table own old streams' hosts is
              (two_puts own (Some at_own.stream) None view.streams streams streams' at_own.puts puts) host_puts;
          fresh = λ q above. gone q above (cases_eq q own);
          files = h.files;
          due = due_done link own row taken view.due due x.made h.due at_own.settles.written over;
        })
      where
        lost : Puts own None x.rows (without own x.rows)
        lost = puts_without own x.rows h.table.rises

        gone : (q : ℕ) → x.drawn < q → (q ≡ own) ⊎ (q ≡ own → ⊥) → at q (without own x.rows) ≡ None
        gone q above (inl here) = ap (λ (k : ℕ). at k (without own x.rows)) here ∙ lost.here
        gone q above (inr apart) = lost.others q apart ∙ h.fresh q above

    -- a new stream settles and goes on
    pub new_settles : (stream : Stream) (streams : List (ℕ × Stream)) (hosts : List (ℕ × ℕ))
        → (own ≡ x.drawn) × (at own x.rows ≡ None) × (at row.host view.hosts ≡ None)
        → Settles link.sums own link.most row stream view.due due false
        → Puts own (Some stream) view.streams streams × Puts stream.host (Some own) view.hosts hosts
        → Holds (settled link own row x) taken (record view { streams = streams; hosts = hosts; due = due })
    new_settles stream streams hosts free settles puts =
        let on : is_done end ≡ false = sym settles.done_then in
        let same : end.host ≡ row.host = written_host link.most row in
        let named : stream.host ≡ end.host = settles.stands.host in
        subst (λ (s : Serving). Holds s taken (record view { streams = streams; hosts = hosts; due = due })) (way false on) (record {
          drawn = h.drawn;
          table = table_gains x.rows view.streams view.hosts h.table own end stream streams hosts free.1
              (ap (λ (k : ℕ). at k view.hosts) same ∙ free.2) settles.stands puts.0
              (subst (λ (k : ℕ). Puts k (Some own) view.hosts hosts) named puts.1);
          fresh = λ q above. (puts_put_at own end x.rows).others q (λ here. omega (arith, above, here, free.0)) ∙ h.fresh q above;
          files = h.files;
          due = due_open link own row taken view.due due x.made h.due settles.written on;
        })

    -- a new stream settles and is done
    pub new_ends : (stream : Stream) → at own x.rows ≡ None → Settles link.sums own link.most row stream view.due due true
        → Holds (settled link own row x) taken (record view { due = due })
    new_ends stream free settles =
        let over : is_done end ≡ true = sym settles.done_then in
        subst (λ (s : Serving). Holds s taken (record view { due = due })) (way true over) (record {
          drawn = h.drawn;
          table = table_idle x.rows view.streams view.hosts h.table own free;
          fresh = λ q above. gone q above (cases_eq q own);
          files = h.files;
          due = due_done link own row taken view.due due x.made h.due settles.written over;
        })
      where
        lost : Puts own None x.rows (without own x.rows)
        lost = puts_without own x.rows h.table.rises

        gone : (q : ℕ) → x.drawn < q → (q ≡ own) ⊎ (q ≡ own → ⊥) → at q (without own x.rows) ≡ None
        gone q above (inl here) = ap (λ (k : ℕ). at k (without own x.rows)) here ∙ lost.here
        gone q above (inr apart) = lost.others q apart ∙ h.fresh q above
