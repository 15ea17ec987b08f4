-- What each turn of what is seen of a stream keeps, each step after its birth keeps.
use Rattle.std.proofs.Common.{ℕ, ◌+◌, ◌≡◌, ◌≢◌, ◌≤◌, ◌<◌, Bool, true, false, cond, List, ◌∷◌, ◌++◌, length, drop, Option, Some, None}
use Rattle.std.proofs.Common.{is_some, refl, sym, ◌∙◌}
use Rattle.std.proofs.Common.{ap, subst}
use Rattle.std.proofs.Common.{eqb, arith, inl, inr, ◌⊎◌}
use Rattle.std.proofs.lemmas.Bool.{eqb-true, ne_eqb, eq-eqb, cases_eq}
use Rattle.std.proofs.lemmas.List.{drop-append-le}
use Rattle.std.specs.Prelude.{◌&&◌, ◌||◌, not}
use Rattle.adb_outside.specs.Tables.{at}
use Rattle.adb_outside.specs.declared.kinds.Cause.{Cause}
use Rattle.adb_wire.specs.Cutting.{cut_packets, framed}
use Rattle.adb_wire.specs.declared.packets.Packet.{Packet}
use Rattle.adb_capture.specs.declared.entry.Entry.{Entry}
use Rattle.adb_capture.specs.declared.entry.Entry.TheVariants.{Join, Enter, Read, End, Bound, Attach, Recv, Detach, Put, Send}
use Rattle.adb_history.specs.Rows.{Link, State}
use Rattle.adb_history.specs.Events.{Made, Event}
use Rattle.adb_history.specs.Packets.{receives_on}
use Rattle.adb_history.specs.Reading.{comes, plugs_in}
use Rattle.adb_history.specs.Handing.{sends}
use Rattle.adb_history.specs.Machine.{unplugs_on, rule, ups, History, state, told, May, IsLegal}
use Rattle.adb_history.specs.Bytes.{is_lost, bytes_put, bytes_received, brought}
use Rattle.adb_history.specs.Births.{Birth, since}
use Rattle.adb_history.specs.Linked.{IsLinked}
use Rattle.adb_history.specs.Tied.{came_count}
use Rattle.adb_history.specs.Moves.{After}
use Rattle.adb_history.proofs.Following.{after_quietly}
use Rattle.adb_history.proofs.Numbers.{counted}
use Rattle.adb_history.proofs.LinkMoves.{all_linked}
use Rattle.adb_history.proofs.OutputEntries.{connected_is}
use Rattle.adb_laws_fifo_down.specs.Line.{SeenStream}
use Rattle.adb_laws_fifo_down.specs.Turns.{Promise, Turns, Holds}
use Rattle.adb_laws_fifo_down.specs.Follows.{line, is_shut}
use Rattle.adb_laws_fifo_down.proofs.Others.{after_next}
use Rattle.adb_laws_fifo_down.proofs.OtherTurns.{shows_plugs_in}
use Rattle.adb_laws_fifo_down.proofs.OtherLinks.{shows_receives, shows_unplugs}
use Rattle.adb_laws_fifo_down.proofs.OwnPackets.{own_row}
use Rattle.adb_laws_fifo_down.proofs.Rules.{held_by, holds_ups, holds_cut, holds_unplugs, more_packets}
use Rattle.adb_laws_fifo_down.proofs.Brought.{brings, brings_more}
use Rattle.adb_laws_fifo_down.proofs.Entries.{read_holds, end_holds, bound_holds, put_holds, come_holds, enter_holds}

-- the bytes of another link
pub unreceived : (n t : ℕ) (bytes : List ℕ) (older : History) → n ≢ t → bytes_received t (Recv n bytes ∷ older) ≡ bytes_received t older
unreceived n t bytes older other =
    ap (λ (c : Bool). cond (c && not (is_lost t older)) (bytes_received t older ++ bytes) (bytes_received t older)) (ne_eqb n t other)

-- a stream that was born
pub record IsBornBy (l : ℕ) (b : Birth) (older : History) : Type 0 where
  pub some : 0 < l
  pub came : b.client ≤ came_count older
  pub within : b.packets_before ≤ length (brought b.link older)

module _ (l : ℕ) (b : Birth) {P : Promise} (k : Turns (line l b) P) (older : History) (legal : IsLegal older)
    (born : IsBornBy l b older) where
  abbrev s : State
  s = state older

  abbrev HoldsOf : History → State → List Event → Type 0
  HoldsOf h s w = Holds (line l b) P (since b h) (is_shut b.link h) (bytes_put b.client h) s w

  linked : IsLinked (state older)
  linked = all_linked older legal

  -- packets that the link brought more
  since_more : (h : History) (more : List Packet) → brought b.link h ≡ brought b.link older ++ more → since b h ≡ since b older ++ more
  since_more h more is = ap (drop b.packets_before) is ∙ drop-append-le b.packets_before (brought b.link older) more born.within

  module _ (h : Holds (line l b) P (since b older) (is_shut b.link older) (bytes_put b.client older) (state older) (told older)) where
    same_link : (next : History) (m : Made) → bytes_received b.link next ≡ bytes_received b.link older
        → is_lost b.link next ≡ is_lost b.link older
        → After (Holds (line l b) P (since b older) (is_shut b.link older) (bytes_put b.client older)) (told older) m
        → After (Holds (line l b) P (since b next) (is_shut b.link next) (bytes_put b.client older)) (told older) m
    same_link next m bytes lost now =
        subst (λ (x : List ℕ). After
        (Holds (line l b) P (drop b.packets_before (framed x).given)
        (is_lost b.link next || is_some (framed x).fault)
        (bytes_put b.client older)) (told older) m) (sym bytes)
        (subst (λ (c : Bool). After (Holds (line l b) P (since b older) (c || is_some (framed (bytes_received b.link older)).fault)
        (bytes_put b.client older)) (told older) m) (sym lost) now)

    -- ---- the bytes of its link
    alive_recv : (bytes : List ℕ) (link : Link) → (state older).links b.link ≡ Some link
        → After (HoldsOf (Recv b.link bytes ∷ older)) (told older) (receives_on (Some link) b.link bytes (state older))
    alive_recv bytes link is =
        let c = cut_packets (record { sums = link.sums }) (link.rest ++ bytes) in
        let by = brings b.link bytes older link legal is in
        let m : Made = receives_on (Some link) b.link bytes (state older) in
        subst (λ (ps : List Packet). After
        (Holds (line l b) P ps (is_shut b.link (Recv b.link bytes ∷ older)) (bytes_put b.client older))
        (told older) m)
        (sym (since_more (Recv b.link bytes ∷ older) c.given by.packets))
        (subst (λ (shut : Bool). After (Holds (line l b) P (since b older ++ c.given) shut (bytes_put b.client older))
        (told older) m) (sym by.shut)
        (holds_cut k (record { some = born.some; from = refl }) (since b older) (bytes_put b.client older) c
        (state older) (told older) linked
        (subst (λ (shut : Bool). Holds (line l b) P (since b older) shut (bytes_put b.client older) (state older)
        (told older)) by.before h)))

    -- a stream of a link that is gone is gone
    gone_with : (state older).links b.link ≡ None → h.seen.stream ≡ None
    gone_with none = by h.seen.stream refl
      where
        by : (o : Option SeenStream) → h.seen.stream ≡ o → h.seen.stream ≡ None
        by None e = e
        by (Some x) e =
            let row = own_row (line l b) h.seen x (state older) (told older) e h.shows in
            let on = linked.on l row.0 row.1 in
            let there : is_some ((state older).links row.0.link) ≡ true =
            linked.rows.linked row.0.link ∙ connected_is (at row.0.link (state older).devices.rows) on.connected in
            let gone : is_some ((state older).links row.0.link) ≡ false =
            ap is_some (ap (state older).links (h.shows.0.link row.0 row.1) ∙ none) in
            let clash : true ≡ false = sym there ∙ gone in
            absurd (cc)

    dead_recv : (bytes : List ℕ) → (state older).links b.link ≡ None → HoldsOf (Recv b.link bytes ∷ older) (state older) (told older)
    dead_recv bytes none = by (is_shut b.link older) refl
      where
        next : History
        next = Recv b.link bytes ∷ older

        end_of : (shut : Bool) (packets : List Packet) → P packets false (bytes_put b.client older) h.seen
            → P packets shut (bytes_put b.client older) h.seen
        end_of false packets keeps = keeps
        end_of true packets keeps = k.shuts packets false (bytes_put b.client older) h.seen keeps

        by : (shut : Bool) → is_shut b.link older ≡ shut → HoldsOf (Recv b.link bytes ∷ older) (state older) (told older)
        by true e =
            let more = (brings_more b.link bytes older).none e in record {
              seen = h.seen;
              shows = h.shows;
              keeps = subst (λ (shut : Bool). P (since b (Recv b.link bytes ∷ older)) shut (bytes_put b.client older) h.seen) (sym more.1)
                  (subst (λ (ps : List Packet). P ps true (bytes_put b.client older) h.seen) (sym (ap (drop b.packets_before) more.0))
                  (subst (λ (shut : Bool). P (since b older) shut (bytes_put b.client older) h.seen) e h.keeps));
            }
        by false e =
            let more = (brings_more b.link bytes older).some e in record {
              seen = h.seen;
              shows = h.shows;
              keeps = end_of (is_shut b.link (Recv b.link bytes ∷ older)) (since b (Recv b.link bytes ∷ older))
                  (subst (λ (ps : List Packet). P ps false (bytes_put b.client older) h.seen)
                  (sym (since_more (Recv b.link bytes ∷ older) more.0 more.1))
                  (more_packets k more.0 (since b older) (bytes_put b.client older) h.seen (gone_with none)
                  (subst (λ (shut : Bool). P (since b older) shut (bytes_put b.client older) h.seen) e h.keeps)));
            }

    own_recv : (o : Option Link) (bytes : List ℕ) → (state older).links b.link ≡ o
        → After (HoldsOf (Recv b.link bytes ∷ older)) (told older) (receives_on o b.link bytes (state older))
    own_recv None bytes is = after_quietly (HoldsOf (Recv b.link bytes ∷ older)) (told older) (state older) (dead_recv bytes is)
    own_recv (Some link) bytes is = alive_recv bytes link is

    recv_holds : (n : ℕ) (bytes : List ℕ) → After (HoldsOf (Recv n bytes ∷ older)) (told older)
        (receives_on ((state older).links n) n bytes (state older))
    recv_holds n bytes = by (cases_eq n b.link)
      where
        by : (n ≡ b.link) ⊎ (n ≢ b.link)
            → After (HoldsOf (Recv n bytes ∷ older)) (told older) (receives_on ((state older).links n) n bytes (state older))
        by (inl same) =
            subst (λ (m : ℕ). After (HoldsOf (Recv m bytes ∷ older)) (told older)
            (receives_on ((state older).links m) m bytes (state older))) (sym same)
            (own_recv ((state older).links b.link) bytes refl)
        by (inr other) =
            same_link (Recv n bytes ∷ older) (receives_on ((state older).links n) n bytes (state older))
            (unreceived n b.link bytes older other) refl
            (held_by k (since b older) (is_shut b.link older) (bytes_put b.client older) h.seen (told older) _ h.keeps
            (shows_receives (line l b) h.seen n (inl other) ((state older).links n) bytes (state older) (told older) h.shows))

    detach_holds : (n : ℕ) (cause : Cause) → After (HoldsOf (Detach n cause ∷ older)) (told older)
        (unplugs_on ((state older).links n) n (state older))
    detach_holds n cause = by (eqb n b.link) refl
      where
        by : (c : Bool) → eqb n b.link ≡ c → After (HoldsOf (Detach n cause ∷ older)) (told older)
            (unplugs_on ((state older).links n) n (state older))
        by true e =
            subst (λ (c : Bool). After
            (Holds (line l b) P (since b older)
            ((c || is_lost b.link older) || is_some (framed (bytes_received b.link older)).fault)
            (bytes_put b.client older)) (told older) (unplugs_on ((state older).links n) n (state older))) (sym e)
            (subst (λ (m : ℕ). After (Holds (line l b) P (since b older) true (bytes_put b.client older)) (told older)
            (unplugs_on ((state older).links m) m (state older))) (sym (eqb-true n b.link e))
            (holds_unplugs k (record { some = born.some; from = refl }) (since b older) (is_shut b.link older) (bytes_put b.client older)
            ((state older).links b.link) (state older) (told older) h))
        by false e =
            let other : n ≢ b.link = λ same. (let clash : true ≡ false = sym (eq-eqb n b.link same) ∙ e in cc) in
            same_link (Detach n cause ∷ older) (unplugs_on ((state older).links n) n (state older)) refl
            (ap (λ (c : Bool). c || is_lost b.link older) e)
            (held_by k (since b older) (is_shut b.link older) (bytes_put b.client older) h.seen (told older) _ h.keeps
            (shows_unplugs (line l b) h.seen n (inl other) ((state older).links n) (state older) (told older) h.shows))

    -- ---- any entry
    -- who comes is another
    comes_new : (n : ℕ) → n ≡ (state older).joined + 1 → n ≢ b.client
    comes_new n is same = omega (arith, is, same, born.came, (counted older).joined)

    rule_holds : (e : Entry) → May (state older) e → After (HoldsOf (e ∷ older)) (told older) (rule e (state older))
    rule_holds (Join c) may = after_quietly (HoldsOf (Join c ∷ older)) (told older) (comes false c (state older))
        (come_holds l b k (since b older) (is_shut b.link older) (bytes_put b.client older) (state older) (told older)
        h c (comes_new c may.1))
    rule_holds (Enter c port) may =
        enter_holds l b k (since b older) (is_shut b.link older) (bytes_put b.client older) (state older) (told older)
        h c port (comes_new c may.1)
    rule_holds (Read c bytes) may = read_holds l b k (since b older) (is_shut b.link older) (bytes_put b.client older)
        (state older) (told older) h c bytes
    rule_holds (End c cause) may =
        end_holds l b k (since b older) (is_shut b.link older) (bytes_put b.client older) (state older) (told older) h c cause linked.owned
    rule_holds (Bound c port) may = bound_holds l b k (since b older) (is_shut b.link older)
        (bytes_put b.client older) (state older) (told older) h c port
    rule_holds (Attach t kind serial) may =
        held_by k (since b older) (is_shut b.link older) (bytes_put b.client older) h.seen (told older)
        (plugs_in t kind serial (state older)) h.keeps
        (shows_plugs_in (line l b) h.seen (state older) (told older) h.shows t kind serial)
    rule_holds (Recv t bytes) may = recv_holds t bytes
    rule_holds (Detach t cause) may = detach_holds t cause
    rule_holds (Put c bytes) may =
        put_holds l b k (since b older) (is_shut b.link older) (bytes_put b.client older) (state older) (told older) h
        c bytes linked.owned may
    rule_holds (Send t bytes) may =
        after_quietly (HoldsOf (Send t bytes ∷ older)) (told older) (sends t (length bytes) (state older))
        (record { seen = h.seen; shows = h.shows; keeps = h.keeps })

    pub step_holds : (e : Entry) → May (state older) e → HoldsOf (e ∷ older) (state (e ∷ older)) (told (e ∷ older))
    step_holds e may =
        let next : History = e ∷ older in
        after_next (HoldsOf next) (HoldsOf next) (told older) (rule e (state older)) ups (rule_holds e may)
        (λ u now. holds_ups k (since b next) (is_shut b.link next) (bytes_put b.client next) (rule e (state older)).state u now)
