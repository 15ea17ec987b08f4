-- What is acknowledged was handed out: each packet of its link keeps it.
use Rattle.std.proofs.Common.{ℕ, ◌+◌, ◌-◌, ◌≡◌, ◌≤◌, zero, suc, Bool, true, false, cond, List, [], ◌∷◌, ◌++◌, length, Option, Some, None}
use Rattle.std.proofs.Common.{refl, sym, ◌∙◌, ap}
use Rattle.std.proofs.Common.{subst}
use Rattle.std.proofs.Common.{arith, inl, inr, ◌⊎◌}
use Rattle.std.specs.Prelude.{nat_lt}
use Rattle.std.proofs.lemmas.Bool.{ltb-false}
use Rattle.std.proofs.lemmas.List.{append-nil, length-append}
use Rattle.adb_outside.specs.Bytes.{IsPrefixOf}
use Rattle.adb_wire.specs.declared.packets.Packet.{Packet}
use Rattle.adb_history.specs.Links.{okay_packet}
use Rattle.adb_history.specs.Births as birth
use Rattle.adb_history.specs.Births.{opening_in, told_in, joined}
use Rattle.adb_history.specs.Fifo.{whole_within}
use Rattle.adb_laws_fifo_down.specs.Line.{SeenStream, View}
use Rattle.adb_laws_fifo_down.specs.Treated.{is_late, accepts_as, treated_as, treated_on}
use Rattle.adb_laws_fifo_down.specs.Life.{Cradle, okay_after, heard, IsWaiting, IsOpened, IsPending, LivesAs, LivesIn, Life}
use Rattle.adb_laws_fifo_down.specs.Window.{handed_past, IsBackedBy, IsBacked, waiting_write, Counts, IsFlowing, IsUnused, FlowsBy, FlowAs}
use Rattle.adb_laws_fifo_down.specs.Window.{FlowIn, Window}
use Rattle.adb_laws_fifo_down.proofs.Openings.{later_too, opening_stays, pending_now, told_append, joined_append}
use Rattle.adb_laws_fifo_down.proofs.Ups.{over_gone}
use Rattle.adb_laws_fifo_down.proofs.Lives.{any_front}
use Rattle.adb_laws_fifo_down.proofs.OpenTurns.{OpenTurn, open_turn, IsSameRow, FreshTurn, fresh_turn, first_later}
use Rattle.adb_laws_fifo_down.proofs.Backed.{all_whole, backed_told, unbacked, backed_goes}
use Rattle.adb_laws_fifo_down.proofs.Windows.{handed_count}
use Rattle.adb_laws_fifo_down.proofs.WindowTurns.{window_over}

-- ---- a write that is accepted
joined_one : (told : List (List ℕ)) (payload : List ℕ) → length (joined (told ++ payload ∷ [])) ≡ length (joined told) + length payload
joined_one told payload =
    ap length (joined_append told (payload ∷ [])) ∙ (length-append (joined told) (payload ++ [])
    ∙ ap (λ (x : List ℕ). length (joined told) + length x) (append-nil payload))

-- what a write leaves of a flow
record Accepted (k : Cradle) (told : List (List ℕ)) (x : SeenStream) (handed : ℕ) (u : View) : Type 0 where
  row : SeenStream
  stream : u.stream ≡ Some row
  orphan : row.orphan ≡ x.orphan
  credit : row.credit ≡ x.credit
  flowing : IsFlowing k row told u.okays handed
  backed : IsBackedBy k.credit told u.okays handed

module _ (l : ℕ) (k : Cradle) (told : List (List ℕ)) (x : SeenStream) (v : View) (there : v.stream ≡ Some x)
    (same : x.credit ≡ k.credit) (handed : ℕ)
    (flow : IsFlowing k x told v.okays handed) (backed : IsBackedBy k.credit told v.okays handed) where
  -- in turn, without credit, all was handed out before
  none_waits : (n : ℕ) → x.credit ≡ false → is_late x n ≡ false → x.to_hand ≡ 0
  none_waits n plain turn =
      let lt : nat_lt 0 x.to_hand ≡ false = sym (ap (λ (c : Bool). cond c (nat_lt x.left n) (nat_lt 0 x.to_hand)) plain) ∙ turn in
      let le = ltb-false 0 x.to_hand lt in
      omega (arith, le)

  accept_none : (credit : Bool) → x.credit ≡ credit → is_late x 0 ≡ false
      → Accepted k (told ++ [] ∷ []) x handed (cond credit v (record v { okays = v.okays ++ okay_packet l x.remote ∷ [] }))
  accept_none true e turn = record {
    row = x;
    stream = there;
    orphan = refl;
    credit = refl;
    flowing = record {
      left = omega (arith, flow.left, joined_one told []);
      counts = subst (λ (c : Bool). Counts c x (told ++ [] ∷ []) v.okays handed) (e_is e)
          (subst (λ (c : Bool). Counts c x told v.okays handed)
          (sym (e_is e)) flow.counts);
    };
    backed = backed_told k.credit told ([] ∷ []) v.okays handed backed;
  }
    where
      e_is : x.credit ≡ true → true ≡ k.credit
      e_is e = sym e ∙ same
  accept_none false e turn = record {
    row = x;
    stream = there;
    orphan = refl;
    credit = refl;
    flowing = record {
      left = omega (arith, flow.left, joined_one told []);
      counts = subst (λ (c : Bool). Counts c x (told ++ [] ∷ []) (v.okays ++ okay_packet l x.remote ∷ []) handed) plain
          (omega (arith, counts, none, length-append v.okays (okay_packet l x.remote ∷ []), length-append told ([] ∷ []), waits));
    };
    backed = subst (λ (c : Bool). IsBackedBy c (told ++ [] ∷ []) (v.okays ++ okay_packet l x.remote ∷ []) handed) plain
        (subst (λ (n : ℕ). length (v.okays ++ okay_packet l x.remote ∷ []) ≤ whole_within n (told ++ [] ∷ [])) whole
        (omega (
          arith,
          counts,
          all_whole (told ++ [] ∷ []),
          length-append v.okays (okay_packet l x.remote ∷ []),
          length-append told ([] ∷ []),
          waits,
        )));
  }
    where
      plain : false ≡ k.credit
      plain = sym e ∙ same

      counts : length v.okays + waiting_write x.to_hand ≡ length told
      counts = subst (λ (c : Bool). Counts c x told v.okays handed) (sym plain) flow.counts

      none : x.to_hand ≡ 0
      none = none_waits 0 e turn

      waits : waiting_write x.to_hand ≡ 0
      waits = ap waiting_write none

      whole : length (joined (told ++ [] ∷ [])) ≡ handed
      whole = omega (arith, flow.left, none, joined_one told [])

  accept_some : (d : ℕ) (payload : List ℕ) (credit : Bool) → x.credit ≡ credit
      → is_late x (length (d ∷ payload)) ≡ false → (u : View) → u.okays ≡ v.okays
      → u.stream ≡ Some (cond credit (record x { left = x.left - length (d ∷ payload); to_hand = x.to_hand + length (d ∷ payload) })
      (record x { to_hand = length (d ∷ payload) }))
      → Accepted k (told ++ (d ∷ payload) ∷ []) x handed u
  accept_some d payload true e turn u okays now = record {
    row = record x { left = x.left - length (d ∷ payload); to_hand = x.to_hand + length (d ∷ payload) };
    stream = now;
    orphan = refl;
    credit = refl;
    flowing = subst
        (λ (ps : List Packet). IsFlowing k
        (record x { left = x.left - length (d ∷ payload); to_hand = x.to_hand + length (d ∷ payload) })
        (told ++ (d ∷ payload) ∷ []) ps handed) (sym okays) (record {
          left = omega (arith, flow.left, joined_one told (d ∷ payload));
          counts = subst
              (λ (c : Bool). Counts c
              (record x { left = x.left - length (d ∷ payload); to_hand = x.to_hand + length (d ∷ payload) })
              (told ++ (d ∷ payload) ∷ []) v.okays handed) credited
              (subst (λ (c : Bool). Counts c x told v.okays handed) (sym credited) flow.counts);
        });
    backed = subst (λ (ps : List Packet). IsBackedBy k.credit (told ++ (d ∷ payload) ∷ []) ps handed) (sym okays)
        (backed_told k.credit told ((d ∷ payload) ∷ []) v.okays handed backed);
  }
    where
      credited : true ≡ k.credit
      credited = sym e ∙ same
  accept_some d payload false e turn u okays now = record {
    row = record x { to_hand = length (d ∷ payload) };
    stream = now;
    orphan = refl;
    credit = refl;
    flowing = subst
        (λ (ps : List Packet). IsFlowing k (record x { to_hand = length (d ∷ payload) }) (told ++ (d ∷ payload) ∷ [])
        ps handed) (sym okays)
        (record {
          left = omega (arith, flow.left, none, joined_one told (d ∷ payload));
          counts = subst
              (λ (c : Bool). Counts c (record x { to_hand = length (d ∷ payload) }) (told ++ (d ∷ payload) ∷ [])
              v.okays handed) plain
              (omega (arith, counts, waits, length-append told ((d ∷ payload) ∷ [])));
        });
    backed = subst (λ (ps : List Packet). IsBackedBy k.credit (told ++ (d ∷ payload) ∷ []) ps handed) (sym okays)
        (backed_told k.credit told ((d ∷ payload) ∷ []) v.okays handed backed);
  }
    where
      plain : false ≡ k.credit
      plain = sym e ∙ same

      none : x.to_hand ≡ 0
      none = none_waits (length (d ∷ payload)) e turn

      waits : waiting_write x.to_hand ≡ 0
      waits = ap waiting_write none

      counts : length v.okays + waiting_write x.to_hand ≡ length told
      counts = subst (λ (c : Bool). Counts c x told v.okays handed) (sym plain) flow.counts

  accepts_write : (payload : List ℕ) → is_late x (length payload) ≡ false
      → Accepted k (told ++ payload ∷ []) x handed (accepts_as l payload x v)
  accepts_write [] turn = accept_none x.credit refl turn
  accepts_write (d ∷ payload) turn = accept_some d payload x.credit refl turn (accepts_as l (d ∷ payload) x v) refl refl

-- ---- one packet
module _ (l : ℕ) (k : Cradle) (packets : List Packet) (out : List ℕ) (v : View) (p : Packet) (w : Window l k packets false out v) where
  abbrev more : List Packet
  more = packets ++ p ∷ []

  abbrev handed : ℕ
  handed = handed_past k out

  backed_on : IsBacked (opening_in l (packets ++ p ∷ [])) l k.credit v.okays (handed_past k out)
  backed_on = backed_goes l packets p k.credit v.okays (handed_past k out) w.backed

  row_flow : (x : SeenStream) → v.stream ≡ Some x → (x.credit ≡ k.credit) × FlowAs x.orphan l k packets x v.okays (handed_past k out)
  row_flow x there = subst (λ (o : Option SeenStream). FlowIn o l k packets v.okays (handed_past k out)) there w.flow

  -- ---- one that is open
  module _ (r : ℕ) (x : SeenStream) (there : v.stream ≡ Some x) (owned : x.orphan ≡ false) (known : x.remote ≡ suc r)
      (o : IsOpened (suc r) l k packets (heard v)) where
    abbrev told : List (List ℕ)
    told = told_in o.opening.remote l o.opening.later

    abbrev told_more : List (List ℕ)
    told_more = told_in o.opening.remote l (o.opening.later ++ p ∷ [])

    still_opened : opening_in l (packets ++ p ∷ []) ≡ Some (later_too (p ∷ []) o.opening)
    still_opened = opening_stays l packets (p ∷ []) o.opening o.opened

    flowing : IsFlowing k x (told_in o.opening.remote l o.opening.later) v.okays (handed_past k out)
    flowing =
        subst (λ (y : Option birth.Opening). FlowsBy y l k x v.okays (handed_past k out)) o.opened
        (subst (λ (c : Bool). FlowAs c l k packets x v.okays (handed_past k out)) owned (row_flow x there).1)

    backed : IsBackedBy k.credit (told_in o.opening.remote l o.opening.later) v.okays (handed_past k out)
    backed = subst (λ (y : Option birth.Opening). IsBacked y l k.credit v.okays (handed_past k out)) o.opened w.backed

    -- what is seen then
    open_window : (u : View) → Life l k (packets ++ p ∷ []) false out u
        → Accepted k (told_in o.opening.remote l (o.opening.later ++ p ∷ [])) x (handed_past k out) u
        → Window l k (packets ++ p ∷ []) false out u
    open_window u life made = record {
      life = life;
      backed = subst (λ (y : Option birth.Opening). IsBacked y l k.credit u.okays (handed_past k out)) (sym still_opened) made.backed;
      flow = subst (λ (y : Option SeenStream). FlowIn y l k (packets ++ p ∷ []) u.okays (handed_past k out)) (sym made.stream) (
        made.credit ∙ (row_flow x there).0,
        subst (λ (c : Bool). FlowAs c l k (packets ++ p ∷ []) made.row u.okays (handed_past k out)) (sym (made.orphan ∙ owned))
            (subst (λ (y : Option birth.Opening). FlowsBy y l k made.row u.okays (handed_past k out)) (sym still_opened) made.flowing),
      );
    }

    told_then : (payloads : List (List ℕ)) → told_in o.opening.remote l (p ∷ []) ≡ payloads
        → told_in o.opening.remote l o.opening.later ++ payloads ≡ told_in o.opening.remote l (o.opening.later ++ p ∷ [])
    told_then payloads is =
        ap (λ (ps : List (List ℕ)). told_in o.opening.remote l o.opening.later ++ ps) (sym is)
        ∙ sym (told_append o.opening.remote l o.opening.later (p ∷ []))

    by_turn : (u : View) → Life l k (packets ++ p ∷ []) false out u → OpenTurn l p x v o.opening.remote u
        → Window l k (packets ++ p ∷ []) false out u
    by_turn u life (inl stays) =
        subst (λ (y : View). Window l k (packets ++ p ∷ []) false out y) (sym stays.is)
        (open_window v (subst (λ (y : View). Life l k (packets ++ p ∷ []) false out y) stays.is life)
        (subst (λ (ps : List (List ℕ)). Accepted k ps x (handed_past k out) v)
        (sym (append-nil (told_in o.opening.remote l o.opening.later)) ∙ told_then [] stays.told) (record {
          row = x;
          stream = there;
          orphan = refl;
          credit = refl;
          flowing = flowing;
          backed = backed;
        })))
    by_turn u life (inr (inl (ending, is))) =
        subst (λ (y : View). Window l k (packets ++ p ∷ []) false out y) (sym is)
        (window_over l k (packets ++ p ∷ []) false out v x.orphan ending
        (subst (λ (y : View). Life l k (packets ++ p ∷ []) false out y) is life) backed_on)
    by_turn u life (inr (inr accepts)) =
        subst (λ (y : View). Window l k (packets ++ p ∷ []) false out y) (sym accepts.is)
        (open_window (accepts_as l p.payload x v) (subst (λ (y : View). Life l k (packets ++ p ∷ []) false out y) accepts.is life)
        (subst (λ (ps : List (List ℕ)). Accepted k ps x (handed_past k out) (accepts_as l p.payload x v))
        (told_then (p.payload ∷ []) accepts.told)
        (accepts_write l k (told_in o.opening.remote l o.opening.later) x v there (row_flow x there).0 (handed_past k out)
        flowing backed p.payload accepts.in_turn)))

    open_treats : Life l k (packets ++ p ∷ []) false out (treated_as l p.command p x v)
        → Window l k (packets ++ p ∷ []) false out (treated_as l p.command p x v)
    open_treats life =
        by_turn (treated_as l p.command p x v) life
        (open_turn l p x v o.opening.remote (known ∙ sym o.told_as) (λ e. let clash : suc r ≡ 0 = sym o.told_as ∙ e in cc))

  -- ---- one that its device has not opened
  module _ (x : SeenStream) (there : v.stream ≡ Some x) (fresh : x.remote ≡ 0) (unused : IsUnused x v.okays) where
    abbrev now : View
    now = treated_as l p.command p x v

    turn : FreshTurn l p x v (treated_as l p.command p x v)
    turn = fresh_turn l p x v there fresh (λ orphan ending. over_gone orphan ending v)

    none_now : (treated_as l p.command p x v).okays ≡ []
    none_now = turn.okays ∙ unused.none

    -- its row, where it is still there
    fresh_treats :
        ((y : SeenStream) → IsSameRow l p x v y → FlowAs y.orphan l k (packets ++ p ∷ []) y
        (treated_as l p.command p x v).okays (handed_past k out))
        → Life l k (packets ++ p ∷ []) false out (treated_as l p.command p x v)
        → Window l k (packets ++ p ∷ []) false out (treated_as l p.command p x v)
    fresh_treats flows life = record {
      life = life;
      backed = unbacked (opening_in l (packets ++ p ∷ [])) l k.credit (treated_as l p.command p x v).okays (handed_past k out) none_now;
      flow = by turn.row;
    }
      where
        by : ((treated_as l p.command p x v).stream ≡ None) ⊎
            ((y : SeenStream) × ((treated_as l p.command p x v).stream ≡ Some y) × IsSameRow l p x v y)
            → FlowIn (treated_as l p.command p x v).stream l k (packets ++ p ∷ []) (treated_as l p.command p x v).okays (handed_past k out)
        by (inl none) =
            subst (λ (o : Option SeenStream). FlowIn o l k (packets ++ p ∷ []) (treated_as l p.command p x v).okays
            (handed_past k out)) (sym none) tt
        by (inr (y, is, same)) =
            subst (λ (o : Option SeenStream). FlowIn o l k (packets ++ p ∷ []) (treated_as l p.command p x v).okays
            (handed_past k out)) (sym is)
            (same.credit ∙ (row_flow x there).0, flows y same)

    still_unused : (y : SeenStream) → IsSameRow l p x v y → IsUnused y (treated_as l p.command p x v).okays
    still_unused y same = record { none = none_now; to_hand = same.to_hand ∙ unused.to_hand; gathered = same.gathered ∙ unused.gathered }

    -- an orphan
    orphan_flow : x.orphan ≡ true → (y : SeenStream) → IsSameRow l p x v y
        → FlowAs y.orphan l k (packets ++ p ∷ []) y (treated_as l p.command p x v).okays (handed_past k out)
    orphan_flow is_orphan y same =
        subst (λ (c : Bool). FlowAs c l k (packets ++ p ∷ []) y (treated_as l p.command p x v).okays
        (handed_past k out)) (sym (same.orphan ∙ is_orphan))
        (still_unused y same)

    -- one that waits, of which nothing was handed out
    wait_flow : x.orphan ≡ false → IsPending l packets → handed_past k out ≡ 0 → (y : SeenStream) → IsSameRow l p x v y
        → FlowAs y.orphan l k (packets ++ p ∷ []) y (treated_as l p.command p x v).okays (handed_past k out)
    wait_flow owned pending nothing y same =
        subst (λ (c : Bool). FlowAs c l k (packets ++ p ∷ []) y (treated_as l p.command p x v).okays
        (handed_past k out)) (sym (same.orphan ∙ owned))
        (by (opening_in l (packets ++ p ∷ [])) refl)
      where
        unused_now : IsUnused y (treated_as l p.command p x v).okays
        unused_now = still_unused y same

        count : (credit : Bool) → Counts credit y [] [] (handed_past k out)
        count false = omega (arith, ap waiting_write unused_now.to_hand)
        count true = omega (arith, unused_now.gathered)

        by : (o : Option birth.Opening) → opening_in l (packets ++ p ∷ []) ≡ o
            → FlowsBy o l k y (treated_as l p.command p x v).okays (handed_past k out)
        by None e = unused_now
        by (Some o) e =
            let first : o.later ≡ [] = first_later l p o (sym (pending (p ∷ [])) ∙ e) in
            subst (λ (ps : List Packet). IsFlowing k y (told_in o.remote l ps) (treated_as l p.command p x v).okays
            (handed_past k out)) (sym first)
            (subst (λ (ps : List Packet). IsFlowing k y [] ps (handed_past k out)) (sym none_now)
            (record { left = omega (arith, unused_now.to_hand, nothing); counts = count k.credit }))

  -- nothing of a stream is handed out that waits
  nothing_handed : IsWaiting l k packets (heard v) → handed_past k out ≡ 0
  nothing_handed i =
      let front = any_front v.client v.output out w.life.tied in
      let size : length out ≤ length k.replies = within (subst (IsPrefixOf out) i.output front) in
      omega (arith, handed_count k out, size, longer k.forwarded)
    where
      within : IsPrefixOf out k.replies → length out ≤ length k.replies
      within (rest, is) = omega (arith, ap length is, length-append out rest)

      longer : (forwarded : Bool) → length k.replies ≤ length (okay_after forwarded k.replies)
      longer true = omega arith
      longer false = omega (arith, length-append k.replies (Rattle.std.specs.Prelude.codes "OKAY"))

  pub window_treats : Life l k (packets ++ p ∷ []) false out (treated_on v.stream l p v)
      → Window l k (packets ++ p ∷ []) false out (treated_on v.stream l p v)
  window_treats life = by v.stream refl w.life.lives life
    where
      alive : (x : SeenStream) (orphan : Bool) (remote : ℕ) → v.stream ≡ Some x → x.orphan ≡ orphan → x.remote ≡ remote
          → LivesAs orphan remote l k packets (heard v)
          → Life l k (packets ++ p ∷ []) false out (treated_as l p.command p x v)
          → Window l k (packets ++ p ∷ []) false out (treated_as l p.command p x v)
      alive x true r there is_orphan is i life =
          let unused = subst (λ (c : Bool). FlowAs c l k packets x v.okays (handed_past k out)) is_orphan (row_flow x there).1 in
          fresh_treats x there (is ∙ i.remote_is) unused (orphan_flow x there (is ∙ i.remote_is) unused is_orphan) life
      alive x false zero there owned is i life =
          let unused = subst (λ (o : Option birth.Opening). FlowsBy o l k x v.okays (handed_past k out)) (pending_now l packets i.pending)
          (subst (λ (c : Bool). FlowAs c l k packets x v.okays (handed_past k out)) owned (row_flow x there).1) in
          fresh_treats x there is unused (wait_flow x there is unused owned i.pending (nothing_handed i)) life
      alive x false (suc r) there owned is i life = open_treats r x there owned is i life

      by : (o : Option SeenStream) → v.stream ≡ o → LivesIn o l k packets false (heard v)
          → Life l k (packets ++ p ∷ []) false out (treated_on o l p v)
          → Window l k (packets ++ p ∷ []) false out (treated_on o l p v)
      by None none i life = record {
        life = life;
        backed = backed_on;
        flow = subst (λ (o : Option SeenStream). FlowIn o l k (packets ++ p ∷ []) v.okays (handed_past k out)) (sym none) tt;
      }
      by (Some x) there i life = alive x x.orphan x.remote there refl refl i life
