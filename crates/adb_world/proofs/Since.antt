-- What is sent of streams that were drawn before, behind a time when nothing was on its way and no more is read of their clients.
use Rattle.std.specs.Prelude.{ℕ, ◌+◌, ◌≡◌, ◌≤◌, ◌<◌, Bool, true, false, All}
use Rattle.std.specs.Prelude.{List, [], ◌∷◌, ◌++◌, length, drop, Option, Some, None}
use Rattle.std.proofs.Common.{refl, sym, ◌∙◌, ap, subst, arith, append_assoc}
use Rattle.std.proofs.lemmas.List.{append-nil, length-append}
use Rattle.std.proofs.lemmas.List.Elements.{All-drop}
use Rattle.std.proofs.Math.Seq.{drop-append_seam}
use Rattle.adb_outside.specs.Bytes.{IsPrefixOf}
use Rattle.adb_wire.specs.declared.packets.Packet.{Packet}
use Rattle.adb_stream.specs.declared.row.Stream.{Stream}
use Rattle.adb_history.specs.Births.{Birth, born, carried_in, count_from, is_open}
use Rattle.adb_history.specs.Bytes.{bytes_read, sent}
use Rattle.adb_history.specs.Fifo.{CarriesRest, IsKeptAs, IsOwn}
use Rattle.adb_history.specs.Lives.{packets_of, rest_of}
use Rattle.adb_history.specs.Machine.{History, IsLegal, state}
use Rattle.adb_history.specs.Orderly.{HasClient, HasOwner}
use Rattle.adb_history.proofs.OrderlyStates.{orderly}
use Rattle.adb_laws_births.proofs.Asking.{asks_at_once}
use Rattle.adb_laws_births.proofs.Born.{all_births}
use Rattle.adb_laws_births.proofs.Crossing.{no_crossing}
use Rattle.adb_laws_births.proofs.Laws.{sends_first}
use Rattle.adb_laws_births.proofs.Once.{count_append}
use Rattle.adb_laws_causes.specs.Flows.{IsAsTold}
use Rattle.adb_laws_causes.proofs.Holding.{all_hold}
use Rattle.adb_laws_causes.proofs.Newborn.{born_stays}
use Rattle.adb_laws_causes.proofs.Others.{born_within}
use Rattle.adb_laws_fifo_up.proofs.Seeing.{carried_in_append}
use Rattle.adb_world.proofs.Ended.{IsIdleState}
use Rattle.adb_world.proofs.Going.{AllStay}
use Rattle.adb_world.proofs.Unread.{was_asked}
use Rattle.adb_world.proofs.Unsent.{StaysUnsent, all_unsent}

-- ---- lists
no_longer : (a b : List ℕ) → length (a ++ b) ≤ length a → b ≡ []
no_longer a [] le = refl
no_longer a (x ∷ b) le = let both = length-append a (x ∷ b) in absurd (omega (arith, both, le))

-- no more was read of the client of a live stream than before
abbrev pub ReadNoMore : (h now : History) → Type 0
ReadNoMore h now = (l : ℕ) (b : Birth) (x : Stream) → (state h).streams l ≡ Some x → born l h ≡ Some b
    → length (rest_of l b now) ≤ length (drop b.head (bytes_read b.client h))

module _ (carried : (h : History) → IsLegal h → CarriesRest h) (stays : AllStay) (h more : History)
    (legal : IsLegal h) (legal_now : IsLegal (more ++ h))
    (idle : IsIdleState (state h)) (sent_all : sent 1 h ≡ packets_of 1 h) (read : ReadNoMore h (more ++ h)) where
  -- what was sent since
  pub since : (ps : List Packet) × (sent 1 h ++ ps ≡ sent 1 (more ++ h))
  since = go more
    where
      go : (es : History) → (ps : List Packet) × (sent 1 h ++ ps ≡ sent 1 (es ++ h))
      go [] = ([], append-nil (sent 1 h))
      go (e ∷ es) =
          let before = go es in
          let next = (stays e (es ++ h)).sends 1 in
          (before.0 ++ next.0, sym (append_assoc (sent 1 h) before.0 next.0) ∙ (ap (λ (x : List Packet). x ++ next.0) before.1 ∙ next.1))

  -- a stream that is gone
  module _ (l : ℕ) (some : 0 < l) (le : l ≤ (state h).drawn) (none : (state h).streams l ≡ None) where
    unsent : StaysUnsent l h (more ++ h)
    unsent = all_unsent l some more h none le

    unsent_now : (count_from is_open l since.0 ≡ 0) × (carried_in l since.0 ≡ [])
    unsent_now = (
      (let whole : count_from is_open l (packets_of 1 (more ++ h))
          ≡ (count_from is_open l (sent 1 h) + count_from is_open l since.0) + count_from is_open l front.0 =
          ap (count_from is_open l) (sym parts)
          ∙ (count_append is_open l (sent 1 h ++ since.0) front.0
          ∙ ap (λ (k : ℕ). k + count_from is_open l front.0) (count_append is_open l (sent 1 h) since.0)) in
          let same = unsent.asked in
          let all : count_from is_open l (sent 1 h) ≡ count_from is_open l (packets_of 1 h) = ap (count_from is_open l) sent_all in
          omega (arith, whole, same, all)),
      no_longer (carried_in l (sent 1 h)) (carried_in l since.0)
          (let whole : length (carried_in l (packets_of 1 (more ++ h)))
          ≡ length (carried_in l (sent 1 h) ++ carried_in l since.0) + length (carried_in l front.0) =
          ap (λ (ps : List Packet). length (carried_in l ps)) (sym parts)
          ∙ (ap length (carried_in_append l (sent 1 h ++ since.0) front.0)
          ∙ (length-append (carried_in l (sent 1 h ++ since.0)) (carried_in l front.0)
          ∙ ap (λ (x : List ℕ). length x + length (carried_in l front.0)) (carried_in_append l (sent 1 h) since.0))) in
          let same : length (carried_in l (packets_of 1 (more ++ h))) ≡ length (carried_in l (sent 1 h)) =
          ap length (unsent.same ∙ ap (carried_in l) (sym sent_all)) in
          omega (arith, whole, same)),
    )
      where
        front : (r : List Packet) × (sent 1 (more ++ h) ++ r ≡ packets_of 1 (more ++ h))
        front = (sends_first (more ++ h) legal_now 1).first

        parts : (sent 1 h ++ since.0) ++ front.0 ≡ packets_of 1 (more ++ h)
        parts = ap (λ (x : List Packet). x ++ front.0) since.1 ∙ front.1

  -- a stream that lives
  module _ (l : ℕ) (x : Stream) (live : (state h).streams l ≡ Some x) where
    kept : IsKeptAs h l x
    kept = (all_births h legal).kept l x live

    alive : x.part.orphan ≡ false
    alive = go x.part.orphan refl ((orderly h legal).stream l x live).owner
      where
        go : (b : Bool) → x.part.orphan ≡ b → HasOwner b (state h) l x → x.part.orphan ≡ false
        go false is owner = is
        go true is owner = absurd ((idle.streams l x live).opened owner.0)

    owner : HasClient (state h) l x
    owner = subst (λ (b : Bool). HasOwner b (state h) l x) alive ((orderly h legal).stream l x live).owner

    -- all that its client wrote was carried
    carried_all : kept.birth.link ≡ 1 → carried_in l (sent 1 h) ≡ drop kept.birth.head (bytes_read kept.birth.client h)
    carried_all link =
        let told : IsAsTold h l kept.birth x owner.client = all_hold h legal l kept.birth x owner.client kept.is live alive owner.is in
        let none : owner.client.held ≡ [] = (idle.clients x.client owner.client owner.is).held in
        ap (carried_in l) sent_all
        ∙ (ap (λ (t : ℕ). carried_in l (packets_of t h)) (sym link)
        ∙ (sym (append-nil (carried_in l (packets_of kept.birth.link h)))
        ∙ (ap (λ (x : List ℕ). carried_in l (packets_of kept.birth.link h) ++ x) (sym none) ∙ told.up)))

    live_now : (b : Birth) → born l (more ++ h) ≡ Some b → b.link ≡ 1 → (count_from is_open l since.0 ≡ 0) × (carried_in l since.0 ≡ [])
    live_now b is link = (unasked, uncarried)
      where
        stays_born : (es : History) → born l (es ++ h) ≡ Some kept.birth
        stays_born [] = kept.is
        stays_born (e ∷ es) = born_stays l e (es ++ h) kept.birth (stays_born es)

        same : b ≡ kept.birth
        same = let both : Some b ≡ Some kept.birth = sym is ∙ stays_born more in cc

        on_link : kept.birth.link ≡ 1
        on_link = ap (λ (y : Birth). y.link) (sym same) ∙ link

        unasked : count_from is_open l since.0 ≡ 0
        unasked =
            let before : 1 ≤ count_from is_open l (packets_of 1 h) =
            subst (λ (t : ℕ). 1 ≤ count_from is_open l (packets_of t h)) on_link
            (was_asked h (asks_at_once h legal) l kept.birth kept.is) in
            let all : count_from is_open l (sent 1 h) ≡ count_from is_open l (packets_of 1 h) = ap (count_from is_open l) sent_all in
            let once = (no_crossing (more ++ h) legal_now).once 1 l in
            let whole : count_from is_open l (sent 1 (more ++ h)) ≡ count_from is_open l (sent 1 h) + count_from is_open l since.0 =
            ap (count_from is_open l) (sym since.1) ∙ count_append is_open l (sent 1 h) since.0 in
            omega (arith, before, all, once, whole)

        uncarried : carried_in l since.0 ≡ []
        uncarried =
            let front : IsPrefixOf (carried_in l (sent kept.birth.link (more ++ h))) (rest_of l kept.birth (more ++ h)) =
            carried (more ++ h) legal_now l kept.birth (stays_born more) in
            let whole : carried_in l (sent kept.birth.link (more ++ h)) ≡ carried_in l (sent 1 h) ++ carried_in l since.0 =
            ap (λ (t : ℕ). carried_in l (sent t (more ++ h))) on_link
            ∙ (ap (carried_in l) (sym since.1) ∙ carried_in_append l (sent 1 h) since.0) in
            let long : length (carried_in l (sent kept.birth.link (more ++ h))) + length front.0
            ≡ length (rest_of l kept.birth (more ++ h)) =
            sym (length-append (carried_in l (sent kept.birth.link (more ++ h))) front.0) ∙ ap length front.1 in
            let whole_long : length (carried_in l (sent kept.birth.link (more ++ h)))
            ≡ length (carried_in l (sent 1 h) ++ carried_in l since.0) =
            ap length whole in
            let within = read l kept.birth x live kept.is in
            let old : length (carried_in l (sent 1 h)) ≡ length
            (drop kept.birth.head (bytes_read kept.birth.client h)) = ap length (carried_all on_link) in
            no_longer (carried_in l (sent 1 h)) (carried_in l since.0) (omega (arith, long, whole_long, within, old))

  -- nothing is asked for, and nothing written, of a stream that was drawn
  pub quiet_since : (l : ℕ) (b : Birth) → born l (more ++ h) ≡ Some b → b.link ≡ 1 → l ≤ (state h).drawn
      → (count_from is_open l since.0 ≡ 0) × (carried_in l since.0 ≡ [])
  quiet_since l b is link le = go ((state h).streams l) refl
    where
      go : (o : Option Stream) → (state h).streams l ≡ o → (count_from is_open l since.0 ≡ 0) × (carried_in l since.0 ≡ [])
      go None none = unsent_now l (born_within l (more ++ h) b is).0 le none
      go (Some x) live = live_now l x live b is link

  -- each packet is its stream's own
  pub own_since : All (λ p. IsOwn (more ++ h) 1 p.command p) since.0
  own_since =
      subst (All (λ p. IsOwn (more ++ h) 1 p.command p)) (drop-append_seam (sent 1 h) since.0)
      (All-drop (λ p. IsOwn (more ++ h) 1 p.command p) (length (sent 1 h)) (sent 1 h ++ since.0)
      (subst (All (λ p. IsOwn (more ++ h) 1 p.command p)) (sym since.1) ((no_crossing (more ++ h) legal_now).own 1)))
