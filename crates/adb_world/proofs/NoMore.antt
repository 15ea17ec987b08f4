-- Behind the end of a session nothing is asked for and nothing is written, so that no file of the device changes.
use Rattle.std.specs.Prelude.{ℕ, ◌+◌, ◌≡◌, ◌≢◌, ◌≤◌, ◌&&◌, Bool, true, false, cond, is_some, nat_eq, All}
use Rattle.std.specs.Prelude.{List, [], ◌∷◌, ◌++◌, length, drop, Option, Some, None}
use Rattle.std.specs.Option.{option_or}
use Rattle.std.proofs.Common.{refl, sym, ◌∙◌, ap, subst, arith, ◌⊎◌, inl, inr, append_assoc}
use Rattle.std.proofs.lemmas.Bool.{cases_eq, eq-eqb}
use Rattle.std.proofs.lemmas.List.{length-drop}
use Rattle.std.proofs.lemmas.List.Elements.{All-head, All-tail}
use Rattle.adb_outside.specs.declared.kinds.Cause.TheVariants.{Eof}
use Rattle.adb_wire.specs.declared.command.Command.{Command}
use Rattle.adb_wire.specs.declared.command.Command.TheVariants.{Cnxn, Open, Okay, Wrte, Clse, Auth, Stls}
use Rattle.adb_wire.specs.declared.packets.Packet.{Packet}
use Rattle.adb_capture.specs.declared.entry.Entry.TheVariants.{End}
use Rattle.adb_stream.specs.declared.row.Stream.{Stream}
use Rattle.adb_history.specs.Births.{Birth, born, carried_in, count_from, is_open, is_wrte, remote_of}
use Rattle.adb_history.specs.Bytes.{bytes_read, sent}
use Rattle.adb_history.specs.Events.{ending_in}
use Rattle.adb_history.specs.declared.ending.Ending.{Ending}
use Rattle.adb_history.specs.Fifo.{CarriesRest, IsKeptAs, IsOwn}
use Rattle.adb_history.specs.Lives.{ending_of, lived, packets_of, rest_of}
use Rattle.adb_history.specs.Machine.{History, IsLegal, state, told, told_at}
use Rattle.adb_history.specs.Orderly.{HasClient, HasOwner}
use Rattle.adb_history.specs.Rows.{Client}
use Rattle.adb_history.proofs.OrderlyStates.{orderly}
use Rattle.adb_laws_births.specs.Ending.{EndsAs}
use Rattle.adb_laws_births.proofs.Born.{all_births}
use Rattle.adb_laws_births.proofs.Ending.{ending_append}
use Rattle.adb_laws_births.proofs.Endings.{all_endings}
use Rattle.adb_laws_causes.proofs.Newborn.{born_stays}
use Rattle.adb_laws_causes.proofs.Others.{born_within}
use Rattle.adb_world.proofs.Ended.{IsIdleState}
use Rattle.adb_world.proofs.Going.{AllStay}
use Rattle.adb_laws_alone.proofs.Quiet.{AllLeaveFiles, LeavesFiles}
use Rattle.adb_world.proofs.Since.{ReadNoMore, own_since, quiet_since}
use Rattle.adb_world.proofs.Since.{since as sent_since}
use Rattle.adb_world.proofs.Unread.{ended_lived, lived_read}

-- packets of which each is asked for and written no more
pub leave_all : (h : History) (ps : List Packet) → All (λ p. IsOwn h 1 p.command p) ps
    → ((l : ℕ) (b : Birth) → born l h ≡ Some b → b.link ≡ 1 → (count_from is_open l ps ≡ 0) × (carried_in l ps ≡ [])) → AllLeaveFiles ps
leave_all h [] own none = tt
leave_all h (p ∷ ps) own none = (
  one p.command refl (All-head (λ q. IsOwn h 1 q.command q) p ps own),
  leave_all h ps (All-tail (λ q. IsOwn h 1 q.command q) p ps own) rest,
)
  where
    test : (is_such : Command → Bool) → is_such p.command ≡ true → (is_such p.command && nat_eq p.arg0 p.arg0) ≡ true
    test is_such such = (λ i. such i && eq-eqb p.arg0 p.arg0 refl i)

    asked : is_open p.command ≡ true → count_from is_open p.arg0 (p ∷ ps) ≡ 0 → ⊥
    asked opens zeroth =
        let counts : 1 + count_from is_open p.arg0 ps ≡ 0 =
        sym (ap (λ (b : Bool). cond b (1 + count_from is_open p.arg0 ps) (count_from is_open p.arg0 ps)) (test is_open opens)) ∙ zeroth in
        omega (arith, counts)

    empty : (a b : List ℕ) → a ++ b ≡ [] → a ≡ []
    empty [] b is = refl
    empty (x ∷ a) b is = absurd (let clash : x ∷ (a ++ b) ≡ [] = is in cc)

    written : is_wrte p.command ≡ true → carried_in p.arg0 (p ∷ ps) ≡ [] → p.payload ≡ []
    written writes nothing =
        empty p.payload (carried_in p.arg0 ps)
        (sym (ap (λ (b : Bool). cond b (p.payload ++ carried_in p.arg0 ps) (carried_in p.arg0 ps)) (test is_wrte writes)) ∙ nothing)

    one : (command : Command) → p.command ≡ command → IsOwn h 1 command p → LeavesFiles command p
    one Open is own = absurd (asked (ap is_open is) (none p.arg0 own.birth own.is own.link).0)
    one Wrte is own = written (ap is_wrte is) (none p.arg0 own.birth own.is own.link).1
    one Okay is own = tt
    one Clse is own = tt
    one Cnxn is own = tt
    one Auth is own = tt
    one Stls is own = tt

    rest : (l : ℕ) (b : Birth) → born l h ≡ Some b → b.link ≡ 1 → (count_from is_open l ps ≡ 0) × (carried_in l ps ≡ [])
    rest l b is link = (
      counts (is_open p.command && nat_eq p.arg0 l) (none l b is link).0,
      carries (is_wrte p.command && nat_eq p.arg0 l) (none l b is link).1,
    )
      where
        counts : (t : Bool) → cond t (1 + count_from is_open l ps) (count_from is_open l ps) ≡ 0 → count_from is_open l ps ≡ 0
        counts true e = absurd (omega (arith, e))
        counts false e = e

        behind : (a b : List ℕ) → a ++ b ≡ [] → b ≡ []
        behind [] b is = is
        behind (x ∷ a) b is = absurd (let clash : x ∷ (a ++ b) ≡ [] = is in cc)

        carries : (t : Bool) → cond t (p.payload ++ carried_in l ps) (carried_in l ps) ≡ [] → carried_in l ps ≡ []
        carries true e = behind p.payload (carried_in l ps) e
        carries false e = e

-- ---- a session ends where nothing is on its way, and all settles
module _ (carried : (h : History) → IsLegal h → CarriesRest h) (stays : AllStay) (n : ℕ) (h more : History) (legal : IsLegal h)
    (legal_end : IsLegal (End n Eof ∷ h)) (legal_now : IsLegal (more ++ End n Eof ∷ h)) (idle : IsIdleState (state h))
    (sent_all : sent 1 h ≡ packets_of 1 h) (gone : (state (End n Eof ∷ h)).clients n ≡ None)
    (same_drawn : (state (more ++ End n Eof ∷ h)).drawn ≡ (state h).drawn)
    (same_read : (d : ℕ) (client : Client) → d ≢ n → (state h).clients d ≡ Some client
    → bytes_read d (more ++ End n Eof ∷ h) ≡ bytes_read d h) where
  -- a stream that lives
  module _ (l : ℕ) (x : Stream) (live : (state h).streams l ≡ Some x) where
    kept : IsKeptAs h l x
    kept = (all_births h legal).kept l x live

    alive : x.part.orphan ≡ false
    alive = go x.part.orphan refl ((orderly h legal).stream l x live).owner
      where
        go : (b : Bool) → x.part.orphan ≡ b → HasOwner b (state h) l x → x.part.orphan ≡ false
        go false is owner = is
        go true is owner = absurd ((idle.streams l x live).opened owner.0)

    owner : HasClient (state h) l x
    owner = subst (λ (b : Bool). HasOwner b (state h) l x) alive ((orderly h legal).stream l x live).owner

    no_end : ending_of l h ≡ None
    no_end = subst (λ (b : Bool). EndsAs b (ending_of l h)) alive ((all_endings h legal l).kept x live)

    of_client : x.client ≡ kept.birth.client
    of_client = kept.client

    -- its end, where it is that of the client that ended
    ended_now : x.client ≡ n → (y : Ending) × (ending_of l (End n Eof ∷ h) ≡ Some y)
    ended_now is = by_ending (ending_of l (End n Eof ∷ h)) refl
      where
        born_now : born l (End n Eof ∷ h) ≡ Some kept.birth
        born_now = born_stays l (End n Eof) h kept.birth kept.is

        row_none : (state (End n Eof ∷ h)).streams l ≡ None
        row_none = go ((state (End n Eof ∷ h)).streams l) refl
          where
            opened : remote_of l kept.birth h ≢ 0
            opened = λ zeroth. (idle.streams l x live).opened (kept.remote ∙ zeroth)

            go : (o : Option Stream) → (state (End n Eof ∷ h)).streams l ≡ o → (state (End n Eof ∷ h)).streams l ≡ None
            go None there = there
            go (Some y) there = absurd (by y.part.orphan ((orderly (End n Eof ∷ h) legal_end).stream l y there).owner)
              where
                now_kept : IsKeptAs (End n Eof ∷ h) l y
                now_kept = (all_births (End n Eof ∷ h) legal_end).kept l y there

                same_birth : now_kept.birth ≡ kept.birth
                same_birth = let both : Some now_kept.birth ≡ Some kept.birth = sym now_kept.is ∙ born_now in cc

                client_is : y.client ≡ n
                client_is = now_kept.client ∙ (ap (λ (b : Birth). b.client) same_birth ∙ (sym of_client ∙ is))

                by : (b : Bool) → HasOwner b (state (End n Eof ∷ h)) l y → ⊥
                by false has =
                    let clash : None ≡ Some has.client = sym gone ∙ (ap (state (End n Eof ∷ h)).clients (sym client_is) ∙ has.is) in cc
                by true has =
                    opened (sym ((stays (End n Eof) h).remote l kept.birth opened)
                    ∙ (ap (λ (b : Birth). remote_of l b (End n Eof ∷ h)) (sym same_birth) ∙ (sym now_kept.remote ∙ has.0)))

        by_ending : (o : Option Ending) → ending_of l (End n Eof ∷ h) ≡ o → (y : Ending) × (ending_of l (End n Eof ∷ h) ≡ Some y)
        by_ending (Some y) e = (y, e)
        by_ending None e =
            let within = born_within l (End n Eof ∷ h) kept.birth born_now in
            let counts = (all_births (End n Eof ∷ h) legal_end).drawn in
            let some : is_some (ending_of l (End n Eof ∷ h)) ≡ true =
            (all_endings (End n Eof ∷ h) legal_end l).gone row_none within.0 (let le = within.1 in omega (arith, le, counts)) in
            absurd (let clash : false ≡ true = sym (ap is_some e) ∙ some in cc)

    lived_before : x.client ≡ n → lived l (more ++ End n Eof ∷ h) ≡ h
    lived_before is =
        let ends = ended_now is in
        let told_end : is_some (ending_in l (told_at (End n Eof) h)) ≡ true =
        ap is_some (sym (ap (λ (o : Option Ending). option_or o (ending_in l (told_at (End n Eof) h))) no_end)
        ∙ (sym (ending_append l (told h) (told_at (End n Eof) h)) ∙ ends.1)) in
        (ended_lived l more (End n Eof ∷ h) (λ e older y is. (stays e older).ending l y is) ends.0 ends.1).1
        ∙ ((λ i. cond (is_some (no_end i)) (lived l h) (cond (is_some (ending_in l (told_at (End n Eof) h))) h (End n Eof ∷ h)))
        ∙ ap (λ (b : Bool). cond b h (End n Eof ∷ h)) told_end)

    rest_within : length (rest_of l kept.birth (more ++ End n Eof ∷ h)) ≤ length (drop kept.birth.head (bytes_read kept.birth.client h))
    rest_within = go (cases_eq x.client n)
      where
        go : (x.client ≡ n) ⊎ (x.client ≢ n)
            → length (rest_of l kept.birth (more ++ End n Eof ∷ h)) ≤ length (drop kept.birth.head (bytes_read kept.birth.client h))
        go (inl is) =
            let same : length (rest_of l kept.birth (more ++ End n Eof ∷ h))
            ≡ length (drop kept.birth.head (bytes_read kept.birth.client h)) =
            ap (λ (g : History). length (drop kept.birth.head (bytes_read kept.birth.client g))) (lived_before is) in
            omega (arith, same)
        go (inr other) =
            let read = lived_read l kept.birth.client (more ++ End n Eof ∷ h) in
            let same : length (bytes_read kept.birth.client (more ++ End n Eof ∷ h)) ≡ length (bytes_read kept.birth.client h) =
            ap length (subst (λ (k : ℕ). bytes_read k (more ++ End n Eof ∷ h) ≡ bytes_read k h) of_client
            (same_read x.client owner.client other owner.is)) in
            let long = length-drop kept.birth.head (bytes_read kept.birth.client (lived l (more ++ End n Eof ∷ h))) in
            let old = length-drop kept.birth.head (bytes_read kept.birth.client h) in
            omega (arith, read, same, long, old)

  -- no more is read of the clients of live streams
  read : ReadNoMore h (more ++ End n Eof ∷ h)
  read l b x live is =
      let both : Some (kept l x live).birth ≡ Some b = sym (kept l x live).is ∙ is in
      let same : (kept l x live).birth ≡ b = cc in
      subst (λ (a : Birth). length (rest_of l a (more ++ End n Eof ∷ h))
      ≤ length (drop a.head (bytes_read a.client h))) same (rest_within l x live)

  -- the same history, as more behind the old one
  abbrev es : History
  es = more ++ End n Eof ∷ []

  whole : (more ++ End n Eof ∷ []) ++ h ≡ more ++ End n Eof ∷ h
  whole = append_assoc more (End n Eof ∷ []) h

  legal_es : IsLegal (es ++ h)
  legal_es = subst IsLegal (sym whole) legal_now

  read_es : ReadNoMore h (es ++ h)
  read_es = subst (ReadNoMore h) (sym whole) read

  -- what was sent since
  abbrev behind : (ps : List Packet) × (sent 1 h ++ ps ≡ sent 1 (es ++ h))
  behind = sent_since carried stays h es legal legal_es idle sent_all read_es

  pub since : (ps : List Packet) × (sent 1 h ++ ps ≡ sent 1 (more ++ End n Eof ∷ h))
  since = (behind.0, behind.1 ∙ ap (sent 1) whole)

  none_more : (l : ℕ) (b : Birth) → born l (more ++ End n Eof ∷ h) ≡ Some b → b.link ≡ 1
      → (count_from is_open l behind.0 ≡ 0) × (carried_in l behind.0 ≡ [])
  none_more l b is link =
      quiet_since carried stays h es legal legal_es idle sent_all read_es l b
      (subst (λ (g : History). born l g ≡ Some b) (sym whole) is) link
      (let within = (born_within l (more ++ End n Eof ∷ h) b is).1 in
      let counts = (all_births (more ++ End n Eof ∷ h) legal_now).drawn in
      let drawn = same_drawn in
      omega (arith, within, counts, drawn))

  pub leaves : AllLeaveFiles since.0
  unfolding since
  leaves =
      leave_all (more ++ End n Eof ∷ h) behind.0
      (subst (λ (g : History). All (λ p. IsOwn g 1 p.command p) behind.0) whole
      (own_since carried stays h es legal legal_es idle sent_all read_es)) none_more
