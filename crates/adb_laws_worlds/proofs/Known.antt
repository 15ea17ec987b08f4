-- Where nothing is on its way, each stream that was asked for a service that its model device knows was opened.
use Rattle.std.specs.Prelude.{ℕ, ◌+◌, ◌-◌, ◌^◌, ◌≡◌, ◌≢◌, ◌<◌, ◌≤◌, ◌==◌, ◌&&◌, if◌then◌else◌, not, Bool, true, false, cond, nat_eq, nat_lt}
use Rattle.std.specs.Prelude.{is_some, fold, All}
use Rattle.std.specs.Prelude.{List, [], ◌∷◌, ◌++◌, length, take, drop, slice_get, Option, Some, None}
use Rattle.std.specs.Option.{option_or}
use Rattle.std.proofs.Common.{zero, suc, refl, sym, ◌∙◌, ap, subst, arith, ◌⊎◌, inl, inr}
use Rattle.std.proofs.lemmas.Bool.{cases_eq, eq-eqb, ne_eqb, eqb-true, ltb-true}
use Rattle.std.proofs.lemmas.List.{length-append, take-append-le, take-append-drop, append-nil}
use Rattle.std.proofs.lemmas.List.Elements.{All-nil, All-cons, All-head, All-tail}
use Rattle.std.proofs.Math.Seq.{take-append_seam}
use Rattle.adb_wire.specs.Format.{is_cnxn}
use Rattle.adb_wire.specs.declared.command.Command.{Command}
use Rattle.adb_wire.specs.declared.command.Command.TheVariants.{Cnxn, Open, Okay, Clse}
use Rattle.adb_wire.specs.declared.packets.Packet.{Packet}
use Rattle.adb_stream.specs.declared.row.Stream.{Stream}
use Rattle.adb_capture.specs.declared.entry.Entry.{Entry}
use Rattle.adb_capture.specs.declared.entry.Entry.TheVariants.{Enter, Read}
use Rattle.adb_history.specs.Births.{Birth, born, births, births_at, since, opening_by, opening_in, is_between, count_from, is_okay}
use Rattle.adb_history.specs.Births.{is_clse, is_open}
use Rattle.adb_history.specs.Bytes.{brought, sent}
use Rattle.adb_history.specs.Events.{ending_in}
use Rattle.adb_history.specs.declared.ending.Ending.{Ending}
use Rattle.adb_history.specs.Fifo.{okays_in, IsOpenOf, IsOwn}
use Rattle.adb_history.specs.Links.{is_connected, credit_word}
use Rattle.adb_history.specs.Lives.{ending_of}
use Rattle.adb_history.specs.Machine.{History, state, told, told_at, IsLegal}
use Rattle.adb_history.specs.Streams.{stream_ids}
use Rattle.adb_history.proofs.OrderlyStates.{orderly}
use Rattle.adb_laws_births.specs.Births.{birth_place}
use Rattle.adb_laws_births.specs.Brought.{ComeFirst, brought_grows}
use Rattle.adb_laws_births.proofs.Born.{all_births}
use Rattle.adb_laws_births.proofs.Crossing.{no_crossing}
use Rattle.adb_laws_births.proofs.Endings.{all_endings}
use Rattle.adb_laws_causes.proofs.Endings.{ends_at}
use Rattle.adb_laws_causes.proofs.Fates.{ending_append}
use Rattle.adb_laws_fifo_down.specs.Begins.{IsBornNow}
use Rattle.adb_laws_fifo_down.proofs.BornNow.{born_when}
use Rattle.adb_device_streams.specs.Asked.{Kind, service_of, name_of}
use Rattle.adb_device_streams.specs.Stream.{opened}
use Rattle.adb_device_streams.specs.declared.link.Link.{Link}
use Rattle.adb_daemon.specs.Serving.{Serving, is_taken, kind_for, credit_of}
use Rattle.adb_daemon.specs.Device.{Device, Setting, step, first_device, device_behind}
use Rattle.adb_laws_model_device.specs.Counts.{how_many}
use Rattle.adb_laws_model_device.specs.Paired.{IsStill}
use Rattle.adb_laws_model_device.proofs.Counts.{many_append}
use Rattle.adb_laws_model_device.specs.Joined.{IsJoined}
use Rattle.adb_laws_model_device.specs.Owed.{packets_owed}
use Rattle.adb_laws_model_device.specs.Rows.{is_close_between, is_cnxn_packet}
use Rattle.adb_laws_model_device.proofs.Opened.{answers_opens}
use Rattle.adb_laws_model_device.proofs.Sound.{never_refused}
use Rattle.adb_laws_worlds.specs.Known.{KnownAreOpened}
use Rattle.adb_laws_worlds.proofs.Asked.{opened_so}
use Rattle.adb_laws_worlds.proofs.Drawing.{begun_by, draws, settled_drawn, IsDrawing}
use Rattle.adb_laws_worlds.proofs.Named.{all_go, okay_to, drawn_if_acked}
use Rattle.adb_laws_worlds.proofs.Opening.{IsFirst, asking, open_command, sound, some_id, linked, parts, none_before, else_okays}
use Rattle.adb_laws_worlds.proofs.Opening.{else_closes}
use Rattle.adb_laws_worlds.proofs.Refusals.{opened_unrefused}
use Rattle.adb_laws_worlds.proofs.Splits.{okays_append, at_split}
use Rattle.adb_laws_worlds.proofs.Told.{named_service}
use Rattle.adb_laws_worlds.proofs.Unasked.{behind_unasked, none_taken}
use Rattle.adb_laws_worlds.proofs.Unbroken.{brings_sound, said_who}

-- ---- how many streams were asked for
abbrev asks : Packet → Bool
asks p = is_open p.command

-- a device draws an id by an OPEN alone
drawn_few : (setting : Setting) (packets : List Packet) (d : Device)
    → (fold (step setting) d packets).serving.drawn ≤ d.serving.drawn + how_many asks packets
drawn_few setting [] d = omega arith
drawn_few setting (p ∷ packets) d = go (draws setting d p) (drawn_few setting packets (step setting d p))
  where
    more : (b : Bool) → how_many asks packets ≤ cond b (1 + how_many asks packets) (how_many asks packets)
    more true = omega arith
    more false = omega arith

    go : ((step setting d p).serving.drawn ≡ d.serving.drawn) ⊎ IsDrawing d p (step setting d p).serving
        → (fold (step setting) (step setting d p) packets).serving.drawn ≤ (step setting d p).serving.drawn + how_many asks packets
        → (fold (step setting) (step setting d p) packets).serving.drawn ≤ d.serving.drawn + how_many asks (p ∷ packets)
    go (inl same) few = (let fewer = more (is_open p.command) in omega (arith, same, few, fewer))
    go (inr x) few =
        let next : (step setting d p).serving.drawn ≡ d.serving.drawn + 1 =
        ap (λ (s : Serving). s.drawn) x.makes
        ∙ settled_drawn x.link (d.serving.drawn + 1) (opened p.arg0 x.kind d.serving.files (credit_of x.link p))
        (begun_by x.link p x.kind d.serving) in
        let one : how_many asks (p ∷ packets) ≡ 1 + how_many asks packets =
        ap (λ (c : Command). cond (is_open c) (1 + how_many asks packets) (how_many asks packets)) x.command in
        omega (arith, few, next, one)

-- the OPENs of the first ids, together
abbrev sum_opens : ℕ → List Packet → ℕ
sum_opens zero ps = 0
sum_opens (suc k) ps = count_from is_open (suc k) ps + sum_opens k ps

sum_same : (k : ℕ) (p : Packet) (ps : List Packet) → ((l : ℕ) → 0 < l → l ≤ k → (is_open p.command && nat_eq p.arg0 l) ≡ false)
    → sum_opens k (p ∷ ps) ≡ sum_opens k ps
sum_same zero p ps none = refl
sum_same (suc k) p ps none =
    let here : count_from is_open (suc k) (p ∷ ps) ≡ count_from is_open (suc k) ps =
    ap (λ (b : Bool). cond b (1 + count_from is_open (suc k) ps) (count_from is_open (suc k) ps))
    (none (suc k) (omega arith) (omega arith)) in
    let rest = sum_same k p ps (λ l some le. none l some (omega (arith, le))) in
    omega (arith, here, rest)

and_false : (b : Bool) → (b && false) ≡ false
and_false true = refl
and_false false = refl

sum_more : (k : ℕ) (p : Packet) (ps : List Packet) → is_open p.command ≡ true → 0 < p.arg0 → p.arg0 ≤ k
    → 1 + sum_opens k ps ≤ sum_opens k (p ∷ ps)
sum_more zero p ps asked some le = absurd (omega (arith, some, le))
sum_more (suc k) p ps asked some le = go (cases_eq p.arg0 (suc k)) (λ below. sum_more k p ps asked some below)
  where
    go : (p.arg0 ≡ suc k) ⊎ (p.arg0 ≢ suc k) → (p.arg0 ≤ k → 1 + sum_opens k ps ≤ sum_opens k (p ∷ ps))
        → 1 + (count_from is_open (suc k) ps + sum_opens k ps) ≤ count_from is_open (suc k) (p ∷ ps) + sum_opens k (p ∷ ps)
    go (inl is) later =
        let here : count_from is_open (suc k) (p ∷ ps) ≡ 1 + count_from is_open (suc k) ps =
        ap (λ (b : Bool). cond (b && nat_eq p.arg0 (suc k)) (1 + count_from is_open (suc k) ps) (count_from is_open (suc k) ps)) asked
        ∙ ap (λ (b : Bool). cond b (1 + count_from is_open (suc k) ps) (count_from is_open (suc k) ps)) (eq-eqb p.arg0 (suc k) is) in
        let rest : sum_opens k (p ∷ ps) ≡ sum_opens k ps =
        sum_same k p ps (λ l more below.
        ap (λ (b : Bool). is_open p.command && b) (ne_eqb p.arg0 l (λ same. omega (arith, same, is, below)))
        ∙ and_false (is_open p.command)) in
        omega (arith, here, rest)
    go (inr other) later =
        let rest = later (omega (arith, le, other)) in
        let here : count_from is_open (suc k) (p ∷ ps) ≡ count_from is_open (suc k) ps =
        ap (λ (b : Bool). cond (is_open p.command && b) (1 + count_from is_open (suc k) ps)
        (count_from is_open (suc k) ps)) (ne_eqb p.arg0 (suc k) other)
        ∙ ap (λ (b : Bool). cond b (1 + count_from is_open (suc k) ps) (count_from is_open (suc k) ps)) (and_false (is_open p.command)) in
        omega (arith, here, rest)

-- an OPEN of one of the first ids
abbrev IsWithin : ℕ → Packet → Type 0
IsWithin k p = is_open p.command ≡ true → (0 < p.arg0) × (p.arg0 ≤ k)

many_summed : (k : ℕ) (ps : List Packet) → All (IsWithin k) ps → how_many asks ps ≤ sum_opens k ps
many_summed k [] all = omega arith
many_summed k (p ∷ ps) all = go (is_open p.command) refl (many_summed k ps (All-tail (IsWithin k) p ps all))
  where
    go : (b : Bool) → is_open p.command ≡ b → how_many asks ps ≤ sum_opens k ps
        → cond b (1 + how_many asks ps) (how_many asks ps) ≤ sum_opens k (p ∷ ps)
    go true e few = (let at = All-head (IsWithin k) p ps all e in let more = sum_more k p ps e at.0 at.1 in omega (arith, few, more))
    go false e few =
        let same = sum_same k p ps (λ l some le. ap (λ (b : Bool). b && nat_eq p.arg0 l) e) in omega (arith, few, same)

sum_few : (k : ℕ) (ps : List Packet) → ((l : ℕ) → count_from is_open l ps ≤ 1) → sum_opens k ps ≤ k
sum_few zero ps once = omega arith
sum_few (suc k) ps once = (let one = once (suc k) in let rest = sum_few k ps once in omega (arith, one, rest))

-- where each id asks once, there are no more OPENs than ids
opens_few : (k : ℕ) (ps : List Packet) → All (IsWithin k) ps → ((l : ℕ) → count_from is_open l ps ≤ 1) → how_many asks ps ≤ k
opens_few k ps all once = (let summed = many_summed k ps all in let few = sum_few k ps once in omega (arith, summed, few))

-- ---- what opens a stream
opened_some : (own l : ℕ) (ps : List Packet) → own ≢ 0 → 1 ≤ okays_in own l ps → how_many (is_close_between 0 l) ps ≡ 0
    → how_many is_cnxn_packet ps ≡ 0 → is_some (opening_in l ps) ≡ true
opened_some own l [] some okays closes cnxns = absurd (omega (arith, okays))
opened_some own l (p ∷ ps) some okays closes cnxns =
    by p.command refl okays closes cnxns (opened_some own l ps some)
  where
    okay : (to : Bool) → nat_eq p.arg1 l ≡ to → (zeroth : Bool) → (p.arg0 == 0) ≡ zeroth → (from : Bool) → nat_eq p.arg0 own ≡ from
        → 1 ≤ cond (from && to) (1 + okays_in own l ps) (okays_in own l ps)
        → (1 ≤ okays_in own l ps → is_some (opening_in l ps) ≡ true)
        → is_some (cond (to && not zeroth)
        (Some (record { remote = p.arg0; word = credit_word p.payload; later = ps })) (opening_in l ps)) ≡ true
    okay true e false f from g n later = refl
    okay true e true f true g n later = absurd (some (sym (eqb-true p.arg0 own g) ∙ eqb-true p.arg0 0 f))
    okay true e true f false g n later = later n
    okay false e z f true g n later = later n
    okay false e z f false g n later = later n

    closed : (b : Bool) → cond b (1 + how_many (is_close_between 0 l) ps) (how_many (is_close_between 0 l) ps) ≡ 0
        → (how_many (is_close_between 0 l) ps ≡ 0 → is_some (opening_in l ps) ≡ true) → is_some (cond b None (opening_in l ps)) ≡ true
    closed true n later = absurd (omega (arith, n))
    closed false n later = later n

    by : (c : Command) → p.command ≡ c
        → 1 ≤ cond (is_okay c && is_between own l p) (1 + okays_in own l ps) (okays_in own l ps)
        → cond (is_clse c && is_between 0 l p) (1 + how_many (is_close_between 0 l) ps) (how_many (is_close_between 0 l) ps) ≡ 0
        → cond (is_cnxn c) (1 + how_many is_cnxn_packet ps) (how_many is_cnxn_packet ps) ≡ 0
        → (1 ≤ okays_in own l ps → how_many (is_close_between 0 l) ps ≡ 0 → how_many is_cnxn_packet ps ≡ 0
        → is_some (opening_in l ps) ≡ true)
        → is_some (opening_by c l p ps (opening_in l ps)) ≡ true
    by Okay k n m i later = okay (nat_eq p.arg1 l) refl (p.arg0 == 0) refl (nat_eq p.arg0 own) refl n (λ more. later more m i)
    by Clse k n m i later = closed (is_between 0 l p) m (λ none. later n none i)
    by Cnxn k n m i later = absurd (omega (arith, i))
    by _ k n m i later = later n m i

-- ---- a stream is born when its device has said who it is
born_number : (l : ℕ) (b : Birth) (h : History) → born l h ≡ Some b → (0 < l) × (l ≤ stream_ids)
born_number zero b h is = absurd (let clash : None ≡ Some b = is in cc)
born_number (suc k) b h is = (omega arith, go (nat_lt k stream_ids) refl is)
  where
    go : (t : Bool) → nat_lt k stream_ids ≡ t → cond t (slice_get (births h) k) None ≡ Some b → suc k ≤ stream_ids
    go true e f = (let lt = ltb-true k stream_ids e in omega (arith, lt))
    go false e f = absurd (let clash : None ≡ Some b = f in cc)

-- the entry of a birth brings nothing
brings_none : (e : Entry) (older : History) (b : Birth) → births_at e older ≡ b ∷ [] → brought 1 (e ∷ older) ≡ brought 1 older
brings_none (Read c bytes) older b is = refl
brings_none (Enter c port) older b is = refl
brings_none _ older b is = absurd (let clash : [] ≡ b ∷ [] = is in cc)

module _ (e : Entry) (older : History) (legal : IsLegal (e ∷ older)) (l : ℕ) (b : Birth) (birth : born l (e ∷ older) ≡ Some b)
    (now : IsBornNow l b e older) where
  above : (state older).drawn < l
  above = (let drawn = (all_births older legal.0).drawn in let number = now.number in omega (arith, drawn, number))

  -- it lives then
  unended : ending_of l (e ∷ older) ≡ None
  unended = go (ending_in l (told_at e older)) refl
    where
      go : (o : Option Ending) → ending_in l (told_at e older) ≡ o → ending_of l (e ∷ older) ≡ None
      go None is =
          ending_append l (told older) (told_at e older)
          ∙ (ap (λ (o : Option Ending). option_or o (ending_in l (told_at e older)))
          ((all_endings older legal.0 l).undrawn (inr above)) ∙ is)
      go (Some y) is =
          let x = ends_at l e older y legal is in
          absurd (let clash : None ≡ Some x.row = sym ((orderly older legal.0).streams.above l above) ∙ x.is in cc)

  lives : (x : Stream) × ((state (e ∷ older)).streams l ≡ Some x)
  lives = go ((state (e ∷ older)).streams l) refl
    where
      ids : l ≤ (state (e ∷ older)).drawn
      ids =
          let drawn = (all_births (e ∷ older) legal).drawn in
          let number = now.number in
          let within = now.within in
          let more : length (births (e ∷ older)) ≡ length (births older) + length (births_at e older) =
          length-append (births older) (births_at e older) in
          let one : length (births_at e older) ≡ 1 = ap length now.is in
          omega (arith, drawn, number, within, more, one)

      go : (o : Option Stream) → (state (e ∷ older)).streams l ≡ o → (x : Stream) × ((state (e ∷ older)).streams l ≡ Some x)
      go (Some x) is = (x, is)
      go None is =
          let some = (all_endings (e ∷ older) legal l).gone is (born_number l b (e ∷ older) birth).0 ids in
          absurd (let clash : false ≡ true = sym (ap is_some unended) ∙ some in cc)

  said : b.link ≡ 1 → 1 ≤ how_many is_cnxn_packet (brought 1 older)
  said own =
      let kept = (all_births (e ∷ older) legal).kept l lives.0 lives.1 in
      let same : kept.birth ≡ b = (let both : Some kept.birth ≡ Some b = sym kept.is ∙ birth in cc) in
      let on : lives.0.link ≡ 1 = kept.link ∙ (ap (λ (c : Birth). c.link) same ∙ own) in
      let connected : is_connected 1 (state (e ∷ older)).devices ≡ true =
      ap (λ (t : ℕ). is_connected t (state (e ∷ older)).devices) (sym on)
      ∙ ((orderly (e ∷ older) legal).stream l lives.0 lives.1).connected in
      subst (λ (ps : List Packet). 1 ≤ how_many is_cnxn_packet ps) (brings_none e older b now.is) (said_who (e ∷ older) legal 1 connected)

-- so its device's CNXN came before
said_before : (h : History) → IsLegal h → (l : ℕ) (b : Birth) → born l h ≡ Some b → b.link ≡ 1
    → (b.packets_before ≤ length (brought 1 h)) × (1 ≤ how_many is_cnxn_packet (take b.packets_before (brought 1 h)))
said_before [] legal l b is own = absurd (none l is)
  where
    by : (t : Bool) → cond t None None ≡ Some b → ⊥
    by true f = let clash : None ≡ Some b = f in cc
    by false f = let clash : None ≡ Some b = f in cc

    none : (l : ℕ) → born l [] ≡ Some b → ⊥
    none zero e = let clash : None ≡ Some b = e in cc
    none (suc j) e = by (nat_lt j stream_ids) e
said_before (e ∷ older) legal l b is own = go (born_when l b e older is) (λ was. said_before older legal.0 l b was own)
  where
    grown : ComeFirst (brought 1 older) (brought 1 (e ∷ older))
    grown = brought_grows 1 e older

    longer : length (brought 1 older) ≤ length (brought 1 (e ∷ older))
    longer = (let n = ap length grown.1 in let m = length-append (brought 1 older) grown.0 in omega (arith, n, m))

    same : b.packets_before ≤ length (brought 1 older) → take b.packets_before (brought 1 (e ∷ older))
        ≡ take b.packets_before (brought 1 older)
    same le = ap (take b.packets_before) (sym grown.1) ∙ take-append-le b.packets_before (brought 1 older) grown.0 le

    go : (born l older ≡ Some b) ⊎ IsBornNow l b e older
        → (born l older ≡ Some b → (b.packets_before ≤ length (brought 1 older))
        × (1 ≤ how_many is_cnxn_packet (take b.packets_before (brought 1 older))))
        → (b.packets_before ≤ length (brought 1 (e ∷ older)))
        × (1 ≤ how_many is_cnxn_packet (take b.packets_before (brought 1 (e ∷ older))))
    go (inl was) before =
        let p = before was in (
          (let le = p.0 in omega (arith, le, longer)),
          subst (λ (ps : List Packet). 1 ≤ how_many is_cnxn_packet ps) (sym (same p.0)) p.1,
        )
    go (inr now) before =
        let place : b.packets_before ≡ length (brought 1 older) = birth_place e older b now.is ∙ ap (λ t. length (brought t older)) own in
        let all : take b.packets_before (brought 1 older) ≡ brought 1 older =
        ap (λ (n : ℕ). take n (brought 1 older)) place
        ∙ (ap (take (length (brought 1 older))) (sym (append-nil (brought 1 older))) ∙ take-append_seam (brought 1 older) []) in (
          omega (arith, place, longer),
          subst (λ (ps : List Packet). 1 ≤ how_many is_cnxn_packet ps) (sym (same (omega (arith, place)) ∙ all))
              (said e older legal l b is now own),
        )

-- ---- the stream
module _ (setting : Setting) (short : setting.most < 2 ^ 32) (h : History) (legal : IsLegal h) (tied : IsJoined setting h)
    (still : IsStill (packets_owed setting) h) (l : ℕ) (b : Birth) (birth : born l h ≡ Some b) (own : b.link ≡ 1)
    (known : is_some (service_of b.service) ≡ true) where
  first : IsFirst is_open l (sent 1 h)
  first = asking setting short h legal tied still l b birth own

  command : first.p.command ≡ Open
  command = open_command setting short h legal tied still l b birth own first.p.command first.such

  some : first.p.arg0 ≢ 0
  some zeroth = some_id setting short h legal tied still l b birth own (sym first.from ∙ zeroth)

  -- its OPEN
  payload : first.p.payload ≡ b.service ++ 0 ∷ []
  payload =
      let owned : IsOwn h 1 first.p.command first.p =
      at_split (λ p. IsOwn h 1 p.command p) first.front first.p first.rest
      (subst (λ (ps : List Packet). All (λ p. IsOwn h 1 p.command p) ps) (sym first.is) ((no_crossing h legal).own 1)) in
      let of : IsOpenOf h 1 first.p = subst (λ (c : Command). IsOwn h 1 c first.p) command owned in
      let found : Some of.birth ≡ Some b = sym of.is ∙ (ap (λ n. born n h) first.from ∙ birth) in
      let same : of.birth ≡ b = cc in
      ap (λ (p : Packet). p.payload) of.packet ∙ ap (λ (c : Birth). c.service ++ 0 ∷ []) same

  within : (ps : List Packet) → All (λ p. IsOwn h 1 p.command p) ps → All (IsWithin stream_ids) ps
  within [] all = All-nil (IsWithin stream_ids)
  within (p ∷ ps) all =
      All-cons (IsWithin stream_ids) p ps (by p.command refl (All-head (λ p. IsOwn h 1 p.command p) p ps all))
      (within ps (All-tail (λ p. IsOwn h 1 p.command p) p ps all))
    where
      by : (c : Command) → p.command ≡ c → IsOwn h 1 c p → IsWithin stream_ids p
      by Open k of e = born_number p.arg0 of.birth h of.is
      by _ k of e = absurd (let clash : false ≡ true = sym (ap is_open k) ∙ e in cc)

  -- an id is left for it
  left : (device_behind setting first.front).serving.drawn ≢ 2 ^ 32 - 1
  left all =
      let few = opens_few stream_ids (sent 1 h) (within (sent 1 h) ((no_crossing h legal).own 1)) ((no_crossing h legal).once 1) in
      let drawn = drawn_few setting first.front (first_device setting) in
      let sum : how_many asks (sent 1 h) ≡ how_many asks first.front + how_many asks (first.p ∷ first.rest) =
      ap (how_many asks) (sym first.is) ∙ many_append asks first.front (first.p ∷ first.rest) in
      let one : how_many asks (first.p ∷ first.rest) ≡ 1 + how_many asks first.rest =
      ap (λ (c : Command). cond (is_open c) (1 + how_many asks first.rest) (how_many asks first.rest)) command in
      let none : (first_device setting).serving.drawn ≡ 0 = refl in
      omega (arith, few, drawn, sum, one, none, all)

  kind_is : kind_for (device_behind setting first.front).serving.drawn first.p ≡ service_of b.service
  kind_is =
      ap (λ (t : Bool). if t then None else service_of (name_of first.p.payload))
      (ne_eqb (device_behind setting first.front).serving.drawn (2 ^ 32 - 1) left)
      ∙ ap service_of (ap name_of payload ∙ named_service b.service)

  free : is_taken first.p.arg0 (device_behind setting first.front).serving.rows ≡ false
  free =
      none_taken first.p.arg0 (device_behind setting first.front).serving
      (behind_unasked first.p.arg0 setting first.front (ap (λ (n : ℕ). count_from is_open n first.front) first.from ∙ first.none))

  -- the id that answers
  record IsAnswered : Type 0 where
    id : ℕ
    nonzero : id ≢ 0
    okay : 1 ≤ okays_in id l (packets_owed setting (sent 1 h))

  answered : IsAnswered
  unfolding first
  answered =
      by (device_behind setting first.front).link refl (linked setting short h legal tied still l b birth own)
      (service_of b.service) refl known
    where
      by : (o : Option Link) → (device_behind setting first.front).link ≡ o → is_some o ≡ true
          → (k : Option Kind) → service_of b.service ≡ k → is_some k ≡ true → IsAnswered
      by None is there k kind some_kind = absurd (let clash : false ≡ true = there in cc)
      by (Some link) is there None kind some_kind = absurd (let clash : false ≡ true = some_kind in cc)
      by (Some link) is there (Some k) kind some_kind =
          let o = answers_opens setting first.front first.p first.rest link k
          (sound setting short h legal tied still l b birth own) is command some free
          (kind_is ∙ kind) in
          record {
            id = (device_behind setting first.front).serving.drawn + 1;
            nonzero = λ e. omega (arith, e);
            okay = subst (λ (n : ℕ). 1 ≤ okays_in ((device_behind setting first.front).serving.drawn + 1) n
                (packets_owed setting (sent 1 h))) first.from
                (subst (λ (ps : List Packet).
                1 ≤ okays_in ((device_behind setting first.front).serving.drawn + 1) first.p.arg0
                (packets_owed setting ps)) first.is o.okay);
          }

  positive : 0 < answered.id
  positive = go answered.id answered.nonzero
    where
      go : (n : ℕ) → n ≢ 0 → 0 < n
      go zero none = absurd (none refl)
      go (suc n) none = omega arith

  unrefused : how_many (is_close_between 0 l) (packets_owed setting (sent 1 h)) ≡ 0
  unrefused =
      opened_unrefused setting answered.id l (sent 1 h) answered.nonzero
      (drawn_if_acked answered.id positive setting (sent 1 h) l answered.okay)
      (λ x. sym (okay_to answered.id x.asking.arg0 l (packets_owed setting (sent 1 h))
      (all_go answered.id x.asking.arg0 (device_behind setting (sent 1 h)).serving.made
      (opened_so setting answered.id (sent 1 h) (never_refused setting 1 h legal) x).named) answered.okay))
      ((no_crossing h legal).once 1 l)

  pub opened_now : is_some (opening_in l (since b h)) ≡ true
  opened_now =
      opened_some answered.id l (since b h) answered.nonzero (omega (arith, okay, okays, all_okays, okays_before))
      (none_of (how_many (is_close_between 0 l) (since b h)) (omega (arith, unrefused, closes, all_closes, closes_before)))
      (none_of (how_many is_cnxn_packet (since b h)) (omega (arith, once, said_first, all_cnxns)))
    where
      none_of : (n : ℕ) → n ≤ 0 → n ≡ 0
      none_of n le = omega (arith, le)

      whole : packets_owed setting (sent 1 h) ≡ take b.packets_before (brought 1 h) ++ since b h
      whole = parts setting short h legal tied still l b birth own

      okay : 1 ≤ okays_in answered.id l (packets_owed setting (sent 1 h))
      okay = answered.okay

      okays : okays_in answered.id l (packets_owed setting (sent 1 h))
          ≡ okays_in answered.id l (take b.packets_before (brought 1 h) ++ since b h)
      okays = ap (okays_in answered.id l) whole

      all_okays : okays_in answered.id l (take b.packets_before (brought 1 h) ++ since b h)
          ≡ okays_in answered.id l (take b.packets_before (brought 1 h)) + okays_in answered.id l (since b h)
      all_okays = okays_append answered.id l (take b.packets_before (brought 1 h)) (since b h)

      okays_before : okays_in answered.id l (take b.packets_before (brought 1 h)) ≡ 0
      okays_before = else_okays l answered.id (take b.packets_before (brought 1 h))
          (none_before setting short h legal tied still l b birth own)

      closes : how_many (is_close_between 0 l) (packets_owed setting (sent 1 h))
          ≡ how_many (is_close_between 0 l) (take b.packets_before (brought 1 h) ++ since b h)
      closes = ap (how_many (is_close_between 0 l)) whole

      all_closes : how_many (is_close_between 0 l) (take b.packets_before (brought 1 h) ++ since b h)
          ≡ how_many (is_close_between 0 l) (take b.packets_before (brought 1 h)) + how_many (is_close_between 0 l) (since b h)
      all_closes = many_append (is_close_between 0 l) (take b.packets_before (brought 1 h)) (since b h)

      closes_before : how_many (is_close_between 0 l) (take b.packets_before (brought 1 h)) ≡ 0
      closes_before = else_closes l (take b.packets_before (brought 1 h)) (none_before setting short h legal tied still l b birth own)

      once : how_many is_cnxn_packet (brought 1 h) ≤ 1
      once = (brings_sound setting short h legal tied).once

      said_first : 1 ≤ how_many is_cnxn_packet (take b.packets_before (brought 1 h))
      said_first = (said_before h legal l b birth own).1

      all_cnxns : how_many is_cnxn_packet (brought 1 h)
          ≡ how_many is_cnxn_packet (take b.packets_before (brought 1 h)) + how_many is_cnxn_packet (since b h)
      all_cnxns =
          ap (how_many is_cnxn_packet) (sym (take-append-drop b.packets_before (brought 1 h)))
          ∙ (many_append is_cnxn_packet (take b.packets_before (brought 1 h)) (drop b.packets_before (brought 1 h))
          ∙ ap (λ (t : ℕ). how_many is_cnxn_packet (take b.packets_before (brought 1 h))
          + how_many is_cnxn_packet (drop b.packets_before (brought t h)))
          (sym own))

pub known_are_opened : (setting : Setting) → setting.most < 2 ^ 32 → (h : History) → IsLegal h → IsJoined setting h
    → KnownAreOpened setting h
known_are_opened setting short h legal tied still l b birth own known = opened_now setting short h legal tied still l b birth own known
