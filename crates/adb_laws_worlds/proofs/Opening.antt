-- Where nothing is on its way, each stream of a server that lives is open.
use Rattle.std.specs.Prelude.{ℕ, ◌+◌, ◌^◌, ◌≡◌, ◌≢◌, ◌<◌, ◌≤◌, ◌==◌, ◌&&◌, not, Bool, true, false, cond, nat_eq, nat_lt, is_some, fold, All}
use Rattle.std.specs.Prelude.{List, [], ◌∷◌}
use Rattle.std.specs.Prelude.{◌++◌, length, take, drop}
use Rattle.std.specs.Prelude.{Contains, Option, Some, None}
use Rattle.std.proofs.Common.{zero, suc, refl, sym, ◌∙◌, ap, subst, arith, ◌⊎◌, inl, inr}
use Rattle.std.proofs.lemmas.Bool.{cases_lt, eq-eqb, eqb-true}
use Rattle.std.proofs.lemmas.List.{length-append, take-append-le, take-append-drop}
use Rattle.std.proofs.lemmas.List.Elements.{All-nil, All-cons, All-head, All-tail, All-take, All-contains, Contains-append_left}
use Rattle.std.proofs.lemmas.List.Elements.{Contains-append_right}
use Rattle.adb_wire.specs.declared.command.Command.{Command}
use Rattle.adb_wire.specs.declared.command.Command.TheVariants.{Cnxn, Open, Okay, Wrte, Clse, Auth, Stls}
use Rattle.adb_wire.specs.declared.packets.Packet.{Packet}
use Rattle.adb_stream.specs.declared.row.Stream.{Stream}
use Rattle.adb_history.specs.Book.{plugged_count}
use Rattle.adb_history.specs.Events.{packets_to}
use Rattle.adb_history.specs.Links.{server_cnxn, open_packet, credit_word}
use Rattle.adb_history.specs.Streams.{stream_ids}
use Rattle.adb_history.specs.Lives.{packets_of}
use Rattle.adb_history.specs.Machine.{History, state, told, told_at, IsLegal}
use Rattle.adb_history.specs.Bytes.{brought, sent}
use Rattle.adb_history.specs.Births.{Birth, Opening, born, since, opening_by, opening_in, is_between, count_from, is_okay, is_clse, is_open}
use Rattle.adb_history.specs.Fifo.{okays_in}
use Rattle.adb_history.specs.Opened.{AsksAtOnce}
use Rattle.adb_laws_births.specs.Births.{birth_place, born_stays}
use Rattle.adb_laws_births.specs.Brought.{ComeFirst, brought_grows}
use Rattle.adb_laws_births.specs.Openings.{IsHeard}
use Rattle.adb_laws_births.proofs.Asking.{asks_at_once}
use Rattle.adb_laws_births.proofs.Born.{all_born}
use Rattle.adb_laws_births.proofs.Laws.{sends_first}
use Rattle.adb_laws_births.proofs.Once.{packets_append, all_once}
use Rattle.adb_laws_fifo_down.specs.Begins.{IsBornNow}
use Rattle.adb_laws_fifo_down.proofs.BornNow.{born_when}
use Rattle.adb_device_streams.specs.Link.{link_of}
use Rattle.adb_device_streams.specs.declared.link.Link.{Link}
use Rattle.adb_daemon.specs.Device.{Device, Setting, step, linked_to, first_device, device_behind}
use Rattle.adb_laws_model_device.specs.Counts.{how_many}
use Rattle.adb_laws_model_device.specs.Paired.{IsPaired, IsStill}
use Rattle.adb_laws_model_device.proofs.Counts.{many_append, count_front}
use Rattle.adb_laws_model_device.specs.Joined.{IsJoined}
use Rattle.adb_laws_model_device.specs.Opened.{is_of_stream}
use Rattle.adb_laws_model_device.specs.Owed.{packets_owed}
use Rattle.adb_laws_model_device.specs.Rows.{is_close_between}
use Rattle.adb_laws_model_device.proofs.Joined.{paired}
use Rattle.adb_laws_model_device.proofs.Sound.{never_refused, makes_link}
use Rattle.adb_laws_worlds.specs.Opening.{IsRepliedTo, AllAreOpen}
use Rattle.adb_laws_worlds.proofs.Drawing.{link_stays}
use Rattle.adb_laws_worlds.proofs.Greeted.{greets_links}
use Rattle.adb_laws_worlds.proofs.InTime.{sound_before}
use Rattle.adb_laws_worlds.proofs.Replied.{replies_to_opens}
use Rattle.adb_laws_worlds.proofs.Splits.{none_from, okays_append}
use Rattle.adb_laws_worlds.proofs.Unasked.{NotTo, none_owed}

-- ---- a stream that is not open has heard nothing of its opening
-- a packet that opens any stream to this id
abbrev probe : ℕ → Packet
probe l = record { command = Okay; arg0 = 1; arg1 = l; payload = [] }

-- what some packets say of an opening is what follows says
abbrev IsPending : ℕ → List Packet → Type 0
IsPending l ps = (later : List Packet) → opening_in l (ps ++ later) ≡ opening_in l later

opens_one : (l : ℕ) → is_some (opening_in l (probe l ∷ [])) ≡ true
opens_one l =
    ap (λ (b : Bool). is_some {T = Opening} (cond (b && true) (Some (record { remote = 1; word = credit_word []; later = [] })) None))
    (eq-eqb l l refl)

module _ (l : ℕ) where
  -- one packet of them says nothing of it either
  pending_tail : (p : Packet) (ps : List Packet) → IsPending l (p ∷ ps)
      → IsPending l ps × (((own : ℕ) → own ≢ 0 → (is_okay p.command && is_between own l p) ≡ false) × (is_close_between 0 l p ≡ false))
  pending_tail p ps pending = by p.command refl pending
    where
      Goal : Command → Type 0
      Goal c = IsPending l ps
          × (((own : ℕ) → own ≢ 0 → (is_okay c && is_between own l p) ≡ false)
          × ((is_clse c && is_between 0 l p) ≡ false))

      okay : (a : Bool) → nat_eq p.arg1 l ≡ a → (z : Bool) → (p.arg0 == 0) ≡ z
          → ((later : List Packet)
          → cond (a && not z)
          (Some (record { remote = p.arg0; word = credit_word p.payload; later = ps ++ later }))
          (opening_in l (ps ++ later)) ≡ opening_in l later) → Goal Okay
      okay true e false f h =
          absurd (let clash : Some (record { remote = p.arg0; word = credit_word p.payload; later = ps ++ [] })
          ≡ None = h [] in cc)
      okay true e true f h = (h, ((λ own some. from own some (nat_eq p.arg0 own) refl), refl))
        where
          from : (own : ℕ) → own ≢ 0 → (b : Bool) → nat_eq p.arg0 own ≡ b → (b && nat_eq p.arg1 l) ≡ false
          from own some true g = absurd (some (sym (eqb-true p.arg0 own g) ∙ eqb-true p.arg0 0 f))
          from own some false g = refl
      okay false e z f h = (h, ((λ own some. to (nat_eq p.arg0 own)), refl))
        where
          to : (b : Bool) → (b && nat_eq p.arg1 l) ≡ false
          to true = e
          to false = refl

      closed : (b : Bool) → is_between 0 l p ≡ b
          → ((later : List Packet) → cond b None (opening_in l (ps ++ later)) ≡ opening_in l later) → Goal Clse
      closed true e h = absurd (
          let none : is_some (opening_in l (probe l ∷ [])) ≡ false = ap is_some (sym (h (probe l ∷ []))) in
          let clash : true ≡ false = sym (opens_one l) ∙ none in cc)
      closed false e h = (h, ((λ own some. refl), e))

      other : (c : Command) → is_okay c ≡ false → is_clse c ≡ false → IsPending l ps → Goal c
      other c e f h = (h, ((λ own some. ap (λ (b : Bool). b && is_between own l p) e), ap (λ (b : Bool). b && is_between 0 l p) f))

      by : (c : Command) → p.command ≡ c
          → ((later : List Packet) → opening_by c l p (ps ++ later) (opening_in l (ps ++ later)) ≡ opening_in l later)
          → Goal c
      by Okay k h = okay (nat_eq p.arg1 l) refl (p.arg0 == 0) refl h
      by Clse k h = closed (is_between 0 l p) refl h
      by Cnxn k h = absurd (
          let none : is_some (opening_in l (probe l ∷ [])) ≡ false = ap is_some (sym (h (probe l ∷ []))) in
          let clash : true ≡ false = sym (opens_one l) ∙ none in cc)
      by Open k h = other Open refl refl h
      by Wrte k h = other Wrte refl refl h
      by Auth k h = other Auth refl refl h
      by Stls k h = other Stls refl refl h

  -- so there is no OKAY among them, and no refusal
  pending_okays : (own : ℕ) → own ≢ 0 → (ps : List Packet) → IsPending l ps → okays_in own l ps ≡ 0
  pending_okays own some [] pending = refl
  pending_okays own some (p ∷ ps) pending =
      let one = pending_tail p ps pending in
      ap (λ (b : Bool). cond b (1 + okays_in own l ps) (okays_in own l ps)) (one.1.0 own some) ∙ pending_okays own some ps one.0

  pending_closes : (ps : List Packet) → IsPending l ps → how_many (is_close_between 0 l) ps ≡ 0
  pending_closes [] pending = refl
  pending_closes (p ∷ ps) pending =
      let one = pending_tail p ps pending in
      ap (λ (b : Bool). cond b (1 + how_many (is_close_between 0 l) ps) (how_many (is_close_between 0 l) ps)) one.1.1
      ∙ pending_closes ps one.0

  -- nor among packets that go elsewhere
  pub else_okays : (own : ℕ) (ps : List Packet) → All (NotTo l) ps → okays_in own l ps ≡ 0
  else_okays own [] all = refl
  else_okays own (p ∷ ps) all = by p.command refl (nat_eq p.arg0 own) (nat_eq p.arg1 l) refl
      (else_okays own ps (All-tail (NotTo l) p ps all))
    where
      by : (c : Command) → p.command ≡ c → (a b : Bool) → nat_eq p.arg1 l ≡ b → okays_in own l ps ≡ 0
          → cond (is_okay c && (a && b)) (1 + okays_in own l ps) (okays_in own l ps) ≡ 0
      by Okay k true true e none = absurd (All-head (NotTo l) p ps all (ap is_of_stream k) (eqb-true p.arg1 l e))
      by _ k _ _ e none = none

  pub else_closes : (ps : List Packet) → All (NotTo l) ps → how_many (is_close_between 0 l) ps ≡ 0
  else_closes [] all = refl
  else_closes (p ∷ ps) all = by p.command refl (nat_eq p.arg0 0) (nat_eq p.arg1 l) refl (else_closes ps (All-tail (NotTo l) p ps all))
    where
      by : (c : Command) → p.command ≡ c → (a b : Bool) → nat_eq p.arg1 l ≡ b → how_many (is_close_between 0 l) ps ≡ 0
          → cond (is_clse c && (a && b)) (1 + how_many (is_close_between 0 l) ps) (how_many (is_close_between 0 l) ps) ≡ 0
      by Clse k true true e none = absurd (All-head (NotTo l) p ps all (ap is_of_stream k) (eqb-true p.arg1 l e))
      by _ k _ _ e none = none

-- ---- lists
-- what holds of all of a list holds of all of a front
pub front_all : (P : Packet → Type 0) (xs ys : List Packet) → All P (xs ++ ys) → All P xs
front_all P [] ys all = All-nil P
front_all P (x ∷ xs) ys all = All-cons P x xs (All-head P x (xs ++ ys) all) (front_all P xs ys (All-tail P x (xs ++ ys) all))

-- where some packets are such, there is a first one
pub record IsFirst (is_such : Command → Bool) (l : ℕ) (ps : List Packet) : Type 0 where
  pub front : List Packet
  pub p : Packet
  pub rest : List Packet
  pub is : front ++ p ∷ rest ≡ ps
  pub such : is_such p.command ≡ true
  pub from : p.arg0 ≡ l
  pub none : count_from is_such l front ≡ 0

first_of : (is_such : Command → Bool) (l : ℕ) (ps : List Packet) → 1 ≤ count_from is_such l ps → IsFirst is_such l ps
first_of is_such l [] some = absurd (omega (arith, some))
first_of is_such l (q ∷ ps) some = go (is_such q.command) refl (nat_eq q.arg0 l) refl some (first_of is_such l ps)
  where
    later : (is_such q.command && nat_eq q.arg0 l) ≡ false → IsFirst is_such l ps → IsFirst is_such l (q ∷ ps)
    later e f = record {
      front = q ∷ f.front;
      p = f.p;
      rest = f.rest;
      is = ap (λ (xs : List Packet). q ∷ xs) f.is;
      such = f.such;
      from = f.from;
      none = ap (λ (b : Bool). cond b (1 + count_from is_such l f.front) (count_from is_such l f.front)) e ∙ f.none;
    }

    go : (a : Bool) → is_such q.command ≡ a → (b : Bool) → nat_eq q.arg0 l ≡ b
        → 1 ≤ cond (a && b) (1 + count_from is_such l ps) (count_from is_such l ps)
        → (1 ≤ count_from is_such l ps → IsFirst is_such l ps) → IsFirst is_such l (q ∷ ps)
    go true e true f s more = record { front = []; p = q; rest = ps; is = refl; such = e; from = eqb-true q.arg0 l f; none = refl }
    go true e false f s more = later (ap (λ (a : Bool). a && nat_eq q.arg0 l) e ∙ f) (more s)
    go false e b f s more = later (ap (λ (a : Bool). a && nat_eq q.arg0 l) e) (more s)

-- ---- the server asked
-- the OPEN of each stream became due
pub was_due : (h : History) → AsksAtOnce h → (l : ℕ) (b : Birth) → born l h ≡ Some b
    → Contains (packets_of b.link h) (open_packet b.credit l b.service)
was_due [] asks zero b is = absurd (let clash : None ≡ Some b = is in cc)
was_due [] asks (suc k) b is = absurd (none (nat_lt k stream_ids) is)
  where
    none : (t : Bool) → cond t None None ≡ Some b → ⊥
    none true e = let clash : None ≡ Some b = e in cc
    none false e = let clash : None ≡ Some b = e in cc
was_due (e ∷ older) asks l b is =
    subst (λ (ps : List Packet). Contains ps (open_packet b.credit l b.service))
    (sym (packets_append b.link (told older) (told_at e older)))
    (go (born l older) refl (λ a was. was_due older asks.0 l a was))
  where
    go : (o : Option Birth) → born l older ≡ o
        → ((a : Birth) → born l older ≡ Some a → Contains (packets_of a.link older) (open_packet a.credit l a.service))
        → Contains (packets_of b.link older ++ packets_to b.link (told_at e older)) (open_packet b.credit l b.service)
    go None none before =
        Contains-append_right (packets_of b.link older) (packets_to b.link (told_at e older))
        (open_packet b.credit l b.service) (asks.1 l b none is)
    go (Some a) was before =
        let both : Some a ≡ Some b = sym (born_stays l e older a was) ∙ is in
        let same : a ≡ b = cc in
        Contains-append_left (packets_of b.link older) (packets_to b.link (told_at e older)) (open_packet b.credit l b.service)
        (before b (was ∙ ap Some same))

-- ---- before its birth nothing was sent to a stream
module _ (setting : Setting) where
  unheard : (h : History) → IsLegal h → IsPaired (packets_owed setting) h → (l : ℕ) (b : Birth) → born l h ≡ Some b → b.link ≡ 1
      → (b.packets_before ≤ length (brought 1 h)) × All (NotTo l) (take b.packets_before (brought 1 h))
  unheard [] legal pairs l b is own = absurd (none l is)
    where
      by : (t : Bool) → cond t None None ≡ Some b → ⊥
      by true f = let clash : None ≡ Some b = f in cc
      by false f = let clash : None ≡ Some b = f in cc

      none : (l : ℕ) → born l [] ≡ Some b → ⊥
      none zero e = let clash : None ≡ Some b = e in cc
      none (suc j) e = by (nat_lt j stream_ids) e
  unheard (e ∷ older) legal pairs l b is own = go (born_when l b e older is) (λ was. unheard older legal.0 pairs.0 l b was own)
    where
      grown : ComeFirst (brought 1 older) (brought 1 (e ∷ older))
      grown = brought_grows 1 e older

      longer : length (brought 1 older) ≤ length (brought 1 (e ∷ older))
      longer = (let n = ap length grown.1 in let m = length-append (brought 1 older) grown.0 in omega (arith, n, m))

      same : b.packets_before ≤ length (brought 1 older) → take b.packets_before (brought 1 (e ∷ older))
          ≡ take b.packets_before (brought 1 older)
      same le = ap (take b.packets_before) (sym grown.1) ∙ take-append-le b.packets_before (brought 1 older) grown.0 le

      go : (born l older ≡ Some b) ⊎ IsBornNow l b e older
          → (born l older ≡ Some b → (b.packets_before ≤ length (brought 1 older))
          × All (NotTo l) (take b.packets_before (brought 1 older)))
          → (b.packets_before ≤ length (brought 1 (e ∷ older))) × All (NotTo l) (take b.packets_before (brought 1 (e ∷ older)))
      go (inl was) before =
          let p = before was in (
            (let le = p.0 in omega (arith, le, longer)),
            subst (λ (ps : List Packet). All (NotTo l) ps) (sym (same p.0)) p.1,
          )
      go (inr now) before =
          let place : b.packets_before ≡ length (brought 1 older) = birth_place e older b now.is ∙ ap (λ t. length (brought t older)) own in
          let number = now.number in
          let drawn = (all_born older legal.0).drawn in
          let above : (state older).drawn < l = omega (arith, number, drawn) in
          let none_due = (all_once older legal.0).above 1 l above in
          let fewer = count_front is_open l (sent 1 older) (packets_of 1 older) (sends_first older legal.0 1).first in
          let none : count_from is_open l (sent 1 older) ≡ 0 = omega (arith, none_due, fewer) in
          let owed = none_owed l setting (sent 1 older) none in
          let front = front_all (NotTo l) (brought 1 (e ∷ older)) pairs.1.0
          (subst (λ (ps : List Packet). All (NotTo l) ps) (sym pairs.1.1) owed) in (
            omega (arith, place, longer),
            All-take (NotTo l) b.packets_before (brought 1 (e ∷ older)) front,
          )

-- ---- a device behind a front that begins with the server's CNXN has a link
linked_behind : (setting : Setting) (packets : List Packet) → is_some (device_behind setting (server_cnxn ∷ packets)).link ≡ true
unfolding step
linked_behind setting packets = all packets (step setting (first_device setting) server_cnxn) (first setting)
  where
    all : (packets : List Packet) (d : Device) → is_some d.link ≡ true
        → is_some (fold (step setting) d packets).link ≡ true
    all [] d some = some
    all (p ∷ packets) d some = all packets (step setting d p) (link_stays setting d p some)

    first : (setting : Setting) → is_some (step setting (first_device setting) server_cnxn).link ≡ true
    first setting = by (link_of setting.most setting.credit server_cnxn) (makes_link setting.most setting.credit)
      where
        by : (link : Option Link) → is_some link ≡ true
            → is_some (linked_to link (first_device setting)).link ≡ true
        by None some = some
        by (Some link) some = refl

module _ (setting : Setting) (short : setting.most < 2 ^ 32) (h : History) (legal : IsLegal h) (tied : IsJoined setting h)
    (still : IsStill (packets_owed setting) h) (l : ℕ) (b : Birth) (birth : born l h ≡ Some b) (own : b.link ≡ 1) where
  -- its OPEN was sent
  opens : 1 ≤ count_from is_open l (sent 1 h)
  opens = go (count_from is_open l (sent 1 h)) refl
    where
      due : Contains (sent 1 h) (open_packet b.credit l b.service)
      due = subst (λ (ps : List Packet). Contains ps (open_packet b.credit l b.service)) (sym still.sent_all)
          (subst (λ (t : ℕ). Contains (packets_of t h) (open_packet b.credit l b.service)) own (was_due h (asks_at_once h legal) l b birth))

      go : (n : ℕ) → count_from is_open l (sent 1 h) ≡ n → 1 ≤ count_from is_open l (sent 1 h)
      go zero none =
          absurd (All-contains (λ p. is_open p.command ≡ true → p.arg0 ≢ l) (sent 1 h) (open_packet b.credit l b.service)
          (none_from is_open l (sent 1 h) none) due refl refl)
      go (suc n) is = omega (arith, is)

  pub asking : IsFirst is_open l (sent 1 h)
  asking = first_of is_open l (sent 1 h) opens

  pub open_command : (c : Command) → is_open c ≡ true → c ≡ Open
  open_command Open e = refl
  open_command _ e = let clash : false ≡ true = e in cc

  -- the server said first who it is
  greeted : (front rest : List Packet) (p : Packet) → p.command ≡ Open → front ++ p ∷ rest ≡ packets_of 1 h
      → (more : List Packet) × (front ≡ server_cnxn ∷ more)
  greeted front rest p command is = go (cases_lt (plugged_count h) 1) front is
    where
      empty : (front : List Packet) → front ++ p ∷ rest ≡ [] → ⊥
      empty [] e = let clash : p ∷ rest ≡ [] = e in cc
      empty (q ∷ front) e = let clash : q ∷ (front ++ p ∷ rest) ≡ [] = e in cc

      go : (plugged_count h < 1) ⊎ (1 ≤ plugged_count h) → (front : List Packet) → front ++ p ∷ rest ≡ packets_of 1 h
          → (more : List Packet) × (front ≡ server_cnxn ∷ more)
      go (inl above) front e = absurd (empty front (e ∙ (greets_links h legal 1).absent above))
      go (inr le) [] e =
          let b = (greets_links h legal 1).plugged (omega arith) le in
          let both : p ∷ rest ≡ server_cnxn ∷ b.rest = e ∙ b.is in
          let head : p ≡ server_cnxn = cc in
          let clash : Open ≡ Cnxn = sym command ∙ ap (λ (q : Packet). q.command) head in
          absurd (not_both clash)
        where
          not_both : Open ≡ Cnxn → ⊥
          not_both e = cc
      go (inr le) (q ∷ front) e =
          let b = (greets_links h legal 1).plugged (omega arith) le in
          let both : q ∷ (front ++ p ∷ rest) ≡ server_cnxn ∷ b.rest = e ∙ b.is in
          let head : q ≡ server_cnxn = cc in
          (front, ap (λ (z : Packet). z ∷ front) head)

  pub sound : (device_behind setting asking.front).refused ≡ false
  sound = sound_before setting asking.front (asking.p ∷ asking.rest)
      (subst (λ (ps : List Packet). (device_behind setting ps).refused ≡ false) (sym asking.is) (never_refused setting 1 h legal))

  pub some_id : l ≢ 0
  some_id e =
      let none : born 0 h ≡ Some b = ap (λ (n : ℕ). born n h) (sym e) ∙ birth in
      let clash : None ≡ Some b = none in
      cc

  -- so it is asked on a link
  pub linked : is_some (device_behind setting asking.front).link ≡ true
  linked = subst (λ (ps : List Packet). is_some (device_behind setting ps).link ≡ true) (sym begins.1) (linked_behind setting begins.0)
    where
      begins : (more : List Packet) × (asking.front ≡ server_cnxn ∷ more)
      begins = greeted asking.front asking.rest asking.p (open_command asking.p.command asking.such) (asking.is ∙ still.sent_all)

  replied : IsRepliedTo setting l (sent 1 h)
  replied = go (device_behind setting asking.front).link refl linked
    where
      go : (o : Option Link) → (device_behind setting asking.front).link ≡ o → is_some o ≡ true → IsRepliedTo setting l (sent 1 h)
      go None is some = let clash : false ≡ true = some in cc
      go (Some link) is some =
          subst (λ (ps : List Packet). IsRepliedTo setting l ps) asking.is
          (subst (λ (n : ℕ). IsRepliedTo setting n (asking.front ++ asking.p ∷ asking.rest)) asking.from
          (replies_to_opens setting asking.front asking.p asking.rest link sound is (open_command asking.p.command asking.such)
          (λ e. some_id (sym asking.from ∙ e)) (ap (λ (n : ℕ). count_from is_open n asking.front) asking.from ∙ asking.none)))

  -- what was brought is what came before its birth, and what came since
  pub parts : packets_owed setting (sent 1 h) ≡ take b.packets_before (brought 1 h) ++ since b h
  parts =
      sym still.brought_all
      ∙ (sym (take-append-drop b.packets_before (brought 1 h))
      ∙ ap (λ (t : ℕ). take b.packets_before (brought 1 h) ++ drop b.packets_before (brought t h)) (sym own))

  pub none_before : All (NotTo l) (take b.packets_before (brought 1 h))
  none_before = (unheard setting h legal (paired setting short h legal tied) l b birth own).1

  module _ (x : Stream) (live : (state h).streams l ≡ Some x) where
    pub is_open_now : x.part.remote ≢ 0
    is_open_now zeroth = go replied
      where
        pending : IsPending l (since b h)
        pending =
            let kept = (all_born h legal).kept l x live in
            let same : kept.birth ≡ b = (let both : Some kept.birth ≡ Some b = sym kept.is ∙ birth in cc) in
            subst (λ (c : Birth). IsPending l (since c h)) same
            (subst (λ (n : ℕ). IsHeard l n (since kept.birth h)) zeroth kept.heard_of)

        go : IsRepliedTo setting l (sent 1 h) → ⊥
        go (inl (n, (some, sends))) =
            let all : okays_in n l (packets_owed setting (sent 1 h)) ≡ okays_in n l (take b.packets_before (brought 1 h) ++ since b h) =
            ap (okays_in n l) parts in
            let sum = okays_append n l (take b.packets_before (brought 1 h)) (since b h) in
            let before = else_okays l n (take b.packets_before (brought 1 h)) none_before in
            let after = pending_okays l n some (since b h) pending in
            omega (arith, sends, all, sum, before, after)
        go (inr closes) =
            let all : how_many (is_close_between 0 l) (packets_owed setting (sent 1 h))
            ≡ how_many (is_close_between 0 l) (take b.packets_before (brought 1 h) ++ since b h) =
            ap (how_many (is_close_between 0 l)) parts in
            let sum = many_append (is_close_between 0 l) (take b.packets_before (brought 1 h)) (since b h) in
            let before = else_closes l (take b.packets_before (brought 1 h)) none_before in
            let after = pending_closes l (since b h) pending in
            omega (arith, closes, all, sum, before, after)

pub all_are_open : (setting : Setting) → setting.most < 2 ^ 32 → (h : History) → IsLegal h → IsJoined setting h → AllAreOpen setting h
all_are_open setting short h legal tied still l b x birth own live = is_open_now setting short h legal tied still l b birth own x live
