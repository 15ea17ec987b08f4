-- How a change of the devices, of a link or of a stream keeps them together.
use Rattle.std.proofs.Common.{◌≡◌, ◌≢◌, ℕ, ◌+◌, Bool, true, false, cond, not, All, List, [], ◌∷◌, Option, Some, None, refl, sym, ap, subst}
use Rattle.std.proofs.Common.{◌∙◌}
use Rattle.std.proofs.Common.{arith, ◌⊎◌, inl, inr, eqb}
use Rattle.std.specs.Prelude.{is_some, option_and_then, option_map, codes, bytes_eq}
use Rattle.std.specs.List.Sorted.{IsStrictlySortedBy}
use Rattle.std.proofs.lemmas.Bool.{eqb-true, eqb-false, eq-eqb, ne_eqb, cases_eq}
use Rattle.std.proofs.lemmas.List.Elements.{All-nil, All-cons, All-head, All-tail, All-weaker}
use Rattle.adb_outside.specs.Tables.{Rows, at, IsRising, Puts, change_row, put_row}
use Rattle.adb_outside.proofs.TableLaws.{puts_put_at, put_at_rises, puts_without, without_rises, puts_set_at, set_at_rises}
use Rattle.adb_outside.specs.Identity.{state_of_system}
use Rattle.adb_outside.specs.declared.kinds.Kind.{Kind}
use Rattle.adb_outside.specs.declared.identity.Identity.{Identity}
use Rattle.adb_outside.specs.declared.identity.State.TheVariants.{Offline, Device, Bootloader, Recovery, Sideload, Rescue, Host}
use Rattle.adb_registry.specs.Row.{new_row, online_row, unauthorized_row}
use Rattle.adb_registry.specs.Registry.{DeviceTable, attached, changed, detached}
use Rattle.adb_registry.specs.declared.row.Row.{Row}
use Rattle.adb_forward.specs.declared.row.ForwardRow.{ForwardRow}
use Rattle.adb_stream.specs.Flow.{new_flow, has_credit}
use Rattle.adb_stream.specs.declared.row.Stream.{Stream}
use Rattle.adb_history.specs.Rows.{Link, none_kept}
use Rattle.adb_history.specs.Links.{is_connected, is_connected_state, is_connected_row, is_credit, is_credit_row}
use Rattle.adb_history.specs.Forwarding.{forwards_without}
use Rattle.adb_history.specs.Moves.{IsLed, IsReady}
use Rattle.adb_history.specs.Linked.{DeviceRows, OnLink, AllOn}

-- ---- streams
pub on_change : (devices : DeviceTable) (l : ℕ) (g : Stream → Option Stream) (streams : Rows (Option Stream))
    → ((x y : Stream) → streams l ≡ Some x → g x ≡ Some y → OnLink devices x → OnLink devices y)
    → AllOn devices streams → AllOn devices (change_row l (option_and_then g) streams)
on_change devices l g streams keeps on m y is = go (eqb l m) refl (streams m) refl is
  where
    go : (b : Bool) → eqb l m ≡ b → (o : Option Stream) → streams m ≡ o → cond b (option_and_then g o) o ≡ Some y → OnLink devices y
    go false e o f h = on m y (f ∙ h)
    go true e None f h = absurd (let clash : None ≡ Some y = h in cc)
    go true e (Some x) f h = keeps x y (ap streams (eqb-true l m e) ∙ f) h (on m x f)

-- a stream that goes
pub on_gone : (devices : DeviceTable) (x y : Stream) → None ≡ Some y → OnLink devices x → OnLink devices y
on_gone devices x y e h = absurd (let clash : None ≡ Some y = e in cc)

-- a stream of the same link, with as much credit
pub on_same : (devices : DeviceTable) (x y : Stream) → (y.link ≡ x.link)
    × (has_credit y.part.flow ≡ has_credit x.part.flow) → OnLink devices x
    → OnLink devices y
on_same devices x y e h = record {
  connected = ap (λ t. is_connected t devices) e.0 ∙ h.connected;
  credit = e.1 ∙ (h.credit ∙ ap (λ t. is_credit t devices) (sym e.0));
}

-- another device is changed
pub on_other : (old new : DeviceTable) (x : Stream) → at x.link new.rows ≡ at x.link old.rows → OnLink old x → OnLink new x
on_other old new x e h = record { connected = ap is_connected_row e ∙ h.connected; credit = h.credit ∙ sym (ap is_credit_row e) }

pub credit_new : (credit : Bool) → has_credit (new_flow credit) ≡ credit
credit_new true = refl
credit_new false = refl

connected_cases : (b : Bool) → (b ≡ true) ⊎ (b ≡ false)
connected_cases true = inl refl
connected_cases false = inr refl

-- a device that is ready is connected
pub ready_connected : (t : ℕ) (devices : DeviceTable) (links : Rows (Option Link)) (forwards : List (ℕ × ForwardRow))
    → DeviceRows devices links forwards
    → IsReady t devices
    → is_connected t devices ≡ true
ready_connected t devices links forwards h (inl connected) = connected
ready_connected t devices links forwards h (inr takes) = ap is_connected_row takes.is
    ∙ go (connected_cases (is_connected_state takes.row.state))
  where
    go : (is_connected_state takes.row.state ≡ true) ⊎ (is_connected_state takes.row.state ≡ false)
        → is_connected_state takes.row.state ≡ true
    go (inl ready) = ready
    go (inr waits) = absurd (omega (arith, h.silent t takes.row takes.is waits, takes.some))

-- ---- links
pub links_same : (t : ℕ) (f : Link → Link) (links : Rows (Option Link)) (k : ℕ)
    → is_some (change_row t (option_and_then (λ x. Some (f x))) links k) ≡ is_some (links k)
links_same t f links k = go (eqb t k) (links k)
  where
    go : (b : Bool) (o : Option Link) → is_some (cond b (option_and_then (λ x. Some (f x)) o) o) ≡ is_some o
    go false o = refl
    go true None = refl
    go true (Some x) = refl

pub link_rows : (devices : DeviceTable) (links : Rows (Option Link)) (forwards : List (ℕ × ForwardRow)) (t : ℕ) (f : Link → Link)
    → DeviceRows devices links forwards
    → DeviceRows devices (change_row t (option_and_then (λ x. Some (f x))) links) forwards
link_rows devices links forwards t f h =
    record { rises = h.rises; linked = λ k. links_same t f links k ∙ h.linked k; led = h.led; silent = h.silent }

pub forward_rows : (devices : DeviceTable) (links : Rows (Option Link)) (old new : List (ℕ × ForwardRow))
    → (All (IsLed devices) old → All (IsLed devices) new)
    → DeviceRows devices links old → DeviceRows devices links new
forward_rows devices links old new led h = record { rises = h.rises; linked = h.linked; led = led h.led; silent = h.silent }

-- ---- a device changes
is_some_map : (f : Row → Row) (o : Option Row) → is_some (option_map f o) ≡ is_some o
is_some_map f None = refl
is_some_map f (Some row) = refl

changed_some : (t : ℕ) (f : Row → Row) (devices : DeviceTable) → IsRising devices.rows → (q : ℕ)
    → is_some (at q (changed t f devices).rows) ≡ is_some (at q devices.rows)
changed_some t f devices rises q = go (cases_eq q t)
  where
    puts : Puts t (option_map f (at t devices.rows)) devices.rows (changed t f devices).rows
    puts = puts_set_at t (option_map f (at t devices.rows)) devices.rows rises

    go : (q ≡ t) ⊎ (q ≡ t → ⊥) → is_some (at q (changed t f devices).rows) ≡ is_some (at q devices.rows)
    go (inl same) = subst (λ (n : ℕ). is_some (at n (changed t f devices).rows) ≡ is_some (at n devices.rows)) (sym same)
        (ap is_some puts.here ∙ is_some_map f (at t devices.rows))
    go (inr apart) = ap is_some (puts.others q apart)

pub changed_other_at : (t : ℕ) (f : Row → Row) (devices : DeviceTable) → IsRising devices.rows → (q : ℕ) → q ≢ t
    → at q (changed t f devices).rows ≡ at q devices.rows
changed_other_at t f devices rises q apart = (puts_set_at t (option_map f (at t devices.rows)) devices.rows rises).others q apart

-- a row that says who it is, or takes no payload
abbrev pub Silent : Row → Type 0
Silent row = is_connected_state row.state ≡ false → row.maxdata ≡ 0

pub changed_rows : (devices : DeviceTable) (links : Rows (Option Link)) (forwards : List (ℕ × ForwardRow)) (t : ℕ) (f : Row → Row)
    → ((row : Row) → at t devices.rows ≡ Some row → Silent (f row)) → DeviceRows devices links forwards
    → DeviceRows (changed t f devices) links forwards
changed_rows devices links forwards t f silent h = record {
  rises = set_at_rises t (option_map f (at t devices.rows)) devices.rows h.rises;
  linked = λ k. h.linked k ∙ sym (changed_some t f devices h.rises k);
  led = All-weaker (IsLed devices) (IsLed (changed t f devices))
      (λ entry is. changed_some t f devices h.rises entry.1.transport ∙ is) forwards h.led;
  silent = λ q row is. go q row is (cases_eq q t);
}
  where
    puts : Puts t (option_map f (at t devices.rows)) devices.rows (changed t f devices).rows
    puts = puts_set_at t (option_map f (at t devices.rows)) devices.rows h.rises

    here : (o : Option Row) → at t devices.rows ≡ o → (row : Row) → option_map f o ≡ Some row → Silent row
    here None is row e = absurd (let clash : None ≡ Some row = e in cc)
    here (Some old) is row e = let same : f old ≡ row = cc in subst Silent same (silent old is)

    go : (q : ℕ) (row : Row) → at q (changed t f devices).rows ≡ Some row → (q ≡ t) ⊎ (q ≡ t → ⊥) → Silent row
    go q row is (inl same) = here (at t devices.rows) refl row (sym puts.here ∙ (ap (λ n. at n (changed t f devices).rows) (sym same) ∙ is))
    go q row is (inr apart) = h.silent q row (sym (puts.others q apart) ∙ is)

online_state : (a b c d e : Bool)
    → is_connected_state (cond a Device (cond b Bootloader (cond c Recovery (cond d Sideload (cond e Rescue Host)))))
    ≡ true
online_state false false false false true = refl
online_state _ _ _ _ _ = refl

pub online_silent : (identity : Identity) (version maxdata : ℕ) (row : Row) → Silent (online_row identity version maxdata row)
online_silent identity version maxdata row e =
    let s : List ℕ = identity.system in
    let is : is_connected_state (state_of_system identity.system) ≡ true =
    online_state (bytes_eq s (codes "device")) (bytes_eq s (codes "bootloader")) (bytes_eq s (codes "recovery"))
    (bytes_eq s (codes "sideload"))
    (bytes_eq s (codes "rescue")) in
    absurd (let clash : true ≡ false = sym is ∙ e in cc)

pub unauthorized_silent : (row : Row) → row.state ≡ Offline → Silent row → Silent (unauthorized_row row)
unauthorized_silent row offline silent e = silent (ap is_connected_state offline)

-- ---- a device goes
detached_other : (t : ℕ) (devices : DeviceTable) → IsRising devices.rows → (q : ℕ) → q ≢ t
    → at q (detached t devices).rows ≡ at q devices.rows
detached_other t devices rises q apart = (puts_without t devices.rows rises).others q apart

pub detached_on : (t : ℕ) (devices : DeviceTable) (x : Stream) → IsRising devices.rows → x.link ≢ t → OnLink devices x
    → OnLink (detached t devices) x
detached_on t devices x rises apart h = on_other devices (detached t devices) x (detached_other t devices rises x.link apart) h

led_without : (t : ℕ) (devices : DeviceTable) → IsRising devices.rows → (forwards : List (ℕ × ForwardRow)) → All (IsLed devices) forwards
    → All (IsLed (detached t devices)) (forwards_without t forwards)
led_without t devices rises [] all = All-nil (IsLed (detached t devices))
led_without t devices rises (e ∷ es) all = go (eqb e.1.transport t) refl
    (led_without t devices rises es (All-tail (IsLed devices) e es all))
  where
    go : (b : Bool) → eqb e.1.transport t ≡ b → All (IsLed (detached t devices)) (forwards_without t es)
        → All (IsLed (detached t devices)) (cond (not b) (e ∷ forwards_without t es) (forwards_without t es))
    go true is later = later
    go false is later =
        All-cons (IsLed (detached t devices)) e (forwards_without t es)
        (ap is_some (detached_other t devices rises e.1.transport (eqb-false e.1.transport t is)) ∙ All-head (IsLed devices) e es all) later

pub detached_rows : (devices : DeviceTable) (links : Rows (Option Link)) (forwards : List (ℕ × ForwardRow)) (t : ℕ)
    → DeviceRows devices links forwards
    → DeviceRows (detached t devices) (change_row t (option_and_then none_kept) links) (forwards_without t forwards)
detached_rows devices links forwards t h = record {
  rises = without_rises t devices.rows h.rises;
  linked = λ k. linked k (cases_eq t k);
  led = led_without t devices h.rises forwards h.led;
  silent = λ q row is. silent q row is (cases_eq q t);
}
  where
    puts : Puts t None devices.rows (detached t devices).rows
    puts = puts_without t devices.rows h.rises

    none : (o : Option Link) → option_and_then none_kept o ≡ None
    none None = refl
    none (Some x) = refl

    linked : (k : ℕ) → (t ≡ k) ⊎ (t ≡ k → ⊥) → is_some (change_row t (option_and_then none_kept) links k)
        ≡ is_some (at k (detached t devices).rows)
    linked k (inl same) =
        subst (λ (n : ℕ). is_some (change_row t (option_and_then none_kept) links n)
        ≡ is_some (at n (detached t devices).rows)) same
        (rw (eq-eqb t t refl) (ap is_some (none (links t)) ∙ sym (ap is_some puts.here)))
    linked k (inr apart) = rw (ne_eqb t k apart) (h.linked k ∙ sym (ap is_some (puts.others k (λ e. apart (sym e)))))

    silent : (q : ℕ) (row : Row) → at q (detached t devices).rows ≡ Some row → (q ≡ t) ⊎ (q ≡ t → ⊥) → Silent row
    silent q row is (inl same) =
        absurd (let clash : None ≡ Some row = sym puts.here ∙
        (ap (λ n. at n (detached t devices).rows) (sym same) ∙ is) in cc)
    silent q row is (inr apart) = h.silent q row (sym (puts.others q apart) ∙ is)

-- ---- a device comes
pub attached_rows : (devices : DeviceTable) (links : Rows (Option Link)) (forwards : List (ℕ × ForwardRow))
    (kind : Kind) (serial : List ℕ) (link : Link)
    → DeviceRows devices links forwards
    → DeviceRows (attached kind serial devices) (put_row (devices.drawn + 1) (Some link) links) forwards
attached_rows devices links forwards kind serial link h = record {
  rises = put_at_rises t row devices.rows h.rises;
  linked = λ k. linked k (cases_eq t k);
  led = All-weaker (IsLed devices) (IsLed (attached kind serial devices))
      (λ entry is. led entry.1.transport is (cases_eq entry.1.transport t)) forwards h.led;
  silent = λ q y is. silent q y is (cases_eq q t);
}
  where
    t : ℕ
    t = devices.drawn + 1

    row : Row
    row = new_row (devices.drawn + 1) kind serial

    puts : Puts (devices.drawn + 1) (Some (new_row (devices.drawn + 1) kind serial)) devices.rows (attached kind serial devices).rows
    puts = puts_put_at (devices.drawn + 1) (new_row (devices.drawn + 1) kind serial) devices.rows

    linked : (k : ℕ) → (devices.drawn + 1 ≡ k) ⊎ (devices.drawn + 1 ≡ k → ⊥)
        → is_some (put_row (devices.drawn + 1) (Some link) links k) ≡ is_some (at k (attached kind serial devices).rows)
    linked k (inl same) =
        subst (λ (n : ℕ). is_some (put_row (devices.drawn + 1) (Some link) links n)
        ≡ is_some (at n (attached kind serial devices).rows)) same
        (rw (eq-eqb (devices.drawn + 1) (devices.drawn + 1) refl) (sym (ap is_some puts.here)))
    linked k (inr apart) = rw (ne_eqb (devices.drawn + 1) k apart) (h.linked k ∙ sym (ap is_some (puts.others k (λ e. apart (sym e)))))

    led : (q : ℕ) → is_some (at q devices.rows) ≡ true → (q ≡ devices.drawn + 1) ⊎ (q ≡ devices.drawn + 1 → ⊥)
        → is_some (at q (attached kind serial devices).rows) ≡ true
    led q is (inl same) = ap (λ n. is_some (at n (attached kind serial devices).rows)) same ∙ ap is_some puts.here
    led q is (inr apart) = ap is_some (puts.others q apart) ∙ is

    silent : (q : ℕ) (y : Row) → at q (attached kind serial devices).rows ≡ Some y
        → (q ≡ devices.drawn + 1) ⊎ (q ≡ devices.drawn + 1 → ⊥) → Silent y
    silent q y is (inl same) =
        let here : Some (new_row (devices.drawn + 1) kind serial) ≡ Some y = sym puts.here ∙
        (ap (λ n. at n (attached kind serial devices).rows) (sym same) ∙ is) in
        let row : new_row (devices.drawn + 1) kind serial ≡ y = cc in
        subst Silent row (λ e. refl)
    silent q y is (inr apart) = h.silent q y (sym (puts.others q apart) ∙ is)

pub attached_on : (devices : DeviceTable) (kind : Kind) (serial : List ℕ) (x : Stream)
    → at (devices.drawn + 1) devices.rows ≡ None → OnLink devices x
    → OnLink (attached kind serial devices) x
attached_on devices kind serial x none h = go (cases_eq x.link (devices.drawn + 1))
  where
    go : (x.link ≡ devices.drawn + 1) ⊎ (x.link ≡ devices.drawn + 1 → ⊥) → OnLink (attached kind serial devices) x
    go (inl same) =
        absurd (let clash : false ≡ true = sym (ap is_connected_row (ap (λ n. at n devices.rows) same ∙ none))
        ∙ h.connected in cc)
    go (inr apart) =
        on_other devices (attached kind serial devices) x
        ((puts_put_at (devices.drawn + 1) (new_row (devices.drawn + 1) kind serial) devices.rows).others x.link apart) h

-- ---- none is left
pub no_rows : (drawn : ℕ) → DeviceRows (record { drawn = drawn; rows = [] }) (λ _. None) []
unfolding IsStrictlySortedBy
no_rows drawn =
    record {
      rises = tt;
      linked = λ t. refl;
      led = All-nil (IsLed (record { drawn = drawn; rows = [] }));
      silent =
          λ t row is. absurd (none row is);
    }
  where
    none : (row : Row) → None ≡ Some row → ⊥
    none row e = cc
