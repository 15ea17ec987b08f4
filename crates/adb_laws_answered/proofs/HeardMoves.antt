-- What a client is answered is what the entries say, through each move of another client, of a stream and of a link.
use Rattle.std.proofs.Common.{◌≡◌, ◌≢◌, ℕ, Bool, true, false, cond, List, [], ◌∷◌, ◌++◌, Option, Some, None, refl, sym, ap, subst, ◌∙◌}
use Rattle.std.proofs.Common.{append_assoc, eqb}
use Rattle.std.specs.Prelude.{drop, option_and_then, option_map}
use Rattle.std.proofs.lemmas.Bool.{eqb-true}
use Rattle.std.proofs.lemmas.List.{append-nil}
use Rattle.adb_outside.specs.Bytes.{IsPrefixOf}
use Rattle.adb_outside.specs.Tables.{Rows, change_row}
use Rattle.adb_registry.specs.Registry.{DeviceTable}
use Rattle.adb_client.specs.declared.phase.Phase.{Phase}
use Rattle.adb_client.specs.declared.phase.Phase.TheVariants.{Binding, Tracking, Closing, Gone}
use Rattle.adb_history.specs.Rows.{Client, none_kept, with_due}
use Rattle.adb_history.specs.Events.{Event, owed_to}
use Rattle.adb_history.specs.Clients.{closing_with, closing}
use Rattle.adb_history.specs.Tracking.{marked_in, marked}
use Rattle.adb_history.specs.Handing.{left_in, hands}
use Rattle.adb_history.proofs.Growing.{owed_append}
use Rattle.adb_laws_answered.specs.Heard.{Heard, asks_stream, PhaseSays, RowSays, RowsSay, Owes}

-- ---- what became due
-- a front of what is due stays one
pub prefix_more : (x y z : List ℕ) → IsPrefixOf x y → IsPrefixOf x (y ++ z)
prefix_more x y z (rest, is) = (rest ++ z, sym (append_assoc x rest z) ∙ ap (λ w. w ++ z) is)

module _ (c : ℕ) (r : Heard) where
  -- to a client that asked for a stream more becomes due
  pub owes_more : (w es : List Event) → asks_stream r.next ≡ true → Owes r (owed_to c w) → Owes r (owed_to c (w ++ es))
  owes_more w es stream h = record {
    begins = subst (λ (x : List ℕ). IsPrefixOf r.replies x) (sym (owed_append c w es))
        (prefix_more r.replies (owed_to c w) (owed_to c es) h.begins);
    all = λ other. let clash : true ≡ false = sym stream ∙ other in cc;
  }

  -- nothing becomes due
  pub owes_none : (w es : List Event) → owed_to c es ≡ [] → Owes r (owed_to c w) → Owes r (owed_to c (w ++ es))
  owes_none w es none h =
      subst (λ (x : List ℕ). Owes r x) (sym (owed_append c w es ∙ (ap (λ x. owed_to c w ++ x) none ∙ append-nil (owed_to c w)))) h

-- ---- one row
-- a client in the same phase, with the same list
pub record IsLikewise (x y : Client) : Type 0 where
  pub phase : y.about.phase ≡ x.about.phase
  pub long : y.about.long ≡ x.about.long
  pub mark : y.about.mark ≡ x.about.mark

module _ (r : Heard) (d : DeviceTable) where
  pub says_likewise : (x y : Client) → IsLikewise x y → RowSays r d x → RowSays r d y
  says_likewise x y a h =
      subst (λ (p : Phase). PhaseSays p r d y.about.long y.about.mark) (sym a.phase)
      (subst (λ (b : Bool). PhaseSays x.about.phase r d b y.about.mark) (sym a.long)
      (subst (λ (b : Bool). PhaseSays x.about.phase r d x.about.long b) (sym a.mark) h))

  pub says_closing : (due : List ℕ) (x y : Client) → closing_with due x ≡ Some y → RowSays r d y
  says_closing [] x y e = absurd (let clash : None ≡ Some y = e in cc)
  says_closing (b ∷ due) x y e =
      let phase : Closing ≡ y.about.phase = ap (λ (o : Option Client). phase_of o) e in
      subst (λ (p : Phase). PhaseSays p r d y.about.long y.about.mark) phase tt
    where
      phase_of : Option Client → Phase
      phase_of None = Gone
      phase_of (Some z) = z.about.phase

  -- the list of a tracker is stale, whatever devices there are now
  says_marked_in : (p : Phase) (new : DeviceTable) (x : Client) → x.about.phase ≡ p → PhaseSays p r d x.about.long x.about.mark
      → RowSays r new (marked_in p x)
  says_marked_in Tracking new x e h =
      subst (λ (p : Phase). PhaseSays p r new x.about.long true) (sym e)
      (record { next = h.next; present = λ m. absurd (let clash : true ≡ false = m in cc) })
  says_marked_in Binding new x e h =
      subst (λ (p : Phase). PhaseSays p r new x.about.long x.about.mark) (sym e) (record { next = h.next; bound = h.bound })
  says_marked_in Closing new x e h = subst (λ (p : Phase). PhaseSays p r new x.about.long x.about.mark) (sym e) tt
  says_marked_in Gone new x e h = subst (λ (p : Phase). PhaseSays p r new x.about.long x.about.mark) (sym e) tt
  says_marked_in _ new x e h = subst (λ (p : Phase). PhaseSays p r new x.about.long x.about.mark) (sym e) h

  pub says_left : (p : Phase) (due : List ℕ) (x y : Client) → x.about.phase ≡ p → left_in p due x ≡ Some y → RowSays r d x → RowSays r d y
  says_left Closing due x y e is h = says_closing due (record x { due = due }) y is
  says_left _ due x y e is h = let row : record x { due = due } ≡ y = cc in subst (λ (z : Client). RowSays r d z) row h

-- ---- all rows
module _ (c : ℕ) (r : Heard) (d : DeviceTable) where
  -- a row changes
  pub rows_change : (n : ℕ) (f : Client → Option Client) (clients : Rows (Option Client))
      → ((x y : Client) → clients c ≡ Some x → n ≡ c → f x ≡ Some y → RowSays r d x → RowSays r d y)
      → RowsSay c r d clients → RowsSay c r d (change_row n (option_and_then f) clients)
  rows_change n f clients keeps h y is = go (eqb n c) refl (clients c) refl is
    where
      go : (b : Bool) → eqb n c ≡ b → (o : Option Client) → clients c ≡ o → cond b (option_and_then f o) o ≡ Some y → RowSays r d y
      go false e o at_c is = h y (at_c ∙ is)
      go true e None at_c is = absurd (let clash : None ≡ Some y = is in cc)
      go true e (Some x) at_c is = keeps x y at_c (eqb-true n c e) is (h x at_c)

  -- a row changes that stays in its phase, with its list
  pub rows_likewise : (n : ℕ) (f : Client → Client) (clients : Rows (Option Client)) → ((x : Client) → IsLikewise x (f x))
      → RowsSay c r d clients → RowsSay c r d (change_row n (option_and_then (λ x. Some (f x))) clients)
  rows_likewise n f clients like h = rows_change n (λ x. Some (f x)) clients
      (λ x y at_c same is was. (let row : f x ≡ y = (let both : Some (f x) ≡ Some y = is in cc) in
      subst (λ (z : Client). RowSays r d z) row (says_likewise r d x (f x) (like x) was))) h

  -- another row changes
  pub rows_apart : (n : ℕ) (f : Client → Option Client) (clients : Rows (Option Client)) → n ≢ c
      → RowsSay c r d clients → RowsSay c r d (change_row n (option_and_then f) clients)
  rows_apart n f clients apart h = rows_change n f clients (λ x y at_c same is was. absurd (apart same)) h

  pub rows_none : (n : ℕ) (clients : Rows (Option Client)) → RowsSay c r d clients
      → RowsSay c r d (change_row n (option_and_then none_kept) clients)
  rows_none n clients h = rows_change n none_kept clients (λ x y at_c same is was. absurd (let clash : None ≡ Some y = is in cc)) h

  pub rows_closing : (n : ℕ) (clients : Rows (Option Client)) → RowsSay c r d clients
      → RowsSay c r d (change_row n (option_and_then closing) clients)
  rows_closing n clients h = rows_change n closing clients (λ x y at_c same is was. says_closing r d x.due x y is) h

  pub rows_due : (n : ℕ) (bytes : List ℕ) (clients : Rows (Option Client)) → RowsSay c r d clients
      → RowsSay c r d (change_row n (option_and_then (with_due bytes)) clients)
  rows_due n bytes clients h =
      rows_likewise n (λ x. record x { due = x.due ++ bytes }) clients (λ x. record { phase = refl; long = refl; mark = refl }) h

  pub rows_marked : (new : DeviceTable) (clients : Rows (Option Client)) → RowsSay c r d clients
      → RowsSay c r new (λ k. option_map marked (clients k))
  rows_marked new clients h y is = go (clients c) refl is
    where
      go : (o : Option Client) → clients c ≡ o → option_map marked o ≡ Some y → RowSays r new y
      go None at_c e = absurd (let clash : None ≡ Some y = e in cc)
      go (Some x) at_c e =
          let row : marked x ≡ y = (let both : Some (marked x) ≡ Some y = e in cc) in
          subst (λ (z : Client). RowSays r new z) row (says_marked_in r d x.about.phase new x refl (h x at_c))

  pub rows_hands : (n k : ℕ) (clients : Rows (Option Client)) → RowsSay c r d clients
      → RowsSay c r d (change_row n (option_and_then (hands k)) clients)
  rows_hands n k clients h =
      rows_change n (hands k) clients (λ x y at_c same is was. says_left r d x.about.phase (drop k x.due) x y refl is was) h
