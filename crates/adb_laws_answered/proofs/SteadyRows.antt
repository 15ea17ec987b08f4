-- What holds of a client's row, whatever becomes of what it holds and of what is due to it.
use Rattle.std.proofs.Common.{◌≡◌, ◌≢◌, ℕ, Bool, true, false, cond, List, [], ◌∷◌, ◌++◌, drop, Option, Some, None, refl, sym, ap, subst}
use Rattle.std.proofs.Common.{◌∙◌, eqb}
use Rattle.std.specs.Prelude.{codes, option_and_then, option_map}
use Rattle.std.proofs.lemmas.Bool.{eqb-true}
use Rattle.adb_outside.specs.Tables.{Rows, change_row}
use Rattle.adb_client.specs.declared.phase.Phase.{Phase}
use Rattle.adb_client.specs.declared.phase.Phase.TheVariants.{Opening, Streaming, Tracking, Closing}
use Rattle.adb_reply.specs.Strings.{failed}
use Rattle.adb_history.specs.Rows.{Client, State, none_kept, with_due}
use Rattle.adb_history.specs.Events.{Made}
use Rattle.adb_history.specs.Clients.{closing_with, closing, owe_client}
use Rattle.adb_history.specs.Streams.{loses, client_loses}
use Rattle.adb_history.specs.Tracking.{marked_in, marked}
use Rattle.adb_history.specs.Handing.{left_in, hands}

-- what a client's row says by its phase and by how it came alone, and still when it is closing
pub record IsSteady (Q : Client → Type 0) : Type 0 where
  pub closing : (x y : Client) → y.about.phase ≡ Closing → y.about.forwarded ≡ x.about.forwarded → Q x → Q y
  pub like : (x y : Client) → y.about.phase ≡ x.about.phase → y.about.forwarded ≡ x.about.forwarded → Q x → Q y

-- ---- what is left of a row
pub closed_about : (due : List ℕ) (x y : Client) → closing_with due x ≡ Some y
    → (y.about.phase ≡ Closing) × (y.about.forwarded ≡ x.about.forwarded)
closed_about [] x y e = absurd (let clash : None ≡ Some y = e in cc)
closed_about (b ∷ due) x y e = (ap phase_of (sym e), ap forwarded_of (sym e))
  where
    phase_of : Option Client → Phase
    phase_of None = Closing
    phase_of (Some z) = z.about.phase

    forwarded_of : Option Client → Bool
    forwarded_of None = x.about.forwarded
    forwarded_of (Some z) = z.about.forwarded

marked_about : (p : Phase) (x : Client) → ((marked_in p x).about.phase ≡ x.about.phase)
    × ((marked_in p x).about.forwarded ≡ x.about.forwarded)
marked_about Tracking x = (refl, refl)
marked_about _ x = (refl, refl)

module _ {Q : Client → Type 0} (steady : IsSteady Q) where
  steady_closed : (due : List ℕ) (x y : Client) → closing_with due x ≡ Some y → Q x → Q y
  steady_closed due x y e h = let a = closed_about due x y e in steady.closing x y a.0 a.1 h

  -- what it holds, or what is due to it, changes
  steady_with : (x y z : Client) → z.about.phase ≡ x.about.phase → z.about.forwarded ≡ x.about.forwarded → Some z ≡ Some y → Q x → Q y
  steady_with x y z p f e h = let same : z ≡ y = cc in subst Q same (steady.like x z p f h)

  steady_left : (p : Phase) (due : List ℕ) (x y : Client) → left_in p due x ≡ Some y → Q x → Q y
  steady_left Closing due x y e h = steady_closed due (record x { due = due }) y e (steady.like x (record x { due = due }) refl refl h)
  steady_left _ due x y e h = steady_with x y (record x { due = due }) refl refl e h

  module _ (c : ℕ) where
    -- it holds of a client, while it lives
    abbrev pub At : Rows (Option Client) → Type 0
    At clients = (client : Client) → clients c ≡ Some client → Q client

    pub at_change : (n : ℕ) (f : Client → Option Client) (clients : Rows (Option Client))
        → ((x y : Client) → n ≡ c → f x ≡ Some y → Q x → Q y)
        → At clients → At (change_row n (option_and_then f) clients)
    at_change n f clients keeps h y is = go (eqb n c) refl (clients c) refl is
      where
        go : (b : Bool) → eqb n c ≡ b → (o : Option Client) → clients c ≡ o → cond b (option_and_then f o) o ≡ Some y → Q y
        go false e o here is = h y (here ∙ is)
        go true e None here is = absurd (let clash : None ≡ Some y = is in cc)
        go true e (Some x) here is = keeps x y (eqb-true n c e) is (h x here)

    pub at_like : (n : ℕ) (f : Client → Client) (clients : Rows (Option Client))
        → ((x : Client) → (f x).about.phase ≡ x.about.phase) → ((x : Client) → (f x).about.forwarded ≡ x.about.forwarded)
        → At clients → At (change_row n (option_and_then (λ x. Some (f x))) clients)
    at_like n f clients phase forwarded h =
        at_change n (λ x. Some (f x)) clients (λ x y same e was. steady_with x y (f x) (phase x) (forwarded x) e was) h

    pub at_apart : (n : ℕ) (f : Client → Option Client) (clients : Rows (Option Client)) → n ≢ c → At clients
        → At (change_row n (option_and_then f) clients)
    at_apart n f clients apart h = at_change n f clients (λ x y same e was. absurd (apart same)) h

    pub at_none : (n : ℕ) (clients : Rows (Option Client)) → At clients → At (change_row n (option_and_then none_kept) clients)
    at_none n clients h = at_change n none_kept clients (λ x y same e was. absurd (let clash : None ≡ Some y = e in cc)) h

    pub at_closing : (n : ℕ) (clients : Rows (Option Client)) → At clients → At (change_row n (option_and_then closing) clients)
    at_closing n clients h = at_change n closing clients (λ x y same e was. steady_closed x.due x y e was) h

    pub at_due : (n : ℕ) (bytes : List ℕ) (clients : Rows (Option Client)) → At clients
        → At (change_row n (option_and_then (with_due bytes)) clients)
    at_due n bytes clients h = at_like n (λ x. record x { due = x.due ++ bytes }) clients (λ x. refl) (λ x. refl) h

    pub at_hands : (n k : ℕ) (clients : Rows (Option Client)) → At clients → At (change_row n (option_and_then (hands k)) clients)
    at_hands n k clients h = at_change n (hands k) clients (λ x y same e was. steady_left x.about.phase (drop k x.due) x y e was) h

    pub at_marked : (clients : Rows (Option Client)) → At clients → At (λ k. option_map marked (clients k))
    at_marked clients h y is = go (clients c) refl is
      where
        go : (o : Option Client) → clients c ≡ o → option_map marked o ≡ Some y → Q y
        go None here e = absurd (let clash : None ≡ Some y = e in cc)
        go (Some x) here e = let a = marked_about x.about.phase x in steady_with x y (marked x) a.0 a.1 e (h x here)

    at_loses : (forwarded : Bool) (p : Phase) (n : ℕ) (s : State) → At s.clients → At (loses forwarded p n s).state.clients
    at_loses true (Streaming l) n s h = at_closing n s.clients h
    at_loses false (Streaming l) n s h = at_closing n s.clients h
    at_loses true (Opening l) n s h = at_closing n s.clients h
    at_loses false (Opening l) n s h =
        let told : Made = owe_client n (failed (codes "closed")).bytes s in
        at_closing n told.state.clients (at_due n (failed (codes "closed")).bytes s.clients h)
    at_loses _ _ n s h = h

    pub at_client_loses : (o : Option Client) (n : ℕ) (s : State) → At s.clients → At (client_loses o n s).state.clients
    at_client_loses None n s h = h
    at_client_loses (Some x) n s h = at_loses x.about.forwarded x.about.phase n s h
