-- The first of a table to which something is due is the first of its rows.
use Rattle.std.proofs.Common.{ℕ, zero, suc, ◌≡◌, ◌∙◌, ◌||◌, sym, ap, subst, arith, refl, Bool, true, false, cond}
use Rattle.std.proofs.Common.{List, [], ◌∷◌, length, take, Option, Some, None}
use Rattle.std.proofs.lemmas.Bool.Decides.{nat_tests}
use Rattle.std.specs.Prelude.{nat_lt, option_map, option_and_then}
use Rattle.std.specs.Option.{option_or}
use Rattle.adb_outside.specs.Tables.{Rows, at, IsRising, listed, listed_at}
use Rattle.adb_outside.proofs.TableLaws.{same_table}
use Rattle.adb_registry.specs.Registry.{DeviceTable}
use Rattle.adb_client.specs.Client.{SeenClient}
use Rattle.adb_capture.specs.declared.entry.Entry.{Entry}
use Rattle.adb_capture.specs.declared.entry.Entry.TheVariants.{Put, Send}
use Rattle.adb_history.specs.declared.hand_out.TheConstants.{MAX_HAND_OUT}
use Rattle.adb_history.specs.Tracking.{due_or, list_if_stale}
use Rattle.adb_history.specs.Drained.{send_of, send_on, first_send, put_of, put_to, first_put, next_out}
use Rattle.adb_history.specs.Orderly.{IsDrawnOnly}
use Rattle.adb_hub_tables.specs.Tables.{client_row, link_row, state_of}
use Rattle.adb_hub_tables.specs.declared.ports.Port.{Port}
use Rattle.adb_hub_tables.specs.declared.tables.Tables.{Tables}
use Rattle.adb_hub_tables.specs.First.{first_number}
use Rattle.adb_hub_hand_outs.specs.NextDue.{owes_link, owes_client, owner_of, entry_of}
use Rattle.adb_capture.specs.declared.entry.Owner.{Owner}
use Rattle.adb_capture.specs.declared.entry.Owner.TheVariants.{Link, Client}

-- what is known of the first hand-out of some rows: whose it is, and that it is that of its row
pub record IsFirst (owner : ℕ → Owner) (hand : ℕ → Option Entry) (first : Option ℕ) (entry : Option Entry) : Type 0 where
  pub whose : option_and_then owner_of entry ≡ option_map owner first
  pub is : entry ≡ option_and_then hand first

-- a row to which something is due is the first
here : (owner : ℕ → Owner) (hand : ℕ → Option Entry) (n : ℕ) (e : Entry) → hand n ≡ Some e → owner_of e ≡ Some (owner n)
    → IsFirst owner hand (Some n) (Some e)
here owner hand n e is whose = record { whose = whose; is = sym is }

not_empty : (n : ℕ) → nat_lt 0 (suc n) ≡ true
not_empty n = grind (arith, nat_tests)

-- ---- links
module _ (ports : Rows (Option Port)) where
  first_link_is : (t k : ℕ) → IsFirst Link (λ q. send_on q (option_map link_row (ports q))) (first_number owes_link (listed ports t k))
      (first_send (λ q. option_map link_row (ports q)) t k)
  first_link_is t zero = record { whose = refl; is = refl }
  first_link_is t (suc k) = go (ports t) refl (first_link_is (suc t) k)
    where
      go : (o : Option Port) → ports t ≡ o
          → IsFirst Link (λ q. send_on q (option_map link_row (ports q))) (first_number owes_link (listed ports (suc t) k))
          (first_send (λ q. option_map link_row (ports q)) (suc t) k)
          → IsFirst Link (λ q. send_on q (option_map link_row (ports q))) (first_number owes_link (listed_at t o (listed ports (suc t) k)))
          (option_or (send_on t (option_map link_row o)) (first_send (λ q. option_map link_row (ports q)) (suc t) k))
      go None is others = others
      go (Some port) is others = owed port.link.due refl
        where
          owed : (due : List ℕ) → port.link.due ≡ due
              → IsFirst Link (λ q. send_on q (option_map link_row (ports q)))
              (cond (nat_lt 0 (length due)) (Some t) (first_number owes_link (listed ports (suc t) k)))
              (option_or (send_of t due) (first_send (λ q. option_map link_row (ports q)) (suc t) k))
          owed [] same = others
          owed (b ∷ due) same = rw (not_empty (length due))
              (here Link (λ q. send_on q (option_map link_row (ports q))) t (Send t (take MAX_HAND_OUT (b ∷ due)))
              (ap (λ (o : Option Port). send_on t (option_map link_row o)) is ∙ ap (send_of t) same) refl)

-- ---- clients
module _ (devices : DeviceTable) (clients : Rows (Option SeenClient)) where
  first_client_is : (c k : ℕ) → IsFirst Client (λ q. put_to devices q (option_map client_row (clients q)))
      (first_number owes_client (listed clients c k))
      (first_put devices (λ q. option_map client_row (clients q)) c k)
  first_client_is c zero = record { whose = refl; is = refl }
  first_client_is c (suc k) = go (clients c) refl (first_client_is (suc c) k)
    where
      go : (o : Option SeenClient) → clients c ≡ o
          → IsFirst Client (λ q. put_to devices q (option_map client_row (clients q))) (first_number owes_client (listed clients (suc c) k))
          (first_put devices (λ q. option_map client_row (clients q)) (suc c) k)
          → IsFirst Client (λ q. put_to devices q (option_map client_row (clients q)))
          (first_number owes_client (listed_at c o (listed clients (suc c) k)))
          (option_or (put_to devices c (option_map client_row o)) (first_put devices (λ q. option_map client_row (clients q)) (suc c) k))
      go None is others = others
      go (Some client) is others = owed client.due client.about.mark refl refl
        where
          put : (due : List ℕ) (mark : Bool) → client.due ≡ due → client.about.mark ≡ mark
              → put_to devices c (option_map client_row (clients c)) ≡ put_of c (due_or due (list_if_stale devices mark client.about.long))
          put due mark same marked = ap (λ (o : Option SeenClient). put_to devices c (option_map client_row o)) is
              ∙ (ap (λ (d : List ℕ). put_of c (due_or d (list_if_stale devices client.about.mark client.about.long))) same
              ∙ ap (λ (m : Bool). put_of c (due_or due (list_if_stale devices m client.about.long))) marked)

          owed : (due : List ℕ) (mark : Bool) → client.due ≡ due → client.about.mark ≡ mark
              → IsFirst Client (λ q. put_to devices q (option_map client_row (clients q)))
              (cond (nat_lt 0 (length due) || mark) (Some c) (first_number owes_client (listed clients (suc c) k)))
              (option_or (put_of c (due_or due (list_if_stale devices mark client.about.long)))
              (first_put devices (λ q. option_map client_row (clients q)) (suc c) k))
          owed [] false same marked = others
          owed [] true same marked = record { whose = refl; is = sym (put [] true same marked) }
          owed (b ∷ due) mark same marked = rw (not_empty (length due))
              (here Client (λ q. put_to devices q (option_map client_row (clients q))) c (Put c (take MAX_HAND_OUT (b ∷ due)))
              (put (b ∷ due) mark same marked) refl)

-- ---- both
nothing_in : {A B : Type 0} (f : A → B) (o : Option A) → option_map f o ≡ None → o ≡ None
nothing_in f None e = refl
nothing_in f (Some x) e = absurd (let clash : Some (f x) ≡ None = e in cc)

-- a table with nothing above the drawn numbers and at 0 is the table of its rows
all_listed : {A B : Type 0} (f : A → B) (drawn : ℕ) (table : List (ℕ × A)) → IsRising table
    → IsDrawnOnly drawn (λ q. option_map f (at q table))
    → listed (λ q. at q table) 1 drawn ≡ table
all_listed f drawn table rises known = sym (same_table table (λ q. at q table) drawn rises (nothing_in f (at 0 table) known.zero)
    (λ n above. nothing_in f (at n table) (known.above n above)) (λ q. refl))

module _ (owner : ℕ → Owner) (hand : ℕ → Option Entry) (entry other : Option Entry) where
  goes_first : (n : ℕ) → IsFirst owner hand (Some n) entry → option_or entry other ≡ entry
  goes_first n first = go entry first.whose
    where
      go : (e : Option Entry) → option_and_then owner_of e ≡ Some (owner n) → option_or e other ≡ e
      go None whose = absurd (let clash : None ≡ Some (owner n) = whose in cc)
      go (Some e) whose = refl

  goes_not : IsFirst owner hand None entry → option_or entry other ≡ other
  goes_not first = ap (λ (e : Option Entry). option_or e other) first.is

module _ (t : Tables) where
  links_first : (first : Option ℕ) → first ≡ first_number owes_link t.links.entries → IsRising t.links.entries
      → IsDrawnOnly t.devices.drawn (state_of t).links
      → IsFirst Link (λ q. send_on q ((state_of t).links q)) first (first_send (state_of t).links 1 t.devices.drawn)
  links_first first is rises known =
      let same : first_number owes_link (listed (λ q. at q t.links.entries) 1 t.devices.drawn) ≡ first =
      ap (first_number owes_link) (all_listed link_row t.devices.drawn t.links.entries rises known) ∙ sym is in
      subst (λ (n : Option ℕ). IsFirst Link (λ q. send_on q ((state_of t).links q)) n
      (first_send (state_of t).links 1 t.devices.drawn)) same
      (first_link_is (λ q. at q t.links.entries) 1 t.devices.drawn)

  pub clients_first : (first : Option ℕ) → first ≡ first_number owes_client t.clients.entries → IsRising t.clients.entries
      → IsDrawnOnly t.joined (state_of t).clients
      → IsFirst Client (λ q. put_to t.devices q ((state_of t).clients q)) first (first_put t.devices (state_of t).clients 1 t.joined)
  clients_first first is rises known =
      let same : first_number owes_client (listed (λ q. at q t.clients.entries) 1 t.joined) ≡ first =
      ap (first_number owes_client) (all_listed client_row t.joined t.clients.entries rises known) ∙ sym is in
      subst (λ (n : Option ℕ). IsFirst Client (λ q. put_to t.devices q ((state_of t).clients q)) n
      (first_put t.devices (state_of t).clients 1 t.joined)) same
      (first_client_is t.devices (λ q. at q t.clients.entries) 1 t.joined)

  -- whom the next hand-out is to, and what it is
  abbrev pub IsNext : Option Owner → Type 0
  IsNext owner = (owner ≡ option_and_then owner_of (next_out (state_of t))) × (next_out (state_of t) ≡ entry_of owner (state_of t))

  pub link_next : (id : ℕ) → Some id ≡ first_number owes_link t.links.entries → IsRising t.links.entries
      → IsDrawnOnly t.devices.drawn (state_of t).links
      → IsNext (Some (Link id))
  link_next id is rises known =
      let first = links_first (Some id) is rises known in
      let put = first_put t.devices (state_of t).clients 1 t.joined in
      let send = first_send (state_of t).links 1 t.devices.drawn in
      let next : next_out (state_of t) ≡ send = goes_first Link (λ q. send_on q ((state_of t).links q)) send put id first in
      (sym (ap (option_and_then owner_of) next ∙ first.whose), next ∙ first.is)

  pub client_next : (first : Option ℕ) → None ≡ first_number owes_link t.links.entries
      → IsFirst Client (λ q. put_to t.devices q ((state_of t).clients q)) first
      (first_put t.devices (state_of t).clients 1 t.joined) → IsRising t.links.entries → IsDrawnOnly t.devices.drawn (state_of t).links
      → IsNext (option_map Client first)
  client_next first none clients rises known =
      let put = first_put t.devices (state_of t).clients 1 t.joined in
      let send = first_send (state_of t).links 1 t.devices.drawn in
      let next : next_out (state_of t) ≡ put =
      goes_not Link (λ q. send_on q ((state_of t).links q)) send put (links_first None none rises known) in
      (sym (ap (option_and_then owner_of) next ∙ clients.whose), next ∙ (clients.is ∙ handed first))
    where
      handed : (n : Option ℕ) → option_and_then (λ q. put_to t.devices q ((state_of t).clients q)) n
          ≡ entry_of (option_map Client n) (state_of t)
      handed None = refl
      handed (Some n) = refl
