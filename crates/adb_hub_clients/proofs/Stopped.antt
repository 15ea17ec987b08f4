-- What is left when the server stopped.
use Rattle.std.proofs.Common.{ℕ, ◌≡◌, List, [], ◌∷◌, filter, Bool, true, false, Option, Some, None, refl, sym, ◌∙◌, ap, subst, cond, arith}
use Rattle.std.specs.Prelude.{option_map, option_and_then, nat_eq}
use Rattle.std.specs.BTreeMap.{is_at}
use Rattle.std.specs.Ordering.{nat_cmp, is_eq}
use Rattle.std.proofs.lemmas.Bool.{eq-eqb}
use Rattle.std.proofs.lemmas.Bool.Decides.{nat_tests}
use Rattle.std.proofs.lemmas.Map.Entries.{lookup-filter-keys}
use Rattle.adb_outside.specs.Tables.{at}
use Rattle.adb_client.specs.Client.{SeenClient}
use Rattle.adb_client.specs.declared.phase.Phase.{Phase}
use Rattle.adb_client.specs.declared.phase.Phase.TheVariants.{Closing}
use Rattle.adb_history.specs.Rows.{Client, State}
use Rattle.adb_history.specs.Clients.{closing, closing_with, closes}
use Rattle.adb_history.specs.Losing.{only_client}
use Rattle.adb_hub_tables.specs.declared.tables.Tables.{Tables}
use Rattle.adb_hub_tables.specs.Tables.{client_row, link_row, state_of}
use Rattle.adb_hub_tables.specs.Tracked.{IsListedIn, IsListedAt}
use Rattle.adb_hub_tables.specs.Places.{LinkRoom, ClientRoom, IsCountedAt}
use Rattle.adb_hub_tables.specs.Fit.{IsFit, IsReadOutAt}
use Rattle.adb_hub_clients.specs.Leaving.{IsOnAny}
use Rattle.adb_hub_clients.specs.Stopping.{alone}

-- Of all that is kept one client alone stays.
pub record Forgets (client : ℕ) (old new : Tables) : Type 0 where
  pub joined : new.joined ≡ old.joined
  pub clients : new.clients.entries ≡ filter (λ entry. nat_eq entry.0 client) old.clients.entries
  pub links : new.links.entries ≡ []
  pub streams : new.streams ≡ record old.streams { streams = [] }
  pub devices : new.devices ≡ record old.devices { rows = [] }
  pub forwards : new.forwards ≡ []
  pub stopped : new.stopped ≡ true

-- what is left of a table of which one row alone stays
left_at : {X : Type 0} (c n : ℕ) (es : List (ℕ × X)) → at n (filter (λ entry. nat_eq entry.0 c) es) ≡ cond (nat_eq c n) (at n es) None
left_at c n es = lookup-filter-keys (is_at (nat_cmp n)) (λ k. nat_eq k c) (nat_eq c n) (λ k same. decides k same) es
  where
    decides : (k : ℕ) → is_eq (nat_cmp n k) ≡ true → nat_eq k c ≡ nat_eq c n
    decides k same = grind (arith, nat_tests)

module _ {client : ℕ} {old new : Tables} (h : Forgets client old new) where
  row_at : (n : ℕ) → at n new.clients.entries ≡ cond (nat_eq client n) (at n old.clients.entries) None
  row_at n = ap (λ (es : _). at n es) h.clients ∙ left_at client n old.clients.entries

  pub forgotten_state : state_of new ≡ alone client (state_of old)
  forgotten_state i = record {
    joined = h.joined i;
    drawn = (h.streams i).drawn;
    clients = λ n. at_number n i;
    links = λ k. option_map link_row (at k (h.links i));
    streams = λ l. at l (h.streams i).streams;
    devices = h.devices i;
    forwards = h.forwards i;
    stopped = h.stopped i;
  }
    where
      by_test : (b : Bool) (row : Option SeenClient) → option_map client_row (cond b row None) ≡ cond b (option_map client_row row) None
      by_test true row = refl
      by_test false row = refl

      at_number : (n : ℕ) → option_map client_row (at n new.clients.entries)
          ≡ only_client client (λ c. option_map client_row (at c old.clients.entries)) n
      at_number n = ap (option_map client_row) (row_at n) ∙ by_test (nat_eq client n) (at n old.clients.entries)

  pub forgotten_fit : IsFit old → IsOnAny client (at client old.clients.entries) → IsFit new
  forgotten_fit fit any = record {
    provided = record {
      links = λ k. subst (λ (es : _). LinkRoom 0 (at k es)) (sym h.links) tt;
      clients = λ c. subst (ClientRoom 0) (sym (row_at c)) (room_if (nat_eq client c) (at c old.clients.entries) (fit.provided.clients c));
      counted = λ k. subst (λ (es : _). IsCountedAt k new.streams.streams (at k es)) (sym h.links) tt;
      tracked = λ c. subst (IsListedAt c new.trackers.keys) (sym (row_at c)) (listed c (nat_eq client c) refl);
    };
    read_out = λ k. subst (λ (es : _). IsReadOutAt (at k es)) (sym h.links) tt;
  }
    where
      room_if : (b : Bool) (row : Option SeenClient) → ClientRoom 0 row → ClientRoom 0 (cond b row None)
      room_if true row room = room
      room_if false row room = tt

      same : (c : ℕ) → nat_eq client c ≡ true → client ≡ c
      same c is = grind (arith, nat_tests)

      listed : (c : ℕ) (b : Bool) → nat_eq client c ≡ b → IsListedAt c new.trackers.keys (cond b (at c old.clients.entries) None)
      listed c true is = subst (λ (q : ℕ). IsListedAt q new.trackers.keys (at q old.clients.entries)) (same c is) (any new.trackers.keys)
      listed c false is = tt

-- the phase of a client that is there, and Closing for one that is not
abbrev phase_or : Option Client → Phase
phase_or None = Closing
phase_or (Some row) = row.about.phase

-- a client that closes is on any list
closed_row : (c : ℕ) (row : Option SeenClient) (due : List ℕ) (was : Client)
    → option_map client_row row ≡ closing_with due was → IsOnAny c row
closed_row c None due was is trackers = tt
closed_row c (Some client) [] was is trackers = let clash : Some (client_row client) ≡ None = is in cc
closed_row c (Some client) (b ∷ due) was is trackers =
    let phase : client.about.phase ≡ Closing = ap phase_or is in
    subst (λ (phase : Phase). IsListedIn phase c trackers) (sym phase) tt

pub closed_on_any : (c : ℕ) (row : Option SeenClient) (was : Option Client)
    → option_map client_row row ≡ option_and_then closing was → IsOnAny c row
closed_on_any c None was is trackers = tt
closed_on_any c (Some client) None is trackers = let clash : Some (client_row client) ≡ None = is in cc
closed_on_any c (Some client) (Some was) is trackers = closed_row c (Some client) was.due was is trackers

-- the row of a client that closed
pub closed_at : (c : ℕ) (new : Tables) (s : State) → state_of new ≡ closes c s
    → option_map client_row (at c new.clients.entries) ≡ option_and_then closing (s.clients c)
closed_at c new s is =
    ap (λ (then : State). then.clients c) is ∙ ap (λ b. cond b (option_and_then closing (s.clients c)) (s.clients c)) (eq-eqb c c refl)

-- what closes before all else goes closes behind it
pub alone_closes : (c : ℕ) (s : State) → alone c (closes c s) ≡ closes c (alone c s)
alone_closes c s i = record (alone c s) { clients = λ n. by_test (nat_eq c n) (s.clients n) i }
  where
    by_test : (b : Bool) (row : Option Client) → cond b (cond b (option_and_then closing row) row) None
        ≡ cond b (option_and_then closing (cond b row None)) (cond b row None)
    by_test true row = refl
    by_test false row = refl
