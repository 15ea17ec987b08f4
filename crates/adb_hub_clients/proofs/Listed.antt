-- Those that are listed, with one more.
use Rattle.std.proofs.Common.{ℕ, ◌≡◌, List, [], ◌∷◌, Option, Some, None, Ordering, refl, sym, inl, inr}
use Rattle.std.specs.BTreeSet.{insert_key}
use Rattle.std.specs.Ordering.{nat_cmp, match_ordering}
use Rattle.std.specs.declared.cmp.Ordering.TheVariants.{Less, Equal, Greater}
use Rattle.std.proofs.lemmas.Map.Lookups.{exact_unsigned}
use Rattle.adb_outside.specs.Tables.{at}
use Rattle.adb_client.specs.Client.{SeenClient}
use Rattle.adb_client.specs.declared.phase.Phase.{Phase}
use Rattle.adb_client.specs.declared.phase.Phase.TheVariants.{Asking, Opening, Streaming, Binding, Tracking, Closing, Gone}
use Rattle.adb_hub_tables.specs.declared.tables.Tables.{Tables}
use Rattle.adb_hub_tables.specs.Tracked.{IsAmong, IsListedIn, IsListedAt}
use Rattle.adb_hub_tables.specs.Fit.{IsFit}

-- a number that is added is listed
pub added : (k : ℕ) (keys : List ℕ) → IsAmong k (insert_key nat_cmp keys k)
added k [] = inl refl
added k (q ∷ keys) = go (nat_cmp k q) refl (added k keys)
  where
    go : (o : Ordering) → nat_cmp k q ≡ o → IsAmong k (insert_key nat_cmp keys k)
        → IsAmong k (match_ordering o (k ∷ q ∷ keys) (q ∷ keys) (q ∷ insert_key nat_cmp keys k))
    go Less is later = inl refl
    go Equal is later = inl (sym (exact_unsigned k q is))
    go Greater is later = inr later

-- and those that were listed still are
pub still_among : (k c : ℕ) (keys : List ℕ) → IsAmong c keys → IsAmong c (insert_key nat_cmp keys k)
still_among k c [] among = absurd among
still_among k c (q ∷ keys) among = go (nat_cmp k q) among (still_among k c keys)
  where
    go : (o : Ordering) → IsAmong c (q ∷ keys) → (IsAmong c keys → IsAmong c (insert_key nat_cmp keys k))
        → IsAmong c (match_ordering o (k ∷ q ∷ keys) (q ∷ keys) (q ∷ insert_key nat_cmp keys k))
    go Less among later = inr among
    go Equal among later = among
    go Greater (inl is) later = inl is
    go Greater (inr behind) later = inr (later behind)

module _ (c : ℕ) (old new : List ℕ) (more : IsAmong c old → IsAmong c new) where
  listed_in : (phase : Phase) → IsListedIn phase c old → IsListedIn phase c new
  listed_in Asking listed = tt
  listed_in (Opening l) listed = tt
  listed_in (Streaming l) listed = tt
  listed_in Binding listed = tt
  listed_in Tracking listed = more listed
  listed_in Closing listed = tt
  listed_in Gone listed = tt

  listed_at : (client : Option SeenClient) → IsListedAt c old client → IsListedAt c new client
  listed_at None listed = tt
  listed_at (Some client) listed = listed_in client.about.phase listed

-- more that are listed are no harm
pub listed_fit : (old new : Tables) → ((c : ℕ) → IsAmong c old.trackers.keys → IsAmong c new.trackers.keys) → IsFit old
    → IsFit (record old { trackers = new.trackers })
listed_fit old new more fit = record {
  provided = record {
    links = fit.provided.links;
    clients = fit.provided.clients;
    counted = fit.provided.counted;
    tracked = λ c. listed_at c old.trackers.keys new.trackers.keys (more c) (at c old.clients.entries) (fit.provided.tracked c);
  };
  read_out = fit.read_out;
}
