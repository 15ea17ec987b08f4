-- Where places are reserved and more is made ready, as many writes go up.
use Rattle.std.proofs.Common.{ℕ, ◌≡◌, List, [], ◌∷◌, length, Option, Some, None, refl, ap, arith}
use Rattle.adb_outside.specs.Tables.{at}
use Rattle.adb_client.specs.Client.{SeenClient}
use Rattle.adb_stream.specs.declared.flow.Flow.{Flow}
use Rattle.adb_stream.specs.declared.row.Stream.{Stream}
use Rattle.adb_history.specs.Rows.{Client}
use Rattle.adb_hub_tables.specs.Widening.{WidensClient, WidensRow, WidensClients}
use Rattle.adb_hub_tables.specs.Ready.{up_writes}
use Rattle.adb_hub_tables.specs.Ready.{writes_behind}
use Rattle.adb_hub_links.specs.Reserving.{writes_at, all_writes}

-- ---- one client
same_held : {old new : SeenClient} → WidensClient old new → length new.held ≡ length old.held
same_held h = ap (λ (c : Client). length c.held) h.row

same_writes : (flow : Flow) (more maxdata : ℕ) (old new : Option SeenClient) → WidensRow WidensClient old new
    → writes_behind flow more maxdata new ≡ writes_behind flow more maxdata old
same_writes flow more maxdata None None h = refl
same_writes flow more maxdata None (Some new) h = absurd h
same_writes flow more maxdata (Some old) None h = absurd h
same_writes flow more maxdata (Some old) (Some new) h = ap (up_writes flow more maxdata) (same_held h)

-- ---- all clients
pub same_writes_at : (old new : List (ℕ × SeenClient)) → WidensClients old new → (more maxdata : ℕ) (row : Option Stream)
    → writes_at more maxdata row new ≡ writes_at more maxdata row old
same_writes_at old new have more maxdata None = refl
same_writes_at old new have more maxdata (Some stream) =
    same_writes stream.part.flow more maxdata (at stream.client old) (at stream.client new) (have stream.client)

pub same_all_writes : (old new : List (ℕ × SeenClient)) → WidensClients old new
    → (more : ℕ → ℕ) (maxdata : ℕ) (ids : List ℕ) (streams : List (ℕ × Stream))
    → all_writes more maxdata ids streams new ≡ all_writes more maxdata ids streams old
same_all_writes old new have more maxdata [] streams = refl
same_all_writes old new have more maxdata (l ∷ ids) streams =
    let first = same_writes_at old new have (more l) maxdata (at l streams) in
    let others = same_all_writes old new have more maxdata ids streams in
    omega (arith, first, others)
