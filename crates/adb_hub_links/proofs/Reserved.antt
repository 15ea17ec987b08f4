-- All is reserved that packets take.
use Rattle.std.proofs.Common.{ℕ, ◌+◌, ◌≡◌, List, length, sym, ◌∙◌, ap, subst}
use Rattle.adb_outside.specs.Tables.{at}
use Rattle.adb_client.specs.Client.{SeenClient}
use Rattle.adb_history.specs.Links.{maxdata_of}
use Rattle.adb_hub_rules.specs.declared.came.Came.{Came}
use Rattle.adb_hub_tables.specs.declared.tables.Tables.{Tables}
use Rattle.adb_hub_rules.specs.Came.{packets_of, slices_in}
use Rattle.adb_hub_tables.specs.Places.{LinkRoom, ClientRoom}
use Rattle.adb_hub_tables.specs.Tracked.{IsAmong}
use Rattle.adb_laws_resting.specs.Named.{granted}
use Rattle.adb_hub_links.specs.Naming.{AreNamedOn}
use Rattle.adb_hub_tables.specs.Widening.{WidensClients}
use Rattle.adb_hub_tables.proofs.Widening.{client_room}
use Rattle.adb_hub_links.specs.Reserving.{IsCutAt, all_writes, IsReserved}
use Rattle.adb_hub_links.proofs.More.{same_all_writes}

-- What was reserved, one after another: places of clients, by counts; then what they hold was made ready, in so many
-- writes; then places of the link.
pub record Reserving (link : ℕ) (packets : List Came) (ids : List ℕ) (middle : List (ℕ × SeenClient)) (t : Tables) : Type 0 where
  pub named : AreNamedOn link (packets_of packets) t.streams.streams ids
  pub slices : ℕ → ℕ
  pub counted : (c : ℕ) → slices c ≡ slices_in (packets_of packets) t.streams.streams c
  pub served : (c : ℕ) → ClientRoom (slices c) (at c middle)
  pub more : WidensClients middle t.clients.entries
  pub maxdata : ℕ
  pub size : maxdata ≡ maxdata_of link t.devices
  pub credit : ℕ → ℕ
  pub given : (l : ℕ) → credit l ≡ granted (packets_of packets) l
  pub cut : (l : ℕ) → IsAmong l ids → IsCutAt (credit l) maxdata (at l t.streams.streams) t.clients.entries
  pub writes : ℕ
  pub written : writes ≡ all_writes credit maxdata ids t.streams.streams middle
  pub room : LinkRoom (writes + length packets) (at link t.links.entries)

pub is_reserved : {link : ℕ} {packets : List Came} {ids : List ℕ} {middle : List (ℕ × SeenClient)} {t : Tables}
    → Reserving link packets ids middle t
    → IsReserved link packets ids t
is_reserved {link} {packets} {ids} {middle} {t} h = record {
  named = h.named;
  clients = λ c.
      subst (λ (n : ℕ). ClientRoom n (at c t.clients.entries)) (h.counted c)
      (client_room (h.slices c) (at c middle) (at c t.clients.entries) (h.more c) (h.served c));
  cut = λ l there.
      subst (λ (n : ℕ). IsCutAt (granted (packets_of packets) l) n (at l t.streams.streams) t.clients.entries) h.size
      (subst (λ (n : ℕ). IsCutAt n h.maxdata (at l t.streams.streams) t.clients.entries) (h.given l) (h.cut l there));
  room =
      let given : h.credit ≡ granted (packets_of packets) = λ i. λ l. h.given l i in
      let same = same_all_writes middle t.clients.entries h.more (granted (packets_of packets))
      (maxdata_of link t.devices) ids t.streams.streams in
      let writes =
      h.written
      ∙ (ap (λ (credit : ℕ → ℕ). all_writes credit h.maxdata ids t.streams.streams middle) given
      ∙ (ap (λ (n : ℕ). all_writes (granted (packets_of packets)) n ids t.streams.streams middle) h.size ∙ sym same)) in
      subst (λ (n : ℕ). LinkRoom (n + length packets) (at link t.links.entries)) writes h.room;
}
