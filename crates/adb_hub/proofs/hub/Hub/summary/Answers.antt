use Rattle.std.proofs.Common.{ℕ, ◌≡◌, sym, ◌∙◌, ap, arith, length}
use Rattle.adb_outside.specs.Tables.{IsRising}
use Rattle.adb_history.specs.Kept.{Kept, kept}
use Rattle.adb_hub_tables.specs.declared.tables.Tables.{Tables}
use Rattle.adb_hub_tables.specs.Tables.{client_row, link_row, state_of}
use Rattle.adb_hub.specs.declared.answers.Summary.{Summary}
use Rattle.adb_hub.specs.Sound.{IsSound}
use Rattle.adb_hub.proofs.Standing.{drawn_of}
use Rattle.adb_hub.proofs.Counts.{shown_count, listed_count, few}
use Rattle.adb_hub.proofs.hub.Hub.summary.Goals as goal

abbrev summary_of : Kept → Summary
summary_of k = record { clients = length k.clients; links = length k.links; streams = length k.streams.streams; stopped = k.stopped }

same_summary : (clients links streams : ℕ) (k : Kept)
    → (clients ≡ length k.clients) × (links ≡ length k.links) × (streams ≡ length k.streams.streams)
    → record { clients = clients; links = links; streams = streams; stopped = k.stopped } ≡ summary_of k
same_summary clients links streams k h i = record { clients = h.0 i; links = h.1 i; streams = h.2 i; stopped = k.stopped }

module _ (t : Tables) (sound : IsSound t) where
  clients : IsRising t.clients.entries → length t.clients.entries ≡ length (kept (state_of t)).clients
  clients rises = shown_count client_row t.clients.entries t.joined rises (drawn_of (state_of t) sound.reached).clients

  links : IsRising t.links.entries → length t.links.entries ≡ length (kept (state_of t)).links
  links rises = shown_count link_row t.links.entries t.devices.drawn rises (drawn_of (state_of t) sound.reached).links

  streams : IsRising t.streams.streams → length t.streams.streams ≡ length (kept (state_of t)).streams.streams
  streams rises = listed_count t.streams.streams t.streams.drawn rises (drawn_of (state_of t) sound.reached).streams

pub count-requires : goal.count-requires
count-requires c =
    let t = c.self.inside.tables in
    let is : c.len.result ≡ length (kept (state_of t)).clients = c.len.ensures.len ∙ clients t c.self.invariant c.len.ensures.ordered in
    let joined : c.joined.result ≡ t.joined = c.joined.ensures ∙ sym (ap (λ (k : Kept). k.joined) c.self.view_is) in
    omega (arith, is, joined, few (state_of t).clients 1 t.joined)

pub count-requires-2 : goal.count-requires-2
count-requires-2 c =
    let t = c.self.inside.tables in
    let is : c.len-2.result ≡ length (kept (state_of t)).links = c.len-2.ensures.len ∙ links t c.self.invariant c.len-2.ensures.ordered in
    let plugged : c.plugged.result ≡ t.devices.drawn = c.plugged.ensures ∙ sym (ap (λ (k : Kept). k.devices.drawn) c.self.view_is) in
    omega (arith, is, plugged, few (state_of t).links 1 t.devices.drawn)

pub count-requires-3 : goal.count-requires-3
count-requires-3 c =
    let t = c.self.inside.tables in
    let is : c.len-3.result ≡ length (kept (state_of t)).streams.streams =
    c.len-3.ensures.count ∙ streams t c.self.invariant c.len-3.ensures.sound.rises in
    omega (arith, is, few (state_of t).streams 1 t.streams.drawn, c.len-3.ensures.sound.drawn)

pub returns : goal.returns
returns c =
    let t = c.self.inside.tables in
    let known = ap (λ (k : Kept). summary_of k) c.self.view_is in
    same_summary c.count.result c.count-2.result c.count-3.result (kept (state_of t)) (
      c.count.ensures ∙ (c.len.ensures.len ∙ clients t c.self.invariant c.len.ensures.ordered),
      c.count-2.ensures ∙ (c.len-2.ensures.len ∙ links t c.self.invariant c.len-2.ensures.ordered),
      c.count-3.ensures ∙ (c.len-3.ensures.count ∙ streams t c.self.invariant c.len-3.ensures.sound.rises),
    ) ∙ known
