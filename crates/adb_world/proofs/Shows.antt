-- What the hub of a world shows is what its history leaves.
use Rattle.std.specs.Prelude.{ℕ, ◌≡◌}
use Rattle.std.proofs.Common.{◌∙◌, ap}
use Rattle.adb_outside.specs.Tables.{at}
use Rattle.adb_outside.proofs.TableLaws.{shows}
use Rattle.adb_history.specs.Kept.{Kept, IsLawful}
use Rattle.adb_history.specs.Machine.{History, state}
use Rattle.adb_history.proofs.OrderlyStates.{orderly}

module _ (h : History) (hub : Kept) (lawful : IsLawful hub h) where
  pub links_show : (t : ℕ) → at t hub.links ≡ (state h).links t
  links_show t =
      let o = orderly h lawful.legal in
      ap (λ (k : Kept). at t k.links) lawful.seen ∙ shows (state h).links (state h).devices.drawn o.links.zero o.links.above t

  pub clients_show : (c : ℕ) → at c hub.clients ≡ (state h).clients c
  clients_show c =
      let o = orderly h lawful.legal in
      ap (λ (k : Kept). at c k.clients) lawful.seen ∙ shows (state h).clients (state h).joined o.clients.zero o.clients.above c

  pub streams_show : (l : ℕ) → at l hub.streams.streams ≡ (state h).streams l
  streams_show l =
      let o = orderly h lawful.legal in
      ap (λ (k : Kept). at l k.streams.streams) lawful.seen ∙ shows (state h).streams (state h).drawn o.streams.zero o.streams.above l
