-- Where nothing is due on the link, all that became due to the device was sent to it.
use Rattle.std.specs.Prelude.{ℕ, ◌≡◌, true, false, is_some, List, [], ◌++◌, Option, Some, None}
use Rattle.std.proofs.Common.{refl, sym, ◌∙◌, ap}
use Rattle.std.proofs.lemmas.List.{append-nil}
use Rattle.adb_outside.specs.Tables.{at}
use Rattle.adb_registry.specs.Registry.{DeviceTable}
use Rattle.adb_wire.specs.Cutting.{framed}
use Rattle.adb_history.specs.Bytes.{bytes_sent, sent}
use Rattle.adb_history.specs.Events.{spelled_to}
use Rattle.adb_history.specs.Kept.{Kept, IsLawful}
use Rattle.adb_history.specs.Lives.{packets_of}
use Rattle.adb_history.specs.Machine.{History, state, told}
use Rattle.adb_history.specs.Rows.{Link}
use Rattle.adb_history.proofs.OrderlyStates.{orderly}
use Rattle.adb_history.proofs.OutputEntries.{all_due_past_sent}
use Rattle.adb_laws_births.proofs.Laws.{sends_first}
use Rattle.adb_laws_answers.specs.Model.{model_devices}
use Rattle.adb_world.specs.Settled.{Each}
use Rattle.adb_world.proofs.Shows.{links_show}

-- the model device is there
model_there : is_some (at 1 model_devices.rows) ≡ true
unfolding model_devices
model_there = refl

module _ (h : History) (hub : Kept) (lawful : IsLawful hub h) (known : (state h).devices ≡ model_devices)
    (none : Each hub.links (λ (link : Link). link.due ≡ [])) where
  link_there : (link : Link) × ((state h).links 1 ≡ Some link)
  link_there = go ((state h).links 1) refl
    where
      plugged : is_some ((state h).links 1) ≡ true
      plugged = (orderly h lawful.legal).linked 1 ∙ (ap (λ (table : DeviceTable). is_some (at 1 table.rows)) known ∙ model_there)

      go : (o : Option Link) → (state h).links 1 ≡ o → (link : Link) × ((state h).links 1 ≡ Some link)
      go None is = absurd (let clash : false ≡ true = sym (ap is_some is) ∙ plugged in cc)
      go (Some link) is = (link, is)

  pub all_bytes : spelled_to 1 (told h) ≡ bytes_sent 1 h
  all_bytes =
      all_due_past_sent h lawful.legal 1 link_there.0 link_there.1
      ∙ (ap (λ (x : List ℕ). bytes_sent 1 h ++ x) due ∙ append-nil (bytes_sent 1 h))
    where
      due : link_there.0.due ≡ []
      due = none 1 link_there.0 (links_show h hub lawful 1 ∙ link_there.1)

  pub all_sent : sent 1 h ≡ packets_of 1 h
  all_sent = ap (λ (x : List ℕ). (framed x).given) (sym all_bytes) ∙ (sends_first h lawful.legal 1).packets
