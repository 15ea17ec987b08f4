-- The model device is selected by its serial, and its services are asked for there.
use Rattle.std.specs.Prelude.{ℕ, ◌+◌, ◌≡◌, ◌≤◌, Bool, cond, List, [], length, codes, Some, None}
use Rattle.std.proofs.Common.{refl, ap, arith}
use Rattle.std.proofs.lemmas.Bool.{le-ltb}
use Rattle.adb_banner.specs.Banner.{identity_of, last_value}
use Rattle.adb_request.specs.Meaning.{meaning}
use Rattle.adb_request.specs.declared.request.Request.TheVariants.{Service}
use Rattle.adb_reply.specs.Answer.{answer}
use Rattle.adb_reply.specs.Strings.{failed}
use Rattle.adb_reply.specs.declared.answer.Next.TheVariants.{Select, Open}
use Rattle.adb_laws_answers.specs.Model.{model_devices}
use Rattle.adb_laws_answers.proofs.Reading.{Leads}

selecting : answer model_devices.rows [] None (meaning (codes "host:transport:model-1")) ≡ record { bytes = codes "OKAY"; next = Select 1 }
unfolding model_devices meaning identity_of last_value
selecting = refl

opening : (service : List ℕ) → length service ≤ 1024
    → answer model_devices.rows [] (Some 1) (Service service) ≡ record { bytes = []; next = Open 1 service }
unfolding model_devices identity_of last_value
opening service short =
    ap (λ (b : Bool). cond b (failed (codes "service name too long")) (record { bytes = []; next = Open 1 service }))
    (le-ltb 65536 (length service + 1) (omega (arith, short)))

pub leads : Leads model_devices
leads = record { selecting = selecting; opening = opening }
