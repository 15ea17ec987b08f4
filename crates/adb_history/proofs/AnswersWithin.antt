-- A request opens a service of a device whose number was drawn.
use Rattle.std.proofs.Common.{ℕ, ◌+◌, ◌≡◌, ◌≤◌, ◌<◌, ◌++◌, true, false, List, length, Option, Some, None, is_some, sym, ◌∙◌, zero, suc}
use Rattle.std.proofs.Common.{take, drop}
use Rattle.std.proofs.Common.{inl, inr, ◌⊎◌, ap}
use Rattle.std.proofs.lemmas.Bool.{cases_lt}
use Rattle.adb_outside.specs.Tables.{at}
use Rattle.adb_registry.specs.Registry.{DeviceTable}
use Rattle.adb_forward.specs.declared.row.ForwardRow.{ForwardRow}
use Rattle.adb_request.specs.Requests.{request_at}
use Rattle.adb_request.specs.Meaning.{meaning}
use Rattle.adb_request.specs.declared.cutting.Found.{Found}
use Rattle.adb_request.specs.declared.cutting.Found.TheVariants.{More, Malformed, Whole}
use Rattle.adb_reply.specs.Answer.{answer}
use Rattle.adb_reply.specs.declared.answer.Next.{Next}
use Rattle.adb_reply.specs.declared.answer.Next.TheVariants.{Select, Open}
use Rattle.adb_reply.proofs.Openings.{OpensThere, opens_there}
use Rattle.adb_history.specs.Asking.{Asked, replied, after_next, after_found, reads_on, asks_with}
use Rattle.adb_history.proofs.Changes.{HasRowsWithin}

-- what follows opens no service, or one of a device whose number was drawn
abbrev pub OpensWithin : ℕ → Next → Type 0
OpensWithin plugged (Open transport service) = transport ≤ plugged
OpensWithin plugged _ = Unit {0}

abbrev pub NextWithin : ℕ → Option Next → Type 0
NextWithin plugged None = Unit {0}
NextWithin plugged (Some next) = OpensWithin plugged next

-- a device that is there has a number that was drawn
pub row_within : (plugged id : ℕ) (devices : DeviceTable) → HasRowsWithin plugged devices
    → is_some (at id devices.rows) ≡ true → id ≤ plugged
row_within plugged id devices h e = go (cases_lt plugged id)
  where
    go : (plugged < id) ⊎ (id ≤ plugged) → id ≤ plugged
    go (inl lt) = let clash : false ≡ true = sym (ap is_some (h.above id lt)) ∙ e in cc
    go (inr le) = le

module _ (plugged : ℕ) (devices : DeviceTable) (within : HasRowsWithin plugged devices) where
  opens_within : (next : Next) → OpensThere devices.rows next → OpensWithin plugged next
  opens_within (Open transport service) e = row_within plugged transport devices within e
  opens_within _ e = tt

  next_within : (next : Next) (reply : List ℕ) (size : ℕ) (others : Asked → Asked) (q : Asked) → OpensWithin plugged next
      → ((x : Asked) → NextWithin plugged x.next → NextWithin plugged (others x).next) → NextWithin plugged q.next
      → NextWithin plugged (after_next next reply size others q).next
  next_within (Select id) reply size others q opens rest h = rest (record (replied reply size q) { selected = Some id }) h
  next_within _ reply size others q opens rest h = opens

  found_within : (forwards : List (ℕ × ForwardRow)) (found : Found) (others : Asked → Asked) (q : Asked)
      → ((x : Asked) → NextWithin plugged x.next → NextWithin plugged (others x).next) → NextWithin plugged q.next
      → NextWithin plugged (after_found devices forwards found others q).next
  found_within forwards More others q rest h = h
  found_within forwards Malformed others q rest h = tt
  found_within forwards (Whole len) others q rest h =
      let request = meaning (take len (drop 4 q.rest)) in
      let a = answer devices.rows forwards q.selected request in
      next_within a.next a.bytes (4 + len) others q (opens_within a.next (opens_there devices.rows forwards q.selected request)) rest h

  reads_within : (forwards : List (ℕ × ForwardRow)) (k : ℕ) (q : Asked) → NextWithin plugged q.next
      → NextWithin plugged (reads_on devices forwards k q).next
  reads_within forwards zero q h = h
  reads_within forwards (suc k) q h =
      found_within forwards (request_at q.rest) (reads_on devices forwards k) q (λ x i. reads_within forwards k x i) h

  pub asks_within : (forwards : List (ℕ × ForwardRow)) (bytes : List ℕ) (q : Asked) → NextWithin plugged q.next
      → NextWithin plugged (asks_with devices forwards bytes q).next
  asks_within forwards bytes q h = reads_within forwards (length (q.rest ++ bytes)) (record q { rest = q.rest ++ bytes }) h
