-- What follows a request: a service that is opened fits in a packet of its device, a forward that changes is there.
use Rattle.std.proofs.Common.{ℕ, ◌≡◌, ◌+◌, ◌≤◌, zero, suc, take, drop, false, List, length, Option, Some, sym, subst, arith}
use Rattle.std.proofs.Common.{nat_lt}
use Rattle.std.specs.Prelude.{unwrap_or, option_map}
use Rattle.std.proofs.lemmas.Bool.Decides.{nat_tests}
use Rattle.adb_outside.specs.Tables.{at}
use Rattle.adb_registry.specs.Registry.{DeviceTable}
use Rattle.adb_registry.specs.declared.row.Row.{Row}
use Rattle.adb_wire.specs.declared.headers.TheConstants.{MAX_PAYLOAD}
use Rattle.adb_forward.specs.declared.row.ForwardRow.{ForwardRow}
use Rattle.adb_request.specs.Requests.{request_at}
use Rattle.adb_request.specs.Meaning.{meaning}
use Rattle.adb_request.specs.declared.cutting.Found.{Found}
use Rattle.adb_request.specs.declared.cutting.Found.TheVariants.{More, Malformed, Whole}
use Rattle.adb_request.specs.declared.request.Request.{Request}
use Rattle.adb_reply.specs.Answer.{answer}
use Rattle.adb_reply.specs.declared.answer.Next.{Next}
use Rattle.adb_reply.specs.declared.answer.Next.TheVariants.{Select, Open}
use Rattle.adb_reply.proofs.AllAnswers.{Answers, answer_all}
use Rattle.adb_history.specs.Links.{maxdata_of}
use Rattle.adb_history.specs.Asking.{Asked, replied, after_next, after_found, reads_on}
use Rattle.adb_hub_clients.specs.Asking.{FitsNext}

-- a service that is opened fits in one packet of its device, with a NUL
abbrev FitsDevice : List (ℕ × Row) → Next → Type 0
FitsDevice rows (Open transport service) = length service + 1 ≤ unwrap_or (option_map (λ row. row.maxdata) (at transport rows)) 0
FitsDevice rows _ = Unit {0}

fits : (maxdata n : ℕ) → nat_lt maxdata (n + 1) ≡ false → n + 1 ≤ maxdata
fits maxdata n e = grind (arith, nat_tests)

module _ (rows : List (ℕ × Row)) (forwards : List (ℕ × ForwardRow)) where
  -- What follows each reply fits.
  fitting : Answers rows forwards (λ request. Unit {0}) (λ a. FitsDevice rows a.next)
  fitting = record {
    fails = λ why. tt;
    tells = λ rest. tt;
    tracks = λ rest long. tt;
    stops = tt;
    selects = λ tell_id id. tt;
    rebinds = λ on norebind transport local remote right is. tt;
    binds = λ on norebind transport local remote right. tt;
    unbinds = λ port. tt;
    unbinds_all = tt;
    opens = λ id text row right is e.
        subst (λ (found : Option Row). length text + 1 ≤ unwrap_or (option_map (λ row. row.maxdata) found) 0) (sym is)
        (fits row.maxdata (length text) e);
  }

  answer_fits : (selected : Option ℕ) (request : Request) → FitsDevice rows (answer rows forwards selected request).next
  answer_fits selected request = answer_all fitting selected request tt

-- where no device takes more than a packet has, what follows a request fits
module _ (devices : DeviceTable) (sized : (t : ℕ) → maxdata_of t devices ≤ MAX_PAYLOAD) (forwards : List (ℕ × ForwardRow)) where
  fits_packet : (next : Next) → FitsDevice devices.rows next → FitsNext (Some next)
  fits_packet (Open transport service) fit = let most = sized transport in omega (arith, fit, most)
  fits_packet _ fit = tt

  follows : (next : Next) (reply : List ℕ) (size : ℕ) (others : Asked → Asked) (q : Asked) → FitsNext (Some next)
      → ((p : Asked) → FitsNext p.next → FitsNext (others p).next) → FitsNext q.next → FitsNext (after_next next reply size others q).next
  follows (Select id) reply size others q fit rest before = rest (record (replied reply size q) { selected = Some id }) before
  follows _ reply size others q fit rest before = fit

  found_fits : (found : Found) (others : Asked → Asked) (q : Asked)
      → ((p : Asked) → FitsNext p.next → FitsNext (others p).next) → FitsNext q.next
      → FitsNext (after_found devices forwards found others q).next
  found_fits More others q rest before = before
  found_fits Malformed others q rest before = tt
  found_fits (Whole len) others q rest before =
      let request = meaning (take len (drop 4 q.rest)) in
      let a = answer devices.rows forwards q.selected request in
      follows a.next a.bytes (4 + len) others q (fits_packet a.next (answer_fits devices.rows forwards q.selected request)) rest before

  pub next_fits : (k : ℕ) (q : Asked) → FitsNext q.next → FitsNext (reads_on devices forwards k q).next
  next_fits zero q before = before
  next_fits (suc k) q before = found_fits (request_at q.rest) (reads_on devices forwards k) q (next_fits k) before
