-- What is left to be read, while the requests of a client are read one after another.
use Rattle.std.proofs.Common.{ℕ, zero, suc, ◌≡◌, ◌∙◌, ◌+◌, ◌<◌, ◌≤◌, arith, sym, ap, subst, refl, List, [], length, drop, Option}
use Rattle.std.proofs.lemmas.List.{drop_all}
use Rattle.adb_registry.specs.Registry.{DeviceTable}
use Rattle.adb_forward.specs.declared.row.ForwardRow.{ForwardRow}
use Rattle.adb_request.specs.Requests.{request_at}
use Rattle.adb_request.specs.declared.request.Request.{Request}
use Rattle.adb_request.specs.declared.cutting.Found.{Found}
use Rattle.adb_request.specs.declared.cutting.Found.TheVariants.{More as NotYet, Malformed as NoLength, Whole as Cut}
use Rattle.adb_client.specs.Ask.{asked_by, asked_in}
use Rattle.adb_client.specs.declared.ask.Ask.TheVariants.{More, Malformed, Whole}
use Rattle.adb_client.specs.declared.ask.Asked.{Asked as FirstAsked}
use Rattle.adb_reply.specs.declared.answer.Next.{Next}
use Rattle.adb_history.specs.Asking.{Asked, after_found, reads_on}
use Rattle.adb_hub_clients.specs.Plan.{asking}
use Rattle.adb_hub_clients.specs.Requests.{asked_so_far, IsAskedBehind, ReadsOne}
use Rattle.adb_hub_clients.specs.declared.requests.Reading.{Reading}
use Rattle.adb_hub_clients.specs.declared.requests.Step.{Step}
use Rattle.adb_hub_clients.specs.declared.requests.Step.TheVariants.{Again, End}

-- before a byte is read
abbrev pub first_reading : Option ℕ → Reading
first_reading selected = record { replies = []; used = 0; selected = selected }

-- a whole request of so many bytes, as what is asked first
abbrev pub asked_whole : Request → ℕ → FirstAsked
asked_whole request len = record { ask = Whole request; len = len }

-- all that is asked by what a client holds, or sends
abbrev pub asked_by_all : DeviceTable → List (ℕ × ForwardRow) → List ℕ → Option ℕ → Asked
asked_by_all devices forwards held selected = reads_on devices forwards (length held) (asking held selected)

-- What was read so far asks, with what is left, all that is asked; so many requests are left at most.
pub record IsLeft (devices : DeviceTable) (forwards : List (ℕ × ForwardRow)) (held : List ℕ) (selected : Option ℕ)
    (reading : Reading) : Type 0 where
  pub most : ℕ
  pub asks : reads_on devices forwards most (asked_so_far reading held) ≡ asked_by_all devices forwards held selected
  pub enough : length held ≤ reading.used + most
  pub within : reading.used ≤ length held

module _ (devices : DeviceTable) (forwards : List (ℕ × ForwardRow)) where
  -- where no byte is left, no request is read
  none_left : (most : ℕ) (q : Asked) → q.rest ≡ [] → reads_on devices forwards most q ≡ q
  none_left zero q none = refl
  none_left (suc most) q none = ap (λ rest. after_found devices forwards (request_at rest) (reads_on devices forwards most) q) none

  module _ (held : List ℕ) (selected : Option ℕ) (old : Reading) (left : IsLeft devices forwards held selected old) where
    -- all bytes were read
    pub nothing_left : length held ≤ old.used → asked_so_far old held ≡ asked_by_all devices forwards held selected
    nothing_left over = sym (none_left left.most (asked_so_far old held) (drop_all old.used held over)) ∙ left.asks

    module _ (new : Reading) where
      -- one more request was read
      pub less_left : ReadsOne devices forwards held old Again new → IsLeft devices forwards held selected new
      less_left reads = go left.most left.asks left.enough
        where
          go : (most : ℕ) → reads_on devices forwards most (asked_so_far old held) ≡ asked_by_all devices forwards held selected
              → length held ≤ old.used + most → IsLeft devices forwards held selected new
          go zero asks enough = absurd (omega (arith, enough, reads.later refl, reads.within))
          go (suc most) asks enough = record {
            most = most;
            asks = sym (reads.asked (reads_on devices forwards most)) ∙ asks;
            enough = omega (arith, enough, reads.later refl);
            within = reads.within;
          }

      -- what follows is known
      pub ends_here : (next : Option Next) → old.used < length held → ReadsOne devices forwards held old (End next) new
          → record (asked_so_far new held) { next = next } ≡ asked_by_all devices forwards held selected
      ends_here next some reads = go left.most left.asks left.enough
        where
          go : (most : ℕ) → reads_on devices forwards most (asked_so_far old held) ≡ asked_by_all devices forwards held selected
              → length held ≤ old.used + most → record (asked_so_far new held) { next = next } ≡ asked_by_all devices forwards held selected
          go zero asks enough = absurd (omega (arith, enough, some))
          go (suc most) asks enough = sym (reads.asked (reads_on devices forwards most)) ∙ asks

  -- before a byte is read all is left
  pub all_left : (held : List ℕ) (selected : Option ℕ) → IsLeft devices forwards held selected (first_reading selected)
  all_left held selected = record { most = length held; asks = refl; enough = omega arith; within = omega arith }

  -- ---- a piece that is a whole request
  module _ (piece : List ℕ) (selected : Option ℕ) (new : Reading) where
    -- it is all that was asked
    pub whole_again : ReadsOne devices forwards piece (first_reading selected) Again new → new.used ≡ length piece
        → asked_so_far new piece ≡ asked_by_all devices forwards piece selected
    whole_again reads used =
        nothing_left piece selected new
        (less_left piece selected (first_reading selected) (all_left piece selected) new reads)
        (omega (arith, used))

    -- what follows it is what follows all that was asked
    pub whole_end : (next : Option Next) → 0 < length piece → ReadsOne devices forwards piece (first_reading selected) (End next) new
        → record (asked_so_far new piece) { next = next } ≡ asked_by_all devices forwards piece selected
    whole_end next some reads = ends_here piece selected (first_reading selected) (all_left piece selected) new next some reads

  -- it is read first
  pub reads_whole : (old new : Reading) (selected : Option ℕ) (step : Step) (request : Request) (piece : List ℕ)
      → old ≡ first_reading selected
      → IsAskedBehind 0 (asked_whole request (length piece)) piece
      → ((held : List ℕ) → IsAskedBehind old.used (asked_whole request (length piece)) held → ReadsOne devices forwards held old step new)
      → ReadsOne devices forwards piece (first_reading selected) step new
  reads_whole old new selected step request piece is behind reads =
      subst (λ (old : Reading). (held : List ℕ) → IsAskedBehind old.used (asked_whole request (length piece)) held
      → ReadsOne devices forwards held old step new) is reads piece behind

-- a request is not empty
pub some_asked : (piece : List ℕ) (request : Request) (n : ℕ) → asked_whole request n ≡ asked_in (drop 0 piece) → 0 < n
some_asked piece request n is = go (request_at (drop 0 piece)) is
  where
    go : (found : Found) → asked_whole request n ≡ asked_by found (drop 0 piece) → 0 < n
    go NotYet is = absurd (let clash : Whole request ≡ More = ap (λ (a : FirstAsked). a.ask) is in cc)
    go NoLength is = absurd (let clash : Whole request ≡ Malformed = ap (λ (a : FirstAsked). a.ask) is in cc)
    go (Cut len) is = let size : n ≡ 4 + len = ap (λ (a : FirstAsked). a.len) is in omega (arith, size)
