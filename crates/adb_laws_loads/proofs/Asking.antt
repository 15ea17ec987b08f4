-- What a client of a load asks, whatever the devices are: its first read has two requests, behind which nothing more is asked.
use Rattle.std.proofs.Common.{ℕ, ◌+◌, ◌%◌, ◌≡◌, ◌<◌, Bool, true, false, cond, List, [], ◌++◌, drop, zero, suc, refl, sym, ◌∙◌, ap, subst}
use Rattle.std.proofs.Common.{arith}
use Rattle.std.specs.Prelude.{Option, Some, None, codes, nat_lt, Result, Ok, Err, is_none}
use Rattle.std.specs.Fmt.{decimal, digits}
use Rattle.std.specs.Map.{values_of}
use Rattle.std.proofs.Math.Nat.{mod-lt}
use Rattle.adb_outside.specs.Tables.{at}
use Rattle.adb_outside.specs.declared.kinds.Selector.TheVariants.{Id}
use Rattle.adb_registry.specs.Registry.{DeviceTable}
use Rattle.adb_registry.specs.Choice.{choice}
use Rattle.adb_registry.specs.declared.row.Row.{Row}
use Rattle.adb_registry.specs.declared.choice.Refusal.{Refusal}
use Rattle.adb_forward.specs.declared.row.ForwardRow.{ForwardRow}
use Rattle.adb_request.specs.Meaning.{meaning}
use Rattle.adb_reply.specs.Strings.{failed}
use Rattle.adb_reply.specs.Answer.{selects, opens_at}
use Rattle.adb_reply.specs.Chosen.{device_or}
use Rattle.adb_reply.specs.Refusals.{refusal_text, no_transport}
use Rattle.adb_reply.specs.declared.answer.Next.{Next}
use Rattle.adb_reply.specs.declared.answer.Next.TheVariants.{Close, Open}
use Rattle.adb_history.specs.Asking.{Asked, nothing_asked, asks_with, reads_on, after_answer}
use Rattle.adb_client.specs.declared.about.Want.{Want}
use Rattle.adb_history.specs.Book.{kills, forwards_by, wanted_by}
use Rattle.adb_load.specs.Acts.{asked_of, link_of}

-- the service that each client of a load asks for
abbrev pub echo : List ℕ
echo = codes "echo:"

-- the two requests of a client whose device is on this link
abbrev pub requests : ℕ → List ℕ
requests t = codes "0013host:transport-id:" ++ decimal t ++ codes "0005echo:"

-- what was asked behind a device that was selected, from how its row takes the service
abbrev pub served : ℕ → (why : List ℕ) → Next → Asked
served id why next = record { replies = codes "OKAY" ++ why; used = 32; rest = []; selected = Some id; next = Some next }

abbrev pub served_if : ℕ → Bool → Asked
served_if id true = served id (failed (codes "service name too long")).bytes Close
served_if id false = served id [] (Open id echo)

abbrev pub served_at : ℕ → Option Row → Asked
served_at id None = served id (failed no_transport).bytes Close
served_at id (Some row) = served_if id (nat_lt row.maxdata 6)

-- what was asked, from how the selection of a device by this link's number is answered
abbrev pub chosen_by : ℕ → DeviceTable → Result ℕ Refusal → Asked
chosen_by t devices (Ok id) = served_at id (at id devices.rows)
chosen_by t devices (Err why) = record {
  replies = (failed (refusal_text (Id t) why)).bytes;
  used = 23;
  rest = codes "0005echo:";
  selected = None;
  next = Some Close;
}

-- the links of a load one by one
pub by_link : (P : ℕ → Type 0) → P 1 → P 2 → P 3 → P 4 → P 5 → P 6 → P 7 → P 8 → (n : ℕ) → n < 8 → P (n + 1)
by_link P a b c d e f g h zero small = a
by_link P a b c d e f g h (suc zero) small = b
by_link P a b c d e f g h (suc (suc zero)) small = c
by_link P a b c d e f g h (suc (suc (suc zero))) small = d
by_link P a b c d e f g h (suc (suc (suc (suc zero)))) small = e
by_link P a b c d e f g h (suc (suc (suc (suc (suc zero))))) small = f
by_link P a b c d e f g h (suc (suc (suc (suc (suc (suc zero)))))) small = g
by_link P a b c d e f g h (suc (suc (suc (suc (suc (suc (suc zero))))))) small = h
by_link P a b c d e f g h (suc (suc (suc (suc (suc (suc (suc (suc n)))))))) small = absurd (omega (arith, small))

-- ---- what is read
module _ (devices : DeviceTable) (forwards : List (ℕ × ForwardRow)) where
  -- a client that has so much to ask and selected so
  abbrev selecting : Option ℕ → (used : ℕ) → (replies rest : List ℕ) → Asked
  selecting selected used replies rest = record { replies = replies; used = used; rest = rest; selected = selected; next = None }

  second : (id : ℕ) → reads_on devices forwards 31 (selecting (Some id) 23 (codes "OKAY") (codes "0005echo:"))
      ≡ served_at id (at id devices.rows)
  unfolding meaning
  second id = by_row (at id devices.rows)
    where
      q : Asked
      q = selecting (Some id) 23 (codes "OKAY") (codes "0005echo:")

      by_room : (full : Bool)
          → after_answer
          (cond full (failed (codes "service name too long")) (record { bytes = []; next = Open id echo })) 9
          (reads_on devices forwards 30) q
          ≡ served_if id full
      by_room true = refl
      by_room false = refl

      by_row : (row : Option Row) → after_answer (opens_at id echo row) 9 (reads_on devices forwards 30) q ≡ served_at id row
      by_row None = refl
      by_row (Some row) = by_room (nat_lt row.maxdata 6)

  first : (t : ℕ) (text : List ℕ) (r : Result ℕ Refusal) → drop 23 text ≡ codes "0005echo:"
      → after_answer (selects false (device_or (Id t) r)) 23 (reads_on devices forwards 31) (selecting None 0 [] text)
      ≡ chosen_by t devices r
  first t text (Ok id) is = ap (λ rest. reads_on devices forwards 31 (selecting (Some id) 23 (codes "OKAY") rest)) is ∙ second id
  first t text (Err why) is =
      ap (λ rest. record {
        replies = (failed (refusal_text (Id t) why)).bytes;
        used = 23;
        rest = rest;
        selected =
            None;
        next = Some Close;
      }) is

-- what the requests are read as, over any devices and forwards
abbrev AreRead : ℕ → Type 0
AreRead t = (devices : DeviceTable) (forwards : List (ℕ × ForwardRow))
    → asks_with devices forwards (requests t) nothing_asked ≡ chosen_by t devices (choice (values_of devices.rows) (Id t) true)

read_1 : AreRead 1
unfolding meaning digits
read_1 devices forwards = first devices forwards 1 (requests 1) (choice (values_of devices.rows) (Id 1) true) refl

read_2 : AreRead 2
unfolding meaning digits
read_2 devices forwards = first devices forwards 2 (requests 2) (choice (values_of devices.rows) (Id 2) true) refl

read_3 : AreRead 3
unfolding meaning digits
read_3 devices forwards = first devices forwards 3 (requests 3) (choice (values_of devices.rows) (Id 3) true) refl

read_4 : AreRead 4
unfolding meaning digits
read_4 devices forwards = first devices forwards 4 (requests 4) (choice (values_of devices.rows) (Id 4) true) refl

read_5 : AreRead 5
unfolding meaning digits
read_5 devices forwards = first devices forwards 5 (requests 5) (choice (values_of devices.rows) (Id 5) true) refl

read_6 : AreRead 6
unfolding meaning digits
read_6 devices forwards = first devices forwards 6 (requests 6) (choice (values_of devices.rows) (Id 6) true) refl

read_7 : AreRead 7
unfolding meaning digits
read_7 devices forwards = first devices forwards 7 (requests 7) (choice (values_of devices.rows) (Id 7) true) refl

read_8 : AreRead 8
unfolding meaning digits
read_8 devices forwards = first devices forwards 8 (requests 8) (choice (values_of devices.rows) (Id 8) true) refl

-- What a client of a load asks is what the choice of its device's row makes of it.
pub asked_reads : (stream : ℕ) → AreRead (link_of stream)
asked_reads stream = by_link AreRead read_1 read_2 read_3 read_4 read_5 read_6 read_7 read_8 (stream % 8)
    (mod-lt stream {m = 8} (omega arith))

-- Where its device is chosen and takes the service, the client is told so, and asks for the service.
pub asked_connected : (stream : ℕ) (devices : DeviceTable) (forwards : List (ℕ × ForwardRow)) (row : Row)
    → choice (values_of devices.rows) (Id (link_of stream)) true ≡ Ok (link_of stream) → at (link_of stream) devices.rows ≡ Some row
    → nat_lt row.maxdata 6 ≡ false
    → asks_with devices forwards (asked_of stream) nothing_asked
    ≡ record {
      replies = codes "OKAY";
      used = 32;
      rest = [];
      selected = Some (link_of stream);
      next =
          Some (Open (link_of stream) (codes "echo:"));
    }
asked_connected stream devices forwards row chosen there room =
    asked_reads stream devices forwards
    ∙ (ap (chosen_by (link_of stream) devices) chosen ∙ (ap (served_at (link_of stream)) there ∙ ap (served_if (link_of stream)) room))

-- ---- what follows
-- What follows the requests is said, and it changes neither the forwards nor what waits for one, and stops nothing.
pub record IsQuiet (next : Option Next) : Type 0 where
  pub some : is_none next ≡ false
  pub kills : kills next ≡ false
  pub forwards : (devices : DeviceTable) (forwards : List (ℕ × ForwardRow)) → forwards_by next devices forwards ≡ forwards
  pub waits : (waits : Option Want) → wanted_by next waits ≡ waits

close_quiet : IsQuiet (Some Close)
close_quiet = record { some = refl; kills = refl; forwards = λ d f. refl; waits = λ w. refl }

open_quiet : (id : ℕ) → IsQuiet (Some (Open id echo))
open_quiet id = record { some = refl; kills = refl; forwards = λ d f. refl; waits = λ w. refl }

served_quiet : (id : ℕ) (row : Option Row) → IsQuiet (served_at id row).next
served_quiet id None = close_quiet
served_quiet id (Some row) = go (nat_lt row.maxdata 6)
  where
    go : (full : Bool) → IsQuiet (served_if id full).next
    go true = close_quiet
    go false = open_quiet id

chosen_quiet : (t : ℕ) (devices : DeviceTable) (r : Result ℕ Refusal) → IsQuiet (chosen_by t devices r).next
chosen_quiet t devices (Ok id) = served_quiet id (at id devices.rows)
chosen_quiet t devices (Err why) = close_quiet

-- The first read of a client of a load ends its asking, over any devices and forwards.
pub asked_quiet : (stream : ℕ) (devices : DeviceTable) (forwards : List (ℕ × ForwardRow))
    → IsQuiet (asks_with devices forwards (asked_of stream) nothing_asked).next
asked_quiet stream devices forwards = subst (λ (q : Asked). IsQuiet q.next) (sym (asked_reads stream devices forwards))
    (chosen_quiet (link_of stream) devices (choice (values_of devices.rows) (Id (link_of stream)) true))
