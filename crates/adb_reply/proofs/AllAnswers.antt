-- What holds of each reply that there is holds of the answer to each request.
use Rattle.std.proofs.Common.{ℕ, ◌≡◌, ◌++◌, ◌+◌, Bool, true, false, cond, List, [], length, codes, Option, Some, None, is_some, Result, Ok}
use Rattle.std.proofs.Common.{Err, refl}
use Rattle.std.proofs.Common.{nat_lt, nat_eq, not, ◌&&◌}
use Rattle.std.specs.Map.{values_of}
use Rattle.std.specs.Fmt.{decimal}
use Rattle.adb_outside.specs.Tables.{at}
use Rattle.adb_outside.specs.declared.kinds.Selector.{Selector}
use Rattle.adb_outside.specs.declared.kinds.Selector.TheVariants.{Any, Id}
use Rattle.adb_registry.specs.Choice.{choice}
use Rattle.adb_registry.specs.declared.row.Row.{Row}
use Rattle.adb_registry.specs.declared.choice.Refusal.{Refusal}
use Rattle.adb_forward.specs.Forwards.{forward_list}
use Rattle.adb_forward.specs.declared.row.ForwardRow.{ForwardRow}
use Rattle.adb_forward.specs.declared.table.TheConstants.{MAX_FORWARDS}
use Rattle.adb_request.specs.declared.request.Which.{Which}
use Rattle.adb_request.specs.declared.request.Which.TheVariants.{Own, By}
use Rattle.adb_request.specs.declared.request.Request.{Request}
use Rattle.adb_request.specs.declared.request.Request.TheVariants as asks
use Rattle.adb_reply.specs.Strings.{okay, string, failed}
use Rattle.adb_reply.specs.Refusals.{no_transport, refusal_text}
use Rattle.adb_reply.specs.Chosen.{device_or, asked_device}
use Rattle.adb_reply.specs.Answer.{device_list, told_id, selects, fact_of, asks_ready, fact_at, tells, fact_answer, forwards_to}
use Rattle.adb_reply.specs.Answer.{forwards_by, opens_at, opens, answer}
use Rattle.adb_reply.specs.declared.answer.Answer.{Answer}
use Rattle.adb_reply.specs.declared.answer.Next.TheVariants.{Close, Select, Track, Open, Bind, Rebind, Unbind, UnbindAll, Stop}
use Rattle.adb_reply.specs.declared.chosen.Chosen.{Chosen}
use Rattle.adb_reply.specs.declared.chosen.Chosen.TheVariants.{Device, Refused}
use Rattle.adb_reply.specs.declared.about_devices.Fact.{Fact}
use Rattle.adb_reply.specs.declared.about_devices.Fact.TheVariants.{Serialno, Devpath, GetState, Features}

-- What holds of what a test gives each way holds of it.
pub by_test : {A : Type 0} (P : A → Type 0) {x y : A} (b : Bool) → (b ≡ true → P x) → (b ≡ false → P y) → P (cond b x y)
by_test P true h k = h refl
by_test P false h k = k refl

-- What is to be shown of each reply, where this is known of the request: what a forward and a service are asked with.
pub record Answers (rows : List (ℕ × Row)) (forwards : List (ℕ × ForwardRow)) (R : Request → Type 0) (Q : Answer → Type 0) : Type 0 where
  pub fails : (why : List ℕ) → Q (failed why)
  pub tells : (rest : List ℕ) → Q (record { bytes = okay ++ rest; next = Close })
  pub tracks : (rest : List ℕ) (long : Bool) → Q (record { bytes = okay ++ rest; next = Track long })
  pub stops : Q (record { bytes = okay; next = Stop })
  pub selects : (tell_id : Bool) (id : ℕ) → Q (record { bytes = okay ++ told_id tell_id id; next = Select id })
  pub rebinds : (on : Which) (norebind : Bool) (transport local : ℕ) (remote : List ℕ) → R (asks.Forward on norebind local remote)
      → is_some (at local forwards) ≡ true → Q (record { bytes = codes "OKAYOKAY"; next = Rebind transport local remote })
  pub binds : (on : Which) (norebind : Bool) (transport local : ℕ) (remote : List ℕ) → R (asks.Forward on norebind local remote)
      → Q (record { bytes = []; next = Bind transport local remote (nat_eq local 0) })
  pub unbinds : (port : ℕ) → Q (record { bytes = codes "OKAYOKAY"; next = Unbind port })
  pub unbinds_all : Q (record { bytes = codes "OKAYOKAY"; next = UnbindAll })
  pub opens : (id : ℕ) (text : List ℕ) (row : Row) → R (asks.Service text) → at id rows ≡ Some row
      → nat_lt row.maxdata (length text + 1) ≡ false
      → Q (record { bytes = []; next = Open id text })

module _ {rows : List (ℕ × Row)} {forwards : List (ℕ × ForwardRow)} {R : Request → Type 0} {Q : Answer → Type 0}
    (k : Answers rows forwards R Q) where
  -- of the device that a request asks
  module _ (of : Chosen → Answer) (device : (id : ℕ) → Q (of (Device id))) (refused : (why : List ℕ) → Q (of (Refused (failed why)))) where
    by_choice : (by : Selector) (chosen : Result ℕ Refusal) → Q (of (device_or by chosen))
    by_choice by (Ok id) = device id
    by_choice by (Err why) = refused (refusal_text by why)

    of_device : (selected : Option ℕ) (on : Which) (ready : Bool) → Q (of (asked_device rows selected on ready))
    of_device selected (By by) ready = by_choice by (choice (values_of rows) by ready)
    of_device None Own ready = by_choice Any (choice (values_of rows) Any ready)
    of_device (Some id) Own ready =
        by_test (λ chosen. Q (of chosen)) (is_some (at id rows))
        (λ e. by_choice (Id id) (choice (values_of rows) (Id id) ready)) (λ e. refused no_transport)

  facts : (fact : Fact) (selected : Option ℕ) (on : Which) → Q (fact_answer rows selected fact on)
  facts fact selected on = of_device (tells rows fact) (λ id. of_row (at id rows)) k.fails selected on (asks_ready fact)
    where
      of_row : (o : Option Row) → Q (fact_at fact o)
      of_row None = k.fails no_transport
      of_row (Some row) = k.tells (string (fact_of fact row))

  forwarding : (on : Which) (norebind : Bool) (local : ℕ) (remote : List ℕ) (selected : Option ℕ)
      → R (asks.Forward on norebind local remote)
      → Q (forwards_by forwards norebind local remote (asked_device rows selected on true))
  forwarding on norebind local remote selected right = of_device (forwards_by forwards norebind local remote)
      on_device k.fails selected on true
    where
      on_device : (transport : ℕ) → Q (forwards_to forwards norebind transport local remote)
      on_device transport =
          by_test Q (is_some (at local forwards) && norebind) (λ e. k.fails (codes "cannot rebind existing socket"))
          (λ e. by_test Q (not (is_some (at local forwards)) && nat_eq (length forwards) MAX_FORWARDS)
          (λ f. k.fails (codes "too many forwards"))
          (λ f. by_test Q (is_some (at local forwards)) (λ is. k.rebinds on norebind transport local remote right is)
          (λ none. k.binds on norebind transport local remote right)))

  opening : (selected : Option ℕ) (text : List ℕ) → R (asks.Service text) → Q (opens rows selected text)
  opening None text right = k.fails no_transport
  opening (Some id) text right = of_row (at id rows) refl
    where
      of_row : (o : Option Row) → at id rows ≡ o → Q (opens_at id text o)
      of_row None is = k.fails no_transport
      of_row (Some row) is =
          by_test Q (nat_lt row.maxdata (length text + 1)) (λ e. k.fails (codes "service name too long"))
          (λ e. k.opens id text row right is e)

  -- What holds of each reply that there is holds of the answer to each request.
  pub answer_all : (selected : Option ℕ) (request : Request) → R request → Q (answer rows forwards selected request)
  answer_all selected asks.Version right = k.tells (codes "00040029")
  answer_all selected asks.Kill right = k.stops
  answer_all selected (asks.Devices long) right = k.tells (string (device_list rows long))
  answer_all selected (asks.Track long) right = k.tracks (string (device_list rows long)) long
  answer_all selected (asks.Transport by tell_id) right = of_device (selects tell_id) (k.selects tell_id) k.fails selected (By by) true
  answer_all selected (asks.Serialno on) right = facts Serialno selected on
  answer_all selected (asks.Devpath on) right = facts Devpath selected on
  answer_all selected (asks.GetState on) right = facts GetState selected on
  answer_all selected (asks.Features on) right = facts Features selected on
  answer_all selected (asks.Forward on norebind local remote) right = forwarding on norebind local remote selected right
  answer_all selected asks.BadForward right = k.fails (codes "bad forward specification")
  answer_all selected (asks.KillForward port) right =
      by_test Q (is_some (at port forwards)) (λ e. k.unbinds port)
      (λ e. k.fails (codes "listener 'tcp:" ++ decimal port ++ codes "' not found"))
  answer_all selected asks.KillAll right = k.unbinds_all
  answer_all selected asks.ListForward right = k.tells (string (forward_list forwards))
  answer_all selected (asks.Service text) right = opening selected text right
  answer_all selected asks.UnknownHost right = k.fails (codes "unknown host service")
