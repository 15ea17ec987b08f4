-- What a text asks by the table of requests: a forward with a remote end that can be one, or the service of its own name.
use Rattle.std.proofs.Common.{ℕ, ◌≡◌, ◌+◌, Bool, true, false, cond, List, [], ◌∷◌, ◌++◌, take, drop, codes, Option, Some, None, refl}
use Rattle.std.proofs.Common.{nat_eq}
use Rattle.std.specs.Prelude.{option_map, option_and_then, unwrap_or, position, find, bytes_eq, ◌==◌, ◌&&◌}
use Rattle.std.specs.Option.{option_or}
use Rattle.std.specs.List.{list_all}
use Rattle.adb_outside.specs.declared.kinds.Selector.TheVariants.{Usb, Local, Serial, Id}
use Rattle.adb_request.specs.declared.request.Which.{Which}
use Rattle.adb_request.specs.declared.request.Which.TheVariants.{Own, By}
use Rattle.adb_request.specs.declared.request.Request.{Request}
use Rattle.adb_request.specs.declared.request.Request.TheVariants as asks
use Rattle.adb_request.specs.Forms.{behind, is_remote, is_form, semicolon, local_in, forward_between, forward_at, forward_of, killed_at}
use Rattle.adb_request.specs.Forms.{row, fixed_form}
use Rattle.adb_request.specs.Forms.{forward_form, form}
use Rattle.adb_request.specs.Rows.{plain_rows, transport_rows, row_of}
use Rattle.adb_request.specs.Meaning.{Split, id_in, splits_behind, colon, host_request, serial_request, id_request, or_unknown}
use Rattle.adb_request.specs.Meaning.{host_meaning, meaning}
use Rattle.adb_request.proofs.RowLaws.{both_true}

-- what is so of the request that a text is
abbrev pub IsAskedBy : List ℕ → Request → Type 0
IsAskedBy text (asks.Forward on norebind local remote) = is_remote remote ≡ true
IsAskedBy text (asks.Service service) = service ≡ text
IsAskedBy text _ = Unit {0}

-- a request that is no service
abbrev IsHosts : Request → Type 0
IsHosts (asks.Forward on norebind local remote) = is_remote remote ≡ true
IsHosts (asks.Service service) = ⊥
IsHosts _ = Unit {0}

abbrev is_hosts : Request → Bool
is_hosts (asks.Forward on norebind local remote) = false
is_hosts (asks.Service service) = false
is_hosts _ = true

asks_host : (request : Request) → is_hosts request ≡ true → IsHosts request
asks_host (asks.Forward on norebind local remote) e = cc
asks_host (asks.Service service) e = cc
asks_host _ e = tt

abbrev Each : Option Request → Type 0
Each None = Unit {0}
Each (Some request) = IsHosts request

-- ---- options of requests
or_each : (a b : Option Request) → Each a → Each b → Each (option_or a b)
or_each None b h k = k
or_each (Some request) b h k = h

map_each : {X : Type 0} (f : X → Request) (o : Option X) → ((x : X) → IsHosts (f x)) → Each (option_map f o)
map_each {X} f None h = tt
map_each {X} f (Some x) h = h x

then_each : {X : Type 0} (f : X → Option Request) (o : Option X) → ((x : X) → Each (f x)) → Each (option_and_then f o)
then_each {X} f None h = tt
then_each {X} f (Some x) h = h x

row_each : (word : List ℕ) (request : Request) (text : List ℕ) → IsHosts request → Each (row word request text)
row_each word request text sound = by_test (bytes_eq text word)
  where
    by_test : (b : Bool) → Each (cond b (Some request) None)
    by_test true = sound
    by_test false = tt

or_other : (o : Option Request) (other : Request) → Each o → IsHosts other → IsHosts (unwrap_or o other)
or_other None other h k = k
or_other (Some request) other h k = h

-- ---- forwards
between_asked : (on : Which) (norebind : Bool) (local : Option ℕ) (remote : List ℕ) → IsHosts (forward_between on norebind local remote)
between_asked on norebind None remote = tt
between_asked on norebind (Some local) remote = by_test (is_remote remote) refl
  where
    by_test : (b : Bool) → is_remote remote ≡ b → IsHosts (cond b (asks.Forward on norebind local remote) asks.BadForward)
    by_test true e = e
    by_test false e = tt

forward_asked : (on : Which) (norebind : Bool) (spec : List ℕ) → IsHosts (forward_of on norebind spec)
forward_asked on norebind spec = by_place (position (λ byte. byte == semicolon) spec)
  where
    by_place : (o : Option ℕ) → IsHosts (forward_at on norebind spec o)
    by_place None = tt
    by_place (Some place) = between_asked on norebind (local_in (take place spec)) (drop (place + 1) spec)

killed_asked : (o : Option ℕ) → IsHosts (killed_at o)
killed_asked None = tt
killed_asked (Some port) = by_test (nat_eq port 0)
  where
    by_test : (b : Bool) → IsHosts (cond b asks.BadForward (asks.KillForward port))
    by_test true = tt
    by_test false = tt

-- ---- the rows of the table of requests
form_asked : (on : Which) (text : List ℕ) → Each (form on text)
form_asked on text = or_each (fixed_form on text) (forward_form on text)
    (or_each _ _ (row_each (codes "get-serialno") (asks.Serialno on) text tt)
    (or_each _ _ (row_each (codes "get-devpath") (asks.Devpath on) text tt)
    (or_each _ _ (row_each (codes "get-state") (asks.GetState on) text tt)
    (or_each _ _ (row_each (codes "features") (asks.Features on) text tt)
    (or_each _ _ (row_each (codes "killforward-all") asks.KillAll text tt)
    (row_each (codes "list-forward") asks.ListForward text tt))))))
    (or_each _ _ (map_each (forward_of on true) (behind (codes "forward:norebind:") text) (forward_asked on true))
    (or_each _ _ (map_each (forward_of on false) (behind (codes "forward:") text) (forward_asked on false))
    (map_each (λ local. killed_at (local_in local)) (behind (codes "killforward:") text) (λ local. killed_asked (local_in local)))))

row_asked : (rows : List (List ℕ × Request)) (text : List ℕ) → list_all (λ row. is_hosts row.1) rows ≡ true → Each (row_of rows text)
row_asked [] text all = tt
row_asked (first ∷ rows) text all =
    let both = both_true (is_hosts first.1) (list_all (λ row. is_hosts row.1) rows) all in
    by_test (bytes_eq text first.0) (asks_host first.1 both.0) (row_asked rows text both.1)
  where
    by_test : (b : Bool) → IsHosts first.1 → Each (row_of rows text) → Each (cond b (Some first.1) (row_of rows text))
    by_test true here others = here
    by_test false here others = others

host_asked : (text : List ℕ) → Each (host_request text)
host_asked text =
    or_each _ _ (row_asked (plain_rows ++ transport_rows) text refl)
    (or_each _ _ (map_each (λ serial. asks.Transport (Serial serial) false) (behind (codes "transport:") text) (λ serial. tt))
    (or_each _ _ (map_each (λ serial. asks.Transport (Serial serial) true) (behind (codes "tport:serial:") text) (λ serial. tt))
    (or_each _ _ (map_each (λ id. asks.Transport (Id id) false) (option_and_then id_in (behind (codes "transport-id:") text)) (λ id. tt))
    (form_asked Own text))))

serial_asked : (text : List ℕ) → Each (serial_request text)
serial_asked text = then_each (λ (split : Split). form (By (Serial split.before)) split.after)
    (find (λ split. is_form split.after) (splits_behind [] text)) (λ split. form_asked (By (Serial split.before)) split.after)

id_asked : (text : List ℕ) → Each (id_request text)
id_asked text = then_each (λ place. option_and_then (λ id. form (By (Id id)) (drop (place + 1) text)) (id_in (take place text)))
    (position (λ byte. byte == colon) text)
    (λ place. then_each (λ id. form (By (Id id)) (drop (place + 1) text)) (id_in (take place text))
    (λ id. form_asked (By (Id id)) (drop (place + 1) text)))

behind_asked : (word : List ℕ) (f : List ℕ → Option Request) (text : List ℕ) → ((rest : List ℕ) → Each (f rest))
    → Each (option_map (λ rest. or_unknown (f rest)) (behind word text))
behind_asked word f text h =
    map_each (λ rest. or_unknown (f rest)) (behind word text) (λ rest. or_other (f rest) asks.UnknownHost (h rest) tt)

-- A service is no request of the host, and another request is.
of_text : (text : List ℕ) (request : Request) → IsHosts request → IsAskedBy text request
of_text text (asks.Forward on norebind local remote) h = h
of_text text (asks.Service service) h = absurd h
of_text text _ h = tt

by_host : (text : List ℕ) (o : Option Request) → Each o → IsAskedBy text (unwrap_or o (asks.Service text))
by_host text None h = refl
by_host text (Some request) h = of_text text request h

-- What a text means is asked by it.
pub meaning_asked : (text : List ℕ) → IsAskedBy text (meaning text)
unfolding meaning
meaning_asked text = by_host text (host_meaning text)
    (or_each _ _ (behind_asked (codes "host:") host_request text host_asked)
    (or_each _ _ (behind_asked (codes "host-serial:") serial_request text serial_asked)
    (or_each _ _ (behind_asked (codes "host-usb:") (form (By Usb)) text (form_asked (By Usb)))
    (or_each _ _ (behind_asked (codes "host-local:") (form (By Local)) text (form_asked (By Local)))
    (behind_asked (codes "host-transport-id:") id_request text id_asked)))))
