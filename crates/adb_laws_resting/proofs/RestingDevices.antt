-- No device takes more than the server: a CNXN alone says how much it takes, and no more is kept of it.
use Rattle.std.proofs.Common.{ℕ, ◌+◌, ◌≡◌, ◌≤◌, Bool, true, false, cond, All, List, [], ◌∷◌, min, Option, Some, None, refl, sym, ◌∙◌, subst}
use Rattle.std.proofs.Common.{arith}
use Rattle.std.specs.Prelude.{option_map, unwrap_or}
use Rattle.std.specs.Ordering.{nat_cmp, is_eq}
use Rattle.std.proofs.lemmas.List.Elements.{All-nil, All-head, All-tail}
use Rattle.adb_outside.specs.Tables.{at, set_at}
use Rattle.adb_outside.specs.declared.identity.Identity.{Identity}
use Rattle.adb_outside.proofs.TableLaws.{All-put_at, All-without}
use Rattle.adb_registry.specs.Row.{new_row, online_row, unauthorized_row}
use Rattle.adb_registry.specs.Registry.{DeviceTable, changed}
use Rattle.adb_registry.specs.declared.row.Row.{Row}
use Rattle.adb_wire.specs.declared.limits.TheConstants.{VERSION}
use Rattle.adb_wire.specs.declared.headers.TheConstants.{MAX_PAYLOAD}
use Rattle.adb_stream.specs.declared.row.Stream.{Stream}
use Rattle.adb_capture.specs.declared.entry.Entry.{Entry}
use Rattle.adb_capture.specs.declared.entry.Entry.TheVariants.{Enter, Read, Attach}
use Rattle.adb_history.specs.Rows.{State, to_stream, none_kept}
use Rattle.adb_history.specs.Events.{Event}
use Rattle.adb_history.specs.declared.ending.Ending.{Ending}
use Rattle.adb_history.specs.declared.ending.Ending.TheVariants.{Lost}
use Rattle.adb_history.specs.Links.{is_connected, maxdata_of}
use Rattle.adb_history.specs.Streams.{ends_row, all_end}
use Rattle.adb_history.specs.Losing.{forgets, link_ends}
use Rattle.adb_history.specs.Packets.{streams_end_first}
use Rattle.adb_history.specs.Machine.{History, state}
use Rattle.adb_history.specs.Moves.{After, Moves, connects_now}
use Rattle.adb_history.proofs.StreamMoves.{all_end_kept}
use Rattle.adb_history.proofs.OwnedStep.{ends_state, client_loses_frame}
use Rattle.adb_history.proofs.RuleMoves.{Begins, step_kept}

-- ---- rows
abbrev IsSized : ℕ × Row → Type 0
IsSized entry = entry.1.maxdata ≤ MAX_PAYLOAD

abbrev AreSized : DeviceTable → Type 0
AreSized devices = All IsSized devices.rows

abbrev takes : Option Row → ℕ
takes row = unwrap_or (option_map (λ (row : Row). row.maxdata) row) 0

sized_at : (rows : List (ℕ × Row)) → All IsSized rows → (t : ℕ) → takes (at t rows) ≤ MAX_PAYLOAD
sized_at [] all t = omega arith
sized_at (e ∷ es) all t = by_test (is_eq (nat_cmp t e.0)) (sized_at es (All-tail IsSized e es all) t)
  where
    by_test : (b : Bool) → takes (at t es) ≤ MAX_PAYLOAD → takes (cond b (Some e.1) (at t es)) ≤ MAX_PAYLOAD
    by_test true later = All-head IsSized e es all
    by_test false later = later

changed_sized : (t : ℕ) (f : Row → Row) (devices : DeviceTable) → ((row : Row) → row.maxdata ≤ MAX_PAYLOAD → (f row).maxdata ≤ MAX_PAYLOAD)
    → AreSized devices → AreSized (changed t f devices)
changed_sized t f devices keeps all = at_row (at t devices.rows) refl
  where
    at_row : (row : Option Row) → at t devices.rows ≡ row → AreSized (record devices { rows = set_at t (option_map f row) devices.rows })
    at_row None is = All-without IsSized t devices.rows all
    at_row (Some row) is =
        let within : takes (Some row) ≤ MAX_PAYLOAD = subst (λ o. takes o ≤ MAX_PAYLOAD) is (sized_at devices.rows all t) in
        All-put_at IsSized devices.rows t (f row) (keeps row within) all

-- ---- moves
ends_sized : (l : ℕ) (ending : Ending) (stream : Stream) (s : State) → AreSized s.devices
    → AreSized (ends_row l ending stream s).state.devices
ends_sized l ending stream s h =
    subst (λ (x : State). AreSized x.devices)
    (sym (ends_state l ending stream s ∙ client_loses_frame (s.clients stream.client) stream.client (to_stream l none_kept s))) h

all_end_sized : (t : ℕ) (ending : Ending) (s : State) (w : List Event) → AreSized s.devices
    → After (λ s w. AreSized s.devices) w (all_end t ending s)
all_end_sized t ending s w h = all_end_kept {P = λ s w. AreSized s.devices}
    (λ l ending stream s w is h. ends_sized l ending stream s h) t ending s w h

link_ends_sized : (t : ℕ) (ending : Ending) (s : State) (w : List Event) → AreSized s.devices
    → After (λ s w. AreSized s.devices) w (link_ends t ending s)
link_ends_sized t ending s w h = all_end_sized t ending (forgets t s) w (All-without IsSized t s.devices.rows h)

first_sized : (b : Bool) (t : ℕ) (s : State) → AreSized s.devices → AreSized (streams_end_first b t s).state.devices
first_sized true t s h = all_end_sized t Lost s [] h
first_sized false t s h = h

online_sized : (t version maxdata : ℕ) (identity : Identity) (s : State) → AreSized s.devices
    → AreSized (connects_now t version maxdata identity s).state.devices
online_sized t version maxdata identity s h =
    changed_sized t (online_row identity (min version VERSION) (min maxdata MAX_PAYLOAD))
    (streams_end_first (is_connected t s.devices) t s).state.devices (λ row within. omega arith)
    (first_sized (is_connected t s.devices) t s h)

sized_moves : Moves (λ s w. AreSized s.devices)
sized_moves = record {
  owes = λ t p check s w of h. h;
  due = λ c bytes s w h. h;
  closes = λ c client s w is free h. h;
  tracks = λ c client long s w is asking h. h;
  awaits = λ c client want s w is asking h. h;
  drops = λ c client s w is none h. h;
  holds = λ c client bytes s w is has h. h;
  unmarks = λ c s w h. h;
  input_ended = λ c s w h. h;
  hands = λ c n client s w is fits h. h;
  draws = λ c t client s w is asking ready h. h;
  flows = λ l stream flow s w is like h. h;
  accepts = λ l payload stream s w is known turn h. h;
  opens = λ l remote word stream s w is new h. h;
  orphan_goes = λ l stream s w is orphan h. h;
  ends = λ l ending stream s w is h. ends_sized l ending stream s h;
  fails_open = λ c l failing s w at h. h;
  fails_asked = λ c l failing s w at h. h;
  links = λ t f s w h. h;
  link_ends = link_ends_sized;
  online = λ t version maxdata identity s w h. online_sized t version maxdata identity s h;
  unauthorized = λ t row s w is offline h. changed_sized t unauthorized_row s.devices (λ row within. within) h;
  forwards = λ forwards s w led h. h;
  stops = λ c client s w is asking h. All-nil IsSized;
}

-- ---- histories
begins_sized : (e : Entry) (s : State) → AreSized s.devices → Begins sized_moves e s []
begins_sized (Enter c port) s h = (h, h)
begins_sized (Attach t kind serial) s h =
    All-put_at IsSized s.devices.rows (s.devices.drawn + 1) (new_row (s.devices.drawn + 1) kind serial) (omega arith) h
begins_sized (Read c bytes) s h = (h, λ client is asking. h)
begins_sized _ s h = h

rows_sized : (h : History) → AreSized (state h).devices
rows_sized [] = All-nil IsSized
rows_sized (e ∷ older) = step_kept sized_moves e (state older) [] (begins_sized e (state older) (rows_sized older))

pub sized : (h : History) (t : ℕ) → maxdata_of t (state h).devices ≤ MAX_PAYLOAD
sized h t = sized_at (state h).devices.rows (rows_sized h) t
