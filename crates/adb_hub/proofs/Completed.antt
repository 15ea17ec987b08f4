-- Bytes that are whole requests, and packets that a piece completes.
use Rattle.std.proofs.Common.{ℕ, ◌+◌, ◌≡◌, zero, suc, true, false, List, [], ◌∷◌, length, drop, Option, refl, sym, ◌∙◌, ap, subst, arith}
use Rattle.std.specs.Prelude.{option_map}
use Rattle.std.proofs.lemmas.Bool.Decides.{nat_tests}
use Rattle.adb_outside.specs.Tables.{at}
use Rattle.adb_registry.specs.Registry.{DeviceTable}
use Rattle.adb_forward.specs.declared.row.ForwardRow.{ForwardRow}
use Rattle.adb_request.specs.Requests.{request_at}
use Rattle.adb_request.specs.declared.cutting.Found.{Found}
use Rattle.adb_request.specs.declared.cutting.Found.TheVariants.{More, Malformed, Whole}
use Rattle.adb_reply.specs.declared.answer.Next.{Next}
use Rattle.adb_reply.specs.declared.answer.Next.TheVariants.{Select}
use Rattle.adb_history.specs.Asking.{Asked, nothing_asked, after_next, after_found, reads_on, asks_with}
use Rattle.adb_hub_clients.specs.Plan.{asking, asked_by}
use Rattle.adb_hub_clients.specs.declared.plan.Plan.{Plan}
use Rattle.adb_hub_tables.specs.declared.tables.Tables.{Tables}
use Rattle.adb_hub_tables.specs.Fit.{IsReached, IsReadOutAt}
use Rattle.adb_hub_tables.specs.Places.{LinkRoom, IsCountedAt}
use Rattle.adb_hub_tables.specs.Tables.{link_row, state_of}
use Rattle.adb_hub.specs.Completing.{is_whole, is_request}
use Rattle.adb_hub.specs.Sound.{IsSound}

-- ---- requests
-- where nothing is unread, nothing more is read
none_unread : (devices : DeviceTable) (forwards : List (ℕ × ForwardRow)) (k : ℕ) (q : Asked) → q.rest ≡ []
    → (reads_on devices forwards k q).used ≡ q.used
none_unread devices forwards zero q none = refl
none_unread devices forwards (suc k) q none =
    ap (λ (bytes : List ℕ). (after_found devices forwards (request_at bytes) (reads_on devices forwards k) q).used) none

drop_all : (bytes : List ℕ) → drop (length bytes) bytes ≡ []
drop_all [] = refl
drop_all (b ∷ bytes) = drop_all bytes

-- a request that is all of the bytes takes all of them, whatever follows it
module _ (devices : DeviceTable) (forwards : List (ℕ × ForwardRow)) (k : ℕ) (bytes : List ℕ) (selected : Option ℕ) (size : ℕ)
    (all : size ≡ length bytes) where
  past : drop size bytes ≡ []
  past = ap (λ (n : ℕ). drop n bytes) all ∙ drop_all bytes

  followed : (next : Next) (reply : List ℕ)
      → (after_next next reply size (reads_on devices forwards k) (asking bytes selected)).used ≡ length bytes
  followed (Select id) reply = none_unread devices forwards k _ past ∙ (omega arith ∙ all)
  followed _ reply = omega arith ∙ all

found_all : (devices : DeviceTable) (forwards : List (ℕ × ForwardRow)) (k : ℕ) (bytes : List ℕ) (selected : Option ℕ) (found : Found)
    → is_whole found (length bytes) ≡ true
    → (after_found devices forwards found (reads_on devices forwards k) (asking bytes selected)).used ≡ length bytes
found_all devices forwards k bytes selected More whole = absurd (let clash : false ≡ true = whole in cc)
found_all devices forwards k bytes selected Malformed whole = absurd (let clash : false ≡ true = whole in cc)
found_all devices forwards k bytes selected (Whole len) whole =
    followed devices forwards k bytes selected (4 + len) (grind (arith, nat_tests)) _ _

pub one_request : (devices : DeviceTable) (forwards : List (ℕ × ForwardRow)) (bytes : List ℕ) (selected : Option ℕ)
    → is_request bytes ≡ true → (asks_with devices forwards bytes (record nothing_asked { selected = selected })).used ≡ length bytes
one_request devices forwards [] selected whole = absurd (let clash : false ≡ true = whole in cc)
one_request devices forwards (b ∷ bytes) selected whole =
    found_all devices forwards (length bytes) (b ∷ bytes) selected (request_at (b ∷ bytes)) whole

-- what a plan says of the bytes of a client
pub planned : (devices : DeviceTable) (forwards : List (ℕ × ForwardRow)) (held : List ℕ) (chosen : Option ℕ) (plan : Plan) (bytes : List ℕ)
    (selected : Option ℕ) → held ≡ bytes → chosen ≡ selected
    → asked_by plan held ≡ reads_on devices forwards (length held) (asking held chosen)
    → plan.used ≡ (asks_with devices forwards bytes (record nothing_asked { selected = selected })).used
planned devices forwards held chosen plan bytes selected same picked is =
    ap (λ (q : Asked). q.used) is
    ∙ (ap (λ (x : List ℕ). (reads_on devices forwards (length x) (asking x chosen)).used) same
    ∙ ap (λ (o : Option ℕ). (reads_on devices forwards (length bytes) (asking bytes o)).used) picked)

-- ---- packets
-- Tables are sound whose links' rows are those of sound tables.
module _ (old new : Tables) (others : new ≡ record old { links = new.links })
    (stays : (k : ℕ) → at k new.links.entries ≡ at k old.links.entries) where
  abbrev middle : Tables
  middle = record old { links = new.links }

  middle_state : state_of middle ≡ state_of old
  middle_state i = record (state_of old) { links = λ k. option_map link_row (stays k i) }

  pub same_state : state_of new ≡ state_of old
  same_state = ap state_of others ∙ middle_state

  middle_sound : IsSound old → IsSound middle
  middle_sound sound = record {
    fit = record {
      provided = record {
        links = λ k. subst (LinkRoom 0) (sym (stays k)) (sound.fit.provided.links k);
        clients = sound.fit.provided.clients;
        counted = λ k. subst (IsCountedAt k old.streams.streams) (sym (stays k)) (sound.fit.provided.counted k);
        tracked = sound.fit.provided.tracked;
      };
      read_out = λ k. subst IsReadOutAt (sym (stays k)) (sound.fit.read_out k);
    };
    reached = subst IsReached (sym middle_state) sound.reached;
  }

  pub same_sound : IsSound old → IsSound new
  same_sound sound = subst IsSound (sym others) (middle_sound sound)
