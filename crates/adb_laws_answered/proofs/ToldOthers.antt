-- What rules tell other clients is nothing to a client; what they leave of the devices; and that clients and streams keep each other.
use Rattle.std.proofs.Common.{◌≡◌, ℕ, zero, suc, Bool, true, false, cond, List, [], ◌∷◌, ◌++◌, Option, Some, None, refl, sym, ap, subst}
use Rattle.std.proofs.Common.{◌∙◌, eqb}
use Rattle.std.specs.Prelude.{codes, option_and_then}
use Rattle.std.proofs.lemmas.List.{append-nil}
use Rattle.adb_outside.specs.Tables.{Rows, change_row}
use Rattle.adb_stream.specs.declared.row.Stream.{Stream}
use Rattle.adb_client.specs.declared.phase.Phase.{Phase}
use Rattle.adb_client.specs.declared.phase.Phase.TheVariants.{Opening, Streaming}
use Rattle.adb_reply.specs.Strings.{failed}
use Rattle.adb_history.specs.Rows.{Client, State, to_stream, none_kept}
use Rattle.adb_history.specs.Events.{Event, quietly, ended, owed_to}
use Rattle.adb_history.specs.declared.ending.Ending.{Ending}
use Rattle.adb_history.specs.declared.ending.Ending.TheVariants.{Stopped}
use Rattle.adb_history.specs.Clients.{closing, owe_client}
use Rattle.adb_history.specs.Streams.{loses, client_loses, ends_row}
use Rattle.adb_history.specs.Losing.{forgets, tells_stop, all_stop, only_client}
use Rattle.adb_history.specs.Packets.{hears_okay, opened}
use Rattle.adb_history.specs.Moves.{open_now}
use Rattle.adb_history.specs.Owned.{IsOwned}
use Rattle.adb_history.proofs.Growing.{owed_append}
use Rattle.adb_history.proofs.Numbers.{drawn_plain}
use Rattle.adb_history.proofs.OwnedStep.{owned_moves, ends_state, client_loses_frame}
use Rattle.adb_history.specs.Turns.{IsOpenedBy}

-- nothing is told at the end
pub quiet_after : (P : State → List Event → Type 0) (w told : List Event) (s : State) → P s (w ++ told) → P s (w ++ (told ++ []))
quiet_after P w told s h = subst (λ (x : List Event). P s (w ++ x)) (sym (append-nil told)) h

-- ---- what is told to others
module _ (c : ℕ) where
  -- what becomes due to another client
  pub owed_other : (n : ℕ) (bytes : List ℕ) → eqb n c ≡ false → cond (eqb n c) bytes [] ++ [] ≡ []
  owed_other n bytes e = ap (λ (b : Bool). cond b bytes [] ++ []) e

  loses_owed : (forwarded : Bool) (p : Phase) (n : ℕ) (s : State) → eqb n c ≡ false → owed_to c (loses forwarded p n s).told ≡ []
  loses_owed true (Streaming l) n s e = refl
  loses_owed false (Opening l) n s e = ap (λ (b : Bool). cond b (failed (codes "closed")).bytes [] ++ []) e
  loses_owed _ _ n s e = refl

  pub client_loses_owed : (o : Option Client) (n : ℕ) (s : State) → eqb n c ≡ false → owed_to c (client_loses o n s).told ≡ []
  client_loses_owed None n s e = refl
  client_loses_owed (Some x) n s e = loses_owed x.about.forwarded x.about.phase n s e

  -- OKAY
  pub hears_owed : (o : Option Client) (n : ℕ) (s : State) → eqb n c ≡ false → owed_to c (hears_okay o n s).told ≡ []
  hears_owed None n s e = refl
  hears_owed (Some x) n s e = go x.about.forwarded
    where
      go : (b : Bool) → owed_to c (cond b (quietly s) (owe_client n (codes "OKAY") s)).told ≡ []
      go true = refl
      go false = owed_other n (codes "OKAY") e

-- ---- kill
pub all_stop_owed : (c n : ℕ) (streams : Rows (Option Stream)) → owed_to c (all_stop n streams) ≡ []
all_stop_owed c zero streams = refl
all_stop_owed c (suc n) streams =
    owed_append c (all_stop n streams) (tells_stop (suc n) (streams (suc n)))
    ∙ (ap (λ x. x ++ owed_to c (tells_stop (suc n) (streams (suc n)))) (all_stop_owed c n streams) ∙ one (streams (suc n)))
  where
    told : (b : Bool) → owed_to c (cond b [] (ended (suc n) Stopped ∷ [])) ≡ []
    told true = refl
    told false = refl

    one : (o : Option Stream) → owed_to c (tells_stop (suc n) o) ≡ []
    one None = refl
    one (Some stream) = told stream.part.orphan

-- of other clients nothing is kept
pub stopped_none : (asker c : ℕ) (clients : Rows (Option Client)) → eqb asker c ≡ false
    → change_row asker (option_and_then closing) (only_client asker clients) c ≡ None
stopped_none asker c clients e = go (eqb asker c) e
  where
    go : (b : Bool) → b ≡ false → cond b (option_and_then closing (cond b (clients c) None)) (cond b (clients c) None) ≡ None
    go true e = let clash : true ≡ false = e in cc
    go false e = refl

-- ---- clients and streams
-- clients and streams keep each other when a stream opens
pub owned_opened : (l remote : ℕ) (word : Option ℕ) (stream : Stream) (s : State) → s.streams l ≡ Some stream
    → IsOpenedBy remote stream → IsOwned s
    → IsOwned (opened l remote word stream s).state
owned_opened l remote word stream s is by h = go (s.clients stream.client)
  where
    due : (b : Bool) → IsOwned (open_now l remote word stream (cond b (quietly s) (owe_client stream.client (codes "OKAY") s)).state)
    due true = owned_moves.opens l remote word stream s [] is (by.new, by.owned, by.by) h
    due false =
        owned_moves.opens l remote word stream (owe_client stream.client (codes "OKAY") s).state [] is (by.new, by.owned, by.by)
        (owned_moves.due stream.client (codes "OKAY") s [] h)

    go : (o : Option Client) → IsOwned (open_now l remote word stream (hears_okay o stream.client s).state)
    go None = owned_moves.opens l remote word stream s [] is (by.new, by.owned, by.by) h
    go (Some x) = due x.about.forwarded

-- of a link nothing is kept
pub forgets_owned : (t : ℕ) (s : State) → IsOwned s → IsOwned (forgets t s)
forgets_owned t s h = record {
  rows = record { clients = h.rows.clients; links = (drawn_plain.link t none_kept s [] h.rows).links; streams = h.rows.streams };
  owned = h.owned;
}

-- ---- the devices stay
pub opened_devices : (l remote : ℕ) (word : Option ℕ) (stream : Stream) (s : State)
    → (opened l remote word stream s).state.devices ≡ s.devices
opened_devices l remote word stream s = go (s.clients stream.client)
  where
    due : (b : Bool) → (cond b (quietly s) (owe_client stream.client (codes "OKAY") s)).state.devices ≡ s.devices
    due true = refl
    due false = refl

    go : (o : Option Client) → (hears_okay o stream.client s).state.devices ≡ s.devices
    go None = refl
    go (Some x) = due x.about.forwarded

pub ends_devices : (l : ℕ) (ending : Ending) (stream : Stream) (s : State) → (ends_row l ending stream s).state.devices ≡ s.devices
ends_devices l ending stream s =
    ap (λ (x : State). x.devices)
    (ends_state l ending stream s ∙ client_loses_frame (s.clients stream.client) stream.client
    (to_stream l none_kept s))
