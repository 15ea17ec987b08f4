-- Every state that a legal history leaves is orderly, and at rest.
use Rattle.std.proofs.Common.{◌≡◌, ℕ, ◌<◌, ◌≤◌, zero, suc, Bool, true, false, cond, All, List, [], ◌∷◌, Some, None, refl, sym, ap, subst}
use Rattle.std.proofs.Common.{◌∙◌, arith}
use Rattle.std.proofs.Common.{◌⊎◌, inl, inr}
use Rattle.std.specs.Prelude.{is_some}
use Rattle.std.specs.Ordering.{nat_cmp, is_eq}
use Rattle.std.proofs.lemmas.Bool.{eq-eqb}
use Rattle.std.proofs.lemmas.List.Elements.{All-head, All-tail}
use Rattle.adb_outside.specs.Tables.{at}
use Rattle.adb_registry.specs.Registry.{DeviceTable}
use Rattle.adb_forward.specs.declared.row.ForwardRow.{ForwardRow}
use Rattle.adb_stream.specs.declared.row.Stream.{Stream}
use Rattle.adb_client.specs.declared.phase.Phase.{Phase}
use Rattle.adb_client.specs.declared.phase.Phase.TheVariants.{Asking, Opening, Streaming}
use Rattle.adb_history.specs.Rows.{Client, State}
use Rattle.adb_history.specs.Events.{Made, quietly}
use Rattle.adb_history.specs.Flow.{is_streaming}
use Rattle.adb_history.specs.Machine.{History, state, rule, ups, IsLegal}
use Rattle.adb_history.specs.Moves.{IsClientIn, IsLed}
use Rattle.adb_history.specs.Order.{IsSettled}
use Rattle.adb_history.specs.Orderly.{HasOwner, IsOrderlyStream, HasStream, IsQuiet, IsResting, IsOrderlyClient, IsOrderly}
use Rattle.adb_history.specs.Owned.{StreamOf, OwnerIn, HoldsIn, AllDrawn}
use Rattle.adb_history.specs.Linked.{IsLinked}
use Rattle.adb_history.proofs.OwnedMoves.{together_at}
use Rattle.adb_history.proofs.LinkMoves.{all_linked}
use Rattle.adb_history.proofs.Unread.{UnreadBut, all_unread}
use Rattle.adb_history.proofs.Sweep.{Sending}
use Rattle.adb_history.proofs.Quiet.{IsCalm, IsCalmAt, up_all_calms, up_all_drawn, all_still}

-- ---- at rest each stream is calm
order : (a b : ℕ) → (a ≤ b) ⊎ (b < a)
order a b = grind arith

-- where the streams that were drawn are calm, each is
all_calm : (s : State) → AllDrawn s → ((m : ℕ) → 0 < m → m ≤ s.drawn → IsCalmAt m s) → (m : ℕ) → 0 < m → IsCalmAt m s
all_calm s rows calm m some = go (order m s.drawn)
  where
    go : (m ≤ s.drawn) ⊎ (s.drawn < m) → IsCalmAt m s
    go (inl within) = calm m some within
    go (inr above) = record { calm = λ x. absurd (let clash : None ≡ Some x.stream = sym (rows.streams.above m above) ∙ x.there in cc) }

pub rests_calm : (h : History) → IsLegal h → (m : ℕ) → 0 < m → IsCalmAt m (state h)
rests_calm [] legal m some = record { calm = λ x. absurd (let clash : None ≡ Some x.stream = x.there in cc) }
rests_calm (e ∷ older) legal m some =
    let ruled : State = (rule e (state older)).state in
    let drawn : (state (e ∷ older)).drawn ≡ ruled.drawn = up_all_drawn ruled.drawn ruled in
    all_calm (state (e ∷ older)) (all_linked (e ∷ older) legal).owned.rows
    (λ m some within. up_all_calms ruled.drawn ruled m some (omega (arith, within, drawn))) m some

-- At rest the up rule changes nothing, and nothing becomes due by it.
pub settled : (h : History) → IsLegal h → IsSettled (state h)
settled h legal =
    let still : ups (state h) ≡ quietly (state h) = all_still (state h).drawn (state h) (rests_calm h legal) in
    record { state = ap (λ (m : Made). m.state) still; told = ap (λ (m : Made). m.told) still }

-- ---- streams and clients
-- what is known of a state at rest
record AtRest (s : State) : Type 0 where
  fits : IsLinked s
  calm : (m : ℕ) → 0 < m → IsCalmAt m s
  unread : UnreadBut (λ _. ⊥) s.clients

module _ (s : State) (h : AtRest s) where
  owner_orderly : (orphan : Bool) (l : ℕ) (x : Stream) → OwnerIn orphan s.clients l x → HasOwner orphan s l x
  owner_orderly true l x owner = owner
  owner_orderly false l x owner = record { client = owner.client; is = owner.is; phase = owner.phase }

  stream_orderly : (l : ℕ) (x : Stream) → s.streams l ≡ Some x → IsOrderlyStream s l x
  stream_orderly l x is =
      let own = h.fits.owned.owned.stream l x is in
      let on = h.fits.on l x is in
      record {
        id = own.id;
        connected = on.connected;
        credit = on.credit;
        sound = own.sound;
        fresh = own.fresh;
        owner = owner_orderly x.part.orphan l x own.owner;
      }

  has_stream : (c l : ℕ) → StreamOf s.streams c l → HasStream s c l
  has_stream c l own = record { stream = own.stream; is = own.is; client = own.client; owned = own.owned }

  streaming_quiet : (c l : ℕ) (x : IsClientIn s c (Streaming l)) → StreamOf s.streams c l → (y : Stream)
      → s.streams l ≡ Some y → IsQuiet s x.client y
  streaming_quiet c l x own y there =
      let t = together_at s h.fits.owned c l x.client y own (x.here, there) in
      let streaming : is_streaming l x.client.about.phase ≡ true = ap (is_streaming l) x.in_phase ∙ eq-eqb l l refl in
      let here : s.clients y.client ≡ Some x.client = ap s.clients t.of ∙ x.here in
      let sending : Sending l s = record { stream = y; client = x.client; there = there; here = here; streaming = streaming } in
      let quiet : IsCalm s.devices x.client y = (h.calm l (some l y there)).calm sending in
      record { nothing = quiet.nothing; goes_on = quiet.goes_on; accepted = t.accepted }
    where
      some : (m : ℕ) (z : Stream) → s.streams m ≡ Some z → 0 < m
      some zero z e = absurd (let clash : None ≡ Some z = sym h.fits.owned.rows.streams.zero ∙ e in cc)
      some (suc m) z e = omega arith

  rests_orderly : (phase : Phase) (c : ℕ) (x : IsClientIn s c phase) → HoldsIn phase s.streams c x.client → IsResting phase s c x.client
  rests_orderly Asking c x holds = h.unread.more c x.client (λ b. b) x.here x.in_phase
  rests_orderly (Opening l) c x holds = has_stream c l holds
  rests_orderly (Streaming l) c x holds = (has_stream c l holds, streaming_quiet c l x holds)
  rests_orderly _ c x holds = holds

  client_orderly : (c : ℕ) (client : Client) → s.clients c ≡ Some client → IsOrderlyClient s c client
  client_orderly c client is =
      let own = h.fits.owned.owned.client c client is in
      record {
        number = own.number;
        mark = own.mark;
        rests = rests_orderly client.about.phase c (record { client = client; here = is; in_phase = refl }) own.holds;
      }

-- ---- forwards
led_at : (devices : DeviceTable) (forwards : List (ℕ × ForwardRow)) → All (IsLed devices) forwards
    → (port : ℕ) (row : ForwardRow) → at port forwards ≡ Some row
    → is_some (at row.transport devices.rows) ≡ true
led_at devices [] all port row is = absurd (let clash : None ≡ Some row = is in cc)
led_at devices (e ∷ es) all port row is = go (is_eq (nat_cmp port e.0)) (led_at devices es (All-tail (IsLed devices) e es all) port row) is
  where
    go : (b : Bool) → (at port es ≡ Some row → is_some (at row.transport devices.rows) ≡ true) → cond b (Some e.1) (at port es) ≡ Some row
        → is_some (at row.transport devices.rows) ≡ true
    go true later here =
        let same : e.1 ≡ row = cc in subst (λ (x : ForwardRow). is_some (at x.transport devices.rows) ≡ true) same
        (All-head (IsLed devices) e es all)
    go false later here = later here

-- Every state that a legal history leaves is orderly.
pub orderly : (h : History) → IsLegal h → IsOrderly (state h)
orderly h legal =
    let fits : IsLinked (state h) = all_linked h legal in
    let rest : AtRest (state h) = record { fits = fits; calm = rests_calm h legal; unread = all_unread h } in
    record {
      clients = fits.owned.rows.clients;
      links = fits.owned.rows.links;
      streams = fits.owned.rows.streams;
      rises = fits.rows.rises;
      linked = fits.rows.linked;
      silent = fits.rows.silent;
      stream = stream_orderly (state h) rest;
      client = client_orderly (state h) rest;
      forward = led_at (state h).devices (state h).forwards fits.rows.led;
    }
