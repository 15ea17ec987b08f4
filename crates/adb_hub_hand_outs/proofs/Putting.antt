-- Bytes are handed out to a client.
use Rattle.std.proofs.Common.{ℕ, ◌≡◌, ◌≢◌, Bool, true, false, cond, eqb, List, [], ◌∷◌, length, Option, Some, None, refl, sym, ◌∙◌, ap}
use Rattle.std.proofs.Common.{subst, ◌⊎◌, inl, inr}
use Rattle.std.specs.Prelude.{option_map, option_and_then}
use Rattle.std.proofs.lemmas.Bool.{ne_eqb, eq-eqb, cases_eq}
use Rattle.adb_outside.specs.Tables.{at, Rows}
use Rattle.adb_capture.specs.declared.entry.Entry.TheVariants.{Put}
use Rattle.adb_client.specs.Client.{SeenClient}
use Rattle.adb_client.specs.declared.phase.Phase.{Phase}
use Rattle.adb_client.specs.declared.phase.Phase.TheVariants.{Tracking}
use Rattle.adb_registry.specs.Registry.{DeviceTable}
use Rattle.adb_stream.specs.declared.row.Stream.{Stream}
use Rattle.adb_laws_resting.specs.Resting.{StepIsRule}
use Rattle.adb_history.specs.Rows.{Client, State, with_due}
use Rattle.adb_history.specs.Events.{then_also}
use Rattle.adb_history.specs.Handing.{takes_of, lists_first, unmarked, puts_to}
use Rattle.adb_history.specs.Tracking.{offered, tracked_list, list_if_stale, due_or}
use Rattle.adb_hub_tables.specs.declared.tables.Tables.{Tables}
use Rattle.adb_hub_tables.specs.Tables.{client_row, state_of}
use Rattle.adb_hub_tables.specs.Tracked.{IsListedAt}
use Rattle.adb_hub_tables.specs.Places.{LinkRoom, ClientRoom, IsProvided, StaysRead, Uses}
use Rattle.adb_hub_rules.specs.Handing.{HasRoom, UsesOf, open_stream, stream_in}
use Rattle.adb_hub_tables.specs.Fit.{IsFit, IsReached, Makes}
use Rattle.adb_hub_tables.proofs.Rows.{rows_put}
use Rattle.adb_hub_hand_outs.specs.Handed.{due_to, list_behind, list_to, listed, Lists}
use Rattle.adb_laws_resting.proofs.Reached.{IsWithin, within, is_orderly, sends_nothing}
use Rattle.adb_hub_tables.proofs.PutRows.{holds_put}
use Rattle.adb_laws_resting.proofs.Fitting.{SumsStay, same_sums, made_by}
use Rattle.adb_laws_resting.proofs.Summing.{sums_takes}

-- ---- the places that are left
module _ (mid new : Tables) (c : ℕ) where
  provided_none : IsProvided mid → ((t : ℕ) → Uses t 0 c 0 mid new) → IsProvided new
  provided_none h uses = record {
    links = λ k. (uses k).on_link 0 (h.links k);
    clients = λ k. go k (cases_eq k c);
    counted = (uses 0).counted h.counted;
    tracked = (uses 0).tracked h.tracked;
  }
    where
      go : (k : ℕ) → (k ≡ c) ⊎ (k ≢ c) → ClientRoom 0 (at k new.clients.entries)
      go k (inl here) = subst (λ (q : ℕ). ClientRoom 0 (at q new.clients.entries)) (sym here) ((uses 0).of_client 0 (h.clients c))
      go k (inr other) = (uses 0).of_clients 0 k other (h.clients k)

  provided_one : (link : ℕ) → IsProvided mid → LinkRoom 1 (at link mid.links.entries) → Uses link 1 c 0 mid new → IsProvided new
  provided_one link h room uses = record {
    links = λ k. on k (cases_eq k link);
    clients = λ k. of k (cases_eq k c);
    counted = uses.counted h.counted;
    tracked = uses.tracked h.tracked;
  }
    where
      on : (k : ℕ) → (k ≡ link) ⊎ (k ≢ link) → LinkRoom 0 (at k new.links.entries)
      on k (inl here) = subst (λ (q : ℕ). LinkRoom 0 (at q new.links.entries)) (sym here) (uses.on_link 0 room)
      on k (inr other) = uses.on_links 0 k other (h.links k)

      of : (k : ℕ) → (k ≡ c) ⊎ (k ≢ c) → ClientRoom 0 (at k new.clients.entries)
      of k (inl here) = subst (λ (q : ℕ). ClientRoom 0 (at q new.clients.entries)) (sym here) (uses.of_client 0 (h.clients c))
      of k (inr other) = uses.of_clients 0 k other (h.clients k)

  pub provided_then : (kept : Option Stream) → IsProvided mid → HasRoom 1 kept mid → UsesOf kept 1 c 0 mid new → IsProvided new
  provided_then None h room uses = provided_none h uses
  provided_then (Some stream) h room uses = provided_one stream.link h room uses

  pub read_then : (kept : Option Stream) → UsesOf kept 1 c 0 mid new → (k : ℕ) → StaysRead (at k mid.links.entries) (at k new.links.entries)
  read_then None uses = (uses 0).read
  read_then (Some stream) uses = uses.read

-- ---- check words are looked at as before
sums_puts : (s : State) → IsWithin s → (c n : ℕ) (row : Option Client) (k : ℕ) → SumsStay (s.links k) ((puts_to row c n s).state.links k)
sums_puts s w c n None k = same_sums (s.links k)
sums_puts s w c n (Some client) k = by_due client.due
  where
    by_due : (due : List ℕ)
        → SumsStay (s.links k)
        ((then_also (lists_first c due client s) (λ (t : State). takes_of c n (t.clients c) t)).state.links k)
    by_due [] =
        let m = (lists_first c [] client s).state in
        sums_takes m (record { came = w.came; plugged = w.plugged; all = w.all; drawn = w.drawn }) c n (m.clients c) k
    by_due (b ∷ due) = sums_takes s w c n (s.clients c) k

-- ---- what is due is handed out
puts_due : (c n : ℕ) (s : State) (row : Option Client) → due_to row ≢ [] → (takes_of c n (s.clients c) s).state ≡ (puts_to row c n s).state
puts_due c n s None some = absurd (some refl)
puts_due c n s (Some client) some = by_due client.due some
  where
    by_due : (due : List ℕ) → due ≢ []
        → (takes_of c n (s.clients c) s).state
        ≡ (then_also (lists_first c due client s) (λ (t : State). takes_of c n (t.clients c) t)).state
    by_due [] some = absurd (some refl)
    by_due (b ∷ due) some = refl

module _ (old new : Tables) (fit : IsFit old) (reached : IsReached (state_of old)) (c : ℕ) (bytes : List ℕ) where
  abbrev s : State
  s = state_of old

  -- Bytes of what is due were handed out, and the device was told of it in a place that was kept.
  pub record Hands (kept : Option Stream) : Type 0 where
    pub some : due_to (s.clients c) ≢ []
    pub room : HasRoom 1 kept old
    pub uses : UsesOf kept 1 c 0 old new
    pub state : state_of new ≡ (takes_of c (length bytes) (s.clients c) s).state

  pub put_of_due : (kept : Option Stream) → Hands kept → Makes (Put c bytes) old new
  put_of_due kept h = made_by (Put c bytes) old new fit (record {
    provided = provided_then old new c kept fit.provided h.room h.uses;
    read = read_then old new c kept h.uses;
    state = h.state ∙ (puts_due c (length bytes) s (s.clients c) h.some ∙ sym rests);
    sums = λ k. subst (λ (t : State). SumsStay (s.links k) (t.links k)) (sym rests)
        (sums_puts s (within s reached) c (length bytes) (s.clients c) k);
  })
    where
      rests : StepIsRule (Put c bytes) s
      rests = (sends_nothing s reached).put c bytes

-- ---- the list is handed out
-- Nothing is due to a client whose list is stale.
record IsStaleRow (devices : DeviceTable) (client : Client) (list : List ℕ) : Type 0 where
  due : client.due ≡ []
  mark : client.about.mark ≡ true
  list_is : list ≡ offered devices client

stale_row : (devices : DeviceTable) (client : Client) (list : List ℕ) → list_to devices (Some client) ≡ Some list
    → IsStaleRow devices client list
stale_row devices client list is = by_due client.due refl is
  where
    by_mark : (due : List ℕ) → client.due ≡ due → due ≡ [] → (mark : Bool) → client.about.mark ≡ mark
        → cond mark (Some (tracked_list devices client.about.long)) None ≡ Some list → IsStaleRow devices client list
    by_mark due is none true marked there =
        let list_is : list ≡ tracked_list devices client.about.long = cc in
        record {
          due = is ∙ none;
          mark = marked;
          list_is = list_is
              ∙ (ap (λ (b : Bool). due_or [] (list_if_stale devices b client.about.long)) (sym marked)
              ∙ ap (λ (d : List ℕ). due_or d (list_if_stale devices client.about.mark client.about.long)) (sym (is ∙ none)));
        }
    by_mark due is none false marked there = let clash : None ≡ Some list = there in cc

    by_due : (due : List ℕ) → client.due ≡ due → list_behind due devices client.about.mark client.about.long
        ≡ Some list → IsStaleRow devices client list
    by_due [] is there = by_mark [] is refl client.about.mark refl there
    by_due (b ∷ due) is there = let clash : None ≡ Some list = there in cc

-- the row of a client whose list is stale
record IsStaleAt (old : Tables) (c : ℕ) (list : List ℕ) : Type 0 where
  seen : SeenClient
  here : at c old.clients.entries ≡ Some seen
  stale : IsStaleRow old.devices (client_row seen) list

stale_at : (old : Tables) (c : ℕ) (list : List ℕ) → list_to old.devices ((state_of old).clients c) ≡ Some list → IsStaleAt old c list
stale_at old c list is = by_row (at c old.clients.entries) refl is
  where
    by_row : (row : Option SeenClient) → at c old.clients.entries ≡ row
        → list_to old.devices (option_map client_row row) ≡ Some list → IsStaleAt old c list
    by_row None here is = let clash : None ≡ Some list = is in cc
    by_row (Some seen) here is = record { seen = seen; here = here; stale = stale_row old.devices (client_row seen) list is }

listed_room : (list : List ℕ) (row : Option SeenClient) → ClientRoom 0 row → ClientRoom 0 (option_map (listed list) row)
listed_room list None room = tt
listed_room list (Some client) room = room

listed_tracked : (c : ℕ) (keys list : List ℕ) (row : Option SeenClient) → IsListedAt c keys row
    → IsListedAt c keys (option_map (listed list) row)
listed_tracked c keys list None is = tt
listed_tracked c keys list (Some client) is = is

-- The list of a client became due to it.
module _ (old mid : Tables) (fit : IsFit old) (reached : IsReached (state_of old)) (c : ℕ) (list : List ℕ) where
  pub record BecomesDue : Type 0 where
    pub stale : list_to old.devices ((state_of old).clients c) ≡ Some list
    pub lists : Lists c list old.clients.entries mid.clients.entries
    pub others : mid ≡ record old { clients = mid.clients }

  module _ (h : BecomesDue) where
    row : IsStaleAt old c list
    row = stale_at old c list h.stale

    tracking : row.seen.about.phase ≡ Tracking
    tracking = ((is_orderly (state_of old) reached).client c (client_row row.seen)
        (ap (option_map client_row) row.here)).mark row.stale.mark

    -- it has no stream open
    pub no_stream : open_stream (at c mid.clients.entries) mid ≡ None
    no_stream =
        ap (λ (there : Option SeenClient). open_stream there mid) (h.lists.here ∙ ap (option_map (listed list)) row.here)
        ∙ ap (λ (phase : Phase). stream_in phase mid) tracking

    pub listed_provided : IsProvided mid
    listed_provided = subst IsProvided (sym h.others) (record {
      links = fit.provided.links;
      clients = holds_put (λ k there. ClientRoom 0 there) c (option_map (listed list) (at c old.clients.entries))
          old.clients.entries mid.clients.entries
          (h.lists, listed_room list (at c old.clients.entries) (fit.provided.clients c)) fit.provided.clients;
      counted = fit.provided.counted;
      tracked = holds_put (λ k there. IsListedAt k old.trackers.keys there) c
          (option_map (listed list) (at c old.clients.entries)) old.clients.entries
          mid.clients.entries
          (h.lists, listed_tracked c old.trackers.keys list (at c old.clients.entries) (fit.provided.tracked c))
          fit.provided.tracked;
    })

    abbrev client : Client
    client = client_row row.seen

    abbrev due_then : Rows (Option Client)
    due_then = (lists_first c [] client (state_of old)).state.clients

    -- what is shown at a number, by whether it is the client's
    abbrev put_at_test : ℕ → Bool → Option Client
    put_at_test k b = option_map client_row (cond b (option_map (listed list) (at c old.clients.entries)) (at k old.clients.entries))

    abbrev unmarked_at_test : ℕ → Bool → Option Client
    unmarked_at_test k b =
        cond b (option_and_then unmarked (option_map client_row (at k old.clients.entries)))
        (option_map client_row (at k old.clients.entries))

    abbrev due_at_test : ℕ → Bool → Option Client
    due_at_test k b = cond b (option_and_then (with_due (offered old.devices client)) (unmarked_at_test k b)) (unmarked_at_test k b)

    listed_here : (k : ℕ) → c ≡ k → put_at_test k true ≡ due_at_test k true
    listed_here k here =
        let there : at k old.clients.entries ≡ Some row.seen = ap (λ (q : ℕ). at q old.clients.entries) (sym here) ∙ row.here in
        ap (λ (o : Option SeenClient). option_map client_row (option_map (listed list) o)) row.here
        ∙ (ap (λ (l : List ℕ). option_and_then (with_due l) (unmarked client)) row.stale.list_is
        ∙ ap (λ (o : Option SeenClient). option_and_then (with_due (offered old.devices client))
        (option_and_then unmarked (option_map client_row o)))
        (sym there))

    rows : (k : ℕ) → option_map client_row (at k mid.clients.entries) ≡ due_then k
    rows k =
        ap (option_map client_row)
        (λ i. rows_put c (option_map (listed list) (at c old.clients.entries)) old.clients.entries
        mid.clients.entries h.lists i k)
        ∙ by_place (cases_eq c k)
      where
        by_place : (c ≡ k) ⊎ (c ≢ k) → put_at_test k (eqb c k) ≡ due_at_test k (eqb c k)
        by_place (inl here) = ap (put_at_test k) (eq-eqb c k here) ∙ (listed_here k here ∙ ap (due_at_test k) (sym (eq-eqb c k here)))
        by_place (inr other) = ap (put_at_test k) (ne_eqb c k other) ∙ ap (due_at_test k) (sym (ne_eqb c k other))

    abbrev first : State
    first = (lists_first c client.due client (state_of old)).state

    shown : state_of mid ≡ first
    shown =
        ap state_of h.others
        ∙ ((λ i. record (state_of old) { clients = λ k. rows k i })
        ∙ ap (λ (due : List ℕ). (lists_first c due client (state_of old)).state) (sym row.stale.due))

    -- the first bytes of the list were handed out
    pub put_of_list : (new : Tables) (bytes : List ℕ) → UsesOf (open_stream (at c mid.clients.entries) mid) 1 c 0 mid new
        → state_of new ≡ (takes_of c (length bytes) ((state_of mid).clients c) (state_of mid)).state → Makes (Put c bytes) old new
    put_of_list new bytes uses state = made_by (Put c bytes) old new fit (record {
      provided = provided_then mid new c (open_stream (at c mid.clients.entries) mid) listed_provided room uses;
      read = subst (λ (t : Tables). (k : ℕ) → StaysRead (at k t.links.entries) (at k new.links.entries)) h.others
          (read_then mid new c (open_stream (at c mid.clients.entries) mid) uses);
      state = state ∙ (ap (λ (t : State). (takes_of c (length bytes) (t.clients c) t).state) shown
          ∙ (ap (λ (there : Option Client). (puts_to there c (length bytes) (state_of old)).state)
          (sym (ap (option_map client_row) row.here)) ∙ sym rests));
      sums = λ k. subst (λ (t : State). SumsStay ((state_of old).links k) (t.links k)) (sym rests)
          (sums_puts (state_of old) (within (state_of old) reached) c (length bytes) ((state_of old).clients c) k);
    })
      where
        rests : StepIsRule (Put c bytes) (state_of old)
        rests = (sends_nothing (state_of old) reached).put c bytes

        room : HasRoom 1 (open_stream (at c mid.clients.entries) mid) mid
        room = subst (λ (there : Option Stream). HasRoom 1 there mid) (sym no_stream) tt
