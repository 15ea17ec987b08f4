-- A client hears of the listener that it waited for.
use Rattle.std.proofs.Common.{ℕ, ◌≡◌, ◌≢◌, ◌&&◌, Bool, true, false, List, Option, Some, None, is_some, refl, sym, ◌∙◌, ap, subst, ◌⊎◌, inl}
use Rattle.std.proofs.Common.{inr}
use Rattle.std.proofs.lemmas.Bool.{cases_eq}
use Rattle.adb_outside.specs.Tables.{at}
use Rattle.adb_capture.specs.declared.entry.Entry.TheVariants.{Bound}
use Rattle.adb_client.specs.declared.about.Want.{Want}
use Rattle.adb_client.specs.declared.phase.Phase.{Phase}
use Rattle.adb_client.specs.declared.phase.Phase.TheVariants.{Asking, Opening, Streaming, Binding, Tracking, Closing, Gone}
use Rattle.adb_forward.specs.declared.row.ForwardRow.{ForwardRow}
use Rattle.adb_history.specs.Rows.{Client, State}
use Rattle.adb_history.specs.Clients.{closes_with}
use Rattle.adb_history.specs.Forwarding.{bound_by}
use Rattle.adb_history.specs.Reading.{bound_to, bound_for, bound_in, bound_at}
use Rattle.adb_hub_tables.specs.declared.tables.Tables.{Tables}
use Rattle.adb_hub_tables.specs.Tables.{state_of}
use Rattle.adb_hub_tables.specs.Places.{ClientRoom, IsProvided, Uses}
use Rattle.adb_hub_tables.specs.Fit.{IsReadOutAt, IsFit, IsReached, Makes}
use Rattle.adb_hub_clients.specs.Binding.{is_binding, waits, want_of, IsBound}
use Rattle.adb_laws_resting.proofs.Reached.{sends_nothing}

-- ---- a client that waits for no listener
module _ (c port : ℕ) (s : State) where
  idle_in : (phase : Phase) (want : Option Want) → (is_binding phase && is_some want) ≡ false → s ≡ (bound_in phase want c port s).state
  idle_in Binding None idle = refl
  idle_in Binding (Some want) idle = let clash : true ≡ false = idle in cc
  idle_in Asking want idle = refl
  idle_in (Opening l) want idle = refl
  idle_in (Streaming l) want idle = refl
  idle_in Tracking want idle = refl
  idle_in Closing want idle = refl
  idle_in Gone want idle = refl

  idle_at : (row : Option Client) → waits row ≡ false → s ≡ (bound_at row c port s).state
  idle_at None idle = refl
  idle_at (Some client) idle = idle_in client.about.phase client.about.want idle

  -- ---- and one that does
  module _ (want : Want) where
    bound_is_in : (phase : Phase) (row : Option Want) → (is_binding phase && is_some row) ≡ true → row ≡ Some want
        → (bound_for (Some want) c port s).state ≡ (bound_in phase row c port s).state
    bound_is_in Binding row there is = ap (λ (w : Option Want). (bound_for w c port s).state) (sym is)
    bound_is_in Asking row there is = let clash : false ≡ true = there in cc
    bound_is_in (Opening l) row there is = let clash : false ≡ true = there in cc
    bound_is_in (Streaming l) row there is = let clash : false ≡ true = there in cc
    bound_is_in Tracking row there is = let clash : false ≡ true = there in cc
    bound_is_in Closing row there is = let clash : false ≡ true = there in cc
    bound_is_in Gone row there is = let clash : false ≡ true = there in cc

    bound_is : (row : Option Client) → waits row ≡ true → want_of row ≡ Some want
        → (bound_to c (bound_by want port s.devices s.forwards) s).state ≡ (bound_at row c port s).state
    bound_is None there is = let clash : false ≡ true = there in cc
    bound_is (Some client) there is = bound_is_in client.about.phase client.about.want there is

pub idle_bound : (old : Tables) → IsFit old → IsReached (state_of old) → (c port : ℕ)
    → waits ((state_of old).clients c) ≡ false → Makes (Bound c port) old old
idle_bound old fit reached c port idle = record {
  state = idle_at c port (state_of old) ((state_of old).clients c) idle ∙ sym ((sends_nothing (state_of old) reached).bound c port);
  fit = fit;
}

-- the forward that a client waits for
pub record Wanted (row : Option Client) : Type 0 where
  pub want : Want
  pub is : want_of row ≡ Some want

pub wanted : (row : Option Client) → waits row ≡ true → Wanted row
wanted None there = let clash : false ≡ true = there in cc
wanted (Some client) there = by_want (is_binding client.about.phase) client.about.want refl there
  where
    by_want : (b : Bool) (want : Option Want) → client.about.want ≡ want → (b && is_some want) ≡ true → Wanted (Some client)
    by_want b (Some want) is there = record { want = want; is = is }
    by_want true None is there = let clash : false ≡ true = there in cc
    by_want false None is there = let clash : false ≡ true = there in cc

-- ---- the places that are left
provided_slice : (mid new : Tables) (c : ℕ) → IsProvided mid → ClientRoom 1 (at c mid.clients.entries)
    → ((t : ℕ) → Uses t 0 c 1 mid new) → IsProvided new
provided_slice mid new c h room uses = record {
  links = λ k. (uses k).on_link 0 (h.links k);
  clients = λ k. go k (cases_eq k c);
  counted = (uses 0).counted h.counted;
  tracked = (uses 0).tracked h.tracked;
}
  where
    go : (k : ℕ) → (k ≡ c) ⊎ (k ≢ c) → ClientRoom 0 (at k new.clients.entries)
    go k (inl here) = subst (λ (q : ℕ). ClientRoom 0 (at q new.clients.entries)) (sym here) ((uses 0).of_client 0 room)
    go k (inr other) = (uses 0).of_clients 0 k other (h.clients k)

-- ---- all of it
module _ (old mid new : Tables) (fit : IsFit old) (reached : IsReached (state_of old)) where
  -- The forward is put, and the client is told, in a place that was kept, and closing.
  pub record Hears (c port : ℕ) (reply : List ℕ) : Type 0 where
    pub there : waits ((state_of old).clients c) ≡ true
    pub bound : (want : Want) → want_of ((state_of old).clients c) ≡ Some want → IsBound want port old reply mid.forwards
    pub others : mid ≡ record old { forwards = mid.forwards }
    pub room : ClientRoom 1 (at c old.clients.entries)
    pub uses : (t : ℕ) → Uses t 0 c 1 mid new
    pub links : new.links ≡ mid.links
    pub state : state_of new ≡ (closes_with c reply (state_of mid)).state

  pub heard : (c port : ℕ) (reply : List ℕ) → Hears c port reply → Makes (Bound c port) old new
  heard c port reply h = record {
    state = h.state ∙ (closing ∙ (bound_is c port s w.want (s.clients c) h.there w.is ∙ sym ((sends_nothing s reached).bound c port)));
    fit = record {
      provided = provided_slice mid new c (subst IsProvided (sym h.others) same)
          (subst (λ (t : Tables). ClientRoom 1 (at c t.clients.entries)) (sym h.others) h.room) h.uses;
      read_out = λ k. subst (λ (table : _). IsReadOutAt (at k table.entries)) (sym h.links)
          (subst (λ (t : Tables). IsReadOutAt (at k t.links.entries)) (sym h.others) (fit.read_out k));
    };
  }
    where
      s : State
      s = state_of old

      same : IsProvided (record old { forwards = mid.forwards })
      same = record {
        links = fit.provided.links;
        clients = fit.provided.clients;
        counted = fit.provided.counted;
        tracked = fit.provided.tracked;
      }

      w : Wanted (s.clients c)
      w = wanted (s.clients c) h.there

      is_bound : IsBound w.want port old reply mid.forwards
      is_bound = h.bound w.want w.is

      put : state_of mid ≡ record (state_of old) { forwards = (bound_by w.want port old.devices old.forwards).forwards }
      put = ap state_of h.others
          ∙ ap (λ (forwards : List (ℕ × ForwardRow)). record (state_of old) { forwards = forwards })
          is_bound.forwards_are

      closing : (closes_with c reply (state_of mid)).state ≡
          (bound_to c (bound_by w.want port old.devices old.forwards) (state_of old)).state
      closing =
          ap (λ (bytes : List ℕ). (closes_with c bytes (state_of mid)).state) is_bound.reply_is
          ∙ ap (λ (t : State). (closes_with c (bound_by w.want port old.devices old.forwards).reply t).state) put
