-- A client that joins brings nothing to be moved.
use Rattle.std.specs.Prelude.{ℕ, ◌≡◌, ◌≢◌, Bool, false, cond, nat_eq, List, [], ◌∷◌, Some}
use Rattle.std.proofs.Common.{refl, sym, ◌∙◌, ap, subst, ◌⊎◌, inl, inr}
use Rattle.std.proofs.lemmas.Bool.{cases_eq, eq-eqb, ne_eqb}
use Rattle.adb_outside.specs.Tables.{at}
use Rattle.adb_capture.specs.declared.entry.Entry.TheVariants.{Join}
use Rattle.adb_history.specs.Kept.{Kept, IsLawful}
use Rattle.adb_history.specs.Machine.{History, state, rule}
use Rattle.adb_history.specs.Rows.{Client, Link, State, new_client}
use Rattle.adb_laws_resting.specs.Resting.{SendsNothingBy}
use Rattle.adb_world.specs.Settled.{Each, IsCalm}
use Rattle.adb_world.specs.World.{End}
use Rattle.adb_world.proofs.Shows.{links_show, clients_show, streams_show}

module _ (h : History) (n : ℕ) (old new : Kept) (owes : List ℕ) (ends : List (ℕ × End)) (was : IsLawful old h)
    (now : IsLawful new (Join n ∷ h))
    (nothing : SendsNothingBy (state h)) (calm : IsCalm old owes ends) where
  by_rule : (state (Join n ∷ h)) ≡ (rule (Join n) (state h)).state
  by_rule = nothing.join n

  link : (t : ℕ) (row : Link) → at t new.links ≡ Some row → row.due ≡ []
  link t row is =
      calm.link t row
      (links_show h old was t ∙ (sym (ap (λ (s : State). s.links t) by_rule) ∙ (sym (links_show (Join n ∷ h) new now t) ∙ is)))

  -- who has come, or was there
  client : (P : Client → Type 0) → P (new_client false n) → Each old.clients P → Each new.clients P
  client P first each c row is = go (cases_eq n c)
    where
      there : cond (nat_eq n c) (Some (new_client false n)) ((state h).clients c) ≡ Some row
      there = sym (ap (λ (s : State). s.clients c) by_rule) ∙ (sym (clients_show (Join n ∷ h) new now c) ∙ is)

      go : (n ≡ c) ⊎ (n ≢ c) → P row
      go (inl same) =
          let both : Some (new_client false n) ≡ Some row =
          sym (ap (λ (b : Bool). cond b (Some (new_client false n)) ((state h).clients c)) (eq-eqb n c same)) ∙ there in
          let is_new : new_client false n ≡ row = cc in
          subst P is_new first
      go (inr other) =
          each c row (clients_show h old was c
          ∙ (sym (ap (λ (b : Bool). cond b (Some (new_client false n)) ((state h).clients c)) (ne_eqb n c other)) ∙ there))

  pub joined_calm : IsCalm new owes ends
  joined_calm = record {
    link = link;
    clients = client (λ row. row.due ≡ []) refl calm.clients;
    device = calm.device;
    up = client (λ row. row.held ≡ []) refl calm.up;
    streams = λ l row is.
        calm.streams l row
        (streams_show h old was l ∙ (sym (ap (λ (s : State). s.streams l) by_rule) ∙ (sym (streams_show (Join n ∷ h) new now l) ∙ is)));
  }
