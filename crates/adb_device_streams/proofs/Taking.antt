-- A payload that a service takes, by what the service is.
use Rattle.std.specs.Prelude.{ℕ, ◌≡◌, Bool, true, false, List, ◌∷◌, ◌++◌, Result, Ok, Err, OnOk, OnErr, IsErr, refl}
use Rattle.std.proofs.Common.{◌∙◌, sym, subst}
use Rattle.std.specs.Io.{StartsWith}
use Rattle.adb_files.specs.Entries.{Entry}
use Rattle.adb_files.specs.Service.{Service, StandsFor, Feeds, FeedsFront}
use Rattle.adb_shell_service.specs.Service.{Held, Opening, shell_answer}
use Rattle.adb_shell_service.specs.Service as shell
use Rattle.adb_device_streams.specs.Asked.{Kind, Echoes, Syncs, Shells}
use Rattle.adb_device_streams.specs.Service.{Came, bytes_in, HasAnswered, TakesOne, Takes, TakesFrontOfOne, TakesFront}
use Rattle.adb_device_streams.specs.declared.service.Service.TheVariants as services
use Rattle.adb_device_streams.proofs.Syncing.{synced_on, synced_over, front_on, front_over}

module _ (came : Came) (old new : Service) (left : List Entry) where
  -- a sync service took it
  takes_by : (kind : Kind) (first : List Entry) (past : List Came) (taken : List ℕ)
      → (old.ended ≡ false → (fed : List ℕ) → StandsFor fed old → Feeds fed came.bytes old new came.files left)
      → (old.ended ≡ true → (new ≡ old) × (left ≡ came.files))
      → HasAnswered kind first past taken (services.Sync old) → TakesOne kind first past taken came (services.Sync new) left
  takes_by Echoes first past taken on over has = absurd has.holds
  takes_by (Shells packets command) first past taken on over has = absurd has.holds
  takes_by Syncs first past taken on over has = go old.ended refl
    where
      go : (t : Bool) → old.ended ≡ t → TakesOne Syncs first past taken came (services.Sync new) left
      go false is =
          let all = synced_on first past taken came old new left is has (on is (bytes_in past) has.holds) in
          record { answers = all.0; files = all.1 }
      go true is =
          let all = synced_over first past taken came old is has in
          let same = over is in
          record {
            answers = subst (λ (s : Service). HasAnswered Syncs first (came ∷ past) taken (services.Sync s)) (sym same.0) all.0;
            files = same.1 ∙ all.1;
          }

  -- memory ran out in a sync service
  front_by : (kind : Kind) (first : List Entry) (past : List Came) (taken : List ℕ)
      → (old.ended ≡ false → (fed : List ℕ) → StandsFor fed old → FeedsFront fed came.bytes old new came.files left)
      → (old.ended ≡ true → (new ≡ old) × (left ≡ came.files))
      → HasAnswered kind first past taken (services.Sync old) → TakesFrontOfOne kind first past taken came (services.Sync new) left
  front_by Echoes first past taken on over has = absurd has.holds
  front_by (Shells packets command) first past taken on over has = absurd has.holds
  front_by Syncs first past taken on over has = go old.ended refl
    where
      go : (t : Bool) → old.ended ≡ t → TakesFrontOfOne Syncs first past taken came (services.Sync new) left
      go false is =
          let all = front_on first past taken came old new left is has (on is (bytes_in past) has.holds) in
          record { answer = all.0; files = all.1 }
      go true is =
          let all = front_over first past taken came old is has in
          let same = over is in
          let here : TakesFrontOfOne Syncs first past taken came (services.Sync old) came.files =
          record { answer = all.0; files = all.1 } in
          subst (λ (s : Service). TakesFrontOfOne Syncs first past taken came (services.Sync s) left) (sym same.0)
          (subst (TakesFrontOfOne Syncs first past taken came (services.Sync old)) (sym same.1) here)

  -- the calls of a sync service, as its contract tells them
  pub sync_whole : {E : Type 0} (result : Result (Unit {0}) E) → OnOk result ((old.spent ≡ false) × (new.spent ≡ false))
      → OnOk result (old.ended ≡ false → (fed : List ℕ) → StandsFor fed old → Feeds fed came.bytes old new came.files left)
      → (old.spent ≡ false → old.ended ≡ true → (result ≡ Ok tt) × (new ≡ old) × (left ≡ came.files))
      → OnOk result (Takes came (services.Sync old) (services.Sync new) left)
  sync_whole (Err e) fine on over = tt
  sync_whole (Ok x) fine on over = λ kind first past taken has.
      takes_by kind first past taken on (λ is. ((over fine.0 is).1, (over fine.0 is).2)) has

  pub sync_front : {E : Type 0} (result : Result (Unit {0}) E)
      → OnErr result (old.ended ≡ false → (fed : List ℕ) → StandsFor fed old → FeedsFront fed came.bytes old new came.files left)
      → (old.spent ≡ false → old.ended ≡ true → (result ≡ Ok tt) × (new ≡ old) × (left ≡ came.files))
      → (old.spent ≡ true → (IsErr result) × (left ≡ came.files) × (new ≡ old))
      → OnErr result (TakesFront came (services.Sync old) (services.Sync new) left)
  sync_front (Ok x) on over stays = tt
  sync_front {E} (Err e) on over stays = λ kind first past taken has.
      front_by kind first past taken on (λ is. ended old.spent refl is) has
    where
      ended : (t : Bool) → old.spent ≡ t → old.ended ≡ true → (new ≡ old) × (left ≡ came.files)
      ended false is stop = absurd (cc ((over is stop).0))
      ended true is stop = ((stays is).2, (stays is).1)

module _ (came : Came) (old new : Held) where
  -- a shell service took it
  shell_by : (kind : Kind) (first : List Entry) (past : List Came) (taken : List ℕ)
      → ((opening : Opening) (fed gone : List ℕ) → shell.HasAnswered opening fed gone old
      → shell.HasAnswered opening (fed ++ came.bytes) gone new)
      → HasAnswered kind first past taken (services.Shell old) → TakesOne kind first past taken came (services.Shell new) came.files
  shell_by Echoes first past taken all has = absurd has.holds
  shell_by Syncs first past taken all has = absurd has.holds
  shell_by (Shells packets command) first past taken all has =
      let next = all (record { packets = packets; command = command; files = first }) (bytes_in past) taken has.holds in
      record { answers = record { holds = next; given_out = next.given_out; ends = next.ends }; files = refl }

  pub shell_whole : {E : Type 0} (result : Result (Unit {0}) E)
      → OnOk result
      ((opening : Opening) (fed gone : List ℕ) → shell.HasAnswered opening fed gone old
      → shell.HasAnswered opening (fed ++ came.bytes) gone new)
      → OnOk result (Takes came (services.Shell old) (services.Shell new) came.files)
  shell_whole (Err e) all = tt
  shell_whole (Ok x) all = λ kind first past taken has. shell_by kind first past taken all has

  -- memory ran out in a shell service
  shell_front_by : (kind : Kind) (first : List Entry) (past : List Came) (taken : List ℕ)
      → ((opening : Opening) (fed gone : List ℕ) → shell.HasAnswered opening fed gone old
      → StartsWith (shell_answer opening (fed ++ came.bytes)).bytes (gone ++ new.out))
      → HasAnswered kind first past taken (services.Shell old) → TakesFrontOfOne kind first past taken came (services.Shell new) came.files
  shell_front_by Echoes first past taken all has = absurd has.holds
  shell_front_by Syncs first past taken all has = absurd has.holds
  shell_front_by (Shells packets command) first past taken all has =
      record { answer = all (record { packets = packets; command = command; files = first }) (bytes_in past) taken has.holds; files = refl }

  pub shell_front : {E : Type 0} (result : Result (Unit {0}) E)
      → OnErr result ((opening : Opening) (fed gone : List ℕ) → shell.HasAnswered opening fed gone old
      → StartsWith (shell_answer opening (fed ++ came.bytes)).bytes (gone ++ new.out))
      → OnErr result (TakesFront came (services.Shell old) (services.Shell new) came.files)
  shell_front (Ok x) all = tt
  shell_front (Err e) all = λ kind first past taken has. shell_front_by kind first past taken all has
