-- In every state that a legal history leaves, what clients wait for, and what they may ask next, can be done.
use Rattle.std.proofs.Common.{ℕ, ◌≡◌, List, Some, refl, sym, subst}
use Rattle.adb_registry.specs.Registry.{DeviceTable}
use Rattle.adb_forward.specs.Forwards.{IsForwardTable}
use Rattle.adb_forward.specs.declared.row.ForwardRow.{ForwardRow}
use Rattle.adb_client.specs.declared.phase.Phase.{Phase}
use Rattle.adb_client.specs.declared.phase.Phase.TheVariants.{Binding}
use Rattle.adb_history.specs.Rows.{Client}
use Rattle.adb_history.specs.Asking.{asks_with}
use Rattle.adb_history.specs.Reading.{asked_before}
use Rattle.adb_history.specs.Machine.{History, state, IsLegal}
use Rattle.adb_history.proofs.Books.{all_books}
use Rattle.adb_laws_resting.specs.Wanted.{IsSoundNext, IsWanted, AreForwards, CanBeDone}
use Rattle.adb_laws_resting.proofs.WantedReads.{sound_asked, none_at_zero, table_forwards}
use Rattle.adb_laws_resting.proofs.WantedForwards.{book_sound}
use Rattle.adb_laws_resting.proofs.WantedClients.{WantsIn, all_want}

-- What follows what a client asks can be done, over a table of forwards.
pub sound_over_table : (devices : DeviceTable) (forwards : List (ℕ × ForwardRow)) → IsForwardTable forwards
    → (client : Client) (bytes : List ℕ)
    → IsSoundNext forwards (asks_with devices forwards bytes (asked_before client)).next
sound_over_table devices forwards table client bytes =
    sound_asked devices forwards (none_at_zero forwards (table_forwards forwards table)) bytes (asked_before client) tt

module _ (h : History) (legal : IsLegal h) where
  all_forwards : AreForwards (state h).forwards
  all_forwards = subst AreForwards (sym (all_books h legal).forwards) (book_sound h).forwards

  want_sound : (c : ℕ) (client : Client) → (state h).clients c ≡ Some client → IsWanted client.about.want
  want_sound c client is = by_phase client.about.phase refl (all_want h legal c client is)
    where
      by_phase : (phase : Phase) → client.about.phase ≡ phase → WantsIn phase client.about.want → IsWanted client.about.want
      by_phase Binding binding none = subst IsWanted (sym ((all_books h legal).waits c client is binding)) ((book_sound h).waits c)
      by_phase _ e none = subst IsWanted (sym none) tt

  -- What clients wait for, and what they may ask next, can be done.
  pub can_be_done : CanBeDone (state h)
  can_be_done = record {
    wanted = λ c client is want wants. subst IsWanted wants (want_sound c client is);
    forwards = all_forwards;
    follows = λ client bytes. sound_asked (state h).devices (state h).forwards
        (none_at_zero (state h).forwards all_forwards) bytes (asked_before client) tt;
  }
