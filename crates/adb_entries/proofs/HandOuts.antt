-- What a machine hands out is what is handed out next.
use Rattle.std.proofs.Common.{ℕ, ◌≡◌, List, [], ◌∷◌, take, Option, Some, None, refl, sym, ◌∙◌, ap, subst}
use Rattle.std.specs.Prelude.{option_map}
use Rattle.std.proofs.Math.Seq.{take-nil}
use Rattle.adb_registry.specs.Registry.{DeviceTable}
use Rattle.adb_capture.specs.declared.entry.Entry.TheVariants.{Put, Send}
use Rattle.adb_history.specs.Rows.{Client, Link}
use Rattle.adb_history.specs.Tracking.{offered}
use Rattle.adb_history.specs.Machine.{History}
use Rattle.adb_history.specs.Kept.{Kept, IsLawful}
use Rattle.adb_history.specs.Drained.{put_of, put_to, send_of, send_on}
use Rattle.adb_history.specs.declared.hand_out.TheConstants.{MAX_HAND_OUT}
use Rattle.adb_hub.specs.declared.answers.Handed.{Handed}
use Rattle.adb_hub.specs.declared.answers.Handed.TheVariants.{Bytes, Nothing, Done}
use Rattle.adb_hub.specs.Answers.{HandsOut, offered_to, due_on}
use Rattle.adb_entries.specs.Machine.{after_out, bytes_of}

module _ (h : History) (old new : Kept) (lawful : IsLawful old h) where
  as_before : new ≡ old → IsLawful new h
  as_before same = subst (λ (k : Kept). IsLawful k h) (sym same) lawful

  pub puts : (c : ℕ) (devices : DeviceTable) (row : Option Client) (given : Handed)
      → HandsOut (Put c) MAX_HAND_OUT (offered_to devices row) given h old new
      → (option_map (Put c) (bytes_of given) ≡ put_to devices c row) × IsLawful new (after_out (option_map (Put c) (bytes_of given)) h)
  puts c devices None (Bytes bytes) out = absurd out
  puts c devices None Nothing out = absurd out
  puts c devices None Done out = (refl, as_before out)
  puts c devices (Some client) (Bytes bytes) out = (of_all (offered devices client) out.0, out.2)
    where
      of_all : (all : List ℕ) → bytes ≡ take MAX_HAND_OUT all → Some (Put c bytes) ≡ put_of c all
      of_all [] is = absurd (out.1 (is ∙ take-nil MAX_HAND_OUT))
      of_all (b ∷ all) is = ap (λ (bytes : List ℕ). Some (Put c bytes)) is
  puts c devices (Some client) Nothing out = (sym (ap (put_of c) out.0), as_before out.1)
  puts c devices (Some client) Done out = absurd out

  pub sends : (t : ℕ) (row : Option Link) (given : Handed) → HandsOut (Send t) MAX_HAND_OUT (due_on row) given h old new
      → (option_map (Send t) (bytes_of given) ≡ send_on t row) × IsLawful new (after_out (option_map (Send t) (bytes_of given)) h)
  sends t None (Bytes bytes) out = absurd out
  sends t None Nothing out = absurd out
  sends t None Done out = (refl, as_before out)
  sends t (Some link) (Bytes bytes) out = (of_all link.due out.0, out.2)
    where
      of_all : (all : List ℕ) → bytes ≡ take MAX_HAND_OUT all → Some (Send t bytes) ≡ send_of t all
      of_all [] is = absurd (out.1 (is ∙ take-nil MAX_HAND_OUT))
      of_all (b ∷ all) is = ap (λ (bytes : List ℕ). Some (Send t bytes)) is
  sends t (Some link) Nothing out = (sym (ap (send_of t) out.0), as_before out.1)
  sends t (Some link) Done out = absurd out
