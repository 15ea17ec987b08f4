-- What a hall tells, one call behind another.
use Rattle.std.proofs.Common.{◌≡◌, List, [], ◌∷◌, ◌++◌, reverse, Option, Some, None, refl, sym, ap, ◌∙◌, subst}
use Rattle.std.specs.Prelude.{option_map}
use Rattle.std.proofs.lemmas.List.{append_assoc, reverse-append}
use Rattle.adb_capture.specs.declared.entry.Entry.{Entry}
use Rattle.adb_capture.specs.declared.entry.Entry.TheVariants.{Read, Recv, Put, Send}
use Rattle.adb_history.specs.Machine.{History}
use Rattle.adb_history.specs.Kept.{IsLawful}
use Rattle.adb_server_log.specs.Log.{grown}
use Rattle.adb_server_hall.specs.Telling.{Telling, Where, Entered}
use Rattle.adb_server_hall.specs.Made.{Tells, bytes_in, bytes_out}

-- what a hall that tells before a call tells after it
pub where_some : (P : Telling → Telling → Type 0) (old new : Option Telling) (a : Telling) → old ≡ Some a → Where old P new
    → (b : Telling) × (new ≡ Some b) × P a b
where_some P None new a is w = cc
where_some P (Some x) None a is w = absurd w
where_some P (Some x) (Some b) a is w = (b, refl, subst (λ (t : Telling). P t b) (let same : x ≡ a = cc in same) w)

-- an entry was made: it is told, and held
pub tells_more : (e : Entry) (a b : Telling) (entries : List Entry) → Tells a entries → Entered e a b → Tells b (entries ++ e ∷ [])
tells_more e a b entries tells made = record {
  told = made.told ∙ ap (option_map (grown e)) tells.told;
  lawful = subst (λ (h : History). IsLawful b.hub h) (sym (reverse-append entries (e ∷ []))) (made.steps (reverse entries) tells.lawful).1;
}

pub bytes_in_append : (xs ys : List Entry) → bytes_in (xs ++ ys) ≡ bytes_in xs ++ bytes_in ys
bytes_in_append [] ys = refl
bytes_in_append (Read c bytes ∷ xs) ys = ap (λ bs. bytes ++ bs) (bytes_in_append xs ys)
    ∙ sym (append_assoc bytes (bytes_in xs) (bytes_in ys))
bytes_in_append (Recv t bytes ∷ xs) ys = ap (λ bs. bytes ++ bs) (bytes_in_append xs ys)
    ∙ sym (append_assoc bytes (bytes_in xs) (bytes_in ys))
bytes_in_append (_ ∷ xs) ys = bytes_in_append xs ys

pub bytes_out_append : (xs ys : List Entry) → bytes_out (xs ++ ys) ≡ bytes_out xs ++ bytes_out ys
bytes_out_append [] ys = refl
bytes_out_append (Put c bytes ∷ xs) ys = ap (λ bs. bytes ++ bs) (bytes_out_append xs ys)
    ∙ sym (append_assoc bytes (bytes_out xs) (bytes_out ys))
bytes_out_append (Send t bytes ∷ xs) ys = ap (λ bs. bytes ++ bs) (bytes_out_append xs ys)
    ∙ sym (append_assoc bytes (bytes_out xs) (bytes_out ys))
bytes_out_append (_ ∷ xs) ys = bytes_out_append xs ys
