-- What follows the last request of a client tells of no stream's end, unless the server stops.
use Rattle.std.proofs.Common.{ℕ, ◌≡◌, Bool, true, false, Option, Some, None, refl}
use Rattle.std.specs.Prelude.{◌==◌}
use Rattle.adb_reply.specs.declared.answer.Next.{Next}
use Rattle.adb_reply.specs.declared.answer.Next.TheVariants.{Close, Select, Track, Open, Bind, Rebind, Unbind, UnbindAll, Stop}
use Rattle.adb_history.specs.Rows.{State}
use Rattle.adb_history.specs.Streams.{opens, no_ids_left, stream_ids}
use Rattle.adb_history.specs.Reading.{goes_on}
use Rattle.adb_hub_clients.specs.Asking.{is_stop}
use Rattle.adb_hub_rules.proofs.Telling.{TellsNone, told_if}

no_ids_none : (forwarded : Bool) (c : ℕ) (s : State) → TellsNone (no_ids_left forwarded c s)
no_ids_none true c s = λ rows log. refl
no_ids_none false c s = λ rows log. refl

pub opens_none : (forwarded : Bool) (c t : ℕ) (service : _) (s : State) → TellsNone (opens forwarded c t service s)
opens_none forwarded c t service s = told_if (s.drawn == stream_ids) _ _ (no_ids_none forwarded c s) (λ rows log. refl)

pub goes_on_none : (next : Option Next) (c : ℕ) (s : State) → is_stop next ≡ false → TellsNone (goes_on next c s)
goes_on_none None c s other = λ rows log. refl
goes_on_none (Some Close) c s other = λ rows log. refl
goes_on_none (Some (Select id)) c s other = λ rows log. refl
goes_on_none (Some (Track long)) c s other = λ rows log. refl
goes_on_none (Some (Open transport service)) c s other = opens_none false c transport service s
goes_on_none (Some (Bind transport local remote chosen)) c s other = λ rows log. refl
goes_on_none (Some (Rebind transport local remote)) c s other = λ rows log. refl
goes_on_none (Some (Unbind local)) c s other = λ rows log. refl
goes_on_none (Some UnbindAll) c s other = λ rows log. refl
goes_on_none (Some Stop) c s other = absurd (let clash : true ≡ false = other in cc)

pub stop_is : (next : Option Next) → is_stop next ≡ true → next ≡ Some Stop
stop_is (Some Stop) is = refl
stop_is None is = absurd (let clash : false ≡ true = is in cc)
stop_is (Some Close) is = absurd (let clash : false ≡ true = is in cc)
stop_is (Some (Select id)) is = absurd (let clash : false ≡ true = is in cc)
stop_is (Some (Track long)) is = absurd (let clash : false ≡ true = is in cc)
stop_is (Some (Open transport service)) is = absurd (let clash : false ≡ true = is in cc)
stop_is (Some (Bind transport local remote chosen)) is = absurd (let clash : false ≡ true = is in cc)
stop_is (Some (Rebind transport local remote)) is = absurd (let clash : false ≡ true = is in cc)
stop_is (Some (Unbind local)) is = absurd (let clash : false ≡ true = is in cc)
stop_is (Some UnbindAll) is = absurd (let clash : false ≡ true = is in cc)
