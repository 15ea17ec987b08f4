-- Clients that wait for a port: what their Bound entries say, and what a binder answers.
use Rattle.std.specs.Prelude.{ℕ, ◌+◌, ◌-◌, ◌^◌, ◌≡◌, ◌==◌, ◌≤◌, ◌⊎◌, if◌then◌else◌, Bool, false, List, [], ◌∷◌, ◌++◌, Option, Some, None, ⊤}
use Rattle.adb_capture.specs.declared.entry.Entry.{Entry}
use Rattle.adb_capture.specs.declared.entry.Entry.TheVariants.{Read, Bound}
use Rattle.adb_history.specs.Machine.{History, state}
use Rattle.adb_hub.specs.Answers.{port_of}

-- ---- each port that was waited for, and bound
abbrev pub paired : ℕ → Option ℕ → List (ℕ × ℕ)
paired port None = []
paired port (Some asked) = (asked, port) ∷ []

abbrev pub asked_at : Entry → History → List (ℕ × ℕ)
asked_at (Bound c port) h = paired port (port_of ((state h).clients c))
asked_at _ h = []

-- Of entries behind a history: the local port of each request whose client waits, with the port of the Bound that ends this.
abbrev pub asked_ports : History → List Entry → List (ℕ × ℕ)
asked_ports h [] = []
asked_ports h (e ∷ entries) = asked_at e h ++ asked_ports (e ∷ h) entries

-- A binder that tells its answers after some calls told them before, and these are more.
abbrev pub TellsMore : {A : Type 0} → Option (List A) → List A → Option (List A) → Type 0
TellsMore before answers None = ⊤
TellsMore {A = A} before answers (Some after) = (told : List A) × (before ≡ Some told) × (after ≡ told ++ answers)

-- ---- each client that waits is answered
-- the port that a client waits for behind an entry that brought its bytes
abbrev pub left_waiting : Entry → History → Option ℕ
left_waiting (Read c bytes) h = port_of ((state (Read c bytes ∷ h)).clients c)
left_waiting _ h = None

abbrev pub IsBoundOf : ℕ → Entry → Type 0
IsBoundOf c (Bound d port) = d ≡ c
IsBoundOf c _ = ⊥

abbrev pub BeginsWithBound : ℕ → List Entry → Type 0
BeginsWithBound c [] = ⊥
BeginsWithBound c (e ∷ entries) = IsBoundOf c e

abbrev pub IsAnswered : ℕ → Option ℕ → List Entry → Type 0
IsAnswered c None entries = ⊤
IsAnswered c (Some asked) entries = BeginsWithBound c entries

-- Of entries behind a history: each that leaves a client waiting is followed at once by a Bound of that client.
abbrev pub AreAnswered : ℕ → History → List Entry → Type 0
AreAnswered c h [] = ⊤
AreAnswered c h (e ∷ entries) = IsAnswered c (left_waiting e h) entries × AreAnswered c (e ∷ h) entries

-- ---- ports that could not be bound
abbrev pub is_unbound : Entry → Bool
is_unbound (Bound c port) = port == 0
is_unbound _ = false

-- how many entries say that a port could not be bound
abbrev pub unbound : List Entry → ℕ
unbound [] = 0
unbound (e ∷ entries) = (if is_unbound e then 1 else 0) + unbound entries

-- A count of 64 bits rose by so many, or stands at its last value.
abbrev pub RisesBy : ℕ → ℕ → ℕ → Type 0
RisesBy n before after = (before + n ≤ after) ⊎ (2 ^ 64 - 1 ≤ after)
