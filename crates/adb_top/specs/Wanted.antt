-- Which devices words ask for.
use Rattle.std.specs.Prelude.{◌≡◌, true, false, List, [], Some, None, Result, Ok, Err, String}
use Rattle.adb_words.specs.Serve.{Serving, is_serve, serve_of}
use Rattle.adb_words.specs.Words.{texts}
use Rattle.adb_words.specs.declared.command.WordsError.{WordsError}
use Rattle.adb_words.specs.declared.command.WordsError.TheVariants.{Usage, OutOfMemory}
use Rattle.adb_words.specs.declared.serve.Ports.{Ports}

-- The ports are those that a server asks for.
pub record ArePorts (asked : Serving) (ports : Ports) : Type 0 where
  pub devices : ports.devices.items ≡ asked.devices
  pub connects : ports.connects.items ≡ asked.connects

-- they are none
pub record AreNone (ports : Ports) : Type 0 where
  pub devices : ports.devices.items ≡ []
  pub connects : ports.connects.items ≡ []

-- Words that serve ask for their devices, and are refused exactly where they are no command; other words ask for none.
abbrev pub AsksForPorts : {A : Type 0} → List (String A) → Result Ports WordsError → Type 0
AsksForPorts words (Ok ports) = (is_serve (texts words) ≡ false → AreNone ports)
    × (is_serve (texts words) ≡ true → (asked : Serving) × (serve_of (texts words) ≡ Some asked) × ArePorts asked ports)
AsksForPorts words (Err Usage) = (is_serve (texts words) ≡ true) × (serve_of (texts words) ≡ None)
AsksForPorts words (Err OutOfMemory) = is_serve (texts words) ≡ true
