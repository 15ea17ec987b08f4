-- What every reply has.
use Rattle.std.specs.Prelude.{ℕ, ◌≡◌, ◌<◌, ◌⊎◌, List, [], Some, codes}
use Rattle.adb_outside.specs.Bytes.{IsPrefixOf}
use Rattle.adb_outside.specs.Tables.{at}
use Rattle.adb_registry.specs.declared.row.Row.{Row}
use Rattle.adb_reply.specs.Strings.{okay}
use Rattle.adb_reply.specs.declared.answer.Answer.{Answer}
use Rattle.adb_reply.specs.declared.answer.Next.{Next}
use Rattle.adb_reply.specs.declared.answer.Next.TheVariants.{Close, Select, Track, Open, Bind, Rebind, Unbind, UnbindAll, Stop}

-- How the bytes of a reply begin, by what follows: none come where the answer comes later, `FAIL` only where the client is closed.
abbrev pub BeginsBy : Next → List ℕ → Type 0
BeginsBy Close bytes = IsPrefixOf okay bytes ⊎ IsPrefixOf (codes "FAIL") bytes
BeginsBy (Select id) bytes = IsPrefixOf okay bytes
BeginsBy (Track long) bytes = IsPrefixOf okay bytes
BeginsBy (Open transport service) bytes = bytes ≡ []
BeginsBy (Bind transport local remote any) bytes = bytes ≡ []
BeginsBy (Rebind transport local remote) bytes = IsPrefixOf okay bytes
BeginsBy (Unbind local) bytes = IsPrefixOf okay bytes
BeginsBy UnbindAll bytes = IsPrefixOf okay bytes
BeginsBy Stop bytes = IsPrefixOf okay bytes

abbrev pub BeginsRight : Answer → Type 0
BeginsRight answer = BeginsBy answer.next answer.bytes

-- a device that is there and takes payloads
pub record TakesPayloads (rows : List (ℕ × Row)) (transport : ℕ) : Type 0 where
  pub row : Row
  pub is : at transport rows ≡ Some row
  pub some : 0 < row.maxdata

-- what follows a request opens a service only on a device that takes payloads
abbrev pub OpensReady : List (ℕ × Row) → Next → Type 0
OpensReady rows (Open transport service) = TakesPayloads rows transport
OpensReady rows _ = Unit {0}
