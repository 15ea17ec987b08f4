-- What a client was handed of its service.
use Rattle.std.specs.Prelude.{ℕ, ◌≡◌, ◌≤◌, ◌⊎◌, Bool, true, false, is_some, List, ◌++◌, length, drop, codes, Some}
use Rattle.adb_outside.specs.Bytes.{IsPrefixOf}
use Rattle.adb_outside.specs.Tables.{at}
use Rattle.adb_reply.specs.declared.answer.Next.TheVariants.{Open}
use Rattle.adb_history.specs.Births.{Birth, births, born}
use Rattle.adb_history.specs.Book.{asked, is_killed}
use Rattle.adb_history.specs.Bytes.{bytes_put, bytes_read, has_ended, is_lost, sent}
use Rattle.adb_history.specs.Machine.{History}
use Rattle.adb_history.specs.Streams.{stream_ids}
use Rattle.adb_device_streams.specs.Asked.{service_of}
use Rattle.adb_device_streams.specs.Service.{bytes_in, service_answer}
use Rattle.adb_device_streams.specs.Stream.{Row}
use Rattle.adb_daemon.specs.Device.{Setting, device_behind}
use Rattle.adb_daemon.specs.Serving.{Ended, Serving}
use Rattle.adb_daemon.specs.Streams.{over_at}
use Rattle.adb_laws_worlds.specs.Settled.{IsAtRest}

-- what came to a service of a text: all of it; or, where it has ended, a front
abbrev pub CameOf : Bool → (came text : List ℕ) → Type 0
CameOf true came text = IsPrefixOf came text
CameOf false came text = came ≡ text

-- A stream of the device for an id of the server: its row lives, or is one that has ended.
pub record HasEndedAs (own : ℕ) (row : Row) (ended : List Ended) : Type 0 where
  pub over : Ended
  pub is : over_at own ended ≡ Some over
  pub row_is : over.row ≡ row

pub record IsServed (l : ℕ) (row : Row) (s : Serving) : Type 0 where
  pub own : ℕ
  pub there : (at own s.rows ≡ Some row) ⊎ HasEndedAs own row s.ended
  pub host : row.host ≡ l

-- Behind some bytes stands all that the stream of a client answers to what came to it of a text.
pub record IsAnswered (s : Serving) (h : History) (c : ℕ) (service text before put : List ℕ) : Type 0 where
  pub number : ℕ
  pub birth : Birth
  pub is : born number h ≡ Some birth
  pub client : birth.client ≡ c
  pub row : Row
  pub served : IsServed number row s
  pub asked : service_of service ≡ Some row.kind
  pub came : CameOf (service_answer row.kind row.first row.past).ended (bytes_in row.past) text
  pub put_as : put ≡ before ++ (service_answer row.kind row.first row.past).bytes

-- A client asked the first device for a service that it knows, and its input did not end.
pub record AsksFor (h : History) (c : ℕ) (service : List ℕ) : Type 0 where
  pub next : (asked c h).next ≡ Some (Open 1 service)
  pub known : is_some (service_of service) ≡ true
  pub here : has_ended c h ≡ false

-- At rest each such client was put the replies to its requests, an `OKAY`, and the answer to what it wrote behind
-- them; where the link stays, no kill
-- stands, and an id was left for each stream.
abbrev pub ClientsAreAnswered : Setting → History → Type 0
ClientsAreAnswered setting h = IsAtRest setting h → is_lost 1 h ≡ false → is_killed h ≡ false → length (births h) ≤ stream_ids
    → (c : ℕ) (service : List ℕ) → AsksFor h c service
    → IsAnswered (device_behind setting (sent 1 h)).serving h c service (drop (asked c h).used (bytes_read c h))
    ((asked c h).replies ++ codes "OKAY")
    (bytes_put c h)
