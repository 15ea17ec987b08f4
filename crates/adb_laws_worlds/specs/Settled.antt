-- A server and its model device at rest.
use Rattle.std.specs.Prelude.{ℕ, ◌≡◌, ◌≢◌, true, ◌++◌, drop, [], Some}
use Rattle.adb_stream.specs.Flow.{is_idle, to_hand}
use Rattle.adb_stream.specs.declared.row.Stream.{Stream}
use Rattle.adb_history.specs.Machine.{History, state}
use Rattle.adb_history.specs.Births.{Birth, born, handed_to}
use Rattle.adb_history.specs.Bytes.{bytes_put, bytes_read}
use Rattle.adb_history.specs.Rows.{Client}
use Rattle.adb_device_streams.specs.Asked.{service_of}
use Rattle.adb_device_streams.specs.Service.{bytes_in, service_answer}
use Rattle.adb_device_streams.specs.Stream.{unsent}
use Rattle.adb_daemon.specs.Device.{Setting}
use Rattle.adb_laws_causes.specs.Flows.{waiting}
use Rattle.adb_laws_fifo_down.specs.Follows.{replies_of}
use Rattle.adb_laws_fifo_down.specs.Life.{okay_after}
use Rattle.adb_laws_model_device.specs.Paired.{IsStill}
use Rattle.adb_laws_model_device.specs.Owed.{packets_owed}
use Rattle.adb_laws_worlds.specs.Quiet.{IsServed}
use Rattle.adb_laws_worlds.specs.Rows.{HasRow}

-- Nothing is on its way on the link, and nothing is due to any client.
pub record IsAtRest (setting : Setting) (h : History) : Type 0 where
  pub still : IsStill (packets_owed setting) h
  pub clients : (c : ℕ) (client : Client) → (state h).clients c ≡ Some client → client.due ≡ []

-- An open stream at rest lives at both ends; no write waits and nothing is held at the server's, nothing is to be
-- handed out, and its service has nothing
-- left to write, and may write.
pub record IsSettled (setting : Setting) (h : History) (l : ℕ) (b : Birth) (x : Stream) : Type 0 where
  pub served : IsServed h l x
  pub there : HasRow setting h l b
  pub waits : waiting x.part.flow ≡ 0
  pub handed : to_hand x.part.flow ≡ 0
  pub held : served.client.held ≡ []
  pub written : unsent there.row ≡ []
  pub idle : is_idle there.row.flow ≡ true
  -- it was opened for the service that its client asked for
  pub kind : service_of b.service ≡ Some there.row.kind
  -- all that its client wrote past its requests came to the service, and the client was handed all that the service answered to it
  pub came : bytes_in there.row.past ≡ drop b.head (bytes_read b.client h)
  pub got : handed_to l b h ≡ (service_answer there.row.kind there.row.first there.row.past).bytes
  -- behind the replies to its requests and an `OKAY`, where it came by itself
  pub heard : bytes_put b.client h ≡ okay_after b.forwarded (replies_of b h)
      ++ (service_answer there.row.kind there.row.first there.row.past).bytes

abbrev pub OpenAreSettled : Setting → History → Type 0
OpenAreSettled setting h = IsAtRest setting h → (l : ℕ) (b : Birth) (x : Stream) → born l h ≡ Some b → b.link ≡ 1
    → (state h).streams l ≡ Some x → x.part.remote ≢ 0 → IsSettled setting h l b x
