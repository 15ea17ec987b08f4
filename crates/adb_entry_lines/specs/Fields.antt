-- The fields of an entry in the line that shows it.
use Rattle.std.specs.Prelude.{ℕ, List, [], ◌∷◌, ◌++◌, codes}
use Rattle.adb_outside.specs.declared.kinds.Kind.{Kind}
use Rattle.adb_outside.specs.declared.kinds.Kind.TheVariants.{Usb, Local}
use Rattle.adb_outside.specs.declared.kinds.Cause.{Cause}
use Rattle.adb_outside.specs.declared.kinds.Cause.TheVariants.{Eof, Fault, Starved, NoThread}
use Rattle.adb_capture.specs.Records.{number_of}
use Rattle.adb_capture.specs.declared.entry.Entry.{Entry}
use Rattle.adb_capture.specs.declared.entry.Entry.TheVariants.{Join, Enter, Read, End, Bound, Attach, Recv, Detach, Put, Send}
use Rattle.adb_entry_lines.specs.Text.{string, numbered, named, payload}
use Rattle.adb_entry_lines.specs.declared.payload.Payloads.{Payloads}

-- what an entry is, up to the number of its client or link
abbrev pub kind_label : Entry → List ℕ
kind_label (Join client) = codes ",\"kind\":\"join\",\"client\":"
kind_label (Enter client port) = codes ",\"kind\":\"enter\",\"client\":"
kind_label (Read client bytes) = codes ",\"kind\":\"read\",\"client\":"
kind_label (End client cause) = codes ",\"kind\":\"end\",\"client\":"
kind_label (Bound client port) = codes ",\"kind\":\"bound\",\"client\":"
kind_label (Attach link kind serial) = codes ",\"kind\":\"attach\",\"link\":"
kind_label (Recv link bytes) = codes ",\"kind\":\"recv\",\"link\":"
kind_label (Detach link cause) = codes ",\"kind\":\"detach\",\"link\":"
kind_label (Put client bytes) = codes ",\"kind\":\"put\",\"client\":"
kind_label (Send link bytes) = codes ",\"kind\":\"send\",\"link\":"

abbrev pub cause_text : Cause → List ℕ
cause_text Eof = codes "end of file"
cause_text Fault = codes "fault"
cause_text Starved = codes "out of memory"
cause_text NoThread = codes "no thread"

abbrev pub plug_text : Kind → List ℕ
plug_text Usb = codes "usb"
plug_text Local = codes "local"

abbrev pub port_field : ℕ → List ℕ
port_field port = numbered (codes ",\"port\":") port

abbrev pub cause_field : Cause → List ℕ
cause_field cause = named (codes ",\"cause\":\"") (cause_text cause)

abbrev pub device_fields : Kind → List ℕ → List ℕ
device_fields kind serial = named (codes ",\"plug\":\"") (plug_text kind) ++ string (codes ",\"serial\":\"") serial

-- what it has besides
abbrev pub data_fields : Payloads → Entry → List ℕ
data_fields payloads (Join client) = []
data_fields payloads (Enter client port) = port_field port
data_fields payloads (Read client bytes) = payload payloads bytes
data_fields payloads (End client cause) = cause_field cause
data_fields payloads (Bound client port) = port_field port
data_fields payloads (Attach link kind serial) = device_fields kind serial
data_fields payloads (Recv link bytes) = payload payloads bytes
data_fields payloads (Detach link cause) = cause_field cause
data_fields payloads (Put client bytes) = payload payloads bytes
data_fields payloads (Send link bytes) = payload payloads bytes

-- the serial of the device of the link that it names, where there is one
abbrev pub serial_field : List ℕ → List ℕ
serial_field [] = []
serial_field (b ∷ serial) = string (codes ",\"serial\":\"") (b ∷ serial)

-- The fields of an entry: its place in the history, counted from 1, its kind, whom it names, that device, and what it has.
abbrev pub entry_fields : Payloads → ℕ → List ℕ → Entry → List ℕ
entry_fields payloads place serial e =
    numbered (codes "{\"entry\":") place
    ++ (numbered (kind_label e) (number_of e) ++ (serial_field serial ++ data_fields payloads e))
