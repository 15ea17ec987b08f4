-- The link to the host.
use Rattle.std.specs.Prelude.{◌≤◌, Option, IfSome}
use Rattle.adb_wire.specs.declared.headers.TheConstants.{MAX_PAYLOAD}
use Rattle.adb_device_streams.specs.declared.link.Link.{Link}

-- No write on the link is longer than a payload may be.
abbrev pub Fits : Option Link → Type 0
Fits link = IfSome link (λ l. l.most ≤ MAX_PAYLOAD)
