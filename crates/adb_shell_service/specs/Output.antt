-- How what a command writes is spelled (the shell protocol header).
use Rattle.std.specs.Prelude.{ℕ, ◌==◌, if◌then◌else◌, Bool, List, [], ◌∷◌, ◌++◌, length, take, drop, zero, suc}
use Rattle.adb_shell.specs.Packets.{spelling}
use Rattle.adb_shell_service.specs.declared.outcome.Outcome.{Outcome}
use Rattle.adb_shell_service.specs.declared.output.TheConstants.{STDOUT, STDERR, EXIT, MAX_OUTPUT}

-- the bytes of one packet
abbrev pub packet_bytes : ℕ → List ℕ → List ℕ
packet_bytes id bytes = spelling (record { id = id; bytes = bytes })

-- output in packets of the most bytes and a last shorter one where a rest is left: at most so many of them
abbrev pub output_at : ℕ → ℕ → List ℕ → List ℕ
output_at zero id bytes = []
output_at (suc k) id bytes = if length bytes == 0 then [] else packet_bytes id (take MAX_OUTPUT bytes)
    ++ output_at k id (drop MAX_OUTPUT bytes)

abbrev pub output_bytes : ℕ → List ℕ → List ℕ
output_bytes id bytes = output_at (length bytes) id bytes

-- the packet that has the status
abbrev pub exit_bytes : ℕ → List ℕ
exit_bytes status = packet_bytes EXIT (status ∷ [])

-- all that a command writes: in packets and with its status at the end, or as it is
abbrev pub spelled : Bool → Outcome → List ℕ
spelled packets outcome =
    if packets then output_bytes STDOUT outcome.stdout ++ output_bytes STDERR outcome.stderr ++ exit_bytes outcome.status
    else outcome.stdout ++ outcome.stderr
