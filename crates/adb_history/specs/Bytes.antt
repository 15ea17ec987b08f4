-- The bytes of a history, from its entries alone: what was read from clients and put to them, received from links and sent to them.
use Rattle.std.specs.Prelude.{ℕ, Bool, true, false, if◌then◌else◌, ◌&&◌, ◌||◌, not, nat_eq, List, [], ◌∷◌, ◌++◌}
use Rattle.adb_outside.specs.declared.kinds.Cause.{Cause}
use Rattle.adb_outside.specs.declared.kinds.Cause.TheVariants.{Eof, Fault, Starved, NoThread}
use Rattle.adb_wire.specs.Cutting.{framed}
use Rattle.adb_wire.specs.declared.packets.Packet.{Packet}
use Rattle.adb_capture.specs.declared.entry.Entry.TheVariants.{Join, Read, End, Recv, Detach, Put, Send}
use Rattle.adb_history.specs.Machine.{History}

-- ---- clients
-- a client came by itself
abbrev pub has_joined : ℕ → History → Bool
has_joined c [] = false
has_joined c (Join n ∷ older) = nat_eq n c || has_joined c older
has_joined c (_ ∷ older) = has_joined c older

-- a client's input ended
abbrev pub has_ended : ℕ → History → Bool
has_ended c [] = false
has_ended c (End n cause ∷ older) = nat_eq n c || has_ended c older
has_ended c (_ ∷ older) = has_ended c older

abbrev pub is_orderly : Cause → Bool
is_orderly Eof = true
is_orderly Fault = false
is_orderly Starved = false
is_orderly NoThread = false

-- a client's connection failed
abbrev pub has_failed : ℕ → History → Bool
has_failed c [] = false
has_failed c (End n cause ∷ older) = (nat_eq n c && not (is_orderly cause)) || has_failed c older
has_failed c (_ ∷ older) = has_failed c older

-- all bytes that were read from a client
abbrev pub bytes_read : ℕ → History → List ℕ
bytes_read c [] = []
bytes_read c (Read n bytes ∷ older) = if nat_eq n c then bytes_read c older ++ bytes else bytes_read c older
bytes_read c (_ ∷ older) = bytes_read c older

-- the bytes that were put to a client
abbrev pub bytes_put : ℕ → History → List ℕ
bytes_put c [] = []
bytes_put c (Put n bytes ∷ older) = if nat_eq n c then bytes_put c older ++ bytes else bytes_put c older
bytes_put c (_ ∷ older) = bytes_put c older

-- ---- links
-- a link was lost
abbrev pub is_lost : ℕ → History → Bool
is_lost t [] = false
is_lost t (Detach n cause ∷ older) = nat_eq n t || is_lost t older
is_lost t (_ ∷ older) = is_lost t older

-- the bytes that were received from a link before it was lost
abbrev pub bytes_received : ℕ → History → List ℕ
bytes_received t [] = []
bytes_received t (Recv n bytes ∷ older) =
    if nat_eq n t && not (is_lost t older) then bytes_received t older ++ bytes else bytes_received t older
bytes_received t (_ ∷ older) = bytes_received t older

-- the bytes that were sent to a link
abbrev pub bytes_sent : ℕ → History → List ℕ
bytes_sent t [] = []
bytes_sent t (Send n bytes ∷ older) = if nat_eq n t then bytes_sent t older ++ bytes else bytes_sent t older
bytes_sent t (_ ∷ older) = bytes_sent t older

-- the packets that a link brought
abbrev pub brought : ℕ → History → List Packet
brought t h = (framed (bytes_received t h)).given

-- the packets that were sent to a link, whole
abbrev pub sent : ℕ → History → List Packet
sent t h = (framed (bytes_sent t h)).given
