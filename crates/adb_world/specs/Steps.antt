-- How many steps a world makes at most until it settles.
use Rattle.std.specs.Prelude.{ℕ, ◌+◌, ◌*◌, List, [], ◌∷◌, length}
use Rattle.adb_world.specs.Session.{text_of}
use Rattle.adb_world.specs.declared.session.Session.{Session}

-- the bytes of the services of some sessions, of their texts, and of what they were handed
abbrev pub bytes_of_all : List (ℕ × Session) → ℕ
bytes_of_all [] = 0
bytes_of_all (entry ∷ sessions) = length entry.1.service + length (text_of entry.1) + length entry.1.got + bytes_of_all sessions

-- 64 for each of these bytes, and for 16 a session and 16 more
abbrev pub most_steps : List (ℕ × Session) → ℕ
most_steps sessions = 64 * (bytes_of_all sessions + 16 * length sessions + 16)
