-- Worked exchanges with a sync service, computed from the definitions.
use Rattle.std.specs.Prelude.{ℕ, ◌≡◌, true, false, List, [], ◌∷◌, ◌++◌, codes, refl}
use Rattle.adb_files.specs.Entries.{Entry}
use Rattle.adb_files.specs.Served.{served}

abbrev number : ℕ → List ℕ
number n = n ∷ 0 ∷ 0 ∷ 0 ∷ []

-- `/a` is empty, of the mode 33,188 and the time 1
abbrev one_file : List Entry
one_file = record { path = codes "/a"; file = record { mode = 33188; mtime = 1; bytes = [] } } ∷ []

-- `/n` with one byte, as a push of the mode 420 and the time 5 leaves it
abbrev pushed : List Entry
pushed = one_file ++ record { path = codes "/n"; file = record { mode = 33188; mtime = 5; bytes = codes "x" } } ∷ []

abbrev push : List ℕ
push = codes "SEND" ++ number 6 ++ codes "/n,420" ++ codes "DATA" ++ number 1 ++ codes "x"

-- a STAT
stat : served one_file (codes "STAT" ++ number 2 ++ codes "/a") ≡ record
    { files = one_file; answer = codes "STAT" ++ 164 ∷ 129 ∷ 0 ∷ 0 ∷ number 0 ++ number 1; ended = false }
stat = refl

-- an unknown request ends the service
unknown : served one_file (codes "STA2" ++ number 2 ++ codes "/a") ≡ record
    { files = one_file; answer = codes "FAIL" ++ number 20 ++ codes "unknown sync request"; ended = true }
unknown = refl

-- what follows a QUIT is dropped
quit : served one_file (codes "QUIT" ++ number 0 ++ codes "STAT" ++ number 2 ++ codes "/a")
    ≡ record { files = one_file; answer = []; ended = true }
quit = refl

-- a push changes nothing before its DONE
open_push : served one_file push ≡ record { files = one_file; answer = []; ended = false }
open_push = refl

whole_push : served one_file (push ++ codes "DONE" ++ number 5)
    ≡ record { files = pushed; answer = codes "OKAY" ++ number 0; ended = false }
whole_push = refl

-- a push below a file
refused_push : served one_file (codes "SEND" ++ number 8 ++ codes "/a/b,420" ++ codes "DONE" ++ number 5) ≡ record
    { files = one_file; answer = codes "FAIL" ++ number 15 ++ codes "not a directory"; ended = false }
refused_push = refl

-- a pull
pull : served pushed (codes "RECV" ++ number 2 ++ codes "/n") ≡ record
    { files = pushed; answer = codes "DATA" ++ number 1 ++ codes "x" ++ codes "DONE" ++ number 0; ended = false }
pull = refl
