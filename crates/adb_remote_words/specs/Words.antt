-- What a client tool writes (OVERVIEW.TXT, SERVICES.TXT, SYNC.TXT).
use Rattle.std.specs.Prelude.{ℕ, zero, suc, ◌+◌, ◌≤◌, if◌then◌else◌, Bool, List, [], ◌++◌, length, drop, Option, Some, None, codes}
use Rattle.adb_request.specs.Requests.{hex_digits}
use Rattle.adb_shell.specs.Packets.{spelling}
use Rattle.adb_sync_client.specs.Texts.{push_text, pull_text}
use Rattle.adb_remote_frames.specs.Heads.{is_front}
use Rattle.adb_remote_words.specs.declared.remote.Remote.{Remote}
use Rattle.adb_remote_words.specs.declared.remote.Remote.TheVariants.{Devices, Push, Pull, Shell, Wait}
use Rattle.adb_remote_words.specs.declared.words.TheConstants.{FILE_MODE, MAX_WORD}

-- four hexadecimal digits of length, and a text
abbrev pub request_of : List ℕ → List ℕ
request_of text = hex_digits (length text) ++ text

-- the request that selects the device of a serial, or any
abbrev pub transport_of : Option (List ℕ) → List ℕ
transport_of None = request_of (codes "host:transport-any")
transport_of (Some serial) = request_of (codes "host:transport:" ++ serial)

-- the first request of a job
abbrev pub first_word : Remote → Option (List ℕ) → List ℕ
first_word Devices on = request_of (codes "host:devices")
first_word (Wait serial state) on = request_of (codes "host:track-devices")
first_word (Push path mtime bytes) on = transport_of on
first_word (Pull path) on = transport_of on
first_word (Shell command) on = transport_of on

-- the request for a service that follows the first OKAY
abbrev pub second_word : Remote → List ℕ
second_word Devices = []
second_word (Wait serial state) = []
second_word (Push path mtime bytes) = request_of (codes "sync:")
second_word (Pull path) = request_of (codes "sync:")
second_word (Shell command) = request_of (codes "shell,v2,raw:" ++ command)

-- what is written to the service behind the second OKAY: the request for a file, or that no input comes
abbrev pub third_word : Remote → List ℕ
third_word Devices = []
third_word (Wait serial state) = []
third_word (Push path mtime bytes) = push_text path FILE_MODE mtime bytes
third_word (Pull path) = pull_text path
third_word (Shell command) = spelling (record { id = 4; bytes = [] })

abbrev pub word : Remote → Option (List ℕ) → ℕ → List ℕ
word job on zero = first_word job on
word job on (suc zero) = second_word job
word job on (suc (suc zero)) = third_word job
word job on (suc (suc (suc n))) = []

-- the words of a job up to one that is due behind so many OKAYs
abbrev pub words_to : Remote → Option (List ℕ) → ℕ → List ℕ
words_to job on zero = word job on zero
words_to job on (suc n) = words_to job on n ++ word job on (suc n)

-- how many requests a job makes
abbrev pub requests : Remote → ℕ
requests Devices = 1
requests (Wait serial state) = 1
requests (Push path mtime bytes) = 2
requests (Pull path) = 2
requests (Shell command) = 2

abbrev pub begins_okay : List ℕ → Bool
begins_okay bytes = is_front (codes "OKAY") bytes

-- how many OKAYs, at most so many, an answer begins with
abbrev pub okays_at : ℕ → List ℕ → ℕ
okays_at zero answer = 0
okays_at (suc n) answer = if begins_okay answer then 1 + okays_at n (drop 4 answer) else 0

-- what a tool writes where the bytes of the answer so far are these
abbrev pub client_words : Remote → Option (List ℕ) → List ℕ → List ℕ
client_words job on answer = words_to job on (okays_at (requests job) answer)

-- a path or a command is short enough
abbrev pub HasWords : Remote → Type 0
HasWords Devices = Unit {0}
HasWords (Wait serial state) = Unit {0}
HasWords (Push path mtime bytes) = length path ≤ MAX_WORD
HasWords (Pull path) = length path ≤ MAX_WORD
HasWords (Shell command) = length command ≤ MAX_WORD
