-- The form of a path on the device, and the order of paths by their bytes.
use Rattle.std.specs.Prelude.{ℕ, ◌==◌, ◌&&◌, ◌||◌, if◌then◌else◌, Bool, not, List, ◌++◌, length, drop, codes, bytes_eq, nat_eq}
use Rattle.std.specs.declared.cmp.Ordering.{Ordering}
use Rattle.std.specs.Ordering.{nat_cmp}
use Rattle.std.specs.Cmp.Lexicographic.{slice_cmp}
use Rattle.std.specs.List.{slice_split, list_any, list_all, starts_with}

-- the order of paths and of names, by their bytes
abbrev pub path_cmp : List ℕ → List ℕ → Ordering
path_cmp = slice_cmp nat_cmp

-- A name is not empty, not `.` and not `..`, and has no NUL. What stands between slashes has no slash.
abbrev pub is_name : List ℕ → Bool
is_name name =
    not (length name == 0) && not (bytes_eq name (codes ".")) && not (bytes_eq name (codes ".."))
    && not (list_any (λ byte. byte == 0) name)

-- the parts of a path between its slashes, past the first one
abbrev pub parts_of : List ℕ → List (List ℕ)
parts_of path = slice_split (λ byte. byte == 47) (drop 1 path)

-- a path is `/`, or one or more parts of a slash and a name
abbrev pub is_path : List ℕ → Bool
is_path path =
    bytes_eq path (codes "/") || (starts_with nat_eq path (codes "/") && list_all is_name (parts_of path))

-- what follows a directory's path where one below it goes on: the path of the root ends with its slash
abbrev pub slash_behind : List ℕ → List ℕ
slash_behind directory = if bytes_eq directory (codes "/") then codes "" else codes "/"

-- what every path below a directory begins with
abbrev pub inside : List ℕ → List ℕ
inside directory = directory ++ slash_behind directory

-- whether a path lies below a directory
abbrev pub is_below : List ℕ → List ℕ → Bool
is_below directory path = starts_with nat_eq path (inside directory)
