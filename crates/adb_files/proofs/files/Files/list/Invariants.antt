use Rattle.std.proofs.Common.{◌≡◌, ◌++◌, map}
use Rattle.adb_files.specs.Listing.{dirent_of, named, listing}
use Rattle.adb_files.proofs.files.Files.list.Given as goal

abbrev pub invariant-loop-name : goal.invariant-loop-name
invariant-loop-name l =
    l.entries.items ++ map dirent_of (named l.name-iterator) ≡ listing l.path l.self
