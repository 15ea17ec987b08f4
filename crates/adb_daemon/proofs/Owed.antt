-- The bytes of what became due.
use Rattle.std.specs.Prelude.{ℕ, ◌≡◌, List, [], ◌∷◌, ◌++◌}
use Rattle.std.proofs.Common.{refl, ◌∙◌, ap}
use Rattle.std.proofs.lemmas.List.{append-nil}
use Rattle.std.proofs.lemmas.List.Concat.{flat_map-append}
use Rattle.std.proofs.lemmas.List.Folds.{flat_map-map}
use Rattle.adb_device_streams.specs.Stream.{Row, writes, writes_bytes, wrte, row_past, row_past_all, row_written}
use Rattle.adb_device_streams.specs.declared.link.Link.{Link}
use Rattle.adb_daemon.specs.Serving.{Sent, with_sum, bytes_of, sent_bytes, sent_writes}

pub bytes_more : (made more : List Sent) → sent_bytes (made ++ more) ≡ sent_bytes made ++ sent_bytes more
bytes_more made more = flat_map-append bytes_of made more

-- one packet more
pub bytes_one : (made : List Sent) (one : Sent) → sent_bytes (made ++ one ∷ []) ≡ sent_bytes made ++ bytes_of one
bytes_one made one = bytes_more made (one ∷ []) ∙ ap (λ (l : List ℕ). sent_bytes made ++ l) (append-nil (bytes_of one))

pub writes_are : (link : Link) (own : ℕ) (row : Row) → sent_bytes (sent_writes link own row)
    ≡ writes_bytes link.sums own row.host (writes link.most row)
writes_are link own row = flat_map-map bytes_of (λ payload. with_sum link.sums (wrte own row.host payload)) (writes link.most row)

-- a stream past its writes keeps the host's id
past_host : (payloads : List (List ℕ)) (row : Row) → (row_past_all payloads row).host ≡ row.host
past_host [] row = refl
past_host (payload ∷ more) row = past_host more (row_past payload row)

pub written_host : (most : ℕ) (row : Row) → (row_written most row).host ≡ row.host
written_host most row = past_host (writes most row) row
