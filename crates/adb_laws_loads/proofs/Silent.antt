-- From a link that is not plugged in, nothing is received in a load.
use Rattle.std.proofs.Common.{ℕ, ◌+◌, ◌≡◌, ◌≢◌, ◌<◌, ◌≤◌, ◌⊎◌, inl, inr, Bool, cond, List, [], ◌∷◌, ◌++◌, refl, ◌∙◌, ap, arith}
use Rattle.std.specs.Prelude.{not, ◌&&◌}
use Rattle.std.proofs.lemmas.Bool.{ne_eqb}
use Rattle.adb_capture.specs.declared.entry.Entry.TheVariants.{Recv}
use Rattle.adb_history.specs.Machine.{History}
use Rattle.adb_history.specs.Bytes.{is_lost, bytes_received}
use Rattle.adb_load.specs.declared.act.Act.{Act}
use Rattle.adb_load.specs.declared.act.Act.TheVariants.{Plug, Come, Ask, Write, Answer, Leave, Close}
use Rattle.adb_load.specs.declared.act.Piece.TheVariants.{Whole, Head}
use Rattle.adb_load.specs.Acts.{link_of, entry_of, acts_from}
use Rattle.adb_laws_loads.proofs.Links.{past_of, past_then}
use Rattle.adb_laws_loads.proofs.Online.{PlugsNext, plugged_after}

-- An act that begins a turn, and the device of its stream is one of so many.
abbrev pub IsPluggedIn : (count : ℕ) → Act → Type 0
IsPluggedIn count (Plug link) = Unit {0}
IsPluggedIn count (Come stream) = link_of stream ≤ count
IsPluggedIn count (Write stream from size) = link_of stream ≤ count
IsPluggedIn count (Answer stream from size Whole) = link_of stream ≤ count
IsPluggedIn count (Answer stream from size Head) = link_of stream ≤ count
IsPluggedIn count (Leave stream) = Unit {0}
IsPluggedIn count (Close stream) = link_of stream ≤ count
IsPluggedIn count _ = ⊥

-- a link is none of so many
abbrev pub IsBeyond : (count t : ℕ) → Type 0
IsBeyond count t = (t ≡ 0) ⊎ (count < t)

other_link : (count t stream : ℕ) → IsBeyond count t → link_of stream ≤ count → link_of stream ≢ t
other_link count t stream (inl zeroth) le = λ is. omega (arith, zeroth, is)
other_link count t stream (inr past) le = λ is. omega (arith, past, le, is)

next_link : (count t link : ℕ) → IsBeyond (count + 1) t → link ≡ count + 1 → link ≢ t
next_link count t link (inl zeroth) next = λ is. omega (arith, zeroth, next, is)
next_link count t link (inr past) next = λ is. omega (arith, past, next, is)

-- Nothing was received from the links beyond so many.
abbrev pub IsSilent : (count : ℕ) → List Act → Type 0
IsSilent count done = (t : ℕ) → IsBeyond count t → bytes_received t (past_of done) ≡ []

-- what another link brings
elsewhere : (t link : ℕ) (bytes : List ℕ) (h : History) → link ≢ t → bytes_received t (Recv link bytes ∷ h) ≡ bytes_received t h
elsewhere t link bytes h apart =
    ap (λ (here : Bool). cond (here && not (is_lost t h)) (bytes_received t h ++ bytes) (bytes_received t h)) (ne_eqb link t apart)

module _ (count : ℕ) (done : List Act) (silent : IsSilent count done) where
  -- after some acts that bring nothing on these links
  still : (count' : ℕ) (acts : List Act)
      → ((t : ℕ) → IsBeyond count' t
      → (bytes_received t (past_of acts ++ past_of done) ≡ bytes_received t (past_of done)) × IsBeyond count t)
      → IsSilent count' (done ++ acts)
  still count' acts same t beyond =
      ap (bytes_received t) (past_then done acts) ∙ ((same t beyond).0 ∙ silent t (same t beyond).1)

  -- nothing comes on any link
  quiet : (acts : List Act)
      → ((t : ℕ) → bytes_received t (past_of acts ++ past_of done) ≡ bytes_received t (past_of done))
      → IsSilent count (done ++ acts)
  quiet acts same = still count acts (λ t beyond. (same t, beyond))

  -- all that comes is of the device of a stream
  on_stream : (stream : ℕ) (acts : List Act) → link_of stream ≤ count
      → ((t : ℕ) → link_of stream ≢ t → bytes_received t (past_of acts ++ past_of done)
      ≡ bytes_received t (past_of done)) → IsSilent count (done ++ acts)
  on_stream stream acts le same = still count acts (λ t beyond. (same t (other_link count t stream beyond le), beyond))

  -- a device is plugged in and says who it is
  plug_silent : (link : ℕ) → link ≡ count + 1 → IsSilent (count + 1) (done ++ acts_from (Plug link))
  plug_silent link next =
      still (count + 1) (acts_from (Plug link))
      (λ t beyond. (elsewhere t link _ (entry_of (Plug link) ∷ past_of done) (next_link count t link beyond next), weaker t beyond))
    where
      weaker : (t : ℕ) → IsBeyond (count + 1) t → IsBeyond count t
      weaker t (inl zeroth) = inl zeroth
      weaker t (inr past) = inr (omega (arith, past))

  -- after the acts of one more turn
  pub turn_silent : (a : Act) → IsPluggedIn count a → PlugsNext count a → IsSilent (plugged_after count a) (done ++ acts_from a)
  turn_silent (Plug link) le next = plug_silent link next
  turn_silent (Come stream) le next = on_stream stream (acts_from (Come stream)) le
      (λ t apart. elsewhere t (link_of stream) _ (entry_of (Ask stream) ∷ entry_of (Come stream) ∷ past_of done) apart)
  turn_silent (Write stream from size) le next = on_stream stream (acts_from (Write stream from size)) le
      (λ t apart. elsewhere t (link_of stream) _ (entry_of (Write stream from size) ∷ past_of done) apart)
  turn_silent (Answer stream from size Whole) le next = on_stream stream (acts_from (Answer stream from size Whole)) le
      (λ t apart. elsewhere t (link_of stream) _ (past_of done) apart)
  turn_silent (Answer stream from size Head) le next = on_stream stream (acts_from (Answer stream from size Head)) le
      (λ t apart. elsewhere t (link_of stream) _ (entry_of (Answer stream from size Head) ∷ past_of done) apart
      ∙ elsewhere t (link_of stream) _ (past_of done) apart)
  turn_silent (Leave stream) le next = quiet (acts_from (Leave stream)) (λ t. refl)
  turn_silent (Close stream) le next = on_stream stream (acts_from (Close stream)) le
      (λ t apart. elsewhere t (link_of stream) _ (past_of done) apart)
  turn_silent _ le next = absurd le
