-- What is found, byte by byte.
use Rattle.std.proofs.Common.{ℕ, suc, ◌+◌, ◌≡◌, ◌<◌, ◌≤◌, List, [], ◌∷◌, ◌++◌, length, take, drop, sym, ◌∙◌, ap, arith}
use Rattle.std.specs.Prelude.{get_or}
use Rattle.std.proofs.Math.Seq.{take-suc, drop-cons}
use Rattle.std.proofs.lemmas.List.{length-take, length-drop, drop_all}
use Rattle.adb_outside.specs.declared.framer.Front.TheVariants.{More, Bad}
use Rattle.adb_outside.specs.Framing.{offset_past}
use Rattle.adb_remote_frames.specs.declared.head.Awaited.{Awaited}
use Rattle.adb_remote_frames.specs.declared.head.Head.{Head}
use Rattle.adb_remote_frames.specs.declared.head.Head.TheVariants.{Short, Stray, Says}
use Rattle.adb_remote_frames.specs.Heads.{head, whole_of, by_head, found_behind, found}

-- all first bytes up to a place are short
abbrev pub ShortUpTo : Awaited → ℕ → List ℕ → ℕ → Type 0
ShortUpTo kind offset bytes i = found kind offset bytes ≡ found_behind kind offset (take i bytes) (drop i bytes)

-- what is found behind a place by the first bytes up to there
pub found_next : (kind : Awaited) (offset : ℕ) (bytes : List ℕ) (i : ℕ) → i < length bytes
    → found_behind kind offset (take i bytes) (drop i bytes)
    ≡ by_head offset i (length bytes) (head kind (take (i + 1) bytes)) (found_behind kind offset (take (i + 1) bytes) (drop (i + 1) bytes))
found_next kind offset bytes i within =
    let byte = get_or bytes i 0 in
    let rest = drop (suc i) bytes in
    let cut : drop i bytes ≡ byte ∷ rest = drop-cons bytes i 0 (omega (arith, within)) in
    let one : suc i ≡ i + 1 = omega arith in
    let grown : take i bytes ++ byte ∷ [] ≡ take (i + 1) bytes =
    sym (take-suc bytes i 0 (omega (arith, within))) ∙ ap (λ k. take k bytes) one in
    let size : length (take i bytes) ≡ i = omega (arith, within, length-take i bytes) in
    let all : length (take i bytes) + suc (length rest) ≡ length bytes = omega (arith, within, size, length-drop (suc i) bytes) in
    ap (found_behind kind offset (take i bytes)) cut
    ∙ (λ j. by_head offset (size j) (all j) (head kind (grown j)) (found_behind kind offset (grown j) (drop (one j) bytes)))

module _ (kind : Awaited) (offset : ℕ) (bytes : List ℕ) (i : ℕ) (within : i < length bytes) (short : ShortUpTo kind offset bytes i) where
  said : (h : Head) → head kind (take (i + 1) bytes) ≡ h
      → found kind offset bytes ≡ by_head offset i (length bytes) h (found_behind kind offset (take (i + 1) bytes) (drop (i + 1) bytes))
  said h is =
      short ∙ (found_next kind offset bytes i within
      ∙ ap (λ h. by_head offset i (length bytes) h (found_behind kind offset (take (i + 1) bytes) (drop (i + 1) bytes))) is)

  pub stray_here : head kind (take (i + 1) bytes) ≡ Stray → found kind offset bytes ≡ Bad (offset_past offset i)
  stray_here is = said Stray is

  pub whole_here : (len : ℕ) → head kind (take (i + 1) bytes) ≡ Says len → found kind offset bytes ≡ whole_of (length bytes) len
  whole_here len is = said (Says len) is

  pub short_here : head kind (take (i + 1) bytes) ≡ Short → ShortUpTo kind offset bytes (i + 1)
  short_here is = said Short is

pub all_short : (kind : Awaited) (offset : ℕ) (bytes : List ℕ) (i : ℕ) → length bytes ≤ i
    → ShortUpTo kind offset bytes i → found kind offset bytes ≡ More
all_short kind offset bytes i past short = short ∙ ap (found_behind kind offset (take i bytes)) (drop_all i bytes (omega (arith, past)))
