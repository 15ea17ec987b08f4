-- Each promise of answers is broken by a history.
use Rattle.std.specs.Prelude.{ℕ, ◌≡◌, Bool, true, false, if◌then◌else◌, List, [], ◌∷◌, ◌++◌, Option, Some, None, codes, is_some, slice_get}
use Rattle.std.specs.Prelude.{zero, suc, nat_lt}
use Rattle.std.specs.Fmt.{digits}
use Rattle.std.proofs.Common.{refl, sym, ◌∙◌, ap, subst, inl, inr}
use Rattle.adb_outside.specs.Bytes.{IsPrefixOf}
use Rattle.adb_request.specs.Meaning.{meaning}
use Rattle.adb_wire.specs.Header.{word_at}
use Rattle.adb_banner.specs.Banner.{identity_of, last_value}
use Rattle.adb_history.specs.Births.{Birth, born, births}
use Rattle.adb_history.specs.Machine.{History}
use Rattle.adb_history.specs.Streams.{stream_ids}
use Rattle.adb_history.specs.Lives.{output_of}
use Rattle.adb_history.specs.Answered.{RepliesFirst, RepliesWhenBound, RepliesOfStream, ListsTracked, HasPresentList, SaysNothingMore}
use Rattle.adb_history.specs.Answered.{HasStreamAlone}
use Rattle.adb_history.specs.Answered.{is_heard, FollowsTold, FollowsOpen, AnswersOpen}
use Rattle.adb_history.specs.Broken.{stale_device_list, keeps_a_listener_secret, refuses_a_device, lists_too_early, misses_a_list}
use Rattle.adb_history.specs.Broken.{answers_after_close}
use Rattle.adb_history.specs.Broken.{hands_what_was_not_written, withholds_a_byte, withholds_until_loss, withholds_all}
use Rattle.adb_history.proofs.Refuted.{differ_at, differ_in_length}

pub replies_refuted : RepliesFirst stale_device_list 1 → ⊥
unfolding meaning word_at identity_of last_value
replies_refuted promise = differ_at 7 (codes "OKAY0000" ++ promise.handed.0) (output_of 1 stale_device_list) refl promise.handed.1

pub bound_reply_refuted : RepliesWhenBound keeps_a_listener_secret 1 → ⊥
unfolding meaning word_at identity_of last_value digits
bound_reply_refuted promise =
    differ_in_length [] (codes "OKAYOKAY000540000") refl (promise 1 0 (codes "tcp:80") true refl)

pub stream_reply_refuted : RepliesOfStream refuses_a_device 1 → ⊥
unfolding meaning word_at identity_of last_value
stream_reply_refuted promise =
    let behind = promise 1 (codes "shell:echo hi") refl in
    differ_at 0 (output_of 1 refuses_a_device) (codes "OKAY" ++ behind.after) refl behind.output

pub tracked_lists_refuted : ListsTracked lists_too_early 1 → ⊥
unfolding meaning word_at identity_of last_value
tracked_lists_refuted promise = differ_in_length (output_of 1 lists_too_early) (codes "OKAY0000") refl (promise false refl)

pub present_list_refuted : HasPresentList misses_a_list 1 → ⊥
unfolding meaning word_at identity_of last_value
present_list_refuted promise = differ_at 3 (codes "000cemu2" ++ 9 ∷ codes "device" ++ 10 ∷ []) (codes "0000") refl
    (promise false refl (refl, refl, refl))

pub nothing_more_refuted : SaysNothingMore answers_after_close 1 → ⊥
unfolding meaning
nothing_more_refuted promise = differ_in_length (codes "OKAY00040029OKAY00040029") (codes "OKAY00040029") refl (promise refl)

-- ---- a client that has a stream
-- the birth of the only stream
only_birth : (h : History) (b : Birth) → births h ≡ b ∷ [] → (l : ℕ) (birth : Birth) → born l h ≡ Some birth → (l ≡ 1) × (b ≡ birth)
only_birth h b one zero birth is = absurd (let clash : false ≡ true = ap is_some is in cc)
only_birth h b one (suc k) birth is = at_place k (subst (λ bs. (if nat_lt k stream_ids then slice_get bs k else None) ≡ Some birth) one is)
  where
    birth_or : Option Birth → Birth
    birth_or None = b
    birth_or (Some x) = x

    at_place : (k : ℕ) → (if nat_lt k stream_ids then slice_get (b ∷ []) k else None) ≡ Some birth → (suc k ≡ 1) × (b ≡ birth)
    at_place zero first = (refl, ap birth_or first)
    at_place (suc k) other = absurd (by_test (nat_lt (suc k) stream_ids) other)
      where
        by_test : (t : Bool) → (if t then slice_get (b ∷ []) (suc k) else None) ≡ Some birth → ⊥
        by_test true other = let clash : false ≡ true = ap is_some other in cc
        by_test false other = let clash : false ≡ true = ap is_some other in cc

-- what is said of the only stream
only_stream : (h : History) (b : Birth) → births h ≡ b ∷ [] → (P : ℕ → Birth → Type 0) (l : ℕ) (birth : Birth)
    → born l h ≡ Some birth → P l birth → P 1 b
only_stream h b one P l birth is holds =
    let only = only_birth h b one l birth is in
    subst (λ (x : Birth). P 1 x) (sym only.1) (subst (λ (m : ℕ). P m birth) only.0 holds)

-- the stream of the shell
abbrev shell : Birth
shell = record { client = 1; link = 1; credit = false; forwarded = false; service = codes "shell:echo hi"; head = 40; packets_before = 1 }

shell_follows : (after : List ℕ) → AnswersOpen withholds_a_byte 1 after → after ≡ codes "OKAYhi"
unfolding meaning word_at identity_of last_value
shell_follows after (inl (l, b, is, follows)) =
    let own : FollowsOpen true withholds_a_byte 1 shell after =
    only_stream withholds_a_byte shell refl
    (λ m x. FollowsOpen (is_heard m x withholds_a_byte) withholds_a_byte m x after) l b is.is follows in
    let whole : own.0 ≡ codes "hi" = own.2 in
    own.1 ∙ ap (λ (bytes : List ℕ). codes "OKAY" ++ bytes) whole
shell_follows after (inr (none, is)) = absurd (none 1 shell (record { is = refl; client = refl }))

pub stream_whole_refuted : RepliesOfStream withholds_a_byte 1 → ⊥
unfolding meaning word_at identity_of last_value
stream_whole_refuted promise =
    let behind = promise 1 (codes "shell:echo hi") refl in
    differ_in_length (codes "OKAYOKAYh") (codes "OKAYOKAYhi") refl
    (behind.output ∙ ap (λ (after : List ℕ). codes "OKAY" ++ after) (shell_follows behind.after behind.is))

shell_ends : (after : List ℕ) → AnswersOpen withholds_until_loss 1 after → (rest : List ℕ) × (after ≡ codes "OKAYhi" ++ rest)
unfolding meaning word_at identity_of last_value
shell_ends after (inl (l, b, is, follows)) =
    let own : FollowsOpen true withholds_until_loss 1 shell after =
    only_stream withholds_until_loss shell refl
    (λ m x. FollowsOpen (is_heard m x withholds_until_loss) withholds_until_loss m x after) l b is.is follows in
    let least : IsPrefixOf (codes "hi") own.0 = own.2.0 in
    (least.0, own.1 ∙ ap (λ (bytes : List ℕ). codes "OKAY" ++ bytes) (sym least.1))
shell_ends after (inr (none, is)) = absurd (none 1 shell (record { is = refl; client = refl }))

pub stream_at_end_refuted : RepliesOfStream withholds_until_loss 1 → ⊥
unfolding meaning word_at identity_of last_value
stream_at_end_refuted promise =
    let behind = promise 1 (codes "shell:echo hi") refl in
    let ends = shell_ends behind.after behind.is in
    differ_at 9 (codes "OKAYOKAYh") (codes "OKAYOKAYhi" ++ ends.0) refl
    (behind.output ∙ ap (λ (after : List ℕ). codes "OKAY" ++ after) ends.1)

-- the stream through the forward
abbrev forwarded : Birth
forwarded = record { client = 2; link = 1; credit = false; forwarded = true; service = codes "tcp:80"; head = 0; packets_before = 1 }

pub stream_alone_refuted : HasStreamAlone hands_what_was_not_written 2 → ⊥
unfolding meaning word_at identity_of last_value digits
stream_alone_refuted (inl (l, b, is, follows)) =
    differ_in_length (codes "x") [] refl
    (only_stream hands_what_was_not_written forwarded refl
    (λ m x. FollowsTold hands_what_was_not_written m x (codes "x")) l b is.is follows)
stream_alone_refuted (inr (none, is)) = none 1 forwarded (record { is = refl; client = refl })

pub alone_whole_refuted : HasStreamAlone withholds_all 2 → ⊥
unfolding meaning word_at identity_of last_value digits
alone_whole_refuted (inl (l, b, is, follows)) =
    differ_in_length [] (codes "hi") refl
    (only_stream withholds_all forwarded refl (λ m x. FollowsTold withholds_all m x (let none : List ℕ = [] in none)) l b is.is follows)
alone_whole_refuted (inr (none, is)) = none 1 forwarded (record { is = refl; client = refl })
