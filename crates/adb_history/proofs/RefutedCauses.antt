-- Each promise of causes is broken by a history.
use Rattle.std.specs.Prelude.{◌≡◌, Bool, true, false, [], ◌∷◌, Option, Some, None, codes, is_some}
use Rattle.std.proofs.Common.{refl, sym, ◌∙◌, ap, subst}
use Rattle.adb_request.specs.Meaning.{meaning}
use Rattle.adb_wire.specs.Header.{word_at}
use Rattle.adb_banner.specs.Banner.{identity_of, last_value}
use Rattle.adb_outside.specs.declared.kinds.Cause.TheVariants.{Fault}
use Rattle.adb_capture.specs.declared.entry.Entry.{Entry}
use Rattle.adb_capture.specs.declared.entry.Entry.TheVariants.{Join}
use Rattle.adb_history.specs.Machine.{History}
use Rattle.adb_history.specs.Births.{Birth, born}
use Rattle.adb_history.specs.Causes.{EndsByClient, EndsByPeer, EndsOutOfTurn, EndsByLoss, EndsByBreak, EndsByFailure, EndsByStop}
use Rattle.adb_history.specs.Causes.{HasNoOtherCause}
use Rattle.adb_history.specs.Causes.{peer_closes, writes_early, loses_link, breaks_link, IsDone}
use Rattle.adb_history.specs.Broken.{ends_with_a_write_outstanding, ends_without_a_close, ends_in_turn}
use Rattle.adb_history.specs.Broken.{ends_with_a_link_that_stays, ends_with_a_link_unbroken, ends_unborn_with_its_client}
use Rattle.adb_history.specs.Broken.{ends_unborn_with_the_server, outlives_its_client}
use Rattle.adb_history.proofs.Refuted.{not_below}

-- the stream of the open shell
abbrev shell : Birth
shell = record { client = 1; link = 1; credit = false; forwarded = false; service = codes "shell:echo hi"; head = 40; packets_before = 1 }

-- the last entry of a history, and those before it
abbrev newest : History → Entry
newest [] = Join 0
newest (e ∷ older) = e

abbrev earlier : History → History
earlier [] = []
earlier (e ∷ older) = older

abbrev birth_or : Option Birth → Birth
birth_or None = shell
birth_or (Some b) = b

not_both : (x : Bool) → x ≡ false → x ≡ true → ⊥
not_both x no_cause cause = let clash : true ≡ false = sym cause ∙ no_cause in cc

-- a stream that ends by the last entry of a history was the shell, but that is no cause of it
refuted_by : (test : Birth → Bool) (birth : Birth) → shell ≡ birth → test birth ≡ true → test shell ≡ false → ⊥
refuted_by test birth same cause no_cause = not_both (test shell) no_cause (ap test same ∙ cause)

never_born : (o : Option Birth) (birth : Birth) → o ≡ None → o ≡ Some birth → ⊥
never_born o birth none is = let clash : false ≡ true = ap is_some (sym none ∙ is) in cc

pub by_client_refuted : EndsByClient ends_with_a_write_outstanding → ⊥
unfolding meaning word_at identity_of last_value
by_client_refuted promise =
    let ends = promise 1 (newest ends_with_a_write_outstanding) (earlier ends_with_a_write_outstanding) ([], refl) refl in
    not_below 1 0 refl
    (subst (λ (b : Birth). IsDone b.credit 1 b ends_with_a_write_outstanding) (sym (ap birth_or ends.is)) ends.cause.done)

pub by_peer_refuted : EndsByPeer ends_without_a_close → ⊥
unfolding meaning word_at identity_of last_value
by_peer_refuted promise =
    let ends = promise 1 (newest ends_without_a_close) (earlier ends_without_a_close) ([], refl) refl in
    refuted_by (λ b. peer_closes 1 b (newest ends_without_a_close) (earlier ends_without_a_close)) ends.birth
    (ap birth_or ends.is) ends.cause refl

pub out_of_turn_refuted : EndsOutOfTurn ends_in_turn → ⊥
unfolding meaning word_at identity_of last_value
out_of_turn_refuted promise =
    let ends = promise 1 (newest ends_in_turn) (earlier ends_in_turn) ([], refl) refl in
    refuted_by (λ b. writes_early 1 b (newest ends_in_turn) (earlier ends_in_turn)) ends.birth (ap birth_or ends.is) ends.cause refl

pub lost_refuted : EndsByLoss ends_with_a_link_that_stays → ⊥
unfolding meaning word_at identity_of last_value
lost_refuted promise =
    let ends = promise 1 (newest ends_with_a_link_that_stays) (earlier ends_with_a_link_that_stays) ([], refl) refl in
    refuted_by (λ b. loses_link b (newest ends_with_a_link_that_stays) (earlier ends_with_a_link_that_stays))
    ends.birth (ap birth_or ends.is) ends.cause refl

pub broken_refuted : EndsByBreak ends_with_a_link_unbroken → ⊥
unfolding meaning word_at identity_of last_value
broken_refuted promise =
    let ends = promise 1 (newest ends_with_a_link_unbroken) (earlier ends_with_a_link_unbroken) ([], refl) refl in
    refuted_by (λ b. breaks_link b (newest ends_with_a_link_unbroken) (earlier ends_with_a_link_unbroken)) ends.birth
    (ap birth_or ends.is) ends.cause refl

pub failed_refuted : EndsByFailure ends_unborn_with_its_client → ⊥
unfolding meaning word_at identity_of last_value
failed_refuted promise =
    let ends = promise Fault 1 (newest ends_unborn_with_its_client) (earlier ends_unborn_with_its_client) ([], refl) refl in
    never_born (born 1 (earlier ends_unborn_with_its_client)) ends.birth refl ends.is

pub stopped_refuted : EndsByStop ends_unborn_with_the_server → ⊥
unfolding meaning word_at identity_of last_value
stopped_refuted promise =
    let ends = promise 1 (newest ends_unborn_with_the_server) (earlier ends_unborn_with_the_server) ([], refl) refl in
    never_born (born 1 (earlier ends_unborn_with_the_server)) ends.birth refl ends.is

pub no_other_refuted : HasNoOtherCause outlives_its_client → ⊥
unfolding meaning word_at identity_of last_value
no_other_refuted promise =
    not_both true (promise 1 shell (newest outlives_its_client) (earlier outlives_its_client) ([], refl) refl refl) refl
