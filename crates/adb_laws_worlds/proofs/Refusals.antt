-- A model device refuses no stream that it opened.
use Rattle.std.specs.Prelude.{ℕ, ◌+◌, ◌≡◌, ◌≢◌, ◌<◌, ◌≤◌, ◌&&◌, Bool, true, cond, nat_eq, All, List, [], ◌∷◌, ◌++◌}
use Rattle.std.proofs.Common.{zero, suc, refl, sym, ◌∙◌, ap, subst, arith}
use Rattle.std.proofs.lemmas.Bool.{eqb-true}
use Rattle.std.proofs.lemmas.List.{append-nil}
use Rattle.std.proofs.lemmas.List.Elements.{All-nil, All-head, All-tail}
use Rattle.adb_wire.specs.declared.command.Command.{Command}
use Rattle.adb_wire.specs.declared.command.Command.TheVariants.{Clse}
use Rattle.adb_wire.specs.declared.packets.Packet.{Packet}
use Rattle.adb_history.specs.Births.{count_from, is_open, is_clse}
use Rattle.adb_device_streams.specs.Stream.{opened, okay, opening_word}
use Rattle.adb_daemon.specs.Serving.{Serving, Sent, with_sum, credit_of}
use Rattle.adb_daemon.specs.Device.{Device, Setting, step, first_device, device_behind}
use Rattle.adb_daemon.proofs.Machines.{step_more}
use Rattle.adb_laws_births.proofs.Once.{count_append}
use Rattle.adb_laws_model_device.specs.Counts.{how_many}
use Rattle.adb_laws_model_device.proofs.Counts.{many_append, count_first, count_one}
use Rattle.adb_laws_model_device.specs.Opened.{is_of_stream}
use Rattle.adb_laws_model_device.specs.Owed.{packets_of_sent, packets_owed}
use Rattle.adb_laws_model_device.specs.Rows.{is_close_between}
use Rattle.adb_laws_model_device.proofs.Owing.{sent_append}
use Rattle.adb_laws_worlds.proofs.Drawing.{Found, found, begun_by}
use Rattle.adb_laws_worlds.proofs.Splits.{none_from}
use Rattle.adb_laws_worlds.proofs.Unasked.{FromOk, IsFromOk, settled_else, all_else, NotTo, IsUnasked, behind_unasked}

-- packets of streams that go to an id, but from no such id as this
module _ (l : ℕ) where
  -- none of them refuses it, where they come from one that is not 0
  from_closes : (n : ℕ) → n ≢ 0 → (made : List Sent) → All (λ (one : Sent). FromOk l (λ (m : ℕ). m ≡ n) [] one.packet) made
      → how_many (is_close_between 0 l) (packets_of_sent made) ≡ 0
  from_closes n some [] all = refl
  from_closes n some (one ∷ made) all =
      by one.packet.command refl (nat_eq one.packet.arg0 0) refl (nat_eq one.packet.arg1 l) refl
      (from_closes n some made (All-tail (λ (one : Sent). FromOk l (λ (m : ℕ). m ≡ n) [] one.packet) one made all))
    where
      here : one.packet.command ≡ Clse → one.packet.arg0 ≡ 0 → one.packet.arg1 ≡ l → ⊥
      here c zeroth to =
          some (sym (All-head (λ (one : Sent). FromOk l (λ (m : ℕ). m ≡ n) [] one.packet) one made all (ap is_of_stream c) to) ∙ zeroth)

      by : (c : Command) → one.packet.command ≡ c → (a : Bool) → nat_eq one.packet.arg0 0 ≡ a → (b : Bool) → nat_eq one.packet.arg1 l ≡ b
          → how_many (is_close_between 0 l) (packets_of_sent made) ≡ 0
          → cond (is_clse c && (a && b)) (1 + how_many (is_close_between 0 l) (packets_of_sent made))
          (how_many (is_close_between 0 l) (packets_of_sent made)) ≡ 0
      by Clse c true e true f none = absurd (here c (eqb-true one.packet.arg0 0 e) (eqb-true one.packet.arg1 l f))
      by _ c _ e _ f none = none

  else_none : (made : List Sent) → All (λ (one : Sent). NotTo l one.packet) made
      → how_many (is_close_between 0 l) (packets_of_sent made) ≡ 0
  else_none [] all = refl
  else_none (one ∷ made) all =
      by one.packet.command refl (nat_eq one.packet.arg0 0) (nat_eq one.packet.arg1 l) refl
      (else_none made (All-tail (λ (one : Sent). NotTo l one.packet) one made all))
    where
      by : (c : Command) → one.packet.command ≡ c → (a b : Bool) → nat_eq one.packet.arg1 l ≡ b
          → how_many (is_close_between 0 l) (packets_of_sent made) ≡ 0
          → cond (is_clse c && (a && b)) (1 + how_many (is_close_between 0 l) (packets_of_sent made))
          (how_many (is_close_between 0 l) (packets_of_sent made)) ≡ 0
      by Clse c true true f none =
          absurd (All-head (λ (one : Sent). NotTo l one.packet) one made all (ap is_of_stream c) (eqb-true one.packet.arg1 l f))
      by _ c _ _ f none = none

module _ (setting : Setting) (own : ℕ) (some : own ≢ 0) (packets : List Packet) (f : Found setting own (first_device setting) packets)
    (once : count_from is_open f.asking.arg0 packets ≤ 1) where
  -- the OPEN is the only one
  one : count_from is_open f.asking.arg0 (f.asking ∷ []) ≡ 1
  one = count_one is_open f.asking.arg0 f.asking (ap is_open f.drawing.command) refl

  others : (count_from is_open f.asking.arg0 f.front ≡ 0) × (count_from is_open f.asking.arg0 f.rest ≡ 0)
  others =
      let whole : count_from is_open f.asking.arg0 (f.front ++ f.asking ∷ f.rest) ≡ count_from is_open f.asking.arg0 packets =
      ap (count_from is_open f.asking.arg0) f.is in
      let sum = count_append is_open f.asking.arg0 f.front (f.asking ∷ f.rest) in
      let first = count_first is_open f.asking.arg0 f.asking f.rest in
      let single = one in
      let most = once in (
        none_of (count_from is_open f.asking.arg0 f.front) (omega (arith, whole, sum, first, single, most)),
        none_of (count_from is_open f.asking.arg0 f.rest) (omega (arith, whole, sum, first, single, most)),
      )
    where
      none_of : (n : ℕ) → n ≤ 0 → n ≡ 0
      none_of n le = omega (arith, le)

  before : IsUnasked f.asking.arg0 (device_behind setting f.front).serving
  before = behind_unasked f.asking.arg0 setting f.front others.0

  abbrev hello : List Sent
  hello = with_sum f.drawing.link.sums
      (okay ((device_behind setting f.front).serving.drawn + 1) f.asking.arg0 (opening_word (credit_of f.drawing.link f.asking))) ∷ []

  abbrev base : List Sent
  base = (device_behind setting f.front).serving.made ++ hello

  -- all that is sent to the host's id behind the OKAY comes from this id
  begun : IsFromOk f.asking.arg0 (λ (m : ℕ). m ≡ own) base (step setting (device_behind setting f.front) f.asking).serving
  begun =
      subst (λ (s : Serving). IsFromOk f.asking.arg0 (λ (m : ℕ). m ≡ own) base s) (sym f.drawing.makes)
      (settled_else f.asking.arg0 (λ (m : ℕ). m ≡ own) base f.drawing.link ((device_behind setting f.front).serving.drawn + 1)
      (opened f.asking.arg0 f.drawing.kind (device_behind setting f.front).serving.files (credit_of f.drawing.link f.asking))
      (begun_by f.drawing.link f.asking f.drawing.kind (device_behind setting f.front).serving)
      (record {
        rises = before.rises;
        rows = λ q row is host. absurd (before.rows q row is host);
        more = [];
        made = sym (append-nil base);
        all = All-nil (λ (one : Sent). FromOk f.asking.arg0 (λ (m : ℕ). m ≡ own) base one.packet);
      }) (λ host. f.number))

  after : IsFromOk f.asking.arg0 (λ (m : ℕ). m ≡ own) base (device_behind setting packets).serving
  after =
      subst (λ (d : Device). IsFromOk f.asking.arg0 (λ (m : ℕ). m ≡ own) base d.serving)
      (sym (step_more setting (first_device setting) f.front (f.asking ∷ f.rest)) ∙ ap (device_behind setting) f.is)
      (all_else f.asking.arg0 (λ (m : ℕ). m ≡ own) base setting f.rest (none_from is_open f.asking.arg0 f.rest others.1)
      (step setting (device_behind setting f.front) f.asking) begun)

  none_refused : how_many (is_close_between 0 f.asking.arg0) (packets_owed setting packets) ≡ 0
  none_refused =
      let all : how_many (is_close_between 0 f.asking.arg0) (packets_owed setting packets)
      ≡ how_many (is_close_between 0 f.asking.arg0) (packets_of_sent (base ++ after.more)) =
      ap (λ (made : List Sent). how_many (is_close_between 0 f.asking.arg0) (packets_of_sent made)) after.made in
      let cut : how_many (is_close_between 0 f.asking.arg0) (packets_of_sent (base ++ after.more))
      ≡ how_many (is_close_between 0 f.asking.arg0) (packets_of_sent base)
      + how_many (is_close_between 0 f.asking.arg0) (packets_of_sent after.more) =
      ap (how_many (is_close_between 0 f.asking.arg0)) (sent_append base after.more)
      ∙ many_append (is_close_between 0 f.asking.arg0) (packets_of_sent base) (packets_of_sent after.more) in
      let first : how_many (is_close_between 0 f.asking.arg0) (packets_of_sent base)
      ≡ how_many (is_close_between 0 f.asking.arg0) (packets_of_sent (device_behind setting f.front).serving.made) + 0 =
      ap (how_many (is_close_between 0 f.asking.arg0)) (sent_append (device_behind setting f.front).serving.made hello)
      ∙ many_append (is_close_between 0 f.asking.arg0) (packets_of_sent (device_behind setting f.front).serving.made)
      (packets_of_sent hello) in
      let none = else_none f.asking.arg0 (device_behind setting f.front).serving.made
      (subst (λ (made : List Sent). All (λ (one : Sent). NotTo f.asking.arg0 one.packet) made) (sym before.made) before.all) in
      let rest = from_closes f.asking.arg0 own some after.more after.all in
      omega (arith, all, cut, first, none, rest)

-- so a stream whose id was drawn is not refused
pub opened_unrefused : (setting : Setting) (own l : ℕ) (packets : List Packet) → own ≢ 0
    → own ≤ (device_behind setting packets).serving.drawn
    → ((f : Found setting own (first_device setting) packets) → f.asking.arg0 ≡ l) → count_from is_open l packets ≤ 1
    → how_many (is_close_between 0 l) (packets_owed setting packets) ≡ 0
opened_unrefused setting own l packets some reached host once =
    let f = found setting own packets (first_device setting) (positive own some) reached in
    subst (λ (k : ℕ). how_many (is_close_between 0 k) (packets_owed setting packets) ≡ 0) (host f)
    (none_refused setting own some packets f (subst (λ (k : ℕ). count_from is_open k packets ≤ 1) (sym (host f)) once))
  where
    positive : (n : ℕ) → n ≢ 0 → 0 < n
    positive zero none = absurd (none refl)
    positive (suc n) none = omega arith
