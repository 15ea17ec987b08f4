-- In every legal history what a client that came by itself is answered is what the entries say.
use Rattle.std.proofs.Common.{◌≡◌, ◌≢◌, ℕ, ◌≤◌, ◌<◌, Bool, true, false, cond, ◌||◌, List, [], ◌∷◌, ◌++◌, length, Option, Some, None, refl}
use Rattle.std.proofs.Common.{sym, ap, subst, ◌∙◌}
use Rattle.std.proofs.Common.{arith, eqb}
use Rattle.std.specs.Prelude.{nat_eq, ◌&&◌}
use Rattle.std.proofs.lemmas.Bool.{eqb-true, eqb-false, ne_eqb, eq-eqb}
use Rattle.adb_client.specs.declared.about.Want.{Want}
use Rattle.adb_capture.specs.declared.entry.Entry.{Entry}
use Rattle.adb_capture.specs.declared.entry.Entry.TheVariants.{Join, Enter, Read, End, Bound, Attach, Recv, Detach, Put, Send}
use Rattle.adb_history.specs.Rows.{Client, new_client}
use Rattle.adb_history.specs.Events.{owed_to}
use Rattle.adb_history.specs.Tracking.{tracked_list}
use Rattle.adb_history.specs.Forwarding.{bound_by}
use Rattle.adb_history.specs.Asking.{Asked}
use Rattle.adb_history.specs.Reading.{comes}
use Rattle.adb_history.specs.Machine.{History, state, told, rule, ups, May, MayPut, IsLegal}
use Rattle.adb_history.specs.Bytes.{has_joined, bytes_put}
use Rattle.adb_history.specs.Book.{book, asked, bound_reply, devices_if, bound_turn, devices}
use Rattle.adb_history.specs.Tied.{came_count}
use Rattle.adb_history.specs.Answered.{list_if, lists_of}
use Rattle.adb_history.specs.Moves.{After}
use Rattle.adb_history.proofs.Following.{after_quietly, after_then}
use Rattle.adb_history.proofs.Numbers.{counted, all_drawn}
use Rattle.adb_history.proofs.OwnedMoves.{joined_client}
use Rattle.adb_history.proofs.OwnedStep.{begins_owned, all_owned}
use Rattle.adb_history.proofs.OutputEntries.{tied}
use Rattle.adb_history.proofs.BookTurns.{IsUnheard, all_unheard}
use Rattle.adb_laws_answered.specs.Heard.{Heard, heard, after_replies, RowSays, Owes, Answers}
use Rattle.adb_laws_answered.proofs.HeardEntries.{joined_below, heard_read, heard_bound, heard_put, join_answers, enter_answers}
use Rattle.adb_laws_answered.proofs.HeardEntries.{read_answers, bound_answers}
use Rattle.adb_laws_answered.proofs.HeardEntries.{put_answers, attach_answers, end_answers, recv_answers, detach_answers, send_answers}
use Rattle.adb_laws_answered.proofs.HeardEntries.{ups_answers}
use Rattle.adb_laws_answered.proofs.HeardAsks.{own_read_answers}
use Rattle.adb_laws_answered.proofs.HeardBound.{own_bound_answers}
use Rattle.adb_laws_answered.proofs.HeardPuts.{own_put_answers}

-- ---- who did not come yet was told nothing
pub record IsUntold (h : History) (c : ℕ) : Type 0 where
  pub bound : bound_reply c h ≡ []
  pub lists : (long : Bool) → lists_of long c h ≡ []

module _ (older : History) (legal : IsLegal older) (c : ℕ) (un : IsUntold older c) where
  bound_untold : (n port : ℕ) → n ≤ (state older).joined → (state older).joined < c → IsUntold (Bound n port ∷ older) c
  bound_untold n port le lt = record { bound = go ((book older).waits n); lists = un.lists }
    where
      go : (o : Option Want) → (bound_turn n port (devices_if (book older).killed older) o (book older)).bound c ≡ []
      go None = un.bound
      go (Some want) =
          ap (λ (b : Bool). cond b
          (bound_by want port (devices_if (book older).killed older) (book older).forwards).reply
          ((book older).bound c))
          (ne_eqb n c (λ e. omega (arith, e, le, lt))) ∙ un.bound

  put_below : (n : ℕ) (bytes : List ℕ) (o : Option Client) → (state older).clients n ≡ o
      → MayPut (state older) o bytes → n ≤ (state older).joined
  put_below n bytes None is may = absurd may
  put_below n bytes (Some client) is may = joined_client (state older) n client (all_drawn older legal) is

  put_untold : (n : ℕ) (bytes : List ℕ) → n ≤ (state older).joined → (state older).joined < c → IsUntold (Put n bytes ∷ older) c
  put_untold n bytes le lt = record {
    bound = un.bound;
    lists = λ long. ap (λ (b : Bool).
        list_if (b && nat_eq (length (bytes_put c older)) (length ((asked c older).replies ++ lists_of long c older)))
        (tracked_list (devices older) long)
        (lists_of long c older)) (ne_eqb n c (λ e. omega (arith, e, le, lt))) ∙ un.lists long;
  }

pub all_untold : (h : History) → IsLegal h → (c : ℕ) → came_count h < c → IsUntold h c
all_untold [] legal c lt = record { bound = refl; lists = λ long. refl }
all_untold (Bound n port ∷ older) legal c lt =
    bound_untold older legal.0 c (all_untold older legal.0 c lt) n port legal.2.1.1 (omega (arith, lt, (counted older).joined))
all_untold (Put n bytes ∷ older) legal c lt =
    let un = all_untold older legal.0 c lt in
    put_untold older legal.0 c un n bytes (put_below older legal.0 c un n bytes ((state older).clients n) refl legal.2)
    (omega (arith, lt, (counted older).joined))
all_untold (Join n ∷ older) legal c lt =
    let un = all_untold older legal.0 c (omega (arith, lt)) in record { bound = un.bound; lists = un.lists }
all_untold (Enter n port ∷ older) legal c lt =
    let un = all_untold older legal.0 c (omega (arith, lt)) in record { bound = un.bound; lists = un.lists }
all_untold (_ ∷ older) legal c lt = let un = all_untold older legal.0 c lt in record { bound = un.bound; lists = un.lists }

-- ---- who comes by itself
module _ (c : ℕ) (older : History) (legal : IsLegal older) (may : May (state older) (Join c)) where
  above : came_count older < c
  above = omega (arith, may.1, (counted older).joined)

  un : IsUnheard older c
  un = all_unheard older legal c above

  new_says : (y : Client) → Some (new_client false c) ≡ Some y → RowSays (heard c older) (state older).devices y
  new_says y e =
      let same : new_client false c ≡ y = cc in
      let quiet = all_untold older legal c above in
      subst (λ (z : Client). RowSays (heard c older) (state older).devices z) same
      (record { next = ap (λ (q : Asked). q.next) un.asked; bound = quiet.bound; lists = quiet.lists })

  new_owes : Owes (heard c older) (owed_to c (told older))
  new_owes =
      let none : owed_to c (told older) ≡ [] = (tied older legal).told.clients c above in
      let replies : (asked c older).replies ≡ [] = ap (λ (q : Asked). q.replies) un.asked in
      record {
        begins = (owed_to c (told older), ap (λ x. x ++ owed_to c (told older)) replies);
        all = λ stream. none ∙ sym (ap (λ (q : Asked). q.replies ++ after_replies q.next (heard c older)) un.asked);
      }

  pub new_answers : Answers c (heard c (Join c ∷ older)) (comes false c (state older)).devices (comes false c (state older)) (told older)
  new_answers = record {
    owned = begins_owned (state older) (all_owned older legal) (Join c) [] may;
    row = λ y is. new_says y (sym (ap (λ (b : Bool). cond b (Some (new_client false c)) ((state older).clients c)) (eq-eqb c c refl)) ∙ is);
    owes = new_owes;
  }

-- ---- all histories
abbrev IsAnsweredAfter : ℕ → Entry → History → Type 0
IsAnsweredAfter c e older = After (λ s w. Answers c (heard c (e ∷ older)) s.devices s w) (told older) (rule e (state older))

module _ (c : ℕ) (older : History) (legal : IsLegal older)
    (before : has_joined c older ≡ true → Answers c (heard c older) (state older).devices (state older) (told older)) where
  answers_join : (n : ℕ) (here : Bool) → eqb n c ≡ here → May (state older) (Join n)
      → (here || has_joined c older) ≡ true → IsAnsweredAfter c (Join n) older
  answers_join n true e may came =
      subst (λ (k : ℕ). IsAnsweredAfter c (Join k) older) (sym (eqb-true n c e))
      (after_quietly (λ s w. Answers c (heard c older) s.devices s w) (told older) (comes false c (state older))
      (new_answers c older legal (subst (λ (k : ℕ). May (state older) (Join k)) (eqb-true n c e) may)))
  answers_join n false e may came = join_answers c older legal came (before came) n (eqb-false n c e) may

  module _ (came : has_joined c older ≡ true) where
    h : Answers c (heard c older) (state older).devices (state older) (told older)
    h = before came

    answers_enter : (n port : ℕ) → May (state older) (Enter n port) → IsAnsweredAfter c (Enter n port) older
    answers_enter n port may = enter_answers c older legal came h n apart port may
      where
        apart : n ≢ c
        apart e = let le = joined_below older legal c came in omega (arith, e, le, may.1, (counted older).joined)

    answers_read : (n : ℕ) (bytes : List ℕ) (here : Bool) → eqb n c ≡ here → May (state older) (Read n bytes)
        → IsAnsweredAfter c (Read n bytes) older
    answers_read n bytes true e may =
        subst (λ (k : ℕ). IsAnsweredAfter c (Read k bytes) older) (sym (eqb-true n c e))
        (own_read_answers c older legal bytes (subst (λ (k : ℕ). May (state older) (Read k bytes)) (eqb-true n c e) may) h)
    answers_read n bytes false e may =
        subst (λ (r : Heard). After (λ s w. Answers c r s.devices s w) (told older)
        (rule (Read n bytes) (state older))) (sym (heard_read n c bytes older e))
        (read_answers c older legal came h n (eqb-false n c e) bytes may)

    answers_bound : (n port : ℕ) (here : Bool) → eqb n c ≡ here → May (state older) (Bound n port) → IsAnsweredAfter c (Bound n port) older
    answers_bound n port true e may =
        subst (λ (k : ℕ). IsAnsweredAfter c (Bound k port) older) (sym (eqb-true n c e))
        (own_bound_answers c older legal port (subst (λ (k : ℕ). May (state older) (Bound k port)) (eqb-true n c e) may) h)
    answers_bound n port false e may =
        subst (λ (r : Heard). After (λ s w. Answers c r s.devices s w) (told older)
        (rule (Bound n port) (state older))) (sym (heard_bound n c port older e))
        (bound_answers c older legal came h n (eqb-false n c e) port)

    answers_put : (n : ℕ) (bytes : List ℕ) (here : Bool) → eqb n c ≡ here → May (state older) (Put n bytes)
        → IsAnsweredAfter c (Put n bytes) older
    answers_put n bytes true e may =
        subst (λ (k : ℕ). IsAnsweredAfter c (Put k bytes) older) (sym (eqb-true n c e))
        (own_put_answers c older legal bytes h (subst (λ (k : ℕ). May (state older) (Put k bytes)) (eqb-true n c e) may))
    answers_put n bytes false e may =
        subst (λ (r : Heard). After (λ s w. Answers c r s.devices s w) (told older)
        (rule (Put n bytes) (state older))) (sym (heard_put n c bytes older e))
        (put_answers c older legal came h n (eqb-false n c e) bytes)

  answers_rule : (e : Entry) → May (state older) e → has_joined c (e ∷ older) ≡ true → IsAnsweredAfter c e older
  answers_rule (Join n) may came = answers_join n (eqb n c) refl may came
  answers_rule (Enter n port) may came = answers_enter came n port may
  answers_rule (Read n bytes) may came = answers_read came n bytes (eqb n c) refl may
  answers_rule (Bound n port) may came = answers_bound came n port (eqb n c) refl may
  answers_rule (Put n bytes) may came = answers_put came n bytes (eqb n c) refl may
  answers_rule (End n cause) may came = end_answers c older legal came (h came) n cause
  answers_rule (Attach t kind serial) may came = attach_answers c older legal came (h came) t kind serial may
  answers_rule (Recv t bytes) may came = recv_answers c older legal came (h came) t bytes
  answers_rule (Detach t cause) may came = detach_answers c older legal came (h came) t cause
  answers_rule (Send t bytes) may came = send_answers c older legal came (h came) t bytes

-- In every legal history what a client that came by itself is answered is what the entries say.
pub all_answers : (h : History) → IsLegal h → (c : ℕ) → has_joined c h ≡ true → Answers c (heard c h) (state h).devices (state h) (told h)
all_answers [] legal c came = absurd (let clash : false ≡ true = came in cc)
all_answers (e ∷ older) legal c came =
    after_then (λ s w. Answers c (heard c (e ∷ older)) s.devices s w) (told older) (rule e (state older)) ups
    (answers_rule c older legal.0 (λ before. all_answers older legal.0 c before) e legal.2 came)
    (λ v now. ups_answers c (heard c (e ∷ older)) (rule e (state older)).state v now)
