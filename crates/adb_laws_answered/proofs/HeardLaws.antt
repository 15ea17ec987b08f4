-- The fields of the promise that follow from what a client is answered.
use Rattle.std.proofs.Common.{◌≡◌, ℕ, Bool, true, false, cond, List, [], ◌∷◌, ◌++◌, length, Option, Some, None, refl, sym, ap, subst, ◌∙◌}
use Rattle.std.proofs.Common.{append_assoc, eqb}
use Rattle.std.proofs.lemmas.Bool.{eqb-true, eq-eqb}
use Rattle.std.proofs.lemmas.List.{append-nil}
use Rattle.adb_outside.specs.Bytes.{IsPrefixOf}
use Rattle.adb_registry.specs.Registry.{DeviceTable}
use Rattle.adb_client.specs.declared.phase.Phase.{Phase}
use Rattle.adb_client.specs.declared.phase.Phase.TheVariants.{Tracking}
use Rattle.adb_reply.specs.declared.answer.Next.{Next}
use Rattle.adb_reply.specs.declared.answer.Next.TheVariants as what
use Rattle.adb_capture.specs.declared.entry.Entry.{Entry}
use Rattle.adb_capture.specs.declared.entry.Entry.TheVariants.{Put}
use Rattle.adb_history.specs.Rows.{Client, State}
use Rattle.adb_history.specs.Events.{Event, due_to_client, owed_to}
use Rattle.adb_history.specs.Tracking.{tracked_list, list_if_stale, due_or, offered}
use Rattle.adb_history.specs.Handing.{lists_first, takes_of, puts_to}
use Rattle.adb_history.specs.Machine.{History, state, told, told_at, rule, ups, May, MayPut, IsLegal}
use Rattle.adb_history.specs.Bytes.{has_joined, bytes_put}
use Rattle.adb_history.specs.Book.{asked, devices}
use Rattle.adb_history.specs.Lives.{output_of}
use Rattle.adb_history.specs.Answered.{last_list, is_all, IsUpToDate, RepliesFirst, RepliesWhenBound, ListsTracked, HasPresentList}
use Rattle.adb_history.specs.Answered.{SaysNothingMore}
use Rattle.adb_history.proofs.Growing.{owed_append}
use Rattle.adb_history.proofs.OutputEntries.{all_due_past_put}
use Rattle.adb_history.proofs.Books.{all_books}
use Rattle.adb_laws_answered.specs.Heard.{Heard, heard, after_replies, asks_stream, IsTold, PhaseSays, Answers}
use Rattle.adb_laws_answered.proofs.HeardMoves.{prefix_more}
use Rattle.adb_laws_answered.proofs.HeardHistories.{all_answers}

-- ---- what was handed out is a front of what became due
prefix_behind : (x y z : List ℕ) → IsPrefixOf y z → IsPrefixOf (x ++ y) (x ++ z)
prefix_behind x y z (rest, is) = (rest, append_assoc x y rest ∙ ap (λ w. x ++ w) is)

module _ (older : History) (legal : IsLegal older) (c : ℕ) (bytes : List ℕ) where
  abbrev s : State
  s = state older

  -- what is handed out was due before, or became due just now
  put_out : (client : Client) → s.clients c ≡ Some client → (due : List ℕ) → client.due ≡ due → IsPrefixOf bytes (offered s.devices client)
      → IsPrefixOf (bytes_put c older ++ bytes) (output_of c older ++ owed_to c (lists_first c due client s).told)
  put_out client is [] none front =
      let offer = offered s.devices client in
      let out : output_of c older ≡ bytes_put c older =
      all_due_past_put older legal c client is ∙ (ap (λ x. bytes_put c older ++ x) none ∙ append-nil (bytes_put c older)) in
      let list : owed_to c (due_to_client c offer ∷ []) ≡ offer =
      ap (λ (b : Bool). cond b offer [] ++ []) (eq-eqb c c refl) ∙ append-nil offer in
      subst (λ (x : List ℕ). IsPrefixOf (bytes_put c older ++ bytes) (x ++ owed_to c (due_to_client c offer ∷ []))) (sym out)
      (subst (λ (x : List ℕ). IsPrefixOf (bytes_put c older ++ bytes) (bytes_put c older ++ x)) (sym list)
      (prefix_behind (bytes_put c older) bytes offer front))
  put_out client is (b ∷ due) some front =
      let from : IsPrefixOf bytes client.due = subst (λ (x : List ℕ). IsPrefixOf bytes x)
      (ap (λ (x : List ℕ). due_or x (list_if_stale s.devices client.about.mark client.about.long)) some ∙ sym some) front in
      prefix_more (bytes_put c older ++ bytes) (output_of c older) []
      (subst (λ (x : List ℕ). IsPrefixOf (bytes_put c older ++ bytes) x) (sym (all_due_past_put older legal c client is))
      (prefix_behind (bytes_put c older) bytes client.due from))

  own_put : (o : Option Client) → s.clients c ≡ o → MayPut s o bytes
      → IsPrefixOf (bytes_put c older ++ bytes) (output_of c older ++ owed_to c (puts_to o c (length bytes) s).told)
  own_put None is may = absurd may
  own_put (Some client) is may =
      let m = lists_first c client.due client s in
      let later = takes_of c (length bytes) (m.state.clients c) m.state in
      subst (λ (x : List ℕ). IsPrefixOf (bytes_put c older ++ bytes) x)
      (append_assoc (output_of c older) (owed_to c m.told) (owed_to c later.told)
      ∙ ap (λ x. output_of c older ++ x) (sym (owed_append c m.told later.told)))
      (prefix_more (bytes_put c older ++ bytes) (output_of c older ++ owed_to c m.told) (owed_to c later.told)
      (put_out client is client.due refl may.front))

pub grows : (c : ℕ) (e : Entry) (older : History) → output_of c (e ∷ older) ≡ output_of c older ++ owed_to c (told_at e older)
grows c e older = owed_append c (told older) (told_at e older)

stays_front : (c : ℕ) (e : Entry) (older : History) → IsPrefixOf (bytes_put c older) (output_of c older)
    → IsPrefixOf (bytes_put c older) (output_of c (e ∷ older))
stays_front c e older h = subst (λ (x : List ℕ). IsPrefixOf (bytes_put c older) x) (sym (grows c e older))
    (prefix_more (bytes_put c older) (output_of c older) (owed_to c (told_at e older)) h)

put_front : (c n : ℕ) (bytes : List ℕ) (older : History) → IsLegal older → May (state older) (Put n bytes) → (here : Bool) → eqb n c ≡ here
    → IsPrefixOf (bytes_put c older) (output_of c older)
    → IsPrefixOf (cond here (bytes_put c older ++ bytes) (bytes_put c older)) (output_of c (Put n bytes ∷ older))
put_front c n bytes older legal may false e h = stays_front c (Put n bytes) older h
put_front c n bytes older legal may true e h =
    subst (λ (k : ℕ). IsPrefixOf (bytes_put c older ++ bytes) (output_of c (Put k bytes ∷ older))) (sym (eqb-true n c e))
    (subst (λ (x : List ℕ). IsPrefixOf (bytes_put c older ++ bytes) x) whole
    (prefix_more (bytes_put c older ++ bytes) (output_of c older ++ owed_to c ruled) (owed_to c up)
    (own_put older legal c bytes ((state older).clients c) refl (subst (λ (k : ℕ). May (state older) (Put k bytes)) (eqb-true n c e) may))))
  where
    ruled : List Event
    ruled = (rule (Put c bytes) (state older)).told

    up : List Event
    up = (ups (rule (Put c bytes) (state older)).state).told

    whole : (output_of c older ++ owed_to c ruled) ++ owed_to c up ≡ output_of c (Put c bytes ∷ older)
    whole = append_assoc (output_of c older) (owed_to c ruled) (owed_to c up)
        ∙ (ap (λ x. output_of c older ++ x) (sym (owed_append c ruled up)) ∙ sym (grows c (Put c bytes) older))

-- What was handed out to a client is a front of what became due to it.
pub handed_front : (h : History) → IsLegal h → (c : ℕ) → IsPrefixOf (bytes_put c h) (output_of c h)
handed_front [] legal c = ([], refl)
handed_front (Put n bytes ∷ older) legal c = put_front c n bytes older legal.0 legal.2 (eqb n c) refl (handed_front older legal.0 c)
handed_front (e ∷ older) legal c = stays_front c e older (handed_front older legal.0 c)

-- ---- the fields
all_streams : (next : Option Next) → is_all next ≡ true → asks_stream next ≡ false
all_streams (Some (what.Track long)) e = absurd (let clash : false ≡ true = e in cc)
all_streams (Some (what.Open t service)) e = absurd (let clash : false ≡ true = e in cc)
all_streams (Some (what.Bind transport local remote chosen)) e = absurd (let clash : false ≡ true = e in cc)
all_streams _ e = refl

all_after : (r : Heard) (next : Option Next) → is_all next ≡ true → after_replies next r ≡ []
all_after r (Some (what.Track long)) e = absurd (let clash : false ≡ true = e in cc)
all_after r (Some (what.Open t service)) e = absurd (let clash : false ≡ true = e in cc)
all_after r (Some (what.Bind transport local remote chosen)) e = absurd (let clash : false ≡ true = e in cc)
all_after r _ e = refl

module _ (h : History) (legal : IsLegal h) (c : ℕ) (came : has_joined c h ≡ true) where
  answers : Answers c (heard c h) (state h).devices (state h) (told h)
  answers = all_answers h legal c came

  pub replies_first : RepliesFirst h c
  replies_first = record { handed = handed_front h legal c; begins = answers.owes.begins }

  pub nothing_more : SaysNothingMore h c
  nothing_more all =
      answers.owes.all (all_streams (asked c h).next all)
      ∙ (ap (λ x. (asked c h).replies ++ x) (all_after (heard c h) (asked c h).next all) ∙ append-nil (asked c h).replies)

  pub replies_bound : RepliesWhenBound h c
  replies_bound transport local remote chosen next =
      answers.owes.all (ap asks_stream next) ∙ ap (λ (o : Option Next). (asked c h).replies ++ after_replies o (heard c h)) next

  pub lists_tracked : ListsTracked h c
  lists_tracked long next =
      answers.owes.all (ap asks_stream next) ∙ ap (λ (o : Option Next). (asked c h).replies ++ after_replies o (heard c h)) next

  present_in : (long : Bool) → (asked c h).next ≡ Some (what.Track long) → (client : Client) → (state h).clients c ≡ Some client
      → client.about.phase ≡ Tracking → client.about.mark ≡ false → last_list long c h ≡ tracked_list (devices h) long
  present_in long next client is tracking clean =
      let told_so : IsTold (heard c h) (state h).devices client.about.long client.about.mark =
      subst (λ (p : Phase). PhaseSays p (heard c h) (state h).devices client.about.long client.about.mark) tracking
      (answers.row client is) in
      let same : client.about.long ≡ long =
      (let both : Some (what.Track client.about.long) ≡ Some (what.Track long) = sym told_so.next ∙ next in cc) in
      subst (λ (b : Bool). last_list b c h ≡ tracked_list (devices h) b) same
      (told_so.present clean ∙ ap (λ (d : DeviceTable). tracked_list d client.about.long) (all_books h legal).devices)

  pub present_list : HasPresentList h c
  present_list long next up = go ((state h).clients c) refl up
    where
      go : (o : Option Client) → (state h).clients c ≡ o → IsUpToDate o → last_list long c h ≡ tracked_list (devices h) long
      go None is up = absurd up
      go (Some client) is up = present_in long next client is up.0 up.2
