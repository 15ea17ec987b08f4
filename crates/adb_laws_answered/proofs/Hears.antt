-- What became due to the client of a stream is what its device told, up to the stream's end.
use Rattle.std.proofs.Common.{◌≡◌, ℕ, ◌<◌, zero, suc, Bool, true, false, cond, List, [], ◌++◌, Option, Some, None, is_some, refl, sym, ap}
use Rattle.std.proofs.Common.{subst, ◌∙◌}
use Rattle.std.proofs.Common.{append_assoc, arith, inl, inr, ◌⊎◌}
use Rattle.std.proofs.lemmas.List.{append-nil, append_cancel_left}
use Rattle.std.specs.Prelude.{option_map}
use Rattle.adb_outside.specs.Bytes.{IsPrefixOf}
use Rattle.adb_reply.specs.Strings.{okay}
use Rattle.adb_stream.specs.declared.row.Stream.{Stream}
use Rattle.adb_history.specs.declared.ending.Ending.{Ending}
use Rattle.adb_history.specs.declared.ending.Ending.TheVariants.{ClientClosed, PeerClosed, OutOfTurn, Lost, Broken, ClientFailed, Stopped}
use Rattle.adb_history.specs.Machine.{History, state, IsLegal}
use Rattle.adb_history.specs.Book.{asked}
use Rattle.adb_history.specs.Births.{Birth, born, Opening, since, opening_in, opening_of, told_in, told_after, told_before, told_to, joined}
use Rattle.adb_history.specs.Lives.{output_of, ending_of, lived}
use Rattle.adb_history.specs.Answered.{FollowsUpTo}
use Rattle.adb_laws_births.specs.Ending.{EndsAs, HasEnding}
use Rattle.adb_laws_births.proofs.Endings.{all_endings}
use Rattle.adb_laws_fifo_down.specs.Line.{SeenStream, View, seen}
use Rattle.adb_laws_fifo_down.specs.Life.{Cradle, okay_after, lead, unopened_output, WasOpen, LivesAs, LivesIn, Story, heard}
use Rattle.adb_laws_fifo_down.specs.Follows.{Follows, is_shut}
use Rattle.adb_laws_fifo_down.specs.Followed.{LifeOf}
use Rattle.adb_laws_fifo_down.proofs.Handed.{has_lives}
use Rattle.adb_laws_answered.specs.Served.{IsHeardAsTold, HearsAsTold}
use Rattle.adb_laws_answered.proofs.ShownClients.{opened_not_closed}
use Rattle.adb_laws_answered.proofs.Outlived.{first_of, lead_first, IsDueBehind, was_due, none_alive, past_alive}

-- ---- what follows by the end of a stream
abbrev UpTo : Option Ending → ℕ → Option Opening → (while_alive bytes : List ℕ) → Type 0
UpTo ending l o while_alive bytes = FollowsUpTo ending (joined (told_after l o)) (joined (told_before l o)) while_alive bytes

-- where the stream ended
ended_up_to : (ending : Option Ending) (told before while_alive bytes : List ℕ) → is_some ending ≡ true
    → IsPrefixOf while_alive bytes × IsPrefixOf bytes told
    → (ending ≡ Some PeerClosed → bytes ≡ before) → FollowsUpTo ending told before while_alive bytes
ended_up_to None told before while_alive bytes over within closed = absurd (let clash : false ≡ true = over in cc)
ended_up_to (Some ClientClosed) told before while_alive bytes over within closed = within
ended_up_to (Some PeerClosed) told before while_alive bytes over within closed = closed refl
ended_up_to (Some OutOfTurn) told before while_alive bytes over within closed = within
ended_up_to (Some Lost) told before while_alive bytes over within closed = within
ended_up_to (Some Broken) told before while_alive bytes over within closed = within
ended_up_to (Some (ClientFailed cause)) told before while_alive bytes over within closed = within
ended_up_to (Some Stopped) told before while_alive bytes over within closed = within

-- ---- what became due by the life of a stream
-- what became due is what comes before the bytes of the stream, and these
record IsPastLead (k : Cradle) (Told : List ℕ → Type 0) (output : List ℕ) : Type 0 where
  pub bytes : List ℕ
  pub is : output ≡ lead k ++ bytes
  pub follows : Told bytes

-- what became due to the client of a stream: its replies; or these, and why the stream was not opened; or more
abbrev Says : Cradle → (List ℕ → Type 0) → List ℕ → Type 0
Says k Told output = (((output ≡ k.replies) ⊎ (output ≡ unopened_output k.forwarded k.replies)) × Told []) ⊎ IsPastLead k Told output

-- through a forward there are no replies
says_alone : (k : Cradle) (Told : List ℕ → Type 0) (output : List ℕ) → k.forwarded ≡ true → k.replies ≡ []
    → Says k Told output → Told output
says_alone k Told output forwarded none (inl (inl is, told)) = subst Told (sym (is ∙ none)) told
says_alone k Told output forwarded none (inl (inr is, told)) =
    subst Told (sym (is ∙ (ap (λ (f : Bool). unopened_output f k.replies) forwarded ∙ none))) told
says_alone k Told output forwarded none (inr past) =
    let first : lead k ≡ [] = ap (λ (f : Bool). okay_after f k.replies) forwarded ∙ none in
    subst Told (sym (past.is ∙ ap (λ (x : List ℕ). x ++ past.bytes) first)) past.follows

-- behind the replies and `OKAY`
says_behind : (k : Cradle) (Told : List ℕ → Type 0) (output bytes : List ℕ) → k.forwarded ≡ false → output ≡ k.replies ++ (okay ++ bytes)
    → Says k Told output → Told bytes
says_behind k Told output bytes own behind (inl (inl is, told)) =
    absurd (opened_not_closed k.replies bytes [] false
    (append-nil (k.replies ++ (okay ++ bytes)) ∙ (sym behind ∙ (is ∙ sym (append-nil k.replies)))))
says_behind k Told output bytes own behind (inl (inr is, told)) =
    absurd (opened_not_closed k.replies bytes [] true (append-nil (k.replies ++ (okay ++ bytes))
    ∙ (sym behind ∙ (is ∙ ap (λ (f : Bool). unopened_output f k.replies) own))))
says_behind k Told output bytes own behind (inr past) =
    let first : lead k ≡ k.replies ++ okay = ap (λ (f : Bool). okay_after f k.replies) own in
    let both : (k.replies ++ okay) ++ bytes ≡ (k.replies ++ okay) ++ past.bytes =
    append_assoc k.replies okay bytes ∙ (sym behind ∙ (past.is ∙ ap (λ (x : List ℕ). x ++ past.bytes) first)) in
    subst Told (sym (append_cancel_left (k.replies ++ okay) bytes past.bytes both)) past.follows

-- a stream that was born has an id
born_id : (l : ℕ) (b : Birth) (h : History) → born l h ≡ Some b → 0 < l
born_id zero b h is = absurd (let clash : None ≡ Some b = is in cc)
born_id (suc k) b h is = omega arith

module _ (h : History) (l : ℕ) (b : Birth) (is : born l h ≡ Some b) (f : Follows LifeOf h l b)
    (ends : HasEnding (state h).drawn l ((state h).streams l) (ending_of l h))
    (due : IsDueBehind (first_of b h) (joined (told_to l b (lived l h))) (output_of b.client h)) where
  abbrev v : View
  v = f.holds.seen

  abbrev while_alive : List ℕ
  while_alive = joined (told_to l b (lived l h))

  abbrev Told : List ℕ → Type 0
  Told = λ bytes. UpTo (ending_of l h) l (opening_of l b h) while_alive bytes

  output_is : output_of b.client h ≡ v.output
  output_is = ap (λ (x : View). x.output) f.holds.shows.1

  ending_is : ending_of l h ≡ v.ending
  ending_is = ap (λ (x : View). x.ending) f.holds.shows.1

  -- what was written while the stream lived is due
  alive_due : IsDueBehind (lead f.cradle) while_alive v.output
  alive_due = subst (λ (x : List ℕ). IsDueBehind (lead f.cradle) while_alive x) output_is
      (subst (λ (x : List ℕ). IsDueBehind x while_alive (output_of b.client h)) (sym (lead_first l b h f)) due)

  -- nothing came behind the replies
  ended_early : is_some (ending_of l h) ≡ true → (v.output ≡ f.cradle.replies)
      ⊎ (v.output ≡ unopened_output f.cradle.forwarded f.cradle.replies)
      → (ending_of l h ≡ Some PeerClosed → [] ≡ joined (told_before l (opening_of l b h))) → Told []
  ended_early over which closed =
      ended_up_to (ending_of l h) (joined (told_after l (opening_of l b h))) (joined (told_before l (opening_of l b h))) while_alive [] over (
        ([], append-nil while_alive ∙ none_alive f.cradle while_alive v.output alive_due which),
        (joined (told_after l (opening_of l b h)), refl),
      ) closed

  past : (o : Opening) → opening_of l b h ≡ Some o → (bytes : List ℕ) → v.output ≡ lead f.cradle ++ bytes
      → UpTo (ending_of l h) l (Some o) while_alive bytes
      → Says f.cradle Told v.output
  past o opened bytes is told =
      inr (record {
        bytes = bytes;
        is = is;
        follows =
            subst (λ (x : Option Opening). UpTo (ending_of l h) l x while_alive bytes) (sym opened) told;
      })

  was_open : is_some (ending_of l h) ≡ true → WasOpen l f.cradle (since b h) v.output v.ending → Says f.cradle Told v.output
  was_open over i =
      past i.opening i.opened i.bytes i.output_is
      (ended_up_to (ending_of l h) (joined (told_after l (Some i.opening))) (joined (told_before l (Some i.opening)))
      while_alive i.bytes over
      (past_alive f.cradle while_alive v.output i.bytes alive_due i.output_is, i.front)
      (λ e. (i.closed (sym ending_is ∙ e)).whole))

  alive : (orphan : Bool) (remote : ℕ) → EndsAs orphan (ending_of l h) → LivesAs orphan remote l f.cradle (since b h) (heard v)
      → Says f.cradle Told v.output
  alive true remote ended i = inl (
    inl i.unheard.output_is,
    ended_early (ap is_some ended.1) (inl i.unheard.output_is)
        (λ e. absurd (i.unheard.not_by_peer (sym ending_is ∙ e))),
  )
  alive false zero none i =
      let unopened : opening_of l b h ≡ None = ap (opening_in l) (sym (append-nil (since b h))) ∙ i.pending [] in
      inl (
        inl i.output,
        subst (λ (e : Option Ending). UpTo e l (opening_of l b h) while_alive []) (sym none)
            (ap (λ (o : Option Opening). joined (told_after l o)) (sym unopened)),
      )
  alive false (suc r) none i =
      past i.opening i.opened (joined (told_in i.opening.remote l i.opening.later)) i.output
      (subst (λ (e : Option Ending). UpTo e l (Some i.opening) while_alive
      (joined (told_in i.opening.remote l i.opening.later))) (sym none) refl)

  over : is_some (ending_of l h) ≡ true → Story l f.cradle (since b h) (is_shut b.link h) (heard v) → Says f.cradle Told v.output
  over ended (inl (never, output)) =
      inl (inr output, ended_early ended (inr output) (λ e. ap (λ (o : Option Opening). joined (told_before l o)) (sym never.unopened)))
  over ended (inr (inl i)) = inl (inl i.output_is, ended_early ended (inl i.output_is) (λ e. absurd (i.not_by_peer (sym ending_is ∙ e))))
  over ended (inr (inr i)) = was_open ended i

  says : Says f.cradle Told v.output
  says = by ((state h).streams l) refl
      (subst (λ (o : Option SeenStream). LivesIn o l f.cradle (since b h) (is_shut b.link h) (heard v))
      (sym (ap (λ (x : View). x.stream) f.holds.shows.1)) f.holds.keeps.lives)
    where
      by : (row : Option Stream) → (state h).streams l ≡ row
          → LivesIn (option_map seen row) l f.cradle (since b h) (is_shut b.link h) (heard v) → Says f.cradle Told v.output
      by None gone i = over (ends.gone gone (born_id l b h is) f.holds.shows.0.born) i.1
      by (Some stream) kept i = alive stream.part.orphan stream.part.remote (ends.kept stream kept) i

  replies_by : (forwarded : Bool) → b.forwarded ≡ forwarded → f.cradle.replies ≡ cond forwarded [] (asked b.client h).replies
  replies_by forwarded is = f.replies ∙ ap (λ (x : Bool). cond x [] (asked b.client h).replies) is

  heard_as_told : IsHeardAsTold h l b
  heard_as_told = record {
    behind = λ own bytes is. says_behind f.cradle Told v.output bytes (f.forwarded ∙ own)
        (sym output_is ∙ (is ∙ ap (λ (x : List ℕ). x ++ (okay ++ bytes)) (sym (replies_by false own)))) says;
    alone = λ through. subst Told (sym output_is)
        (says_alone f.cradle Told v.output (f.forwarded ∙ through) (replies_by true through) says);
  }

pub hears_as_told : (h : History) → IsLegal h → HearsAsTold h
hears_as_told h legal l b is = heard_as_told h l b is (has_lives h legal l b is) (all_endings h legal l) (was_due h legal l b is)
