-- The fields of the promise of clients that have a stream, and the whole promise.
use Rattle.std.proofs.Common.{◌≡◌, ℕ, Bool, true, false, List, [], ◌++◌, Option, refl, sym, subst, ◌∙◌, inl, inr, ◌⊎◌}
use Rattle.std.proofs.lemmas.List.{append-nil}
use Rattle.adb_reply.specs.Strings.{okay}
use Rattle.adb_reply.specs.declared.answer.Next.{Next}
use Rattle.adb_history.specs.Rows.{State}
use Rattle.adb_history.specs.Events.{Event, owed_to}
use Rattle.adb_history.specs.Machine.{History, state, told, IsLegal}
use Rattle.adb_history.specs.Bytes.{has_joined, has_failed}
use Rattle.adb_history.specs.Book.{asked}
use Rattle.adb_history.specs.Births.{since}
use Rattle.adb_history.specs.Lives.{output_of, ending_of}
use Rattle.adb_history.specs.Answered.{tells_closed, closed_reply, is_heard, FollowsTold, FollowsOpen, IsStreamOf, AnswersOpen}
use Rattle.adb_history.specs.Answered.{IsBehindReplies}
use Rattle.adb_history.specs.Answered.{RepliesOfStream, HasStreamAlone, IsAnswered}
use Rattle.adb_laws_answered.specs.Heard.{asks_stream}
use Rattle.adb_laws_answered.specs.Served.{OutBy, no_ids_reply, IsGiven, IsRefused, ServedIn, IsEntered, IsLeftOut, HearsAsTold}
use Rattle.adb_laws_answered.proofs.HeardLaws.{replies_first, replies_bound, lists_tracked, present_list, nothing_more}
use Rattle.adb_laws_answered.proofs.ServedHistories.{all_served}
use Rattle.adb_laws_answered.proofs.Hears.{hears_as_told}
use Rattle.adb_laws_answered.specs.Shown.{Seen, seen, Subject, IsShown}
use Rattle.adb_laws_answered.proofs.ShownClients.{opened_not_closed}
use Rattle.adb_laws_answered.proofs.ShownHistories.{IsShownAt, may_hear, subject_of}
use Rattle.adb_laws_answered.proofs.ShownAll.{all_shown}
use Rattle.adb_laws_answered.proofs.Entered.{all_entered}

-- what became due to the client of a stream, by whether it heard that the stream is open
abbrev ShownBy : Bool → (replies out : List ℕ) → Type 0
ShownBy false replies out = (closed : Bool) × (out ≡ replies ++ closed_reply closed)
ShownBy true replies out = (bytes : List ℕ) × (out ≡ replies ++ (okay ++ bytes))

shown_out : (heard : Bool) (x : Subject) (seen : Seen) (s : State) (w : List Event) → IsShown heard x seen s w
    → ShownBy heard x.replies (owed_to x.client w)
shown_out false x seen s w n = (n.out.closed, n.out.out_is)
shown_out true x seen s w n = (n.out.bytes, n.out.out_is)

opened_out : (heard : Bool) (replies out : List ℕ) → ShownBy heard replies out → heard ≡ true → ShownBy true replies out
opened_out true replies out n e = n
opened_out false replies out n e = absurd (let clash : false ≡ true = e in cc)

unopened_out : (heard : Bool) (replies out : List ℕ) → ShownBy heard replies out → heard ≡ false → ShownBy false replies out
unopened_out false replies out n e = n
unopened_out true replies out n e = absurd (let clash : true ≡ false = e in cc)

module _ (h : History) (legal : IsLegal h) where
  hears : HearsAsTold h
  hears = hears_as_told h legal

  -- ---- a client that came by itself
  module _ (c : ℕ) (came : has_joined c h ≡ true) where
    given_stream : (g : IsGiven c h (asked c h).replies (state h) (told h)) → IsStreamOf h c g.stream g.birth
    given_stream g = record { is = g.born; client = g.client }

    -- what is known of its stream
    known : (g : IsGiven c h (asked c h).replies (state h) (told h)) → IsShownAt g.stream g.birth h
    known g = all_shown h legal g.stream g.birth g.born g.alone (subst (λ (n : ℕ). has_joined n h ≡ true) (sym g.client) came)

    -- it heard that its stream is open
    given_heard : (g : IsGiven c h (asked c h).replies (state h) (told h)) → is_heard g.stream g.birth h ≡ true
        → IsBehindReplies h c (AnswersOpen h c)
    given_heard g e =
        let n = known g in
        let heard = opened_out n.heard (asked g.birth.client h).replies (output_of g.birth.client h)
        (shown_out n.heard (subject_of g.stream g.birth h (may_hear g.stream g.birth h) (has_failed g.birth.client h))
        (seen g.stream (since g.birth h))
        (state h) (told h) n.shown) (n.is ∙ e) in
        record {
          after = okay ++ heard.0;
          output = subst (λ (n : ℕ). output_of n h ≡ (asked n h).replies ++ (okay ++ heard.0)) g.client heard.1;
          is = inl (
            g.stream,
            g.birth,
            given_stream g,
            subst (λ (b : Bool). FollowsOpen b h g.stream g.birth (okay ++ heard.0)) (sym e)
                (heard.0, refl, (hears g.stream g.birth g.born).behind g.alone heard.0 heard.1),
          );
        }

    -- or did not
    given_unheard : (g : IsGiven c h (asked c h).replies (state h) (told h)) → is_heard g.stream g.birth h ≡ false → (b : Bool)
        → OutBy b (asked c h).replies (output_of c h) (ending_of g.stream h) → IsBehindReplies h c (AnswersOpen h c)
    given_unheard g e false out = record {
      after = closed_reply (tells_closed (ending_of g.stream h));
      output = out;
      is = inl (
        g.stream,
        g.birth,
        given_stream g,
        subst (λ (b : Bool). FollowsOpen b h g.stream g.birth (closed_reply (tells_closed (ending_of g.stream h)))) (sym e) refl,
      );
    }
    given_unheard g e true (bytes, out) =
        let n = known g in
        let closed = unopened_out n.heard (asked g.birth.client h).replies (output_of g.birth.client h)
        (shown_out n.heard (subject_of g.stream g.birth h (may_hear g.stream g.birth h) (has_failed g.birth.client h))
        (seen g.stream (since g.birth h))
        (state h) (told h) n.shown) (n.is ∙ e) in
        absurd (opened_not_closed (asked c h).replies bytes [] closed.0 (append-nil ((asked c h).replies ++ (okay ++ bytes))
        ∙ (sym out ∙ subst (λ (n : ℕ). output_of n h ≡ (asked n h).replies ++ closed_reply closed.0) g.client closed.1)))

    given_reply : (g : IsGiven c h (asked c h).replies (state h) (told h)) → (b : Bool) → is_heard g.stream g.birth h ≡ b
        → IsBehindReplies h c (AnswersOpen h c)
    given_reply g true e = given_heard g e
    given_reply g false e = given_unheard g e g.heard g.served.out

    refused_reply : IsRefused c h (asked c h).replies (state h) (told h) → IsBehindReplies h c (AnswersOpen h c)
    refused_reply r = record {
      after = no_ids_reply;
      output = r.done.told;
      is = inr (λ l b own. r.none l b own.is own.client, refl);
    }

    pub stream_reply : RepliesOfStream h c
    stream_reply transport service next = go (subst (λ (o : Option Next). ServedIn (asks_stream o) c h) next (all_served h legal c came))
      where
        go : IsGiven c h (asked c h).replies (state h) (told h) ⊎ IsRefused c h (asked c h).replies (state h) (told h)
            → IsBehindReplies h c (AnswersOpen h c)
        go (inl g) = given_reply g (is_heard g.stream g.birth h) refl
        go (inr r) = refused_reply r

  -- ---- a client that came through a forward
  pub stream_alone : (c : ℕ) → has_joined c h ≡ false → HasStreamAlone h c
  stream_alone c absent = go (all_entered h legal c absent)
    where
      go : IsLeftOut c h ⊎ IsEntered c h → HasStreamAlone h c
      go (inl out) = inr (λ l b own. out.none l b own.is own.client, out.done.told)
      go (inr g) = inl (
        g.stream,
        g.birth,
        record { is = g.born; client = g.client },
        subst (λ (n : ℕ). FollowsTold h g.stream g.birth (output_of n h)) g.client ((hears g.stream g.birth g.born).alone g.forwarded),
      )

  -- ---- all clients
  pub answered : IsAnswered h
  answered = record {
    joined = λ c came. record {
      replies = replies_first h legal c came;
      bound_reply = replies_bound h legal c came;
      stream_reply = stream_reply c came;
      tracked_lists = lists_tracked h legal c came;
      present_list = present_list h legal c came;
      nothing_more = nothing_more h legal c came;
    };
    entered = stream_alone;
  }
