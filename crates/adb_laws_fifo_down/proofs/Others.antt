-- What is seen of a stream stays through the rules of other clients, streams and links.
use Rattle.std.proofs.Common.{ℕ, ◌+◌, ◌≡◌, ◌≢◌, zero, suc, Bool, true, false, List, [], ◌∷◌, ◌++◌, Option, Some, None, refl, sym, ◌∙◌, ap}
use Rattle.std.proofs.Common.{subst, eqb}
use Rattle.std.proofs.Common.{inl, inr, ◌⊎◌, codes, append_assoc}
use Rattle.std.proofs.lemmas.Bool.{eqb-true}
use Rattle.adb_outside.specs.declared.kinds.Cause.{Cause}
use Rattle.adb_outside.specs.declared.kinds.Cause.TheVariants.{Eof, Fault, Starved, NoThread}
use Rattle.adb_stream.specs.declared.row.Stream.{Stream}
use Rattle.adb_stream.specs.declared.row.Part.{Part}
use Rattle.adb_client.specs.declared.phase.Phase.{Phase}
use Rattle.adb_client.specs.declared.phase.Phase.TheVariants.{Opening, Streaming, Binding, Closing, Gone}
use Rattle.adb_client.specs.declared.about.Want.{Want}
use Rattle.adb_reply.specs.Strings.{failed}
use Rattle.adb_reply.specs.declared.answer.Next.{Next}
use Rattle.adb_reply.specs.declared.answer.Next.TheVariants as what
use Rattle.adb_history.specs.Rows.{Client, State, to_client, to_stream, none_kept, in_phase, with_stream_part}
use Rattle.adb_history.specs.Events.{Made, Event, quietly, then_also, ended}
use Rattle.adb_history.specs.declared.ending.Ending.{Ending}
use Rattle.adb_history.specs.declared.ending.Ending.TheVariants.{ClientFailed}
use Rattle.adb_history.specs.Links.{owe_link, open_packet, close_packet, is_credit}
use Rattle.adb_history.specs.Clients.{owe_client, closes, closes_with, closing}
use Rattle.adb_history.specs.Streams.{stream_ids, draw, asks_for, no_ids_left, opens, loses, client_loses, tells_end, ends_row}
use Rattle.adb_history.specs.Streams.{ends_telling, ends_if_of}
use Rattle.adb_history.specs.Streams.{ends_of}
use Rattle.adb_history.specs.Streams.{all_end}
use Rattle.adb_history.specs.Tracking.{mark_all}
use Rattle.adb_history.specs.Forwarding.{put_forward, bound_by}
use Rattle.adb_outside.specs.Tables.{without}
use Rattle.adb_history.specs.Losing.{forgets, link_ends, orphaned, stream_fails, stream_of, client_fails, input_ended, input_ends}
use Rattle.adb_history.specs.Losing.{client_ends}
use Rattle.adb_history.specs.Reading.{tracks, awaits, goes_on, has_asked, asks, bound_for, bound_in, bound_at}
use Rattle.adb_history.specs.Asking.{Asked}
use Rattle.adb_history.specs.Moves.{After}
use Rattle.adb_history.proofs.Following.{after_quietly, after_then, after_if}
use Rattle.std.specs.Prelude.{option_map}
use Rattle.adb_laws_fifo_down.specs.Line.{Line, View, seen, Shows}
use Rattle.adb_laws_fifo_down.proofs.Shown.{shows_told, shows_owe_link, shows_client, shows_owe_client, shows_mark_all, shows_stream}
use Rattle.adb_laws_fifo_down.proofs.Shown.{shows_draw, quiet_ended}

-- one rule after another, of which each leaves something else
pub after_next : (P Q : State → List Event → Type 0) (w : List Event) (m : Made) (rule : State → Made) → After P w m
    → ((u : List Event) → P m.state u → After Q u (rule m.state)) → After Q w (then_also m rule)
after_next P Q w m rule h next = subst (λ (u : List Event). Q (rule m.state).state u)
    (append_assoc w m.told (rule m.state).told) (next (w ++ m.told) h)

-- a part keeps whose the stream is
pub part_keeps : (part : Part) (x y : Stream) → with_stream_part part x ≡ Some y → (y.client ≡ x.client) × (y.link ≡ x.link)
part_keeps part x y e =
    let same : record x { part = part } ≡ y = let both : Some (record x { part = part }) ≡ Some y = e in cc in
    (sym (ap (λ (z : Stream). z.client) same), sym (ap (λ (z : Stream). z.link) same))

pub none_keeps : (x y : Stream) → none_kept x ≡ Some y → (y.client ≡ x.client) × (y.link ≡ x.link)
none_keeps x y e = absurd (let clash : None ≡ Some y = e in cc)

-- the stream is not the one that is drawn next, where there is an id for it
abbrev pub IsUndrawn : Line → State → Type 0
IsUndrawn b s = eqb s.drawn stream_ids ≡ false → s.drawn + 1 ≢ b.id

abbrev pub UndrawnBy : Line → State → Option Next → Type 0
UndrawnBy b s next = (t : ℕ) (service : List ℕ) → next ≡ Some (what.Open t service) → IsUndrawn b s

-- a client whose stream is another
pub record IsElse (b : Line) (a : Client) : Type 0 where
  pub stream : (l : ℕ) → (a.about.phase ≡ Opening l) ⊎ (a.about.phase ≡ Streaming l) → l ≢ b.id

module _ (b : Line) (v : View) where
  module _ (s : State) (w : List Event) (h : Shows b v s w) where
    -- ---- a client that is another
    shows_closes_with : (n : ℕ) (bytes : List ℕ) → n ≢ b.client → After (Shows b v) w (closes_with n bytes s)
    shows_closes_with n bytes other =
        let owed : Made = owe_client n bytes s in
        shows_client b v n closing owed.state (w ++ owed.told) other (shows_owe_client b v n bytes s w other h)

    shows_asks_for : (n t : ℕ) (service : List ℕ) → n ≢ b.client → s.drawn + 1 ≢ b.id
        → After (Shows b v) w (asks_for (s.drawn + 1) n t service s)
    shows_asks_for n t service other fresh =
        let credit : Bool = is_credit t s.devices in
        let drawn : State = draw credit n t s in
        shows_owe_link b v t (open_packet credit (s.drawn + 1) service) (to_client n (in_phase (Opening (s.drawn + 1))) drawn) w refl
        (shows_client b v n (in_phase (Opening (s.drawn + 1))) drawn w other (shows_draw b v credit n t s w other fresh h))

    shows_no_ids : (forwarded : Bool) (n : ℕ) → n ≢ b.client → After (Shows b v) w (no_ids_left forwarded n s)
    shows_no_ids true n other = after_quietly (Shows b v) w (to_client n none_kept s) (shows_client b v n none_kept s w other h)
    shows_no_ids false n other = shows_closes_with n (failed (codes "no stream ids left")).bytes other

    pub shows_opens : (forwarded : Bool) (n t : ℕ) (service : List ℕ) → n ≢ b.client → IsUndrawn b s
        → After (Shows b v) w (opens forwarded n t service s)
    shows_opens forwarded n t service other fresh =
        after_if (Shows b v) w (eqb s.drawn stream_ids) (no_ids_left forwarded n s) (asks_for (s.drawn + 1) n t service s)
        (λ e. shows_no_ids forwarded n other) (λ e. shows_asks_for n t service other (fresh e))

    -- ---- a stream ends
    shows_loses : (forwarded : Bool) (phase : Phase) (n : ℕ) → n ≢ b.client → After (Shows b v) w (loses forwarded phase n s)
    shows_loses forwarded (Streaming l) n other = after_quietly (Shows b v) w (closes n s) (shows_client b v n closing s w other h)
    shows_loses true (Opening l) n other = after_quietly (Shows b v) w (closes n s) (shows_client b v n closing s w other h)
    shows_loses false (Opening l) n other = shows_closes_with n (failed (codes "closed")).bytes other
    shows_loses true _ n other = after_quietly (Shows b v) w s h
    shows_loses false _ n other = after_quietly (Shows b v) w s h

    shows_client_loses : (o : Option Client) (n : ℕ) → n ≢ b.client → After (Shows b v) w (client_loses o n s)
    shows_client_loses None n other = after_quietly (Shows b v) w s h
    shows_client_loses (Some a) n other = shows_loses a.about.forwarded a.about.phase n other

    shows_tells_end : (orphan : Bool) (k : ℕ) (ending : Ending) → k ≢ b.id → After (Shows b v) w (tells_end orphan k ending s)
    shows_tells_end true k ending other = after_quietly (Shows b v) w s h
    shows_tells_end false k ending other = shows_told b v (ended k ending) s w (quiet_ended b k ending other) h

  module _ (s : State) (w : List Event) (h : Shows b v s w) where
    pub shows_ends : (k : ℕ) (ending : Ending) (x : Stream) → s.streams k ≡ Some x → k ≢ b.id → After (Shows b v) w (ends_row k ending x s)
    shows_ends k ending x is other =
        let gone : State = to_stream k none_kept s in
        let told : Made = tells_end x.part.orphan k ending gone in
        after_then (Shows b v) w told (λ s. client_loses (s.clients x.client) x.client s)
        (shows_tells_end gone w (shows_stream b v k none_kept s w other none_keeps h) x.part.orphan k ending other)
        (λ u now. shows_client_loses told.state u now (told.state.clients x.client) x.client (h.0.others k x is other))

  module _ (s : State) (w : List Event) (h : Shows b v s w) where
    pub shows_ends_telling : (k : ℕ) (ending : Ending) (x : Stream) → s.streams k ≡ Some x → k ≢ b.id
        → After (Shows b v) w (ends_telling k ending x s)
    shows_ends_telling k ending x is other =
        let owed : Made = owe_link x.link (close_packet k x.part.remote) s in
        after_then (Shows b v) w owed (ends_row k ending x) (shows_owe_link b v x.link (close_packet k x.part.remote) s w refl h)
        (λ u now. shows_ends owed.state u now k ending x is other)

  -- ---- the streams of a link end, of which it is not one
  -- another link, or the stream is there no more
  abbrev pub IsElsewhere : ℕ → Type 0
  IsElsewhere t = (t ≢ b.link) ⊎ (v.stream ≡ None)

  pub elsewhere : (t k : ℕ) (x : Stream) (s : State) (w : List Event) → IsElsewhere t → Shows b v s w
      → s.streams k ≡ Some x → x.link ≡ t → k ≢ b.id
  elsewhere t k x s w (inl apart) h is on same = apart (sym on ∙ h.0.link x (ap s.streams (sym same) ∙ is))
  elsewhere t k x s w (inr none) h is on same =
      let there : v.stream ≡ Some (seen x) = ap (λ (u : View). u.stream) (sym h.1) ∙ ap (option_map seen) (ap s.streams (sym same) ∙ is) in
      let clash : None ≡ Some (seen x) = sym none ∙ there in
      cc

  pub shows_ends_if : (t k : ℕ) (ending : Ending) (s : State) (w : List Event) (o : Option Stream) → s.streams k ≡ o → Shows b v s w
      → ((x : Stream) → s.streams k ≡ Some x → x.link ≡ t → k ≢ b.id) → After (Shows b v) w (ends_if_of t k ending o s)
  shows_ends_if t k ending s w None is h other = after_quietly (Shows b v) w s h
  shows_ends_if t k ending s w (Some x) is h other =
      after_if (Shows b v) w (eqb x.link t) (ends_row k ending x s) (quietly s)
      (λ e. shows_ends s w h k ending x is (other x is (eqb-true x.link t e))) (λ e. after_quietly (Shows b v) w s h)

  module _ (t : ℕ) (apart : IsElsewhere t) where
    shows_ends_of : (n : ℕ) (ending : Ending) (s : State) (w : List Event) → Shows b v s w → After (Shows b v) w (ends_of t n ending s)
    shows_ends_of zero ending s w h = after_quietly (Shows b v) w s h
    shows_ends_of (suc n) ending s w h =
        after_then (Shows b v) w (ends_of t n ending s) (λ s. ends_if_of t (suc n) ending (s.streams (suc n)) s)
        (shows_ends_of n ending s w h)
        (λ u now. shows_ends_if t (suc n) ending (ends_of t n ending s).state u ((ends_of t n ending s).state.streams (suc n)) refl now
        (λ x is on. elsewhere t (suc n) x (ends_of t n ending s).state u apart now is on))

    pub shows_all_end : (ending : Ending) (s : State) (w : List Event) → Shows b v s w → After (Shows b v) w (all_end t ending s)
    shows_all_end ending s w h = shows_ends_of s.drawn ending s w h

    pub shows_link_ends : (ending : Ending) (s : State) (w : List Event) → Shows b v s w → After (Shows b v) w (link_ends t ending s)
    shows_link_ends ending s w h =
        let ended_all : Made = all_end t ending (forgets t s) in
        after_then (Shows b v) w ended_all (λ s. quietly (mark_all s)) (shows_all_end ending (forgets t s) w h)
        (λ u now. after_quietly (Shows b v) u (mark_all ended_all.state) (shows_mark_all b v ended_all.state u now))

  -- ---- a client that is another
  module _ (s : State) (w : List Event) (h : Shows b v s w) (n : ℕ) (other : n ≢ b.client) where
    shows_closes : (next : State) → Shows b v next w → After (Shows b v) w (quietly (closes n next))
    shows_closes next now = after_quietly (Shows b v) w (closes n next) (shows_client b v n closing next w other now)

    -- what follows its requests, if that is no kill
    pub shows_goes_on : (next : Option Next) → next ≢ Some what.Stop → UndrawnBy b s next → After (Shows b v) w (goes_on next n s)
    shows_goes_on None none fresh = after_quietly (Shows b v) w s h
    shows_goes_on (Some what.Close) none fresh = after_quietly (Shows b v) w (closes n s) (shows_client b v n closing s w other h)
    shows_goes_on (Some (what.Select id)) none fresh = after_quietly (Shows b v) w s h
    shows_goes_on (Some (what.Track long)) none fresh = after_quietly (Shows b v) w (to_client n (tracks long) s)
        (shows_client b v n (tracks long) s w other h)
    shows_goes_on (Some (what.Open transport service)) none fresh =
        shows_opens s w h false n transport service other (fresh transport service refl)
    shows_goes_on (Some (what.Bind transport local remote chosen)) none fresh =
        let want : Want = record { transport = transport; local = local; remote = remote } in
        after_quietly (Shows b v) w (to_client n (awaits want) s) (shows_client b v n (awaits want) s w other h)
    shows_goes_on (Some (what.Rebind transport local remote)) none fresh = shows_closes (record s {
      forwards = put_forward local transport remote s.devices
          s.forwards;
    }) h
    shows_goes_on (Some (what.Unbind local)) none fresh = shows_closes (record s { forwards = without local s.forwards }) h
    shows_goes_on (Some what.UnbindAll) none fresh = shows_closes (record s { forwards = [] }) h
    shows_goes_on (Some what.Stop) none fresh = absurd (none refl)

    -- it fails
    pub shows_stream_fails : (phase : Phase) (cause : Cause) (o : Option Stream)
        → ((l : ℕ) → phase ≡ Opening l ⊎ phase ≡ Streaming l → o ≢ None → l ≢ b.id)
        → After (Shows b v) w (stream_fails phase cause o s)
    shows_stream_fails (Streaming l) cause (Some x) apart =
        let l_other : l ≢ b.id = apart l (inr refl) (λ e. cc) in
        let gone : State = to_stream l none_kept s in
        let owed : Made = owe_link x.link (close_packet l x.part.remote) gone in
        after_then (Shows b v) w owed (λ s. record { state = s; told = ended l (ClientFailed cause) ∷ [] })
        (shows_owe_link b v x.link (close_packet l x.part.remote) gone w refl (shows_stream b v l none_kept s w l_other none_keeps h))
        (λ u now. shows_told b v (ended l (ClientFailed cause)) owed.state u (quiet_ended b l (ClientFailed cause) l_other) now)
    shows_stream_fails (Opening l) cause (Some x) apart =
        let l_other : l ≢ b.id = apart l (inl refl) (λ e. cc) in
        let left : State = to_stream l (with_stream_part (orphaned x.part)) s in
        shows_told b v (ended l (ClientFailed cause)) left w (quiet_ended b l (ClientFailed cause) l_other)
        (shows_stream b v l (with_stream_part (orphaned x.part)) s w l_other (part_keeps (orphaned x.part)) h)
    shows_stream_fails _ cause _ apart = after_quietly (Shows b v) w s h

    pub shows_input_ends : (phase : Phase) → Shows b v (input_ends phase n s) w
    shows_input_ends (Opening l) = shows_client b v n input_ended s w other h
    shows_input_ends (Streaming l) = shows_client b v n input_ended s w other h
    shows_input_ends Closing = h
    shows_input_ends Gone = h
    shows_input_ends _ = shows_client b v n closing s w other h

    -- its listener stands
    shows_bound_for : (want : Option Want) (port : ℕ) → After (Shows b v) w (bound_for want n port s)
    shows_bound_for None port = after_quietly (Shows b v) w s h
    shows_bound_for (Some want) port =
        let binding = bound_by want port s.devices s.forwards in
        shows_closes_with (record s { forwards = binding.forwards }) w h n binding.reply other

    shows_bound_in : (phase : Phase) (want : Option Want) (port : ℕ) → After (Shows b v) w (bound_in phase want n port s)
    shows_bound_in Binding want port = shows_bound_for want port
    shows_bound_in _ want port = after_quietly (Shows b v) w s h

    pub shows_bound : (o : Option Client) (port : ℕ) → After (Shows b v) w (bound_at o n port s)
    shows_bound None port = after_quietly (Shows b v) w s h
    shows_bound (Some a) port = shows_bound_in a.about.phase a.about.want port

  -- it fails, or its input ends
  module _ (s : State) (w : List Event) (h : Shows b v s w) (n : ℕ) (other : n ≢ b.client) where
    shows_fails : (cause : Cause) (a : Client) → IsElse b a → After (Shows b v) w (client_fails n cause a s)
    shows_fails cause a apart =
        shows_stream_fails (to_client n none_kept s) w (shows_client b v n none_kept s w other h) n other a.about.phase cause
        (stream_of a.about.phase s.streams) (λ l e some. apart.stream l e)

    pub shows_client_ends : (cause : Cause) (o : Option Client) → ((a : Client) → o ≡ Some a → IsElse b a)
        → After (Shows b v) w (client_ends n cause o s)
    shows_client_ends cause None apart = after_quietly (Shows b v) w s h
    shows_client_ends Eof (Some a) apart = after_quietly (Shows b v) w (input_ends a.about.phase n s)
        (shows_input_ends s w h n other a.about.phase)
    shows_client_ends Fault (Some a) apart = shows_fails Fault a (apart a refl)
    shows_client_ends Starved (Some a) apart = shows_fails Starved a (apart a refl)
    shows_client_ends NoThread (Some a) apart = shows_fails NoThread a (apart a refl)

    -- it asks
    pub shows_asks : (q : Asked) → q.next ≢ Some what.Stop → UndrawnBy b s q.next → After (Shows b v) w (asks q n s)
    shows_asks q none fresh =
        let asked : State = to_client n (has_asked q) s in
        let owed : Made = owe_client n q.replies asked in
        after_then (Shows b v) w owed (goes_on q.next n)
        (shows_owe_client b v n q.replies asked w other (shows_client b v n (has_asked q) s w other h))
        (λ u now. shows_goes_on owed.state u now n other q.next none fresh)
