-- Clients and streams keep each other through every rule.
use Rattle.std.proofs.Common.{◌≡◌, ◌≢◌, ℕ, ◌+◌, ◌≤◌, zero, suc, Bool, true, false, List, ◌++◌, length, drop, Option, Some, None, refl, sym}
use Rattle.std.proofs.Common.{ap, subst}
use Rattle.std.proofs.Common.{◌∙◌, arith, inl, length-append}
use Rattle.std.specs.Prelude.{option_and_then}
use Rattle.std.proofs.lemmas.Bool.{eq-eqb, ne_eqb}
use Rattle.std.proofs.lemmas.Bool.Decides.{nat_tests}
use Rattle.adb_outside.specs.Tables.{Rows, change_row}
use Rattle.adb_stream.specs.Stream.{new_stream}
use Rattle.adb_stream.specs.Flow.{new_flow, first_credit, accepted, is_out_of_turn, to_hand}
use Rattle.adb_stream.specs.declared.flow.Flow.{Flow}
use Rattle.adb_stream.specs.declared.flow.Flow.TheVariants.{One, Credit}
use Rattle.adb_stream.specs.declared.row.Part.{Part}
use Rattle.adb_stream.specs.declared.row.Stream.{Stream}
use Rattle.adb_client.specs.declared.phase.Phase.{Phase}
use Rattle.adb_client.specs.declared.phase.Phase.TheVariants.{Asking, Opening, Streaming, Binding, Tracking, Closing, Gone}
use Rattle.adb_history.specs.Rows.{Client, State, to_client, to_stream, none_kept, with_due, in_phase, with_stream_part}
use Rattle.adb_history.specs.Clients.{closing, closes}
use Rattle.adb_history.specs.Links.{is_credit}
use Rattle.adb_history.specs.Flow.{with_flow}
use Rattle.adb_history.specs.Losing.{orphaned}
use Rattle.adb_history.specs.Packets.{with_remote}
use Rattle.adb_history.specs.Handing.{hands, left_in}
use Rattle.adb_history.specs.Orderly.{IsSoundFlow, phase_for}
use Rattle.adb_history.specs.Moves.{draws_now, open_now, accepts_now}
use Rattle.adb_history.specs.Owned.{StreamOf, ClientOf, OwnerIn, StreamIn, HoldsIn, ClientIn, Owned, IsOwned}
use Rattle.adb_history.proofs.Following.{changed_here, changed_other}
use Rattle.adb_history.proofs.Owning.{IsOnly, Changes, owned_changes}
use Rattle.adb_history.proofs.OwnedMoves.{joined_client, owned_client, closing_in, no_mark, owner_to, client_of, together, together_own}
use Rattle.adb_history.proofs.OwnedMoves.{Together}
use Rattle.adb_history.proofs.OwnedMoves.{owned_both, owned_kept}

-- the phase of a client of a stream that is open, or is not
open_phase : (l remote : ℕ) → remote ≢ 0 → phase_for l remote ≡ Streaming l
open_phase l zero some = absurd (some refl)
open_phase l (suc n) some = refl

asked_phase : (phase : Phase) (l remote : ℕ) → phase ≡ Opening l → phase ≡ phase_for l remote → remote ≡ 0
asked_phase phase l zero e f = refl
asked_phase phase l (suc n) e f = absurd (let clash : Opening l ≡ Streaming l = sym e ∙ f in cc)

-- ---- draws
sound_new : (credit : Bool) → IsSoundFlow (new_flow credit)
sound_new true = record { window = omega arith; few = omega arith; none = λ e. refl }
sound_new false = tt

pub fresh_new : (credit : Bool) → to_hand (new_flow credit) ≡ 0
fresh_new true = refl
fresh_new false = refl

module _ (s : State) (h : IsOwned s) where
  pub draws_owned : (c t : ℕ) (x : Client) → s.clients c ≡ Some x → x.about.phase ≡ Asking
      → Owned s.joined (draws_now c t s).clients (draws_now c t s).streams
  draws_owned c t x is asking = owned_changes s (draws_now c t s) c (s.drawn + 1) changes h.owned
    where
      l : ℕ
      l = s.drawn + 1

      none : (y : Stream) → s.streams (s.drawn + 1) ≡ Some y → ⊥
      none y e = let clash : None ≡ Some y = sym (h.rows.streams.above (s.drawn + 1) (omega arith)) ∙ e in cc

      drawn : Stream
      drawn = new_stream (s.drawn + 1) c t (new_flow (is_credit t s.devices))

      there : (draws_now c t s).streams (s.drawn + 1) ≡ Some (new_stream (s.drawn + 1) c t (new_flow (is_credit t s.devices)))
      there = rw (eq-eqb (s.drawn + 1) (s.drawn + 1) refl) refl

      here : (draws_now c t s).clients c ≡ Some (record x { about = record x.about { phase = Opening (s.drawn + 1) } })
      here = changed_here c (in_phase (Opening (s.drawn + 1))) s.clients x is

      stream : StreamIn s.joined (draws_now c t s).clients (s.drawn + 1) (new_stream (s.drawn + 1) c t (new_flow (is_credit t s.devices)))
      stream = record {
        id = refl;
        from = joined_client s c x h.rows is;
        sound = sound_new (is_credit t s.devices);
        fresh = λ e. fresh_new (is_credit t s.devices);
        owner = record {
          client = record x { about = record x.about { phase = Opening (s.drawn + 1) } };
          is = here;
          phase = refl;
          accepted = omega (arith, fresh_new (is_credit t s.devices));
        };
      }

      client : ClientIn (draws_now c t s).streams c (record x { about = record x.about { phase = Opening (s.drawn + 1) } })
      client =
          let was = h.owned.client c x is in
          record {
            number = was.number;
            mark = λ m. absurd (no_mark x was.mark asking m);
            holds = record {
              stream = new_stream (s.drawn + 1) c t (new_flow (is_credit t s.devices));
              is =
                  there;
              client = refl;
              owned = refl;
            };
          }

      changes : Changes s (draws_now c t s) c (s.drawn + 1)
      changes = record {
        joined = omega arith;
        clients = λ k apart. changed_other c k (in_phase (Opening (s.drawn + 1))) s.clients apart;
        streams = λ m apart. rw (ne_eqb (s.drawn + 1) m apart) refl;
        gone = λ within e. absurd (let clash : None ≡ Some x = sym e ∙ is in cc);
        only = λ z e. (let same : x ≡ z = (let both : Some x ≡ Some z = sym is ∙ e in cc) in
            subst (λ (k : Client). IsOnly (s.drawn + 1) k.about.phase) same (subst (IsOnly (s.drawn + 1)) (sym asking) tt));
        own = λ z e. absurd (none z e);
        stream = λ y e. (let same : new_stream (s.drawn + 1) c t (new_flow (is_credit t s.devices)) ≡ y =
            (let both : Some (new_stream (s.drawn + 1) c t (new_flow (is_credit t s.devices))) ≡ Some y = sym there ∙ e in cc) in
            subst (λ (z : Stream). StreamIn s.joined (draws_now c t s).clients (s.drawn + 1) z) same stream);
        client = λ y e. (let same : record x { about = record x.about { phase = Opening (s.drawn + 1) } } ≡ y =
            (let both : Some (record x { about = record x.about { phase = Opening (s.drawn + 1) } }) ≡ Some y = sym here ∙ e in cc) in
            subst (λ (z : Client). ClientIn (draws_now c t s).streams c z) same client);
      }

-- ---- opens
sound_first : (word : Option ℕ) (flow : Flow) → IsSoundFlow flow → IsSoundFlow (first_credit word flow)
sound_first word (One window) h = h
sound_first word (Credit credit) h = record { window = h.window; few = h.few; none = h.none }

hand_first : (word : Option ℕ) (flow : Flow) → to_hand (first_credit word flow) ≡ to_hand flow
hand_first word (One window) = refl
hand_first word (Credit credit) = refl

module _ (s : State) (h : IsOwned s) where
  pub opens_owned : (l remote : ℕ) (word : Option ℕ) (stream : Stream) → s.streams l ≡ Some stream
      → (stream.part.remote ≡ 0) × (stream.part.orphan ≡ false) × (remote ≢ 0)
      → Owned s.joined (open_now l remote word stream s).clients (open_now l remote word stream s).streams
  opens_owned l remote word stream is new =
      owned_both s stream.client l of.client stream (together s l stream is new.1 h) (in_phase (Streaming l))
      (with_stream_part part) h.owned streams clients
    where
      part : Part
      part = with_remote remote (with_flow (first_credit word stream.part.flow) stream.part)

      of : ClientOf s.clients l stream
      of = client_of s l stream is new.1 h

      client : Client
      client = record of.client { about = record of.client.about { phase = Streaming l } }

      opened : Stream
      opened = record stream { part = part }

      was : StreamIn s.joined s.clients l stream
      was = h.owned.stream l stream is

      owner : ClientOf (change_row stream.client (option_and_then (in_phase (Streaming l))) s.clients) l opened
      owner = record {
        client = client;
        is = changed_here stream.client (in_phase (Streaming l)) s.clients of.client of.is;
        phase = sym (open_phase l remote new.2);
        accepted = omega (arith, of.accepted, hand_first word stream.part.flow);
      }

      streams : (y : Stream) → with_stream_part part stream ≡ Some y
          → StreamIn s.joined (change_row stream.client (option_and_then (in_phase (Streaming l))) s.clients) l y
      streams y e =
          let same : opened ≡ y = cc in
          subst (λ (z : Stream). StreamIn s.joined
          (change_row stream.client (option_and_then (in_phase (Streaming l))) s.clients) l z) same (record {
            id = was.id;
            from = was.from;
            sound = sound_first word stream.part.flow was.sound;
            fresh = λ e. absurd (new.2 e);
            owner = owner_to (change_row stream.client (option_and_then (in_phase (Streaming l))) s.clients) l opened new.1 owner;
          })

      clients : (y : Client) → in_phase (Streaming l) of.client ≡ Some y
          → ClientIn (change_row l (option_and_then (with_stream_part part)) s.streams) stream.client y
      clients y e =
          let same : client ≡ y = cc in
          let own = h.owned.client stream.client of.client of.is in
          let asked : of.client.about.phase ≡ Opening l = of.phase ∙ ap (phase_for l) new.0 in
          subst (λ (z : Client). ClientIn (change_row l (option_and_then (with_stream_part part)) s.streams) stream.client z) same (record {
            number = own.number;
            mark = λ m. absurd (let clash : Opening l ≡ Tracking = sym asked ∙ own.mark m in cc);
            holds = record {
              stream = opened;
              is = changed_here l (with_stream_part part) s.streams stream is;
              client
                  = refl;
              owned = new.1;
            };
          })

-- ---- accepts
sound_accepted : (n : ℕ) (flow : Flow) → is_out_of_turn flow n ≡ false → IsSoundFlow flow → IsSoundFlow (accepted n flow)
sound_accepted n (One window) turn h = tt
sound_accepted n (Credit credit) turn h =
    let fits : n ≤ credit.left = grind (arith, nat_tests) in
    record { window = omega (arith, h.window, fits); few = h.few; none = λ e. h.none (omega (arith, e)) }

hand_accepted : (n : ℕ) (flow : Flow) → is_out_of_turn flow n ≡ false → to_hand (accepted n flow) ≤ to_hand flow + n
hand_accepted n (One window) turn = omega arith
hand_accepted n (Credit credit) turn = omega arith

no_orphan : (clients : Rows (Option Client)) (b : Bool) (l : ℕ) (stream : Stream) → stream.part.remote ≢ 0
    → OwnerIn b clients l stream → b ≡ false
no_orphan clients true l stream known owner = absurd (known owner.0)
no_orphan clients false l stream known owner = refl

module _ (s : State) (h : IsOwned s) where
  pub accepts_owned : (l : ℕ) (payload : List ℕ) (stream : Stream) → s.streams l ≡ Some stream
      → (stream.part.remote ≢ 0) × (is_out_of_turn stream.part.flow (length payload) ≡ false)
      → Owned s.joined (accepts_now l payload stream s).clients (accepts_now l payload stream s).streams
  accepts_owned l payload stream is may =
      owned_both s stream.client l of.client stream (together s l stream is owned h) (with_due payload)
      (with_stream_part part) h.owned streams clients
    where
      part : Part
      part = with_flow (accepted (length payload) stream.part.flow) stream.part

      was : StreamIn s.joined s.clients l stream
      was = h.owned.stream l stream is

      owned : stream.part.orphan ≡ false
      owned = no_orphan s.clients stream.part.orphan l stream may.0 was.owner

      of : ClientOf s.clients l stream
      of = client_of s l stream is owned h

      client : Client
      client = record of.client { due = of.client.due ++ payload }

      taken : Stream
      taken = record stream { part = part }

      streams : (y : Stream) → with_stream_part part stream ≡ Some y
          → StreamIn s.joined (change_row stream.client (option_and_then (with_due payload)) s.clients) l y
      streams y e =
          let same : taken ≡ y = cc in
          subst (λ (z : Stream). StreamIn s.joined
          (change_row stream.client (option_and_then (with_due payload)) s.clients) l z) same (record {
            id = was.id;
            from = was.from;
            sound = sound_accepted (length payload) stream.part.flow may.1 was.sound;
            fresh = λ e. absurd (may.0 e);
            owner = owner_to (change_row stream.client (option_and_then (with_due payload)) s.clients) l taken owned (record {
              client = client;
              is = changed_here stream.client (with_due payload) s.clients of.client of.is;
              phase = of.phase;
              accepted = omega (
                arith,
                of.accepted,
                hand_accepted (length payload) stream.part.flow may.1,
                length-append
                    of.client.due payload,
              );
            });
          })

      clients : (y : Client) → with_due payload of.client ≡ Some y
          → ClientIn (change_row l (option_and_then (with_stream_part part)) s.streams) stream.client y
      clients y e =
          let same : client ≡ y = cc in
          let own = h.owned.client stream.client of.client of.is in
          let in_ : of.client.about.phase ≡ Streaming l = of.phase ∙ open_phase l stream.part.remote may.0 in
          subst (λ (z : Client). ClientIn (change_row l (option_and_then (with_stream_part part)) s.streams) stream.client z) same (record {
            number = own.number;
            mark = own.mark;
            holds = subst
                (λ (p : Phase). HoldsIn p (change_row l (option_and_then (with_stream_part part)) s.streams)
                stream.client client) (sym in_)
                (record { stream = taken; is = changed_here l (with_stream_part part) s.streams stream is; client = refl; owned = owned });
          })

  -- ---- ends
  -- a stream ends, and its client is closing
  pub closed_owned : (l : ℕ) (stream : Stream) → s.streams l ≡ Some stream → stream.part.orphan ≡ false
      → Owned s.joined (closes stream.client (to_stream l none_kept s)).clients (to_stream l none_kept s).streams
  closed_owned l stream is owned =
      let of = client_of s l stream is owned h in
      owned_both s stream.client l of.client stream (together s l stream is owned h) closing none_kept h.owned (λ y e. absurd (none y e))
      (λ y e. closing_in (to_stream l none_kept s).streams stream.client of.client.due of.client y
      (h.owned.client stream.client of.client of.is).number e)
    where
      none : (y : Stream) → None ≡ Some y → ⊥
      none y e = cc

  -- an orphan goes
  pub orphan_owned : (l : ℕ) (stream : Stream) → s.streams l ≡ Some stream → stream.part.orphan ≡ true
      → Owned s.joined s.clients (to_stream l none_kept s).streams
  orphan_owned l stream is orphan = owned_changes s (to_stream l none_kept s) 0 l (record {
    joined = omega arith;
    clients = λ k apart. refl;
    streams = λ m apart. changed_other l m none_kept s.streams apart;
    gone = λ within e. e;
    only = λ x e. absurd (let clash : None ≡ Some x = sym h.rows.clients.zero ∙ e in cc);
    own = λ x e. (let same : stream ≡ x = (let both : Some stream ≡ Some x = sym is ∙ e in cc)
        in inl (ap (λ (y : Stream). y.part.orphan) (sym same) ∙ orphan));
    stream = λ y e. absurd (let clash : None ≡ Some y = sym (changed_here l none_kept s.streams stream is) ∙ e in cc);
    client = λ y e. absurd (let clash : None ≡ Some y = sym h.rows.clients.zero ∙ e in cc);
  }) h.owned

  -- both go
  pub fails_owned : (c l : ℕ) (client : Client) (stream : Stream) → Together s c l client stream
      → Owned s.joined (to_client c none_kept s).clients (to_stream l none_kept s).streams
  fails_owned c l client stream t =
      owned_both s c l client stream t none_kept none_kept h.owned (λ y e. absurd (stream_none y e)) (λ y e. absurd (client_none y e))
    where
      stream_none : (y : Stream) → None ≡ Some y → ⊥
      stream_none y e = cc

      client_none : (y : Client) → None ≡ Some y → ⊥
      client_none y e = cc

  -- a client goes whose stream was asked for
  pub orphans_owned : (c l : ℕ) (client : Client) (stream : Stream) → Together s c l client stream → client.about.phase ≡ Opening l
      → Owned s.joined (to_client c none_kept s).clients (to_stream l (with_stream_part (orphaned stream.part)) s).streams
  orphans_owned c l client stream t asked =
      owned_both s c l client stream t none_kept (with_stream_part (orphaned stream.part)) h.owned streams (λ y e. absurd (client_none y e))
    where
      client_none : (y : Client) → None ≡ Some y → ⊥
      client_none y e = cc

      streams : (y : Stream) → with_stream_part (orphaned stream.part) stream ≡ Some y
          → StreamIn s.joined (change_row c (option_and_then none_kept) s.clients) l y
      streams y e =
          let orphan : Stream = record stream { part = orphaned stream.part } in
          let same : orphan ≡ y = cc in
          let was = h.owned.stream l stream t.there in
          subst (λ (z : Stream). StreamIn s.joined (change_row c (option_and_then none_kept) s.clients) l z) same (record {
            id = was.id;
            from = was.from;
            sound = was.sound;
            fresh = was.fresh;
            owner = (
              asked_phase client.about.phase l stream.part.remote asked t.phase,
              ap (change_row c (option_and_then none_kept) s.clients) t.of ∙ changed_here c none_kept s.clients client t.here,
            );
          })

  -- ---- hands
  -- a client is handed bytes, and keeps its stream
  less_owned : (c n l : ℕ) (x : Client) (stream : Stream) → Together s c l x stream → hands n x ≡ Some (record x { due = drop n x.due })
      → (to_hand stream.part.flow ≤ length (drop n x.due)) × HoldsIn x.about.phase s.streams c (record x { due = drop n x.due })
      → Owned s.joined (to_client c (hands n) s).clients s.streams
  less_owned c n l x stream t is fits = owned_kept s c l x stream t (hands n) h.owned kept clients
    where
      less : Client
      less = record x { due = drop n x.due }

      was : StreamIn s.joined s.clients l stream
      was = h.owned.stream l stream t.there

      kept : StreamIn s.joined (change_row c (option_and_then (hands n)) s.clients) l stream
      kept = record {
        id = was.id;
        from = was.from;
        sound = was.sound;
        fresh = was.fresh;
        owner = owner_to (change_row c (option_and_then (hands n)) s.clients) l stream t.owned (record {
          client = less;
          is = ap (change_row c (option_and_then (hands n)) s.clients) t.of ∙ (changed_here c (hands n) s.clients x t.here ∙ is);
          phase = t.phase;
          accepted = fits.0;
        });
      }

      clients : (y : Client) → hands n x ≡ Some y → ClientIn s.streams c y
      clients y e =
          let same : less ≡ y = (let both : Some less ≡ Some y = sym is ∙ e in cc) in
          let own = h.owned.client c x t.here in
          subst (λ (z : Client). ClientIn s.streams c z) same (record { number = own.number; mark = own.mark; holds = fits.1 })

  -- of a client that has no stream
  free_less : (c n : ℕ) (x : Client) → (s.clients c ≡ Some x) × IsOnly 0 x.about.phase → hands n x ≡ Some (record x { due = drop n x.due })
      → HoldsIn x.about.phase s.streams c (record x { due = drop n x.due }) → Owned s.joined (to_client c (hands n) s).clients s.streams
  free_less c n x is e holds = owned_client s h c (hands n) x is keeps
    where
      keeps : (y : Client) → hands n x ≡ Some y → ClientIn s.streams c y
      keeps y f =
          let less : Client = record x { due = drop n x.due } in
          let same : less ≡ y = (let both : Some less ≡ Some y = sym e ∙ f in cc) in
          let own = h.owned.client c x is.0 in
          subst (λ (z : Client). ClientIn s.streams c z) same (record { number = own.number; mark = own.mark; holds = holds })

  pub hands_owned : (c n : ℕ) (x : Client) → s.clients c ≡ Some x
      → ((l : ℕ) (stream : Stream) → x.about.phase ≡ Streaming l → s.streams l ≡ Some stream
      → to_hand stream.part.flow ≤ length (drop n x.due))
      → Owned s.joined (to_client c (hands n) s).clients s.streams
  hands_owned c n x is fits = go x.about.phase refl (h.owned.client c x is).holds
    where
      less : Client
      less = record x { due = drop n x.due }

      at_phase : (phase : Phase) → x.about.phase ≡ phase → hands n x ≡ left_in phase (drop n x.due) x
      at_phase phase e = ap (λ p. left_in p (drop n x.due) x) e

      to_phase : (phase : Phase) → x.about.phase ≡ phase → HoldsIn phase s.streams c less → HoldsIn x.about.phase s.streams c less
      to_phase phase e holds = subst (λ (p : Phase). HoldsIn p s.streams c less) (sym e) holds

      go : (phase : Phase) → x.about.phase ≡ phase → HoldsIn x.about.phase s.streams c x
          → Owned s.joined (to_client c (hands n) s).clients s.streams
      go Asking e holds = free_less c n x (is, subst (IsOnly 0) (sym e) tt) (at_phase Asking e) (to_phase Asking e tt)
      go Binding e holds =
          free_less c n x (is, subst (IsOnly 0) (sym e) tt) (at_phase Binding e)
          (to_phase Binding e (subst (λ (p : Phase). HoldsIn p s.streams c x) e holds))
      go Tracking e holds =
          free_less c n x (is, subst (IsOnly 0) (sym e) tt) (at_phase Tracking e)
          (to_phase Tracking e (subst (λ (p : Phase). HoldsIn p s.streams c x) e holds))
      go (Opening l) e holds =
          let own : StreamOf s.streams c l = subst (λ (p : Phase). HoldsIn p s.streams c x) e holds in
          let t = together_own s h c l x own is in
          let fresh = (h.owned.stream l own.stream own.is).fresh (asked_phase x.about.phase l own.stream.part.remote e t.phase) in
          less_owned c n l x own.stream t (at_phase (Opening l) e) (omega (arith, fresh), to_phase (Opening l) e own)
      go (Streaming l) e holds =
          let own : StreamOf s.streams c l = subst (λ (p : Phase). HoldsIn p s.streams c x) e holds in
          less_owned c n l x own.stream (together_own s h c l x own is) (at_phase (Streaming l) e)
          (fits l own.stream e own.is, to_phase (Streaming l) e own)
      go Closing e holds =
          owned_client s h c (hands n) x (is, subst (IsOnly 0) (sym e) tt)
          (λ y f. closing_in s.streams c (drop n x.due) less y (h.owned.client c x is).number (sym (at_phase Closing e) ∙ f))
      go Gone e holds = absurd (subst (λ (p : Phase). HoldsIn p s.streams c x) e holds)
