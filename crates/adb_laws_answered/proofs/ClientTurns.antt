-- What holds of a client that asks no more, through each entry.
use Rattle.std.proofs.Common.{◌≡◌, ◌≢◌, ℕ, ◌+◌, ◌≤◌, Bool, true, false, cond, List, [], ◌∷◌, ◌++◌, length, Option, Some, None, refl, sym}
use Rattle.std.proofs.Common.{ap, subst, ◌∙◌, eqb}
use Rattle.std.proofs.Common.{arith}
use Rattle.std.specs.Prelude.{option_and_then, option_map}
use Rattle.std.proofs.lemmas.Bool.{ne_eqb, eqb-true, eqb-false}
use Rattle.adb_outside.specs.Bytes.{IsPrefixOf}
use Rattle.adb_outside.specs.declared.kinds.Kind.{Kind}
use Rattle.adb_client.specs.declared.phase.Phase.{Phase}
use Rattle.adb_client.specs.declared.phase.Phase.TheVariants.{Opening, Streaming, Closing}
use Rattle.adb_capture.specs.declared.entry.Entry.{Entry}
use Rattle.adb_capture.specs.declared.entry.Entry.TheVariants.{Join, Enter, Read, End, Bound, Attach, Recv, Detach, Put}
use Rattle.adb_history.specs.Rows.{Client, State, new_client, new_link, to_client, with_held}
use Rattle.adb_history.specs.Events.{Made, Event}
use Rattle.adb_history.specs.Tracking.{marked, list_if_stale, due_or, offered}
use Rattle.adb_history.specs.Asking.{asks_with}
use Rattle.adb_history.specs.Reading.{comes, has_asked, asked_before, reads_in, reads_from, bound_in, bound_at}
use Rattle.adb_history.specs.Handing.{lists_first, takes_of, puts_to}
use Rattle.adb_wire.specs.declared.packets.Packet.{Packet}
use Rattle.adb_history.specs.Bytes.{is_orderly}
use Rattle.adb_history.specs.Machine.{rule, ups, step, May, MayPut, IsSomeOf}
use Rattle.adb_history.specs.Moves.{After, HasOne, plugged_in}
use Rattle.adb_history.specs.Owned.{IsOwned}
use Rattle.adb_history.proofs.Following.{after_quietly, after_then}
use Rattle.adb_history.proofs.OwnedStep.{begins_owned}
use Rattle.adb_history.specs.Turns.{Scope, Allows, everywhere, Turns, serving}
use Rattle.adb_history.proofs.StreamMoves.{up_all_turns}
use Rattle.adb_history.proofs.RuleMoves.{rule_turns, takes_turns}

-- a client that asks no more: it has a stream, or is closing
abbrev pub IsBusy : Phase → Type 0
IsBusy (Opening l) = Unit {0}
IsBusy (Streaming l) = Unit {0}
IsBusy Closing = Unit {0}
IsBusy _ = ⊥

-- What holds of a client that asks no more, by its row, the streams and what was told.
pub record IsOfClient (scope : Scope) (c t : ℕ) (P : State → List Event → Type 0) : Type 0 where
  pub turns : (asker : ℕ) → asker ≢ c → Turns scope asker P
  pub owned : (s : State) (w : List Event) → P s w → IsOwned s
  pub busy : (s : State) (w : List Event) (client : Client) → P s w → s.clients c ≡ Some client → IsBusy client.about.phase
  pub stays : (s next : State) (w : List Event) → IsOwned next → next.clients c ≡ s.clients c
      → next.streams ≡ s.streams → next.drawn ≡ s.drawn
      → next.links t ≡ s.links t → P s w → P next w
  pub marks : (s next : State) (w : List Event) → IsOwned next → next.clients c ≡ option_map marked (s.clients c) → next.streams ≡ s.streams
      → next.drawn ≡ s.drawn → next.links t ≡ s.links t → P s w → P next w

-- an entry by which another client or another link comes, if any
abbrev pub IsAnother : (c t : ℕ) → Entry → Type 0
IsAnother c t (Join n) = n ≢ c
IsAnother c t (Enter n port) = n ≢ c
IsAnother c t (Attach n kind serial) = n ≢ t
IsAnother c t _ = Unit {0}

-- an entry that touches no more than that
abbrev pub Covers : Scope → Entry → Type 0
Covers scope (Read c bytes) = scope.stops
Covers scope (End c cause) = is_orderly cause ≡ false → scope.fails c
Covers scope (Recv t bytes) = ((p : Packet) → Allows scope t p.command p) × scope.cuts t
Covers scope (Detach t cause) = scope.cuts t
Covers scope _ = Unit {0}

pub covers_all : (e : Entry) → Covers everywhere e
covers_all (End n cause) = λ e. tt
covers_all (Recv t bytes) = ((λ p. record { reaches = λ e. tt; renews = λ e. tt; cuts = λ e. tt }), tt)
covers_all _ = tt

-- who comes has a number that was not drawn
pub another_comes : (c t : ℕ) (s : State) (e : Entry) → (c ≤ s.joined) × (t ≤ s.devices.drawn) → May s e → IsAnother c t e
another_comes c t s (Join n) below may = λ same. omega (arith, same, below.0, may.1)
another_comes c t s (Enter n port) below may = λ same. omega (arith, same, below.0, may.1)
another_comes c t s (Attach n kind serial) below may = λ same. omega (arith, same, below.1, may.1)
another_comes c t s _ below may = tt

module _ {scope : Scope} {c t : ℕ} {P : State → List Event → Type 0} (k : IsOfClient scope c t P) where
  other : c + 1 ≢ c
  other e = omega (arith, e)

  module _ (s : State) (w : List Event) (h : P s w) where
    -- ---- an entry of another
    came_same : (forwarded : Bool) (n : ℕ) → n ≢ c → (comes forwarded n s).clients c ≡ s.clients c
    came_same forwarded n apart = ap (λ (b : Bool). cond b (Some (new_client forwarded n)) (s.clients c)) (ne_eqb n c apart)

    join_kept : (n : ℕ) → n ≢ c → May s (Join n) → After P w (rule (Join n) s)
    join_kept n apart may =
        rule_turns (k.turns (c + 1) other) (Join n) s w tt
        (k.stays s (comes false n s) w (begins_owned s (k.owned s w h) (Join n) w may) (came_same false n apart) refl refl refl h)

    enter_kept : (n port : ℕ) → n ≢ c → May s (Enter n port) → After P w (rule (Enter n port) s)
    enter_kept n port apart may =
        let owned = begins_owned s (k.owned s w h) (Enter n port) w may in
        rule_turns (k.turns n apart) (Enter n port) s w refl
        (k.stays s (comes true n s) w owned.0 (came_same true n apart) refl refl refl h, k.stays s _ w owned.1 refl refl refl refl h)

    attach_kept : (n : ℕ) (kind : Kind) (serial : List ℕ) → n ≢ t → May s (Attach n kind serial) → After P w (rule (Attach n kind serial) s)
    attach_kept n kind serial apart may = rule_turns (k.turns (c + 1) other) (Attach n kind serial) s w tt
        (k.marks s (plugged_in n kind serial s) w (begins_owned s (k.owned s w h) (Attach n kind serial) w may) refl refl refl
        (ap (λ (b : Bool). cond b (Some new_link) (s.links t)) (ne_eqb n t apart)) h)

    read_kept : (n : ℕ) (bytes : List ℕ) → n ≢ c → scope.stops → May s (Read n bytes) → After P w (rule (Read n bytes) s)
    read_kept n bytes apart stops may = rule_turns (k.turns n apart) (Read n bytes) s w (refl, stops) (
      h,
      λ client is asking.
          k.stays s (to_client n (has_asked (asks_with s.devices s.forwards bytes (asked_before client))) s) w
          ((begins_owned s (k.owned s w h) (Read n bytes) w may).1 client is asking)
          (ap (λ (b : Bool). cond b
          (option_and_then (has_asked (asks_with s.devices s.forwards bytes (asked_before client)))
          (s.clients c)) (s.clients c))
          (ne_eqb n c apart)) refl refl refl h,
    )

    -- ---- its own
    own_turns : Turns scope (c + 1) P
    own_turns = k.turns (c + 1) other

    own_reads_in : (bytes : List ℕ) (client : Client) → s.clients c ≡ Some client → (p : Phase) → client.about.phase ≡ p → IsBusy p
        → After P w (reads_in p c bytes client s)
    own_reads_in bytes client is (Opening l) e busy = after_quietly P w (to_client c (with_held (client.held ++ bytes)) s)
        (own_turns.holds c client (client.held ++ bytes) s w is (subst HasOne (sym e) tt) h)
    own_reads_in bytes client is (Streaming l) e busy = after_quietly P w (to_client c (with_held (client.held ++ bytes)) s)
        (own_turns.holds c client (client.held ++ bytes) s w is (subst HasOne (sym e) tt) h)
    own_reads_in bytes client is Closing e busy = after_quietly P w s h
    own_reads_in bytes client is _ e busy = absurd busy

    own_read : (bytes : List ℕ) (o : Option Client) → s.clients c ≡ o → After P w (reads_from o c bytes s)
    own_read bytes None is = after_quietly P w s h
    own_read bytes (Some client) is = own_reads_in bytes client is client.about.phase refl (k.busy s w client h is)

    own_bound_in : (port : ℕ) (client : Client) (p : Phase) → IsBusy p → After P w (bound_in p client.about.want c port s)
    own_bound_in port client (Opening l) busy = after_quietly P w s h
    own_bound_in port client (Streaming l) busy = after_quietly P w s h
    own_bound_in port client Closing busy = after_quietly P w s h
    own_bound_in port client _ busy = absurd busy

    own_bound : (port : ℕ) (o : Option Client) → s.clients c ≡ o → After P w (bound_at o c port s)
    own_bound port None is = after_quietly P w s h
    own_bound port (Some client) is = own_bound_in port client client.about.phase (k.busy s w client h is)

    -- a list is not offered to it
    offers_none : (bytes : List ℕ) (client : Client) → s.clients c ≡ Some client → client.due ≡ []
        → IsSomeOf bytes (offered s.devices client) → ⊥
    offers_none bytes client is none may = go client.about.mark refl
      where
        nothing : (x : List ℕ) → IsPrefixOf x [] → x ≡ []
        nothing [] p = refl
        nothing (b ∷ x) (rest, e) = absurd (let clash : b ∷ (x ++ rest) ≡ [] = e in cc)

        busy : IsBusy client.about.phase
        busy = k.busy s w client h is

        go : (m : Bool) → client.about.mark ≡ m → ⊥
        go true e = subst IsBusy (((k.owned s w h).owned.client c client is).mark e) busy
        go false e = may.some (nothing bytes (subst (λ (x : List ℕ). IsPrefixOf bytes x)
            (ap (λ (x : List ℕ). due_or x (list_if_stale s.devices client.about.mark client.about.long)) none
            ∙ ap (λ (m : Bool). list_if_stale s.devices m client.about.long) e) may.front))

    own_lists : (bytes : List ℕ) (client : Client) → s.clients c ≡ Some client → IsSomeOf bytes (offered s.devices client) → (due : List ℕ)
        → client.due ≡ due → After P w (lists_first c due client s)
    own_lists bytes client is may [] none = absurd (offers_none bytes client is none may)
    own_lists bytes client is may (b ∷ due) some = after_quietly P w s h

    own_put : (bytes : List ℕ) (o : Option Client) → s.clients c ≡ o → MayPut s o bytes → After P w (puts_to o c (length bytes) s)
    own_put bytes None is may = absurd may
    own_put bytes (Some client) is may =
        let m : Made = lists_first c client.due client s in
        after_then P w m (λ x. takes_of c (length bytes) (x.clients c) x) (own_lists bytes client is may client.due refl)
        (λ v now. takes_turns (serving own_turns) m.state v now c (length bytes) (m.state.clients c) refl)

    -- ---- all entries
    read_either : (n : ℕ) (bytes : List ℕ) → scope.stops → May s (Read n bytes) → (here : Bool) → eqb n c ≡ here
        → After P w (rule (Read n bytes) s)
    read_either n bytes stops may false e = read_kept n bytes (eqb-false n c e) stops may
    read_either n bytes stops may true e =
        subst (λ (m : ℕ). After P w (rule (Read m bytes) s)) (sym (eqb-true n c e)) (own_read bytes (s.clients c) refl)

    bound_either : (n port : ℕ) → (here : Bool) → eqb n c ≡ here → After P w (rule (Bound n port) s)
    bound_either n port false e = rule_turns (k.turns n (eqb-false n c e)) (Bound n port) s w refl h
    bound_either n port true e =
        subst (λ (m : ℕ). After P w (rule (Bound m port) s)) (sym (eqb-true n c e)) (own_bound port (s.clients c) refl)

    put_either : (n : ℕ) (bytes : List ℕ) → May s (Put n bytes) → (here : Bool) → eqb n c ≡ here → After P w (rule (Put n bytes) s)
    put_either n bytes may false e = rule_turns (k.turns n (eqb-false n c e)) (Put n bytes) s w refl h
    put_either n bytes may true e =
        subst (λ (m : ℕ). After P w (rule (Put m bytes) s)) (sym (eqb-true n c e))
        (own_put bytes (s.clients c) refl (subst (λ (m : ℕ). MayPut s (s.clients m) bytes) (eqb-true n c e) may))

    client_rule : (e : Entry) → IsAnother c t e → Covers scope e → May s e → After P w (rule e s)
    client_rule (Join n) another covers may = join_kept n another may
    client_rule (Enter n port) another covers may = enter_kept n port another may
    client_rule (Read n bytes) another covers may = read_either n bytes covers may (eqb n c) refl
    client_rule (Bound n port) another covers may = bound_either n port (eqb n c) refl
    client_rule (Put n bytes) another covers may = put_either n bytes may (eqb n c) refl
    client_rule (Attach n kind serial) another covers may = attach_kept n kind serial another may
    client_rule e another covers may = rule_turns own_turns e s w covers h

  -- What holds of a client that asks no more, each entry keeps.
  pub client_kept : (s : State) (w : List Event) (e : Entry) → IsAnother c t e → Covers scope e → May s e → P s w → After P w (step s e)
  client_kept s w e another covers may h =
      after_then P w (rule e s) ups (client_rule s w h e another covers may)
      (λ v now. up_all_turns (serving (k.turns (c + 1) other)) (rule e s).state v now (rule e s).state.drawn)

  -- and the up rule
  pub client_ups : (s : State) (w : List Event) → P s w → After P w (ups s)
  client_ups s w h = up_all_turns (serving (k.turns (c + 1) other)) s w h s.drawn
