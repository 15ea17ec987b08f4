-- A client that waits for a listener hears of it: what it is answered is what the entries say.
use Rattle.std.proofs.Common.{◌≡◌, ℕ, Bool, true, false, cond, List, [], ◌∷◌, ◌++◌, Option, Some, None, refl, sym, ap, subst, ◌∙◌}
use Rattle.std.proofs.Common.{eqb}
use Rattle.std.proofs.lemmas.Bool.{eq-eqb}
use Rattle.std.proofs.lemmas.List.{append-nil}
use Rattle.adb_registry.specs.Registry.{DeviceTable}
use Rattle.adb_forward.specs.declared.row.ForwardRow.{ForwardRow}
use Rattle.adb_client.specs.declared.phase.Phase.{Phase}
use Rattle.adb_client.specs.declared.phase.Phase.TheVariants.{Asking, Opening, Streaming, Binding, Tracking, Closing, Gone}
use Rattle.adb_client.specs.declared.about.Want.{Want}
use Rattle.adb_reply.specs.declared.answer.Next.{Next}
use Rattle.adb_reply.specs.declared.answer.Next.TheVariants as what
use Rattle.adb_capture.specs.declared.entry.Entry.TheVariants.{Bound}
use Rattle.adb_history.specs.Rows.{Client, State, to_client, with_due}
use Rattle.adb_history.specs.Events.{Made, Event, quietly, owed_to}
use Rattle.adb_history.specs.Forwarding.{Binding as Bound_to, bound_by}
use Rattle.adb_history.specs.Reading.{bound_to, bound_for, bound_in, bound_at}
use Rattle.adb_history.specs.Machine.{History, state, told, rule, May, IsLegal}
use Rattle.adb_history.specs.Book.{book, devices_if, bound_turn}
use Rattle.adb_history.specs.Answered.{lists_of, last_list}
use Rattle.adb_history.specs.Moves.{After}
use Rattle.adb_history.specs.Owned.{IsOwned}
use Rattle.adb_history.proofs.Following.{after_quietly}
use Rattle.adb_history.proofs.RuleMoves as moves
use Rattle.adb_history.proofs.Growing.{owed_append}
use Rattle.adb_history.proofs.OwnedStep.{owned_moves, begins_owned}
use Rattle.adb_history.proofs.Booked.{wants_in, wants_now}
use Rattle.adb_history.proofs.BookTurns.{IsBooked}
use Rattle.adb_history.proofs.BookClients.{devices_now}
use Rattle.adb_history.proofs.Books.{booked}
use Rattle.adb_laws_answered.specs.Heard.{Heard, heard, after_replies, asks_stream, asks_bind, IsUnbound, PhaseSays, Owes, Answers}
use Rattle.adb_laws_answered.proofs.HeardMoves.{prefix_more}
use Rattle.adb_laws_answered.proofs.HeardAsks.{rows_closed}

-- ---- a client that waits for a listener
bind_streams : (next : Option Next) → asks_bind next ≡ true → asks_stream next ≡ false
bind_streams (Some (what.Bind transport local remote chosen)) e = refl
bind_streams _ e = absurd (let clash : false ≡ true = e in cc)

bind_after : (r : Heard) (next : Option Next) → asks_bind next ≡ true → after_replies next r ≡ r.bound
bind_after r (Some (what.Bind transport local remote chosen)) e = refl
bind_after r _ e = absurd (let clash : false ≡ true = e in cc)

-- it is told of its listener, and of nothing else
owes_bound : (r : Heard) (out reply : List ℕ) → IsUnbound r → Owes r out → Owes (record r { bound = reply }) (out ++ reply)
owes_bound r out reply un h = record {
  begins = prefix_more r.replies out reply h.begins;
  all = λ other. ap (λ x. x ++ reply) before ∙ ap (λ x. r.replies ++ x) (sym (bind_after (record r { bound = reply }) r.next un.next));
}
  where
    before : out ≡ r.replies
    before = h.all (bind_streams r.next un.next)
        ∙ (ap (λ x. r.replies ++ x) (bind_after r r.next un.next ∙ un.bound) ∙ append-nil r.replies)

module _ (c : ℕ) (older : History) (legal : IsLegal older) (port : ℕ) (may : May (state older) (Bound c port)) where
  abbrev s : State
  s = state older

  abbrev w : List Event
  w = told older

  books : IsBooked s older
  books = booked older legal

  heard_turn : DeviceTable → Option Want → Heard
  heard_turn d o = record {
    next = ((bound_turn c port d o (book older)).asked c).next;
    replies = ((bound_turn c port d o (book older)).asked c).replies;
    bound = (bound_turn c port d o (book older)).bound c;
    lists = λ long. lists_of long c older;
    last = λ long. last_list long c older;
  }

  module _ (h : Answers c (heard c older) s.devices s w) where
    -- it waits for none
    bound_none : wants_now (s.clients c) ≡ None → bound_at (s.clients c) c port s ≡ quietly s
        → After (λ x v. Answers c (heard c (Bound c port ∷ older)) x.devices x v) w (rule (Bound c port) s)
    unfolding heard_turn
    bound_none none same =
        let waits : (book older).waits c ≡ None = sym (books.clients may.0 c).waits ∙ none in
        let r : heard c older ≡ heard c (Bound c port ∷ older) = sym (ap (heard_turn (devices_if (book older).killed older)) waits) in
        subst (λ (m : Made). After (λ x v. Answers c (heard c (Bound c port ∷ older)) x.devices x v) w m) (sym same)
        (after_quietly (λ x v. Answers c (heard c (Bound c port ∷ older)) x.devices x v) w s
        (subst (λ (r : Heard). Answers c r s.devices s w) r h))

    bound_some : (client : Client) (want : Want) → s.clients c ≡ Some client → client.about.phase ≡ Binding → client.about.want ≡ Some want
        → After (λ x v. Answers c (heard c (Bound c port ∷ older)) x.devices x v) w (rule (Bound c port) s)
    unfolding heard_turn
    bound_some client want is binding wanted =
        subst (λ (m : Made). After (λ x v. Answers c (heard c (Bound c port ∷ older)) x.devices x v) w m) (sym made_is)
        (subst (λ (r : Heard). Answers c r m.state.devices m.state (w ++ m.told)) (sym heard_is) (record {
          owned = subst (λ (x : Made). IsOwned x.state) made_is
              (moves.rule_kept owned_moves (Bound c port) s w (begins_owned s h.owned (Bound c port) w may));
          row = rows_closed c now s.devices (to_client c (with_due by.reply) s).clients;
          owes = subst (λ (x : List ℕ). Owes now x) (sym out_is) (owes_bound (heard c older) (owed_to c w) by.reply unbound h.owes);
        }))
      where
        by : Bound_to
        by = bound_by want port s.devices s.forwards

        m : Made
        m = bound_to c by s

        now : Heard
        now = record (heard c older) { bound = by.reply }

        made_is : rule (Bound c port) s ≡ m
        made_is = ap (λ (o : Option Client). bound_at o c port s) is
            ∙ (ap (λ (x : Phase). bound_in x client.about.want c port s) binding ∙ ap (λ (o : Option Want). bound_for o c port s) wanted)

        waits : (book older).waits c ≡ Some want
        waits = sym (books.clients may.0 c).waits
            ∙ (ap wants_now is ∙ (ap (λ (x : Phase). wants_in x client.about.want) binding ∙ wanted))

        heard_is : heard c (Bound c port ∷ older) ≡ now
        heard_is = ap (heard_turn (devices_if (book older).killed older)) waits
            ∙ (ap (λ (d : DeviceTable). heard_turn d (Some want)) (sym (devices_now older legal books))
            ∙ (ap (λ (f : List (ℕ × ForwardRow)).
            record (heard c older) { bound = cond (eqb c c) (bound_by want port s.devices f).reply ((book older).bound c) })
            (sym books.forwards)
            ∙ ap (λ (b : Bool). record (heard c older) { bound = cond b by.reply ((book older).bound c) }) (eq-eqb c c refl)))

        unbound : IsUnbound (heard c older)
        unbound = subst (λ (x : Phase). PhaseSays x (heard c older) s.devices client.about.long client.about.mark) binding (h.row client is)

        out_is : owed_to c (w ++ m.told) ≡ owed_to c w ++ by.reply
        out_is = owed_append c w m.told
            ∙ ap (λ x. owed_to c w ++ x) (ap (λ (b : Bool). cond b by.reply [] ++ []) (eq-eqb c c refl) ∙ append-nil by.reply)

    pub own_bound_answers : After (λ x v. Answers c (heard c (Bound c port ∷ older)) x.devices x v) w (rule (Bound c port) s)
    own_bound_answers = go (s.clients c) refl
      where
        wanted : (client : Client) → s.clients c ≡ Some client → client.about.phase ≡ Binding → (o : Option Want) → client.about.want ≡ o
            → After (λ x v. Answers c (heard c (Bound c port ∷ older)) x.devices x v) w (rule (Bound c port) s)
        wanted client is binding None e =
            bound_none (ap wants_now is ∙ (ap (λ (x : Phase). wants_in x client.about.want) binding ∙ e))
            (ap (λ (o : Option Client). bound_at o c port s) is
            ∙ (ap (λ (x : Phase). bound_in x client.about.want c port s) binding ∙ ap (λ (o : Option Want). bound_for o c port s) e))
        wanted client is binding (Some want) e = bound_some client want is binding e

        idle : (client : Client) → s.clients c ≡ Some client → (phase : Phase) → client.about.phase ≡ phase
            → wants_in phase client.about.want ≡ None
            → bound_in phase client.about.want c port s ≡ quietly s
            → After (λ x v. Answers c (heard c (Bound c port ∷ older)) x.devices x v) w (rule (Bound c port) s)
        idle client is phase e none same =
            bound_none (ap wants_now is ∙ (ap (λ (x : Phase). wants_in x client.about.want) e ∙ none))
            (ap (λ (o : Option Client). bound_at o c port s) is ∙ (ap (λ (x : Phase). bound_in x client.about.want c port s) e ∙ same))

        in_phase_of : (client : Client) → s.clients c ≡ Some client → (phase : Phase) → client.about.phase ≡ phase
            → After (λ x v. Answers c (heard c (Bound c port ∷ older)) x.devices x v) w (rule (Bound c port) s)
        in_phase_of client is Binding e = wanted client is e client.about.want refl
        in_phase_of client is Asking e = idle client is Asking e refl refl
        in_phase_of client is (Opening l) e = idle client is (Opening l) e refl refl
        in_phase_of client is (Streaming l) e = idle client is (Streaming l) e refl refl
        in_phase_of client is Tracking e = idle client is Tracking e refl refl
        in_phase_of client is Closing e = idle client is Closing e refl refl
        in_phase_of client is Gone e = idle client is Gone e refl refl

        go : (o : Option Client) → s.clients c ≡ o
            → After (λ x v. Answers c (heard c (Bound c port ∷ older)) x.devices x v) w (rule (Bound c port) s)
        go None is = bound_none (ap wants_now is) (ap (λ (o : Option Client). bound_at o c port s) is)
        go (Some client) is = in_phase_of client is client.about.phase refl
