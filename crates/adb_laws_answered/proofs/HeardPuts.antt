-- A client is handed what is due to it: what it is answered is what the entries say.
use Rattle.std.proofs.Common.{◌≡◌, ℕ, ◌+◌, Bool, true, false, cond, List, [], ◌∷◌, ◌++◌, length, Option, Some, None, refl, sym, ap, subst}
use Rattle.std.proofs.Common.{◌∙◌}
use Rattle.std.proofs.Common.{append_assoc, arith}
use Rattle.std.specs.Prelude.{nat_eq, ◌&&◌}
use Rattle.std.proofs.lemmas.Bool.{eq-eqb, ne_eqb}
use Rattle.std.proofs.lemmas.List.{append-nil, length-append}
use Rattle.adb_outside.specs.Bytes.{IsPrefixOf}
use Rattle.adb_registry.specs.Registry.{DeviceTable}
use Rattle.adb_client.specs.declared.phase.Phase.{Phase}
use Rattle.adb_client.specs.declared.phase.Phase.TheVariants.{Asking, Opening, Streaming, Binding, Tracking, Closing, Gone}
use Rattle.adb_reply.specs.declared.answer.Next.{Next}
use Rattle.adb_reply.specs.declared.answer.Next.TheVariants as what
use Rattle.adb_capture.specs.declared.entry.Entry.TheVariants.{Put}
use Rattle.adb_history.specs.Rows.{Client, State, to_client, with_due}
use Rattle.adb_history.specs.Events.{Made, Event, due_to_client, owed_to}
use Rattle.adb_history.specs.Tracking.{tracked_list, list_if_stale, due_or, offered}
use Rattle.adb_history.specs.Handing.{unmarked, lists_first, takes_of, puts_to}
use Rattle.adb_history.specs.Machine.{History, state, told, rule, May, MayPut, IsSomeOf, IsLegal}
use Rattle.adb_history.specs.Bytes.{bytes_put}
use Rattle.adb_history.specs.Book.{asked, devices}
use Rattle.adb_history.specs.Answered.{list_if, lists_of, last_list}
use Rattle.adb_history.specs.Moves.{After}
use Rattle.adb_history.proofs.Following.{after_quietly, after_then, changed_here}
use Rattle.adb_history.proofs.Growing.{owed_append}
use Rattle.adb_history.proofs.OutputEntries.{all_due_past_put}
use Rattle.adb_history.proofs.OwnedStep.{owned_moves}
use Rattle.adb_history.proofs.BookClients.{devices_now}
use Rattle.adb_history.proofs.Books.{booked}
use Rattle.adb_history.specs.Turns.{everywhere, Turns, serving}
use Rattle.adb_laws_answered.specs.Heard.{Heard, heard, after_replies, asks_stream, IsTold, PhaseSays, RowSays, Owes, Answers}
use Rattle.adb_history.proofs.RuleMoves.{takes_turns}
use Rattle.adb_laws_answered.proofs.HeardMoves.{prefix_more}
use Rattle.adb_laws_answered.proofs.HeardRules.{answers_turns}

-- ---- what the entries say with other lists
-- the lists that matter stay
pub record KeepsLists (r new : Heard) : Type 0 where
  pub asking : r.next ≡ None → (long : Bool) → r.lists long ≡ [] → new.lists long ≡ r.lists long
  pub lists : (long : Bool) → r.next ≡ Some (what.Track long) → new.lists long ≡ r.lists long
  pub last : (long : Bool) → r.next ≡ Some (what.Track long) → new.last long ≡ r.last long

module _ (r : Heard) (lists last : Bool → List ℕ) (keeps : KeepsLists r (record r { lists = lists; last = last })) where
  abbrev other : Heard
  other = record r { lists = lists; last = last }

  says_phase : (p : Phase) (d : DeviceTable) (long mark : Bool) → PhaseSays p r d long mark → PhaseSays p other d long mark
  says_phase Asking d long mark h =
      record { next = h.next; bound = h.bound; lists = λ x. keeps.asking h.next x (h.lists x) ∙ h.lists x }
  says_phase (Opening l) d long mark h = h
  says_phase (Streaming l) d long mark h = h
  says_phase Binding d long mark h = record { next = h.next; bound = h.bound }
  says_phase Tracking d long mark h = record { next = h.next; present = λ m. keeps.last long h.next ∙ h.present m }
  says_phase Closing d long mark h = tt
  says_phase Gone d long mark h = tt

  after_same : (next : Option Next) → r.next ≡ next → after_replies next other ≡ after_replies next r
  after_same (Some (what.Track long)) e = keeps.lists long e
  after_same _ e = refl

  pub answers_listed : (c : ℕ) (d : DeviceTable) (s : State) (w : List Event) → Answers c r d s w → Answers c other d s w
  answers_listed c d s w h = record {
    owned = h.owned;
    row = λ client is. says_phase client.about.phase d client.about.long client.about.mark (h.row client is);
    owes = record {
      begins = h.owes.begins;
      all = λ stream. h.owes.all stream ∙ ap (λ x. r.replies ++ x) (sym (after_same r.next refl));
    };
  }

-- ---- put
module _ (c : ℕ) (older : History) (legal : IsLegal older) (bytes : List ℕ) where
  abbrev s : State
  s = state older

  abbrev w : List Event
  w = told older

  abbrev r : Heard
  r = heard c older

  -- whether all that was due before had been handed out
  through : Bool → Bool
  through long = nat_eq (length (bytes_put c older)) (length ((asked c older).replies ++ lists_of long c older))

  said_put : (Bool → Bool) → Heard
  said_put b = record r {
    lists = λ long. list_if (b long) (tracked_list (devices older) long) (lists_of long c older);
    last = λ long. cond (b long) (tracked_list (devices older) long) (last_list long c older);
  }

  heard_put_own : heard c (Put c bytes ∷ older) ≡ said_put through
  unfolding through said_put
  heard_put_own = ap (λ (here : Bool). record r {
    lists = λ long. list_if (here && through long) (tracked_list (devices older) long) (lists_of long c older);
    last = λ long. cond (here && through long) (tracked_list (devices older) long) (last_list long c older);
  }) (eq-eqb c c refl)

  module _ (h : Answers c (heard c older) s.devices s w) (client : Client) (is : s.clients c ≡ Some client)
      (may : IsSomeOf bytes (offered s.devices client)) where
    due_is : owed_to c w ≡ bytes_put c older ++ client.due
    due_is = all_due_past_put older legal c client is

    same_devices : s.devices ≡ devices older
    same_devices = devices_now older legal (booked older legal)

    -- ---- something was due
    module _ (b : ℕ) (due : List ℕ) (some : client.due ≡ b ∷ due) where
      longer : (lists : List ℕ) → owed_to c w ≡ r.replies ++ lists
          → nat_eq (length (bytes_put c older)) (length (r.replies ++ lists)) ≡ false
      longer lists e = ne_eqb (length (bytes_put c older)) (length (r.replies ++ lists)) (λ same.
          omega (arith, same, ap length (sym e ∙ due_is), length-append (bytes_put c older) client.due, ap length some))

      -- the replies and lists are all that was due to a client that asks or tracks
      all_asked : r.next ≡ None → (long : Bool) → r.lists long ≡ [] → owed_to c w ≡ r.replies ++ r.lists long
      all_asked none long nil =
          h.owes.all (ap asks_stream none) ∙ ap (λ x. r.replies ++ x) (ap (λ (o : Option Next). after_replies o r) none ∙ sym nil)

      all_listed : (long : Bool) → r.next ≡ Some (what.Track long) → owed_to c w ≡ r.replies ++ r.lists long
      all_listed long track = h.owes.all (ap asks_stream track) ∙ ap (λ (o : Option Next). r.replies ++ after_replies o r) track

      keeps : KeepsLists r (said_put through)
      unfolding through said_put
      keeps = record {
        asking = λ none long nil.
            ap (λ (x : Bool). list_if x (tracked_list (devices older) long) (lists_of long c older))
            (longer (r.lists long) (all_asked none long nil));
        lists = λ long track.
            ap (λ (x : Bool). list_if x (tracked_list (devices older) long) (lists_of long c older))
            (longer (r.lists long) (all_listed long track));
        last = λ long track.
            ap (λ (x : Bool). cond x (tracked_list (devices older) long) (last_list long c older))
            (longer (r.lists long) (all_listed long track));
      }

      due_answers : Answers c (said_put through) s.devices s w
      unfolding said_put
      due_answers = answers_listed r (said_put through).lists (said_put through).last keeps c s.devices s w h

    -- ---- nothing was due
    module _ (none : client.due ≡ []) where
      offers : offered s.devices client ≡ list_if_stale s.devices client.about.mark client.about.long
      offers = ap (λ (x : List ℕ). due_or x (list_if_stale s.devices client.about.mark client.about.long)) none

      marks : client.about.mark ≡ true
      marks = go client.about.mark refl
        where
          nothing : (x : List ℕ) → IsPrefixOf x [] → x ≡ []
          nothing [] p = refl
          nothing (b ∷ x) (rest, e) = absurd (let clash : b ∷ (x ++ rest) ≡ [] = e in cc)

          go : (m : Bool) → client.about.mark ≡ m → m ≡ true
          go true e = refl
          go false e =
              absurd (may.some (nothing bytes (subst (λ (x : List ℕ). IsPrefixOf bytes x)
              (offers ∙ ap (λ (m : Bool). list_if_stale s.devices m client.about.long) e) may.front)))

      abbrev long : Bool
      long = client.about.long

      tracking : client.about.phase ≡ Tracking
      tracking = (h.owned.owned.client c client is).mark marks

      told_so : IsTold r s.devices client.about.long client.about.mark
      told_so = subst (λ (x : Phase). PhaseSays x r s.devices client.about.long client.about.mark) tracking (h.row client is)

      list_is : offered s.devices client ≡ tracked_list s.devices client.about.long
      list_is = offers ∙ ap (λ (m : Bool). list_if_stale s.devices m client.about.long) marks

      -- all that became due is the replies and the lists, and all of it was handed out
      all_lists : owed_to c w ≡ r.replies ++ r.lists client.about.long
      all_lists = h.owes.all (ap asks_stream told_so.next) ∙ ap (λ (o : Option Next). r.replies ++ after_replies o r) told_so.next

      is_through : through client.about.long ≡ true
      unfolding through
      is_through = eq-eqb (length (bytes_put c older)) (length (r.replies ++ r.lists client.about.long))
          (omega (arith, ap length (sym all_lists ∙ due_is), length-append (bytes_put c older) client.due, ap length none))

      abbrev listed : Made
      listed = lists_first c [] client s

      abbrev row : Client
      row = record client { about = record client.about { mark = false }; due = client.due ++ offered s.devices client }

      row_is : listed.state.clients c ≡ Some row
      row_is = changed_here c (with_due (offered s.devices client)) (to_client c unmarked s).clients
          (record client { about = record client.about { mark = false } })
          (changed_here c unmarked s.clients client is)

      says_row : RowSays (said_put through) s.devices row
      unfolding said_put
      says_row = subst (λ (x : Phase). PhaseSays x (said_put through) s.devices client.about.long false) (sym tracking) (record {
        next = told_so.next;
        present = λ m. ap (λ (x : Bool). cond x (tracked_list (devices older) long) (last_list long c older)) is_through
            ∙ ap (λ (d : DeviceTable). tracked_list d long) (sym same_devices);
      })

      owes_list : Owes (said_put through) (owed_to c w ++ offered s.devices client)
      unfolding said_put
      owes_list = record {
        begins = prefix_more r.replies (owed_to c w) (offered s.devices client) h.owes.begins;
        all = λ stream.
            (ap (λ x. x ++ offered s.devices client) all_lists
            ∙ append_assoc r.replies (r.lists long) (offered s.devices client))
            ∙ ap (λ x. r.replies ++ x) (sym lists_now);
      }
        where
          lists_now : after_replies r.next (said_put through) ≡ r.lists client.about.long ++ offered s.devices client
          lists_now = ap (λ (o : Option Next). after_replies o (said_put through)) told_so.next
              ∙ (ap (λ (x : Bool). list_if x (tracked_list (devices older) client.about.long)
              (lists_of client.about.long c older)) is_through
              ∙ ap (λ x. r.lists client.about.long ++ x)
              (ap (λ (d : DeviceTable). tracked_list d client.about.long) (sym same_devices) ∙ sym list_is))

      list_answers : Answers c (said_put through) listed.state.devices listed.state (w ++ listed.told)
      list_answers = record {
        owned = owned_moves.due c (offered s.devices client) (to_client c unmarked s) w (owned_moves.unmarks c s w h.owned);
        row = λ y e. (let same : row ≡ y = (let both : Some row ≡ Some y = sym row_is ∙ e in cc) in
            subst (λ (z : Client). RowSays (said_put through) s.devices z) same says_row);
        owes = subst (λ (x : List ℕ). Owes (said_put through) x) (sym out_is) owes_list;
      }
        where
          out_is : owed_to c (w ++ due_to_client c (offered s.devices client) ∷ []) ≡ owed_to c w ++ offered s.devices client
          out_is = owed_append c w (due_to_client c (offered s.devices client) ∷ [])
              ∙ ap (λ x. owed_to c w ++ x)
              (ap (λ (b : Bool). cond b (offered s.devices client) [] ++ []) (eq-eqb c c refl) ∙ append-nil (offered s.devices client))

    turns : Turns everywhere (c + 1) (λ x v. Answers c (said_put through) x.devices x v)
    turns = answers_turns (c + 1) c (said_put through) (λ e. omega (arith, e))

    first : (due : List ℕ) → client.due ≡ due → After (λ x v. Answers c (said_put through) x.devices x v) w (lists_first c due client s)
    first [] none = list_answers none
    first (b ∷ due) some = after_quietly (λ x v. Answers c (said_put through) x.devices x v) w s (due_answers b due some)

    handed_answers : After (λ x v. Answers c (said_put through) x.devices x v) w (puts_to (Some client) c (length bytes) s)
    handed_answers =
        let m : Made = lists_first c client.due client s in
        after_then (λ x v. Answers c (said_put through) x.devices x v) w m
        (λ x. takes_of c (length bytes) (x.clients c) x) (first client.due refl)
        (λ v now. takes_turns (serving turns) m.state v now c (length bytes) (m.state.clients c) refl)

  pub own_put_answers : Answers c (heard c older) s.devices s w → May s (Put c bytes)
      → After (λ x v. Answers c (heard c (Put c bytes ∷ older)) x.devices x v) w (rule (Put c bytes) s)
  own_put_answers h may =
      subst (λ (r : Heard). After (λ x v. Answers c r x.devices x v) w (rule (Put c bytes) s)) (sym heard_put_own)
      (go (s.clients c) refl may)
    where
      go : (o : Option Client) → s.clients c ≡ o → MayPut s o bytes
          → After (λ x v. Answers c (said_put through) x.devices x v) w (puts_to (s.clients c) c (length bytes) s)
      go None is may = absurd may
      go (Some client) is may =
          subst (λ (m : Made). After (λ x v. Answers c (said_put through) x.devices x v) w m)
          (sym (ap (λ (o : Option Client). puts_to o c (length bytes) s) is)) (handed_answers h client is may)
