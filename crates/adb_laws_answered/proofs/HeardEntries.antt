-- What a client is answered is what the entries say, through each entry of another client, of a link, and through its end.
use Rattle.std.proofs.Common.{◌≡◌, ◌≢◌, ℕ, ◌+◌, ◌≤◌, ◌<◌, Bool, true, false, cond, List, ◌∷◌, ◌++◌, length, Option, Some, None, refl, sym}
use Rattle.std.proofs.Common.{ap, ◌∙◌}
use Rattle.std.proofs.Common.{arith, eqb, inl, inr, ◌⊎◌}
use Rattle.std.specs.Prelude.{nat_eq, ◌&&◌}
use Rattle.std.proofs.lemmas.Bool.{ne_eqb, cases_lt}
use Rattle.adb_outside.specs.declared.kinds.Cause.{Cause}
use Rattle.adb_outside.specs.declared.kinds.Kind.{Kind}
use Rattle.adb_registry.specs.Registry.{DeviceTable, attached}
use Rattle.adb_client.specs.declared.about.Want.{Want}
use Rattle.adb_capture.specs.declared.entry.Entry.TheVariants.{Join, Enter, Read, End, Bound, Attach, Recv, Detach, Put, Send}
use Rattle.adb_history.specs.Rows.{State, new_client}
use Rattle.adb_history.specs.Events.{Event}
use Rattle.adb_history.specs.Forwarding.{bound_by}
use Rattle.adb_history.specs.Tracking.{tracked_list}
use Rattle.adb_history.specs.Asking.{Asked, asks_with}
use Rattle.adb_history.specs.Reading.{comes, has_asked, asked_before}
use Rattle.adb_history.specs.Machine.{History, state, told, rule, ups, May, IsLegal}
use Rattle.adb_history.specs.Bytes.{has_joined, bytes_put}
use Rattle.adb_history.specs.Book.{book, asked, devices_if, newly, asked_with, is_asking, bound_turn, devices}
use Rattle.adb_history.specs.Tied.{came_count}
use Rattle.adb_history.specs.Moves.{After}
use Rattle.adb_history.specs.Answered.{list_if, lists_of, reply_list, last_list}
use Rattle.adb_history.proofs.Numbers.{counted}
use Rattle.adb_history.proofs.OwnedStep.{begins_owned}
use Rattle.adb_history.proofs.BookTurns.{all_unheard}
use Rattle.adb_laws_answered.specs.Heard.{Heard, heard, RowsSay, Answers}
use Rattle.adb_history.specs.Turns.{serving}
use Rattle.adb_history.proofs.StreamMoves.{up_all_turns}
use Rattle.adb_history.proofs.RuleMoves.{rule_turns}
use Rattle.adb_laws_answered.proofs.HeardMoves.{rows_apart, rows_marked}
use Rattle.adb_laws_answered.proofs.HeardRules.{answers_turns}

-- who came has a number that was drawn
pub joined_below : (h : History) → IsLegal h → (c : ℕ) → has_joined c h ≡ true → c ≤ came_count h
joined_below h legal c came = go (cases_lt (came_count h) c)
  where
    go : (came_count h < c) ⊎ (c ≤ came_count h) → c ≤ came_count h
    go (inr le) = le
    go (inl above) = absurd (let clash : true ≡ false = sym came ∙ (all_unheard h legal c above).joined in cc)

-- ---- what an entry of another says of a client
pub heard_read : (n c : ℕ) (bytes : List ℕ) (older : History) → eqb n c ≡ false → heard c (Read n bytes ∷ older) ≡ heard c older
heard_read n c bytes older e =
    ap (λ (here : Bool). record {
      next = (cond here q (asked c older)).next;
      replies = (cond here q (asked c older)).replies;
      bound = (book older).bound c;
      lists = λ long. lists_of long c older;
      last = λ long. cond here (reply_list c (newly (asked c older).next (cond here q (asked c older)).next) older (last_list long c older))
          (last_list long c older);
    }) e
  where
    q : Asked
    q = asked_with (is_asking n older (book older)) (devices_if (book older).killed older) (book older).forwards bytes (asked n older)

heard_bound_by : (n c port : ℕ) (older : History) (d : DeviceTable) (o : Option Want) → eqb n c ≡ false → Heard
heard_bound_by n c port older d o e = record {
  next = ((bound_turn n port d o (book older)).asked c).next;
  replies = ((bound_turn n port d o (book older)).asked c).replies;
  bound = (bound_turn n port d o (book older)).bound c;
  lists = λ long. lists_of long c older;
  last = λ long. last_list long c older;
}

pub heard_bound : (n c port : ℕ) (older : History) → eqb n c ≡ false → heard c (Bound n port ∷ older) ≡ heard c older
unfolding heard_bound_by
heard_bound n c port older e = go ((book older).waits n)
  where
    go : (o : Option Want) → heard_bound_by n c port older (devices_if (book older).killed older) o e ≡ heard c older
    go None = refl
    go (Some want) =
        ap (λ (b : Bool). record (heard c older) {
          bound = cond b (bound_by want port (devices_if (book older).killed older) (book older).forwards).reply ((book older).bound c);
        }) e

pub heard_put : (n c : ℕ) (bytes : List ℕ) (older : History) → eqb n c ≡ false → heard c (Put n bytes ∷ older) ≡ heard c older
heard_put n c bytes older e =
    ap (λ (here : Bool). record (heard c older) {
      lists = λ long. list_if (here && is_through long) (tracked_list (devices older) long) (lists_of long c older);
      last = λ long. cond (here && is_through long) (tracked_list (devices older) long) (last_list long c older);
    }) e
  where
    is_through : Bool → Bool
    is_through long = nat_eq (length (bytes_put c older)) (length ((asked c older).replies ++ lists_of long c older))

-- ---- the rule of an entry
module _ (c : ℕ) (older : History) (legal : IsLegal older) (came : has_joined c older ≡ true) where
  abbrev s : State
  s = state older

  abbrev w : List Event
  w = told older

  module _ (h : Answers c (heard c older) s.devices s w) where
    below : c ≤ s.joined
    below = omega (arith, joined_below older legal c came, (counted older).joined)

    abbrev P : State → List Event → Type 0
    P x v = Answers c (heard c older) x.devices x v

    -- ---- an entry of another
    module _ (n : ℕ) (apart : n ≢ c) where
      not_here : eqb n c ≡ false
      not_here = ne_eqb n c apart

      came_rows : (forwarded : Bool) → RowsSay c (heard c older) s.devices (comes forwarded n s).clients
      came_rows forwarded client is =
          h.row client (sym (ap (λ (b : Bool). cond b (Some (new_client forwarded n)) (s.clients c)) not_here) ∙ is)

      pub join_answers : May s (Join n) → After P w (rule (Join n) s)
      join_answers may = rule_turns (answers_turns n c (heard c older) apart) (Join n) s w tt
          (record { owned = begins_owned s h.owned (Join n) w may; row = came_rows false; owes = h.owes })

      pub enter_answers : (port : ℕ) → May s (Enter n port) → After P w (rule (Enter n port) s)
      enter_answers port may =
          let b = begins_owned s h.owned (Enter n port) w may in
          rule_turns (answers_turns n c (heard c older) apart) (Enter n port) s w refl
          (record { owned = b.0; row = came_rows true; owes = h.owes }, record { owned = b.1; row = h.row; owes = h.owes })

      pub read_answers : (bytes : List ℕ) → May s (Read n bytes) → After P w (rule (Read n bytes) s)
      read_answers bytes may =
          rule_turns (answers_turns n c (heard c older) apart) (Read n bytes) s w (refl, tt) (
            h,
            λ client is asking. record {
              owned = (begins_owned s h.owned (Read n bytes) w may).1 client is asking;
              row = rows_apart c (heard c older) s.devices n
                  (has_asked (asks_with s.devices s.forwards bytes (asked_before client))) s.clients apart h.row;
              owes = h.owes;
            },
          )

      pub bound_answers : (port : ℕ) → After P w (rule (Bound n port) s)
      bound_answers port = rule_turns (answers_turns n c (heard c older) apart) (Bound n port) s w refl h

      pub put_answers : (bytes : List ℕ) → After P w (rule (Put n bytes) s)
      put_answers bytes = rule_turns (answers_turns n c (heard c older) apart) (Put n bytes) s w refl h

    -- ---- an entry that answers nobody
    other : c + 1 ≢ c
    other e = omega (arith, e)

    pub attach_answers : (t : ℕ) (kind : Kind) (serial : List ℕ) → May s (Attach t kind serial) → After P w (rule (Attach t kind serial) s)
    attach_answers t kind serial may = rule_turns (answers_turns (c + 1) c (heard c older) other) (Attach t kind serial) s w tt (record {
      owned = begins_owned s h.owned (Attach t kind serial) w may;
      row = rows_marked c (heard c older) s.devices (attached kind serial s.devices) s.clients h.row;
      owes = h.owes;
    })

    pub end_answers : (n : ℕ) (cause : Cause) → After P w (rule (End n cause) s)
    end_answers n cause = rule_turns (answers_turns (c + 1) c (heard c older) other) (End n cause) s w (λ e. tt) h

    pub recv_answers : (t : ℕ) (bytes : List ℕ) → After P w (rule (Recv t bytes) s)
    recv_answers t bytes = rule_turns (answers_turns (c + 1) c (heard c older) other) (Recv t bytes) s w
        ((λ p. record { reaches = λ e. tt; renews = λ e. tt; cuts = λ e. tt }), tt) h

    pub detach_answers : (t : ℕ) (cause : Cause) → After P w (rule (Detach t cause) s)
    detach_answers t cause = rule_turns (answers_turns (c + 1) c (heard c older) other) (Detach t cause) s w tt h

    pub send_answers : (t : ℕ) (bytes : List ℕ) → After P w (rule (Send t bytes) s)
    send_answers t bytes = rule_turns (answers_turns (c + 1) c (heard c older) other) (Send t bytes) s w tt h

-- ---- the up rule behind it
pub ups_answers : (c : ℕ) (r : Heard) (m : State) (w : List Event) → Answers c r m.devices m w
    → After (λ x v. Answers c r x.devices x v) w (ups m)
ups_answers c r m w h = up_all_turns (serving (answers_turns (c + 1) c r (λ e. omega (arith, e)))) m w h m.drawn
