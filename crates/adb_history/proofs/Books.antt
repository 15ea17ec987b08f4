-- Every legal history's state keeps what its entries say.
use Rattle.std.proofs.Common.{ℕ, ◌≡◌, Bool, true, false, [], ◌∷◌, Some, None, refl, sym, ◌∙◌, ap}
use Rattle.std.proofs.lemmas.List.Elements.{All-nil}
use Rattle.std.specs.Prelude.{not, is_some}
use Rattle.adb_outside.specs.Tables.{at}
use Rattle.adb_forward.specs.declared.row.ForwardRow.{ForwardRow}
use Rattle.adb_client.specs.declared.phase.Phase.{Phase}
use Rattle.adb_client.specs.declared.phase.Phase.TheVariants.{Asking, Binding}
use Rattle.adb_capture.specs.declared.entry.Entry.{Entry}
use Rattle.adb_capture.specs.declared.entry.Entry.TheVariants.{Join, Enter, Read, End, Bound, Attach, Recv, Detach, Put, Send}
use Rattle.adb_history.specs.Rows.{Client}
use Rattle.adb_history.specs.Machine.{rule, ups, History, state, IsLegal}
use Rattle.adb_history.specs.Bytes.{has_joined, has_ended}
use Rattle.adb_history.specs.Book.{plugged_count, devices_if, book, asked, still_asks}
use Rattle.adb_history.specs.Tied.{came_count, IsAskedAs, UnreadIsPastUsed, IsBookOf}
use Rattle.adb_history.proofs.GrowingRules.{keeps_up_all}
use Rattle.adb_history.proofs.OutputEntries.{tied_rule, tied}
use Rattle.adb_history.proofs.Devices.{all_devices}
use Rattle.adb_history.proofs.Waiting.{is_waiting, leaves_up_all}
use Rattle.adb_history.proofs.Booked.{said, asks_in, asks_now, wants_in, wants_now}
use Rattle.adb_history.proofs.BookReads.{none_next, and_parts}
use Rattle.adb_history.proofs.BookTurns.{IsBooked, booked_still, still_keeps}
use Rattle.adb_history.proofs.BookEntries.{booked_put, booked_send, booked_attach, booked_recv, booked_detach, booked_join, booked_enter}
use Rattle.adb_history.proofs.BookClients.{booked_end, booked_bound}
use Rattle.adb_history.proofs.BookRead.{booked_read}

booked_rule : (e : Entry) (older : History) → IsLegal (e ∷ older) → IsBooked (state older) older
    → IsBooked (rule e (state older)).state (e ∷ older)
booked_rule (Join c) older l b = booked_join older l.0 b c l.2
booked_rule (Enter c port) older l b = booked_enter older l.0 b c port l.2
booked_rule (Read c bytes) older l b = booked_read older l.0 b c bytes l.2
booked_rule (End c cause) older l b = booked_end older l.0 b c cause l.2
booked_rule (Bound c port) older l b = booked_bound older l.0 b c port l.2
booked_rule (Attach t kind serial) older l b = booked_attach older l.0 b t kind serial l.2
booked_rule (Recv t bytes) older l b = booked_recv older l.0 b t bytes l
booked_rule (Detach t cause) older l b = booked_detach older l.0 b t cause l
booked_rule (Put c bytes) older l b = booked_put older l.0 b c bytes l.2
booked_rule (Send t bytes) older l b = booked_send older l.0 b t bytes

booked_step : (e : Entry) (older : History) → IsLegal (e ∷ older) → IsBooked (state older) older → IsBooked (state (e ∷ older)) (e ∷ older)
booked_step e older l b =
    let m = rule e (state older) in
    let after = tied_rule older (tied older l.0) e l.2 in
    booked_still m.state (ups m.state) (e ∷ older) (e ∷ older) (booked_rule e older l b)
    (still_keeps (came_count (e ∷ older)) (plugged_count (e ∷ older)) m.state (ups m.state)
    (keeps_up_all (came_count (e ∷ older)) (plugged_count (e ∷ older)) m.state.drawn m.state after.streams)
    (leaves_up_all m.state (booked_rule e older l b).free m.state.drawn))
    refl refl (λ k. refl)

pub booked : (h : History) → IsLegal h → IsBooked (state h) h
booked [] l = record {
  killed = refl;
  forwards = refl;
  led = λ on. All-nil (λ (entry : ℕ × ForwardRow). is_some (at entry.1.transport (state []).devices.rows) ≡ true);
  clients = λ on c. record { asks = refl; waits = refl; same = λ a e f. let clash : None ≡ Some a = e in cc };
  idle = λ off c a e. let clash : None ≡ Some a = e in cc;
  free = λ l stream is a e. let clash : None ≡ Some a = e in cc;
}
booked (e ∷ older) l = booked_step e older l (booked older l.0)

-- ---- the laws
waits_as : (h : History) → IsLegal h → (stopped : Bool) → (state h).stopped ≡ stopped → (c : ℕ) (client : Client)
    → (state h).clients c ≡ Some client
    → client.about.phase ≡ Binding → client.about.want ≡ (book h).waits c
waits_as h l true off c client is phase =
    let clash : true ≡ false = sym (ap is_waiting phase) ∙ (booked h l).idle off c client is in cc
waits_as h l false on c client is phase =
    sym (ap wants_now is ∙ ap (λ (p : Phase). wants_in p client.about.want) phase) ∙ ((booked h l).clients on c).waits

pub all_books : (h : History) → IsLegal h → IsBookOf h
all_books h l =
    let b = booked h l in
    record {
      devices = all_devices h l ∙ ap (λ (x : Bool). devices_if x h) b.killed;
      forwards = b.forwards;
      waits = λ c client is phase. waits_as h l (state h).stopped refl c client is phase;
      killed = b.killed;
    }

asked_as : (h : History) → IsLegal h → (stopped : Bool) → (state h).stopped ≡ stopped → (c : ℕ) (client : Client)
    → (state h).clients c ≡ Some client
    → client.about.phase ≡ Asking → IsAskedAs h c client
asked_as h l true off c client is phase =
    absurd (let clash : true ≡ false = sym (ap is_waiting phase) ∙ (booked h l).idle off c client is in cc)
asked_as h l false on c client is phase =
    let now = (booked h l).clients on c in
    let asking : (said c h).asking ≡ true = sym now.asks ∙ (ap asks_now is ∙ ap asks_in phase) in
    let parts = and_parts (has_joined c h) (not (has_ended c h)) (still_asks (asked c h)) asking in
    let same = now.same client is phase in
    record {
      unread = same.rest ∙ same.unused.rest;
      rest = same.rest;
      selected = same.selected;
      asks = none_next (asked c h).next parts.2;
    }

pub all_unread : (h : History) → IsLegal h → UnreadIsPastUsed h
all_unread h l c client is phase = asked_as h l (state h).stopped refl c client is phase
