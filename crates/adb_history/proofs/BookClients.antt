-- What an entry of one client, other than bytes that are read from it, makes of a state is what it says of a history.
use Rattle.std.proofs.Common.{ℕ, ◌≡◌, Bool, true, false, cond, List, ◌∷◌, ◌++◌, length, Option, Some, None}
use Rattle.std.proofs.Common.{refl, sym, ◌∙◌, ap, subst, arith, eqb}
use Rattle.std.proofs.lemmas.Bool.{eqb-true, eq-eqb}
use Rattle.std.specs.Prelude.{◌&&◌, ◌||◌, not, is_none}
use Rattle.adb_outside.specs.Tables.{at}
use Rattle.adb_outside.specs.declared.kinds.Cause.{Cause}
use Rattle.adb_registry.specs.Registry.{DeviceTable}
use Rattle.adb_forward.specs.declared.row.ForwardRow.{ForwardRow}
use Rattle.adb_client.specs.declared.phase.Phase.{Phase}
use Rattle.adb_client.specs.declared.phase.Phase.TheVariants.{Binding}
use Rattle.adb_client.specs.declared.about.Want.{Want}
use Rattle.adb_capture.specs.declared.entry.Entry.TheVariants.{End, Bound}
use Rattle.adb_history.specs.Rows.{Client, State}
use Rattle.adb_history.specs.Events.{Made, quietly}
use Rattle.adb_history.specs.Forwarding.{Binding as Bound_to, bound_by, is_unbound, put_forward}
use Rattle.adb_history.specs.Losing.{client_ends}
use Rattle.adb_history.specs.Reading.{bound_to, bound_for, bound_in, bound_at, bound}
use Rattle.adb_history.specs.Machine.{History, state, May, IsLegal}
use Rattle.adb_history.specs.Bytes.{has_joined, has_ended}
use Rattle.adb_history.specs.Book.{plugged_count, devices_if, book, asked, still_asks, bound_turn, bound_with}
use Rattle.adb_history.specs.Tied.{bytes_asked, came_count}
use Rattle.adb_history.proofs.GrowingRules.{keeps_client_ends, keeps_closes_with}
use Rattle.adb_history.proofs.OutputEntries.{IsTied, tied}
use Rattle.adb_history.proofs.Devices.{all_devices}
use Rattle.adb_history.proofs.OwnEntries.{Owns, owns_over, owns_all, owns_free, owns_closes_with, closed_with_row, owns_ends}
use Rattle.adb_history.proofs.OwnEntries.{ended_waits}
use Rattle.adb_history.proofs.ForwardTurns.{AreLed}
use Rattle.adb_history.proofs.Booked.{Said, said, asks_in, asks_now, wants_in, wants_now, IsAs, idle_is}
use Rattle.adb_history.proofs.BookReads.{led_put}
use Rattle.std.specs.Prelude.{codes, ◌==◌}
use Rattle.adb_forward.specs.declared.table.TheConstants.{MAX_FORWARDS}
use Rattle.adb_reply.specs.Strings.{failed}
use Rattle.adb_reply.specs.Refusals.{no_transport}
use Rattle.adb_history.specs.Forwarding.{told_port}
use Rattle.adb_history.specs.Book.{Book}
use Rattle.adb_history.proofs.BookTurns.{IsBooked}

-- a client that does not ask now, as before
pub is_other : (o : Option Client) (r next : Said) → asks_now o ≡ false → next.asking ≡ r.asking
    → next.waits ≡ r.waits → IsAs o r → IsAs o next
is_other o r next none asking waits h = record {
  asks = h.asks ∙ sym asking;
  waits = h.waits ∙ sym waits;
  same = λ a e f.
      let clash : true ≡ false = sym (ap asks_in f) ∙ (ap asks_now (sym e) ∙ none) in cc;
}

module _ (older : History) (legal : IsLegal older) (b : IsBooked (state older) older) where
  abbrev s : State
  s = state older

  abbrev came : ℕ
  came = came_count older

  abbrev links : ℕ
  links = plugged_count older

  tie : IsTied older
  tie = tied older legal

  -- ---- one client
  -- What a rule of one client leaves, and what the book says behind it.
  pub record OwnTurn (n : ℕ) (m : Made) (next : History) : Type 0 where
    pub stopped : m.state.stopped ≡ s.stopped
    pub devices : m.state.devices ≡ s.devices
    pub owns : Owns n s m
    pub killed : (book next).killed ≡ (book older).killed
    pub forwards : m.state.forwards ≡ (book next).forwards
    pub led : AreLed s.devices m.state.forwards
    pub here : IsAs (m.state.clients n) (said n next)
    pub others : (c : ℕ) → eqb n c ≡ false → said c next ≡ said c older

  pub booked_owns : (n : ℕ) (m : Made) (next : History) → s.stopped ≡ false → OwnTurn n m next → IsBooked m.state next
  booked_owns n m next on turn = record {
    killed = turn.stopped ∙ (b.killed ∙ sym turn.killed);
    forwards = turn.forwards;
    led = λ still. subst (λ (d : DeviceTable). AreLed d m.state.forwards) (sym turn.devices) turn.led;
    clients = λ still c. go c (eqb n c) refl;
    idle = λ off c. let clash : true ≡ false = sym off ∙ (turn.stopped ∙ on) in cc;
    free = owns_free n s m turn.owns b.free;
  }
    where
      go : (c : ℕ) (same : Bool) → eqb n c ≡ same → IsAs (m.state.clients c) (said c next)
      go c true e = subst (λ (k : ℕ). IsAs (m.state.clients k) (said k next)) (eqb-true n c e) turn.here
      go c false e = subst (λ (r : Said). IsAs (m.state.clients c) r) (sym (turn.others c e))
          (subst (λ (o : Option Client). IsAs o (said c older)) (sym (turn.owns.others c e)) (b.clients on c))

  -- ---- end
  abbrev said_ended : ℕ → Bool → Said
  said_ended c here = record {
    asking = has_joined c older && not (here || has_ended c older) && still_asks (asked c older);
    asked = asked c older;
    input = bytes_asked c older;
    waits = cond here None ((book older).waits c);
  }

  pub booked_end : (n : ℕ) (cause : Cause) → May s (End n cause)
      → IsBooked (client_ends n cause (s.clients n) s).state (End n cause ∷ older)
  booked_end n cause may =
      let m = client_ends n cause (s.clients n) s in
      let keeps = keeps_client_ends came links n cause (s.clients n) s tie.streams in
      booked_owns n m (End n cause ∷ older) may.0 (record {
        stopped = keeps.stopped;
        devices = keeps.devices;
        owns = owns_ends n cause (s.clients n) s;
        killed = refl;
        forwards = keeps.forwards ∙ b.forwards;
        led = subst (λ (f : List (ℕ × ForwardRow)). AreLed s.devices f) (sym keeps.forwards) (b.led may.0);
        here = subst (λ (r : Said). IsAs (m.state.clients n) r) (sym (ap (said_ended n) (eq-eqb n n refl)))
            (idle_is (m.state.clients n) (said_ended n true) (ended_waits n cause (s.clients n) s refl) (over (has_joined n older)) refl);
        others = λ c e. ap (said_ended c) e;
      })
    where
      over : (x : Bool) → (x && false && still_asks (asked n older)) ≡ false
      over true = refl
      over false = refl

  -- ---- bound
  led_bound : (want : Want) (port : ℕ) → s.stopped ≡ false → AreLed s.devices (bound_by want port s.devices s.forwards).forwards
  led_bound want port on = go (is_unbound want.local port s.forwards) (is_none (at want.transport s.devices.rows))
      (length s.forwards == MAX_FORWARDS)
    where
      go : (unbound none full : Bool) → AreLed s.devices (cond {A = Bound_to} unbound
          (record { reply = (failed (codes "cannot bind listener")).bytes; forwards = s.forwards })
          (cond {A = Bound_to} none (record { reply = (failed no_transport).bytes; forwards = s.forwards })
          (cond {A = Bound_to} full (record { reply = (failed (codes "too many forwards")).bytes; forwards = s.forwards })
          (record {
            reply = codes "OKAYOKAY" ++ told_port want.local port;
            forwards = put_forward port want.transport want.remote s.devices s.forwards;
          })))).forwards
      go false false false = led_put s.devices port want.transport want.remote s.forwards (b.led on)
      go _ _ _ = b.led on

  pub devices_now : s.devices ≡ devices_if (book older).killed older
  devices_now = all_devices older legal ∙ ap (λ (x : Bool). devices_if x older) b.killed

  abbrev said_by : ℕ → Book → Said
  said_by c x = record {
    asking = has_joined c older && not (has_ended c older) && still_asks (x.asked c);
    asked = x.asked c;
    input = bytes_asked c older;
    waits = x.waits c;
  }

  -- a client that waits for no listener hears of none
  bound_none : (n port : ℕ) → May s (Bound n port) → wants_now (s.clients n) ≡ None → IsBooked s (Bound n port ∷ older)
  bound_none n port may none =
      let same : book (Bound n port ∷ older) ≡ book older =
      ap (λ (o : Option Want). bound_turn n port (devices_if (book older).killed older) o (book older))
      (sym (b.clients may.0 n).waits ∙ none) in
      record {
        killed = b.killed ∙ sym (ap (λ (x : Book). x.killed) same);
        forwards = b.forwards ∙ sym (ap (λ (x : Book). x.forwards) same);
        led = b.led;
        clients = λ on c. subst (λ (r : Said). IsAs (s.clients c) r) (sym (ap (said_by c) same)) (b.clients on c);
        idle = b.idle;
        free = b.free;
      }

  bound_some : (n port : ℕ) (client : Client) (want : Want) → s.clients n ≡ Some client → client.about.phase ≡ Binding
      → client.about.want ≡ Some want
      → May s (Bound n port) → IsBooked (bound_to n (bound_by want port s.devices s.forwards) s).state (Bound n port ∷ older)
  bound_some n port client want is phase wanted may =
      let binding = bound_by want port s.devices s.forwards in
      let next = record s { forwards = binding.forwards } in
      let m = bound_to n binding s in
      let keeps = keeps_closes_with came links n binding.reply next (omega (arith, may.1.1, tie.joined)) in
      let before = b.clients may.0 n in
      let waits : (book older).waits n ≡ Some want =
      sym before.waits ∙ (ap wants_now is ∙ (ap (λ (p : Phase). wants_in p client.about.want) phase ∙ wanted)) in
      let idle : (said n older).asking ≡ false = sym before.asks ∙ (ap asks_now is ∙ ap asks_in phase) in
      let same : book (Bound n port ∷ older) ≡ bound_with n binding (book older) =
      ap (λ (o : Option Want). bound_turn n port (devices_if (book older).killed older) o (book older)) waits
      ∙ (ap (λ (d : DeviceTable). bound_with n (bound_by want port d (book older).forwards) (book older)) (sym devices_now)
      ∙ ap (λ (f : List (ℕ × ForwardRow)). bound_with n (bound_by want port s.devices f) (book older)) (sym b.forwards)) in
      booked_owns n m (Bound n port ∷ older) may.0 (record {
        stopped = keeps.stopped;
        devices = keeps.devices;
        owns = owns_over n s next m (owns_all n s (quietly next) refl refl) (owns_closes_with n binding.reply next);
        killed = ap (λ (x : Book). x.killed) same;
        forwards = keeps.forwards ∙ sym (ap (λ (x : Book). x.forwards) same);
        led = subst (λ (f : List (ℕ × ForwardRow)). AreLed s.devices f) (sym keeps.forwards) (led_bound want port may.0);
        here = subst (λ (r : Said). IsAs (m.state.clients n) r)
            (sym (ap (said_by n) same
            ∙ ap (λ (x : Bool). said_by n (record (bound_with n binding (book older)) { waits = λ k. cond x None ((book older).waits k) }))
            (eq-eqb n n refl)))
            (idle_is (m.state.clients n) (said_by n (record (bound_with n binding (book older)) { waits = λ k. None }))
            (closed_with_row n binding.reply next) idle refl);
        others = λ c e. ap (said_by c) same ∙ ap (λ (x : Bool). record (said c older) { waits = cond x None ((book older).waits c) }) e;
      })

  pub booked_bound : (n port : ℕ) → May s (Bound n port) → IsBooked (bound n port s).state (Bound n port ∷ older)
  booked_bound n port may = go (s.clients n) refl
    where
      wanted : (client : Client) → s.clients n ≡ Some client → client.about.phase ≡ Binding → (want : Option Want)
          → client.about.want ≡ want
          → IsBooked (bound_for want n port s).state (Bound n port ∷ older)
      wanted client is phase None e =
          bound_none n port may (ap wants_now is ∙ (ap (λ (p : Phase). wants_in p client.about.want) phase ∙ e))
      wanted client is phase (Some want) e = bound_some n port client want is phase e may

      by : (client : Client) → s.clients n ≡ Some client → (phase : Phase) → client.about.phase ≡ phase
          → IsBooked (bound_in phase client.about.want n port s).state (Bound n port ∷ older)
      by client is Binding e = wanted client is e client.about.want refl
      by client is _ e = bound_none n port may (ap wants_now is ∙ ap (λ (p : Phase). wants_in p client.about.want) e)

      go : (o : Option Client) → s.clients n ≡ o → IsBooked (bound_at o n port s).state (Bound n port ∷ older)
      go None is = bound_none n port may (ap wants_now is)
      go (Some client) is = by client is client.about.phase refl
