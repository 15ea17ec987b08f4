-- A stream and its client, as a client that asks no more; and with other things said of them.
use Rattle.std.proofs.Common.{◌≡◌, ℕ, Bool, true, false, List, [], ◌∷◌, ◌++◌, Option, Some, refl, sym, ap, ◌∙◌, append_assoc, arith, inl}
use Rattle.std.proofs.Common.{inr, ◌⊎◌}
use Rattle.adb_stream.specs.declared.row.Stream.{Stream}
use Rattle.adb_reply.specs.Strings.{okay, failed}
use Rattle.adb_history.specs.Rows.{State}
use Rattle.adb_history.specs.Events.{Event, owed_to}
use Rattle.adb_history.specs.Answered.{closed_reply}
use Rattle.adb_laws_answered.specs.Shown.{aside, Seen, Subject, WillNotOpen, ShownOut, IsShown}
use Rattle.adb_laws_answered.proofs.SteadyRows.{at_marked}
use Rattle.adb_laws_answered.proofs.ServedMoves.{steady}
use Rattle.adb_laws_answered.proofs.ClientTurns.{IsOfClient}
use Rattle.adb_laws_answered.proofs.ServedClients.{served_busy}
use Rattle.adb_laws_answered.proofs.ShownMoves.{steps_same, shown_quietly}
use Rattle.adb_laws_answered.proofs.ShownRules.{shown_turns}

pub shown_of : (heard : Bool) (x : Subject) (seen : Seen) → IsOfClient (aside x) x.client x.link (λ s w. IsShown heard x seen s w)
shown_of heard x seen = record {
  turns = λ asker apart. shown_turns heard x seen asker apart;
  owned = λ s w h. h.owned;
  busy = λ s w client h is. served_busy client.about.phase x.stream heard (h.row client is).phase;
  stays = λ s next w owned clients streams drawn links h.
      shown_quietly heard x seen s next w (steps_same x s next (ap (λ (f : ℕ → Option Stream). f x.stream) streams) (λ e. links ∙ e)) owned
      (λ client is. h.row client (sym clients ∙ is)) (omega (arith, drawn)) h;
  marks = λ s next w owned clients streams drawn links h.
      shown_quietly heard x seen s next w (steps_same x s next (ap (λ (f : ℕ → Option Stream). f x.stream) streams) (λ e. links ∙ e)) owned
      (λ client is. at_marked (steady x.stream heard) x.client s.clients h.row client (sym clients ∙ is)) (omega (arith, drawn)) h;
}

-- what is said anew
pub record IsSaid (heard : Bool) (x : Subject) (may failed : Bool) (s : State) : Type 0 where
  pub live : (y : Stream) → s.streams x.stream ≡ Some y → y.part.orphan ≡ false → may ≡ true
  pub hears : heard ≡ true → may ≡ true
  pub fails : x.failed ≡ true → failed ≡ true

module _ (heard : Bool) (x : Subject) where
  pub resubject : (may failed : Bool) (seen : Seen) (s : State) (w : List Event) → IsSaid heard x may failed s
      → IsShown heard x seen s w
      → IsShown heard (record x { may = may; failed = failed }) seen s w
  resubject may failed seen s w said h = record {
    owned = h.owned;
    row = h.row;
    own = λ y is. (let was = h.own y is in record {
      client = was.client;
      link = was.link;
      remote = was.remote;
      pending = was.pending;
      may = λ owned. said.live y is owned;
      orphan = λ orphan. said.fails (was.orphan orphan);
    });
    drawn = h.drawn;
    out = out heard refl h.out;
  }
    where
      by : WillNotOpen x seen.sealed s → WillNotOpen (record x { may = may; failed = failed }) seen.sealed s
      by (inl sealed) = inl sealed
      by (inr (inl gone)) = inr (inl gone)
      by (inr (inr f)) = inr (inr (said.fails f))

      none : (seen.remote ≡ 0) ⊎ (x.failed ≡ true) → (seen.remote ≡ 0) ⊎ (failed ≡ true)
      none (inl e) = inl e
      none (inr f) = inr (said.fails f)

      out : (c : Bool) → heard ≡ c → ShownOut c x seen s (owed_to x.client w)
          → ShownOut c (record x { may = may; failed = failed }) seen s (owed_to x.client w)
      out true e o = record { bytes = o.bytes; out_is = o.out_is; may = said.hears e; told = o.told }
      out false e o =
          record {
            closed = o.closed;
            out_is = o.out_is;
            waits = o.waits;
            gone = λ g. by (o.gone g);
            none =
                λ c. none (o.none c);
          }

-- ---- what a client was told tells whether it heard
-- `OKAY` is no refusal
abbrev first_byte : List ℕ → ℕ
first_byte [] = 0
first_byte (x ∷ xs) = x

differ : ◌≡◌ {A = ℕ} 79 70 → ⊥
differ e = omega (arith, e)

some_byte : ◌≡◌ {A = ℕ} 79 0 → ⊥
some_byte e = omega (arith, e)

okay_not_closed : (bytes : List ℕ) (b : Bool) → okay ++ bytes ≡ closed_reply b → ⊥
okay_not_closed bytes true e = differ (ap first_byte e)
okay_not_closed bytes false e = some_byte (ap first_byte e)

same_front : (xs ys zs : List ℕ) → xs ++ ys ≡ xs ++ zs → ys ≡ zs
same_front [] ys zs e = e
same_front (x ∷ xs) ys zs e = same_front xs ys zs (ap rest e)
  where
    rest : List ℕ → List ℕ
    rest [] = []
    rest (y ∷ ys) = ys

-- who heard that its stream is open was not told that it is closed
pub opened_not_closed : (replies bytes more : List ℕ) (b : Bool) → (replies ++ (okay ++ bytes)) ++ more ≡ replies ++ closed_reply b → ⊥
opened_not_closed replies bytes more b e =
    okay_not_closed (bytes ++ more) b (sym (append_assoc okay bytes more)
    ∙ same_front replies ((okay ++ bytes) ++ more) (closed_reply b) (sym (append_assoc replies (okay ++ bytes) more) ∙ e))
