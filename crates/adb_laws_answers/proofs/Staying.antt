-- A client that is closing has no stream: it stays as it is through each entry that spares it, through what comes on
-- links and what goes up.
use Rattle.std.proofs.Common.{◌≡◌, ◌≢◌, ℕ, true, false, List, Option, Some, sym, ap, subst, ◌∙◌, arith, ◌⊎◌, inl, inr}
use Rattle.std.proofs.lemmas.Bool.{cases_eq}
use Rattle.adb_outside.specs.declared.kinds.Cause.{Cause}
use Rattle.adb_outside.specs.declared.kinds.Cause.TheVariants.{Eof}
use Rattle.adb_wire.specs.declared.packets.Packet.{Packet}
use Rattle.adb_wire.specs.declared.format.PacketFault.{PacketFault}
use Rattle.adb_client.specs.declared.phase.Phase.{Phase}
use Rattle.adb_client.specs.declared.phase.Phase.TheVariants.{Closing}
use Rattle.adb_capture.specs.declared.entry.Entry.{Entry}
use Rattle.adb_capture.specs.declared.entry.Entry.TheVariants.{Read, End, Put}
use Rattle.adb_history.specs.Rows.{Client, Link, State}
use Rattle.adb_history.specs.Events.{Made}
use Rattle.adb_history.specs.Bytes.{is_orderly}
use Rattle.adb_history.specs.Flow.{up_all}
use Rattle.adb_history.specs.Losing.{input_ends, client_ends}
use Rattle.adb_history.specs.Machine.{rule, May}
use Rattle.adb_history.specs.Owned.{IsOwned}
use Rattle.adb_history.specs.Packets.{treat_all, faulty_on}
use Rattle.adb_history.specs.Reading.{reads_in, reads_from}
use Rattle.adb_laws_causes.proofs.Untouched.{Still, Untouched}
use Rattle.adb_laws_causes.proofs.UntouchedEntries.{Idle, IsOthers, idle_apart, idle_away, idle_rule}
use Rattle.adb_laws_causes.proofs.UntouchedRules.{far_all, far_faulty}
use Rattle.adb_laws_causes.proofs.UpRuns.{u_ups}

-- its own hand-out, and its failure, do not spare a client
abbrev pub Spares : ℕ → Entry → Type 0
Spares c (Put n bytes) = n ≢ c
Spares c (End n cause) = n ≡ c → is_orderly cause ≡ true
Spares c _ = Unit {0}

module _ (c : ℕ) (x : Client) (s : State) (h : IsOwned s) (here : s.clients c ≡ Some x) (closes : x.about.phase ≡ Closing) where
  idle : Idle x.about.phase
  idle = subst Idle (sym closes) tt

  stays_by : (m : Made) → Untouched 0 c s m → m.state.clients c ≡ Some x
  stays_by m u = u.client x here (subst Still (sym closes) tt)

  pub stays_treated : (t : ℕ) (packets : List Packet) → (treat_all t packets s).state.clients c ≡ Some x
  stays_treated t packets = stays_by (treat_all t packets s) (far_all 0 c t packets s (idle_away c x s h here idle t))

  pub stays_faulty : (o : Option Link) (t : ℕ) (fault : Option PacketFault) → (faulty_on o t fault s).state.clients c ≡ Some x
  stays_faulty o t fault = stays_by (faulty_on o t fault s) (far_faulty 0 c t o fault s (idle_away c x s h here idle t))

  pub stays_up : (k : ℕ) → (up_all k s).state.clients c ≡ Some x
  stays_up k = stays_by (up_all k s) (u_ups 0 c k s (idle_apart c x s h here idle) (λ n less e. omega (arith, e)))

  -- ---- entries
  stays_other : (e : Entry) → May s e → (rule e s).state.stopped ≡ false → IsOthers c e → (rule e s).state.clients c ≡ Some x
  stays_other e may on other = stays_by (rule e s) (idle_rule c x s h here idle e may other (inl on))

  own_read : (bytes : List ℕ) → (reads_from (s.clients c) c bytes s).state.clients c ≡ Some x
  own_read bytes =
      ap (λ (o : Option Client). (reads_from o c bytes s).state.clients c) here
      ∙ (ap (λ (p : Phase). (reads_in p c bytes x s).state.clients c) closes ∙ here)

  own_end : (cause : Cause) → is_orderly cause ≡ true → (client_ends c cause (s.clients c) s).state.clients c ≡ Some x
  own_end Eof so = ap (λ (o : Option Client). (client_ends c Eof o s).state.clients c) here
      ∙ (ap (λ (p : Phase). (input_ends p c s).clients c) closes ∙ here)
  own_end _ so = absurd (let clash : false ≡ true = so in cc)

  pub stays_rule : (e : Entry) → May s e → (rule e s).state.stopped ≡ false → Spares c e → (rule e s).state.clients c ≡ Some x
  stays_rule (Read n bytes) may on spares = go (cases_eq n c)
    where
      go : (n ≡ c) ⊎ (n ≢ c) → (rule (Read n bytes) s).state.clients c ≡ Some x
      go (inl same) = subst (λ (m : ℕ). (rule (Read m bytes) s).state.clients c ≡ Some x) (sym same) (own_read bytes)
      go (inr other) = stays_other (Read n bytes) may on other
  stays_rule (End n cause) may on spares = go (cases_eq n c)
    where
      go : (n ≡ c) ⊎ (n ≢ c) → (rule (End n cause) s).state.clients c ≡ Some x
      go (inl same) = subst (λ (m : ℕ). (rule (End m cause) s).state.clients c ≡ Some x) (sym same) (own_end cause (spares same))
      go (inr other) = stays_other (End n cause) may on other
  stays_rule (Put n bytes) may on other = stays_other (Put n bytes) may on other
  stays_rule e may on spares = stays_other e may on tt
