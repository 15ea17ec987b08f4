-- A client's input ends.
use Rattle.std.proofs.Common.{ℕ, ◌≡◌, ◌≢◌, Bool, false, cond, List, [], Option, Some, None, refl, sym, ◌∙◌, ap, subst}
use Rattle.std.specs.Prelude.{option_map, option_and_then}
use Rattle.std.proofs.lemmas.Bool.{eq-eqb}
use Rattle.adb_outside.specs.Tables.{at}
use Rattle.adb_outside.specs.declared.kinds.Cause.{Cause}
use Rattle.adb_outside.specs.declared.kinds.Cause.TheVariants.{Eof}
use Rattle.adb_capture.specs.declared.entry.Entry.TheVariants.{End}
use Rattle.adb_client.specs.Client.{SeenClient}
use Rattle.adb_client.specs.declared.phase.Phase.{Phase}
use Rattle.adb_client.specs.declared.phase.Phase.TheVariants.{Asking, Opening, Streaming, Binding, Tracking, Closing, Gone}
use Rattle.adb_stream.specs.declared.row.Stream.{Stream}
use Rattle.adb_laws_resting.specs.Resting.{StepIsRule, has_open_stream, is_open_phase}
use Rattle.adb_history.specs.Rows.{Client, State, to_client}
use Rattle.adb_history.specs.Links.{maxdata_of}
use Rattle.adb_history.specs.Flow.{payloads, up}
use Rattle.adb_history.specs.Losing.{client_ends, input_ends, input_ended}
use Rattle.adb_history.specs.Moves.{IsClientIn}
use Rattle.adb_history.specs.Orderly.{IsResting, HasStream}
use Rattle.adb_hub_tables.specs.declared.tables.Tables.{Tables}
use Rattle.adb_hub_tables.specs.Tables.{client_row, state_of, phase_in}
use Rattle.adb_hub_tables.specs.Places.{Uses}
use Rattle.adb_hub_rules.specs.Up.{held_at, all_unsent}
use Rattle.adb_hub_tables.specs.Fit.{IsFit, IsReached, Makes}
use Rattle.adb_hub_tables.proofs.Using.{provided_by}
use Rattle.adb_laws_resting.proofs.Reached.{within, is_orderly, goes_up}
use Rattle.adb_laws_resting.proofs.Fitting.{made_by}
use Rattle.adb_laws_resting.proofs.Summing.{sums_end}

-- a client in another phase has no stream open
no_open_phase : (phase : Phase) → ((l : ℕ) → phase ≢ Streaming l) → is_open_phase phase ≡ false
no_open_phase (Streaming l) other = absurd (other l refl)
no_open_phase Asking other = refl
no_open_phase (Opening l) other = refl
no_open_phase Binding other = refl
no_open_phase Tracking other = refl
no_open_phase Closing other = refl
no_open_phase Gone other = refl

pub no_open : (row : Option Client) → ((l : ℕ) → phase_in row ≢ Streaming l) → has_open_stream row ≡ false
no_open None other = refl
no_open (Some client) other = no_open_phase client.about.phase other

-- what a row of the tables holds is what it shows
abbrev shown_held : Option Client → List ℕ
shown_held None = []
shown_held (Some client) = client.held

held_is : (row : Option SeenClient) → held_at row ≡ shown_held (option_map client_row row)
held_is None = refl
held_is (Some client) = refl

-- a row in a phase is a client's
client_there : (s : State) (c l : ℕ) (row : Option Client) → s.clients c ≡ row → phase_in row ≡ Streaming l → IsClientIn s c (Streaming l)
client_there s c l None here phase = let clash : Gone ≡ Streaming l = phase in cc
client_there s c l (Some client) here phase = record { client = client; here = here; in_phase = phase }

module _ (s : State) (reached : IsReached s) (c l : ℕ) (x : IsClientIn s c (Streaming l)) where
  -- the rule notes that the input ended
  noted : (client_ends c Eof (s.clients c) s).state ≡ to_client c input_ended s
  noted = ap (λ (row : Option Client). (client_ends c Eof row s).state) x.here ∙ ap (λ (phase : Phase). input_ends phase c s) x.in_phase

  held_then : shown_held ((to_client c input_ended s).clients c) ≡ x.client.held
  held_then =
      ap (λ (here : Bool). shown_held (cond here (option_and_then input_ended (s.clients c)) (s.clients c))) (eq-eqb c c refl)
      ∙ ap (λ (row : Option Client). shown_held (option_and_then input_ended row)) x.here

  own : HasStream s c l
  own = (subst (λ (phase : Phase). IsResting phase s c x.client) x.in_phase ((is_orderly s reached).client c x.client x.here).rests).0

  owner : (stream : Stream) → s.streams l ≡ Some stream → stream.client ≡ c
  owner stream there =
      let both : Some own.stream ≡ Some stream = sym own.is ∙ there in
      let same : own.stream ≡ stream = cc in
      ap (λ (t : Stream). t.client) (sym same) ∙ own.client

  -- the stream can send nothing more
  pub idle_then : (mid : Tables) → state_of mid ≡ (client_ends c Eof (s.clients c) s).state → (stream : Stream)
      → at l mid.streams.streams ≡ Some stream
      → all_unsent stream mid ≡ []
  idle_then mid ruled stream there =
      let noted_is : state_of mid ≡ to_client c input_ended s = ruled ∙ noted in
      let before : s.streams l ≡ Some stream = sym (ap (λ (t : State). t.streams l) noted_is) ∙ there in
      let now : (client_ends c Eof (s.clients c) s).state.streams l ≡ Some stream = sym (ap (λ (t : State). t.streams l) ruled) ∙ there in
      let devices : mid.devices ≡ s.devices = ap (λ (t : State). t.devices) noted_is in
      let held : held_at (at stream.client mid.clients.entries) ≡ x.client.held =
      ap (λ (n : ℕ). held_at (at n mid.clients.entries)) (owner stream before)
      ∙ (held_is (at c mid.clients.entries) ∙ (ap (λ (t : State). shown_held (t.clients c)) noted_is ∙ held_then)) in
      ap (λ (bytes : List ℕ). payloads stream.part.flow (maxdata_of stream.link mid.devices) bytes) held
      ∙ (ap (λ (table : _). payloads stream.part.flow (maxdata_of stream.link table) x.client.held) devices
      ∙ (goes_up s reached).quiet c l x stream now)

module _ (old new : Tables) (fit : IsFit old) (reached : IsReached (state_of old)) (uses : (t c : ℕ) → Uses t 0 c 0 old new) where
  abbrev s : State
  s = state_of old

  -- nothing goes up
  pub ended_by : (c : ℕ) (cause : Cause) → StepIsRule (End c cause) s → state_of new ≡ (client_ends c cause (s.clients c) s).state
      → Makes (End c cause) old new
  ended_by c cause rests state =
      made_by (End c cause) old new fit (record {
        provided = provided_by old new uses fit.provided;
        read = (uses 0 0).read;
        state = state ∙ sym rests;
        sums = sums_end s (within s reached) c cause;
      })

  -- the stream that the client has open may be over
  pub ended_open : (c l : ℕ) → IsClientIn s c (Streaming l) → state_of new ≡ (up l (client_ends c Eof (s.clients c) s).state).state
      → Makes (End c Eof) old new
  ended_open c l x state =
      made_by (End c Eof) old new fit (record {
        provided = provided_by old new uses fit.provided;
        read = (uses 0 0).read;
        state = state ∙ sym ((goes_up s reached).ended c l x);
        sums = sums_end s (within s reached) c Eof;
      })
