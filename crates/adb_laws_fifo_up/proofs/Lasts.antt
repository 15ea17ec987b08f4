-- A client's own read does not end its stream.
use Rattle.std.proofs.Common.{◌≡◌, ◌≢◌, ℕ, zero, suc, Bool, true, false, List, [], ◌∷◌, ◌++◌, length, take, drop, Option, Some, None}
use Rattle.std.proofs.Common.{refl, sym, ap, subst, ◌∙◌, arith, ◌⊎◌, inl, inr}
use Rattle.std.specs.Prelude.{◌&&◌, not}
use Rattle.std.proofs.lemmas.Bool.{cases_eq}
use Rattle.adb_outside.specs.Tables.{Rows}
use Rattle.adb_stream.specs.Window.{OneWrite}
use Rattle.adb_stream.specs.Credit.{ByteCredit}
use Rattle.adb_stream.specs.declared.flow.Flow.{Flow}
use Rattle.adb_stream.specs.declared.flow.Flow.TheVariants.{One, Credit}
use Rattle.adb_stream.specs.declared.row.Part.{Part}
use Rattle.adb_stream.specs.declared.row.Stream.{Stream}
use Rattle.adb_stream.specs.Flow.{is_idle}
use Rattle.adb_client.specs.declared.phase.Phase.{Phase}
use Rattle.adb_client.specs.declared.phase.Phase.TheVariants.{Opening, Streaming}
use Rattle.adb_history.specs.Rows.{Client, Link, State, to_client, to_stream, none_kept, with_held, with_stream_part}
use Rattle.adb_history.specs.Events.{ending_in}
use Rattle.adb_history.specs.Links.{maxdata_of}
use Rattle.adb_history.specs.Clients.{closing, closes}
use Rattle.adb_history.specs.Flow.{write_len, write_before, writes, payloads, total, flow_after, with_flow, is_over, is_streaming, up}
use Rattle.adb_history.specs.Flow.{up_all}
use Rattle.adb_history.specs.Machine.{History, state, IsLegal}
use Rattle.adb_history.specs.Orderly.{IsResting, IsQuiet}
use Rattle.adb_history.specs.Owned.{StreamOf, HoldsIn, IsOwned}
use Rattle.adb_history.proofs.Following.{changed_here, changed_other}
use Rattle.adb_history.proofs.Sweep.{Sending, sent, left, over, up_to}
use Rattle.adb_history.proofs.Quiet.{up_calms, closing_idle as closed_idle}
use Rattle.adb_history.proofs.OwnedStep.{all_owned}
use Rattle.adb_history.proofs.OrderlyStates.{orderly}
use Rattle.adb_laws_fifo_up.specs.Seen.{IsOf}
use Rattle.adb_laws_fifo_up.proofs.Seeing.{silent_up, ending_none}
use Rattle.adb_laws_fifo_up.proofs.SendsUp.{streaming_is, sends_made, lasting_told}
use Rattle.adb_laws_fifo_up.proofs.StreamClimbs.{up_is}
use Rattle.adb_history.proofs.Writes.{none_written}

-- ---- what is read does not make a stream over that is not
open_over : (flow : Flow) (held : List ℕ) → is_over false held flow ≡ false
open_over flow [] = refl
open_over flow (b ∷ held) = refl

and_none : (a : Bool) → (a && false) ≡ false
and_none true = refl
and_none false = refl

busy_over : (closed : Bool) (held : List ℕ) (flow : Flow) → is_idle flow ≡ false → is_over closed held flow ≡ false
busy_over closed [] flow e = ap (λ (b : Bool). closed && b) e ∙ and_none closed
busy_over closed (b ∷ held) flow e = refl

-- a write that is outstanding stays so
outstanding : (ps : List (List ℕ)) (window : OneWrite) → window.outstanding ≡ true → is_idle (flow_after ps (One window)) ≡ false
outstanding [] window e = ap not e
outstanding (p ∷ ps) window e = outstanding ps (record window { outstanding = true }) refl

idle_closed : (closed idle : Bool) → (closed && idle) ≡ false → idle ≡ true → closed ≡ false
idle_closed true idle e f = let clash : true ≡ false = sym f ∙ e in cc
idle_closed false idle e f = refl

-- where nothing may be written, nothing may be written of more
none_first : (n : ℕ) (held : List ℕ) (others : List (List ℕ)) → write_before n held others ≡ [] → n ≡ 0
none_first zero held others e = refl
none_first (suc n) held others e = let clash : take (suc n) held ∷ others ≡ [] = e in cc

none_more : (maxdata credit k b : ℕ) (held more : List ℕ) → writes (length (b ∷ held)) maxdata credit (b ∷ held) ≡ []
    → writes k maxdata credit (b ∷ more) ≡ []
none_more maxdata credit k b held more e =
    let none : write_len maxdata credit (b ∷ held) ≡ 0 = none_first (write_len maxdata credit (b ∷ held)) (b ∷ held) _ e in
    none_written k maxdata credit (b ∷ more) (omega (arith, none))

module _ (closed : Bool) (maxdata : ℕ) (bytes : List ℕ) where
  -- what is read more
  abbrev OverWith : Flow → List ℕ → Type 0
  OverWith flow held =
      is_over closed (drop (total (payloads flow maxdata (held ++ bytes))) (held ++ bytes))
      (flow_after (payloads flow maxdata (held ++ bytes)) flow) ≡ false

  one_reads : (window : OneWrite) (held : List ℕ) → is_over closed held (One window) ≡ false → OverWith (One window) held
  one_reads window held goes_on = go (payloads (One window) maxdata (held ++ bytes))
    where
      empty : (held more : List ℕ) → is_over closed held (One window) ≡ false → is_over closed (held ++ more) (One window) ≡ false
      empty [] [] e = e
      empty [] (b ∷ more) e = refl
      empty (b ∷ held) more e = refl

      go : (ps : List (List ℕ)) → is_over closed (drop (total ps) (held ++ bytes)) (flow_after ps (One window)) ≡ false
      go [] = empty held bytes goes_on
      go (p ∷ ps) = busy_over closed (drop (total (p ∷ ps)) (held ++ bytes)) (flow_after (p ∷ ps) (One window))
          (outstanding ps (record window { outstanding = true }) refl)

  credit_reads : (credit : ByteCredit) (held : List ℕ) → payloads (Credit credit) maxdata held ≡ []
      → is_over closed held (Credit credit) ≡ false
      → OverWith (Credit credit) held
  credit_reads credit [] nothing goes_on =
      let ps : List (List ℕ) = payloads (Credit credit) maxdata bytes in
      subst (λ (b : Bool). is_over b (drop (total (payloads (Credit credit) maxdata bytes)) bytes)
      (flow_after (payloads (Credit credit) maxdata bytes) (Credit credit)) ≡ false)
      (sym (idle_closed closed true goes_on refl)) (open_over (flow_after ps (Credit credit)) (drop (total ps) bytes))
  credit_reads credit (b ∷ held) nothing goes_on =
      ap (λ (ps : List (List ℕ)). is_over closed (drop (total ps) (b ∷ (held ++ bytes))) (flow_after ps (Credit credit)))
      (none_more maxdata credit.to_send (length (b ∷ (held ++ bytes))) b held (held ++ bytes) nothing)

  pub reads_over : (flow : Flow) (held : List ℕ) → payloads flow maxdata held ≡ [] → is_over closed held flow ≡ false → OverWith flow held
  reads_over (One window) held nothing goes_on = one_reads window held goes_on
  reads_over (Credit credit) held nothing goes_on = credit_reads credit held nothing goes_on

-- ---- the up rule for other streams
not_streaming : (l m : ℕ) (phase : Phase) → l ≢ m → is_streaming l phase ≡ true → is_streaming m phase ≡ true → ⊥
not_streaming l m phase apart e f =
    let same : Streaming l ≡ Streaming m = sym (streaming_is l phase e) ∙ streaming_is m phase f in
    apart (let is : l ≡ m = cc in is)

-- a stream that sends is not over then
abbrev pub Lasts : ℕ → State → Type 0
Lasts l s = (y : Sending l s) → over l s y ≡ false

module _ (k l : ℕ) (s : State) (apart : k ≢ l) (h : Lasts l s) where
  module _ (x : Sending k s) (links : Rows (Option Link)) where
    abbrev part : Part
    part = with_flow (flow_after (sent k s x) x.stream.part.flow) x.stream.part

    abbrev held_now : List ℕ
    held_now = drop (total (sent k s x)) x.client.held

    here_now : (left k s x).clients x.stream.client ≡ Some (record x.client { held = held_now })
    here_now = changed_here x.stream.client (with_held held_now) s.clients x.client x.here

    sends_other : Lasts l (record (left k s x) { links = links })
    sends_other y = go (cases_eq x.stream.client y.stream.client)
      where
        go : (x.stream.client ≡ y.stream.client) ⊎ (x.stream.client ≡ y.stream.client → ⊥)
            → over l (record (left k s x) { links = links }) y ≡ false
        go (inl same) =
            let row : record x.client { held = held_now } ≡ y.client =
            (let both : Some (record x.client { held = held_now }) ≡ Some y.client =
            sym here_now ∙ (ap (left k s x).clients same ∙ y.here) in cc) in
            absurd (not_streaming k l x.client.about.phase apart x.streaming
            (ap (λ (z : Client). is_streaming l z.about.phase) row ∙ y.streaming))
        go (inr other) = h (record {
          stream = y.stream;
          client = y.client;
          there = sym (changed_other k l (with_stream_part part) s.streams apart) ∙ y.there;
          here = sym (changed_other x.stream.client y.stream.client (with_held held_now) s.clients other) ∙ y.here;
          streaming = y.streaming;
        })

    ends_other : Lasts l (record (closes x.stream.client (to_stream k none_kept (left k s x))) { links = links })
    ends_other y = go (cases_eq x.stream.client y.stream.client)
      where
        client : Client
        client = record x.client { held = held_now }

        closed_now : (closes x.stream.client (to_stream k none_kept (left k s x))).clients x.stream.client ≡ closing client
        closed_now = changed_here x.stream.client closing (left k s x).clients client here_now

        go : (x.stream.client ≡ y.stream.client) ⊎ (x.stream.client ≡ y.stream.client → ⊥)
            → over l (record (closes x.stream.client (to_stream k none_kept (left k s x))) { links = links }) y ≡ false
        go (inl same) = absurd (closed_idle client.due client y.client l
            (sym closed_now ∙ (ap (closes x.stream.client (to_stream k none_kept (left k s x))).clients same ∙ y.here)) y.streaming)
        go (inr other) = h (record {
          stream = y.stream;
          client = y.client;
          there = sym (changed_other k l (with_stream_part part) s.streams apart)
              ∙ (sym (changed_other k l none_kept (left k s x).streams apart) ∙ y.there);
          here = sym (changed_other x.stream.client y.stream.client (with_held held_now) s.clients other)
              ∙ (sym (changed_other x.stream.client y.stream.client closing (left k s x).clients other) ∙ y.here);
          streaming = y.streaming;
        })

  up_other : Lasts l (up k s).state
  up_other = up_to (Lasts l) k s
      (record { stays = λ idle. h; sends = λ x links e. sends_other x links; ends = λ x links e. ends_other x links })

-- ---- and for this one
up_own : (l : ℕ) (s : State) → Lasts l (up l s).state
up_own l s y =
    let calm = (up_calms l s).calm y in
    ap (λ (ps : List (List ℕ)). is_over y.client.about.ended (drop (total ps) y.client.held)
    (flow_after ps y.stream.part.flow)) calm.nothing ∙ calm.goes_on

-- ---- no end of such a stream is told
up_lives : (k l : ℕ) (s : State) → Lasts l s → ending_in l (up k s).told ≡ None
up_lives k l s h = go (cases_eq k l)
  where
    go : (k ≡ l) ⊎ (k ≡ l → ⊥) → ending_in l (up k s).told ≡ None
    go (inl same) = subst (λ (n : ℕ). ending_in l (up n s).told ≡ None) (sym same)
        (up_is (λ m. ending_in l m.told ≡ None) l s refl (λ x. lasting_told l s x (h x)))
    go (inr apart) = up_is (λ m. ending_in l m.told ≡ None) k s refl
        (λ x. (silent_up k l (λ e. apart (sym e)) _ (sends_made k s x).told).lives)

up_lasts : (k l : ℕ) (s : State) → Lasts l s → Lasts l (up k s).state
up_lasts k l s h = go (cases_eq k l)
  where
    go : (k ≡ l) ⊎ (k ≡ l → ⊥) → Lasts l (up k s).state
    go (inl same) = subst (λ (n : ℕ). Lasts l (up n s).state) (sym same) (up_own l s)
    go (inr apart) = up_other k l s apart h

up_all_lasts : (n l : ℕ) (s : State) → Lasts l s → Lasts l (up_all n s).state
up_all_lasts zero l s h = h
up_all_lasts (suc n) l s h = up_lasts (suc n) l (up_all n s).state (up_all_lasts n l s h)

pub up_all_lives : (n l : ℕ) (s : State) → Lasts l s → ending_in l (up_all n s).told ≡ None
up_all_lives zero l s h = refl
up_all_lives (suc n) l s h =
    ending_none l (up_all n s).told (up (suc n) (up_all n s).state).told (up_all_lives n l s h)
    (up_lives (suc n) l (up_all n s).state (up_all_lasts n l s h))

-- ---- a client that has a stream reads
-- the stream of a client lives
pub has_stream : (s : State) → IsOwned s → (l c : ℕ) (x : Client) → s.clients c ≡ Some x → IsOf l x.about.phase → StreamOf s.streams c l
has_stream s owned l c x here of = go x.about.phase of (owned.owned.client c x here).holds
  where
    go : (phase : Phase) → IsOf l phase → HoldsIn phase s.streams c x → StreamOf s.streams c l
    go (Opening k) same holds = subst (StreamOf s.streams c) same holds
    go (Streaming k) same holds = subst (StreamOf s.streams c) same holds
    go _ same holds = absurd same

module _ (l c : ℕ) (bytes : List ℕ) (older : History) (legal : IsLegal older) (x : Client) (here : (state older).clients c ≡ Some x)
    (of : IsOf l x.about.phase) where
  own_stream : StreamOf (state older).streams c l
  own_stream = has_stream (state older) (all_owned older legal) l c x here of

  pub read_lasts : Lasts l (to_client c (with_held (x.held ++ bytes)) (state older))
  read_lasts y = subst (λ (z : Client). is_over z.about.ended
      (drop (total (payloads y.stream.part.flow (maxdata_of y.stream.link (state older).devices) z.held)) z.held)
      (flow_after (payloads y.stream.part.flow (maxdata_of y.stream.link (state older).devices) z.held) y.stream.part.flow) ≡ false) row
      (reads_over x.about.ended (maxdata_of y.stream.link (state older).devices) bytes y.stream.part.flow x.held
      quiet.nothing quiet.goes_on)
    where
      stream : own_stream.stream ≡ y.stream
      stream = let both : Some own_stream.stream ≡ Some y.stream = sym own_stream.is ∙ y.there in cc

      client : c ≡ y.stream.client
      client = sym own_stream.client ∙ ap (λ (z : Stream). z.client) stream

      row : record x { held = x.held ++ bytes } ≡ y.client
      row =
          let both : Some (record x { held = x.held ++ bytes }) ≡ Some y.client =
          sym (changed_here c (with_held (x.held ++ bytes)) (state older).clients x here)
          ∙ (ap (to_client c (with_held (x.held ++ bytes)) (state older)).clients client ∙ y.here) in
          cc

      open_now : x.about.phase ≡ Streaming l
      open_now = streaming_is l x.about.phase (ap (λ (z : Client). is_streaming l z.about.phase) row ∙ y.streaming)

      quiet : IsQuiet (state older) x y.stream
      quiet =
          let rests : IsResting (Streaming l) (state older) c x =
          subst (λ (p : Phase). IsResting p (state older) c x) open_now ((orderly older legal).client c x here).rests in
          rests.1 y.stream y.there
