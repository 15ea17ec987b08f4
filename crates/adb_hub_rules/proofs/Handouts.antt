-- Handing out what is due.
use Rattle.std.proofs.Common.{ℕ, ◌≡◌, ◌≢◌, ◌<◌, true, false, Option, Some, refl, sym, ◌∙◌, ap, cond, eqb, arith, ◌⊎◌, inl, inr, length}
use Rattle.std.proofs.Common.{drop, min}
use Rattle.std.specs.Prelude.{option_and_then}
use Rattle.std.proofs.lemmas.Bool.{ne_eqb, cases_eq}
use Rattle.adb_outside.specs.Tables.{Rows, change_row}
use Rattle.adb_stream.specs.Flow.{has_credit, to_hand, flow_back}
use Rattle.adb_client.specs.declared.phase.Phase.{Phase}
use Rattle.adb_client.specs.declared.phase.Phase.TheVariants.{Asking, Opening, Streaming, Binding, Tracking, Closing, Gone}
use Rattle.adb_stream.specs.Window.{OneWrite}
use Rattle.adb_stream.specs.declared.flow.Flow.{Flow}
use Rattle.adb_stream.specs.declared.flow.Flow.TheVariants.{One, Credit}
use Rattle.adb_stream.specs.declared.row.Stream.{Stream}
use Rattle.adb_history.specs.Rows.{Client, State, to_client}
use Rattle.adb_history.specs.Events.{Made, quietly}
use Rattle.adb_history.specs.Clients.{closing, closes}
use Rattle.adb_history.specs.Handing.{tells_credit, tells_handed, hands, left_in, client_left, stream_hands, stream_left, takes_of}
use Rattle.adb_hub_rules.specs.Handing.{handed, leaves}
use Rattle.adb_hub_tables.proofs.Closings.{fused}

-- two changes that make the same of the row that stands there are one
pub same_change : {A : Type 0} (n : ℕ) (f g : A → Option A) (rows : Rows (Option A)) (row : A) → rows n ≡ Some row → f row ≡ g row
    → change_row n (option_and_then f) rows ≡ change_row n (option_and_then g) rows
same_change {A} n f g rows row is same i k = at_place k i
  where
    at_place : (k : ℕ) → change_row n (option_and_then f) rows k ≡ change_row n (option_and_then g) rows k
    at_place k = by_place (cases_eq n k)
      where
        here : n ≡ k → option_and_then f (rows k) ≡ option_and_then g (rows k)
        here e =
            let there : rows k ≡ Some row = ap rows (sym e) ∙ is in
            ap (option_and_then f) there ∙ (same ∙ ap (option_and_then g) (sym there))

        by_place : ◌⊎◌ (n ≡ k) (n ≢ k) → change_row n (option_and_then f) rows k ≡ change_row n (option_and_then g) rows k
        by_place (inl e) = ap (λ row. cond (eqb n k) row (rows k)) (here e)
        by_place (inr other) = ap (λ b. cond b (option_and_then f (rows k)) (rows k)) (ne_eqb n k other)
            ∙ ap (λ b. cond b (option_and_then g (rows k)) (rows k)) (sym (ne_eqb n k other))

-- fewer bytes of a stream are left than before
fewer_left : (left l : ℕ) (stream : Stream) (s : State) → left < to_hand stream.part.flow
    → stream_hands left l stream s ≡ leaves left l stream.part.flow stream s
fewer_left left l stream s fewer =
    ap (λ b. cond b (quietly s) (leaves left l stream.part.flow stream s))
    (ne_eqb left (to_hand stream.part.flow) (λ e. omega (arith, fewer, e)))

pub less_left : (due l : ℕ) (stream : Stream) (s : State) (left : ℕ) → left ≡ min (to_hand stream.part.flow) due
    → left < to_hand stream.part.flow
    → (leaves left l stream.part.flow stream s).state ≡ (stream_left due l (Some stream) s).state
less_left due l stream s left is fewer =
    ap (λ (m : Made). m.state) (sym (fewer_left left l stream s fewer)) ∙ ap (λ (n : ℕ). (stream_hands n l stream s).state) is

module _ (left l : ℕ) (stream : Stream) (s : State) where
  -- a device is told of a credit what is given back
  pub told_credit : (flow : Flow) → has_credit flow ≡ true → (tells_credit (flow_back left flow) l stream s).state
      ≡ (tells_handed flow left l stream s).state
  told_credit (One window) is = absurd (let clash : false ≡ true = is in cc)
  told_credit (Credit credit) is = refl

  -- and of one write that it was handed out
  pub told_one : {now : State} (flow : Flow) → has_credit flow ≡ false
      → ((window : OneWrite) → now ≡ (tells_handed (One window) left l stream s).state)
      → now ≡ (tells_handed flow left l stream s).state
  told_one (One window) is told = told window
  told_one (Credit credit) is told = absurd (let clash : true ≡ false = is in cc)

pub left_then : (l : ℕ) (n m : ℕ) (s t : State) → n ≡ m → s ≡ t
    → (stream_left n l (s.streams l) s).state ≡ (stream_left m l (t.streams l) t).state
left_then l n m s t same is = ap (λ (q : ℕ). (stream_left q l (s.streams l) s).state) same
    ∙ ap (λ (s : State). (stream_left m l (s.streams l) s).state) is

module _ (c n : ℕ) (s : State) (row : Client) (here : s.clients c ≡ Some row) where
  -- a client that is not closing stays
  pub handed_is : hands n row ≡ handed n row → to_client c (handed n) s ≡ to_client c (hands n) s
  handed_is same = ap (λ (rows : Rows (Option Client)). record s { clients = rows })
      (same_change c (handed n) (hands n) s.clients row here (sym same))

  -- one that is closing is gone when nothing is left
  pub closed_is : row.about.phase ≡ Closing → closes c (to_client c (handed n) s) ≡ to_client c (hands n) s
  closed_is is = ap (λ (rows : Rows (Option Client)). record s { clients = rows })
      (sym (fused c closing (handed n) (λ row. closing (record row { due = drop n row.due })) s.clients (λ row. refl))
      ∙ same_change c (λ row. closing (record row { due = drop n row.due })) (hands n) s.clients row here (sym (left is)))
    where
      left : row.about.phase ≡ Closing → hands n row ≡ closing (record row { due = drop n row.due })
      left is = ap (λ phase. left_in phase (drop n row.due) row) is

  -- a client with an open stream
  pub streaming_is : (l : ℕ) → row.about.phase ≡ Streaming l
      → (stream_left (length (drop n row.due)) l (s.streams l) (to_client c (handed n) s)).state ≡ (takes_of c n (s.clients c) s).state
  streaming_is l is =
      ap (λ (then : State). (stream_left (length (drop n row.due)) l (then.streams l) then).state) (handed_is (stays is))
      ∙ (ap (λ phase. (client_left phase (length (drop n row.due)) (to_client c (hands n) s)).state) (sym is)
      ∙ ap (λ (client : Option Client). (takes_of c n client s).state) (sym here))
    where
      stays : row.about.phase ≡ Streaming l → hands n row ≡ handed n row
      stays is = ap (λ phase. left_in phase (drop n row.due) row) is

  -- a client that is closing
  pub closing_is : row.about.phase ≡ Closing → closes c (to_client c (handed n) s) ≡ (takes_of c n (s.clients c) s).state
  closing_is is = closed_is is
      ∙ (ap (λ phase. (client_left phase (length (drop n row.due)) (to_client c (hands n) s)).state) (sym is)
      ∙ ap (λ (client : Option Client). (takes_of c n client s).state) (sym here))

  -- any other client
  pub plain_is : ((l : ℕ) → row.about.phase ≢ Streaming l) → row.about.phase ≢ Closing
      → to_client c (handed n) s ≡ (takes_of c n (s.clients c) s).state
  plain_is no_stream stays_open = handed_is (stays row.about.phase no_stream stays_open)
      ∙ (quiet row.about.phase no_stream stays_open
      ∙ ap (λ (client : Option Client). (takes_of c n client s).state) (sym here))
    where
      stays : (phase : Phase) → ((l : ℕ) → phase ≢ Streaming l) → phase ≢ Closing → left_in phase (drop n row.due) row ≡ handed n row
      stays Asking no_stream stays_open = refl
      stays (Opening l) no_stream stays_open = refl
      stays (Streaming l) no_stream stays_open = absurd (no_stream l refl)
      stays Binding no_stream stays_open = refl
      stays Tracking no_stream stays_open = refl
      stays Closing no_stream stays_open = absurd (stays_open refl)
      stays Gone no_stream stays_open = refl

      quiet : (phase : Phase) → ((l : ℕ) → phase ≢ Streaming l) → phase ≢ Closing
          → to_client c (hands n) s ≡ (client_left phase (length (drop n row.due)) (to_client c (hands n) s)).state
      quiet Asking no_stream stays_open = refl
      quiet (Opening l) no_stream stays_open = refl
      quiet (Streaming l) no_stream stays_open = absurd (no_stream l refl)
      quiet Binding no_stream stays_open = refl
      quiet Tracking no_stream stays_open = refl
      quiet Closing no_stream stays_open = refl
      quiet Gone no_stream stays_open = refl
