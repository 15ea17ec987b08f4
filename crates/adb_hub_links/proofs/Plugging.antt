-- A device is plugged in.
use Rattle.std.proofs.Common.{ℕ, ◌≡◌, ◌≢◌, ◌+◌, ◌≤◌, Bool, true, false, cond, eqb, List, [], ◌∷◌}
use Rattle.std.proofs.Common.{Option, Some, None, All, refl, sym, ◌∙◌, ap, subst, arith, ◌⊎◌, inl, inr}
use Rattle.std.specs.Prelude.{option_map, option_and_then}
use Rattle.std.proofs.lemmas.Bool.{ne_eqb, cases_eq}
use Rattle.std.proofs.lemmas.List.Sums.{sum_by-cons}
use Rattle.std.specs.Map.{values_of}
use Rattle.std.proofs.lemmas.List.Elements.{All-head, All-tail, All-weaker}
use Rattle.adb_outside.specs.Tables.{at, IsRising, Rows, Puts, put_row, change_row}
use Rattle.adb_outside.specs.declared.kinds.Kind.{Kind}
use Rattle.adb_outside.proofs.TableLaws.{at_each}
use Rattle.adb_capture.specs.declared.entry.Entry.TheVariants.{Attach}
use Rattle.adb_registry.specs.Registry.{attached}
use Rattle.adb_stream.specs.declared.row.Stream.{Stream}
use Rattle.adb_wire.specs.Packet.{spelling}
use Rattle.adb_history.specs.Rows.{Link, new_link, with_link_due}
use Rattle.adb_history.specs.Links.{server_cnxn, check_on}
use Rattle.adb_history.specs.Reading.{plugs_in}
use Rattle.adb_history.specs.Tracking.{mark_all}
use Rattle.adb_history.proofs.Growing.{IsWithin as IsWithinRow}
use Rattle.adb_hub_tables.specs.declared.ports.Port.{Port}
use Rattle.adb_hub_tables.specs.declared.tables.Tables.{Tables}
use Rattle.adb_hub_tables.specs.Tables.{link_row, state_of}
use Rattle.adb_hub_tables.specs.Places.{LinkRoom, is_on, streams_on, IsCountedAt, Uses}
use Rattle.adb_hub_tables.specs.Fit.{IsReadOutAt, IsFit, IsReached, Makes}
use Rattle.adb_hub_tables.proofs.Using.{provided_by}
use Rattle.adb_hub_links.specs.Plugged.{greeted}
use Rattle.adb_laws_resting.proofs.Reached.{within, is_orderly, sends_nothing}
use Rattle.adb_hub_tables.proofs.PutRows.{shown_put, holds_put}

-- ---- no stream is one of a link that is not there yet
none_on : (link : ℕ) (streams : List (ℕ × Stream)) → All (λ (e : ℕ × Stream). e.1.link ≢ link) streams → streams_on link streams ≡ 0
none_on link [] all = refl
none_on link (e ∷ es) all =
    let off : is_on link e.1 ≡ 0 = ap (λ (b : Bool). cond b 1 0)
    (ne_eqb e.1.link link (All-head (λ (e : ℕ × Stream). e.1.link ≢ link) e es all)) in
    omega (
      arith,
      off,
      sum_by-cons (is_on link) e.1 (values_of es),
      none_on link es
          (All-tail (λ (e : ℕ × Stream). e.1.link ≢ link) e es all),
    )

module _ (old : Tables) (reached : IsReached (state_of old)) (rises : IsRising old.streams.streams) (id : ℕ)
    (next : id ≡ old.devices.drawn + 1) where
  below : (e : ℕ × Stream) → at e.0 old.streams.streams ≡ Some e.1 → e.1.link ≢ id
  below e there is =
      let w = within (state_of old) reached in
      let drawn : (e.1.client ≤ w.came) × (e.1.link ≤ w.plugged) = subst (IsWithinRow w.came w.plugged) there (w.all e.0) in
      omega (arith, drawn.1, next, w.drawn, is)

  none_of_next : streams_on id old.streams.streams ≡ 0
  none_of_next = none_on id old.streams.streams
      (All-weaker (λ (e : ℕ × Stream). at e.0 old.streams.streams ≡ Some e.1) (λ (e : ℕ × Stream). e.1.link ≢ id) below old.streams.streams
      (at_each old.streams.streams rises))

  no_link : at id old.links.entries ≡ None
  no_link = of_row (at id old.links.entries) ((is_orderly (state_of old) reached).links.above id (omega (arith, next)))
    where
      of_row : (row : Option Port) → option_map link_row row ≡ None → row ≡ None
      of_row None none = refl
      of_row (Some port) none = let clash : Some (link_row port) ≡ None = none in cc

  -- a link that was put there and taken out again was never there
  pub taken_out : (put new : List (ℕ × Port)) → Puts id (Some greeted) old.links.entries put → Puts id None put new → (k : ℕ)
      → at k new ≡ at k old.links.entries
  taken_out put new first second k = by_place (cases_eq k id)
    where
      by_place : (k ≡ id) ⊎ (k ≢ id) → at k new ≡ at k old.links.entries
      by_place (inl here) =
          ap (λ (q : ℕ). at q new) here
          ∙ (second.here ∙ (sym no_link ∙ ap (λ (q : ℕ). at q old.links.entries) (sym here)))
      by_place (inr other) = second.others k other ∙ first.others k other

  -- ---- the tables with it
  module _ (fit : IsFit old) (kind : Kind) (serial : List ℕ) (mid : Tables) where
    -- Its link and its row are put under the next id.
    pub record Plugs : Type 0 where
      pub link : Puts id (Some greeted) old.links.entries mid.links.entries
      pub others : mid ≡ record old { links = mid.links; devices = attached kind serial old.devices }

    module _ (h : Plugs) where
      pub plugged_fit : IsFit mid
      plugged_fit = subst IsFit (sym h.others) (record {
        provided = record {
          links = holds_put (λ k row. LinkRoom 0 row) id (Some greeted) old.links.entries mid.links.entries
              (h.link, omega arith) fit.provided.links;
          clients = fit.provided.clients;
          counted = holds_put (λ k row. IsCountedAt k old.streams.streams row) id (Some greeted) old.links.entries mid.links.entries
              (h.link, omega (arith, none_of_next)) fit.provided.counted;
          tracked = fit.provided.tracked;
        };
        read_out = holds_put (λ k row. IsReadOutAt row) id (Some greeted) old.links.entries mid.links.entries
            (h.link, record { given = refl; sound = refl; sums = refl }) fit.read_out;
      })

      abbrev owed : Link → Option Link
      owed = with_link_due (spelling server_cnxn (check_on false server_cnxn))

      rows : (k : ℕ) → put_row id (Some (link_row greeted)) (state_of old).links k
          ≡ change_row id (option_and_then owed) (put_row id (Some new_link) (state_of old).links) k
      rows k = by_test (eqb id k)
        where
          by_test : (b : Bool) → cond b (Some (link_row greeted)) ((state_of old).links k)
              ≡ cond b (option_and_then owed (cond b (Some new_link) ((state_of old).links k)))
              (cond b (Some new_link) ((state_of old).links k))
          by_test true = refl
          by_test false = refl

      plugged : mark_all (state_of mid) ≡ (plugs_in id kind serial (state_of old)).state
      plugged =
          ap (λ (t : Tables). mark_all (state_of t)) h.others
          ∙ (ap (λ (links : Rows (Option Link)). mark_all
          (record (state_of old) { links = links; devices = attached kind serial old.devices }))
          (shown_put link_row id greeted old.links.entries mid.links.entries h.link)
          ∙ (λ i. mark_all (record (state_of old) { links = λ k. rows k i; devices = attached kind serial old.devices })))

      pub attached_by : (new : Tables) → ((t c : ℕ) → Uses t 0 c 0 mid new) → new.links ≡ mid.links → state_of new ≡ mark_all (state_of mid)
          → Makes (Attach id kind serial) old new
      attached_by new uses links state = record {
        state = state ∙ (plugged ∙ sym ((sends_nothing (state_of old) reached).attach id kind serial));
        fit = record {
          provided = provided_by mid new uses plugged_fit.provided;
          read_out = λ k. subst (λ (table : _). IsReadOutAt (at k table.entries)) (sym links) (plugged_fit.read_out k);
        };
      }
