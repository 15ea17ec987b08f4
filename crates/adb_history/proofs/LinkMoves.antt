-- In every state that a legal history leaves, the link of a stream is connected, and a link lives where its device has a row.
use Rattle.std.proofs.Common.{◌≡◌, ◌≢◌, ℕ, ◌+◌, ◌<◌, ◌≤◌, zero, suc, Bool, true, false, cond, List, [], ◌∷◌, ◌++◌, length, min, Option}
use Rattle.std.proofs.Common.{Some, None}
use Rattle.std.proofs.Common.{refl, sym, ap, subst, ◌∙◌, arith, ◌⊎◌, inl, inr, eqb}
use Rattle.std.specs.Prelude.{is_some, option_and_then, nat_eq}
use Rattle.std.proofs.lemmas.Bool.{eqb-false, cases_eq}
use Rattle.adb_outside.specs.Tables.{Rows, at, change_row, put_row}
use Rattle.adb_outside.specs.declared.kinds.Kind.{Kind}
use Rattle.adb_outside.specs.declared.identity.Identity.{Identity}
use Rattle.adb_outside.specs.declared.identity.State.TheVariants.{Offline}
use Rattle.adb_registry.specs.Row.{online_row, unauthorized_row}
use Rattle.adb_registry.specs.Registry.{DeviceTable, attached, changed}
use Rattle.adb_registry.specs.declared.row.Row.{Row}
use Rattle.adb_forward.specs.declared.row.ForwardRow.{ForwardRow}
use Rattle.adb_wire.specs.Format.{has_sums}
use Rattle.adb_wire.specs.Packet.{spelling}
use Rattle.adb_wire.specs.declared.limits.TheConstants.{VERSION}
use Rattle.adb_wire.specs.declared.headers.TheConstants.{MAX_PAYLOAD}
use Rattle.adb_stream.specs.Stream.{new_stream}
use Rattle.adb_stream.specs.Flow.{new_flow, first_credit, accepted, has_credit}
use Rattle.adb_stream.specs.declared.flow.Flow.{Flow}
use Rattle.adb_stream.specs.declared.flow.Flow.TheVariants.{One, Credit}
use Rattle.adb_stream.specs.declared.row.Part.{Part}
use Rattle.adb_stream.specs.declared.row.Stream.{Stream}
use Rattle.adb_capture.specs.declared.entry.Entry.{Entry}
use Rattle.adb_capture.specs.declared.entry.Entry.TheVariants.{Join, Enter, Read, Attach}
use Rattle.adb_history.specs.Rows.{Link, State, new_link, to_stream, none_kept, with_stream_part}
use Rattle.adb_history.specs.Events.{Event, quietly}
use Rattle.adb_history.specs.declared.ending.Ending.{Ending}
use Rattle.adb_history.specs.declared.ending.Ending.TheVariants.{Lost}
use Rattle.adb_history.specs.Links.{is_connected, is_connected_row, is_connected_state, is_credit}
use Rattle.adb_history.specs.Streams.{ends_row, ends_if_of, ends_of, all_end}
use Rattle.adb_history.specs.Flow.{with_flow}
use Rattle.adb_history.specs.Losing.{forgets, link_ends, orphaned}
use Rattle.adb_history.specs.Packets.{with_remote, with_sums, streams_end_first, unauthorized_from}
use Rattle.adb_history.specs.Machine.{History, state, May, IsLegal}
use Rattle.adb_history.specs.Moves.{Moves, IsReady, connects_now, draws_now}
use Rattle.adb_history.specs.Owned.{AllDrawn}
use Rattle.adb_history.specs.Linked.{DeviceRows, OnLink, AllOn, IsLinked}
use Rattle.adb_history.proofs.RuleMoves.{Begins, step_kept}
use Rattle.adb_history.proofs.Numbers.{drawn_plain}
use Rattle.adb_history.proofs.OwnedStep.{owned_moves, begins_owned, start_owned, ends_state, client_loses_frame}
use Rattle.adb_history.proofs.Linking.{on_change, on_gone, on_same, on_other, credit_new, ready_connected, link_rows, forward_rows}
use Rattle.adb_history.proofs.Linking.{changed_other_at}
use Rattle.adb_history.proofs.Linking.{Silent, changed_rows, online_silent, unauthorized_silent, detached_on, detached_rows, attached_rows}
use Rattle.adb_history.proofs.Linking.{attached_on, no_rows}

-- ---- the streams of a link end
-- what is left of a state, of which so many streams were looked at
pub record IsLeft (t k : ℕ) (before after : State) : Type 0 where
  pub devices : after.devices ≡ before.devices
  pub links : after.links ≡ before.links
  pub forwards : after.forwards ≡ before.forwards
  pub same : (m : ℕ) (x : Stream) → after.streams m ≡ Some x → before.streams m ≡ Some x
  pub done : (m : ℕ) (x : Stream) → 0 < m → m ≤ k → after.streams m ≡ Some x → x.link ≢ t

-- one stream more was looked at, and is none of the link
looked_on : (t k : ℕ) (s now : State) → IsLeft t k s now → ((x : Stream) → now.streams (suc k) ≡ Some x → x.link ≢ t)
    → IsLeft t (suc k) s now
looked_on t k s now h other = record {
  devices = h.devices;
  links = h.links;
  forwards = h.forwards;
  same = h.same;
  done = λ m x some within e. done m x some within e (cases_eq m (suc k));
}
  where
    done : (m : ℕ) (x : Stream) → 0 < m → m ≤ suc k → now.streams m ≡ Some x → (m ≡ suc k) ⊎ (m ≡ suc k → ⊥) → x.link ≢ t
    done m x some within e (inl same) = other x (ap now.streams (sym same) ∙ e)
    done m x some within e (inr apart) = h.done m x some (omega (arith, within, apart)) e

ends_left : (t : ℕ) (ending : Ending) (s : State) (k : ℕ) → IsLeft t k s (ends_of t k ending s).state
ends_left t ending s zero = record {
  devices = refl;
  links = refl;
  forwards = refl;
  same = λ m x is. is;
  done = λ m x some within is. absurd (omega (arith, some, within));
}
ends_left t ending s (suc k) = go (ends_of t k ending s).state (ends_left t ending s k) ((ends_of t k ending s).state.streams (suc k)) refl
  where
    go : (now : State) → IsLeft t k s now → (o : Option Stream) → now.streams (suc k) ≡ o
        → IsLeft t (suc k) s (ends_if_of t (suc k) ending o now).state
    go now h None is = looked_on t k s now h (λ x e. absurd (let clash : None ≡ Some x = sym is ∙ e in cc))
    go now h (Some stream) is = test (nat_eq stream.link t) refl
      where
        gone : State
        gone = to_stream (suc k) none_kept now

        was : (m : ℕ) (x : Stream) → (to_stream (suc k) none_kept now).streams m ≡ Some x → (suc k ≢ m) × (now.streams m ≡ Some x)
        was m x e = one (eqb (suc k) m) refl (now.streams m) refl e
          where
            nothing : (o : Option Stream) → option_and_then none_kept o ≡ Some x → ⊥
            nothing None f = let clash : None ≡ Some x = f in cc
            nothing (Some y) f = let clash : None ≡ Some x = f in cc

            one : (b : Bool) → eqb (suc k) m ≡ b → (o : Option Stream) → now.streams m ≡ o → cond b (option_and_then none_kept o) o ≡ Some x
                → (suc k ≢ m) × (now.streams m ≡ Some x)
            one true f o g e = absurd (nothing o e)
            one false f o g e = (eqb-false (suc k) m f, g ∙ e)

        ended : IsLeft t (suc k) s (ends_row (suc k) ending stream now).state
        ended = subst (IsLeft t (suc k) s)
            (sym (ends_state (suc k) ending stream now ∙ client_loses_frame (now.clients stream.client) stream.client
            gone))
            (record {
              devices = h.devices;
              links = h.links;
              forwards = h.forwards;
              same = λ m x e. h.same m x (was m x e).1;
              done = λ m x some within e. (let w = was m x e in h.done m x some (omega (arith, within, w.0)) w.1);
            })

        stays : stream.link ≢ t → IsLeft t (suc k) s now
        stays other = looked_on t k s now h (λ x e.
            let row : stream ≡ x = (let both : Some stream ≡ Some x = sym is ∙ e in cc) in
            λ f. other (ap (λ (y : Stream). y.link) row ∙ f))

        test : (b : Bool) → nat_eq stream.link t ≡ b → IsLeft t (suc k) s (cond b (ends_row (suc k) ending stream now) (quietly now)).state
        test true e = ended
        test false e = stays (eqb-false stream.link t e)

-- what is left of a state when no stream of a link is
pub record IsCleared (t : ℕ) (before after : State) : Type 0 where
  pub devices : after.devices ≡ before.devices
  pub links : after.links ≡ before.links
  pub forwards : after.forwards ≡ before.forwards
  pub same : (m : ℕ) (x : Stream) → after.streams m ≡ Some x → before.streams m ≡ Some x
  pub clear : (m : ℕ) (x : Stream) → after.streams m ≡ Some x → x.link ≢ t

order : (a b : ℕ) → (a ≤ b) ⊎ (b < a)
order a b = grind arith

pub all_cleared : (t : ℕ) (ending : Ending) (s : State) → AllDrawn s → IsCleared t s (all_end t ending s).state
all_cleared t ending s rows =
    let h = ends_left t ending s s.drawn in
    record {
      devices = h.devices;
      links = h.links;
      forwards = h.forwards;
      same = h.same;
      clear = λ m x e. h.done m x (some m x (h.same m x e)) (within m x (h.same m x e)) e;
    }
  where
    some : (m : ℕ) (x : Stream) → s.streams m ≡ Some x → 0 < m
    some zero x e = absurd (let clash : None ≡ Some x = sym rows.streams.zero ∙ e in cc)
    some (suc m) x e = omega arith

    within : (m : ℕ) (x : Stream) → s.streams m ≡ Some x → m ≤ s.drawn
    within m x e = go (order m s.drawn)
      where
        go : (m ≤ s.drawn) ⊎ (s.drawn < m) → m ≤ s.drawn
        go (inl in_) = in_
        go (inr above) = absurd (let clash : None ≡ Some x = sym (rows.streams.above m above) ∙ e in cc)

-- a link that is not connected has no stream
none_on : (t : ℕ) (devices : DeviceTable) (x : Stream) → is_connected t devices ≡ false → OnLink devices x → x.link ≢ t
none_on t devices x off h same = let clash : true ≡ false = sym h.connected ∙ (ap (λ n. is_connected n devices) same ∙ off) in cc

module _ (s : State) (h : IsLinked s) where
  -- ---- a link ends
  link_ends_linked : (t : ℕ) (ending : Ending) → IsLinked (link_ends t ending s).state
  link_ends_linked t ending = record {
    owned = owned_moves.link_ends t ending s [] h.owned;
    rows = subst (λ (l : Rows (Option Link)). DeviceRows now.devices l now.forwards) (sym left.links)
        (subst (λ (f : List (ℕ × ForwardRow)). DeviceRows now.devices forgot.links f) (sym left.forwards)
        (subst (λ (d : DeviceTable). DeviceRows d forgot.links forgot.forwards) (sym left.devices)
        (detached_rows s.devices s.links s.forwards t h.rows)));
    on = subst (λ (d : DeviceTable). AllOn d now.streams) (sym left.devices)
        (λ m x e. detached_on t s.devices x h.rows.rises (left.clear m x e) (h.on m x (left.same m x e)));
  }
    where
      forgot : State
      forgot = forgets t s

      now : State
      now = (all_end t ending (forgets t s)).state

      left : IsCleared t (forgets t s) (all_end t ending (forgets t s)).state
      left = all_cleared t ending (forgets t s) (record {
        clients = h.owned.rows.clients;
        links = (drawn_plain.link t none_kept s [] h.owned.rows).links;
        streams = h.owned.rows.streams;
      })

  -- ---- a device says who it is
  pub first_cleared : (b : Bool) (t : ℕ) → is_connected t s.devices ≡ b → IsCleared t s (streams_end_first b t s).state
  first_cleared true t is = all_cleared t Lost s h.owned.rows
  first_cleared false t is =
      record { devices = refl; links = refl; forwards = refl; same = λ m x e. e; clear = λ m x e. none_on t s.devices x is (h.on m x e) }

  online_linked : (t version maxdata : ℕ) (identity : Identity) → IsLinked (connects_now t version maxdata identity s).state
  online_linked t version maxdata identity = record {
    owned = owned_moves.online t version maxdata identity s [] h.owned;
    rows = subst (λ (d : DeviceTable). DeviceRows (changed t row d)
        (change_row t (option_and_then (with_sums (has_sums version))) now.links) now.forwards)
        (sym left.devices)
        (subst (λ (l : Rows (Option Link)). DeviceRows (changed t row s.devices)
        (change_row t (option_and_then (with_sums (has_sums version))) l) now.forwards)
        (sym left.links)
        (subst (λ (f : List (ℕ × ForwardRow)). DeviceRows (changed t row s.devices)
        (change_row t (option_and_then (with_sums (has_sums version))) s.links) f)
        (sym left.forwards) rows));
    on = subst (λ (d : DeviceTable). AllOn (changed t row d) now.streams) (sym left.devices)
        (λ m x e. on_other s.devices (changed t row s.devices) x (changed_other_at t row s.devices h.rows.rises x.link (left.clear m x e))
        (h.on m x (left.same m x e)));
  }
    where
      row : Row → Row
      row = online_row identity (min version VERSION) (min maxdata MAX_PAYLOAD)

      now : State
      now = (streams_end_first (is_connected t s.devices) t s).state

      left : IsCleared t s (streams_end_first (is_connected t s.devices) t s).state
      left = first_cleared (is_connected t s.devices) t refl

      rows : DeviceRows (changed t (online_row identity (min version VERSION) (min maxdata MAX_PAYLOAD)) s.devices)
          (change_row t (option_and_then (with_sums (has_sums version))) s.links) s.forwards
      rows = link_rows (changed t (online_row identity (min version VERSION) (min maxdata MAX_PAYLOAD)) s.devices) s.links s.forwards t
          (λ link. record link { sums = has_sums version })
          (changed_rows s.devices s.links s.forwards t (online_row identity (min version VERSION) (min maxdata MAX_PAYLOAD))
          (λ r is. online_silent identity (min version VERSION) (min maxdata MAX_PAYLOAD) r) h.rows)

  unauthorized_linked : (t : ℕ) (row : Row) (w : List Event) → at t s.devices.rows ≡ Some row → row.state ≡ Offline
      → IsLinked (unauthorized_from t Offline s)
  unauthorized_linked t row w is offline = record {
    owned = owned_moves.unauthorized t row s w is offline h.owned;
    rows = changed_rows s.devices s.links s.forwards t unauthorized_row silent h.rows;
    on = λ m x e. on_other s.devices (changed t unauthorized_row s.devices) x
        (changed_other_at t unauthorized_row s.devices h.rows.rises x.link
        (none_on t s.devices x (ap is_connected_row is ∙ ap is_connected_state offline) (h.on m x e))) (h.on m x e);
  }
    where
      silent : (r : Row) → at t s.devices.rows ≡ Some r → Silent (unauthorized_row r)
      silent r e =
          let same : row ≡ r = (let both : Some row ≡ Some r = sym is ∙ e in cc) in
          unauthorized_silent r (ap (λ (x : Row). x.state) (sym same) ∙ offline) (h.rows.silent t r e)

-- ---- streams change
module _ (s : State) (part : Part) where
  part_on : (x y : Stream) → with_stream_part part x ≡ Some y → has_credit part.flow ≡ has_credit x.part.flow
      → OnLink s.devices x → OnLink s.devices y
  part_on x y e credit h =
      let z : Stream = record x { part = part } in
      let row : z ≡ y = cc in
      subst (OnLink s.devices) row (on_same s.devices x z (refl, credit) h)

  stream_on : (l : ℕ) (stream : Stream) → s.streams l ≡ Some stream → has_credit part.flow ≡ has_credit stream.part.flow
      → AllOn s.devices s.streams → AllOn s.devices (to_stream l (with_stream_part part) s).streams
  stream_on l stream is credit on =
      on_change s.devices l (with_stream_part part) s.streams (λ x y there e h. part_on x y e (same x there) h) on
    where
      same : (x : Stream) → s.streams l ≡ Some x → has_credit part.flow ≡ has_credit x.part.flow
      same x there =
          let row : stream ≡ x = (let both : Some stream ≡ Some x = sym is ∙ there in cc) in
          credit ∙ ap (λ (y : Stream). has_credit y.part.flow) row

gone_on : (s : State) (l : ℕ) → AllOn s.devices s.streams → AllOn s.devices (to_stream l none_kept s).streams
gone_on s l on = on_change s.devices l none_kept s.streams (λ x y there e h. on_gone s.devices x y e h) on

pub credit_first : (word : Option ℕ) (flow : Flow) → has_credit (first_credit word flow) ≡ has_credit flow
credit_first word (One window) = refl
credit_first word (Credit credit) = refl

pub credit_accepted : (n : ℕ) (flow : Flow) → has_credit (accepted n flow) ≡ has_credit flow
credit_accepted n (One window) = refl
credit_accepted n (Credit credit) = refl

module _ (s : State) (h : IsLinked s) where
  draws_on : (c t : ℕ) → IsReady t s.devices → AllOn s.devices (draws_now c t s).streams
  draws_on c t ready m y is = go (eqb (s.drawn + 1) m) is
    where
      drawn : OnLink s.devices (new_stream (s.drawn + 1) c t (new_flow (is_credit t s.devices)))
      drawn = record {
        connected = ready_connected t s.devices s.links s.forwards h.rows ready;
        credit =
            credit_new (is_credit t s.devices);
      }

      go : (b : Bool) → cond b (Some (new_stream (s.drawn + 1) c t (new_flow (is_credit t s.devices)))) (s.streams m)
          ≡ Some y → OnLink s.devices y
      go true e = let row : new_stream (s.drawn + 1) c t (new_flow (is_credit t s.devices)) ≡ y = cc in subst (OnLink s.devices) row drawn
      go false e = h.on m y e

  ends_linked : (l : ℕ) (ending : Ending) (stream : Stream) (w : List Event) → s.streams l ≡ Some stream
      → IsLinked (ends_row l ending stream s).state
  ends_linked l ending stream w is =
      let gone : State = to_stream l none_kept s in
      let frame = sym (ends_state l ending stream s ∙ client_loses_frame (s.clients stream.client) stream.client gone) in
      record {
        owned = owned_moves.ends l ending stream s w is h.owned;
        rows = subst (λ (x : State). DeviceRows x.devices x.links x.forwards) frame h.rows;
        on = subst (λ (x : State). AllOn x.devices x.streams) frame (gone_on s l h.on);
      }

-- The link of a stream is connected, through each move.
pub linked_moves : Moves (λ s w. IsLinked s)
linked_moves = record {
  owes = λ t p check s w of h. record {
    owned = owned_moves.owes t p check s w of h.owned;
    rows = link_rows s.devices s.links s.forwards t (λ link. record link { due = link.due ++ spelling p check }) h.rows;
    on = h.on;
  };
  due = λ c bytes s w h. record { owned = owned_moves.due c bytes s w h.owned; rows = h.rows; on = h.on };
  closes = λ c x s w is free h. record { owned = owned_moves.closes c x s w is free h.owned; rows = h.rows; on = h.on };
  tracks = λ c x long s w is asking h. record { owned = owned_moves.tracks c x long s w is asking h.owned; rows = h.rows; on = h.on };
  awaits = λ c x want s w is asking h. record { owned = owned_moves.awaits c x want s w is asking h.owned; rows = h.rows; on = h.on };
  drops = λ c x s w is none h. record { owned = owned_moves.drops c x s w is none h.owned; rows = h.rows; on = h.on };
  holds = λ c x bytes s w is has h. record { owned = owned_moves.holds c x bytes s w is has h.owned; rows = h.rows; on = h.on };
  unmarks = λ c s w h. record { owned = owned_moves.unmarks c s w h.owned; rows = h.rows; on = h.on };
  input_ended = λ c s w h. record { owned = owned_moves.input_ended c s w h.owned; rows = h.rows; on = h.on };
  hands = λ c n x s w is fits h. record { owned = owned_moves.hands c n x s w is fits h.owned; rows = h.rows; on = h.on };
  draws = λ c t x s w is asking ready h.
      record {
        owned = owned_moves.draws c t x s w is asking ready h.owned;
        rows = h.rows;
        on =
            draws_on s h c t ready;
      };
  flows = λ l stream flow s w is like h. record {
    owned = owned_moves.flows l stream flow s w is like h.owned;
    rows = h.rows;
    on = stream_on s (with_flow flow stream.part) l stream is like.credit h.on;
  };
  accepts = λ l payload stream s w is known turn h. record {
    owned = owned_moves.accepts l payload stream s w is known turn h.owned;
    rows = h.rows;
    on = stream_on s (with_flow (accepted (length payload) stream.part.flow) stream.part) l stream is
        (credit_accepted (length payload) stream.part.flow) h.on;
  };
  opens = λ l remote word stream s w is new h. record {
    owned = owned_moves.opens l remote word stream s w is new h.owned;
    rows = h.rows;
    on = stream_on s (with_remote remote (with_flow (first_credit word stream.part.flow) stream.part)) l stream is
        (credit_first word stream.part.flow) h.on;
  };
  orphan_goes =
      λ l stream s w is orphan h.
      record { owned = owned_moves.orphan_goes l stream s w is orphan h.owned; rows = h.rows; on = gone_on s l h.on };
  ends = λ l ending stream s w is h. ends_linked s h l ending stream w is;
  fails_open = λ c l f s w at h. record { owned = owned_moves.fails_open c l f s w at h.owned; rows = h.rows; on = gone_on s l h.on };
  fails_asked = λ c l f s w at h. record {
    owned = owned_moves.fails_asked c l f s w at h.owned;
    rows = h.rows;
    on = stream_on s (orphaned f.stream.part) l f.stream at.2 refl h.on;
  };
  links = λ t f s w h.
      record {
        owned = owned_moves.links t f s w h.owned;
        rows =
            link_rows s.devices s.links s.forwards t f h.rows;
        on = h.on;
      };
  link_ends = λ t ending s w h. link_ends_linked s h t ending;
  online = λ t version maxdata identity s w h. online_linked s h t version maxdata identity;
  unauthorized = λ t row s w is offline h. unauthorized_linked s h t row w is offline;
  forwards = λ forwards s w led h. record {
    owned = owned_moves.forwards forwards s w led h.owned;
    rows = forward_rows s.devices s.links s.forwards forwards led h.rows;
    on = h.on;
  };
  stops = λ c x s w is asking h. record {
    owned = owned_moves.stops c x s w is asking h.owned;
    rows = no_rows s.devices.drawn;
    on = λ l y e. absurd (let clash : None ≡ Some y = e in cc);
  };
}

module _ (s : State) (h : IsLinked s) where
  -- ---- who comes
  plugged_linked : (t : ℕ) (kind : Kind) (serial : List ℕ) → t ≡ s.devices.drawn + 1
      → DeviceRows (attached kind serial s.devices) (put_row t (Some new_link) s.links) s.forwards
      × AllOn (attached kind serial s.devices) s.streams
  plugged_linked t kind serial next = (
    subst (λ (n : ℕ). DeviceRows (attached kind serial s.devices) (put_row n (Some new_link) s.links) s.forwards) (sym next)
        (attached_rows s.devices s.links s.forwards kind serial new_link h.rows),
    λ l x is. attached_on s.devices kind serial x none (h.on l x is),
  )
    where
      gone : (o : Option Row) → is_some o ≡ false → o ≡ None
      gone None e = refl
      gone (Some row) e = absurd (let clash : true ≡ false = e in cc)

      none : at (s.devices.drawn + 1) s.devices.rows ≡ None
      none = gone (at (s.devices.drawn + 1) s.devices.rows)
          (sym (h.rows.linked (s.devices.drawn + 1)) ∙ ap is_some (h.owned.rows.links.above (s.devices.drawn + 1) (omega arith)))

  begins_linked : (e : Entry) (w : List Event) → May s e → Begins linked_moves e s w
  begins_linked (Join c) w may = record { owned = begins_owned s h.owned (Join c) w may; rows = h.rows; on = h.on }
  begins_linked (Enter c port) w may =
      let b = begins_owned s h.owned (Enter c port) w may in
      (record { owned = b.0; rows = h.rows; on = h.on }, record { owned = b.1; rows = h.rows; on = h.on })
  begins_linked (Attach t kind serial) w may =
      let plugged = plugged_linked t kind serial may.1 in
      record { owned = begins_owned s h.owned (Attach t kind serial) w may; rows = plugged.0; on = plugged.1 }
  begins_linked (Read c bytes) w may =
      (h, λ client is asking. record { owned = (begins_owned s h.owned (Read c bytes) w may).1 client is asking; rows = h.rows; on = h.on })
  begins_linked _ w may = h

-- In every state that a legal history leaves, links, devices, forwards and streams fit together.
pub all_linked : (h : History) → IsLegal h → IsLinked (state h)
all_linked [] legal = record { owned = start_owned; rows = no_rows 0; on = λ l y e. absurd (none y e) }
  where
    none : (y : Stream) → None ≡ Some y → ⊥
    none y e = cc
all_linked (e ∷ older) legal =
    step_kept linked_moves e (state older) [] (begins_linked (state older) (all_linked older legal.0) e [] legal.2)
