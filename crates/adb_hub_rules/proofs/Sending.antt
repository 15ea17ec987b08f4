-- Writes that are made one after another, and what is kept then.
use Rattle.std.proofs.Common.{ℕ, ◌+◌, ◌-◌, ◌≡◌, ◌≢◌, ◌≤◌, ◌<◌, List, [], ◌∷◌, Option, Some, None, refl, sym, ◌∙◌, ap, subst, arith, length}
use Rattle.std.proofs.Common.{take, drop}
use Rattle.std.specs.Prelude.{option_map, unwrap_or}
use Rattle.std.proofs.Math.Seq.{drop-nil, take-nil}
use Rattle.std.proofs.lemmas.List.{length-take-le, drop-drop}
use Rattle.adb_outside.specs.Tables.{Rows, at}
use Rattle.adb_stream.specs.Flow.{may_send, wrote}
use Rattle.adb_client.specs.Client.{SeenClient}
use Rattle.adb_stream.specs.declared.flow.Flow.{Flow}
use Rattle.adb_stream.specs.declared.row.Stream.{Stream}
use Rattle.adb_history.specs.Rows.{Client, State, to_client, with_held}
use Rattle.adb_history.specs.Flow.{write_len, payloads, total, goes_up, all_go_up, flow_after}
use Rattle.adb_hub_tables.specs.declared.tables.Tables.{Tables}
use Rattle.adb_hub_tables.specs.Tables.{state_of}
use Rattle.adb_hub_tables.specs.Places.{Uses}
use Rattle.adb_hub_rules.specs.Up.{held_at, CanCut, cut_off, unsent, CanCutAll, all_written, all_sent, Sends}
use Rattle.adb_hub_tables.proofs.Closings.{fused}
use Rattle.adb_hub_tables.proofs.Using.{uses_then}
use Rattle.adb_hub_rules.proofs.WritesUp.{one_let, within}

-- a write is the first of all that are made
pub written_first : (l : ℕ) (stream : Stream) (p : List ℕ) (ps : List (List ℕ)) (held : List ℕ) (s : State)
    → all_written l stream (p ∷ ps) held s
    ≡ all_written l stream ps (drop (length p) held)
    (goes_up l stream p (to_client stream.client (with_held (drop (length p) held)) s)).state
written_first l stream p ps held s =
    ap (λ (s : State). (all_go_up l stream ps (goes_up l stream p s).state).state)
    (ap (λ bytes. to_client stream.client (with_held bytes) s) rest
    ∙ ap (λ (rows : Rows (Option Client)). record s { clients = rows })
    (fused stream.client (with_held (drop (total ps) (drop (length p) held))) (with_held (drop (length p) held))
    (with_held (drop (total ps) (drop (length p) held))) s.clients (λ row. refl)))
  where
    rest : drop (length p + total ps) held ≡ drop (total ps) (drop (length p) held)
    rest = ap (λ (n : ℕ). drop n held) (omega arith) ∙ sym (drop-drop (total ps) (length p) held)

held_cut : (n : ℕ) (row : Option SeenClient) → held_at (option_map (cut_off n) row) ≡ drop n (held_at row)
held_cut n None = sym (drop-nil n)
held_cut n (Some row) = refl

cut_one : (p : List ℕ) (ps : List (List ℕ)) (row : Option SeenClient) → CanCutAll (p ∷ ps) row
    → CanCutAll ps (option_map (cut_off (length p)) row)
cut_one p ps None can = tt
cut_one p ps (Some row) (bytes, pieces) = (omega (arith, bytes), omega (arith, pieces))

-- What one write of so many bytes makes of the tables.
pub record WritesOne (l : ℕ) (stream : Stream) (n : ℕ) (old new : Tables) : Type 0 where
  pub state : state_of new ≡ (goes_up l stream (take n (held_at (at stream.client old.clients.entries)))
      (to_client stream.client (with_held (drop n (held_at (at stream.client old.clients.entries)))) (state_of old))).state
  pub client : at stream.client new.clients.entries ≡ option_map (cut_off n) (at stream.client old.clients.entries)
  pub others : (c : ℕ) → c ≢ stream.client → at c new.clients.entries ≡ at c old.clients.entries
  pub streams : new.streams ≡ old.streams
  pub uses : (c : ℕ) → Uses stream.link 1 c 0 old new

one_more : (k : ℕ) → 1 + k - k ≡ 1
one_more k = omega arith

module _ (l : ℕ) (stream : Stream) (m : ℕ) where
  module _ (flow : Flow) (n : ℕ) (old new : Tables) (h : WritesOne l stream n old new) where
    abbrev before : List ℕ
    before = held_at (at stream.client old.clients.entries)

    abbrev behind : List (List ℕ)
    behind = payloads (wrote n flow) m (drop n before)

    held_now : held_at (at stream.client new.clients.entries) ≡ drop n before
    held_now = ap held_at h.client ∙ held_cut n (at stream.client old.clients.entries)

    unsent_now : unsent stream m (wrote n flow, new) ≡ behind
    unsent_now = ap (payloads (wrote n flow) m) held_now

    pub sends_one : n ≡ write_len m (may_send flow m) before → 0 < n → Sends l stream m (flow, old) (wrote n flow, new)
    sends_one is some = record {
      state = then_all ∙ ap (λ payloads. all_written l stream payloads before (state_of old)) (sym was);
      flow = ap (λ payloads. flow_after payloads (wrote n flow)) unsent_now
          ∙ (ap (λ (k : ℕ). flow_after behind (wrote k flow)) (sym size) ∙ ap (λ payloads. flow_after payloads flow) (sym was));
      fewer = omega (arith, one_was, ones_now);
      uses = λ c. subst (λ (k : ℕ). Uses stream.link k c 0 old new) (sym one_less) (h.uses c);
      cut = λ can. subst (CanCutAll (unsent stream m (wrote n flow, new))) (sym h.client)
          (subst (λ payloads. CanCutAll payloads (option_map (cut_off n) (at stream.client old.clients.entries))) (sym unsent_now)
          (subst (λ (k : ℕ). CanCutAll behind (option_map (cut_off k) (at stream.client old.clients.entries))) size
          (cut_one (take n before) behind (at stream.client old.clients.entries)
          (subst (λ payloads. CanCutAll payloads (at stream.client old.clients.entries)) was can))));
      streams = h.streams;
      others = h.others;
    }
      where
        was : unsent stream m (flow, old) ≡ take n before ∷ behind
        was = one_let flow m before n is some

        size : length (take n before) ≡ n
        size = length-take-le n before (omega (arith, is, within m (may_send flow m) before))

        one_was : length (unsent stream m (flow, old)) ≡ 1 + length behind
        one_was = ap length was ∙ omega arith

        ones_now : length (unsent stream m (wrote n flow, new)) ≡ length behind
        ones_now = ap length unsent_now

        one_less : length (unsent stream m (flow, old)) - length (unsent stream m (wrote n flow, new)) ≡ 1
        one_less = omega (arith, one_was, ones_now)

        then_all : all_sent l stream m (wrote n flow, new) ≡ all_written l stream (take n before ∷ behind) before (state_of old)
        then_all =
            ap (λ payloads. all_written l stream payloads (held_at (at stream.client new.clients.entries)) (state_of new)) unsent_now
            ∙ (ap (λ bytes. all_written l stream behind bytes (state_of new)) held_now
            ∙ (ap (all_written l stream behind (drop n before)) h.state
            ∙ (ap (λ (k : ℕ). all_written l stream behind (drop k before)
            (goes_up l stream (take n before) (to_client stream.client (with_held (drop k before)) (state_of old))).state) (sym size)
            ∙ sym (written_first l stream (take n before) behind before (state_of old)))))

  -- some writes, and then others
  pub sends_then : {a b c : Flow × Tables} → Sends l stream m a b → Sends l stream m b c → Sends l stream m a c
  sends_then {a} {b} {c} h k = record {
    state = k.state ∙ h.state;
    flow = k.flow ∙ h.flow;
    fewer = omega (arith, h.fewer, k.fewer);
    uses = λ q. subst (λ (n : ℕ). Uses stream.link n q 0 a.1 c.1)
        (together (length (unsent stream m a)) (length (unsent stream m b)) (length (unsent stream m c))
        (h.fewer, k.fewer)) (uses_then (h.uses q) (k.uses q));
    cut = λ can. k.cut (h.cut can);
    streams = k.streams ∙ h.streams;
    others = λ q other. k.others q other ∙ h.others q other;
  }
    where
      together : (x y z : ℕ) → y ≤ x × z ≤ y → x - y + (y - z) ≡ x - z
      together x y z (first, second) = omega (arith, first, second)

module _ (flow : Flow) (m n : ℕ) where
  -- what the next write needs is there
  pub can_one : (row : Option SeenClient) → n ≡ write_len m (may_send flow m) (held_at row) → 0 < n
      → CanCutAll (payloads flow m (held_at row)) row → CanCut n row
  can_one None is some can = omega (arith, is, some)
  can_one (Some row) is some can = at_row (subst (λ payloads. CanCutAll payloads (Some row)) (one_let flow m row.held n is some) can)
    where
      size : length (take n row.held) ≡ n
      size = length-take-le n row.held (omega (arith, is, within m (may_send flow m) row.held))

      at_row : CanCutAll (take n row.held ∷ payloads (wrote n flow) m (drop n row.held)) (Some row) → (n ≤ row.ready) × (0 < row.cuts)
      at_row (bytes, pieces) = (omega (arith, bytes, size), omega (arith, pieces))

  pub some_unsent : (held : List ℕ) → n ≡ write_len m (may_send flow m) held → 0 < n → 1 ≤ length (payloads flow m held)
  some_unsent held is some =
      let all : length (payloads flow m held) ≡ 1 + length (payloads (wrote n flow) m (drop n held)) =
      ap length (one_let flow m held n is some) ∙ omega arith in
      omega (arith, all)

-- the bytes that were cut off are the first that were held
pub piece_is : (n : ℕ) (row : Option SeenClient) (piece : List ℕ) → Some piece ≡ option_map (λ (row : SeenClient). take n row.held) row
    → piece ≡ take n (held_at row)
piece_is n None piece is = ap (λ (bytes : Option (List ℕ)). unwrap_or bytes []) is ∙ sym (take-nil n)
piece_is n (Some row) piece is = ap (λ (bytes : Option (List ℕ)). unwrap_or bytes []) is
