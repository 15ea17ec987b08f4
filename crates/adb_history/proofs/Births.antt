-- No packet is due of a stream that was not born.
use Rattle.std.proofs.Common.{◌≡◌, ◌≢◌, ℕ, ◌+◌, ◌<◌, ◌≤◌, true, false, All, List, [], ◌∷◌, ◌++◌, Option, sym, ap, ◌∙◌, arith, ◌⊎◌, inl, inr}
use Rattle.std.specs.Prelude.{is_some}
use Rattle.std.proofs.lemmas.List.Elements.{All-nil, All-cons, All-weaker, All-append}
use Rattle.adb_wire.specs.declared.command.Command.TheVariants.{Cnxn}
use Rattle.adb_wire.specs.declared.packets.Packet.{Packet}
use Rattle.adb_stream.specs.declared.row.Stream.{Stream}
use Rattle.adb_capture.specs.declared.entry.Entry.{Entry}
use Rattle.adb_capture.specs.declared.entry.Entry.TheVariants.{Join, Enter, Read, Attach}
use Rattle.adb_history.specs.Rows.{State}
use Rattle.adb_history.specs.Events.{Event, due_to_client, due_to_link, ended}
use Rattle.adb_history.specs.Moves.{IsOfStream}
use Rattle.adb_history.specs.Machine.{History, state, told, May, IsLegal}
use Rattle.adb_history.specs.Owned.{AllDrawn}
use Rattle.adb_history.specs.Order.{IsOfBorn, AreOfBorn}
use Rattle.adb_history.specs.Orderly.{IsDrawnOnly}
use Rattle.adb_history.proofs.PlainMoves.{Plain, plain_moves}
use Rattle.adb_history.proofs.RuleMoves.{Begins, step_kept}
use Rattle.adb_history.proofs.Numbers.{drawn_plain, all_drawn, begins_drawn}

-- every packet that was told is of a stream that was born
pub record Born (s : State) (w : List Event) : Type 0 where
  pub rows : AllDrawn s
  pub told : All (IsOfBorn s.drawn) w

order : (a b : ℕ) → (a ≤ b) ⊎ (b < a)
order a b = grind arith

-- a stream that lives was born
lives_born : (drawn l : ℕ) (streams : ℕ → Option Stream) → IsDrawnOnly drawn streams → is_some (streams l) ≡ true → l ≤ drawn
lives_born drawn l streams h is = go (order l drawn)
  where
    go : (l ≤ drawn) ⊎ (drawn < l) → l ≤ drawn
    go (inl within) = within
    go (inr above) = absurd (let clash : false ≡ true = sym (ap is_some (h.above l above)) ∙ is in cc)

of_born : (s : State) (p : Packet) → AllDrawn s → IsOfStream s.streams p → p.command ≢ Cnxn → p.arg0 ≤ s.drawn
of_born s p h (inl none) not_cnxn = omega (arith, none)
of_born s p h (inr (inl lives)) not_cnxn = lives_born s.drawn p.arg0 s.streams h.streams lives
of_born s p h (inr (inr cnxn)) not_cnxn = absurd (not_cnxn cnxn)

more_born : (drawn : ℕ) (e : Event) → IsOfBorn drawn e → IsOfBorn (drawn + 1) e
more_born drawn (due_to_client client bytes) h = tt
more_born drawn (due_to_link link packet check) h = λ not_cnxn. omega (arith, h not_cnxn)
more_born drawn (ended stream ending) h = tt

one_more : (drawn : ℕ) (w : List Event) (e : Event) → All (IsOfBorn drawn) w → IsOfBorn drawn e → All (IsOfBorn drawn) (w ++ e ∷ [])
one_more drawn w e all here = All-append (IsOfBorn drawn) w (e ∷ []) all (All-cons (IsOfBorn drawn) e [] here (All-nil (IsOfBorn drawn)))

born_plain : Plain Born
born_plain = record {
  tells_link = λ t p check s w of h.
      record { rows = h.rows; told = one_more s.drawn w (due_to_link t p check) h.told (of_born s p h.rows of) };
  tells_client = λ c bytes s w h. record { rows = h.rows; told = one_more s.drawn w (due_to_client c bytes) h.told tt };
  tells_end = λ l ending s w h. record { rows = h.rows; told = one_more s.drawn w (ended l ending) h.told tt };
  client = λ c f s w h. record { rows = drawn_plain.client c f s w h.rows; told = h.told };
  link = λ t f s w h. record { rows = drawn_plain.link t f s w h.rows; told = h.told };
  stream = λ l f s w h. record { rows = drawn_plain.stream l f s w h.rows; told = h.told };
  draws = λ credit c t s w h. record {
    rows = drawn_plain.draws credit c t s w h.rows;
    told = All-weaker (IsOfBorn s.drawn) (IsOfBorn (s.drawn + 1)) (more_born s.drawn) w h.told;
  };
  marks = λ s w h. record { rows = drawn_plain.marks s w h.rows; told = h.told };
  devices = λ rows s w h. record { rows = drawn_plain.devices rows s w h.rows; told = h.told };
  forwards = λ forwards s w h. record { rows = drawn_plain.forwards forwards s w h.rows; told = h.told };
  kills = λ c s w h. record { rows = drawn_plain.kills c s w h.rows; told = h.told };
}

begins_born : (e : Entry) (s : State) (w : List Event) → May s e → Born s w → Begins (plain_moves born_plain) e s w
begins_born (Join c) s w may h = record { rows = begins_drawn (Join c) s may h.rows; told = h.told }
begins_born (Enter c port) s w may h =
    let rows = begins_drawn (Enter c port) s may h.rows
    in (record { rows = rows.0; told = h.told }, record { rows = rows.1; told = h.told })
begins_born (Attach t kind serial) s w may h = record { rows = begins_drawn (Attach t kind serial) s may h.rows; told = h.told }
begins_born (Read c bytes) s w may h =
    (h, λ client is asking. record { rows = (begins_drawn (Read c bytes) s may h.rows).1 client is asking; told = h.told })
begins_born _ s w may h = h

all_born : (h : History) → IsLegal h → Born (state h) (told h)
all_born [] legal = record { rows = all_drawn [] tt; told = All-nil (IsOfBorn 0) }
all_born (e ∷ older) legal =
    step_kept (plain_moves born_plain) e (state older) (told older)
    (begins_born e (state older) (told older) legal.2 (all_born older legal.0))

-- No packet is due of a stream that was not born.
pub told_of_born : (h : History) → IsLegal h → AreOfBorn h
told_of_born h legal = (all_born h legal).told
