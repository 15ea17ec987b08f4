-- Numbers are drawn one after another, and nothing is kept under a number that was not drawn.
use Rattle.std.proofs.Common.{◌≡◌, ℕ, ◌+◌, Bool, true, false, cond, [], ◌∷◌, Option, Some, None, refl, sym, ap, subst, ◌∙◌, arith, eqb}
use Rattle.std.specs.Prelude.{option_and_then, option_map}
use Rattle.std.proofs.lemmas.Bool.{ne_eqb}
use Rattle.adb_outside.specs.Tables.{Rows, change_row, put_row}
use Rattle.adb_capture.specs.declared.entry.Entry.{Entry}
use Rattle.adb_capture.specs.declared.entry.Entry.TheVariants.{Join, Enter, Read, Attach}
use Rattle.adb_history.specs.Rows.{Client, State, start, new_client, new_link}
use Rattle.adb_history.specs.Tracking.{marked}
use Rattle.adb_history.specs.Losing.{only_client}
use Rattle.adb_history.specs.Machine.{History, state, step, May, IsLegal}
use Rattle.adb_history.specs.Book.{plugged_count}
use Rattle.adb_history.specs.Tied.{came_count}
use Rattle.adb_history.specs.Orderly.{IsDrawnOnly}
use Rattle.adb_history.specs.Owned.{AllDrawn}
use Rattle.adb_history.specs.Order.{IsNext, IsCounted}
use Rattle.adb_history.proofs.PlainMoves.{Plain, plain_moves}
use Rattle.adb_history.proofs.RuleMoves.{Begins, step_kept}

-- ---- counts
pub record Counts (joined plugged : ℕ) (s : State) : Type 0 where
  pub joined_is : s.joined ≡ joined
  pub plugged_is : s.devices.drawn ≡ plugged

counts_plain : (j d : ℕ) → Plain (λ s w. Counts j d s)
counts_plain j d = record {
  tells_link = λ t p check s w of h. h;
  tells_client = λ c bytes s w h. h;
  tells_end = λ l ending s w h. h;
  client = λ c f s w h. record { joined_is = h.joined_is; plugged_is = h.plugged_is };
  link = λ t f s w h. record { joined_is = h.joined_is; plugged_is = h.plugged_is };
  stream = λ l f s w h. record { joined_is = h.joined_is; plugged_is = h.plugged_is };
  draws = λ credit c t s w h. record { joined_is = h.joined_is; plugged_is = h.plugged_is };
  marks = λ s w h. record { joined_is = h.joined_is; plugged_is = h.plugged_is };
  devices = λ rows s w h. record { joined_is = h.joined_is; plugged_is = h.plugged_is };
  forwards = λ forwards s w h. record { joined_is = h.joined_is; plugged_is = h.plugged_is };
  kills = λ c s w h. record { joined_is = h.joined_is; plugged_is = h.plugged_is };
}

-- how many came with an entry, and how many were plugged in
came_with : Entry → ℕ → ℕ
came_with (Join c) n = n + 1
came_with (Enter c port) n = n + 1
came_with _ n = n

plugged_with : Entry → ℕ → ℕ
plugged_with (Attach t kind serial) n = n + 1
plugged_with _ n = n

begins_counted : (e : Entry) (s : State) (j d : ℕ) → Counts j d s
    → Begins (plain_moves (counts_plain (came_with e j) (plugged_with e d))) e s []
unfolding came_with plugged_with
begins_counted (Join c) s j d h = record { joined_is = ap (λ n. n + 1) h.joined_is; plugged_is = h.plugged_is }
begins_counted (Enter c port) s j d h = (
  record { joined_is = ap (λ n. n + 1) h.joined_is; plugged_is = h.plugged_is },
  record {
    joined_is = ap
        (λ n. n + 1) h.joined_is;
    plugged_is = h.plugged_is;
  },
)
begins_counted (Attach t kind serial) s j d h = record { joined_is = h.joined_is; plugged_is = ap (λ n. n + 1) h.plugged_is }
begins_counted (Read c bytes) s j d h = (h, λ client is asking. record { joined_is = h.joined_is; plugged_is = h.plugged_is })
begins_counted _ s j d h = h

step_counted : (e : Entry) (s : State) (j d : ℕ) → Counts j d s → Counts (came_with e j) (plugged_with e d) (step s e).state
step_counted e s j d h =
    step_kept (plain_moves (counts_plain (came_with e j) (plugged_with e d))) e s [] (begins_counted e s j d h)

came_next : (e : Entry) (older : History) → came_with e (came_count older) ≡ came_count (e ∷ older)
unfolding came_with
came_next (Join c) older = refl
came_next _ older = refl

plugged_next : (e : Entry) (older : History) → plugged_with e (plugged_count older) ≡ plugged_count (e ∷ older)
unfolding plugged_with
plugged_next (Join c) older = refl
plugged_next _ older = refl

-- As many numbers were drawn as clients came, and as links were plugged in.
pub counted : (h : History) → IsCounted h
counted [] = record { joined = refl; plugged = refl }
counted (e ∷ older) = go (counted older)
  where
    go : IsCounted older → IsCounted (e ∷ older)
    go c =
        let n = step_counted e (state older) (came_count older) (plugged_count older)
        (record { joined_is = c.joined; plugged_is = c.plugged }) in
        record { joined = n.joined_is ∙ came_next e older; plugged = n.plugged_is ∙ plugged_next e older }

-- Who comes has the next number, and a link too.
pub next_number : (e : Entry) (older : History) → May (state older) e → IsNext e older
next_number (Join c) older may = may.1 ∙ ap (λ n. n + 1) (counted older).joined
next_number (Enter c port) older may = may.1 ∙ ap (λ n. n + 1) (counted older).joined
next_number (Attach t kind serial) older may = may.1 ∙ ap (λ n. n + 1) (counted older).plugged
next_number _ older may = tt

-- ---- nothing is kept under a number that was not drawn
module _ {A : Type 0} where
  pub change_drawn : (drawn n : ℕ) (f : A → Option A) (rows : Rows (Option A)) → IsDrawnOnly drawn rows
      → IsDrawnOnly drawn (change_row n (option_and_then f) rows)
  change_drawn drawn n f rows h = record { above = λ m above. go m (eqb n m) (h.above m above); zero = go 0 (eqb n 0) h.zero }
    where
      go : (m : ℕ) (b : Bool) → rows m ≡ None → cond b (option_and_then f (rows m)) (rows m) ≡ None
      go m true none = ap (option_and_then f) none
      go m false none = none

  -- the next number is drawn
  pub put_drawn : (drawn : ℕ) (row : Option A) (kept : Rows (Option A)) → IsDrawnOnly drawn kept
      → IsDrawnOnly (drawn + 1) (put_row (drawn + 1) row kept)
  put_drawn drawn row kept h = record {
    above = λ m above. ap (λ b. cond b row (kept m)) (ne_eqb (drawn + 1) m (λ e. omega (arith, above, e)))
        ∙ h.above m (omega (arith, above));
    zero = ap (λ b. cond b row (kept 0)) (ne_eqb (drawn + 1) 0 (λ e. omega (arith, e))) ∙ h.zero;
  }

  pub put_next : (drawn n : ℕ) (row : Option A) (rows : Rows (Option A)) → n ≡ drawn + 1 → IsDrawnOnly drawn rows
      → IsDrawnOnly (drawn + 1) (put_row n row rows)
  put_next drawn n row rows is h = subst (λ (m : ℕ). IsDrawnOnly (drawn + 1) (put_row m row rows)) (sym is) (put_drawn drawn row rows h)

  pub more_drawn : (drawn : ℕ) (rows : Rows (Option A)) → IsDrawnOnly drawn rows → IsDrawnOnly (drawn + 1) rows
  more_drawn drawn rows h = record { above = λ m above. h.above m (omega (arith, above)); zero = h.zero }

  pub none_drawn : (drawn : ℕ) → IsDrawnOnly {A = A} drawn (λ n. None)
  none_drawn drawn = record { above = λ m above. refl; zero = refl }

  pub map_drawn : (drawn : ℕ) (f : A → A) (rows : Rows (Option A)) → IsDrawnOnly drawn rows → IsDrawnOnly drawn (λ n. option_map f (rows n))
  map_drawn drawn f rows h = record { above = λ m above. ap (option_map f) (h.above m above); zero = ap (option_map f) h.zero }

only_drawn : (drawn c : ℕ) (rows : Rows (Option Client)) → IsDrawnOnly drawn rows → IsDrawnOnly drawn (only_client c rows)
only_drawn drawn c rows h = record { above = λ m above. go m (eqb c m) (h.above m above); zero = go 0 (eqb c 0) h.zero }
  where
    go : (m : ℕ) (b : Bool) → rows m ≡ None → cond b (rows m) None ≡ None
    go m true none = none
    go m false none = refl

pub drawn_plain : Plain (λ s w. AllDrawn s)
drawn_plain = record {
  tells_link = λ t p check s w of h. h;
  tells_client = λ c bytes s w h. h;
  tells_end = λ l ending s w h. h;
  client = λ c f s w h. record { clients = change_drawn s.joined c f s.clients h.clients; links = h.links; streams = h.streams };
  link = λ t f s w h. record { clients = h.clients; links = change_drawn s.devices.drawn t f s.links h.links; streams = h.streams };
  stream = λ l f s w h. record { clients = h.clients; links = h.links; streams = change_drawn s.drawn l f s.streams h.streams };
  draws = λ credit c t s w h. record { clients = h.clients; links = h.links; streams = put_drawn s.drawn _ s.streams h.streams };
  marks = λ s w h. record { clients = map_drawn s.joined marked s.clients h.clients; links = h.links; streams = h.streams };
  devices = λ rows s w h. record { clients = h.clients; links = h.links; streams = h.streams };
  forwards = λ forwards s w h. record { clients = h.clients; links = h.links; streams = h.streams };
  kills = λ c s w h.
      record {
        clients = only_drawn s.joined c s.clients h.clients;
        links = none_drawn s.devices.drawn;
        streams =
            none_drawn s.drawn;
      };
}

-- a number is the next one
pub begins_drawn : (e : Entry) (s : State) → May s e → AllDrawn s → Begins (plain_moves drawn_plain) e s []
begins_drawn (Join c) s may h =
    record { clients = put_next s.joined c (Some (new_client false c)) s.clients may.1 h.clients; links = h.links; streams = h.streams }
begins_drawn (Enter c port) s may h = (
  record { clients = put_next s.joined c (Some (new_client true c)) s.clients may.1 h.clients; links = h.links; streams = h.streams },
  record { clients = more_drawn s.joined s.clients h.clients; links = h.links; streams = h.streams },
)
begins_drawn (Attach t kind serial) s may h = record {
  clients = map_drawn s.joined marked s.clients h.clients;
  links = put_next s.devices.drawn t (Some new_link) s.links may.1 h.links;
  streams = h.streams;
}
begins_drawn (Read c bytes) s may h =
    (h, λ client is asking. record { clients = change_drawn s.joined c _ s.clients h.clients; links = h.links; streams = h.streams })
begins_drawn _ s may h = h

pub step_drawn : (e : Entry) (s : State) → May s e → AllDrawn s → AllDrawn (step s e).state
step_drawn e s may h = step_kept (plain_moves drawn_plain) e s [] (begins_drawn e s may h)

pub start_drawn : AllDrawn start
start_drawn = record { clients = none_drawn 0; links = none_drawn 0; streams = none_drawn 0 }

-- Nothing is kept under a number that was not drawn.
pub all_drawn : (h : History) → IsLegal h → AllDrawn (state h)
all_drawn [] legal = start_drawn
all_drawn (e ∷ older) legal = step_drawn e (state older) legal.2 (all_drawn older legal.0)
