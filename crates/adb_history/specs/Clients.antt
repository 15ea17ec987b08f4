-- Clients: what becomes due to them, and how they close.
use Rattle.std.specs.Prelude.{ℕ, false, List, [], ◌∷◌, Option, Some, None}
use Rattle.adb_client.specs.declared.phase.Phase.TheVariants.{Closing}
use Rattle.adb_history.specs.Rows.{Client, State, to_client, with_due}
use Rattle.adb_history.specs.Events.{Made, quietly, then_also, due_to_client}

-- bytes become due to a client
abbrev pub owe_client : ℕ → List ℕ → State → Made
owe_client c bytes s = record { state = to_client c (with_due bytes) s; told = due_to_client c bytes ∷ [] }

-- A client that is read no more is handed what is due to it, and then nothing of it is kept; where nothing is due, that is now.
abbrev pub closing_with : List ℕ → Client → Option Client
closing_with [] c = None
closing_with (b ∷ due) c =
    Some (record c { about = record c.about { phase = Closing; mark = false; want = None }; held = []; due = b ∷ due })

abbrev pub closing : Client → Option Client
closing c = closing_with c.due c

-- a client is read no more
abbrev pub closes : ℕ → State → State
closes c s = to_client c closing s

-- a client is handed a last reply
abbrev pub closes_with : ℕ → List ℕ → State → Made
closes_with c bytes s = then_also (owe_client c bytes s) (λ s. quietly (closes c s))
