use Rattle.std.specs.Prelude.{ℕ, ◌+◌, ◌∷◌, List}
use Rattle.std.proofs.Common.{◌≡◌, ◌∙◌, sym, ap, subst}
use Rattle.adb_capture.specs.declared.entry.Entry.TheVariants.{Join}
use Rattle.adb_laws_answers.specs.Words.{IsKnown}
use Rattle.adb_world.specs.Session.{new_session}
use Rattle.adb_world.specs.declared.session.Session.{Session}
use Rattle.adb_world.proofs.starting.begin.Goals as goal

pub join-requires-clause-fresh : goal.join-requires-clause-fresh
join-requires-clause-fresh c =
    let service : c.in_ok-session.session.service ≡ c.args.service.now = ap (λ (s : Session). s.service) c.in_ok-session.ensures in
    record {
      text = c.args.text;
      known = subst IsKnown (sym service) c.requires.known;
      is = c.in_ok-session.ensures ∙ ap (λ (x : List ℕ). new_session x c.args.text) (sym service);
    }

pub returns-clause-ease : goal.returns-clause-ease
returns-clause-ease c =
    let runs = c.requires.ease.runs in
    record {
      runs = record {
        history = Join (c.args.parts.now.given + 1) ∷ runs.history;
        holds = c.in_ok-number.ensures.holds runs.history runs.holds;
        greeted = record { rest = runs.greeted.rest; is = runs.greeted.is };
      };
      calm = c.in_ok-number.ensures.calm c.requires.ease.calm;
    }
