use Rattle.adb_laws_loads.proofs.Legal.{load_legal, front_legal}
use Rattle.adb_laws_loads.proofs.laws.loads_are_legal.Goals as goal

pub returns-clause-whole : goal.returns-clause-whole
returns-clause-whole c = load_legal

pub returns-clause-fronts : goal.returns-clause-fronts
returns-clause-fronts c = front_legal
