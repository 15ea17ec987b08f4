use Rattle.adb_history.proofs.Numbers.{counted, next_number}
use Rattle.adb_history.proofs.order.numbers_are_drawn_in_order.Goals as goal

pub returns-clause-counted : goal.returns-clause-counted
returns-clause-counted c = λ h legal. counted h

pub returns-clause-next : goal.returns-clause-next
returns-clause-next c = λ e older legal. next_number e older legal.2
