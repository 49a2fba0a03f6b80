-- What the closures give: the head, and the tail.
use Rattle.required.proofs.required_sum.imbalance.Given as goal

abbrev pub ghost-degrees : goal.ghost-degrees
ghost-degrees a = λ x. x.head

abbrev pub ghost-degrees-2 : goal.ghost-degrees-2
ghost-degrees-2 a = λ x. x.tail
