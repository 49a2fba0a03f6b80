-- Where the network refuses, the answer is the refusal; where it does not, it is the number of its trees.
use Rattle.std.proofs.Common.{sym, ap, ◌∙◌}
use Rattle.postman.specs.TreeCount.{tree_count}
use Rattle.call_steps.specs.Laws.Refused.{stopped}
use Rattle.count_call.specs.Contract.{count_answer}
use Rattle.count_call.specs.Laws.Call.{few_components, answer_refused, count_given}
use Rattle.count_call.proofs.count_measured.Goals as goal

pub of_network-requires : goal.of_network-requires
of_network-requires c = few_components _ _ (sym c.in_ok-network_verdict.ensures)

pub returns-in_err-network_verdict : goal.returns-in_err-network_verdict
returns-in_err-network_verdict c =
    λ p ok is. ap count_answer (stopped _ _ c.from_residual.ensures.1)
    ∙ answer_refused (tree_count p) _ _ (sym c.in_err-network_verdict.ensures)

pub returns : goal.returns
returns c =
    let n = c.of_network in
    λ p ok is. c.known_or_above.ensures ∙ count_given p n.result _ (n.ensures p ok is) (sym c.in_ok-network_verdict.ensures)
