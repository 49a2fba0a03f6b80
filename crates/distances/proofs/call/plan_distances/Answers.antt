-- Where the pairs are refused, nothing is written; where they are not, the entries are put.
use Rattle.std.proofs.Common.{◌≡◌, rules, Err}
use Rattle.postman_laws.specs.Laws.DistanceCall.{pairs_accepted}
use Rattle.distances.specs.Laws.Answer.{pairs_refusal, refused_page, given_page}
use Rattle.distances.proofs.call.plan_distances.Goals as goal

pub put_entries-requires : goal.put_entries-requires
put_entries-requires c =
    let a = c.args in
    let h = pairs_accepted _ _ _ (pairs_refusal a.good.now.plan a.pairs.now _ c.in_ok-pairs_verdict.ensures) in
    (h.0, h.1)

pub returns-in_err-pairs_verdict : goal.returns-in_err-pairs_verdict
returns-in_err-pairs_verdict c =
    let a = c.args in
    let e = pairs_refusal a.good.now.plan a.pairs.now _ c.in_err-pairs_verdict.ensures in
    let r : c.from_residual.result ≡ Err c.in_err-pairs_verdict.field-0.0 = search rules in
    rw r (refused_page _ _ _ _ _ e)

pub returns : goal.returns
returns c =
    let a = c.args in
    let e = pairs_refusal a.good.now.plan a.pairs.now _ c.in_ok-pairs_verdict.ensures in
    let r = c.put_entries in
    given_page _ _ _ _ _ _ e r.ensures.searches r.ensures.entries_written
