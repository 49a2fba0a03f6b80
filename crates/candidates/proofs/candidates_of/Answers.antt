-- The ends of the pairs at the places listed.
use Rattle.candidates.specs.Laws.Ends.{have_ends}
use Rattle.candidates.proofs.candidates_of.Goals as goal

pub returns : goal.returns
returns c =
    let s = c.args in
    have_ends s.links.now s.component.now s.k _ c.group.result.list _ _ _ c.group.ensures c.ends_of.ensures
