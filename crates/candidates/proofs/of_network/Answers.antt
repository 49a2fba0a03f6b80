-- The law that such arrays lay a plan's candidates out, at the plan's network.
use Rattle.std.proofs.Common.{subst}
use Rattle.candidates.specs.Places.{HaveEnds}
use Rattle.candidates.specs.Laws.LaidOut.{are_laid_out}
use Rattle.candidates.proofs.of_network.Goals as goal

pub returns : goal.returns
returns c =
    let net = c.args.net in
    let r = c.candidates_of.result in
    λ p ok is.
    are_laid_out p ok net.links net.component net.components is.links is.components c.requires.0 c.requires.1 r (subst (λ n. HaveEnds net.links net.component n r.start r.source r.tails r.heads) c.from.ensures c.candidates_of.ensures)
