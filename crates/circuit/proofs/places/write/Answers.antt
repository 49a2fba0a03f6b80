-- The arcs of a plan that is well formed have a chain.
use Rattle.paths.specs.Laws.Lookup.{chain_ready}
use Rattle.circuit.proofs.places.write.Goals as goal

pub chain_of-chain-requires : goal.chain_of-chain-requires
chain_of-chain-requires c = chain_ready c.args.arcs.now c.args.weights.now c.requires.well_formed.0
