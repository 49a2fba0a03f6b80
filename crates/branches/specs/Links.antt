-- Links in arrays.
use Rattle.std.specs.Prelude.{List, ℕ, take}
use Rattle.postman.specs.Link.{Link}
use Rattle.residual_search.specs.Step.{arcs_of}

-- The links whose tails and heads are the first n of two arrays.
abbrev pub links_in : ℕ → List ℕ → List ℕ → List Link
links_in n tails heads = arcs_of (take n tails) (take n heads)
