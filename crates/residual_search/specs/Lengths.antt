-- What residual lengths by value stand for.
use Rattle.std.specs.Prelude.{ℕ}
use Rattle.postman.specs.Steps.{cell}
use Rattle.residual_search.specs.declared.lengths.Lengths.{Lengths}
use Rattle.residual_search.specs.Step.{residual_length}

abbrev pub length_in : Lengths → ℕ → ℕ → ℕ
length_in l = residual_length (cell l.d.now) l.f.now l.u.now
