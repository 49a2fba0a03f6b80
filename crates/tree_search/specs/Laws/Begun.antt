-- What a search asks at its beginning, from the preparation of its plan.
use Rattle.std.proofs.Math.Path.{subst⁻¹}
use Rattle.std.specs.Prelude.{List, ℕ}
use Rattle.postman.specs.Plan.{Plan}
use Rattle.balance.specs.Records.{state_of}
use Rattle.candidates.specs.declared.Candidates.{Candidates}
use Rattle.candidates.specs.LaidOut.{AreLaidOut}
use Rattle.tree_count.specs.Entries.{AreCounted}
use Rattle.tree_bounds.specs.Prepared.{Prepared}
use Rattle.branches.specs.Branches.{AreGiven}
use Rattle.multipliers.specs.Laws.Solve.{Rooted, prepared, given}
use Rattle.multipliers.specs.Laws.Ascent.{answered_rooted}
use Rattle.preparation.specs.declared.prepare.Preparation.{Preparation}
use Rattle.preparation.specs.Preparation.{vertices_in, IsPreparation}

module _ (p : Plan) (table : List (List ℕ)) (r : Preparation) (h : IsPreparation p table r) where
  rooted : Rooted p r.multipliers
  rooted = let k = h.base.known in subst⁻¹ (Rooted p) h.multipliers_are (answered_rooted p k.plannable k.few)

  pub search_prepared : (c : Candidates) → AreLaidOut p c
      → Prepared p table (vertices_in r) c.start c.source c.tails c.heads r.network.components
  search_prepared c l =
      prepared p table (vertices_in r) (state_of r.base) h.base r.multipliers rooted r.network.components c
      h.network.components.all l

  pub search_given : (entries : List ℕ) → AreCounted r.network.links r.network.component 4096 entries
      → AreGiven p table (state_of r.base) r.multipliers r.network.required_cost entries
  search_given entries i =
      given p table (vertices_in r) (state_of r.base) h.base r.multipliers rooted r.network.required_cost r.network.links
      r.network.component r.network.components entries h.network.required_cost_holds h.network.links h.network.components i
