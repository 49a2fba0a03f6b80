-- What is looked up among lent rows and a column is the next arc of their weighted plan: arc k is
-- row k, and the column holds the weights to j.
use Rattle.std.specs.Prelude.{◌≡◌, refl, Bool, List, [], ℕ, zero, suc, ◌+◌, ◌<◌, ◌≤◌, length, get_or, take}
use Rattle.std.proofs.Common.{sym, ◌∙◌, arith, length-take-le, get_or-take}
use Rattle.std.proofs.Math.Path.{ap, subst⁻¹}
use Rattle.std.proofs.lemmas.List.{length-map}
use Rattle.postman.specs.Lists.{first_index, up_from, below}
use Rattle.postman.specs.Plan.{Plan, WellFormed, arc_at}
use Rattle.postman.specs.Distance.{no_path, distance}
use Rattle.postman.specs.Laws.Membership.{get_d_mem}
use Rattle.plan.specs.declared.Plan.{Plan as PlanRecord}
use Rattle.plan.specs.Records.{plan_value}
use Rattle.plan.specs.Rows.{arc_in, plan_in}
use Rattle.plan.specs.Laws.Records.{plan_vertices, record_vertices}
use Rattle.plan.specs.Laws.Rows.{rows_length, rows_vertices, row_arc}
use Rattle.paths.specs.ShortestPath.{begins, next_arc, begins_in, next_in, shortest_path}
use Rattle.paths.specs.Leaving.{tail_of, IsLeavingChain}
use Rattle.shortest.specs.StepContracts.{IsColumn, AreRows, AreWeights}
use Rattle.shortest.specs.Weight.{heavy, weighted}
use Rattle.shortest.specs.Laws.Weight.{heavy_at}

-- the first index of two tests that agree
first_same : (f g : ℕ → Bool) (a n : ℕ) → ((k : ℕ) → a ≤ k → k < a + n → f k ≡ g k)
    → first_index f (up_from a n) ≡ first_index g (up_from a n)
unfolding first_index up_from
first_same f g a zero h = refl
first_same f g a (suc n) h =
    let e = h a (omega arith) (omega arith) in
    let r = first_same f g (suc a) n (λ k l m. h k (omega arith) (omega arith)) in
    rw (e, r)

module _ (n : ℕ) (rows : List (List ℕ)) (ok : WellFormed (plan_in n rows)) where
  -- an arc's ends are vertices
  pub row_ends : (k : ℕ) → k < length rows → ((arc_in (get_or rows k [])).tail < n) × ((arc_in (get_or rows k [])).head < n)
  row_ends k l =
      let e = rows_length n rows in
      let a = rw (row_arc n rows k l) at (ok.each (arc_at (plan_in n rows).arcs k) (get_d_mem (plan_in n rows).arcs _ k (omega arith))) in
      let t = a.tail_in in
      let h = a.head_in in
      let v = rows_vertices n rows in
      (omega arith, omega arith)

  module _ (j : ℕ) (column : List ℕ) (c : IsColumn (plan_in n rows) j column) where
    begins_same : (v k : ℕ) → v < n → k < length rows → begins_in rows column v k ≡ begins (weighted (plan_in n rows)) v j k
    unfolding begins_in begins
    begins_same v k h l =
        let w = rows_vertices n rows in
        let g = (row_ends k l).1 in
        let m = rows_length n rows in
        rw (
          heavy_at (plan_in n rows).arcs k (omega arith),
          row_arc n rows k l,
          c v (omega arith),
          c (arc_in (get_or rows k [])).head (omega arith),
        )

    pub next_same : (v : ℕ) → v < n → next_in rows column v ≡ next_arc (weighted (plan_in n rows)) v j
    unfolding next_in next_arc below
    next_same v h =
        first_same (begins_in rows column v) (begins (weighted (plan_in n rows)) v j) 0 (length rows)
        (λ k a b. begins_same v k h (omega arith))
        ∙ ap (λ m. first_index (begins (weighted (plan_in n rows)) v j) (up_from 0 m))
        (sym (length-map (plan_in n rows).arcs heavy ∙ rows_length n rows))

-- A column that was taken out of the rows of a table: of as many entries as there are rows, it is the column of the weights to j.
pub few_rows : (arcs table : List (List ℕ)) → WellFormed (plan_in (length table) arcs) → length table ≤ 64
few_rows arcs table ok = let v = rows_vertices (length table) arcs in let n = ok.vertices in omega arith

-- what a chain asks
pub chain_ready : (arcs table : List (List ℕ)) → WellFormed (plan_in (length table) arcs)
    → (length arcs ≤ 256) × ((k : ℕ) → k < length arcs → tail_of arcs k < 64)
chain_ready arcs table ok =
    let n = ok.vertices in
    let m = ok.arc_count_holds in
    let e = rows_length (length table) arcs in
    let v = rows_vertices (length table) arcs in
    (omega arith, λ k l. let t = (row_ends (length table) arcs ok k l).0 in omega arith)

module _ (arcs table : List (List ℕ)) (column : List ℕ) (long : length column ≡ 64) (ok : WellFormed (plan_in (length table) arcs)) where
  pub taken_length : length (take (length table) column) ≡ length table
  taken_length = let f = few_rows arcs table ok in length-take-le (length table) column (omega arith)

  pub taken_plan : plan_in (length (take (length table) column)) arcs ≡ plan_in (length table) arcs
  taken_plan = ap (λ n. plan_in n arcs) taken_length

  pub taken_column : (j : ℕ) → j < 64 → AreRows (plan_in (length table) arcs) table
      → ((i : ℕ) → i < length table → get_or column i 0 ≡ get_or (get_or table i []) j 0)
      → IsColumn (plan_in (length table) arcs) j (take (length table) column)
  taken_column j l rows entries i h =
      let v = rows_vertices (length table) arcs in
      let g : i < length table = omega arith in
      get_or-take (length table) column i 0 g ∙ entries i g ∙ rows i j h l

  -- what a lookup asks, of a path that the plan of the table has; and what it then writes is that path
  pub taken_ready : (i j room at : ℕ) (chain : List ℕ) → IsLeavingChain arcs chain → AreRows (plan_in (length table) arcs) table
      → ((i : ℕ) → i < length table → get_or column i 0 ≡ get_or (get_or table i []) j 0)
      → i < (plan_in (length table) arcs).n → j < (plan_in (length table) arcs).n → distance (plan_in (length table) arcs) i j < no_path
      → at + length (shortest_path (plan_in (length table) arcs) i j) ≤ room
      → let n = length (take (length table) column) in
      (WellFormed (plan_in n arcs) × IsColumn (plan_in n arcs) j (take (length table) column) × IsLeavingChain arcs chain)
      × (((i < n) × (j < n) × (distance (plan_in n arcs) i j < no_path)) × (at + length (shortest_path (plan_in n arcs) i j) ≤ room))
  taken_ready i j room at chain linked-arcs rows entries from to linked fits =
      let v = rows_vertices (length table) arcs in
      let f = few_rows arcs table ok in
      let l = taken_length in (
        (
          subst⁻¹ WellFormed taken_plan ok,
          subst⁻¹ (λ (p : Plan). IsColumn p j (take (length table) column)) taken_plan (taken_column j (omega arith) rows entries),
          linked-arcs,
        ),
        (
          (omega arith, omega arith, subst⁻¹ (λ (p : Plan). distance p i j < no_path) taken_plan linked),
          subst⁻¹ (λ (p : Plan). at + length (shortest_path p i j) ≤ room) taken_plan fits,
        ),
      )

  pub taken_path : (i j : ℕ)
      → shortest_path (plan_in (length (take (length table) column)) arcs) i j ≡ shortest_path (plan_in (length table) arcs) i j
  taken_path i j = ap (λ (p : Plan). shortest_path p i j) taken_plan

-- ---- what is lent of a plan by value and of its table

module _ (r : PlanRecord) (ok : WellFormed (plan_value r)) where
  pub lent_plan_lem : (rows : List (List ℕ)) → plan_in r.n rows ≡ plan_value r → (table : List (List ℕ)) → length table ≡ 64
      → plan_in (length (take r.n table)) rows ≡ plan_value r
  lent_plan_lem rows e table l = let n = (record_vertices r ok).1 in ap (λ n. plan_in n rows) (length-take-le r.n table (omega arith)) ∙ e

  pub lent_rows : (table : List (List ℕ)) → AreWeights (plan_value r) table → AreRows (plan_value r) (take r.n table)
  lent_rows table t i j h l =
      let e = plan_vertices r in
      let n = (record_vertices r ok).1 in
      ap (λ (row : List ℕ). get_or row j 0) (get_or-take r.n table i [] (omega arith)) ∙ t i j (omega arith) l
