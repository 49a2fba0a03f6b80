-- One level of Edmonds' recursion: the entries make a tree, or the contracted matrix has fewer components, and its least cost with what was paid is the answer.
use Rattle.cheapest_tree.specs.Cheapest.{IsCheapest}
use Rattle.cheapest_tree.specs.Laws.CostMatrix.{marked_start}
use Rattle.cheapest_tree.specs.Laws.Solve.{cost_within, cheapest_within, are_entries, solve_tree, Smaller, smaller}
use Rattle.integers.specs.Linear.{z, zz, back64}
use mir.Facts.{to_z-of_z}
use mir.Val.{to_z, of_z}
use mir.Syntax.{w64}
use lib.Signed.{◌≤ℤ◌}
use lib.IntN.{ℤ, pos, ◌+ℤ◌}
use Rattle.cheapest_tree.specs.CostMatrix.{others_in, matrix_of, entry_of}
use lib.ListN.{length}
use native.Mathlib.Omega.{arith}
use mathlib.Core.Path.{◌≡◌, refl, ap₂, ◌∙◌, subst, subst⁻¹}
use borrow.Author.Rules.{rules}
use Prim.Native.Nat.{◌<◌}
use Rattle.cheapest_tree.proofs.cheapest.+solve.Goals as goal

pub returns-in_default : goal.returns-in_default
returns-in_default t c =
    subst⁻¹ (IsCheapest (others_in c.args.left) (matrix_of c.args.w)) (back64 _ c.paid-s.type_inv ∙ c.paid-s.ensures)
    (solve_tree c.args.w c.args.left c.requires c.entries-e.result (search rules) c.entries-e.ensures 0 c.in_default.ensures refl)

pub contracted-m-requires : goal.contracted-m-requires
contracted-m-requires t c = (c.in-Some.ensures.0, marked_start _ _ _ c.circle-on.ensures)

pub solve-requires : goal.solve-requires
solve-requires t c =
    let r : Smaller c.args.w c.args.left c.entries-e.result c.contracted-m.result c.remaining-l.result =
    smaller c.args.w c.args.left c.requires c.entries-e.result (search rules) c.entries-e.ensures c.reduced-v.result c.reduced-v.ensures c.in-Some.y c.in-Some.ensures.2 c.in-Some.ensures.1 c.circle-on.result c.circle-on.ensures
    c.contracted-m.result c.contracted-m.ensures c.remaining-l.result c.remaining-l.ensures in
    (subst (λ x. length (others_in c.remaining-l.result) < x) c.decreases r.fewer, r.matrix)

pub overflow_add-result : goal.overflow_add-result
overflow_add-result t c =
    let r : Smaller c.args.w c.args.left c.entries-e.result c.contracted-m.result c.remaining-l.result =
    smaller c.args.w c.args.left c.requires c.entries-e.result (search rules) c.entries-e.ensures c.reduced-v.result c.reduced-v.ensures c.in-Some.y c.in-Some.ensures.2 c.in-Some.ensures.1 c.circle-on.result c.circle-on.ensures
    c.contracted-m.result c.contracted-m.ensures c.remaining-l.result c.remaining-l.ensures in
    let a = cost_within c.args.w c.args.left c.requires (entry_of c.entries-e.result) (are_entries c.args.w c.args.left c.requires c.entries-e.result (search rules) c.entries-e.ensures).inside in
    let a0 : pos 0 ≤ℤ c.paid-s.result = subst⁻¹ (λ (x : ℤ). pos 0 ≤ℤ x) c.paid-s.ensures a.0 in
    let a1 : c.paid-s.result ≤ℤ pos 57801870 = subst⁻¹ (λ (x : ℤ). x ≤ℤ pos 57801870) c.paid-s.ensures a.1 in
    let k = cheapest_within c.contracted-m.result c.remaining-l.result r.matrix c.solve.result c.solve.ensures in
    let k0 = k.0 in
    let k1 = k.1 in
    simp (back64, c.paid-s.type_inv, c.solve.type_inv) (simp zz (omega (arith, z)))

pub returns : goal.returns
returns t c =
    let f : to_z w64 (of_z w64 c.paid-s.result) ≡ c.paid-s.result = back64 _ c.paid-s.type_inv in
    let g : to_z w64 (of_z w64 c.solve.result) ≡ c.solve.result = back64 _ c.solve.type_inv in
    let r : Smaller c.args.w c.args.left c.entries-e.result c.contracted-m.result c.remaining-l.result =
    smaller c.args.w c.args.left c.requires c.entries-e.result (search rules) c.entries-e.ensures c.reduced-v.result c.reduced-v.ensures c.in-Some.y c.in-Some.ensures.2 c.in-Some.ensures.1 c.circle-on.result c.circle-on.ensures
    c.contracted-m.result c.contracted-m.ensures c.remaining-l.result c.remaining-l.ensures in
    subst⁻¹ (IsCheapest (others_in c.args.left) (matrix_of c.args.w)) (to_z-of_z (overflow_add-result t c) ∙ ap₂ ◌+ℤ◌ (f ∙ c.paid-s.ensures) g)
    (r.cost c.solve.result c.solve.ensures)
