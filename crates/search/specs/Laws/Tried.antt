-- The trees of the root are all trees, in order, and the count of the root's entries is their number.
use Rattle.std.specs.Prelude.{◌≡◌, refl, ℕ, ◌-◌, ◌≤◌, ◌<◌}
use Rattle.std.proofs.Math.Path.{sym, ap, subst⁻¹}
use Rattle.std.proofs.Common.{ap₂, ◌∙◌, subst, arith}
use mathlib.Core.List.{List, [], ◌∷◌, ◌++◌, map, Memᴰ}
use Rattle.std.proofs.Math.ListN.{length}
use Rattle.postman.specs.Lists.{up_from}
use Rattle.postman.specs.Plan.{Plan}
use Rattle.postman.specs.Link.{Link}
use Rattle.postman.specs.Component.{component_count}
use Rattle.postman.specs.Arborescence.{arborescences, arborescence_count}
use Rattle.postman.specs.Laws.Membership.{up_from_mem}
use Rattle.small_counts.specs.Recursion.{count_trees}
use Rattle.small_counts.specs.Matrix.{entries_of, AreFew, AreCounts}
use Rattle.small_counts.specs.Laws.Recursion.{entries_in, count_cong}
use Rattle.branches.specs.declared.branch.Branch.{Branch}
use Rattle.tree_bounds.specs.Branch.{sources_by, completions}
use Rattle.tree_bounds.specs.Prepared.{Prepared}
use Rattle.branches.specs.Branches.{names_in, IsRoot, trees_in}
use Rattle.tree_bounds.specs.Laws.Prepared.{in_plan, some_component}
use Rattle.tree_bounds.specs.Laws.Branch.{completions_count, completions_cong, completions_first}
use Rattle.branches.specs.Laws.Root.{no_chosen}

map_same : {A : Type 0} (f : A → A) → ((x : A) → f x ≡ x) → (xs : List A) → map f xs ≡ xs
map_same f h [] = refl
map_same f h (x ∷ xs) = ap₂ ◌∷◌ (h x) (map_same f h xs)

module _ {p : Plan} {table : List (List ℕ)} {vs start source tails heads : List ℕ} {k : ℕ}
    (h : Prepared p table vs start source tails heads k) {f : List ℕ} (b : Branch) (is : IsRoot p table f b) where
  -- ALL TREES
  pub root_trees : trees_in p b ≡ arborescences p
  unfolding trees_in
  root_trees =
      ap (λ (c : List Link). map (λ t. c ++ t) (completions p (names_in b) b.a)) (no_chosen b is.nothing)
      ∙ map_same (λ t. [] ++ t) (λ t. refl) (completions p (names_in b) b.a)
      ∙ completions_cong p (in_plan h) (some_component h) (names_in b) (λ c. c) b.a
      (λ c l. is.names_are c (let f = h.few in omega arith))
      ∙ ap (completions p (λ c. c)) is.nothing ∙ completions_first p (in_plan h) (some_component h)

  -- their number
  pub root_count : count_trees (entries_of b.entries) (up_from 1 (k - 1)) ≡ arborescence_count p
  unfolding arborescence_count entries_in
  root_count =
      let i = is.branch in
      let names = names_in b in
      ap (λ n. count_trees (entries_of b.entries) (up_from 1 (n - 1))) h.count
      ∙ count_cong (up_from 1 (component_count p - 1)) (entries_of b.entries) (entries_in (sources_by p names)) (λ q x u v.
      let w = up_from_mem 1 (component_count p - 1) u in
      let e = is.nothing in
      i.entries q x (omega arith) (omega arith) (subst⁻¹ (λ n. Memᴰ x (0 ∷ up_from n (component_count p - n))) e v))
      ∙ sym (ap (λ n. count_trees (entries_in (sources_by p names)) (up_from n (component_count p - n))) is.nothing)
      ∙ sym (completions_count p (in_plan h) (some_component h) names b.a i.one i.most i.named)
      ∙ ap length (completions_cong p (in_plan h) (some_component h) names (λ c. c) b.a
      (λ c l. is.names_are c (let f = h.few in omega arith)) ∙ ap (completions p (λ c. c)) is.nothing
      ∙ completions_first p (in_plan h) (some_component h))

  -- what counting them asks
  pub countable : (1 ≤ k) × (k ≤ 8) × AreFew b.entries 1 k × (1 < k → AreCounts b.entries 1 k b.counts)
  countable =
      let few = h.few in
      let n = h.count in (
        h.layout.sources.some_component,
        omega arith,
        subst⁻¹ (AreFew b.entries 1) n (subst (λ a. AreFew b.entries a (component_count p)) is.nothing is.branch.few),
        λ l. subst⁻¹ (λ k. AreCounts b.entries 1 k b.counts) n
            (subst (λ a. AreCounts b.entries a (component_count p) b.counts) is.nothing
            (is.branch.counts (let o = is.nothing in omega arith))),
      )
