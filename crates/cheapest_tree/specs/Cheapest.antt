-- The cheapest arborescence over a matrix of costs, w p q the cost of entering component q from component p. The components are 0, the
-- root, and those of a list vs; while a circle of entries is shrunk to one component, the list gets shorter and the numbers stay.
use Rattle.std.specs.Prelude.{◌≡◌, ◌≢◌, Bool, not, ◌||◌, ℕ, ◌≤◌, ◌<◌, eqb, ℤ, ◌-ℤ◌, ◌≤ℤ◌}
use mathlib.Core.List.{List, ◌∷◌, map, Memᴰ}
use Rattle.postman.specs.Lists.{select, any_of, iterate, occurrences, sum_ofℤ}

abbrev pub Matrix : Type 0
Matrix = ℕ → ℕ → ℤ

-- the components but the root: each once
pub record AreOthers (vs : List ℕ) : Type 0 where
  pub positive : (q : ℕ) → Memᴰ q vs → q ≢ 0
  pub once : (q : ℕ) → occurrences q vs ≤ 1

-- every component but the root is entered from a component, and going back arrives at the root: a rank falls at each step
pub record IsRootedTree (vs : List ℕ) (parent : ℕ → ℕ) : Type 0 where
  pub inside : (q : ℕ) → Memᴰ q vs → Memᴰ (parent q) (0 ∷ vs)
  pub rank : ℕ → ℕ
  pub falls : (q : ℕ) → Memᴰ q vs → rank (parent q) < rank q

unfoldable pub tree_cost : Matrix → List ℕ → (ℕ → ℕ) → ℤ
unfolding sum_ofℤ
tree_cost w vs parent = sum_ofℤ (map (λ q. w (parent q) q) vs)

-- a is the least cost of a tree
pub record IsCheapest (vs : List ℕ) (w : Matrix) (a : ℤ) : Type 0 where
  pub tree : ℕ → ℕ
  pub is_tree_holds : IsRootedTree vs tree
  pub attained : tree_cost w vs tree ≡ a
  pub least : (parent : ℕ → ℕ) → IsRootedTree vs parent → a ≤ℤ tree_cost w vs parent

-- ---- Edmonds' steps

-- a cheapest entry of each component
pub record AreEntries (vs : List ℕ) (w : Matrix) (entry : ℕ → ℕ) : Type 0 where
  pub inside : (q : ℕ) → Memᴰ q vs → Memᴰ (entry q) (0 ∷ vs)
  pub other : (q : ℕ) → Memᴰ q vs → entry q ≢ q
  pub cheapest : (p q : ℕ) → Memᴰ p (0 ∷ vs) → Memᴰ q vs → p ≢ q → w (entry q) q ≤ℤ w p q

-- what is left of the costs once the entries are paid
pub record IsReduced (vs : List ℕ) (w : Matrix) (entry : ℕ → ℕ) (v : Matrix) : Type 0 where
  pub reduced : (p q : ℕ) → Memᴰ p (0 ∷ vs) → Memᴰ q vs → p ≢ q → v p q ≡ w p q -ℤ w (entry q) q

-- the components cs are a circle of entries: from each, going back along at most d entries leads to any other
pub record IsCircle (vs : List ℕ) (entry : ℕ → ℕ) (cs : List ℕ) (d : ℕ) : Type 0 where
  pub among : (q : ℕ) → Memᴰ q cs → Memᴰ q vs
  pub closed : (q : ℕ) → Memᴰ q cs → Memᴰ (entry q) cs
  pub around : (p q : ℕ) → Memᴰ p cs → Memᴰ q cs → (n : ℕ) × (n < d) × (iterate n entry p ≡ q)

unfoldable pub is_among : ℕ → List ℕ → Bool
unfolding any_of
is_among q cs = any_of (λ x. eqb x q) cs

-- the components that stay: those off the circle, and c, which stands for it
unfoldable pub shrunk : List ℕ → ℕ → List ℕ → List ℕ
unfolding select is_among
shrunk cs c vs = select (λ q. not (is_among q cs) || eqb q c) vs

-- r is the least value of f over cs
pub record IsLeastOver (cs : List ℕ) (f : ℕ → ℤ) (r : ℤ) : Type 0 where
  pub at : ℕ
  pub member : Memᴰ at cs
  pub attained : r ≡ f at
  pub least : (q : ℕ) → Memᴰ q cs → r ≤ℤ f q

-- the costs of the contracted matrix: to enter the circle, and to come from it, costs the least over its members
pub record IsContraction (vs cs : List ℕ) (c : ℕ) (v : Matrix) (w : Matrix) : Type 0 where
  pub same : (p q : ℕ) → Memᴰ p (0 ∷ vs) → Memᴰ q vs → (Memᴰ p cs → ⊥) → (Memᴰ q cs → ⊥) → w p q ≡ v p q
  pub into : (p : ℕ) → Memᴰ p (0 ∷ vs) → (Memᴰ p cs → ⊥) → IsLeastOver cs (λ q. v p q) (w p c)
  pub from : (q : ℕ) → Memᴰ q vs → (Memᴰ q cs → ⊥) → IsLeastOver cs (λ p. v p q) (w c q)
