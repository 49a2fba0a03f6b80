-- The cost of a tree: link by link, with the least balancing of the state that counts the links. No
-- sum is large, since the tree's drive is short.
use Rattle.std.specs.Prelude.{◌≡◌, ℕ, zero, suc, ◌+◌, ◌≤◌, ◌<◌, length, get_or, take}
use Rattle.std.proofs.Math.Path.{refl, ap}
use Rattle.std.proofs.Common.{sym, ap₂, ◌∙◌, arith}
use mathlib.Core.List.{List, [], ◌∷◌, map, Memᴰ}
use Rattle.std.proofs.Math.Seq.{take-length}
use Rattle.postman.specs.Lists.{sum_of}
use Rattle.postman.specs.Plan.{Plan}
use Rattle.postman.specs.Link.{Link}
use Rattle.postman.specs.Required.{required_cost}
use Rattle.postman.specs.Distance.{distance}
use Rattle.postman.specs.Balancing.{link_cost, least_balancing, completion_cost}
use Rattle.postman.specs.Steps.{Joins, cell}
use Rattle.postman_laws.specs.Laws.Required.{required_below}
use Rattle.residual_search.specs.Step.{State}
use Rattle.balance.specs.Balance.{balance}
use Rattle.balance.specs.Invariant.{AllIn}
use Rattle.direct_amounts.specs.Laws.Plan.{balance_least}
use Rattle.drive_legs.specs.Filled.{links_of}
use Rattle.multipliers.specs.Drive.{table_of}
use Rattle.multipliers.specs.Prepared.{IsBase, IsTree}
use Rattle.multipliers.specs.Laws.Drive.{agrees}
use Rattle.multipliers.specs.Laws.Lay.{tree_joined, tree_short, tails_in, heads_in}
use Rattle.tree_search.specs.Laws.BestTree.{tree_small}
use Rattle.tree_check.specs.Cost.{table_cost, AreVertices}

-- one link more
pub cost_none : (d : List (List ℕ)) (ts hs : List ℕ) → table_cost d (links_of (take 0 ts) (take 0 hs)) ≡ 0
unfolding table_cost links_of sum_of
cost_none d ts hs = refl

pub cost_more : (d : List (List ℕ)) (n : ℕ) (ts hs : List ℕ) → n < length ts → n < length hs
    → table_cost d (links_of (take (suc n) ts) (take (suc n) hs))
    ≡ table_cost d (links_of (take n ts) (take n hs)) + cell d (get_or ts n 0) (get_or hs n 0)
unfolding table_cost links_of sum_of
cost_more d n [] hs l m = absurd (omega arith)
cost_more d n (t ∷ ts) [] l m = absurd (omega arith)
cost_more d zero (t ∷ ts) (h ∷ hs) l m = omega arith
cost_more d (suc n) (t ∷ ts) (h ∷ hs) l m = let i = cost_more d n ts hs (omega arith) (omega arith) in omega arith

pub cost_part : (d : List (List ℕ)) (n : ℕ) (ts hs : List ℕ) → table_cost d (links_of (take n ts) (take n hs)) ≤ table_cost d
    (links_of ts hs)
unfolding table_cost links_of sum_of
cost_part d zero ts hs = omega arith
cost_part d (suc n) [] hs = omega arith
cost_part d (suc n) (t ∷ ts) [] = omega arith
cost_part d (suc n) (t ∷ ts) (h ∷ hs) = let i = cost_part d n ts hs in omega arith

pub cost_all : (d : List (List ℕ)) (n : ℕ) (ts hs : List ℕ) → n ≡ length ts → length hs ≡ length ts
    → table_cost d (links_of (take n ts) (take n hs)) ≡ table_cost d (links_of ts hs)
cost_all d n ts hs e f =
    ap (λ k. table_cost d (links_of (take k ts) (take k hs))) e
    ∙ ap₂ (λ (a b : List ℕ). table_cost d (links_of a b)) (take-length ts) (ap (λ k. take k hs) (sym f) ∙ take-length hs)

-- ---- a tree

sum_same : (f g : Link → ℕ) (t : List Link) → ((l : Link) → Memᴰ l t → f l ≡ g l) → sum_of (map f t) ≡ sum_of (map g t)
unfolding sum_of
sum_same f g [] h = refl
sum_same f g (l ∷ t) h = ap₂ ◌+◌ (h l (Memᴰ.head refl)) (sum_same f g t (λ m x. h m (Memᴰ.tail x)))

module _ (p : Plan) (table : List (List ℕ)) (vs : List ℕ) (base : State) (b : IsBase p table vs base) (ts hs : List ℕ)
    (tree : IsTree p ts hs) where
  abbrev t : List Link
  t = links_of ts hs

  joined : Joins p t
  joined = tree_joined p table vs base b ts hs tree

  vertices : (us : List ℕ) → AllIn vs us → AreVertices us
  vertices us h i l = required_below p b.known.plannable.well_formed (rw b.known.vertices at (h i l))

  pub tails_small : AreVertices ts
  tails_small = vertices ts (tails_in p table vs base b ts hs tree)

  pub heads_small : AreVertices hs
  heads_small = vertices hs (heads_in p table vs base b ts hs tree)

  pub links_cost : table_cost table t ≡ link_cost p t
  unfolding table_cost link_cost
  links_cost =
      ap (λ (d : List (List ℕ)). sum_of (map (λ (l : Link). cell d l.tail l.head) t)) b.known.distances
      ∙ sum_same (λ l. cell (table_of p) l.tail l.head) (λ l. distance p l.tail l.head) t
      (λ l m. agrees p b.known.plannable b.known.few l.tail l.head (joined l m).0 (joined l m).1)

  pub balanced_cost : (s : State) → s ≡ balance (cell (table_of p)) p t → s.cost ≡ least_balancing p t
  balanced_cost s e =
      ap (λ (s : State). s.cost) e
      ∙ balance_least p b.known.plannable.well_formed b.known.plannable.connected (cell (table_of p))
      (agrees p b.known.plannable b.known.few) t joined (let n = tree_short p table vs base b ts hs tree in omega arith)

  pub whole_cost : required_cost p + link_cost p t + least_balancing p t ≡ completion_cost p t
  unfolding completion_cost
  whole_cost = refl

  pub cost_small : completion_cost p t ≤ 1131527310
  cost_small = tree_small p b.known.plannable b.known.few t tree.tree
