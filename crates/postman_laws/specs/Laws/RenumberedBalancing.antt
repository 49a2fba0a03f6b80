-- The heads and tails of the plan renumbered are the new numbers of those of the plan, so each new number has its vertex's imbalance, and
-- heads are sent to tails at the same least cost. Amounts between new numbers balance the plan as amounts between their vertices, since a
-- sum over the required vertices of one plan is one over those of the other: each is there once.
use Rattle.std.specs.Prelude.{◌≡◌, ◌-ℤ◌}
use Rattle.std.proofs.Math.Path.{refl, sym, ap, ap₂}
use Rattle.std.proofs.Common.{◌∙◌}
use Rattle.std.proofs.Math.Bool.{cond}
use mathlib.Core.List.{List, [], ◌∷◌, ◌++◌, map, Memᴰ, map-append, map-map}
use Prim.Native.Nat.{ℕ, ◌+◌, ◌*◌}
use Rattle.std.proofs.Math.Nat.{mul-one}
use Rattle.std.proofs.Math.IntN.{pos}
use Rattle.postman.specs.Lists.{sum_of, minimum, delta, occurrences, picks}
use Rattle.postman.specs.Plan.{Arc, Plan, required_arcs}
use Rattle.postman.specs.Required.{required}
use Rattle.postman.specs.Distance.{distance}
use Rattle.postman.specs.Link.{Link}
use Rattle.postman.specs.Balancing.{heads, tails, imbalance, sum_over, IsBalancing, balancing_cost, assignment, least_balancing, link_cost, completion_cost}
use Rattle.postman.specs.Renumbering.{IsNumbering, renumbered_arc, renumbered, renumbered_link, renumbered_tree}
use Rattle.postman.specs.Laws.Membership.{map_mem}
use Rattle.postman_laws.specs.Laws.Lists.{map_cong}
use Rattle.postman_laws.specs.Laws.Sum.{sum_cong, sum_cong_mem, once, sum_occurrences}
use Rattle.postman_laws.specs.Laws.Required.{required_once}
use Rattle.postman.proofs.Numbering.{eqb_number}
use Rattle.postman_laws.specs.Laws.Renumbering.{renumbered_required, renumbered_cost}
use Rattle.postman_laws.specs.Laws.RenumberedDistance.{distance_renumbered}
use Rattle.postman_laws.specs.Laws.RenumberedComponents.{requireds, required_of}

-- ---- the ends of required arcs and links

module _ (p : Plan) (π : ℕ → ℕ) (t : List Link) where
  ends_renumbered : (f : Arc → ℕ) (g : Link → ℕ) → ((a : Arc) → f (renumbered_arc π a) ≡ π (f a))
      → ((l : Link) → g (renumbered_link π l) ≡ π (g l))
      → map f (required_arcs (renumbered p π)) ++ map g (renumbered_tree π t) ≡ map π (map f (required_arcs p) ++ map g t)
  ends_renumbered f g a b =
      ap₂ ◌++◌
      (ap (map f) (renumbered_required p π) ∙ map-map f (renumbered_arc π) (required_arcs p)
      ∙ map_cong (λ x. f (renumbered_arc π x)) (λ x. π (f x)) (required_arcs p) (λ x m. a x) ∙ sym (map-map π f (required_arcs p)))
      (map-map g (renumbered_link π) t ∙ map_cong (λ x. g (renumbered_link π x)) (λ x. π (g x)) t (λ x m. b x) ∙ sym (map-map π g t))
      ∙ sym (map-append π (map f (required_arcs p)) (map g t))

  pub heads_renumbered : heads (renumbered p π) (renumbered_tree π t) ≡ map π (heads p t)
  unfolding heads
  heads_renumbered = ends_renumbered (λ a. a.head) (λ l. l.head) (λ a. refl) (λ l. refl)

  pub tails_renumbered : tails (renumbered p π) (renumbered_tree π t) ≡ map π (tails p t)
  unfolding tails
  tails_renumbered = ends_renumbered (λ a. a.tail) (λ l. l.tail) (λ a. refl) (λ l. refl)

-- ---- how often, and the least assignment

module _ {n : ℕ} {π σ : ℕ → ℕ} (h : IsNumbering n π σ) where
  pub occurrences_renumbered : (i : ℕ) (xs : List ℕ) → occurrences (π i) (map π xs) ≡ occurrences i xs
  unfolding occurrences delta
  occurrences_renumbered i [] = refl
  occurrences_renumbered i (x ∷ xs) = ap₂ ◌+◌ (ap (λ b. cond b 1 0) (eqb_number h i x)) (occurrences_renumbered i xs)

picks_map : (f : ℕ → ℕ) (ts : List ℕ) → picks (map f ts) ≡ map (λ r. (f r.0, map f r.1)) (picks ts)
unfolding picks
picks_map f [] = refl
picks_map f (t ∷ ts) =
    let g : ℕ × List ℕ → ℕ × List ℕ = λ r. (f r.0, map f r.1) in
    ap (λ (l : List (ℕ × List ℕ)). (f t, map f ts) ∷ l)
    (ap (map (λ r. (r.0, f t ∷ r.1))) (picks_map f ts) ∙ map-map (λ r. (r.0, f t ∷ r.1)) g (picks ts)
    ∙ sym (map-map g (λ r. (r.0, t ∷ r.1)) (picks ts)))

module _ (d e : ℕ → ℕ → ℕ) (π : ℕ → ℕ) (same : (i j : ℕ) → d (π i) (π j) ≡ e i j) where
  assignment_renumbered : (ss ts : List ℕ) → assignment d (map π ss) (map π ts) ≡ assignment e ss ts
  unfolding assignment
  assignment_renumbered [] ts = refl
  assignment_renumbered (s ∷ ss) ts =
      let f : ℕ × List ℕ → ℕ = λ r. d (π s) r.0 + assignment d (map π ss) r.1 in
      let g : ℕ × List ℕ → ℕ × List ℕ = λ r. (π r.0, map π r.1) in
      ap minimum (ap (map f) (picks_map π ts) ∙ map-map f g (picks ts)
      ∙ map_cong (λ r. f (g r)) (λ r. e s r.0 + assignment e ss r.1) (picks ts)
      (λ r m. ap₂ ◌+◌ (same s r.0) (assignment_renumbered ss r.1)))

-- ---- the plan: D, Z, and the cost of a tree

module _ (p : Plan) {π σ : ℕ → ℕ} (h : IsNumbering p.n π σ) where
  abbrev q : Plan
  q = renumbered p π

  module _ (t : List Link) where
    pub imbalance_renumbered : (i : ℕ) → imbalance q (renumbered_tree π t) (π i) ≡ imbalance p t i
    unfolding imbalance
    imbalance_renumbered i =
        ap₂ (λ (a b : ℕ). pos a -ℤ pos b)
        (ap (occurrences (π i)) (heads_renumbered p π t) ∙ occurrences_renumbered h i (heads p t))
        (ap (occurrences (π i)) (tails_renumbered p π t) ∙ occurrences_renumbered h i (tails p t))

    pub balancing_renumbered : least_balancing q (renumbered_tree π t) ≡ least_balancing p t
    unfolding least_balancing
    balancing_renumbered =
        ap₂ (assignment (distance q)) (heads_renumbered p π t) (tails_renumbered p π t)
        ∙ assignment_renumbered (distance q) (distance p) π (distance_renumbered p h) (heads p t) (tails p t)

    links_renumbered : link_cost q (renumbered_tree π t) ≡ link_cost p t
    unfolding link_cost
    links_renumbered =
        ap sum_of (map-map (λ l. distance q l.tail l.head) (renumbered_link π) t
        ∙ map_cong (λ l. distance q (π l.tail) (π l.head)) (λ l. distance p l.tail l.head) t
        (λ l m. distance_renumbered p h l.tail l.head))

    pub completion_renumbered : completion_cost q (renumbered_tree π t) ≡ completion_cost p t
    unfolding completion_cost
    completion_renumbered = ap₂ ◌+◌ (ap₂ ◌+◌ (renumbered_cost p π) links_renumbered) balancing_renumbered

  -- ---- sums over the required vertices, and amounts

  sum_renumbered : (w : ℕ → ℕ) → sum_over (required q) w ≡ sum_over (required p) (λ v. w (π v))
  unfolding sum_over
  sum_renumbered w =
      sum_cong_mem (required q) w (λ i. w i * occurrences i (map π (required p)))
      (λ i m. sym (ap (λ x. w i * x) (single i m) ∙ mul-one (w i)))
      ∙ sum_occurrences w (required q) (map π (required p)) there ∙ over (required p)
    where
      single : (i : ℕ) → Memᴰ i (required q) → occurrences i (map π (required p)) ≡ 1
      single i m =
          ap (λ z. occurrences z (map π (required p))) (sym (h.forth i)) ∙ occurrences_renumbered h (σ i) (required p)
          ∙ once (required_once p) (required_of p h m)

      there : (i : ℕ) → Memᴰ i (map π (required p)) → occurrences i (required q) ≡ 1
      there i m =
          let r = map_mem π (required p) m in
          ap (λ z. occurrences z (required q)) r.2 ∙ once (required_once q) ((requireds p h r.0).1 r.1)

      over : (vs : List ℕ) → sum_over (map π vs) w ≡ sum_over vs (λ v. w (π v))
      over [] = refl
      over (v ∷ vs) = ap (λ x. w (π v) + x) (over vs)

  module _ (f : ℕ → ℕ → ℕ) where
    pub amounts_back : (t : List Link) → IsBalancing (required q) (imbalance q (renumbered_tree π t)) f
        → IsBalancing (required p) (imbalance p t) (λ i j. f (π i) (π j))
    unfolding IsBalancing
    amounts_back t b i m =
        ap₂ (λ (x y : ℕ). pos x -ℤ pos y) (sym (sum_renumbered (λ j. f (π i) j))) (sym (sum_renumbered (λ j. f j (π i))))
        ∙ b (π i) ((requireds p h i).1 m) ∙ imbalance_renumbered t i

    pub amounts_cost : balancing_cost (required q) (distance q) f ≡ balancing_cost (required p) (distance p) (λ i j. f (π i) (π j))
    unfolding balancing_cost
    amounts_cost =
        sum_renumbered (λ i. sum_over (required q) (λ j. f i j * distance q i j))
        ∙ sum_cong (required p) (λ i. sum_over (required q) (λ j. f (π i) j * distance q (π i) j))
        (λ i. sum_over (required p) (λ j. f (π i) (π j) * distance p i j)) (λ i.
        sum_renumbered (λ j. f (π i) j * distance q (π i) j)
        ∙ sum_cong (required p) (λ j. f (π i) (π j) * distance q (π i) (π j)) (λ j. f (π i) (π j) * distance p i j)
        (λ j. ap (λ d. f (π i) (π j) * d) (distance_renumbered p h i j)))
