-- The drive is one: closed, since the circuit is and each leg's places lead from its tail to its head; with every required arc, since each
-- is a leg. Its plain cost and its length are those of the legs, which the circuit only puts in another order.
use Rattle.std.specs.Prelude.{◌≡◌, Bool, true, false, cond, ltb}
use Rattle.std.proofs.Math.Path.{refl, sym, ap, ap₂, subst⁻¹}
use Rattle.std.proofs.Common.{◌∙◌, subst, zero-add, add-zero, suc-mul, zero-mul, get_or-append-add, lt-ltb, le-ltb}
use mathlib.Core.List.Memᴰ
use mathlib.Core.List.{List, [], ◌∷◌, ◌++◌, map, flat_map, Memᴰ, map-append, map-map}
use Prim.Native.Nat.{ℕ, zero, suc, ◌+◌, ◌*◌, ◌≤◌, ◌<◌}
use Rattle.std.proofs.Math.Decide.{dec_le}
use native.Mathlib.Omega.{arith}
use Rattle.std.proofs.Math.ListN.{length, get_or, length-map, length-append, get_or-append}
use Rattle.postman.specs.Lists.{below, up_from, sum_of}
use Rattle.postman.specs.Plan.{Arc, Plan, arc_at, required_arcs, required_numbers, WellFormed}
use Rattle.postman.specs.Drive.{IsWalk, walk_cost, IsDrive}
use Rattle.postman.specs.Required.{required}
use Rattle.postman.specs.Distance.{distance}
use Rattle.postman.specs.Link.{Link}
use Rattle.postman.specs.Balancing.{link_cost, balancing_cost}
use Rattle.postman.specs.Laws.Membership.{mem_get_d, mem_flat_map, get_d_mem, get_d_map_in, mem_below, below_mem}
use Rattle.postman.specs.Steps.{Permutation, amount, no_link}
use Rattle.postman_laws.specs.Laws.Pick.{permutation_mem}
use Rattle.postman_laws.specs.Laws.Distance.{walk_append, cost_append}
use Rattle.postman_laws.specs.Laws.Required.{required_open, numbers_mem, mem_numbers, numbers_arcs, numbers_field, sum_cost}
use Rattle.postman_laws.specs.Laws.LinkLegs.{link_weight}
use Rattle.postman_laws.specs.Laws.Selection.{up_from_append}
use Rattle.hierholzer.specs.Circuit.{circuit}
use Rattle.hierholzer.specs.Eulerian.{Joined, IsCircuit}
use Rattle.drive_legs.specs.Legs.{units, arc_leg, legs, leg_tails, leg_heads, Completes}
use Rattle.drive_legs.specs.Drive.{leg_places, places_of, drive_by, IsPath, ArePaths}
use Rattle.drive_legs.specs.Laws.Sum.{permutation_sum}
use Rattle.hierholzer.specs.Laws.Counting.{mem_of_permutation}
use Rattle.drive_legs.specs.Laws.Units.{weight_append, units_weight}
use Rattle.drive_legs.specs.Laws.Few.{few_numbers, few_others}
use Rattle.hierholzer.specs.Laws.Circuit.{is_circuit}
use Rattle.drive_legs.specs.Laws.Legs.{leg_at, leg_ends, legs_some, eulerian}

-- ---- the places of a leg

cond_yes : (b : Bool) (x y : List ℕ) → b ≡ true → cond b x y ≡ x
cond_yes b x y e = ap (λ c. cond c x y) e

cond_no : (b : Bool) (x y : List ℕ) → b ≡ false → cond b x y ≡ y
cond_no b x y e = ap (λ c. cond c x y) e

module _ (path : ℕ → ℕ → List ℕ) (numbers tails heads : List ℕ) where
  pub places_number : (e : ℕ) → e < length numbers → leg_places path numbers tails heads e ≡ get_or numbers e 0 ∷ []
  unfolding leg_places
  places_number e l = cond_yes (ltb e (length numbers)) _ _ (lt-ltb e (length numbers) l)

  pub places_path : (e : ℕ) → length numbers ≤ e → leg_places path numbers tails heads e ≡ path (get_or tails e 0) (get_or heads e 0)
  unfolding leg_places
  places_path e l = cond_no (ltb e (length numbers)) _ _ (le-ltb e (length numbers) l)

-- ---- a list of lists, one after the other

walk_flat : (arcs : List Arc) (tails heads : List ℕ) (f : ℕ → List ℕ) (w : List ℕ) (i j : ℕ)
    → ((e : ℕ) → Memᴰ e w → IsWalk arcs (get_or tails e 0) (f e) (get_or heads e 0)) → Joined tails heads i w j
    → IsWalk arcs i (flat_map f w) j
unfolding flat_map
walk_flat arcs tails heads f [] i j h g = g
walk_flat arcs tails heads f (e ∷ w) i j h g =
    walk_append arcs i (get_or heads e 0) j (f e) (flat_map f w)
    (subst (λ z. IsWalk arcs z (f e) (get_or heads e 0)) g.0 (h e (Memᴰ.head refl)))
    (walk_flat arcs tails heads f w (get_or heads e 0) j (λ k m. h k (Memᴰ.tail m)) g.1)

cost_flat : (arcs : List Arc) (f : ℕ → List ℕ) (w : List ℕ) → walk_cost arcs (flat_map f w) ≡ sum_of (map (λ e. walk_cost arcs (f e)) w)
unfolding flat_map sum_of
cost_flat arcs f [] = refl
cost_flat arcs f (e ∷ w) = let h = cost_flat arcs f w in let a = cost_append arcs (f e) (flat_map f w) in omega arith

length_flat : (f : ℕ → List ℕ) (w : List ℕ) → length (flat_map f w) ≡ sum_of (map (λ e. length (f e)) w)
unfolding flat_map sum_of
length_flat f [] = refl
length_flat f (e ∷ w) = let h = length_flat f w in let a = length-append (f e) (flat_map f w) in omega arith

-- ---- a sum over numbers below m + n, in two parts

pub sum_map_append : (f : ℕ → ℕ) (xs ys : List ℕ) → sum_of (map f (xs ++ ys)) ≡ sum_of (map f xs) + sum_of (map f ys)
unfolding sum_of
sum_map_append f [] ys = omega arith
sum_map_append f (x ∷ xs) ys = let h = sum_map_append f xs ys in omega arith

-- over numbers in a row, by what stands there
pub sum_by : {A : Type 0} (f : ℕ → ℕ) (g : A → ℕ) (a : ℕ) (xs : List A) (d : A) → ((k : ℕ) → k < length xs → f (a + k) ≡ g (get_or xs k d))
    → sum_of (map f (up_from a (length xs))) ≡ sum_of (map g xs)
unfolding sum_of up_from
sum_by f g a [] d h = refl
sum_by f g a (x ∷ xs) d h =
    let e : a ≡ a + 0 = omega arith in
    ap₂ ◌+◌ (ap f e ∙ h 0 (omega arith))
    (sum_by f g (suc a) xs d (λ k l. let i : suc a + k ≡ a + suc k = omega arith in ap f i ∙ h (suc k) (omega arith)))

pub sum_le : (f : ℕ → ℕ) (c a n : ℕ) → ((k : ℕ) → a ≤ k → k < a + n → f k ≤ c) → sum_of (map f (up_from a n)) ≤ n * c
unfolding sum_of up_from
sum_le f c a zero h = let e = zero-mul c in omega arith
sum_le f c a (suc n) h =
    let r = sum_le f c (suc a) n (λ k l m. h k (omega arith) (omega arith)) in
    let b = h a (omega arith) (omega arith) in
    let e = suc-mul n c in
    omega arith

module _ (p : Plan) (t : List Link) (amounts : List ℕ) where
  abbrev pub numbers : List ℕ
  numbers = required_numbers p

  -- the legs that are no required arcs
  abbrev pub others : List Link
  others = t ++ units amounts

  -- ---- the legs by their numbers: first the required arcs, then the others

  module _ (f : Link → ℕ) where
    pub split : map f (legs p t amounts) ≡ map (λ k. f (arc_leg (arc_at p.arcs k))) numbers ++ map f others
    unfolding legs
    split =
        map-append f (map arc_leg (required_arcs p)) others
        ∙ ap (λ l. l ++ map f others) (map-map f arc_leg (required_arcs p) ∙ sym (numbers_field p (λ a. f (arc_leg a))))

    first_length : length (map (λ k. f (arc_leg (arc_at p.arcs k))) numbers) ≡ length numbers
    first_length = length-map numbers (λ k. f (arc_leg (arc_at p.arcs k)))

    at_arc : (e : ℕ) → e < length numbers → get_or (map f (legs p t amounts)) e 0 ≡ f (arc_leg (arc_at p.arcs (get_or numbers e 0)))
    at_arc e l =
        let n = first_length in
        ap (λ z. get_or z e 0) split ∙ get_or-append (map (λ k. f (arc_leg (arc_at p.arcs k))) numbers) (map f others) 0 e (omega arith)
        ∙ get_d_map_in (λ k. f (arc_leg (arc_at p.arcs k))) numbers e 0 l

    pub at_other : (k : ℕ) → k < length others → get_or (map f (legs p t amounts)) (length numbers + k) 0 ≡ f (get_or others k no_link)
    at_other k l =
        ap (λ z. get_or z (length numbers + k) 0) split
        ∙ ap (λ z. get_or (map (λ k. f (arc_leg (arc_at p.arcs k))) numbers ++ map f others) (z + k) 0) (sym first_length)
        ∙ get_or-append-add (map (λ k. f (arc_leg (arc_at p.arcs k))) numbers) (map f others) k 0
        ∙ get_d_map_in f others k no_link l

  pub legs_count : length (leg_tails p t amounts) ≡ length numbers + length others
  unfolding leg_tails
  legs_count =
      ap length (split (λ l. l.tail))
      ∙ length-append (map (λ k. (arc_at p.arcs k).tail) numbers) (map (λ l. l.tail) others)
      ∙ ap₂ ◌+◌ (length-map numbers (λ k. (arc_at p.arcs k).tail)) (length-map others (λ l. l.tail))

  module _ (path : ℕ → ℕ → List ℕ) where
    abbrev pub places : ℕ → List ℕ
    places e = leg_places path numbers (leg_tails p t amounts) (leg_heads p t amounts) e

    pub places_arc : (e : ℕ) → e < length numbers → places e ≡ get_or numbers e 0 ∷ []
    places_arc = places_number path numbers (leg_tails p t amounts) (leg_heads p t amounts)

    pub places_other : (e : ℕ) → length numbers ≤ e → places e ≡ path (get_or (leg_tails p t amounts) e 0)
        (get_or (leg_heads p t amounts) e 0)
    places_other = places_path path numbers (leg_tails p t amounts) (leg_heads p t amounts)

    -- a sum over all legs, in the order of the circuit
    pub legs_sum : (c : ℕ → ℕ) → Permutation (circuit (leg_tails p t amounts) (leg_heads p t amounts))
        (below (length (leg_tails p t amounts)))
        → sum_of (map c (circuit (leg_tails p t amounts) (leg_heads p t amounts)))
        ≡ sum_of (map c (up_from 0 (length numbers))) + sum_of (map c (up_from (length numbers) (length others)))
    unfolding below
    legs_sum c q =
        permutation_sum c q
        ∙ ap (λ z. sum_of (map c (up_from 0 z))) legs_count
        ∙ ap (λ z. sum_of (map c z)) (up_from_append 0 (length numbers) (length others))
        ∙ sum_map_append c (up_from 0 (length numbers)) (up_from (0 + length numbers) (length others))
        ∙ ap (λ z. sum_of (map c (up_from 0 (length numbers))) + sum_of (map c (up_from z (length others)))) (zero-add (length numbers))

module _ (p : Plan) (ok : WellFormed p) (t : List Link) (amounts : List ℕ) (h : Completes p t amounts) (path : ℕ → ℕ → List ℕ)
    (paths : ArePaths p path) where
  abbrev pub order : List ℕ
  order = circuit (leg_tails p t amounts) (leg_heads p t amounts)

  pub order_circuit : IsCircuit (leg_tails p t amounts) (leg_heads p t amounts) order
  order_circuit = is_circuit (leg_tails p t amounts) (leg_heads p t amounts) (eulerian p ok t amounts h)

  pub order_lt : {e : ℕ} → Memᴰ e order → e < length (leg_tails p t amounts)
  order_lt m = below_mem (mem_of_permutation order_circuit.each_once m)

  order_mem : {e : ℕ} → e < length (leg_tails p t amounts) → Memᴰ e order
  order_mem l = permutation_mem order_circuit.each_once (mem_below l)

  number_lt : (e : ℕ) → e < length (numbers p t amounts) → e < length (leg_tails p t amounts)
  number_lt e l = let n = legs_count p t amounts in omega arith

  -- the path of a leg
  pub leg_path : (e : ℕ) → e < length (leg_tails p t amounts)
      → IsPath p (get_or (leg_tails p t amounts) e 0) (get_or (leg_heads p t amounts) e 0)
      (path (get_or (leg_tails p t amounts) e 0) (get_or (leg_heads p t amounts) e 0))
  leg_path e l =
      let r = leg_at p ok t amounts h e l in
      let s = leg_ends p ok t amounts h r.1 in
      paths (get_or (leg_tails p t amounts) e 0) (get_or (leg_heads p t amounts) e 0) (subst⁻¹ (λ z. Memᴰ z (required p)) r.2 s.0)
      (subst⁻¹ (λ z. Memᴰ z (required p)) r.3 s.1)

  places_walk : (e : ℕ) → e < length (leg_tails p t amounts)
      → IsWalk p.arcs (get_or (leg_tails p t amounts) e 0) (places p t amounts path e) (get_or (leg_heads p t amounts) e 0)
  unfolding leg_tails leg_heads
  places_walk e l = elim (dec_le (length (numbers p t amounts)) e) [
    | yes g ↦ subst⁻¹ (λ z. IsWalk p.arcs (get_or (leg_tails p t amounts) e 0) z (get_or (leg_heads p t amounts) e 0))
        (places_other p t amounts path e g) (leg_path e l).fewest_path.walk
    | no g ↦ (
        let k : e < length (numbers p t amounts) = omega arith in
        let r = numbers_mem p (get_d_mem (numbers p t amounts) 0 e k) in
        subst⁻¹ (λ z. IsWalk p.arcs (get_or (leg_tails p t amounts) e 0) z (get_or (leg_heads p t amounts) e 0))
        (places_arc p t amounts path e k) (
          r.number,
          required_open p (get_or (numbers p t amounts) e 0) r,
          sym (at_arc p t amounts (λ l. l.tail) e k),
          sym (at_arc p t amounts (λ l. l.head) e k),
        ))
  ]

  -- ---- it is a drive

  pub is_drive : IsDrive p (drive_by path p t amounts)
  unfolding drive_by places_of
  is_drive = record {
    start = get_or (leg_tails p t amounts) 0 0;
    leads_back = walk_flat p.arcs (leg_tails p t amounts) (leg_heads p t amounts) (places p t amounts path) order
        (get_or (leg_tails p t amounts) 0 0) (get_or (leg_tails p t amounts) 0 0)
        (λ e m. places_walk e (order_lt m)) order_circuit.closed;
    covers = λ k l m. (
        let r = mem_get_d 0 (mem_numbers p (record { number = l; must = m })) in
        mem_flat_map (places p t amounts path) (order_mem (number_lt r.0 r.1))
        (subst⁻¹ (Memᴰ k) (places_arc p t amounts path r.0 r.1) (Memᴰ.head (sym r.2))));
  }

  -- ---- its plain cost

  cost_arcs : sum_of (map (λ e. walk_cost p.arcs (places p t amounts path e)) (up_from 0 (length (numbers p t amounts))))
      ≡ walk_cost p.arcs (numbers p t amounts)
  cost_arcs =
      sum_by (λ e. walk_cost p.arcs (places p t amounts path e)) (λ k. (arc_at p.arcs k).cost) 0 (numbers p t amounts) 0
      (λ k l. ap (λ z. walk_cost p.arcs (places p t amounts path z)) (zero-add k)
      ∙ ap (walk_cost p.arcs) (places_arc p t amounts path k l) ∙ add-zero (arc_at p.arcs (get_or (numbers p t amounts) k 0)).cost)
      ∙ sum_cost p.arcs (numbers p t amounts)

  cost_others : sum_of
      (map (λ e. walk_cost p.arcs (places p t amounts path e)) (up_from (length (numbers p t amounts)) (length (others p t amounts))))
      ≡ link_cost p (others p t amounts)
  unfolding link_cost leg_tails leg_heads
  cost_others =
      let n = length (numbers p t amounts) in
      sum_by (λ e. walk_cost p.arcs (places p t amounts path e)) (λ l. distance p l.tail l.head) n (others p t amounts) no_link
      (λ k l.
      let c = legs_count p t amounts in
      ap (walk_cost p.arcs) (places_other p t amounts path (n + k) (omega arith)) ∙ (leg_path (n + k) (omega arith)).costs
      ∙ ap₂ (distance p) (at_other p t amounts (λ l. l.tail) k l) (at_other p t amounts (λ l. l.head) k l))

  pub plain_cost : walk_cost p.arcs (drive_by path p t amounts)
      ≡ walk_cost p.arcs (required_numbers p) + link_cost p t + balancing_cost (required p) (distance p) (amount amounts)
  unfolding drive_by places_of balancing_cost
  plain_cost =
      let a : walk_cost p.arcs (drive_by path p t amounts) ≡ walk_cost p.arcs (required_numbers p) + link_cost p (others p t amounts)
      = cost_flat p.arcs (places p t amounts path) order
      ∙ legs_sum p t amounts path (λ e. walk_cost p.arcs (places p t amounts path e)) order_circuit.each_once
      ∙ ap₂ ◌+◌ cost_arcs cost_others in
      let b : link_cost p (others p t amounts) ≡ link_cost p t + balancing_cost (required p) (distance p) (amount amounts)
      = link_weight p (others p t amounts) ∙ weight_append (distance p) t (units amounts)
      ∙ ap₂ ◌+◌ (sym (link_weight p t)) (units_weight p ok.vertices amounts h.between (distance p)) in
      omega arith

  -- ---- its length

  pub drive_length : length (drive_by path p t amounts) ≤ 17266
  unfolding drive_by places_of
  drive_length =
      let n = length (numbers p t amounts) in
      let m = length (others p t amounts) in
      let c : ℕ → ℕ = λ e. length (places p t amounts path e) in
      let a : length (drive_by path p t amounts) ≡ sum_of (map c (up_from 0 n)) + sum_of (map c (up_from n m))
      = length_flat (places p t amounts path) order ∙ legs_sum p t amounts path c order_circuit.each_once in
      let x = sum_le c 1 0 n (λ k l i. let e = ap length (places_arc p t amounts path k (omega arith)) in omega arith) in
      let y = sum_le c 63 n m (λ k l i.
      let e = ap length (places_other p t amounts path k l) in
      let g = legs_count p t amounts in
      let s = (leg_path k (omega arith)).short in
      omega arith) in
      let r = few_numbers p in
      let b = ok.arc_count_holds in
      let o = length-append t (units amounts) in
      let small = few_others p ok t amounts h in
      omega arith

  -- ---- its first arc

  pub drive_first : (0 < length (drive_by path p t amounts)) × (get_or (drive_by path p t amounts) 0 0 ≡ get_or (required_numbers p) 0 0)
  unfolding drive_by places_of flat_map
  drive_first = starts order (order_mem (legs_some p ok t amounts h)) order_circuit.first
    where
      starts : (w : List ℕ) → Memᴰ 0 w → get_or w 0 0 ≡ 0
          → (0 < length (flat_map (places p t amounts path) w))
          × (get_or (flat_map (places p t amounts path) w) 0 0 ≡ get_or (required_numbers p) 0 0)
      starts [] m e = absurd (Memᴰ.not-nil m)
      starts (k ∷ w) m e =
          let f = places p t amounts path in
          let n = length-map (numbers p t amounts) (λ k. arc_at p.arcs k) ∙ refl in
          let l = ap length (numbers_arcs p) in
          let s = h.some in
          let a = ap (λ z. f z ++ flat_map f w) e ∙ ap (λ z. z ++ flat_map f w) (places_arc p t amounts path 0 (omega arith)) in
          subst⁻¹ (λ z. (0 < length z) × (get_or z 0 0 ≡ get_or (required_numbers p) 0 0)) a (omega arith, refl)
