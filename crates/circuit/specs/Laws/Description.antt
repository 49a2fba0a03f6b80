-- The drive's description: its legs in the order of the circuit. Each leg is in the circuit once, so each required arc is a leg of its own
-- once, each link of the tree has one leg, and each pair of vertices as many as its amount says; a leg that is no required arc is the path
-- of fewest arcs between its ends, which are required.
use Rattle.std.specs.Prelude.{◌≡◌, ◌⊎◌, Bool, true, false, cond, ◌&&◌, ℕ, ◌+◌, ◌*◌, ◌≤◌, ◌<◌, length, eqb, ltb}
use Rattle.std.proofs.Math.Path.{refl, sym, ap, ap₂, subst⁻¹}
use Rattle.std.proofs.Common.{◌∙◌, zero-add}
use Rattle.std.proofs.Math.Logic.{inl, inr}
use mathlib.Core.List.{List, [], ◌∷◌, ◌++◌, map, flat_map, Memᴰ}
use Rattle.std.proofs.Math.Decide.{dec_le}
use native.Mathlib.Omega.{arith}
use Rattle.std.proofs.Math.ListN.{get_or, length-append, get_or-append}
use Rattle.std.proofs.Math.Seq.{get_or-append-add}
use borrow.Author.Tests.{lt-ltb, le-ltb}
use Rattle.postman.specs.Lists.{up_from, select, sum_of, delta, occurrences}
use Rattle.postman.specs.Plan.{Plan, required_numbers, WellFormed}
use Rattle.postman.specs.Required.{required}
use Rattle.postman.specs.Link.{Link, joins}
use Rattle.postman.specs.Description.{Leg, must_arc, for_link, for_unit, places_of_leg, must_arc_of, link_of, unit_of, how_often, IsLegPath, IsLaid}
use Rattle.postman.specs.Laws.Membership.{map_mem}
use Rattle.postman_laws.specs.Laws.Occurrences.{occurrences_append, delta_sym}
use Rattle.postman_laws.specs.Laws.FewestPath.{fewest_once}
use Rattle.postman_laws.specs.Laws.Assignment.{weight}
use Rattle.postman_laws.specs.Laws.LinkLegs.{ends}
use Rattle.drive_legs.specs.Laws.Units.{units_pair}
use Rattle.postman.specs.Steps.{amount, no_link}
use Rattle.postman_laws.specs.Laws.Selection.{up_from_append}
use Rattle.drive_legs.specs.Legs.{units, leg_tails, leg_heads, Completes}
use Rattle.drive_legs.specs.Drive.{places_of, drive_by, ArePaths}
use Rattle.drive_legs.specs.Laws.Legs.{leg_at, leg_ends}
use Rattle.drive_legs.specs.Laws.Drive.{sum_by, sum_le, sum_map_append, others, at_other, places, places_arc, places_other, legs_sum, order, order_circuit, order_lt, leg_path}

-- ---- a list of lists, one after the other

flat_map_lem : {A B C : Type 0} (f : A → B) (g : B → List C) (h : A → List C) → ((x : A) → g (f x) ≡ h x) → (xs : List A)
    → flat_map g (map f xs) ≡ flat_map h xs
unfolding flat_map
flat_map_lem f g h e [] = refl
flat_map_lem f g h e (x ∷ xs) = rw (e x, flat_map_lem f g h e xs)

occurrences_flat : {A : Type 0} (k : ℕ) (f : A → List ℕ) (xs : List A)
    → occurrences k (flat_map f xs) ≡ sum_of (map (λ x. occurrences k (f x)) xs)
unfolding flat_map sum_of occurrences
occurrences_flat k f [] = refl
occurrences_flat k f (x ∷ xs) = let h = occurrences_flat k f xs in let a = occurrences_append k (f x) (flat_map f xs) in omega arith

sum_deltas : (k : ℕ) (xs : List ℕ) → sum_of (map (delta k) xs) ≡ occurrences k xs
unfolding sum_of occurrences
sum_deltas k [] = refl
sum_deltas k (x ∷ xs) = let h = sum_deltas k xs in omega arith

-- ---- how often a pair is in a list

often_cons : (i j : ℕ) (l : Link) (ls : List Link) → how_often i j (l ∷ ls) ≡ delta i l.tail * delta j l.head + how_often i j ls
unfolding how_often select delta
often_cons i j l ls =
    one (eqb l.tail i) (eqb l.head j) (select (joins i j) ls)
    ∙ ap₂ (λ x y. x * y + length (select (joins i j) ls)) (delta_sym l.tail i) (delta_sym l.head j)
  where
    one : (x y : Bool) (s : List Link) → length (cond (x && y) (l ∷ s) s) ≡ cond x 1 0 * cond y 1 0 + length s
    one true true s = omega arith
    one true false s = omega arith
    one false true s = omega arith
    one false false s = omega arith

often_weight : (i j : ℕ) (ls : List Link) → how_often i j ls ≡ weight (λ x y. delta i x * delta j y) (ends ls)
unfolding weight ends how_often
often_weight i j [] = refl
often_weight i j (l ∷ ls) = often_cons i j l ls ∙ ap (λ z. delta i l.tail * delta j l.head + z) (often_weight i j ls)

often_append : (i j : ℕ) (ls ms : List Link) → how_often i j (ls ++ ms) ≡ how_often i j ls + how_often i j ms
unfolding how_often
often_append i j [] ms = omega arith
often_append i j (l ∷ ls) ms = let h = often_append i j ls ms in let a = often_cons i j l (ls ++ ms) in let b = often_cons i j l ls in
    omega arith

often_flat : {A : Type 0} (i j : ℕ) (f : A → List Link) (xs : List A)
    → how_often i j (flat_map f xs) ≡ sum_of (map (λ x. how_often i j (f x)) xs)
unfolding flat_map sum_of how_often
often_flat i j f [] = refl
often_flat i j f (x ∷ xs) = let h = often_flat i j f xs in let a = often_append i j (f x) (flat_map f xs) in omega arith

often_sum : (i j : ℕ) (ls : List Link) → sum_of (map (λ l. how_often i j (l ∷ [])) ls) ≡ how_often i j ls
unfolding sum_of how_often
often_sum i j [] = refl
often_sum i j (l ∷ ls) = let h = often_sum i j ls in let a = often_cons i j l ls in let b = often_cons i j l [] in omega arith

-- ---- the legs

module _ (p : Plan) (ok : WellFormed p) (t : List Link) (amounts : List ℕ) (h : Completes p t amounts) (path : ℕ → ℕ → List ℕ)
    (paths : ArePaths p path) where
  abbrev tail : ℕ → ℕ
  tail e = get_or (leg_tails p t amounts) e 0

  abbrev head : ℕ → ℕ
  head e = get_or (leg_heads p t amounts) e 0

  -- the legs: n required arcs, m links, and then the units
  abbrev n : ℕ
  n = length (required_numbers p)

  abbrev m : ℕ
  m = length t

  abbrev way : ℕ → List ℕ
  way e = path (tail e) (head e)

  leg : ℕ → Leg
  leg e = cond (ltb e n) (must_arc (get_or (required_numbers p) e 0))
      (cond (ltb e (n + m)) (for_link (tail e) (head e) (way e)) (for_unit (tail e) (head e) (way e)))

  leg_arc : (e : ℕ) → e < n → leg e ≡ must_arc (get_or (required_numbers p) e 0)
  unfolding leg
  leg_arc e l = rw (lt-ltb e n l) refl

  leg_link : (e : ℕ) → n ≤ e → e < n + m → leg e ≡ for_link (tail e) (head e) (way e)
  unfolding leg
  leg_link e l g = rw (le-ltb e n l, lt-ltb e (n + m) g) refl

  leg_unit : (e : ℕ) → n + m ≤ e → leg e ≡ for_unit (tail e) (head e) (way e)
  unfolding leg
  leg_unit e l = rw (le-ltb e n (omega arith), le-ltb e (n + m) l) refl

  -- of a leg of any kind
  leg_cases : (P : Leg → Type 0) (e : ℕ) → (e < n → P (must_arc (get_or (required_numbers p) e 0)))
      → (n ≤ e → e < n + m → P (for_link (tail e) (head e) (way e)))
      → (n + m ≤ e → P (for_unit (tail e) (head e) (way e))) → P (leg e)
  leg_cases P e a b c = elim (dec_le n e) [
    | yes g ↦ elim (dec_le (n + m) e) [
      | yes k ↦ subst⁻¹ P (leg_unit e k) (c k)
      | no k ↦ subst⁻¹ P (leg_link e g (omega arith)) (b g (omega arith))
    ]
    | no g ↦ subst⁻¹ P (leg_arc e (omega arith)) (a (omega arith))
  ]

  leg_places_lem : (e : ℕ) → places_of_leg (leg e) ≡ places p t amounts path e
  unfolding places_of_leg
  leg_places_lem e = leg_cases (λ x. places_of_leg x ≡ places p t amounts path e) e
      (λ l. sym (places_arc p t amounts path e l)) (λ g k. sym (places_other p t amounts path e g))
      (λ k. sym (places_other p t amounts path e (omega arith)))

  -- ---- each required arc

  own : ℕ → ℕ → ℕ
  own k e = occurrences k (must_arc_of (leg e))

  own_arc : (k e : ℕ) → e < n → own k e ≡ delta k (get_or (required_numbers p) e 0)
  unfolding own must_arc_of occurrences
  own_arc k e l = let a = ap (λ x. occurrences k (must_arc_of x)) (leg_arc e l) in omega arith

  own_other : (k e : ℕ) → n ≤ e → own k e ≡ 0
  unfolding own must_arc_of occurrences
  own_other k e l = leg_cases (λ x. occurrences k (must_arc_of x) ≡ 0) e (λ g. absurd (omega arith)) (λ g i. refl) (λ g. refl)

  must_arcs : (k : ℕ) → occurrences k (flat_map must_arc_of (map leg (order p ok t amounts h path paths))) ≡ occurrences k
      (required_numbers p)
  unfolding own
  must_arcs k =
      let w = order p ok t amounts h path paths in
      let a = ap (occurrences k) (flat_map_lem leg must_arc_of (λ e. must_arc_of (leg e)) (λ e. refl) w)
      ∙ occurrences_flat k (λ e. must_arc_of (leg e)) w in
      let b = legs_sum p t amounts path (own k) (order_circuit p ok t amounts h path paths).each_once in
      let c = sum_by (own k) (delta k) 0 (required_numbers p) 0 (λ e l. ap (own k) (zero-add e) ∙ own_arc k e l)
      ∙ sum_deltas k (required_numbers p) in
      let d = sum_le (own k) 0 n (length (others p t amounts)) (λ e l g. let z = own_other k e l in omega arith) in
      omega arith

  -- ---- each link, and each unit: a sum over all legs is one over the required arcs, one over the links and one over the units

  three_sums : (c : ℕ → ℕ) → sum_of (map c (order p ok t amounts h path paths))
      ≡ sum_of (map c (up_from 0 n)) + (sum_of (map c (up_from n m)) + sum_of (map c (up_from (n + m) (length (units amounts)))))
  three_sums c =
      legs_sum p t amounts path c (order_circuit p ok t amounts h path paths).each_once
      ∙ ap (λ z. sum_of (map c (up_from 0 n)) + z)
      (ap (λ z. sum_of (map c (up_from n z))) (length-append t (units amounts))
      ∙ ap (λ z. sum_of (map c z)) (up_from_append n m (length (units amounts)))
      ∙ sum_map_append c (up_from n m) (up_from (n + m) (length (units amounts))))

  ends_at : (k : ℕ) → k < length (others p t amounts)
      → (tail (n + k) ≡ (get_or (others p t amounts) k no_link).tail) × (head (n + k) ≡ (get_or (others p t amounts) k no_link).head)
  unfolding leg_tails leg_heads
  ends_at k l = (at_other p t amounts (λ l. l.tail) k l, at_other p t amounts (λ l. l.head) k l)

  module _ (i j : ℕ) where
    of_links : ℕ → ℕ
    of_links e = how_often i j (link_of (leg e))

    of_units : ℕ → ℕ
    of_units e = how_often i j (unit_of (leg e))

    -- a leg for the kth link, and for the kth unit
    link_at_lem : (k : ℕ) → k < m → of_links (n + k) ≡ how_often i j (get_or t k no_link ∷ [])
    unfolding of_links link_of
    link_at_lem k l =
        let s = length-append t (units amounts) in
        let e = ends_at k (omega arith) in
        let g : get_or (others p t amounts) k no_link ≡ get_or t k no_link = get_or-append t (units amounts) no_link k l in
        ap (λ x. how_often i j (link_of x)) (leg_link (n + k) (omega arith) (omega arith))
        ∙ ap₂ (λ x y. how_often i j (record { tail = x; head = y } ∷ [])) e.0 e.1
        ∙ ap (λ x. how_often i j (x ∷ [])) g

    unit_at : (k : ℕ) → k < length (units amounts) → of_units (n + m + k) ≡ how_often i j (get_or (units amounts) k no_link ∷ [])
    unfolding of_units unit_of
    unit_at k l =
        let s = length-append t (units amounts) in
        let q : n + m + k ≡ n + (m + k) = omega arith in
        let e = ends_at (m + k) (omega arith) in
        let g : get_or (others p t amounts) (m + k) no_link ≡ get_or (units amounts) k no_link = get_or-append-add t (units amounts) k
        no_link in
        ap (λ x. how_often i j (unit_of x)) (leg_unit (n + m + k) (omega arith))
        ∙ ap (λ z. how_often i j (record { tail = tail z; head = head z } ∷ [])) q
        ∙ ap₂ (λ x y. how_often i j (record { tail = x; head = y } ∷ [])) e.0 e.1
        ∙ ap (λ x. how_often i j (x ∷ [])) g

    no_link_lem : (e : ℕ) → (e < n) ⊎ (n + m ≤ e) → of_links e ≡ 0
    unfolding of_links link_of how_often
    no_link_lem e o =
        leg_cases (λ x. how_often i j (link_of x) ≡ 0) e (λ l. refl)
        (λ l g. elim o [ inl a ↦ absurd (omega arith) | inr a ↦ absurd (omega arith) ]) (λ l. refl)

    no_unit : (e : ℕ) → e < n + m → of_units e ≡ 0
    unfolding of_units unit_of how_often
    no_unit e o = leg_cases (λ x. how_often i j (unit_of x) ≡ 0) e (λ l. refl) (λ l g. refl) (λ l. absurd (omega arith))

    links_are : how_often i j (flat_map link_of (map leg (order p ok t amounts h path paths))) ≡ how_often i j t
    unfolding of_links
    links_are =
        let w = order p ok t amounts h path paths in
        let a = ap (how_often i j) (flat_map_lem leg link_of (λ e. link_of (leg e)) (λ e. refl) w) ∙ often_flat i j (λ e. link_of (leg e)) w
        ∙ three_sums of_links in
        let b = sum_le of_links 0 0 n (λ e l g. let z = no_link_lem e (inl (omega arith)) in omega arith) in
        let c = sum_by of_links (λ l. how_often i j (l ∷ [])) n t no_link link_at_lem ∙ often_sum i j t in
        let d = sum_le of_links 0 (n + m) (length (units amounts)) (λ e l g. let z = no_link_lem e (inr l) in omega arith) in
        omega arith

    units_are : Memᴰ i (required p) → Memᴰ j (required p)
        → how_often i j (flat_map unit_of (map leg (order p ok t amounts h path paths))) ≡ amount amounts i j
    unfolding of_units
    units_are mi mj =
        let w = order p ok t amounts h path paths in
        let a = ap (how_often i j) (flat_map_lem leg unit_of (λ e. unit_of (leg e)) (λ e. refl) w) ∙ often_flat i j (λ e. unit_of (leg e)) w
        ∙ three_sums of_units in
        let b = sum_le of_units 0 0 n (λ e l g. let z = no_unit e (omega arith) in omega arith) in
        let c = sum_le of_units 0 n m (λ e l g. let z = no_unit e (omega arith) in omega arith) in
        let d = sum_by of_units (λ l. how_often i j (l ∷ [])) (n + m) (units amounts) no_link unit_at ∙ often_sum i j (units amounts)
        ∙ often_weight i j (units amounts) ∙ units_pair p ok.vertices amounts h.between i j mi mj in
        omega arith

  -- ---- what a leg that is no required arc follows

  abbrev Follows : Leg → Type 0
  Follows (must_arc k) = Unit {0}
  Follows (for_link i j v) = IsLegPath p i j v
  Follows (for_unit i j v) = IsLegPath p i j v

  way_follows : (e : ℕ) → e < length (leg_tails p t amounts) → IsLegPath p (tail e) (head e) (way e)
  way_follows e l =
      let r = leg_at p ok t amounts h e l in
      let s = leg_ends p ok t amounts h r.1 in
      let f = (leg_path p ok t amounts h path paths e l).fewest_path in
      record {
        from = subst⁻¹ (λ z. Memᴰ z (required p)) r.2 s.0;
        to = subst⁻¹ (λ z. Memᴰ z (required p)) r.3 s.1;
        fewest_path = f;
        once = fewest_once p (tail e) (head e) (way e) f;
      }

  leg_follows : (e : ℕ) → e < length (leg_tails p t amounts) → Follows (leg e)
  leg_follows e l = leg_cases Follows e (λ g. tt) (λ g k. way_follows e l) (λ g. way_follows e l)

  pub is_laid : IsLaid p t (amount amounts) (drive_by path p t amounts)
  unfolding drive_by places_of
  is_laid = record {
    legs = map leg (order p ok t amounts h path paths);
    places = flat_map_lem leg places_of_leg (places p t amounts path) leg_places_lem (order p ok t amounts h path paths);
    must_arcs = must_arcs;
    links = links_are;
    units = units_are;
    link_paths = λ i j v g. follows g;
    unit_paths = λ i j v g. follows g;
  }
    where
      follows : {x : Leg} → Memᴰ x (map leg (order p ok t amounts h path paths)) → Follows x
      follows g =
          let r = map_mem leg (order p ok t amounts h path paths) g in
          subst⁻¹ Follows r.2 (leg_follows r.0 (order_lt p ok t amounts h path paths r.1))
