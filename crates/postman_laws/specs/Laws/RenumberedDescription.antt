-- A drive that is laid for the plan renumbered is laid for the plan, from the same legs between the vertices that had the new numbers: must
-- arcs and paths are lists of arc numbers, which are the same, and a path of fewest arcs stays one. So tree and amounts are carried back
-- with it.
use Rattle.std.specs.Prelude.{◌≡◌, ℕ, get_or, take}
use Rattle.std.proofs.Math.Path.{refl, sym, ap, ap₂, subst⁻¹}
use Rattle.std.proofs.Common.{◌∙◌, subst}
use Rattle.std.proofs.Math.Bool.{◌&&◌}
use mathlib.Core.List.{List, [], ◌∷◌, map, flat_map, Memᴰ}
use Rattle.std.proofs.Math.ListN.{length, length-map}
use Rattle.std.proofs.Math.Dec.{eqb}
use Rattle.postman.specs.Lists.{select, occurrences}
use Rattle.postman.specs.Plan.{Plan}
use Rattle.postman.specs.Required.{required}
use Rattle.postman.specs.Link.{Link, joins}
use Rattle.postman.specs.Arborescence.{arborescences}
use Rattle.postman.specs.Balancing.{imbalance, IsBalancing, least_balancing, completion_cost}
use Rattle.postman.specs.Description.{Leg, must_arc, for_link, for_unit, places_of_leg, must_arc_of, link_of, unit_of, how_often, IsLegPath, IsLaid}
use Rattle.postman.specs.PlanCall.{tried_count, IsAnswerDrive}
use Rattle.postman.specs.Renumbering.{IsNumbering, renumbered, renumbered_link, renumbered_tree, IsRenumberedDrive}
use Rattle.postman.specs.Laws.Membership.{mem_map}
use Rattle.postman_laws.specs.Laws.Lists.{flat_map_map, flat_map_cong, map_flat_map, select_map}
use Rattle.postman_laws.specs.Laws.FewestPath.{fewest_once}
use Rattle.postman.proofs.Numbering.{eqb_number}
use Rattle.postman_laws.specs.Laws.Renumbering.{renumbered_numbers}
use Rattle.postman_laws.specs.Laws.RenumberedDrive.{drives, drive_cost_lem, fewest_back}
use Rattle.postman_laws.specs.Laws.RenumberedComponents.{requireds}
use Rattle.postman_laws.specs.Laws.RenumberedBalancing.{balancing_renumbered, completion_renumbered, amounts_back, amounts_cost}

-- ---- legs

renumbered_leg : (ℕ → ℕ) → Leg → Leg
renumbered_leg π (must_arc k) = must_arc k
renumbered_leg π (for_link i j w) = for_link (π i) (π j) w
renumbered_leg π (for_unit i j w) = for_unit (π i) (π j) w

module _ (π : ℕ → ℕ) (legs : List Leg) where
  -- what a leg has that is no vertex is the same
  legs_same : {B : Type 0} (f : Leg → List B) → ((l : Leg) → f (renumbered_leg π l) ≡ f l)
      → flat_map f (map (renumbered_leg π) legs) ≡ flat_map f legs
  legs_same f e = flat_map_map f (renumbered_leg π) legs ∙ flat_map_cong (λ l. f (renumbered_leg π l)) f legs (λ l m. e l)

  -- and its pair of vertices is renumbered
  legs_pairs : (f : Leg → List Link) → ((l : Leg) → f (renumbered_leg π l) ≡ map (renumbered_link π) (f l))
      → flat_map f (map (renumbered_leg π) legs) ≡ renumbered_tree π (flat_map f legs)
  legs_pairs f e =
      flat_map_map f (renumbered_leg π) legs ∙ flat_map_cong (λ l. f (renumbered_leg π l)) (λ l. map (renumbered_link π) (f l)) legs
      (λ l m. e l)
      ∙ sym (map_flat_map f (renumbered_link π) legs)

places_same : (π : ℕ → ℕ) (l : Leg) → places_of_leg (renumbered_leg π l) ≡ places_of_leg l
unfolding places_of_leg renumbered_leg
places_same π (must_arc k) = refl
places_same π (for_link i j w) = refl
places_same π (for_unit i j w) = refl

must_same : (π : ℕ → ℕ) (l : Leg) → must_arc_of (renumbered_leg π l) ≡ must_arc_of l
unfolding must_arc_of renumbered_leg
must_same π (must_arc k) = refl
must_same π (for_link i j w) = refl
must_same π (for_unit i j w) = refl

link_renumbered : (π : ℕ → ℕ) (l : Leg) → link_of (renumbered_leg π l) ≡ map (renumbered_link π) (link_of l)
unfolding link_of renumbered_leg
link_renumbered π (must_arc k) = refl
link_renumbered π (for_link i j w) = refl
link_renumbered π (for_unit i j w) = refl

unit_renumbered : (π : ℕ → ℕ) (l : Leg) → unit_of (renumbered_leg π l) ≡ map (renumbered_link π) (unit_of l)
unfolding unit_of renumbered_leg
unit_renumbered π (must_arc k) = refl
unit_renumbered π (for_link i j w) = refl
unit_renumbered π (for_unit i j w) = refl

-- ---- there and back

module _ {n : ℕ} {π σ : ℕ → ℕ} (h : IsNumbering n π σ) where
  tree_again : (t : List Link) → renumbered_tree π (renumbered_tree σ t) ≡ t
  tree_again [] = refl
  tree_again (l ∷ t) = ap₂ ◌∷◌ (ap₂ (λ (i j : ℕ). record { tail = i; head = j }) (h.forth l.tail) (h.forth l.head)) (tree_again t)

  legs_again : (legs : List Leg) → map (renumbered_leg π) (map (renumbered_leg σ) legs) ≡ legs
  unfolding renumbered_leg
  legs_again [] = refl
  legs_again (must_arc k ∷ legs) = ap (λ (l : List Leg). must_arc k ∷ l) (legs_again legs)
  legs_again (for_link i j w ∷ legs) = ap₂ ◌∷◌ (ap₂ (λ (a b : ℕ). for_link a b w) (h.forth i) (h.forth j)) (legs_again legs)
  legs_again (for_unit i j w ∷ legs) = ap₂ ◌∷◌ (ap₂ (λ (a b : ℕ). for_unit a b w) (h.forth i) (h.forth j)) (legs_again legs)

  leg_back : {l : Leg} (legs : List Leg) → Memᴰ l (map (renumbered_leg σ) legs) → Memᴰ (renumbered_leg π l) legs
  leg_back {l} legs m = subst (λ (ls : List Leg). Memᴰ (renumbered_leg π l) ls) (legs_again legs) (mem_map (renumbered_leg π) m)

  often_back : (i j : ℕ) (ls : List Link) → how_often i j (renumbered_tree σ ls) ≡ how_often (π i) (π j) ls
  unfolding how_often
  often_back i j ls =
      ap length (select_map (joins i j) (joins (π i) (π j)) (renumbered_link σ) ls
      (λ l m. ap₂ ◌&&◌ (turned l.tail i) (turned l.head j)))
      ∙ length-map (select (joins (π i) (π j)) ls) (renumbered_link σ)
    where
      turned : (v i : ℕ) → eqb (σ v) i ≡ eqb v (π i)
      turned v i = sym (eqb_number h (σ v) i) ∙ ap (λ z. eqb z (π i)) (h.forth v)

-- ---- the drive

module _ (p : Plan) {π σ : ℕ → ℕ} (h : IsNumbering p.n π σ) where
  abbrev q : Plan
  q = renumbered p π

  path_back : (i j : ℕ) (w : List ℕ) → IsLegPath q (π i) (π j) w → IsLegPath p i j w
  path_back i j w l =
      let f = fewest_back p h i j w l.fewest_path in
      record { from = (requireds p h i).0 l.from; to = (requireds p h j).0 l.to; fewest_path = f; once = fewest_once p i j w f }

  pub laid_back : (t : List Link) (f : ℕ → ℕ → ℕ) (w : List ℕ) → IsLaid q t f w → IsLaid p (renumbered_tree σ t) (λ i j. f (π i) (π j)) w
  unfolding renumbered_leg
  laid_back t f w l =
      let legs = l.legs in record {
        legs = map (renumbered_leg σ) legs;
        places = legs_same σ legs places_of_leg (places_same σ) ∙ l.places;
        must_arcs = λ k. ap (occurrences k) (legs_same σ legs must_arc_of (must_same σ)) ∙ l.must_arcs k
            ∙ ap (occurrences k) (renumbered_numbers p π);
        links = λ i j. ap (how_often i j) (legs_pairs σ legs link_of (link_renumbered σ)) ∙ often_back h i j (flat_map link_of legs)
            ∙ l.links (π i) (π j) ∙ sym (often_back h i j t);
        units = λ i j a b. ap (how_often i j) (legs_pairs σ legs unit_of (unit_renumbered σ)) ∙ often_back h i j (flat_map unit_of legs)
            ∙ l.units (π i) (π j) ((requireds p h i).1 a) ((requireds p h j).1 b);
        link_paths = λ i j v m. path_back i j v (l.link_paths (π i) (π j) v (leg_back h legs m));
        unit_paths = λ i j v m. path_back i j v (l.unit_paths (π i) (π j) v (leg_back h legs m));
      }

  pub drive_back : (budget : ℕ) (w : List ℕ) → IsAnswerDrive q budget w → IsRenumberedDrive p π budget w
  drive_back budget w a =
      let t = renumbered_tree σ a.tree in
      let e = tree_again h a.tree in
      record {
        drive = (drives p h w).0 a.drive;
        costs = sym (drive_cost_lem p π w) ∙ a.costs;
        nonempty = a.nonempty;
        first = a.first ∙ ap (λ (ks : List ℕ). get_or ks 0 0) (renumbered_numbers p π);
        short = a.short;
        tree = t;
        tried = subst⁻¹ (λ (s : List Link). Memᴰ s (take (tried_count q budget) (arborescences q))) e a.tried;
        least = sym (completion_renumbered p h t) ∙ ap (λ (s : List Link). completion_cost q s) e ∙ a.least;
        amounts = λ i j. a.amounts (π i) (π j);
        balances = amounts_back p h a.amounts t
            (subst⁻¹ (λ (s : List Link). IsBalancing (required q) (imbalance q s) a.amounts) e a.balances);
        balances_least = sym (amounts_cost p h a.amounts) ∙ a.balances_least ∙ ap (least_balancing q) (sym e)
            ∙ balancing_renumbered p h t;
        laid = laid_back a.tree a.amounts w a.laid;
      }
