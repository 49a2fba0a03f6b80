-- A walk of the plan is one of the plan renumbered, between the new numbers of its ends, and the other way round; so a list of arc numbers
-- is a drive of one exactly when it is one of the other. Its cost goes by the arcs' numbers alone. By induction on the walk.
use Rattle.std.specs.Prelude.{◌≡◌, ◌↔◌, cond, length, T, eqb}
use Rattle.std.proofs.Math.Path.{refl, ap₂, subst⁻¹}
use Rattle.std.proofs.Common.{sym, ap, ◌∙◌, subst, arith}
use Rattle.std.proofs.Math.Bool.{not}
use mathlib.Core.List.{List, [], ◌∷◌, map}
use Prim.Native.Nat.{ℕ, ◌+◌, ◌<◌}
use Rattle.std.proofs.lemmas.List.{length-map}
use Rattle.postman.specs.Lists.{select, any_of}
use Rattle.postman.specs.Plan.{Arc, Plan, is_open, is_required_arc, arc_at, required_numbers}
use Rattle.postman.specs.Drive.{IsWalk, walk_cost, IsDrive, drive_cost_due, drive_cost}
use Rattle.postman.specs.FewestPath.{IsFewestPath}
use Rattle.postman.specs.Renumbering.{IsNumbering, renumbered_arc, renumbered}
use Rattle.postman.proofs.Numbering.{one_to_one}
use Rattle.postman_laws.specs.Laws.Renumbering.{arc_number, arc_same, renumbered_numbers}

-- ---- walks

module _ (arcs : List Arc) (π : ℕ → ℕ) where
  abbrev others : List Arc
  others = map (renumbered_arc π) arcs

  walk_renumbered : (i j : ℕ) (w : List ℕ) → IsWalk arcs i w j → IsWalk others (π i) w (π j)
  walk_renumbered i j [] h = ap π h
  walk_renumbered i j (k ∷ w) h =
      let e = length-map arcs (renumbered_arc π) in
      let l = h.0 in
      subst⁻¹ (λ (a : Arc). (k < length others) × T (is_open a) × (a.tail ≡ π i) × IsWalk others a.head w (π j))
      (arc_number π arcs k h.0)
      (omega arith, h.1, ap π h.2, walk_renumbered (arc_at arcs k).head j w h.3)

  pub cost_renumbered : (w : List ℕ) → walk_cost others w ≡ walk_cost arcs w
  cost_renumbered [] = refl
  cost_renumbered (k ∷ w) = ap₂ ◌+◌ (arc_same π (λ a. a.cost) (λ a. refl) arcs k) (cost_renumbered w)

  due_renumbered : (due w : List ℕ) → drive_cost_due others due w ≡ drive_cost_due arcs due w
  unfolding drive_cost_due
  due_renumbered due [] = refl
  due_renumbered due (k ∷ w) =
      let rest = select (λ j. not (eqb k j)) due in
      ap₂ (cond (any_of (eqb k) due))
      (ap₂ ◌+◌ (arc_same π (λ a. a.service) (λ a. refl) arcs k) (due_renumbered rest w))
      (ap₂ ◌+◌ (arc_same π (λ a. a.cost) (λ a. refl) arcs k) (due_renumbered due w))

  module _ {n : ℕ} {σ : ℕ → ℕ} (number : IsNumbering n π σ) where
    walk_back_lem : (i j : ℕ) (w : List ℕ) → IsWalk others (π i) w (π j) → IsWalk arcs i w j
    walk_back_lem i j [] h = one_to_one number h
    walk_back_lem i j (k ∷ w) h =
        let e = length-map arcs (renumbered_arc π) in
        let m = h.0 in
        let l : k < length arcs = omega arith in
        let r = subst (λ (a : Arc). T (is_open a) × (a.tail ≡ π i) × IsWalk others a.head w (π j)) (arc_number π arcs k l)
        (h.1, h.2, h.3) in
        (l, r.0, one_to_one number r.1, walk_back_lem (arc_at arcs k).head j w r.2)

    -- a walk of one exactly when of the other
    pub walks : (i j : ℕ) (w : List ℕ) → IsWalk others (π i) w (π j) ↔ IsWalk arcs i w j
    walks i j w = (walk_back_lem i j w, walk_renumbered i j w)

-- ---- drives, and the path of fewest arcs

pub drive_cost_lem : (p : Plan) (π : ℕ → ℕ) (w : List ℕ) → drive_cost (renumbered p π) w ≡ drive_cost p w
unfolding drive_cost
drive_cost_lem p π w =
    due_renumbered p.arcs π (required_numbers (renumbered p π)) w
    ∙ ap (λ (due : List ℕ). drive_cost_due p.arcs due w) (renumbered_numbers p π)

module _ (p : Plan) {π σ : ℕ → ℕ} (h : IsNumbering p.n π σ) where
  abbrev q : Plan
  q = renumbered p π

  must_same : (k : ℕ) → is_required_arc (arc_at q.arcs k) ≡ is_required_arc (arc_at p.arcs k)
  must_same k = arc_same π is_required_arc (λ a. refl) p.arcs k

  pub drives : (w : List ℕ) → IsDrive q w ↔ IsDrive p w
  drives w = (back, into)
    where
      back : IsDrive q w → IsDrive p w
      back t =
          let e = length-map p.arcs (renumbered_arc π) in record {
            start = σ t.start;
            leads_back = walk_back_lem p.arcs π h (σ t.start) (σ t.start) w
                (subst⁻¹ (λ v. IsWalk q.arcs v w v) (h.forth t.start) t.leads_back);
            covers = λ k l m. t.covers k (omega arith) (subst⁻¹ T (must_same k) m);
          }

      into : IsDrive p w → IsDrive q w
      into t =
          let e = length-map p.arcs (renumbered_arc π) in record {
            start = π t.start;
            leads_back = walk_renumbered p.arcs π t.start t.start w t.leads_back;
            covers = λ k l m. t.covers k (omega arith) (subst T (must_same k) m);
          }

  -- the lowest list among paths of fewest arcs goes by the arcs' numbers, which are the same
  pub fewest_back : (i j : ℕ) (w : List ℕ) → IsFewestPath q (π i) (π j) w → IsFewestPath p i j w
  fewest_back i j w f =
      let cost : (v : List ℕ) → walk_cost q.arcs v ≡ walk_cost p.arcs v = cost_renumbered p.arcs π in
      let into : (v : List ℕ) → IsWalk p.arcs i v j → IsWalk q.arcs (π i) v (π j) = walk_renumbered p.arcs π i j in
      record {
        walk = walk_back_lem p.arcs π h i j w f.walk;
        cheapest = λ v g. let a = f.cheapest v (into v g) in let b = cost v in let c = cost w in omega arith;
        fewest = λ v g e. f.fewest v (into v g) (cost v ∙ e ∙ sym (cost w));
        lowest = λ v g e l. f.lowest v (into v g) (cost v ∙ e ∙ sym (cost w)) l;
      }
