-- A turn, by its three kinds: what is held cannot be gone on from; it can, and trees are left; none is left. The
-- test for a tree is by the list of all trees.
use Rattle.std.specs.Prelude.{◌≡◌, refl, Bool, ◌&&◌, List, [], ◌∷◌, map, ℕ, ◌+◌, ◌-◌, ◌≤◌, ◌<◌, min, length, take, replicate, T, ltb}
use Rattle.std.proofs.Common.{sym, ap, ap₂, ◌∙◌, subst, arith, length-take, eqb→eq}
use Rattle.std.proofs.Math.Path.{subst⁻¹}
use Rattle.std.proofs.Math.Bool.{true, false}
use Rattle.std.proofs.Math.Option.{Option, none}
use borrow.Author.Tests.{eq-eqb, ne_eqb, lt-ltb, le-ltb, le-leb, lt-leb}
use Rattle.std.proofs.lemmas.List.{length-map}
use Rattle.std.proofs.Math.Seq.{take-append_seam}
use Rattle.residual_search.specs.Step.{arcs_of}
use Rattle.std.proofs.Math.Dec.{eqb, eqb_refl}
use Rattle.postman.specs.Plan.{Plan, WellFormed}
use Rattle.postman.specs.Link.{Link, joins}
use Rattle.postman.specs.Component.{component_count}
use Rattle.postman.specs.Arborescence.{IsArborescence, arborescences}
use Rattle.postman.specs.Balancing.{completion_cost}
use Rattle.postman.specs.PlanCall.{tried_count}
use Rattle.postman.specs.Laws.Tests.{same_test, and_both, and_parts, is_true, of_true}
use Rattle.postman.specs.Laws.Membership.{any_of_at, any_of_mem}
use Rattle.postman_laws.specs.Laws.Distance.{InPlan, bounded}
use Rattle.postman_laws.specs.Laws.Arborescence.{arborescences_mem, mem_arborescences}
use Rattle.tree_search.specs.declared.trees.Reached.{Reached}
use Rattle.tree_search.specs.declared.trees.Resumed.{Resumed}
use Rattle.tree_search.specs.Resumed.{links_by, held_after, IsResumed, HoldsTree}
use Rattle.postman.specs.Refusal.{is_good}
use Rattle.district_turn.specs.DistrictTurn.{same_links, is_tree, is_holding, is_resumable, reached_after, is_last, last_answer, last_sheet, turn_given, sheet_given, IsDistrictTurn}
use Rattle.district_turn.specs.declared.plan_turn.DistrictTurn.{DistrictTurn}
use Rattle.district_turn.specs.declared.plan_turn.DistrictTurn.TheVariants.{Stuck, Unfinished, Finished}
use Rattle.postman.specs.Steps.{Plannable}
use Rattle.required.specs.StepContracts.{IsLinks, IsComponents}
use Rattle.drive_legs.specs.Filled.{links_of}
use Rattle.drive_legs.specs.Laws.Laid.{links_tails, links_heads}
use Rattle.branches.specs.Links.{links_in}
use Rattle.multipliers.specs.Laws.Lay.{arcs_links}
use Rattle.drive_legs.specs.Drive.{written}
use Rattle.multipliers.specs.Drive.{tree_drive}
use Rattle.solution.specs.declared.Planned.{Planned}
use Rattle.solution.specs.Concluded.{concluded}
use Rattle.tree_search.specs.Laws.BestTree.{tree_small}
use Rattle.tree_search.specs.Laws.Resumed.{HoldsCost, on_priced}
use Rattle.tree_check.specs.Tree.{IsHeldTree}
use Rattle.held_file.specs.Padded.{padded}
use Rattle.tree_check.specs.Laws.Tree.{Says}
use Rattle.district_turn.specs.Laws.HeldTree.{sound, passes}

-- ---- a tree, by the list of all trees

same_refl : (t : List Link) → T (same_links t t)
unfolding same_links
same_refl [] = tt
same_refl (l ∷ t) =
    and_both (joins l.tail l.head l) (same_links t t)
    (and_both (eqb l.tail l.tail) (eqb l.head l.head) (eqb_refl l.tail) (eqb_refl l.head)) (same_refl t)

same_is : (t u : List Link) → T (same_links t u) → t ≡ u
unfolding same_links
same_is [] [] s = refl
same_is [] (m ∷ u) s = absurd s
same_is (l ∷ t) [] s = absurd s
same_is (l ∷ t) (m ∷ u) s =
    let a = and_parts (joins m.tail m.head l) (same_links t u) s in
    let b = and_parts (eqb l.tail m.tail) (eqb l.head m.head) a.0 in
    let et = eqb→eq l.tail m.tail b.0 in
    let eh = eqb→eq l.head m.head b.1 in
    let e = same_is t u a.1 in
    λ i. record { tail = et i; head = eh i } ∷ e i

pub is_arborescence : (p : Plan) (t : List Link) → T (is_tree p t) → IsArborescence p t
unfolding is_tree
is_arborescence p t h = let x = any_of_at (same_links t) (arborescences p) h in
    subst⁻¹ (IsArborescence p) (same_is t x.0 x.2) (arborescences_mem p x.1)

pub of_arborescence : (p : Plan) (t : List Link) → InPlan p → IsArborescence p t → T (is_tree p t)
unfolding is_tree
of_arborescence p t ok a = any_of_mem (same_links t) (mem_arborescences p ok a) (same_refl t)

-- the test over the arrays is that test
pub tested : (p : Plan) (w : WellFormed p) (flags : List Bool) (of : List ℕ) (k : ℕ) → IsLinks p flags → IsComponents p of k → k ≤ 8
    → 1 ≤ k → (ts hs : List ℕ) → length ts ≡ 8 → length hs ≡ 8
    → (b : Bool) → Says b (IsHeldTree flags of ts hs k) → b ≡ is_tree p (links_in (component_count p - 1) ts hs)
tested p w flags of k hl hc few one ts hs lt lh b h =
    let m = component_count p - 1 in
    let e = arcs_links (take m ts) (take m hs) in
    same_test b (is_tree p (links_in m ts hs))
    (λ t. of_arborescence p (links_in m ts hs) (bounded w).ends
    (subst⁻¹ (IsArborescence p) e (sound p w flags of k hl hc few one ts hs lt lh (h.0 (is_true t)))))
    (λ t. of_true
    (h.1 (passes p w flags of k hl hc few one ts hs lt lh (subst (IsArborescence p) e (is_arborescence p (links_in m ts hs) t)))))

-- ---- what is held

module _ (p : Plan) (g : Reached) where
  pub holding_first : g.tried ≡ 0 → is_holding p g ≡ true
  unfolding is_holding
  holding_first e = let t : eqb g.tried 0 ≡ true = eq-eqb g.tried 0 e in rw t

  pub holding_later : (g.tried ≡ 0 → ⊥) → is_holding p g ≡ (is_tree p (links_by p g) && eqb g.cost (completion_cost p (links_by p g)))
  unfolding is_holding
  holding_later o = let t : eqb g.tried 0 ≡ false = ne_eqb g.tried 0 o in rw t

  pub held_priced : (n : ℕ) → is_holding p g ≡ true → 1 ≤ g.tried
      → IsArborescence p (links_by p g) × (g.cost ≡ completion_cost p (links_by p g))
  held_priced n h o =
      let x = and_parts (is_tree p (links_by p g)) (eqb g.cost (completion_cost p (links_by p g)))
      (of_true (sym (holding_later (λ e. (let q = e in absurd (omega arith)))) ∙ h)) in
      (is_arborescence p (links_by p g) x.0, eqb→eq g.cost (completion_cost p (links_by p g)) x.1)

pub and_no : (b c : Bool) → c ≡ false → (b && c) ≡ false
and_no true c e = e
and_no false c e = refl

pub and_first : (b c : Bool) → b ≡ false → (b && c) ≡ false
and_first b c e = ap (λ (x : Bool). x && c) e

pub and_yes : (b c : Bool) → b ≡ true → c ≡ true → (b && c) ≡ true
and_yes b c e f = ap (λ (x : Bool). x && c) e ∙ f

-- ---- the three kinds of turn

module _ (p : Plan) (budget : ℕ) (g : Reached) (can : Bool) (old : List ℕ) where
  pub is_stuck : can ≡ false → IsDistrictTurn p budget g can old old Stuck
  is_stuck c = record {
    turned = ap (λ (b : Bool). turn_given p budget g b (is_last p budget g)) (sym c);
    sheet = ap (λ (b : Bool). sheet_given p budget g b (is_last p budget g) old) (sym c);
  }

  pub is_going : can ≡ true → is_last p budget g ≡ false → (x : Reached) → x ≡ reached_after p budget g
      → IsDistrictTurn p budget g can old old (Unfinished x)
  is_going c l x e = record {
    turned = ap Unfinished e ∙ ap₂ (turn_given p budget g) (sym c) (sym l);
    sheet = ap₂ (λ (b d : Bool). sheet_given p budget g b d old) (sym c) (sym l);
  }

  pub is_last_lem : can ≡ true → is_last p budget g ≡ true → (x : Planned) → x ≡ last_answer p budget g
      → (new : List ℕ) → new ≡ last_sheet p budget g old
      → IsDistrictTurn p budget g can old new (Finished x)
  is_last_lem c l x s new w = record {
    turned = ap Finished s ∙ ap₂ (turn_given p budget g) (sym c) (sym l);
    sheet = w ∙ ap₂ (λ (b d : Bool). sheet_given p budget g b d old) (sym c) (sym l);
  }

-- a plan that is not refused
pub as_good : (p : Plan) (budget : ℕ) (g : Reached) (o : Option ℕ) (can : Bool) (old new : List ℕ) (r : DistrictTurn) → o ≡ none
    → IsDistrictTurn p budget g can old new r → IsDistrictTurn p budget g (is_good o && can) old new r
unfolding is_good
as_good p budget g o can old new r e h = subst⁻¹ (λ (o : Option ℕ). IsDistrictTurn p budget g (is_good o && can) old new r) e h

-- ---- what the search gives

module _ (p : Plan) (ok : Plannable p) (few : component_count p ≤ 8) (budget : ℕ) (one : 1 ≤ budget) (g : Reached) (r : Resumed)
    (h : IsResumed p budget g r) where
  pub none_left : r.total ≤ g.tried → is_resumable p budget g ≡ false
  none_left l = let e = h.total in
      and_no (is_holding p g) (ltb g.tried (tried_count p budget)) (le-ltb g.tried (tried_count p budget) (omega arith))

  pub some_left : is_holding p g ≡ true → g.tried < r.total → is_resumable p budget g ≡ true
  some_left i l = let e = h.total in
      and_yes (is_holding p g) (ltb g.tried (tried_count p budget)) i (lt-ltb g.tried (tried_count p budget) (omega arith))

  pub going_on : g.tried < r.total → r.tried < r.total → is_last p budget g ≡ false
  going_on l m = let a = h.total in let b = h.tried in lt-leb (tried_count p budget) (g.tried + 1000) (omega arith)

  pub at_end : g.tried < r.total → r.total ≤ r.tried → is_last p budget g ≡ true
  at_end l m = let a = h.total in let b = h.tried in le-leb (tried_count p budget) (g.tried + 1000) (omega arith)

  -- a tree and its cost
  pub priced_after : is_holding p g ≡ true → g.tried < r.total → HoldsCost p ok (held_after p budget g)
  priced_after i l =
      let a = h.total in
      on_priced p ok few g.cost (links_by p g) g.tried (min 1000 (tried_count p budget - g.tried)) (omega arith) (held_priced p g 0 i)

  abbrev m : ℕ
  m = component_count p - 1

  abbrev links : List Link
  links = (held_after p budget g).links

  module _ (lt : length r.tails ≡ 8) (lh : length r.heads ≡ 8) where
    same_size : length (take m r.heads) ≡ length (take m r.tails)
    same_size = let a = length-take m r.tails in let b = length-take m r.heads in omega arith

    links_of_lem : links_of (take m r.tails) (take m r.heads) ≡ links
    links_of_lem = sym (arcs_links (take m r.tails) (take m r.heads)) ∙ h.links_are

    pub after_tree : is_holding p g ≡ true → g.tried < r.total → HoldsTree p r.tails r.heads
    after_tree i l = record {
      tails_fit = omega arith;
      heads_fit = omega arith;
      tree = record { same = same_size; tree = subst⁻¹ (IsArborescence p) links_of_lem (priced_after i l).0 };
    }

    pub after_small : is_holding p g ≡ true → g.tried < r.total → r.cost ≤ 4398046511104
    after_small i l =
        let x = priced_after i l in
        let a = tree_small p ok few links x.0 in
        let b = x.1 in
        let c = h.cost_is in
        omega arith

    pub held_after_lem : (n : ℕ) → n ≡ m → (x : Reached)
        → (x.cost ≡ r.cost) × (x.tails ≡ padded 8 0 (take n r.tails)) × (x.heads ≡ padded 8 0 (take n r.heads))
        × (x.tried ≡ r.tried)
        → x ≡ reached_after p budget g
    held_after_lem n e x k =
        let ec = k.0 ∙ h.cost_is in
        let et = k.1 ∙ ap (λ j. padded 8 0 (take j r.tails)) e
        ∙ ap (padded 8 0)
        (sym (links_tails (take m r.tails) (take m r.heads) same_size) ∙ ap (map (λ (l : Link). l.tail)) links_of_lem) in
        let eh = k.2 ∙ ap (λ j. padded 8 0 (take j r.heads)) e
        ∙ ap (padded 8 0)
        (sym (links_heads (take m r.tails) (take m r.heads) same_size) ∙ ap (map (λ (l : Link). l.head)) links_of_lem) in
        let en = k.3 ∙ h.tried in
        λ i. record { cost = ec i; tails = et i; heads = eh i; tried = en i }

  -- what is answered, and what is written
  pub answered_after : concluded p (links_in m r.tails r.heads) r.cost r.total r.whole ≡ last_answer p budget g
  answered_after = λ i. concluded p (h.links_are i) (h.cost_is i) (h.total i) (h.whole i)

  pub written_after : (old : List ℕ) → written (tree_drive p (links_in m r.tails r.heads)) old ≡ last_sheet p budget g old
  written_after old = ap (λ (t : List Link). written (tree_drive p t) old) h.links_are

-- ---- links that are kept are held

arcs_again : (ls : List Link) → arcs_of (map (λ (l : Link). l.tail) ls) (map (λ (l : Link). l.head) ls) ≡ ls
unfolding arcs_of
arcs_again [] = refl
arcs_again (l ∷ ls) = ap (λ (r : List Link). l ∷ r) (arcs_again ls)

pub padded_links : (ls : List Link) (n : ℕ) → length ls ≡ n
    → links_in n (padded 8 0 (map (λ (l : Link). l.tail) ls)) (padded 8 0 (map (λ (l : Link). l.head) ls)) ≡ ls
padded_links ls n e =
    let ts = map (λ (l : Link). l.tail) ls in
    let hs = map (λ (l : Link). l.head) ls in
    let a : take n (padded 8 0 ts) ≡ ts =
    ap (λ k. take k (padded 8 0 ts)) (sym (length-map ls (λ (l : Link). l.tail) ∙ e))
    ∙ take-append_seam ts (replicate (8 - length ts) 0) in
    let b : take n (padded 8 0 hs) ≡ hs =
    ap (λ k. take k (padded 8 0 hs)) (sym (length-map ls (λ (l : Link). l.head) ∙ e))
    ∙ take-append_seam hs (replicate (8 - length hs) 0) in
    ap₂ arcs_of a b ∙ arcs_again ls
