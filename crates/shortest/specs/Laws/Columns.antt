-- Rows of costs from all sources side by side: place 64 v + i is in the row from i alone, so that a store changes one row, in one entry.
use Rattle.std.specs.Prelude.{◌≡◌, refl, Bool, true, false, nat_eq, List, [], ◌∷◌, ◌++◌, map, ℕ, ◌+◌, ◌*◌, ◌≤◌, ◌<◌, T, eqb, length, set, take, replicate}
use Rattle.std.proofs.Common.{sym, ap₂, ◌∙◌, zero-add, arith, eq-eqb, eqb→eq, length-set, get_or-set_same, get_or-set_other, ext_get_or}
use Rattle.std.proofs.Math.Path.{ap, subst⁻¹}
use Rattle.std.proofs.Math.Decide.{ℕ_discrete}
use Rattle.std.proofs.Math.ListN.{get_or, length-map}
use Rattle.std.proofs.lemmas.List.{length-replicate, get_or-replicate}
use Rattle.std.proofs.lemmas.Cmp.{nat_list_eq_equiv}
use lib.Pointwise.{pointwise}
use Rattle.postman.specs.Lists.{below}
use Rattle.postman.specs.Laws.Membership.{length_below, get_d_map_up_from, all_of_mem, all_of_at, mem_below, below_mem}
use Rattle.postman.specs.Laws.Tests.{is_true, is_false}
use Rattle.postman.specs.Plan.{Arc, WellFormed}
use Rattle.postman.specs.Distance.{no_path}
use Rattle.plan.specs.declared.Plan.{Plan as PlanRecord}
use Rattle.plan.specs.Records.{plan_value, arc_value, record_at, zero_record}
use Rattle.plan.specs.Laws.Records.{arcs_more, walked_below, walked_record}
use Rattle.shortest.specs.Weight.{heavy}
use Rattle.shortest.specs.Relaxation.{weight, shorter, relax_arc, relax_arcs}
use Rattle.shortest.specs.Columns.{row_from, relax_by, are_same}
use Rattle.shortest.specs.Laws.Relaxation.{relax_arcs_snoc}

module _ (c : List ℕ) (i : ℕ) where
  pub row_size : length (row_from c i) ≡ 64
  unfolding row_from
  row_size = length-map (below 64) (λ v. get_or c (v * 64 + i) 0) ∙ length_below 64

  pub row_at : (v : ℕ) → v < 64 → get_or (row_from c i) v 0 ≡ get_or c (v * 64 + i) 0
  unfolding row_from below
  row_at v l = get_d_map_up_from (λ v. get_or c (v * 64 + i) 0) 0 64 v 0 l ∙ ap (λ n. get_or c (n * 64 + i) 0) (zero-add v)

  -- a row, by its entries
  pub row_by : (row : List ℕ) → length row ≡ 64 → ((v : ℕ) → v < 64 → get_or c (v * 64 + i) 0 ≡ get_or row v 0) → row_from c i ≡ row
  row_by row l h = ext_get_or 0 (row_from c i) row (row_size ∙ sym l) (λ v m. let s = row_size in row_at v (omega arith)
      ∙ h v (omega arith))

-- a store in place 64 h + i: the row from i, and every other row
module _ (c : List ℕ) (h i x : ℕ) (long : length c ≡ 4096) (below-h : h < 64) (below-i : i < 64) where
  stored_here : row_from (set c (h * 64 + i) x) i ≡ set (row_from c i) h x
  stored_here =
      let s = row_size c i in
      row_by (set c (h * 64 + i) x) i (set (row_from c i) h x) (length-set (row_from c i) h x ∙ s) (λ v l. elim (ℕ_discrete v h) [
        | yes e ↦ rw e (get_or-set_same c (h * 64 + i) x 0 (omega arith) ∙ sym (get_or-set_same (row_from c i) h x 0 (omega arith)))
        | no n ↦ get_or-set_other c (h * 64 + i) (v * 64 + i) x 0 (λ e. n (omega arith))
            ∙ sym (get_or-set_other (row_from c i) h v x 0 n ∙ row_at c i v l)
      ])

  stored_there : (j : ℕ) → j < 64 → (j ≡ i → ⊥) → row_from (set c (h * 64 + i) x) j ≡ row_from c j
  stored_there j l n =
      row_by (set c (h * 64 + i) x) j (row_from c j) (row_size c j)
      (λ v m. get_or-set_other c (h * 64 + i) (v * 64 + j) x 0 (λ e. n (omega arith)) ∙ sym (row_at c j v m))

-- the rows before the ith are changed from g to f, the others are not yet
pub record Changed (g f : ℕ → List ℕ) (c : List ℕ) (i : ℕ) : Type 0 where
  pub few : i ≤ 64
  pub long : length c ≡ 4096
  pub done : (j : ℕ) → j < i → row_from c j ≡ f j
  pub left : (j : ℕ) → i ≤ j → j < 64 → row_from c j ≡ g j

module _ (g f : ℕ → List ℕ) (c : List ℕ) where
  pub changed_none : length c ≡ 4096 → ((j : ℕ) → j < 64 → row_from c j ≡ g j) → Changed g f c 0
  changed_none l e = record { few = omega arith; long = l; done = λ j m. absurd (omega arith); left = λ j m n. e j n }

  pub changed_more : (h i x : ℕ) → h < 64 → i < 64 → set (g i) h x ≡ f i → Changed g f c i → Changed g f (set c (h * 64 + i) x) (i + 1)
  changed_more h i x l m e s = record {
    few = omega arith;
    long = length-set c (h * 64 + i) x ∙ s.long;
    done = λ j n. elim (ℕ_discrete j i) [
      | yes q ↦ rw q (stored_here c h i x s.long l m ∙ ap (λ (r : List ℕ). set r h x) (s.left i (omega arith) m) ∙ e)
      | no q ↦ stored_there c h i x s.long l m j (omega arith) q ∙ s.done j (omega arith)
    ];
    left = λ j n o. stored_there c h i x s.long l m j o (λ q. omega arith) ∙ s.left j (omega arith) o;
  }

-- ---- an arc relaxed: what is stored, by the entries that are read
pub relaxed_store : (c c₀ : List ℕ) (t h w i x : ℕ) → t < 64 → h < 64 → row_from c i ≡ row_from c₀ i
    → x ≡ shorter (get_or c (t * 64 + i) 0) w (get_or c (h * 64 + i) 0)
    → set (row_from c₀ i) h x ≡ relax_by t h w (row_from c₀ i)
relaxed_store c c₀ t h w i x l m e f =
    ap (set (row_from c₀ i) h)
    (f ∙ ap₂ (λ a b. shorter a w b) (sym (row_at c i t l) ∙ ap (λ (r : List ℕ). get_or r t 0) e)
    (sym (row_at c i h m) ∙ ap (λ (r : List ℕ). get_or r h 0) e))

-- ---- rows that are relaxed by the first k arcs, and by one more
heavy_snoc : (xs : List Arc) (a : Arc) → map heavy (xs ++ a ∷ []) ≡ map heavy xs ++ heavy a ∷ []
heavy_snoc [] a = refl
heavy_snoc (x ∷ xs) a = ap (λ (ys : List Arc). heavy x ∷ ys) (heavy_snoc xs a)

pub relaxed_more : (r : PlanRecord) (ok : WellFormed (plan_value r)) (k : ℕ) → k < r.m → (row : List ℕ) {next new : List ℕ} (w : ℕ)
    → next ≡ relax_arcs (map heavy (take k (plan_value r).arcs)) row
    → w ≡ weight (heavy (record_at r.arcs k)) → new ≡ relax_by (record_at r.arcs k).tail (record_at r.arcs k).head w next
    → new ≡ relax_arcs (map heavy (take (k + 1) (plan_value r).arcs)) row
unfolding relax_arc
relaxed_more r ok k l row {next} {new} w e f g = rw (arcs_more r ok k l, heavy_snoc, relax_arcs_snoc, ← e) (rw f at g)

-- the same, where the first m records are gone over
pub relaxed_walk : (r : PlanRecord) (ok : WellFormed (plan_value r)) (n : ℕ) → n ≡ r.m → (k : ℕ) → k < length (take n r.arcs)
    → (row : List ℕ) {next new : List ℕ} (t h w : ℕ) → t ≡ (get_or (take n r.arcs) k zero_record).tail
    → h ≡ (get_or (take n r.arcs) k zero_record).head → w ≡ weight (heavy (arc_value (get_or (take n r.arcs) k zero_record)))
    → next ≡ relax_arcs (map heavy (take k (plan_value r).arcs)) row → new ≡ relax_by t h w next
    → new ≡ relax_arcs (map heavy (take (k + 1) (plan_value r).arcs)) row
relaxed_walk r ok n e k l row t h w p q s f g =
    let a = walked_record r ok n e k l in
    relaxed_more r ok k (walked_below r ok n e k l) row w f (rw a at s) (rw (p, q, a) at g)

-- rows all of whose entries are the same
same_rows : (a b : List ℕ) → ((x : ℕ) → x < 4096 → get_or a x 0 ≡ get_or b x 0) → (i : ℕ) → i < 64 → (v : ℕ) → v < 64
    → get_or (row_from a i) v 0 ≡ get_or (row_from b i) v 0
same_rows a b h i l v m = row_at a i v m ∙ h (v * 64 + i) (omega arith) ∙ sym (row_at b i v m)

-- arrays that are the same, and the first entry that differs
pub all_same : (a b : List ℕ) → ((x : ℕ) → x < 4096 → get_or a x 0 ≡ get_or b x 0) → true ≡ are_same a b
unfolding are_same
all_same a b h =
    sym (is_true (all_of_mem (λ x. eqb (get_or a x 0) (get_or b x 0)) (below 4096) (λ x m. subst⁻¹ T (eq-eqb _ _ (h x (below_mem m))) tt)))

pub one_differs : (a b : List ℕ) (x : ℕ) → x < 4096 → (get_or a x 0 ≡ get_or b x 0 → ⊥) → false ≡ are_same a b
unfolding are_same
one_differs a b x l h = sym (is_false (λ t. h (eqb→eq _ _ (all_of_at (λ x. eqb (get_or a x 0) (get_or b x 0)) (mem_below l) t))))

-- the library's test of two lists
pub same_test : (a b : List ℕ) → length a ≡ 4096 → length b ≡ 4096 → (x : Bool) → x ≡ pointwise nat_eq a b
    → (x ≡ true → a ≡ b) → x ≡ are_same a b
unfolding are_same
same_test a b m n true e h = all_same a b (λ x l. ap (λ (xs : List ℕ). get_or xs x 0) (h refl))
same_test a b m n false e h =
    sym (is_false (λ t.
    let f = ext_get_or 0 a b (m ∙ sym n)
    (λ i l. let k : i < 4096 = omega arith in eqb→eq _ _ (all_of_at (λ x. eqb (get_or a x 0) (get_or b x 0)) (mem_below k) t)) in
    subst⁻¹ T (e ∙ ap (pointwise nat_eq a) (sym f) ∙ nat_list_eq_equiv.refl a) tt))

pub same_entries : (a b : List ℕ) → are_same a b ≡ true → (i : ℕ) → i < 64 → (v : ℕ) → v < 64
    → get_or (row_from a i) v 0 ≡ get_or (row_from b i) v 0
unfolding are_same
same_entries a b e = same_rows a b (λ x l. eqb→eq _ _ (all_of_at (λ x. eqb (get_or a x 0) (get_or b x 0)) (mem_below l) (subst⁻¹ T e tt)))

-- ---- the paths of no arc
pub start_none : (j : ℕ) → j < 64 → row_from (replicate 4096 no_path) j ≡ replicate 64 no_path
start_none j l =
    row_by (replicate 4096 no_path) j (replicate 64 no_path) (length-replicate 64 no_path)
    (λ v m. get_or-replicate 4096 (v * 64 + j) no_path 0 (omega arith) ∙ sym (get_or-replicate 64 v no_path 0 m))
