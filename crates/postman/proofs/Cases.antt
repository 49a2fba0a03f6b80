-- The worked cases of `specs/Cases.antt` hold: each claim is a test that computes, and what a test computes is what the claim means.
use Rattle.std.specs.Prelude.{◌≡◌, refl, Bool, true, false, ◌&&◌, ℕ, length, T, eqb, ℤ, pos, negsuc}
use Rattle.std.proofs.Common.{ap, ◌∙◌, eqb→eq}
use Rattle.std.specs.Bool.{beq}
use mathlib.Core.List.{List, [], ◌∷◌, Memᴰ}
use Rattle.postman.specs.Lists.{all_of}
use Rattle.postman.specs.Plan.{Plan}
use Rattle.postman.specs.Refusal.{Answer, given, refused}
use Rattle.postman.specs.PlanFile.{agree, edition, plan_of, file_length, file_of, write_refusal}
use Rattle.postman.specs.Link.{links}
use Rattle.postman.specs.Component.{component_count}
use Rattle.postman.specs.Arborescence.{arborescence_count}
use Rattle.postman.specs.Balancing.{least_balancing}
use Rattle.postman.specs.LagrangianBound.{Multipliers, lagrangian_bound}
use Rattle.postman.specs.PlanCall.{sheet_places, default_budget, call_refusal, is_whole, best_cost, lower_bound}
use Rattle.postman.specs.Judge.{judge_answer}
use Rattle.postman.specs.Marks.{car_refusal}
use Rattle.postman.specs.Renumbering.{number_in, renumbered}
use Rattle.postman.specs.Laws.Tests.{and_parts, is_true}
use Rattle.postman.specs.Laws.Membership.{all_of_at}
use Rattle.postman.proofs.Repeated.{agree_equal}
use Rattle.postman.specs.Cases.{Claim, Means, Row, table, or_zero, refusal_of, bytes_refusal, car_refusal_of, writing_of, multipliers, file, refusal, refusal2, unreadable, car, writing, cramped, parts, link_count, trees, balancing, bound_at_zero, bound_at, cost_at, cost_under, whole_at, floor_at, floor_by, judged, fault}

-- ---- the same claims, as tests that compute

same_list : {A : Type 0} → (A → A → Bool) → List A → List A → Bool
same_list f [] [] = true
same_list f [] (y ∷ ys) = false
same_list f (x ∷ xs) [] = false
same_list f (x ∷ xs) (y ∷ ys) = f x y && same_list f xs ys

same_plan : Plan → Plan → Bool
unfolding same_list agree
same_plan p q = eqb p.n q.n && same_list agree p.arcs q.arcs

is_positive : ℤ → ℕ → Bool
is_positive (pos a) b = eqb a b
is_positive (negsuc a) b = false

same_answers : Answer ℕ → Answer ℕ → Bool
same_answers (given x) (given y) = eqb x y
same_answers (given x) (refused r) = false
same_answers (refused r) (given y) = false
same_answers (refused r) (refused q) = eqb r q

holds : Plan → Claim → Bool
unfolding same_list same_plan is_positive same_answers judge_answer file_of edition plan_of file_length write_refusal call_refusal car_refusal sheet_places default_budget component_count links arborescence_count least_balancing lagrangian_bound best_cost is_whole lower_bound
holds p (file e bytes) = same_list eqb (file_of e p) bytes && (eqb (edition bytes) e && same_plan (plan_of bytes) p)
holds p (refusal r) = eqb (refusal_of 1 p) r
holds p (refusal2 r) = eqb (refusal_of 2 p) r
holds p (unreadable bytes r) = eqb (bytes_refusal bytes) r
holds p (car marks r) = eqb (car_refusal_of p marks) r
holds p (writing e r) = eqb (writing_of e p) r
holds p (cramped e r) = eqb (or_zero (write_refusal e p 0)) r
holds p (parts k) = eqb (component_count p) k
holds p (link_count k) = eqb (length (links p)) k
holds p (trees k) = eqb (arborescence_count p) k
holds p (balancing c) = eqb (least_balancing p []) c
holds p (bound_at_zero l) = is_positive (lagrangian_bound p (λ i. pos 0)) l
holds p (bound_at us l) = is_positive (lagrangian_bound p (multipliers us)) l
holds p (cost_at b c) = eqb (best_cost p b) c
holds p (cost_under ns b c) = eqb (best_cost (renumbered p (number_in ns)) b) c
holds p (whole_at b w) = beq (is_whole p b) w
holds p (floor_at b l) = is_whole p b && eqb (best_cost p b) l
holds p (floor_by us b l) = is_positive (lower_bound p b (multipliers us)) l
holds p (judged w c) = same_answers (judge_answer (file_of 2 p) w) (given c)
holds p (fault w r) = same_answers (judge_answer (file_of 2 p) w) (refused r)

row_holds : Row → Bool
unfolding holds all_of
row_holds r = all_of (holds r.plan) r.claims

-- THE COMPUTATION: every claim of every row
computed : T (all_of row_holds table)
unfolding row_holds table all_of
computed = tt

-- ---- what a test computes is what the claim means

same_list_lem : {A : Type 0} (f : A → A → Bool) → ((x y : A) → T (f x y) → x ≡ y) → (xs ys : List A) → T (same_list f xs ys) → xs ≡ ys
unfolding same_list
same_list_lem f h [] [] t = refl
same_list_lem f h [] (y ∷ ys) t = absurd t
same_list_lem f h (x ∷ xs) [] t = absurd t
same_list_lem f h (x ∷ xs) (y ∷ ys) t =
    let b = and_parts (f x y) (same_list f xs ys) t in
    let e = h x y b.0 in
    let g = same_list_lem f h xs ys b.1 in
    cc

same_plan_lem : (p q : Plan) → T (same_plan p q) → p ≡ q
unfolding same_plan
same_plan_lem p q t =
    let x = and_parts (eqb p.n q.n) _ t in
    let e = eqb→eq p.n q.n x.0 in
    let f = same_list_lem agree agree_equal p.arcs q.arcs x.1 in
    λ i. record { n = e i; arcs = f i }

is_pos : (a : ℤ) (b : ℕ) → T (is_positive a b) → a ≡ pos b
unfolding is_positive
is_pos (pos a) b t = ap pos (eqb→eq a b t)
is_pos (negsuc a) b t = absurd t

same_truth : (a b : Bool) → T (beq a b) → a ≡ b
same_truth true true t = refl
same_truth true false t = absurd t
same_truth false true t = absurd t
same_truth false false t = refl

same_answer : (a b : Answer ℕ) → T (same_answers a b) → a ≡ b
unfolding same_answers
same_answer (given x) (given y) t = ap given (eqb→eq x y t)
same_answer (given x) (refused r) t = absurd t
same_answer (refused r) (given y) t = absurd t
same_answer (refused r) (refused q) t = ap refused (eqb→eq r q t)

whole_floor : (p : Plan) (b : ℕ) (u : Multipliers) → is_whole p b ≡ true → lower_bound p b u ≡ pos (best_cost p b)
unfolding lower_bound
whole_floor p b u e = rw e

sound : (p : Plan) (c : Claim) → T (holds p c) → Means p c
unfolding holds
sound p (file e bytes) t =
    let b = and_parts (same_list eqb (file_of e p) bytes) _ t in
    let c = and_parts (eqb (edition bytes) e) (same_plan (plan_of bytes) p) b.1 in
    (same_list_lem eqb eqb→eq (file_of e p) bytes b.0, eqb→eq (edition bytes) e c.0, same_plan_lem (plan_of bytes) p c.1)
sound p (refusal r) t = eqb→eq (refusal_of 1 p) r t
sound p (refusal2 r) t = eqb→eq (refusal_of 2 p) r t
sound p (unreadable bytes r) t = eqb→eq (bytes_refusal bytes) r t
sound p (car marks r) t = eqb→eq (car_refusal_of p marks) r t
sound p (writing e r) t = eqb→eq (writing_of e p) r t
sound p (cramped e r) t = eqb→eq (or_zero (write_refusal e p 0)) r t
sound p (parts k) t = eqb→eq (component_count p) k t
sound p (link_count k) t = eqb→eq (length (links p)) k t
sound p (trees k) t = eqb→eq (arborescence_count p) k t
sound p (balancing c) t = eqb→eq (least_balancing p []) c t
sound p (bound_at_zero l) t = is_pos (lagrangian_bound p (λ i. pos 0)) l t
sound p (bound_at us l) t = is_pos (lagrangian_bound p (multipliers us)) l t
sound p (cost_at b c) t = eqb→eq (best_cost p b) c t
sound p (cost_under ns b c) t = eqb→eq (best_cost (renumbered p (number_in ns)) b) c t
sound p (whole_at b w) t = same_truth (is_whole p b) w t
sound p (floor_at b l) t = λ u. (let h = and_parts (is_whole p b) (eqb (best_cost p b) l) t in whole_floor p b u (is_true h.0) ∙ ap pos (eqb→eq (best_cost p b) l h.1))
sound p (floor_by us b l) t = is_pos (lower_bound p b (multipliers us)) l t
sound p (judged w c) t = same_answer (judge_answer (file_of 2 p) w) (given c) t
sound p (fault w r) t = same_answer (judge_answer (file_of 2 p) w) (refused r) t

-- THE LEMMA
pub cases : (r : Row) → Memᴰ r table → (c : Claim) → Memᴰ c r.claims → Means r.plan c
unfolding row_holds
cases r m c n = sound r.plan c (all_of_at (holds r.plan) n (all_of_at row_holds m computed))
