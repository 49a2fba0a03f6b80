-- A plan is idle exactly when it has no component: a required arc's tail has a component, and a component has a required vertex.
use Rattle.std.specs.Prelude.{◌≡◌, refl, ◌||◌, ℕ, zero, suc, ◌<◌, length, get_or, T, eqb}
use Rattle.std.proofs.Common.{sym, ◌∙◌, arith, ne_eqb}
use mathlib.Core.List.{List, [], ◌∷◌, Memᴰ}
use Rattle.postman.specs.Lists.{any_of, below}
use Rattle.postman.specs.Plan.{Plan, Arc, WellFormed, required_arcs}
use Rattle.postman.specs.Required.{required, is_required}
use Rattle.postman.specs.Component.{lowest, component_count}
use Rattle.postman.specs.Laws.Membership.{select_mem}
use Rattle.postman_laws.specs.Laws.Distance.{bounded}
use Rattle.postman_laws.specs.Laws.Required.{number_ends}
use Rattle.postman_laws.specs.Laws.Component.{component_lt, component_at}
use Rattle.postman_laws.specs.Laws.Existence.{some_required}

module _ (p : Plan) (wf : WellFormed p) where
  pub some_part : 0 < length (required_arcs p) → 0 < component_count p
  some_part h = let a = component_lt p (bounded wf).ends (number_ends p (bounded wf).ends (some_required p h).1).0 in omega arith

  none_required : (arcs : List Arc) → length arcs ≡ 0 → (v : ℕ) → T (any_of (λ a. eqb a.tail v || eqb a.head v) arcs) → ⊥
  unfolding any_of
  none_required [] e v t = t
  none_required (a ∷ arcs) e v t = absurd (omega arith)

  flagged : {v : ℕ} → Memᴰ v (required p) → T (any_of (λ a. eqb a.tail v || eqb a.head v) (required_arcs p))
  unfolding required is_required
  flagged {v} m = (select_mem (is_required p) (below p.n) m).1

  pub no_part : length (required_arcs p) ≡ 0 → 0 < component_count p → ⊥
  no_part e l = none_required (required_arcs p) e (get_or (lowest p) 0 0) (flagged (component_at p (bounded wf).ends 0 l).0)

  same_zero : (m n : ℕ) → (0 < m → 0 < n) → (m ≡ 0 → 0 < n → ⊥) → eqb m 0 ≡ eqb n 0
  same_zero zero zero f g = refl
  same_zero zero (suc n) f g = absurd (g refl (omega arith))
  same_zero (suc m) zero f g = absurd (let a = f (omega arith) in omega arith)
  same_zero (suc m) (suc n) f g = ne_eqb (suc m) 0 (λ e. omega arith) ∙ sym (ne_eqb (suc n) 0 (λ e. omega arith))

  pub idle : eqb (length (required_arcs p)) 0 ≡ eqb (component_count p) 0
  idle = same_zero (length (required_arcs p)) (component_count p) some_part no_part
