-- The least balancing is the least: heads and tails are as many, all of them required vertices, so the laws of amounts apply to them.
use Rattle.std.specs.Prelude.{◌≡◌, length}
use Rattle.std.proofs.Math.Path.{sym, ap₂}
use Rattle.std.proofs.Common.{◌∙◌, inl, inr}
use mathlib.Core.List.Memᴰ
use mathlib.Core.List.{List, ◌++◌, map, Memᴰ}
use Prim.Native.Nat.{ℕ, ◌+◌, ◌≤◌}
use Rattle.std.proofs.lemmas.List.{length-map}
use Rattle.std.proofs.Math.ListN.{length-append}
use Rattle.postman.specs.Plan.{Arc, Plan, required_arcs}
use Rattle.postman.specs.Required.{required}
use Rattle.postman.specs.Distance.{distance}
use Rattle.postman.specs.Link.{Link}
use Rattle.postman.specs.Balancing.{heads, tails, imbalance, IsBalancing, balancing_cost, least_balancing}
use Rattle.postman.specs.Laws.Membership.{map_mem}
use Rattle.postman_laws.specs.Laws.Required.{required_once, required_ends_lem}
use Rattle.postman_laws.specs.Laws.Distance.{InPlan, triangle, distance_self}
use Rattle.postman_laws.specs.Laws.Amounts.{Within, difference, assignment_le, assignment_at}
use Rattle.postman.specs.Steps.{Joins}

-- one end of the required arcs and of the links: all required
within_ends : (p : Plan) (t : List Link) (f : Arc → ℕ) (g : Link → ℕ)
    → ((a : Arc) → Memᴰ a (required_arcs p) → Memᴰ (f a) (required p))
    → ((l : Link) → Memᴰ l t → Memᴰ (g l) (required p))
    → Within (required p) (map f (required_arcs p) ++ map g t)
within_ends p t f g ha hl = record {
  once = required_once p;
  among = λ i m. elim (Memᴰ.append_cases (map f (required_arcs p)) m) [
    | inl n ↦ let r = map_mem f (required_arcs p) n in Memᴰ.cast r.2 (ha r.0 r.1)
    | inr n ↦ let r = map_mem g t n in Memᴰ.cast r.2 (hl r.0 r.1)
  ];
}

module _ (p : Plan) (ok : InPlan p) (t : List Link) (joins : Joins p t) where
  pub within_heads : Within (required p) (heads p t)
  unfolding heads
  within_heads = within_ends p t (λ a. a.head) (λ l. l.head) (λ a m. (required_ends_lem p ok m).1) (λ l m. (joins l m).1)

  pub within_tails : Within (required p) (tails p t)
  unfolding tails
  within_tails = within_ends p t (λ a. a.tail) (λ l. l.tail) (λ a m. (required_ends_lem p ok m).0) (λ l m. (joins l m).0)

  pub same_length : length (heads p t) ≡ length (tails p t)
  unfolding heads tails
  same_length =
      length-append (map (λ a. a.head) (required_arcs p)) (map (λ l. l.head) t)
      ∙ ap₂ ◌+◌ (length-map (required_arcs p) (λ a. a.head) ∙ sym (length-map (required_arcs p) (λ a. a.tail)))
      (length-map t (λ l. l.head) ∙ sym (length-map t (λ l. l.tail)))
      ∙ sym (length-append (map (λ a. a.tail) (required_arcs p)) (map (λ l. l.tail) t))

  pub least_balancing_le : (f : ℕ → ℕ → ℕ) → IsBalancing (required p) (imbalance p t) f
      → least_balancing p t ≤ balancing_cost (required p) (distance p) f
  unfolding least_balancing imbalance difference
  least_balancing_le f b =
      assignment_le (distance p) (triangle p ok) (distance_self p ok) (required p) (heads p t)
      (tails p t) f same_length within_heads within_tails b

  pub least_balancing_at : (f : ℕ → ℕ → ℕ) × IsBalancing (required p) (imbalance p t) f
      × (balancing_cost (required p) (distance p) f ≡ least_balancing p t)
  unfolding least_balancing imbalance difference
  least_balancing_at = assignment_at (distance p) (required p) (heads p t) (tails p t) same_length within_heads within_tails
