-- Links as legs: what a list of links sends out of a vertex and into it, and what is left of a list without
-- some of its links. By induction on the list.
use Rattle.std.specs.Prelude.{◌≡◌, refl, ℕ, ◌+◌, ◌≤◌}
use Rattle.std.proofs.Common.{sym, ap, ◌∙◌, inl, inr, arith}
use mathlib.Core.List.{List, [], ◌∷◌, map, Memᴰ}
use Rattle.postman.specs.Lists.{sum_of, delta, occurrences}
use Rattle.postman.specs.Plan.{Plan}
use Rattle.postman.specs.Distance.{distance}
use Rattle.postman.specs.Link.{Link}
use Rattle.postman.specs.Balancing.{link_cost}
use Rattle.postman.specs.Steps.{Pick, here, there}
use Rattle.postman_laws.specs.Laws.Pick.{pick_of_mem, pick_cases}
use Rattle.postman_laws.specs.Laws.Occurrences.{delta_yes, occurrences_of_mem, occurrences_cons}
use Rattle.postman_laws.specs.Laws.Assignment.{Legs, weight}
use Rattle.postman_laws.specs.Laws.Link.{chain_cost}

unfoldable pub ends : List Link → Legs
ends ls = map (λ l. (l.tail, l.head)) ls

-- `Without xs ls rest`: the links xs are picked from ls, one after the other, and rest is left
pub data Without : List Link → List Link → List Link → Type 0 where
  done : {ls : List Link} → Without [] ls ls
  next : {x : Link} {xs ls ms rest : List Link} → Pick x ls ms → Without xs ms rest → Without (x ∷ xs) ls rest

pick_weight : (w : ℕ → ℕ → ℕ) {x : Link} {ls ms : List Link} → Pick x ls ms
    → weight w (ends ls) ≡ w x.tail x.head + weight w (ends ms)
unfolding weight ends
pick_weight w (here {xs = xs} e) = ap (λ (z : Link). w z.tail z.head + weight w (ends xs)) (sym e)
pick_weight w (there q) = let h = pick_weight w q in omega arith

pub without_weight : (w : ℕ → ℕ → ℕ) {xs ls rest : List Link} → Without xs ls rest
    → weight w (ends ls) ≡ weight w (ends xs) + weight w (ends rest)
unfolding weight ends
without_weight w done = omega arith
without_weight w (next q s) = let h = without_weight w s in let k = pick_weight w q in omega arith

pub extract : (f : ℕ → Link) (part : ℕ → ℕ) (qs : List ℕ) (ls : List Link)
    → ((q : ℕ) → Memᴰ q qs → Memᴰ (f q) ls × (part (f q).head ≡ q)) → ((q : ℕ) → occurrences q qs ≤ 1)
    → (rest : List Link) × Without (map f qs) ls rest
extract f part [] ls h o = (ls, done)
extract f part (q ∷ qs) ls h o =
    let a = h q (Memᴰ.head refl) in
    let k = pick_of_mem a.0 in
    let r = extract f part qs k.0 (λ s m. (let b = h s (Memᴰ.tail m) in (
      elim (pick_cases k.1 b.0) [
        | inl e ↦ absurd (twice s m (sym b.1 ∙ ap (λ (z : Link). part z.head) e ∙ a.1))
        | inr n ↦ n
      ],
      b.1,
    ))) (λ s. fewer s (o s)) in
    (r.0, next k.1 r.1)
  where
    twice : (s : ℕ) → Memᴰ s qs → s ≡ q → ⊥
    twice s m e = let a = o s in let b = delta_yes e in let c = occurrences_of_mem m in let d = occurrences_cons s q qs in omega arith

    fewer : (s : ℕ) → occurrences s (q ∷ qs) ≤ 1 → occurrences s qs ≤ 1
    fewer s l = let d = occurrences_cons s q qs in omega arith

pub ends_heads : (i : ℕ) (ls : List Link) → occurrences i (map (λ l. l.head) ls) ≡ weight (λ a b. delta i b) (ends ls)
unfolding occurrences weight ends
ends_heads i [] = refl
ends_heads i (l ∷ ls) = let h = ends_heads i ls in omega arith

pub ends_tails : (i : ℕ) (ls : List Link) → occurrences i (map (λ l. l.tail) ls) ≡ weight (λ a b. delta i a) (ends ls)
unfolding occurrences weight ends
ends_tails i [] = refl
ends_tails i (l ∷ ls) = let h = ends_tails i ls in omega arith

pub chain_weight : (p : Plan) (ls : List Link) → chain_cost p ls ≡ weight (distance p) (ends ls)
unfolding weight ends
chain_weight p [] = refl
chain_weight p (l ∷ ls) = let h = chain_weight p ls in omega arith

pub link_weight : (p : Plan) (ls : List Link) → link_cost p ls ≡ weight (distance p) (ends ls)
unfolding weight ends sum_of link_cost
link_weight p [] = refl
link_weight p (l ∷ ls) = let h = link_weight p ls in omega arith
