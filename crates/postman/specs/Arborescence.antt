-- An arborescence (document 01: a tree): "for each part but part 0 one link whose head is in it and whose tail is in another part, such
-- that going back along links from any part arrives at part 0. With k = 1 the empty tree is the one tree."
use Rattle.std.specs.Prelude.{◌≡◌, ◌≢◌, Bool, not, ◌&&◌, ℕ, zero, suc, ◌-◌, ◌<◌, length, get_or, eqb}
use mathlib.Core.List.{List, map, Memᴰ}
use Rattle.postman.specs.Lists.{select, all_of, below, up_from, choices, iterate}
use Rattle.postman.specs.Plan.{Plan}
use Rattle.postman.specs.Link.{Link, links}
use Rattle.postman.specs.Component.{component, component_count}

-- Document 01's words, as a property of a list t that holds the links into components 1, 2, and so on.
abbrev pub link_at : List Link → ℕ → Link
link_at t q = get_or t q (record { tail = 0; head = 0 })

-- The component that the link into component q comes from; component 0 stays.
unfoldable pub parent : Plan → List Link → ℕ → ℕ
unfolding component
parent p t zero = 0
parent p t (suc q) = component p (link_at t q).tail

pub record Enters (p : Plan) (q : ℕ) (l : Link) : Type 0 where
  pub is_link_holds : Memᴰ l (links p)
  pub head : component p l.head ≡ q
  pub tail : component p l.tail ≢ q

pub record IsArborescence (p : Plan) (t : List Link) : Type 0 where
  pub size : length t ≡ component_count p - 1
  pub enters : (q : ℕ) → q < length t → Enters p (suc q) (link_at t q)
  pub back : (q : ℕ) → q < component_count p → (steps : ℕ) × (iterate steps (parent p t) q ≡ 0)

-- The list of all of them, in order (`Laws.Arborescence`: it holds just these).
-- "candidate links for a part ascend by (tail, head)"
unfoldable pub candidates : Plan → ℕ → List Link
unfolding links component select
candidates p q = select (λ l. eqb (component p l.head) q && not (eqb (component p l.tail) q)) (links p)

-- k steps back from any component arrive at component 0. `Laws.Iteration`: what some number of steps reaches, k steps do.
unfoldable pub arrives : Plan → List Link → Bool
unfolding iterate parent all_of below component_count
arrives p t = all_of (λ q. eqb (iterate (component_count p) (parent p t) q) 0) (below (component_count p))

-- "trees ascend by the choice for part 1, then part 2, and so on"
unfoldable pub arborescences : Plan → List (List Link)
unfolding select arrives choices candidates component_count up_from
arborescences p = select (arrives p) (choices (map (candidates p) (up_from 1 (component_count p - 1))))

-- "N is the number of trees."
unfoldable pub arborescence_count : Plan → ℕ
unfolding arborescences
arborescence_count p = length (arborescences p)
