-- A branch: the trees that begin with the same choices for components 1 to a − 1. Each of these components is one with the component that
-- it is entered from, and what is left to choose depends on the choices by these new names alone.
use Rattle.std.specs.Prelude.{cond, ℕ, suc, ◌-◌, ◌<◌, eqb}
use mathlib.Core.List.{List, [], ◌∷◌, map, Memᴰ}
use Rattle.postman.specs.Lists.{select, up_from, choices}
use Rattle.postman.specs.Plan.{Plan}
use Rattle.postman.specs.Link.{Link}
use Rattle.postman.specs.Component.{component, component_count}
use Rattle.postman.specs.Arborescence.{candidates}
use Rattle.small_counts.specs.Arrival.{renamed, form_tree}

-- the component that a link comes from, by its new name
abbrev pub source_by : Plan → (ℕ → ℕ) → Link → ℕ
source_by p names l = names (component p l.tail)

-- the names once component a is one with x
abbrev pub renamed_by : (ℕ → ℕ) → ℕ → ℕ → ℕ → ℕ
renamed_by names a x c = renamed a x (names c)

-- every name is a component from a on, which are left, or the root
abbrev pub Named : Plan → (ℕ → ℕ) → ℕ → Type 0
Named p names a = (c : ℕ) → c < component_count p → Memᴰ (names c) (0 ∷ up_from a (component_count p - a))

-- the sources of the candidates of component q, by their new names
abbrev pub sources_by : Plan → (ℕ → ℕ) → ℕ → List ℕ
sources_by p names q = map (source_by p names) (candidates p q)

-- one candidate of each component from a on, in every way
unfoldable pub left_choices : Plan → ℕ → List (List Link)
unfolding choices candidates up_from component_count
left_choices p a = choices (map (candidates p) (up_from a (component_count p - a)))

-- those with which the branch's choices are a tree
unfoldable pub completions : Plan → (ℕ → ℕ) → ℕ → List (List Link)
unfolding select left_choices
completions p names a = select (λ t. form_tree (component_count p) a (map (source_by p names) t)) (left_choices p a)

-- those in which component a takes the candidate l: none if it would close a circle, else those of the branch below, behind l
abbrev pub entered : Plan → (ℕ → ℕ) → ℕ → Link → List (List Link)
entered p names a l =
    cond (eqb (source_by p names l) a) [] (map (λ t. l ∷ t) (completions p (renamed_by names a (source_by p names l)) (suc a)))
