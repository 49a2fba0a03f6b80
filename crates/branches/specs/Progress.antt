-- How far a search is: the best so far, how many trees it has yet to skip, and how many it has left to try after those.
use Rattle.std.specs.Prelude.{cond, List, [], ◌∷◌, ℕ, ◌-◌, ltb}
use Rattle.postman.specs.Link.{Link}

pub record Held : Type 0 where
  pub cost : ℕ
  pub links : List Link
  pub skip : ℕ
  pub left : ℕ

abbrev pub held : ℕ → List Link → ℕ → ℕ → Held
held cost links skip left = record { cost = cost; links = links; skip = skip; left = left }

-- n trees none of which is kept
abbrev pub pass_over : Held → ℕ → Held
pass_over h n = held h.cost h.links (h.skip - n) (h.left - (n - h.skip))

-- the better of the best so far and the tree t, of cost c
abbrev pub keep : Held → ℕ → List Link → Held
keep h c t = cond (ltb c h.cost) (held c t h.skip h.left) h

-- one tree: it is skipped; or it is tried, if any is left to be
unfoldable pub try_tree : (List Link → ℕ) → Held → List Link → Held
try_tree f h t = cond (ltb 0 h.skip) (pass_over h 1) (cond (ltb 0 h.left) (pass_over (keep h (f t) t) 1) h)

-- one tree after the other
unfoldable pub advance : (List Link → ℕ) → Held → List (List Link) → Held
unfolding try_tree
advance f h [] = h
advance f h (t ∷ ts) = advance f (try_tree f h t) ts
