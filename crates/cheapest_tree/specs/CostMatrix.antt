-- A matrix of costs in arrays, 8 rows of 8, and which components are left (document 01's picture). Component 0 always is.
use Rattle.std.specs.Prelude.{◌≡◌, ◌⊎◌, ◌≢◌, Bool, true, false, not, cond, ◌&&◌, ◌||◌, List, ℕ, ◌+◌, ◌*◌, ◌/◌, ◌%◌, ◌≤◌, ◌<◌, eqb, get_or, set, ℤ, pos, ◌-ℤ◌, ◌≤ℤ◌}
use Rattle.std.specs.Int.Signed.{lt_z}
use Rattle.postman.specs.Lists.{select, up_from, iterate}
use Rattle.cheapest_tree.specs.Cheapest.{Matrix}

abbrev pub matrix_of : List ℤ → Matrix
matrix_of w p q = get_or w (p * 8 + q) (pos 0)

-- the components left but the root
unfoldable pub others_in : List Bool → List ℕ
unfolding select up_from
others_in left = select (λ q. get_or left q false) (up_from 1 7)

-- the greatest cost: a distance is at most 63 × 65,535, and so is the difference of two multipliers
abbrev pub highest : ℕ
highest = 8257410

pub record IsCostMatrix (w : List ℤ) (left : List Bool) : Type 0 where
  pub low : (i : ℕ) → i < 64 → pos 0 ≤ℤ get_or w i (pos 0)
  pub high : (i : ℕ) → i < 64 → get_or w i (pos 0) ≤ℤ pos highest
  pub root : get_or left 0 false ≡ true

-- the place of a member x in row f, or in column f
unfoldable pub place_of : Bool → ℕ → ℕ → ℕ
place_of row f x = cond row (f * 8 + x) (x * 8 + f)

-- a cost less a part of it; 0 where the part is more
unfoldable pub less : ℤ → ℤ → ℤ
less a m = cond (lt_z a m) (pos 0) (a -ℤ m)

-- the costs along row f, or along column f
abbrev pub line_of : List ℤ → Bool → ℕ → ℕ → ℤ
line_of w row f x = get_or w (place_of row f x) (pos 0)

-- the costs of a row or a column, taken out of the matrix
abbrev pub costs_in : List ℤ → ℕ → ℤ
costs_in line x = get_or line x (pos 0)

-- r is the cheaper of a and x, where x may be taken
pub record IsCheaper (cost : ℕ → ℤ) (may : Bool) (a x r : ℕ) : Type 0 where
  pub old : cost r ≤ℤ cost a
  pub new : may ≡ true → cost r ≤ℤ cost x
  pub among : (r ≡ a) ⊎ ((r ≡ x) × (may ≡ true))

-- r is a cheapest of the components below n that may be taken
pub record IsBest (cost : ℕ → ℤ) (may : List Bool) (n r : ℕ) : Type 0 where
  pub in_range : r < 8
  pub allowed : get_or may r false ≡ true
  pub cheapest : (x : ℕ) → x < n → get_or may x false ≡ true → cost r ≤ℤ cost x

-- e holds a cheapest entry of each component below n that is left but the root, and 0 for the others
pub record HasEntries (w : List ℤ) (left : List Bool) (n : ℕ) (e : List ℕ) : Type 0 where
  pub root : get_or e 0 0 ≡ 0
  pub in_range : (q : ℕ) → q < 8 → get_or e q 0 < 8
  pub best : (q : ℕ) → 1 ≤ q → q < n → get_or left q false ≡ true → IsBest (line_of w false q) (set left q false) 8 (get_or e q 0)

abbrev pub entry_of : List ℕ → ℕ → ℕ
entry_of e q = get_or e q 0

-- what component q pays for its entry, where it is left
abbrev pub pay_of : List ℤ → List Bool → List ℕ → ℕ → ℤ
pay_of w left e q = cond (get_or left q false) (get_or w (get_or e q 0 * 8 + q) (pos 0)) (pos 0)

-- going back 8 entries from each component below n arrives at the root, or it does not from some component, and y is where it then stands
pub record IsLost (left : List Bool) (e : List ℕ) (n y : ℕ) : Type 0 where
  pub none : y ≡ 0 → (q : ℕ) → 1 ≤ q → q < n → get_or left q false ≡ true → iterate 8 (entry_of e) q ≡ 0
  pub some : y ≢ 0 → (x : ℕ) × (1 ≤ x) × (x < 8) × (get_or left x false ≡ true) × (y ≡ iterate 8 (entry_of e) x)

-- on marks the components that n entries back from y pass
pub record IsMarked (e : List ℕ) (y n : ℕ) (on : List Bool) : Type 0 where
  pub sound : (x : ℕ) → get_or on x false ≡ true → (i : ℕ) × (i < n) × (x ≡ iterate i (entry_of e) y)
  pub complete : (i : ℕ) → i < n → get_or on (iterate i (entry_of e) y) false ≡ true

-- where the cost of entering t from s stands once the marked components are one, kept as c
pub record IsPlace (v : List ℤ) (on : List Bool) (c s t r : ℕ) : Type 0 where
  pub in_range : r < 64
  pub into : t ≡ c → (x : ℕ) × IsBest (line_of v true s) on 8 x × (r ≡ s * 8 + x)
  pub from : t ≢ c → s ≡ c → (x : ℕ) × IsBest (line_of v false t) on 8 x × (r ≡ x * 8 + t)
  pub same : t ≢ c → s ≢ c → r ≡ s * 8 + t

-- the costs of the contracted matrix
pub record IsShrunk (v : List ℤ) (on : List Bool) (c n : ℕ) (m : List ℤ) : Type 0 where
  pub each : (i : ℕ) → i < n → (r : ℕ) × IsPlace v on c (i / 8) (i % 8) r × (get_or m i (pos 0) ≡ get_or v r (pos 0))

-- what is left of a component once the marked ones are one, kept as c
abbrev pub kept_of : List Bool → List Bool → ℕ → ℕ → Bool
kept_of left on c x = get_or left x false && (not (get_or on x false) || eqb x c)
