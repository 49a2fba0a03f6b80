-- The legs as they are laid: the numbers of the required arcs, which come first, and the tails and the heads of all legs.
use Rattle.std.specs.Prelude.{◌≡◌, List, [], ◌∷◌, ◌++◌, map, ℕ}
use Rattle.postman.specs.Lists.{select, below}
use Rattle.postman.specs.Plan.{Arc, Plan, is_required_arc, arc_at, required_numbers}
use Rattle.postman.specs.Link.{Link}
use Rattle.drive_legs.specs.Legs.{leg_tails, leg_heads}

pub record LegLists : Type 0 where
  pub numbers : List ℕ
  pub tails : List ℕ
  pub heads : List ℕ

abbrev pub no_legs : LegLists
no_legs = record { numbers = []; tails = []; heads = [] }

-- Legs that are added after the others.
pub record Added (ls : List Link) (old new : LegLists) : Type 0 where
  pub numbers_are : new.numbers ≡ old.numbers
  pub tails_are : new.tails ≡ old.tails ++ map (λ l. l.tail) ls
  pub heads_are : new.heads ≡ old.heads ++ map (λ l. l.head) ls

-- A required arc, added with its number.
pub record AddedArc (k : ℕ) (a : Arc) (old new : LegLists) : Type 0 where
  pub numbers_are : new.numbers ≡ old.numbers ++ k ∷ []
  pub tails_are : new.tails ≡ old.tails ++ a.tail ∷ []
  pub heads_are : new.heads ≡ old.heads ++ a.head ∷ []

-- The links with these tails and heads: an arborescence is handed over as two lists.
unfoldable pub links_of : List ℕ → List ℕ → List Link
links_of [] hs = []
links_of (t ∷ ts) [] = []
links_of (t ∷ ts) (h ∷ hs) = record { tail = t; head = h } ∷ links_of ts hs

-- The legs are the arcs ns.
pub record Noted (p : Plan) (ns : List ℕ) (s : LegLists) : Type 0 where
  pub numbers_are : s.numbers ≡ ns
  pub tails_are : s.tails ≡ map (λ k. (arc_at p.arcs k).tail) ns
  pub heads_are : s.heads ≡ map (λ k. (arc_at p.arcs k).head) ns

-- The required arcs among the first k arcs.
unfoldable pub numbers_below : Plan → ℕ → List ℕ
numbers_below p k = select (λ k. is_required_arc (arc_at p.arcs k)) (below k)

-- All legs of a drive.
pub record Laid (p : Plan) (t : List Link) (amounts : List ℕ) (s : LegLists) : Type 0 where
  pub numbers_are : s.numbers ≡ required_numbers p
  pub tails_are : s.tails ≡ leg_tails p t amounts
  pub heads_are : s.heads ≡ leg_heads p t amounts
