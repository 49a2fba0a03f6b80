-- One district's turn, over its plan: whether what is held can be gone on from, and what the turn then gives.
-- Whatever is held, this is what a turn gives.
use Rattle.std.specs.Prelude.{◌≡◌, Bool, true, false, cond, ◌&&◌, ◌||◌, List, [], ◌∷◌, map, ℕ, ◌+◌, eqb, ltb, leb}
use Rattle.postman.specs.Lists.{any_of}
use Rattle.postman.specs.Plan.{Plan}
use Rattle.postman.specs.Link.{Link, joins}
use Rattle.postman.specs.Arborescence.{arborescences}
use Rattle.postman.specs.Balancing.{completion_cost}
use Rattle.postman.specs.PlanCall.{tried_count, is_whole}
use Rattle.drive_legs.specs.Drive.{written}
use Rattle.multipliers.specs.Drive.{tree_drive}
use Rattle.call_steps.specs.Refusals.{plan_refusal}
use Rattle.solution.specs.declared.Planned.{Planned}
use Rattle.tree_search.specs.declared.trees.Reached.{Reached}
use Rattle.postman.specs.Districts.{turn_trees}
use Rattle.tree_search.specs.Resumed.{after_turn, links_by, held_after}
use Rattle.solution.specs.Concluded.{concluded}
use Rattle.district_turn.specs.declared.plan_turn.DistrictTurn.{DistrictTurn}
use Rattle.district_turn.specs.declared.plan_turn.DistrictTurn.TheVariants.{Stuck, Unfinished, Finished}
use Rattle.held_file.specs.Padded.{padded}
use Rattle.postman.specs.Refusal.{is_good}

-- ---- whether it can be gone on with

-- Whether links are a tree of the plan: whether the list of all trees has them.
unfoldable pub same_links : List Link → List Link → Bool
same_links [] [] = true
same_links [] (m ∷ ms) = false
same_links (l ∷ ls) [] = false
same_links (l ∷ ls) (m ∷ ms) = joins m.tail m.head l && same_links ls ms

unfoldable pub is_tree : Plan → List Link → Bool
unfolding any_of same_links arborescences
is_tree p t = any_of (same_links t) (arborescences p)

-- What is held once some tree was tried has to be a tree and its cost.
unfoldable pub is_holding : Plan → Reached → Bool
unfolding is_tree completion_cost
is_holding p g = eqb g.tried 0 || (is_tree p (links_by p g) && eqb g.cost (completion_cost p (links_by p g)))

-- And some tree has to be left to be tried.
abbrev pub is_resumable : Plan → ℕ → Reached → Bool
is_resumable p budget g = is_holding p g && ltb g.tried (tried_count p budget)

-- And the plan has to be one that has drives.
abbrev pub can_go_on : Plan → ℕ → Reached → Bool
can_go_on p budget g = is_good (plan_refusal p) && is_resumable p budget g

-- ---- what it gives

-- What is held after it: the tree's links, and zeros behind them.
abbrev pub reached_after : Plan → ℕ → Reached → Reached
reached_after p budget g = record {
  cost = (held_after p budget g).cost;
  tails = padded 8 0 (map (λ (l : Link). l.tail) (held_after p budget g).links);
  heads = padded 8 0 (map (λ (l : Link). l.head) (held_after p budget g).links);
  tried = after_turn (tried_count p budget) g.tried;
}

-- Whether it is the last one; what is answered then, and what is written.
abbrev pub is_last : Plan → ℕ → Reached → Bool
is_last p budget g = leb (tried_count p budget) (g.tried + turn_trees)

abbrev pub last_answer : Plan → ℕ → Reached → Planned
last_answer p budget g = concluded p (held_after p budget g).links (held_after p budget g).cost (tried_count p budget) (is_whole p budget)

abbrev pub last_sheet : Plan → ℕ → Reached → List ℕ → List ℕ
last_sheet p budget g old = written (tree_drive p (held_after p budget g).links) old

-- What a turn leaves, where `can` says whether it can be gone on with, and `last` whether the turn is its last; and what it leaves on
-- the sheet.
abbrev pub turn_given : Plan → ℕ → Reached → (can last : Bool) → DistrictTurn
turn_given p budget g false last = Stuck
turn_given p budget g true false = Unfinished (reached_after p budget g)
turn_given p budget g true true = Finished (last_answer p budget g)

abbrev pub sheet_given : Plan → ℕ → Reached → (can last : Bool) → List ℕ → List ℕ
sheet_given p budget g can last old = cond (can && last) (last_sheet p budget g old) old

-- The turn of a district, where `can` says whether it can be gone on with.
pub record IsDistrictTurn (p : Plan) (budget : ℕ) (g : Reached) (can : Bool) (old new : List ℕ) (r : DistrictTurn) : Type 0 where
  pub turned : r ≡ turn_given p budget g can (is_last p budget g)
  pub sheet : new ≡ sheet_given p budget g can (is_last p budget g) old
