-- The invariant: the list holds the vertices below v whose flag is set.
use mathlib.Core.Path.{◌≡◌, sym, ap}
use mathlib.Core.Bool.{Bool, true, false}
use mathlib.Core.List.{List, []}
use Prim.Native.Nat.{ℕ, ◌≤◌, ◌<◌}
use native.Mathlib.Omega.{arith}
use lib.ListN.{length, get_or}
use Rattle.postman.specs.Lists.{select, below}
use Rattle.postman.specs.Laws.Membership.{length_below}
use Rattle.postman_laws.specs.Laws.Selection.{select_length}
use Rattle.candidates.specs.Holds.{Holds}
use Rattle.candidates.specs.Laws.Selection.{select_none_below}
use Rattle.candidates.specs.Laws.Holds.{holds_none, holds_as, holds_by, pick_taken, pick_passed, pick_room}
use Rattle.candidates.proofs.vertices_of.Goals.{then-is_required, else-is_required}
use Rattle.candidates.proofs.vertices_of.Goals as goal

abbrev is_set : List Bool → ℕ → Bool
is_set flags v = get_or flags v false

-- the vertices are few
few : (flags : List Bool) → length (select (is_set flags) (below 64)) ≤ 64
few flags = let a = select_length (is_set flags) (below 64) in let b = length_below 64 in omega arith

room : (flags : List Bool) (list : List ℕ) (count v : ℕ) → Holds 64 list count (select (is_set flags) (below v)) → is_set flags v ≡ true → v < 64 → count < 64
room flags list count v h e l = let f = few flags in pick_room [] (is_set flags) v h 64 e l (omega arith)

pub loop-v-init : goal.loop-v-init
loop-v-init c = holds_as (holds_none 64) (sym (select_none_below _))

pub bounds-list-count : goal.bounds-list-count
bounds-list-count c =
    room c.args.required c.loop-v.list c.loop-v.count c.loop-v.v c.loop-v.invariant c.if-is_required.true c.loop-v-test.true

pub loop-v-preserved : goal.loop-v-preserved
loop-v-preserved c =
    let f = is_set c.args.required in
    let v = c.loop-v in
    let h = v.invariant in
    elim c.if-is_required.branch [
      | then-is_required w ↦
          let t = w.if-is_required.true in
          holds_by w.list-is w.count-is (pick_taken [] f v.v h t (room c.args.required v.list v.count v.v h t c.loop-v-test.true))
      | else-is_required w ↦ holds_by w.list-is w.count-is (pick_passed [] f v.v h w.if-is_required.false)
    ]

pub returns : goal.returns
returns c =
    let e : c.loop-v.v ≡ 64 = omega arith in
    holds_as c.loop-v.invariant (ap (λ n. select (is_set c.args.required) (below n)) e)
