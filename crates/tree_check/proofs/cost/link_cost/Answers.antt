-- The invariant: the cost of the links before the next one's. The whole sum is small, so that each part is.
use Rattle.std.proofs.Common.{◌≡◌, sym, ap, ap₂, ◌∙◌, rules, arith, [], ◌∷◌, ◌++◌, ◌≤◌, ◌+◌, suc, List, ℕ, length, get_or, take, take_all, length-append}
use Rattle.std.proofs.lemmas.Slice.Zip.{zip_turn, zip_end}
use Rattle.postman.specs.Steps.{cell}
use Rattle.drive_legs.specs.Filled.{links_of}
use Rattle.tree_check.specs.Cost.{table_cost}
use Rattle.tree_check.specs.Laws.Cost.{cost_none, cost_more, cost_part}
use Rattle.tree_check.proofs.cost.link_cost.Goals as goal

pub loop-tail-init : goal.loop-tail-init
loop-tail-init c = sym (cost_none c.args.d.now c.args.tails.now c.args.heads.now)

pub distance_at-cost-requires : goal.distance_at-cost-requires
distance_at-cost-requires c =
    let a = c.args in
    let v = c.loop-tail in
    let turn = zip_turn a.tails.now a.heads.now v.yielded c.into_iter-tail-iterator.result v.tail-iterator c.next.new.self c.next.result (search rules) (search rules) v.yielded_by _ c.in-Some.is c.next.ensures.steps in
    (rw (turn.2 0) (c.requires.0 (length v.yielded) turn.0), rw (turn.3 0) (c.requires.1 (length v.yielded) turn.1))

pub overflow_add-cost : goal.overflow_add-cost
overflow_add-cost c =
    let a = c.args in
    let v = c.loop-tail in
    let k = length v.yielded in
    let turn = zip_turn a.tails.now a.heads.now v.yielded c.into_iter-tail-iterator.result v.tail-iterator c.next.new.self c.next.result (search rules) (search rules) v.yielded_by _ c.in-Some.is c.next.ensures.steps in
    let y : c.distance_at-cost.result ≡ cell a.d.now (get_or a.tails.now k 0) (get_or a.heads.now k 0)
    = c.distance_at-cost.ensures ∙ ap₂ (cell a.d.now) (turn.2 0) (turn.3 0) in
    let f = cost_more a.d.now k a.tails.now a.heads.now turn.0 turn.1 in
    let g = cost_part a.d.now (suc k) a.tails.now a.heads.now in
    let l : v.cost + c.distance_at-cost.result ≤ 1131527310 = omega (arith, v.invariant, c.requires.3, f, g, y) in
    search rules

pub loop-tail-preserved : goal.loop-tail-preserved
loop-tail-preserved c =
    let a = c.args in
    let v = c.loop-tail in
    let k = length v.yielded in
    let turn = zip_turn a.tails.now a.heads.now v.yielded c.into_iter-tail-iterator.result v.tail-iterator c.next.new.self c.next.result (search rules) (search rules) v.yielded_by _ c.in-Some.is c.next.ensures.steps in
    let y : c.distance_at-cost.result ≡ cell a.d.now (get_or a.tails.now k 0) (get_or a.heads.now k 0)
    = c.distance_at-cost.ensures ∙ ap₂ (cell a.d.now) (turn.2 0) (turn.3 0) in
    let n : suc k ≡ length (v.yielded ++ (c.in-Some.field-0-0, c.in-Some.field-0-1) ∷ []) = omega (arith, length-append v.yielded ((c.in-Some.field-0-0, c.in-Some.field-0-1) ∷ [])) in
    ap₂ ◌+◌ v.invariant y ∙ sym (cost_more a.d.now k a.tails.now a.heads.now turn.0 turn.1)
    ∙ ap (λ k. table_cost a.d.now (links_of (take k a.tails.now) (take k a.heads.now))) n

pub returns : goal.returns
returns c =
    let a = c.args in
    let v = c.loop-tail in
    let ended = zip_end a.tails.now a.heads.now v.yielded c.into_iter-tail-iterator.result v.tail-iterator c.next.new.self c.next.result (search rules) (search rules) v.yielded_by c.in-None.is c.next.ensures.steps in
    v.invariant
    ∙ ap₂ (λ (t h : List ℕ). table_cost a.d.now (links_of t h)) (take_all _ a.tails.now (omega (arith, ended, c.requires.2))) (take_all _ a.heads.now (omega (arith, ended, c.requires.2)))
