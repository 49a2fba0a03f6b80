-- The invariant: n is the number of ways of cost a by the vertices before the next pair's.
use Rattle.std.proofs.Common.{◌≡◌, sym, ap, ap₂, ◌∙◌, rules, Bool, true, false, cond, eqb, ◌≤◌, ◌<◌, ◌+◌, ◌*◌, ◌-◌, ℕ}
use Rattle.std.proofs.Common.{List, [], ◌∷◌, ◌++◌, get_or, take, drop, length, length-append, length-take, length-drop}
use Rattle.std.proofs.lemmas.List.{get_or-take, get_or-drop}
use Rattle.std.proofs.lemmas.Slice.Zip.{zip_turn, zip_end}
use native.Mathlib.Omega.{arith}
use Rattle.network.specs.Laws.Ways.{ways_by, ways_none, ways_more, ways_all}
use Rattle.network.proofs.thinning.ways.Goals as goal

at_most_one : (b : Bool) → cond b 1 0 ≤ 1
at_most_one true = omega arith
at_most_one false = omega arith

-- the columns' part of 64
abbrev part : List ℕ → ℕ → List ℕ
part columns j = take (j * 64 + 64 - j * 64) (drop (j * 64) columns)

in_part : (columns : List ℕ) (j k x : ℕ) → k < 64 → x ≡ get_or (part columns j) k 0 → x ≡ get_or columns (j * 64 + k) 0
in_part columns j k x l e = e ∙ get_or-take _ (drop (j * 64) columns) k 0 (omega arith) ∙ get_or-drop (j * 64) columns k 0

pub loop-b-init : goal.loop-b-init
loop-b-init c = let a = c.args in (omega arith, sym (ways_none a.row.now a.columns.now a.j a.a))

pub overflow_add-b : goal.overflow_add-b
overflow_add-b c =
    let a = c.args in
    let v = c.loop-b in
    let k = length v.yielded in
    let r : length a.row.now ≡ 64 = search rules in
    let turn = zip_turn a.row.now (part a.columns.now a.j) v.yielded c.into_iter-b-iterator.result v.b-iterator c.next.new.self
    c.next.result (search rules) (search rules) v.yielded_by _ c.in-Some.is c.next.ensures.steps in
    let l : k < 64 = omega (arith, turn.0) in
    let near = c.requires.1 k l in
    let sum : c.in-Some.field-0-0.now + c.in-Some.field-0-1.now ≤ 2147483648
    = omega (arith, turn.2 0, in_part a.columns.now a.j k _ l (turn.3 0), near.0, near.1) in
    search rules

pub loop-b-preserved : goal.loop-b-preserved
loop-b-preserved c =
    let a = c.args in
    let v = c.loop-b in
    let k = length v.yielded in
    let r : length a.row.now ≡ 64 = search rules in
    let turn = zip_turn a.row.now (part a.columns.now a.j) v.yielded c.into_iter-b-iterator.result v.b-iterator c.next.new.self
    c.next.result (search rules) (search rules) v.yielded_by _ c.in-Some.is c.next.ensures.steps in
    let one : c.from-n.result ≡ cond (eqb (c.in-Some.field-0-0.now + c.in-Some.field-0-1.now) a.a) 1 0 = search rules in
    let o : c.from-n.result ≡ cond (eqb (get_or a.row.now k 0 + get_or a.columns.now (a.j * 64 + k) 0) a.a) 1 0
    = one ∙ ap₂ (λ (x y : ℕ). cond (eqb (x + y) a.a) 1 0) (turn.2 0) (in_part a.columns.now a.j k _ (omega (arith, turn.0)) (turn.3 0)) in
    let n : length (v.yielded ++ (c.in-Some.field-0-0, c.in-Some.field-0-1) ∷ []) ≡ k + 1 = length-append v.yielded _ in
    let few = at_most_one (eqb (get_or a.row.now k 0 + get_or a.columns.now (a.j * 64 + k) 0) a.a) in (
      omega arith,
      ways_more a.row.now a.columns.now a.j a.a k v.n c.from-n.result v.invariant.1 o
          ∙ ap (ways_by a.row.now a.columns.now a.j a.a) (sym n),
    )

pub returns : goal.returns
returns c =
    let a = c.args in
    let v = c.loop-b in
    let r : length a.row.now ≡ 64 = search rules in
    let q : length a.columns.now ≡ 4096 = search rules in
    let ended = zip_end a.row.now (part a.columns.now a.j) v.yielded c.into_iter-b-iterator.result v.b-iterator c.next.new.self
    c.next.result (search rules) (search rules) v.yielded_by c.in-None.is c.next.ensures.steps in
    let e : length v.yielded ≡ 64
    = omega (
      arith,
      c.requires.0,
      length-take (a.j * 64 + 64 - a.j * 64) (drop (a.j * 64) a.columns.now),
      length-drop (a.j * 64) a.columns.now,
    ) in
    v.invariant.1 ∙ ap (ways_by a.row.now a.columns.now a.j a.a) e ∙ ways_all a.row.now a.columns.now a.j a.a
