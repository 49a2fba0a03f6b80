-- The tree is tried if none is to be skipped and some is left, and kept if it costs less.
use Rattle.std.proofs.Common.{sym, ap, ◌∙◌, arith}
use Rattle.branches.specs.Links.{links_in}
use Rattle.branches.specs.Progress.{Held, pass_over}
use Rattle.branches.specs.Holding.{held_in}
use Rattle.branches.specs.Laws.Progress.{try_skipped, try_left, try_none, keep_yes, keep_no}
use Rattle.branches.proofs.progress.Progress.kept.Goals as goal
use Rattle.branches.proofs.progress.Progress.kept.Goals.{else-self-eq0-via-then-self-eq0+then-self-gt0+else-cost-self, else-self-eq0-via-then-self-eq0+else-self-gt0, else-self-eq0-via-else-self-eq0}

pub returns-then-cost-self : goal.returns-then-cost-self
returns-then-cost-self c =
    let s = c.args in
    λ m.
    let h = held_in m s.self in
    let t = links_in m s.tails s.heads in
    sym (try_left (λ t. s.cost) h t c.if-self-eq0.true c.if-self-gt0.true ∙ ap (λ (x : Held). pass_over x 1) (keep_yes (λ t. s.cost) h t c.if-cost-self.true))

pub returns-else-self-eq0 : goal.returns-else-self-eq0
returns-else-self-eq0 c =
    let s = c.args in
    λ m.
    let h = held_in m s.self in
    let t = links_in m s.tails s.heads in
    elim c.else-self-eq0.branch [
      | else-self-eq0-via-then-self-eq0+then-self-gt0+else-cost-self w ↦
          sym (try_left (λ t. s.cost) h t w.if-self-eq0.true w.if-self-gt0.true ∙ ap (λ (x : Held). pass_over x 1) (keep_no (λ t. s.cost) h t (let l = w.if-cost-self.false in omega arith)))
      | else-self-eq0-via-then-self-eq0+else-self-gt0 w ↦ sym (try_none (λ t. s.cost) h t (let l = w.if-self-gt0.false in omega arith))
      | else-self-eq0-via-else-self-eq0 w ↦ sym (try_skipped (λ t. s.cost) h t (let l = w.if-self-eq0.false in omega arith))
    ]
