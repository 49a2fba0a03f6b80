-- What judging answers, by its refusal.
use Rattle.std.specs.Prelude.{◌≡◌, ◌↔◌, ℕ}
use Rattle.std.proofs.Common.{ap}
use Rattle.std.proofs.Math.Option.{Option, none, some}
use Rattle.postman_laws.specs.Laws.Contradiction.{zero_is_one}
use Rattle.postman.specs.Refusal.{Answer, refused, given, answer}

pub answer_refused : (o : Option ℕ) (x k : ℕ) → (answer o x ≡ refused k) ↔ (o ≡ some k)
unfolding answer
answer_refused none x k =
    ((λ e. zero_is_one (cc)), (λ e. zero_is_one (cc)))
answer_refused (some r) x k = ((λ e. ap some (number e)), (λ e. ap (λ (o : Option ℕ). answer o x) e))
  where
    held : Answer ℕ → ℕ
    held (given y) = 0
    held (refused y) = y

    number : ◌≡◌ {A = Answer ℕ} (refused r) (refused k) → r ≡ k
    number e = ap held e
