-- Files by value: written over zeros, read, and lent.
use Rattle.std.proofs.lemmas.Result.{err_from_is_err_and}
use Rattle.std.specs.Prelude.{◌≡◌, Result, Ok, Err, IsErrAnd, ℕ, zero, suc, ◌+◌, ◌-◌, ◌≤◌, take, replicate}
use Rattle.std.proofs.Math.Path.{sym, ap}
use Rattle.std.proofs.Common.{◌∙◌, arith, length-append, length-drop, length-take-le}
use mathlib.Core.List.{List, ◌++◌, append-nil}
use Rattle.std.proofs.Math.Option.{Option, none, some}
use Rattle.std.proofs.Math.ListN.{length, drop}
use Rattle.std.proofs.lemmas.List.{length-replicate}
use Rattle.std.proofs.Math.Seq.{take-append_seam}
use Rattle.postman.specs.Plan.{Plan}
use Rattle.postman.specs.Refusal.{first_refusal, given}
use Rattle.refusal.specs.Verdict.{refusal_number}
use Rattle.postman.specs.PlanFile.{edition, arc_count, file_of, file_length, file_conditions, write_refusal, write_answer, bytes_after}
use Rattle.postman.specs.OpenPlan.{longest_file}
use Rattle.postman_laws.specs.Laws.FileLength.{file_length_le}
use Rattle.postman_laws.specs.Laws.Acceptance.{accepted_is_file}
use Rattle.postman_laws.specs.Laws.PlanFile.{length_file_of}
use Rattle.plan_writer.specs.Laws.Writing.{length_given, given_bytes}
use Rattle.encoding.specs.Laws.NumberBytes.{IsAt, bytes_back}
use Rattle.refusal.specs.declared.Refusal.{Refusal}
use Rattle.held_file.specs.declared.Held.{Held}
use Rattle.held_file.specs.Padded.{padded}
use Rattle.held_file.specs.Held.{file_in, held_of, held_at, IsHeld}

abbrev pub zeros : List ℕ
zeros = replicate longest_file 0

-- what is left of zeros behind a file
behind : (n m : ℕ) → drop {A = ℕ} n (replicate m 0) ≡ replicate (m - n) 0
behind zero m = ap (λ (k : ℕ). replicate k 0) (let e : m ≡ m - 0 = omega arith in e)
behind (suc n) zero = ap (λ (k : ℕ). replicate k 0) (let e : 0 ≡ 0 - suc n = omega arith in e)
behind (suc n) (suc m) = behind n m ∙ ap (λ (k : ℕ). replicate k 0) (let e : m - n ≡ suc m - suc n = omega arith in e)

-- ---- what is held

-- What refuses is an answer.
pub refusal_held : (o : Option ℕ) (r : Refusal) (file : List ℕ) → o ≡ some (refusal_number r) → IsHeld o file (Err r)
refusal_held o r file e = record { verdict = sym e; held = tt }

pub stopped_held : (o : Option ℕ) (r : Refusal) (file : List ℕ) (w : Result Held Refusal) → IsErrAnd w (λ s. s ≡ r)
    → o ≡ some (refusal_number r) → IsHeld o file w
stopped_held o r file w h e = let f = err_from_is_err_and w h in rw (f.1 ∙ ap Err f.2) (refusal_held o r file e)

-- A file that was written over zeros.
module _ (e : ℕ) (p : Plan) (k : ℕ) (h : given k ≡ write_answer e p zeros) where
  accepted : (write_refusal e p longest_file ≡ none) × (k ≡ file_length e (length p.arcs))
  accepted = rw (length-replicate {A = ℕ} 1475 0) at (length_given e p zeros k h)

  pub written_held : (s : List ℕ) → s ≡ bytes_after e p zeros
      → IsHeld (write_refusal e p longest_file) (file_of e p) (Ok (record { length = k; file = s }))
  unfolding held_of
  written_held s f =
      let w = accepted.0 in
      let long : length (file_of e p) ≡ k = length_file_of e p ∙ sym accepted.1 in
      let content : s ≡ padded longest_file 0 (file_of e p) =
      f ∙ given_bytes e p zeros (length_given e p zeros k h).0 ∙ ap (λ (n : ℕ). file_of e p ++ drop n zeros) (sym (length_file_of e p))
      ∙ ap (λ (r : List ℕ). file_of e p ++ r) (behind (length (file_of e p)) longest_file)
      in
      record { verdict = sym w; held = λ j. record { length = sym long j; file = content j } }

-- A file that is copied over zeros.
pub copied_held : (file x : List ℕ) → x ≡ file → record { length = length file; file = x ++ drop (length file) zeros } ≡ held_of file
unfolding held_of
copied_held file x e =
    let content = ap (λ (r : List ℕ). r ++ drop (length file) zeros) e
    ∙ ap (λ (r : List ℕ). file ++ r) (behind (length file) longest_file) in
    λ j. record { length = length file; file = content j }

-- A file is held as it is.
pub held_file : (file : List ℕ) → file_in (held_of file) ≡ file
unfolding held_of
held_file file = take-append_seam file (replicate (longest_file - length file) 0)

-- An array of 1,475 bytes, and a length that is no more.
abbrev pub IsShort : Held → Type 0
IsShort h = (length h.file ≡ longest_file) × (h.length ≤ longest_file)

pub held_size : (file : List ℕ) → length file ≤ longest_file → IsShort (held_of file)
unfolding held_of
held_size file h =
    let a = length-append file (replicate (longest_file - length file) 0) in
    let z = length-replicate {A = ℕ} (longest_file - length file) 0 in
    (omega arith, h)

-- ---- where it is lent

-- 1,475 bytes have no zeros behind them.
pub held_whole : (lent : List ℕ) (i : ℕ) → i + longest_file ≤ length lent
    → (held_of (take (i + longest_file - i) (drop i lent))).file ≡ take longest_file (drop i lent)
unfolding held_of
held_whole lent i room =
    let k = i + longest_file - i in
    let e : k ≡ longest_file = omega arith in
    let file = take k (drop i lent) in
    let d = length-drop i lent in
    let long = length-take-le k (drop i lent) (omega arith) in
    ap (λ (n : ℕ). file ++ replicate n 0) (let z : longest_file - length file ≡ 0 = omega arith in z) ∙ append-nil file
    ∙ ap (λ (n : ℕ). take n (drop i lent)) e

-- Bytes that were put are read as the file that they are of.
pub file_back : (h : Held) → length h.file ≡ longest_file → {all : List ℕ} {i : ℕ} (n : ℕ) → n ≡ h.length → IsAt all i h.file
    → held_at all i n ≡ h
file_back h long n e s = let file = bytes_back h.file longest_file long s in λ j. record { length = e j; file = file j }

-- A file that is read has no more.
pub file_short : (bytes : List ℕ) → first_refusal (file_conditions bytes) ≡ none → length bytes ≤ longest_file
file_short bytes e =
    let f = accepted_is_file bytes e in
    let x = f.exact in
    let l = file_length_le (edition bytes) (arc_count bytes) f.arc_count_holds in
    omega arith
