-- A machine of districts, lent: eight districts one after the other, the front of the line first, and the number of those that wait.
use Rattle.std.specs.Prelude.{◌≡◌, ℕ, ◌+◌, ◌*◌, length, get_or, take, drop}
use mathlib.Core.List.{List, [], ◌∷◌, ◌++◌, map, flat_map, Memᴰ}
use Rattle.postman.specs.Lists.{below}
use Rattle.held_file.specs.Held.{held_at}
use Rattle.tree_search.specs.declared.trees.Reached.{Reached}
use Rattle.district_machine.specs.declared.machine.District.{District}
use Rattle.district_machine.specs.declared.machine.Machine.{Machine}
use Rattle.encoding.specs.NumberBytes.{word_in, word_bytes, long_in, long_bytes}

-- A district takes 1,516 bytes, and the number of those that wait takes eight.
abbrev pub districts_bytes : ℕ
districts_bytes = 12136

-- What a district holds of the trees tried, from byte i on: the least cost, the tails and heads of the
-- best tree's links, and how many were tried.
abbrev pub reached_in : List ℕ → ℕ → Reached
reached_in bytes i =
    record {
      cost = long_in bytes i;
      tails = take 8 (drop (i + 8) bytes);
      heads = take 8 (drop (i + 16) bytes);
      tried = word_in bytes (i + 24);
    }

unfoldable pub reached_bytes : Reached → List ℕ
unfolding word_bytes long_bytes
reached_bytes g = long_bytes g.cost ++ g.tails ++ g.heads ++ word_bytes g.tried

-- The district whose bytes start at byte i: its place; its file's length, and 1,475 bytes; its budget, and what it holds.
abbrev pub district_in : List ℕ → ℕ → District
district_in bytes i =
    record {
      place = get_or bytes i 0;
      plan = held_at bytes (i + 9) (long_in bytes (i + 1));
      budget = word_in bytes (i + 1484);
      held = reached_in bytes (i + 1488);
    }

unfoldable pub district_bytes : District → List ℕ
unfolding word_bytes long_bytes reached_bytes
district_bytes d = (d.place ∷ []) ++ long_bytes d.plan.length ++ d.plan.file ++ word_bytes d.budget ++ reached_bytes d.held

-- The machine that is lent. Whatever the bytes are, they are one.
abbrev pub machine_in : List ℕ → Machine
machine_in bytes = record { line = map (λ k. district_in bytes (1516 * k)) (below 8); waiting = long_in bytes 12128 }

unfoldable pub machine_bytes : Machine → List ℕ
unfolding district_bytes long_bytes
machine_bytes m = flat_map district_bytes m.line ++ long_bytes m.waiting

-- What the types say of a machine: how long its arrays are.
pub record IsReachedSized (g : Reached) : Type 0 where
  pub tails : length g.tails ≡ 8
  pub heads : length g.heads ≡ 8

pub record IsDistrictSized (d : District) : Type 0 where
  pub file : length d.plan.file ≡ 1475
  pub held : IsReachedSized d.held

abbrev pub AreSized : List District → Type 0
AreSized l = (d : District) → Memᴰ d l → IsDistrictSized d

pub record IsSized (m : Machine) : Type 0 where
  pub eight : length m.line ≡ 8
  pub each : AreSized m.line
