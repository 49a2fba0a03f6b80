-- THE MACHINE BY VALUE, and the line that it stands for.
use Rattle.std.specs.Prelude.{List, [], map, ℕ, length, take}
use Rattle.tree_search.specs.Resumed.{nothing_held}
use Rattle.held_file.specs.Padded.{padded}
use Rattle.held_file.specs.Held.{file_in, held_of}
use Rattle.district_machine.specs.declared.machine.District.{District as DistrictRecord}
use Rattle.district_machine.specs.declared.machine.Machine.{Machine}
use Rattle.postman.specs.Districts.{District, district, Line}

-- The plan that a district holds.
abbrev pub bytes_of : DistrictRecord → List ℕ
bytes_of d = file_in d.plan

abbrev pub district_of : DistrictRecord → District
district_of d = district d.place (bytes_of d) d.budget d.held.tried

-- The first n districts.
abbrev pub districts_in : List DistrictRecord → ℕ → Line
districts_in line n = map district_of (take n line)

-- The districts that wait, the front one first; and their line.
abbrev pub waiting_in : Machine → List DistrictRecord
waiting_in m = take m.waiting m.line

abbrev pub line_of : Machine → Line
line_of m = districts_in m.line m.waiting

-- What stands behind the line: no file, and zeros.
abbrev pub empty_district : DistrictRecord
empty_district = record { place = 0; plan = held_of []; budget = 0; held = nothing_held }

-- The machine in which just these districts wait; and the empty one.
abbrev pub machine_of : List DistrictRecord → Machine
machine_of ds = record { line = padded 8 empty_district ds; waiting = length ds }

abbrev pub empty_machine : Machine
empty_machine = machine_of []

-- What is read past the eighth district. (No call does.)
abbrev pub no_district : DistrictRecord
no_district =
    record {
      place = 0;
      plan = record { length = 0; file = [] };
      budget = 0;
      held = record { cost = 0; tails = []; heads = []; tried = 0 };
    }
