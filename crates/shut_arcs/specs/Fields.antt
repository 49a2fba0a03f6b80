use Rattle.std.specs.Prelude.{ℕ}
use Rattle.postman.specs.Windows.{Window, Departure}
use Rattle.shut_arcs.specs.declared.window.Window.{Window as WindowRecord}
use Rattle.shut_arcs.specs.declared.window.Departure.{Departure as DepartureRecord}

-- A window and a departure, by their fields.
abbrev pub window : ℕ → ℕ → ℕ → ℕ → Window
window arc weekday from to = record { arc = arc; weekday = weekday; from = from; to = to }

abbrev pub departure : ℕ → ℕ → Departure
departure weekday minute = record { weekday = weekday; minute = minute }

-- Those of a struct.
abbrev pub window_value : WindowRecord → Window
window_value w = record { arc = w.arc; weekday = w.weekday; from = w.from; to = w.to }

abbrev pub departure_value : DepartureRecord → Departure
departure_value d = record { weekday = d.weekday; minute = d.minute }
