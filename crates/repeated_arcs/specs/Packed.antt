-- An arc as one number: 8 bits each for tail, head and standing, 16 each for the cost and the service cost.
use Rattle.std.specs.Prelude.{ℕ, ◌+◌, ◌*◌}
use Rattle.postman.specs.Plan.{Arc}

abbrev pub packed_arc : Arc → ℕ
packed_arc a = a.tail * 281474976710656 + a.head * 1099511627776 + a.standing * 4294967296 + a.cost * 65536 + a.service
