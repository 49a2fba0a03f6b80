-- The tree that is held beside what is kept.
use Rattle.postman.specs.Plan.{Plan}
use Rattle.held_tree.specs.Cheaper.{IsBest}
use Rattle.rounds.specs.declared.round.Deep.{Deep}
use Rattle.round_rule.specs.Rounds.{under}

-- The best tree of the drive's round.
abbrev pub IsHeld : Plan → Deep → Type 0
IsHeld p d = IsBest (under p d.kept.drive.numbering) d.kept.drive.tries d.drive
