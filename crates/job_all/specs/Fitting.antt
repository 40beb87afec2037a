-- The way that an answer tells of fits its buffer.
use Rattle.std.specs.Prelude.{ℕ, ◌≤◌, List, length}
use Rattle.toll.specs.declared.seconds.Seconds.{Seconds}
use Rattle.planner.specs.declared.answers.Answer.{Answer}
use Rattle.planner.specs.declared.answers.Answer.TheVariants.{Refused, Done, Route, Place, Reading, Tally}

abbrev pub WayFits : Answer Seconds → (buffer : List ℕ) → Type 0
WayFits (Refused why) buffer = Unit {0}
WayFits Done buffer = Unit {0}
WayFits (Route a) buffer = a.length ≤ length buffer
WayFits (Place p) buffer = Unit {0}
WayFits (Reading r) buffer = Unit {0}
WayFits (Tally n) buffer = Unit {0}
