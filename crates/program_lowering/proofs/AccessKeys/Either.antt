-- One of none more.
use Rattle.std.proofs.Math.Bool.{or-false}

pub ruleset either = (or-false)
