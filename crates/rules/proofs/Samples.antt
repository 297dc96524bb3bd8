-- Sample runs, computed by the checker.
use Rattle.rules.specs.Examples.{Samples}
mod Toy
mod Steps
mod Overtaken
mod Forks
use Overtaken.{overtaken}
use Forks.{forking, restored}

pub samples : Samples
samples = record { overtaken = overtaken; forking = forking; restored = restored }
