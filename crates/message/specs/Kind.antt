-- The kinds of messages, and their numbers in bytes.
use Rattle.std.specs.Prelude.{ℕ}
use Rattle.message.specs.declared.kind.Kind.{Kind}
use Rattle.message.specs.declared.kind.Kind.TheVariants.{Submit, Reply, Commit}

abbrev pub kind_number : Kind → ℕ
kind_number Submit = 1
kind_number Reply = 2
kind_number Commit = 3
