-- The kind and the first fields of each message, in a group of n sites.
use Rattle.std.specs.Prelude.{ℕ}
use Rattle.octets.specs.Field.{Field, ◌then◌}
use Rattle.message.specs.declared.code.Code.{Code}
use Rattle.message.specs.Fields.{kind, site, code, register}

abbrev pub submit_head : ℕ → Field ((Unit {0}) × (ℕ × (Code × ℕ)))
submit_head n = kind 1 then λ _. site n then λ s. code then λ c. register n s c

abbrev pub reply_head : ℕ → Field ((Unit {0}) × (Code × ℕ))
reply_head n = kind 2 then λ _. code then λ _. site n

abbrev pub commit_head : ℕ → Field ((Unit {0}) × ℕ)
commit_head n = kind 3 then λ _. site n
