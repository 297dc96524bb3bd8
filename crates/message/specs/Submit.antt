-- A submit: kind 1, site, code, register, timestamp, submit signature, value (present exactly in a write), data signature.
use Rattle.std.specs.Prelude.{ℕ, List, ◌++◌, Option}
use Rattle.std.specs.Option.{option_map}
use Rattle.octets.specs.Field.{Field, numeral, span, ◌then◌, shaped}
use Rattle.octets.specs.Numbers.{big_endian}
use Rattle.message.specs.declared.code.Code.{Code}
use Rattle.message.specs.declared.submit.Submit.{Submit}
use Rattle.message.specs.Code.{code_number}
use Rattle.message.specs.Fields.{written}
use Rattle.message.specs.Heads.{submit_head}

pub record Submission : Type 0 where
  pub site : ℕ
  pub code : Code
  pub register : ℕ
  pub timestamp : ℕ
  pub submit_signature : List ℕ
  pub value : Option (List ℕ)
  pub data_signature : List ℕ

-- in a group of n sites, with signatures of g bytes
abbrev pub submit : ℕ → ℕ → Field Submission
submit n g =
    shaped
    (λ p. record { site = p.0.1.0; code = p.0.1.1.0; register = p.0.1.1.1; timestamp = p.1.0; submit_signature = p.1.1.0; value = p.1.1.1.0; data_signature = p.1.1.1.1 })
    (λ m. ((tt, (m.site, (m.code, m.register))), (m.timestamp, (m.submit_signature, (m.value, m.data_signature)))))
    (submit_head n then λ h. numeral 4 then λ _. span g then λ _. written h.1.1.0 then λ _. span g)

-- what a submit of the code stands for
abbrev pub submitted : Submit → Submission
submitted m =
    record {
      site = m.site;
      code = m.code;
      register = m.register;
      timestamp = m.timestamp;
      submit_signature = m.submit_signature.now;
      value = option_map (λ x. x.now) m.value;
      data_signature = m.data_signature.now;
    }

-- the fields in front of its submit signature
abbrev pub operation_put : ℕ → Code → ℕ → ℕ → List ℕ
operation_put s c r t = big_endian 1 1 ++ (big_endian 1 s ++ (big_endian 1 (code_number c) ++ (big_endian 1 r ++ big_endian 4 t)))
