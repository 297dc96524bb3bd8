-- The bytes of a submit.
use Rattle.std.proofs.Common.{◌≡◌, ℕ, ◌+◌, ◌≤◌, List, ◌++◌, length, Some, None, Option, sym, refl, ap, ◌∙◌, subst, arith, rules}
use Rattle.std.proofs.lemmas.List.{length-append}
use Rattle.std.specs.Option.{IsSome}
use Rattle.octets.specs.Puts.{Puts, PutsOrNot}
use Rattle.octets.proofs.Places.{◌⨾◌}
use Rattle.message.specs.Fields.{value}
use Rattle.message.specs.Submit.{operation_put}
use Rattle.rules.specs.Begin.{Request, read_of, write_of, code_of, register_of, value_of, value_size}

-- a value takes its bytes and two more
pub value-length : (q : Request) → length (value.put (value_of q)) ≡ 2 + value_size q
value-length (read_of r) = refl
value-length (write_of v) = omega arith

-- and so do its two parts
pub parts_length : (size bytes : List ℕ) (q : Request) → size ++ bytes ≡ value.put (value_of q) → length size + length bytes ≡ 2 + value_size q
parts_length size bytes q e = sym (length-append size bytes) ∙ ap length e ∙ value-length q

-- the parts of a submit, one behind the other
module _ (i : ℕ) (q : Request) (t : ℕ) where
  pub submit_parts : {head first size bytes second : List ℕ} {was w₁ w₂ w₃ w₄ is : List ℕ} {a₁ a₂ a₃ a₄ end : ℕ} → head ≡ operation_put i (code_of q) (register_of i q) t
      → size ++ bytes ≡ value.put (value_of q)
      → Puts head 0 was w₁ a₁ → Puts first a₁ w₁ w₂ a₂ → Puts size a₂ w₂ w₃ a₃ → Puts bytes a₃ w₃ w₄ a₄ → Puts second a₄ w₄ is end
      → Puts (operation_put i (code_of q) (register_of i q) t ++ (first ++ (value.put (value_of q) ++ second))) 0 was is end
  submit_parts {head} {first} {size} {bytes} {second} {was} {is = is} {end = end} h e p f s b d =
      let Written : List ℕ → List ℕ → Type 0 = λ front field. Puts (front ++ (first ++ (field ++ second))) 0 was is end in
      subst (λ front. Written front (value.put (value_of q))) h (subst (Written head) e (p ⨾ f ⨾ (s ⨾ b) ⨾ d))

-- bytes that were put where there is room for them
pub put_known : (bs : List ℕ) (start : ℕ) (was is : List ℕ) (r : Option ℕ) → start + length bs ≤ length was → PutsOrNot bs start was is r → IsSome r
put_known bs start was is None h p = let s = p.0 in absurd (omega arith)
put_known bs start was is (Some end) h p = search rules
