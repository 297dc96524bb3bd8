-- What the code has of a request, and what the writing of its submit leaves.
use Rattle.std.specs.Prelude.{◌≡◌, ℕ, List, ◌++◌, Option}
use Rattle.octets.specs.Puts.{Puts}
use Rattle.message.specs.Fields.{value as value-field}
use Rattle.message.specs.Strings.{submit_string, data_string}
use Rattle.message.specs.Submit.{operation_put}
use Rattle.signature.specs.Calls.{Made}
use Rattle.signature.specs.Meaning.{SchemeMeaning}
use Rattle.rules.specs.declared.phase.Phase.TheVariants.{Idle}
use Rattle.rules.specs.Begin.{Request as Asked, read_of, write_of, code_of, register_of, value_of, last_with, Ranged}
use Rattle.rules.specs.Group.{Setup, SiteState}
use Rattle.site.specs.declared.request.Request.{Request}
use Rattle.site.specs.declared.request.Request.TheVariants.{Read, Write}

-- what a request of the code stands for
abbrev pub asked : Request → Asked
asked (Read r) = read_of r
asked (Write v) = write_of v.now

-- A request of an idle site, with the digest d of the site's last value, this one included.
pub record Asks (p : Setup) (s : SiteState) (q : Asked) (d : Option (List ℕ)) : Type 0 where
  pub last : last_with p.digest s.last q ≡ d
  pub ranged : Ranged p q
  pub idle : s.phase ≡ Idle

-- The submit of the site i for the request q, with timestamp t and the digest d of its last value, and two signatures that are left open.
pub record Submits (g : ℕ) (m m' : SchemeMeaning) (i : ℕ) (q : Asked) (t : ℕ) (d : Option (List ℕ)) (was is : List ℕ) (end : ℕ) : Type 0 where
  pub first : List ℕ
  pub second : List ℕ
  pub between : SchemeMeaning
  pub submits : Made g m between i (submit_string (code_of q) (register_of i q) t) first
  pub datas : Made g between m' i (data_string t d) second
  pub written : Puts (operation_put i (code_of q) (register_of i q) t ++ (first ++ (value-field.put (value_of q) ++ second))) 0 was is end
