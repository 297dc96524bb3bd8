-- The strings that the texts of the code stand for.
use Rattle.std.specs.Prelude.{ℕ, List}
use Rattle.std.specs.Option.{option_map}
use Rattle.version.specs.Version.{slots}
use Rattle.message.specs.declared.text.Text.{Text}
use Rattle.message.specs.declared.text.Text.TheVariants.{Submit, Data, Commit, Proof}
use Rattle.message.specs.Strings.{tag, submit_string, data_string, commit_string, proof_string}

abbrev pub text_of : Text → List ℕ
text_of (Submit c r t) = submit_string c r t
text_of (Data t d) = data_string t (option_map (λ x. x.now) d)
text_of (Commit v) = commit_string (slots v.now)
text_of (Proof d) = proof_string d.now

abbrev pub tag_of : Text → List ℕ
tag_of (Submit c r t) = tag 0
tag_of (Data t d) = tag 1
tag_of (Commit v) = tag 2
tag_of (Proof d) = tag 3
