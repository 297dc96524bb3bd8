-- The reply of a host, by the parts that it is made of.
use Rattle.std.specs.Prelude.{ℕ, cond, map, Some, None, Option, ◌==◌}
use Rattle.std.specs.List.{range_with_len}
use Rattle.message.specs.declared.code.Code.{Code}
use Rattle.message.specs.declared.code.Code.TheVariants.{Read, Write}
use Rattle.message.specs.Reply.{Held, Response}
use Rattle.message.specs.Slots.{StoredValue}
use Rattle.store.specs.Meaning.{StoreMeaning}
use Rattle.rules.specs.Group.{HostState}
use Rattle.rules.specs.Taking.{held}
use Rattle.host.specs.Says.{value_of, version_of}

-- what an operation of the site s on the register r finds, where the site's value slot then says v
abbrev pub found_by : ℕ → ℕ → StoreMeaning → Code → ℕ → ℕ → StoredValue → Option Held
found_by n g m Read s r v = Some (held (version_of n g m r) (cond (s == r) v (value_of g m r)))
found_by n g m Write s r v = None

-- the reply: what the committer's version slot says, the list, all proof signatures, and what was found
abbrev pub reply_to : ℕ → ℕ → HostState → StoreMeaning → Code → ℕ → ℕ → StoredValue → Response
reply_to n g h m c s r v =
    record {
      code = c;
      committer = h.committer;
      version = (version_of n g m h.committer).version;
      commit_signature = (version_of n g m h.committer).commit_signature;
      entries = h.list;
      proofs = map (λ i. (version_of n g m i).proof_signature) (range_with_len 1 n);
      found = found_by n g m c s r v;
    }
