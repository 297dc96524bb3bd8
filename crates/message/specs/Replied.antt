-- A reply whose parts are to be written, with signatures of g bytes.
use Rattle.std.specs.Prelude.{ℕ, ◌+◌, ◌*◌, ◌<◌, min, List, ◌++◌, map, length, take, Some, None, Option}
use Rattle.std.specs.Option.{option_map}
use Rattle.octets.specs.Field.{span, put_all}
use Rattle.octets.specs.Numbers.{big_endian}
use Rattle.octets.specs.Puts.{Puts}
use Rattle.version.specs.Version.{slots}
use Rattle.message.specs.declared.code.Code.{Code}
use Rattle.message.specs.declared.reply.Found.{Found}
use Rattle.message.specs.declared.reply_parts.ListEntry.{ListEntry}
use Rattle.message.specs.declared.reply_parts.ReplyParts.{ReplyParts}
use Rattle.message.specs.Code.{code_number}
use Rattle.message.specs.Reply.{Listed, Response, asked, entry, held, signatures}
use Rattle.message.specs.Writes.{TooLong}

-- an entry has room for a signature of 64 bytes, of which the first g count
abbrev pub entered : ℕ → ListEntry → Listed
entered g e = record { site = e.site; code = e.code; register = e.register; submit_signature = take g e.signature }

-- at most eight entries, and a proof signature for each site of the version's group
abbrev pub responded : ℕ → ReplyParts → Response
responded g m =
    record {
      code = asked m.found;
      committer = m.committer;
      version = slots m.version.now;
      commit_signature = m.commit_signature.now;
      entries = map (entered (min g 64)) (take 8 m.entries.now);
      proofs = signatures g m.proofs.now (length (slots m.version.now)) 0;
      found = option_map held m.found;
    }

abbrev pub FoundTooLong : Option Found → Type 0
FoundTooLong None = ⊥
FoundTooLong (Some f) = TooLong (option_map (λ x. x.now) f.value)

-- what the inner calls answer: the fields in front of the version
abbrev pub answer_put : Code → ℕ → List ℕ
answer_put c s = big_endian 1 2 ++ (big_endian 1 (code_number c) ++ big_endian 1 s)

-- an entry, of at most 67 bytes; where it does not fit, nothing is said of the bytes
abbrev pub PutsEntry : ℕ → ListEntry → ℕ → List ℕ → List ℕ → Option ℕ → Type 0
PutsEntry g e start was is (Some end) = Puts ((entry 0 g).put (entered g e)) start was is end
PutsEntry g e start was is None = length was < start + 67

-- the count and the entries
abbrev pub entries_put : ℕ → List ListEntry → List ℕ
entries_put g es = big_endian 1 (length es) ++ put_all (entry 0 g) (map (entered g) es)

abbrev pub PutsEntries : ℕ → List ListEntry → List ℕ → List ℕ → Option ℕ → Type 0
PutsEntries g es was is (Some end) = Puts (entries_put g es) 0 was is end
PutsEntries g es was is None = length was < 1 + 67 * length es

-- the proof signatures one behind the other
abbrev pub proofs_put : ℕ → List ℕ → ℕ → List ℕ
proofs_put g bs n = put_all (span g) (signatures g bs n 0)
