-- A reply: kind 2, code, committer, committed version, its commit signature, a count up to n, that many entries, n proof signatures;
-- for a read also the owner's version, its commit signature, timestamp, value and data signature.
use Rattle.std.specs.Prelude.{ℕ, ◌+◌, ◌*◌, List, [], map, length, take, Some, None, Option, nat_le}
use Rattle.std.specs.List.{range_with_len}
use Rattle.std.specs.Option.{option_map, unwrap_or}
use Rattle.octets.specs.Field.{Field, nothing, numeral, span, only, ◌then◌, shaped, times}
use Rattle.version.specs.Layout.{version_field}
use Rattle.version.specs.Order.{Slot}
use Rattle.version.specs.Version.{slots}
use Rattle.message.specs.declared.code.Code.{Code}
use Rattle.message.specs.declared.code.Code.TheVariants.{Read, Write}
use Rattle.message.specs.declared.reply.Entry.{Entry}
use Rattle.message.specs.declared.reply.Entries.{Entries}
use Rattle.message.specs.declared.reply.Found.{Found}
use Rattle.message.specs.declared.reply.Reply.{Reply}
use Rattle.message.specs.Fields.{site, code, register, value}
use Rattle.message.specs.Heads.{reply_head}
use Rattle.message.specs.Places.{bytes_at, ValueBefore}

-- a submit that was taken and is not committed yet: site, code, register, submit signature
pub record Listed : Type 0 where
  pub site : ℕ
  pub code : Code
  pub register : ℕ
  pub submit_signature : List ℕ

abbrev pub entry : ℕ → ℕ → Field Listed
entry n g =
    shaped
    (λ p. record { site = p.0; code = p.1.0; register = p.1.1.0; submit_signature = p.1.1.1 })
    (λ m. (m.site, (m.code, (m.register, m.submit_signature))))
    (site n then λ s. code then λ c. register n s c then λ _. span g)

abbrev pub entries : ℕ → ℕ → Field (List Listed)
entries n g = shaped (λ p. p.1) (λ xs. (length xs, xs)) (only (λ m. nat_le m n) (numeral 1) then λ m. times m (entry n g))

-- what a register holds
pub record Held : Type 0 where
  pub version : List Slot
  pub commit_signature : List ℕ
  pub timestamp : ℕ
  pub value : Option (List ℕ)
  pub data_signature : List ℕ

abbrev pub no_held : Held
no_held = record { version = []; commit_signature = []; timestamp = 0; value = None; data_signature = [] }

abbrev pub found : ℕ → ℕ → Code → Field (Option Held)
found n g Read =
    shaped
    (λ p. Some (record { version = p.0; commit_signature = p.1.0; timestamp = p.1.1.0; value = p.1.1.1.0; data_signature = p.1.1.1.1 }))
    (λ o. let h : Held = unwrap_or o no_held in (h.version, (h.commit_signature, (h.timestamp, (h.value, h.data_signature)))))
    (version_field n then λ _. span g then λ _. numeral 4 then λ _. value then λ _. span g)
found n g Write = shaped (λ _. None) (λ _. tt) nothing

pub record Response : Type 0 where
  pub code : Code
  pub committer : ℕ
  pub version : List Slot
  pub commit_signature : List ℕ
  pub entries : List Listed
  pub proofs : List (List ℕ)
  pub found : Option Held

-- in a group of n sites, with signatures of g bytes
abbrev pub reply : ℕ → ℕ → Field Response
reply n g =
    shaped
    (λ p. record { code = p.0.1.0; committer = p.0.1.1; version = p.1.0; commit_signature = p.1.1.0; entries = p.1.1.1.0; proofs = p.1.1.1.1.0; found = p.1.1.1.1.1 })
    (λ m. ((tt, (m.code, m.committer)), (m.version, (m.commit_signature, (m.entries, (m.proofs, m.found))))))
    (reply_head n then λ h. version_field n then λ _. span g then λ _. entries n g then λ _. times n (span g) then λ _. found n g h.1.0)

-- what those of the code stand for
abbrev pub listed : Entry → Listed
listed e = record { site = e.site; code = e.code; register = e.register; submit_signature = e.signature.now }

abbrev pub all_listed : Entries → List Listed
all_listed es = map listed (take es.count es.items)

-- so many signatures of g bytes from a place on, one behind the other
abbrev pub signatures : ℕ → List ℕ → ℕ → ℕ → List (List ℕ)
signatures g bs n at = map (λ k. bytes_at bs (at + g * k) g) (range_with_len 0 n)

abbrev pub held : Found → Held
held f =
    record {
      version = slots f.version;
      commit_signature = f.commit_signature.now;
      timestamp = f.timestamp;
      value = option_map (λ x. x.now) f.value;
      data_signature = f.data_signature.now;
    }

-- a reply answers a read exactly if it says what was found
abbrev pub asked : Option Found → Code
asked None = Write
asked (Some f) = Read

abbrev pub response : ℕ → ℕ → Reply → Response
response g n m =
    record {
      code = asked m.found;
      committer = m.committer;
      version = slots m.version;
      commit_signature = m.commit_signature.now;
      entries = all_listed m.entries;
      proofs = signatures g m.proofs.now n 0;
      found = option_map held m.found;
    }

-- where the value stands that was found: in front of the data signature, which is the last of the bytes
abbrev pub FoundBefore : ℕ → List ℕ → Option Found → Type 0
FoundBefore g bs None = Unit {0}
FoundBefore g bs (Some f) = ValueBefore g bs (option_map (λ x. x.now) f.value)
