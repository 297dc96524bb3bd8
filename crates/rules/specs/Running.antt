-- The running version: a committed version, and what operations make of it one by one.
use Rattle.std.specs.Prelude.{ℕ, ◌+◌, List, [], ◌∷◌, ◌++◌, Some, Option}
use Rattle.std.specs.Option.{unwrap_or}
use Rattle.message.specs.Reply.{Listed, Response}
use Rattle.version.specs.Order.{Slot, slot_with}
use Rattle.rules.specs.Group.{slot, with_slot}

-- a version, and the digest of the view history so far
pub record Running : Type 0 where
  pub version : List Slot
  pub digest : Option (List ℕ)

-- the string that is digested when an operation of the site i follows: the digest so far, no bytes if there is none, and the site
abbrev pub link : Option (List ℕ) → ℕ → List ℕ
link d i = unwrap_or d [] ++ (i ∷ [])

-- a reply's committed version, with the committer's digest in it
abbrev pub from_reply : Response → Running
from_reply a = record { version = a.version; digest = (slot a.version a.committer).digest }

module _ (H : List ℕ → List ℕ) where
  -- one operation of the site i more
  abbrev pub rise : Running → ℕ → Running
  rise w i =
      record {
        version = with_slot w.version i (slot_with ((slot w.version i).timestamp + 1) (Some (H (link w.digest i))));
        digest = Some (H (link w.digest i));
      }

  -- the operations of a list, the first one first
  abbrev pub rise_all : Running → List Listed → Running
  rise_all w [] = w
  rise_all w (e ∷ es) = rise_all (rise w e.site) es

  -- what the site i makes of a reply: the committed version, the list, and its own operation
  abbrev pub result : ℕ → Response → Running
  result i a = rise (rise_all (from_reply a) a.entries) i

  -- the strings digested on the way
  abbrev pub links : Running → List Listed → List (List ℕ)
  links w [] = []
  links w (e ∷ es) = link w.digest e.site ∷ links (rise w e.site) es

  abbrev pub all_links : ℕ → Response → List (List ℕ)
  all_links i a = links (from_reply a) a.entries ++ (link (rise_all (from_reply a) a.entries).digest i ∷ [])
