-- The law over all runs.
use Rattle.std.specs.Prelude.{◌≡◌, ℕ, cond, ◌⊎◌, ◌↔◌, List, [], ◌∷◌, ◌++◌, map, None, Option, ◌==◌, ◌≢◌}
use Rattle.message.specs.declared.code.Code.TheVariants.{Read}
use Rattle.message.specs.Commit.{commit}
use Rattle.message.specs.Reply.{reply}
use Rattle.message.specs.Submit.{Submission, submit}
use Rattle.store.specs.Meaning.{Empty}
use Rattle.version.specs.Order.{AtOrBelow}
use Rattle.rules.specs.declared.phase.Phase.TheVariants.{Stopped}
use Rattle.rules.specs.Group.{Group, Member, Started, slot}
use Rattle.rules.specs.Finish.{Operation, Completion}
use Rattle.rules.specs.Taking.{Exchange, value_with}
use Rattle.rules.specs.Runs.{Call, begin, finish, abandon, take_submit, take_commit, Event, now, GroupEvent, alone, Runs}
use Rattle.rules.specs.Shown.{◌∈◌, Each, deed, completion_in, submissions, completions, exchanges, signed, checked, digested, value_found}
use Rattle.rules.specs.History.{operation, operation_of, count, history, Front, last_written}

-- the value last written to the register j among these submits, newest first
abbrev pub last_taken : ℕ → List Submission → Option (List ℕ)
last_taken j [] = None
last_taken j (a ∷ before) = cond (a.site == j) (value_with a.code a.value (last_taken j before)) (last_taken j before)

-- the submits that the host took
abbrev pub taken : List Event → List Submission
taken r = map (λ (x : Exchange). x.submission) (exchanges r)

module _ (G : Group) where
  abbrev digest : List ℕ → List ℕ
  digest = G.setup.digest

  -- Replies only replay: each signature that an accepted finish checked was the answer to an earlier signing of that string by
  -- that site in this group.
  abbrev pub Replays : List Event → Type 0
  Replays [] = Unit {0}
  Replays (e ∷ r) = Each (λ d. Each (λ s. s ∈ signed G r) (checked digest d)) (completion_in (deed e.call)) × Replays r

  -- two different strings that were digested share a digest
  pub record Collision (r : List Event) : Type 0 where
    pub one : List ℕ
    pub two : List ℕ
    pub digested_one : one ∈ digested digest r
    pub digested_two : two ∈ digested digest r
    pub differ : one ≡ two → ⊥
    pub collide : digest one ≡ digest two

  -- in a committed version each site's timestamp is the number of its operations in the version's view history
  abbrev pub Counts : List Event → Type 0
  Counts r =
      (d : Completion) → d ∈ completions r → (i : ℕ) → Member G.setup.size i
      → (slot d.commit.version i).timestamp ≡ count i (history (completions r) d)

  -- one committed version is at or below another exactly when its view history begins the other's
  abbrev pub Ordered : List Event → Type 0
  Ordered r =
      (d d' : Completion) → d ∈ completions r → d' ∈ completions r
      → AtOrBelow d.commit.version d'.commit.version ↔ Front (history (completions r) d) (history (completions r) d')

  -- a finished read gives the value that the register's owner last wrote in the reader's view history
  abbrev pub ReadsLast : List Event → Type 0
  ReadsLast r =
      (d : Completion) → d ∈ completions r → d.code ≡ Read
      → value_found d.reply.found ≡ last_written (submissions r) d.register (history (completions r) d)

  -- Our host takes only messages that the sites wrote, in any order and however often, and each finish gets the reply to its
  -- ticket's submit.
  abbrev pub submit_bytes : Submission → List ℕ
  submit_bytes a = (submit G.setup.size G.setup.signature).put a

  abbrev pub commit_bytes : Completion → List ℕ
  commit_bytes d = (commit G.setup.size G.setup.signature).put d.commit

  pub record ReplyTo (r : List Event) (t : Operation) (bs : List ℕ) : Type 0 where
    pub exchange : Exchange
    pub given : exchange ∈ exchanges r
    pub ticket : operation exchange.submission.site exchange.submission.timestamp ≡ t
    pub bytes : bs ≡ (reply G.setup.size G.setup.signature).put exchange.response

  abbrev pub Delivered : List Event → Call → Type 0
  Delivered r (begin i q was is answer) = Unit {0}
  Delivered r (finish i t bs was is answer) = ReplyTo r t bs
  Delivered r (abandon i t answer) = Unit {0}
  Delivered r (take_submit bs was is answer) = bs ∈ map submit_bytes (submissions r)
  Delivered r (take_commit bs answer) = bs ∈ map commit_bytes (completions r)

  abbrev pub Delivers : List Event → Type 0
  Delivers [] = Unit {0}
  Delivers (e ∷ r) = Delivered r e.call × Delivers r

  abbrev pub NoStop : List Event → Type 0
  NoStop r = (i : ℕ) → Member G.setup.size i → ((now G r).sites i).phase ≢ Stopped

  abbrev pub Comparable : List Event → Type 0
  Comparable r =
      (d d' : Completion) → d ∈ completions r → d' ∈ completions r
      → AtOrBelow d.commit.version d'.commit.version ⊎ AtOrBelow d'.commit.version d.commit.version

  -- a finished read gives the last write to its register that the host took before the read's submit, which it took
  pub record Fresh (r : List Event) (d : Completion) : Type 0 where
    pub submission : Submission
    pub took : submission ∈ taken r
    pub named : operation submission.site submission.timestamp ≡ operation_of d
    pub value :
        (later earlier : List Submission) (a : Submission) → later ++ (a ∷ earlier) ≡ taken r
        → operation a.site a.timestamp ≡ operation_of d → value_found d.reply.found ≡ last_taken d.register earlier

  abbrev pub ReadsFresh : List Event → Type 0
  ReadsFresh r = (d : Completion) → d ∈ completions r → d.code ≡ Read → Fresh r d

  -- the law of one group
  pub record GroupLaw (r : List Event) : Type 0 where
    -- with any host
    pub counts : Replays r → Counts r
    pub views : Replays r → Collision r ⊎ (Ordered r × ReadsLast r)
    -- with our host, on empty slots, and with no condition on signatures or digests
    pub honest : Empty G.start.store → Delivers r → NoStop r × Comparable r × ReadsFresh r

-- for each group of every run of several groups, whatever their sizes and kinds
abbrev pub Law : Type 0
Law =
    (G : ℕ → Group) → ((k : ℕ) → Started (G k)) → (r : List GroupEvent) → Runs G r
    → (k : ℕ) → GroupLaw (G k) (alone k r)
