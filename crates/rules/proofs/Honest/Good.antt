-- What holds in a run with our host. `all` is the list of the submits that the host took in the whole run, newest first, and `sch`
-- the scheme at its end: each fact is stated of these two, so that none has to be carried from one state to the next.
use Rattle.std.proofs.Common.{◌≡◌, ℕ, suc, ◌+◌, ◌<◌, ◌≤◌, true, ◌⊎◌, List, [], ◌∷◌, ◌++◌, map, length, unwrap_or}
use Rattle.std.specs.Option.{option_map}
use Rattle.message.specs.declared.code.Code.{Code}
use Rattle.message.specs.declared.code.Code.TheVariants.{Read}
use Rattle.message.specs.Commit.{commit}
use Rattle.message.specs.Slots.{StoredValue, value_slot, StoredVersion, version_slot}
use Rattle.message.specs.Strings.{submit_string, data_string, commit_string, proof_string}
use Rattle.message.specs.Submit.{Submission, submit}
use Rattle.signature.specs.Meaning.{SchemeMeaning}
use Rattle.store.specs.Meaning.{StoreMeaning}
use Rattle.version.specs.Order.{Slot}
use Rattle.rules.specs.declared.phase.Phase.{Phase}
use Rattle.rules.specs.declared.phase.Phase.TheVariants.{Idle, Waiting, Stopped, Retired}
use Rattle.rules.specs.Group.{Setup, SiteState, HostState, GroupState, Member, own}
use Rattle.rules.specs.Finish.{Completion}
use Rattle.rules.specs.Taking.{Exchange, value_at, version_at, own_at, NextSubmit, replied, version_stored}
use Rattle.rules.specs.Shown.{◌∈◌, value_found}
use Rattle.rules.specs.Law.{last_taken}
use Rattle.rules.proofs.Lists.{Ends}
use Rattle.rules.proofs.Fitting
use Rattle.rules.proofs.Honest.Taken.{of, times, cut, entries_of, value_by}

module _ (p : Setup) (all : List Submission) (sch : SchemeMeaning) where
  abbrev pub Signed : ℕ → List ℕ → List ℕ → Type 0
  Signed k text signature = sch.valid k text signature ≡ true

  -- the version's timestamps and digests are those of the history
  abbrev pub Fits : List Slot → List Submission → Type 0
  Fits v h = Fitting.Fits p.digest of v h

  -- a submit is its site's next one after the history h
  pub record Follows (a : Submission) (h : List Submission) : Type 0 where
    pub form : (submit p.size p.signature).Good a
    pub number : a.timestamp ≡ suc (times a.site h)
    pub signed : Signed a.site (submit_string a.code a.register a.timestamp) a.submit_signature

  abbrev pub Numbered : List Submission → Type 0
  Numbered [] = Unit {0}
  Numbered (a ∷ h) = Follows a h × Numbered h

  -- v is the version of k after the history h, which ends with an operation of k or is empty
  pub record Is (k : ℕ) (v : StoredVersion) (h : List Submission) : Type 0 where
    pub form : (version_slot p.size p.signature).Good v
    pub own : cut k h ≡ h
    pub fits : Fits v.version h
    pub signed :
        (h ≡ [])
        ⊎ (Signed k (commit_string v.version) v.commit_signature
        × Signed k (proof_string (unwrap_or (Fitting.D p.digest of h) [])) v.proof_signature)

  -- the value slot of k after the history h
  pub record Holds (k : ℕ) (v : StoredValue) (h : List Submission) : Type 0 where
    pub form : (value_slot p.signature).Good v
    pub timestamp : v.timestamp ≡ times k h
    pub value : v.value ≡ last_taken k h
    pub signed : (times k h ≡ 0) ⊎ Signed k (data_string v.timestamp (option_map p.digest v.value)) v.data_signature

  -- a submit that was written: `before` is what its site had finished
  pub record GoodSubmit (a : Submission) : Type 0 where
    pub before : List Submission
    pub inside : Ends before all
    pub follows : Follows a before
    pub data_signed :
        Signed a.site (data_string a.timestamp (option_map p.digest (value_by a (last_taken a.site before)))) a.data_signature

  -- the host after the history `taken`: its list has the newest part, and the leading commit is after the rest
  pub record GoodHost (taken : List Submission) (h : HostState) (m : StoreMeaning) : Type 0 where
    pub old : List Submission
    pub new : List Submission
    pub split : new ++ old ≡ taken
    pub list : h.list ≡ entries_of new
    pub numbered : Numbered taken
    pub member : Member p.size h.committer
    pub values : (k : ℕ) → Holds k (value_at p m k) taken
    pub versions : (k : ℕ) → (g : List Submission) × Ends g old × Is k (version_at p m k) g
    pub recent : (k : ℕ) → times k taken ≤ suc (own_at p m k)
    pub lead : Is h.committer (version_at p m h.committer) old

  -- a submit that was taken, and the host before that
  pub record GoodExchange (x : Exchange) : Type 0 where
    pub before : List Submission
    pub inside : Ends (x.submission ∷ before) all
    pub host : HostState
    pub store : StoreMeaning
    pub good : GoodHost before host store
    pub submitted : GoodSubmit x.submission
    pub next : NextSubmit p store x.submission
    pub free : length host.list < p.size
    pub answer : x.response ≡ replied p host store x.submission

  -- a finished operation: its submit was taken after `before`, and a read was answered with the last value of its register
  pub record GoodCompletion (d : Completion) : Type 0 where
    pub form : (commit p.size p.signature).Good d.commit
    pub submission : Submission
    pub before : List Submission
    pub inside : Ends (submission ∷ before) all
    pub site : submission.site ≡ d.commit.site
    pub number : submission.timestamp ≡ suc (times submission.site before)
    pub is : Is d.commit.site (version_stored d.commit) (submission ∷ before)
    pub found : d.code ≡ Read → value_found d.reply.found ≡ last_taken d.register before

  -- what the site k last wrote, and what of it was written, in each phase
  pub record AtRest (written : List Submission) (k : ℕ) (s : SiteState) (upto : List Submission) : Type 0 where
    pub last : s.last ≡ option_map p.digest (last_taken k upto)
    pub none_above : (a : Submission) → a ∈ written → a.site ≡ k → a.timestamp ≤ own s

  pub record Awaited (s : SiteState) (upto : List Submission) (c : Code) (r : ℕ) (a : Submission) : Type 0 where
    pub code : a.code ≡ c
    pub register : a.register ≡ r
    pub last : s.last ≡ option_map p.digest (value_by a (last_taken a.site upto))

  pub record Awaiting (written : List Submission) (k : ℕ) (s : SiteState) (upto : List Submission) (c : Code) (r : ℕ) : Type 0 where
    pub none_above : (a : Submission) → a ∈ written → a.site ≡ k → a.timestamp ≤ own s + 1
    pub this : (a : Submission) → a ∈ written → a.site ≡ k → a.timestamp ≡ own s + 1 → Awaited s upto c r a

  abbrev pub Standing : List Submission → ℕ → SiteState → List Submission → Phase → Type 0
  Standing written k s upto Idle = AtRest written k s upto
  Standing written k s upto (Waiting c r) = Awaiting written k s upto c r
  Standing written k s upto Stopped = ⊥
  Standing written k s upto Retired = Unit {0}

  -- a site: it has seen the history `upto`, which ends with its own last operation
  pub record GoodSite (written : List Submission) (k : ℕ) (s : SiteState) : Type 0 where
    pub number : s.number ≡ k
    pub upto : List Submission
    pub inside : Ends upto all
    pub own : cut k upto ≡ upto
    pub long : length s.version ≡ p.size
    pub fits : Fits s.version upto
    pub standing : Standing written k s upto s.phase

  pub record Good (written : List Submission) (done : List Completion) (answered : List Exchange) (x : GroupState) : Type 0 where
    pub sites : (k : ℕ) → GoodSite written k (x.sites k)
    pub host : GoodHost (map (λ (e : Exchange). e.submission) answered) x.host x.store
    pub submits : (a : Submission) → a ∈ written → GoodSubmit a
    pub completions : (d : Completion) → d ∈ done → GoodCompletion d
    pub exchanges : (e : Exchange) → e ∈ answered → (e.submission ∈ written) × GoodExchange e
