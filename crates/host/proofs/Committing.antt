-- A commit that is taken, or that the store refuses.
use Rattle.std.proofs.Common.{◌≡◌, ℕ, Bool, cond, List, Ok, Err, refl}
use Rattle.octets.specs.Field.{read}
use Rattle.message.specs.Commit.{Commitment, commit}
use Rattle.message.specs.Slots.{version_slot}
use Rattle.store.specs.declared.fault.Fault.{Fault}
use Rattle.store.specs.declared.slot.Slot.TheVariants.{Version}
use Rattle.store.specs.Meaning.{StoreMeaning}
use Rattle.rules.specs.declared.fault.Fault.TheVariants.{Store}
use Rattle.rules.specs.Group.{Setup, HostState, slot}
use Rattle.rules.specs.Taking.{after_last, leads, version_stored}
use Rattle.host.specs.Calls.{CommitTaken}
use Rattle.host.specs.Keeps.{Keeps}
use Rattle.host.specs.Says.{NextCommitEnters, version_of}

module _ (p : Setup) (h : HostState) (m : StoreMeaning) (bs : List ℕ) (c : Commitment) (reads : read (commit p.size p.signature) bs ≡ Ok c)
    (next : NextCommitEnters p.size p.signature m c.site (slot c.version c.site).timestamp) where
  -- the version is entered, and the host follows where it leads
  pub taken : (h' : HostState) (m'' m' : StoreMeaning) (leading : Bool)
      → Keeps m Version c.site ((version_slot p.size p.signature).put (version_stored c)) m'' (Ok tt) → m' ≡ m''
      → leading ≡ leads c.version (version_of p.size p.signature m h.committer).version
      → h' ≡ cond leading (record { committer = c.site; list = after_last c.site h.list }) h → CommitTaken p h h' m m' bs (Ok tt)
  taken h' m'' m' leading w same lead after = (
    c,
    record {
      reads = reads;
      next = record { last = next.0; new = next.1 };
      left = w.0;
      entered = rw same w.1;
      after = rw lead at after;
    },
  )

  -- the store has no rewrite left
  pub refused : (m' : StoreMeaning) (e : Fault) → Keeps m Version c.site ((version_slot p.size p.signature).put (version_stored c)) m' (Err e)
      → CommitTaken p h h m m' bs (Err (Store e))
  refused m' e w = ((c, reads, record { last = next.0; new = next.1 }, w.0, w.1), refl, w.2)
