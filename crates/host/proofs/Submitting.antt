-- A submit that is taken, or refused by a check that comes after its order.
use Rattle.std.proofs.Common.{◌≡◌, ℕ, ◌<◌, List, length, Ok, Err, Result, refl, subst}
use Rattle.octets.specs.Field.{read}
use Rattle.message.specs.declared.code.Code.{Code}
use Rattle.message.specs.declared.code.Code.TheVariants.{Read, Write}
use Rattle.message.specs.Reply.{Response, reply}
use Rattle.message.specs.Submit.{Submission, submit}
use Rattle.store.specs.Meaning.{StoreMeaning}
use Rattle.rules.specs.declared.fault.Fault.{Fault}
use Rattle.rules.specs.Group.{Setup, HostState}
use Rattle.rules.specs.Taking.{NextSubmit, found_at, replied}
use Rattle.host.specs.Calls.{SubmitTaken}
use Rattle.host.specs.Enters.{Enters, reply_then, value_then}
use Rattle.host.specs.Replies.{found_by}
use Rattle.host.specs.Says.{NextSubmitEnters}

module _ (p : Setup) (h : HostState) (m : StoreMeaning) (bs was : List ℕ) (a : Submission) (reads : read (submit p.size p.signature) bs ≡ Ok a)
    (order : NextSubmitEnters p.size p.signature m a.site a.timestamp) where
  next : NextSubmit p m a
  next = record { next = order.0; done = order.1 }

  found_same : (c : Code) → found_by p.size p.signature m c a.site a.register (value_then p.signature m a) ≡ found_at p m a c
  found_same Read = refl
  found_same Write = refl

  reply_same : reply_then p.size p.signature h m a ≡ replied p h m a
  reply_same = rw (found_same a.code)

  pub taken : (h' : HostState) (m' : StoreMeaning) (is : List ℕ) (r : Result ℕ Fault) → length h.list < p.size → 0 < m.left
      → Enters p.size p.signature h h' m m' a was is r → SubmitTaken p h h' m m' bs was is r
  taken h' m' is (Ok size) free left e = (
    record { submission = a; response = reply_then p.size p.signature h m a },
    record {
      reads = reads;
      next = next;
      free = free;
      left = left;
      entered = e.slot;
      answer = reply_same;
      room = e.room;
      after = e.after;
      out = e.out;
    },
    e.sized,
  )
  taken h' m' is (Err f) free left e =
      let short = subst (λ (x : Response). length was < length ((reply p.size p.signature).put x)) reply_same e.1 in
      rw e.0 ((a, reads, next, free, left, short), e.2, e.3, e.4)
