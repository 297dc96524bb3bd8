-- The worked examples.
use Rattle.std.proofs.Common.{◌≡◌, ℕ, ◌≤◌, List, length, Ok, Err, Result, sym, refl, ap, ◌∙◌, subst, arith, lit≤}
use Rattle.octets.specs.Field.{read}
use Rattle.message.specs.declared.code.Code.{Code}
use Rattle.message.specs.declared.refusal.Refusal.TheVariants.{BadField}
use Rattle.message.specs.Commit.{Commitment, commit}
use Rattle.message.specs.Reply.{Response}
use Rattle.message.specs.Submit.{Submission}
use Rattle.signature.specs.Meaning.{SchemeMeaning}
use Rattle.store.specs.Meaning.{StoreMeaning}
use Rattle.version.proofs.OrderLaws.{examples}
use Rattle.rules.specs.declared.fault.Fault.{Fault}
use Rattle.rules.specs.declared.fault.Fault.TheVariants.{Message, OutOfOrder, ListFull, Store, BufferTooShort as NoRoom}
use Rattle.rules.specs.declared.phase.Phase.{Phase}
use Rattle.rules.specs.declared.phase.Phase.TheVariants.{Idle, Waiting}
use Rattle.rules.specs.declared.refusal.Refusal.{Refusal}
use Rattle.rules.specs.declared.refusal.Refusal.TheVariants.{OutOfRange, OutOfService, OutOfTurn, ValueTooLong, TimestampLimit, TooFewSignatures, BadField as BadAt, BufferTooShort}
use Rattle.rules.specs.Begin.{Ended, Waits, write_of, Begins}
use Rattle.rules.specs.Finish.{Operation, Awaits, read_reply, Outcome, finished, refused, stopped, Finishes}
use Rattle.rules.specs.Group.{SiteState, HostState}
use Rattle.rules.specs.Taking.{TakesCommit}
use Rattle.rules.proofs.Samples.{samples}
use Rattle.register.specs.Worked.{pair_of, Ready, bad_commit, Worked}

-- an idle site has not ended and does not wait
not_ended : (p : Phase) → p ≡ Idle → Ended p → ⊥
not_ended p e h = subst Ended e h

not_waiting : (p : Phase) → p ≡ Idle → Waits p → ⊥
not_waiting p e h = subst Waits e h

-- a waiting one has not ended
waits_on : (p : Phase) (c : Code) (r : ℕ) → p ≡ Waiting c r → Ended p → ⊥
waits_on p c r e h = subst Ended e h

longest :
    (H : List ℕ → List ℕ) (m m' : SchemeMeaning) (s s' : SiteState) (v was is : List ℕ) (answer : Result Submission Refusal) → length v ≡ 512 → Ready m s
    → length was ≡ 586 → Begins (pair_of H) m m' s s' (write_of v) was is answer → (a : Submission) × (answer ≡ Ok a)
longest H m m' s s' v was is (Ok a) l ready room b = (a, refl)
longest H m m' s s' v was is (Err OutOfRange) l ready room b = absurd (b.0 tt)
longest H m m' s s' v was is (Err OutOfService) l ready room b = absurd (not_ended s.phase ready.idle b.0.1)
longest H m m' s s' v was is (Err OutOfTurn) l ready room b = absurd (not_waiting s.phase ready.idle b.0.1)
longest H m m' s s' v was is (Err ValueTooLong) l ready room b = absurd (b.0.2 (omega (arith, l)))
longest H m m' s s' v was is (Err TimestampLimit) l ready room b = absurd (omega (arith, ready.below, b.0.3))
longest H m m' s s' v was is (Err TooFewSignatures) l ready room b = absurd (omega (arith, ready.four, b.0.4))
longest H m m' s s' v was is (Err (BadAt offset)) l ready room b = absurd b.0
longest H m m' s s' v was is (Err BufferTooShort) l ready room b = absurd (omega (arith, b.0.5, l, room))

longer :
    (H : List ℕ → List ℕ) (m m' : SchemeMeaning) (s s' : SiteState) (v was is : List ℕ) (answer : Result Submission Refusal) → length v ≡ 513 → Ready m s
    → Begins (pair_of H) m m' s s' (write_of v) was is answer → answer ≡ Err ValueTooLong
longer H m m' s s' v was is (Ok a) l ready b = absurd (omega (arith, b.short, l))
longer H m m' s s' v was is (Err OutOfRange) l ready b = absurd (b.0 tt)
longer H m m' s s' v was is (Err OutOfService) l ready b = absurd (not_ended s.phase ready.idle b.0.1)
longer H m m' s s' v was is (Err OutOfTurn) l ready b = absurd (not_waiting s.phase ready.idle b.0.1)
longer H m m' s s' v was is (Err ValueTooLong) l ready b = refl
longer H m m' s s' v was is (Err TimestampLimit) l ready b = absurd (omega (arith, b.0.2, l))
longer H m m' s s' v was is (Err TooFewSignatures) l ready b = absurd (omega (arith, b.0.2, l))
longer H m m' s s' v was is (Err (BadAt offset)) l ready b = absurd b.0
longer H m m' s s' v was is (Err BufferTooShort) l ready b = absurd (omega (arith, b.0.2, l))

too_short :
    (H : List ℕ → List ℕ) (m m' : SchemeMeaning) (s s' : SiteState) (t : Operation) (c : Code) (r : ℕ) (a : Response) (bs was is : List ℕ) (answer : Outcome)
    → Awaits s t c r → 2 ≤ m.left s.number → read_reply (pair_of H) c bs ≡ Ok a → length was ≡ 137
    → Finishes (pair_of H) m m' s s' t bs was is answer → answer ≡ refused BufferTooShort
too_short H m m' s s' t c r a bs was is (finished d) w two e room f = absurd (omega (arith, f.room, room))
too_short H m m' s s' t c r a bs was is (refused OutOfRange) w two e room f = absurd f.0
too_short H m m' s s' t c r a bs was is (refused OutOfService) w two e room f = absurd (waits_on s.phase c r w.phase f.0)
too_short H m m' s s' t c r a bs was is (refused OutOfTurn) w two e room f = absurd (f.0.1 (c, r, w))
too_short H m m' s s' t c r a bs was is (refused ValueTooLong) w two e room f = absurd f.0
too_short H m m' s s' t c r a bs was is (refused TimestampLimit) w two e room f = absurd f.0
too_short H m m' s s' t c r a bs was is (refused TooFewSignatures) w two e room f = absurd (omega (arith, f.0.1, two))
too_short H m m' s s' t c r a bs was is (refused (BadAt offset)) w two e room f = absurd (same_code f.0.0 (sym f.0.2.phase ∙ w.phase) f.0.4)
  where
    same_code : (d : Code) → Waiting d f.0.1 ≡ Waiting c r → read_reply (pair_of H) d bs ≡ Err offset → ⊥
    same_code d k g =
        let x : d ≡ c = cc in
        let y : read_reply (pair_of H) c bs ≡ Err offset = subst (λ (z : Code). read_reply (pair_of H) z bs ≡ Err offset) x g in
        let z : ◌≡◌ {A = ℕ} 0 1 = cc in
        omega arith
too_short H m m' s s' t c r a bs was is (refused BufferTooShort) w two e room f = refl
too_short H m m' s s' t c r a bs was is (stopped k) w two e room f = absurd (omega (arith, f.0.room, room))

-- the bytes do not read
unread : read (commit 2 32) bad_commit ≡ Err 42
unread = refl

never_read : (c : Commitment) → read (commit 2 32) bad_commit ≡ Ok c → ⊥
never_read c e = let u = unread in let z : ◌≡◌ {A = ℕ} 0 1 = cc in omega arith

refused_at_42 :
    (H : List ℕ → List ℕ) (h h' : HostState) (m m' : StoreMeaning) (answer : Result Commitment Fault) → TakesCommit (pair_of H) h h' m m' bad_commit answer
    → answer ≡ Err (Message (BadField 42))
refused_at_42 H h h' m m' (Ok c) t = absurd (never_read c t.reads)
refused_at_42 H h h' m m' (Err (Message e)) t =
    let u = unread in
    let r = t.0.1 in
    let o : t.0.0 ≡ 42 = cc in
    ap (λ z. Err (Message z)) t.0.2 ∙ ap (λ (k : ℕ). Err (Message (BadField k))) o
refused_at_42 H h h' m m' (Err OutOfOrder) t = absurd (never_read t.0.0 t.0.1)
refused_at_42 H h h' m m' (Err ListFull) t = absurd t.0
refused_at_42 H h h' m m' (Err (Store e)) t = absurd (never_read t.0.0 t.0.1)
refused_at_42 H h h' m m' (Err NoRoom) t = absurd t.0

pub worked : Worked
worked = record {
  orders = examples;
  eight = (lit≤ tt, lit≤ tt);
  nine = λ h. omega (arith, h.1);
  longest = longest;
  longer = longer;
  serves = λ H m m' s s' t bs was is room f. omega (arith, f.0.6, room);
  too_short = too_short;
  refused_at_42 = refused_at_42;
  histories = samples.overtaken;
}
