-- View histories: which operations a finished operation has seen, oldest first.
use Rattle.std.specs.Prelude.{◌≡◌, ℕ, ◌+◌, Bool, cond, ◌&&◌, List, [], ◌∷◌, ◌++◌, Some, None, Option, ◌==◌}
use Rattle.message.specs.Reply.{Listed}
use Rattle.message.specs.Submit.{Submission}
use Rattle.rules.specs.Group.{slot}
use Rattle.rules.specs.Finish.{Operation, Completion}
use Rattle.rules.specs.Shown.{is_zero}

abbrev pub operation : ℕ → ℕ → Operation
operation i t = record { site = i; timestamp = t }

-- the operation that a completion finished: its timestamp is its site's own in the new version
abbrev pub operation_of : Completion → Operation
operation_of d = operation d.commit.site (slot d.commit.version d.commit.site).timestamp

abbrev pub same_operation : Operation → Operation → Bool
same_operation o t = o.site == t.site && o.timestamp == t.timestamp

-- how many operations of the site i are in a history
abbrev pub count : ℕ → List Operation → ℕ
count i [] = 0
count i (o ∷ h) = cond (o.site == i) (count i h + 1) (count i h)

-- a history with the next operation of the site i, and with those of a list's sites
abbrev pub extended : List Operation → ℕ → List Operation
extended h i = h ++ (operation i (count i h + 1) ∷ [])

abbrev pub extended_by : List Operation → List Listed → List Operation
extended_by h [] = h
extended_by h (e ∷ es) = extended_by (extended h e.site) es

-- The view history of an operation, among the finished ones, newest first. It is worked out from the reply that it accepted: it
-- starts empty if the committed version is zero, else as that of the committer's operation with the committer's own timestamp in
-- that version; each entry of the list adds the next operation of its site; the operation itself comes last.
abbrev pub history_of : List Completion → Operation → List Operation
history_of [] t = []
history_of (d ∷ ds) t =
    let before : List Operation = history_of ds (operation d.reply.committer (slot d.reply.version d.reply.committer).timestamp) in
    let start : List Operation = cond (is_zero d.reply.version) [] before in
    let earlier : List Operation = history_of ds t in
    cond (same_operation (operation_of d) t) (extended (extended_by start d.reply.entries) d.commit.site) earlier

abbrev pub history : List Completion → Completion → List Operation
history ds d = history_of ds (operation_of d)

-- a history is the front of another, or the whole
abbrev pub Front : List Operation → List Operation → Type 0
Front h h' = (rest : List Operation) × (h ++ rest ≡ h')

-- what an operation wrote, among the begun ones
abbrev pub written_by : List Submission → Operation → Option (List ℕ)
written_by [] t = None
written_by (a ∷ more) t = cond (same_operation (operation a.site a.timestamp) t) a.value (written_by more t)

-- the value if there is one, or else the one before
abbrev pub or_else : Option (List ℕ) → Option (List ℕ) → Option (List ℕ)
or_else (Some v) before = Some v
or_else None before = before

-- the value that the site j last wrote in a history, absent if none
abbrev pub last_written : List Submission → ℕ → List Operation → Option (List ℕ)
last_written begun j [] = None
last_written begun j (o ∷ h) = or_else (last_written begun j h) (cond (o.site == j) (written_by begun o) None)
