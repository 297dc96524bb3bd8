use Rattle.std.proofs.Common.{List, ℕ, length, drop, ◌≡◌, ◌+◌, ◌++◌, refl, ap, ◌∙◌, zero-add}
use Rattle.digest.proofs.Blocks.{holds_part, holds_more}
use Rattle.digest.proofs.block_hash.fill.Goals as goal

pub returns-then-piece-room-clause-took : goal.returns-then-piece-room-clause-took
returns-then-piece-room-clause-took g c start bs h =
    holds_part g.B.BlockHash.step g.row.N g.met.B.BlockHash.nonempty start _ c.args.buffer.now _ bs h
    c.args.piece.now c.put.new.buffer _ c.if-piece-room.true c.put.ensures refl

-- what is put at the front
at_front : (rest filled t : List ℕ) → t ≡ rest ++ drop (0 + length rest) filled → t ≡ rest ++ drop (length rest) filled
at_front rest filled t e = e ∙ ap (λ k. rest ++ drop k filled) (zero-add (length rest))

pub returns-clause-took : goal.returns-clause-took
returns-clause-took g c start bs h =
    let rest = c.absorb-rest.result.now in
    let filled = c.put-2.new.buffer in
    holds_more g.B.BlockHash.step g.row.N g.met.B.BlockHash.nonempty start _ c.args.buffer.now _ bs h
    c.args.piece.now c.split_at.result.0.now c.split_at.result.1.now rest filled c.put-3.new.buffer
    c.compress.new.state c.absorb-rest.new.state (length rest)
    c.if-piece-room.false c.split_at.ensures.front c.split_at.ensures.back c.absorb-rest.ensures.rest
    c.put-2.ensures c.compress.ensures c.absorb-rest.ensures.state
    (at_front rest filled _ c.put-3.ensures) c.absorb-rest.ensures.len
