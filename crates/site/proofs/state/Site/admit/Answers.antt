use Rattle.std.proofs.Common.{ℕ, ◌≤◌, length, Ok, Err, subst₂, arith}
use Rattle.std.proofs.lemmas.Result.{err_from_is_err_and}
use Rattle.rules.specs.declared.refusal.Refusal.{Refusal}
use Rattle.site.specs.Finishing.{ReadsReply}
use Rattle.site.specs.State.{state, operation_named}
use Rattle.site.proofs.Admitting.{unread, no_room}
use Rattle.site.proofs.state.Site.admit.Goals as goal

pub returns-in_err-reply : goal.returns-in_err-reply
returns-in_err-reply g c =
    let s = state c.args.self.now in
    let two : 2 ≤ (g.S.Scheme.means c.args.scheme.now).left s.number = omega (arith, c.left.ensures, c.if-left-lt2.false) in
    let e : Refusal = c.in_err-reply.field-0.0 in
    let read : ReadsReply (length s.version) g.S.Scheme.G c.in_ok-code.code c.args.bytes.now (Err e) =
    subst₂ (λ (n k : ℕ). ReadsReply n k c.in_ok-code.code c.args.bytes.now (Err e)) c.size-size.ensures.value c.G.ensures c.in_err-reply.ensures in
    let p = err_from_is_err_and c.from_residual-in_err-reply.result c.from_residual-in_err-reply.ensures.1 in
    rw (p.1, p.2)
    (unread g.S.Scheme.G (g.S.Scheme.means c.args.scheme.now) s (operation_named c.args.ticket.now) c.args.bytes.now c.args.room c.in_ok-code.code c.in_ok-code.register
    c.in_ok-code.ensures two e read)

pub returns-then-room-size : goal.returns-then-room-size
returns-then-room-size g c =
    let s = state c.args.self.now in
    let two : 2 ≤ (g.S.Scheme.means c.args.scheme.now).left s.number = omega (arith, c.left.ensures, c.if-left-lt2.false) in
    let read : ReadsReply (length s.version) g.S.Scheme.G c.in_ok-code.code c.args.bytes.now (Ok c.in_ok-reply.reply) =
    subst₂ (λ (n k : ℕ). ReadsReply n k c.in_ok-code.code c.args.bytes.now (Ok c.in_ok-reply.reply)) c.size-size.ensures.value c.G.ensures c.in_ok-reply.ensures in
    no_room g.S.Scheme.G (g.S.Scheme.means c.args.scheme.now) s (operation_named c.args.ticket.now) c.args.bytes.now c.args.room c.in_ok-code.code c.in_ok-code.register
    c.in_ok-code.ensures two c.in_ok-reply.reply read (omega (arith, c.if-room-size.true, c.G.ensures, c.G-2.ensures, c.size-size.ensures.value))

pub returns : goal.returns
returns g c =
    let s = state c.args.self.now in
    let two : 2 ≤ (g.S.Scheme.means c.args.scheme.now).left s.number = omega (arith, c.left.ensures, c.if-left-lt2.false) in
    let read : ReadsReply (length s.version) g.S.Scheme.G c.in_ok-code.code c.args.bytes.now (Ok c.in_ok-reply.reply) =
    subst₂ (λ (n k : ℕ). ReadsReply n k c.in_ok-code.code c.args.bytes.now (Ok c.in_ok-reply.reply)) c.size-size.ensures.value c.G.ensures c.in_ok-reply.ensures in
    record {
      code = c.in_ok-code.code;
      awaits = c.in_ok-code.ensures;
      two = two;
      reads = read;
      fits = omega (arith, c.if-room-size.false, c.G.ensures, c.G-2.ensures, c.size-size.ensures.value);
    }
