use Rattle.std.proofs.Common.{ℕ, List, ◌++◌, sym, subst}
use Rattle.message.specs.Heads.{reply_head}
use Rattle.message.specs.Placed.{Stands, From}
use Rattle.message.specs.Reply.{found, reply, response}
use Rattle.message.proofs.Placed.{begins}
use Rattle.message.proofs.ReplyPlaced.{proofs_all, proofs_placed}
use Rattle.message.proofs.reply.Reply.places.Goals as goal

pub returns : goal.returns
returns c n g e l =
    let r = c.args.self.now in
    let m = response g n r in
    let bs = (reply n g).put m in
    let v = c.version_end-end.ensures bs _ l (begins ((reply_head n).put (tt, (m.code, m.committer))) _) in
    let a = c.place-end.ensures bs _ l v.1 in
    let es = c.place_entries-end.ensures bs _ l a.1 in
    let all = proofs_all g n r.proofs.now e in
    let Behind : List ℕ → Type 0 = λ xs. From bs c.place_entries-end.result.1 (xs ++ (found n g m.code).put m.found) in
    let ps = c.place-end-2.ensures bs _ l (subst Behind all es.1) in
    let f = c.place_found-found.ensures n g bs l ps.1 in
    let There : List ℕ → Type 0 = λ xs. Stands bs c.place-end-2.result.0 xs in
    record {
      commit_signature = a.0.0;
      entries = es.0;
      proofs = subst There (sym all) ps.0.0;
      each_proof = proofs_placed g n bs r.proofs.now _ e ps.0.0;
      found = f;
    }
