use Rattle.std.proofs.Common.{[], ◌++◌, length, arith}
use Rattle.std.proofs.lemmas.List.{append-nil}
use Rattle.octets.specs.Numbers.{big_endian}
use Rattle.message.specs.Fields.{value}
use Rattle.message.specs.Placed.{From}
use Rattle.message.specs.Reply.{held}
use Rattle.message.proofs.Placed.{passed, room, value_before}
use Rattle.message.proofs.reply_places.place_found.Goals as goal

pub returns : goal.returns
returns c =
    let f = held c.in-Some.found in
    rw c.in-Some.is λ n g bs l h.
    let v = c.version_end-end.ensures bs _ l h in
    let a = c.place-end.ensures bs _ l v.1 in
    let s = passed bs (big_endian 4 f.timestamp) (value.put f.value ++ f.data_signature) _ a.1 _ l c.saturating_add.ensures in
    let b = c.place_value-value.ensures bs _ l s in
    let e : From bs c.place_value-value.result.1 (f.data_signature ++ []) = rw (append-nil f.data_signature) b.1 in
    let d = c.place.ensures bs [] l e in
    let r = room bs f.data_signature [] _ e in
    record {
      commit_signature = a.0.0;
      value = b.0.0;
      data_signature = d.0.0;
      before = value_before _ _ (length f.data_signature) bs b.0.1 (omega arith);
    }
