-- How long the texts are that sites sign.
use Rattle.std.proofs.Common.{◌≤◌, length, arith}
use Rattle.std.proofs.lemmas.List.FromFn.{length-map-range_with_len}
use Rattle.message.specs.Strings.{commit_string}
use Rattle.version.specs.declared.version.Version.{Version}
use Rattle.version.specs.Version.{slot_of, slots}
use Rattle.version.proofs.LayoutLaws.{version-length}

-- a group has at most eight sites
few : (v : Version) → length (slots v) ≤ 8
unfolding slots
few v =
    let n = length-map-range_with_len (slot_of v) 0 v.size in
    let s = v.sized in
    omega arith

pub commit_size : (v : Version) → length (commit_string (slots v)) ≤ 292
commit_size v =
    let n = version-length v in
    let f = few v in
    omega arith
