-- From the write of the parts to the write of a version.
use Rattle.std.proofs.Common.{ℕ, List, length, Some, None, Option, refl, arith}
use Rattle.std.specs.Option.{ok_or}
use Rattle.octets.specs.Puts.{PutsOrNot}
use Rattle.octets.proofs.Laws.{undoes}
use Rattle.version.specs.declared.refusal.Refusal.TheVariants.{BufferTooShort}
use Rattle.version.specs.declared.version.Version.{Version}
use Rattle.version.specs.Calls.{Writes, bytes_of}
use Rattle.version.proofs.LayoutLaws.{version_law, version_good, version-length}
use Rattle.version.specs.Version.{slots}

-- a version that was put in front
pub version_written : (v : Version) (was is : List ℕ) (r : Option ℕ) → PutsOrNot (bytes_of v) 0 was is r → Writes v was is (ok_or r BufferTooShort)
version_written v was is (Some end) p =
    let n = version-length v in
    let e = p.ends in
    (omega arith, omega arith, p.after, (undoes (version_law (length (slots v)))).reading (slots v) (version_good v))
version_written v was is None p =
    let n = version-length v in
    let s = p.0 in
    (omega arith, p.1, refl)
