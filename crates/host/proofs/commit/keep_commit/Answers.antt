use Rattle.host.proofs.commit.keep_commit.Goals as goal

pub returns : goal.returns
returns s c n g = rw (c.version_bytes-bytes.ensures.bytes n g) at c.keep.ensures
