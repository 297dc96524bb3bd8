-- The signing that an entry of the code stands for.
use Rattle.ledger.specs.declared.entry.Entry.{Entry}
use Rattle.ledger.specs.Entries.{Signing, signing}

abbrev pub held : Entry → Signing
held e = signing e.site e.text.items
