-- What a fold works with.
use Rattle.std.specs.Prelude.{◌≡◌, ℕ, length, [], None, nat_eq}
use Rattle.indexmap.specs.IndexMap.{get}
use Rattle.holide_sig.specs.declared.module.Module.{Module}
use Rattle.holide_sig.specs.Modules.{declarations_of}
use Rattle.share_spec.specs.Folded.{entries_of}
use Rattle.share.specs.declared.folding.Folding.{Folding}
use Rattle.share.specs.Listings.{entries_in, AreListed}

-- nothing is counted, met, listed or made
pub record HasBegun (f : Folding) : Type 0 where
  pub counts : f.counts.items ≡ []
  pub met : f.meeting.met.items ≡ []
  pub order : f.meeting.order.items ≡ []
  pub turns : f.meeting.turns ≡ []
  pub answers : (n : ℕ) → get nat_eq f.listing.answers n ≡ None
  pub waiting : f.listing.waiting ≡ []
  pub entries : f.listing.entries.items ≡ []
  pub places : f.making.places.items ≡ []
  pub made : f.making.made.items ≡ []

-- the entries that were listed are by numbers of a module and of what is counted, and are those of a module, by the trees to which its table grew
abbrev pub AreKnownEntries : Module → Folding → Type 0
AreKnownEntries m f = AreListed (length m.decls) (length f.counts.items) (length m.table) f.listing.entries.items

abbrev pub AreEntries : Module → Module → Folding → Type 0
AreEntries old new f = entries_in (declarations_of old) new.table f.listing.entries.items ≡ entries_of (declarations_of old)
