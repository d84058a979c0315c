use Rattle.std.proofs.Common.{ap, ◌∙◌, length}
use Rattle.hol_spec.specs.Lists.{distinct}
use Rattle.hol_spec.specs.Terms.{term_eq}
use Rattle.hol_term.specs.Tables.{terms_at, AreKnown}
use Rattle.hol_term.specs.TableLaws.{Keeps-trans}
use Rattle.hol_rules.proofs.ImageOf.{image_stated}
use Rattle.hol_rules.proofs.PairLaws.{AreKnownPairs-Keeps}
use Rattle.hol_rules.proofs.substitution.image_of.Goals as goal

pub tree_image-requires-clause-pairs : goal.tree_image-requires-clause-pairs
tree_image-requires-clause-pairs c = AreKnownPairs-Keeps c.linked.ensures.keeps c.args.put.now.types.items c.args.put.now.terms.items c.requires.pairs

pub returns-clause-made : goal.returns-clause-made
returns-clause-made c =
    let trees = c.tree_image.new.terms in
    let known : AreKnown trees c.deref.result.now = rw c.deref.ensures.value c.in_ok-links.ensures.known in
    let one_each = c.tree_image.ensures.keeps.distinct (c.linked.ensures.keeps.distinct c.requires.distinct) in
    image_stated c.args.terms.now c.linked.new.terms trees c.linked.ensures.keeps c.args.put.now.types.items c.args.put.now.terms.items c.requires.pairs
    c.args.sequent.now
    c.in_ok-whole.whole c.in_ok-image.image (rw c.ids-ids.ensures.numbers at c.in_ok-whole.ensures.made) c.in_ok-image.ensures.made
    (length c.ids-ids.result.now) c.in_ok-links.links c.in_ok-links.ensures (ap length c.ids-ids.ensures.numbers)
    c.in_ok-hyps.hyps (c.in_ok-hyps.ensures.known trees known)
    (c.in_ok-hyps.ensures.terms trees one_each known ∙ ap (λ l. distinct term_eq (terms_at trees l)) c.deref.ensures.value)

pub returns-clause-keeps : goal.returns-clause-keeps
returns-clause-keeps c = Keeps-trans c.linked.ensures.keeps c.tree_image.ensures.keeps

pub returns-in_err-whole-clause-keeps : goal.returns-in_err-whole-clause-keeps
returns-in_err-whole-clause-keeps c = c.linked.ensures.keeps

pub returns-in_err-image-clause-keeps : goal.returns-in_err-image-clause-keeps
returns-in_err-image-clause-keeps c = Keeps-trans c.linked.ensures.keeps c.tree_image.ensures.keeps

pub returns-in_err-links-clause-keeps : goal.returns-in_err-links-clause-keeps
returns-in_err-links-clause-keeps c = Keeps-trans c.linked.ensures.keeps c.tree_image.ensures.keeps

pub returns-in_err-hyps-clause-keeps : goal.returns-in_err-hyps-clause-keeps
returns-in_err-hyps-clause-keeps c = Keeps-trans c.linked.ensures.keeps c.tree_image.ensures.keeps

pub linked-requires-clause-ids : goal.linked-requires-clause-ids
linked-requires-clause-ids c = rw c.ids-ids.ensures.numbers c.requires.sequent.0

pub linked-requires-clause-last : goal.linked-requires-clause-last
linked-requires-clause-last c = c.requires.sequent.1

pub tree_image-requires-clause-id : goal.tree_image-requires-clause-id
tree_image-requires-clause-id c = c.in_ok-whole.ensures.made.known

pub unlinked-requires : goal.unlinked-requires
unlinked-requires c = c.in_ok-image.ensures.known
