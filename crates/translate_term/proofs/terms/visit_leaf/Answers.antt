use Rattle.std.proofs.Common.{◌∙◌, ap, subst}
use Rattle.hol_term.specs.TableLaws.{Some-term_in}
use Rattle.lp_term.specs.TableLaws.{Holds-tree_at, Holds-within}
use Rattle.translate_term.specs.GrowLaws.{IsTypeMemo-Keeps}
use Rattle.translate_term.specs.Walks.{IsLeafMade, term_wanted}
use Rattle.translate_term.proofs.EndsLaws.{OnOk-map}
use Rattle.translate_term.proofs.TermTurns.{term_lifted}
use Rattle.translate_term.proofs.terms.visit_leaf.Goals as goal

pub note_lifted-requires : goal.note_lifted-requires
note_lifted-requires c =
    let noted = rw c.at.ensures at c.in-Some.ensures.noted in
    Holds-within _ c.in-Some.tree.0 _ (c.requires.walk.2.noted _ _ noted)

pub returns-in-Some-clause-walk : goal.returns-in-Some-clause-walk
returns-in-Some-clause-walk c =
    let noted = rw c.at.ensures at c.in-Some.ensures.noted in
    let leaf = c.requires.leaf in
    OnOk-map c.note_lifted.result
    (λ made given root w.
    term_lifted given root _ _ _ _ c.args.place _ _ _ _ c.note_lifted.ensures.grows _ _ leaf.term leaf.is leaf.leaf
    (subst (IsLeafMade c.args.place c.args.walk.now.made c.note_lifted.new.made c.note_lifted.new.target.table)
    (Holds-tree_at _ c.in-Some.tree.0 _ (w.noted _ _ noted)
    ∙ ap (term_wanted given 0) (Some-term_in c.args.source.table.now.terms c.args.place.id.0 leaf.term leaf.is)) made)
    (IsTypeMemo-Keeps c.note_lifted.ensures.grows.table given _ _ w.types_noted) w)
    c.note_lifted.ensures.made
