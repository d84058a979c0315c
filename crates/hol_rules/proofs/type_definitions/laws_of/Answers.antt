use Rattle.std.proofs.Common.{subst, sym}
use Rattle.hol_term.specs.TableLaws.{Keeps-trans}
use Rattle.hol_rules.specs.Laws.{IsWithoutVariables}
use Rattle.hol_rules.specs.Premises.{IsStated}
use Rattle.hol_rules.proofs.LawTrees.{first-law, law-stated, own-number, own-type, number-kept, second-law, type-kept, IsNewPart-kept, IsNewPart-known}
use Rattle.hol_rules.proofs.type_definitions.laws_of.Goals as goal

pub first_law-requires : goal.first_law-requires
first_law-requires c = IsNewPart-known c.in_ok-part.ensures.made

pub second_law-requires-clause-part : goal.second_law-requires-clause-part
second_law-requires-clause-part c = IsNewPart-known (IsNewPart-kept c.first_law.ensures.keeps c.in_ok-part.ensures.made)

pub second_law-requires-clause-whole : goal.second_law-requires-clause-whole
second_law-requires-clause-whole c =
    (type-kept (Keeps-trans c.new_part.ensures.keeps c.first_law.ensures.keeps) (own-type c.args.terms.now c.args.parts.whole c.requires.whole)).known

pub second_law-requires-clause-predicate : goal.second_law-requires-clause-predicate
second_law-requires-clause-predicate c =
    (number-kept (Keeps-trans c.new_part.ensures.keeps c.first_law.ensures.keeps)
    (own-number c.args.terms.now c.args.parts.predicate c.requires.predicate)).known

pub second_law-requires-clause-closed : goal.second_law-requires-clause-closed
second_law-requires-clause-closed c =
    subst IsWithoutVariables
    (sym (number-kept (Keeps-trans c.new_part.ensures.keeps c.first_law.ensures.keeps)
    (own-number c.args.terms.now c.args.parts.predicate c.requires.predicate)).is) c.requires.closed

pub returns-clause-made : goal.returns-clause-made
returns-clause-made c =
    let part = c.in_ok-part.ensures.made in
    let both = Keeps-trans c.new_part.ensures.keeps c.first_law.ensures.keeps in
    let whole = (type-kept both (own-type c.args.terms.now c.args.parts.whole c.requires.whole)).is in
    let f = (number-kept both (own-number c.args.terms.now c.args.parts.predicate c.requires.predicate)).is in
    let trees = c.second_law.new.terms in
    record {
      first = subst (IsStated trees _) (first-law c.args.version part)
          (law-stated trees _ c.in_ok-first.first _ c.new.ensures.empty (number-kept c.second_law.ensures.keeps c.in_ok-first.ensures.made));
      second =
          subst (IsStated trees _) (second-law c.args.version (IsNewPart-kept c.first_law.ensures.keeps part) whole f)
          (law-stated trees _ c.in_ok-second.second _ c.new-2.ensures.empty c.in_ok-second.ensures.made);
    }

pub returns-clause-keeps : goal.returns-clause-keeps
returns-clause-keeps c = Keeps-trans (Keeps-trans c.new_part.ensures.keeps c.first_law.ensures.keeps) c.second_law.ensures.keeps

pub returns-in_err-part-clause-keeps : goal.returns-in_err-part-clause-keeps
returns-in_err-part-clause-keeps c = c.new_part.ensures.keeps

pub returns-in_err-first-clause-keeps : goal.returns-in_err-first-clause-keeps
returns-in_err-first-clause-keeps c = Keeps-trans c.new_part.ensures.keeps c.first_law.ensures.keeps

pub returns-in_err-second-clause-keeps : goal.returns-in_err-second-clause-keeps
returns-in_err-second-clause-keeps c = Keeps-trans (Keeps-trans c.new_part.ensures.keeps c.first_law.ensures.keeps) c.second_law.ensures.keeps
