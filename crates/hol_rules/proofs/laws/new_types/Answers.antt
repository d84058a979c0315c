use Rattle.std.proofs.Common.{subst}
use Rattle.hol_spec.specs.Primitives.{function}
use Rattle.hol_term.specs.TableLaws.{Keeps-trans}
use Rattle.hol_rules.specs.Laws.{IsTypeOf}
use Rattle.hol_rules.proofs.LawTrees.{own-type, type-kept}
use Rattle.hol_rules.proofs.laws.new_types.Goals as goal

pub function_type-requires-clause-domain : goal.function_type-requires-clause-domain
function_type-requires-clause-domain c = (type-kept c.part_type.ensures.keeps (own-type c.args.terms.now c.args.whole c.requires)).known

pub function_type-requires-clause-codomain : goal.function_type-requires-clause-codomain
function_type-requires-clause-codomain c = c.in_ok-part.ensures.made.known

pub function_type-requires-2-clause-domain : goal.function_type-requires-2-clause-domain
function_type-requires-2-clause-domain c = (type-kept c.function_type.ensures.keeps c.in_ok-part.ensures.made).known

pub function_type-requires-2-clause-codomain : goal.function_type-requires-2-clause-codomain
function_type-requires-2-clause-codomain c =
    (type-kept (Keeps-trans c.part_type.ensures.keeps c.function_type.ensures.keeps) (own-type c.args.terms.now c.args.whole c.requires)).known

pub returns-in_err-part-clause-keeps : goal.returns-in_err-part-clause-keeps
returns-in_err-part-clause-keeps c = c.part_type.ensures.keeps

pub returns-in_err-abs-clause-keeps : goal.returns-in_err-abs-clause-keeps
returns-in_err-abs-clause-keeps c = Keeps-trans c.part_type.ensures.keeps c.function_type.ensures.keeps

pub returns-in_err-rep-clause-keeps : goal.returns-in_err-rep-clause-keeps
returns-in_err-rep-clause-keeps c = Keeps-trans (Keeps-trans c.part_type.ensures.keeps c.function_type.ensures.keeps) c.function_type-2.ensures.keeps

pub returns-clause-types : goal.returns-clause-types
returns-clause-types c =
    let part = c.in_ok-part.ensures.made in
    let whole = own-type c.args.terms.now c.args.whole c.requires in
    let whole1 = type-kept c.part_type.ensures.keeps whole in
    let part2 = type-kept c.function_type.ensures.keeps part in
    let whole2 = type-kept c.function_type.ensures.keeps whole1 in
    record {
      part = type-kept c.function_type-2.ensures.keeps part2;
      abs = type-kept c.function_type-2.ensures.keeps
          (subst (IsTypeOf c.function_type.new.terms c.in_ok-abs.abs) (λ i. function (whole1.is i) (part.is i)) c.in_ok-abs.ensures.made);
      rep = subst (IsTypeOf c.function_type-2.new.terms c.in_ok-rep.rep) (λ i. function (part2.is i) (whole2.is i)) c.in_ok-rep.ensures.made;
    }

pub returns-clause-keeps : goal.returns-clause-keeps
returns-clause-keeps c = Keeps-trans (Keeps-trans c.part_type.ensures.keeps c.function_type.ensures.keeps) c.function_type-2.ensures.keeps
