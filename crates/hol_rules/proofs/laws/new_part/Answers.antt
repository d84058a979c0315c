use Rattle.std.proofs.Common.{subst}
use Rattle.hol_spec.specs.Terms.{constant}
use Rattle.hol_term.specs.TableLaws.{Keeps-trans}
use Rattle.hol_rules.specs.Premises.{IsNumberOf}
use Rattle.hol_rules.proofs.LawTrees.{number-kept, type-kept}
use Rattle.hol_rules.proofs.laws.new_part.Goals as goal

pub constant_of-requires : goal.constant_of-requires
constant_of-requires c = c.in_ok-types.ensures.types.abs.known

pub constant_of-requires-2 : goal.constant_of-requires-2
constant_of-requires-2 c = (type-kept c.constant_of.ensures.keeps c.in_ok-types.ensures.types.rep).known

pub returns-in_err-types-clause-keeps : goal.returns-in_err-types-clause-keeps
returns-in_err-types-clause-keeps c = c.new_types.ensures.keeps

pub returns-in_err-abs-clause-keeps : goal.returns-in_err-abs-clause-keeps
returns-in_err-abs-clause-keeps c = Keeps-trans c.new_types.ensures.keeps c.constant_of.ensures.keeps

pub returns-in_err-rep-clause-keeps : goal.returns-in_err-rep-clause-keeps
returns-in_err-rep-clause-keeps c = Keeps-trans (Keeps-trans c.new_types.ensures.keeps c.constant_of.ensures.keeps) c.constant_of-2.ensures.keeps

pub returns-clause-keeps : goal.returns-clause-keeps
returns-clause-keeps c = Keeps-trans (Keeps-trans c.new_types.ensures.keeps c.constant_of.ensures.keeps) c.constant_of-2.ensures.keeps

pub returns-clause-made : goal.returns-clause-made
returns-clause-made c =
    let t = c.in_ok-types.ensures.types in
    let one = c.constant_of.ensures.keeps in
    let two = c.constant_of-2.ensures.keeps in
    record {
      ty = type-kept (Keeps-trans one two) t.part;
      abs = number-kept two
          (subst (λ a. IsNumberOf c.constant_of.new.terms c.in_ok-abs.abs (constant c.args.names.abs.now a)) t.abs.is c.in_ok-abs.ensures.made);
      rep = subst (λ b. IsNumberOf c.constant_of-2.new.terms c.in_ok-rep.rep (constant c.args.names.rep.now b)) (type-kept one t.rep).is
          c.in_ok-rep.ensures.made;
    }
