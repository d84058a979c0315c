use Rattle.std.proofs.Common.{ap, ◌∙◌}
use Rattle.hol_spec.specs.Terms.{constant}
use Rattle.hol_spec.specs.Types.{variable}
use Rattle.hol_type.specs.TableLaws.{Holds-tree_at}
use Rattle.hol_term.specs.TableLaws.{Keeps-trans, Some-term_in}
use Rattle.hol_rules.proofs.definitions.general_constant.Goals as goal

pub returns-clause-made : goal.returns-clause-made
returns-clause-made c = record {
  known = c.in-Ok-constant.ensures.known;
  is = Some-term_in c.constant.new.self.terms _ _ c.in-Ok-constant.ensures.made
      ∙ ap (constant c.args.name.now) (Holds-tree_at c.ty_var.new.self.types c.in-Ok.general.0 (variable c.args.variable.now) c.in-Ok.ensures.made);
}

pub returns-clause-keeps : goal.returns-clause-keeps
returns-clause-keeps c = Keeps-trans c.ty_var.ensures.keeps c.constant.ensures.keeps
