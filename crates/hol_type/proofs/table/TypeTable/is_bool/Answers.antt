use Rattle.std.proofs.Common.{sym, ◌∙◌}
use Rattle.std.proofs.lemmas.Bool.Decides.{not_from_Decides, Decides-eqb}
use Rattle.hol_type.specs.TableLaws.{Holds-tree_at}
use Rattle.hol_type.proofs.FunctionParts.{arguments-not_bool}
use Rattle.hol_type.proofs.table.TypeTable.is_bool.Goals as goal

pub returns-else-is_empty-clause-is : goal.returns-else-is_empty-clause-is
returns-else-is_empty-clause-is c =
    let some = not_from_Decides _ (Decides-eqb _ 0) (sym c.is_empty.ensures ∙ c.if-is_empty.false) in (
      λ h. absurd (let f = c.if-is_empty.false in cc),
      λ e. absurd (arguments-not_bool c.args.self.now c.in-Op.name.now c.in-Op.args.now some
          (sym (Holds-tree_at c.args.self.now c.args.id.0 _ c.in-Op.ensures.is) ∙ e)),
    )
