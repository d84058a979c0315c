use Rattle.std.proofs.Common.{◌∙◌}
use Rattle.std.specs.Prelude.{◌||◌, not}
use Rattle.std.proofs.lemmas.Bool.Decides.{same_from_decides}
use Rattle.hol_laws.specs.NameEqualityLaws.{name_eq-Decides}
use Rattle.hol_defs.proofs.Symbols.are_new.Goals as goal

pub returns : goal.returns
returns c = record {
  new = λ trees names h.
      let same = same_from_decides _ _ c.same.ensures (name_eq-Decides c.args.abs.now c.args.rep.now) in
      c.none_of.ensures ∙ (λ i. not (c.is_operator.ensures trees i || c.is_constant.ensures trees h i || c.is_constant-2.ensures trees h i || same i));
}
