use Rattle.std.specs.Prelude.{drop}
use Rattle.hol_spec.specs.Lists.{IsIn}
use Rattle.hol_term.specs.Subterms.{variables_of}
use Rattle.translate_proof.specs.Images.{retyped}
use Rattle.translate_proof.proofs.images.own_variable.Given as goal

abbrev pub invariant-loop-one : goal.invariant-loop-one
invariant-loop-one l = IsIn (variables_of l.table (drop l.one-index l.own)) (retyped l.table l.put l.variable.name l.variable.ty)
