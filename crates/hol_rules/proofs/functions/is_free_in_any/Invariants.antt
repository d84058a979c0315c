use Rattle.std.specs.Prelude.{drop}
use Rattle.hol_variables.specs.Noted.{AreNoted}
use Rattle.hol_rules.specs.Views.{variable_view}
use Rattle.hol_rules.proofs.FreeIn.{AreSearched}
use Rattle.hol_rules.proofs.functions.is_free_in_any.Given as goal

abbrev pub invariant-loop-id : goal.invariant-loop-id
invariant-loop-id l = AreSearched l.terms (variable_view l.terms l.var) l.ids (drop l.id-index l.ids) × AreNoted l.terms l.params
