use Rattle.std.proofs.Common.{◌≡◌, List, map, subst}
use Rattle.std.specs.Bool.{Decides}
use Rattle.hol_spec.specs.Names.{Name}
use Rattle.hol_spec.specs.Terms.{Variable}
use Rattle.hol_term.specs.Tables.{terms_at}
use Rattle.translate_spec.specs.ConstantMeaning.{numbers}
use Rattle.decode_back.specs.Walks.{parameter_name}
use Rattle.decode_back.specs.TermWalks.{free_of}
use Rattle.decode_back.proofs.TypeWalk.{IfOk-weaker}
use Rattle.decode_back.proofs.judging.are_parameters.Goals as goal

pub returns : goal.returns
returns c =
    IfOk-weaker _ _ c.are_in_order-told.result c.are_in_order-told.ensures (λ told h.
    subst (λ (p : List Name × List Variable). Decides told
    ((p.0 ≡ map parameter_name (numbers 0 c.args.count)) × (map free_of p.1 ≡ terms_at c.args.table.now c.args.variables.now)))
    (λ i. (c.in_ok-params.ensures.type_vars i, c.in_ok-params.ensures.free_vars i)) h)
