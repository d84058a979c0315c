use Rattle.std.proofs.Common.{arith, sym, ◌∙◌}
use Rattle.decode_back.proofs.SymbolLemmas.{one_type_off}
use Rattle.decode_back.proofs.symbols.is_operator_type.Goals as goal

pub loop-preserved : goal.loop-preserved
loop-preserved c = record {
  known = omega (arith, c.in-Pi.ensures.lower.1, c.loop.invariant.known);
  goes = one_type_off _ c.args.table.now c.loop.rest.0 c.in-Pi.domain.0 c.in-Pi.body.0 c.args.arity c.loop.counter c.loop-test.true c.in-Pi.ensures.is
      (sym c.is_type.ensures ∙ c.if-not-is_type.false) c.loop.invariant.goes;
}
