use Rattle.holide_sig.specs.ModuleLaws.{AreDeclsKnown-slice_get}
use Rattle.decode_back.proofs.TypeWalk.{IfOk-weaker}
use Rattle.decode_back.proofs.DecodeLemmas.{declaration-answer}
use Rattle.decode_back.proofs.decode.Goals as goal

pub sequent_of-requires-clause-known : goal.sequent_of-requires-clause-known
sequent_of-requires-clause-known c = (AreDeclsKnown-slice_get c.args.source.now.table c.args.source.now.decls _ _ c.requires.held.decls c.get.ensures).ty

pub returns : goal.returns
returns c = record {
  found = IfOk-weaker _ _ c.sequent_of.result c.sequent_of.ensures.found
      (λ found h. declaration-answer c.args.source.now c.args.i _ found c.get.ensures h);
}
