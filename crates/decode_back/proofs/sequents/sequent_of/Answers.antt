use Rattle.std.proofs.Common.{◌≡◌, ◌<◌, None, subst}
use Rattle.std.specs.Prelude.{MatchOption}
use Rattle.lp_term.specs.Tables.{tree_at}
use Rattle.holide_sig.specs.Modules.{declarations_of}
use Rattle.decode_spec.specs.Decode.{parts, proof_part}
use Rattle.decode_laws.specs.SizeBound.{greatest_tree}
use Rattle.decode_back.specs.SequentWalks.{AreParts}
use Rattle.decode_back.proofs.TypeWalk.{IfOk-weaker}
use Rattle.decode_back.proofs.DecodeLemmas.{too_large_tree, no_proof_end, parts-answer}
use Rattle.decode_back.proofs.sequents.sequent_of.Goals as goal

pub returns-then-size-gt-GREATEST_TREE : goal.returns-then-size-gt-GREATEST_TREE
returns-then-size-gt-GREATEST_TREE c = record {
  found =
      too_large_tree (declarations_of c.args.source.now) (tree_at c.args.source.now.table c.args.id.0)
      (subst (λ n. greatest_tree < n) c.size.ensures c.if-size-gt-GREATEST_TREE.true);
}

pub returns-in_default : goal.returns-in_default
returns-in_default c =
    let A = tree_at c.args.source.now.table c.args.id.0 in
    record {
      found = no_proof_end (declarations_of c.args.source.now) A
          (subst (λ o. MatchOption o (proof_part (parts A).end ≡ None) (AreParts c.args.source.now.table (parts A))) c.in_default.is c.in_ok-parts.ensures.parts);
    }

pub returns : goal.returns
returns c =
    let A = tree_at c.args.source.now.table c.args.id.0 in
    record {
      found = IfOk-weaker _ _ c.decode_parts.result c.decode_parts.ensures.found (λ found h.
          parts-answer (declarations_of c.args.source.now) A found
          (h (parts A) (subst (λ o. MatchOption o (proof_part (parts A).end ≡ None) (AreParts c.args.source.now.table (parts A))) c.in-Some.is
          c.in_ok-parts.ensures.parts)));
    }
