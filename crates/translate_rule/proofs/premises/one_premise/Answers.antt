use Rattle.std.proofs.Common.{◌∙◌, ◌∷◌, [], ◌<◌, sym, ap, subst, arith}
use Rattle.hol_rules.specs.Kept.{step_count}
use Rattle.translate_rule.specs.Steps.{symbol_in}
use Rattle.translate_rule.proofs.StepRules.{one-below}
use Rattle.translate_rule.proofs.premises.one_premise.Goals as goal

pub with_symbol-requires : goal.with_symbol-requires
with_symbol-requires c = let l = one-below c.args.proof.now c.args.id c.requires.id c.is_proof.ensures c.only.result (sym c.premises.ensures ∙ c.only.ensures)
    in omega (arith, l, c.requires.symbols)

pub returns : goal.returns
returns c =
    let is = sym c.premises.ensures ∙ c.only.ensures in
    let l = one-below c.args.proof.now c.args.id c.requires.id c.is_proof.ensures c.only.result is in
    record {
      is = is ∙ ap (λ j. j ∷ []) (sym c.with_symbol.ensures.id);
      first = record {
        known = subst (λ j. j < step_count c.args.proof.now) (sym c.with_symbol.ensures.id) (omega (arith, l, c.requires.id));
        symbol =
            c.with_symbol.ensures.symbol ∙ ap (symbol_in c.args.symbols.now) (sym c.with_symbol.ensures.id);
      };
    }
