use Rattle.std.proofs.Common.{◌∙◌, ◌∷◌, [], ◌<◌, sym, ap, subst, arith}
use Rattle.hol_rules.specs.Kept.{step_count}
use Rattle.translate_rule.specs.Steps.{symbol_in}
use Rattle.translate_rule.proofs.StepRules.{two-below}
use Rattle.translate_rule.proofs.premises.two_premises.Goals as goal

pub with_symbol-requires : goal.with_symbol-requires
with_symbol-requires c = let l =
    (two-below c.args.proof.now c.args.id c.requires.id c.is_proof.ensures c.pair-one.result.0 c.pair-one.result.1
    (sym c.premises.ensures ∙ c.pair-one.ensures)).0 in omega (arith, l, c.requires.symbols)

pub with_symbol-requires-2 : goal.with_symbol-requires-2
with_symbol-requires-2 c = let l =
    (two-below c.args.proof.now c.args.id c.requires.id c.is_proof.ensures c.pair-one.result.0 c.pair-one.result.1
    (sym c.premises.ensures ∙ c.pair-one.ensures)).1 in omega (arith, l, c.requires.symbols)

pub returns : goal.returns
returns c =
    let are = sym c.premises.ensures ∙ c.pair-one.ensures in
    let l = two-below c.args.proof.now c.args.id c.requires.id c.is_proof.ensures c.pair-one.result.0 c.pair-one.result.1 are in
    record {
      are = are ∙ (λ i. sym c.with_symbol.ensures.id i ∷ sym c.with_symbol-2.ensures.id i ∷ []);
      first = record {
        known = subst (λ j. j < step_count c.args.proof.now) (sym c.with_symbol.ensures.id) (omega (arith, l.0, c.requires.id));
        symbol =
            c.with_symbol.ensures.symbol ∙ ap (symbol_in c.args.symbols.now) (sym c.with_symbol.ensures.id);
      };
      second = record {
        known = subst (λ j. j < step_count c.args.proof.now) (sym c.with_symbol-2.ensures.id) (omega (arith, l.1, c.requires.id));
        symbol =
            c.with_symbol-2.ensures.symbol ∙ ap (symbol_in c.args.symbols.now) (sym c.with_symbol-2.ensures.id);
      };
    }
