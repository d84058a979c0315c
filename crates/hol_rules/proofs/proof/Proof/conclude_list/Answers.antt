use Rattle.std.proofs.Common.{◌∙◌, sym, subst}
use Rattle.hol_defs.specs.Lists.{pairs_at, ArePairsKnown}
use Rattle.sequent.specs.Sequents as numbers
use Rattle.hol_rules.specs.ConstantLists.{constants_in, list_step}
use Rattle.hol_rules.specs.Kept.{Kept}
use Rattle.hol_rules.proofs.Concluded.{Grows-same, step-known, refused-defined, same-defines, same-follows, stopped-definition}
use Rattle.hol_rules.proofs.proof.Proof.conclude_list.Goals as goal

pub judged-requires : goal.judged-requires
judged-requires c = c.requires.sequent

pub keep_list-requires-clause-pairs : goal.keep_list-requires-clause-pairs
keep_list-requires-clause-pairs c = rw c.judged.ensures.unchanged c.requires.pairs

pub keep_list-requires-clause-premise : goal.keep_list-requires-clause-premise
keep_list-requires-clause-premise c = rw c.judged.ensures.unchanged c.requires.premise

pub keep_list-requires-clause-known : goal.keep_list-requires-clause-known
keep_list-requires-clause-known c = step-known c.args.self.now c.judged.new.self c.judged.ensures.unchanged _
    (subst (ArePairsKnown c.args.self.now.trees) (sym c.in_ok-own.ensures) c.requires.pairs) c.requires.sequent

pub keep_list-requires-clause-follows : goal.keep_list-requires-clause-follows
keep_list-requires-clause-follows c = rw (c.new-inference.ensures, c.in_ok-own.ensures)
    (same-follows c.args.self.now c.judged.new.self c.judged.ensures.unchanged
    (λ (k : Kept). constants_in (pairs_at k.trees c.args.pairs.now) (numbers.sequent_at k.trees c.args.premise.now))
    (λ (k : Kept). list_step k.trees c.args.pairs.now c.args.one c.args.sequent) c.requires.follows)

pub returns-in_err-judged : goal.returns-in_err-judged
returns-in_err-judged c = refused-defined _ (Grows-same c.judged.ensures.unchanged) _ c.from_residual.result c.in_err-judged.field-0.0
    c.from_residual.ensures.1 c.in_err-judged.ensures.refused

pub returns-in_err-own : goal.returns-in_err-own
returns-in_err-own c = stopped-definition _ (Grows-same c.judged.ensures.unchanged) _ c.from_residual-in_err-own.result c.from_residual-in_err-own.ensures.1

pub returns-in_err-id : goal.returns-in_err-id
returns-in_err-id c = stopped-definition _ (Grows-same (c.in_err-id.ensures.unchanged ∙ c.judged.ensures.unchanged)) _ c.from_residual-in_err-id.result
    c.from_residual-in_err-id.ensures.1

pub returns : goal.returns
returns c =
    let kept = rw (c.new-inference.ensures, c.in_ok-own.ensures) at c.in_ok-id.ensures.kept in
    same-defines c.args.self.now c.judged.new.self c.judged.ensures.unchanged
    (λ (k : Kept). constants_in (pairs_at k.trees c.args.pairs.now) (numbers.sequent_at k.trees c.args.premise.now))
    (λ (k : Kept). list_step k.trees c.args.pairs.now c.args.one c.args.sequent) c.keep_list.new.self c.in_ok-id.id c.in_ok-judged.ensures.within
    c.in_ok-id.ensures.number kept
