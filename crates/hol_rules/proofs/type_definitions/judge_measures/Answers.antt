use Rattle.std.proofs.Common.{arith}
use Rattle.hol_term.specs.Tables.{term_at, type_at}
use Rattle.hol_rules.specs.Laws.{named_by}
use Rattle.hol_rules.proofs.TypeMeasures.{measures-large, measures-deep, measures-small}
use Rattle.hol_rules.proofs.type_definitions.judge_measures.Goals as goal

pub returns-then-law_size-gt-GREATEST_SIZE-clause-refused : goal.returns-then-law_size-gt-GREATEST_SIZE-clause-refused
returns-then-law_size-gt-GREATEST_SIZE-clause-refused c =
    let whole = type_at c.args.terms.now c.args.parts.whole.0 in
    let f = term_at c.args.terms.now c.args.parts.predicate.0 in
    measures-large (named_by c.args.names) whole f c.args.version (omega (arith, c.law_size.ensures, c.if-law_size-gt-GREATEST_SIZE.true))

pub returns-then-law_depth-gt-GREATEST_DEPTH-clause-refused : goal.returns-then-law_depth-gt-GREATEST_DEPTH-clause-refused
returns-then-law_depth-gt-GREATEST_DEPTH-clause-refused c =
    let whole = type_at c.args.terms.now c.args.parts.whole.0 in
    let f = term_at c.args.terms.now c.args.parts.predicate.0 in
    measures-deep (named_by c.args.names) whole f c.args.version (omega (arith, c.law_size.ensures, c.if-law_size-gt-GREATEST_SIZE.false))
    (omega (arith, c.law_depth.ensures, c.if-law_depth-gt-GREATEST_DEPTH.true))

pub returns-clause-within : goal.returns-clause-within
returns-clause-within c =
    let whole = type_at c.args.terms.now c.args.parts.whole.0 in
    let f = term_at c.args.terms.now c.args.parts.predicate.0 in
    measures-small (named_by c.args.names) whole f c.args.version (omega (arith, c.law_size.ensures, c.if-law_size-gt-GREATEST_SIZE.false))
    (omega (arith, c.law_depth.ensures, c.if-law_depth-gt-GREATEST_DEPTH.false))
