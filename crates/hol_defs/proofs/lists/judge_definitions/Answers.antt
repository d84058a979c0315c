use Rattle.std.proofs.Common.{◌≡◌, sym, subst, None}
use Rattle.std.specs.Prelude.{OnOk, IfErr}
use Rattle.hol_type.specs.Tables as type
use Rattle.hol_defs.specs.Faults.{Refuses}
use Rattle.hol_defs.specs.Lists.{pairs_at, sequent_at}
use Rattle.hol_defs.proofs.ListFaults.{definitions_fault-judged, definitions_fault-refused, terms-defined, undefined_fault-found}
use Rattle.hol_defs.proofs.lists.judge_definitions.Goals as goal

pub judge_equations-requires-clause-distinct : goal.judge_equations-requires-clause-distinct
judge_equations-requires-clause-distinct c = subst type.IsDistinct c.types.ensures.types c.count-types.ensures.distinct

pub returns-in-Ok-clause-defined : goal.returns-in-Ok-clause-defined
returns-in-Ok-clause-defined c =
    terms-defined c.args.table.now (subst type.IsDistinct c.types.ensures.types c.count-types.ensures.distinct) c.args.pairs.now c.args.hyps.now c.args.concl
    c.judge_equations.new.equations.items c.requires.pairs
    c.in-Ok.ensures.said c.in-Ok.ensures.known c.definientia.result c.definientia.ensures.found

pub returns-in-Ok-clause-fits : goal.returns-in-Ok-clause-fits
returns-in-Ok-clause-fits c =
    let judged = definitions_fault-judged c.args.table.now (subst type.IsDistinct c.types.ensures.types c.count-types.ensures.distinct) c.args.pairs.now
    c.args.hyps.now c.args.concl c.judge_equations.new.equations.items c.requires.pairs
    c.in-Ok.ensures.said c.in-Ok.ensures.known c.in-Ok.ensures.fits in
    subst (λ f. OnOk c.definientia.result (f ≡ None)) (sym judged)
    (undefined_fault-found c.args.pairs.now c.judge_equations.new.equations.items c.definientia.result c.definientia.ensures.found)

pub returns-in-Ok-clause-refusal : goal.returns-in-Ok-clause-refusal
returns-in-Ok-clause-refusal c =
    let judged = definitions_fault-judged c.args.table.now (subst type.IsDistinct c.types.ensures.types c.count-types.ensures.distinct) c.args.pairs.now
    c.args.hyps.now c.args.concl c.judge_equations.new.equations.items c.requires.pairs
    c.in-Ok.ensures.said c.in-Ok.ensures.known c.in-Ok.ensures.fits in
    subst (λ f. IfErr c.definientia.result (λ fault. Refuses fault f)) (sym judged) c.definientia.ensures.refusal

pub returns-in-Err-clause-refusal : goal.returns-in-Err-clause-refusal
returns-in-Err-clause-refusal c = definitions_fault-refused (pairs_at c.args.table.now c.args.pairs.now)
    (sequent_at c.args.table.now c.args.hyps.now c.args.concl) c.in-Err.fault c.in-Err.ensures.refusal
