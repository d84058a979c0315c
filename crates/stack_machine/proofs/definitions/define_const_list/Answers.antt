use Rattle.std.proofs.Common.{sym, ap, ◌∙◌, arith, [], ◌∷◌}
use Rattle.article_spec.specs.State as state
use Rattle.article_spec.specs.DefiningWords.{constant_objects}
use Rattle.hol_spec.specs.DefinitionLists.{names_of}
use Rattle.hol_defs.specs.Lists.{pairs_at as constant_pairs_at}
use Rattle.stack_machine.specs.declared.object.Object.TheVariants as object
use Rattle.stack_machine.specs.Shown.{shown}
use Rattle.stack_machine.specs.StoredLaws.{IsListKnown-Grows, list_view-Grows}
use Rattle.stack_machine.proofs.Obeyed.{failed, first_fails, next_fails, stopped}
use Rattle.stack_machine.proofs.Defined.{defining-fails, defining-obeys}
use Rattle.stack_machine.proofs.DefiningRules.{obey-DefineConstList}
use Rattle.stack_machine.proofs.ConstantLists.{names_of-constant_pairs_at, list_rule-after, AreConstantPairsKnown-Keeps}
use Rattle.stack_machine.proofs.definitions.define_const_list.Goals as goal

pub returns-in_err-one : goal.returns-in_err-one
returns-in_err-one c = stopped _ _ c.from_residual.ensures.1 c.requires (λ s. first_fails _ _ _ (c.in_err-one.ensures c.args.store.now).refused)

pub returns-in_err-pairs : goal.returns-in_err-pairs
returns-in_err-pairs c = stopped _ _ c.from_residual-in_err-pairs.ensures.1 c.requires
    (λ s. next_fails _ _ _ _ (c.in_ok-one.ensures c.args.store.now).taken (first_fails _ _ _ c.in_err-pairs.ensures.refused))

pub returns-in_err-constants : goal.returns-in_err-constants
returns-in_err-constants c = failed _ _ c.from_residual-in_err-constants.ensures.1 c.requires c.in_err-constants.ensures.grows c.in_err-constants.ensures.run
    (λ s. tt)

pub define_const_list-requires-clause-pairs : goal.define_const_list-requires-clause-pairs
define_const_list-requires-clause-pairs c = rw c.deref-2.ensures.value
    (AreConstantPairsKnown-Keeps c.in_ok-constants.ensures.grows.trees _ (c.in_ok-pairs.ensures.known c.requires))

pub define_const_list-requires-clause-one : goal.define_const_list-requires-clause-one
define_const_list-requires-clause-one c = let k = (c.in_ok-one.ensures c.args.store.now).known c.requires in omega
    (arith, k, c.in_ok-constants.ensures.grows.steps)

pub returns-in_err-step : goal.returns-in_err-step
returns-in_err-step c =
    let m = c.args.store.now in
    let ps = c.in_ok-pairs.pairs.items in
    let inferred = list_rule-after ps c.in_ok-one.one c.in_ok-constants.ensures.grows c.in_ok-constants.ensures.run (c.in_ok-pairs.ensures.known c.requires)
    (rw c.deref-2.ensures.value at c.in_err-step.ensures) in
    defining-fails 2 (state.Object.list (constant_objects (names_of (constant_pairs_at m.trees ps))) ∷ [])
    (λ s. obey-DefineConstList (shown m c.args.stack.now s) _ _ _ _ (c.in_ok-one.ensures m).taken c.in_ok-pairs.ensures.taken)
    c.requires _ _ c.from_residual-in_err-step.ensures.1 inferred

pub put_two-requires-clause-there : goal.put_two-requires-clause-there
put_two-requires-clause-there c = c.in_ok-pairs.ensures.there

pub returns : goal.returns
returns c =
    let m = c.args.store.now in
    let ps = c.in_ok-pairs.pairs.items in
    let made = c.in_ok-constants.ensures in
    let step = rw c.deref-2.ensures.value at c.in_ok-step.ensures in
    let inferred = list_rule-after ps c.in_ok-one.one made.grows made.run (c.in_ok-pairs.ensures.known c.requires) step in
    let names = rw c.deref.ensures.value at made.made in
    defining-obeys 2 (state.Object.list (constant_objects (names_of (constant_pairs_at m.trees ps))) ∷ [])
    (λ s. obey-DefineConstList (shown m c.args.stack.now s) _ _ _ _ (c.in_ok-one.ensures m).taken c.in_ok-pairs.ensures.taken)
    c.requires (object.List c.in_ok-constants.constants ∷ []) inferred c.put_two.ensures
    (IsListKnown-Grows step.grows c.in_ok-constants.constants made.known, tt)
    (ap (λ xs. state.Object.list xs ∷ []) (sym (list_view-Grows step.grows c.in_ok-constants.constants made.known) ∙ names
    ∙ ap constant_objects (sym (names_of-constant_pairs_at m.trees ps))))
