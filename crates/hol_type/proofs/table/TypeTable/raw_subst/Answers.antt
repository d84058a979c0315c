use Rattle.std.proofs.Common.{◌<◌, ℕ, List, [], Some, length, ap, sym, subst, ◌∙◌}
use Rattle.std.proofs.lemmas.Bool.Decides.{Decides-eqb}
use Rattle.std.proofs.lemmas.List.{nil_from_length}
use Rattle.hol_laws.specs.TermInstances.{substitute-nothing}
use Rattle.hol_spec.specs.Substitution.{substitute}
use Rattle.hol_spec.specs.Types.{HolType}
use Rattle.hol_type.specs.Tables.{tree_at, pairs_at, Holds}
use Rattle.hol_type.specs.TableLaws.{Keeps-refl, Keeps-trans, Holds-within, tree_at-Holds}
use Rattle.hol_type.proofs.MadeLaws.{is_some, if_some}
use Rattle.hol_type.proofs.SubstitutionTurns.{walk_begins, walk_ends}
use Rattle.hol_type.proofs.table.TypeTable.raw_subst.Goals as goal

pub loop-task-init : goal.loop-task-init
loop-task-init c = (
  Keeps-refl _,
  rw (c.in_ok-push.ensures.pushed, c.new.ensures.empty)
      (walk_begins _ _ c.args.root _ c.requires.pairs c.requires.root c.new-2.ensures.empty),
)

pub loop-task-preserved : goal.loop-task-preserved
loop-task-preserved c =
    let w = rw c.in-Some.ensures.popped at c.loop-task.invariant.1 in
    (Keeps-trans c.loop-task.invariant.0 c.turn.ensures.keeps, c.in_ok-turn.ensures.walk _ _ w)

-- Where no pair is given, a type stays as it is.
Holds-nothing : (ts : List HolType) (i : ℕ) → i < length ts → Holds ts i (substitute (pairs_at ts []) (tree_at ts i))
Holds-nothing ts i h = tree_at-Holds ts i h ∙ ap Some (sym (substitute-nothing (tree_at ts i)))

pub returns-then-is_empty-clause-made : goal.returns-then-is_empty-clause-made
returns-then-is_empty-clause-made c =
    let ts = c.args.self.now in
    let none = nil_from_length c.args.pairs.now ((Decides-eqb _ 0).0 (sym c.is_empty.ensures ∙ c.if-is_empty.true)) in
    subst (λ ps. Holds ts c.args.root.0 (substitute (pairs_at ts ps) (tree_at ts c.args.root.0))) (sym none) (Holds-nothing ts c.args.root.0 c.requires.root)

pub unwrap-requires : goal.unwrap-requires
unwrap-requires c =
    let w = rw c.in_default.ensures.popped at c.loop-task.invariant.1 in
    is_some c.find.result c.find.ensures.absent (λ absent. absent w.ends.0 w.ends.1)

pub returns-clause-made : goal.returns-clause-made
returns-clause-made c =
    let w = rw c.in_default.ensures.popped at c.loop-task.invariant.1 in
    walk_ends _ _ _ _ _ c.unwrap.result _ c.loop-task.invariant.0 c.requires.root
    (if_some _ c.find.result c.unwrap.result c.unwrap.ensures c.find.ensures.noted) w

pub returns-clause-known : goal.returns-clause-known
returns-clause-known c =
    let w = rw c.in_default.ensures.popped at c.loop-task.invariant.1 in
    Holds-within _ _ _
    (walk_ends _ _ _ _ _ c.unwrap.result _ c.loop-task.invariant.0 c.requires.root
    (if_some _ c.find.result c.unwrap.result c.unwrap.ensures c.find.ensures.noted) w)
