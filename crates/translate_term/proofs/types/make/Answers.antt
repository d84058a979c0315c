use Rattle.std.proofs.Common.{◌≡◌, List, [], ◌∷◌, subst}
use Rattle.hol_spec.specs.Names.{Name}
use Rattle.hol_spec.specs.Types.{HolType, operator, types_of}
use Rattle.hol_type.specs.declared.table.TypeId.{TypeId}
use Rattle.hol_type.specs.Tables.{types_at, Holds}
use Rattle.lp_term.specs.declared.LpId.{LpId}
use Rattle.holide_sig.specs.declared.module.Module.{Module}
use Rattle.translate_term.specs.declared.tasks.Task.TheVariants.{Join}
use Rattle.translate_term.specs.Walks.{Given, IsTypeStart, IsTypeWalk}
use Rattle.translate_term.proofs.EndsLaws.{OnOk-map, OnOk-map3}
use Rattle.translate_term.proofs.ListSteps.{no-item}
use Rattle.translate_term.proofs.TypeTurns.{type_begins, type_set_out, type_variable}
use Rattle.translate_term.proofs.types.make.Goals as goal

-- a walk from an operator without arguments has come back to it
alone : (given : Given) (root : TypeId) (m : Module) (types : List HolType) (names : List (Name × LpId)) (made : List (TypeId × LpId)) (n : Name)
    (args : List TypeId) → args ≡ [] → Holds types root.0 (operator n (types_of (types_at types args))) → IsTypeStart given root m types names made
    → IsTypeWalk given root m types names (Join root ∷ []) made
alone given root m types names made n args e h s =
    type_set_out given root m types names root [] made n [] (tt {0}) (subst (λ l. Holds types root.0 (operator n (types_of (types_at types l)))) e h)
    (type_begins given root m types names made s)

pub join-requires : goal.join-requires
join-requires c =
    let op = c.in-Op-default-empty in
    let e = no-item op.field-1.now op.len_below in
    (c.requires.0, _, _, alone c.requires.0 c.args.root _ _ _ _ op.field-0.now op.field-1.now e op.ensures.is c.requires.1)

pub returns-in-Op-default-empty-clause-ends : goal.returns-in-Op-default-empty-clause-ends
returns-in-Op-default-empty-clause-ends c =
    let op = c.in-Op-default-empty in
    let e = no-item op.field-1.now op.len_below in
    OnOk-map c.join.result (λ on given s. on given _ _ (alone given c.args.root _ _ _ _ op.field-0.now op.field-1.now e op.ensures.is s)) c.join.ensures.walk

pub returns-in_ok-tree-in-Var-clause-ends : goal.returns-in_ok-tree-in-Var-clause-ends
returns-in_ok-tree-in-Var-clause-ends c =
    OnOk-map3 c.note.result
    (λ only new kept given s. type_variable given _ _ _ _ c.args.root _ _ _ c.in_ok-tree-in-Var.ensures.grows _ c.in_ok-tree-in-Var.tree only new kept
    c.in-Var.name.now c.in-Var.ensures.is (c.in_ok-tree-in-Var.ensures.made given) (type_begins given _ _ _ _ _ s))
    c.note.ensures.noted c.note.ensures.new c.note.ensures.kept
