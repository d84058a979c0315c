use Rattle.std.proofs.Common.{◌≡◌, false, arith, refl, subst}
use Rattle.hol_term.specs.Views.{tree_of_view}
use Rattle.lp_term.specs.TableLaws.{Holds-tree_at, Holds-within}
use Rattle.translate_term.specs.GrowLaws.{Grows-refl, Grows-trans, IsTypeMemo-Keeps}
use Rattle.translate_term.specs.Walks.{is_leaf, IsLeafMade}
use Rattle.translate_term.proofs.EndsLaws.{OnOk-map}
use Rattle.translate_term.proofs.TermTurns.{start-of, told-in, term_lifted, no-leaf}
use Rattle.translate_term.proofs.terms.make_leaf.Goals as goal

pub note_leaf-requires : goal.note_leaf-requires
note_leaf-requires c =
    let w = c.requires.walk.2 in
    let start = start-of c.requires.walk.0 c.requires.walk.1 _ _ _ c.args.source.scope.now.terms c.args.place c.args.walk.now.tasks c.args.walk.now.made _
    w.ends.0 _ c.in-Free.ensures.is c.in-Free.ty c.in-Free.ensures.lower (λ t. t) w.reads w.types_noted in
    Holds-within _ c.in_ok-tree-in-Free.tree.0 _ (c.in_ok-tree-in-Free.ensures.made c.requires.walk.0 start w.variables_told)

pub returns-in_ok-tree-in-Free-clause-walk : goal.returns-in_ok-tree-in-Free-clause-walk
returns-in_ok-tree-in-Free-clause-walk c =
    OnOk-map c.note_leaf.result
    (λ lifted given root w.
    let start = start-of given root _ _ _ c.args.source.scope.now.terms c.args.place c.args.walk.now.tasks c.args.walk.now.made _ w.ends.0 _
    c.in-Free.ensures.is c.in-Free.ty c.in-Free.ensures.lower (λ t. t) w.reads w.types_noted in
    let made = c.in_ok-tree-in-Free.ensures.made given start w.variables_told in
    term_lifted given root _ _ _ _ c.args.place _ _ _ _ (Grows-trans c.in_ok-tree-in-Free.ensures.grows c.note_leaf.ensures.grows) _ _ _
    c.in-Free.ensures.is refl
    (subst (IsLeafMade c.args.place c.args.walk.now.made c.note_leaf.new.made c.note_leaf.new.target.table)
    (Holds-tree_at _ c.in_ok-tree-in-Free.tree.0 _ made) lifted)
    (IsTypeMemo-Keeps c.note_leaf.ensures.grows.table given _ _ (c.in_ok-tree-in-Free.ensures.noted given start)) w)
    c.note_leaf.ensures.made

pub returns-in_ok-tree-in-Free-clause-grows : goal.returns-in_ok-tree-in-Free-clause-grows
returns-in_ok-tree-in-Free-clause-grows c = Grows-trans c.in_ok-tree-in-Free.ensures.grows c.note_leaf.ensures.grows

pub note_leaf-requires-in-Const : goal.note_leaf-requires-in-Const
note_leaf-requires-in-Const c =
    let w = c.requires.walk.2 in
    let start = start-of c.requires.walk.0 c.requires.walk.1 _ _ _ c.args.source.scope.now.terms c.args.place c.args.walk.now.tasks c.args.walk.now.made _
    w.ends.0 _ c.in-Const.ensures.is c.in-Const.ty c.in-Const.ensures.lower (λ t. t.ty) w.reads w.types_noted in
    let told = told-in c.requires.walk.0 c.requires.walk.1 c.args.target.now c.args.source.table.now c.args.source.scope.now.types
    c.args.source.scope.now.terms c.args.place c.args.walk.now.tasks c.args.walk.now.made c.args.walk.now.types _ c.in-Const.ensures.is w.ends.0 in
    Holds-within _ c.in_ok-tree-in-Const.tree.0 _ (c.in_ok-tree-in-Const.ensures.made c.requires.walk.0 start told)

pub returns-in_ok-tree-in-Const-clause-walk : goal.returns-in_ok-tree-in-Const-clause-walk
returns-in_ok-tree-in-Const-clause-walk c =
    OnOk-map c.note_leaf-in-Const.result
    (λ lifted given root w.
    let start = start-of given root _ _ _ c.args.source.scope.now.terms c.args.place c.args.walk.now.tasks c.args.walk.now.made _ w.ends.0 _
    c.in-Const.ensures.is c.in-Const.ty c.in-Const.ensures.lower (λ t. t.ty) w.reads w.types_noted in
    let told = told-in given root c.args.target.now c.args.source.table.now c.args.source.scope.now.types c.args.source.scope.now.terms c.args.place
    c.args.walk.now.tasks c.args.walk.now.made c.args.walk.now.types _ c.in-Const.ensures.is w.ends.0 in
    let made = c.in_ok-tree-in-Const.ensures.made given start told in
    term_lifted given root _ _ _ _ c.args.place _ _ _ _ (Grows-trans c.in_ok-tree-in-Const.ensures.grows c.note_leaf-in-Const.ensures.grows) _ _ _
    c.in-Const.ensures.is refl
    (subst (IsLeafMade c.args.place c.args.walk.now.made c.note_leaf-in-Const.new.made c.note_leaf-in-Const.new.target.table)
    (Holds-tree_at _ c.in_ok-tree-in-Const.tree.0 _ made) lifted)
    (IsTypeMemo-Keeps c.note_leaf-in-Const.ensures.grows.table given _ _ (c.in_ok-tree-in-Const.ensures.noted given start)) w)
    c.note_leaf-in-Const.ensures.made

pub returns-in_ok-tree-in-Const-clause-grows : goal.returns-in_ok-tree-in-Const-clause-grows
returns-in_ok-tree-in-Const-clause-grows c = Grows-trans c.in_ok-tree-in-Const.ensures.grows c.note_leaf-in-Const.ensures.grows

pub returns-in-App-clause-grows : goal.returns-in-App-clause-grows
returns-in-App-clause-grows c = Grows-refl _

pub returns-in-App-clause-walk : goal.returns-in-App-clause-walk
returns-in-App-clause-walk c =
    let other : is_leaf (tree_of_view c.args.source.table.now c.view.result) ≡ false = grind (arith, c.in-App.is) in
    absurd (no-leaf c.args.source.table.now c.args.place.id _ c.view.ensures.is other c.requires.leaf)
