use Rattle.std.proofs.Common.{[]}
use Rattle.std.proofs.lemmas.Result.{IfOk-weaker}
use Rattle.lp_term.specs.TableLaws.{Holds-within}
use Rattle.translate_term.specs.GrowLaws.{Grows-trans, IsHeld-Grows, declarations_of-Grows}
use Rattle.translate_term.proofs.LeafLaws.{constant-typed}
use Rattle.translate_term.proofs.Public.{given_to, type-start}
use Rattle.translate_term.proofs.constant.Goals as goal

pub type_of-made-requires : goal.type_of-made-requires
type_of-made-requires c = (
  _,
  type-start c.requires.told.0 c.args.target.now c.args.table.now c.args.scope.now.types c.args.ty _ c.requires.held c.requires.ty c.requires.types
      c.requires.told.1.ty c.new-memo.ensures.empty,
)

pub constant_of-instance-requires : goal.constant_of-instance-requires
constant_of-instance-requires c =
    let start = type-start c.requires.told.0 c.args.target.now c.args.table.now c.args.scope.now.types c.args.ty _ c.requires.held c.requires.ty
    c.requires.types c.requires.told.1.ty c.new-memo.ensures.empty in (
      _,
      _,
      _,
      constant-typed (given_to c.requires.told.0 c.args.target.now c.args.table.now c.args.scope.now.types []) _ _ _ _ _ c.args.name.now c.args.ty start
          c.requires.told.1 c.type_of-made.ensures.grows c.in_ok-tree.tree (c.in_ok-tree.ensures.made _ start),
    )

pub returns-clause-made : goal.returns-clause-made
returns-clause-made c =
    IfOk-weaker c.constant_of-instance.result _ _
    (λ r h symbols told.
    let start = type-start symbols c.args.target.now c.args.table.now c.args.scope.now.types c.args.ty _ c.requires.held c.requires.ty c.requires.types told.ty
    c.new-memo.ensures.empty in
    h _ _ _ (constant-typed (given_to symbols c.args.target.now c.args.table.now c.args.scope.now.types []) _ _ _ _ _ c.args.name.now c.args.ty start told
    c.type_of-made.ensures.grows c.in_ok-tree.tree (c.in_ok-tree.ensures.made _ start)))
    c.constant_of-instance.ensures.made

pub returns-clause-known : goal.returns-clause-known
returns-clause-known c =
    let symbols = c.requires.told.0 in
    let told = c.requires.told.1 in
    let start = type-start symbols c.args.target.now c.args.table.now c.args.scope.now.types c.args.ty _ c.requires.held c.requires.ty c.requires.types told.ty
    c.new-memo.ensures.empty in
    IfOk-weaker c.constant_of-instance.result _ _
    (λ r h. Holds-within _ r.0 _
    (h _ _ _ (constant-typed (given_to symbols c.args.target.now c.args.table.now c.args.scope.now.types []) _ _ _ _ _ c.args.name.now c.args.ty start told
    c.type_of-made.ensures.grows c.in_ok-tree.tree (c.in_ok-tree.ensures.made _ start))))
    c.constant_of-instance.ensures.made

pub returns-clause-keeps : goal.returns-clause-keeps
returns-clause-keeps c = (Grows-trans c.type_of-made.ensures.grows c.constant_of-instance.ensures.grows).table

pub returns-clause-held : goal.returns-clause-held
returns-clause-held c = IsHeld-Grows _ _ (Grows-trans c.type_of-made.ensures.grows c.constant_of-instance.ensures.grows) c.requires.held

pub returns-clause-declared : goal.returns-clause-declared
returns-clause-declared c = declarations_of-Grows _ _ (Grows-trans c.type_of-made.ensures.grows c.constant_of-instance.ensures.grows) c.requires.held

pub returns-in_err-tree-clause-held : goal.returns-in_err-tree-clause-held
returns-in_err-tree-clause-held c = IsHeld-Grows _ _ c.type_of-made.ensures.grows c.requires.held

pub returns-in_err-tree-clause-declared : goal.returns-in_err-tree-clause-declared
returns-in_err-tree-clause-declared c = declarations_of-Grows _ _ c.type_of-made.ensures.grows c.requires.held
