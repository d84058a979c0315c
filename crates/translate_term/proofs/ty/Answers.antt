use Rattle.std.proofs.lemmas.Result.{IfOk-weaker}
use Rattle.lp_term.specs.TableLaws.{Holds-within}
use Rattle.translate_term.specs.GrowLaws.{IsHeld-Grows, declarations_of-Grows}
use Rattle.translate_term.proofs.Public.{type-start}
use Rattle.translate_term.proofs.ty.Goals as goal

pub type_of-requires : goal.type_of-requires
type_of-requires c = (
  _,
  type-start c.requires.told.0 c.args.target.now c.args.table.now c.args.scope.now.types c.args.id _ c.requires.held c.requires.id c.requires.types
      c.requires.told.1 c.new-memo.ensures.empty,
)

pub returns-clause-made : goal.returns-clause-made
returns-clause-made c =
    IfOk-weaker c.type_of.result _ _
    (λ r h symbols told. h _
    (type-start symbols c.args.target.now c.args.table.now c.args.scope.now.types c.args.id _ c.requires.held c.requires.id c.requires.types told
    c.new-memo.ensures.empty))
    c.type_of.ensures.made

pub returns-clause-known : goal.returns-clause-known
returns-clause-known c =
    IfOk-weaker c.type_of.result _ _
    (λ r h. Holds-within _ r.0 _
    (h _ (type-start c.requires.told.0 c.args.target.now c.args.table.now c.args.scope.now.types c.args.id _ c.requires.held c.requires.id c.requires.types
    c.requires.told.1 c.new-memo.ensures.empty)))
    c.type_of.ensures.made

pub returns-clause-held : goal.returns-clause-held
returns-clause-held c = IsHeld-Grows _ _ c.type_of.ensures.grows c.requires.held

pub returns-clause-declared : goal.returns-clause-declared
returns-clause-declared c = declarations_of-Grows _ _ c.type_of.ensures.grows c.requires.held
