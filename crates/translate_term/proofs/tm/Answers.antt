use Rattle.std.proofs.Common.{◌∙◌, ap, Some, ◌<◌, ◌^◌, arith}
use Rattle.std.proofs.lemmas.Result.{IfOk-weaker}
use Rattle.hol_term.specs.Tables.{term_at}
use Rattle.lp_term.specs.TableLaws.{Holds-within}
use Rattle.translate_term.specs.GrowLaws.{IsHeld-Grows, declarations_of-Grows}
use Rattle.translate_term.proofs.Public.{given_to, term-start, term-zero}
use Rattle.translate_term.proofs.tm.Goals as goal

pub term_tree-requires : goal.term_tree-requires
term_tree-requires c =
    let small : c.args.id.0 < 2 ^ 64 = omega (arith, c.requires.id, c.count-count.ensures) in (
      _,
      term-start c.requires.told.0 c.args.target.now c.args.table.now c.args.scope.now.types c.args.scope.now.terms c.args.id c.requires.held c.requires.id
          small c.requires.types c.requires.terms c.requires.told.1,
    )

pub returns-clause-made : goal.returns-clause-made
returns-clause-made c =
    let small : c.args.id.0 < 2 ^ 64 = omega (arith, c.requires.id, c.count-count.ensures) in
    IfOk-weaker c.term_tree.result _ _
    (λ r h symbols told.
    h _ (term-start symbols c.args.target.now c.args.table.now c.args.scope.now.types c.args.scope.now.terms c.args.id c.requires.held c.requires.id small
    c.requires.types c.requires.terms told) ∙ ap Some
    (term-zero (given_to symbols c.args.target.now c.args.table.now.types c.args.scope.now.types c.args.scope.now.terms)
    (term_at c.args.table.now c.args.id.0)))
    c.term_tree.ensures.made

pub returns-clause-known : goal.returns-clause-known
returns-clause-known c =
    let small : c.args.id.0 < 2 ^ 64 = omega (arith, c.requires.id, c.count-count.ensures) in
    IfOk-weaker c.term_tree.result _ _
    (λ r h. Holds-within _ r.0 _
    (h _ (term-start c.requires.told.0 c.args.target.now c.args.table.now c.args.scope.now.types c.args.scope.now.terms c.args.id c.requires.held
    c.requires.id small c.requires.types c.requires.terms c.requires.told.1)))
    c.term_tree.ensures.made

pub returns-clause-held : goal.returns-clause-held
returns-clause-held c = IsHeld-Grows _ _ c.term_tree.ensures.grows c.requires.held

pub returns-clause-declared : goal.returns-clause-declared
returns-clause-declared c = declarations_of-Grows _ _ c.term_tree.ensures.grows c.requires.held
