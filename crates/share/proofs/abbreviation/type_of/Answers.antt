use Rattle.std.proofs.lemmas.Result.{IfOk-weaker}
use Rattle.share.proofs.AbbreviatingLaws.{constant-asked, types-told, term-told}
use Rattle.share.proofs.abbreviation.type_of.Goals as goal

pub ask-requires-clause-question : goal.ask-requires-clause-question
ask-requires-clause-question c = (c.requires.known, constant-asked _ _ c.requires.constant)

pub returns-then-is_types-clause-told : goal.returns-then-is_types-clause-told
returns-then-is_types-clause-told c = types-told _ c.ask.new.source.table _ c.in_ok-constant.constant c.is_types.result c.requires.constant
    c.in_ok-constant.ensures.told c.is_types.ensures c.if-is_types.true

pub returns-else-is_types-clause-told : goal.returns-else-is_types-clause-told
returns-else-is_types-clause-told c =
    IfOk-weaker c.type_of_term.result _ _
    (λ s t. term-told c.args.source.now c.ask.new.source c.type_of_term.new.source.table c.args.id c.in_ok-constant.constant s c.is_types.result
    c.in_ok-constant.ensures.decls c.in_ok-constant.ensures.keeps c.requires.asking.held c.requires.known c.requires.constant
    c.in_ok-constant.ensures.told c.is_types.ensures c.if-is_types.false t)
    c.type_of_term.ensures.told
