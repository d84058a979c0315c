use Rattle.std.proofs.Common.{refl}
use Rattle.share.proofs.AskingLaws.{asking-after}
use Rattle.share.proofs.AbbreviatingLaws.{closed-question, closed-told, terms-told, none-told}
use Rattle.share.proofs.abbreviation.type_of_term.Goals as goal

pub ask-requires-clause-asking : goal.ask-requires-clause-asking
ask-requires-clause-asking c = asking-after c.args.source.now (record { table = c.term_question.new.table; decls = c.args.source.now.decls }) _
    c.args.waiting.now refl c.in_ok-question.ensures.keeps c.requires.asking

pub ask-requires-clause-question : goal.ask-requires-clause-question
ask-requires-clause-question c = closed-question _ c.term_question.new.table c.in_ok-question.question _ c.in_ok-question.ensures.made

pub returns-in_ok-terms-in-Some-clause-asking : goal.returns-in_ok-terms-in-Some-clause-asking
returns-in_ok-terms-in-Some-clause-asking c = asking-after c.ask.new.source (record { table = c.term_of.new.table; decls = c.ask.new.source.decls }) _
    c.ask.new.waiting refl c.in_ok-terms-in-Some.ensures.keeps c.in_ok-told.ensures.asking

pub returns-in_ok-terms-in-Some-clause-told : goal.returns-in_ok-terms-in-Some-clause-told
returns-in_ok-terms-in-Some-clause-told c =
    terms-told c.ask.new.source.table c.term_of.new.table _ c.in-Some.ty c.in_ok-terms-in-Some.terms c.in_ok-told.told c.in-Some.is
    (closed-told c.args.source.now c.term_question.new.table c.ask.new.source.table c.in_ok-question.question c.args.id c.in_ok-told.told
    c.in_ok-question.ensures.keeps c.requires.asking.held c.in_ok-question.ensures.made c.in_ok-told.ensures.told) c.in_ok-terms-in-Some.ensures.made

pub returns-in-None-clause-told : goal.returns-in-None-clause-told
returns-in-None-clause-told c =
    none-told c.ask.new.source.table _ c.in_ok-told.told c.in-None.is
    (closed-told c.args.source.now c.term_question.new.table c.ask.new.source.table c.in_ok-question.question c.args.id c.in_ok-told.told
    c.in_ok-question.ensures.keeps c.requires.asking.held c.in_ok-question.ensures.made c.in_ok-told.ensures.told)
