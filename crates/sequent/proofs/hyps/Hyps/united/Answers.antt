use Rattle.std.proofs.Common.{◌≡◌, [], ap, sym, ◌∙◌, true, false}
use Rattle.std.proofs.lemmas.Result.{IfOk-weaker}
use Rattle.sequent.proofs.HypLaws.{union-within, union-empty, united_in_turn, none_there}
use Rattle.sequent.proofs.hyps.Hyps.united.Goals as goal

pub returns-then-are_among : goal.returns-then-are_among
returns-then-are_among c = IfOk-weaker c.copied.result _ _
    (λ hyps e. e ∙ sym (union-within c.args.self.now c.args.others.now (sym c.are_among.ensures ∙ c.if-are_among.true))) c.copied.ensures

pub returns-then-is_empty : goal.returns-then-is_empty
returns-then-is_empty c =
    IfOk-weaker c.copied-then-is_empty.result _ _
    (λ hyps e. e ∙ sym
    (union-empty c.args.self.now c.args.others.now
    (none_there c.ids-own.result.now c.args.self.now c.is_empty.result c.ids-own.ensures.numbers c.is_empty.ensures c.if-is_empty.true)
    c.ids-more.ensures.no_repeats))
    c.copied-then-is_empty.ensures

pub returns : goal.returns
returns c =
    IfOk-weaker c.listed.result _ _
    (λ hyps e. e ∙ united_in_turn c.args.self.now c.args.others.now _ _ _ _ c.ids-own.ensures.no_repeats c.ids-own.ensures.numbers c.ids-more.ensures.numbers
    c.in_ok-list.ensures c.in_ok-unite.ensures.united)
    c.listed.ensures
