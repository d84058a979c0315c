use Rattle.std.proofs.Common.{◌≡◌, ℕ, Result, Err, Option, None, Some, sym, ap, subst, ◌∙◌, rules}
use Rattle.std.specs.Result.{result_err}
use Rattle.article_read.specs.declared.lines.LineFault.{LineFault}
use Rattle.article_read.specs.OpenLines.{AnswersLine}
use Rattle.article_read.specs.Reading.{EndsWith}
use Rattle.article_read.proofs.Steps.{ends_stopped, end_fault, end_goes}
use Rattle.article_read.proofs.lines.Lines.finish.Goals as goal

pub returns-in-Some-clause-ends : goal.returns-in-Some-clause-ends
returns-in-Some-clause-ends c = ends_stopped _ _ _ (ap (λ r. r.fault) (sym c.self.view_is) ∙ c.in-Some.is)

pub returns-in_err-note-clause-ends : goal.returns-in_err-note-clause-ends
returns-in_err-note-clause-ends c =
    let r = c.args.self.now in
    let before = c.args.out.now.items in
    let after = c.give-given.new.commands.items in
    let fault = c.in_err-note.field-0.0 in
    let line : c.deref.result.now ≡ r.rest = c.deref.ensures.value ∙ ap (λ s. s.rest) c.self.view_is in
    let given : result_err c.give-given.result ≡ Some fault = ap result_err (sym c.in_err-note.ensures.same) in
    let answer : ◌≡◌ {A = Result ℕ LineFault} c.from_residual.result (Err fault) = search rules in
    subst (EndsWith r before after) (sym answer)
    (end_fault r c.give-given.ensures.kept (ap (λ s. s.fault) (sym c.self.view_is) ∙ c.in_default.is) before after fault
    (subst (λ xs. AnswersLine (Some fault) r.number xs before after) line
    (subst (λ x. AnswersLine x r.number c.deref.result.now before after) given c.give-given.ensures.answers)))

pub returns-clause-ends : goal.returns-clause-ends
returns-clause-ends c =
    let r = c.args.self.now in
    let before = c.args.out.now.items in
    let after = c.give-given.new.commands.items in
    let line : c.deref.result.now ≡ r.rest = c.deref.ensures.value ∙ ap (λ s. s.rest) c.self.view_is in
    let given : result_err c.give-given.result ≡ None = ap result_err (sym c.in_ok-note.ensures.same) in
    end_goes r c.give-given.ensures.kept (ap (λ s. s.fault) (sym c.self.view_is) ∙ c.in_default.is) before after _
    (ap (λ s. s.number) (c.self-2.view_is ∙ c.in_ok-note.ensures.noted))
    (subst (λ xs. AnswersLine None r.number xs before after) line
    (subst (λ x. AnswersLine x r.number c.deref.result.now before after) given c.give-given.ensures.answers))
