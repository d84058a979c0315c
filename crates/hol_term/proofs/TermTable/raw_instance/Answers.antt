use Rattle.std.proofs.Common.{ap, ◌∙◌, Some}
use Rattle.std.proofs.lemmas.Result.{IfOk-weaker}
use Rattle.hol_laws.specs.TermRenamings.{put_all_at-one}
use Rattle.hol_term.specs.Tables.{term_at}
use Rattle.hol_term.proofs.TermTable.raw_instance.Goals as goal

pub returns-clause-made : goal.returns-clause-made
returns-clause-made c =
    IfOk-weaker c.changed.result _ _ (λ r h. h ∙ ap Some (put_all_at-one 0 (term_at c.args.self.now c.args.arg.0) (term_at c.args.self.now c.args.body.0)))
    c.changed.ensures.made
