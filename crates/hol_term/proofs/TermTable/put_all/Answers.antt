use Rattle.std.proofs.lemmas.Result.{on_err_weaker}
use Rattle.hol_spec.specs.TermBinding.{put_all}
use Rattle.hol_term.specs.Tables.{term_at, terms_at}
use Rattle.hol_term.proofs.TermTable.put_all.Goals as goal

pub settle-requires-clause-earlier : goal.settle-requires-clause-earlier
settle-requires-clause-earlier c = (
  c.args.self.now,
  record {
    keeps = c.changed-made.ensures.keeps;
    own = c.mark-mark.ensures.own;
    types = c.mark-mark.ensures.types;
    terms =
        c.mark-mark.ensures.terms;
  },
)

pub settle-requires-clause-made : goal.settle-requires-clause-made
settle-requires-clause-made c = c.changed-made.ensures.known

pub returns-clause-known : goal.returns-clause-known
returns-clause-known c = c.settle.ensures.known

pub returns-clause-made : goal.returns-clause-made
returns-clause-made c = c.settle.ensures.made (put_all (terms_at c.args.self.now c.args.args.now) (term_at c.args.self.now c.args.body.0))
    c.changed-made.ensures.made

pub returns-clause-within : goal.returns-clause-within
returns-clause-within c = c.settle.ensures.within (put_all (terms_at c.args.self.now c.args.args.now) (term_at c.args.self.now c.args.body.0))
    c.changed-made.ensures.made

pub returns-clause-keeps : goal.returns-clause-keeps
returns-clause-keeps c = c.settle.ensures.keeps c.args.self.now
    (record { keeps = c.changed-made.ensures.keeps; own = c.mark-mark.ensures.own; types = c.mark-mark.ensures.types; terms = c.mark-mark.ensures.terms })

pub returns-clause-refusal : goal.returns-clause-refusal
returns-clause-refusal c = c.settle.ensures.refusal (put_all (terms_at c.args.self.now c.args.args.now) (term_at c.args.self.now c.args.body.0))
    c.changed-made.ensures.made

pub returns-clause-unchanged : goal.returns-clause-unchanged
returns-clause-unchanged c = on_err_weaker c.settle.result
    (λ back. back c.args.self.now
    (record { keeps = c.changed-made.ensures.keeps; own = c.mark-mark.ensures.own; types = c.mark-mark.ensures.types; terms = c.mark-mark.ensures.terms }))
    c.settle.ensures.unchanged
