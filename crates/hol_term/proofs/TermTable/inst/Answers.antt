use Rattle.std.proofs.lemmas.Result.{IfOk-weaker, on_err_weaker}
use Rattle.hol_spec.specs.TermBinding.{put}
use Rattle.hol_laws.specs.TermTyping.{type_of-put}
use Rattle.hol_term.specs.Tables.{term_at}
use Rattle.hol_term.proofs.Settled.{known_term, IsTerm-HasType}
use Rattle.hol_term.proofs.TermTable.inst.Goals as goal

pub raw_instance-made-requires-clause-arg : goal.raw_instance-made-requires-clause-arg
raw_instance-made-requires-clause-arg c = known_term c.args.self.now c.args.arg.0
    (IsTerm-HasType (term_at c.args.self.now c.args.arg.0) c.requires.fits.0 c.requires.fits.1.1.0)

pub settle-requires-clause-earlier : goal.settle-requires-clause-earlier
settle-requires-clause-earlier c = (
  c.args.self.now,
  record {
    keeps = c.raw_instance-made.ensures.keeps;
    own = c.mark-mark.ensures.own;
    types = c.mark-mark.ensures.types;
    terms =
        c.mark-mark.ensures.terms;
  },
)

pub settle-requires-clause-made : goal.settle-requires-clause-made
settle-requires-clause-made c = c.raw_instance-made.ensures.known

pub returns-clause-known : goal.returns-clause-known
returns-clause-known c = c.settle.ensures.known

pub returns-clause-made : goal.returns-clause-made
returns-clause-made c = c.settle.ensures.made (put (term_at c.args.self.now c.args.arg.0) (term_at c.args.self.now c.args.body.0))
    c.raw_instance-made.ensures.made

pub returns-clause-within : goal.returns-clause-within
returns-clause-within c = c.settle.ensures.within (put (term_at c.args.self.now c.args.arg.0) (term_at c.args.self.now c.args.body.0))
    c.raw_instance-made.ensures.made

pub returns-clause-keeps : goal.returns-clause-keeps
returns-clause-keeps c = c.settle.ensures.keeps c.args.self.now
    (record { keeps = c.raw_instance-made.ensures.keeps; own = c.mark-mark.ensures.own; types = c.mark-mark.ensures.types; terms = c.mark-mark.ensures.terms })

pub returns-clause-refusal : goal.returns-clause-refusal
returns-clause-refusal c = c.settle.ensures.refusal (put (term_at c.args.self.now c.args.arg.0) (term_at c.args.self.now c.args.body.0))
    c.raw_instance-made.ensures.made

pub returns-clause-unchanged : goal.returns-clause-unchanged
returns-clause-unchanged c = on_err_weaker c.settle.result
    (λ back. back c.args.self.now
    (record { keeps = c.raw_instance-made.ensures.keeps; own = c.mark-mark.ensures.own; types = c.mark-mark.ensures.types; terms = c.mark-mark.ensures.terms }))
    c.settle.ensures.unchanged

pub returns-clause-typed : goal.returns-clause-typed
returns-clause-typed c =
    let h = c.requires.fits in
    let it = IsTerm-HasType (put (term_at c.args.self.now c.args.arg.0) (term_at c.args.self.now c.args.body.0)) h.1.0
    (type_of-put h.0 h.1.0 (term_at c.args.self.now c.args.arg.0) (term_at c.args.self.now c.args.body.0) h.1.1.0 h.1.1.1) in
    IfOk-weaker c.settle.result _ _ (λ id k. it) c.settle.ensures.known
