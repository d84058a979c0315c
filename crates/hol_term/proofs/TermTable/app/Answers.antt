use Rattle.std.proofs.lemmas.Result.{IfOk-weaker, on_err_weaker}
use Rattle.hol_spec.specs.Terms.{app, IsTerm, type_of}
use Rattle.hol_term.specs.Tables.{term_at}
use Rattle.hol_term.specs.TableLaws.{Keeps-refl}
use Rattle.hol_term.proofs.Settled.{IfErr-map, known_term, typed_refusal, number_term}
use Rattle.hol_term.proofs.TermTable.app.Goals as goal

pub ty-requires : goal.ty-requires
ty-requires c = known_term c.args.self.now c.args.f.0 c.requires.function

pub ty-requires-2 : goal.ty-requires-2
ty-requires-2 c = known_term c.args.self.now c.args.x.0 c.requires.argument

pub applied-requires : goal.applied-requires
applied-requires c = (type_of (term_at c.args.self.now c.args.f.0), c.ty.ensures.typed)

pub returns-in_default-clause-keeps : goal.returns-in_default-clause-keeps
returns-in_default-clause-keeps c = Keeps-refl c.args.self.now

pub raw_application-made-requires-clause-function : goal.raw_application-made-requires-clause-function
raw_application-made-requires-clause-function c = known_term c.args.self.now c.args.f.0 c.requires.function

pub raw_application-made-requires-clause-argument : goal.raw_application-made-requires-clause-argument
raw_application-made-requires-clause-argument c = known_term c.args.self.now c.args.x.0 c.requires.argument

-- the application is a term, as it has a type
it : (c : goal.After-settle) → IsTerm (app (term_at c.args.self.now c.args.f.0) (term_at c.args.self.now c.args.x.0))
it c =
    number_term c.args.self.now.types c.in-Some._ty (app (term_at c.args.self.now c.args.f.0) (term_at c.args.self.now c.args.x.0))
    (c.in-Some.ensures (type_of (term_at c.args.self.now c.args.f.0)) (type_of (term_at c.args.self.now c.args.x.0)) c.ty.ensures.typed c.ty-2.ensures.typed)

pub settle-requires-clause-earlier : goal.settle-requires-clause-earlier
settle-requires-clause-earlier c = (
  c.args.self.now,
  record {
    keeps = c.raw_application-made.ensures.keeps;
    own = c.mark-mark.ensures.own;
    types = c.mark-mark.ensures.types;
    terms =
        c.mark-mark.ensures.terms;
  },
)

pub settle-requires-clause-made : goal.settle-requires-clause-made
settle-requires-clause-made c = c.raw_application-made.ensures.known

pub returns-clause-known : goal.returns-clause-known
returns-clause-known c = c.settle.ensures.known

pub returns-clause-made : goal.returns-clause-made
returns-clause-made c = c.settle.ensures.made (app (term_at c.args.self.now c.args.f.0) (term_at c.args.self.now c.args.x.0))
    c.raw_application-made.ensures.made

pub returns-clause-within : goal.returns-clause-within
returns-clause-within c = c.settle.ensures.within (app (term_at c.args.self.now c.args.f.0) (term_at c.args.self.now c.args.x.0))
    c.raw_application-made.ensures.made

pub returns-clause-keeps : goal.returns-clause-keeps
returns-clause-keeps c = c.settle.ensures.keeps c.args.self.now
    (record {
      keeps = c.raw_application-made.ensures.keeps;
      own = c.mark-mark.ensures.own;
      types = c.mark-mark.ensures.types;
      terms =
          c.mark-mark.ensures.terms;
    })

pub returns-clause-unchanged : goal.returns-clause-unchanged
returns-clause-unchanged c = on_err_weaker c.settle.result
    (λ back. back c.args.self.now
    (record {
      keeps = c.raw_application-made.ensures.keeps;
      own = c.mark-mark.ensures.own;
      types = c.mark-mark.ensures.types;
      terms =
          c.mark-mark.ensures.terms;
    })) c.settle.ensures.unchanged

pub returns-clause-typed : goal.returns-clause-typed
returns-clause-typed c = IfOk-weaker c.settle.result _ _ (λ id k. it c) c.settle.ensures.known

pub returns-clause-refusal : goal.returns-clause-refusal
returns-clause-refusal c =
    let t = app (term_at c.args.self.now c.args.f.0) (term_at c.args.self.now c.args.x.0) in
    IfErr-map c.settle.result (typed_refusal t (it c)) (c.settle.ensures.refusal t c.raw_application-made.ensures.made)
