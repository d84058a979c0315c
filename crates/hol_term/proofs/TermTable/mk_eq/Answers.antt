use Rattle.std.proofs.Common.{◌≡◌, arith, ap, ◌∙◌, Some}
use Rattle.std.specs.Prelude.{IfOk}
use Rattle.std.proofs.lemmas.Result.{IfOk-weaker, on_err_weaker}
use Rattle.hol_spec.specs.Terms.{IsTerm}
use Rattle.hol_type.specs.Tables.{tree_at}
use Rattle.hol_term.specs.Tables.{term_at, type_at, Holds}
use Rattle.hol_term.specs.TableLaws.{Keeps-refl}
use Rattle.hol_term.specs.Shapes.{equation_of}
use Rattle.hol_term.proofs.Settled.{IfErr-map, typed_refusal, known_term, equation_is, equation_mismatch, equation_term, types_apart}
use Rattle.hol_term.proofs.TermTable.mk_eq.Goals as goal

pub returns-then-ne-clause-keeps : goal.returns-then-ne-clause-keeps
returns-then-ne-clause-keeps c = Keeps-refl c.args.self.now

pub returns-then-ne-clause-refusal : goal.returns-then-ne-clause-refusal
returns-then-ne-clause-refusal c =
    let n : c.type_of-ty.result.0 ≡ c.type_of.result.0 → ⊥ = grind arith in
    equation_mismatch (term_at c.args.self.now c.args.l.0) (term_at c.args.self.now c.args.r.0) (type_at c.args.self.now c.type_of-ty.result.0)
    (type_at c.args.self.now c.type_of.result.0) c.type_of-ty.ensures.is c.type_of.ensures.is
    (types_apart c.args.self.now.types c.type_of.ensures.distinct c.type_of-ty.result c.type_of.result c.type_of-ty.ensures.known c.type_of.ensures.known n)

pub raw_equation-made-requires-clause-ty : goal.raw_equation-made-requires-clause-ty
raw_equation-made-requires-clause-ty c = c.type_of-ty.ensures.known

pub raw_equation-made-requires-clause-left : goal.raw_equation-made-requires-clause-left
raw_equation-made-requires-clause-left c = known_term c.args.self.now c.args.l.0 c.requires.left

pub raw_equation-made-requires-clause-right : goal.raw_equation-made-requires-clause-right
raw_equation-made-requires-clause-right c = known_term c.args.self.now c.args.r.0 c.requires.right

-- the equation is a term, as the types' numbers are equal
it : (c : goal.After-settle) → IsTerm (equation_of (term_at c.args.self.now c.args.l.0) (term_at c.args.self.now c.args.r.0))
it c =
    let e : c.type_of.result.0 ≡ c.type_of-ty.result.0 = grind arith in
    equation_term (term_at c.args.self.now c.args.l.0) (term_at c.args.self.now c.args.r.0) (type_at c.args.self.now c.type_of-ty.result.0)
    (type_at c.args.self.now c.type_of.result.0) c.type_of-ty.ensures.is c.type_of.ensures.is
    (ap (tree_at c.args.self.now.types) e)

-- and the one that is made
made : (c : goal.After-settle) → IfOk c.raw_equation-made.result
    (λ id. Holds c.raw_equation-made.new.self id.0 (equation_of (term_at c.args.self.now c.args.l.0) (term_at c.args.self.now c.args.r.0)))
made c =
    let e = equation_is (term_at c.args.self.now c.args.l.0) (term_at c.args.self.now c.args.r.0) (type_at c.args.self.now c.type_of-ty.result.0)
    (type_at c.args.self.now c.type_of.result.0) c.type_of-ty.ensures.is c.type_of.ensures.is in
    IfOk-weaker c.raw_equation-made.result _ _ (λ id h. h ∙ ap Some e) c.raw_equation-made.ensures.made

pub settle-requires-clause-earlier : goal.settle-requires-clause-earlier
settle-requires-clause-earlier c = (
  c.args.self.now,
  record {
    keeps = c.raw_equation-made.ensures.keeps;
    own = c.mark-mark.ensures.own;
    types = c.mark-mark.ensures.types;
    terms =
        c.mark-mark.ensures.terms;
  },
)

pub settle-requires-clause-made : goal.settle-requires-clause-made
settle-requires-clause-made c = c.raw_equation-made.ensures.known

pub returns-clause-known : goal.returns-clause-known
returns-clause-known c = c.settle.ensures.known

pub returns-clause-made : goal.returns-clause-made
returns-clause-made c = c.settle.ensures.made (equation_of (term_at c.args.self.now c.args.l.0) (term_at c.args.self.now c.args.r.0)) (made c)

pub returns-clause-within : goal.returns-clause-within
returns-clause-within c = c.settle.ensures.within (equation_of (term_at c.args.self.now c.args.l.0) (term_at c.args.self.now c.args.r.0)) (made c)

pub returns-clause-keeps : goal.returns-clause-keeps
returns-clause-keeps c = c.settle.ensures.keeps c.args.self.now
    (record { keeps = c.raw_equation-made.ensures.keeps; own = c.mark-mark.ensures.own; types = c.mark-mark.ensures.types; terms = c.mark-mark.ensures.terms })

pub returns-clause-unchanged : goal.returns-clause-unchanged
returns-clause-unchanged c = on_err_weaker c.settle.result
    (λ back. back c.args.self.now
    (record { keeps = c.raw_equation-made.ensures.keeps; own = c.mark-mark.ensures.own; types = c.mark-mark.ensures.types; terms = c.mark-mark.ensures.terms }))
    c.settle.ensures.unchanged

pub returns-clause-typed : goal.returns-clause-typed
returns-clause-typed c = IfOk-weaker c.settle.result _ _ (λ id k. it c) c.settle.ensures.known

pub returns-clause-refusal : goal.returns-clause-refusal
returns-clause-refusal c =
    let t = equation_of (term_at c.args.self.now c.args.l.0) (term_at c.args.self.now c.args.r.0) in
    IfErr-map c.settle.result (typed_refusal t (it c)) (c.settle.ensures.refusal t (made c))
