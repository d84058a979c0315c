-- The sequents of which the tests translate the closed forms.
use Rattle.std.proofs.Common.{◌≡◌, ℕ, ◌+◌, refl, sym, ap, ◌∙◌, subst, List, [], ◌∷◌, ◌++◌, map, add-one}
use Rattle.std.proofs.Math.Path.{ap₂}
use Rattle.std.proofs.lemmas.List.{map-append}
use Rattle.std.specs.Prelude.{codes}
use Rattle.std.specs.List.{IsDistinct}
use Rattle.hol_spec.specs.ClosedForm as form
use Rattle.hol_spec.specs.ClosedForm.{ClosedSequent, parameter}
use Rattle.hol_spec.specs.Lists.{distinct}
use Rattle.hol_spec.specs.Primitives.{bool, function}
use Rattle.hol_spec.specs.Sequents.{Sequent}
use Rattle.hol_spec.specs.Terms.{Term, free, constant, app, lam, term_eq}
use Rattle.hol_laws.specs.ListLaws.{distinct-IsDistinct}
use Rattle.hol_laws.specs.PositionLaws.{turned}
use Rattle.hol_laws.specs.TermLaws.{term_eq-Decides}
use Rattle.lp_spec.specs.Modules.{Declaration}
use Rattle.translate_spec.specs.Scopes.{SymbolMap}
use Rattle.sequent.specs.declared.closed.ClosedTerm.{ClosedTerm}
use Rattle.sequent.specs.Closed.{closed_term_view}
use Rattle.translate_term.specs.Told.{TellsClosed}
use Rattle.translate_term_tests.specs.Inputs.{input_module, input_symbols}
use Rattle.translate_term_tests.specs.Sequents.{parameters, assumed, quantified, IsToldClosed}

-- truth values
abbrev x : Term
x = free (codes "x" ∷ []) bool

abbrev y : Term
y = free (codes "y" ∷ []) bool

abbrev z : Term
z = free (codes "z" ∷ []) bool

-- each once
no_repeats : (ts : List Term) → IsDistinct term_eq (distinct term_eq ts)
no_repeats ts = distinct-IsDistinct term_eq (λ t r e. turned term_eq term_eq-Decides t r e) ts

-- {x} |- y
one_told : IsToldClosed (assumed 1)
one_told = record {
  sequent = record { hypotheses = x ∷ []; conclusion = y };
  told = record {
    is_sequent = record { no_repeats = no_repeats (x ∷ []); hypotheses = (refl, tt {0}); conclusion = refl };
    hypotheses = ((refl, tt {0}), tt {0});
    conclusion = (refl, tt {0});
    closed = refl;
  };
}

pub one_assumed : (c : ClosedSequent) → c ≡ assumed 1 → IsToldClosed c
one_assumed c e = subst IsToldClosed (sym e) one_told

-- {x, y} |- z
two_told : IsToldClosed (assumed 2)
two_told = record {
  sequent = record { hypotheses = x ∷ y ∷ []; conclusion = z };
  told = record {
    is_sequent = record { no_repeats = no_repeats (x ∷ y ∷ []); hypotheses = (refl, (refl, tt {0})); conclusion = refl };
    hypotheses = ((refl, tt {0}), ((refl, tt {0}), tt {0}));
    conclusion = (refl, tt {0});
    closed = refl;
  };
}

pub two_assumed : (c : ClosedSequent) → c ≡ assumed 2 → IsToldClosed c
two_assumed c e = subst IsToldClosed (sym e) two_told

-- |- u (\y. x)
abbrev u : Term
u = constant (codes "u" ∷ []) (function (function bool bool) bool)

quantified_told : IsToldClosed (quantified)
quantified_told = record {
  sequent = record { hypotheses = []; conclusion = app u (lam bool x) };
  told = record {
    is_sequent = record { no_repeats = no_repeats []; hypotheses = tt {0}; conclusion = refl };
    hypotheses = tt {0};
    conclusion = (
      record {
        named = refl;
        declared = refl;
        instance = ((codes "A" ∷ [], function (function bool bool) bool) ∷ [], refl);
        ty =
            (refl, ((refl, ((refl, tt {0}), ((refl, tt {0}), tt {0}))), ((refl, tt {0}), tt {0})));
      },
      ((refl, tt {0}), (refl, tt {0})),
    );
    closed = refl;
  };
}

pub quantified_is : (c : ClosedSequent) → c ≡ quantified → IsToldClosed c
quantified_is c e = subst IsToldClosed (sym e) quantified_told

pub closed_told : (m : List Declaration) (c : ClosedSequent) → m ≡ input_module → IsToldClosed c → (symbols : SymbolMap) × (s : Sequent)
    × TellsClosed m symbols s c
closed_told m c e p = (input_symbols, p.sequent, subst (λ ds. TellsClosed ds input_symbols p.sequent c) (sym e) p.told)

-- with one free variable more
pub parameters_next : (xs ys : List ClosedTerm) (t : ClosedTerm) (n : ℕ) → ys ≡ xs ++ t ∷ [] → closed_term_view t ≡ parameter n → map closed_term_view xs
    ≡ parameters n → map closed_term_view ys ≡ parameters (n + 1)
parameters_next xs ys t n e is h = rw add-one
    (ap (map closed_term_view) e ∙ map-append closed_term_view xs (t ∷ []) ∙ ap₂ (λ (us : List form.ClosedTerm) (u : form.ClosedTerm). us ++ u ∷ []) h is)
