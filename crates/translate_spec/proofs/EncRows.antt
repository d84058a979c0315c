-- More of what types stand for: an abstraction over a parameter with an input; an operator and a constant of two type variables, which the
-- operator takes in an order of its own.
use Rattle.std.proofs.Common.{[], ◌∷◌, refl, arith, List}
use Rattle.std.specs.Prelude.{codes}
use Rattle.std.specs.List.{IsDistinct}
use Rattle.hol_spec.specs.Primitives.{bool, function}
use Rattle.hol_spec.specs.Terms.{free, constant, app, lam, term_eq}
use Rattle.hol_spec.specs.Sequents.{Sequent}
use Rattle.hol_spec.specs.ClosedForm.{ClosedType, ClosedTypes, closed_form}
use Rattle.lp_spec.specs.Trees.{Tree, Var, Sym, App, Lam, Pi}
use Rattle.lp_spec.specs.Modules.{Declaration, symbol, types, bools, term_of, arr_of, proof_of, arr_symbol, bool_symbol}
use Rattle.translate_spec.specs.OperatorMeaning as operators
use Rattle.translate_spec.specs.OperatorMeaning.{arrow, truth_values}
use Rattle.translate_spec.specs.ConstantMeaning as constants
use Rattle.translate_spec.specs.ConstantMeaning.{MeansConstant, closed_bool, closed_function}
use Rattle.translate_spec.specs.TypeEnc.{Place, place, StandsForType}
use Rattle.translate_spec.specs.Enc.{Enc}

abbrev m : List Declaration
m = symbol (codes "i_u") (Pi types (term_of (Var 0))) ∷ []

abbrev c : Sequent
c = record { hypotheses = []; conclusion = app (constant (codes "u" ∷ []) (function (function bool bool) bool)) (lam bool (free (codes "x" ∷ []) bool)) }

no_repeats : IsDistinct term_eq []
unfolding IsDistinct
no_repeats = tt

bool_stands : (at : Place) → StandsForType m closed_bool at bools
bool_stands at = (bool_symbol, [], truth_values refl, tt, refl)

functions_stand : (at : Place) (a b : ClosedType) (A B : Tree) → StandsForType m a at A → StandsForType m b at B
    → StandsForType m (closed_function a b) at (arr_of A B)
functions_stand at a b A B ha hb = (arr_symbol, A ∷ B ∷ [], arrow refl, (ha, (hb, tt)), refl)

u_means : MeansConstant m 18 (codes "u" ∷ []) 1 (ClosedType.parameter 0)
u_means = constants.MeansConstant.input {name = codes "u" ∷ []} (record { is_name = ((omega arith, tt), tt); not_primitive = refl; text = refl }) refl

captured : Enc m (closed_form c) (Pi (term_of bools) (proof_of (App (App (Sym 18) (arr_of (arr_of bools bools) bools)) (Lam (term_of bools) (Var 1)))))
captured = record {
  closed = record {
    sequent = c;
    is_sequent = record { no_repeats = no_repeats; hypotheses = tt; conclusion = refl };
    within = record { size = omega arith; depth = omega arith; parameters = omega arith };
    closed = refl;
  };
  variables = bools ∷ [];
  hypotheses = [];
  conclusion = App (App (Sym 18) (arr_of (arr_of bools bools) bools)) (Lam (term_of bools) (Var 1));
  product = refl;
  variables_stand = (bool_stands (place 0 0 0 0), tt);
  hypotheses_stand = tt;
  conclusion_stands = (
    App (Sym 18) (arr_of (arr_of bools bools) bools),
    Lam (term_of bools) (Var 1),
    record {
      symbol = 18;
      args = arr_of (arr_of bools bools) bools ∷ [];
      generic = ClosedType.parameter 0;
      means = u_means;
      arguments = ClosedTypes.more (closed_function (closed_function closed_bool closed_bool) closed_bool) ClosedTypes.none;
      args_stand = (
        functions_stand (place 0 1 0 0) (closed_function closed_bool closed_bool) closed_bool (arr_of bools bools) bools
            (functions_stand (place 0 1 0 0) closed_bool closed_bool bools bools (bool_stands (place 0 1 0 0)) (bool_stands (place 0 1 0 0)))
            (bool_stands (place 0 1 0 0)),
        tt,
      );
      is_instance = refl;
      tree = refl;
    },
    (bools, Var 1, bool_stands (place 0 1 0 0), (omega arith, refl), refl),
    refl,
  );
}

-- o_two, and c_mk : v0 : type -> v1 : type -> term (arr (arr v0 v1) (o_two v1 v0))
abbrev two : List Declaration
two = symbol (codes "o_two") (Pi types (Pi types types)) ∷ symbol (codes "c_mk")
    (Pi types (Pi types (term_of (arr_of (arr_of (Var 1) (Var 0)) (App (App (Sym 18) (Var 0)) (Var 1)))))) ∷ []

two_means : operators.MeansOperator two 18 (codes "two" ∷ []) 2
two_means = operators.MeansOperator.defined {name = codes "two" ∷ []} {arity = 2}
    (record { is_name = ((omega arith, (omega arith, (omega arith, tt))), tt); not_primitive = refl; text = refl; ty = refl })

mk_type : ClosedType
mk_type = closed_function (closed_function (ClosedType.parameter 0) (ClosedType.parameter 1))
    (ClosedType.operator (codes "two" ∷ []) (ClosedTypes.more (ClosedType.parameter 1) (ClosedTypes.more (ClosedType.parameter 0) ClosedTypes.none)))

mk_means : MeansConstant two 19 (codes "mk" ∷ []) 2 mk_type
unfolding mk_type
mk_means = constants.MeansConstant.defined {name = codes "mk" ∷ []} {variables = 2} {generic = mk_type}
    (record { is_name = ((omega arith, (omega arith, tt)), tt); not_primitive = refl; text = refl })
    (record {
      tree = arr_of (arr_of (Var 1) (Var 0)) (App (App (Sym 18) (Var 0)) (Var 1));
      ty = refl;
      stands = (
        arr_symbol,
        arr_of (Var 1) (Var 0) ∷ App (App (Sym 18) (Var 0)) (Var 1) ∷ [],
        arrow refl,
        (
          (arr_symbol, Var 1 ∷ Var 0 ∷ [], arrow refl, ((omega arith, refl), ((omega arith, refl), tt)), refl),
          ((18, Var 0 ∷ Var 1 ∷ [], two_means, ((omega arith, refl), ((omega arith, refl), tt)), refl), tt),
        ),
        refl,
      );
      in_order = refl;
    })
