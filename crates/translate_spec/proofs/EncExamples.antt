-- Which symbols stand for an input; the type of the export of p = p stands for the closed form of that sequent; `type` stands
-- for no sequent.
use Rattle.std.proofs.Common.{◌≡◌, [], ◌∷◌, refl, arith, List}
use Rattle.std.specs.Prelude.{Some, codes}
use Rattle.std.specs.List.{IsDistinct, filter}
use Rattle.hol_spec.specs.Terms.{term_eq}
use Rattle.hol_spec.specs.ClosedForm.{ClosedSequent, ClosedType, ClosedTypes, closed_form}
use Rattle.lp_spec.specs.Trees.{Tree, Var, Sym, App, Pi}
use Rattle.lp_spec.specs.Modules.{Declaration, symbol, products, types, bools, term_of, eq_of, proof_of, bool_symbol, eq_symbol, symbol_type}
use Rattle.translate_spec.specs.OperatorMeaning.{MeansOperator, truth_values}
use Rattle.translate_spec.specs.OperatorMeaning as operators
use Rattle.translate_spec.specs.ConstantMeaning as constants
use Rattle.translate_spec.specs.ConstantMeaning.{MeansConstant, closed_bool, equality_type, equality}
use Rattle.translate_spec.specs.TypeEnc.{Place, place, StandsForType}
use Rattle.translate_spec.specs.Enc.{domains, IsClosedForm, Enc}
use Rattle.translate_spec.specs.Image.{image}
use Rattle.lp_spec.specs.Numerals.{numeral}
use Rattle.translate_spec.specs.Stands.{is_export_name, AreExports, none, more}
use Rattle.translate_spec.proofs.Examples.{p_is_p, run}

-- M.c_ : a : type -> term a, and an operator pair of two arguments
abbrev inputs : List Declaration
inputs = symbol (codes "i_M__c_5f") (Pi types (term_of (Var 0))) ∷ symbol (codes "t2_pair") (Pi types (Pi types types)) ∷ []

constant_means : MeansConstant inputs 18 (codes "M" ∷ codes "c_" ∷ []) 1 (ClosedType.parameter 0)
constant_means = constants.MeansConstant.input {name = codes "M" ∷ codes "c_" ∷ []}
    (record { is_name = ((omega arith, tt), ((omega arith, (omega arith, tt)), tt)); not_primitive = refl; text = refl }) refl

operator_means : MeansOperator inputs 19 (codes "pair" ∷ []) 2
unfolding numeral
operator_means = operators.MeansOperator.input {name = codes "pair" ∷ []} {arity = 2}
    (record { is_name = ((omega arith, (omega arith, (omega arith, (omega arith, tt)))), tt); not_primitive = refl; text = refl; ty = refl })

-- `bool` stands for the type of truth values
bool_stands : (at : Place) → StandsForType (image run) closed_bool at bools
bool_stands at = (bool_symbol, [], truth_values refl, tt, refl)

no_repeats : IsDistinct term_eq []
unfolding IsDistinct
no_repeats = tt

closed_p_is_p : IsClosedForm (closed_form p_is_p)
closed_p_is_p = record {
  sequent = p_is_p;
  is_sequent = record { no_repeats = no_repeats; hypotheses = tt; conclusion = refl };
  within = record { size = omega arith; depth = omega arith; parameters = omega arith };
  closed = refl;
}

-- v0 : term bool -> proof (eq bool v0 v0)
abbrev exported_type : Tree
exported_type = Pi (term_of bools) (proof_of (eq_of bools (Var 0) (Var 0)))

-- it is the type of the last declaration of the module of that run, after the signature's 18, the two lemmas and T0
is_declared : symbol_type (image run) 21 ≡ Some exported_type
is_declared = refl

p_is_p_stands : Enc (image run) (closed_form p_is_p) exported_type
p_is_p_stands = record {
  closed = closed_p_is_p;
  variables = bools ∷ [];
  hypotheses = [];
  conclusion = eq_of bools (Var 0) (Var 0);
  product = refl;
  variables_stand = (bool_stands (place 0 0 0 0), tt);
  hypotheses_stand = tt;
  conclusion_stands = (
    App (App (Sym eq_symbol) bools) (Var 0),
    Var 0,
    (
      App (Sym eq_symbol) bools,
      Var 0,
      record {
        symbol = eq_symbol;
        args = bools ∷ [];
        generic = equality_type;
        means = equality refl;
        arguments = ClosedTypes.more closed_bool ClosedTypes.none;
        args_stand = (bool_stands (place 0 1 0 0), tt);
        is_instance = refl;
        tree = refl;
      },
      (omega arith, refl),
      refl,
    ),
    (omega arith, refl),
    refl,
  );
}

-- the exports of that module are the run's
one_export : AreExports (image run) run 0 run.exports (filter (λ d. is_export_name d.name) (image run))
unfolding numeral
one_export = more refl refl p_is_p_stands none

-- no sequent is meant by `type`, which is neither a product nor the proofs of anything
types_no_product : (ds : List Tree) (c : Tree) → types ≡ products ds (proof_of c) → ⊥
types_no_product [] c e = cc
types_no_product (a ∷ ds) c e = cc

types_mean_none : (s : ClosedSequent) → Enc (image run) s types → ⊥
types_mean_none s p = types_no_product (domains s.type_variable_count p.variables p.hypotheses) p.conclusion p.product
