-- A run that defines a constant, c as the identity of the truth values, and exports |- c = \x. x: the definition is the run's.
use Rattle.std.proofs.Common.{◌≡◌, [], ◌∷◌, refl, arith, List}
use Rattle.std.specs.Prelude.{Some, codes, map, slice_get}
use Rattle.hol_spec.specs.Names.{Name}
use Rattle.hol_spec.specs.Types.{HolType}
use Rattle.hol_spec.specs.Primitives.{bool, function}
use Rattle.hol_spec.specs.Terms.{Term, equation}
use Rattle.hol_spec.specs.Sequents.{Sequent}
use Rattle.hol_spec.specs.Definitions.{Definition}
use Rattle.hol_spec.specs.Symbols.{Symbol}
use Rattle.hol_spec.specs.Rules.{Parameters}
use Rattle.hol_spec.specs.Proofs.{Made, Accepted}
use Rattle.hol_spec.specs.declared.StepKind.TheVariants.{DefineConst, Restate}
use Rattle.lp_spec.specs.declared.form.Form.TheVariants.{Def}
use Rattle.lp_spec.specs.Trees.{Var, Lam}
use Rattle.lp_spec.specs.Modules.{Declaration, bools, term_of, arr_of, arr_symbol, bool_symbol}
use Rattle.translate_spec.specs.Image.{image}
use Rattle.translate_spec.specs.OperatorMeaning.{truth_values, arrow}
use Rattle.translate_spec.specs.ConstantMeaning.{closed_bool, closed_function}
use Rattle.lp_spec.specs.Numerals.{numeral}
use Rattle.translate_spec.specs.TypeEnc.{Place, place, StandsForType}
use Rattle.translate_spec.specs.Stands.{IsDefined}
use Rattle.article_spec.proofs.SmallArticles.{named}

abbrev pub c : Name
c = named (codes "c")

abbrev pub truths : HolType
truths = function bool bool

abbrev pub identity : Term
identity = Term.lam bool (Term.bound 0)

abbrev pub says : Sequent
says = record { hypotheses = []; conclusion = equation truths (Term.constant c truths) identity }

abbrev pub run : Accepted
run = record {
  made =
      Made.symbol (Symbol.defined (Definition.constant c identity))
      ∷ Made.step (record { kind = DefineConst; premises = []; parameters = Parameters.constant c identity; sequent = says })
      ∷ Made.step (record { kind = Restate; premises = 0 ∷ []; parameters = Parameters.sequent says; sequent = says }) ∷ [];
  assumptions = [];
  exports = 1 ∷ [];
}

abbrev m : List Declaration
m = image run

abbrev definition : Declaration
definition = record { name = codes "c_c"; form = Def; ty = term_of (arr_of bools bools); body = Some (Lam (term_of bools) (Var 0)) }

its_declarations : map (λ d. d.name) m ≡ codes "sym" ∷ codes "trans" ∷ codes "c_c" ∷ codes "T0" ∷ codes "E0" ∷ []
unfolding numeral
its_declarations = refl

the_definition : slice_get m 2 ≡ Some definition
unfolding numeral
the_definition = refl

bool_stands : (at : Place) → StandsForType m closed_bool at bools
bool_stands at = (bool_symbol, [], truth_values refl, tt, refl)

truths_stand : (at : Place) → StandsForType m (closed_function closed_bool closed_bool) at (arr_of bools bools)
truths_stand at = (arr_symbol, bools ∷ bools ∷ [], arrow refl, (bool_stands at, (bool_stands at, tt)), refl)

defined : IsDefined m run definition
defined = IsDefined.constant (record {
  name = c;
  term = identity;
  ty = truths;
  among = (0, (omega arith, refl));
  typed = refl;
  A = term_of (arr_of bools bools);
  B = Lam (term_of bools) (Var 0);
  type_stands = record { tree = arr_of bools bools; stands = truths_stand (place 0 0 0 0); is = refl };
  term_stands = (bools, Var 0, bool_stands (place 0 0 0 0), (omega arith, refl), refl);
  is = refl;
})
