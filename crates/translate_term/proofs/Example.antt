-- A module that tells the symbols of a term: the conditions can be met, and the tree is the one meant.
use Rattle.std.specs.Prelude.{◌≡◌, List, [], ◌∷◌, Some, codes, refl}
use Rattle.std.specs.List.{IsDistinct}
use Rattle.hol_spec.specs.Types.{variable}
use Rattle.hol_spec.specs.Primitives.{bool, function}
use Rattle.hol_spec.specs.Terms.{Term, free, constant, app, lam}
use Rattle.hol_spec.specs.Sequents.{Sequent, IsSequent}
use Rattle.hol_spec.specs.ClosedForm.{closed_form}
use Rattle.lp_spec.specs.Trees.{Var, Sym, App, Lam, Pi}
use Rattle.lp_spec.specs.Modules.{Declaration, symbol, types, bools, arr_of, term_of, proof_of}
use Rattle.translate_spec.specs.Image.{input_constant_name}
use Rattle.translate_spec.specs.Scopes.{SymbolMap, sequent_tree, term_tree}
use Rattle.translate_laws.specs.ListedScopes.{told}
use Rattle.translate_term.specs.Told.{TellsType, TellsTerm, TellsConstant, TellsClosed, told_constant}

-- i_u : v0 : type -> term v0
abbrev module_of_u : List Declaration
module_of_u = symbol (input_constant_name (codes "u" ∷ [])) (Pi types (term_of (Var 0))) ∷ []

abbrev symbols_of_u : SymbolMap
symbols_of_u = record { operator = λ n k. 0; constant = λ n. 18; generic = λ n. variable (codes "A" ∷ []) }

-- u (\y. x), with u : (bool -> bool) -> bool
abbrev term_of_u : Term
term_of_u = app (constant (codes "u" ∷ []) (function (function bool bool) bool)) (lam bool (free (codes "x" ∷ []) bool))

named : told_constant module_of_u (codes "u" ∷ []) ≡ Some 18
named = refl

tells-bool : TellsType module_of_u symbols_of_u bool
tells-bool = (refl, tt {0})

tells-function : TellsType module_of_u symbols_of_u (function (function bool bool) bool)
tells-function = (refl, ((refl, (tells-bool, (tells-bool, tt {0}))), (tells-bool, tt {0})))

tells-u : TellsConstant module_of_u symbols_of_u (codes "u" ∷ []) (function (function bool bool) bool)
tells-u = record { named = named; declared = refl; instance = ((codes "A" ∷ [], function (function bool bool) bool) ∷ [], refl); ty = tells-function }

tells : TellsTerm module_of_u symbols_of_u term_of_u
tells = (tells-u, (tells-bool, tells-bool))

-- i_u (arr (arr bool bool) bool) (v1 : term bool => v0), under the binder of x
tree : term_tree symbols_of_u (told symbols_of_u [] (((codes "x" ∷ [], bool), Var 0) ∷ [])) term_of_u
    ≡ App (App (Sym 18) (arr_of (arr_of bools bools) bools)) (Lam (term_of bools) (Var 1))
tree = refl

-- |- u (\y. x)
abbrev sequent_of_u : Sequent
sequent_of_u = record { hypotheses = []; conclusion = term_of_u }

sequent-u : IsSequent sequent_of_u
unfolding IsDistinct
sequent-u = record { no_repeats = tt; hypotheses = tt; conclusion = refl }

tells-closed : TellsClosed module_of_u symbols_of_u sequent_of_u (closed_form sequent_of_u)
tells-closed = record { is_sequent = sequent-u; hypotheses = tt; conclusion = tells; closed = refl }

-- v0 : term bool -> proof (i_u (arr (arr bool bool) bool) (v1 : term bool => v0))
product : sequent_tree symbols_of_u sequent_of_u ≡ Pi (term_of bools)
    (proof_of (App (App (Sym 18) (arr_of (arr_of bools bools) bools)) (Lam (term_of bools) (Var 1))))
product = refl
