-- Worked examples: steps of each kind, what is typed, and modules that are well typed.
use Rattle.std.proofs.Common.{◌≡◌, refl, List, [], ◌∷◌, Some, None, codes}
use Rattle.lp_spec.specs.declared.form.Form.TheVariants.{Def}
use Rattle.lp_spec.specs.Trees.{Tree, Var, Sym, App, Lam, Pi}
use Rattle.lp_spec.specs.Modules.{Declaration, symbol, types, bools, arr_of, term_of, eq_of, proof_of, refl_of}
use Rattle.lp_spec.specs.Lemmas.{theorem}
use Rattle.lp_spec.specs.Conversion.{symbol_definition, Step, beta, delta, rule, app_argument, pi_domain, Conv, same, forth, back}
use Rattle.lp_spec.specs.Typing.{is_type, Typed, of_variable, of_symbol, of_application, of_conversion, IsBodyOf, IsTypedAfter, WellTyped}

-- def y : type := bool
abbrev y : Declaration
y = record { name = codes "y"; form = Def; ty = types; body = Some bools }

-- the symbol of the first declaration of a module
abbrev first : Tree
first = Sym 18

-- `(x : term bool => x) p` becomes p
identity_applied : (m : List Declaration) (p : Tree) → Step m (App (Lam (term_of bools) (Var 0)) (Var 3)) (Var 3)
identity_applied m p = beta refl

-- y becomes bool
y_unfolds : Step (y ∷ []) first bools
y_unfolds = delta refl

-- `term (arr bool bool)` becomes `term bool -> term bool`
functions_unfold : (m : List Declaration) → Step m (term_of (arr_of bools bools)) (Pi (term_of bools) (term_of bools))
functions_unfold m = rule refl

-- `x : y -> y` goes to `x : bool -> y`, and is convertible to it either way
under_binder : Conv (y ∷ []) (Pi bools first) (Pi first first)
under_binder = back (pi_domain y_unfolds) same

-- a theorem of the same type and body does not unfold, and neither does a symbol
theorem_stays : symbol_definition (theorem (codes "y") [] types bools ∷ []) 18 ≡ None
theorem_stays = refl

-- a symbol does not unfold either
symbol_stays : symbol_definition (symbol (codes "y") types ∷ []) 18 ≡ None
symbol_stays = refl

-- bool stands for nothing
no_definition : (m : List Declaration) (u : Tree) → symbol_definition m 1 ≡ Some u → ⊥
no_definition m u e = cc

-- so it goes nowhere
bool_stays : (m : List Declaration) (u : Tree) → Step m bools u → ⊥
bool_stays m u (delta e) = no_definition m u e

-- the module of no declaration is well typed
nothing_declared : WellTyped []
nothing_declared = tt {0}

-- y is a definition of the right type
y_typed : IsTypedAfter [] y
y_typed = record { ty = of_symbol refl; body = of_symbol refl }

-- so the module of y is well typed
y_declared : WellTyped (y ∷ [])
y_declared = (y_typed, tt {0})

-- in a context with p of type bool, `refl bool p` proves `eq bool p p`
p_is_p : (m : List Declaration) → Typed m (term_of bools ∷ []) (refl_of bools (Var 0)) (proof_of (eq_of bools (Var 0) (Var 0)))
p_is_p m = of_application (of_application (of_symbol refl) (of_symbol refl) refl) (of_variable refl refl) refl

-- a variable of type y is of type bool
y_is_bool : Typed (y ∷ []) (term_of first ∷ []) (Var 0) (term_of bools)
y_is_bool =
    of_conversion {A = term_of first} (of_variable refl refl) (forth (app_argument y_unfolds) same) (of_application (of_symbol refl) (of_symbol refl) refl)
    is_type

-- a definition without a body is no declaration
bodiless : IsBodyOf [] Def None types → ⊥
bodiless h = h
