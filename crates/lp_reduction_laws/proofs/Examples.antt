-- Worked examples: the laws over a module with one definition, so that what they ask can be met.
use Rattle.std.proofs.Common.{refl, List, [], ◌∷◌, Some, codes}
use Rattle.lp_spec.specs.declared.form.Form.TheVariants.{Def}
use Rattle.lp_spec.specs.Trees.{Tree, SortType, Var, Sym, App, Lam, Pi}
use Rattle.lp_spec.specs.Modules.{Declaration, types, bools, arr_of, term_of}
use Rattle.lp_spec.specs.Conversion.{delta, beta, rule, app_function, app_argument, pi_domain, Step, Steps, done, next, Conv, same, back}
use Rattle.lp_spec.specs.Typing.{is_type, Typed, of_variable, of_symbol, of_product, of_abstraction, of_application, IsContext, nothing, entry, WellTyped}
use Rattle.lp_typing_laws.specs.SignatureForms.{Typed-types, Typed-bools, Typed-term_of}
use Rattle.lp_reduction_laws.proofs.Confluence.{confluent}
use Rattle.lp_reduction_laws.proofs.InjectiveProducts.{products}
use Rattle.lp_reduction_laws.proofs.SubjectReduction.{kept}

-- def y : type := bool
abbrev y_alone : List Declaration
y_alone = record { name = codes "y"; form = Def; ty = types; body = Some bools } ∷ []

-- its symbol
abbrev y : Tree
y = Sym 18

-- the module is well typed
y_alone_typed : WellTyped y_alone
y_alone_typed = (record { ty = Typed-types []; body = Typed-bools [] }, tt {0})

-- y becomes bool
y_unfolds : Step y_alone y bools
y_unfolds = delta refl

-- `term (arr y bool)` goes to `term y -> term bool` and to `term (arr bool bool)`, and both go to one tree
meeting : (w : Tree) × Steps y_alone (Pi (term_of y) (term_of bools)) w × Steps y_alone (term_of (arr_of bools bools)) w
meeting =
    confluent y_alone y_alone_typed (term_of (arr_of y bools)) _ _ (next (rule refl) done)
    (next (app_argument (app_function (app_argument y_unfolds))) done)

-- `y -> bool` and `bool -> bool` are convertible, and so are their domains
domains : Conv y_alone bools y
domains = (products y_alone y_alone_typed bools bools y bools (back (pi_domain y_unfolds) same)).0

-- `x : term y` is a context, in which `(z : term y => z) x` goes to x and keeps its type
context : IsContext y_alone (term_of y ∷ [])
context = entry nothing (Typed-term_of y_alone (of_symbol refl))

-- the redex has the type of x
redex_typed : Typed y_alone (term_of y ∷ []) (App (Lam (term_of y) (Var 0)) (Var 0)) (term_of y)
redex_typed =
    let of_y : Typed y_alone (term_of y ∷ []) (term_of y) SortType = Typed-term_of y_alone (of_symbol refl) in
    let of_y_under : Typed y_alone (term_of y ∷ term_of y ∷ []) (term_of y) SortType = Typed-term_of y_alone (of_symbol refl) in
    of_application (of_abstraction (of_product of_y of_y_under is_type) is_type (of_variable refl refl)) (of_variable refl refl) refl

-- so has x, by the law
contracted : Typed y_alone (term_of y ∷ []) (Var 0) (term_of y)
contracted = kept y_alone y_alone_typed (term_of y ∷ []) context (App (Lam (term_of y) (Var 0)) (Var 0)) (Var 0) (term_of y) redex_typed (beta refl)
