-- What the module of one input constant may declare.
use Rattle.std.proofs.Common.{◌≡◌, ℕ, refl, sym, ◌∙◌, subst, arith, List, Some, None}
use Rattle.std.proofs.Math.Path.{ap₂}
use Rattle.std.specs.Prelude.{codes}
use Rattle.lp_spec.specs.declared.form.Form.TheVariants.{Symbol}
use Rattle.lp_spec.specs.Trees.{Tree, Sym, Var, App, Pi}
use Rattle.lp_spec.specs.Modules.{signature, symbol, types, term_of}
use Rattle.lp_spec.specs.ModuleOrder.{MayFollow}
use Rattle.lp_term.specs.declared.LpId.{LpId}
use Rattle.lp_term.specs.Tables.{tree_at, Holds, Keeps}
use Rattle.lp_term.specs.TableLaws.{Holds-tree_at}
use Rattle.holide_sig.specs.Modules.{declaration_in}
use Rattle.translate_term_tests.specs.Inputs.{input_type}

-- a product and what it is made of
pub input_type_held : (one two three four five : List Tree) (simple term v terms id : ℕ) → Keeps one two → Keeps two three → Keeps three four
    → Holds one simple types → Holds two term (Sym 4) → Holds three v (Var 0)
    → Holds four terms (App (tree_at three term) (tree_at three v)) → Holds five id (Pi (tree_at four simple) (tree_at four terms)) → Holds five id input_type
input_type_held one two three four five simple term v terms id k l n s t x a p =
    let inner : Holds four terms (term_of (Var 0)) =
    a ∙ ap₂ (λ f y. Some (App f y)) (Holds-tree_at three term (Sym 4) (l.stays.each term (Sym 4) t)) (Holds-tree_at three v (Var 0) x) in
    let simple_type : Holds four simple types = n.stays.each simple types (l.stays.each simple types (k.stays.each simple types s)) in
    p ∙ ap₂ (λ f y. Some (Pi f y)) (Holds-tree_at four simple types simple_type) (Holds-tree_at four terms (term_of (Var 0)) inner)

-- the declaration of the input constant
input_is : (ts : List Tree) (name : List ℕ) (ty : LpId) → name ≡ codes "i_u" → Holds ts ty.0 input_type
    → declaration_in ts (record { name = name; form = Symbol; ty = ty; body = None }) ≡ symbol (codes "i_u") input_type
input_is ts name ty e h = ap₂ symbol e (Holds-tree_at ts ty.0 input_type h)

input_first : MayFollow signature (symbol (codes "i_u") input_type)
input_first = record { new_name = refl; ty = record { closed = refl; kindless = refl; known = omega arith }; body = refl }

-- it may come first
pub input_follows : (ts : List Tree) (name : List ℕ) (ty : LpId) → name ≡ codes "i_u" → Holds ts ty.0 input_type
    → MayFollow signature (declaration_in ts (record { name = name; form = Symbol; ty = ty; body = None }))
input_follows ts name ty e h = subst (MayFollow signature) (sym (input_is ts name ty e h)) input_first
