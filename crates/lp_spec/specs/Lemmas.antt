-- The two lemmas with which every module begins: equality is symmetric and transitive.
use Rattle.std.specs.Prelude.{ℕ, List, [], ◌∷◌, Some, codes}
use Rattle.lp_spec.specs.declared.form.Form.TheVariants.{Thm}
use Rattle.lp_spec.specs.Trees.{Tree, Var, Sym, App}
use Rattle.lp_spec.specs.Modules.{Declaration, eq_symbol, app_thm_symbol, eq_mp_symbol, applied, products, abstractions, types, bools, arr_of, term_of, eq_of, proof_of, refl_of}

-- the theorem of a type with a proof, both under these domains
abbrev pub theorem : List ℕ → List Tree → Tree → Tree → Declaration
theorem name domains ty proof = record { name = name; form = Thm; ty = products domains ty; body = Some (abstractions domains proof) }

-- a : type, x : term a, y : term a, h : proof (eq a x y)
abbrev pub sym_domains : List Tree
sym_domains = types ∷ term_of (Var 0) ∷ term_of (Var 1) ∷ proof_of (eq_of (Var 2) (Var 1) (Var 0)) ∷ []

-- the function `eq a` at x = y, given by h: a proof of `eq a x = eq a y`
abbrev pub sym_functions : Tree → Tree → Tree → Tree → Tree
sym_functions a x y h =
    let equality = App (Sym eq_symbol) a in
    applied (Sym app_thm_symbol)
    (a ∷ arr_of a bools ∷ equality ∷ equality ∷ x ∷ y ∷ refl_of (arr_of a (arr_of a bools)) equality ∷ h ∷ [])

-- from x = x, where y is put for the left x
abbrev pub sym_proof : Tree → Tree → Tree → Tree → Tree
sym_proof a x y h =
    applied (Sym eq_mp_symbol)
    (eq_of a x x ∷ eq_of a y x
    ∷ applied (Sym app_thm_symbol)
    (a ∷ bools ∷ App (App (Sym eq_symbol) a) x ∷ App (App (Sym eq_symbol) a) y ∷ x ∷ x ∷ sym_functions a x y h ∷ refl_of a x ∷ [])
    ∷ refl_of a x ∷ [])

-- from x = y to y = x
abbrev pub sym_lemma : Declaration
sym_lemma = theorem (codes "sym") sym_domains (proof_of (eq_of (Var 3) (Var 1) (Var 2))) (sym_proof (Var 3) (Var 2) (Var 1) (Var 0))

-- a : type, x : term a, y : term a, z : term a, g : proof (eq a x y), h : proof (eq a y z)
abbrev pub trans_domains : List Tree
trans_domains =
    types ∷ term_of (Var 0) ∷ term_of (Var 1) ∷ term_of (Var 2) ∷ proof_of (eq_of (Var 3) (Var 2) (Var 1)) ∷ proof_of (eq_of (Var 4) (Var 2) (Var 1)) ∷ []

-- from x = y, where z is put for y
abbrev pub trans_proof : Tree → Tree → Tree → Tree → Tree → Tree → Tree
trans_proof a x y z g h =
    let equals_x = App (App (Sym eq_symbol) a) x in
    applied (Sym eq_mp_symbol)
    (eq_of a x y ∷ eq_of a x z
    ∷ applied (Sym app_thm_symbol)
    (a ∷ bools ∷ equals_x ∷ equals_x ∷ y ∷ z ∷ refl_of (arr_of a bools) equals_x ∷ h ∷ [])
    ∷ g ∷ [])

-- from x = y and y = z to x = z
abbrev pub trans_lemma : Declaration
trans_lemma =
    theorem (codes "trans") trans_domains (proof_of (eq_of (Var 5) (Var 4) (Var 2))) (trans_proof (Var 5) (Var 4) (Var 3) (Var 2) (Var 1) (Var 0))

abbrev pub lemmas : List Declaration
lemmas = sym_lemma ∷ trans_lemma ∷ []
