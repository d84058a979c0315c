-- Worked examples: the smallest module folded, and which trees can be abbreviated.
use Rattle.std.proofs.Common.{◌≡◌, refl, List, [], ◌∷◌, Some, None, codes}
use Rattle.lp_spec.specs.declared.form.Form.TheVariants.{Def}
use Rattle.lp_spec.specs.Trees.{Var, Sym, App, Lam}
use Rattle.lp_spec.specs.Modules.{Declaration, types, bools, arr_of, term_of, eq_of, proof_of, refl_of}
use Rattle.lp_spec.specs.Lemmas.{theorem, sym_lemma, trans_lemma, lemmas}
use Rattle.lp_spec.specs.Numerals.{numeral}
use Rattle.share_spec.specs.Abbreviations.{abbreviation}
use Rattle.share_spec.specs.Folded.{folded}

abbrev reflexivity : Declaration
reflexivity = theorem (codes "T0") (term_of bools ∷ []) (proof_of (eq_of bools (Var 0) (Var 0))) (refl_of bools (Var 0))

abbrev export : Declaration
export = theorem (codes "E0") (term_of bools ∷ []) (proof_of (eq_of bools (Var 0) (Var 0))) (App (Sym 20) (Var 0))

abbrev smallest : List Declaration
smallest = sym_lemma ∷ trans_lemma ∷ reflexivity ∷ export ∷ []

-- which trees can be abbreviated
equality : abbreviation smallest (App (Sym 5) bools) ≡ Some (term_of (arr_of bools (arr_of bools bools)))
equality = refl

functions : abbreviation smallest (arr_of bools bools) ≡ Some types
functions = refl

partial : abbreviation smallest (App (Sym 3) bools) ≡ None
partial = refl

identity : abbreviation smallest (Lam (term_of bools) (Var 0)) ≡ Some (term_of (arr_of bools bools))
identity = refl

single : abbreviation smallest bools ≡ None
single = refl

terms : abbreviation smallest (term_of bools) ≡ None
terms = refl

proof : abbreviation smallest (Lam (term_of bools) (refl_of bools (Var 0))) ≡ None
proof = refl

under_binder : abbreviation smallest (App (App (Sym 5) bools) (Var 0)) ≡ None
under_binder = refl

-- the smallest module: `eq bool` occurs in T0 and in E0, whose body names T0 by its new number
smallest_folded : folded smallest ≡ sym_lemma ∷ trans_lemma
    ∷ record { name = codes "X0"; form = Def; ty = term_of (arr_of bools (arr_of bools bools)); body = Some (App (Sym 5) bools) }
    ∷ reflexivity ∷ theorem (codes "E0") (term_of bools ∷ []) (proof_of (eq_of bools (Var 0) (Var 0))) (App (Sym 21) (Var 0)) ∷ []
unfolding numeral
smallest_folded = refl

-- a module of the lemmas alone stays as it is
nothing_shared : folded lemmas ≡ lemmas
nothing_shared = refl
