-- Worked examples: the text, the weights and the bounds of the lemmas and of two small theorems.
use Rattle.std.proofs.Common.{◌≡◌, ◌≤◌, ℕ, refl, arith, List, [], ◌∷◌, codes}
use Rattle.std.specs.Fmt.{digits}
use Rattle.lp_spec.specs.Trees.{Tree, SortType, Var, Sym, App, loose}
use Rattle.lp_spec.specs.Modules.{Declaration, bools, term_of, eq_of, proof_of, refl_of}
use Rattle.std.specs.Prelude.{IsFalse}
use Rattle.std.specs.Option.{option_map_or}
use Rattle.lp_spec.specs.ModuleOrder.{has_kind, symbols, IsOver, IsModule}
use Rattle.lp_spec.specs.Lemmas.{theorem, sym_lemma, trans_lemma, lemmas}
use Rattle.lp_spec.specs.Text.{declaration_text}
use Rattle.lp_spec.specs.Weight.{spreads, weight, bound}

-- each p equals itself, and the export of that
abbrev reflexivity : Declaration
reflexivity = theorem (codes "T0") (term_of bools ∷ []) (proof_of (eq_of bools (Var 0) (Var 0))) (refl_of bools (Var 0))

abbrev export : Declaration
export = theorem (codes "E0") (term_of bools ∷ []) (proof_of (eq_of bools (Var 0) (Var 0))) (App (Sym 20) (Var 0))

abbrev smallest : List Declaration
smallest = sym_lemma ∷ trans_lemma ∷ reflexivity ∷ export ∷ []

equation_spreads : spreads [] [] (eq_of bools (Var 0) (Var 1)) ≡ 13
equation_spreads = refl

sym_weighs : weight lemmas sym_lemma ≡ 552
sym_weighs = refl

trans_weighs : weight lemmas trans_lemma ≡ 440
trans_weighs = refl

sym_bound : bound lemmas sym_lemma ≡ 10764582912
sym_bound = refl

trans_bound : bound lemmas trans_lemma ≡ 5451776000
trans_bound = refl

reflexivity_bound : bound smallest reflexivity ≡ 13144256
reflexivity_bound = refl

export_bound : bound smallest export ≡ 10648000
export_bound = refl

reflexivity_text : declaration_text smallest reflexivity 13144256
    ≡ codes "(; bound 13144256 ;)\nthm T0 : v0 : term bool -> proof (eq bool v0 v0) := v0 : term bool => refl bool v0.\n"
unfolding digits
reflexivity_text = refl

export_text : declaration_text smallest export 10648000
    ≡ codes "(; bound 10648000 ;)\nthm E0 : v0 : term bool -> proof (eq bool v0 v0) := v0 : term bool => T0 v0.\n"
unfolding digits
export_text = refl

sym_text : declaration_text lemmas sym_lemma 10764582912
    ≡ codes
    "(; bound 10764582912 ;)\nthm sym : v0 : type -> v1 : term v0 -> v2 : term v0 -> v3 : proof (eq v0 v1 v2) -> proof (eq v0 v2 v1) := v0 : type => v1 : term v0 => v2 : term v0 => v3 : proof (eq v0 v1 v2) => eq_mp (eq v0 v1 v1) (eq v0 v2 v1) (app_thm v0 bool (eq v0 v1) (eq v0 v2) v1 v1 (app_thm v0 (arr v0 bool) (eq v0) (eq v0) v1 v2 (refl (arr v0 (arr v0 bool)) (eq v0)) v3) (refl v0 v1)) (refl v0 v1).\n"
unfolding digits
sym_text = refl

trans_text : declaration_text lemmas trans_lemma 5451776000
    ≡ codes
    "(; bound 5451776000 ;)\nthm trans : v0 : type -> v1 : term v0 -> v2 : term v0 -> v3 : term v0 -> v4 : proof (eq v0 v1 v2) -> v5 : proof (eq v0 v2 v3) -> proof (eq v0 v1 v3) := v0 : type => v1 : term v0 => v2 : term v0 => v3 : term v0 => v4 : proof (eq v0 v1 v2) => v5 : proof (eq v0 v2 v3) => eq_mp (eq v0 v1 v2) (eq v0 v1 v3) (app_thm v0 bool (eq v0 v1) (eq v0 v1) v2 v3 (refl (arr v0 bool) (eq v0 v1)) v5) v4.\n"
unfolding digits
trans_text = refl

abbrev body_of : Declaration → Tree
body_of d = option_map_or (λ t. t) d.body SortType

over : (count : ℕ) (t : Tree) → loose t ≡ 0 → IsFalse (has_kind t) → symbols t ≤ count → IsOver count t
over count t closed kindless known = record { closed = closed; kindless = kindless; known = known }

lemmas_module : IsModule lemmas
lemmas_module = (
  record { new_name = refl; ty = over 18 sym_lemma.ty refl refl (omega arith); body = over 18 (body_of sym_lemma) refl refl (omega arith) },
  (
    record { new_name = refl; ty = over 19 trans_lemma.ty refl refl (omega arith); body = over 19 (body_of trans_lemma) refl refl (omega arith) },
    tt {0},
  ),
)
