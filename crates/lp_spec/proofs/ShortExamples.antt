-- Worked examples of short names: what they read as, and what is written by them.
use Rattle.std.proofs.Common.{◌≡◌, ℕ, refl, true, false, List, [], ◌∷◌, ◌++◌, Some, codes}
use Rattle.std.specs.Fmt.{digits}
use Rattle.lp_spec.specs.declared.form.Form.TheVariants.{Def}
use Rattle.lp_spec.specs.Trees.{Tree, Var, Sym, App, Pi}
use Rattle.lp_spec.specs.Modules.{Declaration, symbol, types, bools, arr_of, term_of, eq_of, proof_of, refl_of}
use Rattle.lp_spec.specs.Lemmas.{theorem, sym_lemma, trans_lemma, lemmas}
use Rattle.lp_spec.specs.ShortNames.{is_short_name, shortened_declaration}
use Rattle.lp_spec.specs.Text.{declaration_text}
use Rattle.lp_spec.specs.Tokens.{Nothing}
use Rattle.lp_spec.specs.ReadingFaults.{Between, Inside, read_bytes, read_end, reads, refused, refusal, NameTwice}
use Rattle.lp_spec.specs.Weight.{weight, bound}

-- `X` and a number without leading zeros
some_short : is_short_name (codes "X0") ≡ true
some_short = refl

two_digits : is_short_name (codes "X10") ≡ true
two_digits = refl

leading_zero : is_short_name (codes "X01") ≡ false
leading_zero = refl

no_number : is_short_name (codes "X") ≡ false
no_number = refl

-- a definition of this type
abbrev definition : List ℕ → Tree → Tree → Declaration
definition name ty body = record { name = name; form = Def; ty = ty; body = Some body }

abbrev functions : Tree
functions = arr_of bools bools

-- a short name in a definition of another reads as its body
both : read_end (read_bytes (Inside 1000 Nothing [] Between) (codes "def X0 : type := arr bool bool.\ndef X1 : type := arr X0 X0.\n"))
    ≡ reads (definition (codes "X0") types functions ∷ definition (codes "X1") types (arr_of functions functions) ∷ [])
both = refl

-- a theorem, a symbol and a name with a leading zero are symbols as ever
no_definition : read_end (read_bytes (Inside 1000 Nothing [] Between) (codes "X0 : type. def X01 : type := X0. z : term X0 -> term X01."))
    ≡ reads (symbol (codes "X0") types ∷ definition (codes "X01") types (Sym 18) ∷ symbol (codes "z") (Pi (term_of (Sym 18)) (term_of (Sym 19))) ∷ [])
no_definition = refl

-- a binder hides a short name, and a short name can't be declared twice
hidden : read_end (read_bytes (Inside 1000 Nothing [] Between) (codes "def X0 : type := arr bool bool. z : X0 : type -> term X0."))
    ≡ reads (definition (codes "X0") types functions ∷ symbol (codes "z") (Pi types (term_of (Var 0))) ∷ [])
hidden = refl

twice : read_end (read_bytes (Inside 1000 Nothing [] Between) (codes "def X0 : type := bool. X0 : type.")) ≡ refused (refusal 1023 (NameTwice (codes "X0")))
twice = refl

-- with short names: each p equals itself, and the export of that
abbrev equation : Tree
equation = App (Sym 5) bools

abbrev shorts : Declaration
shorts = definition (codes "X0") (term_of (arr_of bools (arr_of bools bools))) equation

abbrev reflexivity : Declaration
reflexivity = theorem (codes "T0") (term_of bools ∷ []) (proof_of (eq_of bools (Var 0) (Var 0))) (refl_of bools (Var 0))

abbrev export : Declaration
export = theorem (codes "E0") (term_of bools ∷ []) (proof_of (eq_of bools (Var 0) (Var 0))) (App (Sym 21) (Var 0))

abbrev smallest : List Declaration
smallest = sym_lemma ∷ trans_lemma ∷ shorts ∷ reflexivity ∷ export ∷ []

-- its own body is written by its parts, for no earlier name is short for it
shorts_text : declaration_text smallest (shortened_declaration lemmas shorts) 0 ≡ codes "def X0 : term (arr bool (arr bool bool)) := eq bool.\n"
shorts_text = refl

reflexivity_text : declaration_text smallest (shortened_declaration (lemmas ++ shorts ∷ []) reflexivity) 13144256
    ≡ codes "(; bound 13144256 ;)\nthm T0 : v0 : term bool -> proof (X0 v0 v0) := v0 : term bool => refl bool v0.\n"
unfolding digits
reflexivity_text = refl

export_text : declaration_text smallest (shortened_declaration (lemmas ++ shorts ∷ reflexivity ∷ []) export) 10648000
    ≡ codes "(; bound 10648000 ;)\nthm E0 : v0 : term bool -> proof (X0 v0 v0) := v0 : term bool => T0 v0.\n"
unfolding digits
export_text = refl

reflexivity_bound : bound smallest reflexivity ≡ 13144256
reflexivity_bound = refl

export_bound : bound smallest export ≡ 10648000
export_bound = refl

shorts_weigh : weight smallest shorts ≡ 38
shorts_weigh = refl
