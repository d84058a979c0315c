-- The text of a closed sequent, as `show` and `decode` print it.
use Rattle.std.specs.Prelude.{ℕ, zero, suc, ◌-◌, List, [], ◌∷◌, ◌++◌, Bool, false, if◌then◌else◌, codes, decimal}
use Rattle.hol_spec.specs.Names.{Name}
use Rattle.hol_spec.specs.NameEquality.{name_eq}
use Rattle.hol_spec.specs.Primitives.{arrow_name, equality_name}
use Rattle.hol_spec.specs.Mangling.{mangled}
use Rattle.hol_spec.specs.ClosedForm.{ClosedType, ClosedTypes, ClosedTerm, ClosedSequent}

-- a name is mangled, except that `=` is `=`
abbrev pub name_text : Name → List ℕ
name_text n = if name_eq n equality_name then codes "=" else mangled n

abbrev pub is_function : Name → ClosedTypes → Bool
is_function n (ClosedTypes.more a (ClosedTypes.more b ClosedTypes.none)) = name_eq n arrow_name
is_function n ts = false

abbrev mutual
  pub type_text : ClosedType → List ℕ
  type_text (ClosedType.parameter i) = codes "a" ++ decimal i
  type_text (ClosedType.operator n ts) = if is_function n ts then codes "(" ++ function_text ts ++ codes ")" else operator_text n ts

  -- two types with an arrow between them
  pub function_text : ClosedTypes → List ℕ
  function_text ClosedTypes.none = []
  function_text (ClosedTypes.more a ts) = type_text a ++ codes " ->" ++ types_text ts

  -- types, each after a blank
  pub types_text : ClosedTypes → List ℕ
  types_text ClosedTypes.none = []
  types_text (ClosedTypes.more t ts) = codes " " ++ type_text t ++ types_text ts

  pub operator_text : Name → ClosedTypes → List ℕ
  operator_text n ClosedTypes.none = name_text n
  operator_text n (ClosedTypes.more t ts) = codes "(" ++ name_text n ++ codes " " ++ type_text t ++ types_text ts ++ codes ")"

-- a term under so many binders of its own
abbrev pub term_text : ClosedTerm → ℕ → List ℕ
term_text (ClosedTerm.parameter j) d = codes "x" ++ decimal j
term_text (ClosedTerm.bound k) d = codes "b" ++ decimal (d - suc k)
term_text (ClosedTerm.constant n t) d = codes "(" ++ name_text n ++ codes ":" ++ type_text t ++ codes ")"
term_text (ClosedTerm.app f x) d = codes "(" ++ term_text f d ++ codes " " ++ term_text x d ++ codes ")"
term_text (ClosedTerm.lam t b) d = codes "(\\b" ++ decimal d ++ codes ":" ++ type_text t ++ codes ". " ++ term_text b (suc d) ++ codes ")"

-- texts with something between any two
abbrev pub separated : List ℕ → List (List ℕ) → List ℕ
separated mark [] = []
separated mark (x ∷ []) = x
separated mark (x ∷ y ∷ xs) = x ++ mark ++ separated mark (y ∷ xs)

abbrev pub type_variable_texts : ℕ → ℕ → List (List ℕ)
type_variable_texts i zero = []
type_variable_texts i (suc n) = (codes "a" ++ decimal i) ∷ type_variable_texts (suc i) n

abbrev pub variable_texts : ℕ → List ClosedType → List (List ℕ)
variable_texts j [] = []
variable_texts j (t ∷ ts) = (codes "x" ++ decimal j ++ codes ":" ++ type_text t) ∷ variable_texts (suc j) ts

abbrev pub hypothesis_texts : List ClosedTerm → List (List ℕ)
hypothesis_texts [] = []
hypothesis_texts (h ∷ hs) = term_text h 0 ∷ hypothesis_texts hs

abbrev pub closed_text : ClosedSequent → List ℕ
closed_text s =
    codes "[" ++ separated (codes " ") (type_variable_texts 0 s.type_variable_count)
    ++ codes "] [" ++ separated (codes " ") (variable_texts 0 s.free_variable_types)
    ++ codes "] {" ++ separated (codes ", ") (hypothesis_texts s.hypotheses)
    ++ codes "} |- " ++ term_text s.conclusion 0
