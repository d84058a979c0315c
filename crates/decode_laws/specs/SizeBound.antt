-- A type that stands for a closed sequent has a limited number of nodes, so that larger ones need not be walked.
use Rattle.std.proofs.Common.{◌≡◌, ℕ, zero, suc, ◌+◌, ◌*◌, ◌≤◌, List, [], ◌∷◌, ◌++◌, map, length, refl, sym, ap, ◌∙◌, arith}
use Rattle.std.specs.Prelude.{replicate}
use Rattle.std.specs.List.{flat_map, sum_by}
use Rattle.std.proofs.lemmas.List.Sums.{sum_by-cons}
use Rattle.hol_spec.specs.Names.{Name}
use Rattle.hol_spec.specs.Terms as term
use Rattle.hol_spec.specs.Terms.{Term, Variable, variable_eq, free_places}
use Rattle.hol_spec.specs.Sequents.{Sequent, terms_of, type_variables_of, free_variables_of}
use Rattle.hol_spec.specs.Limits.{type_size, term_size, sequent_size, greatest_size, greatest_parameter_count}
use Rattle.hol_spec.specs.ClosedForm.{ClosedType, ClosedTerm, ClosedSequent}
use Rattle.lp_spec.specs.Trees.{Tree, size}
use Rattle.lp_spec.specs.Modules.{Declaration, products, types, term_of, proof_of}
use Rattle.translate_spec.specs.TypeEnc.{place}
use Rattle.translate_spec.specs.Enc.{StandForVariables, StandForHypotheses, domains, Enc}
use Rattle.decode_spec.specs.Opened.{open_term, open_variables, opened}
use Rattle.decode_laws.specs.ClosedFormTestLaws.{IsClosedForm-IsOpen, length-numbers}
use Rattle.hol_laws.specs.RenamingLaws.{length_map}
use Rattle.decode_laws.specs.SizeLaws.{summed, summed-append, summed-distinct, type-size, term-size}

-- four for each node of the sequent, two for each of its parameters, and the proof that it ends in
abbrev pub greatest_tree : ℕ
greatest_tree = 4 * greatest_size + 2 * greatest_parameter_count + 1

abbrev variable_size : Variable → ℕ
variable_size v = 1 + type_size v.1

-- the free variables' places are within the term
places-size : (t : Term) → summed variable_size (free_places t) ≤ term_size t
places-size (term.Term.free n t) = omega arith
places-size (term.Term.bound k) = omega arith
places-size (term.Term.constant n t) = omega arith
places-size (term.Term.app f x) = omega (arith, places-size f, places-size x, summed-append variable_size (free_places f) (free_places x))
places-size (term.Term.lam t b) = omega (arith, places-size b)

all_places-size : (ts : List Term) → summed variable_size (flat_map free_places ts) ≤ summed term_size ts
all_places-size [] = omega arith
all_places-size (t ∷ ts) = omega (arith, places-size t, all_places-size ts, summed-append variable_size (free_places t) (flat_map free_places ts))

summed-sum_by : (ts : List Term) → summed term_size ts ≡ sum_by term_size ts
summed-sum_by [] = refl
summed-sum_by (t ∷ ts) = ap (λ n. term_size t + n) (summed-sum_by ts) ∙ sym (sum_by-cons term_size t ts)

pub free_variables-size : (s : Sequent) → summed variable_size (free_variables_of s) ≤ sequent_size s
free_variables-size s =
    omega (arith, summed-distinct variable_eq variable_size (flat_map free_places (terms_of s)), all_places-size (terms_of s), summed-sum_by (terms_of s))

products-size : (xs : List Tree) (c : Tree) → size (products xs c) ≡ summed (λ x. 1 + size x) xs + size c
products-size [] c = omega arith
products-size (x ∷ xs) c = omega (arith, products-size xs c)

types-size : (n : ℕ) → summed (λ x. 1 + size x) (replicate n types) ≡ 2 * n
types-size zero = refl
types-size (suc n) = omega (arith, types-size n)

module _ (named : ℕ → Name) (d : List Declaration) where
  variables-size : (ts : List ClosedType) (As : List Tree) (n m j : ℕ) → StandForVariables d ts n m As
      → summed (λ x. 1 + size x) (map term_of As) ≤ 2 * summed variable_size (open_variables named j ts)
  variables-size [] [] n m j h = omega arith
  variables-size [] (A ∷ As) n m j h = absurd h
  variables-size (t ∷ ts) [] n m j h = absurd h
  variables-size (t ∷ ts) (A ∷ As) n m j h = omega (arith, type-size named d t (place n m 0 0) A h.0, variables-size ts As n (suc m) (suc j) h.1)

  hypotheses-size : (variables : List ClosedType) (ts : List ClosedTerm) (As : List Tree) (n m l : ℕ) → StandForHypotheses d ts n m l As
      → summed (λ x. 1 + size x) (map proof_of As) ≤ 2 * length ts + 2 * summed term_size (map (open_term named variables) ts)
  hypotheses-size variables [] [] n m l h = omega arith
  hypotheses-size variables [] (A ∷ As) n m l h = absurd h
  hypotheses-size variables (t ∷ ts) [] n m l h = absurd h
  hypotheses-size variables (t ∷ ts) (A ∷ As) n m l h =
      omega (arith, term-size named d variables t (place n m l 0) A h.0, hypotheses-size variables ts As n m (suc l) h.1)

pub Enc-size : (named : ℕ → Name) → ((i j : ℕ) → named i ≡ named j → i ≡ j) → (d : List Declaration) (s : ClosedSequent) (A : Tree) → Enc d s A
    → size A ≤ greatest_tree
Enc-size named apart d s A h =
    let is = IsClosedForm-IsOpen named apart s h.closed in
    let o = opened named s in
    let n = s.type_variable_count in
    let variables = s.free_variable_types in
    let whole : size A ≡ summed (λ x. 1 + size x) (domains n h.variables h.hypotheses) + size (proof_of h.conclusion) =
    ap size h.product ∙ products-size (domains n h.variables h.hypotheses) (proof_of h.conclusion) in
    let one = summed-append (λ (x : Tree). 1 + size x) (replicate n types ++ map term_of h.variables) (map proof_of h.hypotheses) in
    let two = summed-append (λ (x : Tree). 1 + size x) (replicate n types) (map term_of h.variables) in
    let v = variables-size named d variables h.variables n 0 0 h.variables_stand in
    let w : summed variable_size (open_variables named 0 variables) ≡ summed variable_size (free_variables_of o) =
    ap (summed variable_size) (sym is.free_variables) in
    let g = hypotheses-size named d variables s.hypotheses h.hypotheses n (length h.variables) 0 h.hypotheses_stand in
    let c = term-size named d variables s.conclusion (place n (length h.variables) (length h.hypotheses) 0) h.conclusion h.conclusion_stands in
    let all : sequent_size o ≡ summed term_size (map (open_term named variables) s.hypotheses) + term_size (open_term named variables s.conclusion) =
    sym (summed-sum_by (terms_of o)) ∙ summed-append term_size (map (open_term named variables) s.hypotheses) (open_term named variables s.conclusion ∷ [])
    ∙ (omega arith) in
    let count : length (type_variables_of o) ≡ n = ap length is.type_variables ∙ length-numbers named 0 n in
    let hs : length (map (open_term named variables) s.hypotheses) ≡ length s.hypotheses = length_map (open_term named variables) s.hypotheses in
    omega (arith, whole, one, two, types-size n, v, w, free_variables-size o, g, c, all, count, hs, is.within.size, is.within.parameters)
