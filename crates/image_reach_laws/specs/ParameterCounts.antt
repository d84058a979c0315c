-- A type of a module that stands for a closed sequent has as many domains as the sequent has parameters, and so has the tree of a sequent.
use Rattle.std.proofs.Common.{◌≡◌, ℕ, suc, ◌+◌, List, [], ◌∷◌, ◌++◌, map, length, Some, refl, sym, ap, ◌∙◌, arith}
use Rattle.std.specs.Prelude.{replicate}
use Rattle.std.proofs.lemmas.List.{length-append, length-map, length-replicate}
use Rattle.hol_spec.specs.Types.{type_variables}
use Rattle.hol_spec.specs.Terms.{Term, Variable}
use Rattle.hol_spec.specs.Sequents.{Sequent, type_variables_of, free_variables_of, parameter_count}
use Rattle.hol_spec.specs.ClosedForm.{ClosedType, ClosedTerm, ClosedSequent}
use Rattle.lp_spec.specs.Trees.{Tree}
use Rattle.lp_spec.specs.Modules.{Declaration, products, types, term_of, proof_of}
use Rattle.translate_spec.specs.Scopes.{SymbolMap, under_types, under_term, under_proof, unfilled, Scope, type_tree, term_domains, proof_domains, scope_of_types, scope_of_terms, domains_of, conclusion_tree, sequent_tree}
use Rattle.translate_spec.specs.Enc.{StandForVariables, StandForHypotheses, domains, Enc}
use Rattle.translate_spec.specs.Items.{Content, operator, constant, defined_constant, type_operator, type_abstraction, type_representation, unproved, step, says, declaration_of}
use Rattle.image_reach_laws.specs.PlaceCounts.{domain_count, domain_count-products, end_symbol, end_symbol-products}
use Rattle.hol_spec.specs.NewTypes.{abstraction_type, representation_type}

-- how many parameters a closed sequent has: type variables, then free variables, then hypotheses
abbrev pub closed_parameter_count : ClosedSequent → ℕ
closed_parameter_count c = c.type_variable_count + length c.free_variable_types + length c.hypotheses

-- the domains of a type that stands for a closed sequent
variables-long : (m : List Declaration) (ts : List ClosedType) (n k : ℕ) (As : List Tree) → StandForVariables m ts n k As → length As ≡ length ts
variables-long m [] n k [] h = refl
variables-long m [] n k (A ∷ As) h = absurd h
variables-long m (t ∷ ts) n k [] h = absurd h
variables-long m (t ∷ ts) n k (A ∷ As) h = ap suc (variables-long m ts n (suc k) As h.1)

hypotheses-long : (m : List Declaration) (hs : List ClosedTerm) (n k l : ℕ) (As : List Tree) → StandForHypotheses m hs n k l As → length As ≡ length hs
hypotheses-long m [] n k l [] h = refl
hypotheses-long m [] n k l (A ∷ As) h = absurd h
hypotheses-long m (p ∷ hs) n k l [] h = absurd h
hypotheses-long m (p ∷ hs) n k l (A ∷ As) h = ap suc (hypotheses-long m hs n k (suc l) As h.1)

domains-long : (n : ℕ) (vs hs : List Tree) → length (domains n vs hs) ≡ n + length vs + length hs
domains-long n vs hs =
    let a = length-append (replicate n types ++ map term_of vs) (map proof_of hs) in
    let b = length-append (replicate n types) (map term_of vs) in
    let c = length-replicate n types in
    let d = length-map vs term_of in
    let e = length-map hs proof_of in
    omega (arith, a, b, c, d, e)

pub Enc-domain_count : (m : List Declaration) (c : ClosedSequent) (A : Tree) → Enc m c A → domain_count A ≡ closed_parameter_count c
Enc-domain_count m c A h =
    let ds = domains c.type_variable_count h.variables h.hypotheses in
    let a = domain_count-products ds (proof_of h.conclusion) in
    let b = domains-long c.type_variable_count h.variables h.hypotheses in
    let k = variables-long m c.free_variable_types c.type_variable_count 0 h.variables h.variables_stand in
    let l = hypotheses-long m c.hypotheses c.type_variable_count (length h.variables) 0 h.hypotheses h.hypotheses_stand in
    let count : domain_count (products ds (proof_of h.conclusion)) ≡ closed_parameter_count c = omega (arith, a, b, k, l) in
    ap domain_count h.product ∙ count

-- it ends in proofs, whose symbol is the eighth of the signature
Enc-end_symbol : (m : List Declaration) (c : ClosedSequent) (A : Tree) → Enc m c A → end_symbol A ≡ 7
Enc-end_symbol m c A h = ap end_symbol h.product ∙ end_symbol-products (domains c.type_variable_count h.variables h.hypotheses) (proof_of h.conclusion)

-- the domains of the tree of a sequent
term_domains-long : (symbols : SymbolMap) (vs : List Variable) (scope : Scope) → length (term_domains symbols vs scope) ≡ length vs
term_domains-long symbols [] scope = refl
term_domains-long symbols (v ∷ vs) scope = ap suc (term_domains-long symbols vs (under_term v scope))

proof_domains-long : (symbols : SymbolMap) (ps : List Term) (scope : Scope) → length (proof_domains symbols ps scope) ≡ length ps
proof_domains-long symbols [] scope = refl
proof_domains-long symbols (p ∷ ps) scope = ap suc (proof_domains-long symbols ps (under_proof p scope))

sequent_tree-domain_count : (symbols : SymbolMap) (q : Sequent) → domain_count (sequent_tree symbols q) ≡ parameter_count q
sequent_tree-domain_count symbols q =
    let ts = map (λ m. types) (type_variables_of q) in
    let vs = term_domains symbols (free_variables_of q) (scope_of_types symbols q) in
    let hs = proof_domains symbols q.hypotheses (scope_of_terms symbols q) in
    let a = domain_count-products (domains_of symbols q) (conclusion_tree symbols q) in
    let b : length (domains_of symbols q) ≡ length (ts ++ vs) + length hs = length-append (ts ++ vs) hs in
    let c : length (ts ++ vs) ≡ length ts + length vs = length-append ts vs in
    let d : length ts ≡ length (type_variables_of q) = length-map (type_variables_of q) (λ m. types) in
    let e = term_domains-long symbols (free_variables_of q) (scope_of_types symbols q) in
    let f = proof_domains-long symbols q.hypotheses (scope_of_terms symbols q) in
    let long : length (domains_of symbols q) + 0 ≡ parameter_count q = omega (arith, b, c, d, e, f) in
    a ∙ long

-- an item says a sequent of so many parameters
pub record SaysCounted (c : Content) (n : ℕ) : Type 0 where
  pub sequent : Sequent
  pub said : says c ≡ Some sequent
  pub count : parameter_count sequent ≡ n

-- What is declared at a type that stands for a closed sequent says a sequent of as many parameters
pub declared-says : (m : List Declaration) (symbols : SymbolMap) (closed : ClosedSequent) (name : List ℕ) (c : Content)
    → Enc m closed (declaration_of symbols name c).ty
    → SaysCounted c (closed_parameter_count closed)
declared-says m symbols closed name (operator n k) h =
    let e : 0 ≡ 7 = sym (end_symbol-products (replicate k types) types) ∙ Enc-end_symbol m closed _ h in absurd (omega (arith, e))
declared-says m symbols closed name (constant n a) h =
    let e : 4 ≡ 7 = sym (end_symbol-products (map (λ m. types) (type_variables a)) (term_of (type_tree symbols (under_types (type_variables a) unfilled) a)))
    ∙ Enc-end_symbol m closed _ h in
    absurd (omega (arith, e))
declared-says m symbols closed name (defined_constant n a t) h =
    let e : 4 ≡ 7 = sym (end_symbol-products (map (λ m. types) (type_variables a)) (term_of (type_tree symbols (under_types (type_variables a) unfilled) a)))
    ∙ Enc-end_symbol m closed _ h in
    absurd (omega (arith, e))
declared-says m symbols closed name (type_operator names c f j one) h =
    let e : 0 ≡ 7 = sym (end_symbol-products (replicate (length names.variables) types) types) ∙ Enc-end_symbol m closed _ h in absurd (omega (arith, e))
declared-says m symbols closed name (type_abstraction names c f j one) h =
    let a = abstraction_type names c in
    let e : 4 ≡ 7 = sym (end_symbol-products (map (λ m. types) (type_variables a)) (term_of (type_tree symbols (under_types (type_variables a) unfilled) a)))
    ∙ Enc-end_symbol m closed _ h in
    absurd (omega (arith, e))
declared-says m symbols closed name (type_representation names c f j one) h =
    let a = representation_type names c in
    let e : 4 ≡ 7 = sym (end_symbol-products (map (λ m. types) (type_variables a)) (term_of (type_tree symbols (under_types (type_variables a) unfilled) a)))
    ∙ Enc-end_symbol m closed _ h in
    absurd (omega (arith, e))
declared-says m symbols closed name (unproved q) h = record {
  sequent = q;
  said = refl;
  count = sym (sequent_tree-domain_count symbols q) ∙ Enc-domain_count m closed (sequent_tree symbols q) h;
}
declared-says m symbols closed name (step kind js ss g q) h = record {
  sequent = q;
  said = refl;
  count = sym (sequent_tree-domain_count symbols q) ∙ Enc-domain_count m closed (sequent_tree symbols q) h;
}
