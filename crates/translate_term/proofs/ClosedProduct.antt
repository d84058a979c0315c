-- The product over the parameters of a closed sequent, made part by part, is the type of its theorems.
use Rattle.std.proofs.Common.{◌≡◌, ℕ, ◌+◌, ◌<◌, ◌≤◌, map, length, refl, sym, ap, subst, ◌∙◌, arith}
use Rattle.std.specs.Prelude.{replicate}
use Rattle.hol_laws.specs.RenamingLaws.{length_map}
use Rattle.hol_spec.specs.Terms.{Variable}
use Rattle.hol_spec.specs.Sequents.{Sequent, type_variables_of, free_variables_of}
use Rattle.lp_spec.specs.Trees.{Tree}
use Rattle.lp_spec.specs.Modules.{products, types, proof_of}
use Rattle.lp_term.specs.declared.LpId.{LpId}
use Rattle.holide_sig.specs.declared.module.Module.{Module}
use Rattle.holide_sig.specs.Modules.{declarations_of, IsHeld}
use Rattle.translate_spec.specs.Scopes.{SymbolMap, term_tree, sequent_tree}
use Rattle.sequent.specs.declared.closed.Closed.{Closed}
use Rattle.sequent.specs.declared.closed.ClosedTerm.{ClosedTerm}
use Rattle.sequent.specs.Closed.{closed_type_view, closed_term_view, closed_view}
use Rattle.translate_term.specs.Told.{TellsClosed}
use Rattle.translate_term.specs.Walks.{Grows}
use Rattle.translate_term.specs.Closed.{Numbered, scope_under, IsTypeOf, IsTermOf, IsInside, IsNumbered, IsTermToMake, AreHypotheses, AreVariables, hypothesis_domains, numbered_of, statement_under, variable_domains}
use Rattle.translate_term.proofs.ParameterScopes.{sequent_tree-under, hypotheses-are, conclusion-is, variables-are, count-is}
use Rattle.translate_term.proofs.ClosedTurns.{IsNumbered-Grows}
use Rattle.translate_term.proofs.ClosedParts.{pairwise-length, term_start}

module _ (symbols : SymbolMap) (s : Sequent) (m : Module) (closed : Closed) (told : TellsClosed (declarations_of m) symbols s (closed_view closed))
    (held : IsHeld m) where
  abbrev given : Numbered
  given = numbered_of (declarations_of m) symbols s

  numbered : IsNumbered given m closed.type_vars
  numbered = record { held = held; declared = refl; count = count-is (declarations_of m) symbols s (closed_view closed) told }

  variables-count : length (free_variables_of s) ≡ length closed.free_vars.items
  variables-count =
      sym (length_map (λ (v : Variable). v.1) (free_variables_of s))
      ∙ pairwise-length (IsTypeOf given) (map closed_type_view closed.free_vars.items) (map (λ (v : Variable). v.1) (free_variables_of s))
      (variables-are (declarations_of m) symbols s (closed_view closed) told)
      ∙ length_map closed_type_view closed.free_vars.items

  hypotheses-count : length s.hypotheses ≡ length closed.hyps.items
  hypotheses-count =
      pairwise-length (IsTermOf given) (map closed_term_view closed.hyps.items) s.hypotheses
      (hypotheses-are (declarations_of m) symbols s (closed_view closed) told)
      ∙ length_map closed_term_view closed.hyps.items

  -- as many binders as there are type variables and free variables
  within : (depth : ℕ) → closed.type_vars + length closed.free_vars.items ≤ depth → IsInside given depth
  within depth h = let c = numbered.count in let v = variables-count in omega (arith, h, c, v)

  pub conclusion_start : (x : ClosedTerm) (proofs : ℕ) → x ≡ closed.concl → proofs ≡ closed.type_vars + length closed.free_vars.items + length closed.hyps.items
      → IsTermToMake given s.conclusion m closed.type_vars (closed_term_view x) proofs
  conclusion_start x proofs e p =
      term_start given m closed.type_vars x proofs s.conclusion numbered (within proofs (omega (arith, p)))
      (subst (λ c. IsTermOf given (closed_term_view c) s.conclusion) (sym e) (conclusion-is (declarations_of m) symbols s (closed_view closed) told))

  pub hypotheses_start : (now : Module) (terms : ℕ) (inside : LpId) → Grows m now → terms ≡ closed.type_vars + length closed.free_vars.items
      → inside.0 < length now.table
      → AreHypotheses given s.hypotheses now closed.type_vars terms (map closed_term_view closed.hyps.items) inside
  hypotheses_start now terms inside g e k = record {
    numbered = IsNumbered-Grows g given closed.type_vars numbered;
    are = hypotheses-are (declarations_of m) symbols s (closed_view closed) told;
    within = within terms (omega (arith, e));
    known = k;
  }

  pub variables_start : (now : Module) (inside : LpId) → Grows m now → inside.0 < length now.table
      → AreVariables given (map (λ (v : Variable). v.1) (free_variables_of s)) now closed.type_vars (map closed_type_view closed.free_vars.items) inside
  variables_start now inside g k = record
      { numbered = IsNumbered-Grows g given closed.type_vars numbered; are = variables-are (declarations_of m) symbols s (closed_view closed) told; known = k }

  pub statement_is : (terms proofs : ℕ) (c p h : Tree) → terms ≡ closed.type_vars + length closed.free_vars.items → proofs
      ≡ closed.type_vars + length closed.free_vars.items + length closed.hyps.items
      → c ≡ term_tree symbols (scope_under given proofs) s.conclusion → p ≡ proof_of c → h ≡ products (hypothesis_domains given terms s.hypotheses) p → h
      ≡ statement_under given s
  statement_is terms proofs c p h t f ec ep eh =
      let n = length (type_variables_of s) in
      let count : closed.type_vars ≡ n = sym numbered.count in
      let a = variables-count in
      let b = hypotheses-count in
      let under : terms ≡ n + length (free_variables_of s) = omega (arith, t, a, count) in
      let over : proofs ≡ n + length (free_variables_of s) + length s.hypotheses = omega (arith, f, a, b, count) in
      eh
      ∙ ap (products (hypothesis_domains given terms s.hypotheses)) (ep ∙ ap proof_of ec)
      ∙ (λ i. products (hypothesis_domains given (under i) s.hypotheses) (proof_of (term_tree symbols (scope_under given (over i)) s.conclusion)))

  pub product_is : (h v : Tree) → h ≡ statement_under given s → v
      ≡ products (variable_domains given closed.type_vars (map (λ (v : Variable). v.1) (free_variables_of s))) h
      → products (replicate closed.type_vars types) v ≡ sequent_tree symbols s
  product_is h v eh ev =
      let variables = map (λ (v : Variable). v.1) (free_variables_of s) in
      let count : closed.type_vars ≡ length (type_variables_of s) = sym numbered.count in
      ap (products (replicate closed.type_vars types)) (ev ∙ ap (products (variable_domains given closed.type_vars variables)) eh)
      ∙ (λ i. products (replicate (count i) types) (products (variable_domains given (count i) variables) (statement_under given s)))
      ∙ sym (sequent_tree-under (declarations_of m) symbols s (closed_view closed) told)
