-- The declaration of a step, put together of its parts.
use Rattle.std.proofs.Common.{◌≡◌, ℕ, suc, ◌+◌, ◌<◌, Bool, true, false, refl, sym, ap, subst, ◌∙◌, List, [], ◌∷◌, ◌++◌, map, length, arith}
use Rattle.std.proofs.lemmas.List.{length-append, length-map}
use Rattle.std.specs.List.{AllByRecursion}
use Rattle.hol_spec.specs.Names.{Name}
use Rattle.hol_spec.specs.Proofs.{Step, sequent_at, IsProof}
use Rattle.hol_spec.specs.Rules.{Parameters}
use Rattle.hol_spec.specs.Sequents.{Sequent, type_variables_of, free_variables_of}
use Rattle.hol_spec.specs.Terms.{Term, Variable}
use Rattle.hol_spec.specs.declared.StepKind.{StepKind}
use Rattle.hol_rules.specs.Kept.{Kept, step_count}
use Rattle.hol_rules.specs.Views.{step_at}
use Rattle.lp_spec.specs.Lemmas.{theorem}
use Rattle.lp_spec.specs.Modules.{Declaration, symbol, types}
use Rattle.translate_laws.specs.NeededSteps.{needed-sequent, needed-row}
use Rattle.translate_spec.specs.Items.{declaration_of}
use Rattle.translate_spec.specs.MadeItems.{content_by}
use Rattle.translate_spec.specs.Rows.{has_row, proof_tree}
use Rattle.translate_spec.specs.Scopes.{SymbolMap, Scope, conclusion_tree, domains_of, scope_of, sequent_tree, term_domains, proof_domains, under_term, under_proof, scope_of_types, scope_of_terms}
use Rattle.translate_rule.specs.Steps.{TellsContent, TellsGiven, TellsProof, needed_at, content_at, symbol_in, rule_tree}
use Rattle.translate_proof.specs.Told.{TellsSequent}
use Rattle.translate_rule.proofs.StepLaws.{step-sequent}

-- how many binders a sequent has
terms-length : (symbols : SymbolMap) (vs : List Variable) (scope : Scope) → length (term_domains symbols vs scope) ≡ length vs
terms-length symbols [] scope = refl
terms-length symbols (v ∷ vs) scope = ap suc (terms-length symbols vs (under_term v scope))

proofs-length : (symbols : SymbolMap) (hs : List Term) (scope : Scope) → length (proof_domains symbols hs scope) ≡ length hs
proofs-length symbols [] scope = refl
proofs-length symbols (h ∷ hs) scope = ap suc (proofs-length symbols hs (under_proof h scope))

pub domains-length : (symbols : SymbolMap) (s : Sequent) → length (domains_of symbols s)
    ≡ length (type_variables_of s) + length (free_variables_of s) + length s.hypotheses
domains-length symbols s =
    let names = map (λ (n : Name). types) (type_variables_of s) in
    let terms = term_domains symbols (free_variables_of s) (scope_of_types symbols s) in
    let proofs = proof_domains symbols s.hypotheses (scope_of_terms symbols s) in
    omega (
      arith,
      length-append (names ++ terms) proofs,
      length-append names terms,
      length-map (type_variables_of s) (λ (n : Name). types),
      terms-length symbols (free_variables_of s) (scope_of_types symbols s),
      proofs-length symbols s.hypotheses (scope_of_terms symbols s),
    )

-- what a content tells of a step that has a proof, and of one that has none
content-by-proof : (d : List Declaration) (tables : SymbolMap) (b : Bool) (kind : StepKind) (js : List ℕ) (ss : List Sequent) (given : Parameters) (s : Sequent)
    → b ≡ true → TellsContent d tables (content_by b kind js ss given s)
    → TellsSequent d tables s × AllByRecursion (TellsSequent d tables) ss × TellsGiven d tables given
content-by-proof d tables true kind js ss given s e h = h
content-by-proof d tables false kind js ss given s e h = absurd (cc)

content-by-own : (d : List Declaration) (tables : SymbolMap) (b : Bool) (kind : StepKind) (js : List ℕ) (ss : List Sequent) (given : Parameters) (s : Sequent)
    → TellsContent d tables (content_by b kind js ss given s) → TellsSequent d tables s
content-by-own d tables true kind js ss given s h = h.0
content-by-own d tables false kind js ss given s h = h

declared-by-proof : (tables : SymbolMap) (name : List ℕ) (b : Bool) (kind : StepKind) (js : List ℕ) (ss : List Sequent) (given : Parameters) (s : Sequent) → b
    ≡ true
    → declaration_of tables name (content_by b kind js ss given s)
    ≡ theorem name (domains_of tables s) (conclusion_tree tables s) (proof_tree tables (scope_of tables s) kind js ss given)
declared-by-proof tables name true kind js ss given s e = refl
declared-by-proof tables name false kind js ss given s e = absurd (cc)

declared-by-none : (tables : SymbolMap) (name : List ℕ) (b : Bool) (kind : StepKind) (js : List ℕ) (ss : List Sequent) (given : Parameters) (s : Sequent) → b
    ≡ false → declaration_of tables name (content_by b kind js ss given s) ≡ symbol name (sequent_tree tables s)
declared-by-none tables name false kind js ss given s e = refl
declared-by-none tables name true kind js ss given s e = absurd (cc)

-- a step of a proof, with the premises that its proof needs
module _ (k : Kept) (id : ℕ) (l : id < step_count k) (p : IsProof k.made) (numbers : List ℕ) (d : List Declaration) (tables : SymbolMap) where
  abbrev x : Step
  x = needed_at k.made id

  own-sequent : x.sequent ≡ sequent_at k.made id
  own-sequent = needed-sequent (map (sequent_at k.made) (step_at k.made id).premises) (step_at k.made id) ∙ step-sequent k.made p id l

  own-proved : has_row x.kind ≡ has_row (step_at k.made id).kind
  own-proved = needed-row (map (sequent_at k.made) (step_at k.made id).premises) (step_at k.made id)

  pub content-own : TellsContent d tables (content_at numbers k.made id) → TellsSequent d tables (sequent_at k.made id)
  content-own h =
      subst (TellsSequent d tables) own-sequent
      (content-by-own d tables (has_row x.kind) x.kind (map (symbol_in numbers) x.premises) (map (sequent_at k.made) x.premises) x.parameters x.sequent h)

  pub content-proved : has_row (step_at k.made id).kind ≡ true → TellsContent d tables (content_at numbers k.made id) → TellsProof d tables k.made x
  content-proved e h =
      let told = content-by-proof d tables (has_row x.kind) x.kind (map (symbol_in numbers) x.premises) (map (sequent_at k.made) x.premises) x.parameters
      x.sequent (own-proved ∙ e) h in
      record { own = told.0; premises = told.1; given = told.2 }

  -- its declaration
  pub declared-proved : (name : List ℕ) → has_row (step_at k.made id).kind ≡ true
      → theorem name (domains_of tables (sequent_at k.made id)) (conclusion_tree tables (sequent_at k.made id))
      (rule_tree tables (scope_of tables (sequent_at k.made id)) numbers k.made x) ≡ declaration_of tables name (content_at numbers k.made id)
  declared-proved name e =
      sym (declared-by-proof tables name (has_row x.kind) x.kind (map (symbol_in numbers) x.premises) (map (sequent_at k.made) x.premises) x.parameters
      x.sequent (own-proved ∙ e)
      ∙ ap (λ s. theorem name (domains_of tables s) (conclusion_tree tables s) (rule_tree tables (scope_of tables s) numbers k.made x)) own-sequent)

  pub declared-none : (name : List ℕ) → has_row (step_at k.made id).kind ≡ false → symbol name (sequent_tree tables (sequent_at k.made id))
      ≡ declaration_of tables name (content_at numbers k.made id)
  declared-none name e =
      sym (declared-by-none tables name (has_row x.kind) x.kind (map (symbol_in numbers) x.premises) (map (sequent_at k.made) x.premises) x.parameters x.sequent
      (own-proved ∙ e)
      ∙ ap (λ s. symbol name (sequent_tree tables s)) own-sequent)
