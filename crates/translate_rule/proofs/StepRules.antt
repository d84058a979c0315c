-- What the proof of a step asks of it and what it gives, by the numbers of its premises.
use Rattle.std.proofs.Common.{◌≡◌, ℕ, ◌<◌, true, false, cond, refl, sym, ap, subst, ◌∙◌, List, [], ◌∷◌, map, length}
use Rattle.std.specs.Prelude.{drop}
use Rattle.std.proofs.lemmas.List.{length-map, nil_from_length}
use Rattle.std.specs.List.{AllByRecursion}
use Rattle.hol_spec.specs.Sequents.{Sequent}
use Rattle.hol_spec.specs.Rules.{Rule, Parameters}
use Rattle.hol_spec.specs.Rules as rule
use Rattle.hol_spec.specs.Proofs.{Step, sequent_at, IsProof}
use Rattle.hol_spec.specs.declared.StepKind.{StepKind}
use Rattle.hol_spec.specs.declared.StepKind.TheVariants as kinds
use Rattle.hol_rules.specs.Kept.{Kept, step_count}
use Rattle.hol_rules.specs.Views.{step_at}
use Rattle.lp_spec.specs.Modules.{Declaration}
use Rattle.lp_spec.specs.Trees.{Tree}
use Rattle.translate_spec.specs.MadeItems.{proves_nothing, restated, needed}
use Rattle.translate_spec.specs.Rows.{proof_tree, has_row}
use Rattle.translate_spec.specs.Scopes.{SymbolMap, Scope, theorem_tree}
use Rattle.translate_proof.specs.declared.premise.Premise.{Premise}
use Rattle.translate_rule.specs.Steps.{symbol_in, needed_at, rule_tree, TellsProof, IsOne, AreTwo}
use Rattle.translate_proof.specs.Told.{TellsSequent}
use Rattle.translate_proof.specs.Equations.{IsEquationStep}
use Rattle.translate_rule.proofs.RuleLaws.{IsEquation}
use Rattle.translate_rule.proofs.StepLaws.{step-rule, step-sequent, premises-below}

-- how many premises a rule has
abbrev premise_count : StepKind → ℕ
premise_count kinds.EqMp = 2
premise_count kinds.AppThm = 2
premise_count kinds.DeductAntisym = 2
premise_count kinds.Trans = 2
premise_count kinds.ProveHyp = 2
premise_count kinds.AbsThm = 1
premise_count kinds.Sym = 1
premise_count kinds.Subst = 1
premise_count kinds.Restate = 1
premise_count kinds.DefineConstList = 1
premise_count kinds.FirstLaw = 1
premise_count kinds.SecondLaw = 1
premise_count kind = 0

rule-count : (kind : StepKind) (ss : List Sequent) (g : Parameters) (s : Sequent) → Rule kind ss g s → length ss ≡ premise_count kind
rule-count kind ss g s (rule.refl h e) = refl
rule-count kind ss g s (rule.assume h e) = refl
rule-count kind ss g s (rule.eq_mp e f i) = refl
rule-count kind ss g s (rule.abs_thm e f i) = refl
rule-count kind ss g s (rule.app_thm e f i) = refl
rule-count kind ss g s (rule.deduct_antisym e) = refl
rule-count kind ss g s (rule.beta_conv h e) = refl
rule-count kind ss g s (rule.sym e f) = refl
rule-count kind ss g s (rule.trans e f i) = refl
rule-count kind ss g s (rule.prove_hyp e) = refl
rule-count kind ss g s (rule.subst h e) = refl
rule-count kind ss g s (rule.recorded h) = refl
rule-count kind ss g s (rule.restate h w) = refl
rule-count kind ss g s (rule.define_const h e) = refl
rule-count kind ss g s (rule.define_const_list d l e) = refl
rule-count kind ss g s (rule.first_law d e) = refl
rule-count kind ss g s (rule.second_law d e) = refl
rule-count kind ss g s (rule.first_law_free d e) = refl
rule-count kind ss g s (rule.second_law_free d e) = refl

-- where a rule isn't `proveHyp`, all premises are needed
pub nothing-other : (kind : StepKind) (ss : List Sequent) → (kind ≡ kinds.ProveHyp → ⊥) → proves_nothing kind ss ≡ false
nothing-other kinds.ProveHyp ss n = absurd (n refl)
nothing-other kinds.Refl ss n = refl
nothing-other kinds.Assume ss n = refl
nothing-other kinds.EqMp ss n = refl
nothing-other kinds.AbsThm ss n = refl
nothing-other kinds.AppThm ss n = refl
nothing-other kinds.DeductAntisym ss n = refl
nothing-other kinds.BetaConv ss n = refl
nothing-other kinds.Sym ss n = refl
nothing-other kinds.Trans ss n = refl
nothing-other kinds.Subst ss n = refl
nothing-other kinds.Axiom ss n = refl
nothing-other kinds.Restate ss n = refl
nothing-other kinds.DefineConst ss n = refl
nothing-other kinds.DefineConstList ss n = refl
nothing-other kinds.FirstLaw ss n = refl
nothing-other kinds.SecondLaw ss n = refl

-- and only `proveHyp` can prove nothing
pub nothing-kind : (kind : StepKind) (ss : List Sequent) → proves_nothing kind ss ≡ true → kind ≡ kinds.ProveHyp
nothing-kind kinds.ProveHyp ss e = refl
nothing-kind kinds.Refl ss e = absurd (cc)
nothing-kind kinds.Assume ss e = absurd (cc)
nothing-kind kinds.EqMp ss e = absurd (cc)
nothing-kind kinds.AbsThm ss e = absurd (cc)
nothing-kind kinds.AppThm ss e = absurd (cc)
nothing-kind kinds.DeductAntisym ss e = absurd (cc)
nothing-kind kinds.BetaConv ss e = absurd (cc)
nothing-kind kinds.Sym ss e = absurd (cc)
nothing-kind kinds.Trans ss e = absurd (cc)
nothing-kind kinds.Subst ss e = absurd (cc)
nothing-kind kinds.Axiom ss e = absurd (cc)
nothing-kind kinds.Restate ss e = absurd (cc)
nothing-kind kinds.DefineConst ss e = absurd (cc)
nothing-kind kinds.DefineConstList ss e = absurd (cc)
nothing-kind kinds.FirstLaw ss e = absurd (cc)
nothing-kind kinds.SecondLaw ss e = absurd (cc)

pub needed-all : (ss : List Sequent) (x : Step) → proves_nothing x.kind ss ≡ false → needed ss x ≡ x
needed-all ss x e = ap (λ b. cond b (restated x) x) e

pub needed-restated : (ss : List Sequent) (x : Step) → proves_nothing x.kind ss ≡ true → needed ss x ≡ restated x
needed-restated ss x e = ap (λ b. cond b (restated x) x) e

-- an equation that a step says
pub equation-step : (k : Kept) (id : ℕ) → IsEquation (sequent_at k.made id) → IsEquationStep k id
equation-step k id h = record { ty = h.ty; left = h.left; right = h.right; is = h.is }

-- only an assumption has no proof
pub row-other : (kind : StepKind) → (kind ≡ kinds.Axiom → ⊥) → has_row kind ≡ true
row-other kinds.Axiom n = absurd (n refl)
row-other kinds.Refl n = refl
row-other kinds.Assume n = refl
row-other kinds.EqMp n = refl
row-other kinds.AbsThm n = refl
row-other kinds.AppThm n = refl
row-other kinds.DeductAntisym n = refl
row-other kinds.BetaConv n = refl
row-other kinds.Sym n = refl
row-other kinds.Trans n = refl
row-other kinds.ProveHyp n = refl
row-other kinds.Subst n = refl
row-other kinds.Restate n = refl
row-other kinds.DefineConst n = refl
row-other kinds.DefineConstList n = refl
row-other kinds.FirstLaw n = refl
row-other kinds.SecondLaw n = refl

module _ (k : Kept) (id : ℕ) (l : id < step_count k) (p : IsProof k.made) where
  abbrev x : Step
  x = step_at k.made id

  pub kind-count : (kind : StepKind) → x.kind ≡ kind → length x.premises ≡ premise_count kind
  kind-count kind e = sym (length-map x.premises (sequent_at k.made)) ∙ rule-count x.kind (map (sequent_at k.made) x.premises) x.parameters
      (sequent_at k.made id) (step-rule k.made p id l) ∙ ap premise_count e

  pub rule-of : (kind : StepKind) → x.kind ≡ kind → Rule kind (map (sequent_at k.made) x.premises) x.parameters (sequent_at k.made id)
  rule-of kind e = subst (λ w. Rule w (map (sequent_at k.made) x.premises) x.parameters (sequent_at k.made id)) e (step-rule k.made p id l)

  pub rule-one : (kind : StepKind) (j : ℕ) → x.kind ≡ kind → x.premises ≡ j ∷ [] → Rule kind (sequent_at k.made j ∷ []) x.parameters (sequent_at k.made id)
  rule-one kind j e is = subst (λ ns. Rule kind (map (sequent_at k.made) ns) x.parameters (sequent_at k.made id)) is (rule-of kind e)

  pub rule-two : (kind : StepKind) (i j : ℕ) → x.kind ≡ kind → x.premises ≡ i ∷ j ∷ []
      → Rule kind (sequent_at k.made i ∷ sequent_at k.made j ∷ []) x.parameters (sequent_at k.made id)
  rule-two kind i j e is = subst (λ ns. Rule kind (map (sequent_at k.made) ns) x.parameters (sequent_at k.made id)) is (rule-of kind e)

  pub one-below : (j : ℕ) → x.premises ≡ j ∷ [] → j < id
  one-below j is = (subst (AllByRecursion (λ i. i < id)) is (premises-below k.made p id l)).0

  pub two-below : (i j : ℕ) → x.premises ≡ i ∷ j ∷ [] → (i < id) × (j < id)
  two-below i j is = let h = subst (AllByRecursion (λ i. i < id)) is (premises-below k.made p id l) in (h.0, h.1.0)

  -- what is told of a step and its premises
  module _ (d : List Declaration) (tables : SymbolMap) (h : TellsProof d tables k.made x) where
    pub own-told : TellsSequent d tables (sequent_at k.made id)
    own-told = subst (TellsSequent d tables) (step-sequent k.made p id l) h.own

    pub one-told : (j : ℕ) → x.premises ≡ j ∷ [] → TellsSequent d tables (sequent_at k.made j)
    one-told j is = (subst (λ ns. AllByRecursion (TellsSequent d tables) (map (sequent_at k.made) ns)) is h.premises).0

    pub first-told : (i j : ℕ) → x.premises ≡ i ∷ j ∷ [] → TellsSequent d tables (sequent_at k.made i)
    first-told i j is = (subst (λ ns. AllByRecursion (TellsSequent d tables) (map (sequent_at k.made) ns)) is h.premises).0

    pub second-told : (i j : ℕ) → x.premises ≡ i ∷ j ∷ [] → TellsSequent d tables (sequent_at k.made j)
    second-told i j is = (subst (λ ns. AllByRecursion (TellsSequent d tables) (map (sequent_at k.made) ns)) is h.premises).1.0

  pub restated-told : (d : List Declaration) (tables : SymbolMap) (i j : ℕ) → x.premises ≡ i ∷ j ∷ []
      → proves_nothing x.kind (map (sequent_at k.made) x.premises) ≡ true → TellsProof d tables k.made (needed_at k.made id)
      → TellsSequent d tables (sequent_at k.made j)
  restated-told d tables i j are e h =
      let own = subst (TellsProof d tables k.made) (needed-restated (map (sequent_at k.made) x.premises) x e) h in
      (subst (λ ns. AllByRecursion (TellsSequent d tables) (map (sequent_at k.made) (drop 1 ns))) are own.premises).0

  -- the proof terms, by the symbols of premises
  module _ (tables : SymbolMap) (scope : Scope) where
    pub tree-kind : (kind : StepKind) → x.kind ≡ kind → (js : List ℕ) (ss : List Sequent) → proof_tree tables scope kind js ss x.parameters
        ≡ proof_tree tables scope x.kind js ss x.parameters
    tree-kind kind e js ss = sym (ap (λ w. proof_tree tables scope w js ss x.parameters) e)

    module _ (numbers : List ℕ) where
      abbrev tree_over : List ℕ → Tree
      tree_over ns = proof_tree tables scope x.kind (map (symbol_in numbers) ns) (map (sequent_at k.made) ns) x.parameters

      pub tree-plain : (kind : StepKind) → x.kind ≡ kind → premise_count kind ≡ 0 → proof_tree tables scope kind [] [] x.parameters
          ≡ rule_tree tables scope numbers k.made x
      tree-plain kind e none = tree-kind kind e [] [] ∙ ap tree_over (sym (nil_from_length x.premises (kind-count kind e ∙ none)))

      pub tree-one : (kind : StepKind) → x.kind ≡ kind → (one : Premise) → IsOne k numbers id one
          → proof_tree tables scope kind (one.symbol ∷ []) (sequent_at k.made one.id ∷ []) x.parameters ≡ rule_tree tables scope numbers k.made x
      tree-one kind e one h =
          tree-kind kind e (one.symbol ∷ []) (sequent_at k.made one.id ∷ [])
          ∙ ap (λ j. proof_tree tables scope x.kind (j ∷ []) (sequent_at k.made one.id ∷ []) x.parameters) h.first.symbol ∙ sym (ap tree_over h.is)

      pub tree-two : (kind : StepKind) → x.kind ≡ kind → (one two : Premise) → AreTwo k numbers id one two
          → proof_tree tables scope kind (one.symbol ∷ two.symbol ∷ []) (sequent_at k.made one.id ∷ sequent_at k.made two.id ∷ []) x.parameters
          ≡ rule_tree tables scope numbers k.made x
      tree-two kind e one two h =
          tree-kind kind e (one.symbol ∷ two.symbol ∷ []) (sequent_at k.made one.id ∷ sequent_at k.made two.id ∷ [])
          ∙ (λ i. proof_tree tables scope x.kind (h.first.symbol i ∷ h.second.symbol i ∷ []) (sequent_at k.made one.id ∷ sequent_at k.made two.id ∷ [])
          x.parameters)
          ∙ sym (ap tree_over h.are)

      -- a premise alone, where the first proves nothing
      pub tree-restated : (one two : Premise) → AreTwo k numbers id one two → proves_nothing x.kind (map (sequent_at k.made) x.premises) ≡ true
          → theorem_tree scope two.symbol (sequent_at k.made two.id) ≡ rule_tree tables scope numbers k.made (needed_at k.made id)
      tree-restated one two h e =
          ap (λ j. theorem_tree scope j (sequent_at k.made two.id)) h.second.symbol
          ∙ sym (ap (λ ns. rule_tree tables scope numbers k.made
          (record { kind = kinds.Restate; premises = drop 1 ns; parameters = Parameters.sequent x.sequent; sequent = x.sequent })) h.are)
          ∙ sym (ap (rule_tree tables scope numbers k.made) (needed-restated (map (sequent_at k.made) x.premises) x e))
