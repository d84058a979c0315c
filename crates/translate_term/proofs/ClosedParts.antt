-- The parts of a closed sequent one after another, from the last to the first.
use Rattle.std.proofs.Common.{◌≡◌, ℕ, zero, suc, ◌+◌, ◌<◌, List, [], ◌∷◌, ◌++◌, map, length, refl, sym, ap, subst, ◌∙◌, arith}
use Rattle.std.specs.Prelude.{replicate}
use Rattle.std.proofs.lemmas.List.{map_push}
use Rattle.hol_laws.specs.RenamingLaws.{length_map}
use Rattle.std.proofs.Math.Path.{ap₂}
use Rattle.common.specs.Binding.{Pairwise}
use Rattle.hol_spec.specs.Types.{HolType}
use Rattle.hol_spec.specs.Terms.{Term}
use Rattle.hol_spec.specs.ClosedForm as form
use Rattle.lp_spec.specs.Trees.{Tree, Sym, App, Pi}
use Rattle.lp_spec.specs.Modules.{products, types, term_of, proof_of}
use Rattle.lp_term.specs.declared.LpId.{LpId}
use Rattle.lp_term.specs.Tables.{tree_at, Holds, Keeps}
use Rattle.lp_term.specs.TableLaws.{Holds-tree_at, tree_at-Stays}
use Rattle.holide_sig.specs.declared.module.Module.{Module}
use Rattle.translate_spec.specs.Scopes.{type_tree, term_tree}
use Rattle.sequent.specs.declared.closed.ClosedType.{ClosedType}
use Rattle.sequent.specs.declared.closed.ClosedTerm.{ClosedTerm}
use Rattle.sequent.specs.Closed.{closed_type_view, closed_term_view}
use Rattle.translate_term.specs.Closed.{Numbered, types_under, scope_under, IsInside, IsTypeOf, IsTermOf, IsNumbered, IsTypeToMake, IsTermToMake, hypothesis_domains, variable_domains}
use Rattle.translate_term.proofs.ClosedTurns.{IsNumbered-names}

-- The last of two lists that go together.
pub record EndsIn {A B : Type 0} (P : A → B → Type 0) (front : List A) (x : A) (ts : List B) : Type 0 where
  pub others : List B
  pub last : B
  pub is : ts ≡ others ++ last ∷ []
  pub all : Pairwise P front others
  pub of : P x last

pub pairwise-last : {A B : Type 0} (P : A → B → Type 0) (front : List A) (x : A) (ts : List B) → Pairwise P (front ++ x ∷ []) ts → EndsIn P front x ts
pairwise-last P [] x [] h = absurd h
pairwise-last P [] x (t ∷ []) h = record { others = []; last = t; is = refl; all = tt; of = h.0 }
pairwise-last P [] x (t ∷ u ∷ us) h = absurd h.1
pairwise-last P (y ∷ ys) x [] h = absurd h
pairwise-last P (y ∷ ys) x (t ∷ ts) h =
    let e = pairwise-last P ys x ts h.1 in
    record { others = t ∷ e.others; last = e.last; is = ap (λ l. t ∷ l) e.is; all = (h.0, e.all); of = e.of }

pub pairwise-length : {A B : Type 0} (P : A → B → Type 0) (xs : List A) (ys : List B) → Pairwise P xs ys → length ys ≡ length xs
pairwise-length P [] [] h = refl
pairwise-length P [] (y ∷ ys) h = absurd h
pairwise-length P (x ∷ xs) [] h = absurd h
pairwise-length P (x ∷ xs) (y ∷ ys) h = ap suc (pairwise-length P xs ys h.1)

-- a product over one more part
pub product_made : (t0 t1 t2 : List Tree) (part product made : LpId) (x : Tree) (head : ℕ) → Keeps t0 t1 → product.0 < length t0 → Holds t1 part.0 x
    → Holds t2 made.0 (Pi (App (Sym head) (tree_at t1 part.0)) (tree_at t1 product.0))
    → tree_at t2 made.0 ≡ Pi (App (Sym head) x) (tree_at t0 product.0)
product_made t0 t1 t2 part product made x head k known h p =
    Holds-tree_at t2 made.0 _ p ∙ ap₂ (λ a b. Pi (App (Sym head) a) b) (Holds-tree_at t1 part.0 x h) (sym (tree_at-Stays k.stays product.0 known))

module _ (given : Numbered) where
  domains-last : (depth : ℕ) (hs : List Term) (h : Term) (t : Tree)
      → products (hypothesis_domains given depth (hs ++ h ∷ [])) t
      ≡ products (hypothesis_domains given depth hs) (Pi (proof_of (term_tree given.symbols (scope_under given (depth + length hs)) h)) t)
  domains-last depth [] h t = let e : depth ≡ depth + 0 = omega arith in ap (λ d. Pi (proof_of (term_tree given.symbols (scope_under given d) h)) t) e
  domains-last depth (x ∷ xs) h t =
      let e : suc depth + length xs ≡ depth + suc (length xs) = omega arith in
      ap (Pi (proof_of (term_tree given.symbols (scope_under given depth) x)))
      (domains-last (suc depth) xs h t ∙ ap
      (λ d. products (hypothesis_domains given (suc depth) xs) (Pi (proof_of (term_tree given.symbols (scope_under given d) h)) t)) e)

  variables-last : (depth : ℕ) (ts : List HolType) (a : HolType) (t : Tree)
      → products (variable_domains given depth (ts ++ a ∷ [])) t
      ≡ products (variable_domains given depth ts) (Pi (term_of (type_tree given.symbols (types_under given (depth + length ts)) a)) t)
  variables-last depth [] a t = let e : depth ≡ depth + 0 = omega arith in ap (λ d. Pi (term_of (type_tree given.symbols (types_under given d) a)) t) e
  variables-last depth (x ∷ xs) a t =
      let e : suc depth + length xs ≡ depth + suc (length xs) = omega arith in
      ap (Pi (term_of (type_tree given.symbols (types_under given depth) x)))
      (variables-last (suc depth) xs a t ∙ ap
      (λ d. products (variable_domains given (suc depth) xs) (Pi (term_of (type_tree given.symbols (types_under given d) a)) t)) e)

  -- Hypotheses: those that are left give, over what was made, the whole product.
  pub record HypothesesLeft (outside : ℕ) (closed : List form.ClosedTerm) (product goal : Tree) : Type 0 where
    pub left : List Term
    pub are : Pairwise (IsTermOf given) closed left
    pub is : products (hypothesis_domains given outside left) product ≡ goal

  -- the last of them
  pub record HypothesisNext (outside : ℕ) (front : List ClosedTerm) (x : ClosedTerm) (depth : ℕ) (product goal : Tree) : Type 0 where
    pub term : Term
    pub of : IsTermOf given (closed_term_view x) term
    pub left : List Term
    pub are : Pairwise (IsTermOf given) (map closed_term_view front) left
    pub is : products (hypothesis_domains given outside left) (Pi (proof_of (term_tree given.symbols (scope_under given depth) term)) product) ≡ goal

  pub hypothesis_next : (outside : ℕ) (rest front : List ClosedTerm) (x : ClosedTerm) (depth : ℕ) (product goal : Tree) → front ++ x ∷ [] ≡ rest → depth
      ≡ outside + length front → HypothesesLeft outside (map closed_term_view rest) product goal
      → HypothesisNext outside front x depth product goal
  hypothesis_next outside rest front x depth product goal e d h =
      let split : map closed_term_view rest ≡ map closed_term_view front ++ closed_term_view x ∷ [] =
      ap (map closed_term_view) (sym e) ∙ map_push closed_term_view front x in
      let ends = pairwise-last (IsTermOf given) (map closed_term_view front) (closed_term_view x) h.left
      (subst (λ l. Pairwise (IsTermOf given) l h.left) split h.are) in
      let count = pairwise-length (IsTermOf given) (map closed_term_view front) ends.others ends.all in
      let same = length_map closed_term_view front in
      let at : outside + length ends.others ≡ depth = omega (arith, d, count, same) in
      record {
        term = ends.last;
        of = ends.of;
        left = ends.others;
        are = ends.all;
        is = ap (λ k. products (hypothesis_domains given outside ends.others) (Pi (proof_of (term_tree given.symbols (scope_under given k) ends.last)) product))
            (sym at)
            ∙ sym (domains-last outside ends.others ends.last product)
            ∙ ap (λ l. products (hypothesis_domains given outside l) product) (sym ends.is)
            ∙ h.is;
      }

  pub term_start : (m : Module) (k : ℕ) (x : ClosedTerm) (depth : ℕ) (t : Term) → IsNumbered given m k → IsInside given depth
      → IsTermOf given (closed_term_view x) t → IsTermToMake given t m k (closed_term_view x) depth
  term_start m k x depth t numbered within of = record { numbered = numbered; of = of; inside = within }

  pub type_start : (m : Module) (k : ℕ) (x : ClosedType) (t : HolType) → IsNumbered given m k → IsTypeOf given (closed_type_view x) t
      → IsTypeToMake given t m (closed_type_view x)
  type_start m k x t numbered of = record { numbered = IsNumbered-names numbered; of = of }

  pub hypotheses_goes_on : (outside : ℕ) (front : List ClosedTerm) (x : ClosedTerm) (depth : ℕ) (product goal made : Tree)
      → (n : HypothesisNext outside front x depth product goal) → made ≡ Pi (proof_of (term_tree given.symbols (scope_under given depth) n.term)) product
      → HypothesesLeft outside (map closed_term_view front) made goal
  hypotheses_goes_on outside front x depth product goal made n e =
      record { left = n.left; are = n.are; is = ap (products (hypothesis_domains given outside n.left)) e ∙ n.is }

  pub hypotheses_end : (outside : ℕ) (rest : List ClosedTerm) (product goal : Tree) → rest ≡ []
      → HypothesesLeft outside (map closed_term_view rest) product goal → product ≡ goal
  hypotheses_end outside rest product goal e h = go h.left (subst (λ l. Pairwise (IsTermOf given) (map closed_term_view l) h.left) e h.are) h.is
    where
      go : (left : List Term) → Pairwise (IsTermOf given) [] left → products (hypothesis_domains given outside left) product ≡ goal → product ≡ goal
      go [] a is = is
      go (t ∷ ts) a is = absurd a

  -- Free variables likewise.
  pub record VariablesLeft (outside : ℕ) (closed : List form.ClosedType) (product goal : Tree) : Type 0 where
    pub left : List HolType
    pub are : Pairwise (IsTypeOf given) closed left
    pub is : products (variable_domains given outside left) product ≡ goal

  pub record VariableNext (outside : ℕ) (front : List ClosedType) (x : ClosedType) (depth : ℕ) (product goal : Tree) : Type 0 where
    pub ty : HolType
    pub of : IsTypeOf given (closed_type_view x) ty
    pub left : List HolType
    pub are : Pairwise (IsTypeOf given) (map closed_type_view front) left
    pub is : products (variable_domains given outside left) (Pi (term_of (type_tree given.symbols (types_under given depth) ty)) product) ≡ goal

  pub variable_next : (outside : ℕ) (rest front : List ClosedType) (x : ClosedType) (depth : ℕ) (product goal : Tree) → front ++ x ∷ [] ≡ rest → depth
      ≡ outside + length front → VariablesLeft outside (map closed_type_view rest) product goal
      → VariableNext outside front x depth product goal
  variable_next outside rest front x depth product goal e d h =
      let split : map closed_type_view rest ≡ map closed_type_view front ++ closed_type_view x ∷ [] =
      ap (map closed_type_view) (sym e) ∙ map_push closed_type_view front x in
      let ends = pairwise-last (IsTypeOf given) (map closed_type_view front) (closed_type_view x) h.left
      (subst (λ l. Pairwise (IsTypeOf given) l h.left) split h.are) in
      let count = pairwise-length (IsTypeOf given) (map closed_type_view front) ends.others ends.all in
      let same = length_map closed_type_view front in
      let at : outside + length ends.others ≡ depth = omega (arith, d, count, same) in
      record {
        ty = ends.last;
        of = ends.of;
        left = ends.others;
        are = ends.all;
        is = ap (λ k. products (variable_domains given outside ends.others) (Pi (term_of (type_tree given.symbols (types_under given k) ends.last)) product))
            (sym at)
            ∙ sym (variables-last outside ends.others ends.last product)
            ∙ ap (λ l. products (variable_domains given outside l) product) (sym ends.is)
            ∙ h.is;
      }

  pub variables_goes_on : (outside : ℕ) (front : List ClosedType) (x : ClosedType) (depth : ℕ) (product goal made : Tree)
      → (n : VariableNext outside front x depth product goal) → made ≡ Pi (term_of (type_tree given.symbols (types_under given depth) n.ty)) product
      → VariablesLeft outside (map closed_type_view front) made goal
  variables_goes_on outside front x depth product goal made n e =
      record { left = n.left; are = n.are; is = ap (products (variable_domains given outside n.left)) e ∙ n.is }

  pub variables_end : (outside : ℕ) (rest : List ClosedType) (product goal : Tree) → rest ≡ [] → VariablesLeft outside (map closed_type_view rest) product goal
      → product ≡ goal
  variables_end outside rest product goal e h = go h.left (subst (λ l. Pairwise (IsTypeOf given) (map closed_type_view l) h.left) e h.are) h.is
    where
      go : (left : List HolType) → Pairwise (IsTypeOf given) [] left → products (variable_domains given outside left) product ≡ goal → product ≡ goal
      go [] a is = is
      go (t ∷ ts) a is = absurd a

-- Type variables.
pub types-last : (k : ℕ) (t : Tree) → products (replicate k types) (Pi types t) ≡ products (replicate (suc k) types) t
types-last zero t = refl
types-last (suc k) t = ap (Pi types) (types-last k t)

pub types_step : (t0 t1 t2 : List Tree) (domain product made : LpId) (left after : ℕ) (goal : Tree) → Keeps t0 t1 → product.0 < length t0
    → Holds t1 domain.0 types → Holds t2 made.0 (Pi (tree_at t1 domain.0) (tree_at t1 product.0)) → left ≡ suc after
    → products (replicate left types) (tree_at t0 product.0) ≡ goal → products (replicate after types) (tree_at t2 made.0) ≡ goal
types_step t0 t1 t2 domain product made left after goal j known d p e is =
    ap (products (replicate after types)) (Holds-tree_at t2 made.0 _ p
    ∙ ap₂ Pi (Holds-tree_at t1 domain.0 types d) (sym (tree_at-Stays j.stays product.0 known)))
    ∙ types-last after (tree_at t0 product.0)
    ∙ ap (λ k. products (replicate k types) (tree_at t0 product.0)) (sym e)
    ∙ is

pub types_end : (left : ℕ) (t goal : Tree) → left ≡ 0 → products (replicate left types) t ≡ goal → t ≡ goal
types_end left t goal e is = ap (λ k. products (replicate k types) t) (sym e) ∙ is
