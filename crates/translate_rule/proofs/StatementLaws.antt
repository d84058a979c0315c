-- The type of a step's declaration: the domains of its binders, made outside the binders of their kind and lifted, and the products over them.
use Rattle.std.proofs.Common.{◌≡◌, ℕ, suc, ◌+◌, ◌-◌, ◌<◌, ◌≤◌, refl, sym, ap, subst, ◌∙◌, arith, List, [], ◌∷◌, ◌++◌, map, length, get_or, take}
use Rattle.std.specs.Prelude.{replicate}
use Rattle.std.specs.List.{AllByRecursion, flat_map}
use Rattle.std.proofs.lemmas.List.{append-nil, drop_all, drop_more, map-append, take-append-drop}
use Rattle.std.proofs.Math.Path.{ap₂}
use Rattle.hol_spec.specs.Names.{Name}
use Rattle.hol_spec.specs.NameEquality.{name_eq}
use Rattle.hol_spec.specs.Lists.{distinct}
use Rattle.hol_spec.specs.Primitives.{bool}
use Rattle.hol_spec.specs.Types.{HolType}
use Rattle.hol_spec.specs.Terms.{Term, Variable, variable_eq, HasType, type_variable_places, free_places}
use Rattle.hol_spec.specs.Terms as term
use Rattle.hol_spec.specs.Sequents.{Sequent, IsSequent, terms_of, type_variables_of, free_variables_of}
use Rattle.hol_laws.specs.Members.{All-append, All-at, All-each, IsIn-distinct_of}
use Rattle.hol_laws.specs.TermLaws.{variable_eq-Decides}
use Rattle.hol_laws.specs.TermTyping.{loose-typed}
use Rattle.hol_term.specs.declared.TermId.{TermId}
use Rattle.hol_term.specs.declared.Variable.{Variable as AVariable}
use Rattle.hol_term.specs.Subterms.{HaveTypes, variables_of}
use Rattle.hol_term.specs.Tables.{Trees, term_at, terms_at, type_at, AreKnown}
use Rattle.lp_spec.specs.Trees.{Tree, App, Lam, Pi, Sym, lift}
use Rattle.lp_spec.specs.Modules.{Declaration, products, proof_of, proof_symbol, term_of, term_symbol, types}
use Rattle.lp_binding_laws.specs.Binding.{lift-lift}
use Rattle.lp_binding_laws.specs.Composition.{lift_zero}
use Rattle.translate_laws.specs.ScopeLaws.{type_tree-lift, term_tree-lift}
use Rattle.translate_spec.specs.Scopes.{SymbolMap, TypeScope, Scope, type_tree, term_tree, lifted, lifted_types, inside, under_term, under_proof, term_domains, proof_domains, scope_of_types, scope_of_terms, conclusion_tree, sequent_tree}
use Rattle.translate_term.specs.Told.{TellsType, TellsTerm}
use Rattle.translate_proof.specs.Environments.{Given, IsTold}
use Rattle.translate_proof.specs.Told.{TellsSequent}
use Rattle.translate_rule.specs.Domains.{lifted_domains}
use Rattle.translate_rule.proofs.GenericLaws.{binders-of}

-- A term's tree owes nothing to what proves hypotheses
abbrev with_proofs : Scope → (Term → Tree) → Scope
with_proofs scope proofs = record { types = scope.types; terms = scope.terms; proofs = proofs; bounds = scope.bounds }

term_tree-proofs : (symbols : SymbolMap) (scope : Scope) (proofs : Term → Tree) (t : Term) → term_tree symbols (with_proofs scope proofs) t
    ≡ term_tree symbols scope t
term_tree-proofs symbols scope proofs (term.Term.free n t) = refl
term_tree-proofs symbols scope proofs (term.Term.bound k) = refl
term_tree-proofs symbols scope proofs (term.Term.constant n t) = refl
term_tree-proofs symbols scope proofs (term.Term.app f x) = ap₂ App (term_tree-proofs symbols scope proofs f) (term_tree-proofs symbols scope proofs x)
term_tree-proofs symbols scope proofs (term.Term.lam t b) =
    ap (Lam (term_of (type_tree symbols scope.types t))) (term_tree-proofs symbols (inside scope) (λ h. lift 1 (proofs h)) b)

lift-suc : (k : ℕ) (x : Tree) → lift 1 (lift k x) ≡ lift (suc k) x
lift-suc k x = lift-lift 1 k x ∙ ap (λ j. lift j x) (let e : 1 + k ≡ suc k = omega arith in e)

-- the domains of hypotheses, and of free variables, are made outside all of them and lifted
module _ (symbols : SymbolMap) where
  proof_domains-lifted : (base scope : Scope) (k : ℕ) → ((t : Term) → term_tree symbols scope t ≡ lift k (term_tree symbols base t)) → (hs : List Term)
      → proof_domains symbols hs scope ≡ lifted_domains proof_symbol (term_tree symbols base) k hs
  proof_domains-lifted base scope k e [] = refl
  proof_domains-lifted base scope k e (h ∷ hs) = ap₂ (λ a rest. proof_of a ∷ rest) (e h) (proof_domains-lifted base (under_proof h scope) (suc k) under hs)
    where
      under : (t : Term) → term_tree symbols (under_proof h scope) t ≡ lift (suc k) (term_tree symbols base t)
      under t = term_tree-proofs symbols (lifted scope) (under_proof h scope).proofs t ∙ sym (term_tree-lift symbols scope t) ∙ ap (lift 1) (e t)
          ∙ lift-suc k (term_tree symbols base t)

  pub proof_domains-outside : (scope : Scope) (hs : List Term) → lifted_domains proof_symbol (term_tree symbols scope) 0 hs ≡ proof_domains symbols hs scope
  proof_domains-outside scope hs = sym (proof_domains-lifted scope scope 0 (λ t. sym (lift_zero (term_tree symbols scope t))) hs)

  term_domains-lifted : (base : TypeScope) (scope : Scope) (k : ℕ) → ((a : HolType) → type_tree symbols scope.types a ≡ lift k (type_tree symbols base a))
      → (vs : List Variable)
      → term_domains symbols vs scope ≡ lifted_domains term_symbol (λ (v : Variable). type_tree symbols base v.1) k vs
  term_domains-lifted base scope k e [] = refl
  term_domains-lifted base scope k e (v ∷ vs) = ap₂ (λ a rest. term_of a ∷ rest) (e v.1) (term_domains-lifted base (under_term v scope) (suc k) under vs)
    where
      under : (a : HolType) → type_tree symbols (lifted_types scope.types) a ≡ lift (suc k) (type_tree symbols base a)
      under a = sym (type_tree-lift symbols scope.types a) ∙ ap (lift 1) (e a) ∙ lift-suc k (type_tree symbols base a)

  pub term_domains-outside : (scope : Scope) (vs : List Variable) → lifted_domains term_symbol (λ (v : Variable). type_tree symbols scope.types v.1) 0 vs
      ≡ term_domains symbols vs scope
  term_domains-outside scope vs = sym (term_domains-lifted scope.types scope 0 (λ a. sym (lift_zero (type_tree symbols scope.types a))) vs)

products-append : (xs ys : List Tree) (t : Tree) → products (xs ++ ys) t ≡ products xs (products ys t)
products-append [] ys t = refl
products-append (x ∷ xs) ys t = ap (Pi x) (products-append xs ys t)

-- the product over the type variables of the product over the free variables of the product over the hypotheses
pub sequent_tree-products : (symbols : SymbolMap) (s : Sequent) (count : ℕ) → count ≡ length (type_variables_of s)
    → products (replicate count types)
    (products (term_domains symbols (free_variables_of s) (scope_of_types symbols s))
    (products (proof_domains symbols s.hypotheses (scope_of_terms symbols s)) (conclusion_tree symbols s))) ≡ sequent_tree symbols s
sequent_tree-products symbols s count e =
    let A = map (λ (n : Name). types) (type_variables_of s) in
    let B = term_domains symbols (free_variables_of s) (scope_of_types symbols s) in
    let C = proof_domains symbols s.hypotheses (scope_of_terms symbols s) in
    let t = conclusion_tree symbols s in
    ap (λ D. products D (products B (products C t))) (ap (λ n. replicate n types) e ∙ binders-of (type_variables_of s))
    ∙ sym (products-append A B (products C t))
    ∙ sym (products-append (A ++ B) C t)

-- a list is its front and its last item
pub front-last : {A : Type 0} (xs : List A) (d : A) → 1 ≤ length xs → take (length xs - 1) xs ++ get_or xs (length xs - 1) d ∷ [] ≡ xs
front-last xs d h =
    ap (λ l. take (length xs - 1) xs ++ l)
    (sym (drop_more xs (length xs - 1) d (omega (arith, h))
    ∙ ap (λ l. get_or xs (length xs - 1) d ∷ l) (drop_all (length xs - 1 + 1) xs (omega (arith, h)))))
    ∙ take-append-drop (length xs - 1) xs

pub front-item : {A : Type 0} (xs : List A) (x : A) → x ≡ get_or xs (length xs - 1) x → 1 ≤ length xs → take (length xs - 1) xs ++ x ∷ [] ≡ xs
front-item xs x e h = ap (λ y. take (length xs - 1) xs ++ y ∷ []) e ∙ front-last xs x h

pub no-item : {A : Type 0} (xs : List A) → length xs < 1 → xs ≡ []
no-item [] h = refl
no-item (x ∷ xs) h = absurd (omega (arith, h))

-- a product over one domain more
module _ {A : Type 0} (P : A → Type 0) (symbol : ℕ) (tree : A → Tree) where
  products-last : (k : ℕ) (xs : List A) (x : A) (t : Tree) → products (lifted_domains symbol tree k (xs ++ x ∷ [])) t
      ≡ products (lifted_domains symbol tree k xs) (Pi (App (Sym symbol) (lift (k + length xs) (tree x))) t)
  products-last k [] x t = let e : k ≡ k + 0 = omega arith in ap (λ j. Pi (App (Sym symbol) (lift j (tree x))) t) e
  products-last k (y ∷ ys) x t =
      let e : suc k + length ys ≡ k + suc (length ys) = omega arith in
      ap (Pi (App (Sym symbol) (lift k (tree y))))
      (products-last (suc k) ys x t ∙ ap (λ j. products (lifted_domains symbol tree (suc k) ys) (Pi (App (Sym symbol) (lift j (tree x))) t)) e)

  -- how far the domains are folded: the product that is made, over those that are left, is what is wanted
  pub record IsFolded (rest : List A) (made wanted : Tree) : Type 0 where
    pub each : AllByRecursion P rest
    pub is : products (lifted_domains symbol tree 0 rest) made ≡ wanted

  pub folded-last : (rest front : List A) (x : A) (made wanted : Tree) → front ++ x ∷ [] ≡ rest → IsFolded rest made wanted → P x
  folded-last rest front x made wanted e h = go front (subst (AllByRecursion P) (sym e) h.each)
    where
      go : (xs : List A) → AllByRecursion P (xs ++ x ∷ []) → P x
      go [] k = k.0
      go (y ∷ ys) k = go ys k.1

  pub folded-more : (rest front : List A) (x : A) (count : ℕ) (made next wanted : Tree) → front ++ x ∷ [] ≡ rest → count ≡ length front → next
      ≡ Pi (App (Sym symbol) (lift count (tree x))) made → IsFolded rest made wanted → IsFolded front next wanted
  folded-more rest front x count made next wanted e c n h = record {
    each = go front (subst (AllByRecursion P) (sym e) h.each);
    is =
        ap (products (lifted_domains symbol tree 0 front)) (n ∙ ap (λ j. Pi (App (Sym symbol) (lift j (tree x))) made) (omega (arith, c)))
        ∙ sym (products-last 0 front x made)
        ∙ ap (λ xs. products (lifted_domains symbol tree 0 xs) made) e
        ∙ h.is;
  }
    where
      go : (xs : List A) → AllByRecursion P (xs ++ x ∷ []) → AllByRecursion P xs
      go [] k = tt
      go (y ∷ ys) k = (k.0, go ys k.1)

  pub folded-end : (rest : List A) (made wanted : Tree) → rest ≡ [] → IsFolded rest made wanted → made ≡ wanted
  folded-end rest made wanted e h = ap (λ xs. products (lifted_domains symbol tree 0 xs) made) (sym e) ∙ h.is

-- the terms, and the variables, of a list are those of its front and of its last item
module _ (trees : Trees) where
  pub terms-last : (front rest : List TermId) (x : TermId) → front ++ x ∷ [] ≡ rest → terms_at trees front ++ term_at trees x.0 ∷ [] ≡ terms_at trees rest
  terms-last front rest x e = sym (map-append (λ (i : TermId). term_at trees i.0) front (x ∷ [])) ∙ ap (terms_at trees) e

  pub variables-last : (front rest : List AVariable) (x : AVariable) → front ++ x ∷ [] ≡ rest → variables_of trees front ++ (x.name, type_at trees x.ty.0) ∷ []
      ≡ variables_of trees rest
  variables-last front rest x e = go front ∙ ap (variables_of trees) e
    where
      go : (vs : List AVariable) → variables_of trees vs ++ (x.name, type_at trees x.ty.0) ∷ [] ≡ variables_of trees (vs ++ x ∷ [])
      go [] = refl
      go (v ∷ vs) = ap (λ l. (v.name, type_at trees v.ty.0) ∷ l) (go vs)

  pub known-split : (front rest : List TermId) (x : TermId) → front ++ x ∷ [] ≡ rest → AreKnown trees rest → AreKnown trees front × (x.0 < length trees.terms)
  known-split front rest x e h = go front (subst (AreKnown trees) (sym e) h)
    where
      go : (xs : List TermId) → AreKnown trees (xs ++ x ∷ []) → AreKnown trees xs × (x.0 < length trees.terms)
      go [] k = (tt, k.0)
      go (y ∷ ys) k = let r = go ys k.1 in ((k.0, r.0), r.1)

  pub types-split : (front rest : List AVariable) (x : AVariable) → front ++ x ∷ [] ≡ rest → HaveTypes trees rest → HaveTypes trees front
      × (x.ty.0 < length trees.types)
  types-split front rest x e h = go front (subst (HaveTypes trees) (sym e) h)
    where
      go : (xs : List AVariable) → HaveTypes trees (xs ++ x ∷ []) → HaveTypes trees xs × (x.ty.0 < length trees.types)
      go [] k = (tt, k.0)
      go (y ∷ ys) k = let r = go ys k.1 in ((k.0, r.0), r.1)

-- What a sequent tells of its terms and of its free variables
free_types-told : (declarations : List Declaration) (symbols : SymbolMap) (t : Term) → TellsTerm declarations symbols t
    → AllByRecursion (λ (v : Variable). TellsType declarations symbols v.1) (free_places t)
free_types-told d symbols (term.Term.free n t) h = (h, tt {0})
free_types-told d symbols (term.Term.bound k) h = tt
free_types-told d symbols (term.Term.constant n t) h = tt
free_types-told d symbols (term.Term.app f x) h = All-append _ (free_places f) (free_places x) (free_types-told d symbols f h.0)
    (free_types-told d symbols x h.1)
free_types-told d symbols (term.Term.lam t b) h = free_types-told d symbols b h.1

all_free_types-told : (declarations : List Declaration) (symbols : SymbolMap) (ts : List Term) → AllByRecursion (TellsTerm declarations symbols) ts
    → AllByRecursion (λ (v : Variable). TellsType declarations symbols v.1) (flat_map free_places ts)
all_free_types-told d symbols [] h = tt
all_free_types-told d symbols (t ∷ ts) h = All-append _ (free_places t) (flat_map free_places ts) (free_types-told d symbols t h.0)
    (all_free_types-told d symbols ts h.1)

pub variables-told : (declarations : List Declaration) (symbols : SymbolMap) (s : Sequent) → TellsSequent declarations symbols s
    → AllByRecursion (λ (v : Variable). TellsType declarations symbols v.1) (free_variables_of s)
variables-told d symbols s h =
    All-each _ (free_variables_of s) (λ v i. All-at _ (flat_map free_places (terms_of s)) v
    (all_free_types-told d symbols (terms_of s) (All-append (TellsTerm d symbols) s.hypotheses (s.conclusion ∷ []) h.hypotheses (h.conclusion, tt {0})))
    (IsIn-distinct_of variable_eq variable_eq-Decides (flat_map free_places (terms_of s)) v i))

-- what is typed and told is told
formula-told : (given : Given) (t : Term) → HasType t bool → TellsTerm given.declarations given.symbols t → IsTold given t
formula-told given t typed told = record { told = told; closed = loose-typed [] t bool typed }

pub conclusion-told : (given : Given) (s : Sequent) → IsSequent s → TellsSequent given.declarations given.symbols s → IsTold given s.conclusion
conclusion-told given s is told = formula-told given s.conclusion is.conclusion told.conclusion

pub hypotheses-told : (given : Given) (s : Sequent) → IsSequent s → TellsSequent given.declarations given.symbols s → AllByRecursion (IsTold given) s.hypotheses
hypotheses-told given s is told = go s.hypotheses is.hypotheses told.hypotheses
  where
    go : (hs : List Term) → AllByRecursion (λ h. HasType h bool) hs → AllByRecursion (TellsTerm given.declarations given.symbols) hs
        → AllByRecursion (IsTold given) hs
    go [] h k = tt
    go (t ∷ ts) h k = (formula-told given t h.0 k.0, go ts h.1 k.1)

-- A sequent without hypotheses that has the parameters of another
abbrev pub joined : List Term → Term → Term
joined [] c = c
joined (h ∷ hs) c = term.Term.app h (joined hs c)

abbrev pub without_hypotheses : Sequent → Sequent
without_hypotheses s = record { hypotheses = []; conclusion = joined s.hypotheses s.conclusion }

module _ {B : Type 0} (places : Term → List B) (split : (f x : Term) → places (term.Term.app f x) ≡ places f ++ places x) where
  joined-places : (hs : List Term) (c : Term) → flat_map places (joined hs c ∷ []) ≡ flat_map places (hs ++ c ∷ [])
  joined-places [] c = refl
  joined-places (h ∷ hs) c =
      append-nil (places (joined (h ∷ hs) c)) ∙ split h (joined hs c) ∙ ap (λ l. places h ++ l) (sym (append-nil (places (joined hs c))) ∙ joined-places hs c)

pub type_variables-joined : (s : Sequent) → type_variables_of (without_hypotheses s) ≡ type_variables_of s
type_variables-joined s = ap (distinct name_eq) (joined-places type_variable_places (λ f x. refl) s.hypotheses s.conclusion)

pub free_variables-joined : (s : Sequent) → free_variables_of (without_hypotheses s) ≡ free_variables_of s
free_variables-joined s = ap (distinct variable_eq) (joined-places free_places (λ f x. refl) s.hypotheses s.conclusion)
