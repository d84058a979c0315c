-- What is found in a step is what it needs, and the names of its variables.
use Rattle.std.proofs.Common.{◌≡◌, ℕ, Bool, ◌||◌, List, [], ◌∷◌, ◌++◌, map, refl, sym, ap, ap₂, ◌∙◌}
use Rattle.std.specs.List.{flat_map, list_any}
use Rattle.std.proofs.lemmas.List.Folds.{list_any-append}
use Rattle.hol_spec.specs.Names.{Name}
use Rattle.hol_spec.specs.Types.{HolType, HolTypes}
use Rattle.hol_spec.specs.Terms.{Term, Variable, free_places}
use Rattle.hol_spec.specs.Sequents.{Sequent, terms_of}
use Rattle.hol_spec.specs.DefinitionLists.{variables_of}
use Rattle.hol_spec.specs.Rules.{Parameters}
use Rattle.hol_spec.specs.Proofs.{Step}
use Rattle.article_write_spec.specs.Mentions.{Need, need_eq, type_mentions, types_mention, term_mentions, sequent_mentions, given_mentions}
use Rattle.article_write_spec.specs.ReachedSteps.{needs}
use Rattle.article_write_spec.specs.BinderNames.{is_binder_name, given_variables, step_variables}
use Rattle.article_reach.specs.Found.{Found, Asked, is_found, type_found, types_found, term_found, sequent_found, given_found, steps_found, step_found}
use Rattle.article_reach.specs.Looked.{needs_found, names_found}
use Rattle.article_reach.proofs.Walked.{found-append}

abbrev names_in : List Variable → List Name
names_in vs = map (λ v. v.0) vs

-- what answers in lists
pub found-needs : (ns : List Need) (m : Need) → is_found (needs_found ns) (Asked.need m) ≡ list_any (need_eq m) ns
found-needs [] m = refl
found-needs (n ∷ ns) m = ap (λ b. need_eq m n || b) (found-needs ns m)

pub found-names : (ns : List Name) (q : ℕ) → is_found (names_found ns) (Asked.number q) ≡ list_any (is_binder_name q) ns
found-names [] q = refl
found-names (n ∷ ns) q = ap (λ b. is_binder_name q n || b) (found-names ns q)

any-parts : {A : Type 0} (p : A → Bool) (xs ys us vs : List A) → list_any p xs ≡ list_any p us → list_any p ys ≡ list_any p vs → list_any p (xs ++ ys)
    ≡ list_any p (us ++ vs)
any-parts p xs ys us vs e f = list_any-append p xs ys ∙ ap₂ (λ a b. a || b) e f ∙ sym (list_any-append p us vs)

names-append : (us vs : List Variable) → names_in (us ++ vs) ≡ names_in us ++ names_in vs
names-append [] vs = refl
names-append (u ∷ us) vs = ap (λ l. u.0 ∷ l) (names-append us vs)

-- What is needed
module _ (m : Need) where
  abbrev has : List Found → List Need → Type 0
  has fs ns = is_found fs (Asked.need m) ≡ list_any (need_eq m) ns

  both : (fs gs : List Found) (ns os : List Need) → has fs ns → has gs os → has (fs ++ gs) (ns ++ os)
  both fs gs ns os e f = found-append fs gs (Asked.need m) ∙ ap₂ (λ a b. a || b) e f ∙ sym (list_any-append (need_eq m) ns os)

  each : {A : Type 0} (f : A → List Found) (g : A → List Need) → ((x : A) → has (f x) (g x)) → (xs : List A) → has (flat_map f xs) (flat_map g xs)
  each f g h [] = refl
  each f g h (x ∷ xs) = both (f x) (flat_map f xs) (g x) (flat_map g xs) (h x) (each f g h xs)

  mutual
    type-needs : (t : HolType) → has (type_found t) (type_mentions t)
    type-needs (HolType.variable n) = refl
    type-needs (HolType.operator n ts) = ap (λ b. need_eq m (Need.operator n) || b) (types-needs ts)

    types-needs : (ts : HolTypes) → has (types_found ts) (types_mention ts)
    types-needs HolTypes.none = refl
    types-needs (HolTypes.more t ts) = both (type_found t) (types_found ts) (type_mentions t) (types_mention ts) (type-needs t) (types-needs ts)

  term-needs : (t : Term) → has (term_found t) (term_mentions t)
  term-needs (Term.free n a) = type-needs a
  term-needs (Term.bound k) = refl
  term-needs (Term.constant n a) = ap (λ b. need_eq m (Need.constant n) || b) (type-needs a)
  term-needs (Term.app f x) = both (term_found f) (term_found x) (term_mentions f) (term_mentions x) (term-needs f) (term-needs x)
  term-needs (Term.lam a b) = both (type_found a) (term_found b) (type_mentions a) (term_mentions b) (type-needs a) (term-needs b)

  sequent-needs : (s : Sequent) → has (sequent_found s) (sequent_mentions s)
  sequent-needs s = each term_found term_mentions term-needs (terms_of s)

  given-needs : (g : Parameters) → has (given_found g) (given_mentions g)
  given-needs Parameters.nothing = refl
  given-needs (Parameters.term t) = term-needs t
  given-needs (Parameters.variable v) = type-needs v.1
  given-needs (Parameters.substitution types terms) =
      both (flat_map (λ p. type_found p.1) types) (flat_map (λ p. Found.named p.0.0 ∷ type_found p.0.1 ++ term_found p.1) terms)
      (flat_map (λ p. type_mentions p.1) types)
      (flat_map (λ p. type_mentions p.0.1 ++ term_mentions p.1) terms) (each (λ p. type_found p.1) (λ p. type_mentions p.1) (λ p. type-needs p.1) types)
      (each (λ p. Found.named p.0.0 ∷ type_found p.0.1 ++ term_found p.1) (λ p. type_mentions p.0.1 ++ term_mentions p.1)
      (λ p. both (type_found p.0.1) (term_found p.1) (type_mentions p.0.1) (term_mentions p.1) (type-needs p.0.1) (term-needs p.1)) terms)
  given-needs (Parameters.sequent s) = sequent-needs s
  given-needs (Parameters.constant n t) = term-needs t
  given-needs (Parameters.constants pairs) = each (λ p. Found.named p.1.0 ∷ type_found p.1.1) (λ p. type_mentions p.1.1) (λ p. type-needs p.1.1) pairs
  given-needs (Parameters.type_operator names version) = refl

  steps-needs : (ids : List ℕ) → has (steps_found ids) (map Need.step ids)
  steps-needs [] = refl
  steps-needs (i ∷ ids) = ap (λ b. need_eq m (Need.step i) || b) (steps-needs ids)

  pub step-needs : (x : Step) → is_found (step_found x) (Asked.need m) ≡ list_any (need_eq m) (needs x)
  step-needs x =
      both (steps_found x.premises) (given_found x.parameters ++ sequent_found x.sequent) (map Need.step x.premises)
      (given_mentions x.parameters ++ sequent_mentions x.sequent) (steps-needs x.premises)
      (both (given_found x.parameters) (sequent_found x.sequent) (given_mentions x.parameters) (sequent_mentions x.sequent) (given-needs x.parameters)
      (sequent-needs x.sequent))

-- The names of variables
module _ (q : ℕ) where
  abbrev tells : List Found → List Variable → Type 0
  tells fs vs = is_found fs (Asked.number q) ≡ list_any (is_binder_name q) (names_in vs)

  two : (fs gs : List Found) (us vs : List Variable) → tells fs us → tells gs vs → tells (fs ++ gs) (us ++ vs)
  two fs gs us vs e f =
      found-append fs gs (Asked.number q) ∙ ap₂ (λ a b. a || b) e f ∙ sym (list_any-append (is_binder_name q) (names_in us) (names_in vs))
      ∙ ap (list_any (is_binder_name q)) (sym (names-append us vs))

  all : {A : Type 0} (f : A → List Found) (g : A → List Variable) → ((x : A) → tells (f x) (g x)) → (xs : List A) → tells (flat_map f xs) (flat_map g xs)
  all f g h [] = refl
  all f g h (x ∷ xs) = two (f x) (flat_map f xs) (g x) (flat_map g xs) (h x) (all f g h xs)

  mutual
    type-silent : (t : HolType) → tells (type_found t) []
    type-silent (HolType.variable n) = refl
    type-silent (HolType.operator n ts) = types-silent ts

    types-silent : (ts : HolTypes) → tells (types_found ts) []
    types-silent HolTypes.none = refl
    types-silent (HolTypes.more t ts) = two (type_found t) (types_found ts) [] [] (type-silent t) (types-silent ts)

  term-names : (t : Term) → tells (term_found t) (free_places t)
  term-names (Term.free n a) = ap (λ b. is_binder_name q n || b) (type-silent a)
  term-names (Term.bound k) = refl
  term-names (Term.constant n a) = type-silent a
  term-names (Term.app f x) = two (term_found f) (term_found x) (free_places f) (free_places x) (term-names f) (term-names x)
  term-names (Term.lam a b) = two (type_found a) (term_found b) [] (free_places b) (type-silent a) (term-names b)

  sequent-names : (s : Sequent) → tells (sequent_found s) (flat_map free_places (terms_of s))
  sequent-names s = all term_found free_places term-names (terms_of s)

  variable-names : (v : Variable) → tells (Found.named v.0 ∷ type_found v.1) (v ∷ [])
  variable-names v = ap (λ b. is_binder_name q v.0 || b) (type-silent v.1)

  types-silent_put : (types : List (Name × HolType)) → tells (flat_map (λ p. type_found p.1) types) []
  types-silent_put [] = refl
  types-silent_put (p ∷ types) = two (type_found p.1) (flat_map (λ p. type_found p.1) types) [] [] (type-silent p.1) (types-silent_put types)

  constants-names : (pairs : List (Name × Variable)) → tells (flat_map (λ p. Found.named p.1.0 ∷ type_found p.1.1) pairs) (variables_of pairs)
  constants-names [] = refl
  constants-names (p ∷ pairs) = two (Found.named p.1.0 ∷ type_found p.1.1) (flat_map (λ p. Found.named p.1.0 ∷ type_found p.1.1) pairs) (p.1 ∷ [])
      (variables_of pairs) (variable-names p.1) (constants-names pairs)

  given-names : (g : Parameters) → tells (given_found g) (given_variables g)
  given-names Parameters.nothing = refl
  given-names (Parameters.term t) = term-names t
  given-names (Parameters.variable v) = variable-names v
  given-names (Parameters.substitution types terms) =
      two (flat_map (λ p. type_found p.1) types) (flat_map (λ p. Found.named p.0.0 ∷ type_found p.0.1 ++ term_found p.1) terms) []
      (flat_map (λ p. p.0 ∷ free_places p.1) terms) (types-silent_put types)
      (all (λ p. Found.named p.0.0 ∷ type_found p.0.1 ++ term_found p.1) (λ p. p.0 ∷ free_places p.1)
      (λ p. two (Found.named p.0.0 ∷ type_found p.0.1) (term_found p.1) (p.0 ∷ []) (free_places p.1) (variable-names p.0) (term-names p.1)) terms)
  given-names (Parameters.sequent s) = sequent-names s
  given-names (Parameters.constant n t) = term-names t
  given-names (Parameters.constants pairs) = constants-names pairs
  given-names (Parameters.type_operator names version) = refl

  steps-silent : (ids : List ℕ) → tells (steps_found ids) []
  steps-silent [] = refl
  steps-silent (i ∷ ids) = steps-silent ids

  pub step-names : (x : Step) → is_found (step_found x) (Asked.number q) ≡ list_any (is_binder_name q) (map (λ v. v.0) (step_variables x))
  step-names x =
      two (steps_found x.premises) (given_found x.parameters ++ sequent_found x.sequent) [] (step_variables x) (steps-silent x.premises)
      (two (given_found x.parameters) (sequent_found x.sequent) (given_variables x.parameters) (flat_map free_places (terms_of x.sequent))
      (given-names x.parameters) (sequent-names x.sequent))
