-- How the tree of a generic type becomes that of an instance: what is wanted for each variable, and which variables stand in the tree.
use Rattle.std.proofs.Common.{◌≡◌, ◌⊎◌, ℕ, zero, suc, ◌+◌, ◌<◌, Bool, true, false, cond, inl, inr, ⊎_elim, refl, sym, ap, subst, ◌∙◌, arith, List, [], ◌∷◌, length, map}
use Rattle.std.specs.Prelude.{nat_eq}
use Rattle.std.specs.Bool.{Decides}
use Rattle.std.specs.List.{AllByRecursion, IsDistinct}
use Rattle.std.proofs.lemmas.Map.Keys.{IsDistinct-tail, IsDistinct-head}
use Rattle.hol_spec.specs.Names.{Name}
use Rattle.hol_spec.specs.NameEquality.{name_eq}
use Rattle.hol_laws.specs.NameEqualityLaws.{name_eq-Decides}
use Rattle.hol_spec.specs.Types.{HolType, HolTypes, variable, operator, none, more, count, variable_places, variable_places_of_all, type_variables}
use Rattle.hol_spec.specs.Lists.{IsIn}
use Rattle.hol_spec.specs.Primitives.{bool}
use Rattle.hol_spec.specs.Substitution.{image, Instance, type_arguments}
use Rattle.hol_laws.specs.Members.{IsIn-either, IsIn-distinct, IsIn-distinct_of, All-at, All-each}
use Rattle.hol_laws.specs.ListLaws.{distinct-IsDistinct}
use Rattle.hol_laws.specs.GenericInstances.{type_arguments-filled_in, substitute-is}
use Rattle.lp_spec.specs.Trees.{Tree, Var, Sym, App, lift}
use Rattle.lp_spec.specs.Substitution.{sub}
use Rattle.lp_spec.specs.Modules.{applied}
use Rattle.lp_binding_laws.specs.Composition.{lift_zero}
use Rattle.lp_binding_laws.specs.Binding.{lift-lift}
use Rattle.translate_spec.specs.Scopes.{SymbolMap, operator_symbol, TypeScope, type_tree, type_trees, under_type, under_types, unfilled}
use Rattle.translate_laws.specs.ScopeLaws.{through_types, type_tree-sub, type_tree-substitute}
use Rattle.translate_laws.specs.TermScopeLaws.{type_tree-agrees}
use Rattle.hol_proof_laws.specs.SymbolGrowth.{symmetric}
use Rattle.translate_term.specs.Patterns.{Mentions}
use Rattle.std.proofs.Math.Path.{ap₂}

-- what is wanted for the binder with a number, where these are the variables and this stands for each
abbrev pub wanted_for : List Name → (Name → HolType) → ℕ → HolType
wanted_for [] f k = bool
wanted_for (n ∷ ns) f k = cond (nat_eq k (length ns)) (f n) (wanted_for ns f k)

-- the numbers below one, the greatest first
abbrev pub below : ℕ → List ℕ
below zero = []
below (suc k) = k ∷ below k

equal-itself : (k : ℕ) → nat_eq k k ≡ true
equal-itself k = grind arith

less-differs : (j k : ℕ) → j < k → nat_eq j k ≡ false
less-differs j k h = grind (arith, h)

wanted-more : (ns : List Name) (n : Name) (f : Name → HolType) (j : ℕ) → j < length ns → wanted_for (n ∷ ns) f j ≡ wanted_for ns f j
wanted-more ns n f j h = ap (λ b. cond b (f n) (wanted_for ns f j)) (less-differs j (length ns) h)

-- what is wanted for each binder in turn is what stands for each variable
map-wanted : (ns ms : List Name) (f : Name → HolType) (g : ℕ → HolType) (k : ℕ) → ((j : ℕ) → j < k → g j ≡ wanted_for ns f j) → map g (below k)
    ≡ map (wanted_for ns f) (below k)
map-wanted ns ms f g zero h = refl
map-wanted ns ms f g (suc k) h = ap₂ (λ x l. x ∷ l) (h k (omega arith)) (map-wanted ns ms f g k (λ j l. h j (omega (arith, l))))

pub map-wanted_for : (ns : List Name) (f : Name → HolType) → map (wanted_for ns f) (below (length ns)) ≡ map f ns
map-wanted_for [] f = refl
map-wanted_for (n ∷ ns) f =
    ap₂ (λ x l. x ∷ l) (ap (λ b. cond b (f n) (wanted_for ns f (length ns))) (equal-itself (length ns)))
    (map-wanted ns ns f (wanted_for (n ∷ ns) f) (length ns) (λ j l. wanted-more ns n f j l) ∙ map-wanted_for ns f)

-- a variable that is none of these is as outside their binders
lift-suc : (k : ℕ) (t : Tree) → lift k (lift 1 t) ≡ lift (suc k) t
lift-suc k t = lift-lift k 1 t ∙ ap (λ j. lift j t) (let e : k + 1 ≡ suc k = omega arith in e)

apart-here : (n m : Name) (b : Bool) → name_eq n m ≡ b → Decides (name_eq n m) (n ≡ m) → (n ≡ m → ⊥) → b ≡ false
apart-here n m true e d never = absurd (never (d.0 e))
apart-here n m false e d never = refl

under-other : (ns : List Name) (scope : TypeScope) (n : Name) → (IsIn ns n → ⊥) → under_types ns scope n ≡ lift (length ns) (scope n)
under-other [] scope n never = sym (lift_zero (scope n))
under-other (m ∷ ns) scope n never =
    under-other ns (under_type m scope) n (λ i. never (inr i))
    ∙ ap (λ b. lift (length ns) (cond b (Var 0) (lift 1 (scope n)))) (apart-here n m (name_eq n m) refl (name_eq-Decides n m) (λ e. never (inl e)))
    ∙ lift-suc (length ns) (scope n)

lift-first : (k : ℕ) → lift k (Var 0) ≡ Var k
lift-first k = grind arith

-- the binder of a variable, and what is wanted for it
pub record HasBinder (ns : List Name) (f : Name → HolType) (scope : TypeScope) (n : Name) : Type 0 where
  pub number : ℕ
  pub within : number < length ns
  pub stands : under_types ns scope n ≡ Var number
  pub wanted : wanted_for ns f number ≡ f n

is-in : (ns : List Name) (n : Name) → IsIn ns n ⊎ (IsIn ns n → ⊥)
is-in [] n = inr (λ i. i)
is-in (m ∷ ns) n = go (name_eq n m) (name_eq-Decides n m) (is-in ns n)
  where
    go : (b : Bool) → Decides b (n ≡ m) → IsIn ns n ⊎ (IsIn ns n → ⊥) → IsIn (m ∷ ns) n ⊎ (IsIn (m ∷ ns) n → ⊥)
    go true d o = inl (inl (d.0 refl))
    go false d (inl i) = inl (inr i)
    go false d (inr never) = inr (⊎_elim (λ e. let yes = d.1 e in cc) never)

under-own : (ns : List Name) (m n : Name) (scope : TypeScope) → (IsIn ns n → ⊥) → n ≡ m → under_types ns (under_type m scope) n ≡ Var (length ns)
under-own ns m n scope never e =
    under-other ns (under_type m scope) n never ∙ ap (λ b. lift (length ns) (cond b (Var 0) (lift 1 (scope n)))) ((name_eq-Decides n m).1 e)
    ∙ lift-first (length ns)

pub binder-of : (ns : List Name) (f : Name → HolType) (scope : TypeScope) (n : Name) → IsIn ns n → HasBinder ns f scope n
binder-of [] f scope n i = absurd i
binder-of (m ∷ ns) f scope n i = ⊎_elim (λ k. later (binder-of ns f (under_type m scope) n k)) (λ never. ⊎_elim (λ e. own never e) (λ k. absurd (never k)) i)
    (is-in ns n)
  where
    later : HasBinder ns f (under_type m scope) n → HasBinder (m ∷ ns) f scope n
    later h = record { number = h.number; within = omega (arith, h.within); stands = h.stands; wanted = wanted-more ns m f h.number h.within ∙ h.wanted }

    own : (IsIn ns n → ⊥) → n ≡ m → HasBinder (m ∷ ns) f scope n
    own never e = record {
      number = length ns;
      within = omega arith;
      stands = under-own ns m n scope never e;
      wanted = ap (λ b. cond b (f m) (wanted_for ns f (length ns))) (equal-itself (length ns)) ∙ ap f (sym e);
    }

-- the variable of a binder
pub record HasVariable (ns : List Name) (scope : TypeScope) (k : ℕ) : Type 0 where
  pub name : Name
  pub among : IsIn ns name
  pub stands : under_types ns scope name ≡ Var k

none-same : (m n : Name) (ns : List Name) → AllByRecursion (λ y. name_eq m y ≡ false) ns → n ≡ m → IsIn ns n → ⊥
none-same m n ns h e i = let differs : name_eq m n ≡ false = All-at (λ y. name_eq m y ≡ false) ns n h i in let yes = (name_eq-Decides m n).1 (sym e) in cc

less-or-last : (j k : ℕ) → j < suc k → (j ≡ k) ⊎ (j < k)
less-or-last zero zero h = inl refl
less-or-last zero (suc k) h = inr (omega arith)
less-or-last (suc j) zero h = absurd (omega (arith, h))
less-or-last (suc j) (suc k) h = ⊎_elim (λ e. inl (ap suc e)) (λ l. inr (omega (arith, l))) (less-or-last j k (omega (arith, h)))

pub variable-of : (ns : List Name) (scope : TypeScope) (k : ℕ) → IsDistinct name_eq ns → k < length ns → HasVariable ns scope k
variable-of [] scope k d h = absurd (omega (arith, h))
variable-of (m ∷ ns) scope k d h = ⊎_elim own (λ l. later (variable-of ns (under_type m scope) k (IsDistinct-tail name_eq m ns d) l))
    (less-or-last k (length ns) h)
  where
    own : k ≡ length ns → HasVariable (m ∷ ns) scope k
    own e = record {
      name = m;
      among = inl refl;
      stands =
          under-own ns m m scope (none-same m m ns (IsDistinct-head name_eq m ns d) refl) refl ∙ ap Var (sym e);
    }

    later : HasVariable ns (under_type m scope) k → HasVariable (m ∷ ns) scope k
    later v = record { name = v.name; among = inr v.among; stands = v.stands }

-- what stands in the head or an argument stands in the application
mentions-head : (k : ℕ) (h : Tree) (xs : List Tree) → Mentions k h → Mentions k (applied h xs)
mentions-head k h [] m = m
mentions-head k h (x ∷ xs) m = mentions-head k (App h x) xs (inl m)

abbrev MentionedIn : ℕ → List Tree → Type 0
MentionedIn k [] = ⊥
MentionedIn k (x ∷ xs) = Mentions k x ⊎ MentionedIn k xs

mentions-argument : (k : ℕ) (h : Tree) (xs : List Tree) → MentionedIn k xs → Mentions k (applied h xs)
mentions-argument k h [] m = absurd m
mentions-argument k h (x ∷ xs) (inl m) = mentions-head k (App h x) xs (inr m)
mentions-argument k h (x ∷ xs) (inr m) = mentions-argument k (App h x) xs m

module _ (symbols : SymbolMap) (scope : TypeScope) (n : Name) (k : ℕ) (stands : scope n ≡ Var k) where
  mutual
    pub type-mentions : (t : HolType) → IsIn (variable_places t) n → Mentions k (type_tree symbols scope t)
    type-mentions (variable m) (inl e) = subst (λ x. Mentions k x) (sym (ap scope (sym e) ∙ stands)) refl
    type-mentions (variable m) (inr i) = absurd i
    type-mentions (operator m ts) i = mentions-argument k (Sym (operator_symbol symbols m (count ts))) (type_trees symbols scope ts) (types-mention ts i)

    types-mention : (ts : HolTypes) → IsIn (variable_places_of_all ts) n → MentionedIn k (type_trees symbols scope ts)
    types-mention none i = absurd i
    types-mention (more t ts) i = ⊎_elim (λ l. inl (type-mentions t l)) (λ r. inr (types-mention ts r))
        (IsIn-either (variable_places t) (variable_places_of_all ts) n i)

-- a generic type's tree becomes that of an instance, and has every variable
module _ (symbols : SymbolMap) (generic t : HolType) (h : Instance generic t) where
  abbrev pub filling_of : Name → HolType
  filling_of = image h.0

  abbrev pub wants : ℕ → HolType
  wants = wanted_for (type_variables generic) filling_of

  abbrev pub pattern_of : Tree
  pattern_of = type_tree symbols (under_types (type_variables generic) unfilled) generic

  pub pattern-becomes : (scope : TypeScope) → type_tree symbols scope t ≡ sub (λ k. type_tree symbols scope (wants k)) pattern_of
  pattern-becomes scope =
      let want : ℕ → Tree = λ k. type_tree symbols scope (wants k) in
      let inner = under_types (type_variables generic) unfilled in
      ap (type_tree symbols scope) (sym h.1)
      ∙ type_tree-substitute symbols h.0 scope generic
      ∙ sym (type_tree-agrees symbols (IsIn (type_variables generic)) (through_types want inner) (λ n. type_tree symbols scope (filling_of n)) stands generic
      (All-each _ (variable_places generic) (λ n i. IsIn-distinct name_eq name_eq-Decides (variable_places generic) n i)))
      ∙ sym (type_tree-sub symbols want inner generic)
    where
      stands : (n : Name) → IsIn (type_variables generic) n → sub (λ k. type_tree symbols scope (wants k)) (under_types (type_variables generic) unfilled n)
          ≡ type_tree symbols scope (filling_of n)
      stands n i = let b = binder-of (type_variables generic) filling_of unfilled n i in ap (sub (λ k. type_tree symbols scope (wants k))) b.stands ∙ ap
          (type_tree symbols scope) b.wanted

  pub generic-mentions : (k : ℕ) → k < length (type_variables generic) → Mentions k pattern_of
  generic-mentions k l =
      let v = variable-of (type_variables generic) unfilled k (distinct-IsDistinct name_eq (symmetric name_eq name_eq-Decides) (variable_places generic)) l in
      type-mentions symbols (under_types (type_variables generic) unfilled) v.name k v.stands generic
      (IsIn-distinct_of name_eq name_eq-Decides (variable_places generic) v.name v.among)

  -- what is wanted for each binder in turn are the type arguments
  pub wants-arguments : map wants (below (length (type_variables generic))) ≡ type_arguments generic t
  wants-arguments =
      map-wanted_for (type_variables generic) filling_of
      ∙ sym (type_arguments-filled_in filling_of generic) ∙ ap (type_arguments generic) (sym (substitute-is h.0 generic) ∙ h.1)
