-- Whether a substitution makes one type or term of another, by numbers.
use Rattle.std.proofs.Common.{◌≡◌, ℕ, zero, suc, ◌<◌, arith, Bool, true, false, cond, refl, sym, ap, ◌∙◌, subst, inl, inr, List, [], ◌∷◌, length, Option, Some, None, unwrap_or}
use Rattle.std.specs.Prelude.{drop, nat_eq}
use Rattle.std.specs.Bool.{Decides}
use Rattle.std.specs.Cmp.{unsigned_Decides}
use Rattle.std.specs.Map.{lookup}
use Rattle.hol_spec.specs.Lists.{IsIn}
use Rattle.hol_spec.specs.Names.{Name}
use Rattle.hol_spec.specs.NameEquality.{name_eq}
use Rattle.hol_spec.specs.Types.{HolType, variable, types_of, type_eq, types_eq}
use Rattle.hol_laws.specs.TypeLaws.{type_eq-Decides}
use Rattle.hol_spec.specs.Substitution.{TypePairs, image, substitute_all}
use Rattle.hol_spec.specs.Terms.{Variable, variable_eq}
use Rattle.hol_type.specs.declared.table.TypeId.{TypeId}
use Rattle.hol_type.specs.Tables as type
use Rattle.hol_type.specs.TableLaws as type_laws
use Rattle.hol_term.specs.declared.TermId.{TermId}
use Rattle.hol_term.specs.declared.Variable.{Variable as AVariable}
use Rattle.hol_term.specs.Substitutions.{term_pairs_at, AreTermPairsKnown, IsPutFor}
use Rattle.hol_term.specs.Subterms.{HaveTypes}
use Rattle.hol_term.specs.Tables.{Trees, term_at, type_at}
use Rattle.translate_proof.specs.FormulaLaws.{alike}

-- in a table where no type has two numbers, the test of numbers is that of types
pub same-type : (types : List HolType) → type.IsDistinct types → (t u : TypeId) → t.0 < length types → u.0 < length types → nat_eq t.0 u.0
    ≡ type_eq (type.tree_at types t.0) (type.tree_at types u.0)
same-type types one t u k l =
    alike (nat_eq t.0 u.0) (type_eq (type.tree_at types t.0) (type.tree_at types u.0)) (unsigned_Decides t.0 u.0)
    (type_eq-Decides (type.tree_at types t.0) (type.tree_at types u.0)) (ap (type.tree_at types))
    (λ e. ap (λ (i : TypeId). i.0) (type_laws.tree_at-same one t u k l e))

-- what pairs put for a type variable, by number and as a type
pub lookup-pairs_at : (types : List HolType) (n : Name) (ps : List (Name × TypeId)) (id : TypeId) → lookup (name_eq n) ps ≡ Some id
    → lookup (name_eq n) (type.pairs_at types ps) ≡ Some (type.tree_at types id.0)
lookup-pairs_at types n [] id e = absurd (cc)
lookup-pairs_at types n (p ∷ ps) id e = go (name_eq n p.0) (λ f. lookup-pairs_at types n ps id f) e
  where
    go : (b : Bool) → (lookup (name_eq n) ps ≡ Some id → lookup (name_eq n) (type.pairs_at types ps) ≡ Some (type.tree_at types id.0))
        → cond b (Some p.1) (lookup (name_eq n) ps) ≡ Some id → cond b (Some (type.tree_at types p.1.0)) (lookup (name_eq n) (type.pairs_at types ps))
        ≡ Some (type.tree_at types id.0)
    go true on f = let same : p.1 ≡ id = cc in ap (λ (i : TypeId). Some (type.tree_at types i.0)) same
    go false on f = on f

pub absent-pairs_at : (types : List HolType) (n : Name) (ps : List (Name × TypeId)) → lookup (name_eq n) ps ≡ None → lookup (name_eq n) (type.pairs_at types ps)
    ≡ None
absent-pairs_at types n [] e = refl
absent-pairs_at types n (p ∷ ps) e = go (name_eq n p.0) (λ f. absent-pairs_at types n ps f) e
  where
    go : (b : Bool) → (lookup (name_eq n) ps ≡ None → lookup (name_eq n) (type.pairs_at types ps) ≡ None) → cond b (Some p.1) (lookup (name_eq n) ps) ≡ None
        → cond b (Some (type.tree_at types p.1.0)) (lookup (name_eq n) (type.pairs_at types ps)) ≡ None
    go true on f = absurd (cc)
    go false on f = on f

pub put-known : (types : List HolType) (n : Name) (ps : List (Name × TypeId)) (id : TypeId) → type.ArePairsKnown types ps → lookup (name_eq n) ps ≡ Some id
    → id.0 < length types
put-known types n [] id h e = absurd (cc)
put-known types n (p ∷ ps) id h e = go (name_eq n p.0) (λ f. put-known types n ps id h.1 f) e
  where
    go : (b : Bool) → (lookup (name_eq n) ps ≡ Some id → id.0 < length types) → cond b (Some p.1) (lookup (name_eq n) ps) ≡ Some id → id.0 < length types
    go true on f = let same : p.1 ≡ id = cc in subst (λ (i : TypeId). i.0 < length types) same h.0
    go false on f = on f

-- so a type variable becomes what is put for it, or stays
pub image-found : (types : List HolType) (n : Name) (ps : List (Name × TypeId)) (id : TypeId) → lookup (name_eq n) ps ≡ Some id
    → image (type.pairs_at types ps) n ≡ type.tree_at types id.0
image-found types n ps id e = ap (λ o. unwrap_or o (variable n)) (lookup-pairs_at types n ps id e)

pub image-absent : (types : List HolType) (n : Name) (ps : List (Name × TypeId)) → lookup (name_eq n) ps ≡ None → image (type.pairs_at types ps) n ≡ variable n
image-absent types n ps e = ap (λ o. unwrap_or o (variable n)) (absent-pairs_at types n ps e)

-- pairs without the first, where it isn't of the name or the variable
pub lookup-other : {K V : Type 0} (same : K → Bool) (p : K × V) (rest ps : List (K × V)) (whole : Option V) → ps ≡ p ∷ rest → same p.0 ≡ false → lookup same ps
    ≡ whole → lookup same rest ≡ whole
lookup-other same p rest ps whole is f e = sym (ap (λ b. cond b (Some p.1) (lookup same rest)) f) ∙ sym (ap (lookup same) is) ∙ e

pub lookup-first : {K V : Type 0} (same : K → Bool) (p : K × V) (rest ps : List (K × V)) (whole : Option V) → ps ≡ p ∷ rest → same p.0 ≡ true → lookup same ps
    ≡ whole → Some p.1 ≡ whole
lookup-first same p rest ps whole is f e = sym (ap (λ b. cond b (Some p.1) (lookup same rest)) f) ∙ sym (ap (lookup same) is) ∙ e

-- where pairs of terms are gone over
pub record IsLeft (trees : Trees) (v : Variable) (all left : List (AVariable × TermId)) : Type 0 where
  pub known : AreTermPairsKnown trees left
  pub puts : lookup (variable_eq v) (term_pairs_at trees left) ≡ lookup (variable_eq v) (term_pairs_at trees all)

pub left-other : (trees : Trees) (v : Variable) (all left rest : List (AVariable × TermId)) (p : AVariable × TermId) → left ≡ p ∷ rest → false
    ≡ variable_eq v (p.0.name, type_at trees p.0.ty.0) → IsLeft trees v all left → IsLeft trees v all rest
left-other trees v all left rest p is f h =
    let known = subst (AreTermPairsKnown trees) is h.known in
    record {
      known = known.1.1;
      puts = lookup-other (variable_eq v) ((p.0.name, type_at trees p.0.ty.0), term_at trees p.1.0) (term_pairs_at trees rest) (term_pairs_at trees left)
          (lookup (variable_eq v) (term_pairs_at trees all)) (ap (term_pairs_at trees) is) (sym f) h.puts;
    }

pub left-first : (trees : Trees) (v : Variable) (all left rest : List (AVariable × TermId)) (p : AVariable × TermId) → left ≡ p ∷ rest → true
    ≡ variable_eq v (p.0.name, type_at trees p.0.ty.0) → IsLeft trees v all left → IsPutFor trees all v (Some p.1)
left-first trees v all left rest p is f h = (
  (subst (AreTermPairsKnown trees) is h.known).1.0,
  sym (lookup-first (variable_eq v) ((p.0.name, type_at trees p.0.ty.0), term_at trees p.1.0) (term_pairs_at trees rest) (term_pairs_at trees left)
      (lookup (variable_eq v) (term_pairs_at trees all)) (ap (term_pairs_at trees) is) (sym f) h.puts),
)

pub left-none : (trees : Trees) (v : Variable) (all left : List (AVariable × TermId)) → left ≡ [] → IsLeft trees v all left → IsPutFor trees all v None
left-none trees v all left is h = sym (ap (λ l. lookup (variable_eq v) (term_pairs_at trees l)) (sym is) ∙ h.puts)

-- what is in a list and isn't its first is in the rest
pub in-rest : {A : Type 0} (same : A → A → Bool) → ((x y : A) → Decides (same x y) (x ≡ y)) → (x y : A) (left rest : List A) → left ≡ y ∷ rest → false
    ≡ same x y → IsIn left x → IsIn rest x
in-rest same decides x y left rest is f i = go (subst (λ l. IsIn l x) is i)
  where
    go : IsIn (y ∷ rest) x → IsIn rest x
    go (inl e) = absurd (let both : false ≡ true = f ∙ (decides x y).1 e in cc)
    go (inr k) = k

pub variables-drop : (trees : Trees) (i : ℕ) (vs : List AVariable) → HaveTypes trees vs → HaveTypes trees (drop i vs)
variables-drop trees zero vs h = h
variables-drop trees (suc i) [] h = tt
variables-drop trees (suc i) (v ∷ vs) h = variables-drop trees i vs h.1

-- the types of no numbers
pub no-types : (types : List HolType) (ps : TypePairs) (general ids : List TypeId) → length general < 1 → nat_eq (length ids) 0
    ≡ types_eq (substitute_all ps (types_of (type.types_at types general))) (types_of (type.types_at types ids))
no-types types ps [] [] l = refl
no-types types ps [] (id ∷ ids) l = let e : nat_eq (length (id ∷ ids)) 0 ≡ false = grind arith in e
no-types types ps (g ∷ gs) ids l = absurd (omega (arith, l))
