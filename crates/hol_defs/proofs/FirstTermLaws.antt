-- The first term that is noted of a variable.
use Rattle.std.proofs.Common.{◌≡◌, refl, sym, ap, ◌∙◌, List, [], ◌∷◌, ◌++◌, map, Bool, true, false, nat_eq, cond, Option, None, Some}
use Rattle.std.specs.Prelude.{◌&&◌, is_some}
use Rattle.std.specs.Option.{option_or}
use Rattle.std.specs.Map.{lookup}
use Rattle.std.specs.Bool.{Decides}
use Rattle.std.proofs.lemmas.Bool.Decides.{Decides-eqb}
use Rattle.std.proofs.lemmas.List.{map-append}
use Rattle.std.proofs.lemmas.Bool.{and_parts}
use Rattle.hol_spec.specs.Names.{Name}
use Rattle.hol_spec.specs.NameEquality.{name_eq}
use Rattle.hol_laws.specs.NameEqualityLaws.{name_eq-Decides}
use Rattle.hol_term.specs.declared.TermId.{TermId}
use Rattle.hol_term.specs.declared.Variable.{Variable}
use Rattle.hol_defs.specs.declared.lists.Equation.{Equation}
use Rattle.hol_defs.specs.Lists.{same_variable, term_of, AreFound}

pub same_variable-Decides : (v w : Variable) → Decides (same_variable v w) (v ≡ w)
same_variable-Decides v w = (
  λ e. let h = and_parts (name_eq v.name w.name) (nat_eq v.ty.0 w.ty.0) e in
      let n = (name_eq-Decides v.name w.name).0 h.0 in
      let t = (Decides-eqb v.ty.0 w.ty.0).0 h.1 in
      λ i. record { name = n i; ty = record { 0 = t i } },
  λ e. let n = (name_eq-Decides v.name w.name).1 (ap (λ (x : Variable). x.name) e) in
      let t = (Decides-eqb v.ty.0 w.ty.0).1 (ap (λ (x : Variable). x.ty.0) e) in
      λ i. (n i && t i),
)

or-none : {A : Type 0} (o : Option A) → option_or o None ≡ o
or-none None = refl
or-none (Some x) = refl

module _ (w : Variable) (t : TermId) where
  -- one pair more
  lookup-more : (es : List (Variable × TermId)) (v : Variable) → lookup (same_variable v) (es ++ (w, t) ∷ [])
      ≡ option_or (lookup (same_variable v) es) (cond (same_variable v w) (Some t) None)
  lookup-more [] v = refl
  lookup-more (e ∷ es) v = go (same_variable v e.0) (lookup-more es v)
    where
      go : (b : Bool) → lookup (same_variable v) (es ++ (w, t) ∷ []) ≡ option_or (lookup (same_variable v) es) (cond (same_variable v w) (Some t) None)
          → cond b (Some e.1) (lookup (same_variable v) (es ++ (w, t) ∷ []))
          ≡ option_or (cond b (Some e.1) (lookup (same_variable v) es)) (cond (same_variable v w) (Some t) None)
      go true h = refl
      go false h = h

  -- it changes nothing where the variable has a term
  pub noted : (es : List (Variable × TermId)) → is_some (lookup (same_variable w) es) ≡ true → (v : Variable) → lookup (same_variable v) es
      ≡ lookup (same_variable v) (es ++ (w, t) ∷ [])
  noted es h v = go (same_variable v w) refl ∙ sym (lookup-more es v)
    where
      by_option : (o : Option TermId) → is_some o ≡ true → o ≡ option_or o (Some t)
      by_option None e = absurd (cc)
      by_option (Some x) e = refl

      go : (b : Bool) → same_variable v w ≡ b → lookup (same_variable v) es ≡ option_or (lookup (same_variable v) es) (cond b (Some t) None)
      go true e = let s : v ≡ w = (same_variable-Decides v w).0 e in by_option (lookup (same_variable v) es)
          (ap (λ u. is_some (lookup (same_variable u) es)) s ∙ h)
      go false e = sym (or-none (lookup (same_variable v) es))

-- where nothing is found, there is none
pub none-found : (o : Option TermId) → is_some o ≡ false → o ≡ None
none-found None e = refl
none-found (Some x) e = absurd (cc)

-- one equation more
pub noted-next : (old : List (Variable × TermId)) (es : List Equation) (e : Equation) → ((v : Variable) → lookup (same_variable v) old ≡ term_of es v)
    → (v : Variable) → lookup (same_variable v) (old ++ (e.variable, e.term) ∷ []) ≡ term_of (es ++ e ∷ []) v
noted-next old es e h v =
    lookup-more e.variable e.term old v ∙ ap (λ o. option_or o (cond (same_variable v e.variable) (Some e.term) None)) (h v)
    ∙ sym (ap (lookup (same_variable v)) (map-append (λ (x : Equation). (x.variable, x.term)) es (e ∷ []))
    ∙ lookup-more e.variable e.term (map (λ (x : Equation). (x.variable, x.term)) es) v)

-- one pair more that is defined
pub found-last : (ps : List (Name × Variable)) (es : List Equation) (ts : List TermId) (p : Name × Variable) (t : TermId) → AreFound ps es ts → term_of es p.1
    ≡ Some t → AreFound (ps ++ p ∷ []) es (ts ++ t ∷ [])
found-last [] es [] p t f e = (e, tt)
found-last (q ∷ ps) es (u ∷ ts) p t f e = (f.0, found-last ps es ts p t f.1 e)
found-last (q ∷ ps) es [] p t f e = absurd f
found-last [] es (u ∷ ts) p t f e = absurd f
