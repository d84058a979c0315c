-- What the index of pairs tells of a variable.
use Rattle.std.proofs.Common.{◌≡◌, ◌+◌, ◌-◌, ◌≤◌, refl, sym, ap, ◌∙◌, arith, List, [], ◌∷◌, ◌++◌, length, get_or, append_assoc, Bool, true, false, cond, Option, Some}
use Rattle.std.specs.Prelude.{nat_eq, take}
use Rattle.std.proofs.lemmas.List.{drop_more, drop_all, take-append-drop}
use Rattle.std.specs.Map.{lookup}
use Rattle.std.proofs.lemmas.Bool.{eqb-true, eq-eqb, and_parts, and_from, false≢true}
use Rattle.hol_spec.specs.NameEquality.{name_eq}
use Rattle.hol_laws.specs.NameEqualityLaws.{name_eq-Decides}
use Rattle.tree_map.specs.Entries.{insert_entry}
use Rattle.hol_term.specs.declared.TermId.{TermId}
use Rattle.hol_term.specs.declared.Variable.{Variable}
use Rattle.hol_term.specs.PutIndexes.{same_variable}

-- variables that are equal by their test are one
same_variable-one : (v w : Variable) → same_variable v w ≡ true → v ≡ w
same_variable-one v w h =
    let p = and_parts (name_eq v.name w.name) (nat_eq v.ty.0 w.ty.0) h in
    let name = (name_eq-Decides v.name w.name).0 p.0 in
    let ty = eqb-true v.ty.0 w.ty.0 p.1 in
    λ i. record { name = name i; ty = record { 0 = ty i } }

same_variable-refl : (v : Variable) → same_variable v v ≡ true
same_variable-refl v = and_from (name_eq v.name v.name) (nat_eq v.ty.0 v.ty.0) ((name_eq-Decides v.name v.name).1 refl) (eq-eqb v.ty.0 v.ty.0 refl)

-- two tests of which one alone may say yes, in either order
swapped : (a b : Bool) (x y : TermId) (o : Option TermId) → (a ≡ true → b ≡ true → x ≡ y) → cond a (Some x) (cond b (Some y) o)
    ≡ cond b (Some y) (cond a (Some x) o)
swapped true true x y o h = ap Some (h refl refl)
swapped true false x y o h = refl
swapped false true x y o h = refl
swapped false false x y o h = refl

twice : (a : Bool) (x y : TermId) (o : Option TermId) → cond a (Some x) o ≡ cond a (Some x) (cond a (Some y) o)
twice true x y o = refl
twice false x y o = refl

module _ (v k : Variable) (u : TermId) where
  -- after a pair is put in, its variable has its number, and the others have what they had
  lookup-insert_entry : (es : List (Variable × TermId)) → lookup (same_variable v) (insert_entry same_variable es k u) ≡ lookup (same_variable v) ((k, u) ∷ es)
  lookup-insert_entry [] = refl
  lookup-insert_entry (e ∷ es) = go (same_variable k e.0) refl (lookup-insert_entry es)
    where
      go : (b : Bool) → same_variable k e.0 ≡ b → lookup (same_variable v) (insert_entry same_variable es k u) ≡ lookup (same_variable v) ((k, u) ∷ es)
          → lookup (same_variable v) (cond b ((e.0, u) ∷ es) (e ∷ insert_entry same_variable es k u)) ≡ lookup (same_variable v) ((k, u) ∷ e ∷ es)
      go true is on =
          let one : k ≡ e.0 = same_variable-one k e.0 is in
          twice (same_variable v e.0) u e.1 (lookup (same_variable v) es)
          ∙ ap (λ w. cond (same_variable v w) (Some u) (cond (same_variable v e.0) (Some e.1) (lookup (same_variable v) es))) (sym one)
      go false is on =
          ap (λ o. cond (same_variable v e.0) (Some e.1) o) on
          ∙ swapped (same_variable v e.0) (same_variable v k) e.1 u (lookup (same_variable v) es) (λ a b.
          let one : k ≡ e.0 = sym (same_variable-one v k b) ∙ same_variable-one v e.0 a in
          absurd (false≢true (sym is ∙ ap (same_variable k) (sym one) ∙ same_variable-refl k)))

  -- so it is behind other pairs
  lookup-behind : (front es : List (Variable × TermId)) → lookup (same_variable v) (front ++ insert_entry same_variable es k u)
      ≡ lookup (same_variable v) (front ++ (k, u) ∷ es)
  lookup-behind [] es = lookup-insert_entry es
  lookup-behind (e ∷ front) es = ap (λ o. cond (same_variable v e.0) (Some e.1) o) (lookup-behind front es)

-- a list is its front and its last item
front-last : {X : Type 0} (xs : List X) (d : X) → 1 ≤ length xs → take (length xs - 1) xs ++ get_or xs (length xs - 1) d ∷ [] ≡ xs
front-last xs d h =
    ap (λ l. take (length xs - 1) xs ++ l)
    (sym (drop_more xs (length xs - 1) d (omega arith) ∙ ap (λ l. get_or xs (length xs - 1) d ∷ l) (drop_all (length xs - 1 + 1) xs (omega arith))))
    ∙ take-append-drop (length xs - 1) xs

-- the pairs but the last, and then those that were noted after the last, tell what all pairs tell
pub noted_goes_on : (v : Variable) (pairs rest firsts new : List (Variable × TermId)) (p : Variable × TermId) (k : Variable) → 1 ≤ length rest → p
    ≡ get_or rest (length rest - 1) p → k ≡ p.0 → new ≡ insert_entry same_variable firsts k p.1
    → lookup (same_variable v) (rest ++ firsts) ≡ lookup (same_variable v) pairs → lookup (same_variable v) (take (length rest - 1) rest ++ new)
    ≡ lookup (same_variable v) pairs
noted_goes_on v pairs rest firsts new p k some last is put h =
    let front = take (length rest - 1) rest in
    let test = lookup (same_variable v) in
    ap (λ l. test (front ++ l)) put
    ∙ lookup-behind v k p.1 front firsts
    ∙ ap (λ w. test (front ++ (w, p.1) ∷ firsts)) is
    ∙ sym (ap test (append_assoc front (p ∷ []) firsts))
    ∙ ap (λ q. test ((front ++ q ∷ []) ++ firsts)) last
    ∙ ap (λ l. test (l ++ firsts)) (front-last rest p some)
    ∙ h
