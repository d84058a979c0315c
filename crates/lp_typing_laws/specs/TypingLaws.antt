-- Typing: what renamings, substitutions and further declarations keep of it, and which variables a typed tree may have.
use Rattle.std.proofs.Common.{◌≡◌, ℕ, zero, suc, ◌≤◌, refl, sym, ap, ◌∙◌, subst, arith, List, [], ◌∷◌, ◌++◌, length, Some}
use Rattle.std.specs.Prelude.{slice_get}
use Rattle.std.proofs.lemmas.Option.{slice_get_within, same_Some}
use Rattle.std.proofs.Math.Path.{subst₂}
use Rattle.lp_spec.specs.Trees.{Tree, SortType, Var, lift, put, loose}
use Rattle.lp_spec.specs.Substitution.{up, ren, ups, sub, cons}
use Rattle.lp_binding_laws.specs.Composition.{ren_ren, sub_ren, ren_sub, sub_var, suc_lift, put_is}
use Rattle.lp_binding_laws.specs.Binding.{put-lift}
use Rattle.lp_binding_laws.specs.SubstitutionLaws.{ren_closed, sub_closed, ren-put, sub-put, lift_one, ren-lift, sub-lift}
use Rattle.lp_spec.specs.Modules.{Declaration}
use Rattle.lp_spec.specs.Conversion.{Conv}
use Rattle.lp_typing_laws.specs.ConversionLaws.{IsClosed, Conv-sym, Conv-ren, Conv-sub, symbol_type-append, Conv-append}
use Rattle.lp_spec.specs.Typing.{IsSort, is_type, is_kind, Typed, of_type, of_variable, of_symbol, of_product, of_abstraction, of_application, of_conversion, IsSorted}

-- what is typed has no variable past its context
pub loose-Typed : {m : List Declaration} {G : List Tree} {t A : Tree} → Typed m G t A → loose t ≤ length G
loose-Typed of_type = omega arith
loose-Typed (of_variable {G = G} {n = n} {A = A} at e) = let h = slice_get_within G n A at in omega (arith, h)
loose-Typed (of_symbol e) = omega arith
loose-Typed (of_product a b s) = let p = loose-Typed a in let q = loose-Typed b in omega (arith, p, q)
loose-Typed (of_abstraction p s b) = let q = loose-Typed p in let r = loose-Typed b in omega (arith, q, r)
loose-Typed (of_application f x e) = let p = loose-Typed f in let q = loose-Typed x in omega (arith, p, q)
loose-Typed (of_conversion t c b s) = loose-Typed t

-- what is typed in no context is closed
pub Typed-closed : {m : List Declaration} {t A : Tree} → Typed m [] t A → loose t ≡ 0
Typed-closed h = let k = loose-Typed h in omega (arith, k)

-- a sort is a sort after a renaming, and after a substitution
IsSort-ren : (r : ℕ → ℕ) {s : Tree} → IsSort s → IsSort (ren r s)
IsSort-ren r is_type = is_type
IsSort-ren r is_kind = is_kind

-- all renamings do the same to a sort
ren-IsSort : (r q : ℕ → ℕ) {s : Tree} → IsSort s → ren r s ≡ ren q s
ren-IsSort r q is_type = refl
ren-IsSort r q is_kind = refl

-- a sort is a sort after a substitution
IsSort-sub : (s : ℕ → Tree) {o : Tree} → IsSort o → IsSort (sub s o)
IsSort-sub s is_type = is_type
IsSort-sub s is_kind = is_kind

-- all substitutions do the same to a sort
sub-IsSort : (s u : ℕ → Tree) {o : Tree} → IsSort o → sub s o ≡ sub u o
sub-IsSort s u is_type = refl
sub-IsSort s u is_kind = refl

-- a sort has no variable
pub loose-IsSort : {s : Tree} → IsSort s → loose s ≡ 0
loose-IsSort is_type = refl
loose-IsSort is_kind = refl

-- the renaming takes each entry of the context G to an entry of D
pub record Moves (r : ℕ → ℕ) (G D : List Tree) : Type 0 where
  pub each : (n : ℕ) (A : Tree) → slice_get G n ≡ Some A → (B : Tree) × (slice_get D (r n) ≡ Some B) × (lift (suc (r n)) B ≡ ren r (lift (suc n) A))

-- under a binder it takes entries to entries
Moves-up : {r : ℕ → ℕ} {G D : List Tree} {A : Tree} → Moves r G D → Moves (up r) (A ∷ G) (ren r A ∷ D)
Moves-up {r = r} {G = G} {D = D} {A = A} m = record { each = go }
  where
    go : (n : ℕ) (B : Tree) → slice_get (A ∷ G) n ≡ Some B
        → (C : Tree) × (slice_get (ren r A ∷ D) (up r n) ≡ Some C) × (lift (suc (up r n)) C ≡ ren (up r) (lift (suc n) B))
    go zero B e = (ren r A, refl, sym (ren-lift r A) ∙ ap (λ o. ren (up r) (lift 1 o)) (same_Some _ _ e))
    go (suc n) B e =
        let h = m.each n B e in (
          h.0,
          h.1,
          sym (suc_lift (suc (r n)) h.0) ∙ ap (ren suc) h.2 ∙ ren_ren suc r (lift (suc n) B) ∙ sym (ren_ren (up r) suc (lift (suc n) B))
              ∙ ap (ren (up r)) (suc_lift (suc n) B),
        )

-- the substitution puts for each variable of the context G a tree of its type in D
pub record Puts (m : List Declaration) (s : ℕ → Tree) (G D : List Tree) : Type 0 where
  pub each : (n : ℕ) (A : Tree) → slice_get G n ≡ Some A → Typed m D (s n) (sub s (lift (suc n) A))

module _ (m : List Declaration) (closed : IsClosed m) where
  -- a renaming between contexts keeps typing
  pub Typed-ren : (r : ℕ → ℕ) {G D : List Tree} {t A : Tree} → Moves r G D → Typed m G t A → Typed m D (ren r t) (ren r A)
  Typed-ren r v of_type = of_type
  Typed-ren r v (of_variable {n = n} {A = A} at e) = let h = v.each n A at in of_variable h.1 (h.2 ∙ ap (ren r) e)
  Typed-ren r v (of_symbol {s = s} {A = A} e) = of_symbol (e ∙ ap Some (sym (ren_closed r A (closed.types s A e))))
  Typed-ren r {D = D} v (of_product a b s) = subst (Typed m D _) (ren-IsSort (up r) r s)
      (of_product (Typed-ren r v a) (Typed-ren (up r) (Moves-up v) b) (IsSort-ren (up r) s))
  Typed-ren r v (of_abstraction p s b) = of_abstraction (Typed-ren r v p) (IsSort-ren r s) (Typed-ren (up r) (Moves-up v) b)
  Typed-ren r v (of_application {x = x} {B = B} f a e) = of_application (Typed-ren r v f) (Typed-ren r v a) (sym (ren-put r x B) ∙ ap (ren r) e)
  Typed-ren r v (of_conversion t c b s) = of_conversion (Typed-ren r v t) (Conv-ren m closed r c) (Typed-ren r v b) (IsSort-ren r s)

  -- Weakening: what is typed is typed under a further entry.
  pub weaken : {G : List Tree} {t A B : Tree} → Typed m G t A → Typed m (B ∷ G) (lift 1 t) (lift 1 A)
  weaken {G = G} {t = t} {A = A} {B = B} h =
      let v : Moves suc G (B ∷ G) = record { each = λ n C e. (C, e, sym (suc_lift (suc n) C)) } in
      subst₂ (Typed m (B ∷ G)) (sym (lift_one t)) (sym (lift_one A)) (Typed-ren suc v h)

  -- what is typed in no context is typed in each
  pub Typed-anywhere : (G : List Tree) {t A : Tree} → loose A ≡ 0 → Typed m [] t A → Typed m G t A
  Typed-anywhere G {t = t} {A = A} c h =
      subst₂ (Typed m G) (ren_closed (λ n. n) t (Typed-closed h)) (ren_closed (λ n. n) A c)
      (Typed-ren (λ n. n) (record { each = λ n B e. absurd (let k = slice_get_within [] n B e in omega arith) }) h)

  -- a lifted type after a substitution, under a further entry
  up_sub : (s : ℕ → Tree) (n : ℕ) (B : Tree) → ren suc (sub s (lift (suc n) B)) ≡ sub (ups s) (lift (suc (suc n)) B)
  up_sub s n B = ren_sub suc s (lift (suc n) B) ∙ sym (sub_ren (ups s) suc (lift (suc n) B)) ∙ ap (sub (ups s)) (suc_lift (suc n) B)

  -- under a binder it puts trees of the right types
  Puts-ups : {s : ℕ → Tree} {G D : List Tree} {A : Tree} → Puts m s G D → Puts m (ups s) (A ∷ G) (sub s A ∷ D)
  Puts-ups {s = s} {G = G} {D = D} {A = A} p = record { each = go }
    where
      go : (n : ℕ) (B : Tree) → slice_get (A ∷ G) n ≡ Some B → Typed m (sub s A ∷ D) (ups s n) (sub (ups s) (lift (suc n) B))
      go zero B e = of_variable refl (sym (sub-lift s A) ∙ ap (λ o. sub (ups s) (lift 1 o)) (same_Some _ _ e))
      go (suc n) B e =
          let h = weaken {B = sub s A} (p.each n B e) in
          subst₂ (Typed m (sub s A ∷ D)) (lift_one (s n)) (lift_one (sub s (lift (suc n) B)) ∙ up_sub s n B) h

  -- a substitution between contexts keeps typing
  pub Typed-sub : (s : ℕ → Tree) {G D : List Tree} {t A : Tree} → Puts m s G D → Typed m G t A → Typed m D (sub s t) (sub s A)
  Typed-sub s p of_type = of_type
  Typed-sub s {D = D} p (of_variable {n = n} {A = A} at e) = subst (Typed m D (s n)) (ap (sub s) e) (p.each n A at)
  Typed-sub s p (of_symbol {s = k} {A = A} e) = of_symbol (e ∙ ap Some (sym (sub_closed s A (closed.types k A e))))
  Typed-sub s {D = D} p (of_product a b o) = subst (Typed m D _) (sub-IsSort (ups s) s o)
      (of_product (Typed-sub s p a) (Typed-sub (ups s) (Puts-ups p) b) (IsSort-sub (ups s) o))
  Typed-sub s p (of_abstraction q o b) = of_abstraction (Typed-sub s p q) (IsSort-sub s o) (Typed-sub (ups s) (Puts-ups p) b)
  Typed-sub s p (of_application {x = x} {B = B} f a e) = of_application (Typed-sub s p f) (Typed-sub s p a) (sym (sub-put s x B) ∙ ap (sub s) e)
  Typed-sub s p (of_conversion t c b o) = of_conversion (Typed-sub s p t) (Conv-sub m closed s c) (Typed-sub s p b) (IsSort-sub s o)

  -- Substitution: what is typed under an entry is typed with a tree of that type put for its variable.
  pub Typed-put : {G : List Tree} {x A t B : Tree} → Typed m G x A → Typed m (A ∷ G) t B → Typed m G (put x t) (put x B)
  Typed-put {G = G} {x = x} {A = A} {t = t} {B = B} hx ht =
      subst₂ (Typed m G) (sym (put_is x t)) (sym (put_is x B)) (Typed-sub (cons x Var) (record { each = go }) ht)
    where
      go : (n : ℕ) (C : Tree) → slice_get (A ∷ G) n ≡ Some C → Typed m G (cons x Var n) (sub (cons x Var) (lift (suc n) C))
      go zero C e = subst (Typed m G x) (sym (put-lift x A) ∙ put_is x (lift 1 A) ∙ ap (λ o. sub (cons x Var) (lift 1 o)) (same_Some _ _ e)) hx
      go (suc n) C e = of_variable e
          (sym (sub_var (lift (suc n) C)) ∙ sym (sub_ren (cons x Var) suc (lift (suc n) C)) ∙ ap (sub (cons x Var)) (suc_lift (suc n) C))

  -- what is typed under an entry is typed under one that is convertible to it
  pub Typed-entry : {G : List Tree} {a c t B : Tree} → Conv m a c → Typed m G a SortType → Typed m (a ∷ G) t B → Typed m (c ∷ G) t B
  Typed-entry {G = G} {a = a} {c = c} {t = t} {B = B} k ha h =
      subst₂ (Typed m (c ∷ G)) (sub_var t) (sub_var B) (Typed-sub Var (record { each = go }) h)
    where
      lifted : Conv m (lift 1 c) (lift 1 a)
      lifted = subst₂ (Conv m) (sym (lift_one c)) (sym (lift_one a)) (Conv-ren m closed suc (Conv-sym k))

      go : (n : ℕ) (C : Tree) → slice_get (a ∷ G) n ≡ Some C → Typed m (c ∷ G) (Var n) (sub Var (lift (suc n) C))
      go zero C e =
          subst (Typed m (c ∷ G) (Var 0)) (ap (lift 1) (same_Some _ _ e) ∙ sym (sub_var (lift 1 C)))
          (of_conversion (of_variable refl refl) lifted (weaken ha) is_type)
      go (suc n) C e = of_variable {n = suc n} e (sym (sub_var (lift (suc (suc n)) C)))

-- further declarations keep typing
pub Typed-append : (m more : List Declaration) {G : List Tree} {t A : Tree} → Typed m G t A → Typed (m ++ more) G t A
Typed-append m more of_type = of_type
Typed-append m more (of_variable at e) = of_variable at e
Typed-append m more (of_symbol {s = s} {A = A} e) = of_symbol (symbol_type-append m more s A e)
Typed-append m more (of_product a b s) = of_product (Typed-append m more a) (Typed-append m more b) s
Typed-append m more (of_abstraction p s b) = of_abstraction (Typed-append m more p) s (Typed-append m more b)
Typed-append m more (of_application f x e) = of_application (Typed-append m more f) (Typed-append m more x) e
Typed-append m more (of_conversion t c b s) = of_conversion (Typed-append m more t) (Conv-append m more c) (Typed-append m more b) s

-- further declarations keep sorts
pub IsSorted-append : (m more : List Declaration) {G : List Tree} {t : Tree} → IsSorted m G t → IsSorted (m ++ more) G t
IsSorted-append m more h = record { sort = h.sort; is = h.is; by = Typed-append m more h.by }
