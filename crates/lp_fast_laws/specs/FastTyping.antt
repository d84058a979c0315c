-- What is found without rechecks is typed, over well-typed declarations: a step keeps the type, so the product that steps reach from a
-- function's type has its sort; and the domain of a function's type has the sort of types, so what is found of the argument turns into it.
use Rattle.std.proofs.Common.{◌≡◌, ⊎_elim, refl, subst, ℕ, suc, Bool, true, false, List, [], ◌∷◌, Option, Some, None}
use Rattle.std.specs.Prelude.{slice_get, if◌then◌else◌}
use Rattle.lp_spec.specs.declared.form.Form.{Form}
use Rattle.lp_spec.specs.declared.form.Form.TheVariants.{Symbol, Def, Thm}
use Rattle.lp_binding_laws.specs.LookUps.{option_map-some}
use Rattle.lp_spec.specs.Trees.{Tree, SortType, SortKind, Var, Sym, App, Lam, Pi, lift, put, tree_eq}
use Rattle.lp_binding_laws.specs.TreeEquality.{tree_eq-true}
use Rattle.lp_spec.specs.Modules.{Declaration, symbol_type}
use Rattle.lp_spec.specs.Conversion.{Steps, done, next, Conv}
use Rattle.lp_typing_laws.specs.ConversionLaws.{Conv-sym, Conv-equal, Steps-trans, Steps-Conv}
use Rattle.lp_spec.specs.Typing.{IsSort, is_type, is_kind, Typed, of_type, of_variable, of_symbol, of_product, of_abstraction, of_application, of_conversion, IsContext, entry, nothing, IsBodyOf, IsTypedAfter, WellTyped}
use Rattle.lp_typing_laws.specs.Inversion.{Typed-Pi}
use Rattle.lp_typing_laws.specs.Regularity.{regular, Pi-SortKind}
use Rattle.lp_typing_laws.specs.Soundness.{IsSound}
use Rattle.lp_typing_laws.specs.WellTypedLaws.{WellTyped-IsSound}
use Rattle.lp_reduction_laws.proofs.SubjectReduction.{kept}
use Rattle.lp_spec.specs.HeadSteps.{head_step}
use Rattle.lp_check_laws.specs.HeadStepLaws.{head_step-Steps}
use Rattle.lp_spec.specs.Check.{Question, Infer, Reach, Meet, Convert, Found, No, Plan, Say, Ask, if_type, if_sort, unless_kind, found_if, if_product, if_step, product_of, infer, reach, meet, plan, Ends, body_plan, declaration_plan}
use Rattle.lp_check_laws.specs.CheckLaws.{Backed, says, asks, backed, by_questions}
use Rattle.lp_check_laws.specs.CheckerLaw.{HasBody}
use Rattle.lp_check_laws.specs.ConvertLaws.{convert-Conv}

module _ (m : List Declaration) (well : WellTyped m) where
  sound : IsSound m
  sound = WellTyped-IsSound m well

  -- what a tree that was found says of the question
  abbrev pub Says : Question → Tree → Type 0
  Says (Infer G t) A = IsContext m G → Typed m G t A
  Says (Reach F) P = Steps m F P
  Says (Meet G E F) u = Conv m E F
  Says (Convert E F) u = Conv m E F

  abbrev By : Plan → Tree → Type 0
  By p t = Backed Says p t

  -- a no finds nothing
  no : {X : Type 0} {t : Tree} → By (Say No) t → X
  no h = elim h [ ]

  -- what each way to go on rests on

  of_if_type : (s : Tree) {rest : Plan} {t : Tree} → By (if_type s rest) t → (s ≡ SortType) × By rest t
  of_if_type SortType h = (refl, h)
  of_if_type _ h = no h

  of_if_sort : (s : Tree) {rest : Plan} {t : Tree} → By (if_sort s rest) t → IsSort s × By rest t
  of_if_sort SortType h = (is_type, h)
  of_if_sort SortKind h = (is_kind, h)
  of_if_sort _ h = no h

  of_unless_kind : (B : Tree) {rest : Plan} {t : Tree} → By (unless_kind B rest) t → (B ≡ SortKind → ⊥) × By rest t
  of_unless_kind SortKind h = no h
  of_unless_kind SortType h = (λ e. cc, h)
  of_unless_kind (Var n) h = (λ e. cc, h)
  of_unless_kind (Sym s) h = (λ e. cc, h)
  of_unless_kind (App f x) h = (λ e. cc, h)
  of_unless_kind (Lam a b) h = (λ e. cc, h)
  of_unless_kind (Pi a b) h = (λ e. cc, h)

  of_say : {t u : Tree} → By (Say (Found t)) u → t ≡ u
  of_say says = refl

  of_found_if : (o : Option Tree) {t : Tree} → By (found_if o) t → o ≡ Some t
  of_found_if None h = no h
  of_found_if (Some u) says = refl

  record OfProduct (F : Tree) (rest : Tree → Tree → Plan) (t : Tree) : Type 0 where
    domain : Tree
    body : Tree
    is : F ≡ Pi domain body
    on : By (rest domain body) t

  of_if_product : (F : Tree) {rest : Tree → Tree → Plan} {t : Tree} → By (if_product F rest) t → OfProduct F rest t
  of_if_product (Pi A B) h = record { domain = A; body = B; is = refl; on = h }
  of_if_product _ h = no h

  record OfStep (o : Option Tree) (rest : Tree → Plan) (t : Tree) : Type 0 where
    made : Tree
    is : o ≡ Some made
    on : By (rest made) t

  of_if_step : (o : Option Tree) {rest : Tree → Plan} {t : Tree} → By (if_step o rest) t → OfStep o rest t
  of_if_step (Some H) h = record { made = H; is = refl; on = h }
  of_if_step None h = no h

  -- a head step is a chain of steps
  step : (F H : Tree) → head_step m F ≡ Some H → Steps m F H
  step F H e = head_step-Steps m F H e

  of_reach : (F : Tree) {t : Tree} → By (if_step (head_step m F) (λ H. Ask (Reach H) (λ P. Say (Found P)))) t → Steps m F t
  of_reach F h = go (of_if_step (head_step m F) h)
    where
      go : {t : Tree} → OfStep (head_step m F) (λ H. Ask (Reach H) (λ P. Say (Found P))) t → Steps m F t
      go s = on s.on
        where
          on : {t : Tree} → By (Ask (Reach s.made) (λ P. Say (Found P))) t → Steps m F t
          on (asks h says) = Steps-trans (step F s.made s.is) h

  reach-Steps : (F : Tree) {t : Tree} → By (reach m F) t → Steps m F t
  reach-Steps (Pi A B) says = done
  reach-Steps SortType h = of_reach SortType h
  reach-Steps SortKind h = of_reach SortKind h
  reach-Steps (Var n) h = of_reach (Var n) h
  reach-Steps (Sym s) h = of_reach (Sym s) h
  reach-Steps (App f x) h = of_reach (App f x) h
  reach-Steps (Lam a b) h = of_reach (Lam a b) h

  -- steps keep the type
  Typed-Steps : {G : List Tree} {t u A : Tree} → IsContext m G → Steps m t u → Typed m G t A → Typed m G u A
  Typed-Steps c done h = h
  Typed-Steps {G = G} {A = A} c (next {t = t} {u = v} k r) h = Typed-Steps c r (kept m well G c t v A h k)

  -- a type from which steps reach another turns into it
  Typed-turned : {G : List Tree} {f F P : Tree} → IsContext m G → (F ≡ SortKind → ⊥) → Steps m F P → Typed m G f F → Typed m G f P
  Typed-turned c not k h = ⊎_elim (λ kind. absurd (not kind)) (λ s. of_conversion h (Steps-Conv k) (Typed-Steps c k s.by) s.is) (regular m sound c h)

  -- the domain of a function's type has the sort of types
  Typed-domain : {G : List Tree} {f A B : Tree} → IsContext m G → Typed m G f (Pi A B) → Typed m G A SortType
  Typed-domain c h = ⊎_elim (λ kind. absurd (Pi-SortKind kind)) (λ s. (Typed-Pi s.by).domain) (regular m sound c h)

  -- a type whose product was found turns into the product
  record Turned (G : List Tree) (F : Tree) (rest : Tree → Tree → Plan) (t : Tree) : Type 0 where
    domain : Tree
    body : Tree
    turn : IsContext m G → (f : Tree) → Typed m G f F → Typed m G f (Pi domain body)
    on : By (rest domain body) t

  of_product_step : (G : List Tree) (F : Tree) (not : F ≡ SortKind → ⊥) {rest : Tree → Tree → Plan} {t : Tree}
      → By (if_step (head_step m F) (λ H. Ask (Reach H) (λ P. if_product P rest))) t → Turned G F rest t
  of_product_step G F not {rest = rest} {t = t} h = go (of_if_step (head_step m F) h)
    where
      go : OfStep (head_step m F) (λ H. Ask (Reach H) (λ P. if_product P rest)) t → Turned G F rest t
      go s = on s.on
        where
          on : By (Ask (Reach s.made) (λ P. if_product P rest)) t → Turned G F rest t
          on (asks {t = P} k i) =
              let p = of_if_product P i in
              record {
                domain = p.domain;
                body = p.body;
                turn = λ g f hf. subst (Typed m G f) p.is (Typed-turned g not (Steps-trans (step F s.made s.is) k) hf);
                on = p.on;
              }

  of_product_of : (G : List Tree) (F : Tree) {rest : Tree → Tree → Plan} {t : Tree} → By (product_of m false G F rest) t → Turned G F rest t
  of_product_of G (Pi A B) h = record { domain = A; body = B; turn = λ g f hf. hf; on = h }
  of_product_of G SortType h = of_product_step G SortType (λ e. cc) h
  of_product_of G SortKind h = no h
  of_product_of G (Var n) h = of_product_step G (Var n) (λ e. cc) h
  of_product_of G (Sym s) h = of_product_step G (Sym s) (λ e. cc) h
  of_product_of G (App f x) h = of_product_step G (App f x) (λ e. cc) h
  of_product_of G (Lam a b) h = of_product_step G (Lam a b) (λ e. cc) h

  infer-application : (G : List Tree) (f x : Tree) {A : Tree} → By (infer m false G (App f x)) A → IsContext m G → Typed m G (App f x) A
  infer-application G f x (asks {t = F} hf k) c = go (of_product_of G F k)
    where
      go : {A : Tree} → Turned G F (λ A B. Ask (Infer G x) (λ X. Ask (Meet G A X) (λ _. Say (Found (put x B))))) A → Typed m G (App f x) A
      go p = on p.on
        where
          on : {C : Tree} → By (Ask (Infer G x) (λ X. Ask (Meet G p.domain X) (λ _. Say (Found (put x p.body))))) C → Typed m G (App f x) C
          on (asks hx (asks met says)) =
              let function = p.turn c f (hf c) in
              of_application function (of_conversion (hx c) (Conv-sym met) (Typed-domain c function) is_type) refl

  infer-abstraction : (G : List Tree) (A b : Tree) {T : Tree} → By (infer m false G (Lam A b)) T → IsContext m G → Typed m G (Lam A b) T
  infer-abstraction G A b (asks {t = s} hA k) c =
      let domain = of_if_type s k in
      on (subst (Typed m G A) domain.0 (hA c)) domain.1
    where
      on : {T : Tree} → Typed m G A SortType → By (Ask (Infer (A ∷ G) b) (λ B. unless_kind B (Say (Found (Pi A B))))) T → Typed m G (Lam A b) T
      on ha (asks {t = B} hb h) =
          let n = of_unless_kind B h in
          let d = entry c ha in
          let tb = hb d in
          subst (Typed m G (Lam A b)) (of_say n.1)
          (⊎_elim (λ kind. absurd (n.0 kind)) (λ w. of_abstraction (of_product ha w.by w.is) w.is tb) (regular m sound d tb))

  infer-product : (G : List Tree) (A B : Tree) {T : Tree} → By (infer m false G (Pi A B)) T → IsContext m G → Typed m G (Pi A B) T
  infer-product G A B (asks {t = s} hA k) c =
      let domain = of_if_type s k in
      on (subst (Typed m G A) domain.0 (hA c)) domain.1
    where
      on : {T : Tree} → Typed m G A SortType → By (Ask (Infer (A ∷ G) B) (λ o. if_sort o (Say (Found o)))) T → Typed m G (Pi A B) T
      on ha (asks {t = o} hB h) =
          let s = of_if_sort o h in
          subst (Typed m G (Pi A B)) (of_say s.1) (of_product ha (hB (entry c ha)) s.0)

  infer-Typed : (G : List Tree) (t : Tree) {A : Tree} → By (infer m false G t) A → IsContext m G → Typed m G t A
  infer-Typed G SortType says c = of_type
  infer-Typed G SortKind h c = no h
  infer-Typed G (Var n) h c = let at = option_map-some (lift (suc n)) (slice_get G n) _ (of_found_if _ h) in of_variable at.1 at.2
  infer-Typed G (Sym s) h c = of_symbol (of_found_if (symbol_type m s) h)
  infer-Typed G (App f x) h c = infer-application G f x h c
  infer-Typed G (Lam a b) h c = infer-abstraction G a b h c
  infer-Typed G (Pi a b) h c = infer-product G a b h c

  meet-Conv : (G : List Tree) (E F : Tree) {u : Tree} → By (meet false G E F) u → Conv m E F
  meet-Conv G E F h = go (tree_eq E F) refl h
    where
      go : (b : Bool) {u : Tree} → tree_eq E F ≡ b → By (if b then Say (Found E) else Ask (Convert E F) (λ _. Say (Found E))) u → Conv m E F
      go true e h = Conv-equal (tree_eq-true E F e)
      go false e (asks conv says) = conv

  -- what each question finds, it finds rightly, where the questions of its plan do
  each : (q : Question) (t : Tree) → By (plan m false q) t → Says q t
  each (Infer G t) A h = infer-Typed G t h
  each (Reach F) P h = reach-Steps F h
  each (Meet G E F) u h = meet-Conv G E F h
  each (Convert E F) u h = convert-Conv m Says (λ E F u c. c) E F h

  -- what is found is typed, over a well-typed module and in a context of types
  pub infer-fast : (G : List Tree) (t A : Tree) (n : ℕ) → IsContext m G → Ends m false (infer m false G t) (Found A) n → Typed m G t A
  infer-fast G t A n c h = by_questions m false Says each (Infer G t) A n h c

  -- a body that passes has the type
  body-fast : (f : Form) (body : Option Tree) {A u s : Tree} → HasBody f body → Typed m [] A s → IsSort s → By (body_plan A body) u → IsBodyOf m f body A
  body-fast Symbol body b hA s h = b
  body-fast Def None b hA s h = b
  body-fast Def (Some t) b hA s (asks ht (asks c says)) = of_conversion (ht nothing) (Conv-sym c) hA s
  body-fast Thm None b hA s h = b
  body-fast Thm (Some t) b hA s (asks ht (asks c says)) = of_conversion (ht nothing) (Conv-sym c) hA s

  -- a declaration that passes is typed
  pub check-fast : (d : Declaration) (u : Tree) (n : ℕ) → HasBody d.form d.body → Ends m false (declaration_plan d) (Found u) n → IsTypedAfter m d
  check-fast d u n b h = go (backed m false Says each u h refl)
    where
      go : By (declaration_plan d) u → IsTypedAfter m d
      go (asks {t = s} hA k) =
          let p = of_if_type s k in
          let hA' = subst (Typed m [] d.ty) p.0 (hA nothing) in
          record { ty = hA'; body = body-fast d.form d.body b hA' is_type p.1 }
