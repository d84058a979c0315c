-- What is found is typed, and a module whose declarations pass is well typed.
use Rattle.std.proofs.Common.{◌≡◌, ⊎_elim, refl, sym, ap, ◌∙◌, subst, ℕ, suc, arith, Bool, true, false, List, [], ◌∷◌, ◌++◌, ◌+◌, length, append_assoc, Option, Some, None}
use Rattle.std.proofs.lemmas.List.{length-append}
use Rattle.std.proofs.Math.Seq.{take-append_seam}
use Rattle.std.specs.Prelude.{slice_get, take, if◌then◌else◌}
use Rattle.std.proofs.Math.Path.{subst₂}
use Rattle.std.proofs.lemmas.Option.{same_Some}
use Rattle.lp_spec.specs.declared.form.Form.{Form}
use Rattle.lp_spec.specs.declared.form.Form.TheVariants.{Symbol, Def, Thm}
use Rattle.lp_binding_laws.specs.LookUps.{option_map-some, slice_get-seam}
use Rattle.lp_spec.specs.Trees.{Tree, SortType, SortKind, Var, Sym, App, Lam, Pi, lift, put, tree_eq}
use Rattle.lp_binding_laws.specs.TreeEquality.{tree_eq-true}
use Rattle.lp_spec.specs.Modules.{Declaration, signature, symbol_type}
use Rattle.lp_spec.specs.Conversion.{Conv, same}
use Rattle.lp_typing_laws.specs.ConversionLaws.{Conv-trans, Conv-sym}
use Rattle.lp_spec.specs.Typing.{IsSort, is_type, is_kind, Typed, of_type, of_variable, of_symbol, of_product, of_abstraction, of_application, of_conversion, IsContext, entry, nothing, IsBodyOf, IsTypedAfter, AreTypedAfter, WellTyped}
use Rattle.lp_typing_laws.specs.Soundness.{IsSound, IsSound-after}
use Rattle.lp_typing_laws.specs.SignatureLaws.{signature_sound}
use Rattle.lp_spec.specs.ModuleOrder.{IsBodyOver, AreDeclared, IsModule}
use Rattle.lp_typing_laws.specs.Regularity.{regular}
use Rattle.lp_spec.specs.HeadSteps.{head_step}
use Rattle.lp_spec.specs.Check.{Question, Infer, Reach, Meet, Convert, Found, No, Plan, Say, Ask, if_type, if_sort, unless_kind, found_if, recheck, if_product, if_step, product_of, infer, reach, meet, plan, Ends, body_plan, declaration_plan, Check}
use Rattle.lp_check_laws.specs.CheckLaws.{Backed, says, asks, backed, by_questions}
use Rattle.lp_check_laws.specs.ConvertLaws.{head_step-Conv, convert-Conv}

-- a symbol has no body, and every other declaration has one
abbrev pub HasBody : Form → Option Tree → Type 0
HasBody Symbol body = body ≡ None
HasBody Def None = ⊥
HasBody Def (Some t) = Unit {0}
HasBody Thm None = ⊥
HasBody Thm (Some t) = Unit {0}

module _ (m : List Declaration) (sound : IsSound m) where
  -- what a tree that was found says of the question
  abbrev pub Says : Question → Tree → Type 0
  Says (Infer G t) A = IsContext m G → Typed m G t A
  Says (Reach F) P = Conv m F P
  Says (Meet G E F) u = IsContext m G → (t : Tree) → Typed m G t F → Typed m G t E
  Says (Convert E F) u = Conv m E F

  abbrev By : Plan → Tree → Type 0
  By p t = Backed Says p t

  -- a no finds nothing
  no : {X : Type 0} {t : Tree} → By (Say No) t → X
  no h = elim h [ ]

  -- what each way to go on rests on

  of_if_type : (s : Tree) {rest : Plan} {t : Tree} → By (if_type s rest) t → (s ≡ SortType) × By rest t
  of_if_type SortType h = (refl, h)
  of_if_type _ h = no h

  of_if_sort : (s : Tree) {rest : Plan} {t : Tree} → By (if_sort s rest) t → IsSort s × By rest t
  of_if_sort SortType h = (is_type, h)
  of_if_sort SortKind h = (is_kind, h)
  of_if_sort _ h = no h

  of_unless_kind : (B : Tree) {rest : Plan} {t : Tree} → By (unless_kind B rest) t → (B ≡ SortKind → ⊥) × By rest t
  of_unless_kind SortKind h = no h
  of_unless_kind SortType h = (λ e. cc, h)
  of_unless_kind (Var n) h = (λ e. cc, h)
  of_unless_kind (Sym s) h = (λ e. cc, h)
  of_unless_kind (App f x) h = (λ e. cc, h)
  of_unless_kind (Lam a b) h = (λ e. cc, h)
  of_unless_kind (Pi a b) h = (λ e. cc, h)

  of_say : {t u : Tree} → By (Say (Found t)) u → t ≡ u
  of_say says = refl

  of_found_if : (o : Option Tree) {t : Tree} → By (found_if o) t → o ≡ Some t
  of_found_if None h = no h
  of_found_if (Some u) says = refl

  record OfProduct (F : Tree) (rest : Tree → Tree → Plan) (t : Tree) : Type 0 where
    domain : Tree
    body : Tree
    is : F ≡ Pi domain body
    on : By (rest domain body) t

  of_if_product : (F : Tree) {rest : Tree → Tree → Plan} {t : Tree} → By (if_product F rest) t → OfProduct F rest t
  of_if_product (Pi A B) h = record { domain = A; body = B; is = refl; on = h }
  of_if_product _ h = no h

  record OfStep (o : Option Tree) (rest : Tree → Plan) (t : Tree) : Type 0 where
    made : Tree
    is : o ≡ Some made
    on : By (rest made) t

  of_if_step : (o : Option Tree) {rest : Tree → Plan} {t : Tree} → By (if_step o rest) t → OfStep o rest t
  of_if_step (Some H) h = record { made = H; is = refl; on = h }
  of_if_step None h = no h

  of_reach : (F : Tree) {t : Tree} → By (if_step (head_step m F) (λ H. Ask (Reach H) (λ P. Say (Found P)))) t → Conv m F t
  of_reach F h = go (of_if_step (head_step m F) h)
    where
      go : {t : Tree} → OfStep (head_step m F) (λ H. Ask (Reach H) (λ P. Say (Found P))) t → Conv m F t
      go s = on s.on
        where
          on : {t : Tree} → By (Ask (Reach s.made) (λ P. Say (Found P))) t → Conv m F t
          on (asks h says) = Conv-trans (head_step-Conv m F s.made s.is) h

  reach-Conv : (F : Tree) {t : Tree} → By (reach m F) t → Conv m F t
  reach-Conv (Pi A B) says = same
  reach-Conv SortType h = of_reach SortType h
  reach-Conv SortKind h = of_reach SortKind h
  reach-Conv (Var n) h = of_reach (Var n) h
  reach-Conv (Sym s) h = of_reach (Sym s) h
  reach-Conv (App f x) h = of_reach (App f x) h
  reach-Conv (Lam a b) h = of_reach (Lam a b) h

  -- a type whose product was found turns into the product
  record Turned (G : List Tree) (F : Tree) (rest : Tree → Tree → Plan) (t : Tree) : Type 0 where
    domain : Tree
    body : Tree
    turn : IsContext m G → (f : Tree) → Typed m G f F → Typed m G f (Pi domain body)
    on : By (rest domain body) t

  of_product_step : (G : List Tree) (F : Tree) {rest : Tree → Tree → Plan} {t : Tree}
      → By (if_step (head_step m F) (λ H. Ask (Reach H) (λ P. recheck true G P (if_product P rest)))) t → Turned G F rest t
  of_product_step G F {rest = rest} {t = t} h = go (of_if_step (head_step m F) h)
    where
      go : OfStep (head_step m F) (λ H. Ask (Reach H) (λ P. recheck true G P (if_product P rest))) t → Turned G F rest t
      go s = on s.on
        where
          on : By (Ask (Reach s.made) (λ P. recheck true G P (if_product P rest))) t → Turned G F rest t
          on (asks {t = P} c (asks {t = o} i k)) =
              let sort = of_if_sort o k in
              let p = of_if_product P sort.1 in
              record {
                domain = p.domain;
                body = p.body;
                turn = λ g f hf. subst (Typed m G f) p.is (of_conversion hf (Conv-trans (head_step-Conv m F s.made s.is) c) (i g) sort.0);
                on = p.on;
              }

  of_product_of : (G : List Tree) (F : Tree) {rest : Tree → Tree → Plan} {t : Tree} → By (product_of m true G F rest) t → Turned G F rest t
  of_product_of G (Pi A B) h = record { domain = A; body = B; turn = λ g f hf. hf; on = h }
  of_product_of G SortType h = of_product_step G SortType h
  of_product_of G SortKind h = of_product_step G SortKind h
  of_product_of G (Var n) h = of_product_step G (Var n) h
  of_product_of G (Sym s) h = of_product_step G (Sym s) h
  of_product_of G (App f x) h = of_product_step G (App f x) h
  of_product_of G (Lam a b) h = of_product_step G (Lam a b) h

  infer-application : (G : List Tree) (f x : Tree) {A : Tree} → By (infer m true G (App f x)) A → IsContext m G → Typed m G (App f x) A
  infer-application G f x (asks {t = F} hf k) c = go (of_product_of G F k)
    where
      go : {A : Tree} → Turned G F (λ A B. Ask (Infer G x) (λ X. Ask (Meet G A X) (λ _. Say (Found (put x B))))) A → Typed m G (App f x) A
      go p = on p.on
        where
          on : {C : Tree} → By (Ask (Infer G x) (λ X. Ask (Meet G p.domain X) (λ _. Say (Found (put x p.body))))) C → Typed m G (App f x) C
          on (asks hx (asks met says)) = of_application (p.turn c f (hf c)) (met c x (hx c)) refl

  infer-abstraction : (G : List Tree) (A b : Tree) {T : Tree} → By (infer m true G (Lam A b)) T → IsContext m G → Typed m G (Lam A b) T
  infer-abstraction G A b (asks {t = s} hA k) c =
      let domain = of_if_type s k in
      on (subst (Typed m G A) domain.0 (hA c)) domain.1
    where
      on : {T : Tree} → Typed m G A SortType → By (Ask (Infer (A ∷ G) b) (λ B. unless_kind B (Say (Found (Pi A B))))) T → Typed m G (Lam A b) T
      on ha (asks {t = B} hb h) =
          let n = of_unless_kind B h in
          let d = entry c ha in
          let tb = hb d in
          subst (Typed m G (Lam A b)) (of_say n.1)
          (⊎_elim (λ kind. absurd (n.0 kind)) (λ w. of_abstraction (of_product ha w.by w.is) w.is tb) (regular m sound d tb))

  infer-product : (G : List Tree) (A B : Tree) {T : Tree} → By (infer m true G (Pi A B)) T → IsContext m G → Typed m G (Pi A B) T
  infer-product G A B (asks {t = s} hA k) c =
      let domain = of_if_type s k in
      on (subst (Typed m G A) domain.0 (hA c)) domain.1
    where
      on : {T : Tree} → Typed m G A SortType → By (Ask (Infer (A ∷ G) B) (λ o. if_sort o (Say (Found o)))) T → Typed m G (Pi A B) T
      on ha (asks {t = o} hB h) =
          let s = of_if_sort o h in
          subst (Typed m G (Pi A B)) (of_say s.1) (of_product ha (hB (entry c ha)) s.0)

  infer-Typed : (G : List Tree) (t : Tree) {A : Tree} → By (infer m true G t) A → IsContext m G → Typed m G t A
  infer-Typed G SortType says c = of_type
  infer-Typed G SortKind h c = no h
  infer-Typed G (Var n) h c = let at = option_map-some (lift (suc n)) (slice_get G n) _ (of_found_if _ h) in of_variable at.1 at.2
  infer-Typed G (Sym s) h c = of_symbol (of_found_if (symbol_type m s) h)
  infer-Typed G (App f x) h c = infer-application G f x h c
  infer-Typed G (Lam a b) h c = infer-abstraction G a b h c
  infer-Typed G (Pi a b) h c = infer-product G a b h c

  meet-Typed : (G : List Tree) (E F : Tree) {u : Tree} → By (meet true G E F) u → IsContext m G → (t : Tree) → Typed m G t F → Typed m G t E
  meet-Typed G E F h c t ht = go (tree_eq E F) refl h
    where
      go : (b : Bool) {u : Tree} → tree_eq E F ≡ b → By (if b then Say (Found E) else recheck true G E (Ask (Convert E F) (λ _. Say (Found E)))) u
          → Typed m G t E
      go true e h = subst (Typed m G t) (sym (tree_eq-true E F e)) ht
      go false e (asks {t = s} i k) = on (i c) (of_if_sort s k)
        where
          on : {s u : Tree} → Typed m G E s → IsSort s × By (Ask (Convert E F) (λ _. Say (Found E))) u → Typed m G t E
          on he (s, asks conv says) = of_conversion ht (Conv-sym conv) he s

  -- what each question finds, it finds rightly, where the questions of its plan do
  each : (q : Question) (t : Tree) → By (plan m true q) t → Says q t
  each (Infer G t) A h = infer-Typed G t h
  each (Reach F) P h = reach-Conv F h
  each (Meet G E F) u h = meet-Typed G E F h
  each (Convert E F) u h = convert-Conv m Says (λ E F u c. c) E F h

  -- what is found is typed, over a sound module and in a context of types
  pub infer-sound : (G : List Tree) (t A : Tree) (n : ℕ) → IsContext m G → Ends m true (infer m true G t) (Found A) n → Typed m G t A
  infer-sound G t A n c h = by_questions m true Says each (Infer G t) A n h c

  -- a body that passes has the type
  body-sound : (f : Form) (body : Option Tree) {A u s : Tree} → HasBody f body → Typed m [] A s → IsSort s → By (body_plan A body) u → IsBodyOf m f body A
  body-sound Symbol body b hA s h = b
  body-sound Def None b hA s h = b
  body-sound Def (Some t) b hA s (asks ht (asks c says)) = of_conversion (ht nothing) (Conv-sym c) hA s
  body-sound Thm None b hA s h = b
  body-sound Thm (Some t) b hA s (asks ht (asks c says)) = of_conversion (ht nothing) (Conv-sym c) hA s

  -- a declaration that passes is typed
  pub check-sound : (d : Declaration) (u : Tree) (n : ℕ) → HasBody d.form d.body → Ends m true (declaration_plan d) (Found u) n → IsTypedAfter m d
  check-sound d u n b h = go (backed m true Says each u h refl)
    where
      go : By (declaration_plan d) u → IsTypedAfter m d
      go (asks {t = s} hA k) =
          let p = of_if_type s k in
          let hA' = subst (Typed m [] d.ty) p.0 (hA nothing) in
          record { ty = hA'; body = body-sound d.form d.body b hA' is_type p.1 }

-- the declaration passes over these before it
record Passes (before : List Declaration) (d : Declaration) : Type 0 where
  pub found : Tree
  pub price : ℕ
  pub by : Ends before true (declaration_plan d) (Found found) price

-- each passes over these and those before it
abbrev ArePassed : List Declaration → List Declaration → Type 0
ArePassed before [] = Unit {0}
ArePassed before (d ∷ ds) = Passes before d × ArePassed (before ++ d ∷ []) ds

pub HasBody-IsBodyOver : (count : ℕ) (f : Form) (body : Option Tree) → IsBodyOver count f body → HasBody f body
HasBody-IsBodyOver count Symbol body h = h
HasBody-IsBodyOver count Def None h = h
HasBody-IsBodyOver count Def (Some t) h = tt
HasBody-IsBodyOver count Thm None h = h
HasBody-IsBodyOver count Thm (Some t) h = tt

passed : (before ds : List Declaration) → IsSound before → AreDeclared (signature ++ before) ds → ArePassed before ds → AreTypedAfter before ds
passed before [] sound a h = tt
passed before (d ∷ ds) sound a h =
    let t = check-sound before sound d h.0.found h.0.price (HasBody-IsBodyOver (length (signature ++ before)) d.form d.body a.0.body) h.0.by in
    (t, passed (before ++ d ∷ []) ds (IsSound-after before d sound t) (subst (λ l. AreDeclared l ds) (append_assoc signature before (d ∷ [])) a.1) h.1)

-- the declaration passes, at this number
pub record PassesAt (m : List Declaration) (i : ℕ) : Type 0 where
  pub found : Tree
  pub price : ℕ
  pub by : Check m i (Found found) price

each_passed : (before ds : List Declaration) → ((i : ℕ) (d : Declaration) → slice_get ds i ≡ Some d → PassesAt (before ++ ds) (length before + i))
    → ArePassed before ds
each_passed before [] h = tt
each_passed before (d ∷ ds) h = (first (h 0 d refl), each_passed (before ++ d ∷ []) ds (λ i e at. further i (h (suc i) e at)))
  where
    first : PassesAt (before ++ d ∷ ds) (length before + 0) → Passes before d
    first p =
        let count : length before + 0 ≡ length before = omega arith in
        let is : p.by.declaration ≡ d = same_Some _ _ (sym p.by.at ∙ ap (slice_get (before ++ d ∷ ds)) count ∙ slice_get-seam before ds d) in
        let front : take (length before + 0) (before ++ d ∷ ds) ≡ before = ap (λ n. take n (before ++ d ∷ ds)) count ∙ take-append_seam before (d ∷ ds) in
        record { found = p.found; price = p.price; by = subst₂ (λ l e. Ends l true (declaration_plan e) (Found p.found) p.price) front is p.by.ends }

    further : (i : ℕ) → PassesAt (before ++ d ∷ ds) (length before + suc i) → PassesAt ((before ++ d ∷ []) ++ ds) (length (before ++ d ∷ []) + i)
    further i h =
        let count : length before + suc i ≡ length (before ++ d ∷ []) + i = omega (arith, length-append before (d ∷ [])) in
        subst₂ PassesAt (sym (append_assoc before (d ∷ []) ds)) count h

-- The checker's law: a module whose declarations pass, each over those before it, is well typed.
unfoldable pub CheckerLaw : Type 0
CheckerLaw = (m : List Declaration) → IsModule m → ((i : ℕ) (d : Declaration) → slice_get m i ≡ Some d → PassesAt m i) → WellTyped m

pub checker_law : CheckerLaw
unfolding CheckerLaw
checker_law m a h = passed [] m signature_sound a (each_passed [] m (λ i d at. let none : i ≡ 0 + i = omega arith in subst (PassesAt m) none (h i d at)))
