-- What is shaped is typed: terms, declared types and proofs, wherever they stand. So the laws of typing follow from those of shapes.
use Rattle.std.proofs.Common.{◌≡◌, ℕ, Bool, true, false, List, [], ◌∷◌, Option, Some, None, inl, inr, ⊎_elim, refl, ap, ◌∙◌}
use Rattle.hol_spec.specs.Sequents.{Sequent, IsSequent}
use Rattle.lp_spec.specs.Trees.{Tree, SortType, SortKind, Var, App, Lam, Pi, lift}
use Rattle.lp_spec.specs.Modules.{Declaration, types, term_of, eq_of, proof_of}
use Rattle.lp_spec.specs.Conversion.{Conv, rule, same, back, forth}
use Rattle.lp_spec.specs.Conversion as step
use Rattle.lp_typing_laws.specs.ConversionLaws.{IsClosed, Conv-sym, Conv-trans, Conv-under, Steps-Conv}
use Rattle.lp_spec.specs.Typing.{Typed, is_type, of_variable, of_symbol, of_product, of_abstraction, of_application, of_conversion, IsContext, entry, nothing, IsSorted, IsBodyOf, IsTypedAfter}
use Rattle.lp_typing_laws.specs.TypingLaws.{weaken}
use Rattle.lp_typing_laws.specs.Soundness.{IsSound, IsSound-closed}
use Rattle.lp_typing_laws.specs.Regularity.{regular}
use Rattle.lp_typing_laws.specs.Telescopes.{under}
use Rattle.lp_typing_laws.specs.SignatureForms.{Typed-types, Typed-term_of, Typed-proof_of, Typed-apply, Typed-eq_of}
use Rattle.lp_spec.specs.Shaped.{IsConstant, type_variable, constant, at_type, IsSimple, IsTerm, of_entry, of_constant, of_function, of_binder, IsDeclared, of_types, of_terms, of_proofs, of_products, Near, IsProof, call, at_a_type, at_a_term, at_a_proof, at_a_definition, at_abstractions, called, hypothesis, under_binder, Unfolded, folded, arrow, near_same, near_head, near_arrows, near_application, near_product, Close, close_same, close_step, close_arrow, close_application, close_product, IsDefinition, defined, under_type, IsLast, last_call, last_defined, IsLaw, at_close_abstractions, law_last, at_close_equation, law_under, IsCallDefinition, by_type, by_term, call_under, IsBodyShaped, IsShaped}
use Rattle.lp_spec.specs.Shaped as shape
use Rattle.lp_check_laws.specs.Found.{arrow-parts, term-simple}
use Rattle.lp_spec.specs.declared.form.Form.{Form}
use Rattle.lp_spec.specs.declared.form.Form.TheVariants.{Symbol, Def, Thm}
use Rattle.lp_spec.specs.HeadSteps.{head_step}
use Rattle.lp_check_laws.specs.HeadStepLaws.{head_step-Steps}
use Rattle.translate_spec.specs.Scopes.{SymbolMap, domains_of}
use Rattle.translate_laws.specs.SequentScope.{SequentOver, Typed-abstraction}
use Rattle.translate_laws.specs.Bodies.{HasLemmas}
use Rattle.hol_spec.specs.Rules.{Rule, Parameters}
use Rattle.hol_spec.specs.declared.StepKind.{StepKind}
use Rattle.translate_spec.specs.Rows.{proof_tree, has_row}
use Rattle.translate_laws.specs.BodyTyping.{ArePremises, Defined, HasBody}
use Rattle.translate_laws.specs.ShapeLaws.{AreDeclared}
use Rattle.translate_laws.specs.ComputingRows.{Shown}
use Rattle.translate_laws.specs.ShapedSequents.{own_shape}
use Rattle.translate_laws.specs.RuleShapes.{step-shaped}
use Rattle.translate_laws.specs.PartRows.{ShownLaw}
use Rattle.lp_binding_laws.specs.Composition.{put-lift_at}

module _ (m : List Declaration) where
  pub constant-typed : {G : List Tree} {t A : Tree} → IsConstant m G t A → Typed m G t A
  constant-typed (type_variable e) = of_variable e refl
  constant-typed (shape.IsConstant.constant e s) = of_symbol e
  constant-typed (at_type f a e) = of_application (constant-typed f) (constant-typed a) e

  module _ (closed : IsClosed m) where
    pub term-typed : {G : List Tree} {t a : Tree} → IsTerm m G t a → Typed m G t (term_of a)
    term-typed (of_entry e q s) = of_variable e (ap term_of q)
    term-typed (of_constant h s) = constant-typed h
    term-typed (of_function {a = a} {b = b} f x) =
        let parts = arrow-parts m (term-simple m f) in
        Typed-apply m closed a b (constant-typed parts.0) (constant-typed parts.1) (term-typed f) (term-typed x)
    term-typed (of_binder {a = a} {b = b} ha hb h) = Typed-abstraction m closed a b (constant-typed ha) (constant-typed hb) (term-typed h)

    pub declared-typed : {G : List Tree} {A : Tree} → IsDeclared m G A → Typed m G A SortType
    declared-typed of_types = Typed-types m
    declared-typed (of_terms h) = Typed-term_of m (constant-typed h)
    declared-typed (of_proofs h) = Typed-proof_of m (term-typed h)
    declared-typed (of_products a b) = of_product (declared-typed a) (declared-typed b) is_type

    equation-sorted : {G : List Tree} {a x y : Tree} → Typed m G a types → Typed m G x (term_of a) → Typed m G y (term_of a)
        → Typed m G (proof_of (eq_of a x y)) SortType
    equation-sorted ha hx hy = Typed-proof_of m (Typed-eq_of m closed ha hx hy)

    -- an equation of two abstractions at the variable is one of their bodies
    beta-sides : (A B t u : Tree) → Conv m (proof_of (eq_of B t u)) (proof_of (eq_of B (App (lift 1 (Lam A t)) (Var 0)) (App (lift 1 (Lam A u)) (Var 0))))
    beta-sides A B t u = back (step.Step.app_argument (step.Step.app_function (step.Step.app_argument (step.Step.beta (put-lift_at t)))))
        (back (step.Step.app_argument (step.Step.app_argument (step.Step.beta (put-lift_at u)))) same)

    -- a tree is convertible to those near it, and to those close to it
    unfolded-Conv : {a S : Tree} → Unfolded a S → Conv m (term_of a) S
    unfolded-Conv folded = same
    unfolded-Conv (arrow {a = a} h) = forth (rule refl) (Conv-under (Pi (term_of a)) (λ u v s. step.Step.pi_body s) (unfolded-Conv h))

    parts-Conv : {f g x y : Tree} → Conv m f g → Conv m x y → Conv m (App f x) (App g y)
    parts-Conv {g = g} {x = x} h k = Conv-trans (Conv-under (λ w. App w x) (λ u v s. step.Step.app_function s) h)
        (Conv-under (App g) (λ u v s. step.Step.app_argument s) k)

    product-Conv : {a b c d : Tree} → Conv m a c → Conv m b d → Conv m (Pi a b) (Pi c d)
    product-Conv {b = b} {c = c} h k = Conv-trans (Conv-under (λ w. Pi w b) (λ u v s. step.Step.pi_domain s) h)
        (Conv-under (Pi c) (λ u v s. step.Step.pi_body s) k)

    head-Conv : {E H : Tree} → head_step m E ≡ Some H → Conv m E H
    head-Conv {E = E} {H = H} e = Steps-Conv (head_step-Steps m E H e)

    pub near-Conv : {E F : Tree} → Near m E F → Conv m E F
    near-Conv near_same = same
    near-Conv (near_head e) = head-Conv e
    near-Conv (near_arrows h) = unfolded-Conv h
    near-Conv (near_application p q f x) = parts-Conv (near-Conv f) (near-Conv x)
    near-Conv (near_product a b) = product-Conv (near-Conv a) (near-Conv b)

    pub close-Conv : {n : ℕ} {E F : Tree} → Close m n E F → Conv m E F
    close-Conv close_same = same
    close-Conv (close_step e h) = Conv-trans (head-Conv e) (close-Conv h)
    close-Conv (close_arrow h k) = forth (rule refl) (Conv-trans (product-Conv (close-Conv h) (close-Conv k)) (back (rule refl) same))
    close-Conv (close_application p q f x) = parts-Conv (close-Conv f) (close-Conv x)
    close-Conv (close_product a b) = product-Conv (close-Conv a) (close-Conv b)

    -- a definition is typed, and its type has a sort
    pub definition-typed : {G : List Tree} {t A : Tree} → IsDefinition m G t A → Typed m G t A × Typed m G A SortType
    definition-typed (defined h) = (term-typed h, Typed-term_of m (constant-typed (term-simple m h)))
    definition-typed (under_type h) = let k = definition-typed h in let p = of_product (Typed-types m) k.1 is_type in (of_abstraction p is_type k.0, p)

  module _ (sound : IsSound m) where
    not_kind : {G : List Tree} {t A : Tree} → IsProof m false G t A → A ≡ SortKind → ⊥
    not_kind (called h) e = cc
    not_kind (hypothesis at lifted) e = let k = lifted ∙ e in cc
    not_kind (under_binder a h) e = cc

    -- What is a shaped proof is typed
    pub proof-typed : {b : Bool} {G : List Tree} {t A : Tree} → IsContext m G → IsProof m b G t A → Typed m G t A
    proof-typed c (call e s) = of_symbol e
    proof-typed c (at_a_type f a e) = of_application (proof-typed c f) (constant-typed a) e
    proof-typed c (at_a_term f x e) = of_application (proof-typed c f) (term-typed (IsSound-closed m sound) x) e
    proof-typed c (at_a_proof f h e) = of_application (proof-typed c f) (proof-typed c h) e
    proof-typed c (at_a_definition {a = a} {c = k} {t = t} f hc ht s h e) =
        let closed = IsSound-closed m sound in
        let simple = constant-typed (term-simple m ht) in
        let whole = equation-sorted closed simple (constant-typed hc) (term-typed closed ht) in
        let same_sides = Conv-under (λ w. proof_of (eq_of a w t)) (λ u v s. step.Step.app_argument (step.Step.app_function (step.Step.app_argument s)))
        (Conv-sym (Steps-Conv (head_step-Steps m k t s))) in
        of_application (proof-typed c f) (of_conversion (proof-typed c h) same_sides whole is_type) e
    proof-typed c (at_abstractions {a = a} {b = b} {t = t} {u = u} f ha hb ht hu h e) =
        let closed = IsSound-closed m sound in
        let A = constant-typed ha in
        let B = constant-typed hb in
        let D = Typed-term_of m A in
        let at = of_variable refl refl in
        let hT = Typed-abstraction m closed a b A B (term-typed closed ht) in
        let hU = Typed-abstraction m closed a b A B (term-typed closed hu) in
        let hP = equation-sorted closed (weaken m closed B)
        (Typed-apply m closed (lift 1 a) (lift 1 b) (weaken m closed A) (weaken m closed B) (weaken m closed hT) at)
        (Typed-apply m closed (lift 1 a) (lift 1 b) (weaken m closed A) (weaken m closed B) (weaken m closed hU) at) in
        let inner = of_conversion (proof-typed (entry c D) h) (beta-sides closed (term_of a) (lift 1 b) t u) hP is_type in
        of_application (proof-typed c f) (of_abstraction (of_product D hP is_type) is_type inner) e
    proof-typed c (called h) = proof-typed c h
    proof-typed c (hypothesis at lifted) = of_variable at lifted
    proof-typed c (under_binder a h) =
        let A = declared-typed (IsSound-closed m sound) a in
        let t = proof-typed (entry c A) h in
        ⊎_elim (λ k. absurd (not_kind h k)) (λ (s : IsSorted m _ _). of_abstraction (of_product A s.by s.is) s.is t) (regular m sound (entry c A) t)

    -- what is shown is typed
    pub shown-typed : {G : List Tree} {t p : Tree} → IsContext m G → IsDeclared m G (proof_of p) → Shown m G t p → Typed m G t (proof_of p)
    shown-typed c d h = of_conversion (proof-typed c h.proof) (Conv-sym (near-Conv (IsSound-closed m sound) h.near)) (declared-typed (IsSound-closed m sound) d)
        is_type

    -- the last call of a law, and laws
    last-typed : {G : List Tree} {h F : Tree} → IsContext m G → IsLast m G h F → Typed m G h F
    last-typed c (last_call h) = proof-typed c h
    last-typed c (last_defined f x d z y v s ss sp e) =
        let closed = IsSound-closed m sound in
        of_application (proof-typed c f)
        (of_conversion (term-typed closed x) (Conv-under term_of (λ u v s. step.Step.app_argument s) (head-Conv closed d))
        (Typed-term_of m (proof-typed c s)) is_type) e

    law-not_kind : {G : List Tree} {t A : Tree} → IsLaw m G t A → A ≡ SortKind → ⊥
    law-not_kind (at_close_abstractions f ha hb ht hu h c q) e = cc
    law-not_kind (law_last big h) e = cc
    law-not_kind (at_close_equation f hl hr ss sp h c q) e = cc
    law-not_kind (law_under a h) e = cc

    pub law-typed : {G : List Tree} {t A : Tree} → IsContext m G → IsLaw m G t A → Typed m G t A
    law-typed c (at_close_abstractions {a = a} {b = b} {t = t} {u = u} f ha hb ht hu h k e) =
        let closed = IsSound-closed m sound in
        let A = constant-typed ha in
        let B = constant-typed hb in
        let D = Typed-term_of m A in
        let at = of_variable refl refl in
        let hT = Typed-abstraction m closed a b A B (term-typed closed ht) in
        let hU = Typed-abstraction m closed a b A B (term-typed closed hu) in
        let hP = equation-sorted closed (weaken m closed B)
        (Typed-apply m closed (lift 1 a) (lift 1 b) (weaken m closed A) (weaken m closed B) (weaken m closed hT) at)
        (Typed-apply m closed (lift 1 a) (lift 1 b) (weaken m closed A) (weaken m closed B) (weaken m closed hU) at) in
        let inner = of_conversion (last-typed (entry c D) h) (Conv-sym (close-Conv closed k)) hP is_type in
        of_application (proof-typed c f) (of_abstraction (of_product D hP is_type) is_type inner) e
    law-typed c (law_last big h) = last-typed c h
    law-typed c (at_close_equation f hl hr ss sp h k e) =
        let closed = IsSound-closed m sound in
        of_application (proof-typed c f)
        (of_conversion (last-typed c h) (Conv-sym (close-Conv closed k))
        (equation-sorted closed (of_symbol refl) (term-typed closed hl) (term-typed closed hr)) is_type) e
    law-typed c (law_under a h) =
        let A = declared-typed (IsSound-closed m sound) a in
        let t = law-typed (entry c A) h in
        ⊎_elim (λ k. absurd (law-not_kind h k)) (λ (s : IsSorted m _ _). of_abstraction (of_product A s.by s.is) s.is t) (regular m sound (entry c A) t)

    shown_law-typed : {G : List Tree} {t p : Tree} → IsContext m G → IsDeclared m G (proof_of p) → ShownLaw m G t p → Typed m G t (proof_of p)
    shown_law-typed c d h = of_conversion (law-typed c h.law) (Conv-sym (close-Conv (IsSound-closed m sound) h.close))
        (declared-typed (IsSound-closed m sound) d) is_type

    call-typed : {G : List Tree} {t A : Tree} → IsContext m G → IsCallDefinition m G t A → IsDeclared m G A → Typed m G t A
    call-typed c (by_type h) k = proof-typed c h
    call-typed c (by_term h d) k = of_conversion (proof-typed c h) (Conv-sym (close-Conv (IsSound-closed m sound) d))
        (declared-typed (IsSound-closed m sound) k) is_type
    call-typed c (call_under h) (of_products k l) =
        of_abstraction (of_product (Typed-types m) (declared-typed (IsSound-closed m sound) l) is_type) is_type (call-typed (entry c (Typed-types m)) h l)

    -- What is shaped is typed, by no check
    shaped-body : (f : Form) (b : Option Tree) (A : Tree) → IsDeclared m [] A → IsBodyShaped m f b A → IsBodyOf m f b A
    shaped-body Symbol b A d h = h
    shaped-body Def None A d h = h
    shaped-body Def (Some t) A d (inl h) = (definition-typed (IsSound-closed m sound) h).0
    shaped-body Def (Some t) A d (inr h) = call-typed nothing h.0 d
    shaped-body Thm None A d h = h
    shaped-body Thm (Some t) A d (inl h) = of_conversion (proof-typed nothing h.proof) (Conv-sym (near-Conv (IsSound-closed m sound) h.near))
        (declared-typed (IsSound-closed m sound) d) is_type
    shaped-body Thm (Some t) A d (inr h) = of_conversion (law-typed nothing h.law) (Conv-sym (close-Conv (IsSound-closed m sound) h.close))
        (declared-typed (IsSound-closed m sound) d) is_type

    pub shaped-IsTypedAfter : (d : Declaration) → IsShaped m d → IsTypedAfter m d
    shaped-IsTypedAfter d h = record { ty = declared-typed (IsSound-closed m sound) h.ty; body = shaped-body d.form d.body d.ty h.ty h.body }

    pub declared-context : {G : List Tree} (domains : List Tree) → IsContext m G → AreDeclared m G domains → IsContext m (under G domains)
    declared-context [] c h = c
    declared-context (a ∷ domains) c h = declared-context domains (entry c (declared-typed (IsSound-closed m sound) h.0)) h.1

    -- Bodies typed, by the shapes
    pub body-typed : HasLemmas m → (symbols : SymbolMap) (kind : StepKind) (js : List ℕ) (premises : List Sequent) (given : Parameters) (s : Sequent)
        → Rule kind premises given s → has_row kind ≡ true → ArePremises m symbols js premises → Defined m symbols kind js premises given → IsSequent s
        → SequentOver m symbols s
        → HasBody m symbols (λ scope. proof_tree symbols scope kind js premises given) s
    body-typed lemmas symbols kind js premises given s r row p d is over =
        let closed = IsSound-closed m sound in
        let own = own_shape m closed symbols s is over in
        let context = declared-context (domains_of symbols s) nothing own.domains in
        ⊎_elim (shown-typed context own.conclusion) (shown_law-typed context own.conclusion)
        (step-shaped m closed lemmas symbols kind js premises given s r row p d is over)
